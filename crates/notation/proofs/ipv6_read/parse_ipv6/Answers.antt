-- The value is `read6`, which reads back what is written.
use Rattle.std.proofs.Common.{rules}
use Rattle.notation.proofs.RoundTrip.{reads_back}
use Rattle.notation.proofs.ipv6_read.parse_ipv6.Goals as goal

pub returns-in-Some-clause-round_trip : goal.returns-in-Some-clause-round_trip
returns-in-Some-clause-round_trip c = reads_back c.args.text.now c.parse_shortened.result (search rules)

pub returns-in-None-clause-round_trip : goal.returns-in-None-clause-round_trip
returns-in-None-clause-round_trip c = reads_back c.args.text.now c.parse_whole.result (search rules)
