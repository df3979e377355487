-- Every place was seen.
use Rattle.std.proofs.Common.{arith}
use Rattle.notation.proofs.ZeroRuns.{longest_is, cut_run}
use Rattle.notation.proofs.zero_run.longest_zero_run.Goals as goal

pub returns-clause-longest : goal.returns-clause-longest
returns-clause-longest c = longest_is _ _ _ _ (omega arith) c.loop-start.invariant

pub returns-clause-first : goal.returns-clause-first
returns-clause-first c = cut_run _ _ _ _ (omega arith) c.loop-start.invariant
