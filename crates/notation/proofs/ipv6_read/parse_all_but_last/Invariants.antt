-- What is left gives the answer, and it gets shorter.
use Rattle.std.proofs.Common.{◌≡◌, Bool, length}
use Rattle.notation.specs.Chain.{and_then}
use Rattle.notation.specs.Groups.{read_groups, total}
use Rattle.notation.proofs.ipv6_read.parse_all_but_last.Given as goal

abbrev pub invariant-loop-piece : goal.invariant-loop-piece
invariant-loop-piece l = (mixed : Bool) → and_then (read_groups mixed l.rest) (total l.groups) ≡ and_then (read_groups mixed l.text) (total (0, 0))

abbrev pub decreases-loop-piece : goal.decreases-loop-piece
decreases-loop-piece l = length l.rest
