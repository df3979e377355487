-- The longest run so far, and the first of its length.
use Rattle.notation.proofs.ZeroRuns.{Longest}
use Rattle.notation.proofs.zero_run.longest_zero_run.Given as goal

abbrev pub invariant-loop-start : goal.invariant-loop-start
invariant-loop-start l = Longest l.groups l.start l.longest.start l.longest.end
