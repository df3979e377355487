use native.Mathlib.Decide.{dec_lt}
use Rattle.std.proofs.Common.{arith}
use Rattle.store.proofs.clear.clear.Goals as goal

pub loop-bucket-preserved : goal.loop-bucket-preserved
loop-bucket-preserved g c =
    let inv = c.loop-slot.invariant in (
      inv.0,
      λ b s inside h. elim (dec_lt b c.loop-bucket.bucket) [
        | yes l ↦ inv.1 b s inside l
        | no m ↦ inv.2 b s inside (omega arith) (omega arith)
      ],
    )
