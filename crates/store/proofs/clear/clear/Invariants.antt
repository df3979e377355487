use Rattle.std.proofs.Common.{◌≡◌, ℕ, ◌<◌, None}
use Rattle.store.specs.Shapes.{Inside}
use Rattle.store.proofs.clear.clear.Given as goal

-- the buckets before this one are empty
abbrev pub invariant-loop-bucket : goal.invariant-loop-bucket
invariant-loop-bucket g l =
    let grid = g.S.BucketStore.grid l.store in
    (grid.shape ≡ l.shape) × ((b s : ℕ) → Inside l.shape b s → b < l.bucket → grid.at b s ≡ None)

-- and so are the slots before this one
abbrev pub invariant-loop-slot : goal.invariant-loop-slot
invariant-loop-slot g l =
    let grid = g.S.BucketStore.grid l.store in
    (grid.shape ≡ l.shape)
    × ((b s : ℕ) → Inside l.shape b s → b < l.bucket → grid.at b s ≡ None)
    × ((b s : ℕ) → Inside l.shape b s → b ≡ l.bucket → s < l.slot → grid.at b s ≡ None)
