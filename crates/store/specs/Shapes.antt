-- Shapes of stores and their places. Assumes nothing.
use Rattle.std.specs.Prelude.{ℕ, ◌<◌, ◌≤◌}
use Rattle.store.specs.declared.shape.Shape.{Shape}

-- no store has more
pub record Bounded (shape : Shape) : Type 0 where
  pub buckets : shape.buckets ≤ 65536
  pub slots : shape.slots ≤ 8

-- slot s of bucket b is a place of the store
pub record Inside (shape : Shape) (b s : ℕ) : Type 0 where
  pub bucket : b < shape.buckets
  pub slot : s < shape.slots
