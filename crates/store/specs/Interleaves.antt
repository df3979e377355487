-- Two stores as one, whose buckets take turns. Assumes nothing.
use Rattle.std.specs.Prelude.{ℕ, ◌*◌, ◌/◌, ◌%◌, min, Bool, if◌then◌else◌, ◌&&◌, ◌==◌, nat_le}
use Rattle.store.specs.declared.shape.Shape.{Shape}
use Rattle.store.specs.Grids.{Grid}

-- twice the buckets of the first, but none where the two differ in buckets or slots or have more than 32,768 buckets each
abbrev pub interleaved_shape : Shape → Shape → Shape
interleaved_shape f g = record {
  buckets = if (f.buckets == g.buckets && f.slots == g.slots) && nat_le f.buckets 32768 then 2 * f.buckets else 0;
  slots = f.slots;
  digest_bits = min f.digest_bits g.digest_bits;
}

-- even buckets stand in the first store, odd ones in the second
abbrev pub is_even : ℕ → Bool
is_even b = b % 2 == 0

abbrev pub half : Grid → Grid → ℕ → Grid
half f g b = if is_even b then f else g

-- bucket b is bucket b / 2 of its half
abbrev pub interleaved : Grid → Grid → Grid
interleaved f g = record { shape = interleaved_shape f.shape g.shape; at = λ b s. (half f g b).at (b / 2) s }
