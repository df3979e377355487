-- Stores over memory with one element at each place. Assumes nothing.
use Rattle.std.specs.Prelude.{◌≡◌, ℕ, ◌+◌, ◌*◌, ◌/◌, ◌%◌, Bool, if◌then◌else◌, ◌&&◌, List, length, Some, None, Ok, Err, Option, Result, ◌==◌, nat_le, slice_index_or, slice_set}
use Rattle.store.specs.declared.shape.Shape.{Shape}
use Rattle.store.specs.declared.shape.WriteRefusal.{WriteRefusal}
use Rattle.memory.specs.Encodings.{Encoding}
use Rattle.store.specs.Grids.{Grid}
use Rattle.store.specs.Shapes.{Inside}

-- n elements fill B buckets of S slots exactly, and a store may have so many
abbrev pub filled : ℕ → ℕ → ℕ → Bool
filled n B S = ((nat_le 1 S && nat_le S 8) && nat_le B 65536) && n == B * S

-- n elements fill some number of buckets of S slots so
abbrev pub fills : ℕ → ℕ → Bool
fills n S = (nat_le 1 S && nat_le S 8) && (n % S == 0 && nat_le (n / S) 65536)

abbrev pub slice_shape : ℕ → ℕ → ℕ → ℕ → Shape
slice_shape Z n B S = record { buckets = if filled n B S then B else 0; slots = if filled n B S then S else 0; digest_bits = Z }

-- slot s of bucket b is element b × S + s
abbrev pub slice_grid : {T : Type 0} → Encoding T → List T → ℕ → ℕ → Grid
slice_grid e xs B S = record { shape = slice_shape e.bits (length xs) B S; at = λ b s. e.decoded (slice_index_or xs (b * S + s) e.blank) }

-- a store made over memory of n elements
abbrev pub shape_over : ℕ → ℕ → ℕ → Shape
shape_over Z n S = record { buckets = if fills n S then n / S else 0; slots = if fills n S then S else 0; digest_bits = Z }

-- the grid is that of a store made over the memory
pub record Over {T : Type 0} (e : Encoding T) (memory : List T) (S : ℕ) (grid : Grid) : Type 0 where
  pub shape : grid.shape ≡ shape_over e.bits (length memory) S
  pub places : (b s : ℕ) → Inside grid.shape b s → grid.at b s ≡ e.decoded (slice_index_or memory (b * S + s) e.blank)

-- the element of slot s of bucket b, or that there is no such place
abbrev pub IsElement : {T : Type 0} → Encoding T → List T → ℕ → ℕ → ℕ → ℕ → Option T → Type 0
IsElement e xs B S b s None = Inside (slice_shape e.bits (length xs) B S) b s → ⊥
IsElement e xs B S b s (Some x) = Inside (slice_shape e.bits (length xs) B S) b s × (x ≡ slice_index_or xs (b * S + s) e.blank)

-- memory after a write of x to element i, which changes nothing where it is refused
abbrev pub written : {U T : Type 0} → List T → ℕ → T → Result U WriteRefusal → List T
written xs i x (Ok u) = slice_set xs i x
written xs i x (Err e) = xs
