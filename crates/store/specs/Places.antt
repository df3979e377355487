-- The places of a shape, in order. Assumes nothing.
use Rattle.std.specs.Prelude.{◌≡◌, ℕ, ◌+◌, ◌-◌, ◌*◌, Some, List, length, map, drop, All, slice_get}
use Rattle.std.specs.List.{flat_map, range_with_len}
use Rattle.store.specs.declared.place.Place.{Place}
use Rattle.store.specs.declared.shape.Shape.{Shape}
use Rattle.store.specs.Shapes.{Inside}

-- the places of n buckets of S slots, from bucket b on: the slots of one bucket after those of the other
abbrev pub bucket_places : ℕ → ℕ → ℕ → List Place
bucket_places S b n = flat_map (λ b. map (λ s. record { bucket = b; slot = s }) (range_with_len 0 S)) (range_with_len b n)

-- all places
abbrev pub all_places : Shape → List Place
all_places shape = bucket_places shape.slots 0 shape.buckets

-- those from slot s of bucket b on
abbrev pub places_from : Shape → ℕ → ℕ → List Place
places_from shape b s = drop s (bucket_places shape.slots b (shape.buckets - b))

-- the list has the places of the shape and nothing else, each at its position
pub record Lists (shape : Shape) (places : List Place) : Type 0 where
  pub inside : All (λ p. Inside shape p.bucket p.slot) places
  pub count : length places ≡ shape.buckets * shape.slots
  pub each : (b s : ℕ) → Inside shape b s → slice_get places (b * shape.slots + s) ≡ Some (record { bucket = b; slot = s })
