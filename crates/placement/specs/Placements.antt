-- What it means to place a prefix by hand. Assumes nothing.
use Rattle.std.specs.Prelude.{◌≡◌, ℕ, ◌-◌, ◌%◌, ◌^◌, ◌<◌, ◌≤◌, List, length, Some, Ok, Err, Result, ◌≢◌, slice_index}
use Rattle.layout.specs.Addresses.{IsPrefix}
use Rattle.layout.specs.Admission.{colony, digest}
use Rattle.layout.specs.Layouts.{treads_of}
use Rattle.layout.specs.declared.layout.Layout.{Layout}
use Rattle.store.specs.Grids.{Grid, Unchanged, Changed}
use Rattle.store.specs.Writes.{Takes, Refused as WriteRefused}
use Rattle.store.specs.declared.place.Entry.{Entry}
use Rattle.store.specs.declared.place.Place.{Place}
use Rattle.placement.specs.declared.placer.PlaceFault.{PlaceFault}
use Rattle.placement.specs.declared.placer.PlaceFault.TheVariants.{LengthBeyondWidth, BitsAfterLength, UnknownTread, TreadBeyondLength, Refused}
use Rattle.placement.specs.declared.placing.Placing.{Placing}

-- with the address as a number
abbrev pub numbered : {F : Type 0} → (F → ℕ) → Placing F → Placing ℕ
numbered number p =
    record { address = number p.address; length = p.length; tread = p.tread; slot = p.slot; hop = p.hop }

-- the tread has number k: its position in the list, from 0
pub record HasNumber (treads : List ℕ) (tread k : ℕ) : Type 0 where
  pub within : k < length treads
  pub is : slice_index treads k ≡ tread

-- the list has no such tread
abbrev pub NoTread : List ℕ → ℕ → Type 0
NoTread treads tread = (k : ℕ) → ¬ HasNumber treads tread k

-- the bucket is the colony of the prefix under the tread: the remainder of its address rounded to the tread
abbrev pub place_of : ℕ → Layout → Placing ℕ → Place
place_of W layout p = record { bucket = colony W layout.generator p.address p.tread; slot = p.slot }

-- the entry under the tread, which has number k: the digest is what it keeps of the address beside the bucket
abbrev pub entry_of : ℕ → Layout → Placing ℕ → ℕ → Entry
entry_of W layout p k =
    record { digest = digest W layout.generator p.address p.tread; hop = p.hop; length = p.length; tread = k }

-- the questions but the store's are answered 'yes', and that entry is to stand at that place
pub record Proposed (W : ℕ) (layout : Layout) (p : Placing ℕ) (place : Place) (entry : Entry) : Type 0 where
  pub prefix : IsPrefix W p.address p.length
  pub number : ℕ
  pub tread : HasNumber (treads_of layout) p.tread number
  pub within : p.tread ≤ p.length
  pub place_is : place ≡ place_of W layout p
  pub entry_is : entry ≡ entry_of W layout p number

-- the first of them that is answered 'no'
abbrev pub Faulty : ℕ → Layout → Placing ℕ → PlaceFault → Type 0
Faulty W layout p LengthBeyondWidth = W < p.length
Faulty W layout p BitsAfterLength = (p.length ≤ W) × (p.address % 2 ^ (W - p.length) ≢ 0)
Faulty W layout p UnknownTread = IsPrefix W p.address p.length × NoTread (treads_of layout) p.tread
Faulty W layout p TreadBeyondLength =
    IsPrefix W p.address p.length × ((k : ℕ) × HasNumber (treads_of layout) p.tread k) × (p.length < p.tread)
Faulty W layout p (Refused e) = ⊥

abbrev pub Allows : ℕ → Layout → Placing ℕ → Result (Place × Entry) PlaceFault → Type 0
Allows W layout p (Ok (place, entry)) = Proposed W layout p place entry
Allows W layout p (Err fault) = Faulty W layout p fault

-- the store takes it, and nothing else has changed; or nothing has changed, and the first question that is answered
-- 'no' is told
abbrev pub Placed : ℕ → Layout → Placing ℕ → Grid → Result Place PlaceFault → Grid → Type 0
Placed W layout p before (Ok place) after =
    (entry : Entry) × Proposed W layout p place entry
    × Takes before.shape place.bucket place.slot (Some entry)
    × Changed before place.bucket place.slot (Some entry) after
Placed W layout p before (Err (Refused e)) after =
    (place : Place) × (entry : Entry) × Proposed W layout p place entry
    × WriteRefused before.shape place.bucket place.slot (Some entry) e × Unchanged before after
Placed W layout p before (Err LengthBeyondWidth) after = Faulty W layout p LengthBeyondWidth × Unchanged before after
Placed W layout p before (Err BitsAfterLength) after = Faulty W layout p BitsAfterLength × Unchanged before after
Placed W layout p before (Err UnknownTread) after = Faulty W layout p UnknownTread × Unchanged before after
Placed W layout p before (Err TreadBeyondLength) after = Faulty W layout p TreadBeyondLength × Unchanged before after
