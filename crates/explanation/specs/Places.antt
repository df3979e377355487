-- Where the prefix of a query would stand. Assumes nothing.
use Rattle.std.specs.Prelude.{◌≡◌, ℕ, suc, ◌-◌, ◌≤◌, List, length, slice_index, slice_index_or}
use Rattle.layout.specs.Admission.{colony, digest}
use Rattle.layout.specs.Layouts.{treads_of}
use Rattle.layout.specs.Prefixes.{Other}
use Rattle.layout.specs.Treads.{home_tread}
use Rattle.explanation.specs.declared.query.Query.{Query}
use Rattle.explanation.specs.declared.place.Place.{Place}

-- the bucket and the digest of the prefix under the tread l, and the prefix it is confused with there
pub record PlaceOf (q : Query) (l : ℕ) (place : Place) : Type 0 where
  pub tread : place.tread ≡ l
  pub bucket : place.bucket ≡ colony q.prefix.width.bits q.layout.generator q.prefix.address l
  pub digest_is : place.digest ≡ digest q.prefix.width.bits q.layout.generator q.prefix.address l
  pub confused : Other q.prefix q.layout.generator l place.confused

-- one place for each tread, from the home tread of the prefix's length down to the first
pub record PlacesOf (q : Query) (places : List Place) : Type 0 where
  pub home : ℕ
  pub home_is : slice_index (treads_of q.layout) home ≡ home_tread (treads_of q.layout) q.prefix.length
  pub count : length places ≡ suc home
  pub each : (k : ℕ) (none : Place) → k ≤ home → PlaceOf q (slice_index (treads_of q.layout) (home - k)) (slice_index_or places k none)
