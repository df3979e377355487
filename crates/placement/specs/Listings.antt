-- The occupied places of a store over words, in words. Assumes nothing.
use Rattle.std.specs.Prelude.{ℕ, ◌+◌, ◌*◌, ◌&&◌, List, [], ◌∷◌, ◌++◌, length, codes, decimal, Option, option_and_then, nat_lt, slice_index}
use Rattle.std.specs.Bool.{then_some}
use Rattle.std.specs.List.{flat_map, filter_map}
use Rattle.std.specs.Option.{option_map}
use Rattle.notation.specs.Hexadecimal.{hex}
use Rattle.memory.specs.Slices.{slice_shape}
use Rattle.memory.specs.Words.{word_content}
use Rattle.memory.specs.declared.slice_store.SliceStore.{SliceStore}
use Rattle.store.specs.Places.{all_places}
use Rattle.store.specs.Texts.{place_text}
use Rattle.store.specs.declared.place.Entry.{Entry}
use Rattle.store.specs.declared.place.Place.{Place}
use Rattle.store.specs.declared.shape.Shape.{Shape}
use Rattle.placement.specs.declared.listing.Occupied.{Occupied}

-- the shape of a store over words, which has no places where its buckets do not fill its memory exactly
abbrev pub shape_of : {g : _} → SliceStore ℕ g → Shape
shape_of store = slice_shape 28 (length store.elements.now) store.buckets store.slots

-- the word of slot s of bucket b, which is word b × slots + s, or that there is no such place
abbrev pub word_at : {g : _} → SliceStore ℕ g → Place → Option ℕ
word_at store p =
    then_some (nat_lt p.bucket (shape_of store).buckets && nat_lt p.slot (shape_of store).slots)
    (slice_index store.elements.now (p.bucket * store.slots + p.slot))

-- what stands there
abbrev pub occupied_at : {g : _} → SliceStore ℕ g → Place → Option Occupied
occupied_at store p =
    option_and_then (λ w. option_map (λ (e : Entry). record { place = p; word = w; entry = e }) (word_content w)) (word_at store p)

-- the place, its word, and what that holds
abbrev pub occupied_text : Occupied → List ℕ
occupied_text o =
    place_text o.place ++ (codes ": word 0x" ++ (hex o.word ++ (codes ": length " ++ (decimal o.entry.length
    ++ (codes ", tread " ++ (decimal o.entry.tread ++ (codes ", digest 0x" ++ (hex o.entry.digest
    ++ (codes ", hop " ++ decimal o.entry.hop)))))))))

-- a line of it
abbrev pub line_of : Occupied → List ℕ
line_of o = occupied_text o ++ (10 ∷ [])

-- a line for each of those places that is occupied
abbrev pub lines_of : {g : _} → SliceStore ℕ g → List Place → List ℕ
lines_of store places = flat_map line_of (filter_map (occupied_at store) places)

-- the lines of all places, in order of bucket and then slot
abbrev pub listing_of : {g : _} → SliceStore ℕ g → List ℕ
listing_of store = lines_of store (all_places (shape_of store))
