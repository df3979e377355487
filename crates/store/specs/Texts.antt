-- How places and refusals are written. Assumes nothing.
use Rattle.std.specs.Prelude.{ℕ, false, List, ◌++◌, codes, decimal}
use Rattle.std.specs.Fmt.{digits}
use Rattle.store.specs.declared.place.Place.{Place}
use Rattle.store.specs.declared.shape.WriteRefusal.{WriteRefusal}
use Rattle.store.specs.declared.shape.WriteRefusal.TheVariants.{NoPlace, DigestTooWide, LengthTooLong, TreadTooHigh, HopTooHigh}

-- the bucket in hexadecimal, in lower case, and the slot in decimal
abbrev pub place_text : Place → List ℕ
place_text p = codes "bucket 0x" ++ (digits 16 false p.bucket ++ (codes ", slot " ++ decimal p.slot))

abbrev pub no_place_text : List ℕ
no_place_text = codes "there is no such place"

abbrev pub refusal_text : WriteRefusal → List ℕ
refusal_text NoPlace = codes "it has no such place"
refusal_text DigestTooWide = codes "the digest is too wide"
refusal_text LengthTooLong = codes "the length is above 128"
refusal_text TreadTooHigh = codes "the tread number is above 39"
refusal_text HopTooHigh = codes "the hop number is above 4095"
