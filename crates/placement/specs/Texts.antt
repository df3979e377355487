-- How a line is answered in words. Assumes nothing.
use Rattle.std.specs.Prelude.{ℕ, List, ◌++◌, Ok, Err, Result, codes}
use Rattle.store.specs.declared.place.Place.{Place}
use Rattle.store.specs.Texts.{place_text, refusal_text}
use Rattle.placement.specs.declared.answer.LineFault.{LineFault}
use Rattle.placement.specs.declared.answer.LineFault.TheVariants.{Unreadable, NotPlaced}
use Rattle.placement.specs.declared.placer.PlaceFault.{PlaceFault}
use Rattle.placement.specs.declared.placer.PlaceFault.TheVariants.{LengthBeyondWidth, BitsAfterLength, UnknownTread, TreadBeyondLength, Refused}

abbrev pub fault_text : PlaceFault → List ℕ
fault_text LengthBeyondWidth = codes "the length is beyond the width of the address"
fault_text BitsAfterLength = codes "the address has bits after the length"
fault_text UnknownTread = codes "the list has no such tread"
fault_text TreadBeyondLength = codes "the tread is longer than the prefix"
fault_text (Refused e) = codes "refused by the store: " ++ refusal_text e

abbrev pub line_fault_text : LineFault → List ℕ
line_fault_text Unreadable = codes "cannot read this: a line is ADDRESS/LENGTH TREAD SLOT HOP, as 10.0.0.0/24 20 1 7"
line_fault_text (NotPlaced fault) = fault_text fault

abbrev pub answer_text : Result Place LineFault → List ℕ
answer_text (Ok place) = place_text place ++ codes ": written"
answer_text (Err fault) = line_fault_text fault
