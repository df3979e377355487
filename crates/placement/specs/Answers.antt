-- What a line is answered, and what it does to the store. Assumes nothing.
use Rattle.std.specs.Prelude.{◌≡◌, ℕ, List, Some, None, Ok, Err, Result}
use Rattle.family.specs.declared.ipv4.Ipv4Address.{Ipv4Address}
use Rattle.layout.specs.declared.layout.Layout.{Layout}
use Rattle.store.specs.Grids.{Grid, Unchanged}
use Rattle.store.specs.declared.place.Place.{Place}
use Rattle.placement.specs.Lines.{read_placing}
use Rattle.placement.specs.Placements.{numbered, Placed}
use Rattle.placement.specs.declared.answer.LineFault.{LineFault}
use Rattle.placement.specs.declared.answer.LineFault.TheVariants.{Unreadable, NotPlaced}
use Rattle.placement.specs.declared.placer.PlaceFault.{PlaceFault}
use Rattle.placement.specs.declared.placing.Placing.{Placing}

-- the line asks for a place of an IPv4 prefix, and that is the result
pub record Asked (layout : Layout) (line : List ℕ) (before : Grid) (result : Result Place PlaceFault) (after : Grid) : Type 0 where
  pub placing : Placing Ipv4Address
  pub reads : read_placing line ≡ Some placing
  pub placed : Placed 32 layout (numbered (λ a. a.0) placing) before result after

-- a line that can't be read changes nothing
abbrev pub Answered : Layout → List ℕ → Grid → Result Place LineFault → Grid → Type 0
Answered layout line before (Ok place) after = Asked layout line before (Ok place) after
Answered layout line before (Err Unreadable) after = (read_placing line ≡ None) × Unchanged before after
Answered layout line before (Err (NotPlaced fault)) after = Asked layout line before (Err fault) after
