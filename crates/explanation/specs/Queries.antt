-- What a line of `explain` means. Assumes nothing.
use Rattle.std.specs.Prelude.{◌≡◌, ◌≢◌, ℕ, ◌-◌, ◌%◌, ◌^◌, ◌<◌, ◌≤◌, List, [], ◌∷◌, Some, Ok, Err, Result}
use Rattle.notation.specs.Cut.{cut}
use Rattle.layout.specs.Named.{row_of, NoName, HasName, IsRow}
use Rattle.layout.specs.Layouts.{width_of}
use Rattle.layout.specs.declared.layout.Layout.{Layout}
use Rattle.layout.specs.declared.named.ListName.{ListName}
use Rattle.layout.specs.declared.prefix.PrefixFault.{PrefixFault}
use Rattle.layout.specs.declared.prefix.PrefixFault.TheVariants.{AddressBeyondWidth, LengthBeyondWidth as PrefixTooLong, BitsAfterLength as PrefixUnclear}
use Rattle.lines.specs.Prefixes.{read_prefix}
use Rattle.explanation.specs.declared.query.Query.{Query}
use Rattle.explanation.specs.declared.query.LineFault.{LineFault}
use Rattle.explanation.specs.declared.query.LineFault.TheVariants.{Unreadable, UnknownList, LengthBeyondWidth, BitsAfterLength}

-- the layout goes by the name
abbrev pub Placed : List ℕ → Layout → Type 0
Placed name layout = (list : ListName) × HasName list name × IsRow list layout

-- the line is LIST PREFIX, cut at its first space: the list, and the address P with the length w
pub record Says (line : List ℕ) (list : ListName) (P w : ℕ) : Type 0 where
  pub name : List ℕ
  pub rest : List ℕ
  pub cuts : cut (32 ∷ []) line ≡ Some (name, rest)
  pub named : HasName list name
  pub prefix : read_prefix (row_of list).bits rest ≡ Some (P, w)

-- the line has a first space, and what stands before it is no list's name
pub record Unnamed (line : List ℕ) : Type 0 where
  pub name : List ℕ
  pub rest : List ℕ
  pub cuts : cut (32 ∷ []) line ≡ Some (name, rest)
  pub unknown : NoName name

-- the line says a list, P and w, and the query has them
pub record Means (line : List ℕ) (q : Query) : Type 0 where
  pub list : ListName
  pub says : Says line list q.prefix.address q.prefix.length
  pub layout : IsRow list q.layout
  pub width : q.prefix.width ≡ width_of q.layout

-- the line says a length beyond the width
pub record TooLong (line : List ℕ) : Type 0 where
  pub list : ListName
  pub address : ℕ
  pub length : ℕ
  pub says : Says line list address length
  pub beyond : (row_of list).bits < length

-- the line says an address that has bits after the length
pub record Unclear (line : List ℕ) : Type 0 where
  pub list : ListName
  pub address : ℕ
  pub length : ℕ
  pub says : Says line list address length
  pub within : length ≤ (row_of list).bits
  pub bits : address % 2 ^ ((row_of list).bits - length) ≢ 0

-- what a faulty prefix makes of the line
abbrev pub fault_of : PrefixFault → LineFault
fault_of AddressBeyondWidth = Unreadable
fault_of PrefixTooLong = LengthBeyondWidth
fault_of PrefixUnclear = BitsAfterLength

abbrev pub Answers : List ℕ → Result Query LineFault → Type 0
Answers line (Ok q) = Means line q
Answers line (Err Unreadable) = (¬ Unnamed line) × ((list : ListName) (P w : ℕ) → ¬ Says line list P w)
Answers line (Err UnknownList) = Unnamed line
Answers line (Err LengthBeyondWidth) = TooLong line
Answers line (Err BitsAfterLength) = Unclear line
