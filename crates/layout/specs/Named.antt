-- The named lists. Assumes nothing.
use Rattle.std.specs.Prelude.{◌≡◌, ℕ, ◌<◌, List, [], ◌∷◌, codes, slice_index_or}
use Rattle.layout.specs.Layouts.{treads_of, width_of}
use Rattle.layout.specs.declared.layout.Layout.{Layout}
use Rattle.layout.specs.declared.named.ListName.{ListName}
use Rattle.layout.specs.declared.named.ListName.TheVariants.{V4, V4Small, V6}

pub record Row : Type 0 where
  pub name : List ℕ
  pub bits : ℕ
  pub generator : ℕ
  pub treads : List ℕ

abbrev pub row_of : ListName → Row
row_of V4 = record { name = codes "v4"; bits = 32; generator = 0x1100D; treads = 0 ∷ 8 ∷ 12 ∷ 16 ∷ 20 ∷ 24 ∷ 28 ∷ 32 ∷ [] }
row_of V4Small = record { name = codes "v4-small"; bits = 32; generator = 0x11D; treads = 0 ∷ 8 ∷ 16 ∷ 20 ∷ 24 ∷ [] }
row_of V6 = record { name = codes "v6"; bits = 128; generator = 0x1100D; treads = 0 ∷ 16 ∷ 32 ∷ 48 ∷ 64 ∷ 80 ∷ 96 ∷ 104 ∷ 112 ∷ [] }

-- the rows by their numbers, from 0 on
abbrev pub rows : List Row
rows = row_of V4 ∷ row_of V4Small ∷ row_of V6 ∷ []

-- row i has the name
abbrev pub IsNumbered : ℕ → List ℕ → Type 0
IsNumbered i name = (i < 3) × ((slice_index_or rows i (row_of V4)).name ≡ name)

-- the list goes by the name
abbrev pub HasName : ListName → List ℕ → Type 0
HasName list name = (row_of list).name ≡ name

-- no list does
abbrev pub NoName : List ℕ → Type 0
NoName name = (list : ListName) → HasName list name → ⊥

-- the layout is that of the list
pub record IsRow (list : ListName) (layout : Layout) : Type 0 where
  pub width : (width_of layout).bits ≡ (row_of list).bits
  pub generator : layout.generator.poly ≡ (row_of list).generator
  pub treads : treads_of layout ≡ (row_of list).treads
