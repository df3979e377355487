-- What the check of a layout answers. Assumes nothing.
use Rattle.std.specs.Prelude.{◌≡◌, ℕ, List, Ok, Err, Result}
use Rattle.gf2.specs.Poly.{IsGenerator}
use Rattle.gf2.specs.declared.generator.Generator.{Generator}
use Rattle.layout.specs.Treads.{Lawful, AllAdmitted, FirstUnadmitted}
use Rattle.layout.specs.TreadLists.{lengths_of}
use Rattle.layout.specs.declared.width.Width.{Width}
use Rattle.layout.specs.declared.layout.Layout.{Layout}
use Rattle.layout.specs.declared.layout.LayoutRefusal.{LayoutRefusal}
use Rattle.layout.specs.declared.layout.LayoutRefusal.TheVariants.{NotAGenerator, UnlawfulTreads, Unadmitted}

-- the number of the question that was answered 'no'
abbrev pub number_of : LayoutRefusal → ℕ
number_of NotAGenerator = 1
number_of UnlawfulTreads = 2
number_of (Unadmitted w) = 3

-- the width of its addresses
abbrev pub width_of : Layout → Width
width_of layout = layout.treads.width

abbrev pub treads_of : Layout → List ℕ
treads_of layout = lengths_of layout.treads

-- the layout that was asked for
pub record Passed (W : Width) (poly : ℕ) (ts : List ℕ) (layout : Layout) : Type 0 where
  pub width : width_of layout ≡ W
  pub generator : layout.generator.poly ≡ poly
  pub treads : treads_of layout ≡ ts
  pub lawful : Lawful W.bits ts
  pub admits : AllAdmitted W.bits layout.generator ts

-- a lawful generator and tread list with the shortest length w that is not admitted at its home tread
pub record NotAdmitted (W : Width) (poly : ℕ) (ts : List ℕ) (w : ℕ) : Type 0 where
  pub generator : Generator
  pub poly_is : generator.poly ≡ poly
  pub lawful : Lawful W.bits ts
  pub first : FirstUnadmitted W.bits generator ts w

abbrev pub Verdict : Width → ℕ → List ℕ → Result Layout LayoutRefusal → Type 0
Verdict W poly ts (Ok layout) = Passed W poly ts layout
Verdict W poly ts (Err NotAGenerator) = IsGenerator poly → ⊥
Verdict W poly ts (Err UnlawfulTreads) = IsGenerator poly × (Lawful W.bits ts → ⊥)
Verdict W poly ts (Err (Unadmitted w)) = NotAdmitted W poly ts w
