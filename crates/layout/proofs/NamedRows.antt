-- The check of a named list passes. Assumes nothing.
use Rattle.std.proofs.Common.{◌≡◌, ℕ, ◌≤◌, true, List, Err, sym, subst, subst₂}
use Rattle.gf2.specs.Poly.{IsGenerator}
use Rattle.gf2.proofs.Exponents.{is_generator}
use Rattle.layout.specs.Layouts.{Verdict}
use Rattle.layout.specs.Treads.{Lawful, admitted_at_home}
use Rattle.layout.specs.Named.{row_of}
use Rattle.layout.specs.declared.named.ListName.{ListName}
use Rattle.layout.specs.declared.width.Width.{Width}
use Rattle.layout.specs.declared.layout.LayoutRefusal.{LayoutRefusal}
use Rattle.layout.specs.declared.layout.LayoutRefusal.TheVariants.{NotAGenerator, UnlawfulTreads, Unadmitted}
use Rattle.layout.proofs.Tables.{good, same_at_home}

pub never_refused : (list : ListName) (W : Width) (poly : ℕ) (ts : List ℕ) → W.bits ≡ (row_of list).bits → poly ≡ (row_of list).generator → ts ≡ (row_of list).treads
    → (refusal : LayoutRefusal) → Verdict W poly ts (Err refusal) → ⊥
never_refused list W poly ts bits generator treads NotAGenerator v =
    let row = good list in
    v (subst IsGenerator (cc (row.poly_is, generator)) (is_generator row.generator))
never_refused list W poly ts bits generator treads UnlawfulTreads v = v.1 (subst₂ Lawful (sym bits) (sym treads) (good list).lawful)
never_refused list W poly ts bits generator treads (Unadmitted w) v =
    let row = good list in
    let same = same_at_home W.bits v.generator row.generator (cc (v.poly_is, generator, row.poly_is)) ts w in
    let home : admitted_at_home W.bits row.generator ts w ≡ true =
    subst₂ (λ b l. admitted_at_home b row.generator l w ≡ true) (sym bits) (sym treads) (row.admits w (subst (λ b. w ≤ b) bits v.first.within)) in
    cc v.first.refused
