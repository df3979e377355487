-- Tread lists written out: their rules by tests that antt computes, and the worked figures. Assumes nothing.
use Rattle.std.proofs.Common.{◌≡◌, ℕ, zero, suc, ◌+◌, ◌-◌, ◌<◌, ◌≤◌, Bool, true, false, ◌&&◌, ◌||◌, leb, List, [], ◌∷◌, length, get_or, refl, ap, ◌∙◌, ap₂, add-one, arith, lit≤}
use native.Mathlib.Decide.{dec_lt}
use Rattle.std.proofs.lemmas.Bool.{leb-true, and_parts}
use Rattle.gf2.specs.Binary.{by_bits, by_bits_in}
use Rattle.gf2.specs.Division.{quotient_of, remainder_of}
use Rattle.gf2.specs.declared.generator.Generator.{Generator}
use Rattle.gf2.proofs.Exponents.{same_degree, same_lowest}
use Rattle.layout.specs.Treads.{Lawful, home_tread, admitted_at_home, AllAdmitted, FirstUnadmitted}
use Rattle.layout.specs.Named.{Row, row_of}
use Rattle.layout.specs.declared.named.ListName.{ListName}
use Rattle.layout.specs.declared.named.ListName.TheVariants.{V4, V4Small, V6}
use Rattle.layout.specs.Figures.{g1100d, g11d, WorkedFigures}

-- a test of every number below n
abbrev below : ℕ → (ℕ → Bool) → Bool
below zero f = true
below (suc n) f = f n && below n f

below_each : (n : ℕ) (f : ℕ → Bool) → below n f ≡ true → (k : ℕ) → k < n → f k ≡ true
below_each zero f h k l = absurd (omega arith)
below_each (suc n) f h k l = elim (dec_lt k n) [
  | yes m ↦ below_each n f (and_parts (f n) (below n f) h).1 k m
  | no m ↦ let same : k ≡ n = omega arith in ap f same ∙ (and_parts (f n) (below n f) h).0
]

-- a list that passes the tests is a tread list
pub lawful : (W : ℕ) (ts : List ℕ) (n : ℕ) → length ts ≡ suc n → suc n ≤ 40 → get_or ts 0 0 ≡ 0
    → below n (λ i. leb (suc (get_or ts i 0)) (get_or ts (suc i) 0)) ≡ true → below (suc n) (λ i. leb (get_or ts i 0) W) ≡ true → Lawful W ts
lawful W ts n len few begins rises within = record {
  some = omega arith;
  few = omega arith;
  begins = begins;
  rises = λ i l. rw add-one (leb-true (suc (get_or ts i 0)) (get_or ts (suc i) 0) (below_each n (λ i. leb (suc (get_or ts i 0)) (get_or ts (suc i) 0)) rises i (omega arith)));
  within = λ i l. leb-true (get_or ts i 0) W (below_each (suc n) (λ i. leb (get_or ts i 0) W) within i (omega arith));
}

pub all_admitted : (W : ℕ) (g : Generator) (ts : List ℕ) → below (suc W) (admitted_at_home W g ts) ≡ true → AllAdmitted W g ts
all_admitted W g ts h w l = below_each (suc W) (admitted_at_home W g ts) h w (omega arith)

first_unadmitted : (W : ℕ) (g : Generator) (ts : List ℕ) (w : ℕ) → w ≤ W → admitted_at_home W g ts w ≡ false → below w (admitted_at_home W g ts) ≡ true → FirstUnadmitted W g ts w
first_unadmitted W g ts w le no-home before = record {
  within = le;
  refused = no-home;
  before = λ v l. below_each w (admitted_at_home W g ts) before v l;
}

-- admission asks for a generator's exponents alone, so for its number alone
pub same_at_home : (W : ℕ) (g h : Generator) → g.poly ≡ h.poly → (ts : List ℕ) (w : ℕ) → admitted_at_home W g ts w ≡ admitted_at_home W h ts w
same_at_home W g h e ts w =
    let l = home_tread ts w in
    ap₂ (λ d t. leb l w && ((leb (W - l) d || leb (d + t) (W - w)) || leb (w - l) (d - t))) (same_degree g h e) (same_lowest g h e)

pub worked_figures : WorkedFigures
unfolding quotient_of remainder_of by_bits by_bits_in
worked_figures = record {
  one = record { quotient = refl; remainder = refl };
  ten = record { quotient = refl; remainder = refl };
  laboratory = record { quotient = refl; remainder = refl };
  ten_digest = refl;
  laboratory_digest = refl;
  short = record { at = refl; not_at = refl };
  host = record { at = refl; not_at = refl };
  default_longest = refl;
  default_too_long = refl;
  wide_longest = refl;
  wide_too_long = refl;
  wide = record { at = refl; not_at = refl };
  three_treads = record { lawful = lawful 32 (0 ∷ 15 ∷ 16 ∷ []) 2 refl (lit≤ tt) refl refl refl; admits = all_admitted 32 g1100d (0 ∷ 15 ∷ 16 ∷ []) refl };
  two_treads = record { lawful = lawful 32 (0 ∷ 16 ∷ []) 1 refl (lit≤ tt) refl refl refl; first = first_unadmitted 32 g1100d (0 ∷ 16 ∷ []) 15 (lit≤ tt) refl refl };
  small_without_20 = record { lawful = lawful 32 (0 ∷ 8 ∷ 16 ∷ 24 ∷ []) 3 refl (lit≤ tt) refl refl refl; first = first_unadmitted 32 g11d (0 ∷ 8 ∷ 16 ∷ 24 ∷ []) 23 (lit≤ tt) refl refl };
}

-- every row of the named lists passes the check
pub record Good (row : Row) : Type 0 where
  pub generator : Generator
  pub poly_is : generator.poly ≡ row.generator
  pub lawful : Lawful row.bits row.treads
  pub admits : AllAdmitted row.bits generator row.treads

pub good : (list : ListName) → Good (row_of list)
good V4 = let r = row_of V4 in record {
  generator = g1100d;
  poly_is = refl;
  lawful = lawful 32 r.treads 7 refl (lit≤ tt) refl refl refl;
  admits = all_admitted 32 g1100d r.treads refl;
}
good V4Small = let r = row_of V4Small in record {
  generator = g11d;
  poly_is = refl;
  lawful = lawful 32 r.treads 4 refl (lit≤ tt) refl refl refl;
  admits = all_admitted 32 g11d r.treads refl;
}
good V6 = let r = row_of V6 in record {
  generator = g1100d;
  poly_is = refl;
  lawful = lawful 128 r.treads 8 refl (lit≤ tt) refl refl refl;
  admits = all_admitted 128 g1100d r.treads refl;
}
