-- Worked figures: divisions, digests, admissions and checks of layouts, as numbers. Assumes nothing.
use Rattle.std.specs.Prelude.{◌≡◌, ℕ, true, false, List, [], ◌∷◌, refl}
use Rattle.std.proofs.Common.{lit≤, lit<}
use Rattle.gf2.specs.Division.{quotient_of, remainder_of}
use Rattle.gf2.specs.declared.generator.Generator.{Generator}
use Rattle.layout.specs.Admission.{digest, admitted}
use Rattle.layout.specs.Treads.{Lawful, AllAdmitted, FirstUnadmitted}

-- x^16 + x^12 + x^3 + x^2 + 1, of the lists v4 and v6
abbrev pub g1100d : Generator
g1100d = record {
  poly = 0x1100D;
  degree = 16;
  lowest = 2;
  leads = refl;
  least = lit≤ tt;
  most = lit≤ tt;
  positive = lit< tt;
  ordered = lit≤ tt;
  apart = refl;
  present = refl;
}

-- x^8 + x^4 + x^3 + x^2 + 1, of the list v4-small
abbrev pub g11d : Generator
g11d = record {
  poly = 0x11D;
  degree = 8;
  lowest = 2;
  leads = refl;
  least = lit≤ tt;
  most = lit≤ tt;
  positive = lit< tt;
  ordered = lit≤ tt;
  apart = refl;
  present = refl;
}

-- the address a divided by g1100d
pub record Divided (a q r : ℕ) : Type 0 where
  pub quotient : quotient_of g1100d a ≡ q
  pub remainder : remainder_of g1100d a ≡ r

-- the length w is admitted at the tread l and not at the tread m
pub record From (W w l m : ℕ) : Type 0 where
  pub at : admitted W g1100d w l ≡ true
  pub not_at : admitted W g1100d w m ≡ false

-- the check of IPv4 treads passes
pub record Passes (g : Generator) (ts : List ℕ) : Type 0 where
  pub lawful : Lawful 32 ts
  pub admits : AllAdmitted 32 g ts

-- or is refused by question 3, at the length w
pub record RefusedAt (g : Generator) (ts : List ℕ) (w : ℕ) : Type 0 where
  pub lawful : Lawful 32 ts
  pub first : FirstUnadmitted 32 g ts w

pub record WorkedFigures : Type 0 where
  -- 0.1.0.0, 10.0.0.0 and 10.68.3.0
  pub one : Divided 0x00010000 1 0x100D
  pub ten : Divided 0x0A000000 0x0AAA 0xD552
  pub laboratory : Divided 0x0A440300 0x0AEA 0xD512
  -- the last two as /24 under tread 8, which doesn't admit 24
  pub ten_digest : digest 32 g1100d 0x0A000000 8 ≡ 0x0AAA
  pub laboratory_digest : digest 32 g1100d 0x0A440300 8 ≡ 0x0AAA
  -- IPv4
  pub short : From 32 24 10 9
  pub host : From 32 32 16 15
  pub default_longest : admitted 32 g1100d 14 0 ≡ true
  pub default_too_long : admitted 32 g1100d 15 0 ≡ false
  -- IPv6
  pub wide_longest : admitted 128 g1100d 110 0 ≡ true
  pub wide_too_long : admitted 128 g1100d 111 0 ≡ false
  pub wide : From 128 111 97 96
  -- whole lists
  pub three_treads : Passes g1100d (0 ∷ 15 ∷ 16 ∷ [])
  pub two_treads : RefusedAt g1100d (0 ∷ 16 ∷ []) 15
  pub small_without_20 : RefusedAt g11d (0 ∷ 8 ∷ 16 ∷ 24 ∷ []) 23
