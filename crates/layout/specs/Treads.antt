-- Tread lists and home treads. A tread is a prefix length at which routes may stand; a tread list has those of one
-- table, shortest first. Assumes nothing.
use Rattle.std.specs.Prelude.{◌≡◌, ℕ, ◌<◌, ◌≤◌, max, Bool, true, false, if◌then◌else◌, List, [], ◌∷◌, length, nat_le, slice_index}
use Rattle.std.specs.List.Sorted.{IsStrictlyIncreasing}
use Rattle.gf2.specs.declared.generator.Generator.{Generator}
use Rattle.layout.specs.Admission.{admitted}

-- no length is above W
abbrev pub Within : ℕ → List ℕ → Type 0
Within W ts = (i : ℕ) → i < length ts → slice_index ts i ≤ W

-- 1 to 40 lengths that begin with 0, rise strictly and never pass W
pub record Lawful (W : ℕ) (ts : List ℕ) : Type 0 where
  pub some : 1 ≤ length ts
  pub few : length ts ≤ 40
  pub begins : slice_index ts 0 ≡ 0
  pub rises : IsStrictlyIncreasing ts
  pub within : Within W ts

-- the home tread of w: the largest tread not above w
abbrev pub home_tread : List ℕ → ℕ → ℕ
home_tread [] w = 0
home_tread (l ∷ ls) w = if nat_le l w then max l (home_tread ls w) else home_tread ls w

-- the length w is admitted at its home tread
abbrev pub admitted_at_home : ℕ → Generator → List ℕ → ℕ → Bool
admitted_at_home W g ts w = admitted W g w (home_tread ts w)

abbrev pub AllAdmitted : ℕ → Generator → List ℕ → Type 0
AllAdmitted W g ts = (w : ℕ) → w ≤ W → admitted_at_home W g ts w ≡ true

-- w is the shortest length that is not
pub record FirstUnadmitted (W : ℕ) (g : Generator) (ts : List ℕ) (w : ℕ) : Type 0 where
  pub within : w ≤ W
  pub refused : admitted_at_home W g ts w ≡ false
  pub before : (v : ℕ) → v < w → admitted_at_home W g ts v ≡ true
