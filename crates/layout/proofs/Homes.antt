-- Home treads: the largest tread not above a length, found by going through a rising list. Assumes nothing.
use Rattle.std.proofs.Common.{◌≡◌, ℕ, zero, suc, ◌+◌, ◌-◌, ◌<◌, ◌≤◌, true, false, leb, List, [], ◌∷◌, length, get_or, Some, None, Option, MatchOption, le_antisymm, arith}
use native.Mathlib.Decide.{dec_lt}
use Rattle.std.proofs.lemmas.Bool.Decides.{nat_tests}
use Rattle.std.proofs.lemmas.Bool.{leb-true, leb-false}
use Rattle.std.proofs.lemmas.Grind.{get_or_default_zero}
use Rattle.std.proofs.lemmas.List.Sorted.{IsNonDecreasingBy-from_all_adjacent}
use Rattle.std.specs.List.Sorted.{IsNonDecreasing, IsPartitionPoint}
use Rattle.gf2.specs.declared.generator.Generator.{Generator}
use Rattle.layout.specs.Treads.{Lawful, home_tread, admitted_at_home, AllAdmitted, FirstUnadmitted}

-- what a home tread is the largest of
abbrev Bounds : List ℕ → ℕ → ℕ → Type 0
Bounds ts w b = (k : ℕ) → k < length ts → get_or ts k 0 ≤ w → get_or ts k 0 ≤ b

home_ge : (ts : List ℕ) (w : ℕ) → Bounds ts w (home_tread ts w)
home_ge [] w k h le = absurd (omega arith)
home_ge (l ∷ ls) w zero h le = grind (arith, nat_tests)
home_ge (l ∷ ls) w (suc k) h le = let rest = home_ge ls w k (omega arith) le in grind (arith, nat_tests)

home_le : (ts : List ℕ) (w b : ℕ) → Bounds ts w b → home_tread ts w ≤ b
home_le [] w b h = omega arith
home_le (l ∷ ls) w b h =
    let first : l ≤ w → l ≤ b = h 0 (omega arith) in
    let rest = home_le ls w b (λ k k< le. h (suc k) (omega arith) le) in
    grind (arith, nat_tests)

home_is : (ts : List ℕ) (w j : ℕ) → j < length ts → get_or ts j 0 ≤ w → Bounds ts w (get_or ts j 0) → get_or ts j 0 ≡ home_tread ts w
home_is ts w j h le b = le_antisymm (home_ge ts w j h le) (home_le ts w (get_or ts j 0) b)

pub non_decreasing : (W : ℕ) (ts : List ℕ) → Lawful W ts → IsNonDecreasing ts
non_decreasing W ts h =
    IsNonDecreasingBy-from_all_adjacent (λ x. x) ts
    (λ k d more. omega (arith, h.rises k more, get_or_default_zero ts k d (omega arith), get_or_default_zero ts (k + 1) d more))

-- the last of the treads that are not above w is its home tread
pub home_last : (W : ℕ) (ts : List ℕ) (w n : ℕ) → Lawful W ts → n ≤ length ts → IsPartitionPoint (λ y. leb y w ≡ true) (λ y. leb y w ≡ false) ts n
    → (1 ≤ n) × (n - 1 < length ts) × (get_or ts (n - 1) 0 ≡ home_tread ts w)
home_last W ts w n h le point = (first, omega (arith, first), home_is ts w (n - 1) (omega (arith, first)) last largest)
  where
    begins : get_or ts 0 0 ≡ 0
    begins = h.begins

    zero_first : n ≡ 0 → ⊥
    zero_first e =
        let above : w < get_or ts 0 0 = leb-false (get_or ts 0 0) w (point.1 0 0 (omega arith) (omega (arith, h.some))) in
        omega (arith, begins)

    first : 1 ≤ n
    first = omega (arith, zero_first)

    last : get_or ts (n - 1) 0 ≤ w
    last = leb-true (get_or ts (n - 1) 0) w (point.0 (n - 1) 0 (omega arith) (omega (arith, first)))

    largest : (k : ℕ) → k < length ts → get_or ts k 0 ≤ w → get_or ts k 0 ≤ get_or ts (n - 1) 0
    largest k more le' = elim (dec_lt k n) [
      | yes before ↦ non_decreasing W ts h k (n - 1) 0 (omega (arith, first)) (omega (arith, first))
      | no after ↦ absurd (omega (arith, leb-false (get_or ts k 0) w (point.1 k 0 (omega arith) more)))
    ]

-- the first length that is not admitted, found among those from low to high
pub first_found : (W : ℕ) (g : Generator) (ts : List ℕ) (low high : ℕ) → low ≡ 0 → high ≡ W + 1 → (r : Option ℕ)
    → MatchOption r ((k : ℕ) → low ≤ k → k < high → admitted_at_home W g ts k ≡ true)
    (λ i. (low ≤ i) × (i < high) × (admitted_at_home W g ts i ≡ false) × ((k : ℕ) → low ≤ k → k < i → admitted_at_home W g ts k ≡ true))
    → MatchOption r (AllAdmitted W g ts) (λ w. FirstUnadmitted W g ts w)
first_found W g ts low high zero-low end (Some i) found = record { within = omega arith; refused = found.2; before = λ v l. found.3 v (omega arith) l }
first_found W g ts low high zero-low end None all = λ w le. all w (omega arith) (omega arith)
