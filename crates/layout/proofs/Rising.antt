-- Lists that are found to rise by looking at neighbours. Assumes nothing.
use Rattle.std.proofs.Common.{◌≡◌, ℕ, ◌+◌, ◌-◌, ◌<◌, ◌≤◌, Bool, true, false, List, length, get_or, ltb, leb, IsTrue, ◌↔◌, arith, sym, refl}
use Rattle.std.specs.List.{IsAllAdjacentAnswer}
use Rattle.std.specs.List.Sorted.{IsStrictlyIncreasing}
use Rattle.std.proofs.lemmas.Bool.Decides.{nat_tests}
use Rattle.std.proofs.lemmas.Bool.{leb-true, le-leb}
use Rattle.std.proofs.lemmas.Map.Keys.{sorted_from_strictly_increasing, non_decreasing_from_sorted}
use Rattle.layout.specs.Treads.{Within}
use borrow.Author.Tests.{ltb-true}

pub rises_from : (ts : List ℕ) (r : Bool) → IsAllAdjacentAnswer (λ x y b. b ≡ ltb x y) ts r → IsTrue r ↔ IsStrictlyIncreasing ts
rises_from ts true h = (λ t k more. ltb-true _ _ (sym (h k 0 more)), λ s. refl)
rises_from ts false h = (λ t. cc, λ rises. let up : get_or ts h.0 0 < get_or ts (h.0 + 1) 0 = rises h.0 h.1 in let said = h.2 0 in absurd (grind (arith, nat_tests)))

-- of a list that rises, none is above W where the last is not
pub rising_within : (W : ℕ) (ts : List ℕ) → IsStrictlyIncreasing ts → 1 ≤ length ts → IsTrue (leb (get_or ts (length ts - 1) 0) W) ↔ Within W ts
rising_within W ts rises some =
    let sorted = non_decreasing_from_sorted ts (sorted_from_strictly_increasing ts rises) in (
      λ last i h.
          let below = sorted i (length ts - 1) 0 (omega arith) (omega (arith, some)) in
          let ends = leb-true (get_or ts (length ts - 1) 0) W last in
          omega (arith, below, ends),
      λ all. le-leb (get_or ts (length ts - 1) 0) W (all (length ts - 1) (omega (arith, some))),
    )
