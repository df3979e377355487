-- Runs of zeros.
use Rattle.std.proofs.Common.{◌≡◌, ℕ, zero, suc, ◌+◌, ◌-◌, ◌<◌, ◌≤◌, Bool, true, false, cond, ◌&&◌, eqb, leb, ◌⊎◌, List, [], ◌∷◌, length, take, drop, replicate, Some, sym, ap, ◌∙◌, inl, inr, arith}
use Rattle.std.proofs.lemmas.List.{drop-drop, length-replicate}
use Rattle.std.proofs.lemmas.Bool.{le-leb, lt-leb, cases_lt}
use Rattle.std.proofs.lemmas.Bool.Decides.{nat_tests}
use Rattle.notation.specs.Cut.{begins, cut}
use Rattle.notation.specs.Ipv6Text.{leading_zeros, longest_run}
use Rattle.notation.proofs.Cuts.{cut_at}

longest_le : (gs : List ℕ) (n : ℕ) → ((k : ℕ) → k < length gs → leading_zeros (drop k gs) ≤ n) → longest_run gs ≤ n
longest_le [] n h = omega arith
longest_le (g ∷ gs) n h = let a = h 0 (omega arith) in let b = longest_le gs n (λ k l. h (suc k) (omega arith)) in omega arith

longest_ge : (gs : List ℕ) (i : ℕ) → i < length gs → leading_zeros (drop i gs) ≤ longest_run gs
longest_ge [] i h = absurd (omega arith)
longest_ge (g ∷ gs) zero h = omega arith
longest_ge (g ∷ gs) (suc i) h = let a = longest_ge gs i (omega arith) in omega arith

leb_suc : (m n : ℕ) → leb m n ≡ leb (suc m) (1 + n)
leb_suc m n = grind (arith, nat_tests)

begins_zeros : (n : ℕ) (gs : List ℕ) → begins (replicate n 0) gs ≡ leb n (leading_zeros gs)
begins_zeros zero gs = sym (le-leb 0 (leading_zeros gs) (omega arith))
begins_zeros (suc n) [] = sym (lt-leb (suc n) 0 (omega arith))
begins_zeros (suc n) (g ∷ gs) = by (eqb g 0) (begins_zeros n gs)
  where
    by : (b : Bool) → begins (replicate n 0) gs ≡ leb n (leading_zeros gs) → (b && begins (replicate n 0) gs) ≡ leb (suc n) (cond b (1 + leading_zeros gs) 0)
    by true e = e ∙ leb_suc n (leading_zeros gs)
    by false e = sym (lt-leb (suc n) 0 (omega arith))

-- among the runs that begin before `seen`, the one from `start` to `end` is the longest, and the first of its length
pub record Longest (gs : List ℕ) (seen start end : ℕ) : Type 0 where
  pub ordered : start ≤ end
  pub within : end ≤ length gs
  pub longest : (k : ℕ) → k < seen → leading_zeros (drop k gs) ≤ end - start
  pub first : (k : ℕ) → k < start → leading_zeros (drop k gs) < end - start
  pub is_run : start < end → (start < seen) × (leading_zeros (drop start gs) ≡ end - start)

-- what the longest run is, once every place was seen
module _ (gs : List ℕ) (seen start end : ℕ) (all : length gs ≡ seen) (l : Longest gs seen start end) where
  most : (k : ℕ) → k < length gs → leading_zeros (drop k gs) ≤ end - start
  most k h = l.longest k (omega arith)

  pub longest_is : end - start ≡ longest_run gs
  longest_is = by (cases_lt start end)
    where
      by : (start < end) ⊎ (end ≤ start) → end - start ≡ longest_run gs
      by (inl h) = let a = longest_le gs (end - start) most in let q = l.is_run h in let b = longest_ge gs start (omega arith) in omega arith
      by (inr h) = let a = longest_le gs (end - start) most in omega arith

  pub cut_run : start < end → cut (replicate (longest_run gs) 0) gs ≡ Some (take start gs, drop end gs)
  cut_run h = let q = l.is_run h in let len = end - start in
      ap (λ m. cut (replicate m 0) gs) (sym longest_is)
      ∙ cut_at (replicate len 0) gs start (omega arith) (λ k p. begins_zeros len (drop k gs) ∙ lt-leb _ _ (l.first k p)) (begins_zeros len (drop start gs) ∙ le-leb _ _ (omega arith))
      ∙ ap (λ r. Some (take start gs, r)) (ap (λ m. drop m (drop start gs)) (length-replicate len 0) ∙ drop-drop len start gs ∙ ap (λ m. drop m gs) {x = start + len} {y = end} (let o = l.ordered in omega arith))
