-- Where `cut` cuts.
use Rattle.std.proofs.Common.{◌≡◌, ℕ, zero, suc, ◌+◌, ◌<◌, ◌≤◌, Bool, true, false, cond, eqb, List, [], ◌∷◌, ◌++◌, length, take, drop, Some, None, Option, sym, refl, ap, ◌∙◌, subst, arith, length-append, MatchOption}
use Rattle.std.proofs.lemmas.Bool.{and_parts, and_from, and_left, eq-eqb, ne_eqb, eqb-true, cond-true, cond-false, false≢true}
use Rattle.std.proofs.lemmas.List.{drop-drop, length-drop}
use Rattle.std.proofs.lemmas.Option.{none-some}
use Rattle.std.specs.Option.{option_map}
use Rattle.std.specs.Str.Parse.{AllDigits}
use Rattle.std.specs.Char.{digit_value}
use Rattle.notation.specs.Cut.{begins, cut}
use Rattle.notation.proofs.Options.{some_inj}

begins_true : (mark text : List ℕ) → begins mark text ≡ true → text ≡ mark ++ drop (length mark) text
begins_true [] text h = refl
begins_true (m ∷ ms) [] h = absurd (false≢true h)
begins_true (m ∷ ms) (c ∷ cs) h = let p = and_parts _ _ h in λ i. eqb-true c m p.0 i ∷ begins_true ms cs p.1 i

pub begins_append : (mark rest : List ℕ) → begins mark (mark ++ rest) ≡ true
begins_append [] rest = refl
begins_append (m ∷ ms) rest = and_from _ _ (eq-eqb m m refl) (begins_append ms rest)

-- a test that tells whether the text begins with the mark
pub begins_is : (mark text : List ℕ) (r : Bool) → (r ≡ true → text ≡ mark ++ drop (length mark) text) × ((rest : List ℕ) → text ≡ mark ++ rest → r ≡ true) → r ≡ begins mark text
begins_is mark text r h = by r (begins mark text) refl refl
  where
    by : (s b : Bool) → s ≡ r → b ≡ begins mark text → r ≡ begins mark text
    by true b p q = p⁻¹ ∙ sym (subst (λ t. begins mark t ≡ true) (sym (h.0 (sym p))) (begins_append mark (drop (length mark) text)))
      where
        p⁻¹ : r ≡ true
        p⁻¹ = sym p
    by false true p q = h.1 (drop (length mark) text) (begins_true mark text (sym q)) ∙ q
    by false false p q = sym p ∙ q

pub cut_at : (mark text : List ℕ) (i : ℕ) → i < length text → ((k : ℕ) → k < i → begins mark (drop k text) ≡ false) → begins mark (drop i text) ≡ true → cut mark text ≡ Some (take i text, drop (length mark) (drop i text))
cut_at mark [] i h before here = absurd (omega arith)
cut_at mark (c ∷ cs) zero h before here = cond-true _ _ (option_map (λ (p : List ℕ × List ℕ). (c ∷ p.0, p.1)) (cut mark cs)) here
cut_at mark (c ∷ cs) (suc i) h before here =
    cond-false _ (Some ([], drop (length mark) (c ∷ cs))) _ (before 0 (omega arith))
    ∙ ap (option_map (λ (p : List ℕ × List ℕ). (c ∷ p.0, p.1))) (cut_at mark cs i (omega arith) (λ k l. before (suc k) (omega arith)) here)

pub cut_none : (mark text : List ℕ) → ((k : ℕ) → k < length text → begins mark (drop k text) ≡ false) → cut mark text ≡ None
cut_none mark [] before = refl
cut_none mark (c ∷ cs) before =
    cond-false _ (Some ([], drop (length mark) (c ∷ cs))) _ (before 0 (omega arith))
    ∙ ap (option_map (λ (p : List ℕ × List ℕ). (c ∷ p.0, p.1))) (cut_none mark cs (λ k l. before (suc k) (omega arith)))

-- the first place of the mark, or none, tells how `cut` cuts, if every place from the beginning was tried
pub cut_from_place : (mark text : List ℕ) (from : ℕ) (r : Option ℕ)
    → MatchOption r ((k : ℕ) → from ≤ k → k < length text → begins mark (drop k text) ≡ false) (λ i. (from ≤ i) × (i < length text) × (begins mark (drop i text) ≡ true) × ((k : ℕ) → from ≤ k → k < i → begins mark (drop k text) ≡ false))
    → from ≡ 0 → MatchOption r (cut mark text ≡ None) (λ i. (i + length mark ≤ length text) × (cut mark text ≡ Some (take i text, drop (i + length mark) text)))
cut_from_place mark text from None none z = cut_none mark text (λ k h. none k (omega arith) h)
cut_from_place mark text from (Some i) found z =
    let joins = begins_true mark (drop i text) found.2 in (
      omega (arith, found.1, ap length joins, length-append mark (drop (length mark) (drop i text)), length-drop i text),
      cut_at mark text i found.1 (λ k h. found.3 k (omega arith) h) found.2 ∙ ap (λ l. Some (take i text, l)) (drop-drop (length mark) i text),
    )

-- the text is what stands before the mark, the mark, and what stands after it
pub cut_joins : (mark text l r : List ℕ) → cut mark text ≡ Some (l, r) → text ≡ l ++ (mark ++ r)
cut_joins mark [] l r h = absurd (none-some _ h)
cut_joins mark (c ∷ cs) l r h = by (begins mark (c ∷ cs)) (cut mark cs) refl (λ q e. cut_joins mark cs q.0 q.1 e) h
  where
    by : (b : Bool) (o : Option (List ℕ × List ℕ)) → begins mark (c ∷ cs) ≡ b → ((q : List ℕ × List ℕ) → o ≡ Some q → cs ≡ q.0 ++ (mark ++ q.1)) → cond {A = Option (List ℕ × List ℕ)} b (Some ([], drop (length mark) (c ∷ cs))) (option_map (λ (p : List ℕ × List ℕ). (c ∷ p.0, p.1)) o) ≡ Some (l, r) → c ∷ cs ≡ l ++ (mark ++ r)
    by true o here rec k = let p = some_inj k in begins_true mark (c ∷ cs) here ∙ (λ i. (p i).0 ++ (mark ++ (p i).1))
    by false None here rec k = absurd (none-some _ k)
    by false (Some q) here rec k = let p = some_inj k in ap (λ t. c ∷ t) (rec q refl) ∙ (λ i. (p i).0 ++ (mark ++ (p i).1))

-- the byte m does not stand in the text
abbrev pub Without : ℕ → List ℕ → Type 0
Without m [] = Unit {0}
Without m (c ∷ cs) = (c ≡ m → ⊥) × Without m cs

pub without_append : (m : ℕ) (xs ys : List ℕ) → Without m xs → Without m ys → Without m (xs ++ ys)
without_append m [] ys v w = w
without_append m (x ∷ xs) ys v w = (v.0, without_append m xs ys v.1 w)

pub without_digits : (radix m : ℕ) (text : List ℕ) → radix ≤ digit_value m → AllDigits radix text → Without m text
without_digits radix m [] h d = tt
without_digits radix m (c ∷ cs) h d = ((λ e. omega (arith, d.0, ap digit_value e)), without_digits radix m cs h d.1)

pub cut_first : (m : ℕ) (xs rest : List ℕ) → Without m xs → cut (m ∷ []) (xs ++ m ∷ rest) ≡ Some (xs, rest)
cut_first m [] rest w = cond-true _ _ (option_map (λ (p : List ℕ × List ℕ). (m ∷ p.0, p.1)) (cut (m ∷ []) rest)) (begins_append (m ∷ []) rest)
cut_first m (x ∷ xs) rest w =
    cond-false _ (Some ([], xs ++ m ∷ rest)) _ (and_left (eqb x m) true (ne_eqb x m w.0))
    ∙ ap (option_map (λ (p : List ℕ × List ℕ). (x ∷ p.0, p.1))) (cut_first m xs rest w.1)

pub cut_without : (m : ℕ) (xs : List ℕ) → Without m xs → cut (m ∷ []) xs ≡ None
cut_without m [] w = refl
cut_without m (x ∷ xs) w =
    cond-false _ (Some ([], xs)) _ (and_left (eqb x m) true (ne_eqb x m w.0))
    ∙ ap (option_map (λ (p : List ℕ × List ℕ). (x ∷ p.0, p.1))) (cut_without m xs w.1)
