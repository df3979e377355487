-- How `read_groups` and `total` go on from piece to piece.
use Rattle.std.proofs.Common.{◌≡◌, ℕ, suc, ◌+◌, ◌*◌, ◌^◌, ◌<◌, ◌≤◌, Bool, true, false, cond, ◌&&◌, eqb, leb, ◌⊎◌, List, [], ◌∷◌, ◌++◌, length, Some, None, Option, sym, refl, ap, ◌∙◌, inl, inr, append_assoc, append-nil, arith}
use Rattle.std.proofs.lemmas.Bool.{eqb-false, cases_lt, le-leb, lt-leb}
use Rattle.std.proofs.lemmas.Option.{none-some}
use Rattle.std.specs.Option.{option_map}
use Rattle.std.specs.Bool.{then_some}
use Rattle.std.specs.Int.Digits.{number_from_digits_after}
use Rattle.notation.specs.Chain.{and_then}
use Rattle.notation.specs.Cut.{cut}
use Rattle.notation.specs.Groups.{colon, read_group, read_last, read_after, read_groups, total}
use Rattle.notation.specs.Ipv6.{read_side}
use Rattle.notation.proofs.Options.{some_inj}

-- one group, and then the others
pub total_more : (t : ℕ × ℕ) (g : ℕ) (gs : List ℕ) → total t (g ∷ gs) ≡ and_then (total t (g ∷ [])) (λ p. total p gs)
total_more t g gs = by (cases_lt t.0 8)
  where
    Rest : Bool → Option (ℕ × ℕ)
    Rest b = and_then {A = ℕ × ℕ} (then_some b (t.0 + 1, t.1 * 2 ^ 16 + g)) (λ p. total p gs)

    by : (t.0 < 8) ⊎ (8 ≤ t.0) → total t (g ∷ gs) ≡ and_then (total t (g ∷ [])) (λ p. total p gs)
    by (inl h) =
        (let e : t.0 + suc (length gs) ≡ t.0 + 1 + length gs = omega arith in
        ap (λ n. then_some (leb n 8) (n, number_from_digits_after (2 ^ 16) (t.1 * 2 ^ 16 + g) gs)) e)
        ∙ sym (ap Rest (le-leb (t.0 + 1) 8 (omega arith)))
    by (inr h) =
        ap (λ b. then_some b (t.0 + suc (length gs), number_from_digits_after (2 ^ 16) (t.1 * 2 ^ 16 + g) gs)) (lt-leb (t.0 + suc (length gs)) 8 (omega arith))
        ∙ sym (ap Rest (lt-leb (t.0 + 1) 8 (omega arith)))

pub after_colon : (mixed : Bool) (p text q rest : List ℕ) → cut (colon ∷ []) text ≡ Some (q, rest) → read_after mixed p text ≡ and_then (read_group (p ++ q)) (λ g. option_map (λ gs. g ∷ gs) (read_groups mixed rest))
after_colon mixed p [] q rest h = absurd (none-some _ h)
after_colon mixed p (c ∷ cs) q rest h = by (eqb c colon) (cut (colon ∷ []) cs) (λ l e. after_colon mixed (p ++ (c ∷ [])) cs l.0 l.1 e) h
  where
    Go : List ℕ × List ℕ → Option (List ℕ)
    Go l = and_then (read_group (p ++ l.0)) (λ g. option_map (λ gs. g ∷ gs) (read_groups mixed l.1))

    by : (b : Bool) (o : Option (List ℕ × List ℕ)) → ((l : List ℕ × List ℕ) → o ≡ Some l → read_after mixed (p ++ (c ∷ [])) cs ≡ and_then (read_group ((p ++ (c ∷ [])) ++ l.0)) (λ g. option_map (λ gs. g ∷ gs) (read_groups mixed l.1))) → cond {A = Option (List ℕ × List ℕ)} (b && true) (Some ([], cs)) (option_map (λ (l : List ℕ × List ℕ). (c ∷ l.0, l.1)) o) ≡ Some (q, rest) → cond b (and_then (read_group p) (λ g. option_map (λ gs. g ∷ gs) (read_after mixed [] cs))) (read_after mixed (p ++ (c ∷ [])) cs) ≡ Go (q, rest)
    by true o rec k = ap (λ l. and_then (read_group l) (λ g. option_map (λ gs. g ∷ gs) (read_groups mixed cs))) (sym (append-nil p)) ∙ ap Go (some_inj k)
    by false None rec k = absurd (none-some _ k)
    by false (Some l) rec k = rec l refl ∙ ap (λ t. and_then (read_group t) (λ g. option_map (λ gs. g ∷ gs) (read_groups mixed l.1))) (append_assoc p (c ∷ []) l.0) ∙ ap Go (some_inj k)

pub without_colon : (mixed : Bool) (p text : List ℕ) → cut (colon ∷ []) text ≡ None → read_after mixed p text ≡ read_last mixed (p ++ text)
without_colon mixed p [] h = ap (read_last mixed) (sym (append-nil p))
without_colon mixed p (c ∷ cs) h = by (eqb c colon) (cut (colon ∷ []) cs) (without_colon mixed (p ++ (c ∷ [])) cs) h
  where
    by : (b : Bool) (o : Option (List ℕ × List ℕ)) → (o ≡ None → read_after mixed (p ++ (c ∷ [])) cs ≡ read_last mixed ((p ++ (c ∷ [])) ++ cs)) → cond {A = Option (List ℕ × List ℕ)} (b && true) (Some ([], cs)) (option_map (λ (l : List ℕ × List ℕ). (c ∷ l.0, l.1)) o) ≡ None → cond b (and_then (read_group p) (λ g. option_map (λ gs. g ∷ gs) (read_after mixed [] cs))) (read_after mixed (p ++ (c ∷ [])) cs) ≡ read_last mixed (p ++ (c ∷ cs))
    by true o rec k = absurd (none-some _ (sym k))
    by false None rec k = rec refl ∙ ap (read_last mixed) (append_assoc p (c ∷ []) cs)
    by false (Some l) rec k = absurd (none-some _ (sym k))

-- a turn of the reader: the piece before the colon, and then the rest
pub groups_step : (mixed : Bool) (t : ℕ × ℕ) (text q rest : List ℕ) → cut (colon ∷ []) text ≡ Some (q, rest) → and_then (read_groups mixed text) (total t) ≡ and_then (read_group q) (λ g. and_then (total t (g ∷ [])) (λ s. and_then (read_groups mixed rest) (total s)))
groups_step mixed t text q rest h =
    ap (λ o. and_then o (total t)) (after_colon mixed [] text q rest h) ∙ first (read_group q) (read_groups mixed rest)
  where
    none : (o : Option (ℕ × ℕ)) → ◌≡◌ {A = Option (ℕ × ℕ)} None (and_then o (λ s. None))
    none None = refl
    none (Some s) = refl

    first : (o : Option ℕ) (r : Option (List ℕ)) → and_then (and_then o (λ g. option_map (λ gs. g ∷ gs) r)) (total t) ≡ and_then o (λ g. and_then (total t (g ∷ [])) (λ s. and_then r (total s)))
    first None r = refl
    first (Some g) None = none (total t (g ∷ []))
    first (Some g) (Some gs) = total_more t g gs

-- where the text has no colon, the last piece is all of it
pub groups_end : (mixed : Bool) (t : ℕ × ℕ) (text : List ℕ) → cut (colon ∷ []) text ≡ None → and_then (read_groups mixed text) (total t) ≡ and_then (read_last mixed text) (total t)
groups_end mixed t text h = ap (λ o. and_then o (total t)) (without_colon mixed [] text h)

module _ (mixed : Bool) (t : ℕ × ℕ) (text q rest : List ℕ) (h : Some (q, rest) ≡ cut (colon ∷ []) text) where
  After : Option ℕ → Option (ℕ × ℕ)
  After o = and_then o (λ g. and_then (total t (g ∷ [])) (λ s. and_then (read_groups mixed rest) (total s)))

  pub step_no_group : None ≡ read_group q → None ≡ and_then (read_groups mixed text) (total t)
  unfolding After
  step_no_group e = sym (groups_step mixed t text q rest (sym h) ∙ ap After (sym e))

  module _ (g : ℕ) (e : Some g ≡ read_group q) (o : Option (ℕ × ℕ)) (f : o ≡ total t (g ∷ [])) where
    pub step_group : and_then o (λ s. and_then (read_groups mixed rest) (total s)) ≡ and_then (read_groups mixed text) (total t)
    unfolding After
    step_group = sym (groups_step mixed t text q rest (sym h) ∙ ap After (sym e) ∙ ap (λ o. and_then o (λ s. and_then (read_groups mixed rest) (total s))) (sym f))

-- a side with something in it
pub side_groups : (mixed : Bool) (text : List ℕ) → eqb (length text) 0 ≡ false → read_groups mixed text ≡ read_side mixed text
side_groups mixed [] h = absurd (eqb-false 0 0 h refl)
side_groups mixed (c ∷ cs) h = refl
