-- A text that is read as an address writes that address.
use Rattle.std.proofs.Common.{◌≡◌, ℕ, ◌+◌, ◌/◌, ◌%◌, ◌^◌, Bool, true, false, cond, ◌&&◌, eqb, ltb, leb, List, [], ◌∷◌, ◌++◌, length, Some, None, Option, sym, refl, ap, ◌∙◌, subst, inl, inr, append_assoc, append-nil, arith, MatchOption}
use Rattle.std.proofs.lemmas.Bool.{and_parts, eqb-true, leb-true, ltb-true}
use Rattle.std.specs.Option.{option_map, option_or}
use Rattle.std.specs.Str.Parse.{digits_value}
use Rattle.notation.specs.Chain.{and_then}
use Rattle.notation.specs.Cut.{cut}
use Rattle.notation.specs.Digits.{are_digits}
use Rattle.notation.specs.Groups.{colon, read_group, read_last, read_after, read_groups}
use Rattle.notation.specs.Ipv4.{read4}
use Rattle.notation.specs.Ipv6.{whole, read_side, read_sides, read6}
use Rattle.notation.specs.Writings.{WritesGroup, WritesGroups, WritesSide, Writes}
use Rattle.notation.proofs.Cuts.{cut_joins}
use Rattle.notation.proofs.Dotted.{dotted_only}
use Rattle.notation.proofs.Options.{some_inj, cond_none, when_true_some, and_then_some, mapped_some, exactly_related}
use Rattle.notation.proofs.Reading.{writing_read}
use Rattle.notation.proofs.Values.{digits_from}

group_only : (g : ℕ) (t : List ℕ) → read_group t ≡ Some g → WritesGroup g t
group_only g t e =
    let p = cond_none (leb (length t) 4) e in
    let q = when_true_some (ltb 0 (length t) && (are_digits 16 t && leb (digits_value 16 t) 65535)) p.1 in
    let some = and_parts _ _ q.0 in
    ((ltb-true 0 (length t) some.0, digits_from 16 t (and_parts _ _ some.1).0), leb-true (length t) 4 p.0, q.1)

-- one group
single : (mixed : Bool) (g : ℕ) (gs t : List ℕ) → g ∷ [] ≡ gs → WritesGroup g t → WritesGroups mixed gs t
single mixed g gs t e w = subst (λ l. WritesGroups mixed l t) e (inl (refl, w))

last_only : (mixed : Bool) (gs t : List ℕ) → read_last mixed t ≡ Some gs → WritesGroups mixed gs t
last_only mixed gs t = by (read_group t) (λ g e. group_only g t e)
  where
    dotted_groups : (b : Bool) → b ≡ true → option_map (λ a. a / 2 ^ 16 ∷ a % 2 ^ 16 ∷ []) (read4 t) ≡ Some gs → WritesGroups b gs t
    dotted_groups b m e =
        let x = mapped_some (λ a. a / 2 ^ 16 ∷ a % 2 ^ 16 ∷ []) (read4 t) gs e in let d = dotted_only x.0 t x.1 in
        subst (λ l. WritesGroups b l t) x.2 (inr (inl (m, (x.0, d.0, refl, d.1))))

    by : (o : Option ℕ) → ((g : ℕ) → o ≡ Some g → WritesGroup g t) → option_or (option_map (λ g. g ∷ []) o) (cond mixed (option_map (λ a. a / 2 ^ 16 ∷ a % 2 ^ 16 ∷ []) (read4 t)) None) ≡ Some gs → WritesGroups mixed gs t
    by (Some g) k e = single mixed g gs t (some_inj e) (k g refl)
    by None k e = let p = cond_none mixed e in dotted_groups mixed p.0 p.1

groups_only : (mixed : Bool) (p t gs : List ℕ) → read_after mixed p t ≡ Some gs → WritesGroups mixed gs (p ++ t)
groups_only mixed p [] gs e = subst (WritesGroups mixed gs) (sym (append-nil p)) (last_only mixed gs p e)
groups_only mixed p (c ∷ cs) gs e = by (eqb c colon) refl (λ l k. groups_only mixed [] cs l k) (groups_only mixed (p ++ (c ∷ [])) cs gs) e
  where
    by : (b : Bool) → eqb c colon ≡ b → ((l : List ℕ) → read_groups mixed cs ≡ Some l → WritesGroups mixed l cs) → (read_after mixed (p ++ (c ∷ [])) cs ≡ Some gs → WritesGroups mixed gs ((p ++ (c ∷ [])) ++ cs))
        → cond b (and_then (read_group p) (λ g. option_map (λ gs. g ∷ gs) (read_groups mixed cs))) (read_after mixed (p ++ (c ∷ [])) cs) ≡ Some gs → WritesGroups mixed gs (p ++ (c ∷ cs))
    by true h next on k =
        let x = and_then_some (read_group p) _ gs k in let y = mapped_some (λ gs. x.0 ∷ gs) (read_groups mixed cs) gs x.2 in
        subst (λ l. WritesGroups mixed l (p ++ (c ∷ cs))) y.2 (inr (inr (p, cs, group_only x.0 p x.1, next y.0 y.1, ap (λ d. p ++ (d ∷ cs)) (eqb-true c colon h))))
    by false h next on k = subst (WritesGroups mixed gs) (append_assoc p (c ∷ []) cs) (on k)

side_only : (mixed : Bool) (gs t : List ℕ) → read_side mixed t ≡ Some gs → WritesSide mixed gs t
side_only mixed gs [] e = subst (λ l. WritesSide mixed l []) (some_inj e) refl
side_only mixed [] (c ∷ cs) e = absurd (groups_only mixed [] (c ∷ cs) [] e)
side_only mixed (g ∷ gs) (c ∷ cs) e = groups_only mixed [] (c ∷ cs) (g ∷ gs) e

pub address_only : (a : ℕ) (t : List ℕ) → read6 t ≡ Some a → Writes a t
address_only a t = by (cut (colon ∷ colon ∷ []) t) refl
  where
    by : (o : Option (List ℕ × List ℕ)) → cut (colon ∷ colon ∷ []) t ≡ o → read_sides t o ≡ Some a → Writes a t
    by None c e =
        let x = and_then_some (read_groups true t) whole a e in let y = when_true_some (eqb (length x.0) 8) x.2 in
        inl (record { groups = x.0; eight = eqb-true (length x.0) 8 y.0; means = y.1; written = groups_only true [] t x.0 x.1 })
    by (Some sides) c e =
        let l = and_then_some (read_side false sides.0) _ a e in let r = and_then_some (read_side true sides.1) _ a l.2 in
        let y = when_true_some (leb (length l.0 + length r.0) 7) r.2 in
        let room = leb-true (length l.0 + length r.0) 7 y.0 in
        inr (record {
          left = l.0;
          right = r.0;
          room = omega arith;
          means = y.1;
          before = sides.0;
          after = sides.1;
          before_written = side_only false l.0 sides.0 l.1;
          after_written = side_only true r.0 sides.1 r.1;
          written = cut_joins (colon ∷ colon ∷ []) t sides.0 sides.1 c;
        })

-- the answer of a reader that answers as `read6` does
pub address_exact : (text : List ℕ) (o : Option ℕ) → o ≡ read6 text → MatchOption o ((a : ℕ) → Writes a text → ⊥) (λ a. Writes a text)
address_exact text o e = exactly_related (λ a. Writes a text) o (λ a w. e ∙ writing_read a text w) (λ a w. address_only a text (sym e ∙ w))
