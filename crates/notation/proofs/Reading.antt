-- Each text that writes an address is read as that address.
use Rattle.std.proofs.Common.{◌≡◌, ℕ, ◌+◌, ◌-◌, ◌/◌, ◌%◌, ◌^◌, ◌<◌, ◌≤◌, Bool, true, false, cond, eqb, List, [], ◌∷◌, ◌++◌, length, get_or, drop, replicate, Some, None, Option, sym, refl, ap, ◌∙◌, subst, inl, inr, append_assoc, append-nil, arith}
use native.Mathlib.Nat.{pow-le-pow_right}
use Rattle.std.proofs.lemmas.Int.Digits.{digits_value-lt}
use Rattle.std.proofs.lemmas.Bool.{and_left, ne_eqb, eq-eqb, le-leb, lt-leb, cond-true, cond-false}
use Rattle.std.specs.Option.{option_map, option_or}
use Rattle.std.specs.Bool.{then_some}
use Rattle.std.specs.Int.Digits.{number_from_digits}
use Rattle.notation.specs.Chain.{and_then}
use Rattle.notation.specs.Cut.{begins, cut}
use Rattle.notation.specs.Digits.{read_digits}
use Rattle.notation.specs.Groups.{colon, read_group, read_last, read_groups}
use Rattle.notation.specs.Ipv4.{dotted, read4}
use Rattle.notation.specs.Ipv6.{whole, around, read_side, read_sides, read6}
use Rattle.notation.specs.Writings.{WritesGroup, WritesGroups, WritesSide, Whole, Shortened, Writes}
use Rattle.notation.proofs.Cuts.{Without, without_digits, cut_first, cut_without}
use Rattle.notation.proofs.Dotted.{dotted_back, dotted_without, dotted_long}
use Rattle.notation.proofs.ReadGroups.{after_colon, without_colon}
use Rattle.notation.proofs.Values.{accepted}

-- the pieces between colons

group_read : (g : ℕ) (t : List ℕ) → WritesGroup g t → read_group t ≡ Some g
group_read g t w =
    let p : 16 ^ length t ≤ 16 ^ 4 = pow-le-pow_right (omega arith) {i = length t} {j = 4} w.1 in
    let v = digits_value-lt 16 t w.0.1 in
    cond-true _ (read_digits 16 65535 t) None (le-leb (length t) 4 w.1) ∙ accepted 16 65535 t w.0.0 w.0.1 (omega arith) ∙ ap Some w.2

group_colonless : (g : ℕ) (t : List ℕ) → WritesGroup g t → Without colon t
group_colonless g t w = without_digits 16 colon t (omega arith) w.0.1

dotted_colonless : (a : ℕ) → Without colon (dotted a)
dotted_colonless a = dotted_without colon a (omega arith) (λ e. omega arith)

dotted_read : (a : ℕ) → a < 2 ^ 32 → read_last true (dotted a) ≡ Some (a / 2 ^ 16 ∷ a % 2 ^ 16 ∷ [])
dotted_read a h = λ i. option_or (option_map (λ g. g ∷ []) (no_group i)) (option_map (λ a. a / 2 ^ 16 ∷ a % 2 ^ 16 ∷ []) (dotted_back a (dotted a) h refl i))
  where
    no_group : read_group (dotted a) ≡ None
    no_group = cond-false _ (read_digits 16 65535 (dotted a)) None (lt-leb (length (dotted a)) 4 (dotted_long a))

-- a last piece, which has no colon in it
last_read : (mixed : Bool) (t gs : List ℕ) → Without colon t → read_last mixed t ≡ Some gs → read_groups mixed t ≡ Some gs
last_read mixed t gs w e = without_colon mixed [] t (cut_without colon t w) ∙ e

groups_read : (mixed : Bool) (gs t : List ℕ) → WritesGroups mixed gs t → read_groups mixed t ≡ Some gs
groups_read mixed [] t w = absurd w
groups_read mixed (g ∷ gs) t (inl w) =
    last_read mixed t (g ∷ gs) (group_colonless g t w.1)
    (ap (λ o. option_or (option_map (λ g. g ∷ []) o) (cond mixed (option_map (λ a. a / 2 ^ 16 ∷ a % 2 ^ 16 ∷ []) (read4 t)) None)) (group_read g t w.1) ∙ ap (λ l. Some (g ∷ l)) (sym w.0))
groups_read mixed (g ∷ gs) t (inr (inl w)) =
    let a = w.1.0 in
    subst (λ x. read_groups mixed x ≡ Some (g ∷ gs)) w.1.3
    (last_read mixed (dotted a) (g ∷ gs) (dotted_colonless a) (ap (λ b. read_last b (dotted a)) w.0 ∙ dotted_read a w.1.1 ∙ ap Some (sym w.1.2)))
groups_read mixed (g ∷ gs) t (inr (inr w)) =
    let p = w.0 in let rest = w.1 in
    ap (read_groups mixed) w.4
    ∙ after_colon mixed [] (p ++ (colon ∷ rest)) p rest (cut_first colon p rest (group_colonless g p w.2))
    ∙ (λ i. and_then (group_read g p w.2 i) (λ g. option_map (λ gs. g ∷ gs) (groups_read mixed gs rest w.3 i)))

-- the first `::` is the one that was written

abbrev onto : List ℕ → List ℕ × List ℕ → List ℕ × List ℕ
onto xs p = (xs ++ p.0, p.1)

onto_more : (x : ℕ) (xs : List ℕ) (o : Option (List ℕ × List ℕ)) → option_map (λ (p : List ℕ × List ℕ). (x ∷ p.0, p.1)) (option_map (onto xs) o) ≡ option_map (onto (x ∷ xs)) o
onto_more x xs None = refl
onto_more x xs (Some p) = refl

onto_append : (xs ys : List ℕ) (o : Option (List ℕ × List ℕ)) → option_map (onto xs) (option_map (onto ys) o) ≡ option_map (onto (xs ++ ys)) o
onto_append xs ys None = refl
onto_append xs ys (Some p) = ap (λ l. Some (l, p.1)) (sym (append_assoc xs ys p.0))

onto_nil : (o : Option (List ℕ × List ℕ)) → o ≡ option_map (onto []) o
onto_nil None = refl
onto_nil (Some p) = refl

-- a text that is passed over in the search for `::`
abbrev Passed : List ℕ → Type 0
Passed xs = (t : List ℕ) → cut (colon ∷ colon ∷ []) (xs ++ t) ≡ option_map (onto xs) (cut (colon ∷ colon ∷ []) t)

passed_colonless : (xs : List ℕ) → Without colon xs → Passed xs
passed_colonless [] w t = onto_nil (cut (colon ∷ colon ∷ []) t)
passed_colonless (x ∷ xs) w t =
    cond-false _ (Some ([], drop 2 (x ∷ (xs ++ t)))) _ (and_left (eqb x colon) _ (ne_eqb x colon w.0))
    ∙ ap (option_map (λ (p : List ℕ × List ℕ). (x ∷ p.0, p.1))) (passed_colonless xs w.1 t) ∙ onto_more x xs (cut (colon ∷ colon ∷ []) t)

-- a text that does not begin with a colon
abbrev NoColonFirst : List ℕ → Type 0
NoColonFirst t = get_or t 0 colon ≡ colon → ⊥

no_colon_begins : (t : List ℕ) → NoColonFirst t → begins (colon ∷ []) t ≡ false
no_colon_begins [] h = absurd (h refl)
no_colon_begins (c ∷ cs) h = and_left (eqb c colon) true (ne_eqb c colon h)

passed_colon : (t : List ℕ) → NoColonFirst t → cut (colon ∷ colon ∷ []) (colon ∷ t) ≡ option_map (onto (colon ∷ [])) (cut (colon ∷ colon ∷ []) t)
passed_colon t h = cond-false _ (Some ([], drop 1 t)) _ (no_colon_begins t h)

first_colonless : (xs t : List ℕ) → 0 < length xs → Without colon xs → NoColonFirst (xs ++ t)
first_colonless [] t h w e = omega arith
first_colonless (x ∷ xs) t h w e = w.0 e

groups_first : (mixed : Bool) (gs t u : List ℕ) → WritesGroups mixed gs t → NoColonFirst (t ++ u)
groups_first mixed [] t u w = absurd w
groups_first mixed (g ∷ gs) t u (inl w) = first_colonless t u w.1.0.0 (group_colonless g t w.1)
groups_first mixed (g ∷ gs) t u (inr (inl w)) =
    subst (λ x. NoColonFirst (x ++ u)) w.1.3 (first_colonless (dotted w.1.0) u (let l = dotted_long w.1.0 in omega arith) (dotted_colonless w.1.0))
groups_first mixed (g ∷ gs) t u (inr (inr w)) = λ e.
    first_colonless w.0 ((colon ∷ w.1) ++ u) w.2.0.0 (group_colonless g w.0 w.2) (ap (λ l. get_or l 0 colon) (sym (ap (λ l. l ++ u) w.4 ∙ append_assoc w.0 (colon ∷ w.1) u)) ∙ e)

groups_passed : (mixed : Bool) (gs xs : List ℕ) → WritesGroups mixed gs xs → Passed xs
groups_passed mixed [] xs w = absurd w
groups_passed mixed (g ∷ gs) xs (inl w) = passed_colonless xs (group_colonless g xs w.1)
groups_passed mixed (g ∷ gs) xs (inr (inl w)) = subst Passed w.1.3 (passed_colonless (dotted w.1.0) (dotted_colonless w.1.0))
groups_passed mixed (g ∷ gs) xs (inr (inr w)) = subst Passed (sym w.4) (λ t.
    ap (cut (colon ∷ colon ∷ [])) (append_assoc w.0 (colon ∷ w.1) t)
    ∙ passed_colonless w.0 (group_colonless g w.0 w.2) (colon ∷ (w.1 ++ t))
    ∙ ap (option_map (onto w.0)) (passed_colon (w.1 ++ t) (groups_first mixed gs w.1 t w.3) ∙ ap (option_map (onto (colon ∷ []))) (groups_passed mixed gs w.1 w.3 t) ∙ onto_append (colon ∷ []) w.1 _)
    ∙ onto_append w.0 (colon ∷ w.1) (cut (colon ∷ colon ∷ []) t))

side_passed : (mixed : Bool) (gs xs : List ℕ) → WritesSide mixed gs xs → Passed xs
side_passed mixed [] xs w = subst Passed (sym w) (passed_colonless [] tt)
side_passed mixed (g ∷ gs) xs w = groups_passed mixed (g ∷ gs) xs w

side_read : (mixed : Bool) (gs t : List ℕ) → WritesSide mixed gs t → read_side mixed t ≡ Some gs
side_read mixed [] t w = ap (read_side mixed) w
side_read mixed (g ∷ gs) [] w = absurd (groups_first mixed (g ∷ gs) [] [] w refl)
side_read mixed (g ∷ gs) (c ∷ cs) w = groups_read mixed (g ∷ gs) (c ∷ cs) w

whole_read : (a : ℕ) (t : List ℕ) → Whole a t → read6 t ≡ Some a
whole_read a t w =
    ap (read_sides t) (ap (cut (colon ∷ colon ∷ [])) (sym (append-nil t)) ∙ groups_passed true w.groups t w.written [])
    ∙ ap (λ o. and_then o whole) (groups_read true w.groups t w.written)
    ∙ ap (λ b. then_some b (number_from_digits (2 ^ 16) w.groups)) (eq-eqb (length w.groups) 8 w.eight) ∙ ap Some w.means

shortened_read : (a : ℕ) (t : List ℕ) → Shortened a t → read6 t ≡ Some a
shortened_read a t w =
    let l = w.left in let r = w.right in
    ap (read_sides t) (ap (cut (colon ∷ colon ∷ [])) w.written ∙ side_passed false l w.before w.before_written (colon ∷ colon ∷ w.after) ∙ ap (λ x. Some (x, w.after)) (append-nil w.before))
    ∙ (λ i. and_then (side_read false l w.before w.before_written i) (λ left. and_then (side_read true r w.after w.after_written i) (λ right. around left right)))
    ∙ ap (λ b. then_some b (number_from_digits (2 ^ 16) (l ++ (replicate (8 - (length l + length r)) 0 ++ r)))) (le-leb (length l + length r) 7 (let h = w.room in omega arith)) ∙ ap Some w.means

pub writing_read : (a : ℕ) (t : List ℕ) → Writes a t → read6 t ≡ Some a
writing_read a t (inl w) = whole_read a t w
writing_read a t (inr w) = shortened_read a t w
