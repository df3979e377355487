-- What is written of an address is one of its writings, so it reads back.
use Rattle.std.proofs.Common.{◌≡◌, ℕ, zero, suc, ◌+◌, ◌-◌, ◌*◌, ◌/◌, ◌%◌, ◌^◌, ◌<◌, ◌≤◌, Bool, true, false, cond, ltb, List, [], ◌∷◌, ◌++◌, length, replicate, Some, None, codes, Option, sym, refl, ap, ◌∙◌, subst, inl, inr, pow-suc, arith}
use native.Mathlib.Nat.{pow-zero}
use Rattle.std.proofs.lemmas.Int.Digits.{length-digits_of-le, number_push}
use Rattle.std.proofs.ByRecursion.{All-push}
use Rattle.std.proofs.lemmas.List.{length-append, length-map, length-replicate}
use Rattle.std.proofs.lemmas.Bool.{eqb-true, ltb-false}
use Rattle.std.proofs.lemmas.Fmt.{digits_is_IsNumeral}
use Rattle.std.specs.Str.Parse.{IsNumeral, digits_value}
use Rattle.std.specs.Int.Digits.{digits_of, number_from_digits}
use Rattle.std.specs.List.{AllByRecursion as All}
use Rattle.std.specs.Char.{digit_char}
use Rattle.notation.specs.Cut.{cut}
use Rattle.notation.specs.Ipv4.{dotted}
use Rattle.notation.specs.Ipv6.{read6}
use Rattle.notation.specs.Hexadecimal.{hex}
use Rattle.notation.specs.Ipv6Text.{groups_of, colons, longest_run, sides_text, groups_text, is_mapped, text6}
use Rattle.notation.specs.Writings.{WritesGroup, WritesGroups, WritesSide, Whole, Shortened, Writes}
use Rattle.notation.proofs.Cuts.{cut_joins}
use Rattle.notation.proofs.HexText.{hex_positive, digits_hex}
use Rattle.notation.proofs.Options.{cond_some}
use Rattle.notation.proofs.Reading.{writing_read}

-- a group's digits

hex_length : (g : ℕ) → g < 2 ^ 16 → length (hex g) ≤ 4
hex_length zero h = omega arith
hex_length (suc n) h =
    omega (arith, ap length (hex_positive (suc n) (omega arith)), length-map (digits_of 16 (suc n)) digit_char, length-digits_of-le 16 4 (suc n) (omega arith) (omega arith))

hex_written : (g : ℕ) → g < 2 ^ 16 → WritesGroup g (hex g)
hex_written g h =
    let w = subst (λ t. IsNumeral 16 t × (digits_value 16 t ≡ g)) (digits_hex g (omega arith)) (digits_is_IsNumeral 16 false (omega arith) (omega arith) g (omega arith)) in
    (w.0, hex_length g h, w.1)

-- groups with colons between

abbrev Small : List ℕ → Type 0
Small gs = All (λ g. g < 2 ^ 16) gs

colons_written : (mixed : Bool) (g : ℕ) (gs : List ℕ) → Small (g ∷ gs) → WritesGroups mixed (g ∷ gs) (colons (g ∷ gs))
colons_written mixed g [] s = inl (refl, hex_written g s.0)
colons_written mixed g (x ∷ gs) s = inr (inr (hex g, colons (x ∷ gs), hex_written g s.0, colons_written mixed x gs s.1, refl))

side_written : (mixed : Bool) (gs : List ℕ) → Small gs → WritesSide mixed gs (colons gs)
side_written mixed [] s = refl
side_written mixed (g ∷ gs) s = colons_written mixed g gs s

-- the groups of an address

groups_number : (n a : ℕ) → a < (2 ^ 16) ^ n → number_from_digits (2 ^ 16) (groups_of n a) ≡ a
groups_number zero a h = let p = pow-zero (2 ^ 16) in omega arith
groups_number (suc n) a h =
    let p = pow-suc (2 ^ 16) n in
    number_push (2 ^ 16) (groups_of n (a / 2 ^ 16)) (a % 2 ^ 16) ∙ ap (λ m. m * 2 ^ 16 + a % 2 ^ 16) (groups_number n (a / 2 ^ 16) (omega arith)) ∙ omega arith

groups_small : (n a : ℕ) → Small (groups_of n a)
groups_small zero a = tt
groups_small (suc n) a = All-push (λ g. g < 2 ^ 16) (groups_of n (a / 2 ^ 16)) (a % 2 ^ 16) (groups_small n (a / 2 ^ 16)) (omega arith)

small_left : (xs ys : List ℕ) → Small (xs ++ ys) → Small xs
small_left [] ys s = tt
small_left (x ∷ xs) ys s = (s.0, small_left xs ys s.1)

small_right : (xs ys : List ℕ) → Small (xs ++ ys) → Small ys
small_right [] ys s = s
small_right (x ∷ xs) ys s = small_right xs ys s.1

-- all the groups, or those on both sides of `::`

whole_written : (gs : List ℕ) → length gs ≡ 8 → Small gs → Whole (number_from_digits (2 ^ 16) gs) (colons gs)
whole_written [] e s = absurd (omega arith)
whole_written (g ∷ gs) e s = record { groups = g ∷ gs; eight = e; means = refl; written = colons_written true g gs s }

groups_written : (gs : List ℕ) → length gs ≡ 8 → Small gs → Writes (number_from_digits (2 ^ 16) gs) (groups_text gs)
groups_written gs e s = by (cond (ltb (longest_run gs) 2) None (cut (replicate (longest_run gs) 0) gs)) (λ p k. cond_some (ltb (longest_run gs) 2) k)
  where
    by : (o : Option (List ℕ × List ℕ)) → ((p : List ℕ × List ℕ) → o ≡ Some p → (ltb (longest_run gs) 2 ≡ false) × (cut (replicate (longest_run gs) 0) gs ≡ Some p)) → Writes (number_from_digits (2 ^ 16) gs) (sides_text gs o)
    by None k = inl (whole_written gs e s)
    by (Some p) k =
        let q = k p refl in
        let j = cut_joins (replicate (longest_run gs) 0) gs p.0 p.1 q.1 in
        let all = subst Small j s in
        let low : 2 ≤ longest_run gs = ltb-false (longest_run gs) 2 q.0 in
        let long : length p.0 + longest_run gs + length p.1 ≡ 8 =
        omega (arith, ap length j, length-append p.0 (replicate (longest_run gs) 0 ++ p.1), length-append (replicate (longest_run gs) 0) p.1, length-replicate {A = ℕ} (longest_run gs) 0) in
        inr (record {
          left = p.0;
          right = p.1;
          room = omega arith;
          means = ap (λ m. number_from_digits (2 ^ 16) (p.0 ++ (replicate m 0 ++ p.1))) {x = 8 - (length p.0 + length p.1)} {y = longest_run gs} (omega arith) ∙ ap (number_from_digits (2 ^ 16)) (sym j);
          before = colons p.0;
          after = colons p.1;
          before_written = side_written false p.0 (small_left p.0 _ all);
          after_written = side_written true p.1 (small_right (replicate (longest_run gs) 0) p.1 (small_right p.0 _ all));
          written = refl;
        })

-- an address that holds an IPv4 address
mapped_written : (a : ℕ) → is_mapped a ≡ true → Shortened a (codes "::ffff:" ++ dotted (a % 2 ^ 32))
mapped_written a m =
    let x = a % 2 ^ 32 in let e = eqb-true (a / 2 ^ 32) 65535 m in
    record {
      left = [];
      right = 65535 ∷ x / 2 ^ 16 ∷ x % 2 ^ 16 ∷ [];
      room = omega arith;
      means = joined a e;
      before = [];
      after = codes "ffff:" ++ dotted x;
      before_written = refl;
      after_written = inr (inr (codes "ffff", dotted x, hex_written 65535 (omega arith), inr (inl (refl, (x, omega arith, refl, refl))), refl));
      written = refl;
    }
  where
    joined : (a : ℕ) → a / 2 ^ 32 ≡ 65535 → (65535 * 2 ^ 16 + a % 2 ^ 32 / 2 ^ 16) * 2 ^ 16 + a % 2 ^ 32 % 2 ^ 16 ≡ a
    joined a e = omega arith

pub text_written : (a : ℕ) → a < 2 ^ 128 → Writes a (text6 a)
text_written a h = by (is_mapped a) refl
  where
    by : (b : Bool) → is_mapped a ≡ b → Writes a (cond b (codes "::ffff:" ++ dotted (a % 2 ^ 32)) (groups_text (groups_of 8 a)))
    by true m = inr (mapped_written a m)
    by false m = subst (λ n. Writes n (groups_text (groups_of 8 a))) (groups_number 8 a h) (groups_written (groups_of 8 a) refl (groups_small 8 a))

-- a reader that answers as `read6` does
pub reads_back : (text : List ℕ) (o : Option ℕ) → o ≡ read6 text → (a : ℕ) → a < 2 ^ 128 → text6 a ≡ text → o ≡ Some a
reads_back text o e a h k = e ∙ ap read6 (sym k) ∙ writing_read a (text6 a) (text_written a h)
