-- What the pieces of a written address are.
use Rattle.std.proofs.Common.{◌≡◌, ℕ, zero, suc, ◌-◌, ◌/◌, ◌%◌, ◌^◌, ◌<◌, ◌≤◌, Bool, true, false, cond, eqb, List, [], ◌∷◌, ◌++◌, map, length, get_or, take, drop, sym, refl, ap, ◌∙◌, append_assoc, append-nil, pow-suc, mod-eq_of_lt, arith}
use native.Mathlib.Nat.{div-eq_of_lt}
use lib.Utf8.{encode}
use Rattle.std.proofs.lemmas.Int.Digits.{digits_of_step}
use Rattle.std.proofs.lemmas.List.{map_push, take_rest}
use Rattle.std.proofs.lemmas.Bool.{cond-false, ne_eqb, eqb-true, eqb-false}
use Rattle.std.proofs.lemmas.Str.{encode_ascii}
use Rattle.std.proofs.lemmas.Bool.Decides.{nat_tests}
use Rattle.std.specs.Fmt.{digits_onto, digits}
use Rattle.std.specs.Int.Digits.{digits_of}
use Rattle.std.specs.Char.{digit_char}
use Rattle.notation.specs.Groups.{colon}
use Rattle.notation.specs.Hexadecimal.{hex}
use Rattle.notation.specs.Ipv6Text.{colons}

pub hex_positive : (n : ℕ) → 0 < n → hex n ≡ map digit_char (digits_of 16 n)
hex_positive n h = cond-false _ (48 ∷ []) _ (ne_eqb n 0 (λ e. omega arith))

hex_step : (n : ℕ) → 0 < n → hex n ≡ map digit_char (digits_of 16 (n / 16)) ++ (digit_char (n % 16) ∷ [])
hex_step n h = hex_positive n h ∙ ap (map digit_char) (digits_of_step 16 n (omega arith) h) ∙ map_push digit_char (digits_of 16 (n / 16)) (n % 16)

hex_one : (n : ℕ) → n < 16 → digit_char n ∷ [] ≡ hex n
hex_one zero h = refl
hex_one (suc n) h =
    (λ i. map digit_char (digits_of 16 (sym (div-eq_of_lt h) i)) ++ (digit_char (sym (mod-eq_of_lt h) i) ∷ [])) ∙ sym (hex_step (suc n) (omega arith))

hex_more : (n : ℕ) → 16 ≤ n → hex (n / 16) ++ (digit_char (n % 16) ∷ []) ≡ hex n
hex_more n h = ap (λ l. l ++ (digit_char (n % 16) ∷ [])) (hex_positive (n / 16) (omega arith)) ∙ sym (hex_step n (omega arith))

digit_char_lt : (n : ℕ) → n < 16 → digit_char n < 128
digit_char_lt n h = grind (arith, nat_tests)

encode_digit : (c n : ℕ) → n < 16 → c ≡ digit_char n → encode c ≡ digit_char n ∷ []
encode_digit c n h e = ap encode e ∙ encode_ascii (digit_char n) (digit_char_lt n h)

-- as they are written, digit by digit
pub hex_short : (c n : ℕ) → n < 16 → c ≡ digit_char (n % 16) → encode c ≡ hex n
hex_short c n h e = encode_digit c n h (e ∙ ap digit_char (mod-eq_of_lt h)) ∙ hex_one n h

pub hex_long : (c n : ℕ) → 16 ≤ n → c ≡ digit_char (n % 16) → hex (n / 16) ++ encode c ≡ hex n
hex_long c n h e = ap (λ l. hex (n / 16) ++ l) (encode_digit c (n % 16) (omega arith) e) ∙ hex_more n h

-- what `{:x}` writes of a number of 64 bits
digits_onto_hex : (k n : ℕ) (acc : List ℕ) → n < 16 ^ k → 0 < k → digits_onto k 16 false n acc ≡ hex n ++ acc
digits_onto_hex zero n acc h l = absurd (omega arith)
digits_onto_hex (suc k) n acc h l =
    by (eqb (n / 16) 0) refl (λ s l. digits_onto_hex k (n / 16) (digit_char (n % 16) ∷ acc) s l)
  where
    by : (b : Bool) → eqb (n / 16) 0 ≡ b → (n / 16 < 16 ^ k → 0 < k → digits_onto k 16 false (n / 16) (digit_char (n % 16) ∷ acc) ≡ hex (n / 16) ++ (digit_char (n % 16) ∷ acc)) → cond b (digit_char (n % 16) ∷ acc) (digits_onto k 16 false (n / 16) (digit_char (n % 16) ∷ acc)) ≡ hex n ++ acc
    by true e rest =
        let z = eqb-true (n / 16) 0 e in let m : n % 16 ≡ n = omega arith in
        ap (λ d. digit_char d ∷ acc) m ∙ ap (λ l. l ++ acc) (hex_one n (omega arith))
    by false e rest =
        let z = eqb-false (n / 16) 0 e in let p = pow-suc 16 k in
        rest (omega arith) (some k h z) ∙ sym (append_assoc (hex (n / 16)) (digit_char (n % 16) ∷ []) acc) ∙ ap (λ l. l ++ acc) (hex_more n (omega arith))
      where
        some : (k : ℕ) → n < 16 ^ suc k → (n / 16 ≡ 0 → ⊥) → 0 < k
        some zero s z = absurd (z (omega arith))
        some (suc k) s z = omega arith

pub digits_hex : (n : ℕ) → n < 2 ^ 64 → digits 16 false n ≡ hex n
unfolding digits
digits_hex n h = digits_onto_hex 64 n [] (omega arith) (omega arith) ∙ append-nil (hex n)

-- and group by group
pub colons_last : (gs : List ℕ) → length gs ≡ 1 → get_or gs 0 0 < 2 ^ 64 → digits 16 false (get_or gs 0 0) ≡ colons gs
colons_last [] e h = absurd (omega arith)
colons_last (g ∷ []) e h = digits_hex g h
colons_last (g ∷ x ∷ gs) e h = absurd (omega arith)

pub colons_first : (gs : List ℕ) → 2 ≤ length gs → get_or gs 0 0 < 2 ^ 64 → (digits 16 false (get_or gs 0 0) ++ (colon ∷ [])) ++ colons (take (length gs - 1) (drop 1 gs)) ≡ colons gs
colons_first [] k h = absurd (omega arith)
colons_first (g ∷ []) k h = absurd (omega arith)
colons_first (g ∷ x ∷ gs) k h = (λ i. (digits_hex g h i ++ (colon ∷ [])) ++ colons (take_rest (g ∷ x ∷ gs) 1 i)) ∙ append_assoc (hex g) (colon ∷ []) (colons (x ∷ gs))
