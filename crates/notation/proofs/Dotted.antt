-- `read4` reads exactly the dotted forms.
use Rattle.std.proofs.Common.{◌≡◌, ℕ, ◌+◌, ◌*◌, ◌/◌, ◌%◌, ◌^◌, ◌<◌, ◌≤◌, List, [], ◌∷◌, ◌++◌, length, Some, decimal, Option, sym, refl, ap, ◌∙◌, subst, arith, length-append, MatchOption}
use native.Mathlib.Nat.{div-div-eq-div-mul}
use Rattle.std.proofs.lemmas.Fmt.{decimal_is_IsNumeral, decimal_nonempty}
use Rattle.std.specs.Option.{option_map}
use Rattle.std.specs.Char.{digit_value}
use Rattle.notation.specs.Chain.{and_then}
use Rattle.notation.specs.Cut.{cut}
use Rattle.notation.specs.Ipv4.{dot, dotted, read4, read_octet, read_octet_and_dot}
use Rattle.notation.proofs.Cuts.{Without, without_append, without_digits, cut_first, cut_joins}
use Rattle.notation.proofs.Decimals.{decimal_back, decimal_only}
use Rattle.notation.proofs.Options.{and_then_some, mapped_some, exactly}

octet_back : (n : ℕ) → n ≤ 255 → read_octet (decimal n) ≡ Some n
octet_back n h = decimal_back 255 n (decimal n) (omega arith) h refl

octet_dot_back : (n : ℕ) (rest : List ℕ) → n ≤ 255 → read_octet_and_dot (decimal n ++ (dot ∷ rest)) ≡ Some (n, rest)
octet_dot_back n rest h =
    ap (λ o. and_then o (λ parts. option_map (λ n. (n, parts.1)) (read_octet parts.0))) (cut_first dot (decimal n) rest (without_digits 10 dot (decimal n) (omega arith) (decimal_is_IsNumeral n (omega arith)).0.1))
    ∙ ap (option_map (λ n. (n, rest))) (octet_back n h)

octet_dot_only : (text : List ℕ) (p : ℕ × List ℕ) → read_octet_and_dot text ≡ Some p → (p.0 ≤ 255) × (text ≡ decimal p.0 ++ (dot ∷ p.1))
octet_dot_only text p h =
    let a = and_then_some (cut (dot ∷ []) text) _ _ h in let b = mapped_some (λ n. (n, a.0.1)) (read_octet a.0.0) p a.2 in
    let d = decimal_only 255 b.0 a.0.0 (omega arith) b.1 in
    let e = cut_joins (dot ∷ []) text a.0.0 a.0.1 a.1 in (
      subst (λ n. n ≤ 255) (ap (λ (q : ℕ × List ℕ). q.0) b.2) d.0,
      e ∙ ap (λ l. l ++ (dot ∷ a.0.1)) (sym d.1) ∙ ap (λ (q : ℕ × List ℕ). decimal q.0 ++ (dot ∷ q.1)) b.2,
    )

-- the octets of a number that is made of four
octets : (a b c d n : ℕ) → a ≤ 255 → b ≤ 255 → c ≤ 255 → d ≤ 255 → a * 2 ^ 24 + b * 2 ^ 16 + c * 2 ^ 8 + d ≡ n → (n < 2 ^ 32) × (n / 2 ^ 24 % 2 ^ 8 ≡ a) × (n / 2 ^ 16 % 2 ^ 8 ≡ b) × (n / 2 ^ 8 % 2 ^ 8 ≡ c) × (n % 2 ^ 8 ≡ d)
octets a b c d n ha hb hc hd e = (omega arith, omega arith, omega arith, omega arith, omega arith)

low_octet : (q : ℕ) → q / 2 ^ 8 * 2 ^ 8 + q % 2 ^ 8 ≡ q
low_octet q = omega arith

octets_join : (n q1 q2 q3 a b c d : ℕ) → q1 * 2 ^ 8 + d ≡ n → q2 * 2 ^ 8 + c ≡ q1 → q3 * 2 ^ 8 + b ≡ q2 → a ≡ q3 → a * 2 ^ 24 + b * 2 ^ 16 + c * 2 ^ 8 + d ≡ n
octets_join n q1 q2 q3 a b c d h0 h1 h2 h3 = omega arith

octets_sum : (n : ℕ) → n < 2 ^ 32 → n / 2 ^ 24 % 2 ^ 8 * 2 ^ 24 + n / 2 ^ 16 % 2 ^ 8 * 2 ^ 16 + n / 2 ^ 8 % 2 ^ 8 * 2 ^ 8 + n % 2 ^ 8 ≡ n
octets_sum n h =
    octets_join n (n / 2 ^ 8) (n / 2 ^ 16) (n / 2 ^ 24) _ _ _ _ (low_octet n)
    (ap (λ q. q * 2 ^ 8 + n / 2 ^ 8 % 2 ^ 8) (sym (div-div-eq-div-mul n (2 ^ 8) (2 ^ 8))) ∙ low_octet (n / 2 ^ 8))
    (ap (λ q. q * 2 ^ 8 + n / 2 ^ 16 % 2 ^ 8) (sym (div-div-eq-div-mul n (2 ^ 16) (2 ^ 8))) ∙ low_octet (n / 2 ^ 16))
    (omega arith)

pub dotted_back : (a : ℕ) (text : List ℕ) → a < 2 ^ 32 → dotted a ≡ text → read4 text ≡ Some a
dotted_back n text h e = subst (λ t. read4 t ≡ Some n) e
    (let a = n / 2 ^ 24 % 2 ^ 8 in let b = n / 2 ^ 16 % 2 ^ 8 in let c = n / 2 ^ 8 % 2 ^ 8 in let d = n % 2 ^ 8 in
    let t3 = decimal d in let t2 = decimal c ++ (dot ∷ t3) in let t1 = decimal b ++ (dot ∷ t2) in
    ap (λ o. and_then o (λ a. and_then (read_octet_and_dot a.1) (λ b. and_then (read_octet_and_dot b.1) (λ c. option_map (λ d. a.0 * 2 ^ 24 + b.0 * 2 ^ 16 + c.0 * 2 ^ 8 + d) (read_octet c.1))))) (octet_dot_back a t1 (omega arith))
    ∙ ap (λ o. and_then o (λ b. and_then (read_octet_and_dot b.1) (λ c. option_map (λ d. a * 2 ^ 24 + b.0 * 2 ^ 16 + c.0 * 2 ^ 8 + d) (read_octet c.1)))) (octet_dot_back b t2 (omega arith))
    ∙ ap (λ o. and_then o (λ c. option_map (λ d. a * 2 ^ 24 + b * 2 ^ 16 + c.0 * 2 ^ 8 + d) (read_octet c.1))) (octet_dot_back c t3 (omega arith))
    ∙ ap (option_map (λ d. a * 2 ^ 24 + b * 2 ^ 16 + c * 2 ^ 8 + d)) (octet_back d (omega arith))
    ∙ ap Some (octets_sum n h))

pub dotted_only : (n : ℕ) (text : List ℕ) → read4 text ≡ Some n → (n < 2 ^ 32) × (dotted n ≡ text)
dotted_only n text h =
    let a = and_then_some (read_octet_and_dot text) _ _ h in let b = and_then_some (read_octet_and_dot a.0.1) _ _ a.2 in
    let c = and_then_some (read_octet_and_dot b.0.1) _ _ b.2 in let d = mapped_some _ (read_octet c.0.1) n c.2 in
    let ta = octet_dot_only text a.0 a.1 in let tb = octet_dot_only a.0.1 b.0 b.1 in let tc = octet_dot_only b.0.1 c.0 c.1 in
    let td = decimal_only 255 d.0 c.0.1 (omega arith) d.1 in
    let o = octets a.0.0 b.0.0 c.0.0 d.0 n ta.0 tb.0 tc.0 td.0 d.2 in (
      o.0,
      (λ i. decimal (o.1 i) ++ (dot ∷ (decimal (o.2 i) ++ (dot ∷ (decimal (o.3 i) ++ (dot ∷ decimal (o.4 i)))))))
          ∙ ap (λ t. decimal a.0.0 ++ (dot ∷ (decimal b.0.0 ++ (dot ∷ (decimal c.0.0 ++ (dot ∷ t)))))) td.1
          ∙ ap (λ t. decimal a.0.0 ++ (dot ∷ (decimal b.0.0 ++ (dot ∷ t)))) (sym tc.1)
          ∙ ap (λ t. decimal a.0.0 ++ (dot ∷ t)) (sym tb.1) ∙ sym ta.1,
    )

-- the answer of a reader that answers as `read4` does
pub dotted_exact : (text : List ℕ) (o : Option ℕ) → o ≡ read4 text → MatchOption o ((a : ℕ) → a < 2 ^ 32 → dotted a ≡ text → ⊥) (λ a. (a < 2 ^ 32) × (dotted a ≡ text))
dotted_exact text o e = exactly (λ a. a < 2 ^ 32) dotted text o (λ a k w. e ∙ dotted_back a text k w) (λ a w. dotted_only a text (sym e ∙ w))

-- a dotted form has no colon in it, and is longer than a group
pub dotted_without : (m a : ℕ) → 10 ≤ digit_value m → (dot ≡ m → ⊥) → Without m (dotted a)
dotted_without m a h k = part (a / 2 ^ 24) _ (part (a / 2 ^ 16) _ (part (a / 2 ^ 8) _ (digits a)))
  where
    digits : (n : ℕ) → Without m (decimal (n % 2 ^ 8))
    digits n = without_digits 10 m (decimal (n % 2 ^ 8)) h (decimal_is_IsNumeral (n % 2 ^ 8) (omega arith)).0.1

    part : (n : ℕ) (rest : List ℕ) → Without m rest → Without m (decimal (n % 2 ^ 8) ++ (dot ∷ rest))
    part n rest w = without_append m (decimal (n % 2 ^ 8)) (dot ∷ rest) (digits n) (k, w)

pub dotted_long : (a : ℕ) → 4 < length (dotted a)
dotted_long a =
    let d = decimal (a % 2 ^ 8) in let c = decimal (a / 2 ^ 8 % 2 ^ 8) ++ (dot ∷ d) in let b = decimal (a / 2 ^ 16 % 2 ^ 8) ++ (dot ∷ c) in
    let x = length-append (decimal (a / 2 ^ 24 % 2 ^ 8)) (dot ∷ b) in let y = length-append (decimal (a / 2 ^ 16 % 2 ^ 8)) (dot ∷ c) in
    let z = length-append (decimal (a / 2 ^ 8 % 2 ^ 8)) (dot ∷ d) in
    omega (arith, x, y, z, some (a / 2 ^ 24), some (a / 2 ^ 16), some (a / 2 ^ 8), some a)
  where
    some : (n : ℕ) → 0 < length (decimal (n % 2 ^ 8))
    some n = decimal_nonempty (n % 2 ^ 8) (omega arith)
