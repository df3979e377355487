-- What the reader joins around `::` is what `around` says.
use Rattle.std.proofs.Common.{◌≡◌, ℕ, ◌+◌, ◌-◌, ◌*◌, ◌^◌, ◌<◌, ◌≤◌, leb, ◌⊎◌, List, ◌++◌, length, replicate, Some, None, Option, sym, ap, ◌∙◌, inl, inr, arith}
use Rattle.std.proofs.lemmas.Bool.{cases_lt, lt-leb}
use Rattle.std.proofs.lemmas.Option.{none-some}
use Rattle.std.specs.Bool.{then_some}
use Rattle.std.specs.Int.Digits.{number_from_digits}
use Rattle.notation.specs.Chain.{and_then}
use Rattle.notation.specs.Groups.{total}
use Rattle.notation.specs.Ipv6.{around}
use Rattle.notation.proofs.GroupSums.{number_around}
use Rattle.notation.proofs.Options.{when_true_some}

-- the address of two totals
abbrev pub joined : ℕ × ℕ → ℕ × ℕ → Option ℕ
joined l r = then_some (leb (l.0 + r.0) 7) (l.1 * 65536 ^ (8 - l.0) + r.1)

joined_around : (ls rs : List ℕ) → joined (0 + length ls, number_from_digits (2 ^ 16) ls) (0 + length rs, number_from_digits (2 ^ 16) rs) ≡ around ls rs
joined_around ls rs = ap (λ n. then_some (leb n 7) (number_from_digits (2 ^ 16) ls * 65536 ^ (8 - (0 + length ls)) + number_from_digits (2 ^ 16) rs)) {x = 0 + length ls + (0 + length rs)} {y = length ls + length rs} (omega arith) ∙ by (cases_lt (length ls + length rs) 8)
  where
    by : (length ls + length rs < 8) ⊎ (8 ≤ length ls + length rs) → then_some (leb (length ls + length rs) 7) (number_from_digits (2 ^ 16) ls * 65536 ^ (8 - (0 + length ls)) + number_from_digits (2 ^ 16) rs) ≡ around ls rs
    by (inl h) =
        ap (λ n. then_some (leb (length ls + length rs) 7) (number_from_digits (2 ^ 16) ls * 65536 ^ n + number_from_digits (2 ^ 16) rs)) {x = 8 - (0 + length ls)} {y = 8 - (length ls + length rs) + length rs} (omega arith)
        ∙ ap (then_some (leb (length ls + length rs) 7)) (sym (number_around (2 ^ 16) ls rs (8 - (length ls + length rs))))
    by (inr h) = let f = lt-leb (length ls + length rs) 7 (omega arith) in
        ap (λ b. then_some b (number_from_digits (2 ^ 16) ls * 65536 ^ (8 - (0 + length ls)) + number_from_digits (2 ^ 16) rs)) f
        ∙ sym (ap (λ b. then_some b (number_from_digits (2 ^ 16) (ls ++ (replicate (8 - (length ls + length rs)) 0 ++ rs)))) f)

pub joined_is : (left right : Option (List ℕ)) (l r : ℕ × ℕ) → Some l ≡ and_then left (total (0, 0)) → Some r ≡ and_then right (total (0, 0)) → joined l r ≡ and_then left (λ ls. and_then right (λ rs. around ls rs))
joined_is None right l r e f = absurd (none-some _ (sym e))
joined_is (Some ls) None l r e f = absurd (none-some _ (sym f))
joined_is (Some ls) (Some rs) l r e f = (λ i. joined (sym (when_true_some _ (sym e)).1 i) (sym (when_true_some _ (sym f)).1 i)) ∙ joined_around ls rs
