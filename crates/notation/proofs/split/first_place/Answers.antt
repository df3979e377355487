-- `find` tries each place in turn.
use Rattle.std.proofs.Common.{◌≡◌, ℕ, ◌-◌, Bool, true, false, eqb, List, length, take, drop, sym, ap, ◌∙◌, arith, rules}
use Rattle.std.specs.List.{starts_with}
use Rattle.std.proofs.lemmas.Slice.Eq.{starts_is}
use Rattle.std.proofs.lemmas.List.{take_rest}
use Rattle.std.proofs.lemmas.Bool.Decides.{Decides-eqb}
use Rattle.std.proofs.lemmas.Iterator.{first_from_Range}
use Rattle.notation.specs.Cut.{begins}
use Rattle.notation.proofs.Cuts.{begins_is, cut_from_place}
use Rattle.notation.proofs.split.first_place.Goals as goal

-- what `starts_with` answers at a place
starts : (text mark : List ℕ) (start : ℕ) (r : Bool) → r ≡ starts_with eqb (take (length text - start) (drop start text)) mark → begins mark (drop start text) ≡ r
starts text mark start r h = sym (begins_is mark _ r (starts_is Decides-eqb _ mark r h) ∙ ap (begins mark) (take_rest text start))

pub returns : goal.returns
returns c =
    let text = c.args.text.now in let mark = c.args.mark.now in
    cut_from_place mark text _ c.find.result
    (first_from_Range _ _ _ _ (λ i. begins mark (drop i text) ≡ true) (λ i. begins mark (drop i text) ≡ false) c.find.ensures.ran
    (λ i q k. starts text mark i true (search rules)) (λ i q k. (search rules, starts text mark i false (search rules)))) (omega arith)
