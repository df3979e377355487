use Rattle.std.proofs.Common.{◌≡◌, ◌^◌, ◌<◌, [], ◌∷◌, Err, Some, sym, ap, ◌∙◌, subst}
use Rattle.std.proofs.lemmas.Result.{err_from_is_err_and}
use Rattle.layout.specs.Prefixes.{Made}
use Rattle.lines.specs.Prefixes.{read_prefix}
use Rattle.notation.specs.Cut.{cut}
use Rattle.explanation.specs.Queries.{Answers, Placed}
use Rattle.explanation.proofs.Reading.{faulty}
use Rattle.explanation.proofs.query.read_query.Goals as goal

pub returns-in_err-prefix : goal.returns-in_err-prefix
returns-in_err-prefix c =
    let line = c.args.line.now in
    let name = c.in_ok-name.name.now in
    let text = c.in_ok-name.text.now in
    let layout = c.in_ok-layout.layout in
    let P = c.in_ok-address.address in
    let w = c.in_ok-address.length in
    let fault = c.in_err-prefix.field-0.0 in
    let cuts : cut (32 ∷ []) line ≡ Some (name, text) = sym (rw c.in_ok-name.ensures.ok_part at c.split_once.ensures) in
    let placed : Placed name layout = rw c.in_ok-layout.ensures.ok_part at c.layout_named.ensures in
    let reads : read_prefix layout.treads.width.bits text ≡ Some (P, w) = ap (λ x. read_prefix x.bits text) (sym c.width.ensures) ∙ sym c.read_prefix.ensures.value ∙ c.in_ok-address.ensures.ok_part in
    let bound : P < 2 ^ c.width.result.bits = rw c.in_ok-address.ensures.ok_part at c.read_prefix.ensures.bound in
    let p = err_from_is_err_and c.from_residual-in_err-prefix.result c.from_residual-in_err-prefix.ensures.1 in
    rw p.1 (subst (λ f. Answers line (Err f)) (sym p.2)
    (faulty line name text layout cuts placed P w fault reads
    (subst (λ x. P < 2 ^ x.bits) c.width.ensures bound)
    (subst (λ x. Made x P w (Err fault)) c.width-2.ensures c.in_err-prefix.ensures)))
