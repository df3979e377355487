use Rattle.std.proofs.Common.{ℕ, List, [], ◌∷◌, ◌++◌, take, flat_map, sym, ap, ◌∙◌, subst, take_all}
use Rattle.std.proofs.lemmas.List.{take_more, flat_map_more}
use Rattle.explanation.specs.Places.{PlacesOf}
use Rattle.explanation.specs.Replies.{heading_of, place_line}
use Rattle.explanation.proofs.reply.explain.Goals as goal

pub loop-place-preserved : goal.loop-place-preserved
loop-place-preserved c =
    let head : List ℕ = heading_of c.args.query.now in
    let items = c.deref-place-items.result.now in
    let i = c.loop-place.place-index in
    let place = c.place-item.result in
    c.in_ok-writeln.ensures.bytes
    ∙ ap (λ a. a ++ place_line place) c.loop-place.invariant
    ∙ flat_map_more place_line head (take i items) place
    ∙ ap (λ xs. head ++ flat_map place_line xs)
    (ap (λ x. take i items ++ (x ∷ [])) c.place-item.is ∙ sym (take_more items i place c.loop-place-test.true))

pub returns : goal.returns
returns c =
    let items = c.deref-place-items.result.now in
    let i = c.loop-place.place-index in
    record {
      places = items;
      are = subst (PlacesOf c.args.query.now) (sym c.deref-place-items.ensures.value) c.in_ok-places.ensures;
      text = c.loop-place.invariant ∙ ap (λ xs. heading_of c.args.query.now ++ flat_map place_line xs) (take_all i items c.loop-place-test.false);
    }
