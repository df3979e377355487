use Rattle.std.proofs.Common.{rules, sym, ap, ◌∙◌}
use Rattle.std.specs.List.{flat_map}
use Rattle.std.specs.Iterator.Adapters.{filter_map_source, filter_map_callee}
use Rattle.std.proofs.lemmas.List.{map-id}
use Rattle.std.proofs.lemmas.Iterator.Consumers.{YieldsList-from_first, YieldsList-from_filter_map, YieldsList-end}
use Rattle.placement.specs.Listings.{occupied_at, line_of}
use Rattle.placement.proofs.listing.lines.Goals as goal

-- the loop took each place that is occupied
pub returns : goal.returns
returns c =
    let iterator = c.into_iter-occupied-iterator.ensures.into_iter_gives in
    let chain = c.filter_map-occupied-items.ensures in
    let places = YieldsList-from_first (λ p. p) (λ ps. ps) c.args.places (ap filter_map_source iterator ∙ chain.source) in
    let all =
    YieldsList-end (YieldsList-from_filter_map _ (occupied_at c.args.store.now) places (ap filter_map_callee iterator ∙ chain.closure) (λ x r q k. search rules))
    c.loop-occupied.yielded _ c.loop-occupied.yielded_by _ _ c.in-None.is c.next.ensures.steps in
    c.loop-occupied.invariant ∙ ap (flat_map line_of) (sym (map-id c.loop-occupied.yielded) ∙ all.0)
