use Rattle.std.proofs.Common.{◌≡◌, ltb, rules}
use Rattle.std.proofs.lemmas.List.Sorted.{answers_always}
use Rattle.layout.proofs.Rising.{rises_from}
use Rattle.layout.proofs.treads.making.rises.Goals as goal

pub returns : goal.returns
returns c =
    rises_from c.args.treads.now c.is_sorted_by.result
    (c.is_sorted_by.ensures.cases ltb (answers_always _ (λ a r. r ≡ ltb a.0.now a.1.0.now) _ (λ f a r f' k. search rules)))
