use Rattle.std.proofs.Common.{sym, ap, ◌∷◌, ◌∙◌, ◌<◌, length, arith}
use Rattle.std.proofs.lemmas.Bool.{true≢false}
use Rattle.store.specs.Places.{places_from}
use Rattle.store.proofs.Listed.{next_slot, next_bucket, none_left}
use Rattle.store.proofs.places.PlacesIterator.next.Goals.{then-place-self, else-place-self}
use Rattle.store.proofs.places.PlacesIterator.next.Goals as goal

pub returns-then-not-has-clause-steps : goal.returns-then-not-has-clause-steps
returns-then-not-has-clause-steps c =
    let none = none_left _ _ _ c.self.invariant (λ inside. true≢false (sym (c.has.ensures.1 inside) ∙ c.if-not-has.true)) in (sym c.self.view_is ∙ none, sym c.self.view_is ∙ none)

pub returns-clause-steps : goal.returns-clause-steps
returns-clause-steps c =
    let shape = c.self.inside.shape in
    let here = c.self.inside.next in
    let inside = c.has.ensures.0 c.if-not-has.false in
    elim c.if-place-self.branch [
      | then-place-self w ↦
          sym c.self.view_is ∙ next_slot shape here.bucket here.slot inside.bucket inside.slot
          ∙ ap (λ next. here ∷ places_from shape next.bucket next.slot) (sym w.self-is)
      | else-place-self w ↦
          sym c.self.view_is ∙ next_bucket shape here.bucket here.slot inside.bucket inside.slot (omega arith)
          ∙ ap (λ next. here ∷ places_from shape next.bucket next.slot) (sym w.self-is)
    ]

pub returns-clause-goes : goal.returns-clause-goes
returns-clause-goes c =
    let fewer : length (places_from c.self.inside.shape c.if-place-self.self.bucket c.if-place-self.self.slot) < length c.args.self.now =
    omega (arith, ap length (returns-clause-steps c)) in
    record { on = λ _. (tt, tt, fewer); keeps = tt; rests = λ _. tt }
