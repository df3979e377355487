-- What a chain over the treads made at one of its places. Assumes nothing.
use Rattle.std.proofs.Common.{◌≡◌, ℕ, ◌<◌, List, length, get_or, Some, None, Option, option_map, IfSome, IsSomeAnd, ap, ◌∙◌, subst₂}
use Rattle.std.specs.Borrow.{Bor}
use Rattle.std.proofs.lemmas.List.{get_or_read}
use Rattle.explanation.specs.Places.{PlaceOf}
use Rattle.explanation.specs.declared.query.Query.{Query}
use Rattle.explanation.specs.declared.place.Place.{Place}

-- from the place at o, which the closure made of the tread at a, and that tread, at b too, read at index i
pub made_at : (q : Query) (xs : List ℕ) (i : ℕ) (C : Bor ℕ → Place → Type 0) (o : Option Place) (a b : Option (Bor ℕ)) (y : Place)
    → i < length xs → option_map (λ z. z) o ≡ Some y → IfSome o (λ z. IsSomeAnd a (λ x. C x z)) → b ≡ a → IfSome b (λ x. x.now ≡ get_or xs i x.now)
    → ((x : Bor ℕ) (z : Place) → C x z → PlaceOf q x.now z) → PlaceOf q (get_or xs i 0) y
made_at q xs i C None a b y within is made same read gives = cc
made_at q xs i C (Some z) None b y within is made same read gives = absurd made
made_at q xs i C (Some z) (Some x) None y within is made same read gives = cc
made_at q xs i C (Some z) (Some x) (Some w) y within is made same read gives =
    let zy : z ≡ y = cc in
    let xw : x ≡ w = cc in
    subst₂ (PlaceOf q) (ap (λ b. b.now) xw ∙ get_or_read xs i w.now within read 0) zy (gives x z made)
