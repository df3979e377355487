-- What a reader's answer says of its tests, and a reader that is exact.
use Rattle.std.proofs.Common.{◌≡◌, ℕ, Bool, true, false, cond, List, Some, None, Option, refl, MatchOption}
use Rattle.std.proofs.lemmas.Option.{none-some}
use Rattle.std.specs.Option.{option_map}
use Rattle.std.specs.Bool.{then_some}
use Rattle.notation.specs.Chain.{and_then}

pub some_inj : {A : Type 0} {x y : A} → Some x ≡ Some y → x ≡ y
some_inj h = cc

pub when_true_some : {A : Type 0} (b : Bool) {x y : A} → then_some b x ≡ Some y → (b ≡ true) × (x ≡ y)
when_true_some true h = (refl, some_inj h)
when_true_some false h = absurd (none-some _ h)

pub cond_some : {A : Type 0} (b : Bool) {o : Option A} {y : A} → cond b None o ≡ Some y → (b ≡ false) × (o ≡ Some y)
cond_some true h = absurd (none-some _ h)
cond_some false h = (refl, h)

pub and_then_some : {A B : Type 0} (o : Option A) (f : A → Option B) (y : B) → and_then o f ≡ Some y → (x : A) × (o ≡ Some x) × (f x ≡ Some y)
and_then_some None f y h = absurd (none-some _ h)
and_then_some (Some x) f y h = (x, refl, h)

pub mapped_some : {A B : Type 0} (f : A → B) (o : Option A) (y : B) → option_map f o ≡ Some y → (x : A) × (o ≡ Some x) × (f x ≡ y)
mapped_some f None y h = absurd (none-some _ h)
mapped_some f (Some x) y h = (x, refl, some_inj h)

pub cond_none : {A : Type 0} (b : Bool) {o : Option A} {y : A} → cond b o None ≡ Some y → (b ≡ true) × (o ≡ Some y)
cond_none true h = (refl, h)
cond_none false h = absurd (none-some _ h)

-- a reader is exact if it reads back what is written, and answers only what is written so
pub exactly : {A : Type 0} (In : A → Type 0) (write : A → List ℕ) (text : List ℕ) (o : Option A) → ((a : A) → In a → write a ≡ text → o ≡ Some a) → ((a : A) → o ≡ Some a → In a × (write a ≡ text)) → MatchOption o ((a : A) → In a → write a ≡ text → ⊥) (λ a. In a × (write a ≡ text))
exactly In write text None back only = λ a h e. none-some a (back a h e)
exactly In write text (Some a) back only = only a refl

-- the same where a text may be written in several ways
pub exactly_related : {A : Type 0} (R : A → Type 0) (o : Option A) → ((a : A) → R a → o ≡ Some a) → ((a : A) → o ≡ Some a → R a) → MatchOption o ((a : A) → R a → ⊥) R
exactly_related R None back only = λ a w. none-some a (back a w)
exactly_related R (Some a) back only = only a refl
