-- A write to one half of an interleave. Assumes nothing.
use Rattle.std.proofs.Common.{◌≡◌, ℕ, ◌*◌, ◌/◌, ◌^◌, ◌≤◌, min, Bool, true, false, cond, ◌⊎◌, Some, None, Ok, Err, Option, Result, sym, refl, ap, ◌∙◌, subst, inl, inr, ⊎_elim, arith, pow_mono}
use Rattle.std.proofs.lemmas.Bool.{and_parts, eqb-true, cases_Bool, true≢false, false≢true}
use Rattle.std.proofs.lemmas.Bool.Decides.{nat_tests}
use Rattle.store.specs.declared.place.Entry.{Entry}
use Rattle.store.specs.declared.place.Place.{Place}
use Rattle.store.specs.declared.shape.Shape.{Shape}
use Rattle.store.specs.declared.shape.WriteRefusal.{WriteRefusal}
use Rattle.store.specs.Shapes.{Inside}
use Rattle.store.specs.Writes.{ContentFits, Takes, Refused}
use Rattle.store.specs.Grids.{Grid, Changed, Writes}
use Rattle.store.specs.Interleaves.{interleaved_shape, is_even, half, interleaved}
use Rattle.store.proofs.Below.{below_cond}
use Rattle.store.proofs.Taken.{not_refused}

-- a place of an interleave is one of each half
inside_half : (f g : Grid) (t : Bool) (b s : ℕ) → Inside (interleaved f g).shape b s → Inside (cond t f g).shape (b / 2) s
inside_half f g t b s inside =
    let found = below_cond _ (2 * f.shape.buckets) b inside.bucket in
    let whole = and_parts _ _ found.0 in
    let same = and_parts _ _ whole.0 in
    let buckets = eqb-true f.shape.buckets g.shape.buckets same.0 in
    let slots = eqb-true f.shape.slots g.shape.slots same.1 in
    elim t as (λ t. Inside (cond t f g).shape (b / 2) s) [
      | true ↦ record { bucket = omega (arith, found.1); slot = inside.slot }
      | false ↦ record { bucket = omega (arith, found.1, buckets); slot = omega (arith, inside.slot, slots) }
    ]

fits_wider : (Z Y : ℕ) (content : Option Entry) → Z ≤ Y → ContentFits Z content → ContentFits Y content
fits_wider Z Y None le fits = tt
fits_wider Z Y (Some e) le fits =
    let p : 2 ^ Z ≤ 2 ^ Y = pow_mono le in
    record { digest = omega (arith, fits.digest); length = fits.length; tread = fits.tread; hop = fits.hop }

-- what an interleave takes, each half takes
half_takes : (f g : Grid) (t : Bool) (b s : ℕ) (content : Option Entry) → Takes (interleaved f g).shape b s content → Takes (cond t f g).shape (b / 2) s content
half_takes f g t b s content takes =
    let least = min f.shape.digest_bits g.shape.digest_bits in
    record {
      place = inside_half f g t b s takes.place;
      fits = elim t as (λ t. ContentFits (cond t f g).shape.digest_bits content) [
        | true ↦ fits_wider least f.shape.digest_bits content (omega arith) takes.fits
        | false ↦ fits_wider least g.shape.digest_bits content (omega arith) takes.fits
      ];
    }

-- two buckets of one half are one bucket where their halves are
same_bucket : (i b : ℕ) → is_even i ≡ is_even b → i / 2 ≡ b / 2 → i ≡ b
same_bucket i b e h = grind (arith, nat_tests)

same_half : (t u : Bool) → (t ≡ u) ⊎ (t ≡ u → ⊥)
same_half true true = inl refl
same_half true false = inr true≢false
same_half false true = inr false≢true
same_half false false = inl refl

-- the half of bucket b changes at its place, and the other half is as it was
module _ (f g f' g' : Grid) (b s : ℕ) (content : Option Entry) where
  half_changed : interleaved_shape f'.shape g'.shape ≡ interleaved_shape f.shape g.shape
      → Changed (half f g b) (b / 2) s content (half f' g' b) → ((i : ℕ) → (is_even i ≡ is_even b → ⊥) → half f' g' i ≡ half f g i)
      → Changed (interleaved f g) b s content (interleaved f' g')
  half_changed shapes change rest = record {
    shape = shapes;
    here = change.here;
    others = λ i j inside other.
        elim (same_half (is_even i) (is_even b)) [
          | inl e ↦
              ap (λ t. (cond t f' g').at (i / 2) j) e
              ∙ change.others (i / 2) j (inside_half f g (is_even b) i j inside) (λ same. other (same_bucket i b e same.0, same.1))
              ∙ sym (ap (λ t. (cond t f g).at (i / 2) j) e)
          | inr n ↦ ap (λ grid. grid.at (i / 2) j) (rest i n)
        ];
  }

-- a write to the half of bucket b, at the place there, is one to the interleave
module _ (f g h : Grid) (b s : ℕ) (content : Option Entry) (shape : Shape) (is : shape ≡ (interleaved f g).shape) (takes : Takes shape b s content)
    (place : Place) (halved : place ≡ record { bucket = b / 2; slot = s }) where
  taken : Takes (interleaved f g).shape b s content
  taken = subst (λ shape. Takes shape b s content) is takes

  pub first_written : {U : Type 0} (r : Result U WriteRefusal) → true ≡ is_even b → Writes f place.bucket place.slot content r h → Writes (interleaved f g) b s content r (interleaved h g)
  first_written (Ok u) e writes = (
    taken,
    let change = subst (λ p. Changed f p.bucket p.slot content h) halved writes.1 in
        half_changed f g h g b s content (ap (λ shape. interleaved_shape shape g.shape) change.shape)
        (subst (λ t. Changed (cond t f g) (b / 2) s content (cond t h g)) e change)
        (λ i n. ap (λ t. cond t h g) (odd i n) ∙ sym (ap (λ t. cond t f g) (odd i n))),
  )
    where
      odd : (i : ℕ) → (is_even i ≡ is_even b → ⊥) → is_even i ≡ false
      odd i n = ⊎_elim (λ t. absurd (n (t ∙ e))) (λ t. t) (cases_Bool (is_even i))
  first_written (Err r) e writes =
      absurd (not_refused f.shape (b / 2) s content r (half_takes f g true b s content taken)
      (subst (λ p. Refused f.shape p.bucket p.slot content r) halved writes.0))

  pub second_written : {U : Type 0} (r : Result U WriteRefusal) → false ≡ is_even b → Writes g place.bucket place.slot content r h → Writes (interleaved f g) b s content r (interleaved f h)
  second_written (Ok u) e writes = (
    taken,
    let change = subst (λ p. Changed g p.bucket p.slot content h) halved writes.1 in
        half_changed f g f h b s content (ap (interleaved_shape f.shape) change.shape)
        (subst (λ t. Changed (cond t f g) (b / 2) s content (cond t f h)) e change)
        (λ i n. ap (λ t. cond t f h) (even i n) ∙ sym (ap (λ t. cond t f g) (even i n))),
  )
    where
      even : (i : ℕ) → (is_even i ≡ is_even b → ⊥) → is_even i ≡ true
      even i n = ⊎_elim (λ t. t) (λ t. absurd (n (t ∙ e))) (cases_Bool (is_even i))
  second_written (Err r) e writes =
      absurd (not_refused g.shape (b / 2) s content r (half_takes f g false b s content taken)
      (subst (λ p. Refused g.shape p.bucket p.slot content r) halved writes.0))
