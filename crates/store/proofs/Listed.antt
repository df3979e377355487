-- The places of a shape, in order. Assumes nothing.
use Rattle.std.proofs.Common.{◌≡◌, ℕ, zero, suc, ◌+◌, ◌-◌, ◌*◌, ◌<◌, ◌≤◌, List, [], ◌∷◌, ◌++◌, length, map, drop, get_or, All, Some, sym, refl, ap, ◌∙◌, add-one, zero-add, add-zero, zero-mul, mul_comm, arith}
use native.Mathlib.Decide.{dec_lt}
use Rattle.std.specs.List.{range_with_len}
use Rattle.std.proofs.Math.Seq.{drop-nil, drop-cons, drop-append_seam}
use Rattle.std.proofs.lemmas.Option.{slice_get-get_or}
use Rattle.std.proofs.lemmas.Nat.{mul-add-lt}
use Rattle.std.proofs.Math.Nat.{suc-mul}
use Rattle.std.proofs.lemmas.List.{length-append, get_or_append_left, get_or-append_right}
use Rattle.std.proofs.lemmas.List.FromFn.{length-range_with_len, get_or-range_with_len, length-map-range_with_len, get_or-map-range_with_len}
use Rattle.std.proofs.lemmas.List.Elements.{All-map, All-append}
use Rattle.store.specs.declared.place.Place.{Place}
use Rattle.store.specs.declared.shape.Shape.{Shape}
use Rattle.store.specs.Shapes.{Inside}
use Rattle.store.specs.Places.{bucket_places, all_places, places_from, Lists}

abbrev place : ℕ → ℕ → Place
place b s = record { bucket = b; slot = s }

abbrev row : ℕ → ℕ → List Place
row S b = map (place b) (range_with_len 0 S)

length_row : (S b : ℕ) → length (row S b) ≡ S
length_row S b = length-map-range_with_len (place b) 0 S

length_places : (S b n : ℕ) → length (bucket_places S b n) ≡ n * S
length_places S b zero = sym (zero-mul S)
length_places S b (suc n) =
    let one = length_row S b in
    let more = length_places S (b + 1) n in
    let both = length-append (row S b) (bucket_places S (b + 1) n) in
    omega (arith, suc-mul n S)

at_place : (S b n i s : ℕ) (d : Place) → i < n → s < S → get_or (bucket_places S b n) (i * S + s) d ≡ place (b + i) s
at_place S b zero i s d p q = absurd (omega arith)
at_place S b (suc n) zero s d p q =
    let here : s < length (row S b) = omega (arith, length_row S b) in
    ap (λ k. get_or (bucket_places S b (suc n)) k d) (ap (λ k. k + s) (zero-mul S) ∙ zero-add s)
    ∙ get_or_append_left (row S b) (bucket_places S (b + 1) n) d s here
    ∙ get_or-map-range_with_len (place b) 0 S s s d q (zero-add s)
    ∙ ap (λ b. place b s) (sym (add-zero b))
at_place S b (suc n) (suc i) s d p q =
    let far : suc i * S + s - S ≡ i * S + s = omega (arith, suc-mul i S) in
    let next : b + 1 + i ≡ b + suc i = omega arith in
    get_or-append_right (row S b) (bucket_places S (b + 1) n) S (suc i * S + s) d (length_row S b) (omega (arith, suc-mul i S))
    ∙ ap (λ k. get_or (bucket_places S (b + 1) n) k d) far
    ∙ at_place S (b + 1) n i s d (omega arith) q
    ∙ ap (λ b. place b s) next

-- a place of n buckets of S slots from bucket b on
abbrev Among : ℕ → ℕ → ℕ → Place → Type 0
Among S b n p = (b ≤ p.bucket) × (p.bucket < b + n) × (p.slot < S)

among_later : (S b n : ℕ) (p : Place) → Among S (b + 1) n p → Among S b (suc n) p
among_later S b n p among = (omega (arith, among.0), omega (arith, among.1), among.2)

among_row : (S b n : ℕ) → All (λ s. Among S b (suc n) (place b s)) (range_with_len 0 S)
among_row S b n = λ k d h.
    let below : k < S = omega (arith, length-range_with_len 0 S) in
    (omega arith, omega arith, omega (arith, get_or-range_with_len 0 S k d below))

all_among : (S b n : ℕ) → All (Among S b n) (bucket_places S b n)
all_among S b zero = λ k d h. absurd (omega arith)
all_among S b (suc n) =
    All-append (Among S b (suc n)) (row S b) (bucket_places S (b + 1) n)
    (All-map (Among S b (suc n)) (place b) (range_with_len 0 S) (among_row S b n))
    (λ k d h. among_later S b n (get_or (bucket_places S (b + 1) n) k d) (all_among S (b + 1) n k d h))

pub lists : (shape : Shape) → Lists shape (all_places shape)
lists shape = record {
  inside = λ k d h.
      let found = all_among shape.slots 0 shape.buckets k d h in
      record { bucket = omega (arith, found.1); slot = found.2 };
  count = length_places shape.slots 0 shape.buckets;
  each = λ b s inside.
      let S = shape.slots in
      let at = at_place S 0 shape.buckets b s (place b s) inside.bucket inside.slot in
      let all = length_places S 0 shape.buckets in
      let less = mul-add-lt b S s shape.buckets inside.bucket inside.slot in
      let below : b * S + s < length (all_places shape) = omega (arith, mul_comm shape.buckets S) in
      slice_get-get_or (all_places shape) (b * S + s) (place b s) below
      ∙ ap Some (at ∙ ap (λ b. place b s) (zero-add b));
}

-- what is left after the first
later : (shape : Shape) (b : ℕ) → b < shape.buckets → bucket_places shape.slots b (shape.buckets - b) ≡ row shape.slots b ++ bucket_places shape.slots (b + 1) (shape.buckets - (b + 1))
later shape b h = let more : shape.buckets - b ≡ suc (shape.buckets - (b + 1)) = omega arith in ap (bucket_places shape.slots b) more

first_of_row : (S b s : ℕ) (more : List Place) → s < S → drop s (row S b ++ more) ≡ place b s ∷ drop (s + 1) (row S b ++ more)
first_of_row S b s more h =
    let within : s < length (row S b) = omega (arith, length_row S b) in
    let longer : s < length (row S b ++ more) = omega (arith, length-append (row S b) more) in
    rw add-one (drop-cons (row S b ++ more) s (place b s) longer
    ∙ ap (λ p. p ∷ drop (suc s) (row S b ++ more))
    (get_or_append_left (row S b) more (place b s) s within ∙ get_or-map-range_with_len (place b) 0 S s s (place b s) h (zero-add s)))

pub next_slot : (shape : Shape) (b s : ℕ) → b < shape.buckets → s < shape.slots → places_from shape b s ≡ place b s ∷ places_from shape b (s + 1)
next_slot shape b s p q =
    let more = bucket_places shape.slots (b + 1) (shape.buckets - (b + 1)) in
    ap (drop s) (later shape b p) ∙ first_of_row shape.slots b s more q ∙ ap (λ places. place b s ∷ drop (s + 1) places) (sym (later shape b p))

pub next_bucket : (shape : Shape) (b s : ℕ) → b < shape.buckets → s < shape.slots → shape.slots ≤ s + 1 → places_from shape b s ≡ place b s ∷ places_from shape (b + 1) 0
next_bucket shape b s p q r =
    let more = bucket_places shape.slots (b + 1) (shape.buckets - (b + 1)) in
    let last : s + 1 ≡ length (row shape.slots b) = omega (arith, length_row shape.slots b) in
    ap (drop s) (later shape b p)
    ∙ first_of_row shape.slots b s more q
    ∙ ap (λ k. place b s ∷ drop k (row shape.slots b ++ more)) last
    ∙ ap (λ places. place b s ∷ places) (drop-append_seam (row shape.slots b) more)

no_slots : (b n : ℕ) → bucket_places 0 b n ≡ []
no_slots b zero = refl
no_slots b (suc n) = no_slots (b + 1) n

pub none_left : (shape : Shape) (b s : ℕ) → s ≤ shape.slots - 1 → (Inside shape b s → ⊥) → places_from shape b s ≡ []
none_left shape b s within outside =
    elim (dec_lt b shape.buckets) [
      | yes p ↦
          elim (dec_lt s shape.slots) [
            | yes q ↦ absurd (outside (record { bucket = p; slot = q }))
            | no q ↦
                let none : shape.slots ≡ 0 = omega (arith, q) in
                let first : s ≡ 0 = omega (arith, none) in
                ap (λ s. places_from shape b s) first ∙ ap (λ S. bucket_places S b (shape.buckets - b)) none ∙ no_slots b (shape.buckets - b)
          ]
      | no p ↦
          let none : shape.buckets - b ≡ 0 = omega (arith, p) in
          ap (λ n. drop s (bucket_places shape.slots b n)) none ∙ drop-nil s
    ]
