-- Places of a store over memory, and the elements that they are. Assumes nothing.
use Rattle.std.proofs.Common.{◌≡◌, ℕ, ◌+◌, ◌*◌, ◌/◌, ◌%◌, ◌<◌, List, length, set, Option, sym, ap, ◌∙◌, subst, ap₂, mul_comm, arith, length-set}
use Rattle.std.proofs.lemmas.Nat.{mul-add-lt, div-mul-add, mod-mul-add}
use Rattle.std.proofs.lemmas.List.{get_or-set_same, get_or-set_other}
use Rattle.std.proofs.lemmas.Bool.{and_parts, eqb-true}
use Rattle.store.proofs.Below.{below_cond}
use Rattle.store.specs.declared.place.Entry.{Entry}
use Rattle.store.specs.declared.shape.Shape.{Shape}
use Rattle.store.specs.Shapes.{Inside}
use Rattle.store.specs.Writes.{Takes}
use Rattle.memory.specs.Encodings.{Encoding, Restores}
use Rattle.store.specs.Grids.{Changed}
use Rattle.memory.specs.Slices.{filled, slice_shape, slice_grid}

-- a store over memory has places only where the elements fill its buckets
pub record Placed (n B S b s : ℕ) : Type 0 where
  pub bucket : b < B
  pub slot : s < S
  pub whole : n ≡ B * S

pub placed : (Z n B S b s : ℕ) → Inside (slice_shape Z n B S) b s → Placed n B S b s
placed Z n B S b s inside =
    let bucket = below_cond (filled n B S) B b inside.bucket in
    let slot = below_cond (filled n B S) S s inside.slot in
    record { bucket = bucket.1; slot = slot.1; whole = eqb-true n (B * S) (and_parts _ _ bucket.0).1 }

pub position_lt : (n B S b s : ℕ) → Placed n B S b s → b * S + s < n
position_lt n B S b s p = omega (arith, mul-add-lt b S s B p.bucket p.slot, mul_comm B S, p.whole)

-- two places are two elements
position_eq : (S b s i j : ℕ) → s < S → j < S → i * S + j ≡ b * S + s → (i ≡ b) × (j ≡ s)
position_eq S b s i j p q e = (
  sym (div-mul-add i S j q) ∙ ap (λ n. n / S) e ∙ div-mul-add b S s p,
  sym (mod-mul-add i S j q) ∙ ap (λ n. n % S) e ∙ mod-mul-add b S s p,
)

element_set : {T : Type 0} (e : Encoding T) (xs : List T) (B S b s : ℕ) (x : T) (content : Option Entry)
    → Inside (slice_shape e.bits (length xs) B S) b s → e.decoded x ≡ content
    → Changed (slice_grid e xs B S) b s content (slice_grid e (set xs (b * S + s) x) B S)
element_set e xs B S b s x content inside reads =
    let here = placed e.bits (length xs) B S b s inside in
    record {
      shape = ap (λ n. slice_shape e.bits n B S) (length-set xs (b * S + s) x);
      here = ap e.decoded (get_or-set_same xs (b * S + s) x e.blank (position_lt (length xs) B S b s here)) ∙ reads;
      others = λ i j there other.
          ap e.decoded (get_or-set_other xs (b * S + s) (i * S + j) x e.blank
          (λ same. other (position_eq S b s i j here.slot (placed e.bits (length xs) B S i j there).slot same)));
    }

-- what a write leaves: the element of the place, of the content that the shape takes
module _ {T : Type 0} (e : Encoding T) (restores : Restores e) (xs ys : List T) (B S b s i : ℕ) (x : T) (content : Option Entry) where
  pub element_written : (shape : Shape) → shape ≡ slice_shape e.bits (length xs) B S → Takes shape b s content
      → ys ≡ set xs i x → i ≡ b * S + s → x ≡ e.encoded content
      → (Takes (slice_shape e.bits (length xs) B S) b s content × Changed (slice_grid e xs B S) b s content (slice_grid e ys B S))
      × (ys ≡ set xs (b * S + s) (e.encoded content))
  element_written shape is takes after at encodes =
      let taken = subst (λ shape. Takes shape b s content) is takes in
      let memory : ys ≡ set xs (b * S + s) (e.encoded content) = after ∙ ap₂ (set xs) at encodes in (
        (
          taken,
          subst (λ ys. Changed (slice_grid e xs B S) b s content (slice_grid e ys B S)) (sym memory)
              (element_set e xs B S b s (e.encoded content) content taken.place (restores content taken.fits)),
        ),
        memory,
      )
