-- What a store means, what a read of it answers, and what a write leaves. Assumes nothing.
use Rattle.std.specs.Prelude.{◌≡◌, ℕ, None, Ok, Err, Option, Result}
use Rattle.store.specs.declared.place.Entry.{Entry}
use Rattle.store.specs.declared.place.NoPlace.{NoPlace}
use Rattle.store.specs.declared.shape.Shape.{Shape}
use Rattle.store.specs.declared.shape.WriteRefusal.{WriteRefusal}
use Rattle.store.specs.Shapes.{Inside}
use Rattle.store.specs.Writes.{Takes, Refused}

-- nothing or an entry in each slot of each bucket; it means nothing at places beyond the shape
pub record Grid : Type 0 where
  pub shape : Shape
  pub at : ℕ → ℕ → Option Entry

-- what stands there, or that there is no such place
abbrev pub Reads : Grid → ℕ → ℕ → Result (Option Entry) NoPlace → Type 0
Reads grid b s (Ok content) = Inside grid.shape b s × (content ≡ grid.at b s)
Reads grid b s (Err e) = Inside grid.shape b s → ⊥

-- nothing has changed
pub record Unchanged (before after : Grid) : Type 0 where
  pub shape : after.shape ≡ before.shape
  pub places : (b s : ℕ) → Inside before.shape b s → after.at b s ≡ before.at b s

-- the content is at slot s of bucket b, and nothing else has changed
pub record Changed (before : Grid) (b s : ℕ) (content : Option Entry) (after : Grid) : Type 0 where
  pub shape : after.shape ≡ before.shape
  pub here : after.at b s ≡ content
  pub others : (i j : ℕ) → Inside before.shape i j → ((i ≡ b) × (j ≡ s) → ⊥) → after.at i j ≡ before.at i j

-- a write that is taken, or refused with no change
abbrev pub Writes : {U : Type 0} → Grid → ℕ → ℕ → Option Entry → Result U WriteRefusal → Grid → Type 0
Writes before b s content (Ok u) after = Takes before.shape b s content × Changed before b s content after
Writes before b s content (Err e) after = Refused before.shape b s content e × Unchanged before after

-- nothing stands anywhere
pub record Emptied (before after : Grid) : Type 0 where
  pub shape : after.shape ≡ before.shape
  pub places : (b s : ℕ) → Inside before.shape b s → after.at b s ≡ None
