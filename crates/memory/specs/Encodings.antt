-- How the content of a place is kept in a value. Assumes nothing.
use Rattle.std.specs.Prelude.{◌≡◌, ℕ, Option}
use Rattle.store.specs.declared.place.Entry.{Entry}
use Rattle.store.specs.Writes.{ContentFits}

pub record Encoding (T : Type 0) : Type 0 where
  -- how many bits a digest may have
  pub bits : ℕ
  -- what nothing is written as
  pub blank : T
  -- what a value is read as
  pub decoded : T → Option Entry
  -- what content is written as
  pub encoded : Option Entry → T

-- content that fits is read back as it was written
abbrev pub Restores : {T : Type 0} → Encoding T → Type 0
Restores e = (content : Option Entry) → ContentFits e.bits content → e.decoded (e.encoded content) ≡ content
