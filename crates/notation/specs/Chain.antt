-- One reader after another.
use Rattle.std.specs.Prelude.{Some, None, Option}

-- Rust's `and_then`
abbrev pub and_then : {A B : Type 0} → Option A → (A → Option B) → Option B
and_then None f = None
and_then (Some x) f = f x
