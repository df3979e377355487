-- The end of a line. Assumes nothing.
use Rattle.std.specs.Prelude.{ℕ, ◌-◌, Bool, if◌then◌else◌, ◌&&◌, List, length, take, ◌==◌, nat_lt, slice_index}

-- the last byte is 10
abbrev pub is_ended : List ℕ → Bool
is_ended line = nat_lt 0 (length line) && slice_index line (length line - 1) == 10

-- the line but for that byte
abbrev pub without_end : List ℕ → List ℕ
without_end line = if is_ended line then take (length line - 1) line else line
