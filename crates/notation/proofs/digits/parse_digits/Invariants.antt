-- The bytes so far are digits, and `value` is what they write.
use Rattle.std.proofs.Common.{◌≡◌, ◌≤◌, take}
use Rattle.std.specs.Str.Parse.{AllDigits, digits_value}
use Rattle.notation.proofs.digits.parse_digits.Given as goal

abbrev pub invariant-loop-byte : goal.invariant-loop-byte
invariant-loop-byte l = AllDigits l.radix (take l.byte-index l.text) × (l.value ≡ digits_value l.radix (take l.byte-index l.text)) × (l.value ≤ l.limit)
