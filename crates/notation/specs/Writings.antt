-- The texts that write an IPv6 address (RFC 4291, section 2.2), as a relation.
use Rattle.std.specs.Prelude.{◌≡◌, ℕ, ◌+◌, ◌-◌, ◌/◌, ◌%◌, ◌^◌, ◌<◌, ◌≤◌, Bool, true, false, ◌⊎◌, List, [], ◌∷◌, ◌++◌, length, replicate}
use Rattle.std.specs.Str.Parse.{IsNumeral, digits_value}
use Rattle.std.specs.Int.Digits.{number_from_digits}
use Rattle.notation.specs.Groups.{colon}
use Rattle.notation.specs.Ipv4.{dotted}

-- one to four hexadecimal digits, in either case, write a group
abbrev pub WritesGroup : ℕ → List ℕ → Type 0
WritesGroup g text = IsNumeral 16 text × (length text ≤ 4) × (digits_value 16 text ≡ g)

-- two groups in dotted form
abbrev pub WritesDotted : List ℕ → List ℕ → Type 0
WritesDotted groups text = (a : ℕ) × (a < 2 ^ 32) × (groups ≡ a / 2 ^ 16 ∷ a % 2 ^ 16 ∷ []) × (dotted a ≡ text)

-- groups with colons between; in the mixed form the last two may be in dotted form
abbrev pub WritesGroups : Bool → List ℕ → List ℕ → Type 0
WritesGroups mixed [] text = ⊥
WritesGroups mixed (g ∷ gs) text =
    ((gs ≡ []) × WritesGroup g text)
    ⊎ (((mixed ≡ true) × WritesDotted (g ∷ gs) text)
    ⊎ ((piece : List ℕ) × (rest : List ℕ) × WritesGroup g piece × WritesGroups mixed gs rest × (text ≡ piece ++ (colon ∷ rest))))

-- the groups on one side of `::`, where there may be none
abbrev pub WritesSide : Bool → List ℕ → List ℕ → Type 0
WritesSide mixed [] text = text ≡ []
WritesSide mixed (g ∷ gs) text = WritesGroups mixed (g ∷ gs) text

-- eight groups
pub record Whole (a : ℕ) (text : List ℕ) : Type 0 where
  pub groups : List ℕ
  pub eight : length groups ≡ 8
  pub means : number_from_digits (2 ^ 16) groups ≡ a
  pub written : WritesGroups true groups text

-- groups on both sides of `::`, which stands for the groups of zeros that are missing, one or more
pub record Shortened (a : ℕ) (text : List ℕ) : Type 0 where
  pub left : List ℕ
  pub right : List ℕ
  pub room : length left + length right < 8
  pub means : number_from_digits (2 ^ 16) (left ++ (replicate (8 - (length left + length right)) 0 ++ right)) ≡ a
  pub before : List ℕ
  pub after : List ℕ
  pub before_written : WritesSide false left before
  pub after_written : WritesSide true right after
  pub written : text ≡ before ++ (colon ∷ colon ∷ after)

abbrev pub Writes : ℕ → List ℕ → Type 0
Writes a text = Whole a text ⊎ Shortened a text
