-- How an IPv6 address is written (RFC 5952, sections 4 and 5).
use Rattle.std.specs.Prelude.{ℕ, zero, suc, ◌/◌, ◌%◌, ◌^◌, max, Bool, List, [], ◌∷◌, ◌++◌, replicate, Some, None, codes, Option, ◌==◌, nat_lt, if◌then◌else◌}
use Rattle.std.specs.List.{prefix_len}
use Rattle.notation.specs.Cut.{cut}
use Rattle.notation.specs.Groups.{colon}
use Rattle.notation.specs.Hexadecimal.{hex}
use Rattle.notation.specs.Ipv4.{dotted}

-- the lowest n groups of 16 bits of a, the most significant first
abbrev pub groups_of : ℕ → ℕ → List ℕ
groups_of zero a = []
groups_of (suc n) a = groups_of n (a / 2 ^ 16) ++ (a % 2 ^ 16 ∷ [])

-- groups with colons between
abbrev pub colons : List ℕ → List ℕ
colons [] = []
colons (g ∷ []) = hex g
colons (g ∷ h ∷ gs) = hex g ++ (colon ∷ colons (h ∷ gs))

-- how many zeros the groups begin with
abbrev pub leading_zeros : List ℕ → ℕ
leading_zeros groups = prefix_len (λ g. g == 0) groups

-- the length of the longest run of zeros
abbrev pub longest_run : List ℕ → ℕ
longest_run [] = 0
longest_run (g ∷ gs) = max (leading_zeros (g ∷ gs)) (longest_run gs)

-- groups beside `::`, or all the groups
abbrev pub sides_text : List ℕ → Option (List ℕ × List ℕ) → List ℕ
sides_text groups None = colons groups
sides_text groups (Some sides) = colons sides.0 ++ (colon ∷ colon ∷ colons sides.1)

-- what stands beside the first of the longest runs of zeros, if it is two groups or more
abbrev pub zero_sides : List ℕ → Option (List ℕ × List ℕ)
zero_sides groups = if nat_lt (longest_run groups) 2 then None else cut (replicate (longest_run groups) 0) groups

-- that run becomes `::`
abbrev pub groups_text : List ℕ → List ℕ
groups_text groups = sides_text groups (zero_sides groups)

-- ::ffff:0:0/96, the addresses that hold an IPv4 address (RFC 5952, section 5)
abbrev pub is_mapped : ℕ → Bool
is_mapped a = a / 2 ^ 32 == 65535

abbrev pub text6 : ℕ → List ℕ
text6 a = if is_mapped a then codes "::ffff:" ++ dotted (a % 2 ^ 32) else groups_text (groups_of 8 a)
