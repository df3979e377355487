-- The segments of an address are its groups.
use Rattle.std.proofs.Common.{◌≡◌, ℕ, ◌+◌, ◌*◌, ◌/◌, ◌%◌, ◌^◌, [], ◌∷◌, arith}
use Rattle.std.specs.Int.{w128, to_be_bytes}
use Rattle.std.specs.Net.Addr.{segments_of}
use Rattle.notation.specs.Ipv6Text.{groups_of}

-- each two octets, and the group that they are
group_values : (a : ℕ)
    → (a / 256 ^ 15 % 256 * 256 + a / 256 ^ 14 % 256 ≡ a / 2 ^ 16 / 2 ^ 16 / 2 ^ 16 / 2 ^ 16 / 2 ^ 16 / 2 ^ 16 / 2 ^ 16 % 2 ^ 16)
    × (a / 256 ^ 13 % 256 * 256 + a / 256 ^ 12 % 256 ≡ a / 2 ^ 16 / 2 ^ 16 / 2 ^ 16 / 2 ^ 16 / 2 ^ 16 / 2 ^ 16 % 2 ^ 16)
    × (a / 256 ^ 11 % 256 * 256 + a / 256 ^ 10 % 256 ≡ a / 2 ^ 16 / 2 ^ 16 / 2 ^ 16 / 2 ^ 16 / 2 ^ 16 % 2 ^ 16)
    × (a / 256 ^ 9 % 256 * 256 + a / 256 ^ 8 % 256 ≡ a / 2 ^ 16 / 2 ^ 16 / 2 ^ 16 / 2 ^ 16 % 2 ^ 16)
    × (a / 256 ^ 7 % 256 * 256 + a / 256 ^ 6 % 256 ≡ a / 2 ^ 16 / 2 ^ 16 / 2 ^ 16 % 2 ^ 16)
    × (a / 256 ^ 5 % 256 * 256 + a / 256 ^ 4 % 256 ≡ a / 2 ^ 16 / 2 ^ 16 % 2 ^ 16)
    × (a / 256 ^ 3 % 256 * 256 + a / 256 ^ 2 % 256 ≡ a / 2 ^ 16 % 2 ^ 16)
    × (a / 256 ^ 1 % 256 * 256 + a % 256 ≡ a % 2 ^ 16)
group_values a = (omega arith, omega arith, omega arith, omega arith, omega arith, omega arith, omega arith, omega arith)

pub segments_are_groups : (a : ℕ) → segments_of (to_be_bytes w128 a) ≡ groups_of 8 a
segments_are_groups a = let g = group_values a in λ i. g.0 i ∷ g.1 i ∷ g.2 i ∷ g.3 i ∷ g.4 i ∷ g.5 i ∷ g.6 i ∷ g.7 i ∷ []
