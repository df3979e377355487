-- Addresses of W bits as numbers below 2 ^ W, the first bit most significant, and prefixes of them. Assumes nothing.
use Rattle.std.specs.Prelude.{◌≡◌, ℕ, ◌-◌, ◌*◌, ◌/◌, ◌%◌, ◌^◌, ◌<◌, ◌≤◌}

-- a width of addresses: a multiple of 8 from 32 to 128
abbrev pub IsWidth : ℕ → Type 0
IsWidth W = (32 ≤ W) × (W ≤ 128) × (W % 8 ≡ 0)

-- the address with every bit after its first l cleared
abbrev pub rounded : ℕ → ℕ → ℕ → ℕ
rounded W l a = a / 2 ^ (W - l) * 2 ^ (W - l)

-- P/w is a prefix: an address with all bits after the first w zero
pub record IsPrefix (W P w : ℕ) : Type 0 where
  pub within : w ≤ W
  pub fits : P < 2 ^ W
  pub clear : P % 2 ^ (W - w) ≡ 0

-- P/w covers the address a
abbrev pub Covers : ℕ → ℕ → ℕ → ℕ → Type 0
Covers W P w a = rounded W w a ≡ P
