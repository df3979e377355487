-- What making a prefix answers, and which prefix it is confused with. Assumes nothing.
use Rattle.std.specs.Prelude.{◌≡◌, ℕ, ◌-◌, ◌%◌, ◌^◌, ◌<◌, ◌≤◌, Some, None, Ok, Err, Option, Result, ◌≢◌}
use Rattle.gf2.specs.declared.generator.Generator.{Generator}
use Rattle.layout.specs.Addresses.{IsPrefix, Covers}
use Rattle.layout.specs.Admission.{Alike, Confused, confused_with}
use Rattle.layout.specs.declared.width.Width.{Width}
use Rattle.layout.specs.declared.prefix.Prefix.{Prefix}
use Rattle.layout.specs.declared.prefix.PrefixFault.{PrefixFault}
use Rattle.layout.specs.declared.prefix.PrefixFault.TheVariants.{AddressBeyondWidth, LengthBeyondWidth, BitsAfterLength}

-- the questions in their order: does the address fit the width, does the length, is every bit after it zero?
abbrev pub Made : Width → ℕ → ℕ → Result Prefix PrefixFault → Type 0
Made W P w (Ok p) = (p.width ≡ W) × (p.address ≡ P) × (p.length ≡ w)
Made W P w (Err AddressBeyondWidth) = 2 ^ W.bits ≤ P
Made W P w (Err LengthBeyondWidth) = (P < 2 ^ W.bits) × (W.bits < w)
Made W P w (Err BitsAfterLength) = (P < 2 ^ W.bits) × (w ≤ W.bits) × (P % 2 ^ (W.bits - w) ≢ 0)

-- the prefix covers the address a
abbrev pub Covered : Prefix → ℕ → Type 0
Covered p a = Covers p.width.bits p.address p.length a

-- the prefix q that is confused with p under the tread l, or none
abbrev pub Other : Prefix → Generator → ℕ → Option Prefix → Type 0
Other p g l None = l ≤ p.length → (Q : ℕ) → IsPrefix p.width.bits Q p.length → Alike p.width.bits g l p.address Q → p.address ≡ Q
Other p g l (Some q) =
    (q.width ≡ p.width) × (q.length ≡ p.length) × (q.address ≡ confused_with p.width.bits g p.length p.address)
    × Confused p.width.bits g p.length l p.address q.address
