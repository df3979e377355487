use Rattle.std.proofs.Common.{◌≡◌, ℕ, ◌-◌, ◌*◌, ◌%◌, ◌^◌, ◌≤◌, false, sym, refl, ap, ◌∙◌, subst, arith}
use lib.Bits.{bit_xor}
use Rattle.gf2.specs.declared.generator.Generator.{Generator}
use Rattle.layout.specs.Admission.{admitted, Confused, confused_with}
use Rattle.layout.specs.declared.prefix.Prefix.{Prefix}
use Rattle.layout.proofs.Exactness.{told_apart, refused, confused, unseen_whole}
use Rattle.layout.proofs.prefix.Prefix.confused_with.Goals as goal
use Rattle.layout.proofs.prefix.Prefix.confused_with.Goals.{then-tread-self-via-then-tread-self, then-tread-self-via-else-tread-self+then-admits}

pub returns-then-tread-self : goal.returns-then-tread-self
returns-then-tread-self c lw Q q alike =
    let p = c.args.self.now in
    elim c.then-tread-self.branch [
      | then-tread-self-via-then-tread-self w ↦ absurd (omega (arith, w.if-tread-self.true))
      | then-tread-self-via-else-tread-self+then-admits w ↦
          told_apart p.width.bits c.args.generator.now p.length c.args.tread lw p.prefix.within (sym w.if-admits.ensures.value) p.address Q p.prefix q alike
    ]

-- the address that the code makes is the confused one
other : (p : Prefix) (g : Generator) (l x : ℕ) → l ≤ p.length → false ≡ admitted p.width.bits g p.length l
    → x ≡ bit_xor g.poly 1 * 2 ^ (p.width.bits - p.length - g.lowest) % 2 ^ 128
    → (bit_xor p.address x ≡ confused_with p.width.bits g p.length p.address)
    × Confused p.width.bits g p.length l p.address (bit_xor p.address x)
other p g l x lw not-admitted ex =
    let W = p.width.bits in
    let rule = refused W g p.length l lw p.prefix.within (sym not-admitted) in
    let same : bit_xor p.address x ≡ confused_with W g p.length p.address =
    ap (bit_xor p.address) (ex ∙ unseen_whole W g p.length l lw p.prefix.within rule p.width.is_width.1) in (
      same,
      subst (Confused W g p.length l p.address) (sym same)
          (confused W g p.length l lw p.prefix.within rule p.address p.prefix),
    )

pub invariant_of-result : goal.invariant_of-result
invariant_of-result c =
    let made = other c.args.self.now c.args.generator.now c.args.tread c.unseen.result
    c.if-tread-self.false c.if-admits.ensures.value c.unseen.ensures in
    record { prefix = made.1.prefix }

pub returns : goal.returns
returns c =
    let made = other c.args.self.now c.args.generator.now c.args.tread c.unseen.result
    c.if-tread-self.false c.if-admits.ensures.value c.unseen.ensures in
    (refl, refl, made.0, made.1)
