use Rattle.std.proofs.Common.{arith}
use Rattle.gf2.proofs.Exponents.{Range, generator_range, leading, lowest, ordered}
use Rattle.gf2.proofs.generator.Generator.new.Goals as goal
use Rattle.gf2.proofs.generator.Generator.new.Goals.{then-poly-eq0-via-then-poly-eq0, then-poly-eq0-via-else-poly-eq0+then-poly, then-poly-eq0-via-else-poly-eq0+else-poly+then-poly-2}

pub returns-then-poly-eq0 : goal.returns-then-poly-eq0
returns-then-poly-eq0 c g =
    let r = generator_range c.args.poly g in
    elim c.then-poly-eq0.branch [
      | then-poly-eq0-via-then-poly-eq0 w ↦ omega (arith, w.if-poly-eq0.true)
      | then-poly-eq0-via-else-poly-eq0+then-poly w ↦ omega (arith, w.if-poly.true)
      | then-poly-eq0-via-else-poly-eq0+else-poly+then-poly-2 w ↦ omega (arith, w.if-poly-2.true)
    ]

pub invariant_of-result : goal.invariant_of-result
invariant_of-result c =
    let r : Range c.args.poly = record { odd = omega arith; low = omega arith; high = omega arith } in
    let l = leading c.args.poly r in
    let t = lowest c.args.poly r in
    record {
      leads = l.leads;
      least = l.least;
      most = l.most;
      positive = t.positive;
      ordered = ordered c.args.poly _ _ l.leads t.present;
      apart = t.apart;
      present = t.present;
    }
