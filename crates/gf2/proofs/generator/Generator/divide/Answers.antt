use Rattle.std.proofs.Common.{sym, subst₂}
use Rattle.gf2.specs.Division.{Divides}
use Rattle.gf2.proofs.Products.{is_product}
use Rattle.gf2.proofs.Quotients.{divides, only, additive}
use Rattle.gf2.proofs.generator.Generator.divide.Goals as goal

pub returns : goal.returns
returns c =
    let g = c.args.self.now in
    let p = c.args.dividend in
    let answer = c.divide_bits.ensures in
    let pair = subst₂ (Divides g p) (sym answer.quotient) (sym answer.remainder) (divides g p) in
    record {
      divides = pair;
      only = only g p _ _ pair;
      quotient = answer.quotient;
      remainder = answer.remainder;
      additive = additive g;
      product = is_product;
    }
