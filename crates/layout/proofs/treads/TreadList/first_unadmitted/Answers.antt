use Rattle.std.proofs.Common.{◌≡◌, true, false, refl, rules, arith}
use Rattle.std.proofs.lemmas.Iterator.{first_from_Range}
use Rattle.layout.specs.Treads.{admitted_at_home}
use Rattle.layout.specs.TreadLists.{lengths_of}
use Rattle.layout.proofs.Homes.{first_found}
use Rattle.layout.proofs.treads.TreadList.first_unadmitted.Goals as goal

pub returns : goal.returns
returns c =
    let W = c.args.self.now.width.bits in
    let home = admitted_at_home W c.args.generator.now (lengths_of c.args.self.now) in
    first_found W c.args.generator.now (lengths_of c.args.self.now) _ _ refl (omega (arith, c.bits.ensures)) c.find.result
    (first_from_Range _ _ _ c.find.result (λ w. home w ≡ false) (λ w. home w ≡ true) c.find.ensures.ran (λ x q k. search rules) (λ x q k. search rules))
