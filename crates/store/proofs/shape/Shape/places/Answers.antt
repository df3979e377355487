use Rattle.std.proofs.Math.Nat.{sub-zero}
use Rattle.store.proofs.Listed.{lists}
use Rattle.store.proofs.shape.Shape.places.Goals as goal

pub returns-clause-lists : goal.returns-clause-lists
returns-clause-lists c = rw sub-zero (lists c.args.self.now)
