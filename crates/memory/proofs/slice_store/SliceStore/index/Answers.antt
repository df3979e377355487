use Rattle.std.proofs.Common.{◌<◌, length, sym, subst}
use Rattle.memory.proofs.Positions.{placed, position_lt}
use Rattle.memory.proofs.slice_store.SliceStore.index.Goals as goal

pub returns-clause-bound : goal.returns-clause-bound
returns-clause-bound g c =
    subst (λ i. i < length c.args.self.now.elements.now) (sym c.position.ensures)
    (position_lt _ _ _ _ _ (placed g.T.Encoded.encoding.bits _ _ _ _ _ c.requires))
