use Rattle.memory.proofs.Positions.{element_written}
use Rattle.memory.proofs.slice_store.SliceStoreBucketStore.write.Goals as goal

pub returns : goal.returns
returns g c =
    let store = c.args.self.now in
    let place = c.args.place in
    let done =
    element_written g.T.Encoded.encoding g.met.T.Encoded.restores store.elements.now c.put.new.elements store.buckets store.slots
    place.bucket place.slot c.index-index.result c.encode.result c.args.content
    c.shape.result c.shape.ensures.value c.in_ok-check_write.ensures
    c.put.ensures c.index-index.ensures.value c.encode.ensures in
    record { meaning = done.0; refused = tt; memory = done.1 }
