use Rattle.store.proofs.Halves.{first_written, second_written}
use Rattle.store.proofs.interleave.InterleaveBucketStore.write.Goals as goal

pub returns-then-is_even-clause-meaning : goal.returns-then-is_even-clause-meaning
returns-then-is_even-clause-meaning g c =
    let store = c.args.self.now in
    first_written (g.F.BucketStore.grid store.first) (g.G.BucketStore.grid store.second) (g.F.BucketStore.grid c.write.new.self)
    c.args.place.bucket c.args.place.slot c.args.content c.shape.result c.shape.ensures.value c.in_ok-check_write.ensures
    c.half.result c.half.ensures c.write.result c.if-is_even.ensures c.write.ensures.meaning

pub returns-else-is_even-clause-meaning : goal.returns-else-is_even-clause-meaning
returns-else-is_even-clause-meaning g c =
    let store = c.args.self.now in
    second_written (g.F.BucketStore.grid store.first) (g.G.BucketStore.grid store.second) (g.G.BucketStore.grid c.write-else-is_even.new.self)
    c.args.place.bucket c.args.place.slot c.args.content c.shape.result c.shape.ensures.value c.in_ok-check_write.ensures
    c.half-else-is_even.result c.half-else-is_even.ensures c.write-else-is_even.result c.if-is_even.ensures c.write-else-is_even.ensures.meaning
