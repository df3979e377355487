use Rattle.std.proofs.Common.{◌≡◌, ◌<◌, ◌≤◌, ◌-◌, length, get_or, rules, leb}
use Rattle.std.proofs.lemmas.List.Sorted.{IsPartitionPoint-from_clause, IsPartitionedBy-leb}
use Rattle.layout.specs.TreadLists.{lengths_of}
use Rattle.layout.specs.Treads.{home_tread}
use Rattle.layout.proofs.Homes.{home_last, non_decreasing}
use Rattle.layout.proofs.treads.TreadList.home.Goals as goal

point : (c : goal.After-partition_point) → let ts = lengths_of c.args.self.now in let n = c.partition_point.result in
    (1 ≤ n) × (n - 1 < length ts) × (get_or ts (n - 1) 0 ≡ home_tread ts c.args.length)
point c =
    let ts = lengths_of c.args.self.now in
    let w = c.args.length in
    let n = c.partition_point.result in
    let lawful = c.args.self.now.lawful in
    let sorted = IsPartitionedBy-leb (λ x. x) c.as_slice.result.now w (rw c.as_slice.ensures (non_decreasing _ ts lawful)) in
    let split = IsPartitionPoint-from_clause (λ y. leb y w) c.as_slice.result.now n c.partition_point.ensures.partitioned sorted (λ a r q k. search rules) in
    home_last _ ts w n lawful (rw c.as_slice.ensures at c.partition_point.ensures.bound) (rw c.as_slice.ensures at split)

pub overflow_sub-result : goal.overflow_sub-result
overflow_sub-result c = (point c).0

pub returns-clause-home : goal.returns-clause-home
returns-clause-home c = (point c).2
