-- What a tread list of the program holds. Assumes nothing.
use Rattle.std.specs.Prelude.{ℕ, List, take}
use Rattle.layout.specs.declared.treads.TreadList.{TreadList}

-- the treads, shortest first
abbrev pub lengths_of : TreadList → List ℕ
lengths_of list = take list.count list.lengths
