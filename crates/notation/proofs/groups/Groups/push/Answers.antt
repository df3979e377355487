-- With fewer than eight groups one more fits.
use Rattle.std.proofs.Common.{ℕ, ◌+◌, ◌*◌, ◌^◌, ◌<◌, arith}
use Rattle.notation.proofs.GroupSums.{group_lt, address_lt}
use Rattle.notation.proofs.groups.Groups.push.Goals as goal

fits : (count value g : ℕ) → count < 8 → value < 65536 ^ count → g < 65536 → value * 65536 + g < 2 ^ 128
fits count value g h k l = address_lt (count + 1) _ (omega arith) (group_lt count value g k l)

pub overflow_mul-result : goal.overflow_mul-result
overflow_mul-result c = omega (arith, fits c.self.inside.count c.self.inside.value 0 (omega arith) c.self.invariant.1 (omega arith))

pub overflow_add-result-2 : goal.overflow_add-result-2
overflow_add-result-2 c = omega (arith, fits c.self.inside.count c.self.inside.value c.from.result (omega arith) c.self.invariant.1 (omega arith))
