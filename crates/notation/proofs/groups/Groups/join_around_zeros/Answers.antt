-- The power and the address fit.
use Rattle.std.proofs.Common.{◌≡◌, ℕ, ◌+◌, ◌-◌, ◌*◌, ◌^◌, ◌<◌, ◌≤◌, sym, ◌∙◌, subst, ap, arith}
use Rattle.std.proofs.lemmas.Bool.{leb-true}
use Rattle.notation.proofs.GroupSums.{around_lt, power_lt}
use Rattle.notation.proofs.groups.Groups.join_around_zeros.Goals as goal

fits : (cl cr vl vr p : ℕ) → cl + cr ≤ 7 → vl < 65536 ^ cl → vr < 65536 ^ cr → p ≡ 65536 ^ (8 - cl) → vl * p + vr < 2 ^ 128
fits cl cr vl vr p h k l e = subst (λ n. vl * n + vr < 2 ^ 128) (sym e) (around_lt cl cr vl vr h k l)

pub pow-requires : goal.pow-requires
pow-requires c = power_lt (8 - c.self.inside.count) (omega arith)

pub overflow_mul-result : goal.overflow_mul-result
overflow_mul-result c =
    let room = leb-true _ _ (sym c.leave_room.ensures ∙ c.if-not-leave_room.false) in
    let l = ap (λ (p : ℕ × ℕ). p.0) c.self.view_is in let r = ap (λ (p : ℕ × ℕ). p.0) c.right.view_is in
    omega (arith, fits c.self.inside.count c.right.inside.count c.self.inside.value c.right.inside.value c.pow.result (omega arith) c.self.invariant.1 c.right.invariant.1 c.pow.ensures)

pub overflow_add-result : goal.overflow_add-result
overflow_add-result c =
    let room = leb-true _ _ (sym c.leave_room.ensures ∙ c.if-not-leave_room.false) in
    let l = ap (λ (p : ℕ × ℕ). p.0) c.self.view_is in let r = ap (λ (p : ℕ × ℕ). p.0) c.right.view_is in
    omega (arith, fits c.self.inside.count c.right.inside.count c.self.inside.value c.right.inside.value c.pow.result (omega arith) c.self.invariant.1 c.right.invariant.1 c.pow.ensures)
