-- Each turn reads the piece before the next colon.
use Rattle.std.proofs.Common.{◌≡◌, ℕ, List, [], ◌∷◌, length, Bool, None, Option, Bor, sym, ap, ◌∙◌, arith, length-append}
use Rattle.notation.specs.Chain.{and_then}
use Rattle.notation.specs.Groups.{colon, read_last, total}
use Rattle.notation.proofs.Cuts.{cut_joins}
use Rattle.notation.proofs.ReadGroups.{step_no_group, step_group, groups_end}
use Rattle.notation.proofs.ipv6_read.parse_all_but_last.Goals as goal

-- nothing is read where there are no groups
nothing : (mixed : Bool) (o : Option ((ℕ × ℕ) × Bor (List ℕ))) → o ≡ None → and_then {B = ℕ × ℕ} o (λ p. and_then (read_last mixed p.1.now) (total p.0)) ≡ None
nothing mixed o e = ap (λ o. and_then {A = (ℕ × ℕ) × Bor (List ℕ)} {B = ℕ × ℕ} o (λ p. and_then (read_last mixed p.1.now) (total p.0))) e

pub returns-in_err-parse_group : goal.returns-in_err-parse_group
returns-in_err-parse_group c = λ mixed.
    nothing mixed _ c.from_residual.ensures
    ∙ step_no_group mixed c.loop-piece.groups c.loop-piece.rest.now c.in-Some.piece.now c.in-Some.after.now c.in-Some.ensures c.in_err-parse_group.ensures
    ∙ c.loop-piece.invariant mixed

pub returns-in_err-groups : goal.returns-in_err-groups
returns-in_err-groups c = λ mixed.
    nothing mixed _ c.from_residual-in_err-groups.ensures
    ∙ step_group mixed c.loop-piece.groups c.loop-piece.rest.now c.in-Some.piece.now c.in-Some.after.now c.in-Some.ensures _ c.in_ok-parse_group.ensures None c.in_err-groups.ensures
    ∙ c.loop-piece.invariant mixed

pub loop-piece-smaller : goal.loop-piece-smaller
loop-piece-smaller c =
    let e = ap length (cut_joins (colon ∷ []) c.loop-piece.rest.now c.in-Some.piece.now c.in-Some.after.now (sym c.in-Some.ensures))
    in omega (arith, e, length-append c.in-Some.piece.now (colon ∷ c.in-Some.after.now))

pub loop-piece-preserved : goal.loop-piece-preserved
loop-piece-preserved c = λ mixed.
    step_group mixed c.loop-piece.groups c.loop-piece.rest.now c.in-Some.piece.now c.in-Some.after.now c.in-Some.ensures _ c.in_ok-parse_group.ensures _ c.in_ok-groups.ensures
    ∙ c.loop-piece.invariant mixed

pub returns : goal.returns
returns c = λ mixed. sym (groups_end mixed c.loop-piece.groups c.loop-piece.rest.now (sym c.in_default.ensures)) ∙ c.loop-piece.invariant mixed
