use Rattle.std.proofs.Common.{◌≡◌, ℕ, suc, ◌-◌, ◌<◌, List, length, get_or, vec_items, sym, ap, ap₂, ◌∙◌, subst, Some, rules, arith}
use Rattle.std.proofs.lemmas.List.{get_or-take}
use Rattle.std.proofs.lemmas.Result.{IfOk-weaker}
use Rattle.layout.specs.Layouts.{treads_of}
use Rattle.explanation.specs.Places.{PlaceOf}
use Rattle.explanation.proofs.PlaceRuns.{made_at}
use Rattle.explanation.proofs.query.Query.places.Goals as goal

-- m, r and s are the runs of `map`, `rev` and the slice's iterator, of which each stands on the next
pub returns : goal.returns
returns c =
    let q = c.args.self.now in
    let ts = treads_of q.layout in
    let front : List ℕ = c.treads_to_home.result.now in
    let home : ℕ = length front - 1 in
    let some : 0 < length front = c.treads_to_home.ensures.some in
    IfOk-weaker c.collect.result _ _ (λ v run.
    let m = run tt in
    let r = c.map.ensures.runs m.0 m.0.seen m.1 in
    let s = c.rev.ensures.runs r.0 r.0.seen r.1 in
    let t = c.iter.ensures.runs_back s.0 s.0.seen in
    let run_over : List ℕ = s.0.from.rest.now in
    let same : run_over ≡ front = ap (λ i. i.rest.now) s.1 ∙ c.iter.ensures.rest in
    let count : length (vec_items v) ≡ suc home = omega (arith, ap length m.3.0, m.0.long, r.2.1, s.2.0.0, ap length same, t.1 (s.2.1 ∙ r.2.0 ∙ m.2)) in
    record {
      home = home;
      home_is = c.treads_to_home.ensures.home;
      count = count;
      each = λ k none le.
          let i = length run_over - 1 - k in
          let at : get_or run_over i 0 ≡ get_or ts (home - k) 0 =
          ap₂ (λ xs j. get_or xs j 0) same (omega (arith, ap length same))
          ∙ ap (λ xs. get_or xs (home - k) 0) c.treads_to_home.ensures.front
          ∙ get_or-take (length front) ts (home - k) 0 (omega arith) in
          subst (λ l. PlaceOf q l (get_or (vec_items v) k none)) at
          (made_at q run_over i _ (m.0.at k) (r.0.at k) (s.0.at k) (get_or (vec_items v) k none) (omega (arith, ap length same))
          (m.0.reads k none (omega (arith, ap length m.3.0, m.0.long)) ∙ ap (λ xs. Some (get_or xs k none)) (sym m.3.0))
          ((r.2.2 (λ a y f called. search rules)).1 k) (s.2.0.2 k) (t.8 k) (λ x y called. search rules));
    }) c.collect.ensures.runs
