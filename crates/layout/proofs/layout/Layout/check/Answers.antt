use Rattle.layout.proofs.layout.Layout.check.Goals as goal

pub returns-in-Some : goal.returns-in-Some
returns-in-Some c =
    let treads = rw c.in_ok-treads.ensures.ok_part at c.new-2.ensures in
    record {
      generator = c.in_ok-generator.generator;
      poly_is = rw c.in_ok-generator.ensures.ok_part at c.new.ensures;
      lawful = rw (← treads.0, ← treads.1) c.in_ok-treads.treads.lawful;
      first = rw (← treads.0, ← treads.1) c.in-Some.ensures;
    }
