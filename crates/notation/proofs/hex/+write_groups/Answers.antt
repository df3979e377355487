-- The first group with its colon, and the rest.
use Rattle.std.proofs.Common.{is_ok, ap, arith}
use Rattle.std.proofs.Output.{has_written_of_eq, has_written_append}
use Rattle.notation.proofs.HexText.{colons_first}
use Rattle.notation.proofs.hex.+write_groups.Goals as goal

pub returns-in_ok-write-in-len1-up : goal.returns-in_ok-write-in-len1-up
returns-in_ok-write-in-len1-up g t c = λ plain ok.
    let written = rw c.in_radix-in-len1-up.ensures at c.write-in-len1-up.ensures.writes in
    let p = written plain (ap is_ok c.in_ok-write-in-len1-up.was) in
    has_written_of_eq g.W.Write.write_str_gives _ _ _ _ (colons_first c.args.groups.now c.in-len1-up.len_at_least (omega (arith, c.type_inv.groups 0)))
    (has_written_append g.W.Write.write_str_gives _ _ _ _ _ p (c.write_groups.ensures p.plain ok))
