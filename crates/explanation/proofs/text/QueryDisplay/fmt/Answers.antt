use Rattle.std.proofs.Common.{ℕ, List, ◌++◌, codes, ap, ◌∙◌, arith}
use Rattle.std.proofs.Output.{has_written_of_eq}
use Rattle.notation.specs.Hexadecimal.{hex}
use Rattle.notation.proofs.HexText.{digits_hex}
use Rattle.explanation.specs.Texts.{prefix_text}
use Rattle.explanation.proofs.text.QueryDisplay.fmt.Goals as goal

-- `{:x}` writes the digits that notation does
pub returns-clause-writes : goal.returns-clause-writes
returns-clause-writes g c = λ plain ok.
    let generator = c.poly-generator.ensures ∙ ap (λ g. g.poly) c.generator.ensures in
    let text = λ (n : List ℕ). prefix_text c.args.self.now.prefix ++ (codes ", generator 0x" ++ n) in
    has_written_of_eq g.W.Write.write_str_gives _ _ _ _ (ap text (digits_hex c.poly-generator.result (omega arith) ∙ ap hex generator))
    ((rw c.in_radix.ensures at c.write.ensures.writes) plain ok)
