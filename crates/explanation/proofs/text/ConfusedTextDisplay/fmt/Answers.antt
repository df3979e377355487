use Rattle.std.proofs.Common.{sym, ap}
use Rattle.std.proofs.Output.{has_written_of_eq}
use Rattle.explanation.specs.Texts.{confused_text}
use Rattle.explanation.proofs.text.ConfusedTextDisplay.fmt.Goals as goal

pub returns-in-Some-clause-writes : goal.returns-in-Some-clause-writes
returns-in-Some-clause-writes g c = λ plain ok. has_written_of_eq g.W.Write.write_str_gives _ _ _ _ (ap confused_text (sym c.in-Some.is)) (c.write.ensures.writes plain ok)
