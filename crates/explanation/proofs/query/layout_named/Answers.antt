use Rattle.explanation.proofs.Reading.{no_text_no_name, no_text}
use Rattle.explanation.proofs.query.layout_named.Goals as goal

pub returns-in_err-ok : goal.returns-in_err-ok
returns-in_err-ok c = rw c.from_residual.ensures (no_text_no_name c.args.name.now (no_text _ _ _ c.from_utf8.result c.in_err-ok.ensures.value c.from_utf8.ensures.cases))
