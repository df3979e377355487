use Rattle.memory.proofs.Fields.{cut_value}
use Rattle.memory.proofs.word.Field.word.Goals as goal

pub returns : goal.returns
returns c = cut_value c.args.value c.args.self.bits c.args.self.at c.args.self.not_all c.args.self.inside
