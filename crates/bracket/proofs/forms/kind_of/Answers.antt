use Rattle.std.proofs.Common.{arith, rules, codes}
use Rattle.bracket.specs.Items.{kind_of}
use Rattle.bracket.proofs.Spelling.{spelt}
use Rattle.bracket.proofs.forms.kind_of.Goals as goal

pub returns-in-fixed : goal.returns-in-fixed
returns-in-fixed c = spelt (codes "fixed") c.args.word.now kind_of _ (omega arith) (search rules) (search rules)

pub returns-in-deadline : goal.returns-in-deadline
returns-in-deadline c = spelt (codes "deadline") c.args.word.now kind_of _ (omega arith) (search rules) (search rules)
