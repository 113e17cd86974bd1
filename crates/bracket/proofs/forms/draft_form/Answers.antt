use Rattle.std.proofs.Common.{arith, rules, codes}
use Rattle.bracket.specs.Items.{draft_form}
use Rattle.bracket.proofs.Spelling.{spelt}
use Rattle.bracket.proofs.forms.draft_form.Goals as goal

pub returns-in-board : goal.returns-in-board
returns-in-board c = spelt (codes "board") c.args.word.now (λ w. draft_form w c.args.items.now) _ (omega arith) (search rules) (search rules)

pub returns-in-component : goal.returns-in-component
returns-in-component c = spelt (codes "component") c.args.word.now (λ w. draft_form w c.args.items.now) _ (omega arith) (search rules) (search rules)

pub returns-in_ok-component-in-task : goal.returns-in_ok-component-in-task
returns-in_ok-component-in-task c = spelt (codes "task") c.args.word.now (λ w. draft_form w c.args.items.now) _ (omega arith) (search rules) (search rules)
