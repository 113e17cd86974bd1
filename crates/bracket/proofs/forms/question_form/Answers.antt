use Rattle.std.proofs.Common.{arith, rules, codes}
use Rattle.bracket.specs.Items.{question_form}
use Rattle.bracket.proofs.Spelling.{spelt}
use Rattle.bracket.proofs.forms.question_form.Goals as goal

pub returns-in-runner : goal.returns-in-runner
returns-in-runner c = spelt (codes "runner") c.args.word.now (λ w. question_form w c.args.items.now) _ (omega arith) (search rules) (search rules)

pub returns-in-ceiling : goal.returns-in-ceiling
returns-in-ceiling c = spelt (codes "ceiling") c.args.word.now (λ w. question_form w c.args.items.now) _ (omega arith) (search rules) (search rules)

pub returns-in_ok-component-in-budget : goal.returns-in_ok-component-in-budget
returns-in_ok-component-in-budget c = spelt (codes "budget") c.args.word.now (λ w. question_form w c.args.items.now) _ (omega arith) (search rules) (search rules)

pub returns-in_ok-resource-in-holder : goal.returns-in_ok-resource-in-holder
returns-in_ok-resource-in-holder c = spelt (codes "holder") c.args.word.now (λ w. question_form w c.args.items.now) _ (omega arith) (search rules) (search rules)

pub returns-in_ok-component-in-bound : goal.returns-in_ok-component-in-bound
returns-in_ok-component-in-bound c = spelt (codes "bound") c.args.word.now (λ w. question_form w c.args.items.now) _ (omega arith) (search rules) (search rules)

pub returns-in_ok-component-in-assured : goal.returns-in_ok-component-in-assured
returns-in_ok-component-in-assured c = spelt (codes "assured") c.args.word.now (λ w. question_form w c.args.items.now) _ (omega arith) (search rules) (search rules)
