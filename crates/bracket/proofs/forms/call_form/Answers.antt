use Rattle.std.proofs.Common.{arith, rules, codes}
use Rattle.bracket.specs.Items.{call_form}
use Rattle.bracket.proofs.Spelling.{spelt}
use Rattle.bracket.proofs.forms.call_form.Goals as goal

pub returns-in_ok-component-in-release : goal.returns-in_ok-component-in-release
returns-in_ok-component-in-release c = spelt (codes "release") c.args.word.now (λ w. call_form w c.args.items.now) _ (omega arith) (search rules) (search rules)

pub returns-in_ok-component-in-done : goal.returns-in_ok-component-in-done
returns-in_ok-component-in-done c = spelt (codes "done") c.args.word.now (λ w. call_form w c.args.items.now) _ (omega arith) (search rules) (search rules)

pub returns-in_ok-component-in-lock : goal.returns-in_ok-component-in-lock
returns-in_ok-component-in-lock c = spelt (codes "lock") c.args.word.now (λ w. call_form w c.args.items.now) _ (omega arith) (search rules) (search rules)

pub returns-in_ok-component-in-unlock : goal.returns-in_ok-component-in-unlock
returns-in_ok-component-in-unlock c = spelt (codes "unlock") c.args.word.now (λ w. call_form w c.args.items.now) _ (omega arith) (search rules) (search rules)

pub returns-in-tick : goal.returns-in-tick
returns-in-tick c = spelt (codes "tick") c.args.word.now (λ w. call_form w c.args.items.now) _ (omega arith) (search rules) (search rules)
