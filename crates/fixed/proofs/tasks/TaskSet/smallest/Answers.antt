use Rattle.std.proofs.Common.{arith, rules}
use Rattle.fixed.proofs.Sets.{none_of_zero, smallest_of_none, smallest_of_some}
use Rattle.fixed.proofs.tasks.TaskSet.smallest.Goals as goal

pub returns-then-self-eq0 : goal.returns-then-self-eq0
returns-then-self-eq0 c = search (rules, smallest_of_none c.args.self (none_of_zero c.args.self (omega arith)))

pub returns : goal.returns
returns c = search (rules, smallest_of_some c.args.self (omega arith) (omega arith))
