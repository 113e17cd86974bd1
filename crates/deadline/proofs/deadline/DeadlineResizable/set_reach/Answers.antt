use Rattle.std.proofs.Common.{rules}
use Rattle.deadline.proofs.Tables.{reset_same, reset_means}
use Rattle.deadline.proofs.deadline.DeadlineResizable.set_reach.Goals as goal

pub invariant_of-self-clause-same : goal.invariant_of-self-clause-same
invariant_of-self-clause-same c = reset_same c.args.self.now _ _ c.set_reach.result c.set_reach.ensures.refusal c.set_reach.ensures.kept c.set_reach.ensures.set

pub returns-clause-set : goal.returns-clause-set
returns-clause-set c = reset_means c.args.self.now c.set_reach.new.self _ c.set_reach.result (search rules) (search rules)
