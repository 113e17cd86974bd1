use Rattle.std.proofs.Common.{rules}
use Rattle.fixed.specs.Fixeds.{empty_sets}
use Rattle.fixed.proofs.fixed.FixedResizable.set_reach.Goals as goal

pub returns-clause-set : goal.returns-clause-set
returns-clause-set c = search (rules, empty_sets c.args.reach c.args.self.now.sets (c.is_empty.ensures.jobs.0 c.if-not-is_empty.false))
