use Rattle.std.proofs.Common.{rules}
use Rattle.deadline.proofs.Tables.{went}
use Rattle.deadline.proofs.deadline.DeadlineBoard.strike.Goals as goal

pub invariant_of-self-2 : goal.invariant_of-self-2
invariant_of-self-2 c =
    went c.args.self.now (search rules) c.strike.new.self _ _ c.take.auto.places c.args.component c.args.task _ c.take.result c.take.ensures.refusal c.take.ensures.taken (search rules) (search rules) (search rules)
