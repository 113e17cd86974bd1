use Rattle.std.proofs.Common.{rules}
use Rattle.deadline.proofs.Tables.{came}
use Rattle.deadline.proofs.deadline.DeadlineBoard.add.Goals as goal

pub invariant_of-self-2 : goal.invariant_of-self-2
invariant_of-self-2 c =
    came c.args.self.now (search rules) c.add.new.self _ _ c.add-2.auto.places _ c.add-2.result c.add-2.ensures.refusal c.add-2.ensures.added (search rules) (search rules)
