use Rattle.deadline.proofs.Tables.{nothing_held}
use Rattle.deadline.proofs.deadline.DeadlineResizable.new.Goals as goal

pub invariant_of-result : goal.invariant_of-result
invariant_of-result c = nothing_held c.new-sets.result c.new.result _ c.new-sets.ensures c.new.ensures
