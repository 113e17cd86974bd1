use Rattle.std.proofs.Common.{◌≡◌, sym, subst, rules}
use Rattle.deadline.specs.Queues.{first_of, Earliest}
use Rattle.deadline.specs.DeadlineBoards.{queue}
use Rattle.deadline.proofs.Ordered.{first_earliest}
use Rattle.deadline.proofs.deadline.DeadlineBoard.pick.Goals as goal

pub returns-clause-earliest : goal.returns-clause-earliest
returns-clause-earliest c =
    let jobs = queue c.args.self.now in
    let first : c.first_of.result ≡ first_of c.args.component jobs = search rules in
    subst (Earliest c.args.component jobs) (sym first) (first_earliest c.args.component jobs c.args.self.now.in_order)
