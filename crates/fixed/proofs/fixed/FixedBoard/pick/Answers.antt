use Rattle.std.proofs.Common.{◌≤◌, arith, rules}
use Rattle.std.proofs.lemmas.Bool.Decides.{nat_tests}
use Rattle.fixed.specs.Tasks.{set_at}
use Rattle.fixed.specs.Members.{smallest_is}
use Rattle.fixed.proofs.Sets.{smallest_of_none}
use Rattle.fixed.proofs.fixed.FixedBoard.pick.Goals as goal

pub returns-in_err-tasks_of-clause-is : goal.returns-in_err-tasks_of-clause-is
returns-in_err-tasks_of-clause-is c =
    let b = c.args.self.now in
    let past : b.reach ≤ c.args.component = grind (arith, nat_tests) in
    search (rules, smallest_of_none (set_at b.sets c.args.component) (λ t. b.clear c.args.component t past))

pub returns-clause-smallest : goal.returns-clause-smallest
returns-clause-smallest c = let set = set_at c.args.self.now.sets c.args.component in search (rules, smallest_is set)
