use Rattle.std.proofs.Common.{arith}
use Rattle.std.proofs.lemmas.Bool.Decides.{nat_tests}
use Rattle.controller.proofs.plan.Plan.check_component.Goals as goal

pub returns : goal.returns
returns c = grind (arith, nat_tests)
