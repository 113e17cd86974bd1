use Rattle.std.proofs.Common.{◌≡◌, arith}
use Rattle.std.proofs.lemmas.Bool.Decides.{nat_tests}
use Rattle.fixed.proofs.Sets.{none_of_zero, has_member}
use Rattle.fixed.proofs.tasks.TaskSet.is_empty.Goals as goal

pub returns : goal.returns
returns c =
    let s = c.args.self in (
      λ h. has_member s (grind (arith, nat_tests)) (omega arith),
      λ p. let none = λ (e : s.bits ≡ 0). none_of_zero s e p.0 in grind (arith, nat_tests),
    )
