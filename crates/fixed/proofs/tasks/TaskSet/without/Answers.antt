use Rattle.std.proofs.Common.{arith, w8}
use Rattle.std.proofs.lemmas.Bool.Decides.{nat_tests}
use Rattle.std.proofs.lemmas.Nat.Bits.{bit_at_clear_same, bit_at_clear_other}
use Rattle.fixed.proofs.tasks.TaskSet.without.Goals as goal

pub returns : goal.returns
returns c t =
    let here = bit_at_clear_same w8 c.args.self.bits c.args.task c.requires in
    let there = bit_at_clear_other w8 c.args.self.bits c.args.task c.requires t in
    grind (arith, nat_tests)
