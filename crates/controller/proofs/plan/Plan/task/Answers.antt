use Rattle.controller.proofs.Kept.{sound_task, written}
use Rattle.controller.proofs.plan.Plan.task.Goals as goal

pub invariant_of-self : goal.invariant_of-self
invariant_of-self c =
    let was = c.args.self.now in
    record { sound = written _ _ _ _ _ c.deref_mut.ensures.value (rw c.deref_mut.ensures.value at c.add_task.ensures) (sound_task _ _ _ _ c.in_ok-check_task.ensures was.sound) }
