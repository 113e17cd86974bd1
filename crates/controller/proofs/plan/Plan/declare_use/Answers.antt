use Rattle.controller.specs.Draft.{use_refusal}
use Rattle.controller.proofs.Kept.{sound_use, unchanged, written}
use Rattle.controller.proofs.plan.Plan.declare_use.Goals as goal

pub invariant_of-self : goal.invariant_of-self
invariant_of-self c =
    let was = c.args.self.now in
    record { sound = written _ _ _ _ _ c.deref_mut.ensures.value (rw c.deref_mut.ensures.value at c.add_use.ensures) (sound_use _ _ _ _ _ c.in_ok-check_use.ensures was.sound) }

pub returns-in_err-check_use-clause-after : goal.returns-in_err-check_use-clause-after
returns-in_err-check_use-clause-after c =
    unchanged (use_refusal c.args.self.now.components.items c.args.component c.args.resource c.args.access) _ _ _ c.in_err-check_use.ensures
