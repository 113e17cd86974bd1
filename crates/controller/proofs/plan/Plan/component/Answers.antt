use Rattle.controller.specs.Draft.{component_refusal}
use Rattle.controller.proofs.Kept.{sound_component, unchanged}
use Rattle.controller.proofs.plan.Plan.component.Goals as goal

pub invariant_of-self : goal.invariant_of-self
invariant_of-self c =
    let was = c.args.self.now in
    record { sound = rw (c.push.ensures.items, c.new.ensures) (sound_component was.components.items _ _ _ c.in_ok-check_component.ensures was.sound) }

pub returns-in_err-check_component-clause-after : goal.returns-in_err-check_component-clause-after
returns-in_err-check_component-clause-after c =
    unchanged (component_refusal c.args.self.now.components.items c.args.level c.args.budget c.args.period) _ _ _ c.in_err-check_component.ensures
