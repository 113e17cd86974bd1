use Rattle.std.proofs.Common.{◌≡◌, ◌≤◌, take, is_some, count_by}
use Rattle.controller.proofs.component.Component.uses.Given as goal

-- the uses among the resources that the loop has passed
abbrev pub invariant-loop-access : goal.invariant-loop-access
invariant-loop-access l = (l.uses ≡ count_by is_some (take l.access-index l.self.accesses)) × (l.uses ≤ l.access-index)
