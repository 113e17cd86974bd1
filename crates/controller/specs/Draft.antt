-- The calls that draft a plan: for which cause each is refused, what it answers and what it declares.
use Rattle.std.specs.Prelude.{ℕ, Bool, length, List, [], ◌∷◌, ◌++◌, is_some, None, Option, Result, nat_eq, nat_le, nat_lt, slice_index_or, slice_set}
use Rattle.std.specs.List.{list_any}
use Rattle.refusals.specs.Causes.{first_cause, answered, unless_refused, outside}
use Rattle.refusals.specs.declared.Refusal.{Refusal}
use Rattle.refusals.specs.declared.Refusal.TheVariants.{ComponentLimit, LevelRange, LevelTaken, PeriodRange, BudgetRange, UnknownComponent, TaskLimit, DeadlineRange, ResourceRange, UseTwice, AccessRange}
use Rattle.controller.specs.Rules.{fresh, with_task, with_use, tasks_of}
use Rattle.controller.specs.declared.component.Component.{Component}
use Rattle.controller.specs.Components.{component_at}

-- a declared component has the level
abbrev pub level_taken : List Component → ℕ → Bool
level_taken cs level = list_any (λ c. nat_eq c.level level) cs

-- ---- a component

-- the first cause for which a component is refused
abbrev pub component_refusal : List Component → ℕ → ℕ → ℕ → Option Refusal
component_refusal cs level budget period =
    first_cause
    (
    (nat_le 8 (length cs), ComponentLimit)
    ∷ (outside 1 200 level, LevelRange)
    ∷ (level_taken cs level, LevelTaken)
    ∷ (outside 1 1000000 period, PeriodRange)
    ∷ (outside 1 period budget, BudgetRange)
    ∷ []
    )

-- an accepted call answers the number of the new component
abbrev pub component_answer : List Component → ℕ → ℕ → ℕ → Result ℕ Refusal
component_answer cs level budget period = answered (component_refusal cs level budget period) (length cs)

-- the components declared after the call: those before it and then the new one, which takes the next number, if it is accepted
abbrev pub component_declared : List Component → ℕ → ℕ → ℕ → List Component
component_declared cs level budget period =
    unless_refused (component_refusal cs level budget period) (cs ++ fresh level budget period ∷ []) cs

-- ---- a task

-- the first cause for which a task is refused
abbrev pub task_refusal : List Component → ℕ → ℕ → Option Refusal
task_refusal cs component deadline =
    first_cause
    (
    (nat_le (length cs) component, UnknownComponent)
    ∷ (nat_le 8 (tasks_of (component_at cs component)), TaskLimit)
    ∷ (outside 1 1000000 deadline, DeadlineRange)
    ∷ []
    )

-- an accepted call answers the number of the new task, which is the number of tasks before it
abbrev pub task_answer : List Component → ℕ → ℕ → Result ℕ Refusal
task_answer cs component deadline = answered (task_refusal cs component deadline) (tasks_of (component_at cs component))

-- what is declared after the call
abbrev pub task_declared : List Component → ℕ → ℕ → List Component
task_declared cs component deadline =
    unless_refused (task_refusal cs component deadline) (slice_set cs component (with_task (component_at cs component) deadline)) cs

-- ---- a use of a resource

-- the first cause for which a use is refused
abbrev pub use_refusal : List Component → ℕ → ℕ → ℕ → Option Refusal
use_refusal cs component resource access =
    first_cause
    (
    (nat_le (length cs) component, UnknownComponent)
    ∷ (nat_lt 15 resource, ResourceRange)
    ∷ (is_some (slice_index_or (component_at cs component).accesses resource None), UseTwice)
    ∷ (outside 1 (component_at cs component).budget access, AccessRange)
    ∷ []
    )

-- an accepted call answers nothing more
abbrev pub use_answer : List Component → ℕ → ℕ → ℕ → Result (Unit {0}) Refusal
use_answer cs component resource access = answered (use_refusal cs component resource access) tt

-- what is declared after the call
abbrev pub use_declared : List Component → ℕ → ℕ → ℕ → List Component
use_declared cs component resource access =
    unless_refused (use_refusal cs component resource access) (slice_set cs component (with_use (component_at cs component) resource access)) cs
