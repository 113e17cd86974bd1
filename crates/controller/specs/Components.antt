-- The components that a plan declares, by their numbers.
use Rattle.std.specs.Prelude.{ℕ, List, [], length, sum_by, slice_index_or}
use Rattle.controller.specs.Rules.{tasks_of, uses_of}
use Rattle.controller.specs.declared.component.Component.{Component}
use Rattle.controller.specs.declared.counts.Counts.{Counts}

-- what a look past the last component gives
abbrev pub absent : Component
absent = record { level = 0; budget = 0; period = 0; deadlines = record { items = [] }; accesses = [] }

-- the component with a number
abbrev pub component_at : List Component → ℕ → Component
component_at components i = slice_index_or components i absent

-- the declared components, and the tasks and the uses of all of them
abbrev pub counts_of : List Component → Counts
counts_of components = record { components = length components; tasks = sum_by tasks_of components; uses = sum_by uses_of components }
