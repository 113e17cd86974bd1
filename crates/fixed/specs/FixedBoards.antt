-- The fixed board: a set of tasks for each component.
use Rattle.std.specs.Prelude.{ℕ, Bool, List}
use Rattle.boards.specs.Boards.{Meaning}
use Rattle.fixed.specs.Tasks.{member, set_at, smallest}
use Rattle.fixed.specs.declared.fixed.Fixed.{Fixed}
use Rattle.fixed.specs.declared.tasks.TaskSet.{TaskSet}

-- the jobs of the tasks in each component's set are pending, and the pick is the smallest of them
abbrev pub sets_mean : ℕ → List TaskSet → Meaning
sets_mean reach sets = record { reach = reach; pending = λ c. member (set_at sets c); picked = λ c. smallest (member (set_at sets c)) }

abbrev pub fixed_means : Fixed → Meaning
fixed_means b = sets_mean b.reach b.sets

abbrev pub fixed_pending : Fixed → ℕ → ℕ → Bool
fixed_pending b = (fixed_means b).pending
