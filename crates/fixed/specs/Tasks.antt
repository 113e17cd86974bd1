-- Sets of the tasks 0 to 7.
use Rattle.std.specs.Prelude.{◌≡◌, ℕ, ◌<◌, ◌≤◌, Bool, true, false, ◌&&◌, List, Option, MatchOption, ◌==◌, nat_lt, slice_index_or}
use Rattle.std.specs.Int.{bit_at}
use Rattle.std.specs.List.{find, range_with_len}
use Rattle.fixed.specs.declared.tasks.TaskSet.{TaskSet}

-- the task is in the set
abbrev pub member : TaskSet → ℕ → Bool
member set t = nat_lt t 8 && bit_at set.bits t == 1

abbrev pub no_tasks : TaskSet
no_tasks = record { bits = 0 }

-- the set of a component, empty where the table ends
abbrev pub set_at : List TaskSet → ℕ → TaskSet
set_at sets c = slice_index_or sets c no_tasks

-- the sets from a component on are empty
abbrev pub ClearFrom : ℕ → List TaskSet → Type 0
ClearFrom n sets = (c t : ℕ) → n ≤ c → member (set_at sets c) t ≡ false

-- the smallest of the tasks 0 to 7 that is in a set, if any is
unfoldable pub smallest : (ℕ → Bool) → Option ℕ
smallest set = find set (range_with_len 0 8)

-- the task is in the set and no smaller one is; or it is none, and the set is empty
abbrev pub Smallest : (ℕ → Bool) → Option ℕ → Type 0
Smallest set task = MatchOption task ((t : ℕ) → set t ≡ false) (λ t. (set t ≡ true) × ((u : ℕ) → u < t → set u ≡ false))
