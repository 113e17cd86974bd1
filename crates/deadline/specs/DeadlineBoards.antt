-- The deadline board: the jobs in its line.
use Rattle.std.specs.Prelude.{◌≡◌, ℕ, List}
use Rattle.std.specs.List.{remove}
use Rattle.line.specs.Lines.{records_of}
use Rattle.line.specs.Order.{insertion}
use Rattle.line.specs.Records.{job_le}
use Rattle.line.specs.declared.records.Job.{Job}
use Rattle.boards.specs.Boards.{Meaning}
use Rattle.deadline.specs.Queues.{holds, place_of, first_of}
use Rattle.deadline.specs.declared.deadline.Deadline.{Deadline}

-- the pending jobs, in the order of their due times
abbrev pub queue : Deadline → List Job
queue b = records_of b.line b.places

-- the jobs in a queue are pending, and the pick is the task of the component's first one
abbrev pub queue_means : ℕ → List Job → Meaning
queue_means reach jobs = record { reach = reach; pending = λ c t. holds c t jobs; picked = λ c. first_of c jobs }

abbrev pub deadline_means : Deadline → Meaning
deadline_means b = queue_means b.sets.reach (queue b)

-- the job is in the line, with its due time
abbrev pub DeadlineAdded : Deadline → ℕ → ℕ → ℕ → Deadline → Type 0
DeadlineAdded b c t e b' = queue b' ≡ insertion job_le (record { due = e; component = c; task = t }) (queue b)

-- the job is gone from the line
abbrev pub DeadlineStruck : Deadline → ℕ → ℕ → Deadline → Type 0
DeadlineStruck b c t b' = queue b' ≡ remove (queue b) (place_of c t (queue b))
