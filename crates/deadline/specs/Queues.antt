-- The jobs in a list.
use Rattle.std.specs.Prelude.{◌≡◌, ℕ, Bool, true, false, ◌&&◌, ◌||◌, List, Option, MatchOption, ◌==◌, nat_le, nat_lt}
use Rattle.std.specs.List.{IsDistinct, list_any, find, position_or_len}
use Rattle.std.specs.Option.{option_map}
use Rattle.line.specs.declared.records.Job.{Job}
use Rattle.boards.specs.Boards.{same_job}

-- the job is of the component's task
abbrev pub is_job : Job → ℕ → ℕ → Bool
is_job x c t = same_job x.component x.task c t

-- a job of the component's task is in the list
abbrev pub holds : ℕ → ℕ → List Job → Bool
holds c t = list_any (λ x. is_job x c t)

-- how many jobs stand before it
abbrev pub place_of : ℕ → ℕ → List Job → ℕ
place_of c t = position_or_len (λ x. is_job x c t)

-- the task of the component's first job
abbrev pub first_of : ℕ → List Job → Option ℕ
first_of c jobs = option_map (λ x. x.task) (find (λ x. c == x.component) jobs)

-- the two jobs are of one component and one task
abbrev pub of_one_task : Job → Job → Bool
of_one_task x y = is_job y x.component x.task

-- no two jobs are of one component and one task
abbrev pub Distinct : List Job → Type 0
Distinct = IsDistinct of_one_task

-- the jobs in the list are the pending ones
abbrev pub SameJobs : (ℕ → ℕ → Bool) → List Job → Type 0
SameJobs pending jobs = (c t : ℕ) → holds c t jobs ≡ pending c t

-- a job of the component's task is in the list, due at the time e
abbrev pub holds_due : ℕ → ℕ → ℕ → List Job → Bool
holds_due e c t = list_any (λ x. e == x.due && is_job x c t)

-- a job of task t due at e goes no later than one of task u due at f
abbrev pub no_later : ℕ → ℕ → ℕ → ℕ → Bool
no_later e t f u = nat_lt e f || (e == f && nat_le t u)

-- none where the component has no job; else the task of its job with the smallest due time, and the smallest task of those
abbrev pub Earliest : ℕ → List Job → Option ℕ → Type 0
Earliest c xs task =
    MatchOption task
    ((t : ℕ) → holds c t xs ≡ false)
    (λ t. (e : ℕ) × (holds_due e c t xs ≡ true) × ((f u : ℕ) → holds_due f c u xs ≡ true → no_later e t f u ≡ true))
