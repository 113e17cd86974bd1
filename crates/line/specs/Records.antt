-- The orders of the two kinds of record: by their fields, from the first to the last.
use Rattle.std.specs.Prelude.{Bool, ◌&&◌, ◌||◌, ◌==◌, nat_le, nat_lt}
use Rattle.line.specs.declared.records.Job.{Job}
use Rattle.line.specs.declared.records.Refill.{Refill}

-- by due time, then by component, then by task
abbrev pub job_le : Job → Job → Bool
job_le a b = nat_lt a.due b.due || (a.due == b.due && (nat_lt a.component b.component || (a.component == b.component && nat_le a.task b.task)))

-- by due time, then by component
abbrev pub refill_le : Refill → Refill → Bool
refill_le a b = nat_lt a.due b.due || (a.due == b.due && nat_le a.component b.component)
