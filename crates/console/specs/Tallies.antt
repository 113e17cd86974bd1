-- Counts of lines.
use Rattle.std.specs.Prelude.{ℕ, ◌+◌, ◌-◌, ◌^◌, min}
use Rattle.console.specs.declared.answers.Answer.{Answer}
use Rattle.console.specs.declared.answers.Answer.TheVariants.{Accepted, Refused, Unreadable}
use Rattle.console.specs.declared.tally.Tally.{Tally}

-- one more, up to the largest number that a count can hold
abbrev pub more : ℕ → ℕ
more n = min (n + 1) (2 ^ 64 - 1)

abbrev pub no_lines : Tally
no_lines = record { lines = 0; accepted = 0; refused = 0; unreadable = 0 }

-- the number of the next line
abbrev pub line_after : Tally → ℕ
line_after tally = more tally.lines

-- the counts after a line with this answer
abbrev pub tallied : Tally → Answer → Tally
tallied t (Accepted reply) = record { lines = more t.lines; accepted = more t.accepted; refused = t.refused; unreadable = t.unreadable }
tallied t (Refused refusal) = record { lines = more t.lines; accepted = t.accepted; refused = more t.refused; unreadable = t.unreadable }
tallied t (Unreadable line fault) = record { lines = more t.lines; accepted = t.accepted; refused = t.refused; unreadable = more t.unreadable }
