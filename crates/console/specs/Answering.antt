-- One line in, one answer out.
use Rattle.std.specs.Prelude.{◌≡◌, ℕ, List, None, Ok, Err, Option, Result}
use Rattle.bracket.specs.declared.commands.Command.{Command}
use Rattle.bracket.specs.declared.faults.LineFault.{LineFault}
use Rattle.bracket.specs.Reads.{ReadAs}
use Rattle.console.specs.declared.answers.Answer.{Answer}
use Rattle.console.specs.declared.answers.Answer.TheVariants.{Unreadable}
use Rattle.console.specs.declared.console.Console.{Console}
use Rattle.console.specs.declared.tally.Tally.{Tally}
use Rattle.console.specs.Answers.{replied}
use Rattle.console.specs.Drafting.{Draft, draft_of, outcome_of}
use Rattle.console.specs.Tallies.{no_lines, line_after, tallied}

-- what is kept between lines: what is drafted, and the counts
pub record State : Type 0 where
  pub draft : Option Draft
  pub tally : Tally

abbrev pub state_of : Console → State
state_of console = record { draft = draft_of console.controller; tally = console.tally }

abbrev pub fresh_state : State
fresh_state = record { draft = None; tally = no_lines }

-- the answer to a line that reads so
abbrev pub answer_to : State → Result Command LineFault → Answer
answer_to state (Ok command) = replied (outcome_of state.draft command).reply
answer_to state (Err fault) = Unreadable (line_after state.tally) fault

-- a line that cannot be read changes no draft
abbrev pub draft_after : Option Draft → Result Command LineFault → Option Draft
draft_after draft (Ok command) = (outcome_of draft command).draft
draft_after draft (Err fault) = draft

abbrev pub state_after : State → Result Command LineFault → State
state_after state read = record { draft = draft_after state.draft read; tally = tallied state.tally (answer_to state read) }

-- the line has this answer, and leaves this behind
pub record Answered (before : State) (line : List ℕ) (answer : Answer) (after : State) : Type 0 where
  pub read : Result Command LineFault
  pub reads : ReadAs line read
  pub says : answer ≡ answer_to before read
  pub leaves : after ≡ state_after before read
