-- What a line of bytes reads as.
use Rattle.std.specs.Prelude.{◌≡◌, ℕ, ◌<◌, ◌≤◌, List, length, Ok, Err, Result}
use Rattle.bracket.specs.declared.commands.Command.{Command}
use Rattle.bracket.specs.declared.faults.FormFault.{FormFault}
use Rattle.bracket.specs.declared.faults.FormFault.TheVariants.{Word, Unknown}
use Rattle.bracket.specs.declared.faults.LineFault.{LineFault}
use Rattle.bracket.specs.declared.faults.LineFault.TheVariants.{TooLong, Form}
use Rattle.bracket.specs.Faults.{Clean, FirstFault}
use Rattle.bracket.specs.Texts.{Writes}

-- the same of a line that is not too long: a command, the first word fault, or no known form
abbrev pub FormReads : List ℕ → Result Command FormFault → Type 0
FormReads line (Ok command) = Writes command line
FormReads line (Err (Word fault)) = FirstFault line fault
FormReads line (Err Unknown) = Clean line × ((command : Command) → Writes command line → ⊥)

-- A command is read where the line is its text. Else the fault is, in this order: more than 80 bytes; the first word fault; no known form.
abbrev pub Reads : List ℕ → Result Command LineFault → Type 0
Reads line (Ok command) = Writes command line
Reads line (Err TooLong) = 80 < length line
Reads line (Err (Form fault)) = (length line ≤ 80) × FormReads line (Err fault)

-- what a line reads as, and nothing else
pub record ReadAs (line : List ℕ) (result : Result Command LineFault) : Type 0 where
  pub reads : Reads line result
  pub only : (other : Result Command LineFault) → Reads line other → other ≡ result
