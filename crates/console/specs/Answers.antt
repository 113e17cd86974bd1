-- What a line is answered, and what is printed of it.
use Rattle.std.specs.Prelude.{ℕ, List, ◌++◌, Ok, Err, Result, codes, decimal}
use Rattle.refusals.specs.Numbers.{number_of}
use Rattle.refusals.specs.declared.Refusal.{Refusal}
use Rattle.bracket.specs.Faults.{fault_text}
use Rattle.console.specs.declared.answers.Reply.{Reply}
use Rattle.console.specs.declared.answers.Reply.TheVariants.{Done, Number}
use Rattle.console.specs.declared.answers.Answer.{Answer}
use Rattle.console.specs.declared.answers.Answer.TheVariants.{Accepted, Refused, Unreadable}

-- a command is accepted with its reply, or refused
abbrev pub replied : Result Reply Refusal → Answer
replied (Ok reply) = Accepted reply
replied (Err refusal) = Refused refusal

abbrev pub reply_text : Reply → List ℕ
reply_text Done = codes "(ok)"
reply_text (Number n) = codes "(ok " ++ (decimal n ++ codes ")")

abbrev pub answer_text : Answer → List ℕ
answer_text (Accepted reply) = reply_text reply
answer_text (Refused refusal) = codes "(no " ++ (decimal (number_of refusal) ++ codes ")")
answer_text (Unreadable line fault) = fault_text line fault
