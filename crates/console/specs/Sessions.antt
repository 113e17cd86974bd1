-- A whole input, fed in pieces: its lines, their answers, and what is printed.
use Rattle.std.specs.Prelude.{◌≡◌, ℕ, List, [], ◌∷◌, ◌++◌, take, ◌≢◌}
use Rattle.std.specs.List.{flat_map, All}
use Rattle.console.specs.declared.answers.Answer.{Answer}
use Rattle.console.specs.declared.report.Report.{Report}
use Rattle.console.specs.declared.session.Session.{Session}
use Rattle.console.specs.Answering.{State, fresh_state, state_of, Answered}
use Rattle.console.specs.Answers.{answer_text}
use Rattle.console.specs.Buffers.{kept_in}
use Rattle.console.specs.Reports.{report_of}

-- bytes with the byte 10 that ends a line
abbrev pub ended : List ℕ → List ℕ
ended line = line ++ 10 ∷ []

-- no byte 10 among them
abbrev pub Unbroken : List ℕ → Type 0
Unbroken bytes = All (λ b. b ≢ 10) bytes

-- the input is these lines, each ended, and then the rest of a line that is not ended
pub record Cut (input : List ℕ) (lines : List (List ℕ)) (rest : List ℕ) : Type 0 where
  pub whole : input ≡ flat_map ended lines ++ rest
  pub unbroken : All Unbroken lines
  pub open_end : Unbroken rest

-- a rest that is not empty is the last line
abbrev pub last_line : List ℕ → List (List ℕ)
last_line [] = []
last_line (b ∷ bytes) = (b ∷ bytes) ∷ []

-- lines from the first one on, each with its answer, and what is kept after them
pub data Dialogue : List (List ℕ) → List Answer → State → Type 0 where
  begin : Dialogue [] [] fresh_state
  next : {lines : List (List ℕ)} {answers : List Answer} {before : State} (line : List ℕ) (answer : Answer) (after : State) → Dialogue lines answers before → Answered before line answer after
      → Dialogue (lines ++ line ∷ []) (answers ++ answer ∷ []) after

-- one line of print for each answer
abbrev pub printed : List Answer → List ℕ
printed answers = flat_map (λ answer. ended (answer_text answer)) answers

-- a session that was fed this input in all, and printed this output: the lines that have ended are answered, and the first 81 bytes of the rest are kept
pub record Reached (input output : List ℕ) (session : Session) : Type 0 where
  pub lines : List (List ℕ)
  pub rest : List ℕ
  pub answers : List Answer
  pub cut : Cut input lines rest
  pub said : Dialogue lines answers (state_of session.console)
  pub wrote : output ≡ printed answers
  pub kept : kept_in session.buffer ≡ take 81 rest

-- the whole input: every line is answered, one that the input's end ends too, and the report is of all of them
pub record Finished (input output : List ℕ) (report : Report) : Type 0 where
  pub lines : List (List ℕ)
  pub rest : List ℕ
  pub answers : List Answer
  pub state : State
  pub cut : Cut input lines rest
  pub said : Dialogue (lines ++ last_line rest) answers state
  pub wrote : output ≡ printed answers
  pub told : report ≡ report_of state

-- the line that is kept is answered, and no line is kept after it
pub record LineEnded (before after : Session) (was is : List ℕ) : Type 0 where
  pub answer : Answer
  pub answered : Answered (state_of before.console) (kept_in before.buffer) answer (state_of after.console)
  pub adds : is ≡ was ++ ended (answer_text answer)
  pub emptied : kept_in after.buffer ≡ []

-- what a call with these bytes adds to the output, for all that was fed and printed before it
pub record Fed (input output bytes : List ℕ) (session : Session) (was is : List ℕ) : Type 0 where
  pub more : List ℕ
  pub adds : is ≡ was ++ more
  pub reached : Reached (input ++ bytes) (output ++ more) session

-- what the last call adds, and the report
pub record Closed (input output : List ℕ) (report : Report) (was is : List ℕ) : Type 0 where
  pub more : List ℕ
  pub adds : is ≡ was ++ more
  pub finished : Finished input (output ++ more) report
