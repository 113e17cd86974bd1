-- Each command has one written form.
use Rattle.std.specs.Prelude.{◌≡◌, ℕ, ◌^◌, ◌<◌, List, [], ◌∷◌, ◌++◌, codes, decimal}
use Rattle.std.specs.List.{All}
use Rattle.bracket.specs.declared.commands.Kind.{Kind}
use Rattle.bracket.specs.declared.commands.Kind.TheVariants.{Fixed, Deadline}
use Rattle.bracket.specs.declared.commands.Side.{Side}
use Rattle.bracket.specs.declared.commands.BoardText.{BoardText}
use Rattle.bracket.specs.declared.commands.BoardText.TheVariants.{Single, Join}
use Rattle.bracket.specs.declared.commands.Command.{Command}
use Rattle.bracket.specs.declared.commands.Command.TheVariants.{Board, Component, Task, Use, Release, Done, Lock, Unlock, Tick, Runner, Budget, Ceiling, Holder, Bound, Assured}

-- a space and the number in base ten, with no leading zero
abbrev pub item : ℕ → List ℕ
item n = 32 ∷ decimal n

abbrev pub kind_text : Kind → List ℕ
kind_text Fixed = codes "fixed"
kind_text Deadline = codes "deadline"

abbrev pub side_text : Side → List ℕ
side_text side = codes " (" ++ (kind_text side.kind ++ (item side.reach ++ codes ")"))

abbrev pub board_text : BoardText → List ℕ
board_text (Single side) = codes " " ++ (kind_text side.kind ++ (item side.reach ++ codes ")"))
board_text (Join first second) = codes " join" ++ (side_text first ++ (side_text second ++ codes ")"))

abbrev pub text : Command → List ℕ
text (Board board) = codes "(board" ++ board_text board
text (Component level budget period) = codes "(component" ++ (item level ++ (codes " (budget" ++ (item budget ++ (item period ++ codes "))"))))
text (Task component deadline) = codes "(task" ++ (item component ++ (item deadline ++ codes ")"))
text (Use component resource access) = codes "(use" ++ (item component ++ (item resource ++ (item access ++ codes ")")))
text (Release component task) = codes "(release" ++ (item component ++ (item task ++ codes ")"))
text (Done component task) = codes "(done" ++ (item component ++ (item task ++ codes ")"))
text (Lock component task resource) = codes "(lock" ++ (item component ++ (item task ++ (item resource ++ codes ")")))
text (Unlock component task resource) = codes "(unlock" ++ (item component ++ (item task ++ (item resource ++ codes ")")))
text Tick = codes "(tick)"
text Runner = codes "(runner)"
text (Budget component) = codes "(budget" ++ (item component ++ codes ")")
text Ceiling = codes "(ceiling)"
text (Holder resource) = codes "(holder" ++ (item resource ++ codes ")")
text (Bound component) = codes "(bound" ++ (item component ++ codes ")")
text (Assured component) = codes "(assured" ++ (item component ++ codes ")")

abbrev pub board_numbers : BoardText → List ℕ
board_numbers (Single side) = side.reach ∷ []
board_numbers (Join first second) = first.reach ∷ second.reach ∷ []

-- the numbers of a command, in the order of its text
abbrev pub numbers : Command → List ℕ
numbers (Board board) = board_numbers board
numbers (Component level budget period) = level ∷ budget ∷ period ∷ []
numbers (Task component deadline) = component ∷ deadline ∷ []
numbers (Use component resource access) = component ∷ resource ∷ access ∷ []
numbers (Release component task) = component ∷ task ∷ []
numbers (Done component task) = component ∷ task ∷ []
numbers (Lock component task resource) = component ∷ task ∷ resource ∷ []
numbers (Unlock component task resource) = component ∷ task ∷ resource ∷ []
numbers Tick = []
numbers Runner = []
numbers (Budget component) = component ∷ []
numbers Ceiling = []
numbers (Holder resource) = resource ∷ []
numbers (Bound component) = component ∷ []
numbers (Assured component) = component ∷ []

-- the line is the text of the command, and no number in it has more than 16 digits
pub record Writes (command : Command) (line : List ℕ) : Type 0 where
  pub same : line ≡ text command
  pub small : All (λ n. n < 10 ^ 16) (numbers command)
