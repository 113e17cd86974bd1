-- The boards that texts ask for.
use Rattle.std.specs.Prelude.{◌≡◌, ℕ, ◌+◌, min, [], ◌∷◌, Option}
use Rattle.refusals.specs.Causes.{first_cause, outside}
use Rattle.refusals.specs.declared.Refusal.{Refusal}
use Rattle.refusals.specs.declared.Refusal.TheVariants.{ReachRange}
use Rattle.bracket.specs.declared.commands.Side.{Side}
use Rattle.bracket.specs.declared.commands.Kind.TheVariants as kind
use Rattle.bracket.specs.declared.commands.BoardText.{BoardText}
use Rattle.bracket.specs.declared.commands.BoardText.TheVariants.{Single, Join}
use Rattle.boards.specs.Boards.{Meaning, empty_board, made_refusal}
use Rattle.fixed.specs.FixedBoards.{fixed_means}
use Rattle.deadline.specs.DeadlineBoards.{deadline_means}
use Rattle.boards.specs.JoinedBoards.{joined}
use Rattle.boards.specs.EitherBoards.{either_means}
use Rattle.fixed.specs.declared.fixed.Fixed.{Fixed}
use Rattle.deadline.specs.declared.deadline.Deadline.{Deadline}
use Rattle.boards.specs.declared.joined.Joined.{Joined}
use Rattle.boards.specs.declared.either.Either.{Either}
use Rattle.boards.specs.declared.either.Either.TheVariants.{First, Second}

-- a board of either kind, and the one place for whichever board a text asks for
abbrev pub SideBoard : Type 0
SideBoard = Either Fixed Deadline

abbrev pub TextBoard : Type 0
TextBoard = Either SideBoard (Joined SideBoard SideBoard)

-- ---- what a board is

-- its kind and its reach, as a text would ask for it
abbrev pub side_text : SideBoard → Side
side_text (First b) = record { kind = kind.Fixed; reach = b.reach }
side_text (Second b) = record { kind = kind.Deadline; reach = b.sets.reach }

abbrev pub board_text : TextBoard → BoardText
board_text (First side) = Single (side_text side)
board_text (Second j) = Join (side_text j.first) (side_text j.second)

-- its reach, its pending jobs and its picks
abbrev pub side_means : SideBoard → Meaning
side_means = either_means fixed_means deadline_means

abbrev pub board_means : TextBoard → Meaning
board_means = either_means side_means (λ j. joined (side_means j.first) (side_means j.second))

-- ---- what a text asks for

-- the reach of the whole board
abbrev pub reach_of : BoardText → ℕ
reach_of (Single side) = side.reach
reach_of (Join first second) = min 8 (first.reach + second.reach)

-- it is refused where a reach in it is not from 1 to 8
abbrev pub side_refusal : Side → Option Refusal
side_refusal side = made_refusal side.reach

abbrev pub board_refusal : BoardText → Option Refusal
board_refusal (Single side) = side_refusal side
board_refusal (Join first second) = first_cause ((outside 1 8 first.reach, ReachRange) ∷ (outside 1 8 second.reach, ReachRange) ∷ [])

-- the board is what the text asks for, and no job is pending on it
pub record SideMade (side : Side) (b : SideBoard) : Type 0 where
  pub text : side_text b ≡ side
  pub empty : side_means b ≡ empty_board side.reach

pub record BoardMade (text : BoardText) (b : TextBoard) : Type 0 where
  pub asked : board_text b ≡ text
  pub empty : board_means b ≡ empty_board (reach_of text)
