-- What each command does to what is drafted, and its reply.
use Rattle.std.specs.Prelude.{ℕ, Bool, cond, not, ◌&&◌, List, [], Some, None, Ok, Err, Option, Result}
use Rattle.std.specs.Option.{option_map}
use Rattle.refusals.specs.Causes.{outside}
use Rattle.refusals.specs.declared.Refusal.{Refusal}
use Rattle.refusals.specs.declared.Refusal.TheVariants.{WrongPhase, ReachRange}
use Rattle.bracket.specs.declared.commands.Side.{Side}
use Rattle.bracket.specs.declared.commands.BoardText.{BoardText}
use Rattle.bracket.specs.declared.commands.BoardText.TheVariants.{Single, Join}
use Rattle.bracket.specs.declared.commands.Command.{Command}
use Rattle.bracket.specs.declared.commands.Command.TheVariants.{Board, Component, Task, Use, Release, Done, Lock, Unlock, Tick, Runner, Budget, Ceiling, Holder, Bound, Assured}
use Rattle.controller.specs.Draft.{component_answer, component_declared, task_answer, task_declared, use_answer, use_declared}
use Rattle.controller.specs.View.{drafted, board_of}
use Rattle.controller.specs.declared.component.Component as plan
use Rattle.controller.specs.declared.controller.Controller.{Controller}
use Rattle.console.specs.declared.answers.Reply.{Reply}
use Rattle.console.specs.declared.answers.Reply.TheVariants as reply

-- the board as the text describes it, and the components of the plan
pub record Draft : Type 0 where
  pub board : BoardText
  pub components : List plan.Component

abbrev pub draft_in : Controller BoardText → Draft
draft_in controller = record { board = board_of controller; components = drafted controller }

-- what is drafted: nothing before a board form is accepted
abbrev pub draft_of : Option (Controller BoardText) → Option Draft
draft_of controller = option_map draft_in controller

-- the reply to a command, and what is drafted after it
pub record Outcome : Type 0 where
  pub reply : Result Reply Refusal
  pub draft : Option Draft

-- a refusal leaves all as it was
abbrev pub refused_with : Refusal → Option Draft → Outcome
refused_with cause draft = record { reply = Err cause; draft = draft }

-- a reach is from 1 to 8
abbrev pub reaches : Side → Bool
reaches side = not (outside 1 8 side.reach)

abbrev pub board_reaches : BoardText → Bool
board_reaches (Single side) = reaches side
board_reaches (Join first second) = reaches first && reaches second

-- a board form is accepted where each reach in it is; any other form comes too early
abbrev pub before_board : Command → Outcome
before_board (Board board) = cond (board_reaches board) (record { reply = Ok reply.Done; draft = Some (record { board = board; components = [] }) }) (refused_with ReachRange None)
before_board (Component level budget period) = refused_with WrongPhase None
before_board (Task component deadline) = refused_with WrongPhase None
before_board (Use component resource access) = refused_with WrongPhase None
before_board (Release component task) = refused_with WrongPhase None
before_board (Done component task) = refused_with WrongPhase None
before_board (Lock component task resource) = refused_with WrongPhase None
before_board (Unlock component task resource) = refused_with WrongPhase None
before_board Tick = refused_with WrongPhase None
before_board Runner = refused_with WrongPhase None
before_board (Budget component) = refused_with WrongPhase None
before_board Ceiling = refused_with WrongPhase None
before_board (Holder resource) = refused_with WrongPhase None
before_board (Bound component) = refused_with WrongPhase None
before_board (Assured component) = refused_with WrongPhase None

-- the number that a declaration answers, as a reply
abbrev pub numbered : Result ℕ Refusal → Result Reply Refusal
numbered (Ok n) = Ok (reply.Number n)
numbered (Err cause) = Err cause

-- a declaration that answers nothing
abbrev pub plain : Result (Unit {0}) Refusal → Result Reply Refusal
plain (Ok x) = Ok reply.Done
plain (Err cause) = Err cause

-- the same board with another plan
abbrev pub planned : Draft → List plan.Component → Option Draft
planned draft components = Some (record { board = draft.board; components = components })

-- declarations go to the plan; a second board, and all that asks for a running controller, is refused
abbrev pub while_drafting : Draft → Command → Outcome
while_drafting draft (Board board) = refused_with WrongPhase (Some draft)
while_drafting draft (Component level budget period) =
    record { reply = numbered (component_answer draft.components level budget period); draft = planned draft (component_declared draft.components level budget period) }
while_drafting draft (Task component deadline) = record { reply = numbered (task_answer draft.components component deadline); draft = planned draft (task_declared draft.components component deadline) }
while_drafting draft (Use component resource access) =
    record { reply = plain (use_answer draft.components component resource access); draft = planned draft (use_declared draft.components component resource access) }
while_drafting draft (Release component task) = refused_with WrongPhase (Some draft)
while_drafting draft (Done component task) = refused_with WrongPhase (Some draft)
while_drafting draft (Lock component task resource) = refused_with WrongPhase (Some draft)
while_drafting draft (Unlock component task resource) = refused_with WrongPhase (Some draft)
while_drafting draft Tick = refused_with WrongPhase (Some draft)
while_drafting draft Runner = refused_with WrongPhase (Some draft)
while_drafting draft (Budget component) = refused_with WrongPhase (Some draft)
while_drafting draft Ceiling = refused_with WrongPhase (Some draft)
while_drafting draft (Holder resource) = refused_with WrongPhase (Some draft)
while_drafting draft (Bound component) = refused_with WrongPhase (Some draft)
while_drafting draft (Assured component) = refused_with WrongPhase (Some draft)

abbrev pub outcome_of : Option Draft → Command → Outcome
outcome_of None command = before_board command
outcome_of (Some draft) command = while_drafting draft command
