-- How the reader goes through the items of a form, from the left. `Reads` says what comes of it without these.
use Rattle.std.specs.Prelude.{ℕ, zero, suc, cond, List, [], ◌∷◌, Some, None, codes, Option, ◌==◌, slice_index}
use Rattle.std.specs.Bool.{then_some}
use Rattle.std.specs.Option.{option_and_then, option_or}
use Rattle.std.specs.Str.{bytes_eq}
use Rattle.bracket.specs.declared.commands.Kind.{Kind}
use Rattle.bracket.specs.declared.commands.Kind.TheVariants.{Fixed, Deadline}
use Rattle.bracket.specs.declared.commands.Side.{Side}
use Rattle.bracket.specs.declared.commands.BoardText.{BoardText}
use Rattle.bracket.specs.declared.commands.BoardText.TheVariants.{Single, Join}
use Rattle.bracket.specs.declared.commands.Command.{Command}
use Rattle.bracket.specs.declared.commands.Command.TheVariants.{Board, Component, Task, Use, Release, Done, Lock, Unlock, Tick, Runner, Budget, Ceiling, Holder, Bound, Assured}
use Rattle.bracket.specs.Characters.{run_of, past_run, number_of}

-- what comes of a value, if there is one
abbrev pub and_then : {A B : Type 0} → Option A → (A → Option B) → Option B
and_then o f = option_and_then f o

-- what follows this text, where the bytes begin with it
abbrev pub after : List ℕ → List ℕ → Option (List ℕ)
after [] bytes = Some bytes
after (t ∷ text) [] = None
after (t ∷ text) (b ∷ bytes) = cond (b == t) (after text bytes) None

-- a space and a number, and what follows
abbrev pub number_item : List ℕ → Option (ℕ × List ℕ)
number_item bytes = and_then (after (codes " ") bytes) (λ rest. and_then (number_of (run_of rest)) (λ n. Some (n, past_run rest)))

-- just so many number items, the last of which ends the line with this text
unfoldable pub number_items : ℕ → List ℕ → List ℕ → Option (List ℕ)
number_items zero end bytes = then_some (bytes_eq bytes end) []
number_items (suc n) end bytes = and_then (number_item bytes) (λ a. and_then (number_items n end a.1) (λ b. Some (a.0 ∷ b)))

abbrev pub kind_of : List ℕ → Option Kind
kind_of word = cond (bytes_eq word (codes "fixed")) (Some Fixed) (cond (bytes_eq word (codes "deadline")) (Some Deadline) None)

-- one side of a join, as ` (fixed 3)`, and what follows
abbrev pub side_item : List ℕ → Option (Side × List ℕ)
side_item bytes =
    and_then (after (codes " (") bytes) (λ rest. and_then (kind_of (run_of rest)) (λ kind. and_then (number_item (past_run rest)) (λ reach. and_then (after (codes ")") reach.1) (λ more. Some (record { kind = kind; reach = reach.0 }, more)))))

abbrev pub join_items : List ℕ → Option BoardText
join_items bytes = and_then (side_item bytes) (λ a. and_then (side_item a.1) (λ b. then_some (bytes_eq b.1 (codes ")")) (Join a.0 b.0)))

abbrev pub single_items : List ℕ → List ℕ → Option BoardText
single_items word bytes = and_then (kind_of word) (λ kind. and_then (number_items 1 (codes ")") bytes) (λ a. Some (Single (record { kind = kind; reach = slice_index a 0 }))))

unfoldable pub board_items : List ℕ → Option BoardText
board_items bytes = and_then (after (codes " ") bytes) (λ rest. cond (bytes_eq (run_of rest) (codes "join")) (join_items (past_run rest)) (single_items (run_of rest) (past_run rest)))

-- what is made of a list of one, two or three numbers
abbrev pub of_one : (ℕ → Command) → List ℕ → Command
of_one make a = make (slice_index a 0)

abbrev pub of_two : (ℕ → ℕ → Command) → List ℕ → Command
of_two make a = make (slice_index a 0) (slice_index a 1)

abbrev pub of_three : (ℕ → ℕ → ℕ → Command) → List ℕ → Command
of_three make a = make (slice_index a 0) (slice_index a 1) (slice_index a 2)

-- a level, then a budget and a period in a form of their own
unfoldable pub component_items : List ℕ → Option Command
component_items bytes =
    and_then (number_item bytes) (λ level. and_then (after (codes " (budget") level.1) (λ rest. and_then (number_items 2 (codes "))") rest) (λ b. Some (of_two (Component level.0) b))))

-- a form of so many numbers and nothing else
abbrev pub numbers_form : ℕ → (List ℕ → Command) → List ℕ → Option Command
numbers_form n make items = and_then (number_items n (codes ")") items) (λ a. Some (make a))

-- forms that declare a plan
abbrev pub draft_form : List ℕ → List ℕ → Option Command
draft_form word items =
    cond (bytes_eq word (codes "board")) (and_then (board_items items) (λ board. Some (Board board)))
    (cond (bytes_eq word (codes "component")) (component_items items)
    (cond (bytes_eq word (codes "task")) (numbers_form 2 (of_two Task) items)
    (cond (bytes_eq word (codes "use")) (numbers_form 3 (of_three Use) items) None)))

-- forms that call a running controller
abbrev pub call_form : List ℕ → List ℕ → Option Command
call_form word items =
    cond (bytes_eq word (codes "release")) (numbers_form 2 (of_two Release) items)
    (cond (bytes_eq word (codes "done")) (numbers_form 2 (of_two Done) items)
    (cond (bytes_eq word (codes "lock")) (numbers_form 3 (of_three Lock) items)
    (cond (bytes_eq word (codes "unlock")) (numbers_form 3 (of_three Unlock) items)
    (cond (bytes_eq word (codes "tick")) (then_some (bytes_eq items (codes ")")) Tick) None))))

-- forms that ask a running controller
abbrev pub question_form : List ℕ → List ℕ → Option Command
question_form word items =
    cond (bytes_eq word (codes "runner")) (then_some (bytes_eq items (codes ")")) Runner)
    (cond (bytes_eq word (codes "ceiling")) (then_some (bytes_eq items (codes ")")) Ceiling)
    (cond (bytes_eq word (codes "budget")) (numbers_form 1 (of_one Budget) items)
    (cond (bytes_eq word (codes "holder")) (numbers_form 1 (of_one Holder) items)
    (cond (bytes_eq word (codes "bound")) (numbers_form 1 (of_one Bound) items)
    (cond (bytes_eq word (codes "assured")) (numbers_form 1 (of_one Assured) items) None)))))

abbrev pub any_form : List ℕ → List ℕ → Option Command
any_form word items = option_or (draft_form word items) (option_or (call_form word items) (question_form word items))

abbrev pub form_of : List ℕ → Option Command
form_of line = and_then (after (codes "(") line) (λ rest. any_form (run_of rest) (past_run rest))
