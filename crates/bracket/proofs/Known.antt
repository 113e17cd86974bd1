-- Known forms: a line is read as a command exactly where it is the command's text.
use Rattle.std.proofs.Common.{◌≡◌, ℕ, zero, suc, Bool, true, false, cond, ◌⊎◌, List, [], ◌∷◌, ◌++◌, length, Some, None, codes, decimal, Option, slice_index, sym, refl, ap, ◌∙◌, subst, inl, inr, ⊎_elim, append_assoc, arith, take-append-drop}
use Rattle.std.specs.Bool.{then_some}
use Rattle.std.specs.Option.{option_or}
use Rattle.std.proofs.lemmas.List.Elements.{All-from_recursion, recursion_from_All}
use Rattle.std.specs.List.{prefix_len, list_all, AllByRecursion}
use Rattle.std.specs.Str.{bytes_eq}
use Rattle.bracket.specs.declared.commands.Kind.{Kind}
use Rattle.bracket.specs.declared.commands.Kind.TheVariants.{Fixed, Deadline}
use Rattle.bracket.specs.declared.commands.Side.{Side}
use Rattle.bracket.specs.declared.commands.BoardText.{BoardText}
use Rattle.bracket.specs.declared.commands.BoardText.TheVariants.{Single, Join}
use Rattle.bracket.specs.declared.commands.Command.{Command}
use Rattle.bracket.specs.declared.commands.Command.TheVariants.{Board, Component, Task, Use, Release, Done, Lock, Unlock, Tick, Runner, Budget, Ceiling, Holder, Bound, Assured}
use Rattle.bracket.specs.Characters.{in_run, run_of, past_run}
use Rattle.bracket.specs.Items.{and_then, after, number_item, number_items, numbers_form, of_one, of_two, of_three, kind_of, side_item, join_items, single_items, board_items, component_items, draft_form, call_form, question_form, any_form, form_of}
use Rattle.bracket.specs.Texts.{item, kind_text, side_text, board_text, board_numbers, text, numbers, Writes}
use Rattle.bracket.proofs.Parsing.{Small, and_then_lem, taken, after_is, same_text, run_front, run_rest, number_item_is, number_item_reads, items, items_stop, numbers_are, numbers_read}

-- what is true of all the lists of n numbers
abbrev Each : ℕ → (List ℕ → Type 0) → Type 0
Each zero P = P []
Each (suc n) P = (a : ℕ) → Each n (λ ns. P (a ∷ ns))

each : (n : ℕ) (P : List ℕ → Type 0) → Each n P → (ns : List ℕ) → length ns ≡ n → P ns
each zero P f [] h = f
each zero P f (a ∷ ns) h = absurd (omega arith)
each (suc n) P f [] h = absurd (omega arith)
each (suc n) P f (a ∷ ns) h = each n (λ m. P (a ∷ m)) (f a) ns (omega arith)

-- boards
kind_is : (word : List ℕ) (kind : Kind) (f d : Bool) → bytes_eq word (codes "fixed") ≡ f → bytes_eq word (codes "deadline") ≡ d → cond f (Some Fixed) (cond d (Some Deadline) None) ≡ Some kind → word ≡ kind_text kind
kind_is word kind true d e g h = let k : Fixed ≡ kind = cc in same_text word (codes "fixed") e ∙ ap kind_text k
kind_is word kind false true e g h = let k : Deadline ≡ kind = cc in same_text word (codes "deadline") g ∙ ap kind_text k
kind_is word kind false false e g h = cc

split : (bytes : List ℕ) → bytes ≡ run_of bytes ++ past_run bytes
split bytes = sym (take-append-drop (prefix_len in_run bytes) bytes)

pub side_flat : (side : Side) (rest : List ℕ) → side_text side ++ rest ≡ codes " (" ++ (kind_text side.kind ++ (item side.reach ++ (codes ")" ++ rest)))
side_flat side rest = ap (λ l. 32 ∷ 40 ∷ l) (append_assoc (kind_text side.kind) (item side.reach ++ codes ")") rest ∙ ap (λ l. kind_text side.kind ++ l) (append_assoc (item side.reach) (codes ")") rest))

side_is : (bytes : List ℕ) (x : Side × List ℕ) → side_item bytes ≡ Some x → (bytes ≡ side_text x.0 ++ x.1) × Small x.0.reach
side_is bytes x h =
    let start = and_then_lem (after (codes " (") bytes) _ x h in
    let kind = and_then_lem (kind_of (run_of start.value)) _ x start.gives in
    let reach = and_then_lem (number_item (past_run start.value)) _ x kind.gives in
    let end = and_then_lem (after (codes ")") reach.value.1) _ x reach.gives in
    let n = number_item_is (past_run start.value) reach.value reach.found in
    let same : (record { kind = kind.value; reach = reach.value.0 }, end.value) ≡ x = cc in
    let word = kind_is (run_of start.value) kind.value _ _ refl refl kind.found in
    let inner = split start.value ∙ ap (λ w. w ++ past_run start.value) word ∙ ap (λ l. kind_text kind.value ++ l) (n.0 ∙ ap (λ l. item reach.value.0 ++ l) (after_is (codes ")") reach.value.1 end.value end.found)) in (
      after_is (codes " (") bytes start.value start.found ∙ ap (λ l. codes " (" ++ l) inner ∙ sym (side_flat (record { kind = kind.value; reach = reach.value.0 }) end.value) ∙ ap (λ y. side_text y.0 ++ y.1) same,
      subst (λ y. Small y.0.reach) same n.1,
    )

abbrev closed : Kind → ℕ × List ℕ → Option (Side × List ℕ)
closed kind reach = and_then (after (codes ")") reach.1) (λ more. Some (record { kind = kind; reach = reach.0 }, more))

side_kinds : (kind : Kind) (rest : List ℕ) → side_item (codes " (" ++ (kind_text kind ++ (32 ∷ rest))) ≡ and_then (number_item (32 ∷ rest)) (closed kind)
side_kinds Fixed rest = refl
side_kinds Deadline rest = refl

side_reads : (side : Side) (rest : List ℕ) → Small side.reach → side_item (side_text side ++ rest) ≡ Some (side, rest)
side_reads side rest h =
    ap side_item (side_flat side rest) ∙ side_kinds side.kind (decimal side.reach ++ (codes ")" ++ rest)) ∙ ap (λ o. and_then o (closed side.kind)) (number_item_reads side.reach (codes ")" ++ rest) h refl)

join_is : (bytes : List ℕ) (board : BoardText) → join_items bytes ≡ Some board → (codes " join" ++ bytes ≡ board_text board) × AllByRecursion Small (board_numbers board)
join_is bytes board h =
    let a = and_then_lem (side_item bytes) _ board h in
    let b = and_then_lem (side_item a.value.1) _ board a.gives in
    let t = taken (bytes_eq b.value.1 (codes ")")) (Join a.value.0 b.value.0) board b.gives in
    let m = side_is bytes a.value a.found in
    let n = side_is a.value.1 b.value b.found in
    let whole = m.0 ∙ ap (λ l. side_text a.value.0 ++ l) (n.0 ∙ ap (λ l. side_text b.value.0 ++ l) (same_text b.value.1 (codes ")") t.0)) in
    subst (λ y. (codes " join" ++ bytes ≡ board_text y) × AllByRecursion Small (board_numbers y)) t.1 (ap (λ l. codes " join" ++ l) whole, (m.1, (n.1, tt)))

join_reads : (first second : Side) → Small first.reach → Small second.reach → join_items (side_text first ++ (side_text second ++ codes ")")) ≡ Some (Join first second)
join_reads first second g h =
    ap (λ o. and_then o (λ a. and_then (side_item a.1) (λ b. then_some (bytes_eq b.1 (codes ")")) (Join a.0 b.0)))) (side_reads first (side_text second ++ codes ")") g)
    ∙ ap (λ o. and_then o (λ b. then_some (bytes_eq b.1 (codes ")")) (Join first b.0))) (side_reads second (codes ")") h)

single_is : (word bytes : List ℕ) (board : BoardText) → single_items word bytes ≡ Some board → (codes " " ++ (word ++ bytes) ≡ board_text board) × AllByRecursion Small (board_numbers board)
single_is word bytes board h =
    let kind = and_then_lem (kind_of word) _ board h in
    let reach = and_then_lem (number_items 1 (codes ")") bytes) _ board kind.gives in
    let n = numbers_are 1 (codes ")") bytes reach.value reach.found in
    let made = each 1 (λ ns. (items ns (codes ")") ≡ item (slice_index ns 0) ++ codes ")") × (AllByRecursion Small ns → Small (slice_index ns 0))) (λ a. (refl, λ s. s.0)) reach.value n.2 in
    let same : Single (record { kind = kind.value; reach = slice_index reach.value 0 }) ≡ board = cc in
    let whole = ap (λ w. w ++ bytes) (kind_is word kind.value _ _ refl refl kind.found) ∙ ap (λ l. kind_text kind.value ++ l) (n.0 ∙ made.0) in
    subst (λ y. (codes " " ++ (word ++ bytes) ≡ board_text y) × AllByRecursion Small (board_numbers y)) same (ap (λ l. codes " " ++ l) whole, (made.1 n.1, tt))

joined : (rest : List ℕ) (board : BoardText) (j : Bool) → bytes_eq (run_of rest) (codes "join") ≡ j → cond j (join_items (past_run rest)) (single_items (run_of rest) (past_run rest)) ≡ Some board → (codes " " ++ rest ≡ board_text board) × AllByRecursion Small (board_numbers board)
joined rest board true e h =
    let p = join_is (past_run rest) board h in
    (ap (λ l. codes " " ++ l) (split rest ∙ ap (λ w. w ++ past_run rest) (same_text (run_of rest) (codes "join") e)) ∙ p.0, p.1)
joined rest board false e h = let p = single_is (run_of rest) (past_run rest) board h in (ap (λ l. codes " " ++ l) (split rest) ∙ p.0, p.1)

board_is : (bytes : List ℕ) (board : BoardText) → board_items bytes ≡ Some board → (bytes ≡ board_text board) × AllByRecursion Small (board_numbers board)
unfolding board_items
board_is bytes board h =
    let start = and_then_lem (after (codes " ") bytes) _ board h in
    let p = joined start.value board _ refl start.gives in
    (after_is (codes " ") bytes start.value start.found ∙ p.0, p.1)

single_kinds : (kind : Kind) (rest : List ℕ) → board_items (codes " " ++ (kind_text kind ++ (32 ∷ rest))) ≡ and_then (number_items 1 (codes ")") (32 ∷ rest)) (λ a. Some (Single (record { kind = kind; reach = slice_index a 0 })))
unfolding board_items
single_kinds Fixed rest = refl
single_kinds Deadline rest = refl

board_reads : (board : BoardText) → AllByRecursion Small (board_numbers board) → board_items (board_text board) ≡ Some board
unfolding board_items
board_reads (Single side) h =
    single_kinds side.kind (decimal side.reach ++ codes ")") ∙ ap (λ o. and_then o (λ a. Some (Single (record { kind = side.kind; reach = slice_index a 0 })))) (numbers_read (side.reach ∷ []) (codes ")") h refl)
board_reads (Join first second) h = join_reads first second h.0 h.1.0

-- what a word and the items after it say
abbrev pub Says : Command → List ℕ → List ℕ → Type 0
Says command word rest = Writes command (40 ∷ (word ++ rest))

module _ (word rest : List ℕ) (command : Command) where
  said : (name : List ℕ) (it : Command) → word ≡ name → it ≡ command → 40 ∷ (name ++ rest) ≡ text it → AllByRecursion Small (numbers it) → Says command word rest
  said name it e k same small = subst (λ c. Says c word rest) k (record { same = ap (λ w. 40 ∷ (w ++ rest)) e ∙ same; small = All-from_recursion Small _ small })

  -- one test of a word, and the tests after it
  either : (name : List ℕ) (x y : Option Command) → (word ≡ name → x ≡ Some command → Says command word rest) → (y ≡ Some command → Says command word rest)
      → (same : Bool) → bytes_eq word name ≡ same → cond same x y ≡ Some command → Says command word rest
  either name x y f g true e h = f (same_text word name e) h
  either name x y f g false e h = g h

  bare : (name : List ℕ) (it : Command) (y : Option Command) → 40 ∷ (name ++ codes ")") ≡ text it → AllByRecursion Small (numbers it) → (y ≡ Some command → Says command word rest)
      → (same : Bool) → bytes_eq word name ≡ same → cond same (then_some (bytes_eq rest (codes ")")) it) y ≡ Some command → Says command word rest
  bare name it y t s = either name (then_some (bytes_eq rest (codes ")")) it) y (λ e h.
      let p = taken (bytes_eq rest (codes ")")) it command h in
      said name it e p.1 (ap (λ b. 40 ∷ (name ++ b)) (same_text rest (codes ")") p.0) ∙ t) s)

  -- a form of numbers alone, and the tests after it
  numbered : (name : List ℕ) (n : ℕ) (make : List ℕ → Command) (y : Option Command) → Each n (λ ns. (text (make ns) ≡ 40 ∷ (name ++ items ns (codes ")"))) × (numbers (make ns) ≡ ns)) → (y ≡ Some command → Says command word rest)
      → (same : Bool) → bytes_eq word name ≡ same → cond same (numbers_form n make rest) y ≡ Some command → Says command word rest
  numbered name n make y own = either name (numbers_form n make rest) y (λ e h.
      let a = and_then_lem (number_items n (codes ")") rest) _ command h in
      let p = numbers_are n (codes ")") rest a.value a.found in
      let m = each n (λ ns. (text (make ns) ≡ 40 ∷ (name ++ items ns (codes ")"))) × (numbers (make ns) ≡ ns)) own a.value p.2 in
      said name (make a.value) e (cc) (ap (λ i. 40 ∷ (name ++ i)) p.0 ∙ sym m.0) (subst (AllByRecursion Small) (sym m.1) p.1))

  board_form : word ≡ codes "board" → and_then (board_items rest) (λ board. Some (Board board)) ≡ Some command → Says command word rest
  board_form e h =
      let a = and_then_lem (board_items rest) _ command h in
      let p = board_is rest a.value a.found in
      said (codes "board") (Board a.value) e (cc) (ap (λ i. codes "(board" ++ i) p.0) p.1

  component_form : word ≡ codes "component" → component_items rest ≡ Some command → Says command word rest
  unfolding component_items
  component_form e h =
      let level = and_then_lem (number_item rest) _ command h in
      let inner = and_then_lem (after (codes " (budget") level.value.1) _ command level.gives in
      let two = and_then_lem (number_items 2 (codes "))") inner.value) _ command inner.gives in
      let m = number_item_is rest level.value level.found in
      let n = numbers_are 2 (codes "))") inner.value two.value two.found in
      let whole = m.0 ∙ ap (λ l. item level.value.0 ++ l) (after_is (codes " (budget") level.value.1 inner.value inner.found ∙ ap (λ l. codes " (budget" ++ l) n.0) in
      let make : List ℕ → Command = of_two (Component level.value.0) in
      let own = each 2 (λ ns. (text (make ns) ≡ codes "(component" ++ (item level.value.0 ++ (codes " (budget" ++ items ns (codes "))")))) × (numbers (make ns) ≡ level.value.0 ∷ ns)) (λ a b. (refl, refl)) two.value n.2 in
      said (codes "component") (make two.value) e (cc) (ap (λ i. codes "(component" ++ i) whole ∙ sym own.0) (subst (AllByRecursion Small) (sym own.1) (m.1, n.1))

  draft_is : draft_form word rest ≡ Some command → Says command word rest
  draft_is =
      either (codes "board") _ _ board_form
      (either (codes "component") _ _ component_form
      (numbered (codes "task") 2 (of_two Task) _ (λ a b. (refl, refl))
      (numbered (codes "use") 3 (of_three Use) _ (λ a b c. (refl, refl)) (λ h. cc) _ refl) _ refl) _ refl) _ refl

  call_is : call_form word rest ≡ Some command → Says command word rest
  call_is =
      numbered (codes "release") 2 (of_two Release) _ (λ a b. (refl, refl))
      (numbered (codes "done") 2 (of_two Done) _ (λ a b. (refl, refl))
      (numbered (codes "lock") 3 (of_three Lock) _ (λ a b c. (refl, refl))
      (numbered (codes "unlock") 3 (of_three Unlock) _ (λ a b c. (refl, refl))
      (bare (codes "tick") Tick _ refl tt (λ h. cc) _ refl) _ refl) _ refl) _ refl) _ refl

  question_is : question_form word rest ≡ Some command → Says command word rest
  question_is =
      bare (codes "runner") Runner _ refl tt
      (bare (codes "ceiling") Ceiling _ refl tt
      (numbered (codes "budget") 1 (of_one Budget) _ (λ a. (refl, refl))
      (numbered (codes "holder") 1 (of_one Holder) _ (λ a. (refl, refl))
      (numbered (codes "bound") 1 (of_one Bound) _ (λ a. (refl, refl))
      (numbered (codes "assured") 1 (of_one Assured) _ (λ a. (refl, refl)) (λ h. cc) _ refl) _ refl) _ refl) _ refl) _ refl) _ refl

or_else_lem : {A : Type 0} (x y : Option A) (a : A) → option_or x y ≡ Some a → (x ≡ Some a) ⊎ (y ≡ Some a)
or_else_lem None y a h = inr h
or_else_lem (Some b) y a h = inl h

-- what is read is written so
pub form_is : (line : List ℕ) (command : Command) → form_of line ≡ Some command → Writes command line
form_is line command h =
    let start = and_then_lem (after (codes "(") line) _ command h in
    let word = run_of start.value in
    let rest = past_run start.value in
    let says : Says command word rest = ⊎_elim (draft_is word rest command) (λ k. ⊎_elim (call_is word rest command) (question_is word rest command) (or_else_lem _ _ command k)) (or_else_lem _ _ command start.gives) in
    let e : 40 ∷ (word ++ rest) ≡ line = sym (after_is (codes "(") line start.value start.found ∙ ap (λ l. 40 ∷ l) (split start.value)) in
    subst (λ l. Writes command l) e says

-- what is written is read
form_at : (word items : List ℕ) → list_all in_run word ≡ true → prefix_len in_run items ≡ 0 → form_of (40 ∷ (word ++ items)) ≡ any_form word items
form_at word items e l = ap (λ w. any_form w (past_run (word ++ items))) (run_front word items e l) ∙ ap (any_form word) (run_rest word items e l)

-- a form of the first group or the second, where the later groups find none
early : (o : Option Command) (command : Command) → o ≡ Some command → option_or o None ≡ Some command
early o command h = ap (λ x. option_or x None) h

board_stops : (board : BoardText) → prefix_len in_run (board_text board) ≡ 0
board_stops (Single side) = refl
board_stops (Join first second) = refl

reads : (word ns : List ℕ) (make : List ℕ → Command) → list_all in_run word ≡ true
    → ((rest : List ℕ) → numbers_form (length ns) make rest ≡ Some (make ns) → any_form word rest ≡ Some (make ns))
    → AllByRecursion Small ns → form_of (40 ∷ (word ++ items ns (codes ")"))) ≡ Some (make ns)
reads word ns make e f s = form_at word (items ns (codes ")")) e (items_stop ns (codes ")") refl) ∙ f _ (ap (λ o. and_then o (λ a. Some (make a))) (numbers_read ns (codes ")") s refl))

component_made : (level budget period : ℕ) → AllByRecursion Small (level ∷ budget ∷ period ∷ []) → component_items (item level ++ (codes " (budget" ++ (item budget ++ (item period ++ codes "))")))) ≡ Some (Component level budget period)
unfolding component_items
component_made level budget period s =
    ap (λ o. and_then o (λ level. and_then (after (codes " (budget") level.1) (λ rest. and_then (number_items 2 (codes "))") rest) (λ b. Some (Component level.0 (slice_index b 0) (slice_index b 1))))))
    (number_item_reads level (codes " (budget" ++ (item budget ++ (item period ++ codes "))"))) s.0 refl)
    ∙ ap (λ o. and_then o (λ b. Some (Component level (slice_index b 0) (slice_index b 1)))) (numbers_read (budget ∷ period ∷ []) (codes "))") s.1 refl)

reads_text : (command : Command) → AllByRecursion Small (numbers command) → form_of (text command) ≡ Some command
reads_text (Board board) h = form_at (codes "board") (board_text board) refl (board_stops board) ∙ early _ _ (ap (λ o. and_then o (λ b. Some (Board b))) (board_reads board h))
reads_text (Component level budget period) h =
    form_at (codes "component") (item level ++ (codes " (budget" ++ (item budget ++ (item period ++ codes "))")))) refl refl ∙ early _ _ (component_made level budget period h)
reads_text (Task component deadline) h = reads (codes "task") (component ∷ deadline ∷ []) (of_two Task) refl (λ rest. early _ _) h
reads_text (Use component resource access) h = reads (codes "use") (component ∷ resource ∷ access ∷ []) (of_three Use) refl (λ rest. early _ _) h
reads_text (Release component task) h = reads (codes "release") (component ∷ task ∷ []) (of_two Release) refl (λ rest. early _ _) h
reads_text (Done component task) h = reads (codes "done") (component ∷ task ∷ []) (of_two Done) refl (λ rest. early _ _) h
reads_text (Lock component task resource) h = reads (codes "lock") (component ∷ task ∷ resource ∷ []) (of_three Lock) refl (λ rest. early _ _) h
reads_text (Unlock component task resource) h = reads (codes "unlock") (component ∷ task ∷ resource ∷ []) (of_three Unlock) refl (λ rest. early _ _) h
reads_text Tick h = form_at (codes "tick") (codes ")") refl refl
reads_text Runner h = form_at (codes "runner") (codes ")") refl refl
reads_text (Budget component) h = reads (codes "budget") (component ∷ []) (of_one Budget) refl (λ rest f. f) h
reads_text Ceiling h = form_at (codes "ceiling") (codes ")") refl refl
reads_text (Holder resource) h = reads (codes "holder") (resource ∷ []) (of_one Holder) refl (λ rest f. f) h
reads_text (Bound component) h = reads (codes "bound") (component ∷ []) (of_one Bound) refl (λ rest f. f) h
reads_text (Assured component) h = reads (codes "assured") (component ∷ []) (of_one Assured) refl (λ rest f. f) h

pub form_reads : (line : List ℕ) (command : Command) → Writes command line → form_of line ≡ Some command
form_reads line command h = ap form_of h.same ∙ reads_text command (recursion_from_All Small _ h.small)
