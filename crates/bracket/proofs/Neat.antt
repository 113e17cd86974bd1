-- The text of a command has no word fault and at most 80 bytes.
use Rattle.std.proofs.Common.{◌≡◌, ℕ, zero, suc, ◌+◌, ◌*◌, ◌<◌, ◌≤◌, Bool, true, false, cond, ◌||◌, List, [], ◌∷◌, ◌++◌, length, Some, None, codes, decimal, sym, refl, ap, ◌∙◌, subst, arith, length-append}
use Rattle.std.proofs.lemmas.Fmt.{length-decimal-le, decimal_nonempty}
use Rattle.std.proofs.lemmas.Bool.{and_parts, or_left, or_right}
use Rattle.std.proofs.lemmas.List.Elements.{recursion_from_All}
use Rattle.std.specs.List.{prefix_len, list_all, AllByRecursion}
use Rattle.bracket.specs.declared.words.Class.{Class}
use Rattle.bracket.specs.declared.words.Class.TheVariants.{Open, Close, Space, Digit, Letter, Other}
use Rattle.bracket.specs.declared.faults.WordFault.TheVariants.{Run}
use Rattle.bracket.specs.declared.commands.Kind.{Kind}
use Rattle.bracket.specs.declared.commands.Kind.TheVariants.{Fixed, Deadline}
use Rattle.bracket.specs.declared.commands.Side.{Side}
use Rattle.bracket.specs.declared.commands.BoardText.{BoardText}
use Rattle.bracket.specs.declared.commands.BoardText.TheVariants.{Single, Join}
use Rattle.bracket.specs.declared.commands.Command.{Command}
use Rattle.bracket.specs.declared.commands.Command.TheVariants.{Board, Component, Task, Use, Release, Done, Lock, Unlock, Tick, Runner, Budget, Ceiling, Holder, Bound, Assured}
use Rattle.bracket.specs.Characters.{within, class_of, digit_class, letter_class, digit, letter, in_run, run_of, is_word, is_number}
use Rattle.bracket.specs.Faults.{fit, wrong, wrong_at, Clean}
use Rattle.bracket.specs.Texts.{item, kind_text, side_text, board_text, board_numbers, text, numbers, Writes}
use Rattle.bracket.proofs.Decimal.{within_both, decimal_number}
use Rattle.bracket.proofs.Parsing.{Small, run_front, decimal_run, all_in_run, items}
use Rattle.bracket.proofs.Known.{side_flat}

-- nothing is wrong in these bytes, wherever they stand
abbrev Tidy : Bool → List ℕ → Type 0
Tidy inside bytes = (column i : ℕ) → i < length bytes → wrong_at inside column bytes i ≡ None

tidy_cons : (inside : Bool) (b : ℕ) (bytes : List ℕ) → ((column : ℕ) → wrong (class_of b) inside (run_of (b ∷ bytes)) column ≡ None) → Tidy (in_run b) bytes → Tidy inside (b ∷ bytes)
tidy_cons inside b bytes here rest column zero h = here column
tidy_cons inside b bytes here rest column (suc i) h = rest (column + 1) i (omega arith)

in_class : (class : Class) (inside : Bool) (run : List ℕ) (column : ℕ) → (digit_class class || letter_class class) ≡ true → (inside || fit run) ≡ true → wrong class inside run column ≡ None
in_class Open inside run column h f = refl
in_class Close inside run column h f = refl
in_class Space inside run column h f = refl
in_class Digit inside run column h f = ap (λ b. cond b None (Some (Run column))) f
in_class Letter inside run column h f = ap (λ b. cond b None (Some (Run column))) f
in_class Other inside run column h f = cc

tidy_inner : (run rest : List ℕ) → list_all in_run run ≡ true → Tidy true rest → Tidy true (run ++ rest)
tidy_inner [] rest e t = t
tidy_inner (b ∷ run) rest e t =
    let p = and_parts (in_run b) (list_all in_run run) e in
    tidy_cons true b (run ++ rest) (λ column. in_class (class_of b) true _ column p.0 refl) (subst (λ x. Tidy x (run ++ rest)) (sym p.0) (tidy_inner run rest p.1 t))

tidy_run : (inside : Bool) (run rest : List ℕ) → 0 < length run → list_all in_run run ≡ true → fit run ≡ true → prefix_len in_run rest ≡ 0 → Tidy true rest → Tidy inside (run ++ rest)
tidy_run inside [] rest some e f l t = absurd (omega arith)
tidy_run inside (b ∷ run) rest some e f l t =
    let p = and_parts (in_run b) (list_all in_run run) e in
    tidy_cons inside b (run ++ rest) (λ column. in_class (class_of b) inside _ column p.0 (or_right inside _ (ap fit (run_front (b ∷ run) rest e l) ∙ f))) (subst (λ x. Tidy x (run ++ rest)) (sym p.0) (tidy_inner run rest p.1 t))

-- bytes that may follow a run: no word fault, and at most so many
record Neat (most : ℕ) (bytes : List ℕ) : Type 0 where
  tidy : (inside : Bool) → Tidy inside bytes
  short : length bytes ≤ most
  stops : prefix_len in_run bytes ≡ 0

-- brackets and spaces
record Mark (b : ℕ) : Type 0 where
  fine : (inside : Bool) (run : List ℕ) (column : ℕ) → wrong (class_of b) inside run column ≡ None
  apart : in_run b ≡ false

opens : Mark 40
opens = record { fine = λ inside run column. refl; apart = refl }

closes : Mark 41
closes = record { fine = λ inside run column. refl; apart = refl }

spaces : Mark 32
spaces = record { fine = λ inside run column. refl; apart = refl }

neat_end : Neat 0 []
neat_end = record { tidy = λ inside column i h. absurd (omega arith); short = omega arith; stops = refl }

neat_mark : {most b : ℕ} {rest : List ℕ} → Mark b → Neat most rest → Neat (most + 1) (b ∷ rest)
neat_mark {most} {b} {rest} m n = record {
  tidy = λ inside. tidy_cons inside b rest (λ column. m.fine inside _ column) (n.tidy (in_run b));
  short = let s = n.short in omega arith;
  stops = ap (λ t. cond t (1 + prefix_len in_run rest) 0) m.apart;
}

neat_run : {most b : ℕ} {rest : List ℕ} (run : List ℕ) (k : ℕ) → Mark b → 0 < length run → length run ≤ k → list_all in_run run ≡ true → fit run ≡ true → Neat most rest → Neat (most + k + 1) (b ∷ (run ++ rest))
neat_run {most} {b} {rest} run k m some few e f n = record {
  tidy = λ inside. tidy_cons inside b (run ++ rest) (λ column. m.fine inside _ column) (tidy_run (in_run b) run rest some e f n.stops (n.tidy true));
  short = let s = n.short in let l = length-append run rest in omega arith;
  stops = ap (λ t. cond t (1 + prefix_len in_run (run ++ rest)) 0) m.apart;
}

neat_item : {most : ℕ} {rest : List ℕ} (n : ℕ) → Small n → Neat most rest → Neat (most + 16 + 1) (item n ++ rest)
neat_item n h rest =
    neat_run (decimal n) 16 spaces (decimal_nonempty n (omega arith)) (length-decimal-le 16 n (omega arith) h (omega arith)) (decimal_run n h) (or_right (is_word (decimal n)) (is_number (decimal n)) (decimal_number n h)) rest

neat_upto : {few most : ℕ} {bytes : List ℕ} → few ≤ most → Neat few bytes → Neat most bytes
neat_upto h n = record { tidy = n.tidy; short = let s = n.short in omega arith; stops = n.stops }

neat_word : {most b : ℕ} {rest : List ℕ} (word : List ℕ) → Mark b → is_word word ≡ true → Neat most rest → Neat (most + 9 + 1) (b ∷ (word ++ rest))
neat_word word m w n =
    let p = and_parts (within 1 9 (length word)) (list_all letter word) w in
    let l = within_both 1 9 (length word) p.0 in
    neat_run word 9 m l.0 l.1 (all_in_run letter (λ b l. or_right (digit b) (letter b) l) word p.1) (or_left (is_word word) (is_number word) w) n

close : Neat 1 (codes ")")
close = neat_mark closes neat_end

neat_kind : {most b : ℕ} {rest : List ℕ} (kind : Kind) → Mark b → Neat most rest → Neat (most + 9 + 1) (b ∷ (kind_text kind ++ rest))
neat_kind Fixed m n = neat_word (codes "fixed") m refl n
neat_kind Deadline m n = neat_word (codes "deadline") m refl n

neat_side : {most : ℕ} {rest : List ℕ} (side : Side) → Small side.reach → Neat most rest → Neat (most + 29) (side_text side ++ rest)
neat_side {most} {rest} side h n =
    subst (λ l. Neat (most + 29) l) (sym (side_flat side rest)) (neat_upto (omega arith) (neat_mark spaces (neat_kind side.kind opens (neat_item side.reach h (neat_mark closes n)))))

neat_board : (board : BoardText) → AllByRecursion Small (board_numbers board) → Neat 70 (board_text board)
neat_board (Single side) h = neat_upto (omega arith) (neat_kind side.kind spaces (neat_item side.reach h.0 close))
neat_board (Join first second) h = neat_upto (omega arith) (neat_word (codes "join") spaces refl (neat_side first h.0 (neat_side second h.1.0 close)))

neat_items : {end : List ℕ} (ns : List ℕ) → AllByRecursion Small ns → Neat 2 end → Neat (17 * length ns + 2) (items ns end)
neat_items [] h e = e
neat_items (n ∷ ns) h e = neat_upto (omega arith) (neat_item n h.0 (neat_items ns h.1 e))

neat_form : {most : ℕ} {rest : List ℕ} (word : List ℕ) → is_word word ≡ true → most ≤ 70 → Neat most rest → Neat 80 (40 ∷ (word ++ rest))
neat_form word w l n = neat_upto (omega arith) (neat_word word opens w n)

neat_numbers : (word ns : List ℕ) → is_word word ≡ true → length ns ≤ 3 → AllByRecursion Small ns → Neat 80 (40 ∷ (word ++ items ns (codes ")")))
neat_numbers word ns w l h = neat_form word w (omega arith) (neat_items ns h (neat_upto (omega arith) close))

text_neat : (command : Command) → AllByRecursion Small (numbers command) → Neat 80 (text command)
text_neat (Board board) h = neat_form (codes "board") refl (omega arith) (neat_board board h)
text_neat (Component level budget period) h =
    neat_form (codes "component") refl (omega arith) (neat_item level h.0 (neat_mark spaces (neat_word (codes "budget") opens refl (neat_items (budget ∷ period ∷ []) h.1 (neat_mark closes close)))))
text_neat (Task component deadline) h = neat_numbers (codes "task") (component ∷ deadline ∷ []) refl (omega arith) h
text_neat (Use component resource access) h = neat_numbers (codes "use") (component ∷ resource ∷ access ∷ []) refl (omega arith) h
text_neat (Release component task) h = neat_numbers (codes "release") (component ∷ task ∷ []) refl (omega arith) h
text_neat (Done component task) h = neat_numbers (codes "done") (component ∷ task ∷ []) refl (omega arith) h
text_neat (Lock component task resource) h = neat_numbers (codes "lock") (component ∷ task ∷ resource ∷ []) refl (omega arith) h
text_neat (Unlock component task resource) h = neat_numbers (codes "unlock") (component ∷ task ∷ resource ∷ []) refl (omega arith) h
text_neat Tick h = neat_numbers (codes "tick") [] refl (omega arith) h
text_neat Runner h = neat_numbers (codes "runner") [] refl (omega arith) h
text_neat (Budget component) h = neat_numbers (codes "budget") (component ∷ []) refl (omega arith) h
text_neat Ceiling h = neat_numbers (codes "ceiling") [] refl (omega arith) h
text_neat (Holder resource) h = neat_numbers (codes "holder") (resource ∷ []) refl (omega arith) h
text_neat (Bound component) h = neat_numbers (codes "bound") (component ∷ []) refl (omega arith) h
text_neat (Assured component) h = neat_numbers (codes "assured") (component ∷ []) refl (omega arith) h

pub text_clean : (line : List ℕ) (command : Command) → Writes command line → Clean line
text_clean line command h = subst (λ l. Clean l) (sym h.same) ((text_neat command (recursion_from_All Small _ h.small)).tidy false 1)

pub text_short : (line : List ℕ) (command : Command) → Writes command line → length line ≤ 80
text_short line command h = subst (λ l. length l ≤ 80) (sym h.same) (text_neat command (recursion_from_All Small _ h.small)).short
