-- What the tables of a deadline board keep as jobs come and go.
use Rattle.std.proofs.Common.{◌≡◌, ℕ, ◌<◌, ◌≤◌, true, false, not, ◌&&◌, ◌||◌, List, [], length, None, Ok, Err, Result, IfOk, OnErr, OnOk, sym, refl, ap, ◌∙◌, subst, arith}
use Rattle.std.specs.Prelude.{nat_eq, nat_le}
use Rattle.std.specs.List.{IsDistinct}
use Rattle.std.specs.Result.{result_err}
use Rattle.std.proofs.lemmas.List.{length-take}
use Rattle.std.proofs.lemmas.Bool.{ne_eqb, lt-leb, cond-false}
use Rattle.line.specs.Lines.{no_records, records_of, full_refusal, position_refusal, Added, Taken}
use Rattle.line.specs.Order.{sorted}
use Rattle.line.specs.Records.{job_le}
use Rattle.line.specs.declared.kept.Line.{Line}
use Rattle.line.specs.declared.records.Job.{Job}
use Rattle.boards.specs.Boards.{Gains, Loses, same_job, empty_board, add_refusal, strike_refusal, reach_refusal}
use Rattle.boards.proofs.Calls.{what_made, add_accepted, strike_accepted, reach_accepted}
use Rattle.boards.proofs.Empties.{empty_is, empty_from}
use Rattle.fixed.specs.FixedBoards.{fixed_means, fixed_pending}
use Rattle.fixed.specs.Fixeds.{fixed_lawful}
use Rattle.fixed.specs.declared.fixed.Fixed.{Fixed}
use Rattle.refusals.specs.declared.Refusal.{Refusal}
use Rattle.deadline.specs.Queues.{SameJobs, holds, Distinct, place_of}
use Rattle.deadline.specs.DeadlineBoards.{queue, queue_means, deadline_means}
use Rattle.std.proofs.Math.Path.{fun_ext}
use Rattle.std.proofs.Props.{props}
use mathlib.Core.HLevel.{is_prop→PathP}
use Rattle.deadline.specs.Deadlines.{deadline_lawful, first_among}
use Rattle.deadline.specs.declared.deadline.Deadline.{Deadline}
use Rattle.deadline.proofs.Queued.{place_within, holds_insertion, distinct_insertion, holds_removed, distinct_removed}
use Rattle.deadline.proofs.Room.{room}

-- what the tables of a deadline board keep, as its ghost fields say it
abbrev pub Sound : Fixed → Line → List Job → Type 0
Sound sets l m = record { fits : l.held ≤ 64; same : SameJobs (fixed_pending sets) (records_of l m); apart : Distinct (records_of l m); in_order : sorted job_le (records_of l m) ≡ true }

module _ (b : Deadline) (long : length b.places ≡ 64) (c t : ℕ) where
  -- the line has a place for a job that is not pending
  pub place_left : (c < b.sets.reach) × (t < 8) × (fixed_pending b.sets c t ≡ false) → None ≡ full_refusal (queue b) b.places
  place_left new =
      let few = room b.sets.reach b.sets.eight c t new.0 new.1 (queue b) (deadline_lawful b).inside b.apart (b.same c t ∙ new.2) in
      let test : nat_eq (length (queue b)) (length b.places) ≡ false = ne_eqb _ _ (omega arith) in
      sym (cond-false _ _ _ test)

  -- and a pending job has a position in it
  pub position_found : (at : ℕ) → at ≡ place_of c t (queue b) → (c < b.sets.reach) × (t < 8) × (fixed_pending b.sets c t ≡ true) → None ≡ position_refusal (queue b) at
  position_found at e old =
      let there = place_within c t (queue b) (b.same c t ∙ old.2) in
      let test : nat_le (length (queue b)) at ≡ false = lt-leb _ _ (omega arith) in
      sym (cond-false _ _ _ test)

module _ (b : Deadline) (long : length b.places ≡ 64) (sets : Fixed) (l : Line) (m : List Job) (as_long : length m ≡ length b.places) where
  size : (k : Line) (n : List Job) → k.held ≡ length (records_of k n) → length n ≡ 64 → k.held ≤ 64
  size k n h e = omega (arith, length-take k.held n)

  -- a job came, which was not pending
  pub grown : (x : Job) → fixed_pending b.sets x.component x.task ≡ false → Gains (fixed_means b.sets) (fixed_means sets) x.component x.task → Added job_le x b.line b.places l m → Sound sets l m
  grown x none g a = record {
    fits = size l m a.held (omega arith);
    same = λ c t. ap (holds c t) a.listed ∙ holds_insertion job_le x c t (queue b) ∙ ap (λ p. p || same_job x.component x.task c t) (b.same c t) ∙ sym (g.sets c t);
    apart = subst Distinct (sym a.listed) (distinct_insertion job_le x (queue b) b.apart (b.same x.component x.task ∙ none));
    in_order = a.in_order b.in_order;
  }

  -- as it does where the fixed board took it, since the line has a place for it
  pub came : (x : Job) (r : Result (Unit {0}) Refusal) → result_err r ≡ full_refusal (queue b) b.places → OnOk r (Added job_le x b.line b.places l m) → None ≡ add_refusal (fixed_means b.sets) x.component x.task → Gains (fixed_means b.sets) (fixed_means sets) x.component x.task → Sound sets l m
  came x r refusal added accepted g =
      let new = add_accepted (fixed_means b.sets) x.component x.task accepted in
      grown x new.2 g (what_made _ r (refusal ∙ sym (place_left b long _ _ new)) added).1

  -- a pending job went
  pub shrunk : (c t : ℕ) (x : Job) → Loses (fixed_means b.sets) (fixed_means sets) c t → Taken job_le (place_of c t (queue b)) x b.line b.places l m → Sound sets l m
  shrunk c t x g a = record {
    fits = size l m a.held (omega arith);
    same = λ d u. ap (holds d u) a.listed ∙ holds_removed c t d u (queue b) b.apart ∙ ap (λ p. p && not (same_job c t d u)) (b.same d u) ∙ sym (g.sets d u);
    apart = subst Distinct (sym a.listed) (distinct_removed (queue b) (place_of c t (queue b)) b.apart);
    in_order = a.in_order b.in_order;
  }

  -- as it does where the fixed board let it go, since the line has it
  pub went : (c t at : ℕ) (r : Result Job Refusal) → result_err r ≡ position_refusal (queue b) at → IfOk r (λ x. Taken job_le at x b.line b.places l m) → at ≡ place_of c t (queue b) → None ≡ strike_refusal (fixed_means b.sets) c t → Loses (fixed_means b.sets) (fixed_means sets) c t → Sound sets l m
  went c t at r refusal taken is accepted g =
      let old = strike_accepted (fixed_means b.sets) c t accepted in
      let a = what_made _ r (refusal ∙ sym (position_found b long c t at is old)) taken in
      shrunk c t a.0 g (subst (λ k. Taken job_le k a.0 b.line b.places l m) is a.1)

-- its jobs are those on its fixed board
pub jobs_are : (b : Deadline) → (deadline_means b).pending ≡ fixed_pending b.sets
jobs_are b = fun_ext (λ c. fun_ext (λ t. b.same c t))

-- two boards with the same tables are one board
pub same_board : (b b' : Deadline) → b'.sets ≡ b.sets → b'.line ≡ b.line → b'.places ≡ b.places → b' ≡ b
same_board b b' s l p = λ i.
    record {
      sets = s i;
      line = l i;
      places = p i;
      fits = is_prop→PathP (λ j. (l j).held ≤ 64) (λ j. hlevel props) b'.fits b.fits i;
      same = is_prop→PathP (λ j. SameJobs (fixed_pending (s j)) (records_of (l j) (p j))) (λ j. hlevel props) b'.same b.same i;
      apart = is_prop→PathP (λ j. Distinct (records_of (l j) (p j))) (λ j. hlevel props) b'.apart b.apart i;
      in_order = is_prop→PathP (λ j. sorted job_le (records_of (l j) (p j)) ≡ true) (λ j. hlevel props) b'.in_order b.in_order i;
    }

none_distinct : Distinct []
unfolding IsDistinct
none_distinct = tt

-- a board that is made new
pub nothing_held : (sets : Fixed) (l : Line) (m : List Job) → fixed_means sets ≡ empty_board 8 → l ≡ no_records → Sound sets l m
nothing_held sets l m empty none =
    subst (λ k. Sound sets k m) (sym none) (record { fits = omega arith; same = λ c t. sym (ap (λ k. k.pending c t) empty); apart = none_distinct; in_order = refl })

-- a queue without jobs means an empty board
pub empty_queue : (n : ℕ) (jobs : List Job) → ((c t : ℕ) → holds c t jobs ≡ false) → queue_means n jobs ≡ empty_board n
empty_queue n jobs none = empty_is (queue_means n jobs) (λ c. first_among c jobs) none

-- the reach of a board was set, or was not
module _ (b : Deadline) (sets : Fixed) (n : ℕ) where
  none_pending : None ≡ reach_refusal (fixed_means b.sets) n → (c t : ℕ) → holds c t (queue b) ≡ false
  none_pending e c t = b.same c t ∙ empty_from (fixed_means b.sets) (fixed_lawful b.sets) (reach_accepted (fixed_means b.sets) n e) c t

  -- the line agrees with the fixed board
  pub reset_same : (r : Result (Unit {0}) Refusal) → result_err r ≡ reach_refusal (fixed_means b.sets) n → OnErr r (sets ≡ b.sets) → OnOk r (fixed_means sets ≡ empty_board n) → SameJobs (fixed_pending sets) (queue b)
  reset_same (Ok x) e kept set c t = none_pending e c t ∙ sym (ap (λ k. k.pending c t) set)
  reset_same (Err y) e kept set c t = b.same c t ∙ ap (λ k. fixed_pending k c t) (sym kept)

  -- and the board is empty where it was set
  pub reset_means : (r : Result (Unit {0}) Refusal) → result_err r ≡ reach_refusal (fixed_means b.sets) n → OnOk r (fixed_means sets ≡ empty_board n) → OnOk r (queue_means sets.reach (queue b) ≡ empty_board n)
  reset_means (Ok x) e set = empty_queue sets.reach (queue b) (none_pending e) ∙ ap (λ m. empty_board m.reach) set
  reset_means (Err y) e set = tt
