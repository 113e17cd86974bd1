-- In a list that is in order, the component's first job is its earliest.
use Rattle.std.proofs.Common.{◌≡◌, ℕ, true, false, ◌&&◌, eqb, List, [], ◌∷◌, Some, None, Option, refl, ⊎_elim, arith}
use Rattle.std.specs.List.{find}
use Rattle.std.specs.Option.{option_map}
use Rattle.std.proofs.lemmas.Bool.{and_parts, cond_both, or_cases, or_right, false≢true}
use Rattle.std.proofs.lemmas.Bool.Decides.{nat_tests}
use Rattle.line.specs.declared.records.Job.{Job}
use Rattle.line.specs.Records.{job_le}
use Rattle.line.specs.Order.{sorted}
use Rattle.deadline.specs.Queues.{is_job, first_of, holds_due, Earliest}
use Rattle.deadline.proofs.Queued.{job}

-- a job behind the first one is not before it
first_le : (x : Job) (xs : List Job) → sorted job_le (x ∷ xs) ≡ true → (f c u : ℕ) → holds_due f c u xs ≡ true → job_le x (job f c u) ≡ true
first_le x [] o f c u s = absurd (false≢true s)
first_le x (y ∷ ys) o f c u s =
    let ps = and_parts (job_le x y) (sorted job_le (y ∷ ys)) o in
    ⊎_elim
    (λ (e : (eqb f y.due && is_job y c u) ≡ true). let here = ps.0 in grind (arith, nat_tests))
    (λ (r : holds_due f c u ys ≡ true). let here = ps.0 in let rest = first_le y ys ps.1 f c u r in grind (arith, nat_tests))
    (or_cases (eqb f y.due && is_job y c u) (holds_due f c u ys) s)

sorted_tail : (x : Job) (xs : List Job) → sorted job_le (x ∷ xs) ≡ true → sorted job_le xs ≡ true
sorted_tail x [] o = refl
sorted_tail x (y ∷ ys) o = (and_parts (job_le x y) (sorted job_le (y ∷ ys)) o).1

-- a job of another component in front changes nothing
further : (c : ℕ) (x : Job) (xs : List Job) (o : Option ℕ) → eqb c x.component ≡ false → Earliest c xs o → Earliest c (x ∷ xs) o
further c x xs None ne h = λ t. let none = h t in grind arith
further c x xs (Some t) ne h = (h.0, or_right _ _ h.1, λ f u s. h.2 f u (grind arith))

-- and among one component's jobs the order is that of deadline and task
foremost : (c : ℕ) (x : Job) (xs : List Job) → eqb c x.component ≡ true → sorted job_le (x ∷ xs) ≡ true → Earliest c (x ∷ xs) (Some x.task)
foremost c x xs e o = (
  x.due,
  grind (arith, nat_tests),
  λ f u s.
      ⊎_elim
      (λ (h : (eqb f x.due && is_job x c u) ≡ true). grind (arith, nat_tests))
      (λ (r : holds_due f c u xs ≡ true). let behind = first_le x xs o f c u r in grind (arith, nat_tests))
      (or_cases (eqb f x.due && is_job x c u) (holds_due f c u xs) s),
)

pub first_earliest : (c : ℕ) (xs : List Job) → sorted job_le xs ≡ true → Earliest c xs (first_of c xs)
first_earliest c [] o = λ t. refl
first_earliest c (x ∷ xs) o =
    cond_both (eqb c x.component) (Some x) (find (λ y. eqb c y.component) xs) (λ found. Earliest c (x ∷ xs) (option_map (λ y. y.task) found))
    (λ e. foremost c x xs e o)
    (λ e. further c x xs (first_of c xs) e (first_earliest c xs (sorted_tail x xs o)))
