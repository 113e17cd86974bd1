-- A board of at most eight components and eight tasks has room for a job that is not pending: no two jobs in its line are of one task.
use Rattle.std.specs.Prelude.{◌≡◌, ℕ, ◌<◌, ◌≤◌, true, false, List, [], ◌∷◌, ◌++◌, map, length, refl}
use Rattle.std.proofs.Common.{sym, ◌∙◌, ⊎_elim, arith}
use Rattle.std.specs.List.{flat_map, range_with_len}
use Rattle.std.proofs.lemmas.List.{length-append}
use Rattle.std.proofs.lemmas.List.Folds.{list_any-append}
use Rattle.std.proofs.lemmas.Bool.{or_cases, agree_below, agree_below_at}
use Rattle.std.proofs.lemmas.Bool.Decides.{nat_tests}
use Rattle.std.proofs.lemmas.Map.Keys.{IsDistinct-push}
use Rattle.std.proofs.lemmas.Map.Made.{length-le_from_is_member}
use Rattle.line.specs.declared.records.Job.{Job}
use Rattle.deadline.specs.Queues.{holds, Distinct, of_one_task}
use Rattle.deadline.proofs.Queued.{job, one_task}

-- every job of the eight tasks of eight components
abbrev every_job : List Job
every_job = flat_map (λ c. map (λ t. job 0 c t) (range_with_len 0 8)) (range_with_len 0 8)

among_every : (c t : ℕ) → c < 8 → t < 8 → holds c t every_job ≡ true
among_every c t p q =
    agree_below_at (λ u. holds c u every_job) (λ u. true) 8 t
    (agree_below_at (λ d. agree_below (λ u. holds d u every_job) (λ u. true) 8) (λ d. true) 8 c refl p) q

-- every job in the list is of a component below n and of a task below 8
abbrev Inside : ℕ → List Job → Type 0
Inside n xs = (c t : ℕ) → holds c t xs ≡ true → (c < n) × (t < 8)

pub room : (n : ℕ) → n ≤ 8 → (c t : ℕ) → c < n → t < 8 → (xs : List Job) → Inside n xs → Distinct xs → holds c t xs ≡ false → length xs < 64
room n small c t p q xs inside a h =
    let new = job 0 c t ∷ [] in
    let below : (x : Job) → holds x.component x.task (xs ++ new) ≡ true → (x.component < 8) × (x.task < 8) = λ x m.
    ⊎_elim
    (λ (i : holds x.component x.task xs ≡ true). let k = inside _ _ i in (omega arith, k.1))
    (λ (i : holds x.component x.task new ≡ true). (grind (arith, nat_tests), grind (arith, nat_tests)))
    (or_cases _ _ (sym (list_any-append (of_one_task x) xs new) ∙ m)) in
    let many : length (xs ++ new) ≤ 64 = length-le_from_is_member one_task (xs ++ new) every_job (IsDistinct-push one_task xs (job 0 c t) a h) (λ x m. among_every _ _ (below x m).0 (below x m).1) in
    omega (arith, many, length-append xs new)
