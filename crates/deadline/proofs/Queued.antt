-- Jobs in a list, as jobs come and go.
use Rattle.std.specs.Prelude.{◌≡◌, ℕ, suc, ◌+◌, ◌<◌, ◌≤◌, Bool, true, false, cond, not, ◌&&◌, ◌||◌, List, [], ◌∷◌, ◌++◌, length, drop, Some, slice_index_or, ◌==◌, refl}
use Rattle.std.proofs.Common.{sym, ap, subst, ◌∙◌, ⊎_elim, arith}
use Rattle.std.specs.Cmp.{IsEquivalence}
use Rattle.std.specs.List.{remove, find}
use Rattle.std.specs.Option.{option_map}
use Rattle.std.proofs.lemmas.List.{drop_more}
use Rattle.std.specs.List.Sorted.{IsPermutation}
use Rattle.std.proofs.lemmas.List.Folds.{list_any-append, list_any_none}
use Rattle.std.proofs.lemmas.List.Quantifiers.{all_pairs_remove}
use Rattle.std.proofs.lemmas.List.Sorted.{IsPermutation-refl, IsPermutation-trans, IsPermutation-cons, IsPermutation-middle, IsPermutation-to_front, list_any-IsPermutation}
use Rattle.std.proofs.lemmas.Map.Keys.{IsDistinct-tail, IsDistinct-push, IsDistinct-from_apart, IsDistinct-IsPermutation, apart_from_distinct}
use Rattle.std.proofs.lemmas.Map.Steps.{list_any_congr}
use Rattle.std.proofs.lemmas.Bool.{cases_lt, cond_both}
use Rattle.std.proofs.lemmas.Bool.Decides.{nat_tests}
use Rattle.std.proofs.lemmas.Grind.{common_steps}
use Rattle.line.specs.declared.records.Job.{Job}
use Rattle.line.specs.Order.{insertion}
use Rattle.boards.specs.Boards.{same_job}
use Rattle.deadline.specs.Queues.{is_job, holds, place_of, first_of, of_one_task, Distinct}

abbrev pub job : ℕ → ℕ → ℕ → Job
job e c t = record { due = e; component = c; task = t }

-- being of one component and one task is an equality
pub one_task : IsEquivalence of_one_task
one_task = record {
  refl = λ x. grind (arith, nat_tests);
  symm = λ x y. grind (arith, nat_tests);
  congr = λ x y z e. grind (arith, nat_tests);
}

-- one step of a search: the job at i is the one, or it is not (for proofs over this crate: its own searches need no step)
module _ (xs : List Job) (i : ℕ) (d : Job) (lt : i < length xs) where
  pub place_here : (c t : ℕ) → is_job (slice_index_or xs i d) c t ≡ true → place_of c t (drop i xs) ≡ 0
  place_here c t h = ap (place_of c t) (drop_more xs i d lt) ∙ ap (λ b. cond (not b) (1 + place_of c t (drop (i + 1) xs)) 0) h

  pub place_on : (c t : ℕ) → is_job (slice_index_or xs i d) c t ≡ false → place_of c t (drop i xs) ≡ suc (place_of c t (drop (i + 1) xs))
  place_on c t h = ap (place_of c t) (drop_more xs i d lt) ∙ ap (λ b. cond (not b) (1 + place_of c t (drop (i + 1) xs)) 0) h ∙ omega arith

  pub first_here : (c : ℕ) → (c == (slice_index_or xs i d).component) ≡ true → first_of c (drop i xs) ≡ Some (slice_index_or xs i d).task
  first_here c h = ap (first_of c) (drop_more xs i d lt) ∙ ap (λ b. option_map (λ x. x.task) (cond b (Some (slice_index_or xs i d)) (find (λ x. c == x.component) (drop (i + 1) xs)))) h

  pub first_on : (c : ℕ) → (c == (slice_index_or xs i d).component) ≡ false → first_of c (drop i xs) ≡ first_of c (drop (i + 1) xs)
  first_on c h = ap (first_of c) (drop_more xs i d lt) ∙ ap (λ b. option_map (λ x. x.task) (cond b (Some (slice_index_or xs i d)) (find (λ x. c == x.component) (drop (i + 1) xs)))) h

-- a job that is in the list has a place in it
pub place_within : (c t : ℕ) (xs : List Job) → holds c t xs ≡ true → place_of c t xs < length xs
place_within c t [] h = absurd (let z : false ≡ true = h in cc)
place_within c t (x ∷ xs) h =
    let more = place_within c t xs in
    elim (is_job x c t) as (λ b. (b || holds c t xs) ≡ true → cond (not b) (1 + place_of c t xs) 0 < suc (length xs)) [
      | true ↦ λ _. omega arith
      | false ↦ λ r. omega (arith, more r)
    ] h

-- ---- a job comes

module _ (le : Job → Job → Bool) (r : Job) where
  inserted : (xs : List Job) → IsPermutation (r ∷ xs) (insertion le r xs)
  inserted [] = IsPermutation-refl _
  inserted (x ∷ xs) =
      let more = inserted xs in
      elim (le x r) as (λ b. IsPermutation (r ∷ x ∷ xs) (cond b (x ∷ insertion le r xs) (r ∷ x ∷ xs))) [
        | true ↦ IsPermutation-trans _ (x ∷ r ∷ xs) _ (IsPermutation-middle (r ∷ []) x xs) (IsPermutation-cons x _ _ more)
        | false ↦ IsPermutation-refl _
      ]

  -- the line with a job put in has those jobs that it has with the job put behind
  put_in : (xs : List Job) → IsPermutation (xs ++ r ∷ []) (insertion le r xs)
  put_in xs = IsPermutation-trans _ (r ∷ xs) _ (IsPermutation-to_front xs r) (inserted xs)

  pub holds_insertion : (c t : ℕ) (xs : List Job) → holds c t (insertion le r xs) ≡ (holds c t xs || is_job r c t)
  holds_insertion c t xs =
      let same = list_any-IsPermutation (λ x. is_job x c t) _ _ (put_in xs) in
      let behind = list_any-append (λ x. is_job x c t) xs (r ∷ []) in
      grind arith

  pub distinct_insertion : (xs : List Job) → Distinct xs → holds r.component r.task xs ≡ false → Distinct (insertion le r xs)
  distinct_insertion xs a h = IsDistinct-IsPermutation of_one_task one_task.symm _ _ (put_in xs) (IsDistinct-push one_task xs r a h)

-- ---- a job goes

-- a job fewer leaves them apart
pub distinct_removed : (xs : List Job) (i : ℕ) → Distinct xs → Distinct (remove xs i)
distinct_removed xs i a =
    ⊎_elim
    (λ (lt : i < length xs). IsDistinct-from_apart of_one_task _ (all_pairs_remove (λ x y. of_one_task x y ≡ false) xs i lt (λ j k d. apart_from_distinct of_one_task xs j k d a)))
    (λ (ge : length xs ≤ i). let all : remove xs i ≡ xs = grind (arith, common_steps) in subst Distinct (sym all) a)
    (cases_lt i (length xs))

-- behind a job there is no other of its task
none_behind : (x : Job) (xs : List Job) → Distinct (x ∷ xs) → holds x.component x.task xs ≡ false
none_behind x xs a = list_any_none _ xs (λ k d l. apart_from_distinct of_one_task (x ∷ xs) 0 (suc k) d a (omega arith) (omega arith))

-- without the job in front, where it is the one to go, and else with it
gone_first : (x : Job) (c t d u : ℕ) (rest : Bool) → not (is_job x c t) ≡ false → (is_job x d u ≡ true → rest ≡ false) → rest ≡ ((is_job x d u || rest) && not (same_job c t d u))
gone_first x c t d u rest e none = grind (arith, nat_tests, none)

kept_first : (x : Job) (c t d u : ℕ) (rest : Bool) → not (is_job x c t) ≡ true → (is_job x d u || (rest && not (same_job c t d u))) ≡ ((is_job x d u || rest) && not (same_job c t d u))
kept_first x c t d u rest e = grind (arith, nat_tests)

pub holds_removed : (c t d u : ℕ) (xs : List Job) → Distinct xs → holds d u (remove xs (place_of c t xs)) ≡ (holds d u xs && not (same_job c t d u))
holds_removed c t d u [] a = refl
holds_removed c t d u (x ∷ xs) a =
    let behind : 1 + place_of c t xs ≡ suc (place_of c t xs) = omega arith in
    cond_both (not (is_job x c t)) (1 + place_of c t xs) 0 (λ n. holds d u (remove (x ∷ xs) n) ≡ (holds d u (x ∷ xs) && not (same_job c t d u)))
    (λ e. ap (λ n. holds d u (remove (x ∷ xs) n)) behind ∙ ap (λ b. is_job x d u || b) (holds_removed c t d u xs (IsDistinct-tail of_one_task x xs a)) ∙ kept_first x c t d u (holds d u xs) e)
    (λ e. gone_first x c t d u (holds d u xs) e (λ h. list_any_congr one_task (job 0 d u) x xs h ∙ none_behind x xs a))
