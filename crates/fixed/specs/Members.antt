-- The tasks in a set, and the smallest of them.
use Rattle.std.specs.Prelude.{◌≡◌, ℕ, zero, suc, ◌+◌, ◌<◌, Bool, true, false, Some, None, Option}
use Rattle.std.specs.List.{find, range_with_len}
use Rattle.std.proofs.Common.{arith}
use Rattle.std.proofs.lemmas.Bool.{cond_both}
use Rattle.std.proofs.lemmas.Bool.Decides.{nat_tests}
use Rattle.boards.specs.Boards.{Among}
use Rattle.fixed.specs.Tasks.{member, smallest, Smallest}
use Rattle.fixed.specs.declared.tasks.TaskSet.{TaskSet}

-- the first of n numbers, from k on, that is in a set is its smallest if no other numbers are in it
first_found : (set : ℕ → Bool) (n k : ℕ) → ((j : ℕ) → j < k → set j ≡ false) → ((j : ℕ) → set j ≡ true → j < k + n) → Smallest set (find set (range_with_len k n))
first_found set zero k before within = λ t. grind (arith, nat_tests, before t, within t)
first_found set (suc n) k before within =
    cond_both (set k) (Some k) (find set (range_with_len (k + 1) n)) (Smallest set) (λ h. (h, before)) (λ h. first_found set n (k + 1) (λ j lt. grind (arith, before j)) (λ j m. omega (arith, within j m)))

smallest_among : (set : ℕ → Bool) (pick : Option ℕ) → Smallest set pick → Among set pick
smallest_among set None h = h
smallest_among set (Some t) h = h.0

module _ (s : TaskSet) where
  pub member_within : (t : ℕ) → member s t ≡ true → t < 8
  member_within t h = grind (arith, nat_tests)

  pub smallest_is : Smallest (member s) (smallest (member s))
  unfolding smallest
  smallest_is = first_found (member s) 8 0 (λ j lt. absurd (omega arith)) member_within

  pub pick_among : Among (member s) (smallest (member s))
  pick_among = smallest_among (member s) _ smallest_is
