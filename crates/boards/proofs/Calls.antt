-- What follows from the answer of a call, where it is known whether the call was refused.
use Rattle.std.proofs.Common.{◌≡◌, ℕ, ◌<◌, true, false, IfOk, IfErr, Some, None, Ok, Err, Option, Result, arith}
use Rattle.std.specs.Result.{result_err}
use Rattle.std.proofs.lemmas.Bool.Decides.{nat_tests}
use Rattle.refusals.specs.declared.Refusal.{Refusal}
use Rattle.boards.specs.Boards.{Meaning, add_refusal, strike_refusal, reach_refusal, occupied}

module _ {X Y : Type 0} where
  pub refused_always : (P : Y → Type 0) (r : Result X Y) → ((y : Y) → P y) → IfErr r P
  refused_always P (Ok x) h = tt
  refused_always P (Err y) h = h y

  -- what a call made that is not refused
  pub what_made : (P : X → Type 0) (r : Result X Y) → result_err r ≡ None → IfOk r P → (x : X) × P x
  what_made P (Ok x) e m = (x, m)
  what_made P (Err y) e m = cc

-- a call is not both refused and accepted
pub never_refused : (answer : Option Refusal) (y : Refusal) → Some y ≡ answer → None ≡ answer → ⊥
never_refused answer y p q = cc

-- ---- what an accepted call tells of the board

module _ (m : Meaning) (c t : ℕ) where
  pub add_accepted : None ≡ add_refusal m c t → (c < m.reach) × (t < 8) × (m.pending c t ≡ false)
  add_accepted h = grind (arith, nat_tests)

  pub strike_accepted : None ≡ strike_refusal m c t → (c < m.reach) × (t < 8) × (m.pending c t ≡ true)
  strike_accepted h = grind (arith, nat_tests)

pub reach_accepted : (m : Meaning) (n : ℕ) → None ≡ reach_refusal m n → occupied m.pending ≡ false
reach_accepted m n h = grind (arith, nat_tests)
