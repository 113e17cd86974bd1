-- How a call is refused: for the first of its causes that holds, and then nothing changes.
use Rattle.std.specs.Prelude.{ℕ, zero, suc, Bool, false, cond, ◌||◌, List, [], ◌∷◌, Some, None, Ok, Err, Option, Result, nat_lt}
use Rattle.refusals.specs.declared.Refusal.{Refusal}

-- the first cause whose test holds
abbrev pub first_cause : List (Bool × Refusal) → Option Refusal
first_cause [] = None
first_cause (c ∷ rest) = cond c.0 (Some c.1) (first_cause rest)

-- the answer of a call: the cause of its refusal, or else its value
abbrev pub answered : {X : Type 0} → Option Refusal → X → Result X Refusal
answered None value = Ok value
answered (Some cause) value = Err cause

-- what a call leaves: all as it was if it is refused, or else the new state
abbrev pub unless_refused : {X : Type 0} → Option Refusal → X → X → X
unless_refused None new old = new
unless_refused (Some cause) new old = old

-- a test holds of one of the first so many numbers
abbrev pub some : (ℕ → Bool) → ℕ → Bool
some test zero = false
some test (suc n) = test n || some test n

-- a number is below the one or above the other
abbrev pub outside : ℕ → ℕ → ℕ → Bool
outside low high n = nat_lt n low || nat_lt high n
