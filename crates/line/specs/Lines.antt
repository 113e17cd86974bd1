-- What a line holds of the memory that it is lent, and what each call does to both.
-- A line l and its memory m stand for one list, `records_of l m`; the memory past it belongs to nobody.
use Rattle.std.specs.Prelude.{◌≡◌, ℕ, Bool, true, List, [], ◌∷◌, length, take, drop, Some, Option, ◌==◌, nat_le}
use Rattle.std.specs.List.{remove, slice_get}
use Rattle.refusals.specs.Causes.{first_cause}
use Rattle.refusals.specs.declared.Refusal.{Refusal}
use Rattle.refusals.specs.declared.Refusal.TheVariants.{LineFull, PastEnd}
use Rattle.line.specs.declared.kept.Line.{Line}
use Rattle.line.specs.Order.{insertion, sorted}

-- a line that holds nothing
abbrev pub no_records : Line
no_records = record { held = 0 }

-- the records of a line, in their order: the first so many of its memory
abbrev pub records_of : {X : Type 0} → Line → List X → List X
records_of l m = take l.held m

-- a record is refused where the line holds as many as there are places
abbrev pub full_refusal : {X : Type 0} → List X → List X → Option Refusal
full_refusal records places = first_cause (((length records == length places), LineFull) ∷ [])

-- a position is refused at or past the number of records
abbrev pub position_refusal : {X : Type 0} → List X → ℕ → Option Refusal
position_refusal records at = first_cause ((nat_le (length records) at, PastEnd) ∷ [])

-- a refusal changes neither the line nor the memory
pub record Kept {X : Type 0} (l : Line) (m : List X) (l' : Line) (m' : List X) : Type 0 where
  pub line : l' ≡ l
  pub memory : m' ≡ m

-- r went in behind all that are not greater, and the memory past the records is as it was
pub record Added {X : Type 0} (le : X → X → Bool) (r : X) (l : Line) (m : List X) (l' : Line) (m' : List X) : Type 0 where
  pub held : l'.held ≡ length (records_of l' m')
  pub listed : records_of l' m' ≡ insertion le r (records_of l m)
  pub rest : drop l'.held m' ≡ drop l'.held m
  pub in_order : sorted le (records_of l m) ≡ true → sorted le (records_of l' m') ≡ true

-- x stood at the position and is gone, and the memory past the records is as it was
pub record Taken {X : Type 0} (le : X → X → Bool) (at : ℕ) (x : X) (l : Line) (m : List X) (l' : Line) (m' : List X) : Type 0 where
  pub found : slice_get (records_of l m) at ≡ Some x
  pub held : l'.held ≡ length (records_of l' m')
  pub listed : records_of l' m' ≡ remove (records_of l m) at
  pub rest : drop l'.held m' ≡ drop l'.held m
  pub in_order : sorted le (records_of l m) ≡ true → sorted le (records_of l' m') ≡ true
