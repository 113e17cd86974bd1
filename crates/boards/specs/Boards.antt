-- What a board stands for, and what a call on it answers and changes.
use Rattle.std.specs.Prelude.{◌≡◌, ℕ, ◌<◌, ◌≤◌, Bool, true, false, not, ◌&&◌, ◌||◌, [], ◌∷◌, None, Option, MatchOption, ◌==◌, nat_le, nat_lt}
use Rattle.refusals.specs.Causes.{first_cause, some, outside}
use Rattle.refusals.specs.declared.Refusal.{Refusal}
use Rattle.refusals.specs.declared.Refusal.TheVariants.{UnknownComponent, ReachRange, BoardNotEmpty, UnknownTask, JobPending, JobNotPending}

-- the number of components that the board serves, whether a job of a component's task is pending, and the task that a component runs next
pub record Meaning : Type 0 where
  pub reach : ℕ
  pub pending : ℕ → ℕ → Bool
  pub picked : ℕ → Option ℕ

-- some job of the component is pending
abbrev pub HasJob : Meaning → ℕ → Type 0
HasJob m c = (t : ℕ) × (m.pending c t ≡ true)

-- no job is pending
abbrev pub Empty : Meaning → Type 0
Empty m = (c t : ℕ) → m.pending c t ≡ false

-- none where no task is in the set, and else one that is
abbrev pub Among : (ℕ → Bool) → Option ℕ → Type 0
Among set pick = MatchOption pick ((t : ℕ) → set t ≡ false) (λ t. set t ≡ true)

-- what every board keeps to
pub record Lawful (m : Meaning) : Type 0 where
  pub eight : m.reach ≤ 8
  pub inside : (c t : ℕ) → m.pending c t ≡ true → (c < m.reach) × (t < 8)
  pub among : (c : ℕ) → Among (m.pending c) (m.picked c)

-- the first cause for which there is no such job on the board, pending or not
abbrev pub job_refusal : Meaning → ℕ → ℕ → Option Refusal
job_refusal m c t = first_cause ((nat_le m.reach c, UnknownComponent) ∷ (nat_lt 7 t, UnknownTask) ∷ [])

-- the first cause for which a job is not added
abbrev pub add_refusal : Meaning → ℕ → ℕ → Option Refusal
add_refusal m c t = first_cause ((nat_le m.reach c, UnknownComponent) ∷ (nat_lt 7 t, UnknownTask) ∷ (m.pending c t, JobPending) ∷ [])

-- the first cause for which a job is not struck
abbrev pub strike_refusal : Meaning → ℕ → ℕ → Option Refusal
strike_refusal m c t = first_cause ((nat_le m.reach c, UnknownComponent) ∷ (nat_lt 7 t, UnknownTask) ∷ (not (m.pending c t), JobNotPending) ∷ [])

-- a job is pending, of one of the tasks 0 to 7 of the components 0 to 7
unfoldable pub occupied : (ℕ → ℕ → Bool) → Bool
occupied pending = some (λ c. some (pending c) 8) 8

-- the first cause for which the reach of a board is not set
abbrev pub reach_refusal : Meaning → ℕ → Option Refusal
reach_refusal m n = first_cause ((outside 1 8 n, ReachRange) ∷ (occupied m.pending, BoardNotEmpty) ∷ [])

-- the first cause for which no board of this reach is made
abbrev pub made_refusal : ℕ → Option Refusal
made_refusal n = first_cause ((outside 1 8 n, ReachRange) ∷ [])

-- the job of task u of component d is that of task t of component c
abbrev pub same_job : ℕ → ℕ → ℕ → ℕ → Bool
same_job c t d u = d == c && u == t

-- whether a job is pending follows from whether it was, and whether it is this job; the reach is as it was
pub record Changes (becomes : Bool → Bool → Bool) (m m' : Meaning) (c t : ℕ) : Type 0 where
  pub reach : m'.reach ≡ m.reach
  pub sets : (d u : ℕ) → m'.pending d u ≡ becomes (m.pending d u) (same_job c t d u)

-- this job is pending too, and of the others those that were
abbrev pub Gains : Meaning → Meaning → ℕ → ℕ → Type 0
Gains = Changes (λ was this. was || this)

-- this job is no longer pending, and of the others those are that were
abbrev pub Loses : Meaning → Meaning → ℕ → ℕ → Type 0
Loses = Changes (λ was this. was && not this)

-- a board of this reach on which no job is pending
abbrev pub empty_board : ℕ → Meaning
empty_board n = record { reach = n; pending = λ c t. false; picked = λ c. None }
