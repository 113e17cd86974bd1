-- Two boards as one: the components of the first, and then those of the second, as far as eight go.
use Rattle.std.specs.Prelude.{ℕ, ◌+◌, ◌-◌, ◌<◌, ◌≤◌, min, false, cond, None, nat_lt}
use Rattle.boards.specs.Boards.{Meaning}

-- what the first board, of this reach, says of a component below it, and the second of one from there on, counted from there;
-- nothing of a component past the eighth
abbrev pub side_of : {X : Type 0} → ℕ → (ℕ → X) → (ℕ → X) → X → ℕ → X
side_of reach first second nothing c = cond (nat_lt c reach) (first c) (cond (nat_lt c 8) (second (c - reach)) nothing)

abbrev pub joined : Meaning → Meaning → Meaning
joined a b =
    record {
      reach = min 8 (a.reach + b.reach);
      pending = λ c t. side_of a.reach (λ d. a.pending d t) (λ d. b.pending d t) false c;
      picked = side_of a.reach a.picked b.picked None;
    }

-- the one of a component of the first board, the other of a component of the second
abbrev pub BySide : ℕ → ℕ → Type 0 → Type 0 → Type 0
BySide reach c OfFirst OfSecond = (c < reach → OfFirst) × (reach ≤ c → OfSecond)
