-- One of two boards: it stands for what that one stands for.
use Rattle.boards.specs.Boards.{Meaning}
use Rattle.boards.specs.declared.either.Either.{Either}
use Rattle.boards.specs.declared.either.Either.TheVariants.{First, Second}

module _ {F S : Type 0} where
  abbrev pub either_means : (F → Meaning) → (S → Meaning) → Either F S → Meaning
  either_means first second (First b) = first b
  either_means first second (Second b) = second b

  -- it is still the same one of the two, changed as that one changes
  abbrev pub Same : (F → F → Type 0) → (S → S → Type 0) → Either F S → Either F S → Type 0
  Same first second (First a) (First b) = first a b
  Same first second (First a) (Second b) = ⊥
  Same first second (Second a) (First b) = ⊥
  Same first second (Second a) (Second b) = second a b
