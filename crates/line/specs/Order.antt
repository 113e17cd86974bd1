-- A list in order, and a record that is put into it. `le x y` says that x is not greater than y.
use Rattle.std.specs.Prelude.{ℕ, Bool, true, cond, ◌&&◌, List, [], ◌∷◌}
use Rattle.std.specs.List.{prefix_len}

module _ {X : Type 0} (le : X → X → Bool) where
  -- how many records at the front are not greater than r
  abbrev pub behind : X → List X → ℕ
  behind r records = prefix_len (λ x. le x r) records

  -- r stands behind those records, and before the rest
  abbrev pub insertion : X → List X → List X
  insertion r [] = r ∷ []
  insertion r (x ∷ xs) = cond (le x r) (x ∷ insertion r xs) (r ∷ x ∷ xs)

  -- no record is greater than the next
  abbrev pub sorted : List X → Bool
  sorted [] = true
  sorted (x ∷ []) = true
  sorted (x ∷ y ∷ ys) = le x y && sorted (y ∷ ys)
