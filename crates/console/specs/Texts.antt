-- Text with numbers in it.
use Rattle.std.specs.Prelude.{ℕ, Bool, true, false, List, [], ◌∷◌, ◌++◌, decimal, ◌==◌}

-- what stands for a byte of the form: the byte itself, or where it is a mark the next number in base ten, and nothing where there are no more
abbrev pub piece : Bool → ℕ → List ℕ → List ℕ
piece false b numbers = b ∷ []
piece true b [] = []
piece true b (n ∷ numbers) = decimal n

-- the numbers that are left after it
abbrev pub left : Bool → List ℕ → List ℕ
left false numbers = numbers
left true [] = []
left true (n ∷ numbers) = numbers

-- the form with each # (35) replaced by the next number
abbrev pub filled : List ℕ → List ℕ → List ℕ
filled [] numbers = []
filled (b ∷ form) numbers = piece (b == 35) b numbers ++ filled form (left (b == 35) numbers)
