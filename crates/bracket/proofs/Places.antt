-- What is wrong at one place of a line, seen by a loop that goes from the left.
use Rattle.std.proofs.Common.{◌≡◌, ℕ, zero, suc, ◌+◌, ◌-◌, ◌<◌, Bool, false, List, [], ◌∷◌, length, get_or, take, drop, Option, sym, refl, ap, ◌∙◌, arith}
use Rattle.std.proofs.lemmas.List.{take_rest}
use Rattle.bracket.specs.declared.faults.WordFault.{WordFault}
use Rattle.bracket.specs.Characters.{class_of, in_run, run_of}
use Rattle.bracket.specs.Faults.{wrong, wrong_at}

-- whether the byte before index i belongs to a run
abbrev pub inside_at : Bool → List ℕ → ℕ → Bool
inside_at inside bytes zero = inside
inside_at inside [] (suc i) = inside
inside_at inside (b ∷ bytes) (suc i) = inside_at (in_run b) bytes i

inside_suc : (inside : Bool) (bytes : List ℕ) (i : ℕ) → i < length bytes → inside_at inside bytes (suc i) ≡ in_run (get_or bytes i 0)
inside_suc inside [] i h = absurd (omega arith)
inside_suc inside (b ∷ bytes) zero h = refl
inside_suc inside (b ∷ bytes) (suc i) h = inside_suc (in_run b) bytes i (omega arith)

pub inside_step : (bytes : List ℕ) (i : ℕ) → i < length bytes → inside_at false bytes (i + 1) ≡ in_run (get_or bytes i 0)
inside_step bytes i h = let e : i + 1 ≡ suc i = omega arith in ap (inside_at false bytes) e ∙ inside_suc false bytes i h

place : (inside : Bool) (column : ℕ) (bytes : List ℕ) (i : ℕ) → i < length bytes
    → wrong_at inside column bytes i ≡ wrong (class_of (get_or bytes i 0)) (inside_at inside bytes i) (run_of (drop i bytes)) (i + column)
place inside column [] i h = absurd (omega arith)
place inside column (b ∷ bytes) zero h = let e : column ≡ 0 + column = omega arith in ap (wrong (class_of b) inside (run_of (b ∷ bytes))) e
place inside column (b ∷ bytes) (suc i) h =
    let e : i + (column + 1) ≡ suc i + column = omega arith in
    place (in_run b) (column + 1) bytes i (omega arith) ∙ ap (wrong (class_of (get_or bytes i 0)) (inside_at (in_run b) bytes i) (run_of (drop i bytes))) e

-- what a look at the rest of the line from index i on finds is what is wrong at i
pub at_place : (line : List ℕ) (i : ℕ) (inside : Bool) (found : Option WordFault) → i < length line → inside ≡ inside_at false line i
    → found ≡ wrong (class_of (get_or line i 0)) inside (run_of (take (length line - i) (drop i line))) (i + 1) → wrong_at false 1 line i ≡ found
at_place line i inside found h e is =
    place false 1 line i h ∙ ap (λ t. wrong (class_of (get_or line i 0)) t (run_of (drop i line)) (i + 1)) (sym e) ∙ sym (is ∙ ap (λ rest. wrong (class_of (get_or line i 0)) inside (run_of rest) (i + 1)) (take_rest line i))
