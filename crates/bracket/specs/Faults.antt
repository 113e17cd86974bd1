-- Faults: the first word fault of a line, and what is printed of each fault.
use Rattle.std.specs.Prelude.{◌≡◌, ℕ, zero, suc, ◌+◌, ◌<◌, Bool, false, cond, ◌||◌, List, [], ◌∷◌, ◌++◌, length, Some, None, codes, decimal, Option}
use Rattle.bracket.specs.declared.words.Class.{Class}
use Rattle.bracket.specs.declared.words.Class.TheVariants.{Digit, Letter, Other}
use Rattle.bracket.specs.declared.faults.WordFault.{WordFault}
use Rattle.bracket.specs.declared.faults.WordFault.TheVariants.{Byte, Run}
use Rattle.bracket.specs.declared.faults.FormFault.TheVariants.{Word, Unknown}
use Rattle.bracket.specs.declared.faults.LineFault.{LineFault}
use Rattle.bracket.specs.declared.faults.LineFault.TheVariants.{TooLong, Form}
use Rattle.bracket.specs.Characters.{class_of, in_run, run_of, is_word, is_number}

-- a run is fit to stand in a form if it is a word or a number
abbrev pub fit : List ℕ → Bool
fit run = is_word run || is_number run

-- what is wrong where a character of this class stands: the character itself, or the run that begins there. `inside` says that the run began before
abbrev pub wrong : Class → Bool → List ℕ → ℕ → Option WordFault
wrong Digit inside run column = cond (inside || fit run) None (Some (Run column))
wrong Letter inside run column = cond (inside || fit run) None (Some (Run column))
wrong Other inside run column = Some (Byte column)
wrong _ inside run column = None

-- what is wrong at index i of the bytes, the first of which stands in this column
abbrev pub wrong_at : Bool → ℕ → List ℕ → ℕ → Option WordFault
wrong_at inside column [] i = None
wrong_at inside column (b ∷ bytes) zero = wrong (class_of b) inside (run_of (b ∷ bytes)) column
wrong_at inside column (b ∷ bytes) (suc i) = wrong_at (in_run b) (column + 1) bytes i

-- nothing is wrong at any of the first n indices of a line
abbrev pub CleanTo : List ℕ → ℕ → Type 0
CleanTo line n = (i : ℕ) → i < n → wrong_at false 1 line i ≡ None

-- no word fault
abbrev pub Clean : List ℕ → Type 0
Clean line = CleanTo line (length line)

-- the first word fault from the left
pub record FirstFault (line : List ℕ) (fault : WordFault) : Type 0 where
  pub index : ℕ
  pub within : index < length line
  pub here : wrong_at false 1 line index ≡ Some fault
  pub before : CleanTo line index

-- the layer that a fault belongs to, the column where it stands, and the number of its cause
abbrev pub layer_of : LineFault → List ℕ
layer_of TooLong = codes "line"
layer_of (Form (Word fault)) = codes "word"
layer_of (Form Unknown) = codes "form"

abbrev pub column_of : LineFault → ℕ
column_of TooLong = 81
column_of (Form (Word (Byte column))) = column
column_of (Form (Word (Run column))) = column
column_of (Form Unknown) = 1

abbrev pub cause_of : LineFault → ℕ
cause_of TooLong = 33
cause_of (Form (Word (Byte column))) = 30
cause_of (Form (Word (Run column))) = 31
cause_of (Form Unknown) = 32

-- a fault of the line of this number, as `(word 3 7 30)`
abbrev pub fault_text : ℕ → LineFault → List ℕ
fault_text line fault =
    codes "(" ++ (layer_of fault ++ (codes " " ++ (decimal line ++ (codes " " ++ (decimal (column_of fault) ++ (codes " " ++ (decimal (cause_of fault) ++ codes ")")))))))
