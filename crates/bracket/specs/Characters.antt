-- Characters, and the runs of letters and digits that words and numbers are made of.
use Rattle.std.specs.Prelude.{ℕ, ◌+◌, ◌-◌, ◌*◌, Bool, true, false, cond, not, ◌&&◌, ◌||◌, List, length, take, drop, Some, None, Option, ◌==◌, nat_le, slice_index}
use Rattle.std.specs.List.{prefix_len, fold, list_all}
use Rattle.bracket.specs.declared.words.Class.{Class}
use Rattle.bracket.specs.declared.words.Class.TheVariants.{Open, Close, Space, Digit, Letter, Other}

abbrev pub within : ℕ → ℕ → ℕ → Bool
within low high b = cond (nat_le low b) (nat_le b high) false

-- ( is 40, ) is 41, a space 32, the digits are 48 to 57 and the small letters 97 to 122
abbrev pub class_of : ℕ → Class
class_of b = cond (b == 40) Open (cond (b == 41) Close (cond (b == 32) Space (cond (within 48 57 b) Digit (cond (within 97 122 b) Letter Other))))

abbrev pub digit_class : Class → Bool
digit_class Digit = true
digit_class _ = false

abbrev pub letter_class : Class → Bool
letter_class Letter = true
letter_class _ = false

abbrev pub digit : ℕ → Bool
digit b = digit_class (class_of b)

abbrev pub letter : ℕ → Bool
letter b = letter_class (class_of b)

-- letters and digits that stand side by side are one run
abbrev pub in_run : ℕ → Bool
in_run b = digit b || letter b

-- the unbroken run at the front of the bytes
abbrev pub run_of : List ℕ → List ℕ
run_of bytes = take (prefix_len in_run bytes) bytes

-- what follows that run
abbrev pub past_run : List ℕ → List ℕ
past_run bytes = drop (prefix_len in_run bytes) bytes

-- a word has 1 to 9 small letters
abbrev pub is_word : List ℕ → Bool
is_word run = within 1 9 (length run) && list_all letter run

-- what the digits write in base ten, after what is read already
abbrev pub read_on : ℕ → List ℕ → ℕ
read_on = fold (λ read b. read * 10 + (b - 48))

-- a number has 1 to 16 digits, and no leading zero except 0 itself
abbrev pub is_number : List ℕ → Bool
is_number run = within 1 16 (length run) && (list_all digit run && (length run == 1 || not (slice_index run 0 == 48)))

abbrev pub number_of : List ℕ → Option ℕ
number_of run = cond (is_number run) (Some (read_on 0 run)) None
