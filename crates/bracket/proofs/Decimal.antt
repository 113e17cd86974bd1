-- A run is a number exactly where it is what a number below 10 ^ 16 looks like in base ten.
use Rattle.std.proofs.Common.{◌≡◌, ℕ, ◌^◌, ◌<◌, ◌≤◌, Bool, true, false, cond, not, ◌||◌, eqb, ◌⊎◌, List, length, get_or, take, Some, None, decimal, sym, refl, ap, ◌∙◌, subst, inl, inr, arith, rules}
use Rattle.std.specs.List.{list_all}
use Rattle.std.proofs.lemmas.Bool.{and_parts, and_from, or_left, or_right, eq-eqb, ne_eqb, not_from_false, cases_eq}
use Rattle.std.proofs.lemmas.Bool.Decides.{nat_tests}
use Rattle.std.proofs.lemmas.List.{length-take-le}
use Rattle.std.proofs.lemmas.Str.Parse.{IsNumeralModel, numerals_by_fold, digits_value_short}
use Rattle.std.proofs.lemmas.Fmt.{decimal-digits_value, digits_decimal, digits_value-decimal, length-decimal-le, decimal_nonempty, first_decimal, decimal_digit}
use Rattle.bracket.specs.Characters.{within, digit, read_on, is_number, number_of}

pub digit_range : (b : ℕ) → digit b ≡ true → (48 ≤ b) × (b ≤ 57)
digit_range b h = grind (arith, nat_tests)

pub digit_from_range : (b : ℕ) → 48 ≤ b → b ≤ 57 → digit b ≡ true
digit_from_range b l h = grind (arith, nat_tests)

own : IsNumeralModel (λ ds. list_all digit ds ≡ true) (read_on 0)
own = numerals_by_fold _ (search (rules, digit_range, digit_from_range)) read_on (search rules)

-- what less than 16 digits write leaves room for one more
pub room : (run : List ℕ) (i : ℕ) → i < length run → length run ≤ 16 → list_all digit (take i run) ≡ true → read_on 0 (take i run) < 10 ^ 15
room run i h few d = let l = length-take-le i run (omega arith) in digits_value_short own (take i run) 15 d (omega arith)

pub within_both : (low high b : ℕ) → within low high b ≡ true → (low ≤ b) × (b ≤ high)
within_both low high b h = grind (arith, nat_tests)

both_within : (low high b : ℕ) → low ≤ b → b ≤ high → within low high b ≡ true
both_within low high b l h = grind (arith, nat_tests)

parts : (run : List ℕ) → is_number run ≡ true → (1 ≤ length run) × (length run ≤ 16) × (list_all digit run ≡ true) × (get_or run 0 0 ≡ 48 → length run ≡ 1)
parts run h =
    let p = and_parts (within 1 16 (length run)) _ h in
    let q = and_parts (list_all digit run) _ p.1 in
    let w = within_both 1 16 (length run) p.0 in
    (w.0, w.1, q.0, λ e. grind (arith, nat_tests, q.1))

by_test : (run : List ℕ) (n : ℕ) (b : Bool) → is_number run ≡ b → cond b (Some (read_on 0 run)) None ≡ Some n → (run ≡ decimal n) × (n < 10 ^ 16)
by_test run n true e h =
    let p = parts run e in
    let v : read_on 0 run ≡ n = cc in
    let small = digits_value_short own run 16 p.2 p.1 in
    (sym (decimal-digits_value own run p.2 (omega arith) p.3 (omega arith)) ∙ ap decimal v, subst (λ m. m < 10 ^ 16) v small)
by_test run n false e h = cc

pub number_is : (run : List ℕ) (n : ℕ) → number_of run ≡ Some n → (run ≡ decimal n) × (n < 10 ^ 16)
number_is run n h = by_test run n (is_number run) refl h

pub decimal_digits : (n : ℕ) → n < 10 ^ 16 → list_all digit (decimal n) ≡ true
decimal_digits n h = digits_decimal own n (omega arith)

one_zero : (n : ℕ) → n < 10 ^ 16 → (n ≡ 0) ⊎ (n ≡ 0 → ⊥) → (eqb (length (decimal n)) 1 || not (eqb (get_or (decimal n) 0 0) 48)) ≡ true
one_zero n h (inl e) = or_left _ _ (eq-eqb _ 1 (ap length (decimal_digit n (omega arith))))
one_zero n h (inr ne) = let f = first_decimal n (omega arith) (omega arith) in or_right _ _ (not_from_false _ (ne_eqb (get_or (decimal n) 0 0) 48 (λ e. omega arith)))

pub decimal_number : (n : ℕ) → n < 10 ^ 16 → is_number (decimal n) ≡ true
decimal_number n h =
    let s = decimal_nonempty n (omega arith) in
    let l = length-decimal-le 16 n (omega arith) h (omega arith) in
    and_from (within 1 16 (length (decimal n))) _ (both_within 1 16 (length (decimal n)) (omega arith) l) (and_from (list_all digit (decimal n)) _ (decimal_digits n h) (one_zero n h (cases_eq n 0)))

pub number_decimal : (n : ℕ) → n < 10 ^ 16 → number_of (decimal n) ≡ Some n
number_decimal n h =
    ap (λ b. cond b (Some (read_on 0 (decimal n))) None) (decimal_number n h) ∙ ap Some (digits_value-decimal own n (omega arith))
