-- The bits of a number, as tests: under `|`, `&` and a mask, and the lowest of them. For proofs over this crate: its own speak of bits as numbers.
use Rattle.std.proofs.Common.{◌≡◌, ℕ, zero, suc, ◌-◌, ◌/◌, ◌%◌, ◌^◌, ◌<◌, ◌≤◌, Bool, true, false, not, ◌&&◌, ◌||◌, ◌==◌, refl, ⊎_elim, pow-suc, arith}
use Rattle.std.specs.Int.{bit_at}
use Rattle.std.specs.Int.Bits.{bit_and, bit_or}
use Rattle.std.specs.Int.Count.{count_trailing_zeros, under}
use Rattle.std.proofs.lemmas.Nat.Bits.{bit_at_lowest, bit_at-suc, bit_at_and, bit_at_or, bit_at_above, bit_at-pow_same, bit_at-pow_other}
use Rattle.std.proofs.lemmas.Bool.{agree_below, agree_below_at, cases_eq}
use Rattle.std.proofs.lemmas.Bool.Decides.{nat_tests}

-- bit k of a number is set
abbrev pub bit : ℕ → ℕ → Bool
bit n k = bit_at n k == 1

pub bit-bit_or : (a b k : ℕ) → bit (bit_or a b) k ≡ (bit a k || bit b k)
bit-bit_or a b k = let e = bit_at_or a b k in grind (arith, nat_tests)

pub bit-bit_and : (a b k : ℕ) → bit (bit_and a b) k ≡ (bit a k && bit b k)
bit-bit_and a b k = let e = bit_at_and a b k in grind (arith, nat_tests)

-- past the digits of a number there is none
pub bit_past : (n w k : ℕ) → n < 2 ^ w → w ≤ k → bit n k ≡ false
bit_past n w k h le = let e = bit_at_above n w k h le in grind (arith, nat_tests)

pub bit_pow : (t k : ℕ) → bit (2 ^ t) k ≡ (k == t)
bit_pow t k =
    ⊎_elim
    (λ (e : k ≡ t). let one = bit_at-pow_same t in grind (arith, nat_tests))
    (λ ne. let none = bit_at-pow_other t k ne in grind (arith, nat_tests))
    (cases_eq k t)

-- the mask that lacks one digit, at each of its eight
pub bit_mask : (t k : ℕ) → t < 8 → k < 8 → bit (255 - 2 ^ t) k ≡ not (k == t)
bit_mask t k ht hk =
    agree_below_at (λ j. bit (255 - 2 ^ t) j) (λ j. not (j == t)) 8 k
    (agree_below_at (λ s. agree_below (λ j. bit (255 - 2 ^ s) j) (λ j. not (j == s)) 8) (λ s. true) 8 t refl ht) hk

-- t is the lowest of the k bits of n that is set
pub record LowestBit (k n t : ℕ) : Type 0 where
  pub within : t < k
  pub there : bit n t ≡ true
  pub lower : (j : ℕ) → j < t → bit n j ≡ false

-- found by halving: it is bit 0 of an odd number, and one further than that of the half of an even one
none_lower : (n t : ℕ) → n % 2 ≡ 0 → ((j : ℕ) → j < t → bit (n / 2) j ≡ false) → (j : ℕ) → j < suc t → bit n j ≡ false
none_lower n t e h zero l = let z = bit_at_lowest n in grind (arith, nat_tests)
none_lower n t e h (suc j) l = let s = bit_at-suc n j in let none = h j (omega arith) in grind (arith, nat_tests)

one_lower : (k n d t : ℕ) → n % 2 ≡ d → (0 < n / 2 → LowestBit k (n / 2) t) → 0 < n → LowestBit (suc k) n (under d t)
one_lower k n zero t e more h =
    let l = more (omega arith) in
    let s = bit_at-suc n t in
    let half = l.there in
    record { within = omega (arith, l.within); there = grind (arith, nat_tests); lower = none_lower n t e l.lower }
one_lower k n (suc d) t e more h =
    let z = bit_at_lowest n in
    record { within = omega arith; there = grind (arith, nat_tests); lower = λ j l. absurd (omega arith) }

pub lowest_bit : (k n : ℕ) → 0 < n → n < 2 ^ k → LowestBit k n (count_trailing_zeros k n)
unfolding count_trailing_zeros
lowest_bit zero n h l = absurd (omega arith)
lowest_bit (suc k) n h l = one_lower k n (n % 2) (count_trailing_zeros k (n / 2)) refl (λ q. lowest_bit k (n / 2) q (omega (arith, pow-suc 2 k))) h
