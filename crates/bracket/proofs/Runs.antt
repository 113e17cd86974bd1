-- Runs of characters: one step of a loop over them, and room for one digit more. For proofs over this crate: its own take other ways.
use Rattle.std.proofs.Common.{◌≡◌, ℕ, ◌+◌, ◌-◌, ◌*◌, ◌^◌, ◌<◌, Bool, ◌&&◌, List, length, get_or, drop, sym, ap, ◌∙◌, lt_of_lt_of_le, pow-suc, add-one, arith}
use native.Mathlib.Nat.{pow-le-pow_right}
use Rattle.std.specs.List.{list_all}
use Rattle.std.proofs.lemmas.List.{drop_more}
use Rattle.bracket.specs.Characters.{read_on}

-- one byte of a test over all of them
pub every_step : (test : ℕ → Bool) (bytes : List ℕ) (i : ℕ) (t : Bool) → i < length bytes → t ≡ test (get_or bytes i 0) → list_all test (drop i bytes) ≡ (t && list_all test (drop (i + 1) bytes))
every_step test bytes i t h e = ap (list_all test) (drop_more bytes i 0 h) ∙ ap (λ b. b && list_all test (drop (i + 1) bytes)) (sym e)

pub read_step : (read : ℕ) (bytes : List ℕ) (i : ℕ) → i < length bytes → read_on read (drop i bytes) ≡ read_on (read * 10 + (get_or bytes i 0 - 48)) (drop (i + 1) bytes)
read_step read bytes i h = ap (read_on read) (drop_more bytes i 0 h)

-- the value of less than 16 digits leaves room for one more
pub room : (v i : ℕ) → v < 10 ^ i → i < 16 → v < 1000000000000000
room v i h k = lt_of_lt_of_le h (pow-le-pow_right {n = 10} (omega arith) {i = i} {j = 15} (omega arith))

pub one_more : (v d i : ℕ) → v < 10 ^ i → d < 10 → v * 10 + d < 10 ^ (i + 1)
one_more v d i h k = let e : 10 ^ (i + 1) ≡ 10 ^ i * 10 = ap (λ n. 10 ^ n) (add-one i) ∙ pow-suc 10 i in omega arith
