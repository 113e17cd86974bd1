-- Two boards as one keep to what each keeps to, and change as the one changes to which a component belongs.
use Rattle.std.specs.Prelude.{◌≡◌, ℕ, ◌+◌, ◌-◌, ◌<◌, ◌≤◌, min, Bool, true, false, not, ◌&&◌, ◌||◌, refl}
use Rattle.std.proofs.Common.{ap, arith}
use Rattle.std.proofs.lemmas.Bool.Decides.{nat_tests}
use Rattle.boards.specs.Boards.{Meaning, Lawful, Changes, Gains, Loses}
use Rattle.boards.specs.JoinedBoards.{joined}

pub joined_lawful : (a b : Meaning) → Lawful a → Lawful b → Lawful (joined a b)
joined_lawful a b la lb = record {
  eight = omega arith;
  inside = λ c t h. let p = la.inside c t in let q = lb.inside (c - a.reach) t in let e = la.eight in grind (arith, nat_tests);
  among = λ c. let p = la.among c in let q = lb.among (c - a.reach) in grind (arith, nat_tests);
}

-- a change of one job only is such a change of the two boards
module _ (becomes : Bool → Bool → Bool) (others : (b : Bool) → becomes b false ≡ b) (a b : Meaning) (c t : ℕ) where
  first_changes : (a' : Meaning) → c < a.reach → Changes becomes a a' c t → Changes becomes (joined a b) (joined a' b) c t
  first_changes a' lt h = record {
    reach = ap (λ k. min 8 (k + b.reach)) h.reach;
    sets = λ d u. let e = h.sets d u in let f = h.reach in let o = others in grind (arith, nat_tests);
  }

  second_changes : (b' : Meaning) → a.reach ≤ c → c < 8 → Changes becomes b b' (c - a.reach) t → Changes becomes (joined a b) (joined a b') c t
  second_changes b' ge lt h = record {
    reach = ap (λ k. min 8 (a.reach + k)) h.reach;
    sets = λ d u. let e = h.sets (d - a.reach) u in let o = others in grind (arith, nat_tests);
  }

-- what is added or struck is that job alone
pub adding_keeps : (b : Bool) → (b || false) ≡ b
adding_keeps true = refl
adding_keeps false = refl

striking_keeps : (b : Bool) → (b && not false) ≡ b
striking_keeps true = refl
striking_keeps false = refl

module _ (a b : Meaning) (c t : ℕ) where
  pub first_gains : (a' : Meaning) → c < a.reach → Gains a a' c t → Gains (joined a b) (joined a' b) c t
  first_gains = first_changes _ adding_keeps a b c t

  pub first_loses : (a' : Meaning) → c < a.reach → Loses a a' c t → Loses (joined a b) (joined a' b) c t
  first_loses = first_changes _ striking_keeps a b c t

  pub second_gains : (b' : Meaning) → a.reach ≤ c → c < 8 → Gains b b' (c - a.reach) t → Gains (joined a b) (joined a b') c t
  second_gains = second_changes _ adding_keeps a b c t

  pub second_loses : (b' : Meaning) → a.reach ≤ c → c < 8 → Loses b b' (c - a.reach) t → Loses (joined a b) (joined a b') c t
  second_loses = second_changes _ striking_keeps a b c t
