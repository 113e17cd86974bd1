-- Boards on which no job is pending.
use Rattle.std.proofs.Common.{◌≡◌, ℕ, ◌<◌, Bool, true, false, Some, None, MatchBool, Decides, Option, [], ◌∷◌, length, get_or, not, sym, subst, refl, ap, ◌∙◌, arith}
use Rattle.std.specs.List.{range_with_len, HoldsAt, AllWithin}
use Rattle.std.proofs.lemmas.List.FromFn.{length-range_with_len, get_or-range_with_len}
use mathlib.Core.Path.{fun_ext}
use Rattle.std.proofs.lemmas.Bool.{false_from_ne_true, true≢false, false≢true}
use Rattle.std.proofs.lemmas.Bool.Decides.{Decides-below_or, Decides-like, Decides-not, not_from_Decides, same_from_decides}
use Rattle.refusals.specs.Causes.{first_cause, some, outside}
use Rattle.refusals.specs.declared.Refusal.TheVariants.{ReachRange, BoardNotEmpty}
use Rattle.boards.specs.Boards.{Meaning, Lawful, Among, HasJob, Empty, occupied, reach_refusal, empty_board}

-- ---- the test

some_decides : (test : ℕ → Bool) (n : ℕ) → Decides (some test n) ((k : ℕ) × (k < n) × (test k ≡ true))
some_decides test n = Decides-below_or test (λ k. test k ≡ true) (some test) (λ k. (λ h. h, λ h. h)) refl (λ _. refl) n

-- what `any` answers, asked of the numbers below n
pub any_below : (P : ℕ → Type 0) (n : ℕ) (any : Bool) → let below = range_with_len 0 n in MatchBool any ((k : ℕ) × (k < length below) × HoldsAt P below k) (AllWithin (λ k. P k → ⊥) below 0 (length below)) → ((k : ℕ) → P k → k < n) → Decides any ((k : ℕ) × P k)
any_below P n true h inside = (λ e. (_, h.2 0), λ _. refl)
any_below P n false h inside = (
  λ e. absurd (false≢true e),
  λ w.
      let lt = inside w.0 w.1 in
      let here : get_or (range_with_len 0 n) w.0 0 ≡ w.0 = omega (arith, get_or-range_with_len 0 n w.0 0 lt) in
      absurd (h w.0 0 (omega arith) (omega (arith, length-range_with_len 0 n)) (subst P (sym here) w.1)),
)

module _ (m : Meaning) (lawful : Lawful m) where
  pub occupied_decides : Decides (occupied m.pending) ((c : ℕ) × HasJob m c)
  unfolding occupied
  occupied_decides = (
    λ h. let at = (some_decides (λ d. some (m.pending d) 8) 8).0 h in let job = (some_decides (m.pending at.0) 8).0 at.2 in (at.0, (job.0, job.2)),
    λ (c, job).
        let inside = lawful.inside c job.0 job.1 in
        let eight = lawful.eight in
        (some_decides (λ d. some (m.pending d) 8) 8).1 (c, omega arith, (some_decides (m.pending c) 8).1 (job.0, inside.1, job.1)),
  )

  pub empty_from : occupied m.pending ≡ false → Empty m
  empty_from h c t = false_from_ne_true _ (λ e. not_from_Decides _ occupied_decides h (c, (t, e)))

  -- a question to each component below the reach tells whether the board is empty
  pub empty_tests : (any : Bool) → Decides any ((c : ℕ) × HasJob m c) → (not any ≡ not (occupied m.pending)) × Decides (not any) (Empty m)
  empty_tests any h = (
    ap not (same_from_decides any _ h occupied_decides),
    Decides-like _ (λ none c t. false_from_ne_true _ (λ e. none (c, (t, e)))) (λ none w. true≢false (sym w.1.1 ∙ none w.0 w.1.0)) (Decides-not any h),
  )

-- ---- the board that it is

none_picked : (set : ℕ → Bool) (pick : Option ℕ) → Among set pick → ((t : ℕ) → set t ≡ false) → pick ≡ None
none_picked set None among none = refl
none_picked set (Some t) among none = let e = none t in cc

pub empty_is : (m : Meaning) → ((c : ℕ) → Among (m.pending c) (m.picked c)) → Empty m → m ≡ empty_board m.reach
empty_is m among none =
    let jobs : m.pending ≡ (λ c t. false) = fun_ext (λ c. fun_ext (λ t. none c t)) in
    let picks : m.picked ≡ (λ c. None) = fun_ext (λ c. none_picked (m.pending c) (m.picked c) (among c) (none c)) in
    λ i. record { reach = m.reach; pending = jobs i; picked = picks i }

none_occupied : occupied (λ c t. false) ≡ false
unfolding occupied
none_occupied = refl

-- only a reach out of range is refused there
pub new_refusal : (m : Meaning) (k n : ℕ) → m ≡ empty_board k → reach_refusal m n ≡ first_cause ((outside 1 8 n, ReachRange) ∷ [])
new_refusal m k n e =
    ap (λ x. reach_refusal x n) e
    ∙ ap (λ b. first_cause ((outside 1 8 n, ReachRange) ∷ (b, BoardNotEmpty) ∷ [])) none_occupied
