-- Sets of tasks, by their bytes.
use Rattle.std.proofs.Common.{◌≡◌, ℕ, ◌^◌, ◌<◌, ◌&&◌, ◌||◌, ◌==◌, Bool, true, false, List, length, Some, None, Option, replicate, refl, sym, ap, ◌∙◌, ⊎_elim, arith, w8}
use Rattle.std.specs.Prelude.{nat_eq, slice_set}
use Rattle.boards.specs.Boards.{same_job}
use Rattle.boards.specs.Joins.{adding_keeps}
use Rattle.std.proofs.lemmas.Bool.{cases_eq, eq-eqb, ne_eqb, and_left}
use Rattle.std.specs.Int.{trailing_zeros}
use Rattle.std.proofs.lemmas.List.{get_or-replicate, get_or_past, length-replicate, get_or-set_same, get_or-set_other}
use Rattle.std.proofs.lemmas.Nat.Bits.{bit_at-zero, bit_at-trailing_zeros}
use Rattle.std.proofs.lemmas.Bool.Decides.{nat_tests}
use Rattle.fixed.specs.Tasks.{member, no_tasks, set_at, smallest, Smallest}
use Rattle.fixed.specs.Members.{smallest_is}
use Rattle.fixed.specs.declared.tasks.TaskSet.{TaskSet}

-- there is one smallest task
same_smallest : (set : ℕ → Bool) (a b : Option ℕ) → Smallest set a → Smallest set b → a ≡ b
same_smallest set None None p q = refl
same_smallest set None (Some t) p q = let e = p t in cc
same_smallest set (Some s) None p q = let e = q s in cc
same_smallest set (Some s) (Some t) p q = let e = p.1 t in let f = q.1 s in grind arith

module _ (s : TaskSet) where
  is_smallest : (pick : Option ℕ) → Smallest (member s) pick → smallest (member s) ≡ pick
  is_smallest pick h = same_smallest (member s) _ pick (smallest_is s) h

  pub smallest_of_none : ((t : ℕ) → member s t ≡ false) → smallest (member s) ≡ None
  smallest_of_none = is_smallest None

  -- of the byte 0 there is no task, and of any other its lowest bit
  pub none_of_zero : s.bits ≡ 0 → (t : ℕ) → member s t ≡ false
  none_of_zero e t = let zero = bit_at-zero t in grind (arith, nat_tests)

  module _ (some : 0 < s.bits) (byte : s.bits < 2 ^ 8) where
    lowest_smallest : Smallest (member s) (Some (trailing_zeros w8 s.bits))
    lowest_smallest = let low = bit_at-trailing_zeros w8 s.bits some byte in (grind (arith, nat_tests), λ u lt. let e = low.2 u lt in grind (arith, nat_tests))

    pub has_member : (t : ℕ) × (member s t ≡ true)
    has_member = (trailing_zeros w8 s.bits, lowest_smallest.0)

    pub smallest_of_some : smallest (member s) ≡ Some (trailing_zeros w8 s.bits)
    smallest_of_some = is_smallest _ lowest_smallest

-- a table of empty sets has no task for any component
pub none_anywhere : (n : ℕ) (s : TaskSet) → s ≡ no_tasks → (c t : ℕ) → member (set_at (replicate n s) c) t ≡ false
none_anywhere n s e c t =
    let inside = get_or-replicate n c s no_tasks in
    let past = get_or_past (replicate n s) c no_tasks in
    let long = length-replicate n s in
    let here : set_at (replicate n s) c ≡ no_tasks = grind arith in
    none_of_zero (set_at (replicate n s) c) (ap (λ x. x.bits) here) t

-- the table with one task more in one set
pub set_gains : (sets : List TaskSet) (c t : ℕ) (s : TaskSet) → c < length sets → ((u : ℕ) → member s u ≡ (member (set_at sets c) u || u == t)) → (d u : ℕ) → member (set_at (slice_set sets c s) d) u ≡ (member (set_at sets d) u || same_job c t d u)
set_gains sets c t s lt gained d u =
    ⊎_elim
    (λ (e : d ≡ c).
    let here : set_at (slice_set sets c s) d ≡ s = ap (set_at (slice_set sets c s)) e ∙ get_or-set_same sets c s no_tasks lt in
    let this : same_job c t d u ≡ nat_eq u t = ap (λ b. b && u == t) (eq-eqb d c e) in
    ap (λ x. member x u) here ∙ gained u ∙ sym (ap (λ k. member (set_at sets k) u || same_job c t d u) e ∙ ap (λ b. member (set_at sets c) u || b) this))
    (λ ne.
    let there : set_at (slice_set sets c s) d ≡ set_at sets d = get_or-set_other sets c d s no_tasks ne in
    let other : same_job c t d u ≡ false = and_left _ _ (ne_eqb d c ne) in
    ap (λ x. member x u) there ∙ sym (ap (λ b. member (set_at sets d) u || b) other ∙ adding_keeps (member (set_at sets d) u)))
    (cases_eq d c)
