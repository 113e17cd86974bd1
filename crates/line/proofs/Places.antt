-- Where a record is inserted, what a copy within the memory leaves, and that both changes keep the order.
use Rattle.std.proofs.Common.{◌≡◌, ℕ, zero, suc, ◌+◌, ◌-◌, ◌<◌, ◌≤◌, Bool, true, false, cond, List, [], ◌∷◌, ◌++◌, length, get_or, take, drop, set, refl, ap, ◌∙◌, arith, append_assoc, add-one}
use Rattle.std.specs.List.{insert, remove, between, copy_within}
use Rattle.std.proofs.lemmas.List.{length-take-le, take_more, take-take, set_at}
use Rattle.std.proofs.lemmas.Slice.{between_is}
use Rattle.std.proofs.lemmas.Grind.{common_steps}
use Rattle.line.specs.Order.{behind, insertion, sorted}

-- a copy one place up within the first h elements makes room for a record
pub set-copied_up : {X : Type 0} (xs : List X) (at h : ℕ) (r : X) → at ≤ h → h < length xs → set (copy_within xs at h (at + 1)) at r ≡ insert (take h xs) at r ++ drop (h + 1) xs
set-copied_up xs at h r low room =
    let past : at + 1 + (h - at) ≡ h + 1 = omega arith in
    let more : take (at + 1) xs ≡ take at xs ++ get_or xs at r ∷ [] = take_more xs at r (omega arith) in
    let size : length (take at xs) ≡ at = length-take-le at xs (omega arith) in
    let front : take at (take h xs) ≡ take at xs = take-take at h xs low in
    let back : between at h xs ≡ drop at (take h xs) = between_is xs at h in
    let opened : copy_within xs at h (at + 1) ≡ take at xs ++ get_or xs at r ∷ (drop at (take h xs) ++ drop (h + 1) xs) = simp (past, more, back, append_assoc) in
    ap (λ ys. set ys at r) opened ∙ set_at (take at xs) _ _ r at size ∙ simp (front, append_assoc)

-- a copy one place down within them closes the place of a record
pub copied_down : {X : Type 0} (xs : List X) (at h : ℕ) → at < h → copy_within xs (at + 1) h at ≡ remove (take h xs) at ++ drop (h - 1) xs
copied_down xs at h within =
    let front : take at (take h xs) ≡ take at xs = take-take at h xs (omega arith) in
    let back : between (at + 1) h xs ≡ drop (at + 1) (take h xs) = between_is xs (at + 1) h in
    let past : at + (h - (at + 1)) ≡ h - 1 = omega arith in
    simp (past, back, front) (simp add-one)

module _ {X : Type 0} (le : X → X → Bool) where
  pub insertion_is : (r : X) (xs : List X) → insertion le r xs ≡ insert xs (behind le r xs) r
  insertion_is r [] = refl
  insertion_is r (x ∷ xs) =
      let one : 1 + behind le r xs ≡ suc (behind le r xs) = omega arith in
      elim (le x r) as (λ b. cond b (x ∷ insertion le r xs) (r ∷ x ∷ xs) ≡ insert (x ∷ xs) (cond b (1 + behind le r xs) 0) r) [ true ↦ rw one (ap (λ l. x ∷ l) (insertion_is r xs)) | false ↦ refl ]

  pub sorted_insertion : ((x y : X) → le x y ≡ false → le y x ≡ true) → (r : X) (xs : List X) → sorted le xs ≡ true → sorted le (insertion le r xs) ≡ true
  sorted_insertion total r [] h = refl
  sorted_insertion total r (x ∷ []) h = grind (arith, total)
  sorted_insertion total r (x ∷ y ∷ ys) h = grind (arith, total, sorted_insertion total r (y ∷ ys))

  pub sorted_removed : ((x y z : X) → le x y ≡ true → le y z ≡ true → le x z ≡ true) → (xs : List X) (i : ℕ) → sorted le xs ≡ true → sorted le (remove xs i) ≡ true
  sorted_removed transitive [] i h = grind (arith, common_steps)
  sorted_removed transitive (x ∷ []) i h = grind (arith, common_steps)
  sorted_removed transitive (x ∷ y ∷ ys) zero h = grind arith
  sorted_removed transitive (x ∷ y ∷ []) (suc zero) h = refl
  sorted_removed transitive (x ∷ y ∷ z ∷ zs) (suc zero) h = grind (arith, transitive x y z)
  sorted_removed transitive (x ∷ y ∷ ys) (suc (suc i)) h = grind (arith, sorted_removed transitive (y ∷ ys) (suc i))
