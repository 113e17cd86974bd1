-- What `add` and `take` leave of a line l, its memory m and its records rs: a line l' and its memory m'.
use Rattle.std.proofs.Common.{◌≡◌, ℕ, ◌+◌, ◌-◌, ◌<◌, ◌≤◌, Bool, true, false, List, ◌++◌, length, take, drop, set, Some, sym, ap, ◌∙◌, arith}
use Rattle.std.specs.List.{insert, remove, copy_within, slice_get}
use Rattle.std.proofs.lemmas.List.{take_at, drop_at, length-take, length-take-le, take_min}
use Rattle.std.proofs.lemmas.List.Edits.{length-insert, length-remove}
use Rattle.std.proofs.lemmas.List.Sums.{prefix_len-le-length}
use Rattle.std.proofs.lemmas.Option.{slice_get_within}
use Rattle.line.specs.declared.kept.Line.{Line}
use Rattle.line.specs.Order.{behind, insertion, sorted}
use Rattle.line.specs.Lines.{records_of, Added, Taken}
use Rattle.line.proofs.Places.{set-copied_up, copied_down, insertion_is, sorted_insertion, sorted_removed}

module _ {X : Type 0} (le : X → X → Bool) (l l' : Line) (m m' rs : List X) (here : rs ≡ records_of l m) (at : ℕ) (x : X) where
  pub added : ((x y : X) → le x y ≡ false → le y x ≡ true) → at ≡ behind le x rs → l.held < length m → (copied : List X) → copied ≡ copy_within m at l.held (at + 1) → m' ≡ set copied at x → l'.held ≡ l.held + 1 → Added le x l m l' m'
  added total place room copied is put more =
      let h = l.held in
      let fit : length rs ≡ h = ap length here ∙ length-take-le h m (omega arith) in
      let low : at ≤ length rs = omega (arith, prefix_len-le-length (λ y. le y x) rs) in
      let inserted : insert rs at x ≡ insertion le x rs = sym (insertion_is le x rs ∙ ap (λ k. insert rs k x) (sym place)) in
      let size : length (insertion le x rs) ≡ l'.held = ap length (sym inserted) ∙ omega (arith, length-insert rs at x low) in
      let memory : m' ≡ insertion le x rs ++ drop l'.held m = put ∙ ap (λ ys. set ys at x) is ∙ set-copied_up m at h x (omega arith) room ∙ ap (λ k. insert k at x ++ drop (h + 1) m) (sym here) ∙ simp (inserted, more) in
      let listed : records_of l' m' ≡ insertion le x rs = ap (take l'.held) memory ∙ take_at _ _ l'.held size in
      record {
        held = sym (ap length listed ∙ size);
        listed = listed ∙ ap (insertion le x) here;
        rest = ap (drop l'.held) memory ∙ drop_at _ _ l'.held size;
        in_order = λ o. ap (sorted le) listed ∙ sorted_insertion le total x rs (ap (sorted le) here ∙ o);
      }

  pub taken : ((x y z : X) → le x y ≡ true → le y z ≡ true → le x z ≡ true) → slice_get (records_of l m) at ≡ Some x → m' ≡ copy_within m (at + 1) (length rs) at → l'.held ≡ length rs - 1 → Taken le at x l m l' m'
  taken transitive found is less =
      let whole : take (length rs) m ≡ rs = ap (λ k. take k m) (ap length here ∙ length-take l.held m) ∙ take_min l.held m ∙ sym here in
      let within : at < length rs = slice_get_within rs at x (ap (λ k. slice_get k at) here ∙ found) in
      let size : length (remove rs at) ≡ l'.held = omega (arith, length-remove rs at within) in
      let memory : m' ≡ remove rs at ++ drop l'.held m = is ∙ copied_down m at (length rs) within ∙ simp (whole, less) in
      let listed : records_of l' m' ≡ remove rs at = ap (take l'.held) memory ∙ take_at _ _ l'.held size in
      record {
        found = found;
        held = sym (ap length listed ∙ size);
        listed = listed ∙ ap (λ k. remove k at) here;
        rest = ap (drop l'.held) memory ∙ drop_at _ _ l'.held size;
        in_order = λ o. ap (sorted le) listed ∙ sorted_removed le transitive rs at (ap (sorted le) here ∙ o);
      }
