-- What a plan keeps true, after an accepted call adds a component to it or changes one.
use Rattle.std.proofs.Common.{◌≡◌, ℕ, ◌<◌, ◌≤◌, false, eqb, List, [], ◌∷◌, ◌++◌, length, get_or, set, Some, None, Ok, Err, Option, Result, refl, sym, ap, subst, ◌∙◌, length-set, arith}
use Rattle.std.specs.List.{All, list_any}
use Rattle.std.specs.Option.{ForSome}
use Rattle.std.proofs.lemmas.List.Elements.{All-push, All-set, All-replicate}
use Rattle.std.proofs.lemmas.List.Quantifiers.{all_pairs_push}
use Rattle.std.proofs.lemmas.List.Folds.{list_any_at}
use Rattle.std.proofs.lemmas.Bool.Decides.{nat_tests}
use Rattle.std.proofs.lemmas.Grind.{common_steps, elements}
use Rattle.arrayvec.specs.ArrayVec.{ArrayVec, with_items}
use Rattle.arrayvec.proofs.ArrayVecLemmas.{items-with_items}
use Rattle.refusals.specs.declared.Refusal.{Refusal}
use Rattle.refusals.specs.Causes.{answered, unless_refused}
use Rattle.controller.specs.declared.component.Component.{Component}
use Rattle.controller.specs.declared.plan.Plan.{Plan}
use Rattle.controller.specs.Rules.{fresh, with_task, with_use, tasks_of, Within, InRange, InTime, Distinct, IsSound}
use Rattle.controller.specs.Draft.{component_refusal, task_refusal, use_refusal}

-- all that a plan keeps true of its components, as its ghost field has it
pub plan_sound : (p : Plan) → IsSound p.components.items
plan_sound p = p.sound

-- no cause for a refusal holds
abbrev pub Accepted : Option Refusal → Type 0
Accepted cause = ◌≡◌ {A = Result (Unit {0}) Refusal} (Ok tt) (answered cause tt)

-- a component that gets a task or a use is declared, and there is such a resource
pub task_known : (cs : List Component) (i deadline : ℕ) → Accepted (task_refusal cs i deadline) → i < length cs
task_known cs i deadline accepted = grind (arith, nat_tests)

pub use_known : (cs : List Component) (i resource access : ℕ) → Accepted (use_refusal cs i resource access) → (i < length cs) × (resource < 16)
use_known cs i resource access accepted = (grind (arith, nat_tests), grind (arith, nat_tests))

-- what a plan keeps true of a longest access, by the budget of its component
abbrev NotEmpty : Option ℕ → Type 0
NotEmpty access = ForSome access (λ x. 1 ≤ x)

abbrev NotLonger : ℕ → Option ℕ → Type 0
NotLonger budget access = ForSome access (λ x. x ≤ budget)

abbrev NoneEmpty : Component → Type 0
NoneEmpty c = All NotEmpty c.accesses

abbrev NoneLonger : Component → Type 0
NoneLonger c = All (NotLonger c.budget) c.accesses

-- a component may be added whose level no other has
distinct_push : (cs : List Component) (c : Component) → list_any (λ b. eqb b.level c.level) cs ≡ false → Distinct cs → Distinct (cs ++ c ∷ [])
distinct_push cs c free h =
    all_pairs_push (λ a b. a.level ≡ b.level → ⊥) cs c h (λ k d l e. grind (arith, common_steps, nat_tests, list_any_at (λ b. eqb b.level c.level) cs k d))

-- a component may be put in place of another that has its level
distinct_set : (cs : List Component) (i : ℕ) (c old : Component) → i < length cs → c.level ≡ (get_or cs i old).level → Distinct cs → Distinct (set cs i c)
distinct_set cs i c old l same h j k d m n e = h j k d m (omega (arith, length-set {A = Component})) (sym (level j) ∙ (e ∙ level k))
  where
    level : (n : ℕ) → (get_or (set cs i c) n d).level ≡ (get_or cs n d).level
    level n = grind (arith, elements)

pub sound_component : (cs : List Component) (level budget period : ℕ) → Accepted (component_refusal cs level budget period) → IsSound cs → IsSound (cs ++ fresh level budget period ∷ [])
sound_component cs level budget period accepted h =
    let new = fresh level budget period in
    let room : length cs < 8 = grind (arith, nat_tests) in
    let free : list_any (λ c. eqb c.level level) cs ≡ false = grind (arith, nat_tests) in
    let range : InRange new = grind (arith, nat_tests) in
    record {
      few = grind (arith, common_steps);
      ranges = All-push InRange cs new h.ranges range;
      distinct = distinct_push cs new free h.distinct;
      deadlines = All-push InTime cs new h.deadlines (λ k d m. absurd (omega arith));
      accesses = All-push NoneEmpty cs new h.accesses (All-replicate NotEmpty 16 _ (λ x e. absurd (cc)));
      affordable = All-push NoneLonger cs new h.affordable (All-replicate (NotLonger budget) 16 _ (λ x e. absurd (cc)));
    }

-- a component may be put in place of another that has its level, where what a plan keeps true of each is true of it
sound_set : (cs : List Component) (i : ℕ) (old c : Component) → i < length cs → c.level ≡ (get_or cs i old).level → InRange c → InTime c → NoneEmpty c → NoneLonger c → IsSound cs → IsSound (set cs i c)
sound_set cs i old c l same range in_time none_empty none_longer h = record {
  few = omega (arith, length-set {A = Component});
  ranges = All-set InRange cs i c range h.ranges;
  distinct = distinct_set cs i c old l same h.distinct;
  deadlines = All-set InTime cs i c in_time h.deadlines;
  accesses = All-set NoneEmpty cs i c none_empty h.accesses;
  affordable = All-set NoneLonger cs i c none_longer h.affordable;
}

pub sound_task : (cs : List Component) (i deadline : ℕ) (old : Component) → Accepted (task_refusal cs i deadline) → IsSound cs → IsSound (set cs i (with_task (get_or cs i old) deadline))
sound_task cs i deadline old accepted h =
    let l = task_known cs i deadline accepted in
    let was = get_or cs i old in
    let new = with_task was deadline in
    let ranges = h.ranges i old l in
    let room : tasks_of was < 8 = grind (arith, nat_tests, elements) in
    let range : InRange new = (ranges.0, ranges.1, ranges.2, grind (arith, common_steps)) in
    let in_time = All-push (Within 1 1000000) was.deadlines.items deadline (h.deadlines i old l) (grind (arith, nat_tests)) in
    sound_set cs i old new l refl range in_time (h.accesses i old l) (h.affordable i old l) h

pub sound_use : (cs : List Component) (i resource access : ℕ) (old : Component) → Accepted (use_refusal cs i resource access) → IsSound cs → IsSound (set cs i (with_use (get_or cs i old) resource access))
sound_use cs i resource access old accepted h =
    let l = (use_known cs i resource access accepted).0 in
    let was = get_or cs i old in
    let new = with_use was resource access in
    let within : Within 1 was.budget access = grind (arith, nat_tests, elements) in
    let none_empty = All-set NotEmpty was.accesses resource (Some access) (λ x e. let same : access ≡ x = cc in omega arith) (h.accesses i old l) in
    let none_longer = All-set (NotLonger was.budget) was.accesses resource (Some access) (λ x e. let same : access ≡ x = cc in omega arith) (h.affordable i old l) in
    sound_set cs i old new l refl (h.ranges i old l) (h.deadlines i old l) none_empty none_longer h

-- a component that was changed through the slice of all of them stands in its place
pub written : (v : ArrayVec Component) (now : List Component) (i : ℕ) (new c : Component) → now ≡ v.items → new ≡ c → IsSound (set v.items i c) → IsSound (with_items v (set now i new)).items
written v now i new c a e h =
    subst IsSound (sym (items-with_items v (set now i new) (ap length (ap (λ xs. set xs i new) a) ∙ length-set v.items i new) ∙ (ap (λ xs. set xs i new) a ∙ ap (set v.items i) e))) h

-- a refused call leaves all as it was
pub unchanged : {X : Type 0} (o : Option Refusal) (cause : Refusal) (new old : X) → ◌≡◌ {A = Result (Unit {0}) Refusal} (Err cause) (answered o tt) → old ≡ unless_refused o new old
unchanged None cause new old e = absurd (cc)
unchanged (Some first) cause new old e = refl
