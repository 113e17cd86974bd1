-- The reader's steps and the texts that they read.
use Rattle.std.proofs.Common.{◌≡◌, ℕ, zero, suc, ◌+◌, ◌-◌, ◌^◌, ◌<◌, Bool, true, false, cond, eqb, List, [], ◌∷◌, ◌++◌, length, set, take, drop, Some, None, codes, decimal, Option, sym, refl, ap, ◌∙◌, subst, append_assoc, arith, take-append-drop, Bor, MatchOption}
use Rattle.std.proofs.lemmas.Slice.Eq.{bytes_eq-Decides, strip_prefix_is}
use Rattle.std.proofs.lemmas.List.{take_at, drop_at}
use Rattle.std.proofs.lemmas.Grind.{take-set_at}
use Rattle.std.proofs.lemmas.Bool.{eq-eqb, eqb-true, and_parts, and_from, or_left}
use Rattle.std.proofs.lemmas.Bool.Decides.{Decides-eqb}
use Rattle.std.specs.Bool.{then_some}
use Rattle.std.specs.Str.{bytes_eq}
use Rattle.std.specs.Option.{option_map}
use Rattle.std.specs.List.{prefix_len, list_all, AllByRecursion}
use lib.Pointwise.{pointwise}
use Rattle.bracket.specs.Characters.{digit, letter, in_run, run_of, past_run, number_of}
use Rattle.bracket.specs.Items.{and_then, after, number_item, number_items}
use Rattle.bracket.specs.Texts.{item}
use Rattle.bracket.proofs.Decimal.{number_is, number_decimal, decimal_digits}

abbrev pub Small : ℕ → Type 0
Small n = n < 10 ^ 16

-- `after` finds just the texts that begin so
pub after_text : (text rest : List ℕ) → after text (text ++ rest) ≡ Some rest
after_text [] rest = refl
after_text (t ∷ text) rest = ap (λ b. cond b (after text (text ++ rest)) None) (eq-eqb t t refl) ∙ after_text text rest

after_head : (t b : ℕ) (text bytes rest : List ℕ) (same : Bool) → eqb b t ≡ same → (after text bytes ≡ Some rest → bytes ≡ text ++ rest) → cond same (after text bytes) None ≡ Some rest → b ∷ bytes ≡ t ∷ (text ++ rest)
after_head t b text bytes rest true e ih h = let p = eqb-true b t e in let q = ih h in cc
after_head t b text bytes rest false e ih h = cc

pub after_is : (text bytes rest : List ℕ) → after text bytes ≡ Some rest → bytes ≡ text ++ rest
after_is [] bytes rest h = cc
after_is (t ∷ text) [] rest h = cc
after_is (t ∷ text) (b ∷ bytes) rest h = after_head t b text bytes rest (eqb b t) refl (after_is text bytes rest) h

nothing : (text bytes : List ℕ) (r : Option (List ℕ)) → after text bytes ≡ r → ((rest : List ℕ) → bytes ≡ text ++ rest → ⊥) → None ≡ r
nothing text bytes None e h = refl
nothing text bytes (Some rest) e h = absurd (h rest (after_is text bytes rest e))

-- the answer of `strip_prefix`, from what a prefix means
pub by_cases : (bytes text : List ℕ) (r : Option (Bor (List ℕ))) → MatchOption r ((rest : List ℕ) → bytes ≡ text ++ rest → ⊥) (λ x. bytes ≡ text ++ x.now) → option_map (λ x. x.now) r ≡ after text bytes
by_cases bytes text None h = nothing text bytes (after text bytes) refl h
by_cases bytes text (Some x) h = sym (ap (after text) h ∙ after_text text x.now)

-- and from what its contract says
pub stripped : (bytes text : List ℕ) (r : Option (Bor (List ℕ)))
    → MatchOption r (pointwise eqb (take (length text) bytes) text ≡ false) (λ x. (pointwise eqb (take (length text) bytes) text ≡ true) × (x.now ≡ drop (length text) bytes) × (length x.now + length text ≡ length bytes)) → option_map (λ x. x.now) r ≡ after text bytes
stripped bytes text r h = by_cases bytes text r (strip_prefix_is Decides-eqb bytes text r h)

-- what led to the value of a chain of steps
pub record Led {A B : Type 0} (o : Option A) (f : A → Option B) (y : B) : Type 0 where
  pub value : A
  pub found : o ≡ Some value
  pub gives : f value ≡ Some y

pub and_then_lem : {A B : Type 0} (o : Option A) (f : A → Option B) (y : B) → and_then o f ≡ Some y → Led o f y
and_then_lem None f y h = cc
and_then_lem (Some x) f y h = record { value = x; found = refl; gives = h }

pub taken : {A : Type 0} (b : Bool) (x y : A) → then_some b x ≡ Some y → (b ≡ true) × (x ≡ y)
taken true x y h = (refl, cc)
taken false x y h = cc

-- a run that ends where the rest does not go on with a letter or digit
length_run : (run rest : List ℕ) → list_all in_run run ≡ true → prefix_len in_run rest ≡ 0 → prefix_len in_run (run ++ rest) ≡ length run
length_run [] rest e h = h
length_run (b ∷ run) rest e h =
    let p = and_parts (in_run b) (list_all in_run run) e in
    let k = length_run run rest p.1 h in
    ap (λ t. cond t (1 + prefix_len in_run (run ++ rest)) 0) p.0 ∙ (let g : 1 + prefix_len in_run (run ++ rest) ≡ suc (length run) = omega arith in g)

pub run_front : (run rest : List ℕ) → list_all in_run run ≡ true → prefix_len in_run rest ≡ 0 → run_of (run ++ rest) ≡ run
run_front run rest e h = take_at run rest _ (sym (length_run run rest e h))

pub run_rest : (run rest : List ℕ) → list_all in_run run ≡ true → prefix_len in_run rest ≡ 0 → past_run (run ++ rest) ≡ rest
run_rest run rest e h = drop_at run rest _ (sym (length_run run rest e h))

pub all_in_run : (test : ℕ → Bool) → ((b : ℕ) → test b ≡ true → in_run b ≡ true) → (run : List ℕ) → list_all test run ≡ true → list_all in_run run ≡ true
all_in_run test is [] e = refl
all_in_run test is (b ∷ run) e = let p = and_parts (test b) (list_all test run) e in and_from (in_run b) (list_all in_run run) (is b p.0) (all_in_run test is run p.1)

pub decimal_run : (n : ℕ) → Small n → list_all in_run (decimal n) ≡ true
decimal_run n h = all_in_run digit (λ b d. or_left (digit b) (letter b) d) (decimal n) (decimal_digits n h)

-- number items: what is read is what is written, and what is written is read
pub number_item_is : (bytes : List ℕ) (x : ℕ × List ℕ) → number_item bytes ≡ Some x → (bytes ≡ item x.0 ++ x.1) × Small x.0
number_item_is bytes x h =
    let p = and_then_lem (after (codes " ") bytes) _ x h in
    let q = and_then_lem (number_of (run_of p.value)) _ x p.gives in
    let d = number_is (run_of p.value) q.value q.found in
    let same : (q.value, past_run p.value) ≡ x = cc in (
      after_is (codes " ") bytes p.value p.found ∙ ap (λ r. 32 ∷ r) (sym (take-append-drop (prefix_len in_run p.value) p.value) ∙ ap (λ r. r ++ past_run p.value) d.0) ∙ ap (λ y. item y.0 ++ y.1) same,
      subst (λ y. Small y.0) same d.1,
    )

pub number_item_reads : (n : ℕ) (rest : List ℕ) → Small n → prefix_len in_run rest ≡ 0 → number_item (item n ++ rest) ≡ Some (n, rest)
number_item_reads n rest h stops =
    ap (λ r. and_then (number_of r) (λ m. Some (m, past_run (decimal n ++ rest)))) (run_front (decimal n) rest (decimal_run n h) stops)
    ∙ ap (λ o. and_then o (λ m. Some (m, past_run (decimal n ++ rest)))) (number_decimal n h) ∙ ap (λ r. Some (n, r)) (run_rest (decimal n) rest (decimal_run n h) stops)

pub same_text : (bytes text : List ℕ) → bytes_eq bytes text ≡ true → bytes ≡ text
same_text bytes text h = (bytes_eq-Decides bytes text).0 h

-- number items side by side, up to what ends the line
abbrev pub items : List ℕ → List ℕ → List ℕ
items [] end = end
items (n ∷ ns) end = item n ++ items ns end

pub numbers_are : (n : ℕ) (end bytes ns : List ℕ) → number_items n end bytes ≡ Some ns → (bytes ≡ items ns end) × AllByRecursion Small ns × (length ns ≡ n)
unfolding number_items
numbers_are zero end bytes ns h =
    let t = taken (bytes_eq bytes end) [] ns h in
    subst (λ m. (bytes ≡ items m end) × AllByRecursion Small m × (length m ≡ 0)) t.1 (same_text bytes end t.0, tt, refl)
numbers_are (suc n) end bytes ns h =
    let p = and_then_lem (number_item bytes) _ ns h in
    let a = number_item_is bytes p.value p.found in
    let q = and_then_lem (number_items n end p.value.1) _ ns p.gives in
    let b = numbers_are n end p.value.1 q.value q.found in
    let same : p.value.0 ∷ q.value ≡ ns = cc in
    subst (λ m. (bytes ≡ items m end) × AllByRecursion Small m × (length m ≡ suc n)) same (a.0 ∙ ap (λ r. item p.value.0 ++ r) b.0, (a.1, b.1), ap suc b.2)

pub items_stop : (ns end : List ℕ) → prefix_len in_run end ≡ 0 → prefix_len in_run (items ns end) ≡ 0
items_stop [] end h = h
items_stop (n ∷ ns) end h = refl

pub numbers_read : (ns end : List ℕ) → AllByRecursion Small ns → prefix_len in_run end ≡ 0 → number_items (length ns) end (items ns end) ≡ Some ns
unfolding number_items
numbers_read [] end s stops = ap (λ b. then_some b []) ((bytes_eq-Decides end end).1 refl)
numbers_read (n ∷ ns) end s stops =
    ap (λ o. and_then o (λ a. and_then (number_items (length ns) end a.1) (λ b. Some (a.0 ∷ b)))) (number_item_reads n (items ns end) s.0 (items_stop ns end stops)) ∙ ap (λ o. and_then o (λ b. Some (n ∷ b))) (numbers_read ns end s.1 stops)

-- one more number item, in a loop that writes each number to its place
joined : (o : Option (List ℕ)) (done : List ℕ) (v : ℕ) → and_then (and_then o (λ b. Some (v ∷ b))) (λ b. Some (done ++ b)) ≡ and_then o (λ b. Some ((done ++ v ∷ []) ++ b))
joined None done v = refl
joined (Some b) done v = ap Some (sym (append_assoc done (v ∷ []) b))

one_more : (n : ℕ) (end bytes done : List ℕ) (v : ℕ) (rest : List ℕ) → number_item bytes ≡ Some (v, rest)
    → and_then (number_items (suc n) end bytes) (λ b. Some (done ++ b)) ≡ and_then (number_items n end rest) (λ b. Some ((done ++ v ∷ []) ++ b))
unfolding number_items
one_more n end bytes done v rest h =
    ap (λ o. and_then (and_then o (λ a. and_then (number_items n end a.1) (λ b. Some (a.0 ∷ b)))) (λ b. Some (done ++ b))) h ∙ joined (number_items n end rest) done v

pub number_step : (end values bytes rest : List ℕ) (n i v : ℕ) (whole : Option (List ℕ)) → i < n → length values ≡ n → number_item bytes ≡ Some (v, rest)
    → and_then (number_items (n - i) end bytes) (λ b. Some (take i values ++ b)) ≡ whole → and_then (number_items (n - (i + 1)) end rest) (λ b. Some (take (i + 1) (set values i v) ++ b)) ≡ whole
number_step end values bytes rest n i v whole l s h e =
    let k : n - i ≡ suc (n - (i + 1)) = omega arith in
    let f = subst (λ m. and_then (number_items m end bytes) (λ b. Some (take i values ++ b)) ≡ whole) k e in
    ap (λ t. and_then (number_items (n - (i + 1)) end rest) (λ b. Some (t ++ b))) (take-set_at values i (i + 1) v refl (omega arith)) ∙ sym (one_more (n - (i + 1)) end bytes (take i values) v rest h) ∙ f
