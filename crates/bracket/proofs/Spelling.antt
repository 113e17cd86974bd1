-- A word that has the length and the letters of a text is that text.
use Rattle.std.proofs.Common.{◌≡◌, ℕ, suc, List, [], ◌∷◌, length, get_or, refl, sym, subst, arith}

abbrev pub Letters : List ℕ → ℕ → List ℕ → Type 0
Letters word k [] = Unit {0}
Letters word k (t ∷ text) = (get_or word k 0 ≡ t) × Letters word (suc k) text

shifted : (b : ℕ) (word : List ℕ) (k : ℕ) (text : List ℕ) → Letters (b ∷ word) (suc k) text → Letters word k text
shifted b word k [] h = tt
shifted b word k (t ∷ text) h = (h.0, shifted b word (suc k) text h.1)

same : (word text : List ℕ) → length word ≡ length text → Letters word 0 text → word ≡ text
same [] [] l h = refl
same [] (t ∷ text) l h = absurd (omega arith)
same (b ∷ word) [] l h = absurd (omega arith)
same (b ∷ word) (t ∷ text) l h = let p = h.0 in let q = same word text (omega arith) (shifted b word 0 text h.1) in cc

-- what is made of a word, where the word is this text
pub spelt : {A : Type 0} (text word : List ℕ) (f : List ℕ → A) (r : A) → length word ≡ length text → Letters word 0 text → r ≡ f text → r ≡ f word
spelt text word f r l h e = subst (λ w. r ≡ f w) (sym (same word text l h)) e
