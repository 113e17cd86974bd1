-- The first 81 bytes of a line, kept byte by byte.
use Rattle.std.proofs.Common.{◌≡◌, ℕ, ◌<◌, List, [], ◌∷◌, ◌++◌, length, take, sym, ◌∙◌, arith, length-append}
use Rattle.std.proofs.lemmas.List.{take_all, take-append-le}

pub room : (kept : List ℕ) (b : ℕ) → length kept < 81 → kept ++ b ∷ [] ≡ take 81 (kept ++ b ∷ [])
room kept b h = sym (take_all 81 (kept ++ b ∷ []) (omega (arith, length-append kept (b ∷ []))))

pub full : (kept : List ℕ) (b : ℕ) → length kept ≡ 81 → kept ≡ take 81 (kept ++ b ∷ [])
full kept b h = sym (take-append-le 81 kept (b ∷ []) (omega arith) ∙ take_all 81 kept (omega arith))
