-- A line reads as one thing only.
use Rattle.std.proofs.Common.{◌≡◌, ℕ, List, length, take, Some, None, Ok, Err, Option, Result, sym, refl, ap, ◌∙◌, subst, ⊎_elim, arith}
use Rattle.std.specs.Option.{ok_or}
use Rattle.std.proofs.lemmas.List.{take_all, length-take-le}
use Rattle.std.proofs.lemmas.Bool.{cases_lt, cases_order}
use Rattle.bracket.specs.declared.commands.Command.{Command}
use Rattle.bracket.specs.declared.faults.WordFault.{WordFault}
use Rattle.bracket.specs.declared.faults.FormFault.{FormFault}
use Rattle.bracket.specs.declared.faults.FormFault.TheVariants.{Word, Unknown}
use Rattle.bracket.specs.declared.faults.LineFault.{LineFault}
use Rattle.bracket.specs.declared.faults.LineFault.TheVariants.{TooLong, Form}
use Rattle.bracket.specs.Faults.{Clean, FirstFault, wrong_at}
use Rattle.bracket.specs.Items.{form_of}
use Rattle.bracket.specs.Reads.{FormReads, Reads, ReadAs}
use Rattle.bracket.specs.Texts.{Writes}
use Rattle.bracket.proofs.Known.{form_is, form_reads}
use Rattle.bracket.proofs.Neat.{text_clean, text_short}

not_both : {A : Type 0} (o : Option A) (x : A) → o ≡ None → o ≡ Some x → ⊥
not_both o x n s = cc

not_clean : (line : List ℕ) (fault : WordFault) → FirstFault line fault → Clean line → ⊥
not_clean line fault f c = not_both _ fault (c f.index f.within) f.here

one_command : (line : List ℕ) (a b : Command) → Writes a line → Writes b line → a ≡ b
one_command line a b h k = let p = form_reads line a h in let q = form_reads line b k in cc

one_fault : (line : List ℕ) (a b : WordFault) → FirstFault line a → FirstFault line b → a ≡ b
one_fault line a b h k =
    ⊎_elim (λ e. let q : wrong_at _ _ line h.index ≡ Some b = ap (wrong_at _ _ line) e ∙ k.here in let p = h.here in cc)
    (⊎_elim (λ l. absurd (not_both _ a (k.before h.index l) h.here)) (λ l. absurd (not_both _ b (h.before k.index l) k.here))) (cases_order h.index k.index)

same_form : (line : List ℕ) (a b : FormFault) → FormReads line (Err a) → FormReads line (Err b) → a ≡ b
same_form line (Word a) (Word b) h k = ap Word (one_fault line a b h k)
same_form line (Word a) Unknown h k = absurd (not_clean line a h k.0)
same_form line Unknown (Word b) h k = absurd (not_clean line b k h.0)
same_form line Unknown Unknown h k = refl

no_fault : (line : List ℕ) (command : Command) (fault : FormFault) → Writes command line → FormReads line (Err fault) → ⊥
no_fault line command (Word fault) h k = not_clean line fault k (text_clean line command h)
no_fault line command Unknown h k = k.1 command h

same : (line : List ℕ) (a b : Result Command LineFault) → Reads line a → Reads line b → a ≡ b
same line (Ok a) (Ok b) h k = ap Ok (one_command line a b h k)
same line (Ok a) (Err TooLong) h k = let s = text_short line a h in absurd (omega arith)
same line (Ok a) (Err (Form f)) h k = absurd (no_fault line a f h k.1)
same line (Err TooLong) (Ok b) h k = let s = text_short line b k in absurd (omega arith)
same line (Err TooLong) (Err TooLong) h k = refl
same line (Err TooLong) (Err (Form f)) h k = absurd (omega arith)
same line (Err (Form f)) (Ok b) h k = absurd (no_fault line b f k h.1)
same line (Err (Form f)) (Err TooLong) h k = absurd (omega arith)
same line (Err (Form f)) (Err (Form g)) h k = ap (λ x. Err (Form x)) (same_form line f g h.1 k.1)

pub read_as : (line : List ℕ) (r : Result Command LineFault) → Reads line r → ReadAs line r
read_as line r h = record { reads = h; only = λ other k. same line other r k h }

-- what the reader makes of a clean line
pub by_form : (line : List ℕ) (o : Option Command) (r : Result Command FormFault) → Clean line → form_of line ≡ o → r ≡ ok_or o Unknown → FormReads line r
by_form line (Some command) r c e f = subst (λ x. FormReads line x) (sym f) (form_is line command e)
by_form line None r c e f = subst (λ x. FormReads line x) (sym f) (c, λ command w. not_both _ command e (form_reads line command w))

-- a reader that keeps only the first 81 bytes of a line reads the line
pub clipped : (line : List ℕ) (r : Result Command LineFault) → ReadAs (take 81 line) r → ReadAs line r
clipped line r h =
    ⊎_elim (λ few. subst (λ l. ReadAs l r) (take_all 81 line (omega arith)) h)
    (λ many. let long = length-take-le 81 line (omega arith) in let is = h.only (Err TooLong) (omega arith) in subst (λ x. ReadAs line x) is (read_as line (Err TooLong) (omega arith)))
    (cases_lt (length line) 82)
