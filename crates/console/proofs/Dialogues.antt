-- A session, byte by byte.
use Rattle.std.proofs.Common.{◌≡◌, ℕ, ◌+◌, ◌<◌, ◌≤◌, List, [], ◌∷◌, ◌++◌, length, get_or, take, sym, refl, ap, ◌∙◌, subst, ⊎_elim, append_assoc, append-nil, arith}
use Rattle.std.proofs.lemmas.List.Elements.{All-nil, All-push}
use Rattle.std.proofs.lemmas.List.{take_all, take-append-le, take_more, length-take-le, flat_map_more}
use Rattle.std.proofs.lemmas.Bool.{cases_lt}
use Rattle.std.specs.List.{flat_map}
use Rattle.bracket.proofs.Determined.{clipped}
use Rattle.bracket.specs.Reads.{ReadAs}
use Rattle.console.specs.declared.answers.Answer.{Answer}
use Rattle.console.specs.declared.report.Report.{Report}
use Rattle.console.specs.declared.session.Session.{Session}
use Rattle.console.specs.Answering.{State, fresh_state, state_of, Answered}
use Rattle.console.specs.Answers.{answer_text}
use Rattle.console.specs.Buffers.{kept_in}
use Rattle.console.specs.Reports.{report_of}
use Rattle.console.specs.Sessions.{ended, Unbroken, last_line, Dialogue, Reached, LineEnded, Fed, Closed}

pub started : (session : Session) → state_of session.console ≡ fresh_state → kept_in session.buffer ≡ [] → Reached [] [] session
started session d k = record {
  lines = [];
  rest = [];
  answers = [];
  cut = record { whole = refl; unbroken = All-nil Unbroken; open_end = All-nil (λ b. b ≡ 10 → ⊥) };
  said = subst (λ x. Dialogue [] [] x) (sym d) Dialogue.begin;
  wrote = refl;
  kept = k;
}

-- what is kept of a line that grows
clip_more : (line : List ℕ) (b : ℕ) → take 81 (take 81 line ++ b ∷ []) ≡ take 81 (line ++ b ∷ [])
clip_more line b =
    ⊎_elim (λ few. ap (λ l. take 81 (l ++ b ∷ [])) (take_all 81 line (omega arith)))
    (λ many. let long = length-take-le 81 line (omega arith) in
    take-append-le 81 (take 81 line) (b ∷ []) (omega arith) ∙ take_all 81 (take 81 line) (omega arith) ∙ sym (take-append-le 81 line (b ∷ []) (omega arith)))
    (cases_lt (length line) 82)

byte_kept : (input output : List ℕ) (before after : Session) (b : ℕ) → (b ≡ 10 → ⊥) → after.console ≡ before.console → kept_in after.buffer ≡ take 81 (kept_in before.buffer ++ b ∷ []) → Reached input output before → Reached (input ++ b ∷ []) output after
byte_kept input output before after b other same k r = record {
  lines = r.lines;
  rest = r.rest ++ b ∷ [];
  answers = r.answers;
  cut = record {
    whole = ap (λ l. l ++ b ∷ []) r.cut.whole ∙ append_assoc (flat_map ended r.lines) r.rest (b ∷ []);
    unbroken = r.cut.unbroken;
    open_end = All-push (λ x. x ≡ 10 → ⊥) r.rest b r.cut.open_end other;
  };
  said = subst (λ x. Dialogue r.lines r.answers (state_of x)) (sym same) r.said;
  wrote = r.wrote;
  kept = k ∙ ap (λ l. take 81 (l ++ b ∷ [])) r.kept ∙ clip_more r.rest b;
}

-- the answer to what is kept of a line is the answer to the line
whole_line : (before after : State) (line kept : List ℕ) (answer : Answer) → kept ≡ take 81 line → Answered before kept answer after → Answered before line answer after
whole_line before after line kept answer k a = record { read = a.read; reads = clipped line a.read (subst (λ l. ReadAs l a.read) k a.reads); says = a.says; leaves = a.leaves }

line_ended : (input output was is : List ℕ) (before after : Session) (e : LineEnded before after was is) → Reached input output before → Reached (input ++ 10 ∷ []) (output ++ ended (answer_text e.answer)) after
line_ended input output was is before after e r = record {
  lines = r.lines ++ r.rest ∷ [];
  rest = [];
  answers = r.answers ++ e.answer ∷ [];
  cut = record {
    whole = ap (λ l. l ++ 10 ∷ []) r.cut.whole ∙ append_assoc (flat_map ended r.lines) r.rest (10 ∷ []) ∙ flat_map_more ended [] r.lines r.rest ∙ sym (append-nil (flat_map ended (r.lines ++ r.rest ∷ [])));
    unbroken = All-push Unbroken r.lines r.rest r.cut.unbroken r.cut.open_end;
    open_end = All-nil (λ b. b ≡ 10 → ⊥);
  };
  said = Dialogue.next r.rest e.answer (state_of after.console) r.said (whole_line _ _ r.rest (kept_in before.buffer) e.answer r.kept e.answered);
  wrote = ap (λ l. l ++ ended (answer_text e.answer)) r.wrote ∙ flat_map_more (λ answer. ended (answer_text answer)) [] r.answers e.answer;
  kept = e.emptied;
}

-- a loop over the bytes of one call
fed_byte : (input output bytes was is : List ℕ) (before after : Session) (b : ℕ) → (b ≡ 10 → ⊥) → after.console ≡ before.console → kept_in after.buffer ≡ take 81 (kept_in before.buffer ++ b ∷ []) → Fed input output bytes before was is
    → Fed input output (bytes ++ b ∷ []) after was is
fed_byte input output bytes was is before after b other same k f = record {
  more = f.more;
  adds = f.adds;
  reached = subst (λ i. Reached i (output ++ f.more) after) (append_assoc input bytes (b ∷ [])) (byte_kept (input ++ bytes) (output ++ f.more) before after b other same k f.reached);
}

fed_end : (input output bytes was is now : List ℕ) (before after : Session) (b : ℕ) → b ≡ 10 → LineEnded before after is now → Fed input output bytes before was is → Fed input output (bytes ++ b ∷ []) after was now
fed_end input output bytes was is now before after b ten e f = record {
  more = f.more ++ ended (answer_text e.answer);
  adds = e.adds ∙ ap (λ l. l ++ ended (answer_text e.answer)) f.adds ∙ append_assoc was f.more (ended (answer_text e.answer));
  reached = subst (λ x. Reached (input ++ (bytes ++ x ∷ [])) (output ++ (f.more ++ ended (answer_text e.answer))) after) (sym ten)
      (subst (λ i. Reached i (output ++ (f.more ++ ended (answer_text e.answer))) after) (append_assoc input bytes (10 ∷ []))
      (subst (λ o. Reached ((input ++ bytes) ++ 10 ∷ []) o after) (append_assoc output f.more (ended (answer_text e.answer))) (line_ended (input ++ bytes) (output ++ f.more) is now before after e f.reached)));
}

pub byte_turn : (input output whole was is : List ℕ) (before after : Session) (i : ℕ) → i < length whole → (get_or whole i 0 ≡ 10 → ⊥) → after.console ≡ before.console → kept_in after.buffer ≡ take 81 (kept_in before.buffer ++ get_or whole i 0 ∷ [])
    → Fed input output (take i whole) before was is → Fed input output (take (i + 1) whole) after was is
byte_turn input output whole was is before after i h other same k f =
    subst (λ l. Fed input output l after was is) (sym (take_more whole i 0 h)) (fed_byte input output (take i whole) was is before after (get_or whole i 0) other same k f)

pub end_turn : (input output whole was is now : List ℕ) (before after : Session) (i : ℕ) → i < length whole → get_or whole i 0 ≡ 10 → LineEnded before after is now → Fed input output (take i whole) before was is → Fed input output (take (i + 1) whole) after was now
end_turn input output whole was is now before after i h ten e f =
    subst (λ l. Fed input output l after was now) (sym (take_more whole i 0 h)) (fed_end input output (take i whole) was is now before after (get_or whole i 0) ten e f)

pub fed_all : (input output whole was is : List ℕ) (session : Session) (i : ℕ) → length whole ≤ i → Fed input output (take i whole) session was is → Fed input output whole session was is
fed_all input output whole was is session i h f = subst (λ l. Fed input output l session was is) (take_all i whole h) f

-- at the end of the input
no_rest : (rest : List ℕ) → length (take 81 rest) ≡ 0 → last_line rest ≡ []
no_rest [] h = refl
no_rest (b ∷ rest) h = absurd (omega arith)

a_rest : (rest : List ℕ) → (length (take 81 rest) ≡ 0 → ⊥) → last_line rest ≡ rest ∷ []
a_rest [] h = absurd (h refl)
a_rest (b ∷ rest) h = refl

pub closed_none : (input output was : List ℕ) (session : Session) (report : Report) → length (kept_in session.buffer) ≡ 0 → report ≡ report_of (state_of session.console) → Reached input output session → Closed input output report was was
closed_none input output was session report none told r = record {
  more = [];
  adds = sym (append-nil was);
  finished = record {
    lines = r.lines;
    rest = r.rest;
    answers = r.answers;
    state = state_of session.console;
    cut = r.cut;
    said = subst (λ l. Dialogue l r.answers (state_of session.console)) (sym (ap (λ l. r.lines ++ l) (no_rest r.rest (sym (ap length r.kept) ∙ none)) ∙ append-nil r.lines)) r.said;
    wrote = append-nil output ∙ r.wrote;
    told = told;
  };
}

pub closed_last : (input output was is : List ℕ) (before after : Session) (report : Report) → (length (kept_in before.buffer) ≡ 0 → ⊥) → LineEnded before after was is → report ≡ report_of (state_of after.console) → Reached input output before → Closed input output report was is
unfolding line_ended
closed_last input output was is before after report some e told r =
    let s = line_ended input output was is before after e r in
    record {
      more = ended (answer_text e.answer);
      adds = e.adds;
      finished = record {
        lines = r.lines;
        rest = r.rest;
        answers = s.answers;
        state = state_of after.console;
        cut = r.cut;
        said = subst (λ l. Dialogue (r.lines ++ l) s.answers (state_of after.console)) (sym (a_rest r.rest (λ none. some (ap length r.kept ∙ none)))) s.said;
        wrote = s.wrote;
        told = told;
      };
    }
