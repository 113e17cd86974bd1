use Rattle.std.proofs.Common.{◌≡◌, true, false, eqb, length, vec_items, sym, ap, ◌∙◌, subst}
use Rattle.std.proofs.lemmas.Bool.{eqb-true, eqb-false}
use Rattle.console.specs.Answering.{state_of}
use Rattle.console.specs.Buffers.{kept_in}
use Rattle.console.specs.Reports.{report_of}
use Rattle.console.specs.Sessions.{Closed}
use Rattle.console.proofs.Dialogues.{closed_none, closed_last}
use Rattle.console.proofs.session.Session.finish.Goals as goal
use Rattle.console.proofs.session.Session.finish.Goals.{then-not-is_empty+in_ok-end_line, else-not-is_empty}

pub returns-clause-answers : goal.returns-clause-answers
returns-clause-answers c =
    let was = vec_items c.args.out.now in
    let kept = kept_in c.args.self.buffer in
    elim c.if-not-is_empty.branch [
      | then-not-is_empty+in_ok-end_line w ↦
          let test : eqb (length kept) 0 ≡ false = ap (λ l. eqb (length l) 0) (sym c.text.ensures) ∙ sym w.if-not-is_empty.ensures in
          λ input output r. subst (λ o. Closed input output c.report.result was (vec_items o)) (sym w.out-is)
          (closed_last input output was (vec_items w.end_line.new.out) c.args.self w.end_line.new.self c.report.result (eqb-false (length kept) 0 test) w.in_ok-end_line.ensures.line (c.report.ensures ∙ ap (λ s. report_of (state_of s.console)) w.self-is) r)
      | else-not-is_empty w ↦
          let test : eqb (length kept) 0 ≡ true = ap (λ l. eqb (length l) 0) (sym c.text.ensures) ∙ sym w.if-not-is_empty.ensures in
          λ input output r. subst (λ o. Closed input output c.report.result was (vec_items o)) (sym w.out-is)
          (closed_none input output was c.args.self c.report.result (eqb-true (length kept) 0 test) (c.report.ensures ∙ ap (λ s. report_of (state_of s.console)) w.self-is) r)
    ]
