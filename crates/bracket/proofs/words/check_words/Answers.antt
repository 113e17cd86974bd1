use Rattle.std.proofs.Common.{sym, ◌∙◌, below_more}
use Rattle.std.proofs.lemmas.Result.{err_from_is_err_and}
use Rattle.bracket.proofs.Places.{inside_step, at_place}
use Rattle.bracket.proofs.words.check_words.Goals as goal

pub returns-in_err-check_at : goal.returns-in_err-check_at
returns-in_err-check_at c =
    let p = err_from_is_err_and c.from_residual.result c.from_residual.ensures.1 in
    rw (p.1, p.2) (record {
      index = c.loop-i.i;
      within = c.loop-i-test.true;
      here = at_place c.args.line.now c.loop-i.i c.loop-i.inside _ c.loop-i-test.true c.loop-i.invariant.1 c.in_err-check_at.ensures;
      before = c.loop-i.invariant.0;
    })

pub loop-i-preserved : goal.loop-i-preserved
loop-i-preserved c = (
  below_more _ _ c.loop-i.invariant.0 (at_place c.args.line.now c.loop-i.i c.loop-i.inside _ c.loop-i-test.true c.loop-i.invariant.1 c.in_ok-check_at.ensures),
  c.in_run-inside.ensures ∙ sym (inside_step c.args.line.now c.loop-i.i c.loop-i-test.true),
)
