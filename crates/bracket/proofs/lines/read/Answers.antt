use Rattle.std.proofs.Common.{Ok, Err, arith}
use Rattle.std.proofs.lemmas.Result.{err_from_is_err_and}
use Rattle.bracket.specs.declared.faults.LineFault.TheVariants.{TooLong, Form}
use Rattle.bracket.proofs.Determined.{read_as}
use Rattle.bracket.proofs.lines.read.Goals as goal

pub returns-then-line-gt-LONGEST : goal.returns-then-line-gt-LONGEST
returns-then-line-gt-LONGEST c = read_as c.args.line.now (Err TooLong) (omega arith)

pub returns-in_err-form : goal.returns-in_err-form
returns-in_err-form c =
    let p = err_from_is_err_and c.from_residual.result c.from_residual.ensures.1 in
    rw (p.1, p.2) (read_as c.args.line.now (Err (Form _)) (omega arith, c.in_err-form.ensures))

pub returns : goal.returns
returns c = read_as c.args.line.now (Ok c.in_ok-form.field-0) c.in_ok-form.ensures
