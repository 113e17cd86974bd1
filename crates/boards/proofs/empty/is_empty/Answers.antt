use Rattle.std.proofs.Common.{rules, tests, arith}
use Rattle.std.proofs.lemmas.Iterator.{cases_from_any, YieldsList-from_range}
use Rattle.boards.specs.Boards.{HasJob}
use Rattle.boards.proofs.Empties.{any_below, empty_tests}
use Rattle.boards.proofs.empty.is_empty.Goals as goal

pub returns : goal.returns
returns g c =
    let m = g.B.Board.means c.args.board.now in
    let l = g.met.B.Board.lawful c.args.board.now in
    let asked = cases_from_any _ _ _ (HasJob m) (λ d. HasJob m d → ⊥) c.any.ensures.ran (YieldsList-from_range 0 c.reach.result c.reach.result (cc) (omega arith)) (λ x q k. search (rules, tests)) (λ x q k. search (rules, tests)) in
    let told = empty_tests m l c.any.result (any_below (HasJob m) c.reach.result c.any.result asked (λ d job. omega (arith, l.inside d job.0 job.1))) in
    record { test = told.0; jobs = told.1 }
