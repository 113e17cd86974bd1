use Rattle.std.proofs.Common.{arith, rules}
use Rattle.line.proofs.Changes.{added}
use Rattle.line.proofs.kept.Line.add.Goals as goal

pub returns-clause-added : goal.returns-clause-added
returns-clause-added g c =
    added _ _ _ _ _ _ c.records.ensures _ _ g.met.R.Ranked.total c.place_for-at.ensures.place (omega arith) _ c.copy_within.ensures.after (search rules) (omega arith)
