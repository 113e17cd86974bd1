use Rattle.std.proofs.Common.{arith, rules}
use Rattle.line.proofs.Changes.{taken}
use Rattle.line.proofs.kept.Line.take.Goals as goal

pub returns-clause-taken : goal.returns-clause-taken
returns-clause-taken g c =
    taken _ _ _ _ _ _ c.records-held.ensures _ _ g.met.R.Ranked.transitive (search rules) c.copy_within.ensures.after (omega arith)
