use Rattle.std.proofs.Common.{◌≡◌, false}
use Rattle.bracket.specs.Faults.{CleanTo}
use Rattle.bracket.proofs.Places.{inside_at}
use Rattle.bracket.proofs.words.check_words.Given as goal

abbrev pub invariant-loop-i : goal.invariant-loop-i
invariant-loop-i l = CleanTo l.line l.i × (l.inside ≡ inside_at false l.line l.i)
