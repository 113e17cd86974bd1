use Rattle.std.proofs.Common.{sym, rules}
use Rattle.bracket.proofs.Parsing.{number_step}
use Rattle.bracket.proofs.items.numbers.Goals as goal

pub loop-number-preserved : goal.loop-number-preserved
loop-number-preserved g c = record {
  room = search rules;
  read = number_step c.args.end.now c.loop-number.number-items c.loop-number.rest.bytes.now c.number.new.self.bytes.now g.row.N c.loop-number.number-index _ _ c.loop-number-test.true c.loop-number.invariant.room (sym c.in_ok-number.ensures) c.loop-number.invariant.read;
}
