use Rattle.std.proofs.Common.{vec_items, refl, arith}
use Rattle.console.proofs.Dialogues.{byte_turn, end_turn, fed_all}
use Rattle.console.proofs.Room.{after, upto}
use Rattle.console.proofs.session.Session.feed.Goals as goal

pub loop-byte-preserved-then-byte-ne10 : goal.loop-byte-preserved-then-byte-ne10
loop-byte-preserved-then-byte-ne10 c = (
  upto (omega arith) c.loop-byte.invariant.0,
  λ input output r. byte_turn input output c.args.bytes.now (vec_items c.args.out.now) (vec_items c.loop-byte.out) c.loop-byte.self _ c.loop-byte.byte-index c.loop-byte-test.true c.if-byte-ne10.true refl c.push.ensures (c.loop-byte.invariant.1 input output r),
)

pub loop-byte-preserved : goal.loop-byte-preserved
loop-byte-preserved c = (
  after (omega arith) c.loop-byte.invariant.0 c.in_ok-end_line.ensures.memory,
  λ input output r. end_turn input output c.args.bytes.now (vec_items c.args.out.now) (vec_items c.loop-byte.out) (vec_items c.end_line.new.out) c.loop-byte.self c.end_line.new.self c.loop-byte.byte-index c.loop-byte-test.true c.if-byte-ne10.false c.in_ok-end_line.ensures.line (c.loop-byte.invariant.1 input output r),
)

pub returns-clause-answers : goal.returns-clause-answers
returns-clause-answers c = λ input output r. fed_all input output c.args.bytes.now (vec_items c.args.out.now) (vec_items c.loop-byte.out) c.loop-byte.self c.loop-byte.byte-index c.loop-byte-test.false (c.loop-byte.invariant.1 input output r)
