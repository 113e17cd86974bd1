use Rattle.std.proofs.Common.{replicate, rules}
use Rattle.fixed.specs.Fixeds.{empty_sets}
use Rattle.fixed.proofs.Sets.{none_anywhere}
use Rattle.fixed.proofs.fixed.FixedResizable.new.Goals as goal

pub returns : goal.returns
returns c = search (rules, empty_sets 8 (replicate 8 c.new.result) (none_anywhere 8 c.new.result c.new.ensures))
