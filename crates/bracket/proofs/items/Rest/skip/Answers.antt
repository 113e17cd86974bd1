use Rattle.std.proofs.Common.{ap, sym, ◌∙◌}
use Rattle.std.specs.Option.{option_map}
use Rattle.bracket.proofs.Parsing.{stripped}
use Rattle.bracket.proofs.items.Rest.skip.Goals as goal

pub returns-in_err-self : goal.returns-in_err-self
returns-in_err-self c = rw c.from_residual.ensures (ap (option_map _) (sym c.in_err-self.was) ∙ stripped c.args.self.now.bytes.now c.args.text.now _ c.strip_prefix.ensures.cases)

pub returns : goal.returns
returns c = ap (option_map _) (sym c.in_ok-self.was) ∙ stripped c.args.self.now.bytes.now c.args.text.now _ c.strip_prefix.ensures.cases
