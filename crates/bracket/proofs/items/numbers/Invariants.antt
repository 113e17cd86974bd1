use Rattle.std.proofs.Common.{◌≡◌, ◌-◌, ◌++◌, Some, length, take}
use Rattle.bracket.specs.Items.{and_then, number_items}
use Rattle.bracket.proofs.items.numbers.Given as goal

abbrev pub invariant-loop-number : goal.invariant-loop-number
invariant-loop-number g l = record {
  room : length l.number-items ≡ g.row.N;
  read : and_then (number_items (g.row.N - l.number-index) l.end l.rest.bytes.now) (λ b. Some (take l.number-index l.number-items ++ b)) ≡ number_items g.row.N l.end l.bytes;
}
