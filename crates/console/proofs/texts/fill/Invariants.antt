use Rattle.std.proofs.Common.{◌≡◌, ◌+◌, ◌-◌, ◌*◌, ◌++◌, ◌≤◌, true, length, drop, vec_items}
use Rattle.console.specs.Memory.{Adds}
use Rattle.console.specs.Texts.{filled}
use Rattle.console.proofs.texts.fill.Given as goal

-- memory is used by each byte and number so far, and what is written, and what is still to be written, is the whole
abbrev pub invariant-loop-byte : goal.invariant-loop-byte
invariant-loop-byte l =
    Adds (l.byte-index + 20 * (length l.numbers - length l.left.rest.now)) l.initial.out l.out true × (length l.left.rest.now ≤ length l.numbers)
    × (vec_items l.out ++ filled (drop l.byte-index l.form) l.left.rest.now ≡ vec_items l.initial.out ++ filled l.form l.numbers)
