use Rattle.std.proofs.Common.{ℕ, ◌*◌, true, List, take, vec_items}
use Rattle.console.specs.Memory.{Adds}
use Rattle.console.specs.Sessions.{Reached, Fed}
use Rattle.console.proofs.session.Session.feed.Given as goal

-- the bytes up to here are fed, and each took the memory of one answer at most
abbrev pub invariant-loop-byte : goal.invariant-loop-byte
invariant-loop-byte l =
    Adds (81 * l.byte-index) l.initial.out l.out true × ((input output : List ℕ) → Reached input output l.initial.self → Fed input output (take l.byte-index l.bytes) l.self (vec_items l.initial.out) (vec_items l.out))
