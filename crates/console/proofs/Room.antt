-- One call after another, and the memory that they need.
use Rattle.std.proofs.Common.{ℕ, ◌+◌, ◌≤◌, Bool, true, Vec, arith}
use Rattle.std.specs.declared.alloc.Global.{Global}
use Rattle.console.specs.Memory.{Adds}

-- after a call that succeeded, another
pub after : {a b most : ℕ} {was mid is : Vec ℕ Global} {ok : Bool} → a + b ≤ most → Adds a was mid true → Adds b mid is ok → Adds most was is ok
after {a} {b} {most} {was} {mid} {is} {ok} h p q =
    let k = p.keeps in
    let l = q.keeps in
    let m = p.few in
    let n = q.few in
    record { keeps = omega arith; few = omega arith; succeeds = λ room. q.succeeds (omega arith) }

-- room for more is room for less
pub upto : {a most : ℕ} {was is : Vec ℕ Global} {ok : Bool} → a ≤ most → Adds a was is ok → Adds most was is ok
upto {a} {most} {was} {is} {ok} h p = let k = p.keeps in let m = p.few in record { keeps = k; few = omega arith; succeeds = λ room. p.succeeds (omega arith) }
