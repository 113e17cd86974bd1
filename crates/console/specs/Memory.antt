-- What a call that adds bytes to a vector promises of memory.
use Rattle.std.specs.Prelude.{◌≡◌, ℕ, ◌+◌, ◌≤◌, Bool, true, vec_len, vec_capacity, Vec}
use Rattle.std.specs.declared.alloc.Global.{Global}

-- it adds at most so many bytes, gives no place back, and fails only where the vector has no room for them
pub record Adds (most : ℕ) (was is : Vec ℕ Global) (ok : Bool) : Type 0 where
  pub keeps : vec_capacity was ≤ vec_capacity is
  pub few : vec_len is ≤ vec_len was + most
  pub succeeds : vec_len was + most ≤ vec_capacity was → ok ≡ true
