-- What a fixed board keeps to.
use Rattle.std.specs.Prelude.{◌≡◌, ℕ, false, List}
use Rattle.std.proofs.Common.{arith}
use Rattle.boards.specs.Boards.{Lawful, empty_board}
use Rattle.fixed.specs.Tasks.{member, set_at}
use Rattle.fixed.specs.FixedBoards.{sets_mean, fixed_means}
use Rattle.fixed.specs.declared.fixed.Fixed.{Fixed}
use Rattle.fixed.specs.declared.tasks.TaskSet.{TaskSet}
use Rattle.boards.proofs.Empties.{empty_is}
use Rattle.fixed.specs.Members.{member_within, pick_among}

pub fixed_lawful : (b : Fixed) → Lawful (fixed_means b)
fixed_lawful b =
    record {
      eight = b.eight;
      inside = λ c t h. let p = b.clear c t in let q = member_within (set_at b.sets c) t in grind arith;
      among = λ c. pick_among (set_at b.sets c);
    }

pub empty_sets : (n : ℕ) (sets : List TaskSet) → ((c t : ℕ) → member (set_at sets c) t ≡ false) → sets_mean n sets ≡ empty_board n
empty_sets n sets none = empty_is (sets_mean n sets) (λ c. pick_among (set_at sets c)) none
