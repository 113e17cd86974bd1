-- What a deadline board keeps to.
use Rattle.std.specs.Prelude.{ℕ, true, false, cond, ◌&&◌, ◌||◌, List, [], ◌∷◌, Some, ◌==◌, refl}
use Rattle.std.proofs.Common.{sym, ◌∙◌}
use Rattle.std.specs.List.{find}
use Rattle.std.specs.Option.{option_map}
use Rattle.std.proofs.lemmas.Bool.{or_left, eq-eqb}
use Rattle.line.specs.declared.records.Job.{Job}
use Rattle.boards.specs.Boards.{Lawful, Among}
use Rattle.fixed.specs.Fixeds.{fixed_lawful}
use Rattle.deadline.specs.Queues.{holds, first_of}
use Rattle.deadline.specs.DeadlineBoards.{queue, deadline_means}
use Rattle.deadline.specs.declared.deadline.Deadline.{Deadline}

-- the task of the component's first job is one of its pending ones
pub first_among : (c : ℕ) (xs : List Job) → Among (λ t. holds c t xs) (first_of c xs)
first_among c [] = λ t. refl
first_among c (x ∷ xs) =
    elim (c == x.component) as (λ b. Among (λ t. (b && t == x.task) || holds c t xs) (option_map (λ y. y.task) (cond b (Some x) (find (λ y. c == y.component) xs)))) [
      | true ↦ or_left _ _ (eq-eqb x.task x.task refl)
      | false ↦ first_among c xs
    ]

pub deadline_lawful : (b : Deadline) → Lawful (deadline_means b)
deadline_lawful b =
    record {
      eight = b.sets.eight;
      inside = λ c t h. (fixed_lawful b.sets).inside c t (sym (b.same c t) ∙ h);
      among = λ c. first_among c (queue b);
    }
