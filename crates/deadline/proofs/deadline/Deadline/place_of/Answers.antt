use Rattle.std.proofs.Common.{◌≡◌, Bool, List, length, rules, tests, ap, ◌∙◌, arith}
use Rattle.std.specs.List.{position, position_or_len}
use Rattle.std.specs.Option.{unwrap_or}
use Rattle.std.proofs.lemmas.Bool.Decides.{nat_tests}
use Rattle.std.proofs.lemmas.Iterator.{YieldsList-from_slice}
use Rattle.std.proofs.lemmas.Iterator.Search.{position_from_yields_List}
use Rattle.std.proofs.lemmas.List.Sums.{prefix_len-le-length}
use Rattle.line.specs.declared.records.Job.{Job}
use Rattle.deadline.specs.Queues.{is_job, place_of}
use Rattle.deadline.proofs.deadline.Deadline.place_of.Goals as goal

-- the position, or else the length
or_len : {X : Type 0} (p : X → Bool) (xs : List X) → unwrap_or (position p xs) (length xs) ≡ position_or_len p xs
or_len p xs = grind (arith, nat_tests, prefix_len-le-length)

pub returns : goal.returns
returns c =
    let this : Job → Bool = λ x. is_job x c.args.component c.args.task in
    let jobs : List Job = c.jobs-jobs.result.now in
    let found : c.position.result ≡ position this jobs = position_from_yields_List this _ _ c.position.result c.position.ensures.ran (YieldsList-from_slice _ c.iter.ensures.rest) (λ x b q k. search (rules, tests)) in
    c.unwrap_or.ensures ∙ ap (λ o. unwrap_or o (length jobs)) found ∙ or_len this jobs ∙ ap (place_of _ _) c.jobs-jobs.ensures
