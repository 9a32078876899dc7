use Rattle.std.proofs.Common.{◌≡◌, [], sym, ap, ◌∙◌, rules}
use Rattle.std.specs.List.{slice_get}
use Rattle.mq_replay.specs.Replay.{faults_of}
use Rattle.mq_replay.proofs.EndSteps.{nothing_first}
use Rattle.mq_replay.proofs.replay.print_answers.Goals as goal

pub returns-in-None : goal.returns-in-None
returns-in-None g c =
    let none : faults_of c.args.answered.ends.items ≡ [] = nothing_first _ (sym (c.first_fault.ensures ∙ ap (λ ends. slice_get (faults_of ends) 0) c.as_slice.ensures.value) ∙ c.in-None.is) in
    (none, search rules)
