use Rattle.std.proofs.Common.{◌≡◌, [], ◌∷◌, length, ◌∙◌, subst, arith, None}
use Rattle.mq_client.proofs.Words.{told_all, told_of, IsVerdict, TriesOutcome, verdict_of}
use Rattle.mq_lemmas.proofs.Telling.{Tells-trans}
use Rattle.mq_client.proofs.Telling.{undecided, decided_by_last, no_verdict, late_more, comes_decided, comes_undecided}
use Rattle.mq_client.proofs.tries.try_all.Goals as goal

pub loop-attempt-preserved : goal.loop-attempt-preserved
loop-attempt-preserved g c =
    let i = c.loop-attempt.invariant in
    let (x, decided, told, is_try, comes) = c.try_once-tried.ensures in
    let none = no_verdict c.try_once-tried.result c.in_default.not-Decided in
    let fails = undecided _ x decided is_try (subst (IsVerdict decided) none comes.verdict) in
    record {
      done = x ∷ i.done;
      told = Tells-trans _ _ _ (told_all i.done) (told_of x ∷ []) i.told told;
      failed = (fails, i.failed);
      count = omega (arith, i.count);
      late = c.with_try-timed_out.ensures ∙ late_more x i.done _ _ fails.decided_is comes.late i.late;
    }

pub returns-in-Decided : goal.returns-in-Decided
returns-in-Decided g c =
    let i = c.loop-attempt.invariant in
    let (x, decided, told, is_try, comes) = c.try_once-tried.ensures in
    let v = c.in-Decided.verdict in
    let says = subst (λ (t : TriesOutcome). IsVerdict decided (verdict_of t)) c.in-Decided.is comes.verdict in (
      x ∷ i.done,
      decided,
      Tells-trans _ _ _ (told_all i.done) (told_of x ∷ []) i.told told,
      decided_by_last c.args.tries _ x i.done decided v is_try says i.failed (omega (arith, i.count)),
      comes_decided _ x i.done decided v is_try says,
    )

pub returns : goal.returns
returns g c =
    let i = c.loop-attempt.invariant in
    let all : length i.done ≡ c.args.tries = omega (arith, i.count) in
    (i.done, None, i.told, (i.failed, all), comes_undecided i.done c.undecided.result _ c.undecided.ensures.verdict c.undecided.ensures.late i.late)
