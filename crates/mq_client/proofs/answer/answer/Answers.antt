use Rattle.std.proofs.Common.{◌≡◌, [], refl, sym, ap, ◌∙◌, rules, inl, inr, None, Some}
use Rattle.mq_client.proofs.Words.{noted, option_map, result_text, times_out, Appends-nil}
use Rattle.mq_client.specs.Freeing.{shown_full}
use Rattle.mq_client.specs.Holding.{full_in}
use Rattle.mq_client.proofs.Looping.{Does-nothing}
use Rattle.mq_client.proofs.answer.answer.Goals as goal

pub returns-in-Err-clause-cut : goal.returns-in-Err-clause-cut
returns-in-Err-clause-cut g c =
    (None, [], [], Does-nothing g.K.Link.told _ _ _ _ _ c.in-Err.ensures.link c.in-Err.ensures.client, inl (refl, refl))

-- there was no memory for the text, or to note the login
pub returns-in_default-clause-cut : goal.returns-in_default-clause-cut
returns-in_default-clause-cut g c =
    let (step, told, made, answers, late, full, same) = c.in-Ok.ensures.ok in
    let i = c.args.inquiry in (
      step,
      [],
      result_text i.session.now i.token.now c.in-Ok.decided.decision,
      record { written = Appends-nil _; exchanged = told; made = made },
      inr (λ L st. (c.in-Ok.decided.decision, answers L st, refl)),
    )

pub returns-in_default-note_answer-clause-cut : goal.returns-in_default-note_answer-clause-cut
returns-in_default-note_answer-clause-cut g c =
    let (step, told, made, answers, late, full, same) = c.in-Ok.ensures.ok in
    let i = c.args.inquiry in (
      step,
      [],
      result_text i.session.now i.token.now c.in-Ok.decided.decision,
      record { written = Appends-nil _; exchanged = told; made = made },
      inr (λ L st. (c.in-Ok.decided.decision, answers L st, refl)),
    )

pub returns-in-Ok-write_and_flush-clause-ok : goal.returns-in-Ok-write_and_flush-clause-ok
returns-in-Ok-write_and_flush-clause-ok g c =
    let (step, told, made, answers, late, full, same) = c.in-Ok.ensures.ok in
    let i = c.args.inquiry in
    let d = c.in-Ok.decided in
    let h = c.args.holdup.now in
    let text : c.as_slice.result.now ≡ result_text i.session.now i.token.now d.decision = search rules in (
      step,
      c.as_slice.result.now,
      record { written = c.in-Ok-write_and_flush.ensures.ok; exchanged = told; made = made },
      λ L st. (d.decision, answers L st, text),
      c.in-Ok-note_answer.ensures ∙ ap (λ b. (h.0, noted h.0 (Some i.seconds) b (option_map shown_full d.full) h.1)) late
          ∙ ap (λ o. (h.0, noted h.0 (Some i.seconds) (times_out step) o h.1)) full
          ∙ ap (λ k. (h.0, noted h.0 (Some i.seconds) (times_out step) (full_in step) k)) (sym (same h.1)),
    )

pub returns-clause-cut : goal.returns-clause-cut
returns-clause-cut g c =
    let (step, told, made, answers, late, full, same) = c.in-Ok.ensures.ok in
    let i = c.args.inquiry in
    let d = c.in-Ok.decided in
    let text : c.as_slice.result.now ≡ result_text i.session.now i.token.now d.decision = search rules in
    let (front, rest, whole, written) = c.in-Err-write_and_flush.ensures.err in
    (step, front, rest, record { written = written; exchanged = told; made = made }, inr (λ L st. (d.decision, answers L st, sym whole ∙ text)))
