use Rattle.std.proofs.Common.{◌≡◌, ◌⊎◌, List, is_some, subst, Some, ◌+◌, ◌++◌, ◌∷◌, [], sym, ap, ◌∙◌, None}
use Rattle.std.proofs.lemmas.Result.{on_ok_weaker}
use Rattle.mq_client.proofs.Words.{Closes, FilterLine, Holding, IsAt, IsAtWork, Meaning, Replies, Spans, Stage, TracksAt, after_line, at_line, closing, meaning, noted_by, seconds_in, still, still_by, Appends-nil}
use Rattle.mq_client.proofs.Looping.{fails_so, Does-nothing, carries_take, stops_within, cut_found, cut_in_hand, takes_noted, count_noted, answer_counted, request_works, refused_stops, may_go}
use Rattle.mq_client.proofs.filter.after_ready.Goals as goal

pub returns-in-Ok-clause-ok : goal.returns-in-Ok-clause-ok
returns-in-Ok-clause-ok g c =
    let (step, text, does, replies, held) = c.in-Ok.ensures.ok in
    let q = c.in-Filter in
    let m = FilterLine q.seconds q.subsystem.now q.phase.now q.session.now q.token.now q.rest.now in
    let f = c.args.filter.now in
    let pass : c.pass.new.self ≡ (f.holdup.0, still f.holdup.0 q.seconds f.holdup.1) =
    c.pass.ensures ∙ ap (λ s. (f.holdup.0, still_by f.holdup.0 s f.holdup.1)) (c.seconds_of.ensures ∙ ap (λ l. seconds_in (meaning l)) q.is) in
    rw (ap meaning q.is) (carries_take m f (record { tracker = f.tracker; is_ready = f.is_ready; answers = f.answers + 1; holdup = c.answer.new.holdup }) _ _ step text c.requires.ready does
    (λ L st. (subst (λ (h : Spans × Holding). Replies h.1 L q.subsystem.now q.phase.now q.session.now q.token.now step text) pass (replies L st), record { sessions = st.sessions; begins = st.begins })) (held ∙ ap (λ h. (h.0, noted_by h.0 (Some q.seconds) step h.1)) pass) c.requires.ready (λ L e. answer_counted L q.seconds q.subsystem.now q.phase.now q.session.now q.token.now q.rest.now f.answers e))

pub returns-in-Err-clause-fault : goal.returns-in-Err-clause-fault
returns-in-Err-clause-fault g c =
    let (step, front, more, does, acts) = c.in-Err.ensures.cut in
    let q = c.in-Filter in
    let f = c.args.filter.now in
    let fault = c.in-Err.fault in
    let pass : c.pass.new.self ≡ (f.holdup.0, still f.holdup.0 q.seconds f.holdup.1) =
    c.pass.ensures ∙ ap (λ s. (f.holdup.0, still_by f.holdup.0 s f.holdup.1)) (c.seconds_of.ensures ∙ ap (λ l. seconds_in (meaning l)) q.is) in
    λ o pieces line rest source read_failed one reads s.
    let work : (stage : Stage) → IsAt f stage → IsAtWork stage (line ++ 10 ∷ rest) = λ stage a. request_works f stage line rest q.seconds _ _ _ _ _ c.requires.ready a one (rw (ap meaning q.is) at reads) in
    stops_within o pieces (line ++ 10 ∷ rest) f source _ _ read_failed _ fault step front more s does
    (λ stage a. cut_found fault stage pieces _ source read_failed _ c.in-Err.ensures.fault (work stage a))
    (λ stage a. cut_in_hand fault _ _ stage _ _ step _ c.in-Err.ensures.fault
    (may_go f stage line rest q.seconds _ _ _ _ _ step _ c.requires.ready a one (rw (ap meaning q.is) at reads) (subst (λ (h : Spans × Holding). ((step ≡ None) × (front ++ more ≡ [])) ⊎ ((L : List Meaning) → TracksAt f.tracker L → Replies h.1 L q.subsystem.now q.phase.now q.session.now q.token.now step (front ++ more))) pass acts)))
    (λ stage a e. work stage a)

pub returns-clause-ok : goal.returns-clause-ok
returns-clause-ok g c =
    let l = c.args.line.now in
    let f = c.args.filter.now in
    let apart = c.in_default.not-Filter in
    let pass : c.pass.new.self ≡ (f.holdup.0, at_line f.holdup.0 (meaning l) f.holdup.1) = c.pass.ensures ∙ ap (λ s. (f.holdup.0, still_by f.holdup.0 s f.holdup.1)) c.seconds_of.ensures in
    let k = at_line f.holdup.0 (meaning l) f.holdup.1 in
    on_ok_weaker c.note.result (λ noted. let (step, told, made, notes, held) = noted in
    carries_take (meaning l) f (record { tracker = c.note.new.tracker; is_ready = f.is_ready; answers = f.answers; holdup = c.note.new.holdup }) _ _ step [] c.requires.ready
    (record { written = Appends-nil _; exchanged = told; made = made })
    (λ L st. let n = notes L st in (takes_noted k L l step apart n.0 (subst (λ (h : Spans × Holding). Closes (is_some h.1.paused) (closing L (meaning l)) step) pass n.1), n.2))
    (held ∙ ap (λ h. (h.0, after_line h.0 (meaning l) step h.1)) pass) c.requires.ready (λ L e. e ∙ sym (count_noted L l apart))) c.note.ensures.ok

pub returns-clause-fault : goal.returns-clause-fault
returns-clause-fault g c =
    let e = c.note.ensures in
    fails_so c.note.result e.fault e.link e.client (λ fault refuses same_link same_client o pieces line rest source read_failed one reads s.
    let f = c.args.filter.now in
    let refused = λ (stage : Stage) (a : IsAt f stage). refused_stops fault f stage pieces line rest (meaning c.args.line.now) source read_failed (g.W.Sink.has_failed c.args.output.now) c.requires.ready a one reads refuses in
    stops_within o pieces (line ++ 10 ∷ rest) f source _ _ read_failed _ fault None [] [] s (Does-nothing g.K.Link.told _ _ _ _ _ same_link same_client)
    (λ stage a. (refused stage a).0) (λ stage a. (refused stage a).1) (λ stage a. (refused stage a).2))
