use Rattle.std.proofs.Common.{◌≡◌, [], ◌∙◌, Err, refl, sym, ap}
use Rattle.std.proofs.KnownBytes.{Appends-nil, Consumes-nil}
use Rattle.mq_lemmas.proofs.Options.{some_is}
use Rattle.mq_server.specs.declared.connection.Progress.TheVariants.{Answered, Ended}
use Rattle.mq_server.specs.declared.fault.ServeFault.TheVariants.{Store}
use Rattle.mq_connections.proofs.Turning.{answered_works, calls_as, calls_either, carries_in, carries_none, carries_out, ended_back, ended_to, extends_none, no_calls, none_few, shuts_before, shuts_none, still_in, still_out, turned, waits_works}
use Rattle.mq_connections.proofs.opened.OpenConnection.take_turn.Goals as goal

-- replies waited, and some were written
pub returns-then-not-is_empty-clause-turns : goal.returns-then-not-is_empty-clause-turns
returns-then-not-is_empty-clause-turns g c = λ kept sound.
    let b = g.L.Ledger.book c.args.ledger.now in
    let t = g.L.Ledger.told c.args.ledger.now in
    let w = c.write_replies.ensures in
    let (written, sent, lives) = w.writes in
    let was = c.args.self.now.connection in
    let now = c.write_replies.new.self.connection in
    turned b b.history t t c.write_replies.result _ _ was was now [] [] [] written (c.more_exchanges.ensures.none b (g.met.L.Ledger.sound_is_legal c.args.ledger.now sound)) (no_calls t was.end c.write_replies.result w.other)
    (extends_none was) (λ _. refl) none_few (λ _. refl) (still_in _ _ w.remaining) sent (shuts_none was now _ [] w.closed) (carries_out was now written lives)

-- as many frames were answered as a turn has
pub returns-in-Answered-clause-turns : goal.returns-in-Answered-clause-turns
returns-in-Answered-clause-turns g c = λ kept sound.
    let b = g.L.Ledger.book c.args.ledger.now in
    let t = g.L.Ledger.told c.args.ledger.now in
    let u = g.L.Ledger.told c.answer.new.ledger in
    let (xs, counts, calls, right, lives) = c.answer.ensures.lives kept sound in
    let was = c.args.self.now.connection in
    let mid = c.answer.new.self in
    turned b _ t u Answered _ _ was mid mid xs [] [] [] right (calls_as t u was.end c.answer.result Answered xs (λ e. answered_works (sym c.in-Answered.is ∙ e)) answered_works calls) lives (λ _. refl) none_few (λ _. refl) (Consumes-nil _) (Appends-nil _) (shuts_none was mid _ [] c.answer.ensures.closes_nothing) (carries_none mid)

-- fewer were, and their replies wait
pub returns-in-Waits-clause-turns : goal.returns-in-Waits-clause-turns
returns-in-Waits-clause-turns g c = λ kept sound.
    let b = g.L.Ledger.book c.args.ledger.now in
    let t = g.L.Ledger.told c.args.ledger.now in
    let u = g.L.Ledger.told c.answer.new.ledger in
    let (xs, counts, calls, right, lives) = c.answer.ensures.lives kept sound in
    let was = c.args.self.now.connection in
    let mid = c.answer.new.self in
    turned b _ t u Answered _ _ was mid mid xs [] [] [] right (calls_as t u was.end c.answer.result Answered xs (λ e. waits_works (sym c.in-Waits.is ∙ e)) answered_works calls) lives (λ _. refl) none_few (λ _. refl) (Consumes-nil _) (Appends-nil _) (shuts_none was mid _ [] c.answer.ensures.closes_nothing) (carries_none mid)

-- no whole frame was there, and more was read
pub returns-in-Waits-2-clause-turns : goal.returns-in-Waits-2-clause-turns
returns-in-Waits-2-clause-turns g c = λ kept sound.
    let b = g.L.Ledger.book c.args.ledger.now in
    let t = g.L.Ledger.told c.args.ledger.now in
    let u = g.L.Ledger.told c.answer.new.ledger in
    let (xs, counts, calls, right, lives) = c.answer.ensures.lives kept sound in
    let r = c.read_more.ensures in
    let (read, lost, few, whole, consumed, shuts, went) = r.reads in
    let works = λ (e : c.answer.result ≡ Ended (Err Store)). waits_works (sym c.in-Waits-2.is ∙ e) in
    let was = c.args.self.now.connection in
    let mid = c.answer.new.self in
    let now = c.read_more.new.self.connection in
    turned b _ t u c.read_more.result _ _ was mid now xs read lost [] right (calls_as t u was.end c.answer.result c.read_more.result xs works r.other calls) lives (λ some. absurd (works (calls.ends some))) few whole consumed (still_out _ _ r.contents) (shuts_before was mid now _ read c.answer.ensures.closes_nothing shuts) (carries_in mid now read went)

-- it has ended
pub returns-in-Ended-clause-turns : goal.returns-in-Ended-clause-turns
returns-in-Ended-clause-turns g c = λ kept sound.
    let b = g.L.Ledger.book c.args.ledger.now in
    let t = g.L.Ledger.told c.args.ledger.now in
    let u = g.L.Ledger.told c.answer.new.ledger in
    let (xs, counts, calls, right, lives) = c.answer.ensures.lives kept sound in
    let w = c.end_turn.ensures in
    let was = c.args.self.now.connection in
    let mid = c.answer.new.self in
    let p = c.answer.result in
    let q = c.end_turn.result in
    let end = c.in-Ended.end in
    turned b _ t u q _ _ was mid mid xs [] [] [] right (calls_either t u was.end p q xs (ended_to p q end c.in-Ended.is w.store) (ended_back p q end c.in-Ended.is w.other) calls) lives (λ _. refl) none_few (λ _. refl) (Consumes-nil _) (Appends-nil _) (shuts_none was mid _ [] c.answer.ensures.closes_nothing) (carries_none mid)

pub returns-in-Ended-clause-store : goal.returns-in-Ended-clause-store
returns-in-Ended-clause-store g c = λ failed. c.answer.ensures.ended (Err Store) (c.in-Ended.is ∙ ap Ended (c.end_turn.ensures.other failed))

pub returns-in-Ended-clause-works : goal.returns-in-Ended-clause-works
returns-in-Ended-clause-works g c = λ was other is. other (c.end_turn.ensures.store (some_is c.in-Ended.end (Err Store) (sym (c.answer.ensures.ended c.in-Ended.end c.in-Ended.is) ∙ is)))
