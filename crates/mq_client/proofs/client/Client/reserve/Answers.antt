use Rattle.std.proofs.Common.{◌≡◌, ℕ, ◌+◌, ◌==◌, [], length, refl, sym, ◌∙◌, subst, rules, true, false, Some, if◌then◌else◌}
use Rattle.mq_client.proofs.Words.{AllHeld, Ask, FramedRequest, Makes, State, answer_by, find, length-map, let_through, opened, refuses, state_of}
use Rattle.mq_lemmas.proofs.Telling.{Tells-none}
use Rattle.mq_client.proofs.Making.{refused, asked, answer_of_tries, held_and_counted}
use Rattle.mq_client.proofs.Keeping.{has_room, asked_in_range}
use Rattle.mq_client.proofs.client.Client.reserve.Goals as goal

pub returns-in-Some-clause-ok : goal.returns-in-Some-clause-ok
returns-in-Some-clause-ok g c =
    let action = Ask c.args.txn c.args.moment c.args.login.now in
    let i = c.self.inside in
    let h : refuses (find i.held c.args.txn) (length i.held) i.numbers (length i.outbox.items) c.args.moment c.args.login.now ≡ true = search rules in
    let stays = subst (λ (s : State). Makes s s (record { action = action; group = []; quiet = false })) c.self.view_is (refused (state_of i) c.args.txn c.args.moment c.args.login.now (rw (length-map i.outbox.items (λ (framed : FramedRequest). framed.request)) h)) in
    ([], Tells-none _, refl, subst (λ (s : State). Makes c.args.self.now s (record { action = action; group = []; quiet = false })) (sym c.warn_refused.ensures) stays, refl)

pub invariant_of-self : goal.invariant_of-self
invariant_of-self g c =
    let same = c.in_err-hold.ensures.err in
    let i = c.self.invariant in
    record { host = i.host; run = i.run; tries = i.tries; places = rw same i.places; numbers = rw same i.numbers; held = subst AllHeld (sym same) i.held; outbox = i.outbox }

pub invariant_of-self-2 : goal.invariant_of-self-2
invariant_of-self-2 g c =
    let i = c.self.invariant in
    let s = c.self.inside in
    let free : refuses (find s.held c.args.txn) (length s.held) s.numbers (length s.outbox.items) c.args.moment c.args.login.now ≡ false = search rules in
    let room = has_room _ _ s.numbers _ c.args.moment c.args.login.now free i.places i.numbers in
    let len = c.count.ensures.len ∙ c.in_ok-hold.ensures.len in
    let found = held_and_counted c.args.txn c.args.moment c.args.login.now c.send_reserve-asking.result.answer s.held c.hold.new.self c.count.new.self c.in_ok-hold.ensures.find c.count.ensures.find in
    record {
      host = i.host;
      run = i.run;
      tries = i.tries;
      places = room.places (length c.count.new.self) len;
      numbers = room.numbers (length c.count.new.self) len;
      held = asked_in_range s.held c.count.new.self c.args.txn c.args.moment c.args.login.now c.send_reserve-asking.result.answer (room.few c.args.moment c.args.login.now) found i.held c.requires.txn c.requires.moment c.requires.login;
      outbox = i.outbox;
    }

pub returns-clause-ok : goal.returns-clause-ok
returns-clause-ok g c =
    let (group, decided, told, tries, answer, late) = c.send_reserve-asking.ensures in
    let i = c.self.inside in
    let d : State = record (state_of i) { held = c.count.new.self; numbers = i.numbers + 1 } in
    let free : refuses (find i.held c.args.txn) (length i.held) i.numbers (length i.outbox.items) c.args.moment c.args.login.now ≡ false = search rules in
    let found = held_and_counted c.args.txn c.args.moment c.args.login.now c.send_reserve-asking.result.answer i.held c.hold.new.self c.count.new.self c.in_ok-hold.ensures.find c.count.ensures.find in
    let by : (t : ℕ) → find c.count.new.self t ≡ (if c.args.txn == t then Some (let_through (answer_by decided) (opened c.args.moment c.args.login.now (find i.held c.args.txn))) else find i.held t) = rw answer at found in
    let tries_of = rw (c.in_ok-reserve.ensures.request) at tries in (
      group,
      told,
      answer ∙ sym (answer_of_tries i.tries _ group decided tries),
      subst (λ (s : State). Makes s d (record { action = Ask c.args.txn c.args.moment c.args.login.now; group = group; quiet = false })) c.self.view_is (asked (state_of i) d c.args.txn c.args.moment c.args.login.now group decided c.self.invariant.tries.from refl refl (rw (length-map i.outbox.items (λ (framed : FramedRequest). framed.request)) free) tries_of by
          (c.count.ensures.len ∙ c.in_ok-hold.ensures.len) refl refl),
      late,
    )
