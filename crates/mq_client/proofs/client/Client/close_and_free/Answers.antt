use Rattle.std.proofs.Common.{◌≡◌, ℕ, ◌+◌, List, [], ◌∷◌, ◌++◌, refl, sym, ap, ◌∙◌, subst, rules, arith, None, Some}
use Rattle.mq_client.proofs.Words.{Close, FramedRequest, Makes, Request, Sends, State, closing_of, find, map-append, requests_of, state_of}
use Rattle.mq_lemmas.proofs.Telling.{Tells-none}
use Rattle.mq_client.proofs.Making.{closed, closed_nothing}
use Rattle.mq_client.proofs.Keeping.{closed_in_range}
use Rattle.mq_client.proofs.Freeing.{freed_none}
use Rattle.mq_client.proofs.client.Client.close_and_free.Goals as goal

pub returns-in_default-clause-ok : goal.returns-in_default-clause-ok
returns-in_default-clause-ok g c =
    let i = c.self.inside in
    let absent : find i.held c.args.closing.txn ≡ None = search rules in
    ([], Tells-none _, subst (λ (s : State). Makes s s (record { action = Close c.args.closing.txn c.args.closing.end; group = []; quiet = c.args.paused })) c.self.view_is (closed_nothing (state_of i) c.args.closing.txn c.args.closing.end c.args.paused absent), refl, ap (λ k. (c.args.holdup.now.0, k)) (sym (freed_none c.args.holdup.now.1)))

pub framed_closing-requires-clause-held : goal.framed_closing-requires-clause-held
framed_closing-requires-clause-held g c =
    let there : find c.self.inside.held c.args.closing.txn ≡ Some c.in-Some.known.now = search rules in
    c.self.invariant.held c.args.closing.txn c.in-Some.known.now there

pub invariant_of-self-2 : goal.invariant_of-self-2
invariant_of-self-2 g c =
    let i = c.self.invariant in
    let len = c.release.ensures.len in
    let left = c.send_all-timed_out.ensures.len in
    let pushed = c.in_ok-push_back.ensures.len in
    record {
      host = i.host;
      run = i.run;
      tries = i.tries;
      places = omega (arith, i.places, len, left, pushed);
      numbers = omega (arith, i.numbers, len);
      held = closed_in_range c.self.inside.held c.release.new.self c.args.closing.txn c.release.ensures.find i.held;
      outbox = c.send_all-timed_out.ensures.framed;
    }

pub returns-clause-ok : goal.returns-clause-ok
returns-clause-ok g c =
    let (group, told, sends, late, freed) = c.send_all-timed_out.ensures.step in
    let i = c.self.inside in
    let d : State = record (state_of i) { held = c.release.new.self; numbers = i.numbers + 1; waiting = requests_of c.send_all-timed_out.new.outbox.items } in
    let there : find i.held c.args.closing.txn ≡ Some c.in-Some.known.now = search rules in
    let pushed = ap requests_of c.in_ok-push_back.ensures.items ∙ map-append (λ (framed : FramedRequest). framed.request) i.outbox.items _ ∙ ap (λ q. requests_of i.outbox.items ++ q ∷ []) (c.in_ok-framed.ensures.request) in
    let q = closing_of d.source (i.numbers + 1) c.args.closing.txn c.args.closing.end c.in-Some.known.now in (
      group,
      told,
      subst (λ (s : State). Makes s d (record { action = Close c.args.closing.txn c.args.closing.end; group = group; quiet = c.args.paused })) c.self.view_is (closed (state_of i) d c.args.closing.txn c.args.closing.end c.args.paused c.in-Some.known.now group refl refl there (subst (λ (n : ℕ). Sends n (requests_of i.outbox.items ++ q ∷ []) group (requests_of c.send_all-timed_out.new.outbox.items)) c.tries_in-tries.ensures (subst (λ (w : List Request). Sends c.tries_in-tries.result w group (requests_of c.send_all-timed_out.new.outbox.items)) pushed sends)) c.release.ensures.find c.release.ensures.len refl),
      late,
      freed,
    )
