use Rattle.std.proofs.Common.{◌≡◌, ℕ, ◌+◌, ◌++◌, ◌∷◌, [], List, ◌∙◌, ap, sym, take, drop, append_assoc}
use Rattle.std.proofs.lemmas.List.{take_more, drop_more}
use Rattle.mq_request.specs.declared.message.Request.{Request}
use Rattle.mq_request.specs.declared.message.Reply.{Reply}
use Rattle.mq_ledger.specs.declared.entry.Entry.{Entry}
use Rattle.mq_ledger.specs.Answer.{reply, replies_after, with_arrival, history_of}
use Rattle.mq_ledger.specs.Day.{day_of}
use Rattle.mq_ledger.specs.History.{requests}
use Rattle.mq_ledger.specs.Legal.{IsLegal}
use Rattle.mq_ends_tests.proofs.server_end.ledger.callers.apply_all.Goals as goal

-- an arrival at the ledger is one more arrival of all
history_step : (day : ℕ → ℕ) (default : ℕ) (A xs : List Request) (r : Request) (H K : List Entry) → H ≡ history_of day default (A ++ xs) → K ≡ history_of day default (requests H ++ r ∷ []) → history_of day default (requests H ++ r ∷ []) ≡ with_arrival day default H r → history_of day default ((A ++ xs) ++ r ∷ []) ≡ with_arrival day default (history_of day default (A ++ xs)) r → K ≡ history_of day default (A ++ (xs ++ r ∷ []))
history_step day default A xs r H K so_far grown legal arrived =
    grown ∙ legal ∙ ap (λ (L : List Entry). with_arrival day default L r) so_far ∙ sym arrived ∙ ap (history_of day default) (append_assoc A xs (r ∷ []))

replies_step : (day : ℕ → ℕ) (default : ℕ) (A xs rest left : List Request) (r : Request) (H : List Entry) (out all : List Reply) (a : Reply) → H ≡ history_of day default (A ++ xs) → a ≡ reply day default H r → left ≡ r ∷ rest → out ++ replies_after day default (A ++ xs) left ≡ all → (out ++ a ∷ []) ++ replies_after day default (A ++ (xs ++ r ∷ [])) rest ≡ all
replies_step day default A xs rest left r H out all a so_far told is h =
    let first : a ≡ reply day default (history_of day default (A ++ xs)) r = told ∙ ap (λ (L : List Entry). reply day default L r) so_far in
    append_assoc out (a ∷ []) (replies_after day default (A ++ (xs ++ r ∷ [])) rest)
    ∙ ap (λ (x : Reply). out ++ (x ∷ replies_after day default (A ++ (xs ++ r ∷ [])) rest)) first
    ∙ ap (λ (B : List Request). out ++ (reply day default (history_of day default (A ++ xs)) r ∷ replies_after day default B rest)) (sym (append_assoc A xs (r ∷ [])))
    ∙ ap (λ (ls : List Request). out ++ replies_after day default (A ++ xs) ls) (sym is)
    ∙ h

pub loop-request-preserved : goal.loop-request-preserved
loop-request-preserved g c =
    let before = c.loop-request.invariant in
    let told = c.in_ok-reply.ensures in
    let laws = c.one_more_arrival.ensures in
    let book = g.L.Ledger.book in
    let day = day_of (book c.args.ledger.now).zone in
    let default = (book c.args.ledger.now).default in
    let A = requests (book c.args.ledger.now).history in
    let rs = c.args.requests.now in
    let i = c.loop-request.request-index in
    let r = c.request-item.result in
    let left : drop i rs ≡ r ∷ drop (i + 1) rs = drop_more rs i r c.loop-request-test.true ∙ ap (λ (x : Request). x ∷ drop (i + 1) rs) (sym c.request-item.is) in
    rw (take_more rs i r c.loop-request-test.true, ← c.request-item.is)
    record {
      was_kept = λ k. before.was_kept (told.kept k);
      stays_sound = λ k s. told.sound k (before.stays_sound (told.kept k) s);
      same_zone = told.same_zone ∙ before.same_zone;
      same_default = told.same_default ∙ before.same_default;
      history_so_far = λ k s.
          let sound_before = before.stays_sound (told.kept k) s in
          let legal : IsLegal day default (book c.loop-request.ledger).history = rw (before.same_zone, before.same_default) at (g.met.L.Ledger.sound_is_legal c.loop-request.ledger sound_before).legal in
          history_step day default A (take i rs) r (book c.loop-request.ledger).history _ (before.history_so_far (told.kept k) s)
          (rw (before.same_zone, before.same_default) at (told.history k sound_before))
          (laws.legal day default (book c.loop-request.ledger).history r legal)
          (laws.arrived day default (A ++ take i rs) r);
      replies_so_far = λ k s.
          let sound_before = before.stays_sound (told.kept k) s in
          let grown : c.push.new.self.items ≡ c.loop-request.replies.items ++ c.in_ok-reply.reply ∷ [] = rw (sym c.in_ok-map_err.ensures.variant) at c.push.ensures.items in
          rw grown (replies_step day default A (take i rs) (drop (i + 1) rs) (drop i rs) r (book c.loop-request.ledger).history c.loop-request.replies.items _ c.in_ok-reply.reply (before.history_so_far (told.kept k) s)
          (rw (before.same_zone, before.same_default) at (told.reply k sound_before)) left (before.replies_so_far (told.kept k) s));
    }
