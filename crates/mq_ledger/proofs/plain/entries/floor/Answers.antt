use Rattle.mq_ledger.proofs.Words.{Entry, List, Request, [], ap, floor, greater, map-append, raised, requests, sym, take, take_more, ◌∙◌, ◌∷◌}
use Rattle.std.proofs.lemmas.List.{take_all}
use Rattle.mq_ledger.proofs.Transactions.{floor_push, floor_none}
use Rattle.mq_ledger.proofs.plain.entries.floor.Goals as goal

pub loop-entry-init : goal.loop-entry-init
loop-entry-init c = sym (floor_none c.args.host.now)

pub loop-entry-preserved : goal.loop-entry-preserved
loop-entry-preserved c =
    let x = c.entry-item.result in
    let h = c.args.host.now in
    let H : List Entry = take c.loop-entry.entry-index c.args.entries.now in
    rw (take_more c.args.entries.now c.loop-entry.entry-index x c.loop-entry-test.true, ← c.entry-item.is)
    (c.greater-run.ensures ∙ ap (greater c.loop-entry.run) c.raised.ensures ∙ ap (λ n. greater n (raised h x.request)) c.loop-entry.invariant
    ∙ sym (ap (λ (rs : List Request). floor rs h) (map-append (λ (e : Entry). e.request) H (x ∷ [])) ∙ floor_push (requests H) x.request h))

pub returns : goal.returns
returns c =
    c.loop-entry.invariant ∙ ap (λ (H : List Entry). floor (requests H) c.args.host.now) (take_all c.loop-entry.entry-index c.args.entries.now c.loop-entry-test.false)
