-- What is seen of a request, over what was there before it.
use Rattle.std.proofs.Common.{◌≡◌, ℕ, List, Option, Result, ap, sym, subst}
use Rattle.std.specs.declared.net.SocketAddr.{SocketAddr}
use Rattle.mq_permits.specs.declared.peer.Peer.{Peer}
use Rattle.mq_request.specs.declared.message.Reply.{Reply}
use Rattle.mq_request.specs.declared.message.Request.{Request}
use Rattle.mq_ledger.specs.declared.ledger.LedgerFault.{LedgerFault}
use Rattle.mq_ledger.specs.declared.ledger.ReportedCall.{ReportedCall}
use Rattle.mq_ledger.specs.declared.zone.Zone.{Zone}
use Rattle.mq_ledger.specs.Day.{day_of}
use Rattle.mq_ledger.specs.Legal.{Book}
use Rattle.mq_watch.specs.Asked.{IsAsked}
use Rattle.mq_watch.specs.Seen.{Sees, SeesPut, TellsUse}
use Rattle.mq_watch.specs.declared.notes.Notes.{Notes}
use Rattle.mq_watch.specs.declared.notice.Notice.{Notice}
use Rattle.mq_watch.specs.declared.notice.RequestNotices.{RequestNotices}

-- one peer has one address
pub same_address : (p p' : Peer) → p' ≡ p → p'.address ≡ p.address
same_address p p' is = ap (λ (q : Peer). q.address) is

-- what is seen after a question and the request itself, which leave zone, peer and notes
pub seen_put : (z z' : Zone) (p p' : SocketAddr) (n n' new : Notes) (before : Result (Option ℕ) LedgerFault) (answer : Result Reply LedgerFault)
    (now : Option ℕ) (asked asked' : Option (List ReportedCall)) (seen : RequestNotices) (r : Request)
    → Sees (day_of z') p' before answer now asked asked' n' new seen r → z' ≡ z → p' ≡ p → n' ≡ n
    → SeesPut (day_of z) p answer now asked' n new seen r
seen_put z z' p p' n n' new before answer now asked asked' seen r sees zone peer notes = (before, asked, rw (← zone, ← peer, ← notes) sees)

-- what a line says of a login's use it says by each book with the same history
tells_still : (old new : Book) (r : Request) (main : Option Notice) → new.zone ≡ old.zone → new.default ≡ old.default → new.history ≡ old.history
    → TellsUse old r main → TellsUse new r main
tells_still old new r main z d h told =
    let same : new ≡ old = λ i. record { zone = z i; default = d i; history = h i } in
    subst (λ (b : Book). TellsUse b r main) (sym same) told

-- and so by the book that questions leave of a sound ledger
pub tells_after : {S : Type 0} {told : S → Option (List ReportedCall)} {book : S → Book} {has_kept is_sound has_store : S → Type 0} (mid new : S)
    (r : Request) (main : Option Notice) → IsAsked told book has_kept is_sound has_store mid new → (has_kept new → is_sound mid → TellsUse (book mid) r main)
    → has_kept new → (has_kept mid → is_sound mid) → TellsUse (book new) r main
tells_after mid new r main asked usage kept sound =
    let s = sound (asked.kept kept) in
    tells_still _ _ r main asked.zone asked.default (asked.history kept s) (usage kept s)
