-- What the answers of a ledger with a legal history need.
use Rattle.mq_lemmas.proofs.Booleans.{neither}
use Rattle.mq_ledger.proofs.Words.{All, All-map, Book, Entry, Id, IsAmount, IsLegal, IsOpenTo, IsReply, IsRequest, IsZone, List, None, Option, Reply, Request, Some, [], answer, ap, appended, day_of, false, granted_in, history_of, id_of, if_open, is_below, is_some, known_by, neither_first}
use Rattle.mq_ledger.proofs.Words.{neither_second, not_some, refl, reply, reply_by, reply_to, requests, stored, subst, sym, transaction, true, used, with_arrival, with_arrival_by, ℕ, ◌++◌, ◌∙◌, ◌∷◌, ◌≡◌, ◌≤◌}
use Rattle.std.proofs.lemmas.List.Elements.{All-push}
use Rattle.mq_ledger.specs.Legal.{IsLegalBook}
use Rattle.mq_ledger.proofs.Clocks.{zone_days}
use Rattle.mq_ledger.proofs.Numbers.{legal_build, legal_more}
use Rattle.mq_ledger.proofs.Transactions.{entry}
use Rattle.mq_ledger.proofs.Ranges.{IsRanged, legal_ranged, used_fits, held_fits, reply_range}

pub book_ranged : (b : Book) → IsLegalBook b → IsRanged (day_of b.zone) b.default b.history
book_ranged b h = legal_ranged (day_of b.zone) b.default b.history h.default (zone_days b.zone h.zone) h.legal

pub book_used : (b : Book) → IsLegalBook b → (l : List ℕ) (d : ℕ) → used (day_of b.zone) b.history l d ≤ 1000000
book_used b h l d = used_fits (day_of b.zone) b.default b.history (book_ranged b h) l d

pub book_held : (b : Book) → IsLegalBook b → (id : Id) (txn moment : ℕ) (login : List ℕ) → IsOpenTo moment login b.history (transaction id txn) → granted_in b.history (transaction id txn) ≤ 1000000
book_held b h id txn moment login o = rw o.open_still at (held_fits (day_of b.zone) b.default b.history (book_ranged b h) id txn moment login o)

-- an open transaction gets the answer itself
pub open_answer : (H : List Entry) (id : Id) (txn moment : ℕ) (login : List ℕ) (a : Reply) → IsOpenTo moment login H (transaction id txn) → if_open H id txn moment login a ≡ a
open_answer H id txn moment login a o = rw (o.agreed, o.open_still) refl

-- Arrivals.

-- a number that isn't known is above the floor, and isn't stored
pub fresh_reply : (day : ℕ → ℕ) (default : ℕ) (H : List Entry) (r : Request) (o : Option Id) → known_by H o ≡ false → reply_to day default H r o ≡ answer day default H r
fresh_reply day default H r None h = refl
fresh_reply day default H r (Some id) h =
    let parts = neither (is_below (requests H) id) (is_some (stored H id)) h in
    let above : is_below (requests H) id ≡ false = parts.0 in
    rw above (ap (reply_by day default H r id) (not_some (stored H id) parts.1))

pub arrival_of_known : (day : ℕ → ℕ) (default : ℕ) (H : List Entry) (r : Request) (o : Option Id) → known_by H o ≡ true → with_arrival_by day default H r o ≡ H
arrival_of_known day default H r None h = refl
arrival_of_known day default H r (Some id) h = rw h refl

pub arrival_unnumbered : (day : ℕ → ℕ) (default : ℕ) (H : List Entry) (r : Request) (o : Option Id) → is_some o ≡ false → with_arrival_by day default H r o ≡ H
arrival_unnumbered day default H r None h = refl
arrival_unnumbered day default H r (Some id) h = cc

pub arrival_fresh : (day : ℕ → ℕ) (default : ℕ) (H : List Entry) (r : Request) (o : Option Id) → is_some o ≡ true → known_by H o ≡ false → with_arrival_by day default H r o ≡ appended day default H r
arrival_fresh day default H r None t h = cc
arrival_fresh day default H r (Some id) t h = rw h refl

pub legal_arrival : (day : ℕ → ℕ) (default : ℕ) (H : List Entry) (r : Request) → IsLegal day default H → IsRequest r → IsLegal day default (with_arrival day default H r)
legal_arrival day default H r legal h =
    let all : All IsRequest (requests H ++ r ∷ []) = All-push IsRequest (requests H) r (All-map IsRequest (λ e. e.request) H legal.range) h in
    subst (IsLegal day default) (legal_more day default H r legal) (legal_build day default (requests H ++ r ∷ []) all)

-- a book after an arrival
pub book_arrival : (b c : Book) (r : Request) → IsLegalBook b → IsRequest r → c.zone ≡ b.zone → c.default ≡ b.default → c.history ≡ with_arrival (day_of b.zone) b.default b.history r → IsLegalBook c
book_arrival b c r h range same_zone same_default after =
    let legal = legal_arrival (day_of b.zone) b.default b.history r h.legal range in
    record {
      zone = subst IsZone (sym same_zone) h.zone;
      default = subst IsAmount (sym same_default) h.default;
      legal = rw (same_zone, same_default, after) legal;
    }

pub book_reply : (b : Book) (r : Request) (a : Reply) → IsLegalBook b → IsRequest r → a ≡ reply (day_of b.zone) b.default b.history r → IsReply a
book_reply b r a h range is = subst IsReply (sym is) (reply_range (day_of b.zone) b.default b.history r h.default (zone_days b.zone h.zone) h.legal range)

pub book_history : (b : Book) (r : Request) (K : List Entry) → IsLegalBook b → K ≡ with_arrival (day_of b.zone) b.default b.history r → K ≡ history_of (day_of b.zone) b.default (requests b.history ++ r ∷ [])
book_history b r K h is = is ∙ sym (legal_more (day_of b.zone) b.default b.history r h.legal)

pub book_appended : (b : Book) (r : Request) (a : Reply) → known_by b.history (id_of r) ≡ false → is_some (id_of r) ≡ true → a ≡ answer (day_of b.zone) b.default b.history r → b.history ++ entry r a ∷ [] ≡ with_arrival (day_of b.zone) b.default b.history r
book_appended b r a fresh numbered is =
    ap (λ x. b.history ++ entry r x ∷ []) is ∙ sym (arrival_fresh (day_of b.zone) b.default b.history r (id_of r) numbered fresh)

pub book_fresh_reply : (b : Book) (r : Request) (a : Reply) → known_by b.history (id_of r) ≡ false → a ≡ answer (day_of b.zone) b.default b.history r → a ≡ reply (day_of b.zone) b.default b.history r
book_fresh_reply b r a fresh is = is ∙ sym (fresh_reply (day_of b.zone) b.default b.history r (id_of r) fresh)
