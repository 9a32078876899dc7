use Rattle.std.proofs.Common.{◌≡◌, ℕ, List, refl, ◌∙◌, None}
use Rattle.mq_rows.proofs.Words.{Entry, Request, id_of, with_arrival}
use Rattle.mq_ledger.proofs.Books.{arrival_of_known}
use Rattle.mq_rows.proofs.laws.nothing_is_added.Goals as goal

taken_none : (day : ℕ → ℕ) (default : ℕ) (H : List Entry) (r : Request) → id_of r ≡ None → with_arrival day default H r ≡ H
taken_none day default H r h = rw h refl

pub returns-clause-unnumbered : goal.returns-clause-unnumbered
returns-clause-unnumbered c = λ day default H r legal h. c.one_more_arrival.ensures.legal day default H r legal ∙ taken_none day default H r h

pub returns-clause-known : goal.returns-clause-known
returns-clause-known c = λ day default H r legal h. c.one_more_arrival.ensures.legal day default H r legal ∙ arrival_of_known day default H r (id_of r) h
