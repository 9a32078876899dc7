use Rattle.mq_ledger.proofs.Words.{Entry, List, Request, [], ap, floor, map-append, refl, requests, transaction, ℕ, ◌∙◌, ◌∷◌, ◌≡◌}
use Rattle.mq_ledger.proofs.Transactions.{floor_push, has_retired_run_push}
use Rattle.mq_ledger.proofs.laws.one_more_floor.Goals as goal

pub returns-clause-floor : goal.returns-clause-floor
returns-clause-floor c = λ H e h. ap (λ (rs : List Request). floor rs h) (map-append (λ (x : Entry). x.request) H (e ∷ [])) ∙ floor_push (requests H) e.request h

pub returns-clause-below : goal.returns-clause-below
returns-clause-below c = λ H e id txn. has_retired_run_push H e (transaction id txn)

nothing : (h : List ℕ) → floor [] h ≡ 0
unfolding floor
nothing h = refl

pub returns-clause-none : goal.returns-clause-none
returns-clause-none c = nothing
