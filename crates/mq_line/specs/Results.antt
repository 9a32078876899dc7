-- What a filter writes to smtpd.
use Rattle.std.specs.Prelude.{ℕ, List, [], ◌∷◌, ◌++◌, codes}
use Rattle.std.specs.Borrow.{Bor}
use Rattle.std.specs.List.{flat_map}
use Rattle.mq_line.specs.Pieces.{joined}
use Rattle.mq_line.specs.Text.{text_of}
use Rattle.mq_line.specs.declared.results.Decision.{Decision}
use Rattle.mq_line.specs.declared.results.Decision.TheVariants.{Proceed, RejectLimit, RejectService}

-- the reports and the requests that the filter asks for
abbrev pub registration : List ℕ
registration = text_of (
    codes "register|report|smtp-in|link-auth"
    ∷ codes "register|report|smtp-in|link-disconnect"
    ∷ codes "register|report|smtp-in|tx-begin"
    ∷ codes "register|report|smtp-in|tx-commit"
    ∷ codes "register|report|smtp-in|tx-rollback"
    ∷ codes "register|report|smtp-in|tx-reset"
    ∷ codes "register|filter|smtp-in|rcpt-to"
    ∷ codes "register|ready"
    ∷ [])

-- what smtpd is to do
abbrev pub answer : Decision → List ℕ
answer Proceed = codes "proceed"
answer RejectLimit = codes "reject|550 daily recipient limit reached"
answer RejectService = codes "reject|451 quota service unavailable"

-- the answer to the request with this session and this token
abbrev pub result_text : List ℕ → List ℕ → Decision → List ℕ
result_text session token decision = joined (codes "filter-result" ∷ session ∷ token ∷ answer decision ∷ []) ++ 10 ∷ []

-- some slices in a row
abbrev pub in_a_row : List (Bor (List ℕ)) → List ℕ
in_a_row parts = flat_map (λ part. part.now) parts
