use Rattle.std.proofs.Common.{◌≡◌, ◌∙◌, sym, subst, ℤ, to_z, of_z, w64, FitsSigned, arith, rules}
use Rattle.mq_rows.proofs.Words.{IsLeastWrong, day_of, ints, is_right, keys, pairs}
use Rattle.mq_rows.proofs.Booking.{keys_in_rows, rows_in_keys}
use Rattle.mq_rows.proofs.Scanning.{all_right, least_of}
use Rattle.mq_rows.proofs.auditing.Books.audit.Goals as goal

pub returns-in-Some : goal.returns-in-Some
returns-in-Some c = λ zone default f books.
    let days = c.args.self.now.days in
    let it = least_of (is_right (day_of zone) default f) (keys days) (pairs f) (keys_in_rows (pairs f) days books.known) (rows_in_keys (pairs f) days books.known) c.in-Some.field-0
    (sym c.in-Some.is ∙ c.in_ok-login.ensures zone default f books) in
    let least : IsLeastWrong (day_of zone) default f c.in-Some.field-0 = record { among = it.0; wrong = it.1; least = it.2 } in
    let fits : FitsSigned w64 c.in-Some.field-0.day = search rules in
    let exact : to_z w64 (of_z w64 c.in-Some.field-0.day) ≡ c.in-Some.field-0.day = omega (arith, ints) in
    subst (λ (d : ℤ). IsLeastWrong (day_of zone) default f (record { login = c.in-Some.field-0.login; day = d })) (sym exact) least

pub returns-in-None : goal.returns-in-None
returns-in-None c = λ zone default f books.
    let days = c.args.self.now.days in (
      all_right (is_right (day_of zone) default f) (keys days) (pairs f) (keys_in_rows (pairs f) days books.known) (rows_in_keys (pairs f) days books.known) (sym c.in-None.is ∙ c.in_ok-login.ensures zone default f books),
      books.usage_rows,
      books.transaction_rows,
    )
