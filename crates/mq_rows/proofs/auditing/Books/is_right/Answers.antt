use Rattle.std.proofs.Common.{◌≡◌, ◌∙◌, ap, pos, refl, to_z, of_z, w64, arith, find, Option, Some, None, option_map, unwrap_or}
use Rattle.mq_rows.proofs.Words.{Amounts, UsageFigures, amounts_of, cap_or, day_of, governing, ints, same_pair, sums_of, transactions_of}
use Rattle.mq_rows.specs.Audit.{settled_by, reserved_by}
use Rattle.mq_rows.specs.Inside.{are_right}
use Rattle.mq_rows.proofs.auditing.Books.is_right.Goals as goal

abbrev no_amounts : Amounts
no_amounts = record { settled = pos 0; reserved = pos 0 }

abbrev amounts_by : Option UsageFigures → Amounts
amounts_by o = record { settled = settled_by o; reserved = reserved_by o }

amounts_or : (o : Option UsageFigures) → unwrap_or (option_map amounts_of o) no_amounts ≡ amounts_by o
amounts_or None = refl
amounts_or (Some u) = refl

pub returns : goal.returns
returns c = λ zone default f books same.
    let p = c.args.pair.now in
    let u : c.unwrap_or-usage.result ≡ amounts_by (find (λ u. same_pair p u.pair) f.usage) =
    c.unwrap_or-usage.ensures ∙ ap (λ o. unwrap_or o no_amounts) (ap (λ d. d.usage) same ∙ books.usage p) ∙ amounts_or (find (λ u. same_pair p u.pair) f.usage) in
    let s : c.args.day.sums ≡ sums_of (day_of zone) (transactions_of p f.transactions) = ap (λ d. d.sums) same ∙ books.sums p in
    let exact : to_z w64 (of_z w64 c.cap_of.result) ≡ c.cap_of.result = omega (arith, ints) in
    let k : to_z w64 (of_z w64 c.cap_of.result) ≡ cap_or default (governing p f.limits) = exact ∙ c.cap_of.ensures f.limits books.caps ∙ ap (λ n. cap_or n (governing p f.limits)) books.default_is in
    c.are_right.ensures ∙ (λ i. are_right (u i) (s i) (k i))
