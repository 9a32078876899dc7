use Rattle.std.proofs.Common.{ap, arith, leb-true, length, subst, sym, ◌∙◌, ◌≡◌, ◌≤◌}
use Rattle.mq_store.proofs.Words.{SettingRecord, was_clean}
use Rattle.mq_store.specs.Taking.{HasBook, book_of}
use Rattle.mq_store.proofs.slice.go_through.Goals as goal

pub returns-clause-through : goal.returns-clause-through
returns-clause-through g c clean through = λ H has.
    let mid = was_clean c.steps.ensures.from_leaves clean in
    let count : c.in_ok-until.until ≡ length H = c.in_ok-until.ensures.found mid has.has.tables has.has.holds ∙ ap (λ (s : SettingRecord). s.arrivals) has.has.rows.setting.row in
    let most : c.in_ok-until.until ≤ c.in_ok-reached.reached.place = leb-true c.in_ok-until.until c.in_ok-reached.reached.place (grind (arith, through)) in
    omega (arith, count, most)

pub returns-clause-counts : goal.returns-clause-counts
returns-clause-counts g c clean = λ H has.
    let mid = was_clean c.steps.ensures.from_leaves clean in
    c.in_ok-until.ensures.found mid has.has.tables has.has.holds ∙ ap (λ (s : SettingRecord). s.arrivals) has.has.rows.setting.row

pub returns-clause-renews : goal.returns-clause-renews
returns-clause-renews g c clean clean_into = λ H has carried.
    let mid = was_clean c.steps.ensures.from_leaves clean in
    let here = subst (HasBook (book_of c.args.terms.now.zone c.args.terms.now.default H)) (sym (c.in_ok-until.ensures.same mid).0.now_is) has in
    c.in_ok-reached.ensures.renews clean clean_into H here carried
