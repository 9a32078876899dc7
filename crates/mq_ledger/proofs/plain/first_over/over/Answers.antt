use Rattle.mq_ledger.proofs.Words.{IsDay, None, Some, arith, day_of, days_from, inl, inr, le_or_lt, least, option_cases, sym, used, ◌<◌, ◌∙◌, ◌≡◌, ◌≤◌}
use Rattle.mq_ledger.proofs.Overs.{nothing_before, nothing_on, next_after, least_is_over}
use Rattle.mq_ledger.proofs.plain.first_over.over.Goals as goal

pub returns-then-cap-used : goal.returns-then-cap-used
returns-then-cap-used c =
    let day = day_of c.args.zone in
    let H = c.args.entries.now in
    let l = c.args.login.now in
    let next : least (days_from day H l c.days.start) ≡ Some c.in-Some.day = sym c.next_day.ensures.value ∙ c.in-Some.is in
    let more : c.args.cap < used day H l c.in-Some.day = rw c.used.ensures at c.if-cap-used.true in
    let after = next_after day H l c.days.start c.in-Some.day next in
    least_is_over day H l c.args.from c.args.cap (Some c.in-Some.day) (
      omega (arith, after, c.days.invariant.goes_on),
      more,
      λ e le before. elim (le_or_lt c.days.start e) [
        | inl later ↦ omega (arith, nothing_before day H l c.days.start c.in-Some.day next e later before)
        | inr earlier ↦ c.days.invariant.none_before e le earlier
      ],
    )

pub days-smaller : goal.days-smaller
days-smaller c =
    let next = sym c.next_day.ensures.value ∙ c.in-Some.is in
    let after = next_after (day_of c.args.zone) c.args.entries.now c.args.login.now c.days.start c.in-Some.day next in
    let range : IsDay c.in-Some.day = rw c.in-Some.is at c.next_day.ensures.in_range in
    omega (arith, after, range.to)

pub days-preserved : goal.days-preserved
days-preserved c =
    let day = day_of c.args.zone in
    let H = c.args.entries.now in
    let l = c.args.login.now in
    let next : least (days_from day H l c.days.start) ≡ Some c.in-Some.day = sym c.next_day.ensures.value ∙ c.in-Some.is in
    let room : used day H l c.in-Some.day ≤ c.args.cap = rw c.used.ensures at c.if-cap-used.false in
    let after = next_after day H l c.days.start c.in-Some.day next in
    record {
      goes_on = omega (arith, after, c.days.invariant.goes_on);
      none_before = λ e le before. elim (le_or_lt c.days.start e) [
        | inr earlier ↦ c.days.invariant.none_before e le earlier
        | inl later ↦ elim (le_or_lt c.in-Some.day e) [
          | inr sooner ↦ omega (arith, nothing_before day H l c.days.start c.in-Some.day next e later sooner)
          | inl reached ↦ (let same : c.in-Some.day ≡ e = omega arith in rw (← same) room)
        ]
      ];
    }

pub returns : goal.returns
returns c =
    let day = day_of c.args.zone in
    let H = c.args.entries.now in
    let l = c.args.login.now in
    elim (option_cases c.next_day.result) [
      | inr p ↦ absurd (c.in_default.not-Some p.0 p.1)
      | inl none ↦ (let next : least (days_from day H l c.days.start) ≡ None = sym c.next_day.ensures.value ∙ none in
          least_is_over day H l c.args.from c.args.cap None (λ e le. elim (le_or_lt c.days.start e) [
            | inl later ↦ omega (arith, nothing_on day H l c.days.start next e later)
            | inr earlier ↦ c.days.invariant.none_before e le earlier
          ]))
    ]
