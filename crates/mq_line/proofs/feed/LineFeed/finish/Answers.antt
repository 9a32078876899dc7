use Rattle.std.proofs.Common.{sym, ◌∙◌}
use Rattle.mq_line.proofs.FeedLaws.{same_rest, rest_is, nothing_has_no_line, line_not_long, line_some}
use Rattle.mq_line.proofs.feed.LineFeed.finish.Goals as goal

pub returns-then-is_empty-clause-all_taken : goal.returns-then-is_empty-clause-all_taken
returns-then-is_empty-clause-all_taken c =
    let same = rest_is _ _ _ c.self.inside.start c.deref.ensures.value (same_rest _ _ c.self.view_is) in
    nothing_has_no_line _ _ same (sym c.is_empty.ensures ∙ c.if-is_empty.true)

pub returns-in-Whole-clause-too_long : goal.returns-in-Whole-clause-too_long
returns-in-Whole-clause-too_long c =
    let here = c.in-Whole.ensures in
    let same = rest_is _ _ _ c.self.inside.start c.deref.ensures.value (same_rest _ _ c.self.view_is) in
    (λ e. cc, λ long. absurd (line_not_long _ _ _ here.0 (sym same ∙ here.1) long))

pub returns-in-Whole-clause-cut_line : goal.returns-in-Whole-clause-cut_line
returns-in-Whole-clause-cut_line c e =
    let here = c.in-Whole.ensures in
    let same = rest_is _ _ _ c.self.inside.start c.deref.ensures.value (same_rest _ _ c.self.view_is) in
    let cut = sym same ∙ here.1 in
    (line_some _ _ _ cut, line_not_long _ _ _ here.0 cut)
