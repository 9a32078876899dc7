use Rattle.std.proofs.Common.{refl, sym, ◌∙◌, subst}
use Rattle.mq_line.specs.Text.{IsLine, IsTooLong}
use Rattle.mq_line.proofs.FeedLaws.{same_rest, same_held, same_room, rest_is, rest_stays, line_leaves, none_leaves, line_next, none_next, open_has_no_line, long_has_no_line, open_not_long, line_not_long}
use Rattle.mq_line.proofs.feed.LineFeed.next_line.Goals as goal

pub returns-in-Whole : goal.returns-in-Whole
returns-in-Whole c =
    let here = c.in-Whole.ensures in
    let rest = same_rest _ _ c.self.view_is in
    let same = rest_is _ _ _ c.self.inside.start c.deref.ensures.value rest in
    let cut = sym same ∙ here.1 in
    let leaves = line_leaves _ _ _ _ here.0 cut (rest_stays _ _ _ _ _ same rest) in (
      (refl, λ _. tt, (record { bytes = leaves.0; holds = leaves.1 }, same_held _ _ c.self.view_is, same_room _ _ c.self.view_is)),
      record {
        next = λ text taken holds. line_next text _ _ _ taken here.0 cut holds;
        front = (here.0, _, cut);
        none_left = tt;
        too_long = (λ e. cc, λ long. absurd (line_not_long _ _ _ here.0 cut long));
        fault = tt;
        left = tt;
      },
    )

pub returns-in-Open : goal.returns-in-Open
returns-in-Open c =
    let rest = same_rest _ _ c.self.view_is in
    let same = rest_is _ _ _ c.self.inside.start c.deref.ensures.value rest in
    let is : IsLine c.args.self.now.rest = subst IsLine same c.in-Open.ensures in (
      (refl, λ _. tt, (record { bytes = sym rest; holds = none_leaves _ _ (sym rest) }, same_held _ _ c.self.view_is, same_room _ _ c.self.view_is)),
      record {
        next = λ text taken holds. none_next text _ taken is holds;
        front = is;
        none_left = open_has_no_line _ is;
        too_long = (λ e. cc, λ long. absurd (open_not_long _ is long));
        fault = tt;
        left = tt;
      },
    )

pub returns-in-Endless : goal.returns-in-Endless
returns-in-Endless c =
    let rest = same_rest _ _ c.self.view_is in
    let same = rest_is _ _ _ c.self.inside.start c.deref.ensures.value rest in
    let is : IsTooLong c.args.self.now.rest = subst IsTooLong same c.in-Endless.ensures.0 in (
      (refl, λ _. tt, (record { bytes = sym rest; holds = none_leaves _ _ (sym rest) }, same_held _ _ c.self.view_is, same_room _ _ c.self.view_is)),
      record {
        next = λ text taken holds. tt;
        front = tt;
        none_left = long_has_no_line _ is;
        too_long = (λ e. is, λ long. refl);
        fault = refl;
        left = tt;
      },
    )
