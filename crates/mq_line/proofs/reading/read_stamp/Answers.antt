use Rattle.std.proofs.Common.{◌≡◌, sym, ◌∙◌}
use Rattle.std.specs.Prelude.{codes}
use Rattle.std.proofs.lemmas.Bool.{not-false}
use Rattle.std.proofs.lemmas.Slice.Eq.{bytes_eq-Decides}
use Rattle.mq_line.proofs.GrammarLaws.{is_stamp, is_unnamed}
use Rattle.mq_line.proofs.reading.read_stamp.Goals as goal

pub returns-then-has_empty : goal.returns-then-has_empty
returns-then-has_empty c =
    let same : c.args.version.now ≡ codes "0.7" = (bytes_eq-Decides _ _).0 (not-false _ (sym c.ne.ensures ∙ c.if-ne.false)) ∙ c.as_slice.ensures in
    is_unnamed c.args.version.now c.args.time.now c.args.names.now c.in-Some.seconds same c.in-Some.ensures (sym c.has_empty.ensures ∙ c.if-has_empty.true)

pub returns : goal.returns
returns c =
    let same : c.args.version.now ≡ codes "0.7" = (bytes_eq-Decides _ _).0 (not-false _ (sym c.ne.ensures ∙ c.if-ne.false)) ∙ c.as_slice.ensures in
    is_stamp c.args.version.now c.args.time.now c.args.names.now c.in-Some.seconds same c.in-Some.ensures (sym c.has_empty.ensures ∙ c.if-has_empty.false)
