use Rattle.std.proofs.Common.{refl}
use Rattle.sqlite.specs.Files.{file_state}
use Rattle.sqlite.specs.WalFiles.{image_at}
use Rattle.mq_program.proofs.Forgot.{kept_of_file}
use Rattle.mq_program.proofs.OpenedFiles.{means_still}
use Rattle.mq_program.proofs.forgetting.forget_file.Goals as goal

pub returns-clause-rows : goal.returns-clause-rows
returns-clause-rows g c kept =
    let before = file_state c.in_ok-old.old.connection in
    let after = file_state c.in_ok-old-2.old.connection in
    means_still c.args.settings.now.zone c.args.settings.now.default (image_at g.S.Start) before after kept (c.in_ok-old-2.ensures.same kept)
    (c.in_ok-old.ensures.rows refl (c.in_ok-old-2.ensures.kept kept))

pub returns-clause-counted : goal.returns-clause-counted
returns-clause-counted g c kept =
    let before = c.in_ok-old.old in
    let (zone_is, default_is) = c.in_ok-old.ensures.lent in
    kept_of_file c.args.settings.now.zone before.zone c.args.settings.now.default before.default (image_at g.S.Start) (file_state before.connection) _ _ zone_is default_is
    (c.in_ok-old-2.ensures.counted kept) (c.in_ok-old.ensures.rows refl (c.in_ok-old-2.ensures.kept kept))
