use Rattle.std.proofs.Common.{refl, sym, subst}
use Rattle.sqlite.specs.Files.{file_state}
use Rattle.sqlite.specs.WalFiles.{image_at}
use Rattle.mq_store.specs.Soundness.{HasKept}
use Rattle.mq_program.specs.Opened.{IsMadeIn}
use Rattle.mq_program.proofs.making.init_file.Goals as goal

pub returns-clause-made : goal.returns-clause-made
returns-clause-made g c =
    let settings = c.args.settings.now in
    subst (λ l. HasKept (file_state l.connection) → IsMadeIn settings.zone settings.default (image_at g.S.Start) (file_state l.connection)) (sym c.in_ok-ledger-2.ensures.same)
    (c.in_ok-ledger.ensures.made refl)
