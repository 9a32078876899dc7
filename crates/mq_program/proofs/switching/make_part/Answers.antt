use Rattle.std.proofs.Common.{refl}
use Rattle.sqlite.specs.Files.{file_state}
use Rattle.mq_program.proofs.OpenedFiles.{is_free}
use Rattle.mq_program.proofs.switching.make_part.Goals as goal

pub returns : goal.returns
returns g c clean =
    let (opens, live) = c.in_ok-connection.ensures.opened clean in
    is_free _ (file_state c.in_ok-connection.connection) c.empty_databases_have_no_table.ensures opens live (c.in_ok-connection.ensures.found clean) refl
