use Rattle.std.proofs.Common.{sym}
use Rattle.mq_client.proofs.Telling.{sent_as}
use Rattle.mq_client.proofs.Freeing.{heard_as}
use Rattle.mq_client.proofs.tries.send.Goals as goal

pub returns : goal.returns
returns g c =
    let (group, decided, told, tries, comes) = c.try_all.ensures in
    (group, told, sent_as _ _ group decided _ tries comes.verdict, sym comes.late, heard_as _ _ group decided _ tries comes.verdict)
