use Rattle.mq_client.proofs.Numbering.{all_settle, all_suit}
use Rattle.mq_client.proofs.laws.settles_are_of_what_was_let.Goals as goal

pub returns : goal.returns
returns c = record { settles = all_settle; suits = all_suit }
