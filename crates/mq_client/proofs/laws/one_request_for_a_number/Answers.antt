use Rattle.mq_client.proofs.Numbering.{sent_numbered, waiting_numbered, one_for_each}
use Rattle.mq_client.proofs.laws.one_request_for_a_number.Goals as goal

pub returns : goal.returns
returns c = record { sent = sent_numbered; waiting = waiting_numbered; one = one_for_each }
