use Rattle.mq_client.proofs.ReadingOff.{standing_read, lives_read, numbers_read}
use Rattle.mq_client.proofs.WaitingOff.{waiting_read}
use Rattle.mq_client.proofs.laws.readings.Goals as goal

pub returns : goal.returns
returns c = record { standing = standing_read; live = lives_read; numbers = numbers_read; waiting = waiting_read }
