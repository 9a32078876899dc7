use Rattle.mq_rows.specs.Rows.{is_host}
use Rattle.mq_tables.specs.Lent.{floor_row, IsFloorShown}
use Rattle.mq_tables.proofs.ByKey.{floor_is}
use Rattle.mq_tables.proofs.Finds.{found_after}
use Rattle.mq_tables.proofs.floor.find_floor.Goals as goal

pub returns-clause-found : goal.returns-clause-found
returns-clause-found g c clean =
    let host = c.args.host.now in
    found_after (is_host host) floor_row (IsFloorShown host) (floor_is host) (λ t. t.retired) _ _ c.first_floor.result (c.in_ok-rows.ensures.found clean) (rw c.as_slice.ensures.value at c.first_floor.ensures.first)
