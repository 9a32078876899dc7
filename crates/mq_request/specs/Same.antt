-- When two texts, ids or requests are the same, as tests that compute.
use Rattle.std.specs.Prelude.{ℕ, List, Bool, false, ◌==◌, ◌&&◌, nat_eq}
use Rattle.std.specs.Cmp.Lexicographic.{pointwise}
use Rattle.mq_request.specs.declared.message.Id.{Id}
use Rattle.mq_request.specs.declared.message.Request.{Request}
use Rattle.mq_request.specs.declared.message.Request.TheVariants.{Reserve, Settle, Release}
use Rattle.mq_request.specs.declared.message.Request.TheVariants.{Limit, Usage, List as ListRequest, Retire}

-- byte for byte
abbrev pub same_text : List ℕ → List ℕ → Bool
same_text a b = pointwise nat_eq a b

-- the same host, run and number
abbrev pub same_id : Id → Id → Bool
same_id a b = same_text a.host b.host && ((a.run == b.run) && (a.number == b.number))

-- the same kind and the same fields
abbrev pub same_request : Request → Request → Bool
same_request (Reserve id txn moment login count) (Reserve id' txn' moment' login' count') =
    same_id id id' && ((txn == txn') && ((moment == moment') && (same_text login login' && (count == count'))))
same_request (Settle id txn moment login count) (Settle id' txn' moment' login' count') =
    same_id id id' && ((txn == txn') && ((moment == moment') && (same_text login login' && (count == count'))))
same_request (Release id txn moment login) (Release id' txn' moment' login') =
    same_id id id' && ((txn == txn') && ((moment == moment') && same_text login login'))
same_request (Limit id from_day cap login) (Limit id' from_day' cap' login') =
    same_id id id' && ((from_day == from_day') && ((cap == cap') && same_text login login'))
same_request (Usage login day) (Usage login' day') = same_text login login' && (day == day')
same_request (ListRequest day after) (ListRequest day' after') = (day == day') && same_text after after'
same_request (Retire id) (Retire id') = same_id id id'
same_request _ _ = false
