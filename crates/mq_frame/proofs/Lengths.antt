-- How long a body is.
use Rattle.std.proofs.Common.{ℕ, ◌+◌, ◌*◌, ◌≤◌, List, [], ◌∷◌, ◌++◌, length, arith}
use Rattle.std.specs.List.{All, flat_map}
use Rattle.std.proofs.lemmas.List.{length-append}
use Rattle.std.proofs.lemmas.List.Elements.{All-head, All-tail}
use Rattle.mq_request.specs.Range.{IsWithin, IsId, IsLogin, IsRow, IsPage, IsRequest, IsReply}
use Rattle.mq_frame.specs.Spelling.{with_length, in_4_bytes, in_8_bytes, id_bytes, transaction_bytes, row_bytes, page_bytes, request_body, reply_body}
use Rattle.mq_request.specs.declared.message.Id.{Id}
use Rattle.mq_request.specs.declared.message.Request.{Request}
use Rattle.mq_request.specs.declared.message.Request.TheVariants.{Reserve, Settle, Release, Limit, Usage, List as ListRequest, Retire}
use Rattle.mq_request.specs.declared.message.Reply.{Reply}
use Rattle.mq_request.specs.declared.message.Reply.TheVariants.{Granted, Full, Settled, Released, LimitSet, Over, Closed, Mismatch, TooMany, Conflict, Usage as UsageReply, List as ListReply, Retry, Bad, Retired, Old}
use Rattle.mq_request.specs.declared.usage.UsageRow.{UsageRow}

length_then : (a b : List ℕ) (n m k : ℕ) → length a ≤ n → length b ≤ m → n + m ≤ k → length (a ++ b) ≤ k
length_then a b n m k h i j = omega (arith, h, i, j, length-append a b)

length_id : (i : Id) → IsId i → length (id_bytes i) ≤ 77
length_id i h = length_then (with_length i.host) (in_8_bytes i.run ++ in_4_bytes i.number) 65 12 77 (omega (arith, h.host.size.to)) (omega arith) (omega arith)

length_login : (low : ℕ) (l : List ℕ) → IsWithin low 255 (length l) → length (with_length l) ≤ 256
length_login low l h = omega (arith, h.to)

length_transaction : (i : Id) (txn moment : ℕ) (l : List ℕ) → IsId i → IsLogin l → length (transaction_bytes i txn moment l) ≤ 345
length_transaction i txn moment l h g =
    length_then (id_bytes i) (in_4_bytes txn ++ (in_8_bytes moment ++ with_length l)) 77 268 345 (length_id i h)
    (length_then (in_4_bytes txn) (in_8_bytes moment ++ with_length l) 4 264 268 (omega arith) (length_then (in_8_bytes moment) (with_length l) 8 256 264 (omega arith) (length_login 1 l g) (omega arith)) (omega arith)) (omega arith)

pub longest_request : (r : Request) → IsRequest r → length (request_body r) ≤ 350
longest_request (Reserve i txn moment l count) h = let t = length_then (transaction_bytes i txn moment l) (in_4_bytes count) 345 4 349 (length_transaction i txn moment l h.0 h.3) (omega arith) (omega arith) in omega (arith, t)
longest_request (Settle i txn moment l count) h = let t = length_then (transaction_bytes i txn moment l) (in_4_bytes count) 345 4 349 (length_transaction i txn moment l h.0 h.3) (omega arith) (omega arith) in omega (arith, t)
longest_request (Release i txn moment l) h = let t = length_transaction i txn moment l h.0 h.3 in omega (arith, t)
longest_request (Limit i day cap l) h =
    let t = length_then (id_bytes i) (in_4_bytes day ++ (in_4_bytes cap ++ with_length l)) 77 264 341 (length_id i h.0)
    (length_then (in_4_bytes day) (in_4_bytes cap ++ with_length l) 4 260 264 (omega arith) (length_then (in_4_bytes cap) (with_length l) 4 256 260 (omega arith) (length_login 1 l h.3) (omega arith)) (omega arith)) (omega arith) in
    omega (arith, t)
longest_request (Usage l day) h = let t = length_then (with_length l) (in_4_bytes day) 256 4 260 (length_login 1 l h.0) (omega arith) (omega arith) in omega (arith, t)
longest_request (ListRequest day l) h = let t = length_then (in_4_bytes day) (with_length l) 4 256 260 (omega arith) (length_login 0 l h.1) (omega arith) in omega (arith, t)
longest_request (Retire i) h = let t = length_id i h in omega (arith, t)

length_row : (r : UsageRow) → IsRow r → length (row_bytes r) ≤ 268
length_row r h = length_then (with_length r.login) (in_4_bytes r.settled ++ (in_4_bytes r.reserved ++ in_4_bytes r.cap)) 256 12 268 (length_login 1 r.login h.login) (omega arith) (omega arith)

length_rows : (rows : List UsageRow) → All IsRow rows → length (flat_map row_bytes rows) ≤ 268 * length rows
length_rows [] h = omega arith
length_rows (r ∷ rows) h = length_then (row_bytes r) (flat_map row_bytes rows) 268 (268 * length rows) (268 * length (r ∷ rows)) (length_row r (All-head IsRow r rows h)) (length_rows rows (All-tail IsRow r rows h)) (omega arith)

length_page : (rows : List UsageRow) → IsPage rows → length (page_bytes rows) ≤ 26801
length_page rows h = omega (arith, h.size.to, length_rows rows h.each)

id_alone : (k : ℕ) (i : Id) → IsId i → length (k ∷ id_bytes i) ≤ 26806
id_alone k i h = omega (arith, length_id i h)

id_and : (k : ℕ) (i : Id) (bytes : List ℕ) → IsId i → length bytes ≤ 8 → length (k ∷ (id_bytes i ++ bytes)) ≤ 26806
id_and k i bytes h few = omega (arith, length_then (id_bytes i) bytes 77 8 85 (length_id i h) few (omega arith))

pub longest_reply : (r : Reply) → IsReply r → length (reply_body r) ≤ 26806
longest_reply (Granted i used) h = id_and 0x81 i (in_4_bytes used) h.0 (omega arith)
longest_reply (Full i used cap) h = id_and 0x82 i (in_4_bytes used ++ in_4_bytes cap) h.0 (omega arith)
longest_reply (Settled i n) h = id_and 0x83 i (in_4_bytes n) h.0 (omega arith)
longest_reply (Released i held) h = id_and 0x84 i (in_4_bytes held) h.0 (omega arith)
longest_reply (LimitSet i) h = id_alone 0x85 i h
longest_reply (Over i day used) h = id_and 0x86 i (in_4_bytes day ++ in_4_bytes used) h.0 (omega arith)
longest_reply (Closed i) h = id_alone 0x87 i h
longest_reply (Mismatch i) h = id_alone 0x88 i h
longest_reply (TooMany i held) h = id_and 0x89 i (in_4_bytes held) h.0 (omega arith)
longest_reply (Conflict i) h = id_alone 0x8a i h
longest_reply (UsageReply l day settled reserved cap) h =
    let t = length_then (with_length l) (in_4_bytes day ++ (in_4_bytes settled ++ (in_4_bytes reserved ++ in_4_bytes cap))) 256 16 272 (length_login 1 l h.0) (omega arith) (omega arith) in omega (arith, t)
longest_reply (ListReply day rows) h = let t = length_then (in_4_bytes day) (page_bytes rows) 4 26801 26805 (omega arith) (length_page rows h.1) (omega arith) in omega (arith, t)
longest_reply Retry h = omega arith
longest_reply Bad h = omega arith
longest_reply (Retired i) h = id_alone 0x8f i h
longest_reply (Old i) h = id_alone 0x90 i h

-- no body is empty
pub some_request : (r : Request) → 1 ≤ length (request_body r)
some_request (Reserve i txn moment l count) = omega arith
some_request (Settle i txn moment l count) = omega arith
some_request (Release i txn moment l) = omega arith
some_request (Limit i day cap l) = omega arith
some_request (Usage l day) = omega arith
some_request (ListRequest day l) = omega arith
some_request (Retire i) = omega arith

pub some_reply : (r : Reply) → 1 ≤ length (reply_body r)
some_reply (Granted i used) = omega arith
some_reply (Full i used cap) = omega arith
some_reply (Settled i n) = omega arith
some_reply (Released i held) = omega arith
some_reply (LimitSet i) = omega arith
some_reply (Over i day used) = omega arith
some_reply (Closed i) = omega arith
some_reply (Mismatch i) = omega arith
some_reply (TooMany i held) = omega arith
some_reply (Conflict i) = omega arith
some_reply (UsageReply l day settled reserved cap) = omega arith
some_reply (ListReply day rows) = omega arith
some_reply Retry = omega arith
some_reply Bad = omega arith
some_reply (Retired i) = omega arith
some_reply (Old i) = omega arith
