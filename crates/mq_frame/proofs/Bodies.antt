-- Each kind of body: what is read is spelled so, and what is spelled so is read.
use Rattle.std.proofs.Common.{◌≡◌, ℕ, ◌^◌, Bool, true, false, List, [], ◌∷◌, length, Option, Some, refl, ap, subst, sym, ◌∙◌, arith, inl, inr}
use Rattle.std.specs.Prelude.{◌⊎◌, ◌==◌, ◌||◌, if◌then◌else◌}
use Rattle.std.specs.List.{All, list_all}
use Rattle.std.specs.Int.{w32, w64}
use Rattle.std.proofs.lemmas.Bool.Decides.{Decides-eqb}
use Rattle.std.proofs.lemmas.List.Sums.{AllPass-from_list_all, list_all-from_AllPass}
use Rattle.std.proofs.lemmas.List.Elements.{All-weaker}
use Rattle.mq_lemmas.proofs.Booleans.{or_second, or_first, either_of}
use Rattle.mq_request.specs.declared.message.Id.{Id}
use Rattle.mq_request.specs.declared.message.Request.{Request}
use Rattle.mq_request.specs.declared.message.Request.TheVariants.{Reserve, Settle, Release, Limit, Usage, List as ListRequest, Retire}
use Rattle.mq_request.specs.declared.message.Reply.{Reply}
use Rattle.mq_request.specs.declared.message.Reply.TheVariants.{Granted, Full, Settled, Released, LimitSet, Over, Closed, Mismatch, TooMany, Conflict, Usage as UsageReply, List as ListReply, Retry, Bad, Retired, Old}
use Rattle.mq_frame.specs.declared.format.TheConstants.{RESERVE, SETTLE, RELEASE, LIMIT, USAGE, LIST, RETIRE}
use Rattle.mq_frame.specs.declared.format.TheConstants.{GRANTED, FULL, SETTLED, RELEASED, LIMIT_SET, OVER, CLOSED, MISMATCH, TOO_MANY, CONFLICT}
use Rattle.mq_frame.specs.declared.format.TheConstants.{USAGE_REPLY, LIST_REPLY, RETRY, BAD, RETIRED, OLD}
use Rattle.mq_request.specs.declared.bounds.TheConstants.{HOST_LIMIT, LOGIN_LIMIT, LAST_RUN, LAST_ORDINAL, FIRST_MOMENT, LAST_MOMENT}
use Rattle.mq_request.specs.declared.bounds.TheConstants.{LAST_DAY, COUNT_LIMIT, AMOUNT_LIMIT, ROW_LIMIT}
use Rattle.mq_request.specs.Range.{IsWithin, IsHostByte, IsHost, IsLogin, IsAfter, IsRun, IsOrdinal, IsMoment, IsDay, IsCount, IsAmount, IsId, IsRow, IsPage}
use Rattle.mq_frame.specs.Spelling.{SpellsRequest, SpellsReply}
use Rattle.mq_frame.specs.Reading.{Field, text, pair, whole, host, login, after, run, ordinal, moment, count, amount, day, id, row, page, Transaction, transaction_of, transaction, reserve_of, settle_of, release_of, limit_of, usage_of, list_of, granted_of, full_of, settled_of, released_of, over_of, too_many_of, usage_reply_of, list_reply_of, made_of, if_none_left, request_of_kind, request_at, numbered_reply, reply_of_kind, reply_at}
use Rattle.mq_request.specs.Range.{between, is_host_byte}
use Rattle.mq_frame.proofs.FieldLaws.{IsField, IsBytes, IsBytes-tail, within, tested, bind_some, kept_some, number_field, text_field, where_field, as_field, pair_field, made_field, counted_field, wide32, wide64, whole_takes, whole_again}

-- ---- the fields

pub host_byte : (b : ℕ) → is_host_byte b ≡ true → IsHostByte b
host_byte b h =
    elim (either_of (between 48 57 b) (between 65 90 b || (between 97 122 b || between 45 46 b)) h) [
      | inl d ↦ inl (within 48 57 b d)
      | inr h1 ↦ inr (elim (either_of (between 65 90 b) (between 97 122 b || between 45 46 b) h1) [
        | inl d ↦ inl (within 65 90 b d)
        | inr h2 ↦ inr (elim (either_of (between 97 122 b) (between 45 46 b) h2) [
          | inl d ↦ inl (within 97 122 b d)
          | inr d ↦ inr (within 45 46 b d)
        ])
      ])
    ]

pub host_byte_tested : (b : ℕ) → IsHostByte b → is_host_byte b ≡ true
host_byte_tested b (inl d) = or_first (between 48 57 b) _ (tested 48 57 b d)
host_byte_tested b (inr (inl d)) = or_second (between 48 57 b) _ (or_first (between 65 90 b) _ (tested 65 90 b d))
host_byte_tested b (inr (inr (inl d))) = or_second (between 48 57 b) _ (or_second (between 65 90 b) _ (or_first (between 97 122 b) _ (tested 97 122 b d)))
host_byte_tested b (inr (inr (inr d))) = or_second (between 48 57 b) _ (or_second (between 65 90 b) _ (or_second (between 97 122 b) _ (tested 45 46 b d)))

pub host_bytes : (name : List ℕ) → list_all is_host_byte name ≡ true → All IsHostByte name
host_bytes name h = All-weaker (λ b. is_host_byte b ≡ true) IsHostByte host_byte name (AllPass-from_list_all is_host_byte name h)

pub host_bytes_tested : (name : List ℕ) → All IsHostByte name → list_all is_host_byte name ≡ true
host_bytes_tested name h = list_all-from_AllPass is_host_byte name (All-weaker IsHostByte (λ b. is_host_byte b ≡ true) host_byte_tested name h)

host_field : IsField host IsHost
host_field =
    as_field host (λ t. IsWithin 1 HOST_LIMIT (length t) × (list_all is_host_byte t ≡ true)) IsHost
    (λ t h. record { size = h.0; bytes = host_bytes t h.1 }) (λ t h. (h.size, host_bytes_tested t h.bytes))
    (where_field (list_all is_host_byte) (text 1 HOST_LIMIT) (λ t. IsWithin 1 HOST_LIMIT (length t)) (text_field 1 HOST_LIMIT))

login_field : IsField login IsLogin
login_field = text_field 1 LOGIN_LIMIT

after_field : IsField after IsAfter
after_field = text_field 0 LOGIN_LIMIT

run_field : IsField run IsRun
run_field = number_field w64 (2 ^ 64) wide64 1 LAST_RUN (omega arith)

ordinal_field : IsField ordinal IsOrdinal
ordinal_field = number_field w32 (2 ^ 32) wide32 1 LAST_ORDINAL (omega arith)

moment_field : IsField moment IsMoment
moment_field = number_field w64 (2 ^ 64) wide64 FIRST_MOMENT LAST_MOMENT (omega arith)

count_field : IsField count IsCount
count_field = number_field w32 (2 ^ 32) wide32 1 COUNT_LIMIT (omega arith)

amount_field : IsField amount IsAmount
amount_field = number_field w32 (2 ^ 32) wide32 0 AMOUNT_LIMIT (omega arith)

day_field : IsField day IsDay
day_field = number_field w32 (2 ^ 32) wide32 0 LAST_DAY (omega arith)

id_field : IsField id IsId
id_field =
    as_field id (λ i. IsHost i.host × (IsRun i.run × IsOrdinal i.number)) IsId (λ i h. record { host = h.0; run = h.1.0; number = h.1.1 }) (λ i h. (h.host, (h.run, h.number)))
    (made_field _ _ _ (λ x. IsHost x.0 × (IsRun x.1.0 × IsOrdinal x.1.1)) (λ x. refl) (λ i. refl)
    (pair_field host _ IsHost (λ x. IsRun x.0 × IsOrdinal x.1) host_field (pair_field run ordinal IsRun IsOrdinal run_field ordinal_field)))

row_field : IsField row IsRow
row_field =
    as_field row (λ r. IsLogin r.login × (IsAmount r.settled × (IsAmount r.reserved × IsAmount r.cap))) IsRow
    (λ r h. record { login = h.0; settled = h.1.0; reserved = h.1.1.0; cap = h.1.1.1 }) (λ r h. (h.login, (h.settled, (h.reserved, h.cap))))
    (made_field _ _ _ (λ x. IsLogin x.0 × (IsAmount x.1.0 × (IsAmount x.1.1.0 × IsAmount x.1.1.1))) (λ x. refl) (λ r. refl)
    (pair_field login _ IsLogin (λ x. IsAmount x.0 × (IsAmount x.1.0 × IsAmount x.1.1)) login_field
    (pair_field amount _ IsAmount (λ x. IsAmount x.0 × IsAmount x.1) amount_field (pair_field amount amount IsAmount IsAmount amount_field amount_field))))

page_field : IsField page IsPage
page_field = as_field page (λ rows. IsWithin 0 ROW_LIMIT (length rows) × All IsRow rows) IsPage (λ rows h. record { size = h.0; each = h.1 }) (λ rows h. (h.size, h.each)) (counted_field ROW_LIMIT row IsRow row_field)

record IsTransaction (t : Transaction) : Type 0 where
  id : IsId t.id
  txn : IsOrdinal t.txn
  moment : IsMoment t.moment
  login : IsLogin t.login

transaction_field : IsField transaction IsTransaction
transaction_field =
    as_field transaction (λ t. IsId t.id × (IsOrdinal t.txn × (IsMoment t.moment × IsLogin t.login))) IsTransaction
    (λ t h. record { id = h.0; txn = h.1.0; moment = h.1.1.0; login = h.1.1.1 }) (λ t h. (h.id, (h.txn, (h.moment, h.login))))
    (made_field _ _ _ (λ x. IsId x.0 × (IsOrdinal x.1.0 × (IsMoment x.1.1.0 × IsLogin x.1.1.1))) (λ x. refl) (λ t. refl)
    (pair_field id _ IsId (λ x. IsOrdinal x.0 × (IsMoment x.1.0 × IsLogin x.1.1)) id_field
    (pair_field ordinal _ IsOrdinal (λ x. IsMoment x.0 × IsLogin x.1) ordinal_field (pair_field moment login IsMoment IsLogin moment_field login_field))))

counting_field : IsField (pair transaction count) (λ x. IsTransaction x.0 × IsCount x.1)
counting_field = pair_field transaction count IsTransaction IsCount transaction_field count_field

limit_field : IsField (pair id (pair day (pair amount login))) (λ x. IsId x.0 × (IsDay x.1.0 × (IsAmount x.1.1.0 × IsLogin x.1.1.1)))
limit_field =
    pair_field id _ IsId (λ x. IsDay x.0 × (IsAmount x.1.0 × IsLogin x.1.1)) id_field
    (pair_field day _ IsDay (λ x. IsAmount x.0 × IsLogin x.1) day_field (pair_field amount login IsAmount IsLogin amount_field login_field))

login_and_day_field : IsField (pair login day) (λ x. IsLogin x.0 × IsDay x.1)
login_and_day_field = pair_field login day IsLogin IsDay login_field day_field

day_and_after_field : IsField (pair day after) (λ x. IsDay x.0 × IsAfter x.1)
day_and_after_field = pair_field day after IsDay IsAfter day_field after_field

id_and_amount_field : IsField (pair id amount) (λ x. IsId x.0 × IsAmount x.1)
id_and_amount_field = pair_field id amount IsId IsAmount id_field amount_field

id_and_two_field : IsField (pair id (pair amount amount)) (λ x. IsId x.0 × (IsAmount x.1.0 × IsAmount x.1.1))
id_and_two_field = pair_field id _ IsId (λ x. IsAmount x.0 × IsAmount x.1) id_field (pair_field amount amount IsAmount IsAmount amount_field amount_field)

id_and_count_field : IsField (pair id count) (λ x. IsId x.0 × IsCount x.1)
id_and_count_field = pair_field id count IsId IsCount id_field count_field

id_and_day_field : IsField (pair id (pair day amount)) (λ x. IsId x.0 × (IsDay x.1.0 × IsAmount x.1.1))
id_and_day_field = pair_field id _ IsId (λ x. IsDay x.0 × IsAmount x.1) id_field (pair_field day amount IsDay IsAmount day_field amount_field)

usage_field : IsField (pair login (pair day (pair amount (pair amount amount)))) (λ x. IsLogin x.0 × (IsDay x.1.0 × (IsAmount x.1.1.0 × (IsAmount x.1.1.1.0 × IsAmount x.1.1.1.1))))
usage_field =
    pair_field login _ IsLogin (λ x. IsDay x.0 × (IsAmount x.1.0 × (IsAmount x.1.1.0 × IsAmount x.1.1.1))) login_field
    (pair_field day _ IsDay (λ x. IsAmount x.0 × (IsAmount x.1.0 × IsAmount x.1.1)) day_field
    (pair_field amount _ IsAmount (λ x. IsAmount x.0 × IsAmount x.1) amount_field (pair_field amount amount IsAmount IsAmount amount_field amount_field)))

day_and_page_field : IsField (pair day page) (λ x. IsDay x.0 × IsPage x.1)
day_and_page_field = pair_field day page IsDay IsPage day_field page_field

-- ---- the kinds

-- a body of this kind, whose fields are those of the value
spelled_kind : {X V : Type 0} (Spells : List ℕ → V → Type 0) (k : ℕ) (f : Field X) (F : X → Type 0) → IsField f F → (make : X → V) → ((x : X) → F x → Spells (k ∷ f.spell x) (make x))
    → (kind : ℕ) (bytes : List ℕ) (v : V) → IsBytes bytes → (kind == k) ≡ true → made_of make f bytes ≡ Some v → Spells (kind ∷ bytes) v
spelled_kind {X} {V} Spells k f F field make made kind bytes v fits is e =
    let one : kind ≡ k = (Decides-eqb kind k).0 is in
    let b = bind_some (whole f bytes) (λ x. Some (make x)) v e in
    let t = whole_takes f F field bytes b.0 fits b.1 in
    let same : make b.0 ≡ v = cc in
    let P : List ℕ → Type 0 = λ l. Spells (kind ∷ l) v in
    let Q : ℕ → Type 0 = λ n. Spells (n ∷ f.spell b.0) v in
    subst P (sym t.0) (subst Q (sym one) (subst (Spells (k ∷ f.spell b.0)) same (made b.0 t.1)))

-- a body of one byte
spelled_alone : {V : Type 0} (Spells : List ℕ → V → Type 0) (k : ℕ) (x : V) → Spells (k ∷ []) x
    → (kind : ℕ) (bytes : List ℕ) (v : V) → (kind == k) ≡ true → if_none_left x bytes ≡ Some v → Spells (kind ∷ bytes) v
spelled_alone {V} Spells k x made kind (b ∷ bytes) v is e =
    let none : length (b ∷ bytes) ≡ 0 = (Decides-eqb (length (b ∷ bytes)) 0).0 (kept_some (length (b ∷ bytes) == 0) x v e).0 in
    absurd (omega arith)
spelled_alone {V} Spells k x made kind [] v is e =
    let one : kind ≡ k = (Decides-eqb kind k).0 is in
    let same : x ≡ v = cc in
    let Q : ℕ → Type 0 = λ n. Spells (n ∷ []) v in
    subst Q (sym one) (subst (Spells (k ∷ [])) same made)

-- this kind or a later one
kind_or : {V : Type 0} (b : Bool) (here later : Option V) (v : V) → (if b then here else later) ≡ Some v → ((b ≡ true) × (here ≡ Some v)) ⊎ (later ≡ Some v)
kind_or true here later v e = inl (refl, e)
kind_or false here later v e = inr e

request_spelled : (kind : ℕ) (bytes : List ℕ) (r : Request) → IsBytes bytes → request_of_kind kind bytes ≡ Some r → SpellsRequest (kind ∷ bytes) r
request_spelled kind bytes r fits e =
    elim (kind_or (kind == RESERVE) _ _ r e) [
      | inl h ↦ spelled_kind SpellsRequest RESERVE (pair transaction count) _ counting_field reserve_of (λ x h. record { bytes = refl; in_range = (h.0.id, h.0.txn, h.0.moment, h.0.login, h.1) }) kind bytes r fits h.0 h.1
      | inr e2 ↦ elim (kind_or (kind == SETTLE) _ _ r e2) [
        | inl h ↦ spelled_kind SpellsRequest SETTLE (pair transaction count) _ counting_field settle_of (λ x h. record { bytes = refl; in_range = (h.0.id, h.0.txn, h.0.moment, h.0.login, h.1) }) kind bytes r fits h.0 h.1
        | inr e3 ↦ elim (kind_or (kind == RELEASE) _ _ r e3) [
          | inl h ↦ spelled_kind SpellsRequest RELEASE transaction _ transaction_field release_of (λ x h. record { bytes = refl; in_range = (h.id, h.txn, h.moment, h.login) }) kind bytes r fits h.0 h.1
          | inr e4 ↦ elim (kind_or (kind == LIMIT) _ _ r e4) [
            | inl h ↦ spelled_kind SpellsRequest LIMIT (pair id (pair day (pair amount login))) _ limit_field limit_of (λ x h. record { bytes = refl; in_range = (h.0, h.1.0, h.1.1.0, h.1.1.1) }) kind bytes r fits h.0 h.1
            | inr e5 ↦ elim (kind_or (kind == USAGE) _ _ r e5) [
              | inl h ↦ spelled_kind SpellsRequest USAGE (pair login day) _ login_and_day_field usage_of (λ x h. record { bytes = refl; in_range = (h.0, h.1) }) kind bytes r fits h.0 h.1
              | inr e6 ↦ elim (kind_or (kind == LIST) _ _ r e6) [
                | inl h ↦ spelled_kind SpellsRequest LIST (pair day after) _ day_and_after_field list_of (λ x h. record { bytes = refl; in_range = (h.0, h.1) }) kind bytes r fits h.0 h.1
                | inr e7 ↦ elim (kind_or (kind == RETIRE) _ _ r e7) [
                  | inl h ↦ spelled_kind SpellsRequest RETIRE id _ id_field Retire (λ x h. record { bytes = refl; in_range = h }) kind bytes r fits h.0 h.1
                  | inr e8 ↦ absurd cc
                ]
              ]
            ]
          ]
        ]
      ]
    ]

numbered_spelled : (kind : ℕ) (bytes : List ℕ) (r : Reply) → IsBytes bytes → numbered_reply kind bytes ≡ Some r → SpellsReply (kind ∷ bytes) r
numbered_spelled kind bytes r fits e =
    elim (kind_or (kind == GRANTED) _ _ r e) [
      | inl h ↦ spelled_kind SpellsReply GRANTED (pair id amount) _ id_and_amount_field granted_of (λ x h. record { bytes = refl; in_range = (h.0, h.1) }) kind bytes r fits h.0 h.1
      | inr e2 ↦ elim (kind_or (kind == FULL) _ _ r e2) [
        | inl h ↦ spelled_kind SpellsReply FULL (pair id (pair amount amount)) _ id_and_two_field full_of (λ x h. record { bytes = refl; in_range = (h.0, h.1.0, h.1.1) }) kind bytes r fits h.0 h.1
        | inr e3 ↦ elim (kind_or (kind == SETTLED) _ _ r e3) [
          | inl h ↦ spelled_kind SpellsReply SETTLED (pair id count) _ id_and_count_field settled_of (λ x h. record { bytes = refl; in_range = (h.0, h.1) }) kind bytes r fits h.0 h.1
          | inr e4 ↦ elim (kind_or (kind == RELEASED) _ _ r e4) [
            | inl h ↦ spelled_kind SpellsReply RELEASED (pair id amount) _ id_and_amount_field released_of (λ x h. record { bytes = refl; in_range = (h.0, h.1) }) kind bytes r fits h.0 h.1
            | inr e5 ↦ elim (kind_or (kind == LIMIT_SET) _ _ r e5) [
              | inl h ↦ spelled_kind SpellsReply LIMIT_SET id _ id_field LimitSet (λ x h. record { bytes = refl; in_range = h }) kind bytes r fits h.0 h.1
              | inr e6 ↦ elim (kind_or (kind == OVER) _ _ r e6) [
                | inl h ↦ spelled_kind SpellsReply OVER (pair id (pair day amount)) _ id_and_day_field over_of (λ x h. record { bytes = refl; in_range = (h.0, h.1.0, h.1.1) }) kind bytes r fits h.0 h.1
                | inr e7 ↦ elim (kind_or (kind == CLOSED) _ _ r e7) [
                  | inl h ↦ spelled_kind SpellsReply CLOSED id _ id_field Closed (λ x h. record { bytes = refl; in_range = h }) kind bytes r fits h.0 h.1
                  | inr e8 ↦ elim (kind_or (kind == MISMATCH) _ _ r e8) [
                    | inl h ↦ spelled_kind SpellsReply MISMATCH id _ id_field Mismatch (λ x h. record { bytes = refl; in_range = h }) kind bytes r fits h.0 h.1
                    | inr e9 ↦ elim (kind_or (kind == TOO_MANY) _ _ r e9) [
                      | inl h ↦ spelled_kind SpellsReply TOO_MANY (pair id amount) _ id_and_amount_field too_many_of (λ x h. record { bytes = refl; in_range = (h.0, h.1) }) kind bytes r fits h.0 h.1
                      | inr e10 ↦ elim (kind_or (kind == CONFLICT) _ _ r e10) [
                        | inl h ↦ spelled_kind SpellsReply CONFLICT id _ id_field Conflict (λ x h. record { bytes = refl; in_range = h }) kind bytes r fits h.0 h.1
                        | inr e11 ↦ elim (kind_or (kind == RETIRED) _ _ r e11) [
                          | inl h ↦ spelled_kind SpellsReply RETIRED id _ id_field Retired (λ x h. record { bytes = refl; in_range = h }) kind bytes r fits h.0 h.1
                          | inr e12 ↦ elim (kind_or (kind == OLD) _ _ r e12) [
                            | inl h ↦ spelled_kind SpellsReply OLD id _ id_field Old (λ x h. record { bytes = refl; in_range = h }) kind bytes r fits h.0 h.1
                            | inr e13 ↦ absurd cc
                          ]
                        ]
                      ]
                    ]
                  ]
                ]
              ]
            ]
          ]
        ]
      ]
    ]

reply_spelled : (kind : ℕ) (bytes : List ℕ) (r : Reply) → IsBytes bytes → reply_of_kind kind bytes ≡ Some r → SpellsReply (kind ∷ bytes) r
reply_spelled kind bytes r fits e =
    elim (kind_or (kind == USAGE_REPLY) _ _ r e) [
      | inl h ↦ spelled_kind SpellsReply USAGE_REPLY (pair login (pair day (pair amount (pair amount amount)))) _ usage_field usage_reply_of (λ x h. record { bytes = refl; in_range = (h.0, h.1.0, h.1.1.0, h.1.1.1.0, h.1.1.1.1) }) kind bytes r fits h.0 h.1
      | inr e2 ↦ elim (kind_or (kind == LIST_REPLY) _ _ r e2) [
        | inl h ↦ spelled_kind SpellsReply LIST_REPLY (pair day page) _ day_and_page_field list_reply_of (λ x h. record { bytes = refl; in_range = (h.0, h.1) }) kind bytes r fits h.0 h.1
        | inr e3 ↦ elim (kind_or (kind == RETRY) _ _ r e3) [
          | inl h ↦ spelled_alone SpellsReply RETRY Retry (record { bytes = refl; in_range = tt }) kind bytes r h.0 h.1
          | inr e4 ↦ elim (kind_or (kind == BAD) _ _ r e4) [
            | inl h ↦ spelled_alone SpellsReply BAD Bad (record { bytes = refl; in_range = tt }) kind bytes r h.0 h.1
            | inr e5 ↦ numbered_spelled kind bytes r fits e5
          ]
        ]
      ]
    ]

-- ---- whole bodies

-- what is read is spelled so
pub request_at_spelled : (body : List ℕ) (r : Request) → IsBytes body → request_at body ≡ Some r → SpellsRequest body r
request_at_spelled [] r fits e = absurd cc
request_at_spelled (kind ∷ bytes) r fits e = request_spelled kind bytes r (IsBytes-tail kind bytes fits) e

pub reply_at_spelled : (body : List ℕ) (r : Reply) → IsBytes body → reply_at body ≡ Some r → SpellsReply body r
reply_at_spelled [] r fits e = absurd cc
reply_at_spelled (kind ∷ bytes) r fits e = reply_spelled kind bytes r (IsBytes-tail kind bytes fits) e

read_kind : {X V : Type 0} (f : Field X) (F : X → Type 0) → IsField f F → (make : X → V) (x : X) → F x → made_of make f (f.spell x) ≡ Some (make x)
read_kind {X} {V} f F field make x h = rw (whole_again f F field x h) refl

named : {i : Id} {txn moment : ℕ} {name : List ℕ} → IsId i → IsOrdinal txn → IsMoment moment → IsLogin name → IsTransaction (transaction_of (i, (txn, (moment, name))))
named h g k l = record { id = h; txn = g; moment = k; login = l }

-- what is spelled so is read
pub request_at_read : (body : List ℕ) (r : Request) → SpellsRequest body r → request_at body ≡ Some r
request_at_read body (Reserve i txn moment name n) h = let g = h.in_range in ap request_at h.bytes ∙ read_kind (pair transaction count) _ counting_field reserve_of (transaction_of (i, (txn, (moment, name))), n) (named g.0 g.1 g.2 g.3, g.4)
request_at_read body (Settle i txn moment name n) h = let g = h.in_range in ap request_at h.bytes ∙ read_kind (pair transaction count) _ counting_field settle_of (transaction_of (i, (txn, (moment, name))), n) (named g.0 g.1 g.2 g.3, g.4)
request_at_read body (Release i txn moment name) h = let g = h.in_range in ap request_at h.bytes ∙ read_kind transaction _ transaction_field release_of (transaction_of (i, (txn, (moment, name)))) (named g.0 g.1 g.2 g.3)
request_at_read body (Limit i from_day cap name) h = let g = h.in_range in ap request_at h.bytes ∙ read_kind (pair id (pair day (pair amount login))) _ limit_field limit_of (i, (from_day, (cap, name))) (g.0, (g.1, (g.2, g.3)))
request_at_read body (Usage name d) h = let g = h.in_range in ap request_at h.bytes ∙ read_kind (pair login day) _ login_and_day_field usage_of (name, d) g
request_at_read body (ListRequest d behind) h = let g = h.in_range in ap request_at h.bytes ∙ read_kind (pair day after) _ day_and_after_field list_of (d, behind) g
request_at_read body (Retire i) h = let g = h.in_range in ap request_at h.bytes ∙ read_kind id _ id_field Retire i g

pub reply_at_read : (body : List ℕ) (r : Reply) → SpellsReply body r → reply_at body ≡ Some r
reply_at_read body (Granted i used) h = let g = h.in_range in ap reply_at h.bytes ∙ read_kind (pair id amount) _ id_and_amount_field granted_of (i, used) g
reply_at_read body (Full i used cap) h = let g = h.in_range in ap reply_at h.bytes ∙ read_kind (pair id (pair amount amount)) _ id_and_two_field full_of (i, (used, cap)) (g.0, (g.1, g.2))
reply_at_read body (Settled i n) h = let g = h.in_range in ap reply_at h.bytes ∙ read_kind (pair id count) _ id_and_count_field settled_of (i, n) g
reply_at_read body (Released i held) h = let g = h.in_range in ap reply_at h.bytes ∙ read_kind (pair id amount) _ id_and_amount_field released_of (i, held) g
reply_at_read body (LimitSet i) h = let g = h.in_range in ap reply_at h.bytes ∙ read_kind id _ id_field LimitSet i g
reply_at_read body (Over i d used) h = let g = h.in_range in ap reply_at h.bytes ∙ read_kind (pair id (pair day amount)) _ id_and_day_field over_of (i, (d, used)) (g.0, (g.1, g.2))
reply_at_read body (Closed i) h = let g = h.in_range in ap reply_at h.bytes ∙ read_kind id _ id_field Closed i g
reply_at_read body (Mismatch i) h = let g = h.in_range in ap reply_at h.bytes ∙ read_kind id _ id_field Mismatch i g
reply_at_read body (TooMany i held) h = let g = h.in_range in ap reply_at h.bytes ∙ read_kind (pair id amount) _ id_and_amount_field too_many_of (i, held) g
reply_at_read body (Conflict i) h = let g = h.in_range in ap reply_at h.bytes ∙ read_kind id _ id_field Conflict i g
reply_at_read body (UsageReply name d settled reserved cap) h = let g = h.in_range in ap reply_at h.bytes ∙ read_kind (pair login (pair day (pair amount (pair amount amount)))) _ usage_field usage_reply_of (name, (d, (settled, (reserved, cap)))) (g.0, (g.1, (g.2, (g.3, g.4))))
reply_at_read body (ListReply d rows) h = let g = h.in_range in ap reply_at h.bytes ∙ read_kind (pair day page) _ day_and_page_field list_reply_of (d, rows) g
reply_at_read body Retry h = ap reply_at h.bytes
reply_at_read body Bad h = ap reply_at h.bytes
reply_at_read body (Retired i) h = let g = h.in_range in ap reply_at h.bytes ∙ read_kind id _ id_field Retired i g
reply_at_read body (Old i) h = let g = h.in_range in ap reply_at h.bytes ∙ read_kind id _ id_field Old i g
