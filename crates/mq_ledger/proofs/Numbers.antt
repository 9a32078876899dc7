-- Numbers of requests: what one more arrival does, and that a number keeps its reply.
use Rattle.mq_ledger.proofs.Words.{All, All-from_recursion, AllByRecursion, Bool, Entry, Id, IsLegal, IsRequest, List, None, Old, Option, Reply, Request, Some, [], all_push, answer, ap, append-nil, append_assoc, appended, build, by_pushes, clash, either, false, find-append, first, floor, fold}
use Rattle.mq_ledger.proofs.Words.{fold_push, has_id, history_of, id_of, inl, inr, is_below, is_some, kept_with, known_by, list_any, map-append, nat_lt, or_second, raised, recursion_from_All, refl, reply, reply_by, reply_to, requests, stored, subst, sym, true, with_arrival, with_arrival_by, ℕ, ◌++◌}
use Rattle.mq_ledger.proofs.Words.{◌||◌, ◌∙◌, ◌∷◌, ◌≡◌}
use Rattle.mq_request.proofs.Alike.{request_itself, id_itself}
use Rattle.mq_lemmas.proofs.Lists.{all_but_last}
use Rattle.mq_ledger.proofs.Transactions.{entry, floor_push, under_greater}

-- First arrivals.

abbrev pub step : List Request → Request → List Request
step kept r = kept_with kept r (id_of r)

pub first_push : (A : List Request) (r : Request) → first (A ++ r ∷ []) ≡ step (first A) r
first_push A r = fold_push step [] A r

first_step : (kept : List Request) (r : Request) (o : Option Id) → id_of r ≡ o → first kept ≡ kept → first (kept_with kept r o) ≡ kept_with kept r o
first_step kept r None e h = h
first_step kept r (Some id) e h = elim (either (is_below kept id || list_any (has_id id) kept)) [
  | inl t ↦ rw t h
  | inr f ↦ rw f (first_push kept r ∙ ap (λ k. kept_with k r (id_of r)) h ∙ ap (kept_with kept r) e ∙ rw f refl)
]

-- no number comes twice among first arrivals
pub first_first : (A : List Request) → first (first A) ≡ first A
first_first A = by_pushes (λ A. first (first A) ≡ first A) refl (λ A r h. ap first (first_push A r) ∙ first_step (first A) r (id_of r) refl h ∙ sym (first_push A r)) A

kept_all : (P : Request → Type 0) (kept : List Request) (r : Request) (o : Option Id) → AllByRecursion P kept → P r → AllByRecursion P (kept_with kept r o)
kept_all P kept r None all h = all
kept_all P kept r (Some id) all h = elim (either (is_below kept id || list_any (has_id id) kept)) [ inl t ↦ rw t all | inr f ↦ rw f (all_push P kept r all h) ]

pub first_all : (P : Request → Type 0) (A : List Request) → AllByRecursion P A → AllByRecursion P (first A)
first_all P A = by_pushes (λ A. AllByRecursion P A → AllByRecursion P (first A)) (λ _. tt) (λ A r before all. (let was = all_but_last P A r all in
    subst (AllByRecursion P) (sym (first_push A r)) (kept_all P (first A) r (id_of r) (before was.0) was.1))) A

-- Histories that are built.

pub requests_push : (H : List Entry) (r : Request) (a : Reply) → requests (H ++ entry r a ∷ []) ≡ requests H ++ r ∷ []
requests_push H r a = map-append (λ e. e.request) H (entry r a ∷ [])

pub requests_steps : (day : ℕ → ℕ) (default : ℕ) (H : List Entry) (rs : List Request) → requests (fold (appended day default) H rs) ≡ requests H ++ rs
requests_steps day default H [] = sym (append-nil (requests H))
requests_steps day default H (r ∷ rs) =
    requests_steps day default (appended day default H r) rs
    ∙ ap (λ (q : List Request). q ++ rs) (requests_push H r (answer day default H r))
    ∙ append_assoc (requests H) (r ∷ []) rs

pub requests_build : (day : ℕ → ℕ) (default : ℕ) (rs : List Request) → requests (build day default rs) ≡ rs
requests_build day default rs = requests_steps day default [] rs

pub build_push : (day : ℕ → ℕ) (default : ℕ) (rs : List Request) (r : Request) → build day default (rs ++ r ∷ []) ≡ appended day default (build day default rs) r
build_push day default rs r = fold_push (appended day default) [] rs r

pub all_requests : (P : Request → Type 0) (H : List Entry) → AllByRecursion P (requests H) → AllByRecursion (λ e. P e.request) H
all_requests P [] h = tt
all_requests P (e ∷ H) h = (h.0, all_requests P H h.1)

-- of requests in range the first arrivals make a legal history
pub legal_build : (day : ℕ → ℕ) (default : ℕ) (A : List Request) → All IsRequest A → IsLegal day default (history_of day default A)
legal_build day default A range =
    let rs : List Request = first A in
    let same : requests (build day default rs) ≡ rs = requests_build day default rs in
    record {
      range = All-from_recursion (λ e. IsRequest e.request) (build day default rs) (all_requests IsRequest (build day default rs) (rw same (first_all IsRequest A (recursion_from_All IsRequest A range))));
      distinct = rw same (first_first A);
      built = ap (build day default) (sym same);
    }

-- One more arrival.

-- whether a number is stored shows in the requests
pub stored_any : (H : List Entry) (id : Id) → list_any (has_id id) (requests H) ≡ is_some (stored H id)
stored_any [] id = refl
stored_any (e ∷ H) id = elim (either (has_id id e.request)) [ inl t ↦ rw t refl | inr f ↦ rw f (stored_any H id) ]

one_more_by : (day : ℕ → ℕ) (default : ℕ) (A : List Request) (r : Request) (o : Option Id) → build day default (kept_with (first A) r o) ≡ with_arrival_by day default (history_of day default A) r o
one_more_by day default A r None = refl
one_more_by day default A r (Some id) =
    let H : List Entry = history_of day default A in
    let whole : requests H ≡ first A = requests_build day default (first A) in
    let known : list_any (has_id id) (first A) ≡ is_some (stored H id) = ap (list_any (has_id id)) (sym whole) ∙ stored_any H id in
    let below : is_below (first A) id ≡ is_below (requests H) id = ap (λ (rs : List Request). is_below rs id) (sym whole) in
    let same : (is_below (first A) id || list_any (has_id id) (first A)) ≡ known_by H (Some id) = (λ i. below i || known i) in
    elim (either (known_by H (Some id))) [
      | inl t ↦ (let s : (is_below (first A) id || list_any (has_id id) (first A)) ≡ true = same ∙ t in rw (s, t) refl)
      | inr f ↦ (let s : (is_below (first A) id || list_any (has_id id) (first A)) ≡ false = same ∙ f in rw (s, f) (build_push day default (first A) r))
    ]

pub one_more : (day : ℕ → ℕ) (default : ℕ) (A : List Request) (r : Request) → history_of day default (A ++ r ∷ []) ≡ with_arrival day default (history_of day default A) r
one_more day default A r = ap (build day default) (first_push A r) ∙ one_more_by day default A r (id_of r)

-- a legal history is that of its own requests
pub legal_again : (day : ℕ → ℕ) (default : ℕ) (H : List Entry) → IsLegal day default H → history_of day default (requests H) ≡ H
legal_again day default H legal = ap (build day default) legal.distinct ∙ sym legal.built

pub legal_more : (day : ℕ → ℕ) (default : ℕ) (H : List Entry) (r : Request) → IsLegal day default H → history_of day default (requests H ++ r ∷ []) ≡ with_arrival day default H r
legal_more day default H r legal = one_more day default (requests H) r ∙ ap (λ K. with_arrival day default K r) (legal_again day default H legal)

-- A number keeps its reply.

stored_push : (H : List Entry) (id : Id) (x e : Entry) → stored H id ≡ Some x → stored (H ++ e ∷ []) id ≡ Some x
stored_push H id x e h = find-append (λ e. has_id id e.request) H (e ∷ []) ∙ rw h refl

stored_with_arrival : (day : ℕ → ℕ) (default : ℕ) (H : List Entry) (r : Request) (o : Option Id) (id : Id) (x : Entry) → stored H id ≡ Some x → stored (with_arrival_by day default H r o) id ≡ Some x
stored_with_arrival day default H r None id x h = h
stored_with_arrival day default H r (Some other) id x h = elim (either (known_by H (Some other))) [
  | inl t ↦ rw t h
  | inr f ↦ rw f (stored_push H id x (entry r (answer day default H r)) h)
]

pub stored_later : (day : ℕ → ℕ) (default : ℕ) (A B : List Request) (id : Id) (x : Entry) → stored (history_of day default A) id ≡ Some x → stored (history_of day default (A ++ B)) id ≡ Some x
stored_later day default A [] id x h = ap (λ (C : List Request). stored (history_of day default C) id) (append-nil A) ∙ h
stored_later day default A (r ∷ B) id x h =
    let next : stored (history_of day default (A ++ r ∷ [])) id ≡ Some x = ap (λ (K : List Entry). stored K id) (one_more day default A r) ∙ stored_with_arrival day default (history_of day default A) r (id_of r) id x h in
    ap (λ (C : List Request). stored (history_of day default C) id) (sym (append_assoc A (r ∷ []) B)) ∙ stored_later day default (A ++ r ∷ []) B id x next

-- Floors rise.

floor_rises : (id : Id) (kept : List Request) (r : Request) → is_below kept id ≡ true → is_below (kept ++ r ∷ []) id ≡ true
floor_rises id kept r h = ap (nat_lt id.run) (floor_push kept r id.host) ∙ under_greater id.run (floor kept id.host) (raised id.host r) ∙ or_second (nat_lt id.run (raised id.host r)) (is_below kept id) h

pub below_step : (id : Id) (kept : List Request) (r : Request) (o : Option Id) → is_below kept id ≡ true → is_below (kept_with kept r o) id ≡ true
below_step id kept r None h = h
below_step id kept r (Some other) h = elim (either (is_below kept other || list_any (has_id other) kept)) [ inl t ↦ rw t h | inr f ↦ rw f (floor_rises id kept r h) ]

-- a number that is retired stays so
pub below_later : (A B : List Request) (id : Id) → is_below (first A) id ≡ true → is_below (first (A ++ B)) id ≡ true
below_later A [] id h = ap (λ (C : List Request). is_below (first C) id) (append-nil A) ∙ h
below_later A (r ∷ B) id h =
    let next : is_below (first (A ++ r ∷ [])) id ≡ true = ap (λ (k : List Request). is_below k id) (first_push A r) ∙ below_step id (first A) r (id_of r) h in
    ap (λ (C : List Request). is_below (first C) id) (sym (append_assoc A (r ∷ []) B)) ∙ below_later (A ++ r ∷ []) B id next

pub not_below_before : (A B : List Request) (id : Id) → is_below (first (A ++ B)) id ≡ false → is_below (first A) id ≡ false
not_below_before A B id h = elim (either (is_below (first A) id)) [
  | inr f ↦ f
  | inl t ↦ absurd (clash (is_below (first (A ++ B)) id) (below_later A B id t) h)
]

below_of : (day : ℕ → ℕ) (default : ℕ) (A : List Request) (id : Id) (b : Bool) → is_below (first A) id ≡ b → is_below (requests (history_of day default A)) id ≡ b
below_of day default A id b h = ap (λ (rs : List Request). is_below rs id) (requests_build day default (first A)) ∙ h

-- and gets Old
pub reply_old : (day : ℕ → ℕ) (default : ℕ) (A B : List Request) (r : Request) (id : Id) → id_of r ≡ Some id → is_below (first A) id ≡ true → reply day default (history_of day default (A ++ B)) r ≡ Old id
reply_old day default A B r id e h =
    let below = below_of day default (A ++ B) id true (below_later A B id h) in
    ap (reply_to day default (history_of day default (A ++ B)) r) e ∙ rw below refl

-- and adds nothing
pub history_stays : (day : ℕ → ℕ) (default : ℕ) (A : List Request) (r : Request) (id : Id) → id_of r ≡ Some id → is_below (first A) id ≡ true → history_of day default (A ++ r ∷ []) ≡ history_of day default A
history_stays day default A r id e h =
    let below = below_of day default A id true h in
    one_more day default A r ∙ ap (with_arrival_by day default (history_of day default A) r) e ∙ rw below refl

reply_stored : (day : ℕ → ℕ) (default : ℕ) (H : List Entry) (r : Request) (id : Id) (x : Entry) → id_of r ≡ Some id → is_below (requests H) id ≡ false → stored H id ≡ Some x → reply day default H r ≡ reply_by day default [] r id (Some x)
reply_stored day default H r id x e above h = ap (reply_to day default H r) e ∙ rw above (ap (reply_by day default H r id) h)

-- the reply to a request whose number is stored stays the same until it is retired
pub stored_reply_stays : (day : ℕ → ℕ) (default : ℕ) (A B : List Request) (r : Request) (id : Id) (x : Entry) → id_of r ≡ Some id → is_below (first (A ++ B)) id ≡ false → stored (history_of day default A) id ≡ Some x → reply day default (history_of day default (A ++ B)) r ≡ reply day default (history_of day default A) r
stored_reply_stays day default A B r id x e above h =
    reply_stored day default (history_of day default (A ++ B)) r id x e (below_of day default (A ++ B) id false above) (stored_later day default A B id x h)
    ∙ sym (reply_stored day default (history_of day default A) r id x e (below_of day default A id false (not_below_before A B id above)) h)

stored_new : (H : List Entry) (r : Request) (a : Reply) (id : Id) → id_of r ≡ Some id → stored H id ≡ None → stored (H ++ entry r a ∷ []) id ≡ Some (entry r a)
stored_new H r a id e none = find-append (λ x. has_id id x.request) H (entry r a ∷ []) ∙ rw (none, e, id_itself id) refl

-- a request that has arrived is stored, and its reply is still the one that it got
record HasArrived (day : ℕ → ℕ) (default : ℕ) (H : List Entry) (r : Request) (id : Id) (K : List Entry) : Type 0 where
  found : Entry
  there : stored K id ≡ Some found
  same : is_below (requests K) id ≡ false → reply day default K r ≡ reply day default H r

arrival_is_stored : (day : ℕ → ℕ) (default : ℕ) (H : List Entry) (r : Request) (id : Id) → id_of r ≡ Some id → is_below (requests H) id ≡ false → (o : Option Entry) → stored H id ≡ o → HasArrived day default H r id (with_arrival_by day default H r (Some id))
arrival_is_stored day default H r id e above (Some x) h =
    rw (above, h) (record { found = x; there = h; same = λ _. refl })
arrival_is_stored day default H r id e above None h =
    let a : Reply = answer day default H r in
    let there : stored (H ++ entry r a ∷ []) id ≡ Some (entry r a) = stored_new H r a id e h in
    let before : reply day default H r ≡ a = ap (reply_to day default H r) e ∙ rw above (ap (reply_by day default H r id) h) in
    let now : is_below (requests (H ++ entry r a ∷ [])) id ≡ false → reply day default (H ++ entry r a ∷ []) r ≡ a = λ still. reply_stored day default (H ++ entry r a ∷ []) r id (entry r a) e still there ∙ rw (request_itself r) refl in
    rw (above, h) (record { found = entry r a; there = there; same = λ still. now still ∙ sym before })

-- the reply to a numbered request is the same whenever it comes again until it is retired
pub reply_stays : (day : ℕ → ℕ) (default : ℕ) (A B : List Request) (r : Request) (id : Id) → id_of r ≡ Some id → is_below (first (A ++ r ∷ B)) id ≡ false → reply day default (history_of day default (A ++ r ∷ B)) r ≡ reply day default (history_of day default A) r
reply_stays day default A B r id e above =
    let H : List Entry = history_of day default A in
    let longer : is_below (first ((A ++ r ∷ []) ++ B)) id ≡ false = ap (λ (C : List Request). is_below (first C) id) (append_assoc A (r ∷ []) B) ∙ above in
    let still : is_below (first (A ++ r ∷ [])) id ≡ false = not_below_before (A ++ r ∷ []) B id longer in
    let before : is_below (first A) id ≡ false = not_below_before A (r ∷ []) id still in
    let next : history_of day default (A ++ r ∷ []) ≡ with_arrival_by day default H r (Some id) = one_more day default A r ∙ ap (with_arrival_by day default H r) e in
    let t = arrival_is_stored day default H r id e (below_of day default A id false before) (stored H id) refl in
    let there : stored (history_of day default (A ++ r ∷ [])) id ≡ Some t.found = ap (λ (K : List Entry). stored K id) next ∙ t.there in
    let above_now : is_below (requests (with_arrival_by day default H r (Some id))) id ≡ false = ap (λ (K : List Entry). is_below (requests K) id) (sym next) ∙ below_of day default (A ++ r ∷ []) id false still in
    ap (λ (C : List Request). reply day default (history_of day default C) r) (sym (append_assoc A (r ∷ []) B))
    ∙ stored_reply_stays day default (A ++ r ∷ []) B r id t.found e longer there
    ∙ ap (λ (K : List Entry). reply day default K r) next
    ∙ t.same above_now
