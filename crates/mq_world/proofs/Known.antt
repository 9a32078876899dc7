-- What the crates below say of frames, clients, trackers and ledgers.
use Rattle.mq_world.proofs.Words.{All, AllByRecursion, AreDistinct, AreNumbered, AreUnderway, Entry, Id, IsAmount, IsBounded, IsDayRule, IsLegal, IsNumbered, IsReply, IsRequest, IsZone, List, Meaning, None, NoneReturns, RepliesSuit, Reply, Request, Some, Source, SpellsReply, Step, Suits}
use Rattle.mq_world.proofs.Words.{Transaction, Zone, [], actions, actions_of, cap, day_of, ended, exchanges_in, false, frame, granted_in, held, held_on, history_of, named, reply, reply_body, request_body, request_under, requests, reserved, same_id, same_transaction, settled, settled_in, settled_on}
use Rattle.mq_world.proofs.Words.{standing_in, sum_by, true, txn_in, used, view, with_arrival, ℕ, ◌++◌, ◌+◌, ◌↔◌, ◌∷◌, ◌≡◌, ◌≤◌}

pub record OfFrames : Type 0 where
  pub one_request : (q r : Request) → IsRequest q → IsRequest r → frame (request_body q) ≡ frame (request_body r) → q ≡ r
  pub one_reply : (a b : Reply) → IsReply a → IsReply b → frame (reply_body a) ≡ frame (reply_body b) → a ≡ b
  pub one_body : (body : List ℕ) (a b : Reply) → SpellsReply body a → SpellsReply body b → a ≡ b
  pub same_ids : (i j : Id) → (same_id i j ≡ true) ↔ (i ≡ j)

pub record OfClients : Type 0 where
  pub bounded : (s : Source) (tries : ℕ) (P : List Step) → AreUnderway s tries P → IsBounded (view s P)
  pub standing : (s : Source) (P : List Step) (t : ℕ) → (view s P).standing t ≡ standing_in P t
  pub sent : (s : Source) (tries : ℕ) (P : List Step) → AreUnderway s tries P → AllByRecursion (λ x. IsNumbered s P x.request) (exchanges_in P)
  pub suits : (s : Source) (tries : ℕ) (P : List Step) → AreUnderway s tries P → NoneReturns s P → (n txn : ℕ) (q : Request) → request_under s P n ≡ Some q → txn_in q ≡ Some txn → Suits s n txn ((view s P).standing txn) q
  pub none_returns : (s : Source) (L : List Meaning) (P : List Step) → actions P ≡ actions_of L → NoneReturns s P

pub record OfLedgers : Type 0 where
  pub arrival : (day : ℕ → ℕ) (default : ℕ) (H : List Entry) (r : Request) → IsLegal day default H → history_of day default (requests H ++ r ∷ []) ≡ with_arrival day default H r
  pub legal : (day : ℕ → ℕ) (default : ℕ) (A : List Request) → All IsRequest A → IsLegal day default (history_of day default A)
  pub days : (zone : Zone) → IsZone zone → IsDayRule (day_of zone)
  pub range : (day : ℕ → ℕ) (default : ℕ) (H : List Entry) (r : Request) → IsAmount default → IsDayRule day → IsLegal day default H → IsRequest r → IsReply (reply day default H r)
  pub stored : (day : ℕ → ℕ) (default : ℕ) (H : List Entry) → IsLegal day default H → All (λ e. RepliesSuit e.request e.reply) H
  pub suits : (day : ℕ → ℕ) (default : ℕ) (H : List Entry) (r : Request) → IsLegal day default H → RepliesSuit r (reply day default H r)
  pub same : (t u : Transaction) → same_transaction t u ≡ true → t ≡ u
  pub itself : (t : Transaction) → same_transaction t t ≡ true
  pub unheard : (H : List Entry) (t : Transaction) → named H t ≡ None → (ended H t ≡ false) × (held H t ≡ 0) × (settled_in H t ≡ 0)
  pub kept : (H : List Entry) (t : Transaction) → ended H t ≡ false → held H t + settled_in H t ≡ granted_in H t

pub record Known : Type 0 where
  pub frames : OfFrames
  pub clients : OfClients
  pub ledgers : OfLedgers
  pub tracks : AreNumbered

-- of a ledger's sums over transactions
pub record OfSums : Type 0 where
  pub held : (day : ℕ → ℕ) (default : ℕ) (H : List Entry) (l : List ℕ) (d : ℕ) (ts : List Transaction) → IsLegal day default H → AreDistinct ts → sum_by (held_on day H l d) ts ≤ reserved day H l d
  pub settled : (day : ℕ → ℕ) (default : ℕ) (H : List Entry) (l : List ℕ) (d : ℕ) (ts : List Transaction) → IsLegal day default H → AreDistinct ts → sum_by (settled_on day H l d) ts ≤ settled day H l d
  pub within : (day : ℕ → ℕ) (default : ℕ) (H : List Entry) → IsLegal day default H → (l : List ℕ) (d : ℕ) → used day H l d ≤ cap default H l d
