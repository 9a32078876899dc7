-- The first request of its number, whose run isn't below the floor, is one that the history doesn't know.
use Rattle.std.proofs.Common.{Bool, List, None, Some, ap, ap₂, false, is_some, not, ◌||◌, ◌∙◌, ◌≡◌}
use Rattle.mq_store.proofs.Words.{Entry, Id, Request, first, id_of, is_below, is_first, is_first_by, known_by, neither, not_some, requests, stored}
use Rattle.mq_ledger.proofs.Numbers.{stored_any}

pub first_if_unknown : (H : List Entry) (r : Request) (id : Id) → first (requests H) ≡ requests H → id_of r ≡ Some id → is_first (requests H) r ≡ not (known_by H (Some id))
first_if_unknown H r id distinct numbered =
    ap (is_first_by (requests H)) numbered ∙ ap not (ap₂ (λ (a b : Bool). a || b) (ap (λ (rs : List Request). is_below rs id) distinct) (stored_any H id))

pub unnumbered_is_not_first : (H : List Entry) (r : Request) → id_of r ≡ None → is_first (requests H) r ≡ false
unnumbered_is_not_first H r unnumbered = ap (is_first_by (requests H)) unnumbered

-- a number is known where its run is below the floor, and where it is stored
pub not_known : (H : List Entry) (id : Id) → known_by H (Some id) ≡ false → (is_below (requests H) id ≡ false) × (stored H id ≡ None)
not_known H id new = (let both = neither (is_below (requests H) id) (is_some (stored H id)) new in (both.0, not_some (stored H id) both.1))

-- where its run isn't below the floor it is known as it is stored
pub known_as_stored : (H : List Entry) (id : Id) (b : Bool) → is_below (requests H) id ≡ false → is_some (stored H id) ≡ b → known_by H (Some id) ≡ b
known_as_stored H id b above there = ap₂ (λ (a c : Bool). a || c) above there
