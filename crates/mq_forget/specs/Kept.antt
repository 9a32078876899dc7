-- Which histories tell the same.
use Rattle.std.specs.Prelude.{◌≡◌, ℕ, ◌≤◌, ◌<◌, List, false}
use Rattle.mq_ledger.specs.declared.entry.Entry.{Entry}
use Rattle.mq_ledger.specs.History.{Transaction, named, closed, abandoned, held, settled_in, reserved, settled, used}
use Rattle.mq_ledger.specs.Legal.{IsLegal}
use Rattle.mq_ledger.specs.Page.{has_reserve}

-- of a transaction: it is named by the same entry, closed or not, by a retire alone or not, holds as much and settled
-- as much
pub record AreAlike (K H : List Entry) (t : Transaction) : Type 0 where
  pub named : named K t ≡ named H t
  pub closed : closed K t ≡ closed H t
  pub abandoned : abandoned K t ≡ abandoned H t
  pub held : held K t ≡ held H t
  pub settled : settled_in K t ≡ settled_in H t

-- of the logins on D and later days, where K is legal and knows of no reserve on an earlier day
pub record Keeps (day : ℕ → ℕ) (default : ℕ) (D : ℕ) (K H : List Entry) : Type 0 where
  pub legal : IsLegal day default K
  pub reserved : (l : List ℕ) (d : ℕ) → D ≤ d → reserved day K l d ≡ reserved day H l d
  pub settled : (l : List ℕ) (d : ℕ) → D ≤ d → settled day K l d ≡ settled day H l d
  pub reserves : (l : List ℕ) (d : ℕ) → D ≤ d → has_reserve day K d l ≡ has_reserve day H d l
  pub unused : (l : List ℕ) (d : ℕ) → d < D → used day K l d ≡ 0
  pub reserves_none : (l : List ℕ) (d : ℕ) → d < D → has_reserve day K d l ≡ false
