-- What is held of the connections as their map changes.
use Rattle.std.proofs.Common.{◌≡◌, ◌≢◌, ◌⊎◌, ℕ, List, [], refl, sym, ap, subst, ◌∙◌, true, false, Option, Some, None, inl, inr}
use Rattle.std.specs.Prelude.{eqb, option_map}
use Rattle.std.specs.BTreeMap.{BTreeMap, UpdatesBy, get, is_at}
use Rattle.std.specs.Cmp.{unsigned_tied}
use Rattle.std.specs.Map.{lookup}
use Rattle.std.specs.Ordering.{nat_cmp}
use Rattle.std.proofs.lemmas.Bool.{ne_eqb}
use Rattle.std.proofs.lemmas.Bool.Decides.{eqb_tells}
use Rattle.mq_lemmas.proofs.Options.{none_some, some_is}
use Rattle.mq_server.specs.Held.{State, fresh}
use Rattle.mq_connections.specs.declared.opened.OpenConnection.{OpenConnection}
use Rattle.mq_connections.specs.Sessions.{held}
use Rattle.mq_connections.specs.Turns.{Closes, Offers}
use Rattle.mq_connections.specs.Wires.{Wire}
use Rattle.mq_connections.proofs.Standing.{Opens}

abbrev Map : Type 0
Map = BTreeMap ℕ OpenConnection

abbrev connection_of : Option OpenConnection → Option State
connection_of o = option_map (λ o. o.connection) o

apart : (k q : ℕ) → k ≢ q → is_at (nat_cmp k) q ≡ false
apart k q not = unsigned_tied k q ∙ ne_eqb k q not

-- another number's stays
pub held_beside : (m n : Map) (k : ℕ) (w : Option OpenConnection) → UpdatesBy nat_cmp (nat_cmp k) m n w → (q : ℕ) → q ≢ k → held n q ≡ held m q
held_beside m n k w updates q not = ap connection_of (updates.2 q (apart k q (λ is. not (sym is))))

-- that number's is the new one
pub held_now : (m n : Map) (k : ℕ) (w : Option OpenConnection) → UpdatesBy nat_cmp (nat_cmp k) m n w → held n k ≡ connection_of w
held_now m n k w updates = ap connection_of updates.1

opens_at : (room : ℕ) (m n : Map) (k : ℕ) (o : OpenConnection) → o.connection ≡ fresh room → UpdatesBy nat_cmp (nat_cmp k) m n (Some o) → (q : ℕ) → ((eqb q k ≡ true) × (q ≡ k)) ⊎ ((eqb q k ≡ false) × (q ≢ k)) → (held n q ≡ held m q) ⊎ ((q ≡ k) × (held n q ≡ Some (fresh room)))
opens_at room m n k o new updates q (inl (t, is)) = inr (is, ap (held n) is ∙ held_now m n k (Some o) updates ∙ ap Some new)
opens_at room m n k o new updates q (inr (f, not)) = inl (held_beside m n k (Some o) updates q not)

pub opens_held : (room : ℕ) (m n : Map) (k : ℕ) (o : OpenConnection) → o.connection ≡ fresh room → UpdatesBy nat_cmp (nat_cmp k) m n (Some o) → Opens room (held m) (held n) k
opens_held room m n k o new updates q = opens_at room m n k o new updates q (eqb_tells q k)

pub empty_held : (m : Map) → m.entries ≡ [] → (n : ℕ) → held m n ≡ None
empty_held m is n = ap (λ (es : List (ℕ × OpenConnection)). connection_of (lookup (is_at (nat_cmp n)) es)) is

pub same_held : (m n : Map) → n.entries ≡ m.entries → (q : ℕ) → held n q ≡ held m q
same_held m n is q = ap (λ (es : List (ℕ × OpenConnection)). connection_of (lookup (is_at (nat_cmp q)) es)) is

-- a connection that was found is held
pub held_here : (m : Map) (k : ℕ) (o : OpenConnection) → Some o ≡ get nat_cmp m k → held m k ≡ Some o.connection
held_here m k o is = ap connection_of (sym is)

pub same_map : (m n : Map) → n ≡ m → (q : ℕ) → held n q ≡ held m q
same_map m n is q = ap (λ (x : Map). held x q) is

-- a connection that is held and one that was found are the same
pub found_is : (m : Map) (k : ℕ) (o : OpenConnection) (c : State) → Some o ≡ get nat_cmp m k → held m k ≡ Some c → o.connection ≡ c
found_is m k o c found here = some_is o.connection c (sym (held_here m k o found) ∙ here)

-- and nothing is held where none was found
pub not_none : (m : Map) (k : ℕ) (o : OpenConnection) → Some o ≡ get nat_cmp m k → held m k ≡ None → ⊥
not_none m k o found none = none_some o.connection (sym none ∙ held_here m k o found)

pub none_here : (m : Map) (k : ℕ) → None ≡ get nat_cmp m k → held m k ≡ None
none_here m k is = ap connection_of (sym is)

-- ---- a connection that is closed

-- it was found, and its replies were offered
pub closes_one : (m n : Map) (k : ℕ) (o : OpenConnection) (old mid new : ℕ → Wire) → Some o ≡ get nat_cmp m k → UpdatesBy nat_cmp (nat_cmp k) m n None → ((q : ℕ) → q ≢ k → mid q ≡ old q) → Offers o.connection (old k) (mid k)
    → ((q : ℕ) → new q ≡ mid q) → Closes (held m) (held n) old new k
closes_one m n k o old mid new found updates others offers same =
    let P : Wire → Type 0 = λ w. Offers o.connection (old k) w in
    let Q : State → Type 0 = λ x. Offers x (old k) (new k) in
    record {
      gone = held_now m n k None updates;
      others = λ q not. (held_beside m n k None updates q not, same q ∙ others q not);
      absent = λ none. absurd (not_none m k o found none);
      offers = λ c is. subst Q (found_is m k o c found is) (subst P (sym (same k)) offers);
    }

-- or there was none
pub closes_none : (m n : Map) (k : ℕ) (old : ℕ → Wire) → None ≡ get nat_cmp m k → n.entries ≡ m.entries → Closes (held m) (held n) old old k
closes_none m n k old found same = record {
  gone = same_held m n same k ∙ none_here m k found;
  others = λ q not. (same_held m n same q, refl);
  absent = λ none. refl;
  offers = λ c is. absurd (none_some c (sym (none_here m k found) ∙ is));
}
