-- The map of sessions, read by the bytes of its keys.
use Rattle.mq_lemmas.proofs.Keys.{key_cmp, apart, others}
use Rattle.std.proofs.Common.{◌≡◌, ℕ, List, [], ◌∷◌, Bool, true, false, cond, map, refl, sym, ap, ◌∙◌, subst}
use Rattle.std.specs.Prelude.{IsTrue, ◌||◌, Option, None, Some, is_some, unwrap_or, if◌then◌else◌}
use Rattle.std.specs.declared.alloc.Global.{Global}
use Rattle.std.specs.declared.vec.Vec.{Vec}
use Rattle.std.specs.declared.cmp.Ordering.{Ordering}
use Rattle.std.specs.BTreeMap.{BTreeMap, is_at, get_by, UpdatesBy}
use Rattle.std.specs.Cmp.{eq_by_cmp_equiv}
use Rattle.std.specs.Cmp.Lexicographic.{slice_cmp, bytes_decides, nat_list_cmp_total, nat_list_eq_equiv}
use Rattle.std.specs.Map.{lookup, IsKeyTest, AreApart, KeepsOthers}
use Rattle.std.specs.Option.{option_map}
use Rattle.std.specs.Ordering.{is_eq, nat_cmp}
use Rattle.std.specs.Str.{bytes_eq}
use Rattle.std.proofs.lemmas.Map.Text.{is_eq-slice_cmp}
use Rattle.mq_track.specs.State.{Known, known, nothing, Learns}
use Rattle.mq_track.specs.Inside.{entry, bytes, kept, known_by, known_in}
use Rattle.mq_track.specs.Sessions.{Transaction}
use Rattle.mq_track.specs.declared.sessions.Session.{Session}

abbrev Records : Type 0
Records = BTreeMap (Vec ℕ Global) Session

known_cond : (b : Bool) (r : Session) (more : Option Known) (rest : Option Session) → unwrap_or more nothing ≡ known_in rest → unwrap_or (cond b (Some (known_by r)) more) nothing ≡ known_in (cond b (Some r) rest)
known_cond true r more rest e = refl
known_cond false r more rest e = e

-- what is known of s is what its record reports
pub known-entry : (es : List (Vec ℕ Global × Session)) (s : List ℕ) → known (map entry es) s ≡ known_in (lookup (is_at (key_cmp s)) es)
known-entry [] s = refl
known-entry (e ∷ es) s = rw (is_eq-slice_cmp s e.0.items) (known_cond (bytes_eq s e.0.items) e.1 _ _ (known-entry es s))

either_known : (b : Bool) (w : Known) (x y : Known) → (b ≡ true → x ≡ w) → (b ≡ false → x ≡ y) → x ≡ (if b then w else y)
either_known true w x y h n = h refl
either_known false w x y h n = n refl

-- a change of the record of s changes what is known of s, and of no other session
pub learns : (m n : Records) (s : List ℕ) (w : Option Session) → UpdatesBy (λ x y. slice_cmp nat_cmp x.items y.items) (key_cmp s) m n w → Learns (map entry m.entries) (map entry n.entries) s (known_in w)
learns m n s w h q = either_known (bytes_eq s q) (known_in w) _ _
    (λ y. known-entry n.entries q ∙ subst (λ l. known_in (get_by (key_cmp l) n) ≡ known_in w) ((bytes_decides s q).0 y) (ap known_in h.1))
    (λ y. known-entry n.entries q ∙ (ap known_in (others _ _ m.entries n.entries h.3 (is_at (key_cmp q)) (λ a b. (eq_by_cmp_equiv nat_list_cmp_total).congr q a.items b.items) (λ k. apart s q k.items y)) ∙ sym (known-entry m.entries q)))

-- the same, where the new record reports `what`
pub learned : (m n : Records) (w : Option Session) (key s : List ℕ) (sessions : List (List ℕ × Known)) (what : Known) → map entry m.entries ≡ sessions → key ≡ s → known_in w ≡ what
    → UpdatesBy (λ x y. slice_cmp nat_cmp x.items y.items) (key_cmp key) m n w → Learns sessions (map entry n.entries) s what
learned m n w key s sessions what is same e h = subst (λ (l : List (List ℕ × Known)). Learns l (map entry n.entries) s what) is
    (subst (λ (t : List ℕ). Learns (map entry m.entries) (map entry n.entries) t what) same
    (λ q. learns m n key w h q ∙ ap (λ k. if bytes_eq key q then k else known (map entry m.entries) q) e))

-- a record with another login
pub named : (m : Records) (s name : List ℕ) (sessions : List (List ℕ × Known)) (v : Vec ℕ Global) (old : Session) → map entry m.entries ≡ sessions → v.items ≡ name → Some old ≡ get_by (key_cmp s) m
    → ◌≡◌ {A = Known} (record { login = Some v.items; transaction = option_map kept old.transaction }) (record { login = Some name; transaction = (known sessions s).transaction })
named m s name sessions v old is items was = rw (← is, known-entry m.entries s, ← was, items) refl

-- a new record with a login
pub named_first : (m : Records) (s name : List ℕ) (sessions : List (List ℕ × Known)) (v : Vec ℕ Global) → map entry m.entries ≡ sessions → v.items ≡ name → None ≡ get_by (key_cmp s) m
    → ◌≡◌ {A = Known} (record { login = Some v.items; transaction = None }) (record { login = Some name; transaction = (known sessions s).transaction })
named_first m s name sessions v is items was = rw (← is, known-entry m.entries s, ← was, items) refl

-- a record with another transaction
pub begun : (m : Records) (s : List ℕ) (sessions : List (List ℕ × Known)) (t : Option Transaction) (old : Session) → map entry m.entries ≡ sessions → Some old ≡ get_by (key_cmp s) m
    → ◌≡◌ {A = Known} (record { login = option_map bytes old.login; transaction = t }) (record { login = (known sessions s).login; transaction = t })
begun m s sessions t old is was = rw (← is, known-entry m.entries s, ← was) refl

-- a new record with a transaction
pub begun_first : (m : Records) (s : List ℕ) (sessions : List (List ℕ × Known)) (t : Option Transaction) → map entry m.entries ≡ sessions → None ≡ get_by (key_cmp s) m
    → ◌≡◌ {A = Known} (record { login = None; transaction = t }) (record { login = (known sessions s).login; transaction = t })
begun_first m s sessions t is was = rw (← is, known-entry m.entries s, ← was) refl

some_bytes : (o : Option (Vec ℕ Global)) → is_some (option_map bytes o) ≡ is_some o
some_bytes None = refl
some_bytes (Some v) = refl

-- a session whose login is known has a record with a login
pub has_record : (m : Records) (s : List ℕ) (sessions : List (List ℕ × Known)) (old : Session) → map entry m.entries ≡ sessions → Some old ≡ get_by (key_cmp s) m → is_some old.login ≡ is_some (known sessions s).login
has_record m s sessions old is was = rw (← is, known-entry m.entries s, ← was) (sym (some_bytes old.login))

-- of a session with no record no login is known
pub no_record : (m : Records) (s : List ℕ) (sessions : List (List ℕ × Known)) → map entry m.entries ≡ sessions → None ≡ get_by (key_cmp s) m → is_some (known sessions s).login ≡ false
no_record m s sessions is was = rw (← is, known-entry m.entries s, ← was) refl

-- it stays in use without its transaction
pub stays_in_use : (o : Option (Vec ℕ Global)) (b : Bool) → is_some o ≡ b → true ≡ b → IsTrue (is_some o || false)
stays_in_use (Some v) b e t = refl
stays_in_use None b e t = e ∙ sym t
