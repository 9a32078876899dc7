-- What the rows of a legal history show is in range.
use Rattle.std.proofs.Common.{List, None, Option, Some, [], false, find, inl, inr, refl, subst, sym, true, ℕ, ◌==◌, ◌∷◌, ◌≡◌}
use Rattle.mq_store.proofs.Words.{AllByRecursion, Decides-eqb, Entry, Granted, IsAmount, IsLogin, IsNext, IsRequest, Reply, Request, Reserve, UsageRecord, are_amounts, cases_Bool, has_reserve, is_login, is_usage, le_is, login_on, same_text, usage_row}
use Rattle.std.specs.Cmp.Lexicographic.{bytes_decides}
use Rattle.mq_request.specs.declared.message.Reply.TheVariants.{Usage as UsageReply}
use Rattle.mq_store.proofs.KeyedRows.{contained}
use Rattle.mq_tables.proofs.usages.Following.{of_day}

-- ---- amounts

pub amounts : (s r c : ℕ) → IsAmount s → IsAmount r → IsAmount c → are_amounts s r c ≡ true
amounts s r c p q o = rw (le_is s 1000000 p.to, le_is r 1000000 q.to, le_is c 1000000 o.to) refl

-- the amounts of two replies to a usage that are the same
pub same_amounts : (l m : List ℕ) (d e : ℕ) (s r c s' r' c' : ℕ) → UsageReply l d s r c ≡ UsageReply m e s' r' c' → IsAmount s' → IsAmount r' → IsAmount c' → are_amounts s r c ≡ true
same_amounts l m d e s r c s' r' c' same p q o =
    let is : (s ≡ s') × (r ≡ r') × (c ≡ c') = (cc, cc, cc) in
    amounts s r c (subst IsAmount (sym is.0) p) (subst IsAmount (sym is.1) q) (subst IsAmount (sym is.2) o)

-- ---- logins

login_given : (day : ℕ → ℕ) (d : ℕ) (l : List ℕ) (r : Request) (a : Reply) → IsRequest r → is_login l (login_on day d r a) ≡ true → IsLogin l
login_given day d l (Reserve id txn moment login count) (Granted id' used) range hit = elim (cases_Bool (day moment == d)) [
  | inl on ↦ (let same : same_text l login ≡ true = rw on at hit in subst IsLogin (sym ((bytes_decides l login).0 same)) range.3)
  | inr off ↦ absurd (let none : false ≡ true = rw off at hit in cc)
]
login_given day d l r a range hit = absurd (let none : false ≡ true = hit in cc)

-- a login that has a granted reserve is one that was asked for
pub reserved_login : (day : ℕ → ℕ) (H : List Entry) (d : ℕ) (l : List ℕ) → AllByRecursion (λ e. IsRequest e.request) H → has_reserve day H d l ≡ true → IsLogin l
reserved_login day [] d l all hit = absurd (let none : false ≡ true = hit in cc)
reserved_login day (e ∷ H) d l all hit = elim (cases_Bool (is_login l (login_on day d e.request e.reply))) [
  | inl here ↦ login_given day d l e.request e.reply all.0 here
  | inr there ↦ reserved_login day H d l all.1 (rw there at hit)
]

-- a row of a history's usage has one
pub has_row : (day : ℕ → ℕ) (H : List Entry) (l : List ℕ) (d : ℕ) (u : UsageRecord) → Some u ≡ usage_row day H l d → has_reserve day H d l ≡ true
has_row day H l d u is = elim (cases_Bool (has_reserve day H d l)) [
  | inl has ↦ has
  | inr none ↦ absurd (let nothing : ◌≡◌ {A = Option UsageRecord} (Some u) None = rw none at is in cc)
]

-- ---- the next row of a page is the one under its key

its_own : (d : ℕ) (u : UsageRecord) → d ≡ u.day → is_usage u.login d u ≡ true
its_own d u same =
    let text : same_text u.login u.login ≡ true = (bytes_decides u.login u.login).1 refl in
    let day : (u.day == d) ≡ true = (Decides-eqb u.day d).1 (sym same) in
    rw (text, day) refl

pub row_found : (d : ℕ) (after : List ℕ) (rows : List UsageRecord) (u : UsageRecord) → AllByRecursion (λ (x : UsageRecord). is_usage u.login d x ≡ true → Some x ≡ find (is_usage u.login d) rows) rows → IsNext d after rows (Some u) → Some u ≡ find (is_usage u.login d) rows
row_found d after rows u only next = contained (λ (x : UsageRecord). is_usage u.login d x ≡ true → Some x ≡ find (is_usage u.login d) rows) rows u only next.0 (its_own d u (of_day d after u next.1))
