-- What one more entry does to a login's limit.
use Rattle.mq_ledger.proofs.Words.{Bool, Entry, List, [], ap, append-nil, arith, cap, cap_of, false, filter, filter-append, fold_push, from_of, governs, greater, if◌then◌else◌, last_cap, latest, limits, nat_tests, refl, sym, true, ℕ, ◌++◌, ◌<◌, ◌==◌, ◌∙◌, ◌∷◌, ◌≡◌, ◌≤◌}

latest_push : (es : List Entry) (e : Entry) → latest (es ++ e ∷ []) ≡ greater (latest es) (from_of e.request)
latest_push es e = fold_push (λ m x. greater m (from_of x.request)) 0 es e

last_cap_push : (default : ℕ) (es : List Entry) (e : Entry) → last_cap default (es ++ e ∷ []) ≡ cap_of e.request
last_cap_push default es e = fold_push (λ _ x. cap_of x.request) default es e

-- of those with the greatest from-day, the cap of the last
abbrev newest_cap : ℕ → List Entry → ℕ
newest_cap default es = last_cap default (filter (λ e. from_of e.request == latest es) es)

last_at : (default m : ℕ) (es : List Entry) (e : Entry) → from_of e.request ≡ m → last_cap default (filter (λ x. from_of x.request == m) (es ++ e ∷ [])) ≡ cap_of e.request
last_at default m es e same =
    let p : Entry → Bool = λ x. from_of x.request == m in
    let passes : p e ≡ true = grind (arith, nat_tests) in
    rw (filter-append p es (e ∷ []), passes) (last_cap_push default (filter p es) e)

last_before : (default m : ℕ) (es : List Entry) (e : Entry) → from_of e.request < m → last_cap default (filter (λ x. from_of x.request == m) (es ++ e ∷ [])) ≡ last_cap default (filter (λ x. from_of x.request == m) es)
last_before default m es e less =
    let p : Entry → Bool = λ x. from_of x.request == m in
    let fails : p e ≡ false = grind (arith, nat_tests) in
    rw (filter-append p es (e ∷ []), fails) (rw append-nil refl)

newest_push_newer : (default : ℕ) (es : List Entry) (e : Entry) → latest es ≤ from_of e.request → newest_cap default (es ++ e ∷ []) ≡ cap_of e.request
newest_push_newer default es e newer =
    let m : from_of e.request ≡ latest (es ++ e ∷ []) = grind (arith, nat_tests, latest_push es e) in
    last_at default _ es e m

newest_push_older : (default : ℕ) (es : List Entry) (e : Entry) → from_of e.request < latest es → newest_cap default (es ++ e ∷ []) ≡ newest_cap default es
newest_push_older default es e older =
    let m : latest (es ++ e ∷ []) ≡ latest es = grind (arith, nat_tests, latest_push es e) in
    rw m (last_before default _ es e older)

pub latest_push_newer : (es : List Entry) (e : Entry) → latest es ≤ from_of e.request → latest (es ++ e ∷ []) ≡ from_of e.request
latest_push_newer es e newer = grind (arith, nat_tests, latest_push es e)

pub latest_push_older : (es : List Entry) (e : Entry) → from_of e.request < latest es → latest (es ++ e ∷ []) ≡ latest es
latest_push_older es e older = grind (arith, nat_tests, latest_push es e)

limits_push : (H : List Entry) (l : List ℕ) (d : ℕ) (e : Entry) → limits (H ++ e ∷ []) l d ≡ (if governs l d e then limits H l d ++ e ∷ [] else limits H l d)
limits_push H l d e = grind (arith, nat_tests, filter-append (governs l d) H (e ∷ []), append-nil)

pub limits_other : (H : List Entry) (l : List ℕ) (d : ℕ) (e : Entry) → governs l d e ≡ false → limits (H ++ e ∷ []) l d ≡ limits H l d
limits_other H l d e f = rw (limits_push H l d e, f) refl

pub limits_more : (H : List Entry) (l : List ℕ) (d : ℕ) (e : Entry) → governs l d e ≡ true → limits (H ++ e ∷ []) l d ≡ limits H l d ++ e ∷ []
limits_more H l d e t = rw (limits_push H l d e, t) refl

-- an entry that doesn't govern the day leaves the limit
pub cap_push_other : (default : ℕ) (H : List Entry) (l : List ℕ) (d : ℕ) (e : Entry) → governs l d e ≡ false → cap default (H ++ e ∷ []) l d ≡ cap default H l d
cap_push_other default H l d e f = ap (newest_cap default) (limits_other H l d e f)

-- one from the same day as the governing one, or a later day, replaces it
pub cap_push_newer : (default : ℕ) (H : List Entry) (l : List ℕ) (d : ℕ) (e : Entry) → governs l d e ≡ true → latest (limits H l d) ≤ from_of e.request → cap default (H ++ e ∷ []) l d ≡ cap_of e.request
cap_push_newer default H l d e t newer = ap (newest_cap default) (limits_more H l d e t) ∙ newest_push_newer default (limits H l d) e newer

-- one from an earlier day doesn't
pub cap_push_older : (default : ℕ) (H : List Entry) (l : List ℕ) (d : ℕ) (e : Entry) → governs l d e ≡ true → from_of e.request < latest (limits H l d) → cap default (H ++ e ∷ []) l d ≡ cap default H l d
cap_push_older default H l d e t older = ap (newest_cap default) (limits_more H l d e t) ∙ newest_push_older default (limits H l d) e older

-- What is kept while reading on: the limit so far and its from-day.

pub record IsNewest (default : ℕ) (H : List Entry) (l : List ℕ) (d : ℕ) (c from : ℕ) : Type 0 where
  pub cap : c ≡ cap default H l d
  pub since : from ≡ latest (limits H l d)

pub newest_other : (default : ℕ) (H : List Entry) (l : List ℕ) (d : ℕ) (c from : ℕ) (e : Entry) → IsNewest default H l d c from → governs l d e ≡ false → IsNewest default (H ++ e ∷ []) l d c from
newest_other default H l d c from e b f = record {
  cap = b.cap ∙ sym (cap_push_other default H l d e f);
  since = b.since ∙ sym (ap latest (limits_other H l d e f));
}

pub newest_newer : (default : ℕ) (H : List Entry) (l : List ℕ) (d : ℕ) (c from : ℕ) (e : Entry) → IsNewest default H l d c from → governs l d e ≡ true → from ≤ from_of e.request → IsNewest default (H ++ e ∷ []) l d (cap_of e.request) (from_of e.request)
newest_newer default H l d c from e b t newer =
    let le : latest (limits H l d) ≤ from_of e.request = rw (← b.since) newer in
    record {
      cap = sym (cap_push_newer default H l d e t le);
      since = sym (ap latest (limits_more H l d e t) ∙ latest_push_newer (limits H l d) e le);
    }

pub newest_older : (default : ℕ) (H : List Entry) (l : List ℕ) (d : ℕ) (c from : ℕ) (e : Entry) → IsNewest default H l d c from → governs l d e ≡ true → from_of e.request < from → IsNewest default (H ++ e ∷ []) l d c from
newest_older default H l d c from e b t older =
    let lt : from_of e.request < latest (limits H l d) = rw (← b.since) older in
    record {
      cap = b.cap ∙ sym (cap_push_older default H l d e t lt);
      since = b.since ∙ sym (ap latest (limits_more H l d e t) ∙ latest_push_older (limits H l d) e lt);
    }
