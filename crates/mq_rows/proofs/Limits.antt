-- What one more entry does to the rows of limits.
use Rattle.std.proofs.Common.{◌≡◌, ℕ, List, [], ◌∷◌, ◌++◌, true, false, refl, ◌∙◌, ap, sym, if◌then◌else◌, Option, Some, None, option_map}
use Rattle.mq_rows.proofs.Words.{AreLimits, Entry, FoundRows, Id, IsFound, Leads, Limit, LimitRecord, LimitSet, Reply, Request, Tables, cap_of, entry, is_limit, limit_row, limit_write, same_from, set_cap, set_limit, set_limit_to, sets_from, those}
use Rattle.mq_rows.proofs.Lists.{insert, update, Key, find_of_those, limits, mapped_from, place_itself}

-- What the ledger's law says of one more entry and the limits that were set.
abbrev pub Sets : List Entry → Type 0
Sets H = (e : Entry) (l : List ℕ) (d : ℕ) → set_cap (H ++ e ∷ []) l d ≡ (if sets_from l d e then Some (cap_of e.request) else set_cap H l d)

abbrev limit_at : List Entry → Key → Option LimitRecord
limit_at H k = limit_row H k.0 k.1

-- the row of a cap, where there is one
abbrev row_of_cap : List ℕ → ℕ → Option ℕ → Option LimitRecord
row_of_cap l d o = option_map (λ c. record { login = l; day = d; cap = c }) o

module _ (H : List Entry) (more : Sets H) where
  unset : (e : Entry) (l : List ℕ) (d : ℕ) → sets_from l d e ≡ false → limit_row (H ++ e ∷ []) l d ≡ limit_row H l d
  unset e l d f = ap (row_of_cap l d) (more e l d ∙ (rw f refl))

  -- A limit that was set.
  module _ (id : Id) (from asked : ℕ) (login : List ℕ) (id' : Id) where
    abbrev limit : Entry
    limit = entry (Limit id from asked login) (LimitSet id')

    limit_own : limit_row (H ++ limit ∷ []) login from ≡ Some (record { login = login; day = from; cap = asked })
    limit_own =
        let mine : sets_from login from limit ≡ true = place_itself (login, from) in
        let set_is : set_cap (H ++ limit ∷ []) login from ≡ Some asked = more limit login from ∙ (rw mine refl) in
        ap (row_of_cap login from) set_is

    limit_leads : (rows : List LimitRecord) (o : Option LimitRecord) → AreLimits H rows → o ≡ limit_row H login from → Leads same_from set_limit (set_limit_to login from asked o) rows (AreLimits (H ++ limit ∷ []))
    limit_leads rows None are found =
        insert limits (limit_at H) (limit_at (H ++ limit ∷ [])) rows (λ k. are k.0 k.1) (login, from) (λ k f. unset limit k.0 k.1 f) (AreLimits (H ++ limit ∷ [])) (λ _ all l d. all (l, d))
        (record { login = login; day = from; cap = asked }) refl (sym found) limit_own
    limit_leads rows (Some c) are found =
        update limits (limit_at H) (limit_at (H ++ limit ∷ [])) rows (λ k. are k.0 k.1) (login, from) (λ k f. unset limit k.0 k.1 f) (AreLimits (H ++ limit ∷ [])) (λ _ all l d. all (l, d))
        (record c { cap = asked }) c refl (sym found)
        (limit_own ∙ ap (λ (w : LimitRecord). Some (record w { cap = asked })) (mapped_from (λ n. record { login = login; day = from; cap = n }) (set_cap H login from) c (sym found)).2)

  pub limits_lead : (day : ℕ → ℕ) (t : Tables) (r : Request) (a : Reply) (f : FoundRows) → AreLimits H t.limits → IsFound day t r f → Leads same_from set_limit (limit_write r a f.limit) t.limits (AreLimits (H ++ entry r a ∷ []))
  limits_lead day t (Limit id from asked login) (LimitSet id') f are found =
      limit_leads id from asked login id' t.limits f.limit are (found.1 ∙ find_of_those (is_limit login from) t.limits (limit_row H login from) (are login from))
  limits_lead day t r a f are found = λ l d. are l d ∙ ap those (sym (unset (entry r a) l d refl))
