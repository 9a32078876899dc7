use Rattle.std.proofs.Common.{◌≡◌, ◌<◌, ◌≤◌, ◌+◌, ℕ, Option, IsTrue, nat_lt, ap, sym, subst, ◌∙◌, arith}
use Rattle.std.specs.Prelude.{is_some, if◌then◌else◌}
use Rattle.std.proofs.lemmas.Bool.{ltb-true, lt-ltb}
use Rattle.std.specs.BTreeMap.{btree_map_len}
use Rattle.mq_watch.specs.Known.{known}
use Rattle.mq_watch.specs.declared.nearing.LoginNote.{LoginNote}
use Rattle.mq_watch.proofs.nearing.Nearing.is_full.Goals as goal

-- one more than 100,000 are known, or fewer
past : (n most : ℕ) → n ≡ most → (IsTrue (nat_lt 100000 n) → 100000 + 1 ≤ most) × (100000 + 1 ≤ most → IsTrue (nat_lt 100000 n))
past n most is = (λ t. subst (λ m. 100000 + 1 ≤ m) is (omega (arith, ltb-true 100000 n t)), λ h. lt-ltb 100000 n (subst (λ m. 100000 < m) (sym is) (omega (arith, h))))

pub returns-in-Some : goal.returns-in-Some
returns-in-Some c =
    subst (λ (o : Option LoginNote). (IsTrue (nat_lt 100000 c.len.result) → 100000 + (if is_some o then 1 else 0) ≤ btree_map_len c.args.self.now.logins) × (100000 + (if is_some o then 1 else 0) ≤ btree_map_len c.args.self.now.logins → IsTrue (nat_lt 100000 c.len.result)))
    (c.in-Some.ensures.value ∙ ap (known c.args.self.now.logins) c.as_slice.ensures) (past c.len.result (btree_map_len c.args.self.now.logins) c.len.ensures.len)
