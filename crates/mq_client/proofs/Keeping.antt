-- What stays so of a client over its steps.
use Rattle.std.proofs.Common.{◌≡◌, ℕ, ◌+◌, ◌-◌, ◌<◌, ◌≤◌, ◌==◌, nat_le, Bool, false, true, List, refl, sym, ◌∙◌, subst, arith, Option, None, Some, is_some, if◌then◌else◌}
use Rattle.mq_client.proofs.Words.{AllHeld, RecipientAnswer, HeldTransaction, IsHeld, eqb-true, find, is_other, leb-false, let_through, ltb-false, neither, none_some, opened, refuses, some_is}
use Rattle.mq_request.specs.Range.{IsOrdinal, IsMoment, IsLogin}
use Rattle.mq_client.specs.declared.recipient_answer.RecipientAnswer.TheVariants as asked

held_where : (old new : List (ℕ × HeldTransaction)) (txn t : ℕ) (o : Option HeldTransaction) (h : HeldTransaction) (b : Bool) → (txn == t) ≡ b → find new t ≡ (if b then o else find old t) → AllHeld old → ((k : HeldTransaction) → o ≡ Some k → IsHeld txn k) → find new t ≡ Some h → IsHeld t h
held_where old new txn t o h true e n all here f = subst (λ (k : ℕ). IsHeld k h) (eqb-true txn t e) (here h (sym n ∙ f))
held_where old new txn t o h false e n all here f = all t h (sym n ∙ f)

-- one transaction is written
pub AllHeld-set : (old new : List (ℕ × HeldTransaction)) (txn : ℕ) (o : Option HeldTransaction) → ((t : ℕ) → find new t ≡ (if txn == t then o else find old t)) → AllHeld old → ((k : HeldTransaction) → o ≡ Some k → IsHeld txn k) → AllHeld new
AllHeld-set old new txn o n all here = λ t h f. held_where old new txn t o h (txn == t) refl (n t) all here f

pub opened_in_range : (held : List (ℕ × HeldTransaction)) (txn moment : ℕ) (login : List ℕ) (o : Option HeldTransaction) → find held txn ≡ o → AllHeld held → IsOrdinal txn → IsMoment moment → IsLogin login → IsHeld txn (opened moment login o)
opened_in_range held txn moment login None e all n m l = record { number = n; moment = m; login = l; granted = omega arith }
opened_in_range held txn moment login (Some h) e all n m l = all txn h e

pub let_in_range : (txn : ℕ) (answer : RecipientAnswer) (h : HeldTransaction) → h.granted < 1000 → IsHeld txn h → IsHeld txn (let_through answer h)
let_in_range txn asked.Granted h few i = record { number = i.number; moment = i.moment; login = i.login; granted = omega (arith, few) }
let_in_range txn answer h few i = i

-- a transaction after an ask
pub asked_in_range : (held new : List (ℕ × HeldTransaction)) (txn moment : ℕ) (login : List ℕ) (answer : RecipientAnswer) → (opened moment login (find held txn)).granted < 1000
    → ((t : ℕ) → find new t ≡ (if txn == t then Some (let_through answer (opened moment login (find held txn))) else find held t))
    → AllHeld held → IsOrdinal txn → IsMoment moment → IsLogin login → AllHeld new
asked_in_range held new txn moment login answer few n all i m l =
    AllHeld-set held new txn _ n all (λ k e. subst (IsHeld txn) (some_is _ k e) (let_in_range txn answer _ few (opened_in_range held txn moment login (find held txn) refl all i m l)))

pub closed_in_range : (held new : List (ℕ × HeldTransaction)) (txn : ℕ) → ((t : ℕ) → find new t ≡ (if txn == t then None else find held t)) → AllHeld held → AllHeld new
closed_in_range held new txn n all = AllHeld-set held new txn None n all (λ k e. absurd (none_some k e))

-- an ask that isn't refused has room
pub record HasRoom (o : Option HeldTransaction) (live used waiting : ℕ) : Type 0 where
  pub places : (new : ℕ) → new ≡ (if is_some o then live else live + 1) → new + waiting ≤ 4096
  pub numbers : (new : ℕ) → new ≡ (if is_some o then live else live + 1) → used + 1 + new ≤ 4294967295
  pub few : (moment : ℕ) (login : List ℕ) → (opened moment login o).granted < 1000

pub has_room : (o : Option HeldTransaction) (live numbers waiting moment : ℕ) (login : List ℕ) → refuses o live numbers waiting moment login ≡ false → live + waiting ≤ 4096 → numbers + live ≤ 4294967295 → HasRoom o live numbers waiting
has_room None live numbers waiting moment login e places limit =
    let (a, b) = neither (nat_le 4096 (live + waiting)) _ e in
    record {
      places = λ new f. omega (arith, f, leb-false 4096 (live + waiting) a);
      numbers = λ new f. omega (arith, f, ltb-false (4294967295 - numbers) (1 + (live + 1)) b);
      few = λ moment' login'. omega arith;
    }
has_room (Some h) live numbers waiting moment login e places limit =
    let (a, b) = neither (is_other h moment login) _ e in
    let (c, d) = neither (nat_le 1000 h.granted) _ b in
    record {
      places = λ new f. omega (arith, f, places);
      numbers = λ new f. omega (arith, f, ltb-false (4294967295 - numbers) (1 + live) d);
      few = λ moment' login'. omega (arith, leb-false 1000 h.granted c);
    }
