-- What the table allows others is no request of a filter run.
use Rattle.std.proofs.Common.{◌≡◌, ℕ, List, ◌||◌, IsTrue, Some, None, subst}
use Rattle.mq_lemmas.proofs.Booleans.{or_first, or_second}
use Rattle.mq_request.specs.declared.message.Id.{Id}
use Rattle.mq_request.specs.declared.message.Request.{Request}
use Rattle.mq_request.specs.declared.message.Request.TheVariants.{Reserve, Settle, Release, Limit, Usage, List as ListRequest, Retire}
use Rattle.mq_permits.specs.Permits.{allows, are_from, is_of_host}
use Rattle.mq_permits.specs.declared.peer.Peer.{Peer}
use Rattle.mq_permits.specs.declared.permits.Permits.{Permits}
use Rattle.mq_client.specs.Numbers.{id_in}
use Rattle.mq_world.specs.World.{Site, World, Next, OthersSend, IsFrameOfOthers}
use Rattle.mq_world.specs.Together.{Together, ReachesTogether, FromStart, Steps, Moves, Forgets}
use Rattle.mq_world.specs.Permitted.{AreAllowed, IsApart, NextPermitted, GoOn, OthersAsk, ReachesPermitted, AtStart, StepsPermitted, MovesOver, ForgetsDays}
use Rattle.mq_world.proofs.laws.never_past_the_limits_by_addresses.Goals as goal

some_inj : (a b : Id) → Some a ≡ Some b → a ≡ b
some_inj a b is = cc

none_some : (a : Id) → None ≡ Some a → ⊥
none_some a is = cc

-- from an address from which it may be asked
abbrev From : Permits → Peer → List ℕ → Type 0
From permits peer host = IsTrue (is_of_host permits peer host || are_from peer permits.admin.items)

-- a numbered request that is allowed comes from such an address of its host
asks_from : (permits : Permits) (peer : Peer) (q : Request) (id : Id) → id_in q ≡ Some id → IsTrue (allows permits peer q) → From permits peer id.host
asks_from permits peer (Reserve i txn moment login count) id is may = subst (λ (x : Id). From permits peer x.host) (some_inj i id is) (or_first _ _ may)
asks_from permits peer (Settle i txn moment login count) id is may = subst (λ (x : Id). From permits peer x.host) (some_inj i id is) (or_first _ _ may)
asks_from permits peer (Release i txn moment login) id is may = subst (λ (x : Id). From permits peer x.host) (some_inj i id is) (or_first _ _ may)
asks_from permits peer (Limit i from_day cap login) id is may = subst (λ (x : Id). From permits peer x.host) (some_inj i id is) (or_second _ _ may)
asks_from permits peer (Usage login day) id is may = absurd (none_some id is)
asks_from permits peer (ListRequest day after) id is may = absurd (none_some id is)
asks_from permits peer (Retire i) id is may = subst (λ (x : Id). From permits peer x.host) (some_inj i id is) may

of_others : (site : Site) (permits : Permits) (peer : Peer) (bytes : List ℕ) → AreAllowed permits peer bytes → IsApart site permits peer bytes → IsFrameOfOthers site bytes
of_others site permits peer bytes allowed apart body q is spells id under = apart body q id is spells under (asks_from permits peer q id under (allowed body q is spells))

next_of : (site : Site) (permits : Permits) (w later : World) → NextPermitted site permits w later → Next site w later
next_of site permits w later (GoOn _ step own) = step
next_of site permits w later (OthersAsk peer bytes allowed apart) = OthersSend bytes (of_others site permits peer bytes allowed apart)

reached_of : (site : Site) (permits : Permits) (start : Together) (F : ℕ) (c : Together) → ReachesPermitted site permits start F c → ReachesTogether site start F c
reached_of site permits start F c AtStart = FromStart
reached_of site permits start F c (StepsPermitted before later r step) = Steps before later (reached_of site permits start F before r) (next_of site permits before.world later step)
reached_of site permits start F c (MovesOver before behind ahead b r is) = Moves before behind ahead b (reached_of site permits start F before r) is
reached_of site permits start F c (ForgetsDays before D r most) = Forgets before D (reached_of site permits start F before r) most

pub returns : goal.returns
returns c = record {
  step = next_of;
  reached = λ site permits start c' F r. reached_of site permits start F c' r;
  limit = λ site permits start c' F begins r l d ts distinct least.
      c.never_past_the_limits_together.ensures.limit site start c' F begins (reached_of site permits start F c' r) l d ts distinct least;
}
