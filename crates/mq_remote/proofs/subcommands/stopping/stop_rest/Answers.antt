use Rattle.std.proofs.Common.{[], map, subst, sym, true}
use Rattle.mq_process.specs.Refusals.{HasNoAddress}
use Rattle.mq_remote.specs.Stops.{StopsEach, StopsIn, ended, round}
use Rattle.mq_remote.proofs.subcommands.stopping.stop_rest.Goals as goal

pub loop-round-init : goal.loop-round-init
loop-round-init g c = (c.requires.servers, λ status rest. rest)

pub returns-then-is_empty : goal.returns-then-is_empty
returns-then-is_empty g c = λ status ends. c.loop-round.invariant.1 status (ended _ _ ends)

pub stop_each-next-requires-clause-servers : goal.stop_each-next-requires-clause-servers
stop_each-next-requires-clause-servers g c =
    subst (λ l. HasNoAddress (map (λ s. s.now) l) → ⊥) (sym c.as_slice-servers.ensures.value) c.loop-round.invariant.0

pub loop-round-preserved : goal.loop-round-preserved
loop-round-preserved g c =
    let t = c.args.task in (
      c.stop_each-next.ensures.left,
      λ status rest. c.loop-round.invariant.1 status
          (round _ _ _ _ (subst (λ l. StopsEach (StopsIn g.D.Dial.leads g.D.Link.Link.told t.setter.now t.order t.is_alone true) c.stop_each-next.result.status
          (map (λ s. s.now) c.stop_each-next.result.left.items) (map (λ s. s.now) l) c.loop-round.round.status []) c.as_slice-servers.ensures.value c.stop_each-next.ensures.each) rest),
    )

pub returns : goal.returns
returns g c = λ status ends. c.loop-round.invariant.1 status (ended _ _ ends)
