use Rattle.std.proofs.Common.{◌≡◌, ◌==◌, [], Bool, ap, false, length, map, subst, sym, true}
use Rattle.std.proofs.lemmas.List.{length-map}
use Rattle.mq_remote.specs.Stops.{StopsEach, StopsIn, StopsOn}
use Rattle.mq_remote.proofs.subcommands.stopping.stop_everywhere.Goals as goal

pub returns : goal.returns
returns g c =
    let servers = map (λ s. s.now) c.args.servers.now in
    let r = c.stop_each-first.result in
    let left = map (λ s. s.now) r.left.items in
    let same : (length c.args.servers.now == 1) ≡ (length servers == 1) = ap (λ n. n == 1) (sym (length-map c.args.servers.now (λ s. s.now))) in record {
      first = r.status;
      left = left;
      each = subst (λ (b : Bool). StopsEach (StopsIn g.D.Dial.leads g.D.Link.Link.told c.args.setter.now c.args.order b false) r.status left servers 0 []) same c.stop_each-first.ensures.each;
      rest = subst (λ (b : Bool). StopsOn c.args.is_waiting (StopsIn g.D.Dial.leads g.D.Link.Link.told c.args.setter.now c.args.order b true) c.stop_on.result left r.status) same c.stop_on.ensures;
    }
