use Rattle.std.proofs.Common.{◌≡◌, option_map, refl, rules, suc}
use Rattle.mq_link.proofs.KeptSteps.{asks_again, asks_anew}
use Rattle.mq_link.proofs.tcp.TcpLink.ask.Goals as goal

-- none was kept
pub returns-in_default-clause-asked : goal.returns-in_default-clause-asked
returns-in_default-clause-asked g c =
    let one : g.C.Connect.tried c.connect.new.self ≡ option_map suc (g.C.Connect.tried c.args.self.now.connector) = search rules in
    asks_anew g.C.Connect.is_new g.C.Connect.tried g.C.Stream.Write.contents g.C.Stream.Read.remaining _ _ c.args.self.now.connector _ c.connect.new.self c.in_ok-connect.field-0 c.new-opened.result c.exchange.result
    c.in_ok-connect.ensures.new one c.new-opened.ensures c.exchange.ensures.carried

-- it is gone
pub returns-in_ok-connect-in-Err-clause-asked : goal.returns-in_ok-connect-in-Err-clause-asked
returns-in_ok-connect-in-Err-clause-asked g c =
    let one : g.C.Connect.tried c.connect-in-Err.new.self ≡ option_map suc (g.C.Connect.tried c.args.self.now.connector) = search rules in
    asks_anew g.C.Connect.is_new g.C.Connect.tried g.C.Stream.Write.contents g.C.Stream.Read.remaining _ _ c.args.self.now.connector _ c.connect-in-Err.new.self c.in_ok-connect-in-Err.field-0 c.new-opened-in-Err.result
    c.exchange-in-Err.result c.in_ok-connect-in-Err.ensures.new one c.new-opened-in-Err.ensures c.exchange-in-Err.ensures.carried

-- or it isn't
pub returns-in_default-exchange-2-clause-asked : goal.returns-in_default-exchange-2-clause-asked
returns-in_default-exchange-2-clause-asked g c =
    asks_again g.C.Connect.is_new g.C.Connect.tried g.C.Stream.Write.contents g.C.Stream.Read.remaining _ _ _ _ _ c.in-Some.kept c.exchange-2.result c.in-Some.is refl c.exchange-2.ensures.carried
