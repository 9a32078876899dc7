use Rattle.std.proofs.Common.{codes}
use Rattle.std.specs.Fmt.{signed_decimal}
use Rattle.std.specs.Prelude.{option_map}
use Rattle.mq_command.proofs.Words.{rules, ◌++◌, ◌≡◌}
use Rattle.mq_command.specs.Forms.{json_login}
use Rattle.mq_command.specs.Listed.{json_date, json_wrong}
use Rattle.mq_command.proofs.Joins.{four_joined}
use Rattle.mq_command.proofs.listed.push_wrong.Goals as goal

pub returns : goal.returns
unfolding json_wrong
returns c =
    let figure : c.push_figure.new.text.items ≡ c.push_login.new.text.items ++ (codes ",\"day\":" ++ signed_decimal c.args.day) = search rules in
    four_joined c.args.text.now.items c.push_login.new.text.items c.push_figure.new.text.items c.push_date.new.text.items c.extend_from_slice.new.self.items
    (codes "{\"sound\":false,\"login\":" ++ json_login c.args.login.now) (codes ",\"day\":" ++ signed_decimal c.args.day) (codes ",\"date\":" ++ json_date (option_map (λ d. d.now) c.args.date)) (codes "}\n")
    c.in_ok-push_login.ensures figure c.in_ok-push_date.ensures c.in_ok-extend_from_slice.ensures.items
