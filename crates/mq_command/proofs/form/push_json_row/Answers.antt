use Rattle.std.proofs.Common.{codes}
use Rattle.std.specs.Fmt.{decimal}
use Rattle.mq_command.proofs.Words.{◌++◌}
use Rattle.mq_command.specs.Forms.{json_login, json_row}
use Rattle.mq_command.proofs.Joins.{five_joined}
use Rattle.mq_command.proofs.form.push_json_row.Goals as goal

pub returns : goal.returns
unfolding json_row
returns c =
    let row = c.args.row.now in
    five_joined c.args.text.now.items c.push_json_login.new.text.items c.push_member.new.text.items c.push_member-2.new.text.items c.push_member-3.new.text.items c.extend_from_slice.new.self.items
    (codes "{\"login\":" ++ json_login row.login) (codes ",\"settled\":" ++ decimal row.settled) (codes ",\"reserved\":" ++ decimal row.reserved) (codes ",\"limit\":" ++ decimal row.cap) (codes "}")
    c.in_ok-push_json_login.ensures c.in_ok-push_member.ensures c.in_ok-push_member-2.ensures c.in_ok-push_member-3.ensures c.in_ok-extend_from_slice.ensures.items
