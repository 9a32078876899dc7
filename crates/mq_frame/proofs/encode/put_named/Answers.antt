use Rattle.std.proofs.Common.{◌∷◌, []}
use Rattle.std.specs.List.{flat_map}
use Rattle.mq_frame.specs.Spelling.{with_length, in_4_bytes}
use Rattle.mq_frame.proofs.Appends.{three_appended}
use Rattle.mq_frame.proofs.encode.put_named.Goals as goal

pub returns-clause-ok : goal.returns-clause-ok
returns-clause-ok c =
    three_appended c.args.out.now.items _ (c.args.kind ∷ []) (with_length c.args.login.now) (flat_map in_4_bytes c.args.numbers.now)
    c.in_ok-push.ensures.items c.in_ok-put_login.ensures.ok c.in_ok-put_numbers.ensures.ok
