use Rattle.std.proofs.Common.{◌≡◌, ℕ, List, Some, ◌∙◌}
use Rattle.mq_permits.proofs.Kept.{kept_beside}
use Rattle.mq_permits.proofs.hosts.Hosts.put.Goals as goal

pub returns-clause-others : goal.returns-clause-others
returns-clause-others c = λ other not.
    kept_beside c.args.self.now.origins c.insert.new.self c.into_bytes.result.items (Some c.args.origins)
    c.in_ok-insert.ensures.updates other (λ same. not (same ∙ c.into_bytes.ensures))
