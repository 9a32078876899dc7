use Rattle.std.proofs.Common.{inr, lit<, rules, subst, ℕ, List, ◌≤◌}
use Rattle.std.specs.Net.Grammar.{IsIpText}
use Rattle.mq_permits.specs.Networks.{width}
use Rattle.mq_permits_file.specs.Texts.{IsPrefixText}
use Rattle.mq_permits_file.proofs.origin.read_network.Goals as goal

-- the address stands before the slash, and the length behind it
pub returns-in-Some-read_prefix : goal.returns-in-Some-read_prefix
returns-in-Some-read_prefix c =
    let split = c.in-Some.ensures.byte (lit< tt) (λ w o h. h) in
    let n = c.in-Some-read_prefix.prefix in
    let fits : n ≤ width c.number_of-start.result.family = search rules in
    inr (record {
      slash = split.2;
      address = c.in-Ok-parse.address;
      written = subst (λ (t : List ℕ). IsIpText t c.in-Ok-parse.address) split.0 c.in-Ok-parse.ensures.value;
      start = c.number_of-start.ensures;
      prefix = subst (λ (t : List ℕ). IsPrefixText t n) split.1 c.in-Some-read_prefix.ensures;
      fits = fits;
    })
