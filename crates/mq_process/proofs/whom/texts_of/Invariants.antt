use Rattle.std.proofs.Common.{◌≡◌, map, string_bytes, take}
use Rattle.std.specs.Net.Text.{socket_text}
use Rattle.mq_process.specs.Refusals.{HasNoAddress}
use Rattle.mq_process.proofs.whom.texts_of.Given as goal

-- those so far have their texts, which are addresses
abbrev pub invariant-loop-server : goal.invariant-loop-server
invariant-loop-server g l = record {
  texts : map string_bytes l.texts.items ≡ map socket_text (take l.server-index l.servers);
  addresses : HasNoAddress (map string_bytes l.texts.items) → ⊥;
}
