use Rattle.mq_command.proofs.Words.{flat_map, json_byte, take, ◌++◌, ◌≡◌}
use Rattle.mq_command.proofs.form.push_json_string.Given as goal

-- the bytes so far are appended
abbrev pub invariant-loop-byte : goal.invariant-loop-byte
invariant-loop-byte l = l.text.items ≡ l.initial.text.items ++ flat_map json_byte (take l.byte-index l.bytes)
