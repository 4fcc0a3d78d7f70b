use Rattle.std.proofs.Common.{◌≡◌, ◌+◌, ◌++◌, take, vec_len, vec_capacity}
use Rattle.machine.proofs.memory_sink.append.Given as goal

abbrev pub invariant-loop-byte : goal.invariant-loop-byte
invariant-loop-byte l = (l.buffer.items ≡ l.initial.buffer.items ++ take l.byte-index l.piece) × (vec_len l.buffer ≡ vec_len l.initial.buffer + l.byte-index) × (vec_capacity l.buffer ≡ vec_capacity l.initial.buffer)
