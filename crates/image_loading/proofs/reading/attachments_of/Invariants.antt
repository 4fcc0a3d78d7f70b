use Rattle.std.proofs.Common.{◌≡◌, ◌-◌}
use Rattle.image_loading.specs.Reading.{read_many, read_attachment}
use Rattle.image_loading.proofs.ReadLoop.{with_front}
use Rattle.image_loading.proofs.reading.attachments_of.Given as goal

-- what was read, before what is still read, is the whole
abbrev pub invariant-loop : goal.invariant-loop
invariant-loop l = with_front l.attachments.items (read_many read_attachment (l.count - l.counter) l.rest) ≡ read_many read_attachment l.count l.bytes
