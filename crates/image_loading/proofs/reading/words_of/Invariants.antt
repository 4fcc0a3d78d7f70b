use Rattle.std.proofs.Common.{◌≡◌, ◌-◌}
use Rattle.image_loading.specs.Reading.{read_many, read_word}
use Rattle.image_loading.proofs.ReadLoop.{with_front}
use Rattle.image_loading.proofs.reading.words_of.Given as goal

-- what was read, before what is still read, is the whole
abbrev pub invariant-loop : goal.invariant-loop
invariant-loop l = with_front l.words.items (read_many read_word (l.count - l.counter) l.rest) ≡ read_many read_word l.count l.bytes
