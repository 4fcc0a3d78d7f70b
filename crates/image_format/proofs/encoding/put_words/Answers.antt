use Rattle.std.proofs.Common.{rules, ◌≡◌, ◌++◌, get_or, pos}
use Rattle.image_format.proofs.Written.{written_on}
use Rattle.image_format.specs.Bytes.{word}
use Rattle.image_format.proofs.encoding.put_words.Goals as goal

pub loop-word-preserved : goal.loop-word-preserved
loop-word-preserved c =
    let put : c.put_word.new.out.items ≡ c.loop-word.out.items ++ word (get_or c.args.words.now c.loop-word.word-index (pos 0)) = search rules in
    written_on word c.args.words.now c.loop-word.word-index (pos 0) c.loop-word.out.items c.put_word.new.out.items _ c.loop-word-test.true put c.loop-word.invariant
