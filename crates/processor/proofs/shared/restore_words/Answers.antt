use Rattle.std.proofs.Common.{◌∙◌, ap}
use Rattle.processor.specs.Decoding.{words_in}
use Rattle.processor.proofs.SharedParts.{words_stored}
use Rattle.processor.proofs.shared.restore_words.Goals as goal

pub returns : goal.returns
returns c = ap (words_in c.args.image.now) c.write_block.ensures ∙ words_stored c.args.image.now c.args.shared.now c.args.words.now c.requires.all
