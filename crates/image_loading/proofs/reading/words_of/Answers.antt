use Rattle.std.proofs.Common.{◌≡◌, ◌++◌, ◌∷◌, [], rules}
use Rattle.std.proofs.lemmas.Result.{err_from_is_err_and}
use Rattle.image_loading.specs.Reading.{read_many, read_word}
use Rattle.image_loading.proofs.ReadLoop.{goes_on, ends, is_done}
use Rattle.image_loading.proofs.reading.words_of.Goals as goal

pub returns-in_err-word : goal.returns-in_err-word
returns-in_err-word c =
    let p = err_from_is_err_and c.from_residual.result c.from_residual.ensures.1 in
    rw (p.1, p.2) (ends read_word c.in_err-word.field-0.0 c.loop.words.items c.args.count c.loop.counter c.loop.rest.now (read_many read_word c.args.count c.args.bytes.now) c.loop-test.true c.in_err-word.ensures c.loop.invariant)

pub loop-preserved : goal.loop-preserved
loop-preserved c =
    let pushed : c.push.new.self.items ≡ c.loop.words.items ++ c.in_ok-word.word ∷ [] = search rules in
    rw pushed (goes_on read_word c.loop.words.items c.args.count c.loop.counter c.loop.rest.now c.in_ok-word.word c.in_ok-word.after.now (read_many read_word c.args.count c.args.bytes.now) c.loop-test.true c.in_ok-word.ensures c.loop.invariant)

pub returns : goal.returns
returns c = is_done read_word c.loop.words.items c.args.count c.loop.counter c.loop.rest.now (read_many read_word c.args.count c.args.bytes.now) c.loop-test.false c.loop.invariant
