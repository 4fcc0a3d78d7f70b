use Rattle.std.proofs.Common.{◌≡◌, ◌+◌, ◌≤◌, length, sym, ap, ◌∙◌, arith}
use Rattle.std.proofs.lemmas.List.{length-take-le}
use Rattle.processor.specs.Decoding.{first, lengths}
use Rattle.processor.proofs.SafeCode.{parts_fit}
use Rattle.processor.proofs.SharedParts.{words_taken}
use Rattle.processor.proofs.shared.used_words.Goals as goal

all_is : (c : goal.After-first_word-count) → c.first_word-count.result ≡ first (lengths c.args.image.now) (length c.args.image.now.objects + 1)
all_is c = c.first_word-count.ensures ∙ ap (λ objects. first (lengths c.args.image.now) (length objects + 1)) c.objects.ensures.same

within : (c : goal.After-first_word-count) → c.first_word-count.result ≤ length c.args.shared.now
within c =
    let i = c.args.image.now in
    let fit = parts_fit i (c.code_leads_on.ensures.size i c.requires.well_formed) (length i.objects + 1) in
    let is = all_is c in
    let long = c.requires.shared in
    omega (arith, fit, is, long)

pub slice_bounds-result-end : goal.slice_bounds-result-end
slice_bounds-result-end c = sym (length-take-le c.first_word-count.result c.args.shared.now (within c))

pub returns-clause-words : goal.returns-clause-words
returns-clause-words c = let is = all_is c in words_taken c.args.image.now c.args.shared.now c.first_word-count.result (omega (arith, is)) (within c)

pub returns-clause-all : goal.returns-clause-all
returns-clause-all c =
    let is = all_is c in
    let low = within c in
    let long = c.requires.shared in
    let many = length-take-le c.first_word-count.result c.args.shared.now low in
    record { there = omega (arith, is, many); few = omega (arith, many, low, long) }
