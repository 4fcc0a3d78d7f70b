use Rattle.std.proofs.Common.{◌≡◌, ◌+◌, ◌≤◌, [], ◌∷◌, Some, ap, arith, rules, subst, sym, ◌∙◌}
use Rattle.std.specs.List.{All}
use Rattle.std.proofs.lemmas.List.Elements.{All-append, All-cons, All-nil}
use Rattle.part_code.specs.Formals.{HasValue, StandsAt}
use Rattle.types.specs.Layouts.{words_of}
use Rattle.part_code.proofs.FormalWords.{PlacedSoFar, placed_all, placed_next}
use Rattle.part_code.proofs.FormalsRefused.{nameless, place_refused, worded, worded_among, words_go_on}
use Rattle.part_code.proofs.formals.place_all.Goals as goal

pub loop-formal-preserved : goal.loop-formal-preserved
loop-formal-preserved c =
    let s = c.args.scope.now in
    let start = c.args.words.now.taken in
    let fs = c.args.formals.now in
    let n = c.loop-formal.formal-index in
    let f = c.formal-item.result in
    let x = c.in_ok-one.one in
    let many = c.words-many.ensures in
    let few = c.in_ok-one.ensures.few in
    let wide : c.words-many.result ≡ words_of s c.in-Some.subtype = omega (arith, many, few) in (
      subst (PlacedSoFar s start fs (n + 1) c.in_ok-one.next c.place.new.words.taken) (sym c.in_ok-push.ensures.items)
          (placed_next s start fs n c.loop-formal.from c.loop-formal.words.taken c.in_ok-one.next c.place.new.words.taken c.loop-formal.placed.items f x
          c.loop-formal-test.true c.formal-item.is c.loop-formal.invariant.0
          (sym c.in-Some.ensures ∙ ap Some (sym c.in_ok-one.ensures.subtype)) c.in_ok-one.ensures.mode
          (subst (λ t. StandsAt f.mode (words_of s t) c.loop-formal.from c.loop-formal.words.taken x c.in_ok-one.next c.place.new.words.taken)
          (sym c.in_ok-one.ensures.subtype)
          (subst (λ m. StandsAt f.mode m c.loop-formal.from c.loop-formal.words.taken x c.in_ok-one.next c.place.new.words.taken) wide
          c.in_ok-one.ensures.stands))),
      c.in_ok-one.ensures.most,
      subst (All (HasValue s)) (sym c.in_ok-push.ensures.items)
          (All-append (HasValue s) c.loop-formal.placed.items (x ∷ []) c.loop-formal.invariant.2
          (All-cons (HasValue s) x []
          (subst (λ t. 1 ≤ words_of s t) (sym c.in_ok-one.ensures.subtype)
          (worded s f c.in-Some.subtype (worded_among s fs n f c.loop-formal-test.true c.formal-item.is c.requires.some) (sym c.in-Some.ensures)))
          (All-nil (HasValue s)))),
      words_go_on s start fs n c.loop-formal.from c.loop-formal.words.taken f c.in-Some.subtype c.loop-formal-test.true c.formal-item.is (sym c.in-Some.ensures)
          c.loop-formal.invariant.3 x c.in_ok-one.next c.place.new.words.taken
          (subst (λ m. StandsAt f.mode m c.loop-formal.from c.loop-formal.words.taken x c.in_ok-one.next c.place.new.words.taken) wide
          c.in_ok-one.ensures.stands),
      λ e. c.in_ok-one.ensures.same (c.loop-formal.invariant.4 e),
    )

pub returns-clause-stand : goal.returns-clause-stand
returns-clause-stand c =
    placed_all c.args.scope.now c.args.words.now.taken c.args.formals.now c.loop-formal.formal-index c.loop-formal.from c.loop-formal.words.taken
    c.loop-formal.placed.items c.loop-formal-test.false c.loop-formal.invariant.0

pub unreachable-requires : goal.unreachable-requires
unreachable-requires c =
    let s = c.args.scope.now in
    let f = c.formal-item.result in
    nameless s f (worded_among s c.args.formals.now c.loop-formal.formal-index f c.loop-formal-test.true c.formal-item.is c.requires.some)
    (sym c.subtype_of.ensures ∙ c.in_default.is)

pub returns-in_err-one-clause-refused : goal.returns-in_err-one-clause-refused
returns-in_err-one-clause-refused c =
    let whole = place_refused c.args.scope.now c.args.words.now.taken c.args.formals.now c.loop-formal.formal-index c.loop-formal.from c.loop-formal.words.taken
    c.formal-item.result c.in-Some.subtype c.loop-formal-test.true c.formal-item.is (sym c.in-Some.ensures) c.loop-formal.invariant.3 c.words-many.result
    c.in_err-one.field-0.0 c.words-many.ensures c.in_err-one.ensures.refused in
    search (rules, whole)

pub returns-clause-same : goal.returns-clause-same
returns-clause-same c = c.loop-formal.invariant.4
