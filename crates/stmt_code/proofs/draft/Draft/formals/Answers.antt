use Rattle.std.proofs.Common.{◌≡◌, ◌++◌, ap, arith, map, subst, sym, ◌∙◌}
use Rattle.part_code.specs.Formals.{StandInTurn, no_subprogram, slot_for}
use Rattle.part_code.specs.Providing.{HasWhatCodeNeeds}
use Rattle.part_code.proofs.FormalWords.{passed_placed}
use Rattle.stmt_code.proofs.CoveredScopes.{covered_formals}
use Rattle.stmt_code.proofs.FormalNames.{formals_named, formals_worded}
use Rattle.stmt_code.proofs.WholePlaces.{later_is}
use Rattle.stmt_code.proofs.draft.Draft.formals.Goals as goal

pub returns-clause-places : goal.returns-clause-places
returns-clause-places c =
    let v = c.args.visible.now in
    let fs = c.args.formals.now in
    let placed = c.in_ok-placed.placed in
    let start = c.take_passed.new.words.taken in
    let top = c.place_all.new.words.taken in
    let stand = c.in_ok-placed.ensures.stand in
    let last = passed_placed v.scope fs placed.formals.items 0 start placed.passed top stand in
    let began = c.in_ok-take_passed.ensures.taken in
    let none = c.new-words.ensures.taken in
    let same : start ≡ placed.passed = omega (arith, last, began, none) in
    record {
      stand = subst (λ n. StandInTurn v.scope 0 n fs placed.formals.items placed.passed top) same stand;
      some = c.in_ok-placed.ensures.some;
      most = c.in_ok-placed.ensures.most;
      scope = c.in_ok-show.ensures.scope ∙ c.in_ok-declare_formals.ensures;
      slots = c.in_ok-show.ensures.slots ∙ ap (λ l. v.slots ++ map slot_for l) c.deref.ensures.value;
      subprograms = c.in_ok-show.ensures.subprograms ∙ ap (λ l. v.subprograms ++ map no_subprogram l) c.deref.ensures.value;
      operations = c.in_ok-show.ensures.operations;
    }

pub returns-clause-most : goal.returns-clause-most
returns-clause-most c =
    let taken = c.new-words.ensures.taken in
    let most = c.new-words.ensures.most in
    c.in_ok-placed.ensures.same (c.in_ok-take_passed.ensures.same (omega (arith, taken, most)))

pub take_passed-requires-clause-some : goal.take_passed-requires-clause-some
take_passed-requires-clause-some c =
    let v = c.args.visible.now in
    formals_worded v.scope c.requires.front c.requires.covered.full c.args.formals.now (formals_named v.scope c.args.formals.now c.requires.head.named)

pub place_all-requires-clause-some : goal.place_all-requires-clause-some
place_all-requires-clause-some c =
    let v = c.args.visible.now in
    formals_worded v.scope c.requires.front c.requires.covered.full c.args.formals.now (formals_named v.scope c.args.formals.now c.requires.head.named)

pub returns-clause-covered : goal.returns-clause-covered
returns-clause-covered c =
    let v = c.args.visible.now in
    let fs = c.args.formals.now in
    let exceptions = c.args.self.now.exceptions.items in
    subst (HasWhatCodeNeeds exceptions) (sym (later_is v fs c.show.new.visible c.place_all.new.words c.in_ok-placed.placed (returns-clause-places c)))
    (covered_formals exceptions v fs c.requires.front c.requires.entries c.requires.covered c.requires.head)
