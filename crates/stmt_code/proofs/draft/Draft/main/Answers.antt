use Rattle.std.proofs.Common.{◌+◌, ◌≤◌, refl, rules, subst, sym}
use Rattle.base.specs.declared.limits.TheConstants.{FRAME_WORDS}
use Rattle.expr_code.specs.Appending.{Appends, Misfits}
use Rattle.stmt_code.specs.WholeCode.{main_code}
use Rattle.stmt_code.proofs.FunctionsJoined.{added_there, main_joined, main_misfits, main_refuses}
use Rattle.stmt_code.proofs.Keeping.{main_keeps}
use Rattle.stmt_code.proofs.draft.Draft.main.Goals as goal

pub returns-in_err-append-clause-refused : goal.returns-in_err-append-clause-refused
returns-in_err-append-clause-refused c =
    let why = c.in_err-append.field-0.0 in
    let there = added_there (λ d l. Misfits d l why) c.args.self.now.code c.args.self.now.code c.fragment-fragment.result c.add_main.new.fragment
    (main_code c.args.visible.now c.args.statements.now) refl c.fragment-fragment.ensures c.in_ok-add_main.ensures.made c.in_err-append.ensures.refused in
    let whole = main_misfits c.args.visible.now c.args.self.now.code c.args.statements.now c.requires.known why there in
    search (rules, whole)

pub returns-in_err-words-clause-refused : goal.returns-in_err-words-clause-refused
returns-in_err-words-clause-refused c =
    let joined = added_there (λ d l. Appends d l c.append.new.self) c.args.self.now.code c.args.self.now.code c.fragment-fragment.result c.add_main.new.fragment
    (main_code c.args.visible.now c.args.statements.now) refl c.fragment-fragment.ensures c.in_ok-add_main.ensures.made c.in_ok-append.ensures.appends in
    let whole = main_refuses c.args.visible.now c.args.self.now.code c.args.statements.now c.requires.known c.append.new.self joined c.in_err-words.field-0.0
    c.in_err-words.ensures.refused in
    search (rules, whole)

pub returns-clause-adds : goal.returns-clause-adds
returns-clause-adds c =
    let joined = added_there (λ d l. Appends d l c.append.new.self) c.args.self.now.code c.args.self.now.code c.fragment-fragment.result c.add_main.new.fragment
    (main_code c.args.visible.now c.args.statements.now) refl c.fragment-fragment.ensures c.in_ok-add_main.ensures.made c.in_ok-append.ensures.appends in
    main_joined c.args.visible.now c.args.self.now.code c.args.statements.now c.requires.known c.append.new.self joined c.args.self.now _ refl refl
    c.in_ok-words.words c.in_ok-words.ensures.same
    (subst (λ w. w.locals + w.stack ≤ FRAME_WORDS) (sym c.in_ok-words.ensures.same) c.in_ok-words.ensures.fits)

pub returns-clause-keeps : goal.returns-clause-keeps
returns-clause-keeps c =
    main_keeps c.args.visible.now c.args.self.now c.args.statements.now c.in_ok-words.words _ c.requires.called c.in_ok-append.ensures.appends.few
    (returns-clause-adds c)
