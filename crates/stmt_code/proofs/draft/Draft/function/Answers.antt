use Rattle.std.proofs.Common.{◌+◌, ◌≤◌, refl, rules, subst, sym}
use Rattle.base.specs.declared.limits.TheConstants.{FRAME_WORDS}
use Rattle.ada_tree.specs.ExpressionTree.{expr_tree}
use Rattle.expr_code.specs.Appending.{Appends, Misfits}
use Rattle.part_code.proofs.PieceNeeds.{laws_of}
use Rattle.stmt_code.specs.WholeCode.{function_code}
use Rattle.stmt_code.proofs.Called.{function_called}
use Rattle.stmt_code.proofs.FunctionsJoined.{added_there, function_formals_refuse, function_frame_refuses, function_joined, function_misfits}
use Rattle.stmt_code.proofs.Keeping.{function_keeps}
use Rattle.stmt_code.proofs.draft.Draft.function.Goals as goal

pub returns-in_err-placed-clause-refused : goal.returns-in_err-placed-clause-refused
returns-in_err-placed-clause-refused c =
    let whole = function_formals_refuse c.args.visible.now c.args.formals.now (expr_tree c.args.value.now) c.args.self.now c.in_err-placed.field-0.0
    c.in_err-placed.ensures.refused in
    search (rules, whole)

pub returns-in_err-append-clause-refused : goal.returns-in_err-append-clause-refused
returns-in_err-append-clause-refused c =
    let laws = laws_of c.body_laws.ensures.quiet c.body_laws.ensures.typed c.body_laws.ensures.spared c.body_laws.ensures.lie c.body_laws.ensures.words
    c.body_laws.ensures.places in
    let later = c.formals.new.visible in
    let t = c.args.subtype in
    let e = expr_tree c.args.value.now in
    let why = c.in_err-append.field-0.0 in
    let there = added_there (λ d l. Misfits d l why) c.formals.new.self.code c.args.self.now.code c.fragment-fragment.result c.return_value.new.fragment
    (function_code later t e) c.in_ok-placed.ensures.code c.fragment-fragment.ensures c.in_ok-return_value.ensures.made c.in_err-append.ensures.refused in
    let whole = function_misfits laws c.args.visible.now c.args.self.now c.args.formals.now t e c.requires.head c.requires.scalar c.requires.fit later
    c.formals.new.self.words c.in_ok-placed.placed c.in_ok-placed.ensures.places c.in_ok-placed.ensures.covered.expressions why there in
    search (rules, whole)

pub returns-in_err-words-clause-refused : goal.returns-in_err-words-clause-refused
returns-in_err-words-clause-refused c =
    let laws = laws_of c.body_laws.ensures.quiet c.body_laws.ensures.typed c.body_laws.ensures.spared c.body_laws.ensures.lie c.body_laws.ensures.words
    c.body_laws.ensures.places in
    let later = c.formals.new.visible in
    let t = c.args.subtype in
    let e = expr_tree c.args.value.now in
    let joined = added_there (λ d l. Appends d l c.append.new.self) c.formals.new.self.code c.args.self.now.code c.fragment-fragment.result
    c.return_value.new.fragment (function_code later t e) c.in_ok-placed.ensures.code c.fragment-fragment.ensures c.in_ok-return_value.ensures.made
    c.in_ok-append.ensures.appends in
    let whole = function_frame_refuses laws c.args.visible.now c.args.self.now c.args.formals.now t e c.requires.head c.requires.scalar c.requires.fit later
    c.formals.new.self.words c.in_ok-placed.placed c.in_ok-placed.ensures.places c.in_ok-placed.ensures.covered.expressions c.append.new.self joined
    c.in_err-words.field-0.0 c.in_ok-placed.ensures.most c.in_err-words.ensures.refused in
    search (rules, whole)

pub returns-clause-adds : goal.returns-clause-adds
returns-clause-adds c =
    let laws = laws_of c.body_laws.ensures.quiet c.body_laws.ensures.typed c.body_laws.ensures.spared c.body_laws.ensures.lie c.body_laws.ensures.words
    c.body_laws.ensures.places in
    let later = c.formals.new.visible in
    let t = c.args.subtype in
    let e = expr_tree c.args.value.now in
    let joined = added_there (λ d l. Appends d l c.append.new.self) c.formals.new.self.code c.args.self.now.code c.fragment-fragment.result
    c.return_value.new.fragment (function_code later t e) c.in_ok-placed.ensures.code c.fragment-fragment.ensures c.in_ok-return_value.ensures.made
    c.in_ok-append.ensures.appends in
    function_joined laws c.args.visible.now c.args.self.now c.args.formals.now t e c.requires.head c.requires.scalar c.requires.fit later
    c.formals.new.self.words c.in_ok-placed.placed c.in_ok-placed.ensures.places c.in_ok-placed.ensures.covered.expressions c.append.new.self joined _ refl
    c.in_ok-placed.ensures.labels c.in_ok-placed.ensures.rows c.in_ok-placed.ensures.exceptions c.in_ok-words.words c.in_ok-words.ensures.same
    (subst (λ w. w.locals + w.stack ≤ FRAME_WORDS) (sym c.in_ok-words.ensures.same) c.in_ok-words.ensures.fits)

pub returns-clause-called : goal.returns-clause-called
returns-clause-called c =
    function_called c.body_laws.ensures.stay c.names_are_added.ensures c.args.visible.now c.args.self.now c.args.formals.now c.args.subtype
    (expr_tree c.args.value.now) c.in_ok-words.words _ c.requires.front c.requires.entries (returns-clause-adds c)

pub returns-clause-keeps : goal.returns-clause-keeps
returns-clause-keeps c =
    function_keeps c.body_laws.ensures.stay c.names_are_added.ensures c.args.visible.now c.args.self.now c.args.formals.now c.args.subtype
    (expr_tree c.args.value.now) c.in_ok-words.words _ c.requires.front c.requires.entries c.in_ok-append.ensures.appends.few (returns-clause-adds c)

pub returns-clause-labels : goal.returns-clause-labels
returns-clause-labels c = c.in_ok-placed.ensures.labels
