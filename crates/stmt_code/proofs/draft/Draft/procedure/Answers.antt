use Rattle.std.proofs.Common.{◌+◌, ◌≤◌, ◌∙◌, ap, rules, subst, sym, length, map, take}
use Rattle.base.specs.declared.limits.TheConstants.{FRAME_WORDS}
use Rattle.ada_tree.specs.ProgramTree.{body_tree}
use Rattle.expr_code.specs.Pieces.{narrow}
use Rattle.part_code.specs.Formals.{no_subprogram, slot_for}
use Rattle.part_code.specs.Providing.{HasWhatCodeNeeds}
use Rattle.stmt_code.specs.Declaring.{site_at}
use Rattle.stmt_code.specs.Emitting.{no_ways}
use Rattle.stmt_code.specs.Joining.{IsJoined, Overflows}
use Rattle.stmt_code.specs.Subprograms.{fresh}
use Rattle.stmt_code.specs.WholeCode.{height_given, procedure_code}
use Rattle.stmt_code.specs.declared.draft.Draft.{Draft}
use Rattle.stmt_code.specs.declared.subprogram.SubprogramWords.{SubprogramWords}
use Rattle.stmt_code.proofs.Called.{procedure_called}
use Rattle.stmt_code.proofs.DeclarationsMade.{Shows, out_of_sight}
use Rattle.stmt_code.proofs.Keeping.{procedure_keeps}
use Rattle.stmt_code.proofs.ProceduresJoined.{code_there, formals_refuse, frame_begun, frame_refuses, labels_are, procedure_joined, procedure_overflows, rows_are}
use Rattle.stmt_code.proofs.RunMade.{part_joined, part_overflows, statement_laws}
use Rattle.stmt_code.proofs.draft.Draft.procedure.Goals as goal

pub returns-in_err-placed-clause-refused : goal.returns-in_err-placed-clause-refused
returns-in_err-placed-clause-refused c =
    let whole = formals_refuse c.args.visible.now c.args.formals.now (body_tree c.args.body.now) c.args.self.now c.in_err-placed.field-0.0
    c.in_err-placed.ensures.refused in
    search (rules, whole)

pub returns-in_err-join-clause-refused : goal.returns-in_err-join-clause-refused
returns-in_err-join-clause-refused c =
    let laws = statement_laws c.body_laws.ensures.quiet c.body_laws.ensures.typed c.body_laws.ensures.spared c.body_laws.ensures.lie
    c.body_laws.ensures.words c.body_laws.ensures.places c.body_laws.ensures.kept c.body_laws.ensures.calls c.body_laws.ensures.shaped
    c.body_laws.ensures.stay c.body_laws.ensures.scopes c.body_laws.ensures.bounded c.body_laws.ensures.visible c.body_laws.ensures.inside
    c.body_laws.ensures.around in
    let old = c.args.self.now in
    let b = body_tree c.args.body.now in
    let later = c.formals.new.visible in
    let placed = c.in_ok-placed.placed in
    let after : Draft = record c.formals.new.self { code = fresh c.formals.new.self.code } in
    let begun : Draft = record old { code = fresh old.code; words = c.formals.new.self.words } in
    let why = c.in_err-join.field-0.0 in
    let code = procedure_code (site_at later c.from-taken.result no_ways c.deref.result.now) c.deref-2.result.now b in
    let over = code_there (λ d m. Overflows d m why) after begun later b c.deref-2.result.now placed.formals.items c.from-taken.result c.deref.result.now
    (frame_begun old c.formals.new.self c.in_ok-placed.ensures.code c.in_ok-placed.ensures.labels c.in_ok-placed.ensures.rows c.in_ok-placed.ensures.exceptions)
    c.from-taken.ensures (c.deref.ensures.value ∙ ap (λ d. d.exceptions.items) c.sketch-sketch.ensures.rest) c.deref-2.ensures.value
    (part_overflows after c.sketch-sketch.new.self code c.sketch-sketch.ensures.rest c.sketch-sketch.result c.procedure.new.self c.sketch-sketch.ensures.begun
    c.in_ok-height.ensures.made why c.in_err-join.ensures.refused) in
    let whole = procedure_overflows laws c.body_laws.ensures.statics c.names_are_added.ensures c.args.visible.now old c.args.formals.now b c.requires.front
    c.requires.head c.requires.entries c.requires.legal later c.formals.new.self.words placed c.in_ok-placed.ensures.places
    (subst (λ e. HasWhatCodeNeeds e.items later) c.in_ok-placed.ensures.exceptions c.in_ok-placed.ensures.covered) c.in_ok-height.ensures.timely why over in
    search (rules, whole)

pub returns-in_err-words-clause-refused : goal.returns-in_err-words-clause-refused
returns-in_err-words-clause-refused c =
    let laws = statement_laws c.body_laws.ensures.quiet c.body_laws.ensures.typed c.body_laws.ensures.spared c.body_laws.ensures.lie
    c.body_laws.ensures.words c.body_laws.ensures.places c.body_laws.ensures.kept c.body_laws.ensures.calls c.body_laws.ensures.shaped
    c.body_laws.ensures.stay c.body_laws.ensures.scopes c.body_laws.ensures.bounded c.body_laws.ensures.visible c.body_laws.ensures.inside
    c.body_laws.ensures.around in
    let old = c.args.self.now in
    let b = body_tree c.args.body.now in
    let later = c.formals.new.visible in
    let placed = c.in_ok-placed.placed in
    let after : Draft = record c.formals.new.self { code = fresh c.formals.new.self.code } in
    let begun : Draft = record old { code = fresh old.code; words = c.formals.new.self.words } in
    let code = procedure_code (site_at later c.from-taken.result no_ways c.deref.result.now) c.deref-2.result.now b in
    let joined = code_there (λ d m. IsJoined d m c.join.new.self) after begun later b c.deref-2.result.now placed.formals.items c.from-taken.result c.deref.result.now
    (frame_begun old c.formals.new.self c.in_ok-placed.ensures.code c.in_ok-placed.ensures.labels c.in_ok-placed.ensures.rows c.in_ok-placed.ensures.exceptions)
    c.from-taken.ensures (c.deref.ensures.value ∙ ap (λ d. d.exceptions.items) c.sketch-sketch.ensures.rest) c.deref-2.ensures.value
    (part_joined after c.sketch-sketch.new.self code c.sketch-sketch.ensures.rest c.sketch-sketch.result c.procedure.new.self c.sketch-sketch.ensures.begun
    c.in_ok-height.ensures.made c.join.new.self c.in_ok-join.ensures.joins) in
    let whole = frame_refuses laws c.body_laws.ensures.statics c.names_are_added.ensures c.args.visible.now old c.args.formals.now b c.requires.front
    c.requires.head c.requires.entries c.requires.legal later c.formals.new.self.words placed c.in_ok-placed.ensures.places
    (subst (λ e. HasWhatCodeNeeds e.items later) c.in_ok-placed.ensures.exceptions c.in_ok-placed.ensures.covered) c.in_ok-height.ensures.timely c.join.new.self
    joined c.in_ok-placed.ensures.most c.in_err-words.field-0.0 c.in_err-words.ensures.refused in
    search (rules, whole)

pub returns-clause-adds : goal.returns-clause-adds
returns-clause-adds c =
    let laws = statement_laws c.body_laws.ensures.quiet c.body_laws.ensures.typed c.body_laws.ensures.spared c.body_laws.ensures.lie
    c.body_laws.ensures.words c.body_laws.ensures.places c.body_laws.ensures.kept c.body_laws.ensures.calls c.body_laws.ensures.shaped
    c.body_laws.ensures.stay c.body_laws.ensures.scopes c.body_laws.ensures.bounded c.body_laws.ensures.visible c.body_laws.ensures.inside
    c.body_laws.ensures.around in
    let old = c.args.self.now in
    let b = body_tree c.args.body.now in
    let later = c.formals.new.visible in
    let placed = c.in_ok-placed.placed in
    let after : Draft = record c.formals.new.self { code = fresh c.formals.new.self.code } in
    let begun : Draft = record old { code = fresh old.code; words = c.formals.new.self.words } in
    let code = procedure_code (site_at later c.from-taken.result no_ways c.deref.result.now) c.deref-2.result.now b in
    let joined = code_there (λ d m. IsJoined d m c.join.new.self) after begun later b c.deref-2.result.now placed.formals.items c.from-taken.result c.deref.result.now
    (frame_begun old c.formals.new.self c.in_ok-placed.ensures.code c.in_ok-placed.ensures.labels c.in_ok-placed.ensures.rows c.in_ok-placed.ensures.exceptions)
    c.from-taken.ensures (c.deref.ensures.value ∙ ap (λ d. d.exceptions.items) c.sketch-sketch.ensures.rest) c.deref-2.ensures.value
    (part_joined after c.sketch-sketch.new.self code c.sketch-sketch.ensures.rest c.sketch-sketch.result c.procedure.new.self c.sketch-sketch.ensures.begun
    c.in_ok-height.ensures.made c.join.new.self c.in_ok-join.ensures.joins) in
    procedure_joined laws c.body_laws.ensures.statics c.names_are_added.ensures c.args.visible.now old c.args.formals.now b c.requires.front
    c.requires.head c.requires.entries c.requires.legal later c.formals.new.self.words placed c.in_ok-placed.ensures.places
    (subst (λ e. HasWhatCodeNeeds e.items later) c.in_ok-placed.ensures.exceptions c.in_ok-placed.ensures.covered) c.in_ok-height.ensures.timely c.join.new.self
    joined _ c.in_ok-words.words (c.in_ok-words.ensures.same ∙ ap (λ n. let w : SubprogramWords = record {
      passed = placed.passed;
      results = n;
      locals = c.join.new.self.words.most;
      stack = c.join.new.self.code.deepest;
    } in w) (c.narrow.ensures ∙ ap narrow (c.in_ok-height.ensures.height ∙ ap (height_given later.scope) c.deref-2.ensures.value)))
    (subst (λ w. w.locals + w.stack ≤ FRAME_WORDS) (sym c.in_ok-words.ensures.same) c.in_ok-words.ensures.fits)

pub returns-clause-called : goal.returns-clause-called
returns-clause-called c =
    procedure_called c.body_laws.ensures.stay c.names_are_added.ensures c.args.visible.now c.args.self.now c.args.formals.now (body_tree c.args.body.now)
    c.in_ok-words.words _ c.requires.front c.requires.entries (returns-clause-adds c)

pub returns-clause-keeps : goal.returns-clause-keeps
returns-clause-keeps c =
    procedure_keeps c.body_laws.ensures.stay c.names_are_added.ensures c.args.visible.now c.args.self.now c.args.formals.now (body_tree c.args.body.now)
    c.in_ok-words.words _ c.requires.front c.requires.entries c.in_ok-join.ensures.joins.code.few (returns-clause-adds c)

pub returns-clause-labels : goal.returns-clause-labels
returns-clause-labels c =
    let laws = statement_laws c.body_laws.ensures.quiet c.body_laws.ensures.typed c.body_laws.ensures.spared c.body_laws.ensures.lie
    c.body_laws.ensures.words c.body_laws.ensures.places c.body_laws.ensures.kept c.body_laws.ensures.calls c.body_laws.ensures.shaped
    c.body_laws.ensures.stay c.body_laws.ensures.scopes c.body_laws.ensures.bounded c.body_laws.ensures.visible c.body_laws.ensures.inside
    c.body_laws.ensures.around in
    let old = c.args.self.now in
    let b = body_tree c.args.body.now in
    let later = c.formals.new.visible in
    let placed = c.in_ok-placed.placed in
    let after : Draft = record c.formals.new.self { code = fresh c.formals.new.self.code } in
    let begun : Draft = record old { code = fresh old.code; words = c.formals.new.self.words } in
    let code = procedure_code (site_at later c.from-taken.result no_ways c.deref.result.now) c.deref-2.result.now b in
    let joined = code_there (λ d m. IsJoined d m c.join.new.self) after begun later b c.deref-2.result.now placed.formals.items c.from-taken.result c.deref.result.now
    (frame_begun old c.formals.new.self c.in_ok-placed.ensures.code c.in_ok-placed.ensures.labels c.in_ok-placed.ensures.rows c.in_ok-placed.ensures.exceptions)
    c.from-taken.ensures (c.deref.ensures.value ∙ ap (λ d. d.exceptions.items) c.sketch-sketch.ensures.rest) c.deref-2.ensures.value
    (part_joined after c.sketch-sketch.new.self code c.sketch-sketch.ensures.rest c.sketch-sketch.result c.procedure.new.self c.sketch-sketch.ensures.begun
    c.in_ok-height.ensures.made c.join.new.self c.in_ok-join.ensures.joins) in
    labels_are laws c.body_laws.ensures.statics c.names_are_added.ensures c.args.visible.now old c.args.formals.now b c.requires.front
    c.requires.head c.requires.entries c.requires.legal later c.formals.new.self.words placed c.in_ok-placed.ensures.places
    (subst (λ e. HasWhatCodeNeeds e.items later) c.in_ok-placed.ensures.exceptions c.in_ok-placed.ensures.covered) c.in_ok-height.ensures.timely c.join.new.self
    joined

pub returns-clause-rows : goal.returns-clause-rows
returns-clause-rows c =
    let laws = statement_laws c.body_laws.ensures.quiet c.body_laws.ensures.typed c.body_laws.ensures.spared c.body_laws.ensures.lie
    c.body_laws.ensures.words c.body_laws.ensures.places c.body_laws.ensures.kept c.body_laws.ensures.calls c.body_laws.ensures.shaped
    c.body_laws.ensures.stay c.body_laws.ensures.scopes c.body_laws.ensures.bounded c.body_laws.ensures.visible c.body_laws.ensures.inside
    c.body_laws.ensures.around in
    let old = c.args.self.now in
    let b = body_tree c.args.body.now in
    let later = c.formals.new.visible in
    let placed = c.in_ok-placed.placed in
    let after : Draft = record c.formals.new.self { code = fresh c.formals.new.self.code } in
    let begun : Draft = record old { code = fresh old.code; words = c.formals.new.self.words } in
    let code = procedure_code (site_at later c.from-taken.result no_ways c.deref.result.now) c.deref-2.result.now b in
    let joined = code_there (λ d m. IsJoined d m c.join.new.self) after begun later b c.deref-2.result.now placed.formals.items c.from-taken.result c.deref.result.now
    (frame_begun old c.formals.new.self c.in_ok-placed.ensures.code c.in_ok-placed.ensures.labels c.in_ok-placed.ensures.rows c.in_ok-placed.ensures.exceptions)
    c.from-taken.ensures (c.deref.ensures.value ∙ ap (λ d. d.exceptions.items) c.sketch-sketch.ensures.rest) c.deref-2.ensures.value
    (part_joined after c.sketch-sketch.new.self code c.sketch-sketch.ensures.rest c.sketch-sketch.result c.procedure.new.self c.sketch-sketch.ensures.begun
    c.in_ok-height.ensures.made c.join.new.self c.in_ok-join.ensures.joins) in
    rows_are laws c.body_laws.ensures.statics c.names_are_added.ensures c.args.visible.now old c.args.formals.now b c.requires.front
    c.requires.head c.requires.entries c.requires.legal later c.formals.new.self.words placed c.in_ok-placed.ensures.places
    (subst (λ e. HasWhatCodeNeeds e.items later) c.in_ok-placed.ensures.exceptions c.in_ok-placed.ensures.covered) c.in_ok-height.ensures.timely c.join.new.self
    joined

pub returns-clause-same : goal.returns-clause-same
returns-clause-same c =
    let v = c.args.visible.now in
    let later = c.formals.new.visible in
    let places = c.in_ok-placed.ensures.places in
    let shows : Shows v later = record {
      scope = ap (take (length v.scope)) places.scope ∙ c.names_are_added.ensures.formals v.scope c.args.formals.now;
      slots = (map slot_for c.in_ok-placed.placed.formals.items, places.slots);
      subprograms = (map no_subprogram c.in_ok-placed.placed.formals.items, places.subprograms);
      operations = places.operations;
    } in
    out_of_sight v later c.procedure.new.visible c.restore.new.visible _ _ _ shows c.in_ok-height.ensures.same c.of-extent.ensures.names
    c.of-extent.ensures.slots c.of-extent.ensures.subprograms c.restore.ensures.visible
