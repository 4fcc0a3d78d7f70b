-- What small bodies of procedures and functions need has room in a frame.
use Rattle.std.proofs.Common.{◌≡◌, ◌≤◌, ◌++◌, ◌+◌, ℕ, max, [], List, length, refl, sym, ap, subst, arith}
use Rattle.std.proofs.Math.Nat.{max-le}
use Rattle.ada_tree.specs.Depth.{body_depth, declaration_depth, deepest, handlers_depth, stmts_depth}
use Rattle.ada_tree.specs.ExpressionGrammar.{Expression}
use Rattle.ada_tree.specs.Language.{Limit, Tokens}
use Rattle.ada_tree.specs.ProgramGrammar.{body}
use Rattle.ada_tree.specs.ProgramTree.{BodyTree}
use Rattle.ada_tree.specs.Size.{total}
use Rattle.expr_soundness.specs.expr_rules.specs.declared.own.Wanted.TheVariants.{OfType}
use Rattle.expr_soundness.specs.expr_rules.proofs.TypedLaw.{back_empty, front_empty}
use Rattle.program_soundness.specs.declaration_rules.specs.LocalRules.{locals_faults, locals_scope}
use Rattle.program_soundness.specs.stmt_rules.specs.declared.around.BodyKind.{BodyKind}
use Rattle.program_soundness.specs.stmt_rules.specs.StatementRules.{in_body, more_handlers_faults, stmts_faults}
use Rattle.program_soundness.specs.unit_rules.specs.BodyRules.{body_faults}
use Rattle.program_soundness.specs.step_soundness.specs.body_restrictions.specs.BodyRules as restrictions
use Rattle.expr_code.specs.declared.visible.Visible.{Visible}
use Rattle.expr_code.proofs.Widths.{fit_width}
use Rattle.part_code.specs.Bounds.{body_words, handlers_words, locals_words, stmts_words}
use Rattle.part_code.specs.Formals.{passed_for}
use Rattle.part_code.specs.Needs.{all_given, both, formals_frame, formals_needs, locals_needs, outs_needs, stacked}
use Rattle.stmt_code.specs.Refusing.{behind_locals, handlers_needs, run_needs, stmts_needs}
use Rattle.stmt_code.specs.Refusing as code
use Rattle.stmt_code.specs.WholeRefusals.{formals_placed, formals_visible, returned_needs}
use Rattle.stmt_code.proofs.CoveredScopes.{whole_formals}
use Rattle.stmt_code.proofs.FormalNames.{formals_named, result_passable}
use Rattle.stmt_code.proofs.Refused.{locals_seen}
use Rattle.source_laws.specs.Depths.{FunctionsHaveRoom, IsSmallVisible, ProceduresHaveRoom}
use Rattle.source_laws.proofs.NeedsBounds.{Fits, IsLow, both_fit, both_low, fits_more}
use Rattle.source_laws.proofs.NeedsFormals.{frame_few, given_few, outs_fit, outs_frame, outs_low, small_formals}
use Rattle.source_laws.proofs.NeedsLocals.{locals_fit}
use Rattle.source_laws.proofs.NeedsShapes.{nothing_unfit}
use Rattle.source_laws.proofs.NeedsStatements.{handlers_fit, handlers_spelled, stmts_fit, stmts_spelled}
use Rattle.source_laws.proofs.NeedsValues.{single_low}
use Rattle.source_laws.proofs.Peaks.{legal_of}

-- ---- what stands between the formals and the end

run_fits : {exceptions : List (List ℕ)} (v : Visible) (taken : ℕ) (kind : BodyKind) (b : BodyTree) (l : Limit) (ts : Tokens) → body l b ts
    → body_faults v.scope kind b ≡ [] → IsSmallVisible exceptions v → body_words v.scope b ≤ 64 → restrictions.body_faults b ≡ []
    → Fits (run_needs v taken b.declarations b.statements b.handlers) (taken + 1) (body_words v.scope b) (body_depth b)
run_fits v taken kind b l ts d h small few allowed =
    let ds = b.declarations in
    let s = v.scope in
    let later = locals_scope s ds in
    let seen = locals_seen v taken ds in
    let c = locals_faults s ds in
    let f = stmts_faults later (in_body kind) b.statements in
    let g = more_handlers_faults later (in_body kind) [] b.handlers in
    let two = back_empty c (f ++ g) h in
    let r_locals = restrictions.locals_faults ds in
    let r_stmts = restrictions.stmts_faults b.statements in
    let fine = front_empty (r_locals ++ r_stmts) (restrictions.handlers_faults b.handlers) allowed in
    let behind = behind_locals (code.in_body v taken) ds in
    let own = locals_needs v taken ds in
    let inner = stmts_needs behind b.statements in
    let caught = handlers_needs behind b.handlers in
    let n = locals_words s ds in
    let m = stmts_words later b.statements in
    let k = handlers_words later b.handlers in
    let p = locals_fit ds v small taken l d.0 d.3 (front_empty c (f ++ g) h) (front_empty r_locals r_stmts fine) (omega (arith, few)) in
    let m_same : stmts_words behind.visible.scope b.statements ≡ m = ap (λ u. stmts_words u b.statements) seen in
    let k_same : handlers_words behind.visible.scope b.handlers ≡ k = ap (λ u. handlers_words u b.handlers) seen in
    let q = stmts_fit b.statements behind (in_body kind) l (stmts_spelled l b.statements d.4.4.0 d.4.4.3)
    (subst (λ u. stmts_faults u (in_body kind) b.statements ≡ []) (sym seen) (front_empty f g two)) p.behind (omega (arith, few, m_same))
    (back_empty r_locals r_stmts fine) in
    let r = handlers_fit b.handlers behind (in_body kind) [] l (handlers_spelled l b.handlers d.4.4.4.0 d.4.4.4.3)
    (subst (λ u. more_handlers_faults u (in_body kind) [] b.handlers ≡ []) (sym seen) (back_empty f g two)) p.behind (omega (arith, few, k_same))
    (back_empty (r_locals ++ r_stmts) (restrictions.handlers_faults b.handlers) allowed) in
    let deep = max (deepest declaration_depth ds) (max (stmts_depth b.statements) (handlers_depth b.handlers)) in
    let whole = n + m + k in
    both_fit own (both inner caught) (taken + 1) whole deep
    (fits_more own taken (taken + 1) n whole (deepest declaration_depth ds) deep p.own (omega arith) (omega arith))
    (both_fit inner caught (taken + 1) whole deep
    (fits_more inner (taken + n) (taken + 1) (stmts_words behind.visible.scope b.statements) whole (stmts_depth b.statements) deep q (omega (arith, m_same))
    (omega arith))
    (fits_more caught (taken + n + 1) (taken + 1) (handlers_words behind.visible.scope b.handlers) whole (handlers_depth b.handlers) deep r
    (omega (arith, k_same)) (omega arith)))

-- ---- procedures

pub procedures_have_room : ProceduresHaveRoom
procedures_have_room exceptions v fs b small h =
    let s = v.scope in
    let inside = formals_visible v fs in
    let placed = formals_placed s fs in
    let taken = formals_frame s fs in
    let outs = outs_needs inside placed in
    let run = run_needs inside taken b.declarations b.statements b.handlers in
    let given = stacked (all_given inside.scope placed) in
    let named = formals_named s fs h.head.named in
    let eight : length fs ≤ 8 = h.few in
    let words = h.words in
    let shallow = h.shallow in
    let frame = frame_few s fs small.names named in
    let first = total (passed_for s) fs in
    let behind = whole_formals exceptions v fs small.names.sound small.entries small.known h.head in
    let within : IsSmallVisible exceptions inside =
    record { names = small_formals s fs small.names named (omega (arith, words)); entries = behind.entries; known = behind.has } in
    let p = run_fits inside taken h.kind b h.limit h.tokens h.spelled h.legal within (omega (arith, words)) h.restricted in
    let run_stack = p.stack_low in
    let run_frame = p.frame_low in
    let out_stack = outs_low inside s fs 0 first (omega (arith, words)) in
    let out_frame = outs_frame inside s fs 0 first in
    let back = given_few inside s fs 0 first in
    let all : IsLow (both (formals_needs s fs) (both outs (both run given))) 272 105 =
    both_low (formals_needs s fs) (both outs (both run given)) 272 105
    (record { stack_low = omega arith; frame_low = omega (arith, frame, eight, words); fit = refl })
    (both_low outs (both run given) 272 105 (record {
      stack_low = omega (arith, out_stack);
      frame_low = omega (arith, out_frame);
      fit = outs_fit inside s fs 0 first;
    })
    (both_low run given 272 105
    (record { stack_low = omega (arith, run_stack, shallow); frame_low = omega (arith, run_frame, shallow, frame, eight, words); fit = p.fit })
    (record { stack_low = omega (arith, back, eight, words); frame_low = omega arith; fit = refl }))) in
    let stack_all = all.stack_low in
    let frame_all = all.frame_low in
    record { stack = omega (arith, stack_all, frame_all); frame = omega (arith, frame_all); fit = all.fit }

-- ---- functions

pub functions_have_room : FunctionsHaveRoom
functions_have_room exceptions v fs t e small h =
    let s = v.scope in
    let inside = formals_visible v fs in
    let behind = inside.scope in
    let first = formals_needs s fs in
    let value = returned_needs inside e in
    let named = formals_named s fs h.head.named in
    let words = h.words in
    let there = small_formals s fs small.names named words in
    let one = fit_width behind there.sound t e (record { wanted = OfType t.type_number; fits = refl; unbroken = h.legal })
    (result_passable s fs t h.head.named h.scalar) in
    let low = single_low behind there Expression e h.limit h.tokens h.spelled (omega arith)
    (legal_of behind there.sound (OfType t.type_number) e h.legal) one in
    let frame = frame_few s fs small.names named in
    let eight : length fs ≤ 8 = h.few in
    let shallow = h.shallow in
    let all : IsLow (both first value) 198 72 =
    both_low first value 198 72 (record { stack_low = omega arith; frame_low = omega (arith, frame, eight, words); fit = refl })
    (record { stack_low = max-le (omega arith) (omega (arith, low, shallow)); frame_low = omega arith; fit = nothing_unfit inside there }) in
    let stack_all = all.stack_low in
    let frame_all = all.frame_low in
    record { stack = omega (arith, stack_all, frame_all); frame = omega (arith, frame_all); fit = all.fit }
