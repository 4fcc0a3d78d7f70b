-- How much the code of statements and bodies is, and which labels and how many rows there are after it: one induction over the trees (RM 5, 11.2).
use Rattle.std.proofs.Common.{◌≡◌, ◌≤◌, ℕ, suc, ◌+◌, ◌*◌, List, [], ◌∷◌, ◌++◌, length, Bool, true, false, ◌||◌, cond, Option, None, Some, refl, sym, ap, ◌∙◌, subst, arith, length-append}
use Rattle.handlers.specs.declared.rows.Row.{Row}
use Rattle.ada_tree.specs.ExpressionTree.{ExprTree, NameTree}
use Rattle.ada_tree.specs.ProgramTree.{BodyTree}
use Rattle.ada_tree.specs.Size.{declaration_size, expr_size, stmt_size}
use Rattle.ada_tree.specs.StatementTree.{Abort, Accept, AlternativeTrees, Assignment, Block, Call, Case, DeclarationTree, Delay, DelayUntil, ElsifTrees, Exit, For, Forever, HandlerTrees, If, LocalObject, LocalProtected, LocalTask, Loop, MoreAlternatives, MoreElsifs, MoreHandlers, MoreStmts, NoAlternatives, NoElsifs, NoHandlers, NoStmts, Null, ObjectTree, OtherValues, Raise, RangeTree, Requeue, Return, Select, StmtTree, StmtTrees, Values, While}
use Rattle.image.specs.declared.instruction.Operation.TheVariants as op
use Rattle.image.specs.declared.instruction.Region.TheVariants as regions
use Rattle.types.specs.declared.entity.Subtype.{Subtype}
use Rattle.types.specs.Scopes.{Scope}
use Rattle.type_rules.specs.ObjectRules.{local_object_faults}
use Rattle.type_rules.specs.SubtypeNames.{subtype_of}
use Rattle.declaration_rules.specs.BodyNames.{loop_scope}
use Rattle.declaration_rules.specs.LocalRules.{local_faults, local_scope, locals_faults, locals_scope}
use Rattle.part_code.specs.step_soundness.specs.body_restrictions.specs.BodyRules as restrictions
use Rattle.part_code.specs.stmt_rules.specs.SimpleRules.{condition_faults}
use Rattle.expr_soundness.specs.expr_rules.specs.Typing.{boolean_wanted}
use Rattle.expr_soundness.specs.expr_rules.proofs.TypedLaw.{back_empty, front_empty}
use Rattle.expr_code.specs.Emitting.{IsLegalExpression}
use Rattle.expr_code.specs.ExpressionCode.{expr_code}
use Rattle.expr_code.specs.Pieces as pieces
use Rattle.expr_code.specs.Pieces.{narrow, nothing, one}
use Rattle.expr_code.specs.Refusing.{peak}
use Rattle.expr_code.specs.declared.visible.Slot.{Slot}
use Rattle.expr_code.specs.declared.visible.Visible.{Visible}
use Rattle.expr_code.proofs.Refusals.{peak_some}
use Rattle.part_code.specs.Bounds.{alternatives_bound, declarations_bound, elsifs_bound, handlers_bound, locals_words, run_bound, stmt_bound, stmts_bound, words_if_any}
use Rattle.part_code.specs.ChoiceRows.{choice_rows}
use Rattle.part_code.specs.Labels.{alternatives_labels, elsifs_labels, handlers_labels, stmt_labels, stmts_labels, with_line}
use Rattle.part_code.specs.Lines.{line_of}
use Rattle.part_code.specs.Needs as needs
use Rattle.part_code.specs.Needs.{Needs, assignment_needs, both, call_needs, framed, has_unfit, local_visible, locals_needs, locals_visible, needs_above, object_needs, stacked, value_needs}
use Rattle.part_code.specs.Rows.{alternatives_rows, elsifs_rows, handlers_rows, stmt_rows, stmts_rows}
use Rattle.part_code.specs.Statements.{Ways, with_exit, within_handler}
use Rattle.part_code.specs.Turns.{word_of_first, word_of_last}
use Rattle.part_code.specs.declared.turns.Turns.{Turns}
use Rattle.part_code.proofs.PieceNeeds.{Laws}
use Rattle.part_code.proofs.Selecting.{all_count}
use Rattle.part_code.proofs.Within.{Within, in_left, in_right, of_left, of_right, within_self, within_then}
use Rattle.stmt_code.specs.Alternatives.{AreAcceptedAlternatives}
use Rattle.stmt_code.specs.Drafting.{CodePart, begun, coded, handles, marked, skipping, takes, ◌▹◌}
use Rattle.stmt_code.specs.Emitting.{AreAcceptedElsifs, AreAcceptedHandlers, AreAcceptedStatements, IsAcceptedRun, IsAcceptedStatement}
use Rattle.stmt_code.specs.Leaves.{any_leave, handlers_leave}
use Rattle.stmt_code.specs.Placing.{stmt_place}
use Rattle.stmt_code.specs.Refusing.{Standpoint, alternatives_needs, behind_locals, elsifs_needs, handler_needs, handlers_needs, inside_handler, run_needs, sequence_needs, stmt_needs, stmts_needs}
use Rattle.stmt_code.specs.SimpleCode.{assignment_code, bounds_code, call_form, choices_code, exit_code, jump_code, last_code, leaving_code, next_code, null_code, raise_code, timed_code}
use Rattle.part_code.specs.stmt_rules.specs.StatementRules as rules
use Rattle.stmt_code.specs.StatementCode as forms
use Rattle.stmt_code.specs.StatementCode.{Site, after_local, after_locals, alternative_code, alternatives_code, called_code, elsifs_code, fork_code, guarded_code, handlers_code, if_code, in_handler, in_turn, kept_code, leads_to, local_code, local_object, locals_code, ranged_code, run_code, sequence_code, stmt_code, stmts_code, turns_at, turns_code, with_way}
use Rattle.stmt_code.specs.Timely.{alternatives_timely, elsifs_timely, handlers_timely, locals_seen, stmt_timely, stmts_timely}
use Rattle.stmt_code.specs.Turns.{is_full}
use Rattle.stmt_code.specs.declared.leaves.WayOut.TheVariants as way
use Rattle.stmt_code.proofs.AcceptedParts.{alternative_body, elsif_body, elsif_condition, first_statement, handler_body, more_alternatives, more_elsifs, more_handlers, more_statements}
use Rattle.stmt_code.proofs.Adding.{block_body, block_declarations, block_handlers, block_restricted, exit_condition, wanted_legal}
use Rattle.stmt_code.proofs.AlikeNeeds.{AreAlike, alike_itself, alike_more, assignment_alike, call_alike}
use Rattle.stmt_code.proofs.Alternatives.{case_alternatives, case_selecting, selecting_legal}
use Rattle.stmt_code.proofs.Bounded.{first_legal, integer_legal, last_legal, loop_body, loop_range}
use Rattle.stmt_code.proofs.ChoiceRows.{choices_long}
use Rattle.stmt_code.proofs.CoveredScopes.{IsFull, full_local, whole_loop}
use Rattle.stmt_code.proofs.Delaying.{until_legal}
use Rattle.stmt_code.proofs.Opening.{if_body, if_condition, if_elsifs, if_others}
use Rattle.stmt_code.proofs.PartsFill.{Fills, fills_as, fills_begun, fills_both, fills_covered, fills_handles, fills_marked, fills_more, fills_none, fills_one, fills_skipping, fills_takes}
use Rattle.stmt_code.proofs.Repeating.{forever_body, while_body, while_condition}
use Rattle.stmt_code.proofs.SimpleFills.{choices_spans, expr_spans, fills_spans, jump_spans, last_spans, leaving_spans, next_spans, null_spans, raise_spans, spans_more, spans_one, spans_then}

-- ---- where a statement stands

-- the site, where words of the frame are counted without bounds
abbrev pub point : Site → (slots : List (Option Slot)) → (taken : ℕ) → Standpoint
point c slots taken = record { visible = record c.visible { slots = slots }; taken = taken }

pub record IsNear (c : Site) (slots : List (Option Slot)) (taken : ℕ) : Type 0 where
  pub alike : AreAlike c.visible.slots slots
  pub low : c.taken ≤ taken

-- ---- declarations

capped_low : (s : Scope) (o : Option Subtype) → forms.words_taken s o ≤ words_if_any s o
capped_low s None = omega arith
capped_low s (Some t) = omega arith

-- where names are declared, as a standpoint counts words
pub record NearAfter (c : Site) (slots : List (Option Slot)) (taken : ℕ) (ds : List DeclarationTree) : Type 0 where
  pub full : IsFull (after_locals c ds)
  pub scope : (after_locals c ds).visible.scope ≡ locals_scope c.visible.scope ds
  pub seen : (after_locals c ds).visible.scope ≡ locals_seen c.visible.scope ds
  pub later : List (Option Slot)
  pub is : behind_locals (point c slots taken) ds ≡ point (after_locals c ds) later (taken + locals_words c.visible.scope ds)
  pub near : IsNear (after_locals c ds) later (taken + locals_words c.visible.scope ds)

module _ (c : Site) (slots : List (Option Slot)) (taken : ℕ) (near : IsNear c slots taken) (full : IsFull c) where
  module _ (d : ObjectTree) (legal : local_object_faults c.visible.scope d ≡ []) where
    abbrev own : ℕ
    own = words_if_any c.visible.scope (subtype_of c.visible.scope d.subtype)

    abbrev next_slots : List (Option Slot)
    next_slots = slots ++ Some (record { region = regions.Locals; offset = taken }) ∷ []

    near_local : IsNear (after_local c (LocalObject d)) next_slots (taken + own)
    near_local = record {
      alike = alike_more c.visible.slots slots (Some (record { region = regions.Locals; offset = narrow c.taken }))
          (Some (record { region = regions.Locals; offset = taken })) near.alike refl;
      low = (let low = near.low in let cap = capped_low c.visible.scope (subtype_of c.visible.scope d.subtype) in omega (arith, low, cap));
    }

near_locals : (c : Site) (slots : List (Option Slot)) (taken : ℕ) (ds : List DeclarationTree) → IsNear c slots taken → IsFull c
    → locals_faults c.visible.scope ds ≡ [] → restrictions.locals_faults ds ≡ [] → NearAfter c slots taken ds
near_locals c slots taken [] near full legal allowed = record {
  full = full;
  scope = refl;
  seen = refl;
  later = slots;
  is = refl;
  near = record { alike = near.alike; low = (let low = near.low in omega (arith, low)) };
}
near_locals c slots taken (LocalObject d ∷ ds) near full legal allowed =
    let s = c.visible.scope in
    let one = front_empty (local_faults s (LocalObject d)) (locals_faults (local_scope s (LocalObject d)) ds) legal in
    let words = own c slots taken near full d one in
    let next = after_local c (LocalObject d) in
    let rest = near_locals next (next_slots c slots taken near full d one) (taken + words) ds (near_local c slots taken near full d one) (full_local c d full one)
    (back_empty (local_faults s (LocalObject d)) (locals_faults (local_scope s (LocalObject d)) ds) legal)
    (back_empty (restrictions.local_faults (LocalObject d)) (restrictions.locals_faults ds) allowed) in
    let sum : (taken + words) + locals_words (local_scope s (LocalObject d)) ds ≡ taken + (words + locals_words (local_scope s (LocalObject d)) ds) = omega arith in
    record {
      full = rest.full;
      scope = rest.scope;
      seen = rest.seen;
      later = rest.later;
      is = (λ j. record { visible = locals_visible (record next.visible { slots = next_slots c slots taken near full d one }) (taken + words) ds; taken = sym sum j })
          ∙ rest.is ∙ ap (point (after_locals next ds) rest.later) sum;
      near = subst (IsNear (after_locals next ds) rest.later) sum rest.near;
    }
near_locals c slots taken (LocalTask d ∷ ds) near full legal allowed =
    absurd (let never = front_empty (restrictions.local_faults (LocalTask d)) (restrictions.locals_faults ds) allowed in cc)
near_locals c slots taken (LocalProtected d ∷ ds) near full legal allowed =
    absurd (let never = front_empty (restrictions.local_faults (LocalProtected d)) (restrictions.locals_faults ds) allowed in cc)

-- ---- the laws of assignments, of calls and of objects

pub record SimpleFillLaws : Type 0 where
  pub assignment : (c : Site) (w : Ways) (name : NameTree) (e : ExprTree) → IsFull c → IsAcceptedStatement c.visible.scope w (Assignment name e)
      → Fills (assignment_needs c.visible name e) (20 * stmt_size (Assignment name e)) (λ l. l) (λ k. k) (coded (assignment_code c.visible name e))
  pub call : (c : Site) (w : Ways) (name : NameTree) → IsFull c → IsAcceptedStatement c.visible.scope w (Call name)
      → Fills (call_needs c.visible name) (20 * stmt_size (Call name)) (λ l. with_line l (line_of name)) (λ k. k)
      (called_code c.visible name (call_form c.visible name))
  pub object : (c : Site) (taken : ℕ) (d : ObjectTree) → c.taken ≤ taken → IsFull c → local_object_faults c.visible.scope d ≡ []
      → Fills (object_needs c.visible taken (subtype_of c.visible.scope d.subtype) d.value)
      (20 * declaration_size (LocalObject d) + 2 * words_if_any c.visible.scope (subtype_of c.visible.scope d.subtype)) (λ l. l) (λ k. k)
      (local_object c.visible c.taken (subtype_of c.visible.scope d.subtype) d.value)

-- ---- parts, within what the whole needs

object_alike : (v : Visible) (slots : List (Option Slot)) (taken : ℕ) (o : Option Subtype) (value : Option ExprTree)
    → object_needs v taken o value ≡ object_needs (record v { slots = slots }) taken o value
object_alike v slots taken None value = refl
object_alike v slots taken (Some t) None = refl
object_alike v slots taken (Some t) (Some e) = refl

module _ (n : Needs) where
  -- with more instructions
  longer : (m long : ℕ) (f : List (List ℕ) → List (List ℕ)) (g : ℕ → ℕ) (a : CodePart) → m ≤ long → Fills n m f g a → Fills n long f g a
  longer m long f g a up p = fills_more n n m long f g a (within_self n) up p

  module _ (x y : ℕ) (f p : List (List ℕ) → List (List ℕ)) (g q : ℕ → ℕ) (v : Visible) (e : ExprTree) (some : 1 ≤ n.stack)
      (value : Fills n (20 * expr_size e) (λ l. l) (λ k. k) (coded (expr_code v 0 e))) (holds fails : CodePart) (h : Fills n x f g holds)
      (j : Fills n y p q fails) where
    guarded_fills : Fills n (20 * expr_size e + suc x) f g (guarded_code v e holds)
    guarded_fills =
        fills_both n (20 * expr_size e) (suc x) (λ l. l) f (λ k. k) g (coded (expr_code v 0 e)) (skipping 0 1 op.JumpIfZero holds) value
        (fills_skipping n x f g 0 1 op.JumpIfZero holds some (λ to. refl) h)

    fork_fills : Fills n (20 * expr_size e + (suc x + suc y)) (λ l. p (f l)) (λ k. q (g k)) (fork_code v e holds fails)
    fork_fills =
        fills_both n (20 * expr_size e) (suc x + suc y) (λ l. l) (λ l. p (f l)) (λ k. k) (λ k. q (g k)) (coded (expr_code v 0 e))
        (skipping 1 1 op.JumpIfZero holds ▹ skipping 0 0 op.Jump fails) value
        (fills_both n (suc x) (suc y) f p g q (skipping 1 1 op.JumpIfZero holds) (skipping 0 0 op.Jump fails)
        (fills_skipping n x f g 1 1 op.JumpIfZero holds some (λ to. refl) h)
        (fills_skipping n y p q 0 0 op.Jump fails (omega arith) (λ to. refl) j))

  way_fills : (x : ℕ) (f : List (List ℕ) → List (List ℕ)) (g : ℕ → ℕ) (leaves : Bool) (a : Option ℕ → CodePart) → ((o : Option ℕ) → Fills n x f g (a o))
      → Fills n (x + 2) f g (with_way leaves a)
  way_fills x f g false a h = longer x (x + 2) f g (a None) (omega arith) (h None)
  way_fills x f g true a h =
      longer (1 + suc x) (x + 2) f g (with_way true a) (omega arith)
      (fills_begun n (1 + suc x) f g (λ start. coded (one 0 (op.Jump (narrow (start + 2)))) ▹ skipping 0 0 op.Jump (a (Some (narrow (start + 1)))))
      (λ start.
      fills_both n 1 (suc x) (λ l. l) f (λ k. k) g (coded (one 0 (op.Jump (narrow (start + 2))))) (skipping 0 0 op.Jump (a (Some (narrow (start + 1)))))
      (fills_one n 0 (op.Jump (narrow (start + 2))) (omega arith) refl)
      (fills_skipping n x f g 0 0 op.Jump (a (Some (narrow (start + 1)))) (omega arith) (λ to. refl) (h (Some (narrow (start + 1)))))))

  -- ---- the turns of loops

  module _ (x : ℕ) (f : List (List ℕ) → List (List ℕ)) (g : ℕ → ℕ) (body : CodePart) (h : Fills n x f g body) where
    back_fills : (turn : ℕ) → Fills n (x + 1) f g (body ▹ coded (one 0 (op.Jump (narrow turn))))
    back_fills turn =
        fills_both n x 1 f (λ l. l) g (λ k. k) body (coded (one 0 (op.Jump (narrow turn)))) h (fills_one n 0 (op.Jump (narrow turn)) (omega arith) refl)

    forever_fills : Fills n (x + 1) f g (forms.turned body)
    forever_fills = fills_begun n (x + 1) f g (λ turn. body ▹ coded (one 0 (op.Jump (narrow turn)))) back_fills

    while_fills : (v : Visible) (e : ExprTree) → 1 ≤ n.stack → Fills n (20 * expr_size e) (λ l. l) (λ k. k) (coded (expr_code v 0 e))
        → Fills n (20 * expr_size e + suc (x + 1)) f g (forms.while_code v e body)
    while_fills v e some value =
        fills_begun n (20 * expr_size e + suc (x + 1)) f g
        (λ turn. coded (expr_code v 0 e) ▹ skipping 0 1 op.JumpIfZero (body ▹ coded (one 0 (op.Jump (narrow turn)))))
        (λ turn.
        fills_both n (20 * expr_size e) (suc (x + 1)) (λ l. l) f (λ k. k) g (coded (expr_code v 0 e))
        (skipping 0 1 op.JumpIfZero (body ▹ coded (one 0 (op.Jump (narrow turn))))) value
        (fills_skipping n (x + 1) f g 0 1 op.JumpIfZero (body ▹ coded (one 0 (op.Jump (narrow turn)))) some (λ to. refl) (back_fills turn)))

    turns_fills : 2 ≤ n.stack → (t : Turns) → Fills n (x + (3 + suc 5)) f g (turns_code t body)
    turns_fills high t =
        let next : ℕ → pieces.Piece = λ turn. pieces.◌▸◌ (next_code t) (one 0 (op.Jump (narrow turn))) in
        let U : Type 0 = n.unfit ≡ true in
        fills_begun n (x + (3 + suc 5)) f g (λ turn. body ▹ coded (last_code t) ▹ skipping 0 1 op.JumpIfNotZero (coded (next turn)))
        (λ turn.
        fills_both n x (3 + suc 5) f (λ l. l) g (λ k. k) body (coded (last_code t) ▹ skipping 0 1 op.JumpIfNotZero (coded (next turn))) h
        (fills_both n 3 (suc 5) (λ l. l) (λ l. l) (λ k. k) (λ k. k) (coded (last_code t)) (skipping 0 1 op.JumpIfNotZero (coded (next turn)))
        (fills_spans n 3 (last_code t) (last_spans U n.stack high t))
        (fills_skipping n 5 (λ l. l) (λ k. k) 0 1 op.JumpIfNotZero (coded (next turn)) (omega (arith, high)) (λ to. refl)
        (fills_spans n 5 (next turn)
        (spans_then U n.stack 4 1 (next_code t) (one 0 (op.Jump (narrow turn))) (next_spans U n.stack high t)
        (spans_one U n.stack 0 (op.Jump (narrow turn)) (omega arith) refl))))))

    ranged_fills : 2 ≤ n.stack → (full : Bool) (t : Turns) → Fills n (x + 13) f g (ranged_code full t (turns_code t body))
    ranged_fills high true t = longer (x + (3 + suc 5)) (x + 13) f g (turns_code t body) (omega arith) (turns_fills high t)
    ranged_fills high false t =
        longer (3 + suc (x + (3 + suc 5))) (x + 13) f g (ranged_code false t (turns_code t body)) (omega arith)
        (fills_both n 3 (suc (x + (3 + suc 5))) (λ l. l) f (λ k. k) g (coded (null_code t)) (skipping 0 1 op.JumpIfNotZero (turns_code t body))
        (fills_spans n 3 (null_code t) (null_spans (n.unfit ≡ true) n.stack high t))
        (fills_skipping n (x + (3 + suc 5)) f g 0 1 op.JumpIfNotZero (turns_code t body) (omega (arith, high)) (λ to. refl) (turns_fills high t)))

  -- ---- alternatives

  module _ (x y : ℕ) (f p : List (List ℕ) → List (List ℕ)) (g q : ℕ → ℕ) (body others : CodePart) (high : 1 ≤ n.stack) (h : Fills n x f g body)
      (j : Fills n y p q others) where
    chosen_fills : Fills n (1 + x) f g (forms.chosen_code body)
    chosen_fills = fills_both n 1 x (λ l. l) f (λ k. k) g (coded (one 1 op.Drop)) body (fills_one n 1 op.Drop high refl) h

    others_fills : (s : Scope) (place : ℕ) → Fills n ((1 + x) + suc y) (λ l. p (f l)) (λ k. q (g k)) (alternative_code s (OtherValues place) body others)
    others_fills s place =
        fills_both n (1 + x) (suc y) f p g q (forms.chosen_code body) (skipping 0 0 op.Jump others) chosen_fills
        (fills_skipping n y p q 0 0 op.Jump others (omega arith) (λ to. refl) j)

    values_fills : 3 ≤ n.stack → (s : Scope) (cs : List ExprTree)
        → Fills n (4 * length cs + (suc (1 + x) + suc y)) (λ l. p (f l)) (λ k. q (g k)) (alternative_code s (Values cs) body others)
    values_fills three s cs =
        fills_both n (4 * length cs) (suc (1 + x) + suc y) (λ l. l) (λ l. p (f l)) (λ k. k) (λ k. q (g k)) (coded (choices_code s cs))
        (skipping 1 1 op.Jump (forms.chosen_code body) ▹ skipping 0 0 op.Jump others)
        (fills_spans n (4 * length cs) (choices_code s cs) (choices_spans (n.unfit ≡ true) n.stack three s cs))
        (fills_both n (suc (1 + x)) (suc y) f p g q (skipping 1 1 op.Jump (forms.chosen_code body)) (skipping 0 0 op.Jump others)
        (fills_skipping n (1 + x) f g 1 1 op.Jump (forms.chosen_code body) high (λ to. refl) chosen_fills)
        (fills_skipping n y p q 0 0 op.Jump others (omega arith) (λ to. refl) j))

  -- ---- handlers

  handler_fills : (x y : ℕ) (f p : List (List ℕ) → List (List ℕ)) (g q : ℕ → ℕ) (taken : ℕ) (body : CodePart) (rest : ℕ → CodePart) → 1 ≤ n.stack
      → taken + 1 ≤ n.frame → Fills n x f g body → ((target : ℕ) → Fills n y p q (rest target))
      → Fills n (1 + (x + suc y)) (λ l. p (f l)) (λ k. q (g k)) (begun (λ target. kept_code taken ▹ body ▹ skipping 0 0 op.Jump (rest target)))
  handler_fills x y f p g q taken body rest high wide h j =
      fills_begun n (1 + (x + suc y)) (λ l. p (f l)) (λ k. q (g k)) (λ target. kept_code taken ▹ body ▹ skipping 0 0 op.Jump (rest target))
      (λ target.
      fills_both n 1 (x + suc y) (λ l. l) (λ l. p (f l)) (λ k. k) (λ k. q (g k)) (kept_code taken) (body ▹ skipping 0 0 op.Jump (rest target))
      (fills_both n 0 1 (λ l. l) (λ l. l) (λ k. k) (λ k. k) (takes (taken + 1)) (coded (one 1 (op.StoreLocal (narrow taken)))) (fills_takes n (taken + 1) wide)
      (fills_one n 1 (op.StoreLocal (narrow taken)) high refl))
      (fills_both n x (suc y) f p g q body (skipping 0 0 op.Jump (rest target)) h
      (fills_skipping n y p q 0 0 op.Jump (rest target) (omega arith) (λ to. refl) (j target))))

-- the forms of an `if`
if_forms : (n : Needs) (v : Visible) (e : ExprTree) (body : StmtTrees) (parts : ElsifTrees) (others : StmtTrees) (holds fails : CodePart) (x y long : ℕ) → x ≤ long
    → y ≤ long → Fills n x (λ l. stmts_labels l body) (λ k. stmts_rows k body) (guarded_code v e holds)
    → Fills n y (λ l. stmts_labels (elsifs_labels (stmts_labels l body) parts) others) (λ k. stmts_rows (elsifs_rows (stmts_rows k body) parts) others)
    (fork_code v e holds fails)
    → Fills n long (λ l. stmts_labels (elsifs_labels (stmts_labels l body) parts) others) (λ k. stmts_rows (elsifs_rows (stmts_rows k body) parts) others)
    (if_code v e parts others holds fails)
if_forms n v e body NoElsifs NoStmts holds fails x y long up over p q =
    longer n x long (λ l. stmts_labels l body) (λ k. stmts_rows k body) (guarded_code v e holds) up p
if_forms n v e body NoElsifs (MoreStmts z rest) holds fails x y long up over p q = longer n y long _ _ (fork_code v e holds fails) over q
if_forms n v e body (MoreElsifs c some parts) others holds fails x y long up over p q = longer n y long _ _ (fork_code v e holds fails) over q

-- statements with their handlers, or without
sequence_fills : (n : Needs) (all : HandlerTrees) (x y : ℕ) (f : List (List ℕ) → List (List ℕ)) (g : ℕ → ℕ) (body : CodePart) (handlers : Row → CodePart)
    → Fills n x f g body → ((r : Row) → Fills n y (λ l. handlers_labels l all) (λ k. handlers_rows k all) (handlers r))
    → Fills n (x + suc y) (λ l. handlers_labels (f l) all) (λ k. handlers_rows (g k) all) (sequence_code all body handlers)
sequence_fills n NoHandlers x y f g body handlers h j = longer n x (x + suc y) f g body (omega arith) h
sequence_fills n (MoreHandlers choices some rest) x y f g body handlers h j =
    fills_covered n x y f (λ l. handlers_labels l (MoreHandlers choices some rest)) g (λ k. handlers_rows k (MoreHandlers choices some rest)) body handlers h j

-- statements and handlers at a site
sequence_at : (c : Site) (a : Standpoint) (body : StmtTrees) (all : HandlerTrees) (x y : ℕ)
    → Fills (stmts_needs a body) x (λ l. stmts_labels l body) (λ k. stmts_rows k body) (stmts_code c body)
    → ((q : Row) → Fills (handlers_needs a all) y (λ l. handlers_labels l all) (λ k. handlers_rows (k + 0) all) (handlers_code c q [] all))
    → Fills (sequence_needs a body all) (x + suc y) (λ l. handlers_labels (stmts_labels l body) all) (λ k. handlers_rows (stmts_rows k body) all)
    (sequence_code all (stmts_code c body) (λ q. handlers_code c q [] all))
sequence_at c a body all x y p k =
    let A = stmts_needs a body in
    let B = handlers_needs a all in
    sequence_fills (both A B) all x y (λ l. stmts_labels l body) (λ k. stmts_rows k body) (stmts_code c body) (λ q. handlers_code c q [] all)
    (fills_more A (both A B) x x (λ l. stmts_labels l body) (λ k. stmts_rows k body) (stmts_code c body) (in_left A B) (omega arith) p)
    (λ q.
    fills_more B (both A B) y y (λ l. handlers_labels l all) (λ k. handlers_rows k all) (handlers_code c q [] all) (in_right A B) (omega arith)
    (fills_as B y (λ l. handlers_labels l all) (λ l. handlers_labels l all) (λ k. handlers_rows (k + 0) all) (λ k. handlers_rows k all) (handlers_code c q [] all)
    (λ l. refl) (λ k. ap (λ m. handlers_rows m all) (let e : k + 0 ≡ k = omega arith in e)) (k q)))

-- declarations, and what follows them
declared_fills : (c : Site) (slots : List (Option Slot)) (taken : ℕ) (ds : List DeclarationTree) (body : StmtTrees) (all : HandlerTrees)
    → (near : NearAfter c slots taken ds) → (long : ℕ → ℕ → ℕ) (rest : CodePart)
    → Fills (locals_needs (record c.visible { slots = slots }) taken ds) (declarations_bound c.visible.scope ds) (λ l. l) (λ k. k) (locals_code c ds)
    → (let s = (after_locals c ds).visible.scope in
    Fills (sequence_needs (point (after_locals c ds) near.later (taken + locals_words c.visible.scope ds)) body all)
    (long (stmts_bound s body) (handlers_bound s all)) (λ l. handlers_labels (stmts_labels l body) all) (λ k. handlers_rows (stmts_rows k body) all) rest)
    → (let s = locals_scope c.visible.scope ds in
    Fills (both (locals_needs (record c.visible { slots = slots }) taken ds) (sequence_needs (behind_locals (point c slots taken) ds) body all))
    (declarations_bound c.visible.scope ds + long (stmts_bound s body) (handlers_bound s all)) (λ l. handlers_labels (stmts_labels l body) all)
    (λ k. handlers_rows (stmts_rows k body) all) (locals_code c ds ▹ rest))
declared_fills c slots taken ds body all near long rest p q =
    let f : List (List ℕ) → List (List ℕ) = λ l. handlers_labels (stmts_labels l body) all in
    let g : ℕ → ℕ = λ k. handlers_rows (stmts_rows k body) all in
    let L = locals_needs (record c.visible { slots = slots }) taken ds in
    let S = sequence_needs (behind_locals (point c slots taken) ds) body all in
    let n = both L S in
    let s = locals_scope c.visible.scope ds in
    let x = declarations_bound c.visible.scope ds in
    let y = long (stmts_bound s body) (handlers_bound s all) in
    let there = (after_locals c ds).visible.scope in
    let one = subst (λ a. Fills (sequence_needs a body all) (long (stmts_bound there body) (handlers_bound there all)) f g rest) (sym near.is) q in
    let two = subst (λ z. Fills S (long (stmts_bound z body) (handlers_bound z all)) f g rest) near.scope one in
    fills_both n x y (λ l. l) f (λ k. k) g (locals_code c ds) rest
    (fills_more L n x x (λ l. l) (λ k. k) (locals_code c ds) (in_left L S) (omega arith) p)
    (fills_more S n y y f g rest (in_right L S) (omega arith) two)

-- how many rows there are hangs on how many there were by a sum alone
mutual
  stmt_moved : (x : StmtTree) (k m : ℕ) → stmt_rows k x + m ≡ stmt_rows (k + m) x
  stmt_moved (If place e body parts others) k m =
      stmts_moved others (elsifs_rows (stmts_rows k body) parts) m
      ∙ ap (λ z. stmts_rows z others) (elsifs_moved parts (stmts_rows k body) m ∙ ap (λ z. elsifs_rows z parts) (stmts_moved body k m))
  stmt_moved (Case place e all) k m = alternatives_moved all k m
  stmt_moved (Loop place i body) k m = stmts_moved body k m
  stmt_moved (Block place ds body all) k m =
      handlers_moved all (stmts_rows k body) m ∙ ap (λ z. handlers_rows z all) (stmts_moved body k m)
  stmt_moved x k m = refl

  stmts_moved : (body : StmtTrees) (k m : ℕ) → stmts_rows k body + m ≡ stmts_rows (k + m) body
  stmts_moved NoStmts k m = refl
  stmts_moved (MoreStmts x rest) k m = stmts_moved rest (stmt_rows k x) m ∙ ap (λ z. stmts_rows z rest) (stmt_moved x k m)

  elsifs_moved : (parts : ElsifTrees) (k m : ℕ) → elsifs_rows k parts + m ≡ elsifs_rows (k + m) parts
  elsifs_moved NoElsifs k m = refl
  elsifs_moved (MoreElsifs e body rest) k m = elsifs_moved rest (stmts_rows k body) m ∙ ap (λ z. elsifs_rows z rest) (stmts_moved body k m)

  alternatives_moved : (all : AlternativeTrees) (k m : ℕ) → alternatives_rows k all + m ≡ alternatives_rows (k + m) all
  alternatives_moved NoAlternatives k m = refl
  alternatives_moved (MoreAlternatives place cs body rest) k m =
      alternatives_moved rest (stmts_rows k body) m ∙ ap (λ z. alternatives_rows z rest) (stmts_moved body k m)

  handlers_moved : (all : HandlerTrees) (k m : ℕ) → handlers_rows k all + m ≡ handlers_rows (k + m) all
  handlers_moved NoHandlers k m = refl
  handlers_moved (MoreHandlers cs body rest) k m =
      handlers_moved rest (stmts_rows (k + length cs) body) m
      ∙ ap (λ z. handlers_rows z rest) (stmts_moved body (k + length cs) m ∙ ap (λ z. stmts_rows z body) (let e : k + length cs + m ≡ k + m + length cs = omega arith in e))

rows_moved : (body : StmtTrees) (k a b : ℕ) → stmts_rows k body + (a + b) ≡ stmts_rows (k + a + b) body
rows_moved body k a b = stmts_moved body k (a + b) ∙ ap (λ z. stmts_rows z body) (let e : k + (a + b) ≡ k + a + b = omega arith in e)

-- ---- the induction

module _ (laws : Laws) (simple : SimpleFillLaws) where
  value_fills : (n : Needs) (c : Site) (e : ExprTree) → IsFull c → IsLegalExpression c.visible.scope e → Within (value_needs c.visible e) n
      → Fills n (20 * expr_size e) (λ l. l) (λ k. k) (coded (expr_code c.visible 0 e))
  value_fills n c e full legal within =
      let m = value_needs c.visible e in
      fills_more m n (20 * expr_size e) (20 * expr_size e) (λ l. l) (λ k. k) (coded (expr_code c.visible 0 e)) within (omega arith)
      (fills_spans m (20 * expr_size e) (expr_code c.visible 0 e) (expr_spans laws c.visible full.sound full.has.expressions 0 e legal))

  some_stack : (n : Needs) (v : Visible) (e : ExprTree) → Within (value_needs v e) n → 1 ≤ n.stack
  some_stack n v e within = let some = peak_some v.scope e in let up = within.stack in omega (arith, some, up)

  condition_legal : (s : Scope) (e : ExprTree) → condition_faults s e ≡ [] → IsLegalExpression s e
  condition_legal s e h = wanted_legal s boolean_wanted e h

  locals_fills : (c : Site) (slots : List (Option Slot)) (taken : ℕ) (ds : List DeclarationTree) → IsNear c slots taken → IsFull c
      → locals_faults c.visible.scope ds ≡ [] → restrictions.locals_faults ds ≡ []
      → Fills (locals_needs (record c.visible { slots = slots }) taken ds) (declarations_bound c.visible.scope ds) (λ l. l) (λ k. k) (locals_code c ds)
  locals_fills c slots taken [] near full legal allowed =
      longer needs.nothing 0 (20 * 0 + 2 * 0) (λ l. l) (λ k. k) (coded nothing) (omega arith) (fills_none needs.nothing)
  locals_fills c slots taken (LocalObject d ∷ ds) near full legal allowed =
      let s = c.visible.scope in
      let t = subtype_of s d.subtype in
      let words = words_if_any s t in
      let next = after_local c (LocalObject d) in
      let one = front_empty (local_faults s (LocalObject d)) (locals_faults (local_scope s (LocalObject d)) ds) legal in
      let v = record c.visible { slots = slots } in
      let A = object_needs v taken t d.value in
      let B = locals_needs (local_visible v taken (LocalObject d)) (taken + words) ds in
      let x = 20 * declaration_size (LocalObject d) + 2 * words in
      let y = declarations_bound next.visible.scope ds in
      let a = local_object c.visible c.taken t d.value in
      let own_fills = fills_marked A x (λ l. l) (λ k. k) d.name.place a
      (subst (λ m. Fills m x (λ l. l) (λ k. k) a) (object_alike c.visible slots taken t d.value) (simple.object c taken d near.low full one)) in
      let rest = locals_fills next (next_slots c slots taken near full d one) (taken + words) ds (near_local c slots taken near full d one)
      (full_local c d full one) (back_empty (local_faults s (LocalObject d)) (locals_faults (local_scope s (LocalObject d)) ds) legal)
      (back_empty (restrictions.local_faults (LocalObject d)) (restrictions.locals_faults ds) allowed) in
      longer (both A B) (x + y) (declarations_bound s (LocalObject d ∷ ds)) (λ l. l) (λ k. k) (local_code c (LocalObject d) ▹ locals_code next ds) (omega arith)
      (fills_both (both A B) x y (λ l. l) (λ l. l) (λ k. k) (λ k. k) (local_code c (LocalObject d)) (locals_code next ds)
      (fills_more A (both A B) x x (λ l. l) (λ k. k) (local_code c (LocalObject d)) (in_left A B) (omega arith) own_fills)
      (fills_more B (both A B) y y (λ l. l) (λ k. k) (locals_code next ds) (in_right A B) (omega arith) rest))
  locals_fills c slots taken (LocalTask d ∷ ds) near full legal allowed =
      absurd (let never = front_empty (restrictions.local_faults (LocalTask d)) (restrictions.locals_faults ds) allowed in cc)
  locals_fills c slots taken (LocalProtected d ∷ ds) near full legal allowed =
      absurd (let never = front_empty (restrictions.local_faults (LocalProtected d)) (restrictions.locals_faults ds) allowed in cc)

  -- the bounds of a range, stored
  bounds_fills : (n : Needs) (c : Site) (r : RangeTree) (t : Turns) → IsFull c → IsLegalExpression c.visible.scope r.first
      → IsLegalExpression c.visible.scope r.last → Within (value_needs c.visible r.first) n → Within (needs_above 1 c.visible r.last) n → 2 ≤ n.stack
      → Fills n (20 * expr_size r.first + (20 * expr_size r.last + 2)) (λ l. l) (λ k. k) (coded (bounds_code c.visible r t))
  bounds_fills n c r t full first last in_first in_last high =
      let v = c.visible in
      let U : Type 0 = n.unfit ≡ true in
      let stores = pieces.◌▸◌ (one 2 (op.StoreLocal (word_of_last t))) (one 1 (op.StoreLocal (word_of_first t))) in
      fills_spans n (20 * expr_size r.first + (20 * expr_size r.last + 2)) (bounds_code v r t)
      (spans_then U n.stack (20 * expr_size r.first) (20 * expr_size r.last + 2) (expr_code v 0 r.first) (pieces.◌▸◌ (expr_code v 1 r.last) stores)
      (spans_more (has_unfit v ≡ true) U (20 * expr_size r.first) (20 * expr_size r.first) (0 + peak v.scope r.first) n.stack (expr_code v 0 r.first) in_first.unfit
      (omega arith) in_first.stack (expr_spans laws v full.sound full.has.expressions 0 r.first first))
      (spans_then U n.stack (20 * expr_size r.last) 2 (expr_code v 1 r.last) stores
      (spans_more (has_unfit v ≡ true) U (20 * expr_size r.last) (20 * expr_size r.last) (1 + peak v.scope r.last) n.stack (expr_code v 1 r.last) in_last.unfit
      (omega arith) in_last.stack (expr_spans laws v full.sound full.has.expressions 1 r.last last))
      (spans_then U n.stack 1 1 (one 2 (op.StoreLocal (word_of_last t))) (one 1 (op.StoreLocal (word_of_first t)))
      (spans_one U n.stack 2 (op.StoreLocal (word_of_last t)) high refl)
      (spans_one U n.stack 1 (op.StoreLocal (word_of_first t)) (omega (arith, high)) refl))))

  mutual
    pub stmt_fills : (c : Site) (slots : List (Option Slot)) (taken : ℕ) → IsNear c slots taken → (w : Ways) (x : StmtTree) → IsFull c
        → IsAcceptedStatement c.visible.scope w x → stmt_timely c.visible.scope x
        → Fills (stmt_needs (point c slots taken) x) (stmt_bound c.visible.scope x) (λ l. stmt_labels l x) (λ k. stmt_rows k x) (stmt_code c x)
    stmt_fills c slots taken near w (Null place) full h timely =
        longer needs.nothing 0 (20 * 1 + 2 * 0) (λ l. l) (λ k. k) (coded nothing) (omega arith) (fills_none needs.nothing)
    stmt_fills c slots taken near w (Assignment name e) full h timely =
        let a = coded (assignment_code c.visible name e) in
        let x = stmt_bound c.visible.scope (Assignment name e) in
        subst (λ m. Fills m x (λ l. l) (λ k. k) a) (assignment_alike c.visible slots near.alike name e)
        (longer (assignment_needs c.visible name e) (20 * stmt_size (Assignment name e)) x (λ l. l) (λ k. k) a (omega arith) (simple.assignment c w name e full h))
    stmt_fills c slots taken near w (Call name) full h timely =
        let a = called_code c.visible name (call_form c.visible name) in
        let x = stmt_bound c.visible.scope (Call name) in
        let f : List (List ℕ) → List (List ℕ) = λ l. with_line l (line_of name) in
        subst (λ m. Fills m x f (λ k. k) a) (call_alike c.visible slots near.alike name)
        (longer (call_needs c.visible name) (20 * stmt_size (Call name)) x f (λ k. k) a (omega arith) (simple.call c w name full h))
    stmt_fills c slots taken near w (Exit place None) full h timely =
        longer needs.nothing 1 (20 * 1 + 2 * 0) (λ l. l) (λ k. k) (coded (jump_code c.ways.exit)) (omega arith)
        (fills_spans needs.nothing 1 (jump_code c.ways.exit) (jump_spans (false ≡ true) 0 c.ways.exit))
    stmt_fills c slots taken near w (Exit place (Some e)) full h timely =
        let v = c.visible in
        let n = value_needs v e in
        let U : Type 0 = has_unfit v ≡ true in
        let legal = condition_legal v.scope e (exit_condition v.scope w place (Some e) e refl h) in
        longer n (20 * expr_size e + 1) (20 * (1 + expr_size e) + 2 * 0) (λ l. l) (λ k. k) (coded (exit_code v c.ways.exit (Some e))) (omega arith)
        (fills_spans n (20 * expr_size e + 1) (exit_code v c.ways.exit (Some e))
        (spans_then U n.stack (20 * expr_size e) 1 (expr_code v 0 e) (leaving_code c.ways.exit)
        (expr_spans laws v full.sound full.has.expressions 0 e legal) (leaving_spans U n.stack (some_stack n v e (within_self n)) c.ways.exit)))
    stmt_fills c slots taken near w (Return place e) full h timely =
        longer needs.nothing 1 (stmt_bound c.visible.scope (Return place e)) (λ l. l) (λ k. k) (coded (jump_code c.ways.return)) (omega arith)
        (fills_spans needs.nothing 1 (jump_code c.ways.return) (jump_spans (false ≡ true) 0 c.ways.return))
    stmt_fills c slots taken near w (Raise place name) full h timely =
        let a = raise_code c.exceptions c.ways.handled name in
        longer (stacked 1) 2 (20 * 1 + 2 * 0) (λ l. l) (λ k. k) (coded a) (omega arith)
        (fills_spans (stacked 1) 2 a (raise_spans (false ≡ true) 1 (omega arith) c.exceptions c.ways.handled name))
    stmt_fills c slots taken near w (DelayUntil place e) full h timely =
        let v = c.visible in
        let n = value_needs v e in
        let U : Type 0 = has_unfit v ≡ true in
        let legal = until_legal v.scope place e (record { around = h.around; unbroken = h.unbroken }) in
        let some = some_stack n v e (within_self n) in
        let last = pieces.◌▸◌ (expr_code v 0 e) (one 1 op.DelayUntil) in
        subst (λ b. Fills n (20 * (1 + expr_size e) + 2 * 0) (λ l. l) (λ k. k) (coded (cond b (timed_code v e) (one 0 (op.LoadBlock regions.Locals 0))))) (sym timely)
        (longer n (1 + (20 * expr_size e + 1)) (20 * (1 + expr_size e) + 2 * 0) (λ l. l) (λ k. k) (coded (timed_code v e)) (omega arith)
        (fills_spans n (1 + (20 * expr_size e + 1)) (timed_code v e)
        (spans_then U n.stack 1 (20 * expr_size e + 1) (one 0 op.CheckBlocking) last (spans_one U n.stack 0 op.CheckBlocking (omega arith) refl)
        (spans_then U n.stack (20 * expr_size e) 1 (expr_code v 0 e) (one 1 op.DelayUntil) (expr_spans laws v full.sound full.has.expressions 0 e legal)
        (spans_one U n.stack 1 op.DelayUntil some refl)))))
    stmt_fills c slots taken near w (If place e body parts others) full h timely =
        let s = c.visible.scope in
        let a = point c slots taken in
        let A = value_needs c.visible e in
        let B = stmts_needs a body in
        let C = elsifs_needs a parts in
        let D = stmts_needs a others in
        let n = both A (both B (both C D)) in
        let x = stmts_bound s body in
        let z = stmts_bound s others in
        let y = elsifs_bound s parts + z in
        let whole : StmtTree = If place e body parts others in
        let some = some_stack n c.visible e (in_left A (both B (both C D))) in
        let value = value_fills n c e full (condition_legal s e (if_condition s w whole place e body parts others refl h)) (in_left A (both B (both C D))) in
        let f : List (List ℕ) → List (List ℕ) = λ l. stmts_labels l body in
        let g : ℕ → ℕ = λ k. stmts_rows k body in
        let holds = fills_more B n x x f g (stmts_code c body) (of_right B A (both B (both C D)) (in_left B (both C D))) (omega arith)
        (stmts_fills c slots taken near w body full (if_body s w whole place e body parts others refl h) timely.0) in
        let last = fills_more D n z z (λ l. stmts_labels l others) (λ k. stmts_rows k others) (stmts_code c others)
        (of_right D A (both B (both C D)) (of_right D B (both C D) (in_right C D))) (omega arith)
        (stmts_fills c slots taken near w others full (if_others s w whole place e body parts others refl h) timely.2) in
        let fails = elsifs_fills n c slots taken near w parts full (if_elsifs s w whole place e body parts others refl h) timely.1
        (of_right C A (both B (both C D)) (of_right C B (both C D) (in_left C D))) z (λ l. stmts_labels l others) (λ k. stmts_rows k others) (stmts_code c others) last in
        let p : List (List ℕ) → List (List ℕ) = λ l. stmts_labels (elsifs_labels l parts) others in
        let q : ℕ → ℕ = λ k. stmts_rows (elsifs_rows k parts) others in
        let rest = elsifs_code c parts (stmts_code c others) in
        if_forms n c.visible e body parts others (stmts_code c body) rest (20 * expr_size e + suc x) (20 * expr_size e + (suc x + suc y)) (stmt_bound s whole) (omega arith)
        (omega arith) (guarded_fills n x y f p g q c.visible e some value (stmts_code c body) rest holds fails)
        (fork_fills n x y f p g q c.visible e some value (stmts_code c body) rest holds fails)
    stmt_fills c slots taken near w (Case place e all) full h timely =
        let s = c.visible.scope in
        let a = point c slots taken in
        let A = value_needs c.visible e in
        let B = alternatives_needs a all in
        let n = both A B in
        let x = 20 * expr_size e in
        let y = alternatives_bound s all + 1 in
        let selecting = case_selecting s w place e all h in
        longer n (x + y) (stmt_bound s (Case place e all)) (λ l. alternatives_labels l all) (λ k. alternatives_rows k all) (stmt_code c (Case place e all)) (omega arith)
        (fills_both n x y (λ l. l) (λ l. alternatives_labels l all) (λ k. k) (λ k. alternatives_rows k all) (coded (expr_code c.visible 0 e)) (alternatives_code c all)
        (value_fills n c e full (selecting_legal s e selecting) (in_left A B))
        (alternatives_fills n c slots taken near w e all full (case_alternatives s w place e all h) timely (in_right A B) (some_stack n c.visible e (in_left A B))))
    stmt_fills c slots taken near w (Loop place Forever body) full h timely =
        let s = c.visible.scope in
        let B = stmts_needs (point c slots taken) body in
        let n = both needs.nothing B in
        let x = stmts_bound s body in
        let f : List (List ℕ) → List (List ℕ) = λ l. stmts_labels l body in
        let g : ℕ → ℕ = λ k. stmts_rows k body in
        longer n ((x + 1) + 2) (stmt_bound s (Loop place Forever body)) f g (stmt_code c (Loop place Forever body)) (omega arith)
        (way_fills n (x + 1) f g (any_leave body way.Exit) (λ exit. forms.turned (stmts_code (record c { ways = with_exit exit c.ways }) body))
        (λ exit.
        forever_fills n x f g (stmts_code (record c { ways = with_exit exit c.ways }) body)
        (fills_more B n x x f g (stmts_code (record c { ways = with_exit exit c.ways }) body) (in_right needs.nothing B) (omega arith)
        (stmts_fills (record c { ways = with_exit exit c.ways }) slots taken (record { alike = near.alike; low = near.low }) (with_exit (Some 0) w) body full
        (forever_body s w place body (Some 0) (λ is. refl) h) timely))))
    stmt_fills c slots taken near w (Loop place (While e) body) full h timely =
        let s = c.visible.scope in
        let A = value_needs c.visible e in
        let B = stmts_needs (point c slots taken) body in
        let n = both A B in
        let x = stmts_bound s body in
        let f : List (List ℕ) → List (List ℕ) = λ l. stmts_labels l body in
        let g : ℕ → ℕ = λ k. stmts_rows k body in
        let value = value_fills n c e full (condition_legal s e (while_condition s w place body e h)) (in_left A B) in
        longer n ((20 * expr_size e + suc (x + 1)) + 2) (stmt_bound s (Loop place (While e) body)) f g (stmt_code c (Loop place (While e) body)) (omega arith)
        (way_fills n (20 * expr_size e + suc (x + 1)) f g (any_leave body way.Exit)
        (λ exit. forms.while_code c.visible e (stmts_code (record c { ways = with_exit exit c.ways }) body))
        (λ exit.
        while_fills n x f g (stmts_code (record c { ways = with_exit exit c.ways }) body)
        (fills_more B n x x f g (stmts_code (record c { ways = with_exit exit c.ways }) body) (in_right A B) (omega arith)
        (stmts_fills (record c { ways = with_exit exit c.ways }) slots taken (record { alike = near.alike; low = near.low }) (with_exit (Some 0) w) body full
        (while_body s w place body (Some 0) (λ is. refl) e h) timely))
        c.visible e (some_stack n c.visible e (in_left A B)) value))
    stmt_fills c slots taken near w (Loop place (For parameter reversed r) body) full h timely =
        let s = c.visible.scope in
        let legal = loop_range s w place parameter reversed r body h in
        let F = framed (taken + 2) in
        let A = value_needs c.visible r.first in
        let B = needs_above 1 c.visible r.last in
        let more = slots ++ Some (record { region = regions.Locals; offset = taken }) ∷ [] in
        let inner : Option ℕ → Site = λ exit. in_turn (record c { ways = with_exit exit c.ways }) parameter r in
        let C = stmts_needs (point (in_turn c parameter r) more (taken + 2)) body in
        let head = both F (both A B) in
        let n = both head C in
        let x = stmts_bound (loop_scope s parameter r) body in
        let f : List (List ℕ) → List (List ℕ) = λ l. stmts_labels l body in
        let g : ℕ → ℕ = λ k. stmts_rows k body in
        let t = turns_at c.taken reversed in
        let y = 20 * expr_size r.first + (20 * expr_size r.last + 2) in
        let one_in : Within A n = of_left A head C (of_right A F (both A B) (in_left A B)) in
        let two_in : Within B n = of_left B head C (of_right B F (both A B) (in_right A B)) in
        let frame_in : Within F n = of_left F head C (in_left F (both A B)) in
        let high : 2 ≤ n.stack = (let some = peak_some s r.last in let up = two_in.stack in omega (arith, some, up)) in
        let wide : c.taken + 2 ≤ n.frame = (let low = near.low in let up = frame_in.frame in omega (arith, low, up)) in
        let full_in = whole_loop c.exceptions c.visible full.sound full.entries full.has (narrow c.taken) parameter r legal in
        longer n ((0 + (y + (x + 13))) + 2) (stmt_bound s (Loop place (For parameter reversed r) body)) f g (stmt_code c (Loop place (For parameter reversed r) body))
        (omega arith)
        (way_fills n (0 + (y + (x + 13))) f g (any_leave body way.Exit)
        (λ exit. forms.counted_code (record c { ways = with_exit exit c.ways }) reversed r (stmts_code (inner exit) body))
        (λ exit.
        let ranged = ranged_code (is_full s r) t (turns_code t (stmts_code (inner exit) body)) in
        fills_both n 0 (y + (x + 13)) (λ l. l) f (λ k. k) g (takes (c.taken + 2)) (coded (bounds_code c.visible r t) ▹ ranged) (fills_takes n (c.taken + 2) wide)
        (fills_both n y (x + 13) (λ l. l) f (λ k. k) g (coded (bounds_code c.visible r t)) ranged
        (bounds_fills n c r t full (integer_legal s full.sound r.first (first_legal s parameter r legal))
        (integer_legal s full.sound r.last (last_legal s parameter r legal)) one_in two_in high)
        (ranged_fills n x f g (stmts_code (inner exit) body)
        (fills_more C n x x f g (stmts_code (inner exit) body) (in_right head C) (omega arith)
        (stmts_fills (inner exit) more (taken + 2)
        (record {
          alike = alike_more c.visible.slots slots (Some (record { region = regions.Locals; offset = narrow c.taken }))
              (Some (record { region = regions.Locals; offset = taken })) near.alike refl;
          low = (let low = near.low in omega (arith, low));
        })
        (with_exit (Some 0) w) body full_in (loop_body s w place parameter reversed r body h (Some 0) (λ is. refl)) timely))
        high (is_full s r) t))))
    stmt_fills c slots taken near w (Block place ds body all) full h timely =
        let s = c.visible.scope in
        let legal = block_declarations s w place ds body all h in
        let allowed = block_restricted s w place ds body all h in
        let na = near_locals c slots taken ds near full legal allowed in
        let later = after_locals c ds in
        let t = later.visible.scope in
        let more = taken + locals_words s ds in
        longer (stmt_needs (point c slots taken) (Block place ds body all)) (declarations_bound s ds + (stmts_bound (locals_scope s ds) body
        + suc (handlers_bound (locals_scope s ds) all))) (stmt_bound s (Block place ds body all)) (λ l. handlers_labels (stmts_labels l body) all)
        (λ k. handlers_rows (stmts_rows k body) all) (stmt_code c (Block place ds body all)) (omega arith)
        (declared_fills c slots taken ds body all na (λ x y. x + suc y) (sequence_code all (stmts_code later body) (λ q. handlers_code later q [] all))
        (locals_fills c slots taken ds near full legal allowed)
        (sequence_at later (point later na.later more) body all (stmts_bound t body) (handlers_bound t all)
        (stmts_fills later na.later more na.near w body na.full (subst (λ z. AreAcceptedStatements z w body) (sym na.scope) (block_body s w place ds body all h))
        (subst (λ z. stmts_timely z body) (sym na.seen) timely.0))
        (λ q. handlers_fills later na.later more na.near w q [] all na.full
        (subst (λ z. AreAcceptedHandlers z w all) (sym na.scope) (block_handlers s w place ds body all h))
        (subst (λ z. handlers_timely z all) (sym na.seen) timely.1))))
    stmt_fills c slots taken near w (Delay place e) full h timely = absurd (let never = h.restricted in cc)
    stmt_fills c slots taken near w (Abort place name) full h timely = absurd (let never = h.restricted in cc)
    stmt_fills c slots taken near w (Requeue place first second) full h timely = absurd (let never = h.restricted in cc)
    stmt_fills c slots taken near w (Accept place name) full h timely = absurd (let never = h.restricted in cc)
    stmt_fills c slots taken near w (Select place) full h timely = absurd (let never = h.restricted in cc)

    pub stmts_fills : (c : Site) (slots : List (Option Slot)) (taken : ℕ) → IsNear c slots taken → (w : Ways) (body : StmtTrees) → IsFull c
        → AreAcceptedStatements c.visible.scope w body → stmts_timely c.visible.scope body
        → Fills (stmts_needs (point c slots taken) body) (stmts_bound c.visible.scope body) (λ l. stmts_labels l body) (λ k. stmts_rows k body) (stmts_code c body)
    stmts_fills c slots taken near w NoStmts full h timely =
        longer needs.nothing 0 (20 * 0 + 2 * 0) (λ l. l) (λ k. k) (coded nothing) (omega arith) (fills_none needs.nothing)
    stmts_fills c slots taken near w (MoreStmts z rest) full h timely =
        let s = c.visible.scope in
        let A = stmt_needs (point c slots taken) z in
        let B = stmts_needs (point c slots taken) rest in
        let n = both A B in
        let x = stmt_bound s z in
        let y = stmts_bound s rest in
        let f : List (List ℕ) → List (List ℕ) = λ l. stmt_labels l z in
        let p : List (List ℕ) → List (List ℕ) = λ l. stmts_labels l rest in
        let g : ℕ → ℕ = λ k. stmt_rows k z in
        let q : ℕ → ℕ = λ k. stmts_rows k rest in
        longer n (x + y) (stmts_bound s (MoreStmts z rest)) (λ l. p (f l)) (λ k. q (g k)) (stmts_code c (MoreStmts z rest)) (omega arith)
        (fills_both n x y f p g q (marked (stmt_place z) (stmt_code c z)) (stmts_code c rest)
        (fills_marked n x f g (stmt_place z) (stmt_code c z)
        (fills_more A n x x f g (stmt_code c z) (in_left A B) (omega arith) (stmt_fills c slots taken near w z full (first_statement s w z rest h) timely.0)))
        (fills_more B n y y p q (stmts_code c rest) (in_right A B) (omega arith)
        (stmts_fills c slots taken near w rest full (more_statements s w z rest h) timely.1)))

    elsifs_fills : (n : Needs) (c : Site) (slots : List (Option Slot)) (taken : ℕ) → IsNear c slots taken → (w : Ways) (parts : ElsifTrees) → IsFull c
        → AreAcceptedElsifs c.visible.scope w parts → elsifs_timely c.visible.scope parts → Within (elsifs_needs (point c slots taken) parts) n
        → (z : ℕ) (p : List (List ℕ) → List (List ℕ)) (q : ℕ → ℕ) (last : CodePart) → Fills n z p q last
        → Fills n (elsifs_bound c.visible.scope parts + z) (λ l. p (elsifs_labels l parts)) (λ k. q (elsifs_rows k parts)) (elsifs_code c parts last)
    elsifs_fills n c slots taken near w NoElsifs full h timely within z p q last j = longer n z ((20 * 0 + 2 * 0) + z) p q last (omega arith) j
    elsifs_fills n c slots taken near w (MoreElsifs e body rest) full h timely within z p q last j =
        let s = c.visible.scope in
        let a = point c slots taken in
        let A = value_needs c.visible e in
        let B = stmts_needs a body in
        let C = elsifs_needs a rest in
        let in_a = within_then A (both A (both B C)) n (in_left A (both B C)) within in
        let in_b = within_then B (both A (both B C)) n (of_right B A (both B C) (in_left B C)) within in
        let in_c = within_then C (both A (both B C)) n (of_right C A (both B C) (in_right B C)) within in
        let x = stmts_bound s body in
        let y = elsifs_bound s rest + z in
        let f : List (List ℕ) → List (List ℕ) = λ l. stmts_labels l body in
        let g : ℕ → ℕ = λ k. stmts_rows k body in
        let p2 : List (List ℕ) → List (List ℕ) = λ l. p (elsifs_labels l rest) in
        let q2 : ℕ → ℕ = λ k. q (elsifs_rows k rest) in
        longer n (20 * expr_size e + (suc x + suc y)) (elsifs_bound s (MoreElsifs e body rest) + z) (λ l. p2 (f l)) (λ k. q2 (g k))
        (fork_code c.visible e (stmts_code c body) (elsifs_code c rest last)) (omega arith)
        (fork_fills n x y f p2 g q2 c.visible e (some_stack n c.visible e in_a)
        (value_fills n c e full (condition_legal s e (elsif_condition s w e body rest h)) in_a) (stmts_code c body) (elsifs_code c rest last)
        (fills_more B n x x f g (stmts_code c body) in_b (omega arith) (stmts_fills c slots taken near w body full (elsif_body s w e body rest h) timely.0))
        (elsifs_fills n c slots taken near w rest full (more_elsifs s w e body rest h) timely.1 in_c z p q last j))

    alternatives_fills : (n : Needs) (c : Site) (slots : List (Option Slot)) (taken : ℕ) → IsNear c slots taken → (w : Ways) (e : ExprTree) (all : AlternativeTrees)
        → IsFull c → AreAcceptedAlternatives c.visible.scope w e all → alternatives_timely c.visible.scope all
        → Within (alternatives_needs (point c slots taken) all) n → 1 ≤ n.stack
        → Fills n (alternatives_bound c.visible.scope all + 1) (λ l. alternatives_labels l all) (λ k. alternatives_rows k all) (alternatives_code c all)
    alternatives_fills n c slots taken near w e NoAlternatives full h timely within high =
        longer n 1 ((20 * 0 + 2 * 0) + 1) (λ l. l) (λ k. k) (coded (one 1 op.Drop)) (omega arith) (fills_one n 1 op.Drop high refl)
    alternatives_fills n c slots taken near w e (MoreAlternatives place (Values cs) body rest) full h timely within high =
        let s = c.visible.scope in
        let a = point c slots taken in
        let A = stacked 3 in
        let B = stmts_needs a body in
        let C = alternatives_needs a rest in
        let in_a = within_then A (both A (both B C)) n (in_left A (both B C)) within in
        let in_b = within_then B (both A (both B C)) n (of_right B A (both B C) (in_left B C)) within in
        let in_c = within_then C (both A (both B C)) n (of_right C A (both B C) (in_right B C)) within in
        let x = stmts_bound s body in
        let y = alternatives_bound s rest + 1 in
        let many = all_count cs in
        let f : List (List ℕ) → List (List ℕ) = λ l. stmts_labels l body in
        let g : ℕ → ℕ = λ k. stmts_rows k body in
        let p : List (List ℕ) → List (List ℕ) = λ l. alternatives_labels l rest in
        let q : ℕ → ℕ = λ k. alternatives_rows k rest in
        longer n (4 * length cs + (suc (1 + x) + suc y)) (alternatives_bound s (MoreAlternatives place (Values cs) body rest) + 1) (λ l. p (f l)) (λ k. q (g k))
        (alternatives_code c (MoreAlternatives place (Values cs) body rest)) (omega (arith, many))
        (values_fills n x y f p g q (stmts_code c body) (alternatives_code c rest) high
        (fills_more B n x x f g (stmts_code c body) in_b (omega arith)
        (stmts_fills c slots taken near w body full (alternative_body s w e place (Values cs) body rest h) timely.0))
        (alternatives_fills n c slots taken near w e rest full (more_alternatives s w e place (Values cs) body rest h) timely.1 in_c high) in_a.stack s cs)
    alternatives_fills n c slots taken near w e (MoreAlternatives place (OtherValues at) body rest) full h timely within high =
        let s = c.visible.scope in
        let a = point c slots taken in
        let A = stacked 1 in
        let B = stmts_needs a body in
        let C = alternatives_needs a rest in
        let in_b = within_then B (both A (both B C)) n (of_right B A (both B C) (in_left B C)) within in
        let in_c = within_then C (both A (both B C)) n (of_right C A (both B C) (in_right B C)) within in
        let x = stmts_bound s body in
        let y = alternatives_bound s rest + 1 in
        let f : List (List ℕ) → List (List ℕ) = λ l. stmts_labels l body in
        let g : ℕ → ℕ = λ k. stmts_rows k body in
        let p : List (List ℕ) → List (List ℕ) = λ l. alternatives_labels l rest in
        let q : ℕ → ℕ = λ k. alternatives_rows k rest in
        longer n ((1 + x) + suc y) (alternatives_bound s (MoreAlternatives place (OtherValues at) body rest) + 1) (λ l. p (f l)) (λ k. q (g k))
        (alternatives_code c (MoreAlternatives place (OtherValues at) body rest)) (omega arith)
        (others_fills n x y f p g q (stmts_code c body) (alternatives_code c rest) high
        (fills_more B n x x f g (stmts_code c body) in_b (omega arith)
        (stmts_fills c slots taken near w body full (alternative_body s w e place (OtherValues at) body rest h) timely.0))
        (alternatives_fills n c slots taken near w e rest full (more_alternatives s w e place (OtherValues at) body rest h) timely.1 in_c high) s at)

    pub handlers_fills : (c : Site) (slots : List (Option Slot)) (taken : ℕ) → IsNear c slots taken → (w : Ways) (q : Row) (own : List Row) (all : HandlerTrees)
        → IsFull c → AreAcceptedHandlers c.visible.scope w all → handlers_timely c.visible.scope all
        → Fills (handlers_needs (point c slots taken) all) (handlers_bound c.visible.scope all) (λ l. handlers_labels l all)
        (λ k. handlers_rows (k + length own) all) (handlers_code c q own all)
    handlers_fills c slots taken near w q own NoHandlers full h timely =
        longer needs.nothing 0 (20 * 0 + 2 * 0) (λ l. l) (λ k. k + length own) (handles own) (omega arith) (fills_handles needs.nothing own)
    handlers_fills c slots taken near w q own (MoreHandlers choices body rest) full h timely =
        let s = c.visible.scope in
        let a = point c slots taken in
        let A = handler_needs a in
        let B = stmts_needs (inside_handler a) body in
        let C = handlers_needs a rest in
        let n = both A (both B C) in
        let x = stmts_bound s body in
        let y = handlers_bound s rest in
        let f : List (List ℕ) → List (List ℕ) = λ l. stmts_labels l body in
        let g : ℕ → ℕ = λ k. stmts_rows k body in
        let p : List (List ℕ) → List (List ℕ) = λ l. handlers_labels l rest in
        let many = length own + length choices in
        let r : ℕ → ℕ = λ k. handlers_rows (k + many) rest in
        let rest_code : ℕ → CodePart = λ target. handlers_code c q (own ++ choice_rows c.exceptions (leads_to q target) choices) rest in
        let wide : c.taken + 1 ≤ n.frame = (let low = near.low in let up = (in_left A (both B C)).frame in omega (arith, low, up)) in
        fills_as n (handlers_bound s (MoreHandlers choices body rest)) (λ l. p (f l)) (λ l. p (f l)) (λ k. r (g k))
        (λ k. handlers_rows (k + length own) (MoreHandlers choices body rest)) (handlers_code c q own (MoreHandlers choices body rest)) (λ l. refl)
        (λ k. ap (λ m. handlers_rows m rest) (rows_moved body k (length own) (length choices)))
        (longer n (1 + (x + suc y)) (handlers_bound s (MoreHandlers choices body rest)) (λ l. p (f l)) (λ k. r (g k))
        (handlers_code c q own (MoreHandlers choices body rest)) (omega arith)
        (handler_fills n x y f p g r c.taken (stmts_code (in_handler c) body) rest_code (in_left A (both B C)).stack wide
        (fills_more B n x x f g (stmts_code (in_handler c) body) (of_right B A (both B C) (in_left B C)) (omega arith)
        (stmts_fills (in_handler c) slots (taken + 1) (record { alike = near.alike; low = (let low = near.low in omega (arith, low)) }) (within_handler 0 w) body full
        (handler_body s w choices body rest h 0) timely.0))
        (λ target.
        let o = own ++ choice_rows c.exceptions (leads_to q target) choices in
        let long : length o ≡ many = length-append own (choice_rows c.exceptions (leads_to q target) choices)
        ∙ ap (λ m. length own + m) (choices_long c.exceptions (leads_to q target) choices) in
        fills_more C n y y p r (rest_code target) (of_right C A (both B C) (in_right B C)) (omega arith)
        (subst (λ m. Fills C y p (λ k. handlers_rows (k + m) rest) (rest_code target)) long
        (handlers_fills c slots taken near w q o rest full (more_handlers s w choices body rest h) timely.1)))))

  -- ---- bodies

  -- all ways out are there, whichever the code has
  abbrev all_ways : Ways
  all_ways = record { exit = Some 0; return = Some 0; handled = Some 0 }

  pub run_fills : (c : Site) (b : BodyTree) → IsFull c → IsAcceptedRun c.visible.scope b.declarations b.statements b.handlers
      → stmts_timely (locals_seen c.visible.scope b.declarations) b.statements → handlers_timely (locals_seen c.visible.scope b.declarations) b.handlers
      → Fills (run_needs c.visible c.taken b.declarations b.statements b.handlers) (run_bound c.visible.scope b.declarations b.statements b.handlers)
      (λ l. handlers_labels (stmts_labels l b.statements) b.handlers) (λ k. handlers_rows (stmts_rows k b.statements) b.handlers) (run_code c b)
  run_fills c b full h timely later_timely =
      let s = c.visible.scope in
      let ds = b.declarations in
      let body = b.statements in
      let all = b.handlers in
      let slots = c.visible.slots in
      let near : IsNear c slots c.taken = record { alike = alike_itself slots; low = omega arith } in
      let two = front_empty (restrictions.locals_faults ds ++ restrictions.stmts_faults body) (restrictions.handlers_faults all) h.restricted in
      let allowed = front_empty (restrictions.locals_faults ds) (restrictions.stmts_faults body) two in
      let na = near_locals c slots c.taken ds near full h.declared allowed in
      let later = after_locals c ds in
      let t = later.visible.scope in
      let more = c.taken + locals_words s ds in
      let statements : AreAcceptedStatements (locals_scope s ds) all_ways body = record {
        around = rules.in_body h.kind;
        ways = record { exit = λ a e. refl; return = λ e. refl; handled = λ e. refl; gives_nothing = h.gives_nothing };
        unbroken = h.statements;
        restricted = back_empty (restrictions.locals_faults ds) (restrictions.stmts_faults body) two;
      } in
      let handled : AreAcceptedHandlers (locals_scope s ds) all_ways all = record {
        around = rules.in_body h.kind;
        ways = record { exit = λ a e. refl; return = λ e. refl; handled = λ e. refl; gives_nothing = h.gives_nothing };
        before = [];
        unbroken = h.handled;
        restricted = back_empty (restrictions.locals_faults ds ++ restrictions.stmts_faults body) (restrictions.handlers_faults all) h.restricted;
      } in
      let inner : Option ℕ → Site = λ end. forms.in_body later end in
      let f : List (List ℕ) → List (List ℕ) = λ l. handlers_labels (stmts_labels l body) all in
      let g : ℕ → ℕ = λ k. handlers_rows (stmts_rows k body) all in
      let n = run_needs c.visible c.taken ds body all in
      let S = sequence_needs (point later na.later more) body all in
      longer n (declarations_bound s ds + (stmts_bound (locals_scope s ds) body + suc (handlers_bound (locals_scope s ds) all) + 2)) (run_bound s ds body all) f g
      (run_code c b) (omega arith)
      (declared_fills c slots c.taken ds body all na (λ x y. x + suc y + 2) _ (locals_fills c slots c.taken ds near full h.declared allowed)
      (way_fills S (stmts_bound t body + suc (handlers_bound t all)) f g (any_leave body way.Return || handlers_leave all way.Return)
      (λ end. sequence_code all (stmts_code (inner end) body) (λ q. handlers_code (inner end) q [] all))
      (λ end.
      sequence_at (inner end) (point later na.later more) body all (stmts_bound t body) (handlers_bound t all)
      (stmts_fills (inner end) na.later more (record { alike = na.near.alike; low = na.near.low }) all_ways body na.full
      (subst (λ z. AreAcceptedStatements z all_ways body) (sym na.scope) statements) (subst (λ z. stmts_timely z body) (sym na.seen) timely))
      (λ q. handlers_fills (inner end) na.later more (record { alike = na.near.alike; low = na.near.low }) all_ways q [] all na.full
      (subst (λ z. AreAcceptedHandlers z all_ways all) (sym na.scope) handled) (subst (λ z. handlers_timely z all) (sym na.seen) later_timely)))))
