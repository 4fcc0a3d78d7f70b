-- What the code of statements does where it stands in an image, and that it keeps the rules of images there: one induction over the trees (RM 5, 11.2).
use Rattle.std.proofs.Common.{◌≡◌, ℕ, List, [], ◌∷◌, ◌++◌, true, Option, None, Some, refl, sym, subst}
use Rattle.std.specs.Prelude.{is_some, not}
use Rattle.base.specs.declared.faults.TheConstants.{MISPLACED_STATEMENT}
use Rattle.ada_tree.specs.ExpressionTree.{ExprTree}
use Rattle.ada_tree.specs.StatementTree.{Abort, Accept, AlternativeTrees, Assignment, Block, Call, Case, DeclarationTree, Delay, DelayUntil, ElsifTrees, Exit, For, Forever, HandlerTrees, If, LocalObject, LocalProtected, LocalTask, Loop, MoreAlternatives, MoreElsifs, MoreHandlers, MoreStmts, NoAlternatives, NoElsifs, NoHandlers, NoStmts, Null, OtherValues, Raise, Requeue, Return, Select, StmtTree, StmtTrees, Values, While}
use Rattle.handlers.specs.declared.rows.Row.{Row}
use Rattle.types.specs.declared.entity.Value.{Value as Scalar}
use Rattle.types.specs.Statics.{StaticIsValue, static_fault}
use Rattle.declaration_rules.specs.LocalRules.{local_faults, local_scope, locals_faults, locals_scope}
use Rattle.part_code.specs.step_soundness.specs.body_restrictions.specs.BodyRules as restrictions
use Rattle.part_code.specs.stmt_rules.specs.CaseRules.{choice_faults, choices_wanted, selecting_faults}
use Rattle.part_code.specs.stmt_rules.specs.SimpleRules.{condition_faults, exit_rule, is_function, optional_condition_faults, result_wanted}
use Rattle.part_code.specs.stmt_rules.specs.declared.around.BodyKind.{BodyKind}
use Rattle.part_code.specs.stmt_rules.specs.declared.around.BodyKind.TheVariants as kinds
use Rattle.expr_soundness.specs.expr_rules.specs.ExpressionRules.{faults_of}
use Rattle.expr_soundness.specs.expr_rules.specs.Faults.{rule}
use Rattle.expr_soundness.specs.expr_rules.specs.Typing.{boolean_wanted, own_of}
use Rattle.expr_soundness.specs.expr_rules.proofs.TypedLaw.{back_empty, front_empty, unbroken}
use Rattle.expr_soundness.proofs.Expressions.{not_false}
use Rattle.expr_code.specs.ExpressionCode.{expr_code}
use Rattle.expr_code.specs.Pieces.{narrow}
use Rattle.expr_code.proofs.ExpressionWorks.{Works}
use Rattle.expr_code.proofs.Widths.{condition_width}
use Rattle.part_code.proofs.Selecting.{selecting_width}
use Rattle.stmt_code.specs.Alternatives.{AreAcceptedAlternatives}
use Rattle.stmt_code.specs.Drafting.{CodePart}
use Rattle.stmt_code.specs.Emitting.{AreAcceptedElsifs, AreAcceptedHandlers, AreAcceptedStatements, IsAcceptedStatement, IsLegalStatement}
use Rattle.stmt_code.specs.Placing.{OfStatement, alternatives_within, elsifs_within, stmt_within, stmts_within}
use Rattle.stmt_code.specs.StatementCode.{Site, after_local, after_locals, alternatives_code, elsifs_code, handlers_code, in_handler, in_turn, local_code, locals_code, stmt_code, stmts_code}
use Rattle.stmt_code.proofs.AcceptedParts.{alternative_body, alternative_choices, elsif_body, elsif_condition, first_statement, handler_body, handler_choices, more_alternatives, more_elsifs, more_handlers, more_statements}
use Rattle.stmt_code.proofs.Accepting.{all_numbered, raised_there}
use Rattle.stmt_code.proofs.Adding.{block_body, block_declarations, block_handlers, block_restricted, exit_condition, wanted_legal}
use Rattle.stmt_code.proofs.Alternatives.{case_alternatives, case_selecting, selecting_legal}
use Rattle.stmt_code.proofs.Bounded.{first_legal, integer_legal, integer_width, last_legal, loop_body, loop_range, range_type}
use Rattle.stmt_code.proofs.AssignmentsDo.{does_assignment}
use Rattle.stmt_code.proofs.BranchesDo.{AreBody, AreOtherwise, IsOne, does_elsif, does_if, one_word_works}
use Rattle.stmt_code.proofs.CallsDo.{does_call}
use Rattle.stmt_code.proofs.CasesDo.{AreAlternativesAt, does_case, label_is, none_left, others_choose, others_do, values_choose, values_do}
use Rattle.stmt_code.proofs.CoveredScopes.{IsFull, full_local, whole_loop}
use Rattle.stmt_code.proofs.DeclarationsDo.{DoDeclare, does_block, local_ways, more_declare, none_declare}
use Rattle.stmt_code.proofs.Delaying.{until_legal, until_wide}
use Rattle.stmt_code.proofs.HandlersDo.{DoHandle, does_sequence, more_handle, none_handle}
use Rattle.stmt_code.proofs.LoopsDo.{does_forever, does_while_loop, in_loop}
use Rattle.stmt_code.proofs.ObjectsDo.{object_does}
use Rattle.stmt_code.proofs.Opening.{if_body, if_condition, if_elsifs, if_others}
use Rattle.stmt_code.proofs.PartsDo.{Does, DoesFrom, StatementLaws, does_marked, does_nothing, does_then}
use Rattle.stmt_code.proofs.RangesDo.{does_for}
use Rattle.stmt_code.proofs.Repeating.{forever_body, while_body, while_condition}
use Rattle.stmt_code.proofs.SimpleDo.{does_delay, does_exit, does_exit_when, does_null, does_raise, does_return}
use Rattle.stmt_code.proofs.StaticChoices.{choice_static}

module _ (laws : StatementLaws) (statics : StaticIsValue) where
  -- ---- conditions

  condition_works : (c : Site) (e : ExprTree) → IsFull c → condition_faults c.visible.scope e ≡ [] → Works c.visible 0 1 e (expr_code c.visible 0 e)
  condition_works c e full h =
      one_word_works laws.expressions c.visible full.sound full.has.expressions 0 e (condition_width c.visible.scope full.sound e h)
      (wanted_legal c.visible.scope boolean_wanted e h)

  -- ---- ways out

  exit_there : (c : Site) (place : ℕ) (e : Option ExprTree) → IsAcceptedStatement c.visible.scope c.ways (Exit place e) → is_some c.ways.exit ≡ true
  exit_there c place e h =
      h.ways.exit
      (not_false h.around.in_loop
      (unbroken MISPLACED_STATEMENT place (not h.around.in_loop)
      (front_empty (exit_rule h.around place) (optional_condition_faults c.visible.scope e) h.unbroken)))
      refl

  -- only functions return values
  no_value : (c : Site) (place : ℕ) (e : ExprTree) → IsAcceptedStatement c.visible.scope c.ways (Return place (Some e)) → ⊥
  no_value c place e h =
      by_kind h.around.kind refl
      (not_false (is_function h.around.kind)
      (unbroken MISPLACED_STATEMENT place (not (is_function h.around.kind))
      (front_empty (rule MISPLACED_STATEMENT place (not (is_function h.around.kind))) (faults_of c.visible.scope (result_wanted h.around.kind) e) h.unbroken)))
    where
      by_kind : (k : BodyKind) → h.around.kind ≡ k → is_function k ≡ true → ⊥
      by_kind (kinds.Function t) is f = h.ways.gives_nothing t is
      by_kind k is f = cc

  -- ---- declarations

  pub locals_do : (c : Site) (ds : List DeclarationTree) → IsFull c → locals_faults c.visible.scope ds ≡ [] → restrictions.locals_faults ds ≡ []
      → DoDeclare c ds (locals_code c ds)
  locals_do c [] full legal allowed = none_declare c
  locals_do c (LocalObject d ∷ ds) full legal allowed =
      let own = front_empty (local_faults c.visible.scope (LocalObject d)) (locals_faults (local_scope c.visible.scope (LocalObject d)) ds) legal in
      more_declare c (LocalObject d) ds (local_code c (LocalObject d)) (locals_code (after_local c (LocalObject d)) ds) refl (object_does laws c d full own)
      (locals_do (after_local c (LocalObject d)) ds (full_local c d full own)
      (back_empty (local_faults c.visible.scope (LocalObject d)) (locals_faults (local_scope c.visible.scope (LocalObject d)) ds) legal)
      (back_empty (restrictions.local_faults (LocalObject d)) (restrictions.locals_faults ds) allowed))
  locals_do c (LocalTask d ∷ ds) full legal allowed = absurd (let no = front_empty (restrictions.local_faults (LocalTask d)) (restrictions.locals_faults ds) allowed in cc)
  locals_do c (LocalProtected d ∷ ds) full legal allowed =
      absurd (let no = front_empty (restrictions.local_faults (LocalProtected d)) (restrictions.locals_faults ds) allowed in cc)

  pub full_locals : (c : Site) (ds : List DeclarationTree) → IsFull c → locals_faults c.visible.scope ds ≡ [] → restrictions.locals_faults ds ≡ []
      → IsFull (after_locals c ds)
  full_locals c [] full legal allowed = full
  full_locals c (LocalObject d ∷ ds) full legal allowed =
      let own = front_empty (local_faults c.visible.scope (LocalObject d)) (locals_faults (local_scope c.visible.scope (LocalObject d)) ds) legal in
      full_locals (after_local c (LocalObject d)) ds (full_local c d full own)
      (back_empty (local_faults c.visible.scope (LocalObject d)) (locals_faults (local_scope c.visible.scope (LocalObject d)) ds) legal)
      (back_empty (restrictions.local_faults (LocalObject d)) (restrictions.locals_faults ds) allowed)
  full_locals c (LocalTask d ∷ ds) full legal allowed = absurd (let no = front_empty (restrictions.local_faults (LocalTask d)) (restrictions.locals_faults ds) allowed in cc)
  full_locals c (LocalProtected d ∷ ds) full legal allowed =
      absurd (let no = front_empty (restrictions.local_faults (LocalProtected d)) (restrictions.locals_faults ds) allowed in cc)

  -- the scope there is that of the rules
  pub scope_locals : (c : Site) (ds : List DeclarationTree) → restrictions.locals_faults ds ≡ [] → (after_locals c ds).visible.scope ≡ locals_scope c.visible.scope ds
  scope_locals c [] allowed = refl
  scope_locals c (LocalObject d ∷ ds) allowed =
      scope_locals (after_local c (LocalObject d)) ds (back_empty (restrictions.local_faults (LocalObject d)) (restrictions.locals_faults ds) allowed)
  scope_locals c (LocalTask d ∷ ds) allowed = absurd (let no = front_empty (restrictions.local_faults (LocalTask d)) (restrictions.locals_faults ds) allowed in cc)
  scope_locals c (LocalProtected d ∷ ds) allowed =
      absurd (let no = front_empty (restrictions.local_faults (LocalProtected d)) (restrictions.locals_faults ds) allowed in cc)

  accepted_body : (c : Site) (ds : List DeclarationTree) (body : StmtTrees) → restrictions.locals_faults ds ≡ []
      → AreAcceptedStatements (locals_scope c.visible.scope ds) c.ways body
      → AreAcceptedStatements (after_locals c ds).visible.scope (after_locals c ds).ways body
  accepted_body c ds body allowed h =
      subst (λ z. AreAcceptedStatements z (after_locals c ds).ways body) (sym (scope_locals c ds allowed))
      (subst (λ w. AreAcceptedStatements (locals_scope c.visible.scope ds) w body) (sym (local_ways c ds)) h)

  accepted_handlers : (c : Site) (ds : List DeclarationTree) (all : HandlerTrees) → restrictions.locals_faults ds ≡ []
      → AreAcceptedHandlers (locals_scope c.visible.scope ds) c.ways all
      → AreAcceptedHandlers (after_locals c ds).visible.scope (after_locals c ds).ways all
  accepted_handlers c ds all allowed h =
      subst (λ z. AreAcceptedHandlers z (after_locals c ds).ways all) (sym (scope_locals c ds allowed))
      (subst (λ w. AreAcceptedHandlers (locals_scope c.visible.scope ds) w all) (sym (local_ways c ds)) h)

  static_choices : (c : Site) (e : ExprTree) → IsFull c → (x : ExprTree) (before : List Scalar)
      → choice_faults c.visible.scope (choices_wanted c.visible.scope (own_of c.visible.scope e)) before x ≡ []
      → static_fault c.visible.scope x ≡ None
  static_choices c e full x before h = choice_static c.visible.scope full.sound (choices_wanted c.visible.scope (own_of c.visible.scope e)) x before h

  -- ---- the induction

  mutual
    pub stmt_does : (c : Site) (x : StmtTree) → IsFull c → IsAcceptedStatement c.visible.scope c.ways x → Does (IsOne c x) c (stmt_within x) (stmt_code c x)
    stmt_does c (Null place) full h = does_null c place
    stmt_does c (Assignment name e) full h = does_assignment laws c name e full (record { around = h.around; unbroken = h.unbroken })
    stmt_does c (Call name) full h = does_call laws c name full (record { around = h.around; unbroken = h.unbroken })
    stmt_does c (Exit place None) full h = does_exit c place (exit_there c place None h)
    stmt_does c (Exit place (Some e)) full h =
        does_exit_when c place e (condition_works c e full (exit_condition c.visible.scope c.ways place (Some e) e refl h)) (exit_there c place (Some e) h)
    stmt_does c (Return place None) full h = does_return c place (h.ways.return refl)
    stmt_does c (Return place (Some e)) full h = absurd (no_value c place e h)
    stmt_does c (Raise place name) full h = does_raise c place name (raised_there c.exceptions c.visible full.sound full.has c.ways place name h)
    stmt_does c (DelayUntil place e) full h =
        let legal : IsLegalStatement c.visible.scope (DelayUntil place e) = record { around = h.around; unbroken = h.unbroken } in
        does_delay laws.bounded laws.visible c place e (until_legal c.visible.scope place e legal)
        (one_word_works laws.expressions c.visible full.sound full.has.expressions 0 e (until_wide c.visible.scope place e legal) (until_legal c.visible.scope place e legal))
    stmt_does c (If place e body parts others) full h =
        does_if c place e body parts others
        (condition_works c e full (if_condition c.visible.scope c.ways (If place e body parts others) place e body parts others refl h))
        (stmts_do c body full (if_body c.visible.scope c.ways (If place e body parts others) place e body parts others refl h))
        (elsifs_do c parts others (stmts_code c others) full (if_elsifs c.visible.scope c.ways (If place e body parts others) place e body parts others refl h)
        (stmts_do c others full (if_others c.visible.scope c.ways (If place e body parts others) place e body parts others refl h)))
    stmt_does c (Case place e all) full h =
        let selecting = case_selecting c.visible.scope c.ways place e all h in
        does_case c place e all (alternatives_code c all)
        (one_word_works laws.expressions c.visible full.sound full.has.expressions 0 e (selecting_width c.visible.scope e selecting)
        (selecting_legal c.visible.scope e selecting))
        (alternatives_do c e all full selecting (case_alternatives c.visible.scope c.ways place e all h))
    stmt_does c (Loop place Forever body) full h =
        does_forever c place body (λ exit there. stmts_do (in_loop c exit) body full (forever_body c.visible.scope c.ways place body exit there h))
    stmt_does c (Loop place (While e) body) full h =
        does_while_loop c place e body (condition_works c e full (while_condition c.visible.scope c.ways place body e h))
        (λ exit there. stmts_do (in_loop c exit) body full (while_body c.visible.scope c.ways place body exit there e h))
    stmt_does c (Loop place (For parameter reversed range) body) full h =
        let s = c.visible.scope in
        let legal = loop_range s c.ways place parameter reversed range body h in
        does_for laws c place parameter reversed range body full.sound full.entries legal (range_type s parameter range legal full.sound)
        (one_word_works laws.expressions c.visible full.sound full.has.expressions 0 range.first (integer_width s full.sound range.first (first_legal s parameter range legal))
        (integer_legal s full.sound range.first (first_legal s parameter range legal)))
        (one_word_works laws.expressions c.visible full.sound full.has.expressions 1 range.last (integer_width s full.sound range.last (last_legal s parameter range legal))
        (integer_legal s full.sound range.last (last_legal s parameter range legal)))
        (λ exit there.
        stmts_do (in_turn (in_loop c exit) parameter range) body
        (whole_loop c.exceptions c.visible full.sound full.entries full.has (narrow c.taken) parameter range legal)
        (loop_body s c.ways place parameter reversed range body h exit there))
    stmt_does c (Block place ds body all) full h =
        let s = c.visible.scope in
        let legal = block_declarations s c.ways place ds body all h in
        let allowed = block_restricted s c.ways place ds body all h in
        let later = after_locals c ds in
        let inside = full_locals c ds full legal allowed in
        does_block c place ds body all (locals_code c ds) _ (locals_do c ds full legal allowed)
        (does_sequence laws.inside laws.around later body all (stmts_code later body) (λ q. handlers_code later q [] all)
        (stmts_do later body inside (accepted_body c ds body allowed (block_body s c.ways place ds body all h)))
        (λ q. handlers_do later q [] all inside (accepted_handlers c ds all allowed (block_handlers s c.ways place ds body all h))))
    stmt_does c (Delay place e) full h = absurd (let no = h.restricted in cc)
    stmt_does c (Abort place name) full h = absurd (let no = h.restricted in cc)
    stmt_does c (Requeue place first second) full h = absurd (let no = h.restricted in cc)
    stmt_does c (Accept place name) full h = absurd (let no = h.restricted in cc)
    stmt_does c (Select place) full h = absurd (let no = h.restricted in cc)

    pub stmts_do : (c : Site) (body : StmtTrees) → IsFull c → AreAcceptedStatements c.visible.scope c.ways body
        → Does (AreBody c body) c (stmts_within body) (stmts_code c body)
    stmts_do c NoStmts full h = does_nothing (AreBody c NoStmts) c (λ i program g numbers f r at. refl)
    stmts_do c (MoreStmts x rest) full h =
        does_then (IsOne c x) (AreBody c rest) (AreBody c (MoreStmts x rest)) c (stmt_within x ++ OfStatement x ∷ []) (stmts_within rest) _ (stmts_code c rest)
        (λ i program g numbers f r from mid to up over first more. (mid, up, over, first, more))
        (does_marked c x (stmt_code c x) (stmt_does c x full (first_statement c.visible.scope c.ways x rest h)))
        (stmts_do c rest full (more_statements c.visible.scope c.ways x rest h))

    elsifs_do : (c : Site) (parts : ElsifTrees) (others : StmtTrees) (last : CodePart) → IsFull c → AreAcceptedElsifs c.visible.scope c.ways parts
        → Does (AreBody c others) c (stmts_within others) last
        → Does (AreOtherwise c parts others) c (elsifs_within parts ++ stmts_within others) (elsifs_code c parts last)
    elsifs_do c NoElsifs others last full h p = p
    elsifs_do c (MoreElsifs e body rest) others last full h p =
        let s = c.visible.scope in
        does_elsif c e body rest others last (condition_works c e full (elsif_condition s c.ways e body rest h))
        (stmts_do c body full (elsif_body s c.ways e body rest h))
        (elsifs_do c rest others last full (more_elsifs s c.ways e body rest h) p)

    alternatives_do : (c : Site) (e : ExprTree) (all : AlternativeTrees) → IsFull c → selecting_faults c.visible.scope e ≡ []
        → AreAcceptedAlternatives c.visible.scope c.ways e all
        → DoesFrom 1 (AreAlternativesAt c e all) c (alternatives_within all) (alternatives_code c all)
    alternatives_do c e NoAlternatives full selecting h = none_left c e
    alternatives_do c e (MoreAlternatives place (Values cs) body rest) full selecting h =
        let s = c.visible.scope in
        values_do c e place body rest (stmts_code c body) (alternatives_code c rest)
        (stmts_do c body full (alternative_body s c.ways e place (Values cs) body rest h))
        (alternatives_do c e rest full selecting (more_alternatives s c.ways e place (Values cs) body rest h)) cs
        (values_choose laws.calls statics laws.expressions.quiet c.visible e selecting (static_choices c e full) cs (alternative_choices s c.ways e place (Values cs) body rest h))
        (λ i from to few k. label_is laws.calls statics laws.expressions.quiet c.visible e selecting (static_choices c e full) i from to cs few k)
    alternatives_do c e (MoreAlternatives place (OtherValues at) body rest) full selecting h =
        let s = c.visible.scope in
        others_do c e place body rest (stmts_code c body) (alternatives_code c rest)
        (stmts_do c body full (alternative_body s c.ways e place (OtherValues at) body rest h))
        (alternatives_do c e rest full selecting (more_alternatives s c.ways e place (OtherValues at) body rest h)) at
        (others_choose laws.calls statics laws.expressions.quiet c.visible e selecting (static_choices c e full) at)

    pub handlers_do : (c : Site) (q : Row) (own : List Row) (all : HandlerTrees) → IsFull c → AreAcceptedHandlers c.visible.scope c.ways all
        → DoHandle c q own all (handlers_code c q own all)
    handlers_do c q own NoHandlers full h = none_handle c q own
    handlers_do c q own (MoreHandlers choices body rest) full h =
        let s = c.visible.scope in
        more_handle laws.expressions c q own choices body rest (stmts_code (in_handler c) body) (λ o. handlers_code c q o rest)
        (all_numbered c.exceptions c.visible full.sound full.has h.before _ choices (handler_choices s c.ways choices body rest h))
        (stmts_do (in_handler c) body full (handler_body s c.ways choices body rest h (narrow c.taken)))
        (λ o. handlers_do c q o rest full (more_handlers s c.ways choices body rest h))
