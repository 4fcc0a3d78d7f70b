-- Where what is visible has few words, so has all that code of a body needs: nothing is unfit.
use Rattle.std.proofs.Common.{◌≡◌, ℕ, ◌+◌, Bool, true, false, not, ◌||◌, List, [], ◌∷◌, ◌++◌, Option, Some, None, refl, sym, ap, subst}
use Rattle.std.proofs.lemmas.Bool.{or_from}
use Rattle.ada_tree.specs.declared.declaration.Mode.{Mode}
use Rattle.ada_tree.specs.declared.declaration.Mode.TheVariants as mode
use Rattle.ada_tree.specs.ExpressionTree.{Conditional, ElsifValueTrees, MoreElsifValues, NoElsifValues, Parenthesized, ArgumentTree, ArgumentTrees, ExprTree, MoreArguments, Named, NameTree, NoArguments, Text, Value}
use Rattle.ada_tree.specs.StatementTree.{AlternativeTrees, Assignment, Block, Call, Case, ChoicesTree, DeclarationTree, DelayUntil, ElsifTrees, Exit, For, Forever, HandlerTrees, If, IterationTree, LocalObject, LocalProtected, LocalTask, Loop, MoreAlternatives, MoreElsifs, MoreHandlers, MoreStmts, NoAlternatives, NoElsifs, NoHandlers, NoStmts, OtherValues, StmtTree, StmtTrees, Values, While}
use Rattle.types.specs.declared.entity.FormalParameter.{FormalParameter}
use Rattle.types.specs.declared.entity.Subtype.{Subtype}
use Rattle.types.specs.Entities.{Profile, Subprogram}
use Rattle.types.specs.Laws.{ShapesStay}
use Rattle.types.specs.Scopes.{Scope}
use Rattle.types.specs.Shapes.{shape_of}
use Rattle.expr_soundness.specs.type_rules.specs.SubtypeNames.{subtype_of}
use Rattle.program_soundness.specs.declaration_rules.specs.LocalRules.{locals_scope}
use Rattle.program_soundness.specs.step_soundness.specs.Fitting.{entity_named}
use Rattle.program_soundness.specs.step_soundness.specs.body_restrictions.specs.BodyRules as restrictions
use Rattle.expr_soundness.specs.expr_rules.proofs.TypedLaw.{back_empty, front_empty}
use Rattle.size_rules.specs.Laws.{WordsAddUp}
use Rattle.size_rules.specs.BodySizes.{alternatives_things, elsifs_things, handlers_things, local_things, locals_things, stmt_things, stmts_things}
use Rattle.program_soundness.proofs.WiderScopes.{stands_number}
use Rattle.expr_code.specs.Refusing.{is_fit}
use Rattle.expr_code.specs.Seeing.{external_profile, profile_named}
use Rattle.expr_code.specs.declared.visible.Visible.{Visible}
use Rattle.part_code.specs.Bounds.{local_words}
use Rattle.part_code.specs.Lines.{LabelledValue, line_of}
use Rattle.part_code.specs.Moving.{moves}
use Rattle.part_code.specs.Passing.{ExternalName, actuals_behind, operation_behind}
use Rattle.stmt_code.specs.Refusing.{Standpoint, alternatives_needs, behind_locals, elsifs_needs, handlers_needs, head_needs, in_loop, inside_handler, needs_if_any, stmt_needs, stmts_needs}
use Rattle.part_code.specs.EntryNames.{is_own_entry}
use Rattle.part_code.specs.Needs.{Needs, actual_needs, actuals_needs, assignment_needs, bare_needs, behind_needs, both, call_needs, called_needs, choices_needs, copies_needs, destinations_of, has_unfit, in_out_needs, initial_needs, line_needs, local_needs, local_visible, locals_needs, locals_visible, moded_needs, move_needs, moves_needs, needs_by, object_needs, passed_needs, target_needs, through_needs}
use Rattle.part_code.specs.Suiting.{passed_width}
use Rattle.part_code.specs.declared.call.Destination.{Destination}
use Rattle.source_laws.proofs.AddedNames.{named_there}
use Rattle.source_laws.proofs.FitScopes.{AreFew, FewThings, IsFew, IsInside, Serves, all_fit, few_back, few_fit, few_front, local_few, local_inside, locals_inside, loop_inside}

abbrev pub IsFit : Needs → Type 0
IsFit n = n.unfit ≡ false

pub both_fit : (a b : Needs) → IsFit a → IsFit b → IsFit (both a b)
both_fit a b h k = or_from a.unfit b.unfit h k

-- ---- what expressions and declarations need

module _ (v : Visible) (serves : Serves v.scope) where
  pub seen_fit : has_unfit v ≡ false
  seen_fit = all_fit v.scope serves

  -- a value of a subtype of few words
  value_fit : (u : Subtype) → IsFew v.scope u → (has_unfit v || not (is_fit (shape_of v.scope u))) ≡ false
  value_fit u h = or_from (has_unfit v) (not (is_fit (shape_of v.scope u))) seen_fit (ap not (few_fit v.scope u serves h))

  if_any_fit : (o : Option ExprTree) → IsFit (needs_if_any v o)
  if_any_fit None = refl
  if_any_fit (Some e) = seen_fit

  initial_fit : (u : Subtype) (o : Option ExprTree) → IsFew v.scope u → IsFit (initial_needs v u o)
  initial_fit u None h = refl
  initial_fit u (Some e) h = value_fit u h

  object_fit : (taken : ℕ) (o : Option Subtype) (value : Option ExprTree) → ((u : Subtype) → o ≡ Some u → IsFew v.scope u)
      → IsFit (object_needs v taken o value)
  object_fit taken None value h = refl
  object_fit taken (Some u) value h = or_from false (initial_needs v u value).unfit refl (initial_fit u value (h u refl))

  local_fit : (s : Scope) → IsInside s v.scope → (taken : ℕ) (d : DeclarationTree) → FewThings (local_things s d) → IsFit (local_needs v taken d)
  local_fit s inside taken (LocalObject d) h = object_fit taken (subtype_of v.scope d.subtype) d.value (local_few s v.scope inside d h)
  local_fit s inside taken (LocalTask d) h = refl
  local_fit s inside taken (LocalProtected d) h = refl

  -- ---- assignments and calls

  mutual
    move_fit : (e : ExprTree) → IsFit (move_needs v e)
    move_fit (Named first path) = seen_fit
    move_fit (Parenthesized place e) = move_fit e
    move_fit (Conditional place condition value elsifs last) =
        let behind = both (moves_needs v elsifs) (move_needs v last) in
        or_from (has_unfit v) (both (move_needs v value) behind).unfit seen_fit
        (both_fit (move_needs v value) behind (move_fit value) (both_fit (moves_needs v elsifs) (move_needs v last) (moves_fit elsifs) (move_fit last)))
    move_fit e = refl

    moves_fit : (all : ElsifValueTrees) → IsFit (moves_needs v all)
    moves_fit NoElsifValues = refl
    moves_fit (MoreElsifValues condition value rest) =
        or_from (has_unfit v) (both (move_needs v value) (moves_needs v rest)).unfit seen_fit
        (both_fit (move_needs v value) (moves_needs v rest) (move_fit value) (moves_fit rest))

  assignment_fit : (name : NameTree) (e : ExprTree) → IsFit (assignment_needs v name e)
  assignment_fit name e = by_moved (moves v name e)
    where
      by_moved : (b : Bool) → IsFit (needs_by v name e b)
      by_moved false = or_from (has_unfit v) (has_unfit v) seen_fit seen_fit
      by_moved true = or_from (has_unfit v) (move_needs v e).unfit seen_fit (move_fit e)

  target_fit : (depth : ℕ) (e : ExprTree) → IsFit (target_needs depth v e)
  target_fit depth (Named first path) = seen_fit
  target_fit depth e = refl

  in_out_fit : (depth : ℕ) (u : Subtype) (e : ExprTree) → IsFit (in_out_needs depth v u e)
  in_out_fit depth u (Named first path) = or_from (has_unfit v) (has_unfit v) seen_fit seen_fit
  in_out_fit depth u e = refl

  actual_fit : (depth : ℕ) (f : FormalParameter) (a : ArgumentTree) → IsFew v.scope f.subtype → IsFit (actual_needs depth v f a)
  actual_fit depth f (Text label place) h = refl
  actual_fit depth f (Value e) h = by_mode f.mode
    where
      by_mode : (m : Mode) → IsFit (moded_needs depth v (record { mode = m; subtype = f.subtype }) e)
      by_mode mode.In = value_fit f.subtype h
      by_mode mode.Out = target_fit depth e
      by_mode mode.InOut = in_out_fit depth f.subtype e

  actuals_fit : (fs : List FormalParameter) (all : ArgumentTrees) (height : ℕ) → AreFew v.scope fs → IsFit (actuals_needs height v fs all)
  actuals_fit fs NoArguments height h = refl
  actuals_fit [] (MoreArguments a rest) height h = refl
  actuals_fit (f ∷ fs) (MoreArguments a rest) height h =
      let next = height + passed_width v.scope f in
      both_fit (actual_needs height v f a) (actuals_needs next v fs rest) (actual_fit height f a h.0) (actuals_fit fs rest next h.1)

  copies_fit : (ds : List Destination) → IsFit (copies_needs v ds)
  copies_fit [] = refl
  copies_fit (d ∷ ds) = or_from (has_unfit v) (copies_needs v ds).unfit seen_fit (copies_fit ds)

  passed_fit : (fs : List FormalParameter) (o : Option ArgumentTrees) → AreFew v.scope fs → IsFit (passed_needs v fs o)
  passed_fit fs None h = refl
  passed_fit fs (Some all) h =
      or_from (actuals_needs 0 v fs all).unfit (false || (copies_needs v (destinations_of v fs all)).unfit) (actuals_fit fs all 0 h)
      (copies_fit (destinations_of v fs all))

  line_fit : (o : Option LabelledValue) → IsFit (line_needs v o)
  line_fit None = refl
  line_fit (Some line) = seen_fit

  bare_fit : (name : NameTree) (own_entry : Bool) → IsFit (bare_needs v name own_entry)
  bare_fit name true = refl
  bare_fit name false = line_fit (line_of name)

  through_fit : (name : NameTree) (o : Option ExternalName) → IsFit (through_needs v name o)
  through_fit name None = bare_fit name (is_own_entry (entity_named v.scope name.first.name))
  through_fit name (Some x) =
      by_profile (external_profile v.scope name.first.name x.operation.name) refl
    where
      by_profile : (o : Option Profile) → external_profile v.scope name.first.name x.operation.name ≡ o → IsFit (behind_needs v x o)
      by_profile (Some p) told = passed_fit p.formals (Some x.arguments) (serves.behind name.first.name x.operation.name p told)
      by_profile None told = refl

  call_fit : (name : NameTree) → IsFit (call_needs v name)
  call_fit name = by_profile (profile_named v.scope name.first.name) refl
    where
      by_profile : (o : Option Profile) → profile_named v.scope name.first.name ≡ o → IsFit (called_needs v name o)
      by_profile None e = through_fit name (operation_behind name.selectors)
      by_profile (Some p) e =
          let n = named_there v.scope name.first.name p e in
          passed_fit p.formals (actuals_behind name.selectors)
          (serves.called name.first.name p (stands_number v.scope name.first.name n.number (Subprogram p) n.numbered n.stands))

choices_fit : (c : ChoicesTree) → IsFit (choices_needs c)
choices_fit (Values all) = refl
choices_fit (OtherValues place) = refl

-- ---- what is visible behind declarations

pub behind_scope : (v : Visible) (taken : ℕ) (ds : List DeclarationTree) → (locals_visible v taken ds).scope ≡ locals_scope v.scope ds
behind_scope v taken [] = refl
behind_scope v taken (d ∷ ds) = behind_scope (local_visible v taken d) (taken + local_words v.scope d) ds

module _ (adding : WordsAddUp) (stay : ShapesStay) (s : Scope) where
  pub locals_fit : (v : Visible) → IsInside s v.scope → (taken : ℕ) (ds : List DeclarationTree) → restrictions.locals_faults ds ≡ []
      → FewThings (locals_things s ds)
      → IsFit (locals_needs v taken ds)
  locals_fit v inside taken [] r h = refl
  locals_fit v inside taken (d ∷ ds) r h =
      let first = restrictions.local_faults d in
      let later = restrictions.locals_faults ds in
      let own = few_front adding (local_things s d) (locals_things s ds) h in
      both_fit (local_needs v taken d) (locals_needs (local_visible v taken d) (taken + local_words v.scope d) ds)
      (local_fit v inside.served s inside taken d own)
      (locals_fit (local_visible v taken d) (local_inside stay s v.scope inside d (front_empty first later r) own)
      (taken + local_words v.scope d) ds (back_empty first later r)
      (few_back adding (local_things s d) (locals_things s ds) h))

  -- ---- statements

  head_fit : (a : Standpoint) → IsInside s a.visible.scope → (i : IterationTree) → IsFit (head_needs a i)
  head_fit a inside Forever = refl
  head_fit a inside (While condition) = seen_fit a.visible inside.served
  head_fit a inside (For parameter reversed range) =
      or_from (has_unfit a.visible) (has_unfit a.visible) (seen_fit a.visible inside.served) (seen_fit a.visible inside.served)

  in_loop_inside : (a : Standpoint) → IsInside s a.visible.scope → (i : IterationTree) → IsInside s (in_loop a i).visible.scope
  in_loop_inside a inside Forever = inside
  in_loop_inside a inside (While condition) = inside
  in_loop_inside a inside (For parameter reversed range) = loop_inside stay s a.visible.scope inside parameter range

  pub block_inside : (a : Standpoint) (ds : List DeclarationTree) → IsInside s a.visible.scope → restrictions.locals_faults ds ≡ []
      → FewThings (locals_things s ds)
      → IsInside s (behind_locals a ds).visible.scope
  block_inside a ds inside r h =
      subst (IsInside s) (sym (behind_scope a.visible a.taken ds)) (locals_inside adding stay s a.visible.scope inside ds r h)

  mutual
    pub stmt_fit : (x : StmtTree) (a : Standpoint) → IsInside s a.visible.scope → restrictions.stmt_faults x ≡ [] → FewThings (stmt_things s x)
        → IsFit (stmt_needs a x)
    stmt_fit (Assignment target value) a inside r h = assignment_fit a.visible inside.served target value
    stmt_fit (Call name) a inside r h = call_fit a.visible inside.served name
    stmt_fit (Exit place condition) a inside r h = if_any_fit a.visible inside.served condition
    stmt_fit (DelayUntil place e) a inside r h = seen_fit a.visible inside.served
    stmt_fit (If place condition body elsifs others) a inside r h =
        let inner = restrictions.stmts_faults body in
        let middle = restrictions.elsifs_faults elsifs in
        let last = restrictions.stmts_faults others in
        let first = front_empty (inner ++ middle) last r in
        let one = stmts_things s body in
        let two = elsifs_things s elsifs in
        let three = stmts_things s others in
        let front = few_front adding (one ++ two) three h in
        or_from (has_unfit a.visible) _ (seen_fit a.visible inside.served)
        (both_fit (stmts_needs a body) (both (elsifs_needs a elsifs) (stmts_needs a others))
        (stmts_fit body a inside (front_empty inner middle first) (few_front adding one two front))
        (both_fit (elsifs_needs a elsifs) (stmts_needs a others)
        (elsifs_fit elsifs a inside (back_empty inner middle first) (few_back adding one two front))
        (stmts_fit others a inside (back_empty (inner ++ middle) last r) (few_back adding (one ++ two) three h))))
    stmt_fit (Case place value all) a inside r h =
        or_from (has_unfit a.visible) (alternatives_needs a all).unfit (seen_fit a.visible inside.served) (alternatives_fit all a inside r h)
    stmt_fit (Loop place iteration body) a inside r h =
        both_fit (head_needs a iteration) (stmts_needs (in_loop a iteration) body) (head_fit a inside iteration)
        (stmts_fit body (in_loop a iteration) (in_loop_inside a inside iteration) r h)
    stmt_fit (Block place ds body all) a inside r h =
        let outer = restrictions.locals_faults ds in
        let inner = restrictions.stmts_faults body in
        let last = restrictions.handlers_faults all in
        let first = front_empty (outer ++ inner) last r in
        let declared = front_empty outer inner first in
        let one = locals_things s ds in
        let two = stmts_things s body in
        let three = handlers_things s all in
        let front = few_front adding (one ++ two) three h in
        let own = few_front adding one two front in
        let next = behind_locals a ds in
        both_fit (locals_needs a.visible a.taken ds) (both (stmts_needs next body) (handlers_needs next all))
        (locals_fit a.visible inside a.taken ds declared own)
        (both_fit (stmts_needs next body) (handlers_needs next all)
        (stmts_fit body next (block_inside a ds inside declared own) (back_empty outer inner first) (few_back adding one two front))
        (handlers_fit all next (block_inside a ds inside declared own) (back_empty (outer ++ inner) last r) (few_back adding (one ++ two) three h)))
    stmt_fit x a inside r h = refl

    pub stmts_fit : (body : StmtTrees) (a : Standpoint) → IsInside s a.visible.scope → restrictions.stmts_faults body ≡ []
        → FewThings (stmts_things s body) → IsFit (stmts_needs a body)
    stmts_fit NoStmts a inside r h = refl
    stmts_fit (MoreStmts x rest) a inside r h =
        let one = restrictions.stmt_faults x in
        let more = restrictions.stmts_faults rest in
        both_fit (stmt_needs a x) (stmts_needs a rest)
        (stmt_fit x a inside (front_empty one more r) (few_front adding (stmt_things s x) (stmts_things s rest) h))
        (stmts_fit rest a inside (back_empty one more r) (few_back adding (stmt_things s x) (stmts_things s rest) h))

    elsifs_fit : (all : ElsifTrees) (a : Standpoint) → IsInside s a.visible.scope → restrictions.elsifs_faults all ≡ []
        → FewThings (elsifs_things s all) → IsFit (elsifs_needs a all)
    elsifs_fit NoElsifs a inside r h = refl
    elsifs_fit (MoreElsifs condition body rest) a inside r h =
        let one = restrictions.stmts_faults body in
        let more = restrictions.elsifs_faults rest in
        or_from (has_unfit a.visible) _ (seen_fit a.visible inside.served)
        (both_fit (stmts_needs a body) (elsifs_needs a rest)
        (stmts_fit body a inside (front_empty one more r) (few_front adding (stmts_things s body) (elsifs_things s rest) h))
        (elsifs_fit rest a inside (back_empty one more r) (few_back adding (stmts_things s body) (elsifs_things s rest) h)))

    alternatives_fit : (all : AlternativeTrees) (a : Standpoint) → IsInside s a.visible.scope → restrictions.alternatives_faults all ≡ []
        → FewThings (alternatives_things s all)
        → IsFit (alternatives_needs a all)
    alternatives_fit NoAlternatives a inside r h = refl
    alternatives_fit (MoreAlternatives place choices body rest) a inside r h =
        let one = restrictions.stmts_faults body in
        let more = restrictions.alternatives_faults rest in
        both_fit (choices_needs choices) (both (stmts_needs a body) (alternatives_needs a rest)) (choices_fit choices)
        (both_fit (stmts_needs a body) (alternatives_needs a rest)
        (stmts_fit body a inside (front_empty one more r) (few_front adding (stmts_things s body) (alternatives_things s rest) h))
        (alternatives_fit rest a inside (back_empty one more r) (few_back adding (stmts_things s body) (alternatives_things s rest) h)))

    pub handlers_fit : (all : HandlerTrees) (a : Standpoint) → IsInside s a.visible.scope → restrictions.handlers_faults all ≡ []
        → FewThings (handlers_things s all) → IsFit (handlers_needs a all)
    handlers_fit NoHandlers a inside r h = refl
    handlers_fit (MoreHandlers choices body rest) a inside r h =
        let one = restrictions.stmts_faults body in
        let more = restrictions.handlers_faults rest in
        both_fit (stmts_needs (inside_handler a) body) (handlers_needs a rest)
        (stmts_fit body (inside_handler a) inside (front_empty one more r) (few_front adding (stmts_things s body) (handlers_things s rest) h))
        (handlers_fit rest a inside (back_empty one more r) (few_back adding (stmts_things s body) (handlers_things s rest) h))
