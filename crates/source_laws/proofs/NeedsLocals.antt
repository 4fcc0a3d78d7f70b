-- What declarations of objects need: the words of the objects, and their initial values on the operand stack.
use Rattle.std.proofs.Common.{◌≡◌, ◌≤◌, ◌+◌, ◌*◌, ◌++◌, ℕ, max, [], ◌∷◌, List, true, false, not, Option, Some, None, refl, ap, subst, arith}
use Rattle.std.proofs.Math.Nat.{le-max_left, le-max_right}
use Rattle.std.proofs.lemmas.Bool.{or_from}
use Rattle.base.specs.declared.faults.TheConstants.{NOT_STATIC}
use Rattle.ada_tree.specs.Depth.{declaration_depth, deepest, depth_if_any, expr_depth, object_depth}
use Rattle.ada_tree.specs.ExpressionTree.{ExprTree}
use Rattle.ada_tree.specs.Language.{Limit, Tokens, each, optional}
use Rattle.ada_tree.specs.StatementGrammar.{declaration, initial, object}
use Rattle.ada_tree.specs.StatementTree.{DeclarationTree, LocalObject, LocalProtected, LocalTask, ObjectTree}
use Rattle.types.specs.declared.entity.Subtype.{Subtype}
use Rattle.types.specs.Layouts.{words_of}
use Rattle.types.specs.Scopes.{Scope}
use Rattle.types.specs.Shapes.{shape_of}
use Rattle.expr_soundness.specs.expr_rules.specs.declared.own.Wanted.{Wanted}
use Rattle.expr_soundness.specs.expr_rules.specs.declared.own.Wanted.TheVariants.{OfType}
use Rattle.expr_soundness.specs.expr_rules.specs.ExpressionRules.{faults_of}
use Rattle.expr_soundness.specs.expr_rules.specs.Faults.{Faults, rule}
use Rattle.expr_soundness.specs.expr_rules.proofs.TypedLaw.{back_empty, front_empty}
use Rattle.expr_soundness.specs.type_rules.specs.ObjectRules.{local_initial_faults, local_object_faults}
use Rattle.expr_soundness.specs.type_rules.specs.SubtypeNames.{declared_twice, subtype_faults, subtype_of, wanted_by}
use Rattle.program_soundness.specs.declaration_rules.specs.LocalRules.{local_faults, local_scope, locals_faults}
use Rattle.program_soundness.specs.step_soundness.specs.body_restrictions.specs.BodyRules as restrictions
use Rattle.expr_soundness.proofs.Widening.{subtype_known}
use Rattle.expr_code.specs.Refusing.{is_fit, peak}
use Rattle.expr_code.specs.declared.visible.Visible.{Visible}
use Rattle.part_code.specs.Bounds.{local_words, locals_words, words_if_any}
use Rattle.part_code.specs.Needs.{framed, has_unfit, initial_needs, local_needs, local_visible, locals_needs, locals_visible, object_needs}
use Rattle.stmt_code.proofs.CoveredScopes.{whole_local}
use Rattle.stmt_code.proofs.Declared.{local_subtype}
use Rattle.source_laws.specs.Depths.{IsSmallScope, IsSmallVisible}
use Rattle.source_laws.proofs.NeedsBounds.{Fits, both_fit, fits_more, nothing_fits, stack_fits, value_bound}
use Rattle.source_laws.proofs.NeedsScopes.{few_words, small_local}
use Rattle.source_laws.proofs.NeedsShapes.{fits_here, nothing_unfit}
use Rattle.source_laws.proofs.NeedsValues.{typed_low}

abbrev pub initial_faults_by : Scope → Option ExprTree → Wanted → Faults → Faults
initial_faults_by s o w others = elim o [ Some e ↦ faults_of s w e | None ↦ others ]

module _ (exceptions : List (List ℕ)) (v : Visible) (here : IsSmallVisible exceptions v) where
  abbrev small : IsSmallScope v.scope
  small = here.names

  abbrev s : Scope
  s = v.scope

  pub initial_low : (t : Subtype) (o : Option ExprTree) (l : Limit) (ts : Tokens) → optional (initial l) o ts → (others : Faults)
      → initial_faults_by s o (OfType t.type_number) others ≡ [] → words_of s t ≤ 64
      → (initial_needs v t o).stack ≤ 80 + 12 * depth_if_any expr_depth o
  initial_low t None l ts d others h few = omega (arith, few)
  initial_low t (Some e) l ts d others h few =
      let low = value_bound (words_of s t) (peak s e) (expr_depth e) (typed_low s small t e l d.1 d.4 h) few in omega (arith, low)

  initial_frame : (t : Subtype) (o : Option ExprTree) → (initial_needs v t o).frame ≡ 0
  initial_frame t None = refl
  initial_frame t (Some e) = refl

  initial_fit : (t : Subtype) (o : Option ExprTree) → is_fit (shape_of s t) ≡ true → (initial_needs v t o).unfit ≡ false
  initial_fit t None h = refl
  initial_fit t (Some e) h = or_from (has_unfit v) (not (is_fit (shape_of s t))) (nothing_unfit v small) (ap not h)

  -- it fits, and what is visible behind it is small
  pub record LocalFits (taken : ℕ) (d : DeclarationTree) : Type 0 where
    pub own : Fits (local_needs v taken d) taken (local_words s d) (declaration_depth d)
    pub behind : IsSmallVisible exceptions (local_visible v taken d)

  local_object_fits : (taken : ℕ) (d : ObjectTree) (l : Limit) (ts : Tokens) → object l d ts → local_object_faults s d ≡ [] → (o : Option Subtype)
      → subtype_of s d.subtype ≡ o → words_if_any s o ≤ 64
      → Fits (object_needs v taken o d.value) taken (words_if_any s o) (object_depth d) × IsSmallVisible exceptions (local_visible v taken (LocalObject d))
  local_object_fits taken d l ts spelled h None is few = absurd (local_subtype s small.sound d h is)
  local_object_fits taken d l ts spelled h (Some t) is few =
      let named = subtype_faults s d.subtype in
      let first = local_initial_faults s d in
      let value = back_empty named first (front_empty (named ++ first) (declared_twice s d.name) h) in
      let wanted = subst (λ x. initial_faults_by s d.value (wanted_by x) (rule NOT_STATIC d.name.place d.constant) ≡ []) is value in
      let behind = whole_local exceptions v small.sound here.entries here.known taken d t is (back_empty (named ++ first) (declared_twice s d.name) h) in (
        both_fit (framed (taken + words_of s t)) (initial_needs v t d.value) taken (words_of s t) (object_depth d)
            (record { stack_low = omega arith; frame_low = omega arith; fit = refl })
            (stack_fits (initial_needs v t d.value) taken (words_of s t) (object_depth d)
            (initial_low t d.value l spelled.4.4.4.4.0 spelled.4.4.4.4.3 (rule NOT_STATIC d.name.place d.constant) wanted few) (initial_frame t d.value)
            (initial_fit t d.value (fits_here s small t (subtype_known s d.subtype t small.sound is) (few_words (words_of s t) few)))),
        record { names = small_local s d t small is few; entries = behind.entries; known = behind.has },
      )

  -- no task and no protected object is declared there
  local_fits : (taken : ℕ) (d : DeclarationTree) (l : Limit) (ts : Tokens) → declaration l d ts → local_faults s d ≡ [] → restrictions.local_faults d ≡ []
      → local_words s d ≤ 64 → LocalFits taken d
  local_fits taken (LocalObject d) l ts spelled h allowed few =
      let it = local_object_fits taken d l ts spelled h (subtype_of s d.subtype) refl few in record { own = it.0; behind = it.1 }
  local_fits taken (LocalTask d) l ts spelled h allowed few = cc
  local_fits taken (LocalProtected d) l ts spelled h allowed few = cc

-- ... all of them, from the first one on
pub record LocalsFit (exceptions : List (List ℕ)) (v : Visible) (taken : ℕ) (ds : List DeclarationTree) : Type 0 where
  pub own : Fits (locals_needs v taken ds) taken (locals_words v.scope ds) (deepest declaration_depth ds)
  pub behind : IsSmallVisible exceptions (locals_visible v taken ds)

pub locals_fit : {exceptions : List (List ℕ)} (ds : List DeclarationTree) (v : Visible) → IsSmallVisible exceptions v → (taken : ℕ) (l : Limit) (ts : Tokens)
    → each (declaration l) ds ts → locals_faults v.scope ds ≡ [] → restrictions.locals_faults ds ≡ [] → locals_words v.scope ds ≤ 64
    → LocalsFit exceptions v taken ds
locals_fit [] v small taken l ts spelled h allowed few = record { own = nothing_fits taken 0 0; behind = small }
locals_fit {exceptions} (d ∷ ds) v small taken l ts spelled h allowed few =
    let here = local_faults v.scope d in
    let later = local_visible v taken d in
    let rest = locals_faults (local_scope v.scope d) ds in
    let own = local_words v.scope d in
    let others = locals_words (local_scope v.scope d) ds in
    let ours = local_needs v taken d in
    let theirs = locals_needs later (taken + own) ds in
    let one = local_fits exceptions v small taken d l spelled.0 spelled.3 (front_empty here rest h)
    (front_empty (restrictions.local_faults d) (restrictions.locals_faults ds) allowed) (omega (arith, few)) in
    let more = locals_fit ds later one.behind (taken + own) l spelled.1 spelled.4 (back_empty here rest h)
    (back_empty (restrictions.local_faults d) (restrictions.locals_faults ds) allowed) (omega (arith, few)) in
    let deep = max (declaration_depth d) (deepest declaration_depth ds) in
    record {
      own = both_fit ours theirs taken (own + others) deep
          (fits_more ours taken taken own (own + others) (declaration_depth d) deep one.own (omega arith)
          (le-max_left (declaration_depth d) (deepest declaration_depth ds)))
          (fits_more theirs (taken + own) taken others (own + others) (deepest declaration_depth ds) deep more.own (omega arith)
          (le-max_right (declaration_depth d) (deepest declaration_depth ds)));
      behind = more.behind;
    }
