-- An initial value that must be static, and breaks no rule, is known, and the same where more names are visible behind those in front of its declaration.
use Rattle.std.proofs.Common.{◌≡◌, ◌++◌, ℕ, pos, Bool, true, false, cond, [], ◌∷◌, length, inl, inr, Option, Some, None, refl, sym, ap, ◌∙◌, subst}
use Rattle.std.specs.Prelude.{not}
use Rattle.base.specs.declared.faults.TheConstants.{DECLARED_TWICE, NAME_NOT_VISIBLE}
use Rattle.ada_tree.specs.declared.expression.Identifier.{Identifier}
use Rattle.ada_tree.specs.ExpressionTree as tree
use Rattle.ada_tree.specs.ExpressionTree.{Arguments, Binary, Conditional, ExprTree, MoreArguments, MoreSelectors, Named, NoArguments, NoSelectors, Parenthesized, SelectorTrees, Unary}
use Rattle.ada_tree.specs.StatementTree.{ObjectTree}
use Rattle.ada_tree.specs.ProgramTree.{OfObject}
use Rattle.types.specs.declared.entity.PredefinedOperation.{PredefinedOperation}
use Rattle.types.specs.declared.entity.PredefinedOperation.TheVariants as predefined
use Rattle.types.specs.declared.entity.Subtype.{Subtype}
use Rattle.types.specs.declared.entity.Value.{Value as Scalar}
use Rattle.types.specs.declared.entity.Value.TheVariants as scalar
use Rattle.types.specs.declared.standing.Callee.TheVariants as callee
use Rattle.types.specs.declared.standing.Standing.TheVariants as standing
use Rattle.types.specs.declared.statics.StaticForm.{StaticForm}
use Rattle.types.specs.declared.statics.StaticForm.TheVariants.{Doubtful, NotStatic, Static}
use Rattle.types.specs.Entities as entity
use Rattle.types.specs.Entities.{Entity, Predefined, Profile}
use Rattle.types.specs.Evaluations.{Val}
use Rattle.types.specs.Scopes.{Named as NamedEntity, Scope, entity_at, entity_of, integer_type, is_visible, number_of, profile_of}
use Rattle.types.specs.Standings.{select, standing_of, stands_first, stands_for}
use Rattle.types.specs.Statics.{start_of, static_form, static_value}
use Rattle.types.specs.Values.{Value}
use Rattle.expr_soundness.specs.expr_rules.specs.declared.own.Wanted.{Wanted}
use Rattle.expr_soundness.specs.expr_rules.specs.declared.own.Wanted.TheVariants.{OfType}
use Rattle.expr_soundness.specs.expr_rules.specs.declared.names.Slot.TheVariants.{Expects}
use Rattle.expr_soundness.specs.expr_rules.specs.Faults.{Faults, rule}
use Rattle.expr_soundness.specs.expr_rules.specs.Typing.{own_of}
use Rattle.expr_soundness.specs.expr_rules.specs.NameRules.{call_slot, mismatch, part_rule, slot_at, value_rule}
use Rattle.expr_soundness.specs.expr_rules.specs.ExpressionRules.{argument_faults, arguments_faults, faults_in, faults_of, selector_faults, selectors_faults}
use Rattle.expr_soundness.specs.expr_rules.specs.StaticRules as statics
use Rattle.expr_soundness.specs.expr_rules.specs.StaticRules.{form_rule, if_unbroken, scalar_if_known, static_faults, static_result, static_scalar}
use Rattle.expr_soundness.specs.expr_rules.proofs.TypedLaw.{back_empty, front_empty}
use Rattle.expr_soundness.specs.type_rules.specs.ObjectRules.{called_faults, called_scalar, computed_faults, constant_entity, fixed_faults, fixed_initial_faults, fixed_scalar, fixed_value, is_clock, is_clock_entity, known_scalar, package_object_entity, scalar_if_unbroken, scalar_of, single_argument, span_by, span_call, span_faults, span_of_scalar, span_rule, span_value}
use Rattle.expr_soundness.specs.type_rules.specs.SubtypeNames.{declared_twice, entity_at_or_none, named_entity, subtype_faults, subtype_of}
use Rattle.expr_soundness.specs.SoundScopes.{HasOperation, IsSoundEntity, SoundScope, integer_formal}
use Rattle.expr_soundness.proofs.Positions.{IsNamed, item_added}
use Rattle.program_soundness.specs.declaration_rules.specs.ItemRules.{item_faults, items_faults, items_scope}
use Rattle.program_soundness.specs.ScopeLaws.{DeclarationsAreSound}
use Rattle.program_soundness.proofs.Beginning.{fixed_legal}
use Rattle.program_soundness.proofs.Extending.{Extends, entity_stays, number_stays}
use Rattle.program_soundness.proofs.Initials.{form_anywhere, single_cases, span_none, value_anywhere, with_argument}
use Rattle.program_soundness.proofs.Listing.{same_some}
use Rattle.program_soundness.proofs.OneList.{both_empty}
use Rattle.source_laws.proofs.LaterExpressions.{expression_kept, first_named, typed_kept}

-- ---- where the value is asked for only where it is static

rule_same : (place : ℕ) (within : Option Subtype) (f : StaticForm) (a b : Val Value) → (f ≡ Static → b ≡ a)
    → statics.value_rule place within f b ≡ statics.value_rule place within f a
rule_same place within Static a b h = ap (statics.value_rule place within Static) (h refl)
rule_same place within NotStatic a b h = refl
rule_same place within Doubtful a b h = refl

known_same : (f : StaticForm) (a b : Val Value) → (f ≡ Static → b ≡ a) → scalar_if_known f b ≡ scalar_if_known f a
known_same Static a b h = ap (scalar_if_known Static) (h refl)
known_same NotStatic a b h = refl
known_same Doubtful a b h = refl

module _ (s g : Scope) (x : Extends s g) (sound : SoundScope s) where
  -- ---- static expressions

  pub record IsStaticKept (w : Wanted) (within : Option Subtype) (e : ExprTree) : Type 0 where
    pub faults : static_faults g w within e ≡ []
    pub scalar : static_scalar g w within e ≡ static_scalar s w within e

  pub static_kept : (w : Wanted) (within : Option Subtype) (e : ExprTree) → static_faults s w within e ≡ [] → IsStaticKept w within e
  static_kept w within e h =
      let typed = faults_of s w e in
      let form = form_rule (start_of e) (static_form s e) in
      let value = statics.value_rule (start_of e) within (static_form s e) (static_value s e) in
      let two = front_empty (typed ++ form) (if_unbroken typed value) h in
      let one = front_empty typed form two in
      let kept = expression_kept s g x sound e w (front_empty (faults_in s w e) (mismatch s w (own_of s e) (start_of e)) one) in
      let typed_later : faults_of g w e ≡ [] = typed_kept s g x sound w e kept one in
      let form_later : form_rule (start_of e) (static_form g e) ≡ [] = ap (form_rule (start_of e)) kept.form ∙ back_empty typed form two in
      let unbroken_value : value ≡ [] = subst (λ l. if_unbroken l value ≡ []) one (back_empty (typed ++ form) (if_unbroken typed value) h) in
      let value_later : statics.value_rule (start_of e) within (static_form g e) (static_value g e) ≡ [] =
      ap (λ f. statics.value_rule (start_of e) within f (static_value g e)) kept.form
      ∙ rule_same (start_of e) within (static_form s e) (static_value s e) (static_value g e) kept.value ∙ unbroken_value in
      let all : static_faults g w within e ≡ [] = λ j. typed_later j ++ form_later j ++ if_unbroken (typed_later j) (value_later j) in
      record {
        faults = all;
        scalar = ap (λ l. static_result l (static_form g e) (static_value g e)) all ∙ ap (λ f. scalar_if_known f (static_value g e)) kept.form
            ∙ known_same (static_form s e) (static_value s e) (static_value g e) kept.value
            ∙ sym (ap (λ l. static_result l (static_form s e) (static_value s e)) h);
      }

  -- ---- `Clock`, `Milliseconds` and `Microseconds`

  named_same : (first : Identifier) → IsNamed s first.name → named_entity g first ≡ named_entity s first
  named_same first n =
      ap (entity_at_or_none g) (number_stays s g first.name n.number x n.numbered) ∙ entity_stays s g n.number n.entity x n.stands
      ∙ sym (ap (entity_at_or_none s) n.numbered ∙ n.stands)

  clock_same : (w : Wanted) (e : ExprTree) → faults_in s w e ≡ [] → is_clock g e ≡ is_clock s e
  clock_same w (Named first NoSelectors) h = ap is_clock_entity (named_same first (first_named s g x sound w first NoSelectors h))
  clock_same w (Named first (MoreSelectors sel rest)) h = refl
  clock_same w (tree.Number z place) h = refl
  clock_same w (Parenthesized place e) h = refl
  clock_same w (Conditional place condition value elsifs last) h = refl
  clock_same w (Unary operator place e) h = refl
  clock_same w (Binary operator a b) h = refl

  call_same : (w : Wanted) (e : ExprTree) → faults_in s w e ≡ [] → span_call g e ≡ span_call s e
  call_same w (Named first selectors) h = ap (λ o. span_by o (single_argument selectors)) (named_same first (first_named s g x sound w first selectors h))
  call_same w (tree.Number z place) h = refl
  call_same w (Parenthesized place e) h = refl
  call_same w (Conditional place condition value elsifs last) h = refl
  call_same w (Unary operator place e) h = refl
  call_same w (Binary operator a b) h = refl

  -- the argument is an Integer
  argument_typed : (place : ℕ) (n : ℕ) (o : PredefinedOperation) (p : Profile) (a : ExprTree) → entity_at s n ≡ Some (Predefined o p)
      → p.formals ≡ integer_formal ∷ []
      → selectors_faults s place (standing.Callee (callee.Direct n)) (with_argument a) ≡ []
      → faults_of s (OfType integer_type) a ≡ []
  argument_typed place n o p a at takes h =
      let w = standing.Callee (callee.Direct n) in
      let part = Arguments (MoreArguments (tree.Value a) NoArguments) in
      let selected = selector_faults s place w part in
      let ended = selectors_faults s place (select s w part) NoSelectors in
      let ruled = part_rule s place w part in
      let all = arguments_faults s w 0 (MoreArguments (tree.Value a) NoArguments) in
      let one = back_empty ruled all (front_empty selected ended h) in
      let slot : slot_at s w 0 ≡ Expects (OfType integer_type) =
      ap (λ e. call_slot (profile_of e) 0) at ∙ ap (λ f. call_slot (Some (record { formals = f; result = p.result })) 0) takes in
      sym (ap (λ l. argument_faults s l (tree.Value a)) slot) ∙ front_empty (argument_faults s (slot_at s w 0) (tree.Value a)) [] one

  span_single : (w : Wanted) (first : Identifier) (a : ExprTree) (y : PredefinedOperation × ExprTree) → faults_in s w (Named first (with_argument a)) ≡ []
      → span_by (named_entity s first) (Some a) ≡ Some y
      → faults_of s (OfType integer_type) y.1 ≡ []
  span_single w first a y h k = by_entity n.entity n.stands named_is
    where
      n : IsNamed s first.name
      n = first_named s g x sound w first (with_argument a) h

      named_is : span_by (Some n.entity) (Some a) ≡ Some y
      named_is = sym (ap (λ o. span_by o (Some a)) (ap (entity_at_or_none s) n.numbered ∙ n.stands)) ∙ k

      parts : selectors_faults s first.place (stands_for n.number (Some n.entity)) (with_argument a) ≡ []
      parts =
          let hidden = rule NAME_NOT_VISIBLE first.place (not (is_visible s first.name)) in
          let inside = selectors_faults s first.place (stands_first s (number_of s first.name)) (with_argument a) in
          let whole = value_rule first.place (standing_of s first (with_argument a)) in
          sym (ap (λ u. selectors_faults s first.place u (with_argument a)) (ap (stands_first s) n.numbered ∙ ap (stands_for n.number) n.stands))
          ∙ back_empty hidden inside (front_empty (hidden ++ inside) whole h)

      argument_is : (o : PredefinedOperation) → Some (o, a) ≡ Some y → faults_of s (OfType integer_type) a ≡ [] → faults_of s (OfType integer_type) y.1 ≡ []
      argument_is o same = subst (λ z. faults_of s (OfType integer_type) z.1 ≡ []) (same_some (o, a) y same)

      called : (o : PredefinedOperation) (p : Profile) → n.entity ≡ Predefined o p → p.formals ≡ integer_formal ∷ [] → faults_of s (OfType integer_type) a ≡ []
      called o p is takes =
          argument_typed first.place n.number o p a (n.stands ∙ ap Some is) takes
          (subst (λ e. selectors_faults s first.place (stands_for n.number (Some e)) (with_argument a) ≡ []) is parts)

      by_entity : (e : Entity) → entity_at s n.number ≡ Some e → span_by (Some e) (Some a) ≡ Some y → faults_of s (OfType integer_type) y.1 ≡ []
      by_entity (Predefined predefined.Milliseconds p) at same =
          let own : HasOperation s (integer_formal ∷ []) _ p = sound.each n.number (Predefined predefined.Milliseconds p) at in
          argument_is predefined.Milliseconds same
          (called predefined.Milliseconds p (same_some n.entity (Predefined predefined.Milliseconds p) (sym n.stands ∙ at)) own.takes)
      by_entity (Predefined predefined.Microseconds p) at same =
          let own : HasOperation s (integer_formal ∷ []) _ p = sound.each n.number (Predefined predefined.Microseconds p) at in
          argument_is predefined.Microseconds same
          (called predefined.Microseconds p (same_some n.entity (Predefined predefined.Microseconds p) (sym n.stands ∙ at)) own.takes)
      by_entity e at same = cc

  span_argument : (w : Wanted) (first : Identifier) (l : SelectorTrees) (y : PredefinedOperation × ExprTree) → faults_in s w (Named first l) ≡ []
      → span_by (named_entity s first) (single_argument l) ≡ Some y
      → faults_of s (OfType integer_type) y.1 ≡ []
  span_argument w first l y h k =
      elim (single_cases s sound l) [
        | inl none ↦ (let never = sym (span_none s sound (named_entity s first)) ∙ ap (span_by (named_entity s first)) (sym none) ∙ k in cc)
        | inr single ↦
            span_single w first single.0 y (subst (λ m. faults_in s w (Named first m) ≡ []) single.1 h)
            (subst (λ m. span_by (named_entity s first) (single_argument m) ≡ Some y) single.1 k)
      ]

  call_argument : (w : Wanted) (e : ExprTree) (y : PredefinedOperation × ExprTree) → faults_in s w e ≡ [] → span_call s e ≡ Some y
      → faults_of s (OfType integer_type) y.1 ≡ []
  call_argument w (Named first selectors) y h k = span_argument w first selectors y h k
  call_argument w e y h k = cc

  -- ---- initial values

  pub record IsFixedKept (t : Subtype) (e : ExprTree) : Type 0 where
    pub faults : fixed_faults g (Some t) e ≡ []
    pub value : fixed_value g (Some t) e ≡ fixed_value s (Some t) e

  module _ (t : Subtype) (e : ExprTree) (h : fixed_faults s (Some t) e ≡ []) where
    abbrev wanted : Wanted
    wanted = OfType t.type_number

    abbrev faults_by : Scope → Bool → Option (PredefinedOperation × ExprTree) → Faults
    faults_by u b o = elim b [ true ↦ faults_of u wanted e | false ↦ called_faults u (Some t) e o ]

    abbrev value_by : Scope → Bool → Option (PredefinedOperation × ExprTree) → Option Scalar
    value_by u b o = elim b [ true ↦ Some (scalar.Number (pos 0)) | false ↦ called_scalar u (Some t) e o ]

    legal : faults_of s wanted e ≡ []
    legal = fixed_legal s (Some t) e h

    inside : faults_in s wanted e ≡ []
    inside = front_empty (faults_in s wanted e) (mismatch s wanted (own_of s e) (start_of e)) legal

    legal_later : faults_of g wanted e ≡ []
    legal_later = typed_kept s g x sound wanted e (expression_kept s g x sound e wanted inside) legal

    faults_same : faults_by g (is_clock g e) (span_call g e) ≡ faults_by g (is_clock s e) (span_call s e)
    faults_same = λ j. faults_by g (clock_same wanted e inside j) (call_same wanted e inside j)

    value_same : value_by g (is_clock g e) (span_call g e) ≡ value_by g (is_clock s e) (span_call s e)
    value_same = λ j. value_by g (clock_same wanted e inside j) (call_same wanted e inside j)

    by_span : (y : PredefinedOperation × ExprTree) → is_clock s e ≡ false → span_call s e ≡ Some y → IsFixedKept t e
    by_span y clock called =
        let faults : span_faults s (Some t) e y.0 y.1 ≡ [] = sym (λ j. faults_by s (clock j) (called j)) ∙ h in
        let argument = call_argument wanted e y inside called in
        let expected = faults_of s wanted e in
        let form = form_rule (start_of e) (static_form s y.1) in
        let later = computed_faults s (start_of e) y.0 y.1 in
        let two = front_empty (expected ++ form) (if_unbroken expected later) faults in
        let formed = back_empty expected form two in
        let computed : later ≡ [] =
        subst (λ l. if_unbroken l later ≡ []) (front_empty expected form two) (back_empty (expected ++ form) (if_unbroken expected later) faults) in
        let value = statics.value_rule (start_of e) None (static_form s y.1) (static_value s y.1) in
        let valued = front_empty value (span_rule (start_of e) (span_value s y.0 y.1)) computed in
        let spanned = back_empty value (span_rule (start_of e) (span_value s y.0 y.1)) computed in
        let formed_here = form_anywhere s sound (start_of e) (start_of y.1) (static_form s y.1) formed in
        let valued_here = value_anywhere s sound (start_of e) (start_of y.1) (static_form s y.1) (static_value s y.1) valued in
        let kept = static_kept (OfType integer_type) None y.1 (λ j. argument j ++ formed_here j ++ if_unbroken (argument j) (valued_here j)) in
        let span : span_value g y.0 y.1 ≡ span_value s y.0 y.1 = ap (span_of_scalar y.0) kept.scalar in
        let own =
        expression_kept s g x sound y.1 (OfType integer_type)
        (front_empty (faults_in s (OfType integer_type) y.1) (mismatch s (OfType integer_type) (own_of s y.1) (start_of y.1)) argument) in
        let form_later : form_rule (start_of e) (static_form g y.1) ≡ [] = ap (form_rule (start_of e)) own.form ∙ formed in
        let value_later : statics.value_rule (start_of e) None (static_form g y.1) (static_value g y.1) ≡ [] =
        ap (λ f. statics.value_rule (start_of e) None f (static_value g y.1)) own.form
        ∙ rule_same (start_of e) None (static_form s y.1) (static_value s y.1) (static_value g y.1) own.value ∙ valued in
        let span_later : span_rule (start_of e) (span_value g y.0 y.1) ≡ [] = ap (span_rule (start_of e)) span ∙ spanned in
        let computed_later : computed_faults g (start_of e) y.0 y.1 ≡ [] = λ j. value_later j ++ span_later j in
        record {
          faults = faults_same ∙ (λ j. faults_by g (clock j) (called j))
              ∙ (λ j. legal_later j ++ form_later j ++ if_unbroken (legal_later j) (computed_later j));
          value = value_same ∙ (λ j. value_by g (clock j) (called j)) ∙ ap scalar_of span ∙ sym (λ j. value_by s (clock j) (called j));
        }

    by_static : is_clock s e ≡ false → span_call s e ≡ None → IsFixedKept t e
    by_static clock called =
        let kept = static_kept wanted (Some t) e (sym (λ j. faults_by s (clock j) (called j)) ∙ h) in
        record {
          faults = faults_same ∙ (λ j. faults_by g (clock j) (called j)) ∙ kept.faults;
          value = value_same ∙ (λ j. value_by g (clock j) (called j)) ∙ ap known_scalar kept.scalar ∙ sym (λ j. value_by s (clock j) (called j));
        }

    by_clock : is_clock s e ≡ true → IsFixedKept t e
    by_clock clock =
        record {
          faults = faults_same ∙ ap (λ b. faults_by g b (span_call s e)) clock ∙ legal_later;
          value = value_same ∙ ap (λ b. value_by g b (span_call s e)) clock ∙ sym (ap (λ b. value_by s b (span_call s e)) clock);
        }

    pub is_kept : IsFixedKept t e
    is_kept = by_test (is_clock s e) refl
      where
        by_call : (o : Option (PredefinedOperation × ExprTree)) → is_clock s e ≡ false → span_call s e ≡ o → IsFixedKept t e
        by_call (Some y) clock called = by_span y clock called
        by_call None clock called = by_static clock called

        by_test : (b : Bool) → is_clock s e ≡ b → IsFixedKept t e
        by_test true clock = by_clock clock
        by_test false clock = by_call (span_call s e) clock refl

    pub fixed_same : fixed_scalar g (Some t) e ≡ fixed_scalar s (Some t) e
    fixed_same =
        ap (λ l. scalar_if_unbroken l (fixed_value g (Some t) e)) is_kept.faults ∙ is_kept.value
        ∙ sym (ap (λ l. scalar_if_unbroken l (fixed_value s (Some t) e)) h)

-- ---- the value of a declaration that breaks no rule is known, as that of a constant with this value is

module _ (declarations : DeclarationsAreSound) (s : Scope) (sound : SoundScope s) (name subtype : Identifier) (t : Subtype) (e : ExprTree)
    (new : is_visible s name.name ≡ false)
    (known : subtype_faults s subtype ≡ [])
    (named : subtype_of s subtype ≡ Some t)
    (h : fixed_faults s (Some t) e ≡ []) where
  abbrev given : ObjectTree
  given = record { name = name; constant = true; subtype = subtype; value = Some e }

  abbrev meant : Entity
  meant = package_object_entity s given

  abbrev added : NamedEntity
  added = record { name = name.name; entity = meant }

  given_legal : items_faults s (OfObject given ∷ []) ≡ []
  given_legal =
      let initial : fixed_initial_faults s given ≡ [] = ap (λ u. fixed_faults s u e) named ∙ h in
      let twice : declared_twice s name ≡ [] = ap (rule DECLARED_TWICE name.place) new in
      both_empty (item_faults s (OfObject given)) [] (λ j. known j ++ initial j ++ twice j) refl

  next_sound : SoundScope (s ++ added ∷ [])
  next_sound =
      let wider : items_scope s (OfObject given ∷ []) ≡ s ++ added ∷ [] = ap (λ b. cond b s (s ++ added ∷ [])) new in
      subst SoundScope wider (declarations.items s (OfObject given ∷ []) sound given_legal)

  meant_sound : IsSoundEntity (s ++ added ∷ []) (length s) meant
  meant_sound = next_sound.each (length s) meant (ap entity_of (item_added s added))

  pub fixed_some : (c : Scalar) × (fixed_scalar s (Some t) e ≡ Some c)
  fixed_some = by_scalar (fixed_scalar s (Some t) e) refl
    where
      by_scalar : (o : Option Scalar) → fixed_scalar s (Some t) e ≡ o → (c : Scalar) × (fixed_scalar s (Some t) e ≡ Some c)
      by_scalar (Some c) is = (c, is)
      by_scalar None is =
          let doubtful : meant ≡ entity.Doubtful = ap (λ u. constant_entity u (fixed_scalar s u e)) named ∙ ap (constant_entity (Some t)) is in
          absurd (subst (IsSoundEntity (s ++ added ∷ []) (length s)) doubtful meant_sound)
