-- Variables and components have values of their types at the start.
use Rattle.std.proofs.Common.{◌≡◌, ◌++◌, ℕ, zero, suc, ℤ, pos, List, [], ◌∷◌, map, Bool, true, false, Option, Some, None, Ok, Err, refl, sym, ap, ◌∙◌, subst}
use Rattle.std.specs.Prelude.{⊤, cond, slice_get}
use Rattle.std.proofs.lemmas.List.{append_assoc}
use Rattle.expr_soundness.specs.base.specs.Arithmetic.{Checked, product_of}
use Rattle.expr_soundness.specs.base.specs.declared.faults.TheConstants.{DECLARED_TWICE}
use Rattle.expr_soundness.specs.ada_tree.specs.declared.expression.Identifier.{Identifier}
use Rattle.expr_soundness.specs.ada_tree.specs.ExpressionTree as tree
use Rattle.expr_soundness.specs.ada_tree.specs.ExpressionTree.{ExprTree, Named, SelectorTrees, NoSelectors, MoreSelectors, SelectorTree, Component, Arguments, Attribute, NoArguments, MoreArguments}
use Rattle.expr_soundness.specs.ada_tree.specs.StatementTree.{ObjectTree, OperationTree, ProtectedComponentTree}
use Rattle.expr_soundness.specs.ada_tree.specs.ProgramTree.{BodyItemTree, OfItem, SubprogramBody, TaskBody, ProtectedBody, ItemTree, OfType, OfObject, OfException, OfSubprogram, OfTask, OfProtected, PackageTree, ProgramTree}
use Rattle.types.specs.declared.entity.PredefinedOperation.{PredefinedOperation}
use Rattle.types.specs.declared.entity.PredefinedOperation.TheVariants as predefined
use Rattle.types.specs.declared.entity.Role.{Role}
use Rattle.types.specs.declared.entity.Role.TheVariants as role
use Rattle.types.specs.declared.entity.Subtype.{Subtype}
use Rattle.types.specs.declared.entity.Value.{Value as Scalar}
use Rattle.types.specs.declared.standing.Callee.TheVariants as callee
use Rattle.types.specs.declared.standing.Standing.{Standing}
use Rattle.types.specs.declared.standing.Standing.TheVariants as standing
use Rattle.types.specs.Entities.{Integers, TypeForm}
use Rattle.types.specs.Laws.{InitialValuesHaveShape}
use Rattle.types.specs.Places.{Object, IsPredefined, IsValue, Place, meaning_in_scope, meaning_of_entity}
use Rattle.types.specs.Scopes.{Scope, form_at, number_of}
use Rattle.types.specs.Shapes.{has_shape, initial, shape_of}
use Rattle.types.specs.Standings.{component_stands, conversion_stands, element_stands, is_single, object_attribute, object_select, select, select_all, settle, stands_first, stands_for, subtype_attribute}
use Rattle.types.specs.Statics.{Keeps, StaticIsValue, start_of, static_form, static_place}
use Rattle.types.specs.Values.{Value, Number, Truth, Array, Record, value_of}
use Rattle.types.specs.Evaluations.{Val, Gives, Raises, Meaningless, and_then, computed}
use Rattle.types.specs.Evaluating.{Calls, actuals_with, applied, call, ended, fixed_name, fixed_value, name_with, predefined_value, val, wanted_by_operation}
use Rattle.expr_soundness.specs.expr_rules.specs.declared.own.Own.TheVariants.{Typed}
use Rattle.expr_soundness.specs.expr_rules.specs.declared.own.Wanted.TheVariants as wanted
use Rattle.expr_soundness.specs.expr_rules.specs.Faults.{Faults, rule}
use Rattle.expr_soundness.specs.expr_rules.specs.ExpressionRules.{faults_of}
use Rattle.expr_soundness.specs.expr_rules.specs.Laws.{type_shape}
use Rattle.expr_soundness.specs.expr_rules.specs.StaticRules.{form_rule, if_unbroken, static_faults}
use Rattle.expr_soundness.specs.expr_rules.specs.Typing.{own_of}
use Rattle.expr_soundness.specs.expr_rules.proofs.TypeShapes.{is_number}
use Rattle.expr_soundness.specs.expr_rules.proofs.TypedLaw.{back_empty, front_empty, span_numeric, suits_number, time_numeric}
use Rattle.expr_soundness.specs.type_rules.specs.ObjectRules.{called_faults, computed_faults, fixed_faults, is_clock, span_call, span_faults}
use Rattle.expr_soundness.specs.type_rules.specs.SubtypeNames.{subtype_faults, subtype_of, wanted_by}
use Rattle.declaration_rules.specs.ProtectedRules.{component_initial_faults, is_component_like, part_faults, parts_faults}
use Rattle.declaration_rules.specs.PackageNames.{program_scope}
use Rattle.legality.specs.ProgramRules.{IsLegal}
use Rattle.expr_soundness.specs.meaning.specs.Programs.{component, components_among, given_or, initial_value, items_among, object_named, objects_or_none, package_items, program_of, subtype_or_integer, variable, variables_among}
use Rattle.expr_soundness.specs.SoundScopes.{IsKnown, SoundScope}
use Rattle.expr_soundness.proofs.FixedNames.{all_valueless, is_valueless}
use Rattle.expr_soundness.proofs.Goods.{not_empty}
use Rattle.expr_soundness.proofs.Parts.{subtype_values}
use Rattle.expr_soundness.proofs.Positions.{entity_number}
use Rattle.step_soundness.specs.Objects.{AreSoundObjects, IsOf}
use Rattle.program_soundness.specs.ScopeLaws.{ObjectsAreSound}
use Rattle.program_soundness.proofs.Declared.{component_named}
use Rattle.program_soundness.proofs.Extending.{Extends, entity_stays, has_types, number_stays, subtype_stays}
use Rattle.program_soundness.proofs.Initials.{IsOperation, IsSpanCall, clock_operation, clock_type, is_now, is_span, of_wanted, span_is, span_type, with_argument}
use Rattle.program_soundness.proofs.Origins.{all_items, at, prefix, scope_of}
use Rattle.program_soundness.proofs.Objects.{object_faults, parts_of_object}
use Rattle.program_soundness.proofs.Statics.{must_be_static}
use Rattle.program_soundness.proofs.Variables.{legal_object}

-- ---- what has its value by types and constants alone keeps it where more names are visible

abbrev by_part : SelectorTree → Role → Option TypeForm → Standing
by_part (Component name) r o = component_stands r o name.name
by_part (Arguments a) r o = element_stands r o (is_single a)
by_part (Attribute name) r o = object_attribute o name.name

part_is : (s : Scope) (r : Role) (t : Subtype) (x : SelectorTree) → object_select s r t x ≡ by_part x r (form_at s t.type_number)
part_is s r t (Component name) = refl
part_is s r t (Arguments a) = refl
part_is s r t (Attribute name) = refl

formless : (x : SelectorTree) (r : Role) → is_valueless (by_part x r None) ≡ true
formless (Component name) r = refl
formless (Arguments a) r = refl
formless (Attribute name) r = refl

no_conversion : (t : Subtype) (o : Option TypeForm) (b : Bool) → is_valueless (conversion_stands t o b) ≡ true
no_conversion t (Some Integers) true = refl
no_conversion t o b = refl

module _ (s g : Scope) (x : Extends s g) where
  -- nothing comes of these
  nothing : (rest : SelectorTrees) (w : Standing) (v : Scalar) → is_valueless w ≡ true → fixed_value (select_all s w rest) ≡ Some v → ⊥
  nothing rest w v h k = let never = sym (all_valueless s rest w h) ∙ k in cc

  object_kept : (sel : SelectorTree) (rest : SelectorTrees) (r : Role) (t : Subtype) (v : Scalar) → fixed_value (select_all s (object_select s r t sel) rest) ≡ Some v
      → object_select g r t sel ≡ object_select s r t sel
  object_kept sel rest r t v h = by_form (form_at s t.type_number) refl
    where
      by_form : (o : Option TypeForm) → form_at s t.type_number ≡ o → object_select g r t sel ≡ object_select s r t sel
      by_form (Some form) e = part_is g r t sel ∙ ap (by_part sel r) ((has_types s g x).forms t.type_number form e ∙ sym e) ∙ sym (part_is s r t sel)
      by_form None e = absurd (nothing rest (object_select s r t sel) v (ap is_valueless (part_is s r t sel ∙ ap (by_part sel r) e) ∙ formless sel r) h)

  attribute_kept : (rest : SelectorTrees) (t : Subtype) (name : List ℕ) (v : Scalar) → fixed_value (select_all s (subtype_attribute t (form_at s t.type_number) name) rest) ≡ Some v
      → subtype_attribute t (form_at g t.type_number) name ≡ subtype_attribute t (form_at s t.type_number) name
  attribute_kept rest t name v h = by_form (form_at s t.type_number) refl
    where
      by_form : (o : Option TypeForm) → form_at s t.type_number ≡ o → subtype_attribute t (form_at g t.type_number) name ≡ subtype_attribute t (form_at s t.type_number) name
      by_form (Some form) e = ap (λ o. subtype_attribute t o name) ((has_types s g x).forms t.type_number form e ∙ sym e)
      by_form None e = absurd (nothing rest (subtype_attribute t (form_at s t.type_number) name) v (ap (λ o. is_valueless (subtype_attribute t o name)) e) h)

  select_kept : (w : Standing) (sel : SelectorTree) (rest : SelectorTrees) (v : Scalar) → is_valueless w ≡ false → fixed_value (select_all s (select s w sel) rest) ≡ Some v
      → select g w sel ≡ select s w sel
  select_kept (standing.Part r t) sel rest v other h = object_kept sel rest r t v h
  select_kept (standing.Fixed t c) sel rest v other h = object_kept sel rest role.Constant t v h
  select_kept (standing.Named t) (Component name) rest v other h = refl
  select_kept (standing.Named t) (Arguments a) rest v other h =
      absurd (nothing rest (conversion_stands t (form_at s t.type_number) (is_single a)) v (no_conversion t (form_at s t.type_number) (is_single a)) h)
  select_kept (standing.Named t) (Attribute name) rest v other h = attribute_kept rest t name.name v h
  select_kept (standing.Given t (Some c)) sel rest v other h = refl
  select_kept (standing.Plain z) sel rest v other h = refl
  select_kept (standing.Given t None) sel rest v other h = cc
  select_kept (standing.Callee f) sel rest v other h = cc
  select_kept standing.Put sel rest v other h = cc
  select_kept (standing.Protected n) sel rest v other h = cc
  select_kept standing.Statement sel rest v other h = cc
  select_kept standing.Task sel rest v other h = cc
  select_kept standing.Other sel rest v other h = cc
  select_kept standing.Doubtful sel rest v other h = cc

  settle_kept : (w : Standing) → is_valueless w ≡ false → settle g w ≡ settle s w
  settle_kept (standing.Part r t) h = refl
  settle_kept (standing.Fixed t c) h = refl
  settle_kept (standing.Named t) h = refl
  settle_kept (standing.Given t (Some c)) h = refl
  settle_kept (standing.Plain z) h = refl
  settle_kept (standing.Given t None) h = cc
  settle_kept (standing.Callee f) h = cc
  settle_kept standing.Put h = cc
  settle_kept (standing.Protected n) h = cc
  settle_kept standing.Statement h = cc
  settle_kept standing.Task h = cc
  settle_kept standing.Other h = cc
  settle_kept standing.Doubtful h = cc

  fixed_kept : (selectors : SelectorTrees) (w : Standing) (v : Scalar) → fixed_value (select_all s w selectors) ≡ Some v → fixed_value (select_all g w selectors) ≡ Some v
  fixed_kept NoSelectors w v h = by_test (is_valueless w) refl
    where
      by_test : (b : Bool) → is_valueless w ≡ b → fixed_value (settle g w) ≡ Some v
      by_test true e = absurd (nothing NoSelectors w v e h)
      by_test false e = ap fixed_value (settle_kept w e) ∙ h
  fixed_kept (MoreSelectors sel rest) w v h = by_test (is_valueless w) refl (fixed_kept rest (select s w sel) v h)
    where
      by_test : (b : Bool) → is_valueless w ≡ b → fixed_value (select_all g (select s w sel) rest) ≡ Some v → fixed_value (select_all g (select g w sel) rest) ≡ Some v
      by_test true e later = absurd (nothing (MoreSelectors sel rest) w v e h)
      by_test false e later = ap (λ u. fixed_value (select_all g u rest)) (select_kept w sel rest v e h) ∙ later

  first_kept : (name : List ℕ) (n : ℕ) → number_of s name ≡ Some n → stands_first g (number_of g name) ≡ stands_first s (number_of s name)
  first_kept name n h =
      let e = entity_number s name n h in
      ap (stands_first g) (number_stays s g name n x h) ∙ ap (stands_for n) (entity_stays s g n e.0 x e.1) ∙ sym (ap (stands_first s) h ∙ ap (stands_for n) e.1)

  pub static_keeps : Keeps s (static_place g)
  static_keeps first selectors v h = by_number (number_of s first.name) refl
    where
      by_number : (o : Option ℕ) → number_of s first.name ≡ o → fixed_name (static_place g) first selectors ≡ Some v
      by_number (Some n) e =
          ap (λ w. fixed_value (select_all g w selectors)) (first_kept first.name n e) ∙ fixed_kept selectors (stands_first s (number_of s first.name)) v h
      by_number None e = absurd (nothing selectors standing.Doubtful v refl (ap (λ k. fixed_value (select_all s (stands_first s k) selectors)) (sym e) ∙ h))

-- ---- numbers of the language's operations

abbrev gives_number : Val Value → Bool
gives_number (Gives v) = is_number v
gives_number v = true

computed_number : (r : Checked) → gives_number (computed r) ≡ true
computed_number (Ok z) = refl
computed_number (Err e) = refl

span_number : (p : Place) (o : PredefinedOperation) (vs : List Value) → gives_number (predefined_value p o vs) ≡ true
span_number p predefined.Milliseconds (Number z ∷ []) = computed_number (product_of (pos 1000) z)
span_number p predefined.Microseconds (Number z ∷ []) = refl
span_number p predefined.Read (Number z ∷ []) = refl
span_number p predefined.Clock [] = refl
span_number p o vs = refl

applied_number : (calls : Calls) (p : Place) (o : PredefinedOperation) (v : Val (List Value))
    → gives_number (and_then (and_then v (applied calls p (IsPredefined o))) (ended calls p)) ≡ true
applied_number calls p o (Gives vs) = by_value (predefined_value p o vs) (span_number p o vs)
  where
    by_value : (r : Val Value) → gives_number r ≡ true → gives_number (and_then (and_then r (λ x. Gives (IsValue x))) (ended calls p)) ≡ true
    by_value (Gives x) h = h
    by_value (Raises e) h = refl
    by_value Meaningless h = refl
applied_number calls p o (Raises e) = refl
applied_number calls p o Meaningless = refl

-- ---- initial values

module _ (law : StaticIsValue) (s : Scope) (sound : SoundScope s) (g : Scope) (x : Extends s g) where
  -- the name of an operation of the language means it at the start, and has no value by types and constants alone
  operation_means : (first : Identifier) (test : PredefinedOperation → Bool) (o : IsOperation s sound first test)
      → meaning_in_scope g (number_of g first.name) ≡ IsPredefined o.operation
  operation_means first test o =
      ap (meaning_in_scope g) (number_stays s g first.name o.number x o.numbered) ∙ ap meaning_of_entity (entity_stays s g o.number _ x o.stands)

  operation_fixed : (first : Identifier) (test : PredefinedOperation → Bool) (o : IsOperation s sound first test) (selectors : SelectorTrees)
      → fixed_value (select_all g (stands_first g (number_of g first.name)) selectors) ≡ None
  operation_fixed first test o selectors =
      ap (λ w. fixed_value (select_all g w selectors)) (ap (stands_first g) (number_stays s g first.name o.number x o.numbered) ∙ ap (stands_for o.number) (entity_stays s g o.number _ x o.stands))
      ∙ all_valueless g selectors (standing.Callee (callee.Direct o.number)) refl

  pub operation_value : (first : Identifier) (test : PredefinedOperation → Bool) (o : IsOperation s sound first test) (selectors : SelectorTrees)
      → val (static_place g) (Named first selectors) ≡ name_with (call 0) (static_place g) (IsPredefined o.operation) selectors
  operation_value first test o selectors =
      ap (λ f. elim f [ Some v ↦ Gives (value_of v) | None ↦ name_with (call 0) (static_place g) (meaning_in_scope g (number_of g first.name)) selectors ]) (operation_fixed first test o selectors)
      ∙ ap (λ m. name_with (call 0) (static_place g) m selectors) (operation_means first test o)

  clock_number : (e : ExprTree) → is_clock s e ≡ true → gives_number (val (static_place g) e) ≡ true
  clock_number (Named first NoSelectors) h =
      let o = clock_operation s sound first h in
      ap gives_number (operation_value first is_now o NoSelectors) ∙ span_number (static_place g) o.operation []
  clock_number e h = cc

  span_call_number : (e : ExprTree) (y : PredefinedOperation × ExprTree) → IsSpanCall s sound e y → gives_number (val (static_place g) e) ≡ true
  span_call_number e y c =
      ap (λ z. gives_number (val (static_place g) z)) c.is ∙ ap gives_number (operation_value c.first is_span c.callee (with_argument y.1))
      ∙ applied_number (call 0) (static_place g) c.callee.operation
      (actuals_with (call 0) (static_place g) (MoreArguments (tree.Value y.1) NoArguments) (wanted_by_operation c.callee.operation))

  number_suits : (n : ℕ) (v : Value) → ((z : ℤ) → has_shape (type_shape s n) (Number z) ≡ true) → is_number v ≡ true → has_shape (type_shape s n) v ≡ true
  number_suits n (Number z) h k = h z
  number_suits n (Truth b) h k = cc
  number_suits n (Array vs) h k = cc
  number_suits n (Record fs) h k = cc

  gives_same : (a b : Value) → Gives a ≡ Gives b → a ≡ b
  gives_same a b h = let read : Val Value → Value = λ r. elim r [ Gives v ↦ v | Raises e ↦ a | Meaningless ↦ a ] in ap read h

  -- what the initial value gives is of the type
  pub value_suits : (t : Subtype) (e : ExprTree) → fixed_faults s (Some t) e ≡ [] → (v : Value) → val (static_place g) e ≡ Gives v → has_shape (type_shape s t.type_number) v ≡ true
  value_suits t e h v given = by_clock (is_clock s e) refl
    where
      n : ℕ
      n = t.type_number

      faults_by : Bool → Option (PredefinedOperation × ExprTree) → Faults
      faults_by b o = elim b [ true ↦ faults_of s (wanted_by (Some t)) e | false ↦ called_faults s (Some t) e o ]

      by_call : (o : Option (PredefinedOperation × ExprTree)) → is_clock s e ≡ false → span_call s e ≡ o → has_shape (type_shape s n) v ≡ true
      by_call (Some y) clock called =
          let c = span_is s sound e y called in
          let faults : span_faults s (Some t) e y.0 y.1 ≡ [] = sym (λ j. faults_by (clock j) (called j)) ∙ h in
          let expected = faults_of s (wanted_by (Some t)) e in
          let form = form_rule (start_of e) (static_form s y.1) in
          let later = if_unbroken expected (computed_faults s (start_of e) y.0 y.1) in
          let one = front_empty expected form (front_empty (expected ++ form) later faults) in
          let typed = span_type s sound n c.first y.1 c.callee (ap (faults_of s (wanted.OfType n)) (sym c.is) ∙ one) in
          number_suits n v (suits_number s (Typed n) (span_numeric s (Typed n) typed.form)) (sym (ap gives_number given) ∙ span_call_number e y c)
      by_call None clock called =
          let faults : static_faults s (wanted.OfType n) (Some t) e ≡ [] = sym (λ j. faults_by (clock j) (called j)) ∙ h in
          let y = must_be_static s sound (wanted.OfType n) (Some t) e faults in
          let same = gives_same v y.value (sym given ∙ law s (static_place g) (call 0) (static_keeps s g x) e y.static ∙ y.gives) in
          ap (has_shape (type_shape s n)) same ∙ of_wanted s n (own_of s e) y.value y.known y.fitting y.typed

      by_clock : (b : Bool) → is_clock s e ≡ b → has_shape (type_shape s n) v ≡ true
      by_clock true clock =
          let faults = sym (ap (λ b. faults_by b (span_call s e)) clock) ∙ h in
          number_suits n v (suits_number s (Typed n) (time_numeric s (Typed n) (clock_type s sound n e clock faults))) (sym (ap gives_number given) ∙ clock_number e clock)
      by_clock false clock = by_call (span_call s e) clock refl

  module _ (shaped : InitialValuesHaveShape) where
    initial_suits : (t : Subtype) → IsOf g t.type_number (initial g t)
    initial_suits t = sym (subtype_values g t (initial g t)) ∙ shaped (shape_of g t)

    -- an object that is declared here
    pub object_suits : (name subtype : Identifier) (value : Option ExprTree) (t : Subtype) → subtype_of s subtype ≡ Some t → IsKnown s t
        → ((e : ExprTree) → value ≡ Some e → fixed_faults s (Some t) e ≡ [])
        → (let y : Object = object_named g name subtype value in IsOf g y.subtype.type_number y.value)
    object_suits name subtype value t is known faults =
        subst (λ u. IsOf g u.type_number (initial_value g u value)) (sym (ap subtype_or_integer (subtype_stays s g subtype t x is))) (by_value value refl)
      where
        there : (v : Value) → has_shape (type_shape s t.type_number) v ≡ true → IsOf g t.type_number v
        there v h = let f = not_empty (form_at s t.type_number) known in ap (λ y. has_shape y v) ((has_types s g x).shapes t.type_number f.0 f.1) ∙ h

        by_given : (e : ExprTree) → value ≡ Some e → (r : Val Value) → val (static_place g) e ≡ r → IsOf g t.type_number (given_or r (initial g t))
        by_given e at (Gives v) given = there v (value_suits t e (faults e at) v given)
        by_given e at (Raises z) given = initial_suits t
        by_given e at Meaningless given = initial_suits t

        by_value : (o : Option ExprTree) → value ≡ o → IsOf g t.type_number (initial_value g t o)
        by_value None at = initial_suits t
        by_value (Some e) at = by_given e at (val (static_place g) e) refl

-- ---- the package

pub items_are : (ds : List ItemTree) (bodies : List BodyItemTree) → items_among (map OfItem ds ++ bodies) ≡ ds ++ items_among bodies
items_are [] bodies = refl
items_are (d ∷ ds) bodies = ap (λ l. d ∷ l) (items_are ds bodies)

-- what holds of each object that a legal declaration of the package makes holds of all variables, and of the components of each protected object
abbrev pub AddsObject : ProgramTree → (List Object → Type 0) → Type 0
AddsObject t Holds = (s : Scope) → SoundScope s → Extends s (program_scope t) → (name subtype : Identifier) (value : Option ExprTree) (u : Subtype)
    → subtype_of s subtype ≡ Some u → IsKnown s u → ((e : ExprTree) → value ≡ Some e → fixed_faults s (Some u) e ≡ [])
    → (xs : List Object) → Holds xs → Holds (object_named (program_scope t) name subtype value ∷ xs)

module _ (Holds : List Object → Type 0) (none : Holds []) where
  abbrev AllHold : List (List Object) → Type 0
  AllHold [] = ⊤
  AllHold (xs ∷ all) = Holds xs × AllHold all

  hold_at : (all : List (List Object)) (n : ℕ) → AllHold all → Holds (objects_or_none (slice_get all n))
  hold_at [] n h = none
  hold_at (xs ∷ all) zero h = h.0
  hold_at (xs ∷ all) (suc n) h = hold_at all n h.1

module _ (t : ProgramTree) (p : PackageTree) (legal : IsLegal t) (is : t.package_ ≡ Some p) (Holds : List Object → Type 0) (none : Holds [])
    (more : AddsObject t Holds) where
  abbrev whole : Scope
  whole = program_scope t

  variable_holds : (front : List BodyItemTree) (d : ObjectTree) (behind : List BodyItemTree) → all_items p ≡ front ++ OfItem (OfObject d) ∷ behind
      → (xs : List Object) → Holds xs → Holds (variable whole d ++ xs)
  variable_holds front d behind split xs rest = by_constant d.constant
    where
      s : Scope
      s = scope_of p front

      initial_faults : Option ExprTree → Faults
      initial_faults o = elim o [ Some e ↦ fixed_faults s (subtype_of s d.subtype) e | None ↦ rule 14 d.name.place d.constant ]

      faults : (e : ExprTree) → d.value ≡ Some e → fixed_faults s (Some (legal_object t p legal is front d behind split).named.subtype) e ≡ []
      faults e at =
          let y = legal_object t p legal is front d behind split in
          ap (λ u. fixed_faults s u e) (sym y.named.is) ∙ sym (ap initial_faults at) ∙ y.initial

      this : Object
      this = object_named whole d.name d.subtype d.value

      with_this : Holds (object_named whole d.name d.subtype d.value ∷ xs)
      with_this =
          let y = legal_object t p legal is front d behind split in
          more s (at t p legal is front (OfItem (OfObject d)) behind split).sound (prefix t p legal is front (OfItem (OfObject d) ∷ behind) split) d.name d.subtype
          d.value y.named.subtype y.named.is y.named.known faults xs rest

      by_constant : (b : Bool) → Holds (cond b [] (object_named whole d.name d.subtype d.value ∷ []) ++ xs)
      by_constant true = rest
      by_constant false = with_this

  next : (front : List BodyItemTree) (i : BodyItemTree) (rest : List BodyItemTree) → all_items p ≡ front ++ i ∷ rest → all_items p ≡ (front ++ i ∷ []) ++ rest
  next front i rest split = split ∙ sym (append_assoc front (i ∷ []) rest)

  variables_hold : (front rest : List BodyItemTree) → all_items p ≡ front ++ rest → Holds (variables_among whole (items_among rest))
  variables_hold front [] split = none
  variables_hold front (OfItem (OfObject d) ∷ rest) split =
      variable_holds front d rest split (variables_among whole (items_among rest))
      (variables_hold (front ++ OfItem (OfObject d) ∷ []) rest (next front (OfItem (OfObject d)) rest split))
  variables_hold front (OfItem (OfType d) ∷ rest) split = variables_hold (front ++ OfItem (OfType d) ∷ []) rest (next front (OfItem (OfType d)) rest split)
  variables_hold front (OfItem (OfException d) ∷ rest) split =
      variables_hold (front ++ OfItem (OfException d) ∷ []) rest (next front (OfItem (OfException d)) rest split)
  variables_hold front (OfItem (OfSubprogram d) ∷ rest) split =
      variables_hold (front ++ OfItem (OfSubprogram d) ∷ []) rest (next front (OfItem (OfSubprogram d)) rest split)
  variables_hold front (OfItem (OfTask d) ∷ rest) split = variables_hold (front ++ OfItem (OfTask d) ∷ []) rest (next front (OfItem (OfTask d)) rest split)
  variables_hold front (OfItem (OfProtected d) ∷ rest) split =
      variables_hold (front ++ OfItem (OfProtected d) ∷ []) rest (next front (OfItem (OfProtected d)) rest split)
  variables_hold front (SubprogramBody d b ∷ rest) split = variables_hold (front ++ SubprogramBody d b ∷ []) rest (next front (SubprogramBody d b) rest split)
  variables_hold front (TaskBody n b ∷ rest) split = variables_hold (front ++ TaskBody n b ∷ []) rest (next front (TaskBody n b) rest split)
  variables_hold front (ProtectedBody n items e ∷ rest) split =
      variables_hold (front ++ ProtectedBody n items e ∷ []) rest (next front (ProtectedBody n items e) rest split)

  parts_hold : (s : Scope) → SoundScope s → Extends s whole → (own : Identifier) (os : List OperationTree) (before cs : List ProtectedComponentTree)
      → parts_faults s own os before cs ≡ [] → Holds (map (component whole) cs)
  parts_hold s sound x own os before [] h = none
  parts_hold s sound x own os before (c ∷ cs) h =
      let here = front_empty (part_faults s own os before c) (parts_faults s own os (before ++ c ∷ []) cs) h in
      let y = component_named s sound own os before c here in
      let like = rule DECLARED_TWICE c.name.place (is_component_like s own os before c.name.name) in
      let initial = back_empty (like ++ subtype_faults s c.subtype) (component_initial_faults s c) here in
      more s sound x c.name c.subtype c.value y.subtype y.is y.known (λ e i. ap (λ u. fixed_faults s u e) (sym y.is) ∙ sym (ap (initial_faults s c) i) ∙ initial)
      (map (component whole) cs)
      (parts_hold s sound x own os (before ++ c ∷ []) cs (back_empty (part_faults s own os before c) (parts_faults s own os (before ++ c ∷ []) cs) h))
    where
      initial_faults : Scope → ProtectedComponentTree → Option ExprTree → Faults
      initial_faults s c o = elim o [ Some e ↦ fixed_faults s (subtype_of s c.subtype) e | None ↦ [] ]

  components_hold : (front rest : List BodyItemTree) → all_items p ≡ front ++ rest → AllHold Holds none (components_among whole (items_among rest))
  components_hold front [] split = tt
  components_hold front (OfItem (OfProtected d) ∷ rest) split = (
    parts_hold (scope_of p front) (at t p legal is front (OfItem (OfProtected d)) rest split).sound (prefix t p legal is front (OfItem (OfProtected d) ∷ rest) split) d.name d.operations [] d.components
        (parts_of_object (scope_of p front) d (object_faults t p legal is front d rest split).0),
    components_hold (front ++ OfItem (OfProtected d) ∷ []) rest (next front (OfItem (OfProtected d)) rest split),
  )
  components_hold front (OfItem (OfObject d) ∷ rest) split = components_hold (front ++ OfItem (OfObject d) ∷ []) rest (next front (OfItem (OfObject d)) rest split)
  components_hold front (OfItem (OfType d) ∷ rest) split = components_hold (front ++ OfItem (OfType d) ∷ []) rest (next front (OfItem (OfType d)) rest split)
  components_hold front (OfItem (OfException d) ∷ rest) split =
      components_hold (front ++ OfItem (OfException d) ∷ []) rest (next front (OfItem (OfException d)) rest split)
  components_hold front (OfItem (OfSubprogram d) ∷ rest) split =
      components_hold (front ++ OfItem (OfSubprogram d) ∷ []) rest (next front (OfItem (OfSubprogram d)) rest split)
  components_hold front (OfItem (OfTask d) ∷ rest) split = components_hold (front ++ OfItem (OfTask d) ∷ []) rest (next front (OfItem (OfTask d)) rest split)
  components_hold front (SubprogramBody d b ∷ rest) split = components_hold (front ++ SubprogramBody d b ∷ []) rest (next front (SubprogramBody d b) rest split)
  components_hold front (TaskBody n b ∷ rest) split = components_hold (front ++ TaskBody n b ∷ []) rest (next front (TaskBody n b) rest split)
  components_hold front (ProtectedBody n items e ∷ rest) split =
      components_hold (front ++ ProtectedBody n items e ∷ []) rest (next front (ProtectedBody n items e) rest split)

  package_variables : Holds (variables_among whole (package_items (Some p)))
  package_variables = subst (λ l. Holds (variables_among whole l)) (items_are p.declaration.items p.body.items) (variables_hold [] (all_items p) refl)

  package_components : (o : ℕ) → Holds (objects_or_none (slice_get (components_among whole (package_items (Some p))) o))
  package_components o =
      hold_at Holds none (components_among whole (package_items (Some p))) o
      (subst (λ l. AllHold Holds none (components_among whole l)) (items_are p.declaration.items p.body.items) (components_hold [] (all_items p) refl))

-- of all objects at the start
pub record FirstObjects (t : ProgramTree) (Holds : List Object → Type 0) : Type 0 where
  pub variables : Holds (program_of t).variables
  pub components : (o : ℕ) → Holds ((program_of t).components o)

pub first_objects : (t : ProgramTree) → IsLegal t → (Holds : List Object → Type 0) → Holds [] → AddsObject t Holds → FirstObjects t Holds
first_objects t legal Holds none more = record { variables = variables t.package_ refl; components = λ o. components o t.package_ refl }
  where
    variables : (o : Option PackageTree) → t.package_ ≡ o → Holds (program_of t).variables
    variables None is = subst (λ o. Holds (variables_among (program_scope t) (package_items o))) (sym is) none
    variables (Some p) is =
        subst (λ o. Holds (variables_among (program_scope t) (package_items o))) (sym is) (package_variables t p legal is Holds none more)

    components : (k : ℕ) → (o : Option PackageTree) → t.package_ ≡ o → Holds ((program_of t).components k)
    components k None is = subst (λ o. Holds (objects_or_none (slice_get (components_among (program_scope t) (package_items o)) k))) (sym is) none
    components k (Some p) is =
        subst (λ o. Holds (objects_or_none (slice_get (components_among (program_scope t) (package_items o)) k))) (sym is)
        (package_components t p legal is Holds none more k)

pub objects_are_sound : StaticIsValue → InitialValuesHaveShape → ObjectsAreSound
objects_are_sound law shaped = record { variables = λ t legal. (first t legal).variables; components = λ t legal. (first t legal).components }
  where
    first : (t : ProgramTree) → IsLegal t → FirstObjects t (AreSoundObjects (program_scope t))
    first t legal =
        first_objects t legal (AreSoundObjects (program_scope t)) tt
        (λ s sound x name subtype value u is known faults xs rest.
        (object_suits law s sound (program_scope t) x shaped name subtype value u is known faults, rest))
