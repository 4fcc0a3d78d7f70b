-- Code has first words for each variable of an accepted text, and for each component of its protected objects: a given value is known, and takes words.
use Rattle.std.proofs.Common.{◌≡◌, ℕ, zero, suc, Bool, true, false, cond, List, [], ◌∷◌, ◌++◌, length, map, ◌||◌, Option, Some, None, refl, sym, ap, ◌∙◌, subst, arith}
use Rattle.std.specs.Prelude.{bytes_eq, is_some, nat_le, slice_get}
use Rattle.std.proofs.lemmas.Bool.{and_from, le-leb}
use Rattle.ada_tree.specs.declared.expression.Identifier.{Identifier}
use Rattle.ada_tree.specs.ExpressionTree.{ExprTree}
use Rattle.ada_tree.specs.StatementTree.{ObjectTree, OperationTree, ProtectedComponentTree, ProtectedTree}
use Rattle.ada_tree.specs.ProgramTree.{BodyItemTree, OfException, OfItem, OfObject, OfProtected, OfSubprogram, OfTask, OfType, ProgramTree, ProtectedBody, SubprogramBody, TaskBody}
use Rattle.types.specs.declared.entity.Subtype.{Subtype}
use Rattle.types.specs.Laws.{ValuesHaveWords}
use Rattle.types.specs.Places.{Object}
use Rattle.types.specs.Scopes.{Scope, base_range_of, is_visible}
use Rattle.types.specs.Shapes.{shape_of, value_words}
use Rattle.expr_soundness.specs.expr_rules.specs.Laws.{type_shape}
use Rattle.expr_soundness.specs.expr_rules.specs.Faults.{rule}
use Rattle.base.specs.declared.faults.TheConstants.{DECLARED_TWICE, NOT_STATIC}
use Rattle.expr_soundness.specs.expr_rules.proofs.TypedLaw.{back_empty, front_empty, unbroken}
use Rattle.expr_soundness.specs.type_rules.specs.ObjectRules.{fixed_faults, fixed_initial_faults, fixed_scalar}
use Rattle.expr_soundness.specs.type_rules.specs.SubtypeNames.{declared_twice, subtype_faults, subtype_of}
use Rattle.expr_soundness.specs.meaning.specs.Programs.{component, components_among, initial_value, items_among, object_named, objects_or_none, program_of, subtype_named, variable, variables_among}
use Rattle.expr_soundness.specs.Laws.{ScopesAreSound}
use Rattle.expr_soundness.specs.SoundScopes.{IsKnown}
use Rattle.program_soundness.specs.declaration_rules.specs.ProtectedRules.{component_initial_faults, is_component_in, is_component_like, is_operation_in, is_operation_like, part_faults, parts_faults}
use Rattle.legality.specs.ProgramRules.{IsLegal}
use Rattle.program_soundness.specs.ravenscar.specs.ProgramRules.{IsRestricted}
use Rattle.program_soundness.specs.step_soundness.specs.Objects.{AreSoundObjects, IsOf}
use Rattle.program_soundness.specs.BodyLaws.{NamesAreKnown, PremisesHold}
use Rattle.program_soundness.specs.ScopeLaws.{DeclarationsAreSound, ObjectsAreSound}
use Rattle.program_soundness.specs.Fronts.{declared_in, front, start_in}
use Rattle.program_soundness.proofs.BodyProfiles.{named_is, subtype_kept}
use Rattle.program_soundness.proofs.Extending.{Extends}
use Rattle.program_soundness.proofs.Listing.{same_some}
use Rattle.program_soundness.proofs.ObjectItems.{either_false}
use Rattle.program_soundness.proofs.ObjectTrees.{parts_legal}
use Rattle.program_soundness.proofs.Trees.{tree_package}
use Rattle.program_soundness.proofs.Walked.{item_new, legal_at}
use Rattle.program_soundness.proofs.Whole.{IsPackage, kept, known_subtype}
use Rattle.package_code.specs.Providing.{component_tells, tells_value, tells_words}
use Rattle.std.specs.List.{list_all}
use Rattle.part_code.specs.Providing.{is_full}
use Rattle.part_code.proofs.FullWords.{full_some}
use Rattle.source_laws.proofs.LaterValues.{fixed_same, fixed_some}
use Rattle.source_laws.proofs.VisibleWords.{behind_front}

-- ---- the objects of a list of declarations and bodies

behind_sound : (s : Scope) (xs ys : List Object) → AreSoundObjects s (xs ++ ys) → AreSoundObjects s ys
behind_sound s [] ys h = h
behind_sound s (x ∷ xs) ys h = behind_sound s xs ys h.1

-- the initial value of a variable is of its type
abbrev IsItemSound : Scope → BodyItemTree → Type 0
IsItemSound s (OfItem (OfObject d)) =
    d.constant ≡ false → IsOf s (subtype_named s d.subtype).type_number (initial_value s (subtype_named s d.subtype) d.value)
IsItemSound s x = Unit {0}

object_sound : (s : Scope) (d : ObjectTree) (xs : List Object) → AreSoundObjects s (variable s d ++ xs) → IsItemSound s (OfItem (OfObject d))
object_sound s d xs h constant = by_constant d.constant h constant
  where
    by_constant : (b : Bool) → AreSoundObjects s (cond b [] (object_named s d.name d.subtype d.value ∷ []) ++ xs) → b ≡ false
        → IsOf s (subtype_named s d.subtype).type_number (initial_value s (subtype_named s d.subtype) d.value)
    by_constant true k c = cc
    by_constant false k c = k.0

first_sound : (s : Scope) (x : BodyItemTree) (rest : List BodyItemTree) → AreSoundObjects s (variables_among s (items_among (x ∷ rest)))
    → IsItemSound s x × AreSoundObjects s (variables_among s (items_among rest))
first_sound s (OfItem (OfObject d)) rest h =
    let others = variables_among s (items_among rest) in (object_sound s d others h, behind_sound s (variable s d) others h)
first_sound s (OfItem (OfType d)) rest h = (tt, h)
first_sound s (OfItem (OfException name)) rest h = (tt, h)
first_sound s (OfItem (OfSubprogram d)) rest h = (tt, h)
first_sound s (OfItem (OfTask d)) rest h = (tt, h)
first_sound s (OfItem (OfProtected d)) rest h = (tt, h)
first_sound s (SubprogramBody d b) rest h = (tt, h)
first_sound s (TaskBody name b) rest h = (tt, h)
first_sound s (ProtectedBody name items end_name) rest h = (tt, h)

item_sound : (s : Scope) (xs : List BodyItemTree) (k : ℕ) (x : BodyItemTree) → slice_get xs k ≡ Some x
    → AreSoundObjects s (variables_among s (items_among xs))
    → IsItemSound s x
item_sound s [] k x at h = cc
item_sound s (y ∷ rest) zero x at h = subst (IsItemSound s) (same_some y x at) (first_sound s y rest h).0
item_sound s (y ∷ rest) (suc k) x at h = item_sound s rest k x at (first_sound s y rest h).1

-- ---- the components of protected objects

-- those of one stand among those of all
among_components : (s : Scope) (xs : List BodyItemTree) (k : ℕ) (d : ProtectedTree) → slice_get xs k ≡ Some (OfItem (OfProtected d))
    → (o : ℕ) × (slice_get (components_among s (items_among xs)) o ≡ Some (map (component s) d.components))
among_components s [] k d at = cc
among_components s (x ∷ rest) zero d at =
    subst (λ y. (o : ℕ) × (slice_get (components_among s (items_among (y ∷ rest))) o ≡ Some (map (component s) d.components)))
    (sym (same_some x (OfItem (OfProtected d)) at)) (0, refl)
among_components s (OfItem (OfProtected e) ∷ rest) (suc k) d at = let x = among_components s rest k d at in (suc x.0, x.1)
among_components s (OfItem (OfObject e) ∷ rest) (suc k) d at = among_components s rest k d at
among_components s (OfItem (OfType e) ∷ rest) (suc k) d at = among_components s rest k d at
among_components s (OfItem (OfException name) ∷ rest) (suc k) d at = among_components s rest k d at
among_components s (OfItem (OfSubprogram e) ∷ rest) (suc k) d at = among_components s rest k d at
among_components s (OfItem (OfTask e) ∷ rest) (suc k) d at = among_components s rest k d at
among_components s (SubprogramBody e b ∷ rest) (suc k) d at = among_components s rest k d at
among_components s (TaskBody name b ∷ rest) (suc k) d at = among_components s rest k d at
among_components s (ProtectedBody name items end_name ∷ rest) (suc k) d at = among_components s rest k d at

-- a component that is like nothing has a name of its own
new_part : (s : Scope) (own : Identifier) (ts : List OperationTree) (before : List ProtectedComponentTree) (name : List ℕ)
    → is_component_like s own ts before name ≡ false → is_visible s name ≡ false
new_part s own ts before name h =
    let operation = (either_false (is_operation_like s own ts name) (is_component_in before name) h).0 in
    let first = (either_false (is_visible s name || bytes_eq own.name name) (is_operation_in ts name) operation).0 in
    (either_false (is_visible s name) (bytes_eq own.name name) first).0

-- ---- variables and components of a text

module _ (premises : PremisesHold) (names : NamesAreKnown) (scopes : ScopesAreSound) (declarations : DeclarationsAreSound) (objects : ObjectsAreSound)
    (sized : ValuesHaveWords) (t : ProgramTree) (legal : IsLegal t) (restricted : IsRestricted t)
    (full : (u : Subtype) → IsKnown (program_of t).scope u → is_full (shape_of (program_of t).scope u) ≡ true) where
  abbrev all : List BodyItemTree
  all = declared_in t.package_

  abbrev start : Scope
  start = start_in t.package_

  abbrev whole : Scope
  whole = (program_of t).scope

  abbrev w : IsPackage (program_of t) start all
  w = tree_package t legal restricted (premises t legal).sound

  whole_extends : (place : ℕ) → Extends (front t place) whole
  whole_extends place = let more = behind_front t place in (more.0, sym w.scope ∙ more.1)

  -- an object that is given its value in front of a place of the package, or none
  module _ (place : ℕ) (name subtype : Identifier) (value : Option ExprTree) (new : is_visible (front t place) name.name ≡ false)
      (named : subtype_faults (front t place) subtype ≡ [])
      (given : (e : ExprTree) → value ≡ Some e → fixed_faults (front t place) (subtype_of (front t place) subtype) e ≡ [])
      (suited : IsOf whole (subtype_named whole subtype).type_number (initial_value whole (subtype_named whole subtype) value)) where
    abbrev here : Scope
    here = front t place

    told : (u : Subtype) × (subtype_of here subtype ≡ Some u)
    told = known_subtype (program_of t) start all w place subtype named

    abbrev u : Subtype
    u = told.0

    named_whole : subtype_of whole subtype ≡ Some u
    named_whole = subtype_kept here whole (kept (program_of t) start all w place) subtype u told.1

    known_whole : IsKnown whole u
    known_whole = scopes.subtype whole subtype u (premises t legal).sound named_whole

    -- a given value is known
    value_known : (e : ExprTree) → value ≡ Some e → is_some (fixed_scalar whole (Some u) e) ≡ true
    value_known e is =
        let unbroken : fixed_faults here (Some u) e ≡ [] = ap (λ o. fixed_faults here o e) (sym told.1) ∙ given e is in
        let some = fixed_some declarations here ((names t legal restricted).fronts place) name subtype u e new named told.1 unbroken in
        ap is_some (fixed_same here whole (whole_extends place) ((names t legal restricted).fronts place) u e unbroken ∙ some.1)

    value_told : tells_value whole u value ≡ true
    value_told = by_value value refl
      where
        by_value : (o : Option ExprTree) → value ≡ o → tells_value whole u o ≡ true
        by_value None is = refl
        by_value (Some e) is = value_known e is

    -- it takes words
    takes_words : nat_le 1 (length (value_words (initial_value whole u value))) ≡ true
    takes_words =
        let same = named_is whole subtype u named_whole in
        let own : IsOf whole u.type_number (initial_value whole u value) =
        subst (λ v. IsOf whole v.type_number (initial_value whole v value)) same suited in
        let sizes = (sized (type_shape whole u.type_number) (initial_value whole u value) own).sized in
        let some = full_some (type_shape whole u.type_number) (full (base_range_of u.type_number) known_whole) in
        le-leb 1 (length (value_words (initial_value whole u value))) (omega (arith, sizes, some))

    object_told : tells_words whole (subtype_of whole subtype) value ≡ true
    object_told =
        ap (λ o. tells_words whole o value) named_whole
        ∙ and_from (tells_value whole u value) (nat_le 1 (length (value_words (initial_value whole u value)))) value_told takes_words

  -- ---- variables

  module _ (place : ℕ) (d : ObjectTree) (at : slice_get all place ≡ Some (OfItem (OfObject d))) (variable_ : d.constant ≡ false) where
    abbrev judged_here : subtype_faults (front t place) d.subtype ++ fixed_initial_faults (front t place) d ++ declared_twice (front t place) d.name ≡ []
    judged_here = legal_at start all place (OfItem (OfObject d)) at w.list.legal

    initial_legal : fixed_initial_faults (front t place) d ≡ []
    initial_legal =
        back_empty (subtype_faults (front t place) d.subtype) (fixed_initial_faults (front t place) d)
        (front_empty (subtype_faults (front t place) d.subtype ++ fixed_initial_faults (front t place) d) (declared_twice (front t place) d.name) judged_here)

    pub variable_told : tells_words whole (subtype_of whole d.subtype) d.value ≡ true
    variable_told =
        object_told place d.name d.subtype d.value (item_new (front t place) (OfObject d) judged_here)
        (front_empty (subtype_faults (front t place) d.subtype) (fixed_initial_faults (front t place) d)
        (front_empty (subtype_faults (front t place) d.subtype ++ fixed_initial_faults (front t place) d) (declared_twice (front t place) d.name) judged_here))
        (λ e is. sym (ap (λ o. elim o [
          | Some v ↦ fixed_faults (front t place) (subtype_of (front t place) d.subtype) v
          | None ↦ rule NOT_STATIC d.name.place d.constant
        ]) is) ∙ initial_legal)
        (item_sound whole all place (OfItem (OfObject d)) at (subst (AreSoundObjects whole) w.variables (objects.variables t legal)) variable_)

  -- ---- components of protected objects

  module _ (place : ℕ) (d : ProtectedTree) (at : slice_get all place ≡ Some (OfItem (OfProtected d))) where
    abbrev before : Scope
    before = front t place

    parts_unbroken : parts_faults before d.name d.operations [] d.components ≡ []
    parts_unbroken = parts_legal before d (legal_at start all place (OfItem (OfProtected d)) at w.list.legal)

    -- their values at the start are of their types
    parts_suited : AreSoundObjects whole (map (component whole) d.components)
    parts_suited =
        let x = among_components whole all place d at in
        subst (AreSoundObjects whole) (ap (λ f. f x.0) w.components ∙ ap objects_or_none x.1) (objects.components t legal x.0)

    part_told : (seen : List ProtectedComponentTree) (c : ProtectedComponentTree) → part_faults before d.name d.operations seen c ≡ []
        → IsOf whole (subtype_named whole c.subtype).type_number (initial_value whole (subtype_named whole c.subtype) c.value)
        → component_tells whole c ≡ true
    part_told seen c h suited =
        let like = is_component_like before d.name d.operations seen c.name.name in
        let two = front_empty (rule DECLARED_TWICE c.name.place like ++ subtype_faults before c.subtype) (component_initial_faults before c) h in
        let initial = back_empty (rule DECLARED_TWICE c.name.place like ++ subtype_faults before c.subtype) (component_initial_faults before c) h in
        object_told place c.name c.subtype c.value
        (new_part before d.name d.operations seen c.name.name
        (unbroken DECLARED_TWICE c.name.place like (front_empty (rule DECLARED_TWICE c.name.place like) (subtype_faults before c.subtype) two)))
        (back_empty (rule DECLARED_TWICE c.name.place like) (subtype_faults before c.subtype) two)
        (λ e is. sym (ap (λ o. elim o [ Some v ↦ fixed_faults before (subtype_of before c.subtype) v | None ↦ [] ]) is) ∙ initial)
        suited

    parts_told : (seen cs : List ProtectedComponentTree) → parts_faults before d.name d.operations seen cs ≡ []
        → AreSoundObjects whole (map (component whole) cs) → list_all (component_tells whole) cs ≡ true
    parts_told seen [] h suited = refl
    parts_told seen (c ∷ cs) h suited =
        let own = part_faults before d.name d.operations seen c in
        let rest = parts_faults before d.name d.operations (seen ++ c ∷ []) cs in
        and_from (component_tells whole c) (list_all (component_tells whole) cs) (part_told seen c (front_empty own rest h) suited.0)
        (parts_told (seen ++ c ∷ []) cs (back_empty own rest h) suited.1)

    pub components_told : list_all (component_tells whole) d.components ≡ true
    components_told = parts_told [] d.components parts_unbroken parts_suited
