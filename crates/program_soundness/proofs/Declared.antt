-- Each declaration that breaks no rule keeps a scope sound.
use Rattle.std.proofs.Common.{◌≡◌, ◌++◌, length, List, [], ◌∷◌, Bool, true, false, not, ◌||◌, Option, Some, None, refl, sym, ap, ◌∙◌, subst}
use Rattle.std.specs.Prelude.{nat_le}
use Rattle.std.proofs.lemmas.Bool.{or_parts}
use Rattle.expr_soundness.specs.base.specs.declared.faults.TheConstants.{DECLARED_TWICE, LIMIT_PASSED, NOT_STATIC, WRONG_FUNCTION}
use Rattle.expr_soundness.specs.base.specs.declared.limits.TheConstants.{CEILING, FORMALS}
use Rattle.expr_soundness.specs.ada_tree.specs.declared.declaration.Formal.{Formal}
use Rattle.expr_soundness.specs.ada_tree.specs.declared.declaration.Mode.{Mode}
use Rattle.expr_soundness.specs.ada_tree.specs.declared.declaration.Mode.TheVariants as mode
use Rattle.expr_soundness.specs.ada_tree.specs.declared.expression.Identifier.{Identifier}
use Rattle.expr_soundness.specs.ada_tree.specs.ExpressionTree.{ExprTree}
use Rattle.expr_soundness.specs.ada_tree.specs.StatementTree.{DeclarationTree, LocalObject, LocalTask, LocalProtected, ObjectTree, OperationTree, OfEntry, ProtectedComponentTree, ProtectedTree, SubprogramTree}
use Rattle.expr_soundness.specs.ada_tree.specs.StatementTree.{OfSubprogram as OfOperation}
use Rattle.expr_soundness.specs.ada_tree.specs.ProgramTree.{ItemTree, OfType as OfTypeItem, OfObject, OfException, OfSubprogram, OfTask, OfProtected}
use Rattle.types.specs.declared.entity.Subtype.{Subtype}
use Rattle.types.specs.declared.entity.Role.{Role}
use Rattle.types.specs.declared.entity.Role.TheVariants as role
use Rattle.types.specs.declared.entity.Value.{Value as Scalar}
use Rattle.types.specs.declared.entity.FormalParameter.{FormalParameter}
use Rattle.types.specs.declared.entity.RecordComponent.{RecordComponent}
use Rattle.types.specs.Entities.{Entity, Profile, Operation, Object, Constant, Exception}
use Rattle.types.specs.Scopes.{Scope, is_visible}
use Rattle.types.specs.Shapes.{has_shape, shape_of}
use Rattle.types.specs.Values.{value_of}
use Rattle.expr_soundness.specs.expr_rules.specs.Faults.{Faults, rule}
use Rattle.expr_soundness.specs.expr_rules.proofs.TypedLaw.{back_empty, front_empty, unbroken}
use Rattle.expr_soundness.specs.type_rules.specs.SubtypeNames.{declared_twice, end_rule, is_composite, subtype_faults, subtype_of}
use Rattle.expr_soundness.specs.type_rules.specs.TypeRules.{definition_entity, definition_faults}
use Rattle.expr_soundness.specs.type_rules.specs.ProfileRules.{formal_and, formal_faults, formal_parameters, formals_faults, function_faults, given_profile, has_wrong_formal, is_formal_in, is_in, is_wrong_formal, profile_entity, profile_faults, profile_with, result_faults, subprogram_scope}
use Rattle.expr_soundness.specs.type_rules.specs.ObjectRules.{constant_entity, fixed_faults, fixed_initial_faults, fixed_object_faults, initial_scalar, local_initial_faults, object_entity, package_object_entity, role_of}
use Rattle.declaration_rules.specs.BodyNames.{formal_role, formal_scope, formals_scope}
use Rattle.declaration_rules.specs.ItemRules.{item_faults, item_scope, items_faults, items_scope}
use Rattle.declaration_rules.specs.LocalRules.{fixed_local_faults, fixed_locals_faults, local_faults, local_scope, locals_faults, locals_scope}
use Rattle.declaration_rules.specs.ProtectedRules.{component_initial_faults, default_ceiling, is_component_like, is_operation_like, object_components, object_operations, object_with, operation_and, operation_faults, operation_name, operation_profile, operation_profile_faults, operations_faults, part_and, part_faults, parts_faults, protected_count, protected_entity, protected_faults}
use Rattle.declaration_rules.specs.ProtectedRules as objects
use Rattle.declaration_rules.specs.TaskRules.{aspect_faults, operation_aspect_faults, priority_of}
use Rattle.expr_soundness.specs.SoundScopes.{AreIn, AreKnown, AreKnownParts, AreSoundOperations, IsKnown, IsSoundObject, IsSoundOperation, IsSoundProfile, SoundScope}
use Rattle.expr_soundness.proofs.Widening.{subtype_known}
use Rattle.program_soundness.proofs.Extending.{Extends, SameSubtypes, extends_more, name_extends, subtype_stays}
use Rattle.program_soundness.proofs.Initials.{initial_known}
use Rattle.program_soundness.proofs.Subtypes.{IsFresh, IsNamed, added, definition_fresh, subtype_named}

-- ---- profiles, judged where the same names are subtypes

module _ (s judged : Scope) (sound : SoundScope s) (sound_there : SoundScope judged) (same : SameSubtypes s judged) where
  -- a subtype that is named there is named here
  named_here : (name : Identifier) → subtype_faults judged name ≡ [] → IsNamed s name
  named_here name h =
      let x = subtype_named judged sound_there name h in
      let is : subtype_of s name ≡ Some x.subtype = sym (same name) ∙ x.is in
      record { subtype = x.subtype; is = is; known = subtype_known s name x.subtype sound is }

  pub record HasFormals (fs : List Formal) : Type 0 where
    pub formals : List FormalParameter
    pub is : formal_parameters s fs ≡ Some formals
    pub known : AreKnown s formals
    pub modes : has_wrong_formal judged fs ≡ false → AreIn formals

  formal_named : (before : List Formal) (f : Formal) → formal_faults judged before f ≡ [] → IsNamed s f.subtype
  formal_named before f h =
      let like = rule DECLARED_TWICE f.name.place (is_visible judged f.name.name || is_formal_in before f.name.name) in
      let limit = rule LIMIT_PASSED f.name.place (nat_le FORMALS (length before)) in
      named_here f.subtype (back_empty (like ++ limit) (subtype_faults judged f.subtype) h)

  in_is : (m : Mode) → not (is_in m) ≡ false → m ≡ mode.In
  in_is mode.In h = refl
  in_is mode.Out h = cc
  in_is mode.InOut h = cc

  pub formals_known : (before fs : List Formal) → formals_faults judged before fs ≡ [] → HasFormals fs
  formals_known before [] h = record { formals = []; is = refl; known = tt; modes = λ k. tt }
  formals_known before (f ∷ fs) h =
      let x = formal_named before f (front_empty (formal_faults judged before f) (formals_faults judged (before ++ f ∷ []) fs) h) in
      let rest = formals_known (before ++ f ∷ []) fs (back_empty (formal_faults judged before f) (formals_faults judged (before ++ f ∷ []) fs) h) in
      record {
        formals = record { mode = f.mode; subtype = x.subtype } ∷ rest.formals;
        is = λ j. formal_and f (x.is j) (rest.is j);
        known = (x.known, rest.known);
        modes =
            λ k. (let two = or_parts (is_wrong_formal judged f) (has_wrong_formal judged fs) k in
            let one = or_parts (not (is_in f.mode)) (is_composite judged (subtype_of judged f.subtype)) two.0 in
            (in_is f.mode one.0, rest.modes two.1));
      }

  pub record HasProfile (d : SubprogramTree) : Type 0 where
    pub profile : Profile
    pub is : profile_with s (formal_parameters s d.formals) d.result ≡ Some profile
    pub profiled : IsSoundProfile s profile

  pub profile_known : (d : SubprogramTree) → profile_faults judged d ≡ [] → HasProfile d
  profile_known d h = by_result d.result refl
    where
      formals : Faults
      formals = formals_faults judged [] d.formals

      result : Faults
      result = result_faults judged d.result

      function : Faults
      function = function_faults judged d.name d.formals d.result

      two : formals ++ result ≡ []
      two = front_empty (formals ++ result) function h

      first : formals ≡ []
      first = front_empty formals result two

      x : HasFormals d.formals
      x = formals_known [] d.formals first

      by_result : (r : Option Identifier) → d.result ≡ r → HasProfile d
      by_result None is =
          record {
            profile = record { formals = x.formals; result = None };
            is = λ j. profile_with s (x.is j) (is j);
            profiled = record { known = x.known; result = tt };
          }
      by_result (Some name) is =
          let named : subtype_faults judged name ≡ [] = ap (result_faults judged) (sym is) ∙ back_empty formals result two in
          let y = named_here name named in
          let composite = is_composite judged (subtype_of judged name) || has_wrong_formal judged d.formals in
          let rules : rule WRONG_FUNCTION d.name.place composite ≡ [] = ap (function_faults judged d.name d.formals) (sym is) ∙ back_empty (formals ++ result) function h in
          let wrong = or_parts (is_composite judged (subtype_of judged name)) (has_wrong_formal judged d.formals) (unbroken WRONG_FUNCTION d.name.place composite rules) in
          record {
            profile = record { formals = x.formals; result = Some y.subtype };
            is = (λ j. profile_with s (x.is j) (is j)) ∙ ap (given_profile x.formals) y.is;
            profiled = record { known = x.known; result = (y.known, x.modes wrong.1) };
          }

  pub subprogram_added : (d : SubprogramTree) → profile_faults judged d ≡ [] → SoundScope (subprogram_scope s d)
  subprogram_added d h =
      let x = profile_known d h in
      added s d.name.name (profile_entity (profile_with s (formal_parameters s d.formals) d.result)) sound
      (subst (IsFresh s) (sym (ap profile_entity x.is)) (record { sound = x.profiled; untimed = refl }))

-- formals are judged in front of the first of them
pub formals_sound : (s later : Scope) (before fs : List Formal) → SoundScope s → Extends s later → SoundScope later → formals_faults s before fs ≡ []
    → SoundScope (formals_scope later fs)
formals_sound s later before [] sound x there h = there
formals_sound s later before (f ∷ fs) sound x there h =
    let like = rule DECLARED_TWICE f.name.place (is_visible s f.name.name || is_formal_in before f.name.name) in
    let limit = rule LIMIT_PASSED f.name.place (nat_le FORMALS (length before)) in
    let one = front_empty (formal_faults s before f) (formals_faults s (before ++ f ∷ []) fs) h in
    let y = subtype_named s sound f.subtype (back_empty (like ++ limit) (subtype_faults s f.subtype) one) in
    let is = subtype_stays s later f.subtype y.subtype x y.is in
    let known = subtype_known later f.subtype y.subtype there is in
    let r = formal_role f.mode in
    let next = added later f.name.name (object_entity r (subtype_of later f.subtype)) there
    (subst (IsFresh later) (sym (ap (object_entity r) is)) (record { sound = formal_known f.mode later y.subtype known; untimed = refl })) in
    formals_sound s (formal_scope later f) (before ++ f ∷ []) fs sound (extends_more s later (formal_scope later f) x (name_extends later _ _)) next
    (back_empty (formal_faults s before f) (formals_faults s (before ++ f ∷ []) fs) h)
  where
    formal_known : (m : Mode) (u : Scope) (t : Subtype) → IsKnown u t → IsSoundObject u (formal_role m) t
    formal_known mode.In u t known = known
    formal_known mode.Out u t known = known
    formal_known mode.InOut u t known = known

module _ (s : Scope) (sound : SoundScope s) where
  pub profile_here : (d : SubprogramTree) → profile_faults s d ≡ [] → HasProfile s s sound sound (λ name. refl) d
  profile_here d h = profile_known s s sound sound (λ name. refl) d h

  pub subprogram_sound : (d : SubprogramTree) → profile_faults s d ≡ [] → SoundScope (subprogram_scope s d)
  subprogram_sound d h = subprogram_added s s sound sound (λ name. refl) d h

  -- ---- objects

  pub object_fresh : (r : Role) (t : Subtype) → IsSoundObject s r t → IsFresh s (Object r t)
  object_fresh r t known = record { sound = known; untimed = refl }

  constant_role : (b : Bool) (t : Subtype) → IsKnown s t → IsSoundObject s (role_of b) t
  constant_role true t known = known
  constant_role false t known = known

  pub local_object_sound : (d : ObjectTree) → subtype_faults s d.subtype ≡ [] → SoundScope (local_scope s (LocalObject d))
  local_object_sound d h =
      let x = subtype_named s sound d.subtype h in
      added s d.name.name (object_entity (role_of d.constant) (subtype_of s d.subtype)) sound
      (subst (IsFresh s) (sym (ap (object_entity (role_of d.constant)) x.is)) (object_fresh (role_of d.constant) x.subtype (constant_role d.constant x.subtype x.known)))

  constant_fresh : (t : Subtype) (v : Scalar) → IsKnown s t → has_shape (shape_of s t) (value_of v) ≡ true → IsFresh s (Constant t (Some v))
  constant_fresh t v known suited = record { sound = record { known = known; value = v; given = refl; suited = suited }; untimed = refl }

  package_constant : (d : ObjectTree) (x : IsNamed s d.subtype) (o : Option ExprTree) → d.value ≡ o → d.constant ≡ true → fixed_initial_faults s d ≡ []
      → IsFresh s (constant_entity (subtype_of s d.subtype) (initial_scalar s (subtype_of s d.subtype) d.value))
  package_constant d x (Some e) value constant h =
      let faults : fixed_faults s (Some x.subtype) e ≡ [] = ap (λ t. fixed_faults s t e) (sym x.is) ∙ ap (initial_faults d) (sym value) ∙ h in
      let v = initial_known s sound x.subtype e faults in
      let is : constant_entity (subtype_of s d.subtype) (initial_scalar s (subtype_of s d.subtype) d.value) ≡ Constant x.subtype (Some v.value) =
      (λ j. constant_entity (x.is j) (initial_scalar s (x.is j) (value j))) ∙ ap (constant_entity (Some x.subtype)) v.is in
      subst (IsFresh s) (sym is) (constant_fresh x.subtype v.value x.known v.suited)
    where
      initial_faults : ObjectTree → Option ExprTree → Faults
      initial_faults d o = elim o [ Some e ↦ fixed_faults s (subtype_of s d.subtype) e | None ↦ rule NOT_STATIC d.name.place d.constant ]
  package_constant d x None value constant h =
      let never : rule NOT_STATIC d.name.place true ≡ [] = sym (λ j. initial_faults d (value j) (constant j)) ∙ h in cc
    where
      initial_faults : ObjectTree → Option ExprTree → Bool → Faults
      initial_faults d o b = elim o [ Some e ↦ fixed_faults s (subtype_of s d.subtype) e | None ↦ rule NOT_STATIC d.name.place b ]

  package_object_fresh : (d : ObjectTree) → IsNamed s d.subtype → fixed_initial_faults s d ≡ [] → IsFresh s (package_object_entity s d)
  package_object_fresh d x h = by_constant d.constant refl
    where
      variable : Entity
      variable = object_entity role.Variable (subtype_of s d.subtype)

      constant : Entity
      constant = constant_entity (subtype_of s d.subtype) (initial_scalar s (subtype_of s d.subtype) d.value)

      by_constant : (b : Bool) → d.constant ≡ b → IsFresh s (package_object_entity s d)
      by_constant true is =
          subst (IsFresh s) (sym (ap (λ b. elim b [ true ↦ constant | false ↦ variable ]) is)) (package_constant d x d.value refl is h)
      by_constant false is =
          subst (IsFresh s) (sym (ap (λ b. elim b [ true ↦ constant | false ↦ variable ]) is ∙ ap (object_entity role.Variable) x.is)) (object_fresh role.Variable x.subtype x.known)

  pub package_object_sound : (d : ObjectTree) → fixed_object_faults s d ≡ [] → SoundScope (item_scope s (OfObject d))
  package_object_sound d h =
      let two = front_empty (subtype_faults s d.subtype ++ fixed_initial_faults s d) (declared_twice s d.name) h in
      let x = subtype_named s sound d.subtype (front_empty (subtype_faults s d.subtype) (fixed_initial_faults s d) two) in
      added s d.name.name (package_object_entity s d) sound (package_object_fresh d x (back_empty (subtype_faults s d.subtype) (fixed_initial_faults s d) two))

  -- ---- protected objects

  pub record HasOperation (o : OperationTree) : Type 0 where
    pub profile : Profile
    pub is : operation_profile s o ≡ Some profile
    pub profiled : IsSoundOperation s (objects.is_entry o) profile

  pub operation_known : (o : OperationTree) → operation_profile_faults s o ≡ [] → HasOperation o
  operation_known (OfOperation d a) h =
      let x = profile_here d (front_empty (profile_faults s d) (operation_aspect_faults s a) h) in
      record { profile = x.profile; is = x.is; profiled = x.profiled }
  operation_known (OfEntry d) h =
      let x = formals_known s s sound sound (λ name. refl) [] d.formals h in
      record { profile = record { formals = x.formals; result = None }; is = λ j. profile_with s (x.is j) None; profiled = record { known = x.known; none = refl } }

  pub record HasOperations (os : List OperationTree) : Type 0 where
    pub operations : List Operation
    pub is : object_operations s os ≡ Some operations
    pub profiled : AreSoundOperations s operations

  pub operations_known : (own : Identifier) (before os : List OperationTree) → operations_faults s own before os ≡ [] → HasOperations os
  operations_known own before [] h = record { operations = []; is = refl; profiled = tt }
  operations_known own before (o ∷ os) h =
      let one = operation_faults s own before o in
      let more = operations_faults s own (before ++ o ∷ []) os in
      let like = rule DECLARED_TWICE (operation_name o).place (is_operation_like s own before (operation_name o).name) in
      let x = operation_known o (back_empty like (operation_profile_faults s o) (front_empty one more h)) in
      let rest = operations_known own (before ++ o ∷ []) os (back_empty one more h) in
      record {
        operations = record { name = (operation_name o).name; is_entry = objects.is_entry o; profile = x.profile } ∷ rest.operations;
        is = λ j. operation_and o (x.is j) (rest.is j);
        profiled = (x.profiled, rest.profiled);
      }

  pub record HasParts (cs : List ProtectedComponentTree) : Type 0 where
    pub components : List RecordComponent
    pub is : object_components s cs ≡ Some components
    pub known : AreKnownParts s components

  pub component_named : (own : Identifier) (os : List OperationTree) (before : List ProtectedComponentTree) (c : ProtectedComponentTree)
      → part_faults s own os before c ≡ [] → IsNamed s c.subtype
  component_named own os before c h =
      let like = rule DECLARED_TWICE c.name.place (is_component_like s own os before c.name.name) in
      subtype_named s sound c.subtype (back_empty like (subtype_faults s c.subtype) (front_empty (like ++ subtype_faults s c.subtype) (component_initial_faults s c) h))

  pub parts_known : (own : Identifier) (os : List OperationTree) (before cs : List ProtectedComponentTree) → parts_faults s own os before cs ≡ [] → HasParts cs
  parts_known own os before [] h = record { components = []; is = refl; known = tt }
  parts_known own os before (c ∷ cs) h =
      let one = part_faults s own os before c in
      let more = parts_faults s own os (before ++ c ∷ []) cs in
      let x = component_named own os before c (front_empty one more h) in
      let rest = parts_known own os (before ++ c ∷ []) cs (back_empty one more h) in
      record {
        components = record { name = c.name.name; subtype = x.subtype } ∷ rest.components;
        is = λ j. part_and c (x.is j) (rest.is j);
        known = (x.known, rest.known);
      }

  -- what a protected object that breaks no rule is
  pub record IsObject (d : ProtectedTree) : Type 0 where
    pub operations : HasOperations d.operations
    pub components : HasParts d.components

  pub object_known : (d : ProtectedTree) → protected_faults s d ≡ [] → IsObject d
  object_known d h =
      let aspect = aspect_faults s d.aspect in
      let operations = operations_faults s d.name [] d.operations in
      let parts = parts_faults s d.name d.operations [] d.components in
      let ended = end_rule d.name d.end_name in
      let four = front_empty (aspect ++ operations ++ parts ++ ended) (declared_twice s d.name) h in
      let three = front_empty (aspect ++ operations ++ parts) ended four in
      let two = front_empty (aspect ++ operations) parts three in
      record {
        operations = operations_known d.name [] d.operations (back_empty aspect operations two);
        components = parts_known d.name d.operations [] d.components (back_empty (aspect ++ operations) parts three);
      }

  pub protected_sound : (d : ProtectedTree) → protected_faults s d ≡ [] → SoundScope (objects.protected_scope s d)
  protected_sound d h =
      let x = object_known d h in
      added s d.name.name (protected_entity s d) sound
      (subst (IsFresh s) (sym (λ j. object_with (protected_count s) (priority_of s CEILING (default_ceiling d.operations) d.aspect) (x.operations.is j) (x.components.is j)))
      (record { sound = (x.operations.profiled, x.components.known); untimed = refl }))

-- ---- all of them

pub item_sound : (s : Scope) (d : ItemTree) → SoundScope s → item_faults s d ≡ [] → SoundScope (item_scope s d)
item_sound s (OfTypeItem d) sound h =
    added s d.name.name (definition_entity s d.definition) sound
    (definition_fresh s sound d.definition (front_empty (definition_faults s d.definition) (declared_twice s d.name) h))
item_sound s (OfObject d) sound h = package_object_sound s sound d h
item_sound s (OfException name) sound h = added s name.name Exception sound (record { sound = tt; untimed = refl })
item_sound s (OfSubprogram d) sound h = subprogram_sound s sound d (front_empty (profile_faults s d) (declared_twice s d.name) h)
item_sound s (OfTask d) sound h = added s d.name.name _ sound (record { sound = tt; untimed = refl })
item_sound s (OfProtected d) sound h = protected_sound s sound d h

pub items_sound : (s : Scope) (ds : List ItemTree) → SoundScope s → items_faults s ds ≡ [] → SoundScope (items_scope s ds)
items_sound s [] sound h = sound
items_sound s (d ∷ ds) sound h =
    items_sound (item_scope s d) ds (item_sound s d sound (front_empty (item_faults s d) (items_faults (item_scope s d) ds) h))
    (back_empty (item_faults s d) (items_faults (item_scope s d) ds) h)

local_sound : (s : Scope) (d : DeclarationTree) → SoundScope s → local_faults s d ≡ [] → SoundScope (local_scope s d)
local_sound s (LocalObject d) sound h =
    local_object_sound s sound d
    (front_empty (subtype_faults s d.subtype) (local_initial_faults s d) (front_empty (subtype_faults s d.subtype ++ local_initial_faults s d) (declared_twice s d.name) h))
local_sound s (LocalTask d) sound h = added s d.name.name _ sound (record { sound = tt; untimed = refl })
local_sound s (LocalProtected d) sound h = protected_sound s sound d h

fixed_local_sound : (s : Scope) (d : DeclarationTree) → SoundScope s → fixed_local_faults s d ≡ [] → SoundScope (local_scope s d)
fixed_local_sound s (LocalObject d) sound h =
    local_object_sound s sound d
    (front_empty (subtype_faults s d.subtype) (fixed_initial_faults s d) (front_empty (subtype_faults s d.subtype ++ fixed_initial_faults s d) (declared_twice s d.name) h))
fixed_local_sound s (LocalTask d) sound h = added s d.name.name _ sound (record { sound = tt; untimed = refl })
fixed_local_sound s (LocalProtected d) sound h = protected_sound s sound d h

pub locals_sound : (s : Scope) (ds : List DeclarationTree) → SoundScope s → locals_faults s ds ≡ [] → SoundScope (locals_scope s ds)
locals_sound s [] sound h = sound
locals_sound s (d ∷ ds) sound h =
    locals_sound (local_scope s d) ds (local_sound s d sound (front_empty (local_faults s d) (locals_faults (local_scope s d) ds) h))
    (back_empty (local_faults s d) (locals_faults (local_scope s d) ds) h)

pub fixed_locals_sound : (s : Scope) (ds : List DeclarationTree) → SoundScope s → fixed_locals_faults s ds ≡ [] → SoundScope (locals_scope s ds)
fixed_locals_sound s [] sound h = sound
fixed_locals_sound s (d ∷ ds) sound h =
    fixed_locals_sound (local_scope s d) ds (fixed_local_sound s d sound (front_empty (fixed_local_faults s d) (fixed_locals_faults (local_scope s d) ds) h))
    (back_empty (fixed_local_faults s d) (fixed_locals_faults (local_scope s d) ds) h)
