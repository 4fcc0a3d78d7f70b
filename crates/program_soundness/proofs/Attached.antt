-- The handlers of a program: each is a procedure without parameters of a protected object with the highest ceiling (RM C.3.1, D.3).
use Rattle.std.proofs.Common.{◌≡◌, ◌⊎◌, inl, inr, ℕ, zero, suc, pos, negsuc, List, [], ◌∷◌, ◌++◌, not, Bool, true, false, cond, ◌&&◌, ◌||◌, Option, Some, None, refl, sym, ap, ◌∙◌, subst, arith}
use Rattle.std.specs.Prelude.{bytes_eq, is_some, nat_eq, nat_le, option_map, position, slice_get}
use Rattle.std.specs.List.{list_any}
use Rattle.std.proofs.lemmas.Bool.{eqb-true}
use Rattle.expr_soundness.specs.base.specs.declared.limits.TheConstants.{CEILING, PRIORITIES, TASK_PRIORITY}
use Rattle.expr_soundness.specs.ada_tree.specs.declared.expression.Identifier.{Identifier}
use Rattle.expr_soundness.specs.ada_tree.specs.declared.declaration.Formal.{Formal}
use Rattle.expr_soundness.specs.ada_tree.specs.StatementTree.{AspectTree, OperationTree, ProtectedTree, SubprogramTree}
use Rattle.expr_soundness.specs.ada_tree.specs.StatementTree as operation
use Rattle.expr_soundness.specs.ada_tree.specs.ProgramTree.{BodyItemTree, OfItem, SubprogramBody, TaskBody, ProtectedBody, OfType, OfObject, OfException, OfSubprogram, OfTask, OfProtected}
use Rattle.types.specs.declared.entity.RecordComponent.{RecordComponent}
use Rattle.types.specs.Entities.{Doubtful, Entity, Operation, Protected, ProtectedObject}
use Rattle.types.specs.Places.{ceiling_of}
use Rattle.types.specs.Scopes.{Scope, integer_type, is_visible, protected_count, protected_of}
use Rattle.types.specs.Values.{Value, Number, Truth, Array, Record}
use Rattle.expr_soundness.specs.expr_rules.proofs.TypedLaw.{back_empty, front_empty, unbroken}
use Rattle.expr_soundness.specs.expr_rules.specs.Faults.{rule}
use Rattle.expr_soundness.specs.expr_rules.specs.StaticRules.{static_scalar}
use Rattle.expr_soundness.specs.expr_rules.specs.declared.own.Wanted.TheVariants as wanted
use Rattle.expr_soundness.specs.base.specs.declared.faults.TheConstants.{WRONG_ASPECT}
use Rattle.expr_soundness.specs.type_rules.specs.ProfileRules.{formal_parameters, profile_with}
use Rattle.declaration_rules.specs.HandlerChannels.{attached_channel}
use Rattle.declaration_rules.specs.ProtectedRules.{default_ceiling, has_handler, is_entry, is_handler, is_operation_in, object_components, object_operations, object_with, operation_faults, operation_name, operation_profile, operation_profile_faults, operations_faults, protected_entity, protected_faults}
use Rattle.declaration_rules.specs.TaskRules.{is_attachment, is_priority, priority_of, priority_within}
use Rattle.ravenscar.specs.HandlerRules.{attachment_faults, ceiling_faults, has_formals, is_highest, is_lower, none_taken, operation_aspect_faults, operations_aspects_faults, taken_behind}
use Rattle.ravenscar.specs.TaskingRules.{aspect_faults, entries_faults, gives_priority, is_priority_value}
use Rattle.ravenscar.specs.TaskingRules as restricted
use Rattle.expr_soundness.proofs.Positions.{found_at, place_is}
use Rattle.expr_soundness.specs.meaning.specs.Programs.{Attached, Program, attached_by, attached_operation, attached_operations, handler_at, handlers_among, items_among, object_numbered}
use Rattle.expr_soundness.specs.meaning.specs.Calls.{procedure_among}
use Rattle.step_soundness.specs.Fitting.{IsCalled, IsOperation, IsProcedure}
use Rattle.step_soundness.specs.Starting.{IsSoundHandler}
use Rattle.program_soundness.specs.Fronts.{scope_at}
use Rattle.program_soundness.proofs.Listing.{passes_at, same_some}
use Rattle.program_soundness.proofs.WiderScopes.{bytes_same, equal_bytes, number_stands, same_bytes, stands, unseen_none}
use Rattle.program_soundness.proofs.BodyProfiles.{profile_formals, profile_none}
use Rattle.program_soundness.proofs.Walked.{item_new, legal_at}
use Rattle.program_soundness.proofs.OneList.{restricted_at, taken_before}
use Rattle.program_soundness.proofs.Whole.{IsPackage, item_stands, no_doubt}
use Rattle.program_soundness.proofs.Agreed.{OffersAll, place_found}
use Rattle.program_soundness.proofs.ObjectItems.{both_true, either_false, not_true}
use Rattle.program_soundness.proofs.ObjectTrees.{IsDeclared, first_operation, operation_declared, operations_legal}
use Rattle.program_soundness.proofs.ObjectBodies.{IsObjectAt, operations_of}
use Rattle.program_soundness.proofs.PackageBodies.{no_formals}
use Rattle.program_soundness.proofs.Numbers.{AreNumbered, numbered_ceiling}

-- ---- where a handler is declared

handler_both : (channel : ℕ) (xs ys : List Attached) (a : Attached) → handler_at channel (xs ++ ys) ≡ Some a
    → (handler_at channel xs ≡ Some a) ⊎ (handler_at channel ys ≡ Some a)
handler_both channel [] ys a h = inr h
handler_both channel (x ∷ xs) ys a h = by_test (nat_eq x.channel channel) h (λ k. handler_both channel xs ys a k)
  where
    by_test : (b : Bool) → cond b (Some x) (handler_at channel (xs ++ ys)) ≡ Some a
        → (handler_at channel (xs ++ ys) ≡ Some a → (handler_at channel xs ≡ Some a) ⊎ (handler_at channel ys ≡ Some a))
        → (cond b (Some x) (handler_at channel xs) ≡ Some a) ⊎ (handler_at channel ys ≡ Some a)
    by_test true k later = inl k
    by_test false k later = later k

-- among the operations of an object
pub record IsHandlerAmong (object : Option ℕ) (os : List OperationTree) (a : Attached) : Type 0 where
  pub place : ℕ
  pub tree : SubprogramTree
  pub aspect : AspectTree
  pub at : slice_get os place ≡ Some (operation.OfSubprogram tree (Some aspect))
  pub attachment : is_attachment aspect ≡ true
  pub named : a.name ≡ tree.name.name
  pub object_is : object ≡ Some a.object

one_attached : (s : Scope) (object : Option ℕ) (d : SubprogramTree) (x : AspectTree) (channel : ℕ) (a : Attached)
    → handler_at channel (attached_operation s object (operation.OfSubprogram d (Some x))) ≡ Some a
    → (is_attachment x ≡ true) × (a.name ≡ d.name.name) × (object ≡ Some a.object)
one_attached s object d x channel a h = by_test (is_attachment x) refl h
  where
    by_channel : (o c : ℕ) (b : Bool) → object ≡ Some o → cond b (Some (let r : Attached = record { channel = c; object = o; name = d.name.name } in r)) None ≡ Some a
        → (a.name ≡ d.name.name) × (object ≡ Some a.object)
    by_channel o c true is k =
        let same = same_some (record { channel = c; object = o; name = d.name.name }) a k in (ap (λ r. r.name) (sym same), is ∙ ap (λ r. Some r.object) same)
    by_channel o c false is k = cc

    by_parts : (p q : Option ℕ) → object ≡ p → handler_at channel (attached_by d.name.name p q) ≡ Some a → (a.name ≡ d.name.name) × (object ≡ Some a.object)
    by_parts (Some o) (Some c) is k = by_channel o c (nat_eq c channel) is k
    by_parts (Some o) None is k = cc
    by_parts None q is k = cc

    by_test : (b : Bool) → is_attachment x ≡ b → handler_at channel (cond b (attached_by d.name.name object (attached_channel s x)) []) ≡ Some a
        → (is_attachment x ≡ true) × (a.name ≡ d.name.name) × (object ≡ Some a.object)
    by_test true is k = let both = by_parts object (attached_channel s x) refl k in (is, both.0, both.1)
    by_test false is k = cc

attached_in : (s : Scope) (object : Option ℕ) (os : List OperationTree) (channel : ℕ) (a : Attached) → handler_at channel (attached_operations s object os) ≡ Some a
    → IsHandlerAmong object os a
attached_in s object [] channel a h = cc
attached_in s object (o ∷ os) channel a h =
    by_case o (handler_both channel (attached_operation s object o) (attached_operations s object os) a h) (λ k. attached_in s object os channel a k)
  where
    behind : (o : OperationTree) → IsHandlerAmong object os a → IsHandlerAmong object (o ∷ os) a
    behind o x = record {
      place = suc x.place;
      tree = x.tree;
      aspect = x.aspect;
      at = x.at;
      attachment = x.attachment;
      named = x.named;
      object_is = x.object_is;
    }

    by_case : (o : OperationTree) → (handler_at channel (attached_operation s object o) ≡ Some a) ⊎ (handler_at channel (attached_operations s object os) ≡ Some a)
        → (handler_at channel (attached_operations s object os) ≡ Some a → IsHandlerAmong object os a)
        → IsHandlerAmong object (o ∷ os) a
    by_case o (inr k) later = behind o (later k)
    by_case (operation.OfSubprogram d (Some x)) (inl k) later =
        let one = one_attached s object d x channel a k in
        record { place = 0; tree = d; aspect = x; at = refl; attachment = one.0; named = one.1; object_is = one.2 }
    by_case (operation.OfSubprogram d None) (inl k) later = cc
    by_case (operation.OfEntry d) (inl k) later = cc

-- among the declarations of a package
pub record IsAttached (s : Scope) (all : List BodyItemTree) (a : Attached) : Type 0 where
  pub place : ℕ
  pub tree : ProtectedTree
  pub at : slice_get all place ≡ Some (OfItem (OfProtected tree))
  pub among : IsHandlerAmong (object_numbered s tree.name) tree.operations a

pub attached_found : (s : Scope) (all : List BodyItemTree) (channel : ℕ) (a : Attached) → handler_at channel (handlers_among s (items_among all)) ≡ Some a
    → IsAttached s all a
attached_found s [] channel a h = cc
attached_found s (x ∷ rest) channel a h = by_item x h (λ k. attached_found s rest channel a k)
  where
    behind : (x : BodyItemTree) → IsAttached s rest a → IsAttached s (x ∷ rest) a
    behind x k = record { place = suc k.place; tree = k.tree; at = k.at; among = k.among }

    by_item : (x : BodyItemTree) → handler_at channel (handlers_among s (items_among (x ∷ rest))) ≡ Some a
        → (handler_at channel (handlers_among s (items_among rest)) ≡ Some a → IsAttached s rest a)
        → IsAttached s (x ∷ rest) a
    by_item (OfItem (OfProtected d)) k later =
        by_place (handler_both channel (attached_operations s (object_numbered s d.name) d.operations) (handlers_among s (items_among rest)) a k)
      where
        by_place : (handler_at channel (attached_operations s (object_numbered s d.name) d.operations) ≡ Some a)
            ⊎ (handler_at channel (handlers_among s (items_among rest)) ≡ Some a)
            → IsAttached s (OfItem (OfProtected d) ∷ rest) a
        by_place (inl i) = record { place = 0; tree = d; at = refl; among = attached_in s (object_numbered s d.name) d.operations channel a i }
        by_place (inr i) = behind (OfItem (OfProtected d)) (later i)
    by_item (OfItem (OfType d)) k later = behind (OfItem (OfType d)) (later k)
    by_item (OfItem (OfObject d)) k later = behind (OfItem (OfObject d)) (later k)
    by_item (OfItem (OfException name)) k later = behind (OfItem (OfException name)) (later k)
    by_item (OfItem (OfSubprogram d)) k later = behind (OfItem (OfSubprogram d)) (later k)
    by_item (OfItem (OfTask d)) k later = behind (OfItem (OfTask d)) (later k)
    by_item (SubprogramBody d b) k later = behind (SubprogramBody d b) (later k)
    by_item (TaskBody name b) k later = behind (TaskBody name b) (later k)
    by_item (ProtectedBody name items end_name) k later = behind (ProtectedBody name items end_name) (later k)

-- ---- no two operations of an object have one name

any_both : {X : Type 0} (test : X → Bool) (xs ys : List X) → list_any test (xs ++ ys) ≡ (list_any test xs || list_any test ys)
any_both test [] ys = refl
any_both test (x ∷ xs) ys = ap (λ b. test x || b) (any_both test xs ys) ∙ either (test x) (list_any test xs) (list_any test ys)
  where
    either : (a b c : Bool) → (a || (b || c)) ≡ ((a || b) || c)
    either true b c = refl
    either false b c = refl

unlike_before : (s : Scope) (own : Identifier) (before ts : List OperationTree) (k : ℕ) (t : OperationTree) → operations_faults s own before ts ≡ []
    → slice_get ts k ≡ Some t → is_operation_in before (operation_name t).name ≡ false
unlike_before s own before [] k t h at = cc
unlike_before s own before (x ∷ xs) zero t h at =
    let one = front_empty (operation_faults s own before x) (operations_faults s own (before ++ x ∷ []) xs) h in
    let like = unbroken _ (operation_name x).place _ (front_empty _ (operation_profile_faults s x) one) in
    subst (λ o. is_operation_in before (operation_name o).name ≡ false) (same_some x t at)
    (either_false (is_visible s (operation_name x).name || bytes_eq own.name (operation_name x).name) (is_operation_in before (operation_name x).name) like).1
unlike_before s own before (x ∷ xs) (suc k) t h at =
    let name = (operation_name t).name in
    let rest = unlike_before s own (before ++ x ∷ []) xs k t (back_empty (operation_faults s own before x) (operations_faults s own (before ++ x ∷ []) xs) h) at in
    (either_false (is_operation_in before name) (is_operation_in (x ∷ []) name) (sym (any_both (λ o. bytes_eq (operation_name o).name name) before (x ∷ [])) ∙ rest)).0

unlike_first : (s : Scope) (own : Identifier) (before : List OperationTree) (x : OperationTree) (xs : List OperationTree) (k : ℕ) (t : OperationTree)
    → operations_faults s own before (x ∷ xs) ≡ [] → slice_get xs k ≡ Some t → (operation_name x).name ≡ (operation_name t).name → ⊥
unlike_first s own before x xs k t h at same =
    let name = (operation_name t).name in
    let rest = unlike_before s own (before ++ x ∷ []) xs k t (back_empty (operation_faults s own before x) (operations_faults s own (before ++ x ∷ []) xs) h) at in
    let last =
    (either_false (is_operation_in before name) (is_operation_in (x ∷ []) name) (sym (any_both (λ o. bytes_eq (operation_name o).name name) before (x ∷ [])) ∙ rest)).1 in
    let other : bytes_eq (operation_name x).name name ≡ false = (either_false (bytes_eq (operation_name x).name name) false last).0 in
    let is : bytes_eq (operation_name x).name name ≡ true = equal_bytes (operation_name x).name name same in
    cc

apart : (s : Scope) (own : Identifier) (before ts : List OperationTree) (i j : ℕ) (t u : OperationTree) → operations_faults s own before ts ≡ []
    → slice_get ts i ≡ Some t → slice_get ts j ≡ Some u → (operation_name t).name ≡ (operation_name u).name
    → i ≡ j
apart s own before [] i j t u h at there same = cc
apart s own before (x ∷ xs) zero zero t u h at there same = refl
apart s own before (x ∷ xs) zero (suc j) t u h at there same =
    absurd (unlike_first s own before x xs j u h there (ap (λ o. (operation_name o).name) (same_some x t at) ∙ same))
apart s own before (x ∷ xs) (suc i) zero t u h at there same =
    absurd (unlike_first s own before x xs i t h at (ap (λ o. (operation_name o).name) (same_some x u there) ∙ sym same))
apart s own before (x ∷ xs) (suc i) (suc j) t u h at there same =
    ap suc
    (apart s own (before ++ x ∷ []) xs i j t u (back_empty (operation_faults s own before x) (operations_faults s own (before ++ x ∷ []) xs) h) at there same)

-- ---- rules of handlers

no_formal : (fs : List Formal) → has_formals fs ≡ false → fs ≡ []
no_formal [] h = refl
no_formal (f ∷ fs) h = cc

no_result : (r : Option Identifier) → is_some r ≡ false → r ≡ None
no_result None h = refl
no_result (Some name) h = cc

-- a handler is a procedure without formals
plain_at : (s : Scope) (taken : List Bool) (os : List OperationTree) (k : ℕ) (d : SubprogramTree) (x : AspectTree) → operations_aspects_faults s taken os ≡ []
    → slice_get os k ≡ Some (operation.OfSubprogram d (Some x))
    → is_attachment x ≡ true
    → (d.result ≡ None) × (d.formals ≡ [])
plain_at s taken [] k d x h at is = cc
plain_at s taken (o ∷ os) zero d x h at is =
    let one = front_empty (operation_aspect_faults s taken o) (operations_aspects_faults s (taken_behind s taken o) os) h in
    let own : operation_aspect_faults s taken (operation.OfSubprogram d (Some x)) ≡ [] =
    subst (λ t. operation_aspect_faults s taken t ≡ []) (same_some o (operation.OfSubprogram d (Some x)) at) one in
    let attached : attachment_faults s taken d x ≡ [] =
    ap (λ b. cond b (attachment_faults s taken d x) (rule WRONG_ASPECT x.place true)) (sym is) ∙ own in
    let profile = unbroken _ x.place (is_some d.result || has_formals d.formals) (front_empty _ _ (front_empty _ _ attached)) in
    let two = either_false (is_some d.result) (has_formals d.formals) profile in
    (no_result d.result two.0, no_formal d.formals two.1)
plain_at s taken (o ∷ os) (suc k) d x h at is =
    plain_at s (taken_behind s taken o) os k d x (back_empty (operation_aspect_faults s taken o) (operations_aspects_faults s (taken_behind s taken o) os) h) at is

-- an object that has one has the highest ceiling
highest_value : (other : ℕ) (v : Option Value) → is_highest v ≡ true → priority_within CEILING other v ≡ CEILING
highest_value other (Some (Number (pos n))) h =
    ap (λ k. elim (nat_le k CEILING) [ true ↦ k | false ↦ other ]) (eqb-true n CEILING h)
highest_value other (Some (Number (negsuc n))) h = cc
highest_value other (Some (Truth b)) h = cc
highest_value other (Some (Array vs)) h = cc
highest_value other (Some (Record fs)) h = cc
highest_value other None h = cc

highest_ceiling : (s : Scope) (os : List OperationTree) → has_handler os ≡ true → (a : Option AspectTree) → aspect_faults s CEILING a ≡ []
    → ceiling_faults s os a ≡ []
    → priority_of s CEILING (default_ceiling os) a ≡ CEILING
highest_ceiling s os handler None h k = ap (λ b. elim b [ true ↦ CEILING | false ↦ TASK_PRIORITY ]) handler
highest_ceiling s os handler (Some a) h k =
    let v = static_scalar s (wanted.OfType integer_type) None a.value in
    let gives = not_true (gives_priority s CEILING a) (unbroken _ a.place (not (gives_priority s CEILING a)) h) in
    let priority = (both_true (is_priority a) (is_priority_value CEILING v) gives).0 in
    let lower : is_lower s a ≡ false = ap (λ b. b && is_lower s a) (sym handler) ∙ unbroken _ a.place (has_handler os && is_lower s a) k in
    let not_highest : not (is_highest v) ≡ false = ap (λ b. b && not (is_highest v)) (sym priority) ∙ lower in
    highest_value (default_ceiling os) v (not_true (is_highest v) not_highest)

-- ---- what a declaration declares, where it is known

known_object : (number ceiling : ℕ) (a : Option (List Operation)) (b : Option (List RecordComponent)) → (object_with number ceiling a b ≡ Doubtful → ⊥)
    → (o : ProtectedObject) × (object_with number ceiling a b ≡ Protected o) × (o.ceiling ≡ ceiling)
known_object number ceiling (Some a) (Some b) known =
    (record { number = number; ceiling = ceiling; operations = a; components = b; barrier = None }, refl, refl)
known_object number ceiling (Some a) None known = absurd (known refl)
known_object number ceiling None b known = absurd (known refl)

operation_there : (s : Scope) (ts : List OperationTree) (os : List Operation) (k : ℕ) (t : OperationTree) → object_operations s ts ≡ Some os
    → slice_get ts k ≡ Some t
    → (x : Operation) × (slice_get os k ≡ Some x) × (x.name ≡ (operation_name t).name)
operation_there s [] os k t h at = cc
operation_there s (u ∷ ts) os zero t h at =
    let x = first_operation s u ts os h in (
      record { name = (operation_name u).name; is_entry = is_entry u; profile = x.profile },
      ap (λ l. slice_get l 0) x.is,
      ap (λ o. (operation_name o).name) (same_some u t at),
    )
operation_there s (u ∷ ts) os (suc k) t h at =
    let x = first_operation s u ts os h in
    let rest = operation_there s ts x.rest k t x.further at in (rest.0, ap (λ l. slice_get l (suc k)) x.is ∙ rest.1, rest.2)

-- ---- a handler

module _ (program : Program) (s : Scope) (all : List BodyItemTree) (w : IsPackage program s all)
    (offers : (name : List ℕ) (o : ProtectedObject) → stands program.scope name ≡ Some (Protected o) → OffersAll program o)
    (numbered : AreNumbered 0 program.scope) (a : Attached) (x : IsAttached program.scope all a) where
  abbrev here : Scope
  here = scope_at s all x.place

  abbrev d : ProtectedTree
  d = x.tree

  abbrev own : IsHandlerAmong (object_numbered program.scope d.name) d.operations a
  own = x.among

  legal : protected_faults here d ≡ []
  legal = legal_at s all x.place (OfItem (OfProtected d)) x.at w.list.legal

  limits : restricted.protected_faults here (taken_before s none_taken all x.place) d ≡ []
  limits = restricted_at s all w.list x.place (OfItem (OfProtected d)) x.at

  stands_there : (e : Entity) → protected_entity here d ≡ e → stands program.scope d.name.name ≡ Some e
  stands_there e is =
      item_stands program s all w x.place (OfItem (OfProtected d)) d.name.name e x.at
      (unseen_none here d.name.name (item_new here (OfProtected d) legal))
      (ap (λ b. cond b (Some (protected_entity here d)) None) (bytes_same d.name.name) ∙ ap Some is)

  object : (o : ProtectedObject) × (protected_entity here d ≡ Protected o) × (o.ceiling ≡ priority_of here CEILING (default_ceiling d.operations) d.aspect)
  object =
      known_object (protected_count here) (priority_of here CEILING (default_ceiling d.operations) d.aspect) (object_operations here d.operations)
      (object_components here d.components) (λ is. no_doubt program s all w d.name.name (stands_there Doubtful is))

  there : stands program.scope d.name.name ≡ Some (Protected object.0)
  there = stands_there (Protected object.0) object.1

  number_is : object.0.number ≡ a.object
  number_is =
      same_some object.0.number a.object (sym (ap (λ o. option_map (λ y. y.number) (protected_of o)) there) ∙ own.object_is)

  declared : IsObjectAt program s all w d.name.name object.0
  declared = record { place = x.place; tree = d; at = x.at; named = refl; is = object.1 }

  operations : object_operations here d.operations ≡ Some object.0.operations
  unfolding declared
  operations = operations_of program s all w d.name.name object.0 declared

  abbrev tree : OperationTree
  tree = operation.OfSubprogram own.tree (Some own.aspect)

  aspects : operations_aspects_faults here (taken_before s none_taken all x.place) d.operations ≡ []
  aspects =
      back_empty (aspect_faults here CEILING d.aspect ++ ceiling_faults here d.operations d.aspect ++ entries_faults false d.operations)
      (operations_aspects_faults here (taken_before s none_taken all x.place) d.operations) limits

  plain : (own.tree.result ≡ None) × (own.tree.formals ≡ [])
  plain = plain_at here (taken_before s none_taken all x.place) d.operations own.place own.tree own.aspect aspects own.at own.attachment

  first : (n : ℕ) × (position (λ y. bytes_eq y.name a.name) object.0.operations ≡ Some n)
  first =
      let y = operation_there here d.operations object.0.operations own.place tree operations own.at in
      place_found (λ z. bytes_eq z.name a.name) object.0.operations own.place y.0 y.1 (equal_bytes y.0.name a.name (y.2 ∙ sym own.named))

  found : (y : Operation) × (slice_get object.0.operations first.0 ≡ Some y) × (bytes_eq y.name a.name ≡ true)
  found =
      found_at (λ y. bytes_eq y.name a.name) object.0.operations first.0 (sym (place_is (λ y. bytes_eq y.name a.name) object.0.operations) ∙ first.1)

  of_tree : IsDeclared here d.operations first.0 found.0
  of_tree = operation_declared here d.operations object.0.operations first.0 found.0 operations found.1

  same_tree : of_tree.tree ≡ tree
  same_tree =
      let names = sym of_tree.named ∙ (same_bytes found.0.name a.name found.2 ∙ own.named) in
      let places = apart here d.name [] d.operations first.0 own.place of_tree.tree tree (operations_legal here d legal) of_tree.at own.at names in
      same_some of_tree.tree tree (sym of_tree.at ∙ ap (slice_get d.operations) places ∙ own.at)

  profiled : profile_with here (formal_parameters here own.tree.formals) own.tree.result ≡ Some found.0.profile
  profiled = ap (operation_profile here) (sym same_tree) ∙ of_tree.profile

  returns_none : found.0.profile.result ≡ None
  returns_none =
      profile_none here (formal_parameters here own.tree.formals) found.0.profile
      (ap (profile_with here (formal_parameters here own.tree.formals)) (sym plain.0) ∙ profiled)

  takes_none : found.0.profile.formals ≡ []
  takes_none =
      sym
      (same_some [] found.0.profile.formals
      (ap (formal_parameters here) (sym plain.1) ∙ profile_formals here (formal_parameters here own.tree.formals) own.tree.result found.0.profile profiled))

  called : IsProcedure (procedure_among program.procedures (Some object.0.number) a.name) found.0.profile
  called =
      let entry : found.0.is_entry ≡ false = of_tree.kind ∙ ap is_entry same_tree in
      let is = (offers d.name.name object.0 there).operations a.name first.0 found.0 first.1 found.1 in
      subst (IsCalled (procedure_among program.procedures (Some object.0.number) a.name) found.0.profile) returns_none
      (subst (λ b. IsOperation program (procedure_among program.procedures (Some object.0.number) a.name) b found.0.profile) entry is)

  ceiling_highest : object.0.ceiling ≡ CEILING
  ceiling_highest =
      let front = front_empty (aspect_faults here CEILING d.aspect ++ ceiling_faults here d.operations d.aspect) (entries_faults false d.operations)
      (front_empty (aspect_faults here CEILING d.aspect ++ ceiling_faults here d.operations d.aspect ++ entries_faults false d.operations)
      (operations_aspects_faults here (taken_before s none_taken all x.place) d.operations) limits) in
      object.2
      ∙ highest_ceiling here d.operations (passes_at is_handler d.operations own.place tree own.at own.attachment) d.aspect
      (front_empty (aspect_faults here CEILING d.aspect) (ceiling_faults here d.operations d.aspect) front)
      (back_empty (aspect_faults here CEILING d.aspect) (ceiling_faults here d.operations d.aspect) front)

  pub handler_there : IsSoundHandler program a
  handler_there =
      let n = number_stands program.scope d.name.name (Protected object.0) there in
      let ceiling = (numbered_ceiling 0 program.scope n.0 object.0 numbered n.2).1 ∙ ceiling_highest in
      let last : suc CEILING ≡ PRIORITIES = omega arith in
      record {
        procedure = called.procedure;
        is = ap (λ m. procedure_among program.procedures (Some m) a.name) (sym number_is) ∙ called.is;
        closed = called.barrier;
        plain = no_formals called.procedure.parameters (called.formals ∙ takes_none);
        highest = ap (λ m. suc (ceiling_of program.scope m)) (sym number_is) ∙ ap suc ceiling ∙ last;
      }
