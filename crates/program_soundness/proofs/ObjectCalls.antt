-- Operations of protected objects by their names: what a look-up finds has the profile that the name stands for (RM 9.4, 9.5.1, 9.5.3).
use Rattle.std.proofs.Common.{◌≡◌, ◌<◌, ℕ, zero, suc, List, [], ◌∷◌, take, map, Bool, true, false, ◌⊎◌, inl, inr, Option, Some, None, refl, sym, ap, ◌∙◌, subst, arith}
use Rattle.std.specs.Prelude.{is_some, slice_get}
use Rattle.expr_soundness.specs.ada_tree.specs.declared.expression.Identifier.{Identifier}
use Rattle.expr_soundness.specs.ada_tree.specs.ExpressionTree.{ExprTree}
use Rattle.expr_soundness.specs.ada_tree.specs.StatementTree.{EntryTree, OperationTree, SubprogramTree}
use Rattle.expr_soundness.specs.ada_tree.specs.StatementTree as operation
use Rattle.expr_soundness.specs.ada_tree.specs.ProgramTree.{BodyTree, BodyItemTree, OfItem, ProtectedBody, OfProtected, ProtectedItemTree, OperationBody, EntryBody}
use Rattle.types.specs.declared.entity.Subtype.{Subtype}
use Rattle.types.specs.Entities.{Entity, Profile, ProtectedObject, Protected, Subprogram}
use Rattle.types.specs.Entities as entity
use Rattle.types.specs.Scopes.{Scope}
use Rattle.types.specs.Evaluating.{formal_subtype}
use Rattle.types.specs.Places.{Function, function_of, is_of}
use Rattle.expr_soundness.specs.expr_rules.proofs.TypedLaw.{back_empty, front_empty, judged, same_number, unbroken}
use Rattle.expr_soundness.specs.type_rules.specs.ProfileRules.{formal_parameters, profile_with}
use Rattle.declaration_rules.specs.ProtectedRules as declared
use Rattle.conformance.specs.MatchingRules.{is_second_operation, same_name}
use Rattle.conformance.specs.MatchingRules as matching
use Rattle.unit_rules.specs.BodyRules.{function_body_faults, head_faults, is_function_body}
use Rattle.ravenscar.specs.TaskingRules as profile
use Rattle.expr_soundness.specs.Agreeing.{HasProfile}
use Rattle.expr_soundness.specs.meaning.specs.Programs.{Procedure, Program, formal, object_numbered, parameter, returned}
use Rattle.expr_soundness.specs.meaning.specs.Calls.{procedure_among}
use Rattle.step_soundness.specs.Fitting.{IsEntry, IsProcedure, entry_of, formal_of}
use Rattle.program_soundness.specs.Fronts.{scope_at}
use Rattle.program_soundness.proofs.Listing.{Has, none_passes, not_both, same_some, taken_at}
use Rattle.program_soundness.proofs.WiderScopes.{equal_bytes, stands}
use Rattle.program_soundness.proofs.BodyProfiles.{named_is, parameters_are, profile_formals, profile_none, profile_some, subtypes_are}
use Rattle.program_soundness.proofs.OneList.{is_object_body, restricted_at}
use Rattle.program_soundness.proofs.Callables.{Bodied, InObject, InPackage, all_functions, all_procedures, any_entry, any_function, any_procedure, bodies_among, body_place, found_entry, found_function, found_procedure, functions_are, operation_body, operation_has, procedure_by, procedures_are}
use Rattle.program_soundness.proofs.Whole.{IsPackage, kept, value_returned}
use Rattle.program_soundness.proofs.Called.{object_there}
use Rattle.program_soundness.proofs.ObjectItems.{order}
use Rattle.program_soundness.proofs.ObjectBodies.{object_at, only_body, same_tree, unit_entity, unit_formals, unit_name, unit_result}
use Rattle.program_soundness.proofs.ObjectBodies as bodies

-- ---- at most one entry

one_entry_from : (ts : List OperationTree) (has_entry : Bool) (k : ℕ) (t : OperationTree) → profile.entries_faults has_entry ts ≡ [] → slice_get ts k ≡ Some t
    → declared.is_entry t ≡ true → has_entry ≡ false
one_entry_from [] b k t h at is = cc
one_entry_from (operation.OfSubprogram d a ∷ ts) b zero t h at is = let bad = ap declared.is_entry (same_some (operation.OfSubprogram d a) t at) ∙ is in cc
one_entry_from (operation.OfSubprogram d a ∷ ts) b (suc k) t h at is = one_entry_from ts b k t h at is
one_entry_from (operation.OfEntry d ∷ ts) b k t h at is = unbroken _ d.place b (front_empty _ (profile.entries_faults true ts) h)

one_entry : (ts : List OperationTree) (b : Bool) (j k : ℕ) (t u : OperationTree) → profile.entries_faults b ts ≡ [] → slice_get ts j ≡ Some t
    → slice_get ts k ≡ Some u
    → declared.is_entry t ≡ true → declared.is_entry u ≡ true → t ≡ u
one_entry [] b j k t u h at there is other = cc
one_entry (x ∷ ts) b zero zero t u h at there is other = sym (same_some x t at) ∙ same_some x u there
one_entry (operation.OfSubprogram d a ∷ ts) b (suc j) (suc k) t u h at there is other = one_entry ts b j k t u h at there is other
one_entry (operation.OfEntry d ∷ ts) b (suc j) (suc k) t u h at there is other =
    one_entry ts true j k t u (back_empty _ (profile.entries_faults true ts) h) at there is other
one_entry (operation.OfSubprogram d a ∷ ts) b zero (suc k) t u h at there is other =
    let bad = ap declared.is_entry (same_some (operation.OfSubprogram d a) t at) ∙ is in cc
one_entry (operation.OfSubprogram d a ∷ ts) b (suc j) zero t u h at there is other =
    let bad = ap declared.is_entry (same_some (operation.OfSubprogram d a) u there) ∙ other in cc
one_entry (operation.OfEntry d ∷ ts) b zero (suc k) t u h at there is other =
    absurd (not_both true refl (one_entry_from ts true k u (back_empty _ (profile.entries_faults true ts) h) there other))
one_entry (operation.OfEntry d ∷ ts) b (suc j) zero t u h at there is other =
    absurd (not_both true refl (one_entry_from ts true j t (back_empty _ (profile.entries_faults true ts) h) at is))

-- ---- an operation's body by what its name stands for

plain_unit : (i : ProtectedItemTree) (p q : Profile) → Some (unit_entity i p) ≡ Some (Subprogram q)
    → (e : SubprogramTree) × (b : BodyTree) × (i ≡ OperationBody e b) × (p ≡ q)
plain_unit (OperationBody e b) p q h =
    let f : Option Entity → Profile = λ o. elim o [ Some x ↦ elim x [ Subprogram r ↦ r | y ↦ p ] | None ↦ p ] in (e, b, refl, ap f h)
plain_unit (EntryBody e barrier b) p q h = cc

entry_unit : (i : ProtectedItemTree) (p q : Profile) → Some (unit_entity i p) ≡ Some (entity.Entry q)
    → (e : EntryTree) × (barrier : ExprTree) × (b : BodyTree) × (i ≡ EntryBody e barrier b) × (p ≡ q)
entry_unit (EntryBody e barrier b) p q h =
    let f : Option Entity → Profile = λ o. elim o [ Some x ↦ elim x [ entity.Entry r ↦ r | y ↦ p ] | None ↦ p ] in (e, barrier, b, refl, ap f h)
entry_unit (OperationBody e b) p q h = cc

operation_owner : (o : Option ℕ) (i : ProtectedItemTree) → (operation_body o i).owner ≡ o
operation_owner o (OperationBody e b) = refl
operation_owner o (EntryBody e barrier b) = refl

unit_named : (o : Option ℕ) (i : ProtectedItemTree) → (operation_body o i).name ≡ unit_name i
unit_named o (OperationBody e b) = refl
unit_named o (EntryBody e barrier b) = refl

unit_has_formals : (o : Option ℕ) (i : ProtectedItemTree) → (operation_body o i).formals ≡ unit_formals i
unit_has_formals o (OperationBody e b) = refl
unit_has_formals o (EntryBody e barrier b) = refl

unit_has_result : (o : Option ℕ) (i : ProtectedItemTree) → (operation_body o i).result ≡ unit_result i
unit_has_result o (OperationBody e b) = refl
unit_has_result o (EntryBody e barrier b) = refl

is_of_number : (o : Option ℕ) (m n : ℕ) → o ≡ Some m → is_of o (Some n) ≡ true → m ≡ n
is_of_number o m n h k = same_number m n (ap (λ x. is_of x (Some n)) (sym h) ∙ k)

nat_same : (n : ℕ) → is_of (Some n) (Some n) ≡ true
nat_same n = grind arith

-- two bodies of operations of the same kind and name are one
module _ (items : List ProtectedItemTree)
    (single : (j : ℕ) (i : ProtectedItemTree) → slice_get items j ≡ Some i → is_second_operation (take j items) i ≡ false) where
  entries_before : (j l : ℕ) (e f : EntryTree) (c g : ExprTree) (b a : BodyTree) → j < l → slice_get items j ≡ Some (EntryBody e c b)
      → slice_get items l ≡ Some (EntryBody f g a) → e.name.name ≡ f.name.name → ⊥
  entries_before j l e f c g b a less at there same =
      let none =
      none_passes (matching.is_operation_body f.name) (take l items) j (EntryBody e c b) (single l (EntryBody f g a) there)
      (taken_at items l j (EntryBody e c b) less at) in
      not_both (same_name f.name e.name) (equal_bytes f.name.name e.name.name (sym same)) none

  entries_same : (j l : ℕ) (e f : EntryTree) (c g : ExprTree) (b a : BodyTree) → slice_get items j ≡ Some (EntryBody e c b)
      → slice_get items l ≡ Some (EntryBody f g a) → e.name.name ≡ f.name.name → EntryBody e c b ≡ EntryBody f g a
  entries_same j l e f c g b a at there same = by_order (order j l)
    where
      by_order : (j < l) ⊎ ((j ≡ l) ⊎ (l < j)) → EntryBody e c b ≡ EntryBody f g a
      by_order (inl less) = absurd (entries_before j l e f c g b a less at there same)
      by_order (inr (inr less)) = absurd (entries_before l j f e g c a b less there at (sym same))
      by_order (inr (inl is)) = same_some (EntryBody e c b) (EntryBody f g a) (sym at ∙ ap (slice_get items) is ∙ there)

module _ (program : Program) (s : Scope) (all : List BodyItemTree) (w : IsPackage program s all) where
  module _ (k : ℕ) (nm : Identifier) (items : List ProtectedItemTree) (end_name : Identifier)
      (at : slice_get all k ≡ Some (ProtectedBody nm items end_name)) where
    -- ---- no other body of this name

    pub same_place : (l : ℕ) (other : Identifier) (others : List ProtectedItemTree) (other_end : Identifier)
        → slice_get all l ≡ Some (ProtectedBody other others other_end) → other.name ≡ nm.name → items ≡ others
    same_place l other others other_end there same = by_order (order l k)
      where
        by_order : (l < k) ⊎ ((l ≡ k) ⊎ (k < l)) → items ≡ others
        by_order (inl less) =
            absurd (not_both (same_name nm other) (equal_bytes nm.name other.name (sym same))
            (none_passes (is_object_body nm) (take k all) l (ProtectedBody other others other_end) (only_body program s all w k nm items end_name at) (taken_at all k l _ less there)))
        by_order (inr (inr less)) =
            absurd (not_both (same_name other nm) (equal_bytes other.name nm.name same)
            (none_passes (is_object_body other) (take l all) k (ProtectedBody nm items end_name) (only_body program s all w l other others other_end there) (taken_at all l k _ less at)))
        by_order (inr (inl is)) =
            let same_item = same_some (ProtectedBody nm items end_name) (ProtectedBody other others other_end) (sym at ∙ ap (slice_get all) (sym is) ∙ there) in
            let f : BodyItemTree → List ProtectedItemTree = λ i. elim i [ ProtectedBody a b c ↦ b | x ↦ items ] in ap f same_item

    abbrev pub obj : ProtectedObject
    obj = (bodies.there program s all w k nm items end_name at).object

    abbrev Own : ProtectedItemTree → Type 0
    Own i = bodies.HasOwn program s all w k nm items end_name at i

    abbrev ended : Scope
    ended = bodies.ended program s all w k nm items end_name at

    abbrev us : List Bodied
    us = bodies_among program.scope all

    abbrev unit_of : ProtectedItemTree → Bodied
    unit_of i = operation_body (Some obj.number) i

    record IsInside (u : Bodied) : Type 0 where
      index : ℕ
      item : ProtectedItemTree
      there_ : slice_get items index ≡ Some item
      is : u ≡ unit_of item

    inside_unit : (u : Bodied) → Has us u → is_of u.owner (Some obj.number) ≡ true → IsInside u
    inside_unit u has owned = by_place (body_place program.scope all u has)
      where
        by_object : InObject program.scope all u → IsInside u
        by_object q =
            let other = object_there program s all w q.place q.name q.items q.end_name q.at in
            let owner = ap (λ v. v.owner) q.is ∙ operation_owner (object_numbered program.scope q.name) q.item ∙ other.numbered in
            let number = is_of_number u.owner other.object.number obj.number owner owned in
            let mine = bodies.declared_at program s all w k nm items end_name at in
            let its = object_at program s all w q.name.name other.object (kept program s all w q.place q.name.name (Protected other.object) other.stands_) in
            let same = same_tree program s all w q.name.name nm.name other.object obj its mine number in
            let list = same_place q.place q.name q.items q.end_name q.at same.0 in
            record {
              index = q.index;
              item = q.item;
              there_ = ap (λ l. slice_get l q.index) list ∙ q.there;
              is = q.is ∙ ap (λ x. operation_body x q.item) (other.numbered ∙ ap Some number);
            }

        by_place : InPackage all u ⊎ InObject program.scope all u → IsInside u
        by_place (inl p) = let bad = ap (λ v. is_of v.owner (Some obj.number)) (sym p.is) ∙ owned in cc
        by_place (inr q) = by_object q

    any_unit : (j : ℕ) (i : ProtectedItemTree) → slice_get items j ≡ Some i → Has us (unit_of i)
    any_unit j i h =
        subst (λ x. Has us (operation_body x i)) (bodies.there program s all w k nm items end_name at).numbered
        (operation_has program.scope all k nm items end_name j i at h)

    unit_owned : (i : ProtectedItemTree) → is_of (unit_of i).owner (Some obj.number) ≡ true
    unit_owned i = ap (λ x. is_of x (Some obj.number)) (operation_owner (Some obj.number) i) ∙ nat_same obj.number

    -- ---- what is found

    pub record FoundInside (name : List ℕ) (q : Procedure) : Type 0 where
      pub index : ℕ
      pub item : ProtectedItemTree
      pub there_ : slice_get items index ≡ Some item
      pub named : unit_name item ≡ name
      pub is : q ≡ procedure_by program.scope (unit_of item)
      pub none : unit_result item ≡ None

    pub found_inside : (name : List ℕ) (q : Procedure) → procedure_among program.procedures (Some obj.number) name ≡ Some q → FoundInside name q
    found_inside name q h =
        let x =
        found_procedure program.scope us (Some obj.number) name q
        (ap (λ l. procedure_among l (Some obj.number) name) (sym (w.procedures ∙ procedures_are program.scope all)) ∙ h) in
        let i = inside_unit x.unit_ x.has x.owned in
        record {
          index = i.index;
          item = i.item;
          there_ = i.there_;
          named = sym (unit_named (Some obj.number) i.item) ∙ ap (λ v. v.name) (sym i.is) ∙ x.named;
          is = x.is ∙ ap (procedure_by program.scope) i.is;
          none = sym (unit_has_result (Some obj.number) i.item) ∙ ap (λ v. v.result) (sym i.is) ∙ x.none;
        }

    any_inside : (j : ℕ) (i : ProtectedItemTree) → slice_get items j ≡ Some i → unit_result i ≡ None
        → (q : Procedure) × (procedure_among program.procedures (Some obj.number) (unit_name i) ≡ Some q)
    any_inside j i h none =
        let q = any_procedure program.scope us (unit_of i) (Some obj.number) (any_unit j i h) (unit_has_result (Some obj.number) i ∙ none) (unit_owned i) in (
          q.0,
          ap (λ l. procedure_among l (Some obj.number) (unit_name i)) (w.procedures ∙ procedures_are program.scope all)
              ∙ ap (procedure_among (all_procedures program.scope us) (Some obj.number)) (sym (unit_named (Some obj.number) i)) ∙ q.1,
        )

    module _ (own : (j : ℕ) (i : ProtectedItemTree) → slice_get items j ≡ Some i → Own i) where
      abbrev HasItem : List ℕ → Type 0
      HasItem name = (j : ℕ) × (i : ProtectedItemTree) × (slice_get items j ≡ Some i) × (unit_name i ≡ name)

      item_entity : (j : ℕ) (i : ProtectedItemTree) (h : slice_get items j ≡ Some i) (name : List ℕ) (e : Entity) → unit_name i ≡ name
          → stands ended name ≡ Some e → Some (unit_entity i (own j i h).profile) ≡ Some e
      item_entity j i h name e named there_ = sym (own j i h).stands_ ∙ ap (stands ended) named ∙ there_

      item_formals : (j : ℕ) (i : ProtectedItemTree) (h : slice_get items j ≡ Some i)
          → map formal_of (procedure_by program.scope (unit_of i)).parameters ≡ (own j i h).profile.formals
      item_formals j i h =
          ap (λ fs. map formal_of (map (parameter program.scope) fs)) (unit_has_formals (Some obj.number) i)
          ∙ parameters_are program.scope (unit_formals i) (own j i h).profile.formals
          (profile_formals program.scope (formal_parameters program.scope (unit_formals i)) (unit_result i) (own j i h).profile (own j i h).own)

      pub procedure_inside : (name : List ℕ) (p : Profile) → stands ended name ≡ Some (Subprogram p) → p.result ≡ None → HasItem name
          → IsProcedure (procedure_among program.procedures (Some obj.number) name) p
      procedure_inside name p there_ none x =
          let first = plain_unit x.1 (own x.0 x.1 x.2).profile p (item_entity x.0 x.1 x.2 name (Subprogram p) x.3 there_) in
          let no_result : unit_result x.1 ≡ None = by_result x.1 (unit_result x.1) refl first.3 (own x.0 x.1 x.2).own in
          let q = any_inside x.0 x.1 x.2 no_result in
          let found = ap (procedure_among program.procedures (Some obj.number)) (sym x.3) ∙ q.1 in
          let i = found_inside name q.0 found in
          let its = plain_unit i.item (own i.index i.item i.there_).profile p (item_entity i.index i.item i.there_ name (Subprogram p) i.named there_) in
          record {
            procedure = q.0;
            is = found;
            formals = ap (λ r. map formal_of r.parameters) i.is ∙ item_formals i.index i.item i.there_ ∙ ap (λ y. y.formals) its.3;
            barrier = ap (λ r. r.barrier) i.is ∙ ap (λ y. (unit_of y).barrier) its.2;
          }
        where
          by_result : (i : ProtectedItemTree) (r : Option Identifier) → unit_result i ≡ r → (own x.0 x.1 x.2).profile ≡ p
              → profile_with program.scope (formal_parameters program.scope (unit_formals i)) (unit_result i) ≡ Some (own x.0 x.1 x.2).profile → r ≡ None
          by_result i None e same h = refl
          by_result i (Some r) e same h =
              let t =
              profile_some program.scope (formal_parameters program.scope (unit_formals i)) r (own x.0 x.1 x.2).profile
              (ap (profile_with program.scope (formal_parameters program.scope (unit_formals i))) (sym e) ∙ h) in
              let bad = sym none ∙ ap (λ y. y.result) (sym same) ∙ t.2 in cc

      -- ---- entries

      entries_legal : profile.entries_faults false (bodies.d program s all w k nm items end_name at).operations ≡ []
      entries_legal =
          let mine = bodies.declared_at program s all w k nm items end_name at in
          back_empty _ (profile.entries_faults false mine.tree.operations) (front_empty _ _ (restricted_at s all w.list mine.place (OfItem (OfProtected mine.tree)) mine.at))

      single : (j : ℕ) (i : ProtectedItemTree) → slice_get items j ≡ Some i → is_second_operation (take j items) i ≡ false
      single j i h = (bodies.item_matched program s all w k nm items end_name at j i h).0

      -- all entries of the object are one
      same_entry : (j l : ℕ) (e f : EntryTree) (c g : ExprTree) (b a : BodyTree) → slice_get items j ≡ Some (EntryBody e c b)
          → slice_get items l ≡ Some (EntryBody f g a) → EntryBody e c b ≡ EntryBody f g a
      same_entry j l e f c g b a h there_ =
          let x = (own j (EntryBody e c b) h).entry in
          let y = (own l (EntryBody f g a) there_).entry in
          let trees = one_entry (bodies.d program s all w k nm items end_name at).operations false x.0 y.0 x.1 y.1 entries_legal x.2 y.2 x.3 y.3 in
          entries_same items single j l e f c g b a h there_ (sym x.4 ∙ ap (λ t. (declared.operation_name t).name) trees ∙ y.4)

      barred_entry : (i : ProtectedItemTree) → is_some (unit_of i).barrier ≡ true → (e : EntryTree) × (c : ExprTree) × (b : BodyTree) × (i ≡ EntryBody e c b)
      barred_entry (EntryBody e c b) h = (e, c, b, refl)
      barred_entry (OperationBody e b) h = cc

      pub entry_inside : (name : List ℕ) (p : Profile) → stands ended name ≡ Some (entity.Entry p) → HasItem name
          → IsEntry program (procedure_among program.procedures (Some obj.number) name) p
      entry_inside name p there_ x =
          let first = entry_unit x.1 (own x.0 x.1 x.2).profile p (item_entity x.0 x.1 x.2 name (entity.Entry p) x.3 there_) in
          let q = any_inside x.0 x.1 x.2 (ap unit_result first.3) in
          let found = ap (procedure_among program.procedures (Some obj.number)) (sym x.3) ∙ q.1 in
          let i = found_inside name q.0 found in
          let its = entry_unit i.item (own i.index i.item i.there_).profile p (item_entity i.index i.item i.there_ name (entity.Entry p) i.named there_) in
          let there_is : slice_get items i.index ≡ Some (EntryBody its.0 its.1 its.2) = i.there_ ∙ ap Some its.3 in
          let is = i.is ∙ ap (λ y. procedure_by program.scope (unit_of y)) its.3 in
          record {
            procedure = q.0;
            is = found;
            formals = ap (λ r. map formal_of r.parameters) i.is ∙ item_formals i.index i.item i.there_ ∙ ap (λ y. y.formals) its.4;
            condition = its.1;
            barrier = ap (λ r. r.barrier) is;
            object = obj.number;
            owner = ap (λ r. r.object) is;
            only = only_entry q.0 i.index its.0 its.1 its.2 there_is is;
          }
        where
          only_entry : (q : Procedure) (j : ℕ) (e : EntryTree) (c : ExprTree) (b : BodyTree) → slice_get items j ≡ Some (EntryBody e c b)
              → q ≡ procedure_by program.scope (unit_of (EntryBody e c b))
              → entry_of program.procedures obj.number ≡ Some q
          only_entry q j e c b h is =
              let any = any_entry program.scope us (unit_of (EntryBody e c b)) obj.number (any_unit j (EntryBody e c b) h) refl (nat_same obj.number) refl in
              let y = found_entry program.scope us obj.number any.0 any.1 in
              let i = inside_unit y.unit_ y.has y.owned in
              let f = barred_entry i.item (ap (λ v. is_some v.barrier) (sym i.is) ∙ y.barred) in
              let same = same_entry i.index j f.0 e f.1 c f.2 b (i.there_ ∙ ap Some f.3) h in
              ap (λ l. entry_of l obj.number) (w.procedures ∙ procedures_are program.scope all) ∙ any.1
              ∙ ap Some (y.is ∙ ap (procedure_by program.scope) (i.is ∙ ap unit_of (f.3 ∙ same)) ∙ sym is)

      -- ---- functions

      pub record IsFunctionInside (name : List ℕ) (p : Profile) : Type 0 where
        pub function : Function
        pub found : function_of program.functions (Some obj.number) name ≡ Some function
        pub has : HasProfile function p

      found_profile : (name : List ℕ) (p : Profile) (f : Function) → stands ended name ≡ Some (Subprogram p)
          → function_of program.functions (Some obj.number) name ≡ Some f → HasProfile f p
      found_profile name p f there_ h =
          let x =
          found_function program.scope us (Some obj.number) name f
          (ap (λ l. function_of l (Some obj.number) name) (sym (w.functions ∙ functions_are program.scope all)) ∙ h) in
          let i = inside_unit x.unit_ x.has x.owned in
          let named = sym (unit_named (Some obj.number) i.item) ∙ ap (λ v. v.name) (sym i.is) ∙ x.named in
          let its = plain_unit i.item (own i.index i.item i.there_).profile p (item_entity i.index i.item i.there_ name (Subprogram p) named there_) in
          let result : unit_result i.item ≡ Some x.result = sym (unit_has_result (Some obj.number) i.item) ∙ ap (λ v. v.result) (sym i.is) ∙ x.some in
          let whole : profile_with program.scope (formal_parameters program.scope (unit_formals i.item)) (Some x.result) ≡ Some p =
          ap (profile_with program.scope (formal_parameters program.scope (unit_formals i.item))) (sym result) ∙ (own i.index i.item i.there_).own
          ∙ ap Some its.3 in
          let t = profile_some program.scope (formal_parameters program.scope (unit_formals i.item)) x.result p whole in
          let formals = profile_formals program.scope (formal_parameters program.scope (unit_formals i.item)) (Some x.result) p whole in
          record {
            formals =
                ap (λ g. map formal_subtype g.formals) x.is
                ∙ ap (λ v. map formal_subtype (map (formal program.scope) v.formals)) i.is
                ∙ ap (λ fs. map formal_subtype (map (formal program.scope) fs)) (unit_has_formals (Some obj.number) i.item)
                ∙ subtypes_are program.scope (unit_formals i.item) p.formals formals;
            result = t.2 ∙ ap Some (sym (named_is program.scope x.result t.0 t.1) ∙ sym (ap (λ g. g.result) x.is));
          }

      value_inside : (j : ℕ) (e : SubprogramTree) (b : BodyTree) (r : Identifier) → slice_get items j ≡ Some (OperationBody e b) → e.result ≡ Some r
          → (v : ExprTree) × (returned b.statements ≡ Some v)
      value_inside j e b r h some =
          let legal = bodies.item_legal program s all w k nm items end_name at j (OperationBody e b) h in
          let head = front_empty (head_faults _ e b) _ (front_empty _ _ legal) in
          let rule_ = unbroken _ e.name.place _ (back_empty _ (function_body_faults e b) head) in
          value_returned b (judged (is_some e.result) (is_function_body b) rule_ (ap is_some some))

      pub function_inside : (name : List ℕ) (p : Profile) (t : Subtype) → stands ended name ≡ Some (Subprogram p) → p.result ≡ Some t → HasItem name
          → IsFunctionInside name p
      function_inside name p t there_ some x =
          let first = plain_unit x.1 (own x.0 x.1 x.2).profile p (item_entity x.0 x.1 x.2 name (Subprogram p) x.3 there_) in
          by_result first.0 first.1 (x.2 ∙ ap Some first.2) (ap unit_name (sym first.2) ∙ x.3) first.0.result refl
          (sym (ap (λ i. profile_with program.scope (formal_parameters program.scope (unit_formals i)) (unit_result i)) first.2) ∙ (own x.0 x.1 x.2).own ∙ ap Some first.3)
        where
          by_result : (e : SubprogramTree) (b : BodyTree) → slice_get items x.0 ≡ Some (OperationBody e b) → e.name.name ≡ name → (r : Option Identifier)
              → e.result ≡ r
              → profile_with program.scope (formal_parameters program.scope e.formals) e.result ≡ Some p → IsFunctionInside name p
          by_result e b h named None i whole =
              let none =
              profile_none program.scope (formal_parameters program.scope e.formals) p
              (ap (profile_with program.scope (formal_parameters program.scope e.formals)) (sym i) ∙ whole) in
              let bad = sym none ∙ some in cc
          by_result e b h named (Some r) i whole =
              let v = value_inside x.0 e b r h i in
              let any =
              any_function program.scope us (unit_of (OperationBody e b)) (Some obj.number) r v.0 (any_unit x.0 (OperationBody e b) h) i v.1
              (nat_same obj.number) in
              let found = ap (λ l. function_of l (Some obj.number) name) (w.functions ∙ functions_are program.scope all)
              ∙ ap (function_of (all_functions program.scope us) (Some obj.number)) (sym named) ∙ any.1 in
              record { function = any.0; found = found; has = found_profile name p any.0 there_ found }

      -- ---- what is visible in front of the body is no operation of it

      pub outside_function : (name : List ℕ) (e : Entity) → stands (scope_at s all k) name ≡ Some e
          → function_of program.functions (Some obj.number) name ≡ None
      outside_function name e h = by_found (function_of program.functions (Some obj.number) name) refl
        where
          by_found : (f : Option Function) → function_of program.functions (Some obj.number) name ≡ f → f ≡ None
          by_found None i = refl
          by_found (Some f) i =
              let x =
              found_function program.scope us (Some obj.number) name f
              (ap (λ l. function_of l (Some obj.number) name) (sym (w.functions ∙ functions_are program.scope all)) ∙ i) in
              let y = inside_unit x.unit_ x.has x.owned in
              let named = sym (unit_named (Some obj.number) y.item) ∙ ap (λ v. v.name) (sym y.is) ∙ x.named in
              let bad = sym (own y.index y.item y.there_).unseen ∙ ap (stands (scope_at s all k)) named ∙ h in cc

      pub outside_procedure : (name : List ℕ) (e : Entity) → stands (scope_at s all k) name ≡ Some e
          → procedure_among program.procedures (Some obj.number) name ≡ None
      outside_procedure name e h = by_found (procedure_among program.procedures (Some obj.number) name) refl
        where
          by_found : (q : Option Procedure) → procedure_among program.procedures (Some obj.number) name ≡ q → q ≡ None
          by_found None i = refl
          by_found (Some q) i =
              let x = found_inside name q i in
              let bad = sym (own x.index x.item x.there_).unseen ∙ ap (stands (scope_at s all k)) x.named ∙ h in cc
