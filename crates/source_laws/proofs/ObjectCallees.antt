-- Each protected object of an accepted text has its body, and in it the body of each operation or entry that is named behind the object (RM 7.2, 9.4).
use Rattle.std.proofs.Common.{◌≡◌, ℕ, suc, ◌+◌, List, drop, Bool, true, false, Option, Some, None, refl, sym, ap, ◌∙◌, subst}
use Rattle.std.specs.Prelude.{bytes_eq, position, slice_get}
use Rattle.std.specs.List.{list_any}
use Rattle.ada_tree.specs.declared.expression.Identifier.{Identifier}
use Rattle.ada_tree.specs.ProgramTree.{BodyItemTree, EntryBody, OfItem, OfProtected, OperationBody, ProgramTree, ProtectedBody, ProtectedItemTree, SubprogramBody, TaskBody}
use Rattle.types.specs.Entities.{Entity, Operation, Profile, Protected, ProtectedObject, Subprogram}
use Rattle.types.specs.Entities as entity
use Rattle.types.specs.Scopes.{Scope}
use Rattle.expr_soundness.specs.expr_rules.proofs.TypedLaw.{front_empty, unbroken}
use Rattle.expr_soundness.specs.type_rules.specs.ProfileRules.{formal_parameters, profile_with}
use Rattle.program_soundness.specs.declaration_rules.specs.BodyNames.{operation_entity}
use Rattle.program_soundness.specs.unit_rules.specs.MatchingRules.{missing_operations_faults}
use Rattle.legality.specs.ProgramRules.{IsLegal}
use Rattle.program_soundness.specs.ravenscar.specs.ProgramRules.{IsRestricted}
use Rattle.expr_soundness.specs.Laws.{ScopesAreSound}
use Rattle.expr_soundness.specs.meaning.specs.Programs.{Program, program_of}
use Rattle.expr_soundness.proofs.Expressions.{not_false}
use Rattle.expr_soundness.proofs.Positions.{found_at, place_is}
use Rattle.program_soundness.specs.BodyLaws.{NamesAreKnown, PremisesHold}
use Rattle.program_soundness.specs.Fronts.{declared_in, start_in}
use Rattle.program_soundness.proofs.BodyProfiles.{profile_formals}
use Rattle.program_soundness.proofs.Listing.{dropped_at, one_passes, same_some}
use Rattle.program_soundness.proofs.ObjectBodies as bodies
use Rattle.program_soundness.proofs.Offering as offering
use Rattle.program_soundness.proofs.OneList.{is_object_body, matched_at}
use Rattle.program_soundness.proofs.Whole.{IsPackage, kept}
use Rattle.program_soundness.proofs.WiderScopes.{same_bytes, stands}
use Rattle.expr_code.proofs.Externals.{IsBehind}
use Rattle.package_code.specs.Bodies.{Coded, own_head, own_name, IsBodyOf}
use Rattle.package_code.proofs.OperationBodies as coding
use Rattle.package_code.proofs.OperationsAdded as added
use Rattle.source_laws.proofs.InsideNames.{named_unit}

-- what passes as the body of an object
body_passes : (name : Identifier) (i : BodyItemTree) → is_object_body name i ≡ true
    → (own : Identifier) × (items : List ProtectedItemTree) × (end_name : Identifier) × (i ≡ ProtectedBody own items end_name) × (own.name ≡ name.name)
body_passes name (ProtectedBody own items end_name) h = (own, items, end_name, refl, sym (same_bytes name.name own.name h))
body_passes name (OfItem d) h = cc
body_passes name (SubprogramBody d b) h = cc
body_passes name (TaskBody own b) h = cc

-- ---- profiles of what stands for an operation or entry

abbrev profile_in : Profile → Entity → Profile
profile_in p (Subprogram q) = q
profile_in p (entity.Entry q) = q
profile_in p e = p

operation_has : (p : Profile) (x : Operation) → profile_in p (operation_entity x) ≡ x.profile
operation_has p x = by_kind x.is_entry
  where
    by_kind : (b : Bool) → profile_in p (elim b [ true ↦ entity.Entry x.profile | false ↦ Subprogram x.profile ]) ≡ x.profile
    by_kind true = refl
    by_kind false = refl

unit_has : (p : Profile) (i : ProtectedItemTree) (q : Profile) → profile_in p (bodies.unit_entity i q) ≡ q
unit_has p (OperationBody d b) q = refl
unit_has p (EntryBody d barrier b) q = refl

module _ (scopes : ScopesAreSound) (known : NamesAreKnown) (premises : PremisesHold) (t : ProgramTree) (legal : IsLegal t) (restricted : IsRestricted t) where
  abbrev program : Program
  program = program_of t

  abbrev start : Scope
  start = start_in t.package_

  abbrev all : List BodyItemTree
  all = declared_in t.package_

  abbrev w : IsPackage program start all
  w = added.w scopes known premises t legal restricted

  -- ---- the body of an object

  pub record HasObjectBody (object : List ℕ) (o : ProtectedObject) : Type 0 where
    pub place : ℕ
    pub name : Identifier
    pub items : List ProtectedItemTree
    pub end_name : Identifier
    pub at : slice_get all place ≡ Some (ProtectedBody name items end_name)
    pub named : name.name ≡ object
    pub is : added.obj scopes known premises t legal restricted place name items end_name at ≡ o

  pub object_body : (object : List ℕ) (o : ProtectedObject) → stands program.scope object ≡ Some (Protected o) → HasObjectBody object o
  object_body object o h =
      let x = bodies.object_at program start all w object o h in
      let behind = drop (suc x.place) all in
      let rules_ = matched_at start all w.list x.place (OfItem (OfProtected x.tree)) x.at in
      let any = not_false (list_any (is_object_body x.tree.name) behind)
      (unbroken _ x.tree.name.place _ (front_empty _ (missing_operations_faults behind x.tree.name x.tree.operations) rules_)) in
      let one = one_passes (is_object_body x.tree.name) behind any in
      let body = body_passes x.tree.name one.1 one.3 in
      let there : slice_get all (suc x.place + one.0) ≡ Some (ProtectedBody body.0 body.1 body.2) =
      sym (dropped_at all (suc x.place) one.0) ∙ one.2 ∙ ap Some body.3 in
      let found = bodies.there program start all w (suc x.place + one.0) body.0 body.1 body.2 there in
      let seen = kept program start all w (suc x.place + one.0) body.0.name (Protected found.object) found.stands_ in
      let same = sym seen ∙ ap (stands program.scope) (body.4 ∙ x.named) ∙ h in
      let object_in : Option Entity → ProtectedObject = λ e. elim e [ Some y ↦ elim y [ Protected z ↦ z | u ↦ o ] | None ↦ o ] in
      record {
        place = suc x.place + one.0;
        name = body.0;
        items = body.1;
        end_name = body.2;
        at = there;
        named = body.4 ∙ x.named;
        is = ap object_in same;
      }

  -- ---- a body in it

  module _ (place : ℕ) (name : Identifier) (items : List ProtectedItemTree) (end_name : Identifier)
      (at : slice_get all place ≡ Some (ProtectedBody name items end_name)) (index : ℕ) (item : ProtectedItemTree)
      (there : slice_get items index ≡ Some item) where
    -- its code
    abbrev pub unit_code : Coded
    unit_code = coding.code_of scopes known premises t legal restricted place name items end_name at index item

    pub unit_body : IsBodyOf t unit_code
    unit_body =
        record {
          place = place;
          item = ProtectedBody name items end_name;
          index = index;
          at = at;
          coded = coding.coded scopes known premises t legal restricted place name items end_name at index item there;
        }

  pub unit_formals : (i : ProtectedItemTree) (p : Profile)
      → profile_with program.scope (formal_parameters program.scope (bodies.unit_formals i)) (bodies.unit_result i) ≡ Some p
      → formal_parameters program.scope (own_head i).formals ≡ Some p.formals
  unit_formals (OperationBody d b) p own = profile_formals program.scope (formal_parameters program.scope d.formals) d.result p own
  unit_formals (EntryBody d barrier b) p own = profile_formals program.scope (formal_parameters program.scope d.formals) None p own

  -- what is named behind the object: its body, with the same formals
  pub record HasUnitBody (o : ProtectedObject) (operation : List ℕ) (p : Profile) : Type 0 where
    pub place : ℕ
    pub name : Identifier
    pub items : List ProtectedItemTree
    pub end_name : Identifier
    pub at : slice_get all place ≡ Some (ProtectedBody name items end_name)
    pub is : added.obj scopes known premises t legal restricted place name items end_name at ≡ o
    pub index : ℕ
    pub item : ProtectedItemTree
    pub there : slice_get items index ≡ Some item
    pub named : own_name item ≡ operation
    pub formals : formal_parameters program.scope (own_head item).formals ≡ Some p.formals

  module _ (s : Scope) (object operation : List ℕ) (p : Profile) (x : IsBehind s object operation p)
      (h : stands program.scope object ≡ Some (Protected x.protected)) where
    b : HasObjectBody object x.protected
    b = object_body object x.protected h

    abbrev is_it : Operation → Bool
    is_it y = bytes_eq y.name operation

    abbrev obj : ProtectedObject
    obj = added.obj scopes known premises t legal restricted b.place b.name b.items b.end_name b.at

    placed : position is_it obj.operations ≡ Some x.place
    placed = subst (λ o. position is_it o.operations ≡ Some x.place) (sym b.is) x.placed

    found : slice_get obj.operations x.place ≡ Some x.entry
    found = subst (λ o. slice_get o.operations x.place ≡ Some x.entry) (sym b.is) x.found

    own : (j : ℕ) (i : ProtectedItemTree) → slice_get b.items j ≡ Some i
        → bodies.HasOwn program start all w b.place b.name b.items b.end_name b.at i
    own = added.owned scopes known premises t legal restricted b.place b.name b.items b.end_name b.at

    own_named : x.entry.name ≡ operation
    own_named =
        let f = found_at is_it obj.operations x.place (sym (place_is is_it obj.operations) ∙ placed) in
        same_bytes x.entry.name operation (ap is_it (same_some x.entry f.0 (sym found ∙ f.1)) ∙ f.2)

    stands_for : stands (bodies.ended program start all w b.place b.name b.items b.end_name b.at) operation ≡ Some (operation_entity x.entry)
    stands_for = offering.stands_for_it program start all w b.place b.name b.items b.end_name b.at own operation x.place x.entry placed found

    pub unit_behind : HasUnitBody x.protected operation p
    unit_behind =
        let y = offering.item_of program start all w b.place b.name b.items b.end_name b.at own operation x.place x.entry found own_named in
        let has = own y.0 y.1 y.2 in
        let same = same_some (operation_entity x.entry) (bodies.unit_entity y.1 has.profile)
        (sym stands_for ∙ ap (stands (bodies.ended program start all w b.place b.name b.items b.end_name b.at)) (sym y.3) ∙ has.stands_) in
        let profile : has.profile ≡ p = sym (unit_has p y.1 has.profile) ∙ ap (profile_in p) (sym same) ∙ operation_has p x.entry ∙ x.profiled in
        record {
          place = b.place;
          name = b.name;
          items = b.items;
          end_name = b.end_name;
          at = b.at;
          is = b.is;
          index = y.0;
          item = y.1;
          there = y.2;
          named = named_unit y.1 ∙ y.3;
          formals = unit_formals y.1 has.profile has.own ∙ ap (λ (q : Profile). Some q.formals) profile;
        }
