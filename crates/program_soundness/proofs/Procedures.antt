-- The bodies of procedures and entries of an accepted program, those of protected objects among them, are sound.
use Rattle.std.proofs.Common.{◌≡◌, ℕ, zero, suc, List, [], ◌∷◌, ◌++◌, Bool, true, false, cond, ◌⊎◌, inl, inr, Option, Some, None, refl, sym, ap, ◌∙◌, subst}
use Rattle.std.specs.Prelude.{bytes_eq, is_some, slice_get}
use Rattle.expr_soundness.specs.ada_tree.specs.declared.expression.Identifier.{Identifier}
use Rattle.expr_soundness.specs.ada_tree.specs.ExpressionTree.{ExprTree}
use Rattle.expr_soundness.specs.ada_tree.specs.StatementTree.{EntryTree, SubprogramTree}
use Rattle.expr_soundness.specs.ada_tree.specs.ProgramTree.{BodyTree, BodyItemTree, ProtectedBody, ProtectedItemTree, OperationBody, EntryBody}
use Rattle.types.specs.declared.entity.RecordComponent.{RecordComponent}
use Rattle.types.specs.Entities.{Entity, ProtectedObject, Protected, Subprogram, Doubtful}
use Rattle.types.specs.Scopes.{Scope}
use Rattle.expr_soundness.specs.expr_rules.proofs.TypedLaw.{back_empty, front_empty}
use Rattle.expr_soundness.specs.type_rules.specs.SubtypeNames.{end_rule}
use Rattle.expr_soundness.specs.type_rules.specs.ProfileRules.{formals_faults, profile_entity, profile_faults, subprogram_scope}
use Rattle.declaration_rules.specs.BodyNames.{components_scope, formals_scope}
use Rattle.step_soundness.specs.stmt_rules.specs.declared.around.BodyKind.TheVariants as kinds
use Rattle.step_soundness.specs.stmt_rules.specs.SimpleRules.{condition_faults, is_function}
use Rattle.unit_rules.specs.BodyRules.{body_faults, head_faults, kind_of, own_name_faults}
use Rattle.unit_rules.specs.ProtectedBodyRules.{entry_rule}
use Rattle.step_soundness.specs.body_restrictions.specs.BodyRules as profile
use Rattle.ravenscar.specs.ProgramRules as restrictions
use Rattle.expr_soundness.specs.SoundScopes.{SoundScope}
use Rattle.expr_soundness.specs.Laws.{ScopesAreSound}
use Rattle.expr_soundness.specs.meaning.specs.Programs.{Procedure, Program}
use Rattle.expr_soundness.specs.meaning.specs.Works.{Store}
use Rattle.expr_soundness.specs.meaning.specs.Calls.{procedure_among}
use Rattle.step_soundness.specs.Fitting.{entry_of}
use Rattle.step_soundness.specs.Holding.{IsSoundProcedure}
use Rattle.step_soundness.specs.Laws.{Premises}
use Rattle.program_soundness.specs.Fronts.{scope_at}
use Rattle.program_soundness.proofs.Listing.{or_else_some, same_some}
use Rattle.program_soundness.proofs.WiderScopes.{number_stands, one_named, same_bytes, stands, stands_with}
use Rattle.program_soundness.proofs.Walked.{kind, own_profile}
use Rattle.program_soundness.proofs.OneList.{restricted_at}
use Rattle.program_soundness.proofs.Callables.{InObject, InPackage, Bodied, bodies_among, body_place, found_entry, found_procedure, operation_body, procedure_by, procedures_are}
use Rattle.program_soundness.proofs.Whole.{IsPackage, profile_known}
use Rattle.program_soundness.proofs.Agreed.{IsSoundMemory, OffersAll}
use Rattle.program_soundness.proofs.Same.{SameTypes, types_then, types_with_all}
use Rattle.program_soundness.proofs.Beginning.{keeps_same, keeps_with}
use Rattle.program_soundness.proofs.FormalTrees.{new_formals, text_formals, unseen_first, unseen_own}
use Rattle.program_soundness.proofs.BodySound.{IsLegalBody, procedure_sound}
use Rattle.program_soundness.proofs.PackageBodies.{package_procedure}
use Rattle.program_soundness.proofs.Moved.{profile_moved}
use Rattle.program_soundness.proofs.ObjectBodies as bodies
use Rattle.program_soundness.proofs.ObjectFits.{CameTo, came_seen, object_fits, profile_no_type, seen_types}

restricted_item : (cs : List RecordComponent) (items : List ProtectedItemTree) (j : ℕ) (i : ProtectedItemTree) → profile.operations_faults cs items ≡ []
    → slice_get items j ≡ Some i → profile.operation_faults cs i ≡ []
restricted_item cs [] j i h at = cc
restricted_item cs (x ∷ xs) zero i h at =
    subst (λ y. profile.operation_faults cs y ≡ []) (same_some x i at) (front_empty (profile.operation_faults cs x) (profile.operations_faults cs xs) h)
restricted_item cs (x ∷ xs) (suc j) i h at = restricted_item cs xs j i (back_empty (profile.operation_faults cs x) (profile.operations_faults cs xs) h) at

module _ (program : Program) (s : Scope) (all : List BodyItemTree) (w : IsPackage program s all) (laws : Premises program) (scopes : ScopesAreSound)
    (m : Store) (memory : IsSoundMemory program m)
    (offers : (name : List ℕ) (o : ProtectedObject) → stands program.scope name ≡ Some (Protected o) → OffersAll program o)
    (fronts : (k : ℕ) → SoundScope (scope_at s all k)) where
  module _ (k : ℕ) (nm : Identifier) (items : List ProtectedItemTree) (end_name : Identifier) (at : slice_get all k ≡ Some (ProtectedBody nm items end_name))
      (own : (j : ℕ) (i : ProtectedItemTree) → slice_get items j ≡ Some i → bodies.HasOwn program s all w k nm items end_name at i)
      (sounds : bodies.SeenSound program s all w k nm items end_name at)
      (inners : bodies.InnerSound program s all w k nm items end_name at) where
    abbrev obj : ProtectedObject
    obj = (bodies.there program s all w k nm items end_name at).object

    abbrev seen : ℕ → Bool → Scope
    seen j f =
        components_scope
        (scope_at (bodies.begun program s all w k nm items end_name at) (bodies.inner program s all w k nm items end_name at) j) f obj.components

    doubt : (j : ℕ) (i : ProtectedItemTree) → slice_get items j ≡ Some i → (f : Bool) (name : List ℕ) → stands (seen j f) name ≡ Some Doubtful → ⊥
    doubt j i at_j f name h = let n = number_stands (seen j f) name Doubtful h in (sounds j i at_j f).each n.0 Doubtful n.2

    came : (j : ℕ) (i : ProtectedItemTree) → slice_get items j ≡ Some i → (f : Bool) (name : List ℕ) (e : Entity) → stands (seen j f) name ≡ Some e
        → CameTo program s all w laws scopes m memory offers fronts k nm items end_name at own f name e
    came j i at_j f name e h = came_seen program s all w laws scopes m memory offers fronts k nm items end_name at own sounds j i at_j f name e h

    types_of : (j : ℕ) (f : Bool) → SameTypes (bodies.hidden program s all w k nm items end_name at) (seen j f)
    types_of j f = seen_types program s all w laws scopes m memory offers fronts k nm items end_name at own j f

    item_restricted : (j : ℕ) (i : ProtectedItemTree) → slice_get items j ≡ Some i
        → profile.operation_faults (restrictions.components_named (scope_at s all k) nm) i ≡ []
    item_restricted j i h =
        restricted_item (restrictions.components_named (scope_at s all k) nm) items j i (restricted_at s all w.list k (ProtectedBody nm items end_name) at) h

    -- ---- entries

    module _ (j : ℕ) (e : EntryTree) (c : ExprTree) (b : BodyTree) (h : slice_get items j ≡ Some (EntryBody e c b)) where
      entry_rules : entry_rule (seen j false) e.name ++ formals_faults (seen j false) [] e.formals ++ condition_faults (formals_scope (seen j false) e.formals) c
          ++ body_faults (formals_scope (seen j false) e.formals) kinds.Entry b ≡ []
      entry_rules = front_empty _ (end_rule e.name b.end_name) (bodies.item_legal program s all w k nm items end_name at j (EntryBody e c b) h)

      entry_formals : formals_faults (seen j false) [] e.formals ≡ []
      entry_formals =
          back_empty (entry_rule (seen j false) e.name) (formals_faults (seen j false) [] e.formals)
          (front_empty _ (condition_faults (formals_scope (seen j false) e.formals) c) (front_empty _ _ entry_rules))

      entry_legal : IsLegalBody program m (operation_body (Some obj.number) (EntryBody e c b))
      entry_legal =
          record {
            scope = seen j false;
            kind = kinds.Entry;
            fits =
                λ p. object_fits program s all w laws scopes m memory offers fronts k nm items end_name at own false (seen j false) (sounds j (EntryBody e c b) h false) (types_of j false) (came j (EntryBody e c b) h false) p;
            sound = sounds j (EntryBody e c b) h false;
            new =
                new_formals scopes program.scope (seen j false) (seen j false) (sounds j (EntryBody e c b) h false) (keeps_same (seen j false))
                (doubt j (EntryBody e c b) h false)
                (bodies.types_seen program s all w k nm items end_name at j false) [] e.formals entry_formals
                (unseen_first (seen j false) [] e.formals entry_formals);
            text =
                text_formals scopes program.scope (seen j false) (seen j false) (sounds j (EntryBody e c b) h false) (keeps_same (seen j false))
                (doubt j (EntryBody e c b) h false)
                (bodies.types_seen program s all w k nm items end_name at j false) [] e.formals (seen j false) (keeps_same (seen j false)) entry_formals;
            legal = back_empty _ (body_faults (formals_scope (seen j false) e.formals) kinds.Entry b) entry_rules;
            restricted = back_empty _ (profile.body_faults b) (item_restricted j (EntryBody e c b) h);
            statements = refl;
          }

    -- ---- procedures

    module _ (j : ℕ) (e : SubprogramTree) (b : BodyTree) (h : slice_get items j ≡ Some (OperationBody e b)) (none : e.result ≡ None) where
      abbrev front : Scope
      front = seen j (is_some e.result)

      abbrev inside_ : Scope
      inside_ = subprogram_scope front e

      head : head_faults front e b ≡ []
      head =
          front_empty (head_faults front e b) _
          (front_empty _ (end_rule e.name b.end_name) (bodies.item_legal program s all w k nm items end_name at j (OperationBody e b) h))

      formals_legal : formals_faults front [] e.formals ≡ []
      formals_legal = front_empty _ _ (front_empty _ _ (front_empty (profile_faults front e) _ (front_empty _ _ (front_empty _ _ head))))

      own_legal : own_name_faults e.name e.formals ≡ []
      own_legal = back_empty (profile_faults front e) _ (front_empty _ _ (front_empty _ _ head))

      came_own : (name : List ℕ) (x : Entity) → stands inside_ name ≡ Some x
          → CameTo program s all w laws scopes m memory offers fronts k nm items end_name at own (is_some e.result) name x
      came_own name x there =
          by_case
          (or_else_some (stands front name) (one_named (record { name = e.name.name; entity = profile_entity (own_profile front e) }) name) x (sym (stands_with front e.name.name (profile_entity (own_profile front e)) name) ∙ there))
        where
          is_own : name ≡ e.name.name → profile_entity (own_profile front e) ≡ x
              → CameTo program s all w laws scopes m memory offers fronts k nm items end_name at own (is_some e.result) name x
          is_own named is =
              let known =
              profile_known (own_profile front e)
              (λ i. let n = number_stands inside_ name x there in (inners j e b h).each n.0 Doubtful (n.2 ∙ ap Some (sym is ∙ i))) in
              let mine = own j (OperationBody e b) h in
              let moved =
              profile_moved front program.scope
              (bodies.types_seen program s all w k nm items end_name at j (is_some e.result)) e.formals e.result known.0 known.1 in
              let same : mine.profile ≡ known.0 = same_some mine.profile known.0 (sym mine.own ∙ moved) in
              let x_is : Subprogram known.0 ≡ x = sym (ap profile_entity known.1) ∙ is in
              inr (inl (record {
                stands_ =
                    ap (stands (bodies.ended program s all w k nm items end_name at)) named ∙ mine.stands_ ∙ ap (λ q. Some (Subprogram q)) same ∙ ap Some x_is;
                item = (j, OperationBody e b, h, sym named);
                kinds = inl (ap kind (sym x_is));
              }))

          by_name : (t : Bool) → bytes_eq name e.name.name ≡ t → cond t (Some (profile_entity (own_profile front e))) None ≡ Some x
              → CameTo program s all w laws scopes m memory offers fronts k nm items end_name at own (is_some e.result) name x
          by_name true i y = is_own (same_bytes name e.name.name i) (same_some (profile_entity (own_profile front e)) x y)
          by_name false i y = cc

          by_case : (stands front name ≡ Some x) ⊎ ((stands front name ≡ None) × (one_named (record { name = e.name.name; entity = profile_entity (own_profile front e) }) name ≡ Some x))
              → CameTo program s all w laws scopes m memory offers fronts k nm items end_name at own (is_some e.result) name x
          by_case (inl i) = came j (OperationBody e b) h (is_some e.result) name x i
          by_case (inr i) = by_name (bytes_eq name e.name.name) refl i.1

      own_types : SameTypes (bodies.hidden program s all w k nm items end_name at) inside_
      own_types =
          types_then (bodies.hidden program s all w k nm items end_name at) front inside_ (types_of j (is_some e.result))
          (types_with_all front (record { name = e.name.name; entity = profile_entity (own_profile front e) } ∷ []) (profile_no_type (own_profile front e), tt))

      operation_legal : IsLegalBody program m (operation_body (Some obj.number) (OperationBody e b))
      operation_legal =
          record {
            scope = inside_;
            kind = kind_of front e.result;
            fits =
                λ p. object_fits program s all w laws scopes m memory offers fronts k nm items end_name at own (is_some e.result) inside_ (inners j e b h) own_types came_own p;
            sound = inners j e b h;
            new =
                new_formals scopes program.scope front inside_ (inners j e b h) (keeps_with front e.name.name _)
                (doubt j (OperationBody e b) h (is_some e.result))
                (bodies.types_seen program s all w k nm items end_name at j (is_some e.result)) [] e.formals formals_legal
                (unseen_own front e.name _ e.formals own_legal (unseen_first front [] e.formals formals_legal));
            text =
                text_formals scopes program.scope front inside_ (inners j e b h) (keeps_with front e.name.name _)
                (doubt j (OperationBody e b) h (is_some e.result))
                (bodies.types_seen program s all w k nm items end_name at j (is_some e.result)) [] e.formals inside_ (keeps_same inside_) formals_legal;
            legal =
                back_empty (head_faults front e b) _
                (front_empty _ (end_rule e.name b.end_name) (bodies.item_legal program s all w k nm items end_name at j (OperationBody e b) h));
            restricted = item_restricted j (OperationBody e b) h;
            statements = ap (λ r. is_function (kind_of front r)) none;
          }

    pub item_sound : (j : ℕ) (i : ProtectedItemTree) → slice_get items j ≡ Some i → (operation_body (Some obj.number) i).result ≡ None
        → IsSoundProcedure program m (procedure_by program.scope (operation_body (Some obj.number) i))
    item_sound j (OperationBody e b) h none =
        procedure_sound program laws scopes m (operation_body (Some obj.number) (OperationBody e b)) (operation_legal j e b h none)
    item_sound j (EntryBody e c b) h none = procedure_sound program laws scopes m (operation_body (Some obj.number) (EntryBody e c b)) (entry_legal j e c b h)

  -- ---- all bodies

  module _ (object_sound : (k : ℕ) (nm : Identifier) (items : List ProtectedItemTree) (end_name : Identifier) (at : slice_get all k ≡ Some (ProtectedBody nm items end_name))
      (j : ℕ) (i : ProtectedItemTree) → slice_get items j ≡ Some i → (operation_body (Some (bodies.there program s all w k nm items end_name at).object.number) i).result ≡ None
      → IsSoundProcedure program m (procedure_by program.scope (operation_body (Some (bodies.there program s all w k nm items end_name at).object.number) i))) where
    unit_sound : (u : Bodied) → InPackage all u ⊎ InObject program.scope all u → u.result ≡ None → IsSoundProcedure program m (procedure_by program.scope u)
    unit_sound u (inl p) none = package_procedure program s all w laws scopes m memory offers fronts u p none
    unit_sound u (inr q) none =
        let number = (bodies.there program s all w q.place q.name q.items q.end_name q.at).numbered in
        let is = q.is ∙ ap (λ x. operation_body x q.item) number in
        subst (λ v. IsSoundProcedure program m (procedure_by program.scope v)) (sym is)
        (object_sound q.place q.name q.items q.end_name q.at q.index q.item q.there (ap (λ v. v.result) (sym is) ∙ none))

    pub procedures_sound : (owner : Option ℕ) (name : List ℕ) (q : Procedure) → procedure_among program.procedures owner name ≡ Some q
        → IsSoundProcedure program m q
    procedures_sound owner name q h =
        let x =
        found_procedure program.scope (bodies_among program.scope all) owner name q
        (ap (λ l. procedure_among l owner name) (sym (w.procedures ∙ procedures_are program.scope all)) ∙ h) in
        subst (IsSoundProcedure program m) (sym x.is) (unit_sound x.unit_ (body_place program.scope all x.unit_ x.has) x.none)

    pub entries_sound : (n : ℕ) (q : Procedure) → entry_of program.procedures n ≡ Some q → IsSoundProcedure program m q
    entries_sound n q h =
        let x =
        found_entry program.scope (bodies_among program.scope all) n q
        (ap (λ l. entry_of l n) (sym (w.procedures ∙ procedures_are program.scope all)) ∙ h) in
        subst (IsSoundProcedure program m) (sym x.is) (unit_sound x.unit_ (body_place program.scope all x.unit_ x.has) x.none)
