-- Subprograms of the package: each body has the profile that its name stands for, and each name of a subprogram has a body.
use Rattle.std.proofs.Common.{◌≡◌, ◌<◌, ℕ, suc, ◌+◌, List, [], take, drop, map, not, Bool, true, false, cond, ◌&&◌, ◌||◌, ◌⊎◌, inl, inr, Option, Some, None, refl, sym, ap, ◌∙◌, subst, arith}
use Rattle.std.specs.Prelude.{is_some, option_map, slice_get}
use Rattle.std.specs.List.{list_any}
use Rattle.std.proofs.lemmas.List.{take-take}
use Rattle.expr_soundness.specs.ada_tree.specs.declared.expression.Identifier.{Identifier}
use Rattle.expr_soundness.specs.ada_tree.specs.StatementTree.{SubprogramTree}
use Rattle.expr_soundness.specs.ada_tree.specs.ProgramTree.{BodyTree, BodyItemTree, OfItem, SubprogramBody, ProtectedBody, OfSubprogram, ProtectedItemTree, OperationBody, EntryBody}
use Rattle.types.specs.declared.entity.Subtype.{Subtype}
use Rattle.types.specs.Entities.{Entity, Profile, ProtectedObject, Subprogram, Protected, Doubtful}
use Rattle.types.specs.Scopes.{Named, Scope, is_visible, protected_of}
use Rattle.types.specs.Evaluating.{formal_subtype}
use Rattle.types.specs.Places.{Function, function_of, is_of}
use Rattle.expr_soundness.specs.expr_rules.proofs.TypedLaw.{back_empty, front_empty, judged, unbroken}
use Rattle.expr_soundness.specs.type_rules.specs.SubtypeNames.{end_rule, named_entity}
use Rattle.expr_soundness.specs.type_rules.specs.ProfileRules.{formal_parameters, profile_entity, profile_with}
use Rattle.conformance.specs.MatchingRules.{any_declared, conforms, is_unlike_subprogram, passes_declared, same_formals, same_name, same_result}
use Rattle.unit_rules.specs.BodyRules.{body_name_faults, body_name_rule, function_body_faults, head_faults, is_function_body, is_subprogram, subprogram_body_faults}
use Rattle.declaration_rules.specs.PackageNames.{body_items_scope}
use Rattle.unit_rules.specs.ProtectedBodyRules.{is_object, object_rule}
use Rattle.expr_soundness.specs.Agreeing.{HasProfile}
use Rattle.expr_soundness.specs.meaning.specs.Programs.{Procedure, Program, formal, object_numbered, parameter}
use Rattle.expr_soundness.specs.meaning.specs.Calls.{procedure_among}
use Rattle.step_soundness.specs.Fitting.{IsProcedure, formal_of}
use Rattle.program_soundness.specs.Fronts.{scope_at}
use Rattle.program_soundness.proofs.Listing.{Has, dropped_at, none_passes, not_both, one_passes, same_some, within_taken}
use Rattle.program_soundness.proofs.WiderScopes.{bytes_same, equal_bytes, some_seen, stands}
use Rattle.program_soundness.proofs.Walked.{Origin, body_item_kind, declared_one, declares, legal_at, one_of, origin, own_profile}
use Rattle.program_soundness.proofs.OneList.{is_subprogram_body, matched_at}
use Rattle.program_soundness.proofs.Callables.{Bodied, InObject, InPackage, all_functions, all_procedures, any_function, any_procedure, bodies_among, body_place, found_function, found_procedure, functions_are, operation_body, procedures_are, subprogram_body, subprogram_has}
use Rattle.program_soundness.proofs.BodyProfiles.{named_is, parameters_are, profile_formals, profile_kept, profile_none, profile_same, profile_some, subtypes_are}
use Rattle.program_soundness.proofs.Whole.{IsPackage, came, kept, item_stands, known_kind, no_doubt, origin_kind, profile_is, profile_known, protected_is, same_profile, subprogram_is, subprogram_item, subprogram_passes, value_returned}

both_true : (a b : Bool) → (a && b) ≡ true → (a ≡ true) × (b ≡ true)
both_true true b h = (refl, h)
both_true false b h = cc

either_false : (a b : Bool) → (a || b) ≡ false → (a ≡ false) × (b ≡ false)
either_false true b h = cc
either_false false b h = (refl, h)

not_true : (b : Bool) → not b ≡ false → b ≡ true
not_true true h = refl
not_true false h = cc

operation_owner : (o : Option ℕ) (i : ProtectedItemTree) → (operation_body o i).owner ≡ o
operation_owner o (OperationBody d b) = refl
operation_owner o (EntryBody d barrier b) = refl

module _ (program : Program) (s : Scope) (all : List BodyItemTree) (w : IsPackage program s all) where
  -- ---- the name of a body stands for a subprogram with its profile

  pub record HasEntity (d : SubprogramTree) : Type 0 where
    pub profile : Profile
    pub stands_ : stands program.scope d.name.name ≡ Some (Subprogram profile)
    pub own : own_profile program.scope d ≡ Some profile

  module _ (k : ℕ) (d : SubprogramTree) (b : BodyTree) (at : slice_get all k ≡ Some (SubprogramBody d b)) where
    abbrev here : Scope
    here = scope_at s all k

    pub body_legal : subprogram_body_faults here d b ≡ []
    body_legal = legal_at s all k (SubprogramBody d b) at w.list.legal

    pub head_legal : head_faults here d b ≡ []
    head_legal = front_empty (head_faults here d b) _ (front_empty _ (end_rule d.name b.end_name) body_legal)

    name_legal : body_name_faults here d.name ≡ []
    name_legal = back_empty _ (body_name_faults here d.name) (front_empty _ (function_body_faults d b) head_legal)

    matched : (list_any (is_subprogram_body d.name) (take k all) || any_declared (is_unlike_subprogram d) [] (take k all)) ≡ false
    matched = unbroken _ d.name.place _ (matched_at s all w.list k (SubprogramBody d b) at)

    declared_here : stands here d.name.name ≡ None → HasEntity d
    declared_here none =
        let e : Entity = profile_entity (own_profile here d) in
        let one : one_of (declares here (SubprogramBody d b)) d.name.name ≡ Some e = ap (λ t. cond t (Some e) None) (bytes_same d.name.name) in
        let there = item_stands program s all w k (SubprogramBody d b) d.name.name e at none one in
        let known = profile_known (own_profile here d) (λ i. no_doubt program s all w d.name.name (there ∙ ap Some i)) in
        record {
          profile = known.0;
          stands_ = there ∙ ap (λ o. Some (profile_entity o)) known.1;
          own = profile_kept here program.scope (kept program s all w k) d.formals d.result known.0 known.1;
        }

    -- a declaration in front with this name conforms
    declared_in_front : (p : Profile) → stands here d.name.name ≡ Some (Subprogram p) → (o : Origin s (take k all) d.name.name (Subprogram p)) → HasEntity d
    declared_in_front p there o =
        by_item (subprogram_item o.item (known_kind (body_item_kind o.item) (Subprogram p) (declared_one _ o.item _ o.declared) (λ i. cc)))
      where
        place : (o.place < k) × (slice_get all o.place ≡ Some o.item)
        place = within_taken all k o.place o.item o.at

        front : scope_at s (take k all) o.place ≡ scope_at s all o.place
        front = let l = place.0 in ap (body_items_scope s) (take-take o.place k all (omega (arith, l)))

        by_item : ((e : SubprogramTree) × (o.item ≡ OfItem (OfSubprogram e))) ⊎ ((e : SubprogramTree) × (c : BodyTree) × (o.item ≡ SubprogramBody e c))
            → HasEntity d
        by_item (inr i) =
            let declared = ap (declares (scope_at s (take k all) o.place)) (sym i.2) ∙ o.declared in
            let named : i.0.name.name ≡ d.name.name =
            ap (λ x. x.name)
            (same_some (record { name = i.0.name.name; entity = profile_entity (own_profile (scope_at s (take k all) o.place) i.0) }) (record { name = d.name.name; entity = Subprogram p }) declared) in
            let none =
            none_passes (is_subprogram_body d.name) (take k all) o.place (SubprogramBody i.0 i.1) (either_false _ _ matched).0 (o.at ∙ ap Some i.2) in
            absurd (not_both (same_name d.name i.0.name) (equal_bytes d.name.name i.0.name.name (sym named)) none)
        by_item (inl i) =
            let declared = ap (declares (scope_at s (take k all) o.place)) (sym i.1) ∙ o.declared in
            let pair =
            same_some (record { name = i.0.name.name; entity = profile_entity (own_profile (scope_at s (take k all) o.place) i.0) })
            (record { name = d.name.name; entity = Subprogram p }) declared in
            let named : i.0.name.name ≡ d.name.name = ap (λ x. x.name) pair in
            let own = profile_is (own_profile (scope_at s (take k all) o.place) i.0) p (ap (λ x. x.entity) pair) in
            let own_there : own_profile (scope_at s all o.place) i.0 ≡ Some p = ap (λ u. own_profile u i.0) (sym front) ∙ own in
            let unlike =
            none_passes (passes_declared (is_unlike_subprogram d)) (take k all) o.place (OfItem (OfSubprogram i.0)) (either_false _ _ matched).1
            (o.at ∙ ap Some i.1) in
            let alike =
            both_true (same_formals i.0.formals d.formals) (same_result i.0.result d.result)
            (judged (same_name i.0.name d.name) (conforms i.0 d) unlike (equal_bytes i.0.name.name d.name.name named)) in
            record {
              profile = p;
              stands_ = kept program s all w k d.name.name (Subprogram p) there;
              own = sym (profile_same program.scope i.0.formals d.formals i.0.result d.result alike.0 alike.1)
                  ∙ profile_kept (scope_at s all o.place) program.scope (kept program s all w o.place) i.0.formals i.0.result p own_there;
            }

    pub body_entity : HasEntity d
    body_entity = by_stands (stands here d.name.name) refl
      where
        by_origin : (p : Profile) → stands here d.name.name ≡ Some (Subprogram p)
            → (stands s d.name.name ≡ Some (Subprogram p)) ⊎ Origin s (take k all) d.name.name (Subprogram p) → HasEntity d
        by_origin p i (inl j) = let first = (w.started d.name.name (Subprogram p) j).first in cc
        by_origin p i (inr o) = declared_in_front p i o

        by_kind : (e : Entity) → stands here d.name.name ≡ Some e → ((p : Profile) × (e ≡ Subprogram p)) ⊎ (e ≡ Doubtful) → HasEntity d
        by_kind e i (inl x) = by_origin x.0 (i ∙ ap Some x.1) (origin s (take k all) d.name.name (Subprogram x.0) (i ∙ ap Some x.1))
        by_kind e i (inr x) = absurd (no_doubt program s all w d.name.name (kept program s all w k d.name.name Doubtful (i ∙ ap Some x)))

        by_test : (e : Entity) → stands here d.name.name ≡ Some e → (t : Bool) → is_subprogram (Some e) ≡ t → HasEntity d
        by_test e i true x = by_kind e i (subprogram_is e x)
        by_test e i false x =
            let faults : elim (is_subprogram (named_entity here d.name)) [ true ↦ [] | false ↦ body_name_rule here d.name ] ≡ [] = name_legal in
            let here_ : body_name_rule here d.name ≡ [] =
            subst (λ t. elim t [ true ↦ [] | false ↦ body_name_rule here d.name ] ≡ []) (ap is_subprogram i ∙ x) faults in
            absurd (not_both (is_visible here d.name.name) (some_seen here d.name.name e i) (unbroken _ _ _ here_))

        by_stands : (o : Option Entity) → stands here d.name.name ≡ o → HasEntity d
        by_stands None i = declared_here i
        by_stands (Some e) i = by_test e i (is_subprogram (Some e)) refl

  -- ---- each name of a subprogram has a body

  pub record HasBody (name : List ℕ) (p : Profile) : Type 0 where
    pub place : ℕ
    pub subprogram : SubprogramTree
    pub body : BodyTree
    pub at : slice_get all place ≡ Some (SubprogramBody subprogram body)
    pub named : subprogram.name.name ≡ name
    pub own : own_profile program.scope subprogram ≡ Some p

  pub subprogram_there : (name : List ℕ) (p : Profile) → stands program.scope name ≡ Some (Subprogram p) → HasBody name p
  subprogram_there name p h = by_case (came program s all w name (Subprogram p) h)
    where
      body_at : (k : ℕ) (d : SubprogramTree) (b : BodyTree) → slice_get all k ≡ Some (SubprogramBody d b) → d.name.name ≡ name → HasBody name p
      body_at k d b at named =
          let e = body_entity k d b at in
          let same = same_profile e.profile p (sym e.stands_ ∙ ap (stands program.scope) named ∙ h) in
          record { place = k; subprogram = d; body = b; at = at; named = named; own = e.own ∙ ap Some same }

      declared_name : (o : Origin s all name (Subprogram p)) (i : BodyItemTree) (x : Named) → o.item ≡ i → declares (scope_at s all o.place) i ≡ Some x
          → x.name ≡ name
      declared_name o i x is j =
          ap (λ y. y.name) (same_some x (record { name = name; entity = Subprogram p }) (sym j ∙ ap (declares (scope_at s all o.place)) (sym is) ∙ o.declared))

      behind : (o : Origin s all name (Subprogram p)) (d : SubprogramTree) → o.item ≡ OfItem (OfSubprogram d) → HasBody name p
      behind o d is =
          let at : slice_get all o.place ≡ Some (OfItem (OfSubprogram d)) = o.at ∙ ap Some is in
          let any =
          not_true (list_any (is_subprogram_body d.name) (drop (suc o.place) all))
          (unbroken _ d.name.place _ (matched_at s all w.list o.place (OfItem (OfSubprogram d)) at)) in
          let one = one_passes (is_subprogram_body d.name) (drop (suc o.place) all) any in
          let body = subprogram_passes d.name one.1 one.3 in
          body_at (suc o.place + one.0) body.0 body.1 (sym (dropped_at all (suc o.place) one.0) ∙ one.2 ∙ ap Some body.2)
          (body.3 ∙ declared_name o (OfItem (OfSubprogram d)) (record { name = d.name.name; entity = profile_entity (own_profile (scope_at s all o.place) d) }) is refl)

      by_item : (o : Origin s all name (Subprogram p))
          → ((d : SubprogramTree) × (o.item ≡ OfItem (OfSubprogram d))) ⊎ ((d : SubprogramTree) × (b : BodyTree) × (o.item ≡ SubprogramBody d b))
          → HasBody name p
      by_item o (inl i) = behind o i.0 i.1
      by_item o (inr i) =
          body_at o.place i.0 i.1 (o.at ∙ ap Some i.2)
          (declared_name o (SubprogramBody i.0 i.1) (record { name = i.0.name.name; entity = profile_entity (own_profile (scope_at s all o.place) i.0) }) i.2 refl)

      by_case : (stands s name ≡ Some (Subprogram p)) ⊎ Origin s all name (Subprogram p) → HasBody name p
      by_case (inl k) = let first = (w.started name (Subprogram p) k).first in cc
      by_case (inr o) = by_item o (subprogram_item o.item (origin_kind program s all w name (Subprogram p) o (λ d. cc)))

  -- ---- protected objects with bodies

  pub record HasObject (k : ℕ) (name : Identifier) : Type 0 where
    pub object : ProtectedObject
    pub stands_ : stands (scope_at s all k) name.name ≡ Some (Protected object)
    pub numbered : object_numbered program.scope name ≡ Some object.number

  pub object_there : (k : ℕ) (name : Identifier) (items : List ProtectedItemTree) (end_name : Identifier)
      → slice_get all k ≡ Some (ProtectedBody name items end_name) → HasObject k name
  object_there k name items end_name at =
      let here : Scope = scope_at s all k in
      let legal = legal_at s all k (ProtectedBody name items end_name) at w.list.legal in
      let is =
      not_true (is_object (named_entity here name))
      (unbroken _ name.place _ (front_empty (object_rule here name) _ (front_empty _ (end_rule name end_name) legal))) in
      let x = protected_is (named_entity here name) is (λ d. no_doubt program s all w name.name (kept program s all w k name.name Doubtful d)) in
      record {
        object = x.0;
        stands_ = x.1;
        numbered = ap (λ o. option_map (λ y. y.number) (protected_of o)) (kept program s all w k name.name (Protected x.0) x.1);
      }

  -- ---- what a look-up in the package finds

  abbrev us : List Bodied
  us = bodies_among program.scope all

  of_package : (u : Bodied) → Has us u → is_of u.owner None ≡ true → InPackage all u
  of_package u has owned = by_place (body_place program.scope all u has)
    where
      by_place : InPackage all u ⊎ InObject program.scope all u → InPackage all u
      by_place (inl p) = p
      by_place (inr p) =
          let o = object_there p.place p.name p.items p.end_name p.at in
          let owner : u.owner ≡ Some o.object.number = ap (λ v. v.owner) p.is ∙ operation_owner (object_numbered program.scope p.name) p.item ∙ o.numbered in
          let bad : is_of (Some o.object.number) None ≡ true = subst (λ x. is_of x None ≡ true) owner owned in cc

  unit_entity : (u : Bodied) (p : InPackage all u) → HasEntity p.subprogram
  unit_entity u p = body_entity p.place p.subprogram p.body p.at

  pub record IsFunctionOf (name : List ℕ) (f : Function) : Type 0 where
    pub profile : Profile
    pub stands_ : stands program.scope name ≡ Some (Subprogram profile)
    pub has : HasProfile f profile

  pub function_entity : (name : List ℕ) (f : Function) → function_of program.functions None name ≡ Some f → IsFunctionOf name f
  function_entity name f h =
      let x = found_function program.scope us None name f (ap (λ l. function_of l None name) (sym (w.functions ∙ functions_are program.scope all)) ∙ h) in
      let p = of_package x.unit_ x.has x.owned in
      let e = unit_entity x.unit_ p in
      let unit_is = p.is in
      let result : p.subprogram.result ≡ Some x.result = ap (λ v. v.result) (sym unit_is) ∙ x.some in
      let own : profile_with program.scope (formal_parameters program.scope p.subprogram.formals) (Some x.result) ≡ Some e.profile =
      ap (profile_with program.scope (formal_parameters program.scope p.subprogram.formals)) (sym result) ∙ e.own in
      let t = profile_some program.scope (formal_parameters program.scope p.subprogram.formals) x.result e.profile own in
      let formals = profile_formals program.scope (formal_parameters program.scope p.subprogram.formals) (Some x.result) e.profile own in
      record {
        profile = e.profile;
        stands_ = ap (stands program.scope) (sym x.named ∙ ap (λ v. v.name) unit_is) ∙ e.stands_;
        has = record {
          formals =
              ap (λ g. map formal_subtype g.formals) x.is
              ∙ ap (λ v. map formal_subtype (map (formal program.scope) v.formals)) unit_is
              ∙ subtypes_are program.scope p.subprogram.formals e.profile.formals formals;
          result = t.2 ∙ ap Some (sym (named_is program.scope x.result t.0 t.1) ∙ sym (ap (λ g. g.result) x.is));
        };
      }

  pub record HasFunction (name : List ℕ) (p : Profile) : Type 0 where
    pub function : Function
    pub found : function_of program.functions None name ≡ Some function
    pub has : HasProfile function p

  pub entity_function : (name : List ℕ) (p : Profile) (t : Subtype) → stands program.scope name ≡ Some (Subprogram p) → p.result ≡ Some t → HasFunction name p
  entity_function name p t h some = by_result x.subprogram.result refl
    where
      x : HasBody name p
      x = subprogram_there name p h

      found : (r : Identifier) → x.subprogram.result ≡ Some r → HasFunction name p
      found r is =
          let rule_ =
          unbroken _ x.subprogram.name.place _ (back_empty _ (function_body_faults x.subprogram x.body) (head_legal x.place x.subprogram x.body x.at)) in
          let value = value_returned x.body (judged (is_some x.subprogram.result) (is_function_body x.body) rule_ (ap is_some is)) in
          let u : Bodied = subprogram_body None x.subprogram x.body in
          let any = any_function program.scope us u None r value.0 (subprogram_has program.scope all x.place x.subprogram x.body x.at) is value.1 refl in
          let there =
          ap (λ l. function_of l None name) (w.functions ∙ functions_are program.scope all)
          ∙ ap (function_of (all_functions program.scope us) None) (sym x.named) ∙ any.1 in
          let e = function_entity name any.0 there in
          record { function = any.0; found = there; has = subst (HasProfile any.0) (same_profile e.profile p (sym e.stands_ ∙ h)) e.has }

      by_result : (o : Option Identifier) → x.subprogram.result ≡ o → HasFunction name p
      by_result (Some r) is = found r is
      by_result None is =
          let own = ap (profile_with program.scope (formal_parameters program.scope x.subprogram.formals)) (sym is) ∙ x.own in
          let none = profile_none program.scope (formal_parameters program.scope x.subprogram.formals) p own in
          let bad = sym none ∙ some in cc

  pub record IsProcedureOf (name : List ℕ) (q : Procedure) : Type 0 where
    pub profile : Profile
    pub stands_ : stands program.scope name ≡ Some (Subprogram profile)
    pub formals : map formal_of q.parameters ≡ profile.formals
    pub barrier : q.barrier ≡ None

  pub procedure_entity : (name : List ℕ) (q : Procedure) → procedure_among program.procedures None name ≡ Some q → IsProcedureOf name q
  procedure_entity name q h =
      let x =
      found_procedure program.scope us None name q (ap (λ l. procedure_among l None name) (sym (w.procedures ∙ procedures_are program.scope all)) ∙ h) in
      let p = of_package x.unit_ x.has x.owned in
      let e = unit_entity x.unit_ p in
      let unit_is = p.is in
      let formals = profile_formals program.scope (formal_parameters program.scope p.subprogram.formals) p.subprogram.result e.profile e.own in
      record {
        profile = e.profile;
        stands_ = ap (stands program.scope) (sym x.named ∙ ap (λ v. v.name) unit_is) ∙ e.stands_;
        formals =
            ap (λ r. map formal_of r.parameters) x.is
            ∙ ap (λ v. map formal_of (map (parameter program.scope) v.formals)) unit_is
            ∙ parameters_are program.scope p.subprogram.formals e.profile.formals formals;
        barrier = ap (λ r. r.barrier) x.is ∙ ap (λ v. v.barrier) unit_is;
      }

  pub entity_procedure : (name : List ℕ) (p : Profile) → stands program.scope name ≡ Some (Subprogram p) → p.result ≡ None
      → IsProcedure (procedure_among program.procedures None name) p
  entity_procedure name p h none = by_result x.subprogram.result refl
    where
      x : HasBody name p
      x = subprogram_there name p h

      by_result : (o : Option Identifier) → x.subprogram.result ≡ o → IsProcedure (procedure_among program.procedures None name) p
      by_result None is =
          let u : Bodied = subprogram_body None x.subprogram x.body in
          let any = any_procedure program.scope us u None (subprogram_has program.scope all x.place x.subprogram x.body x.at) is refl in
          let there =
          ap (λ l. procedure_among l None name) (w.procedures ∙ procedures_are program.scope all)
          ∙ ap (procedure_among (all_procedures program.scope us) None) (sym x.named) ∙ any.1 in
          let e = procedure_entity name any.0 there in
          record { procedure = any.0; is = there; formals = e.formals ∙ ap (λ r. r.formals) (same_profile e.profile p (sym e.stands_ ∙ h)); barrier = e.barrier }
      by_result (Some r) is =
          let own = ap (profile_with program.scope (formal_parameters program.scope x.subprogram.formals)) (sym is) ∙ x.own in
          let t = profile_some program.scope (formal_parameters program.scope x.subprogram.formals) r p own in
          let bad = sym none ∙ t.2 in cc
