-- The names of a protected object's own, its components and operations, are none that are visible in front of its body (RM 8.3, 9.4).
use Rattle.std.proofs.Common.{◌≡◌, ℕ, ◌+◌, List, [], ◌∷◌, map, cond, ◌<◌, ◌⊎◌, inl, inr, Bool, true, false, Option, Some, None, refl, sym, ap, ◌∙◌, arith}
use Rattle.std.specs.Prelude.{bytes_eq, if◌then◌else◌, length, option_map, slice_get}
use Rattle.ada_tree.specs.declared.expression.Identifier.{Identifier}
use Rattle.ada_tree.specs.StatementTree.{ProtectedTree}
use Rattle.ada_tree.specs.ProgramTree.{BodyItemTree, OfItem, OfProtected, ProgramTree, ProtectedBody, ProtectedItemTree}
use Rattle.image.specs.declared.instruction.Region.TheVariants as regions
use Rattle.types.specs.Entities.{Doubtful, Entity, Protected, ProtectedObject}
use Rattle.types.specs.Places as places
use Rattle.types.specs.Places.{object_of}
use Rattle.types.specs.Scopes.{Scope}
use Rattle.types.specs.Shapes.{value_words}
use Rattle.declaration_rules.specs.ProtectedRules.{object_components, protected_entity}
use Rattle.unit_rules.specs.PackageBodyRules.{body_item_faults}
use Rattle.program_soundness.specs.legality.specs.ProgramRules.{IsLegal}
use Rattle.ravenscar.specs.ProgramRules.{IsRestricted}
use Rattle.expr_soundness.specs.Laws.{ScopesAreSound}
use Rattle.expr_soundness.specs.meaning.specs.Programs.{Program, component, objects_or_none, program_of}
use Rattle.program_soundness.specs.BodyLaws.{NamesAreKnown, PremisesHold}
use Rattle.program_soundness.specs.Fronts.{declared_in, front, scope_at, start_in}
use Rattle.program_soundness.proofs.Listing.{same_some}
use Rattle.program_soundness.proofs.ObjectBodies as bodies
use Rattle.program_soundness.proofs.ObjectItems.{order}
use Rattle.program_soundness.proofs.ObjectTrees.{no_part}
use Rattle.program_soundness.proofs.Parted.{CountsNext, components_at_number, counts_item, no_part_object}
use Rattle.program_soundness.proofs.Walked.{IsOne, ProtectedOnes, declared_one, declares, item_new, legal_at, one_of}
use Rattle.program_soundness.proofs.Whole.{IsPackage, item_stands, no_doubt}
use Rattle.program_soundness.proofs.WiderScopes.{bytes_same, stands, unseen_none}
use Rattle.package_code.specs.Bodies.{Coded, number_in, object_number}
use Rattle.package_code.specs.Package.{place_among}
use Rattle.package_code.specs.Owners.{in_object}
use Rattle.package_code.specs.Refusing.{slot_in}
use Rattle.package_code.proofs.Coded.{body_of}
use Rattle.package_code.proofs.Numbered.{number_of_body}
use Rattle.package_code.proofs.OperationsAdded as added

protected_known : (e : Entity) → IsOne ProtectedOnes e → (e ≡ Doubtful → ⊥) → (o : ProtectedObject) × (e ≡ Protected o)
protected_known (Protected o) h d = (o, refl)
protected_known Doubtful h d = absurd (d refl)
protected_known e h d = cc

-- what is no object has no place
place_none : (from : ℕ) (xs : List places.Object) (name : List ℕ) → object_of xs name ≡ None → place_among from xs name ≡ None
place_none from [] name h = refl
place_none from (x ∷ xs) name h = by_test (bytes_eq x.name name) h (λ k. place_none (from + length (value_words x.value)) xs name k)
  where
    by_test : (b : Bool) → (if b then Some x else object_of xs name) ≡ None
        → (object_of xs name ≡ None → place_among (from + length (value_words x.value)) xs name ≡ None)
        → (if b then Some (record { region = regions.Plain; offset = from }) else place_among (from + length (value_words x.value)) xs name) ≡ None
    by_test true k later = cc
    by_test false k later = later k

module _ (scopes : ScopesAreSound) (known : NamesAreKnown) (premises : PremisesHold) (t : ProgramTree) (legal : IsLegal t) (restricted : IsRestricted t) where
  abbrev program : Program
  program = program_of t

  abbrev start : Scope
  start = start_in t.package_

  abbrev all : List BodyItemTree
  all = declared_in t.package_

  abbrev w : IsPackage program start all
  w = added.w scopes known premises t legal restricted

  -- ---- components

  pub counts : (j : ℕ) (i : BodyItemTree) → slice_get all j ≡ Some i → CountsNext (scope_at start all j) i
  counts j i at = counts_item (scope_at start all j) i rules_ object (λ x h. declared_one (scope_at start all j) i x h)
    where
      rules_ : body_item_faults (scope_at start all j) i ≡ []
      rules_ = legal_at start all j i at w.list.legal

      object : (d : ProtectedTree) → i ≡ OfItem (OfProtected d) → (o : ProtectedObject) × (protected_entity (scope_at start all j) d ≡ Protected o)
      object d is =
          let u : Scope = scope_at start all j in
          let e : Entity = protected_entity u d in
          let there : slice_get all j ≡ Some (OfItem (OfProtected d)) = at ∙ ap Some is in
          let new = unseen_none u d.name.name (item_new u (OfProtected d) (legal_at start all j (OfItem (OfProtected d)) there w.list.legal)) in
          let one : one_of (declares u (OfItem (OfProtected d))) d.name.name ≡ Some e = ap (λ t. cond t (Some e) None) (bytes_same d.name.name) in
          let stands_ = item_stands program start all w j (OfItem (OfProtected d)) d.name.name e there new one in
          protected_known e (declared_one u (OfItem (OfProtected d)) (record { name = d.name.name; entity = e }) refl)
          (λ h. no_doubt program start all w d.name.name (stands_ ∙ ap Some h))

  module _ (place : ℕ) (name : Identifier) (items : List ProtectedItemTree) (end_name : Identifier)
      (at : slice_get (declared_in t.package_) place ≡ Some (ProtectedBody name items end_name)) where
    abbrev object : ProtectedObject
    object = added.obj scopes known premises t legal restricted place name items end_name at

    abbrev pub declaration : bodies.IsObjectAt program start all w name.name object
    declaration = bodies.declared_at program start all w place name items end_name at

    -- the components of the object with its number are those of its declaration
    pub components_are : program.components object.number ≡ map (component program.scope) declaration.tree.components
    components_are =
        let number = bodies.number_of_object program start all w name.name object declaration in
        let none = w.unprotected in
        ap (λ f. f object.number) w.components
        ∙ ap objects_or_none
        (components_at_number program.scope start all declaration.place declaration.tree counts declaration.at object.number (omega (arith, number, none)))

    parts_of : object_components (scope_at start all declaration.place) declaration.tree.components ≡ Some object.components
    parts_of = bodies.components_of program start all w name.name object declaration

    -- none of them is visible in front of the body
    component_none : (own : List ℕ) (e : Entity) → stands (front t place) own ≡ Some e → object_of (program.components object.number) own ≡ None
    component_none own e h =
        ap (λ l. object_of l own) components_are
        ∙ no_part_object program.scope (scope_at start all declaration.place) false declaration.tree.components object.components own parts_of
        (no_part (scope_at start all declaration.place) false declaration.tree.components object.components own parts_of
        (bodies.no_part_here program start all w place name items end_name at own e h).1)

    pub no_slot : (own : List ℕ) (e : Entity) → stands (front t place) own ≡ Some e → slot_in t (Some (object_number program.scope name)) own ≡ None
    no_slot own e h =
        ap (λ o. slot_in t (Some o) own) (added.number_is scopes known premises t legal restricted place name items end_name at)
        ∙ ap (option_map in_object) (place_none 0 (program.components object.number) own (component_none own e h))

    -- nor has an operation its name
    module _ (own : List ℕ) (e : Entity) (there : stands (front t place) own ≡ Some e) where
      abbrev number : ℕ
      number = object_number program.scope name

      unseen : (p k : ℕ) (c : Coded) → added.IsInObject scopes known premises t legal restricted p k c → c.owner ≡ Some number → c.head.name.name ≡ own → ⊥
      unseen p k c x owned named = by_order (order p place)
        where
          same : object_number program.scope x.name ≡ number
          same = same_some (object_number program.scope x.name) number (sym (added.owner_is scopes known premises t legal restricted p k c x) ∙ owned)

          by_order : (p < place) ⊎ ((p ≡ place) ⊎ (place < p)) → ⊥
          by_order (inl less) =
              added.one_object scopes known premises t legal restricted p place x.name name x.items items x.end_name end_name less x.at at same
          by_order (inr (inl here)) =
              let none = (added.owned scopes known premises t legal restricted p x.name x.items x.end_name x.at k x.item x.there).unseen in
              let is : bodies.unit_name x.item ≡ own = sym (added.name_is scopes known premises t legal restricted p k c x) ∙ named in
              let bad = sym none ∙ (λ j. stands (front t (here j)) (is j)) ∙ there in
              cc
          by_order (inr (inr less)) =
              added.one_object scopes known premises t legal restricted place p name x.name items x.items end_name x.end_name less at x.at (sym same)

      pub no_number : number_in t (Some number) own ≡ None
      no_number = by_number (number_in t (Some number) own) refl
        where
          by_number : (n : Option ℕ) → number_in t (Some number) own ≡ n → n ≡ None
          by_number None is = refl
          by_number (Some n) is =
              absurd (
              let f = number_of_body t (Some number) own n is in
              let b = body_of t n f.code f.is in
              unseen b.place b.k f.code (added.in_object scopes known premises t legal restricted b.place b.item b.k f.code number b.is b.at f.owned) f.owned
              f.named
              )
