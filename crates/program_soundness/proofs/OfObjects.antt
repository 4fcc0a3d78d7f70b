-- The functions in the body of a protected object are sound: its components are constants there.
use Rattle.std.proofs.Common.{◌≡◌, ℕ, List, [], ◌∷◌, Bool, true, false, cond, ◌⊎◌, inl, inr, Some, None, refl, sym, ap, ◌∙◌}
use Rattle.std.specs.Prelude.{bytes_eq, is_some, slice_get}
use Rattle.expr_soundness.specs.ada_tree.specs.declared.expression.Identifier.{Identifier}
use Rattle.expr_soundness.specs.ada_tree.specs.StatementTree.{SubprogramTree}
use Rattle.expr_soundness.specs.ada_tree.specs.ProgramTree.{BodyTree, BodyItemTree, ProtectedBody, ProtectedItemTree, OperationBody}
use Rattle.types.specs.Entities.{Entity, ProtectedObject, Protected, Subprogram, Doubtful}
use Rattle.types.specs.Scopes.{Scope}
use Rattle.types.specs.Places.{Place}
use Rattle.expr_soundness.specs.type_rules.specs.ProfileRules.{profile_entity, subprogram_scope}
use Rattle.declaration_rules.specs.BodyNames.{components_scope}
use Rattle.expr_soundness.specs.SoundScopes.{SoundScope}
use Rattle.expr_soundness.specs.Agreeing.{Agrees}
use Rattle.expr_soundness.specs.Laws.{ScopesAreSound}
use Rattle.expr_soundness.specs.meaning.specs.Programs.{Program}
use Rattle.expr_soundness.specs.meaning.specs.Works.{Store}
use Rattle.step_soundness.specs.Holding.{inside}
use Rattle.step_soundness.specs.Laws.{Premises}
use Rattle.program_soundness.specs.Fronts.{scope_at}
use Rattle.program_soundness.specs.BodyLaws.{IsSoundMemory}
use Rattle.program_soundness.proofs.Listing.{or_else_some, same_some}
use Rattle.program_soundness.proofs.WiderScopes.{number_stands, one_named, same_bytes, stands, stands_with}
use Rattle.program_soundness.proofs.Walked.{kind, own_profile}
use Rattle.program_soundness.proofs.Callables.{operation_body}
use Rattle.program_soundness.proofs.Whole.{IsPackage, profile_known}
use Rattle.program_soundness.proofs.Agreed.{OffersAll}
use Rattle.program_soundness.proofs.Same.{SameTypes, types_then, types_with_all}
use Rattle.program_soundness.proofs.Moved.{profile_moved}
use Rattle.program_soundness.proofs.ObjectBodies as bodies
use Rattle.program_soundness.proofs.ObjectFits.{CameTo, came_seen, object_fits, profile_no_type, seen_types}
use Rattle.program_soundness.proofs.SimpleResults.{IsSimpleResult, result_simple}
use Rattle.program_soundness.proofs.Entering.{IsSoundFunction, function_sound}

module _ (program : Program) (s : Scope) (all : List BodyItemTree) (w : IsPackage program s all) (laws : Premises program) (scopes : ScopesAreSound)
    (m : Store) (memory : IsSoundMemory program m)
    (offers : (name : List ℕ) (o : ProtectedObject) → stands program.scope name ≡ Some (Protected o) → OffersAll program o)
    (fronts : (k : ℕ) → SoundScope (scope_at s all k))
    (k : ℕ) (nm : Identifier) (items : List ProtectedItemTree) (end_name : Identifier) (at : slice_get all k ≡ Some (ProtectedBody nm items end_name)) where
  abbrev obj : ProtectedObject
  obj = (bodies.there program s all w k nm items end_name at).object

  -- in front of an operation's body, with the components
  abbrev seen_at : ℕ → Bool → Scope
  seen_at j f =
      components_scope (scope_at (bodies.begun program s all w k nm items end_name at) (bodies.inner program s all w k nm items end_name at) j) f obj.components

  module _ (own : (j : ℕ) (i : ProtectedItemTree) → slice_get items j ≡ Some i → bodies.HasOwn program s all w k nm items end_name at i)
      (sounds : bodies.SeenSound program s all w k nm items end_name at) (inners : bodies.InnerSound program s all w k nm items end_name at)
      (j : ℕ) (e : SubprogramTree) (b : BodyTree) (h : slice_get items j ≡ Some (OperationBody e b)) where
    abbrev pub front : Scope
    front = seen_at j (is_some e.result)

    abbrev pub behind : Scope
    behind = subprogram_scope front e

    abbrev Came : List ℕ → Entity → Type 0
    Came name x = CameTo program s all w laws scopes m memory offers fronts k nm items end_name at own (is_some e.result) name x

    abbrev own_entity : Entity
    own_entity = profile_entity (own_profile front e)

    pub doubt : (name : List ℕ) → stands front name ≡ Some Doubtful → ⊥
    doubt name there = let n = number_stands front name Doubtful there in (sounds j (OperationBody e b) h (is_some e.result)).each n.0 Doubtful n.2

    -- the operation's own name stands for what it stands for behind the whole body
    came_own : (name : List ℕ) (x : Entity) → stands behind name ≡ Some x → name ≡ e.name.name → own_entity ≡ x → Came name x
    came_own name x there named is =
        let known = profile_known (own_profile front e) (λ i. let n = number_stands behind name x there in (inners j e b h).each n.0 Doubtful
        (n.2 ∙ ap Some (sym is ∙ i))) in
        let mine = own j (OperationBody e b) h in
        let moved =
        profile_moved front program.scope (bodies.types_seen program s all w k nm items end_name at j (is_some e.result)) e.formals e.result known.0 known.1 in
        let same = same_some mine.profile known.0 (sym mine.own ∙ moved) in
        let x_is : Subprogram known.0 ≡ x = sym (ap profile_entity known.1) ∙ is in
        inr (inl (record {
          stands_ = ap (stands (bodies.ended program s all w k nm items end_name at)) named ∙ mine.stands_ ∙ ap (λ q. Some (Subprogram q)) same ∙ ap Some x_is;
          item = (j, OperationBody e b, h, sym named);
          kinds = inl (ap kind (sym x_is));
        }))

    pub came : (name : List ℕ) (x : Entity) → stands behind name ≡ Some x → Came name x
    came name x there =
        by_case
        (or_else_some (stands front name) (one_named (record { name = e.name.name; entity = own_entity }) name) x
        (sym (stands_with front e.name.name own_entity name) ∙ there))
      where
        by_name : (t : Bool) → bytes_eq name e.name.name ≡ t → cond t (Some own_entity) None ≡ Some x → Came name x
        by_name true i y = came_own name x there (same_bytes name e.name.name i) (same_some own_entity x y)
        by_name false i y = cc

        by_case : (stands front name ≡ Some x) ⊎ ((stands front name ≡ None) × (one_named (record { name = e.name.name; entity = own_entity }) name ≡ Some x))
            → Came name x
        by_case (inl i) =
            came_seen program s all w laws scopes m memory offers fronts k nm items end_name at own sounds j (OperationBody e b) h (is_some e.result) name x i
        by_case (inr i) = by_name (bytes_eq name e.name.name) refl i.1

    pub types : SameTypes (bodies.hidden program s all w k nm items end_name at) behind
    types =
        types_then (bodies.hidden program s all w k nm items end_name at) front behind
        (seen_types program s all w laws scopes m memory offers fronts k nm items end_name at own j (is_some e.result))
        (types_with_all front (record { name = e.name.name; entity = own_entity } ∷ []) (profile_no_type (own_profile front e), tt))

    agrees : (p : Place) → Agrees behind (inside program m (record { within = Some obj.number; locals = [] }) p)
    agrees p =
        (object_fits program s all w laws scopes m memory offers fronts k nm items end_name at own (is_some e.result) behind (inners j e b h) types
        came p).agrees

    pub operation_sound : IsSoundFunction program m (operation_body (Some obj.number) (OperationBody e b))
    operation_sound =
        function_sound program laws scopes m (Some obj.number) front doubt (bodies.types_seen program s all w k nm items end_name at j (is_some e.result)) e b
        (bodies.item_legal program s all w k nm items end_name at j (OperationBody e b) h) agrees

    -- and gives no composite value
    pub operation_simple : Place → (r : Identifier) → e.result ≡ Some r → IsSimpleResult program r
    operation_simple p r some =
        result_simple program scopes front doubt (bodies.types_seen program s all w k nm items end_name at j (is_some e.result)) e b
        (bodies.item_legal program s all w k nm items end_name at j (OperationBody e b) h) (inside program m (record { within = Some obj.number; locals = [] }) p) refl
        (agrees p) r some
