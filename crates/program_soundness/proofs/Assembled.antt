-- The laws of the bodies of an accepted tree, put together.
use Rattle.std.proofs.Common.{◌≡◌, ◌-◌, ℕ, List, length, map, take, Bool, true, false, cond, Option, Some, None, refl, sym, ap, ◌∙◌, subst}
use Rattle.std.specs.Prelude.{is_some, nat_lt, slice_get}
use Rattle.std.proofs.lemmas.List.{take-map}
use Rattle.expr_soundness.specs.ada_tree.specs.declared.expression.Identifier.{Identifier}
use Rattle.expr_soundness.specs.ada_tree.specs.ProgramTree.{BodyItemTree, ItemTree, OfItem, PackageTree, ProgramTree, ProtectedBody, ProtectedItemTree}
use Rattle.types.specs.Entities.{Protected, ProtectedObject}
use Rattle.types.specs.Places.{Place}
use Rattle.types.specs.Scopes.{Scope, with_name}
use Rattle.types.specs.Entities.{LibraryUnit}
use Rattle.expr_soundness.specs.expr_rules.proofs.TypedLaw.{back_empty, front_empty}
use Rattle.expr_soundness.specs.type_rules.specs.ProfileRules.{subprogram_scope}
use Rattle.expr_soundness.specs.type_rules.specs.SubtypeNames.{end_rule}
use Rattle.declaration_rules.specs.BodyNames.{components_scope}
use Rattle.unit_rules.specs.MainRules.{main_scope, main_statements_faults}
use Rattle.declaration_rules.specs.PackageNames.{body_items_scope}
use Rattle.unit_rules.specs.ProtectedBodyRules.{protected_items_scope}
use Rattle.legality.specs.ProgramRules.{IsLegal}
use Rattle.ravenscar.specs.ProgramRules.{IsRestricted}
use Rattle.expr_soundness.specs.SoundScopes.{SoundScope}
use Rattle.expr_soundness.specs.Laws.{ScopesAreSound}
use Rattle.expr_soundness.specs.meaning.specs.Programs.{Attached, Program, handler_at, handlers_among, main_task, program_of}
use Rattle.expr_soundness.specs.meaning.specs.Works.{Store}
use Rattle.expr_soundness.specs.meaning.specs.Source.{handler_work, outermost, task_work}
use Rattle.step_soundness.specs.Fitting.{FitsScope}
use Rattle.step_soundness.specs.Laws.{Premises}
use Rattle.step_soundness.specs.Holding.{IsSoundProcedure, IsSoundTask, inside}
use Rattle.program_soundness.specs.Fronts.{declared_in, scope_at, start_in}
use Rattle.program_soundness.specs.BodyLaws.{FrontsFit, HandlersAreSound, HasSoundBodies, IsKnownObject, IsSoundMemory, BodyNamesAreSound, NamesAreKnown, PremisesHold, ProceduresAreSound, WorksAreSound}
use Rattle.program_soundness.proofs.Listing.{front_at}
use Rattle.program_soundness.proofs.WiderScopes.{stands}
use Rattle.program_soundness.proofs.Callables.{at_map, operation_body, procedure_by}
use Rattle.program_soundness.proofs.Whole.{IsPackage}
use Rattle.program_soundness.proofs.Agreed.{OffersAll, package_fits}
use Rattle.program_soundness.proofs.Attached.{attached_found, handler_there}
use Rattle.program_soundness.proofs.HandlerWorks.{handler_sound}
use Rattle.program_soundness.proofs.Numbers.{program_numbered}
use Rattle.program_soundness.proofs.Moved.{as_item, items_scope_is}
use Rattle.program_soundness.proofs.ObjectBodies as bodies
use Rattle.program_soundness.proofs.Offering.{all_offer}
use Rattle.program_soundness.proofs.PackageBodies.{front_fits, none_sound, statements_legal, works_sound}
use Rattle.program_soundness.proofs.Procedures.{entries_sound, item_sound, procedures_sound}
use Rattle.program_soundness.proofs.Trees.{items_are, main_legal, tasks_are, tree_package}

module _ (scopes : ScopesAreSound) (t : ProgramTree) (m : Store) (legal : IsLegal t) (restricted : IsRestricted t) (names : BodyNamesAreSound t)
    (laws : Premises (program_of t))
    (memory : IsSoundMemory (program_of t) m) where
  abbrev program : Program
  program = program_of t

  abbrev all : List BodyItemTree
  all = declared_in t.package_

  abbrev s : Scope
  s = start_in t.package_

  pub w : IsPackage program s all
  w = tree_package t legal restricted laws.sound

  module _ (k : ℕ) (nm : Identifier) (items : List ProtectedItemTree) (end_name : Identifier)
      (at : slice_get all k ≡ Some (ProtectedBody nm items end_name)) where
    abbrev obj : ProtectedObject
    obj = (bodies.there program s all w k nm items end_name at).object

    abbrev begun : Scope
    begun = bodies.begun program s all w k nm items end_name at

    known : IsKnownObject (scope_at s all k) (bodies.named_n program s all w k nm items end_name at).0 obj items
    known =
        let n = bodies.named_n program s all w k nm items end_name at in
        names.objects k nm items end_name n.0 obj at n.1 n.2

    same_scope : (j : ℕ) → protected_items_scope begun (take j items) ≡ scope_at begun (map as_item items) j
    same_scope j = items_scope_is begun (take j items) ∙ ap (body_items_scope begun) (sym (take-map as_item j items))

    pub sounds : bodies.SeenSound program s all w k nm items end_name at
    sounds j i h f = subst (λ u. SoundScope (components_scope u f obj.components)) (same_scope j) (known.seen j i h f)

    pub inners : bodies.InnerSound program s all w k nm items end_name at
    inners j e b h = subst (λ u. SoundScope (subprogram_scope (components_scope u (is_some e.result) obj.components) e)) (same_scope j) (known.own j e b h)

    pub own : (j : ℕ) (i : ProtectedItemTree) → slice_get items j ≡ Some i → bodies.HasOwn program s all w k nm items end_name at i
    own j i h = bodies.own_of program s all w k nm items end_name at sounds inners (bodies.outer_new program s all w k nm items end_name at) j i h

  pub offers : (name : List ℕ) (o : ProtectedObject) → stands program.scope name ≡ Some (Protected o) → OffersAll program o
  offers name o h = all_offer program s all w own name o h

  object_sound : (k : ℕ) (nm : Identifier) (items : List ProtectedItemTree) (end_name : Identifier) (at : slice_get all k ≡ Some (ProtectedBody nm items end_name))
      (j : ℕ) (i : ProtectedItemTree) → slice_get items j ≡ Some i → (operation_body (Some (bodies.there program s all w k nm items end_name at).object.number) i).result ≡ None
      → IsSoundProcedure program m (procedure_by program.scope (operation_body (Some (bodies.there program s all w k nm items end_name at).object.number) i))
  object_sound k nm items end_name at j i h none =
      item_sound program s all w laws scopes m memory offers names.fronts k nm items end_name at (own k nm items end_name at) (sounds k nm items end_name at)
      (inners k nm items end_name at) j i h none

  sound_bodies_ : HasSoundBodies program m
  sound_bodies_ =
      record {
        procedures = procedures_sound program s all w laws scopes m memory offers names.fronts object_sound;
        entries = entries_sound program s all w laws scopes m memory offers names.fronts object_sound;
      }

specified : (o : Option PackageTree) (p : PackageTree) (k : ℕ) (d : ItemTree) → o ≡ Some p → slice_get p.declaration.items k ≡ Some d
    → slice_get (declared_in o) k ≡ Some (OfItem d)
specified o p k d is h =
    ap (λ q. slice_get (declared_in q) k) is ∙ front_at (map OfItem p.declaration.items) p.body.items k (OfItem d) (at_map OfItem p.declaration.items k d h)

module _ (scopes : ScopesAreSound) (names_known : NamesAreKnown) (premises : PremisesHold) where
  pub fronts_fit : FrontsFit
  fronts_fit t m legal restricted memory place p =
      let names = names_known t legal restricted in
      let laws = premises t legal in
      front_fits (program_of t) (start_in t.package_) (declared_in t.package_) (w scopes t m legal restricted names laws memory) laws scopes m memory
      (offers scopes t m legal restricted names laws memory) names.fronts place p

  pub procedures_are_sound : ProceduresAreSound
  procedures_are_sound t m legal restricted memory = sound_bodies_ scopes t m legal restricted (names_known t legal restricted) (premises t legal) memory

  -- a place of the package's bodies, without objects of its own
  package_fit : (t : ProgramTree) (m : Store) → IsLegal t → IsRestricted t → IsSoundMemory (program_of t) m → (p : Place)
      → FitsScope (program_of t) (program_of t).scope (inside (program_of t) m outermost p)
  package_fit t m legal restricted memory p =
      let names = names_known t legal restricted in
      let laws = premises t legal in
      package_fits (program_of t) (start_in t.package_) (declared_in t.package_) (w scopes t m legal restricted names laws memory) m memory p
      (offers scopes t m legal restricted names laws memory)

  pub handlers_are_sound : HandlersAreSound
  handlers_are_sound t m legal restricted memory channel a found =
      let names = names_known t legal restricted in
      let laws = premises t legal in
      let program = program_of t in
      let all = declared_in t.package_ in
      handler_there program (start_in t.package_) all (w scopes t m legal restricted names laws memory) (offers scopes t m legal restricted names laws memory)
      (program_numbered t) a
      (attached_found program.scope all channel a (ap (λ l. handler_at channel (handlers_among program.scope l)) (sym (items_are t.package_)) ∙ found))

  module _ (t : ProgramTree) (m : Store) (legal : IsLegal t) (restricted : IsRestricted t) (memory : IsSoundMemory (program_of t) m) (u : ℕ) where
    abbrev program_ : Program
    program_ = program_of t

    -- the channel of an actor
    abbrev channel : ℕ
    channel = u - length program_.tasks

    package_at : IsPackage program_ (start_in t.package_) (declared_in t.package_)
    package_at = w scopes t m legal restricted (names_known t legal restricted) (premises t legal) memory

    all_offers : (name : List ℕ) (o : ProtectedObject) → stands program_.scope name ≡ Some (Protected o) → OffersAll program_ o
    all_offers = offers scopes t m legal restricted (names_known t legal restricted) (premises t legal) memory

    task_at : IsSoundTask program_ m None (task_work program_ u)
    task_at =
        let fronts = (names_known t legal restricted).fronts in
        let rules_ = main_legal t legal in
        let inside_main = with_name (main_scope t.package_) t.main.name.name LibraryUnit in
        let statements =
        back_empty _ (main_statements_faults inside_main t.package_ t.main.statements) (front_empty _ (end_rule t.main.name t.main.end_name) rules_) in
        works_sound program_ (start_in t.package_) (declared_in t.package_) package_at (premises t legal) scopes m memory all_offers fronts
        (main_task program_.scope t) t.main.statements (tasks_are t) refl
        (statements_legal program_ (start_in t.package_) (declared_in t.package_) package_at (premises t legal) scopes m memory all_offers fronts t.package_
        (specified t.package_) inside_main t.main.statements statements)
        u

    handler_work_at : (o : Option Attached) → handler_at channel program_.handlers ≡ o → IsSoundTask program_ m None (handler_work program_ o)
    handler_work_at None e =
        none_sound program_ (start_in t.package_) (declared_in t.package_) package_at (premises t legal) scopes m memory all_offers
        (names_known t legal restricted).fronts
    handler_work_at (Some a) e =
        handler_sound program_ m (sound_bodies_ scopes t m legal restricted (names_known t legal restricted) (premises t legal) memory)
        (package_fit t m legal restricted memory) a (handlers_are_sound t m legal restricted memory channel a e)

    work_at : (b : Bool) → IsSoundTask program_ m None (cond b (task_work program_ u) (handler_work program_ (handler_at channel program_.handlers)))
    work_at true = task_at
    work_at false = handler_work_at (handler_at channel program_.handlers) refl

  pub works_are_sound : WorksAreSound
  works_are_sound t m legal restricted memory u = work_at t m legal restricted memory u (nat_lt u (length (program_of t).tasks))
