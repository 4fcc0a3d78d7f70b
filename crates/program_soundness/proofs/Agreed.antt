-- Behind the whole package each name means, in the package's own bodies, what it stands for, and statements find there what they name.
use Rattle.std.proofs.Common.{◌≡◌, ℕ, zero, suc, List, [], ◌∷◌, ◌++◌, Bool, true, false, cond, ◌⊎◌, inl, inr, Option, Some, None, refl, sym, ap, ◌∙◌, subst}
use Rattle.std.specs.Prelude.{bytes_eq, option_map, position, slice_get}
use Rattle.expr_soundness.specs.base.specs.Names.{predefined}
use Rattle.expr_soundness.specs.ada_tree.specs.declared.expression.Identifier.{Identifier}
use Rattle.expr_soundness.specs.ada_tree.specs.ProgramTree.{BodyItemTree, OfItem, SubprogramBody, TaskBody, ProtectedBody, OfType, OfObject, OfException, OfSubprogram, OfTask, OfProtected}
use Rattle.types.specs.declared.entity.Role.{Role}
use Rattle.types.specs.declared.entity.Role.TheVariants as role
use Rattle.types.specs.declared.entity.Subtype.{Subtype}
use Rattle.types.specs.declared.standing.Standing.{Standing}
use Rattle.types.specs.Entities.{Entity, Operation, Profile, ProtectedObject}
use Rattle.types.specs.Entities as entity
use Rattle.types.specs.Scopes.{Named, Scope, entity_at, number_of}
use Rattle.types.specs.Standings.{stands_first, stands_for}
use Rattle.types.specs.Places.{Function, Meaning, Object, Place, IsObject, function_meaning, function_of, function_stands, meaning_in_scope, meaning_of, meaning_of_entity, meaning_or, object_meaning, object_of, object_stands, or_else, stands_here}
use Rattle.expr_soundness.specs.Agreeing.{Agrees, Means, MeansFunction, MeansObject, MeansOne, OffersFunction}
use Rattle.expr_soundness.proofs.Positions.{first_place, place_is}
use Rattle.expr_soundness.proofs.Parts.{subtype_values}
use Rattle.expr_soundness.specs.meaning.specs.Programs.{Procedure, Program, exception_number, exceptions_among, items_among}
use Rattle.expr_soundness.specs.meaning.specs.Works.{Store}
use Rattle.expr_soundness.specs.meaning.specs.Calls.{procedure_among, procedure_here}
use Rattle.step_soundness.specs.Objects.{AreSoundObjects, IsOf, object_subtype}
use Rattle.step_soundness.specs.Fitting.{FitsScope, IsCalled, IsFound, IsOperation, IsProcedure, entity_named, is_result}
use Rattle.step_soundness.specs.Holding.{inside}
use Rattle.program_soundness.specs.Fronts.{scope_at}
pub use Rattle.program_soundness.specs.BodyLaws.{IsSoundMemory}
use Rattle.program_soundness.proofs.Listing.{Has, has_back, has_front, same_some}
use Rattle.program_soundness.proofs.WiderScopes.{bytes_same, stands, stands_number}
use Rattle.program_soundness.proofs.Walked.{Constants, Entries, Exceptions, Origin, Subprograms, Variables, body_item_kind, declares, kind}
use Rattle.program_soundness.proofs.Callables.{has_at}
use Rattle.program_soundness.proofs.Whole.{IsPackage, came, entity_variable, origin_kind, variable_entity}
use Rattle.program_soundness.proofs.Called.{entity_function, entity_procedure, function_entity, procedure_entity}

-- ---- objects with values of their types

pub sound_object : (s : Scope) (xs : List Object) (name : List ℕ) (x : Object) → AreSoundObjects s xs → object_of xs name ≡ Some x
    → IsOf s x.subtype.type_number x.value
sound_object s [] name x sound h = cc
sound_object s (y ∷ ys) name x sound h = by_test (bytes_eq y.name name) h (λ k. sound_object s ys name x sound.1 k)
  where
    by_test : (b : Bool) → cond b (Some y) (object_of ys name) ≡ Some x → (object_of ys name ≡ Some x → IsOf s x.subtype.type_number x.value)
        → IsOf s x.subtype.type_number x.value
    by_test true k later = subst (λ z. IsOf s z.subtype.type_number z.value) (same_some y x k) sound.0
    by_test false k later = later k

pub object_by : (o : Option Object) (t : Subtype) → option_map object_subtype o ≡ Some t → (x : Object) × (o ≡ Some x) × (x.subtype ≡ t)
object_by (Some x) t h = (x, refl, same_some x.subtype t h)
object_by None t h = cc

pub same_twice : {X : Type 0} (o : Option X) → or_else o o ≡ o
same_twice (Some x) = refl
same_twice None = refl

-- ---- exceptions

has_more : (i : BodyItemTree) (rest : List BodyItemTree) (name : List ℕ) → Has (exceptions_among (items_among rest)) name
    → Has (exceptions_among (items_among (i ∷ rest))) name
has_more (OfItem (OfException own)) rest name h = inr h
has_more (OfItem (OfType d)) rest name h = h
has_more (OfItem (OfObject d)) rest name h = h
has_more (OfItem (OfSubprogram d)) rest name h = h
has_more (OfItem (OfTask d)) rest name h = h
has_more (OfItem (OfProtected d)) rest name h = h
has_more (SubprogramBody d b) rest name h = h
has_more (TaskBody own b) rest name h = h
has_more (ProtectedBody own items end_name) rest name h = h

exception_has : (all : List BodyItemTree) (k : ℕ) (name : Identifier) → slice_get all k ≡ Some (OfItem (OfException name))
    → Has (exceptions_among (items_among all)) name.name
exception_has [] k name h = cc
exception_has (x ∷ rest) zero name h =
    subst (λ y. Has (exceptions_among (items_among (y ∷ rest))) name.name) (sym (same_some x (OfItem (OfException name)) h)) (inl refl)
exception_has (x ∷ rest) (suc k) name h = has_more x rest name.name (exception_has rest k name h)

place_any : {X : Type 0} (p : X → Bool) (xs : List X) (k : ℕ) (x : X) → slice_get xs k ≡ Some x → p x ≡ true → (n : ℕ) × (first_place p xs ≡ Some n)
place_any p [] k x at h = cc
place_any {X} p (y ∷ ys) zero x at h = (0, ap (λ b. cond b (Some 0) (option_map suc (first_place p ys))) (ap p (same_some y x at) ∙ h))
place_any {X} p (y ∷ ys) (suc k) x at h = by_test (p y) (place_any p ys k x at h)
  where
    by_test : (b : Bool) → (n : ℕ) × (first_place p ys ≡ Some n) → (n : ℕ) × (cond b (Some 0) (option_map suc (first_place p ys)) ≡ Some n)
    by_test true n = (0, refl)
    by_test false n = (suc n.0, ap (option_map suc) n.1)

pub place_found : {X : Type 0} (p : X → Bool) (xs : List X) (k : ℕ) (x : X) → slice_get xs k ≡ Some x → p x ≡ true → (n : ℕ) × (position p xs ≡ Some n)
place_found p xs k x at h = let n = place_any p xs k x at h in (n.0, place_is p xs ∙ n.1)

pub no_entry : (i : BodyItemTree) → Entries ≡ body_item_kind i → ⊥
no_entry (OfItem (OfObject d)) h = by_constant d.constant h
  where
    by_constant : (b : Bool) → Entries ≡ cond b Constants Variables → ⊥
    by_constant true k = cc
    by_constant false k = cc
no_entry (OfItem (OfException own)) h = cc
no_entry (OfItem (OfType d)) h = cc
no_entry (OfItem (OfSubprogram d)) h = cc
no_entry (OfItem (OfTask d)) h = cc
no_entry (OfItem (OfProtected d)) h = cc
no_entry (SubprogramBody d b) h = cc
no_entry (TaskBody own b) h = cc
no_entry (ProtectedBody own items end_name) h = cc

exception_item : (i : BodyItemTree) → Exceptions ≡ body_item_kind i → (name : Identifier) × (i ≡ OfItem (OfException name))
exception_item (OfItem (OfException own)) h = (own, refl)
exception_item (OfItem (OfObject d)) h = absurd (by_constant d.constant h)
  where
    by_constant : (b : Bool) → Exceptions ≡ cond b Constants Variables → ⊥
    by_constant true k = cc
    by_constant false k = cc
exception_item (OfItem (OfType d)) h = cc
exception_item (OfItem (OfSubprogram d)) h = cc
exception_item (OfItem (OfTask d)) h = cc
exception_item (OfItem (OfProtected d)) h = cc
exception_item (SubprogramBody d b) h = cc
exception_item (TaskBody own b) h = cc
exception_item (ProtectedBody own items end_name) h = cc

-- ---- protected objects: their operations are found through their names

pub record OffersAll (program : Program) (o : ProtectedObject) : Type 0 where
  pub functions : (place : Place) → place.functions ≡ program.functions → (name : List ℕ) (k : ℕ) (x : Operation)
      → position (λ y. bytes_eq y.name name) o.operations ≡ Some k → slice_get o.operations k ≡ Some x
      → OffersFunction place o.number name x.profile x.profile.result
  pub operations : (name : List ℕ) (k : ℕ) (x : Operation)
      → position (λ y. bytes_eq y.name name) o.operations ≡ Some k → slice_get o.operations k ≡ Some x
      → IsOperation program (procedure_among program.procedures (Some o.number) name) x.is_entry x.profile

module _ (program : Program) (s : Scope) (all : List BodyItemTree) (w : IsPackage program s all) where
  pub exception_there : (name : List ℕ) → stands program.scope name ≡ Some entity.Exception → (x : ℕ) × (exception_number program name ≡ Some x)
  exception_there name h = number (by_case (came program s all w name entity.Exception h))
    where
      by_item : (o : Origin s all name entity.Exception) → (own : Identifier) × (o.item ≡ OfItem (OfException own))
          → Has (predefined ++ exceptions_among (items_among all)) name
      by_item o i =
          let declared = ap (declares (scope_at s all o.place)) (sym i.1) ∙ o.declared in
          let named : i.0.name ≡ name =
          ap (λ x. x.name)
          (same_some (let x : Named = record { name = i.0.name; entity = entity.Exception } in x) (record { name = name; entity = entity.Exception }) declared) in
          has_back predefined (exceptions_among (items_among all)) name
          (subst (Has (exceptions_among (items_among all))) named (exception_has all o.place i.0 (o.at ∙ ap Some i.1)))

      by_case : (stands s name ≡ Some entity.Exception) ⊎ Origin s all name entity.Exception → Has (predefined ++ exceptions_among (items_among all)) name
      by_case (inl k) = has_front predefined (exceptions_among (items_among all)) name ((w.started name entity.Exception k).exception refl)
      by_case (inr o) = by_item o (exception_item o.item (origin_kind program s all w name entity.Exception o (λ d. cc)))

      number : Has (predefined ++ exceptions_among (items_among all)) name → (x : ℕ) × (exception_number program name ≡ Some x)
      number has =
          let at = has_at program.exceptions name (subst (λ l. Has l name) (sym w.exceptions) has) in
          let n = place_found (bytes_eq name) program.exceptions at.0 name at.1 (bytes_same name) in
          (suc n.0, ap (option_map suc) n.1)

  module _ (m : Store) (memory : IsSoundMemory program m) where
    -- what is no variable is found among none, and likewise of subprograms
    no_object : (name : List ℕ) (e : entity.Entity) → stands program.scope name ≡ Some e → (kind e ≡ Variables → ⊥) → object_of m.variables name ≡ None
    no_object name e h not_ = by_found (object_of m.variables name) refl
      where
        by_found : (o : Option Object) → object_of m.variables name ≡ o → o ≡ None
        by_found None i = refl
        by_found (Some x) i =
            let there = object_by (object_of program.variables name) x.subtype (sym (memory.same.variables name) ∙ ap (option_map object_subtype) i) in
            let same = sym h ∙ variable_entity program s all w name there.0 there.1 in
            absurd (not_ (ap kind (same_some e (entity.Object role.Variable there.0.subtype) same)))

    no_function : (name : List ℕ) (e : entity.Entity) → stands program.scope name ≡ Some e → (kind e ≡ Subprograms → ⊥)
        → function_of program.functions None name ≡ None
    no_function name e h not_ = by_found (function_of program.functions None name) refl
      where
        by_found : (o : Option Function) → function_of program.functions None name ≡ o → o ≡ None
        by_found None i = refl
        by_found (Some f) i =
            let x = function_entity program s all w name f i in
            absurd (not_ (ap kind (same_some e (entity.Subprogram x.profile) (sym h ∙ x.stands_))))

    pub no_procedure : (name : List ℕ) (e : entity.Entity) → stands program.scope name ≡ Some e → (kind e ≡ Subprograms → ⊥)
        → procedure_among program.procedures None name ≡ None
    no_procedure name e h not_ = by_found (procedure_among program.procedures None name) refl
      where
        by_found : (o : Option Procedure) → procedure_among program.procedures None name ≡ o → o ≡ None
        by_found None i = refl
        by_found (Some q) i =
            let x = procedure_entity program s all w name q i in
            absurd (not_ (ap kind (same_some e (entity.Subprogram x.profile) (sym h ∙ x.stands_))))

    module _ (p : Place) where
      -- in a body of the package that has no objects yet
      abbrev pub in_package : Place
      in_package = inside program m (record { within = None; locals = [] }) p

      abbrev meaning_by : Option Function → Option Object → Meaning → Meaning
      meaning_by f v last = meaning_or (or_else (object_meaning None) (function_meaning f)) (meaning_or (or_else (object_meaning v) (function_meaning f)) last)

      abbrev stands_by : Option Function → Option Object → Standing → Standing
      stands_by f v last = object_stands None (function_stands f (object_stands v (function_stands f last)))

      module _ (name : List ℕ) (n : ℕ) (e : entity.Entity) (numbered : number_of program.scope name ≡ Some n) (at : entity_at program.scope n ≡ Some e) where
        abbrev there : stands program.scope name ≡ Some e
        there = stands_number program.scope name n e numbered at

        scope_meaning : (kind e ≡ Variables → ⊥) → (kind e ≡ Subprograms → ⊥) → meaning_of in_package name ≡ meaning_of_entity (Some e)
        scope_meaning a b =
            (λ j. meaning_by (no_function name e there b j) (no_object name e there a j) (meaning_in_scope program.scope (numbered j)))
            ∙ ap meaning_of_entity at

        scope_standing : (kind e ≡ Variables → ⊥) → (kind e ≡ Subprograms → ⊥) → stands_here in_package name ≡ stands_for n (Some e)
        scope_standing a b =
            (λ j. stands_by (no_function name e there b j) (no_object name e there a j) (stands_first program.scope (numbered j)))
            ∙ ap (stands_for n) at

      means_variable : (name : List ℕ) (r : Role) (t : Subtype) → stands program.scope name ≡ Some (entity.Object r t)
          → MeansOne program.scope program.scope (meaning_of in_package name) r t
      means_variable name r t h =
          let v = entity_variable program s all w name r t h in
          let x = object_by (object_of m.variables name) t (memory.same.variables name ∙ ap (option_map object_subtype) v.found ∙ ap Some v.same) in
          let none = no_function name (entity.Object r t) h (λ k. cc) in
          let is : meaning_of in_package name ≡ IsObject t x.0.value =
          (λ j. meaning_by (none j) (x.1 j) (meaning_in_scope program.scope (number_of program.scope name))) ∙ ap (λ u. IsObject u x.0.value) x.2 in
          let suited = sound_object program.scope m.variables name x.0 memory.variables x.1 in
          let means : MeansObject program.scope (meaning_of in_package name) t = record {
            value = x.0.value;
            is = is;
            suited = subtype_values program.scope t x.0.value ∙ subst (λ u. IsOf program.scope u.type_number x.0.value) x.2 suited;
          } in
          subst (λ q. MeansOne program.scope program.scope (meaning_of in_package name) q t) (sym v.variable_) means

      means_function : (name : List ℕ) (profile : Profile) (o : Option Subtype) → profile.result ≡ o
          → stands program.scope name ≡ Some (entity.Subprogram profile)
          → MeansFunction in_package (meaning_of in_package name) profile o
      means_function name profile None i h = tt
      means_function name profile (Some t) i h =
          let f = entity_function program s all w name profile t h i in
          (f.function, ap (λ o. meaning_by o (object_of m.variables name) (meaning_in_scope program.scope (number_of program.scope name))) f.found, f.has)

      module _ (offers : (name : List ℕ) (o : ProtectedObject) → stands program.scope name ≡ Some (entity.Protected o) → OffersAll program o) where
        means_all : (name : List ℕ) (n : ℕ) (e : entity.Entity) → number_of program.scope name ≡ Some n → entity_at program.scope n ≡ Some e
            → Means program.scope in_package name e
        means_all name n (entity.OfType form t) a b = scope_meaning name n (entity.OfType form t) a b (λ k. cc) (λ k. cc)
        means_all name n (entity.OfSubtype t) a b = scope_meaning name n (entity.OfSubtype t) a b (λ k. cc) (λ k. cc)
        means_all name n (entity.Object r t) a b = means_variable name r t (there name n (entity.Object r t) a b)
        means_all name n (entity.Constant t v) a b = scope_standing name n (entity.Constant t v) a b (λ k. cc) (λ k. cc)
        means_all name n (entity.Literal c) a b = scope_standing name n (entity.Literal c) a b (λ k. cc) (λ k. cc)
        means_all name n entity.Exception a b = tt
        means_all name n (entity.Subprogram profile) a b = means_function name profile profile.result refl (there name n (entity.Subprogram profile) a b)
        means_all name n (entity.Entry profile) a b = tt
        means_all name n (entity.Predefined o profile) a b = scope_meaning name n (entity.Predefined o profile) a b (λ k. cc) (λ k. cc)
        means_all name n entity.Put a b = tt
        means_all name n (entity.Task priority) a b = tt
        means_all name n (entity.Protected o) a b =
            record {
              object = o;
              is = scope_meaning name n (entity.Protected o) a b (λ k. cc) (λ k. cc);
              offers = (offers name o (there name n (entity.Protected o) a b)).functions in_package refl;
            }
        means_all name n entity.LibraryUnit a b = tt
        means_all name n entity.Doubtful a b = tt

        pub package_agrees : Agrees program.scope in_package
        package_agrees = record { sound = w.sound; forms = λ n form h. h; shapes = λ n form h. refl; names = means_all }

        called : (name : List ℕ) (profile : Profile) (o : Option Subtype) → profile.result ≡ o → stands program.scope name ≡ Some (entity.Subprogram profile)
            → IsCalled (procedure_here program None name) profile o
        called name profile None i h =
            subst (λ x. IsProcedure x profile) (sym (same_twice (procedure_among program.procedures None name)))
            (entity_procedure program s all w name profile h i)
        called name profile (Some t) i h = tt

        pub package_finds : (name : List ℕ) (e : entity.Entity) → entity_named program.scope name ≡ Some e → IsFound program None name e
        package_finds name (entity.Subprogram profile) h = called name profile profile.result refl h
        package_finds name (entity.Entry profile) h = absurd (by_case (came program s all w name (entity.Entry profile) h))
          where
            by_case : (stands s name ≡ Some (entity.Entry profile)) ⊎ Origin s all name (entity.Entry profile) → ⊥
            by_case (inl k) = let first = (w.started name (entity.Entry profile) k).first in cc
            by_case (inr o) = no_entry o.item (origin_kind program s all w name (entity.Entry profile) o (λ d. cc))
        package_finds name (entity.Protected o) h = record { object = o; is = h; operations = (offers name o h).operations }
        package_finds name entity.Put h =
            record { is = h; free = ap (λ x. or_else x x) (no_procedure name entity.Put h (λ k. cc)) }
        package_finds name entity.Exception h = exception_there name h
        package_finds name (entity.OfType form t) h = tt
        package_finds name (entity.OfSubtype t) h = tt
        package_finds name (entity.Object r t) h = tt
        package_finds name (entity.Constant t v) h = tt
        package_finds name (entity.Literal c) h = tt
        package_finds name (entity.Predefined o profile) h = tt
        package_finds name (entity.Task priority) h = tt
        package_finds name entity.LibraryUnit h = tt
        package_finds name entity.Doubtful h = tt

        pub package_fits : FitsScope program program.scope in_package
        package_fits =
            record {
              agrees = package_agrees;
              finds = package_finds;
              results = λ name r t h i. let v = entity_variable program s all w name r t h in let bad = sym (ap is_result v.variable_) ∙ i in cc;
            }
