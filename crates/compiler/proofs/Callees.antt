-- What is called by a visible name, or behind a protected object, is the code of a body: it takes and gives as many words as the call passes (RM 6.4, 9.5).
use Rattle.std.proofs.Common.{◌≡◌, ◌⊎◌, inl, inr, ℕ, zero, suc, ◌+◌, List, [], ◌∷◌, map, Bool, true, false, Option, Some, None, refl, sym, ap, ◌∙◌, subst}
use Rattle.std.specs.Prelude.{bytes_eq, position, slice_get}
use Rattle.ada_tree.specs.declared.declaration.Formal.{Formal}
use Rattle.ada_tree.specs.declared.declaration.Mode.TheVariants as mode
use Rattle.ada_tree.specs.declared.expression.Identifier.{Identifier}
use Rattle.ada_tree.specs.StatementTree.{SubprogramTree}
use Rattle.ada_tree.specs.ProgramTree.{BodyItemTree, BodyTree, EntryBody, OperationBody, ProgramTree, ProtectedBody, ProtectedItemTree, SubprogramBody}
use Rattle.ada_tree.specs.Size.{total}
use Rattle.image.specs.Operations.{called}
use Rattle.image.specs.Sections.{Sections}
use Rattle.image.specs.Rules.{is_external}
use Rattle.image.specs.declared.subprograms.Kind.{Kind}
use Rattle.image.specs.declared.subprograms.Kind.TheVariants as kinds
use Rattle.image.specs.declared.subprograms.Subprogram.{Subprogram}
use Rattle.types.specs.declared.entity.FormalParameter.{FormalParameter}
use Rattle.types.specs.declared.entity.Subtype.{Subtype}
use Rattle.types.specs.Entities.{Entity, Operation, Profile, Protected, ProtectedObject}
use Rattle.types.specs.Entities as entity
use Rattle.types.specs.Layouts.{words_of}
use Rattle.types.specs.Scopes.{Scope, entity_at}
use Rattle.types.specs.Standings.{operation_profile, profile_among}
use Rattle.declaration_rules.specs.BodyNames.{operation_entity}
use Rattle.program_soundness.specs.unit_rules.specs.MatchingRules as matching
use Rattle.meaning.specs.type_rules.specs.ProfileRules.{formal_parameters, profile_with}
use Rattle.legality.specs.ProgramRules.{IsLegal}
use Rattle.ravenscar.specs.ProgramRules.{IsRestricted}
use Rattle.expr_soundness.specs.Agreeing.{parameter_subtype}
use Rattle.expr_soundness.specs.SoundScopes.{AreIn, AreKnown, AreSoundOperations, IsKnown, IsSoundOperation, IsSoundProfile, IsSoundResult, SoundScope}
use Rattle.expr_soundness.proofs.Widening.{subtype_known}
use Rattle.meaning.specs.Programs.{Program, program_of, subtype_named}
use Rattle.program_soundness.specs.Fronts.{declared_in, front, start_in}
use Rattle.program_soundness.proofs.BodyProfiles.{first_formal, named_is, parameters_are, profile_formals, profile_none, profile_some}
use Rattle.program_soundness.proofs.Called as bodies
use Rattle.program_soundness.proofs.Listing.{same_some}
use Rattle.program_soundness.proofs.ObjectBodies as objects
use Rattle.program_soundness.proofs.Offering.{stands_for_it}
use Rattle.program_soundness.proofs.Whole.{IsPackage, kept}
use Rattle.program_soundness.proofs.WiderScopes.{number_stands, stands}
use Rattle.expr_code.specs.Code.{here}
use Rattle.expr_code.specs.Seeing.{IsCallable, Package, external_of, external_profile, number_behind, object_named, profile_behind}
use Rattle.expr_code.specs.declared.visible.Visible.{Visible}
use Rattle.stmt_code.specs.Subprograms.{IsCalledFunction, IsCalledProcedure}
use Rattle.step_simulation.specs.part_code.specs.Suiting.{IsCallableProcedure, passed_width, returned_width}
use Rattle.package_code.specs.Bodies.{Coded, bodies_before, bodies_of, number_in, of_subprogram, operation_kind, or_zero, own_head, own_kind}
use Rattle.package_code.specs.Directory.{number_told, operations_told}
use Rattle.package_code.specs.Owners.{protected_objects}
use Rattle.package_code.specs.Package.{IsPackageOf}
use Rattle.package_code.specs.Program.{HasProgram}
use Rattle.package_code.specs.Walking.{HasBody, row_of}
use Rattle.package_code.proofs.BodyFronts.{IsBodyFront, body_words, formals_told, package_front, result_told}
use Rattle.package_code.proofs.Coded.{IsBodyOf, body_at, body_of}
use Rattle.package_code.proofs.InFront.{LawsOfNames, memory, whole}
use Rattle.package_code.proofs.InOrder.{package_in_order}
use Rattle.package_code.proofs.Linking.{body_there, called_front, ordered, package_of, with_one, without}
use Rattle.package_code.proofs.Numbered.{IsNumberedBody, number_of_body}
use Rattle.package_code.proofs.ObjectFronts.{operation_is_front}
use Rattle.package_code.proofs.ObjectNumbers.{at_number}
use Rattle.package_code.proofs.Offered.{IsToldOperation, object_entity, told_number}
use Rattle.package_code.proofs.OperationBodies.{code_of, coded, has_number, object}
use Rattle.package_code.proofs.OperationsAdded as added

-- ---- words of parameters, whose subtypes take as many in the one scope as in the other

abbrev passed_by : FormalParameter → ℕ → ℕ
passed_by f n = elim f.mode [ mode.In ↦ n | mode.Out ↦ 1 | mode.InOut ↦ suc n ]

abbrev returned_by : FormalParameter → ℕ → ℕ
returned_by f n = elim f.mode [ mode.In ↦ 0 | mode.Out ↦ suc n | mode.InOut ↦ suc n ]

module _ (all s : Scope) (same : (u : Subtype) → IsKnown s u → words_of all u ≡ words_of s u) where
  values_same : (fs : List FormalParameter) → AreKnown s fs
      → total (words_of all) (map parameter_subtype fs) ≡ total (words_of s) (map parameter_subtype fs)
  values_same [] known = refl
  values_same (f ∷ fs) known = let one = same f.subtype known.0 in let rest = values_same fs known.1 in (λ j. one j + rest j)

  passed_same : (fs : List FormalParameter) → AreKnown s fs → total (passed_width all) fs ≡ total (passed_width s) fs
  passed_same [] known = refl
  passed_same (f ∷ fs) known =
      let one = ap (passed_by f) (same f.subtype known.0) in let rest = passed_same fs known.1 in (λ j. one j + rest j)

  returned_same : (fs : List FormalParameter) → AreKnown s fs → total (returned_width all) fs ≡ total (returned_width s) fs
  returned_same [] known = refl
  returned_same (f ∷ fs) known =
      let one = ap (returned_by f) (same f.subtype known.0) in let rest = returned_same fs known.1 in (λ j. one j + rest j)

formals_known : (s : Scope) → SoundScope s → (fs : List Formal) (ps : List FormalParameter) → formal_parameters s fs ≡ Some ps → AreKnown s ps
formals_known s sound [] ps h = subst (AreKnown s) (same_some [] ps h) tt
formals_known s sound (f ∷ fs) ps h =
    let x = first_formal s f fs ps h in
    subst (AreKnown s) (sym x.is) (subtype_known s f.subtype x.subtype sound x.named, formals_known s sound fs x.rest x.further)

-- ---- operations

-- the profile of an operation that is found by its name
pub record IsFoundOperation (os : List Operation) (name : List ℕ) (p : Profile) : Type 0 where
  pub place : ℕ
  pub placed : position (λ y. bytes_eq y.name name) os ≡ Some place
  pub operation : Operation
  pub there : slice_get os place ≡ Some operation
  pub profile : operation.profile ≡ p

pub operation_found : (o : ProtectedObject) (name : List ℕ) (p : Profile) → profile_behind (Some o) name ≡ Some p → IsFoundOperation o.operations name p
operation_found o name p h = by_place (position (λ y. bytes_eq y.name name) o.operations) refl h
  where
    by_there : (k : ℕ) → position (λ y. bytes_eq y.name name) o.operations ≡ Some k → (z : Option Operation) → slice_get o.operations k ≡ z
        → operation_profile z ≡ Some p → IsFoundOperation o.operations name p
    by_there k placed (Some x) there e = record { place = k; placed = placed; operation = x; there = there; profile = same_some x.profile p e }
    by_there k placed None there e = cc

    by_place : (k : Option ℕ) → position (λ y. bytes_eq y.name name) o.operations ≡ k → elim k [ None ↦ None | Some j ↦ profile_among (Some o) j ] ≡ Some p
        → IsFoundOperation o.operations name p
    by_place (Some k) placed e = by_there k placed (slice_get o.operations k) refl e
    by_place None placed e = cc

pub operation_sound : (s : Scope) (os : List Operation) (k : ℕ) (x : Operation) → AreSoundOperations s os → slice_get os k ≡ Some x
    → IsSoundOperation s x.is_entry x.profile
operation_sound s [] k x h at = cc
operation_sound s (o ∷ os) zero x h at = subst (λ z. IsSoundOperation s z.is_entry z.profile) (same_some o x at) h.0
operation_sound s (o ∷ os) (suc k) x h at = operation_sound s os k x h.1 at

unit_matched : (u : ProtectedItemTree) → objects.unit_name u ≡ (matching.operation_name u).name
unit_matched (OperationBody d b) = refl
unit_matched (EntryBody d barrier b) = refl

pub external_kind : (o : ℕ) (r : Option Identifier) → is_external (operation_kind o r) ≡ true
external_kind o None = refl
external_kind o (Some r) = refl

-- ---- the image

module _ (laws : LawsOfNames) (t : ProgramTree) (legal : IsLegal t) (restricted : IsRestricted t) (i : Sections) (h : HasProgram t i) where
  abbrev program : Program
  program = program_of t

  abbrev start : Scope
  start = start_in t.package_

  abbrev all : List BodyItemTree
  all = declared_in t.package_

  abbrev w : IsPackage program start all
  w = whole laws t legal restricted

  abbrev pub g : Package
  g = package_of program h.directory

  pub of_program : IsPackageOf t i g
  of_program = package_in_order laws t legal restricted i g (ordered t i h)

  -- the body of this number has the profile, and its subprogram is of this kind
  pub record IsCallee (number : ℕ) (profile : Profile) (kind : Kind) : Type 0 where
    pub c : Coded
    pub is : slice_get (bodies_of t) number ≡ Some c
    pub front : IsBodyFront t c.owner c.front c.head c.body
    pub own : profile_with program.scope (formal_parameters program.scope c.head.formals) c.head.result ≡ Some profile
    pub kind_is : c.kind ≡ kind

  -- ---- a call of it passes and takes its words

  module _ (v : Visible) (sound : SoundScope v.scope) (same : (u : Subtype) → IsKnown v.scope u → words_of program.scope u ≡ words_of v.scope u)
      (number : ℕ) (profile : Profile) (kind : Kind) (x : IsCallee number profile kind) (sound_profile : IsSoundProfile v.scope profile)
      (test : Kind → Bool) (passes : test kind ≡ true) where
    abbrev head : SubprogramTree
    head = x.c.head

    abbrev body : HasBody t h.directory number x.c h.walk
    body = body_there t i h number x.c x.is

    abbrev row : Subprogram
    row = row_of x.c.kind body.words (here body.new.code)

    called_there : called i number ≡ Some row
    called_there = called_front t i h number row body.there

    front_there : IsBodyFront t x.c.owner body.seen.scope head x.c.body
    front_there = subst (λ u. IsBodyFront t x.c.owner u head x.c.body) (sym body.scope) x.front

    same_there : (u : Subtype) → IsKnown body.seen.scope u → words_of program.scope u ≡ words_of body.seen.scope u
    same_there = body_words laws.scopes t x.c.owner body.seen.scope head x.c.body front_there (memory laws t legal restricted)

    formals_there : formal_parameters body.seen.scope head.formals ≡ Some profile.formals
    formals_there =
        formals_told laws.scopes t x.c.owner body.seen.scope head x.c.body front_there
        ∙ ap Some
        (parameters_are program.scope head.formals profile.formals
        (profile_formals program.scope (formal_parameters program.scope head.formals) head.result profile x.own))

    known_there : AreKnown body.seen.scope profile.formals
    known_there = formals_known body.seen.scope front_there.sound head.formals profile.formals formals_there

    values_there : total (words_of body.seen.scope) (map parameter_subtype profile.formals) ≡ total (words_of v.scope) (map parameter_subtype profile.formals)
    values_there =
        sym (values_same program.scope body.seen.scope same_there profile.formals known_there)
        ∙ values_same program.scope v.scope same profile.formals sound_profile.known

    passed_there : total (passed_width body.seen.scope) profile.formals ≡ total (passed_width v.scope) profile.formals
    passed_there =
        sym (passed_same program.scope body.seen.scope same_there profile.formals known_there)
        ∙ passed_same program.scope v.scope same profile.formals sound_profile.known

    returned_there : total (returned_width body.seen.scope) profile.formals ≡ total (returned_width v.scope) profile.formals
    returned_there =
        sym (returned_same program.scope body.seen.scope same_there profile.formals known_there)
        ∙ returned_same program.scope v.scope same profile.formals sound_profile.known

    own_as : (o : Option Identifier) → head.result ≡ o → profile_with program.scope (formal_parameters program.scope head.formals) o ≡ Some profile
    own_as o is = ap (profile_with program.scope (formal_parameters program.scope head.formals)) (sym is) ∙ x.own

    module _ (result : Subtype) (some : profile.result ≡ Some result) where
      module _ (r : Identifier) (is : head.result ≡ Some r) where
        abbrev returned : Subtype
        returned = subtype_named program.scope r

        function : IsCalledFunction body.seen.scope head.formals returned body.words
        function =
            with_one (IsCalledProcedure body.seen.scope head.formals body.words)
            (λ z. IsCalledFunction body.seen.scope head.formals (subtype_named program.scope z) body.words) head.result body.called r is

        result_is : returned ≡ result
        result_is =
            let y = profile_some program.scope (formal_parameters program.scope head.formals) r profile (own_as (Some r) is) in
            named_is program.scope r y.0 y.1 ∙ same_some y.0 result (sym y.2 ∙ some)

        result_known : IsKnown body.seen.scope returned
        result_known =
            subtype_known body.seen.scope r returned front_there.sound
            (result_told laws.scopes t x.c.owner body.seen.scope head x.c.body front_there r is)

        sound_result : IsKnown v.scope result × AreIn profile.formals
        sound_result = subst (IsSoundResult v.scope profile.formals) some sound_profile.result

        function_callable : IsCallable i v.scope test number profile result
        function_callable = record {
          code = row;
          is = called_there;
          kind = ap test x.kind_is ∙ passes;
          parameters = function.passed profile.formals formals_there sound_result.1 ∙ values_there;
          results = function.results result_known ∙ sym (same_there returned result_known) ∙ ap (words_of program.scope) result_is ∙ same result sound_result.0;
        }

      pub callable : IsCallable i v.scope test number profile result
      callable = by_result head.result refl
        where
          by_result : (o : Option Identifier) → head.result ≡ o → IsCallable i v.scope test number profile result
          by_result (Some r) is = function_callable r is
          by_result None is =
              let none = profile_none program.scope (formal_parameters program.scope head.formals) profile (own_as None is) in
              let bad = sym none ∙ some in cc

    module _ (none : profile.result ≡ None) where
      procedure_callable : head.result ≡ None → IsCallableProcedure i v.scope test number profile
      procedure_callable is =
          let words =
          without (IsCalledProcedure body.seen.scope head.formals body.words)
          (λ z. IsCalledFunction body.seen.scope head.formals (subtype_named program.scope z) body.words) head.result body.called is in
          record {
            code = row;
            is = called_there;
            kind = ap test x.kind_is ∙ passes;
            parameters = words.passed profile.formals formals_there ∙ passed_there;
            results = words.results profile.formals formals_there ∙ returned_there;
          }

      pub procedure : IsCallableProcedure i v.scope test number profile
      procedure = by_result head.result refl
        where
          by_result : (o : Option Identifier) → head.result ≡ o → IsCallableProcedure i v.scope test number profile
          by_result None is = procedure_callable is
          by_result (Some r) is =
              let y = profile_some program.scope (formal_parameters program.scope head.formals) r profile (own_as (Some r) is) in
              let bad = sym none ∙ y.2 in cc

  -- ---- what is called by a name of the package

  pub package_callee : (name : List ℕ) (number : ℕ) (profile : Profile) → stands program.scope name ≡ Some (entity.Subprogram profile)
      → number_told program.scope h.directory None name ≡ Some number
      → IsCallee number profile kinds.Plain
  package_callee name number profile is told =
      let there = bodies.subprogram_there program start all w name profile is in
      let c : Coded = of_subprogram (front t (suc there.place)) there.subprogram there.body in
      let n = bodies_before t there.place + 0 in
      let coded_there = body_at t there.place 0 (SubprogramBody there.subprogram there.body) c there.at refl in
      let body = body_there t i h n c coded_there in
      let same : n ≡ number = same_some n number (sym body.numbered ∙ ap (number_told program.scope h.directory None) there.named ∙ told) in
      record {
        c = c;
        is = ap (slice_get (bodies_of t)) (sym same) ∙ coded_there;
        front = package_front laws.names laws.premises laws.fronts t legal restricted there.place there.subprogram there.body there.at;
        own = there.own;
        kind_is = refl;
      }

  -- ---- ... and by that of an object's operation

  module _ (place : ℕ) (name : Identifier) (items : List ProtectedItemTree) (end_name : Identifier)
      (at : slice_get all place ≡ Some (ProtectedBody name items end_name)) where
    abbrev obj : ProtectedObject
    obj = object laws.scopes laws.names laws.premises t legal restricted place name items end_name at

    pub own_callee : (j : ℕ) (u : ProtectedItemTree) → slice_get items j ≡ Some u → (profile : Profile)
        → profile_with program.scope (formal_parameters program.scope (own_head u).formals) (own_head u).result ≡ Some profile
        → IsCallee (bodies_before t place + j) profile (own_kind obj.number u)
    own_callee j u there profile own = record {
      c = code_of laws.scopes laws.names laws.premises t legal restricted place name items end_name at j u;
      is = body_at t place j (ProtectedBody name items end_name)
          (code_of laws.scopes laws.names laws.premises t legal restricted place name items end_name at j u) at
          (coded laws.scopes laws.names laws.premises t legal restricted place name items end_name at j u there);
      front = operation_is_front laws t legal restricted place name items end_name at j u there;
      own = own;
      kind_is = refl;
    }

    -- the item that stands as a subprogram is a body of one, with its profile
    pub record IsOwnItem (own : List ℕ) (p : Profile) : Type 0 where
      pub j : ℕ
      pub d : SubprogramTree
      pub b : BodyTree
      pub there : slice_get items j ≡ Some (OperationBody d b)
      pub named : d.name.name ≡ own
      pub profile : profile_with program.scope (formal_parameters program.scope d.formals) d.result ≡ Some p

    pub own_item : (own : List ℕ) (p : Profile) → stands (objects.ended program start all w place name items end_name at) own ≡ Some (entity.Subprogram p)
        → (j : ℕ) (u : ProtectedItemTree) → slice_get items j ≡ Some u → objects.unit_name u ≡ own
        → IsOwnItem own p
    own_item own p is j u there named = by_item u there named (added.owned laws.scopes laws.names laws.premises t legal restricted place name items end_name at j u there)
      where
        profile_in : Option Entity → Profile
        profile_in o = elim o [ Some e ↦ elim e [ entity.Subprogram q ↦ q | other ↦ p ] | None ↦ p ]

        by_item : (u : ProtectedItemTree) → slice_get items j ≡ Some u → objects.unit_name u ≡ own
            → objects.HasOwn program start all w place name items end_name at u
            → IsOwnItem own p
        by_item (OperationBody d b) there named has =
            let both = sym has.stands_ ∙ ap (stands (objects.ended program start all w place name items end_name at)) named ∙ is in
            record { j = j; d = d; b = b; there = there; named = named; profile = has.own ∙ ap Some (ap profile_in both) }
        by_item (EntryBody d barrier b) there named has =
            (let both = sym has.stands_ ∙ ap (stands (objects.ended program start all w place name items end_name at)) named ∙ is in cc)

  -- ---- ... and behind a protected object

  pub record IsExternal (v : Visible) (number : ℕ) (profile : Profile) : Type 0 where
    pub kind : Kind
    pub callee : IsCallee number profile kind
    pub external : is_external kind ≡ true
    pub sound : IsSoundProfile v.scope profile

  module _ (v : Visible) (sound : SoundScope v.scope) (operations : v.operations ≡ operations_told program.scope h.directory)
      (outer : (name : List ℕ) (q : ProtectedObject) → stands v.scope name ≡ Some (Protected q)
      → (o : ProtectedObject) × (stands program.scope name ≡ Some (Protected o)) × ((q ≡ o) ⊎ (q.operations ≡ [])))
      (name operation : List ℕ) (number : ℕ) (profile : Profile) where
    module _ (o : ProtectedObject) (n : ℕ) (seen : entity_at v.scope n ≡ Some (Protected o)) (is : stands program.scope name ≡ Some (Protected o))
        (told : number_behind v.operations (Some o) operation ≡ Some number)
        (found : IsFoundOperation o.operations operation profile) where
      of_operation_ : IsToldOperation o (number_told program.scope h.directory (Some o.number)) operation number
      of_operation_ = told_number program start all w g refl v operations o name operation number is told

      numbered : number_in t (Some o.number) operation ≡ Some number
      numbered = sym (h.told.operations o.number operation) ∙ of_operation_.numbered

      b : IsNumberedBody t (Some o.number) operation number
      b = number_of_body t (Some o.number) operation number numbered

      f : IsBodyOf t number b.code
      f = body_of t number b.code b.is

      x : added.IsInObject laws.scopes laws.names laws.premises t legal restricted f.place f.k b.code
      x = added.in_object laws.scopes laws.names laws.premises t legal restricted f.place f.item f.k b.code o.number f.is f.at b.owned

      abbrev of_item : ProtectedObject
      of_item = obj f.place x.name x.items x.end_name x.at

      same_number : of_item.number ≡ o.number
      same_number =
          sym (added.number_is laws.scopes laws.names laws.premises t legal restricted f.place x.name x.items x.end_name x.at)
          ∙ ap or_zero (sym (added.owner_is laws.scopes laws.names laws.premises t legal restricted f.place f.k b.code x) ∙ b.owned)

      stands_item : stands program.scope x.name.name ≡ Some (Protected of_item)
      stands_item = kept program start all w f.place x.name.name (Protected of_item) (objects.there program start all w f.place x.name x.items x.end_name x.at).stands_

      same_object : o ≡ of_item
      same_object =
          same_some o of_item
          (sym (at_number program start all w name o is) ∙ ap (slice_get (protected_objects program.scope)) (sym same_number)
          ∙ at_number program start all w x.name.name of_item stands_item)

      as_named : objects.unit_name x.item ≡ operation
      as_named =
          unit_matched x.item ∙ sym (added.name_is laws.scopes laws.names laws.premises t legal restricted f.place f.k b.code x) ∙ b.named

      there : IsFoundOperation of_item.operations operation profile
      there = subst (λ z. IsFoundOperation z.operations operation profile) same_object found

      abbrev ended : Scope
      ended = objects.ended program start all w f.place x.name x.items x.end_name x.at

      stands_for : stands ended operation ≡ Some (operation_entity there.operation)
      stands_for =
          stands_for_it program start all w f.place x.name x.items x.end_name x.at
          (added.owned laws.scopes laws.names laws.premises t legal restricted f.place x.name x.items x.end_name x.at) operation there.place there.operation
          there.placed there.there

      same_operation : found.operation ≡ there.operation
      same_operation =
          same_some found.operation there.operation
          (sym found.there ∙ ap (λ (z : ProtectedObject). slice_get z.operations found.place) same_object
          ∙ ap (slice_get of_item.operations) (same_some found.place there.place
          (sym found.placed ∙ ap (λ (z : ProtectedObject). position (λ y. bytes_eq y.name operation) z.operations) same_object ∙ there.placed))
          ∙ there.there)

      -- it is no entry, of which nothing is told
      no_entry : found.operation.is_entry ≡ false
      no_entry =
          ap (λ (z : Operation). z.is_entry)
          (same_some found.operation of_operation_.operation_
          (sym found.there ∙ ap (slice_get o.operations) (same_some found.place of_operation_.place (sym found.placed ∙ of_operation_.placed))
          ∙ of_operation_.there))
          ∙ of_operation_.no_entry

      plain : stands ended operation ≡ Some (entity.Subprogram profile)
      plain =
          stands_for
          ∙ ap (λ b. Some (elim b [ true ↦ entity.Entry there.operation.profile | false ↦ entity.Subprogram there.operation.profile ]))
          (ap (λ (z : Operation). z.is_entry) (sym same_operation) ∙ no_entry)
          ∙ ap (λ z. Some (entity.Subprogram z)) there.profile

      y : IsOwnItem f.place x.name x.items x.end_name x.at operation profile
      y = own_item f.place x.name x.items x.end_name x.at operation profile plain f.k x.item x.there as_named

      number_there : bodies_before t f.place + y.j ≡ number
      number_there =
          same_some (bodies_before t f.place + y.j) number
          (sym (has_number laws.scopes laws.names laws.premises t legal restricted f.place x.name x.items x.end_name x.at y.j (OperationBody y.d y.b) y.there)
          ∙ (λ j. number_in t (Some (same_number j)) (y.named j)) ∙ numbered)

      sound_profile : IsSoundProfile v.scope profile
      sound_profile =
          let own = operation_sound v.scope o.operations found.place found.operation (sound.each n (Protected o) seen).0 found.there in
          subst (IsSoundOperation v.scope false) found.profile (subst (λ e. IsSoundOperation v.scope e found.operation.profile) no_entry own)

      result : IsExternal v number profile
      result = record {
        kind = operation_kind of_item.number y.d.result;
        callee = subst (λ m. IsCallee m profile (operation_kind of_item.number y.d.result)) number_there
            (own_callee f.place x.name x.items x.end_name x.at y.j (OperationBody y.d y.b) y.there profile y.profile);
        external = external_kind of_item.number y.d.result;
        sound = sound_profile;
      }

    nothing_found : (q : ProtectedObject) → q.operations ≡ [] → IsFoundOperation q.operations operation profile → ⊥
    nothing_found q none found = let bad = ap (λ l. slice_get l found.place) (sym none) ∙ found.there in cc

    pub external_there : external_of v name operation ≡ Some number → external_profile v.scope name operation ≡ Some profile → IsExternal v number profile
    external_there told named = by_object (object_named v.scope name) refl told named
      where
        by_object : (q : Option ProtectedObject) → object_named v.scope name ≡ q → number_behind v.operations q operation ≡ Some number
            → profile_behind q operation ≡ Some profile → IsExternal v number profile
        by_object None e seen found = cc
        by_object (Some q) e seen found =
            let there_ = object_entity v.scope name q e in
            let n = number_stands v.scope name (Protected q) there_ in
            let o = outer name q there_ in
            let operation_there = operation_found q operation profile found in
            elim o.2 [
              | inl same ↦ result q n.0 n.2 (o.1 ∙ ap (λ z. Some (Protected z)) (sym same)) seen operation_there
              | inr none ↦ absurd (nothing_found q none operation_there)
            ]
