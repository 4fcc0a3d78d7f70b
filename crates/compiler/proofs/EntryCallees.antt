-- What is called behind the name of a protected object as its entry: the body of the entry, which the object's row names (RM 9.5.2).
use Rattle.std.proofs.Common.{◌≡◌, ◌⊎◌, inl, inr, ℕ, ◌+◌, List, [], map, Bool, true, false, cond, ◌&&◌, Option, Some, None, refl, sym, ap, ◌∙◌, subst}
use Rattle.std.specs.Prelude.{nat_lt, slice_get}
use Rattle.std.proofs.lemmas.Bool.{and_parts}
use Rattle.ada_tree.specs.Size.{total}
use Rattle.ada_tree.specs.ProgramTree.{EntryBody, ProgramTree, ProtectedItemTree}
use Rattle.image.specs.ObjectTable.{ObjectRow}
use Rattle.image.specs.Operations.{called_if, entry_of}
use Rattle.image.specs.Sections.{Sections}
use Rattle.types.specs.declared.entity.Subtype.{Subtype}
use Rattle.types.specs.Entities.{Profile, Protected, ProtectedObject}
use Rattle.types.specs.Layouts.{words_of}
use Rattle.legality.specs.ProgramRules.{IsLegal}
use Rattle.ravenscar.specs.ProgramRules.{IsRestricted}
use Rattle.expr_soundness.specs.SoundScopes.{AreKnown, IsKnown, IsSoundEntry, IsSoundOperation, IsSoundProfile, IsSoundResult, SoundScope}
use Rattle.meaning.specs.type_rules.specs.ProfileRules.{formal_parameters}
use Rattle.meaning.specs.Calls.{procedure_among}
use Rattle.meaning.specs.Programs.{Procedure, Program, program_of}
use Rattle.program_soundness.specs.step_soundness.specs.Fitting as fitting
use Rattle.program_soundness.specs.step_soundness.specs.Fitting.{IsEntry, IsOperation, IsProtectedObject, formal_of}
use Rattle.program_soundness.specs.Fronts.{declared_in, start_in}
use Rattle.program_soundness.proofs.BodyProfiles.{parameters_are, profile_formals, profile_none}
use Rattle.program_soundness.proofs.Listing.{same_some}
use Rattle.program_soundness.proofs.ObjectBodies as objects
use Rattle.program_soundness.proofs.WiderScopes.{number_stands, stands}
use Rattle.expr_code.specs.Seeing.{external_profile, object_named, operation_place, profile_behind}
use Rattle.expr_code.specs.declared.visible.Visible.{Visible}
use Rattle.step_simulation.specs.part_code.specs.EntryNames.{entry_among, entry_behind, is_entry_at, is_entry_operation}
use Rattle.step_simulation.specs.part_code.specs.Suiting.{IsCallableEntry, IsCallableProcedure, passed_width, returned_width}
use Rattle.package_code.specs.Bodies.{bodies_before}
use Rattle.package_code.specs.Objects.{service_of}
use Rattle.package_code.specs.Program.{HasProgram}
use Rattle.package_code.proofs.EntryRows.{IsEntryBody, entry_body, entry_number, row_is}
use Rattle.package_code.proofs.InFront.{LawsOfNames}
use Rattle.package_code.proofs.Offered.{object_entity, procedure_named}
use Rattle.package_code.proofs.OperationsAdded as added
use Rattle.compiler.proofs.Callees.{IsFoundOperation, operation_found, operation_sound, own_callee, procedure}
use Rattle.compiler.proofs.ObjectLines.{is_there, object_within}

-- an entry's name behind an object that is visible
entry_seen : (b : Bool) (n number : ℕ) → cond b (Some n) None ≡ Some number → (b ≡ true) × (n ≡ number)
entry_seen true n number h = (refl, same_some n number h)
entry_seen false n number h = cc

-- what stands as a protected object is one
same_protected : (a b : ProtectedObject) → Some (Protected a) ≡ Some (Protected b) → a ≡ b
same_protected a b h = ap (λ o. elim o [ Some e ↦ elim e [ Protected z ↦ z | other ↦ a ] | None ↦ a ]) h

module _ (laws : LawsOfNames) (t : ProgramTree) (legal : IsLegal t) (restricted : IsRestricted t) (i : Sections) (h : HasProgram t i) where
  abbrev program : Program
  program = program_of t

  -- the row of an object whose entry has its body names that
  row_told : (o : ℕ) (q : Procedure) → fitting.entry_of program.procedures o ≡ Some q → (y : IsEntryBody laws t legal restricted o q)
      → entry_of (slice_get i.objects o) ≡ Some (bodies_before t y.place + y.k)
  row_told o q some y =
      let up = subst (λ n. (row : ObjectRow) × (slice_get i.objects n ≡ Some row)) y.number
      (is_there i.objects _ (object_within laws t legal restricted i h y.place y.name y.items y.end_name y.at)) in
      let x = row_is t i.objects h.objects o up.0 up.1 in
      ap entry_of up.1 ∙ ap (λ r. r.entry) x.1 ∙ ap (λ e. (service_of t o e).entry) some ∙ entry_number laws t legal restricted o q y

  module _ (v : Visible) (sound : SoundScope v.scope) (same : (u : Subtype) → IsKnown v.scope u → words_of program.scope u ≡ words_of v.scope u)
      (outer : (name : List ℕ) (q : ProtectedObject) → stands v.scope name ≡ Some (Protected q)
      → (o : ProtectedObject) × (stands program.scope name ≡ Some (Protected o)) × ((q ≡ o) ⊎ (q.operations ≡ [])))
      (finds : (name : List ℕ) (q : ProtectedObject) → stands v.scope name ≡ Some (Protected q) → IsProtectedObject program name q)
      (name operation : List ℕ) (number : ℕ) (profile : Profile) where
    -- the entry of the program's object with this number, with the formals of the profile
    record IsEntryHere : Type 0 where
      q : Procedure
      only : fitting.entry_of program.procedures number ≡ Some q
      formals : map formal_of q.parameters ≡ profile.formals
      known : AreKnown v.scope profile.formals

    entry_called_there : IsEntryHere → IsCallableEntry i v.scope number profile
    entry_called_there e = record {
      code = words.code;
      is = ap (called_if i) (row_told number e.q e.only y) ∙ words.is;
      parameters = words.parameters ∙ ap (λ l. total (passed_width v.scope) l) formals;
      results = words.results ∙ ap (λ l. total (returned_width v.scope) l) formals;
    }
      where
        y : IsEntryBody laws t legal restricted number e.q
        y = entry_body laws t legal restricted number e.q e.only

        u : ProtectedItemTree
        u = EntryBody y.d y.barrier y.b

        has : objects.HasOwn program (start_in t.package_) (declared_in t.package_) (added.w laws.scopes laws.names laws.premises t legal restricted) y.place
            y.name y.items y.end_name y.at u
        has = added.owned laws.scopes laws.names laws.premises t legal restricted y.place y.name y.items y.end_name y.at y.k u y.there

        formals : has.profile.formals ≡ profile.formals
        formals =
            sym (parameters_are program.scope y.d.formals has.profile.formals
            (profile_formals program.scope (formal_parameters program.scope y.d.formals) None has.profile has.own))
            ∙ ap (λ z. map formal_of z.parameters) (sym y.is) ∙ e.formals

        none : has.profile.result ≡ None
        none = profile_none program.scope (formal_parameters program.scope y.d.formals) has.profile has.own

        sound_profile : IsSoundProfile v.scope has.profile
        sound_profile = record {
          known = subst (AreKnown v.scope) (sym formals) e.known;
          result = subst (IsSoundResult v.scope has.profile.formals) (sym none) tt;
        }

        words : IsCallableProcedure i v.scope (λ kind. true) (bodies_before t y.place + y.k) has.profile
        words =
            procedure laws t legal restricted i h v sound same (bodies_before t y.place + y.k) has.profile _
            (own_callee laws t legal restricted i h y.place y.name y.items y.end_name y.at y.k u y.there has.profile has.own) sound_profile (λ kind. true) refl
            none

    here : (q : ProtectedObject) → object_named v.scope name ≡ Some q → entry_among (Some q) operation ≡ Some number
        → profile_behind (Some q) operation ≡ Some profile → IsEntryHere
    here q named_there seen found = by_outer z.2
      where
        there : stands v.scope name ≡ Some (Protected q)
        there = object_entity v.scope name q named_there

        z : (o : ProtectedObject) × (stands program.scope name ≡ Some (Protected o)) × ((q ≡ o) ⊎ (q.operations ≡ []))
        z = outer name q there

        f : IsFoundOperation q.operations operation profile
        f = operation_found q operation profile found

        both : ((is_entry_at q (operation_place (Some q) operation) && nat_lt q.number 65536) ≡ true) × (q.number ≡ number)
        both = entry_seen (is_entry_at q (operation_place (Some q) operation) && nat_lt q.number 65536) q.number number seen

        is_entry : f.operation.is_entry ≡ true
        is_entry =
            ap is_entry_operation (sym f.there) ∙ ap (is_entry_at q) (sym f.placed)
            ∙ (and_parts (is_entry_at q (operation_place (Some q) operation)) (nat_lt q.number 65536) both.0).0

        pro : IsProtectedObject program name q
        pro = finds name q there

        entry : IsEntry program (procedure_among program.procedures (Some pro.object.number) operation) f.operation.profile
        entry =
            subst (λ b. IsOperation program (procedure_among program.procedures (Some pro.object.number) operation) b f.operation.profile) is_entry
            (pro.operations operation f.place f.operation f.placed f.there)

        known_there : IsSoundEntry v.scope f.operation.profile
        known_there =
            let n = number_stands v.scope name (Protected q) there in
            subst (λ b. IsSoundOperation v.scope b f.operation.profile) is_entry
            (operation_sound v.scope q.operations f.place f.operation (sound.each n.0 (Protected q) n.2).0 f.there)

        owner_number : Option ℕ → ℕ
        owner_number (Some n) = n
        owner_number None = 0

        by_outer : (q ≡ z.0) ⊎ (q.operations ≡ []) → IsEntryHere
        by_outer (inl same_object) =
            let theirs : pro.object ≡ z.0 = same_protected pro.object z.0 (sym pro.is ∙ z.1) in
            let owned = procedure_named program.procedures (Some pro.object.number) operation entry.procedure entry.is in
            let number_is : entry.object ≡ number =
            ap owner_number (sym entry.owner ∙ owned.0) ∙ ap (λ (o : ProtectedObject). o.number) (theirs ∙ sym same_object) ∙ both.1 in
            record {
              q = entry.procedure;
              only = subst (λ n. fitting.entry_of program.procedures n ≡ Some entry.procedure) number_is entry.only;
              formals = entry.formals ∙ ap (λ (p : Profile). p.formals) f.profile;
              known = subst (λ (p : Profile). AreKnown v.scope p.formals) f.profile known_there.known;
            }
        by_outer (inr none) = absurd (let bad = ap (λ l. slice_get l f.place) (sym none) ∙ f.there in cc)

    pub entry_there : entry_behind v.scope name operation ≡ Some number → external_profile v.scope name operation ≡ Some profile
        → IsCallableEntry i v.scope number profile
    entry_there seen found = by_object (object_named v.scope name) refl seen found
      where
        by_object : (q : Option ProtectedObject) → object_named v.scope name ≡ q → entry_among q operation ≡ Some number → profile_behind q operation ≡ Some profile
            → IsCallableEntry i v.scope number profile
        by_object None e one two = cc
        by_object (Some q) e one two = entry_called_there (here q e one two)
