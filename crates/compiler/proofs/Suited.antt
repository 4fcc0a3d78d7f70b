-- What is visible in front of a body, and in front of main, stands in the image and in the subprogram to which the code is added.
use Rattle.std.proofs.Common.{◌≡◌, ◌⊎◌, inl, inr, ℕ, ◌+◌, ◌<◌, List, [], length, true, Option, Some, None, ◌||◌, refl, sym, ap, ◌∙◌, subst, arith}
use Rattle.std.specs.Prelude.{is_none, nat_lt, slice_get}
use Rattle.std.proofs.lemmas.Bool.{eq-eqb, lt-ltb}
use Rattle.ada_tree.specs.declared.declaration.Formal.{Formal}
use Rattle.ada_tree.specs.declared.expression.Identifier.{Identifier}
use Rattle.ada_tree.specs.ProgramTree.{EntryBody, OperationBody, ProgramTree, ProtectedBody, ProtectedItemTree}
use Rattle.image.specs.Code as sections
use Rattle.image.specs.ObjectTable.{ObjectRow}
use Rattle.image.specs.Rules.{calls_inside, has_region, has_word, is_external, is_plain, object_row, some_and, writes_region}
use Rattle.image.specs.Sections.{Sections, object_of, writes_object}
use Rattle.image.specs.declared.instruction.Region.{Region}
use Rattle.image.specs.declared.instruction.Region.TheVariants as regions
use Rattle.image.specs.declared.subprograms.Kind.{Kind}
use Rattle.image.specs.declared.subprograms.Kind.TheVariants as kinds
use Rattle.image.specs.declared.subprograms.Subprogram.{Subprogram}
use Rattle.types.specs.declared.entity.Subtype.{Subtype}
use Rattle.types.specs.Entities.{Profile, Protected, ProtectedObject}
use Rattle.types.specs.Entities as entity
use Rattle.types.specs.Layouts.{words_of}
use Rattle.types.specs.Places.{or_else}
use Rattle.types.specs.Scopes.{Scope, offering}
use Rattle.types.specs.Statics.{static_place}
use Rattle.legality.specs.ProgramRules.{IsLegal}
use Rattle.ravenscar.specs.ProgramRules.{IsRestricted}
use Rattle.expr_soundness.specs.SoundScopes.{IsKnown, SoundScope}
use Rattle.meaning.specs.type_rules.specs.ProfileRules.{formal_parameters, profile_with}
use Rattle.meaning.specs.Programs.{Program, program_of}
use Rattle.program_soundness.specs.Fronts.{declared_in, front}
use Rattle.program_soundness.specs.step_soundness.specs.Fitting.{IsFound}
use Rattle.program_soundness.specs.step_soundness.specs.Objects.{first_store}
use Rattle.program_soundness.proofs.BodyProfiles.{profile_none}
use Rattle.program_soundness.proofs.Listing.{same_some}
use Rattle.program_soundness.proofs.Moved.{hidden_stands}
use Rattle.program_soundness.proofs.WiderScopes.{stands, stands_number}
use Rattle.expr_code.specs.Seeing.{NamesProfile, Package, Suits, slot_of, subprogram_of, told_of}
use Rattle.expr_code.specs.declared.visible.Slot.{Slot}
use Rattle.expr_code.specs.declared.visible.Visible.{Visible}
use Rattle.step_simulation.specs.part_code.specs.Resting.{Framed}
use Rattle.step_simulation.specs.part_code.specs.Suiting.{SuitsStatements}
use Rattle.stmt_code.specs.Subprograms.{SuitsBody}
use Rattle.package_code.specs.Bodies.{bodies_before, number_in, operation_kind, own_body, own_head, own_kind}
use Rattle.package_code.specs.Directory.{AreTold, number_told}
use Rattle.package_code.specs.Package.{IsInFront}
use Rattle.package_code.specs.Program.{HasProgram}
use Rattle.package_code.proofs.BodyFronts.{IsBodyFront, body_words, front_finds}
use Rattle.package_code.proofs.InFront.{LawsOfNames, front_sound, front_words, kept_behind, memory}
use Rattle.package_code.proofs.Linking.{in_front, ordered}
use Rattle.package_code.proofs.ObjectFronts as fronts
use Rattle.package_code.proofs.OperationBodies.{has_number, object}
use Rattle.compiler.proofs.EntryCallees.{entry_there}
use Rattle.compiler.proofs.ObjectLines.{component_within}
use Rattle.compiler.proofs.Callees.{IsCallee, callable, external_there, g, of_program, own_callee, own_item, package_callee, procedure}

-- ---- kinds

-- a function of an object calls its functions; a procedure, or the body of its entry, both
calls_function : (o : ℕ) (caller : ProtectedItemTree) (r : Identifier)
    → (is_plain (operation_kind o (Some r)) || calls_inside (own_kind o caller) (operation_kind o (Some r))) ≡ true
calls_function o (OperationBody d b) r = by_result d.result
  where
    by_result : (q : Option Identifier) → (is_plain (operation_kind o (Some r)) || calls_inside (operation_kind o q) (operation_kind o (Some r))) ≡ true
    by_result None = eq-eqb o o refl
    by_result (Some q) = eq-eqb o o refl
calls_function o (EntryBody d barrier b) r = eq-eqb o o refl

calls_any : (o : ℕ) (caller : ProtectedItemTree) → (own_head caller).result ≡ None → (r : Option Identifier)
    → (is_plain (operation_kind o r) || calls_inside (own_kind o caller) (operation_kind o r)) ≡ true
calls_any o (OperationBody d b) none r =
    ap (λ q. is_plain (operation_kind o r) || calls_inside (operation_kind o q) (operation_kind o r)) none ∙ by_result r
  where
    by_result : (q : Option Identifier) → (is_plain (operation_kind o q) || calls_inside (operation_kind o None) (operation_kind o q)) ≡ true
    by_result None = eq-eqb o o refl
    by_result (Some q) = eq-eqb o o refl
calls_any o (EntryBody d barrier b) none None = eq-eqb o o refl
calls_any o (EntryBody d barrier b) none (Some r) = eq-eqb o o refl

kind_object : (o : ℕ) (u : ProtectedItemTree) → object_of (own_kind o u) ≡ Some o
kind_object o (OperationBody d b) = by_result d.result
  where
    by_result : (q : Option Identifier) → object_of (operation_kind o q) ≡ Some o
    by_result None = refl
    by_result (Some q) = refl
kind_object o (EntryBody d barrier b) = refl

-- what is no function stores in its object
kind_writes : (o : ℕ) (u : ProtectedItemTree) → (own_head u).result ≡ None → writes_object (own_kind o u) ≡ true
kind_writes o (OperationBody d b) none = ap (λ q. writes_object (operation_kind o q)) none
kind_writes o (EntryBody d barrier b) none = refl

calls_gives : (s : Scope) (o : ℕ) (caller : ProtectedItemTree) (fs : List Formal) (r : Option Identifier) (p : Profile)
    → profile_with s (formal_parameters s fs) r ≡ Some p → (u : Subtype) → p.result ≡ Some u
    → (is_plain (operation_kind o r) || calls_inside (own_kind o caller) (operation_kind o r)) ≡ true
calls_gives s o caller fs (Some r) p own u some = calls_function o caller r
calls_gives s o caller fs None p own u some = (let none = profile_none s (formal_parameters s fs) p own in let bad = sym none ∙ some in cc)

subprogram_before : (b : entity.Entity) (p : Profile) → (b ≡ entity.Subprogram p) ⊎ (offering [] b ≡ entity.Subprogram p) → b ≡ entity.Subprogram p
subprogram_before b p (inl h) = h
subprogram_before (Protected q) p (inr h) = cc
subprogram_before b p (inr h) = h

-- ---- the package

module _ (laws : LawsOfNames) (t : ProgramTree) (legal : IsLegal t) (restricted : IsRestricted t) (i : Sections) (h : HasProgram t i) where
  abbrev program : Program
  program = program_of t

  -- a frame with these names alone
  abbrev seeing : Option ℕ → Visible → Framed
  seeing owner v = record { names = v; room = 0; reserved = []; within = owner }

  plain_within : (name : List ℕ) (x : Slot) → (g laws t legal restricted i h).slots None name ≡ Some x → x.offset < length i.plain_words
  plain_within name x told =
      subst (λ l. x.offset < length l) (sym h.plain_words)
      (h.are.within name x (sym (ap (λ z. told_of program.scope z.items name) h.slots) ∙ told))

  module _ (v : Visible) (place : ℕ) (scope : v.scope ≡ front t place) (told : AreTold program.scope h.directory None v) where
    before : IsInFront (front t place) (g laws t legal restricted i h) None (seeing None v)
    before = in_front t i h (front t place) None (seeing None v) scope refl told

    sound : SoundScope v.scope
    sound = front_sound laws t legal restricted i (g laws t legal restricted i h) (of_program laws t legal restricted i h) (seeing None v) place before

    same : (u : Subtype) → IsKnown v.scope u → words_of program.scope u ≡ words_of v.scope u
    same = front_words laws t legal restricted i (g laws t legal restricted i h) (of_program laws t legal restricted i h) (seeing None v) place before

    shared : (name : List ℕ) (x : Slot) → slot_of v name ≡ Some x → x.region ≡ regions.Plain
    shared name x seen = (of_program laws t legal restricted i h).laid.plain name x (told.slots name x seen)

    whole_here : (name : List ℕ) (e : entity.Entity) → stands v.scope name ≡ Some e → stands program.scope name ≡ Some e
    whole_here name e k = kept_behind laws t legal restricted place name e (ap (λ s. stands s name) (sym scope) ∙ k)

    outer : (name : List ℕ) (q : ProtectedObject) → stands v.scope name ≡ Some (Protected q)
        → (o : ProtectedObject) × (stands program.scope name ≡ Some (Protected o)) × ((q ≡ o) ⊎ (q.operations ≡ []))
    outer name q k = (q, whole_here name (Protected q) k, inl refl)

    -- what is named is there in the program
    finds : (name : List ℕ) (e : entity.Entity) → stands v.scope name ≡ Some e → IsFound program None name e
    finds name e k =
        (laws.fronts t (first_store program) legal restricted (memory laws t legal restricted) place
        (static_place program.scope)).finds name e (ap (λ s. stands s name) (sym scope) ∙ k)

    callee : (name : List ℕ) (number : ℕ) (profile : Profile) → subprogram_of v name ≡ Some number → NamesProfile v.scope name profile
        → IsCallee laws t legal restricted i h number profile kinds.Plain
    callee name number profile seen n =
        package_callee laws t legal restricted i h name number profile
        (whole_here name (entity.Subprogram profile) (stands_number v.scope name n.number (entity.Subprogram profile) n.numbered n.stands))
        (told.calls name number seen)

    suits : (s : Subprogram) → Suits v i s
    suits s = record {
      locals = λ name x seen local. absurd (let p = sym (shared name x seen) ∙ local in cc);
      plain = λ name x seen plain. plain_within name x (told.slots name x seen);
      object = λ name x seen object. absurd (let p = sym (shared name x seen) ∙ object in cc);
      region = λ name x seen. ap (has_region s) (shared name x seen);
      calls = λ name number profile result seen n some.
          callable laws t legal restricted i h v sound same number profile kinds.Plain (callee name number profile seen n)
          (sound.each n.number (entity.Subprogram profile) n.stands) (λ kind. is_plain kind || calls_inside s.kind kind) refl result some;
      externals = λ name operation number profile result seen named some.
          let x = external_there laws t legal restricted i h v sound told.operations outer name operation number profile seen named in
          callable laws t legal restricted i h v sound same number profile x.kind x.callee x.sound is_external x.external result some;
    }

    pub front_suited : (s : Subprogram) → object_of s.kind ≡ None → SuitsStatements v i s
    front_suited s bare = record {
      names = suits s;
      writes = λ r has. by_region r has;
      procedures = λ name number profile seen n none.
          procedure laws t legal restricted i h v sound same number profile kinds.Plain (callee name number profile seen n)
          (sound.each n.number (entity.Subprogram profile) n.stands) (λ kind. is_plain kind || calls_inside s.kind kind) refl none;
      externals = λ name operation number profile seen named none.
          let x = external_there laws t legal restricted i h v sound told.operations outer name operation number profile seen named in
          procedure laws t legal restricted i h v sound same number profile x.kind x.callee x.sound is_external x.external none;
      entries = λ name operation number profile seen named. entry_there laws t legal restricted i h v sound same outer (λ x q k. finds x (Protected q) k) name operation number profile seen named;
    }
      where
        by_region : (r : Region) → has_region s r ≡ true → writes_region s r ≡ true
        by_region regions.Locals e = refl
        by_region regions.Plain e = refl
        by_region regions.Object e = (let bad = sym (ap (λ o. some_and o (λ n. true)) bare) ∙ e in cc)

  -- ---- an object's operation

  module _ (place : ℕ) (name : Identifier) (items : List ProtectedItemTree) (end_name : Identifier)
      (at : slice_get (declared_in t.package_) place ≡ Some (ProtectedBody name items end_name))
      (k : ℕ) (u : ProtectedItemTree) (there : slice_get items k ≡ Some u)
      (v : Visible) where
    abbrev o : ProtectedObject
    o = object laws.scopes laws.names laws.premises t legal restricted place name items end_name at

    abbrev gg : Package
    gg = g laws t legal restricted i h

    module _ (scope : v.scope ≡ fronts.seen laws t legal restricted place name items end_name at k u there)
        (told : AreTold program.scope h.directory (Some o.number) v) where
      inside : IsInFront (fronts.seen laws t legal restricted place name items end_name at k u there) gg (Some o.number) (seeing (Some o.number) v)
      inside = in_front t i h (fronts.seen laws t legal restricted place name items end_name at k u there) (Some o.number) (seeing (Some o.number) v) scope refl told

      abbrev Came : List ℕ → entity.Entity → Type 0
      Came x e =
          fronts.CameHere laws t legal restricted place name items end_name at k u there i gg (ordered t i h) (of_program laws t legal restricted i h)
          h.told.operations (seeing (Some o.number) v) inside x e

      came : (x : List ℕ) (e : entity.Entity) → stands v.scope x ≡ Some e → Came x e
      came =
          fronts.came laws t legal restricted place name items end_name at k u there i gg (ordered t i h) (of_program laws t legal restricted i h)
          h.told.operations (seeing (Some o.number) v) inside

      front_body : IsBodyFront t (Some o.number) v.scope (own_head u) (own_body u)
      front_body =
          subst (λ z. IsBodyFront t (Some o.number) z (own_head u) (own_body u)) (sym scope)
          (fronts.operation_is_front laws t legal restricted place name items end_name at k u there)

      same_inside : (u : Subtype) → IsKnown v.scope u → words_of program.scope u ≡ words_of v.scope u
      same_inside = body_words laws.scopes t (Some o.number) v.scope (own_head u) (own_body u) front_body (memory laws t legal restricted)

      -- ---- what is called

      record IsCalledInside (number : ℕ) (p : Profile) : Type 0 where
        kind : Kind
        callee : IsCallee laws t legal restricted i h number p kind
        function : (z : Subtype) → p.result ≡ Some z → (is_plain kind || calls_inside (own_kind o.number u) kind) ≡ true
        procedure : (own_head u).result ≡ None → (is_plain kind || calls_inside (own_kind o.number u) kind) ≡ true

      called_inside : (x : List ℕ) (number : ℕ) (p : Profile) → subprogram_of v x ≡ Some number → NamesProfile v.scope x p → IsCalledInside number p
      called_inside x number p seen n = by_came (came x (entity.Subprogram p) (stands_number v.scope x n.number (entity.Subprogram p) n.numbered n.stands))
        where
          both : or_else (number_told program.scope h.directory (Some o.number) x) (number_told program.scope h.directory None x) ≡ Some number
          both = told.calls x number seen

          first_same : (a c : Option ℕ) (m : ℕ) → a ≡ Some m → or_else a c ≡ Some number → m ≡ number
          first_same (Some y) c m is e = sym (same_some y m is) ∙ same_some y number e
          first_same None c m is e = cc

          second_same : (a c : Option ℕ) → a ≡ None → or_else a c ≡ Some number → c ≡ Some number
          second_same (Some y) c is e = cc
          second_same None c is e = e

          by_came : Came x (entity.Subprogram p) → IsCalledInside number p
          by_came (inl hidden) =
              let f = hidden_stands (front t place) (fronts.own_name_number laws t legal restricted place name items end_name at k u there i gg (ordered t i h)
              (of_program laws t legal restricted i h) h.told.operations (seeing (Some o.number) v) inside) x (entity.Subprogram p) hidden in
              let is = kept_behind laws t legal restricted place x (entity.Subprogram p) (f.stands_ ∙ ap Some (subprogram_before f.before p f.same)) in
              let untold = fronts.front_unnumbered laws t legal restricted place name items end_name at k u there i gg (ordered t i h)
              (of_program laws t legal restricted i h) h.told.operations (seeing (Some o.number) v) inside x f.before f.stands_ in
              record {
                kind = kinds.Plain;
                callee = package_callee laws t legal restricted i h x number p is
                    (second_same (number_told program.scope h.directory (Some o.number) x) (number_told program.scope h.directory None x) untold both);
                function = λ z some. refl;
                procedure = λ none. refl;
              }
          by_came (inr (inl op)) =
              let y = own_item laws t legal restricted i h place name items end_name at x p op.stands_ op.item.0 op.item.1 op.item.2 op.item.3 in
              let own_told =
              h.told.operations o.number x ∙ ap (number_in t (Some o.number)) (sym y.named)
              ∙ has_number laws.scopes laws.names laws.premises t legal restricted place name items end_name at y.j (OperationBody y.d y.b) y.there in
              let same = first_same (number_told program.scope h.directory (Some o.number) x) (number_told program.scope h.directory None x)
              (bodies_before t place + y.j) own_told both in
              record {
                kind = operation_kind o.number y.d.result;
                callee = subst (λ m. IsCallee laws t legal restricted i h m p (operation_kind o.number y.d.result)) same
                    (own_callee laws t legal restricted i h place name items end_name at y.j (OperationBody y.d y.b) y.there p y.profile);
                function = λ z some. calls_gives program.scope o.number u y.d.formals y.d.result p y.profile z some;
                procedure = λ none. calls_any o.number u none y.d.result;
              }
          by_came (inr (inr c)) =
              absurd (let e = fronts.component_entity (fronts.is_function laws t legal restricted place name items end_name at k u there) o.components x (entity.Subprogram p) c in let bad = e.1 in cc)

      outer_inside : (x : List ℕ) (q : ProtectedObject) → stands v.scope x ≡ Some (Protected q)
          → (z : ProtectedObject) × (stands program.scope x ≡ Some (Protected z)) × ((q ≡ z) ⊎ (q.operations ≡ []))
      outer_inside x q seen = by_came (came x (Protected q) seen)
        where
          by_came : Came x (Protected q) → (z : ProtectedObject) × (stands program.scope x ≡ Some (Protected z)) × ((q ≡ z) ⊎ (q.operations ≡ []))
          by_came (inl hidden) =
              let f = hidden_stands (front t place) (fronts.own_name_number laws t legal restricted place name items end_name at k u there i gg (ordered t i h)
              (of_program laws t legal restricted i h) h.told.operations (seeing (Some o.number) v) inside) x (Protected q) hidden in
              let c = fronts.protected_before f.before q f.same in
              (c.0, kept_behind laws t legal restricted place x (Protected c.0) (f.stands_ ∙ ap Some c.1), c.2)
          by_came (inr (inl op)) = absurd (elim op.kinds [ inl e ↦ cc | inr e ↦ cc ])
          by_came (inr (inr c)) =
              absurd (let e = fronts.component_entity (fronts.is_function laws t legal restricted place name items end_name at k u there) o.components x (Protected q) c in let bad = e.1 in cc)

      -- ---- words

      words_here : (x : List ℕ) (slot : Slot) → slot_of v x ≡ Some slot
          → ((slot.region ≡ regions.Object) × (gg.slots (Some o.number) x ≡ Some slot)) ⊎ ((slot.region ≡ regions.Plain) × (gg.slots None x ≡ Some slot))
      words_here x slot seen =
          elim (fronts.words_there laws t legal restricted place name items end_name at k u there i gg (ordered t i h) (of_program laws t legal restricted i h)
          h.told.operations (seeing (Some o.number) v) inside x slot seen) [
            | inl y ↦ inl ((of_program laws t legal restricted i h).laid.region o.number x slot y.its, y.its)
            | inr y ↦ inr ((of_program laws t legal restricted i h).laid.plain x slot y.its, y.its)
          ]

      own_within : (x : List ℕ) (slot : Slot) → gg.slots (Some o.number) x ≡ Some slot → slot.offset < length (sections.initial_words_of (slice_get i.objects o.number))
      own_within x slot told_slot_ =
          component_within laws t legal restricted i h o.number x slot (sym ((ordered t i h).components o.number x) ∙ told_slot_)

      has_own_word : (s : Subprogram) → object_of s.kind ≡ Some o.number → (a : ℕ) → a < length (sections.initial_words_of (slice_get i.objects o.number))
          → has_word i s a ≡ true
      has_own_word s kind a up = ap (λ z. some_and (object_row i z) (λ r. nat_lt a (length r.words))) kind ∙ by_row (slice_get i.objects o.number) up
        where
          by_row : (r : Option ObjectRow) → a < length (sections.initial_words_of r) → some_and r (λ z. nat_lt a (length z.words)) ≡ true
          by_row (Some r) less = lt-ltb a (length r.words) less
          by_row None less = absurd (omega (arith, less))

      suits_inside : (s : Subprogram) → s.kind ≡ own_kind o.number u → Suits v i s
      suits_inside s kind = record {
        locals = λ x slot seen local. elim (words_here x slot seen) [ inl y ↦ absurd (let bad = sym y.0 ∙ local in cc) | inr y ↦ absurd (let bad = sym y.0 ∙ local in cc) ];
        plain = λ x slot seen plain. elim (words_here x slot seen) [ inl y ↦ absurd (let bad = sym y.0 ∙ plain in cc) | inr y ↦ plain_within x slot y.1 ];
        object = λ x slot seen object. elim (words_here x slot seen) [
          | inl y ↦ has_own_word s (ap object_of kind ∙ kind_object o.number u) slot.offset (own_within x slot y.1)
          | inr y ↦ absurd (let bad = sym y.0 ∙ object in cc)
        ];
        region = λ x slot seen. elim (words_here x slot seen) [
          | inl y ↦ ap (has_region s) y.0 ∙ ap (λ z. some_and z (λ n. true)) (ap object_of kind ∙ kind_object o.number u)
          | inr y ↦ ap (has_region s) y.0
        ];
        calls = λ x number p result seen n some.
            let y = called_inside x number p seen n in
            callable laws t legal restricted i h v front_body.sound same_inside number p y.kind y.callee
            (front_body.sound.each n.number (entity.Subprogram p) n.stands) (λ z. is_plain z || calls_inside s.kind z)
            (ap (λ z. is_plain y.kind || calls_inside z y.kind) kind ∙ y.function result some) result some;
        externals = λ x operation number p result seen named some.
            let y = external_there laws t legal restricted i h v front_body.sound told.operations outer_inside x operation number p seen named in
            callable laws t legal restricted i h v front_body.sound same_inside number p y.kind y.callee y.sound is_external y.external result some;
      }

      pub operation_suited : (s : Subprogram) → s.kind ≡ own_kind o.number u → SuitsBody (is_none (own_head u).result) v i s
      operation_suited s kind = by_result (own_head u).result refl
        where
          by_result : (r : Option Identifier) → (own_head u).result ≡ r → SuitsBody (is_none r) v i s
          by_result (Some r) is = suits_inside s kind
          by_result None is = record {
            names = suits_inside s kind;
            writes = λ r has. writes_there r;
            procedures = λ x number p seen n none.
                let y = called_inside x number p seen n in
                procedure laws t legal restricted i h v front_body.sound same_inside number p y.kind y.callee
                (front_body.sound.each n.number (entity.Subprogram p) n.stands) (λ z. is_plain z || calls_inside s.kind z)
                (ap (λ z. is_plain y.kind || calls_inside z y.kind) kind ∙ y.procedure is) none;
            externals = λ x operation number p seen named none.
                let y = external_there laws t legal restricted i h v front_body.sound told.operations outer_inside x operation number p seen named in
                procedure laws t legal restricted i h v front_body.sound same_inside number p y.kind y.callee y.sound is_external y.external none;
            entries = λ x operation number p seen named.
                entry_there laws t legal restricted i h v front_body.sound same_inside outer_inside
                (λ z q k. front_finds laws.scopes t (Some o.number) v.scope (own_head u) (own_body u) front_body (memory laws t legal restricted) z (Protected q) k)
                x operation number p
                seen named;
          }
            where
              writes_there : (r : Region) → writes_region s r ≡ true
              writes_there regions.Locals = refl
              writes_there regions.Plain = refl
              writes_there regions.Object = ap writes_object kind ∙ kind_writes o.number u is
