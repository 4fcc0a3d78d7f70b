-- What stands in front of the parameters of a body, whosever it is: names that mean what they stand for, with places that are laid out, so that its frames can
-- be made.
use Rattle.std.proofs.Common.{◌≡◌, ◌⊎◌, ℕ, suc, List, [], ◌∷◌, ◌++◌, inl, inr, map, true, false, Option, Some, None, refl, sym, ap, ◌∙◌, subst, Bool}
use Rattle.std.specs.Prelude.{slice_get, is_some, cond, not}
use Rattle.ada_tree.specs.declared.expression.Identifier.{Identifier}
use Rattle.ada_tree.specs.declared.declaration.Formal.{Formal}
use Rattle.ada_tree.specs.StatementTree.{SubprogramTree}
use Rattle.ada_tree.specs.ProgramTree.{BodyItemTree, BodyTree, ProgramTree, SubprogramBody}
use Rattle.types.specs.declared.entity.Subtype.{Subtype}
use Rattle.types.specs.Entities.{Doubtful, Entity, Profile, Protected, ProtectedObject, TypeForm, Integers, Booleans, Times, Spans, Arrays, Records}
use Rattle.types.specs.Layouts.{words_of}
use Rattle.types.specs.Places.{Place}
use Rattle.types.specs.Scopes.{Scope, form_at, is_visible, with_name}
use Rattle.types.specs.Shapes.{has_shape, shape_of, words}
use Rattle.types.specs.Statics.{static_place}
use Rattle.types.specs.Values.{Value}
use Rattle.expr_soundness.specs.expr_rules.proofs.TypedLaw.{back_empty, front_empty, unbroken}
use Rattle.type_rules.specs.SubtypeNames.{end_rule, named_entity, subtype_faults, subtype_of, is_composite, is_composite_form}
use Rattle.declaration_rules.specs.BodyNames.{formals_scope}
use Rattle.type_rules.specs.ProfileRules.{formal_and, formal_faults, formal_parameters, formals_faults, function_faults, has_wrong_formal, profile_faults, result_faults, subprogram_scope, is_wrong_formal, is_in}
use Rattle.unit_rules.specs.BodyRules.{head_faults, subprogram_body_faults}
use Rattle.program_soundness.specs.legality.specs.ProgramRules.{IsLegal}
use Rattle.ravenscar.specs.ProgramRules.{IsRestricted}
use Rattle.expr_soundness.specs.Agreeing.{Agrees}
use Rattle.expr_soundness.specs.Laws.{ScopesAreSound}
use Rattle.expr_soundness.specs.SoundScopes.{IsKnown, SoundScope}
use Rattle.expr_soundness.proofs.Goods.{not_empty}
use Rattle.expr_soundness.proofs.Parts.{subtype_values}
use Rattle.expr_soundness.specs.meaning.specs.Calls.{procedure_among, procedure_here}
use Rattle.expr_soundness.specs.meaning.specs.Programs.{Procedure, Program, parameter, program_of, subtype_named, formal}
use Rattle.expr_soundness.specs.meaning.specs.Works.{Store}
use Rattle.program_soundness.specs.step_soundness.specs.Fitting.{FitsScope, IsFound, formal_of}
use Rattle.program_soundness.specs.step_soundness.specs.Holding.{inside}
use Rattle.program_soundness.specs.step_soundness.specs.Objects.{IsOf, first_store}
use Rattle.program_soundness.specs.BodyLaws.{FrontsFit, IsSoundMemory, NamesAreKnown, PremisesHold}
use Rattle.program_soundness.specs.Fronts.{declared_in, front, start_in}
use Rattle.program_soundness.proofs.Beginning.{keeps_same, keeps_with}
use Rattle.program_soundness.proofs.FormalTrees.{AllUnseen, new_formals, text_formals, unseen_first, unseen_own}
use Rattle.program_soundness.proofs.WiderScopes.{number_stands, stands, with_all}
use Rattle.program_soundness.proofs.Formals.{AreNew, all_named}
use Rattle.program_soundness.proofs.Listing.{Has}
use Rattle.program_soundness.proofs.BodyProfiles.{Keeps, named_is, subtype_kept}
use Rattle.program_soundness.proofs.Trees.{tree_package}
use Rattle.program_soundness.proofs.Walked.{legal_at, scope_next}
use Rattle.program_soundness.proofs.Whole.{IsPackage, kept, legal_subtype}
use Rattle.expr_code.specs.Seeing.{NamesProfile, Package, external_of, subprogram_of}
use Rattle.step_simulation.specs.part_code.specs.EntryNames.{entry_behind}
use Rattle.step_simulation.specs.part_code.specs.Layout.{EndsBelow, IsLaidOut}
use Rattle.step_simulation.specs.part_code.specs.Resting.{Framed}
use Rattle.step_simulation.specs.part_code.proofs.Initials.{shape_there}
use Rattle.stmt_code.proofs.Entering.{BeginsBody}
use Rattle.package_code.proofs.NewParameters.{AreCopiedIn, all_copied_in, either_false}
use Rattle.expr_soundness.specs.CompositesLaw.{is_simple}
use Rattle.stmt_code.proofs.Functions.{AreScalarFormals}
use Rattle.expr_soundness.proofs.Growing.{form_kept}

-- ---- what is visible in front of the parameters of a body

-- behind what is visible in front of the whole body, the subprogram's own name is; the body breaks no rule
abbrev pub IsBehindName : (before s : Scope) → SubprogramTree → BodyTree → Type 0
IsBehindName before s d b = (subprogram_scope before d ≡ s) × (subprogram_body_faults before d b ≡ [])

-- ... or nothing more, and the formals break none: in front of the body of an entry, whose name is visible by its declaration alone
abbrev pub IsAtEntry : (before s : Scope) → SubprogramTree → Type 0
IsAtEntry before s d = (before ≡ s) × (d.result ≡ None) × (formals_faults before [] d.formals ≡ [])

-- These names are visible there. Where no activation has objects each name means what it stands for, in a body that belongs to this protected object or to
-- none.
pub record IsBodyFront (t : ProgramTree) (owner : Option ℕ) (s : Scope) (d : SubprogramTree) (b : BodyTree) : Type 0 where
  pub before : Scope
  pub own : IsBehindName before s d b ⊎ IsAtEntry before s d
  pub front : SoundScope before
  pub same : (name : Identifier) (u : Subtype) → subtype_of before name ≡ Some u → subtype_of (program_of t).scope name ≡ Some u
  pub sound : SoundScope s
  pub fits : (m : Store) → IsSoundMemory (program_of t) m → (p : Place)
      → FitsScope (program_of t) s (inside (program_of t) m (record { within = owner; locals = [] }) p)

module _ (scopes : ScopesAreSound) (t : ProgramTree) (owner : Option ℕ) (s : Scope) (d : SubprogramTree) (b : BodyTree) (f : IsBodyFront t owner s d b) where
  abbrev whole : Scope
  whole = (program_of t).scope

  abbrev before : Scope
  before = f.before

  legal_profile : profile_faults before d ≡ []
  legal_profile = elim f.own [
    | inl y ↦ front_empty (profile_faults before d) _
        (front_empty _ _ (front_empty _ _ (front_empty (head_faults before d b) _ (front_empty _ (end_rule d.name b.end_name) y.1))))
    | inr y ↦ subst (λ o. formals_faults before [] d.formals ++ result_faults before o ++ function_faults before d.name d.formals o ≡ []) (sym y.1)
        (ap (λ l. l ++ [] ++ []) y.2)
  ]

  legal_formals : formals_faults before [] d.formals ≡ []
  legal_formals = front_empty _ _ (front_empty _ _ legal_profile)

  doubt : (name : List ℕ) → stands before name ≡ Some Doubtful → ⊥
  doubt name h = let x = number_stands before name Doubtful h in f.front.each x.0 Doubtful x.2

  keeps_own : Keeps before s
  keeps_own = elim f.own [
    | inl y ↦ subst (Keeps before) y.0 (keeps_with before d.name.name _)
    | inr y ↦ subst (Keeps before) y.0 (keeps_same before)
  ]

  unseen : AllUnseen s d.formals
  unseen = elim f.own [
    | inl y ↦ (let head = front_empty (head_faults before d b) _ (front_empty _ (end_rule d.name b.end_name) y.1) in
        subst (λ u. AllUnseen u d.formals) y.0
        (unseen_own before d.name _ d.formals (back_empty (profile_faults before d) _ (front_empty _ _ (front_empty _ _ head)))
        (unseen_first before [] d.formals legal_formals)))
    | inr y ↦ subst (λ u. AllUnseen u d.formals) y.0 (unseen_first before [] d.formals legal_formals)
  ]

  pub parameters_new : AreNew s (map (parameter whole) d.formals)
  parameters_new = new_formals scopes whole before s f.sound keeps_own doubt f.same [] d.formals legal_formals unseen

  -- a function's are copied in
  pub formals_in : (r : Identifier) → d.result ≡ Some r → AreCopiedIn d.formals
  formals_in r some =
      let rules_ : function_faults before d.name d.formals (Some r) ≡ [] =
      subst (λ o. function_faults before d.name d.formals o ≡ []) some (back_empty _ (function_faults before d.name d.formals d.result) legal_profile) in
      all_copied_in before d.formals (either_false _ (has_wrong_formal before d.formals) (unbroken _ d.name.place _ rules_)).1

  -- ---- the scope of the body, as its text is judged

  pub formals_text : formals_scope s d.formals ≡ with_all s (all_named (map (parameter whole) d.formals))
  formals_text = text_formals scopes whole before s f.sound keeps_own doubt f.same [] d.formals s (keeps_same s) legal_formals

  known_subtype : (earlier fs : List Formal) (x : Formal) → formals_faults before earlier fs ≡ [] → Has fs x → subtype_faults before x.subtype ≡ []
  known_subtype earlier [] x h has = absurd has
  known_subtype earlier (y ∷ fs) x h (inl e) =
      subst (λ z. subtype_faults before z.subtype ≡ []) e
      (back_empty _ (subtype_faults before y.subtype) (front_empty (formal_faults before earlier y) (formals_faults before (earlier ++ y ∷ []) fs) h))
  known_subtype earlier (y ∷ fs) x h (inr has) =
      known_subtype (earlier ++ y ∷ []) fs x (back_empty (formal_faults before earlier y) (formals_faults before (earlier ++ y ∷ []) fs) h) has

  -- what is named in front of the body as a subtype is so named in a run
  named_there : (name : Identifier) → subtype_faults before name ≡ [] → subtype_of s name ≡ Some (subtype_named whole name)
  named_there name legal =
      let u = legal_subtype name.place (named_entity before name) legal (doubt name.name) in
      let named = named_is whole name u.0 (f.same name u.0 u.1) in
      subtype_kept before s keeps_own name u.0 u.1 ∙ ap Some (sym named)

  pub formal_told : (x : Formal) → Has d.formals x → subtype_of s x.subtype ≡ Some (subtype_named whole x.subtype)
  formal_told x has = named_there x.subtype (known_subtype [] d.formals x legal_formals has)

  -- so are all of them
  formals_told_from : (fs : List Formal) → ((x : Formal) → Has fs x → subtype_of s x.subtype ≡ Some (subtype_named whole x.subtype))
      → formal_parameters s fs ≡ Some (map formal_of (map (parameter whole) fs))
  formals_told_from [] told = refl
  formals_told_from (x ∷ fs) told =
      ap (λ o. formal_and x o (formal_parameters s fs)) (told x (inl refl))
      ∙ ap (formal_and x (Some (subtype_named whole x.subtype))) (formals_told_from fs (λ g has. told g (inr has)))

  pub formals_told : formal_parameters s d.formals ≡ Some (map formal_of (map (parameter whole) d.formals))
  formals_told = formals_told_from d.formals formal_told

  -- and the subtype of a function's result
  pub result_told : (r : Identifier) → d.result ≡ Some r → subtype_of s r ≡ Some (subtype_named whole r)
  result_told r some =
      named_there r
      (subst (λ o. result_faults before o ≡ []) some
      (back_empty (formals_faults before [] d.formals) (result_faults before d.result) (front_empty _ _ legal_profile)))

  -- ---- types are those of the program

  -- some place of the program, where the body runs without objects of its own
  abbrev pub front_place : Place
  front_place = inside (program_of t) (first_store (program_of t)) (record { within = owner; locals = [] }) (static_place whole)

  module _ (memory : IsSoundMemory (program_of t) (first_store (program_of t))) where
    pub front_agrees : Agrees s front_place
    front_agrees = (f.fits (first_store (program_of t)) memory (static_place whole)).agrees

    pub front_finds : (name : List ℕ) (e : Entity) → stands s name ≡ Some e → IsFound (program_of t) owner name e
    front_finds = (f.fits (first_store (program_of t)) memory (static_place whole)).finds

    -- a value of a type of the program is one where the type is visible
    pub body_suits : (u : Subtype) → IsKnown s u → (x : Value) → IsOf whole u.type_number x → has_shape (shape_of s u) x ≡ true
    body_suits u known x h =
        subtype_values s u x
        ∙ ap (λ z. has_shape z x) (let form = not_empty (form_at s u.type_number) known in sym (front_agrees.shapes u.type_number form.0 form.1)) ∙ h

    pub body_words : (u : Subtype) → IsKnown s u → words_of whole u ≡ words_of s u
    body_words u known = ap words (shape_there s front_place front_agrees u known)

    -- ---- the formals of a function have no parts

    simple_form : (o : Option TypeForm) → is_some o ≡ true → is_composite_form o ≡ false → is_simple o ≡ true
    simple_form None h k = cc
    simple_form (Some Integers) h k = refl
    simple_form (Some Booleans) h k = refl
    simple_form (Some Times) h k = refl
    simple_form (Some Spans) h k = refl
    simple_form (Some (Arrays index many element)) h k = cc
    simple_form (Some (Records cs)) h k = cc

    form_with : (u : Scope) (name : List ℕ) (e : Entity) (n : ℕ) (form : TypeForm) → form_at u n ≡ Some form → form_at (with_name u name e) n ≡ Some form
    form_with u name e n form h = by_visible (is_visible u name)
      where
        by_visible : (seen : Bool) → form_at (cond seen u (u ++ record { name = name; entity = e } ∷ [])) n ≡ Some form
        by_visible true = h
        by_visible false = form_kept u (record { name = name; entity = e } ∷ []) n form h

    -- what is known in front of the whole body is the same in the program
    there_simple : (u : Subtype) → IsKnown before u → is_simple (form_at before u.type_number) ≡ true → is_simple (form_at whole u.type_number) ≡ true
    there_simple u known h =
        let form = not_empty (form_at before u.type_number) known in
        let here : form_at s u.type_number ≡ Some form.0 =
        elim f.own [
          | inl y ↦ subst (λ z. form_at z u.type_number ≡ Some form.0) y.0 (form_with before d.name.name _ u.type_number form.0 form.1)
          | inr y ↦ subst (λ z. form_at z u.type_number ≡ Some form.0) y.0 form.1
        ] in
        ap is_simple (front_agrees.forms u.type_number form.0 here) ∙ sym (ap is_simple form.1) ∙ h

    formal_simple : (x : Formal) → subtype_faults before x.subtype ≡ [] → is_composite before (subtype_of before x.subtype) ≡ false
        → is_simple (form_at whole (formal whole x).subtype.type_number) ≡ true
    formal_simple x legal none =
        let u = legal_subtype x.subtype.place (named_entity before x.subtype) legal (doubt x.subtype.name) in
        let named = named_is whole x.subtype u.0 (f.same x.subtype u.0 u.1) in
        let known = scopes.subtype before x.subtype u.0 f.front u.1 in
        subst (λ y. is_simple (form_at whole y.type_number) ≡ true) (sym named)
        (there_simple u.0 known (simple_form (form_at before u.0.type_number) known (ap (is_composite before) (sym u.1) ∙ none)))

    formals_simple_from : (earlier fs : List Formal) → formals_faults before earlier fs ≡ [] → has_wrong_formal before fs ≡ false
        → AreScalarFormals whole (map (formal whole) fs)
    formals_simple_from earlier [] h k = tt
    formals_simple_from earlier (x ∷ fs) h k =
        let parts = either_false (is_wrong_formal before x) (has_wrong_formal before fs) k in
        let own = either_false (not (is_in x.mode)) (is_composite before (subtype_of before x.subtype)) parts.0 in (
          formal_simple x (back_empty _ (subtype_faults before x.subtype) (front_empty (formal_faults before earlier x) (formals_faults before (earlier ++ x ∷ []) fs) h)) own.1,
          formals_simple_from (earlier ++ x ∷ []) fs (back_empty (formal_faults before earlier x) (formals_faults before (earlier ++ x ∷ []) fs) h) parts.1,
        )

    pub formals_simple : (r : Identifier) → d.result ≡ Some r → AreScalarFormals whole (map (formal whole) d.formals)
    formals_simple r some =
        let rules_ : function_faults before d.name d.formals (Some r) ≡ [] =
        subst (λ o. function_faults before d.name d.formals o ≡ []) some (back_empty _ (function_faults before d.name d.formals d.result) legal_profile) in
        formals_simple_from [] d.formals legal_formals (either_false _ (has_wrong_formal before d.formals) (unbroken _ d.name.place _ rules_)).1

-- ---- the body at a place of the package

module _ (known : NamesAreKnown) (premises : PremisesHold) (fronts : FrontsFit) (t : ProgramTree) (legal : IsLegal t) (restricted : IsRestricted t)
    (place : ℕ) (d : SubprogramTree) (b : BodyTree) (at : slice_get (declared_in t.package_) place ≡ Some (SubprogramBody d b)) where
  pub package_front : IsBodyFront t None (front t (suc place)) d b
  package_front =
      let program : Program = program_of t in
      let start : Scope = start_in t.package_ in
      let all : List BodyItemTree = declared_in t.package_ in
      let w : IsPackage program start all = tree_package t legal restricted (premises t legal).sound in
      let names = known t legal restricted in
      record {
        before = front t place;
        own = inl (sym (scope_next start all place (SubprogramBody d b) at), legal_at start all place (SubprogramBody d b) at w.list.legal);
        front = names.fronts place;
        same = λ name u h. subtype_kept (front t place) program.scope (kept program start all w place) name u h;
        sound = names.fronts (suc place);
        fits = λ m memory p. fronts t m legal restricted memory (suc place) p;
      }

-- ---- the frame there

-- The frame sees what is visible in front of the parameters of this body, of the protected object or of none.
pub record IsEntrance (t : ProgramTree) (g : Package) (owner : Option ℕ) (v : Framed) (d : SubprogramTree) (b : BodyTree) : Type 0 where
  pub front : IsBodyFront t owner v.names.scope d b
  pub within : v.within ≡ owner
  -- a procedure that is called there by a visible name has the number that is told of the name
  pub procedures : (name : List ℕ) (q : Procedure) (number : ℕ) (profile : Profile) → procedure_here (program_of t) owner name ≡ Some q
      → subprogram_of v.names name ≡ Some number
      → NamesProfile v.names.scope name profile
      → profile.result ≡ None
      → g.subprograms q.object q.name ≡ Some number
  -- ... and so has one that is called through the name of its object, and is no entry
  pub externals : (name operation : List ℕ) (q : Procedure) (o : ProtectedObject) (number : ℕ) → external_of v.names name operation ≡ Some number
      → stands (program_of t).scope name ≡ Some (Protected o)
      → procedure_among (program_of t).procedures (Some o.number) operation ≡ Some q
      → (g.subprograms q.object q.name ≡ Some number) × (q.barrier ≡ None)
  -- an entry is called through its name by the object's number
  pub entries : (name operation : List ℕ) (o : ProtectedObject) (number : ℕ) → entry_behind v.names.scope name operation ≡ Some number
      → stands (program_of t).scope name ≡ Some (Protected o)
      → o.number ≡ number
  pub laid : IsLaidOut g v
  -- no word of the frame is an object's
  pub ends : EndsBelow v 0
  -- whatever its words are, the frame stands for an activation without objects
  pub begins : BeginsBody g v owner
