-- Scopes are sound at each point of a legal program.
use Rattle.std.proofs.Common.{◌≡◌, ◌++◌, ℕ, List, [], ◌∷◌, Bool, true, false, Option, Some, None, refl, sym, ap, ◌∙◌, subst}
use Rattle.std.specs.Prelude.{is_some, option_map}
use Rattle.std.proofs.lemmas.List.{append-nil}
use Rattle.expr_soundness.specs.base.specs.declared.faults.TheConstants.{UNMATCHED_BODY}
use Rattle.expr_soundness.specs.ada_tree.specs.declared.expression.Identifier.{Identifier}
use Rattle.expr_soundness.specs.ada_tree.specs.ProgramTree.{BodyItemTree, OfItem, SubprogramBody, TaskBody, ProtectedBody, EntryBody, OperationBody, PackageTree, ProgramTree, ProtectedItemTree}
use Rattle.types.specs.declared.entity.RecordComponent.{RecordComponent}
use Rattle.types.specs.Entities.{Entity, Entry, LibraryUnit, Object, Operation, Profile, Protected, ProtectedObject, Subprogram, Doubtful}
use Rattle.types.specs.Scopes.{Scope, entity_at, number_of, operations_or, protected_at, protected_of, standard, with_control_io, with_name, with_operations, with_real_time}
use Rattle.expr_soundness.specs.expr_rules.proofs.TypedLaw.{back_empty, front_empty, unbroken}
use Rattle.expr_soundness.specs.type_rules.specs.SubtypeNames.{end_rule, entity_at_or_none, named_entity}
use Rattle.declaration_rules.specs.BodyNames.{component_role, components_scope, object_body_scope, operation_entity, operations_scope}
use Rattle.declaration_rules.specs.Laws.{StandsFirst}
use Rattle.declaration_rules.specs.PackageNames.{body_item_scope, body_items_scope, inside_scope, optional_scope, program_scope, specified_scope, units_scope}
use Rattle.unit_rules.specs.PackageBodyRules.{body_item_faults, body_items_faults}
use Rattle.unit_rules.specs.ProtectedBodyRules.{is_object, known_body_faults, object_items_faults, object_rule, operation_sees, outer_names_faults, protected_item_faults, protected_item_scope, protected_items_faults, protected_items_scope}
use Rattle.legality.specs.ProgramRules.{IsLegal}
use Rattle.legality.proofs.Made.{NoUnits, Times, Io, TimesIo, IoTimes, Units, clauses_seen, seen}
use Rattle.expr_soundness.specs.SoundScopes.{AreKnownParts, AreSoundOperations, IsKnown, IsSoundObject, IsSoundOperation, SoundScope}
use Rattle.expr_soundness.proofs.Clauses as clauses
use Rattle.expr_soundness.proofs.Expressions.{not_false}
use Rattle.expr_soundness.proofs.Growing.{HasTypes, entity_sound}
use Rattle.expr_soundness.proofs.Hiding as hiding
use Rattle.expr_soundness.proofs.Standard.{standard_is_sound}
use Rattle.program_soundness.specs.ScopeLaws.{DeclarationsAreSound, ProgramScopesAreSound}
use Rattle.program_soundness.specs.Points.{IsJudgedItem, IsJudgedOperation, IsObjectBody, scope_behind}
use Rattle.program_soundness.proofs.Declared.{fixed_locals_sound, formals_sound, item_sound, items_sound, locals_sound, object_fresh, subprogram_added, subprogram_sound}
use Rattle.program_soundness.proofs.Extending.{body_items_extend, components_same, extends_first, has_types, name_extends, operations_extend, protected_items_extend, stands_first}
use Rattle.program_soundness.proofs.Parts.{items_behind, legal_body, legal_package, scopes_joined}
use Rattle.program_soundness.proofs.Subtypes.{IsFresh, added}

-- ---- in front of the package

times_sound : SoundScope (with_real_time standard)
times_sound = clauses.scopes_are_sound.real_time standard standard_is_sound refl refl refl refl refl

io_sound : SoundScope (with_control_io standard)
io_sound = clauses.scopes_are_sound.control_io standard standard_is_sound refl refl

pub seen_sound : (u : Units) → SoundScope (seen u)
seen_sound NoUnits = standard_is_sound
seen_sound Times = times_sound
seen_sound Io = io_sound
seen_sound TimesIo = clauses.scopes_are_sound.control_io (with_real_time standard) times_sound refl refl
seen_sound IoTimes = clauses.scopes_are_sound.real_time (with_control_io standard) io_sound refl refl refl refl refl

pub inside_sound : (p : PackageTree) → SoundScope (inside_scope standard p)
inside_sound p =
    let units = clauses_seen NoUnits p.clauses in
    let front : SoundScope (units_scope standard p) = subst SoundScope (sym units.1) (seen_sound units.0) in
    added (units_scope standard p) p.declaration.name.name LibraryUnit front (record { sound = tt; untimed = refl })

-- ---- the package

body_item_sound : (s : Scope) (i : BodyItemTree) → SoundScope s → body_item_faults s i ≡ [] → SoundScope (body_item_scope s i)
body_item_sound s (OfItem d) sound h = item_sound s d sound h
body_item_sound s (SubprogramBody d b) sound h = subprogram_sound s sound d (legal_body s d b h).profile
body_item_sound s (TaskBody name b) sound h = sound
body_item_sound s (ProtectedBody name items end_name) sound h = sound

pub body_items_sound : (s : Scope) (before more : List BodyItemTree) → SoundScope s → body_items_faults s (before ++ more) ≡ [] → SoundScope (body_items_scope s before)
body_items_sound s [] more sound h = sound
body_items_sound s (i ∷ before) more sound h =
    let here = body_item_faults s i in
    let later = body_items_faults (body_item_scope s i) (before ++ more) in
    body_items_sound (body_item_scope s i) before more (body_item_sound s i sound (front_empty here later h)) (back_empty here later h)

pub specified_sound : (t : ProgramTree) (p : PackageTree) → IsLegal t → t.package_ ≡ Some p → SoundScope (specified_scope standard p)
specified_sound t p legal is = items_sound (inside_scope standard p) p.declaration.items (inside_sound p) (legal_package t p legal is).items

judged_item : (t : ProgramTree) (p : PackageTree) → IsLegal t → t.package_ ≡ Some p
    → (before : List BodyItemTree) (i : BodyItemTree) (behind : List BodyItemTree) → p.body.items ≡ before ++ i ∷ behind
    → IsJudgedItem t (scope_behind p before) i
judged_item t p legal is before i behind split =
    let specified = specified_scope standard p in
    let all = sym (ap (body_items_faults specified) split) ∙ (legal_package t p legal is).bodies in
    let here = items_behind specified before (i ∷ behind) all in
    let whole : program_scope t ≡ body_items_scope (scope_behind p before) (i ∷ behind) =
    ap (optional_scope standard) is ∙ ap (body_items_scope specified) split ∙ scopes_joined specified before (i ∷ behind) in
    record {
      sound = body_items_sound specified before (i ∷ behind) (specified_sound t p legal is) all;
      legal = front_empty (body_item_faults (scope_behind p before) i) (body_items_faults (body_item_scope (scope_behind p before) i) behind) here;
      first = subst (StandsFirst (scope_behind p before)) (sym whole) (stands_first (scope_behind p before) (body_items_scope (scope_behind p before) (i ∷ behind)) (body_items_extend (scope_behind p before) (i ∷ behind)));
    }

whole_sound : (t : ProgramTree) → IsLegal t → SoundScope (program_scope t)
whole_sound t legal = by_package t.package_ refl
  where
    by_package : (o : Option PackageTree) → t.package_ ≡ o → SoundScope (program_scope t)
    by_package None is = subst SoundScope (sym (ap (optional_scope standard) is)) standard_is_sound
    by_package (Some p) is =
        let specified = specified_scope standard p in
        let all : body_items_faults specified (p.body.items ++ []) ≡ [] = ap (body_items_faults specified) (append-nil p.body.items) ∙ (legal_package t p legal is).bodies in
        subst SoundScope (sym (ap (optional_scope standard) is)) (body_items_sound specified p.body.items [] (specified_sound t p legal is) all)

-- ---- the body of a protected object

-- operations and components, with their types in the wider scope
parts_kept : (s t : Scope) → HasTypes s t → (os : List Operation) (cs : List RecordComponent) → AreSoundOperations s os → AreKnownParts s cs
    → AreSoundOperations t os × AreKnownParts t cs
parts_kept s t has os cs sound known =
    let o : ProtectedObject = record { number = 0; ceiling = 0; operations = os; components = cs; barrier = None } in
    entity_sound s t has 0 (Protected o) (sound, known)

operation_fresh : (s : Scope) (is_entry : Bool) (p : Profile) → IsSoundOperation s is_entry p → IsFresh s (elim is_entry [ true ↦ Entry p | false ↦ Subprogram p ])
operation_fresh s true p h = record { sound = h; untimed = refl }
operation_fresh s false p h = record { sound = h; untimed = refl }

operations_sound : (s : Scope) (os : List Operation) → SoundScope s → AreSoundOperations s os → SoundScope (operations_scope s os)
operations_sound s [] sound h = sound
operations_sound s (o ∷ os) sound h =
    let next = with_name s o.name (operation_entity o) in
    operations_sound next os (added s o.name (operation_entity o) sound (operation_fresh s o.is_entry o.profile h.0))
    (parts_kept s next (has_types s next (name_extends s o.name (operation_entity o))) os [] h.1 tt).0

component_known : (s : Scope) (is_function : Bool) (c : RecordComponent) → IsKnown s c.subtype → IsSoundObject s (component_role is_function) c.subtype
component_known s true c known = known
component_known s false c known = known

pub components_sound : (s : Scope) (is_function : Bool) (cs : List RecordComponent) → SoundScope s → AreKnownParts s cs → SoundScope (components_scope s is_function cs)
components_sound s is_function [] sound h = sound
components_sound s is_function (c ∷ cs) sound h =
    let r = component_role is_function in
    let next = with_name s c.name (Object r c.subtype) in
    components_sound next is_function cs (added s c.name (Object r c.subtype) sound (object_fresh s sound r c.subtype (component_known s is_function c h.0)))
    (parts_kept s next (has_types s next (name_extends s c.name (Object r c.subtype))) [] cs tt h.1).1

module _ (components : List RecordComponent) where
  item_kept : (s : Scope) (i : ProtectedItemTree) → SoundScope s → AreKnownParts s components → protected_item_faults s components i ≡ []
      → SoundScope (protected_item_scope s i)
  item_kept s (OperationBody d b) sound known h =
      let sees = operation_sees s components d in
      subprogram_added s sees sound (components_sound s (is_some d.result) components sound known) (components_same s (is_some d.result) components) d (legal_body sees d b h).profile
  item_kept s (EntryBody d barrier b) sound known h = sound

  judged_operation : (s : Scope) (earlier : List ProtectedItemTree) (i : ProtectedItemTree) (later : List ProtectedItemTree) → SoundScope s
      → AreKnownParts s components
      → protected_items_faults s components (earlier ++ i ∷ later) ≡ []
      → IsJudgedOperation (protected_items_scope s earlier) components i
  judged_operation s [] i later sound known h =
      record {
        sound = sound;
        legal = front_empty (protected_item_faults s components i) (protected_items_faults (protected_item_scope s i) components later) h;
        seen = λ is_function. components_sound s is_function components sound known;
      }
  judged_operation s (x ∷ earlier) i later sound known h =
      let here = protected_item_faults s components x in
      let next = protected_item_scope s x in
      let rest = protected_items_faults next components (earlier ++ i ∷ later) in
      judged_operation next earlier i later (item_kept s x sound known (front_empty here rest h))
      (parts_kept s next (has_types s next (protected_items_extend s (x ∷ []))) [] components tt known).1 (back_empty here rest h)

module _ (s : Scope) (sound : SoundScope s) (name : Identifier) (items : List ProtectedItemTree) (end_name : Identifier) where
  object_body : body_item_faults s (ProtectedBody name items end_name) ≡ [] → IsObjectBody s name items
  object_body h = by_number (number_of s name.name) refl is_one inside
    where
      two : object_rule s name ++ known_body_faults s (number_of s name.name) items ≡ []
      two = front_empty (object_rule s name ++ known_body_faults s (number_of s name.name) items) (end_rule name end_name) h

      is_one : is_object (named_entity s name) ≡ true
      is_one = not_false (is_object (named_entity s name)) (unbroken UNMATCHED_BODY name.place _ (front_empty (object_rule s name) (known_body_faults s (number_of s name.name) items) two))

      inside : known_body_faults s (number_of s name.name) items ≡ []
      inside = back_empty (object_rule s name) (known_body_faults s (number_of s name.name) items) two

      known_object : (n : ℕ) (o : ProtectedObject) → number_of s name.name ≡ Some n → entity_at s n ≡ Some (Protected o) → known_body_faults s (Some n) items ≡ []
          → IsObjectBody s name items
      known_object n o is at k =
          let at_number : protected_at s n ≡ Some o = ap protected_of at in
          let faults : object_items_faults s n (Some o.components) items ≡ [] =
          ap (λ p. object_items_faults s n (option_map (λ q. q.components) p) items) (sym at_number) ∙ k in
          let body = object_body_scope s n in
          let bodies = back_empty (outer_names_faults s items) (protected_items_faults body o.components items) faults in
          let here = with_operations s n [] in
          let kept = entity_sound s here (hiding.has_types s n) n (Protected o) (sound.each n (Protected o) at) in
          let started : operations_scope here o.operations ≡ body = ap (λ p. operations_scope here (operations_or p [])) (sym at_number) in
          let wide = operations_sound here o.operations (hiding.inside_sound s n sound) kept.0 in
          let parts = (parts_kept here (operations_scope here o.operations) (has_types here (operations_scope here o.operations) (operations_extend here o.operations)) [] o.components tt kept.1).1 in
          record {
            number = n;
            object = o;
            numbered = is;
            stands = at;
            known = (sound.each n (Protected o) at).1;
            judged =
                λ earlier i later split. judged_operation o.components body earlier i later (subst SoundScope started wide) (subst (λ u. AreKnownParts u o.components) started parts)
                (sym (ap (protected_items_faults body o.components) split) ∙ bodies);
          }

      by_entity : (n : ℕ) (e : Option Entity) → number_of s name.name ≡ Some n → entity_at s n ≡ e → is_object e ≡ true → known_body_faults s (Some n) items ≡ []
          → IsObjectBody s name items
      by_entity n (Some (Protected o)) is at one k = known_object n o is at k
      by_entity n (Some Doubtful) is at one k = absurd (sound.each n Doubtful at)
      by_entity n e is at one k = cc

      by_number : (o : Option ℕ) → number_of s name.name ≡ o → is_object (entity_at_or_none s o) ≡ true → known_body_faults s o items ≡ [] → IsObjectBody s name items
      by_number (Some n) is one k = by_entity n (entity_at s n) is refl one k
      by_number None is one k = cc

-- ---- the laws

pub declarations_are_sound : DeclarationsAreSound
declarations_are_sound =
    record {
      items = items_sound;
      subprogram = λ s d sound h. subprogram_sound s sound d h;
      formals = λ s later fs sound first there h. formals_sound s later [] fs sound (extends_first s later first) there h;
      locals = locals_sound;
      fixed_locals = fixed_locals_sound;
      object = λ s name items end_name sound h. object_body s sound name items end_name h;
    }

pub scopes_are_sound : ProgramScopesAreSound
scopes_are_sound = record { whole = whole_sound; inside = λ t p legal is. inside_sound p; specified = specified_sound; judged = judged_item }
