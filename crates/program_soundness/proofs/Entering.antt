-- Where a function is called its formals mean their values, and a body that breaks no rule is sound there.
use Rattle.std.proofs.Common.{◌≡◌, ℕ, List, [], ◌∷◌, ◌++◌, map, true, Option, Some, sym, ap, ◌∙◌, subst}
use Rattle.std.specs.Prelude.{is_some}
use Rattle.expr_soundness.specs.ada_tree.specs.declared.expression.Identifier.{Identifier}
use Rattle.expr_soundness.specs.ada_tree.specs.declared.declaration.Formal.{Formal}
use Rattle.expr_soundness.specs.ada_tree.specs.ExpressionTree.{ExprTree}
use Rattle.expr_soundness.specs.ada_tree.specs.StatementTree.{SubprogramTree}
use Rattle.expr_soundness.specs.ada_tree.specs.ProgramTree.{BodyTree}
use Rattle.types.specs.declared.entity.Subtype.{Subtype}
use Rattle.types.specs.Entities.{Entity, Doubtful}
use Rattle.types.specs.Scopes.{Scope, form_at, with_name}
use Rattle.types.specs.Shapes.{has_shape, shape_of}
use Rattle.types.specs.Values.{Value}
use Rattle.types.specs.Places.{Function, Object, Place}
use Rattle.types.specs.Evaluating.{bound, entered}
use Rattle.expr_soundness.specs.expr_rules.proofs.TypedLaw.{back_empty, front_empty}
use Rattle.expr_soundness.specs.type_rules.specs.SubtypeNames.{end_rule, named_entity, subtype_of}
use Rattle.expr_soundness.specs.type_rules.specs.ProfileRules.{formals_faults, profile_faults, result_faults, subprogram_scope}
use Rattle.declaration_rules.specs.BodyNames.{formal_role, formals_scope}
use Rattle.step_soundness.specs.stmt_rules.specs.declared.around.BodyKind.TheVariants as kind
use Rattle.unit_rules.specs.BodyRules.{body_faults, function_body_faults, head_faults, kind_of, own_name_faults, subprogram_body_faults, type_number}
use Rattle.expr_soundness.specs.SoundScopes.{IsKnown}
use Rattle.expr_soundness.specs.Agreeing.{Agrees}
use Rattle.expr_soundness.specs.Answers.{ReturnsSoundly, are_actuals}
use Rattle.expr_soundness.specs.Laws.{ScopesAreSound}
use Rattle.expr_soundness.proofs.Goods.{not_empty}
use Rattle.expr_soundness.proofs.Parts.{same_values}
use Rattle.expr_soundness.specs.meaning.specs.Programs.{Parameter, Program, formal, parameter, returned, subtype_named}
use Rattle.expr_soundness.specs.meaning.specs.Works.{Store}
use Rattle.step_soundness.specs.Holding.{inside, seen}
use Rattle.step_soundness.specs.Laws.{Premises}
use Rattle.program_soundness.proofs.WiderScopes.{none_unseen, stands, with_all}
use Rattle.program_soundness.proofs.BodyProfiles.{named_is, subtype_kept}
use Rattle.program_soundness.proofs.Whole.{legal_subtype}
use Rattle.program_soundness.proofs.Callables.{Bodied, function_by, subprogram_body}
use Rattle.program_soundness.proofs.Same.{known_same, types_with_all}
use Rattle.program_soundness.proofs.Formals.{AreNew, all_named, all_types, formal_object, named_formal, new_behind}
use Rattle.program_soundness.proofs.Beginning.{keeps_same, keeps_with}
use Rattle.program_soundness.proofs.FormalTrees.{new_formals, text_formals, unseen_first, unseen_own}
use Rattle.program_soundness.proofs.Moved.{KeepsTypes}
use Rattle.program_soundness.proofs.Returned.{bare_body, both_true, value_legal}

-- ---- the formals, each with its value: the newest object is that of the last one

module _ (program : Program) (laws : Premises program) (m : Store) (owner : Option ℕ) (p : Place) where
  abbrev place_with : List Object → Place
  place_with locals = inside program m (record { within = owner; locals = locals }) p

  value_here : (s : Scope) (t : Subtype) (v : Value) (locals : List Object) → Agrees s (place_with locals) → IsKnown s t
      → has_shape (shape_of program.scope t) v ≡ true
      → has_shape (shape_of s t) v ≡ true
  value_here s t v locals agrees there h =
      let form = not_empty (form_at s t.type_number) there in
      sym (same_values program.scope s t v (agrees.shapes t.type_number form.0 form.1)) ∙ h

  pub formals_agree : (s : Scope) (fs : List Formal) (vs : List Value) (locals : List Object) → AreNew s (map (parameter program.scope) fs)
      → are_actuals program.scope (map (formal program.scope) fs) vs ≡ true → Agrees s (place_with locals)
      → Agrees (with_all s (all_named (map (parameter program.scope) fs))) (place_with (bound (map (formal program.scope) fs) vs locals))
  formals_agree s [] [] locals new are agrees = agrees
  formals_agree s [] (v ∷ vs) locals new are agrees = cc
  formals_agree s (f ∷ fs) [] locals new are agrees = cc
  formals_agree s (f ∷ fs) (v ∷ vs) locals new are agrees =
      let t : Subtype = subtype_named program.scope f.subtype in
      let e : Entity = (named_formal (parameter program.scope f)).entity in
      let x : Object = record { name = f.name.name; subtype = t; value = v } in
      let two = both_true (has_shape (shape_of program.scope t) v) (are_actuals program.scope (map (formal program.scope) fs) vs) are in
      formals_agree (with_name s f.name.name e) fs vs (x ∷ locals)
      (new_behind s (parameter program.scope f) (map (parameter program.scope) fs) new.1 new.3) two.1
      (laws.kept.declared s (place_with locals) f.name.name (formal_role f.mode) t v agrees (none_unseen s f.name.name new.0) (formal_object s f.mode t new.2)
      (value_here s t v locals agrees new.2 two.0))

-- ---- a function that breaks no rule where these names are visible

module _ (program : Program) (laws : Premises program) (scopes : ScopesAreSound) (m : Store) (owner : Option ℕ) (front : Scope)
    (doubt : (name : List ℕ) → stands front name ≡ Some Doubtful → ⊥) (same : KeepsTypes front program.scope)
    (d : SubprogramTree) (b : BodyTree) (legal : subprogram_body_faults front d b ≡ []) where
  abbrev behind : Scope
  behind = subprogram_scope front d

  abbrev parameters : List Parameter
  parameters = map (parameter program.scope) d.formals

  -- with the formals
  abbrev inside_ : Scope
  inside_ = with_all behind (all_named parameters)

  rules_ : head_faults front d b ++ body_faults (formals_scope behind d.formals) (kind_of front d.result) b ≡ []
  rules_ = front_empty _ (end_rule d.name b.end_name) legal

  head : head_faults front d b ≡ []
  head = front_empty (head_faults front d b) _ rules_

  profile_legal : profile_faults front d ≡ []
  profile_legal = front_empty (profile_faults front d) _ (front_empty _ _ (front_empty _ _ head))

  formals_legal : formals_faults front [] d.formals ≡ []
  formals_legal = front_empty _ _ (front_empty _ _ profile_legal)

  result_legal : result_faults front d.result ≡ []
  result_legal = back_empty (formals_faults front [] d.formals) _ (front_empty _ _ profile_legal)

  own_legal : own_name_faults d.name d.formals ≡ []
  own_legal = back_empty (profile_faults front d) _ (front_empty _ _ (front_empty _ _ head))

  module _ (r : Identifier) (some : d.result ≡ Some r) (value : ExprTree) (is : returned b.statements ≡ Some value) where
    known : (t : Subtype) × (subtype_of front r ≡ Some t)
    known = legal_subtype r.place (named_entity front r) (subst (λ o. result_faults front o ≡ []) some result_legal) (doubt r.name)

    named : subtype_named program.scope r ≡ known.0
    named = named_is program.scope r known.0 (same r known.0 known.1)

    kind_is : kind_of front d.result ≡ kind.Function (Some (subtype_named program.scope r).type_number)
    kind_is = ap (kind_of front) some ∙ ap (λ o. kind.Function (type_number o)) known.1 ∙ ap (λ t. kind.Function (Some t.type_number)) (sym named)

    body_legal : body_faults (formals_scope behind d.formals) (kind.Function (Some (subtype_named program.scope r).type_number)) b ≡ []
    body_legal = subst (λ k. body_faults (formals_scope behind d.formals) k b ≡ []) kind_is (back_empty (head_faults front d b) _ rules_)

    bare : b.declarations ≡ []
    bare = bare_body d b (ap is_some some) (back_empty _ (function_body_faults d b) head)

    module _ (p : Place) (agrees : Agrees behind (inside program m (record { within = owner; locals = [] }) p)) where
      formals_new : AreNew behind parameters
      formals_new =
          new_formals scopes program.scope front behind agrees.sound (keeps_with front d.name.name _) doubt same [] d.formals formals_legal
          (unseen_own front d.name _ d.formals own_legal (unseen_first front [] d.formals formals_legal))

      text : formals_scope behind d.formals ≡ inside_
      text =
          text_formals scopes program.scope front behind agrees.sound (keeps_with front d.name.name _) doubt same [] d.formals behind (keeps_same behind)
          formals_legal

      known_behind : IsKnown behind known.0
      known_behind = scopes.subtype behind r known.0 agrees.sound (subtype_kept front behind (keeps_with front d.name.name _) r known.0 known.1)

      known_inside : IsKnown (formals_scope behind d.formals) (subtype_named program.scope r)
      known_inside =
          let there = known_same behind inside_ (types_with_all behind (all_named parameters) (all_types parameters)) known.0 known_behind in
          subst (IsKnown (formals_scope behind d.formals)) (sym named) (subst (λ u. IsKnown u known.0) (sym text) there)

      abbrev place_of : List Value → Place
      place_of vs = inside program m (record { within = owner; locals = bound (map (formal program.scope) d.formals) vs [] }) p

      agrees_inside : (vs : List Value) → are_actuals program.scope (map (formal program.scope) d.formals) vs ≡ true
          → Agrees (formals_scope behind d.formals) (place_of vs)
      agrees_inside vs are = subst (λ u. Agrees u (place_of vs)) (sym text) (formals_agree program laws m owner p behind d.formals vs [] formals_new are agrees)

      abbrev called : Function
      called = function_by program.scope (subprogram_body owner d b) r value

      pub body_sound : (vs : List Value) → are_actuals program.scope called.formals vs ≡ true → ReturnsSoundly (place_of vs) called
      body_sound vs are =
          record {
            scope = formals_scope behind d.formals;
            agrees = agrees_inside vs are;
            known = known_inside;
            legal = value_legal (formals_scope behind d.formals) (subtype_named program.scope r).type_number b value body_legal bare is;
          }

-- ---- as calls find it

-- the function of this body, if it is one, is sound wherever it is called
abbrev pub IsSoundFunction : Program → Store → Bodied → Type 0
IsSoundFunction program m u = (r : Identifier) → u.result ≡ Some r → (value : ExprTree) → returned u.body.statements ≡ Some value
    → (p : Place) (vs : List Value) (left : ℕ)
    → are_actuals program.scope (function_by program.scope u r value).formals vs ≡ true
    → ReturnsSoundly (entered (seen program m p) (function_by program.scope u r value) vs left) (function_by program.scope u r value)

pub function_sound : (program : Program) → Premises program → ScopesAreSound → (m : Store) (owner : Option ℕ) (front : Scope)
    → ((name : List ℕ) → stands front name ≡ Some Doubtful → ⊥)
    → KeepsTypes front program.scope
    → (d : SubprogramTree) (b : BodyTree)
    → subprogram_body_faults front d b ≡ []
    → ((p : Place) → Agrees (subprogram_scope front d) (inside program m (record { within = owner; locals = [] }) p))
    → IsSoundFunction program m (subprogram_body owner d b)
function_sound program laws scopes m owner front doubt same d b legal agrees r some value is p vs left are =
    body_sound program laws scopes m owner front doubt same d b legal r some value is (record p { frames_left = left })
    (agrees (record p { frames_left = left })) vs are
