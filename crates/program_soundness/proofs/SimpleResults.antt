-- No function of a legal program returns a composite value (docs/LANGUAGE.md): the type of its result has none.
use Rattle.std.proofs.Common.{◌≡◌, List, [], ◌∷◌, ◌++◌, true, false, Option, Some, None, refl, sym, ap, ◌∙◌, subst}
use Rattle.std.specs.Prelude.{ℕ, is_some}
use Rattle.std.proofs.lemmas.Bool.{or_parts}
use Rattle.expr_soundness.specs.base.specs.declared.faults.TheConstants.{WRONG_FUNCTION}
use Rattle.expr_soundness.specs.ada_tree.specs.declared.expression.Identifier.{Identifier}
use Rattle.expr_soundness.specs.ada_tree.specs.StatementTree.{SubprogramTree}
use Rattle.expr_soundness.specs.ada_tree.specs.ProgramTree.{BodyTree}
use Rattle.types.specs.declared.entity.Subtype.{Subtype}
use Rattle.types.specs.Entities.{TypeForm, Integers, Booleans, Times, Spans, Arrays, Records, Doubtful}
use Rattle.types.specs.Scopes.{Scope, form_at}
use Rattle.types.specs.Places.{Place}
use Rattle.expr_soundness.specs.expr_rules.proofs.TypedLaw.{back_empty, front_empty, unbroken}
use Rattle.expr_soundness.specs.type_rules.specs.SubtypeNames.{end_rule, is_composite, is_composite_form, named_entity, subtype_of}
use Rattle.expr_soundness.specs.type_rules.specs.ProfileRules.{formal_parameters, formals_faults, function_faults, has_wrong_formal, profile_entity, profile_faults, profile_with, result_faults, subprogram_scope}
use Rattle.unit_rules.specs.BodyRules.{head_faults, subprogram_body_faults}
use Rattle.expr_soundness.specs.Agreeing.{Agrees}
use Rattle.expr_soundness.specs.CompositesLaw.{is_simple}
use Rattle.expr_soundness.specs.Laws.{ScopesAreSound}
use Rattle.expr_soundness.specs.meaning.specs.Programs.{Program, subtype_named}
use Rattle.program_soundness.proofs.WiderScopes.{stands}
use Rattle.program_soundness.proofs.BodyProfiles.{named_is, subtype_kept}
use Rattle.program_soundness.proofs.Whole.{legal_subtype}
use Rattle.program_soundness.proofs.Same.{types_with_all}
use Rattle.program_soundness.proofs.Beginning.{keeps_with}
use Rattle.program_soundness.proofs.Moved.{KeepsTypes}
use Rattle.program_soundness.proofs.ObjectFits.{profile_no_type}

abbrev pub IsSimpleResult : Program → Identifier → Type 0
IsSimpleResult program r = is_simple (form_at program.scope (subtype_named program.scope r).type_number) ≡ true

no_composite : (form : TypeForm) → is_composite_form (Some form) ≡ false → is_simple (Some form) ≡ true
no_composite Integers h = refl
no_composite Booleans h = refl
no_composite Times h = refl
no_composite Spans h = refl
no_composite (Arrays index size element) h = cc
no_composite (Records cs) h = cc

-- the body of a function that breaks no rule where these names are visible, at a place that agrees with them and the function's own name
pub result_simple : (program : Program) → ScopesAreSound → (front : Scope) → ((name : List ℕ) → stands front name ≡ Some Doubtful → ⊥)
    → KeepsTypes front program.scope
    → (d : SubprogramTree) (b : BodyTree) → subprogram_body_faults front d b ≡ []
    → (p : Place) → p.scope ≡ program.scope → Agrees (subprogram_scope front d) p
    → (r : Identifier) → d.result ≡ Some r → IsSimpleResult program r
result_simple program scopes front doubt same d b legal p here agrees r some = by_form (form_at behind known.0.type_number) refl
  where
    behind : Scope
    behind = subprogram_scope front d

    profile_legal : profile_faults front d ≡ []
    profile_legal =
        front_empty (profile_faults front d) _
        (front_empty _ _ (front_empty _ _ (front_empty (head_faults front d b) _ (front_empty _ (end_rule d.name b.end_name) legal))))

    result_legal : result_faults front d.result ≡ []
    result_legal = back_empty (formals_faults front [] d.formals) _ (front_empty _ (function_faults front d.name d.formals d.result) profile_legal)

    known : (t : Subtype) × (subtype_of front r ≡ Some t)
    known = legal_subtype r.place (named_entity front r) (subst (λ o. result_faults front o ≡ []) some result_legal) (doubt r.name)

    named : subtype_named program.scope r ≡ known.0
    named = named_is program.scope r known.0 (same r known.0 known.1)

    function_legal : function_faults front d.name d.formals (Some r) ≡ []
    function_legal =
        subst (λ o. function_faults front d.name d.formals o ≡ []) some
        (back_empty (formals_faults front [] d.formals ++ result_faults front d.result) (function_faults front d.name d.formals d.result) profile_legal)

    plain : is_composite_form (form_at front known.0.type_number) ≡ false
    plain =
        ap (is_composite front) (sym known.1)
        ∙ (or_parts (is_composite front (subtype_of front r)) (has_wrong_formal front d.formals) (unbroken WRONG_FUNCTION d.name.place _ function_legal)).0

    known_behind : is_some (form_at behind known.0.type_number) ≡ true
    known_behind = scopes.subtype behind r known.0 agrees.sound (subtype_kept front behind (keeps_with front d.name.name _) r known.0 known.1)

    same_form : form_at (subprogram_scope front d) known.0.type_number ≡ form_at front known.0.type_number
    same_form =
        (types_with_all front (record { name = d.name.name; entity = profile_entity (profile_with front (formal_parameters front d.formals) d.result) } ∷ [])
        (profile_no_type (profile_with front (formal_parameters front d.formals) d.result), tt)).forms known.0.type_number

    by_form : (o : Option TypeForm) → form_at (subprogram_scope front d) known.0.type_number ≡ o → IsSimpleResult program r
    by_form (Some form) e =
        let there : form_at program.scope known.0.type_number ≡ Some form = ap (λ u. form_at u known.0.type_number) (sym here)
        ∙ agrees.forms known.0.type_number form e in
        subst (λ (t : Subtype). is_simple (form_at program.scope t.type_number) ≡ true) (sym named)
        (ap is_simple there ∙ no_composite form (ap is_composite_form (sym e ∙ same_form) ∙ plain))
    by_form None e = let never = sym known_behind ∙ ap is_some e in cc
