-- Profiles of subprograms: the same in scopes with more names, and for declarations that conform (RM 6.3.1).
use Rattle.std.proofs.Common.{◌≡◌, ℕ, List, [], ◌∷◌, map, Bool, true, false, ◌&&◌, Option, Some, None, refl, sym, ap, ◌∙◌}
use Rattle.expr_soundness.specs.ada_tree.specs.declared.expression.Identifier.{Identifier}
use Rattle.expr_soundness.specs.ada_tree.specs.declared.declaration.Formal.{Formal}
use Rattle.expr_soundness.specs.ada_tree.specs.declared.declaration.Mode.{Mode}
use Rattle.expr_soundness.specs.ada_tree.specs.declared.declaration.Mode.TheVariants as mode
use Rattle.types.specs.declared.entity.Subtype.{Subtype}
use Rattle.types.specs.declared.entity.FormalParameter.{FormalParameter}
use Rattle.types.specs.Entities.{Entity, Profile}
use Rattle.types.specs.Scopes.{Scope}
use Rattle.types.specs.Evaluating.{formal_subtype}
use Rattle.expr_soundness.specs.type_rules.specs.SubtypeNames.{named_entity, subtype_in, subtype_of}
use Rattle.expr_soundness.specs.type_rules.specs.ProfileRules.{formal_and, formal_parameters, given_profile, profile_with}
use Rattle.conformance.specs.MatchingRules.{same_formal, same_formals, same_mode, same_name, same_result}
use Rattle.expr_soundness.specs.Agreeing.{parameter_subtype}
use Rattle.expr_soundness.specs.meaning.specs.Programs.{formal, parameter, subtype_named, subtype_or_integer}
use Rattle.step_soundness.specs.Fitting.{formal_of}
use Rattle.program_soundness.proofs.Listing.{same_some}
use Rattle.program_soundness.proofs.WiderScopes.{same_bytes, stands}

-- what is visible in the one scope is in the other
abbrev pub Keeps : Scope → Scope → Type 0
Keeps s u = (name : List ℕ) (e : Entity) → stands s name ≡ Some e → stands u name ≡ Some e

-- ---- names of subtypes

subtype_entity : (o : Option Entity) (t : Subtype) → subtype_in o ≡ Some t → (e : Entity) × (o ≡ Some e) × (subtype_in (Some e) ≡ Some t)
subtype_entity (Some e) t h = (e, refl, h)
subtype_entity None t h = cc

pub subtype_kept : (s u : Scope) → Keeps s u → (name : Identifier) (t : Subtype) → subtype_of s name ≡ Some t → subtype_of u name ≡ Some t
subtype_kept s u keeps name t h =
    let e = subtype_entity (named_entity s name) t h in ap subtype_in (keeps name.name e.0 e.1) ∙ e.2

pub named_is : (s : Scope) (name : Identifier) (t : Subtype) → subtype_of s name ≡ Some t → subtype_named s name ≡ t
named_is s name t h = ap subtype_or_integer h

-- ---- formals

pub record HasFormals (s : Scope) (f : Formal) (fs : List Formal) (ps : List FormalParameter) : Type 0 where
  pub subtype : Subtype
  pub rest : List FormalParameter
  pub named : subtype_of s f.subtype ≡ Some subtype
  pub further : formal_parameters s fs ≡ Some rest
  pub is : ps ≡ record { mode = f.mode; subtype = subtype } ∷ rest

pub first_formal : (s : Scope) (f : Formal) (fs : List Formal) (ps : List FormalParameter) → formal_parameters s (f ∷ fs) ≡ Some ps → HasFormals s f fs ps
first_formal s f fs ps h = by_parts (subtype_of s f.subtype) (formal_parameters s fs) refl refl h
  where
    by_parts : (o : Option Subtype) (r : Option (List FormalParameter)) → subtype_of s f.subtype ≡ o → formal_parameters s fs ≡ r → formal_and f o r ≡ Some ps
        → HasFormals s f fs ps
    by_parts (Some t) (Some rest) i k e =
        record { subtype = t; rest = rest; named = i; further = k; is = sym (same_some (record { mode = f.mode; subtype = t } ∷ rest) ps e) }
    by_parts (Some t) None i k e = cc
    by_parts None r i k e = cc

pub formals_kept : (s u : Scope) → Keeps s u → (fs : List Formal) (ps : List FormalParameter) → formal_parameters s fs ≡ Some ps
    → formal_parameters u fs ≡ Some ps
formals_kept s u keeps [] ps h = h
formals_kept s u keeps (f ∷ fs) ps h =
    let x = first_formal s f fs ps h in
    (λ j. formal_and f (subtype_kept s u keeps f.subtype x.subtype x.named j) (formals_kept s u keeps fs x.rest x.further j)) ∙ ap Some (sym x.is)

pub parameters_are : (s : Scope) (fs : List Formal) (ps : List FormalParameter) → formal_parameters s fs ≡ Some ps → map formal_of (map (parameter s) fs) ≡ ps
parameters_are s [] ps h = same_some [] ps h
parameters_are s (f ∷ fs) ps h =
    let x = first_formal s f fs ps h in
    let one = named_is s f.subtype x.subtype x.named in
    let rest = parameters_are s fs x.rest x.further in
    (λ j. record { mode = f.mode; subtype = one j } ∷ rest j) ∙ sym x.is

pub subtypes_are : (s : Scope) (fs : List Formal) (ps : List FormalParameter) → formal_parameters s fs ≡ Some ps
    → map formal_subtype (map (formal s) fs) ≡ map parameter_subtype ps
subtypes_are s [] ps h = ap (map parameter_subtype) (same_some [] ps h)
subtypes_are s (f ∷ fs) ps h =
    let x = first_formal s f fs ps h in
    let one = named_is s f.subtype x.subtype x.named in
    let rest = subtypes_are s fs x.rest x.further in
    (λ j. one j ∷ rest j) ∙ ap (map parameter_subtype) (sym x.is)

-- ---- profiles

pub profile_formals : (s : Scope) (o : Option (List FormalParameter)) (r : Option Identifier) (p : Profile) → profile_with s o r ≡ Some p → o ≡ Some p.formals
profile_formals s (Some formals) None p h = ap (λ q. Some q.formals) (same_some (record { formals = formals; result = None }) p h)
profile_formals s (Some formals) (Some name) p h = by_result (subtype_of s name) h
  where
    by_result : (t : Option Subtype) → given_profile formals t ≡ Some p → Some formals ≡ Some p.formals
    by_result (Some t) k = ap (λ q. Some q.formals) (same_some (record { formals = formals; result = Some t }) p k)
    by_result None k = cc
profile_formals s None r p h = cc

pub profile_none : (s : Scope) (o : Option (List FormalParameter)) (p : Profile) → profile_with s o None ≡ Some p → p.result ≡ None
profile_none s (Some formals) p h = sym (ap (λ q. q.result) (same_some (record { formals = formals; result = None }) p h))
profile_none s None p h = cc

pub profile_some : (s : Scope) (o : Option (List FormalParameter)) (name : Identifier) (p : Profile) → profile_with s o (Some name) ≡ Some p
    → (t : Subtype) × (subtype_of s name ≡ Some t) × (p.result ≡ Some t)
profile_some s (Some formals) name p h = by_result (subtype_of s name) refl h
  where
    by_result : (o : Option Subtype) → subtype_of s name ≡ o → given_profile formals o ≡ Some p
        → (t : Subtype) × (subtype_of s name ≡ Some t) × (p.result ≡ Some t)
    by_result (Some t) i k = (t, i, sym (ap (λ q. q.result) (same_some (record { formals = formals; result = Some t }) p k)))
    by_result None i k = cc
profile_some s None name p h = cc

pub profile_kept : (s u : Scope) → Keeps s u → (fs : List Formal) (r : Option Identifier) (p : Profile) → profile_with s (formal_parameters s fs) r ≡ Some p
    → profile_with u (formal_parameters u fs) r ≡ Some p
profile_kept s u keeps fs None p h =
    let formals = profile_formals s (formal_parameters s fs) None p h in
    let result = profile_none s (formal_parameters s fs) p h in
    ap (λ o. profile_with u o None) (formals_kept s u keeps fs p.formals formals) ∙ (λ j. Some (record { formals = p.formals; result = sym result j }))
profile_kept s u keeps fs (Some name) p h =
    let formals = profile_formals s (formal_parameters s fs) (Some name) p h in
    let result = profile_some s (formal_parameters s fs) name p h in
    ap (λ o. profile_with u o (Some name)) (formals_kept s u keeps fs p.formals formals)
    ∙ ap (given_profile p.formals) (subtype_kept s u keeps name result.0 result.1)
    ∙ (λ j. Some (record { formals = p.formals; result = sym result.2 j }))

-- ---- conforming declarations

both_true : (a b : Bool) → (a && b) ≡ true → (a ≡ true) × (b ≡ true)
both_true true b h = (refl, h)
both_true false b h = cc

mode_is : (a b : Mode) → same_mode a b ≡ true → a ≡ b
mode_is mode.In mode.In h = refl
mode_is mode.Out mode.Out h = refl
mode_is mode.InOut mode.InOut h = refl
mode_is mode.In mode.Out h = cc
mode_is mode.In mode.InOut h = cc
mode_is mode.Out mode.In h = cc
mode_is mode.Out mode.InOut h = cc
mode_is mode.InOut mode.In h = cc
mode_is mode.InOut mode.Out h = cc

abbrev with_mode : Mode → Option Subtype → Option (List FormalParameter) → Option (List FormalParameter)
with_mode m (Some t) (Some rest) = Some (record { mode = m; subtype = t } ∷ rest)
with_mode m t rest = None

and_mode : (f : Formal) (t : Option Subtype) (rest : Option (List FormalParameter)) → formal_and f t rest ≡ with_mode f.mode t rest
and_mode f (Some t) (Some rest) = refl
and_mode f (Some t) None = refl
and_mode f None rest = refl

pub formals_same : (s : Scope) (fs gs : List Formal) → same_formals fs gs ≡ true → formal_parameters s fs ≡ formal_parameters s gs
formals_same s [] [] h = refl
formals_same s [] (g ∷ gs) h = cc
formals_same s (f ∷ fs) [] h = cc
formals_same s (f ∷ fs) (g ∷ gs) h =
    let two = both_true (same_formal f g) (same_formals fs gs) h in
    let rest = both_true (same_name f.name g.name) (same_mode f.mode g.mode && same_name f.subtype g.subtype) two.0 in
    let last = both_true (same_mode f.mode g.mode) (same_name f.subtype g.subtype) rest.1 in
    let modes = mode_is f.mode g.mode last.0 in
    let named = ap (λ n. subtype_in (stands s n)) (same_bytes f.subtype.name g.subtype.name last.1) in
    let further = formals_same s fs gs two.1 in
    and_mode f (subtype_of s f.subtype) (formal_parameters s fs) ∙ (λ j. with_mode (modes j) (named j) (further j))
    ∙ sym (and_mode g (subtype_of s g.subtype) (formal_parameters s gs))

pub profile_same : (s : Scope) (fs gs : List Formal) (r q : Option Identifier) → same_formals fs gs ≡ true → same_result r q ≡ true
    → profile_with s (formal_parameters s fs) r ≡ profile_with s (formal_parameters s gs) q
profile_same s fs gs None None h k = ap (λ o. profile_with s o None) (formals_same s fs gs h)
profile_same s fs gs (Some a) (Some b) h k =
    ap (λ o. profile_with s o (Some a)) (formals_same s fs gs h) ∙ by_formals (formal_parameters s gs)
  where
    by_formals : (o : Option (List FormalParameter)) → profile_with s o (Some a) ≡ profile_with s o (Some b)
    by_formals (Some formals) = ap (λ n. given_profile formals (subtype_in (stands s n))) (same_bytes a.name b.name k)
    by_formals None = refl
profile_same s fs gs None (Some b) h k = cc
profile_same s fs gs (Some a) None h k = cc
