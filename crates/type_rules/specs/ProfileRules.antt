-- Formal parameters and results (RM 6.1; docs/LANGUAGE.md, "Rules of declarations").
use Rattle.std.specs.Prelude.{ℕ, Bool, true, false, not, ◌||◌, List, [], ◌∷◌, ◌++◌, length, Option, Some, None, nat_le, bytes_eq}
use Rattle.std.specs.List.{list_any}
use Rattle.base.specs.declared.faults.TheConstants.{DECLARED_TWICE, WRONG_FUNCTION, LIMIT_PASSED}
use Rattle.base.specs.declared.limits.TheConstants.{FORMALS}
use Rattle.ada_tree.specs.declared.expression.Identifier.{Identifier}
use Rattle.ada_tree.specs.declared.declaration.Formal.{Formal}
use Rattle.ada_tree.specs.declared.declaration.Mode.{Mode}
use Rattle.ada_tree.specs.declared.declaration.Mode.TheVariants as mode
use Rattle.ada_tree.specs.StatementTree.{SubprogramTree}
use Rattle.types.specs.declared.entity.FormalParameter.{FormalParameter}
use Rattle.types.specs.declared.entity.Subtype.{Subtype}
use Rattle.types.specs.Entities.{Profile, Entity, Subprogram, Doubtful}
use Rattle.types.specs.Scopes.{Scope, is_visible, with_name}
use Rattle.expr_rules.specs.Faults.{Faults, rule}
use Rattle.type_rules.specs.SubtypeNames.{declared_twice, is_composite, subtype_of, subtype_faults}

abbrev pub is_formal_in : List Formal → List ℕ → Bool
is_formal_in fs name = list_any (λ f. bytes_eq f.name.name name) fs

-- 11: like a visible name, or like a formal before it; 23: there are as many as there may be before it
abbrev pub formal_faults : Scope → (before : List Formal) → Formal → Faults
formal_faults s before f =
    rule DECLARED_TWICE f.name.place (is_visible s f.name.name || is_formal_in before f.name.name)
    ++ rule LIMIT_PASSED f.name.place (nat_le FORMALS (length before))
    ++ subtype_faults s f.subtype

abbrev pub formals_faults : Scope → (before : List Formal) → List Formal → Faults
formals_faults s before [] = []
formals_faults s before (f ∷ fs) = formal_faults s before f ++ formals_faults s (before ++ f ∷ []) fs

abbrev pub result_faults : Scope → Option Identifier → Faults
result_faults s (Some name) = subtype_faults s name
result_faults s None = []

-- 21, at the function's name: a formal that is not `in`, a composite formal or result
abbrev pub is_in : Mode → Bool
is_in mode.In = true
is_in m = false

abbrev pub is_wrong_formal : Scope → Formal → Bool
is_wrong_formal s f = not (is_in f.mode) || is_composite s (subtype_of s f.subtype)

abbrev pub has_wrong_formal : Scope → List Formal → Bool
has_wrong_formal s formals = list_any (is_wrong_formal s) formals

abbrev pub function_faults : Scope → (name : Identifier) → List Formal → Option Identifier → Faults
function_faults s name formals (Some given) = rule WRONG_FUNCTION name.place (is_composite s (subtype_of s given) || has_wrong_formal s formals)
function_faults s name formals None = []

-- its formals and its result
abbrev pub profile_faults : Scope → SubprogramTree → Faults
profile_faults s d = formals_faults s [] d.formals ++ result_faults s d.result ++ function_faults s d.name d.formals d.result

abbrev pub subprogram_faults : Scope → SubprogramTree → Faults
subprogram_faults s d = profile_faults s d ++ declared_twice s d.name

-- ---- what a call sees of it

abbrev pub formal_and : Formal → Option Subtype → Option (List FormalParameter) → Option (List FormalParameter)
formal_and f (Some t) (Some rest) = Some (record { mode = f.mode; subtype = t } ∷ rest)
formal_and f t rest = None

-- the formals, where the subtype of each is known
abbrev pub formal_parameters : Scope → List Formal → Option (List FormalParameter)
formal_parameters s [] = Some []
formal_parameters s (f ∷ fs) = formal_and f (subtype_of s f.subtype) (formal_parameters s fs)

abbrev pub given_profile : List FormalParameter → Option Subtype → Option Profile
given_profile formals (Some t) = Some (record { formals = formals; result = Some t })
given_profile formals None = None

abbrev pub profile_with : Scope → Option (List FormalParameter) → Option Identifier → Option Profile
profile_with s (Some formals) None = Some (record { formals = formals; result = None })
profile_with s (Some formals) (Some name) = given_profile formals (subtype_of s name)
profile_with s None given = None

abbrev pub profile_entity : Option Profile → Entity
profile_entity (Some p) = Subprogram p
profile_entity None = Doubtful

-- the name is visible from the end of the declaration
abbrev pub subprogram_scope : Scope → SubprogramTree → Scope
subprogram_scope s d = with_name s d.name.name (profile_entity (profile_with s (formal_parameters s d.formals) d.result))
