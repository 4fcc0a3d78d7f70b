-- The choices of exception handlers (RM 11.2; docs/LANGUAGE.md, "Rules of statements"): 20.
use Rattle.std.specs.Prelude.{ℕ, Bool, true, false, not, List, [], ◌∷◌, ◌++◌, Option, Some, None, bytes_eq}
use Rattle.std.specs.List.{list_any}
use Rattle.base.specs.declared.faults.TheConstants.{NAME_NOT_VISIBLE, WRONG_HANDLER}
use Rattle.ada_tree.specs.declared.statement.ExceptionChoice.{ExceptionChoice}
use Rattle.ada_tree.specs.declared.statement.ExceptionChoice.TheVariants.{Exception, Others}
use Rattle.ada_tree.specs.StatementTree.{HandlerTrees, NoHandlers}
use Rattle.types.specs.Entities.{Entity, Doubtful}
use Rattle.types.specs.Entities as entity
use Rattle.types.specs.Scopes.{Scope}
use Rattle.expr_rules.specs.Faults.{Faults, rule}
use Rattle.type_rules.specs.SubtypeNames.{named_entity}

-- the names of the choices before one, in all handlers of the sequence

abbrev pub is_named : (before : List (List ℕ)) → List ℕ → Bool
is_named before name = list_any (bytes_eq name) before

abbrev pub named_with : (before : List (List ℕ)) → ExceptionChoice → List (List ℕ)
named_with before (Exception name) = before ++ name.name ∷ []
named_with before (Others place) = before

abbrev pub named_after : (before : List (List ℕ)) → List ExceptionChoice → List (List ℕ)
named_after before [] = before
named_after before (c ∷ cs) = named_after (named_with before c) cs

-- 10, at the name: not visible; 20: visible and no exception, or one that was named before; nothing is said of what is doubtful
abbrev pub exception_rule : (place : ℕ) → (is_repeated : Bool) → Option Entity → Faults
exception_rule place is_repeated None = rule NAME_NOT_VISIBLE place true
exception_rule place is_repeated (Some entity.Exception) = rule WRONG_HANDLER place is_repeated
exception_rule place is_repeated (Some Doubtful) = []
exception_rule place is_repeated (Some e) = rule WRONG_HANDLER place true

-- 20, at `others`: choices beside it, or handlers behind it
abbrev pub exception_choice_faults : Scope → (before : List (List ℕ)) → (is_single_last : Bool) → ExceptionChoice → Faults
exception_choice_faults s before is_single_last (Exception name) = exception_rule name.place (is_named before name.name) (named_entity s name)
exception_choice_faults s before is_single_last (Others place) = rule WRONG_HANDLER place (not is_single_last)

abbrev pub exception_choices_faults : Scope → (before : List (List ℕ)) → (is_single_last : Bool) → List ExceptionChoice → Faults
exception_choices_faults s before is_single_last [] = []
exception_choices_faults s before is_single_last (c ∷ cs) =
    exception_choice_faults s before is_single_last c ++ exception_choices_faults s (named_with before c) is_single_last cs

abbrev pub is_single : List ExceptionChoice → Bool
is_single (c ∷ []) = true
is_single cs = false

abbrev pub no_more : HandlerTrees → Bool
no_more NoHandlers = true
no_more all = false
