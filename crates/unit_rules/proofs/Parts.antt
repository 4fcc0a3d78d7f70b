-- Bodies by their parts.
use Rattle.std.proofs.Common.{◌≡◌, ◌≤◌, ◌++◌, List, [], ◌∷◌, length, false, refl, sym, ap, ◌∙◌, arith}
use Rattle.std.proofs.lemmas.Grind.{common_steps}
use Rattle.ada_tree.specs.declared.statement.Handler.{Handler}
use Rattle.ada_tree.specs.declared.statement.Stmt.{Stmt}
use Rattle.ada_tree.specs.StatementTree.{SubprogramTree, handler_trees, stmt_trees}
use Rattle.ada_tree.specs.ProgramTree.{BodyTree}
use Rattle.types.specs.Scopes.{Scope}
use Rattle.expr_rules.specs.Findings.{Findings, noted}
use Rattle.expr_rules.specs.Walks.{noted_append}
use Rattle.declaration_rules.specs.BodyNames.{formals_scope}
use Rattle.type_rules.specs.ProfileRules.{subprogram_scope}
use Rattle.type_rules.specs.SubtypeNames.{end_rule}
use Rattle.stmt_rules.specs.declared.around.BodyKind.{BodyKind}
use Rattle.unit_rules.specs.BodyRules.{body_faults, has_no_handlers, head_faults, is_single_return, kind_of, subprogram_body_faults}

pub several_statements : (xs : List Stmt) → 2 ≤ length xs → false ≡ is_single_return (stmt_trees xs)
several_statements [] h = absurd (grind (arith, h))
several_statements (x ∷ []) h = absurd (grind (arith, common_steps, h))
several_statements (x ∷ y ∷ rest) h = refl

pub some_handlers : (xs : List Handler) → 1 ≤ length xs → false ≡ has_no_handlers (handler_trees xs)
some_handlers [] h = absurd (grind (arith, h))
some_handlers (x ∷ rest) h = refl

pub subprogram_found : (s : Scope) (d : SubprogramTree) (b : BodyTree) (s1 s2 : Scope) (k : BodyKind) (f fh fb fe : Findings)
    → s1 ≡ subprogram_scope s d
    → s2 ≡ formals_scope s1 d.formals
    → k ≡ kind_of s d.result
    → fh ≡ noted f (head_faults s d b)
    → fb ≡ noted fh (body_faults s2 k b)
    → fe ≡ noted fb (end_rule d.name b.end_name)
    → fe ≡ noted f (subprogram_body_faults s d b)
subprogram_found s d b s1 s2 k f fh fb fe e1 e2 ek hh hb he =
    let inside = formals_scope (subprogram_scope s d) d.formals in
    let head = head_faults s d b in
    let body = body_faults inside (kind_of s d.result) b in
    let end_name = end_rule d.name b.end_name in
    he
    ∙ ap (λ g. noted g end_name) (hb ∙ (λ j. noted (hh j) (body_faults ((e2 ∙ ap (λ x. formals_scope x d.formals) e1) j) (ek j) b)) ∙ sym (noted_append f head body))
    ∙ sym (noted_append f (head ++ body) end_name)
