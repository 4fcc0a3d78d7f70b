-- What is broken in statements that have several parts, by the law of joined lists.
use Rattle.std.proofs.Common.{◌≡◌, ℕ, ◌++◌, List, [], sym, ap, ◌∙◌}
use Rattle.ada_tree.specs.ExpressionTree.{ExprTree}
use Rattle.ada_tree.specs.StatementTree.{DeclarationTree, StmtTree, StmtTrees, ElsifTrees, AlternativeTrees, HandlerTrees, IterationTree, If, Case, Loop, Block}
use Rattle.types.specs.Scopes.{Scope}
use Rattle.expr_rules.specs.declared.own.Wanted.{Wanted}
use Rattle.expr_rules.specs.Faults.{Faults}
use Rattle.expr_rules.specs.Findings.{Findings, noted}
use Rattle.expr_rules.specs.Walks.{noted_append}
use Rattle.expr_rules.specs.Typing.{own_of}
use Rattle.declaration_rules.specs.LocalRules.{locals_faults, locals_scope}
use Rattle.stmt_rules.specs.declared.around.Around.{Around}
use Rattle.stmt_rules.specs.SimpleRules.{condition_faults}
use Rattle.stmt_rules.specs.CaseRules.{choices_wanted, others_rule, selecting_faults}
use Rattle.stmt_rules.specs.StatementRules.{alternatives_faults, elsifs_faults, handlers_faults, looped_faults, stmt_faults, stmts_faults}

three : (f x y z : Findings) (a b c : Faults) → x ≡ noted f a → y ≡ noted x b → z ≡ noted y c → z ≡ noted f (a ++ b ++ c)
three f x y z a b c hx hy hz = hz ∙ ap (λ g. noted g c) (hy ∙ ap (λ g. noted g b) hx ∙ sym (noted_append f a b)) ∙ sym (noted_append f (a ++ b) c)

pub if_found : (s : Scope) (a : Around) (tree : StmtTree) (place : ℕ) (condition : ExprTree) (body : StmtTrees) (elsifs : ElsifTrees) (others : StmtTrees)
    (s1 s2 : Scope) (f fc fb fe fo : Findings)
    → tree ≡ If place condition body elsifs others
    → s1 ≡ s
    → s2 ≡ s1
    → fc ≡ noted f (condition_faults s condition)
    → fb ≡ noted fc (stmts_faults s a body)
    → fe ≡ noted fb (elsifs_faults s1 a elsifs)
    → fo ≡ noted fe (stmts_faults s2 a others)
    → fo ≡ noted f (stmt_faults s a tree)
if_found s a tree place condition body elsifs others s1 s2 f fc fb fe fo is e1 e2 hc hb he ho =
    let front = condition_faults s condition ++ stmts_faults s a body ++ elsifs_faults s a elsifs in
    ho ∙ ap (λ x. noted fe (stmts_faults x a others)) (e2 ∙ e1)
    ∙ ap (λ g. noted g (stmts_faults s a others))
    (three f fc fb fe (condition_faults s condition) (stmts_faults s a body) (elsifs_faults s a elsifs) hc hb (he ∙ ap (λ x. noted fb (elsifs_faults x a elsifs)) e1))
    ∙ sym (noted_append f front (stmts_faults s a others))
    ∙ ap (λ t. noted f (stmt_faults s a t)) (sym is)

pub case_found : (s : Scope) (a : Around) (tree : StmtTree) (place : ℕ) (value : ExprTree) (all : AlternativeTrees) (w : Wanted) (f fv fa fo : Findings)
    → tree ≡ Case place value all
    → w ≡ choices_wanted s (own_of s value)
    → fv ≡ noted f (selecting_faults s value)
    → fa ≡ noted fv (alternatives_faults s a w [] all)
    → fo ≡ noted fa (others_rule place all)
    → fo ≡ noted f (stmt_faults s a tree)
case_found s a tree place value all w f fv fa fo is hw hv ha ho =
    three f fv fa fo (selecting_faults s value) (alternatives_faults s a (choices_wanted s (own_of s value)) [] all) (others_rule place all) hv
    (ha ∙ ap (λ x. noted fv (alternatives_faults s a x [] all)) hw) ho
    ∙ ap (λ t. noted f (stmt_faults s a t)) (sym is)

pub loop_found : (s : Scope) (a : Around) (tree : StmtTree) (place : ℕ) (iteration : IterationTree) (body : StmtTrees) (f fl : Findings)
    → tree ≡ Loop place iteration body
    → fl ≡ noted f (looped_faults s a iteration body)
    → fl ≡ noted f (stmt_faults s a tree)
loop_found s a tree place iteration body f fl is h = h ∙ ap (λ t. noted f (stmt_faults s a t)) (sym is)

pub block_found : (s : Scope) (a : Around) (tree : StmtTree) (place : ℕ) (locals : List DeclarationTree) (body : StmtTrees) (handlers : HandlerTrees)
    (s1 s2 : Scope) (f fl fb fh : Findings)
    → tree ≡ Block place locals body handlers
    → s1 ≡ locals_scope s locals
    → s2 ≡ s1
    → fl ≡ noted f (locals_faults s locals)
    → fb ≡ noted fl (stmts_faults s1 a body)
    → fh ≡ noted fb (handlers_faults s2 a handlers)
    → fh ≡ noted f (stmt_faults s a tree)
block_found s a tree place locals body handlers s1 s2 f fl fb fh is e1 e2 hl hb hh =
    three f fl fb fh (locals_faults s locals) (stmts_faults (locals_scope s locals) a body) (handlers_faults (locals_scope s locals) a handlers) hl
    (hb ∙ ap (λ x. noted fl (stmts_faults x a body)) e1) (hh ∙ ap (λ x. noted fb (handlers_faults x a handlers)) (e2 ∙ e1))
    ∙ ap (λ t. noted f (stmt_faults s a t)) (sym is)
