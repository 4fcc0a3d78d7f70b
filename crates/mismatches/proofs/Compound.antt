-- Statements that have several parts, by the law of joined lists.
use Rattle.std.proofs.Common.{◌≡◌, ℕ, ◌++◌, List, sym, ap, ◌∙◌, false}
use Rattle.ada_tree.specs.ExpressionTree.{ExprTree}
use Rattle.ada_tree.specs.StatementTree.{DeclarationTree, StmtTree, StmtTrees, ElsifTrees, AlternativeTrees, HandlerTrees, IterationTree, If, Case, Loop, Block}
use Rattle.types.specs.Scopes.{Scope}
use Rattle.expr_rules.specs.declared.own.Wanted.{Wanted}
use Rattle.expr_rules.specs.Typing.{own_of}
use Rattle.declaration_rules.specs.LocalRules.{locals_scope}
use Rattle.stmt_rules.specs.declared.around.BodyKind.{BodyKind}
use Rattle.stmt_rules.specs.CaseRules.{choices_wanted}
use Rattle.mismatches.specs.Conflicts.{Mismatches, Search, noted}
use Rattle.mismatches.specs.ExpressionMismatches.{condition_mismatches}
use Rattle.mismatches.specs.StatementMismatches.{alternatives_mismatches, elsifs_mismatches, handlers_mismatches, locals_mismatches, looped_mismatches, selecting_mismatches, stmt_mismatches, stmts_mismatches}
use Rattle.mismatches.proofs.Noted.{noted_append}

three : (f x y z : Search) (a b c : Mismatches) → x ≡ noted f a → y ≡ noted x b → z ≡ noted y c → z ≡ noted f (a ++ b ++ c)
three f x y z a b c hx hy hz = hz ∙ ap (λ g. noted g c) (hy ∙ ap (λ g. noted g b) hx ∙ sym (noted_append f a b)) ∙ sym (noted_append f (a ++ b) c)

pub if_found : (s : Scope) (k : BodyKind) (tree : StmtTree) (place : ℕ) (condition : ExprTree) (body : StmtTrees) (elsifs : ElsifTrees) (others : StmtTrees)
    (s1 s2 : Scope) (f fc fb fe fo : Search)
    → tree ≡ If place condition body elsifs others
    → s1 ≡ s
    → s2 ≡ s1
    → fc ≡ noted f (condition_mismatches s condition)
    → fb ≡ noted fc (stmts_mismatches s k body)
    → fe ≡ noted fb (elsifs_mismatches s1 k elsifs)
    → fo ≡ noted fe (stmts_mismatches s2 k others)
    → fo ≡ noted f (stmt_mismatches s k tree)
if_found s k tree place condition body elsifs others s1 s2 f fc fb fe fo is e1 e2 hc hb he ho =
    let front = condition_mismatches s condition ++ stmts_mismatches s k body ++ elsifs_mismatches s k elsifs in
    ho ∙ ap (λ x. noted fe (stmts_mismatches x k others)) (e2 ∙ e1)
    ∙ ap (λ g. noted g (stmts_mismatches s k others))
    (three f fc fb fe (condition_mismatches s condition) (stmts_mismatches s k body) (elsifs_mismatches s k elsifs) hc hb (he ∙ ap (λ x. noted fb (elsifs_mismatches x k elsifs)) e1))
    ∙ sym (noted_append f front (stmts_mismatches s k others))
    ∙ ap (λ t. noted f (stmt_mismatches s k t)) (sym is)

pub case_found : (s : Scope) (k : BodyKind) (tree : StmtTree) (place : ℕ) (value : ExprTree) (all : AlternativeTrees) (w : Wanted) (f fv fa : Search)
    → tree ≡ Case place value all
    → w ≡ choices_wanted s (own_of s value)
    → fv ≡ noted f (selecting_mismatches s value)
    → fa ≡ noted fv (alternatives_mismatches s k w all)
    → fa ≡ noted f (stmt_mismatches s k tree)
case_found s k tree place value all w f fv fa is hw hv ha =
    ha
    ∙ (λ j. noted (hv j) (alternatives_mismatches s k (hw j) all))
    ∙ sym (noted_append f (selecting_mismatches s value) (alternatives_mismatches s k (choices_wanted s (own_of s value)) all))
    ∙ ap (λ t. noted f (stmt_mismatches s k t)) (sym is)

pub loop_found : (s : Scope) (k : BodyKind) (tree : StmtTree) (place : ℕ) (iteration : IterationTree) (body : StmtTrees) (f fl : Search)
    → tree ≡ Loop place iteration body
    → fl ≡ noted f (looped_mismatches s k iteration body)
    → fl ≡ noted f (stmt_mismatches s k tree)
loop_found s k tree place iteration body f fl is h = h ∙ ap (λ t. noted f (stmt_mismatches s k t)) (sym is)

pub block_found : (s : Scope) (k : BodyKind) (tree : StmtTree) (place : ℕ) (locals : List DeclarationTree) (body : StmtTrees) (handlers : HandlerTrees)
    (s1 s2 : Scope) (f fl fb fh : Search)
    → tree ≡ Block place locals body handlers
    → s1 ≡ locals_scope s locals
    → s2 ≡ s1
    → fl ≡ noted f (locals_mismatches s false locals)
    → fb ≡ noted fl (stmts_mismatches s1 k body)
    → fh ≡ noted fb (handlers_mismatches s2 k handlers)
    → fh ≡ noted f (stmt_mismatches s k tree)
block_found s k tree place locals body handlers s1 s2 f fl fb fh is e1 e2 hl hb hh =
    three f fl fb fh (locals_mismatches s false locals) (stmts_mismatches (locals_scope s locals) k body) (handlers_mismatches (locals_scope s locals) k handlers) hl
    (hb ∙ ap (λ x. noted fl (stmts_mismatches x k body)) e1) (hh ∙ ap (λ x. noted fb (handlers_mismatches x k handlers)) (e2 ∙ e1))
    ∙ ap (λ t. noted f (stmt_mismatches s k t)) (sym is)
