-- Where each token of statements is spelled, their labels are labels.
use Rattle.std.proofs.Common.{◌≡◌, ℕ, zero, suc, Bool, true, false, ◌&&◌, List, [], ◌∷◌, ◌++◌, Some, None, refl, ◌∙◌, subst}
use Rattle.std.specs.List.{list_all}
use Rattle.std.proofs.lemmas.Bool.{and_from}
use Rattle.std.proofs.lemmas.List.Folds.{list_all-append}
use Rattle.base.specs.Names as names
use Rattle.lexer.specs.declared.token.Token.{Token}
use Rattle.lexer.specs.declared.token.TokenKind.{TokenKind}
use Rattle.lexer.specs.declared.token.TokenKind.TheVariants as kinds
use Rattle.ada_tree.specs.declared.expression.Identifier.{Identifier}
use Rattle.ada_tree.specs.ExpressionTree.{ArgumentTrees, Arguments, MoreArguments, MoreSelectors, NameTree, NoArguments, NoSelectors, SelectorTrees, Text, Value}
use Rattle.ada_tree.specs.StatementTree.{AlternativeTrees, Block, Call, Case, ElsifTrees, HandlerTrees, If, Loop, MoreAlternatives, MoreElsifs, MoreHandlers, MoreStmts, NoAlternatives, NoElsifs, NoHandlers, NoStmts, StmtTree, StmtTrees}
use Rattle.ada_tree.specs.ProgramTree.{BodyTree}
use Rattle.ada_tree.specs.Language.{Limit, Tokens, identifier, inside, token_at, ◌⨾◌}
use Rattle.ada_tree.specs.ExpressionGrammar.{spells_arguments, spells_name, spells_selectors}
use Rattle.ada_tree.specs.StatementGrammar.{alternatives, else_stmts, elsifs, further_handlers, further_stmts, handlers, some_alternatives, stmt, stmts}
use Rattle.ada_tree.specs.ProgramGrammar.{body}
use Rattle.part_code.specs.Labels.{alternatives_labels, elsifs_labels, handlers_labels, is_label, stmt_labels, stmts_labels, with_label, with_line}
use Rattle.part_code.specs.Lines.{line_behind, line_in, line_of}
use Rattle.stmt_code.specs.WholeRefusals.{body_labels}
use Rattle.source_laws.proofs.SpelledTokens.{AreSpelled, IsKindSpelled}

-- ---- what lists of a language tell, where each token is spelled

pub record Tells (p : Tokens → Type 0) (P : Type 0) : Type 0 where
  pub told : (ts : Tokens) → p ts → AreSpelled ts → P

halves : (u v : Tokens) → AreSpelled (u ++ v) → AreSpelled u × AreSpelled v
halves [] v h = (tt, h)
halves (t ∷ u) v h = let rest = halves u v h.1 in ((h.0, rest.0), rest.1)

parts : (ts u v : Tokens) → ts ≡ u ++ v → AreSpelled ts → AreSpelled u × AreSpelled v
parts ts u v e h = halves u v (subst AreSpelled e h)

-- what the one tells, the other, or both
pub sooner : {p q : Tokens → Type 0} {P : Type 0} → Tells p P → Tells (p ⨾ q) P
sooner a = record { told = λ ts h s. a.told h.0 h.3 (parts ts h.0 h.1 h.2 s).0 }

pub later : {p q : Tokens → Type 0} {P : Type 0} → Tells q P → Tells (p ⨾ q) P
later a = record { told = λ ts h s. a.told h.1 h.4 (parts ts h.0 h.1 h.2 s).1 }

pub both_told : {p q : Tokens → Type 0} {P Q R : Type 0} → (P → Q → R) → Tells p P → Tells q Q → Tells (p ⨾ q) R
both_told f a b =
    record { told = λ ts h s. let x = parts ts h.0 h.1 h.2 s in f (a.told h.0 h.3 x.0) (b.told h.1 h.4 x.1) }

-- within a level
pub opened : {p : Limit → Tokens → Type 0} {P : Type 0} → ((l : Limit) → Tells (p l) P) → (l : Limit) → Tells (inside l p) P
opened a None = a None
opened a (Some zero) = record { told = λ ts h s. absurd h }
opened a (Some (suc n)) = a (Some n)

pub known : {p : Tokens → Type 0} {P : Type 0} → P → Tells p P
known x = record { told = λ ts h s. x }

pub named : (i : Identifier) → Tells (identifier i) (names.is_name i.name ≡ true)
named i = record { told = λ ts h s. token_told ts (kinds.Identifier i.name) h.0 h.1 h.2 s }
  where
    token_told : (ts : Tokens) (k : TokenKind) (t : Token) → ts ≡ t ∷ [] → t.kind ≡ k → AreSpelled ts → IsKindSpelled k
    token_told ts k t is kind s = subst IsKindSpelled kind (subst AreSpelled is s).0

labelled : (text : List ℕ) (place : ℕ) → Tells (token_at (kinds.Label text) place) (names.is_label text ≡ true)
labelled text place = record { told = λ ts h s. subst IsKindSpelled h.2 (subst AreSpelled h.1 s).0 }

-- ---- labels behind those in front

abbrev pub AreLabels : List (List ℕ) → Type 0
AreLabels labels = list_all names.is_label labels ≡ true

-- labels stay labels
pub record Keeps (behind : List (List ℕ) → List (List ℕ)) : Type 0 where
  pub kept : (before : List (List ℕ)) → AreLabels before → AreLabels (behind before)

pub same : Keeps (λ before. before)
same = record { kept = λ before h. h }

pub then_kept : {f g : List (List ℕ) → List (List ℕ)} → Keeps f → Keeps g → Keeps (λ before. g (f before))
then_kept {f} a b = record { kept = λ before h. b.kept (f before) (a.kept before h) }

-- the one, and then the other
pub joined : {f g : List (List ℕ) → List (List ℕ)} {p q : Tokens → Type 0} → Tells p (Keeps f) → Tells q (Keeps g)
    → Tells (p ⨾ q) (Keeps (λ before. g (f before)))
joined a b = both_told then_kept a b

one_more : (text : List ℕ) → names.is_label text ≡ true → Keeps (λ before. with_label before text)
one_more text is = record { kept = λ before h. by_test before h (is_label before text) }
  where
    by_test : (before : List (List ℕ)) → AreLabels before → (b : Bool) → AreLabels (elim b [ true ↦ before | false ↦ before ++ text ∷ [] ])
    by_test before h true = h
    by_test before h false =
        list_all-append names.is_label before (text ∷ [])
        ∙ and_from (list_all names.is_label before) (names.is_label text && true) h (and_from (names.is_label text) true is refl)

-- ---- statements

line_told : (a : ArgumentTrees) (l : Limit) → Tells (spells_arguments a l) (Keeps (λ before. with_line before (line_in a)))
line_told (MoreArguments (Text label at) (MoreArguments (Value e) NoArguments)) l = sooner (text_told label at)
  where
    text_told : (text : List ℕ) (place : ℕ) → Tells (token_at (kinds.Label text) place) (Keeps (λ before. with_label before text))
    text_told text place = record { told = λ ts h s. one_more text ((labelled text place).told ts h s) }
line_told a l = known same

selectors_told : (x : SelectorTrees) (l : Limit) → Tells (spells_selectors x l) (Keeps (λ before. with_line before (line_behind x)))
selectors_told (MoreSelectors (Arguments a) NoSelectors) l = sooner (opened (λ m. later (sooner (line_told a m))) l)
selectors_told x l = known same

name_told : (n : NameTree) (l : Limit) → Tells (spells_name l n) (Keeps (λ before. with_line before (line_of n)))
name_told n l = later (selectors_told n.selectors l)

mutual
  pub stmt_told : (s : StmtTree) (l : Limit) → Tells (stmt s l) (Keeps (λ before. stmt_labels before s))
  stmt_told (Call name) l = sooner (name_told name l)
  stmt_told (If place condition then_part elsif_parts else_part) l =
      opened (λ m. later (later (later (joined (stmts_told then_part m) (joined (elsifs_told elsif_parts m) (sooner (else_told else_part m))))))) l
  stmt_told (Case place value all) l = opened (λ m. later (later (later (sooner (some_told all m))))) l
  stmt_told (Loop place turns statements) l = opened (λ m. later (sooner (stmts_told statements m))) l
  stmt_told (Block place declarations statements all) l =
      opened (λ m. later (joined (stmts_told statements m) (sooner (handlers_told all m)))) l
  stmt_told s l = known same

  pub stmts_told : (s : StmtTrees) (l : Limit) → Tells (stmts s l) (Keeps (λ before. stmts_labels before s))
  stmts_told NoStmts l = known same
  stmts_told (MoreStmts s rest) l = joined (stmt_told s l) (further_told rest l)

  further_told : (s : StmtTrees) (l : Limit) → Tells (further_stmts s l) (Keeps (λ before. stmts_labels before s))
  further_told NoStmts l = known same
  further_told (MoreStmts s rest) l = joined (stmt_told s l) (further_told rest l)

  else_told : (s : StmtTrees) (l : Limit) → Tells (else_stmts s l) (Keeps (λ before. stmts_labels before s))
  else_told NoStmts l = known same
  else_told (MoreStmts s rest) l = later (joined (stmt_told s l) (further_told rest l))

  elsifs_told : (e : ElsifTrees) (l : Limit) → Tells (elsifs e l) (Keeps (λ before. elsifs_labels before e))
  elsifs_told NoElsifs l = known same
  elsifs_told (MoreElsifs condition statements rest) l = joined (later (later (later (stmts_told statements l)))) (elsifs_told rest l)

  some_told : (a : AlternativeTrees) (l : Limit) → Tells (some_alternatives a l) (Keeps (λ before. alternatives_labels before a))
  some_told NoAlternatives l = known same
  some_told (MoreAlternatives place all statements rest) l = joined (later (later (later (stmts_told statements l)))) (alternatives_told rest l)

  alternatives_told : (a : AlternativeTrees) (l : Limit) → Tells (alternatives a l) (Keeps (λ before. alternatives_labels before a))
  alternatives_told NoAlternatives l = known same
  alternatives_told (MoreAlternatives place all statements rest) l =
      joined (later (later (later (stmts_told statements l)))) (alternatives_told rest l)

  pub handlers_told : (h : HandlerTrees) (l : Limit) → Tells (handlers h l) (Keeps (λ before. handlers_labels before h))
  handlers_told NoHandlers l = known same
  handlers_told (MoreHandlers all statements rest) l =
      later (joined (later (later (later (stmts_told statements l)))) (further_handlers_told rest l))

  further_handlers_told : (h : HandlerTrees) (l : Limit) → Tells (further_handlers h l) (Keeps (λ before. handlers_labels before h))
  further_handlers_told NoHandlers l = known same
  further_handlers_told (MoreHandlers all statements rest) l =
      joined (later (later (later (stmts_told statements l)))) (further_handlers_told rest l)

-- those of a body
pub body_told : (b : BodyTree) (l : Limit) → Tells (body l b) (Keeps (λ before. body_labels before b))
body_told b l = later (later (joined (stmts_told b.statements l) (sooner (handlers_told b.handlers l))))
