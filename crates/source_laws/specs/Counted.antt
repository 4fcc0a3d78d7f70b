-- That each part of a text has no more nodes than tokens, and what follows from it: how many instructions and rows of handlers the code of each body has at
-- most by the tokens that spell it.
use Rattle.std.specs.Prelude.{◌≡◌, ◌≤◌, ◌+◌, ◌*◌, ◌++◌, ℕ, List, length, None, Option, Some, slice_get}
use Rattle.lexer.specs.declared.token.Token.{Token}
use Rattle.ada_tree.specs.ExpressionGrammar.{expression}
use Rattle.ada_tree.specs.ExpressionTree.{ExprTree}
use Rattle.ada_tree.specs.Language.{Limit}
use Rattle.ada_tree.specs.ProgramGrammar.{body, body_item, main, program, protected_item}
use Rattle.ada_tree.specs.ProgramTree.{BodyItemTree, BodyTree, ProgramTree, ProtectedBody, ProtectedItemTree}
use Rattle.ada_tree.specs.Size.{body_item_size, body_size, expr_size, protected_item_size, stmt_size}
use Rattle.ada_tree.specs.StatementGrammar.{stmt}
use Rattle.ada_tree.specs.StatementTree.{StmtTree}
use Rattle.program_soundness.specs.declaration_rules.specs.BodyNames.{formals_scope}
use Rattle.part_code.specs.Bounds.{body_words, formals_words}
use Rattle.package_code.specs.Bodies.{Coded, IsBodyOf, bodies_before, bodies_of}
use Rattle.package_code.specs.Counts.{bound_of, instructions_bound}
use Rattle.package_code.specs.Refusing.{subprogram_rows}

-- ---- nodes

pub record PartsWithinTokens : Type 0 where
  pub expressions : (limit : Limit) (e : ExprTree) (tokens : List Token) → expression limit e tokens → expr_size e ≤ length tokens
  pub statements : (limit : Limit) (x : StmtTree) (tokens : List Token) → stmt x limit tokens → stmt_size x ≤ length tokens
  pub bodies : (limit : Limit) (b : BodyTree) (tokens : List Token) → body limit b tokens → body_size b ≤ length tokens
  pub items : (limit : Limit) (x : BodyItemTree) (tokens : List Token) → body_item limit x tokens → body_item_size x ≤ length tokens
  pub operations : (limit : Limit) (i : ProtectedItemTree) (tokens : List Token) → protected_item limit i tokens → protected_item_size i ≤ length tokens

-- ---- instructions

-- the words of the formals of a body with code, and of all objects that are declared in it
abbrev pub words_in : Coded → ℕ
words_in c = formals_words c.front (formals_scope c.front c.head.formals) c.head.formals + body_words (formals_scope c.front c.head.formals) c.body

-- the tokens that spell a body with code: those of its item of the package, or of its operation or entry in the body of a protected object
abbrev pub SpellsBody : Limit → BodyItemTree → (index : ℕ) → List Token → Type 0
SpellsBody limit (ProtectedBody name items end_name) index part = (i : ProtectedItemTree) × (slice_get items index ≡ Some i) × protected_item limit i part
SpellsBody limit x index part = body_item limit x part

-- they stand in the text
pub record HasBodyTokens (limit : Limit) (x : BodyItemTree) (index : ℕ) (tokens : List Token) : Type 0 where
  pub front : List Token
  pub part : List Token
  pub behind : List Token
  pub split : tokens ≡ front ++ (part ++ behind)
  pub spelled : SpellsBody limit x index part

-- The code of each body takes at most 20 instructions for each token that spells it, and two for each word of its formals and objects.
abbrev pub CodeWithinTokens : Type 0
CodeWithinTokens = (limit : Limit) (t : ProgramTree) (tokens : List Token) → program limit t tokens → (c : Coded) (b : IsBodyOf t c)
    → (x : HasBodyTokens limit b.item b.index tokens) × (bound_of c ≤ 20 * length x.part + 2 * words_in c)

-- ---- subprograms

-- The tokens spell the subprogram with this number: bodies with code have the numbers of their places in the text, and the last number is main's.
pub data SpellsSubprogram (limit : Limit) (t : ProgramTree) (number : ℕ) (part : List Token) : Type 0 where
  ByBody : (c : Coded) (b : IsBodyOf t c) → number ≡ bodies_before t b.place + b.index → SpellsBody limit b.item b.index part
      → SpellsSubprogram limit t number part
  ByMain : number ≡ length (bodies_of t) → main limit t.main part → SpellsSubprogram limit t number part

-- the tokens that spell a subprogram stand together in the text
pub record HasOwnTokens (limit : Limit) (t : ProgramTree) (tokens : List Token) (number : ℕ) (part : List Token) : Type 0 where
  pub before : List Token
  pub after : List Token
  pub split : tokens ≡ before ++ (part ++ after)
  pub spelled : SpellsSubprogram limit t number part

abbrev pub words_if_coded : Option Coded → ℕ
words_if_coded None = 0
words_if_coded (Some c) = words_in c

-- the words of the formals and the declared objects of the subprogram with this number: main has none
abbrev pub words_at : ProgramTree → (number : ℕ) → ℕ
words_at t number = words_if_coded (slice_get (bodies_of t) number)

-- The subprogram has fewer parts than so many tokens, so its instructions are 20 fewer than 20 for each token and two for each word, and its handlers have no
-- more choices than tokens.
pub record IsBoundedBy (t : ProgramTree) (number tokens : ℕ) : Type 0 where
  pub instructions : 20 + instructions_bound t number ≤ 20 * tokens + 2 * words_at t number
  pub choices : (c : Coded) → slice_get (bodies_of t) number ≡ Some c → (before : ℕ) → subprogram_rows before c.head c.body ≤ before + tokens

-- Each subprogram has tokens of its own, which bound its code.
abbrev pub SubprogramsWithinTokens : Type 0
SubprogramsWithinTokens = (limit : Limit) (t : ProgramTree) (tokens : List Token) → program limit t tokens → (number : ℕ) → number ≤ length (bodies_of t)
    → (part : List Token) × HasOwnTokens limit t tokens number part × IsBoundedBy t number (length part)
