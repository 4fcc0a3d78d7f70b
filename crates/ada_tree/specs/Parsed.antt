-- Which trees are those of source texts (docs/LANGUAGE.md, "Grammar").
use Rattle.std.specs.Prelude.{ℕ, List}
use Rattle.lexer.specs.declared.token.Token.{Token}
use Rattle.lexer.specs.Spelling.{Spells}
use Rattle.ada_tree.specs.Language.{Limit}
use Rattle.ada_tree.specs.ProgramGrammar.{program}
use Rattle.ada_tree.specs.ProgramTree.{ProgramTree}

-- a text that tokens spell, and the tree that they spell
pub record IsText (text : List ℕ) (tokens : List Token) (t : ProgramTree) : Type 0 where
  pub limit : Limit
  pub spelled : Spells text tokens
  pub tree : program limit t tokens

-- the tree is that of some text
pub record IsParsed (t : ProgramTree) : Type 0 where
  pub text : List ℕ
  pub tokens : List Token
  pub is : IsText text tokens t
