-- That names and labels of a source text are spelled as such (RM 2.3, 2.9), so an image has them.
use Rattle.std.specs.Prelude.{◌≡◌, ℕ, Bool, true, ◌&&◌, List}
use Rattle.std.specs.List.{list_all}
use Rattle.base.specs.Names.{is_label, is_name}
use Rattle.lexer.specs.declared.token.Token.{Token}
use Rattle.ada_tree.specs.Parsed.{IsText}
use Rattle.ada_tree.specs.ProgramTree.{ProgramTree}
use Rattle.meaning.specs.Programs.{program_of}
use Rattle.package_code.specs.Refusing.{program_labels}

-- what is a name or a label in a tree is spelled as one
abbrev pub is_spelled : ProgramTree → Bool
is_spelled t =
    list_all is_name (program_of t).exceptions && (list_all is_label (program_labels t) && list_all (λ x. is_name x.name) (program_of t).tasks)

-- so it is in the tree of a text
abbrev pub TextsAreSpelled : Type 0
TextsAreSpelled = (text : List ℕ) (tokens : List Token) (t : ProgramTree) → IsText text tokens t → is_spelled t ≡ true
