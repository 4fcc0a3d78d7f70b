-- That accepted texts give all that their code needs: declarations tell their first words, and what bodies name has what its code needs.
use Rattle.std.specs.Prelude.{◌≡◌, true, List}
use Rattle.lexer.specs.declared.token.Token.{Token}
use Rattle.ada_tree.specs.Language.{Limit}
use Rattle.ada_tree.specs.ProgramGrammar.{program}
use Rattle.ada_tree.specs.ProgramTree.{ProgramTree}
use Rattle.legality.specs.ProgramRules.{IsLegal}
use Rattle.program_soundness.specs.ravenscar.specs.ProgramRules.{IsRestricted}
use Rattle.meaning.specs.Programs.{package_items, program_of}
use Rattle.package_code.specs.Providing.{BodiesAreCovered, items_tell}

-- the declarations of an accepted text tell the first words of its variables and of the components of its protected objects
abbrev pub DeclarationsTell : Type 0
DeclarationsTell = (limit : Limit) (t : ProgramTree) (tokens : List Token) → program limit t tokens → IsLegal t → IsRestricted t
    → items_tell (program_of t).scope (package_items t.package_) ≡ true

-- what is visible in front of the parameters of each body with code has what its code needs
abbrev pub NamesAreCovered : Type 0
NamesAreCovered = (limit : Limit) (t : ProgramTree) (tokens : List Token) → program limit t tokens → IsLegal t → IsRestricted t → BodiesAreCovered t
