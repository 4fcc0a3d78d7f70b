-- What is visible in front of the declarations and bodies of an accepted text keeps limits that its code counts on.
use Rattle.std.specs.Prelude.{◌≡◌, ℕ, ◌≤◌, true, false, List, Some}
use Rattle.base.specs.declared.limits.TheConstants.{WORDS}
use Rattle.lexer.specs.declared.token.Token.{Token}
use Rattle.ada_tree.specs.ProgramTree.{ProgramTree}
use Rattle.ada_tree.specs.Language.{Limit}
use Rattle.ada_tree.specs.ProgramGrammar.{program}
use Rattle.types.specs.declared.entity.Role.{Role}
use Rattle.types.specs.declared.entity.Subtype.{Subtype}
use Rattle.types.specs.Entities.{Object}
use Rattle.types.specs.Layouts.{words_of}
use Rattle.types.specs.Scopes.{Scope, entity_at}
use Rattle.types.specs.Shapes.{shape_of}
use Rattle.legality.specs.ProgramRules.{IsLegal}
use Rattle.program_soundness.specs.ravenscar.specs.ProgramRules.{IsRestricted}
use Rattle.expr_soundness.specs.SoundScopes.{IsKnown}
use Rattle.program_soundness.specs.Fronts.{front}
use Rattle.expr_code.specs.Refusing.{is_fit}
use Rattle.package_code.specs.Bodies.{IsBodyOf, Coded}
use Rattle.package_code.specs.Refusing.{program_needs}
use Rattle.source_laws.specs.Depths.{IsSmallScope}
use Rattle.expr_code.specs.Providing.{FewFormals}
use Rattle.part_code.specs.Providing.{is_full}
use Rattle.source_laws.specs.Small.{HasSmallBodies}

-- ---- limits of what is visible

pub record KeepsLimits (s : Scope) : Type 0 where
  -- each part of a value takes a word
  pub types : (u : Subtype) → IsKnown s u → is_full (shape_of s u) ≡ true
  -- so a value has code, whatever part of it, where it has no more words than an image
  pub fit : (u : Subtype) → IsKnown s u → words_of s u ≤ WORDS → is_fit (shape_of s u) ≡ true
  -- an object has no more
  pub objects : (number : ℕ) (r : Role) (u : Subtype) → entity_at s number ≡ Some (Object r u) → words_of s u ≤ WORDS

-- so it is in front of each declaration and body of the package of an accepted text
abbrev pub FrontsKeepLimits : Type 0
FrontsKeepLimits = (limit : Limit) (t : ProgramTree) (tokens : List Token) → program limit t tokens → IsLegal t → IsRestricted t → (place : ℕ)
    → KeepsLimits (front t place)

-- objects have no more words than an image before the parameters of each body of an accepted text
abbrev pub BodiesKeepLimits : Type 0
BodiesKeepLimits = (limit : Limit) (t : ProgramTree) (tokens : List Token) → program limit t tokens → IsLegal t → IsRestricted t
    → (c : Coded) → IsBodyOf t c → KeepsLimits c.front

-- nothing that code of an accepted text needs takes no words, or more than an image has, nor does a part of it
abbrev pub NothingIsUnfit : Type 0
NothingIsUnfit = (limit : Limit) (t : ProgramTree) (tokens : List Token) → program limit t tokens → IsLegal t → IsRestricted t
    → (program_needs t).unfit ≡ false

-- ---- what can be called

-- has few formals in front of each declaration and body of the package of an accepted text
abbrev pub CalleesHaveFew : Type 0
CalleesHaveFew = (t : ProgramTree) → IsLegal t → IsRestricted t → (place : ℕ) → FewFormals (front t place)

-- what can be called has few formals before the parameters of each body with code of an accepted text
abbrev pub BodiesCallFew : Type 0
BodiesCallFew = (t : ProgramTree) → IsLegal t → IsRestricted t → (c : Coded) → IsBodyOf t c → FewFormals c.front

-- and in one whose bodies are small these take few words
abbrev pub FrontsAreSmall : Type 0
FrontsAreSmall = (limit : Limit) (t : ProgramTree) (tokens : List Token) → program limit t tokens → IsLegal t → IsRestricted t → HasSmallBodies t
    → (c : Coded) → IsBodyOf t c → IsSmallScope c.front
