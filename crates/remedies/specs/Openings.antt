-- What is open at a place of a text: the parts whose `end`, or whose closing parenthesis, is still to come.
use Rattle.std.specs.Prelude.{ℕ, suc, ◌-◌, List, [], ◌∷◌, ◌++◌, length, slice_get, take, Option, Some, None}
use Rattle.lexer.specs.declared.token.Token.{Token}
use Rattle.lexer.specs.declared.token.TokenKind.{TokenKind}
use Rattle.lexer.specs.declared.token.TokenKind.TheVariants as kinds
use Rattle.lexer.specs.declared.word.Word.{Word}
use Rattle.lexer.specs.declared.word.Word.TheVariants as words
use Rattle.lexer.specs.declared.delimiter.Delimiter.TheVariants as delimiters
use Rattle.remedies.specs.declared.opening.Opened.{Opened}
use Rattle.remedies.specs.declared.opening.Opened.TheVariants as opened
use Rattle.remedies.specs.declared.opening.Opening.{Opening}
use Rattle.remedies.specs.declared.opening.Lead.{Lead}
use Rattle.remedies.specs.declared.opening.Lead.TheVariants as leads
use Rattle.remedies.specs.declared.opening.Action.{Action}
use Rattle.remedies.specs.declared.opening.Action.TheVariants as actions

abbrev pub lead_of : TokenKind → Lead
lead_of (kinds.Word words.End) = leads.End
lead_of (kinds.Delimiter delimiters.LeftParenthesis) = leads.Parenthesis
lead_of kind = leads.Other

-- after `end` a word names what is closed, and opens nothing
abbrev pub unless_end : Lead → Opened → Action
unless_end leads.End o = actions.Nothing
unless_end lead o = actions.Opens o

-- the `if` after a parenthesis is that of an expression
abbrev pub action_of_if : Lead → Action
action_of_if leads.Other = actions.Opens opened.If
action_of_if lead = actions.Nothing

-- the `is` of a `case` opens nothing, since `case` did
abbrev pub action_of_word : Word → Lead → Action
action_of_word words.End lead = actions.Closes
action_of_word words.Is lead = actions.OpensIntroduced
action_of_word words.Begin lead = actions.Begins
action_of_word words.Body lead = actions.IntroducesBody
action_of_word words.Package lead = actions.Introduces opened.Package
action_of_word words.Procedure lead = actions.Introduces opened.Declarations
action_of_word words.Function lead = actions.Introduces opened.Declarations
action_of_word words.Entry lead = actions.Introduces opened.Declarations
action_of_word words.Task lead = actions.Introduces opened.Task
action_of_word words.Protected lead = actions.Introduces opened.Protected
action_of_word words.Type lead = actions.IntroducesNothing
action_of_word words.Subtype lead = actions.IntroducesNothing
action_of_word words.Declare lead = actions.Opens opened.Declare
action_of_word words.If lead = action_of_if lead
action_of_word words.Case lead = unless_end lead opened.Case
action_of_word words.Loop lead = unless_end lead opened.Loop
action_of_word words.Record lead = unless_end lead opened.Record
action_of_word words.Select lead = unless_end lead opened.Select
action_of_word word lead = actions.Nothing

abbrev pub action_of : TokenKind → Lead → Action
action_of (kinds.Word w) lead = action_of_word w lead
action_of (kinds.Delimiter delimiters.LeftParenthesis) lead = actions.Opens opened.Parenthesis
action_of (kinds.Delimiter delimiters.RightParenthesis) lead = actions.Closes
action_of kind lead = actions.Nothing

-- what is open, the innermost last; what the next `is` opens; and the kind of the last token
pub record Openings : Type 0 where
  pub parts : List Opening
  pub introduced : Option Opening
  pub lead : Lead

abbrev pub innermost : List Opening → Option Opening
innermost os = slice_get os (length os - 1)

abbrev pub without_innermost : List Opening → List Opening
without_innermost os = take (length os - 1) os

-- what is open after `begin` in place of declarations
abbrev pub begun : Opened → Option Opened
begun opened.Declarations = Some opened.Statements
begun opened.Main = Some opened.MainStatements
begun opened.Declare = Some opened.Block
begun o = None

abbrev pub with_begun : List Opening → (before first : ℕ) → Option Opened → List Opening
with_begun os before first (Some o) = without_innermost os ++ record { opened = o; before = first } ∷ []
with_begun os before first None = os ++ record { opened = opened.Block; before = before } ∷ []

-- `begin` ends the declarations of a body or block, and otherwise opens a block
abbrev pub begin_in : List Opening → (before : ℕ) → Option Opening → List Opening
begin_in os before (Some o) = with_begun os before o.before (begun o.opened)
begin_in os before None = with_begun os before before None

-- `body` after what was introduced
abbrev pub body_of : Opened → Opened
body_of opened.Package = opened.PackageBody
body_of opened.Protected = opened.ProtectedBody
body_of opened.Task = opened.Declarations
body_of o = o

abbrev pub body_introduced : Option Opening → Option Opening
body_introduced (Some o) = Some (record { opened = body_of o.opened; before = o.before })
body_introduced None = None

-- a body that stands in nothing else is that of the main procedure
abbrev pub opened_in : (parts : List Opening) → Opened → Opened
opened_in [] opened.Declarations = opened.Main
opened_in os o = o

abbrev pub with_introduced : (parts : List Opening) → Option Opening → List Opening
with_introduced os (Some o) = os ++ record { opened = opened_in os o.opened; before = o.before } ∷ []
with_introduced os None = os

-- what is open after a token that does this, before which there are so many tokens
abbrev pub after : Openings → (before : ℕ) → Action → Openings
after s before (actions.Opens opened.Case) = record s { parts = s.parts ++ record { opened = opened.Case; before = before } ∷ []; introduced = None }
after s before (actions.Opens o) = record s { parts = s.parts ++ record { opened = o; before = before } ∷ [] }
after s before actions.Closes = record s { parts = without_innermost s.parts }
after s before actions.Begins = record s { parts = begin_in s.parts before (innermost s.parts) }
after s before actions.IntroducesBody = record s { introduced = body_introduced s.introduced }
after s before (actions.Introduces o) = record s { introduced = Some (record { opened = o; before = before }) }
after s before actions.IntroducesNothing = record s { introduced = None }
after s before actions.OpensIntroduced = record s { parts = with_introduced s.parts s.introduced; introduced = None }
after s before actions.Nothing = s

-- what is open after these tokens, which stand after so many others
abbrev pub openings_from : Openings → (before : ℕ) → List Token → Openings
openings_from s before [] = s
openings_from s before (t ∷ ts) = openings_from (record (after s before (action_of t.kind s.lead)) { lead = lead_of t.kind }) (suc before) ts

abbrev pub nothing_open : Openings
nothing_open = record { parts = []; introduced = None; lead = leads.Other }

-- what was opened last and isn't closed after these tokens, the first ones of a text
abbrev pub open_after : List Token → Option Opening
open_after ts = innermost (openings_from nothing_open 0 ts).parts
