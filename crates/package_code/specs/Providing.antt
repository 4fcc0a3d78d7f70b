-- What is asked of an accepted program, so that its image can be made: its declarations tell their first words, and what its bodies name has what code needs.
use Rattle.std.specs.Prelude.{◌≡◌, Bool, true, false, ◌&&◌, ◌||◌, nat_le, List, length, Option, Some, None, is_some}
use Rattle.std.specs.List.{list_all}
use Rattle.ada_tree.specs.ExpressionTree.{ExprTree}
use Rattle.ada_tree.specs.declared.expression.Identifier.{Identifier}
use Rattle.ada_tree.specs.StatementTree.{ProtectedComponentTree, SubprogramTree}
use Rattle.ada_tree.specs.ProgramTree.{BodyTree, ItemTree, OfObject, OfProtected, ProgramTree}
use Rattle.types.specs.declared.entity.Subtype.{Subtype}
use Rattle.types.specs.Scopes.{Scope, form_at}
use Rattle.types.specs.Shapes.{value_words}
use Rattle.type_rules.specs.ObjectRules.{fixed_scalar}
use Rattle.type_rules.specs.SubtypeNames.{subtype_of}
use Rattle.declaration_rules.specs.BodyNames.{formals_scope}
use Rattle.expr_soundness.specs.meaning.specs.Programs.{initial_value, program_of, returned, subtype_named}
use Rattle.expr_soundness.specs.SoundScopes.{SoundScope}
use Rattle.expr_code.specs.Emitting.{IsFit}
use Rattle.expr_code.specs.Providing.{is_scalar_form}
use Rattle.stmt_code.specs.Emitting.{IsAcceptedRun}
use Rattle.stmt_code.specs.Subprograms.{AreLegalFormals}
use Rattle.step_simulation.specs.part_code.specs.Providing.{HasWhatCodeNeeds}
use Rattle.package_code.specs.Bodies.{Coded, IsBodyOf}
use Rattle.package_code.specs.Refusing.{seen_by}

-- ---- first words

-- the value that is given, if one is, is known
abbrev pub tells_value : Scope → Subtype → Option ExprTree → Bool
tells_value s t None = true
tells_value s t (Some e) = is_some (fixed_scalar s (Some t) e)

-- its text tells the first words of a variable or a component, of which there is one at least
abbrev pub tells_words : Scope → Option Subtype → Option ExprTree → Bool
tells_words s None value = false
tells_words s (Some t) value = tells_value s t value && nat_le 1 (length (value_words (initial_value s t value)))

abbrev pub component_tells : Scope → ProtectedComponentTree → Bool
component_tells s c = tells_words s (subtype_of s c.subtype) c.value

-- constants have no words
abbrev pub item_tells : Scope → ItemTree → Bool
item_tells s (OfObject d) = d.constant || tells_words s (subtype_of s d.subtype) d.value
item_tells s (OfProtected d) = list_all (component_tells s) d.components
item_tells s d = true

abbrev pub items_tell : Scope → List ItemTree → Bool
items_tell s items = list_all (item_tells s) items

-- ---- bodies

-- what methods ask that add the code of a body, where the names in front of its parameters are visible
pub record MayBeAdded (t : ProgramTree) (s : Scope) (d : SubprogramTree) (b : BodyTree) : Type 0 where
  pub front : SoundScope s
  pub head : AreLegalFormals s d.formals
  pub legal : d.result ≡ None → IsAcceptedRun (formals_scope s d.formals) b.declarations b.statements b.handlers
  pub returns : (r : Identifier) → d.result ≡ Some r → is_some (returned b.statements) ≡ true
  pub fit : (r : Identifier) (value : ExprTree) → d.result ≡ Some r → returned b.statements ≡ Some value
      → IsFit (formals_scope s d.formals) (subtype_named (program_of t).scope r) value
  pub result : (r : Identifier) → d.result ≡ Some r → is_some (subtype_of (program_of t).scope r) ≡ true
  -- a function gives a scalar
  pub scalar : (r : Identifier) → d.result ≡ Some r → is_scalar_form (form_at s (subtype_named (program_of t).scope r).type_number) ≡ true

-- that is so of a body with code, and what is visible in front of its parameters has what its code needs
pub record BodyIsCovered (t : ProgramTree) (c : Coded) : Type 0 where
  pub added : MayBeAdded t c.front c.head c.body
  pub names : HasWhatCodeNeeds (program_of t).exceptions (seen_by t c)

abbrev pub BodiesAreCovered : ProgramTree → Type 0
BodiesAreCovered t = (c : Coded) → IsBodyOf t c → BodyIsCovered t c
