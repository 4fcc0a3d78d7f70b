-- When code isn't made of an expression: memory was refused, or it may pass a limit of images, which is told.
use Rattle.std.specs.Prelude.{◌≡◌, ℕ, suc, ◌+◌, ◌*◌, ◌<◌, max, Bool, true, false, ◌&&◌, List, [], ◌∷◌, Option, Some, is_none, ⊤, if◌then◌else◌}
use Rattle.base.specs.declared.limits.TheConstants.{FRAME_WORDS, INSTRUCTIONS}
use Rattle.image.specs.Rules.{is_block}
use Rattle.ada_tree.specs.declared.expression.BinaryOperator.{BinaryOperator}
use Rattle.ada_tree.specs.ExpressionTree.{ExprTree, Number, Named, Parenthesized, Conditional, Unary, Binary, ElsifValueTrees, NoElsifValues, MoreElsifValues, SelectorTrees, NoSelectors, MoreSelectors, SelectorTree, Component, Arguments, Attribute, ArgumentTrees, NoArguments, MoreArguments, ArgumentTree, Value, Text}
use Rattle.types.specs.declared.entity.PredefinedOperation.TheVariants as predefined
use Rattle.types.specs.declared.entity.Role.{Role}
use Rattle.types.specs.declared.entity.Subtype.{Subtype}
use Rattle.types.specs.declared.standing.Callee.TheVariants as callee
use Rattle.types.specs.declared.standing.Standing.{Standing}
use Rattle.types.specs.declared.standing.Standing.TheVariants as standing
use Rattle.types.specs.Entities.{Entity, Predefined}
use Rattle.types.specs.Scopes.{entity_at, number_of, Scope}
use Rattle.types.specs.Shapes.{Shape, Shapes, Repeated, Grouped, NoShapes, MoreShapes, shape_of, words}
use Rattle.types.specs.Standings.{stands_first}
use Rattle.expr_code.specs.Branches.{Branch}
use Rattle.expr_code.specs.OperatorCode.{binary_operation}
use Rattle.expr_code.specs.Seeing.{slot_of}
use Rattle.expr_code.specs.Widths.{width_of}
use Rattle.expr_code.specs.declared.refusal.ImageLimit.{ImageLimit}
use Rattle.expr_code.specs.declared.refusal.ImageLimit.TheVariants as limits
use Rattle.expr_code.specs.declared.refusal.Refusal.{Refusal}
use Rattle.expr_code.specs.declared.refusal.Refusal.TheVariants as refusal
use Rattle.expr_code.specs.declared.visible.Slot.{Slot}
use Rattle.expr_code.specs.declared.visible.Visible.{Visible}

-- ---- the operand stack

-- the words of an operator's right operand stand above that of the left one; `and then` and `or else` copy the left one, and drop it before the right one
abbrev pub operand_peak : BinaryOperator → (right : ℕ) → ℕ
operand_peak operator right = if is_none (binary_operation operator) then max 2 right else suc right

-- a value is checked beside the bounds of its subtype
abbrev pub checked_peak : (value : ℕ) → ℕ
checked_peak value = max 3 value

-- the word below the argument of Milliseconds: the microseconds of one (RM D.8)
abbrev pub factors_below : Option Entity → ℕ
factors_below (Some (Predefined predefined.Milliseconds p)) = 1
factors_below e = 0

-- the words that stand below what is in the parentheses of a name: its address, where the name is that of an object, and that factor
abbrev pub words_below : Scope → Standing → ℕ
words_below s (standing.Part r t) = 1
words_below s (standing.Callee (callee.Direct n)) = factors_below (entity_at s n)
words_below s w = 0

abbrev mutual
  -- the words that the code of an expression has on the operand stack at most, those of its value among them
  pub peak : Scope → ExprTree → ℕ
  peak s (Number z place) = 1
  peak s (Named first selectors) =
      max (width_of s (Named first selectors)) (selectors_peak s (words_below s (stands_first s (number_of s first.name))) selectors)
  peak s (Parenthesized place e) = peak s e
  peak s (Unary operator place e) = peak s e
  peak s (Binary operator a b) = max (peak s a) (operand_peak operator (peak s b))
  peak s (Conditional place condition value elsifs last) =
      max (width_of s (Conditional place condition value elsifs last)) (max (peak s condition) (max (peak s value) (max (elsifs_peak s elsifs) (peak s last))))

  pub elsifs_peak : Scope → ElsifValueTrees → ℕ
  elsifs_peak s NoElsifValues = 0
  elsifs_peak s (MoreElsifValues condition value rest) = max (peak s condition) (max (peak s value) (elsifs_peak s rest))

  pub selectors_peak : Scope → (below : ℕ) → SelectorTrees → ℕ
  selectors_peak s below NoSelectors = 1
  selectors_peak s below (MoreSelectors x rest) = max (below + selector_peak s x) (selectors_peak s below rest)

  -- the offset of a component stands above the address
  pub selector_peak : Scope → SelectorTree → ℕ
  selector_peak s (Component name) = 1
  selector_peak s (Arguments all) = arguments_peak s all
  selector_peak s (Attribute name) = 0

  -- each above those before it
  pub arguments_peak : Scope → ArgumentTrees → ℕ
  arguments_peak s NoArguments = 0
  arguments_peak s (MoreArguments a rest) = max (argument_peak s a) (suc (arguments_peak s rest))

  pub argument_peak : Scope → ArgumentTree → ℕ
  argument_peak s (Value e) = checked_peak (peak s e)
  argument_peak s (Text label place) = 0

-- ---- the words of objects

abbrev mutual
  -- values of the shape, and each part of them, take words, and no more than an image may have
  pub is_fit : Shape → Bool
  is_fit (Repeated many x) = is_block (many * words x) && is_fit x
  is_fit (Grouped parts) = is_block (words (Grouped parts)) && are_fit parts
  is_fit x = is_block (words x)

  pub are_fit : Shapes → Bool
  are_fit NoShapes = true
  are_fit (MoreShapes name x rest) = is_fit x && are_fit rest

abbrev pub IsUnfit : Scope → Subtype → Type 0
IsUnfit s t = is_fit (shape_of s t) ≡ false

-- a part is fit wherever the whole is
abbrev pub KeepsFit : Scope → (whole part : Subtype) → Type 0
KeepsFit s t last = IsUnfit s last → IsUnfit s t

-- an object that is visible, or a part of it, takes no words, or more than an image may have
pub record HasUnfitObject (v : Visible) : Type 0 where
  pub name : List ℕ
  pub slot : Slot
  pub role : Role
  pub subtype : Subtype
  pub there : slot_of v name ≡ Some slot
  pub stands : stands_first v.scope (number_of v.scope name) ≡ standing.Part role subtype
  pub unfit : IsUnfit v.scope subtype

-- ---- refusals

-- Which limit code may pass that would end behind so many instructions, with so many words on the operand stack at most, where it may be unfit in this way.
abbrev pub MayPass : (unfit : Type 0) → (instructions words : ℕ) → ImageLimit → Type 0
MayPass unfit instructions words limits.Instructions = INSTRUCTIONS < instructions
MayPass unfit instructions words limits.Frame = FRAME_WORDS < words
MayPass unfit instructions words limits.Block = unfit
MayPass unfit instructions words other = ⊥

-- Why it is refused: memory may always be refused, and else it may pass the limit that is told.
abbrev pub IsRefusedBeside : (unfit : Type 0) → (instructions words : ℕ) → Refusal → Type 0
IsRefusedBeside unfit instructions words refusal.Memory = ⊤
IsRefusedBeside unfit instructions words (refusal.Limit limit) = MayPass unfit instructions words limit

-- a refusal of code for which no object is loaded
abbrev pub IsRefused : (instructions words : ℕ) → Refusal → Type 0
IsRefused instructions words = IsRefusedBeside ⊥ instructions words

-- the operand stack that the parts of an if expression take
abbrev pub branches_peak : Scope → List Branch → ℕ
branches_peak s [] = 0
branches_peak s (b ∷ rest) = max (peak s b.condition) (max (peak s b.value) (branches_peak s rest))
