-- The code of each form of expressions (docs/CODEGEN.md). What no legal expression has some code is given too.
use Rattle.std.specs.Prelude.{ℕ, ◌+◌, nat_eq, ℤ, pos, ◌+ℤ◌, ◌-ℤ◌, ◌*ℤ◌, unsigned_abs, nat_le, nat_lt, max, Bool, true, false, List, [], ◌∷◌, Option, Some, None, cond, option_map}
use Rattle.ada_tree.specs.declared.expression.BinaryOperator.{BinaryOperator}
use Rattle.ada_tree.specs.declared.expression.BinaryOperator.TheVariants as binary
use Rattle.ada_tree.specs.declared.expression.Identifier.{Identifier}
use Rattle.ada_tree.specs.declared.expression.Operand.{Operand}
use Rattle.ada_tree.specs.ExpressionTree.{ArgumentTree, ArgumentTrees, Arguments, Attribute, Binary, Component, Conditional, ElsifValueTrees, ExprTree, MoreArguments, MoreElsifValues, MoreSelectors, Named, NoArguments, NoElsifValues, NoSelectors, Number, Parenthesized, SelectorTree, SelectorTrees, Text, Unary, Value, expr_tree}
use Rattle.base.specs.declared.limits.TheConstants.{WORDS}
use Rattle.image.specs.declared.instruction.Operation.{Operation}
use Rattle.image.specs.declared.instruction.Operation.TheVariants as op
use Rattle.image.specs.declared.instruction.Region.TheVariants as regions
use Rattle.types.specs.declared.entity.PredefinedOperation.{PredefinedOperation}
use Rattle.types.specs.declared.entity.PredefinedOperation.TheVariants as predefined
use Rattle.types.specs.declared.entity.FormalParameter.{FormalParameter}
use Rattle.types.specs.declared.entity.Subtype.{Subtype}
use Rattle.types.specs.declared.entity.Value.{Value as Scalar}
use Rattle.types.specs.declared.standing.Standing.{Standing}
use Rattle.types.specs.declared.standing.Standing.TheVariants as standing
use Rattle.types.specs.Bounds.{bounds_of}
use Rattle.types.specs.Entities.{Arrays, Profile, Records, TypeForm}
use Rattle.types.specs.Evaluating.{fixed_value}
use Rattle.types.specs.Layouts.{capped, component_offset, words_of}
use Rattle.types.specs.Scopes.{Scope, form_at, integer, number_of}
use Rattle.types.specs.Standings.{component_of, count, standing_of, stands_first}
use Rattle.expr_soundness.specs.BoundsLaw.{is_inside}
use Rattle.expr_code.specs.Emitting.{has_numbers}
use Rattle.expr_code.specs.Naming.{load_operation, loaded_at, scalar_word}
use Rattle.expr_code.specs.OperatorCode.{binary_operation, unary_operation}
use Rattle.expr_code.specs.Pieces.{Piece, nothing, one, ◌▸◌, over}
use Rattle.expr_code.specs.Seeing.{external_of, external_profile, operation_named, profile_named, slot_of, subprogram_of}
use Rattle.expr_code.specs.declared.part.PartAt.{PartAt}
use Rattle.expr_code.specs.declared.part.TheConstants.{NEAR}
use Rattle.expr_code.specs.declared.visible.Slot.{Slot}
use Rattle.expr_code.specs.declared.visible.Visible.{Visible}

-- ---- operators

-- behind the operand, where the operator has an instruction
abbrev pub sign_code : (depth : ℕ) → Option Operation → (operand : Piece) → Piece
sign_code d None operand = operand
sign_code d (Some x) operand = operand ▸ one (d + 1) x

-- the jump behind the right operand where the left one decides
abbrev pub deciding : BinaryOperator → (end : ℕ) → Operation
deciding binary.OrElse = op.JumpIfNotZero
deciding o = op.JumpIfZero

-- Behind the left operand's value: the right operand above it, and the instruction; or a copy of that value, and where that decides a jump over the right
-- operand in its place.
abbrev pub operand_code : (depth : ℕ) → BinaryOperator → Option Operation → (above instead : Piece) → Piece
operand_code d o (Some x) above instead = above ▸ one (d + 1 + 1) x
operand_code d o None above instead = one (d + 1) op.Duplicate ▸ over 0 (d + 1 + 1) (deciding o) (one (d + 1) op.Drop ▸ instead)

-- ---- if expressions

-- a condition, what follows where it holds, and what follows where it doesn't; the jump between these finds so many words
abbrev pub fork_code : (depth after : ℕ) → (condition holds fails : Piece) → Piece
fork_code d k condition holds fails = condition ▸ over 1 (d + 1) op.JumpIfZero holds ▸ over 0 k op.Jump fails

-- a condition, its value, of so many words, and what stands behind it where the condition does not hold
abbrev pub branch_code : (depth width : ℕ) → (condition value rest : Piece) → Piece
branch_code d w condition value rest = fork_code d (d + w) condition value rest

-- ---- checks

-- the check of the word on top against a subtype of numbers; none where it lies inside
abbrev pub range_check : (depth : ℕ) → Subtype → Piece
range_check d t = one d (op.Push t.first) ▸ one (d + 1) (op.Push t.last) ▸ one (d + 1 + 1) op.CheckRange

abbrev pub check_code : (inside : Bool) → (depth : ℕ) → Subtype → Piece
check_code true d t = nothing
check_code false d t = range_check d t

-- a value and its check
abbrev pub with_check : (inside : Bool) → (depth : ℕ) → Subtype → (value : Piece) → Piece
with_check true d t value = value
with_check false d t value = value ▸ range_check d t

-- the check of a value against its subtype, where the subtype has numbers
abbrev pub checked_code : Visible → (depth : ℕ) → Subtype → ExprTree → (value : Piece) → Piece
checked_code v d t e value = cond (has_numbers (form_at v.scope t.type_number)) (with_check (is_inside (bounds_of v.scope e) t) (d + 1) t value) value

-- a value, checked where a subtype is given
abbrev pub value_code : Visible → (depth : ℕ) → Option Subtype → ExprTree → (value : Piece) → Piece
value_code v d None e value = value
value_code v d (Some t) e value = checked_code v d t e value

-- ---- objects

-- the words of an object as a whole
abbrev pub object_code : (depth : ℕ) → Slot → (words : ℕ) → Piece
object_code d slot words =
    cond (nat_eq words 1) (one d (load_operation slot.region slot.offset))
    (one d (op.Push (pos slot.offset)) ▸ one (d + 1) (op.LoadBlock slot.region words))

-- ---- parts of objects: what is added to an address when compiling, as long as it stays near to 0

abbrev pub is_near : ℤ → Bool
is_near z = nat_le (unsigned_abs z) NEAR

-- the number that is added when compiling, or the instructions in its place
abbrev pub if_near : {A : Type 0} → ℤ → (near far : A) → A
if_near z near far = cond (is_near z) near far

abbrev pub at_offset_code : (depth : ℕ) → (shift : ℤ) → (offset : ℕ) → Piece
at_offset_code d shift offset = if_near (shift +ℤ pos offset) nothing (one d (op.Push (pos offset)) ▸ one (d + 1) op.Add)

abbrev pub at_offset_shift : (shift : ℤ) → (offset : ℕ) → ℤ
at_offset_shift shift offset = if_near (shift +ℤ pos offset) (shift +ℤ pos offset) shift

-- an index is made a distance in components: the first index is subtracted from it
abbrev pub less_first_code : (depth : ℕ) → (first : ℤ) → (words : ℕ) → (shift : ℤ) → Piece
less_first_code d first words shift = if_near (shift -ℤ first *ℤ pos words) nothing (one d (op.Push first) ▸ one (d + 1) op.Subtract)

abbrev pub less_first_shift : (first : ℤ) → (words : ℕ) → (shift : ℤ) → ℤ
less_first_shift first words shift = if_near (shift -ℤ first *ℤ pos words) (shift -ℤ first *ℤ pos words) shift

abbrev pub by_words_code : (depth words : ℕ) → Piece
by_words_code d words = cond (nat_eq words 1) nothing (one d (op.Push (pos words)) ▸ one (d + 1) op.Multiply)

-- the subtype and the offset of a component of a record
abbrev pub both_known : Option Subtype → Option ℕ → Option (Subtype × ℕ)
both_known (Some t) (Some n) = Some (t, n)
both_known t n = None

abbrev pub field_of : Scope → Option TypeForm → List ℕ → Option (Subtype × ℕ)
field_of s (Some (Records components)) name = both_known (component_of components name) (option_map capped (component_offset s components name))
field_of s form name = None

-- an instruction that no image may have, where a number of words is more than one may have
abbrev pub misfit_code : (unfit : Bool) → (depth : ℕ) → Piece
misfit_code true d = one d (op.LoadBlock regions.Locals 0)
misfit_code false d = nothing

abbrev pub field_code : (depth : ℕ) → (shift : ℤ) → Option (Subtype × ℕ) → Piece
field_code d shift None = nothing
field_code d shift (Some (t, offset)) = misfit_code (nat_lt WORDS offset) d ▸ at_offset_code d shift offset

abbrev pub field_part : PartAt → Option (Subtype × ℕ) → PartAt
field_part p None = p
field_part p (Some (t, offset)) = record { subtype = t; shift = at_offset_shift p.shift offset }

abbrev pub element_code : Scope → (depth : ℕ) → (shift : ℤ) → Option TypeForm → (Subtype → Piece) → Piece
element_code s d shift (Some (Arrays index many element)) value =
    misfit_code (nat_lt WORDS (max many (capped (words_of s element)))) d
    ▸ value index ▸ less_first_code (d + 1) index.first (capped (words_of s element)) shift ▸ by_words_code (d + 1) (capped (words_of s element))
    ▸ one (d + 1) op.Add
element_code s d shift form value = nothing

abbrev pub element_part : Scope → PartAt → Option TypeForm → PartAt
element_part s p (Some (Arrays index many element)) =
    record { subtype = element; shift = less_first_shift index.first (capped (words_of s element)) p.shift }
element_part s p form = p

-- the part with one selector more, and with all
abbrev pub part_behind : Scope → PartAt → SelectorTree → PartAt
part_behind s p (Component name) = field_part p (field_of s (form_at s p.subtype.type_number) name.name)
part_behind s p (Arguments all) = element_part s p (form_at s p.subtype.type_number)
part_behind s p (Attribute name) = p

abbrev pub path_part : Scope → PartAt → SelectorTrees → PartAt
path_part s p NoSelectors = p
path_part s p (MoreSelectors x rest) = path_part s (part_behind s p x) rest

-- an object as a whole
abbrev pub whole_of : Subtype → PartAt
whole_of t = record { subtype = t; shift = pos 0 }

-- the address of an object, with what is added to it when compiling, and what goes from there to that of its part
abbrev pub address_code : (depth offset : ℕ) → PartAt → (path : Piece) → Piece
address_code d offset p path = one d (op.Push (pos offset +ℤ p.shift)) ▸ path

abbrev pub part_code : Visible → (depth : ℕ) → Slot → PartAt → (path : Piece) → Piece
part_code v d slot p path = address_code d slot.offset p path ▸ one (d + 1) (loaded_at slot.region (capped (words_of v.scope p.subtype)))

-- ---- calls

abbrev pub call_code : (height : ℕ) → (form : ℕ → Operation) → Option ℕ → Piece
call_code height form None = nothing
call_code height form (Some number) = one height (form number)

-- a function of the language (RM D.8)
abbrev pub predefined_code : (depth : ℕ) → PredefinedOperation → (argument : ℕ → Option Subtype → Piece) → Piece
predefined_code d predefined.Clock argument = one d op.Clock
predefined_code d predefined.Milliseconds argument = one d (op.Push (pos 1000)) ▸ argument (d + 1) (Some integer) ▸ one (d + 1 + 1) op.Multiply
predefined_code d predefined.Microseconds argument = argument d (Some integer)
predefined_code d predefined.Read argument = argument d None ▸ one (d + 1) op.ReadInput

-- how many actual parameters follow a name, and the operation after that of a protected object
abbrev pub actuals_count : SelectorTrees → ℕ
actuals_count NoSelectors = 0
actuals_count (MoreSelectors (Component name) rest) = actuals_count rest
actuals_count (MoreSelectors (Arguments all) rest) = count all
actuals_count (MoreSelectors (Attribute name) rest) = actuals_count rest

abbrev pub operation_behind : SelectorTrees → Option (List ℕ)
operation_behind NoSelectors = None
operation_behind (MoreSelectors (Component name) rest) = Some name.name
operation_behind (MoreSelectors (Arguments all) rest) = operation_behind rest
operation_behind (MoreSelectors (Attribute name) rest) = operation_behind rest

-- ---- names

-- what is put together of the selectors after a name
pub record NameParts : Type 0 where
  pub path : PartAt → Piece
  pub argument : (depth : ℕ) → Option Subtype → Piece
  pub actuals : List FormalParameter → Piece

-- a call of a function with this profile, if there is one
abbrev pub profiled_code : (height : ℕ) → (form : ℕ → Operation) → (number : Option ℕ) → NameParts → Option Profile → Piece
profiled_code height form number parts None = nothing
profiled_code height form number parts (Some p) = parts.actuals p.formals ▸ call_code height form number

abbrev pub called_code : Visible → (depth : ℕ) → Identifier → SelectorTrees → NameParts → Option PredefinedOperation → Piece
called_code v d first all parts (Some operation) = predefined_code d operation parts.argument
called_code v d first all parts None =
    profiled_code (d + actuals_count all) op.Call (subprogram_of v first.name) parts (profile_named v.scope first.name)

abbrev pub external_code : Visible → (depth : ℕ) → Identifier → SelectorTrees → NameParts → Option (List ℕ) → Piece
external_code v d first all parts None = nothing
external_code v d first all parts (Some operation) =
    profiled_code (d + actuals_count all) op.ProtectedCall (external_of v first.name operation) parts (external_profile v.scope first.name operation)

abbrev pub stored_code : Visible → (depth : ℕ) → SelectorTrees → NameParts → Subtype → Option Slot → Piece
stored_code v d all parts t None = nothing
stored_code v d NoSelectors parts t (Some slot) = object_code d slot (capped (words_of v.scope t))
stored_code v d (MoreSelectors x rest) parts t (Some slot) =
    part_code v d slot (path_part v.scope (whole_of t) (MoreSelectors x rest)) (parts.path (whole_of t))

abbrev pub named_code : Visible → (depth : ℕ) → Identifier → SelectorTrees → NameParts → Standing → Piece
named_code v d first all parts (standing.Part r t) = stored_code v d all parts t (slot_of v first.name)
named_code v d first all parts (standing.Named t) = parts.argument d (Some t)
named_code v d first all parts (standing.Callee f) = called_code v d first all parts (operation_named v.scope first.name)
named_code v d first all parts (standing.Protected n) = external_code v d first all parts (operation_behind all)
named_code v d first all parts _ = nothing

-- a value that is known by types and constants alone is pushed
abbrev pub name_code : Visible → (depth : ℕ) → Identifier → SelectorTrees → NameParts → Option Scalar → Piece
name_code v d first all parts (Some x) = one d (op.Push (scalar_word x))
name_code v d first all parts None = named_code v d first all parts (stands_first v.scope (number_of v.scope first.name))

-- ---- how many words a value takes that code leaves

abbrev pub stored_words : Option Slot → (words : ℕ) → ℕ
stored_words None words = 1
stored_words (Some slot) words = words

abbrev pub named_words : Visible → Identifier → SelectorTrees → Standing → ℕ
named_words v first all (standing.Part r t) = stored_words (slot_of v first.name) (capped (words_of v.scope (path_part v.scope (whole_of t) all).subtype))
named_words v first all _ = 1

abbrev pub name_words : Visible → Identifier → SelectorTrees → Option Scalar → ℕ
name_words v first all (Some x) = 1
name_words v first all None = named_words v first all (stands_first v.scope (number_of v.scope first.name))

abbrev pub value_words : Visible → ExprTree → ℕ
value_words v (Named first all) = name_words v first all (fixed_value (standing_of v.scope first all))
value_words v (Parenthesized place e) = value_words v e
value_words v (Conditional place condition value elsifs last) = value_words v value
value_words v _ = 1

-- ---- expressions

abbrev mutual
  -- above so many words on the operand stack
  pub expr_code : Visible → (depth : ℕ) → ExprTree → Piece
  expr_code v d (Number z place) = one d (op.Push z)
  expr_code v d (Named first selectors) = name_code v d first selectors (record {
    path = λ p. path_code v (d + 1) p selectors;
    argument = λ depth check. argument_code v depth check selectors;
    actuals = λ formals. actuals_code v d formals selectors;
  }) (fixed_value (standing_of v.scope first selectors))
  expr_code v d (Parenthesized place e) = expr_code v d e
  expr_code v d (Unary o place e) = sign_code d (unary_operation o) (expr_code v d e)
  expr_code v d (Binary o a b) = expr_code v d a ▸ operand_code d o (binary_operation o) (expr_code v (d + 1) b) (expr_code v d b)
  expr_code v d (Conditional place condition value elsifs last) =
      branch_code d (value_words v value) (expr_code v d condition) (expr_code v d value)
      (elsifs_code v d (value_words v value) elsifs (expr_code v d last))

  -- the parts after the first one, before the last value
  pub elsifs_code : Visible → (depth width : ℕ) → ElsifValueTrees → (last : Piece) → Piece
  elsifs_code v d w NoElsifValues last = last
  elsifs_code v d w (MoreElsifValues condition value rest) last = branch_code d w (expr_code v d condition) (expr_code v d value) (elsifs_code v d w rest last)

  -- from the address of a part, which is on top, to that of a part of it
  pub path_code : Visible → (depth : ℕ) → PartAt → SelectorTrees → Piece
  path_code v d p NoSelectors = nothing
  path_code v d p (MoreSelectors x rest) = selector_code v d p x ▸ path_code v d (part_behind v.scope p x) rest

  pub selector_code : Visible → (depth : ℕ) → PartAt → SelectorTree → Piece
  selector_code v d p (Component name) = field_code d p.shift (field_of v.scope (form_at v.scope p.subtype.type_number) name.name)
  selector_code v d p (Arguments all) =
      element_code v.scope d p.shift (form_at v.scope p.subtype.type_number) (λ index. first_code v d (Some index) all)
  selector_code v d p (Attribute name) = nothing

  -- the first value in parentheses
  pub argument_code : Visible → (depth : ℕ) → Option Subtype → SelectorTrees → Piece
  argument_code v d check NoSelectors = nothing
  argument_code v d check (MoreSelectors (Component name) rest) = argument_code v d check rest
  argument_code v d check (MoreSelectors (Arguments all) rest) = first_code v d check all
  argument_code v d check (MoreSelectors (Attribute name) rest) = argument_code v d check rest

  pub first_code : Visible → (depth : ℕ) → Option Subtype → ArgumentTrees → Piece
  first_code v d check NoArguments = nothing
  first_code v d check (MoreArguments (Value e) rest) = value_code v d check e (expr_code v d e)
  first_code v d check (MoreArguments (Text label place) rest) = first_code v d check rest

  -- actual parameters, each above those before it
  pub actuals_code : Visible → (depth : ℕ) → List FormalParameter → SelectorTrees → Piece
  actuals_code v d formals NoSelectors = nothing
  actuals_code v d formals (MoreSelectors (Component name) rest) = actuals_code v d formals rest
  actuals_code v d formals (MoreSelectors (Arguments all) rest) = arguments_code v d formals all
  actuals_code v d formals (MoreSelectors (Attribute name) rest) = actuals_code v d formals rest

  pub arguments_code : Visible → (depth : ℕ) → List FormalParameter → ArgumentTrees → Piece
  arguments_code v d [] all = nothing
  arguments_code v d (f ∷ formals) NoArguments = nothing
  arguments_code v d (f ∷ formals) (MoreArguments a rest) = actual_code v d f.subtype a ▸ arguments_code v (d + 1) formals rest

  pub actual_code : Visible → (depth : ℕ) → Subtype → ArgumentTree → Piece
  actual_code v d t (Value e) = value_code v d (Some t) e (expr_code v d e)
  actual_code v d t (Text label place) = nothing

abbrev pub parts_of : Visible → (depth : ℕ) → SelectorTrees → NameParts
parts_of v d all = record {
  path = λ p. path_code v (d + 1) p all;
  argument = λ depth check. argument_code v depth check all;
  actuals = λ formals. actuals_code v d formals all;
}

-- ---- lists of parts, as the tree of a program has them

-- operators and the operands after them, after the first operand's value
abbrev pub operands_code : Visible → (depth : ℕ) → List Operand → Piece
operands_code v d [] = nothing
operands_code v d (o ∷ rest) =
    operand_code d o.operator (binary_operation o.operator) (expr_code v (d + 1) (expr_tree o.value)) (expr_code v d (expr_tree o.value))
    ▸ operands_code v d rest
