-- The rules that a name and each of its parts can break (RM 4.1, 6.4; docs/LANGUAGE.md, "Rules of expressions"): 10, a name that is not visible here, no such
-- component or operation; 12, a part without meaning, or a name of something else than is wanted; 13, what is to be changed is no variable; 16, the number of
-- actual parameters.
use Rattle.std.specs.Prelude.{ℕ, Bool, true, false, ◌&&◌, not, nat_eq, List, [], ◌++◌, length, Option, Some, None, is_none, bytes_eq, position, slice_get, if◌then◌else◌}
use Rattle.base.specs.declared.faults.TheConstants.{NAME_NOT_VISIBLE, NO_MEANING, NOT_A_VARIABLE, WRONG_ARGUMENT_COUNT}
use Rattle.ada_tree.specs.declared.expression.Identifier.{Identifier}
use Rattle.ada_tree.specs.declared.declaration.Mode.TheVariants as mode
use Rattle.ada_tree.specs.ExpressionTree.{ExprTree, Named, SelectorTree, Component, Arguments}
use Rattle.types.specs.declared.entity.FormalParameter.{FormalParameter}
use Rattle.types.specs.declared.entity.Role.{Role}
use Rattle.types.specs.declared.entity.Role.TheVariants as role
use Rattle.types.specs.declared.standing.Standing.{Standing}
use Rattle.types.specs.declared.standing.Standing.TheVariants as standing
use Rattle.types.specs.Entities.{TypeForm, Integers, Arrays, Records, Profile, ProtectedObject}
use Rattle.types.specs.Scopes.{Scope, form_at, protected_at, integer_type}
use Rattle.types.specs.Standings.{standing_of, select, count, component_of, callee_profile}
use Rattle.types.specs.Statics.{start_of}
use Rattle.expr_rules.specs.declared.own.Own.{Own}
use Rattle.expr_rules.specs.declared.own.Own.TheVariants.{Typed}
use Rattle.expr_rules.specs.declared.own.Wanted.{Wanted}
use Rattle.expr_rules.specs.declared.own.Wanted.TheVariants.{Anything, AnyInteger, OfType}
use Rattle.expr_rules.specs.declared.names.Slot.{Slot}
use Rattle.expr_rules.specs.declared.names.Slot.TheVariants.{Expects, Takes, TakesLabel}
use Rattle.expr_rules.specs.Faults.{Faults, rule}
use Rattle.expr_rules.specs.Typing.{is_known, is_wanted}

-- 12: the type is not the one that is expected; nothing is said of a type that is not known
abbrev pub mismatch : Scope → Wanted → Own → (place : ℕ) → Faults
mismatch s wanted own place = rule NO_MEANING place (is_known own && not (is_wanted s wanted own))

-- ---- a name as a whole: what it stands for where something is wanted of it

-- 12: no value: a call of a procedure or entry, a type, an exception, a task, a protected object, a unit
abbrev pub value_rule : (place : ℕ) → Standing → Faults
value_rule place standing.Statement = rule NO_MEANING place true
value_rule place standing.Other = rule NO_MEANING place true
value_rule place w = []

-- 12: no call of a procedure or entry, or of Put
abbrev pub call_rule : (place : ℕ) → Standing → Faults
call_rule place standing.Statement = []
call_rule place standing.Doubtful = []
call_rule place w = rule NO_MEANING place true

-- a variable; not a constant, a loop parameter, an `in` formal, or a component in the body of a protected function (RM 3.3)
abbrev pub is_changeable : Role → Bool
is_changeable role.Variable = true
is_changeable role.Out = true
is_changeable role.InOut = true
is_changeable role.Component = true
is_changeable r = false

-- 13: an object that is no variable; 12: no object at all, or not of the type that is expected
abbrev pub variable_rule : Scope → (place : ℕ) → Wanted → Standing → Faults
variable_rule s place wanted (standing.Part r t) = mismatch s wanted (Typed t.type_number) place ++ rule NOT_A_VARIABLE place (not (is_changeable r))
variable_rule s place wanted (standing.Fixed t v) = mismatch s wanted (Typed t.type_number) place ++ rule NOT_A_VARIABLE place true
variable_rule s place wanted standing.Doubtful = []
variable_rule s place wanted w = rule NO_MEANING place true

-- 12 and 13 of an actual for `out` or `in out`, which has to be a name (RM 6.4.1)
abbrev pub actual_rule : Scope → Wanted → ExprTree → Faults
actual_rule s wanted (Named first selectors) = variable_rule s first.place wanted (standing_of s first selectors)
actual_rule s wanted e = rule NO_MEANING (start_of e) true

-- ---- a part of a name, behind what this stands for; the place is that of the whole name

abbrev pub is_doubtful : Standing → Bool
is_doubtful standing.Doubtful = true
is_doubtful w = false

-- the formals of what is called
abbrev pub profile_formals : Option Profile → List FormalParameter
profile_formals (Some p) = p.formals
profile_formals None = []

-- 10, at the component: a record without such a component; 12: not a record
abbrev pub component_rule : (place : ℕ) → Identifier → Option TypeForm → Faults
component_rule place name (Some (Records components)) = rule NAME_NOT_VISIBLE name.place (is_none (component_of components name.name))
component_rule place name form = rule NO_MEANING place true

-- 10, at the operation: a protected object without such an operation (in its own body it has none behind its name)
abbrev pub operation_rule : Identifier → Option ProtectedObject → Faults
operation_rule name (Some p) = rule NAME_NOT_VISIBLE name.place (is_none (position (λ o. bytes_eq o.name name.name) p.operations))
operation_rule name None = rule NAME_NOT_VISIBLE name.place true

-- 16: not as many actuals as formals; Put has a label and a value
abbrev pub count_rule : (place : ℕ) → (actuals formals : ℕ) → Faults
count_rule place actuals formals = rule WRONG_ARGUMENT_COUNT place (not (nat_eq actuals formals))

-- what this part breaks; a part of what is doubtful breaks nothing more; the entries of tasks cannot be named; whatever else has no meaning is 12
abbrev pub part_rule : Scope → (place : ℕ) → Standing → SelectorTree → Faults
part_rule s place standing.Doubtful x = []
part_rule s place (standing.Part r t) (Component name) = component_rule place name (form_at s t.type_number)
part_rule s place (standing.Fixed t v) (Component name) = component_rule place name (form_at s t.type_number)
part_rule s place (standing.Protected n) (Component name) = operation_rule name (protected_at s n)
part_rule s place standing.Task (Component name) = rule NAME_NOT_VISIBLE name.place true
part_rule s place (standing.Callee f) (Arguments a) = count_rule place (count a) (length (profile_formals (callee_profile s f)))
part_rule s place standing.Put (Arguments a) = count_rule place (count a) 2
part_rule s place w x = rule NO_MEANING place (is_doubtful (select s w x))

-- the end of a name: what is called there is called without actuals
abbrev pub end_rule : Scope → (place : ℕ) → Standing → Faults
end_rule s place (standing.Callee f) = count_rule place 0 (length (profile_formals (callee_profile s f)))
end_rule s place standing.Put = count_rule place 0 2
end_rule s place w = []

-- ---- what the arguments are expected to be

-- the actual for a formal: an expression of its type, or a variable of its type that the call may change
abbrev pub formal_slot : FormalParameter → Slot
formal_slot f = elim f.mode [
  | mode.In ↦ Expects (OfType f.subtype.type_number)
  | mode.Out ↦ Takes f.subtype.type_number
  | mode.InOut ↦ Takes
      f.subtype.type_number
]

abbrev pub formal_slot_or : Option FormalParameter → Slot
formal_slot_or (Some f) = formal_slot f
formal_slot_or None = Expects Anything

abbrev pub call_slot : Option Profile → ℕ → Slot
call_slot p k = formal_slot_or (slice_get (profile_formals p) k)

-- `Put ("label", value)`
abbrev pub put_slot : ℕ → Slot
put_slot k = if nat_eq k 0 then TakesLabel else (if nat_eq k 1 then Expects (OfType integer_type) else Expects Anything)

abbrev pub index_slot : Option TypeForm → Slot
index_slot (Some (Arrays index length element)) = Expects (OfType index.type_number)
index_slot form = Expects Anything

abbrev pub conversion_slot : Option TypeForm → Slot
conversion_slot (Some Integers) = Expects AnyInteger
conversion_slot form = Expects Anything

-- what the argument with this number, from 0 on, is expected to be behind what stands there
abbrev pub slot_at : Scope → Standing → ℕ → Slot
slot_at s (standing.Callee f) k = call_slot (callee_profile s f) k
slot_at s standing.Put k = put_slot k
slot_at s (standing.Part r t) k = index_slot (form_at s t.type_number)
slot_at s (standing.Fixed t v) k = index_slot (form_at s t.type_number)
slot_at s (standing.Named t) k = conversion_slot (form_at s t.type_number)
slot_at s w k = Expects Anything

-- what is expected of an expression there, where it has no type by itself
abbrev pub slot_wanted : Slot → Wanted
slot_wanted (Expects wanted) = wanted
slot_wanted (Takes n) = OfType n
slot_wanted TakesLabel = Anything

-- 12: an expression that is not what is expected there, by its own type
abbrev pub slot_rule : Scope → Slot → ExprTree → Own → Faults
slot_rule s (Expects wanted) e own = mismatch s wanted own (start_of e)
slot_rule s (Takes n) e own = actual_rule s (OfType n) e
slot_rule s TakesLabel e own = rule NO_MEANING (start_of e) true

-- 12: a label anywhere but as the first actual of Put
abbrev pub label_rule : Slot → (place : ℕ) → Faults
label_rule TakesLabel place = []
label_rule slot place = rule NO_MEANING place true
