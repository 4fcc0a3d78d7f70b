-- Where types don't match in an expression rule 12 is broken.
use Rattle.std.proofs.Common.{◌++◌, ℕ, suc, Bool, true, false, [], refl, inl, inr, arith}
use Rattle.std.proofs.lemmas.List.Elements.{Contains-append_cases, Contains-append_left, Contains-append_right}
use Rattle.base.specs.declared.faults.TheConstants.{NO_MEANING}
use Rattle.ada_tree.specs.declared.expression.Identifier.{Identifier}
use Rattle.ada_tree.specs.ExpressionTree.{ExprTree, Number, Named, Parenthesized, Conditional, Unary, Binary, ElsifValueTrees, NoElsifValues, MoreElsifValues, SelectorTrees, NoSelectors, MoreSelectors, SelectorTree, Component, Arguments, Attribute, ArgumentTrees, NoArguments, MoreArguments, ArgumentTree, Value, Text}
use Rattle.types.specs.declared.standing.Standing.{Standing}
use Rattle.types.specs.declared.standing.Standing.TheVariants as standing
use Rattle.types.specs.Scopes.{Scope, number_of}
use Rattle.types.specs.Standings.{select, standing_of, stands_first}
use Rattle.types.specs.Statics.{start_of}
use Rattle.expr_rules.specs.declared.names.Slot.{Slot}
use Rattle.expr_rules.specs.declared.names.Slot.TheVariants.{Expects, Takes, TakesLabel}
use Rattle.expr_rules.specs.declared.own.Own.{Own}
use Rattle.expr_rules.specs.declared.own.Wanted.{Wanted}
use Rattle.expr_rules.specs.declared.own.Wanted.TheVariants.{OfType}
use Rattle.expr_rules.specs.Faults.{Faults, rule}
use Rattle.expr_rules.specs.ExpressionRules.{argument_faults, arguments_faults, below, beside, call_faults, conditional_wanted, elsif_faults, faults_in, faults_of, name_faults, selector_faults, selectors_faults, target_faults}
use Rattle.expr_rules.specs.NameRules.{actual_rule, slot_at, slot_rule, slot_wanted, variable_rule}
use Rattle.expr_rules.specs.Typing.{boolean_wanted, own_of}
use Rattle.mismatches.specs.declared.conflict.Conflict.{Conflict}
use Rattle.mismatches.specs.declared.conflict.Conflict.TheVariants.{NoVariable}
use Rattle.mismatches.specs.Conflicts.{Mismatches, conflict_if, fault_at, rule_of}
use Rattle.mismatches.specs.ExpressionMismatches.{actual_mismatch, argument_mismatches, arguments_mismatches, elsifs_mismatches, mismatches_in, mismatches_of, name_mismatches, selector_mismatches, selectors_mismatches, slot_mismatch, variable_mismatch}
use Rattle.mismatches.specs.Laws.{AreFaults}

-- ---- joined lists

pub none : (fs : Faults) → AreFaults [] fs
none fs = record { each = λ m h. absurd (omega (arith, h.1)) }

pub both : {a b : Mismatches} {x y : Faults} → AreFaults a x → AreFaults b y → AreFaults (a ++ b) (x ++ y)
both {a} {b} {x} {y} f g =
    record {
      each = λ m h.
          elim (Contains-append_cases a b m h) [
            | inl l ↦ Contains-append_left x y (fault_at m) (f.each m l)
            | inr r ↦ Contains-append_right x y (fault_at m) (g.each m r)
          ];
    }

-- where more rules are asked after, or before
pub in_front : {a : Mismatches} {x : Faults} → AreFaults a x → (y : Faults) → AreFaults a (x ++ y)
in_front {a} {x} f y = record { each = λ m h. Contains-append_left x y (fault_at m) (f.each m h) }

pub after : {a : Mismatches} {y : Faults} (x : Faults) → AreFaults a y → AreFaults a (x ++ y)
after {a} {y} x f = record { each = λ m h. Contains-append_right x y (fault_at m) (f.each m h) }

pub one : (place : ℕ) (conflict : Conflict) (b : Bool) → AreFaults (conflict_if place conflict b) (rule (rule_of conflict) place b)
one place conflict true = record { each = λ m h. search (h.0, h.1, h.2, refl, arith) }
one place conflict false = none []

-- ---- arguments

no_variable : (place : ℕ) → AreFaults (conflict_if place NoVariable true) (rule NO_MEANING place true)
no_variable place = one place NoVariable true

variable_broken : (s : Scope) (place : ℕ) (w : Wanted) (x : Standing) → AreFaults (variable_mismatch s place w x) (variable_rule s place w x)
variable_broken s place w (standing.Part r t) = in_front (one _ _ _) _
variable_broken s place w (standing.Fixed t v) = in_front (one _ _ _) _
variable_broken s place w standing.Doubtful = none _
variable_broken s place w (standing.Given t v) = no_variable place
variable_broken s place w (standing.Plain z) = no_variable place
variable_broken s place w (standing.Named t) = no_variable place
variable_broken s place w (standing.Callee f) = no_variable place
variable_broken s place w (standing.Protected n) = no_variable place
variable_broken s place w standing.Put = no_variable place
variable_broken s place w standing.Statement = no_variable place
variable_broken s place w standing.Task = no_variable place
variable_broken s place w standing.Other = no_variable place

actual_broken : (s : Scope) (w : Wanted) (e : ExprTree) → AreFaults (actual_mismatch s w e) (actual_rule s w e)
actual_broken s w (Named first selectors) = variable_broken s first.place w (standing_of s first selectors)
actual_broken s w (Number z place) = no_variable place
actual_broken s w (Parenthesized place e) = no_variable place
actual_broken s w (Unary operator place e) = no_variable place
actual_broken s w (Binary operator a b) = no_variable (start_of a)
actual_broken s w (Conditional place condition value elsifs last) = no_variable place

slot_broken : (s : Scope) (slot : Slot) (e : ExprTree) (own : Own) → AreFaults (slot_mismatch s slot e own) (slot_rule s slot e own)
slot_broken s (Expects w) e own = one _ _ _
slot_broken s (Takes n) e own = actual_broken s (OfType n) e
slot_broken s TakesLabel e own = none _

-- ---- expressions

mutual
  pub inside_broken : (s : Scope) (w : Wanted) (e : ExprTree) → AreFaults (mismatches_in s w e) (faults_in s w e)
  inside_broken s w (Number z place) = none _
  inside_broken s w (Named first selectors) =
      in_front (after _ (selectors_broken s first.place (stands_first s (number_of s first.name)) selectors)) _
  inside_broken s w (Parenthesized place e) = inside_broken s w e
  inside_broken s w (Unary operator place e) = both (inside_broken s (below operator w) e) (one _ _ _)
  inside_broken s w (Binary operator a b) =
      both (both (inside_broken s (beside s operator (own_of s b)) a) (inside_broken s (beside s operator (own_of s a)) b)) (one _ _ _)
  inside_broken s w (Conditional place condition value elsifs last) =
      let inner = conditional_wanted s w value elsifs last in
      both
      (both
      (both (both (inside_broken s boolean_wanted condition) (one _ _ _)) (both (inside_broken s inner value) (one _ _ _)))
      (elsifs_broken s inner elsifs))
      (both (inside_broken s inner last) (one _ _ _))

  elsifs_broken : (s : Scope) (w : Wanted) (elsifs : ElsifValueTrees) → AreFaults (elsifs_mismatches s w elsifs) (elsif_faults s w elsifs)
  elsifs_broken s w NoElsifValues = none _
  elsifs_broken s w (MoreElsifValues condition value rest) =
      both
      (both (both (inside_broken s boolean_wanted condition) (one _ _ _)) (both (inside_broken s w value) (one _ _ _)))
      (elsifs_broken s w rest)

  selectors_broken : (s : Scope) (place : ℕ) (x : Standing) (selectors : SelectorTrees)
      → AreFaults (selectors_mismatches s x selectors) (selectors_faults s place x selectors)
  selectors_broken s place x NoSelectors = none _
  selectors_broken s place x (MoreSelectors one_part rest) = both (selector_broken s place x one_part) (selectors_broken s place (select s x one_part) rest)

  selector_broken : (s : Scope) (place : ℕ) (x : Standing) (part : SelectorTree) → AreFaults (selector_mismatches s x part) (selector_faults s place x part)
  selector_broken s place x (Component name) = none _
  selector_broken s place x (Arguments a) = after _ (arguments_broken s x 0 a)
  selector_broken s place x (Attribute name) = none _

  arguments_broken : (s : Scope) (x : Standing) (k : ℕ) (a : ArgumentTrees) → AreFaults (arguments_mismatches s x k a) (arguments_faults s x k a)
  arguments_broken s x k NoArguments = none _
  arguments_broken s x k (MoreArguments a rest) = both (argument_broken s (slot_at s x k) a) (arguments_broken s x (suc k) rest)

  argument_broken : (s : Scope) (slot : Slot) (a : ArgumentTree) → AreFaults (argument_mismatches s slot a) (argument_faults s slot a)
  argument_broken s slot (Value e) = both (inside_broken s (slot_wanted slot) e) (slot_broken s slot e (own_of s e))
  argument_broken s slot (Text label place) = none _

pub expression_broken : (s : Scope) (w : Wanted) (e : ExprTree) → AreFaults (mismatches_of s w e) (faults_of s w e)
expression_broken s w e = both (inside_broken s w e) (one _ _ _)

-- two lists whose rules are in one
pub together : {a b : Mismatches} {x : Faults} → AreFaults a x → AreFaults b x → AreFaults (a ++ b) x
together {a} {b} {x} f g = record { each = λ m h. elim (Contains-append_cases a b m h) [ inl l ↦ f.each m l | inr r ↦ g.each m r ] }

-- ---- names where a statement stands on them

name_broken : (s : Scope) (first : Identifier) (selectors : SelectorTrees) → AreFaults (name_mismatches s first selectors) (name_faults s first selectors)
name_broken s first selectors = after _ (selectors_broken s first.place (stands_first s (number_of s first.name)) selectors)

pub call_broken : (s : Scope) (first : Identifier) (selectors : SelectorTrees) → AreFaults (name_mismatches s first selectors) (call_faults s first selectors)
call_broken s first selectors = in_front (name_broken s first selectors) _

pub target_broken : (s : Scope) (first : Identifier) (selectors : SelectorTrees) → AreFaults (name_mismatches s first selectors) (target_faults s first selectors)
target_broken s first selectors = in_front (name_broken s first selectors) _
