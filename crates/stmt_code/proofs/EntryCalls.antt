-- Which entries are called: behind the names of their objects, and in a body of their own object (RM 9.5.1, 9.5.3).
use Rattle.std.proofs.Common.{◌≡◌, ℕ, inl, inr, List, [], Bool, true, false, ◌&&◌, Some, None, Option, refl, sym, ap, ◌∙◌, arith}
use Rattle.std.specs.Prelude.{if◌then◌else◌, nat_lt, slice_get}
use Rattle.ada_tree.specs.declared.expression.Identifier.{Identifier}
use Rattle.ada_tree.specs.ExpressionTree.{ArgumentTrees, MoreArguments, NameTree, NoArguments, SelectorTrees, Text, Value}
use Rattle.ada_tree.specs.StatementTree as statements
use Rattle.image.specs.declared.instruction.Operation.TheVariants as op
use Rattle.types.specs.declared.entity.FormalParameter.{FormalParameter}
use Rattle.types.specs.declared.standing.Callee as standings
use Rattle.types.specs.declared.standing.Callee.TheVariants as callee
use Rattle.types.specs.declared.standing.Standing.TheVariants as standing
use Rattle.types.specs.Entities as entity
use Rattle.types.specs.Entities.{Entity, Operation, Profile, ProtectedObject}
use Rattle.types.specs.Scopes.{Scope, entity_at, number_of, profile_of}
use Rattle.types.specs.Standings.{stands_first, stands_for}
use Rattle.expr_soundness.specs.expr_rules.specs.ExpressionRules.{argument_faults, arguments_faults}
use Rattle.expr_soundness.specs.expr_rules.specs.NameRules.{formal_slot_or, slot_at}
use Rattle.expr_soundness.specs.expr_rules.proofs.TypedLaw.{front_empty}
use Rattle.expr_soundness.specs.meaning.specs.Calls.{callee_by, callee_with, procedure_here}
use Rattle.expr_soundness.specs.meaning.specs.Programs.{Program}
use Rattle.type_rules.specs.SubtypeNames.{entity_at_or_none}
use Rattle.part_code.specs.step_soundness.specs.Fitting.{entity_named}
use Rattle.part_code.specs.step_soundness.proofs.Naming.{HasArguments, IsCall, called_with}
use Rattle.expr_code.specs.Seeing.{operation_place}
use Rattle.expr_code.specs.declared.visible.Visible.{Visible}
use Rattle.expr_code.proofs.Flowing.{Changes}
use Rattle.part_code.specs.EntryNames.{entry_among, is_entry_at, is_entry_operation, is_own_entry}
use Rattle.part_code.specs.Lines.{line_behind, line_in}
use Rattle.part_code.specs.Suiting.{SuitsStatements}
use Rattle.part_code.proofs.CallsShallow.{label_illegal}
use Rattle.stmt_code.specs.Emitting.{IsLegalStatement}
use Rattle.stmt_code.proofs.CallsAdded.{selectors_legal, whole_called}

-- ---- the test that no action is open

pub test_changes : (v : Visible) → Changes (SuitsStatements v) op.CheckBlocking 0 0
test_changes v = record {
  operands = refl;
  names = λ i s suits. refl;
  takes = λ i s suits. omega arith;
  leaves = λ i s suits. refl;
  stays = refl;
  is_none = refl;
}

-- ---- the entry that is named behind its object

-- where a number is told of it, the operation is an entry
pub told_entry : (o : ProtectedObject) (operation : List ℕ) (place : ℕ) (x : Operation) (n : ℕ) → operation_place (Some o) operation ≡ Some place
    → slice_get o.operations place ≡ Some x → entry_among (Some o) operation ≡ Some n → x.is_entry ≡ true
told_entry o operation place x n placed found told =
    by_test x.is_entry (nat_lt o.number 65536)
    (ap (λ b. if b && nat_lt o.number 65536 then Some o.number else None) (sym (ap (is_entry_at o) placed ∙ ap is_entry_operation found)) ∙ told)
  where
    by_test : (a b : Bool) → (if a && b then Some o.number else None) ≡ Some n → a ≡ true
    by_test true b e = refl
    by_test false b e = cc

-- ---- an entry of the body's own object

-- the name alone is that of an entry with this profile
pub record NamesEntry (s : Scope) (name : List ℕ) : Type 0 where
  pub profile : Profile
  pub number : ℕ
  pub numbered : number_of s name ≡ Some number
  pub stands : entity_at s number ≡ Some (entity.Entry profile)

pub names_entry : (s : Scope) (name : List ℕ) → is_own_entry (entity_named s name) ≡ true → NamesEntry s name
names_entry s name h = by_number (number_of s name) refl h
  where
    by_entity : (n : ℕ) → number_of s name ≡ Some n → (e : Option Entity) → entity_at s n ≡ e → is_own_entry e ≡ true → NamesEntry s name
    by_entity n numbered (Some (entity.Entry p)) is k = record { profile = p; number = n; numbered = numbered; stands = is }
    by_entity n numbered e is k = cc

    by_number : (o : Option ℕ) → number_of s name ≡ o → is_own_entry (entity_at_or_none s o) ≡ true → NamesEntry s name
    by_number (Some n) is k = by_entity n is (entity_at s n) refl k
    by_number None is k = cc

-- no label is an actual parameter of what is called
no_line_given : (s : Scope) (f : standings.Callee) (a : ArgumentTrees) → arguments_faults s (standing.Callee f) 0 a ≡ [] → line_in a ≡ None
no_line_given s f NoArguments h = refl
no_line_given s f (MoreArguments (Value e) rest) h = refl
no_line_given s f (MoreArguments (Text label place) rest) h =
    absurd (never (slot_at s (standing.Callee f) 0) refl
    (front_empty (argument_faults s (slot_at s (standing.Callee f) 0) (Text label place)) (arguments_faults s (standing.Callee f) 1 rest) h))
  where
    by_formal : (o : Option FormalParameter) → argument_faults s (formal_slot_or o) (Text label place) ≡ [] → ⊥
    by_formal (Some x) k = label_illegal s x label place k
    by_formal None k = cc

    never : (x : _) → slot_at s (standing.Callee f) 0 ≡ x → argument_faults s (slot_at s (standing.Callee f) 0) (Text label place) ≡ [] → ⊥
    never x is k = by_formal _ k

pub called_alone : (program : Program) (within : Option ℕ) (first : Identifier) (path : SelectorTrees) (a : ArgumentTrees) → HasArguments path a
    → callee_by program within first path ≡ callee_with (procedure_here program within first.name) None a
called_alone program within first path a (inl h) =
    ap (callee_by program within first) h.0 ∙ ap (callee_with (procedure_here program within first.name) None) (sym h.1)
called_alone program within first path a (inr h) = ap (callee_by program within first) h

pub no_line_alone : (s : Scope) (f : standings.Callee) (path : SelectorTrees) (a : ArgumentTrees) → HasArguments path a
    → arguments_faults s (standing.Callee f) 0 a ≡ [] → line_behind path ≡ None
no_line_alone s f path a (inl h) legal = ap line_behind h.0
no_line_alone s f path a (inr h) legal = ap line_behind h ∙ no_line_given s f a legal

module _ (v : Visible) (name : NameTree) (own : is_own_entry (entity_named v.scope name.first.name) ≡ true)
    (legal : IsLegalStatement v.scope (statements.Call name)) where
  abbrev pub named : NamesEntry v.scope name.first.name
  named = names_entry v.scope name.first.name own

  stands_alone : stands_first v.scope (number_of v.scope name.first.name) ≡ standing.Callee (callee.Direct named.number)
  stands_alone = ap (stands_first v.scope) named.numbered ∙ ap (stands_for named.number) named.stands

  pub call : IsCall v.scope (callee.Direct named.number) named.profile name.selectors
  call =
      called_with v.scope name.first.place (callee.Direct named.number) named.profile name.selectors (ap profile_of named.stands)
      (selectors_legal v name legal (standing.Callee (callee.Direct named.number)) stands_alone)
      (whole_called v name legal (standing.Callee (callee.Direct named.number)) stands_alone)
