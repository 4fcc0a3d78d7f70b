-- Code of calls of functions: actual parameters one behind the other, and the call.
use Rattle.std.proofs.Common.{◌≡◌, ℕ, suc, ◌+◌, List, [], ◌∷◌, ◌++◌, length, map, Option, None, Some, Bool, true, false, cond, not, ◌||◌, refl, sym, ap, ◌∙◌, subst, arith}
use Rattle.base.specs.declared.exceptions.PredefinedException.TheVariants.{ConstraintError}
use Rattle.base.specs.declared.faults.TheConstants.{NAME_NOT_VISIBLE}
use Rattle.ada_tree.specs.declared.expression.Argument.{Argument}
use Rattle.ada_tree.specs.declared.expression.Identifier.{Identifier}
use Rattle.ada_tree.specs.ExpressionTree as tree
use Rattle.ada_tree.specs.ExpressionTree.{argument_trees, ArgumentTree, ArgumentTrees, MoreArguments, NoSelectors, SelectorTrees, Value}
use Rattle.ada_tree.specs.Size.{total}
use Rattle.image.specs.Sections.{Sections}
use Rattle.image.specs.Operations.{called, parameters_of, results_of}
use Rattle.image.specs.Rules.{calls_inside, is_plain, some_and}
use Rattle.image.specs.declared.instruction.Operation.TheVariants as op
use Rattle.types.specs.declared.entity.FormalParameter.{FormalParameter}
use Rattle.types.specs.declared.entity.Subtype.{Subtype}
use Rattle.types.specs.declared.standing.Callee.{Callee}
use Rattle.types.specs.declared.standing.Callee.TheVariants as callee
use Rattle.types.specs.declared.standing.Standing.{Standing}
use Rattle.types.specs.declared.standing.Standing.TheVariants as standing
use Rattle.types.specs.Entities.{Profile, Subprogram}
use Rattle.types.specs.Evaluations.{Gives, Raises, Meaningless, Val, and_then, raise}
use Rattle.types.specs.Evaluating.{fixed_value, passed}
use Rattle.types.specs.Layouts.{words_of}
use Rattle.types.specs.Places.{IsFunction, meaning_of}
use Rattle.types.specs.Scopes.{is_visible, number_of, profile_at, profile_of, Scope}
use Rattle.types.specs.Standings.{callee_profile, count, select_all, standing_of, stands_first, stands_for}
use Rattle.types.specs.Values as values
use Rattle.types.specs.Values.{fits}
use Rattle.expr_soundness.specs.expr_rules.specs.Faults.{rule}
use Rattle.expr_soundness.specs.expr_rules.specs.NameRules.{count_rule, profile_formals, value_rule}
use Rattle.expr_soundness.specs.expr_rules.specs.ExpressionRules.{selectors_faults}
use Rattle.expr_soundness.specs.expr_rules.proofs.TypedLaw.{back_empty, front_empty}
use Rattle.expr_soundness.specs.Agreeing.{MeansFunction, parameter_subtype}
use Rattle.expr_soundness.proofs.Applying.{one_count}
use Rattle.expr_code.specs.Actuals.{arguments_in_front}
use Rattle.expr_code.specs.Computing.{AlwaysNames, ArePassed}
use Rattle.expr_code.specs.Emitting.{IsLegalExpression}
use Rattle.expr_code.specs.Seeing.{library_of, NamesProfile, Package, Sees, subprogram_of, Suits}
use Rattle.expr_code.specs.declared.visible.Visible.{Visible}
use Rattle.expr_code.proofs.Flowing.{Changes}
use Rattle.expr_code.proofs.Names.{legal_here}
use Rattle.expr_code.proofs.Passing.{named_value}

-- ---- lists

pub in_front_then : (one two : List ArgumentTree) (rest : ArgumentTrees) → arguments_in_front (one ++ two) rest ≡ arguments_in_front one (arguments_in_front two rest)
in_front_then [] two rest = refl
in_front_then (a ∷ one) two rest = ap (MoreArguments a) (in_front_then one two rest)

pub nothing_behind : {X : Type 0} (l : List X) → l ++ [] ≡ l
nothing_behind [] = refl
nothing_behind (x ∷ l) = ap (λ m. x ∷ m) (nothing_behind l)

-- ---- the words of values

-- a value that passed its check is the one that was computed
pub passed_same : (t : Subtype) (v : Val values.Value) (x : values.Value) → and_then v (passed t) ≡ Gives x → v ≡ Gives x
passed_same t (Gives a) x e = by (fits t a) e
  where
    by : (b : Bool) → cond b (Gives a) (raise ConstraintError) ≡ Gives x → Gives a ≡ Gives x
    by true h = h
    by false h = cc
passed_same t (Raises n) x e = cc
passed_same t Meaningless x e = cc

pub both_given : (a : Val values.Value) (b : Val (List values.Value)) (vs : List values.Value) → and_then a (λ x. and_then b (λ xs. Gives (x ∷ xs))) ≡ Gives vs
    → (x : values.Value) × (xs : List values.Value) × (a ≡ Gives x) × (b ≡ Gives xs) × ((x ∷ xs) ≡ vs)
both_given (Gives x) (Gives xs) vs e = (x, xs, refl, refl, cc)
both_given (Gives x) (Raises n) vs e = cc
both_given (Gives x) Meaningless vs e = cc
both_given (Raises n) b vs e = cc
both_given Meaningless b vs e = cc

-- ---- the call

pub counted : (all : List Argument) → count (argument_trees all) ≡ length all
counted [] = refl
counted (a ∷ all) = ap suc (counted all)

-- ---- what stands behind a function's name, wherever that stands

module _ (s : Scope) (place : ℕ) (profile : Profile) (f : Callee) (profiled : callee_profile s f ≡ Some profile) where
  pub none_wanted : selectors_faults s place (standing.Callee f) NoSelectors ≡ [] → profile.formals ≡ []
  none_wanted unbroken =
      empty profile.formals (one_count place 0 (length profile.formals) (ap (λ o. count_rule place 0 (length (profile_formals o))) (sym profiled) ∙ unbroken))
    where
      empty : (l : List FormalParameter) → 0 ≡ length l → l ≡ []
      empty [] e = refl
      empty (x ∷ l) e = absurd (omega (arith, e))

pub no_values : (ws : List values.Value) → Gives [] ≡ Gives ws → ArePassed [] ws
no_values [] e = tt
no_values (w ∷ ws) e = absurd cc

-- the number of a function's subprogram, and the result, of one word
pub record IsCoded (v : Visible) (told : Option ℕ) (profile : Profile) : Type 0 where
  pub number : ℕ
  pub numbered : told ≡ Some number
  pub result : Subtype
  pub is : profile.result ≡ Some result
  pub single : words_of v.scope result ≡ 1

-- ---- a function by its own name

module _ (v : Visible) (first : Identifier) (profile : Profile) (names : NamesProfile v.scope first.name profile) where
  abbrev pub callee_of : Standing
  callee_of = standing.Callee (callee.Direct names.number)

  pub stands : stands_first v.scope (number_of v.scope first.name) ≡ callee_of
  stands = ap (stands_first v.scope) names.numbered ∙ ap (stands_for names.number) names.stands

  pub profiled : profile_at v.scope names.number ≡ Some profile
  profiled = ap profile_of names.stands

  -- the rules of what stands behind the name
  pub parts : (selectors : SelectorTrees) → IsLegalExpression v.scope (tree.Named first selectors) → selectors_faults v.scope first.place callee_of selectors ≡ []
  parts selectors legal =
      let hidden = rule NAME_NOT_VISIBLE first.place (not (is_visible v.scope first.name)) in
      let all = selectors_faults v.scope first.place (stands_first v.scope (number_of v.scope first.name)) selectors in
      let ends = value_rule first.place (standing_of v.scope first selectors) in
      ap (λ w. selectors_faults v.scope first.place w selectors) (sym stands) ∙ back_empty hidden all (front_empty (hidden ++ all) ends legal.unbroken)

  module _ (height : ℕ) (added : IsCoded v (subprogram_of v first.name) profile) where
    -- what the name means
    pub named : (selectors : SelectorTrees) → IsLegalExpression v.scope (tree.Named first selectors) → fixed_value (select_all v.scope callee_of selectors) ≡ None
        → (g : Package) (i : Sections) → AlwaysNames i (library_of g) (Sees g v) first selectors selectors (op.Call added.number)
        (map parameter_subtype profile.formals)
    named selectors legal valueless g i p view sees =
        let means = sees.names.agrees.names first.name names.number (Subprogram profile) names.numbered names.stands in
        let it = subst (λ r. MeansFunction p (meaning_of p first.name) profile r) added.is means in
        let fixed = (legal_here v.scope p sees.names.agrees first selectors legal).same ∙ ap
        (λ w. fixed_value (select_all v.scope w selectors)) stands ∙ valueless in
        record {
          function = it.0;
          through = None;
          number = added.number;
          coded = sees.functions first.name added.number it.0 profile added.result added.numbered names added.is it.1;
          allowed = tt;
          way = refl;
          shared = sees.unit;
          means = λ calls. named_value calls p first selectors (IsFunction it.0 None) fixed it.1;
          formals = it.2.formals;
        }

    pub changes : (depth : ℕ) → height ≡ depth + total (words_of v.scope) (map parameter_subtype profile.formals) → Changes (Suits v) (op.Call added.number) height (depth + 1)
    changes depth high = record {
      operands = refl;
      names = λ i s suits.
          let it = suits.calls first.name added.number profile added.result added.numbered names added.is in
          ap (λ o. some_and o (λ c. is_plain c.kind || calls_inside s.kind c.kind)) it.is ∙ it.kind;
      takes = λ i s suits.
          let it = suits.calls first.name added.number profile added.result added.numbered names added.is in
          let many : parameters_of (called i added.number) ≡ it.code.parameters = ap parameters_of it.is in
          omega (arith, many, it.parameters, high);
      leaves = λ i s suits.
          let it = suits.calls first.name added.number profile added.result added.numbered names added.is in
          let many : parameters_of (called i added.number) ≡ it.code.parameters = ap parameters_of it.is in
          let some : results_of (called i added.number) ≡ it.code.results = ap results_of it.is in
          omega (arith, many, some, it.parameters, it.results, high, added.single);
      stays = refl;
      is_none = refl;
    }
