-- What is chosen, each value and each exception once, breaks the same rules as with all repetitions.
use Rattle.std.proofs.Common.{◌≡◌, ◌+◌, ◌++◌, ◌||◌, ℕ, ℤ, Bool, true, false, ◌&&◌, List, [], ◌∷◌, Option, Some, None, refl, sym, ap, ◌∙◌, bytes_eq, if◌then◌else◌, arith}
use Rattle.std.specs.List.{list_any}
use Rattle.std.proofs.Math.Bool.{or-false}
use Rattle.std.proofs.lemmas.Int.{ints}
use Rattle.std.proofs.lemmas.List.Folds.{list_any-append}
use Rattle.ada_tree.specs.declared.statement.ExceptionChoice.{ExceptionChoice}
use Rattle.ada_tree.specs.declared.statement.ExceptionChoice.TheVariants.{Exception, Others}
use Rattle.ada_tree.specs.ExpressionTree.{ExprTree}
use Rattle.ada_tree.specs.StatementTree.{ChoicesTree, Values, OtherValues, AlternativeTrees, NoAlternatives, MoreAlternatives, HandlerTrees, NoHandlers, MoreHandlers}
use Rattle.types.specs.declared.entity.Value.{Value as Scalar}
use Rattle.types.specs.declared.entity.Value.TheVariants as scalar
use Rattle.types.specs.Operators.{are_same}
use Rattle.types.specs.Scopes.{Scope}
use Rattle.types.specs.Statics.{start_of}
use Rattle.types.proofs.Seeing.{either_way, seen_more}
use Rattle.base.specs.declared.faults.TheConstants.{WRONG_CHOICES}
use Rattle.expr_rules.specs.declared.own.Wanted.{Wanted}
use Rattle.expr_rules.specs.Faults.{rule}
use Rattle.expr_rules.specs.StaticRules.{static_faults}
use Rattle.type_rules.specs.SubtypeNames.{named_entity}
use Rattle.stmt_rules.specs.declared.around.Around.{Around}
use Rattle.stmt_rules.specs.CaseRules.{choice_faults, choice_value, choices_faults, chosen_after, chosen_by, chosen_with, is_chosen, same_scalar, values_faults}
use Rattle.stmt_rules.specs.CaseRules as alternatives
use Rattle.stmt_rules.specs.Choosing.{chosen_once, once_after, once_by, seen_after, seen_by}
use Rattle.stmt_rules.specs.HandlerRules.{exception_choice_faults, exception_choices_faults, exception_rule, is_named, is_single, named_after, named_with}
use Rattle.stmt_rules.specs.HandlerRules as handlers
use Rattle.stmt_rules.specs.StatementRules.{alternatives_faults, in_handler, more_handlers_faults, stmts_faults}

-- ---- exceptions

-- the same names, however often
abbrev SameNames : List (List ℕ) → List (List ℕ) → Type 0
SameNames a b = (n : List ℕ) → is_named a n ≡ is_named b n

-- one name more, in a list
named_more : (a : List (List ℕ)) (name n : List ℕ) → is_named (a ++ name ∷ []) n ≡ (is_named a n || bytes_eq name n)
named_more a name n = list_any-append (bytes_eq n) a (name ∷ []) ∙ ap (λ b. is_named a n || b) (or-false (bytes_eq n name) ∙ either_way n name)

same_with : (a b : List (List ℕ)) (c : ExceptionChoice) → SameNames a b → SameNames (named_with a c) (named_with b c)
same_with a b (Exception name) same n = named_more a name.name n ∙ ap (λ x. x || bytes_eq name.name n) (same n) ∙ sym (named_more b name.name n)
same_with a b (Others place) same n = same n

once_named : (a : List (List ℕ)) (c : ExceptionChoice) → SameNames (named_with a c) (seen_by a c)
once_named a (Exception name) n = named_more a name.name n ∙ sym (seen_more a name.name n)
once_named a (Others place) n = refl

same_choice : (s : Scope) (l : Bool) (a b : List (List ℕ)) (c : ExceptionChoice) → SameNames a b → exception_choice_faults s a l c ≡ exception_choice_faults s b l c
same_choice s l a b (Exception name) same = ap (λ x. exception_rule name.place x (named_entity s name)) (same name.name)
same_choice s l a b (Others place) same = refl

same_choices : (s : Scope) (l : Bool) (a b : List (List ℕ)) (cs : List ExceptionChoice) → SameNames a b → exception_choices_faults s a l cs ≡ exception_choices_faults s b l cs
same_choices s l a b [] same = refl
same_choices s l a b (c ∷ cs) same = λ j. same_choice s l a b c same j ++ same_choices s l (named_with a c) (named_with b c) cs (same_with a b c same) j

same_after : (a b : List (List ℕ)) (cs : List ExceptionChoice) → SameNames a b → SameNames (named_after a cs) (named_after b cs)
same_after a b [] same = same
same_after a b (c ∷ cs) same = same_after (named_with a c) (named_with b c) cs (same_with a b c same)

seen_as_named : (a : List (List ℕ)) (cs : List ExceptionChoice) → SameNames (named_after a cs) (seen_after a cs)
seen_as_named a [] n = refl
seen_as_named a (c ∷ cs) n = same_after (named_with a c) (seen_by a c) cs (once_named a c) n ∙ seen_as_named (seen_by a c) cs n

same_handlers : (s : Scope) (around : Around) (a b : List (List ℕ)) (hs : HandlerTrees) → SameNames a b → more_handlers_faults s around a hs ≡ more_handlers_faults s around b hs
same_handlers s around a b NoHandlers same = refl
same_handlers s around a b (MoreHandlers choices body rest) same = λ j.
    same_choices s (is_single choices && handlers.no_more rest) a b choices same j
    ++ stmts_faults s (in_handler around) body
    ++ same_handlers s around (named_after a choices) (named_after b choices) rest (same_after a b choices same) j

pub handlers_behind : (s : Scope) (around : Around) (a : List (List ℕ)) (choices : List ExceptionChoice) (rest : HandlerTrees)
    → more_handlers_faults s around (named_after a choices) rest ≡ more_handlers_faults s around (seen_after a choices) rest
handlers_behind s around a choices rest = same_handlers s around (named_after a choices) (seen_after a choices) rest (seen_as_named a choices)

pub choices_behind : (s : Scope) (l : Bool) (a : List (List ℕ)) (c : ExceptionChoice) (cs : List ExceptionChoice)
    → exception_choices_faults s a l (c ∷ cs) ≡ exception_choice_faults s a l c ++ exception_choices_faults s (seen_by a c) l cs
choices_behind s l a c cs = ap (λ fs. exception_choice_faults s a l c ++ fs) (same_choices s l (named_with a c) (seen_by a c) cs (once_named a c))

-- ---- values

abbrev SameValues : List Scalar → List Scalar → Type 0
SameValues a b = (v : Scalar) → list_any (same_scalar v) a ≡ list_any (same_scalar v) b

same_chosen : (a b : List Scalar) (o : Option Scalar) → SameValues a b → is_chosen a o ≡ is_chosen b o
same_chosen a b (Some v) same = same v
same_chosen a b None same = refl

value_more : (a : List Scalar) (x v : Scalar) → list_any (same_scalar v) (a ++ x ∷ []) ≡ (list_any (same_scalar v) a || same_scalar v x)
value_more a x v = list_any-append (same_scalar v) a (x ∷ []) ∙ ap (λ b. list_any (same_scalar v) a || b) (or-false (same_scalar v x))

same_chosen_with : (a b : List Scalar) (o : Option Scalar) → SameValues a b → SameValues (chosen_with a o) (chosen_with b o)
same_chosen_with a b (Some x) same v = value_more a x v ∙ ap (λ y. y || same_scalar v x) (same v) ∙ sym (value_more b x v)
same_chosen_with a b None same v = same v

same_number : (x y : ℤ) → are_same x y ≡ true → x ≡ y
same_number x y h = grind (arith, ints, h)

same_is : (v x : Scalar) → same_scalar v x ≡ true → v ≡ x
same_is (scalar.Number x) (scalar.Number y) h = ap scalar.Number (same_number x y h)
same_is (scalar.Number x) (scalar.Truth b) h = cc
same_is (scalar.Truth a) (scalar.Number y) h = cc
same_is (scalar.Truth true) (scalar.Truth true) h = refl
same_is (scalar.Truth true) (scalar.Truth false) h = cc
same_is (scalar.Truth false) (scalar.Truth true) h = cc
same_is (scalar.Truth false) (scalar.Truth false) h = refl

once_chosen : (a : List Scalar) (o : Option Scalar) → SameValues (chosen_with a o) (chosen_once a o)
once_chosen a None v = refl
once_chosen a (Some x) v = value_more a x v ∙ by (list_any (same_scalar x) a) refl
  where
    there : list_any (same_scalar x) a ≡ true → (b : Bool) → same_scalar v x ≡ b → (list_any (same_scalar v) a || b) ≡ list_any (same_scalar v) a
    there h true e = let chosen : list_any (same_scalar v) a ≡ true = ap (λ y. list_any (same_scalar y) a) (same_is v x e) ∙ h in ap (λ c. c || true) chosen ∙ sym chosen
    there h false e = or-false (list_any (same_scalar v) a)

    by : (b : Bool) → list_any (same_scalar x) a ≡ b → (list_any (same_scalar v) a || same_scalar v x) ≡ list_any (same_scalar v) (chosen_once a (Some x))
    by true h = there h (same_scalar v x) refl ∙ sym (ap (λ c. list_any (same_scalar v) (if c then a else a ++ x ∷ [])) h)
    by false h = sym (value_more a x v) ∙ sym (ap (λ c. list_any (same_scalar v) (if c then a else a ++ x ∷ [])) h)

module _ (s : Scope) (w : Wanted) where
  same_one : (a b : List Scalar) (c : ExprTree) → SameValues a b → choice_faults s w a c ≡ choice_faults s w b c
  same_one a b c same = ap (λ x. static_faults s w None c ++ rule WRONG_CHOICES (start_of c) x) (same_chosen a b (choice_value s w c) same)

  same_values : (a b : List Scalar) (cs : List ExprTree) → SameValues a b → values_faults s w a cs ≡ values_faults s w b cs
  same_values a b [] same = refl
  same_values a b (c ∷ cs) same = λ j.
      same_one a b c same j
      ++ same_values (chosen_with a (choice_value s w c)) (chosen_with b (choice_value s w c)) cs (same_chosen_with a b (choice_value s w c) same) j

  same_chosen_after : (a b : List Scalar) (cs : List ExprTree) → SameValues a b → SameValues (chosen_after s w a cs) (chosen_after s w b cs)
  same_chosen_after a b [] same = same
  same_chosen_after a b (c ∷ cs) same =
      same_chosen_after (chosen_with a (choice_value s w c)) (chosen_with b (choice_value s w c)) cs (same_chosen_with a b (choice_value s w c) same)

  once_after_chosen : (a : List Scalar) (cs : List ExprTree) → SameValues (chosen_after s w a cs) (once_after s w a cs)
  once_after_chosen a [] v = refl
  once_after_chosen a (c ∷ cs) v =
      same_chosen_after (chosen_with a (choice_value s w c)) (chosen_once a (choice_value s w c)) cs (once_chosen a (choice_value s w c)) v
      ∙ once_after_chosen (chosen_once a (choice_value s w c)) cs v

  same_by : (a b : List Scalar) (x : ChoicesTree) → SameValues a b → SameValues (chosen_by s w a x) (chosen_by s w b x)
  same_by a b (Values cs) same = same_chosen_after a b cs same
  same_by a b (OtherValues place) same = same

  once_by_chosen : (a : List Scalar) (x : ChoicesTree) → SameValues (chosen_by s w a x) (once_by s w a x)
  once_by_chosen a (Values cs) v = once_after_chosen a cs v
  once_by_chosen a (OtherValues place) v = refl

  same_case_choices : (l : Bool) (a b : List Scalar) (x : ChoicesTree) → SameValues a b → choices_faults s w a l x ≡ choices_faults s w b l x
  same_case_choices l a b (Values cs) same = same_values a b cs same
  same_case_choices l a b (OtherValues place) same = refl

  same_alternatives : (around : Around) (a b : List Scalar) (all : AlternativeTrees) → SameValues a b → alternatives_faults s around w a all ≡ alternatives_faults s around w b all
  same_alternatives around a b NoAlternatives same = refl
  same_alternatives around a b (MoreAlternatives place choices body rest) same = λ j.
      same_case_choices (alternatives.no_more rest) a b choices same j
      ++ stmts_faults s around body
      ++ same_alternatives around (chosen_by s w a choices) (chosen_by s w b choices) rest (same_by a b choices same) j

  pub alternatives_behind : (around : Around) (a : List Scalar) (x : ChoicesTree) (rest : AlternativeTrees)
      → alternatives_faults s around w (chosen_by s w a x) rest ≡ alternatives_faults s around w (once_by s w a x) rest
  alternatives_behind around a x rest = same_alternatives around (chosen_by s w a x) (once_by s w a x) rest (once_by_chosen a x)

  pub values_behind : (a : List Scalar) (c : ExprTree) (cs : List ExprTree)
      → values_faults s w a (c ∷ cs) ≡ choice_faults s w a c ++ values_faults s w (chosen_once a (choice_value s w c)) cs
  values_behind a c cs =
      ap (λ fs. choice_faults s w a c ++ fs) (same_values (chosen_with a (choice_value s w c)) (chosen_once a (choice_value s w c)) cs (once_chosen a (choice_value s w c)))
