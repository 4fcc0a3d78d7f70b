-- Legal expressions come to values between their bounds: by recursion on the expression.
use Rattle.std.proofs.Common.{◌≡◌, ◌++◌, ℕ, suc, pos, [], Bool, true, false, ◌⊎◌, inl, inr, Option, Some, None, refl, sym, ap, ◌∙◌, subst}
use Rattle.std.specs.Prelude.{ℤ, cond, ⊤}
use Rattle.meaning.specs.base.specs.declared.exceptions.PredefinedException.TheVariants.{ConstraintError}
use Rattle.meaning.specs.ada_tree.specs.declared.expression.UnaryOperator.{UnaryOperator}
use Rattle.meaning.specs.ada_tree.specs.declared.expression.BinaryOperator.{BinaryOperator}
use Rattle.meaning.specs.ada_tree.specs.declared.expression.BinaryOperator.TheVariants as binary
use Rattle.meaning.specs.ada_tree.specs.ExpressionTree as tree
use Rattle.meaning.specs.ada_tree.specs.ExpressionTree.{ExprTree, Named, Parenthesized, Conditional, Unary, Binary, ElsifValueTrees, NoElsifValues, MoreElsifValues}
use Rattle.meaning.specs.types.specs.Evaluating.{Calls, call, elsif_with, truth_of, value_with}
use Rattle.meaning.specs.types.specs.Evaluations.{Val, Gives, Raises, Meaningless, and_then, raise}
use Rattle.meaning.specs.types.specs.Operators.{binary_value, is_decided, unary_value}
use Rattle.meaning.specs.types.specs.Places.{Place}
use Rattle.meaning.specs.types.specs.Scopes.{Scope}
use Rattle.meaning.specs.types.specs.Statics.{StaticIsValue, start_of}
use Rattle.meaning.specs.types.specs.Values.{Value, Number, Truth, Array, Record}
use Rattle.meaning.specs.expr_rules.specs.declared.own.Wanted.{Wanted}
use Rattle.meaning.specs.expr_rules.specs.NameRules.{mismatch}
use Rattle.meaning.specs.expr_rules.specs.Typing.{boolean_wanted, own_of}
use Rattle.meaning.specs.expr_rules.specs.ExpressionRules.{below, conditional_wanted, elsif_faults, faults_in, unary_rule}
use Rattle.meaning.specs.expr_rules.proofs.TypedLaw.{back_empty, front_empty}
use Rattle.expr_soundness.specs.Agreeing.{Agrees}
use Rattle.expr_soundness.specs.Answers.{CallsAnswer}
use Rattle.expr_soundness.specs.Laws.{CallsAreTyped}
use Rattle.meaning.specs.types.specs.Bounds.{base_bounds, bounds_of, elsif_bounds, operation_bounds, spanned, static_number, unary_bounds}
use Rattle.expr_soundness.specs.BoundsLaw.{ChecksAreSpared, ExpressionsLie, ValuesAreBounded}
use Rattle.expr_soundness.specs.Lying.{ValuesLie, comes_between, is_between}
use Rattle.expr_soundness.proofs.Lies.{results_lie}
use Rattle.expr_soundness.proofs.Between.{known_between, name_lies, static_worth}
use Rattle.expr_soundness.proofs.Numbers.{binary_base, inside_passes, modulus_between, spanned_left, spanned_right, unary_between, within_itself}

-- ---- operations

unary_lies : (operator : UnaryOperator) (bounds : ℤ × ℤ) (v : Val Value) → comes_between bounds v ≡ true
    → comes_between (unary_bounds operator bounds) (and_then v (unary_value operator)) ≡ true
unary_lies operator bounds (Gives x) h = unary_between operator bounds x h
unary_lies operator bounds (Raises n) h = refl
unary_lies operator bounds Meaningless h = refl

decided_fits : (operator : BinaryOperator) (v : Value) → is_decided operator v ≡ true → is_between base_bounds v ≡ true
decided_fits operator (Truth b) h = refl
decided_fits operator (Array vs) h = refl
decided_fits operator (Record fs) h = refl
decided_fits binary.AndThen (Number z) h = cc
decided_fits binary.OrElse (Number z) h = cc
decided_fits operator (Number z) h = cc

right_fits : (operator : BinaryOperator) (v : Value) (b : Val Value) → comes_between base_bounds (and_then b (binary_value operator v)) ≡ true
right_fits operator v (Gives w) = binary_base operator v w
right_fits operator v (Raises n) = refl
right_fits operator v Meaningless = refl

abbrev Operation : BinaryOperator → Val Value → Val Value → Val Value
Operation operator a b = and_then a (λ v. elim (is_decided operator v) [ true ↦ Gives v | false ↦ and_then b (binary_value operator v) ])

binary_fits : (operator : BinaryOperator) (a b : Val Value) → comes_between base_bounds (Operation operator a b) ≡ true
binary_fits operator (Gives v) b = by_test (is_decided operator v) refl
  where
    by_test : (d : Bool) → is_decided operator v ≡ d → comes_between base_bounds
        (elim d [ true ↦ Gives v | false ↦ and_then b (binary_value operator v) ]) ≡ true
    by_test true e = decided_fits operator v e
    by_test false e = right_fits operator v b
binary_fits operator (Raises n) b = refl
binary_fits operator Meaningless b = refl

modulus_lies : (n : ℕ) (a : Val Value) → comes_between (pos 0, pos n) (Operation binary.Mod a (Gives (Number (pos (suc n))))) ≡ true
modulus_lies n (Gives v) = modulus_between n v
modulus_lies n (Raises x) = refl
modulus_lies n Meaningless = refl

-- an operation that is not `E mod k` for a known k above 0 has the base range
abbrev IsModulus : BinaryOperator → Option ℤ → Type 0
IsModulus operator right = (n : ℕ) × (operator ≡ binary.Mod) × (right ≡ Some (pos (suc n)))

is_modulus : (operator : BinaryOperator) (right : Option ℤ) → (operation_bounds operator right ≡ base_bounds) ⊎ IsModulus operator right
is_modulus binary.Mod (Some (pos (suc n))) = inr (n, refl, refl)
is_modulus binary.Mod right = inl refl
is_modulus operator right = inl refl

-- ---- wider bounds

comes_left : (a b : ℤ × ℤ) (v : Val Value) → comes_between a v ≡ true → comes_between (spanned a b) v ≡ true
comes_left a b (Gives x) h = spanned_left a b x h
comes_left a b (Raises n) h = refl
comes_left a b Meaningless h = refl

comes_right : (a b : ℤ × ℤ) (v : Val Value) → comes_between b v ≡ true → comes_between (spanned a b) v ≡ true
comes_right a b (Gives x) h = spanned_right a b x h
comes_right a b (Raises n) h = refl
comes_right a b Meaningless h = refl

elsif_grows : (s : Scope) (elsifs : ElsifValueTrees) (before : ℤ × ℤ) (v : Val Value) → comes_between before v ≡ true
    → comes_between (elsif_bounds s before elsifs) v ≡ true
elsif_grows s NoElsifValues before v h = h
elsif_grows s (MoreElsifValues condition value rest) before v h = elsif_grows s rest (spanned before (bounds_of s value)) v
    (comes_left before (bounds_of s value) v h)

-- ---- if expressions

-- the value for the first condition that holds, where there is one
abbrev FoundBetween : ℤ × ℤ → Val (Option Value) → Type 0
FoundBetween bounds (Gives (Some v)) = is_between bounds v ≡ true
FoundBetween bounds v = ⊤

found_left : (a b : ℤ × ℤ) (v : Val (Option Value)) → FoundBetween a v → FoundBetween (spanned a b) v
found_left a b (Gives (Some x)) h = spanned_left a b x h
found_left a b (Gives None) h = tt
found_left a b (Raises n) h = tt
found_left a b Meaningless h = tt

found_one : (bounds : ℤ × ℤ) (v : Val Value) → comes_between bounds v ≡ true → FoundBetween bounds (and_then v (λ x. Gives (Some x)))
found_one bounds (Gives x) h = h
found_one bounds (Raises n) h = tt
found_one bounds Meaningless h = tt

found_more : (bounds : ℤ × ℤ) (condition v : Val Value) (more : Val (Option Value)) → comes_between bounds v ≡ true → FoundBetween bounds more
    → FoundBetween bounds (and_then (and_then condition truth_of) (λ holds. elim holds [ true ↦ and_then v (λ x. Gives (Some x)) | false ↦ more ]))
found_more bounds (Gives (Truth true)) v more h k = found_one bounds v h
found_more bounds (Gives (Truth false)) v more h k = k
found_more bounds (Gives (Number z)) v more h k = tt
found_more bounds (Gives (Array vs)) v more h k = tt
found_more bounds (Gives (Record fs)) v more h k = tt
found_more bounds (Raises n) v more h k = tt
found_more bounds Meaningless v more h k = tt

last_between : (bounds : ℤ × ℤ) (more : Val (Option Value)) (last : Val Value) → FoundBetween bounds more → comes_between bounds last ≡ true
    → comes_between bounds (and_then more (λ found. elim found [ Some x ↦ Gives x | None ↦ last ])) ≡ true
last_between bounds (Gives (Some x)) last h k = h
last_between bounds (Gives None) last h k = k
last_between bounds (Raises n) last h k = refl
last_between bounds Meaningless last h k = refl

chosen_between : (bounds : ℤ × ℤ) (condition v : Val Value) (more : Val (Option Value)) (last : Val Value) → comes_between bounds v ≡ true
    → FoundBetween bounds more
    → comes_between bounds last ≡ true
    → comes_between bounds (and_then (and_then condition truth_of)
    (λ holds. elim holds [ true ↦ v | false ↦ and_then more (λ found. elim found [ Some x ↦ Gives x | None ↦ last ]) ])) ≡ true
chosen_between bounds (Gives (Truth true)) v more last h k l = h
chosen_between bounds (Gives (Truth false)) v more last h k l = last_between bounds more last k l
chosen_between bounds (Gives (Number z)) v more last h k l = refl
chosen_between bounds (Gives (Array vs)) v more last h k l = refl
chosen_between bounds (Gives (Record fs)) v more last h k l = refl
chosen_between bounds (Raises n) v more last h k l = refl
chosen_between bounds Meaningless v more last h k l = refl

-- ---- expressions

-- what breaks no rule in an if expression breaks none in its parts
pub record UnbrokenParts (s : Scope) (w : Wanted) (value last : ExprTree) (elsifs : ElsifValueTrees) : Type 0 where
  pub first : faults_in s w value ≡ []
  pub middle : elsif_faults s w elsifs ≡ []
  pub end : faults_in s w last ≡ []

pub unbroken_parts : (s : Scope) (w : Wanted) (place : ℕ) (condition value last : ExprTree) (elsifs : ElsifValueTrees)
    → faults_in s w (Conditional place condition value elsifs last) ≡ []
    → UnbrokenParts s (conditional_wanted s w value elsifs last) value last elsifs
unbroken_parts s w place condition value last elsifs h =
    let inner = conditional_wanted s w value elsifs last in
    let c = faults_in s boolean_wanted condition ++ mismatch s boolean_wanted (own_of s condition) (start_of condition) in
    let v = faults_in s inner value in
    let vm = mismatch s inner (own_of s value) (start_of value) in
    let m = elsif_faults s inner elsifs in
    let l = faults_in s inner last in
    let lm = mismatch s inner (own_of s last) (start_of last) in
    let three = front_empty (c ++ (v ++ vm) ++ m) (l ++ lm) h in
    record {
      first = front_empty v vm (back_empty c (v ++ vm) (front_empty (c ++ (v ++ vm)) m three));
      middle = back_empty (c ++ (v ++ vm)) m three;
      end = front_empty l lm (back_empty (c ++ (v ++ vm) ++ m) (l ++ lm) h);
    }

pub unbroken_elsif : (s : Scope) (w : Wanted) (condition value : ExprTree) (rest : ElsifValueTrees)
    → elsif_faults s w (MoreElsifValues condition value rest) ≡ []
    → (faults_in s w value ≡ []) × (elsif_faults s w rest ≡ [])
unbroken_elsif s w condition value rest h =
    let c = faults_in s boolean_wanted condition ++ mismatch s boolean_wanted (own_of s condition) (start_of condition) in
    let v = faults_in s w value in
    let vm = mismatch s w (own_of s value) (start_of value) in
    let two = front_empty (c ++ (v ++ vm)) (elsif_faults s w rest) h in
    (front_empty v vm (back_empty c (v ++ vm) two), back_empty (c ++ (v ++ vm)) (elsif_faults s w rest) h)

module _ (static : StaticIsValue) (s : Scope) (p : Place) (agrees : Agrees s p) (calls : Calls) (answers : CallsAnswer calls p)
    (values : ValuesLie s p calls) where
  operation_lies : (operator : BinaryOperator) (a b : ExprTree)
      → comes_between (operation_bounds operator (static_number s b)) (value_with calls p (Binary operator a b)) ≡ true
  operation_lies operator a b = by_form (is_modulus operator (static_number s b))
    where
      by_form : (operation_bounds operator (static_number s b) ≡ base_bounds) ⊎ IsModulus operator (static_number s b)
          → comes_between (operation_bounds operator (static_number s b)) (value_with calls p (Binary operator a b)) ≡ true
      by_form (inl e) =
          subst (λ x. comes_between x (value_with calls p (Binary operator a b)) ≡ true) (sym e)
          (binary_fits operator (value_with calls p a) (value_with calls p b))
      by_form (inr m) =
          let worth = static_worth s p agrees calls answers values static b (pos (suc m.0)) m.2 in
          subst (λ o. comes_between (operation_bounds o (static_number s b)) (value_with calls p (Binary o a b)) ≡ true) (sym m.1)
          (subst (λ k. comes_between (operation_bounds binary.Mod k) (value_with calls p (Binary binary.Mod a b)) ≡ true) (sym m.2)
          (subst (λ v. comes_between (pos 0, pos m.0) (Operation binary.Mod (value_with calls p a) v) ≡ true) (sym worth)
          (modulus_lies m.0 (value_with calls p a))))

  mutual
    expression_lies : (e : ExprTree) (w : Wanted) → faults_in s w e ≡ [] → comes_between (bounds_of s e) (value_with calls p e) ≡ true
    expression_lies (tree.Number z place) w h = within_itself z
    expression_lies (Named first selectors) w h = name_lies s p agrees calls answers values w first selectors h
    expression_lies (Parenthesized place e) w h = expression_lies e w h
    expression_lies (Unary operator place e) w h =
        known_between s p agrees calls answers values static (Unary operator place e) (unary_bounds operator (bounds_of s e))
        (λ none. unary_lies operator (bounds_of s e) (value_with calls p e) (expression_lies e (below operator w)
        (front_empty (faults_in s (below operator w) e) (unary_rule s operator place (own_of s e)) h)))
    expression_lies (Binary operator a b) w h =
        known_between s p agrees calls answers values static (Binary operator a b) (operation_bounds operator (static_number s b))
        (λ none. operation_lies operator a b)
    expression_lies (Conditional place condition value elsifs last) w h =
        let inner = conditional_wanted s w value elsifs last in
        let parts = unbroken_parts s w place condition value last elsifs h in
        let front = elsif_bounds s (bounds_of s value) elsifs in
        chosen_between (spanned front (bounds_of s last)) (value_with calls p condition) (value_with calls p value) (elsif_with calls p elsifs)
        (value_with calls p last)
        (comes_left front (bounds_of s last) (value_with calls p value)
        (elsif_grows s elsifs (bounds_of s value) (value_with calls p value) (expression_lies value inner parts.first)))
        (found_left front (bounds_of s last) (elsif_with calls p elsifs) (elsif_lies elsifs (bounds_of s value) inner parts.middle))
        (comes_right front (bounds_of s last) (value_with calls p last) (expression_lies last inner parts.end))

    elsif_lies : (elsifs : ElsifValueTrees) (before : ℤ × ℤ) (w : Wanted) → elsif_faults s w elsifs ≡ []
        → FoundBetween (elsif_bounds s before elsifs) (elsif_with calls p elsifs)
    elsif_lies NoElsifValues before w h = tt
    elsif_lies (MoreElsifValues condition value rest) before w h =
        let two = unbroken_elsif s w condition value rest h in
        let here = spanned before (bounds_of s value) in
        found_more (elsif_bounds s here rest) (value_with calls p condition) (value_with calls p value) (elsif_with calls p rest)
        (elsif_grows s rest here (value_with calls p value)
        (comes_right before (bounds_of s value) (value_with calls p value) (expression_lies value w two.0)))
        (elsif_lies rest here w two.1)

pub expressions_lie : StaticIsValue → ExpressionsLie
expressions_lie static s p calls agrees answers values e w h = expression_lies static s p agrees calls answers values e w h

pub values_are_bounded : StaticIsValue → CallsAreTyped → ValuesAreBounded
values_are_bounded static typed s p agrees sound visible e w h =
    expressions_lie static s p (call p.frames_left) agrees (typed.answered p sound p.frames_left)
    (record { visible = visible; results = λ actions owner name f vs found. results_lie p.frames_left (record p { actions = actions }) f vs }) e w h

pub checks_are_spared : StaticIsValue → ChecksAreSpared
checks_are_spared static s p calls agrees answers values e w t h inside v is =
    let between : is_between (bounds_of s e) v ≡ true =
    ap (comes_between (bounds_of s e)) (sym is) ∙ expressions_lie static s p calls agrees answers values e w h in
    ap (λ b. cond b (Gives v) (raise ConstraintError)) (inside_passes (bounds_of s e) t v inside between)
