-- Composite values of legal expressions are those of objects and their parts, so their parts lie in their subtypes.
use Rattle.std.proofs.Common.{◌≡◌, ℕ, [], Bool, true, false, Option, Some, None, refl, sym, ap, ◌∙◌, subst}
use Rattle.std.specs.Prelude.{Ok, Err, cond, is_some, nat_eq, ◌||◌, ⊤}
use Rattle.meaning.specs.base.specs.Arithmetic.{Checked, difference_of, modulus_of, product_of, quotient_of, remainder_of, sum_of, negation_of, absolute_of}
use Rattle.meaning.specs.ada_tree.specs.declared.expression.UnaryOperator.{UnaryOperator}
use Rattle.meaning.specs.ada_tree.specs.declared.expression.UnaryOperator.TheVariants as unary
use Rattle.meaning.specs.ada_tree.specs.declared.expression.BinaryOperator.{BinaryOperator}
use Rattle.meaning.specs.ada_tree.specs.declared.expression.BinaryOperator.TheVariants as binary
use Rattle.meaning.specs.ada_tree.specs.ExpressionTree as tree
use Rattle.meaning.specs.ada_tree.specs.ExpressionTree.{ExprTree, Named, Parenthesized, Conditional, Unary, Binary, ElsifValueTrees, NoElsifValues, MoreElsifValues}
use Rattle.meaning.specs.types.specs.declared.entity.PredefinedOperation.{PredefinedOperation}
use Rattle.meaning.specs.types.specs.declared.entity.PredefinedOperation.TheVariants as predefined
use Rattle.meaning.specs.types.specs.declared.entity.Subtype.{Subtype}
use Rattle.meaning.specs.types.specs.declared.entity.Value.{Value as Scalar}
use Rattle.meaning.specs.types.specs.declared.entity.Value.TheVariants as scalar
use Rattle.meaning.specs.types.specs.declared.standing.Standing.{Standing}
use Rattle.meaning.specs.types.specs.declared.standing.Standing.TheVariants as standing
use Rattle.meaning.specs.types.specs.Entities.{TypeForm, Integers, Booleans, Times, Spans, Arrays, Records, Profile, Predefined}
use Rattle.meaning.specs.types.specs.Evaluating.{Calls, call, elsif_with, fixed_value, truth_of, value_with}
use Rattle.meaning.specs.types.specs.Evaluations.{Val, Gives, Raises, Meaningless, and_then, computed}
use Rattle.meaning.specs.types.specs.Operators.{binary_value, is_decided, unary_value}
use Rattle.meaning.specs.types.specs.Places.{Place}
use Rattle.meaning.specs.types.specs.Scopes.{Scope, form_at}
use Rattle.meaning.specs.types.specs.Standings.{standing_of}
use Rattle.meaning.specs.types.specs.Statics.{start_of}
use Rattle.meaning.specs.types.specs.Values.{Value, Number, Truth, Array, Record, value_of}
use Rattle.meaning.specs.expr_rules.specs.declared.own.Own.{Own}
use Rattle.meaning.specs.expr_rules.specs.declared.own.Own.TheVariants.{Typed, Universal, Unknown}
use Rattle.meaning.specs.expr_rules.specs.declared.own.Wanted.{Wanted}
use Rattle.meaning.specs.expr_rules.specs.declared.own.Wanted.TheVariants.{OfType}
use Rattle.meaning.specs.expr_rules.specs.NameRules.{mismatch}
use Rattle.meaning.specs.expr_rules.specs.Typing.{elsif_own_of, is_booleans, is_integers, is_known, is_spans, is_times, is_wanted, join, own_of, own_of_standing}
use Rattle.meaning.specs.expr_rules.specs.ExpressionRules.{conditional_wanted, elsif_faults, faults_in}
use Rattle.meaning.specs.expr_rules.specs.Laws.{is_value_of, suits}
use Rattle.meaning.specs.expr_rules.proofs.TypeShapes.{boolean_value, is_number, is_truth, numeric_value}
use Rattle.meaning.specs.expr_rules.proofs.TypedLaw.{back_empty, expected, front_empty, same_number}
use Rattle.expr_soundness.specs.SoundScopes.{IsSoundPredefined}
use Rattle.expr_soundness.specs.Agreeing.{Agrees}
use Rattle.expr_soundness.specs.Answers.{CallsAnswer}
use Rattle.expr_soundness.specs.Laws.{CallsAreTyped}
use Rattle.expr_soundness.specs.CompositesLaw.{CompositesLie, PartsLieHere, ResultsAreSimple, is_simple}
use Rattle.expr_soundness.specs.Lying.{OnGives, lies_inside}
use Rattle.expr_soundness.proofs.Positions.{same_some}
use Rattle.expr_soundness.proofs.FixedNames.{same_form}
use Rattle.expr_soundness.proofs.Lies.{lying_inside}
use Rattle.expr_soundness.proofs.NamesLie.{Ends, Knows}
use Rattle.expr_soundness.proofs.Between.{NameEnds, name_ends}
use Rattle.expr_soundness.proofs.Expressions.{expression}
use Rattle.expr_soundness.proofs.Worth.{unbroken_elsif, unbroken_parts}

-- ---- values without parts

number_inside : (s : Scope) (n : ℕ) (v : Value) → is_number v ≡ true → lies_inside s n v ≡ true
number_inside s n (Number z) h = refl
number_inside s n (Truth b) h = cc
number_inside s n (Array vs) h = cc
number_inside s n (Record fs) h = cc

truth_inside : (s : Scope) (n : ℕ) (v : Value) → is_truth v ≡ true → lies_inside s n v ≡ true
truth_inside s n (Truth b) h = refl
truth_inside s n (Number z) h = cc
truth_inside s n (Array vs) h = cc
truth_inside s n (Record fs) h = cc

-- of a value of a type whose values have none
simple_inside : (s here : Scope) (n : ℕ) (v : Value) → is_simple (form_at s n) ≡ true → is_value_of s (Typed n) v ≡ true → lies_inside here n v ≡ true
simple_inside s here n v simple h = by_form (form_at s n) refl simple
  where
    by_form : (o : Option TypeForm) → form_at s n ≡ o → is_simple o ≡ true → lies_inside here n v ≡ true
    by_form (Some Integers) e k = number_inside here n v (sym (numeric_value s (Typed n) (ap (λ o. is_integers o || (is_times o || is_spans o)) e) v) ∙ h)
    by_form (Some Times) e k = number_inside here n v (sym (numeric_value s (Typed n) (ap (λ o. is_integers o || (is_times o || is_spans o)) e) v) ∙ h)
    by_form (Some Spans) e k = number_inside here n v (sym (numeric_value s (Typed n) (ap (λ o. is_integers o || (is_times o || is_spans o)) e) v) ∙ h)
    by_form (Some Booleans) e k = truth_inside here n v (sym (boolean_value s (Typed n) (ap is_booleans e) v) ∙ h)
    by_form (Some (Arrays index size element)) e k = cc
    by_form (Some (Records cs)) e k = cc
    by_form None e k = cc

module _ (here : Scope) (n : ℕ) where
  abbrev Inside : Value → Type 0
  Inside v = lies_inside here n v ≡ true

  fixed_inside : (c : Scalar) → lies_inside here n (value_of c) ≡ true
  fixed_inside (scalar.Number z) = refl
  fixed_inside (scalar.Truth b) = refl

  -- ---- what operators give

  computed_inside : (r : Checked) → OnGives Inside (computed r)
  computed_inside (Ok z) = refl
  computed_inside (Err x) = tt

  unary_inside : (operator : UnaryOperator) (v : Value) → OnGives Inside (unary_value operator v)
  unary_inside unary.Plus (Number z) = refl
  unary_inside unary.Minus (Number z) = computed_inside (negation_of z)
  unary_inside unary.Abs (Number z) = computed_inside (absolute_of z)
  unary_inside unary.Not (Truth b) = refl
  unary_inside operator v = tt

  binary_inside : (operator : BinaryOperator) (v w : Value) → OnGives Inside (binary_value operator v w)
  binary_inside binary.Add (Number x) (Number y) = computed_inside (sum_of x y)
  binary_inside binary.Subtract (Number x) (Number y) = computed_inside (difference_of x y)
  binary_inside binary.Multiply (Number x) (Number y) = computed_inside (product_of x y)
  binary_inside binary.Divide (Number x) (Number y) = computed_inside (quotient_of x y)
  binary_inside binary.Mod (Number x) (Number y) = computed_inside (modulus_of x y)
  binary_inside binary.Rem (Number x) (Number y) = computed_inside (remainder_of x y)
  binary_inside binary.Equal (Number x) (Number y) = refl
  binary_inside binary.NotEqual (Number x) (Number y) = refl
  binary_inside binary.Less (Number x) (Number y) = refl
  binary_inside binary.LessOrEqual (Number x) (Number y) = refl
  binary_inside binary.Greater (Number x) (Number y) = refl
  binary_inside binary.GreaterOrEqual (Number x) (Number y) = refl
  binary_inside binary.Equal (Truth x) (Truth y) = refl
  binary_inside binary.NotEqual (Truth x) (Truth y) = refl
  binary_inside binary.Less (Truth x) (Truth y) = refl
  binary_inside binary.LessOrEqual (Truth x) (Truth y) = refl
  binary_inside binary.Greater (Truth x) (Truth y) = refl
  binary_inside binary.GreaterOrEqual (Truth x) (Truth y) = refl
  binary_inside binary.And (Truth x) (Truth y) = refl
  binary_inside binary.Or (Truth x) (Truth y) = refl
  binary_inside binary.Xor (Truth x) (Truth y) = refl
  binary_inside binary.AndThen (Truth x) (Truth y) = refl
  binary_inside binary.OrElse (Truth x) (Truth y) = refl
  binary_inside operator v w = tt

  -- what decides alone is a truth value
  decided_inside : (operator : BinaryOperator) (v : Value) → is_decided operator v ≡ true → Inside v
  decided_inside operator (Truth b) h = refl
  decided_inside operator (Number z) h = refl
  decided_inside binary.AndThen (Array vs) h = cc
  decided_inside binary.OrElse (Array vs) h = cc
  decided_inside operator (Array vs) h = cc
  decided_inside binary.AndThen (Record fs) h = cc
  decided_inside binary.OrElse (Record fs) h = cc
  decided_inside operator (Record fs) h = cc

  then_inside : (v : Val Value) (go : Value → Val Value) → ((x : Value) → OnGives Inside (go x)) → OnGives Inside (and_then v go)
  then_inside (Gives x) go h = h x
  then_inside (Raises y) go h = tt
  then_inside Meaningless go h = tt

  operation_inside : (operator : BinaryOperator) (b : Val Value) (v : Value)
      → OnGives Inside (elim (is_decided operator v) [ true ↦ Gives v | false ↦ and_then b (binary_value operator v) ])
  operation_inside operator b v = by_test (is_decided operator v) refl
    where
      by_test : (d : Bool) → is_decided operator v ≡ d → OnGives Inside (elim d [ true ↦ Gives v | false ↦ and_then b (binary_value operator v) ])
      by_test true e = decided_inside operator v e
      by_test false e = then_inside b (binary_value operator v) (binary_inside operator v)

  -- ---- if expressions

  abbrev FoundInside : Val (Option Value) → Type 0
  FoundInside (Gives (Some v)) = Inside v
  FoundInside v = ⊤

  one_found : (v : Val Value) → OnGives Inside v → FoundInside (and_then v (λ x. Gives (Some x)))
  one_found (Gives x) h = h
  one_found (Raises y) h = tt
  one_found Meaningless h = tt

  more_found : (condition v : Val Value) (more : Val (Option Value)) → OnGives Inside v → FoundInside more
      → FoundInside (and_then (and_then condition truth_of) (λ holds. elim holds [ true ↦ and_then v (λ x. Gives (Some x)) | false ↦ more ]))
  more_found (Gives (Truth true)) v more h k = one_found v h
  more_found (Gives (Truth false)) v more h k = k
  more_found (Gives (Number z)) v more h k = tt
  more_found (Gives (Array vs)) v more h k = tt
  more_found (Gives (Record fs)) v more h k = tt
  more_found (Raises y) v more h k = tt
  more_found Meaningless v more h k = tt

  last_inside : (more : Val (Option Value)) (last : Val Value) → FoundInside more → OnGives Inside last
      → OnGives Inside (and_then more (λ found. elim found [ Some x ↦ Gives x | None ↦ last ]))
  last_inside (Gives (Some x)) last h k = h
  last_inside (Gives None) last h k = k
  last_inside (Raises y) last h k = tt
  last_inside Meaningless last h k = tt

  chosen_inside : (condition v : Val Value) (more : Val (Option Value)) (last : Val Value) → OnGives Inside v → FoundInside more → OnGives Inside last
      → OnGives Inside (and_then (and_then condition truth_of)
      (λ holds. elim holds [ true ↦ v | false ↦ and_then more (λ found. elim found [ Some x ↦ Gives x | None ↦ last ]) ]))
  chosen_inside (Gives (Truth true)) v more last h k l = h
  chosen_inside (Gives (Truth false)) v more last h k l = last_inside more last k l
  chosen_inside (Gives (Number z)) v more last h k l = tt
  chosen_inside (Gives (Array vs)) v more last h k l = tt
  chosen_inside (Gives (Record fs)) v more last h k l = tt
  chosen_inside (Raises y) v more last h k l = tt
  chosen_inside Meaningless v more last h k l = tt

-- ---- the one type of two parts is wanted of both

module _ (s : Scope) (n : ℕ) where
  abbrev IsOne : Own → Type 0
  IsOne own = (is_known own ≡ true) × (is_wanted s (OfType n) own ≡ true)

  both_one : (a b : Own) → IsOne (join s a b) → IsOne a × IsOne b
  both_one Universal Universal h = (h, h)
  both_one Universal (Typed m) h = by_test (is_integers (form_at s m)) refl h
    where
      by_test : (b : Bool) → is_integers (form_at s m) ≡ b → IsOne (cond b (Typed m) Unknown) → IsOne Universal × IsOne (Typed m)
      by_test true e k = ((refl, ap (λ x. is_integers (form_at s x)) (same_number n m k.1) ∙ e), k)
      by_test false e k = let bad = k.0 in cc
  both_one (Typed m) Universal h = by_test (is_integers (form_at s m)) refl h
    where
      by_test : (b : Bool) → is_integers (form_at s m) ≡ b → IsOne (cond b (Typed m) Unknown) → IsOne (Typed m) × IsOne Universal
      by_test true e k = (k, (refl, ap (λ x. is_integers (form_at s x)) (same_number n m k.1) ∙ e))
      by_test false e k = let bad = k.0 in cc
  both_one (Typed m) (Typed k) h = by_test (nat_eq m k) refl h
    where
      by_test : (b : Bool) → nat_eq m k ≡ b → IsOne (cond b (Typed m) Unknown) → IsOne (Typed m) × IsOne (Typed k)
      by_test true e l = (l, (refl, ap (nat_eq n) (sym (same_number m k e)) ∙ l.1))
      by_test false e l = let bad = l.0 in cc
  both_one Unknown b h = let bad = h.0 in cc
  both_one Universal Unknown h = let bad = h.0 in cc
  both_one (Typed m) Unknown h = let bad = h.0 in cc

  -- of each part of an if expression up to here
  abbrev AllOne : ElsifValueTrees → Type 0
  AllOne NoElsifValues = ⊤
  AllOne (MoreElsifValues condition value rest) = IsOne (own_of s value) × AllOne rest

  all_one : (own : Own) (elsifs : ElsifValueTrees) → IsOne (elsif_own_of s own elsifs) → IsOne own × AllOne elsifs
  all_one own NoElsifValues h = (h, tt)
  all_one own (MoreElsifValues condition value rest) h =
      let later = all_one (join s own (own_of s value)) rest h in
      let two = both_one own (own_of s value) later.0 in
      (two.0, (two.1, later.1))

-- ---- expressions

module _ (s : Scope) (p : Place) (agrees : Agrees s p) (calls : Calls) (answers : CallsAnswer calls p) (simple : ResultsAreSimple p)
    (objects : PartsLieHere s p)
  where
    abbrev Kept : Subtype → Value → Type 0
    Kept t v = lies_inside p.scope t.type_number v ≡ true

    abbrev Found : Subtype → Value → Type 0
    Found t v = is_simple (form_at p.scope t.type_number) ≡ true

    always : {A : Type 0} (v : Val Value) → A → OnGives (λ x. A) v
    always (Gives x) a = a
    always (Raises y) a = tt
    always Meaningless a = tt

    same_simple : (m : ℕ) (form : TypeForm) → form_at s m ≡ Some form → is_simple (Some form) ≡ true → is_simple (form_at p.scope m) ≡ true
    same_simple m form e h = ap is_simple (agrees.forms m form e) ∙ h

    times_simple : (m : ℕ) → is_times (form_at s m) ≡ true → is_simple (form_at p.scope m) ≡ true
    times_simple m h = by_form (form_at s m) refl h
      where
        by_form : (o : Option TypeForm) → form_at s m ≡ o → is_times o ≡ true → is_simple (form_at p.scope m) ≡ true
        by_form (Some Times) e k = same_simple m Times e refl
        by_form (Some Spans) e k = cc
        by_form (Some Integers) e k = cc
        by_form (Some Booleans) e k = cc
        by_form (Some (Arrays index size element)) e k = cc
        by_form (Some (Records cs)) e k = cc
        by_form None e k = cc

    spans_simple : (m : ℕ) → is_spans (form_at s m) ≡ true → is_simple (form_at p.scope m) ≡ true
    spans_simple m h = by_form (form_at s m) refl h
      where
        by_form : (o : Option TypeForm) → form_at s m ≡ o → is_spans o ≡ true → is_simple (form_at p.scope m) ≡ true
        by_form (Some Spans) e k = same_simple m Spans e refl
        by_form (Some Times) e k = cc
        by_form (Some Integers) e k = cc
        by_form (Some Booleans) e k = cc
        by_form (Some (Arrays index size element)) e k = cc
        by_form (Some (Records cs)) e k = cc
        by_form None e k = cc

    integers_simple : (m : ℕ) → is_integers (form_at s m) ≡ true → is_simple (form_at p.scope m) ≡ true
    integers_simple m h = by_form (form_at s m) refl h
      where
        by_form : (o : Option TypeForm) → form_at s m ≡ o → is_integers o ≡ true → is_simple (form_at p.scope m) ≡ true
        by_form (Some Integers) e k = same_simple m Integers e refl
        by_form (Some Times) e k = cc
        by_form (Some Spans) e k = cc
        by_form (Some Booleans) e k = cc
        by_form (Some (Arrays index size element)) e k = cc
        by_form (Some (Records cs)) e k = cc
        by_form None e k = cc

    -- the operations of the language give numbers
    language_simple : (o : PredefinedOperation) (profile : Profile) (t : Subtype) → IsSoundPredefined s o profile → profile.result ≡ Some t
        → is_simple (form_at p.scope t.type_number) ≡ true
    language_simple predefined.Clock profile t sound r =
        subst (λ u. is_simple (form_at p.scope u.type_number) ≡ true) (same_some sound.subtype t (sym sound.result
        ∙ r)) (times_simple sound.subtype.type_number sound.form)
    language_simple predefined.Milliseconds profile t sound r =
        subst (λ u. is_simple (form_at p.scope u.type_number) ≡ true) (same_some sound.subtype t (sym sound.result
        ∙ r)) (spans_simple sound.subtype.type_number sound.form)
    language_simple predefined.Microseconds profile t sound r =
        subst (λ u. is_simple (form_at p.scope u.type_number) ≡ true) (same_some sound.subtype t (sym sound.result
        ∙ r)) (spans_simple sound.subtype.type_number sound.form)
    language_simple predefined.Read profile t sound r =
        subst (λ u. is_simple (form_at p.scope u.type_number) ≡ true) (same_some sound.subtype t (sym sound.result ∙ r))
        (integers_simple sound.subtype.type_number sound.form)

    known : Knows s p calls Kept Found
    known =
        record {
          objects = objects;
          inside = λ t v h. h;
          parts = λ t v h. lying_inside p.scope t v h;
          converted = λ t z form h. ap is_simple form;
          results = λ actions owner name f vs found. always (calls (record p { actions = actions }) f vs) (simple owner name f found);
          given = λ number o profile t vs at r fit. always _ (language_simple o profile t (agrees.sound.each number (Predefined o profile) at) r);
        }

    module _ (n : ℕ) (there : is_some (form_at s n) ≡ true) where
      -- where the name ends in an object or a part of one, it lies there; anything else has no parts
      ends_inside : (w : Standing) (v : Val Value) → is_wanted s (OfType n) (own_of_standing w) ≡ true → suits s (own_of_standing w) v ≡ true
          → Ends s p agrees calls answers Kept Found known w v
          → OnGives (Inside p.scope n) v
      ends_inside (standing.Part r t) (Gives x) wanted suited h = subst (λ m. lies_inside p.scope m x ≡ true) (sym (same_number n t.type_number wanted)) h
      ends_inside (standing.Given t c) (Gives x) wanted suited h =
          let same : n ≡ t.type_number = same_number n t.type_number wanted in
          let own : is_value_of s (Typed n) x ≡ true = subst (λ m. is_value_of s (Typed m) x ≡ true) (sym same) suited in
          let plain : is_simple (form_at p.scope n) ≡ true = subst (λ m. is_simple (form_at p.scope m) ≡ true) (sym same) h in
          simple_inside s p.scope n x (ap is_simple (sym (same_form s p agrees n there)) ∙ plain) own
      ends_inside (standing.Named t) (Gives x) wanted suited h = absurd h
      ends_inside (standing.Fixed t c) (Gives x) wanted suited h = absurd h
      ends_inside (standing.Callee f) (Gives x) wanted suited h = absurd h
      ends_inside (standing.Protected k) (Gives x) wanted suited h = absurd h
      ends_inside (standing.Plain z) (Gives x) wanted suited h = absurd h
      ends_inside standing.Put (Gives x) wanted suited h = absurd h
      ends_inside standing.Statement (Gives x) wanted suited h = absurd h
      ends_inside standing.Task (Gives x) wanted suited h = absurd h
      ends_inside standing.Other (Gives x) wanted suited h = absurd h
      ends_inside standing.Doubtful (Gives x) wanted suited h = absurd h
      ends_inside w (Raises y) wanted suited h = tt
      ends_inside w Meaningless wanted suited h = tt

      name_inside : (w : Standing) (v : Val Value) (o : Option Scalar) → is_wanted s (OfType n) (own_of_standing w) ≡ true
          → suits s (own_of_standing w) v ≡ true
          → NameEnds s p agrees calls answers Kept Found known w o v
          → OnGives (Inside p.scope n) v
      name_inside w v (Some c) wanted suited h = subst (OnGives (Inside p.scope n)) (sym h) (fixed_inside p.scope n c)
      name_inside w v None wanted suited h = ends_inside w v wanted suited h

      mutual
        expression_inside : (e : ExprTree) (w : Wanted) → faults_in s w e ≡ [] → is_wanted s (OfType n) (own_of s e) ≡ true
            → OnGives (Inside p.scope n) (value_with calls p e)
        expression_inside (tree.Number z place) w h one = refl
        expression_inside (Named first selectors) w h one =
            name_inside (standing_of s first selectors) (value_with calls p (Named first selectors)) (fixed_value (standing_of s first selectors)) one
            (expression s p agrees calls answers (Named first selectors) w h).suited
            (name_ends s p agrees calls answers Kept Found known w first selectors h)
        expression_inside (Parenthesized place e) w h one = expression_inside e w h one
        expression_inside (Unary operator place e) w h one = then_inside p.scope n (value_with calls p e) (unary_value operator)
            (unary_inside p.scope n operator)
        expression_inside (Binary operator a b) w h one =
            then_inside p.scope n (value_with calls p a) _ (operation_inside p.scope n operator (value_with calls p b))
        expression_inside (Conditional place condition value elsifs last) w h one =
            let inner = conditional_wanted s w value elsifs last in
            let parts = unbroken_parts s w place condition value last elsifs h in
            let whole = (expression s p agrees calls answers (Conditional place condition value elsifs last) w h).known in
            let two = both_one s n (elsif_own_of s (own_of s value) elsifs) (own_of s last) (whole, one) in
            let more = all_one s n (own_of s value) elsifs two.0 in
            chosen_inside p.scope n (value_with calls p condition) (value_with calls p value) (elsif_with calls p elsifs) (value_with calls p last)
            (expression_inside value inner parts.first more.0.1) (elsifs_inside elsifs inner parts.middle more.1)
            (expression_inside last inner parts.end two.1.1)

        elsifs_inside : (elsifs : ElsifValueTrees) (w : Wanted) → elsif_faults s w elsifs ≡ [] → AllOne s n elsifs
            → FoundInside p.scope n (elsif_with calls p elsifs)
        elsifs_inside NoElsifValues w h one = tt
        elsifs_inside (MoreElsifValues condition value rest) w h one =
            let two = unbroken_elsif s w condition value rest h in
            more_found p.scope n (value_with calls p condition) (value_with calls p value) (elsif_with calls p rest) (expression_inside value w two.0 one.0.1)
            (elsifs_inside rest w two.1 one.1)

pub composites_lie : CallsAreTyped → CompositesLie
composites_lie typed s p agrees sound simple objects e n there h =
    let calls = call p.frames_left in
    let answers = typed.answered p sound p.frames_left in
    let inside = faults_in s (OfType n) e in
    let own = mismatch s (OfType n) (own_of s e) (start_of e) in
    let legal = front_empty inside own h in
    let fits = expected s (OfType n) (own_of s e) (start_of e) (value_with calls p e) (expression s p agrees calls answers e (OfType n) legal)
    (back_empty inside own h) in
    expression_inside s p agrees calls answers simple objects n there e (OfType n) legal fits.fitting
