-- What is known of a loop over a range that breaks no rule: its bounds are of integer types, and its parameter is visible in its statements, with the first of
-- two words of the frame.
use Rattle.std.proofs.Common.{◌≡◌, ℕ, ◌++◌, [], Bool, true, false, not, ◌&&◌, Option, Some, None, ap, subst, arith, ℤ}
use Rattle.std.specs.Prelude.{int_le, int_lt, is_some}
use Rattle.base.specs.declared.faults.TheConstants.{NO_MEANING}
use Rattle.ada_tree.specs.declared.expression.Identifier.{Identifier}
use Rattle.ada_tree.specs.ExpressionTree.{ExprTree}
use Rattle.ada_tree.specs.StatementTree.{For, Loop, RangeTree, StmtTrees}
use Rattle.types.specs.Places.{Place}
use Rattle.types.specs.Scopes.{Scope, form_at, integer_type, is_visible}
use Rattle.types.specs.Statics.{start_of}
use Rattle.types.specs.Values.{Number, Value}
use Rattle.expr_soundness.specs.expr_rules.specs.declared.own.Own.{Own}
use Rattle.expr_soundness.specs.expr_rules.specs.declared.own.Own.TheVariants.{Typed, Universal, Unknown}
use Rattle.expr_soundness.specs.expr_rules.specs.declared.own.Wanted.TheVariants.{AnyInteger}
use Rattle.expr_soundness.specs.expr_rules.specs.ExpressionRules.{faults_in, faults_of}
use Rattle.expr_soundness.specs.expr_rules.specs.Faults.{Faults}
use Rattle.expr_soundness.specs.expr_rules.specs.NameRules.{mismatch}
use Rattle.expr_soundness.specs.expr_rules.specs.Typing.{is_integers, is_integral, is_known, is_wanted, own_of}
use Rattle.expr_soundness.specs.expr_rules.proofs.TypedLaw.{back_empty, front_empty, judged, unbroken}
use Rattle.type_rules.specs.SubtypeNames.{declared_twice}
use Rattle.declaration_rules.specs.BodyNames.{bounds_type, if_integers, last_rule, loop_faults, loop_scope, loop_type, turns_subtype}
use Rattle.part_code.specs.stmt_rules.specs.StatementRules.{in_loop, stmts_faults}
use Rattle.expr_soundness.specs.SoundScopes.{SoundScope}
use Rattle.expr_code.specs.Emitting as expressions
use Rattle.expr_code.specs.Seeing.{Package}
use Rattle.expr_code.specs.Widths.{width_of}
use Rattle.expr_code.proofs.Widths.{integral_one, known}
use Rattle.stmt_code.specs.Emitting.{AreAcceptedStatements, IsAcceptedStatement}
use Rattle.stmt_code.specs.Leaves.{any_leave}
use Rattle.stmt_code.specs.declared.leaves.WayOut.TheVariants as way
use Rattle.part_code.specs.Resting.{Framed, Knows}
use Rattle.stmt_code.specs.Turns.{is_full}
use Rattle.stmt_code.proofs.Adding.{wanted_legal}
use Rattle.part_code.specs.Statements.{Ways, with_exit}
use Rattle.stmt_code.proofs.Accepting.{ways_in_loop}
use Rattle.types.specs.declared.entity.Subtype.{Subtype}
use Rattle.types.specs.Bounds.{bounds_of}
use Rattle.types.specs.Evaluations.{Val, Gives, Raises, Meaningless, and_then}
use Rattle.types.specs.Evaluating.{call, val, value_with}
use Rattle.expr_soundness.specs.BoundsLaw.{ValuesAreBounded, VisibleValuesLie}
use Rattle.expr_soundness.specs.Lying.{comes_between}
use Rattle.expr_code.specs.Views.{View}
use Rattle.part_code.specs.Counting.{bounds, number_bounds, with_last, Bounds}
use Rattle.expr_soundness.proofs.Elements.{both_left, both_right}

-- ---- what is legal

module _ (s : Scope) (w : Ways) (place : ℕ) (parameter : Identifier) (reversed : Bool) (range : RangeTree) (body : StmtTrees)
    (h : IsAcceptedStatement s w (Loop place (For parameter reversed range) body)) where
  pub loop_range : loop_faults s parameter range ≡ []
  loop_range = front_empty (loop_faults s parameter range) (stmts_faults (loop_scope s parameter range) (in_loop h.around) body) h.unbroken

  pub loop_body : (exit : Option ℕ) → (any_leave body way.Exit ≡ true → is_some exit ≡ true)
      → AreAcceptedStatements (loop_scope s parameter range) (with_exit exit w) body
  loop_body exit there = record {
    around = in_loop h.around;
    ways = ways_in_loop w h.around (any_leave body) exit there h.ways;
    unbroken = back_empty (loop_faults s parameter range) (stmts_faults (loop_scope s parameter range) (in_loop h.around) body) h.unbroken;
    restricted = h.restricted;
  }

-- an integer is wanted
module _ (s : Scope) (sound : SoundScope s) (e : ExprTree) (h : faults_of s AnyInteger e ≡ []) where
  pub integer_own : is_integral s (own_of s e) ≡ true
  integer_own =
      let own = own_of s e in
      let inside = faults_in s AnyInteger e in
      let ends = mismatch s AnyInteger own (start_of e) in
      judged (is_known own) (is_wanted s AnyInteger own)
      (unbroken NO_MEANING (start_of e) (is_known own && not (is_wanted s AnyInteger own)) (back_empty inside ends h))
      (known s sound e AnyInteger (front_empty inside ends h))

  pub integer_width : width_of s e ≡ 1
  integer_width = integral_one s (own_of s e) integer_own

  pub integer_legal : expressions.IsLegalExpression s e
  integer_legal = wanted_legal s AnyInteger e h

-- the parameter's subtype, of the type of the bounds
pub record IsOfIntegers (s : Scope) (range : RangeTree) : Type 0 where
  pub number : ℕ
  pub typed : loop_type s range ≡ Some number
  pub integers : is_integers (form_at s number) ≡ true

abbrev pub subtype_in : (s : Scope) (range : RangeTree) → IsOfIntegers s range → Subtype
subtype_in s range of_type = turns_subtype s range of_type.number

module _ (s : Scope) (parameter : Identifier) (range : RangeTree) (legal : loop_faults s parameter range ≡ []) where
  abbrev of_first : Faults
  of_first = faults_of s AnyInteger range.first

  abbrev of_last : Faults
  of_last = faults_of s AnyInteger range.last

  abbrev rule : Faults
  rule = last_rule s (loop_type s range) (own_of s range.last) (start_of range.last)

  both : of_first ++ of_last ≡ []
  both = front_empty (of_first ++ of_last) rule (front_empty (of_first ++ of_last ++ rule) (declared_twice s parameter) legal)

  pub first_legal : faults_of s AnyInteger range.first ≡ []
  first_legal = front_empty of_first of_last both

  pub last_legal : faults_of s AnyInteger range.last ≡ []
  last_legal = back_empty of_first of_last both

  pub parameter_hidden : is_visible s parameter.name ≡ false
  parameter_hidden =
      unbroken _ parameter.place (is_visible s parameter.name) (back_empty (of_first ++ of_last ++ rule) (declared_twice s parameter) legal)

  abbrev some_if : Bool → ℕ → Option ℕ
  some_if b n = elim b [ true ↦ Some n | false ↦ None ]

  bounds_known : (x y : Own) → is_integral s x ≡ true → is_integral s y ≡ true → is_integers (form_at s integer_type) ≡ true
      → (n : ℕ) × (if_integers s (bounds_type x y) ≡ Some n) × (is_integers (form_at s n) ≡ true)
  bounds_known Unknown y i j k = cc
  bounds_known Universal Unknown i j k = cc
  bounds_known Universal Universal i j k = (integer_type, ap (λ b. some_if b integer_type) k, k)
  bounds_known Universal (Typed n) i j k = (n, ap (λ b. some_if b n) j, j)
  bounds_known (Typed n) y i j k = (n, ap (λ b. some_if b n) i, i)

  pub range_type : SoundScope s → IsOfIntegers s range
  range_type sound =
      let found = bounds_known (own_of s range.first) (own_of s range.last) (integer_own s sound range.first first_legal)
      (integer_own s sound range.last last_legal)
      (ap is_integers sound.integer) in
      record { number = found.0; typed = found.1; integers = found.2 }

-- ---- the numbers of the range

both_at_least : (a b : Bool) → a ≡ true → b ≡ true → (a && b) ≡ true
both_at_least true b h k = k
both_at_least false b h k = cc

least_of : (t : ℤ × ℤ) (z : ℤ) → comes_between t (Gives (Number z)) ≡ true → int_le t.0 z ≡ true
least_of t z h = both_left (int_le t.0 z) (int_le z t.1) h

greatest_of : (t : ℤ × ℤ) (z : ℤ) → comes_between t (Gives (Number z)) ≡ true → int_le z t.1 ≡ true
greatest_of t z h = both_right (int_le t.0 z) (int_le z t.1) h

given_bounds : (a b : Bounds) → Gives a ≡ Gives b → a ≡ b
given_bounds a b e = cc

-- what both bounds come to
two_given : (a b : Val Value) (x y : ℤ) → and_then a (λ v. and_then b (with_last v)) ≡ Gives (number_bounds x y)
    → (a ≡ Gives (Number x)) × (b ≡ Gives (Number y))
two_given (Gives v) (Gives w) x y h =
    let e = given_bounds (record { first = v; last = w }) (number_bounds x y) h in (ap (λ q. Gives q.first) e, ap (λ q. Gives q.last) e)
two_given (Gives v) (Raises n) x y h = cc
two_given (Gives v) Meaningless x y h = cc
two_given (Raises n) b x y h = cc
two_given Meaningless b x y h = cc

-- wherever the frame stands both lie between what is known of them
module _ (bounded : ValuesAreBounded) (visible : VisibleValuesLie) (g : Package) (v : Framed) (parameter : Identifier) (range : RangeTree)
    (legal : loop_faults v.names.scope parameter range ≡ []) (p : Place) (view : View) (x y : ℤ) (knows : Knows g v p view)
    (gives : bounds range (call p.frames_left) p ≡ Gives (number_bounds x y)) where
  abbrev here_seen : Scope
  here_seen = v.names.scope

  lies : (e : ExprTree) → faults_of here_seen AnyInteger e ≡ [] → comes_between (bounds_of here_seen e) (val p e) ≡ true
  lies e h =
      let agrees = knows.sees.names.agrees in
      bounded here_seen p agrees knows.sees.unit.sound (visible here_seen p agrees knows.sees.unit.values knows.sees.loops) e AnyInteger
      (front_empty (faults_in here_seen AnyInteger e) (mismatch here_seen AnyInteger (own_of here_seen e) (start_of e)) h)

  both_come : (value_with (call p.frames_left) p range.first ≡ Gives (Number x)) × (value_with (call p.frames_left) p range.last ≡ Gives (Number y))
  both_come = two_given (value_with (call p.frames_left) p range.first) (value_with (call p.frames_left) p range.last) x y gives

  first_lies : comes_between (bounds_of here_seen range.first) (Gives (Number x)) ≡ true
  first_lies =
      subst (λ v. comes_between (bounds_of here_seen range.first) v ≡ true) both_come.0 (lies range.first (first_legal here_seen parameter range legal))

  last_lies : comes_between (bounds_of here_seen range.last) (Gives (Number y)) ≡ true
  last_lies = subst (λ v. comes_between (bounds_of here_seen range.last) v ≡ true) both_come.1 (lies range.last (last_legal here_seen parameter range legal))

  -- the range goes within the parameter's subtype
  pub range_fits : (number : ℕ) → (let t = turns_subtype v.names.scope range number in (int_le t.first x && int_le y t.last) ≡ true)
  range_fits number =
      both_at_least (int_le (bounds_of here_seen range.first).0 x) (int_le y (bounds_of here_seen range.last).1)
      (least_of (bounds_of here_seen range.first) x first_lies) (greatest_of (bounds_of here_seen range.last) y last_lies)

  -- it is never null where the one is never greater than the other
  pub never_null : is_full v.names.scope range ≡ true → int_lt y x ≡ false
  never_null full =
      between (bounds_of here_seen range.first).1 (bounds_of here_seen range.last).0 (greatest_of (bounds_of here_seen range.first) x first_lies) full
      (least_of (bounds_of here_seen range.last) y last_lies)
    where
      between : (a b : ℤ) → int_le x a ≡ true → int_le a b ≡ true → int_le b y ≡ true → int_lt y x ≡ false
      between a b low mid high = grind (arith, low, mid, high)
