-- Loops: their first turn, their further turns, their ends (RM 5.5).
use Rattle.std.proofs.Common.{◌≡◌, ℕ, ℤ, pos, List, [], ◌∷◌, ◌++◌, Bool, true, false, not, Option, Some, None, Ok, Err, cond, refl, sym, ap, subst}
use Rattle.std.specs.Prelude.{int_lt, option_map}
use Rattle.expr_soundness.specs.base.specs.Arithmetic.{Checked, difference_of, sum_of}
use Rattle.expr_soundness.specs.ada_tree.specs.declared.expression.Identifier.{Identifier}
use Rattle.expr_soundness.specs.ada_tree.specs.ExpressionTree.{ExprTree}
use Rattle.expr_soundness.specs.ada_tree.specs.StatementTree.{IterationTree, Forever, While, For, RangeTree, StmtTrees}
use Rattle.expr_soundness.specs.types.specs.Operators.{are_same}
use Rattle.expr_soundness.specs.types.specs.declared.entity.Subtype.{Subtype}
use Rattle.expr_soundness.specs.types.specs.Scopes.{Scope, form_at, integer_type, is_visible, with_name}
use Rattle.expr_soundness.specs.types.specs.Statics.{start_of}
use Rattle.expr_soundness.specs.types.specs.Values.{Value, Number}
use Rattle.expr_soundness.specs.types.specs.Places.{Object, Place}
use Rattle.expr_soundness.specs.expr_rules.specs.declared.own.Own.{Own}
use Rattle.expr_soundness.specs.expr_rules.specs.declared.own.Own.TheVariants.{Unknown, Universal, Typed}
use Rattle.expr_soundness.specs.expr_rules.specs.declared.own.Wanted.TheVariants.{AnyInteger}
use Rattle.expr_soundness.specs.expr_rules.specs.Typing.{is_integers, is_integral, own_of}
use Rattle.expr_soundness.specs.expr_rules.specs.NameRules.{mismatch}
use Rattle.expr_soundness.specs.expr_rules.specs.ExpressionRules.{faults_in, faults_of}
use Rattle.expr_soundness.specs.expr_rules.proofs.TypedLaw.{back_empty, front_empty, integral_numeric, suits_number, unbroken}
use Rattle.expr_soundness.specs.type_rules.specs.SubtypeNames.{declared_twice}
use Rattle.expr_soundness.specs.declaration_rules.specs.Laws.{StandsFirst}
use Rattle.expr_soundness.specs.declaration_rules.specs.BodyNames.{bounds_type, if_integers, last_rule, loop_faults, loop_scope, loop_type, parameter_entity, turns_subtype}
use Rattle.stmt_rules.specs.declared.around.Around.{Around}
use Rattle.stmt_rules.specs.SimpleRules.{condition_faults}
use Rattle.stmt_rules.specs.StatementRules.{in_loop, iteration_faults, iteration_scope, stmts_faults}
use Rattle.body_restrictions.specs.BodyRules as profile
use Rattle.expr_soundness.specs.meaning.specs.Programs.{Program}
use Rattle.expr_soundness.specs.meaning.specs.Works.{turn_subtype, Item, EndsAction, Repeats, RepeatsWhile, RepeatsFor, Activation}
use Rattle.expr_soundness.specs.meaning.specs.SourceSteps.{Here, before, begin_loop, condition, evaluate, for_range, for_turn, goes, next_number, next_turn, number_computed, while_turn, with_object, with_value}
use Rattle.step_soundness.specs.Objects.{GivesOrRaises, IsOf}
use Rattle.step_soundness.specs.Fitting.{FitsScope, Narrows}
use Rattle.step_soundness.specs.Opened.{IsHeld, opened_in}
use Rattle.step_soundness.specs.Judged.{AreFaultless, Begins, IsLoopParameter, IsReady, Judged, Waiting, turn_scope}
use Rattle.step_soundness.specs.Holding.{IsSoundStep, inside}
use Rattle.step_soundness.specs.Laws.{Premises}
use Rattle.step_soundness.proofs.Sights.{fits_fewer, fits_turn, narrows_same, narrows_then}
use Rattle.step_soundness.proofs.Raising.{exception_predefined}
use Rattle.step_soundness.proofs.Going.{At, Behind, Current, agrees_here, at_chosen, at_goes, at_value, before_judged, opened_before, ready_of, same_store, went}
use Rattle.step_soundness.proofs.Valued.{IsNumber, condition_comes, fitting_own, number_comes}

pub not_false : (b : Bool) → not b ≡ false → b ≡ true
not_false true h = refl
not_false false h = cc

pub begins_ready : (program : Program) (own : Activation) (s : Scope) (outer : List Waiting) (a : Around) (items : List Item) → Begins program s outer a items → IsReady program own s outer a items
begins_ready program own s outer a (EndsAction o completion ∷ items) b = absurd b
begins_ready program own s outer a items b = b

module _ (h : Here) (s : Scope) (outer : List Waiting) (laws : Premises h.program) (c : Current h s outer) where
  -- an object in front
  pub added : (a : Around) (items next : List Item) (x : Object) (later : Scope) → IsHeld h.own.within (opened_in items) → IsOf h.program.scope x.subtype.type_number x.value
      → ((p : Place) → FitsScope h.program s (inside h.program h.memory h.own p) → FitsScope h.program later (inside h.program h.memory (record h.own { locals = x ∷ h.own.locals }) p))
      → IsReady h.program (record h.own { locals = x ∷ h.own.locals }) later outer a next → opened_in next ≡ opened_in items → IsSoundStep h (opened_in items) (with_object h x next)
  added a items next x later held suited fits ready same =
      record {
        effect = (same, refl);
        store = same_store h.program h.own.within h.memory c.store;
        task = record {
          scope = later;
          outer = outer;
          around = a;
          work = ready;
          own = record { fits = λ p. fits p (c.own.fits p); locals = (suited, c.own.locals) };
          callers = c.callers;
          all = c.all;
          held = subst (IsHeld h.own.within) (sym same) held;
        };
        server = tt;
      }

  integers_here : is_integral h.program.scope (Typed integer_type) ≡ true
  integers_here = ap is_integers laws.sound.integer

  -- a turn of a loop over a range
  pub turn_sound : (a : Around) (items : List Item) (parameter : List ℕ) (reversed : Bool) (now last : ℤ) (body : StmtTrees) (outside : Scope) (t : Subtype) (b : Bool)
      → IsHeld h.own.within (opened_in items) → Narrows h.program s outside → IsLoopParameter outside parameter t → AreFaultless (turn_scope outside parameter t) (in_loop a) body
      → Narrows h.program (turn_scope outside parameter t) outside → Behind h.program outside outer (record a { in_loop = b }) items
      → IsSoundStep h (opened_in items) (for_turn h parameter reversed now last body items)
  turn_sound a items parameter reversed now last body outside t b held narrows new legal back rest =
      let loop = RepeatsFor parameter reversed now last body ∷ items in
      let inner = turn_scope outside parameter t in
      let behind : Behind h.program inner outer (in_loop a) loop = (inner, narrows_same h.program inner, (outside, t, back, new, legal, back, rest.0, b, rest.1, rest.2)) in
      let whole = before_judged h.program inner outer (in_loop a) body loop legal behind in
      let x : Object = record { name = parameter; subtype = turn_subtype now; value = Number now } in
      added (in_loop a) items (before body loop) x whole.0 held (suits_number h.program.scope (Typed integer_type) (integral_numeric h.program.scope (Typed integer_type) integers_here) now)
      (λ p fits. whole.1 _ (fits_turn h.program laws outside (inside h.program h.memory h.own p) parameter t now (narrows _ fits) new.unseen new.integers))
      (ready_of h.program _ whole.0 outer (in_loop a) (before body loop) whole.2)
      (opened_before body loop)

  module _ (a : Around) (items : List Item) (held : IsHeld h.own.within (opened_in items)) where
    -- the next turn of a loop without end
    pub forever_sound : (body : StmtTrees) (b : Bool) → AreFaultless s (in_loop a) body → Behind h.program s outer (record a { in_loop = b }) items
        → IsSoundStep h (opened_in items) (goes h (before body (Repeats body ∷ items)))
    forever_sound body b legal behind =
        let loop : Behind h.program s outer (in_loop a) (Repeats body ∷ items) = (s, narrows_same h.program s, (legal, behind.0, b, behind.1, behind.2)) in
        went h s outer c (in_loop a) items (before body (Repeats body ∷ items)) held (before_judged h.program s outer (in_loop a) body (Repeats body ∷ items) legal loop)
        (opened_before body (Repeats body ∷ items))

    pub while_sound : (e : ExprTree) (body : StmtTrees) (b : Bool) → condition_faults s e ≡ [] → AreFaultless s (in_loop a) body → Behind h.program s outer (record a { in_loop = b }) items
        → IsSoundStep h (opened_in items) (while_turn h e body items)
    while_sound e body b tested legal behind =
        at_value h s outer (record a { in_loop = b }) items (λ holds. Unit {0}) (record { current = c; held = held; behind = behind }) (condition h items e)
        (λ holds. goes h (cond holds (before body (RepeatsWhile e body ∷ items)) items)) (condition_comes h s outer laws c items e tested) (λ holds i. turn holds)
      where
        loop : Behind h.program s outer (in_loop a) (RepeatsWhile e body ∷ items)
        loop = (s, narrows_same h.program s, (tested, legal, behind.0, b, behind.1, behind.2))

        turn : (holds : Bool) → IsSoundStep h (opened_in items) (goes h (cond holds (before body (RepeatsWhile e body ∷ items)) items))
        turn true =
            went h s outer c (in_loop a) items (before body (RepeatsWhile e body ∷ items)) held (before_judged h.program s outer (in_loop a) body (RepeatsWhile e body ∷ items) legal loop)
            (opened_before body (RepeatsWhile e body ∷ items))
        turn false = went h s outer c (record a { in_loop = b }) items items held behind refl

    -- the next turn of a loop over a range
    pub next_sound : (parameter : List ℕ) (reversed : Bool) (now last : ℤ) (body : StmtTrees) → Judged h.program s outer a (RepeatsFor parameter reversed now last body ∷ items)
        → IsSoundStep h (opened_in items) (next_turn h parameter reversed now last body items)
    next_sound parameter reversed now last body j =
        let behind : Behind h.program s outer (record a { in_loop = j.7 }) items = (j.6, narrows_then h.program s j.0 j.6 j.2 j.8, j.9) in
        at_chosen h s outer a items (are_same now last) (goes h items)
        (with_value h (next_number h reversed now) items (λ next. for_turn h parameter reversed next last body items))
        (λ e. went h s outer c (record a { in_loop = j.7 }) items items held behind refl)
        (λ e. at_value h s outer (record a { in_loop = j.7 }) items (λ next. Unit {0}) (record { current = c; held = held; behind = behind })
        (next_number h reversed now)
        (λ next. for_turn h parameter reversed next last body items)
        (next_comes (cond reversed (difference_of now (pos 1)) (sum_of now (pos 1))))
        (λ next u. turn_sound a items parameter reversed next last body j.0 j.1 j.7 held j.2 j.3 j.4 j.5 (j.6, j.8, j.9)))
      where
        next_comes : (r : Checked) → GivesOrRaises (λ (next : ℤ). Unit {0}) (number_computed r)
        next_comes (Ok z) = tt
        next_comes (Err x) = exception_predefined x

  -- ---- loop statements

  abbrev some_if : Bool → ℕ → Option ℕ
  some_if b n = elim b [ true ↦ Some n | false ↦ None ]

  -- the type of a loop parameter: both bounds are of integer types
  bounds_known : (x y : Own) → is_integral s x ≡ true → is_integral s y ≡ true → is_integers (form_at s integer_type) ≡ true
      → (n : ℕ) × (if_integers s (bounds_type x y) ≡ Some n) × (is_integers (form_at s n) ≡ true)
  bounds_known Unknown y i j k = cc
  bounds_known Universal Unknown i j k = cc
  bounds_known Universal Universal i j k = (integer_type, ap (λ b. some_if b integer_type) k, k)
  bounds_known Universal (Typed n) i j k = (n, ap (λ b. some_if b n) j, j)
  bounds_known (Typed n) y i j k = (n, ap (λ b. some_if b n) i, i)

  module _ (a : Around) (items : List Item) (at : At h s outer a items) where
    range_sound : (parameter : Identifier) (reversed : Bool) (body : StmtTrees) (t : Subtype) → IsLoopParameter s parameter.name t → AreFaultless (turn_scope s parameter.name t) (in_loop a) body
        → Narrows h.program (turn_scope s parameter.name t) s → (v w : Value) → IsNumber v → IsNumber w → IsSoundStep h (opened_in items) (for_range h parameter reversed body items v w)
    range_sound parameter reversed body t new legal back v w one two =
        let turn : (r : Bool) (now last : ℤ) → IsSoundStep h (opened_in items) (for_turn h parameter.name r now last body items) =
        λ r now last. turn_sound a items parameter.name r now last body s t a.in_loop at.held (narrows_same h.program s) new legal back at.behind
        in
        let down = for_turn h parameter.name true two.0 one.0 body items in
        let up = for_turn h parameter.name false one.0 two.0 body items in
        subst (λ x. IsSoundStep h (opened_in items) (for_range h parameter reversed body items x w)) (sym one.1)
        (subst (λ y. IsSoundStep h (opened_in items) (for_range h parameter reversed body items (Number one.0) y)) (sym two.1)
        (at_chosen h s outer a items (int_lt two.0 one.0) (goes h items) (cond reversed down up) (λ e. at_goes h s outer a items at)
        (λ e. at_chosen h s outer a items reversed down up (λ i. turn true two.0 one.0) (λ i. turn false one.0 two.0))))

    for_sound : (parameter : Identifier) (reversed : Bool) (range : RangeTree) (body : StmtTrees) → loop_faults s parameter range ≡ [] → stmts_faults (loop_scope s parameter range) (in_loop a) body ≡ []
        → profile.stmts_faults body ≡ [] → IsSoundStep h (opened_in items) (begin_loop h (For parameter reversed range) body items)
    for_sound parameter reversed range body legal inner plain =
        let first = faults_of s AnyInteger range.first in
        let last = faults_of s AnyInteger range.last in
        let rule = last_rule s (loop_type s range) (own_of s range.last) (start_of range.last) in
        let three = front_empty (first ++ last ++ rule) (declared_twice s parameter) legal in
        let two = front_empty (first ++ last) rule three in
        let of_first = front_empty first last two in
        let of_last = back_empty first last two in
        let in_first = front_empty (faults_in s AnyInteger range.first) (mismatch s AnyInteger (own_of s range.first) (start_of range.first)) of_first in
        let in_last = front_empty (faults_in s AnyInteger range.last) (mismatch s AnyInteger (own_of s range.last) (start_of range.last)) of_last in
        let integral_first = fitting_own h s outer laws c items range.first AnyInteger of_first in
        let integral_last = fitting_own h s outer laws c items range.last AnyInteger of_last in
        let sound = (agrees_here h s outer c items).sound in
        let found = bounds_known (own_of s range.first) (own_of s range.last) integral_first integral_last (ap is_integers sound.integer) in
        let t = turns_subtype s range found.0 in
        let same : loop_scope s parameter range ≡ turn_scope s parameter.name t =
        ap (λ o. with_name s parameter.name (parameter_entity (option_map (turns_subtype s range) o))) found.1 in
        let new : IsLoopParameter s parameter.name t =
        record { unseen = unbroken _ parameter.place (is_visible s parameter.name) (back_empty (first ++ last ++ rule) (declared_twice s parameter) legal); integers = found.2 }
        in
        let body_legal : AreFaultless (turn_scope s parameter.name t) (in_loop a) body = (subst (λ t. stmts_faults t (in_loop a) body ≡ []) same inner, plain) in
        let back : Narrows h.program (turn_scope s parameter.name t) s =
        λ p fits. fits_fewer h.program laws s (turn_scope s parameter.name t) p (subst (λ t. StandsFirst s t) same (laws.added.parameter s parameter range)) sound fits
        in
        at_value h s outer a items IsNumber at (evaluate h items range.first) (λ v. with_value h (evaluate h items range.last) items (λ w. for_range h parameter reversed body items v w))
        (number_comes h s outer laws c items range.first AnyInteger in_first (integral_numeric s (own_of s range.first) integral_first))
        (λ v one.
        at_value h s outer a items IsNumber at (evaluate h items range.last) (λ w. for_range h parameter reversed body items v w)
        (number_comes h s outer laws c items range.last AnyInteger in_last (integral_numeric s (own_of s range.last) integral_last))
        (λ w two. range_sound parameter reversed body t new body_legal back v w one two))

    pub loop_sound : (iteration : IterationTree) (body : StmtTrees) → iteration_faults s iteration ≡ [] → stmts_faults (iteration_scope s iteration) (in_loop a) body ≡ []
        → profile.stmts_faults body ≡ [] → IsSoundStep h (opened_in items) (begin_loop h iteration body items)
    loop_sound Forever body legal inner plain = forever_sound a items at.held body a.in_loop (inner, plain) at.behind
    loop_sound (While e) body legal inner plain = while_sound a items at.held e body a.in_loop legal (inner, plain) at.behind
    loop_sound (For parameter reversed range) body legal inner plain = for_sound parameter reversed range body legal inner plain
