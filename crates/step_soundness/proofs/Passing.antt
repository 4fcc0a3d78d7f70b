-- Actual parameters of legal calls: values and targets of the types of the formals, or an exception (RM 6.4.1).
use Rattle.std.proofs.Common.{◌≡◌, ℕ, suc, List, [], ◌∷◌, ◌++◌, length, map, not, Some, refl, sym, ap, ◌∙◌, subst, arith}
use Rattle.std.specs.Prelude.{nat_eq, slice_get, if◌then◌else◌, ⊤}
use Rattle.expr_soundness.specs.ada_tree.specs.declared.declaration.Mode.{Mode}
use Rattle.expr_soundness.specs.ada_tree.specs.declared.declaration.Mode.TheVariants as mode
use Rattle.expr_soundness.specs.ada_tree.specs.ExpressionTree as tree
use Rattle.expr_soundness.specs.ada_tree.specs.ExpressionTree.{ExprTree, Named, ArgumentTrees, NoArguments, MoreArguments, ArgumentTree, Text}
use Rattle.expr_soundness.specs.types.specs.declared.entity.Subtype.{Subtype}
use Rattle.expr_soundness.specs.types.specs.declared.entity.FormalParameter.{FormalParameter}
use Rattle.expr_soundness.specs.types.specs.declared.standing.Standing.{Standing}
use Rattle.expr_soundness.specs.types.specs.declared.standing.Standing.TheVariants as standing
use Rattle.expr_soundness.specs.types.specs.Scopes.{Scope}
use Rattle.expr_soundness.specs.types.specs.Standings.{count, standing_of}
use Rattle.expr_soundness.specs.types.specs.Values.{Value}
use Rattle.expr_soundness.specs.types.specs.Evaluations.{Val, Gives, Raises, Meaningless, and_then}
use Rattle.expr_soundness.specs.types.specs.Places.{object_of}
use Rattle.expr_soundness.specs.types.specs.Evaluating.{passed}
use Rattle.expr_soundness.specs.expr_rules.specs.declared.own.Own.{Own}
use Rattle.expr_soundness.specs.expr_rules.specs.declared.own.Own.TheVariants.{Typed}
use Rattle.expr_soundness.specs.expr_rules.specs.declared.own.Wanted.TheVariants.{Anything, OfType}
use Rattle.expr_soundness.specs.expr_rules.specs.Faults.{Faults}
use Rattle.expr_soundness.specs.expr_rules.specs.Typing.{own_of_standing}
use Rattle.expr_soundness.specs.expr_rules.specs.NameRules.{actual_rule, formal_slot, mismatch, slot_at, value_rule, variable_rule}
use Rattle.expr_soundness.specs.expr_rules.specs.ExpressionRules.{argument_faults, arguments_faults, faults_in, faults_of, name_faults}
use Rattle.expr_soundness.specs.expr_rules.proofs.TypedLaw.{back_empty, front_empty, same_number, unbroken}
use Rattle.stmt_rules.specs.declared.around.Around.{Around}
use Rattle.expr_soundness.specs.SoundScopes.{AreKnown, IsKnown}
use Rattle.expr_soundness.specs.Lying.{OnGives}
use Rattle.expr_soundness.specs.meaning.specs.Programs.{Parameter, Program}
use Rattle.expr_soundness.specs.meaning.specs.Works.{Activation, Home, InActivation, InPackage, InObject, Item, Part, Target}
use Rattle.expr_soundness.specs.meaning.specs.Targets.{named_target, objects_of, part_value, target, target_value, value_in}
use Rattle.expr_soundness.specs.meaning.specs.Calls.{Actuals, is_out, actual, actual_expression, actuals, copied_both, copied_in, copied_out, value_or_nothing, with_actuals}
use Rattle.expr_soundness.specs.meaning.specs.SourceSteps.{Here, evaluate, place_of}
use Rattle.step_soundness.specs.Objects.{AreOf, AreSoundObjects, AreTargets, GivesOrRaises, IsOf, IsPartIn, IsReached, IsTarget, subtype_in}
use Rattle.step_soundness.specs.Fitting.{formal_of, result_types, taken_types}
use Rattle.step_soundness.specs.Judged.{Waiting}
use Rattle.step_soundness.specs.Laws.{Premises}
use Rattle.step_soundness.proofs.Aiming.{IsNamedTarget, NamesTarget, objects_at, names_target, part_valued}
use Rattle.step_soundness.proofs.Reaching.{target_reached}
use Rattle.step_soundness.proofs.Raising.{target_predefined}
use Rattle.step_soundness.proofs.Going.{At, Current, agrees_here, comes_then, comes_weaker, functions_here}
use Rattle.step_soundness.proofs.Valued.{passed_comes, value_comes}
use Rattle.step_soundness.proofs.Storing.{object_sound, object_there}
use Rattle.step_soundness.proofs.Stating.{target_comes, target_of_place}
use Rattle.step_soundness.proofs.Turning.{not_false}

-- ---- the formal for each actual, by its number

abbrev pub Indexed : List FormalParameter → ℕ → List FormalParameter → Type 0
Indexed all k [] = ⊤
Indexed all k (f ∷ fs) = (slice_get all k ≡ Some f) × Indexed all (suc k) fs

indexed_behind : (y : FormalParameter) (all : List FormalParameter) (k : ℕ) (fs : List FormalParameter) → Indexed all k fs → Indexed (y ∷ all) (suc k) fs
indexed_behind y all k [] h = tt
indexed_behind y all k (f ∷ fs) h = (h.0, indexed_behind y all (suc k) fs h.1)

pub indexed : (fs : List FormalParameter) → Indexed fs 0 fs
indexed [] = tt
indexed (f ∷ fs) = (refl, indexed_behind f fs 0 fs (indexed fs))

-- ---- what the actuals for formals are

abbrev pub taken_subtypes : List Parameter → List Subtype
taken_subtypes [] = []
taken_subtypes (f ∷ fs) = if is_out f.mode then taken_subtypes fs else f.subtype ∷ taken_subtypes fs

-- what is known of a value that is passed to a formal of a subtype, beside its type
abbrev pub AllWorth : (Subtype → Value → Type 0) → List Subtype → List Value → Type 0
AllWorth Worth [] [] = ⊤
AllWorth Worth (t ∷ ts) (v ∷ vs) = (Worth t v) × (AllWorth Worth ts vs)
AllWorth Worth ts vs = ⊥

abbrev pub ActualsFit : (Subtype → Value → Type 0) → Program → Activation → List Parameter → Actuals → Type 0
ActualsFit Worth program own fs x =
    (AreOf program.scope (taken_types fs) x.values) × (AreTargets program own (result_types fs) x.targets) × (AllWorth Worth (taken_subtypes fs) x.values)

-- one actual, whatever the others are
abbrev OneFits : (Subtype → Value → Type 0) → Program → Activation → Parameter → Actuals → Type 0
OneFits Worth program own f x =
    (fs : List Parameter) (rest : Actuals) → ActualsFit Worth program own fs rest
    → (AreOf program.scope (taken_types (f ∷ fs)) (x.values ++ rest.values)) × (AreTargets program own (result_types (f ∷ fs)) (x.targets ++ rest.targets))
    × (AllWorth Worth (taken_subtypes (f ∷ fs)) (x.values ++ rest.values))

-- so much is known of the values of legal expressions and of variables, once they are checked
pub record Passes (h : Here) (s : Scope) (items : List Item) (Worth : Subtype → Value → Type 0) : Type 0 where
  pub expressions : (t : Subtype) (e : ExprTree) → IsKnown s t → faults_of s (OfType t.type_number) e ≡ []
      → OnGives (Worth t) (and_then (evaluate h items e) (passed t))
  pub variables : (t : Subtype) (x : Target) (v : Value) → x.subtype.type_number ≡ t.type_number
      → IsPartIn h.program.scope (objects_at (place_of h items) x.home) x
      → target_value x h.memory h.own ≡ Some v → OnGives (Worth t) (passed t v)

both_come : {A : Type 0} (K L : A → Type 0) (v : Val A) → GivesOrRaises K v → OnGives L v → GivesOrRaises (λ x. K x × L x) v
both_come K L (Gives x) k l = (k, l)
both_come K L (Raises x) k l = k
both_come K L Meaningless k l = absurd k

-- ---- names of variables as actuals

abbrev own_number : Own → ℕ
own_number (Typed k) = k
own_number o = 0

-- a variable of the type that is expected is a variable
variable_still : (s : Scope) (place n : ℕ) (w : Standing) → variable_rule s place (OfType n) w ≡ [] → variable_rule s place Anything w ≡ []
variable_still s place n (standing.Part r t) h = back_empty (mismatch s (OfType n) (Typed t.type_number) place)
    (variable_rule s place Anything (standing.Part r t)) h
variable_still s place n (standing.Fixed t v) h = back_empty (mismatch s (OfType n) (Typed t.type_number) place)
    (variable_rule s place Anything (standing.Fixed t v)) h
variable_still s place n standing.Doubtful h = h
variable_still s place n (standing.Given t v) h = h
variable_still s place n (standing.Plain z) h = h
variable_still s place n (standing.Named t) h = h
variable_still s place n (standing.Callee f) h = h
variable_still s place n standing.Put h = h
variable_still s place n (standing.Protected k) h = h
variable_still s place n standing.Statement h = h
variable_still s place n standing.Task h = h
variable_still s place n standing.Other h = h

typed_alike : (s : Scope) (place n k m : ℕ) (rest : Faults) → mismatch s (OfType n) (Typed k) place ++ rest ≡ [] → Typed k ≡ Typed m → n ≡ m
typed_alike s place n k m rest h own =
    same_number n k (not_false (nat_eq n k) (unbroken _ place (not (nat_eq n k)) (front_empty (mismatch s (OfType n) (Typed k) place) rest h)))
    ∙ ap own_number own

-- and of that type
variable_type : (s : Scope) (place n m : ℕ) (w : Standing) → variable_rule s place (OfType n) w ≡ [] → own_of_standing w ≡ Typed m → n ≡ m
variable_type s place n m (standing.Part r t) h own = typed_alike s place n t.type_number m (variable_rule s place Anything (standing.Part r t)) h own
variable_type s place n m (standing.Fixed t v) h own = typed_alike s place n t.type_number m (variable_rule s place Anything (standing.Fixed t v)) h own
variable_type s place n m standing.Doubtful h own = cc
variable_type s place n m (standing.Given t v) h own = cc
variable_type s place n m (standing.Plain z) h own = cc
variable_type s place n m (standing.Named t) h own = cc
variable_type s place n m (standing.Callee f) h own = cc
variable_type s place n m standing.Put h own = cc
variable_type s place n m (standing.Protected k) h own = cc
variable_type s place n m standing.Statement h own = cc
variable_type s place n m standing.Task h own = cc
variable_type s place n m standing.Other h own = cc

module _ (h : Here) (s : Scope) (outer : List Waiting) (a : Around) (items : List Item) (laws : Premises h.program) (at : At h s outer a items)
    (Worth : Subtype → Value → Type 0) (worth : Passes h s items Worth) where
  c : Current h s outer
  c = at.current

  -- the value of a target now
  value_at : (home : Home) (name : List ℕ) (parts : List Part) (t u : Subtype) → subtype_in (objects_at (place_of h items) home) name ≡ Some t
      → AreSoundObjects h.program.scope (objects_at (place_of h items) home)
      → (w : Value) × (value_in (object_of (objects_at (place_of h items) home) name) parts ≡ part_value parts w) × (IsOf h.program.scope t.type_number w)
  value_at home name parts t u there sound =
      let x = object_there (objects_at (place_of h items) home) name t there in
      let suited = object_sound h.program.scope (objects_at (place_of h items) home) name x.0 sound x.1 in
      (x.0.value, ap (λ o. value_in o parts) x.1, subst (λ k. IsOf h.program.scope k.type_number x.0.value) x.2 suited)

  objects_sound : (home : Home) → AreSoundObjects h.program.scope (objects_at (place_of h items) home)
  objects_sound InActivation = c.own.locals
  objects_sound InPackage = c.store.variables
  objects_sound (InObject o) = c.store.components o

  objects_same : (home : Home) (name : List ℕ) (parts : List Part) (u : Subtype)
      → objects_of (record { home = home; name = name; parts = parts; subtype = u }) h.memory h.own ≡ objects_at (place_of h items) home
  objects_same InActivation name parts u = refl
  objects_same InPackage name parts u = refl
  objects_same (InObject o) name parts u = refl

  target_valued : (x : Target) → IsPartIn h.program.scope (objects_at (place_of h items) x.home) x
      → (w : Value) × (target_value x h.memory h.own ≡ Some w) × (IsOf h.program.scope x.subtype.type_number w)
  target_valued x is =
      let whole = value_at x.home x.name x.parts is.whole x.subtype is.found (objects_sound x.home) in
      let part = part_valued laws.targets h.program.scope is.whole x.subtype x.parts whole.0 laws.sound is.part whole.2 in
      (part.0, ap (λ l. value_in (object_of l x.name) x.parts) (objects_same x.home x.name x.parts x.subtype) ∙ whole.1 ∙ part.1, part.2)

  -- an actual for `out` or `in out` names a target of the type of the formal
  variable_comes : (e : ExprTree) (n : ℕ) → faults_in s (OfType n) e ++ actual_rule s (OfType n) e ≡ []
      → GivesOrRaises (λ x. (x.subtype.type_number ≡ n) × IsPartIn h.program.scope (objects_at (place_of h items) x.home) x
      × IsTarget h.program h.own x) (named_target (place_of h items) e)
  variable_comes (Named first selectors) n legal =
      comes_weaker (λ x. IsNamedTarget s (place_of h items) w x × IsReached h.own.within x.home)
      (λ x. (x.subtype.type_number ≡ n) × IsPartIn h.program.scope (objects_at (place_of h items) x.home) x
      × IsTarget h.program h.own x) (target (place_of h items) first.name selectors)
      (target_comes s (place_of h items) w (target (place_of h items) first.name selectors) (target_predefined (place_of h items) first.name selectors)
      (target_reached (place_of h items) first.name selectors) named)
      (λ x f. (sym (variable_type s first.place n x.subtype.type_number w rule f.0.own), f.0.part, target_of_place h s outer a items laws at w x f))
    where
      w : Standing
      w = standing_of s first selectors

      whole : Faults
      whole = faults_in s (OfType n) (Named first selectors)

      rule : variable_rule s first.place (OfType n) (standing_of s first selectors) ≡ []
      rule = back_empty whole (variable_rule s first.place (OfType n) (standing_of s first selectors)) legal

      names : name_faults s first selectors ≡ []
      names = front_empty (name_faults s first selectors) (value_rule first.place (standing_of s first selectors))
          (front_empty whole (variable_rule s first.place (OfType n) (standing_of s first selectors)) legal)

      named : NamesTarget s (place_of h items) w (target (place_of h items) first.name selectors)
      named =
          names_target laws.targets s (place_of h items) first selectors (agrees_here h s outer c items) (functions_here h s outer c items)
          (ap (λ l. l ++ variable_rule s first.place Anything (standing_of s first selectors)) names
          ∙ variable_still s first.place n (standing_of s first selectors) rule)
  variable_comes (tree.Number z place) n legal = cc
  variable_comes (tree.Parenthesized place e) n legal = let bad = back_empty (faults_in s (OfType n) (tree.Parenthesized place e)) _ legal in cc
  variable_comes (tree.Unary operator place e) n legal = let bad = back_empty (faults_in s (OfType n) (tree.Unary operator place e)) _ legal in cc
  variable_comes (tree.Binary operator x y) n legal = let bad = back_empty (faults_in s (OfType n) (tree.Binary operator x y)) _ legal in cc
  variable_comes (tree.Conditional place x y elsifs z) n legal = let bad = back_empty
      (faults_in s (OfType n) (tree.Conditional place x y elsifs z)) _ legal in cc

  -- one actual, by the mode of its formal
  in_comes : (name : List ℕ) (t : Subtype) (e : ExprTree) → IsKnown s t → faults_of s (OfType t.type_number) e ≡ []
      → GivesOrRaises (OneFits Worth h.program h.own (record { name = name; mode = mode.In; subtype = t }))
      (actual_expression (place_of h items) h.memory h.own (record { name = name; mode = mode.In; subtype = t }) e)
  in_comes name t e known legal =
      comes_then (λ v. IsOf h.program.scope t.type_number v × Worth t v) (OneFits Worth h.program h.own (record { name = name; mode = mode.In; subtype = t }))
      (and_then (evaluate h items e) (passed t)) copied_in
      (both_come (IsOf h.program.scope t.type_number) (Worth t) (and_then (evaluate h items e) (passed t))
      (comes_then (IsOf h.program.scope t.type_number) (IsOf h.program.scope t.type_number) (evaluate h items e) (passed t)
      (value_comes h s outer laws c items e t.type_number known legal)
      (λ v i. passed_comes (IsOf h.program.scope t.type_number) t v i))
      (worth.expressions t e known legal))
      (λ v i fs rest others. ((i.0, others.0), others.1, (i.1, others.2)))

  out_comes : (name : List ℕ) (t : Subtype) (e : ExprTree) → faults_in s (OfType t.type_number) e ++ actual_rule s (OfType t.type_number) e ≡ []
      → GivesOrRaises (OneFits Worth h.program h.own (record { name = name; mode = mode.Out; subtype = t }))
      (actual_expression (place_of h items) h.memory h.own (record { name = name; mode = mode.Out; subtype = t }) e)
  out_comes name t e legal =
      comes_then (λ x. (x.subtype.type_number ≡ t.type_number) × IsPartIn h.program.scope (objects_at (place_of h items) x.home) x × IsTarget h.program h.own x)
      (OneFits Worth h.program h.own (record { name = name; mode = mode.Out; subtype = t })) (named_target (place_of h items) e) copied_out
      (variable_comes e t.type_number legal)
      (λ x f fs rest others. (others.0, (f.0, f.2, others.1), others.2))

  both_comes : (name : List ℕ) (t : Subtype) (e : ExprTree) → faults_in s (OfType t.type_number) e ++ actual_rule s (OfType t.type_number) e ≡ []
      → GivesOrRaises (OneFits Worth h.program h.own (record { name = name; mode = mode.InOut; subtype = t }))
      (actual_expression (place_of h items) h.memory h.own (record { name = name; mode = mode.InOut; subtype = t }) e)
  both_comes name t e legal =
      comes_then (λ x. (x.subtype.type_number ≡ t.type_number) × IsPartIn h.program.scope (objects_at (place_of h items) x.home) x × IsTarget h.program h.own x)
      (OneFits Worth h.program h.own (record { name = name; mode = mode.InOut; subtype = t })) (named_target (place_of h items) e)
      (λ x. and_then (and_then (value_or_nothing (target_value x h.memory h.own)) (passed t)) (copied_both x)) (variable_comes e t.type_number legal)
      (λ x f. with_value x f (target_valued x f.1))
    where
      with_value : (x : Target) → (f : (x.subtype.type_number ≡ t.type_number) × IsPartIn h.program.scope (objects_at (place_of h items) x.home) x
          × IsTarget h.program h.own x)
          → ((w : Value) × (target_value x h.memory h.own ≡ Some w) × (IsOf h.program.scope x.subtype.type_number w))
          → GivesOrRaises (OneFits Worth h.program h.own (record { name = name; mode = mode.InOut; subtype = t }))
          (and_then (and_then (value_or_nothing (target_value x h.memory h.own)) (passed t)) (copied_both x))
      with_value x f w =
          subst (λ o. GivesOrRaises (OneFits Worth h.program h.own (record {
            name = name;
            mode = mode.InOut;
            subtype = t;
          })) (and_then (and_then (value_or_nothing o) (passed t)) (copied_both x))) (sym w.1)
          (comes_then (λ v. IsOf h.program.scope t.type_number v
          × Worth t v) (OneFits Worth h.program h.own (record { name = name; mode = mode.InOut; subtype = t }))
          (passed t w.0) (copied_both x)
          (both_come (IsOf h.program.scope t.type_number) (Worth t) (passed t w.0)
          (passed_comes (IsOf h.program.scope t.type_number) t w.0 (subst (λ k. IsOf h.program.scope k w.0) f.0 w.2)) (worth.variables t x w.0 f.0 f.1 w.1))
          (λ v i fs rest others. ((i.0, others.0), (f.0, f.2, others.1), (i.1, others.2))))

  expression_comes : (name : List ℕ) (m : Mode) (t : Subtype) (e : ExprTree) → IsKnown s t
      → argument_faults s (formal_slot (record { mode = m; subtype = t })) (tree.Value e) ≡ []
      → GivesOrRaises (OneFits Worth h.program h.own (record { name = name; mode = m; subtype = t }))
      (actual_expression (place_of h items) h.memory h.own (record { name = name; mode = m; subtype = t }) e)
  expression_comes name mode.In t e known legal = in_comes name t e known legal
  expression_comes name mode.Out t e known legal = out_comes name t e legal
  expression_comes name mode.InOut t e known legal = both_comes name t e legal

  no_label : (m : Mode) (t : Subtype) (label : List ℕ) (place : ℕ)
      → argument_faults s (formal_slot (record { mode = m; subtype = t })) (Text label place) ≡ [] → ⊥
  no_label mode.In t label place legal = cc
  no_label mode.Out t label place legal = cc
  no_label mode.InOut t label place legal = cc

  actual_comes : (f : Parameter) (x : ArgumentTree) → IsKnown s f.subtype → argument_faults s (formal_slot (formal_of f)) x ≡ []
      → GivesOrRaises (OneFits Worth h.program h.own f) (actual (place_of h items) h.memory h.own f x)
  actual_comes f (tree.Value e) known legal = expression_comes f.name f.mode f.subtype e known legal
  actual_comes f (Text label place) known legal = absurd (no_label f.mode f.subtype label place legal)

  -- all of them, from the one with this number on
  pub actuals_come : (w : Standing) (formals : List FormalParameter)
      → ((k : ℕ) (f : FormalParameter) → slice_get formals k ≡ Some f → slot_at s w k ≡ formal_slot f) → (k : ℕ) (fs : List Parameter)
      → (args : ArgumentTrees) → Indexed formals k (map formal_of fs) → AreKnown s (map formal_of fs) → count args ≡ length fs
      → arguments_faults s w k args ≡ []
      → GivesOrRaises (ActualsFit Worth h.program h.own fs) (actuals (place_of h items) h.memory h.own fs args)
  actuals_come w formals slots k [] NoArguments at_k known counted legal = (tt, tt, tt)
  actuals_come w formals slots k (f ∷ fs) (MoreArguments x rest) at_k known counted legal =
      let own = argument_faults s (slot_at s w k) x in
      let of_x : argument_faults s (formal_slot (formal_of f)) x ≡ [] =
      subst (λ z. argument_faults s z x ≡ []) (slots k (formal_of f) at_k.0) (front_empty own (arguments_faults s w (suc k) rest) legal)
      in
      let fewer : count rest ≡ length fs = omega (arith, counted) in
      comes_then (OneFits Worth h.program h.own f) (ActualsFit Worth h.program h.own (f ∷ fs)) (actual (place_of h items) h.memory h.own f x)
      (λ one. and_then (actuals (place_of h items) h.memory h.own fs rest) (with_actuals one)) (actual_comes f x known.0 of_x)
      (λ one o. comes_then (ActualsFit Worth h.program h.own fs) (ActualsFit Worth h.program h.own (f ∷ fs))
      (actuals (place_of h items) h.memory h.own fs rest) (with_actuals one)
      (actuals_come w formals slots (suc k) fs rest at_k.1 known.1 fewer (back_empty own (arguments_faults s w (suc k) rest) legal))
      (λ others i. o fs others i))
  actuals_come w formals slots k [] (MoreArguments x rest) at_k known counted legal = absurd (omega (arith, counted))
  actuals_come w formals slots k (f ∷ fs) NoArguments at_k known counted legal = absurd (omega (arith, counted))
