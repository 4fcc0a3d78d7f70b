-- What a meaning has to be where a legal name stands for this: an object of the subtype, a function of the profile, and so on.
use Rattle.std.proofs.Common.{◌≡◌, ℕ, List, [], ◌∷◌, map, Bool, true, false, ◌⊎◌, inl, inr, Option, Some, None, sym, ◌∙◌}
use Rattle.std.specs.Prelude.{⊤}
use Rattle.meaning.specs.ada_tree.specs.ExpressionTree.{SelectorTrees, NoSelectors, MoreSelectors, SelectorTree, Component, Arguments, Attribute}
use Rattle.meaning.specs.types.specs.declared.entity.Subtype.{Subtype}
use Rattle.meaning.specs.types.specs.declared.entity.Role.{Role}
use Rattle.meaning.specs.types.specs.declared.entity.Role.TheVariants as role
use Rattle.meaning.specs.types.specs.declared.entity.Value.{Value as Scalar}
use Rattle.meaning.specs.types.specs.declared.entity.FormalParameter.{FormalParameter}
use Rattle.meaning.specs.types.specs.declared.entity.PredefinedOperation.{PredefinedOperation}
use Rattle.meaning.specs.types.specs.declared.standing.Standing.{Standing}
use Rattle.meaning.specs.types.specs.declared.standing.Standing.TheVariants as standing
use Rattle.meaning.specs.types.specs.Entities.{Profile, ProtectedObject}
use Rattle.meaning.specs.types.specs.Scopes.{Scope, form_at, protected_at}
use Rattle.meaning.specs.types.specs.Values.{Value, fits}
use Rattle.meaning.specs.types.specs.Shapes.{has_shape}
use Rattle.meaning.specs.types.specs.Standings.{call_stands, callee_profile, result_stands, select, select_all}
use Rattle.meaning.specs.types.specs.Evaluations.{Val, Gives, Raises, Meaningless}
use Rattle.meaning.specs.types.specs.Places.{Function, Place, Meaning, IsFunction, IsPredefined, IsSubtype, IsValue, function_of}
use Rattle.meaning.specs.types.specs.Evaluating.{fixed_value}
use Rattle.meaning.specs.expr_rules.specs.Typing.{is_integers}
use Rattle.meaning.specs.expr_rules.specs.NameRules.{part_rule, value_rule}
use Rattle.meaning.specs.expr_rules.specs.ExpressionRules.{selector_faults, selectors_faults}
use Rattle.meaning.specs.expr_rules.specs.Laws.{type_shape}
use Rattle.meaning.specs.expr_rules.proofs.TypedLaw.{back_empty, front_empty}
use Rattle.expr_soundness.specs.SoundScopes.{AreKnown, IsKnown, IsSoundObject, IsSoundPredefined, SoundScope}
use Rattle.expr_soundness.specs.Agreeing.{HasProfile, MeansNumber, MeansObject, MeansOne, MeansProtected, parameter_subtype}
use Rattle.expr_soundness.proofs.Goods.{Good, GoodCallee, good_select, no_constant_parts, part_unbroken}

-- ---- what is meant

-- a loop parameter
pub record MeansParameter (s here : Scope) (m : Meaning) (t : Subtype) : Type 0 where
  pub number : MeansNumber here m
  pub integers : is_integers (form_at s t.type_number) ≡ true

-- an object: a loop parameter, or one of this subtype
abbrev pub MeansPart : Scope → (here : Scope) → Meaning → Subtype → Type 0
MeansPart s here m t = MeansObject s m t ⊎ MeansParameter s here m t

pub means_part : (s here : Scope) (m : Meaning) (r : Role) (t : Subtype) → IsSoundObject s r t → MeansOne s here m r t → MeansPart s here m t
means_part s here m role.LoopParameter t sound h = inr (record { number = h; integers = sound })
means_part s here m r t sound h = inl h

pub record MeansValue (s : Scope) (m : Meaning) (t : Subtype) : Type 0 where
  pub value : Value
  pub is : m ≡ IsValue value
  pub suited : has_shape (type_shape s t.type_number) value ≡ true

pub record IsDeclared (p : Place) (m : Meaning) (profile : Profile) : Type 0 where
  pub function : Function
  pub through : Option ProtectedObject
  pub owner : Option ℕ
  pub name : List ℕ
  pub is : m ≡ IsFunction function through
  pub found : function_of p.functions owner name ≡ Some function
  pub profiled : HasProfile function profile

pub record IsOfLanguage (s : Scope) (m : Meaning) (profile : Profile) : Type 0 where
  pub operation : PredefinedOperation
  pub is : m ≡ IsPredefined operation
  pub sound : IsSoundPredefined s operation profile

abbrev pub CanBeCalled : Scope → Place → Meaning → Profile → Type 0
CanBeCalled s p m profile = IsDeclared p m profile ⊎ IsOfLanguage s m profile

abbrev pub DenotesResult : Scope → Place → Profile → Option Subtype → Meaning → Type 0
DenotesResult s p profile (Some t) m = CanBeCalled s p m profile
DenotesResult s p profile None m = ⊤

abbrev pub DenotesCallee : Scope → Place → Option Profile → Meaning → Type 0
DenotesCallee s p (Some profile) m = DenotesResult s p profile profile.result m
DenotesCallee s p None m = ⊤

abbrev pub DenotesProtected : Place → Option ProtectedObject → Meaning → Type 0
DenotesProtected p (Some o) m = MeansProtected p m o
DenotesProtected p None m = ⊤

abbrev pub DenotesGiven : Scope → Subtype → Option Scalar → Meaning → Type 0
DenotesGiven s t None m = MeansValue s m t
DenotesGiven s t (Some v) m = ⊤

abbrev pub Denotes : Scope → Place → Standing → Meaning → Type 0
Denotes s p (standing.Part r t) m = MeansPart s p.scope m t
Denotes s p (standing.Named t) m = m ≡ IsSubtype t
Denotes s p (standing.Given t v) m = DenotesGiven s t v m
Denotes s p (standing.Callee f) m = DenotesCallee s p (callee_profile s f) m
Denotes s p (standing.Protected n) m = DenotesProtected p (protected_at s n) m
Denotes s p w m = ⊤

-- ---- what is never a value here: a statement, what is no value at all, or what has one already by types and constants alone

abbrev pub gives_nothing : Option Subtype → Bool
gives_nothing (Some t) = false
gives_nothing None = true

abbrev pub is_statement : Option Profile → Bool
is_statement (Some p) = gives_nothing p.result
is_statement None = true

abbrev pub is_empty : Scope → Standing → Bool
is_empty s (standing.Part r t) = false
is_empty s (standing.Named t) = false
is_empty s (standing.Given t None) = false
is_empty s (standing.Callee f) = is_statement (callee_profile s f)
is_empty s (standing.Protected n) = false
is_empty s w = true

abbrev pub Meant : (Meaning → Type 0) → Type 0 → Val Meaning → Type 0
Meant means never (Gives m) = means m
Meant means never (Raises x) = ⊤
Meant means never Meaningless = never

-- it comes to such a meaning, or raises an exception
abbrev pub Comes : Scope → Place → Standing → Val Meaning → Type 0
Comes s p w v = Meant (Denotes s p w) (is_empty s w ≡ true) v

-- a value of each subtype
abbrev pub AreValues : Scope → List Subtype → List Value → Type 0
AreValues s [] [] = ⊤
AreValues s (t ∷ ts) (v ∷ vs) = (has_shape (type_shape s t.type_number) v ≡ true) × (fits t v ≡ true) × (AreValues s ts vs)
AreValues s ts vs = ⊥

abbrev pub AllKnown : Scope → List Subtype → Type 0
AllKnown s [] = ⊤
AllKnown s (t ∷ ts) = (IsKnown s t) × (AllKnown s ts)

pub formals_known : (s : Scope) (fs : List FormalParameter) → AreKnown s fs → AllKnown s (map parameter_subtype fs)
formals_known s [] h = tt
formals_known s (f ∷ fs) h = (h.0, formals_known s fs h.1)

-- ---- legal names that are empty

module _ (s : Scope) (sound : SoundScope s) where
  statement_ends : (place : ℕ) (selectors : SelectorTrees) → selectors_faults s place standing.Statement selectors ≡ []
      → value_rule place (select_all s standing.Statement selectors) ≡ [] → ⊥
  statement_ends place NoSelectors h v = cc
  statement_ends place (MoreSelectors x rest) h v =
      let here = front_empty (selector_faults s place standing.Statement x) (selectors_faults s place (select s standing.Statement x) rest) h in
      good_select s sound place standing.Statement x tt (part_unbroken s sound place standing.Statement x here)

  result_ends : (place : ℕ) (selectors : SelectorTrees) (r : Option Subtype) → gives_nothing r ≡ true
      → selectors_faults s place (result_stands r) selectors ≡ [] → value_rule place (select_all s (result_stands r) selectors) ≡ [] → ⊥
  result_ends place parts None e h v = statement_ends place parts h v
  result_ends place _ (Some t) e h v = cc

  call_ends : (place : ℕ) (selectors : SelectorTrees) (o : Option Profile) → GoodCallee s o → is_statement o ≡ true
      → selectors_faults s place (call_stands o) selectors ≡ [] → value_rule place (select_all s (call_stands o) selectors) ≡ [] → ⊥
  call_ends place parts (Some p) g e h v = result_ends place parts p.result e h v
  call_ends place _ None g e h v = g

  settled_call : (place : ℕ) (o : Option Profile) → GoodCallee s o → is_statement o ≡ true → value_rule place (call_stands o) ≡ [] → ⊥
  settled_call place (Some p) g e v = by_result p.result e v
    where
      by_result : (r : Option Subtype) → gives_nothing r ≡ true → value_rule place (result_stands r) ≡ [] → ⊥
      by_result (Some t) e v = cc
      by_result None e v = cc
  settled_call place None g e v = g

  empty_part : (place : ℕ) (x : SelectorTree) (rest : SelectorTrees) (w : Standing) → is_empty s w ≡ true → Good s w → part_rule s place w x ≡ []
      → selectors_faults s place (select s w x) rest ≡ []
      → value_rule place (select_all s (select s w x) rest) ≡ [] → ⊥
  empty_part place (Arguments a) rest (standing.Callee f) e g part later v = call_ends place rest (callee_profile s f) g e later v
  empty_part place (Component name) rest (standing.Callee f) e g part later v = good_select s sound place (standing.Callee f) (Component name) g part
  empty_part place (Attribute name) rest (standing.Callee f) e g part later v = good_select s sound place (standing.Callee f) (Attribute name) g part
  empty_part place (Arguments a) rest standing.Put e g part later v = statement_ends place rest later v
  empty_part place (Component name) rest standing.Put e g part later v = good_select s sound place standing.Put (Component name) g part
  empty_part place (Attribute name) rest standing.Put e g part later v = good_select s sound place standing.Put (Attribute name) g part
  empty_part place x rest (standing.Fixed t c) e g part later v = no_constant_parts s sound place t c x g part
  empty_part place x rest (standing.Given t (Some c)) e g part later v = good_select s sound place (standing.Given t (Some c)) x g part
  empty_part place x rest (standing.Plain z) e g part later v = good_select s sound place (standing.Plain z) x g part
  empty_part place x rest standing.Statement e g part later v = good_select s sound place standing.Statement x g part
  empty_part place x rest standing.Task e g part later v = good_select s sound place standing.Task x g part
  empty_part place x rest standing.Other e g part later v = good_select s sound place standing.Other x g part
  empty_part place x rest standing.Doubtful e g part later v = g
  empty_part place x rest (standing.Given t None) e g part later v = cc
  empty_part place x rest (standing.Part r t) e g part later v = cc
  empty_part place x rest (standing.Named t) e g part later v = cc
  empty_part place x rest (standing.Protected n) e g part later v = cc

  -- what is empty breaks a rule, or has a fixed value
  pub empty_ends : (place : ℕ) (selectors : SelectorTrees) (w : Standing) → is_empty s w ≡ true → Good s w → selectors_faults s place w selectors ≡ []
      → value_rule place (select_all s w selectors) ≡ []
      → fixed_value (select_all s w selectors) ≡ None → ⊥
  empty_ends place NoSelectors (standing.Fixed t c) e g h v none = let k = sym g.given ∙ none in cc
  empty_ends place NoSelectors (standing.Given t (Some c)) e g h v none = cc
  empty_ends place NoSelectors (standing.Given t None) e g h v none = cc
  empty_ends place NoSelectors (standing.Plain z) e g h v none = cc
  empty_ends place NoSelectors (standing.Callee f) e g h v none = settled_call place (callee_profile s f) g e v
  empty_ends place NoSelectors standing.Put e g h v none = cc
  empty_ends place NoSelectors standing.Statement e g h v none = cc
  empty_ends place NoSelectors standing.Task e g h v none = cc
  empty_ends place NoSelectors standing.Other e g h v none = cc
  empty_ends place NoSelectors standing.Doubtful e g h v none = g
  empty_ends place NoSelectors (standing.Part r t) e g h v none = cc
  empty_ends place NoSelectors (standing.Named t) e g h v none = cc
  empty_ends place NoSelectors (standing.Protected n) e g h v none = cc
  empty_ends place (MoreSelectors x rest) w e g h v none =
      empty_part place x rest w e g (part_unbroken s sound place w x (front_empty (selector_faults s place w x) (selectors_faults s place (select s w x) rest) h))
      (back_empty (selector_faults s place w x) (selectors_faults s place (select s w x) rest) h) v
