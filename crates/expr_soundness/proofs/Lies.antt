-- Parts of values that lie in their subtypes, and what a function returns.
use Rattle.std.proofs.Common.{◌≡◌, [], ◌∷◌, ℕ, zero, suc, List, Bool, true, false, Some, refl, sym, ap, ◌∙◌, subst}
use Rattle.std.specs.Prelude.{ℤ, ◌&&◌, bytes_eq, cond}
use Rattle.std.proofs.lemmas.Slice.Eq.{bytes_eq-Decides}
use Rattle.meaning.specs.base.specs.declared.exceptions.PredefinedException.TheVariants.{ConstraintError}
use Rattle.expr_soundness.proofs.Elements.{both_left, both_right}
use Rattle.expr_soundness.proofs.Positions.{same_some}
use Rattle.meaning.specs.ada_tree.specs.ExpressionTree as tree
use Rattle.meaning.specs.ada_tree.specs.ExpressionTree.{ArgumentTree, ArgumentTrees, MoreArguments, NoArguments}
use Rattle.meaning.specs.types.specs.declared.entity.Subtype.{Subtype}
use Rattle.meaning.specs.types.specs.declared.entity.RecordComponent.{RecordComponent}
use Rattle.meaning.specs.types.specs.Entities.{Arrays}
use Rattle.meaning.specs.types.specs.Evaluating.{Calls, actual_with, actuals_with, call, entered, passed, value_with}
use Rattle.meaning.specs.types.specs.Evaluations.{Val, Gives, Raises, Meaningless, and_then, raise}
use Rattle.meaning.specs.types.specs.Places.{Place}
use Rattle.meaning.specs.types.specs.Scopes.{Scope}
use Rattle.meaning.specs.types.specs.Standings.{component_of}
use Rattle.meaning.specs.types.specs.Values.{Value, Number, Truth, Array, Record, Values, NoValues, MoreValues, Fields, NoFields, MoreFields, element_at, field_of, fits}
use Rattle.meaning.specs.types.specs.Bounds.{subtype_bounds}
use Rattle.expr_soundness.specs.Lying.{OnGives, ReturnWithin, are_between, comes_between, elements_lie, fields_lie, is_between, lies, lies_inside}

-- what lies in a subtype lies between its bounds
pub lies_between : (s : Scope) (t : Subtype) (v : Value) → lies s t v ≡ true → is_between (subtype_bounds t) v ≡ true
lies_between s t (Number z) h = h
lies_between s t (Truth b) h = refl
lies_between s t (Array vs) h = refl
lies_between s t (Record fs) h = refl

-- a number lies in the subtype where it fits, and a composite value where its parts lie
pub lying_inside : (s : Scope) (t : Subtype) (v : Value) → lies s t v ≡ true → lies_inside s t.type_number v ≡ true
lying_inside s t (Number z) h = refl
lying_inside s t (Truth b) h = refl
lying_inside s t (Array vs) h = h
lying_inside s t (Record fs) h = h

pub fitting_lies : (s : Scope) (t : Subtype) (v : Value) → fits t v ≡ true → lies_inside s t.type_number v ≡ true → lies s t v ≡ true
fitting_lies s t (Number z) h k = h
fitting_lies s t (Truth b) h k = refl
fitting_lies s t (Array vs) h k = k
fitting_lies s t (Record fs) h k = k

pub gives_between : (bounds : ℤ × ℤ) (v : Val Value) → comes_between bounds v ≡ true → OnGives (λ x. is_between bounds x ≡ true) v
gives_between bounds (Gives x) h = h
gives_between bounds (Raises n) h = tt
gives_between bounds Meaningless h = tt

pub element_lies : (s : Scope) (index : Subtype) (size : ℕ) (element : Subtype) (vs : Values) (n : ℕ) (v : Value)
    → elements_lie s (Some (Arrays index size element)) vs ≡ true → element_at vs n ≡ Some v → lies s element v ≡ true
element_lies s index size element NoValues n v h at = cc
element_lies s index size element (MoreValues x rest) zero v h at =
    let here : lies s element x ≡ true = both_left (lies s element x) (elements_lie s (Some (Arrays index size element)) rest) h in
    subst (λ y. lies s element y ≡ true) (same_some x v at) here
element_lies s index size element (MoreValues x rest) (suc n) v h at =
    element_lies s index size element rest n v (both_right (lies s element x) (elements_lie s (Some (Arrays index size element)) rest) h) at

pub field_lies : (s : Scope) (cs : List RecordComponent) (fs : Fields) (name : List ℕ) (t : Subtype) (v : Value) → fields_lie s cs fs ≡ true
    → component_of cs name ≡ Some t → field_of fs name ≡ Some v → lies s t v ≡ true
field_lies s cs NoFields name t v h named at = cc
field_lies s [] (MoreFields own x rest) name t v h named at = cc
field_lies s (c ∷ cs) (MoreFields own x rest) name t v h named at =
    by_test (bytes_eq c.name name) refl named at (field_lies s cs rest name t v (both_right (lies s c.subtype x) (fields_lie s cs rest) both))
  where
    both : (lies s c.subtype x && fields_lie s cs rest) ≡ true
    both = both_right (bytes_eq own c.name) (lies s c.subtype x && fields_lie s cs rest) h

    same : own ≡ c.name
    same = (bytes_eq-Decides own c.name).0 (both_left (bytes_eq own c.name) (lies s c.subtype x && fields_lie s cs rest) h)

    by_test : (b : Bool) → bytes_eq c.name name ≡ b → cond b (Some c.subtype) (component_of cs name) ≡ Some t
        → cond (bytes_eq own name) (Some x) (field_of rest name) ≡ Some v
        → (component_of cs name ≡ Some t → field_of rest name ≡ Some v → lies s t v ≡ true)
        → lies s t v ≡ true
    by_test true e k l later =
        let found : Some x ≡ Some v = sym (ap (λ b. cond b (Some x) (field_of rest name)) (ap (λ n. bytes_eq n name) same ∙ e)) ∙ l in
        subst (λ u. lies s u v ≡ true) (same_some c.subtype t k)
        (subst (λ y. lies s c.subtype y ≡ true) (same_some x v found) (both_left (lies s c.subtype x) (fields_lie s cs rest) both))
    by_test false e k l later = later k (sym (ap (λ b. cond b (Some x) (field_of rest name)) (ap (λ n. bytes_eq n name) same ∙ e)) ∙ l)

-- ---- what is checked

fits_between : (t : Subtype) (v : Value) → fits t v ≡ true → is_between (subtype_bounds t) v ≡ true
fits_between t (Number z) h = h
fits_between t (Truth b) h = refl
fits_between t (Array vs) h = refl
fits_between t (Record fs) h = refl

pub passed_between : (t : Subtype) (v : Val Value) → comes_between (subtype_bounds t) (and_then v (passed t)) ≡ true
passed_between t (Gives x) = by_test (fits t x) refl
  where
    by_test : (b : Bool) → fits t x ≡ b → comes_between (subtype_bounds t) (cond b (Gives x) (raise ConstraintError)) ≡ true
    by_test true e = fits_between t x e
    by_test false e = refl
passed_between t (Raises n) = refl
passed_between t Meaningless = refl

-- ---- actual parameters

module _ (calls : Calls) (p : Place) where
  actual_between : (t : Subtype) (x : ArgumentTree) → comes_between (subtype_bounds t) (actual_with calls p t x) ≡ true
  actual_between t (tree.Value e) = passed_between t (value_with calls p e)
  actual_between t (tree.Text label place) = refl

  next_between : (t : Subtype) (ts : List Subtype) (v : Val Value) (vs : Val (List Value)) → comes_between (subtype_bounds t) v ≡ true
      → OnGives (λ xs. are_between ts xs ≡ true) vs
      → OnGives (λ xs. are_between (t ∷ ts) xs ≡ true) (and_then v (λ x. and_then vs (λ xs. Gives (x ∷ xs))))
  next_between t ts (Gives y) (Gives ys) h k = ap (λ b. b && are_between ts ys) h ∙ k
  next_between t ts (Gives y) (Raises n) h k = tt
  next_between t ts (Gives y) Meaningless h k = tt
  next_between t ts (Raises n) vs h k = tt
  next_between t ts Meaningless vs h k = tt

  -- each was checked against its subtype
  pub actuals_between : (a : ArgumentTrees) (ts : List Subtype) → OnGives (λ xs. are_between ts xs ≡ true) (actuals_with calls p a ts)
  actuals_between NoArguments [] = refl
  actuals_between NoArguments (t ∷ ts) = tt
  actuals_between (MoreArguments x rest) [] = tt
  actuals_between (MoreArguments x rest) (t ∷ ts) =
      next_between t ts (actual_with calls p t x) (actuals_with calls p rest ts) (actual_between t x) (actuals_between rest ts)

-- ---- what is called

-- with any number of frames left
pub results_lie : (left : ℕ) → ReturnWithin (call left)
results_lie zero p f vs = refl
results_lie (suc left) p f vs = passed_between f.result (value_with (call left) (entered p f vs left) f.value)
