-- Calls of sound functions are answered, by induction on the frames that are left.
use Rattle.std.proofs.Common.{◌≡◌, ℕ, zero, suc, List, Bool, true, false, refl, ◌∙◌}
use Rattle.std.specs.Prelude.{cond}
use Rattle.meaning.specs.base.specs.declared.exceptions.PredefinedException.TheVariants.{ConstraintError}
use Rattle.meaning.specs.types.specs.declared.entity.Subtype.{Subtype}
use Rattle.meaning.specs.types.specs.Scopes.{Scope, form_at}
use Rattle.meaning.specs.types.specs.Values.{Value, fits}
use Rattle.meaning.specs.types.specs.Evaluations.{Val, Gives, Raises, Meaningless, and_then, raise}
use Rattle.meaning.specs.types.specs.Places.{Function, Place}
use Rattle.meaning.specs.types.specs.Evaluating.{call, entered, passed, value_with}
use Rattle.meaning.specs.expr_rules.specs.declared.own.Own.TheVariants.{Typed}
use Rattle.meaning.specs.expr_rules.specs.Laws.{suits}
use Rattle.expr_soundness.specs.Agreeing.{Agrees}
use Rattle.expr_soundness.specs.Answers.{CallsAnswer, FunctionsAreSound, ReturnsSoundly}
use Rattle.expr_soundness.specs.Laws.{CallsAreTyped}
use Rattle.expr_soundness.proofs.Goods.{not_empty}
use Rattle.expr_soundness.proofs.Applying.{same_suits}
use Rattle.expr_soundness.proofs.Agreement.{circumstances_kept}
use Rattle.expr_soundness.proofs.Expressions.{expression, wanted_expression}

-- a value that is checked is still of its type
checked_suits : (s : Scope) (n : ℕ) (t : Subtype) (v : Val Value) → suits s (Typed n) v ≡ true → suits s (Typed n) (and_then v (passed t)) ≡ true
checked_suits s n t (Gives x) h = by_test (fits t x)
  where
    by_test : (b : Bool) → suits s (Typed n) (cond b (Gives x) (raise ConstraintError)) ≡ true
    by_test true = h
    by_test false = refl
checked_suits s n t (Raises x) h = refl
checked_suits s n t Meaningless h = cc

-- a call enters its function's place, whatever objects, and frames left, there are at the place of the call
inside_answers : (p : Place) (g : Function) (ws : List Value) (left m : ℕ) (opened : List ℕ) → CallsAnswer (call left) p → CallsAnswer (call left) (entered (record p { actions = opened }) g ws m)
inside_answers p g ws zero m opened answers actions owner name f vs found fit = refl
inside_answers p g ws (suc left) m opened answers actions owner name f vs found fit = answers actions owner name f vs found fit

body_suits : (p : Place) (f : Function) (vs : List Value) (left : ℕ) (actions : List ℕ) → ReturnsSoundly (entered p f vs left) f → CallsAnswer (call left) p
    → suits p.scope (Typed f.result.type_number) (value_with (call left) (entered (record p { actions = actions }) f vs left) f.value) ≡ true
body_suits p f vs left actions body answers =
    let place = entered p f vs left in
    let here = entered (record p { actions = actions }) f vs left in
    let agrees : Agrees body.scope here = circumstances_kept body.scope place place.schedule place.now actions place.priority place.frames_left body.agrees in
    let form = not_empty (form_at body.scope f.result.type_number) body.known in
    same_suits p.scope body.scope f.result.type_number (value_with (call left) here f.value) (agrees.shapes f.result.type_number form.0 form.1)
    ∙ wanted_expression body.scope here agrees (call left) (inside_answers p f vs left left actions answers) f.value f.result.type_number body.legal

pub calls_answer : (p : Place) → FunctionsAreSound p → (left : ℕ) → CallsAnswer (call left) p
calls_answer p sound zero actions owner name f vs found fit = refl
calls_answer p sound (suc left) actions owner name f vs found fit =
    checked_suits p.scope f.result.type_number f.result (value_with (call left) (entered (record p { actions = actions }) f vs left) f.value)
    (body_suits p f vs left actions (sound owner name f vs left found fit) (calls_answer p sound left))

pub calls_are_typed : CallsAreTyped
calls_are_typed =
    record {
      answered = calls_answer;
      typed = λ s p agrees sound e w h. expression s p agrees (call p.frames_left) (calls_answer p sound p.frames_left) e w h;
      wanted = λ s p agrees sound e n h. wanted_expression s p agrees (call p.frames_left) (calls_answer p sound p.frames_left) e n h;
    }
