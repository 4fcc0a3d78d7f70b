-- The numbers of the turns of a loop over a range: where those from this turn to the last one are of a subtype, so are those from the next one on.
use Rattle.std.proofs.Common.{◌≡◌, ℤ, pos, Bool, true, false, Ok, sym, subst, arith, Err}
use Rattle.std.specs.Prelude.{int_le, ◌&&◌, ◌+ℤ◌, ◌-ℤ◌, cond, if◌then◌else◌}
use Rattle.base.specs.Arithmetic.{difference_of, is_in_base_range, sum_of, in_range}
use Rattle.types.specs.declared.entity.Subtype.{Subtype}
use Rattle.types.specs.Evaluations.{Gives}
use Rattle.types.specs.Operators.{are_same}
use Rattle.types.specs.Values.{is_within}
use Rattle.expr_soundness.specs.meaning.specs.SourceSteps.{number_computed}
use Rattle.part_code.specs.Counting.{are_turns_inside}
use Rattle.base.specs.declared.exceptions.PredefinedException.TheVariants.{ConstraintError}

pub turn_within : (t : Subtype) (reversed : Bool) (now last : ℤ) → are_turns_inside t reversed now last ≡ true → is_within t.first t.last now ≡ true
turn_within t true now last h = grind (arith, h)
turn_within t false now last h = grind (arith, h)

-- what was checked is the number itself
checked_is : (x next : ℤ) → number_computed (in_range x) ≡ Gives next → next ≡ x
checked_is x next h = by_test (is_in_base_range x) h
  where
    by_test : (b : Bool) → number_computed (cond b (Ok x) (Err ConstraintError)) ≡ Gives next → next ≡ x
    by_test true k = cc
    by_test false k = cc

up_inside : (t : Subtype) (now last : ℤ) → (int_le t.first now && (int_le now last && int_le last t.last)) ≡ true → are_same now last ≡ false
    → (int_le t.first (now +ℤ pos 1) && (int_le (now +ℤ pos 1) last && int_le last t.last)) ≡ true
up_inside t now last h k = grind (arith, h, k)

down_inside : (t : Subtype) (now last : ℤ) → (int_le t.first last && (int_le last now && int_le now t.last)) ≡ true → are_same now last ≡ false
    → (int_le t.first last && (int_le last (now -ℤ pos 1) && int_le (now -ℤ pos 1) t.last)) ≡ true
down_inside t now last h k = grind (arith, h, k)

pub next_inside : (t : Subtype) (reversed : Bool) (now last next : ℤ) → are_turns_inside t reversed now last ≡ true → are_same now last ≡ false
    → number_computed (if reversed then difference_of now (pos 1) else sum_of now (pos 1)) ≡ Gives next → are_turns_inside t reversed next last ≡ true
next_inside t true now last next h k is =
    subst (λ n. are_turns_inside t true n last ≡ true) (sym (checked_is (now -ℤ pos 1) next is)) (down_inside t now last h k)
next_inside t false now last next h k is =
    subst (λ n. are_turns_inside t false n last ≡ true) (sym (checked_is (now +ℤ pos 1) next is)) (up_inside t now last h k)
