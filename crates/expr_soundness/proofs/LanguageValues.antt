-- What Ada.Real_Time and Control_IO give lies in the base range where the time and the inputs do.
use Rattle.std.proofs.Common.{◌≡◌, ℕ, List, [], ◌∷◌, pos, Bool, true, false, refl}
use Rattle.std.specs.Prelude.{ℤ, cond, int_le, nat_le, unsigned_abs, ◌&&◌, ◌*ℤ◌}
use Rattle.meaning.specs.base.specs.declared.limits.TheConstants.{CHANNELS}
use Rattle.meaning.specs.base.specs.declared.schedule.ScheduleLine.{ScheduleLine}
use Rattle.meaning.specs.base.specs.Arithmetic.{is_in_base_range}
use Rattle.meaning.specs.base.specs.Schedule.{are_lines, input, input_after, is_heard, is_line}
use Rattle.meaning.specs.types.specs.declared.entity.PredefinedOperation.TheVariants as predefined
use Rattle.meaning.specs.types.specs.Values.{Number}
use Rattle.meaning.specs.types.specs.Bounds.{base_bounds}
use Rattle.expr_soundness.specs.BoundsLaw.{LanguageLies}
use Rattle.expr_soundness.specs.Lying.{is_between}
use Rattle.expr_soundness.proofs.Elements.{both_left, both_right}
use Rattle.expr_soundness.proofs.Numbers.{in_base, range_checked}

line_value : (l : ScheduleLine) → is_line l ≡ true → is_in_base_range l.value ≡ true
line_value l h =
    both_right (int_le (pos 0) l.time && is_in_base_range l.time && nat_le 1 l.channel && nat_le l.channel CHANNELS) (is_in_base_range l.value) h

inputs_fit : (value : ℤ) (ls : List ScheduleLine) (channel : ℕ) (now : ℤ) → is_in_base_range value ≡ true → are_lines ls ≡ true
    → is_in_base_range (input_after value ls channel now) ≡ true
inputs_fit value [] channel now h k = h
inputs_fit value (l ∷ ls) channel now h k =
    inputs_fit (cond (is_heard channel now l) l.value value) ls channel now (by_test (is_heard channel now l)) (both_right (is_line l) (are_lines ls) k)
  where
    by_test : (b : Bool) → is_in_base_range (cond b l.value value) ≡ true
    by_test true = line_value l (both_left (is_line l) (are_lines ls) k)
    by_test false = h

pub language_lies : LanguageLies
language_lies p lines time predefined.Clock [] h = in_base p.now time
language_lies p lines time predefined.Milliseconds (Number z ∷ []) h = range_checked (pos 1000 *ℤ z)
language_lies p lines time predefined.Microseconds (Number z ∷ []) h = both_left (is_between base_bounds (Number z)) true h
language_lies p lines time predefined.Read (Number z ∷ []) h =
    in_base (input p.schedule (unsigned_abs z) p.now) (inputs_fit (pos 0) p.schedule (unsigned_abs z) p.now refl lines)
language_lies p lines time o vs h = refl
