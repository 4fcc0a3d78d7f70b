use Rattle.std.proofs.Common.{◌≡◌, suc, ◌+◌, length, ap, ◌∙◌, arith}
use Rattle.std.specs.Prelude.{codes}
use Rattle.types.specs.declared.entity.PredefinedOperation.TheVariants as predefined
use Rattle.types.specs.Entities.{Times, Spans, OfType}
use Rattle.types.specs.Scopes.{base_range_of, from_integer, from_nothing, with_name}
use Rattle.types.proofs.scope.Scope.see_real_time.Goals as goal

pub returns : goal.returns
returns c =
    let s = c.args.self.now in
    let next : c.len-2.result + 1 ≡ suc (length s) = omega (arith, c.len-2.ensures.value) in
    let time = c.base_range_of-time.ensures ∙ ap base_range_of c.len.ensures.value in
    let span = c.base_range_of-span.ensures ∙ ap base_range_of next in
    let s1 = c.in_ok-see.ensures ∙ (λ j. with_name s (codes "TIME") (OfType Times (time j))) in
    let s2 = c.in_ok-see-2.ensures ∙ (λ j. with_name (s1 j) (codes "TIME_SPAN") (OfType Spans (span j))) in
    let clock = c.from_nothing-clock.ensures ∙ ap (from_nothing predefined.Clock) time in
    let s3 = c.in_ok-see-3.ensures ∙ (λ j. with_name (s2 j) (codes "CLOCK") (clock j)) in
    let milliseconds = c.in_ok-milliseconds.ensures ∙ ap (from_integer predefined.Milliseconds) span in
    let s4 = c.in_ok-see-4.ensures ∙ (λ j. with_name (s3 j) (codes "MILLISECONDS") (milliseconds j)) in
    let microseconds = c.in_ok-microseconds.ensures ∙ ap (from_integer predefined.Microseconds) span in
    c.in_ok-see-5.ensures ∙ (λ j. with_name (s4 j) (codes "MICROSECONDS") (microseconds j))
