use Rattle.std.proofs.Common.{◌++◌, ◌∷◌, ◌∙◌, [], subst, sym}
use Rattle.set_measures.specs.Extremes.{IsExtreme, IsExtremeOf}
use Rattle.set_measures.specs.declared.extreme.Extreme.{Extreme}
use Rattle.set_measures.proofs.Values.{with_less, with_past}
use Rattle.set_measures.proofs.extreme.with_value.Goals as goal

pub returns-then-is_past : goal.returns-then-is_past
returns-then-is_past c values number is =
    let d = c.args.direction in
    let so_far = c.in-Some-extreme.so_far in
    let v = c.in-Some.value in
    let e : Extreme = record { value = v; number = c.args.number } in
    subst (λ o. IsExtreme d (values ++ o ∷ []) e) (sym c.in-Some.is)
    (with_past d values so_far v c.args.number number (subst (IsExtremeOf d values) c.in-Some-extreme.is is) (sym c.is_past.ensures ∙ c.if-is_past.true))

pub returns-else-is_past : goal.returns-else-is_past
returns-else-is_past c values number is =
    let d = c.args.direction in
    let so_far = c.in-Some-extreme.so_far in
    let v = c.in-Some.value in
    subst (λ o. IsExtreme d (values ++ o ∷ []) so_far) (sym c.in-Some.is)
    (with_less d values so_far v (subst (IsExtremeOf d values) c.in-Some-extreme.is is) (sym c.is_past.ensures ∙ c.if-is_past.false))
