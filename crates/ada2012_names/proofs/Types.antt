-- The type of a subtype, found step by step.
use Rattle.std.proofs.Common.{arith, ◌≡◌, ◌∙◌, ℕ, zero, suc, ◌-◌, ◌<◌, List, None, Some, ap, refl}
use Rattle.ada2012_names.specs.declared.entity.EntityId.{EntityId}
use Rattle.ada2012_names.specs.declared.entity.Entity.{Entity}
use Rattle.ada2012_names.specs.Queries.{ancestor, or_self, parent_of}

pub goes_on : (n : ℕ) (es : List Entity) (id next : EntityId) → 0 < n → parent_of es id ≡ Some next → ancestor n es id ≡ ancestor (n - 1) es next
goes_on zero es id next some is = absurd (omega (arith, some))
goes_on (suc n) es id next some is =
    ap (λ o. ancestor n es (or_self id o)) is ∙ ap (λ k. ancestor k es next) (let same : n ≡ suc n - 1 = omega arith in same)

pub stops : (n : ℕ) (es : List Entity) (id : EntityId) → parent_of es id ≡ None → ancestor n es id ≡ id
stops zero es id is = refl
stops (suc n) es id is = ap (λ o. ancestor n es (or_self id o)) is ∙ stops n es id is
