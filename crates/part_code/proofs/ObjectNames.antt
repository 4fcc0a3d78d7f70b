-- Names of objects that may be changed.
use Rattle.std.proofs.Common.{◌≡◌, ℕ, ◌<◌, List, true, false, not, Option, Some, None, refl, rules}
use Rattle.std.specs.Prelude.{nat_lt}
use Rattle.types.specs.declared.entity.Role.{Role}
use Rattle.types.specs.declared.entity.Role.TheVariants as role
use Rattle.types.specs.declared.entity.Subtype.{Subtype}
use Rattle.types.specs.declared.standing.Standing.TheVariants as standing
use Rattle.types.specs.Entities as entity
use Rattle.types.specs.Entities.{Entity}
use Rattle.types.specs.Scopes.{Scope, entity_at, number_of}
use Rattle.types.specs.Standings.{stands_first, stands_for}
use Rattle.expr_soundness.specs.expr_rules.specs.NameRules.{is_changeable}
use Rattle.part_code.specs.Layout.{IsVariable, NamesObject}

pub less_true : (x y : ℕ) → x < y → nat_lt x y ≡ true
less_true x y less = search rules

-- ---- objects

pub names_object : (s : Scope) (name : List ℕ) (r : Role) (t : Subtype) → stands_first s (number_of s name) ≡ standing.Part r t → NamesObject s name r t
names_object s name r t h = by_number (number_of s name) refl h
  where
    entity_is : (n : ℕ) (e : Option Entity) → stands_for n e ≡ standing.Part r t → e ≡ Some (entity.Object r t)
    entity_is n (Some (entity.Object q u)) h = cc
    entity_is n (Some (entity.OfType form u)) h = cc
    entity_is n (Some (entity.OfSubtype u)) h = cc
    entity_is n (Some (entity.Constant u v)) h = cc
    entity_is n (Some (entity.Literal b)) h = cc
    entity_is n (Some entity.Exception) h = cc
    entity_is n (Some (entity.Subprogram p)) h = cc
    entity_is n (Some (entity.Entry p)) h = cc
    entity_is n (Some (entity.Predefined o p)) h = cc
    entity_is n (Some entity.Put) h = cc
    entity_is n (Some (entity.Task m)) h = cc
    entity_is n (Some (entity.Protected o)) h = cc
    entity_is n (Some entity.LibraryUnit) h = cc
    entity_is n (Some entity.Doubtful) h = cc
    entity_is n None h = cc

    by_number : (o : Option ℕ) → number_of s name ≡ o → stands_first s o ≡ standing.Part r t → NamesObject s name r t
    by_number (Some n) is k = record { number = n; numbered = is; stands = entity_is n (entity_at s n) k }
    by_number None is k = cc

-- ---- what is legal

-- what is to be changed is a variable
pub changeable : (q : Role) → not (is_changeable q) ≡ false → IsVariable q
changeable role.Variable h = tt
changeable role.Constant h = cc
changeable role.LoopParameter h = cc
changeable role.In h = cc
changeable role.Out h = tt
changeable role.InOut h = tt
changeable role.Component h = tt
changeable role.ReadOnlyComponent h = cc
