-- Variables stand in the order of their declarations, and protected objects in that of their numbers.
use Rattle.std.proofs.Common.{◌≡◌, ℕ, zero, suc, ◌+◌, List, [], ◌∷◌, ◌++◌, length, slice_get, take, Option, Some, refl, sym, ap, ◌∙◌, arith, unwrap_or}
use Rattle.types.specs.declared.entity.Role.TheVariants as role
use Rattle.types.specs.declared.entity.Subtype.{Subtype}
use Rattle.types.specs.Entities.{Entity, Object, Protected, ProtectedObject}
use Rattle.types.specs.Layouts.{words_of}
use Rattle.types.specs.Scopes.{Named, Scope, entity_of, protected_of}
use Rattle.declaration_rules.specs.ProtectedRules.{one_if_protected, protected_count}
use Rattle.declaration_rules.specs.PackageNames.{program_scope}
use Rattle.legality.specs.ProgramLayouts.{ObjectsStandAtTheirNumbers, VariablesStandInOrder, components_words, object_words, objects_words, variable_words, variables_words}
use Rattle.legality.proofs.Made.{IsMade, IsSound, optional_made}

-- behind one entity, whatever it is, stands what stood at this position without it
behind_entity : (all : Scope) (e : Entity) (ws us : List ℕ) (o : Option ℕ) → slice_get us (length ws) ≡ o → slice_get (variable_words all e ++ us) (length (variable_words all e ++ ws)) ≡ o
behind_entity all (Object role.Variable t) ws us o h = h
behind_entity all e ws us o h = h

same_entity : {e f : Entity} → Some e ≡ Some f → e ≡ f
same_entity {e} {f} h = ap (λ o. unwrap_or o e) h

variables_from : (all s : Scope) (n : ℕ) (t : Subtype) → entity_of (slice_get s n) ≡ Some (Object role.Variable t) → slice_get (variables_words all s) (length (variables_words all (take n s))) ≡ Some (words_of all t)
variables_from all [] n t at = cc
variables_from all (x ∷ s) zero t at = ap (λ e. slice_get (variable_words all e ++ variables_words all s) 0) (same_entity at)
variables_from all (x ∷ s) (suc n) t at =
    behind_entity all x.entity (variables_words all (take n s)) (variables_words all s) (Some (words_of all t)) (variables_from all s n t at)

pub variables_stand : VariablesStandInOrder
variables_stand s n t at = variables_from s s n t at

count_push : (s : Scope) (n : Named) → protected_count (s ++ n ∷ []) ≡ protected_count s + one_if_protected n.entity
count_push [] n = omega arith
count_push (x ∷ s) n = let e = count_push s n in omega (arith, e)

-- the object stands so far behind as many objects as stand in front
abbrev StandsAt : Scope → (before names : Scope) → ProtectedObject → Type 0
StandsAt all b s p = (k : ℕ) × (p.number ≡ protected_count b + k) × (slice_get (objects_words all s) k ≡ Some (components_words all p.components))

same_object : {q p : ProtectedObject} → Some q ≡ Some p → q ≡ p
same_object {q} {p} e = ap (λ o. unwrap_or o q) e

first_stands : (all b rest : Scope) (n : Named) (e : Entity) (p : ProtectedObject) → e ≡ n.entity → IsSound b e → protected_of (Some e) ≡ Some p → StandsAt all b (n ∷ rest) p
first_stands all b rest n (Protected q) p is sound at =
    let same = same_object at in
    let first : p.number ≡ protected_count b + 0 = (let e : p.number ≡ protected_count b = ap (λ o. o.number) (sym same) ∙ sound in omega (arith, e)) in
    (0, first, ap (λ e. slice_get (object_words all e ++ objects_words all rest) 0) (sym is) ∙ ap (λ o. Some (components_words all o.components)) same)
first_stands all b rest n e p is sound at = cc

behind_by : (all b rest : Scope) (n : Named) (e : Entity) (p : ProtectedObject) → e ≡ n.entity → StandsAt all (b ++ n ∷ []) rest p → StandsAt all b (n ∷ rest) p
behind_by all b rest n (Protected q) p is there =
    let count = count_push b n in
    let one : one_if_protected n.entity ≡ 1 = ap one_if_protected (sym is) in
    let number = there.1 in
    let far : p.number ≡ protected_count b + suc there.0 = omega (arith, count, one, number) in
    (suc there.0, far, ap (λ e. slice_get (object_words all e ++ objects_words all rest) (suc there.0)) (sym is) ∙ there.2)
behind_by all b rest n e p is there = other all b rest n p (ap one_if_protected (sym is)) (ap (object_words all) (sym is)) there
  where
    other : (all b rest : Scope) (n : Named) (p : ProtectedObject) → one_if_protected n.entity ≡ 0 → object_words all n.entity ≡ [] → StandsAt all (b ++ n ∷ []) rest p → StandsAt all b (n ∷ rest) p
    other all b rest n p none words there =
        let count = count_push b n in
        let number = there.1 in
        let far : p.number ≡ protected_count b + there.0 = omega (arith, count, none, number) in
        (there.0, far, ap (λ l. slice_get (l ++ objects_words all rest) there.0) words ∙ there.2)

stands : (all b s : Scope) (n : ℕ) (p : ProtectedObject) → IsMade b s → protected_of (entity_of (slice_get s n)) ≡ Some p → StandsAt all b s p
stands all b [] n p made at = cc
stands all b (x ∷ s) zero p made at = first_stands all b s x x.entity p refl made.0 at
stands all b (x ∷ s) (suc n) p made at = behind_by all b s x x.entity p refl (stands all (b ++ x ∷ []) s n p made.1 at)

pub objects_stand : ObjectsStandAtTheirNumbers
objects_stand t n p at =
    let s = program_scope t in
    let there = stands s [] s n p (optional_made t.package_) at in
    let number = there.1 in
    let e : p.number ≡ there.0 = omega (arith, number) in ap (slice_get (objects_words s s)) e ∙ there.2
