-- The protected objects that are visible in a program are numbered in the order of their declarations, so the ceiling of a number is that of its object (RM 9.4, D.3).
use Rattle.std.proofs.Common.{◌≡◌, ◌++◌, ◌+◌, ◌≤◌, ℕ, zero, suc, List, [], ◌∷◌, map, Bool, true, false, Option, Some, None, refl, ap, ◌∙◌, sym, subst, arith}
use Rattle.std.specs.Prelude.{⊤, cond, nat_eq}
use Rattle.std.proofs.lemmas.Bool.{and_parts, eq-eqb, eqb-true}
use Rattle.expr_soundness.specs.ada_tree.specs.ProgramTree.{BodyItemTree, OfItem, SubprogramBody, TaskBody, ProtectedBody, ItemTree, OfType, OfObject, OfException, OfSubprogram, OfTask, OfProtected, PackageTree, ProgramTree}
use Rattle.types.specs.declared.entity.RecordComponent.{RecordComponent}
use Rattle.types.specs.Entities.{Entity, LibraryUnit, Operation, Protected, ProtectedObject}
use Rattle.types.specs.Places.{ceiling_of, ceiling_or}
use Rattle.types.specs.Scopes.{Named, Scope, entity_at, is_visible, one_if_protected, protected_count, standard, with_name}
use Rattle.expr_soundness.specs.base.specs.declared.limits.TheConstants.{CEILING}
use Rattle.declaration_rules.specs.ProtectedRules.{default_ceiling, object_components, object_operations, object_with}
use Rattle.declaration_rules.specs.TaskRules.{priority_of}
use Rattle.unit_rules.specs.MainRules.{item_name}
use Rattle.declaration_rules.specs.PackageNames.{body_item_scope, body_items_scope, optional_scope, program_scope, units_scope}
use Rattle.legality.proofs.Made.{NoUnits, clauses_seen, seen}
use Rattle.expr_soundness.specs.type_rules.specs.ProfileRules.{profile_entity}
use Rattle.program_soundness.proofs.Declaring.{all_simple, definition_plain, is_protected, is_simple, package_object_plain, profile_plain, seen_simple, simple_kinds}
use Rattle.program_soundness.proofs.Listing.{same_some}
use Rattle.program_soundness.proofs.Origins.{body_scope_is, declared_item, front_scope, item_named}
use Rattle.program_soundness.proofs.Profiles.{profile_of}

abbrev HasNumber : ℕ → Entity → Type 0
HasNumber from (Protected o) = o.number ≡ from
HasNumber from e = ⊤

-- from this number on
abbrev pub AreNumbered : ℕ → Scope → Type 0
AreNumbered from [] = ⊤
AreNumbered from (n ∷ rest) = HasNumber from n.entity × AreNumbered (one_if_protected n.entity + from) rest

number_other : (from : ℕ) (e : Entity) → is_protected e ≡ false → HasNumber from e
number_other from (Protected o) h = cc
number_other from e h = tt

number_more : (from : ℕ) (s : Scope) (n : Named) → AreNumbered from s → HasNumber (protected_count s + from) n.entity → AreNumbered from (s ++ n ∷ [])
number_more from [] n h k = (subst (λ m. HasNumber m n.entity) (let none : 0 + from ≡ from = omega arith in none) k, tt)
number_more from (x ∷ s) n h k = (
  h.0,
  number_more (one_if_protected x.entity + from) s n h.1 (subst (λ m. HasNumber m n.entity)
      (let same : (one_if_protected x.entity + protected_count s) + from ≡ protected_count s + (one_if_protected x.entity + from) = omega arith in same) k),
)

number_named : (s : Scope) (name : List ℕ) (e : Entity) → AreNumbered 0 s → HasNumber (protected_count s) e → AreNumbered 0 (with_name s name e)
number_named s name e h k = by_test (is_visible s name)
  where
    by_test : (b : Bool) → AreNumbered 0 (cond b s (s ++ record { name = name; entity = e } ∷ []))
    by_test true = h
    by_test false =
        number_more 0 s (record { name = name; entity = e }) h
        (subst (λ m. HasNumber m e) (let none : protected_count s ≡ protected_count s + 0 = omega arith in none) k)

object_number : (number ceiling : ℕ) (a : Option (List Operation)) (b : Option (List RecordComponent)) → HasNumber number (object_with number ceiling a b)
object_number number ceiling (Some a) (Some b) = refl
object_number number ceiling (Some a) None = tt
object_number number ceiling None b = tt

item_number : (s : Scope) (d : ItemTree) → HasNumber (protected_count s) (declared_item s d)
item_number s (OfType d) =
    number_other (protected_count s) (declared_item s (OfType d)) (definition_plain is_protected refl (λ form t. refl) (λ t. refl) s d.definition)
item_number s (OfObject d) =
    number_other (protected_count s) (declared_item s (OfObject d)) (package_object_plain is_protected refl (λ r t. refl) (λ t v. refl) s d)
item_number s (OfException name) = tt
item_number s (OfSubprogram d) =
    number_other (protected_count s) (profile_entity (profile_of s d)) (profile_plain is_protected refl (λ p. refl) (profile_of s d))
item_number s (OfTask d) = tt
item_number s (OfProtected d) =
    object_number (protected_count s) (priority_of s CEILING (default_ceiling d.operations) d.aspect) (object_operations s d.operations)
    (object_components s d.components)

step_number : (s : Scope) (i : BodyItemTree) → AreNumbered 0 s → AreNumbered 0 (body_item_scope s i)
step_number s (OfItem d) h = subst (AreNumbered 0) (sym (item_named s d)) (number_named s (item_name d).name (declared_item s d) h (item_number s d))
step_number s (SubprogramBody d b) h = number_named s d.name.name (declared_item s (OfSubprogram d)) h (item_number s (OfSubprogram d))
step_number s (TaskBody n b) h = h
step_number s (ProtectedBody n items end_name) h = h

walk_number : (s : Scope) (is : List BodyItemTree) → AreNumbered 0 s → AreNumbered 0 (body_items_scope s is)
walk_number s [] h = h
walk_number s (i ∷ is) h = walk_number (body_item_scope s i) is (step_number s i h)

simple_number : (from : ℕ) (s : Scope) → all_simple s ≡ true → AreNumbered from s
simple_number from [] h = tt
simple_number from (n ∷ rest) h =
    let two = and_parts (is_simple n.entity) (all_simple rest) h in
    (number_other from n.entity (simple_kinds n.entity two.0).2, simple_number (one_if_protected n.entity + from) rest two.1)

front_number : (p : PackageTree) → AreNumbered 0 (front_scope p)
front_number p =
    let units = clauses_seen NoUnits p.clauses in
    number_named (units_scope standard p) p.declaration.name.name LibraryUnit (subst (AreNumbered 0) (sym units.1) (simple_number 0 (seen units.0) (seen_simple units.0))) tt

pub program_numbered : (t : ProgramTree) → AreNumbered 0 (program_scope t)
program_numbered t = by_package t.package_
  where
    by_package : (o : Option PackageTree) → AreNumbered 0 (optional_scope standard o)
    by_package None = simple_number 0 standard (seen_simple NoUnits)
    by_package (Some p) = subst (AreNumbered 0) (body_scope_is p p.body.items) (walk_number (front_scope p) (map OfItem p.declaration.items ++ p.body.items) (front_number p))

-- the ceiling of the number of one that is visible is its own
pub numbered_ceiling : (from : ℕ) (s : Scope) (k : ℕ) (o : ProtectedObject) → AreNumbered from s → entity_at s k ≡ Some (Protected o)
    → (from ≤ o.number) × (ceiling_of s o.number ≡ o.ceiling)
numbered_ceiling from [] k o h at = cc
numbered_ceiling from (n ∷ rest) zero o h at =
    let is : n.entity ≡ Protected o = same_some n.entity (Protected o) at in
    let number : o.number ≡ from = subst (HasNumber from) is h.0 in (
      omega (arith, number),
      ap (λ e. ceiling_or o.number e (ceiling_of rest o.number)) is
          ∙ ap (λ b. cond b o.ceiling (ceiling_of rest o.number)) (eq-eqb o.number o.number refl),
    )
numbered_ceiling from (n ∷ rest) (suc k) o h at = by_entity n.entity h.0 (numbered_ceiling (one_if_protected n.entity + from) rest k o h.1 at)
  where
    another : (q : ProtectedObject) → q.number ≡ from → 1 + from ≤ o.number → (b : Bool) → nat_eq q.number o.number ≡ b → b ≡ false
    another q number le true e = let same = eqb-true q.number o.number e in absurd (omega (arith, same, number, le))
    another q number le false e = refl

    by_entity : (e : Entity) → HasNumber from e → (one_if_protected e + from ≤ o.number) × (ceiling_of rest o.number ≡ o.ceiling)
        → (from ≤ o.number) × (ceiling_or o.number e (ceiling_of rest o.number) ≡ o.ceiling)
    by_entity (Protected q) number later =
        let le = later.0 in (
          omega (arith, le),
          ap (λ b. cond b q.ceiling (ceiling_of rest o.number)) (another q number later.0 (nat_eq q.number o.number) refl) ∙ later.1,
        )
    by_entity e number later = let le = later.0 in (omega (arith, le), later.1)
