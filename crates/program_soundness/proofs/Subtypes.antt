-- What names of subtypes, ranges and types that break no rule stand for.
use Rattle.std.proofs.Common.{◌≡◌, ◌++◌, ◌<◌, ℕ, zero, suc, length, List, [], ◌∷◌, Bool, true, false, not, Option, Some, None, refl, sym, ap, ◌∙◌, subst, arith}
use Rattle.std.specs.Prelude.{cond, int_le, is_none, is_some, nat_lt, slice_get}
use Rattle.expr_soundness.specs.base.specs.declared.faults.TheConstants.{DECLARED_TWICE, LIMIT_PASSED, NO_MEANING}
use Rattle.expr_soundness.specs.base.specs.declared.limits.TheConstants.{COMPONENTS}
use Rattle.expr_soundness.specs.ada_tree.specs.declared.expression.Identifier.{Identifier}
use Rattle.expr_soundness.specs.ada_tree.specs.declared.declaration.Component.{Component}
use Rattle.expr_soundness.specs.ada_tree.specs.StatementTree.{RangeTree}
use Rattle.expr_soundness.specs.ada_tree.specs.ProgramTree.{DefinitionTree, Integer, Array, Record, Subtype as SubtypeOf, IndexTree, OfRange, OfSubtype as OfName}
use Rattle.types.specs.declared.entity.Subtype.{Subtype}
use Rattle.types.specs.declared.entity.RecordComponent.{RecordComponent}
use Rattle.types.specs.Entities.{Entity, Integers, Arrays, OfType, OfSubtype, Doubtful}
use Rattle.types.specs.Scopes.{Named, Scope, entity_at, entity_of, form_at, form_of, integer, integer_type, is_visible, number_of, with_name}
use Rattle.types.specs.Statics.{start_of}
use Rattle.expr_soundness.specs.expr_rules.specs.declared.own.Wanted.{Wanted}
use Rattle.expr_soundness.specs.expr_rules.specs.declared.own.Wanted.TheVariants as wanted
use Rattle.expr_soundness.specs.expr_rules.specs.Faults.{rule}
use Rattle.expr_soundness.specs.expr_rules.specs.StaticRules.{static_faults}
use Rattle.expr_soundness.specs.expr_rules.specs.Typing.{is_integers, is_times}
use Rattle.expr_soundness.specs.expr_rules.proofs.TypeShapes.{type_entity}
use Rattle.expr_soundness.specs.expr_rules.proofs.TypedLaw.{back_empty, front_empty, unbroken}
use Rattle.expr_soundness.specs.type_rules.specs.SubtypeNames.{entity_at_or_none, if_integer, is_other, subtype_faults, subtype_in, subtype_of, subtype_rule}
use Rattle.expr_soundness.specs.type_rules.specs.TypeRules.{array_entity, array_faults, bounded, component_and, component_faults, components_faults, composite, definition_entity, definition_faults, index_faults, index_place, index_subtype, integer_entity, is_long, is_named_in, length_of, narrowed, narrowed_faults, null_rule, range_faults, range_subtype, record_components, record_entity, short_length, static_whole, subtype_entity, whole_of}
use Rattle.expr_soundness.specs.SoundScopes.{AreEarlier, IsEarlier, IsKnown, IsSoundEntity, SoundScope}
use Rattle.expr_soundness.proofs.Expressions.{not_false}
use Rattle.expr_soundness.proofs.Goods.{not_empty}
use Rattle.expr_soundness.proofs.Growing.{entity_sound, grown}
use Rattle.expr_soundness.proofs.Widening.{subtype_known, widened}
use Rattle.program_soundness.proofs.Statics.{WantsInteger, must_be_static, static_number}

-- ---- what is declared

-- with what it needs of the names in front of it
pub record IsFresh (s : Scope) (e : Entity) : Type 0 where
  pub sound : IsSoundEntity s (length s) e
  pub untimed : is_times (form_of (Some e)) ≡ false

-- a scope stays sound with it
pub added : (s : Scope) (name : List ℕ) (e : Entity) → SoundScope s → IsFresh s e → SoundScope (with_name s name e)
added s name e sound fresh = by_test (is_visible s name) refl
  where
    by_test : (b : Bool) → is_visible s name ≡ b → SoundScope (with_name s name e)
    by_test true h = subst SoundScope (sym (ap (λ b. cond b s (s ++ record { name = name; entity = e } ∷ [])) h)) sound
    by_test false h =
        let x : Named = record { name = name; entity = e } in
        let is : with_name s name e ≡ s ++ x ∷ [] = ap (λ b. cond b s (s ++ x ∷ [])) h in
        widened s name e sound h (subst (λ u. IsSoundEntity u (length s) e) (sym is) (entity_sound s (s ++ x ∷ []) (grown s (x ∷ [])) (length s) e fresh.sound)) fresh.untimed

-- ---- numbers of names

item_below : {X : Type 0} (xs : List X) (n : ℕ) (x : X) → slice_get xs n ≡ Some x → n < length xs
item_below [] n x h = cc
item_below (y ∷ xs) zero x h = omega arith
item_below (y ∷ xs) (suc n) x h = let below = item_below xs n x h in omega (arith, below)

entity_below : (s : Scope) (n : ℕ) (e : Entity) → entity_at s n ≡ Some e → n < length s
entity_below s n e h = by_item (slice_get s n) refl h
  where
    by_item : (o : Option Named) → slice_get s n ≡ o → entity_of o ≡ Some e → n < length s
    by_item (Some m) is k = item_below s n m is
    by_item None is k = cc

pub form_below : (s : Scope) (n : ℕ) → is_some (form_at s n) ≡ true → n < length s
form_below s n h =
    let f = not_empty (form_at s n) h in
    let t = type_entity (entity_at s n) f.0 f.1 in
    entity_below s n (OfType f.0 t.0) t.1

pub earlier : (s : Scope) (t : Subtype) → IsKnown s t → IsEarlier s (length s) t
earlier s t known = record { known = known; before = form_below s t.type_number known }

-- ---- names of subtypes

-- the subtype of a declared type
pub record IsNamed (s : Scope) (name : Identifier) : Type 0 where
  pub subtype : Subtype
  pub is : subtype_of s name ≡ Some subtype
  pub known : IsKnown s subtype

module _ (s : Scope) (sound : SoundScope s) where
  pub subtype_named : (name : Identifier) → subtype_faults s name ≡ [] → IsNamed s name
  subtype_named name h = by_number (number_of s name.name) refl h
    where
      found : (t : Subtype) → subtype_of s name ≡ Some t → IsNamed s name
      found t is = record { subtype = t; is = is; known = subtype_known s name t sound is }

      by_entity : (n : ℕ) (o : Option Entity) → number_of s name.name ≡ Some n → entity_at s n ≡ o → subtype_rule name.place o ≡ [] → IsNamed s name
      by_entity n None is at k = cc
      by_entity n (Some (OfType form t)) is at k = found t (ap (λ m. subtype_in (entity_at_or_none s m)) is ∙ ap subtype_in at)
      by_entity n (Some (OfSubtype t)) is at k = found t (ap (λ m. subtype_in (entity_at_or_none s m)) is ∙ ap subtype_in at)
      by_entity n (Some Doubtful) is at k = absurd (sound.each n Doubtful at)
      by_entity n (Some e) is at k = cc

      by_number : (o : Option ℕ) → number_of s name.name ≡ o → subtype_rule name.place (entity_at_or_none s o) ≡ [] → IsNamed s name
      by_number (Some n) is k = by_entity n (entity_at s n) is refl k
      by_number None is k = cc

  -- ---- ranges

  pub record IsRange (n : ℕ) (w : Wanted) (within : Option Subtype) (r : RangeTree) : Type 0 where
    pub subtype : Subtype
    pub is : range_subtype s n w within r ≡ Some subtype
    pub numbered : subtype.type_number ≡ n

  pub range_known : (n : ℕ) (w : Wanted) (within : Option Subtype) (r : RangeTree) → WantsInteger s sound w → range_faults s w within r ≡ [] → IsRange n w within r
  range_known n w within r i h =
      let one = static_faults s w within r.first in
      let two = static_faults s w within r.last in
      let three = null_rule (start_of r.first) (static_whole s w within r.first) (static_whole s w within r.last) in
      let both = front_empty (one ++ two) three h in
      let a = static_number s sound w within r.first i (must_be_static s sound w within r.first (front_empty one two both)) in
      let b = static_number s sound w within r.last i (must_be_static s sound w within r.last (back_empty one two both)) in
      let first : static_whole s w within r.first ≡ Some a.0 = ap whole_of a.1 in
      let last : static_whole s w within r.last ≡ Some b.0 = ap whole_of b.1 in
      let null : null_rule (start_of r.first) (Some a.0) (Some b.0) ≡ [] =
      sym (λ j. null_rule (start_of r.first) (first j) (last j)) ∙ back_empty (one ++ two) three h in
      let ordered = not_false (int_le a.0 b.0) (unbroken 15 (start_of r.first) (not (int_le a.0 b.0)) null) in
      let t : Subtype = record { type_number = n; first = a.0; last = b.0 } in
      record {
        subtype = t;
        is = (λ j. bounded n (first j) (last j)) ∙ ap (λ c. elim c [ true ↦ Some t | false ↦ None ]) ordered;
        numbered = refl;
      }

  -- ---- arrays

  pub record IsIndex (index : IndexTree) : Type 0 where
    pub subtype : Subtype
    pub is : index_subtype s index ≡ Some subtype
    pub integers : is_integers (form_at s subtype.type_number) ≡ true

  -- a subtype that is named, and is an integer one
  integer_subtype : (name : Identifier) (place : ℕ) → (x : IsNamed s name) → rule NO_MEANING place (is_other s (subtype_of s name)) ≡ []
      → (is_integers (form_at s x.subtype.type_number) ≡ true) × (if_integer s (subtype_of s name) ≡ Some x.subtype)
  integer_subtype name place x h =
      let other : is_other s (Some x.subtype) ≡ false = ap (is_other s) (sym x.is) ∙ unbroken NO_MEANING place (is_other s (subtype_of s name)) h in
      let integers = not_false (is_integers (form_at s x.subtype.type_number)) other in
      (integers, ap (if_integer s) x.is ∙ ap (λ b. elim b [ true ↦ Some x.subtype | false ↦ None ]) integers)

  index_known : (index : IndexTree) → index_faults s index ≡ [] → IsIndex index
  index_known (OfRange r) h =
      let x = range_known integer_type (wanted.OfType integer_type) (Some integer) r (ap is_integers sound.integer) h in
      record { subtype = x.subtype; is = x.is; integers = ap (λ n. is_integers (form_at s n)) x.numbered ∙ ap is_integers sound.integer }
  index_known (OfName name) h =
      let named = subtype_faults s name in
      let other = rule NO_MEANING name.place (is_other s (subtype_of s name)) in
      let x = subtype_named name (front_empty named other h) in
      let y = integer_subtype name name.place x (back_empty named other h) in
      record { subtype = x.subtype; is = y.1; integers = y.0 }

  short_known : (t : Subtype) → is_none (short_length t) ≡ false → short_length t ≡ Some (length_of t)
  short_known t h = by_test (nat_lt COMPONENTS (length_of t)) h
    where
      by_test : (b : Bool) → is_none (elim b [ true ↦ None | false ↦ Some (length_of t) ]) ≡ false → elim b [ true ↦ None | false ↦ Some (length_of t) ] ≡ Some (length_of t)
      by_test true k = cc
      by_test false k = refl

  array_fresh : (index component : Subtype) → is_integers (form_at s index.type_number) ≡ true → IsKnown s component
      → IsFresh s (composite s (Arrays index (length_of index) component))
  array_fresh index component integers known =
      record { sound = record { numbered = refl; parts = record { integers = integers; counted = refl; earlier = earlier s component known } }; untimed = refl }

  array_known : (index : IndexTree) (component : Identifier) → array_faults s index component ≡ [] → IsFresh s (array_entity s (index_subtype s index) (subtype_of s component))
  array_known index component h =
      let one = index_faults s index in
      let two = rule LIMIT_PASSED (index_place index) (is_long (index_subtype s index)) in
      let three = subtype_faults s component in
      let both = front_empty (one ++ two) three h in
      let x = index_known index (front_empty one two both) in
      let y = subtype_named component (back_empty (one ++ two) three h) in
      let short = ap is_long (sym x.is) ∙ unbroken LIMIT_PASSED (index_place index) (is_long (index_subtype s index)) (back_empty one two both) in
      let counted = short_known x.subtype short in
      let is : array_entity s (index_subtype s index) (subtype_of s component) ≡ composite s (Arrays x.subtype (length_of x.subtype) y.subtype) =
      (λ j. array_entity s (x.is j) (y.is j)) ∙ ap (λ o. elim o [ Some n ↦ composite s (Arrays x.subtype n y.subtype) | None ↦ Doubtful ]) counted in
      subst (IsFresh s) (sym is) (array_fresh x.subtype y.subtype x.integers y.known)

  -- ---- records

  pub record HasComponents (cs : List Component) : Type 0 where
    pub components : List RecordComponent
    pub is : record_components s cs ≡ Some components
    pub earlier : AreEarlier s (length s) components

  components_known : (before cs : List Component) → components_faults s before cs ≡ [] → HasComponents cs
  components_known before [] h = record { components = []; is = refl; earlier = tt }
  components_known before (c ∷ cs) h =
      let one = component_faults s before c in
      let more = components_faults s (before ++ c ∷ []) cs in
      let second = rule DECLARED_TWICE c.name.place (is_named_in before c.name.name) in
      let x = subtype_named c.subtype (back_empty second (subtype_faults s c.subtype) (front_empty one more h)) in
      let rest = components_known (before ++ c ∷ []) cs (back_empty one more h) in
      record {
        components = record { name = c.name.name; subtype = x.subtype } ∷ rest.components;
        is = λ j. component_and c (x.is j) (rest.is j);
        earlier = (earlier s x.subtype x.known, rest.earlier);
      }

  -- ---- all definitions

  integer_fresh : (t : Subtype) → t.type_number ≡ length s → IsFresh s (OfType Integers t)
  integer_fresh t numbered = record { sound = record { numbered = numbered; parts = tt }; untimed = refl }

  subtype_fresh : (t : Subtype) → IsKnown s t → IsFresh s (OfSubtype t)
  subtype_fresh t known = record { sound = known; untimed = refl }

  pub definition_fresh : (d : DefinitionTree) → definition_faults s d ≡ [] → IsFresh s (definition_entity s d)
  definition_fresh (Integer r) h =
      let x = range_known (length s) wanted.AnyInteger None r tt h in
      subst (IsFresh s) (sym (ap integer_entity x.is)) (integer_fresh x.subtype x.numbered)
  definition_fresh (Array index component) h = array_known index component h
  definition_fresh (Record cs) h =
      let x = components_known [] cs h in
      subst (IsFresh s) (sym (ap (record_entity s) x.is)) (record { sound = record { numbered = refl; parts = x.earlier }; untimed = refl })
  definition_fresh (SubtypeOf name None) h =
      let x = subtype_named name h in
      subst (IsFresh s) (sym (ap subtype_entity x.is)) (subtype_fresh x.subtype x.known)
  definition_fresh (SubtypeOf name (Some r)) h =
      let one = subtype_faults s name in
      let two = rule NO_MEANING name.place (is_other s (subtype_of s name)) in
      let three = narrowed_faults s r (if_integer s (subtype_of s name)) in
      let both = front_empty (one ++ two) three h in
      let x = subtype_named name (front_empty one two both) in
      let y = integer_subtype name name.place x (back_empty one two both) in
      let range = ap (narrowed_faults s r) (sym y.1) ∙ back_empty (one ++ two) three h in
      let z = range_known x.subtype.type_number (wanted.OfType x.subtype.type_number) (Some x.subtype) r y.0 range in
      let is : definition_entity s (SubtypeOf name (Some r)) ≡ OfSubtype z.subtype = ap (λ o. subtype_entity (narrowed s o r)) y.1 ∙ ap subtype_entity z.is in
      subst (IsFresh s) (sym is) (subtype_fresh z.subtype (subst (λ n. is_some (form_at s n) ≡ true) (sym z.numbered) x.known))
