-- The subtypes of a legal program have the values at which their objects begin: no integer range is null, and times and spans have their base range.
use Rattle.std.proofs.Common.{◌≡◌, ◌++◌, ℕ, zero, suc, length, List, [], ◌∷◌, Bool, true, false, inl, inr, Option, Some, None, refl, sym, ap, ◌∙◌, subst, arith}
use Rattle.std.specs.Prelude.{ℤ, pos, ◌&&◌, cond, int_le, is_some}
use Rattle.expr_soundness.specs.ada_tree.specs.declared.declaration.Component.{Component}
use Rattle.expr_soundness.specs.ada_tree.specs.declared.expression.Identifier.{Identifier}
use Rattle.expr_soundness.specs.ada_tree.specs.ProgramTree.{DefinitionTree, Integer, Array, Record, Subtype as SubtypeOf, BodyItemTree, OfItem, SubprogramBody, TaskBody, ProtectedBody, ItemTree, OfType as OfTypeItem, OfObject, OfException, OfSubprogram, OfTask, OfProtected, PackageTree, ProgramTree}
use Rattle.expr_soundness.specs.ada_tree.specs.StatementTree.{RangeTree}
use Rattle.types.specs.declared.entity.RecordComponent.{RecordComponent}
use Rattle.types.specs.declared.entity.Role.TheVariants as role
use Rattle.types.specs.declared.entity.Subtype.{Subtype}
use Rattle.types.specs.declared.entity.Value.{Value as Scalar}
use Rattle.types.specs.Entities.{Entity, Operation, Profile, TypeForm, Integers, Booleans, Times, Spans, Arrays, Records, OfType, OfSubtype, Object, Constant, Literal, Exception, Subprogram, Entry, Predefined, Put, Task, Protected, LibraryUnit, Doubtful}
use Rattle.types.specs.Scopes.{Scope, entity_at, form_at, form_of, greatest_number, integer, is_visible, least_number, number_of, standard, with_name}
use Rattle.types.specs.Values.{is_within}
use Rattle.expr_soundness.specs.expr_rules.specs.declared.own.Wanted.TheVariants as wanted
use Rattle.expr_soundness.specs.expr_rules.specs.Typing.{is_integers}
use Rattle.expr_soundness.specs.expr_rules.proofs.TypeShapes.{type_entity}
use Rattle.expr_soundness.specs.expr_rules.proofs.TypedLaw.{back_empty, front_empty}
use Rattle.expr_soundness.specs.type_rules.specs.ObjectRules.{constant_entity, initial_scalar, object_entity}
use Rattle.expr_soundness.specs.type_rules.specs.ProfileRules.{profile_entity}
use Rattle.expr_soundness.specs.type_rules.specs.SubtypeNames.{declared_twice, entity_at_or_none, if_integer, subtype_in, subtype_of}
use Rattle.expr_soundness.specs.type_rules.specs.TypeRules.{array_entity, bounded, component_and, composite, definition_entity, definition_faults, index_subtype, integer_entity, narrowed, record_components, record_entity, short_length, static_whole, subtype_entity}
use Rattle.declaration_rules.specs.ItemRules.{item_faults, item_scope, items_faults, items_scope}
use Rattle.declaration_rules.specs.PackageNames.{body_item_scope, body_items_scope, inside_scope, optional_scope, program_scope, specified_scope, units_scope}
use Rattle.declaration_rules.specs.ProtectedRules.{object_with}
use Rattle.unit_rules.specs.PackageBodyRules.{body_item_faults, body_items_faults}
use Rattle.legality.specs.ProgramRules.{IsLegal}
use Rattle.legality.proofs.Made.{NoUnits, Times as SeesTimes, Io, TimesIo, IoTimes, Units, clauses_seen, seen}
use Rattle.expr_soundness.specs.InitialLaw.{AllBeginInside, InitialValuesLie, PartsBeginInside, begins_inside}
use Rattle.expr_soundness.specs.SoundScopes.{AreEarlier, IsKnown, IsSoundEntity, SoundScope}
use Rattle.expr_soundness.proofs.Elements.{both_left, both_right}
use Rattle.expr_soundness.proofs.Growing.{HasTypes, grown}
use Rattle.expr_soundness.proofs.Positions.{entity_added, same_some}
use Rattle.expr_soundness.proofs.Widening.{subtype_known}
use Rattle.expr_soundness.specs.meaning.specs.Programs.{subtype_named, subtype_or_integer}
use Rattle.step_soundness.specs.InSubtypes.{BeginsIn}
use Rattle.program_soundness.proofs.Declared.{item_sound, subprogram_sound}
use Rattle.program_soundness.proofs.Parts.{legal_body, legal_package}
use Rattle.program_soundness.proofs.Subtypes.{definition_fresh}
use Rattle.program_soundness.proofs.Walks.{inside_sound, seen_sound, specified_sound}

-- ---- subtypes with such values

-- an integer range is not null, and times and spans have the base range
abbrev pub form_fits : Option TypeForm → Subtype → Bool
form_fits (Some Integers) t = int_le t.first t.last
form_fits (Some Times) t = int_le t.first least_number && int_le greatest_number t.last
form_fits (Some Spans) t = int_le t.first least_number && int_le greatest_number t.last
form_fits form t = true

abbrev pub subtype_fits : Scope → Subtype → Bool
subtype_fits s t = form_fits (form_at s t.type_number) t

abbrev all_fit : Scope → List RecordComponent → Bool
all_fit s [] = true
all_fit s (c ∷ cs) = subtype_fits s c.subtype && all_fit s cs

abbrev parts_fit : Scope → TypeForm → Bool
parts_fit s (Arrays index size element) = subtype_fits s element
parts_fit s (Records components) = all_fit s components
parts_fit s form = true

abbrev entity_fits : Scope → Entity → Bool
entity_fits s (OfType form t) = form_fits (Some form) t && parts_fit s form
entity_fits s (OfSubtype t) = subtype_fits s t
entity_fits s e = true

abbrev pub Fits : Scope → Type 0
Fits s = (number : ℕ) (e : Entity) → entity_at s number ≡ Some e → entity_fits s e ≡ true

abbrev each_fits : Scope → Scope → Bool
each_fits s [] = true
each_fits s (n ∷ rest) = entity_fits s n.entity && each_fits s rest

fits_each : (s rest : Scope) → each_fits s rest ≡ true → (number : ℕ) (e : Entity) → entity_at rest number ≡ Some e → entity_fits s e ≡ true
fits_each s [] h number e at = cc
fits_each s (n ∷ rest) h zero e at = subst (λ x. entity_fits s x ≡ true) (same_some n.entity e at) (both_left (entity_fits s n.entity) (each_fits s rest) h)
fits_each s (n ∷ rest) h (suc number) e at = fits_each s rest (both_right (entity_fits s n.entity) (each_fits s rest) h) number e at

seen_each : (u : Units) → each_fits (seen u) (seen u) ≡ true
seen_each NoUnits = refl
seen_each SeesTimes = refl
seen_each Io = refl
seen_each TimesIo = refl
seen_each IoTimes = refl

-- ---- with more names

both_hold : (a b : Bool) → a ≡ true → b ≡ true → (a && b) ≡ true
both_hold true b h k = k
both_hold false b h k = cc

module _ (s u : Scope) (has : HasTypes s u) where
  fits_kept : (t : Subtype) → IsKnown s t → subtype_fits s t ≡ true → subtype_fits u t ≡ true
  fits_kept t known h = by_form (form_at s t.type_number) refl known
    where
      by_form : (o : Option TypeForm) → form_at s t.type_number ≡ o → is_some o ≡ true → subtype_fits u t ≡ true
      by_form (Some form) e k = ap (λ o. form_fits o t) (has.forms t.type_number form e) ∙ sym (ap (λ o. form_fits o t) e) ∙ h
      by_form None e k = cc

  all_kept : (number : ℕ) (cs : List RecordComponent) → AreEarlier s number cs → all_fit s cs ≡ true → all_fit u cs ≡ true
  all_kept number [] are h = refl
  all_kept number (c ∷ cs) are h =
      both_hold (subtype_fits u c.subtype) (all_fit u cs) (fits_kept c.subtype are.0.known (both_left (subtype_fits s c.subtype) (all_fit s cs) h))
      (all_kept number cs are.1 (both_right (subtype_fits s c.subtype) (all_fit s cs) h))

  entity_kept : (number : ℕ) (e : Entity) → IsSoundEntity s number e → entity_fits s e ≡ true → entity_fits u e ≡ true
  entity_kept number (OfType Integers t) sound h = h
  entity_kept number (OfType Booleans t) sound h = h
  entity_kept number (OfType Times t) sound h = h
  entity_kept number (OfType Spans t) sound h = h
  entity_kept number (OfType (Arrays index size element) t) sound h = fits_kept element sound.parts.earlier.known h
  entity_kept number (OfType (Records cs) t) sound h = all_kept number cs sound.parts h
  entity_kept number (OfSubtype t) sound h = fits_kept t sound h
  entity_kept number (Object r t) sound h = refl
  entity_kept number (Constant t v) sound h = refl
  entity_kept number (Literal b) sound h = refl
  entity_kept number Exception sound h = refl
  entity_kept number (Subprogram p) sound h = refl
  entity_kept number (Entry p) sound h = refl
  entity_kept number (Predefined o p) sound h = refl
  entity_kept number Put sound h = refl
  entity_kept number (Task n) sound h = refl
  entity_kept number (Protected o) sound h = refl
  entity_kept number LibraryUnit sound h = refl
  entity_kept number Doubtful sound h = refl

-- with a name more, where that fits in front of it or wherever it stands
added_fits : (s : Scope) (name : List ℕ) (e : Entity) → SoundScope s → Fits s
    → ((u : Scope) → HasTypes s u → entity_fits u e ≡ true) → Fits (with_name s name e)
added_fits s name e sound fits own = by_visible (is_visible s name)
  where
    wider : Fits (s ++ record { name = name; entity = e } ∷ [])
    wider number y at =
        let u = s ++ record { name = name; entity = e } ∷ [] in
        let has = grown s (record { name = name; entity = e } ∷ []) in
        elim (entity_added s (record { name = name; entity = e }) number y at) [
          | inl k ↦ entity_kept s u has number y (sound.each number y k) (fits number y k)
          | inr k ↦ subst (λ z. entity_fits u z ≡ true) k.1 (own u has)
        ]

    by_visible : (b : Bool) → Fits (cond b s (s ++ record { name = name; entity = e } ∷ []))
    by_visible true = fits
    by_visible false = wider

-- ---- what names of subtypes stand for

pub named_fits : (s : Scope) → Fits s → SoundScope s → (name : Identifier) (t : Subtype) → subtype_of s name ≡ Some t → subtype_fits s t ≡ true
named_fits s fits sound name t h = by_number (number_of s name.name) h
  where
    by_entity : (n : ℕ) (o : Option Entity) → entity_at s n ≡ o → subtype_in o ≡ Some t → subtype_fits s t ≡ true
    by_entity n (Some (OfType form u)) at k =
        let own = sound.each n (OfType form u) at in
        let here : form_at s u.type_number ≡ Some form = ap (form_at s) own.numbered ∙ ap form_of at in
        subst (λ v. subtype_fits s v ≡ true) (same_some u t k) (ap (λ o. form_fits o u) here
        ∙ both_left (form_fits (Some form) u) (parts_fit s form) (fits n (OfType form u) at))
    by_entity n (Some (OfSubtype u)) at k = subst (λ v. subtype_fits s v ≡ true) (same_some u t k) (fits n (OfSubtype u) at)
    by_entity n o at k = cc

    by_number : (k : Option ℕ) → subtype_in (entity_at_or_none s k) ≡ Some t → subtype_fits s t ≡ true
    by_number (Some n) h = by_entity n (entity_at s n) refl h
    by_number None h = cc

-- ---- definitions

module _ (s : Scope) (fits : Fits s) (sound : SoundScope s) where
  integer_fits : (n : ℕ) (a b : Option ℤ) → entity_fits s (integer_entity (bounded n a b)) ≡ true
  integer_fits n (Some first) (Some last) = by_test (int_le first last) refl
    where
      by_test : (b : Bool) → int_le first last ≡ b
          → entity_fits s (integer_entity (elim b [
            | true ↦ Some
                (let t : Subtype = record { type_number = n; first = first; last = last } in t)
            | false ↦ None
          ])) ≡ true
      by_test true e = ap (λ b. b && true) e
      by_test false e = refl
  integer_fits n (Some first) None = refl
  integer_fits n None b = refl

  array_fits : (index component : Option Subtype) → ((t : Subtype) → component ≡ Some t → subtype_fits s t ≡ true)
      → entity_fits s (array_entity s index component) ≡ true
  array_fits (Some index) (Some t) h = by_length (short_length index)
    where
      by_length : (o : Option ℕ) → entity_fits s (elim o [ Some n ↦ composite s (Arrays index n t) | None ↦ Doubtful ]) ≡ true
      by_length (Some n) = h t refl
      by_length None = refl
  array_fits (Some index) None h = refl
  array_fits None component h = refl

  components_fit : (cs : List Component) (xs : List RecordComponent) → record_components s cs ≡ Some xs → all_fit s xs ≡ true
  components_fit [] xs h = subst (λ ys. all_fit s ys ≡ true) (same_some [] xs h) refl
  components_fit (c ∷ cs) xs h = by_parts (subtype_of s c.subtype) refl (record_components s cs) (λ ys k. components_fit cs ys k) h
    where
      by_parts : (o : Option Subtype) → subtype_of s c.subtype ≡ o → (p : Option (List RecordComponent))
          → ((ys : List RecordComponent) → p ≡ Some ys → all_fit s ys ≡ true) → component_and c o p ≡ Some xs → all_fit s xs ≡ true
      by_parts (Some t) e (Some rest) later k =
          subst (λ ys. all_fit s ys ≡ true) (same_some (record { name = c.name.name; subtype = t } ∷ rest) xs k)
          (both_hold (subtype_fits s t) (all_fit s rest) (named_fits s fits sound c.subtype t e) (later rest refl))
      by_parts (Some t) e None later k = cc
      by_parts None e p later k = cc

  record_fits : (o : Option (List RecordComponent)) → ((xs : List RecordComponent) → o ≡ Some xs → all_fit s xs ≡ true)
      → entity_fits s (record_entity s o) ≡ true
  record_fits (Some xs) h = h xs refl
  record_fits None h = refl

  subtype_entity_fits : (o : Option Subtype) → ((t : Subtype) → o ≡ Some t → subtype_fits s t ≡ true) → entity_fits s (subtype_entity o) ≡ true
  subtype_entity_fits (Some t) h = h t refl
  subtype_entity_fits None h = refl

  bounded_fits : (n : ℕ) → is_integers (form_at s n) ≡ true → (a b : Option ℤ) (t : Subtype) → bounded n a b ≡ Some t → subtype_fits s t ≡ true
  bounded_fits n i (Some first) (Some last) t h = by_test (int_le first last) refl h
    where
      integers : (o : Option TypeForm) → is_integers o ≡ true → form_fits o (record { type_number = n; first = first; last = last }) ≡ int_le first last
      integers (Some Integers) k = refl
      integers (Some Booleans) k = cc
      integers (Some Times) k = cc
      integers (Some Spans) k = cc
      integers (Some (Arrays index size element)) k = cc
      integers (Some (Records cs)) k = cc
      integers None k = cc

      by_test : (b : Bool) → int_le first last ≡ b
          → elim b [ true ↦ Some (let u : Subtype = record { type_number = n; first = first; last = last } in u) | false ↦ None ] ≡ Some t
          → subtype_fits s t ≡ true
      by_test true e k =
          subst (λ u. subtype_fits s u ≡ true) (same_some (record { type_number = n; first = first; last = last }) t k) (integers (form_at s n) i ∙ e)
      by_test false e k = cc
  bounded_fits n i (Some first) None t h = cc
  bounded_fits n i None b t h = cc

  narrowed_fits : (o : Option Subtype) (r : RangeTree) (t : Subtype) → narrowed s (if_integer s o) r ≡ Some t → subtype_fits s t ≡ true
  narrowed_fits (Some u) r t h = by_test (is_integers (form_at s u.type_number)) refl h
    where
      by_test : (b : Bool) → is_integers (form_at s u.type_number) ≡ b → narrowed s (elim b [ true ↦ Some u | false ↦ None ]) r ≡ Some t
          → subtype_fits s t ≡ true
      by_test true e k =
          let w = wanted.OfType u.type_number in bounded_fits u.type_number e (static_whole s w (Some u) r.first) (static_whole s w (Some u) r.last) t k
      by_test false e k = cc
  narrowed_fits None r t h = cc

  definition_fits : (d : DefinitionTree) → entity_fits s (definition_entity s d) ≡ true
  definition_fits (Integer r) = integer_fits (length s) (static_whole s wanted.AnyInteger None r.first) (static_whole s wanted.AnyInteger None r.last)
  definition_fits (Array index component) = array_fits (index_subtype s index) (subtype_of s component) (λ t e. named_fits s fits sound component t e)
  definition_fits (Record components) = record_fits (record_components s components) (λ xs e. components_fit components xs e)
  definition_fits (SubtypeOf name None) = subtype_entity_fits (subtype_of s name) (λ t e. named_fits s fits sound name t e)
  definition_fits (SubtypeOf name (Some r)) = subtype_entity_fits (narrowed s (if_integer s (subtype_of s name)) r)
      (λ t e. narrowed_fits (subtype_of s name) r t e)

-- ---- what is no type

object_fits : (u : Scope) (constant : Bool) (t : Option Subtype) (v : Option Scalar)
    → entity_fits u (elim constant [ true ↦ constant_entity t v | false ↦ object_entity role.Variable t ]) ≡ true
object_fits u true (Some t) (Some v) = refl
object_fits u true (Some t) None = refl
object_fits u true None v = refl
object_fits u false (Some t) v = refl
object_fits u false None v = refl

profile_fits : (u : Scope) (o : Option Profile) → entity_fits u (profile_entity o) ≡ true
profile_fits u (Some p) = refl
profile_fits u None = refl

protected_fits : (u : Scope) (number ceiling : ℕ) (operations : Option (List Operation)) (components : Option (List RecordComponent))
    → entity_fits u (object_with number ceiling operations components) ≡ true
protected_fits u number ceiling (Some os) (Some cs) = refl
protected_fits u number ceiling (Some os) None = refl
protected_fits u number ceiling None components = refl

-- ---- declarations

item_fits : (s : Scope) (d : ItemTree) → SoundScope s → Fits s → item_faults s d ≡ [] → Fits (item_scope s d)
item_fits s (OfTypeItem d) sound fits h =
    let fresh = definition_fresh s sound d.definition (front_empty (definition_faults s d.definition) (declared_twice s d.name) h) in
    added_fits s d.name.name (definition_entity s d.definition) sound fits
    (λ u has. entity_kept s u has (length s) (definition_entity s d.definition) fresh.sound (definition_fits s fits sound d.definition))
item_fits s (OfObject d) sound fits h =
    added_fits s d.name.name _ sound fits (λ u has. object_fits u d.constant (subtype_of s d.subtype) (initial_scalar s (subtype_of s d.subtype) d.value))
item_fits s (OfException name) sound fits h = added_fits s name.name Exception sound fits (λ u has. refl)
item_fits s (OfSubprogram d) sound fits h = added_fits s d.name.name _ sound fits (λ u has. profile_fits u _)
item_fits s (OfTask d) sound fits h = added_fits s d.name.name _ sound fits (λ u has. refl)
item_fits s (OfProtected d) sound fits h = added_fits s d.name.name _ sound fits (λ u has. protected_fits u _ _ _ _)

items_fit : (s : Scope) (ds : List ItemTree) → SoundScope s → Fits s → items_faults s ds ≡ [] → Fits (items_scope s ds)
items_fit s [] sound fits h = fits
items_fit s (d ∷ ds) sound fits h =
    let here = front_empty (item_faults s d) (items_faults (item_scope s d) ds) h in
    items_fit (item_scope s d) ds (item_sound s d sound here) (item_fits s d sound fits here)
    (back_empty (item_faults s d) (items_faults (item_scope s d) ds) h)

body_item_fits : (s : Scope) (i : BodyItemTree) → SoundScope s → Fits s → body_item_faults s i ≡ [] → SoundScope (body_item_scope s i)
    × Fits (body_item_scope s i)
body_item_fits s (OfItem d) sound fits h = (item_sound s d sound h, item_fits s d sound fits h)
body_item_fits s (SubprogramBody d b) sound fits h =
    (subprogram_sound s sound d (legal_body s d b h).profile, added_fits s d.name.name _ sound fits (λ u has. profile_fits u _))
body_item_fits s (TaskBody name b) sound fits h = (sound, fits)
body_item_fits s (ProtectedBody name items end_name) sound fits h = (sound, fits)

body_items_fit : (s : Scope) (is : List BodyItemTree) → SoundScope s → Fits s → body_items_faults s is ≡ [] → Fits (body_items_scope s is)
body_items_fit s [] sound fits h = fits
body_items_fit s (i ∷ is) sound fits h =
    let next = body_item_fits s i sound fits (front_empty (body_item_faults s i) (body_items_faults (body_item_scope s i) is) h) in
    body_items_fit (body_item_scope s i) is next.0 next.1 (back_empty (body_item_faults s i) (body_items_faults (body_item_scope s i) is) h)

inside_fits : (p : PackageTree) → Fits (inside_scope standard p)
inside_fits p =
    let units = clauses_seen NoUnits p.clauses in
    let front : Fits (units_scope standard p) = subst Fits (sym units.1) (fits_each (seen units.0) (seen units.0) (seen_each units.0)) in
    let sound : SoundScope (units_scope standard p) = subst SoundScope (sym units.1) (seen_sound units.0) in
    added_fits (units_scope standard p) p.declaration.name.name LibraryUnit sound front (λ u has. refl)

-- the subtypes of a legal program
pub program_fits : (t : ProgramTree) → IsLegal t → Fits (program_scope t)
program_fits t legal = by_package t.package_ refl
  where
    by_package : (o : Option PackageTree) → t.package_ ≡ o → Fits (program_scope t)
    by_package None is = subst Fits (sym (ap (optional_scope standard) is)) (fits_each standard standard (seen_each NoUnits))
    by_package (Some p) is =
        let specified = specified_scope standard p in
        let faults = legal_package t p legal is in
        subst Fits (sym (ap (optional_scope standard) is))
        (body_items_fit specified p.body.items (specified_sound t p legal is)
        (items_fit (inside_scope standard p) p.declaration.items (inside_sound p) (inside_fits p) faults.items) faults.bodies)

-- ---- objects that are given no value

wide : (first last : ℤ) → (int_le first least_number && int_le greatest_number last) ≡ true → is_within first last (pos 0) ≡ true
wide first last h = grind (arith, h)

begins_form : (o : Option TypeForm) (t : Subtype) → form_fits o t ≡ true → begins_inside o t ≡ true
begins_form (Some Integers) t h = h
begins_form (Some Times) t h = wide t.first t.last h
begins_form (Some Spans) t h = wide t.first t.last h
begins_form (Some Booleans) t h = refl
begins_form (Some (Arrays index size element)) t h = refl
begins_form (Some (Records cs)) t h = refl
begins_form None t h = refl

module _ (initial : InitialValuesLie) (s : Scope) (sound : SoundScope s) (fits : Fits s) where
  all_begin : (cs : List RecordComponent) → all_fit s cs ≡ true → AllBeginInside s cs
  all_begin [] h = tt
  all_begin (c ∷ cs) h = (
    begins_form (form_at s c.subtype.type_number) c.subtype (both_left (subtype_fits s c.subtype) (all_fit s cs) h),
    all_begin cs (both_right (subtype_fits s c.subtype) (all_fit s cs) h),
  )

  parts_begin : (form : TypeForm) → parts_fit s form ≡ true → PartsBeginInside s form
  parts_begin (Arrays index size element) h = begins_form (form_at s element.type_number) element h
  parts_begin (Records cs) h = all_begin cs h
  parts_begin Integers h = tt
  parts_begin Booleans h = tt
  parts_begin Times h = tt
  parts_begin Spans h = tt

  forms_begin : (number : ℕ) (form : TypeForm) → form_at s number ≡ Some form → PartsBeginInside s form
  forms_begin number form h =
      let t = type_entity (entity_at s number) form h in
      parts_begin form (both_right (form_fits (Some form) t.0) (parts_fit s form) (fits number (OfType form t.0) t.1))

  pub subtype_begins : (t : Subtype) → IsKnown s t → subtype_fits s t ≡ true → BeginsIn s t
  subtype_begins t known h = initial s sound forms_begin t known (begins_form (form_at s t.type_number) t h)

  integer_fits_here : subtype_fits s integer ≡ true
  integer_fits_here = ap (λ o. form_fits o integer) sound.integer

  pub named_begins : (name : Identifier) → BeginsIn s (subtype_named s name)
  named_begins name = by_subtype (subtype_of s name) refl
    where
      by_subtype : (o : Option Subtype) → subtype_of s name ≡ o → BeginsIn s (subtype_or_integer o)
      by_subtype (Some t) is = subtype_begins t (subtype_known s name t sound is) (named_fits s fits sound name t is)
      by_subtype None is = subtype_begins integer (ap is_some sound.integer) integer_fits_here
