-- What each visible name of a package was declared as, behind the names in front of it: types have numbers of names up to their own, and protected objects are numbered in order.
use Rattle.std.proofs.Common.{◌≡◌, ◌<◌, ◌≤◌, ℕ, zero, suc, ◌+◌, ℤ, Bool, true, false, List, [], ◌∷◌, ◌++◌, length, slice_get, Option, Some, None, refl, sym, ap, subst, ◌∙◌, arith}
use Rattle.std.proofs.lemmas.List.{append_assoc, append-nil, length-append}
use Rattle.std.specs.Prelude.{⊤, int_le, nat_lt, ◌&&◌, if◌then◌else◌}
use Rattle.std.proofs.lemmas.Bool.{and_parts, ltb-true}
use Rattle.ada_tree.specs.declared.expression.Identifier.{Identifier}
use Rattle.ada_tree.specs.StatementTree.{RangeTree}
use Rattle.ada_tree.specs.ProgramTree.{BodyItemTree, OfItem, SubprogramBody, DefinitionTree, Integer, Array, Record, Subtype as SubtypeOf, ItemTree, OfType, OfObject, OfException, OfSubprogram, OfTask, OfProtected, PackageTree}
use Rattle.ada_tree.specs.declared.program.UnitClause.{UnitClause}
use Rattle.types.specs.declared.entity.RecordComponent.{RecordComponent}
use Rattle.types.specs.declared.entity.Role.{Role}
use Rattle.types.specs.declared.entity.Subtype.{Subtype}
use Rattle.types.specs.declared.entity.Value.{Value as Scalar}
use Rattle.types.specs.Entities.{Entity, Operation, Profile, Protected}
use Rattle.types.specs.Entities as entity
use Rattle.types.specs.Scopes.{Named, Scope, entity_of, is_visible, number_of, standard, with_control_io, with_name, with_real_time}
use Rattle.expr_rules.specs.declared.own.Wanted.TheVariants as wanted
use Rattle.declaration_rules.specs.ItemRules.{item_scope, items_scope}
use Rattle.type_rules.specs.ObjectRules.{constant_entity, initial_scalar, object_entity}
use Rattle.types.specs.declared.entity.Role.TheVariants as role
use Rattle.type_rules.specs.ProfileRules.{formal_parameters, profile_entity, profile_with}
use Rattle.declaration_rules.specs.ProtectedRules.{object_components, object_operations, object_with, protected_count}
use Rattle.type_rules.specs.SubtypeNames.{entity_at_or_none, if_integer, subtype_in, subtype_of}
use Rattle.type_rules.specs.TypeRules.{array_entity, bounded, composite, definition_entity, index_subtype, integer_entity, narrowed, record_components, record_entity, short_length, static_whole, subtype_entity}
use Rattle.expr_rules.specs.Typing.{is_integers}
use Rattle.types.specs.Scopes.{form_at}
use Rattle.declaration_rules.specs.PackageNames.{body_item_scope, body_items_scope, clauses_scope, inside_scope, is_control_io, is_real_time, optional_scope, specified_scope}

-- ---- scopes whose entities are sound, each behind the names in front of it

abbrev pub IsSound : Scope → Entity → Type 0
IsSound s (entity.OfType form t) = t.type_number < suc (length s)
IsSound s (entity.OfSubtype t) = t.type_number < suc (length s)
IsSound s (Protected p) = p.number ≡ protected_count s
IsSound s e = ⊤

abbrev pub IsMade : (before names : Scope) → Type 0
IsMade b [] = ⊤
IsMade b (n ∷ rest) = IsSound b n.entity × IsMade (b ++ n ∷ []) rest

made_push : (b s : Scope) (n : Named) → IsMade b s → IsSound (b ++ s) n.entity → IsMade b (s ++ n ∷ [])
made_push b [] n made sound = (subst (λ l. IsSound l n.entity) (append-nil b) sound, tt)
made_push b (x ∷ s) n made sound = (made.0, made_push (b ++ x ∷ []) s n made.1 (subst (λ l. IsSound l n.entity) (sym (append_assoc b (x ∷ []) s)) sound))

made_by : (s : Scope) (n : Named) (b : Bool) → IsMade [] s → IsSound s n.entity → IsMade [] (if b then s else s ++ n ∷ [])
made_by s n true made sound = made
made_by s n false made sound = made_push [] s n made sound

made_with : (s : Scope) (name : List ℕ) (e : Entity) → IsMade [] s → IsSound s e → IsMade [] (with_name s name e)
made_with s name e made sound = made_by s (record { name = name; entity = e }) (is_visible s name) made sound

-- ---- the subtypes that names stand for

abbrev pub IsBelow : ℕ → Option Subtype → Type 0
IsBelow k (Some t) = t.type_number < k
IsBelow k None = ⊤

wider : (k m : ℕ) (o : Option Subtype) → k ≤ m → IsBelow k o → IsBelow m o
wider k m (Some t) more below = omega (arith, more, below)
wider k m None more below = tt

one_below : (b : Scope) (k : ℕ) (e : Entity) → suc (length b) ≤ k → IsSound b e → IsBelow k (subtype_in (Some e))
one_below b k (entity.OfType form t) more sound = omega (arith, more, sound)
one_below b k (entity.OfSubtype t) more sound = omega (arith, more, sound)
one_below b k e more sound = tt

at_below : (b s : Scope) (k n : ℕ) → length b + length s ≤ k → IsMade b s → IsBelow k (subtype_in (entity_of (slice_get s n)))
at_below b [] k n more made = tt
at_below b (x ∷ s) k zero more made = one_below b k x.entity (omega (arith, more)) made.0
at_below b (x ∷ s) k (suc n) more made =
    let size = length-append b (x ∷ []) in at_below (b ++ x ∷ []) s k n (omega (arith, size, more)) made.1

below_at : (s : Scope) (o : Option ℕ) → IsMade [] s → IsBelow (length s) (subtype_in (entity_at_or_none s o))
below_at s (Some n) made = at_below [] s (length s) n (omega arith) made
below_at s None made = tt

pub subtype_below : (s : Scope) (name : Identifier) → IsMade [] s → IsBelow (length s) (subtype_of s name)
subtype_below s name made = below_at s (number_of s name.name) made

-- ---- types

given : (k n : ℕ) (first last : ℤ) (b : Bool) → n < k → IsBelow k (elim b [ true ↦ Some (record { type_number = n; first = first; last = last }) | false ↦ None ])
given k n first last true less = less
given k n first last false less = tt

bounded_below : (k n : ℕ) (a b : Option ℤ) → n < k → IsBelow k (bounded n a b)
bounded_below k n (Some first) (Some last) less = given k n first last (int_le first last) less
bounded_below k n (Some first) None less = tt
bounded_below k n None b less = tt

integer_sound : (s : Scope) (o : Option Subtype) → IsBelow (suc (length s)) o → IsSound s (integer_entity o)
integer_sound s (Some t) below = below
integer_sound s None below = tt

sized_sound : (s : Scope) (index component : Subtype) (o : Option ℕ) → IsSound s (elim o [ Some n ↦ composite s (entity.Arrays index n component) | None ↦ entity.Doubtful ])
sized_sound s index component (Some n) = omega arith
sized_sound s index component None = tt

array_sound : (s : Scope) (index component : Option Subtype) → IsSound s (array_entity s index component)
array_sound s (Some index) (Some component) = sized_sound s index component (short_length index)
array_sound s (Some index) None = tt
array_sound s None component = tt

record_sound : (s : Scope) (o : Option (List RecordComponent)) → IsSound s (record_entity s o)
record_sound s (Some components) = omega arith
record_sound s None = tt

subtype_sound : (s : Scope) (o : Option Subtype) → IsBelow (length s) o → IsSound s (subtype_entity o)
subtype_sound s (Some t) below = omega (arith, below)
subtype_sound s None below = tt

integer_by : (k : ℕ) (t : Subtype) (b : Bool) → t.type_number < k → IsBelow k (elim b [ true ↦ Some t | false ↦ None ])
integer_by k t true below = below
integer_by k t false below = tt

integer_below : (s : Scope) (k : ℕ) (o : Option Subtype) → IsBelow k o → IsBelow k (if_integer s o)
integer_below s k (Some t) below = integer_by k t (is_integers (form_at s t.type_number)) below
integer_below s k None below = tt

narrowed_below : (s : Scope) (k : ℕ) (o : Option Subtype) (r : RangeTree) → IsBelow k o → IsBelow k (narrowed s o r)
narrowed_below s k (Some t) r below =
    let whole = static_whole s (wanted.OfType t.type_number) (Some t) in bounded_below k t.type_number (whole r.first) (whole r.last) below
narrowed_below s k None r below = tt

type_sound : (s : Scope) (d : DefinitionTree) → IsMade [] s → IsSound s (definition_entity s d)
type_sound s (Integer r) made =
    let whole = static_whole s wanted.AnyInteger None in
    integer_sound s (bounded (length s) (whole r.first) (whole r.last)) (bounded_below (suc (length s)) (length s) (whole r.first) (whole r.last) (omega arith))
type_sound s (Array index component) made = array_sound s (index_subtype s index) (subtype_of s component)
type_sound s (Record components) made = record_sound s (record_components s components)
type_sound s (SubtypeOf name None) made = subtype_sound s (subtype_of s name) (subtype_below s name made)
type_sound s (SubtypeOf name (Some r)) made =
    let o = if_integer s (subtype_of s name) in
    subtype_sound s (narrowed s o r) (narrowed_below s (length s) o r (integer_below s (length s) (subtype_of s name) (subtype_below s name made)))

-- ---- other declarations

object_sound : (s : Scope) (r : Role) (o : Option Subtype) → IsSound s (object_entity r o)
object_sound s r (Some t) = tt
object_sound s r None = tt

constant_sound : (s : Scope) (o : Option Subtype) (v : Option Scalar) → IsSound s (constant_entity o v)
constant_sound s (Some t) (Some v) = tt
constant_sound s (Some t) None = tt
constant_sound s None v = tt

declared_sound : (s : Scope) (o : Option Subtype) (v : Option Scalar) (b : Bool) → IsSound s (elim b [ true ↦ constant_entity o v | false ↦ object_entity role.Variable o ])
declared_sound s o v true = constant_sound s o v
declared_sound s o v false = object_sound s role.Variable o

profile_sound : (s : Scope) (o : Option Profile) → IsSound s (profile_entity o)
profile_sound s (Some p) = tt
profile_sound s None = tt

protected_sound : (s : Scope) (ceiling : ℕ) (a : Option (List Operation)) (b : Option (List RecordComponent)) → IsSound s (object_with (protected_count s) ceiling a b)
protected_sound s ceiling (Some operations) (Some components) = refl
protected_sound s ceiling (Some operations) None = tt
protected_sound s ceiling None b = tt

-- ---- the package

pub item_made : (s : Scope) (d : ItemTree) → IsMade [] s → IsMade [] (item_scope s d)
item_made s (OfType d) made = made_with s d.name.name (definition_entity s d.definition) made (type_sound s d.definition made)
item_made s (OfObject d) made =
    made_with s d.name.name _ made (declared_sound s (subtype_of s d.subtype) (initial_scalar s (subtype_of s d.subtype) d.value) d.constant)
item_made s (OfException name) made = made_with s name.name entity.Exception made tt
item_made s (OfSubprogram d) made =
    let o = profile_with s (formal_parameters s d.formals) d.result in made_with s d.name.name (profile_entity o) made (profile_sound s o)
item_made s (OfTask d) made = made_with s d.name.name _ made tt
item_made s (OfProtected d) made =
    made_with s d.name.name _ made (protected_sound s _ (object_operations s d.operations) (object_components s d.components))

pub items_made : (s : Scope) (ds : List ItemTree) → IsMade [] s → IsMade [] (items_scope s ds)
items_made s [] made = made
items_made s (d ∷ ds) made = items_made (item_scope s d) ds (item_made s d made)

pub body_item_made : (s : Scope) (i : BodyItemTree) → IsMade [] s → IsMade [] (body_item_scope s i)
body_item_made s (OfItem d) made = item_made s d made
body_item_made s (SubprogramBody d b) made = item_made s (OfSubprogram d) made
body_item_made s other made = made

pub body_items_made : (s : Scope) (is : List BodyItemTree) → IsMade [] s → IsMade [] (body_items_scope s is)
body_items_made s [] made = made
body_items_made s (i ∷ is) made = body_items_made (body_item_scope s i) is (body_item_made s i made)

-- ---- in front of the package: the names of Standard and of the units, in the order in which they became visible

pub data Units : Type 0 where
  NoUnits Times Io TimesIo IoTimes : Units

abbrev pub seen : Units → Scope
seen NoUnits = standard
seen Times = with_real_time standard
seen Io = with_control_io standard
seen TimesIo = with_control_io (with_real_time standard)
seen IoTimes = with_real_time (with_control_io standard)

abbrev with_times : Units → Units
with_times NoUnits = Times
with_times Io = IoTimes
with_times u = u

abbrev with_io : Units → Units
with_io NoUnits = Io
with_io Times = TimesIo
with_io u = u

times_seen : (u : Units) → with_real_time (seen u) ≡ seen (with_times u)
times_seen NoUnits = refl
times_seen Times = refl
times_seen Io = refl
times_seen TimesIo = refl
times_seen IoTimes = refl

io_seen : (u : Units) → with_control_io (seen u) ≡ seen (with_io u)
io_seen NoUnits = refl
io_seen Times = refl
io_seen Io = refl
io_seen TimesIo = refl
io_seen IoTimes = refl

clause_seen : (u : Units) (b c : Bool) → (v : Units) × (elim b [ true ↦ with_real_time (seen u) | false ↦ elim c [ true ↦ with_control_io (seen u) | false ↦ seen u ] ] ≡ seen v)
clause_seen u true c = (with_times u, times_seen u)
clause_seen u false true = (with_io u, io_seen u)
clause_seen u false false = (u, refl)

pub clauses_seen : (u : Units) (cs : List UnitClause) → (v : Units) × (clauses_scope (seen u) cs ≡ seen v)
clauses_seen u [] = (u, refl)
clauses_seen u (c ∷ cs) =
    let here = clause_seen u (is_real_time c.unit) (is_control_io c.unit) in
    let there = clauses_seen here.0 cs in (there.0, ap (λ s. clauses_scope s cs) here.1 ∙ there.1)

abbrev is_sound : Scope → Entity → Bool
is_sound s (entity.OfType form t) = nat_lt t.type_number (suc (length s))
is_sound s (entity.OfSubtype t) = nat_lt t.type_number (suc (length s))
is_sound s (Protected p) = false
is_sound s e = true

abbrev is_made : (before names : Scope) → Bool
is_made b [] = true
is_made b (n ∷ rest) = is_sound b n.entity && is_made (b ++ n ∷ []) rest

sound_from : (s : Scope) (e : Entity) → is_sound s e ≡ true → IsSound s e
sound_from s (entity.OfType form t) h = ltb-true t.type_number (suc (length s)) h
sound_from s (entity.OfSubtype t) h = ltb-true t.type_number (suc (length s)) h
sound_from s (Protected p) h = cc
sound_from s e h = tt

made_from : (b s : Scope) → is_made b s ≡ true → IsMade b s
made_from b [] h = tt
made_from b (n ∷ rest) h =
    let two = and_parts (is_sound b n.entity) (is_made (b ++ n ∷ []) rest) h in (sound_from b n.entity two.0, made_from (b ++ n ∷ []) rest two.1)

seen_made : (u : Units) → IsMade [] (seen u)
seen_made NoUnits = made_from [] (seen NoUnits) refl
seen_made Times = made_from [] (seen Times) refl
seen_made Io = made_from [] (seen Io) refl
seen_made TimesIo = made_from [] (seen TimesIo) refl
seen_made IoTimes = made_from [] (seen IoTimes) refl

pub inside_made : (p : PackageTree) → IsMade [] (inside_scope standard p)
inside_made p =
    let units = clauses_seen NoUnits p.clauses in
    made_with (clauses_scope standard p.clauses) p.declaration.name.name entity.LibraryUnit (subst (IsMade []) (sym units.1) (seen_made units.0)) tt

pub specified_made : (p : PackageTree) → IsMade [] (specified_scope standard p)
specified_made p = items_made (inside_scope standard p) p.declaration.items (inside_made p)

pub optional_made : (o : Option PackageTree) → IsMade [] (optional_scope standard o)
optional_made (Some p) = body_items_made (specified_scope standard p) p.body.items (specified_made p)
optional_made None = seen_made NoUnits
