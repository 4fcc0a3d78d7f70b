-- A program that passes no limit has room for the words of its variables and components.
use Rattle.std.proofs.Common.{◌≡◌, ◌<◌, ◌≤◌, ℕ, ◌+◌, Bool, true, false, List, [], ◌∷◌, ◌++◌, length, drop, Option, Some, None, refl, sym, ap, ◌∙◌, arith}
use Rattle.std.proofs.lemmas.List.{take-append-drop}
use Rattle.std.specs.Prelude.{⊤, if◌then◌else◌}
use Rattle.base.specs.declared.limits.TheConstants.{CEILING, TASK_PRIORITY, WORDS}
use Rattle.ada_tree.specs.declared.expression.Identifier.{Identifier}
use Rattle.ada_tree.specs.StatementTree.{ProtectedComponentTree}
use Rattle.ada_tree.specs.ProgramTree.{BodyItemTree, OfItem, SubprogramBody, TaskBody, ProtectedBody, DefinitionTree, Integer, Array, Record, Subtype as SubtypeOf, ItemTree, OfType, OfObject, OfException, OfSubprogram, OfTask, OfProtected, PackageTree}
use Rattle.types.specs.declared.entity.RecordComponent.{RecordComponent}
use Rattle.types.specs.declared.entity.Role.TheVariants as role
use Rattle.types.specs.declared.entity.Subtype.{Subtype}
use Rattle.types.specs.declared.entity.Value.{Value as Scalar}
use Rattle.types.specs.Entities.{Entity, Object, Operation, Profile, Protected}
use Rattle.types.specs.Entities as entity
use Rattle.types.specs.Laws.{ShapesStay}
use Rattle.types.specs.Layouts.{capped, total, words_of}
use Rattle.types.specs.Scopes.{Named, Scope, is_visible, standard, with_name}
use Rattle.types.specs.Shapes.{words}
use Rattle.declaration_rules.specs.ItemRules.{item_scope, items_scope}
use Rattle.declaration_rules.specs.Laws.{NamesAreAdded, StandsFirst}
use Rattle.type_rules.specs.ObjectRules.{constant_entity, initial_scalar, object_entity, package_object_entity}
use Rattle.type_rules.specs.ProfileRules.{formal_parameters, profile_entity, profile_with}
use Rattle.declaration_rules.specs.ProtectedRules.{default_ceiling, object_components, object_operations, object_with, part_and, protected_count, protected_entity}
use Rattle.type_rules.specs.SubtypeNames.{if_integer, subtype_of}
use Rattle.declaration_rules.specs.TaskRules.{default_priority, priority_of}
use Rattle.type_rules.specs.TypeRules.{array_entity, composite, definition_entity, index_subtype, integer_entity, narrowed, range_subtype, record_components, record_entity, short_length, subtype_entity}
use Rattle.expr_rules.specs.declared.own.Wanted.TheVariants as wanted
use Rattle.declaration_rules.specs.PackageNames.{body_item_scope, body_items_scope, clauses_scope, inside_scope, optional_scope, package_scope, specified_scope}
use Rattle.size_rules.specs.BodySizes.{sized_object}
use Rattle.size_rules.specs.Laws.{WordsAddUp, counted_words}
use Rattle.size_rules.specs.Limits.{words_faults}
use Rattle.size_rules.specs.PackageSizes.{body_item_things, body_items_things, components_things, item_things, items_things, object_things, operations_things, package_things}
use Rattle.size_rules.specs.ProgramSizes.{declared_faults, exception_faults, label_faults, optional_size_faults, protected_object_faults, subprogram_faults, task_faults}
use Rattle.size_rules.specs.PackageSizes.{frame_faults, package_inside}
use Rattle.legality.specs.ProgramLayouts.{HaveRoom, WordsHaveRoom, components_words, object_words, objects_words, total_of_all, variable_words, variables_words}
use Rattle.legality.proofs.Placing.{total_both, total_of_both}
use Rattle.legality.proofs.Made.{IsBelow, IsMade, Units, NoUnits, Times, Io, TimesIo, IoTimes, clauses_seen, inside_made, item_made, body_item_made, seen, specified_made, subtype_below}

pub both_empty : {X : Type 0} (xs ys : List X) → xs ++ ys ≡ [] → (xs ≡ []) × (ys ≡ [])
both_empty [] ys h = (refl, h)
both_empty (x ∷ xs) ys h = cc

-- ---- the words of visible names, capped

abbrev borne_by : Scope → List RecordComponent → ℕ
borne_by s [] = 0
borne_by s (c ∷ cs) = capped (words_of s c.subtype) + borne_by s cs

abbrev borne : Scope → Entity → ℕ
borne s (Object role.Variable t) = capped (words_of s t)
borne s (Protected p) = borne_by s p.components
borne s e = 0

abbrev held : Scope → (names : Scope) → ℕ
held all [] = 0
held all (n ∷ rest) = borne all n.entity + held all rest

held_push : (all s : Scope) (n : Named) → held all (s ++ n ∷ []) ≡ held all s + borne all n.entity
held_push all [] n = omega arith
held_push all (x ∷ s) n = let e = held_push all s n in omega (arith, e)

held_by : (all s : Scope) (n : Named) (w : ℕ) (b : Bool) → borne all n.entity ≤ w → held all (if b then s else s ++ n ∷ []) ≤ held all s + w
held_by all s n w true less = omega arith
held_by all s n w false less = let e = held_push all s n in omega (arith, e, less)

held_with : (all s : Scope) (name : List ℕ) (e : Entity) (w : ℕ) → borne all e ≤ w → held all (with_name s name e) ≤ held all s + w
held_with all s name e w less = held_by all s (record { name = name; entity = e }) w (is_visible s name) less

-- ---- of subtypes whose types are visible the words stay as they are

stays : ShapesStay → (s all : Scope) (t : Subtype) → StandsFirst s all → t.type_number < length s → words_of all t ≡ words_of s t
stays shapes s all t first below =
    let grown : all ≡ s ++ drop (length s) all = sym (take-append-drop (length s) all) ∙ ap (λ l. l ++ drop (length s) all) first in
    ap (λ l. words_of l t) grown ∙ ap words (shapes s (drop (length s) all) t below)

abbrev words_or_none : Scope → Option Subtype → ℕ
words_or_none s o = elim o [ Some t ↦ capped (words_of s t) | None ↦ 0 ]

object_borne : ShapesStay → (s all : Scope) (o : Option Subtype) → StandsFirst s all → IsBelow (length s) o → borne all (object_entity role.Variable o) ≤ words_or_none s o
object_borne shapes s all (Some t) first below = let e = ap capped (stays shapes s all t first below) in omega (arith, e)
object_borne shapes s all None first below = omega arith

-- ---- declarations

integer_bears : (all : Scope) (o : Option Subtype) (w : ℕ) → borne all (integer_entity o) ≤ w
integer_bears all (Some t) w = omega arith
integer_bears all None w = omega arith

sized_bears : (all s : Scope) (index component : Subtype) (o : Option ℕ) (w : ℕ) → borne all (elim o [ Some n ↦ composite s (entity.Arrays index n component) | None ↦ entity.Doubtful ]) ≤ w
sized_bears all s index component (Some n) w = omega arith
sized_bears all s index component None w = omega arith

array_bears : (all s : Scope) (index component : Option Subtype) (w : ℕ) → borne all (array_entity s index component) ≤ w
array_bears all s (Some index) (Some component) w = sized_bears all s index component (short_length index) w
array_bears all s (Some index) None w = omega arith
array_bears all s None component w = omega arith

record_bears : (all s : Scope) (o : Option (List RecordComponent)) (w : ℕ) → borne all (record_entity s o) ≤ w
record_bears all s (Some components) w = omega arith
record_bears all s None w = omega arith

subtype_bears : (all : Scope) (o : Option Subtype) (w : ℕ) → borne all (subtype_entity o) ≤ w
subtype_bears all (Some t) w = omega arith
subtype_bears all None w = omega arith

type_bears : (all s : Scope) (d : DefinitionTree) (w : ℕ) → borne all (definition_entity s d) ≤ w
type_bears all s (Integer r) w = integer_bears all (range_subtype s (length s) wanted.AnyInteger None r) w
type_bears all s (Array index component) w = array_bears all s (index_subtype s index) (subtype_of s component) w
type_bears all s (Record components) w = record_bears all s (record_components s components) w
type_bears all s (SubtypeOf name None) w = subtype_bears all (subtype_of s name) w
type_bears all s (SubtypeOf name (Some r)) w = subtype_bears all (narrowed s (if_integer s (subtype_of s name)) r) w

constant_bears : (all : Scope) (o : Option Subtype) (v : Option Scalar) (w : ℕ) → borne all (constant_entity o v) ≤ w
constant_bears all (Some t) (Some v) w = omega arith
constant_bears all (Some t) None w = omega arith
constant_bears all None v w = omega arith

declared_borne : ShapesStay → (s all : Scope) (name subtype : Identifier) (v : Option Scalar) (b : Bool)
    → StandsFirst s all
    → IsBelow (length s) (subtype_of s subtype)
    → borne all (elim b [ true ↦ constant_entity (subtype_of s subtype) v | false ↦ object_entity role.Variable (subtype_of s subtype) ])
    ≤ counted_words (elim b [ true ↦ [] | false ↦ sized_object s name subtype ∷ [] ])
declared_borne shapes s all name subtype v true first below = constant_bears all (subtype_of s subtype) v 0
declared_borne shapes s all name subtype v false first below = let e = object_borne shapes s all (subtype_of s subtype) first below in omega (arith, e)

profile_bears : (all : Scope) (o : Option Profile) (w : ℕ) → borne all (profile_entity o) ≤ w
profile_bears all (Some p) w = omega arith
profile_bears all None w = omega arith

-- components of these words at most, where they are known
abbrev Bears : Scope → Option (List RecordComponent) → ℕ → Type 0
Bears all (Some components) w = borne_by all components ≤ w
Bears all None w = ⊤

part_bears : ShapesStay → (s all : Scope) (c : ProtectedComponentTree) (a : Option Subtype) (b : Option (List RecordComponent)) (w : ℕ)
    → StandsFirst s all
    → IsBelow (length s) a
    → Bears all b w
    → Bears all (part_and c a b) (words_or_none s a + w)
part_bears shapes s all c (Some t) (Some rest) w first below less = let e = ap capped (stays shapes s all t first below) in omega (arith, e, less)
part_bears shapes s all c (Some t) None w first below less = tt
part_bears shapes s all c None b w first below less = tt

parts_bear : ShapesStay → (s all : Scope) (cs : List ProtectedComponentTree) → IsMade [] s → StandsFirst s all → Bears all (object_components s cs) (counted_words (components_things s cs))
parts_bear shapes s all [] made first = omega arith
parts_bear shapes s all (c ∷ cs) made first =
    part_bears shapes s all c (subtype_of s c.subtype) (object_components s cs) (counted_words (components_things s cs)) first (subtype_below s c.subtype made) (parts_bear shapes s all cs made first)

protected_borne : (all : Scope) (number ceiling : ℕ) (a : Option (List Operation)) (b : Option (List RecordComponent)) (w : ℕ) → Bears all b w → borne all (object_with number ceiling a b) ≤ w
protected_borne all number ceiling (Some operations) (Some components) w less = less
protected_borne all number ceiling (Some operations) None w less = omega arith
protected_borne all number ceiling None b w less = omega arith

item_held : WordsAddUp → ShapesStay → (s all : Scope) (d : ItemTree) → IsMade [] s → StandsFirst s all → held all (item_scope s d) ≤ held all s + counted_words (item_things s d)
item_held adding shapes s all (OfType d) made first = held_with all s d.name.name (definition_entity s d.definition) 0 (type_bears all s d.definition 0)
item_held adding shapes s all (OfObject d) made first =
    let o = subtype_of s d.subtype in
    held_with all s d.name.name (package_object_entity s d) (counted_words (object_things s d))
    (declared_borne shapes s all d.name d.subtype (initial_scalar s o d.value) d.constant first (subtype_below s d.subtype made))
item_held adding shapes s all (OfException name) made first = held_with all s name.name entity.Exception 0 (omega arith)
item_held adding shapes s all (OfSubprogram d) made first =
    let o = profile_with s (formal_parameters s d.formals) d.result in held_with all s d.name.name (profile_entity o) 0 (profile_bears all o 0)
item_held adding shapes s all (OfTask d) made first = held_with all s d.name.name (entity.Task (priority_of s TASK_PRIORITY default_priority d.aspect)) 0 (omega arith)
item_held adding shapes s all (OfProtected d) made first =
    let parts = counted_words (components_things s d.components) in
    let more = adding.joined (operations_things d.operations) (components_things s d.components) in
    let here = held_with all s d.name.name (protected_entity s d) parts
    (protected_borne all (protected_count s) (priority_of s CEILING (default_ceiling d.operations) d.aspect) (object_operations s d.operations) (object_components s d.components) parts (parts_bear shapes s all d.components made first)) in
    omega (arith, here, more)

-- ---- lists of declarations and bodies

items_held : WordsAddUp → ShapesStay → NamesAreAdded → (s all : Scope) (ds : List ItemTree) → IsMade [] s → StandsFirst (items_scope s ds) all
    → held all (items_scope s ds) ≤ held all s + counted_words (items_things s ds)
items_held adding shapes added s all [] made first = omega arith
items_held adding shapes added s all (d ∷ ds) made first =
    let next = item_scope s d in
    let here = item_held adding shapes s all d made (added.together s (items_scope s (d ∷ ds)) all (added.items s (d ∷ ds)) first) in
    let there = items_held adding shapes added next all ds (item_made s d made) first in
    let more = adding.joined (item_things s d) (items_things next ds) in omega (arith, here, there, more)

body_item_added : NamesAreAdded → (s : Scope) (i : BodyItemTree) → StandsFirst s (body_item_scope s i)
body_item_added added s (OfItem d) = added.items s (d ∷ [])
body_item_added added s (SubprogramBody d b) = added.items s (OfSubprogram d ∷ [])
body_item_added added s (TaskBody name b) = added.items s []
body_item_added added s (ProtectedBody name items end_name) = added.items s []

body_items_added : NamesAreAdded → (s : Scope) (is : List BodyItemTree) → StandsFirst s (body_items_scope s is)
body_items_added added s [] = added.items s []
body_items_added added s (i ∷ is) =
    let next = body_item_scope s i in added.together s next (body_items_scope next is) (body_item_added added s i) (body_items_added added next is)

body_item_held : WordsAddUp → ShapesStay → (s all : Scope) (i : BodyItemTree) → IsMade [] s → StandsFirst s all → held all (body_item_scope s i) ≤ held all s + counted_words (body_item_things s i)
body_item_held adding shapes s all (OfItem d) made first = item_held adding shapes s all d made first
body_item_held adding shapes s all (SubprogramBody d b) made first =
    let o = profile_with s (formal_parameters s d.formals) d.result in
    held_with all s d.name.name (profile_entity o) (counted_words (body_item_things s (SubprogramBody d b))) (profile_bears all o (counted_words (body_item_things s (SubprogramBody d b))))
body_item_held adding shapes s all (TaskBody name b) made first = omega arith
body_item_held adding shapes s all (ProtectedBody name items end_name) made first = omega arith

body_items_held : WordsAddUp → ShapesStay → NamesAreAdded → (s all : Scope) (is : List BodyItemTree) → IsMade [] s → StandsFirst (body_items_scope s is) all
    → held all (body_items_scope s is) ≤ held all s + counted_words (body_items_things s is)
body_items_held adding shapes added s all [] made first = omega arith
body_items_held adding shapes added s all (i ∷ is) made first =
    let next = body_item_scope s i in
    let here = body_item_held adding shapes s all i made (added.together s (body_items_scope s (i ∷ is)) all (body_items_added added s (i ∷ is)) first) in
    let there = body_items_held adding shapes added next all is (body_item_made s i made) first in
    let more = adding.joined (body_item_things s i) (body_items_things next is) in omega (arith, here, there, more)

-- ---- the package

seen_held : (all : Scope) (u : Units) → held all (seen u) ≡ 0
seen_held all NoUnits = refl
seen_held all Times = refl
seen_held all Io = refl
seen_held all TimesIo = refl
seen_held all IoTimes = refl

inside_held : (all : Scope) (p : PackageTree) → held all (inside_scope standard p) ≤ 0
inside_held all p =
    let units = clauses_seen NoUnits p.clauses in
    let here = held_with all (clauses_scope standard p.clauses) p.declaration.name.name entity.LibraryUnit 0 (omega arith) in
    let none : held all (clauses_scope standard p.clauses) ≡ 0 = ap (held all) units.1 ∙ seen_held all units.0 in omega (arith, here, none)

package_held : WordsAddUp → ShapesStay → NamesAreAdded → (p : PackageTree) → held (package_scope standard p) (package_scope standard p) ≤ counted_words (package_things p)
package_held adding shapes added p =
    let all = package_scope standard p in
    let front = specified_scope standard p in
    let none = inside_held all p in
    let items = items_held adding shapes added (inside_scope standard p) all p.declaration.items (inside_made p) (body_items_added added front p.body.items) in
    let bodies = body_items_held adding shapes added front all p.body.items (specified_made p) (added.items all []) in
    let more = adding.joined (items_things (inside_scope standard p) p.declaration.items) (body_items_things front p.body.items) in
    omega (arith, none, items, bodies, more)

-- ---- the words themselves, where the capped ones have room

components_room : (all : Scope) (cs : List RecordComponent) → borne_by all cs ≤ WORDS → total (components_words all cs) ≤ borne_by all cs
components_room all [] room = omega arith
components_room all (c ∷ cs) room =
    let there = components_room all cs (omega (arith, room)) in omega (arith, room, there)

entity_room : (all : Scope) (e : Entity) → borne all e ≤ WORDS → total (variable_words all e) + total_of_all (object_words all e) ≤ borne all e
entity_room all (Object role.Variable t) room = omega (arith, room)
entity_room all (Protected p) room = let parts = components_room all p.components room in omega (arith, parts)
entity_room all e room = omega arith

names_room : (all s : Scope) → held all s ≤ WORDS → total (variables_words all s) + total_of_all (objects_words all s) ≤ held all s
names_room all [] room = omega arith
names_room all (n ∷ s) room =
    let here = entity_room all n.entity (omega (arith, room)) in
    let there = names_room all s (omega (arith, room)) in
    let variables = total_both (variable_words all n.entity) (variables_words all s) in
    let objects = total_of_both (object_words all n.entity) (objects_words all s) in omega (arith, here, there, variables, objects)

room_of : (o : Option PackageTree) → WordsAddUp → ShapesStay → NamesAreAdded → optional_size_faults o ≡ [] → HaveRoom (optional_scope standard o)
room_of None adding shapes added none = omega arith
room_of (Some p) adding shapes added none =
    let all = package_scope standard p in
    let things = package_things p in
    let declared = (both_empty (frame_faults p) (declared_faults things) (both_empty (frame_faults p ++ declared_faults things) (label_faults (package_inside p)) none).0).1 in
    let counted = subprogram_faults things ++ task_faults things ++ protected_object_faults things ++ exception_faults things in
    let within_words = adding.within WORDS things (both_empty counted (words_faults WORDS things) declared).1 in
    let most = package_held adding shapes added p in
    let room = names_room all all (omega (arith, within_words, most)) in omega (arith, room, within_words, most)

pub words_have_room : WordsAddUp → ShapesStay → NamesAreAdded → WordsHaveRoom
words_have_room adding shapes added t none = room_of t.package_ adding shapes added none
