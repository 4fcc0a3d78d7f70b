-- What tables of names keep: the bodies and the declarations that were gone through, each found by its name. Serves the walk, which asks them instead of
-- looking ahead and back.
use denote.Enum.Bare.{sameb}
use Rattle.std.specs.Prelude.{◌≡◌, ℕ, suc, ◌+◌, nat_le, nat_lt, Bool, true, false, not, cond, ◌&&◌, ◌||◌, List, [], ◌∷◌, length, map, take, if◌then◌else◌, Option, Some, None, option_map, bytes_eq}
use Rattle.std.specs.List.{list_any}
use Rattle.std.specs.Map.{lookup}
use Rattle.ada_tree.specs.declared.expression.Identifier.{Identifier}
use Rattle.ada_tree.specs.declared.declaration.Formal.{Formal}
use Rattle.ada_tree.specs.declared.declaration.Item.{Item}
use Rattle.ada_tree.specs.declared.program.BodyItem.{BodyItem}
use Rattle.ada_tree.specs.StatementTree.{EntryTree, SubprogramTree, OperationTree, OfSubprogram, OfEntry}
use Rattle.ada_tree.specs.ProgramTree.{BodyItemTree, ItemTree, OfProtected, ProtectedItemTree, OperationBody, EntryBody, SubprogramBody, TaskBody, ProtectedBody, body_item_tree, item_tree}
use Rattle.ada_tree.specs.ProgramTree.{OfSubprogram as OfDeclared}
use Rattle.base.specs.declared.faults.TheConstants.{UNMATCHED_BODY}
use Rattle.expr_rules.specs.Faults.{Faults, rule}
use Rattle.conformance.specs.MatchingRules.{any_declared, has_unlike_operation, operation_name, same_formals, same_result}
use Rattle.conformance.specs.declared.bodies.BodyOf.{BodyOf}
use Rattle.conformance.specs.declared.bodies.BodyOf.TheVariants as body_of
use Rattle.conformance.specs.declared.conformance.Profile.{Profile}
use Rattle.conformance.specs.declared.declared.Declared.{Declared}
use Rattle.conformance.specs.declared.keys.Key.{Key}
use Rattle.conformance.specs.declared.keys.Kind.{Kind}
use Rattle.conformance.specs.declared.keys.Kind.TheVariants as kind
use Rattle.conformance.specs.contracts.keys.Kind.{the_type}

-- ---- keys

abbrev pub is_same_key : Key → Key → Bool
is_same_key a b = sameb the_type a.kind b.kind && (bytes_eq a.object.now b.object.now && bytes_eq a.name.now b.name.now)

-- a name of this kind, in this object, has this key
abbrev pub is_key : Key → Kind → (object name : List ℕ) → Bool
is_key k kind object name = sameb the_type kind k.kind && (bytes_eq object k.object.now && bytes_eq name k.name.now)

pub record IsKeyOf (k : Key) (own : Kind) (object name : List ℕ) : Type 0 where
  pub is_kind : k.kind ≡ own
  pub is_object : k.object.now ≡ object
  pub is_name : k.name.now ≡ name

abbrev pub kind_of : BodyOf → Kind
kind_of body_of.Subprogram = kind.Subprogram
kind_of body_of.Task = kind.Task
kind_of body_of.Object = kind.Object

-- ---- bodies

-- what stands in an object's body is the body of the operation with this key
abbrev pub has_operation_key : Key → (object : Identifier) → ProtectedItemTree → Bool
has_operation_key k object i = is_key k kind.Operation object.name (operation_name i).name

abbrev pub has_body_key : Key → BodyItemTree → Bool
has_body_key k (SubprogramBody d b) = is_key k kind.Subprogram d.name.name d.name.name
has_body_key k (TaskBody own b) = is_key k kind.Task own.name own.name
has_body_key k (ProtectedBody own items end_name) = is_key k kind.Object own.name own.name
has_body_key k i = false

abbrev pub has_inner_key : Key → BodyItemTree → Bool
has_inner_key k (ProtectedBody own items end_name) = list_any (has_operation_key k own) items
has_inner_key k i = false

-- an item of a package's body is the body of what has this key, or has it in itself
abbrev pub has_key : Key → BodyItemTree → Bool
has_key k i = has_body_key k i || has_inner_key k i

abbrev pub optional_has : Key → Option Key → Bool
optional_has k None = false
optional_has k (Some own) = is_same_key own k

-- ---- the last place of each key

abbrev pub place_at : List (Key × ℕ) → Key → Option ℕ
place_at places k = lookup (is_same_key k) places

abbrev pub PutsPlace : List (Key × ℕ) → List (Key × ℕ) → (Key → Bool) → ℕ → Type 0
PutsPlace old new test place = (k : Key) → place_at new k ≡ cond (test k) (Some place) (place_at old k)

abbrev pub is_from : ℕ → Option ℕ → Bool
is_from start (Some place) = nat_le start place
is_from start None = false

abbrev pub last_or : Option ℕ → Bool → Option ℕ
last_or (Some place) is_first = Some (suc place)
last_or None is_first = cond is_first (Some 0) None

-- where the last thing of a list stands that passes the test
abbrev pub last_place : {X : Type 0} → (X → Bool) → List X → Option ℕ
last_place test [] = None
last_place test (x ∷ xs) = last_or (last_place test xs) (test x)

abbrev pub AreLastPlaces : List BodyItemTree → List (Key × ℕ) → Type 0
AreLastPlaces items places = (k : Key) → place_at places k ≡ last_place (has_key k) items

-- ---- keys that were seen

abbrev pub is_seen : List Key → Key → Bool
is_seen keys k = list_any (is_same_key k) keys

abbrev pub SeesKeys : List Key → List Key → (Key → Bool) → Type 0
SeesKeys old new test = (k : Key) → is_seen new k ≡ (is_seen old k || test k)

-- ---- profiles

-- an entry's profile is never like that of a subprogram
pub record ProfileTree : Type 0 where
  pub is_entry : Bool
  pub formals : List Formal
  pub result : Option Identifier

abbrev pub profile_tree : Profile → ProfileTree
profile_tree p = record { is_entry = p.is_entry; formals = p.formals.now; result = option_map (λ n. n.now) p.result }

abbrev pub subprogram_profile : SubprogramTree → ProfileTree
subprogram_profile d = record { is_entry = false; formals = d.formals; result = d.result }

abbrev pub entry_profile : EntryTree → ProfileTree
entry_profile d = record { is_entry = true; formals = d.formals; result = None }

abbrev pub body_profile : ProtectedItemTree → ProfileTree
body_profile (OperationBody d b) = subprogram_profile d
body_profile (EntryBody d barrier b) = entry_profile d

abbrev pub same_kind : (is_entry other : Bool) → Bool
same_kind true other = other
same_kind false other = not other

abbrev pub are_alike : ProfileTree → ProfileTree → Bool
are_alike a b = same_kind a.is_entry b.is_entry && (same_formals a.formals b.formals && same_result a.result b.result)

abbrev pub declared_at : List (Key × Declared) → Key → Option Declared
declared_at table k = lookup (is_same_key k) table

-- one of the declarations that this stands for has another profile
abbrev pub is_unlike : Option Declared → ProfileTree → Bool
is_unlike None p = false
is_unlike (Some d) p = not (d.is_alike && are_alike (profile_tree d.profile) p)

-- what this key has is declared here with another profile
abbrev pub declares_unlike_operation : Key → ProfileTree → (object : Identifier) → OperationTree → Bool
declares_unlike_operation k p object (OfSubprogram d a) = is_key k kind.Operation object.name d.name.name && not (are_alike (subprogram_profile d) p)
declares_unlike_operation k p object (OfEntry d) = is_key k kind.Operation object.name d.name.name && not (are_alike (entry_profile d) p)

abbrev pub declares_unlike : Key → ProfileTree → ItemTree → Bool
declares_unlike k p (OfDeclared d) = is_key k kind.Subprogram d.name.name d.name.name && not (are_alike (subprogram_profile d) p)
declares_unlike k p (OfProtected d) = list_any (declares_unlike_operation k p d.name) d.operations
declares_unlike k p d = false

abbrev pub Declares : List (Key × Declared) → List (Key × Declared) → (Key → ProfileTree → Bool) → Type 0
Declares old new test = (k : Key) (p : ProfileTree) → is_unlike (declared_at new k) p ≡ (is_unlike (declared_at old k) p || test k p)

-- ---- the walk: a specification, the items of the body, and how many of these were gone through

abbrev pub Front : Type 0
Front = List Item × (List BodyItem × ℕ)

abbrev pub front_specified : Front → List ItemTree
front_specified f = map item_tree f.0

abbrev pub front_before : Front → List BodyItemTree
front_before f = map body_item_tree (take f.1.1 f.1.0)

-- one item more is in front, if there is one
abbrev pub front_next : Front → Front
front_next f = (f.0, (f.1.0, if nat_lt f.1.1 (length f.1.0) then f.1.1 + 1 else f.1.1))

-- the bodies in front are those that were seen, and the profiles declared there are those that are in the table
abbrev pub SeesFront : List ItemTree → List BodyItemTree → List Key → List (Key × Declared) → Type 0
SeesFront specified before keys table =
    ((k : Key) → is_seen keys k ≡ list_any (has_body_key k) before)
    × ((k : Key) (p : ProfileTree) → is_unlike (declared_at table k) p ≡ any_declared (declares_unlike k p) specified before)

-- 18, at the body of an operation, where it is known whether it is a second one
abbrev pub known_operation_rule : (specified : List ItemTree) → (before : List BodyItemTree) → (object : Identifier) → (is_second : Bool)
    → ProtectedItemTree → Faults
known_operation_rule specified before object is_second i =
    rule UNMATCHED_BODY (operation_name i).place (is_second || any_declared (has_unlike_operation object i) specified before)
