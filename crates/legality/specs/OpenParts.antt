-- The faults of LikeNames in one walk, as the check finds them: each name of a part of an object has the place up to which it is open, that of the object's
-- body. The declarations of the specification stand at place 0, and what is in the package's body at 1, 2 and so on.
use Rattle.std.specs.Prelude.{ℕ, suc, ◌+◌, length, Bool, false, not, List, [], ◌∷◌, ◌++◌, Option, Some, None, bytes_eq, nat_lt, unwrap_or, if◌then◌else◌}
use Rattle.indexmap.specs.IndexMap.{insert_entry}
use Rattle.base.specs.declared.faults.TheConstants.{DECLARED_TWICE}
use Rattle.ada_tree.specs.declared.expression.Identifier.{Identifier}
use Rattle.ada_tree.specs.StatementTree.{ProtectedComponentTree, ProtectedTree}
use Rattle.ada_tree.specs.ProgramTree.{ItemTree, OfProtected, BodyItemTree, OfItem, SubprogramBody, ProtectedBody, PackageTree}
use Rattle.types.specs.Seen.{place_of}
use Rattle.expr_rules.specs.Faults.{Faults, rule}
use Rattle.declaration_rules.specs.ProtectedRules.{operation_bytes}
use Rattle.unit_rules.specs.MainRules.{item_name}

-- ---- names, each with a place

abbrev pub NamePlaces : Type 0
NamePlaces = List (List ℕ × ℕ)

abbrev pub with_end : NamePlaces → List ℕ → ℕ → NamePlaces
with_end ends name last = insert_entry bytes_eq ends name last

abbrev pub is_before : ℕ → Option ℕ → Bool
is_before place (Some last) = nat_lt place last
is_before place None = false

-- a name is open at a place
abbrev pub is_open : NamePlaces → List ℕ → ℕ → Bool
is_open ends name place = is_before place (place_of ends name)

abbrev pub reaches : ℕ → Option ℕ → Bool
reaches last (Some own) = not (nat_lt own last)
reaches last None = false

-- open up to this place at least
abbrev pub extended : NamePlaces → List ℕ → ℕ → NamePlaces
extended ends name last = if reaches last (place_of ends name) then ends else with_end ends name last

-- ---- names of parts

abbrev pub component_bytes : ProtectedComponentTree → List ℕ
component_bytes c = c.name.name

abbrev pub extended_by : {X : Type 0} → (X → List ℕ) → NamePlaces → List X → ℕ → NamePlaces
extended_by name ends [] last = ends
extended_by name ends (x ∷ xs) last = extended_by name (extended ends (name x) last) xs last

abbrev pub with_object : NamePlaces → ProtectedTree → ℕ → NamePlaces
with_object ends d last = extended_by component_bytes (extended_by operation_bytes ends d.operations last) d.components last

-- ---- where the bodies of objects stand: of each name the first one from a place on

abbrev pub with_body : NamePlaces → ℕ → BodyItemTree → NamePlaces
with_body bodies place (ProtectedBody name items end_name) = with_end bodies name.name place
with_body bodies place i = bodies

abbrev pub bodies_from : ℕ → List BodyItemTree → NamePlaces
bodies_from place [] = []
bodies_from place (i ∷ is) = with_body (bodies_from (suc place) is) place i

-- the place of an object's body; where there is none, the end of the package's body
abbrev pub end_of : NamePlaces → (whole : ℕ) → ProtectedTree → ℕ
end_of bodies whole d = unwrap_or (place_of bodies d.name.name) whole

-- of the objects that are declared in the package's body, the last one first
abbrev pub own_end : NamePlaces → (whole : ℕ) → BodyItemTree → List ℕ
own_end bodies whole (OfItem (OfProtected d)) = end_of bodies whole d ∷ []
own_end bodies whole i = []

abbrev pub object_ends : (whole place : ℕ) → List BodyItemTree → List ℕ
object_ends whole place [] = []
object_ends whole place (i ∷ is) = object_ends whole (suc place) is ++ own_end (bodies_from (suc place) is) whole i

-- ---- the walk

-- 11, at a name that is like an open one
abbrev pub open_rule : NamePlaces → ℕ → Identifier → Faults
open_rule ends place name = rule DECLARED_TWICE name.place (is_open ends name.name place)

abbrev pub with_item : (bodies : NamePlaces) → (whole : ℕ) → NamePlaces → ItemTree → NamePlaces
with_item bodies whole ends (OfProtected d) = with_object ends d (end_of bodies whole d)
with_item bodies whole ends i = ends

abbrev pub with_items : (bodies : NamePlaces) → (whole : ℕ) → NamePlaces → List ItemTree → NamePlaces
with_items bodies whole ends [] = ends
with_items bodies whole ends (i ∷ is) = with_items bodies whole (with_item bodies whole ends i) is

abbrev pub open_items_faults : (bodies : NamePlaces) → (whole : ℕ) → NamePlaces → List ItemTree → Faults
open_items_faults bodies whole ends [] = []
open_items_faults bodies whole ends (i ∷ is) = open_rule ends 0 (item_name i) ++ open_items_faults bodies whole (with_item bodies whole ends i) is

abbrev pub open_item_faults : NamePlaces → ℕ → BodyItemTree → Faults
open_item_faults ends place (OfItem i) = open_rule ends place (item_name i)
open_item_faults ends place (SubprogramBody s b) = open_rule ends place s.name
open_item_faults ends place i = []

abbrev pub with_body_item : (bodies : NamePlaces) → (whole : ℕ) → NamePlaces → BodyItemTree → NamePlaces
with_body_item bodies whole ends (OfItem i) = with_item bodies whole ends i
with_body_item bodies whole ends i = ends

abbrev pub open_body_faults : (whole : ℕ) → NamePlaces → ℕ → List BodyItemTree → Faults
open_body_faults whole ends place [] = []
open_body_faults whole ends place (i ∷ is) =
    open_item_faults ends place i ++ open_body_faults whole (with_body_item (bodies_from (suc place) is) whole ends i) (suc place) is

-- what the walk finds: the faults of LikeNames in another order, a name that is like parts of several objects once
abbrev pub open_parts_faults : PackageTree → Faults
open_parts_faults p =
    let whole = length p.body.items + 1 in
    let bodies = bodies_from 1 p.body.items in
    open_items_faults bodies whole [] p.declaration.items ++ open_body_faults whole (with_items bodies whole [] p.declaration.items) 1 p.body.items
