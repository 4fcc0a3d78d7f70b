-- Where bodies with code stand, by their numbers, and what is counted and told of each by its head and its statements, whether it is a subprogram's, a task's
-- or one of a protected object.
use Rattle.std.proofs.Common.{◌≡◌, ℕ, zero, suc, ◌+◌, List, [], ◌∷◌, ◌++◌, length, map, take, ◌⊎◌, inl, inr, Option, Some, None, refl, sym, ap, ◌∙◌, subst, arith, length-append}
use Rattle.std.specs.Prelude.{slice_get}
use Rattle.ada_tree.specs.declared.expression.Identifier.{Identifier}
use Rattle.ada_tree.specs.StatementTree.{SubprogramTree}
use Rattle.ada_tree.specs.ProgramTree.{BodyItemTree, BodyTree, EntryBody, OfItem, OperationBody, ProgramTree, ProtectedBody, ProtectedItemTree, SubprogramBody, TaskBody}
use Rattle.types.specs.declared.entity.RecordComponent.{RecordComponent}
use Rattle.types.specs.Scopes.{Scope, number_of}
use Rattle.declaration_rules.specs.BodyNames.{object_body_scope}
use Rattle.unit_rules.specs.ProtectedBodyRules.{components_at, protected_item_scope}
use Rattle.expr_soundness.specs.meaning.specs.Programs.{program_of}
use Rattle.program_soundness.proofs.Listing.{front_at, same_some}
use Rattle.program_soundness.specs.Fronts.{declared_in, front}
use Rattle.step_simulation.specs.part_code.proofs.Within.{Within, in_left, of_right, within_self}
use Rattle.package_code.specs.Bodies.{BodyName, Coded, bodies_among, bodies_before, bodies_of, coded_at, coded_from, components_or_none, names_among, names_in, object_bodies, object_number, of_operation, of_subprogram, of_task, operation_name, operation_names, operations_of}
use Rattle.package_code.specs.Counts.{bound_of, bounds_at, bounds_from}
use Rattle.package_code.specs.Refusing.{bodies_needs, body_needs, coded_labels, coded_rows, item_labels, item_needs, item_rows, operation_labels, operation_rows, operations_labels, operations_rows, subprogram_labels, subprogram_rows}

-- ---- of one item

-- each body of an object belongs to it
operations_inside : (o : ℕ) (s : Scope) (components : List RecordComponent) (items : List ProtectedItemTree) (k : ℕ) (c : Coded)
    → slice_get (operations_of o s components items) k ≡ Some c → c.owner ≡ Some o
operations_inside o s components [] k c is = cc
operations_inside o s components (i ∷ items) zero c is =
    ap (λ e. e.owner) (sym (same_some (of_operation o s components i) c is))
operations_inside o s components (i ∷ items) (suc k) c is = operations_inside o (protected_item_scope s i) components items k c is

pub bodies_inside : (o : ℕ) (s : Scope) (visible : Option ℕ) (items : List ProtectedItemTree) (k : ℕ) (c : Coded)
    → slice_get (object_bodies o s visible items) k ≡ Some c → c.owner ≡ Some o
bodies_inside o s (Some n) items k c is = operations_inside o (object_body_scope s n) (components_or_none (components_at s n)) items k c is
bodies_inside o s None items k c is = operations_inside o s [] items k c is

-- what is so of the bodies of subprograms, of tasks and of objects is so of each body with code
pub coded_by : (t : ProgramTree) (place : ℕ) (P : BodyItemTree → ℕ → Coded → Type 0)
    → ((d : SubprogramTree) (b : BodyTree) → P (SubprogramBody d b) 0 (of_subprogram (front t (suc place)) d b))
    → ((name : Identifier) (b : BodyTree) → P (TaskBody name b) 0 (of_task (front t (suc place)) name b))
    → ((name : Identifier) (items : List ProtectedItemTree) (end_name : Identifier) (k : ℕ) (c : Coded)
    → slice_get (coded_at t place (ProtectedBody name items end_name)) k ≡ Some c → P (ProtectedBody name items end_name) k c)
    → (x : BodyItemTree) (k : ℕ) (c : Coded) → slice_get (coded_at t place x) k ≡ Some c → P x k c
coded_by t place P plain task inside (SubprogramBody d b) zero c is =
    subst (P (SubprogramBody d b) 0) (same_some (of_subprogram (front t (suc place)) d b) c is) (plain d b)
coded_by t place P plain task inside (SubprogramBody d b) (suc k) c is = cc
coded_by t place P plain task inside (TaskBody name b) zero c is =
    subst (P (TaskBody name b) 0) (same_some (of_task (front t (suc place)) name b) c is) (task name b)
coded_by t place P plain task inside (TaskBody name b) (suc k) c is = cc
coded_by t place P plain task inside (OfItem d) k c is = cc
coded_by t place P plain task inside (ProtectedBody name items end_name) k c is = inside name items end_name k c is

-- ... and of each that belongs to no object, what is so of those of subprograms and tasks
pub outside_by : (t : ProgramTree) (place : ℕ) (P : BodyItemTree → ℕ → Coded → Type 0)
    → ((d : SubprogramTree) (b : BodyTree) → P (SubprogramBody d b) 0 (of_subprogram (front t (suc place)) d b))
    → ((name : Identifier) (b : BodyTree) → P (TaskBody name b) 0 (of_task (front t (suc place)) name b))
    → (x : BodyItemTree) (k : ℕ) (c : Coded) → slice_get (coded_at t place x) k ≡ Some c → c.owner ≡ None → P x k c
outside_by t place P plain task =
    coded_by t place (λ x k c. c.owner ≡ None → P x k c) (λ d b none. plain d b) (λ name b none. task name b)
    (λ name items end_name k c is none.
    absurd (
    let owned = bodies_inside (object_number (program_of t).scope name) (front t place) (number_of (front t place) name.name) items k c is in
    let bad = sym none ∙ owned in
    cc
    ))

-- ---- how many there are

operations_many : (o : ℕ) (s : Scope) (components : List RecordComponent) (items : List ProtectedItemTree)
    → length (operations_of o s components items) ≡ length items
operations_many o s components [] = refl
operations_many o s components (i ∷ items) = ap suc (operations_many o (protected_item_scope s i) components items)

object_many : (o : ℕ) (s : Scope) (visible : Option ℕ) (items : List ProtectedItemTree) → length (object_bodies o s visible items) ≡ length items
object_many o s (Some n) items = operations_many o (object_body_scope s n) (components_or_none (components_at s n)) items
object_many o s None items = operations_many o s [] items

pub coded_many : (t : ProgramTree) (place : ℕ) (x : BodyItemTree) → length (coded_at t place x) ≡ bodies_among (x ∷ [])
coded_many t place (OfItem d) = refl
coded_many t place (SubprogramBody d b) = refl
coded_many t place (TaskBody name b) = refl
coded_many t place (ProtectedBody name items end_name) =
    (let e = object_many (object_number (program_of t).scope name) (front t place) (number_of (front t place) name.name) items in omega (arith, e))

-- one item in front of others
pub among_first : (x : BodyItemTree) (rest : List BodyItemTree) → bodies_among (x ∷ rest) ≡ bodies_among (x ∷ []) + bodies_among rest
among_first (OfItem d) rest = omega arith
among_first (SubprogramBody d b) rest = omega arith
among_first (TaskBody name b) rest = omega arith
among_first (ProtectedBody name items end_name) rest = omega arith

pub from_many : (t : ProgramTree) (place : ℕ) (items : List BodyItemTree) → length (coded_from t place items) ≡ bodies_among items
from_many t place [] = refl
from_many t place (x ∷ rest) =
    let both = length-append (coded_at t place x) (coded_from t (suc place) rest) in
    let one = coded_many t place x in
    let more = from_many t (suc place) rest in
    let sum = among_first x rest in
    omega (arith, both, one, more, sum)

pub among_joined : (xs ys : List BodyItemTree) → bodies_among (xs ++ ys) ≡ bodies_among xs + bodies_among ys
among_joined [] ys = omega arith
among_joined (x ∷ xs) ys =
    let rest = among_joined xs ys in
    let one = among_first x xs in
    let both = among_first x (xs ++ ys) in
    omega (arith, rest, one, both)

pub among_next : (items : List BodyItemTree) (n : ℕ) (x : BodyItemTree) → slice_get items n ≡ Some x
    → bodies_among (take (suc n) items) ≡ bodies_among (take n items) + bodies_among (x ∷ [])
among_next [] n x h = cc
among_next (y ∷ items) zero x h = (let e = ap (λ z. bodies_among (z ∷ [])) (same_some y x h) in omega (arith, e))
among_next (y ∷ items) (suc n) x h =
    let more = among_next items n x h in
    let one = among_first y (take n items) in
    let two = among_first y (take (suc n) items) in
    omega (arith, more, one, two)

-- ---- where they stand

-- the body of this number is one of those of the item at a place
pub record IsOfItem (t : ProgramTree) (first : ℕ) (items : List BodyItemTree) (number : ℕ) (c : Coded) : Type 0 where
  pub place : ℕ
  pub item : BodyItemTree
  pub k : ℕ
  pub at : slice_get items place ≡ Some item
  pub is : slice_get (coded_at t (first + place) item) k ≡ Some c
  pub before : number ≡ bodies_among (take place items) + k

pub get_either : {X : Type 0} (xs ys : List X) (n : ℕ) (x : X) → slice_get (xs ++ ys) n ≡ Some x
    → (slice_get xs n ≡ Some x) ⊎ ((k : ℕ) × (n ≡ length xs + k) × (slice_get ys k ≡ Some x))
get_either [] ys n x h = (let e : n ≡ 0 + n = omega arith in inr (n, e, h))
get_either (z ∷ xs) ys zero x h = inl h
get_either (z ∷ xs) ys (suc n) x h =
    elim (get_either xs ys n x h) [
      | inl e ↦ inl e
      | inr r ↦ inr (r.0, (let e = r.1 in omega (arith, e)), r.2)
    ]

pub get_behind : {X : Type 0} (xs ys : List X) (k : ℕ) → slice_get (xs ++ ys) (length xs + k) ≡ slice_get ys k
get_behind [] ys k = (let e : 0 + k ≡ k = omega arith in ap (slice_get ys) e)
get_behind (x ∷ xs) ys k =
    (let e : suc (length xs) + k ≡ suc (length xs + k) = omega arith in ap (slice_get (x ∷ (xs ++ ys))) e ∙ get_behind xs ys k)

module _ (t : ProgramTree) where
  first_place : (first : ℕ) → first ≡ first + 0
  first_place first = omega arith

  next_place : (first place : ℕ) → suc first + place ≡ first + suc place
  next_place first place = omega arith

  pub of_item : (items : List BodyItemTree) (first number : ℕ) (c : Coded) → slice_get (coded_from t first items) number ≡ Some c
      → IsOfItem t first items number c
  of_item [] first number c is = cc
  of_item (x ∷ items) first number c is =
      by_case (get_either (coded_at t first x) (coded_from t (suc first) items) number c is) (λ k h. of_item items (suc first) k c h)
    where
      by_case : (slice_get (coded_at t first x) number ≡ Some c)
          ⊎ ((k : ℕ) × (number ≡ length (coded_at t first x) + k) × (slice_get (coded_from t (suc first) items) k ≡ Some c))
          → ((k : ℕ) → slice_get (coded_from t (suc first) items) k ≡ Some c → IsOfItem t (suc first) items k c)
          → IsOfItem t first (x ∷ items) number c
      by_case (inl here) later = record {
        place = 0;
        item = x;
        k = number;
        at = refl;
        is = subst (λ p. slice_get (coded_at t p x) number ≡ Some c) (first_place first) here;
        before = omega arith;
      }
      by_case (inr r) later =
          let h = later r.0 r.2 in
          let many = coded_many t first x in
          let sum = among_first x (take h.place items) in
          let n = r.1 in
          let own = h.before in
          record {
            place = suc h.place;
            item = h.item;
            k = h.k;
            at = h.at;
            is = subst (λ p. slice_get (coded_at t p h.item) h.k ≡ Some c) (next_place first h.place) h.is;
            before = omega (arith, n, many, sum, own);
          }

  pub coded_there : (items : List BodyItemTree) (first place k : ℕ) (x : BodyItemTree) (c : Coded) → slice_get items place ≡ Some x
      → slice_get (coded_at t (first + place) x) k ≡ Some c
      → slice_get (coded_from t first items) (bodies_among (take place items) + k) ≡ Some c
  coded_there [] first place k x c at is = cc
  coded_there (y ∷ items) first zero k x c at is =
      let e : 0 + k ≡ k = omega arith in
      ap (slice_get (coded_at t first y ++ coded_from t (suc first) items)) e
      ∙ front_at (coded_at t first y) (coded_from t (suc first) items) k c
      (subst (λ z. slice_get (coded_at t first z) k ≡ Some c) (sym (same_some y x at))
      (subst (λ p. slice_get (coded_at t p x) k ≡ Some c) (sym (first_place first)) is))
  coded_there (y ∷ items) first (suc place) k x c at is =
      let later = coded_there items (suc first) place k x c at (subst (λ p. slice_get (coded_at t p x) k ≡ Some c) (sym (next_place first place)) is) in
      let many = coded_many t first y in
      let sum = among_first y (take place items) in
      let same : bodies_among (y ∷ take place items) + k ≡ length (coded_at t first y) + (bodies_among (take place items) + k) = omega (arith, many, sum) in
      ap (slice_get (coded_at t first y ++ coded_from t (suc first) items)) same
      ∙ get_behind (coded_at t first y) (coded_from t (suc first) items) (bodies_among (take place items) + k)
      ∙ later

  none_first : (place : ℕ) → 0 + place ≡ place
  none_first place = omega arith

  -- each body of the package has its number
  pub body_at : (place k : ℕ) (x : BodyItemTree) (c : Coded) → slice_get (declared_in t.package_) place ≡ Some x → slice_get (coded_at t place x) k ≡ Some c
      → slice_get (bodies_of t) (bodies_before t place + k) ≡ Some c
  body_at place k x c at is =
      coded_there (declared_in t.package_) 0 place k x c at (subst (λ p. slice_get (coded_at t p x) k ≡ Some c) (sym (none_first place)) is)

  -- the body of this number stands at a place of the package
  pub record IsBodyOf (number : ℕ) (c : Coded) : Type 0 where
    pub place : ℕ
    pub item : BodyItemTree
    pub k : ℕ
    pub at : slice_get (declared_in t.package_) place ≡ Some item
    pub is : slice_get (coded_at t place item) k ≡ Some c
    pub before : number ≡ bodies_before t place + k

  pub body_of : (number : ℕ) (c : Coded) → slice_get (bodies_of t) number ≡ Some c → IsBodyOf number c
  body_of number c there =
      let h = of_item (declared_in t.package_) 0 number c there in
      record {
        place = h.place;
        item = h.item;
        k = h.k;
        at = h.at;
        is = subst (λ p. slice_get (coded_at t p h.item) h.k ≡ Some c) (none_first h.place) h.is;
        before = h.before;
      }

-- ---- what is told of an item is told of its bodies

operation_labelled : (before : List (List ℕ)) (o : ℕ) (s : Scope) (components : List RecordComponent) (i : ProtectedItemTree)
    → operation_labels before i ≡ subprogram_labels before (of_operation o s components i).head (of_operation o s components i).body
operation_labelled before o s components (OperationBody d b) = refl
operation_labelled before o s components (EntryBody d barrier b) = refl

operations_labelled : (before : List (List ℕ)) (o : ℕ) (s : Scope) (components : List RecordComponent) (items : List ProtectedItemTree)
    → operations_labels before items ≡ coded_labels before (operations_of o s components items)
operations_labelled before o s components [] = refl
operations_labelled before o s components (i ∷ items) =
    ap (λ l. operations_labels l items) (operation_labelled before o s components i)
    ∙ operations_labelled (subprogram_labels before (of_operation o s components i).head (of_operation o s components i).body) o (protected_item_scope s i)
    components items

object_labelled : (before : List (List ℕ)) (o : ℕ) (s : Scope) (visible : Option ℕ) (items : List ProtectedItemTree)
    → operations_labels before items ≡ coded_labels before (object_bodies o s visible items)
object_labelled before o s (Some n) items = operations_labelled before o (object_body_scope s n) (components_or_none (components_at s n)) items
object_labelled before o s None items = operations_labelled before o s [] items

pub labelled_by : (before : List (List ℕ)) (t : ProgramTree) (place : ℕ) (x : BodyItemTree) → item_labels before x ≡ coded_labels before (coded_at t place x)
labelled_by before t place (OfItem d) = refl
labelled_by before t place (SubprogramBody d b) = refl
labelled_by before t place (TaskBody name b) = refl
labelled_by before t place (ProtectedBody name items end_name) =
    object_labelled before (object_number (program_of t).scope name) (front t place) (number_of (front t place) name.name) items

operation_rowed : (before o : ℕ) (s : Scope) (components : List RecordComponent) (i : ProtectedItemTree)
    → operation_rows before i ≡ subprogram_rows before (of_operation o s components i).head (of_operation o s components i).body
operation_rowed before o s components (OperationBody d b) = refl
operation_rowed before o s components (EntryBody d barrier b) = refl

operations_rowed : (before o : ℕ) (s : Scope) (components : List RecordComponent) (items : List ProtectedItemTree)
    → operations_rows before items ≡ coded_rows before (operations_of o s components items)
operations_rowed before o s components [] = refl
operations_rowed before o s components (i ∷ items) =
    ap (λ n. operations_rows n items) (operation_rowed before o s components i)
    ∙ operations_rowed (subprogram_rows before (of_operation o s components i).head (of_operation o s components i).body) o (protected_item_scope s i)
    components items

object_rowed : (before o : ℕ) (s : Scope) (visible : Option ℕ) (items : List ProtectedItemTree)
    → operations_rows before items ≡ coded_rows before (object_bodies o s visible items)
object_rowed before o s (Some n) items = operations_rowed before o (object_body_scope s n) (components_or_none (components_at s n)) items
object_rowed before o s None items = operations_rowed before o s [] items

pub rows_by : (before : ℕ) (t : ProgramTree) (place : ℕ) (x : BodyItemTree) → item_rows before x ≡ coded_rows before (coded_at t place x)
rows_by before t place (OfItem d) = refl
rows_by before t place (SubprogramBody d b) = refl
rows_by before t place (TaskBody name b) = refl
rows_by before t place (ProtectedBody name items end_name) =
    object_rowed before (object_number (program_of t).scope name) (front t place) (number_of (front t place) name.name) items

-- ---- what a body needs, its item needs

needs_among : (t : ProgramTree) (cs : List Coded) (k : ℕ) (c : Coded) → slice_get cs k ≡ Some c → Within (body_needs t c) (bodies_needs t cs)
needs_among t [] k c is = cc
needs_among t (x ∷ cs) zero c is =
    subst (λ z. Within (body_needs t z) (bodies_needs t (x ∷ cs))) (same_some x c is) (in_left (body_needs t x) (bodies_needs t cs))
needs_among t (x ∷ cs) (suc k) c is = of_right (body_needs t c) (body_needs t x) (bodies_needs t cs) (needs_among t cs k c is)

pub needs_by : (t : ProgramTree) (place : ℕ) (x : BodyItemTree) (k : ℕ) (c : Coded) → slice_get (coded_at t place x) k ≡ Some c
    → Within (body_needs t c) (item_needs t place x)
needs_by t place =
    coded_by t place (λ x k c. Within (body_needs t c) (item_needs t place x)) (λ d b. within_self (body_needs t (of_subprogram (front t (suc place)) d b)))
    (λ name b. within_self (body_needs t (of_task (front t (suc place)) name b)))
    (λ name items end_name k c is. needs_among t (coded_at t place (ProtectedBody name items end_name)) k c is)

-- ---- bounds

mapped_joined : {X Y : Type 0} (f : X → Y) (xs ys : List X) → map f (xs ++ ys) ≡ map f xs ++ map f ys
mapped_joined f [] ys = refl
mapped_joined f (x ∷ xs) ys = ap (λ l. f x ∷ l) (mapped_joined f xs ys)

pub bounds_are : (t : ProgramTree) (place : ℕ) (items : List BodyItemTree) → bounds_from t place items ≡ map bound_of (coded_from t place items)
bounds_are t place [] = refl
bounds_are t place (x ∷ items) =
    ap (λ l. bounds_at t place x ++ l) (bounds_are t (suc place) items) ∙ sym (mapped_joined bound_of (coded_at t place x) (coded_from t (suc place) items))

-- ---- names

abbrev pub name_of : Coded → BodyName
name_of c = record { owner = c.owner; name = c.head.name.name }

operations_named : (o : ℕ) (s : Scope) (components : List RecordComponent) (items : List ProtectedItemTree)
    → operation_names o items ≡ map name_of (operations_of o s components items)
operations_named o s components [] = refl
operations_named o s components (i ∷ items) =
    ap (λ l. operation_name o i ∷ l) (operations_named o (protected_item_scope s i) components items)

object_named : (o : ℕ) (s : Scope) (visible : Option ℕ) (items : List ProtectedItemTree)
    → operation_names o items ≡ map name_of (object_bodies o s visible items)
object_named o s (Some n) items = operations_named o (object_body_scope s n) (components_or_none (components_at s n)) items
object_named o s None items = operations_named o s [] items

named_by : (t : ProgramTree) (place : ℕ) (x : BodyItemTree) → names_in (program_of t).scope x ≡ map name_of (coded_at t place x)
named_by t place (OfItem d) = refl
named_by t place (SubprogramBody d b) = refl
named_by t place (TaskBody name b) = refl
named_by t place (ProtectedBody name items end_name) =
    object_named (object_number (program_of t).scope name) (front t place) (number_of (front t place) name.name) items

pub names_are : (t : ProgramTree) (place : ℕ) (items : List BodyItemTree) → names_among (program_of t).scope items ≡ map name_of (coded_from t place items)
names_are t place [] = refl
names_are t place (x ∷ items) =
    (λ j. named_by t place x j ++ names_are t (suc place) items j) ∙ sym (mapped_joined name_of (coded_at t place x) (coded_from t (suc place) items))

-- as many names as bodies
pub names_many : (s : Scope) (items : List BodyItemTree) → length (names_among s items) ≡ bodies_among items
names_many s [] = refl
names_many s (OfItem d ∷ rest) = names_many s rest
names_many s (SubprogramBody d b ∷ rest) = ap suc (names_many s rest)
names_many s (TaskBody name b ∷ rest) = ap suc (names_many s rest)
names_many s (ProtectedBody name items end_name ∷ rest) =
    let both = length-append (operation_names (object_number s name) items) (names_among s rest) in
    let own = operations_count (object_number s name) items in
    let more = names_many s rest in
    omega (arith, both, own, more)
  where
    operations_count : (o : ℕ) (is : List ProtectedItemTree) → length (operation_names o is) ≡ length is
    operations_count o [] = refl
    operations_count o (i ∷ is) = ap suc (operations_count o is)
