-- Laws of tables of names: what they answer is what looking ahead and back finds.
use denote.Enum.Bare.{sameb, same_true}
use Rattle.std.proofs.Common.{◌≡◌, ◌<◌, ◌+◌, ℕ, zero, suc, Bool, true, false, cond, ◌&&◌, ◌||◌, List, [], ◌∷◌, ◌++◌, length, map, take, drop, Option, Some, None, refl, sym, ap, ◌∙◌, rules, arith, true≢false, bytes_eq, get_or}
use Rattle.std.specs.List.{list_any}
use Rattle.std.specs.Map.{lookup}
use Rattle.std.proofs.Math.Bool.{and_self, or-false}
use Rattle.std.proofs.Math.Dec.{leb-suc-suc, leb-suc-zero, leb-zero}
use Rattle.std.proofs.Math.Numerals.{add-one}
use Rattle.std.proofs.Math.Seq.{take-suc}
use Rattle.std.proofs.lemmas.List.{length-take-le, map-append, length-map}
use Rattle.std.proofs.lemmas.List.Folds.{list_any-append}
use Rattle.std.proofs.lemmas.Slice.Eq.{bytes_eq-Decides}
use Rattle.ada_tree.specs.declared.expression.Identifier.{Identifier}
use Rattle.ada_tree.specs.ProgramTree.{BodyItemTree, OfItem, ProtectedItemTree, SubprogramBody, TaskBody, ProtectedBody}
use Rattle.types.proofs.Seeing.{either_way}
use Rattle.conformance.specs.MatchingRules.{has_operation, is_body_of, is_operation_body, is_second_operation, operation_name, same_name}
use Rattle.conformance.specs.declared.bodies.BodyOf.{BodyOf}
use Rattle.conformance.specs.declared.bodies.BodyOf.TheVariants as body_of
use Rattle.conformance.specs.declared.keys.Key.{Key}
use Rattle.conformance.specs.declared.keys.Kind.{Kind}
use Rattle.conformance.specs.declared.keys.Kind.TheVariants as kind
use Rattle.conformance.specs.contracts.keys.Kind.{the_type}
use Rattle.conformance.specs.Tables.{AreLastPlaces, IsKeyOf, PutsPlace, SeesKeys, has_body_key, has_inner_key, has_key, has_operation_key, is_from, is_key, is_same_key, is_seen, kind_of, last_or, last_place, place_at}

-- ---- tests of lists

pub and-false : (b : Bool) → (b && false) ≡ false
and-false true = refl
and-false false = refl

or-true : (b : Bool) → (b || true) ≡ true
or-true true = refl
or-true false = refl

module _ {X : Type 0} where
  pub same_any : (p q : X → Bool) → ((x : X) → p x ≡ q x) → (xs : List X) → list_any p xs ≡ list_any q xs
  same_any p q same [] = refl
  same_any p q same (x ∷ xs) = λ j. same x j || same_any p q same xs j

  none_of : (xs : List X) → list_any (λ x. false) xs ≡ false
  none_of [] = refl
  none_of (x ∷ xs) = none_of xs

  pub none_any : (p : X → Bool) → ((x : X) → p x ≡ false) → (xs : List X) → list_any p xs ≡ false
  none_any p none xs = same_any p (λ x. false) none xs ∙ none_of xs

  pub and_any : (b : Bool) (p : X → Bool) (xs : List X) → list_any (λ x. b && p x) xs ≡ (b && list_any p xs)
  and_any true p xs = refl
  and_any false p xs = none_of xs

  any_end : (p : X → Bool) (xs : List X) (x : X) → list_any p (xs ++ x ∷ []) ≡ (list_any p xs || p x)
  any_end p xs x = list_any-append p xs (x ∷ []) ∙ ap (λ b. list_any p xs || b) (or-false (p x))

module _ {A X : Type 0} (tree : A → X) (all : List A) (n : ℕ) (x : A) (less : n < length all) (at : x ≡ get_or all n x) where
  pub taken : map tree (take (n + 1) all) ≡ map tree (take n all) ++ tree x ∷ []
  taken = ap (map tree) (ap (λ m. take m all) (add-one n) ∙ take-suc all n x less ∙ ap (λ y. take n all ++ y ∷ []) (sym at)) ∙ map-append tree (take n all) (x ∷ [])

  pub any_next : (p : X → Bool) → list_any p (map tree (take (n + 1) all)) ≡ (list_any p (map tree (take n all)) || p (tree x))
  any_next p = ap (list_any p) taken ∙ any_end p (map tree (take n all)) (tree x)

-- ---- keys

pub same_as_key : (q : Key) (own : Kind) (object name : List ℕ) → IsKeyOf q own object name → (k : Key) → is_same_key q k ≡ is_key k own object name
same_as_key q own object name is k = λ j. sameb the_type (is.is_kind j) k.kind && (bytes_eq (is.is_object j) k.object.now && bytes_eq (is.is_name j) k.name.now)

pub key_at : (k : Key) (own : Kind) (object name : List ℕ) → IsKeyOf k own object name
    → (kind : Kind) (o n : List ℕ) → is_key k kind o n ≡ (sameb the_type kind own && (bytes_eq o object && bytes_eq n name))
key_at k own object name is kind o n = λ j. sameb the_type kind (is.is_kind j) && (bytes_eq o (is.is_object j) && bytes_eq n (is.is_name j))

pub and_first : (a b : Bool) → (a && b) ≡ true → a ≡ true
and_first true b h = refl
and_first false b h = h

pub and_second : (a b : Bool) → (a && b) ≡ true → b ≡ true
and_second true b h = h
and_second false b h = absurd (true≢false (sym h))

-- keys that are the same find the same
pub same_found : {X : Type 0} (table : List (Key × X)) (a b : Key) → is_same_key a b ≡ true → lookup (is_same_key a) table ≡ lookup (is_same_key b) table
same_found table a b same =
    let kind_same = sameb the_type a.kind b.kind in
    let object_same = bytes_eq a.object.now b.object.now in
    let name_same = bytes_eq a.name.now b.name.now in
    let rest = and_second kind_same (object_same && name_same) same in
    let kinds : a.kind ≡ b.kind = same_true the_type (search rules) a.kind b.kind (and_first kind_same (object_same && name_same) same) in
    let objects : a.object.now ≡ b.object.now = (bytes_eq-Decides a.object.now b.object.now).0 (and_first object_same name_same rest) in
    let names : a.name.now ≡ b.name.now = (bytes_eq-Decides a.name.now b.name.now).0 (and_second object_same name_same rest) in
    λ j. lookup (λ k. sameb the_type (kinds j) k.kind && (bytes_eq (objects j) k.object.now && bytes_eq (names j) k.name.now)) table

-- ---- the last places

pub last_end : {X : Type 0} (p : X → Bool) (xs : List X) (x : X) → last_place p (xs ++ x ∷ []) ≡ cond (p x) (Some (length xs)) (last_place p xs)
last_end p [] x = refl
last_end p (y ∷ ys) x = ap (λ o. last_or o (p y)) (last_end p ys x) ∙ by (p x)
  where
    by : (b : Bool) → last_or (cond b (Some (length ys)) (last_place p ys)) (p y) ≡ cond b (Some (suc (length ys))) (last_or (last_place p ys) (p y))
    by true = refl
    by false = refl

from_any : {X : Type 0} (p : X → Bool) (xs : List X) → is_from 0 (last_place p xs) ≡ list_any p xs
from_any p [] = refl
from_any p (x ∷ xs) = by (last_place p xs) (p x) (from_any p xs)
  where
    by : (o : Option ℕ) (b : Bool) → is_from 0 o ≡ list_any p xs → is_from 0 (last_or o b) ≡ (b || list_any p xs)
    by (Some i) b rest = leb-zero (suc i) ∙ sym (or-true b) ∙ ap (λ c. b || c) (sym (leb-zero i) ∙ rest)
    by None true rest = refl
    by None false rest = rest

-- the last place is behind a place where one stands behind it
pub from_last : {X : Type 0} (p : X → Bool) (n : ℕ) (xs : List X) → is_from n (last_place p xs) ≡ list_any p (drop n xs)
from_last p zero xs = from_any p xs
from_last p (suc n) [] = refl
from_last p (suc n) (x ∷ xs) = by (last_place p xs) (p x) (from_last p n xs)
  where
    by : (o : Option ℕ) (b : Bool) → is_from n o ≡ list_any p (drop n xs) → is_from (suc n) (last_or o b) ≡ list_any p (drop n xs)
    by (Some i) b rest = leb-suc-suc n i ∙ rest
    by None true rest = leb-suc-zero n ∙ rest
    by None false rest = rest

twice_placed : (a b : Bool) (place : ℕ) (o : Option ℕ) → cond b (Some place) (cond a (Some place) o) ≡ cond (a || b) (Some place) o
twice_placed true true place o = refl
twice_placed true false place o = refl
twice_placed false true place o = refl
twice_placed false false place o = refl

pub placed_as : (old new : List (Key × ℕ)) (p q : Key → Bool) (place : ℕ) → ((k : Key) → p k ≡ q k) → PutsPlace old new p place → PutsPlace old new q place
placed_as old new p q place same puts k = puts k ∙ ap (λ b. cond b (Some place) (place_at old k)) (same k)

pub placed_both : (old between new : List (Key × ℕ)) (p q : Key → Bool) (place : ℕ)
    → PutsPlace old between p place → PutsPlace between new q place → PutsPlace old new (λ k. p k || q k) place
placed_both old between new p q place first second k =
    second k ∙ ap (cond (q k) (Some place)) (first k) ∙ twice_placed (p k) (q k) place (place_at old k)

-- the next of some things that are put at one place
pub puts_next : {A X : Type 0} (tree : A → X) (test : Key → X → Bool) (all : List A) (n : ℕ) (x : A) (old between new : List (Key × ℕ)) (place : ℕ)
    → n < length all
    → x ≡ get_or all n x
    → PutsPlace old between (λ k. list_any (test k) (map tree (take n all))) place
    → PutsPlace between new (λ k. test k (tree x)) place
    → PutsPlace old new (λ k. list_any (test k) (map tree (take (n + 1) all))) place
puts_next tree test all n x old between new place less at first second =
    placed_as old new (λ k. list_any (test k) (map tree (take n all)) || test k (tree x)) (λ k. list_any (test k) (map tree (take (n + 1) all))) place
    (λ k. sym (any_next tree all n x less at (test k)))
    (placed_both old between new (λ k. list_any (test k) (map tree (take n all))) (λ k. test k (tree x)) place first second)

-- the places of the first n + 1 items
pub places_next : {A : Type 0} (tree : A → BodyItemTree) (all : List A) (n : ℕ) (x : A) (old new : List (Key × ℕ))
    → n < length all
    → x ≡ get_or all n x
    → AreLastPlaces (map tree (take n all)) old
    → PutsPlace old new (λ k. has_key k (tree x)) n
    → AreLastPlaces (map tree (take (n + 1) all)) new
places_next tree all n x old new less at are puts k =
    let size : length (map tree (take n all)) ≡ n = length-map (take n all) tree ∙ length-take-le n all (omega (arith, less)) in
    puts k
    ∙ ap (cond (has_key k (tree x)) (Some n)) (are k)
    ∙ ap (λ m. cond (has_key k (tree x)) (Some m) (last_place (has_key k) (map tree (take n all)))) (sym size)
    ∙ sym (last_end (has_key k) (map tree (take n all)) (tree x))
    ∙ ap (last_place (has_key k)) (sym (taken tree all n x less at))

-- ---- keys that were seen

pub seen_after : (a b : Bool) → cond b true a ≡ (a || b)
seen_after true true = refl
seen_after true false = refl
seen_after false true = refl
seen_after false false = refl

pub sees_as : (old new : List Key) (p q : Key → Bool) → ((k : Key) → p k ≡ q k) → SeesKeys old new p → SeesKeys old new q
sees_as old new p q same sees k = sees k ∙ ap (λ b. is_seen old k || b) (same k)

pub seen_next : {A X : Type 0} (tree : A → X) (test : Key → X → Bool) (all : List A) (n : ℕ) (x : A) (old new : List Key)
    → n < length all
    → x ≡ get_or all n x
    → ((k : Key) → is_seen old k ≡ list_any (test k) (map tree (take n all)))
    → SeesKeys old new (λ k. test k (tree x))
    → (k : Key) → is_seen new k ≡ list_any (test k) (map tree (take (n + 1) all))
seen_next tree test all n x old new less at are sees k =
    sees k ∙ ap (λ b. b || test k (tree x)) (are k) ∙ sym (any_next tree all n x less at (test k))

-- ---- the body of what

inner_none : (k : Key) (own : Kind) (object name : List ℕ) → IsKeyOf k own object name
    → sameb the_type kind.Operation own ≡ false → (i : BodyItemTree) → has_inner_key k i ≡ false
inner_none k own object name is other (ProtectedBody o items e) = none_any (has_operation_key k o) each items
  where
    each : (i : ProtectedItemTree) → has_operation_key k o i ≡ false
    each i = key_at k own object name is kind.Operation o.name (operation_name i).name ∙ ap (λ c. c && (bytes_eq o.name object && bytes_eq (operation_name i).name name)) other
inner_none k own object name is other (OfItem d) = refl
inner_none k own object name is other (SubprogramBody d b) = refl
inner_none k own object name is other (TaskBody o b) = refl

twice : (m n : List ℕ) → (bytes_eq m n && bytes_eq m n) ≡ bytes_eq n m
twice m n = and_self (bytes_eq m n) ∙ either_way m n

-- an item has the key of a body where it is that body
pub body_found : (k : Key) (of : BodyOf) (name : Identifier) → IsKeyOf k (kind_of of) name.name name.name → (i : BodyItemTree) → has_body_key k i ≡ is_body_of of name i
body_found k body_of.Subprogram name is (SubprogramBody d b) = key_at k kind.Subprogram name.name name.name is kind.Subprogram d.name.name d.name.name ∙ twice d.name.name name.name
body_found k body_of.Subprogram name is (TaskBody o b) = key_at k kind.Subprogram name.name name.name is kind.Task o.name o.name
body_found k body_of.Subprogram name is (ProtectedBody o items e) = key_at k kind.Subprogram name.name name.name is kind.Object o.name o.name
body_found k body_of.Subprogram name is (OfItem d) = refl
body_found k body_of.Task name is (SubprogramBody d b) = key_at k kind.Task name.name name.name is kind.Subprogram d.name.name d.name.name
body_found k body_of.Task name is (TaskBody o b) = key_at k kind.Task name.name name.name is kind.Task o.name o.name ∙ twice o.name name.name
body_found k body_of.Task name is (ProtectedBody o items e) = key_at k kind.Task name.name name.name is kind.Object o.name o.name
body_found k body_of.Task name is (OfItem d) = refl
body_found k body_of.Object name is (SubprogramBody d b) = key_at k kind.Object name.name name.name is kind.Subprogram d.name.name d.name.name
body_found k body_of.Object name is (TaskBody o b) = key_at k kind.Object name.name name.name is kind.Task o.name o.name
body_found k body_of.Object name is (ProtectedBody o items e) = key_at k kind.Object name.name name.name is kind.Object o.name o.name ∙ twice o.name name.name
body_found k body_of.Object name is (OfItem d) = refl

no_inner : (k : Key) (of : BodyOf) (name : Identifier) → IsKeyOf k (kind_of of) name.name name.name → (i : BodyItemTree) → has_inner_key k i ≡ false
no_inner k body_of.Subprogram name is i = inner_none k kind.Subprogram name.name name.name is refl i
no_inner k body_of.Task name is i = inner_none k kind.Task name.name name.name is refl i
no_inner k body_of.Object name is i = inner_none k kind.Object name.name name.name is refl i

pub found : (k : Key) (of : BodyOf) (name : Identifier) → IsKeyOf k (kind_of of) name.name name.name → (i : BodyItemTree) → has_key k i ≡ is_body_of of name i
found k of name is i = (λ j. body_found k of name is i j || no_inner k of name is i j) ∙ or-false (is_body_of of name i)

-- the same of an operation
no_body : (k : Key) (object name : List ℕ) → IsKeyOf k kind.Operation object name → (i : BodyItemTree) → has_body_key k i ≡ false
no_body k object name is (SubprogramBody d b) = key_at k kind.Operation object name is kind.Subprogram d.name.name d.name.name
no_body k object name is (TaskBody o b) = key_at k kind.Operation object name is kind.Task o.name o.name
no_body k object name is (ProtectedBody o items e) = key_at k kind.Operation object name is kind.Object o.name o.name
no_body k object name is (OfItem d) = refl

operation_at : (k : Key) (object own name : Identifier) → IsKeyOf k kind.Operation object.name name.name
    → (i : ProtectedItemTree) → has_operation_key k own i ≡ (same_name object own && is_operation_body name i)
operation_at k object own name is i =
    key_at k kind.Operation object.name name.name is kind.Operation own.name (operation_name i).name
    ∙ (λ j. either_way own.name object.name j && either_way (operation_name i).name name.name j)

inner_found : (k : Key) (object name : Identifier) → IsKeyOf k kind.Operation object.name name.name
    → (i : BodyItemTree) → has_inner_key k i ≡ has_operation object name i
inner_found k object name is (ProtectedBody own items e) =
    same_any (has_operation_key k own) (λ i. same_name object own && is_operation_body name i) (operation_at k object own name is) items
    ∙ and_any (same_name object own) (is_operation_body name) items
inner_found k object name is (OfItem d) = refl
inner_found k object name is (SubprogramBody d b) = refl
inner_found k object name is (TaskBody o b) = refl

pub operation_found : (k : Key) (object name : Identifier) → IsKeyOf k kind.Operation object.name name.name
    → (i : BodyItemTree) → has_key k i ≡ has_operation object name i
operation_found k object name is i = λ j. no_body k object.name name.name is i j || inner_found k object name is i j

pub same_self : (n : List ℕ) → bytes_eq n n ≡ true
same_self n = (bytes_eq-Decides n n).1 refl

-- the key of the body of an operation
pub own_operation : (q : Key) (object : Identifier) (i : ProtectedItemTree) → IsKeyOf q kind.Operation object.name (operation_name i).name
    → (k : Key) → is_same_key q k ≡ has_operation_key k object i
own_operation q object i is k = same_as_key q kind.Operation object.name (operation_name i).name is k

-- an earlier body in the same object has this key where this body is a second one
pub second_found : (q : Key) (object : Identifier) (i : ProtectedItemTree) → IsKeyOf q kind.Operation object.name (operation_name i).name
    → (earlier : List ProtectedItemTree) → list_any (has_operation_key q object) earlier ≡ is_second_operation earlier i
second_found q object i is earlier = same_any (has_operation_key q object) (is_operation_body (operation_name i)) each earlier
  where
    each : (x : ProtectedItemTree) → has_operation_key q object x ≡ is_operation_body (operation_name i) x
    each x = operation_at q object object (operation_name i) is x ∙ ap (λ b. b && is_operation_body (operation_name i) x) (same_self object.name)
