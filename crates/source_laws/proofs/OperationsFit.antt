-- The bodies of operations and entries of an accepted program are no more than what its limit of subprograms counts for protected objects: each operation that
-- is declared has one body, and a body without a declaration counts.
use Rattle.std.proofs.Common.{◌≡◌, ℕ, zero, suc, ◌+◌, ◌<◌, ◌≤◌, List, [], ◌∷◌, ◌++◌, append-nil, length, length-append, take, Bool, true, false, ◌||◌, Option, Some, None, refl, sym, ap, ◌∙◌, subst, arith, take_all}
use Rattle.std.specs.Prelude.{bytes_eq, is_some, position, slice_get}
use Rattle.base.specs.declared.limits.TheConstants.{PROCEDURES}
use Rattle.ada_tree.specs.declared.expression.Identifier.{Identifier}
use Rattle.ada_tree.specs.StatementTree.{OperationTree, SubprogramTree}
use Rattle.ada_tree.specs.ProgramTree.{BodyItemTree, BodyTree, EntryBody, OfItem, OfProtected, OfSubprogram, OperationBody, ProgramTree, ProtectedBody, ProtectedItemTree, SubprogramBody}
use Rattle.image.specs.RuleLaws.{slice_get_inside}
use Rattle.types.specs.Entities.{ProtectedObject}
use Rattle.types.specs.Scopes.{Scope, is_visible, protected_count, protected_of}
use Rattle.declaration_rules.specs.ProtectedRules.{operation_name}
use Rattle.meaning.specs.type_rules.specs.SubtypeNames.{named_entity}
use Rattle.declaration_rules.specs.PackageNames.{body_item_scope}
use Rattle.program_soundness.specs.unit_rules.specs.MatchingRules as matching
use Rattle.legality.specs.ProgramRules.{IsLegal}
use Rattle.ravenscar.specs.ProgramRules.{IsRestricted}
use Rattle.program_soundness.specs.size_rules.specs.declared.thing.Kind.{Kind}
use Rattle.program_soundness.specs.size_rules.specs.declared.thing.Kind.TheVariants as kind
use Rattle.program_soundness.specs.size_rules.specs.Limits.{places_of}
use Rattle.program_soundness.specs.size_rules.specs.PackageSizes.{body_item_things, body_items_things, components_things, is_operation_of, item_things, object_body_things, operations_things, protected_items_things}
use Rattle.program_soundness.specs.size_rules.specs.ProgramSizes.{optional_size_faults}
use Rattle.meaning.specs.Programs.{program_of}
use Rattle.program_soundness.specs.step_soundness.specs.Objects.{first_store}
use Rattle.program_soundness.specs.Fronts.{declared_in, scope_at, start_in}
use Rattle.program_soundness.proofs.Assembled.{own}
use Rattle.program_soundness.proofs.Assembled.{w as list_of}
use Rattle.program_soundness.proofs.Listing.{none_passes, same_some, taken_at, taken_next, within_taken}
use Rattle.program_soundness.proofs.ObjectBodies as bodies
use Rattle.program_soundness.proofs.ObjectTrees.{operation_declared}
use Rattle.program_soundness.proofs.OneList.{is_object_body}
use Rattle.program_soundness.proofs.Whole.{IsPackage}
use Rattle.program_soundness.proofs.WiderScopes.{equal_bytes, same_bytes, stands}
use Rattle.expr_soundness.proofs.Positions.{found_at, place_is}
use Rattle.package_code.specs.Bodies.{object_number, or_zero}
use Rattle.package_code.proofs.Differing.{AreDiffering, is_of, no_more_than, of_both}
use Rattle.package_code.proofs.InFront.{LawsOfNames, memory}
use Rattle.package_code.proofs.ItemsTold.{none_taken}
use Rattle.source_laws.proofs.CountsFit.{body_names, counted_body, counted_names, many_both, names_few, subprograms_counted}

-- ---- an operation of an object, as one text: the object's number and the name

abbrev pub operation_texts : (object : ℕ) → List OperationTree → List (List ℕ)
operation_texts o [] = []
operation_texts o (t ∷ ts) = (o ∷ (operation_name t).name) ∷ operation_texts o ts

-- those of bodies
abbrev pub body_texts : (object : ℕ) → List ProtectedItemTree → List (List ℕ)
body_texts o [] = []
body_texts o (i ∷ is) = (o ∷ (matching.operation_name i).name) ∷ body_texts o is

abbrev pub object_texts : Scope → List BodyItemTree → List (List ℕ)
object_texts s [] = []
object_texts s (ProtectedBody name items end_name ∷ rest) = body_texts (object_number s name) items ++ object_texts s rest
object_texts s (x ∷ rest) = object_texts s rest

-- those that are counted: of what is declared, and of bodies without a declaration
abbrev counted_operation : Bool → ProtectedObject → List ℕ → List (List ℕ)
counted_operation true p name = []
counted_operation false p name = (p.number ∷ name) ∷ []

abbrev counted_operations : ProtectedObject → List ProtectedItemTree → List (List ℕ)
counted_operations p [] = []
counted_operations p (OperationBody d b ∷ is) = counted_operation (is_operation_of p d.name) p d.name.name ++ counted_operations p is
counted_operations p (EntryBody d barrier b ∷ is) = counted_operations p is

abbrev counted_inside : Option ProtectedObject → List ProtectedItemTree → List (List ℕ)
counted_inside (Some p) items = counted_operations p items
counted_inside None items = []

abbrev counted_at : Scope → BodyItemTree → List (List ℕ)
counted_at s (OfItem (OfProtected d)) = operation_texts (protected_count s) d.operations
counted_at s (ProtectedBody name items end_name) = counted_inside (protected_of (named_entity s name)) items
counted_at s x = []

abbrev pub counted_texts : Scope → List BodyItemTree → List (List ℕ)
counted_texts s [] = []
counted_texts s (x ∷ rest) = counted_at s x ++ counted_texts (body_item_scope s x) rest

-- ---- they are counted with the subprograms

abbrev Sub : Kind
Sub = kind.Subprogram

operations_many : (o : ℕ) (ts : List OperationTree) → length (operation_texts o ts) ≡ length (places_of Sub (operations_things ts))
operations_many o [] = refl
operations_many o (t ∷ ts) = ap suc (operations_many o ts)

undeclared_many : (p : ProtectedObject) (items : List ProtectedItemTree)
    → length (counted_operations p items) ≡ length (places_of Sub (protected_items_things p items))
undeclared_many p [] = refl
undeclared_many p (EntryBody d barrier b ∷ is) = undeclared_many p is
undeclared_many p (OperationBody d b ∷ is) = by_test (is_operation_of p d.name) (undeclared_many p is)
  where
    by_test : (t : Bool) → length (counted_operations p is) ≡ length (places_of Sub (protected_items_things p is))
        → length (counted_operation t p d.name.name ++ counted_operations p is)
        ≡ length (places_of Sub (elim t [ true ↦ [] | false ↦ item_things [] (OfSubprogram d) ] ++ protected_items_things p is))
    by_test true h = h
    by_test false h = ap suc h

inside_many : (o : Option ProtectedObject) (items : List ProtectedItemTree)
    → length (counted_inside o items) ≡ length (places_of Sub (object_body_things o items))
inside_many (Some p) items = undeclared_many p items
inside_many None items = refl

-- both kinds of counted names together
pub both_few : (s : Scope) (items : List BodyItemTree)
    → length (counted_names s items) + length (counted_texts s items) ≤ length (places_of Sub (body_items_things s items))
both_few s [] = omega arith
both_few s (OfItem (OfSubprogram d) ∷ rest) = (let later = both_few (body_item_scope s (OfItem (OfSubprogram d))) rest in omega (arith, later))
both_few s (SubprogramBody d b ∷ rest) = by_test (is_visible s d.name.name) (both_few next rest)
  where
    next : Scope
    next = body_item_scope s (SubprogramBody d b)

    by_test : (v : Bool) → length (counted_names next rest) + length (counted_texts next rest) ≤ length (places_of Sub (body_items_things next rest))
        → length (counted_body v d.name.name ++ counted_names next rest) + length (counted_texts next rest)
        ≤ length (places_of Sub (elim v [ true ↦ [] | false ↦ item_things s (OfSubprogram d) ] ++ body_items_things next rest))
    by_test true h = h
    by_test false h = omega (arith, h)
both_few s (OfItem (OfProtected d) ∷ rest) =
    let next = body_item_scope s (OfItem (OfProtected d)) in
    let later = both_few next rest in
    let own = operations_many (protected_count s) d.operations in
    let texts = length-append (operation_texts (protected_count s) d.operations) (counted_texts next rest) in
    let all = many_both Sub (item_things s (OfProtected d)) (body_items_things next rest) in
    let parts = many_both Sub (operations_things d.operations) (components_things s d.components) in
    together (length (counted_names next rest)) (length (counted_texts next rest)) (length (places_of Sub (body_items_things next rest)))
    (length (operation_texts (protected_count s) d.operations)) (length (places_of Sub (operations_things d.operations)))
    (length (places_of Sub (components_things s d.components))) (length (places_of Sub (item_things s (OfProtected d))))
    (length (operation_texts (protected_count s) d.operations ++ counted_texts next rest))
    (length (places_of Sub (body_items_things s (OfItem (OfProtected d) ∷ rest)))) later own texts all parts
  where
    together : (a b c n m p q t all : ℕ) → a + b ≤ c → n ≡ m → t ≡ n + b → all ≡ q + c → q ≡ m + p → a + t ≤ all
    together a b c n m p q t all h e f g i = omega (arith, h, e, f, g, i)
both_few s (ProtectedBody name items end_name ∷ rest) =
    let later = both_few s rest in
    let own = inside_many (protected_of (named_entity s name)) items in
    let texts = length-append (counted_inside (protected_of (named_entity s name)) items) (counted_texts s rest) in
    let all = many_both Sub (body_item_things s (ProtectedBody name items end_name)) (body_items_things s rest) in
    omega (arith, later, own, texts, all)
both_few s (x ∷ rest) =
    let later = both_few (body_item_scope s x) rest in
    let all = many_both Sub (body_item_things s x) (body_items_things (body_item_scope s x) rest) in
    omega (arith, later, all)

-- ---- texts one behind another

differing_both : (xs ys : List (List ℕ)) → AreDiffering xs → AreDiffering ys → ((q : List ℕ) → is_of xs q ≡ true → is_of ys q ≡ false) → AreDiffering (xs ++ ys)
differing_both [] ys h k apart = k
differing_both (x ∷ xs) ys h k apart =
    let first : is_of (x ∷ xs) x ≡ true = ap (λ b. b || is_of xs x) (equal_bytes x x refl) in (
      of_both xs ys x ∙ (λ j. h.0 j || apart x first j),
      differing_both xs ys h.1 k (λ q i. apart q (later (bytes_eq q x) (is_of xs q) i)),
    )
  where
    later : (b c : Bool) → c ≡ true → (b || c) ≡ true
    later true c e = refl
    later false c e = e

abbrev tail_of : List ℕ → List ℕ
tail_of [] = []
tail_of (x ∷ xs) = xs

abbrev head_of : List ℕ → ℕ
head_of [] = 0
head_of (x ∷ xs) = x

not_false : (b : Bool) → (b ≡ true → ⊥) → b ≡ false
not_false true h = absurd (h refl)
not_false false h = refl

-- a text among those of bodies is that of one of them
body_text_at : (o : ℕ) (items : List ProtectedItemTree) (q : List ℕ) → is_of (body_texts o items) q ≡ true
    → (j : ℕ) × (i : ProtectedItemTree) × (slice_get items j ≡ Some i) × (q ≡ (o ∷ (matching.operation_name i).name))
body_text_at o [] q h = cc
body_text_at o (i ∷ is) q h = by_test (bytes_eq q (o ∷ (matching.operation_name i).name)) refl h (λ k. body_text_at o is q k)
  where
    by_test : (c : Bool) → bytes_eq q (o ∷ (matching.operation_name i).name) ≡ c → (c || is_of (body_texts o is) q) ≡ true
        → (is_of (body_texts o is) q ≡ true
        → (j : ℕ) × (x : ProtectedItemTree) × (slice_get is j ≡ Some x) × (q ≡ (o ∷ (matching.operation_name x).name)))
        → (j : ℕ) × (x : ProtectedItemTree) × (slice_get (i ∷ is) j ≡ Some x) × (q ≡ (o ∷ (matching.operation_name x).name))
    by_test true e k later = (0, i, refl, same_bytes q (o ∷ (matching.operation_name i).name) e)
    by_test false e k later = let n = later k in (suc n.0, n.1, n.2, n.3)

bodies_differ : (o : ℕ) (items : List ProtectedItemTree)
    → ((j k : ℕ) (x y : ProtectedItemTree) → j < k → slice_get items j ≡ Some x → slice_get items k ≡ Some y
    → (matching.operation_name x).name ≡ (matching.operation_name y).name → ⊥)
    → AreDiffering (body_texts o items)
bodies_differ o [] apart = tt
bodies_differ o (i ∷ is) apart = (
  not_false (is_of (body_texts o is) (o ∷ (matching.operation_name i).name))
      (λ h.
      let n = body_text_at o is (o ∷ (matching.operation_name i).name) h in
      apart 0 (suc n.0) i n.1 (omega arith) refl n.2 (ap tail_of n.3)),
  bodies_differ o is (λ j k x y less at there. apart (suc j) (suc k) x y (omega (arith, less)) at there),
)

-- a text of bodies of objects is that of one body of an item
object_text_at : (w : Scope) (items : List BodyItemTree) (q : List ℕ) → is_of (object_texts w items) q ≡ true
    → (k : ℕ) × (name : Identifier) × (is : List ProtectedItemTree) × (end_name : Identifier) × (slice_get items k ≡ Some (ProtectedBody name is end_name))
    × (j : ℕ) × (i : ProtectedItemTree) × (slice_get is j ≡ Some i) × (q ≡ (object_number w name ∷ (matching.operation_name i).name))
object_text_at w [] q h = cc
object_text_at w (ProtectedBody name is end_name ∷ rest) q h =
    by_tests (is_of (body_texts (object_number w name) is) q) refl
    (sym (of_both (body_texts (object_number w name) is) (object_texts w rest) q) ∙ h) (λ k. object_text_at w rest q k)
  where
    by_tests : (b : Bool) → is_of (body_texts (object_number w name) is) q ≡ b → (b || is_of (object_texts w rest) q) ≡ true
        → (is_of (object_texts w rest) q ≡ true
        → (k : ℕ) × (n : Identifier) × (us : List ProtectedItemTree) × (e : Identifier) × (slice_get rest k ≡ Some (ProtectedBody n us e))
        × (j : ℕ) × (i : ProtectedItemTree) × (slice_get us j ≡ Some i) × (q ≡ (object_number w n ∷ (matching.operation_name i).name)))
        → (k : ℕ) × (n : Identifier) × (us : List ProtectedItemTree) × (e : Identifier)
        × (slice_get (ProtectedBody name is end_name ∷ rest) k ≡ Some (ProtectedBody n us e))
        × (j : ℕ) × (i : ProtectedItemTree) × (slice_get us j ≡ Some i) × (q ≡ (object_number w n ∷ (matching.operation_name i).name))
    by_tests true e k later = let n = body_text_at (object_number w name) is q e in (0, name, is, end_name, refl, n.0, n.1, n.2, n.3)
    by_tests false e k later = let n = later k in (suc n.0, n.1, n.2, n.3, n.4, n.5, n.6, n.7, n.8)
object_text_at w (x ∷ rest) q h = let n = object_text_at w rest q h in (suc n.0, n.1, n.2, n.3, n.4, n.5, n.6, n.7, n.8)

objects_joined : (w : Scope) (xs ys : List BodyItemTree) → object_texts w (xs ++ ys) ≡ object_texts w xs ++ object_texts w ys
objects_joined w [] ys = refl
objects_joined w (ProtectedBody name is end_name ∷ xs) ys =
    ap (λ l. body_texts (object_number w name) is ++ l) (objects_joined w xs ys)
    ∙ sym (append_three (body_texts (object_number w name) is) (object_texts w xs) (object_texts w ys))
  where
    append_three : {X : Type 0} (a b c : List X) → (a ++ b) ++ c ≡ a ++ (b ++ c)
    append_three [] b c = refl
    append_three (x ∷ a) b c = ap (λ l. x ∷ l) (append_three a b c)
objects_joined w (x ∷ xs) ys = objects_joined w xs ys

-- what is counted of an item is counted
there_counted : (s : Scope) (items : List BodyItemTree) (k : ℕ) (x : BodyItemTree) (q : List ℕ) → slice_get items k ≡ Some x
    → is_of (counted_at (scope_at s items k) x) q ≡ true → is_of (counted_texts s items) q ≡ true
there_counted s [] k x q at h = cc
there_counted s (y ∷ items) zero x q at h =
    of_both (counted_at s y) (counted_texts (body_item_scope s y) items) q
    ∙ ap (λ b. b || is_of (counted_texts (body_item_scope s y) items) q) (ap (λ z. is_of (counted_at s z) q) (same_some y x at) ∙ h)
there_counted s (y ∷ items) (suc k) x q at h =
    of_both (counted_at s y) (counted_texts (body_item_scope s y) items) q
    ∙ later (is_of (counted_at s y) q) (is_of (counted_texts (body_item_scope s y) items) q) (there_counted (body_item_scope s y) items k x q at h)
  where
    later : (b c : Bool) → c ≡ true → (b || c) ≡ true
    later true c e = refl
    later false c e = e

declared_text : (o : ℕ) (ts : List OperationTree) (k : ℕ) (t : OperationTree) (name : List ℕ) → slice_get ts k ≡ Some t → (operation_name t).name ≡ name
    → is_of (operation_texts o ts) (o ∷ name) ≡ true
declared_text o [] k t name at is = cc
declared_text o (u ∷ ts) zero t name at is =
    ap (λ b. b || is_of (operation_texts o ts) (o ∷ name))
    (equal_bytes (o ∷ name) (o ∷ (operation_name u).name) (ap (λ n. o ∷ n) (sym is ∙ ap (λ z. (operation_name z).name) (sym (same_some u t at)))))
declared_text o (u ∷ ts) (suc k) t name at is =
    later (bytes_eq (o ∷ name) (o ∷ (operation_name u).name)) (is_of (operation_texts o ts) (o ∷ name)) (declared_text o ts k t name at is)
  where
    later : (b c : Bool) → c ≡ true → (b || c) ≡ true
    later true c e = refl
    later false c e = e

undeclared_text : (p : ProtectedObject) (items : List ProtectedItemTree) (j : ℕ) (d : SubprogramTree) (b : BodyTree)
    → slice_get items j ≡ Some (OperationBody d b)
    → is_operation_of p d.name ≡ false → is_of (counted_operations p items) (p.number ∷ d.name.name) ≡ true
undeclared_text p [] j d b at none = cc
undeclared_text p (x ∷ items) zero d b at none =
    subst (λ y. is_of (counted_operations p (y ∷ items)) (p.number ∷ d.name.name) ≡ true) (sym (same_some x (OperationBody d b) at))
    (ap (λ t. is_of (counted_operation t p d.name.name ++ counted_operations p items) (p.number ∷ d.name.name)) none
    ∙ ap (λ c. c || is_of (counted_operations p items) (p.number ∷ d.name.name)) (equal_bytes (p.number ∷ d.name.name) (p.number ∷ d.name.name) refl))
undeclared_text p (EntryBody e barrier c ∷ items) (suc j) d b at none = undeclared_text p items j d b at none
undeclared_text p (OperationBody e c ∷ items) (suc j) d b at none =
    of_both (counted_operation (is_operation_of p e.name) p e.name.name) (counted_operations p items) (p.number ∷ d.name.name)
    ∙ later (is_of (counted_operation (is_operation_of p e.name) p e.name.name) (p.number ∷ d.name.name))
    (is_of (counted_operations p items) (p.number ∷ d.name.name)) (undeclared_text p items j d b at none)
  where
    later : (b c : Bool) → c ≡ true → (b || c) ≡ true
    later true c e = refl
    later false c e = e

-- ---- an accepted program

module _ (laws : LawsOfNames) (t : ProgramTree) (legal : IsLegal t) (restricted : IsRestricted t) where
  abbrev all : List BodyItemTree
  all = declared_in t.package_

  abbrev s : Scope
  s = start_in t.package_

  abbrev names : Scope
  names = (program_of t).scope

  abbrev w : IsPackage (program_of t) s all
  w =
      list_of laws.scopes t (first_store (program_of t)) legal restricted (laws.names t legal restricted) (laws.premises t legal)
      (memory laws t legal restricted)

  module _ (k : ℕ) (nm : Identifier) (items : List ProtectedItemTree) (end_name : Identifier)
      (at : slice_get all k ≡ Some (ProtectedBody nm items end_name)) where
    abbrev obj : ProtectedObject
    obj = (bodies.there (program_of t) s all w k nm items end_name at).object

    abbrev declared : bodies.IsObjectAt (program_of t) s all w nm.name obj
    declared = bodies.declared_at (program_of t) s all w k nm items end_name at

    number_is : object_number names nm ≡ obj.number
    number_is = ap or_zero (bodies.there (program_of t) s all w k nm items end_name at).numbered

    abbrev owned : (j : ℕ) (i : ProtectedItemTree) → slice_get items j ≡ Some i → bodies.HasOwn (program_of t) s all w k nm items end_name at i
    owned j i there =
        own laws.scopes t (first_store (program_of t)) legal restricted (laws.names t legal restricted) (laws.premises t legal)
        (memory laws t legal restricted) k nm items end_name at j i there

    -- two bodies of the object have two names
    two_names : (j n : ℕ) (x y : ProtectedItemTree) → j < n → slice_get items j ≡ Some x → slice_get items n ≡ Some y
        → (matching.operation_name x).name ≡ (matching.operation_name y).name → ⊥
    two_names j n x y less one two same = by_kinds x y one two same (owned j x one).stands_ (owned n y two).stands_
      where
        second : (z : ProtectedItemTree) → slice_get items n ≡ Some z → matching.is_second_operation (take n items) z ≡ false
        second z there = (bodies.item_matched (program_of t) s all w k nm items end_name at n z there).0

        unlike : (u z : ProtectedItemTree) → slice_get items j ≡ Some u → slice_get items n ≡ Some z
            → matching.is_operation_body (matching.operation_name z) u ≡ false
        unlike u z first last =
            none_passes (matching.is_operation_body (matching.operation_name z)) (take n items) j u (second z last)
            (taken_at items n j u less first)

        by_kinds : (u z : ProtectedItemTree) → slice_get items j ≡ Some u → slice_get items n ≡ Some z
            → (matching.operation_name u).name ≡ (matching.operation_name z).name
            → stands (bodies.ended (program_of t) s all w k nm items end_name at) (bodies.unit_name u) ≡ Some (bodies.unit_entity u (owned j x one).profile)
            → stands (bodies.ended (program_of t) s all w k nm items end_name at) (bodies.unit_name z) ≡ Some (bodies.unit_entity z (owned n y two).profile)
            → ⊥
        by_kinds (OperationBody d b) (OperationBody e c) first last alike h g =
            (let none = unlike (OperationBody d b) (OperationBody e c) first last in
            let bad = sym none ∙ equal_bytes e.name.name d.name.name (sym alike) in cc)
        by_kinds (EntryBody d barrier b) (EntryBody e other c) first last alike h g =
            (let none = unlike (EntryBody d barrier b) (EntryBody e other c) first last in
            let bad = sym none ∙ equal_bytes e.name.name d.name.name (sym alike) in cc)
        by_kinds (OperationBody d b) (EntryBody e other c) first last alike h g =
            (let both = sym h ∙ ap (stands (bodies.ended (program_of t) s all w k nm items end_name at)) alike ∙ g in cc)
        by_kinds (EntryBody d barrier b) (OperationBody e c) first last alike h g =
            (let both = sym h ∙ ap (stands (bodies.ended (program_of t) s all w k nm items end_name at)) alike ∙ g in cc)

    own_differ : AreDiffering (body_texts (object_number names nm) items)
    own_differ = bodies_differ (object_number names nm) items two_names

    -- no body in front is of the same object
    apart : (q : List ℕ) → is_of (object_texts names (take k all)) q ≡ true → is_of (body_texts (object_number names nm) items) q ≡ false
    apart q h = not_false (is_of (body_texts (object_number names nm) items) q) (λ i. bad i)
      where
        bad : is_of (body_texts (object_number names nm) items) q ≡ true → ⊥
        bad i =
            let x = object_text_at names (take k all) q h in
            let y = body_text_at (object_number names nm) items q i in
            let front = within_taken all k x.0 (ProtectedBody x.1 x.2 x.3) x.4 in
            let numbers : object_number names x.1 ≡ object_number names nm = ap head_of (sym x.8 ∙ y.3) in
            let same =
            bodies.same_tree (program_of t) s all w x.1.name nm.name
            (bodies.there (program_of t) s all w x.0 x.1 x.2 x.3 front.1).object obj
            (bodies.declared_at (program_of t) s all w x.0 x.1 x.2 x.3 front.1) declared
            (sym (ap or_zero (bodies.there (program_of t) s all w x.0 x.1 x.2 x.3 front.1).numbered) ∙ numbers ∙ number_is) in
            let none = none_passes (is_object_body nm) (take k all) x.0 (ProtectedBody x.1 x.2 x.3)
            (bodies.only_body (program_of t) s all w k nm items end_name at) x.4 in
            let never = sym none ∙ equal_bytes nm.name x.1.name (sym same.0) in
            cc

    -- each is declared, or counts by itself
    counted : (j : ℕ) (i : ProtectedItemTree) → slice_get items j ≡ Some i
        → is_of (counted_texts s all) (object_number names nm ∷ (matching.operation_name i).name) ≡ true
    counted j i there =
        subst (λ n. is_of (counted_texts s all) (n ∷ (matching.operation_name i).name) ≡ true) (sym number_is) (by_item i there (owned j i there))
      where
        -- the operation of this place is declared
        by_tree : (x : ℕ) (tree : OperationTree) (name : List ℕ) → slice_get declared.tree.operations x ≡ Some tree → (operation_name tree).name ≡ name
            → is_of (counted_texts s all) (obj.number ∷ name) ≡ true
        by_tree x tree name there named =
            there_counted s all declared.place (OfItem (OfProtected declared.tree)) (obj.number ∷ name) declared.at
            (subst (λ n. is_of (operation_texts n declared.tree.operations) (obj.number ∷ name) ≡ true)
            (sym (bodies.number_of_object (program_of t) s all w nm.name obj declared))
            (declared_text obj.number declared.tree.operations x tree name there named))

        by_test : (d : SubprogramTree) (b : BodyTree) → slice_get items j ≡ Some (OperationBody d b) → (o : Option ℕ)
            → position (λ y. bytes_eq y.name d.name.name) obj.operations ≡ o → is_of (counted_texts s all) (obj.number ∷ d.name.name) ≡ true
        by_test d b at_j (Some n) e =
            let f = found_at (λ y. bytes_eq y.name d.name.name) obj.operations n (sym (place_is (λ y. bytes_eq y.name d.name.name) obj.operations) ∙ e) in
            let g =
            operation_declared (scope_at s all declared.place) declared.tree.operations obj.operations n f.0
            (bodies.operations_of (program_of t) s all w nm.name obj declared) f.1 in
            by_tree n g.tree d.name.name g.at (sym g.named ∙ same_bytes f.0.name d.name.name f.2)
        by_test d b at_j None e =
            there_counted s all k (ProtectedBody nm items end_name) (obj.number ∷ d.name.name) at
            (subst (λ x. is_of (counted_inside (protected_of x) items) (obj.number ∷ d.name.name) ≡ true)
            (sym (bodies.there (program_of t) s all w k nm items end_name at).stands_)
            (undeclared_text obj items j d b at_j (ap is_some e)))

        by_item : (x : ProtectedItemTree) → slice_get items j ≡ Some x → bodies.HasOwn (program_of t) s all w k nm items end_name at x
            → is_of (counted_texts s all) (obj.number ∷ (matching.operation_name x).name) ≡ true
        by_item (OperationBody d b) at_j has = by_test d b at_j (position (λ y. bytes_eq y.name d.name.name) obj.operations) refl
        by_item (EntryBody d barrier b) at_j has = by_tree has.entry.0 has.entry.1 d.name.name has.entry.2 has.entry.4

  -- ---- all of them

  one_more : (k : ℕ) (x : BodyItemTree) → slice_get all k ≡ Some x → AreDiffering (object_texts names (take k all))
      → AreDiffering (object_texts names (take k all) ++ object_texts names (x ∷ []))
  one_more k (ProtectedBody nm items end_name) at h =
      differing_both (object_texts names (take k all)) (body_texts (object_number names nm) items ++ []) h
      (subst AreDiffering (sym (append-nil (body_texts (object_number names nm) items))) (own_differ k nm items end_name at))
      (λ q i.
      ap (λ l. is_of l q) (append-nil (body_texts (object_number names nm) items)) ∙ apart k nm items end_name at q i)
  one_more k x at h = subst AreDiffering (sym (append-nil (object_texts names (take k all)))) h

  differing_upto : (k : ℕ) → k ≤ length all → AreDiffering (object_texts names (take k all))
  differing_upto zero up = subst (λ l. AreDiffering (object_texts names l)) (sym (none_taken all)) tt
  differing_upto (suc k) up =
      let x = slice_get_inside all k (omega (arith, up)) in
      subst AreDiffering (sym (ap (object_texts names) (taken_next all k x.0 x.1) ∙ objects_joined names (take k all) (x.0 ∷ [])))
      (one_more k x.0 x.1 (differing_upto k (omega (arith, up))))

  pub operations_few : length (object_texts names all) ≤ length (counted_texts s all)
  operations_few =
      no_more_than (object_texts names all) (counted_texts s all)
      (subst (λ l. AreDiffering (object_texts names l)) (take_all (length all) all (omega arith)) (differing_upto (length all) (omega arith)))
      (λ q h.
      let x = object_text_at names all q h in
      subst (λ z. is_of (counted_texts s all) z ≡ true) (sym x.8) (counted x.0 x.1 x.2 x.3 x.4 x.5 x.6 x.7))

  -- with the bodies of subprograms they are within the limit
  pub subprograms_within : optional_size_faults t.package_ ≡ [] → length (body_names all) + length (object_texts names all) ≤ PROCEDURES
  subprograms_within sizes =
      let one = names_few (program_of t) s all w in
      let two = operations_few in
      let both = both_few s all in
      let limit = subprograms_counted t.package_ sizes in
      under (length (body_names all)) (length (object_texts names all)) (length (counted_names s all)) (length (counted_texts s all))
      (length (places_of Sub (body_items_things s all))) one two both limit
    where
      under : (a b c d e : ℕ) → a ≤ c → b ≤ d → c + d ≤ e → e ≤ PROCEDURES → a + b ≤ PROCEDURES
      under a b c d e h i j k = omega (arith, h, i, j, k)
