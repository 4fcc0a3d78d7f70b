-- Which number is told of the name of a body: how many bodies stand in front of it, since no two bodies of an accepted program have one name.
use Rattle.std.proofs.Common.{◌≡◌, ℕ, zero, suc, ◌+◌, ◌<◌, List, [], ◌∷◌, ◌++◌, append_assoc, drop, get_or, length, map, take, Bool, true, false, ◌&&◌, Option, Some, None, refl, sym, ap, ◌∙◌, subst, arith}
use Rattle.std.specs.Prelude.{bytes_eq, if◌then◌else◌, nat_eq, slice_get, slice_set}
use Rattle.std.proofs.lemmas.Option.{slice_get_within}
use Rattle.ada_tree.specs.declared.program.BodyItem.{BodyItem}
use Rattle.ada_tree.specs.ProgramTree.{BodyItemTree, EntryBody, OfItem, OperationBody, ProgramTree, ProtectedBody, ProtectedItemTree, SubprogramBody, TaskBody, body_item_tree}
use Rattle.types.specs.Places.{is_of, or_else}
use Rattle.types.specs.Scopes.{Scope, number_of}
use Rattle.expr_soundness.specs.meaning.specs.Programs.{program_of}
use Rattle.program_soundness.specs.Fronts.{declared_in, start_in}
use Rattle.expr_soundness.specs.Laws.{ScopesAreSound}
use Rattle.program_soundness.specs.BodyLaws.{NamesAreKnown, PremisesHold}
use Rattle.program_soundness.proofs.Callables.{at_map, map_at}
use Rattle.program_soundness.proofs.Listing.{or_else_none, same_some}
use Rattle.program_soundness.proofs.Trees.{tree_package}
use Rattle.program_soundness.proofs.Whole.{IsPackage}
use Rattle.program_soundness.proofs.WiderScopes.{bytes_same, same_bytes}
use Rattle.expr_soundness.proofs.Positions.{found_at, number_place}
use Rattle.expr_code.specs.Seeing.{told_of}
use Rattle.expr_code.specs.declared.refusal.ImageLimit.TheVariants as limits
use Rattle.expr_code.specs.declared.refusal.Refusal.{Refusal}
use Rattle.expr_code.specs.declared.refusal.Refusal.TheVariants as refusal
use Rattle.step_simulation.specs.part_code.proofs.Lists.{mapped_next}
use Rattle.package_code.specs.Bodies.{BodyName, Coded, bodies_among, bodies_before, bodies_of, names_among, names_in, number_from, number_in, object_number, operation_names}
use Rattle.package_code.specs.Directory.{HaveBodyNumbers, HasManyBodies, HasNoNumbers, entries_among, entries_of, numbered_item, numbered_once, numbered_with, operation_told}
use Rattle.package_code.specs.Laws.{BodiesAreNumbered}
use Rattle.package_code.specs.declared.operations.OperationNumber.{OperationNumber}
use Rattle.package_code.proofs.Coded.{IsBodyOf, among_joined, body_at, body_of, name_of, names_are, names_many}
use Rattle.package_code.proofs.GlobalsRefused.{split_at}
use Rattle.package_code.proofs.OperationsAdded.{in_object, one_operation}
use Rattle.package_code.proofs.TaskNames.{name_numbered, one_place}
use Rattle.package_code.proofs.Variables.{long_set, set_other, set_told, was_none}

-- ---- tables of numbers

there_is : {X : Type 0} (xs : List X) (n : ℕ) → n < length xs → slice_get xs n ≡ None → ⊥
there_is [] n less h = absurd (omega (arith, less))
there_is (x ∷ xs) zero less h = cc
there_is (x ∷ xs) (suc n) less h = there_is xs n (omega (arith, less)) h

either_none : (o : Option ℕ) (b : Bool) (one : ℕ) → b ≡ false → o ≡ or_else o (if b then Some one else None)
either_none o b one e = sym (ap (λ c. or_else o (if c then Some one else None)) e ∙ or_else_none o)

module _ (s : Scope) (numbers : List (Option ℕ)) (many : length numbers ≡ length s) (name other : List ℕ) (one n : ℕ) (seen : number_of s other ≡ Some n) where
  abbrev Told : List (Option ℕ) → Type 0
  Told new = told_of s new other ≡ or_else (told_of s numbers other) (if bytes_eq name other then Some one else None)

  by_other : (new : List (Option ℕ)) → bytes_eq name other ≡ false → told_of s new other ≡ told_of s numbers other → Told new
  by_other new differ same = same ∙ either_none (told_of s numbers other) (bytes_eq name other) one differ

  unseen_differ : number_of s name ≡ None → (b : Bool) → bytes_eq name other ≡ b → b ≡ false
  unseen_differ none false e = refl
  unseen_differ none true e = absurd (let bad = sym none ∙ ap (number_of s) (same_bytes name other e) ∙ seen in cc)

  same_told : bytes_eq name other ≡ true → (o : Option ℕ) → told_of s numbers name ≡ o
      → or_else o (Some one) ≡ or_else (told_of s numbers other) (if bytes_eq name other then Some one else None)
  same_told is o e =
      let same = same_bytes name other is in
      (λ j. or_else (sym e j) (Some one)) ∙ ap (λ l. or_else (told_of s numbers l) (Some one)) same
      ∙ ap (λ b. or_else (told_of s numbers other) (if b then Some one else None)) (sym is)

  by_entry : (k : ℕ) → number_of s name ≡ Some k → (p : Option (Option ℕ)) → slice_get numbers k ≡ p → Told (numbered_once numbers k one p)
  by_entry k e None there =
      absurd (let x = found_at (λ m. bytes_eq name m.name) s k (sym (number_place s name) ∙ e) in
      let within = slice_get_within s k x.0 x.1 in there_is numbers k (omega (arith, within, many)) there)
  by_entry k e (Some None) there = by_test (bytes_eq name other) refl
    where
      by_test : (b : Bool) → bytes_eq name other ≡ b → Told (slice_set numbers k (Some one))
      by_test true is =
          ap (told_of s (slice_set numbers k (Some one))) (sym (same_bytes name other is)) ∙ set_told s numbers name k (Some one) None e there
          ∙ same_told is None (was_none s numbers name k e there)
      by_test false is = by_other (slice_set numbers k (Some one)) is (set_other s numbers name other k (Some one) e is)
  by_entry k e (Some (Some y)) there = by_test (bytes_eq name other) refl
    where
      told : told_of s numbers name ≡ Some y
      told =
          ap (λ o. elim o [ None ↦ None | Some m ↦ elim (slice_get numbers m) [ None ↦ None | Some x ↦ x ] ]) e
          ∙ ap (λ o. elim o [ None ↦ None | Some x ↦ x ]) there

      by_test : (b : Bool) → bytes_eq name other ≡ b → Told (slice_set numbers k (Some y))
      by_test true is =
          ap (told_of s (slice_set numbers k (Some y))) (sym (same_bytes name other is)) ∙ set_told s numbers name k (Some y) (Some y) e there
          ∙ same_told is (Some y) told
      by_test false is = by_other (slice_set numbers k (Some y)) is (set_other s numbers name other k (Some y) e is)

  pub numbers_told : Told (numbered_with numbers (number_of s name) one)
  numbers_told = by_number (number_of s name) refl
    where
      by_number : (o : Option ℕ) → number_of s name ≡ o → Told (numbered_with numbers o one)
      by_number None e = by_other numbers (unseen_differ e (bytes_eq name other) refl) refl
      by_number (Some k) e = by_entry k e (slice_get numbers k) refl

-- ---- of bodies one behind another

number_joined : (before : ℕ) (xs ys : List BodyName) (owner : Option ℕ) (name : List ℕ)
    → number_from before (xs ++ ys) owner name ≡ or_else (number_from before xs owner name) (number_from (before + length xs) ys owner name)
number_joined before [] ys owner name = (let e : before ≡ before + 0 = omega arith in ap (λ n. number_from n ys owner name) e)
number_joined before (x ∷ xs) ys owner name = by_test (is_of x.owner owner && bytes_eq x.name name) (number_joined (suc before) xs ys owner name)
  where
    by_test : (c : Bool)
        → number_from (suc before) (xs ++ ys) owner name
        ≡ or_else (number_from (suc before) xs owner name) (number_from (suc before + length xs) ys owner name)
        → (if c then Some before else number_from (suc before) (xs ++ ys) owner name)
        ≡ or_else (if c then Some before else number_from (suc before) xs owner name) (number_from (before + suc (length xs)) ys owner name)
    by_test true later = refl
    by_test false later =
        (let e : suc before + length xs ≡ before + suc (length xs) = omega arith in
        later ∙ ap (λ n. or_else (number_from (suc before) xs owner name) (number_from n ys owner name)) e)

pub names_joined : (s : Scope) (xs ys : List BodyItemTree) → names_among s (xs ++ ys) ≡ names_among s xs ++ names_among s ys
names_joined s [] ys = refl
names_joined s (x ∷ xs) ys = ap (λ l. names_in s x ++ l) (names_joined s xs ys) ∙ sym (append_assoc (names_in s x) (names_among s xs) (names_among s ys))

-- items with one more
numbered_both : (s : Scope) (items : List BodyItemTree) (x : BodyItemTree) (owner : Option ℕ) (name : List ℕ)
    → number_from 0 (names_among s (items ++ x ∷ [])) owner name
    ≡ or_else (number_from 0 (names_among s items) owner name) (number_from (bodies_among items) (names_among s (x ∷ [])) owner name)
numbered_both s items x owner name =
    let e : 0 + length (names_among s items) ≡ bodies_among items = (let many = names_many s items in omega (arith, many)) in
    ap (λ l. number_from 0 l owner name) (names_joined s items (x ∷ []))
    ∙ number_joined 0 (names_among s items) (names_among s (x ∷ [])) owner name
    ∙ ap (λ n. or_else (number_from 0 (names_among s items) owner name) (number_from n (names_among s (x ∷ [])) owner name)) e

-- operations of an object are no bodies of the package
none_inside : (n o : ℕ) (items : List ProtectedItemTree) (name : List ℕ) → number_from n (operation_names o items ++ []) None name ≡ None
none_inside n o [] name = refl
none_inside n o (OperationBody d b ∷ items) name = none_inside (suc n) o items name
none_inside n o (EntryBody d barrier b ∷ items) name = none_inside (suc n) o items name

long_once : (numbers : List (Option ℕ)) (k one : ℕ) (p : Option (Option ℕ)) → length (numbered_once numbers k one p) ≡ length numbers
long_once numbers k one (Some None) = long_set numbers k (Some one)
long_once numbers k one (Some (Some y)) = long_set numbers k (Some y)
long_once numbers k one None = refl

long_with : (numbers : List (Option ℕ)) (o : Option ℕ) (one : ℕ) → length (numbered_with numbers o one) ≡ length numbers
long_with numbers None one = refl
long_with numbers (Some k) one = long_once numbers k one (slice_get numbers k)

pub one_numbered : (s : Scope) (items : List BodyItemTree) (x : BodyItemTree) (old new : List (Option ℕ)) (one : ℕ) → one ≡ bodies_among items
    → HaveBodyNumbers s items old → new ≡ numbered_item s old one x → HaveBodyNumbers s (items ++ x ∷ []) new
one_numbered s items x old new one counted h is = by_item x is
  where
    kept : (y : BodyItemTree) → ((name : List ℕ) → number_from (bodies_among items) (names_among s (y ∷ [])) None name ≡ None) → new ≡ old
        → HaveBodyNumbers s (items ++ y ∷ []) new
    kept y none same = record {
      many = ap length same ∙ h.many;
      told = λ name k seen.
          ap (λ l. told_of s l name) same ∙ h.told name k seen ∙ sym (or_else_none (number_from 0 (names_among s items) None name))
          ∙ sym (numbered_both s items y None name ∙ ap (or_else (number_from 0 (names_among s items) None name)) (none name));
    }

    -- a body of this name
    named : (y : BodyItemTree) (own : List ℕ) → new ≡ numbered_with old (number_of s own) one
        → ((n : ℕ) (name : List ℕ) → number_from n (names_among s (y ∷ [])) None name ≡ (if bytes_eq own name then Some n else None))
        → HaveBodyNumbers s (items ++ y ∷ []) new
    named y own same among = record {
      many = ap length same ∙ long_with old (number_of s own) one ∙ h.many;
      told = λ name k seen.
          ap (λ l. told_of s l name) same ∙ numbers_told s old h.many own name one k seen
          ∙ ap (λ o. or_else o (if bytes_eq own name then Some one else None)) (h.told name k seen)
          ∙ ap (λ n. or_else (number_from 0 (names_among s items) None name) (if bytes_eq own name then Some n else None)) counted
          ∙ ap (or_else (number_from 0 (names_among s items) None name)) (sym (among (bodies_among items) name))
          ∙ sym (numbered_both s items y None name);
    }

    by_item : (y : BodyItemTree) → new ≡ numbered_item s old one y → HaveBodyNumbers s (items ++ y ∷ []) new
    by_item (SubprogramBody d b) same = named (SubprogramBody d b) d.name.name same (λ n name. refl)
    by_item (TaskBody own b) same = named (TaskBody own b) own.name same (λ n name. refl)
    by_item (OfItem d) same = kept (OfItem d) (λ name. refl) same
    by_item (ProtectedBody own is end_name) same =
        kept (ProtectedBody own is end_name) (λ name. none_inside (bodies_among items) (object_number s own) is name) same

-- one item of them more
pub items_numbered : (s : Scope) (all : List BodyItem) (n : ℕ) (x : BodyItem) (old new : List (Option ℕ)) (next later : ℕ) → n < length all → x ≡ get_or all n x
    → HaveBodyNumbers s (map body_item_tree (take n all)) old → next ≡ bodies_among (map body_item_tree (take n all))
    → new ≡ numbered_item s old next (body_item_tree x) → later ≡ next + bodies_among (body_item_tree x ∷ [])
    → HaveBodyNumbers s (map body_item_tree (take (n + 1) all)) new × (later ≡ bodies_among (map body_item_tree (take (n + 1) all)))
items_numbered s all n x old new next later less is h counted more goes =
    let front : List BodyItemTree = map body_item_tree (take n all) in
    let same = sym (mapped_next body_item_tree all n x less is) in
    let joined = among_joined front (body_item_tree x ∷ []) in (
      subst (λ l. HaveBodyNumbers s l new) same (one_numbered s front (body_item_tree x) old new next counted h more),
      subst (λ l. later ≡ bodies_among l) same (omega (arith, goes, counted, joined)),
    )

-- there are more than numbers
pub items_refused : (all : List BodyItem) (n : ℕ) (x : BodyItem) (next : ℕ) (why : Refusal) → n < length all → x ≡ get_or all n x
    → next ≡ bodies_among (map body_item_tree (take n all)) → HasNoNumbers (next + bodies_among (body_item_tree x ∷ [])) why
    → HasManyBodies (map body_item_tree all) why
items_refused all n x next refusal.Memory less is counted r = tt
items_refused all n x next (refusal.Limit limits.Subprograms) less is counted r =
    let front : List BodyItemTree = map body_item_tree (take n all) in
    let one : List BodyItemTree = body_item_tree x ∷ [] in
    let behind : List BodyItemTree = map body_item_tree (drop (n + 1) all) in
    let a = among_joined (front ++ one) behind in
    let b = among_joined front one in
    let c = ap bodies_among (split_at body_item_tree all n x less is) in
    omega (arith, r, counted, a, b, c)
items_refused all n x next why less is counted r = absurd r

-- ---- those of operations

entries_told : (n o : ℕ) (items : List ProtectedItemTree) (rest : List OperationNumber) (names : List BodyName) (object : ℕ) (name : List ℕ)
    → operation_told rest object name ≡ number_from (n + length items) names (Some object) name
    → operation_told (entries_of o n items ++ rest) object name ≡ number_from n (operation_names o items ++ names) (Some object) name
entries_told n o [] rest names object name later =
    (let e : n + 0 ≡ n = omega arith in later ∙ ap (λ m. number_from m names (Some object) name) e)
entries_told n o (OperationBody d b ∷ items) rest names object name later =
    let e : n + suc (length items) ≡ suc n + length items = omega arith in
    ap (λ v. if nat_eq o object && bytes_eq d.name.name name then Some n else v)
    (entries_told (suc n) o items rest names object name (later ∙ ap (λ m. number_from m names (Some object) name) e))
entries_told n o (EntryBody d barrier b ∷ items) rest names object name later =
    let e : n + suc (length items) ≡ suc n + length items = omega arith in
    ap (λ v. if nat_eq o object && bytes_eq d.name.name name then Some n else v)
    (entries_told (suc n) o items rest names object name (later ∙ ap (λ m. number_from m names (Some object) name) e))

-- the entries tell the number of each operation
pub operations_numbered : (s : Scope) (first : ℕ) (items : List BodyItemTree) (object : ℕ) (name : List ℕ)
    → operation_told (entries_among s first items) object name ≡ number_from first (names_among s items) (Some object) name
operations_numbered s first [] object name = refl
operations_numbered s first (OfItem d ∷ rest) object name =
    (let e : first + 0 ≡ first = omega arith in
    ap (λ n. operation_told (entries_among s n rest) object name) e ∙ operations_numbered s first rest object name)
operations_numbered s first (SubprogramBody d b ∷ rest) object name =
    (let e : first + 1 ≡ suc first = omega arith in
    ap (λ n. operation_told (entries_among s n rest) object name) e ∙ operations_numbered s (suc first) rest object name)
operations_numbered s first (TaskBody own b ∷ rest) object name =
    (let e : first + 1 ≡ suc first = omega arith in
    ap (λ n. operation_told (entries_among s n rest) object name) e ∙ operations_numbered s (suc first) rest object name)
operations_numbered s first (ProtectedBody own items end_name ∷ rest) object name =
    let e : first + (length items + 0) ≡ first + length items = omega arith in
    entries_told first (object_number s own) items (entries_among s (first + (length items + 0)) rest) (names_among s rest) object name
    (ap (λ n. operation_told (entries_among s n rest) object name) e ∙ operations_numbered s (first + length items) rest object name)

-- ---- bodies of an accepted program

-- the first of these with this name has its place as its number
first_numbered : (before : ℕ) (xs : List BodyName) (n : ℕ) (x : BodyName) (owner : Option ℕ) (name : List ℕ) → slice_get xs n ≡ Some x
    → (is_of x.owner owner && bytes_eq x.name name) ≡ true
    → ((m : ℕ) (y : BodyName) → m < n → slice_get xs m ≡ Some y → (is_of y.owner owner && bytes_eq y.name name) ≡ false)
    → number_from before xs owner name ≡ Some (before + n)
first_numbered before [] n x owner name at is first = cc
first_numbered before (z ∷ xs) zero x owner name at is first =
    let e : before ≡ before + 0 = omega arith in
    ap (λ y. if is_of y.owner owner && bytes_eq y.name name then Some before else number_from (suc before) xs owner name) (same_some z x at)
    ∙ ap (λ b. if b then Some before else number_from (suc before) xs owner name) is ∙ ap Some e
first_numbered before (z ∷ xs) (suc n) x owner name at is first =
    let e : suc before + n ≡ before + suc n = omega arith in
    ap (λ b. if b then Some before else number_from (suc before) xs owner name) (first 0 z (omega arith) refl)
    ∙ first_numbered (suc before) xs n x owner name at is (λ m y less there. first (suc m) y (omega (arith, less)) there)
    ∙ ap Some e

own_owner : (o : Option ℕ) → is_of o o ≡ true
own_owner None = refl
own_owner (Some n) = grind arith

pub same_owner : (a b : Option ℕ) → is_of a b ≡ true → a ≡ b
same_owner None None h = refl
same_owner (Some m) (Some n) h = ap Some (grind (arith, h))
same_owner None (Some n) h = cc
same_owner (Some m) None h = cc

pub bodies_numbered : ScopesAreSound → NamesAreKnown → PremisesHold → BodiesAreNumbered
bodies_numbered scopes known premises t legal restricted place x k c at is = (
  ap (λ l. number_from 0 l c.owner c.head.name.name) (names_are t 0 all)
      ∙ first_numbered 0 (map name_of (bodies_of t)) number (name_of c) c.owner c.head.name.name
      (at_map name_of (bodies_of t) number c (body_at t place k x c at is)) own unlike
      ∙ (let e : 0 + number ≡ number = omega arith in ap Some e),
  λ outside. name_numbered (program_of t) (start_in t.package_) all w place x t place k c at is outside,
)
  where
    all : List BodyItemTree
    all = declared_in t.package_

    w : IsPackage (program_of t) (start_in t.package_) all
    w = tree_package t legal restricted (premises t legal).sound

    number : ℕ
    number = bodies_before t place + k

    own : (is_of c.owner c.owner && bytes_eq c.head.name.name c.head.name.name) ≡ true
    own = (λ j. own_owner c.owner j && bytes_same c.head.name.name j)

    -- the body with this owner and name is this one
    alike : (m : ℕ) (e : Coded) (f : IsBodyOf t m e) → e.owner ≡ c.owner → e.head.name.name ≡ c.head.name.name → (o : Option ℕ) → c.owner ≡ o
        → (f.place ≡ place) × (f.k ≡ k)
    alike m e f owners same None outside =
        one_place (program_of t) (start_in t.package_) all w t f.place f.k f.item e place k x c f.at f.is (owners ∙ outside) at is outside same
    alike m e f owners same (Some o) owned =
        one_operation scopes known premises t legal restricted f.place f.k e place k c
        (in_object scopes known premises t legal restricted f.place f.item f.k e o f.is f.at (owners ∙ owned))
        (in_object scopes known premises t legal restricted place x k c o is at owned) owners same

    -- a body in front with the same owner has another name
    differs : (m : ℕ) (e : Coded) → m < number → slice_get (bodies_of t) m ≡ Some e → e.owner ≡ c.owner
        → bytes_eq e.head.name.name c.head.name.name ≡ false
    differs m e less there owners = by_test (bytes_eq e.head.name.name c.head.name.name) refl
      where
        by_test : (b : Bool) → bytes_eq e.head.name.name c.head.name.name ≡ b → b ≡ false
        by_test false same = refl
        by_test true same =
            absurd (
            let f = body_of t m e there in
            let places = alike m e f owners (same_bytes e.head.name.name c.head.name.name same) c.owner refl in
            let counted = f.before in
            let front = ap (λ n. bodies_among (take n all)) places.0 in
            let inside = places.1 in
            omega (arith, less, counted, front, inside)
            )

    unlike : (m : ℕ) (y : BodyName) → m < number → slice_get (map name_of (bodies_of t)) m ≡ Some y
        → (is_of y.owner c.owner && bytes_eq y.name c.head.name.name) ≡ false
    unlike m y less there =
        let e = map_at name_of (bodies_of t) m y there in
        ap (λ z. is_of z.owner c.owner && bytes_eq z.name c.head.name.name) (sym e.2) ∙ by_owner e.0 e.1 (is_of e.0.owner c.owner) refl
      where
        by_owner : (e : Coded) → slice_get (bodies_of t) m ≡ Some e → (b : Bool) → is_of e.owner c.owner ≡ b
            → (is_of e.owner c.owner && bytes_eq e.head.name.name c.head.name.name) ≡ false
        by_owner e at_m false other = ap (λ z. z && bytes_eq e.head.name.name c.head.name.name) other
        by_owner e at_m true same =
            ap (λ z. z && bytes_eq e.head.name.name c.head.name.name) same ∙ differs m e less at_m (same_owner e.owner c.owner same)

-- what has a number is a body of that owner and name
pub record IsNumberedBody (t : ProgramTree) (owner : Option ℕ) (name : List ℕ) (number : ℕ) : Type 0 where
  pub code : Coded
  pub is : slice_get (bodies_of t) number ≡ Some code
  pub owned : code.owner ≡ owner
  pub named : code.head.name.name ≡ name

found_named : (before : ℕ) (xs : List BodyName) (owner : Option ℕ) (name : List ℕ) (number : ℕ) → number_from before xs owner name ≡ Some number
    → (k : ℕ) × (x : BodyName) × (slice_get xs k ≡ Some x) × (x.owner ≡ owner) × (x.name ≡ name) × (number ≡ before + k)
found_named before [] owner name number h = cc
found_named before (x ∷ xs) owner name number h =
    by_tests (is_of x.owner owner) (bytes_eq x.name name) refl refl h (λ e. found_named (suc before) xs owner name number e)
  where
    by_tests : (a b : Bool) → is_of x.owner owner ≡ a → bytes_eq x.name name ≡ b
        → (if a && b then Some before else number_from (suc before) xs owner name) ≡ Some number
        → (number_from (suc before) xs owner name ≡ Some number
        → (k : ℕ) × (y : BodyName) × (slice_get xs k ≡ Some y) × (y.owner ≡ owner) × (y.name ≡ name) × (number ≡ suc before + k))
        → (k : ℕ) × (y : BodyName) × (slice_get (x ∷ xs) k ≡ Some y) × (y.owner ≡ owner) × (y.name ≡ name) × (number ≡ before + k)
    by_tests true true owned named e later =
        (0, x, refl, same_owner x.owner owner owned, same_bytes x.name name named, (let s = same_some before number e in omega (arith, s)))
    by_tests true false owned named e later =
        (let r = later e in (suc r.0, r.1, r.2, r.3, r.4, (let n = r.5 in omega (arith, n))))
    by_tests false b owned named e later =
        (let r = later e in (suc r.0, r.1, r.2, r.3, r.4, (let n = r.5 in omega (arith, n))))

pub number_of_body : (t : ProgramTree) (owner : Option ℕ) (name : List ℕ) (number : ℕ) → number_in t owner name ≡ Some number
    → IsNumberedBody t owner name number
number_of_body t owner name number h =
    let r =
    found_named 0 (map name_of (bodies_of t)) owner name number (ap (λ l. number_from 0 l owner name) (sym (names_are t 0 (declared_in t.package_))) ∙ h) in
    let e = map_at name_of (bodies_of t) r.0 r.1 r.2 in
    let n = r.5 in
    let same : number ≡ r.0 = omega (arith, n) in
    record { code = e.0; is = ap (slice_get (bodies_of t)) same ∙ e.1; owned = ap (λ x. x.owner) e.2 ∙ r.3; named = ap (λ x. x.name) e.2 ∙ r.4 }
