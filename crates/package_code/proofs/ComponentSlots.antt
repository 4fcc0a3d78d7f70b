-- Protected objects one behind another: their rows, and where their components stand, as the text tells it.
use Rattle.std.proofs.Common.{◌≡◌, ℕ, zero, suc, ◌+◌, ◌<◌, List, [], ◌∷◌, ◌++◌, append_assoc, drop, get_or, length, length-append, map, take, Bool, true, false, ◌&&◌, Option, Some, None, refl, sym, ap, ◌∙◌, subst, arith}
use Rattle.std.specs.Prelude.{bytes_eq, if◌then◌else◌, nat_eq, option_map, nat_le, slice_get}
use Rattle.std.proofs.lemmas.List.{map-append}
use Rattle.ada_tree.specs.declared.declaration.Item.{Item}
use Rattle.ada_tree.specs.declared.declaration.ProtectedComponent.{ProtectedComponent}
use Rattle.ada_tree.specs.declared.program.BodyItem.{BodyItem}
use Rattle.ada_tree.specs.StatementTree.{ProtectedComponentTree, protected_component_tree}
use Rattle.ada_tree.specs.ProgramTree.{BodyItemTree, ItemTree, OfException, OfObject, OfProtected, OfSubprogram, OfTask, OfType, ProgramTree, body_item_tree, item_tree}
use Rattle.image.specs.declared.instruction.Region.TheVariants as regions
use Rattle.types.specs.declared.entity.Subtype.{Subtype}
use Rattle.types.specs.Places.{Object, or_else}
use Rattle.types.specs.Scopes.{Scope}
use Rattle.types.specs.Shapes.{value_words}
use Rattle.type_rules.specs.SubtypeNames.{subtype_of}
use Rattle.expr_soundness.specs.meaning.specs.Programs.{component, components_among, initial_value, items_among, objects_or_none, package_items, program_of, subtype_or_integer}
use Rattle.program_soundness.proofs.Listing.{or_else_none}
use Rattle.expr_code.specs.declared.refusal.ImageLimit.TheVariants as limits
use Rattle.expr_code.specs.declared.refusal.Refusal.{Refusal}
use Rattle.expr_code.specs.declared.refusal.Refusal.TheVariants as refusal
use Rattle.expr_code.specs.declared.visible.Slot.{Slot}
use Rattle.step_simulation.specs.part_code.proofs.Lists.{mapped_next}
use Rattle.package_code.specs.Directory.{component_told}
use Rattle.package_code.specs.Objects.{AddsObjects, RefusesComponent, RefusesComponents, RefusesObjects, component_slots, bare_object, bare_objects, object_words, slots_of, have_words, objects_have_words}
use Rattle.package_code.specs.Owners.{in_object}
use Rattle.package_code.specs.Package.{first_words_of, place_among}
use Rattle.package_code.specs.Providing.{component_tells, tells_value, tells_words}
use Rattle.package_code.specs.Refusing.{slot_in}
use Rattle.package_code.specs.declared.components.ComponentSlot.{ComponentSlot}
use Rattle.package_code.specs.declared.objects.ProtectedObjects.{ProtectedObjects}
use Rattle.package_code.proofs.Declared.{among_both}
use Rattle.package_code.proofs.GlobalsRefused.{split_at}
use Rattle.package_code.proofs.Variables.{words_more}
use Rattle.std.proofs.lemmas.Bool.{and_from, and_parts}

-- ---- components of one object

slots_more : (o from : ℕ) (xs ys : List Object) → slots_of o from (xs ++ ys) ≡ slots_of o from xs ++ slots_of o (from + length (first_words_of xs)) ys
slots_more o from [] ys = (let e : from ≡ from + 0 = omega arith in ap (λ n. slots_of o n ys) e)
slots_more o from (x ∷ xs) ys =
    let one : ComponentSlot = record { object = o; name = x.name; slot = record { region = regions.Object; offset = from } } in
    let long = length-append (value_words x.value) (first_words_of xs) in
    let e : (from + length (value_words x.value)) + length (first_words_of xs) ≡ from + length (value_words x.value ++ first_words_of xs) =
    omega (arith, long) in
    ap (λ l. one ∷ l)
    (slots_more o (from + length (value_words x.value)) xs ys
    ∙ ap (λ n. slots_of o (from + length (value_words x.value)) xs ++ slots_of o n ys) e)

-- one component more: the words in front of it, and its place
pub component_slots_next : (s : Scope) (o : ℕ) (before old new : List ComponentSlot) (words : ℕ) (all : List ProtectedComponent) (n : ℕ)
    (x : ProtectedComponent) → n < length all → x ≡ get_or all n x
    → words ≡ length (first_words_of (map (component s) (map protected_component_tree (take n all))))
    → old ≡ before ++ slots_of o 0 (map (component s) (map protected_component_tree (take n all)))
    → new ≡ old ++ slots_of o words (component s (protected_component_tree x) ∷ [])
    → new ≡ before ++ slots_of o 0 (map (component s) (map protected_component_tree (take (n + 1) all)))
component_slots_next s o before old new words all n x less is many front after =
    let xs : List Object = map (component s) (map protected_component_tree (take n all)) in
    let one : List Object = component s (protected_component_tree x) ∷ [] in
    let e : words ≡ 0 + length (first_words_of xs) = omega (arith, many) in
    after ∙ (λ j. front j ++ slots_of o (e j) one)
    ∙ append_assoc before (slots_of o 0 xs) (slots_of o (0 + length (first_words_of xs)) one)
    ∙ ap (λ l. before ++ l)
    (sym (slots_more o 0 xs one)
    ∙ ap (slots_of o 0) (sym (map-append (component s) (map protected_component_tree (take n all)) (protected_component_tree x ∷ [])))
    ∙ ap (λ l. slots_of o 0 (map (component s) l)) (sym (mapped_next protected_component_tree all n x less is)))

-- ---- objects

one_more : (n : ℕ) → n + 0 ≡ n
one_more n = omega arith

slots_both : (s : Scope) (o : ℕ) (xs ys : List ItemTree)
    → component_slots s o (xs ++ ys) ≡ component_slots s o xs ++ component_slots s (o + length (bare_objects s xs)) ys
slots_both s o [] ys = ap (λ n. component_slots s n ys) (sym (one_more o))
slots_both s o (OfProtected d ∷ xs) ys =
    let e : suc o + length (bare_objects s xs) ≡ o + suc (length (bare_objects s xs)) = omega arith in
    ap (λ l. slots_of o 0 (map (component s) d.components) ++ l) (slots_both s (suc o) xs ys
    ∙ ap (λ n. component_slots s (suc o) xs ++ component_slots s n ys) e)
    ∙ sym (append_assoc (slots_of o 0 (map (component s) d.components)) (component_slots s (suc o) xs)
    (component_slots s (o + suc (length (bare_objects s xs))) ys))
slots_both s o (OfType d ∷ xs) ys = slots_both s o xs ys
slots_both s o (OfObject d ∷ xs) ys = slots_both s o xs ys
slots_both s o (OfException name ∷ xs) ys = slots_both s o xs ys
slots_both s o (OfSubprogram d ∷ xs) ys = slots_both s o xs ys
slots_both s o (OfTask d ∷ xs) ys = slots_both s o xs ys

bare_both : (s : Scope) (xs ys : List ItemTree) → bare_objects s (xs ++ ys) ≡ bare_objects s xs ++ bare_objects s ys
bare_both s [] ys = refl
bare_both s (OfProtected d ∷ xs) ys = ap (λ l. bare_object s d ∷ l) (bare_both s xs ys)
bare_both s (OfType d ∷ xs) ys = bare_both s xs ys
bare_both s (OfObject d ∷ xs) ys = bare_both s xs ys
bare_both s (OfException name ∷ xs) ys = bare_both s xs ys
bare_both s (OfSubprogram d ∷ xs) ys = bare_both s xs ys
bare_both s (OfTask d ∷ xs) ys = bare_both s xs ys

made_both : (s : Scope) (xs ys : List ItemTree) → objects_have_words s xs ≡ true → objects_have_words s ys ≡ true → objects_have_words s (xs ++ ys) ≡ true
made_both s [] ys h k = k
made_both s (OfProtected d ∷ xs) ys h k =
    let both = and_parts (have_words (map (component s) d.components)) (objects_have_words s xs) h in
    and_from (have_words (map (component s) d.components)) (objects_have_words s (xs ++ ys)) both.0 (made_both s xs ys both.1 k)
made_both s (OfType d ∷ xs) ys h k = made_both s xs ys h k
made_both s (OfObject d ∷ xs) ys h k = made_both s xs ys h k
made_both s (OfException name ∷ xs) ys h k = made_both s xs ys h k
made_both s (OfSubprogram d ∷ xs) ys h k = made_both s xs ys h k
made_both s (OfTask d ∷ xs) ys h k = made_both s xs ys h k

pub adds_both : (s : Scope) (a b c : ProtectedObjects) (xs ys : List ItemTree) → AddsObjects s a xs b → AddsObjects s b ys c → AddsObjects s a (xs ++ ys) c
adds_both s a b c xs ys one two = record {
  declared = two.declared ∙ ap (λ l. l ++ bare_objects s ys) one.declared ∙ append_assoc a.declared.items (bare_objects s xs) (bare_objects s ys)
      ∙ ap (λ l. a.declared.items ++ l) (sym (bare_both s xs ys));
  components = two.components
      ∙ (λ j. one.components j ++ component_slots s (many j) ys)
      ∙ append_assoc a.components.items (component_slots s (length a.declared.items) xs)
      (component_slots s (length a.declared.items + length (bare_objects s xs)) ys)
      ∙ ap (λ l. a.components.items ++ l) (sym (slots_both s (length a.declared.items) xs ys));
  made = made_both s xs ys one.made two.made;
}
  where
    many : length b.declared.items ≡ length a.declared.items + length (bare_objects s xs)
    many = ap length one.declared ∙ length-append a.declared.items (bare_objects s xs)

-- one declaration more
pub objects_next : (s : Scope) (a b c : ProtectedObjects) (all : List Item) (n : ℕ) (x : Item) → n < length all → x ≡ get_or all n x
    → AddsObjects s a (map item_tree (take n all)) b → AddsObjects s b (item_tree x ∷ []) c → AddsObjects s a (map item_tree (take (n + 1) all)) c
objects_next s a b c all n x less is one two =
    subst (λ l. AddsObjects s a l c) (sym (mapped_next item_tree all n x less is)) (adds_both s a b c (map item_tree (take n all)) (item_tree x ∷ []) one two)

pub body_objects_next : (s : Scope) (a b c : ProtectedObjects) (all : List BodyItem) (n : ℕ) (x : BodyItem) → n < length all → x ≡ get_or all n x
    → AddsObjects s a (items_among (map body_item_tree (take n all))) b → AddsObjects s b (items_among (body_item_tree x ∷ [])) c
    → AddsObjects s a (items_among (map body_item_tree (take (n + 1) all))) c
body_objects_next s a b c all n x less is one two =
    subst (λ l. AddsObjects s a l c)
    (sym (ap items_among (mapped_next body_item_tree all n x less is) ∙ among_both (map body_item_tree (take n all)) (body_item_tree x ∷ [])))
    (adds_both s a b c (items_among (map body_item_tree (take n all))) (items_among (body_item_tree x ∷ [])) one two)

-- one component more, with words of its own
have_both : (xs ys : List Object) → have_words xs ≡ true → have_words ys ≡ true → have_words (xs ++ ys) ≡ true
have_both [] ys h k = k
have_both (x ∷ xs) ys h k =
    let both = and_parts (nat_le 1 (length (value_words x.value))) (have_words xs) h in
    and_from (nat_le 1 (length (value_words x.value))) (have_words (xs ++ ys)) both.0 (have_both xs ys both.1 k)

-- a component has words where its text tells them
pub words_told : (s : Scope) (part : ProtectedComponentTree) → component_tells s part ≡ true → have_words (component s part ∷ []) ≡ true
words_told s part h = by_subtype (subtype_of s part.subtype) refl h
  where
    by_subtype : (o : Option Subtype) → subtype_of s part.subtype ≡ o → tells_words s o part.value ≡ true → have_words (component s part ∷ []) ≡ true
    by_subtype (Some t) named told =
        and_from (nat_le 1 (length (value_words (component s part).value))) true
        (ap (λ o. nat_le 1 (length (value_words (initial_value s (subtype_or_integer o) part.value)))) named
        ∙ (and_parts (tells_value s t part.value) (nat_le 1 (length (value_words (initial_value s t part.value)))) told).1) refl
    by_subtype None named told = absurd cc

pub component_made_next : (s : Scope) (all : List ProtectedComponent) (n : ℕ) (x : ProtectedComponent) → n < length all → x ≡ get_or all n x
    → have_words (map (component s) (map protected_component_tree (take n all))) ≡ true
    → have_words (component s (protected_component_tree x) ∷ []) ≡ true
    → have_words (map (component s) (map protected_component_tree (take (n + 1) all))) ≡ true
component_made_next s all n x less is before this =
    subst (λ l. have_words (map (component s) l) ≡ true) (sym (mapped_next protected_component_tree all n x less is))
    (subst (λ l. have_words l ≡ true) (sym (map-append (component s) (map protected_component_tree (take n all)) (protected_component_tree x ∷ [])))
    (have_both (map (component s) (map protected_component_tree (take n all))) (component s (protected_component_tree x) ∷ []) before this))

-- ---- refusals: what one has, all have

words_both : (s : Scope) (xs ys : List ItemTree) → object_words s (xs ++ ys) ≡ object_words s xs + object_words s ys
words_both s [] ys = omega arith
words_both s (OfProtected d ∷ xs) ys = (let e = words_both s xs ys in omega (arith, e))
words_both s (OfType d ∷ xs) ys = words_both s xs ys
words_both s (OfObject d ∷ xs) ys = words_both s xs ys
words_both s (OfException name ∷ xs) ys = words_both s xs ys
words_both s (OfSubprogram d ∷ xs) ys = words_both s xs ys
words_both s (OfTask d ∷ xs) ys = words_both s xs ys

pub refused_first : (s : Scope) (xs ys : List ItemTree) (why : Refusal) → RefusesObjects s xs why → RefusesObjects s (xs ++ ys) why
refused_first s xs ys refusal.Memory r = tt
refused_first s xs ys (refusal.Limit limits.Words) r = (let e = words_both s xs ys in omega (arith, e, r))
refused_first s xs ys why r = absurd r

pub refused_second : (s : Scope) (xs ys : List ItemTree) (why : Refusal) → RefusesObjects s ys why → RefusesObjects s (xs ++ ys) why
refused_second s xs ys refusal.Memory r = tt
refused_second s xs ys (refusal.Limit limits.Words) r = (let e = words_both s xs ys in omega (arith, e, r))
refused_second s xs ys why r = absurd r

pub object_refused_among : (s : Scope) (all : List Item) (n : ℕ) (x : Item) (why : Refusal) → n < length all → x ≡ get_or all n x
    → RefusesObjects s (item_tree x ∷ []) why → RefusesObjects s (map item_tree all) why
object_refused_among s all n x why less is r =
    let front : List ItemTree = map item_tree (take n all) in
    let one : List ItemTree = item_tree x ∷ [] in
    let behind : List ItemTree = map item_tree (drop (n + 1) all) in
    subst (λ l. RefusesObjects s l why) (split_at item_tree all n x less is)
    (refused_first s (front ++ one) behind why (refused_second s front one why r))

pub body_object_refused : (s : Scope) (all : List BodyItem) (n : ℕ) (x : BodyItem) (why : Refusal) → n < length all → x ≡ get_or all n x
    → RefusesObjects s (items_among (body_item_tree x ∷ [])) why → RefusesObjects s (items_among (map body_item_tree all)) why
body_object_refused s all n x why less is r =
    let front : List BodyItemTree = map body_item_tree (take n all) in
    let one : List BodyItemTree = body_item_tree x ∷ [] in
    let behind : List BodyItemTree = map body_item_tree (drop (n + 1) all) in
    subst (λ l. RefusesObjects s (items_among l) why) (split_at body_item_tree all n x less is)
    (subst (λ l. RefusesObjects s l why) (sym (among_both (front ++ one) behind ∙ ap (λ l. l ++ items_among behind) (among_both front one)))
    (refused_first s (items_among front ++ items_among one) (items_among behind) why (refused_second s (items_among front) (items_among one) why r)))

-- of one object
pub part_refused : (s : Scope) (all : List ProtectedComponent) (n : ℕ) (x : ProtectedComponent) (words : ℕ) (why : Refusal) → n < length all
    → x ≡ get_or all n x
    → words ≡ length (first_words_of (map (component s) (map protected_component_tree (take n all))))
    → RefusesComponent words why → RefusesComponents s (map protected_component_tree all) why
part_refused s all n x words why less is many r =
    subst (λ l. RefusesComponents s l why) (split_at protected_component_tree all n x less is) (by_reason why r)
  where
    front : List ProtectedComponentTree
    front = map protected_component_tree (take n all)

    one : List ProtectedComponentTree
    one = protected_component_tree x ∷ []

    behind : List ProtectedComponentTree
    behind = map protected_component_tree (drop (n + 1) all)

    by_reason : (r : Refusal) → RefusesComponent words r → RefusesComponents s ((front ++ one) ++ behind) r
    by_reason refusal.Memory h = tt
    by_reason (refusal.Limit limits.Words) h =
        (let a = ap (λ l. length (first_words_of l)) (map-append (component s) (front ++ one) behind
        ∙ ap (λ l. l ++ map (component s) behind) (map-append (component s) front one)) in
        let b = ap length (words_more (map (component s) front ++ map (component s) one) (map (component s) behind))
        ∙ length-append (first_words_of (map (component s) front ++ map (component s) one)) (first_words_of (map (component s) behind)) in
        let c = ap length (words_more (map (component s) front) (map (component s) one))
        ∙ length-append (first_words_of (map (component s) front)) (first_words_of (map (component s) one)) in
        omega (arith, a, b, c, many, h))
    by_reason r h = absurd h

-- ---- what is told

same_number : (n : ℕ) → nat_eq n n ≡ true
same_number n = grind arith

less_number : (n m : ℕ) → n < m → nat_eq m n ≡ false
less_number n m less = grind (arith, less)

further_number : (n k : ℕ) → nat_eq n (n + suc k) ≡ false
further_number n k = grind arith

-- of the components of this object
told_own : (o from : ℕ) (xs : List Object) (rest : List ComponentSlot) (name : List ℕ)
    → component_told (slots_of o from xs ++ rest) o name ≡ or_else (option_map in_object (place_among from xs name)) (component_told rest o name)
told_own o from [] rest name = refl
told_own o from (x ∷ xs) rest name =
    ap (λ b. if b && bytes_eq x.name name then Some slot else component_told (slots_of o (from + length (value_words x.value)) xs ++ rest) o name)
    (same_number o)
    ∙ by_test (bytes_eq x.name name) (told_own o (from + length (value_words x.value)) xs rest name)
  where
    slot : Slot
    slot = record { region = regions.Object; offset = from }

    by_test : (b : Bool)
        → component_told (slots_of o (from + length (value_words x.value)) xs ++ rest) o name
        ≡ or_else (option_map in_object (place_among (from + length (value_words x.value)) xs name)) (component_told rest o name)
        → (if b then Some slot else component_told (slots_of o (from + length (value_words x.value)) xs ++ rest) o name)
        ≡ or_else
        (option_map in_object
        (if b then Some (record { region = regions.Plain; offset = from }) else place_among (from + length (value_words x.value)) xs name))
        (component_told rest o name)
    by_test true later = refl
    by_test false later = later

-- of another object nothing
told_other : (o from : ℕ) (xs : List Object) (rest : List ComponentSlot) (object : ℕ) (name : List ℕ) → nat_eq o object ≡ false
    → component_told (slots_of o from xs ++ rest) object name ≡ component_told rest object name
told_other o from [] rest object name other = refl
told_other o from (x ∷ xs) rest object name other =
    ap (λ b. if b && bytes_eq x.name name then Some (record { region = regions.Object; offset = from })
    else component_told (slots_of o (from + length (value_words x.value)) xs ++ rest) object name) other
    ∙ told_other o (from + length (value_words x.value)) xs rest object name other

-- of objects in front of the first nothing
told_before : (s : Scope) (first : ℕ) (items : List ItemTree) (object : ℕ) (name : List ℕ) → object < first
    → component_told (component_slots s first items) object name ≡ None
told_before s first [] object name less = refl
told_before s first (OfProtected d ∷ rest) object name less =
    told_other first 0 (map (component s) d.components) (component_slots s (suc first) rest) object name (less_number object first less)
    ∙ told_before s (suc first) rest object name (omega (arith, less))
told_before s first (OfType d ∷ rest) object name less = told_before s first rest object name less
told_before s first (OfObject d ∷ rest) object name less = told_before s first rest object name less
told_before s first (OfException e ∷ rest) object name less = told_before s first rest object name less
told_before s first (OfSubprogram d ∷ rest) object name less = told_before s first rest object name less
told_before s first (OfTask d ∷ rest) object name less = told_before s first rest object name less

abbrev place_in : List (List Object) → (k : ℕ) → (name : List ℕ) → Option Slot
place_in objects k name = option_map in_object (place_among 0 (objects_or_none (slice_get objects k)) name)

slots_told_from : (s : Scope) (first : ℕ) (items : List ItemTree) (k : ℕ) (name : List ℕ)
    → component_told (component_slots s first items) (first + k) name ≡ place_in (components_among s items) k name
slots_told_from s first [] zero name = refl
slots_told_from s first [] (suc k) name = refl
slots_told_from s first (OfProtected d ∷ rest) zero name =
    ap (λ n. component_told (component_slots s first (OfProtected d ∷ rest)) n name) (one_more first)
    ∙ told_own first 0 (map (component s) d.components) (component_slots s (suc first) rest) name
    ∙ ap (or_else (option_map in_object (place_among 0 (map (component s) d.components) name)))
    (told_before s (suc first) rest first name (omega arith))
    ∙ or_else_none (option_map in_object (place_among 0 (map (component s) d.components) name))
slots_told_from s first (OfProtected d ∷ rest) (suc k) name =
    let e : first + suc k ≡ suc first + k = omega arith in
    told_other first 0 (map (component s) d.components) (component_slots s (suc first) rest) (first + suc k) name (further_number first k)
    ∙ ap (λ n. component_told (component_slots s (suc first) rest) n name) e ∙ slots_told_from s (suc first) rest k name
slots_told_from s first (OfType d ∷ rest) k name = slots_told_from s first rest k name
slots_told_from s first (OfObject d ∷ rest) k name = slots_told_from s first rest k name
slots_told_from s first (OfException e ∷ rest) k name = slots_told_from s first rest k name
slots_told_from s first (OfSubprogram d ∷ rest) k name = slots_told_from s first rest k name
slots_told_from s first (OfTask d ∷ rest) k name = slots_told_from s first rest k name

-- components stand where the program's do
pub components_told : (t : ProgramTree) (o : ℕ) (name : List ℕ)
    → component_told (component_slots (program_of t).scope 0 (package_items t.package_)) o name ≡ slot_in t (Some o) name
components_told t o name =
    let e : o ≡ 0 + o = omega arith in
    ap (λ n. component_told (component_slots (program_of t).scope 0 (package_items t.package_)) n name) e
    ∙ slots_told_from (program_of t).scope 0 (package_items t.package_) o name
