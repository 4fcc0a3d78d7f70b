-- A legal program has no more exceptions than an image, and no more subprograms than their limit: its declarations are counted so, and each body has one, or is
-- one.
use Rattle.std.proofs.Common.{◌≡◌, ℕ, zero, suc, ◌+◌, ◌≤◌, List, [], ◌∷◌, ◌++◌, append-nil, append_assoc, drop, length, length-append, map, take, ◌⊎◌, inl, inr, Bool, true, false, ◌||◌, Option, Some, None, refl, sym, ap, ◌∙◌, subst, arith, take_all}
use Rattle.std.specs.List.{list_any}
use Rattle.std.specs.Prelude.{bytes_eq, slice_get}
use Rattle.std.proofs.lemmas.Bool.{or_parts}
use Rattle.std.proofs.lemmas.List.{take-append-drop}
use Rattle.base.specs.Names.{predefined}
use Rattle.base.specs.declared.limits.TheConstants.{EXCEPTIONS, PROCEDURES}
use Rattle.ada_tree.specs.declared.expression.Identifier.{Identifier}
use Rattle.ada_tree.specs.StatementTree.{SubprogramTree}
use Rattle.ada_tree.specs.ProgramTree.{BodyItemTree, BodyTree, ItemTree, OfException, OfItem, OfSubprogram, PackageTree, SubprogramBody}
use Rattle.image.specs.RuleLaws.{slice_get_inside}
use Rattle.types.specs.Entities.{Doubtful, Entity, Profile, Subprogram}
use Rattle.types.specs.Scopes.{Scope, is_visible, standard}
use Rattle.meaning.specs.expr_rules.proofs.TypedLaw.{back_empty, front_empty, unbroken}
use Rattle.declaration_rules.specs.ItemRules.{item_scope, items_scope}
use Rattle.meaning.specs.type_rules.specs.SubtypeNames.{named_entity}
use Rattle.program_soundness.specs.unit_rules.specs.BodyRules.{body_name_faults, body_name_rule, function_body_faults, is_subprogram}
use Rattle.declaration_rules.specs.PackageNames.{body_item_scope, inside_scope, specified_scope}
use Rattle.program_soundness.specs.size_rules.specs.declared.thing.Kind.TheVariants as kind
use Rattle.program_soundness.specs.size_rules.specs.Limits.{Things, place_of_kind, places_of, words_faults}
use Rattle.program_soundness.specs.size_rules.specs.PackageSizes.{body_item_things, body_items_things, frame_faults, item_things, items_things, package_inside, package_things}
use Rattle.program_soundness.specs.size_rules.specs.ProgramSizes.{declared_faults, exception_faults, label_faults, optional_size_faults, protected_object_faults, subprogram_faults, task_faults}
use Rattle.meaning.specs.Programs.{Program, exceptions_among, items_among, package_items}
use Rattle.program_soundness.specs.Fronts.{declared_in, scope_at, start_in}
use Rattle.program_soundness.proofs.Called.{head_legal}
use Rattle.program_soundness.proofs.Listing.{none_passes, same_some, taken_next}
use Rattle.program_soundness.proofs.OneList.{is_subprogram_body, matched_at}
use Rattle.program_soundness.proofs.Walked.{Origin, declared_one, declares, body_item_kind, origin}
use Rattle.program_soundness.proofs.Walked as walked
use Rattle.program_soundness.proofs.WiderScopes.{equal_bytes, same_bytes, seen_some, some_seen, stands}
use Rattle.program_soundness.proofs.Whole.{IsPackage, kept, known_kind, no_doubt, subprogram_is, subprogram_item}
use Rattle.package_code.proofs.Differing.{AreAmong, AreDiffering, differing_more, is_of, no_more_than}
use Rattle.source_laws.proofs.LabelsFit.{within_limit}
use Rattle.package_code.proofs.ItemsTold.{none_taken}
use Rattle.package_code.proofs.Variables.{exceptions_both}

-- ---- how many things of a kind there are

places_both : (k : _) (xs ys : Things) → places_of k (xs ++ ys) ≡ places_of k xs ++ places_of k ys
places_both k [] ys = refl
places_both k (x ∷ xs) ys = ap (λ l. place_of_kind k x ++ l) (places_both k xs ys) ∙ sym (append_assoc (place_of_kind k x) (places_of k xs) (places_of k ys))

pub many_both : (k : _) (xs ys : Things) → length (places_of k (xs ++ ys)) ≡ length (places_of k xs) + length (places_of k ys)
many_both k xs ys = ap length (places_both k xs ys) ∙ length-append (places_of k xs) (places_of k ys)

-- one more, or no fewer
pub one_more_than : (a b m n : ℕ) → a ≤ b → n ≡ m + b → m ≡ 1 → suc a ≤ n
one_more_than a b m n h e one = omega (arith, h, e, one)

pub no_fewer_than : (a b m n : ℕ) → a ≤ b → n ≡ m + b → a ≤ n
no_fewer_than a b m n h e = omega (arith, h, e)

-- ---- exceptions

exceptions_items : (k : _) → ((s : Scope) (name : Identifier) → places_of k (item_things s (OfException name)) ≡ name.place ∷ [])
    → (s : Scope) (ds : List ItemTree)
    → length (exceptions_among ds) ≤ length (places_of k (items_things s ds))
exceptions_items k own s [] = omega arith
exceptions_items k own s (OfException name ∷ ds) =
    one_more_than (length (exceptions_among ds)) (length (places_of k (items_things (item_scope s (OfException name)) ds)))
    (length (places_of k (item_things s (OfException name)))) (length (places_of k (items_things s (OfException name ∷ ds))))
    (exceptions_items k own (item_scope s (OfException name)) ds)
    (many_both k (item_things s (OfException name)) (items_things (item_scope s (OfException name)) ds)) (ap length (own s name))
exceptions_items k own s (d ∷ ds) =
    no_fewer_than (length (exceptions_among ds)) (length (places_of k (items_things (item_scope s d) ds))) (length (places_of k (item_things s d)))
    (length (places_of k (items_things s (d ∷ ds)))) (exceptions_items k own (item_scope s d) ds)
    (many_both k (item_things s d) (items_things (item_scope s d) ds))

exceptions_bodies : (k : _) → ((s : Scope) (name : Identifier) → places_of k (item_things s (OfException name)) ≡ name.place ∷ []) → (s : Scope)
    (items : List BodyItemTree) → length (exceptions_among (items_among items)) ≤ length (places_of k (body_items_things s items))
exceptions_bodies k own s [] = omega arith
exceptions_bodies k own s (OfItem (OfException name) ∷ rest) =
    let next = body_item_scope s (OfItem (OfException name)) in
    one_more_than (length (exceptions_among (items_among rest))) (length (places_of k (body_items_things next rest)))
    (length (places_of k (item_things s (OfException name)))) (length (places_of k (body_items_things s (OfItem (OfException name) ∷ rest))))
    (exceptions_bodies k own next rest) (many_both k (item_things s (OfException name)) (body_items_things next rest)) (ap length (own s name))
exceptions_bodies k own s (x ∷ rest) =
    no_fewer_than (length (exceptions_among (items_among rest))) (length (places_of k (body_items_things (body_item_scope s x) rest)))
    (length (places_of k (body_item_things s x))) (length (places_of k (body_items_things s (x ∷ rest))))
    (exceptions_bodies k own (body_item_scope s x) rest)
    (many_both k (body_item_things s x) (body_items_things (body_item_scope s x) rest))

pub declared_none : (p : PackageTree) → optional_size_faults (Some p) ≡ [] → declared_faults (package_things p) ≡ []
declared_none p h = back_empty (frame_faults p) (declared_faults (package_things p)) (front_empty _ (label_faults (package_inside p)) h)

exceptions_by : (k : _) (p : PackageTree) → length (places_of k (package_things p)) ≤ 32
    → ((s : Scope) (name : Identifier) → places_of k (item_things s (OfException name)) ≡ name.place ∷ [])
    → length (predefined ++ exceptions_among (package_items (Some p))) ≤ EXCEPTIONS
exceptions_by k p few own =
    let front = items_things (inside_scope standard p) p.declaration.items in
    let behind = body_items_things (specified_scope standard p) p.body.items in
    let both = ap length (exceptions_both p.declaration.items (items_among p.body.items))
    ∙ length-append (exceptions_among p.declaration.items) (exceptions_among (items_among p.body.items)) in
    let one = exceptions_items k own (inside_scope standard p) p.declaration.items in
    let two = exceptions_bodies k own (specified_scope standard p) p.body.items in
    let all = many_both k front behind in
    under (length (exceptions_among (package_items (Some p)))) (length (exceptions_among p.declaration.items))
    (length (exceptions_among (items_among p.body.items)))
    (length (places_of k front)) (length (places_of k behind)) (length (places_of k (package_things p)))
    (length (predefined ++ exceptions_among (package_items (Some p)))) both one two all few
    (length-append predefined (exceptions_among (package_items (Some p))))
  where
    under : (n a b c d m k : ℕ) → n ≡ a + b → a ≤ c → b ≤ d → m ≡ c + d → m ≤ 32 → k ≡ 4 + n → k ≤ EXCEPTIONS
    under n a b c d m k e h i f up g = omega (arith, e, h, i, f, up, g)

pub exceptions_few : (o : Option PackageTree) → optional_size_faults o ≡ [] → length (predefined ++ exceptions_among (package_items o)) ≤ EXCEPTIONS
exceptions_few None h = omega arith
exceptions_few (Some p) h =
    let ts = package_things p in
    let three = subprogram_faults ts ++ task_faults ts ++ protected_object_faults ts in
    let none : exception_faults ts ≡ [] = back_empty three (exception_faults ts)
    (front_empty (three ++ exception_faults ts) (words_faults _ ts) (declared_none p h)) in
    exceptions_by kind.Exception p (within_limit 32 (places_of kind.Exception ts) none) (λ s name. refl)

-- ---- subprograms, by their names

abbrev pub body_names : List BodyItemTree → List (List ℕ)
body_names [] = []
body_names (SubprogramBody d b ∷ rest) = d.name.name ∷ body_names rest
body_names (x ∷ rest) = body_names rest

-- those that are counted
abbrev pub counted_body : Bool → List ℕ → List (List ℕ)
counted_body true name = []
counted_body false name = name ∷ []

abbrev pub counted_names : Scope → List BodyItemTree → List (List ℕ)
counted_names s [] = []
counted_names s (OfItem (OfSubprogram d) ∷ rest) = d.name.name ∷ counted_names (body_item_scope s (OfItem (OfSubprogram d))) rest
counted_names s (SubprogramBody d b ∷ rest) = counted_body (is_visible s d.name.name) d.name.name ++ counted_names (body_item_scope s (SubprogramBody d b)) rest
counted_names s (x ∷ rest) = counted_names (body_item_scope s x) rest

-- the declarations of the specification are counted with those of the body
things_joined : (k : _) (s : Scope) (ds : List ItemTree) (body : List BodyItemTree) → length (places_of k (body_items_things s (map OfItem ds ++ body)))
    ≡ length (places_of k (items_things s ds)) + length (places_of k (body_items_things (items_scope s ds) body))
things_joined k s [] body = omega arith
things_joined k s (d ∷ ds) body =
    let next = item_scope s d in
    sums (length (places_of k (body_items_things s (map OfItem (d ∷ ds) ++ body)))) (length (places_of k (item_things s d)))
    (length (places_of k (body_items_things next (map OfItem ds ++ body)))) (length (places_of k (items_things next ds)))
    (length (places_of k (body_items_things (items_scope next ds) body))) (length (places_of k (items_things s (d ∷ ds))))
    (many_both k (item_things s d) (body_items_things next (map OfItem ds ++ body))) (things_joined k next ds body)
    (many_both k (item_things s d) (items_things next ds))
  where
    sums : (all own more rest last front : ℕ) → all ≡ own + more → more ≡ rest + last → front ≡ own + rest → all ≡ front + last
    sums all own more rest last front a b c = omega (arith, a, b, c)

front_counted : (s : Scope) (xs ys : List BodyItemTree) → AreAmong (counted_names s xs) (counted_names s (xs ++ ys))
front_counted s [] ys q h = absurd (let never : false ≡ true = h in cc)
front_counted s (OfItem (OfSubprogram d) ∷ xs) ys q h = by_test (bytes_eq q d.name.name) h (front_counted (body_item_scope s (OfItem (OfSubprogram d))) xs ys q)
  where
    next : Scope
    next = body_item_scope s (OfItem (OfSubprogram d))

    by_test : (b : Bool) → (b || is_of (counted_names next xs) q) ≡ true
        → (is_of (counted_names next xs) q ≡ true → is_of (counted_names next (xs ++ ys)) q ≡ true)
        → (b || is_of (counted_names next (xs ++ ys)) q) ≡ true
    by_test true k later = refl
    by_test false k later = later k
front_counted s (SubprogramBody d b ∷ xs) ys q h = by_visible (is_visible s d.name.name) h (front_counted (body_item_scope s (SubprogramBody d b)) xs ys q)
  where
    next : Scope
    next = body_item_scope s (SubprogramBody d b)

    by_test : (c : Bool) → (c || is_of (counted_names next xs) q) ≡ true
        → (is_of (counted_names next xs) q ≡ true → is_of (counted_names next (xs ++ ys)) q ≡ true)
        → (c || is_of (counted_names next (xs ++ ys)) q) ≡ true
    by_test true k later = refl
    by_test false k later = later k

    by_visible : (v : Bool) → is_of (counted_body v d.name.name ++ counted_names next xs) q ≡ true
        → (is_of (counted_names next xs) q ≡ true → is_of (counted_names next (xs ++ ys)) q ≡ true)
        → is_of (counted_body v d.name.name ++ counted_names next (xs ++ ys)) q ≡ true
    by_visible true k later = later k
    by_visible false k later = by_test (bytes_eq q d.name.name) k later
front_counted s (x ∷ xs) ys q h = front_counted (body_item_scope s x) xs ys q h

own_counted : (b : Bool) (rest : List (List ℕ)) (q name : List ℕ) → bytes_eq q name ≡ true → is_of (name ∷ rest) q ≡ true
own_counted b rest q name e = ap (λ c. c || is_of rest q) e

-- what is counted behind an item
behind_test : (b c : Bool) → c ≡ true → (b || c) ≡ true
behind_test true c e = refl
behind_test false c e = e

counted_behind : (u : Scope) (y : BodyItemTree) (rest : List BodyItemTree) (q : List ℕ) → is_of (counted_names (body_item_scope u y) rest) q ≡ true
    → is_of (counted_names u (y ∷ rest)) q ≡ true
counted_behind u (OfItem (OfSubprogram e)) rest q k =
    behind_test (bytes_eq q e.name.name) (is_of (counted_names (body_item_scope u (OfItem (OfSubprogram e))) rest) q) k
counted_behind u (SubprogramBody e b) rest q k = by_visible (is_visible u e.name.name)
  where
    by_visible : (v : Bool) → is_of (counted_body v e.name.name ++ counted_names (body_item_scope u (SubprogramBody e b)) rest) q ≡ true
    by_visible true = k
    by_visible false = behind_test (bytes_eq q e.name.name) (is_of (counted_names (body_item_scope u (SubprogramBody e b)) rest) q) k
counted_behind u y rest q k = k

-- a declaration at its place
declaration_counted : (s : Scope) (items : List BodyItemTree) (k : ℕ) (d : SubprogramTree) → slice_get items k ≡ Some (OfItem (OfSubprogram d))
    → is_of (counted_names s items) d.name.name ≡ true
declaration_counted s [] k d h = cc
declaration_counted s (x ∷ items) zero d h =
    subst (λ y. is_of (counted_names s (y ∷ items)) d.name.name ≡ true) (sym (same_some x (OfItem (OfSubprogram d)) h))
    (own_counted true (counted_names (body_item_scope s (OfItem (OfSubprogram d))) items) d.name.name d.name.name (equal_bytes d.name.name d.name.name refl))
declaration_counted s (x ∷ items) (suc k) d h =
    counted_behind s x items d.name.name (declaration_counted (body_item_scope s x) items k d h)

-- a body whose name isn't visible in front of it
body_counted : (s : Scope) (items : List BodyItemTree) (k : ℕ) (d : SubprogramTree) (b : BodyTree) → slice_get items k ≡ Some (SubprogramBody d b)
    → is_visible (scope_at s items k) d.name.name ≡ false → is_of (counted_names s items) d.name.name ≡ true
body_counted s [] k d b h hidden = cc
body_counted s (x ∷ items) zero d b h hidden =
    subst (λ y. is_of (counted_names s (y ∷ items)) d.name.name ≡ true) (sym (same_some x (SubprogramBody d b) h))
    (ap (λ v. is_of (counted_body v d.name.name ++ counted_names (body_item_scope s (SubprogramBody d b)) items) d.name.name) hidden
    ∙ own_counted true (counted_names (body_item_scope s (SubprogramBody d b)) items) d.name.name d.name.name (equal_bytes d.name.name d.name.name refl))
body_counted s (x ∷ items) (suc k) d b h hidden =
    counted_behind s x items d.name.name (body_counted (body_item_scope s x) items k d b h hidden)

-- ---- bodies of an accepted program

never : true ≡ false → ⊥
never h = cc

names_joined : (xs ys : List BodyItemTree) → body_names (xs ++ ys) ≡ body_names xs ++ body_names ys
names_joined [] ys = refl
names_joined (SubprogramBody d b ∷ xs) ys = ap (λ l. d.name.name ∷ l) (names_joined xs ys)
names_joined (x ∷ xs) ys = names_joined xs ys

no_body : (name : Identifier) (items : List BodyItemTree) → list_any (is_subprogram_body name) items ≡ false → is_of (body_names items) name.name ≡ false
no_body name [] h = refl
no_body name (SubprogramBody d b ∷ rest) h =
    let parts = or_parts (is_subprogram_body name (SubprogramBody d b)) (list_any (is_subprogram_body name) rest) h in
    ap (λ c. c || is_of (body_names rest) name.name) parts.0 ∙ no_body name rest parts.1
no_body name (x ∷ rest) h = no_body name rest h

module _ (program : Program) (s : Scope) (all : List BodyItemTree) (w : IsPackage program s all) where
  alone : (k : ℕ) (d : SubprogramTree) (b : BodyTree) → slice_get all k ≡ Some (SubprogramBody d b) → list_any (is_subprogram_body d.name) (take k all) ≡ false
  alone k d b at = (or_parts (list_any (is_subprogram_body d.name) (take k all)) _
      (unbroken _ d.name.place _ (matched_at s all w.list k (SubprogramBody d b) at))).0

  one_more : (k : ℕ) (x : BodyItemTree) → slice_get all k ≡ Some x → AreDiffering (body_names (take k all))
      → AreDiffering (body_names (take k all) ++ body_names (x ∷ []))
  one_more k (SubprogramBody d b) at h = differing_more (body_names (take k all)) d.name.name h (no_body d.name (take k all) (alone k d b at))
  one_more k x at h = subst AreDiffering (sym (append-nil (body_names (take k all)))) h

  differing_upto : (k : ℕ) → k ≤ length all → AreDiffering (body_names (take k all))
  differing_upto zero up = subst (λ l. AreDiffering (body_names l)) (sym (none_taken all)) tt
  differing_upto (suc k) up =
      let x = slice_get_inside all k (omega (arith, up)) in
      subst AreDiffering (sym (ap body_names (taken_next all k x.0 x.1) ∙ names_joined (take k all) (x.0 ∷ [])))
      (one_more k x.0 x.1 (differing_upto k (omega (arith, up))))

  differing : AreDiffering (body_names all)
  differing = subst (λ l. AreDiffering (body_names l)) (take_all (length all) all (omega arith)) (differing_upto (length all) (omega arith))

  module _ (k : ℕ) (d : SubprogramTree) (b : BodyTree) (at : slice_get all k ≡ Some (SubprogramBody d b)) where
    abbrev here : Scope
    here = scope_at s all k

    abbrev Counted_ : Type 0
    Counted_ = is_of (counted_names s all) d.name.name ≡ true

    name_legal : body_name_faults here d.name ≡ []
    name_legal = back_empty _ (body_name_faults here d.name) (front_empty _ (function_body_faults d b) (head_legal program s all w k d b at))

    declared_in_front : (p : Profile) → (o : Origin s (take k all) d.name.name (Subprogram p)) → Counted_
    declared_in_front p o =
        by_item (subprogram_item o.item (known_kind (body_item_kind o.item) (Subprogram p) (declared_one _ o.item _ o.declared) (λ i. cc)))
      where
        by_item : ((e : SubprogramTree) × (o.item ≡ OfItem (OfSubprogram e))) ⊎ ((e : SubprogramTree) × (c : BodyTree) × (o.item ≡ SubprogramBody e c))
            → Counted_
        by_item (inr i) =
            let declared = ap (declares (scope_at s (take k all) o.place)) (sym i.2) ∙ o.declared in
            let named : i.0.name.name ≡ d.name.name =
            ap (λ x. x.name)
            (same_some (record { name = i.0.name.name; entity = walked.item_entity (scope_at s (take k all) o.place) (OfSubprogram i.0) })
            (record { name = d.name.name; entity = Subprogram p }) declared) in
            let none = none_passes (is_subprogram_body d.name) (take k all) o.place (SubprogramBody i.0 i.1) (alone k d b at) (o.at ∙ ap Some i.2) in
            absurd (let bad = sym none ∙ equal_bytes d.name.name i.0.name.name (sym named) in cc)
        by_item (inl i) =
            let declared = ap (declares (scope_at s (take k all) o.place)) (sym i.1) ∙ o.declared in
            let named : i.0.name.name ≡ d.name.name =
            ap (λ x. x.name)
            (same_some (record { name = i.0.name.name; entity = walked.item_entity (scope_at s (take k all) o.place) (OfSubprogram i.0) })
            (record { name = d.name.name; entity = Subprogram p }) declared) in
            let there = declaration_counted s (take k all) o.place i.0 (o.at ∙ ap Some i.1) in
            subst (λ l. is_of (counted_names s l) d.name.name ≡ true) (take-append-drop k all)
            (front_counted s (take k all) (drop k all) d.name.name (subst (λ q. is_of (counted_names s (take k all)) q ≡ true) named there))

    by_origin : (p : Profile) → (stands s d.name.name ≡ Some (Subprogram p)) ⊎ Origin s (take k all) d.name.name (Subprogram p) → Counted_
    by_origin p (inl j) = let first = (w.started d.name.name (Subprogram p) j).first in cc
    by_origin p (inr o) = declared_in_front p o

    by_kind : (e : Entity) → stands here d.name.name ≡ Some e → ((p : Profile) × (e ≡ Subprogram p)) ⊎ (e ≡ Doubtful) → Counted_
    by_kind e i (inl x) = by_origin x.0 (origin s (take k all) d.name.name (Subprogram x.0) (i ∙ ap Some x.1))
    by_kind e i (inr x) = absurd (no_doubt program s all w d.name.name (kept program s all w k d.name.name Doubtful (i ∙ ap Some x)))

    by_subprogram : (e : Entity) → stands here d.name.name ≡ Some e → (t : Bool) → is_subprogram (Some e) ≡ t → Counted_
    by_subprogram e i true x = by_kind e i (subprogram_is e x)
    by_subprogram e i false x =
        let faults : elim (is_subprogram (named_entity here d.name)) [ true ↦ [] | false ↦ body_name_rule here d.name ] ≡ [] = name_legal in
        let here_ : body_name_rule here d.name ≡ [] =
        subst (λ t. elim t [ true ↦ [] | false ↦ body_name_rule here d.name ] ≡ []) (ap is_subprogram i ∙ x) faults in
        absurd (never (sym (some_seen here d.name.name e i) ∙ unbroken _ d.name.place (is_visible here d.name.name) here_))

    by_visible : (v : Bool) → is_visible here d.name.name ≡ v → Counted_
    by_visible true e = let x = seen_some here d.name.name e in by_subprogram x.0 x.1 (is_subprogram (Some x.0)) refl
    by_visible false e = body_counted s all k d b at e

    counted_there : Counted_
    counted_there = by_visible (is_visible here d.name.name) refl

  -- a name of a body is that of a body at some place
  named_at : (items : List BodyItemTree) (q : List ℕ) → is_of (body_names items) q ≡ true
      → (k : ℕ) × (d : SubprogramTree) × (b : BodyTree) × (slice_get items k ≡ Some (SubprogramBody d b)) × (q ≡ d.name.name)
  named_at [] q h = cc
  named_at (SubprogramBody d b ∷ rest) q h = by_test (bytes_eq q d.name.name) refl h (named_at rest q)
    where
      by_test : (c : Bool) → bytes_eq q d.name.name ≡ c → (c || is_of (body_names rest) q) ≡ true
          → (is_of (body_names rest) q ≡ true
          → (k : ℕ) × (e : SubprogramTree) × (a : BodyTree) × (slice_get rest k ≡ Some (SubprogramBody e a)) × (q ≡ e.name.name))
          → (k : ℕ) × (e : SubprogramTree) × (a : BodyTree) × (slice_get (SubprogramBody d b ∷ rest) k ≡ Some (SubprogramBody e a)) × (q ≡ e.name.name)
      by_test true e k later = (0, d, b, refl, same_bytes q d.name.name e)
      by_test false e k later = let n = later k in (suc n.0, n.1, n.2, n.3, n.4)
  named_at (x ∷ rest) q h = let n = named_at rest q h in (suc n.0, n.1, n.2, n.3, n.4)

  pub names_few : length (body_names all) ≤ length (counted_names s all)
  names_few =
      no_more_than (body_names all) (counted_names s all) differing
      (λ q h.
      let n = named_at all q h in
      subst (λ z. is_of (counted_names s all) z ≡ true) (sym n.4) (counted_there n.0 n.1 n.2 n.3))

-- what is counted of one kind in the whole package is within the limit of its kind
pub within_kind : (k : _) (p : PackageTree) (limit n : ℕ) → length (places_of k (package_things p)) ≤ limit
    → n ≤ length (places_of k (body_items_things (start_in (Some p)) (declared_in (Some p)))) → n ≤ limit
within_kind k p limit n few up =
    let front = items_things (inside_scope standard p) p.declaration.items in
    let behind = body_items_things (specified_scope standard p) p.body.items in
    under n (length (places_of k (body_items_things (start_in (Some p)) (declared_in (Some p))))) (length (places_of k front)) (length (places_of k behind))
    (length (places_of k (package_things p))) up (things_joined k (inside_scope standard p) p.declaration.items p.body.items)
    (many_both k front behind) few
  where
    under : (n a b c d : ℕ) → n ≤ a → a ≡ b + c → d ≡ b + c → d ≤ limit → n ≤ limit
    under n a b c d h e f up_to = omega (arith, h, e, f, up_to)

-- the subprograms that are counted are within their limit
pub subprograms_counted : (o : Option PackageTree) → optional_size_faults o ≡ []
    → length (places_of kind.Subprogram (body_items_things (start_in o) (declared_in o))) ≤ PROCEDURES
subprograms_counted None h = omega arith
subprograms_counted (Some p) h =
    let ts = package_things p in
    let none : subprogram_faults ts ≡ [] =
    front_empty (subprogram_faults ts) (task_faults ts) (front_empty (subprogram_faults ts ++ task_faults ts) (protected_object_faults ts)
    (front_empty (subprogram_faults ts ++ task_faults ts ++ protected_object_faults ts) (exception_faults ts)
    (front_empty (subprogram_faults ts ++ task_faults ts ++ protected_object_faults ts ++ exception_faults ts) (words_faults _ ts)
    (declared_none p h)))) in
    within_kind kind.Subprogram p PROCEDURES (length (places_of kind.Subprogram (body_items_things (start_in (Some p)) (declared_in (Some p)))))
    (within_limit PROCEDURES (places_of kind.Subprogram ts) none) (omega arith)
