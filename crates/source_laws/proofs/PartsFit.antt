-- A legal program has no more protected objects than an image, and no more words of variables and components.
use Rattle.std.proofs.Common.{◌≡◌, ℕ, zero, suc, ◌+◌, ◌≤◌, List, [], ◌∷◌, ◌++◌, append_assoc, length, map, take, cond, Some, Option, None, refl, sym, ap, ◌∙◌, subst, arith, take_all}
use Rattle.std.specs.Prelude.{slice_get}
use Rattle.std.proofs.lemmas.List.{length-map}
use Rattle.base.specs.declared.limits.TheConstants.{OBJECTS, WORDS}
use Rattle.ada_tree.specs.StatementTree.{ProtectedComponentTree, ProtectedTree}
use Rattle.ada_tree.specs.ProgramTree.{BodyItemTree, OfItem, OfProtected, PackageTree, ProgramTree}
use Rattle.types.specs.declared.entity.RecordComponent.{RecordComponent}
use Rattle.types.specs.declared.entity.Subtype.{Subtype}
use Rattle.types.specs.Entities.{Entity, Operation, Protected, ProtectedObject}
use Rattle.types.specs.Laws.{ValuesHaveWords}
use Rattle.types.specs.Layouts.{total, words_of}
use Rattle.types.specs.Places.{Object}
use Rattle.types.specs.Scopes.{Scope}
use Rattle.declaration_rules.specs.ProtectedRules.{object_components, object_with, protected_entity}
use Rattle.declaration_rules.specs.PackageNames.{body_item_scope}
use Rattle.meaning.specs.expr_rules.proofs.TypedLaw.{back_empty, front_empty}
use Rattle.meaning.specs.type_rules.specs.SubtypeNames.{subtype_of}
use Rattle.meaning.specs.Programs.{Program, component, components_among, items_among, objects_or_none, package_items, program_of}
use Rattle.legality.specs.ProgramLayouts.{WordsHaveRoom, components_words, object_words, objects_words, total_of_all, variables_words}
use Rattle.legality.specs.ProgramRules.{IsLegal}
use Rattle.ravenscar.specs.ProgramRules.{IsRestricted}
use Rattle.program_soundness.specs.size_rules.specs.declared.thing.Kind.TheVariants as kind
use Rattle.program_soundness.specs.size_rules.specs.Limits.{places_of, words_faults}
use Rattle.program_soundness.specs.size_rules.specs.PackageSizes.{body_item_things, body_items_things, components_things, item_things, operations_things, package_things}
use Rattle.program_soundness.specs.size_rules.specs.ProgramSizes.{exception_faults, optional_size_faults, protected_object_faults, size_faults, subprogram_faults, task_faults}
use Rattle.program_soundness.specs.step_soundness.specs.Objects.{AreSoundObjects}
use Rattle.program_soundness.specs.Fronts.{declared_in, front, start_in}
use Rattle.program_soundness.proofs.BodyProfiles.{named_is, subtype_kept}
use Rattle.program_soundness.proofs.Listing.{same_some, taken_next}
use Rattle.program_soundness.proofs.ObjectTrees.{first_part}
use Rattle.program_soundness.proofs.Walked.{item_new, legal_at, scope_next}
use Rattle.program_soundness.proofs.Whole.{IsPackage, kept}
use Rattle.package_code.specs.Objects.{bare_object, bare_objects}
use Rattle.package_code.specs.Package.{first_words_of}
use Rattle.package_code.specs.Refusing.{program_words}
use Rattle.package_code.proofs.Declared.{among_both}
use Rattle.package_code.proofs.InFront.{LawsOfNames, last_is, memory, whole}
use Rattle.package_code.proofs.ObjectNumbers.{bare_of, components_of, many_of, many_rows, object_there, trees_among, trees_both}
use Rattle.package_code.proofs.Placed.{items_are}
use Rattle.package_code.proofs.Seen.{one_behind}
use Rattle.source_laws.proofs.CountsFit.{declared_none, many_both, no_fewer_than, within_kind}
use Rattle.source_laws.proofs.LabelsFit.{within_limit}
use Rattle.source_laws.proofs.WordsFit.{first_words_wide, none_taken, some_at, subtypes_words, variables_within}

-- ---- how many objects are declared

trees_few : (s : Scope) (items : List BodyItemTree)
    → length (trees_among (items_among items)) ≤ length (places_of kind.ProtectedObject (body_items_things s items))
trees_few s [] = omega arith
trees_few s (OfItem (OfProtected d) ∷ rest) =
    let next = body_item_scope s (OfItem (OfProtected d)) in
    let later = trees_few next rest in
    let all = many_both kind.ProtectedObject (item_things s (OfProtected d)) (body_items_things next rest) in
    let parts = length (places_of kind.ProtectedObject (operations_things d.operations ++ components_things s d.components)) in
    let one : length (places_of kind.ProtectedObject (item_things s (OfProtected d))) ≡ suc parts = refl in
    together (length (trees_among (items_among rest))) (length (places_of kind.ProtectedObject (body_items_things next rest)))
    (length (places_of kind.ProtectedObject (item_things s (OfProtected d)))) parts
    (length (places_of kind.ProtectedObject (body_items_things s (OfItem (OfProtected d) ∷ rest)))) later one all
  where
    together : (a b c p n : ℕ) → a ≤ b → c ≡ suc p → n ≡ c + b → suc a ≤ n
    together a b c p n h e f = omega (arith, h, e, f)
trees_few s (x ∷ rest) =
    no_fewer_than (length (trees_among (items_among rest))) (length (places_of kind.ProtectedObject (body_items_things (body_item_scope s x) rest)))
    (length (places_of kind.ProtectedObject (body_item_things s x))) (length (places_of kind.ProtectedObject (body_items_things s (x ∷ rest))))
    (trees_few (body_item_scope s x) rest)
    (many_both kind.ProtectedObject (body_item_things s x) (body_items_things (body_item_scope s x) rest))

trees_within : (o : Option PackageTree) → optional_size_faults o ≡ [] → length (trees_among (items_among (declared_in o))) ≤ OBJECTS
trees_within None h = omega arith
trees_within (Some p) h =
    let ts = package_things p in
    let none : protected_object_faults ts ≡ [] =
    back_empty (subprogram_faults ts ++ task_faults ts) (protected_object_faults ts)
    (front_empty (subprogram_faults ts ++ task_faults ts ++ protected_object_faults ts) (exception_faults ts)
    (front_empty (subprogram_faults ts ++ task_faults ts ++ protected_object_faults ts ++ exception_faults ts) (words_faults _ ts)
    (declared_none p h))) in
    within_kind kind.ProtectedObject p OBJECTS (length (trees_among (items_among (declared_in (Some p)))))
    (within_limit OBJECTS (places_of kind.ProtectedObject ts) none)
    (trees_few (start_in (Some p)) (declared_in (Some p)))

-- ---- words of components

-- those of these declared objects, and of each list of objects
abbrev trees_words : Scope → List ProtectedTree → ℕ
trees_words s [] = 0
trees_words s (d ∷ ds) = subtypes_words s (map (component s) d.components) + trees_words s ds

trees_words_both : (s : Scope) (ds es : List ProtectedTree) → trees_words s (ds ++ es) ≡ trees_words s ds + trees_words s es
trees_words_both s [] es = omega arith
trees_words_both s (d ∷ ds) es = (let rest = trees_words_both s ds es in omega (arith, rest))

abbrev lists_words : Scope → List (List Object) → ℕ
lists_words s [] = 0
lists_words s (xs ∷ rest) = subtypes_words s xs + lists_words s rest

lists_of : (s : Scope) (ds : List ProtectedTree) → lists_words s (map (λ d. map (component s) d.components) ds) ≡ trees_words s ds
lists_of s [] = refl
lists_of s (d ∷ ds) = ap (λ n. subtypes_words s (map (component s) d.components) + n) (lists_of s ds)

each_wide : ValuesHaveWords → (s : Scope) (xs : List (List Object)) → ((n : ℕ) → AreSoundObjects s (objects_or_none (slice_get xs n)))
    → total (map (λ cs. length (first_words_of cs)) xs) ≡ lists_words s xs
each_wide sized s [] h = refl
each_wide sized s (x ∷ xs) h =
    let one = first_words_wide sized s x (h 0) in
    let rest = each_wide sized s xs (λ n. h (suc n)) in
    omega (arith, one, rest)

totals_both : (xs ys : List (List ℕ)) → total_of_all (xs ++ ys) ≡ total_of_all xs + total_of_all ys
totals_both [] ys = omega arith
totals_both (x ∷ xs) ys = (let rest = totals_both xs ys in omega (arith, rest))

objects_both : (s xs ys : Scope) → objects_words s (xs ++ ys) ≡ objects_words s xs ++ objects_words s ys
objects_both s [] ys = refl
objects_both s (n ∷ xs) ys =
    ap (λ l. object_words s n.entity ++ l) (objects_both s xs ys)
    ∙ sym (append_assoc (object_words s n.entity) (objects_words s xs) (objects_words s ys))

parts_more : (s xs ys : Scope) → total_of_all (objects_words s (xs ++ ys)) ≡ total_of_all (objects_words s xs) + total_of_all (objects_words s ys)
parts_more s xs ys = ap total_of_all (objects_both s xs ys) ∙ totals_both (objects_words s xs) (objects_words s ys)

-- components as they are declared have the words of those that are visible
parts_words : (s u : Scope) → ((c : ProtectedComponentTree) (t : Subtype) → subtype_of u c.subtype ≡ Some t → subtype_of s c.subtype ≡ Some t)
    → (cs : List ProtectedComponentTree) (parts : List RecordComponent) → object_components u cs ≡ Some parts
    → subtypes_words s (map (component s) cs) ≡ total (components_words s parts)
parts_words s u same [] parts h = ap (λ l. total (components_words s l)) (same_some [] parts h)
parts_words s u same (c ∷ cs) parts h =
    let x = first_part u c cs parts h in
    let one : words_of s (component s c).subtype ≡ words_of s x.subtype = ap (words_of s) (named_is s c.subtype x.subtype (same c x.subtype x.own)) in
    let rest = parts_words s u same cs x.rest x.further in
    (λ j. one j + rest j) ∙ ap (λ l. total (components_words s l)) (sym x.is)

parts_are : (number ceiling : ℕ) (a : Option (List Operation)) (b : Option (List RecordComponent)) (o : ProtectedObject)
    → object_with number ceiling a b ≡ Protected o → b ≡ Some o.components
parts_are number ceiling (Some a) (Some b) o h =
    let parts_of : Entity → List RecordComponent = λ e. elim e [ Protected z ↦ z.components | other ↦ b ] in ap (λ e. Some (parts_of e)) h
parts_are number ceiling (Some a) None o h = cc
parts_are number ceiling None b o h = cc

module _ (laws : LawsOfNames) (t : ProgramTree) (legal : IsLegal t) (restricted : IsRestricted t) where
  abbrev program : Program
  program = program_of t

  abbrev s : Scope
  s = program.scope

  abbrev start : Scope
  start = start_in t.package_

  abbrev all : List BodyItemTree
  all = declared_in t.package_

  abbrev w : IsPackage program start all
  w = whole laws t legal restricted

  abbrev seen_parts : (place : ℕ) → ℕ
  seen_parts place = total_of_all (objects_words s (front t place))

  longer : (k : ℕ) (x : BodyItemTree) → slice_get all k ≡ Some x → 0 + seen_parts k ≤ seen_parts (suc k)
  longer k x at =
      let more = one_behind (front t k) x in
      up (seen_parts k) (total_of_all (objects_words s more.0)) (seen_parts (suc k))
      (ap (λ u. total_of_all (objects_words s u)) (scope_next start all k x at ∙ more.1) ∙ parts_more s (front t k) more.0)
    where
      up : (a b n : ℕ) → n ≡ a + b → 0 + a ≤ n
      up a b n e = omega (arith, e)

  object_added : (k : ℕ) (d : ProtectedTree) → slice_get all k ≡ Some (OfItem (OfProtected d))
      → subtypes_words s (map (component s) d.components) + 0 + seen_parts k ≤ seen_parts (suc k)
  object_added k d at =
      let here : Scope = front t k in
      let o = object_there program start all w k d at in
      let next : front t (suc k) ≡ here ++ record { name = d.name.name; entity = Protected o.0 } ∷ [] =
      scope_next start all k (OfItem (OfProtected d)) at
      ∙ ap (λ b. cond b here (here ++ record { name = d.name.name; entity = protected_entity here d } ∷ []))
      (item_new here (OfProtected d) (legal_at start all k (OfItem (OfProtected d)) at w.list.legal))
      ∙ ap (λ e. here ++ record { name = d.name.name; entity = e } ∷ []) o.1 in
      let words : seen_parts (suc k) ≡ seen_parts k + (total (components_words s o.0.components) + 0) =
      ap (λ v. total_of_all (objects_words s v)) next ∙ parts_more s here (record { name = d.name.name; entity = Protected o.0 } ∷ []) in
      let same = parts_words s here (λ c u h. subtype_kept here s (kept program start all w k) c.subtype u h) d.components o.0.components
      (parts_are _ _ _ (object_components here d.components) o.0 o.1) in
      under (subtypes_words s (map (component s) d.components)) (total (components_words s o.0.components)) (seen_parts k) (seen_parts (suc k)) same words
    where
      under : (a b c n : ℕ) → a ≡ b → n ≡ c + (b + 0) → a + 0 + c ≤ n
      under a b c n e h = omega (arith, e, h)

  one_added : (k : ℕ) (x : BodyItemTree) → slice_get all k ≡ Some x
      → trees_words s (trees_among (items_among (x ∷ []))) + seen_parts k ≤ seen_parts (suc k)
  one_added k (OfItem (OfProtected d)) at = object_added k d at
  one_added k x at = longer k x at

  all_added : (k : ℕ) → k ≤ length all → trees_words s (trees_among (items_among (take k all))) ≤ seen_parts k
  all_added zero up = subst (λ l. trees_words s (trees_among (items_among l)) ≤ seen_parts zero) (sym (none_taken all)) (omega arith)
  all_added (suc k) up =
      let x = some_at all k (omega (arith, up)) in
      let before = all_added k (omega (arith, up)) in
      let one = one_added k x.0 x.1 in
      let split =
      ap (λ l. trees_words s (trees_among l)) (ap items_among (taken_next all k x.0 x.1) ∙ among_both (take k all) (x.0 ∷ []))
      ∙ ap (trees_words s) (trees_both (items_among (take k all)) (items_among (x.0 ∷ [])))
      ∙ trees_words_both s (trees_among (items_among (take k all))) (trees_among (items_among (x.0 ∷ []))) in
      under (trees_words s (trees_among (items_among (take (suc k) all)))) (trees_words s (trees_among (items_among (take k all))))
      (trees_words s (trees_among (items_among (x.0 ∷ [])))) (seen_parts k) (seen_parts (suc k)) split before one
    where
      under : (n a b c d : ℕ) → n ≡ a + b → a ≤ c → b + c ≤ d → n ≤ d
      under n a b c d e h k = omega (arith, e, h, k)

  components_within : total (map (λ cs. length (first_words_of cs)) (components_among s (package_items t.package_))) ≤ total_of_all (objects_words s s)
  components_within =
      let these = components_among s (items_among all) in
      let wide =
      each_wide laws.sized s these
      (λ n. subst (AreSoundObjects s) (ap (λ f. f n) w.components) ((memory laws t legal restricted).components n)) in
      let told = ap (lists_words s) (components_of s (items_among all)) ∙ lists_of s (trees_among (items_among all)) in
      let taken = ap (λ l. trees_words s (trees_among (items_among l))) (sym (take_all (length all) all (omega arith))) in
      let added = all_added (length all) (omega arith) in
      let last : seen_parts (length all) ≡ total_of_all (objects_words s s) = ap (λ u. total_of_all (objects_words s u)) (last_is laws t legal restricted) in
      under (total (map (λ cs. length (first_words_of cs)) (components_among s (package_items t.package_))))
      (total (map (λ cs. length (first_words_of cs)) these)) (lists_words s these) (trees_words s (trees_among (items_among all)))
      (trees_words s (trees_among (items_among (take (length all) all)))) (seen_parts (length all)) (total_of_all (objects_words s s))
      (ap (λ l. total (map (λ cs. length (first_words_of cs)) (components_among s l))) (items_are t.package_)) wide told taken added last
    where
      under : (a b c d e f g : ℕ) → a ≡ b → b ≡ c → c ≡ d → d ≡ e → e ≤ f → f ≡ g → a ≤ g
      under a b c d e f g h k m n o p = omega (arith, h, k, m, n, o, p)

  pub words_few : WordsHaveRoom → size_faults t ≡ [] → program_words t ≤ WORDS
  words_few room none =
      under (length (first_words_of program.variables)) (total (map (λ cs. length (first_words_of cs)) (components_among s (package_items t.package_))))
      (total (variables_words s s)) (total_of_all (objects_words s s)) (variables_within laws t legal restricted) components_within (room t none)
    where
      under : (a b c d : ℕ) → a ≤ c → b ≤ d → c + d ≤ WORDS → a + b ≤ WORDS
      under a b c d h k m = omega (arith, h, k, m)

  pub objects_few : size_faults t ≡ [] → program.objects ≤ OBJECTS
  objects_few none =
      let objects = bare_objects s (items_among all) in
      let mapped : (ds : List ProtectedTree) → length (map (bare_object s) ds) ≡ length ds = λ ds. length-map ds (bare_object s) in
      let same : program.objects ≡ length (trees_among (items_among all)) =
      sym (many_rows program start all w t) ∙ many_of t 0 objects ∙ ap length (bare_of s (items_among all)) ∙ mapped (trees_among (items_among all)) in
      subst (λ n. n ≤ OBJECTS) (sym same) (trees_within t.package_ none)
