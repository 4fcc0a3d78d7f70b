-- The package of a program whose variables stand one behind the other in the order of the text, as the components of each protected object do, and whose words
-- are those of their initial values.
use Rattle.std.proofs.Common.{◌≡◌, ◌≢◌, ℕ, ◌+◌, ◌≤◌, inl, inr, ℤ, List, [], ◌∷◌, ◌++◌, append_assoc, length, Option, Some, None, Bool, true, false, refl, sym, ap, ◌∙◌, subst, arith}
use Rattle.std.specs.Prelude.{bytes_eq, if◌then◌else◌, option_map}
use Rattle.std.proofs.lemmas.List.{length-append}
use Rattle.ada_tree.specs.ProgramTree.{ProgramTree}
use Rattle.image.specs.Code.{initial_words}
use Rattle.image.specs.Sections.{Sections}
use Rattle.image.specs.declared.instruction.Region.TheVariants as regions
use Rattle.types.specs.declared.entity.Role.{Role}
use Rattle.types.specs.declared.entity.Role.TheVariants as role
use Rattle.types.specs.declared.entity.Subtype.{Subtype}
use Rattle.types.specs.Entities.{Entity}
use Rattle.types.specs.Entities as entity
use Rattle.types.specs.Layouts.{words_of}
use Rattle.types.specs.Places.{Object, object_of}
use Rattle.types.specs.Shapes.{shape_of, value_words}
use Rattle.program_soundness.specs.legality.specs.ProgramRules.{IsLegal}
use Rattle.ravenscar.specs.ProgramRules.{IsRestricted}
use Rattle.expr_soundness.proofs.Parts.{subtype_values}
use Rattle.expr_soundness.proofs.Positions.{same_some}
use Rattle.expr_soundness.specs.meaning.specs.Programs.{Program, program_of}
use Rattle.program_soundness.specs.Fronts.{declared_in, start_in}
use Rattle.program_soundness.proofs.Agreed.{sound_object}
use Rattle.program_soundness.proofs.WiderScopes.{number_stands, same_bytes, stands, stands_number}
use Rattle.program_soundness.proofs.Whole.{variable_entity}
use Rattle.expr_code.specs.Naming.{Lies}
use Rattle.expr_code.specs.Seeing.{Package, subtype_among}
use Rattle.expr_code.specs.declared.visible.Slot.{Slot}
use Rattle.step_simulation.specs.part_code.specs.Layout.{AreApart, NamesObject}
use Rattle.stmt_code.proofs.Beginning.{lies_at}
use Rattle.package_code.specs.Owners.{in_object}
use Rattle.package_code.specs.Package.{BeginsAs, IsInOrder, IsPackageOf, first_words_of, place_among}
use Rattle.package_code.proofs.InFront.{LawsOfNames, memory, whole}

-- ---- where objects stand that stand one behind the other

pub record StandsThere (xs : List Object) (from : ℕ) (name : List ℕ) (x : Slot) : Type 0 where
  pub object : Object
  pub found : object_of xs name ≡ Some object
  pub front : List ℤ
  pub more : List ℤ
  pub words : first_words_of xs ≡ front ++ (value_words object.value ++ more)
  pub offset : x.offset ≡ from + length front
  pub region : x.region ≡ regions.Plain

pub stands_there : (xs : List Object) (from : ℕ) (name : List ℕ) (x : Slot) → place_among from xs name ≡ Some x → StandsThere xs from name x
stands_there [] from name x h = cc
stands_there (z ∷ xs) from name x h =
    by_test (bytes_eq z.name name) refl h (λ k. stands_there xs (from + length (value_words z.value)) name x k)
  where
    by_test : (b : Bool) → bytes_eq z.name name ≡ b
        → (if b then Some (record { region = regions.Plain; offset = from }) else place_among (from + length (value_words z.value)) xs name) ≡ Some x
        → (place_among (from + length (value_words z.value)) xs name ≡ Some x → StandsThere xs (from + length (value_words z.value)) name x)
        → StandsThere (z ∷ xs) from name x
    by_test true e k later =
        let here : record { region = regions.Plain; offset = from } ≡ x = same_some (let s : Slot = record { region = regions.Plain; offset = from } in s) x k in
        record {
          object = z;
          found = ap (λ b. if b then Some z else object_of xs name) e;
          front = [];
          more = first_words_of xs;
          words = refl;
          offset = sym (ap (λ s. s.offset) here) ∙ omega arith;
          region = sym (ap (λ s. s.region) here);
        }
    by_test false e k later =
        let r = later k in
        let long = length-append (value_words z.value) r.front in
        let at = r.offset in
        record {
          object = r.object;
          found = ap (λ b. if b then Some z else object_of xs name) e ∙ r.found;
          front = value_words z.value ++ r.front;
          more = r.more;
          words = ap (λ l. value_words z.value ++ l) r.words ∙ sym (append_assoc (value_words z.value) r.front (value_words r.object.value ++ r.more));
          offset = omega (arith, at, long);
          region = r.region;
        }

pub has_place : (xs : List Object) (from : ℕ) (name : List ℕ) (o : Object) → object_of xs name ≡ Some o → (x : Slot) × (place_among from xs name ≡ Some x)
has_place [] from name o h = cc
has_place (z ∷ xs) from name o h = by_test (bytes_eq z.name name) h (λ k. has_place xs (from + length (value_words z.value)) name o k)
  where
    by_test : (b : Bool) → (if b then Some z else object_of xs name) ≡ Some o
        → (object_of xs name ≡ Some o → (x : Slot) × (place_among (from + length (value_words z.value)) xs name ≡ Some x))
        → (x : Slot)
        × ((if b then Some (record { region = regions.Plain; offset = from }) else place_among (from + length (value_words z.value)) xs name) ≡ Some x)
    by_test true k later = (record { region = regions.Plain; offset = from }, refl)
    by_test false k later = later k

-- different names have words of their own
apart_among : (xs : List Object) (from : ℕ) (one other : List ℕ) (x y : Slot) (a b : Object) → one ≢ other
    → place_among from xs one ≡ Some x → place_among from xs other ≡ Some y → object_of xs one ≡ Some a → object_of xs other ≡ Some b
    → AreApart x.offset (length (value_words a.value)) y.offset (length (value_words b.value))
apart_among [] from one other x y a b differ first second f s = cc
apart_among (z ∷ xs) from one other x y a b differ first second f s =
    by_tests (bytes_eq z.name one) (bytes_eq z.name other) refl refl first second f s
    (λ h k i j. apart_among xs (from + length (value_words z.value)) one other x y a b differ h k i j)
  where
    from_there : (name : List ℕ) (w : Slot) → place_among (from + length (value_words z.value)) xs name ≡ Some w → from + length (value_words z.value) ≤ w.offset
    from_there name w h = let r = stands_there xs (from + length (value_words z.value)) name w h in let at = r.offset in omega (arith, at)

    at_here : (w : Slot) → Some (let s : Slot = record { region = regions.Plain; offset = from } in s) ≡ Some w → w.offset ≡ from
    at_here w h = sym (ap (λ s. s.offset) (same_some (let s : Slot = record { region = regions.Plain; offset = from } in s) w h))

    wide : (c : Object) → Some z ≡ Some c → length (value_words c.value) ≡ length (value_words z.value)
    wide c h = ap (λ o. length (value_words o.value)) (sym (same_some z c h))

    by_tests : (p q : Bool) → bytes_eq z.name one ≡ p → bytes_eq z.name other ≡ q
        → (if p then Some (record { region = regions.Plain; offset = from }) else place_among (from + length (value_words z.value)) xs one) ≡ Some x
        → (if q then Some (record { region = regions.Plain; offset = from }) else place_among (from + length (value_words z.value)) xs other) ≡ Some y
        → (if p then Some z else object_of xs one) ≡ Some a
        → (if q then Some z else object_of xs other) ≡ Some b
        → (place_among (from + length (value_words z.value)) xs one ≡ Some x → place_among (from + length (value_words z.value)) xs other ≡ Some y
        → object_of xs one ≡ Some a → object_of xs other ≡ Some b
        → AreApart x.offset (length (value_words a.value)) y.offset (length (value_words b.value)))
        → AreApart x.offset (length (value_words a.value)) y.offset (length (value_words b.value))
    by_tests true true d e h k i j later = absurd (differ (sym (same_bytes z.name one d) ∙ same_bytes z.name other e))
    by_tests true false d e h k i j later =
        let at = at_here x h in
        let behind = from_there other y k in
        let size = wide a i in
        inl (omega (arith, at, behind, size))
    by_tests false true d e h k i j later =
        let at = at_here y k in
        let behind = from_there one x h in
        let size = wide b j in
        inr (omega (arith, at, behind, size))
    by_tests false false d e h k i j later = later h k i j

-- ---- the package

module _ (laws : LawsOfNames) (t : ProgramTree) (legal : IsLegal t) (restricted : IsRestricted t) (i : Sections) (g : Package) (ordered : IsInOrder t i g) where
  abbrev program : Program
  program = program_of t

  abbrev all : List Object
  all = program.variables

  variable_named : (name : List ℕ) (o : Object) → object_of all name ≡ Some o → stands g.scope name ≡ Some (entity.Object role.Variable o.subtype)
  variable_named name o found =
      ap (λ s. stands s name) ordered.scope
      ∙ variable_entity program (start_in t.package_) (declared_in t.package_) (whole laws t legal restricted) name o found

  -- its initial value has the words of its subtype
  variable_wide : (name : List ℕ) (o : Object) (q : Role) (u : Subtype) → object_of all name ≡ Some o → NamesObject g.scope name q u
      → length (value_words o.value) ≡ words_of g.scope u
  variable_wide name o q u found n =
      let subtype_of_entity : Option Entity → Subtype = λ e. elim e [ Some y ↦ elim y [ entity.Object r v ↦ v | other ↦ u ] | None ↦ u ] in
      let same : o.subtype ≡ u =
      ap subtype_of_entity (sym (variable_named name o found) ∙ stands_number g.scope name n.number (entity.Object q u) n.numbered n.stands) in
      let sound = sound_object program.scope all name o (memory laws t legal restricted).variables found in
      let shaped = subtype_values program.scope o.subtype o.value ∙ sound in
      (laws.sized (shape_of program.scope o.subtype) o.value shaped).sized ∙ (λ j. words_of ((sym ordered.scope) j) (same j))

  there : (name : List ℕ) (x : Slot) → g.slots None name ≡ Some x → StandsThere all 0 name x
  there name x told = stands_there all 0 name x (sym (ordered.slots name) ∙ told)

  objects_named : (name : List ℕ) (x : Slot) → g.slots None name ≡ Some x → (r : Role) × (u : Subtype) × NamesObject g.scope name r u
  objects_named name x told =
      let r = there name x told in
      let n = number_stands g.scope name (entity.Object role.Variable r.object.subtype) (variable_named name r.object r.found) in
      (role.Variable, r.object.subtype, record { number = n.0; numbered = n.1; stands = n.2 })

  apart : (one other : List ℕ) (x y : Slot) (q r : Role) (u v : Subtype) → one ≢ other → g.slots None one ≡ Some x → g.slots None other ≡ Some y → x.region ≡ y.region
      → NamesObject g.scope one q u → NamesObject g.scope other r v → AreApart x.offset (words_of g.scope u) y.offset (words_of g.scope v)
  apart one other x y q r u v differ first second same m n =
      let a = there one x first in
      let b = there other y second in
      subst (λ k. AreApart x.offset k y.offset (words_of g.scope v)) (variable_wide one a.object q u a.found m)
      (subst (λ k. AreApart x.offset (length (value_words a.object.value)) y.offset k) (variable_wide other b.object r v b.found n)
      (apart_among all 0 one other x y a.object b.object differ (sym (ordered.slots one) ∙ first) (sym (ordered.slots other) ∙ second) a.found b.found))

  -- the words at a place are those of the value that stands there
  lies_there : (xs : List Object) (words : List ℤ) (name : List ℕ) (o : Object) (x : Slot) → words ≡ first_words_of xs → object_of xs name ≡ Some o
      → place_among 0 xs name ≡ Some x
      → Lies words x.offset o.value
  lies_there xs words name o x are found placed =
      let r = stands_there xs 0 name x placed in
      let same : r.object ≡ o = same_some r.object o (sym r.found ∙ found) in
      let at : length r.front ≡ x.offset = let k = r.offset in omega (arith, k) in
      subst (λ z. Lies words x.offset z.value) same
      (subst (λ n. Lies words n r.object.value) at
      (subst (λ l. Lies l (length r.front) r.object.value) (sym (are ∙ r.words)) (lies_at r.front r.object.value r.more)))

  begins_as : (name : List ℕ) (o : Object) → object_of all name ≡ Some o → BeginsAs i.plain_words g None name o.value
  begins_as name o found =
      let x = has_place all 0 name o found in
      record { slot = x.0; there = ordered.slots name ∙ x.1; lies = lies_there all i.plain_words name o x.0 ordered.words found x.1 }

  -- ---- components

  abbrev parts : ℕ → List Object
  parts object = program.components object

  part_begins : (object : ℕ) (name : List ℕ) (o : Object) → object_of (parts object) name ≡ Some o
      → BeginsAs ((initial_words i).objects object) g (Some object) name o.value
  part_begins object name o found =
      let x = has_place (parts object) 0 name o found in
      record {
        slot = in_object x.0;
        there = ordered.components object name ∙ ap (option_map in_object) x.1;
        lies = lies_there (parts object) ((initial_words i).objects object) name o x.0 (ordered.object_words object) found x.1;
      }

  record IsPartThere (object : ℕ) (name : List ℕ) (x : Slot) : Type 0 where
    place : Slot
    placed : place_among 0 (parts object) name ≡ Some place
    is : in_object place ≡ x

  part_there : (object : ℕ) (name : List ℕ) (x : Slot) → g.slots (Some object) name ≡ Some x → IsPartThere object name x
  part_there object name x told = by_place (place_among 0 (parts object) name) refl (sym (ordered.components object name) ∙ told)
    where
      by_place : (p : Option Slot) → place_among 0 (parts object) name ≡ p → option_map in_object p ≡ Some x → IsPartThere object name x
      by_place (Some y) placed h = record { place = y; placed = placed; is = same_some (in_object y) x h }
      by_place None placed h = cc

  -- the first value of a component has the words of its subtype
  part_wide : (object : ℕ) (name : List ℕ) (o : Object) (u : Subtype) → object_of (parts object) name ≡ Some o
      → subtype_among (g.first (Some object)) name ≡ Some u
      → length (value_words o.value) ≡ words_of g.scope u
  part_wide object name o u found first =
      let same : o.subtype ≡ u =
      same_some o.subtype u
      (sym (ap (λ l. subtype_among l name) (ordered.first (Some object)) ∙ ap (option_map (λ (y : Object). y.subtype)) found) ∙ first) in
      let sound = sound_object program.scope (parts object) name o ((memory laws t legal restricted).components object) found in
      let shaped = subtype_values program.scope o.subtype o.value ∙ sound in
      (laws.sized (shape_of program.scope o.subtype) o.value shaped).sized ∙ (λ j. words_of ((sym ordered.scope) j) (same j))

  parts_apart : (object : ℕ) (one other : List ℕ) (x y : Slot) (u v : Subtype) → one ≢ other → g.slots (Some object) one ≡ Some x
      → g.slots (Some object) other ≡ Some y
      → subtype_among (g.first (Some object)) one ≡ Some u
      → subtype_among (g.first (Some object)) other ≡ Some v
      → AreApart x.offset (words_of g.scope u) y.offset (words_of g.scope v)
  parts_apart object one other x y u v differ first second m n =
      let p = part_there object one x first in
      let q = part_there object other y second in
      let a = stands_there (parts object) 0 one p.place p.placed in
      let b = stands_there (parts object) 0 other q.place q.placed in
      subst (λ z. AreApart z.offset (words_of g.scope u) y.offset (words_of g.scope v)) p.is
      (subst (λ z. AreApart p.place.offset (words_of g.scope u) z.offset (words_of g.scope v)) q.is
      (subst (λ k. AreApart p.place.offset k q.place.offset (words_of g.scope v)) (part_wide object one a.object u a.found m)
      (subst (λ k. AreApart p.place.offset (length (value_words a.object.value)) q.place.offset k) (part_wide object other b.object v b.found n)
      (apart_among (parts object) 0 one other p.place q.place a.object b.object differ p.placed q.placed a.found b.found))))

  pub package_in_order : IsPackageOf t i g
  package_in_order = record {
    scope = ordered.scope;
    functions = ordered.functions;
    first = ordered.first;
    laid = record {
      laid = record { objects = objects_named; apart = apart };
      plain = λ name x told. (there name x told).region;
      region = λ object name x told. sym (ap (λ z. z.region) (part_there object name x told).is);
      parts = parts_apart;
    };
    variables = begins_as;
    components = part_begins;
  }
