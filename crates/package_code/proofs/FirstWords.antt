-- The first words of an image stand for the first store, where the package of its code is that of the program.
use Rattle.std.proofs.Common.{◌≡◌, ℕ, zero, suc, ◌≤◌, List, [], ◌∷◌, length, Option, Some, None, sym, ap, ◌∙◌, subst, arith}
use Rattle.std.specs.Prelude.{slice_get}
use Rattle.std.specs.List.{sum_by}
use Rattle.std.proofs.lemmas.List.Sums.{sum_by-cons}
use Rattle.ada_tree.specs.ProgramTree.{ProgramTree}
use Rattle.image.specs.Code.{initial_words, initial_words_of}
use Rattle.image.specs.ObjectTable.{ObjectRow}
use Rattle.image.specs.Rules.{IsWellFormed}
use Rattle.image.specs.Sections.{Sections}
use Rattle.image.specs.declared.instruction.Region.TheVariants as regions
use Rattle.image_laws.specs.Laws.{ImagesHaveSize}
use Rattle.types.specs.declared.entity.Subtype.{Subtype}
use Rattle.types.specs.Entities as entity
use Rattle.types.specs.Places.{Function, IsObject, Meaning, Object, Place, function_meaning, function_of, meaning_in_scope, meaning_of, meaning_or, object_meaning, object_of, or_else}
use Rattle.types.specs.Scopes.{number_of}
use Rattle.types.specs.Values.{Value}
use Rattle.program_soundness.specs.legality.specs.ProgramRules.{IsLegal}
use Rattle.ravenscar.specs.ProgramRules.{IsRestricted}
use Rattle.expr_soundness.specs.Agreeing.{Agrees}
use Rattle.expr_soundness.specs.Answers.{FunctionsAreSound}
use Rattle.expr_soundness.proofs.Positions.{same_some}
use Rattle.expr_soundness.specs.meaning.specs.Programs.{Program, program_of}
use Rattle.expr_soundness.specs.meaning.specs.Works.{Store}
use Rattle.program_soundness.specs.step_soundness.specs.Holding.{inside}
use Rattle.program_soundness.specs.step_soundness.specs.Objects.{AreSoundObjects, IsOf, first_store}
use Rattle.program_soundness.specs.Fronts.{declared_in, front, start_in}
use Rattle.program_soundness.proofs.WiderScopes.{stands, stands_number}
use Rattle.program_soundness.proofs.Whole.{entity_variable}
use Rattle.expr_code.specs.Naming.{Lies}
use Rattle.expr_code.specs.Seeing.{AreSuited, Package, SeesPackage, objects_by, outside, subtype_among}
use Rattle.expr_code.specs.Views.{IsSameTask, View}
use Rattle.expr_code.specs.declared.visible.Slot.{Slot}
use Rattle.step_simulation.specs.part_code.specs.Resting.{IsAt, IsAddressable, StandsFor}
use Rattle.package_code.specs.Package.{IsPackageOf, first_objects}
use Rattle.package_code.proofs.InFront.{LawsOfNames, last_is, memory, whole}
use Rattle.expr_soundness.specs.Lying.{PlaceLies}

-- ---- few words

-- those of one object are among all
row_within : (rows : List ObjectRow) (o : ℕ) → length (initial_words_of (slice_get rows o)) ≤ sum_by (λ r. length r.words) rows
row_within [] o = omega arith
row_within (r ∷ rows) zero = let e = sum_by-cons (λ x. length x.words) r rows in omega (arith, e)
row_within (r ∷ rows) (suc o) = let e = sum_by-cons (λ x. length x.words) r rows in let k = row_within rows o in omega (arith, e, k)

-- ---- what a variable of the package means where no activation has objects

abbrev meant_by : Option Function → Meaning → Option Object → Meaning
meant_by f last o = meaning_or (or_else (object_meaning None) (function_meaning f)) (meaning_or (or_else (object_meaning o) (function_meaning f)) last)

value_of_variable : (f : Option Function) (last : Meaning) (x : Object) (t : Subtype) (u : Value) → meant_by f last (Some x) ≡ IsObject t u → x.value ≡ u
value_of_variable (Some f) last x t u h = cc
value_of_variable None last x t u h = let its : Meaning → Value = λ m. elim m [ IsObject a b ↦ b | n ↦ x.value ] in ap its h

module _ (laws : LawsOfNames) (t : ProgramTree) (legal : IsLegal t) (restricted : IsRestricted t) (i : Sections) (g : Package)
    (of_program : IsPackageOf t i g) where
  abbrev program : Program
  program = program_of t

  abbrev first : Store
  first = first_store program

  module _ (p : Place) (view : View) (at : IsAt program first p) (plain : view.words regions.Plain ≡ i.plain_words)
      (words_are : view.memory ≡ initial_words i) where
    bare : inside program first (record { within = None; locals = [] }) p ≡ outside p
    bare = λ j. record p {
      scope = (sym at.scope) j;
      functions = (sym at.functions) j;
      variables = (sym at.variables) j;
      components = (sym at.components) j;
      locals = [];
      within = None;
    }

    agrees : Agrees g.scope (outside p)
    agrees =
        subst (λ s. Agrees s (outside p)) (last_is laws t legal restricted ∙ sym of_program.scope)
        (subst (Agrees (front t (length (declared_in t.package_)))) bare
        (laws.fronts t first legal restricted (memory laws t legal restricted) (length (declared_in t.package_)) p).agrees)

    lies : (name : List ℕ) (slot : Slot) (u : Subtype) (value : Value) → g.slots None name ≡ Some slot → meaning_of (outside p) name ≡ IsObject u value
        → Lies (view.words slot.region) slot.offset value
    lies name slot u value told means =
        let o = of_program.laid.laid.objects name slot told in
        let e = entity.Object o.0 o.1 in
        let there = ap (λ s. stands s name) (sym of_program.scope) ∙ stands_number g.scope name o.2.number e o.2.numbered o.2.stands in
        let v = entity_variable program (start_in t.package_) (declared_in t.package_) (whole laws t legal restricted) name o.0 o.1 there in
        let b = of_program.variables name v.object v.found in
        let same : b.slot ≡ slot = same_some b.slot slot (sym b.there ∙ told) in
        let found : object_of p.variables name ≡ Some v.object = ap (λ l. object_of l name) at.variables ∙ v.found in
        let f = function_of p.functions None name in
        let last = meaning_in_scope p.scope (number_of p.scope name) in
        let is : v.object.value ≡ value = value_of_variable f last v.object u value (sym (ap (meant_by f last) found) ∙ means) in
        subst (λ r. Lies (view.words r) slot.offset value) (sym (of_program.laid.plain name slot told))
        (subst (λ l. Lies l slot.offset value) (sym plain)
        (subst (λ x. Lies i.plain_words slot.offset x) is (subst (λ z. Lies i.plain_words z.offset v.object.value) same b.lies)))

    objects_are : (owner : Option ℕ) → objects_by p owner ≡ first_objects program owner
    objects_are None = at.variables
    objects_are (Some o) = ap (λ f. f o) at.components

    suited : (xs : List Object) → AreSoundObjects program.scope xs → AreSuited g.scope xs
    suited [] h = tt
    suited (x ∷ xs) h = (subst (λ s. IsOf s x.subtype.type_number x.value) (sym of_program.scope) h.0, suited xs h.1)

    first_suited : (owner : Option ℕ) → AreSuited g.scope (first_objects program owner)
    first_suited None = suited program.variables (memory laws t legal restricted).variables
    first_suited (Some o) = suited (program.components o) ((memory laws t legal restricted).components o)

    parts_lie : (o : ℕ) (name : List ℕ) (slot : Slot) (x : Object) → g.slots (Some o) name ≡ Some slot → object_of (p.components o) name ≡ Some x
        → Lies (view.memory.objects o) slot.offset x.value
    parts_lie o name slot x told found =
        let b = of_program.components o name x (ap (λ f. object_of (f o) name) (sym at.components) ∙ found) in
        let same : b.slot ≡ slot = same_some b.slot slot (sym b.there ∙ told) in
        subst (λ l. Lies l slot.offset x.value) (sym (ap (λ m. m.objects o) words_are)) (subst (λ z. Lies ((initial_words i).objects o) z.offset x.value) same b.lies)

    seen : FunctionsAreSound p → PlaceLies p → p.now ≡ view.now → p.schedule ≡ view.schedule → IsSameTask p view → IsAddressable view
        → ((o : ℕ) → length (view.memory.objects o) ≤ 65536)
        → SeesPackage g p view
    seen sound all now schedule task small few = record {
      scope = at.scope ∙ sym of_program.scope;
      functions = at.functions ∙ sym of_program.functions;
      sound = sound;
      names = record { agrees = agrees; objects = lies };
      objects = record {
        same = λ owner name. ap (λ l. subtype_among l name) (objects_are owner ∙ sym (of_program.first owner));
        suited = λ owner. subst (λ l. AreSuited g.scope l) (sym (objects_are owner)) (first_suited owner);
      };
      values = all;
      components = parts_lie;
      now = now;
      schedule = schedule;
      task = task;
      small = small;
      few = few;
    }

  pub first_words : ImagesHaveSize → IsWellFormed i → StandsFor program g first (initial_words i)
  first_words sizes well_formed =
      let few = (sizes i well_formed).words in
      let objects : (o : ℕ) → length ((initial_words i).objects o) ≤ 65536 = λ o. let k = row_within i.objects o in omega (arith, few, k) in
      record {
        shared = λ p view at now schedule task shared plain small sound all.
            seen p view at plain shared sound all now schedule task small
            (λ o. subst (λ m. length (m.objects o) ≤ 65536) (sym shared) (objects o));
        plain = omega (arith, few);
        objects = objects;
      }
