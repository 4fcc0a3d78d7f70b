-- All subprograms of a package have their code where each body among its declarations has it.
use Rattle.std.proofs.Common.{◌≡◌, ◌≤◌, ℕ, List, ◌∷◌, ◌++◌, length, ◌⊎◌, inl, inr, Option, Some, None, refl, sym, ap, ◌∙◌, subst, arith, ◌-◌, false}
use Rattle.std.specs.Prelude.{slice_get}
use Rattle.std.proofs.lemmas.List.{length-append}
use Rattle.base.specs.Names.{predefined}
use Rattle.image_laws.specs.kernel.specs.Laws.{QuietStays, ViewsBack, ViewsOn}
use Rattle.ada_tree.specs.declared.expression.Identifier.{Identifier}
use Rattle.ada_tree.specs.ExpressionTree.{ExprTree}
use Rattle.ada_tree.specs.StatementTree.{EntryTree, SubprogramTree}
use Rattle.ada_tree.specs.ProgramTree.{BodyItemTree, BodyTree, EntryBody, OperationBody, ProgramTree, ProtectedBody, ProtectedItemTree, SubprogramBody}
use Rattle.image.specs.Sections.{Sections}
use Rattle.image.specs.Frames.{Words}
use Rattle.image.specs.Operations as code
use Rattle.image.specs.Steps as steps
use Rattle.types.specs.Evaluating.{entered}
use Rattle.types.specs.Places.{Function, Place, function_of, is_of}
use Rattle.program_soundness.specs.legality.specs.ProgramRules.{IsLegal}
use Rattle.ravenscar.specs.ProgramRules.{IsRestricted}
use Rattle.expr_soundness.specs.Laws.{AgreementIsKept}
use Rattle.expr_soundness.specs.meaning.specs.Calls.{is_open, procedure_among}
use Rattle.expr_soundness.specs.meaning.specs.Works.{Store}
use Rattle.expr_soundness.specs.meaning.specs.Programs.{Procedure, Program, exceptions_among, package_items, program_of, returned, Attached, handler_at, program_partition}
use Rattle.program_soundness.specs.Fronts.{declared_in, start_in}
use Rattle.program_soundness.specs.step_soundness.specs.Fitting.{entry_of}
use Rattle.program_soundness.specs.step_soundness.specs.Holding.{IsSoundStore}
use Rattle.program_soundness.proofs.Callables.{Bodied, FoundFunction, FoundProcedure, InObject, InPackage, bodies_among, body_place, found_entry, found_function, found_procedure, function_by, functions_are, operation_body, procedure_by, procedures_are, subprogram_body}
use Rattle.program_soundness.proofs.Listing.{Has}
use Rattle.program_soundness.proofs.ObjectBodies as bodies
use Rattle.program_soundness.proofs.Whole.{IsPackage}
use Rattle.expr_code.specs.Computing.{IsFunctionCode}
use Rattle.expr_code.specs.Seeing.{IsCoded, Package, SeesPackage, library_of, outside}
use Rattle.expr_code.specs.Views.{View}
use Rattle.expr_code.proofs.Calling.{functions_answer}
use Rattle.step_simulation.specs.Laws.{HasCode, HasEntry}
use Rattle.step_simulation.specs.part_code.specs.Resting.{StandsFor}
use Rattle.step_simulation.specs.part_code.specs.Statements.{HasProcedures, IsProcedureCode, Numbers}
use Rattle.package_code.specs.Package.{IsPackageOf}
use Rattle.package_code.proofs.InFront.{LawsOfNames, known, whole}
use Rattle.package_code.proofs.OperationBodies.{object}
use Rattle.program_soundness.specs.step_soundness.specs.InSubtypes.{StoreLies}
use Rattle.expr_soundness.proofs.Lies.{results_lie}
use Rattle.image_laws.specs.kernel.specs.State.{Kernel, is_task}
use Rattle.expr_soundness.specs.meaning.specs.Source.{initial_work}
use Rattle.image.specs.Code.{initial_state}
use Rattle.step_simulation.specs.Standing.{CodeStands, Note}

-- the predefined exceptions are the first ones
four_first : (xs : List (List ℕ)) → 4 ≤ length (predefined ++ xs)
four_first xs =
    let both = length-append predefined xs in
    let four : length predefined ≡ 4 = refl in
    omega (arith, both, four)

-- what the package shows does not depend on the actions that are open
shows_opened : AgreementIsKept → (g : Package) (p : Place) (view : View) (o : ℕ) → SeesPackage g p view
    → SeesPackage g (record p { actions = o ∷ p.actions }) (record view { actions = o ∷ view.actions })
shows_opened kept g p view o sees = record {
  scope = sees.scope;
  functions = sees.functions;
  sound = λ owner name f vs left found actuals.
      let b = sees.sound owner name f vs left found actuals in
      record {
        scope = b.scope;
        agrees = kept.circumstances b.scope (entered p f vs left) p.schedule p.now (o ∷ p.actions) p.priority left b.agrees;
        known = b.known;
        legal = b.legal;
      };
  names = record {
    agrees = kept.circumstances g.scope (outside p) p.schedule p.now (o ∷ p.actions) p.priority p.frames_left sees.names.agrees;
    objects = sees.names.objects;
  };
  objects = record { same = sees.objects.same; suited = sees.objects.suited };
  values = record {
    variables = sees.values.variables;
    components = sees.values.components;
    locals = sees.values.locals;
    time = sees.values.time;
    inputs = sees.values.inputs;
  };
  components = sees.components;
  now = sees.now;
  schedule = sees.schedule;
  task = (ap (λ l. o ∷ l) sees.task.0, sees.task.1, sees.task.2);
  small = sees.small;
  few = sees.few;
}

module _ (laws : LawsOfNames) (t : ProgramTree) (legal : IsLegal t) (restricted : IsRestricted t) where
  abbrev program : Program
  program = program_of t

  abbrev all : List BodyItemTree
  all = declared_in t.package_

  abbrev w : IsPackage program (start_in t.package_) (declared_in t.package_)
  w = whole laws t legal restricted

  -- where the body of a subprogram stands: among the declarations of the package, or in the body of its protected object
  pub record IsOperation (owner : Option ℕ) (i : ProtectedItemTree) : Type 0 where
    pub place : ℕ
    pub name : Identifier
    pub items : List ProtectedItemTree
    pub end_name : Identifier
    pub at : slice_get all place ≡ Some (ProtectedBody name items end_name)
    pub k : ℕ
    pub there : slice_get items k ≡ Some i
    pub owned : owner ≡ Some (object laws.scopes laws.names laws.premises t legal restricted place name items end_name at).number

  abbrev pub IsOfPackageAt : Option ℕ → SubprogramTree → BodyTree → Type 0
  IsOfPackageAt owner d b = (owner ≡ None) × (place : ℕ) × (slice_get all place ≡ Some (SubprogramBody d b))

  abbrev pub StandsAt : Option ℕ → SubprogramTree → BodyTree → Type 0
  StandsAt owner d b = IsOfPackageAt owner d b ⊎ IsOperation owner (OperationBody d b)

  -- the body that is one of these
  pub record IsUnit (u : Bodied) (d : SubprogramTree) (b : BodyTree) : Type 0 where
    pub owner : Option ℕ
    pub is : u ≡ subprogram_body owner d b
    pub stands : StandsAt owner d b

  pub record IsEntryUnit (u : Bodied) : Type 0 where
    pub owner : Option ℕ
    pub d : EntryTree
    pub barrier : ExprTree
    pub b : BodyTree
    pub is : u ≡ operation_body owner (EntryBody d barrier b)
    pub stands : IsOperation owner (EntryBody d barrier b)

  abbrev pub IsOne : Bodied → Type 0
  IsOne u = ((d : SubprogramTree) × (b : BodyTree) × IsUnit u d b) ⊎ IsEntryUnit u

  pub unit_stands : (u : Bodied) → Has (bodies_among program.scope all) u → IsOne u
  unit_stands u has = by_case (body_place program.scope all u has)
    where
      by_item : (q : InObject program.scope all u) (i : ProtectedItemTree) → slice_get q.items q.index ≡ Some i
          → u ≡ operation_body (Some (object laws.scopes laws.names laws.premises t legal restricted q.place q.name q.items q.end_name q.at).number) i → IsOne u
      by_item q (OperationBody d b) there is =
          let o = Some (object laws.scopes laws.names laws.premises t legal restricted q.place q.name q.items q.end_name q.at).number in
          inl (
            d,
            b,
            record {
              owner = o;
              is = is;
              stands = inr (record {
                place = q.place;
                name = q.name;
                items = q.items;
                end_name = q.end_name;
                at = q.at;
                k = q.index;
                there = there;
                owned = refl;
              });
            },
          )
      by_item q (EntryBody d barrier b) there is =
          inr (record {
            owner = Some (object laws.scopes laws.names laws.premises t legal restricted q.place q.name q.items q.end_name q.at).number;
            d = d;
            barrier = barrier;
            b = b;
            is = is;
            stands = record {
              place = q.place;
              name = q.name;
              items = q.items;
              end_name = q.end_name;
              at = q.at;
              k = q.index;
              there = there;
              owned = refl;
            };
          })

      by_case : InPackage all u ⊎ InObject program.scope all u → IsOne u
      by_case (inl p) = inl (p.subprogram, p.body, record { owner = None; is = p.is; stands = inl (refl, p.place, p.at) })
      by_case (inr q) =
          let number = (bodies.there program (start_in t.package_) all w q.place q.name q.items q.end_name q.at).numbered in
          by_item q q.item q.there (q.is ∙ ap (λ o. operation_body o q.item) number)

  -- where the body of a procedure of the package stands
  pub record StandsAsProcedure (q : Procedure) : Type 0 where
    pub place : ℕ
    pub d : SubprogramTree
    pub b : BodyTree
    pub at : slice_get all place ≡ Some (SubprogramBody d b)
    pub none : d.result ≡ None
    pub is : q ≡ procedure_by program.scope (subprogram_body None d b)

  pub procedure_stands : (name : List ℕ) (q : Procedure) → procedure_among program.procedures None name ≡ Some q → StandsAsProcedure q
  procedure_stands name q h = by_unit (unit_stands x.unit_ x.has)
    where
      x : FoundProcedure program.scope (bodies_among program.scope all) None name q
      x =
          found_procedure program.scope (bodies_among program.scope all) None name q
          (ap (λ l. procedure_among l None name) (sym (w.procedures ∙ procedures_are program.scope all)) ∙ h)

      by_unit : IsOne x.unit_ → StandsAsProcedure q
      by_unit (inl (d, b, y)) = by_stands y.stands
        where
          by_stands : StandsAt y.owner d b → StandsAsProcedure q
          by_stands (inl (owner, place, at)) =
              let is : x.unit_ ≡ subprogram_body None d b = y.is ∙ ap (λ o. subprogram_body o d b) owner in
              record {
                place = place;
                d = d;
                b = b;
                at = at;
                none = ap (λ u. u.result) (sym is) ∙ x.none;
                is = x.is ∙ ap (procedure_by program.scope) is;
              }
          by_stands (inr o) = absurd (let bad = ap (λ z. is_of z None) (sym o.owned ∙ ap (λ u. u.owner) (sym y.is)) ∙ x.owned in cc)
      by_unit (inr e) = absurd (let bad = ap (λ z. is_of z None) (sym e.stands.owned ∙ ap (λ u. u.owner) (sym e.is)) ∙ x.owned in cc)

  module _ (i : Sections) (g : Package) (of_program : IsPackageOf t i g) (numbers : Numbers) where
    -- what methods show of the bodies that have a number, each where it stands
    pub record HasBodies : Type 1 where
      pub procedures : (owner : Option ℕ) (d : SubprogramTree) (b : BodyTree) → StandsAt owner d b → d.result ≡ None → (number : ℕ)
          → numbers (procedure_by program.scope (subprogram_body owner d b)) ≡ Some number
          → IsProcedureCode i program g numbers (procedure_by program.scope (subprogram_body owner d b)) number
      pub functions : (owner : Option ℕ) (d : SubprogramTree) (b : BodyTree) → StandsAt owner d b → (r : Identifier) → d.result ≡ Some r
          → (value : ExprTree) → returned b.statements ≡ Some value → (number : ℕ) → g.subprograms owner d.name.name ≡ Some number
          → IsFunctionCode i (library_of g) (function_by program.scope (subprogram_body owner d b) r value) number
      pub entries : (owner : Option ℕ) (d : EntryTree) (barrier : ExprTree) (b : BodyTree) → IsOperation owner (EntryBody d barrier b) → (number : ℕ)
          → numbers (procedure_by program.scope (operation_body owner (EntryBody d barrier b))) ≡ Some number
          → IsProcedureCode i program g numbers (procedure_by program.scope (operation_body owner (EntryBody d barrier b))) number

    -- the number of the entry's body is that in the row of its object
    pub record IsInRow (o : ℕ) (q : Procedure) : Type 0 where
      pub number : ℕ
      pub row : code.entry_of (slice_get i.objects o) ≡ Some number
      pub numbered : numbers q ≡ Some number

    module _ (has : HasBodies) where
      procedure_coded : (q : Procedure) (u : Bodied) → Has (bodies_among program.scope all) u → u.result ≡ None → q ≡ procedure_by program.scope u
          → (number : ℕ) → numbers q ≡ Some number
          → IsProcedureCode i program g numbers q number
      procedure_coded q u among none is number n = by_unit (unit_stands u among)
        where
          by_unit : IsOne u → IsProcedureCode i program g numbers q number
          by_unit (inl x) =
              let y = x.2 in
              let same : q ≡ procedure_by program.scope (subprogram_body y.owner x.0 x.1) = is ∙ ap (procedure_by program.scope) y.is in
              subst (λ z. IsProcedureCode i program g numbers z number) (sym same)
              (has.procedures y.owner x.0 x.1 y.stands (ap (λ z. z.result) (sym y.is) ∙ none) number (ap numbers (sym same) ∙ n))
          by_unit (inr e) =
              let same : q ≡ procedure_by program.scope (operation_body e.owner (EntryBody e.d e.barrier e.b)) = is ∙ ap (procedure_by program.scope) e.is in
              subst (λ z. IsProcedureCode i program g numbers z number) (sym same)
              (has.entries e.owner e.d e.barrier e.b e.stands number (ap numbers (sym same) ∙ n))

      pub procedures_coded : HasProcedures i program g numbers
      procedures_coded owner name q number found n =
          let x =
          found_procedure program.scope (bodies_among program.scope all) owner name q
          (ap (λ l. procedure_among l owner name) (sym (w.procedures ∙ procedures_are program.scope all)) ∙ found) in
          procedure_coded q x.unit_ x.has x.none x.is number n

      functions_coded : (f : Function) (number : ℕ) → IsCoded g f number → IsFunctionCode i (library_of g) f number
      functions_coded f number coded = by_unit (unit_stands x.unit_ x.has)
        where
          x : FoundFunction program.scope (bodies_among program.scope all) f.object f.name f
          x =
              found_function program.scope (bodies_among program.scope all) f.object f.name f
              (ap (λ l. function_of l f.object f.name) (sym (w.functions ∙ functions_are program.scope all) ∙ sym of_program.functions) ∙ coded.found)

          by_unit : IsOne x.unit_ → IsFunctionCode i (library_of g) f number
          by_unit (inl y) =
              let z = y.2 in
              let same : f ≡ function_by program.scope (subprogram_body z.owner y.0 y.1) x.result x.value =
              x.is ∙ ap (λ u. function_by program.scope u x.result x.value) z.is in
              subst (λ h. IsFunctionCode i (library_of g) h number) (sym same)
              (has.functions z.owner y.0 y.1 z.stands x.result (ap (λ u. u.result) (sym z.is) ∙ x.some) x.value
              (ap (λ u. returned u.body.statements) (sym z.is) ∙ x.returns) number
              ((λ j. g.subprograms (((ap (λ h. h.object) (sym same)) j)) ((ap (λ h. h.name) (sym same)) j)) ∙ coded.numbered))
          by_unit (inr e) = absurd (let bad = sym x.some ∙ ap (λ u. u.result) e.is in cc)

      -- where the row of each object names the number of its entry
      entries_coded : (rows : (o : ℕ) (q : Procedure) → entry_of program.procedures o ≡ Some q → IsInRow o q) (o : ℕ) (q : Procedure)
          → entry_of program.procedures o ≡ Some q → HasEntry i program g numbers o q
      entries_coded rows o q found =
          let r = rows o q found in
          let x =
          found_entry program.scope (bodies_among program.scope all) o q (ap (λ l. entry_of l o) (sym (w.procedures ∙ procedures_are program.scope all)) ∙ found) in
          record { number = r.number; row = r.row; code = procedure_coded q x.unit_ x.has x.none x.is r.number r.numbered }

      pub program_is_coded : QuietStays → ViewsOn → ViewsBack → i.exceptions ≡ program.exceptions
          → ((o : ℕ) (q : Procedure) → entry_of program.procedures o ≡ Some q → IsInRow o q)
          → ((m : Store) (words : Words) (o : ℕ) → IsSoundStore program m → StoreLies program.scope m → StandsFor program g m words → is_open program m o ≡ steps.is_open i words o)
          → ((note : Note) (l : Kernel) (u : ℕ) (a : Attached) → is_task (program_partition program) u ≡ false
          → handler_at (u - length program.tasks) program.handlers ≡ Some a
          → CodeStands i program g numbers note l u (initial_work program u) (initial_state i u))
          → HasCode i program g numbers
      program_is_coded quiet views back exceptions rows barriers restarts = record {
        exceptions = exceptions;
        predefined = four_first (exceptions_among (package_items t.package_));
        functions = functions_answer quiet views back i (library_of g) functions_coded
            (λ left. (λ p sound. (known laws t legal restricted).typed.answered p sound left, results_lie left)) (λ p view sees. sees.task)
            (shows_opened (known laws t legal restricted).kept g);
        procedures = procedures_coded;
        entries = entries_coded rows;
        barriers = barriers;
        restarts = restarts;
      }
