-- The rows of places of a whole program tell of the declarations and statements of its bodies.
use Rattle.std.proofs.Common.{◌≡◌, ℕ, zero, suc, ◌+◌, List, [], ◌∷◌, ◌++◌, All, ◌⊎◌, inl, inr, Option, None, Some, refl, sym, ap, ◌∙◌, subst, arith, append_assoc}
use Rattle.std.proofs.lemmas.List.Elements.{All-get_or, All-weaker}
use Rattle.std.proofs.lemmas.Option.{get_or_from_slice_get, slice_get_within}
use Rattle.std.specs.Prelude.{slice_get}
use Rattle.image_laws.specs.kernel.specs.Laws.{QuietStays, ViewsBack, ViewsOn}
use Rattle.image_laws.specs.Laws.{ImagesHaveSize}
use Rattle.ada_tree.specs.declared.expression.Identifier.{Identifier}
use Rattle.ada_tree.specs.ExpressionTree.{ExprTree}
use Rattle.ada_tree.specs.StatementTree.{DeclarationTree, HandlerTrees, MoreStmts, NoStmts, Return, StmtTree, StmtTrees}
use Rattle.ada_tree.specs.ProgramTree.{BodyItemTree, BodyTree, EntryBody, OfItem, OperationBody, ProgramTree, ProtectedBody, ProtectedItemTree, SubprogramBody, TaskBody}
use Rattle.image.specs.Operations.{called, results_of}
use Rattle.image.specs.Rules.{IsWellFormed}
use Rattle.image.specs.Sections.{Sections}
use Rattle.image.specs.declared.subprograms.Subprogram.{Subprogram}
use Rattle.types.specs.Laws.{InitialValuesHaveShape}
use Rattle.program_soundness.specs.legality.specs.ProgramRules.{IsLegal}
use Rattle.ravenscar.specs.ProgramRules.{IsRestricted}
use Rattle.expr_soundness.specs.meaning.specs.Programs.{Program, program_of, returned}
use Rattle.program_soundness.proofs.Listing.{same_some}
use Rattle.program_soundness.specs.Fronts.{declared_in, front}
use Rattle.expr_code.specs.Code.{here}
use Rattle.expr_code.specs.Seeing.{Package}
use Rattle.step_simulation.specs.part_code.specs.Resting.{Framed}
use Rattle.step_simulation.specs.part_code.specs.Statements.{Numbers, procedure_kind}
use Rattle.stmt_code.specs.Emitting.{TellPlaces}
use Rattle.stmt_code.specs.Placing.{AreInnermostFirst, OfStatement, StandsBetween, body_within, stmt_place}
use Rattle.stmt_code.specs.declared.tables.PlaceRow.{PlaceRow}
use Rattle.stmt_code.proofs.PlacesAdded.{told_row}
use Rattle.package_code.specs.Bodies.{Coded, bodies_of, coded_at, of_subprogram, of_task, operation_kind}
use Rattle.package_code.specs.Package.{IsInFront, IsPackageOf}
use Rattle.package_code.specs.Places.{HasBodyRows, LiesInSubprogram, PlacesAreTold, TellsBody, TellsOfBody, TellsReturn, constructs_of}
use Rattle.package_code.specs.Program.{HasProgram}
use Rattle.package_code.specs.Walking.{AddsValueFunction, HasBody, IsOfBody, first_statement_place, row_of}
use Rattle.package_code.proofs.BodyFronts.{IsEntrance}
use Rattle.package_code.proofs.Coded.{body_of, coded_many}
use Rattle.package_code.proofs.CodedPackage.{IsOperation}
use Rattle.package_code.proofs.EmittedBodies.{procedure_tells}
use Rattle.package_code.proofs.EmittedTasks.{task_tells}
use Rattle.package_code.proofs.EntryRows.{element}
use Rattle.package_code.proofs.InFront.{LawsOfNames}
use Rattle.package_code.proofs.Linking.{as_function, as_procedure, begins_there, body_there, called_front, handled_there, holds_there, in_front, labels_there, numbers_of, of_program, operation_code, operation_enters, package_enters, package_of, sections_linked}
use Rattle.package_code.proofs.NamedExceptions.{exceptions_are_named}
use Rattle.package_code.proofs.OperationBodies.{code_of, coded, object}
use Rattle.package_code.proofs.OperationsAdded.{bodies_sound}

-- ---- lists

same_tail : {X : Type 0} (x : X) (a b : List X) → (x ∷ a) ≡ (x ∷ b) → a ≡ b
same_tail x a b e = cc

-- what stands behind the same
behind_same : {X : Type 0} (xs a b : List X) → xs ++ a ≡ xs ++ b → a ≡ b
behind_same [] a b e = e
behind_same (x ∷ xs) a b e = behind_same xs a b (same_tail x (xs ++ a) (xs ++ b) e)

only : {X : Type 0} (x c : X) (k : ℕ) → slice_get (x ∷ []) k ≡ Some c → x ≡ c
only x c zero e = same_some x c e
only x c (suc k) e = cc

nothing_there : {X : Type 0} (q : X) (n : ℕ) → slice_get [] n ≡ Some q → ⊥
nothing_there q n e = cc

either_result : (o : Option Identifier) → (o ≡ None) ⊎ ((r : Identifier) × (o ≡ Some r))
either_result None = inl refl
either_result (Some r) = inr (r, refl)

-- ---- the return of a function

-- the statement that returns the value, and its place
abbrev IsReturned : List DeclarationTree → StmtTrees → HandlerTrees → Type 0
IsReturned ds all hs =
    (x : StmtTree) × (slice_get (body_within ds all hs) 0 ≡ Some (OfStatement x)) × (first_statement_place all ≡ stmt_place x)

returned_there : (all : StmtTrees) (hs : HandlerTrees) (value : ExprTree) → returned all ≡ Some value → IsReturned [] all hs
returned_there (MoreStmts (Return place e) NoStmts) hs value h = (Return place e, refl, refl)
returned_there all hs value h = absurd cc

-- ---- the bodies of a program

module _ (t : ProgramTree) (i : Sections) (h : HasProgram t i) (laws : LawsOfNames) (quiet : QuietStays) (views : ViewsOn) (back : ViewsBack)
    (shaped : InitialValuesHaveShape) (legal : IsLegal t) (restricted : IsRestricted t) (well_formed : IsWellFormed i) where
  abbrev program : Program
  program = program_of t

  abbrev g : Package
  g = package_of program h.directory

  abbrev numbers : Numbers
  numbers = numbers_of program h.directory

  abbrev package_is : IsPackageOf t i g
  package_is = of_program t i h laws quiet views back shaped legal restricted well_formed

  -- the rows that were added with the code of such a body tell of its declarations and statements
  abbrev TellsOf : Coded → Type 0
  TellsOf c = (number : ℕ) (body : HasBody t h.directory number c h.walk) → c.head.result ≡ None
      → TellPlaces i program g numbers body.keeps.rows.placed (constructs_of c)

  procedure_places : (c : Coded) (barrier : Option ExprTree) → (c.head.result ≡ None → c.kind ≡ procedure_kind c.owner barrier)
      → ((v : Framed) → IsInFront c.front g c.owner v → IsEntrance t g c.owner v c.head c.body) → TellsOf c
  procedure_places c barrier kind entrance number body none =
      let adds = as_procedure t c.head c.body body.seen body.old body.words body.new body.adds none in
      let row : Subprogram = row_of c.kind body.words (here body.new.code) in
      let there : called i number ≡ Some row = called_front t i h number row body.there in
      subst (λ l. TellPlaces i program g numbers l (constructs_of c))
      (behind_same body.old.rows.places adds.runs.rows.placed body.keeps.rows.placed
      (sym adds.runs.rows.located ∙ sym (ap (λ r. r.places) adds.rows) ∙ body.keeps.rows.located))
      (procedure_tells laws quiet shaped t legal restricted i well_formed g package_is numbers c.owner c.head c.body body.seen body.old body.new body.words
      adds number row there (begins_there t i h number c body) refl refl (ap results_of there) refl barrier (kind none) (holds_there t i h number c body)
      (labels_there t i h number c body) (handled_there t i h number c body (exceptions_are_named laws.premises t legal restricted) adds) (λ q n told. told)
      (entrance _ (in_front t i h c.front c.owner _ body.scope refl body.told)))

  task_places : (place : ℕ) (name : Identifier) (b : BodyTree) → slice_get (declared_in t.package_) place ≡ Some (TaskBody name b)
      → TellsOf (of_task (front t (suc place)) name b)
  task_places place name b at number body none =
      let c : Coded = of_task (front t (suc place)) name b in
      let row : Subprogram = row_of c.kind body.words (here body.new.code) in
      let there : called i number ≡ Some row = called_front t i h number row body.there in
      subst (λ l. TellPlaces i program g numbers l (constructs_of c))
      (behind_same body.old.rows.places body.adds.runs.rows.placed body.keeps.rows.placed
      (sym body.adds.runs.rows.located ∙ sym (ap (λ r. r.places) body.adds.rows) ∙ body.keeps.rows.located))
      (task_tells laws t legal restricted i well_formed g package_is numbers place b body.seen body.old body.new body.words body.adds number row there
      (begins_there t i h number c body) refl refl refl (holds_there t i h number c body) (labels_there t i h number c body)
      (handled_there t i h number c body (exceptions_are_named laws.premises t legal restricted) body.adds) (λ q n told. told)
      (in_front t i h (front t (suc place)) None _ body.scope refl body.told))

  operation_places : (owner : Option ℕ) (u : ProtectedItemTree) (x : IsOperation laws t legal restricted owner u)
      → TellsOf (operation_code t i h laws quiet views back shaped legal restricted well_formed owner u x)
  operation_places owner (OperationBody d b) x =
      procedure_places (operation_code t i h laws quiet views back shaped legal restricted well_formed owner (OperationBody d b) x) None
      (λ none. ap (operation_kind (object laws.scopes laws.names laws.premises t legal restricted x.place x.name x.items x.end_name x.at).number) none)
      (operation_enters t i h laws quiet views back shaped legal restricted well_formed owner (OperationBody d b) x)
  operation_places owner (EntryBody d barrier b) x =
      procedure_places (operation_code t i h laws quiet views back shaped legal restricted well_formed owner (EntryBody d barrier b) x) (Some barrier)
      (λ none. refl) (operation_enters t i h laws quiet views back shaped legal restricted well_formed owner (EntryBody d barrier b) x)

  body_places : (number : ℕ) (c : Coded) → slice_get (bodies_of t) number ≡ Some c → TellsOf c
  body_places number c there = let f = body_of t number c there in by_item f.place f.item f.k f.at f.is
    where
      by_item : (place : ℕ) (x : BodyItemTree) (k : ℕ) → slice_get (declared_in t.package_) place ≡ Some x → slice_get (coded_at t place x) k ≡ Some c
          → TellsOf c
      by_item place (OfItem d) k at is = absurd (nothing_there c k is)
      by_item place (SubprogramBody d b) k at is =
          subst TellsOf (only (of_subprogram (front t (suc place)) d b) c k is)
          (procedure_places (of_subprogram (front t (suc place)) d b) None (λ none. refl)
          (package_enters t i h laws quiet views back shaped legal restricted well_formed place d b at))
      by_item place (TaskBody name b) k at is = subst TellsOf (only (of_task (front t (suc place)) name b) c k is) (task_places place name b at)
      by_item place (ProtectedBody name items end_name) k at is =
          let less = slice_get_within (coded_at t place (ProtectedBody name items end_name)) k c is in
          let many = coded_many t place (ProtectedBody name items end_name) in
          let u = element items k (omega (arith, less, many)) in
          subst TellsOf
          (same_some (code_of laws.scopes laws.names laws.premises t legal restricted place name items end_name at k u.0) c
          (sym (coded laws.scopes laws.names laws.premises t legal restricted place name items end_name at k u.0 u.1) ∙ is))
          (operation_places (Some (object laws.scopes laws.names laws.premises t legal restricted place name items end_name at).number) u.0
          (record { place = place; name = name; items = items; end_name = end_name; at = at; k = k; there = u.1; owned = refl }))

  -- ---- the whole table

  module _ (table : List PlaceRow) (placed : table ≡ h.draft.rows.places) where
    table_is : table ≡ h.walk.draft.rows.places
    table_is = placed ∙ ap (λ r. r.places) h.main.rows

    module _ (number : ℕ) (c : Coded) (body : HasBody t h.directory number c h.walk) where
      module _ (r : Identifier) (some : c.head.result ≡ Some r) where
        abbrev y : AddsValueFunction t c.head c.body r body.seen body.old body.words body.new
        y = as_function t c.head c.body body.seen body.old body.words body.new body.adds r some

        abbrev own : PlaceRow
        own = record { first = here body.old.code; behind = here y.mid.code; place = first_statement_place c.body.statements }

        alone : body.keeps.rows.placed ≡ own ∷ []
        alone =
            behind_same body.old.rows.places body.keeps.rows.placed (own ∷ [])
            (sym body.keeps.rows.located ∙ ap (λ z. z.rows.places) y.marked ∙ ap (λ l. l.places ++ own ∷ []) y.adds.rows)

        -- a function declares nothing
        bare : slice_get (bodies_of t) number ≡ Some c → c.body.declarations ≡ []
        bare is =
            let f = body_of t number c is in
            (bodies_sound laws.scopes laws.names laws.premises t legal restricted f.place f.item f.k c f.at f.is).bare r some

        is_returned : slice_get (bodies_of t) number ≡ Some c → IsReturned c.body.declarations c.body.statements c.body.handlers
        is_returned is =
            subst (λ ds. IsReturned ds c.body.statements c.body.handlers) (sym (bare is))
            (returned_there c.body.statements c.body.handlers y.value y.returns)

        own_tells : (is : slice_get (bodies_of t) number ≡ Some c) → TellsReturn i number own (OfStatement (is_returned is).0)
        own_tells is = record {
          statement = (is_returned is).0;
          is = refl;
          place = (is_returned is).2;
          s = row_of c.kind body.words (here body.new.code);
          there = called_front t i h number (row_of c.kind body.words (here body.new.code)) body.there;
          first = sym (begins_there t i h number c body);
          behind = sym (ap (λ z. here z.code) y.marked);
        }

    -- the rows that were added with the code of a body lie within its subprogram
    lie_there : (number : ℕ) (c : Coded) (body : HasBody t h.directory number c h.walk) → All (LiesInSubprogram i number) body.keeps.rows.placed
    lie_there number c body =
        let row : Subprogram = row_of c.kind body.words (here body.new.code) in
        All-weaker (StandsBetween (here body.old.code) (here body.new.code)) (LiesInSubprogram i number)
        (λ q b. record {
          s = row;
          there = called_front t i h number row body.there;
          within = record { low = (let e = begins_there t i h number c body in let l = b.low in omega (arith, e, l)); runs = b.runs; high = b.high };
        })
        body.keeps.rows.placed body.keeps.rows.between

    lies_at : (number : ℕ) (c : Coded) (body : HasBody t h.directory number c h.walk) (index : ℕ) (q : PlaceRow)
        → slice_get body.keeps.rows.placed index ≡ Some q → LiesInSubprogram i number q
    lies_at number c body index q is =
        let rows = body.keeps.rows.placed in
        subst (LiesInSubprogram i number) (get_or_from_slice_get rows index q q is)
        (All-get_or (LiesInSubprogram i number) rows index q (slice_get_within rows index q is) (lie_there number c body))

    of_body : (q : PlaceRow) (x : IsOfBody t h.directory h.walk q) → (x.coded.head.result ≡ None) ⊎ ((r : Identifier) × (x.coded.head.result ≡ Some r))
        → TellsOfBody t i g numbers q
    of_body q x (inl none) =
        let told = body_places x.number x.coded x.there x.number x.body none in
        let r = told_row i program g numbers x.body.keeps.rows.placed (constructs_of x.coded) told x.index q x.among in
        record {
          number = x.number;
          body = x.coded;
          there = x.there;
          lies = lies_at x.number x.coded x.body x.index q x.among;
          index = x.index;
          construct = r.0;
          among = r.1;
          tells = inl r.2;
        }
    of_body q x (inr r) =
        let own_row = own x.number x.coded x.body r.0 r.1 in
        let same : own_row ≡ q =
        only own_row q x.index (ap (λ l. slice_get l x.index) (sym (alone x.number x.coded x.body r.0 r.1)) ∙ x.among) in
        let back = is_returned x.number x.coded x.body r.0 r.1 x.there in
        record {
          number = x.number;
          body = x.coded;
          there = x.there;
          lies = lies_at x.number x.coded x.body x.index q x.among;
          index = 0;
          construct = OfStatement back.0;
          among = back.1;
          tells = inr (subst (λ z. TellsReturn i x.number z (OfStatement back.0)) same (own_tells x.number x.coded x.body r.0 r.1 x.there));
        }

    pub each_told : (index : ℕ) (q : PlaceRow) → slice_get table index ≡ Some q → TellsOfBody t i g numbers q
    each_told index q is =
        let x = h.walked.places index q (ap (λ l. slice_get l index) (sym table_is) ∙ is) in
        of_body q x (either_result x.coded.head.result)

    told_by_result : (number : ℕ) (c : Coded) (there : slice_get (bodies_of t) number ≡ Some c) (body : HasBody t h.directory number c h.walk)
        → (c.head.result ≡ None) ⊎ ((r : Identifier) × (c.head.result ≡ Some r))
        → TellsBody i program g numbers number c.head.result body.keeps.rows.placed (constructs_of c)
    told_by_result number c there body (inl none) =
        subst (λ r. TellsBody i program g numbers number r body.keeps.rows.placed (constructs_of c)) (sym none) (body_places number c there number body none)
    told_by_result number c there body (inr r) =
        let back = is_returned number c body r.0 r.1 there in
        subst (λ o. TellsBody i program g numbers number o body.keeps.rows.placed (constructs_of c)) (sym r.1)
        (own number c body r.0 r.1, OfStatement back.0, alone number c body r.0 r.1, back.1, own_tells number c body r.0 r.1 there)

    pub bodies_told : (number : ℕ) (c : Coded) → slice_get (bodies_of t) number ≡ Some c → HasBodyRows i program g numbers table number c
    bodies_told number c there =
        let body = body_there t i h number c there in
        record {
          before = body.old.rows.places;
          rows = body.keeps.rows.placed;
          after = body.kept.placed;
          together = table_is ∙ body.kept.places ∙ ap (λ l. l ++ body.kept.placed) body.keeps.rows.located
              ∙ append_assoc body.old.rows.places body.keeps.rows.placed body.kept.placed;
          lie = lie_there number c body;
          tell = told_by_result number c there body (either_result c.head.result);
        }

    pub innermost_first : AreInnermostFirst table
    innermost_first =
        let rows = h.walked.rows in
        subst AreInnermostFirst (sym (table_is ∙ rows.rows.located ∙ ap (λ l. l ++ rows.rows.placed) rows.unplaced)) rows.rows.innermost

pub places_are_told : LawsOfNames → QuietStays → ViewsOn → ViewsBack → InitialValuesHaveShape → ImagesHaveSize → PlacesAreTold
places_are_told laws quiet views back shaped sizes t i table legal restricted well_formed has =
    let h = has.program in
    record {
      g = package_of (program_of t) h.directory;
      numbers = numbers_of (program_of t) h.directory;
      linked = sections_linked t i h laws quiet views back shaped legal restricted well_formed sizes;
      each = each_told t i h laws quiet views back shaped legal restricted well_formed table has.placed;
      bodies = bodies_told t i h laws quiet views back shaped legal restricted well_formed table has.placed;
      innermost = innermost_first t i h laws quiet views back shaped legal restricted well_formed table has.placed;
    }
