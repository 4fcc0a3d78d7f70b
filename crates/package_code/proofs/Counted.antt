-- Which body is that of a subprogram of the image, by its number, and how many instructions the code of each has.
use Rattle.std.proofs.Common.{◌≡◌, ◌⊎◌, inl, inr, ℕ, zero, suc, ◌+◌, ◌-◌, ◌<◌, ◌≤◌, List, [], ◌∷◌, ◌++◌, length, Option, Some, None, refl, sym, ap, ◌∙◌, subst, arith, length-append, take_all}
use Rattle.std.specs.Prelude.{slice_get}
use Rattle.std.proofs.lemmas.List.{length-map}
use Rattle.ada_tree.specs.declared.declaration.Formal.{Formal}
use Rattle.ada_tree.specs.declared.expression.Identifier.{Identifier}
use Rattle.ada_tree.specs.ExpressionTree.{ExprTree}
use Rattle.ada_tree.specs.StatementTree as tree
use Rattle.ada_tree.specs.StatementTree.{MoreStmts, NoStmts, StmtTrees, SubprogramTree}
use Rattle.ada_tree.specs.ProgramTree.{BodyItemTree, BodyTree, ProgramTree}
use Rattle.ada_tree.specs.Size.{expr_size, size_if_any, stmts_size}
use Rattle.types.specs.Scopes.{Scope}
use Rattle.image.specs.Operations.{called}
use Rattle.image.specs.Sections.{Sections, end_of, first_place}
use Rattle.image.specs.declared.subprograms.Subprogram.{Subprogram}
use Rattle.expr_soundness.specs.meaning.specs.Programs.{returned}
use Rattle.program_soundness.specs.Fronts.{declared_in}
use Rattle.program_soundness.proofs.Callables.{at_map}
use Rattle.program_soundness.proofs.Listing.{front_at}
use Rattle.expr_code.specs.Code.{here}
use Rattle.expr_code.specs.Coming.{size_of}
use Rattle.expr_code.specs.declared.visible.Visible.{Visible}
use Rattle.expr_code.proofs.Growing.{get_last}
use Rattle.step_simulation.specs.part_code.specs.Bounds.{function_bound, main_bound, procedure_bound}
use Rattle.stmt_code.specs.Subprograms.{AddsProcedure}
use Rattle.stmt_code.specs.declared.draft.Draft.{Draft}
use Rattle.stmt_code.specs.declared.subprogram.SubprogramWords.{SubprogramWords}
use Rattle.package_code.specs.Bodies.{Coded, bodies_among, bodies_before, bodies_of, or_zero}
use Rattle.package_code.specs.Counts.{bound_of, bounds_from, instructions_bound}
use Rattle.package_code.specs.Laws.{SectionsAreBounded}
use Rattle.package_code.specs.Program.{HasProgram}
use Rattle.package_code.specs.Walking.{AddsSubprogram, AddsValueFunction, HasBody, row_of}
use Rattle.package_code.specs.declared.directory.Directory.{Directory}
use Rattle.package_code.specs.declared.walk.Walk.{Walk}
use Rattle.package_code.proofs.Coded.{bounds_are, from_many}
use Rattle.package_code.proofs.Linking.{called_front, called_main, first_is, first_main, main_row}

-- ---- bodies by their numbers

-- there is a body of each number
pub there_is : {X : Type 0} (xs : List X) (n : ℕ) → n < length xs → (x : X) × (slice_get xs n ≡ Some x)
there_is [] n less = absurd (omega (arith, less))
there_is (x ∷ xs) zero less = (x, refl)
there_is (x ∷ xs) (suc n) less = there_is xs n (omega (arith, less))

pub past : {X : Type 0} (xs : List X) (n : ℕ) → length xs ≤ n → slice_get xs n ≡ None
past [] n h = refl
past (x ∷ xs) zero h = absurd (omega (arith, h))
past (x ∷ xs) (suc n) h = past xs n (omega (arith, h))

module _ (t : ProgramTree) where
  abbrev items : List BodyItemTree
  items = declared_in t.package_

  abbrev bounds : List ℕ
  bounds = bounds_from t 0 items

  bounds_many : length bounds ≡ bodies_among items
  bounds_many = ap length (bounds_are t 0 items) ∙ length-map (bodies_of t) bound_of ∙ from_many t 0 items

  -- the bound of a body stands at its number
  pub bound_of_body : (number : ℕ) (c : Coded) → slice_get (bodies_of t) number ≡ Some c → instructions_bound t number ≡ bound_of c
  bound_of_body number c there =
      ap or_zero (front_at bounds (main_bound t.main.statements ∷ []) number (bound_of c)
      (ap (λ l. slice_get l number) (bounds_are t 0 items) ∙ at_map bound_of (bodies_of t) number c there))

  pub bound_of_main : instructions_bound t (bodies_among items) ≡ main_bound t.main.statements
  bound_of_main =
      ap (λ n. or_zero (slice_get (bounds ++ main_bound t.main.statements ∷ []) n)) (sym bounds_many)
      ∙ ap or_zero (get_last bounds (main_bound t.main.statements))

-- ---- the code of a body

-- a function's body is its one return
returned_within : (all : StmtTrees) (value : ExprTree) → returned all ≡ Some value → expr_size value ≤ stmts_size all
returned_within (MoreStmts (tree.Return place e) NoStmts) value h = (let same = ap (size_if_any expr_size) h in omega (arith, same))
returned_within all value h = absurd cc

pub function_within : (s : Scope) (fs : List Formal) (b : BodyTree) (value : ExprTree) → returned b.statements ≡ Some value
    → function_bound fs value ≤ procedure_bound s fs b
function_within s fs b value h = (let up = returned_within b.statements value h in omega (arith, up))

abbrev AddsAny : ProgramTree → SubprogramTree → BodyTree → Visible → (old : Draft) → SubprogramWords → (new : Draft) → Option Identifier → Type 0
AddsAny t d b v old words new o = elim o [ None ↦ AddsProcedure v old d.formals b words new | Some r ↦ AddsValueFunction t d b r v old words new ]

pub adds_few : (t : ProgramTree) (d : SubprogramTree) (b : BodyTree) (v : Visible) (old : Draft) (words : SubprogramWords) (new : Draft)
    → AddsSubprogram t d b v old words new → here new.code ≤ here old.code + procedure_bound v.scope d.formals b
adds_few t d b v old words new adds = by_result d.result adds
  where
    by_result : (o : Option Identifier) → AddsAny t d b v old words new o → here new.code ≤ here old.code + procedure_bound v.scope d.formals b
    by_result None h = h.sized
    by_result (Some r) h =
        let few = h.adds.sized in
        let up = function_within v.scope d.formals b h.value h.returns in
        let same = ap (λ z. here z.code) h.marked in
        omega (arith, few, up, same)

-- ---- the code of each subprogram

-- the subprogram with this number is that of a body
pub record IsOfBody (t : ProgramTree) (directory : Directory) (number : ℕ) (w : Walk) : Type 0 where
  pub code : Coded
  pub is : slice_get (bodies_of t) number ≡ Some code
  pub body : HasBody t directory number code w

module _ (t : ProgramTree) (i : Sections) (h : HasProgram t i) where
  abbrev all : List BodyItemTree
  all = declared_in t.package_

  abbrev rows : List Subprogram
  rows = h.walk.subprograms.items

  many : length rows ≡ bodies_among all
  many = h.walked.many ∙ ap (bodies_before t) h.whole ∙ ap bodies_among (take_all (length all) all (omega arith))

  size_is : (number first last : ℕ) (s : Subprogram) → called i number ≡ Some s → s.end_ ≡ last → first_place i number ≡ first
      → size_of i number ≡ last - first
  size_is number first last s there ends begins = (λ j. end_of (there j) - begins j) ∙ ap (λ n. n - first) ends

  pub owner_of : (number : ℕ) → number < length rows → IsOfBody t h.directory number h.walk
  owner_of number less =
      let counted = from_many t 0 all in
      let x = there_is (bodies_of t) number (omega (arith, less, many, counted)) in
      record { code = x.0; is = x.1; body = h.walked.bodies number x.0 less x.1 }

  size_body : (number : ℕ) → number < length rows → size_of i number ≤ instructions_bound t number
  size_body number less =
      let x = owner_of number less in
      let c : Coded = x.code in
      let body : HasBody t h.directory number c h.walk = x.body in
      let row : Subprogram = row_of c.kind body.words (here body.new.code) in
      let there : called i number ≡ Some row = called_front t i h number row body.there in
      let begins : first_place i number ≡ here body.old.code = first_is t i h number (omega (arith, less)) ∙ body.begins in
      let size = size_is number (here body.old.code) (here body.new.code) row there refl begins in
      let few = adds_few t c.head c.body body.seen body.old body.words body.new body.adds in
      let scope : procedure_bound body.seen.scope c.head.formals c.body ≡ bound_of c = ap (λ s. procedure_bound s c.head.formals c.body) body.scope in
      under (size_of i number) (here body.new.code) (here body.old.code) (procedure_bound body.seen.scope c.head.formals c.body)
      (instructions_bound t number) size few (scope ∙ sym (bound_of_body t number c x.is))
    where
      under : (size last first mid bound : ℕ) → size ≡ last - first → last ≤ first + mid → mid ≡ bound → size ≤ bound
      under size last first mid bound is few same = omega (arith, is, few, same)

  size_main : size_of i (length rows) ≤ instructions_bound t (length rows)
  size_main =
      let size : size_of i (length rows) ≡ here h.draft.code - here h.walk.draft.code =
      size_is (length rows) (here h.walk.draft.code) (here h.draft.code) (main_row h.words (here h.draft.code)) (called_main t i h) refl (first_main t i h) in
      let few = h.main.sized in
      let bound = ap (instructions_bound t) many ∙ bound_of_main t in
      under (size_of i (length rows)) (here h.draft.code) (here h.walk.draft.code) (main_bound t.main.statements)
      (instructions_bound t (length rows)) size few (sym bound)
    where
      under : (size last first mid bound : ℕ) → size ≡ last - first → last ≤ first + mid → mid ≡ bound → size ≤ bound
      under size last first mid bound is few same = omega (arith, is, few, same)

  -- as many as bodies with code
  pub bodies_many : length rows ≡ length (bodies_of t)
  bodies_many = many ∙ sym (from_many t 0 all)

  -- there is none with a greater number
  pub size_past : (number : ℕ) → length rows < number → size_of i number ≡ 0
  size_past number more =
      let none : called i number ≡ None = past i.subprograms number (let long = ap length h.subprograms ∙ length-append rows (main_row h.words (here h.draft.code) ∷ []) in omega (arith, long, more)) in
      (λ j. end_of (none j) - first_place i number) ∙ nothing (first_place i number)
    where
      nothing : (n : ℕ) → 0 - n ≡ 0
      nothing n = omega arith

  size_none : (number : ℕ) → length rows < number → size_of i number ≤ instructions_bound t number
  size_none number more = (let e = size_past number more in omega (arith, e))

pub sections_are_bounded : SectionsAreBounded
sections_are_bounded t i h number = by_order (order number (length h.walk.subprograms.items))
  where
    order : (m n : ℕ) → (m < n) ⊎ ((m ≡ n) ⊎ (n < m))
    order zero zero = inr (inl refl)
    order zero (suc n) = inl (omega arith)
    order (suc m) zero = inr (inr (omega arith))
    order (suc m) (suc n) = elim (order m n) [
      | inl e ↦ inl (omega (arith, e))
      | inr e ↦ elim e [ inl same ↦ inr (inl (ap suc same)) | inr more ↦ inr (inr (omega (arith, more))) ]
    ]

    by_order : (number < length h.walk.subprograms.items) ⊎ ((number ≡ length h.walk.subprograms.items) ⊎ (length h.walk.subprograms.items < number))
        → size_of i number ≤ instructions_bound t number
    by_order (inl less) = size_body t i h number less
    by_order (inr (inl same)) = subst (λ n. size_of i n ≤ instructions_bound t n) (sym same) (size_main t i h)
    by_order (inr (inr more)) = size_none t i h number more
