-- The code of each subprogram of the image keeps the rules of images: that of each body, and that of main.
use Rattle.std.proofs.Common.{◌≡◌, ℕ, zero, suc, ◌+◌, ◌-◌, ◌<◌, ◌⊎◌, inl, inr, List, [], ◌∷◌, length, Bool, true, false, Option, None, Some, refl, sym, ap, ◌∙◌, subst, arith, length-append}
use Rattle.std.specs.Prelude.{is_none, nat_eq, slice_get}
use Rattle.std.proofs.lemmas.Bool.{eq-eqb, lt-ltb}
use Rattle.std.proofs.lemmas.Option.{slice_get_within}
use Rattle.ada_tree.specs.declared.expression.Identifier.{Identifier}
use Rattle.ada_tree.specs.ProgramTree.{BodyItemTree, EntryBody, OperationBody, ProgramTree, ProtectedItemTree}
use Rattle.image.specs.Operations.{called}
use Rattle.image.specs.ObjectTable.{ObjectRow}
use Rattle.image.specs.Rules.{is_entry_of_object, last_end, none_or, some_and}
use Rattle.image.specs.RuleLaws.{begin_of, begin_of-next}
use Rattle.image.specs.Sections.{Sections, end_of, first_place, object_of}
use Rattle.image.specs.declared.subprograms.Subprogram.{Subprogram}
use Rattle.types.specs.Scopes.{Scope}
use Rattle.legality.specs.ProgramRules.{IsLegal}
use Rattle.ravenscar.specs.ProgramRules.{IsRestricted}
use Rattle.program_soundness.proofs.Listing.{same_some}
use Rattle.expr_code.specs.Code.{here}
use Rattle.stmt_code.specs.Emitting.{HasLabels}
use Rattle.stmt_code.specs.declared.subprogram.SubprogramWords.{SubprogramWords}
use Rattle.stmt_code.specs.Whole.{AreAllKept, IsOfImage, KeepsSubprogramRules, KeptCodePasses, PassesOnCode}
use Rattle.program_soundness.specs.Fronts.{front}
use Rattle.package_code.proofs.EntryRows.{entry_told, row_is}
use Rattle.package_code.proofs.OperationBodies.{has_number, object}
use Rattle.package_code.proofs.OperationsAdded as added
use Rattle.stmt_code.specs.Subprograms.{SuitsBody}
use Rattle.step_simulation.specs.part_code.specs.Suiting.{SuitsStatements}
use Rattle.expr_code.specs.declared.visible.Visible.{Visible}
use Rattle.types.specs.Entities.{ProtectedObject}
use Rattle.package_code.specs.Program.{HasProgram}
use Rattle.package_code.specs.Bodies.{Coded, bodies_of, coded_at, number_in, object_number, operation_kind, own_kind, own_name}
use Rattle.package_code.specs.Directory.{AreTold}
use Rattle.package_code.specs.Walking.{HasBody, IsCalledSubprogram, row_of}
use Rattle.package_code.proofs.Coded.{IsBodyOf, body_of, outside_by}
use Rattle.package_code.proofs.InFront.{LawsOfNames}
use Rattle.package_code.proofs.Linking.{begins_there, body_there, called_front, called_main, first_main, holds_main, holds_there, labels_there, main_row}
use Rattle.compiler.proofs.ObjectLines.{is_there, object_within}
use Rattle.compiler.proofs.Suited.{front_suited, operation_suited}
use Rattle.package_code.proofs.Counted.{IsOfBody, owner_of}
use Rattle.package_code.proofs.Walked.{last_or_before}
use Rattle.meaning.specs.Programs.{program_of}

-- each is, where each by its number is
all_kept : (i : Sections) (all : List Subprogram) (number first : ℕ)
    → ((n : ℕ) (s : Subprogram) → slice_get all n ≡ Some s → KeepsSubprogramRules i (number + n) (begin_of first all n) s)
    → AreAllKept i number first all
all_kept i [] number first h = tt
all_kept i (s ∷ rest) number first h =
    let none : number + 0 ≡ number = omega arith in (
      subst (λ m. KeepsSubprogramRules i m first s) none (h 0 s refl),
      all_kept i rest (number + 1) s.end_ (λ n x at.
          let next : number + suc n ≡ (number + 1) + n = omega arith in
          subst (λ m. KeepsSubprogramRules i m (begin_of s.end_ rest n) x) next
          (subst (λ p. KeepsSubprogramRules i (number + suc n) p x) (begin_of-next first n s rest) (h (suc n) x at))),
    )

begins : (i : Sections) (n : ℕ) → first_place i n ≡ begin_of 0 i.subprograms n
begins i zero = refl
begins i (suc n) = refl

-- what suits statements suits a body that stores nothing as well
suits_body : (v : Visible) (i : Sections) (s : Subprogram) (stores : Bool) → SuitsStatements v i s → SuitsBody stores v i s
suits_body v i s true h = h
suits_body v i s false h = h.names

-- a body of no protected object; that of a task is given nothing, and gives nothing back
bare_body : (t : ProgramTree) (i : Sections) (place : ℕ) (x : BodyItemTree) (k : ℕ) (c : Coded) → slice_get (coded_at t place x) k ≡ Some c → c.owner ≡ None
    → (s : Scope) (words : SubprogramWords) → IsCalledSubprogram t c.head s words → (number end : ℕ)
    → IsOfImage i number (row_of c.kind words end) × (object_of c.kind ≡ None)
bare_body t i place x k c is outside s words called_by number end =
    outside_by t place (λ y n e. IsCalledSubprogram t e.head s words → IsOfImage i number (row_of e.kind words end) × (object_of e.kind ≡ None))
    (λ d b h. (record { object = refl; entry = refl; bare = λ never. cc }, refl))
    (λ name b h. (record { object = refl; entry = refl; bare = λ task. (h.passed [] refl, h.results [] refl) }, refl)) x k c is outside called_by

-- a procedure or a function of an object that is there, or the body of its entry, of which the object's row has the number
of_object_there : (i : Sections) (o number : ℕ) (u : ProtectedItemTree) (words : SubprogramWords) (end : ℕ) → o < length i.objects
    → ((row : ObjectRow) → slice_get i.objects o ≡ Some row → is_entry_of_object i number (own_kind o u) ≡ true)
    → IsOfImage i number (row_of (own_kind o u) words end)
of_object_there i o number (OperationBody d b) words end up entry = by_result d.result
  where
    by_result : (r : Option Identifier) → IsOfImage i number (row_of (operation_kind o r) words end)
    by_result None = record { object = lt-ltb o (length i.objects) up; entry = refl; bare = λ never. cc }
    by_result (Some r) = record { object = lt-ltb o (length i.objects) up; entry = refl; bare = λ never. cc }
of_object_there i o number (EntryBody d barrier b) words end up entry =
    let row = is_there i.objects o up in
    record { object = lt-ltb o (length i.objects) up; entry = entry row.0 row.1; bare = λ never. cc }

-- in front of its parameters what is visible behind its name is
own_front : (t : ProgramTree) (place : ℕ) (x : BodyItemTree) (k : ℕ) (c : Coded) → slice_get (coded_at t place x) k ≡ Some c → c.owner ≡ None
    → c.front ≡ front t (suc place)
own_front t place = outside_by t place (λ y n e. e.front ≡ front t (suc place)) (λ d b. refl) (λ name b. refl)

module _ (laws : LawsOfNames) (passes : KeptCodePasses) (t : ProgramTree) (legal : IsLegal t) (restricted : IsRestricted t) (i : Sections) (h : HasProgram t i)
  where
    abbrev rows : List Subprogram
    rows = h.walk.subprograms.items

    -- the subprogram of this number, which is kept
    record IsKeptThere (n : ℕ) : Type 0 where
      s : Subprogram
      there : called i n ≡ Some s
      kept : KeepsSubprogramRules i n (first_place i n) s

    module _ (n : ℕ) (c : Coded) (is : slice_get (bodies_of t) n ≡ Some c) where
      abbrev body : HasBody t h.directory n c h.walk
      body = body_there t i h n c is

      abbrev row : Subprogram
      row = row_of c.kind body.words (here body.new.code)

      kept_there : SuitsBody (is_none c.head.result) body.seen i row → IsOfImage i n row → IsKeptThere n
      kept_there suits belongs = record {
        s = row;
        there = called_front t i h n row body.there;
        kept = subst (λ p. KeepsSubprogramRules i n p row) (sym (begins_there t i h n c body))
            (passes.added (is_none c.head.result) body.seen body.old body.new body.words body.keeps i n row (holds_there t i h n c body)
            (labels_there t i h n c body)
            (record { parameters = refl; results = refl; locals = refl; stack = refl }) suits refl belongs);
      }

      abbrev at : IsBodyOf t n c
      at = body_of t n c is

      outside_kept : c.owner ≡ None → IsKeptThere n
      outside_kept outside =
          let bare = bare_body t i at.place at.item at.k c at.is outside body.seen.scope body.words body.called n (here body.new.code) in
          kept_there
          (suits_body body.seen i row (is_none c.head.result)
          (front_suited laws t legal restricted i h body.seen (suc at.place) (body.scope ∙ own_front t at.place at.item at.k c at.is outside)
          (subst (λ o. AreTold (program_of t).scope h.directory o body.seen) outside body.told) row bare.1))
          bare.0

      module _ (o : ℕ) (owned : c.owner ≡ Some o) where
        x : added.IsInObject laws.scopes laws.names laws.premises t legal restricted at.place at.k c
        x = added.in_object laws.scopes laws.names laws.premises t legal restricted at.place at.item at.k c o at.is at.at owned

        abbrev obj : ProtectedObject
        obj = object laws.scopes laws.names laws.premises t legal restricted at.place x.name x.items x.end_name x.at

        number : object_number (program_of t).scope x.name ≡ obj.number
        number = added.number_is laws.scopes laws.names laws.premises t legal restricted at.place x.name x.items x.end_name x.at

        -- the row of the object has the number of the body of its entry
        entry_there : (u : ProtectedItemTree) → slice_get x.items at.k ≡ Some u → c.head.name.name ≡ own_name u → (line : ObjectRow)
            → slice_get i.objects obj.number ≡ Some line
            → is_entry_of_object i n (own_kind obj.number u) ≡ true
        entry_there (OperationBody d b) there named line is_line = by_result d.result
          where
            by_result : (r : Option Identifier) → is_entry_of_object i n (operation_kind obj.number r) ≡ true
            by_result None = refl
            by_result (Some r) = refl
        entry_there (EntryBody d barrier b) there named line is_line =
            let z = row_is t i.objects h.objects obj.number line is_line in
            let told = entry_told laws t legal restricted at.place x.name x.items x.end_name x.at at.k d barrier b there line z.0 z.1 in
            let numbered : number_in t (Some obj.number) d.name.name ≡ Some n =
            has_number laws.scopes laws.names laws.premises t legal restricted at.place x.name x.items x.end_name x.at at.k (EntryBody d barrier b) there
            ∙ ap Some (sym at.before) in
            ap (λ r. none_or r (λ q. some_and q.entry (nat_eq n))) is_line ∙ ap (λ e. some_and e (nat_eq n)) (told ∙ numbered) ∙ eq-eqb n n refl

        inside_kept : IsKeptThere n
        inside_kept =
            let kind : c.kind ≡ own_kind obj.number x.item = ap (λ z. z.kind) x.is ∙ ap (λ m. own_kind m x.item) number in
            let owner : c.owner ≡ Some obj.number = ap (λ z. z.owner) x.is ∙ ap Some number in
            let suits = operation_suited laws t legal restricted i h at.place x.name x.items x.end_name x.at at.k x.item x.there body.seen
            (body.scope ∙ ap (λ z. z.front) x.is) (subst (λ z. AreTold (program_of t).scope h.directory z body.seen) owner body.told) row kind in
            kept_there (subst (λ r. SuitsBody (is_none r) body.seen i row) (sym (ap (λ z. z.head.result) x.is)) suits)
            (subst (λ z. IsOfImage i n (row_of z body.words (here body.new.code))) (sym kind)
            (of_object_there i obj.number n x.item body.words (here body.new.code)
            (object_within laws t legal restricted i h at.place x.name x.items x.end_name x.at)
            (entry_there x.item x.there (ap (λ z. z.head.name.name) x.is))))

      one_body : IsKeptThere n
      one_body = by_owner c.owner refl
        where
          by_owner : (o : Option ℕ) → c.owner ≡ o → IsKeptThere n
          by_owner None e = outside_kept e
          by_owner (Some o) e = inside_kept o e

    body_kept : (n : ℕ) → IsOfBody t h.directory n h.walk → IsKeptThere n
    body_kept n x = one_body n x.code x.is

    main_kept : IsKeptThere (length rows)
    main_kept =
        let row : Subprogram = main_row h.words (here h.draft.code) in
        record {
          s = row;
          there = called_main t i h;
          kept = subst (λ p. KeepsSubprogramRules i (length rows) p row) (sym (first_main t i h))
              (passes.added true h.walk.visible h.walk.draft h.draft h.words h.keeps i (length rows) row (holds_main t i h)
              (let labels : HasLabels i h.draft.labels = record { labels = λ k y le e. ap (λ l. slice_get l k) h.labels ∙ e } in labels)
              (record { parameters = refl; results = refl; locals = refl; stack = refl })
              (front_suited laws t legal restricted i h h.walk.visible h.walk.place h.walked.scope h.walked.told row refl) refl
              (record { object = refl; entry = refl; bare = λ task. (h.main.passed, h.main.results) }));
        }

    pub long : length i.subprograms ≡ suc (length rows)
    long =
        let e = ap length h.subprograms in
        let both = length-append rows (main_row h.words (here h.draft.code) ∷ []) in
        omega (arith, e, both)

    one_kept : (n : ℕ) (s : Subprogram) → slice_get i.subprograms n ≡ Some s → KeepsSubprogramRules i n (begin_of 0 i.subprograms n) s
    one_kept n s at =
        let up = slice_get_within i.subprograms n s at in
        by_number (last_or_before t h.directory n (length rows) (omega (arith, up, long)))
      where
        of_there : IsKeptThere n → KeepsSubprogramRules i n (begin_of 0 i.subprograms n) s
        of_there x =
            subst (λ p. KeepsSubprogramRules i n p s) (begins i n) (subst (KeepsSubprogramRules i n (first_place i n)) (same_some x.s s (sym x.there ∙ at)) x.kept)

        by_number : (n ≡ length rows) ⊎ (n < length rows) → KeepsSubprogramRules i n (begin_of 0 i.subprograms n) s
        by_number (inl same) = of_there (subst IsKeptThere (sym same) main_kept)
        by_number (inr less) = of_there (body_kept n (owner_of t i h n less))

    ends : last_end i.subprograms ≡ length i.instructions
    ends =
        let before : length i.subprograms - 1 ≡ length rows = omega (arith, long) in
        ap (λ m. end_of (slice_get i.subprograms m)) before ∙ ap end_of (called_main t i h) ∙ sym (ap length h.instructions)

    pub code_passes : PassesOnCode i
    code_passes =
        passes.whole i
        (all_kept i i.subprograms 0 0 (λ n s at.
        let first : n ≡ 0 + n = omega arith in
        subst (λ m. KeepsSubprogramRules i m (begin_of 0 i.subprograms n) s) first (one_kept n s at))) ends
