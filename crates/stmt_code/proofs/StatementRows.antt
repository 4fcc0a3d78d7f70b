-- The rows that statements and bodies add, of handlers and of places: one induction over the forms.
use Rattle.std.proofs.Common.{◌≡◌, ℕ, ◌+◌, ◌≤◌, List, [], ◌∷◌, ◌++◌, All, Bool, true, false, Option, None, Some, length, refl, sym, subst, arith}
use Rattle.std.specs.Prelude.{◌||◌}
use Rattle.std.proofs.lemmas.List.Elements.{All-cons, All-nil}
use Rattle.ada_tree.specs.declared.statement.ExceptionChoice.{ExceptionChoice}
use Rattle.ada_tree.specs.ExpressionTree.{ExprTree, NameTree}
use Rattle.ada_tree.specs.ProgramTree.{BodyTree}
use Rattle.ada_tree.specs.StatementTree.{AlternativeTrees, Assignment, Block, Call, Case, ChoicesTree, DeclarationTree, DelayUntil, ElsifTrees, Exit, For, Forever, HandlerTrees, If, IterationTree, LocalObject, LocalProtected, LocalTask, Loop, MoreAlternatives, MoreElsifs, MoreHandlers, MoreStmts, NoAlternatives, NoElsifs, NoHandlers, NoStmts, OtherValues, Raise, Return, StmtTree, StmtTrees, Values, While}
use Rattle.handlers.specs.declared.rows.Row.{Row}
use Rattle.expr_code.specs.Pieces.{narrow, nothing, one}
use Rattle.expr_code.specs.declared.visible.Visible.{Visible}
use Rattle.expr_code.proofs.StandingPieces.{narrow_same}
use Rattle.image.specs.declared.instruction.Operation.TheVariants as op
use Rattle.part_code.specs.ChoiceRows.{choice_rows, row_for}
use Rattle.part_code.specs.Lines.{LabelledValue, line_of}
use Rattle.part_code.specs.Raising.{choice_number}
use Rattle.part_code.specs.Statements.{with_exit}
use Rattle.type_rules.specs.SubtypeNames.{subtype_of}
use Rattle.types.specs.declared.entity.Subtype.{Subtype}
use Rattle.types.specs.Scopes.{Scope}
use Rattle.stmt_code.specs.Drafting.{CodePart, Start, begun, coded, marked, skipping, takes, ◌▹◌}
use Rattle.stmt_code.specs.Leaves.{any_leave, handlers_leave}
use Rattle.stmt_code.specs.Placing.{stmt_place}
use Rattle.stmt_code.specs.SimpleCode.{CallForm, Code, Line, call_form}
use Rattle.stmt_code.specs.StatementCode as forms
use Rattle.stmt_code.specs.StatementCode.{Site, after_local, after_locals, alternative_code, alternatives_code, called_code, elsifs_code, fork_code, guarded_code, handlers_code, if_code, in_body, in_handler, in_turn, kept_code, leads_to, line_code, local_code, local_object, locals_code, loop_code, run_code, sequence_code, stmt_code, stmts_code, with_way}
use Rattle.stmt_code.specs.declared.leaves.WayOut.TheVariants as way
use Rattle.stmt_code.proofs.ChoiceRows.{choice_known}
use Rattle.stmt_code.proofs.RowsKept.{Finds, HandlersKeep, KeepsRows, OwnRows, own_more, own_none, own_skipping, own_then, rows_begun, rows_both, rows_coded, rows_covered, rows_labelled, rows_marked, rows_skipping, rows_takes}

-- ---- the rows of choices

-- what holds of the row for each exception, and for none, holds of all
each_row : (exceptions : List (List ℕ)) (q : Row) (P : Row → Type 0) → ((k : ℕ) → k ≤ length exceptions → P (record q { exception = k })) → P q
    → (cs : List ExceptionChoice) → All P (choice_rows exceptions q cs)
each_row exceptions q P one none [] = All-nil P
each_row exceptions q P one none (c ∷ cs) = by_number (choice_number exceptions c) refl (each_row exceptions q P one none cs)
  where
    by_number : (o : Option ℕ) → choice_number exceptions c ≡ o → All P (choice_rows exceptions q cs)
        → All P (row_for q (choice_number exceptions c) ∷ choice_rows exceptions q cs)
    by_number None is rest =
        All-cons P (row_for q (choice_number exceptions c)) (choice_rows exceptions q cs) (subst (λ x. P (row_for q x)) (sym is) none) rest
    by_number (Some k) is rest =
        All-cons P (row_for q (choice_number exceptions c)) (choice_rows exceptions q cs)
        (subst (λ x. P (row_for q x)) (sym is) (one k (choice_known exceptions q c k is))) rest

-- ---- parts

module _ (n : ℕ) where
  called_rows : (v : Visible) (name : NameTree) (form : CallForm) → KeepsRows n (called_code v name form)
  called_rows v name (Code a) = rows_coded n a
  called_rows v name Line = by_line (line_of name)
    where
      by_line : (o : Option LabelledValue) → KeepsRows n (line_code v o)
      by_line None = rows_coded n nothing
      by_line (Some line) = rows_both n (coded _) _ (rows_coded n _) (rows_labelled n line.label _)

  local_rows : (v : Visible) (taken : ℕ) (o : Option Subtype) (value : Option ExprTree) → KeepsRows n (local_object v taken o value)
  local_rows v taken None value = rows_coded n nothing
  local_rows v taken (Some t) value = rows_both n (takes _) _ (rows_takes n _) (rows_coded n _)

  locals_rows : (c : Site) (ds : List DeclarationTree) → KeepsRows n (locals_code c ds)
  locals_rows c [] = rows_coded n nothing
  locals_rows c (LocalObject d ∷ ds) =
      rows_both n (local_code c (LocalObject d)) (locals_code (after_local c (LocalObject d)) ds)
      (rows_marked n d.name.place (local_object c.visible c.taken (subtype_of c.visible.scope d.subtype) d.value)
      (local_rows c.visible c.taken (subtype_of c.visible.scope d.subtype) d.value)) (locals_rows (after_local c (LocalObject d)) ds)
  locals_rows c (LocalTask d ∷ ds) = rows_both n (coded nothing) (locals_code c ds) (rows_coded n nothing) (locals_rows c ds)
  locals_rows c (LocalProtected d ∷ ds) = rows_both n (coded nothing) (locals_code c ds) (rows_coded n nothing) (locals_rows c ds)

  guarded_rows : (v : Visible) (e : ExprTree) (holds : CodePart) → KeepsRows n holds → KeepsRows n (guarded_code v e holds)
  guarded_rows v e holds p = rows_both n (coded _) (skipping 0 1 op.JumpIfZero holds) (rows_coded n _) (rows_skipping n 0 1 op.JumpIfZero holds p)

  fork_rows : (v : Visible) (e : ExprTree) (holds fails : CodePart) → KeepsRows n holds → KeepsRows n fails → KeepsRows n (fork_code v e holds fails)
  fork_rows v e holds fails p q =
      rows_both n (coded _) (skipping 1 1 op.JumpIfZero holds ▹ skipping 0 0 op.Jump fails) (rows_coded n _)
      (rows_both n (skipping 1 1 op.JumpIfZero holds) (skipping 0 0 op.Jump fails) (rows_skipping n 1 1 op.JumpIfZero holds p)
      (rows_skipping n 0 0 op.Jump fails q))

  if_rows : (v : Visible) (e : ExprTree) (parts : ElsifTrees) (others : StmtTrees) (holds fails : CodePart) → KeepsRows n holds → KeepsRows n fails
      → KeepsRows n (if_code v e parts others holds fails)
  if_rows v e NoElsifs NoStmts holds fails p q = guarded_rows v e holds p
  if_rows v e NoElsifs (MoreStmts x rest) holds fails p q = fork_rows v e holds fails p q
  if_rows v e (MoreElsifs condition body rest) others holds fails p q = fork_rows v e holds fails p q

  alternative_rows : (s : Scope) (cs : ChoicesTree) (body others : CodePart) → KeepsRows n body → KeepsRows n others
      → KeepsRows n (alternative_code s cs body others)
  alternative_rows s (Values cs) body others p q =
      let chosen = coded (one 1 op.Drop) ▹ body in
      rows_both n (coded _) (skipping 1 1 op.Jump chosen ▹ skipping 0 0 op.Jump others) (rows_coded n _)
      (rows_both n (skipping 1 1 op.Jump chosen) (skipping 0 0 op.Jump others)
      (rows_skipping n 1 1 op.Jump chosen (rows_both n (coded (one 1 op.Drop)) body (rows_coded n (one 1 op.Drop)) p)) (rows_skipping n 0 0 op.Jump others q))
  alternative_rows s (OtherValues place) body others p q =
      rows_both n (coded (one 1 op.Drop) ▹ body) (skipping 0 0 op.Jump others) (rows_both n (coded (one 1 op.Drop)) body (rows_coded n (one 1 op.Drop)) p)
      (rows_skipping n 0 0 op.Jump others q)

  way_rows : (leaves : Bool) (f : Option ℕ → CodePart) → ((o : Option ℕ) → KeepsRows n (f o)) → KeepsRows n (with_way leaves f)
  way_rows false f p = p None
  way_rows true f p =
      rows_begun n _
      (λ start. rows_both n (coded _) (skipping 0 0 op.Jump (f (Some (narrow (start + 1))))) (rows_coded n _)
      (rows_skipping n 0 0 op.Jump (f (Some (narrow (start + 1)))) (p (Some (narrow (start + 1))))))

  loop_rows : (c : Site) (i : IterationTree) (body : Site → CodePart) → ((inner : Site) → inner.exceptions ≡ c.exceptions → KeepsRows n (body inner))
      → KeepsRows n (loop_code c i body)
  loop_rows c Forever body p = rows_begun n _ (λ turn. rows_both n (body c) (coded _) (p c refl) (rows_coded n _))
  loop_rows c (While e) body p =
      rows_begun n _
      (λ turn. rows_both n (coded _) _ (rows_coded n _)
      (rows_skipping n 0 1 op.JumpIfZero _ (rows_both n (body c) (coded _) (p c refl) (rows_coded n _))))
  loop_rows c (For parameter reversed r) body p =
      rows_both n (takes _) _ (rows_takes n _)
      (rows_both n (coded _) _ (rows_coded n _) (by_full _))
    where
      turns_kept : (t : _) → KeepsRows n (forms.turns_code t (body (in_turn c parameter r)))
      turns_kept t =
          rows_begun n _
          (λ turn. rows_both n (body (in_turn c parameter r)) _ (p (in_turn c parameter r) refl)
          (rows_both n (coded _) _ (rows_coded n _) (rows_skipping n 0 1 op.JumpIfNotZero (coded _) (rows_coded n _))))

      by_full : (full : Bool) → KeepsRows n (forms.ranged_code full (forms.turns_at c.taken reversed) (forms.turns_code (forms.turns_at c.taken reversed)
          (body (in_turn c parameter r))))
      by_full true = turns_kept (forms.turns_at c.taken reversed)
      by_full false =
          rows_both n (coded _) _ (rows_coded n _) (rows_skipping n 0 1 op.JumpIfNotZero _ (turns_kept (forms.turns_at c.taken reversed)))

  sequence_rows : (all : HandlerTrees) (body : CodePart) (handlers : Row → CodePart) → KeepsRows n body → ((q : Row) → q.exception ≡ 0 → HandlersKeep n q [] (handlers q))
      → KeepsRows n (sequence_code all body handlers)
  sequence_rows NoHandlers body handlers p k = p
  sequence_rows (MoreHandlers choices first rest) body handlers p k = rows_covered n body handlers p k

-- ---- one handler

first_there : (taken : ℕ) (s : Start) (b : CodePart) → Finds s.place ((kept_code taken ▹ b) s).code s.place
unfolding coded one takes ◌▹◌ narrow
first_there taken s b =
    record { index = 0; is = (let e : s.place ≡ s.place + 0 = omega arith in e); operation = op.StoreLocal (narrow taken); there = refl }

module _ (n : ℕ) (exceptions : List (List ℕ)) (few : length exceptions ≤ n) (q : Row) (own : List Row) (taken : ℕ) (cs : List ExceptionChoice) (body : CodePart)
    (rest : (target : ℕ) → CodePart) where
  abbrev whole : ℕ → CodePart
  whole target = kept_code taken ▹ body ▹ skipping 0 0 op.Jump (rest target)

  abbrev mine : ℕ → List Row
  mine target = choice_rows exceptions (leads_to q target) cs

  handler_at : KeepsRows n body → (target : ℕ) → HandlersKeep n q (own ++ mine target) (rest target) → HandlersKeep n q (own ++ mine target) (whole target)
  handler_at p target k =
      let store = coded (one 1 (op.StoreLocal (narrow taken))) in
      own_then n q (own ++ mine target) (kept_code taken) (body ▹ skipping 0 0 op.Jump (rest target))
      (rows_both n (takes (taken + 1)) store (rows_takes n (taken + 1)) (rows_coded n (one 1 (op.StoreLocal (narrow taken)))))
      (own_then n q (own ++ mine target) body (skipping 0 0 op.Jump (rest target)) p
      (own_skipping n q (own ++ mine target) 0 0 op.Jump (rest target) k))

  handler_own : q.exception ≡ 0 → (s : Start) → s.place + length (whole s.place s).code ≤ 65535
      → OwnRows n q (own ++ mine s.place) s.place (whole s.place s).code (whole s.place s).rows
      → OwnRows n q own s.place (whole s.place s).code (whole s.place s).rows
  handler_own zero_is s low h =
      let code = (whole s.place s).code in
      let at = leads_to q s.place in
      let target : narrow s.place ≡ s.place = narrow_same s.place (omega (arith, low)) in
      let found : Finds s.place code (narrow s.place) =
      subst (Finds s.place code) (sym target) (first_there taken s (body ▹ skipping 0 0 op.Jump (rest s.place))) in
      own_more n q own (mine s.place) s.place code (whole s.place s).rows h
      (each_row exceptions at (λ r. (r.start ≡ q.start) × (r.end_ ≡ q.end_)) (λ x le. (refl, refl)) (refl, refl) cs)
      (each_row exceptions at (λ r. r.exception ≤ n) (λ x le. omega (arith, le, few)) (omega (arith, zero_is)) cs)
      (each_row exceptions at (λ r. Finds s.place code r.target) (λ x le. found) found cs)

  handler_rows : q.exception ≡ 0 → KeepsRows n body → ((target : ℕ) → HandlersKeep n q (own ++ mine target) (rest target)) → HandlersKeep n q own (begun whole)
  unfolding begun
  handler_rows zero_is p k = record {
    rows = λ s low. handler_own zero_is s low ((handler_at p s.place (k s.place)).rows s low);
    places = λ s. (handler_at p s.place (k s.place)).places s;
  }

-- ---- all forms

same_exceptions : (c : Site) (ds : List DeclarationTree) → (after_locals c ds).exceptions ≡ c.exceptions
same_exceptions c [] = refl
same_exceptions c (LocalObject d ∷ ds) = same_exceptions (after_local c (LocalObject d)) ds
same_exceptions c (LocalTask d ∷ ds) = same_exceptions c ds
same_exceptions c (LocalProtected d ∷ ds) = same_exceptions c ds

module _ (n : ℕ) where
  abbrev Few : Site → Type 0
  Few c = length c.exceptions ≤ n

  few_after : (c : Site) (ds : List DeclarationTree) → Few c → Few (after_locals c ds)
  few_after c ds few = subst (λ e. length e ≤ n) (sym (same_exceptions c ds)) few

  mutual
    pub stmt_kept : (c : Site) → Few c → (x : StmtTree) → KeepsRows n (stmt_code c x)
    stmt_kept c few (Assignment name e) = rows_coded n _
    stmt_kept c few (Call name) = called_rows n c.visible name (call_form c.visible name)
    stmt_kept c few (Exit place e) = rows_coded n _
    stmt_kept c few (Return place e) = rows_coded n _
    stmt_kept c few (Raise place name) = rows_coded n _
    stmt_kept c few (DelayUntil place e) = rows_coded n _
    stmt_kept c few (If place e body parts others) =
        if_rows n c.visible e parts others (stmts_code c body) (elsifs_code c parts (stmts_code c others)) (stmts_kept c few body)
        (elsifs_kept c few parts (stmts_code c others) (stmts_kept c few others))
    stmt_kept c few (Case place e all) = rows_both n (coded _) (alternatives_code c all) (rows_coded n _) (alternatives_kept c few all)
    stmt_kept c few (Loop place i body) =
        way_rows n (any_leave body way.Exit) (λ exit. loop_code (record c { ways = with_exit exit c.ways }) i (λ inner. stmts_code inner body))
        (λ exit. loop_rows n (record c { ways = with_exit exit c.ways }) i (λ inner. stmts_code inner body)
        (λ inner same. stmts_kept inner (subst (λ e. length e ≤ n) (sym same) few) body))
    stmt_kept c few (Block place ds body all) =
        let later = after_locals c ds in
        rows_both n (locals_code c ds) (sequence_code all (stmts_code later body) (λ q. handlers_code later q [] all)) (locals_rows n c ds)
        (sequence_rows n all (stmts_code later body) (λ q. handlers_code later q [] all) (stmts_kept later (few_after c ds few) body)
        (λ q zero_is. handlers_kept later (few_after c ds few) q zero_is [] all))
    stmt_kept c few other = rows_coded n nothing

    pub stmts_kept : (c : Site) → Few c → (body : StmtTrees) → KeepsRows n (stmts_code c body)
    stmts_kept c few NoStmts = rows_coded n nothing
    stmts_kept c few (MoreStmts x rest) =
        rows_both n (marked (stmt_place x) (stmt_code c x)) (stmts_code c rest) (rows_marked n (stmt_place x) (stmt_code c x) (stmt_kept c few x))
        (stmts_kept c few rest)

    elsifs_kept : (c : Site) → Few c → (parts : ElsifTrees) (last : CodePart) → KeepsRows n last → KeepsRows n (elsifs_code c parts last)
    elsifs_kept c few NoElsifs last p = p
    elsifs_kept c few (MoreElsifs e body rest) last p =
        fork_rows n c.visible e (stmts_code c body) (elsifs_code c rest last) (stmts_kept c few body) (elsifs_kept c few rest last p)

    alternatives_kept : (c : Site) → Few c → (all : AlternativeTrees) → KeepsRows n (alternatives_code c all)
    alternatives_kept c few NoAlternatives = rows_coded n (one 1 op.Drop)
    alternatives_kept c few (MoreAlternatives place choices body rest) =
        alternative_rows n c.visible.scope choices (stmts_code c body) (alternatives_code c rest) (stmts_kept c few body) (alternatives_kept c few rest)

    pub handlers_kept : (c : Site) → Few c → (q : Row) → q.exception ≡ 0 → (own : List Row) (all : HandlerTrees) → HandlersKeep n q own (handlers_code c q own all)
    handlers_kept c few q zero_is own NoHandlers = own_none n q own
    handlers_kept c few q zero_is own (MoreHandlers choices body rest) =
        handler_rows n c.exceptions few q own c.taken choices (stmts_code (in_handler c) body)
        (λ target. handlers_code c q (own ++ choice_rows c.exceptions (leads_to q target) choices) rest) zero_is
        (stmts_kept (in_handler c) few body)
        (λ target. handlers_kept c few q zero_is (own ++ choice_rows c.exceptions (leads_to q target) choices) rest)

  pub run_kept : (c : Site) → Few c → (b : BodyTree) → KeepsRows n (run_code c b)
  run_kept c few b =
      let later = after_locals c b.declarations in
      let body : Option ℕ → CodePart = λ end. sequence_code b.handlers (stmts_code (in_body later end) b.statements)
      (λ q. handlers_code (in_body later end) q [] b.handlers) in
      let leaves = any_leave b.statements way.Return || handlers_leave b.handlers way.Return in
      rows_both n (locals_code c b.declarations) (with_way leaves body) (locals_rows n c b.declarations)
      (way_rows n leaves body
      (λ end. sequence_rows n b.handlers (stmts_code (in_body later end) b.statements) (λ q. handlers_code (in_body later end) q [] b.handlers)
      (stmts_kept (in_body later end) (few_after c b.declarations few) b.statements)
      (λ q zero_is. handlers_kept (in_body later end) (few_after c b.declarations few) q zero_is [] b.handlers)))
