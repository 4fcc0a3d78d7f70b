-- What is put together for lists of statements, of parts of an `if`, of alternatives and of handlers is their code (RM 5.1, 5.3, 5.4, 11.2).
use Rattle.std.proofs.Common.{◌≡◌, ◌≤◌, ◌<◌, ℕ, ◌+◌, List, [], ◌∷◌, ◌++◌, drop, length, sym, ap, ◌∙◌, subst}
use Rattle.std.specs.Prelude.{get_or}
use Rattle.handlers.specs.declared.rows.Row.{Row}
use Rattle.ada_tree.specs.declared.statement.Alternative.{Alternative}
use Rattle.ada_tree.specs.declared.statement.ElsifPart.{ElsifPart}
use Rattle.ada_tree.specs.declared.statement.Handler.{Handler}
use Rattle.ada_tree.specs.declared.statement.Stmt.{Stmt}
use Rattle.ada_tree.specs.ExpressionTree.{expr_tree}
use Rattle.ada_tree.specs.StatementTree.{alternative_trees, choices_tree, elsif_trees, handler_trees, stmt_tree, stmt_trees}
use Rattle.image.specs.declared.instruction.Operation.TheVariants as op
use Rattle.expr_code.specs.Pieces.{one}
use Rattle.expr_code.proofs.Going.{drop_at}
use Rattle.expr_code.proofs.Pieces.{drop_end}
use Rattle.part_code.specs.ChoiceRows.{choice_rows}
use Rattle.stmt_code.specs.Drafting.{ClosesTo, CodePart, OpensParts, Sketched, adds, coded, end_of, marks, skipping, ◌▹◌}
use Rattle.stmt_code.specs.Placing.{stmt_place}
use Rattle.stmt_code.specs.StatementCode.{Site, alternatives_code, alternative_code, elsifs_code, fork_code, handlers_code, in_handler, kept_code, leads_to, stmt_code, stmts_code}
use Rattle.stmt_code.proofs.LoopsMade.{adds_begun, sequence_made}
use Rattle.stmt_code.proofs.PartsAdded.{adds_nothing, adds_then, closes_alike, jump_closes}

module _ (c : Site) where
  -- ---- statements, each with the row of its place

  pub statements_step : (m new whole : Sketched) (all : List Stmt) (n : ℕ) (x : Stmt) (first : ℕ) → n < length all → x ≡ get_or all n x → first ≡ end_of m
      → new ≡ marks (adds m (stmt_code c (stmt_tree x))) first (stmt_place (stmt_tree x)) → adds m (stmts_code c (stmt_trees (drop n all))) ≡ whole
      → adds new (stmts_code c (stmt_trees (drop (n + 1) all))) ≡ whole
  statements_step m new whole all n x first less is e made rest =
      ap (λ y. adds y (stmts_code c (stmt_trees (drop (n + 1) all)))) made
      ∙ sequence_made m (stmt_code c (stmt_tree x)) (stmts_code c (stmt_trees (drop (n + 1) all))) first (stmt_place (stmt_tree x)) e
      ∙ ap (λ l. adds m (stmts_code c (stmt_trees l))) (sym (drop_at all n x less is)) ∙ rest

  pub statements_end : (m whole : Sketched) (all : List Stmt) (n : ℕ) → length all ≤ n → adds m (stmts_code c (stmt_trees (drop n all))) ≡ whole → m ≡ whole
  statements_end m whole all n le rest =
      sym (adds_nothing m) ∙ ap (λ l. adds m (stmts_code c (stmt_trees l))) (sym (drop_end all n le)) ∙ rest

  pub elsifs_step : (m new final : Sketched) (before after places : List ℕ) (all : List ElsifPart) (n : ℕ) (x : ElsifPart) → n < length all → x ≡ get_or all n x
      → OpensParts m before (λ last. fork_code c.visible (expr_tree x.condition) (stmts_code c (stmt_trees x.statements.items)) last) new after
      → OpensParts new after (elsifs_code c (elsif_trees (drop (n + 1) all))) final places
      → OpensParts m before (elsifs_code c (elsif_trees (drop n all))) final places
  elsifs_step m new final before after places all n x less is added rest last whole waits =
      rest last whole
      (added (elsifs_code c (elsif_trees (drop (n + 1) all)) last) whole
      (subst (λ l. ClosesTo m before (elsifs_code c (elsif_trees l) last) whole) (drop_at all n x less is) waits))

  pub elsifs_end : (m : Sketched) (places : List ℕ) (all : List ElsifPart) (n : ℕ) → length all ≤ n
      → OpensParts m places (elsifs_code c (elsif_trees (drop n all))) m places
  elsifs_end m places all n le last whole waits =
      subst (λ l. ClosesTo m places (elsifs_code c (elsif_trees l) last) whole) (drop_end all n le) waits

  -- ---- the alternatives of a `case`

  abbrev alternative : Alternative → CodePart → CodePart
  alternative x others = alternative_code c.visible.scope (choices_tree x.choices) (stmts_code c (stmt_trees x.statements.items)) others

  -- what is left of them closes to the whole
  abbrev pub AlternativesClose : Sketched → List ℕ → List Alternative → (whole : Sketched) → Type 0
  AlternativesClose m places all whole = ClosesTo m places (alternatives_code c (alternative_trees all)) whole

  pub alternatives_step : (m new whole : Sketched) (before after : List ℕ) (all : List Alternative) (n : ℕ) (x : Alternative) → n < length all
      → x ≡ get_or all n x → OpensParts m before (alternative x) new after → AlternativesClose m before (drop n all) whole
      → AlternativesClose new after (drop (n + 1) all) whole
  alternatives_step m new whole before after all n x less is added waits =
      added (alternatives_code c (alternative_trees (drop (n + 1) all))) whole
      (subst (λ l. ClosesTo m before (alternatives_code c (alternative_trees l)) whole) (drop_at all n x less is) waits)

  -- ---- handlers

  abbrev pub HandlersClose : (q : Row) → Sketched → List ℕ → (own : List Row) → List Handler → (whole : Sketched) → Type 0
  HandlersClose q m places own all whole = ClosesTo m places (handlers_code c q own (handler_trees all)) whole

  pub handlers_step : (q : Row) (m kept held new whole : Sketched) (before after : List ℕ) (own more : List Row) (all : List Handler) (n : ℕ) (x : Handler)
      → n < length all → x ≡ get_or all n x → kept ≡ adds m (kept_code c.taken)
      → held ≡ adds kept (stmts_code (in_handler c) (stmt_trees x.statements.items)) → new ≡ adds held (coded (one 0 (op.Jump 0)))
      → after ≡ before ++ length held.made.code ∷ [] → more ≡ own ++ choice_rows c.exceptions (leads_to q (end_of m)) x.choices.items
      → HandlersClose q m before own (drop n all) whole → HandlersClose q new after more (drop (n + 1) all) whole
  handlers_step q m kept held new whole before after own more all n x less is p r s after_is more_is waits =
      let body = stmts_code (in_handler c) (stmt_trees x.statements.items) in
      let rest = handlers_code c q (own ++ choice_rows c.exceptions (leads_to q (end_of m)) x.choices.items) (handler_trees (drop (n + 1) all)) in
      let two : held ≡ adds m (kept_code c.taken ▹ body) = r ∙ ap (λ y. adds y body) p ∙ adds_then m (kept_code c.taken) body in
      let here = subst (λ l. ClosesTo m before (handlers_code c q own (handler_trees l)) whole) (drop_at all n x less is) waits in
      let again : adds m (kept_code c.taken ▹ body ▹ skipping 0 0 op.Jump rest) ≡ adds m ((kept_code c.taken ▹ body) ▹ skipping 0 0 op.Jump rest) =
      sym (adds_then m (kept_code c.taken) (body ▹ skipping 0 0 op.Jump rest)) ∙ sym (adds_then (adds m (kept_code c.taken)) body (skipping 0 0 op.Jump rest))
      ∙ ap (λ y. adds y (skipping 0 0 op.Jump rest)) (adds_then m (kept_code c.taken) body)
      ∙ adds_then m (kept_code c.taken ▹ body) (skipping 0 0 op.Jump rest) in
      let begins = adds_begun m (λ target. kept_code c.taken ▹ body
      ▹ skipping 0 0 op.Jump (handlers_code c q (own ++ choice_rows c.exceptions (leads_to q target) x.choices.items) (handler_trees (drop (n + 1) all)))) in
      subst (λ l. ClosesTo new l (handlers_code c q more (handler_trees (drop (n + 1) all))) whole) (sym after_is)
      (subst (λ l. ClosesTo new (before ++ length held.made.code ∷ []) (handlers_code c q l (handler_trees (drop (n + 1) all))) whole) (sym more_is)
      (jump_closes m new whole before (length held.made.code) (kept_code c.taken ▹ body) rest (ap (λ y. length y.made.code) two)
      (s ∙ ap (λ y. adds y (coded (one 0 (op.Jump 0)))) two)
      (closes_alike m whole before (handlers_code c q own (handler_trees (x ∷ drop (n + 1) all))) ((kept_code c.taken ▹ body) ▹ skipping 0 0 op.Jump rest)
      (begins ∙ again) here)))
