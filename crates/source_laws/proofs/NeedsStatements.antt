-- What statements need: words of the operand stack by their levels, and words of the frame by what they declare and their levels.
use Rattle.std.proofs.Common.{◌≡◌, ◌≤◌, ◌++◌, ◌+◌, ◌*◌, ℕ, zero, suc, max, [], ◌∷◌, List, ◌&&◌, Option, Some, None, refl, sym, ap, subst, arith}
use Rattle.std.specs.Prelude.{⊤}
use Rattle.std.proofs.Math.Nat.{le-max_left, le-max_right}
use Rattle.lexer.specs.declared.delimiter.Delimiter.TheVariants as marks
use Rattle.lexer.specs.declared.word.Word.TheVariants as words
use Rattle.ada_tree.specs.declared.expression.Identifier.{Identifier}
use Rattle.ada_tree.specs.Depth.{alternatives_depth, declaration_depth, deepest, depth_if_any, elsifs_depth, expr_depth, handlers_depth, stmt_depth, stmts_depth}
use Rattle.ada_tree.specs.ExpressionGrammar.{Simple, expression}
use Rattle.ada_tree.specs.ExpressionTree.{ExprTree}
use Rattle.ada_tree.specs.Language.{Limit, Tokens, ◌⨾◌, each, inside, mark, optional, word, word_at}
use Rattle.ada_tree.specs.StatementGrammar.{block_declarations, declaration, iteration}
use Rattle.ada_tree.specs.StatementGrammar as grammar
use Rattle.ada_tree.specs.StatementTree.{AlternativeTrees, Assignment, Block, Call, Case, ChoicesTree, DeclarationTree, DelayUntil, ElsifTrees, Exit, For, Forever, HandlerTrees, If, IterationTree, Loop, MoreAlternatives, MoreElsifs, MoreHandlers, MoreStmts, NoAlternatives, NoElsifs, NoHandlers, NoStmts, Null, OtherValues, Raise, RangeTree, StmtTree, StmtTrees, Values, While}
use Rattle.types.specs.declared.entity.Value.{Value as Scalar}
use Rattle.expr_soundness.specs.expr_rules.specs.declared.own.Wanted.{Wanted}
use Rattle.expr_soundness.specs.expr_rules.specs.Typing.{own_of}
use Rattle.expr_soundness.specs.expr_rules.proofs.TypedLaw.{back_empty, front_empty}
use Rattle.program_soundness.specs.declaration_rules.specs.BodyNames.{loop_faults, loop_scope}
use Rattle.program_soundness.specs.declaration_rules.specs.LocalRules.{locals_faults, locals_scope}
use Rattle.program_soundness.specs.step_soundness.specs.body_restrictions.specs.BodyRules as restrictions
use Rattle.program_soundness.specs.stmt_rules.specs.declared.around.Around as rules
use Rattle.program_soundness.specs.stmt_rules.specs.CaseRules.{choices_faults, choices_wanted, chosen_by, others_rule, selecting_faults}
use Rattle.program_soundness.specs.stmt_rules.specs.CaseRules as alternatives
use Rattle.program_soundness.specs.stmt_rules.specs.HandlerRules.{exception_choices_faults, is_single, named_after}
use Rattle.program_soundness.specs.stmt_rules.specs.HandlerRules as handlers
use Rattle.program_soundness.specs.stmt_rules.specs.SimpleRules.{condition_faults, exit_rule, optional_condition_faults}
use Rattle.program_soundness.specs.stmt_rules.specs.StatementRules.{alternatives_faults, elsifs_faults, in_handler, in_loop, more_handlers_faults, stmt_faults, stmts_faults}
use Rattle.expr_code.specs.Refusing.{peak}
use Rattle.expr_code.specs.declared.visible.Visible.{Visible}
use Rattle.part_code.specs.Bounds.{alternatives_words, elsifs_words, handlers_words, locals_words, stmt_words, stmts_words}
use Rattle.stmt_code.specs.Refusing.{Standpoint, alternatives_needs, behind_locals, counted_visible, elsifs_needs, handler_needs, handlers_needs, head_needs, inside_counted, inside_handler, needs_if_any, stmt_needs, stmts_needs}
use Rattle.part_code.specs.Needs.{both, choices_needs, framed, locals_needs, needs_above, value_needs}
use Rattle.stmt_code.proofs.CoveredScopes.{whole_loop}
use Rattle.stmt_code.proofs.Refused.{locals_seen}
use Rattle.source_laws.specs.Depths.{IsSmallScope, IsSmallVisible}
use Rattle.source_laws.proofs.NeedsAssignments.{assignment_fits}
use Rattle.source_laws.proofs.NeedsBounds.{Fits, both_fit, fits_more, nothing_fits}
use Rattle.source_laws.proofs.NeedsCalls.{call_fits}
use Rattle.source_laws.proofs.NeedsLocals.{locals_fit}
use Rattle.source_laws.proofs.NeedsScopes.{bounds_legal, small_loop}
use Rattle.source_laws.proofs.NeedsShapes.{nothing_unfit}
use Rattle.source_laws.proofs.NeedsValues.{condition_low, integer_low, selecting_low, until_low}

-- ---- levels that are opened

opened : (limit : Limit) (p : Limit → Tokens → Type 0) (ts : Tokens) → inside limit p ts → (l : Limit) × p l ts
opened None p ts d = (None, d)
opened (Some zero) p ts d = absurd d
opened (Some (suc n)) p ts d = (Some n, d)

abbrev IfParts : (place : ℕ) (condition : ExprTree) (body : StmtTrees) (elsifs : ElsifTrees) (others : StmtTrees) → Limit → Tokens → Type 0
IfParts place condition body elsifs others l =
    word_at words.If place ⨾ expression l condition ⨾ word words.Then ⨾ grammar.stmts body l ⨾ grammar.elsifs elsifs l ⨾ grammar.else_stmts others l
    ⨾ word words.End ⨾ word words.If ⨾ mark marks.Semicolon

abbrev CaseParts : (place : ℕ) (value : ExprTree) (all : AlternativeTrees) → Limit → Tokens → Type 0
CaseParts place value all l =
    word_at words.Case place ⨾ expression l value ⨾ word words.Is ⨾ grammar.some_alternatives all l ⨾ word words.End ⨾ word words.Case ⨾ mark marks.Semicolon

abbrev LoopParts : (place : ℕ) (turns : IterationTree) (body : StmtTrees) → Limit → Tokens → Type 0
LoopParts place turns body l = iteration l place turns ⨾ grammar.stmts body l ⨾ word words.End ⨾ word words.Loop ⨾ mark marks.Semicolon

abbrev BlockParts : (place : ℕ) (ds : List DeclarationTree) (body : StmtTrees) (all : HandlerTrees) → Limit → Tokens → Type 0
BlockParts place ds body all l =
    block_declarations l place ds ⨾ grammar.stmts body l ⨾ grammar.handlers all l ⨾ word words.End ⨾ mark marks.Semicolon

-- the declarations of a block
declared_each : (l : Limit) (place : ℕ) (ds : List DeclarationTree) (ts : Tokens) → block_declarations l place ds ts
    → (us : Tokens) × each (declaration l) ds us
declared_each l place [] ts d = ([], refl)
declared_each l place (x ∷ ds) ts d = (d.4.0, d.4.3)

-- ---- lists of statements, however their first one is spelled

abbrev pub AreSpelled : Limit → StmtTrees → Type 0
AreSpelled l NoStmts = ⊤
AreSpelled l (MoreStmts x rest) = ((ts : Tokens) × grammar.stmt x l ts) × AreSpelled l rest

further_spelled : (l : Limit) (body : StmtTrees) (ts : Tokens) → grammar.further_stmts body l ts → AreSpelled l body
further_spelled l NoStmts ts d = tt
further_spelled l (MoreStmts x rest) ts d = ((d.0, d.3), further_spelled l rest d.1 d.4)

pub stmts_spelled : (l : Limit) (body : StmtTrees) (ts : Tokens) → grammar.stmts body l ts → AreSpelled l body
stmts_spelled l NoStmts ts d = absurd d
stmts_spelled l (MoreStmts x rest) ts d = ((d.0, d.3), further_spelled l rest d.1 d.4)

else_spelled : (l : Limit) (body : StmtTrees) (ts : Tokens) → grammar.else_stmts body l ts → AreSpelled l body
else_spelled l NoStmts ts d = tt
else_spelled l (MoreStmts x rest) ts d = ((d.4.0, d.4.3), further_spelled l rest d.4.1 d.4.4)

abbrev AlternativesSpelled : Limit → AlternativeTrees → Type 0
AlternativesSpelled l NoAlternatives = ⊤
AlternativesSpelled l (MoreAlternatives place choices body rest) = AreSpelled l body × AlternativesSpelled l rest

alternatives_spelled : (l : Limit) (all : AlternativeTrees) (ts : Tokens) → grammar.alternatives all l ts → AlternativesSpelled l all
alternatives_spelled l NoAlternatives ts d = tt
alternatives_spelled l (MoreAlternatives place choices body rest) ts d = (stmts_spelled l body d.3.4.4.1 d.3.4.4.4, alternatives_spelled l rest d.1 d.4)

some_spelled : (l : Limit) (all : AlternativeTrees) (ts : Tokens) → grammar.some_alternatives all l ts → AlternativesSpelled l all
some_spelled l NoAlternatives ts d = absurd d
some_spelled l (MoreAlternatives place choices body rest) ts d = (stmts_spelled l body d.3.4.4.1 d.3.4.4.4, alternatives_spelled l rest d.1 d.4)

abbrev pub HandlersSpelled : Limit → HandlerTrees → Type 0
HandlersSpelled l NoHandlers = ⊤
HandlersSpelled l (MoreHandlers choices body rest) = AreSpelled l body × HandlersSpelled l rest

further_handlers_spelled : (l : Limit) (all : HandlerTrees) (ts : Tokens) → grammar.further_handlers all l ts → HandlersSpelled l all
further_handlers_spelled l NoHandlers ts d = tt
further_handlers_spelled l (MoreHandlers choices body rest) ts d = (stmts_spelled l body d.3.4.4.1 d.3.4.4.4, further_handlers_spelled l rest d.1 d.4)

pub handlers_spelled : (l : Limit) (all : HandlerTrees) (ts : Tokens) → grammar.handlers all l ts → HandlersSpelled l all
handlers_spelled l NoHandlers ts d = tt
handlers_spelled l (MoreHandlers choices body rest) ts d = (stmts_spelled l body d.4.3.4.4.1 d.4.3.4.4.4, further_handlers_spelled l rest d.4.1 d.4.4)

-- ---- parts without statements

-- a value, a level deeper or not
value_fits : (v : Visible) → IsSmallScope v.scope → (depth : ℕ) (e : ExprTree) (taken words deep : ℕ) → peak v.scope e ≤ 6 + 12 * expr_depth e → depth ≤ 1
    → expr_depth e ≤ deep
    → Fits (needs_above depth v e) taken words deep
value_fits v small depth e taken words deep h few below =
    record { stack_low = omega (arith, h, few, below); frame_low = omega arith; fit = nothing_unfit v small }

choices_fit : (choices : ChoicesTree) (taken words deep : ℕ) → Fits (choices_needs choices) taken words deep
choices_fit (Values cs) taken words deep = record { stack_low = omega arith; frame_low = omega arith; fit = refl }
choices_fit (OtherValues place) taken words deep = record { stack_low = omega arith; frame_low = omega arith; fit = refl }

exit_fits : (a : Standpoint) (o : Option ExprTree) (l : Limit) (ts : Tokens) → optional (λ e. word words.When ⨾ expression l e) o ts
    → IsSmallScope a.visible.scope
    → optional_condition_faults a.visible.scope o ≡ [] → (taken words : ℕ) → Fits (needs_if_any a.visible o) taken words (depth_if_any expr_depth o)
exit_fits a None l ts d small h taken words = nothing_fits taken words 0
exit_fits a (Some e) l ts d small h taken words =
    value_fits a.visible small 0 e taken words (expr_depth e) (condition_low a.visible.scope small e l d.1 d.4 h) (omega arith) (omega arith)

-- what is visible in a loop over a range
counted_small : {exceptions : List (List ℕ)} (a : Standpoint) (parameter : Identifier) (r : RangeTree) → IsSmallVisible exceptions a.visible
    → loop_faults a.visible.scope parameter r ≡ [] → IsSmallVisible exceptions (counted_visible a parameter r)
counted_small {exceptions} a parameter r small legal =
    let behind = whole_loop exceptions a.visible small.names.sound small.entries small.known a.taken parameter r legal in
    record { names = small_loop a.visible.scope parameter r small.names legal; entries = behind.entries; known = behind.has }

-- ---- statements

mutual
  pub stmt_fits : {exceptions : List (List ℕ)} (x : StmtTree) (a : Standpoint) (b : rules.Around) (l : Limit) (ts : Tokens) → grammar.stmt x l ts
      → stmt_faults a.visible.scope b x ≡ [] → IsSmallVisible exceptions a.visible → stmt_words a.visible.scope x ≤ 64 → restrictions.stmt_faults x ≡ []
      → Fits (stmt_needs a x) a.taken (stmt_words a.visible.scope x) (stmt_depth x)
  stmt_fits (Null place) a b l ts d h small few allowed = nothing_fits a.taken 0 0
  stmt_fits (Assignment target value) a b l ts d h small few allowed =
      assignment_fits a.visible small.names small.known.expressions target value l d.0 d.4.4.0 d.3 d.4.4.3 h a.taken 0
  stmt_fits (Call name) a b l ts d h small few allowed = call_fits a.visible small.names name l d.0 d.3 h a.taken 0
  stmt_fits (Exit place condition) a b l ts d h small few allowed =
      exit_fits a condition l d.4.0 d.4.3 small.names (back_empty (exit_rule b place) (optional_condition_faults a.visible.scope condition) h) a.taken 0
  stmt_fits (Raise place name) a b l ts d h small few allowed = record { stack_low = omega arith; frame_low = omega arith; fit = refl }
  stmt_fits (DelayUntil place e) a b l ts d h small few allowed =
      value_fits a.visible small.names 0 e a.taken 0 (expr_depth e)
      (until_low a.visible.scope small.names place e l d.4.4.0 d.4.4.3 (record { around = b; unbroken = h })) (omega arith) (omega arith)
  stmt_fits (If place condition body elsifs others) a b l ts d h small few allowed =
      let s = a.visible.scope in
      let x = opened l (IfParts place condition body elsifs others) ts d in
      let i = x.1 in
      let c = condition_faults s condition in
      let f = stmts_faults s b body in
      let g = elsifs_faults s b elsifs in
      let o = stmts_faults s b others in
      let three = front_empty ((c ++ f) ++ g) o h in
      let two = front_empty (c ++ f) g three in
      let fine = front_empty (restrictions.stmts_faults body ++ restrictions.elsifs_faults elsifs) (restrictions.stmts_faults others) allowed in
      let value = value_needs a.visible condition in
      let first = stmts_needs a body in
      let middle = elsifs_needs a elsifs in
      let end = stmts_needs a others in
      let m = stmts_words s body in
      let n = elsifs_words s elsifs in
      let k = stmts_words s others in
      let deep = suc (max (expr_depth condition) (max (stmts_depth body) (max (elsifs_depth elsifs) (stmts_depth others)))) in
      let p = value_fits a.visible small.names 0 condition a.taken (m + n + k) deep
      (condition_low s small.names condition x.0 i.4.0 i.4.3 (front_empty c f two)) (omega arith) (omega arith) in
      let q = stmts_fit body a b x.0 (stmts_spelled x.0 body i.4.4.4.0 i.4.4.4.3) (back_empty c f two) small (omega (arith, few))
      (front_empty (restrictions.stmts_faults body) (restrictions.elsifs_faults elsifs) fine) in
      let r = elsifs_fit elsifs a b x.0 i.4.4.4.4.0 i.4.4.4.4.3 (back_empty (c ++ f) g three) small (omega (arith, few))
      (back_empty (restrictions.stmts_faults body) (restrictions.elsifs_faults elsifs) fine) in
      let u = stmts_fit others a b x.0 (else_spelled x.0 others i.4.4.4.4.4.0 i.4.4.4.4.4.3) (back_empty ((c ++ f) ++ g) o h) small (omega (arith, few))
      (back_empty (restrictions.stmts_faults body ++ restrictions.elsifs_faults elsifs) (restrictions.stmts_faults others) allowed) in
      both_fit value (both first (both middle end)) a.taken (m + n + k) deep p
      (both_fit first (both middle end) a.taken (m + n + k) deep
      (fits_more first a.taken a.taken m (m + n + k) (stmts_depth body) deep q (omega arith) (omega arith))
      (both_fit middle end a.taken (m + n + k) deep
      (fits_more middle a.taken a.taken n (m + n + k) (elsifs_depth elsifs) deep r (omega arith) (omega arith))
      (fits_more end a.taken a.taken k (m + n + k) (stmts_depth others) deep u (omega arith) (omega arith))))
  stmt_fits (Case place value all) a b l ts d h small few allowed =
      let s = a.visible.scope in
      let x = opened l (CaseParts place value all) ts d in
      let i = x.1 in
      let c = selecting_faults s value in
      let f = alternatives_faults s b (choices_wanted s (own_of s value)) [] all in
      let two = front_empty (c ++ f) (others_rule place all) h in
      let first = value_needs a.visible value in
      let rest = alternatives_needs a all in
      let w = alternatives_words s all in
      let deep = suc (max (expr_depth value) (alternatives_depth all)) in
      let p = value_fits a.visible small.names 0 value a.taken w deep (selecting_low s small.names value x.0 i.4.0 i.4.3 (front_empty c f two)) (omega arith)
      (omega arith) in
      let q = alternatives_fit all a b (choices_wanted s (own_of s value)) [] x.0 (some_spelled x.0 all i.4.4.4.0 i.4.4.4.3) (back_empty c f two) small few
      allowed in
      both_fit first rest a.taken w deep p (fits_more rest a.taken a.taken w w (alternatives_depth all) deep q (omega arith) (omega arith))
  stmt_fits (Loop place Forever body) a b l ts d h small few allowed =
      let x = opened l (LoopParts place Forever body) ts d in
      let i = x.1 in
      let inner = stmts_needs a body in
      let w = stmts_words a.visible.scope body in
      let deep = suc (max 0 (stmts_depth body)) in
      let q = stmts_fit body a (in_loop b) x.0 (stmts_spelled x.0 body i.4.0 i.4.3) h small few allowed in
      both_fit (head_needs a Forever) inner a.taken w deep (nothing_fits a.taken w deep)
      (fits_more inner a.taken a.taken w w (stmts_depth body) deep q (omega arith) (omega arith))
  stmt_fits (Loop place (While condition) body) a b l ts d h small few allowed =
      let s = a.visible.scope in
      let x = opened l (LoopParts place (While condition) body) ts d in
      let i = x.1 in
      let c = condition_faults s condition in
      let f = stmts_faults s (in_loop b) body in
      let first = value_needs a.visible condition in
      let inner = stmts_needs a body in
      let w = stmts_words s body in
      let deep = suc (max (expr_depth condition) (stmts_depth body)) in
      let p = value_fits a.visible small.names 0 condition a.taken w deep (condition_low s small.names condition x.0 i.3.4.0 i.3.4.3 (front_empty c f h))
      (omega arith) (omega arith) in
      let q = stmts_fit body a (in_loop b) x.0 (stmts_spelled x.0 body i.4.0 i.4.3) (back_empty c f h) small few allowed in
      both_fit first inner a.taken w deep p (fits_more inner a.taken a.taken w w (stmts_depth body) deep q (omega arith) (omega arith))
  stmt_fits (Loop place (For parameter reversed r) body) a b l ts d h small few allowed =
      let s = a.visible.scope in
      let x = opened l (LoopParts place (For parameter reversed r) body) ts d in
      let i = x.1 in
      let c = loop_faults s parameter r in
      let f = stmts_faults (loop_scope s parameter r) (in_loop b) body in
      let legal = front_empty c f h in
      let bounds = bounds_legal s small.names.sound parameter r legal in
      let ranged = i.3.4.4.4.4.3 in
      let first = value_needs a.visible r.first in
      let last = needs_above 1 a.visible r.last in
      let head = head_needs a (For parameter reversed r) in
      let inner = stmts_needs (inside_counted a parameter r) body in
      let w = stmts_words (loop_scope s parameter r) body in
      let deep = suc (max (max (expr_depth r.first) (expr_depth r.last)) (stmts_depth body)) in
      let p = value_fits a.visible small.names 0 r.first a.taken w deep
      (integer_low s small.names Simple r.first x.0 ranged.0 ranged.3 (omega arith) bounds.first) (omega arith) (omega arith) in
      let q = value_fits a.visible small.names 1 r.last a.taken w deep
      (integer_low s small.names Simple r.last x.0 ranged.4.1 ranged.4.4 (omega arith) bounds.last) (omega arith) (omega arith) in
      let u = stmts_fit body (inside_counted a parameter r) (in_loop b) x.0 (stmts_spelled x.0 body i.4.0 i.4.3) (back_empty c f h)
      (counted_small a parameter r small legal) few allowed in
      let frame = u.frame_low in
      let stack = u.stack_low in
      both_fit head inner a.taken w deep
      (both_fit (framed (a.taken + 2)) (both first last) a.taken w deep (record { stack_low = omega arith; frame_low = omega arith; fit = refl })
      (both_fit first last a.taken w deep p q))
      (record { stack_low = omega (arith, stack); frame_low = omega (arith, frame); fit = u.fit })
  stmt_fits (Block place ds body all) a b l ts d h small few allowed =
      let s = a.visible.scope in
      let x = opened l (BlockParts place ds body all) ts d in
      let i = x.1 in
      let seen = locals_seen a.visible a.taken ds in
      let c = locals_faults s ds in
      let f = stmts_faults (locals_scope s ds) b body in
      let g = more_handlers_faults (locals_scope s ds) b [] all in
      let two = front_empty (c ++ f) g h in
      let fine = front_empty (restrictions.locals_faults ds ++ restrictions.stmts_faults body) (restrictions.handlers_faults all) allowed in
      let behind = behind_locals a ds in
      let own = locals_needs a.visible a.taken ds in
      let inner = stmts_needs behind body in
      let caught = handlers_needs behind all in
      let n = locals_words s ds in
      let m = stmts_words (locals_scope s ds) body in
      let k = handlers_words (locals_scope s ds) all in
      let each_declared = declared_each x.0 place ds i.0 i.3 in
      let p = locals_fit ds a.visible small a.taken x.0 each_declared.0 each_declared.1 (front_empty c f two)
      (front_empty (restrictions.locals_faults ds) (restrictions.stmts_faults body) fine) (omega (arith, few)) in
      let m_same : stmts_words behind.visible.scope body ≡ m = ap (λ u. stmts_words u body) seen in
      let k_same : handlers_words behind.visible.scope all ≡ k = ap (λ u. handlers_words u all) seen in
      let q = stmts_fit body behind b x.0 (stmts_spelled x.0 body i.4.0 i.4.3)
      (subst (λ u. stmts_faults u b body ≡ []) (sym seen) (back_empty c f two)) p.behind (omega (arith, few, m_same))
      (back_empty (restrictions.locals_faults ds) (restrictions.stmts_faults body) fine) in
      let r = handlers_fit all behind b [] x.0 (handlers_spelled x.0 all i.4.4.0 i.4.4.3)
      (subst (λ u. more_handlers_faults u b [] all ≡ []) (sym seen) (back_empty (c ++ f) g h)) p.behind
      (omega (arith, few, k_same))
      (back_empty (restrictions.locals_faults ds ++ restrictions.stmts_faults body) (restrictions.handlers_faults all) allowed) in
      let deep = suc (max (deepest declaration_depth ds) (max (stmts_depth body) (handlers_depth all))) in
      let stack = r.stack_low in
      let frame = r.frame_low in
      both_fit own (both inner caught) a.taken (n + m + k) deep
      (fits_more own a.taken a.taken n (n + m + k) (deepest declaration_depth ds) deep p.own (omega arith) (omega arith))
      (both_fit inner caught a.taken (n + m + k) deep
      (fits_more inner (a.taken + n) a.taken (stmts_words behind.visible.scope body) (n + m + k) (stmts_depth body) deep q (omega (arith, m_same))
      (omega arith))
      (record { stack_low = omega (arith, stack); frame_low = omega (arith, frame, k_same); fit = r.fit }))
  stmt_fits other a b l ts d h small few allowed = nothing_fits a.taken 0 (stmt_depth other)

  pub stmts_fit : {exceptions : List (List ℕ)} (body : StmtTrees) (a : Standpoint) (b : rules.Around) (l : Limit) → AreSpelled l body
      → stmts_faults a.visible.scope b body ≡ [] → IsSmallVisible exceptions a.visible → stmts_words a.visible.scope body ≤ 64 → restrictions.stmts_faults body ≡ []
      → Fits (stmts_needs a body) a.taken (stmts_words a.visible.scope body) (stmts_depth body)
  stmts_fit NoStmts a b l d h small few allowed = nothing_fits a.taken 0 0
  stmts_fit (MoreStmts x rest) a b l d h small few allowed =
      let s = a.visible.scope in
      let f = stmt_faults s b x in
      let g = stmts_faults s b rest in
      let first = stmt_needs a x in
      let others = stmts_needs a rest in
      let m = stmt_words s x in
      let n = stmts_words s rest in
      let deep = max (stmt_depth x) (stmts_depth rest) in
      let p = stmt_fits x a b l d.0.0 d.0.1 (front_empty f g h) small (omega (arith, few))
      (front_empty (restrictions.stmt_faults x) (restrictions.stmts_faults rest) allowed) in
      let q = stmts_fit rest a b l d.1 (back_empty f g h) small (omega (arith, few))
      (back_empty (restrictions.stmt_faults x) (restrictions.stmts_faults rest) allowed) in
      both_fit first others a.taken (m + n) deep
      (fits_more first a.taken a.taken m (m + n) (stmt_depth x) deep p (omega arith) (le-max_left (stmt_depth x) (stmts_depth rest)))
      (fits_more others a.taken a.taken n (m + n) (stmts_depth rest) deep q (omega arith) (le-max_right (stmt_depth x) (stmts_depth rest)))

  elsifs_fit : {exceptions : List (List ℕ)} (all : ElsifTrees) (a : Standpoint) (b : rules.Around) (l : Limit) (ts : Tokens) → grammar.elsifs all l ts
      → elsifs_faults a.visible.scope b all ≡ []
      → IsSmallVisible exceptions a.visible → elsifs_words a.visible.scope all ≤ 64 → restrictions.elsifs_faults all ≡ []
      → Fits (elsifs_needs a all) a.taken (elsifs_words a.visible.scope all) (elsifs_depth all)
  elsifs_fit NoElsifs a b l ts d h small few allowed = nothing_fits a.taken 0 0
  elsifs_fit (MoreElsifs condition body rest) a b l ts d h small few allowed =
      let s = a.visible.scope in
      let c = condition_faults s condition in
      let f = stmts_faults s b body in
      let g = elsifs_faults s b rest in
      let two = front_empty (c ++ f) g h in
      let value = value_needs a.visible condition in
      let first = stmts_needs a body in
      let others = elsifs_needs a rest in
      let m = stmts_words s body in
      let n = elsifs_words s rest in
      let deep = max (expr_depth condition) (max (stmts_depth body) (elsifs_depth rest)) in
      let p = value_fits a.visible small.names 0 condition a.taken (m + n) deep
      (condition_low s small.names condition l d.3.4.0 d.3.4.3 (front_empty c f two)) (omega arith) (omega arith) in
      let q = stmts_fit body a b l (stmts_spelled l body d.3.4.4.1 d.3.4.4.4) (back_empty c f two) small (omega (arith, few))
      (front_empty (restrictions.stmts_faults body) (restrictions.elsifs_faults rest) allowed) in
      let r = elsifs_fit rest a b l d.1 d.4 (back_empty (c ++ f) g h) small (omega (arith, few))
      (back_empty (restrictions.stmts_faults body) (restrictions.elsifs_faults rest) allowed) in
      both_fit value (both first others) a.taken (m + n) deep p
      (both_fit first others a.taken (m + n) deep
      (fits_more first a.taken a.taken m (m + n) (stmts_depth body) deep q (omega arith) (omega arith))
      (fits_more others a.taken a.taken n (m + n) (elsifs_depth rest) deep r (omega arith) (omega arith)))

  alternatives_fit : {exceptions : List (List ℕ)} (all : AlternativeTrees) (a : Standpoint) (b : rules.Around) (w : Wanted) (before : List Scalar) (l : Limit)
      → AlternativesSpelled l all → alternatives_faults a.visible.scope b w before all ≡ [] → IsSmallVisible exceptions a.visible → alternatives_words a.visible.scope all ≤ 64
      → restrictions.alternatives_faults all ≡ [] → Fits (alternatives_needs a all) a.taken (alternatives_words a.visible.scope all) (alternatives_depth all)
  alternatives_fit NoAlternatives a b w before l d h small few allowed = nothing_fits a.taken 0 0
  alternatives_fit (MoreAlternatives place choices body rest) a b w before l d h small few allowed =
      let s = a.visible.scope in
      let c = choices_faults s w before (alternatives.no_more rest) choices in
      let f = stmts_faults s b body in
      let g = alternatives_faults s b w (chosen_by s w before choices) rest in
      let two = front_empty (c ++ f) g h in
      let tests = choices_needs choices in
      let first = stmts_needs a body in
      let others = alternatives_needs a rest in
      let m = stmts_words s body in
      let n = alternatives_words s rest in
      let deep = alternatives_depth (MoreAlternatives place choices body rest) in
      let q = stmts_fit body a b l d.0 (back_empty c f two) small (omega (arith, few))
      (front_empty (restrictions.stmts_faults body) (restrictions.alternatives_faults rest) allowed) in
      let r = alternatives_fit rest a b w (chosen_by s w before choices) l d.1 (back_empty (c ++ f) g h) small (omega (arith, few))
      (back_empty (restrictions.stmts_faults body) (restrictions.alternatives_faults rest) allowed) in
      both_fit tests (both first others) a.taken (m + n) deep (choices_fit choices a.taken (m + n) deep)
      (both_fit first others a.taken (m + n) deep
      (fits_more first a.taken a.taken m (m + n) (stmts_depth body) deep q (omega arith) (omega arith))
      (fits_more others a.taken a.taken n (m + n) (alternatives_depth rest) deep r (omega arith) (omega arith)))

  -- each handler keeps its exception in a word
  pub handlers_fit : {exceptions : List (List ℕ)} (all : HandlerTrees) (a : Standpoint) (b : rules.Around) (before : List (List ℕ)) (l : Limit)
      → HandlersSpelled l all → more_handlers_faults a.visible.scope b before all ≡ [] → IsSmallVisible exceptions a.visible → handlers_words a.visible.scope all ≤ 64
      → restrictions.handlers_faults all ≡ [] → Fits (handlers_needs a all) (a.taken + 1) (handlers_words a.visible.scope all) (handlers_depth all)
  handlers_fit NoHandlers a b before l d h small few allowed = nothing_fits (a.taken + 1) 0 0
  handlers_fit (MoreHandlers choices body rest) a b before l d h small few allowed =
      let s = a.visible.scope in
      let c = exception_choices_faults s before (is_single choices && handlers.no_more rest) choices in
      let f = stmts_faults s (in_handler b) body in
      let g = more_handlers_faults s b (named_after before choices) rest in
      let two = front_empty (c ++ f) g h in
      let head = handler_needs a in
      let first = stmts_needs (inside_handler a) body in
      let others = handlers_needs a rest in
      let m = stmts_words s body in
      let n = handlers_words s rest in
      let deep = max (stmts_depth body) (handlers_depth rest) in
      let q = stmts_fit body (inside_handler a) (in_handler b) l d.0 (back_empty c f two) small (omega (arith, few))
      (front_empty (restrictions.stmts_faults body) (restrictions.handlers_faults rest) allowed) in
      let r = handlers_fit rest a b (named_after before choices) l d.1 (back_empty (c ++ f) g h) small (omega (arith, few))
      (back_empty (restrictions.stmts_faults body) (restrictions.handlers_faults rest) allowed) in
      both_fit head (both first others) (a.taken + 1) (m + n) deep (record { stack_low = omega arith; frame_low = omega arith; fit = refl })
      (both_fit first others (a.taken + 1) (m + n) deep
      (fits_more first (a.taken + 1) (a.taken + 1) m (m + n) (stmts_depth body) deep q (omega arith) (omega arith))
      (fits_more others (a.taken + 1) (a.taken + 1) n (m + n) (handlers_depth rest) deep r (omega arith) (omega arith)))
