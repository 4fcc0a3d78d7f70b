-- What is put together for conditions, loops, ways out and blocks, as methods add it step by step (RM 5.3, 5.5, 5.6, 5.7).
use Rattle.std.proofs.Common.{◌≡◌, ℕ, suc, ◌+◌, List, [], ◌∷◌, ◌++◌, Bool, true, false, Option, Some, length, refl, sym, ap, ◌∙◌, arith, length-append, subst}
use Rattle.std.specs.Prelude.{◌==◌, ◌&&◌, OnOk, Result}
use Rattle.std.proofs.lemmas.Result.{on_ok_weaker}
use Rattle.handlers.specs.declared.rows.Row.{Row}
use Rattle.ada_tree.specs.declared.statement.ElsifPart.{ElsifPart}
use Rattle.ada_tree.specs.declared.statement.Handler.{Handler}
use Rattle.ada_tree.specs.declared.statement.Stmt.{Stmt}
use Rattle.ada_tree.specs.ExpressionTree.{ExprTree}
use Rattle.ada_tree.specs.StatementTree as trees
use Rattle.ada_tree.specs.StatementTree.{HandlerTrees, IterationTree, RangeTree, StmtTree, StmtTrees, elsif_trees, handler_trees, stmt_trees}
use Rattle.image.specs.declared.instruction.Instr.{Instr}
use Rattle.image.specs.declared.instruction.Operation.{Operation}
use Rattle.image.specs.declared.instruction.Operation.TheVariants as op
use Rattle.expr_code.specs.ExpressionCode.{expr_code}
use Rattle.expr_code.specs.Pieces as pieces
use Rattle.expr_code.specs.Pieces.{narrow, nothing, one}
use Rattle.expr_code.specs.declared.visible.Visible.{Visible}
use Rattle.part_code.specs.declared.turns.Turns.{Turns}
use Rattle.types.specs.Scopes.{Scope}
use Rattle.stmt_code.specs.Drafting.{ClosesTo, CodePart, OpensParts, Sketched, adds, all_led, begun, coded, end_of, led, skipping, takes, ◌▹◌}
use Rattle.stmt_code.specs.SimpleCode.{bounds_code, choices_code, last_code, next_code}
use Rattle.stmt_code.specs.StatementCode.{Site, chosen_code, counted_code, covered_code, fork_code, handlers_code, if_code, ranged_code, sequence_code, stmt_code, stmts_code, turned, turns_at, turns_code, while_code, with_way}
use Rattle.stmt_code.specs.StatementCode as forms
use Rattle.stmt_code.specs.Turns.{is_full}
use Rattle.stmt_code.proofs.LoopsMade.{adds_begun, both_coded, tested_made, turned_made, way_made}
use Rattle.stmt_code.proofs.PartsAdded.{adds_nothing, adds_then, branch_closes, closes_alike, closes_end, closes_none, jump_closes}

-- ---- conditions

-- a jump over a part after a condition
pub skip_made : (m tested jumped held new : Sketched) (c a : CodePart) (jump : ℕ → Operation) (place to : ℕ) → tested ≡ adds m c
    → place ≡ length tested.made.code → jumped ≡ adds tested (coded (one 1 (jump 0))) → held ≡ adds jumped a → to ≡ narrow (end_of held)
    → new ≡ led held place (jump to) → new ≡ adds m (c ▹ skipping 0 1 jump a)
skip_made m tested jumped held new c a jump place to p place_is q r to_is made =
    let same : held ≡ adds (adds (adds m c) (coded (one 1 (jump 0)))) a =
    r ∙ ap (λ y. adds y a) (q ∙ ap (λ y. adds y (coded (one 1 (jump 0)))) p) in
    made ∙ ap (λ y. led y place (jump to)) same
    ∙ tested_made m c a jump place to (place_is ∙ ap (λ y. length y.made.code) p) (to_is ∙ ap (λ y. narrow (end_of y)) same)

-- a test, what stands where it holds, and a jump that waits for the end
pub branch_opens : (m tested jumped held closed new : Sketched) (before after : List ℕ) (c x : CodePart) (jump : ℕ → Operation) (test to : ℕ) → tested ≡ adds m c
    → test ≡ length tested.made.code → jumped ≡ adds tested (coded (one 1 (jump 0))) → held ≡ adds jumped x → after ≡ before ++ length held.made.code ∷ []
    → closed ≡ adds held (coded (one 0 (op.Jump 0))) → to ≡ narrow (end_of closed) → new ≡ led closed test (jump to)
    → OpensParts m before (λ last. c ▹ skipping 1 1 jump x ▹ skipping 0 0 op.Jump last) new after
branch_opens m tested jumped held closed new before after c x jump test to p test_is q r after_is s to_is made last whole waits =
    let three : held ≡ adds (adds (adds m c) (coded (one 1 (jump 0)))) x =
    r ∙ ap (λ y. adds y x) (q ∙ ap (λ y. adds y (coded (one 1 (jump 0)))) p) in
    let four : closed ≡ adds (adds (adds (adds m c) (coded (one 1 (jump 0)))) x) (coded (one 0 (op.Jump 0))) =
    s ∙ ap (λ y. adds y (coded (one 0 (op.Jump 0)))) three in
    subst (λ l. ClosesTo new l last whole) (sym after_is)
    (branch_closes m new whole before test (length held.made.code) to jump c x last (test_is ∙ ap (λ y. length y.made.code) p)
    (ap (λ y. length y.made.code) three) (to_is ∙ ap (λ y. narrow (end_of y)) four) (made ∙ ap (λ y. led y test (jump to)) four) waits)

-- statements of the last part, after which all jumps that wait lead to the end
pub forked_made : (m first later last new : Sketched) (none before after : List ℕ) (v : Visible) (e : ExprTree) (holds others : CodePart) (parts : CodePart → CodePart)
    → none ≡ [] → OpensParts m none (λ fails. fork_code v e holds fails) first before → OpensParts first before parts later after → last ≡ adds later others
    → new ≡ all_led last after (narrow (end_of last)) → new ≡ adds m (fork_code v e holds (parts others))
forked_made m first later last new none before after v e holds others parts none_is p q is made =
    let whole = adds m (fork_code v e holds (parts others)) in
    let waits = subst (λ l. ClosesTo m l (fork_code v e holds (parts others)) whole) (sym none_is) (closes_none m (fork_code v e holds (parts others))) in
    closes_end later last new whole after others (q others whole (p (parts others) whole waits)) is made

-- ---- alternatives

chosen_then : (m dropped held : Sketched) (body : CodePart) → dropped ≡ adds m (coded (one 1 op.Drop)) → held ≡ adds dropped body → held ≡ adds m (chosen_code body)
chosen_then m dropped held body p q = q ∙ ap (λ y. adds y body) p ∙ adds_then m (coded (one 1 op.Drop)) body

pub values_open : (m tested jumped dropped held closed new : Sketched) (before after : List ℕ) (s : Scope) (cs : List ExprTree) (body : CodePart) (test to : ℕ)
    → tested ≡ adds m (coded (choices_code s cs)) → test ≡ length tested.made.code → jumped ≡ adds tested (coded (one 1 (op.Jump 0)))
    → dropped ≡ adds jumped (coded (one 1 op.Drop)) → held ≡ adds dropped body → after ≡ before ++ length held.made.code ∷ []
    → closed ≡ adds held (coded (one 0 (op.Jump 0))) → to ≡ narrow (end_of closed) → new ≡ led closed test (op.Jump to)
    → OpensParts m before (λ others. coded (choices_code s cs) ▹ skipping 1 1 op.Jump (chosen_code body) ▹ skipping 0 0 op.Jump others) new after
values_open m tested jumped dropped held closed new before after s cs body test to p test_is q d r after_is closes to_is made =
    branch_opens m tested jumped held closed new before after (coded (choices_code s cs)) (chosen_code body) op.Jump test to p test_is q
    (chosen_then jumped dropped held body d r) after_is closes to_is made

pub others_open : (m dropped held new : Sketched) (before after : List ℕ) (body : CodePart) → dropped ≡ adds m (coded (one 1 op.Drop)) → held ≡ adds dropped body
    → after ≡ before ++ length held.made.code ∷ [] → new ≡ adds held (coded (one 0 (op.Jump 0)))
    → OpensParts m before (λ others. chosen_code body ▹ skipping 0 0 op.Jump others) new after
others_open m dropped held new before after body p q after_is made last whole waits =
    let two = chosen_then m dropped held body p q in
    subst (λ l. ClosesTo new l last whole) (sym after_is)
    (jump_closes m new whole before (length held.made.code) (chosen_code body) last (ap (λ y. length y.made.code) two)
    (made ∙ ap (λ y. adds y (coded (one 0 (op.Jump 0)))) two) waits)

-- ---- loops

-- the jump back to a turn's begin
abbrev back : ℕ → CodePart
back turn = coded (one 0 (op.Jump (narrow turn)))

returned : (m held new : Sketched) (turn : ℕ) → turn ≡ narrow (end_of m) → new ≡ adds held (coded (one 0 (op.Jump turn))) → new ≡ adds held (back (end_of m))
returned m held new turn is made = made ∙ ap (λ t. adds held (coded (one 0 (op.Jump t)))) is

pub forever_made : (m held new : Sketched) (a : CodePart) (turn : ℕ) → turn ≡ narrow (end_of m) → held ≡ adds m a → new ≡ adds held (coded (one 0 (op.Jump turn)))
    → new ≡ adds m (turned a)
forever_made m held new a turn is p made = returned m held new turn is made ∙ ap (λ y. adds y (back (end_of m))) p ∙ turned_made m a

pub condition_made : (m tested jumped held back_there new : Sketched) (v : Visible) (e : ExprTree) (a : CodePart) (turn place to : ℕ) → turn ≡ narrow (end_of m)
    → tested ≡ adds m (coded (expr_code v 0 e)) → place ≡ length tested.made.code → jumped ≡ adds tested (coded (one 1 (op.JumpIfZero 0)))
    → held ≡ adds jumped a → back_there ≡ adds held (coded (one 0 (op.Jump turn))) → to ≡ narrow (end_of back_there)
    → new ≡ led back_there place (op.JumpIfZero to) → new ≡ adds m (while_code v e a)
condition_made m tested jumped held back_there new v e a turn place to turn_is p place_is q r s to_is made =
    let c = coded (expr_code v 0 e) in
    let both : back_there ≡ adds jumped (a ▹ back (end_of m)) =
    returned m held back_there turn turn_is s ∙ ap (λ y. adds y (back (end_of m))) r ∙ adds_then jumped a (back (end_of m)) in
    skip_made m tested jumped back_there new c (a ▹ back (end_of m)) op.JumpIfZero place to p place_is q both to_is made
    ∙ sym (adds_begun m (λ turn. c ▹ skipping 0 1 op.JumpIfZero (a ▹ back turn)))

pub turn_made : (m held tested jumped counted back_there new : Sketched) (t : Turns) (a : CodePart) (turn place to : ℕ) → turn ≡ narrow (end_of m)
    → held ≡ adds m a → tested ≡ adds held (coded (last_code t)) → place ≡ length tested.made.code → jumped ≡ adds tested (coded (one 1 (op.JumpIfNotZero 0)))
    → counted ≡ adds jumped (coded (next_code t)) → back_there ≡ adds counted (coded (one 0 (op.Jump turn))) → to ≡ narrow (end_of back_there)
    → new ≡ led back_there place (op.JumpIfNotZero to) → new ≡ adds m (turns_code t a)
turn_made m held tested jumped counted back_there new t a turn place to turn_is p q place_is r s b to_is made =
    let next = coded (pieces.◌▸◌ (next_code t) (one 0 (op.Jump (narrow (end_of m))))) in
    let both : back_there ≡ adds jumped next =
    returned m counted back_there turn turn_is b ∙ ap (λ y. adds y (back (end_of m))) s ∙ both_coded jumped (next_code t) (one 0 (op.Jump (narrow (end_of m)))) in
    skip_made held tested jumped back_there new (coded (last_code t)) next op.JumpIfNotZero place to q place_is r both to_is made
    ∙ ap (λ y. adds y (coded (last_code t) ▹ skipping 0 1 op.JumpIfNotZero next)) p ∙ adds_then m a (coded (last_code t) ▹ skipping 0 1 op.JumpIfNotZero next)
    ∙ sym (adds_begun m (λ turn. a ▹ coded (last_code t)
    ▹ skipping 0 1 op.JumpIfNotZero (coded (pieces.◌▸◌ (next_code t) (one 0 (op.Jump (narrow turn)))))))

pub range_made : (m taken bounded new : Sketched) (c : Site) (reversed : Bool) (r : RangeTree) (t : Turns) (more : ℕ) (full : Bool) (a body : CodePart)
    → more ≡ c.taken + 2 → t ≡ turns_at c.taken reversed → full ≡ is_full c.visible.scope r → taken ≡ adds m (takes more)
    → bounded ≡ adds taken (coded (bounds_code c.visible r t)) → new ≡ adds bounded (ranged_code full t (turns_code t a)) → a ≡ body
    → new ≡ adds m (counted_code c reversed r body)
range_made m taken bounded new c reversed r t more full a body more_is t_is full_is p q made same =
    let u = turns_at c.taken reversed in
    let turns = ranged_code (is_full c.visible.scope r) u (turns_code u body) in
    let first : taken ≡ adds m (takes (c.taken + 2)) = p ∙ ap (λ n. adds m (takes n)) more_is in
    let second : bounded ≡ adds taken (coded (bounds_code c.visible r u)) = q ∙ ap (λ x. adds taken (coded (bounds_code c.visible r x))) t_is in
    made ∙ (λ j. adds bounded (ranged_code (full_is j) (t_is j) (turns_code (t_is j) (same j))))
    ∙ ap (λ y. adds y turns) (second ∙ ap (λ y. adds y (coded (bounds_code c.visible r u))) first)
    ∙ adds_then (adds m (takes (c.taken + 2))) (coded (bounds_code c.visible r u)) turns
    ∙ adds_then m (takes (c.taken + 2)) (coded (bounds_code c.visible r u) ▹ turns)

-- ---- ways out

pub out_made : (m begins held new : Sketched) (f : Option ℕ → CodePart) (leaves : Bool) (out place to : ℕ) → leaves ≡ true
    → begins ≡ adds (adds m (coded (one 0 (op.Jump (narrow (end_of m + 2)))))) (coded (one 0 (op.Jump 0))) → out ≡ narrow (end_of m + 1)
    → place ≡ length (adds m (coded (one 0 (op.Jump (narrow (end_of m + 2)))))).made.code → held ≡ adds begins (f (Some out)) → to ≡ narrow (end_of held)
    → new ≡ led held place (op.Jump to) → new ≡ adds m (with_way leaves f)
out_made m begins held new f leaves out place to there p out_is place_is q to_is made =
    let same : held ≡ adds (adds (adds m (coded (one 0 (op.Jump (narrow (end_of m + 2)))))) (coded (one 0 (op.Jump 0)))) (f (Some (narrow (end_of m + 1)))) =
    q ∙ ap (λ y. adds y (f (Some out))) p
    ∙ ap (λ n. adds (adds (adds m (coded (one 0 (op.Jump (narrow (end_of m + 2)))))) (coded (one 0 (op.Jump 0)))) (f (Some n))) out_is in
    made ∙ ap (λ y. led y place (op.Jump to)) same ∙ way_made m f place to place_is (to_is ∙ ap (λ y. narrow (end_of y)) same)
    ∙ ap (λ b. adds m (with_way b f)) (sym there)

-- ---- statements with handlers

pub covered_made : (m covers new : Sketched) (body : CodePart) (handlers : Row → CodePart) (q : Row) (jump : ℕ)
    → covers ≡ adds (adds m body) (coded (one 0 (op.Jump 0))) → q ≡ forms.covered (end_of m) (end_of (adds m body)) → jump ≡ length (adds m body).made.code
    → ((whole : Sketched) → ClosesTo covers (jump ∷ []) (handlers q) whole → new ≡ whole) → new ≡ adds m (covered_code body handlers)
covered_made m covers new body handlers q jump covers_is q_is jump_is made =
    let whole = adds m (covered_code body handlers) in
    let inner : ℕ → ℕ → CodePart = λ start at. skipping 0 0 op.Jump (handlers (forms.covered start at)) in
    let same : whole ≡ adds m (body ▹ skipping 0 0 op.Jump (handlers q)) =
    adds_begun m (λ start. body ▹ begun (inner start)) ∙ sym (adds_then m body (begun (inner (end_of m)))) ∙ adds_begun (adds m body) (inner (end_of m))
    ∙ ap (λ r. adds (adds m body) (skipping 0 0 op.Jump (handlers r))) (sym q_is) ∙ adds_then m body (skipping 0 0 op.Jump (handlers q)) in
    made whole (jump_closes m covers whole [] jump body (handlers q) jump_is covers_is
    (closes_alike m whole [] (covered_code body handlers) (body ▹ skipping 0 0 op.Jump (handlers q)) same (closes_none m (covered_code body handlers))))

one_more : (m : Sketched) (d : ℕ) (o : Operation) → end_of (adds m (coded (one d o))) ≡ suc (end_of m)
unfolding adds coded one
one_more m d o =
    let x : Instr = record { depth = narrow d; operation = o } in
    let long = length-append m.made.code (x ∷ []) in omega (arith, long)

-- what the rows of handlers cover
pub cover_made : (m held closed : Sketched) (body : CodePart) (start after : ℕ) → held ≡ adds m body → closed ≡ adds held (coded (one 0 (op.Jump 0)))
    → start ≡ narrow (end_of m) → after ≡ narrow (end_of closed)
    → (record { start = start; end_ = after; exception = 0; target = after }) ≡ forms.covered (end_of m) (end_of (adds m body))
cover_made m held closed body start after p q start_is after_is =
    let behind : after ≡ narrow (suc (end_of (adds m body))) =
    after_is ∙ ap (λ y. narrow (end_of y)) q ∙ ap narrow (one_more held 0 (op.Jump 0)) ∙ ap (λ y. narrow (suc (end_of y))) p in
    λ j. record { start = start_is j; end_ = behind j; exception = 0; target = behind j }

-- ---- lists

-- where one part of an `if` isn't alone
pub forked : (v : Visible) (e : ExprTree) (parts : List ElsifPart) (others : List Stmt) (holds fails : CodePart) → (length parts == 0 && length others == 0) ≡ false
    → if_code v e (elsif_trees parts) (stmt_trees others) holds fails ≡ fork_code v e holds fails
forked v e [] [] holds fails alone = absurd (let never : true ≡ false = alone in cc)
forked v e [] (x ∷ others) holds fails alone = refl
forked v e (x ∷ parts) others holds fails alone = refl

pub handled : (all : List Handler) (body : CodePart) (handlers : Row → CodePart) → (length all == 0) ≡ false
    → sequence_code (handler_trees all) body handlers ≡ covered_code body handlers
handled [] body handlers some = absurd (let never : true ≡ false = some in cc)
handled (x ∷ all) body handlers some = refl

-- a statement that adds nothing
pub nothing_made : (c : Site) (m : Sketched) (x y : StmtTree) → x ≡ y → stmt_code c y ≡ coded nothing → m ≡ adds m (stmt_code c x)
nothing_made c m x y is none = sym (adds_nothing m) ∙ ap (adds m) (sym none) ∙ ap (λ z. adds m (stmt_code c z)) (sym is)

-- a statement whose code was added
pub stated : {T E : Type 0} (c : Site) (m new : Sketched) (x y : StmtTree) (a : CodePart) → x ≡ y → stmt_code c y ≡ a → (r : Result T E)
    → OnOk r (new ≡ adds m a) → OnOk r (new ≡ adds m (stmt_code c x))
stated c m new x y a is code r p =
    subst (λ z. OnOk r (new ≡ adds m (stmt_code c z))) (sym is) (subst (λ b. OnOk r (new ≡ adds m b)) (sym code) p)

-- one part after another that was added before
pub then_added : {T E : Type 0} (m mid new : Sketched) (a b : CodePart) → mid ≡ adds m a → (r : Result T E) → OnOk r (new ≡ adds mid b)
    → OnOk r (new ≡ adds m (a ▹ b))
then_added m mid new a b is r p = on_ok_weaker r (λ made. made ∙ ap (λ y. adds y b) is ∙ adds_then m a b) p

pub looped : {T E : Type 0} (c : Site) (m new : Sketched) (x : StmtTree) (place : ℕ) (i : IterationTree) (body : StmtTrees) → x ≡ trees.Loop place i body
    → (r : Result T E) → OnOk r ((at : ℕ) → new ≡ adds m (stmt_code c (trees.Loop at i body))) → OnOk r (new ≡ adds m (stmt_code c x))
looped c m new x place i body is r p =
    subst (λ z. OnOk r (new ≡ adds m (stmt_code c z))) (sym is) (on_ok_weaker r (λ made. made place) p)

-- statements that handlers cover, and these, where what is visible stayed the same
pub sequence_made : (c : Site) (later : Visible) (m covers new : Sketched) (body : StmtTrees) (all : HandlerTrees) (q : Row) (jump : ℕ)
    → covers ≡ adds (adds m (stmts_code c body)) (coded (one 0 (op.Jump 0))) → q ≡ forms.covered (end_of m) (end_of (adds m (stmts_code c body)))
    → jump ≡ length (adds m (stmts_code c body)).made.code → later ≡ c.visible
    → ((whole : Sketched) → ClosesTo covers (jump ∷ []) (handlers_code (record c { visible = later }) q [] all) whole → new ≡ whole)
    → new ≡ adds m (covered_code (stmts_code c body) (λ r. handlers_code c r [] all))
sequence_made c later m covers new body all q jump p q_is jump_is same made =
    covered_made m covers new (stmts_code c body) (λ r. handlers_code c r [] all) q jump p q_is jump_is
    (λ whole waits. made whole (subst (λ v. ClosesTo covers (jump ∷ []) (handlers_code (record c { visible = v }) q [] all) whole) (sym same) waits))
