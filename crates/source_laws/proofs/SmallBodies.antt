-- Each body of a small accepted text is small, so its code has room; and no limit refuses the text.
use Rattle.std.proofs.Common.{◌≡◌, ℕ, zero, suc, ◌+◌, ◌≤◌, max, List, [], ◌∷◌, ◌++◌, length, map, inl, inr, Option, Some, None, refl, sym, ap, ◌∙◌, subst, arith}
use Rattle.std.specs.Prelude.{slice_get}
use Rattle.std.proofs.lemmas.Bool.{or_from}
use Rattle.base.specs.declared.limits.TheConstants.{FRAME_WORDS}
use Rattle.lexer.specs.declared.token.Token.{Token}
use Rattle.ada_tree.specs.declared.expression.Identifier.{Identifier}
use Rattle.ada_tree.specs.Depth.{body_depth, body_item_depth, deepest, depth, depth_if_any, expr_depth, package_depth, protected_item_depth, stmts_depth, subprogram_depth}
use Rattle.ada_tree.specs.ExpressionGrammar.{expression}
use Rattle.ada_tree.specs.ExpressionTree.{ExprTree}
use Rattle.ada_tree.specs.Language.{Limit, Tokens, each, optional}
use Rattle.ada_tree.specs.ProgramGrammar.{body, body_item, package_part, program, protected_item}
use Rattle.ada_tree.specs.StatementGrammar.{stmts}
use Rattle.ada_tree.specs.StatementTree.{MoreStmts, NoStmts, Return, StmtTrees}
use Rattle.ada_tree.specs.ProgramTree.{BodyItemTree, BodyTree, EntryBody, ItemTree, OfItem, OperationBody, PackageTree, ProgramTree, ProtectedBody, ProtectedItemTree, SubprogramBody, TaskBody}
use Rattle.types.specs.Scopes.{Scope}
use Rattle.program_soundness.specs.declaration_rules.specs.BodyNames.{formals_scope}
use Rattle.program_soundness.specs.stmt_rules.specs.declared.around.BodyKind.TheVariants as kind
use Rattle.legality.specs.ProgramRules.{IsLegal}
use Rattle.program_soundness.specs.ravenscar.specs.ProgramRules.{IsRestricted}
use Rattle.expr_soundness.specs.meaning.specs.Programs.{program_of, returned, subtype_named}
use Rattle.program_soundness.specs.Fronts.{declared_in, front, start_in}
use Rattle.program_soundness.proofs.Listing.{same_some}
use Rattle.expr_code.specs.declared.refusal.ImageLimit.{ImageLimit}
use Rattle.expr_code.specs.declared.refusal.ImageLimit.TheVariants as limits
use Rattle.expr_code.specs.declared.refusal.Refusal.TheVariants as refusal
use Rattle.part_code.specs.Bounds.{body_words, formals_words}
use Rattle.part_code.specs.Needs.{Needs, both, nothing}
use Rattle.stmt_code.specs.WholeRefusals.{procedure_needs}
use Rattle.package_code.specs.Refusing.{RefusesLinking, bodies_needs, body_needs, function_if_any, item_needs, items_needs, program_needs, seen_by, slot_in}
use Rattle.package_code.specs.Bodies.{Coded, coded_at, number_in, of_subprogram, of_task, own_body, IsBodyOf}
use Rattle.package_code.specs.Owners.{told_inside, told_slot}
use Rattle.package_code.proofs.Coded.{coded_by}
use Rattle.package_code.proofs.InFront.{LawsOfNames}
use Rattle.package_code.proofs.OperationsAdded as added
use Rattle.package_code.proofs.Seen.{behind_long}
use Rattle.package_code.specs.Providing.{BodyIsCovered}
use Rattle.source_laws.specs.Covered.{NamesAreCovered}
use Rattle.source_laws.specs.Depths.{FunctionsHaveRoom, IsSmallFunction, IsSmallProcedure, IsSmallVisible, ProceduresHaveRoom, StaysWithinLimits}
use Rattle.source_laws.specs.Limits.{HasLargeFrames, LimitsAreTold, MayPassLimits, SmallHasRoom, SmallIsUnlimited}
use Rattle.source_laws.specs.Small.{HasSmallBodies, SmallCodeFits, body_loops}
use Rattle.source_laws.specs.Visible.{FrontsAreSmall, NothingIsUnfit}
use Rattle.source_laws.proofs.CodeCounted.{behind, behind_is, few_of}
use Rattle.source_laws.proofs.WholeBodies.{IsLegalBody, legal_body}

-- ---- the tokens of a body, and its depth

-- these are the tokens of a body, which is no deeper
record IsTold (limit : Limit) (most : ℕ) (c : BodyTree) : Type 0 where
  tokens : Tokens
  spelled : body limit c tokens
  shallow : body_depth c ≤ most

told_deeper : (limit : Limit) (m n : ℕ) (c : BodyTree) → m ≤ n → IsTold limit m c → IsTold limit n c
told_deeper limit m n c more h = record { tokens = h.tokens; spelled = h.spelled; shallow = (let up = h.shallow in omega (arith, up, more)) }

-- one of a list tells
told_at : {A : Type 0} (p : A → Tokens → Type 0) (depth_of : A → ℕ) (limit : Limit) (c : BodyTree) (xs : List A) (ts : Tokens) (k : ℕ) (x : A) → each p xs ts
    → slice_get xs k ≡ Some x
    → ((us : Tokens) → p x us → IsTold limit (depth_of x) c)
    → IsTold limit (deepest depth_of xs) c
told_at p depth_of limit c [] ts k x h at f = cc
told_at p depth_of limit c (y ∷ xs) ts zero x h at f =
    told_deeper limit (depth_of x) (max (depth_of y) (deepest depth_of xs)) c (let same = ap depth_of (same_some y x at) in omega (arith, same))
    (f h.0 (subst (λ z. p z h.0) (same_some y x at) h.3))
told_at p depth_of limit c (y ∷ xs) ts (suc k) x h at f =
    told_deeper limit (deepest depth_of xs) (max (depth_of y) (deepest depth_of xs)) c (omega arith) (told_at p depth_of limit c xs h.1 k x h.4 at f)

unit_told : (limit : Limit) (i : ProtectedItemTree) (ts : Tokens) → protected_item limit i ts → IsTold limit (protected_item_depth i) (own_body i)
unit_told limit (OperationBody d b) ts h = record { tokens = h.4.1; spelled = h.4.4; shallow = omega arith }
unit_told limit (EntryBody d barrier b) ts h = record { tokens = h.4.4.4.1; spelled = h.4.4.4.4; shallow = omega arith }

-- the body that an item is or has
abbrev HasBody : BodyItemTree → BodyTree → Type 0
HasBody (SubprogramBody d b) c = b ≡ c
HasBody (TaskBody name b) c = b ≡ c
HasBody (ProtectedBody name items end_name) c = (j : ℕ) × (i : ProtectedItemTree) × (slice_get items j ≡ Some i) × (own_body i ≡ c)
HasBody (OfItem d) c = ⊥

item_told : (limit : Limit) (x : BodyItemTree) (c : BodyTree) (ts : Tokens) → HasBody x c → body_item limit x ts → IsTold limit (body_item_depth x) c
item_told limit (SubprogramBody d b) c ts is h =
    subst (IsTold limit (max (subprogram_depth d) (body_depth b))) is (record { tokens = h.4.1; spelled = h.4.4; shallow = omega arith })
item_told limit (TaskBody name b) c ts is h =
    subst (IsTold limit (body_depth b)) is (record { tokens = h.4.4.4.1; spelled = h.4.4.4.4; shallow = omega arith })
item_told limit (ProtectedBody name items end_name) c ts is h =
    told_at (protected_item limit) protected_item_depth limit c items h.4.4.4.4.0 is.0 is.1 h.4.4.4.4.3 is.2
    (λ us own. subst (IsTold limit (protected_item_depth is.1)) is.3 (unit_told limit is.1 us own))
item_told limit (OfItem d) c ts is h = absurd is

-- a body is in none of the declarations in front
behind_items : {P : Type 0} (ds : List ItemTree) (xs : List BodyItemTree) (k : ℕ) (x : BodyItemTree) (c : BodyTree)
    → slice_get (map OfItem ds ++ xs) k ≡ Some x → HasBody x c
    → ((n : ℕ) → slice_get xs n ≡ Some x → P)
    → P
behind_items [] xs k x c at is f = f k at
behind_items (e ∷ ds) xs zero x c at is f = absurd (subst (λ y. HasBody y c) (sym (same_some (OfItem e) x at)) is)
behind_items (e ∷ ds) xs (suc k) x c at is f = behind_items ds xs k x c at is f

body_told : (limit : Limit) (t : ProgramTree) (ts : Tokens) (k : ℕ) (x : BodyItemTree) (c : BodyTree) → program limit t ts
    → slice_get (declared_in t.package_) k ≡ Some x → HasBody x c
    → IsTold limit (depth t) c
body_told limit t ts k x c h at is =
    told_deeper limit (depth_if_any package_depth t.package_) (depth t) c (omega arith) (by_package t.package_ h.4.0 h.4.3 at)
  where
    by_package : (o : Option PackageTree) (us : Tokens) → optional (package_part limit) o us → slice_get (declared_in o) k ≡ Some x
        → IsTold limit (depth_if_any package_depth o) c
    by_package None us i there = cc
    by_package (Some p) us i there =
        behind_items p.declaration.items p.body.items k x c there is
        (λ n found.
        told_deeper limit (deepest body_item_depth p.body.items) (package_depth p) c (omega arith)
        (told_at (body_item limit) body_item_depth limit c p.body.items i.4.4.3.4.4.4.4.0 n x i.4.4.3.4.4.4.4.3 found
        (λ vs own. item_told limit x c vs is own)))

-- the value that a function returns
record IsValue (limit : Limit) (body : StmtTrees) (e : ExprTree) : Type 0 where
  tokens : Tokens
  spelled : expression limit e tokens
  shallow : expr_depth e ≤ stmts_depth body

value_there : (limit : Limit) (body : StmtTrees) (ts : Tokens) (e : ExprTree) → stmts body limit ts → returned body ≡ Some e → IsValue limit body e
value_there limit (MoreStmts (Return place (Some x)) NoStmts) ts e h is =
    let same = same_some x e is in
    record {
      tokens = h.3.4.0;
      spelled = subst (λ y. expression limit y h.3.4.0) same h.3.4.3;
      shallow = subst (λ y. expr_depth y ≤ max (expr_depth x) 0) same (omega arith);
    }
value_there limit (MoreStmts (Return place (Some x)) (MoreStmts y rest)) ts e h is = cc
value_there limit (MoreStmts (Return place None) NoStmts) ts e h is = cc
value_there limit (MoreStmts (Return place None) (MoreStmts y rest)) ts e h is = cc
value_there limit body ts e h is = cc

-- ---- bodies that have room

room_of_both : (a b : Needs) → StaysWithinLimits a → StaysWithinLimits b → StaysWithinLimits (both a b)
room_of_both a b h k =
    record { stack = most a.stack b.stack h.stack k.stack; frame = most a.frame b.frame h.frame k.frame; fit = or_from a.unfit b.unfit h.fit k.fit }
  where
    most : (m n : ℕ) → m ≤ FRAME_WORDS → n ≤ FRAME_WORDS → max m n ≤ FRAME_WORDS
    most m n i j = omega (arith, i, j)

no_needs : StaysWithinLimits nothing
no_needs = record { stack = omega arith; frame = omega arith; fit = refl }

module _ (t : ProgramTree) where
  bodies_room : (cs : List Coded) → ((k : ℕ) (c : Coded) → slice_get cs k ≡ Some c → StaysWithinLimits (body_needs t c)) → StaysWithinLimits (bodies_needs t cs)
  bodies_room [] room = no_needs
  bodies_room (c ∷ cs) room =
      room_of_both (body_needs t c) (bodies_needs t cs) (room 0 c refl) (bodies_room cs (λ k x at. room (suc k) x at))

  item_room : (place : ℕ) (x : BodyItemTree) → ((k : ℕ) (c : Coded) → slice_get (coded_at t place x) k ≡ Some c → StaysWithinLimits (body_needs t c))
      → StaysWithinLimits (item_needs t place x)
  item_room place (OfItem d) room = record { stack = omega arith; frame = omega arith; fit = refl }
  item_room place (SubprogramBody d b) room = room 0 (of_subprogram (front t (suc place)) d b) refl
  item_room place (TaskBody name b) room = room 0 (of_task (front t (suc place)) name b) refl
  item_room place (ProtectedBody name items end_name) room = bodies_room (coded_at t place (ProtectedBody name items end_name)) room

  items_room : (place : ℕ) (xs : List BodyItemTree)
      → ((k : ℕ) (x : BodyItemTree) → slice_get xs k ≡ Some x → StaysWithinLimits (item_needs t (behind place k) x))
      → StaysWithinLimits (items_needs t place xs)
  items_room place [] room = no_needs
  items_room place (x ∷ rest) room =
      room_of_both (item_needs t place x) (items_needs t (suc place) rest) (room 0 x refl) (items_room (suc place) rest (λ k y at. room (suc k) y at))

-- ---- each body of a small text

few_together : (a c e : ℕ) → a + c + e ≤ 64 → a + c ≤ 64
few_together a c e h = omega (arith, h)

few_formals_alone : (a c e : ℕ) → a + c + e ≤ 64 → a ≤ 64
few_formals_alone a c e h = omega (arith, h)

module _ (laws : LawsOfNames) (fronts : FrontsAreSmall) (covered : NamesAreCovered) (procedures : ProceduresHaveRoom) (functions : FunctionsHaveRoom) (limit : Limit) (t : ProgramTree)
    (tokens : List Token) (spelled : program limit t tokens) (legal : IsLegal t) (restricted : IsRestricted t) (small : HasSmallBodies t)
    (c : Coded) (b : IsBodyOf t c) where
  abbrev inside : Scope
  inside = formals_scope c.front c.head.formals

  own : IsLegalBody t c
  own = legal_body laws t legal restricted c b

  provided : BodyIsCovered t c
  provided = covered limit t tokens spelled legal restricted c b

  names : IsSmallVisible (program_of t).exceptions (seen_by t c)
  names =
      record {
        names = fronts limit t tokens spelled legal restricted small c b;
        entries = record {
          slots = behind_long (told_slot (slot_in t) (number_in t) c.owner) (length (start_in t.package_)) c.front;
          subprograms = behind_long (told_inside (number_in t) c.owner) (length (start_in t.package_)) c.front;
        };
        known = provided.names;
      }

  has_body : HasBody b.item c.body
  has_body =
      coded_by t b.place (λ y n e. slice_get (declared_in t.package_) b.place ≡ Some y → HasBody y e.body) (λ d own at. refl) (λ name own at. refl)
      (λ name items end_name n e is at.
      let y = added.inside_coded laws.scopes laws.names laws.premises t legal restricted b.place name items end_name at n e is in
      (n, y.0, y.1, ap (λ z. z.body) (sym y.2))) b.item b.index c b.coded b.at

  told : IsTold limit (depth t) c.body
  told = body_told limit t tokens b.place b.item c.body spelled b.at has_body

  shallow : body_depth c.body ≤ 16
  shallow = let up = told.shallow in let flat = small.flat in omega (arith, up, flat)

  small_procedure : IsSmallProcedure c.front c.head.formals c.body
  small_procedure =
      record {
        few = own.few;
        head = provided.added.head;
        limit = limit;
        tokens = told.tokens;
        spelled = told.spelled;
        kind = own.kind;
        legal = own.legal;
        restricted = own.restricted;
        shallow = shallow;
        words = few_together (formals_words c.front inside c.head.formals) (body_words inside c.body) (body_loops c.body) (few_of t small c b);
      }

  small_function : (r : Identifier) (e : ExprTree) → c.head.result ≡ Some r → returned c.body.statements ≡ Some e
      → IsSmallFunction c.front c.head.formals (subtype_named (program_of t).scope r) e
  small_function r e some is =
      let value = value_there limit c.body.statements _ e told.spelled.4.4.3 is in
      record {
        few = own.few;
        head = provided.added.head;
        scalar = provided.added.scalar r some;
        limit = limit;
        tokens = value.tokens;
        spelled = value.spelled;
        legal = own.value r e some is;
        shallow = under (expr_depth e) (stmts_depth c.body.statements) _ _ value.shallow shallow;
        words = few_formals_alone (formals_words c.front inside c.head.formals) (body_words inside c.body) (body_loops c.body) (few_of t small c b);
      }
    where
      under : (a c e f : ℕ) → a ≤ c → max e (max c f) ≤ 16 → a ≤ 16
      under a c e f h k = omega (arith, h, k)

  code_room : StaysWithinLimits (body_needs t c)
  code_room = by_result c.head.result refl
    where
      by_value : (r : Identifier) → c.head.result ≡ Some r → (o : Option ExprTree) → returned c.body.statements ≡ o
          → StaysWithinLimits (function_if_any (seen_by t c) c.head.formals o)
      by_value r some (Some e) is =
          functions (program_of t).exceptions (seen_by t c) c.head.formals (subtype_named (program_of t).scope r) e names (small_function r e some is)
      by_value r some None is = no_needs

      by_result : (r : Option Identifier) → c.head.result ≡ r
          → StaysWithinLimits (elim r [
            | None ↦ procedure_needs (seen_by t c) c.head.formals c.body
            | Some x ↦ function_if_any (seen_by t c) c.head.formals (returned c.body.statements)
          ])
      by_result None none = procedures (program_of t).exceptions (seen_by t c) c.head.formals c.body names small_procedure
      by_result (Some x) some = by_value x some (returned c.body.statements) refl

-- ---- the whole text

pub small_has_room : LawsOfNames → FrontsAreSmall → NamesAreCovered → ProceduresHaveRoom → FunctionsHaveRoom → SmallHasRoom
small_has_room laws fronts covered procedures functions limit t tokens spelled legal restricted small =
    items_room t 0 (declared_in t.package_)
    (λ k x at. subst (λ n. StaysWithinLimits (item_needs t n x)) (let same = behind_is 0 k in omega (arith, same))
    (item_room t k x (λ n c is. one_room k x at n c is)))
  where
    one_room : (k : ℕ) (x : BodyItemTree) → slice_get (declared_in t.package_) k ≡ Some x → (n : ℕ) (c : Coded)
        → slice_get (coded_at t k x) n ≡ Some c
        → StaysWithinLimits (body_needs t c)
    one_room k x at n c is =
        code_room laws fronts covered procedures functions limit t tokens spelled legal restricted small c
        (record { place = k; item = x; index = n; at = at; coded = is })

pub limits_told : SmallHasRoom → NothingIsUnfit → LimitsAreTold
limits_told has_room unfit limit t tokens spelled legal restricted passed refused = by_reason passed refused
  where
    roomy : StaysWithinLimits (program_needs t) → HasLargeFrames t → ⊥
    roomy room deep = let one = room.stack in let two = room.frame in omega (arith, deep, one, two)

    by_reason : (passed : ImageLimit) → RefusesLinking t (refusal.Limit passed) → MayPassLimits t
    by_reason limits.Instructions (inl many) = inl (inl many)
    by_reason limits.Frame (inl deep) = inr (deep, λ small. roomy (has_room limit t tokens spelled legal restricted small) deep)
    by_reason limits.Block (inl bad) = let none = unfit limit t tokens spelled legal restricted in absurd (let never = sym none ∙ bad in cc)
    by_reason limits.Rows (inr many) = inl (inr many)
    by_reason other (inl r) = absurd r
    by_reason other (inr r) = absurd r

pub small_is_unlimited : SmallCodeFits → SmallIsUnlimited
small_is_unlimited fits limit t tokens spelled legal restricted small (inl (inl many)) =
    let up = (fits limit t tokens spelled legal restricted small).instructions in omega (arith, many, up)
small_is_unlimited fits limit t tokens spelled legal restricted small (inl (inr many)) =
    let up = (fits limit t tokens spelled legal restricted small).rows in omega (arith, many, up)
small_is_unlimited fits limit t tokens spelled legal restricted small (inr large) = large.1 small.bodies
