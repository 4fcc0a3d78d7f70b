-- Each part of a text has no more nodes than tokens, and the code of each body no more instructions than 20 for each token that spells it, and two for each
-- word.
use Rattle.std.proofs.Common.{◌≡◌, ◌++◌, ◌+◌, ◌*◌, ◌≤◌, ℕ, zero, suc, ◌⊎◌, inl, inr, List, [], ◌∷◌, append_assoc, length, length-append, map, take, Option, Some, None, refl, sym, ap, ◌∙◌, subst, arith}
use Rattle.std.specs.Prelude.{slice_get}
use Rattle.lexer.specs.declared.token.Token.{Token}
use Rattle.ada_tree.specs.declared.expression.Identifier.{Identifier}
use Rattle.ada_tree.specs.Language.{Limit, Tokens, each, optional}
use Rattle.ada_tree.specs.ProgramGrammar.{body_item, package_body, package_part, program, protected_item}
use Rattle.ada_tree.specs.StatementTree.{SubprogramTree}
use Rattle.ada_tree.specs.ProgramTree.{BodyItemTree, BodyTree, EntryBody, ItemTree, OfItem, OperationBody, PackageTree, ProgramTree, ProtectedBody, ProtectedItemTree, SubprogramBody, TaskBody}
use Rattle.ada_tree.specs.Size.{body_size, protected_item_size, subprogram_size}
use Rattle.ada_tree.proofs.Counts.{AtLeast, fewer, joins, later, one}
use Rattle.ada_tree.proofs.ExpressionCounts.{expression_counts}
use Rattle.ada_tree.proofs.ProgramCounts.{body_counts, body_item_counts}
use Rattle.ada_tree.proofs.StatementCounts.{entry_counts, stmt_counts, subprogram_counts}
use Rattle.types.specs.declared.entity.RecordComponent.{RecordComponent}
use Rattle.types.specs.Scopes.{Scope, number_of}
use Rattle.program_soundness.specs.declaration_rules.specs.BodyNames.{object_body_scope}
use Rattle.program_soundness.specs.unit_rules.specs.ProtectedBodyRules.{components_at, protected_items_scope}
use Rattle.expr_soundness.specs.meaning.specs.Programs.{program_of}
use Rattle.program_soundness.specs.Fronts.{declared_in, front}
use Rattle.program_soundness.proofs.Listing.{same_some}
use Rattle.package_code.specs.Bodies.{Coded, IsBodyOf, coded_at, components_or_none, object_bodies, object_number, of_operation, of_subprogram, of_task, own_body, own_head}
use Rattle.package_code.specs.Counts.{bound_of}
use Rattle.package_code.proofs.Coded.{coded_by}
use Rattle.package_code.proofs.OperationsAdded.{operation_coded}
use Rattle.source_laws.specs.Counted.{CodeWithinTokens, HasBodyTokens, PartsWithinTokens, words_in}
use Rattle.source_laws.proofs.CodeCounted.{coded_size}

pub parts_within_tokens : PartsWithinTokens
parts_within_tokens =
    record {
      expressions = λ limit e tokens h. (expression_counts limit e).within tokens h;
      statements = λ limit x tokens h. (stmt_counts x limit).within tokens h;
      bodies = λ limit b tokens h. (body_counts limit b).within tokens h;
      items = λ limit x tokens h. (body_item_counts limit x).within tokens h;
      operations = operations_within;
    }
  where
    joined : (m n : ℕ) (tokens u v : Tokens) → tokens ≡ u ++ v → m ≤ length u → n ≤ length v → m + n ≤ length tokens
    joined m n tokens u v is one other = omega (arith, ap length is, length-append u v, one, other)

    operations_within : (limit : Limit) (i : ProtectedItemTree) (tokens : List Token) → protected_item limit i tokens → protected_item_size i ≤ length tokens
    operations_within limit (OperationBody d b) tokens h = (body_item_counts limit (SubprogramBody d b)).within tokens h
    operations_within limit (EntryBody d barrier b) tokens h =
        let first = (entry_counts limit d).within h.0 h.3 in
        let second = h.4 in
        let third = second.4 in
        let value = (expression_counts limit barrier).within third.0 third.3 in
        let last = third.4 in
        let own = (body_counts limit b).within last.1 last.4 in
        omega (
          arith,
          first,
          value,
          own,
          ap length h.2,
          length-append h.0 h.1,
          ap length second.2,
          length-append second.0 second.1,
          ap length third.2,
          length-append third.0 third.1,
          ap length last.2,
          length-append last.0 last.1,
        )

-- ---- the tokens of one item

-- those of the one at a place of a list, and where they stand in those of all
record IsAmong {A : Type 0} (p : A → Tokens → Type 0) (x : A) (tokens : Tokens) : Type 0 where
  front : Tokens
  part : Tokens
  behind : Tokens
  split : tokens ≡ front ++ (part ++ behind)
  spelled : p x part

-- with more in front, and more behind
further : {A : Type 0} {p : A → Tokens → Type 0} (x : A) (tokens more whole : Tokens) → whole ≡ more ++ tokens → IsAmong p x tokens → IsAmong p x whole
further x tokens more whole is a =
    record {
      front = more ++ a.front;
      part = a.part;
      behind = a.behind;
      split = is ∙ ap (λ l. more ++ l) a.split ∙ sym (append_assoc more a.front (a.part ++ a.behind));
      spelled = a.spelled;
    }

nearer : {A : Type 0} {p : A → Tokens → Type 0} (x : A) (tokens more whole : Tokens) → whole ≡ tokens ++ more → IsAmong p x tokens → IsAmong p x whole
nearer x tokens more whole is a =
    record {
      front = a.front;
      part = a.part;
      behind = a.behind ++ more;
      split = is ∙ ap (λ l. l ++ more) a.split ∙ append_assoc a.front (a.part ++ a.behind) more ∙ ap (λ l. a.front ++ l) (append_assoc a.part a.behind more);
      spelled = a.spelled;
    }

among : {A : Type 0} (p : A → Tokens → Type 0) (xs : List A) (k : ℕ) (x : A) (tokens : Tokens) → each p xs tokens → slice_get xs k ≡ Some x → IsAmong p x tokens
among p [] k x tokens h at = cc
among p (y ∷ xs) zero x tokens h at = record { front = []; part = h.0; behind = h.1; split = h.2; spelled = subst (λ z. p z h.0) (same_some y x at) h.3 }
among p (y ∷ xs) (suc k) x tokens h at = further x h.1 h.0 tokens h.2 (among p xs k x h.1 h.4 at)

-- a list that is behind n others
pub behind_declared : (ds : List ItemTree) (xs : List BodyItemTree) (k : ℕ) (x : BodyItemTree) → slice_get (map OfItem ds ++ xs) k ≡ Some x
    → ((d : ItemTree) × (x ≡ OfItem d)) ⊎ ((j : ℕ) × (slice_get xs j ≡ Some x))
behind_declared [] xs k x at = inr (k, at)
behind_declared (d ∷ ds) xs zero x at = inl (d, sym (same_some (OfItem d) x at))
behind_declared (d ∷ ds) xs (suc k) x at = behind_declared ds xs k x at

-- the tokens of an item of a package's body are among those of the text
item_among : (limit : Limit) (t : ProgramTree) (tokens : Tokens) → program limit t tokens → (place : ℕ) (x : BodyItemTree)
    → slice_get (declared_in t.package_) place ≡ Some x → ((d : ItemTree) → x ≡ OfItem d → ⊥) → IsAmong (body_item limit) x tokens
item_among limit t tokens h place x at none = by_package t.package_ h.4.3 at
  where
    by_package : (o : Option PackageTree) → optional (package_part limit) o h.4.0 → slice_get (declared_in o) place ≡ Some x
        → IsAmong (body_item limit) x tokens
    by_package None k at = cc
    by_package (Some p) k at = by_place (behind_declared p.declaration.items p.body.items place x at)
      where
        body_tokens : package_body limit p.body k.4.4.0
        body_tokens = k.4.4.3

        by_place : ((d : ItemTree) × (x ≡ OfItem d)) ⊎ ((j : ℕ) × (slice_get p.body.items j ≡ Some x)) → IsAmong (body_item limit) x tokens
        by_place (inl d) = absurd (none d.0 d.1)
        by_place (inr j) =
            let q = body_tokens in
            let one = among (body_item limit) p.body.items j.0 x q.4.4.4.4.0 q.4.4.4.4.3 j.1 in
            let two = nearer x q.4.4.4.4.0 q.4.4.4.4.1 q.4.4.4.1 q.4.4.4.4.2 one in
            let three = further x q.4.4.4.1 q.4.4.4.0 q.4.4.1 q.4.4.4.2 two in
            let four = further x q.4.4.1 q.4.4.0 q.4.1 q.4.4.2 three in
            let five = further x q.4.1 q.4.0 q.1 q.4.2 four in
            let six = further x q.1 q.0 k.4.4.0 q.2 five in
            let seven = nearer x k.4.4.0 k.4.4.1 k.4.1 k.4.4.2 six in
            let eight = further x k.4.1 k.4.0 k.1 k.4.2 seven in
            let nine = further x k.1 k.0 h.4.0 k.2 eight in
            let ten = nearer x h.4.0 h.4.1 h.1 h.4.2 nine in
            further x h.1 h.0 tokens h.2 ten

-- ---- the code of a body

-- the body at this place of those of an object is that of its operation there
object_coded : (o : ℕ) (s : Scope) (visible : Option ℕ) (items : List ProtectedItemTree) (k : ℕ) (c : Coded)
    → slice_get (object_bodies o s visible items) k ≡ Some c
    → (i : ProtectedItemTree) × (slice_get items k ≡ Some i) × (u : Scope) × (cs : List RecordComponent) × (c ≡ of_operation o u cs i)
object_coded o s (Some n) items k c is =
    let cs = components_or_none (components_at s n) in
    let x = operation_coded o (object_body_scope s n) cs items k c is in (x.0, x.1, protected_items_scope (object_body_scope s n) (take k items), cs, x.2)
object_coded o s None items k c is = let x = operation_coded o s [] items k c is in (x.0, x.1, protected_items_scope s (take k items), [], x.2)

-- a body's parts, with those of its head, are fewer than the tokens that spell it, since none of them counts by the word `is`
subprogram_spelled : (limit : Limit) (d : SubprogramTree) (b : BodyTree)
    → AtLeast (suc (subprogram_size d + body_size b)) (body_item limit (SubprogramBody d b))
subprogram_spelled limit d b = fewer (joins (subprogram_counts limit d) (joins one (body_counts limit b))) (omega arith)

task_spelled : (limit : Limit) (name : Identifier) (b : BodyTree) → AtLeast (suc (1 + body_size b)) (body_item limit (TaskBody name b))
task_spelled limit name b = fewer (joins one (joins one (later (later (body_counts limit b))))) (omega arith)

operation_spelled : (limit : Limit) (i : ProtectedItemTree)
    → AtLeast (suc (subprogram_size (own_head i) + body_size (own_body i))) (protected_item limit i)
operation_spelled limit (OperationBody d b) = fewer (joins (subprogram_counts limit d) (joins one (body_counts limit b))) (omega arith)
operation_spelled limit (EntryBody d barrier b) =
    fewer (joins (entry_counts limit d) (joins one (later (later (body_counts limit b))))) (omega arith)

-- an item, or a part of it, is spelled among the tokens
abbrev HasBound : Limit → Tokens → BodyItemTree → ℕ → Coded → Type 0
HasBound limit tokens x k c = IsAmong (body_item limit) x tokens → (y : HasBodyTokens limit x k tokens) × (suc (coded_size c) ≤ length y.part)

-- the tokens of a body with code
pub body_tokens : (limit : Limit) (t : ProgramTree) (tokens : Tokens) → program limit t tokens → (c : Coded) (b : IsBodyOf t c)
    → (y : HasBodyTokens limit b.item b.index tokens) × (suc (coded_size c) ≤ length y.part)
body_tokens limit t tokens spelled c b =
    coded_by t b.place (HasBound limit tokens) subprogram_bound task_bound object_bound b.item b.index c b.coded
    (item_among limit t tokens spelled b.place b.item b.at
    (λ d is. none d (subst (λ x. slice_get (coded_at t b.place x) b.index ≡ Some c) is b.coded)))
  where
    none : (d : ItemTree) → slice_get (coded_at t b.place (OfItem d)) b.index ≡ Some c → ⊥
    none d h = cc

    -- a task's has no formals
    bare_head : (size tokens : ℕ) → suc (1 + size) ≤ tokens → suc ((1 + 0) + size) ≤ tokens
    bare_head size tokens h = omega (arith, h)

    subprogram_bound : (d : _) (own : _) → HasBound limit tokens (SubprogramBody d own) 0 (of_subprogram (front t (suc b.place)) d own)
    subprogram_bound d own a =
        let y : HasBodyTokens limit (SubprogramBody d own) 0 tokens =
        record { front = a.front; part = a.part; behind = a.behind; split = a.split; spelled = a.spelled } in
        (y, (subprogram_spelled limit d own).within a.part a.spelled)

    task_bound : (name : Identifier) (own : _) → HasBound limit tokens (TaskBody name own) 0 (of_task (front t (suc b.place)) name own)
    task_bound name own a =
        let y : HasBodyTokens limit (TaskBody name own) 0 tokens =
        record { front = a.front; part = a.part; behind = a.behind; split = a.split; spelled = a.spelled } in
        (y, bare_head (body_size own) (length a.part) ((task_spelled limit name own).within a.part a.spelled))

    object_bound : (name : Identifier) (items : List ProtectedItemTree) (end_name : Identifier) (k : ℕ) (e : Coded)
        → slice_get (coded_at t b.place (ProtectedBody name items end_name)) k ≡ Some e → HasBound limit tokens (ProtectedBody name items end_name) k e
    object_bound name items end_name k e is a =
        let o = object_number (program_of t).scope name in
        let x = object_coded o (front t b.place) (number_of (front t b.place) name.name) items k e is in
        let h = a.spelled in
        let z = among (protected_item limit) items k x.0 h.4.4.4.4.0 h.4.4.4.4.3 x.1 in
        let one = nearer x.0 h.4.4.4.4.0 h.4.4.4.4.1 h.4.4.4.1 h.4.4.4.4.2 z in
        let two = further x.0 h.4.4.4.1 h.4.4.4.0 h.4.4.1 h.4.4.4.2 one in
        let three = further x.0 h.4.4.1 h.4.4.0 h.4.1 h.4.4.2 two in
        let four = further x.0 h.4.1 h.4.0 h.1 h.4.2 three in
        let five = further x.0 h.1 h.0 a.part h.2 four in
        let six = nearer x.0 a.part a.behind (a.part ++ a.behind) refl five in
        let all = further x.0 (a.part ++ a.behind) a.front tokens a.split six in
        let y : HasBodyTokens limit (ProtectedBody name items end_name) k tokens =
        record { front = all.front; part = all.part; behind = all.behind; split = all.split; spelled = (x.0, x.1, all.spelled) } in
        let few = (operation_spelled limit x.0).within all.part all.spelled in (
          y,
          subst (λ f. suc (coded_size f) ≤ length all.part) (sym x.4) few,
        )

-- 20 instructions for each part of a body, and two for each word, are 20 fewer than 20 for each token with these
pub bounded_by : (c : Coded) (tokens : ℕ) → suc (coded_size c) ≤ tokens → 20 + bound_of c ≤ 20 * tokens + 2 * words_in c
bounded_by c tokens h = within (length c.head.formals) (body_size c.body) (words_in c) h
  where
    within : (formals size words : ℕ) → suc ((1 + formals) + size) ≤ tokens → 20 + (20 * (suc formals + size) + 2 * words) ≤ 20 * tokens + 2 * words
    within formals size words few = omega (arith, few)

pub code_within_tokens : CodeWithinTokens
code_within_tokens limit t tokens spelled c b =
    let x = body_tokens limit t tokens spelled c b in
    (x.0, fewer_still (bound_of c) (20 * length x.0.part + 2 * words_in c) (bounded_by c (length x.0.part) x.1))
  where
    fewer_still : (bound most : ℕ) → 20 + bound ≤ most → bound ≤ most
    fewer_still bound most h = omega (arith, h)
