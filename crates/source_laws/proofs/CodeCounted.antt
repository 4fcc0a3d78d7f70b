-- The code of a small program has no more instructions than an image: 20 for each node of its tree, and two for each of at most 64 words of a body.
use Rattle.std.proofs.Common.{◌≡◌, ℕ, zero, suc, ◌+◌, ◌*◌, ◌≤◌, List, [], ◌∷◌, ◌++◌, length, map, Option, None, Some, refl, subst, arith}
use Rattle.std.specs.Prelude.{slice_get}
use Rattle.base.specs.declared.limits.TheConstants.{INSTRUCTIONS, SUBPROGRAMS}
use Rattle.ada_tree.specs.ProgramTree.{BodyItemTree, EntryBody, OfItem, OperationBody, ProgramTree, ProtectedBody, ProtectedItemTree, SubprogramBody, TaskBody}
use Rattle.ada_tree.specs.Laws.{SizeWithinTokens}
use Rattle.ada_tree.specs.Size.{aspect_size, body_item_size, body_size, package_size, protected_item_size, size, size_if_any, subprogram_size, total}
use Rattle.types.specs.Layouts as layouts
use Rattle.types.specs.declared.entity.RecordComponent.{RecordComponent}
use Rattle.types.specs.Scopes.{Scope, number_of}
use Rattle.program_soundness.specs.declaration_rules.specs.BodyNames.{formals_scope, object_body_scope}
use Rattle.program_soundness.specs.unit_rules.specs.ProtectedBodyRules.{components_at, protected_item_scope}
use Rattle.expr_soundness.specs.meaning.specs.Programs.{program_of}
use Rattle.program_soundness.specs.Fronts.{declared_in, front}
use Rattle.program_soundness.proofs.Listing.{same_some}
use Rattle.part_code.specs.Bounds.{body_words, formals_words, main_bound}
use Rattle.package_code.specs.Bodies.{Coded, bodies_among, coded_at, coded_from, components_or_none, object_bodies, object_number, of_operation, operations_of, IsBodyOf}
use Rattle.package_code.specs.Counts.{bound_of, bounds_at, bounds_from}
use Rattle.package_code.specs.Laws.{TablesAreSmall}
use Rattle.package_code.proofs.Coded.{among_first, coded_many}
use Rattle.source_laws.specs.Small.{HasSmallBodies, SmallCodeFits, TakeFewWords, body_loops, body_room, small_words}
use Rattle.source_laws.proofs.RowsCounted.{declared_size, rows_counted}

-- the place so far behind another one
abbrev pub behind : (place k : ℕ) → ℕ
behind place zero = place
behind place (suc k) = behind (suc place) k

pub behind_is : (place k : ℕ) → behind place k ≡ place + k
behind_is place zero = omega arith
behind_is place (suc k) = let next = behind_is (suc place) k in omega (arith, next)

-- ---- bodies of one item among all

halves : (xs ys : List Coded) → TakeFewWords (xs ++ ys) → TakeFewWords xs × TakeFewWords ys
halves [] ys h = (tt, h)
halves (x ∷ xs) ys h = let rest = halves xs ys h.1 in ((h.0, rest.0), rest.1)

few_behind : (t : ProgramTree) (place : ℕ) (xs : List BodyItemTree) (k : ℕ) (x : BodyItemTree) → TakeFewWords (coded_from t place xs)
    → slice_get xs k ≡ Some x
    → TakeFewWords (coded_at t (behind place k) x)
few_behind t place [] k x h at = cc
few_behind t place (y ∷ rest) zero x h at =
    subst (λ z. TakeFewWords (coded_at t place z)) (same_some y x at) (halves (coded_at t place y) (coded_from t (suc place) rest) h).0
few_behind t place (y ∷ rest) (suc k) x h at =
    few_behind t (suc place) rest k x (halves (coded_at t place y) (coded_from t (suc place) rest) h).1 at

-- those of the item at a place of a text whose bodies are small
pub few_at : (t : ProgramTree) → HasSmallBodies t → (place : ℕ) (x : BodyItemTree) → slice_get (declared_in t.package_) place ≡ Some x
    → TakeFewWords (coded_at t place x)
few_at t small place x at =
    subst (λ n. TakeFewWords (coded_at t n x)) (let same = behind_is 0 place in omega (arith, same))
    (few_behind t 0 (declared_in t.package_) place x small.words at)

few_index : (xs : List Coded) (n : ℕ) (c : Coded) → TakeFewWords xs → slice_get xs n ≡ Some c → body_room c ≤ small_words
few_index [] n c h at = cc
few_index (x ∷ xs) zero c h at = subst (λ y. body_room y ≤ small_words) (same_some x c at) h.0
few_index (x ∷ xs) (suc n) c h at = few_index xs n c h.1 at

-- so each body with code is small
pub few_of : (t : ProgramTree) → HasSmallBodies t → (c : Coded) → IsBodyOf t c → body_room c ≤ small_words
few_of t small c b = few_index (coded_at t b.place b.item) b.index c (few_at t small b.place b.item b.at) b.coded

-- ---- instructions

one_bounded : (formals size words loops more : ℕ) (rest bodies all : ℕ) → words + more + loops ≤ 64 → all ≤ 20 * rest + 128 * bodies
    → (20 * (suc formals + size) + 2 * (words + more)) + all ≤ 20 * (((1 + formals) + size) + rest) + 128 * suc bodies
one_bounded formals size words loops more rest bodies all h up = omega (arith, h, up)

-- the size of a body, with its head
abbrev pub coded_size : Coded → ℕ
coded_size c = subprogram_size c.head + body_size c.body

bodies_counted : (cs : List Coded) → TakeFewWords cs → layouts.total (map bound_of cs) ≤ 20 * total coded_size cs + 128 * length cs
bodies_counted [] room = omega arith
bodies_counted (c ∷ cs) room =
    let s = c.front in
    one_bounded (length c.head.formals) (body_size c.body) (formals_words s (formals_scope s c.head.formals) c.head.formals) (body_loops c.body)
    (body_words (formals_scope s c.head.formals) c.body) (total coded_size cs) (length cs) (layouts.total (map bound_of cs)) room.0
    (bodies_counted cs room.1)

operation_sized : (o : ℕ) (s : Scope) (components : List RecordComponent) (i : ProtectedItemTree)
    → coded_size (of_operation o s components i) ≤ protected_item_size i
operation_sized o s components (OperationBody d b) = omega arith
operation_sized o s components (EntryBody d barrier b) = omega arith

operations_sized : (o : ℕ) (s : Scope) (components : List RecordComponent) (items : List ProtectedItemTree)
    → total coded_size (operations_of o s components items) ≤ total protected_item_size items
operations_sized o s components [] = omega arith
operations_sized o s components (i ∷ items) =
    let one = operation_sized o s components i in
    let rest = operations_sized o (protected_item_scope s i) components items in
    omega (arith, one, rest)

object_sized : (o : ℕ) (s : Scope) (visible : Option ℕ) (items : List ProtectedItemTree)
    → total coded_size (object_bodies o s visible items) ≤ total protected_item_size items
object_sized o s (Some n) items = operations_sized o (object_body_scope s n) (components_or_none (components_at s n)) items
object_sized o s None items = operations_sized o s [] items

-- no larger than their item
bodies_sized : (t : ProgramTree) (place : ℕ) (x : BodyItemTree) → total coded_size (coded_at t place x) ≤ body_item_size x
bodies_sized t place (OfItem d) = omega arith
bodies_sized t place (SubprogramBody d b) = omega arith
bodies_sized t place (TaskBody name b) = omega arith
bodies_sized t place (ProtectedBody name items end_name) =
    (let up = object_sized (object_number (program_of t).scope name) (front t place) (number_of (front t place) name.name) items in omega (arith, up))

total_both : (ws vs : List ℕ) → layouts.total (ws ++ vs) ≡ layouts.total ws + layouts.total vs
total_both [] vs = omega arith
total_both (w ∷ ws) vs = (let e = total_both ws vs in omega (arith, e))

bounds_counted : (t : ProgramTree) (place : ℕ) (xs : List BodyItemTree) → TakeFewWords (coded_from t place xs)
    → layouts.total (bounds_from t place xs) ≤ 20 * total body_item_size xs + 128 * bodies_among xs
bounds_counted t place [] room = omega arith
bounds_counted t place (x ∷ rest) room =
    let parts = halves (coded_at t place x) (coded_from t (suc place) rest) room in
    let own = bodies_counted (coded_at t place x) parts.0 in
    let sized = bodies_sized t place x in
    let many = coded_many t place x in
    let sum = among_first x rest in
    let later = bounds_counted t (suc place) rest parts.1 in
    let both = total_both (bounds_at t place x) (bounds_from t (suc place) rest) in
    together (layouts.total (bounds_at t place x)) (total coded_size (coded_at t place x)) (length (coded_at t place x)) (body_item_size x)
    (bodies_among (x ∷ [])) (layouts.total (bounds_from t (suc place) rest)) (total body_item_size rest) (bodies_among rest)
    (layouts.total (bounds_from t place (x ∷ rest))) (bodies_among (x ∷ rest)) own sized many later both sum
  where
    together : (bound coded k size n more rest m all both : ℕ) → bound ≤ 20 * coded + 128 * k → coded ≤ size → k ≡ n → more ≤ 20 * rest + 128 * m
        → all ≡ bound + more → both ≡ n + m → all ≤ 20 * (size + rest) + 128 * both
    together bound coded k size n more rest m all both a b c d e f = omega (arith, a, b, c, d, e, f)

all_together : (bounds declared package_ bodies statements aspect pragmas tokens main whole : ℕ) → bounds ≤ 20 * declared + 128 * bodies → declared ≤ package_
    → suc bodies ≤ SUBPROGRAMS → main ≡ 20 * suc statements → whole ≡ pragmas + package_ + (1 + aspect + statements) → whole ≤ tokens → tokens ≤ 2000
    → bounds + main ≤ INSTRUCTIONS
all_together bounds declared package_ bodies statements aspect pragmas tokens main whole a b c d e f g = omega (arith, a, b, c, d, e, f, g)

pub small_code_fits : SizeWithinTokens → TablesAreSmall → SmallCodeFits
small_code_fits within tables limit t tokens spelled legal restricted small =
    let all = declared_in t.package_ in
    let nodes = within limit t tokens spelled in
    let few = small.few in
    let rows = rows_counted t in
    record {
      instructions =
          all_together (layouts.total (bounds_from t 0 all)) (total body_item_size all) (size_if_any package_size t.package_) (bodies_among all)
          (length t.main.statements) (size_if_any aspect_size t.main.aspect) (length t.pragmas) (length tokens) (main_bound t.main.statements) (size t)
          (bounds_counted t 0 all small.bodies.words)
          (declared_size t.package_) (tables t legal restricted).subprograms refl refl nodes few;
      rows = omega (arith, rows, nodes, few);
    }
