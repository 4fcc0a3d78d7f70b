-- What bounds, needs, labels and rows of handlers of all items of a package have to do with those of one of them.
use Rattle.std.proofs.Common.{◌≡◌, ℕ, zero, suc, ◌+◌, ◌≤◌, List, [], ◌∷◌, ◌++◌, length, map, take, Bool, true, false, Option, Some, None, refl, sym, ap, ◌∙◌, subst, arith, length-append}
use Rattle.std.specs.Prelude.{slice_get}
use Rattle.std.proofs.lemmas.List.{take-take}
use Rattle.ada_tree.specs.declared.expression.Identifier.{Identifier}
use Rattle.ada_tree.specs.StatementTree.{AlternativeTrees, Block, Call, Case, ElsifTrees, HandlerTrees, If, Loop, MoreAlternatives, MoreElsifs, MoreHandlers, MoreStmts, NoAlternatives, NoElsifs, NoHandlers, NoStmts, StmtTree, StmtTrees, SubprogramTree}
use Rattle.ada_tree.specs.ProgramTree.{BodyItemTree, BodyTree, EntryBody, OfItem, OperationBody, ProgramTree, ProtectedBody, ProtectedItemTree, SubprogramBody, TaskBody}
use Rattle.types.specs.Layouts.{total}
use Rattle.program_soundness.proofs.Listing.{same_some, taken_at, taken_next}
use Rattle.step_simulation.specs.part_code.specs.Labels.{alternatives_labels, elsifs_labels, handlers_labels, is_label, stmt_labels, stmts_labels, with_label, with_line}
use Rattle.step_simulation.specs.part_code.specs.Lines.{LabelledValue, line_of}
use Rattle.stmt_code.specs.WholeRefusals.{body_labels}
use Rattle.step_simulation.specs.part_code.proofs.Within.{Within, in_left, of_right}
use Rattle.package_code.specs.Bodies.{Coded, coded_at}
use Rattle.package_code.specs.Counts.{bound_of, bounds_at, bounds_from}
use Rattle.package_code.specs.Refusing.{coded_labels, coded_rows, item_labels, item_needs, item_rows, items_labels, items_needs, items_rows, operation_labels, operations_labels, subprogram_labels, subprogram_rows}

pub none_taken : {X : Type 0} (xs : List X) → take 0 xs ≡ []
none_taken [] = refl
none_taken (x ∷ xs) = refl

-- ---- bounds

total_both : (ws vs : List ℕ) → total (ws ++ vs) ≡ total ws + total vs
total_both [] vs = omega arith
total_both (w ∷ ws) vs = (let e = total_both ws vs in omega (arith, e))

pub plus_none : (k : ℕ) → k + 0 ≡ k
plus_none k = omega arith

plus_next : (k n : ℕ) → suc k + n ≡ k + suc n
plus_next k n = omega arith

-- a body and those in front of it
first_of_them : (cs : List Coded) (j : ℕ) (c : Coded) → slice_get cs j ≡ Some c
    → total (map bound_of (take j cs)) + bound_of c ≤ total (map bound_of cs)
first_of_them [] j c is = cc
first_of_them (x ∷ cs) zero c is = (let e = ap bound_of (same_some x c is) in omega (arith, e))
first_of_them (x ∷ cs) (suc j) c is = (let up = first_of_them cs j c is in omega (arith, up))

-- those in front of a body, and it
abbrev pub bounds_upto : List Coded → (j : ℕ) → Coded → ℕ
bounds_upto cs j c = total (map bound_of (take j cs)) + bound_of c

module _ (t : ProgramTree) where
  -- the bound of a body, behind those of the items in front of its own, and of the bodies in front of it there
  pub bound_behind : (items : List BodyItemTree) (k n : ℕ) (x : BodyItemTree) (j : ℕ) (c : Coded) → slice_get items n ≡ Some x
      → slice_get (coded_at t (k + n) x) j ≡ Some c
      → total (bounds_from t k (take n items)) + bounds_upto (coded_at t (k + n) x) j c ≤ total (bounds_from t k items)
  bound_behind [] k n x j c h is = cc
  bound_behind (y ∷ items) k zero x j c h is =
      let up =
      subst (λ p. bounds_upto (coded_at t p x) j c ≤ total (bounds_from t k (y ∷ items))) (sym (plus_none k))
      (subst (λ z. bounds_upto (coded_at t k z) j c ≤ total (bounds_from t k (y ∷ items))) (same_some y x h)
      (let own =
      first_of_them (coded_at t k y) j c
      (subst (λ z. slice_get (coded_at t k z) j ≡ Some c) (sym (same_some y x h)) (subst (λ p. slice_get (coded_at t p x) j ≡ Some c) (plus_none k) is)) in
      let both = total_both (bounds_at t k y) (bounds_from t (suc k) items) in
      omega (arith, own, both))) in
      omega (arith, up)
  bound_behind (y ∷ items) k (suc n) x j c h is =
      subst
      (λ p. total (bounds_from t k (y ∷ take n items)) + bounds_upto (coded_at t p x) j c ≤ total (bounds_from t k (y ∷ items))) (plus_next k n)
      (let later = bound_behind items (suc k) n x j c h (subst (λ p. slice_get (coded_at t p x) j ≡ Some c) (sym (plus_next k n)) is) in
      let both = total_both (bounds_at t k y) (bounds_from t (suc k) items) in
      let front = total_both (bounds_at t k y) (bounds_from t (suc k) (take n items)) in
      omega (arith, later, both, front))

  pub bound_within : (items : List BodyItemTree) (k n : ℕ) (x : BodyItemTree) (j : ℕ) (c : Coded) → slice_get items n ≡ Some x
      → slice_get (coded_at t (k + n) x) j ≡ Some c → total (bounds_from t k (take n items)) + bound_of c ≤ total (bounds_from t k items)
  bound_within items k n x j c h is = (let up = bound_behind items k n x j c h is in omega (arith, up))

  bounds_more : (xs ys : List BodyItemTree) (k : ℕ) → total (bounds_from t k xs) ≤ total (bounds_from t k (xs ++ ys))
  bounds_more [] ys k = omega arith
  bounds_more (x ∷ xs) ys k =
      let later = bounds_more xs ys (suc k) in
      let both = total_both (bounds_at t k x) (bounds_from t (suc k) (xs ++ ys)) in
      let front = total_both (bounds_at t k x) (bounds_from t (suc k) xs) in
      omega (arith, later, both, front)

  -- of items with one more
  pub bounds_next : (items : List BodyItemTree) (n : ℕ) (x : BodyItemTree) → slice_get items n ≡ Some x
      → total (bounds_from t 0 (take n items)) ≤ total (bounds_from t 0 (take (suc n) items))
  bounds_next items n x h =
      subst (λ l. total (bounds_from t 0 (take n items)) ≤ total (bounds_from t 0 l)) (sym (taken_next items n x h)) (bounds_more (take n items) (x ∷ []) 0)

  pub bound_next : (items : List BodyItemTree) (n : ℕ) (x : BodyItemTree) (j : ℕ) (c : Coded) → slice_get items n ≡ Some x
      → slice_get (coded_at t n x) j ≡ Some c → total (bounds_from t 0 (take n items)) + bound_of c ≤ total (bounds_from t 0 (take (suc n) items))
  bound_next items n x j c h is =
      let less : n ≤ suc n = omega arith in
      let front : take n (take (suc n) items) ≡ take n items = take-take n (suc n) items less in
      let none : n ≡ 0 + n = omega arith in
      subst (λ l. total (bounds_from t 0 l) + bound_of c ≤ total (bounds_from t 0 (take (suc n) items))) front
      (bound_within (take (suc n) items) 0 n x j c (taken_at items (suc n) n x (omega arith) h)
      (subst (λ p. slice_get (coded_at t p x) j ≡ Some c) none is))

  -- those of all bodies of an item
  bounds_whole : (items : List BodyItemTree) (k n : ℕ) (x : BodyItemTree) → slice_get items n ≡ Some x
      → total (bounds_from t k (take n items)) + total (bounds_at t (k + n) x) ≤ total (bounds_from t k items)
  bounds_whole [] k n x h = cc
  bounds_whole (y ∷ items) k zero x h =
      let up =
      subst (λ p. total (bounds_at t p x) ≤ total (bounds_from t k (y ∷ items))) (sym (plus_none k))
      (subst (λ z. total (bounds_at t k z) ≤ total (bounds_from t k (y ∷ items))) (same_some y x h)
      (let both = total_both (bounds_at t k y) (bounds_from t (suc k) items) in omega (arith, both))) in
      omega (arith, up)
  bounds_whole (y ∷ items) k (suc n) x h =
      subst (λ p. total (bounds_from t k (y ∷ take n items)) + total (bounds_at t p x) ≤ total (bounds_from t k (y ∷ items))) (plus_next k n)
      (let later = bounds_whole items (suc k) n x h in
      let both = total_both (bounds_at t k y) (bounds_from t (suc k) items) in
      let front = total_both (bounds_at t k y) (bounds_from t (suc k) (take n items)) in
      omega (arith, later, both, front))

  pub item_bounds_next : (items : List BodyItemTree) (n : ℕ) (x : BodyItemTree) → slice_get items n ≡ Some x
      → total (bounds_from t 0 (take n items)) + total (map bound_of (coded_at t n x)) ≤ total (bounds_from t 0 (take (suc n) items))
  item_bounds_next items n x h =
      let less : n ≤ suc n = omega arith in
      let front : take n (take (suc n) items) ≡ take n items = take-take n (suc n) items less in
      let none : 0 + n ≡ n = omega arith in
      subst (λ l. total (bounds_from t 0 l) + total (map bound_of (coded_at t n x)) ≤ total (bounds_from t 0 (take (suc n) items))) front
      (subst (λ p. total (bounds_from t 0 (take n (take (suc n) items))) + total (bounds_at t p x) ≤ total (bounds_from t 0 (take (suc n) items))) none
      (bounds_whole (take (suc n) items) 0 n x (taken_at items (suc n) n x (omega arith) h)))

  -- ---- needs

  pub needs_within : (items : List BodyItemTree) (k n : ℕ) (x : BodyItemTree) → slice_get items n ≡ Some x
      → Within (item_needs t (k + n) x) (items_needs t k items)
  needs_within [] k n x h = cc
  needs_within (y ∷ items) k zero x h =
      subst (λ j. Within (item_needs t j x) (items_needs t k (y ∷ items))) (sym (plus_none k))
      (subst (λ z. Within (item_needs t k z) (items_needs t k (y ∷ items))) (same_some y x h) (in_left (item_needs t k y) (items_needs t (suc k) items)))
  needs_within (y ∷ items) k (suc n) x h =
      subst (λ j. Within (item_needs t j x) (items_needs t k (y ∷ items))) (plus_next k n)
      (of_right (item_needs t (suc k + n) x) (item_needs t k y) (items_needs t (suc k) items) (needs_within items (suc k) n x h))

-- ---- labels

more_labels : (a b c : List (List ℕ)) → length a ≤ length b → length b ≤ length c → length a ≤ length c
more_labels a b c h k = omega (arith, h, k)

abbrev labels_with : List (List ℕ) → List ℕ → Bool → List (List ℕ)
labels_with before text b = elim b [ true ↦ before | false ↦ before ++ text ∷ [] ]

label_grows : (before : List (List ℕ)) (text : List ℕ) → length before ≤ length (with_label before text)
label_grows before text = by_test (is_label before text)
  where
    by_test : (b : Bool) → length before ≤ length (labels_with before text b)
    by_test true = omega arith
    by_test false = (let e = length-append before (text ∷ []) in omega (arith, e))

line_grows : (before : List (List ℕ)) (o : Option LabelledValue) → length before ≤ length (with_line before o)
line_grows before None = omega arith
line_grows before (Some line) = label_grows before line.label

mutual
  stmt_grows : (before : List (List ℕ)) (x : StmtTree) → length before ≤ length (stmt_labels before x)
  stmt_grows before (Call name) = line_grows before (line_of name)
  stmt_grows before (If place condition body elsifs others) =
      let inside = stmts_labels before body in
      let between = elsifs_labels inside elsifs in
      more_labels before inside (stmts_labels between others) (stmts_grow before body)
      (more_labels inside between (stmts_labels between others) (elsifs_grow inside elsifs) (stmts_grow between others))
  stmt_grows before (Case place value all) = alternatives_grow before all
  stmt_grows before (Loop place iteration body) = stmts_grow before body
  stmt_grows before (Block place locals body all) =
      more_labels before (stmts_labels before body) (handlers_labels (stmts_labels before body) all) (stmts_grow before body)
      (handlers_grow (stmts_labels before body) all)
  stmt_grows before simple = omega arith

  pub stmts_grow : (before : List (List ℕ)) (body : StmtTrees) → length before ≤ length (stmts_labels before body)
  stmts_grow before NoStmts = omega arith
  stmts_grow before (MoreStmts x rest) =
      more_labels before (stmt_labels before x) (stmts_labels (stmt_labels before x) rest) (stmt_grows before x) (stmts_grow (stmt_labels before x) rest)

  elsifs_grow : (before : List (List ℕ)) (all : ElsifTrees) → length before ≤ length (elsifs_labels before all)
  elsifs_grow before NoElsifs = omega arith
  elsifs_grow before (MoreElsifs condition body rest) =
      more_labels before (stmts_labels before body) (elsifs_labels (stmts_labels before body) rest) (stmts_grow before body)
      (elsifs_grow (stmts_labels before body) rest)

  alternatives_grow : (before : List (List ℕ)) (all : AlternativeTrees) → length before ≤ length (alternatives_labels before all)
  alternatives_grow before NoAlternatives = omega arith
  alternatives_grow before (MoreAlternatives place choices body rest) =
      more_labels before (stmts_labels before body) (alternatives_labels (stmts_labels before body) rest) (stmts_grow before body)
      (alternatives_grow (stmts_labels before body) rest)

  handlers_grow : (before : List (List ℕ)) (all : HandlerTrees) → length before ≤ length (handlers_labels before all)
  handlers_grow before NoHandlers = omega arith
  handlers_grow before (MoreHandlers choices body rest) =
      more_labels before (stmts_labels before body) (handlers_labels (stmts_labels before body) rest) (stmts_grow before body)
      (handlers_grow (stmts_labels before body) rest)

abbrev labels_by : (before : List (List ℕ)) → BodyTree → Option Identifier → List (List ℕ)
labels_by before b o = elim o [ None ↦ body_labels before b | Some r ↦ before ]

body_grows : (before : List (List ℕ)) (b : BodyTree) → length before ≤ length (body_labels before b)
body_grows before b =
    more_labels before (stmts_labels before b.statements) (handlers_labels (stmts_labels before b.statements) b.handlers)
    (stmts_grow before b.statements) (handlers_grow (stmts_labels before b.statements) b.handlers)

subprogram_grows : (before : List (List ℕ)) (d : SubprogramTree) (b : BodyTree) → length before ≤ length (subprogram_labels before d b)
subprogram_grows before d b = by_result d.result
  where
    by_result : (o : Option Identifier) → length before ≤ length (labels_by before b o)
    by_result None = body_grows before b
    by_result (Some r) = omega arith

operation_grows : (before : List (List ℕ)) (i : ProtectedItemTree) → length before ≤ length (operation_labels before i)
operation_grows before (OperationBody d b) = subprogram_grows before d b
operation_grows before (EntryBody d barrier b) = body_grows before b

operations_grow : (before : List (List ℕ)) (items : List ProtectedItemTree) → length before ≤ length (operations_labels before items)
operations_grow before [] = omega arith
operations_grow before (i ∷ items) =
    more_labels before (operation_labels before i) (operations_labels (operation_labels before i) items) (operation_grows before i)
    (operations_grow (operation_labels before i) items)

item_grows : (before : List (List ℕ)) (x : BodyItemTree) → length before ≤ length (item_labels before x)
item_grows before (OfItem d) = omega arith
item_grows before (SubprogramBody d b) = subprogram_grows before d b
item_grows before (TaskBody name b) = body_grows before b
item_grows before (ProtectedBody name items end_name) = operations_grow before items

items_grow : (before : List (List ℕ)) (items : List BodyItemTree) → length before ≤ length (items_labels before items)
items_grow before [] = omega arith
items_grow before (x ∷ items) =
    more_labels before (item_labels before x) (items_labels (item_labels before x) items) (item_grows before x) (items_grow (item_labels before x) items)

-- those of the first body of an item are among those of the item
bodies_grow : (before : List (List ℕ)) (cs : List Coded) → length before ≤ length (coded_labels before cs)
bodies_grow before [] = omega arith
bodies_grow before (c ∷ cs) =
    more_labels before (subprogram_labels before c.head c.body) (coded_labels (subprogram_labels before c.head c.body) cs)
    (subprogram_grows before c.head c.body) (bodies_grow (subprogram_labels before c.head c.body) cs)

pub first_labels : (before : List (List ℕ)) (cs : List Coded) (c : Coded) → slice_get cs 0 ≡ Some c
    → length (subprogram_labels before c.head c.body) ≤ length (coded_labels before cs)
first_labels before [] c is = cc
first_labels before (x ∷ cs) c is =
    subst (λ z. length (subprogram_labels before z.head z.body) ≤ length (coded_labels before (x ∷ cs))) (same_some x c is)
    (bodies_grow (subprogram_labels before x.head x.body) cs)

-- ... and so are those of each other one
pub labels_inside : (before : List (List ℕ)) (cs : List Coded) (k : ℕ) (c : Coded) → slice_get cs k ≡ Some c
    → length (subprogram_labels (coded_labels before (take k cs)) c.head c.body) ≤ length (coded_labels before cs)
labels_inside before [] k c is = cc
labels_inside before (x ∷ cs) zero c is = first_labels before (x ∷ cs) c is
labels_inside before (x ∷ cs) (suc k) c is = labels_inside (subprogram_labels before x.head x.body) cs k c is

-- with one body more
pub labels_more : (before : List (List ℕ)) (cs : List Coded) (k : ℕ) (c : Coded) → slice_get cs k ≡ Some c
    → coded_labels before (take (suc k) cs) ≡ subprogram_labels (coded_labels before (take k cs)) c.head c.body
labels_more before [] k c is = cc
labels_more before (x ∷ cs) zero c is =
    ap (coded_labels (subprogram_labels before x.head x.body)) (none_taken cs) ∙ ap (λ (z : Coded). subprogram_labels before z.head z.body) (same_some x c is)
labels_more before (x ∷ cs) (suc k) c is = labels_more (subprogram_labels before x.head x.body) cs k c is

pub rows_more : (before : ℕ) (cs : List Coded) (k : ℕ) (c : Coded) → slice_get cs k ≡ Some c
    → coded_rows before (take (suc k) cs) ≡ subprogram_rows (coded_rows before (take k cs)) c.head c.body
rows_more before [] k c is = cc
rows_more before (x ∷ cs) zero c is =
    ap (coded_rows (subprogram_rows before x.head x.body)) (none_taken cs) ∙ ap (λ (z : Coded). subprogram_rows before z.head z.body) (same_some x c is)
rows_more before (x ∷ cs) (suc k) c is = rows_more (subprogram_rows before x.head x.body) cs k c is

pub bounds_more_there : (cs : List Coded) (k : ℕ) (c : Coded) → slice_get cs k ≡ Some c
    → total (map bound_of (take (suc k) cs)) ≡ total (map bound_of (take k cs)) + bound_of c
bounds_more_there [] k c is = cc
bounds_more_there (x ∷ cs) zero c is =
    (let none = ap (λ l. total (map bound_of l)) (none_taken cs) in let e = ap bound_of (same_some x c is) in omega (arith, none, e))
bounds_more_there (x ∷ cs) (suc k) c is = (let e = bounds_more_there cs k c is in omega (arith, e))

-- those behind one item more
pub labels_next : (before : List (List ℕ)) (items : List BodyItemTree) (n : ℕ) (x : BodyItemTree) → slice_get items n ≡ Some x
    → items_labels before (take (suc n) items) ≡ item_labels (items_labels before (take n items)) x
labels_next before [] n x h = cc
labels_next before (y ∷ items) zero x h = ap (λ l. items_labels (item_labels before y) l) (none_taken items) ∙ ap (item_labels before) (same_some y x h)
labels_next before (y ∷ items) (suc n) x h = labels_next (item_labels before y) items n x h

pub labels_within : (before : List (List ℕ)) (items : List BodyItemTree) (n : ℕ) (x : BodyItemTree) → slice_get items n ≡ Some x
    → length (item_labels (items_labels before (take n items)) x) ≤ length (items_labels before items)
labels_within before [] n x h = cc
labels_within before (y ∷ items) zero x h =
    subst (λ z. length (item_labels before z) ≤ length (items_labels (item_labels before y) items)) (same_some y x h) (items_grow (item_labels before y) items)
labels_within before (y ∷ items) (suc n) x h = labels_within (item_labels before y) items n x h

-- ---- rows of handlers

-- those behind one item more
pub rows_next : (before : ℕ) (items : List BodyItemTree) (n : ℕ) (x : BodyItemTree) → slice_get items n ≡ Some x
    → items_rows before (take (suc n) items) ≡ item_rows (items_rows before (take n items)) x
rows_next before [] n x h = cc
rows_next before (y ∷ items) zero x h = ap (λ l. items_rows (item_rows before y) l) (none_taken items) ∙ ap (item_rows before) (same_some y x h)
rows_next before (y ∷ items) (suc n) x h = rows_next (item_rows before y) items n x h
