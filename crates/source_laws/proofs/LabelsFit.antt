-- The labels of a legal program are no more than an image may have: those of its code differ, and each is counted as legality counts labels.
use Rattle.std.proofs.Common.{◌≡◌, ℕ, zero, suc, ◌+◌, ◌≤◌, List, [], ◌∷◌, ◌++◌, append_assoc, drop, length, length-append, map, Bool, true, false, Option, Some, None, refl, sym, ap, ◌∙◌, subst, arith}
use Rattle.std.specs.Prelude.{bytes_eq}
use Rattle.base.specs.declared.limits.TheConstants.{LABELS}
use Rattle.ada_tree.specs.declared.declaration.Formal.{Formal}
use Rattle.ada_tree.specs.declared.expression.Identifier.{Identifier}
use Rattle.ada_tree.specs.ExpressionTree.{ArgumentTrees, Arguments, Attribute, Component, MoreArguments, MoreSelectors, NoArguments, NoSelectors, SelectorTrees, Text, Value}
use Rattle.ada_tree.specs.StatementTree.{AlternativeTrees, Block, Call, Case, DeclarationTree, ElsifTrees, HandlerTrees, If, LocalObject, Loop, MoreAlternatives, MoreElsifs, MoreHandlers, MoreStmts, NoAlternatives, NoElsifs, NoHandlers, NoStmts, StmtTree, StmtTrees, SubprogramTree}
use Rattle.ada_tree.specs.ProgramTree.{BodyItemTree, BodyTree, EntryBody, ItemTree, OfItem, OperationBody, PackageTree, ProtectedBody, ProtectedItemTree, SubprogramBody, TaskBody}
use Rattle.types.specs.Scopes.{Scope, standard}
use Rattle.meaning.specs.expr_rules.proofs.TypedLaw.{back_empty}
use Rattle.declaration_rules.specs.PackageNames.{body_item_scope, specified_scope}
use Rattle.program_soundness.specs.size_rules.specs.BodySizes.{alternatives_things, body_things, call_things, elsifs_things, first_argument, formals_things, handlers_things, locals_things, sized_object, stmt_things, stmts_things}
use Rattle.program_soundness.specs.size_rules.specs.Limits.{Things, first_use, first_uses, is_among, over, used_with}
use Rattle.program_soundness.specs.size_rules.specs.PackageSizes.{body_item_inside, body_items_inside, frame_faults, operation_inside, operations_inside, package_inside, package_things}
use Rattle.program_soundness.specs.size_rules.specs.ProgramSizes.{declared_faults, label_faults, optional_size_faults}
use Rattle.program_soundness.specs.Fronts.{declared_in}
use Rattle.step_simulation.specs.part_code.specs.Labels.{alternatives_labels, elsifs_labels, handlers_labels, is_label, stmt_labels, stmts_labels, with_label, with_line}
use Rattle.step_simulation.specs.part_code.specs.Lines.{line_behind}
use Rattle.stmt_code.specs.WholeRefusals.{body_labels}
use Rattle.package_code.specs.Refusing.{item_labels, items_labels, operation_labels, operations_labels, subprogram_labels}
use Rattle.package_code.proofs.Differing.{AreAmong, AreDiffering, differing_more, is_of, no_more_than, of_either, of_front, of_last, position_is}
use Rattle.program_soundness.proofs.WiderScopes.{equal_bytes, same_bytes}

-- ---- labels that are counted

abbrev used_all : (used : List (List ℕ)) → Things → List (List ℕ)
used_all used [] = used
used_all used (x ∷ rest) = used_all (used_with used x) rest

used_both : (used : List (List ℕ)) (xs ys : Things) → used_all used (xs ++ ys) ≡ used_all (used_all used xs) ys
used_both used [] ys = refl
used_both used (x ∷ xs) ys = used_both (used_with used x) xs ys

uses_both : (used : List (List ℕ)) (xs ys : Things) → first_uses used (xs ++ ys) ≡ first_uses used xs ++ first_uses (used_all used xs) ys
uses_both used [] ys = refl
uses_both used (x ∷ xs) ys =
    ap (λ l. first_use used x ++ l) (uses_both (used_with used x) xs ys)
    ∙ sym (append_assoc (first_use used x) (first_uses (used_with used x) xs) (first_uses (used_all (used_with used x) xs) ys))

-- ---- the labels of code differ, and are among those

pub record AreCounted (labels used : List (List ℕ)) : Type 0 where
  pub differ : AreDiffering labels
  pub among : AreAmong labels used

-- What stands in a part of a body is counted as legality does, where code of the part has these labels behind those in front of it.
record IsCounted (code : List (List ℕ) → List (List ℕ)) (things : Things) : Type 0 where
  once : (used : List (List ℕ)) → length (used_all used things) ≡ length used + length (first_uses used things)
  kept : (used : List (List ℕ)) → AreAmong used (used_all used things)
  labels : (labels used : List (List ℕ)) → AreCounted labels used → AreCounted (code labels) (used_all used things)

abbrev same : List (List ℕ) → List (List ℕ)
same labels = labels

none_counted : IsCounted same []
none_counted = record { once = λ used. omega arith; kept = λ used q h. h; labels = λ labels used h. h }

both_counted : (f g : List (List ℕ) → List (List ℕ)) (xs ys : Things) → IsCounted f xs → IsCounted g ys → IsCounted (λ labels. g (f labels)) (xs ++ ys)
both_counted f g xs ys x y = record {
  once = λ used.
      (let a = ap length (used_both used xs ys) ∙ y.once (used_all used xs) in
      let b = x.once used in
      let c = ap length (uses_both used xs ys) ∙ length-append (first_uses used xs) (first_uses (used_all used xs) ys) in
      sums (length (used_all used (xs ++ ys))) (length (used_all used xs)) (length used) (length (first_uses used xs))
      (length (first_uses (used_all used xs) ys)) (length (first_uses used (xs ++ ys))) a b c);
  kept = λ used q h. ap (λ l. is_of l q) (used_both used xs ys) ∙ y.kept (used_all used xs) q (x.kept used q h);
  labels = λ labels used h. subst (AreCounted (g (f labels))) (sym (used_both used xs ys)) (y.labels (f labels) (used_all used xs) (x.labels labels used h));
}
  where
    sums : (n m k a b c : ℕ) → n ≡ m + b → m ≡ k + a → c ≡ a + b → n ≡ k + c
    sums n m k a b c e h i = omega (arith, e, h, i)

-- ... of which code has no labels
ignored : (f : List (List ℕ) → List (List ℕ)) (xs : Things) → IsCounted f xs → IsCounted same xs
ignored f xs x = record {
  once = x.once;
  kept = x.kept;
  labels = λ labels used h. record { differ = h.differ; among = λ q e. x.kept used q (h.among q e) };
}

object_counted : (s : Scope) (name subtype : Identifier) → IsCounted same (sized_object s name subtype ∷ [])
object_counted s name subtype = record { once = λ used. omega arith; kept = λ used q h. h; labels = λ labels used h. h }

-- the label of a call
abbrev used_by : List (List ℕ) → List ℕ → Bool → List (List ℕ)
used_by used text b = elim b [ true ↦ used | false ↦ used ++ text ∷ [] ]

abbrev new_place : Bool → (place : ℕ) → List ℕ
new_place b place = elim b [ true ↦ [] | false ↦ place ∷ [] ] ++ []

label_counted : (text : List ℕ) (place : ℕ) (rest : ArgumentTrees)
    → IsCounted (λ labels. with_label labels text) (first_argument (MoreArguments (Text text place) rest))
label_counted text place rest = record { once = once; kept = kept; labels = counted }
  where
    once : (used : List (List ℕ)) → length (used_all used (first_argument (MoreArguments (Text text place) rest)))
        ≡ length used + length (first_uses used (first_argument (MoreArguments (Text text place) rest)))
    once used = by_test (is_among used text)
      where
        by_test : (b : Bool) → length (used_by used text b) ≡ length used + length (new_place b place)
        by_test true = omega arith
        by_test false = length-append used (text ∷ [])

    kept : (used : List (List ℕ)) → AreAmong used (used_all used (first_argument (MoreArguments (Text text place) rest)))
    kept used q h = by_test (is_among used text)
      where
        by_test : (b : Bool) → is_of (used_by used text b) q ≡ true
        by_test true = h
        by_test false = of_front used (text ∷ []) q h

    own : (used : List (List ℕ)) → is_of (used_all used (first_argument (MoreArguments (Text text place) rest))) text ≡ true
    own used = by_test (is_among used text) refl
      where
        by_test : (b : Bool) → is_among used text ≡ b → is_of (used_by used text b) text ≡ true
        by_test true e = sym (position_is used text) ∙ e
        by_test false e = of_last used text text (equal_bytes text text refl)

    counted : (labels used : List (List ℕ)) → AreCounted labels used
        → AreCounted (with_label labels text) (used_all used (first_argument (MoreArguments (Text text place) rest)))
    counted labels used h = by_test (is_label labels text) refl
      where
        behind : List (List ℕ)
        behind = used_all used (first_argument (MoreArguments (Text text place) rest))

        was : (q : List ℕ) → is_of labels q ≡ true → is_of behind q ≡ true
        was q e = kept used q (h.among q e)

        new : (q : List ℕ) → bytes_eq q text ≡ true → is_of behind q ≡ true
        new q e = subst (λ z. is_of behind z ≡ true) (sym (same_bytes q text e)) (own used)

        by_test : (b : Bool) → is_label labels text ≡ b → AreCounted (used_by labels text b) behind
        by_test true e = record { differ = h.differ; among = was }
        by_test false e = record {
          differ = differing_more labels text h.differ (sym (position_is labels text) ∙ e);
          among = λ q k. of_either labels text q (is_of behind q ≡ true) k (was q) (new q);
        }

call_ignored : (all : SelectorTrees) → IsCounted same (call_things all)
call_ignored (MoreSelectors (Arguments (MoreArguments (Text text place) rest)) more) =
    ignored (λ labels. with_label labels text) (first_argument (MoreArguments (Text text place) rest)) (label_counted text place rest)
call_ignored all = none_counted

call_counted : (all : SelectorTrees) → IsCounted (λ labels. with_line labels (line_behind all)) (call_things all)
call_counted (MoreSelectors (Arguments (MoreArguments (Text text place) (MoreArguments (Value e) NoArguments))) NoSelectors) =
    label_counted text place (MoreArguments (Value e) NoArguments)
call_counted (MoreSelectors (Arguments a) NoSelectors) = call_ignored (MoreSelectors (Arguments a) NoSelectors)
call_counted (MoreSelectors (Arguments a) (MoreSelectors y rest)) = call_ignored (MoreSelectors (Arguments a) (MoreSelectors y rest))
call_counted (MoreSelectors (Component name) rest) = none_counted
call_counted (MoreSelectors (Attribute name) rest) = none_counted
call_counted NoSelectors = none_counted

module _ (s : Scope) where
  locals_counted : (ds : List DeclarationTree) → IsCounted same (locals_things s ds)
  locals_counted [] = none_counted
  locals_counted (LocalObject d ∷ ds) =
      both_counted same same (sized_object s d.name d.subtype ∷ []) (locals_things s ds) (object_counted s d.name d.subtype) (locals_counted ds)
  locals_counted (d ∷ ds) = locals_counted ds

  formals_counted : (fs : List Formal) → IsCounted same (formals_things s fs)
  formals_counted [] = none_counted
  formals_counted (f ∷ fs) =
      both_counted same same (sized_object s f.name f.subtype ∷ []) (formals_things s fs) (object_counted s f.name f.subtype) (formals_counted fs)

  mutual
    stmt_counted : (x : StmtTree) → IsCounted (λ labels. stmt_labels labels x) (stmt_things s x)
    stmt_counted (Call name) = call_counted name.selectors
    stmt_counted (If place condition body elsifs others) =
        both_counted (λ l. elsifs_labels (stmts_labels l body) elsifs) (λ l. stmts_labels l others) (stmts_things s body ++ elsifs_things s elsifs)
        (stmts_things s others)
        (both_counted (λ l. stmts_labels l body) (λ l. elsifs_labels l elsifs) (stmts_things s body) (elsifs_things s elsifs) (stmts_counted body)
        (elsifs_counted elsifs)) (stmts_counted others)
    stmt_counted (Case place value all) = alternatives_counted all
    stmt_counted (Loop place iteration body) = stmts_counted body
    stmt_counted (Block place locals body all) =
        both_counted (λ l. stmts_labels l body) (λ l. handlers_labels l all) (locals_things s locals ++ stmts_things s body) (handlers_things s all)
        (both_counted same (λ l. stmts_labels l body) (locals_things s locals) (stmts_things s body) (locals_counted locals) (stmts_counted body))
        (handlers_counted all)
    stmt_counted x = none_counted

    stmts_counted : (body : StmtTrees) → IsCounted (λ labels. stmts_labels labels body) (stmts_things s body)
    stmts_counted NoStmts = none_counted
    stmts_counted (MoreStmts x rest) =
        both_counted (λ l. stmt_labels l x) (λ l. stmts_labels l rest) (stmt_things s x) (stmts_things s rest) (stmt_counted x) (stmts_counted rest)

    elsifs_counted : (all : ElsifTrees) → IsCounted (λ labels. elsifs_labels labels all) (elsifs_things s all)
    elsifs_counted NoElsifs = none_counted
    elsifs_counted (MoreElsifs condition body rest) =
        both_counted (λ l. stmts_labels l body) (λ l. elsifs_labels l rest) (stmts_things s body) (elsifs_things s rest) (stmts_counted body)
        (elsifs_counted rest)

    alternatives_counted : (all : AlternativeTrees) → IsCounted (λ labels. alternatives_labels labels all) (alternatives_things s all)
    alternatives_counted NoAlternatives = none_counted
    alternatives_counted (MoreAlternatives place choices body rest) =
        both_counted (λ l. stmts_labels l body) (λ l. alternatives_labels l rest) (stmts_things s body) (alternatives_things s rest) (stmts_counted body)
        (alternatives_counted rest)

    handlers_counted : (all : HandlerTrees) → IsCounted (λ labels. handlers_labels labels all) (handlers_things s all)
    handlers_counted NoHandlers = none_counted
    handlers_counted (MoreHandlers choices body rest) =
        both_counted (λ l. stmts_labels l body) (λ l. handlers_labels l rest) (stmts_things s body) (handlers_things s rest) (stmts_counted body)
        (handlers_counted rest)

-- ---- bodies

body_counted : (s : Scope) (fs : List Formal) (b : BodyTree) → IsCounted (λ labels. body_labels labels b) (body_things s fs b)
body_counted s fs b =
    let first = formals_things s fs in
    let second = locals_things s b.declarations in
    let third = stmts_things s b.statements in
    let last = handlers_things s b.handlers in
    both_counted (λ l. stmts_labels l b.statements) (λ l. handlers_labels l b.handlers) (first ++ second ++ third) last
    (both_counted same (λ l. stmts_labels l b.statements) (first ++ second) third
    (both_counted same same first second (formals_counted s fs) (locals_counted s b.declarations)) (stmts_counted s b.statements))
    (handlers_counted s b.handlers)

only_counted : (s : Scope) (fs : List Formal) (b : BodyTree) → IsCounted same (body_things s fs b)
only_counted s fs b = ignored (λ l. body_labels l b) (body_things s fs b) (body_counted s fs b)

abbrev labels_by : (before : List (List ℕ)) → BodyTree → Option Identifier → List (List ℕ)
labels_by before b o = elim o [ None ↦ body_labels before b | Some r ↦ before ]

subprogram_counted : (s : Scope) (d : SubprogramTree) (b : BodyTree) → IsCounted (λ labels. subprogram_labels labels d b) (body_things s d.formals b)
subprogram_counted s d b = by_result d.result
  where
    by_result : (o : Option Identifier) → IsCounted (λ labels. labels_by labels b o) (body_things s d.formals b)
    by_result None = body_counted s d.formals b
    by_result (Some r) = only_counted s d.formals b

operation_counted : (s : Scope) (i : ProtectedItemTree) → IsCounted (λ labels. operation_labels labels i) (operation_inside s i)
operation_counted s (OperationBody d b) = subprogram_counted s d b
operation_counted s (EntryBody d barrier b) = body_counted s d.formals b

operations_counted : (s : Scope) (items : List ProtectedItemTree) → IsCounted (λ labels. operations_labels labels items) (operations_inside s items)
operations_counted s [] = none_counted
operations_counted s (i ∷ rest) =
    both_counted (λ l. operation_labels l i) (λ l. operations_labels l rest) (operation_inside s i) (operations_inside s rest) (operation_counted s i)
    (operations_counted s rest)

item_counted : (s : Scope) (x : BodyItemTree) → IsCounted (λ labels. item_labels labels x) (body_item_inside s x)
item_counted s (SubprogramBody d b) = subprogram_counted s d b
item_counted s (OfItem d) = none_counted
item_counted s (TaskBody name b) = body_counted s [] b
item_counted s (ProtectedBody name items end_name) = operations_counted s items

items_counted : (s : Scope) (items : List BodyItemTree) → IsCounted (λ labels. items_labels labels items) (body_items_inside s items)
items_counted s [] = none_counted
items_counted s (x ∷ items) =
    both_counted (λ l. item_labels l x) (λ l. items_labels l items) (body_item_inside s x) (body_items_inside (body_item_scope s x) items) (item_counted s x)
    (items_counted (body_item_scope s x) items)

labels_behind : (ds : List ItemTree) (body : List BodyItemTree) (before : List (List ℕ))
    → items_labels before (map OfItem ds ++ body) ≡ items_labels before body
labels_behind [] body before = refl
labels_behind (d ∷ ds) body before = labels_behind ds body before

-- ---- limits

drop_none : {X : Type 0} (n : ℕ) (xs : List X) → drop n xs ≡ [] → length xs ≤ n
drop_none zero [] h = omega arith
drop_none zero (x ∷ xs) h = cc
drop_none (suc n) [] h = omega arith
drop_none (suc n) (x ∷ xs) h = (let rest = drop_none n xs h in omega (arith, rest))

no_map : {X Y : Type 0} (f : X → Y) (xs : List X) → map f xs ≡ [] → xs ≡ []
no_map f [] h = refl
no_map f (x ∷ xs) h = cc

-- nothing is over a limit
pub within_limit : (limit : ℕ) (places : List ℕ) → over limit places ≡ [] → length places ≤ limit
within_limit limit places h = drop_none limit places (no_map _ (drop limit places) h)

pub labels_few : (o : Option PackageTree) → optional_size_faults o ≡ [] → length (items_labels [] (declared_in o)) ≤ LABELS
labels_few None h = omega arith
labels_few (Some p) h =
    let behind = specified_scope standard p in
    let things = package_inside p in
    let none = back_empty (frame_faults p ++ declared_faults (package_things p)) (label_faults things) h in
    let all = items_counted behind p.body.items in
    let counted = all.labels [] [] (record { differ = tt; among = λ q e. e }) in
    let few = no_more_than (items_labels [] p.body.items) (used_all [] things) counted.differ counted.among in
    let used = all.once [] in
    let limit = within_limit LABELS (first_uses [] things) none in
    let same = ap length (labels_behind p.declaration.items p.body.items []) in
    under (length (items_labels [] (declared_in (Some p)))) (length (items_labels [] p.body.items)) (length (used_all [] things))
    (length (first_uses [] things)) same few used limit
  where
    under : (a b c d : ℕ) → a ≡ b → b ≤ c → c ≡ 0 + d → d ≤ LABELS → a ≤ LABELS
    under a b c d e h k m = omega (arith, e, h, k, m)
