-- What is put together for declarations, and what is visible after them and where their scope ends (RM 3.3.1, 5.5, 5.6).
use Rattle.std.proofs.Common.{◌≡◌, ◌≤◌, ◌<◌, ℕ, ◌+◌, List, [], ◌∷◌, ◌++◌, Option, Some, None, drop, length, map, take, refl, sym, ap, ◌∙◌, arith, append_assoc, subst}
use Rattle.std.specs.Prelude.{get_or}
use Rattle.std.proofs.Math.Seq.{take-append_seam}
use Rattle.std.proofs.lemmas.List.{append-nil}
use Rattle.ada_tree.specs.declared.declaration.Declaration.{Declaration}
use Rattle.ada_tree.specs.StatementTree.{DeclarationTree, LocalObject, LocalProtected, LocalTask, ObjectTree, ProtectedTree, TaskTree, declaration_tree}
use Rattle.declaration_rules.specs.Laws.{NamesAreAdded, StandsFirst}
use Rattle.declaration_rules.specs.LocalRules.{local_scope}
use Rattle.expr_code.specs.Pieces.{narrow, nothing}
use Rattle.expr_code.specs.declared.visible.Slot.{Slot}
use Rattle.expr_code.specs.declared.visible.Visible.{Visible}
use Rattle.expr_code.proofs.Going.{drop_at}
use Rattle.expr_code.proofs.Pieces.{drop_end}
use Rattle.image.specs.declared.instruction.Region.TheVariants as regions
use Rattle.part_code.specs.Needs.{with_object}
use Rattle.part_code.specs.Statements.{Ways}
use Rattle.type_rules.specs.SubtypeNames.{subtype_of}
use Rattle.types.specs.Scopes.{Scope}
use Rattle.stmt_code.specs.Declaring.{AddsLocals, site_at}
use Rattle.stmt_code.specs.Drafting.{CodePart, Sketched, adds, coded, end_of, marked, marks, ◌▹◌}
use Rattle.stmt_code.specs.StatementCode.{Site, after_local, after_locals, local_code, local_object, locals_code, words_taken}
use Rattle.stmt_code.proofs.PartsAdded.{adds_nothing, adds_then, marks_added}

-- ---- one declaration

one_declared : (v later : Visible) (taken more : ℕ) (old new : Sketched) (d : DeclarationTree)
    → ((w : Ways) (exceptions : List (List ℕ)) → new ≡ adds old (local_code (site_at v taken w exceptions) d))
    → ((w : Ways) (exceptions : List (List ℕ)) → after_local (site_at v taken w exceptions) d ≡ site_at later more w exceptions)
    → AddsLocals v taken old (d ∷ []) later more new
one_declared v later taken more old new d made next = record {
  made = λ w exceptions.
      let code = local_code (site_at v taken w exceptions) d in
      made w exceptions ∙ sym (adds_nothing (adds old code)) ∙ adds_then old code (coded nothing);
  next = next;
}

pub object_declared : (v later : Visible) (taken more : ℕ) (old mid new : Sketched) (d : ObjectTree) (first offset : ℕ) → first ≡ end_of old
    → mid ≡ adds old (local_object v taken (subtype_of v.scope d.subtype) d.value)
    → new ≡ marks mid first d.name.place
    → offset ≡ narrow taken
    → later ≡ with_object v (local_scope v.scope (LocalObject d)) offset
    → more ≡ taken + words_taken v.scope (subtype_of v.scope d.subtype)
    → AddsLocals v taken old (LocalObject d ∷ []) later more new
object_declared v later taken more old mid new d first offset begins made marked_there at shown many =
    let seen : later ≡ with_object v (local_scope v.scope (LocalObject d)) (narrow taken) = shown ∙ ap (with_object v (local_scope v.scope (LocalObject d))) at in
    let a = local_object v taken (subtype_of v.scope d.subtype) d.value in
    let whole : new ≡ adds old (marked d.name.place a) =
    marked_there ∙ ap (λ m. marks m first d.name.place) made ∙ marks_added old a first d.name.place begins in
    one_declared v later taken more old new (LocalObject d) (λ w exceptions. whole) (λ w exceptions. sym (λ j. site_at (seen j) (many j) w exceptions))

pub task_declared : (v : Visible) (taken : ℕ) (old : Sketched) (d : TaskTree) → AddsLocals v taken old (LocalTask d ∷ []) v taken old
task_declared v taken old d = one_declared v v taken taken old old (LocalTask d) (λ w exceptions. sym (adds_nothing old)) (λ w exceptions. refl)

pub protected_declared : (v : Visible) (taken : ℕ) (old : Sketched) (d : ProtectedTree) → AddsLocals v taken old (LocalProtected d ∷ []) v taken old
protected_declared v taken old d = one_declared v v taken taken old old (LocalProtected d) (λ w exceptions. sym (adds_nothing old)) (λ w exceptions. refl)

-- ---- one after another

-- what is left of declarations adds what all of them do, and is followed by what follows all of them
pub record DeclaresRest (v : Visible) (taken : ℕ) (old : Sketched) (all : List DeclarationTree) (later : Visible) (more : ℕ) (now : Sketched)
    (rest : List DeclarationTree) : Type 0 where
  pub made : (w : Ways) (exceptions : List (List ℕ))
      → adds now (locals_code (site_at later more w exceptions) rest) ≡ adds old (locals_code (site_at v taken w exceptions) all)
  pub next : (w : Ways) (exceptions : List (List ℕ))
      → after_locals (site_at later more w exceptions) rest ≡ after_locals (site_at v taken w exceptions) all

pub declarations_begin : (v : Visible) (taken : ℕ) (old : Sketched) (all : List DeclarationTree) → DeclaresRest v taken old all v taken old all
declarations_begin v taken old all = record { made = λ w exceptions. refl; next = λ w exceptions. refl }

pub declarations_step : (v later last : Visible) (taken more most : ℕ) (old now new : Sketched) (whole : List DeclarationTree) (all : List Declaration) (n : ℕ)
    (x : Declaration) → n < length all → x ≡ get_or all n x → DeclaresRest v taken old whole later more now (map declaration_tree (drop n all))
    → AddsLocals later more now (declaration_tree x ∷ []) last most new
    → DeclaresRest v taken old whole last most new (map declaration_tree (drop (n + 1) all))
declarations_step v later last taken more most old now new whole all n x less is p q =
    let d = declaration_tree x in
    let rest = map declaration_tree (drop (n + 1) all) in
    let here = subst (λ l. DeclaresRest v taken old whole later more now (map declaration_tree l)) (drop_at all n x less is) p in
    record {
      made = λ w exceptions.
          let c = site_at later more w exceptions in
          ap (λ y. adds y (locals_code (site_at last most w exceptions) rest))
          (q.made w exceptions ∙ sym (adds_then now (local_code c d) (coded nothing)) ∙ adds_nothing (adds now (local_code c d)))
          ∙ ap (λ y. adds (adds now (local_code c d)) (locals_code y rest)) (sym (q.next w exceptions))
          ∙ adds_then now (local_code c d) (locals_code (after_local c d) rest) ∙ here.made w exceptions;
      next = λ w exceptions. ap (λ y. after_locals y rest) (sym (q.next w exceptions)) ∙ here.next w exceptions;
    }

pub declarations_end : (v later : Visible) (taken more : ℕ) (old now : Sketched) (whole : List DeclarationTree) (all : List Declaration) (n : ℕ)
    → length all ≤ n → DeclaresRest v taken old whole later more now (map declaration_tree (drop n all)) → AddsLocals v taken old whole later more now
declarations_end v later taken more old now whole all n le p = record {
  made = λ w exceptions.
      sym (adds_nothing now) ∙ ap (λ l. adds now (locals_code (site_at later more w exceptions) (map declaration_tree l))) (sym (drop_end all n le))
      ∙ p.made w exceptions;
  next = λ w exceptions.
      sym (p.next w exceptions) ∙ ap (λ l. after_locals (site_at later more w exceptions) (map declaration_tree l)) (drop_end all n le);
}

-- ---- what is visible at the end of a block or a loop

-- names were added, with what they have
pub record Shows (v w : Visible) : Type 0 where
  pub scope : StandsFirst v.scope w.scope
  pub slots : (more : List (Option Slot)) × (w.slots ≡ v.slots ++ more)
  pub subprograms : (more : List (Option ℕ)) × (w.subprograms ≡ v.subprograms ++ more)
  pub operations : w.operations ≡ v.operations

take_all : {A : Type 0} (xs : List A) → take (length xs) xs ≡ xs
take_all xs = ap (take (length xs)) (sym (append-nil xs)) ∙ take-append_seam xs []

shows_itself : (v : Visible) → Shows v v
shows_itself v = record {
  scope = take_all v.scope;
  slots = ([], sym (append-nil v.slots));
  subprograms = ([], sym (append-nil v.subprograms));
  operations = refl;
}

pub shows_object : (v : Visible) (s : Scope) (offset : ℕ) → StandsFirst v.scope s → Shows v (with_object v s offset)
shows_object v s offset first = record {
  scope = first;
  slots = (Some (record { region = regions.Locals; offset = offset }) ∷ [], refl);
  subprograms = (None ∷ [], refl);
  operations = refl;
}

shows_then : NamesAreAdded → (u v w : Visible) → Shows u v → Shows v w → Shows u w
shows_then n u v w p q = record {
  scope = n.together u.scope v.scope w.scope p.scope q.scope;
  slots = (p.slots.0 ++ q.slots.0, q.slots.1 ∙ ap (λ l. l ++ q.slots.0) p.slots.1 ∙ append_assoc u.slots p.slots.0 q.slots.0);
  subprograms = (
    p.subprograms.0 ++ q.subprograms.0,
    q.subprograms.1 ∙ ap (λ l. l ++ q.subprograms.0) p.subprograms.1 ∙ append_assoc u.subprograms p.subprograms.0 q.subprograms.0,
  );
  operations = q.operations ∙ p.operations;
}

pub shows_locals : NamesAreAdded → (c : Site) (ds : List DeclarationTree) → Shows c.visible (after_locals c ds).visible
shows_locals n c [] = shows_itself c.visible
shows_locals n c (LocalObject d ∷ ds) =
    shows_then n c.visible (after_local c (LocalObject d)).visible (after_locals c (LocalObject d ∷ ds)).visible
    (shows_object c.visible (local_scope c.visible.scope (LocalObject d)) (narrow c.taken) (n.locals c.visible.scope (LocalObject d ∷ [])))
    (shows_locals n (after_local c (LocalObject d)) ds)
shows_locals n c (LocalTask d ∷ ds) = shows_locals n c ds
shows_locals n c (LocalProtected d ∷ ds) = shows_locals n c ds

pub out_of_sight : (v w there new : Visible) (names slots subprograms : ℕ) → Shows v w → there ≡ w → names ≡ length v.scope → slots ≡ length v.slots
    → subprograms ≡ length v.subprograms
    → new ≡ record {
      scope = take names there.scope;
      slots = take slots there.slots;
      subprograms = take subprograms there.subprograms;
      operations = there.operations;
    } → new ≡ v
out_of_sight v w there new names slots subprograms p same many more numbers made =
    let scope = (λ j. take (many j) (same j).scope) ∙ p.scope in
    let placed = (λ j. take (more j) (same j).slots) ∙ ap (take (length v.slots)) p.slots.1 ∙ take-append_seam v.slots p.slots.0 in
    let called = (λ j. take (numbers j) (same j).subprograms) ∙ ap (take (length v.subprograms)) p.subprograms.1
    ∙ take-append_seam v.subprograms p.subprograms.0 in
    let operations = ap (λ x. x.operations) same ∙ p.operations in
    made ∙ (λ j. record { scope = scope j; slots = placed j; subprograms = called j; operations = operations j })

-- what follows declarations, added after them
pub block_made : (v later : Visible) (taken more : ℕ) (old mid new : Sketched) (w : Ways) (exceptions : List (List ℕ)) (ds : List DeclarationTree)
    (inner : Site → CodePart) → AddsLocals v taken old ds later more mid → new ≡ adds mid (inner (site_at later more w exceptions))
    → new ≡ adds old (locals_code (site_at v taken w exceptions) ds ▹ inner (after_locals (site_at v taken w exceptions) ds))
block_made v later taken more old mid new w exceptions ds inner p made =
    let c = site_at v taken w exceptions in
    made ∙ ap (λ s. adds mid (inner s)) (sym (p.next w exceptions)) ∙ ap (λ y. adds y (inner (after_locals c ds))) (p.made w exceptions)
    ∙ adds_then old (locals_code c ds) (inner (after_locals c ds))

pub shown_after : (v later : Visible) (taken more : ℕ) (old new : Sketched) (w : Ways) (exceptions : List (List ℕ)) (ds : List DeclarationTree)
    → AddsLocals v taken old ds later more new → later ≡ (after_locals (site_at v taken w exceptions) ds).visible
shown_after v later taken more old new w exceptions ds p = sym (ap (λ s. s.visible) (p.next w exceptions))
