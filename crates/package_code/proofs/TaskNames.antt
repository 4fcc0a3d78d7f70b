-- The name of a task's body stands for a task, and no two bodies with code have one name.
use Rattle.std.proofs.Common.{◌≡◌, ℕ, zero, suc, ◌<◌, List, [], take, true, false, ◌||◌, ◌⊎◌, inl, inr, Option, Some, None, refl, sym, ap, ◌∙◌, arith}
use Rattle.std.specs.List.{list_any}
use Rattle.std.specs.Prelude.{is_some, not, slice_get}
use Rattle.std.proofs.lemmas.Bool.{or_parts}
use Rattle.ada_tree.specs.declared.expression.Identifier.{Identifier}
use Rattle.ada_tree.specs.StatementTree.{SubprogramTree}
use Rattle.ada_tree.specs.ProgramTree.{BodyItemTree, BodyTree, ProgramTree, SubprogramBody, TaskBody}
use Rattle.types.specs.Entities.{Doubtful, Entity, Subprogram, Task}
use Rattle.types.specs.Scopes.{Scope, number_of}
use Rattle.declaration_rules.specs.LocalRules.{fixed_locals_faults, locals_scope}
use Rattle.expr_soundness.specs.expr_rules.proofs.TypedLaw.{front_empty, unbroken}
use Rattle.type_rules.specs.SubtypeNames.{end_rule}
use Rattle.program_soundness.specs.stmt_rules.specs.declared.around.BodyKind.TheVariants as kind
use Rattle.program_soundness.specs.stmt_rules.specs.StatementRules.{in_body, sequence_faults}
use Rattle.unit_rules.specs.BodyRules.{is_task, task_body_faults, task_rule}
use Rattle.expr_soundness.specs.meaning.specs.Programs.{Program}
use Rattle.program_soundness.specs.Fronts.{scope_at}
use Rattle.program_soundness.proofs.Called.{body_entity}
use Rattle.program_soundness.proofs.Listing.{none_passes, taken_at}
use Rattle.program_soundness.proofs.OneList.{is_subprogram_body, is_task_body, matched_at}
use Rattle.program_soundness.proofs.Walked.{legal_at}
use Rattle.program_soundness.proofs.Whole.{IsPackage, kept, no_doubt}
use Rattle.program_soundness.proofs.WiderScopes.{equal_bytes, number_stands, stands}
use Rattle.package_code.specs.Bodies.{Coded, coded_at}
use Rattle.package_code.proofs.Coded.{outside_by}

module _ (program : Program) (s : Scope) (all : List BodyItemTree) (w : IsPackage program s all) where
  pub task_entity : (k : ℕ) (name : Identifier) (b : BodyTree) → slice_get all k ≡ Some (TaskBody name b)
      → (p : ℕ) × (stands program.scope name.name ≡ Some (Task p))
  task_entity k name b at = by_entity (stands (scope_at s all k) name.name) refl ruled
    where
      legal : task_body_faults (scope_at s all k) name b ≡ []
      legal = legal_at s all k (TaskBody name b) at w.list.legal

      ruled : not (is_task (stands (scope_at s all k) name.name)) ≡ false
      ruled =
          unbroken _ name.place _
          (front_empty (task_rule (scope_at s all k) name) (fixed_locals_faults (scope_at s all k) b.declarations)
          (front_empty _ (sequence_faults (locals_scope (scope_at s all k) b.declarations) (in_body kind.Task) b.statements b.handlers)
          (front_empty _ (end_rule name b.end_name) legal)))

      by_entity : (o : Option Entity) → stands (scope_at s all k) name.name ≡ o → not (is_task o) ≡ false
          → (p : ℕ) × (stands program.scope name.name ≡ Some (Task p))
      by_entity (Some (Task p)) e h = (p, kept program s all w k name.name (Task p) e)
      by_entity (Some Doubtful) e h = absurd (no_doubt program s all w name.name (kept program s all w k name.name Doubtful e))
      by_entity None e h = cc
      by_entity (Some x) e h = cc

  -- the name of a body with code is visible behind the package
  pub name_numbered : (k : ℕ) (x : BodyItemTree) (t : ProgramTree) (place j : ℕ) (c : Coded) → slice_get all k ≡ Some x
      → slice_get (coded_at t place x) j ≡ Some c → c.owner ≡ None → is_some (number_of program.scope c.head.name.name) ≡ true
  name_numbered k x t place j c at is outside =
      outside_by t place (λ y n e. slice_get all k ≡ Some y → is_some (number_of program.scope e.head.name.name) ≡ true)
      (λ d b there. let e = body_entity program s all w k d b there in seen d.name.name (Subprogram e.profile) e.stands_)
      (λ name b there. let e = task_entity k name b there in seen name.name (Task e.0) e.1) x j c is outside at
    where
      seen : (name : List ℕ) (e : Entity) → stands program.scope name ≡ Some e → is_some (number_of program.scope name) ≡ true
      seen name e h = ap is_some (number_stands program.scope name e h).1

  -- no subprogram has the name of a task
  task_or_subprogram : (j k : ℕ) (d : SubprogramTree) (b : BodyTree) (name : Identifier) (own : BodyTree) → slice_get all j ≡ Some (SubprogramBody d b)
      → slice_get all k ≡ Some (TaskBody name own) → d.name.name ≡ name.name → ⊥
  task_or_subprogram j k d b name own at there same =
      let x = body_entity program s all w j d b at in
      let y = task_entity k name own there in
      let both : Some (Subprogram x.profile) ≡ Some (Task y.0) = sym x.stands_ ∙ ap (stands program.scope) same ∙ y.1 in
      cc

  -- nor one body in front of another
  two_subprograms : (n k : ℕ) (d e : SubprogramTree) (b c : BodyTree) → n < k → slice_get all n ≡ Some (SubprogramBody d b)
      → slice_get all k ≡ Some (SubprogramBody e c) → d.name.name ≡ e.name.name → ⊥
  two_subprograms n k d e b c less at there same =
      let matched : (list_any (is_subprogram_body e.name) (take k all) || _) ≡ false =
      unbroken _ e.name.place _ (matched_at s all w.list k (SubprogramBody e c) there) in
      let none = none_passes (is_subprogram_body e.name) (take k all) n (SubprogramBody d b)
      (or_parts (list_any (is_subprogram_body e.name) (take k all)) _ matched).0 (taken_at all k n (SubprogramBody d b) less at) in
      let bad = sym none ∙ equal_bytes e.name.name d.name.name (sym same) in
      cc

  two_tasks : (n k : ℕ) (one other : Identifier) (b c : BodyTree) → n < k → slice_get all n ≡ Some (TaskBody one b)
      → slice_get all k ≡ Some (TaskBody other c) → one.name ≡ other.name → ⊥
  two_tasks n k one other b c less at there same =
      let matched : list_any (is_task_body other) (take k all) ≡ false =
      unbroken _ other.place _ (matched_at s all w.list k (TaskBody other c) there) in
      let none = none_passes (is_task_body other) (take k all) n (TaskBody one b) matched (taken_at all k n (TaskBody one b) less at) in
      let bad = sym none ∙ equal_bytes other.name one.name (sym same) in
      cc

  module _ (t : ProgramTree) where
    -- bodies of one name, of no object, do not stand one in front of the other
    unlike : (n k : ℕ) (p i : ℕ) (y : BodyItemTree) (e : Coded) (q j : ℕ) (x : BodyItemTree) (c : Coded) → n < k
        → slice_get all n ≡ Some y → slice_get (coded_at t p y) i ≡ Some e → e.owner ≡ None
        → slice_get all k ≡ Some x → slice_get (coded_at t q x) j ≡ Some c → c.owner ≡ None → e.head.name.name ≡ c.head.name.name → ⊥
    unlike n k p i y e q j x c less there code none at is outside =
        outside_by t p (λ z m f. slice_get all n ≡ Some z → f.head.name.name ≡ c.head.name.name → ⊥)
        (λ d b front. outside_by t q (λ z m f. slice_get all k ≡ Some z → d.name.name ≡ f.head.name.name → ⊥)
        (λ g h later. two_subprograms n k d g b h less front later) (λ name h later. task_or_subprogram n k d b name h front later) x j c is outside at)
        (λ one b front. outside_by t q (λ z m f. slice_get all k ≡ Some z → one.name ≡ f.head.name.name → ⊥)
        (λ g h later same. task_or_subprogram k n g h one b later front (sym same)) (λ other h later. two_tasks n k one other b h less front later) x j c is
        outside at)
        y i e code none there

    -- of an item that is such a body there is no other
    alone : (p i : ℕ) (x : BodyItemTree) (c : Coded) → slice_get (coded_at t p x) i ≡ Some c → c.owner ≡ None → i ≡ 0
    alone p i x c is outside = outside_by t p (λ z m f. m ≡ 0) (λ d b. refl) (λ name b. refl) x i c is outside

    -- they stand at one place
    pub one_place : (n i : ℕ) (y : BodyItemTree) (e : Coded) (k j : ℕ) (x : BodyItemTree) (c : Coded)
        → slice_get all n ≡ Some y → slice_get (coded_at t n y) i ≡ Some e → e.owner ≡ None
        → slice_get all k ≡ Some x → slice_get (coded_at t k x) j ≡ Some c → c.owner ≡ None → e.head.name.name ≡ c.head.name.name
        → (n ≡ k) × (i ≡ j)
    one_place n i y e k j x c there code none at is outside same =
        (by_order (order n k), alone n i y e code none ∙ sym (alone k j x c is outside))
      where
        order : (a b : ℕ) → (a < b) ⊎ ((a ≡ b) ⊎ (b < a))
        order zero zero = inr (inl refl)
        order zero (suc b) = inl (omega arith)
        order (suc a) zero = inr (inr (omega arith))
        order (suc a) (suc b) = elim (order a b) [
          | inl less ↦ inl (omega (arith, less))
          | inr r ↦ elim r [ inl eq ↦ inr (inl (ap suc eq)) | inr less ↦ inr (inr (omega (arith, less))) ]
        ]

        by_order : (n < k) ⊎ ((n ≡ k) ⊎ (k < n)) → n ≡ k
        by_order (inl less) = absurd (unlike n k n i y e k j x c less there code none at is outside same)
        by_order (inr (inl eq)) = eq
        by_order (inr (inr less)) = absurd (unlike k n k j x c n i y e less at is outside there code none (sym same))
