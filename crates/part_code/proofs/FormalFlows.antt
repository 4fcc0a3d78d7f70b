-- The calls of main, and returns, keep the rules of images: what each finds and leaves on the operand stack.
use Rattle.std.proofs.Common.{◌≡◌, ℕ, suc, ◌+◌, ◌-◌, ◌<◌, ◌≤◌, ◌&&◌, ◌||◌, Bool, true, false, None, Some, refl, sym, ap, ◌∙◌, subst, arith, rules}
use Rattle.std.specs.Prelude.{nat_eq, nat_le, slice_get}
use Rattle.image.specs.Sections.{Sections}
use Rattle.image.specs.Operations.{parameters_of, results_of}
use Rattle.image.specs.Rules.{calls_inside, is_plain, keeps_depth, some_and}
use Rattle.image.specs.declared.instruction.Instr.{Instr}
use Rattle.image.specs.declared.instruction.Operation.TheVariants as op
use Rattle.image.specs.declared.subprograms.Subprogram.{Subprogram}
use Rattle.expr_code.specs.Flows.{AreKeptBetween, KeepsInstructionRules}
use Rattle.expr_code.proofs.Flowing.{Changes}
use Rattle.part_code.specs.MainCalls.{IsBare}
use Rattle.part_code.proofs.Jumps.{depth_there}

abbrev Asked : Type 1
Asked = Sections → Subprogram → Type 0

-- ---- single instructions

module _ (A : Asked) where
  -- a call of what takes and gives nothing
  pub call_changes : (depth number : ℕ) → ((i : Sections) (q : Subprogram) → A i q → IsBare i q number) → Changes A (op.Call number) depth depth
  call_changes depth number bare = record {
    operands = refl;
    names = λ i q asked.
        let b = bare i q asked in
        ap (λ o. some_and o (λ c. is_plain c.kind || calls_inside q.kind c.kind)) b.is ∙ b.kind;
    takes = λ i q asked. (let b = bare i q asked in let e = ap parameters_of b.is ∙ b.parameters in omega (arith, e));
    leaves = λ i q asked.
        (let b = bare i q asked in let e = ap parameters_of b.is ∙ b.parameters in let k = ap results_of b.is ∙ b.results in omega (arith, e, k));
    stays = refl;
    is_none = refl;
  }

-- ---- a return

pub both : (a b : Bool) → a ≡ true → b ≡ true → (a && b) ≡ true
both true b p q = q
both false b p q = p

pub least : (a b : ℕ) → a ≤ b → nat_le a b ≡ true
least a b h = search rules

pub equal : (a b : ℕ) → a ≡ b → nat_eq a b ≡ true
equal a b h = search rules

module _ (i : Sections) (s : Subprogram) (low high place depth : ℕ)
    (there : slice_get i.instructions place ≡ Some (record { depth = depth; operation = op.Return }))
    (shallow : depth ≤ s.stack) (results : s.results ≡ depth) where
  abbrev it : Instr
  it = record { depth = depth; operation = op.Return }

  only : (k : ℕ) (x : Instr) → place ≤ k → k < suc place → slice_get i.instructions k ≡ Some x → (k ≡ place) × (x ≡ it)
  only k x le less is = (same, some_same x it (sym is ∙ ap (λ n. slice_get i.instructions n) same ∙ there))
    where
      same : k ≡ place
      same = omega (arith, le, less)

      some_same : (x y : Instr) → Some x ≡ Some y → x ≡ y
      some_same x y e = cc

  keeps : keeps_depth i place it s ≡ true
  keeps =
      both (nat_le depth s.stack) _ (least depth s.stack shallow)
      (both (nat_eq depth s.results) _ (equal depth s.results (sym results))
      (both (nat_le s.results depth) _ (least s.results depth (omega (arith, results)))
      (both (nat_le (depth - s.results + 0) s.stack) _ (least (depth - s.results + 0) s.stack (omega (arith, shallow))) refl)))

  no_target : (a : ℕ) → None ≡ Some a → ⊥
  no_target a e = cc

  pub return_kept : AreKeptBetween i s low high place (suc place) depth
  return_kept = record {
    begins = depth_there i place depth op.Return there;
    shallow = shallow;
    each = λ k x le less is.
        let same = only k x le less is in
        subst (λ n. KeepsInstructionRules i s low high n x) (sym same.0)
        (subst (λ y. KeepsInstructionRules i s low high place y) (sym same.1)
        (record { operands = refl; names = refl; depth = keeps; jumps = λ a e. absurd (no_target a e) }));
  }
