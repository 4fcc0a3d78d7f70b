-- Jumps that keep the rules of images.
use Rattle.std.proofs.Common.{◌≡◌, ℕ, suc, true, Some, refl, sym, ap, ◌∙◌, arith}
use Rattle.std.specs.Prelude.{nat_eq, slice_get}
use Rattle.image.specs.Sections.{Sections}
use Rattle.image.specs.Operations.{jump_target}
use Rattle.image.specs.Rules.{has_depth, none_or}
use Rattle.image.specs.declared.instruction.Operation.{Operation}
use Rattle.image.specs.declared.instruction.Operation.TheVariants as op
use Rattle.image.specs.declared.subprograms.Subprogram.{Subprogram}
use Rattle.expr_code.specs.Flows.{AreKeptBetween}
use Rattle.expr_code.proofs.Flowing.{kept_one}
use Rattle.part_code.specs.Emitting.{IsReachable}
use Rattle.part_code.proofs.Lists.{some_same, same_self}

-- ---- instructions of an image

pub depth_there : (i : Sections) (place depth : ℕ) (o : Operation) → slice_get i.instructions place ≡ Some (record { depth = depth; operation = o })
    → has_depth i place depth ≡ true
depth_there i place depth o there = ap (λ y. none_or y (λ x. nat_eq x.depth depth)) there ∙ same_self depth

pub same_place : (o : Operation) (place a : ℕ) → jump_target o ≡ Some place → jump_target o ≡ Some a → a ≡ place
same_place o place a is e = some_same a place (sym e ∙ is)

-- ---- jumps that keep the rules

-- a jump from an empty operand stack to a place that is reached
pub jump_kept : (i : Sections) (s : Subprogram) (low high place to : ℕ) → slice_get i.instructions place ≡ Some (record { depth = 0; operation = op.Jump to })
    → IsReachable i low high to → AreKeptBetween i s low high place (suc place) 0
jump_kept i s low high place to there r =
    kept_one i s low high place 0 0 (op.Jump to) there (omega arith) (omega arith) refl refl (omega arith) (omega arith) refl (λ e. absurd cc)
    (λ a e.
    let same : a ≡ to = same_place (op.Jump to) to a refl e in
    (omega (arith, same, r.down), omega (arith, same, r.up), ap (λ n. has_depth i n 0) same ∙ r.empty))
