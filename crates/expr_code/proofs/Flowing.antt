-- Code behind code keeps the rules of images, and so do the instructions of which it is made.
use Rattle.std.proofs.Common.{◌≡◌, ℕ, suc, ◌+◌, ◌-◌, ◌<◌, ◌≤◌, Bool, true, false, ◌&&◌, ◌||◌, not, None, Some, Option, refl, sym, ap, ◌∙◌, subst, arith, rules, ◌⊎◌, inl, inr}
use Rattle.std.specs.Prelude.{nat_eq, nat_le, nat_lt, slice_get}
use Rattle.image.specs.Sections.{Sections}
use Rattle.image.specs.Operations.{given_by, goes_on, jump_target, taken_by}
use Rattle.image.specs.Rules.{depth_after, has_depth, has_effect, has_operands, is_return, leaves_depth, names_things, none_or}
use Rattle.image.specs.declared.instruction.Instr.{Instr}
use Rattle.image.specs.declared.instruction.Operation.{Operation}
use Rattle.image.specs.declared.subprograms.Subprogram.{Subprogram}
use Rattle.expr_code.specs.Flows.{AreKeptBetween, KeepsInstructionRules}

-- ---- tests

le_true : (a b : ℕ) → a ≤ b → nat_le a b ≡ true
le_true a b h = search rules

eq_true : (a b : ℕ) → a ≡ b → nat_eq a b ≡ true
eq_true a b h = search rules

both : (a b : Bool) → a ≡ true → b ≡ true → (a && b) ≡ true
both true b p q = q
both false b p q = p

lt_of : (k n : ℕ) → nat_lt k n ≡ true → k < n
lt_of k n e = search rules

le_of : (k n : ℕ) → nat_lt k n ≡ false → n ≤ k
le_of k n e = search rules

either : (a b : Bool) → b ≡ true → (a || b) ≡ true
either true b q = refl
either false b q = q

absent : (a b : Bool) → a ≡ false → (not a || b) ≡ true
absent false b p = refl
absent true b p = cc

-- ---- one behind the other

module _ (i : Sections) (s : Subprogram) where
  pub widened : (from to low high one two depth : ℕ) → low ≤ from → to ≤ high → AreKeptBetween i s from to one two depth → AreKeptBetween i s low high one two depth
  widened from to low high one two depth down up kept = record {
    begins = kept.begins;
    shallow = kept.shallow;
    each = λ k x le less is.
        let it = kept.each k x le less is in
        record { operands = it.operands; names = it.names; depth = it.depth; jumps = λ a target. let inside = it.jumps a target in (omega (arith, down, inside.0), omega (arith, up, inside.1)) };
  }

  pub kept_then : (low high from mid to one two : ℕ) → AreKeptBetween i s low high from mid one → AreKeptBetween i s low high mid to two → AreKeptBetween i s low high from to one
  kept_then low high from mid to one two first second = record {
    begins = first.begins;
    shallow = first.shallow;
    each = λ k x le less is. by k x le less is (either_side k mid);
  }
    where
      either_side : (k n : ℕ) → (k < n) ⊎ (n ≤ k)
      either_side k n = by_test (nat_lt k n) refl
        where
          by_test : (t : Bool) → nat_lt k n ≡ t → (k < n) ⊎ (n ≤ k)
          by_test true e = inl (lt_of k n e)
          by_test false e = inr (le_of k n e)

      by : (k : ℕ) (x : Instr) → from ≤ k → k < to → slice_get i.instructions k ≡ Some x → (k < mid) ⊎ (mid ≤ k) → KeepsInstructionRules i s low high k x
      by k x le less is (inl small) = first.each k x le small is
      by k x le less is (inr large) = second.each k x large less is

  -- ---- one instruction, with its names and the depth that it leaves
  module _ (low high place depth out : ℕ) (o : Operation)
      (there : slice_get i.instructions place ≡ Some (record { depth = depth; operation = o }))
      (shallow : depth ≤ s.stack) (within : out ≤ s.stack)
      (operands : has_operands o ≡ true) (names : names_things i s o ≡ true)
      (takes : taken_by i s.results o ≤ depth) (leaves : depth - taken_by i s.results o + given_by i o ≡ out)
      (is_none : is_return o ≡ false)
      (next : goes_on o ≡ true → has_depth i (suc place) out ≡ true)
      (jumps : (a : ℕ) → jump_target o ≡ Some a → (low ≤ a) × (a ≤ high) × (has_depth i a out ≡ true)) where
    abbrev it : Instr
    it = record { depth = depth; operation = o }

    only : (k : ℕ) (x : Instr) → place ≤ k → k < suc place → slice_get i.instructions k ≡ Some x → (k ≡ place) × (x ≡ it)
    only k x le less is = (same, some_same x it (sym is ∙ ap (λ n. slice_get i.instructions n) same ∙ there))
      where
        same : k ≡ place
        same = omega (arith, le, less)

        some_same : (x y : Instr) → Some x ≡ Some y → x ≡ y
        some_same x y e = cc

    begins : has_depth i place depth ≡ true
    begins = ap (λ y. none_or y (λ x. nat_eq x.depth depth)) there ∙ eq_true depth depth refl

    goes : (b : Bool) → goes_on o ≡ b → (not b || has_depth i (place + 1) (depth_after i s it)) ≡ true
    goes true e =
        let more : place + 1 ≡ suc place = omega arith in
        ap (λ n. has_depth i n (depth_after i s it)) more ∙ ap (has_depth i (suc place)) leaves ∙ next e
    goes false e = refl

    target : (t : Option ℕ) → jump_target o ≡ t → none_or t (λ a. has_depth i a (depth_after i s it)) ≡ true
    target None e = refl
    target (Some a) e = ap (has_depth i a) leaves ∙ (jumps a e).2

    pub kept_one : AreKeptBetween i s low high place (suc place) depth
    kept_one = record {
      begins = begins;
      shallow = shallow;
      each = λ k x le less is.
          let same = only k x le less is in
          subst (λ n. KeepsInstructionRules i s low high n x) (sym same.0)
          (subst (λ y. KeepsInstructionRules i s low high place y) (sym same.1)
          (record {
            operands = operands;
            names = names;
            depth =
                both (nat_le depth s.stack) _ (le_true depth s.stack shallow)
                (both (not (is_return o) || nat_eq depth s.results) (not (has_effect i o) || leaves_depth i place it s) (absent (is_return o) (nat_eq depth s.results) is_none)
                (either (not (has_effect i o)) (leaves_depth i place it s)
                (both (nat_le (taken_by i s.results o) depth) _ (le_true (taken_by i s.results o) depth takes)
                (both (nat_le (depth_after i s it) s.stack) _ (le_true (depth_after i s it) s.stack (omega (arith, leaves, within)))
                (both (not (goes_on o) || has_depth i (place + 1) (depth_after i s it)) _ (goes (goes_on o) refl)
                (target (jump_target o) refl))))));
            jumps = λ a e. let inside = jumps a e in (inside.0, inside.1);
          }));
    }

-- ---- code behind code

module _ (Suits : Sections → Subprogram → Type 0) where
  -- what an instruction that doesn't jump finds and leaves, wherever the names suit
  pub record Changes (o : Operation) (depth out : ℕ) : Type 0 where
    pub operands : has_operands o ≡ true
    pub names : (i : Sections) (s : Subprogram) → Suits i s → names_things i s o ≡ true
    pub takes : (i : Sections) (s : Subprogram) → Suits i s → taken_by i s.results o ≤ depth
    pub leaves : (i : Sections) (s : Subprogram) → Suits i s → depth - taken_by i s.results o + given_by i o ≡ out
    pub stays : jump_target o ≡ None
    pub is_none : is_return o ≡ false
