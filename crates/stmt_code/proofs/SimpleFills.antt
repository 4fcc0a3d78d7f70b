-- How much the code of simple statements and of parts of others is: lines, ways out, exceptions, delays, choices, turns of loops and initial values.
use Rattle.std.proofs.Common.{◌≡◌, ℕ, ℤ, suc, ◌+◌, ◌*◌, ◌≤◌, List, [], ◌∷◌, length, max, Bool, true, false, Option, None, Some, inl, refl, sym, subst, arith, length-append}
use Rattle.std.specs.Prelude.{◌||◌, ◌⊎◌, not, pos}
use Rattle.ada_tree.specs.declared.expression.Identifier.{Identifier}
use Rattle.ada_tree.specs.ExpressionTree.{ExprTree}
use Rattle.ada_tree.specs.Size.{expr_size}
use Rattle.image.specs.Rules.{has_operands}
use Rattle.image.specs.declared.instruction.Operation.{Operation}
use Rattle.image.specs.declared.instruction.Operation.TheVariants as op
use Rattle.types.specs.Scopes.{Scope}
use Rattle.types.specs.Statics.{static_fault, static_value}
use Rattle.expr_soundness.specs.SoundScopes.{SoundScope}
use Rattle.expr_code.specs.Emitting.{IsLegalExpression}
use Rattle.expr_code.specs.ExpressionCode.{expr_code}
use Rattle.expr_code.specs.Pieces.{Piece, deepest_of, narrow, nothing, one, over, ◌▸◌}
use Rattle.expr_code.specs.Providing.{HasWhatExpressionsNeed}
use Rattle.expr_code.specs.Refusing.{peak}
use Rattle.expr_code.specs.Widths.{width_of}
use Rattle.expr_code.specs.declared.visible.Visible.{Visible}
use Rattle.expr_code.proofs.NamesWork.{all_work}
use Rattle.expr_code.proofs.Pieces.{deepest_append}
use Rattle.expr_code.proofs.StandingPieces.{FitOr, FitsOr, Suiting, narrow_low}
use Rattle.part_code.specs.Needs.{Needs, has_unfit}
use Rattle.part_code.specs.Raising.{number_among, pushed}
use Rattle.part_code.specs.Turns.{next_operation, word_of_first, word_of_last}
use Rattle.part_code.specs.declared.turns.Turns.{Turns}
use Rattle.part_code.proofs.PieceNeeds.{Laws}
use Rattle.part_code.proofs.Within.{unfit_there}
use Rattle.stmt_code.specs.Drafting.{coded}
use Rattle.stmt_code.specs.SimpleCode.{choice_word, choices_code, jump_code, last_code, leaving_code, next_code, null_code, raise_code, raising, test_code, tests_code}
use Rattle.stmt_code.proofs.PartsFill.{Fills, both_fit, max_most, none_more, weaker_fit}

-- ---- pieces

-- it has at most so many instructions, each of which finds at most so many words, and has operands that an image may have, or this is so
pub record Spans (U : Type 0) (long high : ℕ) (a : Piece) : Type 0 where
  pub sized : (base : ℕ) → length (a base) ≤ long
  pub low : (base : ℕ) → deepest_of (a base) ≤ high
  pub fit : (base : ℕ) → FitOr U (a base)

pub spans_fits : {S : Suiting} (U : Type 0) (long high before after : ℕ) (a : Piece) → FitsOr U S long high before after a → Spans U long high a
spans_fits U long high before after a p = record { sized = p.sized; low = p.low; fit = p.fit }

pub spans_more : (U V : Type 0) (m n h k : ℕ) (a : Piece) → (U → V) → m ≤ n → h ≤ k → Spans U m h a → Spans V n k a
spans_more U V m n h k a f up high p = record {
  sized = λ base. (let x = p.sized base in omega (arith, x, up));
  low = λ base. (let x = p.low base in omega (arith, x, high));
  fit = λ base. weaker_fit U V (a base) f (p.fit base);
}

module _ (U : Type 0) (h : ℕ) where
  pub spans_none : Spans U 0 h nothing
  unfolding nothing
  spans_none = record { sized = λ base. omega arith; low = λ base. omega arith; fit = λ base. tt }

  pub spans_one : (d : ℕ) (o : Operation) → d ≤ h → has_operands o ≡ true → Spans U 1 h (one d o)
  unfolding one
  spans_one d o up fit = record {
    sized = λ base. omega arith;
    low = λ base. (let low = narrow_low d in let all : max (narrow d) 0 ≤ h = omega (arith, up, low) in all);
    fit = λ base. (inl fit, tt);
  }

  pub spans_then : (m n : ℕ) (a b : Piece) → Spans U m h a → Spans U n h b → Spans U (m + n) h (a ▸ b)
  unfolding ◌▸◌
  spans_then m n a b p q = record {
    sized = λ base.
        let next = base + length (a base) in
        let long = length-append (a base) (b next) in
        let one = p.sized base in
        let two = q.sized next in
        omega (arith, long, one, two);
    low = λ base.
        let next = base + length (a base) in
        subst (λ k. k ≤ h) (sym (deepest_append (a base) (b next))) (max_most (deepest_of (a base)) (deepest_of (b next)) h (p.low base) (q.low next));
    fit = λ base. both_fit U (a base) (b (base + length (a base))) (p.fit base) (q.fit (base + length (a base)));
  }

pub fills_spans : (n : Needs) (long : ℕ) (a : Piece) → Spans (n.unfit ≡ true) long n.stack a → Fills n long (λ l. l) (λ k. k) (coded a)
unfolding coded
fills_spans n long a p = record {
  sized = λ s. p.sized s.place;
  low = λ s. p.low s.place;
  fit = λ s. p.fit s.place;
  most = λ s. omega arith;
  named = λ s. refl;
  many = λ s k. none_more k;
}

-- ---- ways out and exceptions

module _ (U : Type 0) (h : ℕ) where
  pub jump_spans : (way : Option ℕ) → Spans U 1 h (jump_code way)
  jump_spans None = spans_more U U 0 1 h h nothing (λ u. u) (omega arith) (omega arith) (spans_none U h)
  jump_spans (Some place) = spans_one U h 0 (op.Jump place) (omega arith) refl

  pub leaving_spans : 1 ≤ h → (way : Option ℕ) → Spans U 1 h (leaving_code way)
  leaving_spans up None = spans_more U U 0 1 h h nothing (λ u. u) (omega arith) (omega arith) (spans_none U h)
  leaving_spans up (Some place) = spans_one U h 1 (op.JumpIfNotZero place) up refl

  pub raise_spans : 1 ≤ h → (exceptions : List (List ℕ)) (handled : Option ℕ) (name : Option Identifier) → Spans U 2 h (raise_code exceptions handled name)
  raise_spans up exceptions handled (Some name) = by_number (number_among exceptions name.name)
    where
      by_number : (o : Option ℕ) → Spans U 2 h (raising (pushed o))
      by_number None = spans_more U U 0 2 h h nothing (λ u. u) (omega arith) (omega arith) (spans_none U h)
      by_number (Some k) = spans_then U h 1 1 (one 0 (op.Push (pos k))) (one 1 op.Raise) (spans_one U h 0 (op.Push (pos k)) (omega arith) refl)
          (spans_one U h 1 op.Raise up refl)
  raise_spans up exceptions None None = spans_more U U 0 2 h h nothing (λ u. u) (omega arith) (omega arith) (spans_none U h)
  raise_spans up exceptions (Some word) None =
      spans_then U h 1 1 (one 0 (op.LoadLocal word)) (one 1 op.Raise) (spans_one U h 0 (op.LoadLocal word) (omega arith) refl) (spans_one U h 1 op.Raise up refl)

  -- ---- choices

  test_spans : 3 ≤ h → (word : ℤ) (to : ℕ) → Spans U 4 h (test_code word to)
  test_spans up word to =
      spans_then U h 1 3 (one 1 op.Duplicate) (one 2 (op.Push word) ▸ one 3 op.Equal ▸ one 2 (op.JumpIfNotZero to))
      (spans_one U h 1 op.Duplicate (omega (arith, up)) refl)
      (spans_then U h 1 2 (one 2 (op.Push word)) (one 3 op.Equal ▸ one 2 (op.JumpIfNotZero to)) (spans_one U h 2 (op.Push word) (omega (arith, up)) refl)
      (spans_then U h 1 1 (one 3 op.Equal) (one 2 (op.JumpIfNotZero to)) (spans_one U h 3 op.Equal up refl)
      (spans_one U h 2 (op.JumpIfNotZero to) (omega (arith, up)) refl)))

  tests_spans : 3 ≤ h → (s : Scope) (to : ℕ) (cs : List ExprTree) → Spans U (4 * length cs) h (tests_code s to cs)
  tests_spans up s to [] = spans_more U U 0 (4 * 0) h h nothing (λ u. u) (omega arith) (omega arith) (spans_none U h)
  tests_spans up s to (c ∷ cs) =
      let word = choice_word (static_fault s c) (static_value s c) in
      spans_more U U (4 + 4 * length cs) (4 * suc (length cs)) h h (test_code word to ▸ tests_code s to cs) (λ u. u) (omega arith) (omega arith)
      (spans_then U h 4 (4 * length cs) (test_code word to) (tests_code s to cs) (test_spans up word to) (tests_spans up s to cs))

  pub choices_spans : 3 ≤ h → (s : Scope) (cs : List ExprTree) → Spans U (4 * length cs) h (choices_code s cs)
  unfolding choices_code
  choices_spans up s cs = record {
    sized = λ base. (tests_spans up s (narrow (base + 4 * length cs + 1)) cs).sized base;
    low = λ base. (tests_spans up s (narrow (base + 4 * length cs + 1)) cs).low base;
    fit = λ base. (tests_spans up s (narrow (base + 4 * length cs + 1)) cs).fit base;
  }

  -- ---- turns of loops

  pub null_spans : 2 ≤ h → (t : Turns) → Spans U 3 h (null_code t)
  null_spans up t =
      spans_then U h 1 2 (one 0 (op.LoadLocal (word_of_last t))) (one 1 (op.LoadLocal (word_of_first t)) ▸ one 2 op.Less)
      (spans_one U h 0 (op.LoadLocal (word_of_last t)) (omega arith) refl)
      (spans_then U h 1 1 (one 1 (op.LoadLocal (word_of_first t))) (one 2 op.Less) (spans_one U h 1 (op.LoadLocal (word_of_first t)) (omega (arith, up)) refl)
      (spans_one U h 2 op.Less up refl))

  pub last_spans : 2 ≤ h → (t : Turns) → Spans U 3 h (last_code t)
  last_spans up t =
      spans_then U h 1 2 (one 0 (op.LoadLocal t.counter)) (one 1 (op.LoadLocal t.limit) ▸ one 2 op.Equal)
      (spans_one U h 0 (op.LoadLocal t.counter) (omega arith) refl)
      (spans_then U h 1 1 (one 1 (op.LoadLocal t.limit)) (one 2 op.Equal) (spans_one U h 1 (op.LoadLocal t.limit) (omega (arith, up)) refl)
      (spans_one U h 2 op.Equal up refl))

  next_fit : (reversed : Bool) → has_operands (next_operation reversed) ≡ true
  next_fit true = refl
  next_fit false = refl

  pub next_spans : 2 ≤ h → (t : Turns) → Spans U 4 h (next_code t)
  next_spans up t =
      spans_then U h 1 3 (one 0 (op.LoadLocal t.counter)) (one 1 (op.Push (pos 1)) ▸ one 2 (next_operation t.reversed) ▸ one 1 (op.StoreLocal t.counter))
      (spans_one U h 0 (op.LoadLocal t.counter) (omega arith) refl)
      (spans_then U h 1 2 (one 1 (op.Push (pos 1))) (one 2 (next_operation t.reversed) ▸ one 1 (op.StoreLocal t.counter))
      (spans_one U h 1 (op.Push (pos 1)) (omega (arith, up)) refl)
      (spans_then U h 1 1 (one 2 (next_operation t.reversed)) (one 1 (op.StoreLocal t.counter))
      (spans_one U h 2 (next_operation t.reversed) up (next_fit t.reversed)) (spans_one U h 1 (op.StoreLocal t.counter) (omega (arith, up)) refl)))

-- ---- expressions

module _ (laws : Laws) (v : Visible) (sound : SoundScope v.scope) (covered : HasWhatExpressionsNeed v) where
  pub expr_spans : (d : ℕ) (e : ExprTree) → IsLegalExpression v.scope e → Spans (has_unfit v ≡ true) (20 * expr_size e) (d + peak v.scope e) (expr_code v d e)
  expr_spans d e legal =
      let w = all_work laws.quiet laws.typed laws.spared laws.lie laws.words laws.places v sound covered d e legal in
      let few = w.few in
      spans_more _ (has_unfit v ≡ true) w.long (20 * expr_size e) (d + peak v.scope e) (d + peak v.scope e) (expr_code v d e) (unfit_there v) (omega (arith, few))
      (omega arith) (spans_fits _ w.long (d + peak v.scope e) d (d + width_of v.scope e) (expr_code v d e) w.fits)

-- ---- pieces with operands that an image may not have, and jumps over pieces

module _ (U : Type 0) (h : ℕ) where
  pub spans_load : (d : ℕ) (o : Operation) → d ≤ h → (has_operands o ≡ true) ⊎ U → Spans U 1 h (one d o)
  unfolding one
  spans_load d o up fit = record {
    sized = λ base. omega arith;
    low = λ base. (let low = narrow_low d in let all : max (narrow d) 0 ≤ h = omega (arith, up, low) in all);
    fit = λ base. (fit, tt);
  }

  pub spans_over : (m more d : ℕ) (jump : ℕ → Operation) (a : Piece) → d ≤ h → ((to : ℕ) → has_operands (jump to) ≡ true) → Spans U m h a
      → Spans U (suc m) h (over more d jump a)
  unfolding over
  spans_over m more d jump a up fit p = record {
    sized = λ base. (let few = p.sized (suc base) in omega (arith, few));
    low = λ base.
        let low = narrow_low d in
        max_most (narrow d) (deepest_of (a (suc base))) h (omega (arith, up, low)) (p.low (suc base));
    fit = λ base. (inl (fit _), p.fit (suc base));
  }

pub or_first : (a b : Bool) → (b ≡ true → a ≡ true) → (a || b) ≡ true → a ≡ true
or_first true b f h = refl
or_first false b f h = f h

pub not_true : (b : Bool) → not b ≡ true → b ≡ false
not_true true h = cc
not_true false h = refl
