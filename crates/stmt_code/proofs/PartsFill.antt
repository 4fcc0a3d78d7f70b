-- How much parts of statements are: how many instructions, how many words of the operand stack and of the frame, and which labels and how many rows there are
-- after them.
use Rattle.std.proofs.Common.{◌≡◌, ℕ, suc, ◌+◌, ◌≤◌, List, [], ◌∷◌, ◌++◌, length, max, true, inl, inr, refl, sym, ap, ◌∙◌, subst, arith, length-append}
use Rattle.std.specs.Prelude.{◌⊎◌}
use Rattle.handlers.specs.declared.rows.Row.{Row}
use Rattle.image.specs.Rules.{has_operands}
use Rattle.image.specs.declared.instruction.Instr.{Instr}
use Rattle.image.specs.declared.instruction.Operation.{Operation}
use Rattle.image.specs.declared.instruction.Operation.TheVariants as op
use Rattle.expr_code.specs.Pieces.{deepest_of, narrow, nothing, one}
use Rattle.expr_code.proofs.Pieces.{deepest_append}
use Rattle.expr_code.proofs.StandingPieces.{FitOr, narrow_low}
use Rattle.part_code.specs.Labels.{with_label}
use Rattle.part_code.specs.Needs.{Needs}
use Rattle.part_code.proofs.Within.{Within}
use Rattle.stmt_code.specs.Drafting.{CodePart, Start, begun, coded, handles, labelled, marked, skipping, takes, ◌▹◌}
use Rattle.stmt_code.specs.StatementCode.{covered, covered_code}

-- It has at most so many instructions, keeps within what is needed, has these labels after it, of those before it, and so many rows of handlers.
pub record Fills (n : Needs) (long : ℕ) (labels : List (List ℕ) → List (List ℕ)) (rows : ℕ → ℕ) (a : CodePart) : Type 0 where
  pub sized : (s : Start) → length (a s).code ≤ long
  pub low : (s : Start) → deepest_of (a s).code ≤ n.stack
  pub fit : (s : Start) → FitOr (n.unfit ≡ true) (a s).code
  pub most : (s : Start) → (a s).most ≤ n.frame
  pub named : (s : Start) → (a s).labels ≡ labels s.labels
  pub many : (s : Start) (k : ℕ) → k + length (a s).rows ≡ rows k

pub none_more : (k : ℕ) → k + 0 ≡ k
none_more k = omega arith

pub max_most : (a b n : ℕ) → a ≤ n → b ≤ n → max a b ≤ n
max_most a b n p q = omega (arith, p, q)

pub both_fit : (U : Type 0) (a b : List Instr) → FitOr U a → FitOr U b → FitOr U (a ++ b)
both_fit U [] b p q = q
both_fit U (x ∷ a) b p q = (p.0, both_fit U a b p.1 q)

pub weaker_fit : (A B : Type 0) (a : List Instr) → (A → B) → FitOr A a → FitOr B a
weaker_fit A B [] f p = tt
weaker_fit A B (x ∷ a) f p = (by_case p.0, weaker_fit A B a f p.1)
  where
    by_case : ((has_operands x.operation ≡ true) ⊎ A) → (has_operands x.operation ≡ true) ⊎ B
    by_case (inl e) = inl e
    by_case (inr u) = inr (f u)

pub fills_none : (n : Needs) → Fills n 0 (λ l. l) (λ k. k) (coded nothing)
unfolding coded nothing
fills_none n = record {
  sized = λ s. omega arith;
  low = λ s. omega arith;
  fit = λ s. tt;
  most = λ s. omega arith;
  named = λ s. refl;
  many = λ s k. none_more k;
}

-- an instruction whose operands are those of an image
pub fills_one : (n : Needs) (d : ℕ) (o : Operation) → d ≤ n.stack → has_operands o ≡ true → Fills n 1 (λ l. l) (λ k. k) (coded (one d o))
unfolding coded one
fills_one n d o up fit = record {
  sized = λ s. omega arith;
  low = λ s. (let low = narrow_low d in let all : max (narrow d) 0 ≤ n.stack = omega (arith, up, low) in all);
  fit = λ s. (inl fit, tt);
  most = λ s. omega arith;
  named = λ s. refl;
  many = λ s k. none_more k;
}

pub fills_takes : (n : Needs) (words : ℕ) → words ≤ n.frame → Fills n 0 (λ l. l) (λ k. k) (takes words)
unfolding takes
fills_takes n words up = record {
  sized = λ s. omega arith;
  low = λ s. omega arith;
  fit = λ s. tt;
  most = λ s. up;
  named = λ s. refl;
  many = λ s k. none_more k;
}

pub fills_handles : (n : Needs) (own : List Row) → Fills n 0 (λ l. l) (λ k. k + length own) (handles own)
unfolding handles
fills_handles n own = record {
  sized = λ s. omega arith;
  low = λ s. omega arith;
  fit = λ s. tt;
  most = λ s. omega arith;
  named = λ s. refl;
  many = λ s k. refl;
}

-- the number on the operand stack, written with a label
pub fills_line : (n : Needs) (text : List ℕ) → 1 ≤ n.stack → Fills n 1 (λ l. with_label l text) (λ k. k) (labelled text (λ k. one 1 (op.PutLine k)))
unfolding labelled one
fills_line n text up = record {
  sized = λ s. omega arith;
  low = λ s. (let low = narrow_low 1 in let all : max (narrow 1) 0 ≤ n.stack = omega (arith, up, low) in all);
  fit = λ s. (inl refl, tt);
  most = λ s. omega arith;
  named = λ s. refl;
  many = λ s k. none_more k;
}

-- ---- putting parts together

pub fills_more : (m n : Needs) (short long : ℕ) (f : List (List ℕ) → List (List ℕ)) (g : ℕ → ℕ) (a : CodePart) → Within m n → short ≤ long
    → Fills m short f g a → Fills n long f g a
fills_more m n short long f g a within up p = record {
  sized = λ s. (let x = p.sized s in omega (arith, x, up));
  low = λ s. (let x = p.low s in let y = within.stack in omega (arith, x, y));
  fit = λ s. weaker_fit (m.unfit ≡ true) (n.unfit ≡ true) (a s).code within.unfit (p.fit s);
  most = λ s. (let x = p.most s in let y = within.frame in omega (arith, x, y));
  named = p.named;
  many = p.many;
}

-- with other names for the labels and rows
pub fills_as : (n : Needs) (long : ℕ) (f p : List (List ℕ) → List (List ℕ)) (g q : ℕ → ℕ) (a : CodePart) → ((l : List (List ℕ)) → f l ≡ p l)
    → ((k : ℕ) → g k ≡ q k) → Fills n long f g a → Fills n long p q a
fills_as n long f p g q a labels rows h = record {
  sized = h.sized;
  low = h.low;
  fit = h.fit;
  most = h.most;
  named = λ s. h.named s ∙ labels s.labels;
  many = λ s k. h.many s k ∙ rows k;
}

module _ (n : Needs) where
  pub fills_both : (x y : ℕ) (f p : List (List ℕ) → List (List ℕ)) (g q : ℕ → ℕ) (a b : CodePart) → Fills n x f g a → Fills n y p q b
      → Fills n (x + y) (λ l. p (f l)) (λ k. q (g k)) (a ▹ b)
  unfolding ◌▹◌
  fills_both x y f p g q a b h j = record {
    sized = λ s.
        let t : Start = record { place = s.place + length (a s).code; labels = (a s).labels } in
        let long = length-append (a s).code (b t).code in
        let one = h.sized s in
        let two = j.sized t in
        omega (arith, long, one, two);
    low = λ s.
        let t : Start = record { place = s.place + length (a s).code; labels = (a s).labels } in
        subst (λ k. k ≤ n.stack) (sym (deepest_append (a s).code (b t).code))
        (max_most (deepest_of (a s).code) (deepest_of (b t).code) n.stack (h.low s) (j.low t));
    fit = λ s.
        let t : Start = record { place = s.place + length (a s).code; labels = (a s).labels } in
        both_fit (n.unfit ≡ true) (a s).code (b t).code (h.fit s) (j.fit t);
    most = λ s.
        let t : Start = record { place = s.place + length (a s).code; labels = (a s).labels } in
        max_most (a s).most (b t).most n.frame (h.most s) (j.most t);
    named = λ s.
        let t : Start = record { place = s.place + length (a s).code; labels = (a s).labels } in
        j.named t ∙ ap p (h.named s);
    many = λ s k.
        let t : Start = record { place = s.place + length (a s).code; labels = (a s).labels } in
        let long = length-append (a s).rows (b t).rows in
        let again : k + length ((a s).rows ++ (b t).rows) ≡ (k + length (a s).rows) + length (b t).rows = omega (arith, long) in
        again ∙ j.many t (k + length (a s).rows) ∙ ap q (h.many s k);
  }

  pub fills_begun : (x : ℕ) (f : List (List ℕ) → List (List ℕ)) (g : ℕ → ℕ) (a : ℕ → CodePart) → ((place : ℕ) → Fills n x f g (a place))
      → Fills n x f g (begun a)
  unfolding begun
  fills_begun x f g a h = record {
    sized = λ s. (h s.place).sized s;
    low = λ s. (h s.place).low s;
    fit = λ s. (h s.place).fit s;
    most = λ s. (h s.place).most s;
    named = λ s. (h s.place).named s;
    many = λ s k. (h s.place).many s k;
  }

  pub fills_skipping : (x : ℕ) (f : List (List ℕ) → List (List ℕ)) (g : ℕ → ℕ) (more d : ℕ) (jump : ℕ → Operation) (a : CodePart) → d ≤ n.stack
      → ((to : ℕ) → has_operands (jump to) ≡ true) → Fills n x f g a → Fills n (suc x) f g (skipping more d jump a)
  unfolding skipping
  fills_skipping x f g more d jump a up fit h = record {
    sized = λ s. (let one = h.sized (record s { place = suc s.place }) in omega (arith, one));
    low = λ s.
        let t : Start = record s { place = suc s.place } in
        let low = narrow_low d in
        max_most (narrow d) (deepest_of (a t).code) n.stack (omega (arith, up, low)) (h.low t);
    fit = λ s. (inl (fit _), h.fit (record s { place = suc s.place }));
    most = λ s. h.most (record s { place = suc s.place });
    named = λ s. h.named (record s { place = suc s.place });
    many = λ s k. h.many (record s { place = suc s.place }) k;
  }

  pub fills_marked : (x : ℕ) (f : List (List ℕ) → List (List ℕ)) (g : ℕ → ℕ) (place : ℕ) (a : CodePart) → Fills n x f g a → Fills n x f g (marked place a)
  unfolding marked
  fills_marked x f g place a h = record { sized = h.sized; low = h.low; fit = h.fit; most = h.most; named = h.named; many = h.many }

  -- statements, a jump, and what stands behind it
  pub fills_covered : (x y : ℕ) (f p : List (List ℕ) → List (List ℕ)) (g q : ℕ → ℕ) (body : CodePart) (handlers : Row → CodePart) → Fills n x f g body
      → ((r : Row) → Fills n y p q (handlers r)) → Fills n (x + suc y) (λ l. p (f l)) (λ k. q (g k)) (covered_code body handlers)
  fills_covered x y f p g q body handlers h j =
      fills_begun (x + suc y) (λ l. p (f l)) (λ k. q (g k)) (λ start. body ▹ begun (λ jump. skipping 0 0 op.Jump (handlers (covered start jump))))
      (λ start.
      fills_both x (suc y) f p g q body (begun (λ jump. skipping 0 0 op.Jump (handlers (covered start jump)))) h
      (fills_begun (suc y) p q (λ jump. skipping 0 0 op.Jump (handlers (covered start jump)))
      (λ jump. fills_skipping y p q 0 0 op.Jump (handlers (covered start jump)) (omega arith) (λ to. refl) (j (covered start jump)))))
