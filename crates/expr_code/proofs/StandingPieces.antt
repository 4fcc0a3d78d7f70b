-- Pieces that stand in an image keep its rules, from one depth of the operand stack to another.
use Rattle.std.proofs.Common.{◌≡◌, ◌≤◌, ℕ, ℤ, suc, ◌+◌, List, [], ◌∷◌, ◌++◌, length, max, true, false, None, Some, refl, sym, ap, ◌∙◌, subst, arith, append_assoc, length-append, inl, inr}
use Rattle.std.specs.Prelude.{Bool, slice_get, ⊤, ◌⊎◌, ◌&&◌}
use Rattle.std.specs.List.{list_all}
use Rattle.image.specs.Sections.{Sections}
use Rattle.image.specs.Operations.{given_by, jump_target, taken_by}
use Rattle.image.specs.Rules.{has_depth, has_operands, is_return, names_things}
use Rattle.image.specs.declared.instruction.Instr.{Instr}
use Rattle.image.specs.declared.instruction.Operation.{Operation}
use Rattle.image.specs.declared.instruction.Operation.TheVariants as op
use Rattle.image.specs.declared.subprograms.Subprogram.{Subprogram}
use Rattle.base.specs.declared.limits.TheConstants.{FRAME_WORDS}
use Rattle.expr_code.specs.Appending.{AllKeep, IsEncodable}
use Rattle.expr_code.specs.Flows.{AreKeptBetween}
use Rattle.expr_code.specs.Pieces.{Piece, deepest_of, narrow, nothing, one, ◌▸◌, over}
use Rattle.expr_code.specs.Refusing.{HasUnfitObject}
use Rattle.expr_code.specs.Seeing.{Suits}
use Rattle.expr_code.specs.declared.visible.Visible.{Visible}
use Rattle.expr_code.proofs.Flowing.{Changes, kept_one, kept_then, widened}
use Rattle.expr_code.proofs.Pieces.{deepest_append}

-- ---- instructions that stand from a place on

-- each of which keeps the limits of images
abbrev pub Stands : Sections → (from : ℕ) → List Instr → Type 0
Stands i from [] = ⊤
Stands i from (x ∷ xs) = (slice_get i.instructions from ≡ Some x) × IsEncodable x × Stands i (suc from) xs

pub stands_front : (i : Sections) (from : ℕ) (a b : List Instr) → Stands i from (a ++ b) → Stands i from a
stands_front i from [] b h = tt
stands_front i from (x ∷ a) b h = (h.0, h.1, stands_front i (suc from) a b h.2)

pub stands_back : (i : Sections) (from : ℕ) (a b : List Instr) → Stands i from (a ++ b) → Stands i (from + length a) b
stands_back i from [] b h = subst (λ n. Stands i n b) (let e : from ≡ from + 0 = omega arith in e) h
stands_back i from (x ∷ a) b h =
    subst (λ n. Stands i n b) (let e : suc from + length a ≡ from + suc (length a) = omega arith in e) (stands_back i (suc from) a b h.2)

get_at : (c : List Instr) (x : Instr) (rest : List Instr) → slice_get (c ++ x ∷ rest) (length c) ≡ Some x
get_at [] x rest = refl
get_at (y ∷ c) x rest = get_at c x rest

-- in an image that holds code from a place on
pub stands_behind : (i : Sections) (c a : List Instr) → AllKeep a
    → ((k : ℕ) (x : Instr) → length c ≤ k → slice_get (c ++ a) k ≡ Some x → slice_get i.instructions k ≡ Some x) → Stands i (length c) a
stands_behind i c [] keep h = tt
stands_behind i c (x ∷ a) keep h =
    let next : length (c ++ x ∷ []) ≡ suc (length c) = let e = length-append c (x ∷ []) in omega (arith, e) in (
      h (length c) x (omega arith) (get_at c x a),
      keep.0,
      subst (λ n. Stands i n a) next
          (stands_behind i (c ++ x ∷ []) a keep.1
          (λ k y le e. h k y (omega (arith, le, next)) (ap (λ l. slice_get l k) (sym (append_assoc c (x ∷ []) a)) ∙ e))),
    )

-- ---- operands that are no greater than an instruction's

pub narrow_low : (n : ℕ) → narrow n ≤ n
unfolding narrow
narrow_low n = omega arith

pub narrow_same : (n : ℕ) → n ≤ 65535 → narrow n ≡ n
unfolding narrow
narrow_same n le = omega (arith, le)

-- what a frame may have is less
pub narrow_frame : (n : ℕ) → narrow n ≤ FRAME_WORDS → narrow n ≡ n
unfolding narrow
narrow_frame n le = omega (arith, le)

-- ---- pieces between two places

pub record Between (i : Sections) (from to : ℕ) (a : Piece) : Type 0 where
  pub there : Stands i from (a from)
  pub ends : to ≡ from + length (a from)
  pub low : to ≤ 65535

-- one piece and the other one behind it
pub record BothStand (i : Sections) (from to : ℕ) (a b : Piece) : Type 0 where
  pub mid : ℕ
  pub first : Between i from mid a
  pub second : Between i mid to b
  pub up : from ≤ mid
  pub on_ : mid ≤ to
  pub deep : deepest_of ((a ▸ b) from) ≡ max (deepest_of (a from)) (deepest_of (b mid))

pub both_stand : (i : Sections) (from to : ℕ) (a b : Piece) → Between i from to (a ▸ b) → BothStand i from to a b
unfolding ◌▸◌
both_stand i from to a b h =
    let mid = from + length (a from) in
    let long = length-append (a from) (b mid) in
    record {
      mid = mid;
      first = record { there = stands_front i from (a from) (b mid) h.there; ends = refl; low = omega (arith, long, h.ends, h.low) };
      second = record { there = stands_back i from (a from) (b mid) h.there; ends = omega (arith, long, h.ends); low = h.low };
      up = omega arith;
      on_ = omega (arith, long, h.ends);
      deep = deepest_append (a from) (b mid);
    }

-- an instruction
pub record OneStands (i : Sections) (from to d : ℕ) (o : Operation) : Type 0 where
  pub there : slice_get i.instructions from ≡ Some (record { depth = d; operation = o })
  pub ends : to ≡ suc from
  pub deep : deepest_of (one d o from) ≡ d
  pub operands : has_operands o ≡ true

pub one_stands : (i : Sections) (from to d : ℕ) (o : Operation) → Between i from to (one d o) → OneStands i from to d o
unfolding one
one_stands i from to d o h =
    let same = narrow_frame d h.there.1.0 in
    record {
      there = h.there.0 ∙ ap (λ n. Some (record { depth = n; operation = o })) same;
      ends = omega (arith, h.ends);
      deep = (let e : max (narrow d) 0 ≡ d = omega (arith, same) in e);
      operands = h.there.1.1;
    }

-- a jump, and the piece that it leads over
pub record OverStands (i : Sections) (from to more d : ℕ) (jump : ℕ → Operation) (a : Piece) : Type 0 where
  pub there : slice_get i.instructions from ≡ Some (record { depth = d; operation = jump (to + more) })
  pub inner : Between i (suc from) to a
  pub frame : narrow d ≤ FRAME_WORDS
  pub up : suc from ≤ to
  pub deep : deepest_of (over more d jump a from) ≡ max d (deepest_of (a (suc from)))

pub over_stands : (i : Sections) (from to more d : ℕ) (jump : ℕ → Operation) (a : Piece) → to + more ≤ 65535 → Between i from to (over more d jump a)
    → OverStands i from to more d jump a
unfolding over
over_stands i from to more d jump a low h =
    let same = narrow_frame d h.there.1.0 in
    let target : suc from + length (a (suc from)) + more ≡ to + more = omega (arith, h.ends) in
    record {
      there = h.there.0 ∙ ap (λ n. Some (record { depth = n; operation = jump (narrow (suc from + length (a (suc from)) + more)) })) same
          ∙ ap (λ k. Some (record { depth = d; operation = jump (narrow k) })) target
          ∙ ap (λ k. Some (record { depth = d; operation = jump k })) (narrow_same (to + more) low);
      inner = record { there = h.there.2; ends = omega (arith, h.ends); low = h.low };
      frame = h.there.1.0;
      up = omega (arith, h.ends);
      deep = ap (λ n. max n (deepest_of (a (suc from)))) same;
    }

pub over_end : (i : Sections) (from to d : ℕ) (jump : ℕ → Operation) (a : Piece) → Between i from to (over 0 d jump a) → OverStands i from to 0 d jump a
over_end i from to d jump a h = over_stands i from to 0 d jump a (let low = h.low in omega (arith, low)) h

-- ---- from one depth to another

-- which subprogram of which image has what a piece names
abbrev pub Suiting : Type 1
Suiting = Sections → Subprogram → Type 0

-- The piece finds so many words on the operand stack, and leaves so many, wherever it stands in a subprogram that suits it, and its instructions keep the rules
-- of images.
pub record Leads (S : Suiting) (before after : ℕ) (a : Piece) : Type 0 where
  pub leads : (i : Sections) (s : Subprogram) (from to : ℕ) → Between i from to a → S i s → deepest_of (a from) ≤ s.stack → after ≤ s.stack
      → has_depth i to after ≡ true → AreKeptBetween i s from to from to before

-- an instruction that changes so much where its operands are those of an image
pub leads_one : (S : Suiting) (d out : ℕ) (o : Operation) → (has_operands o ≡ true → Changes S o d out) → Leads S d out (one d o)
leads_one S d out o changes = record {
  leads = λ i s from to h suits deep high ends.
      let it = one_stands i from to d o h in
      let c = changes it.operands in
      subst (λ n. AreKeptBetween i s from n from n d) (sym it.ends)
      (kept_one i s from (suc from) from d out o it.there (omega (arith, deep, it.deep)) high c.operands (c.names i s suits) (c.takes i s suits)
      (c.leaves i s suits) c.is_none
      (λ e. ap (λ n. has_depth i n out) (sym it.ends) ∙ ends) (λ n target. absurd (none_some n (sym c.stays ∙ target))));
}
  where
    none_some : (n : ℕ) → None ≡ Some n → ⊥
    none_some n e = cc

pub leads_then : (S : Suiting) (x y z : ℕ) (a b : Piece) → Leads S x y a → Leads S y z b → Leads S x z (a ▸ b)
leads_then S x y z a b p q = record {
  leads = λ i s from to h suits deep high ends.
      let it = both_stand i from to a b h in
      let rest = q.leads i s it.mid to it.second suits (omega (arith, it.deep, deep)) high ends in
      let first = p.leads i s from it.mid it.first suits (omega (arith, it.deep, deep)) rest.shallow rest.begins in
      kept_then i s from to from it.mid to x y (widened i s from it.mid from to from it.mid x (omega arith) it.on_ first)
      (widened i s it.mid to from to it.mid to y it.up (omega arith) rest);
}

-- a number, pushed
pub pushes : (S : Suiting) (d : ℕ) (z : ℤ) → Changes S (op.Push z) d (d + 1)
pushes S d z = record { operands = refl; names = λ i s h. refl; takes = λ i s h. omega arith; leaves = λ i s h. omega arith; stays = refl; is_none = refl }

-- ---- jumps

-- a jump on the word on top, which it takes
pub record IsTest (jump : ℕ → Operation) : Type 0 where
  pub operands : (to : ℕ) → has_operands (jump to) ≡ true
  pub names : (i : Sections) (s : Subprogram) (to : ℕ) → names_things i s (jump to) ≡ true
  pub takes : (i : Sections) (s : Subprogram) (to : ℕ) → taken_by i s.results (jump to) ≡ 1
  pub gives : (i : Sections) (to : ℕ) → given_by i (jump to) ≡ 0
  pub is_none : (to : ℕ) → is_return (jump to) ≡ false
  pub target : (to a : ℕ) → jump_target (jump to) ≡ Some a → a ≡ to

pub zero_test : IsTest op.JumpIfZero
zero_test = record { operands = λ to. refl; names = λ i s to. refl; takes = λ i s to. refl; gives = λ i to. refl; is_none = λ to. refl; target = λ to a e. cc }

pub one_test : IsTest op.JumpIfNotZero
one_test = record { operands = λ to. refl; names = λ i s to. refl; takes = λ i s to. refl; gives = λ i to. refl; is_none = λ to. refl; target = λ to a e. cc }

module _ (i : Sections) (s : Subprogram) (low high place d to : ℕ) where
  test_kept : (jump : ℕ → Operation) → IsTest jump → slice_get i.instructions place ≡ Some (record { depth = d + 1; operation = jump to }) → d + 1 ≤ s.stack
      → has_depth i (suc place) d ≡ true → has_depth i to d ≡ true → low ≤ to → to ≤ high → AreKeptBetween i s low high place (suc place) (d + 1)
  test_kept jump t there shallow next at down up =
      let takes = t.takes i s to in
      let gives = t.gives i to in
      kept_one i s low high place (d + 1) d (jump to) there shallow (omega (arith, shallow)) (t.operands to) (t.names i s to) (omega (arith, takes))
      (omega (arith, takes, gives)) (t.is_none to) (λ e. next)
      (λ a e. let same = t.target to a e in (omega (arith, same, down), omega (arith, same, up), ap (λ n. has_depth i n d) same ∙ at))

  jump_kept : slice_get i.instructions place ≡ Some (record { depth = d; operation = op.Jump to }) → d ≤ s.stack
      → has_depth i to d ≡ true → low ≤ to → to ≤ high → AreKeptBetween i s low high place (suc place) d
  jump_kept there shallow at down up =
      kept_one i s low high place d d (op.Jump to) there shallow shallow refl refl (omega arith) (omega arith) refl (λ e. absurd cc)
      (λ a e. let same : a ≡ to = target a e in (omega (arith, same, down), omega (arith, same, up), ap (λ n. has_depth i n d) same ∙ at))
    where
      target : (a : ℕ) → Some to ≡ Some a → a ≡ to
      target a e = cc

-- a jump over a piece that leaves the words below the condition as they are
pub leads_over : (S : Suiting) (d : ℕ) (jump : ℕ → Operation) (a : Piece) → IsTest jump → Leads S d d a → Leads S (d + 1) d (over 0 (d + 1) jump a)
leads_over S d jump a t p = record {
  leads = λ i s from to h suits deep high ends.
      let it = over_end i from to (d + 1) jump a h in
      let end : to + 0 ≡ to = omega arith in
      let inner = p.leads i s (suc from) to it.inner suits (omega (arith, it.deep, deep)) high ends in
      let test = test_kept i s from to from d (to + 0) jump t it.there (omega (arith, it.deep, deep)) inner.begins (ap (λ m. has_depth i m d) end ∙ ends)
      (omega (arith, it.up)) (omega arith) in
      kept_then i s from to from (suc from) to (d + 1) d test (widened i s (suc from) to from to (suc from) to d (omega arith) (omega arith) inner);
}

-- one piece, or another one in its place, from which a jump at such a depth leads on, which is that of the end wherever a frame has so many words
pub leads_fork : (S : Suiting) (d e k : ℕ) (x r : Piece) → (narrow k ≤ FRAME_WORDS → k ≡ e) → Leads S d e x → Leads S d e r
    → Leads S (d + 1) e (over 1 (d + 1) op.JumpIfZero x ▸ over 0 k op.Jump r)
leads_fork S d e k x r same p q = record {
  leads = λ i s from to h suits deep high ends.
      let both = both_stand i from to (over 1 (d + 1) op.JumpIfZero x) (over 0 k op.Jump r) h in
      let stop = both.mid in
      let two = over_end i stop to k op.Jump r both.second in
      let is = same two.frame in
      let one = over_stands i from stop 1 (d + 1) op.JumpIfZero x (let up = two.up in let low = h.low in omega (arith, up, low)) both.first in
      let next : stop + 1 ≡ suc stop = omega arith in
      let end : to + 0 ≡ to = omega arith in
      let in_rest = q.leads i s (suc stop) to two.inner suits (omega (arith, both.deep, two.deep, deep)) high ends in
      let closing = jump_kept i s from to stop e (to + 0) (two.there ∙ ap (λ n. Some (record { depth = n; operation = op.Jump (to + 0) })) is) high (ap (λ n. has_depth i n e) end ∙ ends) (omega (arith, one.up, two.up)) (omega arith) in
      let in_value = p.leads i s (suc from) stop one.inner suits (omega (arith, both.deep, one.deep, deep)) high closing.begins in
      let test = test_kept i s from to from d (stop + 1) op.JumpIfZero zero_test one.there (omega (arith, both.deep, one.deep, deep)) in_value.begins
      (ap (λ n. has_depth i n d) next ∙ in_rest.begins) (omega (arith, one.up)) (omega (arith, two.up)) in
      kept_then i s from to from (suc from) to (d + 1) d test
      (kept_then i s from to (suc from) stop to d e (widened i s (suc from) stop from to (suc from) stop d (omega arith) (omega (arith, two.up)) in_value)
      (kept_then i s from to stop (suc stop) to e d closing
      (widened i s (suc stop) to from to (suc stop) to d (omega (arith, one.up)) (omega arith) in_rest)));
}

-- ---- how long, how high the operand stack gets besides, and which operands an image may not have

-- each instruction has operands that an image may have, or this is so
abbrev pub FitOr : Type 0 → List Instr → Type 0
FitOr Unfit [] = ⊤
FitOr Unfit (x ∷ xs) = ((has_operands x.operation ≡ true) ⊎ Unfit) × FitOr Unfit xs

fit_append : (Unfit : Type 0) (a b : List Instr) → FitOr Unfit a → FitOr Unfit b → FitOr Unfit (a ++ b)
fit_append Unfit [] b p q = q
fit_append Unfit (x ∷ a) b p q = (p.0, fit_append Unfit a b p.1 q)

fit_weaker : (A B : Type 0) (a : List Instr) → (A → B) → FitOr A a → FitOr B a
fit_weaker A B [] f p = tt
fit_weaker A B (x ∷ a) f p = (by_case p.0, fit_weaker A B a f p.1)
  where
    by_case : ((has_operands x.operation ≡ true) ⊎ A) → (has_operands x.operation ≡ true) ⊎ B
    by_case (inl e) = inl e
    by_case (inr u) = inr (f u)

-- one of them has not
pub one_unfit : (Unfit : Type 0) (a : List Instr) → FitOr Unfit a → list_all (λ x. has_operands x.operation) a ≡ false → Unfit
one_unfit Unfit [] p e = absurd cc
one_unfit Unfit (x ∷ a) p e =
    by_test (has_operands x.operation) refl p.0 (λ is. one_unfit Unfit a p.1 (ap (λ c. c && list_all (λ y. has_operands y.operation) a) (sym is) ∙ e))
  where
    by_test : (b : Bool) → has_operands x.operation ≡ b → ((has_operands x.operation ≡ true) ⊎ Unfit) → (has_operands x.operation ≡ true → Unfit) → Unfit
    by_test b is (inr unfit) rest = unfit
    by_test true is (inl fit) rest = rest is
    by_test false is (inl fit) rest = (let no : false ≡ true = sym is ∙ fit in absurd cc)

pub record FitsOr (Unfit : Type 0) (S : Suiting) (long high before after : ℕ) (a : Piece) : Type 0 where
  pub sized : (base : ℕ) → length (a base) ≤ long
  pub low : (base : ℕ) → deepest_of (a base) ≤ high
  pub fit : (base : ℕ) → FitOr Unfit (a base)
  pub leads : Leads S before after a

-- a piece that fits, or an object that is visible has no words or too many
abbrev pub Fits : (v : Visible) (long high before after : ℕ) → Piece → Type 0
Fits v = FitsOr (HasUnfitObject v) (Suits v)

pub fits_or : (Unfit : Type 0) (v : Visible) (m h x y : ℕ) (a : Piece) → (HasUnfitObject v → Unfit) → Fits v m h x y a → FitsOr Unfit (Suits v) m h x y a
fits_or Unfit v m h x y a f p = record { sized = p.sized; low = p.low; fit = λ base. fit_weaker (HasUnfitObject v) Unfit (a base) f (p.fit base); leads = p.leads }

-- a piece in subprograms that have more, or with more that is unfit
pub fits_under : {Unfit : Type 0} (S T : Suiting) (m h x y : ℕ) (a : Piece) → ((i : Sections) (s : Subprogram) → T i s → S i s) → FitsOr Unfit S m h x y a
    → FitsOr Unfit T m h x y a
fits_under S T m h x y a f p = record {
  sized = p.sized;
  low = p.low;
  fit = p.fit;
  leads = record { leads = λ i s from to at suits deep high ends. p.leads.leads i s from to at (f i s suits) deep high ends };
}

pub fits_unless : (A B : Type 0) (S : Suiting) (m h x y : ℕ) (a : Piece) → (A → B) → FitsOr A S m h x y a → FitsOr B S m h x y a
fits_unless A B S m h x y a f p = record { sized = p.sized; low = p.low; fit = λ base. fit_weaker A B (a base) f (p.fit base); leads = p.leads }

pub fits_more : {Unfit : Type 0} (S : Suiting) (m n h k x y : ℕ) (a : Piece) → m ≤ n → h ≤ k → FitsOr Unfit S m h x y a → FitsOr Unfit S n k x y a
fits_more {Unfit} S m n h k x y a more up p = record {
  sized = λ base. (let few = p.sized base in omega (arith, few, more));
  low = λ base. (let low = p.low base in omega (arith, low, up));
  fit = p.fit;
  leads = p.leads;
}

pub fits_none : {Unfit : Type 0} (S : Suiting) (h d : ℕ) → FitsOr Unfit S 0 h d d nothing
unfolding nothing
fits_none {Unfit} S h d = record {
  sized = λ base. omega arith;
  low = λ base. omega arith;
  fit = λ base. tt;
  leads = record {
    leads = λ i s from to h suits deep high ends. record {
      begins = ap (λ n. has_depth i n d) (let e : from ≡ to = omega (arith, h.ends) in e) ∙ ends;
      shallow = high;
      each = λ k x le less there. absurd (omega (arith, le, less, h.ends));
    };
  };
}

pub fits_load : {Unfit : Type 0} (S : Suiting) (h d out : ℕ) (o : Operation) → d ≤ h → ((has_operands o ≡ true) ⊎ Unfit)
    → (has_operands o ≡ true → Changes S o d out) → FitsOr Unfit S 1 h d out (one d o)
unfolding one
fits_load {Unfit} S h d out o up fit c = record {
  sized = λ base. omega arith;
  low = λ base. (let narrow_is = narrow_low d in let low : max (narrow d) 0 ≤ h = omega (arith, up, narrow_is) in low);
  fit = λ base. (fit, tt);
  leads = leads_one S d out o c;
}

pub fits_one : {Unfit : Type 0} (S : Suiting) (h d out : ℕ) (o : Operation) → d ≤ h → Changes S o d out → FitsOr Unfit S 1 h d out (one d o)
fits_one {Unfit} S h d out o up c = fits_load S h d out o up (inl c.operands) (λ e. c)

at_most : (a b n : ℕ) → a ≤ n → b ≤ n → max a b ≤ n
at_most a b n p q = omega (arith, p, q)

pub fits_then : {Unfit : Type 0} (S : Suiting) (m n h x y z : ℕ) (a b : Piece) → FitsOr Unfit S m h x y a → FitsOr Unfit S n h y z b → FitsOr Unfit S (m + n) h x z (a ▸ b)
unfolding ◌▸◌
fits_then {Unfit} S m n h x y z a b p q = record {
  sized = λ base.
      let long = length-append (a base) (b (base + length (a base))) in
      let first = p.sized base in
      let second = q.sized (base + length (a base)) in
      omega (arith, long, first, second);
  low = λ base.
      subst (λ k. k ≤ h) (sym (deepest_append (a base) (b (base + length (a base)))))
      (at_most (deepest_of (a base)) (deepest_of (b (base + length (a base)))) h (p.low base) (q.low (base + length (a base))));
  fit = λ base. fit_append Unfit (a base) (b (base + length (a base))) (p.fit base) (q.fit (base + length (a base)));
  leads = leads_then S x y z a b p.leads q.leads;
}

narrow_most : (d h : ℕ) → d ≤ h → narrow d ≤ h
narrow_most d h up = let low = narrow_low d in omega (arith, up, low)

pub fits_over : {Unfit : Type 0} (S : Suiting) (n h d : ℕ) (jump : ℕ → Operation) (a : Piece) → IsTest jump → d + 1 ≤ h → FitsOr Unfit S n h d d a
    → FitsOr Unfit S (suc n) h (d + 1) d (over 0 (d + 1) jump a)
unfolding over
fits_over {Unfit} S n h d jump a t up p = record {
  sized = λ base. (let few = p.sized (suc base) in omega (arith, few));
  low = λ base. at_most (narrow (d + 1)) (deepest_of (a (suc base))) h (narrow_most (d + 1) h up) (p.low (suc base));
  fit = λ base. (inl (t.operands _), p.fit (suc base));
  leads = leads_over S d jump a t p.leads;
}

pub fits_fork : {Unfit : Type 0} (S : Suiting) (m n h d e k : ℕ) (x r : Piece) → d + 1 ≤ h → k ≤ h → (narrow k ≤ FRAME_WORDS → k ≡ e) → FitsOr Unfit S m h d e x → FitsOr Unfit S n h d e r
    → FitsOr Unfit S (m + n + 2) h (d + 1) e (over 1 (d + 1) op.JumpIfZero x ▸ over 0 k op.Jump r)
unfolding over ◌▸◌
fits_fork {Unfit} S m n h d e k x r up top same p q = record {
  sized = λ base.
      let stop = base + suc (length (x (suc base))) in
      let jump : Instr = record { depth = narrow k; operation = op.Jump (narrow (suc stop + length (r (suc stop)) + 0)) } in
      let long = length-append (x (suc base)) (jump ∷ r (suc stop)) in
      let first = p.sized (suc base) in
      let second = q.sized (suc stop) in
      omega (arith, long, first, second);
  low = λ base.
      let stop = base + suc (length (x (suc base))) in
      let jump : Instr = record { depth = narrow k; operation = op.Jump (narrow (suc stop + length (r (suc stop)) + 0)) } in
      at_most (narrow (d + 1)) (deepest_of (x (suc base) ++ jump ∷ r (suc stop))) h (narrow_most (d + 1) h up)
      (subst (λ k. k ≤ h) (sym (deepest_append (x (suc base)) (jump ∷ r (suc stop))))
      (at_most (deepest_of (x (suc base))) (max (narrow k) (deepest_of (r (suc stop)))) h (p.low (suc base))
      (at_most (narrow k) (deepest_of (r (suc stop))) h (narrow_most k h top) (q.low (suc stop)))));
  fit = λ base.
      let stop = base + suc (length (x (suc base))) in
      let jump : Instr = record { depth = narrow k; operation = op.Jump (narrow (suc stop + length (r (suc stop)) + 0)) } in
      (inl refl, fit_append Unfit (x (suc base)) (jump ∷ r (suc stop)) (p.fit (suc base)) (inl refl, q.fit (suc stop)));
  leads = leads_fork S d e k x r same p.leads q.leads;
}
