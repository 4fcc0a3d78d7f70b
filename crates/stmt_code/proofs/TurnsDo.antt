-- The instructions of loops over ranges, wherever they stand: what they are, and that they keep the rules of images (RM 5.5).
use Rattle.std.proofs.Common.{◌≡◌, ℕ, suc, ◌<◌, ◌≤◌, Bool, true, false, refl, subst, arith}
use Rattle.std.specs.Prelude.{if◌then◌else◌, pos}
use Rattle.ada_tree.specs.StatementTree.{RangeTree}
use Rattle.image.specs.Sections.{Sections}
use Rattle.image.specs.declared.instruction.Operation.{Operation}
use Rattle.image.specs.declared.instruction.Operation.TheVariants as op
use Rattle.image.specs.declared.subprograms.Subprogram.{Subprogram}
use Rattle.expr_code.specs.ExpressionCode.{expr_code}
use Rattle.expr_code.specs.Pieces.{Piece, one, ◌▸◌}
use Rattle.expr_code.specs.Seeing.{Suits}
use Rattle.expr_code.specs.Views.{At}
use Rattle.expr_code.specs.declared.visible.Visible.{Visible}
use Rattle.expr_code.proofs.ExpressionWorks.{Works}
use Rattle.expr_code.proofs.Flowing.{Changes}
use Rattle.expr_code.proofs.StandingPieces.{Between, Leads, Suiting, both_stand, leads_one, leads_then, one_stands}
use Rattle.part_code.specs.Turns.{next_operation, word_of_first, word_of_last}
use Rattle.part_code.specs.declared.turns.Turns.{Turns}
use Rattle.part_code.proofs.ObjectNames.{less_true}
use Rattle.part_code.proofs.Walking.{behind}
use Rattle.stmt_code.specs.SimpleCode.{bounds_code, last_code, next_code, null_code}

-- ---- where instructions stand

-- an instruction before a piece
pub record OneBefore (i : Sections) (from to d : ℕ) (o : Operation) (rest : Piece) : Type 0 where
  pub there : At i from o
  pub rest_ : Between i (suc from) to rest

pub one_before : (i : Sections) (from to d : ℕ) (o : Operation) (rest : Piece) → Between i from to (one d o ▸ rest) → OneBefore i from to d o rest
one_before i from to d o rest h =
    let both = both_stand i from to (one d o) rest h in
    let it = one_stands i from both.mid d o both.first in
    record { there = (d, it.there); rest_ = subst (λ n. Between i n to rest) it.ends both.second }

module _ (t : Turns) where
  -- ---- the words of a loop

  -- the subprogram has both
  pub record HasWords (i : Sections) (u : Subprogram) : Type 0 where
    pub counter : t.counter < u.locals
    pub limit : t.limit < u.locals

  abbrev IsWord : ℕ → Type 0
  IsWord n = (i : Sections) (u : Subprogram) → HasWords i u → n < u.locals

  either_word : (b : Bool) (n m : ℕ) → IsWord n → IsWord m → IsWord (if b then n else m)
  either_word true n m first second = first
  either_word false n m first second = second

  of_counter : IsWord t.counter
  of_counter i u h = h.counter

  of_limit : IsWord t.limit
  of_limit i u h = h.limit

  of_first : IsWord (word_of_first t)
  of_first = either_word t.reversed t.limit t.counter of_limit of_counter

  of_last : IsWord (word_of_last t)
  of_last = either_word t.reversed t.counter t.limit of_counter of_limit

  -- ---- what instructions change

  module _ (S : Suiting) (has : (i : Sections) (u : Subprogram) → S i u → HasWords i u) where
    loads : (n depth : ℕ) → IsWord n → Changes S (op.LoadLocal n) depth (suc depth)
    loads n depth word = record {
      operands = refl;
      names = λ i u suits. less_true n u.locals (word i u (has i u suits));
      takes = λ i u suits. omega arith;
      leaves = λ i u suits. omega arith;
      stays = refl;
      is_none = refl;
    }

    stores : (n depth : ℕ) → IsWord n → Changes S (op.StoreLocal n) (suc depth) depth
    stores n depth word = record {
      operands = refl;
      names = λ i u suits. less_true n u.locals (word i u (has i u suits));
      takes = λ i u suits. omega arith;
      leaves = λ i u suits. omega arith;
      stays = refl;
      is_none = refl;
    }

    pub leads_stores : Leads S 2 0 (one 2 (op.StoreLocal (word_of_last t)) ▸ one 1 (op.StoreLocal (word_of_first t)))
    leads_stores =
        leads_then S 2 1 0 (one 2 (op.StoreLocal (word_of_last t))) (one 1 (op.StoreLocal (word_of_first t)))
        (leads_one S 2 1 (op.StoreLocal (word_of_last t)) (λ e. stores (word_of_last t) 1 of_last))
        (leads_one S 1 0 (op.StoreLocal (word_of_first t)) (λ e. stores (word_of_first t) 0 of_first))

    pub leads_null : Leads S 0 1 (null_code t)
    leads_null =
        leads_then S 0 1 1 (one 0 (op.LoadLocal (word_of_last t))) (one 1 (op.LoadLocal (word_of_first t)) ▸ one 2 op.Less)
        (leads_one S 0 1 (op.LoadLocal (word_of_last t)) (λ e. loads (word_of_last t) 0 of_last))
        (leads_then S 1 2 1 (one 1 (op.LoadLocal (word_of_first t))) (one 2 op.Less)
        (leads_one S 1 2 (op.LoadLocal (word_of_first t)) (λ e. loads (word_of_first t) 1 of_first))
        (leads_one S 2 1 op.Less
        (λ e. record {
          operands = refl;
          names = λ i u suits. refl;
          takes = λ i u suits. omega arith;
          leaves = λ i u suits. refl;
          stays = refl;
          is_none = refl;
        })))

    pub leads_last : Leads S 0 1 (last_code t)
    leads_last =
        leads_then S 0 1 1 (one 0 (op.LoadLocal t.counter)) (one 1 (op.LoadLocal t.limit) ▸ one 2 op.Equal)
        (leads_one S 0 1 (op.LoadLocal t.counter) (λ e. loads t.counter 0 of_counter))
        (leads_then S 1 2 1 (one 1 (op.LoadLocal t.limit)) (one 2 op.Equal)
        (leads_one S 1 2 (op.LoadLocal t.limit) (λ e. loads t.limit 1 of_limit))
        (leads_one S 2 1 op.Equal
        (λ e. record {
          operands = refl;
          names = λ i u suits. refl;
          takes = λ i u suits. omega arith;
          leaves = λ i u suits. refl;
          stays = refl;
          is_none = refl;
        })))

    counts : (reversed : Bool) → Changes S (next_operation reversed) 2 1
    counts true = record {
      operands = refl;
      names = λ i u suits. refl;
      takes = λ i u suits. omega arith;
      leaves = λ i u suits. refl;
      stays = refl;
      is_none = refl;
    }
    counts false = record {
      operands = refl;
      names = λ i u suits. refl;
      takes = λ i u suits. omega arith;
      leaves = λ i u suits. refl;
      stays = refl;
      is_none = refl;
    }

    pub leads_next : Leads S 0 0 (next_code t)
    leads_next =
        leads_then S 0 1 0 (one 0 (op.LoadLocal t.counter)) (one 1 (op.Push (pos 1)) ▸ one 2 (next_operation t.reversed) ▸ one 1 (op.StoreLocal t.counter))
        (leads_one S 0 1 (op.LoadLocal t.counter) (λ e. loads t.counter 0 of_counter))
        (leads_then S 1 2 0 (one 1 (op.Push (pos 1))) (one 2 (next_operation t.reversed) ▸ one 1 (op.StoreLocal t.counter))
        (leads_one S 1 2 (op.Push (pos 1))
        (λ e. record {
          operands = refl;
          names = λ i u suits. refl;
          takes = λ i u suits. omega arith;
          leaves = λ i u suits. refl;
          stays = refl;
          is_none = refl;
        }))
        (leads_then S 2 1 0 (one 2 (next_operation t.reversed)) (one 1 (op.StoreLocal t.counter))
        (leads_one S 2 1 (next_operation t.reversed) (λ e. counts t.reversed))
        (leads_one S 1 0 (op.StoreLocal t.counter) (λ e. stores t.counter 0 of_counter))))

  -- both bounds, and what stores them
  pub leads_bounds : (v : Visible) (range : RangeTree) → Works v 0 1 range.first (expr_code v 0 range.first)
      → Works v 1 1 range.last (expr_code v 1 range.last)
      → Leads (λ i u. Suits v i u × HasWords i u) 0 0 (bounds_code v range t)
  leads_bounds v range p q =
      let S : Suiting = λ i u. Suits v i u × HasWords i u in
      let store_last = one 2 (op.StoreLocal (word_of_last t)) in
      let store_first = one 1 (op.StoreLocal (word_of_first t)) in
      leads_then S 0 1 0 (expr_code v 0 range.first) (expr_code v 1 range.last ▸ store_last ▸ store_first)
      (record { leads = λ i u from to h suits deep high ends. p.fits.leads.leads i u from to h suits.0 deep high ends })
      (leads_then S 1 2 0 (expr_code v 1 range.last) (store_last ▸ store_first)
      (record { leads = λ i u from to h suits deep high ends. q.fits.leads.leads i u from to h suits.0 deep high ends })
      (leads_stores S (λ i u suits. suits.1)))

  -- ---- which instructions these are

  pub record BoundsStand (i : Sections) (v : Visible) (range : RangeTree) (from to : ℕ) : Type 0 where
    pub middle : ℕ
    pub mid : ℕ
    pub low : from ≤ middle
    pub high : middle ≤ mid
    pub first : Between i from middle (expr_code v 0 range.first)
    pub last : Between i middle mid (expr_code v 1 range.last)
    pub store_last : At i mid (op.StoreLocal (word_of_last t))
    pub store_first : At i (behind 1 mid) (op.StoreLocal (word_of_first t))
    pub ends : to ≡ behind 2 mid

  pub bounds_stand : (i : Sections) (v : Visible) (range : RangeTree) (from to : ℕ) → Between i from to (bounds_code v range t) → BoundsStand i v range from to
  bounds_stand i v range from to h =
      let store_last = one 2 (op.StoreLocal (word_of_last t)) in
      let store_first = one 1 (op.StoreLocal (word_of_first t)) in
      let x = both_stand i from to (expr_code v 0 range.first) (expr_code v 1 range.last ▸ store_last ▸ store_first) h in
      let y = both_stand i x.mid to (expr_code v 1 range.last) (store_last ▸ store_first) x.second in
      let z = one_before i y.mid to 2 (op.StoreLocal (word_of_last t)) store_first y.second in
      let last_one = one_stands i (suc y.mid) to 1 (op.StoreLocal (word_of_first t)) z.rest_ in
      record {
        middle = x.mid;
        mid = y.mid;
        low = x.up;
        high = y.up;
        first = x.first;
        last = y.first;
        store_last = z.there;
        store_first = (1, last_one.there);
        ends = last_one.ends;
      }

  pub record NullStands (i : Sections) (from to : ℕ) : Type 0 where
    pub last : At i from (op.LoadLocal (word_of_last t))
    pub first : At i (behind 1 from) (op.LoadLocal (word_of_first t))
    pub less : At i (behind 2 from) op.Less
    pub ends : to ≡ behind 3 from

  pub null_stands : (i : Sections) (from to : ℕ) → Between i from to (null_code t) → NullStands i from to
  null_stands i from to h =
      let x = one_before i from to 0 (op.LoadLocal (word_of_last t)) (one 1 (op.LoadLocal (word_of_first t)) ▸ one 2 op.Less) h in
      let y = one_before i (suc from) to 1 (op.LoadLocal (word_of_first t)) (one 2 op.Less) x.rest_ in
      let z = one_stands i (suc (suc from)) to 2 op.Less y.rest_ in
      record { last = x.there; first = y.there; less = (2, z.there); ends = z.ends }

  pub record LastStands (i : Sections) (from to : ℕ) : Type 0 where
    pub now : At i from (op.LoadLocal t.counter)
    pub last : At i (behind 1 from) (op.LoadLocal t.limit)
    pub equal : At i (behind 2 from) op.Equal
    pub ends : to ≡ behind 3 from

  pub last_stands : (i : Sections) (from to : ℕ) → Between i from to (last_code t) → LastStands i from to
  last_stands i from to h =
      let x = one_before i from to 0 (op.LoadLocal t.counter) (one 1 (op.LoadLocal t.limit) ▸ one 2 op.Equal) h in
      let y = one_before i (suc from) to 1 (op.LoadLocal t.limit) (one 2 op.Equal) x.rest_ in
      let z = one_stands i (suc (suc from)) to 2 op.Equal y.rest_ in
      record { now = x.there; last = y.there; equal = (2, z.there); ends = z.ends }

  pub record NextStands (i : Sections) (from to : ℕ) : Type 0 where
    pub again : At i from (op.LoadLocal t.counter)
    pub one_ : At i (behind 1 from) (op.Push (pos 1))
    pub computes : At i (behind 2 from) (next_operation t.reversed)
    pub store : At i (behind 3 from) (op.StoreLocal t.counter)
    pub ends : to ≡ behind 4 from

  pub next_stands : (i : Sections) (from to : ℕ) → Between i from to (next_code t) → NextStands i from to
  next_stands i from to h =
      let x = one_before i from to 0 (op.LoadLocal t.counter)
      (one 1 (op.Push (pos 1)) ▸ one 2 (next_operation t.reversed) ▸ one 1 (op.StoreLocal t.counter)) h in
      let y = one_before i (suc from) to 1 (op.Push (pos 1)) (one 2 (next_operation t.reversed) ▸ one 1 (op.StoreLocal t.counter)) x.rest_ in
      let z = one_before i (suc (suc from)) to 2 (next_operation t.reversed) (one 1 (op.StoreLocal t.counter)) y.rest_ in
      let w = one_stands i (behind 3 from) to 1 (op.StoreLocal t.counter) z.rest_ in
      record { again = x.there; one_ = y.there; computes = z.there; store = (1, w.there); ends = w.ends }
