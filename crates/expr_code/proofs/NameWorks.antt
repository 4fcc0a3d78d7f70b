-- The code of names that are values, and of values that are checked, wherever it stands.
use Rattle.std.proofs.Common.{◌≡◌, ◌<◌, ℕ, ◌+◌, ◌*◌, Bool, true, false, None, Some, refl, sym, ap, ◌∙◌, subst, arith, inl, inr, rules}
use Rattle.std.specs.Prelude.{cond, is_some, nat_eq, pos, ◌⊎◌}
use Rattle.kernel.specs.Laws.{QuietStays}
use Rattle.ada_tree.specs.declared.expression.Identifier.{Identifier}
use Rattle.ada_tree.specs.ExpressionTree as tree
use Rattle.ada_tree.specs.ExpressionTree.{ExprTree, NoSelectors, SelectorTrees}
use Rattle.ada_tree.specs.Size.{expr_size}
use Rattle.image.specs.Rules.{is_block}
use Rattle.image.specs.Sections.{Sections}
use Rattle.image.specs.declared.instruction.Operation.TheVariants as op
use Rattle.types.specs.declared.entity.Role.{Role}
use Rattle.types.specs.declared.entity.Subtype.{Subtype}
use Rattle.types.specs.declared.entity.Value.{Value as Scalar}
use Rattle.types.specs.declared.standing.Standing.TheVariants as standing
use Rattle.types.specs.Bounds.{bounds_of}
use Rattle.types.specs.Entities.{Booleans}
use Rattle.types.specs.Evaluating.{fixed_value}
use Rattle.types.specs.Laws.{ValuesHaveWords}
use Rattle.types.specs.Layouts.{capped, words_of}
use Rattle.types.specs.Scopes.{form_at, number_of}
use Rattle.types.specs.Standings.{conversion_stands, select_all, standing_of, stands_first}
use Rattle.expr_soundness.specs.BoundsLaw.{AllValuesLie, ChecksAreSpared, is_inside}
use Rattle.expr_soundness.specs.Laws.{ExpressionsAreTyped}
use Rattle.expr_soundness.proofs.Expressions.{IsHere}
use Rattle.expr_soundness.proofs.FixedNames.{same_form}
use Rattle.expr_code.specs.Computing.{AlwaysPasses, Computes, ComputesChecked}
use Rattle.expr_code.specs.Emitting.{IsFit, IsLegalExpression, has_numbers}
use Rattle.expr_code.specs.ExpressionCode.{checked_code, object_code, range_check, with_check}
use Rattle.expr_code.specs.Naming.{IsFixed, load_operation, scalar_word}
use Rattle.expr_code.specs.Pieces.{Piece, one, ◌▸◌}
use Rattle.expr_code.specs.Refusing.{HasUnfitObject, checked_peak, peak, words_below}
use Rattle.expr_code.specs.Seeing.{Package, Sees, Suits, library_of, slot_of}
use Rattle.expr_code.specs.declared.visible.Slot.{Slot}
use Rattle.expr_code.specs.Views.{At}
use Rattle.expr_code.specs.declared.visible.Visible.{Visible}
use Rattle.expr_code.proofs.Checking.{always_passes, comes_to_number, fit_legal, passes_inside}
use Rattle.expr_code.proofs.Conversions.{integers, with_argument}
use Rattle.expr_code.proofs.ExpressionWorks.{Works}
use Rattle.expr_code.proofs.FitShapes.{no_block}
use Rattle.expr_code.proofs.Going.{block_words}
use Rattle.expr_code.proofs.Names.{legal_here, loads, stored}
use Rattle.expr_code.proofs.Naming.{computes_block, computes_conversion, computes_fixed, computes_stored}
use Rattle.expr_code.proofs.Passing.{computes_checked, computes_unchecked}
use Rattle.expr_code.proofs.Refusals.{peak_some}
use Rattle.expr_code.proofs.StandingPieces.{Between, Fits, both_stand, fits_load, fits_more, fits_one, fits_then, one_stands, pushes}

-- a value that is known by types and constants alone
pub fixed_works : QuietStays → (v : Visible) (d : ℕ) (first : Identifier) (all : SelectorTrees) (x : Scalar) → IsLegalExpression v.scope (tree.Named first all)
    → fixed_value (standing_of v.scope first all) ≡ Some x → Works v d 1 (tree.Named first all) (one d (op.Push (scalar_word x)))
fixed_works quiet v d first all x legal is =
    let fixed : (g : Package) → IsFixed (Sees g v) first all x = λ g p view sees. (legal_here v.scope p sees.names.agrees first all legal).same ∙ is in
    record {
      long = 1;
      few = omega arith;
      fits = fits_one (Suits v) (d + peak v.scope (tree.Named first all)) d (d + 1) (op.Push (scalar_word x)) (omega arith) (pushes (Suits v) d (scalar_word x));
      computes = λ i from to h g.
          let it = one_stands i from to d (op.Push (scalar_word x)) h in
          subst (λ n. Computes i (library_of g) (Sees g v) from n (tree.Named first all)) (sym it.ends)
          (computes_fixed quiet i (library_of g) (Sees g v) from first all x (fixed g) (d, it.there));
    }

-- ---- values that are checked

pub record WorksChecked (v : Visible) (depth : ℕ) (t : Subtype) (e : ExprTree) (a : Piece) : Type 0 where
  pub long : ℕ
  pub few : long < 20 * expr_size e + 3
  pub fits : Fits v long (depth + checked_peak (peak v.scope e)) depth (depth + 1) a
  pub computes : (i : Sections) (from to : ℕ) → Between i from to a → (g : Package) → ComputesChecked i (library_of g) (Sees g v) from to t e

module _ (quiet : QuietStays) (laws : ExpressionsAreTyped) (v : Visible) (d : ℕ) (t : Subtype) (e : ExprTree) (a : Piece) (fit : IsFit v.scope t e)
    (p : Works v d 1 e a) where
  -- a value that passes wherever there is one
  unchecked_works : ((i : Sections) (g : Package) → AlwaysPasses i (library_of g) (Sees g v) t e) → WorksChecked v d t e a
  unchecked_works passes = record {
    long = p.long;
    few = omega (arith, p.few);
    fits = fits_more (Suits v) p.long p.long (d + peak v.scope e) (d + checked_peak (peak v.scope e)) d (d + 1) a (omega arith) (omega arith) p.fits;
    computes = λ i from to h g. computes_unchecked quiet i (library_of g) (Sees g v) from to t e (p.computes i from to h g) (passes i g);
  }

  checked_fits : Fits v (p.long + (1 + (1 + 1))) (d + checked_peak (peak v.scope e)) d (d + 1) (a ▸ range_check (d + 1) t)
  checked_fits =
      let top = d + checked_peak (peak v.scope e) in
      fits_then (Suits v) p.long (1 + (1 + 1)) top d (d + 1) (d + 1) a (range_check (d + 1) t)
      (fits_more (Suits v) p.long p.long (d + peak v.scope e) top d (d + 1) a (omega arith) (omega arith) p.fits)
      (fits_then (Suits v) 1 (1 + 1) top (d + 1) (d + 1 + 1) (d + 1) (one (d + 1) (op.Push t.first))
      (one (d + 1 + 1) (op.Push t.last) ▸ one (d + 1 + 1 + 1) op.CheckRange)
      (fits_one (Suits v) top (d + 1) (d + 1 + 1) (op.Push t.first) (omega arith) (pushes (Suits v) (d + 1) t.first))
      (fits_then (Suits v) 1 1 top (d + 1 + 1) (d + 1 + 1 + 1) (d + 1) (one (d + 1 + 1) (op.Push t.last)) (one (d + 1 + 1 + 1) op.CheckRange)
      (fits_one (Suits v) top (d + 1 + 1) (d + 1 + 1 + 1) (op.Push t.last) (omega arith) (pushes (Suits v) (d + 1 + 1) t.last))
      (fits_one (Suits v) top (d + 1 + 1 + 1) (d + 1) op.CheckRange (omega arith)
      (record { operands = refl; names = λ i s h. refl; takes = λ i s h. omega arith; leaves = λ i s h. omega arith; stays = refl; is_none = refl }))))

  checked_works : has_numbers (form_at v.scope t.type_number) ≡ true → WorksChecked v d t e (a ▸ range_check (d + 1) t)
  checked_works numbers = record {
    long = p.long + (1 + (1 + 1));
    few = omega (arith, p.few);
    fits = checked_fits;
    computes = λ i from to h g.
        let whole = both_stand i from to a (range_check (d + 1) t) h in
        let mid = whole.mid in
        let first = both_stand i mid to (one (d + 1) (op.Push t.first)) (one (d + 1 + 1) (op.Push t.last) ▸ one (d + 1 + 1 + 1) op.CheckRange) whole.second in
        let last = both_stand i first.mid to (one (d + 1 + 1) (op.Push t.last)) (one (d + 1 + 1 + 1) op.CheckRange) first.second in
        let low = one_stands i mid first.mid (d + 1) (op.Push t.first) first.first in
        let high = one_stands i first.mid last.mid (d + 1 + 1) (op.Push t.last) last.first in
        let check = one_stands i last.mid to (d + 1 + 1 + 1) op.CheckRange last.second in
        subst (λ n. ComputesChecked i (library_of g) (Sees g v) from n t e) (let k : mid + 3 ≡ to = omega (arith, low.ends, high.ends, check.ends) in k)
        (computes_checked quiet i (library_of g) (Sees g v) from mid t e whole.up (p.computes i from mid whole.first g) (comes_to_number laws i v g t e fit numbers) (
          (d + 1, low.there),
          subst (λ n. At i n (op.Push t.last)) (let k : first.mid ≡ mid + 1 = omega (arith, low.ends) in k) (d + 1 + 1, high.there),
          subst (λ n. At i n op.CheckRange) (let k : last.mid ≡ mid + 2 = omega (arith, low.ends, high.ends) in k) (d + 1 + 1 + 1, check.there),
        ));
  }

  -- the check just where the bounds of the expression do not lie inside the subtype, and none of truth values
  module _ (needless : ChecksAreSpared) (all : AllValuesLie) where
    needed_works : has_numbers (form_at v.scope t.type_number) ≡ true → (b : Bool) → is_inside (bounds_of v.scope e) t ≡ b
        → WorksChecked v d t e (with_check b (d + 1) t a)
    needed_works numbers true is = unchecked_works (λ i g. passes_inside needless all i v g t e (fit_legal v.scope t e fit) is)
    needed_works numbers false is = checked_works numbers

    pub numbers_work : has_numbers (form_at v.scope t.type_number) ≡ true → WorksChecked v d t e (checked_code v d t e a)
    numbers_work numbers =
        subst (λ b. WorksChecked v d t e (cond b (with_check (is_inside (bounds_of v.scope e) t) (d + 1) t a) a)) (sym numbers)
        (needed_works numbers (is_inside (bounds_of v.scope e) t) refl)

  pub truths_work : form_at v.scope t.type_number ≡ Some Booleans → WorksChecked v d t e (checked_code v d t e a)
  truths_work form =
      subst (λ b. WorksChecked v d t e (cond b (with_check (is_inside (bounds_of v.scope e) t) (d + 1) t a) a)) (sym (ap has_numbers form))
      (unchecked_works (λ i g. always_passes laws i v g t e fit form))

-- ---- conversions

pub conversion_works : QuietStays → (v : Visible) (d : ℕ) (first : Identifier) (e : ExprTree) (t : Subtype) (a : Piece)
    → stands_first v.scope (number_of v.scope first.name) ≡ standing.Named t → IsLegalExpression v.scope (tree.Named first (with_argument e))
    → WorksChecked v d t e a → Works v d 1 (tree.Named first (with_argument e)) a
conversion_works quiet v d first e t a stands legal p =
    let integral = integers v.scope first e t stands legal in
    let valueless : fixed_value (select_all v.scope (standing.Named t) (with_argument e)) ≡ None =
    ap (λ o. fixed_value (select_all v.scope (conversion_stands t o true) NoSelectors)) integral in
    let below : words_below v.scope (stands_first v.scope (number_of v.scope first.name)) ≡ 0 = ap (words_below v.scope) stands in
    record {
      long = p.long;
      few = omega (arith, p.few);
      fits = fits_more (Suits v) p.long p.long (d + checked_peak (peak v.scope e)) (d + peak v.scope (tree.Named first (with_argument e))) d (d + 1) a (omega arith)
          (omega (arith, below)) p.fits;
      computes = λ i from to h g.
          computes_conversion quiet i (library_of g) (Sees g v) from to first t e
          (λ p view sees. let known = subst (λ w. IsHere v.scope p first.name (with_argument e) w) stands (legal_here v.scope p sees.names.agrees first (with_argument e) legal) in
          (known.same ∙ valueless, known.denotes))
          (λ p view sees. same_form v.scope p sees.names.agrees t.type_number (ap is_some integral) ∙ integral)
          (p.computes i from to h g);
    }

-- ---- objects as a whole

module _ (quiet : QuietStays) (v : Visible) (d : ℕ) (first : Identifier) (laws : ValuesHaveWords) (r : Role) (t : Subtype) (slot : Slot)
    (legal : IsLegalExpression v.scope (tree.Named first NoSelectors)) (stands : stands_first v.scope (number_of v.scope first.name) ≡ standing.Part r t)
    (there : slot_of v first.name ≡ Some slot) where
  abbrev size : ℕ
  size = words_of v.scope t

  abbrev whole : ExprTree
  whole = tree.Named first NoSelectors

  word_works : size ≡ 1 → Works v d 1 whole (one d (load_operation slot.region slot.offset))
  word_works single = record {
    long = 1;
    few = omega arith;
    fits = fits_one (Suits v) (d + peak v.scope whole) d (d + 1) (load_operation slot.region slot.offset) (omega arith)
        (loads v first laws r t slot legal stands there d slot.region refl);
    computes = λ i from to h g.
        let it = one_stands i from to d (load_operation slot.region slot.offset) h in
        subst (λ n. Computes i (library_of g) (Sees g v) from n whole) (sym it.ends)
        (computes_stored quiet i (library_of g) (Sees g v) from slot.offset slot.region whole (stored v first laws r t slot legal stands there 1 single g) (d, it.there));
  }

  unfit : (b : Bool) → is_block (capped size) ≡ b → (is_block (capped size) ≡ true) ⊎ HasUnfitObject v
  unfit true is = inl is
  unfit false is = inr (record {
    name = first.name;
    slot = slot;
    role = r;
    subtype = t;
    there = there;
    stands = stands;
    unfit = no_block v.scope t (capped size) refl is;
  })

  block_works : Works v d size whole (one d (op.Push (pos slot.offset)) ▸ one (d + 1) (op.LoadBlock slot.region (capped size)))
  block_works =
      let top = d + peak v.scope whole in
      let some = peak_some v.scope whole in
      let load = op.LoadBlock slot.region (capped size) in
      record {
        long = 1 + 1;
        few = omega arith;
        fits = fits_then (Suits v) 1 1 top d (d + 1) (d + size) (one d (op.Push (pos slot.offset))) (one (d + 1) load)
            (fits_one (Suits v) top d (d + 1) (op.Push (pos slot.offset)) (omega arith) (pushes (Suits v) d (pos slot.offset)))
            (fits_load (Suits v) top (d + 1) (d + size) load (omega (arith, some)) (unfit (is_block (capped size)) refl)
            (λ block. let many = block_words (capped size) size refl block in record {
              operands = block;
              names = λ i s h. h.region first.name slot there;
              takes = λ i s h. omega arith;
              leaves = λ i s h. omega (arith, many);
              stays = refl;
              is_none = refl;
            }));
        computes = λ i from to h g.
            let both = both_stand i from to (one d (op.Push (pos slot.offset))) (one (d + 1) load) h in
            let push = one_stands i from both.mid d (op.Push (pos slot.offset)) both.first in
            let there_ = one_stands i both.mid to (d + 1) load both.second in
            subst (λ n. Computes i (library_of g) (Sees g v) from n whole) (let k : from + 2 ≡ to = omega (arith, push.ends, there_.ends) in k)
            (computes_block quiet i (library_of g) (Sees g v) from slot.offset (capped size) slot.region whole
            (stored v first laws r t slot legal stands there (capped size) (block_words (capped size) size refl there_.operands) g) (d, push.there)
            (subst (λ n. At i n load) (let k : both.mid ≡ from + 1 = omega (arith, push.ends) in k) (d + 1, there_.there)));
      }

  one_word : (n : ℕ) → nat_eq (capped n) 1 ≡ true → n ≡ 1
  one_word n e = let same : capped n ≡ 1 = search rules in omega (arith, same)

  by_count : (b : Bool) → nat_eq (capped size) 1 ≡ b → Works v d size whole
      (cond b (one d (load_operation slot.region slot.offset)) (one d (op.Push (pos slot.offset)) ▸ one (d + 1) (op.LoadBlock slot.region (capped size))))
  by_count true e =
      let single = one_word size e in
      subst (λ n. Works v d n whole (one d (load_operation slot.region slot.offset))) (sym single) (word_works single)
  by_count false e = block_works

  pub object_works : Works v d size whole (object_code d slot (capped size))
  object_works = by_count (nat_eq (capped size) 1) refl
