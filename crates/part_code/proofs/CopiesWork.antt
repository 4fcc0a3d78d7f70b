-- The code of what is copied back, wherever it stands (RM 6.4.1).
use Rattle.std.proofs.Common.{◌≡◌, ◌≤◌, ℕ, suc, ◌+◌, ◌*◌, ◌⊎◌, inl, inr, ℤ, List, [], ◌∷◌, length, Bool, true, false, refl, sym, ap, ◌∙◌, subst, arith}
use Rattle.std.specs.Prelude.{cond, is_some, nat_eq, pos}
use Rattle.std.specs.List.{All}
use Rattle.ada_tree.specs.Size.{total}
use Rattle.image.specs.Rules.{has_operands, is_block}
use Rattle.image.specs.Sections.{Sections}
use Rattle.image.specs.declared.instruction.Operation.{Operation}
use Rattle.image.specs.declared.instruction.Operation.TheVariants as op
use Rattle.image.specs.declared.instruction.Region.{Region}
use Rattle.kernel.specs.Laws.{QuietStays}
use Rattle.types.specs.declared.entity.Subtype.{Subtype}
use Rattle.types.specs.Laws.{ValuesHaveWords}
use Rattle.types.specs.Layouts.{words_of}
use Rattle.types.specs.Scopes.{form_at}
use Rattle.expr_soundness.specs.Laws.{AgreementIsKept}
use Rattle.expr_soundness.specs.meaning.specs.Programs.{Program}
use Rattle.expr_code.specs.Coming.{on}
use Rattle.expr_code.specs.Pieces.{Piece, nothing, one, ◌▸◌}
use Rattle.expr_code.specs.Seeing.{Package}
use Rattle.expr_code.specs.Views.{At}
use Rattle.expr_code.specs.declared.visible.Visible.{Visible}
use Rattle.expr_code.proofs.FitShapes.{no_block}
use Rattle.expr_code.proofs.Flowing.{Changes}
use Rattle.expr_code.proofs.Going.{block_words}
use Rattle.expr_code.proofs.StandingPieces.{Between, both_stand, fits_load, fits_more, fits_none, fits_then, one_stands}
use Rattle.part_code.specs.Copying.{AreCopies}
use Rattle.part_code.specs.Emitting.{stored_at}
use Rattle.part_code.specs.Layout.{IsLaidOut}
use Rattle.part_code.specs.Needs.{IsPartFit, check_words, copies_needs, copy_needs, has_unfit}
use Rattle.part_code.specs.PartCode.{copies_code, copy_code, given_words, range_code, words_in}
use Rattle.part_code.specs.Passing.{copied_width}
use Rattle.part_code.specs.Resting.{Framed}
use Rattle.part_code.specs.Suiting.{SuitsStatements}
use Rattle.part_code.specs.declared.call.Destination.{Destination}
use Rattle.part_code.proofs.CopyingBack.{ChecksValue, copies_by, copies_more}
use Rattle.part_code.proofs.PieceNeeds.{Keeps, keeps_within}
use Rattle.part_code.proofs.RangeWorks.{RangeWorks, range_works, taken_form}
use Rattle.part_code.proofs.StoresAt.{stores_at, writes}
use Rattle.part_code.proofs.StoringCode.{StoresIn, block_in, word_in}
use Rattle.part_code.proofs.Within.{in_left, in_right}

none_stand : (i : Sections) (from to : ℕ) → Between i from to nothing → from ≡ to
unfolding nothing
none_stand i from to h = omega (arith, h.ends)

-- ---- what stores

-- the words that it stores are those of an image
pub stored_block : (r : Region) (n : ℕ) → has_operands (stored_at r n) ≡ true → is_block n ≡ true
stored_block r n = by_count (stores_at r n).is
  where
    by_count : ((n ≡ 1) × (op.StoreIndexed r ≡ stored_at r n)) ⊎ (op.StoreBlock r n ≡ stored_at r n) → has_operands (stored_at r n) ≡ true → is_block n ≡ true
    by_count (inl p) e = ap is_block p.0
    by_count (inr p) e = ap has_operands p ∙ e

pub stored_fit : (v : Visible) (r : Region) (t : Subtype) (U : Type 0) → (is_block (words_in v.scope t) ≡ false → U)
    → (has_operands (stored_at r (words_in v.scope t)) ≡ true) ⊎ U
stored_fit v r t U unfit = by_count (nat_eq n 1)
  where
    n : ℕ
    n = words_in v.scope t

    by_block : (b : Bool) → is_block n ≡ b → (is_block n ≡ true) ⊎ U
    by_block true e = inl e
    by_block false e = inr (unfit e)

    by_count : (b : Bool) → (has_operands (cond b (op.StoreIndexed r) (op.StoreBlock r n)) ≡ true) ⊎ U
    by_count true = inl refl
    by_count false = by_block (is_block n) refl

-- ---- one copy

-- what has no words, or too many, is unfit
unfit_words : (v : Visible) (x : Destination) → IsPartFit v x → is_block (words_in v.scope x.subtype) ≡ false → has_unfit v ≡ true
unfit_words v x fit e = fit.unfit (no_block v.scope x.subtype (words_in v.scope x.subtype) refl e)

known_form : (v : Visible) (x : Destination) → IsPartFit v x → is_some (form_at v.scope x.subtype.type_number) ≡ true
known_form v x fit = taken_form v.scope x.subtype fit.taken

module _ (kept : AgreementIsKept) (sized : ValuesHaveWords) (quiet : QuietStays) (v : Visible) (x : Destination) (fit : IsPartFit v x) (h rest : ℕ)
    (high : h ≡ rest + suc (words_in v.scope x.subtype)) where
  abbrev n : ℕ
  n = words_in v.scope x.subtype

  abbrev store : Operation
  store = stored_at x.region n

  changes : has_operands store ≡ true → Changes (SuitsStatements v) store h rest
  changes e = by_count (stores_at x.region n).is
    where
      by_count : ((n ≡ 1) × (op.StoreIndexed x.region ≡ store)) ⊎ (op.StoreBlock x.region n ≡ store) → Changes (SuitsStatements v) store h rest
      by_count (inl p) = subst (λ o. Changes (SuitsStatements v) o h rest) p.1 (record {
        operands = refl;
        names = λ i s suits. writes v i s x.region suits fit.there;
        takes = λ i s suits. (let one = p.0 in omega (arith, one, high));
        leaves = λ i s suits. (let one = p.0 in omega (arith, one, high));
        stays = refl;
        is_none = refl;
      })
      by_count (inr p) = subst (λ o. Changes (SuitsStatements v) o h rest) p (record {
        operands = ap has_operands p ∙ e;
        names = λ i s suits. writes v i s x.region suits fit.there;
        takes = λ i s suits. omega (arith, high);
        leaves = λ i s suits. omega (arith, high);
        stays = refl;
        is_none = refl;
      })

  check : RangeWorks (has_unfit v ≡ true) (SuitsStatements v) quiet v h x.subtype (range_code v.scope h x.subtype)
  check = range_works (has_unfit v ≡ true) (SuitsStatements v) quiet v h x.subtype (omega (arith, high)) (known_form v x fit)

  pub copy_keeps : (most : ℕ) → h ≤ most → Keeps (copy_needs v most x) (SuitsStatements v) 4 h rest (copy_code v.scope h x)
  copy_keeps most up =
      let top = most + check_words (form_at v.scope x.subtype.type_number) in
      let S = SuitsStatements v in
      fits_then S 3 1 top h h rest (range_code v.scope h x.subtype) (one h store)
      (fits_more S 3 3 (h + check_words (form_at v.scope x.subtype.type_number)) top h h (range_code v.scope h x.subtype) (omega arith) (omega (arith, up)) check.fits)
      (fits_load S top h rest store (omega (arith, up)) (stored_fit v x.region x.subtype (has_unfit v ≡ true) (unfit_words v x fit)) changes)

  -- the words that an image has are all words
  pub copy_words : (i : Sections) (from to : ℕ) → Between i from to (copy_code v.scope h x) → words_of v.scope x.subtype ≡ n
  copy_words i from to at =
      let two = both_stand i from to (range_code v.scope h x.subtype) (one h store) at in
      let it = one_stands i two.mid to h store two.second in
      block_words n (words_of v.scope x.subtype) refl (stored_block x.region n it.operands)

  pub copies_one : (i : Sections) (from to : ℕ) → Between i from to (copy_code v.scope h x) → (program : Program) (g : Package) (f : Framed) → f.names ≡ v
      → IsLaidOut g f → (xs : List Destination) (end : ℕ) → AreCopies i program g f to end xs → AreCopies i program g f from end (x ∷ xs)
  copies_one i from to at program g f names laid xs end others =
      let two = both_stand i from to (range_code v.scope h x.subtype) (one h store) at in
      let mid = two.mid in
      let it = one_stands i mid to h store two.second in
      let checks = subst (λ y. ChecksValue quiet i y.scope x.subtype x.subtype from mid) (sym names) (check.checks i from mid two.first g x.subtype refl) in
      copies_more i program g f x xs from (suc mid) end
      (copies_by kept sized quiet i program g f laid x from mid two.up checks (stores mid (h, it.there) (copy_words i from to at)))
      (subst (λ k. AreCopies i program g f k end xs) it.ends others)
    where
      stores : (mid : ℕ) → At i mid store → words_of v.scope x.subtype ≡ n → (offset : ℕ) (base : List ℤ)
          → StoresIn i x.region mid offset (words_of f.names.scope x.subtype) base (on (pos offset ∷ base))
      stores mid there same offset base =
          subst (λ k. StoresIn i x.region mid offset k base (on (pos offset ∷ base))) (sym same ∙ ap (λ y. words_of y.scope x.subtype) (sym names))
          (by_count (stores_at x.region n).is)
        where
          by_count : ((n ≡ 1) × (op.StoreIndexed x.region ≡ store)) ⊎ (op.StoreBlock x.region n ≡ store)
              → StoresIn i x.region mid offset n base (on (pos offset ∷ base))
          by_count (inl p) =
              subst (λ k. StoresIn i x.region mid offset k base (on (pos offset ∷ base))) (sym p.0)
              (word_in quiet i x.region mid offset base (subst (At i mid) (sym p.1) there))
          by_count (inr p) = block_in quiet i x.region mid offset base n (subst (At i mid) (sym p) there)

-- ---- all

module _ (v : Visible) where
  low_words : (xs : List Destination) → total (given_words v.scope) xs ≤ total (copied_width v.scope) xs
  low_words [] = omega arith
  low_words (x ∷ xs) = let rest = low_words xs in omega (arith, rest)

  pub record CopiesWork (ds : List Destination) (a : Piece) : Type 0 where
    pub keeps : Keeps (copies_needs v ds) (SuitsStatements v) (4 * length ds) (total (given_words v.scope) ds) 0 a
    pub words : (i : Sections) (from to : ℕ) → Between i from to a → total (copied_width v.scope) ds ≡ total (given_words v.scope) ds
    pub copies : (i : Sections) (from to : ℕ) → Between i from to a → (program : Program) (g : Package) (f : Framed) → f.names ≡ v → IsLaidOut g f
        → AreCopies i program g f from to ds

  module _ (kept : AgreementIsKept) (sized : ValuesHaveWords) (quiet : QuietStays) where
    pub copies_work : (ds : List Destination) → All (IsPartFit v) ds → CopiesWork ds (copies_code v.scope ds)
    copies_work [] fits = record {
      keeps = fits_none (SuitsStatements v) 0 0;
      words = λ i from to at. refl;
      copies = λ i from to at program g f names laid. none_stand i from to at;
    }
    copies_work (x ∷ xs) fits =
        let rest = copies_work xs (λ k d less. fits (suc k) d (omega (arith, less))) in
        let fit : IsPartFit v x = fits 0 x (omega arith) in
        let s = v.scope in
        let S = SuitsStatements v in
        let h = total (given_words s) (x ∷ xs) in
        let left = total (given_words s) xs in
        let whole = copies_needs v (x ∷ xs) in
        let own = copy_needs v (total (copied_width s) (x ∷ xs)) x in
        let high : h ≡ left + suc (words_in s x.subtype) = omega arith in
        let a = copy_code s h x in
        record {
          keeps = fits_more S (4 + 4 * length xs) (4 * length (x ∷ xs)) whole.stack whole.stack h 0 (a ▸ copies_code s xs) (omega arith) (omega arith)
              (fits_then S 4 (4 * length xs) whole.stack h left 0 a (copies_code s xs)
              (keeps_within own whole S 4 h left a (in_left own (copies_needs v xs))
              (copy_keeps kept sized quiet v x fit h left high (total (copied_width s) (x ∷ xs)) (low_words (x ∷ xs))))
              (keeps_within (copies_needs v xs) whole S (4 * length xs) left 0 (copies_code s xs) (in_right own (copies_needs v xs)) rest.keeps));
          words = λ i from to at.
              let two = both_stand i from to a (copies_code s xs) at in
              let one_ = copy_words kept sized quiet v x fit h left high i from two.mid two.first in
              let more = rest.words i two.mid to two.second in
              omega (arith, one_, more);
          copies = λ i from to at program g f names laid.
              let two = both_stand i from to a (copies_code s xs) at in
              copies_one kept sized quiet v x fit h left high i from two.mid two.first program g f names laid xs to
              (rest.copies i two.mid to two.second program g f names laid);
        }
