-- The code of a value that is checked against a subtype, of whatever words, wherever it stands (RM 4.6, 6.4.1).
use Rattle.std.proofs.Common.{◌≡◌, ◌≤◌, ◌+◌, ◌*◌, ℕ, Bool, true, false, Option, Some, refl, sym, ap, subst, arith}
use Rattle.std.specs.Prelude.{cond, not, ◌||◌}
use Rattle.std.proofs.lemmas.Bool.{or_left, or_right}
use Rattle.ada_tree.specs.ExpressionTree.{ExprTree}
use Rattle.ada_tree.specs.Size.{expr_size}
use Rattle.image.specs.Rules.{has_depth, is_block}
use Rattle.image.specs.Sections.{Sections}
use Rattle.types.specs.declared.entity.Subtype.{Subtype}
use Rattle.types.specs.Bounds.{bounds_of}
use Rattle.types.specs.Entities.{Arrays, Records, TypeForm}
use Rattle.types.specs.Layouts.{words_of}
use Rattle.types.specs.Scopes.{form_at}
use Rattle.types.specs.Shapes.{shape_of}
use Rattle.expr_soundness.specs.BoundsLaw.{is_inside}
use Rattle.expr_soundness.specs.SoundScopes.{SoundScope}
use Rattle.expr_code.specs.Computing.{AlwaysPasses, ComputesChecked}
use Rattle.expr_code.specs.Emitting.{IsFit, has_numbers, is_composite}
use Rattle.expr_code.specs.ExpressionCode.{checked_code, expr_code, misfit_code, with_check}
use Rattle.expr_code.specs.Pieces.{Piece}
use Rattle.expr_code.specs.Providing.{HasWhatExpressionsNeed, is_passable}
use Rattle.expr_code.specs.Refusing.{HasUnfitObject, checked_peak, is_fit, peak}
use Rattle.expr_code.specs.Seeing.{Package, Sees, Suits, library_of}
use Rattle.expr_code.specs.declared.visible.Visible.{Visible}
use Rattle.expr_code.proofs.Checking.{fit_legal, shaped}
use Rattle.expr_code.proofs.FitShapes.{no_block}
use Rattle.expr_code.proofs.Fitting.{composite_passes, composite_width}
use Rattle.expr_code.proofs.Going.{block_words}
use Rattle.expr_code.proofs.NamesWork.{all_work}
use Rattle.expr_code.proofs.PartWorks.{misfit_fits, misfit_stands}
use Rattle.expr_code.proofs.PassedWorks.{passable_word, value_works}
use Rattle.expr_code.proofs.Passing.{computes_unchecked}
use Rattle.expr_code.proofs.StandingPieces.{Between, Fits, both_stand, fits_more, fits_then, fits_unless}
use Rattle.part_code.specs.Needs.{has_unfit, in_needs, is_taken}
use Rattle.part_code.specs.PartCode.{fitting_code, words_in}
use Rattle.part_code.proofs.PieceNeeds.{Keeps, Laws}
use Rattle.part_code.proofs.Within.{unfit_there}

-- ---- the value and its check, where it needs one

pub record ValueWorks (v : Visible) (d : ℕ) (t : Subtype) (e : ExprTree) (a : Piece) : Type 0 where
  pub long : ℕ
  pub few : long ≤ 20 * expr_size e + 3
  pub fits : Fits v long (d + checked_peak (peak v.scope e)) d (d + words_of v.scope t) a
  pub computes : (i : Sections) (from to : ℕ) → Between i from to a → (g : Package) → ComputesChecked i (library_of g) (Sees g v) from to t e

no_numbers : (o : Option TypeForm) → is_composite o ≡ true → has_numbers o ≡ false
no_numbers (Some (Arrays index many element)) h = refl
no_numbers (Some (Records components)) h = refl
no_numbers o h = absurd cc

module _ (laws : Laws) (v : Visible) (sound : SoundScope v.scope) (covered : HasWhatExpressionsNeed v) (d : ℕ) (t : Subtype) (e : ExprTree)
    (fit : IsFit v.scope t e) where
  passable_works : is_passable v.scope t ≡ true → ValueWorks v d t e (checked_code v d t e (expr_code v d e))
  passable_works passable =
      let w = value_works laws.quiet laws.typed laws.spared laws.lie v sound d t e passable fit
      (λ k legal. all_work laws.quiet laws.typed laws.spared laws.lie laws.words laws.places v sound covered k e legal) in
      let a = checked_code v d t e (expr_code v d e) in
      record {
        long = w.long;
        few = (let few = w.few in omega (arith, few));
        fits = subst (λ n. Fits v w.long (d + checked_peak (peak v.scope e)) d (d + n) a) (sym (passable_word v.scope t passable)) w.fits;
        computes = w.computes;
      }

  composite_works : is_composite (form_at v.scope t.type_number) ≡ true → ValueWorks v d t e (checked_code v d t e (expr_code v d e))
  composite_works composite =
      let w = all_work laws.quiet laws.typed laws.spared laws.lie laws.words laws.places v sound covered d e (fit_legal v.scope t e fit) in
      let a = expr_code v d e in
      subst (λ b. ValueWorks v d t e (cond b (with_check (is_inside (bounds_of v.scope e) t) (d + 1) t a) a))
      (sym (no_numbers (form_at v.scope t.type_number) composite))
      (record {
        long = w.long;
        few = (let few = w.few in omega (arith, few));
        fits = subst (λ n. Fits v w.long (d + checked_peak (peak v.scope e)) d (d + n) a) (composite_width v.scope sound t e fit composite)
            (fits_more (Suits v) w.long w.long (d + peak v.scope e) (d + checked_peak (peak v.scope e)) d _ a (omega arith) (omega arith) w.fits);
        computes = λ i from to h g. computes_unchecked laws.quiet i (library_of g) (Sees g v) from to t e (w.computes i from to h g) (passes composite i g);
      })
    where
      passes : is_composite (form_at v.scope t.type_number) ≡ true → (i : Sections) (g : Package) → AlwaysPasses i (library_of g) (Sees g v) t e
      passes composite i g calls p view x good sees is =
          composite_passes v.scope sound t composite x (shaped laws.typed v t e fit calls p sees.names.agrees (good.0 p sees.unit.sound) x is)

  pub checked_works : is_taken v.scope t ≡ true → ValueWorks v d t e (checked_code v d t e (expr_code v d e))
  checked_works = by_test (is_passable v.scope t) refl
    where
      by_test : (b : Bool) → is_passable v.scope t ≡ b → (b || is_composite (form_at v.scope t.type_number)) ≡ true
          → ValueWorks v d t e (checked_code v d t e (expr_code v d e))
      by_test true is h = passable_works is
      by_test false is h = composite_works h

  -- ---- with the instruction that no image may have, where the words are none or too many

  pub record FittingWorks : Type 0 where
    pub long : ℕ
    pub few : long ≤ 20 * expr_size e + 4
    pub keeps : Keeps (in_needs d v t e) (Suits v) long d (d + words_in v.scope t) (fitting_code v d t e)
    pub words : (i : Sections) (from to : ℕ) → Between i from to (fitting_code v d t e) → words_of v.scope t ≡ words_in v.scope t
    pub computes : (i : Sections) (from to : ℕ) → Between i from to (fitting_code v d t e) → (g : Package)
        → ComputesChecked i (library_of g) (Sees g v) from to t e

  block_there : (b : Bool) → not b ≡ false → b ≡ true
  block_there true h = refl
  block_there false h = cc

  none_there : (b : Bool) → not b ≡ true → b ≡ false
  none_there true h = cc
  none_there false h = refl

  pub fitting_works : is_taken v.scope t ≡ true → FittingWorks
  fitting_works taken =
      let w = checked_works taken in
      let s = v.scope in
      let n = in_needs d v t e in
      let unfit = not (is_block (words_in s t)) in
      let front = misfit_code unfit d in
      let value = checked_code v d t e (expr_code v d e) in
      let U : Type 0 = n.unfit ≡ true in
      let words : (i : Sections) (from to : ℕ) → Between i from to (fitting_code v d t e) → words_of s t ≡ words_in s t =
      λ i from to h.
      let two = both_stand i from to front value h in
      block_words (words_in s t) (words_of s t) refl (block_there (is_block (words_in s t)) (misfit_stands i from two.mid d unfit two.first).0) in
      let whole = fits_then (Suits v) 1 w.long n.stack d d (d + words_of s t) front value
      (misfit_fits v n.stack d unfit (omega arith)
      (λ u. or_right (has_unfit v) (not (is_fit (shape_of s t)))
      (ap not (no_block s t (words_in s t) refl (none_there (is_block (words_in s t)) u)))))
      (fits_unless (HasUnfitObject v) U (Suits v) w.long n.stack d (d + words_of s t) value
      (λ u. or_left (has_unfit v) (not (is_fit (shape_of s t))) (unfit_there v u))
      (fits_more (Suits v) w.long w.long (d + checked_peak (peak s e)) n.stack d (d + words_of s t) value (omega arith) (omega arith) w.fits)) in
      record {
        long = 1 + w.long;
        few = (let few = w.few in omega (arith, few));
        keeps = record {
          sized = whole.sized;
          low = whole.low;
          fit = whole.fit;
          leads = record {
            leads = λ i q from to h suits deep high ends.
                let same = words i from to h in
                whole.leads.leads i q from to h suits deep (subst (λ k. d + k ≤ q.stack) (sym same) high)
                (subst (λ k. has_depth i to (d + k) ≡ true) (sym same) ends);
          };
        };
        words = words;
        computes = λ i from to h g.
            let two = both_stand i from to front value h in
            let none = (misfit_stands i from two.mid d unfit two.first).1 in
            subst (λ k. ComputesChecked i (library_of g) (Sees g v) k to t e) (sym none) (w.computes i two.mid to two.second g);
      }
