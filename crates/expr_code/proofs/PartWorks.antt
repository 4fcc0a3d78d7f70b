-- The code of parts of objects, wherever it stands.
use Rattle.std.proofs.Common.{◌≡◌, ◌≤◌, ◌<◌, ℕ, suc, ◌+◌, ◌*◌, ℤ, List, [], length, Bool, true, false, Option, None, Some, refl, rules, sym, ap, ◌∙◌, subst, arith, inl, inr, cond}
use Rattle.std.proofs.lemmas.Int.{ints}
use Rattle.std.specs.Prelude.{is_none, is_some, max, nat_eq, nat_lt, option_map, pos, ◌+ℤ◌, ◌-ℤ◌, ◌*ℤ◌, ◌⊎◌}
use Rattle.base.specs.declared.faults.TheConstants.{NAME_NOT_VISIBLE}
use Rattle.base.specs.declared.limits.TheConstants.{WORDS}
use Rattle.kernel.specs.Laws.{QuietStays}
use Rattle.ada_tree.specs.declared.expression.Identifier.{Identifier}
use Rattle.ada_tree.specs.ExpressionTree as tree
use Rattle.ada_tree.specs.ExpressionTree.{ArgumentTrees, Arguments, Attribute, Component, ExprTree, MoreArguments, MoreSelectors, NoArguments, NoSelectors, SelectorTree, SelectorTrees}
use Rattle.ada_tree.specs.Size.{selectors_size}
use Rattle.image.specs.Rules.{has_operands, is_block}
use Rattle.image.specs.declared.instruction.Region.{Region}
use Rattle.image.specs.Sections.{Sections}
use Rattle.image.specs.declared.instruction.Operation.{Operation}
use Rattle.image.specs.declared.instruction.Operation.TheVariants as op
use Rattle.image.specs.declared.instruction.Region.TheVariants as regions
use Rattle.types.specs.declared.entity.RecordComponent.{RecordComponent}
use Rattle.types.specs.declared.entity.Role.{Role}
use Rattle.types.specs.declared.entity.Subtype.{Subtype}
use Rattle.types.specs.declared.standing.Standing.TheVariants as standing
use Rattle.types.specs.Entities.{Arrays, Integers, Records, TypeForm}
use Rattle.types.specs.Layouts.{capped, component_offset, field_offset, words_of}
use Rattle.types.specs.Scopes.{Scope, form_at, number_of}
use Rattle.types.specs.Shapes.{component_shapes, has_shape, shape_of, shapes}
use Rattle.types.specs.Standings.{component_of, component_stands, count, element_stands, is_single, part_of, select_all, standing_of, stands_first}
use Rattle.expr_soundness.specs.BoundsLaw.{AllValuesLie, ChecksAreSpared}
use Rattle.expr_soundness.specs.Laws.{ExpressionsAreTyped}
use Rattle.expr_soundness.specs.SoundScopes.{SoundScope}
use Rattle.expr_soundness.specs.expr_rules.specs.Faults.{rule}
use Rattle.expr_soundness.specs.expr_rules.specs.NameRules.{component_rule, index_slot, part_rule}
use Rattle.expr_soundness.specs.expr_rules.specs.ExpressionRules.{argument_faults, arguments_faults}
use Rattle.expr_soundness.specs.expr_rules.proofs.TypedLaw.{back_empty, front_empty}
use Rattle.expr_soundness.specs.expr_rules.specs.Typing.{is_integers}
use Rattle.expr_soundness.proofs.Denoting.{MeansPart}
use Rattle.expr_soundness.proofs.Expressions.{IsHere}
use Rattle.expr_soundness.proofs.FixedNames.{same_form}
use Rattle.types.specs.Laws.{PartsHavePlaces, ValuesHaveWords}
use Rattle.types.specs.Evaluating.{fixed_name, fixed_value}
use Rattle.types.specs.Places.{IsObject, meaning_of}
use Rattle.types.specs.Values.{Value}
use Rattle.expr_code.specs.Computing.{Computes, ComputesChecked}
use Rattle.expr_code.specs.Emitting.{IsFit, IsLegalExpression, has_numbers}
use Rattle.expr_code.specs.Naming.{Lies, loaded_at}
use Rattle.expr_code.specs.ExpressionCode.{at_offset_code, at_offset_shift, both_known, by_words_code, checked_code, element_code, element_part, expr_code, field_code, field_of, field_part, is_near, less_first_code, less_first_shift, misfit_code, part_code, path_code, path_part, whole_of}
use Rattle.expr_code.specs.Going.{EndsAt, IsLegalPart, IsLegalPath, Selects}
use Rattle.expr_code.specs.Locating.{AreTwo, IsAtOffset, IsByWords, IsLessFirst, IsNear, IsOffset, IsPath}
use Rattle.expr_code.specs.Pieces.{Piece, nothing, one, ◌▸◌}
use Rattle.expr_code.specs.Refusing.{HasUnfitObject, IsUnfit, checked_peak, peak, selectors_peak, words_below}
use Rattle.expr_code.specs.declared.visible.Slot.{Slot}
use Rattle.expr_code.specs.Seeing.{Package, Sees, Suits, library_of}
use Rattle.expr_code.specs.Seeing.{slot_of}
use Rattle.expr_code.specs.Widths.{width_of}
use Rattle.expr_code.specs.Views.{At}
use Rattle.expr_code.specs.declared.part.PartAt.{PartAt}
use Rattle.expr_code.specs.declared.visible.Visible.{Visible}
use Rattle.expr_code.proofs.Checking.{fit_legal, is_a_number}
use Rattle.expr_code.proofs.ExpressionWorks.{DoesWork, SelectorsWork, Works}
use Rattle.expr_code.proofs.FitShapes.{far_offset, large_unfit, many_unfit, no_block, offset_there, selected_keeps}
use Rattle.expr_code.proofs.Locating.{near_close}
use Rattle.expr_code.proofs.Names.{legal_here}
use Rattle.expr_code.proofs.Paths.{NamesStored, computes_part}
use Rattle.expr_code.proofs.Refusals.{selectors_some}
use Rattle.expr_code.proofs.Flowing.{Changes}
use Rattle.expr_code.proofs.Going.{block_words, first_part, further_path, grouped_shape, index_fit, index_integers, left_close, left_less, left_more, multiplies, repeated_shape, shape_named, subtracts, takes_two, uncapped, uncapped_words, whole_path}
use Rattle.expr_code.proofs.LegalNames.{array_tree}
use Rattle.expr_code.proofs.NameWorks.{WorksChecked, numbers_work}
use Rattle.expr_code.proofs.StandingPieces.{Between, FitsOr, both_stand, fits_load, fits_more, fits_none, fits_one, fits_or, fits_then, one_stands, pushes}
use Rattle.expr_code.proofs.Widths.{integers_fit_width}

-- ---- what no image may have

pub misfit_fits : {U : Type 0} (v : Visible) (h d : ℕ) (unfit : Bool) → d ≤ h → (unfit ≡ true → U) → FitsOr U (Suits v) 1 h d d (misfit_code unfit d)
misfit_fits {U} v h d true up why = fits_load (Suits v) h d d (op.LoadBlock regions.Locals 0) up (inr (why refl)) (λ e. absurd cc)
misfit_fits {U} v h d false up why = fits_more (Suits v) 0 1 h h d d nothing (omega arith) (omega arith) (fits_none (Suits v) h d)

none_stand : (i : Sections) (from to : ℕ) → Between i from to nothing → to ≡ from
unfolding nothing
none_stand i from to h = omega (arith, h.ends)

pub misfit_stands : (i : Sections) (from to d : ℕ) (unfit : Bool) → Between i from to (misfit_code unfit d) → (unfit ≡ false) × (from ≡ to)
misfit_stands i from to d true h = (let it = one_stands i from to d (op.LoadBlock regions.Locals 0) h in let no = it.operands in absurd cc)
misfit_stands i from to d false h = (refl, sym (none_stand i from to h))

-- ---- two instructions, or none

pub two_fit : {U : Type 0} (v : Visible) (h d : ℕ) (a b : Operation) → d + 1 ≤ h → Changes (Suits v) a d (d + 1) → Changes (Suits v) b (d + 1) d
    → FitsOr U (Suits v) 2 h d d (one d a ▸ one (d + 1) b)
two_fit {U} v h d a b up p q =
    fits_then (Suits v) 1 1 h d (d + 1) d (one d a) (one (d + 1) b) (fits_one (Suits v) h d (d + 1) a (omega (arith, up)) p) (fits_one (Suits v) h (d + 1) d b up q)

pub two_stand : (i : Sections) (from to d : ℕ) (a b : Operation) → Between i from to (one d a ▸ one (d + 1) b) → AreTwo i from to a b
two_stand i from to d a b h =
    let both = both_stand i from to (one d a) (one (d + 1) b) h in
    let first = one_stands i from both.mid d a both.first in
    let second = one_stands i both.mid to (d + 1) b both.second in
    let next : both.mid ≡ from + 1 = omega (arith, first.ends) in
    ((d, first.there), subst (λ n. At i n b) next (d + 1, second.there), omega (arith, first.ends, second.ends))

none_fits : {U : Type 0} (v : Visible) (h d : ℕ) → FitsOr U (Suits v) 2 h d d nothing
none_fits {U} v h d = fits_more (Suits v) 0 2 h h d d nothing (omega arith) (omega arith) (fits_none (Suits v) h d)

near_is : (z : ℤ) → is_near z ≡ true → IsNear z
near_is z h = search rules

-- an offset
module _ (U : Type 0) (v : Visible) (h d : ℕ) (shift : ℤ) (offset : ℕ) (up : d + 1 + 1 ≤ h) where
  abbrev moved : ℤ
  moved = shift +ℤ pos offset

  offset_piece : (b : Bool) → FitsOr U (Suits v) 2 h (d + 1) (d + 1) (cond b nothing (one (d + 1) (op.Push (pos offset)) ▸ one (d + 1 + 1) op.Add))
  offset_piece true = none_fits v h (d + 1)
  offset_piece false = two_fit v h (d + 1) (op.Push (pos offset)) op.Add up (pushes (Suits v) (d + 1) (pos offset)) (takes_two v d)

  pub offset_fits : FitsOr U (Suits v) 2 h (d + 1) (d + 1) (at_offset_code (d + 1) shift offset)
  offset_fits = offset_piece (is_near moved)

offset_near : (shift : ℤ) (offset : ℕ) → IsNear shift → IsNear (at_offset_shift shift offset)
offset_near shift offset near = by_test (is_near (shift +ℤ pos offset)) refl
  where
    by_test : (b : Bool) → is_near (shift +ℤ pos offset) ≡ b → IsNear (cond b (shift +ℤ pos offset) shift)
    by_test true is = near_is (shift +ℤ pos offset) is
    by_test false is = near

pub offset_goes : (i : Sections) (from to d : ℕ) (shift : ℤ) (offset : ℕ) → Between i from to (at_offset_code d shift offset) → (whole : ℤ)
    → IsAtOffset i from to offset (whole -ℤ shift) (whole -ℤ at_offset_shift shift offset)
offset_goes i from to d shift offset h whole = by_test (is_near (shift +ℤ pos offset)) h
  where
    by_test : (b : Bool) → Between i from to (cond b nothing (one d (op.Push (pos offset)) ▸ one (d + 1) op.Add))
        → IsAtOffset i from to offset (whole -ℤ shift) (whole -ℤ cond b (shift +ℤ pos offset) shift)
    by_test true k = inr (none_stand i from to k, left_less whole shift (shift +ℤ pos offset) (pos offset) refl)
    by_test false k = inl (two_stand i from to d (op.Push (pos offset)) op.Add k, refl)

-- an index less the first one
module _ (U : Type 0) (v : Visible) (h d : ℕ) (first : ℤ) (size : ℕ) (shift : ℤ) (up : d + 1 + 1 + 1 ≤ h) where
  less_piece : (b : Bool) → FitsOr U (Suits v) 2 h (d + 1 + 1) (d + 1 + 1) (cond b nothing (one (d + 1 + 1) (op.Push first) ▸ one (d + 1 + 1 + 1) op.Subtract))
  less_piece true = none_fits v h (d + 1 + 1)
  less_piece false = two_fit v h (d + 1 + 1) (op.Push first) op.Subtract up (pushes (Suits v) (d + 1 + 1) first) (subtracts v (d + 1))

  product_piece : (b : Bool) → FitsOr U (Suits v) 2 h (d + 1 + 1) (d + 1 + 1) (cond b nothing (one (d + 1 + 1) (op.Push (pos size)) ▸ one (d + 1 + 1 + 1) op.Multiply))
  product_piece true = none_fits v h (d + 1 + 1)
  product_piece false = two_fit v h (d + 1 + 1) (op.Push (pos size)) op.Multiply up (pushes (Suits v) (d + 1 + 1) (pos size)) (multiplies v (d + 1))

  abbrev pub scaling : Piece
  scaling = less_first_code (d + 1 + 1) first size shift ▸ by_words_code (d + 1 + 1) size ▸ one (d + 1 + 1) op.Add

  pub scaling_fits : FitsOr U (Suits v) 5 h (d + 1 + 1) (d + 1) scaling
  scaling_fits =
      fits_then (Suits v) 2 3 h (d + 1 + 1) (d + 1 + 1) (d + 1) (less_first_code (d + 1 + 1) first size shift) (by_words_code (d + 1 + 1) size ▸ one (d + 1 + 1) op.Add)
      (less_piece (is_near (shift -ℤ first *ℤ pos size)))
      (fits_then (Suits v) 2 1 h (d + 1 + 1) (d + 1 + 1) (d + 1) (by_words_code (d + 1 + 1) size) (one (d + 1 + 1) op.Add) (product_piece (nat_eq size 1))
      (fits_one (Suits v) h (d + 1 + 1) (d + 1) op.Add (omega (arith, up)) (takes_two v d)))

less_near : (first : ℤ) (size : ℕ) (shift : ℤ) → IsNear shift → IsNear (less_first_shift first size shift)
less_near first size shift near = by_test (is_near (shift -ℤ first *ℤ pos size)) refl
  where
    by_test : (b : Bool) → is_near (shift -ℤ first *ℤ pos size) ≡ b → IsNear (cond b (shift -ℤ first *ℤ pos size) shift)
    by_test true is = near_is (shift -ℤ first *ℤ pos size) is
    by_test false is = near

module _ (i : Sections) (d : ℕ) (first : ℤ) (size : ℕ) (shift whole : ℤ) where
  less_goes : (from to : ℕ) → Between i from to (less_first_code d first size shift)
      → IsLessFirst i from to first size (whole -ℤ shift) (whole -ℤ less_first_shift first size shift)
  less_goes from to h = by_test (is_near (shift -ℤ first *ℤ pos size)) h
    where
      by_test : (b : Bool) → Between i from to (cond b nothing (one d (op.Push first) ▸ one (d + 1) op.Subtract))
          → IsLessFirst i from to first size (whole -ℤ shift) (whole -ℤ cond b (shift -ℤ first *ℤ pos size) shift)
      by_test true k = inr (none_stand i from to k, left_more whole shift (shift -ℤ first *ℤ pos size) (first *ℤ pos size) refl)
      by_test false k = inl (two_stand i from to d (op.Push first) op.Subtract k, refl)

  one_word : nat_eq size 1 ≡ true → size ≡ 1
  one_word h = search rules

  product_goes : (from to : ℕ) → Between i from to (by_words_code d size) → IsByWords i from to size
  product_goes from to h = by_test (nat_eq size 1) refl h
    where
      by_test : (b : Bool) → nat_eq size 1 ≡ b → Between i from to (cond b nothing (one d (op.Push (pos size)) ▸ one (d + 1) op.Multiply))
          → IsByWords i from to size
      by_test true is k = inr (one_word is, none_stand i from to k)
      by_test false is k = inl (two_stand i from to d (op.Push (pos size)) op.Multiply k)

  pub scaling_goes : (from to : ℕ) → Between i from to (less_first_code d first size shift ▸ by_words_code d size ▸ one d op.Add)
      → IsOffset i from to first size (whole -ℤ shift) (whole -ℤ less_first_shift first size shift)
  scaling_goes from to h =
      let less = both_stand i from to (less_first_code d first size shift) (by_words_code d size ▸ one d op.Add) h in
      let rest = both_stand i less.mid to (by_words_code d size) (one d op.Add) less.second in
      let add = one_stands i rest.mid to d op.Add rest.second in
      record {
        counted = less.mid;
        scaled = rest.mid;
        less = less_goes from less.mid less.first;
        product = product_goes less.mid rest.mid rest.first;
        add = (d, add.there);
        end = omega (arith, add.ends);
      }

-- ---- a path

pub record PathWorks (U : Type 0) (v : Visible) (d : ℕ) (p last : PartAt) (all : SelectorTrees) (a : Piece) : Type 0 where
  pub long : ℕ
  pub few : long ≤ 20 * selectors_size all
  pub fits : FitsOr U (Suits v) long (d + selectors_peak v.scope 1 all) (d + 1) (d + 1) a
  pub near : IsNear last.shift
  pub fit : IsUnfit v.scope last.subtype → U
  pub ends : EndsAt v.scope p.subtype all last.subtype
  pub goes : (i : Sections) (from to : ℕ) → Between i from to a → (g : Package)
      → IsPath i (library_of g) (Sees g v) from to (last.shift -ℤ p.shift) p.subtype (shape_of v.scope p.subtype) all last.subtype (shape_of v.scope last.subtype)

pub all_left : (z : ℤ) → z -ℤ pos 0 ≡ z
all_left z = omega (arith, ints)

none_left : (z : ℤ) → z -ℤ z ≡ pos 0
none_left z = omega (arith, ints)

end_works : (U : Type 0) (v : Visible) (d : ℕ) (p : PartAt) → IsNear p.shift → (IsUnfit v.scope p.subtype → U) → PathWorks U v d p p NoSelectors nothing
end_works U v d p near unfit = record {
  long = 0;
  few = omega arith;
  fits = fits_none (Suits v) (d + 1) (d + 1);
  near = near;
  fit = unfit;
  ends = λ r. refl;
  goes = λ i from to h g. (sym (none_stand i from to h), refl, refl, none_left p.shift);
}

-- a component of a record
component_there : (s : Scope) (t : Subtype) (name : Identifier) → IsLegalPart s t (Component name)
    → (cs : List RecordComponent) × (u : Subtype) × (form_at s t.type_number ≡ Some (Records cs)) × (component_of cs name.name ≡ Some u)
component_there s t name h = by_form (form_at s t.type_number) refl h.unbroken
  where
    by_found : (cs : List RecordComponent) → form_at s t.type_number ≡ Some (Records cs) → (o : Option Subtype) → component_of cs name.name ≡ o
        → rule NAME_NOT_VISIBLE name.place (is_none o) ≡ []
        → (ds : List RecordComponent) × (u : Subtype) × (form_at s t.type_number ≡ Some (Records ds)) × (component_of ds name.name ≡ Some u)
    by_found cs form (Some u) found e = (cs, u, form, found)
    by_found cs form None found e = absurd cc

    by_form : (f : Option TypeForm) → form_at s t.type_number ≡ f → component_rule h.place name f ≡ []
        → (ds : List RecordComponent) × (u : Subtype) × (form_at s t.type_number ≡ Some (Records ds)) × (component_of ds name.name ≡ Some u)
    by_form (Some (Records cs)) form e = by_found cs form (component_of cs name.name) refl e
    by_form f form e = absurd cc

in_limit : (n : ℕ) → nat_lt WORDS n ≡ false → n ≤ WORDS
in_limit n h = search rules

past_limit : (n : ℕ) → nat_lt WORDS n ≡ true → WORDS < n
past_limit n h = search rules

field_is : (s : Scope) (t : Subtype) (cs : List RecordComponent) (name : List ℕ) (u : Subtype) → form_at s t.type_number ≡ Some (Records cs)
    → component_of cs name ≡ Some u → (n : ℕ) → field_offset (component_shapes (shapes s) cs) name ≡ Some n
    → field_of s (form_at s t.type_number) name ≡ Some (u, capped n)
field_is s t cs name u form found n is =
    ap (λ f. field_of s f name) form ∙ ap (λ o. both_known o (option_map capped (component_offset s cs name))) found
    ∙ ap (λ o. both_known (Some u) (option_map capped o)) is

module _ (U : Type 0) (v : Visible) (sound : SoundScope v.scope) (d : ℕ) (p : PartAt) (near : IsNear p.shift) (unfit : IsUnfit v.scope p.subtype → U)
    (rest : SelectorTrees) where
  abbrev s : Scope
  s = v.scope

  module _ (name : Identifier) (cs : List RecordComponent) (u : Subtype) (form : form_at v.scope p.subtype.type_number ≡ Some (Records cs))
      (found : component_of cs name.name ≡ Some u) (selects : Selects v.scope p.subtype (Component name) u) (n : ℕ) (is : field_offset (component_shapes (shapes v.scope) cs) name.name ≡ Some n)
      (last : PartAt) (b : Piece) (q : PathWorks U v d (record { subtype = u; shift = at_offset_shift p.shift (capped n) }) last rest b) where
    abbrev told : ℕ
    told = capped n

    abbrev all : SelectorTrees
    all = MoreSelectors (Component name) rest

    abbrev piece : Piece
    piece = misfit_code (nat_lt WORDS told) (d + 1) ▸ at_offset_code (d + 1) p.shift told

    field_works : PathWorks U v d p last all (piece ▸ b)
    field_works =
        let top = d + selectors_peak s 1 all in
        record {
          long = 1 + 2 + q.long;
          few = (let few = q.few in omega (arith, few));
          fits = fits_then (Suits v) (1 + 2) q.long top (d + 1) (d + 1) (d + 1) piece b
              (fits_then (Suits v) 1 2 top (d + 1) (d + 1) (d + 1) (misfit_code (nat_lt WORDS told) (d + 1)) (at_offset_code (d + 1) p.shift told)
              (misfit_fits v top (d + 1) (nat_lt WORDS told) (omega arith)
              (λ e. unfit (far_offset s sound p.subtype cs name.name u form found told (ap (option_map capped) is) (past_limit told e))))
              (offset_fits U v top d p.shift told (omega arith)))
              (fits_more (Suits v) q.long q.long (d + selectors_peak s 1 rest) top (d + 1) (d + 1) b (omega arith) (omega arith) q.fits);
          near = q.near;
          fit = q.fit;
          ends = λ r. ap (λ w. select_all v.scope w rest) (selects r) ∙ q.ends r;
          goes = λ i from to h g.
              let whole = both_stand i from to piece b h in
              let front = both_stand i from whole.mid (misfit_code (nat_lt WORDS told) (d + 1)) (at_offset_code (d + 1) p.shift told) whole.first in
              let none = misfit_stands i from front.mid (d + 1) (nat_lt WORDS told) front.first in
              let few = in_limit told none.0 in
              let at = subst (λ k. IsAtOffset i k whole.mid told (last.shift -ℤ p.shift) (last.shift -ℤ at_offset_shift p.shift told)) (sym none.1)
              (offset_goes i front.mid whole.mid (d + 1) p.shift told front.second last.shift) in (
                cs,
                component_shapes (shapes s) cs,
                u,
                shape_of s u,
                told,
                whole.mid,
                last.shift -ℤ at_offset_shift p.shift told,
                (λ pl view sees. same_form s pl sees.names.agrees p.subtype.type_number (ap is_some form) ∙ form),
                (λ pl view sees. grouped_shape s sees.names.agrees.sound p.subtype cs form),
                found,
                shape_named (shapes s) cs name.name u found,
                uncapped (field_offset (component_shapes (shapes s) cs) name.name) told (ap (option_map capped) is) few,
                omega (arith, few),
                at,
                left_close last.shift (at_offset_shift p.shift told) q.near (offset_near p.shift told near),
                whole.on_,
                q.goes i whole.mid to whole.second g,
              );
        }

    pub component_works : PathWorks U v d p last all (field_code (d + 1) p.shift (field_of s (form_at s p.subtype.type_number) name.name) ▸ b)
    component_works =
        subst (λ o. PathWorks U v d p last all (field_code (d + 1) p.shift o ▸ b)) (sym (field_is s p.subtype cs name.name u form found n is)) field_works

-- a component of an array
module _ (quiet : QuietStays) (laws : ExpressionsAreTyped) (needless : ChecksAreSpared) (every : AllValuesLie) (v : Visible) (sound : SoundScope v.scope) (U : Type 0)
    (weak : HasUnfitObject v → U) (d : ℕ) (p : PartAt) (near : IsNear p.shift) (unfit : IsUnfit v.scope p.subtype → U) (rest : SelectorTrees) (e : ExprTree) (does : DoesWork v e)
    (index element : Subtype) (many : ℕ) (form : form_at v.scope p.subtype.type_number ≡ Some (Arrays index many element))
    (legal : IsLegalPart v.scope p.subtype (Arguments (MoreArguments (tree.Value e) NoArguments)))
    (selects : Selects v.scope p.subtype (Arguments (MoreArguments (tree.Value e) NoArguments)) element) where
  abbrev wide : ℕ
  wide = capped (words_of v.scope element)

  abbrev next : PartAt
  next = record { subtype = element; shift = less_first_shift index.first wide p.shift }

  abbrev selector : SelectorTree
  selector = Arguments (MoreArguments (tree.Value e) NoArguments)

  abbrev indexed_all : SelectorTrees
  indexed_all = MoreSelectors selector rest

  fit : IsFit v.scope index e
  fit = index_fit v.scope p.subtype index element many e form legal

  integral : form_at v.scope index.type_number ≡ Some Integers
  integral = index_integers v.scope sound p.subtype index many element form

  abbrev value : Piece
  value = checked_code v (d + 1) index e (expr_code v (d + 1) e)

  value_works : WorksChecked v (d + 1) index e value
  value_works =
      numbers_work quiet laws v (d + 1) index e _ fit
      (subst (λ n. Works v (d + 1) n e (expr_code v (d + 1) e)) (integers_fit_width v.scope sound index e fit integral) (does (d + 1) (fit_legal v.scope index e fit)))
      needless every (ap has_numbers integral)

  too_many : nat_lt WORDS (max many wide) ≡ true → IsUnfit v.scope p.subtype
  too_many h = by_many (nat_lt WORDS many) refl
    where
      by_many : (b : Bool) → nat_lt WORDS many ≡ b → IsUnfit v.scope p.subtype
      by_many true is = many_unfit v.scope sound p.subtype index many element form (past_limit many is)
      by_many false is =
          (let few = in_limit many is in let past = past_limit (max many wide) h in
          large_unfit v.scope sound p.subtype index many element form wide refl (omega (arith, few, past)))

  module _ (last : PartAt) (b : Piece) (q : PathWorks U v d next last rest b) where
    abbrev scaled : Piece
    scaled = less_first_code (d + 1 + 1) index.first wide p.shift ▸ by_words_code (d + 1 + 1) wide ▸ one (d + 1 + 1) op.Add

    abbrev indexed : Piece
    indexed = misfit_code (nat_lt WORDS (max many wide)) (d + 1) ▸ value ▸ scaled

    indexed_works : PathWorks U v d p last indexed_all (indexed ▸ b)
    indexed_works =
        let top = d + selectors_peak v.scope 1 indexed_all in
        let w = value_works in
        record {
          long = 1 + (w.long + 5) + q.long;
          few = (let few = q.few in let one = w.few in omega (arith, few, one));
          fits = fits_then (Suits v) (1 + (w.long + 5)) q.long top (d + 1) (d + 1) (d + 1) indexed b
              (fits_then (Suits v) 1 (w.long + 5) top (d + 1) (d + 1) (d + 1) (misfit_code (nat_lt WORDS (max many wide)) (d + 1)) (value ▸ scaled)
              (misfit_fits v top (d + 1) (nat_lt WORDS (max many wide)) (omega arith) (λ h. unfit (too_many h)))
              (fits_then (Suits v) w.long 5 top (d + 1) (d + 1 + 1) (d + 1) value scaled
              (fits_more (Suits v) w.long w.long (d + 1 + checked_peak (peak v.scope e)) top (d + 1) (d + 1 + 1) value (omega arith) (omega arith)
              (fits_or U v w.long (d + 1 + checked_peak (peak v.scope e)) (d + 1) (d + 1 + 1) value weak w.fits))
              (scaling_fits U v top d index.first wide p.shift (omega arith))))
              (fits_more (Suits v) q.long q.long (d + selectors_peak v.scope 1 rest) top (d + 1) (d + 1) b (omega arith) (omega arith) q.fits);
          near = q.near;
          fit = q.fit;
          ends = λ r. ap (λ w. select_all v.scope w rest) (selects r) ∙ q.ends r;
          goes = λ i from to h g.
              let whole = both_stand i from to indexed b h in
              let front = both_stand i from whole.mid (misfit_code (nat_lt WORDS (max many wide)) (d + 1)) (value ▸ scaled) whole.first in
              let back = both_stand i front.mid whole.mid value scaled front.second in
              let none = misfit_stands i from front.mid (d + 1) (nat_lt WORDS (max many wide)) front.first in
              let few = in_limit (max many wide) none.0 in
              let same : wide ≡ words_of v.scope element = uncapped_words wide (words_of v.scope element) refl (omega (arith, few)) in
              let scales = scaling_goes i (d + 1 + 1) index.first wide p.shift last.shift back.mid whole.mid back.second in (
                index,
                element,
                many,
                shape_of v.scope element,
                back.mid,
                whole.mid,
                last.shift -ℤ less_first_shift index.first wide p.shift,
                (λ pl view sees. same_form v.scope pl sees.names.agrees p.subtype.type_number (ap is_some form) ∙ form),
                (λ pl view sees. repeated_shape v.scope sees.names.agrees.sound p.subtype index many element form),
                omega (arith, few),
                (let up = back.up in let from_is = none.1 in omega (arith, up, from_is)),
                subst (λ k. ComputesChecked i (library_of g) (Sees g v) k back.mid index e) (sym none.1) (w.computes i front.mid back.mid back.first g),
                (λ calls pl view x good sees is. is_a_number laws i v g index e fit integral calls pl view x good sees is),
                subst (λ n. IsOffset i back.mid whole.mid index.first n (last.shift -ℤ p.shift) (last.shift -ℤ less_first_shift index.first wide p.shift)) same scales,
                left_close last.shift (less_first_shift index.first wide p.shift) q.near (less_near index.first wide p.shift near),
                whole.on_,
                q.goes i whole.mid to whole.second g,
              );
        }

    pub element_works : PathWorks U v d p last indexed_all
        (element_code v.scope (d + 1) p.shift (form_at v.scope p.subtype.type_number) (λ i. checked_code v (d + 1) i e (expr_code v (d + 1) e)) ▸ b)
    element_works =
        subst (λ f. PathWorks U v d p last indexed_all (element_code v.scope (d + 1) p.shift f (λ i. checked_code v (d + 1) i e (expr_code v (d + 1) e)) ▸ b)) (sym form)
        indexed_works

two_given : (n : ℕ) → nat_eq (suc (suc n)) 1 ≡ true → ⊥
two_given n h = let one : suc (suc n) ≡ 1 = search rules in omega (arith, one)

-- ---- all selectors

module _ (quiet : QuietStays) (laws : ExpressionsAreTyped) (needless : ChecksAreSpared) (every : AllValuesLie) (v : Visible) (sound : SoundScope v.scope) (U : Type 0)
    (weak : HasUnfitObject v → U) (d : ℕ) where
  abbrev Goes : PartAt → SelectorTrees → Type 0
  Goes p all = PathWorks U v d p (path_part v.scope p all) all (path_code v (d + 1) p all)

  selects_field : (t u : Subtype) (cs : List RecordComponent) (name : Identifier) → form_at v.scope t.type_number ≡ Some (Records cs)
      → component_of cs name.name ≡ Some u → Selects v.scope t (Component name) u
  selects_field t u cs name form found r = ap (λ f. component_stands r f name.name) form ∙ ap (part_of r) found

  selects_element : (t index element : Subtype) (many : ℕ) (a : ArgumentTrees) → form_at v.scope t.type_number ≡ Some (Arrays index many element)
      → is_single a ≡ true → Selects v.scope t (Arguments a) element
  selects_element t index element many a form one r = ap (λ f. element_stands r f (is_single a)) form ∙ ap (λ b. element_stands r (Some (Arrays index many element)) b) one

  field_step : (p : PartAt) (name : Identifier) (rest : SelectorTrees) → IsNear p.shift → IsLegalPath v.scope p.subtype (MoreSelectors (Component name) rest)
      → (IsUnfit v.scope p.subtype → U)
      → ((q : PartAt) → IsNear q.shift → IsLegalPath v.scope q.subtype rest → (IsUnfit v.scope q.subtype → U) → Goes q rest)
      → Goes p (MoreSelectors (Component name) rest)
  field_step p name rest near legal unfit more =
      let s = v.scope in
      let it = component_there s p.subtype name (first_part s p.subtype (Component name) rest legal) in
      let cs = it.0 in
      let u = it.1 in
      let at = offset_there (shapes s) cs name.name u it.3 in
      let q : PartAt = record { subtype = u; shift = at_offset_shift p.shift (capped at.0) } in
      let selects = selects_field p.subtype u cs name it.2 it.3 in
      let known = field_is s p.subtype cs name.name u it.2 it.3 at.0 at.1 in
      let same : field_part p (field_of s (form_at s p.subtype.type_number) name.name) ≡ q = ap (field_part p) known in
      let tail = more q (offset_near p.shift (capped at.0) near) (further_path s p.subtype u (Component name) rest legal selects)
      (λ h. unfit (selected_keeps s sound p.subtype u (Component name) selects h)) in
      subst (λ y. PathWorks U v d p (path_part s y rest) (MoreSelectors (Component name) rest)
      (field_code (d + 1) p.shift (field_of s (form_at s p.subtype.type_number) name.name) ▸ path_code v (d + 1) y rest)) (sym same)
      (component_works U v sound d p near unfit rest name cs u it.2 it.3 selects at.0 at.1 (path_part s q rest) (path_code v (d + 1) q rest) tail)

  element_step : (p : PartAt) (e : ExprTree) (rest : SelectorTrees) → IsNear p.shift
      → IsLegalPath v.scope p.subtype (MoreSelectors (Arguments (MoreArguments (tree.Value e) NoArguments)) rest)
      → (IsUnfit v.scope p.subtype → U) → DoesWork v e
      → ((q : PartAt) → IsNear q.shift → IsLegalPath v.scope q.subtype rest → (IsUnfit v.scope q.subtype → U) → Goes q rest)
      → Goes p (MoreSelectors (Arguments (MoreArguments (tree.Value e) NoArguments)) rest)
  element_step p e rest near legal unfit does more =
      let s = v.scope in
      let a = MoreArguments (tree.Value e) NoArguments in
      let part = first_part s p.subtype (Arguments a) rest legal in
      let it = array_tree s p.subtype a part in
      let q : PartAt = record { subtype = it.2; shift = less_first_shift it.0.first (capped (words_of s it.2)) p.shift } in
      let selects = selects_element p.subtype it.0 it.2 it.1 a it.3 it.4 in
      let same : element_part s p (form_at s p.subtype.type_number) ≡ q = ap (element_part s p) it.3 in
      let tail = more q (less_near it.0.first (capped (words_of s it.2)) p.shift near) (further_path s p.subtype it.2 (Arguments a) rest legal selects)
      (λ h. unfit (selected_keeps s sound p.subtype it.2 (Arguments a) selects h)) in
      subst (λ y. PathWorks U v d p (path_part s y rest) (MoreSelectors (Arguments a) rest)
      (element_code s (d + 1) p.shift (form_at s p.subtype.type_number) (λ i. checked_code v (d + 1) i e (expr_code v (d + 1) e)) ▸ path_code v (d + 1) y rest)) (sym same)
      (element_works quiet laws needless every v sound U weak d p near unfit rest e does it.0 it.2 it.1 it.3 part selects (path_part s q rest) (path_code v (d + 1) q rest) tail)

  -- no other part of an object is legal
  no_other : (t : Subtype) (a : ArgumentTrees) → IsLegalPart v.scope t (Arguments a) → is_single a ≡ true
  no_other t a h = (array_tree v.scope t a h).4

  no_label : (t : Subtype) (label : _) (place : ℕ) → IsLegalPart v.scope t (Arguments (MoreArguments (tree.Text label place) NoArguments)) → ⊥
  no_label t label place h =
      let a = MoreArguments (tree.Text label place) NoArguments in
      let it = array_tree v.scope t a h in
      let all = back_empty (part_rule v.scope h.place (standing.Part h.role t) (Arguments a)) (arguments_faults v.scope (standing.Part h.role t) 0 a) h.unbroken in
      let its = front_empty (argument_faults v.scope (index_slot (form_at v.scope t.type_number)) (tree.Text label place)) [] all in
      let never : argument_faults v.scope (index_slot (Some (Arrays it.0 it.1 it.2))) (tree.Text label place) ≡ [] =
      ap (λ f. argument_faults v.scope (index_slot f) (tree.Text label place)) (sym it.3) ∙ its in
      absurd cc

  pub path_works : (p : PartAt) (all : SelectorTrees) → IsNear p.shift → IsLegalPath v.scope p.subtype all → (IsUnfit v.scope p.subtype → U)
      → SelectorsWork v all → Goes p all
  path_works p NoSelectors near legal unfit works = end_works U v d p near unfit
  path_works p (MoreSelectors (Component name) rest) near legal unfit works =
      field_step p name rest near legal unfit (λ q close path up. path_works q rest close path up works.1)
  path_works p (MoreSelectors (Arguments (MoreArguments (tree.Value e) NoArguments)) rest) near legal unfit works =
      element_step p e rest near legal unfit works.0.0 (λ q close path up. path_works q rest close path up works.1)
  path_works p (MoreSelectors (Arguments (MoreArguments (tree.Text label place) NoArguments)) rest) near legal unfit works =
      absurd (no_label p.subtype label place (first_part v.scope p.subtype (Arguments (MoreArguments (tree.Text label place) NoArguments)) rest legal))
  path_works p (MoreSelectors (Arguments NoArguments) rest) near legal unfit works =
      (let no = no_other p.subtype NoArguments (first_part v.scope p.subtype (Arguments NoArguments) rest legal) in absurd cc)
  path_works p (MoreSelectors (Arguments (MoreArguments x (MoreArguments y more))) rest) near legal unfit works =
      (let no = no_other p.subtype (MoreArguments x (MoreArguments y more))
      (first_part v.scope p.subtype (Arguments (MoreArguments x (MoreArguments y more))) rest legal) in absurd (two_given (count more) no))
  path_works p (MoreSelectors (Attribute name) rest) near legal unfit works =
      (let no = (first_part v.scope p.subtype (Attribute name) rest legal).component in absurd cc)

-- what a path selects, whatever code is for it
module _ (v : Visible) where
  pub path_ends : (p : PartAt) (all : SelectorTrees) → IsLegalPath v.scope p.subtype all → EndsAt v.scope p.subtype all (path_part v.scope p all).subtype
  path_ends p NoSelectors legal r = refl
  path_ends p (MoreSelectors (Component name) rest) legal r =
      let s = v.scope in
      let it = component_there s p.subtype name (first_part s p.subtype (Component name) rest legal) in
      let at = offset_there (shapes s) it.0 name.name it.1 it.3 in
      let q : PartAt = record { subtype = it.1; shift = at_offset_shift p.shift (capped at.0) } in
      let same : field_part p (field_of s (form_at s p.subtype.type_number) name.name) ≡ q =
      ap (field_part p) (field_is s p.subtype it.0 name.name it.1 it.2 it.3 at.0 at.1) in
      let selects : Selects s p.subtype (Component name) it.1 = λ k. ap (λ f. component_stands k f name.name) it.2 ∙ ap (part_of k) it.3 in
      ap (λ w. select_all s w rest) (selects r)
      ∙ path_ends q rest (further_path s p.subtype it.1 (Component name) rest legal selects) r
      ∙ ap (λ y. standing.Part r (path_part s y rest).subtype) (sym same)
  path_ends p (MoreSelectors (Arguments a) rest) legal r =
      let s = v.scope in
      let it = array_tree s p.subtype a (first_part s p.subtype (Arguments a) rest legal) in
      let q : PartAt = record { subtype = it.2; shift = less_first_shift it.0.first (capped (words_of s it.2)) p.shift } in
      let same : element_part s p (form_at s p.subtype.type_number) ≡ q = ap (element_part s p) it.3 in
      let selects : Selects s p.subtype (Arguments a) it.2 =
      λ k. ap (λ f. element_stands k f (is_single a)) it.3 ∙ ap (λ b. element_stands k (Some (Arrays it.0 it.1 it.2)) b) it.4 in
      ap (λ w. select_all s w rest) (selects r)
      ∙ path_ends q rest (further_path s p.subtype it.2 (Arguments a) rest legal selects) r
      ∙ ap (λ y. standing.Part r (path_part s y rest).subtype) (sym same)
  path_ends p (MoreSelectors (Attribute name) rest) legal r =
      (let no = (first_part v.scope p.subtype (Attribute name) rest legal).component in absurd cc)

-- ---- the words of a part

load_words : (r : Region) (n : ℕ) → has_operands (loaded_at r (capped n)) ≡ true → capped n ≡ n
load_words r n h = by_count (nat_eq (capped n) 1) refl h
  where
    by_count : (b : Bool) → nat_eq (capped n) 1 ≡ b → has_operands (cond b (op.LoadIndexed r) (op.LoadBlock r (capped n))) ≡ true → capped n ≡ n
    by_count true is e = (let one : capped n ≡ 1 = search rules in omega (arith, one))
    by_count false is e = sym (block_words (capped n) n refl e)

module _ (v : Visible) (first : Identifier) (slot : Slot) (there : slot_of v first.name ≡ Some slot) (d size : ℕ) where
  load_changes : has_operands (loaded_at slot.region (capped size)) ≡ true → Changes (Suits v) (loaded_at slot.region (capped size)) (d + 1) (d + size)
  load_changes h = by_count (nat_eq (capped size) 1) refl h (load_words slot.region size h)
    where
      by_count : (b : Bool) → nat_eq (capped size) 1 ≡ b → has_operands (cond b (op.LoadIndexed slot.region) (op.LoadBlock slot.region (capped size))) ≡ true
          → capped size ≡ size → Changes (Suits v) (cond b (op.LoadIndexed slot.region) (op.LoadBlock slot.region (capped size))) (d + 1) (d + size)
      by_count true is e same = (let one : capped size ≡ 1 = search rules in record {
        operands = refl;
        names = λ i s g. g.region first.name slot there;
        takes = λ i s g. omega arith;
        leaves = λ i s g. omega (arith, one, same);
        stays = refl;
        is_none = refl;
      })
      by_count false is e same = record {
        operands = e;
        names = λ i s g. g.region first.name slot there;
        takes = λ i s g. omega arith;
        leaves = λ i s g. omega (arith, same);
        stays = refl;
        is_none = refl;
      }

load_fits : (r : Region) (s : Scope) (t : Subtype) (X : Type 0) → (IsUnfit s t → X) → (has_operands (loaded_at r (capped (words_of s t))) ≡ true) ⊎ X
load_fits r s t X unfit = by_count (nat_eq (capped (words_of s t)) 1)
  where
    by_block : (b : Bool) → is_block (capped (words_of s t)) ≡ b → (is_block (capped (words_of s t)) ≡ true) ⊎ X
    by_block true is = inl is
    by_block false is = inr (unfit (no_block s t (capped (words_of s t)) refl is))

    by_count : (b : Bool) → (has_operands (cond b (op.LoadIndexed r) (op.LoadBlock r (capped (words_of s t)))) ≡ true) ⊎ X
    by_count true = inl refl
    by_count false = by_block (is_block (capped (words_of s t))) refl

module _ (v : Visible) (sound : SoundScope v.scope) (first : Identifier) (all : SelectorTrees) (r : Role) (t : Subtype) (slot : Slot)
    (legal : IsLegalExpression v.scope (tree.Named first all)) (stands : stands_first v.scope (number_of v.scope first.name) ≡ standing.Part r t)
    (valueless : fixed_value (standing_of v.scope first all) ≡ None) (there : slot_of v first.name ≡ Some slot)
    (parts : IsLegalPath v.scope t all → is_integers (form_at v.scope t.type_number) ≡ true → ⊥) where
  abbrev path : IsLegalPath v.scope t all
  path = whole_path v.scope sound first all r t legal stands valueless

  part_stored : (g : Package) → NamesStored (Sees g v) first all t (shape_of v.scope t) slot.region slot.offset
  part_stored g pl view sees = by_part here_.denotes
    where
      here_ : IsHere v.scope pl first.name all (standing.Part r t)
      here_ = subst (λ u. IsHere v.scope pl first.name all u) stands (legal_here v.scope pl sees.names.agrees first all legal)

      by_part : MeansPart v.scope pl.scope (meaning_of pl first.name) t
          → (x : Value)
          × (fixed_name pl first all ≡ None)
          × (meaning_of pl first.name ≡ IsObject t x)
          × Lies (view.words slot.region) slot.offset x
          × (has_shape (shape_of v.scope t) x ≡ true)
          × (length (view.words slot.region) ≤ 65536)
      by_part (inr parameter) = absurd (parts path parameter.integers)
      by_part (inl object) = (
        object.value,
        here_.same ∙ ap (λ u. fixed_value (select_all v.scope u all)) (sym stands) ∙ valueless,
        object.is,
        sees.names.objects first.name slot t object.value there object.is,
        object.suited,
        sees.unit.small slot.region,
      )

  module _ (quiet : QuietStays) (sized : ValuesHaveWords) (places : PartsHavePlaces) (d : ℕ) (last : PartAt) (a : Piece) (q : PathWorks (HasUnfitObject v) v d (whole_of t) last all a) where
    abbrev whole : ExprTree
    whole = tree.Named first all

    abbrev size : ℕ
    size = words_of v.scope last.subtype

    abbrev load : Operation
    load = loaded_at slot.region (capped size)

    abbrev push : Operation
    push = op.Push (pos slot.offset +ℤ last.shift)

    pub part_works : Works v d size whole (part_code v d slot last a)
    part_works =
        let top = d + peak v.scope whole in
        let below : words_below v.scope (stands_first v.scope (number_of v.scope first.name)) ≡ 1 = ap (words_below v.scope) stands in
        let some = selectors_some v.scope 1 all in
        record {
          long = 1 + q.long + 1;
          few = (let few = q.few in omega (arith, few));
          fits = fits_then (Suits v) (1 + q.long) 1 top d (d + 1) (d + size) (one d push ▸ a) (one (d + 1) load)
              (fits_then (Suits v) 1 q.long top d (d + 1) (d + 1) (one d push) a
              (fits_one (Suits v) top d (d + 1) push (omega arith) (pushes (Suits v) d (pos slot.offset +ℤ last.shift)))
              (fits_more (Suits v) q.long q.long (d + selectors_peak v.scope 1 all) top (d + 1) (d + 1) a (omega arith)
              (subst (λ k. d + selectors_peak v.scope 1 all ≤ d + max (width_of v.scope whole) (selectors_peak v.scope k all)) (sym below) (omega arith)) q.fits))
              (fits_load (Suits v) top (d + 1) (d + size) load
              (subst (λ k. d + 1 ≤ d + max (width_of v.scope whole) (selectors_peak v.scope k all)) (sym below) (omega (arith, some)))
              (load_fits slot.region v.scope last.subtype (HasUnfitObject v) q.fit) (load_changes v first slot there d size));
          computes = λ i from to h g.
              let both = both_stand i from to (one d push ▸ a) (one (d + 1) load) h in
              let front = both_stand i from both.mid (one d push) a both.first in
              let pushed = one_stands i from front.mid d push front.first in
              let loads = one_stands i both.mid to (d + 1) load both.second in
              let next : front.mid ≡ from + 1 = omega (arith, pushed.ends) in
              subst (λ n. Computes i (library_of g) (Sees g v) from n whole) (sym loads.ends)
              (computes_part quiet sized places i (library_of g) (Sees g v) slot.region from both.mid slot.offset last.shift first all t last.subtype
              (shape_of v.scope t) (shape_of v.scope last.subtype) (let up = front.on_ in omega (arith, up, next)) (part_stored g) (near_close last.shift q.near)
              (d, pushed.there)
              (subst (λ n. IsPath i (library_of g) (Sees g v) n both.mid last.shift t (shape_of v.scope t) all last.subtype (shape_of v.scope last.subtype)) next
              (subst (λ z. IsPath i (library_of g) (Sees g v) front.mid both.mid z t (shape_of v.scope t) all last.subtype (shape_of v.scope last.subtype))
              (all_left last.shift) (q.goes i front.mid both.mid front.second g)))
              (subst (λ n. At i both.mid (loaded_at slot.region n)) (load_words slot.region size loads.operands) (d + 1, loads.there)));
        }
