-- The words that a subprogram is passed and gives back are those that calls of its profile take.
use Rattle.std.proofs.Common.{◌≡◌, ℕ, suc, ◌+◌, List, [], ◌∷◌, map, None, Some, Option, refl, sym, ap, ◌∙◌, arith}
use Rattle.ada_tree.specs.declared.declaration.Formal.{Formal}
use Rattle.ada_tree.specs.declared.declaration.Mode.{Mode}
use Rattle.ada_tree.specs.declared.declaration.Mode.TheVariants as mode
use Rattle.ada_tree.specs.ExpressionTree.{ExprTree}
use Rattle.ada_tree.specs.ProgramTree.{BodyTree}
use Rattle.ada_tree.specs.Size.{total}
use Rattle.types.specs.declared.entity.FormalParameter.{FormalParameter}
use Rattle.types.specs.declared.entity.Subtype.{Subtype}
use Rattle.types.specs.Laws.{ShapesStay}
use Rattle.types.specs.Layouts.{words_of}
use Rattle.types.specs.Scopes.{Scope}
use Rattle.type_rules.specs.ProfileRules.{formal_and, formal_parameters}
use Rattle.type_rules.specs.SubtypeNames.{subtype_of}
use Rattle.declaration_rules.specs.Laws.{NamesAreAdded}
use Rattle.expr_soundness.specs.Agreeing.{parameter_subtype}
use Rattle.expr_soundness.specs.SoundScopes.{AreIn, IsKnown, SoundScope}
use Rattle.expr_soundness.proofs.Positions.{same_some}
use Rattle.expr_soundness.proofs.Widening.{subtype_known}
use Rattle.expr_code.specs.declared.visible.Visible.{Visible}
use Rattle.part_code.specs.Emitting.{HasEntries}
use Rattle.part_code.specs.Formals.{StandInTurn, StandsAt, passed_for, returned_more, words_returned}
use Rattle.stmt_code.specs.Subprograms.{AddsFunction, AddsProcedure, IsCalledFunction, IsCalledProcedure}
use Rattle.part_code.specs.Suiting.{passed_width, returned_width}
use Rattle.stmt_code.specs.declared.draft.Draft.{Draft}
use Rattle.part_code.specs.declared.formals.PlacedFormal.{PlacedFormal}
use Rattle.stmt_code.specs.declared.subprogram.SubprogramWords.{SubprogramWords}
use Rattle.part_code.proofs.FormalWords.{passed_named, passed_placed}
use Rattle.stmt_code.proofs.Keeping.{wider}

-- ---- the formals of a profile, one by one

pub record IsFirst (s : Scope) (f : Formal) (fs : List Formal) (all : List FormalParameter) : Type 0 where
  pub subtype : Subtype
  pub rest : List FormalParameter
  pub named : subtype_of s f.subtype ≡ Some subtype
  pub others : formal_parameters s fs ≡ Some rest
  pub is : all ≡ (let p : FormalParameter = record { mode = f.mode; subtype = subtype } in p) ∷ rest

is_first : (s : Scope) (f : Formal) (fs : List Formal) (all : List FormalParameter) → formal_parameters s (f ∷ fs) ≡ Some all → IsFirst s f fs all
is_first s f fs all h = by_both (subtype_of s f.subtype) (formal_parameters s fs) refl refl h
  where
    by_both : (t : Option Subtype) (rest : Option (List FormalParameter)) → subtype_of s f.subtype ≡ t → formal_parameters s fs ≡ rest
        → formal_and f t rest ≡ Some all
        → IsFirst s f fs all
    by_both (Some t) (Some rest) named others k = record { subtype = t; rest = rest; named = named; others = others; is = sym (same_some _ all k) }
    by_both (Some t) None named others k = cc
    by_both None (Some rest) named others k = cc
    by_both None None named others k = cc

nothing_more : (n : ℕ) → 0 + n ≡ n
nothing_more n = omega arith

-- ---- what is passed

pub passed_widths : (s : Scope) (fs : List Formal) (all : List FormalParameter) → formal_parameters s fs ≡ Some all
    → total (passed_for s) fs ≡ total (passed_width s) all
passed_widths s [] all h = ap (total (passed_width s)) (same_some [] all h)
passed_widths s (f ∷ fs) all h =
    let x = is_first s f fs all h in
    (λ j. passed_named s f x.subtype f.mode x.named refl j + passed_widths s fs x.rest x.others j) ∙ ap (total (passed_width s)) (sym x.is)

-- where all are copied in, their values
pub values_passed : (s : Scope) (all : List FormalParameter) → AreIn all → total (passed_width s) all ≡ total (words_of s) (map parameter_subtype all)
values_passed s [] h = refl
values_passed s (f ∷ fs) h =
    λ j. ap (λ m. elim m [ mode.In ↦ words_of s f.subtype | mode.Out ↦ 1 | mode.InOut ↦ suc (words_of s f.subtype) ]) h.0 j + values_passed s fs h.1 j

-- ---- what comes back

module _ (s later : Scope) (sound : SoundScope s) (wide : (u : Subtype) → IsKnown s u → words_of later u ≡ words_of s u) where
  returned_one : (m : Mode) (many from out next behind : ℕ) (x : PlacedFormal) (words rest : ℕ) → StandsAt m many from out x next behind
      → returned_more x.address words rest ≡ elim m [ mode.In ↦ 0 | mode.Out ↦ suc words | mode.InOut ↦ suc words ] + rest
  returned_one mode.In many from out next behind x words rest h = ap (λ o. returned_more o words rest) h.0 ∙ sym (nothing_more rest)
  returned_one mode.Out many from out next behind x words rest h = ap (λ o. returned_more o words rest) h.0
  returned_one mode.InOut many from out next behind x words rest h = ap (λ o. returned_more o words rest) h.0

  pub returned_widths : (fs : List Formal) (xs : List PlacedFormal) (from out last top : ℕ) (all : List FormalParameter) → StandInTurn s from out fs xs last top
      → formal_parameters s fs ≡ Some all
      → words_returned later xs ≡ total (returned_width s) all
  returned_widths [] [] from out last top all h k = ap (total (returned_width s)) (same_some [] all k)
  returned_widths [] (x ∷ xs) from out last top all h k = absurd h
  returned_widths (f ∷ fs) [] from out last top all h k = absurd h
  returned_widths (f ∷ fs) (x ∷ xs) from out last top all h k =
      let p = is_first s f fs all k in
      let same : x.subtype ≡ p.subtype = same_some x.subtype p.subtype (sym h.2 ∙ p.named) in
      let words : words_of later x.subtype ≡ words_of s p.subtype =
      wide x.subtype (subtype_known s f.subtype x.subtype sound h.2) ∙ ap (words_of s) same in
      returned_one f.mode (words_of s x.subtype) from out h.0 h.1 x (words_of later x.subtype) (words_returned later xs) h.4
      ∙ (λ j. elim f.mode [ mode.In ↦ 0 | mode.Out ↦ suc (words j) | mode.InOut ↦ suc (words j) ]
      + returned_widths fs xs h.0 h.1 last top p.rest h.5 p.others j)
      ∙ ap (total (returned_width s)) (sym p.is)

-- ---- whole subprograms

module _ (stay : ShapesStay) (added : NamesAreAdded) (v : Visible) (old : Draft) (fs : List Formal) (b : BodyTree) (words : SubprogramWords) (new : Draft)
    (sound : SoundScope v.scope) (entries : HasEntries v) (adds : AddsProcedure v old fs b words new) where
  pub procedure_called : IsCalledProcedure v.scope fs words
  procedure_called = record {
    passed = λ all h.
        adds.passed ∙ passed_placed v.scope fs adds.placed.formals.items 0 adds.placed.passed adds.placed.passed adds.framed.taken adds.places.stand
        ∙ nothing_more (total (passed_for v.scope) fs) ∙ passed_widths v.scope fs all h;
    results = λ all h.
        adds.returns.high
        ∙ returned_widths v.scope adds.later.scope sound (wider stay added v adds.later fs adds.framed adds.placed sound entries adds.places) fs
        adds.placed.formals.items 0 adds.placed.passed adds.placed.passed adds.framed.taken all adds.places.stand h;
  }

module _ (stay : ShapesStay) (added : NamesAreAdded) (v : Visible) (old : Draft) (fs : List Formal) (result : Subtype) (value : ExprTree)
    (words : SubprogramWords) (new : Draft) (sound : SoundScope v.scope) (entries : HasEntries v) (adds : AddsFunction v old fs result value words new) where
  pub function_called : IsCalledFunction v.scope fs result words
  function_called = record {
    passed = λ all h in_.
        adds.passed ∙ passed_placed v.scope fs adds.placed.formals.items 0 adds.placed.passed adds.placed.passed adds.framed.taken adds.places.stand
        ∙ nothing_more (total (passed_for v.scope) fs) ∙ passed_widths v.scope fs all h ∙ values_passed v.scope all in_;
    results = λ known.
        adds.results ∙ sym adds.emits.single ∙ wider stay added v adds.later fs adds.framed adds.placed sound entries adds.places result known;
  }
