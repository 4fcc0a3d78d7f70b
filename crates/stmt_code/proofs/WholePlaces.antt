-- Where the formal parameters of a body stand, and what is visible inside it, by definition.
use Rattle.std.proofs.Common.{◌≡◌, ◌+◌, ◌++◌, ◌∷◌, ℕ, List, [], map, refl, sym, ap, ◌∙◌, arith}
use Rattle.ada_tree.specs.declared.declaration.Formal.{Formal}
use Rattle.ada_tree.specs.declared.declaration.Mode.{Mode}
use Rattle.ada_tree.specs.declared.declaration.Mode.TheVariants as mode
use Rattle.ada_tree.specs.Size.{total}
use Rattle.types.specs.Layouts.{words_of}
use Rattle.types.specs.Scopes.{Scope}
use Rattle.expr_code.specs.declared.visible.Visible.{Visible}
use Rattle.part_code.specs.Bounds.{words_if_any, words_named}
use Rattle.part_code.specs.Formals.{PlacesFormals, StandInTurn, StandsAt, no_subprogram, passed_for, slot_for}
use Rattle.part_code.specs.Needs.{formals_frame, out_for}
use Rattle.part_code.proofs.FormalsRefused.{out_named}
use Rattle.stmt_code.specs.WholeRefusals.{formals_placed, formals_visible, from_behind, out_behind, placed_as, placed_formals, placed_if}
use Rattle.part_code.specs.declared.frame_words.FrameWords.{FrameWords}
use Rattle.part_code.specs.declared.formals.PlacedFormal.{PlacedFormal}
use Rattle.part_code.specs.declared.formals.PlacedFormals.{PlacedFormals}
use Rattle.part_code.proofs.FormalWords.{passed_placed}

-- ---- each one

placed_one : (m : Mode) (many from out : ℕ) (x : PlacedFormal) (next behind : ℕ) → x.mode ≡ m → StandsAt m many from out x next behind
    → (x ≡ placed_as m x.subtype from out) × (next ≡ from_behind m many from) × (behind ≡ out_behind m many out)
placed_one mode.In many from out x next behind is s =
    ((λ j. record { mode = is j; subtype = x.subtype; offset = s.1 j; address = s.0 j }), s.2, s.3)
placed_one mode.Out many from out x next behind is s =
    ((λ j. record { mode = is j; subtype = x.subtype; offset = s.1 j; address = s.0 j }), s.2, s.3)
placed_one mode.InOut many from out x next behind is s =
    ((λ j. record { mode = is j; subtype = x.subtype; offset = s.1 j; address = s.0 j }), s.2, s.3)

placed_is : (s : Scope) (fs : List Formal) (xs : List PlacedFormal) (from out last top : ℕ) → StandInTurn s from out fs xs last top
    → xs ≡ placed_formals s from out fs
placed_is s [] [] from out last top h = refl
placed_is s [] (x ∷ xs) from out last top h = absurd h
placed_is s (f ∷ fs) [] from out last top h = absurd h
placed_is s (f ∷ fs) (x ∷ xs) from out last top h =
    let many = words_named s f.subtype in
    let wide : words_of s x.subtype ≡ many = sym (ap (words_if_any s) h.2) in
    let one = placed_one f.mode (words_of s x.subtype) from out x h.0 h.1 h.3 h.4 in
    let next : h.0 ≡ from_behind f.mode many from = one.1 ∙ ap (λ n. from_behind f.mode n from) wide in
    let behind : h.1 ≡ out_behind f.mode many out = one.2 ∙ ap (λ n. out_behind f.mode n out) wide in
    let rest : xs ≡ placed_formals s (from_behind f.mode many from) (out_behind f.mode many out) fs =
    placed_is s fs xs h.0 h.1 last top h.5 ∙ (λ j. placed_formals s (next j) (behind j) fs) in
    (λ j. one.0 j ∷ rest j)
    ∙ sym (ap (λ o. placed_if f.mode from out o (placed_formals s (from_behind f.mode many from) (out_behind f.mode many out) fs)) h.2)

outs_placed : (s : Scope) (fs : List Formal) (xs : List PlacedFormal) (from out last top : ℕ) → StandInTurn s from out fs xs last top
    → top ≡ out + total (out_for s) fs
outs_placed s [] [] from out last top h = (let e = h.1 in omega (arith, e))
outs_placed s [] (x ∷ xs) from out last top h = absurd h
outs_placed s (f ∷ fs) [] from out last top h = absurd h
outs_placed s (f ∷ fs) (x ∷ xs) from out last top h =
    let rest = outs_placed s fs xs h.0 h.1 last top h.5 in
    let own = out_named s f x.subtype f.mode h.2 refl in
    by_mode f.mode (words_of s x.subtype) (out_for s f) own h.4 rest
  where
    by_mode : (m : Mode) (many own : ℕ) → own ≡ elim m [ mode.In ↦ 0 | mode.Out ↦ many | mode.InOut ↦ 0 ] → StandsAt m many from out x h.0 h.1
        → top ≡ h.1 + total (out_for s) fs
        → top ≡ out + (own + total (out_for s) fs)
    by_mode mode.In many own is st e = let n = st.3 in omega (arith, is, n, e)
    by_mode mode.Out many own is st e = let n = st.3 in omega (arith, is, n, e)
    by_mode mode.InOut many own is st e = let n = st.3 in omega (arith, is, n, e)

-- ---- all of them

module _ (v : Visible) (fs : List Formal) (later : Visible) (words : FrameWords) (placed : PlacedFormals) (p : PlacesFormals v fs later words placed) where
  passed_is : placed.passed ≡ total (passed_for v.scope) fs
  passed_is = let e = passed_placed v.scope fs placed.formals.items 0 placed.passed placed.passed words.taken p.stand in omega (arith, e)

  pub items_are : placed.formals.items ≡ formals_placed v.scope fs
  items_are =
      placed_is v.scope fs placed.formals.items 0 placed.passed placed.passed words.taken p.stand ∙ ap (λ n. placed_formals v.scope 0 n fs) passed_is

  pub taken_is : words.taken ≡ formals_frame v.scope fs
  taken_is = let e = outs_placed v.scope fs placed.formals.items 0 placed.passed placed.passed words.taken p.stand in omega (arith, e, passed_is)

  pub later_is : later ≡ formals_visible v fs
  later_is = λ j. record {
    scope = p.scope j;
    slots = (p.slots ∙ ap (λ l. v.slots ++ map slot_for l) items_are) j;
    subprograms = (p.subprograms ∙ ap (λ l. v.subprograms ++ map no_subprogram l) items_are) j;
    operations = p.operations j;
  }
