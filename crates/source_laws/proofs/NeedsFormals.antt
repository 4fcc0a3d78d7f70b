-- What formals need: their words in the frame, first values on the operand stack, and what is given back; and what is visible behind them.
use Rattle.std.proofs.Common.{◌≡◌, ◌≤◌, ◌+◌, ◌*◌, ℕ, suc, [], ◌∷◌, List, length, false, Option, Some, None, refl, sym, ap, ◌∙◌, subst, arith}
use Rattle.std.proofs.lemmas.List.{append-nil}
use Rattle.std.proofs.Math.Nat.{max-le}
use Rattle.ada_tree.specs.declared.declaration.Formal.{Formal}
use Rattle.ada_tree.specs.declared.declaration.Mode.{Mode}
use Rattle.ada_tree.specs.declared.declaration.Mode.TheVariants as mode
use Rattle.ada_tree.specs.Size.{total}
use Rattle.types.specs.declared.entity.Subtype.{Subtype}
use Rattle.types.specs.Layouts.{words_of}
use Rattle.types.specs.Scopes.{Scope}
use Rattle.expr_soundness.specs.type_rules.specs.SubtypeNames.{subtype_of}
use Rattle.program_soundness.specs.declaration_rules.specs.BodyNames.{formal_role, formal_scope, formals_scope}
use Rattle.expr_soundness.proofs.Widening.{subtype_known}
use Rattle.expr_code.specs.declared.visible.Visible.{Visible}
use Rattle.part_code.specs.Bounds.{formals_words, words_if_any, words_named}
use Rattle.part_code.specs.Needs.{all_given, formals_frame, outs_needs}
use Rattle.stmt_code.specs.WholeRefusals.{from_behind, out_behind, placed_formals, placed_if}
use Rattle.part_code.specs.declared.formals.PlacedFormal.{PlacedFormal}
use Rattle.stmt_code.proofs.FormalNames.{AreNamed, IsBehind, all_behind, formal_known, named_there, one_behind, visible_there}
use Rattle.source_laws.specs.Depths.{IsSmallScope}
use Rattle.source_laws.proofs.NeedsScopes.{few_words, small_named, words_kept}

-- ---- what is visible behind formals

module _ (s u : Scope) (f : Formal) (t : Subtype) (h : IsBehind s u) (named : subtype_of s f.subtype ≡ Some t) where
  one_small : IsSmallScope s → IsSmallScope u → words_of s t ≤ 64 → IsSmallScope (formal_scope u f)
  one_small first small few =
      let typed = subtype_known u f.subtype t small.sound (named_there s u f t h named) in
      let same : words_of u t ≡ words_of s t = ap (λ w. words_of w t) h.is ∙ words_kept s h.more t (subtype_known s f.subtype t first.sound named) in
      subst IsSmallScope (sym (visible_there s u f t h named))
      (small_named u f.name.name (formal_role f.mode) t small (formal_known f.mode u t typed) (few_words (words_of u t) (omega (arith, few, same))))

-- ---- their words

-- those in front of them and those behind them are the same
words_same : (s behind : Scope) (fs : List Formal) → IsSmallScope s → IsBehind s behind → AreNamed s fs
    → total (λ f. words_named s f.subtype) fs ≡ formals_words s behind fs
words_same s behind [] small h named = refl
words_same s behind (f ∷ fs) small h named =
    let t = named.0.0 in
    let one : words_named s f.subtype ≡ words_if_any behind (subtype_of s f.subtype) =
    ap (words_if_any s) named.0.1 ∙ sym (words_kept s h.more t (subtype_known s f.subtype t small.sound named.0.1)) ∙ ap (λ w. words_of w t) (sym h.is)
    ∙ ap (words_if_any behind) (sym named.0.1) in
    let rest = words_same s behind fs small h named.1 in
    λ j. one j + rest j

small_behind : (s u : Scope) (fs : List Formal) → IsSmallScope s → IsBehind s u → IsSmallScope u → AreNamed s fs
    → total (λ f. words_named s f.subtype) fs ≤ 64 → IsSmallScope (formals_scope u fs)
small_behind s u [] first h small named few = small
small_behind s u (f ∷ fs) first h small named few =
    let is = ap (words_if_any s) named.0.1 in
    small_behind s (formal_scope u f) fs first (one_behind s u f named.0.0 h named.0.1)
    (one_small s u f named.0.0 h named.0.1 first small (omega (arith, few, is))) named.1 (omega (arith, few))

pub small_formals : (s : Scope) (fs : List Formal) → IsSmallScope s → AreNamed s fs → formals_words s (formals_scope s fs) fs ≤ 64
    → IsSmallScope (formals_scope s fs)
small_formals s fs small named few =
    let same = words_same s (formals_scope s fs) fs small (all_behind s fs named) named in
    small_behind s s fs small (record { more = []; is = sym (append-nil s) }) small named (omega (arith, few, same))

abbrev passed_by : Mode → ℕ → ℕ
passed_by m words = elim m [ mode.In ↦ words | mode.Out ↦ 1 | mode.InOut ↦ suc words ]

abbrev out_by : Mode → ℕ → ℕ
out_by m words = elim m [ mode.In ↦ 0 | mode.Out ↦ words | mode.InOut ↦ 0 ]

-- an address besides, where there is one
placed_most : (m : Mode) (words : ℕ) → passed_by m words + out_by m words ≤ suc words
placed_most mode.In words = omega arith
placed_most mode.Out words = omega arith
placed_most mode.InOut words = omega arith

framed_most : (s : Scope) (fs : List Formal) → formals_frame s fs ≤ length fs + total (λ f. words_named s f.subtype) fs
framed_most s [] = omega arith
framed_most s (f ∷ fs) =
    let one = placed_most f.mode (words_named s f.subtype) in
    let more = framed_most s fs in
    omega (arith, one, more)

pub frame_few : (s : Scope) (fs : List Formal) → IsSmallScope s → AreNamed s fs → formals_frame s fs ≤ length fs + formals_words s (formals_scope s fs) fs
frame_few s fs small named =
    let most = framed_most s fs in
    let same = words_same s (formals_scope s fs) fs small (all_behind s fs named) named in
    omega (arith, most, same)

-- ---- first values, and what is given back

out_low : (v : Visible) (m : Mode) (t : Subtype) (from out : ℕ) (rest : List PlacedFormal) → words_of v.scope t ≤ 64 → (outs_needs v rest).stack ≤ 65
    → (outs_needs v (placed_if m from out (Some t) rest)).stack ≤ 65
out_low v mode.In t from out rest few h = max-le (omega arith) h
out_low v mode.Out t from out rest few h = max-le (omega (arith, few)) h
out_low v mode.InOut t from out rest few h = max-le (omega arith) h

out_frame : (v : Visible) (m : Mode) (t : Subtype) (from out : ℕ) (rest : List PlacedFormal) → (outs_needs v rest).frame ≤ 0
    → (outs_needs v (placed_if m from out (Some t) rest)).frame ≤ 0
out_frame v mode.In t from out rest h = max-le (omega arith) h
out_frame v mode.Out t from out rest h = max-le (omega arith) h
out_frame v mode.InOut t from out rest h = max-le (omega arith) h

out_fit : (v : Visible) (m : Mode) (t : Subtype) (from out : ℕ) (rest : List PlacedFormal) → (outs_needs v rest).unfit ≡ false
    → (outs_needs v (placed_if m from out (Some t) rest)).unfit ≡ false
out_fit v mode.In t from out rest h = h
out_fit v mode.Out t from out rest h = h
out_fit v mode.InOut t from out rest h = h

given_low : (s : Scope) (m : Mode) (t : Subtype) (from out : ℕ) (rest : List PlacedFormal) (n : ℕ) → all_given s rest ≤ n
    → all_given s (placed_if m from out (Some t) rest) ≤ 2 + words_of s t + n
given_low s mode.In t from out rest n h = omega (arith, h)
given_low s mode.Out t from out rest n h = omega (arith, h)
given_low s mode.InOut t from out rest n h = omega (arith, h)

module _ (v : Visible) (s : Scope) where
  if_out : (m : Mode) (o : Option Subtype) (from out : ℕ) (rest : List PlacedFormal) → words_if_any v.scope o ≤ 64 → (outs_needs v rest).stack ≤ 65
      → (outs_needs v (placed_if m from out o rest)).stack ≤ 65
  if_out m (Some t) from out rest few h = out_low v m t from out rest few h
  if_out m None from out rest few h = omega arith

  if_frame : (m : Mode) (o : Option Subtype) (from out : ℕ) (rest : List PlacedFormal) → (outs_needs v rest).frame ≤ 0
      → (outs_needs v (placed_if m from out o rest)).frame ≤ 0
  if_frame m (Some t) from out rest h = out_frame v m t from out rest h
  if_frame m None from out rest h = omega arith

  if_fit : (m : Mode) (o : Option Subtype) (from out : ℕ) (rest : List PlacedFormal) → (outs_needs v rest).unfit ≡ false
      → (outs_needs v (placed_if m from out o rest)).unfit ≡ false
  if_fit m (Some t) from out rest h = out_fit v m t from out rest h
  if_fit m None from out rest h = refl

  if_given : (m : Mode) (o : Option Subtype) (from out : ℕ) (rest : List PlacedFormal) (n : ℕ) → all_given v.scope rest ≤ n
      → all_given v.scope (placed_if m from out o rest) ≤ 2 + words_if_any v.scope o + n
  if_given m (Some t) from out rest n h = given_low v.scope m t from out rest n h
  if_given m None from out rest n h = omega arith

  pub outs_low : (fs : List Formal) (from out : ℕ) → formals_words s v.scope fs ≤ 64 → (outs_needs v (placed_formals s from out fs)).stack ≤ 65
  outs_low [] from out few = omega arith
  outs_low (f ∷ fs) from out few =
      let m = f.mode in
      let next = from_behind m (words_named s f.subtype) from in
      let later = out_behind m (words_named s f.subtype) out in
      if_out m (subtype_of s f.subtype) from out (placed_formals s next later fs) (omega (arith, few)) (outs_low fs next later (omega (arith, few)))

  pub outs_frame : (fs : List Formal) (from out : ℕ) → (outs_needs v (placed_formals s from out fs)).frame ≤ 0
  outs_frame [] from out = omega arith
  outs_frame (f ∷ fs) from out =
      let m = f.mode in
      let next = from_behind m (words_named s f.subtype) from in
      let later = out_behind m (words_named s f.subtype) out in
      if_frame m (subtype_of s f.subtype) from out (placed_formals s next later fs) (outs_frame fs next later)

  pub outs_fit : (fs : List Formal) (from out : ℕ) → (outs_needs v (placed_formals s from out fs)).unfit ≡ false
  outs_fit [] from out = refl
  outs_fit (f ∷ fs) from out =
      let m = f.mode in
      let next = from_behind m (words_named s f.subtype) from in
      let later = out_behind m (words_named s f.subtype) out in
      if_fit m (subtype_of s f.subtype) from out (placed_formals s next later fs) (outs_fit fs next later)

  pub given_few : (fs : List Formal) (from out : ℕ) → all_given v.scope (placed_formals s from out fs) ≤ 2 * length fs + formals_words s v.scope fs
  given_few [] from out = omega arith
  given_few (f ∷ fs) from out =
      let m = f.mode in
      let next = from_behind m (words_named s f.subtype) from in
      let later = out_behind m (words_named s f.subtype) out in
      let one = if_given m (subtype_of s f.subtype) from out (placed_formals s next later fs) (2 * length fs + formals_words s v.scope fs)
      (given_few fs next later) in
      omega (arith, one)
