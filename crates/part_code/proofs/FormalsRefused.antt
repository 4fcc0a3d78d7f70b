-- What refuses words to one formal parameter refuses them to all.
use Rattle.std.proofs.Common.{◌≡◌, ◌≤◌, ◌<◌, ◌+◌, ◌∷◌, ℕ, zero, suc, List, [], drop, length, true, false, Some, None, refl, sym, ap, ◌∙◌, arith}
use Rattle.std.specs.Prelude.{get_or, max, nat_eq}
use Rattle.std.proofs.lemmas.Bool.{or_parts}
use Rattle.std.proofs.lemmas.Bool.Decides.{nat_tests}
use Rattle.std.proofs.lemmas.List.{at_drop_more}
use Rattle.ada_tree.specs.declared.declaration.Formal.{Formal}
use Rattle.ada_tree.specs.declared.declaration.Mode.{Mode}
use Rattle.ada_tree.specs.declared.declaration.Mode.TheVariants as mode
use Rattle.ada_tree.specs.Size.{total}
use Rattle.types.specs.declared.entity.Subtype.{Subtype}
use Rattle.types.specs.Layouts.{capped, words_of}
use Rattle.types.specs.Scopes.{Scope}
use Rattle.type_rules.specs.SubtypeNames.{subtype_of}
use Rattle.expr_code.specs.Refusing.{IsRefused}
use Rattle.expr_code.specs.declared.refusal.Refusal.{Refusal}
use Rattle.part_code.specs.Bounds.{words_if_any, words_named}
use Rattle.part_code.specs.Formals.{StandsAt, passed_for}
use Rattle.part_code.specs.Needs.{are_wordless, is_wordless, out_for, placed_end}
use Rattle.part_code.specs.declared.formals.PlacedFormal.{PlacedFormal}
use Rattle.part_code.proofs.FormalWords.{passed_named, passed_next}
use Rattle.part_code.proofs.Within.{plain_more}

-- each has words where all have
pub worded_among : (s : Scope) (fs : List Formal) (n : ℕ) (f : Formal) → n < length fs → f ≡ get_or fs n f → are_wordless s fs ≡ false → is_wordless s f ≡ false
worded_among s [] n f less is h = absurd (omega (arith, less))
worded_among s (g ∷ fs) zero f less is h = ap (is_wordless s) is ∙ (or_parts (is_wordless s g) (are_wordless s fs) h).0
worded_among s (g ∷ fs) (suc n) f less is h = worded_among s fs n f (omega (arith, less)) is (or_parts (is_wordless s g) (are_wordless s fs) h).1

-- ... it names a subtype, of values with words
pub nameless : (s : Scope) (f : Formal) → is_wordless s f ≡ false → subtype_of s f.subtype ≡ None → ⊥
nameless s f h is = let never : true ≡ false = sym (ap (λ o. nat_eq (words_if_any s o) 0) is) ∙ h in cc

pub worded : (s : Scope) (f : Formal) (t : Subtype) → is_wordless s f ≡ false → subtype_of s f.subtype ≡ Some t → 1 ≤ words_of s t
worded s f t h is = not_none (words_of s t) (sym (ap (λ o. nat_eq (words_if_any s o) 0) is) ∙ h)
  where
    not_none : (n : ℕ) → nat_eq n 0 ≡ false → 1 ≤ n
    not_none n k = grind (arith, nat_tests)

pub passed_refused : (s : Scope) (fs : List Formal) (n now start : ℕ) (f : Formal) (why : Refusal) → n < length fs → f ≡ get_or fs n f
    → now + total (passed_for s) (drop n fs) ≡ start + total (passed_for s) fs → IsRefused 0 (passed_for s f) why
    → IsRefused 0 (start + total (passed_for s) fs) why
passed_refused s fs n now start f why less is before r =
    let next = passed_next s fs n f less is in
    plain_more 0 0 (passed_for s f) (start + total (passed_for s) fs) (omega arith) (omega (arith, before, next)) why r

-- ---- where each stands

out_next : (s : Scope) (fs : List Formal) (n : ℕ) (f : Formal) → n < length fs → f ≡ get_or fs n f
    → total (out_for s) (drop n fs) ≡ out_for s f + total (out_for s) (drop (n + 1) fs)
out_next s fs n f less is = at_drop_more (total (out_for s)) fs n f less ∙ ap (λ y. out_for s y + total (out_for s) (drop (n + 1) fs)) (sym is)

-- the words of those that are not copied in
pub out_named : (s : Scope) (f : Formal) (t : Subtype) (m : Mode) → subtype_of s f.subtype ≡ Some t → f.mode ≡ m
    → out_for s f ≡ elim m [ mode.In ↦ 0 | mode.Out ↦ words_of s t | mode.InOut ↦ 0 ]
out_named s f t m named is =
    ap (λ q. elim q [ mode.In ↦ 0 | mode.Out ↦ words_named s f.subtype | mode.InOut ↦ 0 ]) is
    ∙ ap (λ n. elim m [ mode.In ↦ 0 | mode.Out ↦ n | mode.InOut ↦ 0 ]) (ap (words_if_any s) named)

-- so many words are passed in front of a place, and so many others stand in front of another
pub record PlacesWords (s : Scope) (start : ℕ) (fs : List Formal) (n from out : ℕ) : Type 0 where
  pub passed : from + total (passed_for s) (drop n fs) ≡ total (passed_for s) fs
  pub others : out + total (out_for s) (drop n fs) ≡ start + total (out_for s) fs

module _ (s : Scope) (start : ℕ) (fs : List Formal) (n from out : ℕ) (f : Formal) (t : Subtype) (less : n < length fs) (is : f ≡ get_or fs n f)
    (named : subtype_of s f.subtype ≡ Some t) (p : PlacesWords s start fs n from out) where
  pub words_go_on : (x : PlacedFormal) (next behind : ℕ) → StandsAt f.mode (words_of s t) from out x next behind → PlacesWords s start fs (n + 1) next behind
  words_go_on x next behind stands =
      by_mode f.mode refl stands
    where
      by_mode : (m : Mode) → f.mode ≡ m → StandsAt m (words_of s t) from out x next behind → PlacesWords s start fs (n + 1) next behind
      by_mode mode.In moded h =
          let one = passed_next s fs n f less is in let two = out_next s fs n f less is in
          let own = passed_named s f t mode.In named moded in let other = out_named s f t mode.In named moded in
          let first = p.passed in let second = p.others in let a = h.2 in let b = h.3 in
          record { passed = omega (arith, one, own, first, a); others = omega (arith, two, other, second, b) }
      by_mode mode.Out moded h =
          let one = passed_next s fs n f less is in let two = out_next s fs n f less is in
          let own = passed_named s f t mode.Out named moded in let other = out_named s f t mode.Out named moded in
          let first = p.passed in let second = p.others in let a = h.2 in let b = h.3 in
          record { passed = omega (arith, one, own, first, a); others = omega (arith, two, other, second, b) }
      by_mode mode.InOut moded h =
          let one = passed_next s fs n f less is in let two = out_next s fs n f less is in
          let own = passed_named s f t mode.InOut named moded in let other = out_named s f t mode.InOut named moded in
          let first = p.passed in let second = p.others in let a = h.2 in let b = h.3 in
          record { passed = omega (arith, one, own, first, a); others = omega (arith, two, other, second, b) }

  pub place_refused : (many : ℕ) (why : Refusal) → many ≡ capped (words_of s t) → IsRefused 0 (placed_end f.mode many from out) why
      → IsRefused 0 (max (total (passed_for s) fs) (start + total (out_for s) fs)) why
  place_refused many why wide r =
      plain_more 0 0 (placed_end f.mode many from out) (max (total (passed_for s) fs) (start + total (out_for s) fs)) (omega arith) (by_mode f.mode refl) why r
    where
      by_mode : (m : Mode) → f.mode ≡ m → placed_end m many from out ≤ max (total (passed_for s) fs) (start + total (out_for s) fs)
      by_mode mode.In moded =
          let one = passed_next s fs n f less is in let own = passed_named s f t mode.In named moded in let first = p.passed in
          omega (arith, one, own, first, wide)
      by_mode mode.Out moded =
          let one = passed_next s fs n f less is in let two = out_next s fs n f less is in
          let own = passed_named s f t mode.Out named moded in let other = out_named s f t mode.Out named moded in
          let first = p.passed in let second = p.others in
          omega (arith, one, own, first, two, other, second, wide)
      by_mode mode.InOut moded =
          let one = passed_next s fs n f less is in let own = passed_named s f t mode.InOut named moded in let first = p.passed in
          omega (arith, one, own, first, wide)
