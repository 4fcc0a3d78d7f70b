-- The words of formal parameters, one after the other: those that are passed, and where each stands.
use Rattle.std.proofs.Common.{◌≡◌, ℕ, suc, ◌+◌, ◌<◌, ◌≤◌, ◌++◌, List, [], ◌∷◌, length, map, drop, Some, refl, sym, ap, ◌∙◌, subst, arith}
use Rattle.std.specs.Prelude.{get_or}
use Rattle.std.proofs.lemmas.List.{at_drop_more, drop_all, length-append}
use Rattle.ada_tree.specs.declared.declaration.Formal.{Formal}
use Rattle.ada_tree.specs.declared.declaration.Mode.{Mode}
use Rattle.ada_tree.specs.declared.declaration.Mode.TheVariants as mode
use Rattle.ada_tree.specs.Size.{total}
use Rattle.types.specs.declared.entity.Subtype.{Subtype}
use Rattle.types.specs.Layouts.{words_of}
use Rattle.types.specs.Scopes.{Scope}
use Rattle.type_rules.specs.SubtypeNames.{subtype_of}
use Rattle.expr_soundness.specs.declaration_rules.specs.BodyNames.{formals_scope}
use Rattle.expr_code.specs.declared.visible.Visible.{Visible}
use Rattle.part_code.specs.Bounds.{words_if_any, words_named}
use Rattle.part_code.specs.Formals.{PlacesFormals, StandInTurn, StandsAt, no_subprogram, passed_for, slot_for}
use Rattle.part_code.specs.declared.frame_words.FrameWords.{FrameWords}
use Rattle.part_code.specs.declared.formals.PlacedFormal.{PlacedFormal}
use Rattle.part_code.specs.declared.formals.PlacedFormals.{PlacedFormals}
use Rattle.part_code.specs.Emitting.{HasEntries}
use Rattle.part_code.proofs.Lists.{append_again, append_none}

-- ---- the words that are passed

pub passed_named : (s : Scope) (f : Formal) (t : Subtype) (m : Mode) → subtype_of s f.subtype ≡ Some t → f.mode ≡ m
    → passed_for s f ≡ elim m [ mode.In ↦ words_of s t | mode.Out ↦ 1 | mode.InOut ↦ suc (words_of s t) ]
passed_named s f t m named is =
    ap (λ q. elim q [ mode.In ↦ words_named s f.subtype | mode.Out ↦ 1 | mode.InOut ↦ suc (words_named s f.subtype) ]) is
    ∙ ap (λ n. elim m [ mode.In ↦ n | mode.Out ↦ 1 | mode.InOut ↦ suc n ]) (ap (words_if_any s) named)

pub passed_next : (s : Scope) (fs : List Formal) (n : ℕ) (f : Formal) → n < length fs → f ≡ get_or fs n f
    → total (passed_for s) (drop n fs) ≡ passed_for s f + total (passed_for s) (drop (n + 1) fs)
passed_next s fs n f less is =
    at_drop_more (total (passed_for s)) fs n f less ∙ ap (λ y. passed_for s y + total (passed_for s) (drop (n + 1) fs)) (sym is)

pub passed_done : (s : Scope) (fs : List Formal) (n : ℕ) → length fs ≤ n → total (passed_for s) (drop n fs) ≡ 0
passed_done s fs n up = ap (total (passed_for s)) (drop_all n fs up)

-- ---- where each stands

-- what was placed so far, in front of what is placed from there on
abbrev pub PlacedSoFar : Scope → (start : ℕ) → List Formal → (n from out : ℕ) → List PlacedFormal → Type 0
PlacedSoFar s start fs n from out xs =
    (rest : List PlacedFormal) (last top : ℕ) → StandInTurn s from out (drop n fs) rest last top → StandInTurn s 0 start fs (xs ++ rest) last top

pub placed_next : (s : Scope) (start : ℕ) (fs : List Formal) (n from out next behind : ℕ) (xs : List PlacedFormal) (f : Formal) (x : PlacedFormal) → n < length fs
    → f ≡ get_or fs n f
    → PlacedSoFar s start fs n from out xs
    → subtype_of s f.subtype ≡ Some x.subtype → x.mode ≡ f.mode → StandsAt f.mode (words_of s x.subtype) from out x next behind
    → PlacedSoFar s start fs (n + 1) next behind (xs ++ x ∷ [])
placed_next s start fs n from out next behind xs f x less is so_far named moded stands = λ rest last top h.
    subst (λ l. StandInTurn s 0 start fs l last top) (sym (append_again xs (x ∷ []) rest))
    (so_far (x ∷ rest) last top
    (subst (λ l. StandInTurn s from out l (x ∷ rest) last top)
    (ap (λ y. y ∷ drop (n + 1) fs) is ∙ sym (at_drop_more (λ l. l) fs n f less))
    (next, behind, named, moded, stands, h)))

pub placed_all : (s : Scope) (start : ℕ) (fs : List Formal) (n from out : ℕ) (xs : List PlacedFormal) → length fs ≤ n → PlacedSoFar s start fs n from out xs
    → StandInTurn s 0 start fs xs from out
placed_all s start fs n from out xs up so_far =
    subst (λ l. StandInTurn s 0 start fs l from out) (append_none xs)
    (so_far [] from out (subst (λ l. StandInTurn s from out l [] from out) (sym (drop_all n fs up)) (refl, refl)))

-- the first of those that are not copied in stands behind what is passed
pub passed_placed : (base : Scope) (fs : List Formal) (xs : List PlacedFormal) (from out last top : ℕ) → StandInTurn base from out fs xs last top
    → last ≡ from + total (passed_for base) fs
passed_placed base [] [] from out last top h = (let e = h.0 in omega (arith, e))
passed_placed base [] (x ∷ xs) from out last top h = absurd h
passed_placed base (f ∷ fs) [] from out last top h = absurd h
passed_placed base (f ∷ fs) (x ∷ xs) from out last top h =
    let rest = passed_placed base fs xs h.0 h.1 last top h.5 in
    let own = passed_named base f x.subtype f.mode h.2 refl in
    by_mode f.mode (words_of base x.subtype) (passed_for base f) own h.4 rest
  where
    by_mode : (m : Mode) (many own : ℕ) → own ≡ elim m [ mode.In ↦ many | mode.Out ↦ 1 | mode.InOut ↦ suc many ] → StandsAt m many from out x h.0 h.1
        → last ≡ h.0 + total (passed_for base) fs
        → last ≡ from + (own + total (passed_for base) fs)
    by_mode mode.In many own is s e = let n = s.2 in omega (arith, is, n, e)
    by_mode mode.Out many own is s e = let n = s.2 in omega (arith, is, n, e)
    by_mode mode.InOut many own is s e = let n = s.2 in omega (arith, is, n, e)

-- ---- entries for the names of parameters

pub placed_long : (s : Scope) (fs : List Formal) (xs : List PlacedFormal) (from out last top : ℕ) → StandInTurn s from out fs xs last top → length xs ≡ length fs
placed_long s [] [] from out last top h = refl
placed_long s [] (x ∷ xs) from out last top h = absurd h
placed_long s (f ∷ fs) [] from out last top h = absurd h
placed_long s (f ∷ fs) (x ∷ xs) from out last top h = ap suc (placed_long s fs xs h.0 h.1 last top h.5)

mapped_long : {A B : Type 0} (f : A → B) (xs : List A) → length (map f xs) ≡ length xs
mapped_long f [] = refl
mapped_long f (x ∷ xs) = ap suc (mapped_long f xs)

pub formals_entries : (v later : Visible) (fs : List Formal) (words : FrameWords) (placed : PlacedFormals) → PlacesFormals v fs later words placed → HasEntries v
    → length (formals_scope v.scope fs) ≡ length v.scope + length fs
    → HasEntries later
formals_entries v later fs words placed p entries many =
    let long = placed_long v.scope fs placed.formals.items 0 placed.passed placed.passed words.taken p.stand in
    let scope = ap length p.scope ∙ many in
    let slots = ap length p.slots ∙ length-append v.slots (map slot_for placed.formals.items) in
    let subprograms = ap length p.subprograms ∙ length-append v.subprograms (map no_subprogram placed.formals.items) in
    let a = mapped_long slot_for placed.formals.items in
    let b = mapped_long no_subprogram placed.formals.items in
    let c = entries.slots in
    let d = entries.subprograms in
    record {
      slots = omega (arith, slots, a, long, scope, c);
      subprograms = omega (arith, subprograms, b, long, scope, d);
    }
