-- Formal parameters whose words were placed by a method stand as those of a program's parameters do.
use Rattle.std.proofs.Common.{◌≡◌, ℕ, ◌+◌, List, [], ◌∷◌, map, Option, Some, None, inl, inr, refl, sym, ap, ◌∙◌, subst}
use Rattle.std.specs.Prelude.{if◌then◌else◌}
use Rattle.ada_tree.specs.declared.declaration.Formal.{Formal}
use Rattle.ada_tree.specs.declared.declaration.Mode.{Mode}
use Rattle.ada_tree.specs.declared.declaration.Mode.TheVariants as mode
use Rattle.types.specs.Layouts.{words_of}
use Rattle.types.specs.Scopes.{Scope}
use Rattle.type_rules.specs.SubtypeNames.{subtype_of}
use Rattle.expr_soundness.specs.meaning.specs.Calls.{is_out}
use Rattle.expr_soundness.specs.meaning.specs.Programs.{parameter, subtype_named}
use Rattle.program_soundness.proofs.Listing.{Has}
use Rattle.expr_soundness.proofs.Positions.{same_some}
use Rattle.step_simulation.specs.part_code.specs.Formals.{AreInTurn, Placed, StandInTurn, StandsAt, addresses_from, outs_end, parameter_at, passed_end}
use Rattle.step_simulation.specs.part_code.specs.declared.formals.PlacedFormal.{PlacedFormal}

-- the parameters, each with the word where its value begins
abbrev pub placed_in : (program : Scope) → List Formal → List PlacedFormal → List Placed
placed_in s [] xs = []
placed_in s (f ∷ fs) [] = []
placed_in s (f ∷ fs) (x ∷ xs) = (parameter s f, x.offset) ∷ placed_in s fs xs

-- the words of the addresses
abbrev pub own_address : Option ℕ → List ℕ → List ℕ
own_address None rest = rest
own_address (Some a) rest = a ∷ rest

abbrev pub addresses_of : List PlacedFormal → List ℕ
addresses_of [] = []
addresses_of (x ∷ xs) = own_address x.address (addresses_of xs)

module _ (base program : Scope) where
  -- each names in front of the body the subtype that it has in a run
  abbrev pub AreTold : List Formal → Type 0
  AreTold fs = (f : Formal) → Has fs f → subtype_of base f.subtype ≡ Some (subtype_named program f.subtype)

  rest_told : (f : Formal) (fs : List Formal) → AreTold (f ∷ fs) → AreTold fs
  rest_told f fs told g h = told g (inr h)

  pub same_subtype : (f : Formal) (x : PlacedFormal) → subtype_of base f.subtype ≡ Some (subtype_named program f.subtype) → subtype_of base f.subtype ≡ Some x.subtype
      → x.subtype ≡ subtype_named program f.subtype
  same_subtype f x told named = same_some x.subtype (subtype_named program f.subtype) (sym named ∙ told)

  pub texts_placed : (fs : List Formal) (xs : List PlacedFormal) (from out last top : ℕ) → StandInTurn base from out fs xs last top
      → map parameter_at (placed_in program fs xs) ≡ map (parameter program) fs
  texts_placed [] [] from out last top h = refl
  texts_placed [] (x ∷ xs) from out last top h = absurd h
  texts_placed (f ∷ fs) [] from out last top h = absurd h
  texts_placed (f ∷ fs) (x ∷ xs) from out last top h = ap (λ l. parameter program f ∷ l) (texts_placed fs xs h.0 h.1 last top h.5)

  -- ---- what a parameter's mode says of its place

  abbrev TurnBy : Formal → PlacedFormal → List Placed → (from out : ℕ) → Mode → Type 0
  TurnBy f x rest from out m = elim m [
    | mode.In ↦ (x.offset ≡ from) × AreInTurn base (from + words_of base (subtype_named program f.subtype)) out rest
    | mode.Out ↦ (x.offset ≡ out) × AreInTurn base (from + 1) (out + words_of base (subtype_named program f.subtype)) rest
    | mode.InOut ↦ (x.offset ≡ from + 1) × AreInTurn base ((from + 1) + words_of base (subtype_named program f.subtype)) out rest
  ]

  turn_moved : {a b c d : ℕ} → a ≡ b → c ≡ d → (rest : List Placed) → AreInTurn base a c rest → AreInTurn base b d rest
  turn_moved {a} {b} {c} {d} first second rest h = subst (λ n. AreInTurn base b n rest) second (subst (λ n. AreInTurn base n c rest) first h)

  pub turn_placed : (fs : List Formal) (xs : List PlacedFormal) (from out last top : ℕ) → AreTold fs → StandInTurn base from out fs xs last top
      → AreInTurn base from out (placed_in program fs xs)
  turn_placed [] [] from out last top told h = tt
  turn_placed [] (x ∷ xs) from out last top told h = absurd h
  turn_placed (f ∷ fs) [] from out last top told h = absurd h
  turn_placed (f ∷ fs) (x ∷ xs) from out last top told h =
      let wide : words_of base x.subtype ≡ words_of base (subtype_named program f.subtype) = ap (words_of base) (same_subtype f x (told f (inl refl)) h.2) in
      by_mode f.mode (words_of base x.subtype) wide h.4 (turn_placed fs xs h.0 h.1 last top (rest_told f fs told) h.5)
    where
      by_mode : (m : Mode) (many : ℕ) → many ≡ words_of base (subtype_named program f.subtype) → StandsAt m many from out x h.0 h.1
          → AreInTurn base h.0 h.1 (placed_in program fs xs)
          → TurnBy f x (placed_in program fs xs) from out m
      by_mode mode.In many wide s rest = (s.1, turn_moved (s.2 ∙ ap (λ n. from + n) wide) s.3 (placed_in program fs xs) rest)
      by_mode mode.Out many wide s rest = (s.1, turn_moved s.2 (s.3 ∙ ap (λ n. out + n) wide) (placed_in program fs xs) rest)
      by_mode mode.InOut many wide s rest = (s.1, turn_moved (s.2 ∙ ap (λ n. (from + 1) + n) wide) s.3 (placed_in program fs xs) rest)

  pub addresses_placed : (fs : List Formal) (xs : List PlacedFormal) (from out last top : ℕ) → AreTold fs → StandInTurn base from out fs xs last top
      → addresses_from base from (placed_in program fs xs) ≡ addresses_of xs
  addresses_placed [] [] from out last top told h = refl
  addresses_placed [] (x ∷ xs) from out last top told h = absurd h
  addresses_placed (f ∷ fs) [] from out last top told h = absurd h
  addresses_placed (f ∷ fs) (x ∷ xs) from out last top told h =
      let wide : words_of base x.subtype ≡ words_of base (subtype_named program f.subtype) = ap (words_of base) (same_subtype f x (told f (inl refl)) h.2) in
      by_mode f.mode (words_of base x.subtype) wide h.4 (addresses_placed fs xs h.0 h.1 last top (rest_told f fs told) h.5)
    where
      by_mode : (m : Mode) (many : ℕ) → many ≡ words_of base (subtype_named program f.subtype) → StandsAt m many from out x h.0 h.1
          → addresses_from base h.0 (placed_in program fs xs) ≡ addresses_of xs
          → elim m [
            | mode.In ↦ addresses_from base (from + words_of base (subtype_named program f.subtype)) (placed_in program fs xs)
            | mode.Out ↦ from ∷ addresses_from base (from + 1) (placed_in program fs xs)
            | mode.InOut ↦ from ∷ addresses_from base ((from + 1) + words_of base (subtype_named program f.subtype)) (placed_in program fs xs)
          ]
          ≡ own_address x.address (addresses_of xs)
      by_mode mode.In many wide s e =
          ap (λ n. addresses_from base n (placed_in program fs xs)) (sym (s.2 ∙ ap (λ n. from + n) wide)) ∙ e ∙ ap (λ o. own_address o (addresses_of xs)) (sym s.0)
      by_mode mode.Out many wide s e =
          ap (λ l. from ∷ l) (ap (λ n. addresses_from base n (placed_in program fs xs)) (sym s.2) ∙ e) ∙ ap (λ o. own_address o (addresses_of xs)) (sym s.0)
      by_mode mode.InOut many wide s e =
          ap (λ l. from ∷ l) (ap (λ n. addresses_from base n (placed_in program fs xs)) (sym (s.2 ∙ ap (λ n. (from + 1) + n) wide)) ∙ e)
          ∙ ap (λ o. own_address o (addresses_of xs)) (sym s.0)

  pub end_placed : (fs : List Formal) (xs : List PlacedFormal) (from out last top : ℕ) → AreTold fs → StandInTurn base from out fs xs last top
      → passed_end base from (placed_in program fs xs) ≡ last
  end_placed [] [] from out last top told h = h.0
  end_placed [] (x ∷ xs) from out last top told h = absurd h
  end_placed (f ∷ fs) [] from out last top told h = absurd h
  end_placed (f ∷ fs) (x ∷ xs) from out last top told h =
      let wide : words_of base x.subtype ≡ words_of base (subtype_named program f.subtype) = ap (words_of base) (same_subtype f x (told f (inl refl)) h.2) in
      by_mode f.mode (words_of base x.subtype) wide h.4 (end_placed fs xs h.0 h.1 last top (rest_told f fs told) h.5)
    where
      by_mode : (m : Mode) (many : ℕ) → many ≡ words_of base (subtype_named program f.subtype) → StandsAt m many from out x h.0 h.1
          → passed_end base h.0 (placed_in program fs xs) ≡ last
          → elim m [
            | mode.In ↦ passed_end base (from + words_of base (subtype_named program f.subtype)) (placed_in program fs xs)
            | mode.Out ↦ passed_end base (from + 1) (placed_in program fs xs)
            | mode.InOut ↦ passed_end base ((from + 1) + words_of base (subtype_named program f.subtype)) (placed_in program fs xs)
          ]
          ≡ last
      by_mode mode.In many wide s e = ap (λ n. passed_end base n (placed_in program fs xs)) (sym (s.2 ∙ ap (λ n. from + n) wide)) ∙ e
      by_mode mode.Out many wide s e = ap (λ n. passed_end base n (placed_in program fs xs)) (sym s.2) ∙ e
      by_mode mode.InOut many wide s e = ap (λ n. passed_end base n (placed_in program fs xs)) (sym (s.2 ∙ ap (λ n. (from + 1) + n) wide)) ∙ e

  pub outs_placed : (fs : List Formal) (xs : List PlacedFormal) (from out last top : ℕ) → AreTold fs → StandInTurn base from out fs xs last top
      → outs_end base out (placed_in program fs xs) ≡ top
  outs_placed [] [] from out last top told h = h.1
  outs_placed [] (x ∷ xs) from out last top told h = absurd h
  outs_placed (f ∷ fs) [] from out last top told h = absurd h
  outs_placed (f ∷ fs) (x ∷ xs) from out last top told h =
      let wide : words_of base x.subtype ≡ words_of base (subtype_named program f.subtype) = ap (words_of base) (same_subtype f x (told f (inl refl)) h.2) in
      by_mode f.mode (words_of base x.subtype) wide h.4 (outs_placed fs xs h.0 h.1 last top (rest_told f fs told) h.5)
    where
      by_mode : (m : Mode) (many : ℕ) → many ≡ words_of base (subtype_named program f.subtype) → StandsAt m many from out x h.0 h.1
          → outs_end base h.1 (placed_in program fs xs) ≡ top
          → (if is_out m then outs_end base (out + words_of base (subtype_named program f.subtype)) (placed_in program fs xs) else outs_end base out (placed_in program fs xs)) ≡ top
      by_mode mode.In many wide s e = ap (λ n. outs_end base n (placed_in program fs xs)) (sym s.3) ∙ e
      by_mode mode.Out many wide s e = ap (λ n. outs_end base n (placed_in program fs xs)) (sym (s.3 ∙ ap (λ n. out + n) wide)) ∙ e
      by_mode mode.InOut many wide s e = ap (λ n. outs_end base n (placed_in program fs xs)) (sym s.3) ∙ e
