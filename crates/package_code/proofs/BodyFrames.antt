-- The frames of a body, made of what is visible in front of it and behind its parameters in the order of the text.
use Rattle.std.proofs.Common.{◌≡◌, ℕ, ◌+◌, ◌≤◌, List, [], ◌∷◌, ◌++◌, map, cond, Bool, true, false, Some, None, refl, sym, ap, ◌∙◌, subst, arith}
use Rattle.std.specs.Prelude.{if◌then◌else◌, is_some, ⊤}
use Rattle.ada_tree.specs.declared.declaration.Mode.{Mode}
use Rattle.ada_tree.specs.declared.declaration.Mode.TheVariants as mode
use Rattle.image.specs.declared.instruction.Region.TheVariants as regions
use Rattle.types.specs.declared.entity.Subtype.{Subtype}
use Rattle.types.specs.Entities.{Entity}
use Rattle.types.specs.Laws.{ShapesStay, ValuesHaveWords}
use Rattle.types.specs.Layouts.{words_of}
use Rattle.types.specs.Scopes.{Scope, form_of, is_visible, with_name}
use Rattle.types.specs.Shapes.{has_shape, shape_of, words}
use Rattle.types.specs.Places.{is_among}
use Rattle.types.specs.Values.{Value}
use Rattle.declaration_rules.specs.BodyNames.{formal_role}
use Rattle.expr_soundness.specs.Laws.{AgreementIsKept, ScopesAreSound}
use Rattle.expr_soundness.specs.SoundScopes.{IsKnown, SoundScope}
use Rattle.expr_soundness.specs.meaning.specs.Calls.{is_out}
use Rattle.expr_soundness.specs.meaning.specs.Programs.{Parameter, Program}
use Rattle.program_soundness.specs.step_soundness.specs.Objects.{IsOf}
use Rattle.program_soundness.proofs.WiderScopes.{form_with}
use Rattle.program_soundness.proofs.Formals.{AreNew, named_formal}
use Rattle.expr_code.specs.Seeing.{Package}
use Rattle.expr_code.specs.declared.visible.Slot.{Slot}
use Rattle.step_simulation.specs.part_code.specs.Layout.{IsLaidOut, Spares, Widens}
use Rattle.step_simulation.specs.part_code.specs.Resting.{Framed, NarrowsFrame}
use Rattle.stmt_code.proofs.Narrowing.{narrows_wider}
use Rattle.step_simulation.specs.part_code.specs.Formals.{AddsEach, AddsParameter, AreInTurn, Placed, addresses_from, outs_end, parameter_at, passed_end}
use Rattle.package_code.specs.Package.{HoldsAll, HoldsOne}
use Rattle.package_code.proofs.Building.{outs_of, taken_of}
use Rattle.package_code.proofs.HeldParameters.{Reached, none_among, value_begun, value_reached, value_spares}
use Rattle.package_code.proofs.HeldParameters as held
use Rattle.package_code.proofs.InFront.{known_inside}

-- ---- a name more changes no widths

words_with : ShapesStay → (s : Scope) (name : List ℕ) (e : Entity) (u : Subtype) → form_of (Some e) ≡ None → IsKnown s u
    → IsKnown (with_name s name e) u × (words_of (with_name s name e) u ≡ words_of s u)
words_with stay s name e u plain known = (ap is_some (form_with s name e u.type_number plain) ∙ known, by_test (is_visible s name))
  where
    by_test : (b : Bool) → words_of (cond b s (s ++ record { name = name; entity = e } ∷ [])) u ≡ words_of s u
    by_test true = refl
    by_test false = ap words (stay s (record { name = name; entity = e } ∷ []) u (known_inside s u known))

-- what is asked where a parameter that is not copied in is declared: it has words behind all others, and what is seen behind it is seen without it
pub record BeginsOut (g : Package) (base : Scope) (v : Framed) (x : Placed) (next : Framed) : Type 0 where
  pub laid : IsLaidOut g v
  pub many : words_of v.names.scope x.0.subtype ≡ words_of base x.0.subtype
  pub sound : SoundScope v.names.scope
  pub known : IsKnown v.names.scope x.0.subtype
  pub slot : Slot
  pub region : slot.region ≡ regions.Locals
  pub at : slot.offset ≡ x.1
  pub widens : Widens v x.0.name (formal_role x.0.mode) x.0.subtype slot next
  pub spares : Spares v x.0.subtype slot next
  pub narrows : NarrowsFrame g next v

abbrev pub OutsBegin : Package → Scope → Framed → List Placed → Framed → Type 0
OutsBegin g base v [] last = last ≡ v
OutsBegin g base v (x ∷ xs) last = (next : Framed) × BeginsOut g base v x next × OutsBegin g base next xs last

module _ (stay : ShapesStay) (base : Scope) where
  -- types that are visible in front of the body are visible, and their values have as many words
  pub record HasWidths (v : Framed) : Type 0 where
    pub known : (u : Subtype) → IsKnown base u → IsKnown v.names.scope u
    pub same : (u : Subtype) → IsKnown base u → words_of v.names.scope u ≡ words_of base u

  pub next_widths : (v next : Framed) (f : Parameter) (offset : ℕ) → AddsParameter v f offset next → HasWidths v → HasWidths next
  next_widths v next f offset adds widths = record {
    known = λ u k. subst (λ s. IsKnown s u) (sym adds.scope) (words_with stay v.names.scope f.name (named_formal f).entity u refl (widths.known u k)).0;
    same = λ u k.
        ap (λ s. words_of s u) adds.scope
        ∙ (words_with stay v.names.scope f.name (named_formal f).entity u refl (widths.known u k)).1
        ∙ widths.same u k;
  }

  -- ---- those that are copied in stand where they are passed

  abbrev TurnBy : Placed → List Placed → (from out : ℕ) → Mode → Type 0
  TurnBy x xs from out m = elim m [
    | mode.In ↦ (x.1 ≡ from) × AreInTurn base (from + words_of base x.0.subtype) out xs
    | mode.Out ↦ (x.1 ≡ out) × AreInTurn base (from + 1) (out + words_of base x.0.subtype) xs
    | mode.InOut ↦ (x.1 ≡ from + 1) × AreInTurn base ((from + 1) + words_of base x.0.subtype) out xs
  ]

  module _ (x : Placed) (xs : List Placed) (v last : Framed) (from out : ℕ) (known : IsKnown base x.0.subtype) (widths : HasWidths v) where
    abbrev many : ℕ
    many = words_of base x.0.subtype

    abbrev places_by : Mode → List ℕ
    places_by m = elim m [
      | mode.In ↦ addresses_from base (from + many) xs
      | mode.Out ↦ from ∷ addresses_from base (from + 1) xs
      | mode.InOut ↦ from ∷ addresses_from base ((from + 1) + many) xs
    ]

    abbrev end_by : Mode → ℕ
    end_by m = elim m [
      | mode.In ↦ passed_end base (from + many) xs
      | mode.Out ↦ passed_end base (from + 1) xs
      | mode.InOut ↦ passed_end base ((from + 1) + many) xs
    ]

    abbrev Later : Type 0
    Later = (w : Framed) (start behind : ℕ) → HasWidths w → AreInTurn base start behind xs → AddsEach w (taken_of xs) last
        → HoldsAll w start (addresses_from base start xs) (map parameter_at xs) last (passed_end base start xs)

    -- by widths in front of the body, or where the parameter stands
    moved : (w : Framed) (start : ℕ)
        → HoldsAll w (start + many) (addresses_from base (start + many) xs) (map parameter_at xs) last (passed_end base (start + many) xs)
        → HoldsAll w (start + words_of v.names.scope x.0.subtype) (addresses_from base (start + many) xs) (map parameter_at xs) last
        (passed_end base (start + many) xs)
    moved w start h =
        subst (λ n. HoldsAll w (start + n) (addresses_from base (start + many) xs) (map parameter_at xs) last (passed_end base (start + many) xs))
        (sym (widths.same x.0.subtype known)) h

    turn_by : (m : Mode) → TurnBy x xs from out m → AddsEach v (if is_out m then taken_of xs else x ∷ taken_of xs) last → Later
        → HoldsOne m x.0 v from (places_by m) (λ next after others. HoldsAll next after others (map parameter_at xs) last (end_by m))
    turn_by mode.In t h later = (
      h.0,
      subst (λ o. AddsParameter v x.0 o h.0) t.0 h.1,
      moved h.0 from (later h.0 (from + many) out (next_widths v h.0 x.0 x.1 h.1 widths) t.1 h.2),
    )
    turn_by mode.Out t h later = (addresses_from base (from + 1) xs, refl, later v (from + 1) (out + many) widths t.1 h)
    turn_by mode.InOut t h later = (
      h.0,
      addresses_from base ((from + 1) + many) xs,
      refl,
      subst (λ o. AddsParameter v x.0 o h.0) t.0 h.1,
      moved h.0 (from + 1) (later h.0 ((from + 1) + many) out (next_widths v h.0 x.0 x.1 h.1 widths) t.1 h.2),
    )

  pub holds_in_turn : (xs : List Placed) (v last : Framed) (from out : ℕ) → AreNew base (map parameter_at xs) → HasWidths v → AreInTurn base from out xs
      → AddsEach v (taken_of xs) last
      → HoldsAll v from (addresses_from base from xs) (map parameter_at xs) last (passed_end base from xs)
  holds_in_turn [] v last from out new widths turn h = (h, refl, refl)
  holds_in_turn (x ∷ xs) v last from out new widths turn h =
      turn_by x xs v last from out new.2 widths x.0.mode turn h
      (λ w start behind wide more each. holds_in_turn xs w last start behind new.3 wide more each)

  -- ---- the others stand one behind the other

  abbrev pub AreBehind : (out : ℕ) → List Placed → Type 0
  AreBehind out [] = ⊤
  AreBehind out (x ∷ xs) = (x.1 ≡ out) × AreBehind (out + words_of base x.0.subtype) xs

  abbrev pub words_behind : (out : ℕ) → List Placed → ℕ
  words_behind out [] = out
  words_behind out (x ∷ xs) = words_behind (out + words_of base x.0.subtype) xs

  pub behind_up : (out : ℕ) (zs : List Placed) → out ≤ words_behind out zs
  behind_up out [] = omega arith
  behind_up out (x ∷ xs) = let k = behind_up (out + words_of base x.0.subtype) xs in omega (arith, k)

  pub outs_behind : (xs : List Placed) (from out : ℕ) → AreInTurn base from out xs → AreBehind out (outs_of xs)
  outs_behind [] from out turn = tt
  outs_behind (x ∷ xs) from out turn = by_mode x.0.mode turn (λ start behind more. outs_behind xs start behind more)
    where
      by_mode : (m : Mode) → TurnBy x xs from out m
          → ((start behind : ℕ) → AreInTurn base start behind xs → AreBehind behind (outs_of xs))
          → AreBehind out (if is_out m then x ∷ outs_of xs else outs_of xs)
      by_mode mode.In t later = later (from + words_of base x.0.subtype) out t.1
      by_mode mode.Out t later = (t.0, later (from + 1) (out + words_of base x.0.subtype) t.1)
      by_mode mode.InOut t later = later ((from + 1) + words_of base x.0.subtype) out t.1

  pub outs_end_is : (xs : List Placed) (out : ℕ) → outs_end base out xs ≡ words_behind out (outs_of xs)
  outs_end_is [] out = refl
  outs_end_is (x ∷ xs) out = by_mode (is_out x.0.mode) (λ behind. outs_end_is xs behind)
    where
      by_mode : (b : Bool) → ((behind : ℕ) → outs_end base behind xs ≡ words_behind behind (outs_of xs))
          → (if b then outs_end base (out + words_of base x.0.subtype) xs else outs_end base out xs)
          ≡ words_behind out (if b then x ∷ outs_of xs else outs_of xs)
      by_mode true later = later (out + words_of base x.0.subtype)
      by_mode false later = later out

  module _ (kept : AgreementIsKept) (sized : ValuesHaveWords) (scopes : ScopesAreSound) (program : Program) (g : Package)
      (whole : (u : Subtype) → IsKnown base u → (x : Value) → IsOf program.scope u.type_number x → has_shape (shape_of base u) x ≡ true) where
    abbrev AreReached : Framed → ℕ → List Placed → Type 0
    AreReached v out xs = Reached stay sized scopes program g base whole v out [] (map parameter_at xs)

    pub outs_begin : (zs : List Placed) (v w : Framed) (out : ℕ) → AreReached v out zs → AreNew base (map parameter_at zs) → HasWidths v → AddsEach v zs w
        → AreBehind out zs → words_behind out zs ≤ v.room
        → OutsBegin g base v zs w × AreReached w (words_behind out zs) []
    outs_begin [] v w out r new widths h behind room = (h, subst (λ z. AreReached z out []) (sym h) r)
    outs_begin (x ∷ xs) v w out r new widths h behind room =
        let u : Subtype = x.0.subtype in
        let next : Framed = h.0 in
        let adds : AddsParameter v x.0 out next = subst (λ o. AddsParameter v x.0 o next) behind.0 h.1 in
        let up = behind_up (out + words_of base u) xs in
        let same = widths.same u new.2 in
        let fits : out + words_of v.names.scope u ≤ v.room = omega (arith, up, room, same) in
        let above : (n : ℕ) → is_among [] n ≡ true → out + words_of v.names.scope u ≤ n = λ n among. absurd (none_among [] n refl among) in
        let fs : List Parameter = map parameter_at xs in
        let begun = value_begun stay sized scopes program g base whole v next out [] x.0 fs r adds above fits in
        let wider = held.widens stay sized scopes program g base whole v next out [] x.0 fs r adds above fits in
        let spares = value_spares stay sized scopes program g base whole v next out [] x.0 fs r adds above fits in
        let reached : AreReached next (out + words_of base u) xs =
        subst (λ n. AreReached next (out + n) xs) same (value_reached stay sized scopes program g base whole v next out [] x.0 fs r adds above fits) in
        let longer = adds.room in
        let wide = next_widths v next x.0 out adds widths in
        let rest = outs_begin xs next w (out + words_of base u) reached new.3 wide h.2 behind.1 (omega (arith, room, longer)) in (
          (
            next,
            record {
              laid = r.laid;
              many = same;
              sound = r.sound;
              known = widths.known u new.2;
              slot = adds.slot;
              region = adds.region;
              at = adds.at ∙ sym behind.0;
              widens = wider;
              spares = spares;
              narrows = narrows_wider kept g v next x.0.name (formal_role x.0.mode) u adds.slot wider r.sound adds.reserved;
            },
            rest.0,
          ),
          rest.1,
        )
