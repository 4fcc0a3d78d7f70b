-- Instructions that copy back: above an address the words of a value are checked, where the target's subtype has a range, and stored there (RM 6.4.1).
use Rattle.std.proofs.Common.{◌≡◌, ℕ, suc, ◌+◌, ◌-◌, ◌≤◌, ℤ, List, [], ◌∷◌, Some, true, false, refl, sym, ap, ◌∙◌, subst, arith}
use Rattle.std.specs.Prelude.{pos, ⊤}
use Rattle.base.specs.declared.schedule.ScheduleLine.{ScheduleLine}
use Rattle.kernel.specs.State.{Kernel}
use Rattle.kernel.specs.Calm.{Calm}
use Rattle.kernel.specs.Counting.{Done}
use Rattle.kernel.specs.Laws.{QuietStays}
use Rattle.image.specs.Sections.{Sections}
use Rattle.image.specs.Frames.{Words, Frame, own_object}
use Rattle.types.specs.declared.entity.Subtype.{Subtype}
use Rattle.types.specs.Entities.{TypeForm, Integers, Booleans, Times, Spans, Arrays, Records}
use Rattle.types.specs.Evaluating.{passed}
use Rattle.types.specs.Evaluations.{Gives}
use Rattle.types.specs.Laws.{ValuesHaveWords}
use Rattle.types.specs.Layouts.{words_of}
use Rattle.types.specs.Places.{Place}
use Rattle.types.specs.Scopes.{Scope, form_at}
use Rattle.types.specs.Shapes.{has_shape, shape_of}
use Rattle.types.specs.Values.{Value, Number, Truth, Array, Record}
use Rattle.expr_soundness.specs.expr_rules.specs.Laws.{type_shape}
use Rattle.expr_soundness.specs.expr_rules.specs.declared.own.Own.TheVariants.{Typed}
use Rattle.expr_soundness.specs.expr_rules.proofs.TypeShapes.{has_numbers, shape_by_form}
use Rattle.expr_soundness.specs.expr_rules.proofs.TypedLaw.{as_number}
use Rattle.expr_soundness.specs.Laws.{AgreementIsKept}
use Rattle.expr_soundness.proofs.Parts.{subtype_values}
use Rattle.expr_soundness.specs.meaning.specs.Programs.{Program}
use Rattle.expr_soundness.specs.meaning.specs.Targets.{activation_with, store_with}
use Rattle.expr_soundness.specs.meaning.specs.Works.{Activation, Store, Target}
use Rattle.expr_code.specs.Coming.{Comes, on}
use Rattle.expr_code.specs.Computing.{Checks, Library}
use Rattle.expr_code.specs.Seeing.{Package}
use Rattle.expr_code.specs.Views.{placed, view_of}
use Rattle.expr_code.proofs.Coming.{more}
use Rattle.expr_code.proofs.Passing.{checks}
use Rattle.part_code.specs.Copying.{AreCopies, IsCopy, IsPlacedTarget, address_of}
use Rattle.part_code.specs.declared.call.Destination.{Destination}
use Rattle.part_code.specs.Layout.{IsLaidOut}
use Rattle.part_code.specs.Resting.{Framed, IsAt, Knows, Rests, StandsFor}
use Rattle.part_code.specs.Storing.{Puts}
use Rattle.part_code.proofs.StoringCode.{StoresIn}
use Rattle.part_code.proofs.StoringParts.{address_is, part_puts, place_of}

-- ---- subtypes with a range, whose values are checked, and those without

-- numbers
abbrev pub IsRanged : Scope → Subtype → Type 0
IsRanged s t = has_numbers (form_at s t.type_number) ≡ true

abbrev pub HasNoRange : TypeForm → Type 0
HasNoRange Booleans = ⊤
HasNoRange (Arrays index length element) = ⊤
HasNoRange (Records components) = ⊤
HasNoRange Integers = ⊥
HasNoRange Times = ⊥
HasNoRange Spans = ⊥

abbrev pub IsUnranged : Scope → Subtype → Type 0
IsUnranged s t = (form : TypeForm) × (form_at s t.type_number ≡ Some form) × HasNoRange form

pub ranged_number : (s : Scope) (t : Subtype) → IsRanged s t → (x : Value) → has_shape (shape_of s t) x ≡ true → (z : ℤ) × (x ≡ Number z)
ranged_number s t ranged x shaped = as_number s (Typed t.type_number) x ranged (sym (subtype_values s t x) ∙ shaped)

-- every value of a subtype without range passes each check
pub unranged_passes : (s : Scope) (shown t : Subtype) → IsUnranged s shown → (x : Value) → has_shape (shape_of s shown) x ≡ true → passed t x ≡ Gives x
unranged_passes s shown t h (Number z) shaped =
    let no = no_number h.0 h.1 h.2 in
    let yes = sym (subtype_values s shown (Number z)) ∙ shaped in
    absurd (apart (sym no ∙ yes))
  where
    no_number : (form : TypeForm) → form_at s shown.type_number ≡ Some form → HasNoRange form
        → has_shape (type_shape s shown.type_number) (Number z) ≡ false
    no_number Booleans e u = ap (λ y. has_shape y (Number z)) (shape_by_form s shown.type_number Booleans e).2
    no_number (Arrays index length element) e u = ap (λ y. has_shape y (Number z)) (shape_by_form s shown.type_number (Arrays index length element) e).2
    no_number (Records components) e u = ap (λ y. has_shape y (Number z)) (shape_by_form s shown.type_number (Records components) e).2
    no_number Integers e u = absurd u
    no_number Times e u = absurd u
    no_number Spans e u = absurd u

    apart : false ≡ true → ⊥
    apart e = cc
unranged_passes s shown t h (Truth b) shaped = refl
unranged_passes s shown t h (Array vs) shaped = refl
unranged_passes s shown t h (Record fs) shaped = refl

-- ---- checks of a value on the operand stack

module _ (quiet : QuietStays) (i : Sections) (s : Scope) (shown t : Subtype) where
  -- the value is of this subtype, and is checked against a subtype of the same type
  abbrev pub ChecksValue : (from to : ℕ) → Type 0
  ChecksValue from to =
      (schedule : List ScheduleLine) (k : Kernel) (task : ℕ) (m : Words) (f : Frame) (fs : List Frame) (base : List ℤ) (x : Value)
      → Calm k task
      → has_shape (shape_of s shown) x ≡ true
      → Comes i schedule k task m (placed f from (on base x)) fs (to - from) to (on base) (passed t x)

  pub value_checked : (library : Library) (from : ℕ) → IsRanged s shown → Checks i library from t → ChecksValue from (from + 3)
  value_checked library from ranged code schedule k task m f fs base x calm shaped =
      let it = ranged_number s shown ranged x shaped in
      subst (λ w. Comes i schedule k task m (placed f from (on base w)) fs ((from + 3) - from) (from + 3) (on base) (passed t w)) (sym it.1)
      (more quiet i schedule k task m calm (placed f from (it.0 ∷ base)) fs 3 ((from + 3) - from) (from + 3) (on base) (passed t (Number it.0)) (omega arith)
      (checks quiet i schedule k task m calm f fs from t code.0 code.1 code.2 it.0 base))

  pub value_unchecked : (from : ℕ) → ((x : Value) → has_shape (shape_of s shown) x ≡ true → passed t x ≡ Gives x) → ChecksValue from from
  value_unchecked from passes schedule k task m f fs base x calm shaped =
      subst (λ q. Comes i schedule k task m (placed f from (on base x)) fs (from - from) from (on base) q) (sym (passes x shaped)) Done

-- ---- one that is copied back

module _ (kept : AgreementIsKept) (sized : ValuesHaveWords) (quiet : QuietStays) (i : Sections) (program : Program) (g : Package) (v : Framed)
    (laid : IsLaidOut g v) (d : Destination) where
  pub copies_by : (from mid : ℕ) → from ≤ mid → ChecksValue quiet i v.names.scope d.subtype d.subtype from mid
      → ((offset : ℕ) (base : List ℤ) → StoresIn i d.region mid offset (words_of v.names.scope d.subtype) base (on (pos offset ∷ base)))
      → IsCopy i program g v d from (suc mid)
  copies_by from mid up checked stores = record { mid = mid; up = up; end = refl; checks = checked; puts = puts }
    where
      puts : (schedule : List ScheduleLine) (k : Kernel) (t : ℕ) (m : Words) (f : Frame) (fs : List Frame) (store : Store) (a : Activation) (p : Place)
          (x : Target) (y : Value) (base : List ℤ)
          → IsAt program store p → p.locals ≡ a.locals → p.within ≡ a.within → StandsFor program g store m → Rests g v a f.locals
          → own_object i f ≡ a.within → Knows g v p (view_of i schedule k t m f fs) → IsPlacedTarget v d x → has_shape (shape_of v.names.scope d.subtype) y ≡ true
          → Puts i program g schedule k t m f fs mid (on (pos (address_of v.names x) ∷ base) y) base v (store_with x y store) (activation_with x y a)
      puts schedule k t m f fs store a p x y base is_at locals within stands rests own knows place suited =
          let at = place_of v d x place in
          subst (λ n. Puts i program g schedule k t m f fs mid (on (pos n ∷ base) y) base v (store_with x y store) (activation_with x y a))
          (sym (address_is v d x place))
          (part_puts kept sized i program g v laid d x place y suited mid base (on (pos at ∷ base)) schedule k t m f fs store a p is_at locals within stands
          rests own knows (stores at base))

-- ---- one behind the other

module _ (i : Sections) (program : Program) (g : Package) (v : Framed) where
  pub copies_up : (ds : List Destination) (from to : ℕ) → AreCopies i program g v from to ds → from ≤ to
  copies_up [] from to h = omega (arith, h)
  copies_up (d ∷ ds) from to h = let low = h.1 in let high = h.2 in omega (arith, low, high)

  one_up : (d : Destination) (from to : ℕ) → IsCopy i program g v d from to → from ≤ to
  one_up d from to h = let up = h.up in let end = h.end in omega (arith, up, end)

  pub copies_more : (d : Destination) (ds : List Destination) (from mid to : ℕ) → IsCopy i program g v d from mid → AreCopies i program g v mid to ds
      → AreCopies i program g v from to (d ∷ ds)
  copies_more d ds from mid to h rest = (mid, one_up d from mid h, copies_up ds mid to rest, h, rest)
