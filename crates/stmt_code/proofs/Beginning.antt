-- What a frame knows where a body begins: the parameters that are copied in, one after another, and the addresses of targets, which are held.
use Rattle.std.proofs.Common.{◌≡◌, ℕ, suc, ◌+◌, ℤ, pos, List, [], ◌∷◌, ◌++◌, length, append_assoc, cond, Option, Some, None, Bool, true, refl, sym, ap, ◌∙◌, subst, arith}
use Rattle.std.specs.Prelude.{drop, slice_get, take, if◌then◌else◌}
use Rattle.std.proofs.Math.Seq.{drop-append_seam, take-append_seam}
use Rattle.std.proofs.lemmas.List.{length-append}
use Rattle.ada_tree.specs.declared.declaration.Mode.{Mode}
use Rattle.ada_tree.specs.declared.declaration.Mode.TheVariants as mode
use Rattle.image.specs.declared.instruction.Region.TheVariants as regions
use Rattle.types.specs.declared.entity.Role.{Role}
use Rattle.types.specs.Laws.{ValuesHaveWords}
use Rattle.types.specs.Layouts.{words_of}
use Rattle.types.specs.Places.{Object}
use Rattle.types.specs.Shapes.{has_shape, shape_of, value_words}
use Rattle.types.specs.Values.{Value}
use Rattle.expr_soundness.specs.Laws.{AgreementIsKept}
use Rattle.expr_soundness.specs.meaning.specs.Calls.{is_in, is_out, results, with_first}
use Rattle.expr_soundness.specs.meaning.specs.Programs.{Parameter, Program}
use Rattle.part_code.specs.step_soundness.specs.Fitting.{taken_types}
use Rattle.part_code.specs.step_soundness.specs.Objects.{AreOf, IsOf}
use Rattle.expr_code.specs.Naming.{Lies}
use Rattle.expr_code.specs.Seeing.{Package}
use Rattle.expr_code.specs.declared.visible.Slot.{Slot}
use Rattle.part_code.specs.Copying.{first_address, first_words, held_at, passed_words}
use Rattle.part_code.specs.Layout.{IsLaidOut, Widens}
use Rattle.part_code.specs.Resting.{AreHeld, Framed, Rests}
use Rattle.stmt_code.proofs.Entering.{rests_more}
use Rattle.part_code.proofs.Words.{below}

-- ---- words in front of others

pub lies_at : (front : List ℤ) (x : Value) (more : List ℤ) → Lies (front ++ (value_words x ++ more)) (length front) x
lies_at front x more =
    let words = front ++ (value_words x ++ more) in
    let n = length (value_words x) in
    let a = length-append front (value_words x ++ more) in
    let b = length-append (value_words x) more in
    ap (λ q. cond q (Some (take n (drop (length front) words))) None) (below (length front + n) (length words) (omega (arith, a, b)))
    ∙ ap Some (ap (take n) (drop-append_seam front (value_words x ++ more)) ∙ take-append_seam (value_words x) more)

word_at : (front : List ℤ) (w : ℤ) (more : List ℤ) → slice_get (front ++ (w ∷ more)) (length front) ≡ Some w
word_at [] w more = refl
word_at (y ∷ front) w more = word_at front w more

-- ---- parameters, as a body sees them

-- behind this name that of a parameter is visible, whose words begin there
pub record Begins (program : Program) (g : Package) (v : Framed) (f : Parameter) (offset : ℕ) (next : Framed) : Type 0 where
  pub laid : IsLaidOut g v
  pub role : Role
  pub slot : Slot
  pub region : slot.region ≡ regions.Locals
  pub at : slot.offset ≡ offset
  pub widens : Widens v f.name role f.subtype slot next
  pub suits : (x : Value) → IsOf program.scope f.subtype.type_number x → has_shape (shape_of v.names.scope f.subtype) x ≡ true

module _ (program : Program) (g : Package) where
  -- the words of a parameter begin at `from`: the address of its target, if it is copied back, at one of the places; and its value, if it is copied in
  abbrev pub EntersOne : Mode → Parameter → (v : Framed) (from : ℕ) (places : List ℕ) → (rest : Framed → ℕ → List ℕ → Type 0) → Type 0
  EntersOne mode.In f v from places rest = (next : Framed) × Begins program g v f from next × rest next (from + words_of v.names.scope f.subtype) places
  EntersOne mode.Out f v from places rest = (others : List ℕ) × (places ≡ from ∷ others) × rest v (from + 1) others
  EntersOne mode.InOut f v from places rest =
      (next : Framed) × (others : List ℕ) × (places ≡ from ∷ others) × Begins program g v f (from + 1) next
      × rest next ((from + 1) + words_of v.names.scope f.subtype) others

  abbrev pub Enters : (v : Framed) (from : ℕ) (places : List ℕ) → List Parameter → (last : Framed) → Type 0
  Enters v from places [] last = (last ≡ v) × (places ≡ [])
  Enters v from places (f ∷ fs) last = EntersOne f.mode f v from places (λ next after others. Enters next after others fs last)

-- the parameters that are copied in, the last one in front
abbrev pub entered : List Parameter → List Value → List Object → List Object
entered [] vs base = base
entered (f ∷ fs) vs base = if is_out f.mode then entered fs vs base else entered fs (drop 1 vs) (with_first f vs base)

module _ (kept : AgreementIsKept) (sized : ValuesHaveWords) (program : Program) (g : Package) (within : Option ℕ) (words : List ℤ) where
  abbrev Resting : Framed → List Object → Type 0
  Resting v l = Rests g v (record { within = within; locals = l }) words

  -- one of them more
  pub value_begins : (v next : Framed) (f : Parameter) (x : Value) (front more : List ℤ) (l : List Object) → Begins program g v f (length front) next
      → IsOf program.scope f.subtype.type_number x → words ≡ front ++ (value_words x ++ more) → Resting v l
      → Resting next (record { name = f.name; subtype = f.subtype; value = x } ∷ l)
  value_begins v next f x front more l b of is rests =
      rests_more kept sized g v next b.laid (record { within = within; locals = l }) words (record { name = f.name; subtype = f.subtype; value = x }) b.role b.slot rests
      b.widens b.region (b.suits x of)
      (subst (λ o. Lies words o x) (sym b.at) (subst (λ q. Lies q (length front) x) (sym is) (lies_at front x more)))

  -- a value takes the words of its subtype
  pub width : (v next : Framed) (f : Parameter) (x : Value) (offset : ℕ) → Begins program g v f offset next → IsOf program.scope f.subtype.type_number x
      → length (value_words x) ≡ words_of v.names.scope f.subtype
  width v next f x offset b of = (sized (shape_of v.names.scope f.subtype) x (b.suits x of)).sized

  module _ (f : Parameter) (fs : List Parameter) (v last : Framed) (front more : List ℤ) (places : List ℕ) (l : List Object)
      (h : Enters program g v (length front) places (f ∷ fs) last) (rests : Resting v l) where
    abbrev Goal : List Value → List ℕ → Type 0
    Goal vs addresses = Resting last (entered (f ∷ fs) vs l) × AreHeld words (held_at places addresses)

    abbrev Later : Type 0
    Later = (vs' : List Value) (addresses' : List ℕ) (v' : Framed) (front' : List ℤ) (places' : List ℕ) (l' : List Object)
        → Enters program g v' (length front') places' fs last
        → AreOf program.scope (taken_types fs) vs'
        → length addresses' ≡ length (results fs)
        → words ≡ front' ++ (passed_words fs vs' addresses' ++ more)
        → Resting v' l'
        → Resting last (entered fs vs' l') × AreHeld words (held_at places' addresses')

    abbrev enters_rest : Framed → ℕ → List ℕ → Type 0
    enters_rest next after others = Enters program g next after others fs last

    abbrev words_by : Mode → List Value → List ℕ → List ℤ
    words_by m vs addresses = elim m [
      | mode.In ↦ first_words vs ++ passed_words fs (drop 1 vs) addresses
      | mode.Out ↦ first_address addresses ++ passed_words fs vs (drop 1 addresses)
      | mode.InOut ↦ first_address addresses ++ (first_words vs ++ passed_words fs (drop 1 vs) (drop 1 addresses))
    ]

    abbrev objects_by : Bool → List Value → List Object
    objects_by b vs = if b then entered fs vs l else entered fs (drop 1 vs) (with_first f vs l)

    abbrev types_by : Bool → List ℕ
    types_by b = if b then taken_types fs else f.subtype.type_number ∷ taken_types fs

    abbrev results_by : Bool → List (List ℕ)
    results_by b = if b then results fs else f.name ∷ results fs

    regroup : (a b c d : List ℤ) → a ++ ((b ++ c) ++ d) ≡ (a ++ b) ++ (c ++ d)
    regroup a b c d = ap (λ q. a ++ q) (append_assoc b c d) ∙ sym (append_assoc a b (c ++ d))

    by_mode : (m : Mode) → f.mode ≡ m → (vs : List Value) (addresses : List ℕ) → AreOf program.scope (taken_types (f ∷ fs)) vs
        → length addresses ≡ length (results (f ∷ fs))
        → words ≡ front ++ (passed_words (f ∷ fs) vs addresses ++ more) → Later → Goal vs addresses
    by_mode mode.In e vs addresses of many is later = by_value vs (subst (λ q. AreOf program.scope (types_by (is_out q)) vs) e of)
        (is ∙ ap (λ q. front ++ (words_by q vs addresses ++ more)) e)
      where
        one : EntersOne program g mode.In f v (length front) places enters_rest
        one = subst (λ q. EntersOne program g q f v (length front) places enters_rest) e h

        by_value : (vs : List Value) → AreOf program.scope (f.subtype.type_number ∷ taken_types fs) vs
            → words ≡ front ++ ((first_words vs ++ passed_words fs (drop 1 vs) addresses) ++ more) → Goal vs addresses
        by_value [] of is = absurd of
        by_value (x ∷ xs) of is =
            let value = value_words x in
            let wide = width v one.0 f x (length front) one.1 of.0 in
            let long = length-append front value in
            let at : length front + words_of v.names.scope f.subtype ≡ length (front ++ value) = omega (arith, wide, long) in
            let placed = is ∙ regroup front value (passed_words fs xs addresses) more in
            let first = value_begins v one.0 f x front (passed_words fs xs addresses ++ more) l one.1 of.0
            (placed ∙ append_assoc front value (passed_words fs xs addresses ++ more)) rests in
            let rest = later xs addresses one.0 (front ++ value) places (record { name = f.name; subtype = f.subtype; value = x } ∷ l)
            (subst (λ n. Enters program g one.0 n places fs last) at one.2) of.1 (subst (λ q. length addresses ≡ length (results_by (is_in q))) e many) placed first in
            (subst (λ q. Resting last (objects_by (is_out q) (x ∷ xs))) (sym e) rest.0, rest.1)
    by_mode mode.Out e vs addresses of many is later =
        by_address addresses (subst (λ q. length addresses ≡ length (results_by (is_in q))) e many) (is ∙ ap (λ q. front ++ (words_by q vs addresses ++ more)) e)
      where
        one : EntersOne program g mode.Out f v (length front) places enters_rest
        one = subst (λ q. EntersOne program g q f v (length front) places enters_rest) e h

        by_address : (addresses : List ℕ) → length addresses ≡ suc (length (results fs))
            → words ≡ front ++ ((first_address addresses ++ passed_words fs vs (drop 1 addresses)) ++ more) → Goal vs addresses
        by_address [] many is = absurd (omega (arith, many))
        by_address (z ∷ zs) many is =
            let word = pos z ∷ [] in
            let long = length-append front word in
            let at : length front + 1 ≡ length (front ++ word) = sym long in
            let placed = is ∙ regroup front word (passed_words fs vs zs) more in
            let rest = later vs zs v (front ++ word) one.0 l (subst (λ n. Enters program g v n one.0 fs last) at one.2)
            (subst (λ q. AreOf program.scope (types_by (is_out q)) vs) e of) (omega (arith, many)) placed rests in (
              subst (λ q. Resting last (objects_by (is_out q) vs)) (sym e) rest.0,
              subst (λ q. AreHeld words (held_at q (z ∷ zs))) (sym one.1)
                  (ap (λ q. slice_get q (length front)) is ∙ word_at front (pos z) (passed_words fs vs zs ++ more), rest.1),
            )
    by_mode mode.InOut e vs addresses of many is later =
        by_both vs addresses (subst (λ q. AreOf program.scope (types_by (is_out q)) vs) e of) (subst (λ q. length addresses ≡ length (results_by (is_in q))) e many)
        (is ∙ ap (λ q. front ++ (words_by q vs addresses ++ more)) e)
      where
        one : EntersOne program g mode.InOut f v (length front) places enters_rest
        one = subst (λ q. EntersOne program g q f v (length front) places enters_rest) e h

        by_both : (vs : List Value) (addresses : List ℕ) → AreOf program.scope (f.subtype.type_number ∷ taken_types fs) vs
            → length addresses ≡ suc (length (results fs))
            → words ≡ front ++ ((first_address addresses ++ (first_words vs ++ passed_words fs (drop 1 vs) (drop 1 addresses))) ++ more) → Goal vs addresses
        by_both [] addresses of many is = absurd of
        by_both (x ∷ xs) [] of many is = absurd (omega (arith, many))
        by_both (x ∷ xs) (z ∷ zs) of many is =
            let value = value_words x in
            let word = pos z ∷ [] in
            let long = length-append front word in
            let longer = length-append (front ++ word) value in
            let begins : Begins program g v f (length (front ++ word)) one.0 = subst (λ n. Begins program g v f n one.0) (sym long) one.3 in
            let wide = width v one.0 f x (length (front ++ word)) begins of.0 in
            let at : (length front + 1) + words_of v.names.scope f.subtype ≡ length ((front ++ word) ++ value) = omega (arith, wide, long, longer) in
            let in_front = is ∙ regroup front word (value ++ passed_words fs xs zs) more in
            let placed = in_front ∙ regroup (front ++ word) value (passed_words fs xs zs) more in
            let first = value_begins v one.0 f x (front ++ word) (passed_words fs xs zs ++ more) l begins of.0
            (placed ∙ append_assoc (front ++ word) value (passed_words fs xs zs ++ more)) rests in
            let rest = later xs zs one.0 ((front ++ word) ++ value) one.1 (record { name = f.name; subtype = f.subtype; value = x } ∷ l)
            (subst (λ n. Enters program g one.0 n one.1 fs last) at one.4) of.1 (omega (arith, many)) placed first in (
              subst (λ q. Resting last (objects_by (is_out q) (x ∷ xs))) (sym e) rest.0,
              subst (λ q. AreHeld words (held_at q (z ∷ zs))) (sym one.2)
                  (ap (λ q. slice_get q (length front)) is ∙ word_at front (pos z) ((value ++ passed_words fs xs zs) ++ more), rest.1),
            )

  -- all of them
  pub begun : (ps : List Parameter) (vs : List Value) (addresses : List ℕ) (v last : Framed) (front more : List ℤ) (places : List ℕ) (l : List Object)
      → Enters program g v (length front) places ps last
      → AreOf program.scope (taken_types ps) vs
      → length addresses ≡ length (results ps)
      → words ≡ front ++ (passed_words ps vs addresses ++ more)
      → Resting v l
      → Resting last (entered ps vs l) × AreHeld words (held_at places addresses)
  begun [] vs addresses v last front more places l h of many is rests = (
    subst (λ q. Resting q l) (sym h.0) rests,
    subst (λ q. AreHeld words (held_at q addresses)) (sym h.1) tt,
  )
  begun (f ∷ fs) vs addresses v last front more places l h of many is rests =
      by_mode f fs v last front more places l h rests f.mode refl vs addresses of many is
      (λ vs' addresses' v' front' places' l'. begun fs vs' addresses' v' last front' more places' l')
