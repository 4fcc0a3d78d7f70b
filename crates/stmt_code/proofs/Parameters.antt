-- What a frame knows where a loop over a range is worked: its parameter and its last value have a word each, which statements leave alone.
use Rattle.std.proofs.Common.{◌≡◌, ◌≢◌, ℕ, zero, suc, ◌<◌, inl, inr, ℤ, List, [], ◌∷◌, length, map, Bool, Some, true, false, refl, sym, ap, ◌∙◌, subst, arith, rules}
use Rattle.std.specs.Prelude.{nat_eq, slice_get, slice_set, ◌||◌}
use Rattle.image.specs.Frames.{object_words}
use Rattle.image.specs.declared.instruction.Region.{Region}
use Rattle.image.specs.declared.instruction.Region.TheVariants as regions
use Rattle.types.specs.declared.entity.Role.{Role}
use Rattle.types.specs.declared.entity.Role.TheVariants as role
use Rattle.types.specs.declared.entity.Subtype.{Subtype}
use Rattle.types.specs.Laws.{ShapesStay, ValuesHaveWords}
use Rattle.types.specs.Layouts.{words_of}
use Rattle.types.specs.Places.{IsObject, Place, is_among, meaning_of}
use Rattle.types.specs.Shapes.{value_words}
use Rattle.types.specs.Values.{Number, Value, is_within}
use Rattle.expr_soundness.specs.Laws.{AgreementIsKept}
use Rattle.expr_soundness.specs.SoundScopes.{SoundScope}
use Rattle.expr_soundness.specs.meaning.specs.Works.{Activation, turn_subtype}
use Rattle.expr_code.specs.Naming.{Lies}
use Rattle.expr_code.specs.Seeing.{Package, SeesPackage, slot_of}
use Rattle.expr_code.specs.Views.{View}
use Rattle.expr_code.specs.declared.visible.Slot.{Slot}
use Rattle.part_code.specs.Counting.{in_turn, with_parameter}
use Rattle.part_code.specs.Layout.{AreApart, AreFree, EndsBelow, IsFree, IsLaidOut, NamesObject, Widens}
use Rattle.part_code.specs.Resting.{AreHeld, Framed, HeldWord, Knows, Rests, RestsWith, Shows, held_offset}
use Rattle.part_code.proofs.Holding.{held_kept}
use Rattle.stmt_code.proofs.Laying.{AddsObject, ends_wider, free_more, laid_wider, widens_behind}
use Rattle.part_code.proofs.Names.{meant_width, single_number}
use Rattle.stmt_code.proofs.Narrowing.{shows_wider}
use Rattle.part_code.proofs.Placing.{framed_view, package_alone, parameter_knows, with_locals, with_objects}
use Rattle.part_code.proofs.Words.{IsWritten, others_kept, set_is, with_outside, with_words, written}
use Rattle.expr_soundness.specs.Lying.{ObjectsLie}

-- ---- what a method does for a loop over a range

-- the word at this place is none of an object's that is visible
abbrev pub IsUnseen : Framed → ℕ → Type 0
IsUnseen v offset =
    (name : List ℕ) (x : Slot) (r : Role) (t : Subtype) → slot_of v.names name ≡ Some x → x.region ≡ regions.Locals → NamesObject v.names.scope name r t
    → AreApart offset 1 x.offset (words_of v.names.scope t)

-- The parameter, of this subtype, is visible in its statements beside all else, and has a word; the last value has another one; and
-- statements leave both alone.
pub record HoldsRange (v : Framed) (name : List ℕ) (t : Subtype) (slot : Slot) (limit : ℕ) (inner : Framed) : Type 0 where
  pub widens : Widens v name role.LoopParameter t slot inner
  pub region : slot.region ≡ regions.Locals
  pub reserved : inner.reserved ≡ slot.offset ∷ limit ∷ v.reserved
  pub parameter_free : IsFree v.reserved slot.offset 1
  pub limit_free : IsFree v.reserved limit 1
  pub limit_unseen : IsUnseen v limit
  pub differ : slot.offset ≢ limit
  pub room : limit < v.room

-- ---- both words behind all others of the frame

-- these places stand in front of another one
abbrev pub AreBelow : List ℕ → ℕ → Type 0
AreBelow places top = (n : ℕ) → is_among places n ≡ true → n < top

pub holds_behind : (v inner : Framed) (name : List ℕ) (t : Subtype) (top : ℕ) (slot : Slot) → EndsBelow v top → AreBelow v.reserved top
    → AddsObject v name role.LoopParameter t top slot inner → inner.reserved ≡ top ∷ suc top ∷ v.reserved → suc top < v.room
    → HoldsRange v name t slot (suc top) inner
holds_behind v inner name t top slot ends below adds reserved room = record {
  widens = widens_behind v inner name role.LoopParameter t top slot ends adds;
  region = adds.region;
  reserved = reserved ∙ ap (λ m. m ∷ suc top ∷ v.reserved) (sym adds.offset);
  parameter_free = λ m among. inl (let k = below m among in let o = adds.offset in omega (arith, k, o));
  limit_free = λ m among. inl (let k = below m among in omega (arith, k));
  limit_unseen = λ other x r t told local named. inr (let e = ends other x r t told local named in omega (arith, e));
  differ = λ e. (let o = adds.offset in omega (arith, o, e));
  room = room;
}

-- ---- single words among others

beside : (a b : ℕ) → a ≢ b → AreApart a 1 b 1
beside zero zero h = absurd (h refl)
beside zero (suc b) h = inl (omega arith)
beside (suc a) zero h = inr (omega arith)
beside (suc a) (suc b) h = elim (beside a b (λ e. h (ap suc e))) [ inl k ↦ inl (omega (arith, k)) | inr k ↦ inr (omega (arith, k)) ]

turned : (a b : ℕ) → a ≢ b → b ≢ a
turned a b h e = h (sym e)

set_there : (words : List ℤ) (a : ℕ) (w : ℤ) → a < length words → slice_get (slice_set words a w) a ≡ Some w
set_there [] a w less = absurd (omega (arith, less))
set_there (x ∷ words) zero w less = refl
set_there (x ∷ words) (suc a) w less = set_there words a w (omega (arith, less))

set_swapped : (words : List ℤ) (a b : ℕ) (w u : ℤ) → a ≢ b → slice_set (slice_set words a w) b u ≡ slice_set (slice_set words b u) a w
set_swapped [] a b w u h = refl
set_swapped (x ∷ words) zero zero w u h = absurd (h refl)
set_swapped (x ∷ words) zero (suc b) w u h = refl
set_swapped (x ∷ words) (suc a) zero w u h = refl
set_swapped (x ∷ words) (suc a) (suc b) w u h = ap (λ l. x ∷ l) (set_swapped words a b w u (λ e. h (ap suc e)))

set_long : (words : List ℤ) (a : ℕ) (w : ℤ) → length (slice_set words a w) ≡ length words
set_long [] a w = refl
set_long (x ∷ words) zero w = refl
set_long (x ∷ words) (suc a) w = ap suc (set_long words a w)

-- the words with another one at a place
abbrev pub with_word : ℕ → ℤ → List ℤ → List ℤ
with_word a w words = with_words a (w ∷ []) words

pub word_long : (words : List ℤ) (a : ℕ) (w : ℤ) → a < length words → length (with_word a w words) ≡ length words
word_long words a w less = ap length (sym (set_is words a w less)) ∙ set_long words a w

pub word_there : (words : List ℤ) (a : ℕ) (w : ℤ) → a < length words → slice_get (with_word a w words) a ≡ Some w
word_there words a w less = ap (λ l. slice_get l a) (sym (set_is words a w less)) ∙ set_there words a w less

pub word_elsewhere : (words : List ℤ) (a b : ℕ) (w : ℤ) → a < length words → a ≢ b → slice_get (with_word a w words) b ≡ slice_get words b
word_elsewhere words a b w less h = with_outside a (w ∷ []) words b (omega (arith, less)) (beside b a (turned a b h))

-- two words may be put in either order
pub words_swapped : (words : List ℤ) (a b : ℕ) (w u : ℤ) → a < length words → b < length words → a ≢ b
    → with_word b u (with_word a w words) ≡ with_word a w (with_word b u words)
words_swapped words a b w u first second h =
    let long = word_long words a w first in
    let long' = word_long words b u second in
    sym (set_is (with_word a w words) b u (omega (arith, long, second)))
    ∙ ap (λ l. slice_set l b u) (sym (set_is words a w first))
    ∙ set_swapped words a b w u h
    ∙ ap (λ l. slice_set l a w) (set_is words b u second)
    ∙ set_is (with_word b u words) a w (omega (arith, long', first))

pub number_written : (words : List ℤ) (a : ℕ) (w : ℤ) → a < length words → IsWritten words (with_word a w words) a (Number w)
number_written words a w less = written words a (Number w) (omega (arith, less))

-- words that are held stay where one is put at a place that is none of theirs
pub held_stay : (held : List HeldWord) (places : List ℕ) (words : List ℤ) (a : ℕ) (w : ℤ) → a < length words → map held_offset held ≡ places → IsFree places a 1
    → AreHeld words held → AreHeld (with_word a w words) held
held_stay held places words a w less same free h =
    held_kept held places words (with_word a w words) same (others_kept places a (w ∷ []) words (omega (arith, less)) free) h

pub inside : (words : List ℤ) (n : ℕ) (w : ℤ) → slice_get words n ≡ Some w → n < length words
inside [] n w h = cc
inside (x ∷ words) zero w h = omega arith
inside (x ∷ words) (suc n) w h = let k = inside words n w h in omega (arith, k)

-- places among which one more stands
pub free_one_more : (a : ℕ) (places : List ℕ) (offset many : ℕ) → AreApart a 1 offset many → IsFree places offset many → IsFree (a ∷ places) offset many
free_one_more a places offset many first rest n among = by_test (nat_eq a n) refl among
  where
    is : (a n : ℕ) → nat_eq a n ≡ true → a ≡ n
    is a n h = search rules

    by_test : (b : Bool) → nat_eq a n ≡ b → (b || is_among places n) ≡ true → AreApart n 1 offset many
    by_test true e h = subst (λ m. AreApart m 1 offset many) (is a n e) first
    by_test false e h = rest n h

-- ---- a word that is none of an object's

module _ (sized : ValuesHaveWords) (g : Package) (v : Framed) (laid : IsLaidOut g v) (a : Activation) (before after : List ℤ) (rests : Rests g v a before)
    (offset : ℕ) (z : ℤ) (unseen : IsUnseen v offset) (put : IsWritten before after offset (Number z)) where
  module _ (p : Place) (view : View) (sees : SeesPackage g p view) (objects : p.locals ≡ a.locals) (within : p.within ≡ a.within)
      (words : view.words regions.Locals ≡ after) (its : view.words regions.Object ≡ object_words a.within view.memory) where
    here : with_objects a.locals p ≡ p
    here = λ j. record p { locals = (sym objects) j }

    knew : Knows g v p (framed_view before view)
    knew = subst (λ q. Knows g v q (framed_view before view)) here
        (rests.sees (with_objects a.locals p) (framed_view before view) (package_alone g laid.unit p view a.locals before rests.small
        (subst (ObjectsLie p.scope) objects sees.values.locals) sees) refl within refl its)

    by_region : (r : Region) (slot : Slot) (u : Value) → ((r ≡ regions.Locals) → AreApart offset 1 slot.offset (length (value_words u)))
        → Lies (with_locals before view.words r) slot.offset u → Lies (view.words r) slot.offset u
    by_region regions.Locals slot u apart h = subst (λ l. Lies l slot.offset u) (sym words) (put.others slot.offset u (apart refl) h)
    by_region regions.Plain slot u apart h = h
    by_region regions.Object slot u apart h = h

    object_lies : (name : List ℕ) (slot : Slot) (t : Subtype) (u : Value) → slot_of v.names name ≡ Some slot → meaning_of p name ≡ IsObject t u
        → Lies (view.words slot.region) slot.offset u
    object_lies name slot t u told means =
        let named = laid.laid.objects name slot told in
        let wide = meant_width sized v.names.scope p knew.sees.names.agrees name named.0 named.1 t u named.2 means in
        by_region slot.region slot u
        (λ local. subst (λ n. AreApart offset 1 slot.offset n) (sym wide) (unseen name slot named.0 named.1 told local named.2))
        (knew.sees.names.objects name slot t u told means)

    unseen_knows : Knows g v p view
    unseen_knows = record {
      sees = record { unit = sees; names = record { agrees = knew.sees.names.agrees; objects = object_lies }; loops = knew.sees.loops; functions = knew.sees.functions; externals = knew.sees.externals };
      room = (let r = knew.room in let l = put.long in let e = ap length words in omega (arith, r, l, e));
      within = knew.within;
      homes = knew.homes;
    }

  -- the frame stands for the activation as before
  pub unseen_rests : Rests g v a after
  unseen_rests = record { small = (let l = put.long in let s = rests.small in omega (arith, l, s)); sees = unseen_knows }

-- ---- a loop

module _ (kept : AgreementIsKept) (sized : ValuesHaveWords) (g : Package) (v inner : Framed) (laid : IsLaidOut g v) (sound : SoundScope v.names.scope)
    (name : List ℕ) (t : Subtype) (slot : Slot) (limit : ℕ) (holds : HoldsRange v name t slot limit inner) where
  abbrev counter : ℕ
  counter = slot.offset

  -- the parameter takes one word
  single : words_of v.names.scope t ≡ 1
  single = single_number sized v.names.scope t holds.widens.sound

  parameter_unseen : IsUnseen v counter
  parameter_unseen other x r t told local named =
      subst (λ k. AreApart counter k x.offset (words_of v.names.scope t)) single
      (holds.widens.apart other x r t told (local ∙ sym holds.region) named)

  pub parameter_fits : counter < v.room
  parameter_fits = let f = holds.widens.fits in let s = single in omega (arith, f, s)

  -- what is seen in the loop's statements is seen without it
  pub parameter_shows : Shows g inner v
  parameter_shows = shows_wider kept g v inner name role.LoopParameter t slot holds.widens sound

  pub rests_behind : (a : Activation) (locals : List ℤ) → Rests g inner a locals → Rests g v a locals
  rests_behind a locals rests = record {
    small = rests.small;
    sees = λ p view unit objects within words its. parameter_shows p view (rests.sees p view unit objects within words its);
  }

  -- the parameter with a value, whose word is put among those of the frame
  parameter_rests : (a : Activation) (locals : List ℤ) (z : ℤ) → is_within t.first t.last z ≡ true → counter < length locals → Rests g v a locals
      → Rests g inner (with_parameter name z a) (with_word counter z locals)
  parameter_rests a locals z ranged less rests =
      let put = number_written locals counter z less in
      record {
        small = (let l = put.long in let s = rests.small in omega (arith, l, s));
        sees = λ p view unit objects within words its.
            parameter_knows kept sized g v laid a locals (with_word counter z locals) rests (record { name = name; subtype = turn_subtype z; value = Number z }) counter
            put p view unit objects within words its t z ranged refl refl slot inner holds.widens holds.region refl;
      }

  -- both words of the loop are put
  abbrev pub with_both : (now last : ℤ) → List ℤ → List ℤ
  with_both now last locals = with_word counter now (with_word limit last locals)

  module _ (a : Activation) (locals : List ℤ) (held : List HeldWord) (now last : ℤ) (rests : RestsWith g v held a locals) (first : counter < length locals)
      (second : limit < length locals) where
    abbrev middle : List ℤ
    middle = with_word limit last locals

    long : length middle ≡ length locals
    long = word_long locals limit last second

    first' : counter < length middle
    first' = let l = long in omega (arith, l, first)

    middle_rests : Rests g v a middle
    middle_rests = unseen_rests sized g v laid a locals middle rests.rests limit last holds.limit_unseen (number_written locals limit last second)

    both_held : AreHeld (with_both now last locals) held
    both_held =
        held_stay held v.reserved middle counter now first' rests.apart holds.parameter_free
        (held_stay held v.reserved locals limit last second rests.apart holds.limit_free rests.held)

    -- where there is no turn the frame stands for what it stood for
    pub null_rests : RestsWith g v held a (with_both now last locals)
    null_rests = record {
      rests = unseen_rests sized g v laid a middle (with_both now last locals) middle_rests counter now parameter_unseen
          (number_written middle counter now first');
      held = both_held;
      apart = rests.apart;
    }

    -- the words are held, whatever they are
    pub turn_held : AreHeld (with_both now last locals) (in_turn counter limit now last held)
    turn_held = (
      word_there middle counter now first',
      (word_elsewhere middle counter limit now first' holds.differ ∙ word_there locals limit last second, both_held),
    )

    -- the first turn
    pub turn_rests : is_within t.first t.last now ≡ true
        → RestsWith g inner (in_turn counter limit now last held) (with_parameter name now a) (with_both now last locals)
    turn_rests ranged = record {
      rests = parameter_rests a middle now ranged first' middle_rests;
      held = turn_held;
      apart = ap (λ l. counter ∷ limit ∷ l) rests.apart ∙ sym holds.reserved;
    }

    -- the words may be put in either order
    pub both_swapped : with_word limit last (with_word counter now locals) ≡ with_both now last locals
    both_swapped = words_swapped locals counter limit now last first second holds.differ

  -- the next turn: the parameter has another value
  pub next_rests : (a : Activation) (locals : List ℤ) (held : List HeldWord) (now last next : ℤ) → is_within t.first t.last next ≡ true
      → RestsWith g inner (in_turn counter limit now last held) a locals
      → RestsWith g inner (in_turn counter limit next last held) (with_parameter name next a) (with_word counter next locals)
  next_rests a locals held now last next ranged rests =
      let first = inside locals counter now rests.held.0 in
      record {
        rests = parameter_rests a locals next ranged first (rests_behind a locals rests.rests);
        held = (
          word_there locals counter next first,
          (
            word_elsewhere locals counter limit next first holds.differ ∙ rests.held.1.0,
            held_stay held v.reserved locals counter next first (behind (map held_offset held) (rests.apart ∙ holds.reserved)) holds.parameter_free
                rests.held.1.1,
          ),
        );
        apart = rests.apart;
      }
    where
      rest_of : List ℕ → List ℕ
      rest_of [] = []
      rest_of (m ∷ ms) = ms

      behind : (places : List ℕ) → counter ∷ limit ∷ places ≡ counter ∷ limit ∷ v.reserved → places ≡ v.reserved
      behind places e = ap (λ l. rest_of (rest_of l)) e

  -- ---- what is asked of the places that are visible in the statements

  module _ (stay : ShapesStay) where
    -- no word of a variable is one of the loop's, or one of those around it
    pub parameter_spares : AreFree inner
    parameter_spares =
        free_more stay g v inner name role.LoopParameter t slot sound laid holds.widens holds.region (counter ∷ limit ∷ v.reserved)
        holds.reserved
        (λ other x q u told local named variable.
        free_one_more counter (limit ∷ v.reserved) x.offset (words_of v.names.scope u) (parameter_unseen other x q u told local named)
        (free_one_more limit v.reserved x.offset (words_of v.names.scope u) (holds.limit_unseen other x q u told local named)
        (laid.free other x q u told local named variable)))
        (λ variable. absurd variable)

    -- the places are laid out as around the loop, with the parameter's
    pub parameter_laid : IsLaidOut g inner
    parameter_laid = laid_wider stay g v inner name role.LoopParameter t slot sound laid holds.widens holds.region parameter_spares

    -- the words of all that is visible in the statements, and those that they leave alone, end behind the two words of the loop
    pub parameter_ends : (top : ℕ) → EndsBelow v top → counter ≡ top → EndsBelow inner (suc (suc top))
    parameter_ends top ends at other x r u told local named =
        let e = ends_wider stay g v inner name role.LoopParameter t slot sound laid holds.widens holds.region top ends at other x r u told local
        named in
        let s = single in
        omega (arith, e, s)

  pub parameter_below : (top : ℕ) → AreBelow v.reserved top → counter ≡ top → limit ≡ suc top → AreBelow inner.reserved (suc (suc top))
  parameter_below top below first second m among =
      all (subst (λ l. is_among l m ≡ true) (holds.reserved ∙ ap (λ c. c ∷ limit ∷ v.reserved) first ∙ ap (λ c. top ∷ c ∷ v.reserved) second) among)
    where
      is : (a n : ℕ) → nat_eq a n ≡ true → a ≡ n
      is a n h = search rules

      later : (b : Bool) → nat_eq (suc top) m ≡ b → (b || is_among v.reserved m) ≡ true → m < suc (suc top)
      later true e h = let k = is (suc top) m e in omega (arith, k)
      later false e h = let k = below m h in omega (arith, k)

      by_test : (b : Bool) → nat_eq top m ≡ b → (b || is_among (suc top ∷ v.reserved) m) ≡ true → m < suc (suc top)
      by_test true e h = let k = is top m e in omega (arith, k)
      by_test false e h = later (nat_eq (suc top) m) refl h

      all : is_among (top ∷ suc top ∷ v.reserved) m ≡ true → m < suc (suc top)
      all h = by_test (nat_eq top m) refl h
