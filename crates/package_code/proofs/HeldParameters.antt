-- Parameters whose words stand one behind the other: what is visible behind each, and how many words are passed.
use Rattle.std.proofs.Common.{◌≡◌, ℕ, ◌+◌, ◌<◌, ◌≤◌, ◌⊎◌, inl, inr, ℤ, List, [], ◌∷◌, ◌++◌, append_assoc, length, Bool, true, false, refl, sym, ap, ◌∙◌, subst, arith, rules}
use Rattle.std.specs.Prelude.{drop, nat_eq, if◌then◌else◌, ◌||◌}
use Rattle.std.proofs.lemmas.List.{length-append}
use Rattle.ada_tree.specs.declared.declaration.Mode.{Mode}
use Rattle.ada_tree.specs.declared.declaration.Mode.TheVariants as mode
use Rattle.types.specs.declared.entity.Role.{Role}
use Rattle.types.specs.declared.entity.Subtype.{Subtype}
use Rattle.types.specs.Entities as entity
use Rattle.types.specs.Laws.{ShapesStay, ValuesHaveWords}
use Rattle.types.specs.Layouts.{words_of}
use Rattle.types.specs.Places.{is_among}
use Rattle.types.specs.Scopes.{Scope, with_name}
use Rattle.types.specs.Shapes.{has_shape, shape_of, value_words}
use Rattle.types.specs.Values.{Value}
use Rattle.declaration_rules.specs.BodyNames.{formal_role}
use Rattle.expr_soundness.specs.Laws.{ScopesAreSound}
use Rattle.expr_soundness.specs.SoundScopes.{IsKnown, SoundScope}
use Rattle.expr_soundness.specs.meaning.specs.Calls.{is_in, is_out, results}
use Rattle.expr_soundness.specs.meaning.specs.Programs.{Parameter, Program}
use Rattle.program_soundness.specs.step_soundness.specs.Fitting.{taken_types}
use Rattle.program_soundness.specs.step_soundness.specs.Objects.{AreOf, IsOf}
use Rattle.program_soundness.proofs.WiderScopes.{none_unseen}
use Rattle.program_soundness.proofs.Formals.{AreNew, formal_object, named_formal, new_behind}
use Rattle.program_soundness.proofs.Same.{IsPlainRole, SameTypes, known_same, sound_with, types_then, types_turned, types_with_all, values_same}
use Rattle.expr_code.specs.Seeing.{Package}
use Rattle.step_simulation.specs.part_code.specs.Copying.{first_address, first_words, passed_words}
use Rattle.step_simulation.specs.part_code.specs.Layout.{AreApart, EndsBelow, IsFree, IsLaidOut, Spares, Widens}
use Rattle.step_simulation.specs.part_code.specs.Resting.{Framed}
use Rattle.stmt_code.proofs.Beginning.{Begins, Enters, EntersOne}
use Rattle.stmt_code.proofs.Laying.{AddsObject, ends_wider, free_wider, laid_wider, widens_behind}
use Rattle.step_simulation.specs.part_code.specs.Formals.{AddsParameter}
use Rattle.package_code.specs.Package.{HoldsAll, HoldsOne}

-- ---- places of addresses

is_number : (a n : ℕ) → nat_eq a n ≡ true → a ≡ n
is_number a n h = search rules

pub none_among : (places : List ℕ) (n : ℕ) → places ≡ [] → is_among places n ≡ true → ⊥
none_among places n is h = let k = sym (ap (λ l. is_among l n) is) ∙ h in cc

among_first : (a : ℕ) (rest : List ℕ) (n : ℕ) → is_among (a ∷ rest) n ≡ true → (a ≡ n) ⊎ (is_among rest n ≡ true)
among_first a rest n h = by_test (nat_eq a n) refl h
  where
    by_test : (b : Bool) → nat_eq a n ≡ b → (b || is_among rest n) ≡ true → (a ≡ n) ⊎ (is_among rest n ≡ true)
    by_test true e k = inl (is_number a n e)
    by_test false e k = inr k

among_both : (xs ys : List ℕ) (n : ℕ) → is_among (xs ++ ys) n ≡ true → (is_among xs n ≡ true) ⊎ (is_among ys n ≡ true)
among_both [] ys n h = inr h
among_both (x ∷ xs) ys n h = by_test (nat_eq x n) h (λ k. among_both xs ys n k)
  where
    by_test : (b : Bool) → (b || is_among (xs ++ ys) n) ≡ true
        → (is_among (xs ++ ys) n ≡ true → (is_among xs n ≡ true) ⊎ (is_among ys n ≡ true))
        → ((b || is_among xs n) ≡ true) ⊎ (is_among ys n ≡ true)
    by_test true k later = inl refl
    by_test false k later = later k

-- the places that are left stand from here on
abbrev AreFrom : List ℕ → ℕ → Type 0
AreFrom places from = (n : ℕ) → is_among places n ≡ true → from ≤ n

places_from : (fs : List Parameter) (v last : Framed) (from top : ℕ) (places : List ℕ) → HoldsAll v from places fs last top → AreFrom places from
places_from [] v last from top places h = λ n among. absurd (none_among places n h.1 among)
places_from (f ∷ fs) v last from top places h = by_mode f.mode h (λ w start others. places_from fs w last start top others)
  where
    by_mode : (m : Mode) → HoldsOne m f v from places (λ next after others. HoldsAll next after others fs last top)
        → ((w : Framed) (start : ℕ) (others : List ℕ) → HoldsAll w start others fs last top → AreFrom others start)
        → AreFrom places from
    by_mode mode.In h later n among = let k = later h.0 (from + words_of v.names.scope f.subtype) places h.2 n among in omega (arith, k)
    by_mode mode.Out h later n among = elim (among_first from h.0 n (subst (λ l. is_among l n ≡ true) h.1 among)) [
      | inl e ↦ omega (arith, e)
      | inr e ↦ (let k = later v (from + 1) h.0 h.2 n e in omega (arith, k))
    ]
    by_mode mode.InOut h later n among = elim (among_first from h.1 n (subst (λ l. is_among l n ≡ true) h.2 among)) [
      | inl e ↦ omega (arith, e)
      | inr e ↦ (let k = later h.0 ((from + 1) + words_of v.names.scope f.subtype) h.1 h.4 n e in omega (arith, k))
    ]

-- ---- where they end, and what stays as it was

pub holds_up : (fs : List Parameter) (v last : Framed) (from top : ℕ) (places : List ℕ) → HoldsAll v from places fs last top → from ≤ top
holds_up [] v last from top places h = let e = h.2 in omega (arith, e)
holds_up (f ∷ fs) v last from top places h = by_mode f.mode h (λ w start others. holds_up fs w last start top others)
  where
    by_mode : (m : Mode) → HoldsOne m f v from places (λ next after others. HoldsAll next after others fs last top)
        → ((w : Framed) (start : ℕ) (others : List ℕ) → HoldsAll w start others fs last top → start ≤ top)
        → from ≤ top
    by_mode mode.In h later = let k = later h.0 (from + words_of v.names.scope f.subtype) places h.2 in omega (arith, k)
    by_mode mode.Out h later = let k = later v (from + 1) h.0 h.2 in omega (arith, k)
    by_mode mode.InOut h later = let k = later h.0 ((from + 1) + words_of v.names.scope f.subtype) h.1 h.4 in omega (arith, k)

pub reserved_same : (fs : List Parameter) (v last : Framed) (from top : ℕ) (places : List ℕ) → HoldsAll v from places fs last top → last.reserved ≡ v.reserved
reserved_same [] v last from top places h = ap (λ w. w.reserved) h.0
reserved_same (f ∷ fs) v last from top places h = by_mode f.mode h (λ w start others. reserved_same fs w last start top others)
  where
    by_mode : (m : Mode) → HoldsOne m f v from places (λ next after others. HoldsAll next after others fs last top)
        → ((w : Framed) (start : ℕ) (others : List ℕ) → HoldsAll w start others fs last top → last.reserved ≡ w.reserved)
        → last.reserved ≡ v.reserved
    by_mode mode.In h later = later h.0 (from + words_of v.names.scope f.subtype) places h.2 ∙ h.1.reserved
    by_mode mode.Out h later = later v (from + 1) h.0 h.2
    by_mode mode.InOut h later = later h.0 ((from + 1) + words_of v.names.scope f.subtype) h.1 h.4 ∙ h.3.reserved

plain_role : (m : Mode) → IsPlainRole (formal_role m)
plain_role mode.In = tt
plain_role mode.Out = tt
plain_role mode.InOut = tt

module _ (stay : ShapesStay) (sized : ValuesHaveWords) (scopes : ScopesAreSound) (program : Program) (g : Package) (base : Scope)
    (whole : (u : Subtype) → IsKnown base u → (x : Value) → IsOf program.scope u.type_number x → has_shape (shape_of base u) x ≡ true) where
  -- Here one has come: the words up to `from` are those of earlier parameters, these are left, and their addresses go to these places.
  pub record Reached (v : Framed) (from : ℕ) (places : List ℕ) (fs : List Parameter) : Type 0 where
    pub laid : IsLaidOut g v
    pub sound : SoundScope v.names.scope
    pub types : SameTypes base v.names.scope
    pub new : AreNew v.names.scope fs
    pub ends : EndsBelow v from
    pub earlier : List ℕ
    pub reserved : v.reserved ≡ earlier ++ places
    pub below : (n : ℕ) → is_among earlier n ≡ true → n < from

  -- behind an address
  addressed : (v : Framed) (from : ℕ) (places others : List ℕ) (fs : List Parameter) → Reached v from places fs → places ≡ from ∷ others
      → Reached v (from + 1) others fs
  addressed v from places others fs r is =
      record {
        laid = r.laid;
        sound = r.sound;
        types = r.types;
        new = r.new;
        ends = λ name x q u told local named. let k = r.ends name x q u told local named in omega (arith, k);
        earlier = r.earlier ++ from ∷ [];
        reserved = r.reserved ∙ ap (λ l. r.earlier ++ l) is ∙ sym (append_assoc r.earlier (from ∷ []) others);
        below = λ n among. elim (among_both r.earlier (from ∷ []) n among) [
          | inl k ↦ (let b = r.below n k in omega (arith, b))
          | inr k ↦ elim (among_first from [] n k) [ inl e ↦ omega (arith, e) | inr e ↦ absurd (none_among [] n refl e) ]
        ];
      }

  -- behind one that is not copied in
  passed_over : (v : Framed) (from : ℕ) (places : List ℕ) (f : Parameter) (fs : List Parameter) → Reached v from places (f ∷ fs) → Reached v from places fs
  passed_over v from places f fs r =
      record {
        laid = r.laid;
        sound = r.sound;
        types = r.types;
        new = r.new.3;
        ends = r.ends;
        earlier = r.earlier;
        reserved = r.reserved;
        below = r.below;
      }

  -- behind a value
  module _ (v next : Framed) (from : ℕ) (places : List ℕ) (f : Parameter) (fs : List Parameter) (r : Reached v from places (f ∷ fs))
      (adds : AddsParameter v f from next) (above : AreFrom places (from + words_of v.names.scope f.subtype))
      (fits : from + words_of v.names.scope f.subtype ≤ v.room) where
    abbrev s : Scope
    s = v.names.scope

    abbrev u : Subtype
    u = f.subtype

    abbrev q : Role
    q = formal_role f.mode

    abbrev wider : Scope
    wider = with_name s f.name (entity.Object q u)

    added : AddsObject v f.name q u from adds.slot next
    added = record {
      hidden = none_unseen s f.name r.new.0;
      sound = formal_object s f.mode u r.new.2;
      scope = adds.scope;
      slots = adds.slots;
      subprograms = adds.subprograms;
      operations = adds.operations;
      room = adds.room;
      within = adds.within;
      region = adds.region;
      offset = adds.at;
      fits = fits;
    }

    pub widens : Widens v f.name q u adds.slot next
    widens = widens_behind v next f.name q u from adds.slot r.ends added

    suits : (x : Value) → IsOf program.scope u.type_number x → has_shape (shape_of s u) x ≡ true
    suits x is =
        let there : IsKnown base u = known_same s base (types_turned base s r.types) u r.new.2 in
        values_same base s r.types u x there ∙ whole u there x is

    pub value_begun : Begins program g v f from next
    value_begun = record { laid = r.laid; role = q; slot = adds.slot; region = adds.region; at = adds.at; widens = widens; suits = suits }

    -- none of the places is one of its words
    apart : (n : ℕ) → is_among v.reserved n ≡ true → AreApart n 1 from (words_of s u)
    apart n among = elim (among_both r.earlier places n (subst (λ l. is_among l n ≡ true) r.reserved among)) [
      | inl k ↦ (let b = r.below n k in inl (omega (arith, b)))
      | inr k ↦ (let a = above n k in inr (omega (arith, a)))
    ]

    pub value_spares : Spares v u adds.slot next
    value_spares = record { reserved = adds.reserved; free = subst (λ o. IsFree v.reserved o (words_of s u)) (sym adds.at) apart }

    next_laid : IsLaidOut g next
    next_laid =
        laid_wider stay g v next f.name q u adds.slot r.sound r.laid widens adds.region
        (free_wider stay g v next f.name q u adds.slot r.sound r.laid widens adds.region value_spares)

    pub value_reached : Reached next (from + words_of s u) places fs
    value_reached =
        record {
          laid = next_laid;
          sound = subst SoundScope (sym adds.scope) (sound_with scopes s f.name q u r.sound (plain_role f.mode) r.new.2);
          types = subst (SameTypes base) (sym adds.scope) (types_then base s wider r.types (types_with_all s (named_formal f ∷ []) (refl, tt)));
          new = subst (λ z. AreNew z fs) (sym adds.scope) (new_behind s f fs r.new.1 r.new.3);
          ends = ends_wider stay g v next f.name q u adds.slot r.sound r.laid widens adds.region from r.ends adds.at;
          earlier = r.earlier;
          reserved = adds.reserved ∙ r.reserved;
          below = λ n among. let b = r.below n among in omega (arith, b);
        }

  -- ---- all of them

  -- a value takes the words of its subtype
  one_long : (s : Scope) (u : Subtype) (x : Value) → has_shape (shape_of s u) x ≡ true → length (value_words x) ≡ words_of s u
  one_long s u x h = (sized (shape_of s u) x h).sized

  module _ (f : Parameter) (fs : List Parameter) (v last : Framed) (from top : ℕ) (places : List ℕ) (room : top ≤ v.room)
      (r : Reached v from places (f ∷ fs)) where
    abbrev many : ℕ
    many = words_of v.names.scope f.subtype

    abbrev Holds : Framed → ℕ → List ℕ → Type 0
    Holds next after others = HoldsAll next after others fs last top

    abbrev Goes : Framed → ℕ → List ℕ → Type 0
    Goes next after others = Enters program g next after others fs last

    abbrev Later : (Framed → ℕ → List ℕ → Type 0) → Type 0
    Later P = (w : Framed) (start : ℕ) (others : List ℕ) → top ≤ w.room → Holds w start others → Reached w start others fs → P w start others

    enters_by : (m : Mode) → HoldsOne m f v from places Holds → Later Goes → EntersOne program g m f v from places Goes
    enters_by mode.In h later =
        let up = holds_up fs h.0 last (from + many) top places h.2 in
        let above = places_from fs h.0 last (from + many) top places h.2 in
        let fits : from + many ≤ v.room = omega (arith, up, room) in
        let same = h.1.room in (
          h.0,
          value_begun v h.0 from places f fs r h.1 above fits,
          later h.0 (from + many) places (omega (arith, room, same)) h.2 (value_reached v h.0 from places f fs r h.1 above fits),
        )
    enters_by mode.Out h later =
        (h.0, h.1, later v (from + 1) h.0 room h.2 (addressed v from places h.0 fs (passed_over v from places f fs r) h.1))
    enters_by mode.InOut h later =
        let up = holds_up fs h.0 last ((from + 1) + many) top h.1 h.4 in
        let above = places_from fs h.0 last ((from + 1) + many) top h.1 h.4 in
        let fits : (from + 1) + many ≤ v.room = omega (arith, up, room) in
        let same = h.3.room in
        let a = addressed v from places h.1 (f ∷ fs) r h.2 in (
          h.0,
          h.1,
          h.2,
          value_begun v h.0 (from + 1) h.1 f fs a h.3 above fits,
          later h.0 ((from + 1) + many) h.1 (omega (arith, room, same)) h.4 (value_reached v h.0 (from + 1) h.1 f fs a h.3 above fits),
        )

    -- the words that are passed

    abbrev words_by : Mode → List Value → List ℕ → List ℤ
    words_by m vs addresses = elim m [
      | mode.In ↦ first_words vs ++ passed_words fs (drop 1 vs) addresses
      | mode.Out ↦ first_address addresses ++ passed_words fs vs (drop 1 addresses)
      | mode.InOut ↦ first_address addresses ++ (first_words vs ++ passed_words fs (drop 1 vs) (drop 1 addresses))
    ]

    abbrev types_by : Bool → List ℕ
    types_by b = if b then taken_types fs else f.subtype.type_number ∷ taken_types fs

    abbrev results_by : Bool → List (List ℕ)
    results_by b = if b then results fs else f.name ∷ results fs

    abbrev Ends : Framed → ℕ → List ℕ → Type 0
    Ends w start others = (ws : List Value) (rest : List ℕ) → AreOf program.scope (taken_types fs) ws → length rest ≡ length (results fs)
        → start + length (passed_words fs ws rest) ≡ top

    long_by : (m : Mode) → HoldsOne m f v from places Holds → (vs : List Value) (addresses : List ℕ) → AreOf program.scope (types_by (is_out m)) vs
        → length addresses ≡ length (results_by (is_in m)) → Later Ends
        → from + length (words_by m vs addresses) ≡ top
    long_by mode.In h [] addresses of long later = absurd of
    long_by mode.In h (x ∷ xs) addresses of long later =
        let up = holds_up fs h.0 last (from + many) top places h.2 in
        let above = places_from fs h.0 last (from + many) top places h.2 in
        let fits : from + many ≤ v.room = omega (arith, up, room) in
        let same = h.1.room in
        let b = value_begun v h.0 from places f fs r h.1 above fits in
        let wide = one_long v.names.scope f.subtype x (b.suits x of.0) in
        let both = length-append (value_words x) (passed_words fs xs addresses) in
        let k =
        later h.0 (from + many) places (omega (arith, room, same)) h.2 (value_reached v h.0 from places f fs r h.1 above fits) xs addresses of.1 long in
        omega (arith, wide, both, k)
    long_by mode.Out h vs [] of long later = absurd (omega (arith, long))
    long_by mode.Out h vs (z ∷ zs) of long later =
        let k =
        later v (from + 1) h.0 room h.2 (addressed v from places h.0 fs (passed_over v from places f fs r) h.1) vs zs of (omega (arith, long)) in
        omega (arith, k)
    long_by mode.InOut h [] addresses of long later = absurd of
    long_by mode.InOut h (x ∷ xs) [] of long later = absurd (omega (arith, long))
    long_by mode.InOut h (x ∷ xs) (z ∷ zs) of long later =
        let up = holds_up fs h.0 last ((from + 1) + many) top h.1 h.4 in
        let above = places_from fs h.0 last ((from + 1) + many) top h.1 h.4 in
        let fits : (from + 1) + many ≤ v.room = omega (arith, up, room) in
        let same = h.3.room in
        let a = addressed v from places h.1 (f ∷ fs) r h.2 in
        let b = value_begun v h.0 (from + 1) h.1 f fs a h.3 above fits in
        let wide = one_long v.names.scope f.subtype x (b.suits x of.0) in
        let both = length-append (value_words x) (passed_words fs xs zs) in
        let k =
        later h.0 ((from + 1) + many) h.1 (omega (arith, room, same)) h.4 (value_reached v h.0 (from + 1) h.1 f fs a h.3 above fits) xs zs of.1
        (omega (arith, long)) in
        omega (arith, wide, both, k)

  -- ---- what holds behind the last one

  module _ (f : Parameter) (fs : List Parameter) (v last : Framed) (from top : ℕ) (places : List ℕ) (room : top ≤ v.room)
      (r : Reached v from places (f ∷ fs)) where
    abbrev width : ℕ
    width = words_of v.names.scope f.subtype

    end_by : (m : Mode) → HoldsOne m f v from places (λ next after others. HoldsAll next after others fs last top)
        → ((w : Framed) (start : ℕ) (others : List ℕ) → top ≤ w.room → HoldsAll w start others fs last top → Reached w start others fs
        → Reached last top [] [])
        → Reached last top [] []
    end_by mode.In h later =
        let up = holds_up fs h.0 last (from + width) top places h.2 in
        let same = h.1.room in
        later h.0 (from + width) places (omega (arith, room, same)) h.2
        (value_reached v h.0 from places f fs r h.1 (places_from fs h.0 last (from + width) top places h.2) (omega (arith, up, room)))
    end_by mode.Out h later = later v (from + 1) h.0 room h.2 (addressed v from places h.0 fs (passed_over v from places f fs r) h.1)
    end_by mode.InOut h later =
        let up = holds_up fs h.0 last ((from + 1) + width) top h.1 h.4 in
        let same = h.3.room in
        later h.0 ((from + 1) + width) h.1 (omega (arith, room, same)) h.4
        (value_reached v h.0 (from + 1) h.1 f fs (addressed v from places h.1 (f ∷ fs) r h.2) h.3
        (places_from fs h.0 last ((from + 1) + width) top h.1 h.4) (omega (arith, up, room)))

  -- the places are laid out, and all that is visible, and all that statements leave alone, stands in front of the top
  pub end_reached : (fs : List Parameter) (v last : Framed) (from top : ℕ) (places : List ℕ) → top ≤ v.room → HoldsAll v from places fs last top
      → Reached v from places fs
      → Reached last top [] []
  end_reached [] v last from top places room h r =
      subst (λ w. Reached w top [] []) (sym h.0) (subst (λ n. Reached v n [] []) h.2 (subst (λ l. Reached v from l []) h.1 r))
  end_reached (f ∷ fs) v last from top places room h r =
      end_by f fs v last from top places room r f.mode h (λ w start others. end_reached fs w last start top others)

  -- ---- as bodies are entered

  pub all_enter : (fs : List Parameter) (v last : Framed) (from top : ℕ) (places : List ℕ) → top ≤ v.room → HoldsAll v from places fs last top
      → Reached v from places fs
      → Enters program g v from places fs last
  all_enter [] v last from top places room h r = (h.0, h.1)
  all_enter (f ∷ fs) v last from top places room h r =
      enters_by f fs v last from top places room r f.mode h (λ w start others. all_enter fs w last start top others)

  -- they end where the words of the last one do
  pub all_long : (fs : List Parameter) (v last : Framed) (from top : ℕ) (places : List ℕ) → top ≤ v.room → HoldsAll v from places fs last top
      → Reached v from places fs
      → (vs : List Value) (addresses : List ℕ)
      → AreOf program.scope (taken_types fs) vs
      → length addresses ≡ length (results fs)
      → from + length (passed_words fs vs addresses) ≡ top
  all_long [] v last from top places room h r vs addresses of many = let e = h.2 in omega (arith, e)
  all_long (f ∷ fs) v last from top places room h r vs addresses of long =
      long_by f fs v last from top places room r f.mode h vs addresses of long (λ w start others. all_long fs w last start top others)
