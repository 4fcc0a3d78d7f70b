-- What a frame knows when the body of a procedure is entered: what stands in front of it, its parameters, and the addresses that it was passed.
use Rattle.std.proofs.Common.{◌≡◌, ℕ, suc, ◌+◌, ◌≤◌, ℤ, List, [], ◌∷◌, ◌++◌, length, map, Option, Some, None, Bool, true, false, refl, sym, ap, ◌∙◌, subst, arith}
use Rattle.std.specs.Prelude.{bytes_eq, drop, if◌then◌else◌, ⊤}
use Rattle.std.proofs.lemmas.Slice.Eq.{bytes_eq-Decides}
use Rattle.ada_tree.specs.declared.declaration.Mode.{Mode}
use Rattle.ada_tree.specs.declared.declaration.Mode.TheVariants as mode
use Rattle.types.specs.Laws.{ValuesHaveWords}
use Rattle.types.specs.Layouts.{words_of}
use Rattle.types.specs.Places.{Object, object_of, or_else}
use Rattle.types.specs.Values.{Value}
use Rattle.expr_soundness.specs.Laws.{AgreementIsKept}
use Rattle.expr_soundness.specs.meaning.specs.Calls.{activation_of, bound, is_in, is_out, results, with_first}
use Rattle.expr_soundness.specs.meaning.specs.Programs.{Parameter, Procedure, Program}
use Rattle.part_code.specs.step_soundness.specs.Fitting.{taken_types}
use Rattle.part_code.specs.step_soundness.specs.Objects.{AreOf}
use Rattle.expr_code.specs.Seeing.{Package}
use Rattle.part_code.specs.Copying.{held_at, passed_words}
use Rattle.part_code.specs.Layout.{IsLaidPackage}
use Rattle.part_code.specs.Resting.{AreHeld, Framed, RestsWith, held_offset}
use Rattle.stmt_code.proofs.Beginning.{Enters, EntersOne, begun, entered}
use Rattle.stmt_code.proofs.Entering.{BeginsBody, rests_alike}
use Rattle.expr_soundness.specs.Lying.{ObjectsLie}
use Rattle.types.specs.Scopes.{Scope}

-- ---- parameters of different names are found in either order

abbrev pub IsOther : List ℕ → List Parameter → Type 0
IsOther name [] = ⊤
IsOther name (f ∷ fs) = (bytes_eq f.name name ≡ false) × IsOther name fs

abbrev pub AreDistinct : List Parameter → Type 0
AreDistinct [] = ⊤
AreDistinct (f ∷ fs) = IsOther f.name fs × AreDistinct fs

none_bound : (ps : List Parameter) (vs : List Value) (name : List ℕ) → IsOther name ps → object_of (bound ps vs) name ≡ None
none_bound [] vs name h = refl
none_bound (f ∷ fs) vs name h = by_mode (is_out f.mode) vs (λ us. none_bound fs us name h.1)
  where
    by_value : (vs : List Value) → ((us : List Value) → object_of (bound fs us) name ≡ None) → object_of (with_first f vs (bound fs (drop 1 vs))) name ≡ None
    by_value [] rest = rest []
    by_value (x ∷ xs) rest = ap (λ b. if b then Some (record { name = f.name; subtype = f.subtype; value = x }) else object_of (bound fs xs) name) h.0 ∙ rest xs

    by_mode : (b : Bool) (vs : List Value) → ((us : List Value) → object_of (bound fs us) name ≡ None)
        → object_of (if b then bound fs vs else with_first f vs (bound fs (drop 1 vs))) name ≡ None
    by_mode true vs rest = rest vs
    by_mode false vs rest = by_value vs rest

pub entered_alike : (ps : List Parameter) (vs : List Value) (l : List Object) (name : List ℕ) → AreDistinct ps
    → object_of (entered ps vs l) name ≡ or_else (object_of (bound ps vs) name) (object_of l name)
entered_alike [] vs l name h = refl
entered_alike (f ∷ fs) vs l name h = by_mode (is_out f.mode) vs (λ us k. entered_alike fs us k name h.1)
  where
    by_name : (x : Value) (xs : List Value) (b : Bool) → bytes_eq f.name name ≡ b
        → or_else (object_of (bound fs xs) name) (if b then Some (record { name = f.name; subtype = f.subtype; value = x }) else object_of l name)
        ≡ or_else (if b then Some (record { name = f.name; subtype = f.subtype; value = x }) else object_of (bound fs xs) name) (object_of l name)
    by_name x xs true e =
        let same : f.name ≡ name = (bytes_eq-Decides f.name name).0 e in
        ap (λ o. or_else o (Some (record { name = f.name; subtype = f.subtype; value = x })))
        (subst (λ n. object_of (bound fs xs) n ≡ None) same (none_bound fs xs f.name h.0))
    by_name x xs false e = refl

    by_value : (vs : List Value) → ((us : List Value) (k : List Object) → object_of (entered fs us k) name ≡ or_else (object_of (bound fs us) name) (object_of k name))
        → object_of (entered fs (drop 1 vs) (with_first f vs l)) name ≡ or_else (object_of (with_first f vs (bound fs (drop 1 vs))) name) (object_of l name)
    by_value [] rest = rest [] l
    by_value (x ∷ xs) rest = rest xs (record { name = f.name; subtype = f.subtype; value = x } ∷ l) ∙ by_name x xs (bytes_eq f.name name) refl

    by_mode : (b : Bool) (vs : List Value)
        → ((us : List Value) (k : List Object) → object_of (entered fs us k) name ≡ or_else (object_of (bound fs us) name) (object_of k name))
        → object_of (if b then entered fs vs l else entered fs (drop 1 vs) (with_first f vs l)) name
        ≡ or_else (object_of (if b then bound fs vs else with_first f vs (bound fs (drop 1 vs))) name) (object_of l name)
    by_mode true vs rest = rest vs l
    by_mode false vs rest = by_value vs rest

-- ... and lie in their subtypes in either order
entered_lie : (s : Scope) (ps : List Parameter) (vs : List Value) (l : List Object) → ObjectsLie s (bound ps vs) → ObjectsLie s l
    → ObjectsLie s (entered ps vs l)
entered_lie s [] vs l h k = k
entered_lie s (f ∷ fs) vs l h k = by_mode (is_out f.mode) vs h (λ us m i j. entered_lie s fs us m i j)
  where
    by_value : (vs : List Value) → ObjectsLie s (with_first f vs (bound fs (drop 1 vs)))
        → ((us : List Value) (m : List Object) → ObjectsLie s (bound fs us) → ObjectsLie s m → ObjectsLie s (entered fs us m))
        → ObjectsLie s (entered fs (drop 1 vs) (with_first f vs l))
    by_value [] i rest = rest [] l i k
    by_value (x ∷ xs) i rest = rest xs (record { name = f.name; subtype = f.subtype; value = x } ∷ l) i.1 (i.0, k)

    by_mode : (b : Bool) (vs : List Value) → ObjectsLie s (if b then bound fs vs else with_first f vs (bound fs (drop 1 vs)))
        → ((us : List Value) (m : List Object) → ObjectsLie s (bound fs us) → ObjectsLie s m → ObjectsLie s (entered fs us m))
        → ObjectsLie s (if b then entered fs vs l else entered fs (drop 1 vs) (with_first f vs l))
    by_mode true vs i rest = rest vs l i k
    by_mode false vs i rest = by_value vs i rest

-- ---- as many addresses as places

places_many : (program : Program) (g : Package) (ps : List Parameter) (v last : Framed) (from : ℕ) (places : List ℕ) → Enters program g v from places ps last
    → length places ≡ length (results ps)
places_many program g [] v last from places h = ap length h.1
places_many program g (f ∷ fs) v last from places h = by_mode f.mode h (λ v' from' places'. places_many program g fs v' last from' places')
  where
    by_mode : (m : Mode) → EntersOne program g m f v from places (λ next after others. Enters program g next after others fs last)
        → ((v' : Framed) (from' : ℕ) (places' : List ℕ) → Enters program g v' from' places' fs last → length places' ≡ length (results fs))
        → length places ≡ length (if is_in m then results fs else f.name ∷ results fs)
    by_mode mode.In h rest = rest h.0 (from + words_of v.names.scope f.subtype) places h.2
    by_mode mode.Out h rest = ap length h.1 ∙ ap suc (rest v (from + 1) h.0 h.2)
    by_mode mode.InOut h rest = ap length h.2 ∙ ap suc (rest h.0 ((from + 1) + words_of v.names.scope f.subtype) h.1 h.4)

offsets_held : (places addresses : List ℕ) → length places ≡ length addresses → map held_offset (held_at places addresses) ≡ places
offsets_held [] addresses h = refl
offsets_held (n ∷ ns) [] h = absurd (omega (arith, h))
offsets_held (n ∷ ns) (a ∷ rest) h = ap (λ l. n ∷ l) (offsets_held ns rest (omega (arith, h)))

-- ---- the frame of a body

module _ (kept : AgreementIsKept) (sized : ValuesHaveWords) (program : Program) (g : Package) (laid : IsLaidPackage g) (q : Procedure)
    (front last : Framed) (begins : BeginsBody g front q.object) (distinct : AreDistinct q.parameters) where
  pub body_rests : (vs : List Value) (addresses : List ℕ) (locals : List ℤ) (places : List ℕ)
      → Enters program g front 0 places q.parameters last
      → last.reserved ≡ places
      → AreOf program.scope (taken_types q.parameters) vs
      → length addresses ≡ length (results q.parameters)
      → (let words = passed_words q.parameters vs addresses ++ locals in
      length words ≤ 65536 → front.room ≤ length words
      → RestsWith g last (held_at last.reserved addresses) (activation_of q vs) words)
  body_rests vs addresses locals places enters reserved of many small room =
      let words = passed_words q.parameters vs addresses ++ locals in
      let bare = begins words small room in
      let found = begun kept sized program g q.object words q.parameters vs addresses front last [] locals places [] enters of many refl bare in
      let l = bound q.parameters vs in
      let held = subst (λ p. AreHeld words (held_at p addresses)) (sym reserved) found.1 in
      let as_many = places_many program g q.parameters front last 0 places enters in
      let lasts = ap length reserved in
      record {
        rests = rests_alike g laid last (record { within = q.object; locals = entered q.parameters vs [] }) l words
            (λ name. nothing_behind (object_of l name) ∙ sym (entered_alike q.parameters vs [] name distinct))
            (λ s lying. entered_lie s q.parameters vs [] lying tt) found.0;
        held = held;
        apart = offsets_held last.reserved addresses (omega (arith, lasts, as_many, many));
      }
    where
      nothing_behind : (o : Option Object) → o ≡ or_else o None
      nothing_behind (Some x) = refl
      nothing_behind None = refl
