-- The variables among declarations, one behind another, as they are told by their numbers.
use Rattle.std.proofs.Common.{◌≡◌, ℕ, zero, suc, ◌+◌, ◌<◌, List, [], ◌∷◌, ◌++◌, length, Bool, true, false, ◌⊎◌, inl, inr, Option, Some, None, refl, sym, ap, ◌∙◌, subst, arith, append-nil, append_assoc, length-append}
use Rattle.std.specs.Prelude.{bytes_eq, get_or, if◌then◌else◌, is_none, is_some, replicate, slice_get, slice_set, ◌&&◌, ◌||◌}
use Rattle.std.proofs.lemmas.Bool.{and_parts}
use Rattle.std.proofs.lemmas.Option.{slice_get-get_or, slice_get_within}
use Rattle.base.specs.Names.{predefined}
use Rattle.ada_tree.specs.declared.expression.Identifier.{Identifier}
use Rattle.ada_tree.specs.StatementTree.{ObjectTree}
use Rattle.ada_tree.specs.ProgramTree.{ItemTree, OfException, OfObject}
use Rattle.image.specs.declared.instruction.Region.TheVariants as regions
use Rattle.types.specs.Places.{Object}
use Rattle.types.specs.Scopes.{Scope, number_of}
use Rattle.types.specs.Shapes.{value_words}
use Rattle.expr_soundness.specs.meaning.specs.Programs.{exceptions_among, initial_value, object_named, subtype_or_integer, variables_among}
use Rattle.expr_soundness.proofs.Positions.{found_at, number_place, same_some}
use Rattle.expr_code.specs.Entries.{entry_at}
use Rattle.expr_code.specs.Seeing.{told_of}
use Rattle.expr_code.specs.declared.visible.Slot.{Slot}
use Rattle.step_simulation.specs.part_code.proofs.Names.{name_is, same_name}
use Rattle.package_code.specs.Package.{first_words_of, place_among}
use Rattle.package_code.specs.Globals.{AddsItems, AddsVariable, AreGlobals, is_placed}
use Rattle.package_code.specs.declared.globals.Globals.{Globals}

-- ---- what is told of names by their numbers

-- a number is that of one name
pub one_number : (s : Scope) (a b : List ℕ) (n : ℕ) → number_of s a ≡ Some n → number_of s b ≡ Some n → a ≡ b
one_number s a b n h k =
    let x = found_at (λ m. bytes_eq a m.name) s n (sym (number_place s a) ∙ h) in
    let y = found_at (λ m. bytes_eq b m.name) s n (sym (number_place s b) ∙ k) in
    let same = same_some x.0 y.0 (sym x.1 ∙ y.1) in
    same_name a x.0.name x.2 ∙ ap (λ m. m.name) same ∙ sym (same_name b y.0.name y.2)

no_entry : {X : Type 0} (n k : ℕ) → entry_at {X = X} (replicate n None) k ≡ None
no_entry zero k = refl
no_entry (suc n) zero = refl
no_entry {X = X} (suc n) (suc k) = no_entry {X = X} n k

abbrev by_told : {X : Type 0} → List (Option X) → Option ℕ → Option X
by_told all o = elim o [ None ↦ None | Some n ↦ entry_at all n ]

pub none_told : {X : Type 0} (s : Scope) (n : ℕ) (name : List ℕ) → told_of {X = X} s (replicate n None) name ≡ None
none_told {X = X} s n name = by_number (number_of s name)
  where
    by_number : (o : Option ℕ) → by_told {X = X} (replicate n None) o ≡ None
    by_number (Some k) = no_entry {X = X} n k
    by_number None = refl

entry_set : {X : Type 0} (all : List (Option X)) (n : ℕ) (x y : Option X) → slice_get all n ≡ Some y → entry_at (slice_set all n x) n ≡ x
entry_set [] n x y h = cc
entry_set (z ∷ all) zero x y h = refl
entry_set (z ∷ all) (suc n) x y h = entry_set all n x y h

entry_other : {X : Type 0} (all : List (Option X)) (n k : ℕ) (x : Option X) → (k ≡ n) ⊎ (entry_at (slice_set all n x) k ≡ entry_at all k)
entry_other [] n k x = inr refl
entry_other (z ∷ all) zero zero x = inl refl
entry_other (z ∷ all) zero (suc k) x = inr refl
entry_other (z ∷ all) (suc n) zero x = inr refl
entry_other (z ∷ all) (suc n) (suc k) x = elim (entry_other all n k x) [ inl e ↦ inl (ap suc e) | inr e ↦ inr e ]

pub long_set : {X : Type 0} (all : List X) (n : ℕ) (x : X) → length (slice_set all n x) ≡ length all
long_set [] n x = refl
long_set (z ∷ all) zero x = refl
long_set (z ∷ all) (suc n) x = ap suc (long_set all n x)

pub set_told : {X : Type 0} (s : Scope) (all : List (Option X)) (name : List ℕ) (n : ℕ) (x y : Option X) → number_of s name ≡ Some n → slice_get all n ≡ Some y
    → told_of s (slice_set all n x) name ≡ x
set_told s all name n x y numbered there = ap (by_told (slice_set all n x)) numbered ∙ entry_set all n x y there

pub was_none : {X : Type 0} (s : Scope) (all : List (Option X)) (name : List ℕ) (n : ℕ) → number_of s name ≡ Some n → slice_get all n ≡ Some None
    → told_of s all name ≡ None
was_none s all name n numbered there = ap (by_told all) numbered ∙ ap (λ o. elim o [ None ↦ None | Some x ↦ x ]) there

pub set_other : {X : Type 0} (s : Scope) (all : List (Option X)) (name other : List ℕ) (n : ℕ) (x : Option X) → number_of s name ≡ Some n
    → bytes_eq name other ≡ false → told_of s (slice_set all n x) other ≡ told_of s all other
set_other s all name other n x numbered differ = by_number (number_of s other) refl
  where
    by_number : (o : Option ℕ) → number_of s other ≡ o → by_told (slice_set all n x) o ≡ by_told all o
    by_number None e = refl
    by_number (Some k) e = elim (entry_other all n k x) [
      | inl same ↦ absurd (let is = sym differ ∙ name_is name other (one_number s name other n numbered (e ∙ ap Some same)) in cc)
      | inr h ↦ h
    ]

-- ---- one variable more

place_kept : (from : ℕ) (xs : List Object) (o : Object) (name : List ℕ) → bytes_eq o.name name ≡ false
    → place_among from (xs ++ o ∷ []) name ≡ place_among from xs name
place_kept from [] o name differ =
    ap (λ b. if b then Some (let w : Slot = record { region = regions.Plain; offset = from } in w) else None) differ
place_kept from (x ∷ xs) o name differ =
    ap (λ p. if bytes_eq x.name name then Some (let w : Slot = record { region = regions.Plain; offset = from } in w) else p)
    (place_kept (from + length (value_words x.value)) xs o name differ)

place_last : (from : ℕ) (xs : List Object) (o : Object) (name : List ℕ) → bytes_eq o.name name ≡ true → place_among from xs name ≡ None
    → place_among from (xs ++ o ∷ []) name ≡ Some (record { region = regions.Plain; offset = from + length (first_words_of xs) })
place_last from [] o name is none =
    let at : from ≡ from + 0 = omega arith in
    ap (λ b. if b then Some (let w : Slot = record { region = regions.Plain; offset = from } in w) else None) is
    ∙ ap (λ n. Some (let w : Slot = record { region = regions.Plain; offset = n } in w)) at
place_last from (x ∷ xs) o name is none =
    by_test (bytes_eq x.name name) refl none (place_last (from + length (value_words x.value)) xs o name is)
  where
    here : ℕ → Option Slot
    here n = Some (record { region = regions.Plain; offset = n })

    more : (from + length (value_words x.value)) + length (first_words_of xs) ≡ from + length (value_words x.value ++ first_words_of xs)
    more = (let long = length-append (value_words x.value) (first_words_of xs) in omega (arith, long))

    by_test : (b : Bool) → bytes_eq x.name name ≡ b
        → (if b then here from else place_among (from + length (value_words x.value)) xs name) ≡ None
        → (place_among (from + length (value_words x.value)) xs name ≡ None
        → place_among (from + length (value_words x.value)) (xs ++ o ∷ []) name ≡ here ((from + length (value_words x.value)) + length (first_words_of xs)))
        → place_among from (x ∷ (xs ++ o ∷ [])) name ≡ here (from + length (value_words x.value ++ first_words_of xs))
    by_test true e h later = cc
    by_test false e h later =
        ap (λ b. if b then here from else place_among (from + length (value_words x.value)) (xs ++ o ∷ []) name) e ∙ later h ∙ ap here more

pub words_more : (xs ys : List Object) → first_words_of (xs ++ ys) ≡ first_words_of xs ++ first_words_of ys
words_more [] ys = refl
words_more (x ∷ xs) ys =
    ap (λ l. value_words x.value ++ l) (words_more xs ys) ∙ sym (append_assoc (value_words x.value) (first_words_of xs) (first_words_of ys))

-- ---- declarations behind others

pub variables_both : (s : Scope) (xs ys : List ItemTree) → variables_among s (xs ++ ys) ≡ variables_among s xs ++ variables_among s ys
variables_both s [] ys = refl
variables_both s (OfObject d ∷ xs) ys =
    ap (λ l. (if d.constant then [] else object_named s d.name d.subtype d.value ∷ []) ++ l) (variables_both s xs ys)
    ∙ sym (append_assoc (if d.constant then [] else object_named s d.name d.subtype d.value ∷ []) (variables_among s xs) (variables_among s ys))
variables_both s (x ∷ xs) ys = variables_both s xs ys

pub exceptions_both : (xs ys : List ItemTree) → exceptions_among (xs ++ ys) ≡ exceptions_among xs ++ exceptions_among ys
exceptions_both [] ys = refl
exceptions_both (OfException name ∷ xs) ys = ap (λ l. name.name ∷ l) (exceptions_both xs ys)
exceptions_both (x ∷ xs) ys = exceptions_both xs ys

-- ---- what is told of declarations, and of one more

-- a declaration that declares no variable and no exception
pub adds_nothing : (s : Scope) (i : ItemTree) (g : Globals) → variables_among s (i ∷ []) ≡ [] → exceptions_among (i ∷ []) ≡ []
    → AddsItems s g (i ∷ []) g
adds_nothing s i g no_variables no_exceptions = record { are = λ front are placed. told front are }
  where
    told : (front : List ItemTree) → AreGlobals s front g → AreGlobals s (front ++ i ∷ []) g
    told front are =
        let same : variables_among s (front ++ i ∷ []) ≡ variables_among s front =
        variables_both s front (i ∷ []) ∙ ap (λ l. variables_among s front ++ l) no_variables ∙ append-nil (variables_among s front) in
        record {
          slots = λ name. are.slots name ∙ ap (λ l. place_among 0 l name) (sym same);
          many = are.many;
          words = are.words ∙ ap first_words_of (sym same);
          within = are.within;
          exceptions = are.exceptions
              ∙ ap (λ l. predefined ++ l)
              (sym (exceptions_both front (i ∷ []) ∙ ap (λ l. exceptions_among front ++ l) no_exceptions ∙ append-nil (exceptions_among front)));
        }

-- a constant
pub adds_constant : (s : Scope) (d : ObjectTree) (g : Globals) → d.constant ≡ true → AddsItems s g (OfObject d ∷ []) g
adds_constant s d g constant =
    adds_nothing s (OfObject d) g (ap (λ b. (if b then [] else object_named s d.name d.subtype d.value ∷ []) ++ []) constant) refl

-- an exception
pub adds_exception : (s : Scope) (name : Identifier) (old new : Globals) → new.slots ≡ old.slots → new.words ≡ old.words
    → new.exceptions.items ≡ old.exceptions.items ++ name.name ∷ []
    → AddsItems s old (OfException name ∷ []) new
adds_exception s name old new slots words exceptions = record { are = λ front are placed. told front are }
  where
    told : (front : List ItemTree) → AreGlobals s front old → AreGlobals s (front ++ OfException name ∷ []) new
    told front are =
        let same : variables_among s (front ++ OfException name ∷ []) ≡ variables_among s front =
        variables_both s front (OfException name ∷ []) ∙ append-nil (variables_among s front) in
        record {
          slots = λ other. ap (λ z. told_of s z.items other) slots ∙ are.slots other ∙ ap (λ l. place_among 0 l other) (sym same);
          many = ap (λ z. length z.items) slots ∙ are.many;
          words = ap (λ z. z.items) words ∙ are.words ∙ ap first_words_of (sym same);
          within = λ other x h.
              subst (λ z. x.offset < length z.items) (sym words) (are.within other x (ap (λ z. told_of s z.items other) (sym slots) ∙ h));
          exceptions = exceptions ∙ ap (λ l. l ++ name.name ∷ []) are.exceptions
              ∙ append_assoc predefined (exceptions_among front) (name.name ∷ [])
              ∙ ap (λ l. predefined ++ l) (sym (exceptions_both front (OfException name ∷ [])));
        }

-- a variable's name is visible, and none in front has it
record IsFree (s : Scope) (front : List ItemTree) (name : List ℕ) : Type 0 where
  pub number : ℕ
  pub numbered : number_of s name ≡ Some number
  pub free : place_among 0 (variables_among s front) name ≡ None

free_by : (s : Scope) (front : List ItemTree) (name : List ℕ) (o : Option ℕ) (p : Option Slot) → number_of s name ≡ o
    → place_among 0 (variables_among s front) name ≡ p → (is_some o && is_none p) ≡ true
    → IsFree s front name
free_by s front name (Some n) None numbered free h = record { number = n; numbered = numbered; free = free }
free_by s front name (Some n) (Some x) numbered free h = absurd cc
free_by s front name None p numbered free h = absurd cc

variable_free : (s : Scope) (front : List ItemTree) (d : ObjectTree) → d.constant ≡ false → is_placed s front (OfObject d) ≡ true → IsFree s front d.name.name
variable_free s front d variable placed =
    free_by s front d.name.name (number_of s d.name.name) (place_among 0 (variables_among s front) d.name.name) refl refl
    (ap (λ b. b || (is_some (number_of s d.name.name) && is_none (place_among 0 (variables_among s front) d.name.name))) (sym variable) ∙ placed)

added_variable : (s : Scope) (front : List ItemTree) (d : ObjectTree) (old new : Globals) → d.constant ≡ false → AddsVariable s old d new
    → IsFree s front d.name.name → AreGlobals s front old → AreGlobals s (front ++ OfObject d ∷ []) new
added_variable s front d old new variable h free are =
    record {
      slots = told;
      many = ap length slots_are ∙ long_set old.slots.items free.number (slot_at (length old.words.items)) ∙ are.many;
      words = h.words ∙ ap (λ l. l ++ value_words (initial_value s h.subtype d.value)) are.words
          ∙ ap (λ t. first_words_of all ++ value_words (initial_value s t d.value)) subtype_is
          ∙ ap (λ l. first_words_of all ++ l) (sym (append-nil (value_words o.value)))
          ∙ sym (words_more all (o ∷ [])) ∙ ap first_words_of (sym one_more);
      within = within;
      exceptions = ap (λ z. z.items) h.exceptions ∙ are.exceptions
          ∙ ap (λ l. predefined ++ l) (sym (exceptions_both front (OfObject d ∷ []) ∙ append-nil (exceptions_among front)));
    }
  where
    all : List Object
    all = variables_among s front

    o : Object
    o = object_named s d.name d.subtype d.value

    subtype_is : h.subtype ≡ o.subtype
    subtype_is = ap subtype_or_integer (sym h.named)

    slots_are : new.slots.items ≡ slice_set old.slots.items free.number (Some (record { region = regions.Plain; offset = length old.words.items }))
    slots_are = h.placed free.number free.numbered

    there : slice_get old.slots.items free.number ≡ Some (get_or old.slots.items free.number None)
    there =
        let x = found_at (λ m. bytes_eq d.name.name m.name) s free.number (sym (number_place s d.name.name) ∙ free.numbered) in
        let within = slice_get_within s free.number x.0 x.1 in
        let many = are.many in
        slice_get-get_or old.slots.items free.number None (omega (arith, within, many))

    one_more : variables_among s (front ++ OfObject d ∷ []) ≡ all ++ o ∷ []
    one_more =
        variables_both s front (OfObject d ∷ [])
        ∙ ap (λ b. all ++ ((if b then [] else o ∷ []) ++ [])) variable

    at : length old.words.items ≡ 0 + length (first_words_of all)
    at = (let same = ap length are.words in omega (arith, same))

    slot_at : ℕ → Option Slot
    slot_at n = Some (record { region = regions.Plain; offset = n })

    by_test : (name : List ℕ) (b : Bool) → bytes_eq d.name.name name ≡ b → told_of s new.slots.items name ≡ place_among 0 (all ++ o ∷ []) name
    by_test name true e =
        ap (λ z. told_of s z name) slots_are
        ∙ subst (λ m. told_of s (slice_set old.slots.items free.number (slot_at (length old.words.items))) m ≡ slot_at (length old.words.items))
        (same_name d.name.name name e) (set_told s old.slots.items d.name.name free.number (slot_at (length old.words.items)) (get_or old.slots.items free.number None) free.numbered there)
        ∙ ap slot_at at
        ∙ sym (place_last 0 all o name e (subst (λ m. place_among 0 all m ≡ None) (same_name d.name.name name e) free.free))
    by_test name false e =
        ap (λ z. told_of s z name) slots_are
        ∙ set_other s old.slots.items d.name.name name free.number (slot_at (length old.words.items)) free.numbered e
        ∙ are.slots name ∙ sym (place_kept 0 all o name e)

    by_name : (name : List ℕ) (x : Slot) → told_of s new.slots.items name ≡ Some x → (b : Bool) → bytes_eq d.name.name name ≡ b
        → x.offset < length new.words.items
    by_name name x seen true e =
        let same : slot_at (length old.words.items) ≡ Some x =
        sym
        (ap (λ z. told_of s z name) slots_are
        ∙ subst (λ m. told_of s (slice_set old.slots.items free.number (slot_at (length old.words.items))) m ≡ slot_at (length old.words.items))
        (same_name d.name.name name e) (set_told s old.slots.items d.name.name free.number (slot_at (length old.words.items)) (get_or old.slots.items free.number None) free.numbered there))
        ∙ seen in
        subst (λ y. y.offset < length new.words.items)
        (same_some (let w : Slot = record { region = regions.Plain; offset = length old.words.items } in w) x same) h.some
    by_name name x seen false e =
        let before =
        are.within name x
        (sym (ap (λ z. told_of s z name) slots_are
        ∙ set_other s old.slots.items d.name.name name free.number (slot_at (length old.words.items)) free.numbered e)
        ∙ seen) in
        let more = h.some in
        omega (arith, before, more)

    -- its first word, or that of one in front of it
    within : (name : List ℕ) (x : Slot) → told_of s new.slots.items name ≡ Some x → x.offset < length new.words.items
    within name x seen = by_name name x seen (bytes_eq d.name.name name) refl

    told : (name : List ℕ) → told_of s new.slots.items name ≡ place_among 0 (variables_among s (front ++ OfObject d ∷ [])) name
    told name = by_test name (bytes_eq d.name.name name) refl ∙ ap (λ l. place_among 0 l name) (sym one_more)

pub adds_variable : (s : Scope) (d : ObjectTree) (old new : Globals) → d.constant ≡ false → AddsVariable s old d new → AddsItems s old (OfObject d ∷ []) new
adds_variable s d old new variable h = record {
  are = λ front are placed. added_variable s front d old new variable h
      (variable_free s front d variable (and_parts (is_placed s front (OfObject d)) true placed).0) are;
}
