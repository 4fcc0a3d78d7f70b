-- Instructions that store: what they do to words, and what code in front of them comes to.
use Rattle.std.proofs.Common.{◌≡◌, ℕ, suc, ◌+◌, ◌-◌, ◌≤◌, ℤ, List, [], ◌∷◌, ◌++◌, append_assoc, length, reverse, cond, Option, Some, None, Bool, true, false, refl, sym, ap, ◌∙◌, subst, arith}
use Rattle.std.specs.Prelude.{pos, take, drop}
use Rattle.std.proofs.lemmas.List.{length-reverse, reverse-append, reverse-reverse}
use Rattle.std.proofs.Math.Seq.{drop-append_seam, take-append_seam}
use Rattle.base.specs.declared.exceptions.PredefinedException.TheVariants.{ConstraintError}
use Rattle.base.specs.declared.schedule.ScheduleLine.{ScheduleLine}
use Rattle.kernel.specs.State.{Kernel}
use Rattle.kernel.specs.Effects.{Quiet}
use Rattle.kernel.specs.Calm.{Calm}
use Rattle.kernel.specs.Counting.{Done, Spends}
use Rattle.kernel.specs.Laws.{QuietStays}
use Rattle.kernel.specs.RunLaws.{spends_trans}
use Rattle.image.specs.Sections.{Sections}
use Rattle.image.specs.Frames.{Words, Frame, arguments, locals_with, region_words, shared_with, word_put, words_put}
use Rattle.image.specs.Steps.{Stepped, act, behaviour, does, stored, stores_block, with_one}
use Rattle.image.specs.declared.instruction.Operation.TheVariants as op
use Rattle.image.specs.declared.instruction.Region.{Region}
use Rattle.image.specs.declared.instruction.Region.TheVariants as regions
use Rattle.ada_tree.specs.ExpressionTree.{ExprTree, NameTree, NoSelectors}
use Rattle.types.specs.declared.entity.Subtype.{Subtype}
use Rattle.types.specs.Shapes.{value_words}
use Rattle.types.specs.Values.{Value, fits}
use Rattle.types.specs.Evaluations.{Val, Gives, Raises, Meaningless, and_then, raise}
use Rattle.types.specs.Entities.{Entity, OfSubtype, OfType, Predefined, Protected}
use Rattle.types.specs.Places.{Function, IsObject, Meaning, Object, Place, function_meaning, meaning_in_scope, meaning_of, meaning_of_entity, meaning_or, object_meaning, object_of, or_else, own_components, own_function, package_function, package_object}
use Rattle.types.specs.Scopes.{Scope, entity_at, number_of}
use Rattle.types.specs.Evaluating.{Calls, passed}
use Rattle.expr_soundness.proofs.Positions.{same_some}
use Rattle.expr_soundness.specs.meaning.specs.Targets.{all_selected, first_of, object_named, own_component, target_or_nothing, whole}
use Rattle.expr_soundness.specs.meaning.specs.Works.{Home, InActivation, InObject, InPackage, Target}
use Rattle.expr_soundness.specs.meaning.specs.SameMeaning.{frames_of}
use Rattle.expr_code.specs.Coming.{Comes, most_steps, on}
use Rattle.expr_code.specs.Views.{At, Sight, in_frame, placed}
use Rattle.expr_code.specs.Computing.{Everywhere, Library}
use Rattle.expr_code.proofs.Coming.{acts, after_first, more, pushes}
use Rattle.part_code.specs.Emitting.{stored_in}
use Rattle.part_code.specs.Storing.{ArePushed, Assigned, assigned, assigned_to}
use Rattle.part_code.proofs.Words.{block_put, one_put, with_words}
use Rattle.part_code.proofs.Names.{object_subtype}
use Rattle.expr_code.proofs.Naming.{same_words}

-- ---- instructions

popped : (ws base : List ℤ) → drop (length ws) (reverse ws ++ base) ≡ base
popped ws base = ap (λ n. drop n (reverse ws ++ base)) (sym (length-reverse ws)) ∙ drop-append_seam (reverse ws) base

taken : (ws base : List ℤ) → arguments (length ws) (reverse ws ++ base) ≡ ws
taken ws base =
    ap (λ n. reverse (take n (reverse ws ++ base))) (sym (length-reverse ws))
    ∙ ap reverse (take-append_seam (reverse ws) base)
    ∙ reverse-reverse ws

-- the frame goes on at the next place with other words of a region
abbrev pub with_stored : Sections → Region → List ℤ → Words → Frame → List Frame → (place : ℕ) → (base : List ℤ) → Stepped
with_stored i r after m f fs place base =
    does Quiet (shared_with i r after m f) (record f { place = place; locals = locals_with r after f; stack = base }) fs None None

module _ (quiet : QuietStays) (i : Sections) (schedule : List ScheduleLine) (k : Kernel) (t : ℕ) (m : Words) (f : Frame) (fs : List Frame) (place offset : ℕ) where
  next : place + 1 ≡ suc place
  next = omega arith

  pub stored_there : (r : Region) (before base after : List ℤ) (o : Option (List ℤ)) → o ≡ Some after
      → stored i schedule k t m (placed f place before) fs r o base ≡ with_stored i r after m f fs (suc place) base
  stored_there regions.Locals before base after o is =
      ap (λ o. stored i schedule k t m (placed f place before) fs regions.Locals o base) is ∙ ap (λ n. with_stored i regions.Locals after m f fs n base) next
  stored_there regions.Plain before base after o is =
      ap (λ o. stored i schedule k t m (placed f place before) fs regions.Plain o base) is ∙ ap (λ n. with_stored i regions.Plain after m f fs n base) next
  stored_there regions.Object before base after o is =
      ap (λ o. stored i schedule k t m (placed f place before) fs regions.Object o base) is ∙ ap (λ n. with_stored i regions.Object after m f fs n base) next

  -- one word
  pub store_word : (r : Region) (w : ℤ) (after : List ℤ) → At i place (stored_in r offset) → word_put (region_words i r m f) (pos offset) w ≡ Some after
      → act i schedule k t (in_frame m (placed f place (w ∷ [])) fs) ≡ with_stored i r after m f fs (suc place) []
  store_word regions.Locals w after here is =
      acts quiet i place (op.StoreLocal offset) here schedule k t m f fs (w ∷ []) ∙ stored_there regions.Locals (w ∷ []) [] after _ is
  store_word regions.Plain w after here is =
      acts quiet i place (op.StorePlain offset) here schedule k t m f fs (w ∷ []) ∙ stored_there regions.Plain (w ∷ []) [] after _ is
  store_word regions.Object w after here is =
      acts quiet i place (op.StoreObject offset) here schedule k t m f fs (w ∷ []) ∙ stored_there regions.Object (w ∷ []) [] after _ is

  -- ... above its address; what is below it stays
  pub store_indexed : (r : Region) (base : List ℤ) (w : ℤ) (after : List ℤ) → At i place (op.StoreIndexed r)
      → word_put (region_words i r m f) (pos offset) w ≡ Some after
      → act i schedule k t (in_frame m (placed f place (w ∷ pos offset ∷ base)) fs) ≡ with_stored i r after m f fs (suc place) base
  store_indexed r base w after here is =
      acts quiet i place (op.StoreIndexed r) here schedule k t m f fs (w ∷ pos offset ∷ base)
      ∙ stored_there r (w ∷ pos offset ∷ base) base after (word_put (region_words i r m (placed f place (w ∷ pos offset ∷ base))) (pos offset) w)
      (ap (λ ws. word_put ws (pos offset) w) (same_words i m r f place (w ∷ pos offset ∷ base)) ∙ is)

  -- several
  abbrev above : List ℤ → List ℤ → List ℤ
  above base ws = reverse ws ++ pos offset ∷ base

  pub store_block : (r : Region) (base ws after : List ℤ) → At i place (op.StoreBlock r (length ws))
      → words_put (region_words i r m f) (pos offset) ws ≡ Some after
      → act i schedule k t (in_frame m (placed f place (above base ws)) fs) ≡ with_stored i r after m f fs (suc place) base
  store_block r base ws after here is =
      acts quiet i place (op.StoreBlock r (length ws)) here schedule k t m f fs (above base ws)
      ∙ ap (λ l. with_one i schedule k t m (placed f place (above base ws)) fs l
      (λ index stack. stores_block i schedule k t m (placed f place (above base ws)) fs r index (arguments (length ws) (above base ws)) stack))
      (popped ws (pos offset ∷ base))
      ∙ ap (λ l. stores_block i schedule k t m (placed f place (above base ws)) fs r (pos offset) l base) (taken ws (pos offset ∷ base))
      ∙ stored_there r (above base ws) base after (words_put (region_words i r m (placed f place (above base ws))) (pos offset) ws)
      (ap (λ l. words_put l (pos offset) ws) (same_words i m r f place (above base ws)) ∙ is)

pub one_alone : (ws : List ℤ) → length ws ≡ 1 → (w : ℤ) × (ws ≡ w ∷ [])
one_alone [] e = absurd (omega (arith, e))
one_alone (w ∷ []) e = (w, refl)
one_alone (w ∷ x ∷ ws) e = absurd (omega (arith, e))

-- ---- instructions that store a value of so many words, which stands with its stack on the operand stack, and leave what is below

abbrev pub StoresIn : Sections → Region → (place offset size : ℕ) → (base : List ℤ) → (Value → List ℤ) → Type 0
StoresIn i r place offset size base stack =
    (schedule : List ScheduleLine) (k : Kernel) (t : ℕ) (m : Words) (f : Frame) (fs : List Frame) (z : Value)
    → length (value_words z) ≡ size → offset + size ≤ length (region_words i r m f)
    → act i schedule k t (in_frame m (placed f place (stack z)) fs)
    ≡ with_stored i r (with_words offset (value_words z) (region_words i r m f)) m f fs (suc place) base

-- ... in the frame, where nothing is below
abbrev pub StoresLocally : Sections → (place offset size : ℕ) → (Value → List ℤ) → Type 0
StoresLocally i place offset size stack = StoresIn i regions.Locals place offset size [] stack

module _ (quiet : QuietStays) (i : Sections) (r : Region) (place offset : ℕ) where
  -- a single word
  pub word_there : At i place (stored_in r offset) → StoresIn i r place offset 1 [] (on [])
  word_there here schedule k t m f fs z many room =
      let it = one_alone (value_words z) many in
      subst
      (λ l. act i schedule k t (in_frame m (placed f place (reverse l ++ [])) fs)
      ≡ with_stored i r (with_words offset l (region_words i r m f)) m f fs (suc place) []) (sym it.1)
      (store_word quiet i schedule k t m f fs place offset r it.0 (with_words offset (it.0 ∷ []) (region_words i r m f)) here
      (one_put (region_words i r m f) offset it.0 room))

  -- ... above its address
  pub word_in : (base : List ℤ) → At i place (op.StoreIndexed r) → StoresIn i r place offset 1 base (on (pos offset ∷ base))
  word_in base here schedule k t m f fs z many room =
      let it = one_alone (value_words z) many in
      subst
      (λ l. act i schedule k t (in_frame m (placed f place (reverse l ++ pos offset ∷ base)) fs)
      ≡ with_stored i r (with_words offset l (region_words i r m f)) m f fs (suc place) base) (sym it.1)
      (store_indexed quiet i schedule k t m f fs place offset r base it.0 (with_words offset (it.0 ∷ []) (region_words i r m f)) here
      (one_put (region_words i r m f) offset it.0 room))

  -- several
  pub block_in : (base : List ℤ) (size : ℕ) → At i place (op.StoreBlock r size) → StoresIn i r place offset size base (on (pos offset ∷ base))
  block_in base size here schedule k t m f fs z many room =
      store_block quiet i schedule k t m f fs place offset r base (value_words z) (with_words offset (value_words z) (region_words i r m f))
      (subst (λ n. At i place (op.StoreBlock r n)) (sym many) here)
      (block_put (region_words i r m f) offset (value_words z) (omega (arith, many, room)))

-- what computes a value computes it above an address that is pushed in front
pub computes_above : (quiet : QuietStays) (i : Sections) (library : Library) (sight : Sight) (from mid offset : ℕ) (value : Calls → Place → Val Value) → suc from ≤ mid
    → At i from (op.Push (pos offset)) → Everywhere i library sight (suc from) mid on value
    → Everywhere i library sight from mid (λ base v. on (pos offset ∷ base) v) value
computes_above quiet i library sight from mid offset value up push computes calls left answers schedule k t m f fs p base calm sees is =
    let next : from + 1 ≡ suc from = omega arith in
    more quiet i schedule k t m calm (placed f from base) fs (1 + (mid - suc from)) (mid - from) mid (λ v. on (pos offset ∷ base) v) (value calls p) (omega (arith, up))
    (after_first quiet i schedule k t m calm (placed f from base) fs 1 (mid - suc from) (suc from) mid (pos offset ∷ base) (λ v. on (pos offset ∷ base) v) (value calls p)
    (omega arith)
    (pushes quiet i schedule k t m calm from (pos offset) push f fs base (suc from) next)
    (computes calls left answers schedule k t m f fs p (pos offset ∷ base) calm sees is))

-- ---- words that are put on the operand stack, one by one

pub one_first : (w : ℤ) (ws base : List ℤ) → reverse (w ∷ ws) ++ base ≡ reverse ws ++ (w ∷ base)
one_first w ws base = ap (λ l. l ++ base) (reverse-append (w ∷ []) ws) ∙ append_assoc (reverse ws) (w ∷ []) base

module _ (quiet : QuietStays) (i : Sections) (schedule : List ScheduleLine) (k : Kernel) (t : ℕ) (m : Words) (calm : Calm k t) (f : Frame) (fs : List Frame) where
  all_pushed : (ws : List ℤ) (from to : ℕ) (base : List ℤ) → ArePushed i from ws → to ≡ from + length ws
      → Spends (behaviour i schedule) t frames_of (most_steps i) (suc (length fs)) (length ws) k (in_frame m (placed f from base) fs) k
      (in_frame m (placed f to (reverse ws ++ base)) fs)
  all_pushed [] from to base pushed at =
      let same : from ≡ to = omega (arith, at) in
      subst
      (λ q. Spends (behaviour i schedule) t frames_of (most_steps i) (suc (length fs)) 0 k (in_frame m (placed f from base) fs) k (in_frame m (placed f q base) fs))
      same Done
  all_pushed (w ∷ ws) from to base pushed at =
      let next : from + 1 ≡ suc from = omega arith in
      let one : 1 + length ws ≡ suc (length ws) = omega arith in
      subst
      (λ n. Spends (behaviour i schedule) t frames_of (most_steps i) (suc (length fs)) n k (in_frame m (placed f from base) fs) k
      (in_frame m (placed f to (reverse (w ∷ ws) ++ base)) fs)) one
      (subst
      (λ l. Spends (behaviour i schedule) t frames_of (most_steps i) (suc (length fs)) (1 + length ws) k (in_frame m (placed f from base) fs) k
      (in_frame m (placed f to l) fs)) (sym (one_first w ws base))
      (spends_trans (behaviour i schedule) t frames_of (most_steps i) (length ws) k (in_frame m (placed f to (reverse ws ++ (w ∷ base))) fs)
      (pushes quiet i schedule k t m calm from w pushed.0 f fs base (suc from) next)
      (all_pushed ws (suc from) to (w ∷ base) pushed.1 (omega (arith, at)))))

pub computes_pushed : (quiet : QuietStays) (i : Sections) (library : Library) (sight : Sight) (from mid : ℕ) (x : Value) → ArePushed i from (value_words x)
    → mid ≡ from + length (value_words x)
    → Everywhere i library sight from mid on (λ c p. Gives x)
computes_pushed quiet i library sight from mid x pushed at calls left answers schedule k t m f fs p base calm sees is =
    let n : mid - from ≡ length (value_words x) = omega (arith, at) in
    subst
    (λ q. Spends (behaviour i schedule) t frames_of (most_steps i) (suc (length fs)) q k (in_frame m (placed f from base) fs) k
    (in_frame m (placed f mid (reverse (value_words x) ++ base)) fs)) (sym n)
    (all_pushed quiet i schedule k t m calm f fs (value_words x) from mid base pushed at)

-- ---- values that pass a check

pub passed_same : (t : Subtype) (v : Val Value) (x : Value) → and_then v (passed t) ≡ Gives x → v ≡ Gives x
passed_same t (Gives a) x h = by_test (fits t a) h
  where
    by_test : (b : Bool) → cond b (Gives a) (raise ConstraintError) ≡ Gives x → Gives a ≡ Gives x
    by_test true e = e
    by_test false e = cc
passed_same t (Raises y) x h = cc
passed_same t Meaningless x h = cc

-- ---- whole objects as targets

-- the name names a whole object of this subtype
pub record NamesWhole (p : Place) (name : List ℕ) (t : Subtype) : Type 0 where
  pub target : Target
  pub is : object_named p name ≡ Some target
  pub same : target.subtype ≡ t
  pub parts : target.parts ≡ []

-- where the components of the running body's protected object stand
abbrev pub own_home : Option ℕ → Home
own_home (Some o) = InObject o
own_home None = InPackage

pub own_whole : (p : Place) (o : Option ℕ) (name : List ℕ) → own_component p o name ≡ whole (own_home o) (object_of (own_components p o) name)
own_whole p (Some o) name = refl
own_whole p None name = refl

abbrev pub named_among : Option Object → Home → Option Object → Option Object → Option Target
named_among own home inner outer = first_of (whole InActivation own) (first_of (whole home inner) (whole InPackage outer))

abbrev pub meant_among : Option Object → Option Object → Option Function → Option Object → Option Function → Meaning → Meaning
meant_among own inner f outer g last =
    meaning_or (or_else (object_meaning (or_else own inner)) (function_meaning f)) (meaning_or (or_else (object_meaning outer) (function_meaning g)) last)

among : (own : Option Object) (home : Home) (inner : Option Object) (f : Option Function) (outer : Option Object) (g : Option Function) (last : Meaning) (t : Subtype) (u : Value)
    → meant_among own inner f outer g last ≡ IsObject t u → ((last ≡ IsObject t u) → ⊥)
    → (x : Target) × (named_among own home inner outer ≡ Some x) × (x.subtype ≡ t) × (x.parts ≡ [])
among (Some x) home inner f outer g last t u h never = (_, refl, object_subtype (IsObject x.subtype x.value) x.subtype t x.value u refl h, refl)
among None home (Some x) f outer g last t u h never = (_, refl, object_subtype (IsObject x.subtype x.value) x.subtype t x.value u refl h, refl)
among None home None (Some f) outer g last t u h never = cc
among None home None None (Some x) g last t u h never = (_, refl, object_subtype (IsObject x.subtype x.value) x.subtype t x.value u refl h, refl)
among None home None None None (Some g) last t u h never = cc
among None home None None None None last t u h never = absurd (never h)

no_object : (e : Option Entity) (t : Subtype) (u : Value) → meaning_of_entity e ≡ IsObject t u → ⊥
no_object (Some (OfType form y)) t u h = cc
no_object (Some (OfSubtype y)) t u h = cc
no_object (Some (Predefined o p)) t u h = cc
no_object (Some (Protected o)) t u h = cc
no_object e t u h = cc

pub no_scope_object : (s : Scope) (n : Option ℕ) (t : Subtype) (u : Value) → meaning_in_scope s n ≡ IsObject t u → ⊥
no_scope_object s (Some n) t u h = no_object (entity_at s n) t u h
no_scope_object s None t u h = cc

-- what means an object names one
pub named_whole : (p : Place) (name : List ℕ) (t : Subtype) (u : Value) → meaning_of p name ≡ IsObject t u → NamesWhole p name t
named_whole p name t u h =
    let found = among (object_of p.locals name) (own_home p.within) (object_of (own_components p p.within) name) (own_function p name) (package_object p name)
    (package_function p name) (meaning_in_scope p.scope (number_of p.scope name)) t u h (no_scope_object p.scope (number_of p.scope name) t u) in
    record {
      target = found.0;
      is = ap (λ o. first_of (whole InActivation (object_of p.locals name)) (first_of o (whole InPackage (object_of p.variables name)))) (own_whole p p.within name)
          ∙ found.1;
      same = found.2;
      parts = found.3;
    }

abbrev pub whole_of : Home → Object → Target
whole_of home x = record { home = home; name = x.name; parts = []; subtype = x.subtype }

pub local_named : (p : Place) (name : List ℕ) (x : Object) → object_of p.locals name ≡ Some x → object_named p name ≡ Some (whole_of InActivation x)
local_named p name x h = ap (λ o. first_of (whole InActivation o) (first_of (own_component p p.within name) (whole InPackage (object_of p.variables name)))) h

pub package_named : (p : Place) (name : List ℕ) → object_of p.locals name ≡ None → object_of (own_components p p.within) name ≡ None
    → object_named p name ≡ whole InPackage (object_of p.variables name)
package_named p name none no_own =
    ap (λ o. first_of (whole InActivation o) (first_of (own_component p p.within name) (whole InPackage (object_of p.variables name)))) none
    ∙ ap (λ o. first_of o (whole InPackage (object_of p.variables name))) (own_whole p p.within name ∙ ap (whole (own_home p.within)) no_own)

pub component_named : (p : Place) (o : ℕ) (name : List ℕ) (x : Object) → object_of p.locals name ≡ None → p.within ≡ Some o
    → object_of (p.components o) name ≡ Some x → object_named p name ≡ Some (whole_of (InObject o) x)
component_named p o name x none within found =
    ap (λ q. first_of (whole InActivation q) (first_of (own_component p p.within name) (whole InPackage (object_of p.variables name)))) none
    ∙ ap (λ q. first_of (own_component p q name) (whole InPackage (object_of p.variables name))) within
    ∙ ap (λ q. first_of (whole (InObject o) q) (whole InPackage (object_of p.variables name))) found

pub whole_there : (home : Home) (o : Option Object) (x : Target) → whole home o ≡ Some x → (y : Object) × (o ≡ Some y) × (whole_of home y ≡ x)
whole_there home (Some y) x h = (y, refl, same_some (whole_of home y) x h)
whole_there home None x h = cc

-- ---- what is assigned

abbrev pub assigning : Target → Value → Assigned
assigning x v = record { target = x; value = v }

pub assigned_is : (calls : Calls) (p : Place) (name : NameTree) (e : ExprTree) (x : Target) → name.selectors ≡ NoSelectors → object_named p name.first.name ≡ Some x
    → assigned name e calls p ≡ assigned_to calls p e x
assigned_is calls p name e x whole_name is =
    ap (λ s. and_then (and_then (target_or_nothing (object_named p name.first.name)) (all_selected calls p s)) (assigned_to calls p e)) whole_name
    ∙ ap (λ o. and_then (and_then (target_or_nothing o) (all_selected calls p NoSelectors)) (assigned_to calls p e)) is

pub same_given : {A : Type 0} (a b : A) → Gives a ≡ Gives b → a ≡ b
same_given {A} a b h = let f : Val A → A = λ v. elim v [ Gives y ↦ y | Raises y ↦ a | Meaningless ↦ a ] in ap f h

pub given_value : (v : Val Value) (x : Target) (y : Assigned) → and_then v (λ z. Gives (assigning x z)) ≡ Gives y → (z : Value) × (v ≡ Gives z) × (assigning x z ≡ y)
given_value (Gives z) x y h = (z, refl, same_given (assigning x z) y h)
given_value (Raises e) x y h = cc
given_value Meaningless x y h = cc

pub comes_assigned : (i : Sections) (schedule : List ScheduleLine) (k : Kernel) (t : ℕ) (m : Words) (f : Frame) (fs : List Frame) (n to : ℕ) (base : List ℤ) (v : Val Value) (x : Target)
    → Comes i schedule k t m f fs n to (on base) v
    → Comes i schedule k t m f fs n to (λ (y : Assigned). on base y.value) (and_then v (λ z. Gives (assigning x z)))
comes_assigned i schedule k t m f fs n to base (Gives z) x h = h
comes_assigned i schedule k t m f fs n to base (Raises e) x h = h
comes_assigned i schedule k t m f fs n to base Meaningless x h = tt

-- ... to a part whose address stands below
pub comes_part : (i : Sections) (schedule : List ScheduleLine) (k : Kernel) (t : ℕ) (m : Words) (f : Frame) (fs : List Frame) (n to : ℕ) (base : List ℤ) (address : Target → ℕ)
    (v : Val Value) (x : Target)
    → Comes i schedule k t m f fs n to (on (pos (address x) ∷ base)) v
    → Comes i schedule k t m f fs n to (λ (y : Assigned). on (pos (address y.target) ∷ base) y.value) (and_then v (λ z. Gives (assigning x z)))
comes_part i schedule k t m f fs n to base address (Gives z) x h = h
comes_part i schedule k t m f fs n to base address (Raises e) x h = h
comes_part i schedule k t m f fs n to base address Meaningless x h = tt

-- ---- what a name means that names a variable of the package

outer_meant : (f : Option Function) (y : Object) (last : Meaning) (g : Option Function) (t : Subtype) (u : Value) → meant_among None None f (Some y) g last ≡ IsObject t u
    → meant_among None None f (Some y) g last ≡ IsObject y.subtype y.value
outer_meant (Some f) y last g t u h = cc
outer_meant None y last g t u h = refl

pub package_meant : (p : Place) (name : List ℕ) (y : Object) → object_of p.variables name ≡ Some y → object_of p.locals name ≡ None
    → object_of (own_components p p.within) name ≡ None → (t : Subtype) (u : Value) → meaning_of p name ≡ IsObject t u → meaning_of p name ≡ IsObject y.subtype y.value
package_meant p name y found none no_own t u h = same ∙ outer_meant (own_function p name) y last (package_function p name) t u (sym same ∙ h)
  where
    last : Meaning
    last = meaning_in_scope p.scope (number_of p.scope name)

    same : meaning_of p name ≡ meant_among None None (own_function p name) (Some y) (package_function p name) last
    same =
        ap (λ o. meant_among o (object_of (own_components p p.within) name) (own_function p name) (object_of p.variables name) (package_function p name) last) none
        ∙ ap (λ o. meant_among None o (own_function p name) (object_of p.variables name) (package_function p name) last) no_own
        ∙ ap (λ o. meant_among None None (own_function p name) o (package_function p name) last) found

-- ... and one that names a component of the running body's protected object
pub component_meant : (p : Place) (name : List ℕ) (y : Object) → object_of p.locals name ≡ None → object_of (own_components p p.within) name ≡ Some y
    → meaning_of p name ≡ IsObject y.subtype y.value
component_meant p name y none found =
    let last = meaning_in_scope p.scope (number_of p.scope name) in
    ap (λ o. meant_among o (object_of (own_components p p.within) name) (own_function p name) (object_of p.variables name) (package_function p name) last) none
    ∙ ap (λ o. meant_among None o (own_function p name) (object_of p.variables name) (package_function p name) last) found
