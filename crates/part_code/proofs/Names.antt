-- What is told of names where one more is visible, and what they mean where one more object is there.
use Rattle.std.proofs.Common.{◌≡◌, ℕ, zero, suc, ◌<◌, ◌⊎◌, inl, inr, List, [], ◌∷◌, ◌++◌, length, cond, Bool, Option, Some, None, true, false, refl, sym, ap, ◌∙◌, arith}
use Rattle.std.specs.Prelude.{bytes_eq, is_some, pos, slice_get}
use Rattle.std.proofs.lemmas.Slice.Eq.{bytes_eq-Decides}
use Rattle.types.specs.declared.entity.Role.{Role}
use Rattle.types.specs.declared.entity.Role.TheVariants as role
use Rattle.types.specs.declared.entity.Subtype.{Subtype}
use Rattle.types.specs.Entities.{Entity, Profile}
use Rattle.types.specs.Entities as entity
use Rattle.types.specs.Laws.{ValuesHaveWords}
use Rattle.types.specs.Layouts.{words_of}
use Rattle.types.specs.Places.{IsObject, Meaning, Object, Place, function_meaning, meaning_in_scope, meaning_of, meaning_or, object_meaning, object_of, or_else, own_components, own_function, package_function, package_object}
use Rattle.types.specs.Scopes.{Named, Scope, entity_at, form_at, is_visible, number_of, with_name}
use Rattle.types.specs.Shapes.{shape_of, value_words}
use Rattle.types.specs.Values.{Number, Value}
use Rattle.expr_soundness.specs.expr_rules.specs.declared.own.Own.TheVariants.{Typed}
use Rattle.expr_soundness.specs.expr_rules.specs.Typing.{is_integers}
use Rattle.expr_soundness.specs.expr_rules.proofs.TypedLaw.{integral_numeric}
use Rattle.expr_soundness.specs.expr_rules.proofs.TypeShapes.{numeric_value}
use Rattle.expr_soundness.specs.Agreeing.{Agrees, MeansObject, MeansOne}
use Rattle.expr_soundness.specs.SoundScopes.{IsSoundObject}
use Rattle.expr_soundness.proofs.Parts.{subtype_values}
use Rattle.expr_soundness.proofs.Positions.{entity_kept, entity_number, found_at, item_added, item_kept, item_of_added, number_added, number_kept, number_place, same_some}
use Rattle.expr_code.specs.Seeing.{NamesProfile, told_of}
use Rattle.part_code.specs.Layout.{IsVariable, NamesObject}

-- ---- what is told of a name

abbrev told_by : {X : Type 0} → List (Option X) → Option ℕ → Option X
told_by all o = elim o [ None ↦ None | Some n ↦ elim (slice_get all n) [ None ↦ None | Some x ↦ x ] ]

pub record IsTold {X : Type 0} (s : Scope) (all : List (Option X)) (name : List ℕ) (x : X) : Type 0 where
  pub number : ℕ
  pub numbered : number_of s name ≡ Some number
  pub there : slice_get all number ≡ Some (Some x)

pub is_told : {X : Type 0} (s : Scope) (all : List (Option X)) (name : List ℕ) (x : X) → told_of s all name ≡ Some x → IsTold s all name x
is_told {X} s all name x h = by_number (number_of s name) refl h
  where
    by_entry : (n : ℕ) → number_of s name ≡ Some n → (o : Option (Option X)) → slice_get all n ≡ o → elim o [ None ↦ None | Some y ↦ y ] ≡ Some x
        → IsTold s all name x
    by_entry n e (Some y) there k = record { number = n; numbered = e; there = there ∙ ap Some k }
    by_entry n e None there k = cc

    by_number : (o : Option ℕ) → number_of s name ≡ o → told_by all o ≡ Some x → IsTold s all name x
    by_number (Some n) e k = by_entry n e (slice_get all n) refl k
    by_number None e k = cc

pub told_again : {X : Type 0} (s : Scope) (all : List (Option X)) (name : List ℕ) (x : X) → IsTold s all name x → told_of s all name ≡ Some x
told_again s all name x h =
    ap (told_by all) h.numbered ∙ ap (λ o. elim o [ None ↦ None | Some y ↦ y ]) h.there

pub inside : {X : Type 0} (xs : List X) (n : ℕ) (x : X) → slice_get xs n ≡ Some x → n < length xs
inside [] n x h = cc
inside (y ∷ xs) zero x h = omega arith
inside (y ∷ xs) (suc n) x h = let k = inside xs n x h in omega (arith, k)

numbered_inside : (s : Scope) (name : List ℕ) (n : ℕ) → number_of s name ≡ Some n → n < length s
numbered_inside s name n h =
    let found = found_at (λ m. bytes_eq name m.name) s n (sym (number_place s name) ∙ h) in
    inside s n found.0 found.1

-- what was told is told where there is more
pub told_more : {X : Type 0} (s : Scope) (m : Named) (all : List (Option X)) (y : Option X) (name : List ℕ) (x : X) → told_of s all name ≡ Some x
    → told_of (s ++ m ∷ []) (all ++ y ∷ []) name ≡ Some x
told_more s m all y name x h =
    let t = is_told s all name x h in
    told_again (s ++ m ∷ []) (all ++ y ∷ []) name x
    (record { number = t.number; numbered = number_kept s (m ∷ []) name t.number t.numbered; there = item_kept all (y ∷ []) t.number (Some x) t.there })

-- where there is one more, what is told of a name is what was told, or it is what is told of the new one
pub record WasTold {X : Type 0} (s : Scope) (all : List (Option X)) (name : List ℕ) (x : X) : Type 0 where
  pub number : ℕ
  pub numbered : number_of s name ≡ Some number
  pub told : told_of s all name ≡ Some x

pub told_of_more : {X : Type 0} (s : Scope) (m : Named) (all : List (Option X)) (y : Option X) (name : List ℕ) (x : X) → length all ≡ length s
    → told_of (s ++ m ∷ []) (all ++ y ∷ []) name ≡ Some x
    → WasTold s all name x ⊎ ((bytes_eq name m.name ≡ true) × (y ≡ Some x))
told_of_more {X} s m all y name x long h = elim (number_added s m name t.number t.numbered) [ inl e ↦ inl (before e) | inr e ↦ inr (e.1, behind e.0) ]
  where
    t : IsTold (s ++ m ∷ []) (all ++ y ∷ []) name x
    t = is_told (s ++ m ∷ []) (all ++ y ∷ []) name x h

    before : number_of s name ≡ Some t.number → WasTold s all name x
    before e = elim (item_of_added all y (Some x) t.number t.there) [
      | inl k ↦ record { number = t.number; numbered = e; told = told_again s all name x (record { number = t.number; numbered = e; there = k }) }
      | inr k ↦ absurd (let less = numbered_inside s name t.number e in let same = k.0 in omega (arith, less, same, long))
    ]

    behind : t.number ≡ length s → y ≡ Some x
    behind e = same_some y (Some x) (sym (item_added all y) ∙ ap (slice_get (all ++ y ∷ [])) (long ∙ sym e) ∙ t.there)

-- what a name stands for as a subprogram it stands for where more is visible, and it did so before, where the name is not new
pub profile_kept : (s : Scope) (more : List Named) (name : List ℕ) (p : Profile) → NamesProfile s name p → NamesProfile (s ++ more) name p
profile_kept s more name p n = record {
  number = n.number;
  numbered = number_kept s more name n.number n.numbered;
  stands = entity_kept s more n.number (entity.Subprogram p) n.stands;
}

pub profile_before : (s : Scope) (more : List Named) (name : List ℕ) (k : ℕ) (p : Profile) → number_of s name ≡ Some k → NamesProfile (s ++ more) name p
    → NamesProfile s name p
profile_before s more name k p e n =
    let x = entity_number s name k e in
    let same : n.number ≡ k = same_some n.number k (sym n.numbered ∙ number_kept s more name k e) in
    let is : Some x.0 ≡ Some (entity.Subprogram p) =
    sym (entity_kept s more k x.0 x.1) ∙ ap (entity_at (s ++ more)) (sym same) ∙ n.stands in
    record { number = k; numbered = e; stands = x.1 ∙ is }

pub profile_without : (s : Scope) (name : List ℕ) (e : Entity) (other : List ℕ) (k : ℕ) (p : Profile) → number_of s other ≡ Some k
    → NamesProfile (with_name s name e) other p
    → NamesProfile s other p
profile_without s name e other k p h = by_visible (is_visible s name)
  where
    by_visible : (b : Bool) → NamesProfile (cond b s (s ++ record { name = name; entity = e } ∷ [])) other p → NamesProfile s other p
    by_visible true n = n
    by_visible false n = profile_before s (record { name = name; entity = e } ∷ []) other k p h n

-- ---- names

pub same_name : (a b : List ℕ) → bytes_eq a b ≡ true → a ≡ b
same_name a b h = (bytes_eq-Decides a b).0 h

pub name_is : (a b : List ℕ) → a ≡ b → bytes_eq a b ≡ true
name_is a b h = (bytes_eq-Decides a b).1 h

-- ---- what a name means, by the object of the activation

abbrev pub meant_by : Place → List ℕ → Option Object → Meaning
meant_by p name o =
    meaning_or
    (or_else (object_meaning (or_else o (object_of (own_components p p.within) name))) (function_meaning (own_function p name)))
    (meaning_or (or_else (object_meaning (package_object p name)) (function_meaning (package_function p name)))
    (meaning_in_scope p.scope (number_of p.scope name)))

pub meant_behind : (p : Place) (x : Object) (l : List Object) (name : List ℕ) → bytes_eq x.name name ≡ false
    → meaning_of (record p { locals = x ∷ l }) name ≡ meaning_of (record p { locals = l }) name
meant_behind p x l name h = ap (λ b. meant_by p name (cond b (Some x) (object_of l name))) h

pub meant_first : (p : Place) (x : Object) (l : List Object) (name : List ℕ) → bytes_eq x.name name ≡ true
    → meaning_of (record p { locals = x ∷ l }) name ≡ IsObject x.subtype x.value
meant_first p x l name h = ap (λ b. meant_by p name (cond b (Some x) (object_of l name))) h

pub found_behind : (x : Object) (l : List Object) (name : List ℕ) → bytes_eq x.name name ≡ false → object_of (x ∷ l) name ≡ object_of l name
found_behind x l name h = ap (λ b. cond b (Some x) (object_of l name)) h

pub found_first : (x : Object) (l : List Object) (name : List ℕ) → bytes_eq x.name name ≡ true → object_of (x ∷ l) name ≡ Some x
found_first x l name h = ap (λ b. cond b (Some x) (object_of l name)) h

pub found_meant : (p : Place) (name : List ℕ) (x : Object) → object_of p.locals name ≡ Some x → meaning_of p name ≡ IsObject x.subtype x.value
found_meant p name x h = ap (λ o. meant_by p name o) h

-- two objects that a name means are one
pub object_subtype : (m : Meaning) (t u : Subtype) (v w : Value) → m ≡ IsObject t v → m ≡ IsObject u w → t ≡ u
object_subtype m t u v w h k = let f : Meaning → Subtype = λ m. elim m [ IsObject x y ↦ x | n ↦ t ] in ap f (sym h ∙ k)

pub object_value : (m : Meaning) (t u : Subtype) (v w : Value) → m ≡ IsObject t v → m ≡ IsObject u w → v ≡ w
object_value m t u v w h k = let f : Meaning → Value = λ m. elim m [ IsObject x y ↦ y | n ↦ v ] in ap f (sym h ∙ k)

-- ---- an object that is found

pub object_name : (objects : List Object) (name : List ℕ) (x : Object) → object_of objects name ≡ Some x → x.name ≡ name
object_name [] name x h = cc
object_name (y ∷ rest) name x h = by_test (bytes_eq y.name name) refl h (object_name rest name x)
  where
    by_test : (b : Bool) → bytes_eq y.name name ≡ b → cond b (Some y) (object_of rest name) ≡ Some x → (object_of rest name ≡ Some x → x.name ≡ name)
        → x.name ≡ name
    by_test true e k later = ap (λ z. z.name) (sym (same_some y x k)) ∙ same_name y.name name e
    by_test false e k later = later k

pub found_some : (o : Option Object) → is_some o ≡ true → (x : Object) × (o ≡ Some x)
found_some (Some x) h = (x, refl)
found_some None h = cc

-- ---- how many words the object has that a name means

pub variable_meant : (s here : Scope) (m : Meaning) (r : Role) (t : Subtype) → IsVariable r → MeansOne s here m r t → MeansObject s m t
variable_meant s here m role.LoopParameter t i h = absurd i
variable_meant s here m r t i h = h

-- a number takes one word
pub single_number : ValuesHaveWords → (s : Scope) (t : Subtype) → is_integers (form_at s t.type_number) ≡ true → words_of s t ≡ 1
single_number words s t integers =
    let own = Typed t.type_number in
    let has = subtype_values s t (Number (pos 0)) ∙ numeric_value s own (integral_numeric s own integers) (Number (pos 0)) in
    sym (words (shape_of s t) (Number (pos 0)) has).sized

width_by : (sized : ValuesHaveWords) (s here : Scope) (m : Meaning) (r : Role) (t u : Subtype) (v : Value) → IsSoundObject s r t → MeansOne s here m r t
    → m ≡ IsObject u v → length (value_words v) ≡ words_of s t
width_by sized s here m role.LoopParameter t u v i h k =
    ap (λ w. length (value_words w)) (sym (object_value m h.subtype u (Number h.value) v h.is k)) ∙ sym (single_number sized s t i)
width_by sized s here m r t u v i h k =
    ap (λ w. length (value_words w)) (sym (object_value m t u h.value v h.is k)) ∙ (sized (shape_of s t) h.value h.suited).sized

-- a value of an object that is visible has the words of the object's subtype
pub meant_width : (sized : ValuesHaveWords) (s : Scope) (p : Place) (agrees : Agrees s p) (name : List ℕ) (r : Role) (t u : Subtype) (v : Value)
    → NamesObject s name r t → meaning_of p name ≡ IsObject u v → length (value_words v) ≡ words_of s t
meant_width sized s p agrees name r t u v n h =
    width_by sized s p.scope (meaning_of p name) r t u v (agrees.sound.each n.number (entity.Object r t) n.stands)
    (agrees.names name n.number (entity.Object r t) n.numbered n.stands) h
