-- What is visible in a small source is small also where an object, a loop parameter or formals are visible besides.
use Rattle.std.proofs.Common.{◌≡◌, ◌≤◌, ◌++◌, inl, inr, ◌+◌, ℕ, [], ◌∷◌, List, Bool, true, false, Option, Some, None, refl, sym, ap, ◌∙◌, subst, arith}
use Rattle.std.specs.Prelude.{cond, option_map}
use Rattle.base.specs.declared.limits.TheConstants.{WORDS}
use Rattle.ada_tree.specs.declared.expression.Identifier.{Identifier}
use Rattle.ada_tree.specs.StatementTree.{ObjectTree, RangeTree}
use Rattle.types.specs.declared.entity.FormalParameter.{FormalParameter}
use Rattle.types.specs.declared.entity.Role.{Role}
use Rattle.types.specs.declared.entity.Role.TheVariants as role
use Rattle.types.specs.declared.entity.Subtype.{Subtype}
use Rattle.types.specs.Entities.{Entity, Object, Profile, Protected, Subprogram}
use Rattle.types.specs.Layouts.{words_of}
use Rattle.types.specs.Scopes.{Scope, entity_at, form_at, integer_type, is_visible, number_of, with_name}
use Rattle.types.specs.Shapes.{words}
use Rattle.types.specs.Statics.{start_of}
use Rattle.expr_soundness.specs.expr_rules.specs.declared.own.Own.{Own}
use Rattle.expr_soundness.specs.expr_rules.specs.declared.own.Own.TheVariants.{Typed, Universal, Unknown}
use Rattle.expr_soundness.specs.expr_rules.specs.declared.own.Wanted.TheVariants.{AnyInteger}
use Rattle.expr_soundness.specs.expr_rules.specs.ExpressionRules.{faults_in, faults_of}
use Rattle.expr_soundness.specs.expr_rules.specs.NameRules.{mismatch}
use Rattle.expr_soundness.specs.expr_rules.specs.Typing.{is_integers, is_integral, own_of}
use Rattle.expr_soundness.specs.expr_rules.proofs.TypedLaw.{back_empty, front_empty}
use Rattle.expr_soundness.specs.type_rules.specs.ObjectRules.{local_object_scope, object_entity, role_of}
use Rattle.expr_soundness.specs.type_rules.specs.SubtypeNames.{declared_twice, subtype_of}
use Rattle.program_soundness.specs.declaration_rules.specs.BodyNames.{bounds_type, if_integers, last_rule, loop_faults, loop_scope, loop_type, parameter_entity, turns_subtype}
use Rattle.expr_soundness.specs.SoundScopes.{AreKnown, IsKnown, IsSoundEntity, IsSoundObject, IsSoundProfile, SoundScope}
use Rattle.expr_soundness.proofs.Goods.{not_empty, object_known, sound_operation, sound_result}
use Rattle.expr_soundness.proofs.Growing.{form_before, grown, object_named, sound_with_object}
use Rattle.expr_soundness.proofs.Positions.{entity_added}
use Rattle.expr_soundness.proofs.Widening.{subtype_known}
use Rattle.expr_code.specs.Seeing.{NamesProfile, external_profile, profile_named, subprogram_profile}
use Rattle.expr_code.proofs.Externals.{is_behind}
use Rattle.expr_code.proofs.Widths.{fits, integral_one, known, words_by_type}
use Rattle.stmt_code.proofs.ObjectMore.{behind_before, callee_before, constant_or_variable, named_before, profile_by, scalar_kept}
use Rattle.source_laws.specs.Depths.{IsSmallScope, ObjectsHaveRoom, formals_take}
use Rattle.part_code.specs.Providing.{is_full}

profile_is : (o : Option Entity) (p : Profile) → subprogram_profile o ≡ Some p → o ≡ Some (Subprogram p)
profile_is (Some (Subprogram q)) p h = let f : Option Profile → Profile = λ x. elim x [ Some y ↦ y | None ↦ q ] in ap (λ x. Some (Subprogram (f x))) h
profile_is o p h = absurd cc

pub names_profile : (s : Scope) (name : List ℕ) (p : Profile) → profile_named s name ≡ Some p → NamesProfile s name p
names_profile s name p h = by_number (number_of s name) refl h
  where
    by_number : (o : Option ℕ) → number_of s name ≡ o → profile_by s o ≡ Some p → NamesProfile s name p
    by_number (Some n) is k = record { number = n; numbered = is; stands = profile_is (entity_at s n) p k }
    by_number None is k = absurd cc

pub known_formals : (s : Scope) (name : List ℕ) (p : Profile) → SoundScope s → profile_named s name ≡ Some p → AreKnown s p.formals
known_formals s name p sound h =
    let x = names_profile s name p h in
    let y : IsSoundProfile s p = sound.each x.number (Subprogram p) x.stands in
    y.known

-- those of an operation or entry that is named behind its protected object
pub known_behind : (s : Scope) (object operation : List ℕ) (p : Profile) → SoundScope s → external_profile s object operation ≡ Some p → AreKnown s p.formals
known_behind s object operation p sound h =
    let x = is_behind s object operation p h in
    let all : IsSoundEntity s x.number (Protected x.protected) = sound.each x.number (Protected x.protected) x.stands in
    let one = sound_result s sound x.entry.is_entry x.entry.profile (sound_operation s sound x.protected.operations x.place x.entry all.0 x.found) in
    subst (λ (q : Profile). AreKnown s q.formals) x.profiled one.known

-- ---- with names behind them

module _ (s more : Scope) where
  pub words_kept : (t : Subtype) → IsKnown s t → words_of (s ++ more) t ≡ words_of s t
  words_kept t typed =
      let f = not_empty (form_at s t.type_number) typed in
      sym (words_by_type (s ++ more) t) ∙ ap words ((grown s more).shapes t.type_number f.0 f.1) ∙ words_by_type s t

  formals_kept : (fs : List FormalParameter) → AreKnown s fs → formals_take (s ++ more) fs ≡ formals_take s fs
  formals_kept [] h = refl
  formals_kept (f ∷ fs) h = λ j. words_kept f.subtype h.0 j + formals_kept fs h.1 j

-- ---- with an object more

module _ (s : Scope) (name : List ℕ) (r : Role) (t : Subtype) where
  abbrev more : Scope
  more = object_named name r t ∷ []

  abbrev object_type : Entity → Subtype
  object_type (Object q u) = u
  object_type e = t

  room_behind : IsSmallScope s → IsSoundObject s r t → words_of s t ≤ WORDS → ObjectsHaveRoom (s ++ more)
  room_behind small object few n q u h =
      elim (entity_added s (object_named name r t) n (Object q u) h) [
        | inl i ↦ subst (λ k. k ≤ WORDS) (sym (words_kept s more u (object_known s q u (small.sound.each n (Object q u) i)))) (small.objects n q u i)
        | inr i ↦ subst (λ x. words_of (s ++ more) x ≤ WORDS) (ap object_type i.1)
            (subst (λ k. k ≤ WORDS) (sym (words_kept s more t (object_known s r t object))) few)
      ]

  small_behind : IsSmallScope s → IsSoundObject s r t → words_of s t ≤ WORDS → IsSmallScope (s ++ more)
  small_behind small object few =
      record {
        sound = sound_with_object s name r t small.sound object;
        formals =
            λ f p is. let x = small.formals f p (callee_before s name r t f p is) in record {
              few = x.few;
              scalar = λ result given. scalar_kept s more p.formals (x.scalar result given);
            };
        words = λ other p is.
            let here = named_before s name r t other p is in
            subst (λ n. n ≤ 64) (sym (formals_kept s more p.formals (known_formals s other p small.sound here))) (small.words other p here);
        full = λ n form is.
            let before = form_before s name r t n form is in
            ap is_full ((grown s more).shapes n form before) ∙ small.full n form before;
        objects = room_behind small object few;
        behind = λ object operation p is.
            let here = behind_before s name r t object operation p is in
            subst (λ n. n ≤ 64) (sym (formals_kept s more p.formals (known_behind s object operation p small.sound here)))
            (small.behind object operation p here);
      }

  pub small_named : IsSmallScope s → IsSoundObject s r t → words_of s t ≤ WORDS → IsSmallScope (with_name s name (Object r t))
  small_named small object few = by_test (is_visible s name)
    where
      by_test : (b : Bool) → IsSmallScope (cond b s (s ++ more))
      by_test true = small
      by_test false = small_behind small object few

-- ---- declarations of objects

pub few_words : (n : ℕ) → n ≤ 64 → n ≤ WORDS
few_words n h = omega (arith, h)

pub small_local : (s : Scope) (d : ObjectTree) (t : Subtype) → IsSmallScope s → subtype_of s d.subtype ≡ Some t → words_of s t ≤ 64
    → IsSmallScope (local_object_scope s d)
small_local s d t small is few =
    subst (λ o. IsSmallScope (with_name s d.name.name (object_entity (role_of d.constant) o))) (sym is)
    (small_named s d.name.name (role_of d.constant) t small (constant_or_variable s d.constant t (subtype_known s d.subtype t small.sound is))
    (few_words (words_of s t) few))

-- ---- loop parameters

abbrev some_if : Bool → ℕ → Option ℕ
some_if b n = elim b [ true ↦ Some n | false ↦ None ]

-- both bounds are of an integer type
pub bounds_known : (s : Scope) (x y : Own) → is_integral s x ≡ true → is_integral s y ≡ true → is_integers (form_at s integer_type) ≡ true
    → (n : ℕ) × (if_integers s (bounds_type x y) ≡ Some n) × (is_integers (form_at s n) ≡ true)
bounds_known s Unknown y i j k = absurd cc
bounds_known s Universal Unknown i j k = absurd cc
bounds_known s Universal Universal i j k = (integer_type, ap (λ b. some_if b integer_type) k, k)
bounds_known s Universal (Typed n) i j k = (n, ap (λ b. some_if b n) j, j)
bounds_known s (Typed n) y i j k = (n, ap (λ b. some_if b n) i, i)

module _ (s : Scope) (sound : SoundScope s) where
  pub integral : (e : _) → faults_of s AnyInteger e ≡ [] → is_integral s (own_of s e) ≡ true
  integral e h =
      let inside = faults_in s AnyInteger e in
      let ends = mismatch s AnyInteger (own_of s e) (start_of e) in
      (fits s sound AnyInteger (own_of s e) (start_of e) (known s sound e AnyInteger (front_empty inside ends h)) (back_empty inside ends h)).wanted

  pub record AreBounds (r : RangeTree) : Type 0 where
    pub first : faults_of s AnyInteger r.first ≡ []
    pub last : faults_of s AnyInteger r.last ≡ []

  pub bounds_legal : (parameter : Identifier) (r : RangeTree) → loop_faults s parameter r ≡ [] → AreBounds r
  bounds_legal parameter r h =
      let first = faults_of s AnyInteger r.first in
      let last = faults_of s AnyInteger r.last in
      let beside = last_rule s (loop_type s r) (own_of s r.last) (start_of r.last) in
      let two = front_empty (first ++ last) beside (front_empty (first ++ last ++ beside) (declared_twice s parameter) h) in
      record { first = front_empty first last two; last = back_empty first last two }

pub small_loop : (s : Scope) (parameter : Identifier) (r : RangeTree) → IsSmallScope s → loop_faults s parameter r ≡ []
    → IsSmallScope (loop_scope s parameter r)
small_loop s parameter r small h =
    let bounds = bounds_legal s small.sound parameter r h in
    let found = bounds_known s (own_of s r.first) (own_of s r.last) (integral s small.sound r.first bounds.first) (integral s small.sound r.last bounds.last)
    (ap is_integers small.sound.integer) in
    let t = turns_subtype s r found.0 in
    subst (λ o. IsSmallScope (with_name s parameter.name (parameter_entity (option_map (turns_subtype s r) o)))) (sym found.1)
    (small_named s parameter.name role.LoopParameter t small found.2
    (let one = integral_one s (Typed found.0) found.2 in
    let same = words_by_type s t in few_words (words_of s t) (omega (arith, one, same))))
