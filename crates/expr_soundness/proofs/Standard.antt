-- The names that are always visible are sound, and a place without objects and functions agrees with them: what the laws ask for is there.
use Rattle.std.proofs.Common.{◌≡◌, ℕ, zero, suc, List, Bool, true, false, Some, refl, ap, ◌∙◌, subst}
use Rattle.meaning.specs.types.specs.Entities.{Integers, Booleans, Entity, OfType, OfSubtype, Object, Constant, Literal, Exception, Subprogram, Entry, Predefined, Put, Task, Protected, LibraryUnit, Doubtful}
use Rattle.meaning.specs.types.specs.Scopes.{Scope, boolean, entity_at, form_at, integer, integers_from, number_of, standard}
use Rattle.meaning.specs.types.specs.Standings.{stands_first, stands_for}
use Rattle.meaning.specs.types.specs.Places.{meaning_in_scope, meaning_of_entity}
use Rattle.meaning.specs.types.specs.Statics.{static_place}
use Rattle.meaning.specs.expr_rules.specs.Typing.{is_spans, is_times}
use Rattle.expr_soundness.specs.SoundScopes.{IsSoundEntity, SoundScope}
use Rattle.expr_soundness.specs.Agreeing.{Agrees, Means}
use Rattle.expr_soundness.proofs.Positions.{same_some}

no_times : (n : ℕ) → is_times (form_at standard n) ≡ true → is_spans (form_at standard (suc n)) ≡ true
no_times zero h = cc
no_times (suc zero) h = cc
no_times (suc (suc zero)) h = cc
no_times (suc (suc (suc zero))) h = cc
no_times (suc (suc (suc (suc zero)))) h = cc
no_times (suc (suc (suc (suc (suc zero))))) h = cc
no_times (suc (suc (suc (suc (suc (suc zero)))))) h = cc
no_times (suc (suc (suc (suc (suc (suc (suc zero))))))) h = cc
no_times (suc (suc (suc (suc (suc (suc (suc (suc zero)))))))) h = cc
no_times (suc (suc (suc (suc (suc (suc (suc (suc (suc zero))))))))) h = cc
no_times (suc (suc (suc (suc (suc (suc (suc (suc (suc (suc n)))))))))) h = cc

-- types and subtypes, truth values, exceptions
abbrev pub is_simple : Entity → Bool
is_simple (OfType form t) = true
is_simple (OfSubtype t) = true
is_simple (Literal b) = true
is_simple Exception = true
is_simple e = false

record IsSimple (n : ℕ) (e : Entity) : Type 0 where
  sound : IsSoundEntity standard n e
  simple : is_simple e ≡ true

stands : (n : ℕ) (x e : Entity) → IsSimple n x → Some x ≡ Some e → IsSimple n e
stands n x e simple h = subst (IsSimple n) (same_some x e h) simple

each : (n : ℕ) (e : Entity) → entity_at standard n ≡ Some e → IsSimple n e
each zero e h = stands zero (OfType Integers integer) e (record { sound = record { numbered = refl; parts = tt }; simple = refl }) h
each (suc zero) e h = stands 1 (OfSubtype (integers_from 0)) e (record { sound = refl; simple = refl }) h
each (suc (suc zero)) e h = stands 2 (OfSubtype (integers_from 1)) e (record { sound = refl; simple = refl }) h
each (suc (suc (suc zero))) e h = stands 3 (OfType Booleans boolean) e (record { sound = record { numbered = refl; parts = tt }; simple = refl }) h
each (suc (suc (suc (suc zero)))) e h = stands 4 (Literal true) e (record { sound = tt; simple = refl }) h
each (suc (suc (suc (suc (suc zero))))) e h = stands 5 (Literal false) e (record { sound = tt; simple = refl }) h
each (suc (suc (suc (suc (suc (suc zero)))))) e h = stands 6 Exception e (record { sound = tt; simple = refl }) h
each (suc (suc (suc (suc (suc (suc (suc zero))))))) e h = stands 7 Exception e (record { sound = tt; simple = refl }) h
each (suc (suc (suc (suc (suc (suc (suc (suc zero)))))))) e h = stands 8 Exception e (record { sound = tt; simple = refl }) h
each (suc (suc (suc (suc (suc (suc (suc (suc (suc zero))))))))) e h = stands 9 Exception e (record { sound = tt; simple = refl }) h
each (suc (suc (suc (suc (suc (suc (suc (suc (suc (suc n)))))))))) e h = cc

pub standard_is_sound : SoundScope standard
standard_is_sound = record { integer = refl; boolean = refl; span = no_times; each = λ n e h. (each n e h).sound }

-- ---- scopes of simple names

module _ (s : Scope) (sound : SoundScope s) (all : (n : ℕ) (e : Entity) → entity_at s n ≡ Some e → is_simple e ≡ true) where
  means : (name : List ℕ) (n : ℕ) (e : Entity) → is_simple e ≡ true → number_of s name ≡ Some n → entity_at s n ≡ Some e
      → Means s (static_place s) name e
  means name n (OfType form t) simple h at = ap (meaning_in_scope s) h ∙ ap meaning_of_entity at
  means name n (OfSubtype t) simple h at = ap (meaning_in_scope s) h ∙ ap meaning_of_entity at
  means name n (Literal b) simple h at = ap (stands_first s) h ∙ ap (stands_for n) at
  means name n Exception simple h at = tt
  means name n (Object r t) simple h at = cc
  means name n (Constant t v) simple h at = cc
  means name n (Subprogram p) simple h at = cc
  means name n (Entry p) simple h at = cc
  means name n (Predefined o p) simple h at = cc
  means name n Put simple h at = cc
  means name n (Task k) simple h at = cc
  means name n (Protected o) simple h at = cc
  means name n LibraryUnit simple h at = cc
  means name n Doubtful simple h at = cc

  pub simple_agrees : Agrees s (static_place s)
  simple_agrees = record { sound = sound; forms = λ n form h. h; shapes = λ n form h. refl; names = λ name n e h at. means name n e (all n e at) h at }

pub standard_simple : (n : ℕ) (e : Entity) → entity_at standard n ≡ Some e → is_simple e ≡ true
standard_simple n e h = (each n e h).simple

pub standard_agrees : Agrees standard (static_place standard)
standard_agrees = simple_agrees standard standard_is_sound standard_simple
