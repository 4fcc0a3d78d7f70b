-- The layouts of the names that are left, and the room for them.
use Rattle.std.proofs.Common.{◌≡◌, ◌≤◌, ℕ, zero, suc, ◌+◌, List, [], ◌∷◌, ◌++◌, drop, slice_get, Some, refl, sym, ap, ◌∙◌, arith}
use Rattle.std.proofs.Math.Numerals.{add-one}
use Rattle.base.specs.declared.limits.TheConstants.{WORDS}
use Rattle.types.specs.Entities.{Entity, Protected}
use Rattle.types.specs.Layouts.{total}
use Rattle.types.specs.Scopes.{Scope, entity_of, protected_of}
use Rattle.legality.specs.Placing.{object_at, variable_at, words_of_entity, words_of_object}
use Rattle.legality.specs.ProgramLayouts.{object_words, objects_words, total_of_all, variables_words}

pub total_both : (ws vs : List ℕ) → total (ws ++ vs) ≡ total ws + total vs
total_both [] vs = omega arith
total_both (w ∷ ws) vs = let e = total_both ws vs in omega (arith, e)

pub total_of_both : (ws vs : List (List ℕ)) → total_of_all (ws ++ vs) ≡ total_of_all ws + total_of_all vs
total_of_both [] vs = omega arith
total_of_both (w ∷ ws) vs = let e = total_of_both ws vs in omega (arith, e)

-- of words that have room together, those in front have room with those that come next
pub room_next : (ws us vs all : List ℕ) → ws ++ (us ++ vs) ≡ all → total all ≤ WORDS → total ws + total us ≤ WORDS
room_next ws us vs all is room =
    let outer = total_both ws (us ++ vs) in
    let inner = total_both us vs in
    let whole = ap total is in omega (arith, outer, inner, whole, room)

-- ---- variables

variables_from : (all s : Scope) (n : ℕ) → variables_words all (drop n s) ≡ words_of_entity all (entity_of (slice_get s n)) ++ variables_words all (drop (suc n) s)
variables_from all [] zero = refl
variables_from all [] (suc n) = refl
variables_from all (x ∷ s) zero = refl
variables_from all (x ∷ s) (suc n) = variables_from all s n

pub variables_left : (s : Scope) (n : ℕ) → variables_words s (drop n s) ≡ variable_at s n ++ variables_words s (drop (n + 1) s)
variables_left s n = variables_from s s n ∙ ap (λ m. variable_at s n ++ variables_words s (drop m s)) (sym (add-one n))

-- ---- protected objects

one_object : (all : Scope) (e : Entity) → object_words all e ≡ words_of_object all (protected_of (Some e))
one_object all (Protected p) = refl
one_object all e = refl

objects_from : (all s : Scope) (n : ℕ) → objects_words all (drop n s) ≡ words_of_object all (protected_of (entity_of (slice_get s n))) ++ objects_words all (drop (suc n) s)
objects_from all [] zero = refl
objects_from all [] (suc n) = refl
objects_from all (x ∷ s) zero = ap (λ l. l ++ objects_words all s) (one_object all x.entity)
objects_from all (x ∷ s) (suc n) = objects_from all s n

pub objects_left : (s : Scope) (n : ℕ) → objects_words s (drop n s) ≡ object_at s n ++ objects_words s (drop (n + 1) s)
objects_left s n = objects_from s s n ∙ ap (λ m. object_at s n ++ objects_words s (drop m s)) (sym (add-one n))

rest_within : (all s : Scope) (n : ℕ) → total_of_all (objects_words all (drop n s)) ≤ total_of_all (objects_words all s)
rest_within all s zero = omega arith
rest_within all [] (suc n) = omega arith
rest_within all (x ∷ s) (suc n) =
    let there = rest_within all s n in
    let both = total_of_both (object_words all x.entity) (objects_words all s) in omega (arith, there, both)

pub room_for_object : (s : Scope) (n : ℕ) → total_of_all (objects_words s s) ≤ WORDS → total_of_all (object_at s n) ≤ WORDS
room_for_object s n room =
    let here = ap total_of_all (objects_left s n) in
    let both = total_of_both (object_at s n) (objects_words s (drop (n + 1) s)) in
    let within = rest_within s s n in omega (arith, room, here, both, within)
