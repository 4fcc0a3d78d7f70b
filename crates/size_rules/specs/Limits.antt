-- What the limits of a program are set on, and what passes them (docs/LANGUAGE.md, "Limits"): 23, at each thing beyond a limit.
use Rattle.std.specs.Prelude.{ℕ, ◌-◌, Bool, true, false, List, [], ◌∷◌, ◌++◌, drop, map, position, bytes_eq, is_some, nat_lt}
use Rattle.base.specs.declared.faults.TheConstants.{LIMIT_PASSED}
use Rattle.lexer.specs.declared.fault.Fault.{Fault}
use Rattle.expr_rules.specs.Faults.{Faults, rule}
use Rattle.size_rules.specs.declared.thing.Kind.{Kind}
use Rattle.size_rules.specs.declared.thing.Kind.TheVariants.{Subprogram, Task, ProtectedObject, Exception}
use Rattle.size_rules.specs.declared.thing.Thing.{Thing}
use Rattle.size_rules.specs.declared.thing.Thing.TheVariants.{Counted, Label, Object}

-- what limits are set on, in the order of the text
abbrev pub Things : Type 0
Things = List Thing

-- ---- limits on numbers: all behind the first so many are beyond

abbrev pub limit_passed : (place : ℕ) → Fault
limit_passed place = record { number = LIMIT_PASSED; place = place }

abbrev pub over : (limit : ℕ) → (places : List ℕ) → Faults
over limit places = map limit_passed (drop limit places)

abbrev pub same_kind : Kind → Kind → Bool
same_kind Subprogram Subprogram = true
same_kind Task Task = true
same_kind ProtectedObject ProtectedObject = true
same_kind Exception Exception = true
same_kind a b = false

abbrev pub place_of_kind : Kind → Thing → List ℕ
place_of_kind k (Counted own place) = elim (same_kind k own) [ true ↦ place ∷ [] | false ↦ [] ]
place_of_kind k t = []

-- the places of all things of a kind
abbrev pub places_of : Kind → Things → List ℕ
places_of k [] = []
places_of k (t ∷ ts) = place_of_kind k t ++ places_of k ts

-- ---- labels that differ, by their characters: each stands where it is used first

abbrev pub is_among : (used : List (List ℕ)) → List ℕ → Bool
is_among used text = is_some (position (bytes_eq text) used)

abbrev pub first_use : (used : List (List ℕ)) → Thing → List ℕ
first_use used (Label text place) = elim (is_among used text) [ true ↦ [] | false ↦ place ∷ [] ]
first_use used t = []

abbrev pub used_with : (used : List (List ℕ)) → Thing → List (List ℕ)
used_with used (Label text place) = elim (is_among used text) [ true ↦ used | false ↦ used ++ text ∷ [] ]
used_with used t = used

-- the places of the labels that are unlike those used before, and unlike each other
abbrev pub first_uses : (used : List (List ℕ)) → Things → List ℕ
first_uses used [] = []
first_uses used (t ∷ ts) = first_use used t ++ first_uses (used_with used t) ts

-- ---- limits on words: an object is beyond where its words are more than what those before it leave

abbrev pub object_rule : (room : ℕ) → Thing → Faults
object_rule room (Object place words) = rule LIMIT_PASSED place (nat_lt room words)
object_rule room t = []

abbrev pub room_behind : (room : ℕ) → Thing → ℕ
room_behind room (Object place words) = room - words
room_behind room t = room

abbrev pub words_faults : (room : ℕ) → Things → Faults
words_faults room [] = []
words_faults room (t ∷ ts) = object_rule room t ++ words_faults (room_behind room t) ts
