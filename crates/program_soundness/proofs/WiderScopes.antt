-- Scopes with more names: what a name stands for there, and that the types stay as they are.
use Rattle.std.proofs.Common.{◌≡◌, ℕ, zero, suc, List, [], ◌∷◌, ◌++◌, Bool, true, false, cond, Option, Some, None, refl, sym, ap, ◌∙◌, subst}
use Rattle.std.specs.Prelude.{bytes_eq, slice_get, is_some, option_map, ⊤}
use Rattle.std.proofs.lemmas.Slice.Eq.{bytes_eq-Decides}
use Rattle.types.specs.Entities.{Entity}
use Rattle.types.specs.Scopes.{Scope, Named, entity_at, form_at, form_of, is_visible, number_of, with_name}
use Rattle.types.specs.Places.{or_else}
use Rattle.expr_soundness.specs.type_rules.specs.SubtypeNames.{entity_at_or_none}
use Rattle.expr_soundness.proofs.Positions.{first_place, number_place}
use Rattle.program_soundness.proofs.Listing.{first_some, or_else_assoc, or_else_none}

-- what a name stands for
abbrev pub stands : Scope → List ℕ → Option Entity
stands s name = entity_at_or_none s (number_of s name)

pub same_bytes : (a b : List ℕ) → bytes_eq a b ≡ true → a ≡ b
same_bytes a b h = (bytes_eq-Decides a b).0 h

pub bytes_same : (a : List ℕ) → bytes_eq a a ≡ true
bytes_same a = (bytes_eq-Decides a a).1 refl

pub equal_bytes : (a b : List ℕ) → a ≡ b → bytes_eq a b ≡ true
equal_bytes a b e = subst (λ c. bytes_eq a c ≡ true) e (bytes_same a)

-- ---- the first of this name

abbrev pub one_named : Named → List ℕ → Option Entity
one_named x name = cond (bytes_eq name x.name) (Some x.entity) None

abbrev pub found_in : List Named → List ℕ → Option Entity
found_in [] name = None
found_in (x ∷ xs) name = or_else (one_named x name) (found_in xs name)

one_further : (n : Named) (rest : Scope) (o : Option ℕ) → entity_at_or_none (n ∷ rest) (option_map suc o) ≡ entity_at_or_none rest o
one_further n rest (Some k) = refl
one_further n rest None = refl

found_first : (s : Scope) (name : List ℕ) → entity_at_or_none s (first_place (λ n. bytes_eq name n.name) s) ≡ found_in s name
found_first [] name = refl
found_first (n ∷ rest) name = by_test (bytes_eq name n.name) (found_first rest name)
  where
    by_test : (b : Bool) → entity_at_or_none rest (first_place (λ m. bytes_eq name m.name) rest) ≡ found_in rest name
        → entity_at_or_none (n ∷ rest) (cond b (Some 0) (option_map suc (first_place (λ m. bytes_eq name m.name) rest))) ≡ or_else (cond b (Some n.entity) None) (found_in rest name)
    by_test true later = refl
    by_test false later = one_further n rest (first_place (λ m. bytes_eq name m.name) rest) ∙ later

pub stands_found : (s : Scope) (name : List ℕ) → stands s name ≡ found_in s name
stands_found s name = ap (entity_at_or_none s) (number_place s name) ∙ found_first s name

pub found_both : (xs ys : List Named) (name : List ℕ) → found_in (xs ++ ys) name ≡ or_else (found_in xs name) (found_in ys name)
found_both [] ys name = refl
found_both (x ∷ xs) ys name =
    ap (or_else (one_named x name)) (found_both xs ys name) ∙ sym (or_else_assoc (one_named x name) (found_in xs name) (found_in ys name))

-- ---- visible names

visible_first : (s : Scope) (name : List ℕ) → is_some (first_place (λ n. bytes_eq name n.name) s) ≡ is_some (found_in s name)
visible_first [] name = refl
visible_first (n ∷ rest) name = by_test (bytes_eq name n.name) (visible_first rest name)
  where
    further : (o : Option ℕ) → is_some (option_map suc o) ≡ is_some o
    further (Some k) = refl
    further None = refl

    by_test : (b : Bool) → is_some (first_place (λ m. bytes_eq name m.name) rest) ≡ is_some (found_in rest name)
        → is_some (cond b (Some 0) (option_map suc (first_place (λ m. bytes_eq name m.name) rest))) ≡ is_some (or_else (cond b (Some n.entity) None) (found_in rest name))
    by_test true later = refl
    by_test false later = further (first_place (λ m. bytes_eq name m.name) rest) ∙ later

pub visible_stands : (s : Scope) (name : List ℕ) → is_visible s name ≡ is_some (stands s name)
visible_stands s name = ap is_some (number_place s name) ∙ visible_first s name ∙ ap is_some (sym (stands_found s name))

pub unseen_none : (s : Scope) (name : List ℕ) → is_visible s name ≡ false → stands s name ≡ None
unseen_none s name h = none (stands s name) (sym (visible_stands s name) ∙ h)
  where
    none : (o : Option Entity) → is_some o ≡ false → o ≡ None
    none (Some e) i = cc
    none None i = refl

pub seen_some : (s : Scope) (name : List ℕ) → is_visible s name ≡ true → (e : Entity) × (stands s name ≡ Some e)
seen_some s name h = some (stands s name) refl (sym (visible_stands s name) ∙ h)
  where
    some : (o : Option Entity) → stands s name ≡ o → is_some o ≡ true → (e : Entity) × (stands s name ≡ Some e)
    some (Some e) is i = (e, is)
    some None is i = cc

pub some_seen : (s : Scope) (name : List ℕ) (e : Entity) → stands s name ≡ Some e → is_visible s name ≡ true
some_seen s name e h = visible_stands s name ∙ ap is_some h

pub none_unseen : (s : Scope) (name : List ℕ) → stands s name ≡ None → is_visible s name ≡ false
none_unseen s name h = visible_stands s name ∙ ap is_some h

pub number_stands : (s : Scope) (name : List ℕ) (e : Entity) → stands s name ≡ Some e → (n : ℕ) × (number_of s name ≡ Some n) × (entity_at s n ≡ Some e)
number_stands s name e h = by_number (number_of s name) refl h
  where
    by_number : (o : Option ℕ) → number_of s name ≡ o → entity_at_or_none s o ≡ Some e → (n : ℕ) × (number_of s name ≡ Some n) × (entity_at s n ≡ Some e)
    by_number (Some n) is k = (n, is, k)
    by_number None is k = cc

pub stands_number : (s : Scope) (name : List ℕ) (n : ℕ) (e : Entity) → number_of s name ≡ Some n → entity_at s n ≡ Some e → stands s name ≡ Some e
stands_number s name n e h i = ap (entity_at_or_none s) h ∙ i

-- ---- one more name

pub stands_with : (s : Scope) (name : List ℕ) (e : Entity) (other : List ℕ)
    → stands (with_name s name e) other ≡ or_else (stands s other) (one_named (record { name = name; entity = e }) other)
stands_with s name e other = by_test (is_visible s name) refl
  where
    x : Named
    x = record { name = name; entity = e }

    -- where the name is visible already, the new one is not found
    behind : (b : Bool) → bytes_eq other name ≡ b → is_visible s name ≡ true → stands s other ≡ or_else (stands s other) (cond b (Some e) None)
    behind false i v = sym (or_else_none (stands s other))
    behind true i v =
        let there = seen_some s name v in
        let here : stands s other ≡ Some there.0 = ap (stands s) (same_bytes other name i) ∙ there.1 in
        here ∙ sym (first_some (stands s other) (Some e) there.0 here)

    by_test : (b : Bool) → is_visible s name ≡ b → stands (cond b s (s ++ x ∷ [])) other ≡ or_else (stands s other) (one_named x other)
    by_test true v = behind (bytes_eq other name) refl v
    by_test false v =
        stands_found (s ++ x ∷ []) other ∙ found_both s (x ∷ []) other
        ∙ ap (λ o. or_else o (or_else (one_named x other) None)) (sym (stands_found s other))
        ∙ ap (or_else (stands s other)) (or_else_none (one_named x other))

-- ---- several more names

abbrev pub with_all : Scope → List Named → Scope
with_all s [] = s
with_all s (x ∷ xs) = with_all (with_name s x.name x.entity) xs

pub with_both : (s : Scope) (xs ys : List Named) → with_all s (xs ++ ys) ≡ with_all (with_all s xs) ys
with_both s [] ys = refl
with_both s (x ∷ xs) ys = with_both (with_name s x.name x.entity) xs ys

pub stands_with_all : (s : Scope) (xs : List Named) (name : List ℕ) → stands (with_all s xs) name ≡ or_else (stands s name) (found_in xs name)
stands_with_all s [] name = sym (or_else_none (stands s name))
stands_with_all s (x ∷ xs) name =
    stands_with_all (with_name s x.name x.entity) xs name
    ∙ ap (λ o. or_else o (found_in xs name)) (stands_with s x.name x.entity name)
    ∙ or_else_assoc (stands s name) (one_named x name) (found_in xs name)

pub found_one : (xs : List Named) (name : List ℕ) (e : Entity) → found_in xs name ≡ Some e
    → (k : ℕ) × (x : Named) × (slice_get xs k ≡ Some x) × (x.name ≡ name) × (x.entity ≡ e)
found_one [] name e h = cc
found_one (x ∷ xs) name e h = by_test (bytes_eq name x.name) refl h (λ k. found_one xs name e k)
  where
    some : (a b : Entity) → Some a ≡ Some b → a ≡ b
    some a b i = let f : Option Entity → Entity = λ o. elim o [ Some y ↦ y | None ↦ a ] in ap f i

    by_test : (b : Bool) → bytes_eq name x.name ≡ b → or_else (cond b (Some x.entity) None) (found_in xs name) ≡ Some e
        → (found_in xs name ≡ Some e → (k : ℕ) × (y : Named) × (slice_get xs k ≡ Some y) × (y.name ≡ name) × (y.entity ≡ e))
        → (k : ℕ) × (y : Named) × (slice_get (x ∷ xs) k ≡ Some y) × (y.name ≡ name) × (y.entity ≡ e)
    by_test true i k later = (0, x, refl, sym (same_bytes name x.name i), some x.entity e k)
    by_test false i k later = let n = later k in (suc n.0, n.1, n.2, n.3, n.4)

-- ---- types

-- none of these is a type
abbrev pub NoTypes : List Named → Type 0
NoTypes [] = ⊤
NoTypes (x ∷ xs) = (form_of (Some x.entity) ≡ None) × NoTypes xs

form_added : (s : Scope) (x : Named) (n : ℕ) → form_of (Some x.entity) ≡ None → form_at (s ++ x ∷ []) n ≡ form_at s n
form_added [] x zero h = h
form_added [] x (suc n) h = refl
form_added (y ∷ ys) x zero h = refl
form_added (y ∷ ys) x (suc n) h = form_added ys x n h

pub form_with : (s : Scope) (name : List ℕ) (e : Entity) (n : ℕ) → form_of (Some e) ≡ None → form_at (with_name s name e) n ≡ form_at s n
form_with s name e n h = by_test (is_visible s name)
  where
    by_test : (b : Bool) → form_at (cond b s (s ++ record { name = name; entity = e } ∷ [])) n ≡ form_at s n
    by_test true = refl
    by_test false = form_added s (record { name = name; entity = e }) n h
