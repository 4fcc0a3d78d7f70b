-- Laws of tables of names: they have the names of the things that were gone through, at the places where these stand first.
use Rattle.std.proofs.Common.{◌≡◌, ℕ, suc, ◌+◌, ◌<◌, Bool, true, false, cond, not, ◌||◌, List, [], ◌∷◌, ◌++◌, length, map, take, Option, Some, None, is_some, option_map, refl, sym, ap, subst, ◌∙◌, arith, bytes_eq, position, get_or, slice_get, if◌then◌else◌}
use Rattle.std.specs.Bool.{Decides}
use Rattle.std.specs.List.{list_any, position_from}
use Rattle.std.specs.Map.{lookup}
use Rattle.std.proofs.Math.Bool.{or-false, or_assoc}
use Rattle.std.proofs.Math.Numerals.{add-one}
use Rattle.std.proofs.Math.Seq.{take-suc}
use Rattle.std.proofs.lemmas.List.{length-take-le, map-append}
use Rattle.std.proofs.lemmas.List.Folds.{list_any-append}
use Rattle.std.proofs.lemmas.Iterator.Adapters.{position_from-zero}
use Rattle.std.proofs.lemmas.Slice.Eq.{bytes_eq-Decides}
use Rattle.types.specs.declared.entity.RecordComponent.{RecordComponent}
use Rattle.types.specs.declared.entity.Subtype.{Subtype}
use Rattle.types.specs.Seen.{AreNames, ArePlaces, SeesNames, is_seen, place_of, seen_with, with_place}
use Rattle.types.specs.Kept.{subtype_at}
use Rattle.types.specs.Standings.{component_of}

-- ---- comparing names

by_decision : (a b : Bool) → (a ≡ true → b ≡ true) → (b ≡ true → a ≡ true) → a ≡ b
by_decision true b there back = sym (there refl)
by_decision false true there back = back refl
by_decision false false there back = refl

-- which of two names is compared with the other doesn't matter
pub either_way : (m n : List ℕ) → bytes_eq m n ≡ bytes_eq n m
either_way m n =
    by_decision (bytes_eq m n) (bytes_eq n m)
    (λ h. (bytes_eq-Decides n m).1 (sym ((bytes_eq-Decides m n).0 h)))
    (λ h. (bytes_eq-Decides m n).1 (sym ((bytes_eq-Decides n m).0 h)))

-- ---- names that were seen

-- a name is seen where it was before, or is the one that is seen now
pub seen_more : (names : List (List ℕ)) (name n : List ℕ) → is_seen (seen_with names name) n ≡ (is_seen names n || bytes_eq name n)
seen_more names name n = by (is_seen names name) refl
  where
    same : is_seen names name ≡ true → (b : Bool) → bytes_eq name n ≡ b → is_seen names n ≡ (is_seen names n || b)
    same there true e = subst (λ m. is_seen names m ≡ (is_seen names m || true)) ((bytes_eq-Decides name n).0 e) (there ∙ sym (ap (λ c. c || true) there))
    same there false e = sym (or-false (is_seen names n))

    by : (b : Bool) → is_seen names name ≡ b → is_seen (seen_with names name) n ≡ (is_seen names n || bytes_eq name n)
    by true there = ap (λ b. is_seen (if b then names else names ++ name ∷ []) n) there ∙ same there (bytes_eq name n) refl
    by false there =
        ap (λ b. is_seen (if b then names else names ++ name ∷ []) n) there
        ∙ list_any-append (bytes_eq n) names (name ∷ [])
        ∙ ap (λ b. is_seen names n || b) (or-false (bytes_eq n name) ∙ either_way n name)

module _ {X : Type 0} (name : X → List ℕ) where
  pub no_names : AreNames name [] []
  no_names n = refl

  pub more_seen : (before : List (List ℕ)) (xs : List X) (x : X) (names : List (List ℕ))
      → SeesNames name before xs names → SeesNames name before (xs ++ x ∷ []) (seen_with names (name x))
  more_seen before xs x names sees n =
      let test : X → Bool = λ y. bytes_eq (name y) n in
      seen_more names (name x) n
      ∙ ap (λ b. b || bytes_eq (name x) n) (sees n)
      ∙ or_assoc (is_seen before n) (list_any test xs) (bytes_eq (name x) n)
      ∙ ap (λ b. is_seen before n || b) (sym (list_any-append test xs (x ∷ []) ∙ ap (λ b. list_any test xs || b) (or-false (bytes_eq (name x) n))))

  pub names_more : (xs : List X) (x : X) (names : List (List ℕ)) → AreNames name xs names → AreNames name (xs ++ x ∷ []) (seen_with names (name x))
  names_more xs x names are = more_seen [] xs x names are

-- the names of the first n + 1 things are those of the first n, and that of the next one; behind others
pub seen_next : {A X : Type 0} (tree : A → X) (name : X → List ℕ) (before : List (List ℕ)) (all : List A) (n : ℕ) (x : A) (names : List (List ℕ))
    → n < length all
    → x ≡ get_or all n x
    → SeesNames name before (map tree (take n all)) names
    → SeesNames name before (map tree (take (n + 1) all)) (seen_with names (name (tree x)))
seen_next tree name before all n x names less at sees =
    let taken : map tree (take (n + 1) all) ≡ map tree (take n all) ++ tree x ∷ [] =
    ap (map tree) (ap (λ m. take m all) (add-one n) ∙ take-suc all n x less ∙ ap (λ y. take n all ++ y ∷ []) (sym at)) ∙ map-append tree (take n all) (x ∷ []) in
    subst (λ l. SeesNames name before l (seen_with names (name (tree x)))) (sym taken) (more_seen name before (map tree (take n all)) (tree x) names sees)

-- the same behind no others
pub names_next : {A X : Type 0} (tree : A → X) (name : X → List ℕ) (all : List A) (n : ℕ) (x : A) (names : List (List ℕ))
    → n < length all
    → x ≡ get_or all n x
    → AreNames name (map tree (take n all)) names
    → AreNames name (map tree (take (n + 1) all)) (seen_with names (name (tree x)))
names_next tree name all n x names less at are = seen_next tree name [] all n x names less at are

-- the same of things that are no trees
pub own_names_next : {X : Type 0} (name : X → List ℕ) (all : List X) (n : ℕ) (x : X) (names : List (List ℕ))
    → n < length all
    → x ≡ get_or all n x
    → AreNames name (take n all) names
    → AreNames name (take (n + 1) all) (seen_with names (name x))
own_names_next name all n x names less at are =
    let taken : take (n + 1) all ≡ take n all ++ x ∷ [] =
    ap (λ m. take m all) (add-one n) ∙ take-suc all n x less ∙ ap (λ y. take n all ++ y ∷ []) (sym at) in
    subst (λ l. AreNames name l (seen_with names (name x))) (sym taken) (names_more name (take n all) x names are)

-- ---- places

abbrev pub or_else : Option ℕ → Option ℕ → Option ℕ
or_else (Some p) o = Some p
or_else None o = o

placed_last : (places : List (List ℕ × ℕ)) (name : List ℕ) (place : ℕ) (n : List ℕ)
    → place_of (places ++ (name, place) ∷ []) n ≡ or_else (place_of places n) (cond (bytes_eq name n) (Some place) None)
placed_last [] name place n = ap (λ b. cond b (Some place) None) (either_way n name)
placed_last (e ∷ es) name place n = by (bytes_eq n e.0) (placed_last es name place n)
  where
    by : (b : Bool)
        → place_of (es ++ (name, place) ∷ []) n ≡ or_else (place_of es n) (cond (bytes_eq name n) (Some place) None)
        → cond b (Some e.1) (place_of (es ++ (name, place) ∷ []) n) ≡ or_else (cond b (Some e.1) (place_of es n)) (cond (bytes_eq name n) (Some place) None)
    by true rest = refl
    by false rest = rest

kept_place : (o rest : Option ℕ) → is_some o ≡ true → o ≡ or_else o rest
kept_place (Some p) rest h = refl
kept_place None rest h = cc

none_more : (o : Option ℕ) → o ≡ or_else o None
none_more (Some p) = refl
none_more None = refl

-- a name has the place that it had before, or the new one where it is the name that is given it
pub placed_more : (places : List (List ℕ × ℕ)) (name : List ℕ) (place : ℕ) (n : List ℕ)
    → place_of (with_place places name place) n ≡ or_else (place_of places n) (cond (bytes_eq name n) (Some place) None)
placed_more places name place n = by (is_some (place_of places name)) refl
  where
    same : is_some (place_of places name) ≡ true → (b : Bool) → bytes_eq name n ≡ b → place_of places n ≡ or_else (place_of places n) (cond b (Some place) None)
    same there true e = kept_place (place_of places n) (Some place) (ap (λ m. is_some (place_of places m)) (sym ((bytes_eq-Decides name n).0 e)) ∙ there)
    same there false e = none_more (place_of places n)

    by : (b : Bool) → is_some (place_of places name) ≡ b → place_of (with_place places name place) n ≡ or_else (place_of places n) (cond (bytes_eq name n) (Some place) None)
    by true there = ap (λ b. place_of (if b then places else places ++ (name, place) ∷ []) n) there ∙ same there (bytes_eq name n) refl
    by false there = ap (λ b. place_of (if b then places else places ++ (name, place) ∷ []) n) there ∙ placed_last places name place n

module _ {X : Type 0} (test : X → Bool) where
  from_end : (i : ℕ) (xs : List X) (x : X) → position_from test i (xs ++ x ∷ []) ≡ or_else (position_from test i xs) (cond (test x) (Some (i + length xs)) None)
  from_end i [] x = let e : i ≡ i + 0 = omega arith in ap (λ k. cond (test x) (Some k) None) e
  from_end i (y ∷ ys) x = by (test y) (from_end (i + 1) ys x)
    where
      by : (b : Bool)
          → position_from test (i + 1) (ys ++ x ∷ []) ≡ or_else (position_from test (i + 1) ys) (cond (test x) (Some (i + 1 + length ys)) None)
          → cond b (Some i) (position_from test (i + 1) (ys ++ x ∷ [])) ≡ or_else (cond b (Some i) (position_from test (i + 1) ys)) (cond (test x) (Some (i + suc (length ys))) None)
      by true rest = refl
      by false rest =
          let e : i + 1 + length ys ≡ i + suc (length ys) = omega arith in
          rest ∙ ap (λ k. or_else (position_from test (i + 1) ys) (cond (test x) (Some k) None)) e

  -- where the first one stands with one thing more
  pub position_end : (xs : List X) (x : X) → position test (xs ++ x ∷ []) ≡ or_else (position test xs) (cond (test x) (Some (length xs)) None)
  position_end xs x =
      position_from-zero test (xs ++ x ∷ [])
      ∙ from_end 0 xs x
      ∙ (λ j. or_else (sym (position_from-zero test xs) j) (cond (test x) (Some (zero_plus j)) None))
    where
      zero_plus : 0 + length xs ≡ length xs
      zero_plus = omega arith

module _ {X : Type 0} (name : X → List ℕ) where
  pub no_places : ArePlaces name [] []
  no_places n = refl

  pub places_more : (xs : List X) (x : X) (places : List (List ℕ × ℕ)) → ArePlaces name xs places → ArePlaces name (xs ++ x ∷ []) (with_place places (name x) (length xs))
  places_more xs x places are n =
      placed_more places (name x) (length xs) n
      ∙ ap (λ o. or_else o (cond (bytes_eq (name x) n) (Some (length xs)) None)) (are n)
      ∙ sym (position_end (λ y. bytes_eq (name y) n) xs x)

pub places_next : {X : Type 0} (name : X → List ℕ) (all : List X) (n : ℕ) (x : X) (places : List (List ℕ × ℕ))
    → n < length all
    → x ≡ get_or all n x
    → ArePlaces name (take n all) places
    → ArePlaces name (take (n + 1) all) (with_place places (name x) n)
places_next name all n x places less at are =
    let taken : take (n + 1) all ≡ take n all ++ x ∷ [] =
    ap (λ m. take m all) (add-one n) ∙ take-suc all n x less ∙ ap (λ y. take n all ++ y ∷ []) (sym at) in
    let size : length (take n all) ≡ n = length-take-le n all (omega (arith, less)) in
    subst (λ l. ArePlaces name l (with_place places (name x) n)) (sym taken)
    (subst (λ k. ArePlaces name (take n all ++ x ∷ []) (with_place places (name x) k)) size (places_more name (take n all) x places are))

-- ---- components by their places

module _ {X : Type 0} (test : X → Bool) where
  pub shifted : (i : ℕ) (xs : List X) → position_from test (i + 1) xs ≡ option_map suc (position_from test i xs)
  shifted i [] = refl
  shifted i (x ∷ xs) = by (test x) (shifted (i + 1) xs)
    where
      by : (b : Bool)
          → position_from test (i + 1 + 1) xs ≡ option_map suc (position_from test (i + 1) xs)
          → cond b (Some (i + 1)) (position_from test (i + 1 + 1) xs) ≡ option_map suc (cond b (Some i) (position_from test (i + 1) xs))
      by true rest = ap Some (add-one i)
      by false rest = rest

component_from : (cs : List RecordComponent) (n : List ℕ) → component_of cs n ≡ subtype_at cs (position_from (λ c. bytes_eq c.name n) 0 cs)
component_from [] n = refl
component_from (c ∷ cs) n = by (bytes_eq c.name n) (component_from cs n)
  where
    next : (o : Option ℕ) → subtype_at cs o ≡ subtype_at (c ∷ cs) (option_map suc o)
    next (Some i) = refl
    next None = refl

    by : (b : Bool)
        → component_of cs n ≡ subtype_at cs (position_from (λ d. bytes_eq d.name n) 0 cs)
        → (if b then Some c.subtype else component_of cs n) ≡ subtype_at (c ∷ cs) (cond b (Some 0) (position_from (λ d. bytes_eq d.name n) (0 + 1) cs))
    by true rest = refl
    by false rest = rest ∙ next (position_from (λ d. bytes_eq d.name n) 0 cs) ∙ ap (subtype_at (c ∷ cs)) (sym (shifted (λ d. bytes_eq d.name n) 0 cs))

-- a component's subtype is found at the place of its name
pub component_at : (cs : List RecordComponent) (places : List (List ℕ × ℕ)) (n : List ℕ)
    → ArePlaces (λ c. c.name) cs places
    → subtype_at cs (place_of places n) ≡ component_of cs n
component_at cs places n are = ap (subtype_at cs) (are n ∙ position_from-zero (λ c. bytes_eq c.name n) cs) ∙ sym (component_from cs n)
