-- Entries of names that become visible one after another in the body of a protected object: one for each new name, as the text tells it.
use Rattle.std.proofs.Common.{◌≡◌, ℕ, zero, suc, ◌+◌, ◌<◌, ◌≤◌, List, [], ◌∷◌, ◌++◌, append-nil, append_assoc, drop, length, length-append, map, take, cond, Bool, true, false, inl, inr, Option, Some, None, refl, sym, ap, ◌∙◌, arith}
use Rattle.std.specs.Prelude.{bytes_eq, is_some, nat_eq, slice_get}
use Rattle.std.proofs.lemmas.List.{length-map, map-append}
use Rattle.std.proofs.lemmas.Option.{slice_get_within}
use Rattle.types.specs.Entities.{Entity, Protected, ProtectedObject}
use Rattle.types.specs.Places.{or_else}
use Rattle.types.specs.Scopes.{Named, Scope, is_visible, number_of, protected_of, with_name}
use Rattle.expr_soundness.proofs.Positions.{found_at, number_added, number_kept, number_place}
use Rattle.program_soundness.proofs.Listing.{Has, same_some}
use Rattle.program_soundness.proofs.WiderScopes.{bytes_same, number_stands, same_bytes, stands, stands_with, unseen_none, with_all}
use Rattle.expr_code.specs.Entries.{entry_at}
use Rattle.expr_code.specs.Seeing.{told_of}
use Rattle.package_code.specs.Directory.{entry_if, is_next, told_each}
use Rattle.package_code.specs.Owners.{objects_at, one_protected, protected_objects, told_behind_objects, told_operation}
use Rattle.package_code.specs.Refusing.{told_behind}
use Rattle.package_code.proofs.Reordered.{longer}
use Rattle.package_code.proofs.Seen.{behind_long}

abbrev head_or : List (List ℕ) → List ℕ
head_or [] = []
head_or (x ∷ xs) = x

abbrev tail_of : List (List ℕ) → List (List ℕ)
tail_of [] = []
tail_of (x ∷ xs) = xs

-- ---- the names that are new, of these

abbrev pub added : Scope → List Named → Scope
added s [] = []
added s (x ∷ xs) = cond (is_visible s x.name) (added s xs) (x ∷ added (s ++ x ∷ []) xs)

abbrev pub names_of : List Named → List (List ℕ)
names_of xs = map (λ (x : Named). x.name) xs

pub with_added : (s : Scope) (xs : List Named) → with_all s xs ≡ s ++ added s xs
with_added s [] = sym (append-nil s)
with_added s (x ∷ xs) = by_test (is_visible s x.name) (λ u. with_added u xs)
  where
    by_test : (b : Bool) → ((u : Scope) → with_all u xs ≡ u ++ added u xs)
        → with_all (cond b s (s ++ x ∷ [])) xs ≡ s ++ cond b (added s xs) (x ∷ added (s ++ x ∷ []) xs)
    by_test true later = later s
    by_test false later = later (s ++ x ∷ []) ∙ append_assoc s (x ∷ []) (added (s ++ x ∷ []) xs)

-- ---- their numbers

number_next : (s : Scope) (x : Named) → is_visible s x.name ≡ false → number_of (s ++ x ∷ []) x.name ≡ Some (length s)
number_next s x hidden =
    let wide : with_name s x.name x.entity ≡ s ++ x ∷ [] = ap (λ b. cond b s (s ++ x ∷ [])) hidden in
    let there : stands (s ++ x ∷ []) x.name ≡ Some x.entity =
    ap (λ u. stands u x.name) (sym wide) ∙ stands_with s x.name x.entity x.name
    ∙ (λ j. or_else (unseen_none s x.name hidden j) (cond (bytes_same x.name j) (Some x.entity) None)) in
    let n = number_stands (s ++ x ∷ []) x.name x.entity there in
    elim (number_added s x x.name n.0 n.1) [
      | inl k ↦ absurd (let seen = sym (ap is_some k) ∙ hidden in cc)
      | inr k ↦ n.1 ∙ ap Some k.0
    ]

number_small : (s : Scope) (name : List ℕ) → is_visible s name ≡ true → (n : ℕ) × (number_of s name ≡ Some n) × (n < length s)
number_small s name seen = by_number (number_of s name) refl seen
  where
    by_number : (o : Option ℕ) → number_of s name ≡ o → is_some o ≡ true → (n : ℕ) × (number_of s name ≡ Some n) × (n < length s)
    by_number (Some n) e h =
        let x = found_at (λ m. bytes_eq name m.name) s n (sym (number_place s name) ∙ e) in
        (n, e, slice_get_within s n x.0 x.1)
    by_number None e h = cc

less_differs : (n m : ℕ) → n < m → nat_eq n m ≡ false
less_differs n m less = grind (arith, less)

same_self : (n : ℕ) → nat_eq n n ≡ true
same_self n = grind arith

-- ---- an entry for each new one

abbrev pub tell_all : {X : Type 0} → (List ℕ → Option X) → Scope → List (Option X)
tell_all tell s = map (λ (x : Named). tell x.name) s

module _ {X : Type 0} (tell : List ℕ → Option X) where
  pub each_added : (s : Scope) (xs : List Named) (all : List (Option X)) → length all ≡ length s
      → told_each tell (with_all s xs) all (names_of xs) ≡ all ++ tell_all tell (added s xs)
  each_added s [] all long = sym (append-nil all)
  each_added s (x ∷ xs) all long = by_test (is_visible s x.name) refl (λ u more wide. each_added u xs more wide)
    where
      by_test : (b : Bool) → is_visible s x.name ≡ b
          → ((u : Scope) (more : List (Option X)) → length more ≡ length u
          → told_each tell (with_all u xs) more (names_of xs) ≡ more ++ tell_all tell (added u xs))
          → (let next = with_all (cond b s (s ++ x ∷ [])) xs in
          told_each tell next (entry_if (is_next (number_of next x.name) (length all)) (tell x.name) all) (names_of xs)
          ≡ all ++ tell_all tell (cond b (added s xs) (x ∷ added (s ++ x ∷ []) xs)))
      by_test true seen later =
          let n = number_small s x.name seen in
          let number : number_of (with_all s xs) x.name ≡ Some n.0 =
          ap (λ u. number_of u x.name) (with_added s xs) ∙ number_kept s (added s xs) x.name n.0 n.1 in
          let less : n.0 < length all = (let l = n.2 in omega (arith, l, long)) in
          let old : is_next (number_of (with_all s xs) x.name) (length all) ≡ false =
          ap (λ o. is_next o (length all)) number ∙ less_differs n.0 (length all) less in
          ap (λ b. told_each tell (with_all s xs) (entry_if b (tell x.name) all) (names_of xs)) old ∙ later s all long
      by_test false hidden later =
          let next : Scope = s ++ x ∷ [] in
          let number : number_of (with_all next xs) x.name ≡ Some (length all) =
          ap (λ u. number_of u x.name) (with_added next xs) ∙ number_kept next (added next xs) x.name (length s) (number_next s x hidden)
          ∙ ap Some (sym long) in
          let new : is_next (number_of (with_all next xs) x.name) (length all) ≡ true =
          ap (λ o. is_next o (length all)) number ∙ same_self (length all) in
          let wide : length (all ++ tell x.name ∷ []) ≡ length next = longer all (tell x.name) ∙ ap suc long ∙ sym (longer s x) in
          ap (λ b. told_each tell (with_all next xs) (entry_if b (tell x.name) all) (names_of xs)) new
          ∙ later next (all ++ tell x.name ∷ []) wide
          ∙ append_assoc all (tell x.name ∷ []) (tell_all tell (added next xs))

  -- as many as names
  pub each_long : (s : Scope) (xs : List Named) (all : List (Option X)) → length all ≡ length s
      → length (told_each tell (with_all s xs) all (names_of xs)) ≡ length (with_all s xs)
  each_long s xs all long =
      let a = ap length (each_added s xs all long) ∙ length-append all (tell_all tell (added s xs)) in
      let b = ap length (with_added s xs) ∙ length-append s (added s xs) in
      let c = length-map (added s xs) (λ (x : Named). tell x.name) in
      omega (arith, a, b, c, long)

  -- the first ones stay
  pub first_stay : (all more : List (Option X)) → take (length all) (all ++ more) ≡ all
  first_stay [] [] = refl
  first_stay [] (y ∷ more) = refl
  first_stay (x ∷ all) more = ap (λ l. x ∷ l) (first_stay all more)

  -- ---- as the text tells them

  pub behind_joined : (first : ℕ) (s more : Scope) → first ≤ length s → told_behind first tell (s ++ more) ≡ told_behind first tell s ++ tell_all tell more
  behind_joined zero [] [] up = refl
  behind_joined zero [] (m ∷ more) up = ap (λ l. tell m.name ∷ l) (behind_joined zero [] more (omega arith))
  behind_joined (suc first) [] more up = absurd (omega (arith, up))
  behind_joined zero (m ∷ s) more up = ap (λ l. tell m.name ∷ l) (behind_joined zero s more (omega arith))
  behind_joined (suc first) (m ∷ s) more up = ap (λ l. None ∷ l) (behind_joined first s more (omega (arith, up)))

  pub each_told : (first : ℕ) (s : Scope) (xs : List Named) (all : List (Option X)) → first ≤ length s → all ≡ told_behind first tell s
      → told_each tell (with_all s xs) all (names_of xs) ≡ told_behind first tell (with_all s xs)
  each_told first s xs all up is =
      each_added s xs all (ap length is ∙ behind_long tell first s) ∙ ap (λ l. l ++ tell_all tell (added s xs)) is
      ∙ sym (behind_joined first s (added s xs) up) ∙ ap (told_behind first tell) (sym (with_added s xs))

  entry_behind : (first : ℕ) (s : Scope) (n : ℕ) (m : Named) (x : X) → slice_get s n ≡ Some m → entry_at (told_behind first tell s) n ≡ Some x
      → tell m.name ≡ Some x
  entry_behind first [] n m x at h = cc
  entry_behind zero (y ∷ s) zero m x at h = ap (λ (z : Named). tell z.name) (sym (same_some y m at)) ∙ h
  entry_behind (suc first) (y ∷ s) zero m x at h = cc
  entry_behind zero (y ∷ s) (suc n) m x at h = entry_behind zero s n m x at h
  entry_behind (suc first) (y ∷ s) (suc n) m x at h = entry_behind first s n m x at h

  -- what is told of a name is told by the text
  pub told_found : (first : ℕ) (s : Scope) (name : List ℕ) (x : X) → told_of s (told_behind first tell s) name ≡ Some x → tell name ≡ Some x
  told_found first s name x h = by_number (number_of s name) refl h
    where
      by_number : (o : Option ℕ) → number_of s name ≡ o → elim o [ None ↦ None | Some n ↦ entry_at (told_behind first tell s) n ] ≡ Some x
          → tell name ≡ Some x
      by_number (Some n) e k =
          let m = found_at (λ m. bytes_eq name m.name) s n (sym (number_place s name) ∙ e) in
          ap tell (same_bytes name m.0.name m.2) ∙ entry_behind first s n m.0 x m.1 k
      by_number None e k = cc

-- names that are the same, of which the same is told
pub behind_same : {X : Type 0} (f g : List ℕ → Option X) (first : ℕ) (s u : Scope) → names_of s ≡ names_of u
    → ((m : Named) → Has s m → f m.name ≡ g m.name) → told_behind first f s ≡ told_behind first g u
behind_same f g first [] [] names same = refl
behind_same f g first [] (y ∷ u) names same = cc
behind_same f g first (x ∷ s) [] names same = cc
behind_same f g zero (x ∷ s) (y ∷ u) names same =
    let one = ap head_or names in
    (λ j. (same x (inl refl) ∙ ap g one) j ∷ behind_same f g zero s u (ap tail_of names) (λ m has. same m (inr has)) j)
behind_same f g (suc first) (x ∷ s) (y ∷ u) names same =
    ap (λ l. None ∷ l) (behind_same f g first s u (ap tail_of names) (λ m has. same m (inr has)))

-- ---- the protected objects among names

one_object : (e : Entity) → one_protected e ≡ elim (protected_of (Some e)) [ Some o ↦ o ∷ [] | None ↦ [] ]
one_object (Protected o) = refl
one_object e = refl

objects_from : (s : Scope) (n : ℕ) → protected_objects (drop n s) ≡ objects_at s n ++ protected_objects (drop (suc n) s)
objects_from [] zero = refl
objects_from [] (suc n) = refl
objects_from (x ∷ s) zero = ap (λ l. l ++ protected_objects s) (one_object x.entity)
objects_from (x ∷ s) (suc n) = objects_from s n

objects_left : (s : Scope) (n : ℕ) → protected_objects (drop n s) ≡ objects_at s n ++ protected_objects (drop (n + 1) s)
objects_left s n =
    (let e : suc n ≡ n + 1 = omega arith in objects_from s n ∙ ap (λ m. objects_at s n ++ protected_objects (drop m s)) e)

pub objects_told : {X : Type 0} (tell : (owner : Option ℕ) → (name : List ℕ) → Option X) (s : Scope) (n : ℕ)
    → told_behind_objects tell (protected_objects (drop n s))
    ≡ told_behind_objects tell (objects_at s n) ++ told_behind_objects tell (protected_objects (drop (n + 1) s))
objects_told tell s n =
    ap (told_behind_objects tell) (objects_left s n)
    ∙ map-append (λ (o : ProtectedObject). map (told_operation (tell (Some o.number))) o.operations) (objects_at s n) (protected_objects (drop (n + 1) s))
