-- One walk with the names of parts that are open finds the faults that objects have each by itself, in another order and number.
use Rattle.std.proofs.Common.{◌≡◌, ◌≤◌, ◌+◌, ◌*◌, ℕ, suc, Bool, true, false, cond, not, ◌||◌, ◌&&◌, nat_lt, List, [], ◌∷◌, ◌++◌, length, Option, Some, None, option_map, refl, sym, ap, subst, ◌∙◌, arith, bytes_eq, if◌then◌else◌}
use Rattle.std.specs.Prelude.{unwrap_or}
use Rattle.std.specs.List.{list_any}
use Rattle.std.specs.Map.{lookup}
use Rattle.std.proofs.Math.Bool.{or-false, or_assoc, or_self}
use Rattle.std.proofs.lemmas.List.Folds.{list_any-append}
use Rattle.std.proofs.lemmas.Slice.Eq.{bytes_eq-Decides}
use Rattle.indexmap.specs.IndexMap.{insert_entry}
use Rattle.lexer.specs.declared.fault.Fault.{Fault}
use Rattle.base.specs.declared.faults.TheConstants.{DECLARED_TWICE}
use Rattle.ada_tree.specs.declared.expression.Identifier.{Identifier}
use Rattle.ada_tree.specs.StatementTree.{ProtectedTree}
use Rattle.ada_tree.specs.ProgramTree.{ItemTree, OfProtected, BodyItemTree, OfItem, SubprogramBody, ProtectedBody, PackageTree}
use Rattle.types.specs.Seen.{place_of}
use Rattle.types.proofs.Seeing.{either_way}
use Rattle.expr_rules.specs.Faults.{Faults, rule}
use Rattle.declaration_rules.specs.ProtectedRules.{operation_bytes}
use Rattle.unit_rules.specs.MainRules.{item_name}
use Rattle.legality.specs.LikeNames.{between_faults, body_like_faults, item_like_faults, like_name_faults, like_rule, specification_like_faults, specified_faults}
use Rattle.legality.specs.OpenParts.{NamePlaces, bodies_from, component_bytes, end_of, extended, extended_by, is_before, is_open, open_body_faults, open_item_faults, open_items_faults, open_rule, reaches, with_end, with_items, with_object}

-- ---- which names are open

abbrev Opens : Type 0
Opens = List ℕ → ℕ → Bool

abbrev part_named : ProtectedTree → List ℕ → Bool
part_named d n = list_any (λ o. bytes_eq (operation_bytes o) n) d.operations || list_any (λ c. bytes_eq (component_bytes c) n) d.components

abbrev either : Opens → Opens → Opens
either f g = λ n p. f n p || g n p

abbrev own : ProtectedTree → ℕ → Opens
own d last = λ n p. part_named d n && nat_lt p last

put_same : (ends : NamePlaces) (name : List ℕ) (last : ℕ) (n : List ℕ) → bytes_eq name n ≡ true → place_of (with_end ends name last) n ≡ Some last
put_same [] name last n e = ap (λ b. cond b (Some last) None) (either_way n name ∙ e)
put_same (x ∷ xs) name last n e = by (bytes_eq name x.0) refl (put_same xs name last n e)
  where
    is : name ≡ n
    is = (bytes_eq-Decides name n).0 e

    by : (b : Bool) → bytes_eq name x.0 ≡ b → place_of (with_end xs name last) n ≡ Some last → lookup (bytes_eq n) (cond b ((x.0, last) ∷ xs) (x ∷ insert_entry bytes_eq xs name last)) ≡ Some last
    by true h rest = ap (λ b. cond b (Some last) (lookup (bytes_eq n) xs)) (ap (λ m. bytes_eq m x.0) (sym is) ∙ h)
    by false h rest = ap (λ b. cond b (Some x.1) (place_of (with_end xs name last) n)) (ap (λ m. bytes_eq m x.0) (sym is) ∙ h) ∙ rest

put_other : (ends : NamePlaces) (name : List ℕ) (last : ℕ) (n : List ℕ) → bytes_eq name n ≡ false → place_of (with_end ends name last) n ≡ place_of ends n
put_other [] name last n e = ap (λ b. cond b (Some last) None) (either_way n name ∙ e)
put_other (x ∷ xs) name last n e = by (bytes_eq name x.0) (bytes_eq n x.0) refl refl (put_other xs name last n e)
  where
    apart : name ≡ n → ⊥
    apart q = let both : true ≡ false = sym ((bytes_eq-Decides name n).1 q) ∙ e in cc

    by : (b c : Bool) → bytes_eq name x.0 ≡ b → bytes_eq n x.0 ≡ c → place_of (with_end xs name last) n ≡ place_of xs n
        → lookup (bytes_eq n) (cond b ((x.0, last) ∷ xs) (x ∷ insert_entry bytes_eq xs name last)) ≡ cond c (Some x.1) (lookup (bytes_eq n) xs)
    by true true h k rest = absurd (apart ((bytes_eq-Decides name x.0).0 h ∙ sym ((bytes_eq-Decides n x.0).0 k)))
    by true false h k rest = ap (λ b. cond b (Some last) (lookup (bytes_eq n) xs)) k
    by false true h k rest = ap (λ b. cond b (Some x.1) (place_of (with_end xs name last) n)) k
    by false false h k rest = ap (λ b. cond b (Some x.1) (place_of (with_end xs name last) n)) k ∙ rest

reach_wide : (p last : ℕ) (o : Option ℕ) → reaches last o ≡ true → is_before p o ≡ (is_before p o || nat_lt p last)
reach_wide p last None h = cc
reach_wide p last (Some own) h = by (nat_lt p last) (nat_lt p own) refl refl
  where
    further : nat_lt p last ≡ true → not (nat_lt own last) ≡ true → nat_lt p own ≡ true
    further k e = grind (arith, k, e)

    by : (u v : Bool) → nat_lt p last ≡ u → nat_lt p own ≡ v → v ≡ (v || u)
    by u true k l = refl
    by true false k l = sym l ∙ further k h
    by false false k l = refl

reach_short : (p last : ℕ) (o : Option ℕ) → reaches last o ≡ false → nat_lt p last ≡ (is_before p o || nat_lt p last)
reach_short p last None h = refl
reach_short p last (Some own) h = by (nat_lt p own) (nat_lt p last) refl refl
  where
    further : nat_lt p own ≡ true → not (nat_lt own last) ≡ false → nat_lt p last ≡ true
    further k e = grind (arith, k, e)

    by : (u v : Bool) → nat_lt p own ≡ u → nat_lt p last ≡ v → v ≡ (u || v)
    by false v k l = refl
    by true true k l = refl
    by true false k l = sym l ∙ further k h

opened_one : (ends : NamePlaces) (name : List ℕ) (last : ℕ) (n : List ℕ) (p : ℕ)
    → is_open (extended ends name last) n p ≡ (is_open ends n p || (bytes_eq name n && nat_lt p last))
opened_one ends name last n p = by (reaches last (place_of ends name)) (bytes_eq name n) refl refl
  where
    at_name : bytes_eq name n ≡ true → place_of ends n ≡ place_of ends name
    at_name e = ap (place_of ends) (sym ((bytes_eq-Decides name n).0 e))

    by : (u v : Bool) → reaches last (place_of ends name) ≡ u → bytes_eq name n ≡ v
        → is_open (if u then ends else with_end ends name last) n p ≡ (is_open ends n p || (v && nat_lt p last))
    by true true h e = ap (is_before p) (at_name e) ∙ reach_wide p last (place_of ends name) h ∙ ap (λ o. is_before p o || nat_lt p last) (sym (at_name e))
    by true false h e = sym (or-false (is_open ends n p))
    by false true h e =
        ap (is_before p) (put_same ends name last n e) ∙ reach_short p last (place_of ends name) h ∙ ap (λ o. is_before p o || nat_lt p last) (sym (at_name e))
    by false false h e = ap (is_before p) (put_other ends name last n e) ∙ sym (or-false (is_open ends n p))

spread : (a b c l : Bool) → ((a || (b && l)) || (c && l)) ≡ (a || ((b || c) && l))
spread true b c l = refl
spread false true c true = refl
spread false true true false = refl
spread false true false false = refl
spread false false c l = refl

opened_all : {X : Type 0} (name : X → List ℕ) (ends : NamePlaces) (xs : List X) (last : ℕ) (n : List ℕ) (p : ℕ)
    → is_open (extended_by name ends xs last) n p ≡ (is_open ends n p || (list_any (λ x. bytes_eq (name x) n) xs && nat_lt p last))
opened_all name ends [] last n p = sym (or-false (is_open ends n p))
opened_all name ends (x ∷ xs) last n p =
    opened_all name (extended ends (name x) last) xs last n p
    ∙ ap (λ b. b || (list_any (λ x. bytes_eq (name x) n) xs && nat_lt p last)) (opened_one ends (name x) last n p)
    ∙ spread (is_open ends n p) (bytes_eq (name x) n) (list_any (λ x. bytes_eq (name x) n) xs) (nat_lt p last)

opened_parts : (ends : NamePlaces) (d : ProtectedTree) (last : ℕ) (n : List ℕ) (p : ℕ) → is_open (with_object ends d last) n p ≡ either (is_open ends) (own d last) n p
opened_parts ends d last n p =
    let before = extended_by operation_bytes ends d.operations last in
    let operations = list_any (λ o. bytes_eq (operation_bytes o) n) d.operations in
    let components = list_any (λ c. bytes_eq (component_bytes c) n) d.components in
    opened_all component_bytes before d.components last n p
    ∙ ap (λ b. b || (components && nat_lt p last)) (opened_all operation_bytes ends d.operations last n p)
    ∙ spread (is_open ends n p) operations components (nat_lt p last)

opens_with : (ends : NamePlaces) (d : ProtectedTree) (last : ℕ) → is_open (with_object ends d last) ≡ either (is_open ends) (own d last)
opens_with ends d last = λ j n p. opened_parts ends d last n p j

-- ---- what is told of a list of items, where what is open stays as it is

module _ (test : Fault → Bool) where
  abbrev has : Faults → Bool
  has faults = list_any test faults

  abbrev joined : Bool → Bool → Bool
  joined a b = a || b

  parts : (xs ys : Faults) → has (xs ++ ys) ≡ joined (has xs) (has ys)
  parts xs ys = list_any-append test xs ys

  associates : (a b c : Bool) → joined (joined a b) c ≡ joined a (joined b c)
  associates a b c = or_assoc a b c

  -- (a, b) and (c, d) as (a, c) and (b, d)
  crossed : (a b c d : Bool) → joined (joined a b) (joined c d) ≡ joined (joined a c) (joined b d)
  crossed true b c d = refl
  crossed false true true d = refl
  crossed false true false d = refl
  crossed false false c d = refl

  -- one rule by two tests
  rule_or : (place : ℕ) (a b : Bool) → has (rule DECLARED_TWICE place (a || b)) ≡ joined (has (rule DECLARED_TWICE place a)) (has (rule DECLARED_TWICE place b))
  rule_or place true true = sym (or_self (has (rule DECLARED_TWICE place true)))
  rule_or place true false = sym (or-false (has (rule DECLARED_TWICE place true)))
  rule_or place false true = refl
  rule_or place false false = refl

  abbrev name_marks : Opens → ℕ → Identifier → Faults
  name_marks f p name = rule DECLARED_TWICE name.place (f name.name p)

  abbrev item_marks : Opens → ℕ → BodyItemTree → Faults
  item_marks f p (OfItem i) = name_marks f p (item_name i)
  item_marks f p (SubprogramBody s b) = name_marks f p s.name
  item_marks f p i = []

  abbrev marks : Opens → ℕ → List BodyItemTree → Bool
  marks f p [] = false
  marks f p (i ∷ is) = joined (has (item_marks f p i)) (marks f (suc p) is)

  item_or : (f g : Opens) (p : ℕ) (i : BodyItemTree) → has (item_marks (either f g) p i) ≡ joined (has (item_marks f p i)) (has (item_marks g p i))
  item_or f g p (OfItem i) = let name = item_name i in rule_or name.place (f name.name p) (g name.name p)
  item_or f g p (SubprogramBody s b) = rule_or s.name.place (f s.name.name p) (g s.name.name p)
  item_or f g p i = refl

  marks_or : (f g : Opens) (p : ℕ) (is : List BodyItemTree) → marks (either f g) p is ≡ joined (marks f p is) (marks g p is)
  marks_or f g p [] = refl
  marks_or f g p (i ∷ is) =
      (λ j. joined (item_or f g p i j) (marks_or f g (suc p) is j))
      ∙ crossed (has (item_marks f p i)) (has (item_marks g p i)) (marks f (suc p) is) (marks g (suc p) is)

  told : (ends : NamePlaces) (p : ℕ) (i : BodyItemTree) → open_item_faults ends p i ≡ item_marks (is_open ends) p i
  told ends p (OfItem i) = refl
  told ends p (SubprogramBody s b) = refl
  told ends p i = refl

  -- ---- one object

  and_false : (b : Bool) → (b && false) ≡ false
  and_false true = refl
  and_false false = refl

  and_true : (b : Bool) → (b && true) ≡ b
  and_true true = refl
  and_true false = refl

  -- the test of a place behind the object's body, and in front of it
  shut_test : (d : ProtectedTree) (last p : ℕ) (n : List ℕ) → nat_lt p last ≡ false → own d last n p ≡ false
  shut_test d last p n h = ap (λ b. part_named d n && b) h ∙ and_false (part_named d n)

  open_test : (d : ProtectedTree) (last p : ℕ) (n : List ℕ) → nat_lt p last ≡ true → own d last n p ≡ part_named d n
  open_test d last p n h = ap (λ b. part_named d n && b) h ∙ and_true (part_named d n)

  shut_item : (d : ProtectedTree) (last p : ℕ) (i : BodyItemTree) → nat_lt p last ≡ false → has (item_marks (own d last) p i) ≡ false
  shut_item d last p (OfItem i) h = ap (λ b. has (rule DECLARED_TWICE (item_name i).place b)) (shut_test d last p (item_name i).name h)
  shut_item d last p (SubprogramBody s b) h = ap (λ b. has (rule DECLARED_TWICE s.name.place b)) (shut_test d last p s.name.name h)
  shut_item d last p i h = refl

  open_item : (d : ProtectedTree) (last p : ℕ) (i : BodyItemTree) → nat_lt p last ≡ true → has (item_marks (own d last) p i) ≡ has (item_like_faults d i)
  open_item d last p (OfItem i) h = ap (λ b. has (rule DECLARED_TWICE (item_name i).place b)) (open_test d last p (item_name i).name h)
  open_item d last p (SubprogramBody s b) h = ap (λ b. has (rule DECLARED_TWICE s.name.place b)) (open_test d last p s.name.name h)
  open_item d last p i h = refl

  is_behind : (last p : ℕ) → last ≤ p → nat_lt p last ≡ false
  is_behind last p le = grind (arith, le)

  is_in_front : (last p : ℕ) → suc p ≤ last → nat_lt p last ≡ true
  is_in_front last p le = grind (arith, le)

  shut : (d : ProtectedTree) (last p : ℕ) (is : List BodyItemTree) → last ≤ p → marks (own d last) p is ≡ false
  shut d last p [] le = refl
  shut d last p (i ∷ is) le = let more : last ≤ suc p = omega (arith, le) in λ j. joined (shut_item d last p i (is_behind last p le) j) (shut d last (suc p) is more j)

  abbrev last_of : (whole p : ℕ) → List BodyItemTree → ProtectedTree → ℕ
  last_of whole p is d = end_of (bodies_from p is) whole d

  -- bodies from a place on stand there or behind it
  ends_later : (whole p : ℕ) (is : List BodyItemTree) (d : ProtectedTree) → p + length is ≤ whole → p ≤ last_of whole p is d
  ends_later whole p [] d fits = omega (arith, fits)
  ends_later whole p (ProtectedBody name items e ∷ is) d fits =
      let f : suc p + length is ≤ whole = omega (arith, fits) in
      by (bytes_eq name.name d.name.name) refl (ends_later whole (suc p) is d f)
    where
      by : (b : Bool) → bytes_eq name.name d.name.name ≡ b → suc p ≤ last_of whole (suc p) is d → p ≤ last_of whole p (ProtectedBody name items e ∷ is) d
      by true h rest = let same = ap (λ o. unwrap_or o whole) (put_same (bodies_from (suc p) is) name.name p d.name.name h) in subst (λ k. p ≤ k) (sym same) (omega arith)
      by false h rest = let same = ap (λ o. unwrap_or o whole) (put_other (bodies_from (suc p) is) name.name p d.name.name h) in subst (λ k. p ≤ k) (sym same) (omega (arith, rest))
  ends_later whole p (i ∷ is) d fits = let f : suc p + length is ≤ whole = omega (arith, fits) in let rest = ends_later whole (suc p) is d f in omega (arith, rest)

  -- the names that an object has open up to its body are those that it is told of by itself
  alone : (whole p : ℕ) (is : List BodyItemTree) (d : ProtectedTree) → p + length is ≤ whole → marks (own d (last_of whole p is d)) p is ≡ has (between_faults d is)
  alone whole p [] d fits = refl
  alone whole p (ProtectedBody name items e ∷ is) d fits =
      let f : suc p + length is ≤ whole = omega (arith, fits) in
      by (bytes_eq name.name d.name.name) refl (alone whole (suc p) is d f)
    where
      here : List BodyItemTree
      here = ProtectedBody name items e ∷ is

      by : (b : Bool) → bytes_eq name.name d.name.name ≡ b
          → marks (own d (last_of whole (suc p) is d)) (suc p) is ≡ has (between_faults d is)
          → marks (own d (last_of whole p here d)) (suc p) is ≡ has (between_faults d here)
      by true h rest =
          let same = ap (λ o. unwrap_or o whole) (put_same (bodies_from (suc p) is) name.name p d.name.name h) in
          let le : p ≤ suc p = omega arith in
          ap (λ k. marks (own d k) (suc p) is) same
          ∙ shut d p (suc p) is le
          ∙ ap (λ b. has (elim b [ true ↦ [] | false ↦ between_faults d is ])) (sym (either_way d.name.name name.name ∙ h))
      by false h rest =
          let same = ap (λ o. unwrap_or o whole) (put_other (bodies_from (suc p) is) name.name p d.name.name h) in
          ap (λ k. marks (own d k) (suc p) is) same
          ∙ rest
          ∙ ap (λ b. has (elim b [ true ↦ [] | false ↦ between_faults d is ])) (sym (either_way d.name.name name.name ∙ h))
  alone whole p (i ∷ is) d fits =
      let f : suc p + length is ≤ whole = omega (arith, fits) in
      let front = is_in_front (last_of whole (suc p) is d) p (ends_later whole (suc p) is d f) in
      (λ j. joined (open_item d (last_of whole (suc p) is d) p i front j) (alone whole (suc p) is d f j))
      ∙ sym (parts (item_like_faults d i) (between_faults d is))

  -- ---- the package's body

  plain : (x m l : Bool) (one rest : Faults) → x ≡ has one → has rest ≡ joined m l → has (one ++ rest) ≡ joined (joined x m) l
  plain x m l one rest is here = parts one rest ∙ (λ j. joined (sym is j) (here j)) ∙ sym (associates x m l)

  grown : (whole : ℕ) (ends : NamePlaces) (p : ℕ) (is : List BodyItemTree)
      → p + length is ≤ whole
      → has (open_body_faults whole ends p is) ≡ joined (marks (is_open ends) p is) (has (body_like_faults is))
  grown whole ends p [] fits = refl
  grown whole ends p (OfItem (OfProtected d) ∷ is) fits =
      let f : suc p + length is ≤ whole = omega (arith, fits) in
      let last = last_of whole (suc p) is d in
      let one = has (open_rule ends p d.name) in
      let m = marks (is_open ends) (suc p) is in
      let b = has (between_faults d is) in
      let l = has (body_like_faults is) in
      let more : marks (is_open (with_object ends d last)) (suc p) is ≡ joined m b =
      ap (λ g. marks g (suc p) is) (opens_with ends d last) ∙ marks_or (is_open ends) (own d last) (suc p) is ∙ ap (joined m) (alone whole (suc p) is d f) in
      parts (open_rule ends p d.name) (open_body_faults whole (with_object ends d last) (suc p) is)
      ∙ ap (joined one) (grown whole (with_object ends d last) (suc p) is f ∙ ap (λ x. joined x l) more ∙ associates m b l)
      ∙ sym (associates one m (joined b l))
      ∙ ap (joined (joined one m)) (sym (parts (between_faults d is) (body_like_faults is)))
  grown whole ends p (i ∷ is) fits =
      let f : suc p + length is ≤ whole = omega (arith, fits) in
      plain (has (item_marks (is_open ends) p i)) (marks (is_open ends) (suc p) is) (has (body_like_faults is)) (open_item_faults ends p i) (open_body_faults whole ends (suc p) is)
      (ap has (sym (told ends p i))) (grown whole ends (suc p) is f)

  -- ---- the specification in front of it

  abbrev names_marks : Opens → List ItemTree → Bool
  names_marks f [] = false
  names_marks f (i ∷ is) = joined (has (name_marks f 0 (item_name i))) (names_marks f is)

  names_or : (f g : Opens) (is : List ItemTree) → names_marks (either f g) is ≡ joined (names_marks f is) (names_marks g is)
  names_or f g [] = refl
  names_or f g (i ∷ is) =
      let name = item_name i in
      (λ j. joined (rule_or name.place (f name.name 0) (g name.name 0) j) (names_or f g is j))
      ∙ crossed (has (name_marks f 0 name)) (has (name_marks g 0 name)) (names_marks f is) (names_marks g is)

  names_alone : (d : ProtectedTree) (last : ℕ) (is : List ItemTree) → nat_lt 0 last ≡ true → names_marks (own d last) is ≡ has (specified_faults d is)
  names_alone d last [] h = refl
  names_alone d last (i ∷ is) h =
      let name = item_name i in
      (λ j. joined (has (rule DECLARED_TWICE name.place (open_test d last 0 name.name h j))) (names_alone d last is h j))
      ∙ sym (parts (like_rule d name) (specified_faults d is))

  -- what is told in front of a declaration and by it, and of what stands behind it and in the package's body
  arranged : (x n s m b l r : Bool)
      → joined x (joined (joined (joined n s) (joined m b)) (joined l r)) ≡ joined (joined (joined x n) m) (joined (joined (joined s b) l) r)
  arranged x n s m b l r =
      ap (λ y. joined x (joined y (joined l r))) (crossed n s m b)
      ∙ ap (joined x) (associates (joined n m) (joined s b) (joined l r))
      ∙ sym (associates x (joined n m) (joined (joined s b) (joined l r)))
      ∙ sym (λ j. joined (associates x n m j) (associates (joined s b) l r j))

  in_front : (whole : ℕ) (ends : NamePlaces) (body : List BodyItemTree) (is : List ItemTree)
      → 1 + length body ≤ whole
      → let bodies = bodies_from 1 body in
      joined (has (open_items_faults bodies whole ends is)) (has (open_body_faults whole (with_items bodies whole ends is) 1 body))
      ≡ joined (joined (names_marks (is_open ends) is) (marks (is_open ends) 1 body)) (joined (has (specification_like_faults body is)) (has (body_like_faults body)))
  in_front whole ends body [] fits = grown whole ends 1 body fits
  in_front whole ends body (OfProtected d ∷ is) fits =
      let bodies = bodies_from 1 body in
      let last = end_of bodies whole d in
      let next = with_object ends d last in
      let x = has (open_rule ends 0 d.name) in
      let s = has (specified_faults d is) in
      let b = has (between_faults d body) in
      let l = has (specification_like_faults body is) in
      let r = has (body_like_faults body) in
      let shown = is_in_front last 0 (ends_later whole 1 body d fits) in
      let names : names_marks (is_open next) is ≡ joined (names_marks (is_open ends) is) s =
      ap (λ f. names_marks f is) (opens_with ends d last) ∙ names_or (is_open ends) (own d last) is ∙ ap (joined (names_marks (is_open ends) is)) (names_alone d last is shown) in
      let inside : marks (is_open next) 1 body ≡ joined (marks (is_open ends) 1 body) b =
      ap (λ f. marks f 1 body) (opens_with ends d last) ∙ marks_or (is_open ends) (own d last) 1 body ∙ ap (joined (marks (is_open ends) 1 body)) (alone whole 1 body d fits) in
      ap (λ o. joined o (has (open_body_faults whole (with_items bodies whole next is) 1 body))) (parts (open_rule ends 0 d.name) (open_items_faults bodies whole next is))
      ∙ associates x (has (open_items_faults bodies whole next is)) (has (open_body_faults whole (with_items bodies whole next is) 1 body))
      ∙ ap (joined x) (in_front whole next body is fits ∙ (λ j. joined (joined (names j) (inside j)) (joined l r)))
      ∙ arranged x (names_marks (is_open ends) is) s (marks (is_open ends) 1 body) b l r
      ∙ ap (λ o. joined (joined (joined x (names_marks (is_open ends) is)) (marks (is_open ends) 1 body)) (joined o r))
      (sym (parts (specified_faults d is ++ between_faults d body) (specification_like_faults body is) ∙ ap (λ o. joined o l) (parts (specified_faults d is) (between_faults d body))))
  in_front whole ends body (i ∷ is) fits =
      let bodies = bodies_from 1 body in
      let x = has (open_rule ends 0 (item_name i)) in
      let rest = has (open_items_faults bodies whole ends is) in
      let inside = has (open_body_faults whole (with_items bodies whole ends is) 1 body) in
      let n = names_marks (is_open ends) is in
      let m = marks (is_open ends) 1 body in
      let others = joined (has (specification_like_faults body is)) (has (body_like_faults body)) in
      ap (λ o. joined o inside) (parts (open_rule ends 0 (item_name i)) (open_items_faults bodies whole ends is))
      ∙ associates x rest inside
      ∙ ap (joined x) (in_front whole ends body is fits ∙ associates n m others)
      ∙ sym (associates x n (joined m others))
      ∙ sym (associates (joined x n) m others)

  -- ---- where nothing is open at first

  no_names : (is : List ItemTree) → names_marks (is_open []) is ≡ false
  no_names [] = refl
  no_names (i ∷ is) = no_names is

  no_marks : (p : ℕ) (is : List BodyItemTree) → marks (is_open []) p is ≡ false
  no_marks p [] = refl
  no_marks p (OfItem i ∷ is) = no_marks (suc p) is
  no_marks p (SubprogramBody s b ∷ is) = no_marks (suc p) is
  no_marks p (i ∷ is) = no_marks (suc p) is

  pub one_walk : (whole : ℕ) (p : PackageTree)
      → whole ≡ length p.body.items + 1
      → has (open_items_faults (bodies_from 1 p.body.items) whole [] p.declaration.items
      ++ open_body_faults whole (with_items (bodies_from 1 p.body.items) whole [] p.declaration.items) 1 p.body.items)
      ≡ has (like_name_faults p)
  one_walk whole p is =
      let fits : 1 + length p.body.items ≤ whole = omega (arith, is) in
      let others = joined (has (specification_like_faults p.body.items p.declaration.items)) (has (body_like_faults p.body.items)) in
      parts (open_items_faults (bodies_from 1 p.body.items) whole [] p.declaration.items)
      (open_body_faults whole (with_items (bodies_from 1 p.body.items) whole [] p.declaration.items) 1 p.body.items)
      ∙ in_front whole [] p.body.items p.declaration.items fits
      ∙ (λ j. joined (joined (no_names p.declaration.items j) (no_marks 1 p.body.items j)) others)
      ∙ sym (parts (specification_like_faults p.body.items p.declaration.items) (body_like_faults p.body.items))
