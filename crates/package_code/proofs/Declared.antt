-- What declarations of a package tell, one behind another; and which declaration or body stands at a place of it.
use Rattle.std.proofs.Common.{◌≡◌, ℕ, zero, suc, ◌+◌, ◌<◌, List, [], ◌∷◌, ◌++◌, append_assoc, append-nil, get_or, length, length-append, map, take, true, Option, Some, refl, sym, ap, ◌∙◌, subst, arith}
use Rattle.std.proofs.lemmas.Option.{slice_get-get_or, slice_get-map}
use Rattle.std.proofs.lemmas.Bool.{and_from, and_parts}
use Rattle.std.proofs.lemmas.List.{length-map}
use Rattle.std.specs.List.{list_all}
use Rattle.std.specs.Prelude.{Bool, option_map, slice_get}
use Rattle.ada_tree.specs.declared.declaration.Item.{Item}
use Rattle.ada_tree.specs.declared.program.BodyItem.{BodyItem}
use Rattle.ada_tree.specs.declared.program.Package.{Package}
use Rattle.ada_tree.specs.StatementTree.{optional_tree}
use Rattle.ada_tree.specs.ProgramTree.{BodyItemTree, ItemTree, OfItem, body_item_tree, item_tree, package_tree}
use Rattle.types.specs.Scopes.{Scope}
use Rattle.expr_soundness.proofs.Positions.{item_kept, same_some}
use Rattle.program_soundness.specs.Fronts.{declared_in}
use Rattle.expr_soundness.specs.meaning.specs.Programs.{items_among}
use Rattle.step_simulation.specs.part_code.proofs.Lists.{mapped_next}
use Rattle.package_code.specs.Globals.{AddsItems, AreGlobals, are_placed, is_placed}
use Rattle.package_code.specs.Providing.{item_tells, items_tell}
use Rattle.package_code.specs.Walking.{StandFrom}
use Rattle.package_code.specs.declared.globals.Globals.{Globals}

pub mapped_at : {A B : Type 0} (f : A → B) (xs : List A) (n : ℕ) (x : A) → n < length xs → x ≡ get_or xs n x → slice_get (map f xs) n ≡ Some (f x)
mapped_at f xs n x less is = slice_get-map f xs n ∙ ap (option_map f) (slice_get-get_or xs n x less ∙ ap Some (sym is))

-- the one at this place
pub stands_at : {A : Type 0} (whole : List BodyItemTree) (from place : ℕ) (f : A → BodyItemTree) (xs : List A) (n : ℕ) (x : A)
    → StandFrom whole from (map f xs) → place ≡ from + n → n < length xs → x ≡ get_or xs n x → slice_get whole place ≡ Some (f x)
stands_at whole from place f xs n x h at less is = ap (slice_get whole) at ∙ h n (f x) (mapped_at f xs n x less is)

-- ---- what is told of declarations behind others

pub adds_none : (s : Scope) (g : Globals) → AddsItems s g [] g
adds_none s g = record { are = λ front are placed. subst (λ l. AreGlobals s l g) (sym (append-nil front)) are }

pub placed_both : (s : Scope) (front xs ys : List ItemTree) → are_placed s front (xs ++ ys) ≡ true
    → (are_placed s front xs ≡ true) × (are_placed s (front ++ xs) ys ≡ true)
placed_both s front [] ys h = (refl, subst (λ l. are_placed s l ys ≡ true) (sym (append-nil front)) h)
placed_both s front (x ∷ xs) ys h =
    let one = and_parts (is_placed s front x) (are_placed s (front ++ x ∷ []) (xs ++ ys)) h in
    let more = placed_both s (front ++ x ∷ []) xs ys one.1 in (
      and_from (is_placed s front x) (are_placed s (front ++ x ∷ []) xs) one.0 more.0,
      subst (λ l. are_placed s l ys ≡ true) (append_assoc front (x ∷ []) xs) more.1,
    )

pub adds_then : (s : Scope) (a b c : Globals) (xs ys : List ItemTree) → AddsItems s a xs b → AddsItems s b ys c → AddsItems s a (xs ++ ys) c
adds_then s a b c xs ys h k = record {
  are = λ front are placed.
      let both = placed_both s front xs ys placed in
      subst (λ l. AreGlobals s l c) (append_assoc front xs ys) (k.are (front ++ xs) (h.are front are both.0) both.1);
}

-- what is so of all of them is so of those at its beginning, of those behind, and of each
pub all_both : {X : Type 0} (f : X → Bool) (xs ys : List X) → list_all f (xs ++ ys) ≡ true → (list_all f xs ≡ true) × (list_all f ys ≡ true)
all_both f [] ys h = (refl, h)
all_both f (x ∷ xs) ys h =
    let one = and_parts (f x) (list_all f (xs ++ ys)) h in
    let more = all_both f xs ys one.1 in
    (and_from (f x) (list_all f xs) one.0 more.0, more.1)

pub all_at : {A B : Type 0} (f : B → Bool) (g : A → B) (all : List A) (n : ℕ) (x : A) → n < length all → x ≡ get_or all n x → list_all f (map g all) ≡ true
    → f (g x) ≡ true
all_at f g [] n x less is h = absurd (omega (arith, less))
all_at f g (y ∷ all) zero x less is h = ap (λ z. f (g z)) is ∙ (and_parts (f (g y)) (list_all f (map g all)) h).0
all_at f g (y ∷ all) (suc n) x less is h = all_at f g all n x (omega (arith, less)) is (and_parts (f (g y)) (list_all f (map g all)) h).1

-- one more of them
pub item_next : (s : Scope) (a b c : Globals) (all : List Item) (n : ℕ) (x : Item) → n < length all → x ≡ get_or all n x
    → AddsItems s a (map item_tree (take n all)) b → AddsItems s b (item_tree x ∷ []) c → AddsItems s a (map item_tree (take (n + 1) all)) c
item_next s a b c all n x less is h k =
    subst (λ l. AddsItems s a l c) (sym (mapped_next item_tree all n x less is)) (adds_then s a b c (map item_tree (take n all)) (item_tree x ∷ []) h k)

pub among_both : (xs ys : List BodyItemTree) → items_among (xs ++ ys) ≡ items_among xs ++ items_among ys
among_both [] ys = refl
among_both (OfItem d ∷ xs) ys = ap (λ l. d ∷ l) (among_both xs ys)
among_both (x ∷ xs) ys = among_both xs ys

pub body_item_next : (s : Scope) (a b c : Globals) (all : List BodyItem) (n : ℕ) (x : BodyItem) → n < length all → x ≡ get_or all n x
    → AddsItems s a (items_among (map body_item_tree (take n all))) b → AddsItems s b (items_among (body_item_tree x ∷ [])) c
    → AddsItems s a (items_among (map body_item_tree (take (n + 1) all))) c
body_item_next s a b c all n x less is h k =
    subst (λ l. AddsItems s a l c)
    (sym (ap items_among (mapped_next body_item_tree all n x less is) ∙ among_both (map body_item_tree (take n all)) (body_item_tree x ∷ [])))
    (adds_then s a b c (items_among (map body_item_tree (take n all))) (items_among (body_item_tree x ∷ [])) h k)

-- what all declarations in a body tell, each does
pub told_in_body : (s : Scope) (all : List BodyItem) (n : ℕ) (x : BodyItem) → n < length all → x ≡ get_or all n x
    → items_tell s (items_among (map body_item_tree all)) ≡ true
    → items_tell s (items_among (body_item_tree x ∷ [])) ≡ true
told_in_body s [] n x less is h = absurd (omega (arith, less))
told_in_body s (y ∷ all) zero x less is h =
    subst (λ z. items_tell s (items_among (body_item_tree z ∷ [])) ≡ true) (sym is)
    (all_both (item_tells s) (items_among (body_item_tree y ∷ [])) (items_among (map body_item_tree all))
    (subst (λ l. items_tell s l ≡ true) (among_both (body_item_tree y ∷ []) (map body_item_tree all)) h)).0
told_in_body s (y ∷ all) (suc n) x less is h =
    told_in_body s all n x (omega (arith, less)) is
    (all_both (item_tells s) (items_among (body_item_tree y ∷ [])) (items_among (map body_item_tree all))
    (subst (λ l. items_tell s l ≡ true) (among_both (body_item_tree y ∷ []) (map body_item_tree all)) h)).1

-- ---- places

-- the declaration at this place of a specification
pub declaration_at : (whole : List BodyItemTree) (from place : ℕ) (all : List Item) (n : ℕ) (x : Item) → StandFrom whole from (map OfItem (map item_tree all))
    → place ≡ from + n → n < length all → x ≡ get_or all n x → slice_get whole place ≡ Some (OfItem (item_tree x))
declaration_at whole from place all n x h at less is =
    let long : n < length (map item_tree all) = (let e = length-map all item_tree in omega (arith, e, less)) in
    stands_at whole from place OfItem (map item_tree all) n (item_tree x) h at long
    (same_some (item_tree x) _ (sym (mapped_at item_tree all n x less is) ∙ slice_get-get_or (map item_tree all) n (item_tree x) long))

-- in the declarations and bodies of a package those of its specification stand first
pub specification_stands : (o : Option Package) (p : Package) (items : List Item) (place : ℕ) → o ≡ Some p → items ≡ p.declaration.items.items → place ≡ 0
    → StandFrom (declared_in (optional_tree package_tree o)) place (map OfItem (map item_tree items))
specification_stands o p items place is same first n x h =
    ap (λ z. slice_get (declared_in (optional_tree package_tree z)) (place + n)) is
    ∙ ap (slice_get (declared_in (Some (package_tree p)))) (omega (arith, first))
    ∙ item_kept (map OfItem (map item_tree p.declaration.items.items)) (map body_item_tree p.body.items.items) n x
    (ap (λ l. slice_get (map OfItem (map item_tree l)) n) (sym same) ∙ h)

get_behind : {X : Type 0} (xs ys : List X) (m n : ℕ) → m ≡ length xs + n → slice_get (xs ++ ys) m ≡ slice_get ys n
get_behind [] ys m n h = ap (slice_get ys) (omega (arith, h))
get_behind (x ∷ xs) ys zero n h = absurd (omega (arith, h))
get_behind (x ∷ xs) ys (suc m) n h = get_behind xs ys m n (omega (arith, h))

declared_long : (p : Package) → length (map OfItem (map item_tree p.declaration.items.items)) ≡ length p.declaration.items.items
declared_long p = length-map (map item_tree p.declaration.items.items) OfItem ∙ length-map p.declaration.items.items item_tree

-- ... and those of its body behind them
pub body_stands : (o : Option Package) (p : Package) (items : List Item) (all : List BodyItem) (first place : ℕ) → o ≡ Some p
    → items ≡ p.declaration.items.items → all ≡ p.body.items.items → first ≡ 0 → place ≡ first + length items
    → StandFrom (declared_in (optional_tree package_tree o)) place (map body_item_tree all)
body_stands o p items all first place is same bodies zero_is at n x h =
    let long = declared_long p in
    let many = ap length same in
    ap (λ z. slice_get (declared_in (optional_tree package_tree z)) (place + n)) is
    ∙ get_behind (map OfItem (map item_tree p.declaration.items.items)) (map body_item_tree p.body.items.items) (place + n) n
    (omega (arith, long, many, zero_is, at))
    ∙ ap (λ l. slice_get (map body_item_tree l) n) (sym bodies) ∙ h

-- there are so many of them
pub declared_many : (o : Option Package) (p : Package) (items : List Item) (all : List BodyItem) (first mid place : ℕ) → o ≡ Some p
    → items ≡ p.declaration.items.items → all ≡ p.body.items.items → first ≡ 0 → mid ≡ first + length items → place ≡ mid + length all
    → place ≡ length (declared_in (optional_tree package_tree o))
declared_many o p items all first mid place is same bodies zero_is at end =
    let long = declared_long p in
    let more = length-map p.body.items.items body_item_tree in
    let both = length-append (map OfItem (map item_tree p.declaration.items.items)) (map body_item_tree p.body.items.items) in
    let one = ap length same in
    let two = ap length bodies in
    let whole = ap (λ z. length (declared_in (optional_tree package_tree z))) is in
    omega (arith, long, more, both, one, two, whole, zero_is, at, end)
