-- Why what declarations tell is not found: what refuses one of them refuses all.
use Rattle.std.proofs.Common.{◌≡◌, ℕ, ◌+◌, ◌<◌, ◌≤◌, List, [], ◌∷◌, ◌++◌, append_assoc, drop, get_or, length, length-append, map, take, sym, ap, ◌∙◌, subst, arith}
use Rattle.std.proofs.lemmas.List.{map-append, take-append-drop}
use Rattle.base.specs.declared.limits.TheConstants.{WORDS}
use Rattle.ada_tree.specs.declared.declaration.Item.{Item}
use Rattle.ada_tree.specs.declared.program.BodyItem.{BodyItem}
use Rattle.ada_tree.specs.StatementTree.{ObjectTree}
use Rattle.ada_tree.specs.ProgramTree.{BodyItemTree, ItemTree, OfObject, body_item_tree, item_tree}
use Rattle.types.specs.Scopes.{Scope}
use Rattle.expr_soundness.specs.meaning.specs.Programs.{items_among, variables_among}
use Rattle.expr_code.specs.declared.refusal.ImageLimit.TheVariants as limits
use Rattle.expr_code.specs.declared.refusal.Refusal.{Refusal}
use Rattle.expr_code.specs.declared.refusal.Refusal.TheVariants as refusal
use Rattle.step_simulation.specs.part_code.proofs.Lists.{mapped_next}
use Rattle.package_code.specs.Globals.{AddsItems, RefusesAdding, RefusesGlobals}
use Rattle.package_code.specs.Package.{first_words_of}
use Rattle.package_code.specs.declared.globals.Globals.{Globals}
use Rattle.package_code.proofs.Declared.{among_both, placed_both}
use Rattle.package_code.proofs.Variables.{variables_both, words_more}

-- ---- one of several declarations

fewer : (s : Scope) (front more : List ItemTree)
    → length (first_words_of (variables_among s front)) ≤ length (first_words_of (variables_among s (front ++ more)))
fewer s front more =
    let e = ap (λ l. length (first_words_of l)) (variables_both s front more)
    ∙ ap length (words_more (variables_among s front) (variables_among s more))
    ∙ length-append (first_words_of (variables_among s front)) (first_words_of (variables_among s more)) in
    under (length (first_words_of (variables_among s front))) (length (first_words_of (variables_among s more)))
    (length (first_words_of (variables_among s (front ++ more)))) e
  where
    under : (a b n : ℕ) → n ≡ a + b → a ≤ n
    under a b n e = omega (arith, e)

less_words : (a b c : ℕ) → a < b → b ≤ c → a < c
less_words a b c h k = omega (arith, h, k)

globals_left : (s : Scope) (front xs ys : List ItemTree) (why : Refusal) → RefusesGlobals s front xs why → RefusesGlobals s front (xs ++ ys) why
globals_left s front xs ys refusal.Memory r = tt
globals_left s front xs ys (refusal.Limit limits.Words) r =
    less_words WORDS (length (first_words_of (variables_among s (front ++ xs)))) (length (first_words_of (variables_among s (front ++ (xs ++ ys))))) r
    (subst (λ l. length (first_words_of (variables_among s (front ++ xs))) ≤ length (first_words_of (variables_among s l))) (append_assoc front xs ys)
    (fewer s (front ++ xs) ys))
globals_left s front xs ys why r = absurd r

globals_right : (s : Scope) (front xs ys : List ItemTree) (why : Refusal) → RefusesGlobals s (front ++ xs) ys why → RefusesGlobals s front (xs ++ ys) why
globals_right s front xs ys refusal.Memory r = tt
globals_right s front xs ys (refusal.Limit limits.Words) r = subst (λ l. WORDS < length (first_words_of (variables_among s l))) (append_assoc front xs ys) r
globals_right s front xs ys why r = absurd r

pub adding_left : (s : Scope) (a : Globals) (xs ys : List ItemTree) (why : Refusal) → RefusesAdding s a xs why → RefusesAdding s a (xs ++ ys) why
adding_left s a xs ys why r front are placed = globals_left s front xs ys why (r front are (placed_both s front xs ys placed).0)

pub adding_right : (s : Scope) (a b : Globals) (xs ys : List ItemTree) (why : Refusal) → AddsItems s a xs b → RefusesAdding s b ys why
    → RefusesAdding s a (xs ++ ys) why
adding_right s a b xs ys why h r front are placed =
    let both = placed_both s front xs ys placed in
    globals_right s front xs ys why (r (front ++ xs) (h.are front are both.0) both.1)

-- the others behind one
pub split_at : {A B : Type 0} (f : A → B) (all : List A) (n : ℕ) (x : A) → n < length all → x ≡ get_or all n x
    → (map f (take n all) ++ f x ∷ []) ++ map f (drop (n + 1) all) ≡ map f all
split_at f all n x less is =
    ap (λ l. l ++ map f (drop (n + 1) all)) (sym (mapped_next f all n x less is)) ∙ sym (map-append f (take (n + 1) all) (drop (n + 1) all))
    ∙ ap (map f) (take-append-drop (n + 1) all)

pub item_refuses : (s : Scope) (a b : Globals) (all : List Item) (n : ℕ) (x : Item) (why : Refusal) → n < length all → x ≡ get_or all n x
    → AddsItems s a (map item_tree (take n all)) b → RefusesAdding s b (item_tree x ∷ []) why → RefusesAdding s a (map item_tree all) why
item_refuses s a b all n x why less is h r =
    subst (λ l. RefusesAdding s a l why) (split_at item_tree all n x less is)
    (adding_left s a (map item_tree (take n all) ++ item_tree x ∷ []) (map item_tree (drop (n + 1) all)) why
    (adding_right s a b (map item_tree (take n all)) (item_tree x ∷ []) why h r))

pub body_item_refuses : (s : Scope) (a b : Globals) (all : List BodyItem) (n : ℕ) (x : BodyItem) (why : Refusal) → n < length all → x ≡ get_or all n x
    → AddsItems s a (items_among (map body_item_tree (take n all))) b → RefusesAdding s b (items_among (body_item_tree x ∷ [])) why
    → RefusesAdding s a (items_among (map body_item_tree all)) why
body_item_refuses s a b all n x why less is h r =
    let front : List BodyItemTree = map body_item_tree (take n all) in
    let behind : List BodyItemTree = map body_item_tree (drop (n + 1) all) in
    let one : List BodyItemTree = body_item_tree x ∷ [] in
    subst (λ l. RefusesAdding s a l why)
    (sym (ap items_among (sym (split_at body_item_tree all n x less is)) ∙ among_both (front ++ one) behind
    ∙ ap (λ l. l ++ items_among behind) (among_both front one)))
    (adding_left s a (items_among front ++ items_among one) (items_among behind) why (adding_right s a b (items_among front) (items_among one) why h r))

-- ---- a variable

pub variable_refused : (s : Scope) (a : Globals) (d : ObjectTree) (why : Refusal) → RefusesAdding s a [] why → RefusesAdding s a (OfObject d ∷ []) why
variable_refused s a d why r = adding_left s a [] (OfObject d ∷ []) why r
