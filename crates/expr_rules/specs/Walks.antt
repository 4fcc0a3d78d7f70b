-- Laws of walks over lists of trees, for proofs here and above: tests of their elements, and turns of loops that look back and ahead.
use Rattle.std.proofs.Common.{◌≡◌, ◌<◌, ◌+◌, ◌++◌, ℕ, List, [], ◌∷◌, length, take, drop, map, Bool, Option, Some, None, refl, sym, ap, ◌∙◌}
use Rattle.std.proofs.Math.Numerals.{add-one}
use Rattle.std.proofs.Math.Seq.{take-suc}
use Rattle.std.proofs.lemmas.List.{at_drop_more, map-append}
use Rattle.std.specs.Prelude.{◌||◌, get_or}
use Rattle.std.specs.List.{list_any}
use Rattle.lexer.specs.declared.fault.Fault.{Fault}
use Rattle.expr_rules.specs.Faults.{Faults, LeastByParts, LeastIsLeast, SoonerAssociates, least, sooner}
use Rattle.expr_rules.specs.Findings.{Findings, noted, noted_one}
use Rattle.expr_rules.specs.StaticRules.{if_unbroken}

pub any_of_trees : {A B : Type 0} (test : B → Bool) (tree : A → B) (xs : List A) → list_any test (map tree xs) ≡ list_any (λ x. test (tree x)) xs
any_of_trees test tree [] = refl
any_of_trees test tree (x ∷ xs) = ap (λ b. test (tree x) || b) (any_of_trees test tree xs)

-- a walk over trees of which each is judged with those in front of it and those behind it
pub walk_turn : LeastByParts
    → SoonerAssociates
    → {A T : Type 0} (tree : A → T) (walk : List T → List T → Faults) (first : List T → T → List T → Faults)
    → ((before : List T) (y : T) (rest : List T) → walk before (y ∷ rest) ≡ first before y rest ++ walk (before ++ y ∷ []) rest)
    → (all : List A) (n : ℕ) (x : A) (f one whole : Option Fault)
    → n < length all
    → x ≡ get_or all n x
    → sooner f (least (walk (map tree (take n all)) (map tree (drop n all)))) ≡ whole
    → one ≡ least (first (map tree (take n all)) (tree x) (map tree (drop (n + 1) all)))
    → sooner (sooner f one) (least (walk (map tree (take (n + 1) all)) (map tree (drop (n + 1) all)))) ≡ whole
walk_turn parts associates tree walk first split all n x f one whole less at h here =
    let before = map tree (take n all) in
    let rest = map tree (drop (n + 1) all) in
    let taken : map tree (take (n + 1) all) ≡ before ++ tree x ∷ [] =
    ap (map tree) (ap (λ m. take m all) (add-one n) ∙ take-suc all n x less ∙ ap (λ y. take n all ++ y ∷ []) (sym at))
    ∙ map-append tree (take n all) (x ∷ []) in
    let left = walk (map tree (take (n + 1) all)) rest in
    let step : walk before (map tree (drop n all)) ≡ first before (tree x) rest ++ left =
    at_drop_more (λ r. walk before (map tree r)) all n x less
    ∙ ap (λ y. walk before (tree y ∷ rest)) (sym at)
    ∙ split before (tree x) rest
    ∙ ap (λ b. first before (tree x) rest ++ walk b rest) (sym taken) in
    associates f one (least left)
    ∙ ap (λ o. sooner f (sooner o (least left))) here
    ∙ ap (sooner f) (sym (parts (first before (tree x) rest) left))
    ∙ ap (λ l. sooner f (least l)) (sym step)
    ∙ h

-- a walk over things that are no trees, of which each is judged with those before it
pub own_walk_turn : LeastByParts
    → SoonerAssociates
    → {A : Type 0} (walk : List A → List A → Faults) (first : List A → A → Faults)
    → ((before : List A) (y : A) (rest : List A) → walk before (y ∷ rest) ≡ first before y ++ walk (before ++ y ∷ []) rest)
    → (all : List A) (n : ℕ) (x : A) (f one whole : Option Fault)
    → n < length all
    → x ≡ get_or all n x
    → sooner f (least (walk (take n all) (drop n all))) ≡ whole
    → one ≡ least (first (take n all) x)
    → sooner (sooner f one) (least (walk (take (n + 1) all) (drop (n + 1) all))) ≡ whole
own_walk_turn parts associates walk first split all n x f one whole less at h here =
    let before = take n all in
    let rest = drop (n + 1) all in
    let taken : take (n + 1) all ≡ before ++ x ∷ [] =
    ap (λ m. take m all) (add-one n) ∙ take-suc all n x less ∙ ap (λ y. before ++ y ∷ []) (sym at) in
    let left = walk (take (n + 1) all) rest in
    let step : walk before (drop n all) ≡ first before x ++ left =
    at_drop_more (walk before) all n x less ∙ ap (λ y. walk before (y ∷ rest)) (sym at) ∙ split before x rest
    ∙ ap (λ b. first before x ++ walk b rest) (sym taken) in
    associates f one (least left)
    ∙ ap (λ o. sooner f (sooner o (least left))) here
    ∙ ap (sooner f) (sym (parts (first before x) left))
    ∙ ap (λ l. sooner f (least l)) (sym step)
    ∙ h

-- ---- walks that note what they find

pub noted_append : (found : Findings) (xs ys : Faults) → noted found (xs ++ ys) ≡ noted (noted found xs) ys
noted_append found [] ys = refl
noted_append found (x ∷ xs) ys = noted_append (noted_one found x) xs ys

-- a turn of a loop over what is left
pub noted_turn : {X : Type 0} (left : List X → Faults) (all : List X) (n : ℕ) (x : X) (found : Findings) (first rest : Faults) (whole : Findings)
    → n < length all
    → x ≡ get_or all n x
    → left (x ∷ drop (n + 1) all) ≡ first ++ rest
    → noted found (left (drop n all)) ≡ whole
    → noted (noted found first) rest ≡ whole
noted_turn left all n x found first rest whole less at split h =
    sym (noted_append found first rest)
    ∙ ap (noted found) (sym (at_drop_more left all n x less ∙ ap (λ y. left (y ∷ drop (n + 1) all)) (sym at) ∙ split))
    ∙ h

-- a walk over trees of which each is judged with those in front of it and those behind it
pub noted_walk_turn : {A T : Type 0} (tree : A → T) (walk : List T → List T → Faults) (first : List T → T → List T → Faults)
    → ((before : List T) (y : T) (rest : List T) → walk before (y ∷ rest) ≡ first before y rest ++ walk (before ++ y ∷ []) rest)
    → (all : List A) (n : ℕ) (x : A) (found whole : Findings)
    → n < length all
    → x ≡ get_or all n x
    → noted found (walk (map tree (take n all)) (map tree (drop n all))) ≡ whole
    → noted (noted found (first (map tree (take n all)) (tree x) (map tree (drop (n + 1) all))))
    (walk (map tree (take (n + 1) all)) (map tree (drop (n + 1) all))) ≡ whole
noted_walk_turn tree walk first split all n x found whole less at h =
    let before = map tree (take n all) in
    let rest = map tree (drop (n + 1) all) in
    let taken : map tree (take (n + 1) all) ≡ before ++ tree x ∷ [] =
    ap (map tree) (ap (λ m. take m all) (add-one n) ∙ take-suc all n x less ∙ ap (λ y. take n all ++ y ∷ []) (sym at))
    ∙ map-append tree (take n all) (x ∷ []) in
    noted_turn (λ l. walk before (map tree l)) all n x found (first before (tree x) rest) (walk (map tree (take (n + 1) all)) rest) whole less at
    (split before (tree x) rest ∙ ap (λ b. first before (tree x) rest ++ walk b rest) (sym taken))
    h

-- a walk over things that are no trees, of which each is judged with those before it
pub noted_own_walk_turn : {A : Type 0} (walk : List A → List A → Faults) (first : List A → A → Faults)
    → ((before : List A) (y : A) (rest : List A) → walk before (y ∷ rest) ≡ first before y ++ walk (before ++ y ∷ []) rest)
    → (all : List A) (n : ℕ) (x : A) (found whole : Findings)
    → n < length all
    → x ≡ get_or all n x
    → noted found (walk (take n all) (drop n all)) ≡ whole
    → noted (noted found (first (take n all) x)) (walk (take (n + 1) all) (drop (n + 1) all)) ≡ whole
noted_own_walk_turn walk first split all n x found whole less at h =
    let before = take n all in
    let taken : take (n + 1) all ≡ before ++ x ∷ [] =
    ap (λ m. take m all) (add-one n) ∙ take-suc all n x less ∙ ap (λ y. before ++ y ∷ []) (sym at) in
    noted_turn (walk before) all n x found (first before x) (walk (take (n + 1) all) (drop (n + 1) all)) whole less at
    (split before x (drop (n + 1) all) ∙ ap (λ b. first before x ++ walk b (drop (n + 1) all)) (sym taken))
    h

-- ---- what is asked only where nothing else is broken

unbroken : (fs form value : Faults) (found one two : Findings)
    → fs ≡ []
    → one ≡ noted found form
    → two ≡ noted one value
    → two ≡ noted found (fs ++ form ++ if_unbroken fs value)
unbroken [] form value found one two e h k = k ∙ ap (λ f. noted f value) h ∙ sym (noted_append found form value)
unbroken (f ∷ fs) form value found one two e h k = cc

pub noted_unbroken : LeastIsLeast
    → (fs form value : Faults) (found one two : Findings)
    → None ≡ least fs
    → one ≡ noted found form
    → two ≡ noted one value
    → two ≡ noted found (fs ++ form ++ if_unbroken fs value)
noted_unbroken is_least fs form value found one two none h k = unbroken fs form value found one two (is_least.none fs none) h k

pub noted_broken : (fs form value : Faults) (f : Fault) (found one two : Findings)
    → Some f ≡ least fs
    → one ≡ noted found fs
    → two ≡ noted one form
    → two ≡ noted found (fs ++ form ++ if_unbroken fs value)
noted_broken [] form value f found one two some h k = cc
noted_broken (g ∷ fs) form value f found one two some h k =
    k ∙ ap (λ o. noted o form) h ∙ sym (noted_append found (g ∷ fs) form) ∙ sym (noted_append found (g ∷ fs ++ form) [])

-- elements behind those that were read
abbrev pub behind : {X : Type 0} → List X → Option (List X) → Option (List X)
behind all (Some rest) = Some (all ++ rest)
behind all None = None
