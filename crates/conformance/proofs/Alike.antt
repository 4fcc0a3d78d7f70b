-- Profiles that conform to one another, and what a table of them tells: each declaration so far is like a profile where the first one is, and all are alike.
use denote.Enum.Bare.{sameb}
use Rattle.std.proofs.Common.{◌≡◌, ◌<◌, ◌+◌, ℕ, Bool, true, false, not, cond, ◌&&◌, ◌||◌, List, [], ◌∷◌, length, map, take, Option, Some, None, refl, sym, ap, ◌∙◌, true≢false, bytes_eq, get_or}
use Rattle.std.specs.List.{list_any}
use Rattle.std.proofs.Math.Bool.{and-true, and_assoc, and_self, or-false, or_assoc}
use Rattle.std.proofs.lemmas.Slice.Eq.{bytes_eq-Decides}
use Rattle.ada_tree.specs.declared.expression.Identifier.{Identifier}
use Rattle.ada_tree.specs.declared.declaration.Formal.{Formal}
use Rattle.ada_tree.specs.declared.declaration.Mode.{Mode}
use Rattle.ada_tree.specs.declared.declaration.Mode.TheVariants as mode
use Rattle.ada_tree.specs.StatementTree.{SubprogramTree, OperationTree, OfSubprogram, OfEntry}
use Rattle.ada_tree.specs.ProgramTree.{BodyItemTree, ItemTree, OfItem, OfType, OfObject, OfException, OfTask, OfProtected, ProtectedItemTree, OperationBody, EntryBody, SubprogramBody, TaskBody, ProtectedBody}
use Rattle.ada_tree.specs.ProgramTree.{OfSubprogram as OfDeclared}
use Rattle.types.proofs.Seeing.{either_way}
use Rattle.conformance.specs.MatchingRules.{any_declared, conforms, has_unlike_operation, is_unlike_operation, is_unlike_subprogram, operation_name, passes_declared, same_formal, same_formals, same_mode, same_name, same_result}
use Rattle.conformance.specs.declared.declared.Declared.{Declared}
use Rattle.conformance.specs.declared.keys.Key.{Key}
use Rattle.conformance.specs.declared.keys.Kind.{Kind}
use Rattle.conformance.specs.declared.keys.Kind.TheVariants as kind
use Rattle.conformance.specs.contracts.keys.Kind.{the_type}
use Rattle.conformance.specs.Tables.{Declares, IsKeyOf, ProfileTree, are_alike, body_profile, declared_at, declares_unlike, declares_unlike_operation, entry_profile, is_key, is_same_key, is_unlike, same_kind, subprogram_profile}
use Rattle.conformance.proofs.Tabled.{and-false, and_any, and_first, and_second, any_next, key_at, none_any, same_any, same_found}

-- ---- profiles

mode_is : (a b : Mode) → same_mode a b ≡ true → a ≡ b
mode_is mode.In mode.In h = refl
mode_is mode.Out mode.Out h = refl
mode_is mode.InOut mode.InOut h = refl
mode_is mode.In mode.Out h = absurd (true≢false (sym h))
mode_is mode.In mode.InOut h = absurd (true≢false (sym h))
mode_is mode.Out mode.In h = absurd (true≢false (sym h))
mode_is mode.Out mode.InOut h = absurd (true≢false (sym h))
mode_is mode.InOut mode.In h = absurd (true≢false (sym h))
mode_is mode.InOut mode.Out h = absurd (true≢false (sym h))

mode_back : (a b : Mode) → same_mode a b ≡ same_mode b a
mode_back mode.In mode.In = refl
mode_back mode.Out mode.Out = refl
mode_back mode.InOut mode.InOut = refl
mode_back mode.In mode.Out = refl
mode_back mode.In mode.InOut = refl
mode_back mode.Out mode.In = refl
mode_back mode.Out mode.InOut = refl
mode_back mode.InOut mode.In = refl
mode_back mode.InOut mode.Out = refl

formal_same : (a b d : Formal) → same_formal a b ≡ true → same_formal a d ≡ same_formal b d
formal_same a b d h =
    let named = same_name a.name b.name in
    let moded = same_mode a.mode b.mode in
    let typed = same_name a.subtype b.subtype in
    let rest = and_second named (moded && typed) h in
    let names : a.name.name ≡ b.name.name = (bytes_eq-Decides a.name.name b.name.name).0 (and_first named (moded && typed) h) in
    let modes : a.mode ≡ b.mode = mode_is a.mode b.mode (and_first moded typed rest) in
    let subtypes : a.subtype.name ≡ b.subtype.name = (bytes_eq-Decides a.subtype.name b.subtype.name).0 (and_second moded typed rest) in
    λ j. bytes_eq (names j) d.name.name && (same_mode (modes j) d.mode && bytes_eq (subtypes j) d.subtype.name)

formal_back : (a b : Formal) → same_formal a b ≡ same_formal b a
formal_back a b = λ j. either_way a.name.name b.name.name j && (mode_back a.mode b.mode j && either_way a.subtype.name b.subtype.name j)

formals_same : (as_ bs ds : List Formal) → same_formals as_ bs ≡ true → same_formals as_ ds ≡ same_formals bs ds
formals_same [] [] ds h = refl
formals_same [] (b ∷ bs) ds h = absurd (true≢false (sym h))
formals_same (a ∷ as_) [] ds h = absurd (true≢false (sym h))
formals_same (a ∷ as_) (b ∷ bs) [] h = refl
formals_same (a ∷ as_) (b ∷ bs) (d ∷ ds) h =
    let one = formal_same a b d (and_first (same_formal a b) (same_formals as_ bs) h) in
    let rest = formals_same as_ bs ds (and_second (same_formal a b) (same_formals as_ bs) h) in
    λ j. one j && rest j

formals_back : (as_ bs : List Formal) → same_formals as_ bs ≡ same_formals bs as_
formals_back [] [] = refl
formals_back [] (b ∷ bs) = refl
formals_back (a ∷ as_) [] = refl
formals_back (a ∷ as_) (b ∷ bs) = λ j. formal_back a b j && formals_back as_ bs j

result_same : (a b d : Option Identifier) → same_result a b ≡ true → same_result a d ≡ same_result b d
result_same None None d h = refl
result_same None (Some b) d h = absurd (true≢false (sym h))
result_same (Some a) None d h = absurd (true≢false (sym h))
result_same (Some a) (Some b) None h = refl
result_same (Some a) (Some b) (Some d) h = ap (λ n. bytes_eq n d.name) ((bytes_eq-Decides a.name b.name).0 h)

result_back : (a b : Option Identifier) → same_result a b ≡ same_result b a
result_back None None = refl
result_back None (Some b) = refl
result_back (Some a) None = refl
result_back (Some a) (Some b) = either_way a.name b.name

kind_both : (a b d : Bool) → same_kind a b ≡ true → same_kind a d ≡ same_kind d b
kind_both true true true h = refl
kind_both true true false h = refl
kind_both true false d h = absurd (true≢false (sym h))
kind_both false true d h = absurd (true≢false (sym h))
kind_both false false true h = refl
kind_both false false false h = refl

-- what is like one of two that are alike is like the other
like_both : (a b d : ProfileTree) → are_alike a b ≡ true → are_alike a d ≡ are_alike d b
like_both a b d h =
    let kinds = same_kind a.is_entry b.is_entry in
    let formals = same_formals a.formals b.formals in
    let results = same_result a.result b.result in
    let rest = and_second kinds (formals && results) h in
    let kind_ = kind_both a.is_entry b.is_entry d.is_entry (and_first kinds (formals && results) h) in
    let first = formals_same a.formals b.formals d.formals (and_first formals results rest) ∙ formals_back b.formals d.formals in
    let second = result_same a.result b.result d.result (and_second formals results rest) ∙ result_back b.result d.result in
    λ j. kind_ j && (first j && second j)

-- one more declaration: one is unlike p where one was before, or this one is
pub unlike_again : (alike : Bool) (first more p : ProfileTree)
    → not ((alike && are_alike first more) && are_alike first p) ≡ (not (alike && are_alike first p) || not (are_alike more p))
unlike_again false first more p = refl
unlike_again true first more p = by (are_alike first p) refl
  where
    by : (b : Bool) → are_alike first p ≡ b → not (are_alike first more && b) ≡ (not b || not (are_alike more p))
    by true e = ap not (and-true (are_alike first more) ∙ like_both first p more e)
    by false e = ap not (and-false (are_alike first more))

-- ---- declarations

pub declared_more : (old new : List (Key × Declared)) (key : Key) (own : Declared) (profile : ProfileTree)
    → ((k : Key) → declared_at new k ≡ cond (is_same_key key k) (Some own) (declared_at old k))
    → ((p : ProfileTree) → is_unlike (Some own) p ≡ (is_unlike (declared_at old key) p || not (are_alike profile p)))
    → Declares old new (λ k p. is_same_key key k && not (are_alike profile p))
declared_more old new key own profile put again k p = ap (λ o. is_unlike o p) (put k) ∙ by (is_same_key key k) refl
  where
    by : (b : Bool) → is_same_key key k ≡ b
        → is_unlike (cond b (Some own) (declared_at old k)) p ≡ (is_unlike (declared_at old k) p || (b && not (are_alike profile p)))
    by true e = again p ∙ ap (λ o. is_unlike o p || not (are_alike profile p)) (same_found old key k e)
    by false e = sym (or-false (is_unlike (declared_at old k) p))

pub declares_as : (old new : List (Key × Declared)) (s t : Key → ProfileTree → Bool)
    → ((k : Key) (p : ProfileTree) → s k p ≡ t k p) → Declares old new s → Declares old new t
declares_as old new s t same declares k p = declares k p ∙ ap (λ b. is_unlike (declared_at old k) p || b) (same k p)

pub declares_both : (old between new : List (Key × Declared)) (s t : Key → ProfileTree → Bool)
    → Declares old between s → Declares between new t → Declares old new (λ k p. s k p || t k p)
declares_both old between new s t first second k p =
    second k p ∙ ap (λ b. b || t k p) (first k p) ∙ or_assoc (is_unlike (declared_at old k) p) (s k p) (t k p)

-- the next of some things that are declared in turn
pub declares_next : {A X : Type 0} (tree : A → X) (test : Key → ProfileTree → X → Bool) (all : List A) (n : ℕ) (x : A) (old between new : List (Key × Declared))
    → n < length all
    → x ≡ get_or all n x
    → Declares old between (λ k p. list_any (test k p) (map tree (take n all)))
    → Declares between new (λ k p. test k p (tree x))
    → Declares old new (λ k p. list_any (test k p) (map tree (take (n + 1) all)))
declares_next tree test all n x old between new less at first second =
    declares_as old new (λ k p. list_any (test k p) (map tree (take n all)) || test k p (tree x)) (λ k p. list_any (test k p) (map tree (take (n + 1) all)))
    (λ k p. sym (any_next tree all n x less at (test k p)))
    (declares_both old between new (λ k p. list_any (test k p) (map tree (take n all))) (λ k p. test k p (tree x)) first second)

-- ---- what is asked

any_as : (s t : ItemTree → Bool) → ((d : ItemTree) → s d ≡ t d) → (specified : List ItemTree) (before : List BodyItemTree)
    → any_declared s specified before ≡ any_declared t specified before
any_as s t same specified before = λ j. same_any s t same specified j || same_any (passes_declared s) (passes_declared t) passes before j
  where
    passes : (i : BodyItemTree) → passes_declared s i ≡ passes_declared t i
    passes (OfItem d) = same d
    passes (SubprogramBody d b) = refl
    passes (TaskBody name b) = refl
    passes (ProtectedBody name items e) = refl

pub unlike_found : (k : Key) (body : SubprogramTree) → IsKeyOf k kind.Subprogram body.name.name body.name.name
    → (specified : List ItemTree) (before : List BodyItemTree)
    → any_declared (declares_unlike k (subprogram_profile body)) specified before ≡ any_declared (is_unlike_subprogram body) specified before
unlike_found k body is = any_as (declares_unlike k (subprogram_profile body)) (is_unlike_subprogram body) each
  where
    at : (own : Kind) (object name : List ℕ) → is_key k own object name ≡ (sameb the_type own kind.Subprogram && (bytes_eq object body.name.name && bytes_eq name body.name.name))
    at = key_at k kind.Subprogram body.name.name body.name.name is

    none : (object : Identifier) (o : OperationTree) → declares_unlike_operation k (subprogram_profile body) object o ≡ false
    none object (OfSubprogram o aspect) = ap (λ b. b && not (are_alike (subprogram_profile o) (subprogram_profile body))) (at kind.Operation object.name o.name.name)
    none object (OfEntry o) = ap (λ b. b && not (are_alike (entry_profile o) (subprogram_profile body))) (at kind.Operation object.name o.name.name)

    each : (d : ItemTree) → declares_unlike k (subprogram_profile body) d ≡ is_unlike_subprogram body d
    each (OfDeclared d) = ap (λ b. b && not (conforms d body)) (at kind.Subprogram d.name.name d.name.name ∙ and_self (bytes_eq d.name.name body.name.name))
    each (OfProtected d) = none_any (declares_unlike_operation k (subprogram_profile body) d.name) (none d.name) d.operations
    each (OfType d) = refl
    each (OfObject d) = refl
    each (OfException d) = refl
    each (OfTask d) = refl

module _ (k : Key) (object : Identifier) (i : ProtectedItemTree) (is : IsKeyOf k kind.Operation object.name (operation_name i).name) where
  at : (own : Kind) (o n : List ℕ) → is_key k own o n ≡ (sameb the_type own kind.Operation && (bytes_eq o object.name && bytes_eq n (operation_name i).name))
  at = key_at k kind.Operation object.name (operation_name i).name is

pub operation_unlike : (k : Key) (object own : Identifier) (i : ProtectedItemTree) → IsKeyOf k kind.Operation object.name (operation_name i).name
    → (o : OperationTree) → declares_unlike_operation k (body_profile i) own o ≡ (same_name own object && is_unlike_operation i o)
operation_unlike k object own (OperationBody d b) is (OfSubprogram o aspect) =
    ap (λ c. c && not (conforms o d)) (at k object (OperationBody d b) is kind.Operation own.name o.name.name) ∙ and_assoc (same_name own object) (same_name o.name d.name) (not (conforms o d))
operation_unlike k object own (OperationBody d b) is (OfEntry o) =
    and-true (is_key k kind.Operation own.name o.name.name) ∙ at k object (OperationBody d b) is kind.Operation own.name o.name.name
operation_unlike k object own (EntryBody d barrier b) is (OfSubprogram o aspect) =
    and-true (is_key k kind.Operation own.name o.name.name) ∙ at k object (EntryBody d barrier b) is kind.Operation own.name o.name.name
operation_unlike k object own (EntryBody d barrier b) is (OfEntry o) =
    (λ j. at k object (EntryBody d barrier b) is kind.Operation own.name o.name.name j && not (and-true (same_formals o.formals d.formals) j))
    ∙ and_assoc (same_name own object) (same_name o.name d.name) (not (same_formals o.formals d.formals))

pub operations_unlike : (k : Key) (object : Identifier) (i : ProtectedItemTree) → IsKeyOf k kind.Operation object.name (operation_name i).name
    → (specified : List ItemTree) (before : List BodyItemTree)
    → any_declared (declares_unlike k (body_profile i)) specified before ≡ any_declared (has_unlike_operation object i) specified before
operations_unlike k object i is = any_as (declares_unlike k (body_profile i)) (has_unlike_operation object i) each
  where
    each : (d : ItemTree) → declares_unlike k (body_profile i) d ≡ has_unlike_operation object i d
    each (OfDeclared d) =
        ap (λ b. b && not (are_alike (subprogram_profile d) (body_profile i))) (at k object i is kind.Subprogram d.name.name d.name.name)
    each (OfProtected d) =
        same_any (declares_unlike_operation k (body_profile i) d.name) (λ o. same_name d.name object && is_unlike_operation i o) (operation_unlike k object d.name i is) d.operations
        ∙ and_any (same_name d.name object) (is_unlike_operation i) d.operations
    each (OfType d) = refl
    each (OfObject d) = refl
    each (OfException d) = refl
    each (OfTask d) = refl

-- ---- one more item in front

pub declared_next : {A : Type 0} (tree : A → BodyItemTree) (specified : List ItemTree) (all : List A) (n : ℕ) (x : A) (old new : List (Key × Declared))
    → n < length all
    → x ≡ get_or all n x
    → ((k : Key) (p : ProfileTree) → is_unlike (declared_at old k) p ≡ any_declared (declares_unlike k p) specified (map tree (take n all)))
    → Declares old new (λ k p. passes_declared (declares_unlike k p) (tree x))
    → (k : Key) (p : ProfileTree) → is_unlike (declared_at new k) p ≡ any_declared (declares_unlike k p) specified (map tree (take (n + 1) all))
declared_next tree specified all n x old new less at are declares k p =
    let test = passes_declared (declares_unlike k p) in
    let there = list_any (declares_unlike k p) specified in
    declares k p
    ∙ ap (λ b. b || test (tree x)) (are k p)
    ∙ or_assoc there (list_any test (map tree (take n all))) (test (tree x))
    ∙ ap (λ b. there || b) (sym (any_next tree all n x less at test))
