-- The bodies of subprograms and entries as one list, which of them a look-up among procedures, entries and functions finds, and where it stands in the text.
use Rattle.std.proofs.Common.{◌≡◌, ℕ, zero, suc, List, [], ◌∷◌, ◌++◌, map, Bool, true, false, cond, ◌&&◌, ◌⊎◌, inl, inr, Option, Some, None, refl, sym, ap, ◌∙◌, subst}
use Rattle.std.specs.Prelude.{bytes_eq, is_some, slice_get}
use Rattle.expr_soundness.specs.ada_tree.specs.declared.expression.Identifier.{Identifier}
use Rattle.expr_soundness.specs.ada_tree.specs.declared.declaration.Formal.{Formal}
use Rattle.expr_soundness.specs.ada_tree.specs.ExpressionTree.{ExprTree}
use Rattle.expr_soundness.specs.ada_tree.specs.StatementTree.{SubprogramTree}
use Rattle.expr_soundness.specs.ada_tree.specs.ProgramTree.{BodyTree, BodyItemTree, OfItem, SubprogramBody, TaskBody, ProtectedBody, ProtectedItemTree, OperationBody, EntryBody}
use Rattle.types.specs.Scopes.{Scope}
use Rattle.types.specs.Places.{Function, function_of, is_of, or_else}
use Rattle.expr_soundness.specs.meaning.specs.Programs.{Procedure, formal, function_with, functions_among, object_numbered, operation_functions, operation_procedures, parameter, procedure_of, procedures_among, returned, subtype_named}
use Rattle.expr_soundness.specs.meaning.specs.Programs as meaning
use Rattle.expr_soundness.specs.meaning.specs.Calls.{procedure_among}
use Rattle.step_soundness.specs.Fitting.{entry_of}
use Rattle.program_soundness.proofs.Listing.{Has, has_back, has_either, has_front, or_else_some, same_some}
use Rattle.program_soundness.proofs.WiderScopes.{equal_bytes, same_bytes}

-- ---- the first that a look-up finds

abbrev pub first_of : {A B : Type 0} → (A → Option B) → List A → Option B
first_of f [] = None
first_of f (x ∷ xs) = or_else (f x) (first_of f xs)

pub first_found : {A B : Type 0} (f : A → Option B) (xs : List A) (y : B) → first_of f xs ≡ Some y
    → (k : ℕ) × (x : A) × (slice_get xs k ≡ Some x) × (f x ≡ Some y)
first_found f [] y h = cc
first_found {A} {B} f (x ∷ xs) y h = by_case (or_else_some (f x) (first_of f xs) y h) (λ k. first_found f xs y k)
  where
    by_case : (f x ≡ Some y) ⊎ ((f x ≡ None) × (first_of f xs ≡ Some y))
        → (first_of f xs ≡ Some y → (k : ℕ) × (z : A) × (slice_get xs k ≡ Some z) × (f z ≡ Some y))
        → (k : ℕ) × (z : A) × (slice_get (x ∷ xs) k ≡ Some z) × (f z ≡ Some y)
    by_case (inl i) later = (0, x, refl, i)
    by_case (inr i) later = let n = later i.1 in (suc n.0, n.1, n.2, n.3)

pub first_any : {A B : Type 0} (f : A → Option B) (xs : List A) (k : ℕ) (x : A) (y : B) → slice_get xs k ≡ Some x → f x ≡ Some y
    → (z : B) × (first_of f xs ≡ Some z)
first_any f [] k x y at h = cc
first_any f (w ∷ ws) zero x y at h = (y, ap (λ o. or_else o (first_of f ws)) (ap f (same_some w x at) ∙ h))
first_any {A} {B} f (w ∷ ws) (suc k) x y at h = by_first (f w) (first_any f ws k x y at h)
  where
    by_first : (o : Option B) → (z : B) × (first_of f ws ≡ Some z) → (z : B) × (or_else o (first_of f ws) ≡ Some z)
    by_first (Some z) later = (z, refl)
    by_first None later = later

pub at_has : {X : Type 0} (xs : List X) (k : ℕ) (x : X) → slice_get xs k ≡ Some x → Has xs x
at_has [] k x h = cc
at_has (y ∷ ys) zero x h = inl (same_some y x h)
at_has (y ∷ ys) (suc k) x h = inr (at_has ys k x h)

pub has_at : {X : Type 0} (xs : List X) (x : X) → Has xs x → (k : ℕ) × (slice_get xs k ≡ Some x)
has_at [] x h = absurd h
has_at (y ∷ ys) x (inl e) = (0, ap Some e)
has_at (y ∷ ys) x (inr h) = let n = has_at ys x h in (suc n.0, n.1)

pub map_at : {X Y : Type 0} (f : X → Y) (xs : List X) (k : ℕ) (y : Y) → slice_get (map f xs) k ≡ Some y → (x : X) × (slice_get xs k ≡ Some x) × (f x ≡ y)
map_at f [] k y h = cc
map_at f (x ∷ xs) zero y h = (x, refl, same_some (f x) y h)
map_at f (x ∷ xs) (suc k) y h = map_at f xs k y h

pub at_map : {X Y : Type 0} (f : X → Y) (xs : List X) (k : ℕ) (x : X) → slice_get xs k ≡ Some x → slice_get (map f xs) k ≡ Some (f x)
at_map f [] k x h = cc
at_map f (y ∷ ys) zero x h = ap Some (ap f (same_some y x h))
at_map f (y ∷ ys) (suc k) x h = at_map f ys k x h

-- ---- what has a body

pub record Bodied : Type 0 where
  -- the number of the protected object, if it is an operation of one
  pub owner : Option ℕ
  pub name : List ℕ
  pub formals : List Formal
  pub result : Option Identifier
  pub barrier : Option ExprTree
  pub body : BodyTree

abbrev pub subprogram_body : Option ℕ → SubprogramTree → BodyTree → Bodied
subprogram_body owner d b = record { owner = owner; name = d.name.name; formals = d.formals; result = d.result; barrier = None; body = b }

abbrev pub operation_body : Option ℕ → ProtectedItemTree → Bodied
operation_body owner (OperationBody d b) = subprogram_body owner d b
operation_body owner (EntryBody d barrier b) =
    record { owner = owner; name = d.name.name; formals = d.formals; result = None; barrier = Some barrier; body = b }

abbrev pub bodies_among : Scope → List BodyItemTree → List Bodied
bodies_among s [] = []
bodies_among s (OfItem d ∷ rest) = bodies_among s rest
bodies_among s (SubprogramBody d b ∷ rest) = subprogram_body None d b ∷ bodies_among s rest
bodies_among s (TaskBody name b ∷ rest) = bodies_among s rest
bodies_among s (ProtectedBody name items end_name ∷ rest) = map (operation_body (object_numbered s name)) items ++ bodies_among s rest

-- ---- procedures and entries

abbrev pub procedure_by : Scope → Bodied → Procedure
procedure_by s u = record { object = u.owner; name = u.name; parameters = map (parameter s) u.formals; barrier = u.barrier; body = u.body }

abbrev pub procedures_by : Scope → Bodied → List Procedure
procedures_by s u = elim u.result [ Some result ↦ [] | None ↦ procedure_by s u ∷ [] ]

abbrev pub all_procedures : Scope → List Bodied → List Procedure
all_procedures s [] = []
all_procedures s (u ∷ us) = procedures_by s u ++ all_procedures s us

append_three : {X : Type 0} (xs ys zs : List X) → (xs ++ ys) ++ zs ≡ xs ++ (ys ++ zs)
append_three [] ys zs = refl
append_three (x ∷ xs) ys zs = ap (λ l. x ∷ l) (append_three xs ys zs)

procedures_both : (s : Scope) (us vs : List Bodied) → all_procedures s (us ++ vs) ≡ all_procedures s us ++ all_procedures s vs
procedures_both s [] vs = refl
procedures_both s (u ∷ us) vs =
    ap (λ l. procedures_by s u ++ l) (procedures_both s us vs) ∙ sym (append_three (procedures_by s u) (all_procedures s us) (all_procedures s vs))

operations_are : (s : Scope) (owner : Option ℕ) (items : List ProtectedItemTree)
    → operation_procedures s owner items ≡ all_procedures s (map (operation_body owner) items)
operations_are s owner [] = refl
operations_are s owner (OperationBody d b ∷ rest) = ap (λ l. procedure_of s owner d b ++ l) (operations_are s owner rest)
operations_are s owner (EntryBody d barrier b ∷ rest) =
    ap (λ l. procedure_by s (operation_body owner (EntryBody d barrier b)) ∷ l) (operations_are s owner rest)

pub procedures_are : (s : Scope) (all : List BodyItemTree) → procedures_among s all ≡ all_procedures s (bodies_among s all)
procedures_are s [] = refl
procedures_are s (OfItem d ∷ rest) = procedures_are s rest
procedures_are s (SubprogramBody d b ∷ rest) = ap (λ l. procedure_of s None d b ++ l) (procedures_are s rest)
procedures_are s (TaskBody name b ∷ rest) = procedures_are s rest
procedures_are s (ProtectedBody name items end_name ∷ rest) =
    (λ j. operations_are s (object_numbered s name) items j ++ procedures_are s rest j)
    ∙ sym (procedures_both s (map (operation_body (object_numbered s name)) items) (bodies_among s rest))

among_both : (xs ys : List Procedure) (owner : Option ℕ) (name : List ℕ)
    → procedure_among (xs ++ ys) owner name ≡ or_else (procedure_among xs owner name) (procedure_among ys owner name)
among_both [] ys owner name = refl
among_both (x ∷ xs) ys owner name = by_test (is_of x.object owner && bytes_eq x.name name) (among_both xs ys owner name)
  where
    by_test : (b : Bool) → procedure_among (xs ++ ys) owner name ≡ or_else (procedure_among xs owner name) (procedure_among ys owner name)
        → cond b (Some x) (procedure_among (xs ++ ys) owner name) ≡ or_else (cond b (Some x) (procedure_among xs owner name)) (procedure_among ys owner name)
    by_test true later = refl
    by_test false later = later

pub entry_both : (xs ys : List Procedure) (o : ℕ) → entry_of (xs ++ ys) o ≡ or_else (entry_of xs o) (entry_of ys o)
entry_both [] ys o = refl
entry_both (x ∷ xs) ys o = by_test (is_of x.object (Some o) && is_some x.barrier) (entry_both xs ys o)
  where
    by_test : (b : Bool) → entry_of (xs ++ ys) o ≡ or_else (entry_of xs o) (entry_of ys o)
        → cond b (Some x) (entry_of (xs ++ ys) o) ≡ or_else (cond b (Some x) (entry_of xs o)) (entry_of ys o)
    by_test true later = refl
    by_test false later = later

among_first : (s : Scope) (us : List Bodied) (owner : Option ℕ) (name : List ℕ)
    → procedure_among (all_procedures s us) owner name ≡ first_of (λ u. procedure_among (procedures_by s u) owner name) us
among_first s [] owner name = refl
among_first s (u ∷ us) owner name =
    among_both (procedures_by s u) (all_procedures s us) owner name
    ∙ ap (or_else (procedure_among (procedures_by s u) owner name)) (among_first s us owner name)

entry_first : (s : Scope) (us : List Bodied) (o : ℕ) → entry_of (all_procedures s us) o ≡ first_of (λ u. entry_of (procedures_by s u) o) us
entry_first s [] o = refl
entry_first s (u ∷ us) o = entry_both (procedures_by s u) (all_procedures s us) o ∙ ap (or_else (entry_of (procedures_by s u) o)) (entry_first s us o)

-- what is found is one of the bodies
pub record FoundProcedure (s : Scope) (us : List Bodied) (owner : Option ℕ) (name : List ℕ) (q : Procedure) : Type 0 where
  pub unit_ : Bodied
  pub has : Has us unit_
  pub none : unit_.result ≡ None
  pub is : q ≡ procedure_by s unit_
  pub owned : is_of unit_.owner owner ≡ true
  pub named : unit_.name ≡ name

both_true : (a b : Bool) → (a && b) ≡ true → (a ≡ true) × (b ≡ true)
both_true true b h = (refl, h)
both_true false b h = cc

if_some : {X : Type 0} (b : Bool) (x y : X) → cond b (Some x) None ≡ Some y → (b ≡ true) × (x ≡ y)
if_some true x y h = (refl, same_some x y h)
if_some false x y h = cc

pub found_procedure : (s : Scope) (us : List Bodied) (owner : Option ℕ) (name : List ℕ) (q : Procedure)
    → procedure_among (all_procedures s us) owner name ≡ Some q
    → FoundProcedure s us owner name q
found_procedure s us owner name q h =
    let first = first_found (λ u. procedure_among (procedures_by s u) owner name) us q (sym (among_first s us owner name) ∙ h) in
    by_result first.1 (at_has us first.0 first.1 first.2) first.1.result refl first.3
  where
    by_result : (u : Bodied) → Has us u → (o : Option Identifier) → u.result ≡ o
        → procedure_among (elim o [ Some result ↦ [] | None ↦ procedure_by s u ∷ [] ]) owner name ≡ Some q → FoundProcedure s us owner name q
    by_result u has (Some result) e k = cc
    by_result u has None e k =
        let one = if_some (is_of u.owner owner && bytes_eq u.name name) (procedure_by s u) q k in
        let two = both_true (is_of u.owner owner) (bytes_eq u.name name) one.0 in
        record { unit_ = u; has = has; none = e; is = sym one.1; owned = two.0; named = same_bytes u.name name two.1 }

pub any_procedure : (s : Scope) (us : List Bodied) (u : Bodied) (owner : Option ℕ) → Has us u → u.result ≡ None → is_of u.owner owner ≡ true
    → (q : Procedure) × (procedure_among (all_procedures s us) owner u.name ≡ Some q)
any_procedure s us u owner has none owned =
    let at = has_at us u has in
    let f : Bodied → Option Procedure = λ v. procedure_among (procedures_by s v) owner u.name in
    let here : f u ≡ Some (procedure_by s u) =
    ap (λ o. procedure_among (elim o [ Some result ↦ [] | None ↦ procedure_by s u ∷ [] ]) owner u.name) none
    ∙ (λ j. cond (owned j && equal_bytes u.name u.name refl j) (Some (procedure_by s u)) None) in
    let any = first_any f us at.0 u (procedure_by s u) at.1 here in
    (any.0, among_first s us owner u.name ∙ any.1)

pub record FoundEntry (s : Scope) (us : List Bodied) (o : ℕ) (q : Procedure) : Type 0 where
  pub unit_ : Bodied
  pub has : Has us unit_
  pub none : unit_.result ≡ None
  pub is : q ≡ procedure_by s unit_
  pub owned : is_of unit_.owner (Some o) ≡ true
  pub barred : is_some unit_.barrier ≡ true

pub found_entry : (s : Scope) (us : List Bodied) (n : ℕ) (q : Procedure) → entry_of (all_procedures s us) n ≡ Some q → FoundEntry s us n q
found_entry s us n q h =
    let first = first_found (λ u. entry_of (procedures_by s u) n) us q (sym (entry_first s us n) ∙ h) in
    by_result first.1 (at_has us first.0 first.1 first.2) first.1.result refl first.3
  where
    by_result : (u : Bodied) → Has us u → (o : Option Identifier) → u.result ≡ o
        → entry_of (elim o [ Some result ↦ [] | None ↦ procedure_by s u ∷ [] ]) n ≡ Some q → FoundEntry s us n q
    by_result u has (Some result) e k = cc
    by_result u has None e k =
        let one = if_some (is_of u.owner (Some n) && is_some u.barrier) (procedure_by s u) q k in
        let two = both_true (is_of u.owner (Some n)) (is_some u.barrier) one.0 in
        record { unit_ = u; has = has; none = e; is = sym one.1; owned = two.0; barred = two.1 }

pub any_entry : (s : Scope) (us : List Bodied) (u : Bodied) (n : ℕ) → Has us u → u.result ≡ None → is_of u.owner (Some n) ≡ true → is_some u.barrier ≡ true
    → (q : Procedure) × (entry_of (all_procedures s us) n ≡ Some q)
any_entry s us u n has none owned barred =
    let at = has_at us u has in
    let f : Bodied → Option Procedure = λ v. entry_of (procedures_by s v) n in
    let here : f u ≡ Some (procedure_by s u) =
    ap (λ o. entry_of (elim o [ Some result ↦ [] | None ↦ procedure_by s u ∷ [] ]) n) none
    ∙ (λ j. cond (owned j && barred j) (Some (procedure_by s u)) None) in
    let any = first_any f us at.0 u (procedure_by s u) at.1 here in
    (any.0, entry_first s us n ∙ any.1)

-- ---- functions

abbrev pub function_by : Scope → Bodied → Identifier → ExprTree → Function
function_by s u result e =
    record { object = u.owner; name = u.name; formals = map (formal s) u.formals; result = subtype_named s result; value = e }

abbrev pub returning : Scope → Bodied → Identifier → Option ExprTree → List Function
returning s u result (Some e) = function_by s u result e ∷ []
returning s u result None = []

abbrev pub functions_by : Scope → Bodied → List Function
functions_by s u = elim u.result [ Some result ↦ returning s u result (returned u.body.statements) | None ↦ [] ]

abbrev pub all_functions : Scope → List Bodied → List Function
all_functions s [] = []
all_functions s (u ∷ us) = functions_by s u ++ all_functions s us

functions_both : (s : Scope) (us vs : List Bodied) → all_functions s (us ++ vs) ≡ all_functions s us ++ all_functions s vs
functions_both s [] vs = refl
functions_both s (u ∷ us) vs =
    ap (λ l. functions_by s u ++ l) (functions_both s us vs) ∙ sym (append_three (functions_by s u) (all_functions s us) (all_functions s vs))

one_function : (s : Scope) (owner : Option ℕ) (d : SubprogramTree) (b : BodyTree) → meaning.function_of s owner d b ≡ functions_by s (subprogram_body owner d b)
one_function s owner d b = by_result d.result
  where
    by_value : (result : Identifier) (e : Option ExprTree) → function_with s owner d result e ≡ returning s (subprogram_body owner d b) result e
    by_value result (Some e) = refl
    by_value result None = refl

    by_result : (o : Option Identifier)
        → ◌≡◌ {A = List Function} (elim o [ Some result ↦ function_with s owner d result (returned b.statements) | None ↦ [] ])
        (elim o [ Some result ↦ returning s (subprogram_body owner d b) result (returned b.statements) | None ↦ [] ])
    by_result (Some result) = by_value result (returned b.statements)
    by_result None = refl

operation_functions_are : (s : Scope) (owner : Option ℕ) (items : List ProtectedItemTree)
    → operation_functions s owner items ≡ all_functions s (map (operation_body owner) items)
operation_functions_are s owner [] = refl
operation_functions_are s owner (OperationBody d b ∷ rest) = λ j. one_function s owner d b j ++ operation_functions_are s owner rest j
operation_functions_are s owner (EntryBody d barrier b ∷ rest) = operation_functions_are s owner rest

pub functions_are : (s : Scope) (all : List BodyItemTree) → functions_among s all ≡ all_functions s (bodies_among s all)
functions_are s [] = refl
functions_are s (OfItem d ∷ rest) = functions_are s rest
functions_are s (SubprogramBody d b ∷ rest) = λ j. one_function s None d b j ++ functions_are s rest j
functions_are s (TaskBody name b ∷ rest) = functions_are s rest
functions_are s (ProtectedBody name items end_name ∷ rest) =
    (λ j. operation_functions_are s (object_numbered s name) items j ++ functions_are s rest j)
    ∙ sym (functions_both s (map (operation_body (object_numbered s name)) items) (bodies_among s rest))

of_both : (xs ys : List Function) (owner : Option ℕ) (name : List ℕ)
    → function_of (xs ++ ys) owner name ≡ or_else (function_of xs owner name) (function_of ys owner name)
of_both [] ys owner name = refl
of_both (x ∷ xs) ys owner name = by_test (is_of x.object owner) (bytes_eq x.name name) (of_both xs ys owner name)
  where
    by_test : (a b : Bool) → function_of (xs ++ ys) owner name ≡ or_else (function_of xs owner name) (function_of ys owner name)
        → cond a (cond b (Some x) (function_of (xs ++ ys) owner name)) (function_of (xs ++ ys) owner name)
        ≡ or_else (cond a (cond b (Some x) (function_of xs owner name)) (function_of xs owner name)) (function_of ys owner name)
    by_test true true later = refl
    by_test true false later = later
    by_test false b later = later

of_first : (s : Scope) (us : List Bodied) (owner : Option ℕ) (name : List ℕ)
    → function_of (all_functions s us) owner name ≡ first_of (λ u. function_of (functions_by s u) owner name) us
of_first s [] owner name = refl
of_first s (u ∷ us) owner name =
    of_both (functions_by s u) (all_functions s us) owner name ∙ ap (or_else (function_of (functions_by s u) owner name)) (of_first s us owner name)

pub record FoundFunction (s : Scope) (us : List Bodied) (owner : Option ℕ) (name : List ℕ) (f : Function) : Type 0 where
  pub unit_ : Bodied
  pub has : Has us unit_
  pub result : Identifier
  pub some : unit_.result ≡ Some result
  pub value : ExprTree
  pub returns : returned unit_.body.statements ≡ Some value
  pub is : f ≡ function_by s unit_ result value
  pub owned : is_of unit_.owner owner ≡ true
  pub named : unit_.name ≡ name

pub found_function : (s : Scope) (us : List Bodied) (owner : Option ℕ) (name : List ℕ) (f : Function) → function_of (all_functions s us) owner name ≡ Some f
    → FoundFunction s us owner name f
found_function s us owner name f h =
    let first = first_found (λ u. function_of (functions_by s u) owner name) us f (sym (of_first s us owner name) ∙ h) in
    by_result first.1 (at_has us first.0 first.1 first.2) first.1.result refl first.3
  where
    two_tests : (a b : Bool) (x : Function) → cond a (cond b (Some x) None) None ≡ Some f → (a ≡ true) × (b ≡ true) × (x ≡ f)
    two_tests true true x k = (refl, refl, same_some x f k)
    two_tests true false x k = cc
    two_tests false b x k = cc

    by_value : (u : Bodied) → Has us u → (result : Identifier) → u.result ≡ Some result → (o : Option ExprTree) → returned u.body.statements ≡ o
        → function_of (returning s u result o) owner name ≡ Some f → FoundFunction s us owner name f
    by_value u has result e None i k = cc
    by_value u has result e (Some value) i k =
        let two = two_tests (is_of u.owner owner) (bytes_eq u.name name) (function_by s u result value) k in
        record { unit_ = u; has = has; result = result; some = e; value = value; returns = i; is = sym two.2; owned = two.0; named = same_bytes u.name name two.1 }

    by_result : (u : Bodied) → Has us u → (o : Option Identifier) → u.result ≡ o
        → function_of (elim o [ Some result ↦ returning s u result (returned u.body.statements) | None ↦ [] ]) owner name ≡ Some f
        → FoundFunction s us owner name f
    by_result u has (Some result) e k = by_value u has result e (returned u.body.statements) refl k
    by_result u has None e k = cc

pub any_function : (s : Scope) (us : List Bodied) (u : Bodied) (owner : Option ℕ) (result : Identifier) (value : ExprTree) → Has us u → u.result ≡ Some result
    → returned u.body.statements ≡ Some value
    → is_of u.owner owner ≡ true
    → (f : Function) × (function_of (all_functions s us) owner u.name ≡ Some f)
any_function s us u owner result value has some returns owned =
    let at = has_at us u has in
    let f : Bodied → Option Function = λ v. function_of (functions_by s v) owner u.name in
    let here : f u ≡ Some (function_by s u result value) =
    ap (λ o. function_of (elim o [ Some r ↦ returning s u r (returned u.body.statements) | None ↦ [] ]) owner u.name) some
    ∙ ap (λ o. function_of (returning s u result o) owner u.name) returns
    ∙ (λ j. cond (owned j) (cond (equal_bytes u.name u.name refl j) (Some (function_by s u result value)) None) None) in
    let any = first_any f us at.0 u (function_by s u result value) at.1 here in
    (any.0, of_first s us owner u.name ∙ any.1)

-- ---- where it stands

pub record InPackage (all : List BodyItemTree) (u : Bodied) : Type 0 where
  pub place : ℕ
  pub subprogram : SubprogramTree
  pub body : BodyTree
  pub at : slice_get all place ≡ Some (SubprogramBody subprogram body)
  pub is : u ≡ subprogram_body None subprogram body

pub record InObject (s : Scope) (all : List BodyItemTree) (u : Bodied) : Type 0 where
  pub place : ℕ
  pub name : Identifier
  pub items : List ProtectedItemTree
  pub end_name : Identifier
  pub at : slice_get all place ≡ Some (ProtectedBody name items end_name)
  pub index : ℕ
  pub item : ProtectedItemTree
  pub there : slice_get items index ≡ Some item
  pub is : u ≡ operation_body (object_numbered s name) item

further : (s : Scope) (i : BodyItemTree) (rest : List BodyItemTree) (u : Bodied) → InPackage rest u ⊎ InObject s rest u
    → InPackage (i ∷ rest) u ⊎ InObject s (i ∷ rest) u
further s i rest u (inl p) = inl (record { place = suc p.place; subprogram = p.subprogram; body = p.body; at = p.at; is = p.is })
further s i rest u (inr p) =
    inr (record {
      place = suc p.place;
      name = p.name;
      items = p.items;
      end_name = p.end_name;
      at = p.at;
      index = p.index;
      item = p.item;
      there = p.there;
      is = p.is;
    })

pub body_place : (s : Scope) (all : List BodyItemTree) (u : Bodied) → Has (bodies_among s all) u → InPackage all u ⊎ InObject s all u
body_place s [] u h = absurd h
body_place s (OfItem d ∷ rest) u h = further s (OfItem d) rest u (body_place s rest u h)
body_place s (SubprogramBody d b ∷ rest) u (inl e) = inl (record { place = 0; subprogram = d; body = b; at = refl; is = sym e })
body_place s (SubprogramBody d b ∷ rest) u (inr h) = further s (SubprogramBody d b) rest u (body_place s rest u h)
body_place s (TaskBody name b ∷ rest) u h = further s (TaskBody name b) rest u (body_place s rest u h)
body_place s (ProtectedBody name items end_name ∷ rest) u h =
    by_case (has_either (map (operation_body (object_numbered s name)) items) (bodies_among s rest) u h) (λ k. body_place s rest u k)
  where
    by_case : Has (map (operation_body (object_numbered s name)) items) u ⊎ Has (bodies_among s rest) u
        → (Has (bodies_among s rest) u → InPackage rest u ⊎ InObject s rest u)
        → InPackage (ProtectedBody name items end_name ∷ rest) u ⊎ InObject s (ProtectedBody name items end_name ∷ rest) u
    by_case (inl k) later =
        let n = has_at (map (operation_body (object_numbered s name)) items) u k in
        let x = map_at (operation_body (object_numbered s name)) items n.0 u n.1 in
        inr (record { place = 0; name = name; items = items; end_name = end_name; at = refl; index = n.0; item = x.0; there = x.1; is = sym x.2 })
    by_case (inr k) later = further s (ProtectedBody name items end_name) rest u (later k)

pub subprogram_has : (s : Scope) (all : List BodyItemTree) (k : ℕ) (d : SubprogramTree) (b : BodyTree) → slice_get all k ≡ Some (SubprogramBody d b)
    → Has (bodies_among s all) (subprogram_body None d b)
subprogram_has s [] k d b h = cc
subprogram_has s (x ∷ rest) zero d b h =
    subst (λ y. Has (bodies_among s (y ∷ rest)) (subprogram_body None d b)) (sym (same_some x (SubprogramBody d b) h)) (inl refl)
subprogram_has s (OfItem i ∷ rest) (suc k) d b h = subprogram_has s rest k d b h
subprogram_has s (SubprogramBody e c ∷ rest) (suc k) d b h = inr (subprogram_has s rest k d b h)
subprogram_has s (TaskBody name c ∷ rest) (suc k) d b h = subprogram_has s rest k d b h
subprogram_has s (ProtectedBody name items end_name ∷ rest) (suc k) d b h =
    has_back (map (operation_body (object_numbered s name)) items) (bodies_among s rest) (subprogram_body None d b) (subprogram_has s rest k d b h)

pub operation_has : (s : Scope) (all : List BodyItemTree) (k : ℕ) (name : Identifier) (items : List ProtectedItemTree) (end_name : Identifier) (j : ℕ) (i : ProtectedItemTree)
    → slice_get all k ≡ Some (ProtectedBody name items end_name) → slice_get items j ≡ Some i
    → Has (bodies_among s all) (operation_body (object_numbered s name) i)
operation_has s [] k name items end_name j i h there = cc
operation_has s (x ∷ rest) zero name items end_name j i h there =
    subst (λ y. Has (bodies_among s (y ∷ rest)) (operation_body (object_numbered s name) i)) (sym (same_some x (ProtectedBody name items end_name) h))
    (has_front (map (operation_body (object_numbered s name)) items) (bodies_among s rest) (operation_body (object_numbered s name) i)
    (at_has (map (operation_body (object_numbered s name)) items) j _ (at_map (operation_body (object_numbered s name)) items j i there)))
operation_has s (OfItem e ∷ rest) (suc k) name items end_name j i h there = operation_has s rest k name items end_name j i h there
operation_has s (SubprogramBody e c ∷ rest) (suc k) name items end_name j i h there = inr (operation_has s rest k name items end_name j i h there)
operation_has s (TaskBody e c ∷ rest) (suc k) name items end_name j i h there = operation_has s rest k name items end_name j i h there
operation_has s (ProtectedBody e es e_end ∷ rest) (suc k) name items end_name j i h there =
    has_back (map (operation_body (object_numbered s e)) es) (bodies_among s rest) (operation_body (object_numbered s name) i)
    (operation_has s rest k name items end_name j i h there)
