-- Bodies, and items of bodies, are read exactly.
use Rattle.lexer.specs.declared.token.TokenKind.TheVariants as kinds
use Rattle.lexer.specs.declared.word.Word.TheVariants as words
use Rattle.lexer.specs.declared.delimiter.Delimiter.TheVariants as marks
use Rattle.std.proofs.Common.{◌≡◌, ℕ, true, false, List, ◌++◌, Option, Some, refl, inl, inr, ◌⊎◌}
use Rattle.lexer.specs.declared.token.Token.{Token}
use Rattle.lexer.specs.declared.word.Word.{Word}
use Rattle.ada_tree.specs.declared.expression.Identifier.{Identifier}
use Rattle.ada_tree.specs.ExpressionTree.{ExprTree}
use Rattle.ada_tree.specs.StatementTree.{AspectTree, TaskDefinitionTree, SubprogramTree, EntryTree}
use Rattle.ada_tree.specs.ProgramTree.{DefinitionTree, Integer, Array, Record, Subtype, BodyTree, ItemTree, OfType, OfObject, OfException, OfSubprogram, OfTask}
use Rattle.ada_tree.specs.ProgramTree.{OfProtected, ProtectedItemTree, OperationBody, EntryBody, BodyItemTree, OfItem, SubprogramBody, TaskBody, ProtectedBody}
use Rattle.ada_tree.specs.Language.{Tokens, never, ◌⨾◌, word, word_at, mark, identifier, each}
use Rattle.ada_tree.specs.ExpressionGrammar.{expression}
use Rattle.ada_tree.specs.StatementGrammar.{subprogram, entry, task_rest, protected_rest}
use Rattle.ada_tree.specs.ProgramGrammar.{type_declaration_of, item, body, protected_item, body_item}
use Rattle.parser.specs.Reading.{first, is_word, is_mark, mapped}
use Rattle.parser.specs.MoreReading.{Either, Left, Right, next_word}
use Rattle.parser.specs.DeclarationReading.{begins_operation, begins_declaration, ProtectedParts}
use Rattle.parser.specs.StatementReading.{readers, statements_at}
use Rattle.parser.specs.ProgramReading.{item_at, begins_item, body_at, operation_body_at, entry_body_at, protected_item_at, subprogram_body_of}
use Rattle.parser.specs.ProgramReading.{subprogram_body_at, task_item_of, task_item_at, protected_item_of, protected_object_at, body_item_of, body_item_at}
use Rattle.parser.proofs.general.Exact.{Exact, Free, exact_choose}
use Rattle.parser.proofs.general.Several.{ManyStops, exact_skipped, exact_identifier, exact_many}
use Rattle.parser.proofs.general.MoreExact.{Any, many_stop, EitherSpells, at_token, at_past, at_placed, at_name, at_both, then_exact, placed_exact, named_exact}
use Rattle.parser.proofs.general.MoreExact.{past_exact, free_ended, free_mapped, either_exact, by_word_exact}
use Rattle.parser.proofs.expressions.Followers.{ExpressionStops}
use Rattle.parser.proofs.expressions.Levelled.{exact_expression}
use Rattle.parser.proofs.declarations.Declarations.{is_stops, FormalsStops, formals_stop, SubprogramStops, subprogram_exact, subprogram_stop, at_subprogram}
use Rattle.parser.proofs.declarations.Declarations.{entry_exact, task_rest_exact, protected_rest_exact, declarations_exact}
use Rattle.parser.proofs.statements.CompoundStatements.{HandlersStop, handlers_exact, handlers_end, before_handlers}
use Rattle.parser.proofs.statements.Statements.{statements_exact}
use Rattle.parser.proofs.programs.Types.{semicolon, end_word}
use Rattle.parser.proofs.programs.Items.{ItemClass, definition_class, item_class, either_free, item_exact}
use Rattle.parser.proofs.programs.Items.{Types, Subtypes, Names, Subprograms, Tasks, Protecteds}

-- ---- bodies

pub body_exact : (k : ℕ) → Exact (body_at k) (body (Some k)) Free
body_exact k =
    let statements = statements_at k (readers k) in
    let es = statements_exact k in
    let close = past_exact end_word refl (free_ended exact_identifier (exact_skipped semicolon refl)) in
    let from_handlers =
    then_exact (handlers_exact k statements es) close
    (λ x y v s g st. at_past (HandlersStop k statements es x) end_word (handlers_end k statements es x) v s g) in
    let from_statements = then_exact es from_handlers (λ x y v s g st. before_handlers k statements es y.0 v s g) in
    free_mapped (λ x. record { declarations = x.0; statements = x.1.0; handlers = x.1.1.0; end_name = x.1.1.1 }) (body (Some k))
    (then_exact (declarations_exact k) (past_exact (kinds.Word words.Begin) refl from_statements)
    (λ x y v r g st. at_past (ManyStops begins_declaration Any x) (kinds.Word words.Begin) (λ s e. many_stop begins_declaration Any _ refl tt x) v r g))
    (λ x o. tt) (λ x ts g. g) (λ y ts g. ((y.declarations, (y.statements, (y.handlers, y.end_name))), g, refl))

abbrev pub is_body : Tokens → Type 0
is_body = word words.Is

abbrev pub OnOperation : ℕ → ProtectedItemTree → Tokens → Type 0
OnOperation k (OperationBody d b) = subprogram (Some k) d ⨾ word words.Is ⨾ body (Some k) b
OnOperation k (EntryBody d barrier b) = never

abbrev pub OnEntry : ℕ → ProtectedItemTree → Tokens → Type 0
OnEntry k (OperationBody d b) = never
OnEntry k (EntryBody d barrier b) = entry (Some k) d ⨾ word words.When ⨾ expression (Some k) barrier ⨾ word words.Is ⨾ body (Some k) b

operation_back : (k : ℕ) (y : ProtectedItemTree) (ts : Tokens) → OnOperation k y ts
    → (x : SubprogramTree × BodyTree) × (subprogram (Some k) x.0 ⨾ word words.Is ⨾ body (Some k) x.1) ts × (OperationBody x.0 x.1 ≡ y)
operation_back k (OperationBody d b) ts g = ((d, b), g, refl)
operation_back k (EntryBody d barrier b) ts g = absurd g

pub operation_body_exact : (k : ℕ) → Exact (operation_body_at k) (OnOperation k) Free
operation_body_exact k =
    free_mapped (λ x. OperationBody x.0 x.1) (OnOperation k)
    (then_exact (subprogram_exact k) (past_exact (kinds.Word words.Is) refl (body_exact k))
    (λ x y v r g st. at_past (SubprogramStops x) (kinds.Word words.Is) (λ s e. subprogram_stop _ refl x) v r g))
    (λ x o. tt) (λ x ts g. g) (operation_back k)

entry_back : (k : ℕ) (y : ProtectedItemTree) (ts : Tokens) → OnEntry k y ts
    → (x : EntryTree × (ExprTree × BodyTree)) × (entry (Some k) x.0 ⨾ word words.When ⨾ expression (Some k) x.1.0 ⨾ word words.Is ⨾ body (Some k) x.1.1) ts
    × (EntryBody x.0 x.1.0 x.1.1 ≡ y)
entry_back k (OperationBody d b) ts g = absurd g
entry_back k (EntryBody d barrier b) ts g = ((d, (barrier, b)), g, refl)

pub entry_body_exact : (k : ℕ) → Exact (entry_body_at k) (OnEntry k) Free
entry_body_exact k =
    free_mapped (λ x. EntryBody x.0 x.1.0 x.1.1) (OnEntry k)
    (then_exact (entry_exact k)
    (past_exact (kinds.Word words.When) refl
    (then_exact (exact_expression k) (past_exact (kinds.Word words.Is) refl (body_exact k))
    (λ x y v r g st. at_past ExpressionStops (kinds.Word words.Is) is_stops v r g)))
    (λ x y v r g st. at_past (FormalsStops x.formals) (kinds.Word words.When) (λ s e. formals_stop _ refl x.formals) v r g))
    (λ x o. tt) (λ x ts g. g) (entry_back k)

pub entry_is : (k : ℕ) (y : ProtectedItemTree) (s : Tokens) → OnEntry k y s → protected_item (Some k) y s
entry_is k (OperationBody d b) s g = absurd g
entry_is k (EntryBody d barrier b) s g = g

pub operation_is : (k : ℕ) (y : ProtectedItemTree) (s : Tokens) → OnOperation k y s → protected_item (Some k) y s
operation_is k (OperationBody d b) s g = g
operation_is k (EntryBody d barrier b) s g = absurd g

entry_first : (X : Option Token → Type 0) → ((start end : ℕ) → X (Some (record { kind = kinds.Word words.Entry; start = start; end_ = end })))
    → (k : ℕ) (d : EntryTree) (P : Tokens → Type 0) (s r : Tokens) → (entry (Some k) d ⨾ P) s → X (first (s ++ r))
entry_first X x k d P s r g = at_both X (entry (Some k) d) P s r g (λ u v h i. at_placed X (kinds.Word words.Entry) d.place x u (v ++ r) h)

operation_first : (X : Option Token → Type 0) → ((start end : ℕ) → X (Some (record { kind = kinds.Word words.Procedure; start = start; end_ = end })))
    → ((start end : ℕ) → X (Some (record { kind = kinds.Word words.Function; start = start; end_ = end })))
    → (k : ℕ) (d : SubprogramTree) (P : Tokens → Type 0) (s r : Tokens) → (subprogram (Some k) d ⨾ P) s → X (first (s ++ r))
operation_first X xp xf k d P s r g = at_both X (subprogram (Some k) d) P s r g (λ u v h i. at_subprogram X xp xf k d u (v ++ r) h)

entry_or_operation : (k : ℕ) (y : ProtectedItemTree) (s r : Tokens) → protected_item (Some k) y s → Any (first r)
    → ((is_word words.Entry (first (s ++ r)) ≡ true) × OnEntry k y s) ⊎ ((is_word words.Entry (first (s ++ r)) ≡ false) × OnOperation k y s)
entry_or_operation k (OperationBody d b) s r g st = inr (operation_first (λ o. is_word words.Entry o ≡ false) (λ _ _. refl) (λ _ _. refl) k d _ s r g, g)
entry_or_operation k (EntryBody d barrier b) s r g st = inl (entry_first (λ o. is_word words.Entry o ≡ true) (λ _ _. refl) k d _ s r g, g)

pub protected_item_exact : (k : ℕ) → Exact (protected_item_at k) (protected_item (Some k)) Free
protected_item_exact k =
    exact_choose (is_word words.Entry) (entry_body_at k) (operation_body_at k) (OnEntry k) (OnOperation k) (protected_item (Some k)) Free (entry_body_exact k)
    (operation_body_exact k) (entry_is k) (operation_is k) (entry_or_operation k)

pub protected_item_begins : (k : ℕ) (y : ProtectedItemTree) (s r : Tokens) → protected_item (Some k) y s → begins_operation (first (s ++ r)) ≡ true
protected_item_begins k (OperationBody d b) s r g = operation_first (λ o. begins_operation o ≡ true) (λ _ _. refl) (λ _ _. refl) k d _ s r g
protected_item_begins k (EntryBody d barrier b) s r g = entry_first (λ o. begins_operation o ≡ true) (λ _ _. refl) k d _ s r g

-- ---- items of bodies

pub data BodyClass : Type 0 where
  SubprogramItems TaskItems ProtectedItems OtherItems : BodyClass

abbrev pub of_item_class : ItemClass → BodyClass
of_item_class Subprograms = SubprogramItems
of_item_class Tasks = TaskItems
of_item_class Protecteds = ProtectedItems
of_item_class Types = OtherItems
of_item_class Subtypes = OtherItems
of_item_class Names = OtherItems

abbrev pub body_class : BodyItemTree → BodyClass
body_class (OfItem d) = of_item_class (item_class d)
body_class (SubprogramBody d b) = SubprogramItems
body_class (TaskBody name b) = TaskItems
body_class (ProtectedBody name items end_name) = ProtectedItems

abbrev pub body_class_at : Option Word → BodyClass
body_class_at (Some words.Procedure) = SubprogramItems
body_class_at (Some words.Function) = SubprogramItems
body_class_at (Some words.Task) = TaskItems
body_class_at (Some words.Protected) = ProtectedItems
body_class_at w = OtherItems

-- the items of bodies of one kind; of others it is enough that they are items
abbrev pub BodyOf : BodyClass → ℕ → BodyItemTree → Tokens → Type 0
BodyOf SubprogramItems k y s = (body_class y ≡ SubprogramItems) × body_item (Some k) y s
BodyOf TaskItems k y s = (body_class y ≡ TaskItems) × body_item (Some k) y s
BodyOf ProtectedItems k y s = (body_class y ≡ ProtectedItems) × body_item (Some k) y s
BodyOf OtherItems k (OfItem d) s = item (Some k) d s
BodyOf OtherItems k (SubprogramBody d b) s = ⊥
BodyOf OtherItems k (TaskBody name b) s = ⊥
BodyOf OtherItems k (ProtectedBody name items end_name) s = ⊥

abbrev pub SubprogramOrBody : ℕ → SubprogramTree × Either (Unit {0}) BodyTree → Tokens → Type 0
SubprogramOrBody k x = subprogram (Some k) x.0 ⨾ EitherSpells (λ _. mark marks.Semicolon) (λ b. word words.Is ⨾ body (Some k) b) x.1

subprogram_body_to : (k : ℕ) (d : SubprogramTree) (x : Either (Unit {0}) BodyTree) (ts : Tokens) → SubprogramOrBody k (d, x) ts
    → BodyOf SubprogramItems k (subprogram_body_of d x) ts
subprogram_body_to k d (Left u) ts g = (refl, g)
subprogram_body_to k d (Right b) ts g = (refl, g)

no_subprogram_type : (d : DefinitionTree) → of_item_class (definition_class d) ≡ SubprogramItems → ⊥
no_subprogram_type (Integer r) e = absurd cc
no_subprogram_type (Array i components) e = absurd cc
no_subprogram_type (Record components) e = absurd cc
no_subprogram_type (Subtype parent r) e = absurd cc

no_task_type : (d : DefinitionTree) → of_item_class (definition_class d) ≡ TaskItems → ⊥
no_task_type (Integer r) e = absurd cc
no_task_type (Array i components) e = absurd cc
no_task_type (Record components) e = absurd cc
no_task_type (Subtype parent r) e = absurd cc

no_protected_type : (d : DefinitionTree) → of_item_class (definition_class d) ≡ ProtectedItems → ⊥
no_protected_type (Integer r) e = absurd cc
no_protected_type (Array i components) e = absurd cc
no_protected_type (Record components) e = absurd cc
no_protected_type (Subtype parent r) e = absurd cc

subprogram_body_back : (k : ℕ) (y : BodyItemTree) (ts : Tokens) → BodyOf SubprogramItems k y ts
    → (x : SubprogramTree × Either (Unit {0}) BodyTree) × SubprogramOrBody k x ts × (subprogram_body_of x.0 x.1 ≡ y)
subprogram_body_back k (OfItem (OfSubprogram d)) ts g = ((d, Left tt), g.1, refl)
subprogram_body_back k (SubprogramBody d b) ts g = ((d, Right b), g.1, refl)
subprogram_body_back k (OfItem (OfType d)) ts g = absurd (no_subprogram_type d.definition g.0)
subprogram_body_back k (OfItem (OfObject d)) ts g = absurd cc
subprogram_body_back k (OfItem (OfException name)) ts g = absurd cc
subprogram_body_back k (OfItem (OfTask d)) ts g = absurd cc
subprogram_body_back k (OfItem (OfProtected d)) ts g = absurd cc
subprogram_body_back k (TaskBody name b) ts g = absurd cc
subprogram_body_back k (ProtectedBody name items end_name) ts g = absurd cc

before_body : (k : ℕ) (x : SubprogramTree) (y : Either (Unit {0}) BodyTree) (v r : Tokens)
    → EitherSpells (λ _. mark marks.Semicolon) (λ b. word words.Is ⨾ body (Some k) b) y v → SubprogramStops x (first (v ++ r))
before_body k x (Left u) v r g = at_token (SubprogramStops x) semicolon (λ s e. subprogram_stop _ refl x) v r g
before_body k x (Right b) v r g = at_past (SubprogramStops x) (kinds.Word words.Is) (λ s e. subprogram_stop _ refl x) v r g

pub subprogram_bodies : (k : ℕ) → Exact (subprogram_body_at k) (BodyOf SubprogramItems k) Free
subprogram_bodies k =
    free_mapped (λ x. subprogram_body_of x.0 x.1) (BodyOf SubprogramItems k)
    (then_exact (subprogram_exact k)
    (either_exact (is_mark marks.Semicolon) (exact_skipped semicolon refl) (past_exact (kinds.Word words.Is) refl (body_exact k))
    (λ x s r g. at_token (λ o. is_mark marks.Semicolon o ≡ true) semicolon (λ _ _. refl) s r g)
    (λ y s r g st. at_past (λ o. is_mark marks.Semicolon o ≡ false) (kinds.Word words.Is) (λ _ _. refl) s r g))
    (λ x y v r g st. before_body k x y v r g))
    (λ x o. either_free x.1 o) (λ x ts g. subprogram_body_to k x.0 x.1 ts g) (subprogram_body_back k)

abbrev pub TaskBodyParts : ℕ → Identifier × BodyTree → Tokens → Type 0
TaskBodyParts k x = word words.Body ⨾ identifier x.0 ⨾ word words.Is ⨾ body (Some k) x.1

abbrev pub TaskRest : Type 0
TaskRest = Identifier × (Option AspectTree × Option TaskDefinitionTree)

abbrev pub TaskOrBody : ℕ → ℕ × Either (Identifier × BodyTree) TaskRest → Tokens → Type 0
TaskOrBody k x = word_at words.Task x.0 ⨾ EitherSpells (TaskBodyParts k) (λ y. task_rest (Some k) y.0 y.1.0 y.1.1) x.1

task_item_to : (k place : ℕ) (x : Either (Identifier × BodyTree) TaskRest) (ts : Tokens) → TaskOrBody k (place, x) ts
    → BodyOf TaskItems k (task_item_of place x) ts
task_item_to k place (Left x) ts g = (refl, (g.0, g.1, g.2, (g.3.0, g.3.1, g.3.2), g.4))
task_item_to k place (Right x) ts g = (refl, g)

task_item_back : (k : ℕ) (y : BodyItemTree) (ts : Tokens) → BodyOf TaskItems k y ts
    → (x : ℕ × Either (Identifier × BodyTree) TaskRest) × TaskOrBody k x ts × (task_item_of x.0 x.1 ≡ y)
task_item_back k (OfItem (OfTask d)) ts g = ((d.place, Right (d.name, (d.aspect, d.definition))), g.1, refl)
task_item_back k (TaskBody name b) ts g = ((g.1.3.0.start, Left (name, b)), (g.1.0, g.1.1, g.1.2, (g.1.3.0, g.1.3.1, g.1.3.2, refl), g.1.4), refl)
task_item_back k (OfItem (OfType d)) ts g = absurd (no_task_type d.definition g.0)
task_item_back k (OfItem (OfObject d)) ts g = absurd cc
task_item_back k (OfItem (OfException name)) ts g = absurd cc
task_item_back k (OfItem (OfSubprogram d)) ts g = absurd cc
task_item_back k (OfItem (OfProtected d)) ts g = absurd cc
task_item_back k (SubprogramBody d b) ts g = absurd cc
task_item_back k (ProtectedBody name items end_name) ts g = absurd cc

pub task_items : (k : ℕ) → Exact (task_item_at k) (BodyOf TaskItems k) Free
task_items k =
    free_mapped (λ x. task_item_of x.0 x.1) (BodyOf TaskItems k)
    (placed_exact (kinds.Word words.Task) refl
    (either_exact (is_word words.Body) (past_exact (kinds.Word words.Body) refl (named_exact (past_exact (kinds.Word words.Is) refl (body_exact k))))
    (task_rest_exact k)
    (λ x s r g. at_past (λ o. is_word words.Body o ≡ true) (kinds.Word words.Body) (λ _ _. refl) s r g)
    (λ y s r g st. at_name (λ o. is_word words.Body o ≡ false) y.0 (λ _ _. refl) s r g)))
    (λ x o. either_free x.1 o) (λ x ts g. task_item_to k x.0 x.1 ts g) (task_item_back k)

abbrev pub ProtectedBodyTree : Type 0
ProtectedBodyTree = Identifier × (List ProtectedItemTree × Identifier)

abbrev pub ProtectedBodyParts : ℕ → ProtectedBodyTree → Tokens → Type 0
ProtectedBodyParts k x =
    word words.Body ⨾ identifier x.0 ⨾ word words.Is ⨾ each (protected_item (Some k)) x.1.0 ⨾ word words.End ⨾ identifier x.1.1 ⨾ mark marks.Semicolon

abbrev pub ProtectedOrBody : ℕ → ℕ × Either ProtectedBodyTree ProtectedParts → Tokens → Type 0
ProtectedOrBody k x = word_at words.Protected x.0 ⨾ EitherSpells (ProtectedBodyParts k) (λ y. protected_rest (Some k) y.0 y.1.0 y.1.1.0 y.1.1.1.0 y.1.1.1.1) x.1

protected_object_to : (k place : ℕ) (x : Either ProtectedBodyTree ProtectedParts) (ts : Tokens) → ProtectedOrBody k (place, x) ts
    → BodyOf ProtectedItems k (protected_item_of place x) ts
protected_object_to k place (Left x) ts g = (refl, (g.0, g.1, g.2, (g.3.0, g.3.1, g.3.2), g.4))
protected_object_to k place (Right x) ts g = (refl, g)

protected_object_back : (k : ℕ) (y : BodyItemTree) (ts : Tokens) → BodyOf ProtectedItems k y ts
    → (x : ℕ × Either ProtectedBodyTree ProtectedParts) × ProtectedOrBody k x ts × (protected_item_of x.0 x.1 ≡ y)
protected_object_back k (OfItem (OfProtected d)) ts g = ((d.place, Right (d.name, (d.aspect, (d.operations, (d.components, d.end_name))))), g.1, refl)
protected_object_back k (ProtectedBody name items end_name) ts g =
    ((g.1.3.0.start, Left (name, (items, end_name))), (g.1.0, g.1.1, g.1.2, (g.1.3.0, g.1.3.1, g.1.3.2, refl), g.1.4), refl)
protected_object_back k (OfItem (OfType d)) ts g = absurd (no_protected_type d.definition g.0)
protected_object_back k (OfItem (OfObject d)) ts g = absurd cc
protected_object_back k (OfItem (OfException name)) ts g = absurd cc
protected_object_back k (OfItem (OfSubprogram d)) ts g = absurd cc
protected_object_back k (OfItem (OfTask d)) ts g = absurd cc
protected_object_back k (SubprogramBody d b) ts g = absurd cc
protected_object_back k (TaskBody name b) ts g = absurd cc

pub protected_objects : (k : ℕ) → Exact (protected_object_at k) (BodyOf ProtectedItems k) Free
protected_objects k =
    let items =
    exact_many begins_operation (protected_item_at k) (protected_item (Some k)) Any (protected_item_exact k) (protected_item_begins k) (λ o h. tt) refl in
    let from_items =
    then_exact items (past_exact end_word refl (free_ended exact_identifier (exact_skipped semicolon refl)))
    (λ x y v r g st. at_past (ManyStops begins_operation Any x) end_word (λ s e. many_stop begins_operation Any _ refl tt x) v r g) in
    free_mapped (λ x. protected_item_of x.0 x.1) (BodyOf ProtectedItems k)
    (placed_exact (kinds.Word words.Protected) refl
    (either_exact (is_word words.Body) (past_exact (kinds.Word words.Body) refl (named_exact (past_exact (kinds.Word words.Is) refl from_items)))
    (protected_rest_exact k)
    (λ x s r g. at_past (λ o. is_word words.Body o ≡ true) (kinds.Word words.Body) (λ _ _. refl) s r g)
    (λ y s r g st. at_name (λ o. is_word words.Body o ≡ false) y.0 (λ _ _. refl) s r g)))
    (λ x o. either_free x.1 o) (λ x ts g. protected_object_to k x.0 x.1 ts g) (protected_object_back k)

other_back : (k : ℕ) (y : BodyItemTree) (ts : Tokens) → BodyOf OtherItems k y ts → (x : ItemTree) × item (Some k) x ts × (OfItem x ≡ y)
other_back k (OfItem d) ts g = (d, g, refl)
other_back k (SubprogramBody d b) ts g = absurd g
other_back k (TaskBody name b) ts g = absurd g
other_back k (ProtectedBody name items end_name) ts g = absurd g

pub other_items : (k : ℕ) → Exact (mapped OfItem (item_at k)) (BodyOf OtherItems k) Free
other_items k = free_mapped OfItem (BodyOf OtherItems k) (item_exact k) (λ x o. tt) (λ x ts g. g) (other_back k)

body_item_by_word : (k : ℕ) (w : Option Word) → Exact (body_item_of k w) (BodyOf (body_class_at w) k) Free
body_item_by_word k (Some words.Procedure) = subprogram_bodies k
body_item_by_word k (Some words.Function) = subprogram_bodies k
body_item_by_word k (Some words.Task) = task_items k
body_item_by_word k (Some words.Protected) = protected_objects k
body_item_by_word k w = other_items k

of_body : (k : ℕ) (c : BodyClass) (y : BodyItemTree) (ts : Tokens) → BodyOf c k y ts → body_item (Some k) y ts
of_body k SubprogramItems y ts g = g.1
of_body k TaskItems y ts g = g.1
of_body k ProtectedItems y ts g = g.1
of_body k OtherItems (OfItem d) ts g = g
of_body k OtherItems (SubprogramBody d b) ts g = absurd g
of_body k OtherItems (TaskBody name b) ts g = absurd g
of_body k OtherItems (ProtectedBody name items end_name) ts g = absurd g

to_body : (k : ℕ) (c : BodyClass) (y : BodyItemTree) (ts : Tokens) → body_class y ≡ c → body_item (Some k) y ts → BodyOf c k y ts
to_body k SubprogramItems y ts e g = (e, g)
to_body k TaskItems y ts e g = (e, g)
to_body k ProtectedItems y ts e g = (e, g)
to_body k OtherItems (OfItem d) ts e g = g
to_body k OtherItems (SubprogramBody d b) ts e g = absurd cc
to_body k OtherItems (TaskBody name b) ts e g = absurd cc
to_body k OtherItems (ProtectedBody name items end_name) ts e g = absurd cc

-- the next token tells the kind, and begins an item
abbrev pub BodyStarts : BodyClass → Option Token → Type 0
BodyStarts c o = (c ≡ body_class_at (next_word o)) × (begins_item o ≡ true)

pub body_type_starts : (k : ℕ) (name : Identifier) (d : DefinitionTree) (s r : Tokens) → type_declaration_of (Some k) name d s
    → BodyStarts (of_item_class (definition_class d)) (first (s ++ r))
body_type_starts k name (Integer q) s r g = at_past (BodyStarts OtherItems) (kinds.Word words.Type) (λ _ _. (refl, refl)) s r g
body_type_starts k name (Array i components) s r g = at_past (BodyStarts OtherItems) (kinds.Word words.Type) (λ _ _. (refl, refl)) s r g
body_type_starts k name (Record components) s r g = at_past (BodyStarts OtherItems) (kinds.Word words.Type) (λ _ _. (refl, refl)) s r g
body_type_starts k name (Subtype parent q) s r g = at_past (BodyStarts OtherItems) (kinds.Word words.Subtype) (λ _ _. (refl, refl)) s r g

pub body_starts : (k : ℕ) (y : BodyItemTree) (s r : Tokens) → body_item (Some k) y s → BodyStarts (body_class y) (first (s ++ r))
body_starts k (OfItem (OfType d)) s r g = body_type_starts k d.name d.definition s r g
body_starts k (OfItem (OfObject d)) s r g = at_name (BodyStarts OtherItems) d.name (λ _ _. (refl, refl)) s r g
body_starts k (OfItem (OfException name)) s r g = at_name (BodyStarts OtherItems) name (λ _ _. (refl, refl)) s r g
body_starts k (OfItem (OfSubprogram d)) s r g =
    operation_first (BodyStarts SubprogramItems) (λ _ _. (refl, refl)) (λ _ _. (refl, refl)) k d (mark marks.Semicolon) s r g
body_starts k (OfItem (OfTask d)) s r g = at_placed (BodyStarts TaskItems) (kinds.Word words.Task) d.place (λ _ _. (refl, refl)) s r g
body_starts k (OfItem (OfProtected d)) s r g = at_placed (BodyStarts ProtectedItems) (kinds.Word words.Protected) d.place (λ _ _. (refl, refl)) s r g
body_starts k (SubprogramBody d b) s r g = operation_first (BodyStarts SubprogramItems) (λ _ _. (refl, refl)) (λ _ _. (refl, refl)) k d _ s r g
body_starts k (TaskBody name b) s r g = at_past (BodyStarts TaskItems) (kinds.Word words.Task) (λ _ _. (refl, refl)) s r g
body_starts k (ProtectedBody name items end_name) s r g = at_past (BodyStarts ProtectedItems) (kinds.Word words.Protected) (λ _ _. (refl, refl)) s r g

pub body_item_exact : (k : ℕ) → Exact (body_item_at k) (body_item (Some k)) Free
body_item_exact k =
    by_word_exact (body_item_of k) (λ w. BodyOf (body_class_at w) k) (body_item (Some k)) (body_item_by_word k) (λ w x s g. of_body k (body_class_at w) x s g)
    (λ x s r g. to_body k (body_class_at (next_word (first (s ++ r)))) x s (body_starts k x s r g).0 g)
