-- Items of packages are read exactly.
use Rattle.lexer.specs.declared.token.TokenKind.TheVariants as kinds
use Rattle.lexer.specs.declared.word.Word.TheVariants as words
use Rattle.lexer.specs.declared.delimiter.Delimiter.TheVariants as marks
use Rattle.std.proofs.Common.{◌≡◌, ℕ, Bool, true, false, List, ◌++◌, Option, Some, refl, ap, ◌∙◌}
use Rattle.lexer.specs.declared.token.Token.{Token}
use Rattle.lexer.specs.declared.word.Word.{Word}
use Rattle.ada_tree.specs.declared.expression.Identifier.{Identifier}
use Rattle.ada_tree.specs.ExpressionTree.{ExprTree}
use Rattle.ada_tree.specs.StatementTree.{RangeTree, SubprogramTree, TaskTree, ProtectedTree}
use Rattle.ada_tree.specs.ProgramTree.{DefinitionTree, Integer, Array, Record, Subtype, TypeTree, ItemTree, OfType, OfObject, OfException, OfSubprogram, OfTask}
use Rattle.ada_tree.specs.ProgramTree.{OfProtected}
use Rattle.ada_tree.specs.Language.{Tokens, never, nothing, ◌⨾◌, word, mark, identifier, optional}
use Rattle.ada_tree.specs.StatementGrammar.{object_rest, subprogram, task, protected}
use Rattle.ada_tree.specs.ProgramGrammar.{constraint, type_declaration_of, item}
use Rattle.parser.specs.Reading.{first, is_word, mapped}
use Rattle.parser.specs.MoreReading.{Either, Left, Right, next_word}
use Rattle.parser.specs.ProgramReading.{type_at, subtype_at, named_item_of, named_item_at, subprogram_item_at, item_of, item_at, begins_item}
use Rattle.parser.proofs.general.Exact.{Exact, Free}
use Rattle.parser.proofs.general.Several.{exact_skipped}
use Rattle.parser.proofs.general.MoreExact.{perhaps_stop, PerhapsStops, EitherSpells, EitherStops, at_token, at_past, at_placed, at_name, at_nothing, at_both}
use Rattle.parser.proofs.general.MoreExact.{named_exact, past_exact, ended_exact, free_mapped, perhaps_exact, either_exact, by_word_exact}
use Rattle.parser.proofs.expressions.Followers.{SimpleStops}
use Rattle.parser.proofs.declarations.Declarations.{range_exact, object_rest_exact, SubprogramStops, subprogram_exact, subprogram_stop, at_subprogram}
use Rattle.parser.proofs.declarations.Declarations.{task_exact, protected_exact}
use Rattle.parser.proofs.programs.Types.{semicolon, Definition, range_ends, definition_exact}

-- ---- items

pub data ItemClass : Type 0 where
  Types Subtypes Names Subprograms Tasks Protecteds : ItemClass

abbrev pub definition_class : DefinitionTree → ItemClass
definition_class (Integer r) = Types
definition_class (Array i components) = Types
definition_class (Record components) = Types
definition_class (Subtype parent r) = Subtypes

abbrev pub item_class : ItemTree → ItemClass
item_class (OfType d) = definition_class d.definition
item_class (OfObject d) = Names
item_class (OfException name) = Names
item_class (OfSubprogram d) = Subprograms
item_class (OfTask d) = Tasks
item_class (OfProtected d) = Protecteds

abbrev pub item_class_at : Option Word → ItemClass
item_class_at (Some words.Type) = Types
item_class_at (Some words.Subtype) = Subtypes
item_class_at (Some words.Procedure) = Subprograms
item_class_at (Some words.Function) = Subprograms
item_class_at (Some words.Task) = Tasks
item_class_at (Some words.Protected) = Protecteds
item_class_at w = Names

-- the items of one kind
abbrev pub ItemOf : ItemClass → ℕ → ItemTree → Tokens → Type 0
ItemOf c k y s = (item_class y ≡ c) × item (Some k) y s

abbrev pub TypeParts : ℕ → TypeTree → Tokens → Type 0
TypeParts k d = word words.Type ⨾ identifier d.name ⨾ word words.Is ⨾ Definition k d.definition

pub type_exact : (k : ℕ) → Exact (type_at k) (TypeParts k) Free
type_exact k =
    free_mapped (λ x. record { name = x.0; definition = x.1 }) (TypeParts k)
    (past_exact (kinds.Word words.Type) refl (named_exact (past_exact (kinds.Word words.Is) refl (definition_exact k)))) (λ x o. tt)
    (λ x ts g. g) (λ y ts g. ((y.name, y.definition), g, refl))

type_to_of : (k : ℕ) (name : Identifier) (d : DefinitionTree) (ts : Tokens) → (word words.Type ⨾ identifier name ⨾ word words.Is ⨾ Definition k d) ts
    → (definition_class d ≡ Types) × type_declaration_of (Some k) name d ts
type_to_of k name (Integer r) ts g = (refl, g)
type_to_of k name (Array i components) ts g = (refl, g)
type_to_of k name (Record components) ts g = (refl, g)
type_to_of k name (Subtype parent r) ts g = absurd g.4.4.4

type_back_of : (k : ℕ) (name : Identifier) (d : DefinitionTree) (ts : Tokens) → definition_class d ≡ Types → type_declaration_of (Some k) name d ts
    → (word words.Type ⨾ identifier name ⨾ word words.Is ⨾ Definition k d) ts
type_back_of k name (Integer r) ts e g = g
type_back_of k name (Array i components) ts e g = g
type_back_of k name (Record components) ts e g = g
type_back_of k name (Subtype parent r) ts e g = absurd cc

type_back : (k : ℕ) (y : ItemTree) (ts : Tokens) → ItemOf Types k y ts → (x : TypeTree) × TypeParts k x ts × (OfType x ≡ y)
type_back k (OfType d) ts g = (d, type_back_of k d.name d.definition ts g.0 g.1, refl)
type_back k y ts g = absurd cc

pub types : (k : ℕ) → Exact (mapped OfType (type_at k)) (ItemOf Types k) Free
types k = free_mapped OfType (ItemOf Types k) (type_exact k) (λ x o. tt) (λ x ts g. type_to_of k x.name x.definition ts g) (type_back k)

abbrev pub SubtypeParts : ℕ → Identifier × (Identifier × Option RangeTree) → Tokens → Type 0
SubtypeParts k x = word words.Subtype ⨾ identifier x.0 ⨾ word words.Is ⨾ identifier x.1.0 ⨾ optional (constraint (Some k)) x.1.1 ⨾ mark marks.Semicolon

abbrev pub OnSubtype : ℕ → Identifier → DefinitionTree → Tokens → Type 0
OnSubtype k name (Subtype parent r) = SubtypeParts k (name, (parent, r))
OnSubtype k name d = never

abbrev pub ConstraintStops : Option RangeTree → Option Token → Type 0
ConstraintStops = PerhapsStops (is_word words.Range) (λ _. SimpleStops)

subtype_back_of : (k : ℕ) (name : Identifier) (d : DefinitionTree) (ts : Tokens) → OnSubtype k name d ts
    → (x : Identifier × (Identifier × Option RangeTree)) × SubtypeParts k x ts × (x.0 ≡ name) × (Subtype x.1.0 x.1.1 ≡ d)
subtype_back_of k name (Subtype parent r) ts g = ((name, (parent, r)), g, refl, refl)
subtype_back_of k name d ts g = absurd g

pub subtype_exact : (k : ℕ) → Exact (subtype_at k) (λ d. OnSubtype k d.name d.definition) Free
subtype_exact k =
    free_mapped (λ x. record { name = x.0; definition = Subtype x.1.0 x.1.1 }) (λ d. OnSubtype k d.name d.definition)
    (past_exact (kinds.Word words.Subtype) refl (named_exact (past_exact (kinds.Word words.Is) refl (named_exact (ended_exact
    (perhaps_exact (is_word words.Range) (past_exact (kinds.Word words.Range) refl (range_exact k))
    (λ x s r g. at_past (λ o. is_word words.Range o ≡ true) (kinds.Word words.Range) (λ _ _. refl) s r g))
    (exact_skipped semicolon refl)
    (λ x v r g. at_token (ConstraintStops x) semicolon (λ s e. perhaps_stop (is_word words.Range) (λ _. SimpleStops) _ refl (λ _. range_ends s e) x) v r g))))))
    (λ x o. tt) (λ x ts g. g)
    (λ y ts g. let x = subtype_back_of k y.name y.definition ts g in (
      x.0,
      x.1,
      ap (λ (z : Identifier). record { name = z; definition = Subtype x.0.1.0 x.0.1.1 }) x.2
          ∙ ap (λ (z : DefinitionTree). record { name = y.name; definition = z }) x.3,
    ))

subtype_to_of : (k : ℕ) (name : Identifier) (d : DefinitionTree) (ts : Tokens) → OnSubtype k name d ts
    → (definition_class d ≡ Subtypes) × type_declaration_of (Some k) name d ts
subtype_to_of k name (Subtype parent r) ts g = (refl, g)
subtype_to_of k name (Integer r) ts g = absurd g
subtype_to_of k name (Array i components) ts g = absurd g
subtype_to_of k name (Record components) ts g = absurd g

subtype_from_of : (k : ℕ) (name : Identifier) (d : DefinitionTree) (ts : Tokens) → definition_class d ≡ Subtypes → type_declaration_of (Some k) name d ts
    → OnSubtype k name d ts
subtype_from_of k name (Subtype parent r) ts e g = g
subtype_from_of k name (Integer r) ts e g = absurd cc
subtype_from_of k name (Array i components) ts e g = absurd cc
subtype_from_of k name (Record components) ts e g = absurd cc

subtype_back : (k : ℕ) (y : ItemTree) (ts : Tokens) → ItemOf Subtypes k y ts → (x : TypeTree) × OnSubtype k x.name x.definition ts × (OfType x ≡ y)
subtype_back k (OfType d) ts g = (d, subtype_from_of k d.name d.definition ts g.0 g.1, refl)
subtype_back k y ts g = absurd cc

pub subtypes : (k : ℕ) → Exact (mapped OfType (subtype_at k)) (ItemOf Subtypes k) Free
subtypes k = free_mapped OfType (ItemOf Subtypes k) (subtype_exact k) (λ x o. tt) (λ x ts g. subtype_to_of k x.name x.definition ts g) (subtype_back k)

abbrev pub ObjectRest : Type 0
ObjectRest = Bool × (Identifier × Option ExprTree)

abbrev pub NamedParts : ℕ → Identifier × Either (Unit {0}) ObjectRest → Tokens → Type 0
NamedParts k x =
    identifier x.0 ⨾ mark marks.Colon ⨾ EitherSpells (λ _. word words.Exception ⨾ mark marks.Semicolon) (λ y. object_rest (Some k) y.0 y.1.0 y.1.1) x.1

named_to : (k : ℕ) (name : Identifier) (x : Either (Unit {0}) ObjectRest) (ts : Tokens) → NamedParts k (name, x) ts → ItemOf Names k (named_item_of name x) ts
named_to k name (Left u) ts g = (refl, g)
named_to k name (Right x) ts g = (refl, g)

named_back : (k : ℕ) (y : ItemTree) (ts : Tokens) → ItemOf Names k y ts
    → (x : Identifier × Either (Unit {0}) ObjectRest) × NamedParts k x ts × (named_item_of x.0 x.1 ≡ y)
named_back k (OfObject d) ts g = ((d.name, Right (d.constant, (d.subtype, d.value))), g.1, refl)
named_back k (OfException name) ts g = ((name, Left tt), g.1, refl)
named_back k (OfType d) ts g = absurd (no_names d.definition g.0)
  where
    no_names : (x : DefinitionTree) → definition_class x ≡ Names → ⊥
    no_names (Integer r) e = absurd cc
    no_names (Array i components) e = absurd cc
    no_names (Record components) e = absurd cc
    no_names (Subtype parent r) e = absurd cc
named_back k (OfSubprogram d) ts g = absurd cc
named_back k (OfTask d) ts g = absurd cc
named_back k (OfProtected d) ts g = absurd cc

-- an object's rest begins with `constant` or an identifier
at_object_rest : (X : Option Token → Type 0) (k : ℕ) → ((start end : ℕ) → X (Some (record { kind = kinds.Word words.Constant; start = start; end_ = end })))
    → ((name : List ℕ) (start end : ℕ) → X (Some (record { kind = kinds.Identifier name; start = start; end_ = end })))
    → (is_constant : Bool) (x : Identifier) (v : Option ExprTree) (s r : Tokens) → object_rest (Some k) is_constant x v s → X (first (s ++ r))
at_object_rest X k xc xn false x v s r g =
    at_both X nothing _ s r g (λ t u h i. at_nothing X t (u ++ r) h (at_name X x (xn x.name) u r i))
at_object_rest X k xc xn true x v s r g = at_past X (kinds.Word words.Constant) xc s r g

pub either_free : {A B : Type 0} (x : Either A B) (o : Option Token) → EitherStops {A = A} {B = B} Free Free x o
either_free (Left x) o = tt
either_free (Right x) o = tt

pub names : (k : ℕ) → Exact (named_item_at k) (ItemOf Names k) Free
names k =
    free_mapped (λ x. named_item_of x.0 x.1) (ItemOf Names k)
    (named_exact (past_exact (kinds.Delimiter marks.Colon) refl
    (either_exact (is_word words.Exception) (past_exact (kinds.Word words.Exception) refl (exact_skipped semicolon refl)) (object_rest_exact k)
    (λ x s r g. at_past (λ o. is_word words.Exception o ≡ true) (kinds.Word words.Exception) (λ _ _. refl) s r g)
    (λ y s r g st. at_object_rest (λ o. is_word words.Exception o ≡ false) k (λ _ _. refl) (λ _ _ _. refl) y.0 y.1.0 y.1.1 s r g))))
    (λ x o. either_free x.1 o) (λ x ts g. named_to k x.0 x.1 ts g) (named_back k)

subprogram_back : (k : ℕ) (y : ItemTree) (ts : Tokens) → ItemOf Subprograms k y ts
    → (x : SubprogramTree) × (subprogram (Some k) x ⨾ mark marks.Semicolon) ts × (OfSubprogram x ≡ y)
subprogram_back k (OfSubprogram d) ts g = (d, g.1, refl)
subprogram_back k (OfType d) ts g = absurd (no_subprograms d.definition g.0)
  where
    no_subprograms : (x : DefinitionTree) → definition_class x ≡ Subprograms → ⊥
    no_subprograms (Integer r) e = absurd cc
    no_subprograms (Array i components) e = absurd cc
    no_subprograms (Record components) e = absurd cc
    no_subprograms (Subtype parent r) e = absurd cc
subprogram_back k (OfObject d) ts g = absurd cc
subprogram_back k (OfException name) ts g = absurd cc
subprogram_back k (OfTask d) ts g = absurd cc
subprogram_back k (OfProtected d) ts g = absurd cc

pub subprograms : (k : ℕ) → Exact (subprogram_item_at k) (ItemOf Subprograms k) Free
subprograms k =
    free_mapped OfSubprogram (ItemOf Subprograms k)
    (ended_exact (subprogram_exact k) (exact_skipped semicolon refl)
    (λ x v r g. at_token (SubprogramStops x) semicolon (λ s e. subprogram_stop _ refl x) v r g)) (λ x o. tt) (λ x ts g. (refl, g)) (subprogram_back k)

task_back : (k : ℕ) (y : ItemTree) (ts : Tokens) → ItemOf Tasks k y ts → (x : TaskTree) × task (Some k) x ts × (OfTask x ≡ y)
task_back k (OfTask d) ts g = (d, g.1, refl)
task_back k (OfType d) ts g = absurd (no_tasks d.definition g.0)
  where
    no_tasks : (x : DefinitionTree) → definition_class x ≡ Tasks → ⊥
    no_tasks (Integer r) e = absurd cc
    no_tasks (Array i components) e = absurd cc
    no_tasks (Record components) e = absurd cc
    no_tasks (Subtype parent r) e = absurd cc
task_back k (OfObject d) ts g = absurd cc
task_back k (OfException name) ts g = absurd cc
task_back k (OfSubprogram d) ts g = absurd cc
task_back k (OfProtected d) ts g = absurd cc

protected_back : (k : ℕ) (y : ItemTree) (ts : Tokens) → ItemOf Protecteds k y ts → (x : ProtectedTree) × protected (Some k) x ts × (OfProtected x ≡ y)
protected_back k (OfProtected d) ts g = (d, g.1, refl)
protected_back k (OfType d) ts g = absurd (no_protecteds d.definition g.0)
  where
    no_protecteds : (x : DefinitionTree) → definition_class x ≡ Protecteds → ⊥
    no_protecteds (Integer r) e = absurd cc
    no_protecteds (Array i components) e = absurd cc
    no_protecteds (Record components) e = absurd cc
    no_protecteds (Subtype parent r) e = absurd cc
protected_back k (OfObject d) ts g = absurd cc
protected_back k (OfException name) ts g = absurd cc
protected_back k (OfSubprogram d) ts g = absurd cc
protected_back k (OfTask d) ts g = absurd cc

item_by_word : (k : ℕ) (w : Option Word) → Exact (item_of k w) (ItemOf (item_class_at w) k) Free
item_by_word k (Some words.Type) = types k
item_by_word k (Some words.Subtype) = subtypes k
item_by_word k (Some words.Procedure) = subprograms k
item_by_word k (Some words.Function) = subprograms k
item_by_word k (Some words.Task) = free_mapped OfTask (ItemOf Tasks k) (task_exact k) (λ x o. tt) (λ x ts g. (refl, g)) (task_back k)
item_by_word k (Some words.Protected) = free_mapped OfProtected (ItemOf Protecteds k) (protected_exact k) (λ x o. tt) (λ x ts g. (refl, g)) (protected_back k)
item_by_word k w = names k

-- the next token tells an item's kind, and begins an item
abbrev pub ItemStarts : ItemClass → Option Token → Type 0
ItemStarts c o = (c ≡ item_class_at (next_word o)) × (begins_item o ≡ true)

pub type_starts : (k : ℕ) (name : Identifier) (d : DefinitionTree) (s r : Tokens) → type_declaration_of (Some k) name d s
    → ItemStarts (definition_class d) (first (s ++ r))
type_starts k name (Integer q) s r g = at_past (ItemStarts Types) (kinds.Word words.Type) (λ _ _. (refl, refl)) s r g
type_starts k name (Array i components) s r g = at_past (ItemStarts Types) (kinds.Word words.Type) (λ _ _. (refl, refl)) s r g
type_starts k name (Record components) s r g = at_past (ItemStarts Types) (kinds.Word words.Type) (λ _ _. (refl, refl)) s r g
type_starts k name (Subtype parent q) s r g = at_past (ItemStarts Subtypes) (kinds.Word words.Subtype) (λ _ _. (refl, refl)) s r g

pub item_starts : (k : ℕ) (y : ItemTree) (s r : Tokens) → item (Some k) y s → ItemStarts (item_class y) (first (s ++ r))
item_starts k (OfType d) s r g = type_starts k d.name d.definition s r g
item_starts k (OfObject d) s r g = at_name (ItemStarts Names) d.name (λ _ _. (refl, refl)) s r g
item_starts k (OfException name) s r g = at_name (ItemStarts Names) name (λ _ _. (refl, refl)) s r g
item_starts k (OfSubprogram d) s r g =
    at_both (ItemStarts Subprograms) (subprogram (Some k) d) (mark marks.Semicolon) s r g
    (λ u v h i. at_subprogram (ItemStarts Subprograms) (λ _ _. (refl, refl)) (λ _ _. (refl, refl)) k d u (v ++ r) h)
item_starts k (OfTask d) s r g = at_placed (ItemStarts Tasks) (kinds.Word words.Task) d.place (λ _ _. (refl, refl)) s r g
item_starts k (OfProtected d) s r g = at_placed (ItemStarts Protecteds) (kinds.Word words.Protected) d.place (λ _ _. (refl, refl)) s r g

pub item_exact : (k : ℕ) → Exact (item_at k) (item (Some k)) Free
item_exact k =
    by_word_exact (item_of k) (λ w. ItemOf (item_class_at w) k) (item (Some k)) (item_by_word k) (λ w x s g. g.1) (λ x s r g. ((item_starts k x s r g).0, g))
