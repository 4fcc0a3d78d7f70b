-- Bodies and barriers with all that they break, worked by computation.
use Rattle.std.proofs.Common.{◌≡◌, ℕ, List, [], ◌∷◌, Some, None, false, refl}
use Rattle.std.specs.Prelude.{codes, map}
use Rattle.ada_tree.specs.declared.expression.UnaryOperator.TheVariants as unary
use Rattle.ada_tree.specs.ExpressionTree.{ExprTree, Named, Parenthesized, Unary, NoSelectors, MoreSelectors, Component, Attribute}
use Rattle.ada_tree.specs.StatementTree.{DeclarationTree, LocalObject, LocalTask, LocalProtected, Forever, Values, Null, Delay, DelayUntil, If, Case, Loop, Block, Abort, Requeue, Accept, Select, StmtTrees, stmts_of, elsifs_of, alternatives_of, handlers_of, OfEntry}
use Rattle.ada_tree.specs.ProgramTree.{OperationBody, EntryBody}
use Rattle.types.specs.declared.entity.RecordComponent.{RecordComponent}
use Rattle.types.specs.Scopes.{boolean}
use Rattle.body_restrictions.specs.BodyRules.{barrier_rule, locals_faults, operations_faults, stmts_faults}
use Rattle.body_restrictions.proofs.Sample.{entry, fault, identifier, named, number, object, procedure, task}

-- ---- declarations and statements

abbrev local : DeclarationTree
local = LocalObject (record { name = identifier 1 (codes "X"); constant = false; subtype = identifier 5 (codes "INTEGER"); value = None })

-- a local object that is protected is refused whole, its second entry with it
locals : locals_faults (local ∷ LocalTask (task 20 (codes "T") None) ∷ LocalProtected (object 40 (codes "P") None (OfEntry (entry 50 (codes "A")) ∷ OfEntry (entry 60 (codes "B")) ∷ [])) ∷ [])
    ≡ fault 30 20 ∷ fault 30 40 ∷ []
locals = refl

simple : stmts_faults (stmts_of (
    Null 1 ∷ Delay 2 (number 3 5) ∷ DelayUntil 4 (named 5 (codes "CLOCK")) ∷ Select 6 ∷ Abort 7 (identifier 8 (codes "T"))
    ∷ Requeue 9 (identifier 10 (codes "P")) (Some (identifier 11 (codes "TAKE"))) ∷ Accept 12 (identifier 13 (codes "E")) ∷ []
    )) ≡ fault 34 2 ∷ fault 35 6 ∷ fault 36 7 ∷ fault 37 9 ∷ fault 32 12 ∷ []
simple = refl

abbrev condition : ExprTree
condition = named 0 (codes "TRUE")

abbrev delayed : ℕ → StmtTrees
delayed place = stmts_of (Delay place (number 0 1) ∷ [])

-- a statement in each place where statements lie in one
nested : stmts_faults (stmts_of (
    If 1 condition (delayed 2) (elsifs_of ((condition, delayed 3) ∷ (condition, delayed 4) ∷ [])) (delayed 5)
    ∷ Case 6 condition (alternatives_of ((7, (Values (condition ∷ []), delayed 8)) ∷ (9, (Values [], delayed 10)) ∷ []))
    ∷ Loop 11 Forever (delayed 12)
    ∷ Block 13 (LocalTask (task 14 (codes "T") None) ∷ []) (delayed 15) (handlers_of (([], delayed 16) ∷ ([], delayed 17) ∷ []))
    ∷ []
    )) ≡ fault 34 2 ∷ fault 34 3 ∷ fault 34 4 ∷ fault 34 5 ∷ fault 34 8 ∷ fault 34 10 ∷ fault 34 12 ∷ fault 30 14 ∷ fault 34 15 ∷ fault 34 16 ∷ fault 34 17 ∷ []
nested = refl

-- ---- barriers of an object with the components FULL and N

abbrev components : List RecordComponent
components = record { name = codes "FULL"; subtype = boolean } ∷ record { name = codes "N"; subtype = boolean } ∷ []

bare_names : map (barrier_rule components) (named 3 (codes "FULL") ∷ named 3 (codes "N") ∷ named 3 (codes "TRUE") ∷ named 3 (codes "FALSE") ∷ [])
    ≡ [] ∷ [] ∷ [] ∷ [] ∷ []
bare_names = refl

-- `(Full)`, `not Full`, `X`, `P.Full`, `Full'First`, `1`
others : map (barrier_rule components) (
    Parenthesized 3 (named 4 (codes "FULL"))
    ∷ Unary unary.Not 3 (named 7 (codes "FULL"))
    ∷ named 3 (codes "X")
    ∷ Named (identifier 3 (codes "P")) (MoreSelectors (Component (identifier 5 (codes "FULL"))) NoSelectors)
    ∷ Named (identifier 3 (codes "FULL")) (MoreSelectors (Attribute (identifier 8 (codes "FIRST"))) NoSelectors)
    ∷ number 3 1
    ∷ []
    ) ≡ (fault 33 3 ∷ []) ∷ (fault 33 3 ∷ []) ∷ (fault 33 3 ∷ []) ∷ (fault 33 3 ∷ []) ∷ (fault 33 3 ∷ []) ∷ (fault 33 3 ∷ []) ∷ []
others = refl

operations : operations_faults components (
    OperationBody (procedure 1 (codes "GO")) (record { declarations = LocalTask (task 2 (codes "T") None) ∷ []; statements = delayed 3; handlers = handlers_of (([], delayed 4) ∷ []); end_name = identifier 5 (codes "GO") })
    ∷ EntryBody (entry 6 (codes "TAKE")) (named 7 (codes "OPEN")) (record { declarations = []; statements = delayed 8; handlers = handlers_of []; end_name = identifier 9 (codes "TAKE") })
    ∷ []
    ) ≡ fault 30 2 ∷ fault 34 3 ∷ fault 34 4 ∷ fault 33 7 ∷ fault 34 8 ∷ []
operations = refl
