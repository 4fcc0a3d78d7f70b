-- Pragmas, aspects, entries and whole programs with all that they break, worked by computation.
use Rattle.std.proofs.Common.{◌≡◌, ℕ, ◌+◌, List, [], ◌∷◌, Option, Some, None, true, false, refl}
use Rattle.std.specs.Prelude.{codes, map}
use Rattle.base.specs.declared.limits.TheConstants.{TASK_PRIORITY}
use Rattle.ada_tree.specs.declared.expression.UnaryOperator.TheVariants as unary
use Rattle.ada_tree.specs.declared.expression.BinaryOperator.TheVariants as binary
use Rattle.ada_tree.specs.declared.program.MainStatement.TheVariants as main_statement
use Rattle.ada_tree.specs.declared.program.Pragma.{Pragma}
use Rattle.ada_tree.specs.declared.program.UnitClause.{UnitClause}
use Rattle.ada_tree.specs.ExpressionTree.{Conditional, NoElsifValues, Unary, Binary}
use Rattle.ada_tree.specs.StatementTree.{Delay, Null, NoHandlers, OfEntry, OfSubprogram, stmts_of}
use Rattle.ada_tree.specs.ProgramTree.{BodyItemTree, BodyTree, EntryBody, ItemTree, OfItem, OfObject, OfProtected, OfTask, OperationBody, PackageTree, ProgramTree, ProtectedBody, SubprogramBody, TaskBody}
use Rattle.types.specs.Scopes.{Scope, standard}
use Rattle.declaration_rules.specs.ItemRules.{item_scope}
use Rattle.expr_rules.specs.Faults.{least}
use Rattle.legality.specs.ProgramRules.{IsLegal}
use Rattle.ravenscar.specs.PragmaRules.{pragma_faults}
use Rattle.ravenscar.specs.TaskingRules.{aspect_faults, entries_faults, task_faults}
use Rattle.ravenscar.specs.ProgramRules.{IsRestricted, restriction_faults}
use Rattle.body_restrictions.proofs.Sample.{aspect, entry, fault, identifier, named, number, object, pragma_of, priority, procedure, task}

-- ---- priorities: `Top : constant Integer := 30;` is visible

abbrev top : ItemTree
top = OfObject (record { name = identifier 0 (codes "TOP"); constant = true; subtype = identifier 6 (codes "INTEGER"); value = Some (number 9 30) })

abbrev visible : Scope
visible = item_scope standard top

-- 0, 30, `Top`, `Top - 30`
priorities : map (λ e. aspect_faults visible TASK_PRIORITY (priority 4 e)) (
    number 9 0 ∷ number 9 30 ∷ named 9 (codes "TOP") ∷ Binary binary.Subtract (named 9 (codes "TOP")) (number 15 30) ∷ []
    ) ≡ [] ∷ [] ∷ [] ∷ [] ∷ []
priorities = refl

-- 31, -1, `Top + 1`, `1 / 0`, an if expression, a truth value
no_priorities : map (λ e. aspect_faults visible TASK_PRIORITY (priority 4 e)) (
    number 9 31
    ∷ Unary unary.Minus 9 (number 10 1)
    ∷ Binary binary.Add (named 9 (codes "TOP")) (number 15 1)
    ∷ Binary binary.Divide (number 9 1) (number 13 0)
    ∷ Conditional 9 (named 13 (codes "TRUE")) (number 23 1) NoElsifValues (number 30 2)
    ∷ named 9 (codes "TRUE")
    ∷ []
    ) ≡ (fault 38 4 ∷ []) ∷ (fault 38 4 ∷ []) ∷ (fault 38 4 ∷ []) ∷ (fault 38 4 ∷ []) ∷ (fault 38 4 ∷ []) ∷ (fault 38 4 ∷ []) ∷ []
no_priorities = refl

another_aspect : aspect_faults visible TASK_PRIORITY (Some (aspect 4 (codes "STORAGE_SIZE") (number 9 3))) ≡ fault 38 4 ∷ []
another_aspect = refl

-- ---- entries

first_entry_alone : map (entries_faults false) (
    (OfEntry (entry 1 (codes "A")) ∷ [])
    ∷ (OfSubprogram (procedure 1 (codes "A")) None ∷ OfEntry (entry 2 (codes "B")) ∷ OfSubprogram (procedure 3 (codes "C")) None ∷ OfEntry (entry 4 (codes "D")) ∷ OfEntry (entry 5 (codes "E")) ∷ [])
    ∷ []
    ) ≡ [] ∷ (fault 31 4 ∷ fault 31 5 ∷ []) ∷ []
first_entry_alone = refl

entries_of_a_task : task_faults standard (record {
  place = 1;
  name = identifier 6 (codes "T");
  aspect = priority 8 (number 20 31);
  definition = Some (record { entries = record { place = 30; name = identifier 36 (codes "A") } ∷ record { place = 40; name = identifier 46 (codes "B") } ∷ []; end_name = identifier 53 (codes "T") });
}) ≡ fault 38 8 ∷ fault 32 30 ∷ fault 32 40 ∷ []
entries_of_a_task = refl

-- ---- pragmas

abbrev with_main : List Pragma → Option PackageTree → ProgramTree
with_main pragmas package_ = record {
  pragmas = pragmas;
  package_ = package_;
  main = record { place = 900; name = identifier 910 (codes "MAIN"); aspect = None; statements = main_statement.Null 930 ∷ []; end_name = identifier 940 (codes "MAIN") };
}

abbrev profile : ℕ → Pragma
profile place = pragma_of place (codes "PROFILE") (codes "RAVENSCAR")

abbrev policy : ℕ → Pragma
policy place = pragma_of place (codes "PARTITION_ELABORATION_POLICY") (codes "SEQUENTIAL")

right_pragmas : map (λ ps. pragma_faults (with_main ps None)) ((profile 0 ∷ []) ∷ (profile 0 ∷ policy 100 ∷ []) ∷ []) ≡ [] ∷ [] ∷ []
right_pragmas = refl

-- none, another name, another argument, the policy first, the profile twice, another policy, a third pragma, two faults
wrong_pragmas : map (λ ps. pragma_faults (with_main ps None)) (
    []
    ∷ (pragma_of 0 (codes "OPTIMIZE") (codes "RAVENSCAR") ∷ [])
    ∷ (pragma_of 0 (codes "PROFILE") (codes "JORVIK") ∷ [])
    ∷ (policy 0 ∷ profile 100 ∷ [])
    ∷ (profile 0 ∷ profile 100 ∷ [])
    ∷ (profile 0 ∷ pragma_of 100 (codes "PARTITION_ELABORATION_POLICY") (codes "CONCURRENT") ∷ [])
    ∷ (profile 0 ∷ policy 100 ∷ policy 200 ∷ [])
    ∷ (pragma_of 0 (codes "PROFILE") (codes "JORVIK") ∷ policy 100 ∷ policy 200 ∷ [])
    ∷ []
    ) ≡ (fault 39 900 ∷ []) ∷ (fault 39 7 ∷ []) ∷ (fault 39 50 ∷ []) ∷ (fault 39 7 ∷ []) ∷ (fault 39 107 ∷ []) ∷ (fault 39 150 ∷ []) ∷ (fault 39 200 ∷ []) ∷ (fault 39 50 ∷ []) ∷ []
wrong_pragmas = refl

-- ---- whole programs, of a package with these clauses, these items and these bodies

abbrev app : List UnitClause → List ItemTree → List BodyItemTree → PackageTree
app clauses items bodies = record {
  clauses = clauses;
  declaration = record { place = 300; name = identifier 308 (codes "APP"); items = items; end_name = identifier 500 (codes "APP") };
  body = record { place = 510; name = identifier 523 (codes "APP"); items = bodies; end_name = identifier 870 (codes "APP") };
  with_name = identifier 880 (codes "APP");
}

abbrev control_io : UnitClause
control_io = record {
  place = 260;
  unit = record { first = identifier 265 (codes "CONTROL_IO"); second = None };
  used = record { first = identifier 281 (codes "CONTROL_IO"); second = None };
}

abbrev quiet : ℕ → List ℕ → BodyTree
quiet place text = record { declarations = []; statements = stmts_of (Null place ∷ []); handlers = NoHandlers; end_name = identifier (place + 10) text }

abbrev slow : ℕ → List ℕ → BodyTree
slow place text = record { declarations = []; statements = stmts_of (Delay place (number (place + 6) 1) ∷ []); handlers = NoHandlers; end_name = identifier (place + 10) text }

-- no pragma: the first token behind the place where one should stand
missing_pragmas : map (λ p. pragma_faults (with_main [] p)) (Some (app (control_io ∷ []) [] []) ∷ Some (app [] [] []) ∷ []) ≡ (fault 39 260 ∷ []) ∷ (fault 39 300 ∷ []) ∷ []
missing_pragmas = refl

-- a constant, a task with that priority, an object with an entry, and their bodies
abbrev restricted_program : ProgramTree
restricted_program = with_main (profile 0 ∷ policy 100 ∷ []) (Some (app (control_io ∷ []) (
    top
    ∷ OfTask (task 330 (codes "T") (priority 340 (named 350 (codes "TOP"))))
    ∷ OfProtected (object 360 (codes "P") (priority 380 (number 390 0)) (OfEntry (entry 400 (codes "TAKE")) ∷ []))
    ∷ []
    ) (
    TaskBody (identifier 550 (codes "T")) (quiet 560 (codes "T"))
    ∷ ProtectedBody (identifier 600 (codes "P")) (EntryBody (entry 610 (codes "TAKE")) (named 630 (codes "FULL")) (quiet 640 (codes "TAKE")) ∷ []) (identifier 660 (codes "P"))
    ∷ []
    )))

is_restricted : IsRestricted restricted_program
is_restricted = refl

is_legal : IsLegal restricted_program
is_legal = refl

-- each part of a program is looked at: what stands in the specification, in the package's body, and main's aspect
abbrev broken_program : ProgramTree
broken_program = record {
  pragmas = pragma_of 0 (codes "PROFILE") (codes "JORVIK") ∷ [];
  package_ = Some (app [] (
      OfTask (task 330 (codes "T") (priority 340 (number 350 40)))
      ∷ OfProtected (object 360 (codes "P") None (OfEntry (entry 400 (codes "TAKE")) ∷ OfEntry (entry 410 (codes "WAIT")) ∷ []))
      ∷ []
      ) (
      OfItem (OfTask (task 530 (codes "U") (Some (aspect 540 (codes "SIZE") (number 550 1)))))
      ∷ OfItem (OfProtected (object 560 (codes "Q") (priority 570 (number 580 32)) []))
      ∷ TaskBody (identifier 650 (codes "T")) (slow 660 (codes "T"))
      ∷ SubprogramBody (procedure 680 (codes "RUN")) (slow 690 (codes "RUN"))
      ∷ ProtectedBody (identifier 710 (codes "P")) (
      EntryBody (entry 720 (codes "TAKE")) (named 730 (codes "FULL")) (quiet 740 (codes "TAKE"))
      ∷ EntryBody (entry 750 (codes "WAIT")) (named 760 (codes "OPEN")) (slow 770 (codes "WAIT"))
      ∷ OperationBody (procedure 790 (codes "GO")) (slow 800 (codes "GO"))
      ∷ []
      ) (identifier 820 (codes "P"))
      ∷ ProtectedBody (identifier 830 (codes "R")) (EntryBody (entry 840 (codes "TAKE")) (named 850 (codes "FULL")) (quiet 855 (codes "TAKE")) ∷ []) (identifier 865 (codes "R"))
      ∷ []
      ));
  main = record {
    place = 900;
    name = identifier 910 (codes "MAIN");
    aspect = priority 915 (number 930 31);
    statements = main_statement.Null 940 ∷ [];
    end_name = identifier 950 (codes "MAIN");
  };
}

all_that_is_broken : restriction_faults broken_program
    ≡ fault 39 50
    ∷ fault 38 340
    ∷ fault 31 410
    ∷ fault 38 540
    ∷ fault 38 570
    ∷ fault 34 660
    ∷ fault 34 690
    ∷ fault 33 760
    ∷ fault 34 770
    ∷ fault 34 800
    ∷ fault 33 850
    ∷ fault 38 915
    ∷ []
all_that_is_broken = refl

the_first : least (restriction_faults broken_program) ≡ Some (fault 39 50)
the_first = refl
