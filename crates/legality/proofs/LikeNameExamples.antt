-- Names between a protected object and its body, worked by computation. Each number is the place of a name.
use Rattle.std.proofs.Common.{◌≡◌, ℕ, List, [], ◌∷◌, None, refl}
use Rattle.std.specs.Prelude.{codes}
use Rattle.base.specs.declared.faults.TheConstants.{DECLARED_TWICE}
use Rattle.lexer.specs.declared.fault.Fault.{Fault}
use Rattle.ada_tree.specs.declared.expression.Identifier.{Identifier}
use Rattle.ada_tree.specs.StatementTree.{OfSubprogram, OfEntry, SubprogramTree, NoStmts, NoHandlers}
use Rattle.ada_tree.specs.ProgramTree.{ItemTree, OfException, OfProtected, BodyTree, BodyItemTree, OfItem, SubprogramBody, ProtectedBody, PackageTree}
use Rattle.ada_tree.specs.ProgramTree.{OfSubprogram as OfDeclared}
use Rattle.legality.specs.LikeNames.{like_name_faults}

abbrev identifier : ℕ → List ℕ → Identifier
identifier place text = record { name = text; place = place }

abbrev twice : ℕ → Fault
twice place = record { number = DECLARED_TWICE; place = place }

abbrev procedure : Identifier → SubprogramTree
procedure name = record { place = 0; name = name; formals = []; result = None }

abbrev body : Identifier → BodyTree
body name = record { declarations = []; statements = NoStmts; handlers = NoHandlers; end_name = name }

-- protected P is procedure Give; entry Take; private Full : Boolean; end P;
abbrev store : ItemTree
store = OfProtected (record {
  place = 0;
  name = identifier 1 (codes "P");
  aspect = None;
  operations = OfSubprogram (procedure (identifier 2 (codes "GIVE"))) None ∷ OfEntry (record { place = 0; name = identifier 3 (codes "TAKE"); formals = [] }) ∷ [];
  components = record { name = identifier 4 (codes "FULL"); subtype = identifier 5 (codes "BOOLEAN"); value = None } ∷ [];
  end_name = identifier 6 (codes "P");
})

abbrev body_of : List ℕ → BodyItemTree
body_of name = ProtectedBody (identifier 7 name) [] (identifier 8 name)

abbrev exception_named : ℕ → List ℕ → ItemTree
exception_named place name = OfException (identifier place name)

abbrev package_of : List ItemTree → List BodyItemTree → PackageTree
package_of specified items =
    record {
      clauses = [];
      declaration = record { place = 0; name = identifier 0 (codes "APP"); items = specified; end_name = identifier 0 (codes "APP") };
      body = record { place = 0; name = identifier 0 (codes "APP"); items = items; end_name = identifier 0 (codes "APP") };
      with_name = identifier 0 (codes "APP");
    }

-- behind the object in the specification: an operation's name, an entry's, a component's, and another
in_the_specification : like_name_faults
    (package_of
    (store ∷ exception_named 20 (codes "GIVE") ∷ exception_named 21 (codes "TAKE") ∷ exception_named 22 (codes "FULL") ∷ exception_named 23 (codes "V") ∷ [])
    (body_of (codes "P") ∷ []))
    ≡ twice 20 ∷ twice 21 ∷ twice 22 ∷ []
in_the_specification = refl

-- in front of the object the name is the object's fault, and none here
in_front_of_the_object : like_name_faults (package_of (exception_named 20 (codes "GIVE") ∷ store ∷ []) (body_of (codes "P") ∷ [])) ≡ []
in_front_of_the_object = refl

-- in the body of the package up to the object's body; behind it the name is free again
up_to_its_body : like_name_faults
    (package_of (store ∷ [])
    (OfItem (exception_named 20 (codes "FULL")) ∷ body_of (codes "Q") ∷ OfItem (exception_named 21 (codes "GIVE")) ∷ body_of (codes "P") ∷ OfItem
    (exception_named 22 (codes "TAKE")) ∷ []))
    ≡ twice 20 ∷ twice 21 ∷ []
up_to_its_body = refl

-- an object that is declared in the body of the package; declarations and bodies of procedures between
in_the_body : like_name_faults
    (package_of []
    (OfItem (exception_named 20 (codes "GIVE")) ∷ OfItem store ∷ OfItem (OfDeclared (procedure (identifier 21 (codes "TAKE")))) ∷ SubprogramBody
    (procedure (identifier 22 (codes "GIVE"))) (body (identifier 23 (codes "GIVE"))) ∷ body_of (codes "P") ∷ []))
    ≡ twice 21 ∷ twice 22 ∷ []
in_the_body = refl
