-- How what is open is named, and what closes it.
use Rattle.std.specs.Prelude.{ℕ, List, codes}
use Rattle.remedies.specs.declared.opening.Opened.{Opened}
use Rattle.remedies.specs.declared.opening.Opened.TheVariants as opened

abbrev pub part_of : Opened → List ℕ
part_of opened.Parenthesis = codes "a parenthesis"
part_of opened.Package = codes "the specification of a package"
part_of opened.PackageBody = codes "a package body"
part_of opened.Task = codes "a task"
part_of opened.Protected = codes "a protected object"
part_of opened.ProtectedBody = codes "a protected body"
part_of opened.Declarations = codes "a body"
part_of opened.Statements = codes "a body"
part_of opened.Main = codes "the body of main"
part_of opened.MainStatements = codes "the body of main"
part_of opened.Declare = codes "a block"
part_of opened.Block = codes "a block"
part_of opened.If = codes "an `if`"
part_of opened.Case = codes "a `case`"
part_of opened.Loop = codes "a loop"
part_of opened.Record = codes "a record"
part_of opened.Select = codes "a `select`"

abbrev pub closing_of : Opened → List ℕ
closing_of opened.Parenthesis = codes "closed by `)`"
closing_of opened.Package = codes "closed by `end` and its name"
closing_of opened.PackageBody = codes "closed by `end` and its name"
closing_of opened.Task = codes "closed by `end` and its name"
closing_of opened.Protected = codes "closed by `end` and its name"
closing_of opened.ProtectedBody = codes "closed by `end` and its name"
closing_of opened.Declarations = codes "closed by `end` and its name"
closing_of opened.Statements = codes "closed by `end` and its name"
closing_of opened.Main = codes "closed by `end` and its name"
closing_of opened.MainStatements = codes "closed by `end` and its name"
closing_of opened.Declare = codes "closed by `end;`"
closing_of opened.Block = codes "closed by `end;`"
closing_of opened.If = codes "closed by `end if;`"
closing_of opened.Case = codes "closed by `end case;`"
closing_of opened.Loop = codes "closed by `end loop;`"
closing_of opened.Record = codes "closed by `end record;`"
closing_of opened.Select = codes "closed by `end select;`"
