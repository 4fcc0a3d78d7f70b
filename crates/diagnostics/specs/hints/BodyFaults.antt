-- Which of its cases a fault 18 is, by the place of the name at which it is (RM 3.11.1, 6.3.1, 7.2, 9.1, 9.4).
use Rattle.std.specs.Prelude.{ℕ, Bool, true, false, not, ◌&&◌, ◌||◌, List, [], ◌++◌, Option, Some, None, bytes_eq, codes, if◌then◌else◌, nat_lt}
use Rattle.std.specs.List.{list_any}
use Rattle.ada_tree.specs.declared.expression.Identifier.{Identifier}
use Rattle.ada_tree.specs.StatementTree.{OfEntry, OfSubprogram, OperationTree}
use Rattle.ada_tree.specs.ProgramTree.{BodyItemTree, EntryBody, ItemTree, OfItem, OfProtected, OfTask, OperationBody, PackageTree, ProtectedBody, ProtectedItemTree, SubprogramBody, TaskBody}
use Rattle.ada_tree.specs.ProgramTree.{OfSubprogram as OfDeclared}
use Rattle.diagnostics.specs.counterparts.Fronts.{is_at, part_name}
use Rattle.diagnostics.specs.counterparts.Unmatched.{body_name}
use Rattle.diagnostics.specs.hints.Found.{first_found, or_else}
use Rattle.diagnostics.specs.declared.hints.body_faults.BodyFault.{BodyFault}
use Rattle.diagnostics.specs.declared.hints.body_faults.BodyFault.TheVariants as faults
use Rattle.diagnostics.specs.declared.hints.body_faults.TheConstants.{MISSING_BODY, NO_DECLARATION, NOTHING_WITH_BODY, OTHER_KIND, OTHER_PACKAGE_NAME, OTHER_PROFILE, SECOND_BODY}

abbrev pub is_same : Identifier → Identifier → Bool
is_same name other = bytes_eq other.name name.name

-- the other one has the name, and is earlier in the text
abbrev pub is_earlier : Identifier → Identifier → Bool
is_earlier name other = is_same name other && nat_lt other.place name.place

-- ---- a declaration

abbrev pub is_operation_at : ℕ → OperationTree → Bool
is_operation_at place o = is_at place (part_name o)

-- at the place is the name of a subprogram, a task, a protected object, or of an operation of this one
abbrev pub declares_at : ℕ → ItemTree → Bool
declares_at place (OfDeclared d) = is_at place d.name
declares_at place (OfTask d) = is_at place d.name
declares_at place (OfProtected d) = is_at place d.name || list_any (is_operation_at place) d.operations
declares_at place d = false

abbrev pub fault_of_item : ℕ → ItemTree → Option BodyFault
fault_of_item place d = if declares_at place d then Some faults.MissingBody else None

-- ---- a body

abbrev pub second_or : Bool → BodyFault → BodyFault
second_or true other = faults.SecondBody
second_or false other = other

-- a body of the same kind that is earlier and has the name
abbrev pub is_earlier_body : BodyItemTree → BodyItemTree → Bool
is_earlier_body (SubprogramBody d b) (SubprogramBody e c) = is_earlier d.name e.name
is_earlier_body (TaskBody name b) (TaskBody other c) = is_earlier name other
is_earlier_body (ProtectedBody name is e) (ProtectedBody other js f) = is_earlier name other
is_earlier_body i j = false

abbrev pub fault_of_body : (all : List BodyItemTree) → BodyItemTree → BodyFault → Option BodyFault
fault_of_body all i other = Some (second_or (list_any (is_earlier_body i) all) other)

-- ---- an operation's body

abbrev pub is_entry_body : ProtectedItemTree → Bool
is_entry_body (OperationBody d b) = false
is_entry_body (EntryBody d barrier b) = true

abbrev pub is_earlier_operation : ProtectedItemTree → ProtectedItemTree → Bool
is_earlier_operation i j = is_earlier (body_name i) (body_name j)

-- the operation has this name, and is an entry or none
abbrev pub is_declared_as : (entry : Bool) → Identifier → OperationTree → Bool
is_declared_as true name (OfEntry d) = is_same name d.name
is_declared_as false name (OfSubprogram d a) = is_same name d.name
is_declared_as entry name o = false

-- it declares the object, with such an operation
abbrev pub has_operation_as : (entry : Bool) → (object name : Identifier) → ItemTree → Bool
has_operation_as entry object name (OfProtected d) = is_same object d.name && list_any (is_declared_as entry name) d.operations
has_operation_as entry object name d = false

abbrev pub item_has_operation_as : (entry : Bool) → (object name : Identifier) → BodyItemTree → Bool
item_has_operation_as entry object name (OfItem d) = has_operation_as entry object name d
item_has_operation_as entry object name i = false

-- in the specification or the body of the package
abbrev pub declares_operation_as : (specified : List ItemTree) → (all : List BodyItemTree) → (entry : Bool) → (object name : Identifier) → Bool
declares_operation_as specified all entry object name =
    list_any (has_operation_as entry object name) specified || list_any (item_has_operation_as entry object name) all

-- of a body without another one before it: by what the object declares with its name
abbrev pub fault_of_declared : (as_other_kind as_own_kind : Bool) → BodyFault
fault_of_declared true own = faults.OtherKind
fault_of_declared false true = faults.OtherProfile
fault_of_declared false false = faults.NoDeclaration

abbrev pub fault_of_operation : List ItemTree → List BodyItemTree → (object : Identifier) → List ProtectedItemTree → ProtectedItemTree → BodyFault
fault_of_operation specified all object operations i =
    second_or (list_any (is_earlier_operation i) operations)
    (fault_of_declared (declares_operation_as specified all (not (is_entry_body i)) object (body_name i))
    (declares_operation_as specified all (is_entry_body i) object (body_name i)))

unfoldable pub operation_fault : ℕ → List ItemTree → List BodyItemTree → (object : Identifier) → List ProtectedItemTree → ProtectedItemTree → Option BodyFault
operation_fault place specified all object operations i =
    if is_at place (body_name i) then Some (fault_of_operation specified all object operations i) else None

-- ---- all

abbrev pub fault_of_body_item : ℕ → (specified : List ItemTree) → (all : List BodyItemTree) → BodyItemTree → Option BodyFault
fault_of_body_item place specified all (OfItem d) = fault_of_item place d
fault_of_body_item place specified all (SubprogramBody d b) = if is_at place d.name then fault_of_body all (SubprogramBody d b) faults.OtherProfile else None
fault_of_body_item place specified all (TaskBody name b) = if is_at place name then fault_of_body all (TaskBody name b) faults.NoDeclaration else None
fault_of_body_item place specified all (ProtectedBody name items end_name) =
    if is_at place name then fault_of_body all (ProtectedBody name items end_name) faults.NoDeclaration
    else first_found (operation_fault place specified all name items) items

abbrev pub fault_of_items : ℕ → (specified : List ItemTree) → (all : List BodyItemTree) → Option BodyFault
fault_of_items place specified all = or_else (first_found (fault_of_item place) specified) (first_found (fault_of_body_item place specified all) all)

abbrev pub fault_of_package : ℕ → PackageTree → Option BodyFault
fault_of_package place p =
    if is_at place p.declaration.name then Some faults.NothingWithBody
    else (if is_at place p.body.name then Some faults.OtherPackageName
    else fault_of_items place p.declaration.items p.body.items)

-- which case a fault 18 at this place is, of the names of declarations and bodies of the package
abbrev pub body_fault : ℕ → Option PackageTree → Option BodyFault
body_fault place (Some p) = fault_of_package place p
body_fault place None = None

abbrev pub words_of : BodyFault → List ℕ
words_of faults.NothingWithBody = NOTHING_WITH_BODY.now
words_of faults.OtherPackageName = OTHER_PACKAGE_NAME.now
words_of faults.MissingBody = MISSING_BODY.now
words_of faults.SecondBody = SECOND_BODY.now
words_of faults.OtherProfile = OTHER_PROFILE.now
words_of faults.OtherKind = OTHER_KIND.now
words_of faults.NoDeclaration = NO_DECLARATION.now

abbrev pub body_fault_lines : Option BodyFault → List ℕ
body_fault_lines (Some fault) = codes "hint: " ++ words_of fault ++ codes "\n"
body_fault_lines None = []
