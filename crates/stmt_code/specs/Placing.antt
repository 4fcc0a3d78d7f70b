-- Places of statements and of declarations of objects, which of them stand within others, and how rows of places lie in code (docs/CODEGEN.md).
use Rattle.std.specs.List.{All}
use Rattle.std.specs.Prelude.{◌≤◌, ◌⊎◌, ◌&&◌, ℕ, List, [], ◌∷◌, ◌++◌, Option, None, Some, if◌then◌else◌, nat_le, nat_lt, ⊤}
use Rattle.ada_tree.specs.StatementTree.{Abort, Accept, AlternativeTrees, Assignment, Block, Call, Case, DeclarationTree, Delay, DelayUntil, ElsifTrees, Exit, HandlerTrees, If, LocalObject, Loop, MoreAlternatives, MoreElsifs, MoreHandlers, MoreStmts, NoAlternatives, NoElsifs, NoHandlers, NoStmts, Null, ObjectTree, Raise, Requeue, Return, Select, StmtTree, StmtTrees}
use Rattle.stmt_code.specs.declared.tables.PlaceRow.{PlaceRow}

-- ---- what has a place

-- a statement, or the declaration of an object in front of the statements of a body or a block
pub data Construct : Type 0 where
  OfStatement : StmtTree → Construct
  OfDeclaration : ObjectTree → Construct

-- the place of a statement's first token in the source
abbrev pub stmt_place : StmtTree → ℕ
stmt_place (Null place) = place
stmt_place (Assignment name value) = name.first.place
stmt_place (Call name) = name.first.place
stmt_place (Exit place condition) = place
stmt_place (Return place value) = place
stmt_place (Raise place name) = place
stmt_place (Delay place value) = place
stmt_place (DelayUntil place value) = place
stmt_place (If place condition body parts others) = place
stmt_place (Case place value all) = place
stmt_place (Loop place iteration body) = place
stmt_place (Block place locals body all) = place
stmt_place (Abort place name) = place
stmt_place (Requeue place first second) = place
stmt_place (Accept place name) = place
stmt_place (Select place) = place

-- that of its first token, which of a declaration is the name of the object
abbrev pub construct_place : Construct → ℕ
construct_place (OfStatement x) = stmt_place x
construct_place (OfDeclaration d) = d.name.place

-- ---- what is within what

-- a declaration of an object; other declarations have no place
abbrev pub local_within : DeclarationTree → List Construct
local_within (LocalObject d) = OfDeclaration d ∷ []
local_within d = []

abbrev pub locals_within : List DeclarationTree → List Construct
locals_within [] = []
locals_within (d ∷ ds) = local_within d ++ locals_within ds

-- the statements and declarations within a statement, in the order in which they end; within others, these too
abbrev mutual
  pub stmt_within : StmtTree → List Construct
  stmt_within (If place condition body elsifs others) = (stmts_within body ++ elsifs_within elsifs) ++ stmts_within others
  stmt_within (Case place value all) = alternatives_within all
  stmt_within (Loop place iteration body) = stmts_within body
  stmt_within (Block place locals body all) = locals_within locals ++ (stmts_within body ++ handlers_within all)
  stmt_within simple = []

  pub stmts_within : StmtTrees → List Construct
  stmts_within NoStmts = []
  stmts_within (MoreStmts x rest) = (stmt_within x ++ OfStatement x ∷ []) ++ stmts_within rest

  pub elsifs_within : ElsifTrees → List Construct
  elsifs_within NoElsifs = []
  elsifs_within (MoreElsifs condition body rest) = stmts_within body ++ elsifs_within rest

  pub alternatives_within : AlternativeTrees → List Construct
  alternatives_within NoAlternatives = []
  alternatives_within (MoreAlternatives place choices body rest) = stmts_within body ++ alternatives_within rest

  pub handlers_within : HandlerTrees → List Construct
  handlers_within NoHandlers = []
  handlers_within (MoreHandlers choices body rest) = stmts_within body ++ handlers_within rest

-- those within a sequence and its handlers
abbrev pub sequence_within : StmtTrees → HandlerTrees → List Construct
sequence_within body all = stmts_within body ++ handlers_within all

-- those within a body: its declarations, its statements and those of its handlers
abbrev pub body_within : List DeclarationTree → StmtTrees → HandlerTrees → List Construct
body_within locals body all = locals_within locals ++ sequence_within body all

-- ---- rows

-- its code stands between these places
pub record StandsBetween (from to : ℕ) (q : PlaceRow) : Type 0 where
  pub low : from ≤ q.first
  pub runs : q.first ≤ q.behind
  pub high : q.behind ≤ to

-- the one code ends in front of the other, or stands within it
abbrev pub IsInnerOrBefore : PlaceRow → PlaceRow → Type 0
IsInnerOrBefore q r = (q.behind ≤ r.first) ⊎ ((r.first ≤ q.first) × (q.behind ≤ r.behind))

-- Rows in an order in which the first that covers an instruction is that of the innermost statement or declaration whose code it is.
abbrev pub AreInnermostFirst : List PlaceRow → Type 0
AreInnermostFirst [] = ⊤
AreInnermostFirst (q ∷ rows) = All (IsInnerOrBefore q) rows × AreInnermostFirst rows

-- the place of the first row that covers an instruction
abbrev pub place_at : List PlaceRow → (address : ℕ) → Option ℕ
place_at [] address = None
place_at (q ∷ rows) address = if nat_le q.first address && nat_lt address q.behind then Some q.place else place_at rows address
