-- Compound statements that no text of checks/rules.txt can show: with doubtful names, or left out by the profile. Places are those in the text above each.
use Rattle.std.proofs.Common.{◌≡◌, [], ◌∷◌, None, false, refl}
use Rattle.std.specs.Prelude.{codes}
use Rattle.ada_tree.specs.declared.statement.ExceptionChoice.TheVariants.{Exception as Chosen}
use Rattle.ada_tree.specs.ExpressionTree.{Named, NoSelectors}
use Rattle.ada_tree.specs.StatementTree.{LocalTask, For, Values, OtherValues, NoStmts, MoreStmts, Null, Assignment, If, Case, Loop, Block, NoElsifs, NoAlternatives, MoreAlternatives, NoHandlers, MoreHandlers}
use Rattle.stmt_rules.proofs.Sample.{found, identifier, name_of, num, procedure, range_of}

-- ---- if statements (RM 5.3)

-- `if W then null; end if;`
condition_doubtful : found procedure (MoreStmts (If 0 (Named (identifier 3 (codes "W")) NoSelectors) (MoreStmts (Null 10) NoStmts) NoElsifs NoStmts)
    NoStmts) ≡ None
condition_doubtful = refl

-- ---- case statements (RM 5.4)

-- `case W is when 1 => null; when True => null; when others => null; end case;`
case_doubtful : found procedure (MoreStmts (Case 0 (Named (identifier 5 (codes "W")) NoSelectors) (MoreAlternatives 10 (Values ((num 15 1) ∷ [])) (MoreStmts
    (Null 20) NoStmts) (MoreAlternatives 26 (Values ((Named (identifier 31 (codes "TRUE")) NoSelectors) ∷ [])) (MoreStmts (Null 39) NoStmts)
    (MoreAlternatives 45 (OtherValues 50) (MoreStmts (Null 60) NoStmts) NoAlternatives)))) NoStmts) ≡ None
case_doubtful = refl

-- `case X is when W => null; when W => null; when others => null; end case;`
doubtful_choice : found procedure (MoreStmts (Case 0 (Named (identifier 5 (codes "X")) NoSelectors) (MoreAlternatives 10 (Values ((Named (identifier 15
    (codes "W")) NoSelectors) ∷ [])) (MoreStmts (Null 20) NoStmts) (MoreAlternatives 26 (Values ((Named (identifier 31 (codes "W")) NoSelectors) ∷ []))
    (MoreStmts (Null 36) NoStmts) (MoreAlternatives 42 (OtherValues 47) (MoreStmts (Null 57) NoStmts) NoAlternatives)))) NoStmts) ≡ None
doubtful_choice = refl

-- ---- loops (RM 5.5)

-- `for I in W .. 3 loop X := I; S := I; end loop;`
parameter_of_doubtful_bounds : found procedure (MoreStmts (Loop 0 (For (identifier 4 (codes "I")) false (range_of (Named (identifier 9 (codes "W"))
    NoSelectors) (num 14 3))) (MoreStmts (Assignment (name_of (identifier 21 (codes "X")) NoSelectors) (Named (identifier 26 (codes "I")) NoSelectors))
    (MoreStmts (Assignment (name_of (identifier 29 (codes "S")) NoSelectors) (Named (identifier 34 (codes "I")) NoSelectors)) NoStmts))) NoStmts) ≡ None
parameter_of_doubtful_bounds = refl

-- ---- blocks (RM 5.6)

-- `declare task Z; begin null; end;`
local_task_is_legal : found procedure (MoreStmts (Block 0 (LocalTask (record {
  place = 8;
  name = (identifier 13 (codes "Z"));
  aspect = None;
  definition =
      None;
}) ∷ []) (MoreStmts (Null 22) NoStmts) NoHandlers) NoStmts) ≡ None
local_task_is_legal = refl

-- ---- handlers (RM 11.2)

-- `begin null; exception when W => null; when W => null; end;`
handled_doubtful : found procedure (MoreStmts (Block 0 ([]) (MoreStmts (Null 6) NoStmts) (MoreHandlers (Chosen (identifier 27 (codes "W")) ∷ []) (MoreStmts
    (Null 32) NoStmts) (MoreHandlers (Chosen (identifier 43 (codes "W")) ∷ []) (MoreStmts (Null 48) NoStmts) NoHandlers))) NoStmts) ≡ None
handled_doubtful = refl
