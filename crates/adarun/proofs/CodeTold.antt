-- What is told of the code of a text: the program that was read is the one whose code is made.
use Rattle.std.proofs.Common.{◌≡◌, ◌≢◌, ◌⊎◌, ℕ, List, [], ap, inl, inr, subst, sym}
use Rattle.base.specs.declared.faults.TheConstants.{MEMORY_REFUSED}
use Rattle.lexer.specs.Fault.{memory_fault}
use Rattle.lexer.specs.Spelling.{IsBroken, IsRefusedForMemory, Spells}
use Rattle.lexer.specs.declared.fault.Fault.{Fault}
use Rattle.lexer.specs.declared.token.Token.{Token}
use Rattle.parser.specs.Parsing.{Derives, IsRefusal}
use Rattle.compiler.specs.ada_tree.specs.declared.program.Program.{Program}
use Rattle.compiler.specs.ada_tree.specs.ProgramTree.{program_tree}
use Rattle.compiler.specs.expr_rules.specs.Faults.{IsLeast}
use Rattle.legality.specs.ProgramRules.{IsLegal, RefusesProgram, program_faults}
use Rattle.ravenscar.specs.ProgramRules.{IsRestricted, RefusesUnrestricted, restriction_faults}
use Rattle.diagnostics.specs.hints.Notes.{HasNone, IsUnspelled}
use Rattle.adarun.specs.CodeTold.{IsUnaccepted, TellsCode, TellsStopOrNone}

-- a fault that is not that of memory
not_memory : (fault : Fault) → fault.number ≢ MEMORY_REFUSED → fault ≡ memory_fault → ⊥
not_memory fault not is = not (ap (λ (f : Fault). f.number) is)

-- ---- a program that is not accepted

abbrev pub RefusedBy : Program → Fault → Type 0
RefusedBy read fault =
    (fault ≡ memory_fault) ⊎ (IsLeast (program_faults (program_tree read)) fault ⊎ IsLeast (restriction_faults (program_tree read)) fault)

pub check_refused : (made read : Program) (fault : Fault) → made ≡ read → RefusesProgram (program_tree made) fault → RefusedBy read fault
check_refused made read fault same (inl memory) = inl memory
check_refused made read fault same (inr least) = inr (inl (subst (λ p. IsLeast (program_faults (program_tree p)) fault) same least))

pub restrict_refused : (made read : Program) (fault : Fault) → made ≡ read → RefusesUnrestricted (program_tree made) fault → RefusedBy read fault
restrict_refused made read fault same (inl memory) = inl memory
restrict_refused made read fault same (inr least) = inr (inr (subst (λ p. IsLeast (restriction_faults (program_tree p)) fault) same least))

-- ---- what is told

module _ (text told : List ℕ) (none : told ≡ []) (fault : Fault) (not : fault.number ≢ MEMORY_REFUSED) where
  unspelled : IsBroken text fault ⊎ IsRefusedForMemory text fault → IsUnspelled text
  unspelled (inl broken) = record { fault = fault; broken = broken }
  unspelled (inr refused) = absurd (not_memory fault not refused.memory)

  pub of_unspelled : IsBroken text fault ⊎ IsRefusedForMemory text fault → TellsCode text told
  of_unspelled h = inr (none, inl (unspelled h))

  module _ (tokens list : List Token) (spells : Spells text tokens) (same : list ≡ tokens) where
    treeless : IsRefusal list fault → HasNone text
    treeless (inl memory) = absurd (not_memory fault not memory)
    treeless (inr faulty) = record { tokens = list; spells = subst (Spells text) (sym same) spells; fault = fault; faulty = faulty }

    pub of_treeless : IsRefusal list fault → TellsCode text told
    of_treeless h = inr (none, inr (inl (treeless h)))

    module _ (read : Program) (derives : Derives (program_tree read) list) where
      unaccepted : RefusedBy read fault → IsUnaccepted text
      unaccepted (inl memory) = absurd (not_memory fault not memory)
      unaccepted (inr least) = record {
        tree = program_tree read;
        is_tree = record { tokens = tokens; spells = spells; derives = subst (Derives (program_tree read)) same derives };
        fault = fault;
        least = least;
      }

      pub of_unaccepted : RefusedBy read fault → TellsCode text told
      of_unaccepted h = inr (none, inr (inr (unaccepted h)))

-- of an accepted program what is told of its tree
pub of_accepted : (text told : List ℕ) (tokens list : List Token) (read accepted : Program) → Spells text tokens → list ≡ tokens
    → Derives (program_tree read) list → accepted ≡ read → IsLegal (program_tree accepted) → IsRestricted (program_tree accepted) → (shown : List Token)
    → shown ≡ tokens → TellsStopOrNone (program_tree accepted) text shown told → TellsCode text told
of_accepted text told tokens list read accepted spells same derives is legal restricted shown alike tells =
    inl (record {
      tree = program_tree accepted;
      accepted = record {
        is_tree = record {
          tokens = tokens;
          spells = spells;
          derives = subst (λ p. Derives (program_tree p) tokens) (sym is) (subst (Derives (program_tree read)) same derives);
        };
        legal = legal;
        restricted = restricted;
      };
      tells = subst (λ l. TellsStopOrNone (program_tree accepted) text l told) alike tells;
    })
