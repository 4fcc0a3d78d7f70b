-- What is found, in order and each once, is the list of all broken rules.
use Rattle.std.proofs.Common.{◌++◌, inl, inr}
use Rattle.std.specs.List.{Contains}
use Rattle.std.proofs.lemmas.List.Elements.{Contains-append_cases, Contains-append_left, Contains-append_right}
use Rattle.lexer.specs.declared.fault.Fault.{Fault}
use Rattle.ada_tree.specs.ProgramTree.{ProgramTree}
use Rattle.expr_rules.specs.Faults.{Faults}
use Rattle.legality.specs.FoundFaults.{FindsWhatIsBroken, found_faults}
use Rattle.legality.specs.ProgramRules.{program_faults}
use Rattle.ravenscar.specs.BrokenRules.{AreInOrderOfPlaces, ListsBrokenRules}
use Rattle.ravenscar.specs.ProgramRules.{restriction_faults}

either : (xs ys zs : Faults) (f : Fault) → (Contains xs f → Contains ys f) → Contains (xs ++ zs) f → Contains (ys ++ zs) f
either xs ys zs f same h =
    elim (Contains-append_cases xs zs f h) [
      | inl a ↦ Contains-append_left ys zs f (same a)
      | inr b ↦ Contains-append_right ys zs f b
    ]

pub listed : FindsWhatIsBroken → (t : ProgramTree) (faults : Faults)
    → AreInOrderOfPlaces faults
    → ((f : Fault) → Contains faults f → Contains (found_faults t ++ restriction_faults t) f)
    → ((f : Fault) → Contains (found_faults t ++ restriction_faults t) f → Contains faults f)
    → ListsBrokenRules t faults
listed finds t faults order given kept =
    record {
      ordered = order;
      broken = λ f h. either (found_faults t) (program_faults t) (restriction_faults t) f (finds.found t f) (given f h);
      complete = λ f h. kept f (either (program_faults t) (found_faults t) (restriction_faults t) f (finds.broken t f) h);
    }
