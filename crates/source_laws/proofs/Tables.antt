-- An accepted program has no more labels, subprograms, exceptions, tasks and protected objects, and its variables and components no more words, than an image.
use Rattle.std.proofs.Common.{◌≡◌, []}
use Rattle.meaning.specs.expr_rules.proofs.TypedLaw.{back_empty}
use Rattle.ada_tree.specs.ProgramTree.{ProgramTree}
use Rattle.legality.specs.ProgramLayouts.{WordsHaveRoom}
use Rattle.legality.specs.ProgramRules.{IsLegal}
use Rattle.program_soundness.specs.size_rules.specs.ProgramSizes.{size_faults}
use Rattle.package_code.specs.Laws.{TablesAreSmall}
use Rattle.source_laws.proofs.CountsFit.{exceptions_few}
use Rattle.package_code.proofs.InFront.{LawsOfNames}
use Rattle.source_laws.proofs.LabelsFit.{labels_few}
use Rattle.source_laws.proofs.TasksFit.{subprograms_few, tasks_few}
use Rattle.source_laws.proofs.PartsFit.{objects_few, words_few}

sizes_legal : (t : ProgramTree) → IsLegal t → size_faults t ≡ []
sizes_legal t legal = back_empty _ (size_faults t) legal

pub tables_small : LawsOfNames → WordsHaveRoom → TablesAreSmall
tables_small laws room t legal restricted =
    let sizes = sizes_legal t legal in
    record {
      labels = labels_few t.package_ sizes;
      words = words_few laws t legal restricted room sizes;
      subprograms = subprograms_few laws t legal restricted sizes;
      exceptions = exceptions_few t.package_ sizes;
      tasks = tasks_few t sizes;
      objects = objects_few laws t legal restricted sizes;
    }
