use Rattle.part_code.proofs.extent.Extent.restore.Goals as goal

pub returns-clause-visible : goal.returns-clause-visible
returns-clause-visible c = λ j. record { scope = c.truncate.ensures j; slots = c.truncate-2.ensures j; subprograms = c.truncate-3.ensures j; operations = c.args.visible.now.operations }
