use Rattle.diagnostics.proofs.repairs.misspelling.misspelled_name.Goals as goal

pub returns : goal.returns
returns c = record { word = c.in_ok-word.word; is_first = c.in_ok-word.ensures; found_is = c.misspelling_of.ensures }
