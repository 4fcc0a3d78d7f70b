use Rattle.std.proofs.Common.{◌≡◌, drop}
use Rattle.image_loading.specs.Loading.{behind_text, behind_all}
use Rattle.image_loading.proofs.table_faults.behind_texts.Given as goal

abbrev pub invariant-loop-text : goal.invariant-loop-text
invariant-loop-text l = behind_all behind_text l.byte (drop l.text-index l.texts) ≡ behind_all behind_text l.fn.start l.texts
