use Rattle.image_loading.specs.Loading.{count_faults, text_count_faults, word_faults}
use Rattle.image_loading.proofs.FirstFault.{three}
use Rattle.image_loading.proofs.raw_sections.RawSections.head_fault.Goals as goal

pub returns : goal.returns
returns c =
    let r = c.args.self.now in
    let i = c.args.parts.now in
    rw (c.sooner-2.ensures, c.sooner.ensures)
    (three c.count_fault.result c.text_count_fault.result c.word_fault.result (count_faults i) (text_count_faults i) (word_faults r i) c.count_fault.ensures c.text_count_fault.ensures c.word_fault.ensures)
