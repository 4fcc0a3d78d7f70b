use Rattle.image_loading.specs.Loading.{head_faults, text_faults}
use Rattle.image_loading.proofs.FirstFault.{two}
use Rattle.image_loading.proofs.raw_sections.RawSections.words_and_texts_fault.Goals as goal

pub returns : goal.returns
returns c =
    let r = c.args.self.now in
    rw c.sooner.ensures (two c.head_fault.result c.text_fault.result (head_faults r c.args.parts.now) (text_faults r) c.head_fault.ensures c.text_fault.ensures)
