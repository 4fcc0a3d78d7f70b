use Rattle.std.proofs.Common.{◌∙◌, ap, subst, sym}
use Rattle.measuring.specs.Measures.{measures, object_measures, usage_measures}
use Rattle.measuring.specs.Tables.{IsGrid, IsTable}
use Rattle.measuring.specs.Text.{frames_text, instants_row, instants_text, objects_text, usages_text, waits_text, work_text}
use Rattle.measuring.proofs.Rows.{row_added, six_tables, table_added}
use Rattle.measuring.proofs.text.text_of.Goals as goal

pub returns : goal.returns
returns c stories calls used instants are =
    let form = c.args.form in
    let image = c.args.image.now in
    let names = c.args.names.now in
    let actors = subst (λ table. IsTable table (λ t. measures (stories t))) (sym c.as_slice-actors.ensures.value) are.actors in
    let usages = subst (λ table. IsGrid table (λ t o. usage_measures (used t o))) (sym c.as_slice-usages.ensures.value) are.usages_are in
    let objects = subst (λ table. IsTable table (λ o. object_measures (calls o))) (sym c.deref.ensures.value) are.objects in
    six_tables _ _ _ _ _ _ _ (work_text form image (λ t. measures (stories t)) (λ t o. usage_measures (used t o))) (waits_text form image (λ t. measures (stories t)))
    (frames_text form image (λ t. measures (stories t))) (objects_text form image names (λ o. object_measures (calls o))) (usages_text form image names (λ t o. usage_measures (used t o))) (instants_text form instants) c.new-text.ensures.items
    (table_added _ _ _ _ _ c.in_ok-add_heading.ensures (c.in_ok-add_work.ensures (λ t. measures (stories t)) (λ t o. usage_measures (used t o)) actors usages))
    (table_added _ _ _ _ _ c.in_ok-add_heading-2.ensures (c.in_ok-add_waits.ensures (λ t. measures (stories t)) actors))
    (table_added _ _ _ _ _ c.in_ok-add_heading-3.ensures (c.in_ok-add_frames.ensures (λ t. measures (stories t)) actors))
    (table_added _ _ _ _ _ c.in_ok-add_heading-4.ensures (c.in_ok-add_objects.ensures (λ o. object_measures (calls o)) objects))
    (table_added _ _ _ _ _ c.in_ok-add_heading-5.ensures (c.in_ok-add_usages.ensures (λ t o. usage_measures (used t o)) usages))
    (table_added _ _ _ _ _ c.in_ok-add_heading-6.ensures
    (row_added _ _ _ (instants_row form instants) c.in_ok-extend_from_slice.ensures.items (c.as_slice.ensures.value ∙ (c.instants_row.ensures ∙ ap (instants_row form) are.instants_are))))
