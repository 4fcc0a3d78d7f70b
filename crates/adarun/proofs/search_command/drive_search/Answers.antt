use Rattle.std.proofs.Common.{◌≡◌, ◌∙◌, Err, ap, inr, of_z, refl, rules, subst, to_z, w64}
use Rattle.adarun.specs.Reading.{with_input}
use Rattle.adarun.specs.Searching.{BeginsReport, RefusesSearching, WritesReport}
use Rattle.adarun.specs.declared.exploring.SearchFault.TheVariants as faults
use Rattle.adarun.proofs.Driving.{failed_keeps, refused_leaves}
use Rattle.adarun.proofs.Reading.{choices_whole, source_whole}
use Rattle.adarun.proofs.SearchCommand.{choices_leave, refused_search, search_leaves, searched_by}
use Rattle.adarun.proofs.search_command.drive_search.Goals as goal

pub returns-in-Ok-search-clause-leaves : goal.returns-in-Ok-search-clause-leaves
returns-in-Ok-search-clause-leaves g c =
    let u : to_z w64 (of_z w64 c.args.until) ≡ c.args.until = search rules in
    let writes =
    subst
    (λ z. WritesReport c.deref.result.now c.deref-2.result.now c.args.part z c.args.limit c.wanted_of.result c.in-Ok-search.outcome (g.O.Sink.bytes c.args.out.now)
    (g.O.Sink.bytes c.search.new.sink))
    u c.in-Ok-search.ensures.answers in
    let contents = with_input (g.F.FileStore.standard_input c.args.files.now) (g.F.FileStore.contents c.args.files.now) in
    let known = g.F.FileStore.contents c.args.files.now c.args.choices.now in
    search_leaves contents c.args.source.now known c.args.until c.args.limit _ c.args.part _ _ _ _ _ _ _ _ _ c.status_of.ensures.is c.in-Ok.ensures c.deref.ensures.value c.in-Ok-read.ensures c.deref-2.ensures.value
    c.wanted_of.ensures writes

pub returns-in-Err-Source-clause-leaves : goal.returns-in-Err-Source-clause-leaves
returns-in-Err-Source-clause-leaves g c =
    let until = to_z w64 (of_z w64 c.args.until) in
    let contents = with_input (g.F.FileStore.standard_input c.args.files.now) (g.F.FileStore.contents c.args.files.now) in
    let known = g.F.FileStore.contents c.args.files.now c.args.choices.now in
    refused_search contents c.args.source.now known _ c.args.limit _ c.args.part _ _ _ _ c.refuse_source.ensures
    (refused_leaves contents c.args.source.now known c.args.limit _ _ _ c.in-Err-Source.fault _ _ c.refuse_source.ensures c.in-Ok.ensures
    c.deref.ensures.value
    (subst (RefusesSearching c.deref.result.now c.deref-2.result.now until) c.in-Err-Source.field-0-is c.in-Err-Source.ensures.refused)
    (ap g.O.Sink.bytes (c.in-Err-Source.ensures.source c.in-Err-Source.fault (ap Err c.in-Err-Source.field-0-is))))

pub returns-in-Err-Choices-clause-leaves : goal.returns-in-Err-Choices-clause-leaves
returns-in-Err-Choices-clause-leaves g c =
    let u : to_z w64 (of_z w64 c.args.until) ≡ c.args.until = search rules in
    let contents = with_input (g.F.FileStore.standard_input c.args.files.now) (g.F.FileStore.contents c.args.files.now) in
    let known = g.F.FileStore.contents c.args.files.now c.args.choices.now in
    let refused =
    subst (λ z. RefusesSearching c.deref.result.now c.deref-2.result.now z (faults.Choices c.in-Err-Choices.fault)) u
    (subst (RefusesSearching c.deref.result.now c.deref-2.result.now (to_z w64 (of_z w64 c.args.until))) c.in-Err-Choices.field-0-is c.in-Err-Choices.ensures.refused) in
    choices_leave contents c.args.source.now known c.args.until c.args.limit _ c.args.part _ _ _ (faults.Choices c.in-Err-Choices.fault) c.in-Err-Choices.fault _ _ _ _
    c.refuse_choices.ensures c.in-Ok.ensures c.deref.ensures.value c.in-Ok-read.ensures c.deref-2.ensures.value refl refused
    (ap g.O.Sink.bytes (c.in-Err-Choices.ensures.choices c.in-Err-Choices.fault (ap Err c.in-Err-Choices.field-0-is)))

pub returns-clause-sink : goal.returns-clause-sink
returns-clause-sink g c =
    failed_keeps _ _ _ _ c.cannot_write.ensures (c.in-Err-Run-Write.ensures.failed (ap Err (c.in-Err-Run-Write.field-0-is ∙ ap faults.Run c.in-Err-Run-Write.field-0-0-is)))

pub returns-clause-leaves : goal.returns-clause-leaves
returns-clause-leaves g c =
    let u : to_z w64 (of_z w64 c.args.until) ≡ c.args.until = search rules in
    let begins =
    subst
    (λ z. BeginsReport c.deref.result.now c.deref-2.result.now c.args.part z c.args.limit c.wanted_of.result (g.O.Sink.bytes c.args.out.now)
    (g.O.Sink.bytes c.search.new.sink))
    u (c.in-Err-Run-Write.ensures.beginning (ap Err (c.in-Err-Run-Write.field-0-is ∙ ap faults.Run c.in-Err-Run-Write.field-0-0-is))) in
    let searched = searched_by c.deref.result.now c.deref-2.result.now c.args.part c.args.until c.args.limit c.wanted_of.result begins.outcome begins.report begins.is_report in
    let contents = with_input (g.F.FileStore.standard_input c.args.files.now) (g.F.FileStore.contents c.args.files.now) in
    let known = g.F.FileStore.contents c.args.files.now c.args.choices.now in
    rw c.cannot_write.ensures
    (inr (record {
      text = c.deref.result.now;
      source_read = source_whole (contents c.args.source.now) c.in-Ok.text.items c.deref.result.now c.deref.ensures.value searched.tree c.in-Ok.ensures searched.accepted.is_tree;
      input = c.deref-2.result.now;
      input_read = choices_whole known c.in-Ok-read.lines.items c.deref-2.result.now c.deref-2.ensures.value c.args.until searched.slots c.in-Ok-read.ensures searched.are_slots;
      wanted = c.wanted_of.result;
      wanted_is = c.wanted_of.ensures;
      begins = begins;
    }))
