use Rattle.std.proofs.Common.{rules, ◌≡◌, ◌∙◌, ◌++◌, ap, codes, refl, sym, of_z, to_z, w64}
use Rattle.tracing.specs.Traces.{heading, place_text, row_names, without_end}
use Rattle.tracing.specs.Writing.{line_text_of}
use Rattle.tracing.proofs.Parts.{also_on_err, both, first_begun, last_begun, on_ok}
use Rattle.tracing.proofs.tracing_of.write_line.Goals as goal

pub returns-clause-whole : goal.returns-clause-whole
returns-clause-whole g c =
    let names = (row_names c.args.image.now c.args.objects.now (g.O.Origins.known c.args.origins.now)) in
    let time : to_z w64 (of_z w64 c.args.time) ≡ c.args.time = search rules in
    let head = c.as_slice.ensures.value ∙ c.line_heading-heading.ensures ∙ ap (λ t. heading t c.args.step (names.line.task c.args.task) ++ codes "writes ") time in
    let word = c.without_end.ensures ∙ ap without_end c.as_slice-2.ensures.value in
    let end = c.as_slice-3.ensures.value ∙ c.line_end-end.ensures in
    let is = ap (line_text_of names c.args.time c.args.step c.args.task c.args.address) c.in-Line.is ∙ sym (λ j. (head j ++ word j) ++ end j) in
    on_ok _ _ _ (both _ _ _ _ _ _ is (both _ _ _ _ _ _ refl c.in-Ok.ensures.whole c.in-Ok-write_all.ensures.whole)) c.write_all-3.ensures.whole

pub returns-clause-beginning : goal.returns-clause-beginning
returns-clause-beginning g c =
    let names = (row_names c.args.image.now c.args.objects.now (g.O.Origins.known c.args.origins.now)) in
    let time : to_z w64 (of_z w64 c.args.time) ≡ c.args.time = search rules in
    let head = c.as_slice.ensures.value ∙ c.line_heading-heading.ensures ∙ ap (λ t. heading t c.args.step (names.line.task c.args.task) ++ codes "writes ") time in
    let word = c.without_end.ensures ∙ ap without_end c.as_slice-2.ensures.value in
    let end = c.as_slice-3.ensures.value ∙ c.line_end-end.ensures in
    let is = ap (line_text_of names c.args.time c.args.step c.args.task c.args.address) c.in-Line.is ∙ sym (λ j. (head j ++ word j) ++ end j) in
    also_on_err _ _ (last_begun _ _ _ _ _ _ is (both _ _ _ _ _ _ refl c.in-Ok.ensures.whole c.in-Ok-write_all.ensures.whole) c.write_all-3.ensures.beginning)

pub returns-in-Err-write_all-clause-beginning : goal.returns-in-Err-write_all-clause-beginning
returns-in-Err-write_all-clause-beginning g c =
    let names = (row_names c.args.image.now c.args.objects.now (g.O.Origins.known c.args.origins.now)) in
    let time : to_z w64 (of_z w64 c.args.time) ≡ c.args.time = search rules in
    let head = c.as_slice.ensures.value ∙ c.line_heading-heading.ensures ∙ ap (λ t. heading t c.args.step (names.line.task c.args.task) ++ codes "writes ") time in
    let word = c.without_end.ensures ∙ ap without_end c.as_slice-2.ensures.value in
    let end = place_text names c.args.address ++ codes "\n" in
    let is = ap (line_text_of names c.args.time c.args.step c.args.task c.args.address) c.in-Line.is ∙ sym (λ j. (head j ++ word j) ++ end) in
    first_begun _ _ _ _ _ is (last_begun _ _ _ _ _ _ refl c.in-Ok.ensures.whole c.in-Err-write_all.ensures.beginning)

pub returns-in-Err-clause-beginning : goal.returns-in-Err-clause-beginning
returns-in-Err-clause-beginning g c =
    let names = (row_names c.args.image.now c.args.objects.now (g.O.Origins.known c.args.origins.now)) in
    let time : to_z w64 (of_z w64 c.args.time) ≡ c.args.time = search rules in
    let head = c.as_slice.ensures.value ∙ c.line_heading-heading.ensures ∙ ap (λ t. heading t c.args.step (names.line.task c.args.task) ++ codes "writes ") time in
    let word = without_end c.in-Line.line.items in
    let end = place_text names c.args.address ++ codes "\n" in
    let is = ap (line_text_of names c.args.time c.args.step c.args.task c.args.address) c.in-Line.is ∙ sym (λ j. (head j ++ word) ++ end) in
    first_begun _ _ _ _ _ is (first_begun _ _ _ _ _ refl c.in-Err.ensures.beginning)
