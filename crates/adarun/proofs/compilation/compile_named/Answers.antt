use Rattle.std.proofs.Common.{◌≡◌, Err, ap, inl, rules, subst, sym, ◌∙◌}
use Rattle.std.specs.Prelude.{IfErr}
use Rattle.compiler.specs.ada_tree.specs.ProgramTree.{program_tree}
use Rattle.compiler.specs.meaning.specs.SameMeaning.{SameMeaning}
use Rattle.legality.specs.ProgramRules.{IsLegal}
use Rattle.parser.specs.Parsing.{Derives}
use Rattle.adarun.specs.Accepted.{CompilesAccepted, IsJudged, RefusesText, RefusesTree}
use Rattle.adarun.specs.Naming.{imaged}
use Rattle.adarun.proofs.Named.{of_fault, of_image}
use Rattle.adarun.proofs.Compiling.{compiles, given, judged, judged_accepted, judged_legal, legal_given, misspelled, named_bodies, named_scopes, no_tree, numbered, parsed, refused_text, restricted_given, tells, unrestricted_text}
use Rattle.adarun.proofs.compilation.compile_named.Goals as goal

pub returns-in_err-list-clause-refused : goal.returns-in_err-list-clause-refused
returns-in_err-list-clause-refused c =
    let is : c.from_residual.result ≡ Err c.in_err-list.field-0.0 = search rules in
    subst (λ r. IfErr r (λ f. RefusesText c.args.source.now f)) (sym is)
    (misspelled c.spelling_numbers.ensures c.args.source.now _ c.in_err-list.ensures.fault c.in_err-list.ensures.least)

pub returns-in_err-program-clause-refused : goal.returns-in_err-program-clause-refused
returns-in_err-program-clause-refused c =
    let is : c.from_residual-in_err-program.result ≡ Err c.in_err-program.field-0.0 = search rules in
    subst (λ r. IfErr r (λ f. RefusesText c.args.source.now f)) (sym is)
    (no_tree c.args.source.now _ _ _ c.in_ok-list.ensures.sound c.deref.ensures.value c.in_err-program.ensures.fault)

pub returns-in_err-program-clause-judged : goal.returns-in_err-program-clause-judged
returns-in_err-program-clause-judged c = λ tree is_tree.
    let same = c.deref.ensures.value ∙ c.in_ok-list.ensures.complete is_tree.tokens is_tree.spells in
    let memory = c.in_err-program.ensures.only tree (subst (Derives tree) (sym same) is_tree.derives) in
    let is : c.from_residual-in_err-program.result ≡ Err c.in_err-program.field-0.0 = search rules in
    subst (λ r. IsJudged c.args.source.now tree (imaged r)) (sym is) (inl memory)

pub returns-in_err-checked-clause-judged : goal.returns-in_err-checked-clause-judged
returns-in_err-checked-clause-judged c = λ tree is_tree.
    let same = c.deref.ensures.value ∙ c.in_ok-list.ensures.complete is_tree.tokens is_tree.spells in
    let only = c.in_ok-program.ensures.only tree (subst (Derives tree) (sym same) is_tree.derives) in
    let is : c.from_residual-in_err-checked.result ≡ Err c.in_err-checked.field-0.0 = search rules in
    subst (λ r. IsJudged c.args.source.now tree (imaged r)) (sym is) (judged _ _ _ _ (ap program_tree c.new.ensures.same ∙ only) c.in_err-checked.ensures.refused)

pub returns-in_err-accepted-clause-judged : goal.returns-in_err-accepted-clause-judged
returns-in_err-accepted-clause-judged c = λ tree is_tree.
    let same = c.deref.ensures.value ∙ c.in_ok-list.ensures.complete is_tree.tokens is_tree.spells in
    let only = c.in_ok-program.ensures.only tree (subst (Derives tree) (sym same) is_tree.derives) in
    let checked = c.in_ok-checked.ensures.same in
    let is : c.from_residual-in_err-accepted.result ≡ Err c.in_err-accepted.field-0.0 = search rules in
    subst (λ r. IsJudged c.args.source.now tree (imaged r)) (sym is)
    (judged_legal _ _ _ _ (ap program_tree (checked ∙ c.new.ensures.same) ∙ only) (subst (λ p. IsLegal (program_tree p)) (sym checked) c.in_ok-checked.ensures.legal)
    c.in_err-accepted.ensures.refused)

pub returns-clause-judged : goal.returns-clause-judged
returns-clause-judged c = λ tree is_tree.
    let same = c.deref.ensures.value ∙ c.in_ok-list.ensures.complete is_tree.tokens is_tree.spells in
    let lent = ap program_tree (c.in_ok-accepted.ensures.same ∙ c.in_ok-checked.ensures.same ∙ c.new.ensures.same) in
    judged_accepted c.small_is_unlimited.ensures (imaged c.named_of.result) _ _ _ is_tree (lent ∙ c.in_ok-program.ensures.only tree (subst (Derives tree) (sym same) is_tree.derives))
    c.named_of.ensures.legal
    c.named_of.ensures.restricted
    (of_fault _ (RefusesTree (program_tree c.in_ok-accepted.accepted)) c.named_of.ensures.refused)

pub returns-clause-means : goal.returns-clause-means
returns-clause-means c =
    compiles _ _ _ _ _ c.in_ok-list.ensures.sound c.deref.ensures.value c.in_ok-program.ensures.found _
    (c.in_ok-accepted.ensures.same ∙ c.in_ok-checked.ensures.same ∙ c.new.ensures.same)
    c.named_of.ensures.legal
    c.named_of.ensures.restricted
    c.named_of.ensures.means
    c.named_of.ensures.counted
    c.named_of.ensures.bounded
    c.named_of.ensures.within
    c.named_of.ensures.well_formed
    c.named_of.ensures.names
    c.named_of.ensures.places

pub returns-in_err-checked-clause-accepted : goal.returns-in_err-checked-clause-accepted
returns-in_err-checked-clause-accepted c = λ tree given_tree.
    let is_tree = given_tree.is_tree in
    let same = c.deref.ensures.value ∙ c.in_ok-list.ensures.complete is_tree.tokens is_tree.spells in
    let only = c.in_ok-program.ensures.only tree (subst (Derives tree) (sym same) is_tree.derives) in
    let is : c.from_residual-in_err-checked.result ≡ Err c.in_err-checked.field-0.0 = search rules in
    subst (λ r. CompilesAccepted c.args.source.now tree (imaged r)) (sym is) (legal_given _ _ _ _ (ap program_tree c.new.ensures.same ∙ only) given_tree.legal c.in_err-checked.ensures.refused)

pub returns-in_err-accepted-clause-accepted : goal.returns-in_err-accepted-clause-accepted
returns-in_err-accepted-clause-accepted c = λ tree given_tree.
    let is_tree = given_tree.is_tree in
    let same = c.deref.ensures.value ∙ c.in_ok-list.ensures.complete is_tree.tokens is_tree.spells in
    let only = c.in_ok-program.ensures.only tree (subst (Derives tree) (sym same) is_tree.derives) in
    let is : c.from_residual-in_err-accepted.result ≡ Err c.in_err-accepted.field-0.0 = search rules in
    subst (λ r. CompilesAccepted c.args.source.now tree (imaged r)) (sym is)
    (restricted_given _ _ _ _ (ap program_tree (c.in_ok-checked.ensures.same ∙ c.new.ensures.same) ∙ only) given_tree.restricted c.in_err-accepted.ensures.refused)

pub returns-clause-accepted : goal.returns-clause-accepted
returns-clause-accepted c = λ tree given_tree.
    let is_tree = given_tree.is_tree in
    let same = c.deref.ensures.value ∙ c.in_ok-list.ensures.complete is_tree.tokens is_tree.spells in
    let lent = ap program_tree (c.in_ok-accepted.ensures.same ∙ c.in_ok-checked.ensures.same ∙ c.new.ensures.same) in
    let told = tells c.small_is_unlimited.ensures c.args.source.now tree is_tree given_tree.legal given_tree.restricted in
    given (imaged c.named_of.result) _ _ _ told (lent ∙ c.in_ok-program.ensures.only tree (subst (Derives tree) (sym same) is_tree.derives))
    (of_image _ (SameMeaning (program_tree c.in_ok-accepted.accepted)) c.named_of.ensures.means)
    (of_fault _ (RefusesTree (program_tree c.in_ok-accepted.accepted)) c.named_of.ensures.refused)

pub returns-in_err-accepted-clause-refused : goal.returns-in_err-accepted-clause-refused
returns-in_err-accepted-clause-refused c =
    let is : c.from_residual-in_err-accepted.result ≡ Err c.in_err-accepted.field-0.0 = search rules in
    subst (λ r. IfErr r (λ f. RefusesText c.args.source.now f)) (sym is)
    (unrestricted_text _ _ _ _ _ _ c.in_ok-list.ensures.sound c.deref.ensures.value c.in_ok-program.ensures.found
    (c.in_ok-checked.ensures.same ∙ c.new.ensures.same) (subst (λ p. IsLegal (program_tree p)) c.new.ensures.same c.in_ok-checked.ensures.legal)
    c.in_err-accepted.ensures.refused)

pub returns-clause-refused : goal.returns-clause-refused
returns-clause-refused c =
    refused_text c.small_is_unlimited.ensures _ _ _ _ _ _ c.in_ok-list.ensures.sound c.deref.ensures.value c.in_ok-program.ensures.found
    (c.in_ok-accepted.ensures.same ∙ c.in_ok-checked.ensures.same ∙ c.new.ensures.same)
    c.named_of.ensures.legal
    c.named_of.ensures.restricted
    c.named_of.ensures.refused

pub returns-in_err-checked-clause-numbered : goal.returns-in_err-checked-clause-numbered
returns-in_err-checked-clause-numbered c =
    let refused : IfErr c.from_residual-in_err-checked.result (λ fault. RefusesText c.args.source.now fault) = search rules in
    numbered c.spelling_numbers.ensures c.grammar_numbers.ensures c.legality_numbers.ensures c.restriction_numbers.ensures _ c.args.source.now refused

pub returns-in_err-accepted-clause-numbered : goal.returns-in_err-accepted-clause-numbered
returns-in_err-accepted-clause-numbered c =
    numbered c.spelling_numbers.ensures c.grammar_numbers.ensures c.legality_numbers.ensures c.restriction_numbers.ensures _ c.args.source.now
    (returns-in_err-accepted-clause-refused c)

pub returns-clause-numbered : goal.returns-clause-numbered
returns-clause-numbered c =
    numbered c.spelling_numbers.ensures c.grammar_numbers.ensures c.legality_numbers.ensures c.restriction_numbers.ensures _ c.args.source.now
    (returns-clause-refused c)

pub new-requires : goal.new-requires
new-requires c = record { parsed = parsed _ _ _ c.in_ok-program.program c.in_ok-list.ensures.sound c.deref.ensures.value c.in_ok-program.ensures.found }

pub returns-clause-bodies : goal.returns-clause-bodies
returns-clause-bodies c =
    let lent = ap program_tree (c.in_ok-accepted.ensures.same ∙ c.in_ok-checked.ensures.same ∙ c.new.ensures.same) in
    named_bodies _ _ _
    (λ tree is_tree.
    let same = c.deref.ensures.value ∙ c.in_ok-list.ensures.complete is_tree.tokens is_tree.spells in
    lent ∙ c.in_ok-program.ensures.only tree (subst (Derives tree) (sym same) is_tree.derives))
    c.named_of.ensures.bodies

pub returns-clause-scopes : goal.returns-clause-scopes
returns-clause-scopes c =
    let lent = ap program_tree (c.in_ok-accepted.ensures.same ∙ c.in_ok-checked.ensures.same ∙ c.new.ensures.same) in
    named_scopes _ _ _
    (λ tree is_tree.
    let same = c.deref.ensures.value ∙ c.in_ok-list.ensures.complete is_tree.tokens is_tree.spells in
    lent ∙ c.in_ok-program.ensures.only tree (subst (Derives tree) (sym same) is_tree.derives))
    c.named_of.ensures.scopes
