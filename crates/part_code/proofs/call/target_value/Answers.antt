use Rattle.std.proofs.Common.{◌+◌, refl, ap, ◌∙◌}
use Rattle.expr_code.specs.Naming.{loaded_at}
use Rattle.expr_code.proofs.Pieces.{none_added}
use Rattle.part_code.specs.PartCode.{copied_in}
use Rattle.part_code.proofs.ActualsMade.{copied_made}
use Rattle.part_code.proofs.call.target_value.Goals as goal

pub returns-in_ok-check_value-in-Some-clause-made : goal.returns-in_ok-check_value-in-Some-clause-made
returns-in_ok-check_value-in-Some-clause-made c =
    copied_made c.args.visible.now c.args.fragment.now c.put.new.self c.put-in-Some.new.self c.check_value.new.fragment c.args.depth _ _ _ c.args.target
    c.in-Some.destination c.args.subtype _ c.in-Some.is c.in_ok-one.ensures.more c.in_ok-two-in-Some.ensures.more
    (c.in_ok-height-in-Some.ensures.more ∙ ap (λ n. c.in_ok-one.one + n) c.words-words.ensures)
    (c.loaded_at.ensures ∙ ap (λ n. loaded_at c.in-Some.destination.region n) c.words-words.ensures)
    c.in_ok-put-in-Some.ensures.made c.in_ok-put-in-Some-2.ensures.made c.in_ok-check_value-in-Some.ensures.made

pub returns-in-None-clause-made : goal.returns-in-None-clause-made
returns-in-None-clause-made c = none_added _ _ _ refl (ap (λ o. copied_in c.args.visible.now c.args.depth o c.args.subtype) c.in-None.is)
