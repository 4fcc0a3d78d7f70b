use Rattle.std.proofs.Common.{rules}
use Rattle.std.proofs.lemmas.Result.{on_ok_weaker}
use Rattle.expr_code.proofs.FormsMade.{range_made}
use Rattle.expr_code.proofs.fragment.Fragment.check_range.Goals as goal

pub returns : goal.returns
returns c = record {
  made = on_ok_weaker _ (λ p. range_made c.args.self.now c.put.new.self c.put-2.new.self c.put-3.new.self c.args.depth _ _ _ _ c.args.subtype
      c.in_ok-one.ensures.more c.in_ok-above.ensures.more (search rules) (search rules) c.in_ok-put.ensures.made c.in_ok-put-2.ensures.made p)
      c.put-3.ensures.made;
}
