use Rattle.std.proofs.Common.{◌+◌, Ok, arith, map, subst, sym}
use Rattle.ada2012_lexer.specs.Reading.{AreSpansInOrder, span_of}
use Rattle.ada2012_lexer.proofs.Turns.{lies_in_text, more_comments, more_tokens, next, read_is, same}
use Rattle.ada2012_lexer.proofs.lexing.tokens.Goals as goal

pub loop-at-preserved : goal.loop-at-preserved
loop-at-preserved c = record {
  reads = same c.args.text.now (c.loop-at.at + c.in-Ok.element.length) c.tick_after-tick.ensures c.in_ok-add.ensures.tokens c.in_ok-add.ensures.comments
      (next c.args.text.now c.loop-at.tick c.loop-at.at c.loop-at.found.tokens.items c.loop-at.found.comments.items c.in-Ok.element c.loop-at-test.true
      (read_is c.loop-at.tick c.loop-at.at c.args.text.now (Ok c.in-Ok.element) c.in-Ok.ensures.value) c.in-Ok.ensures.in_text.0 c.loop-at.invariant.reads);
  within = lies_in_text c.in-Ok.element.length c.loop-at.at c.args.text.now c.in-Ok.ensures.in_text.1 c.loop-at-test.true;
  short = c.loop-at.invariant.short;
  tokens = subst (λ l. AreSpansInOrder 0 (c.loop-at.at + c.in-Ok.element.length) (map span_of l)) (sym c.in_ok-add.ensures.tokens)
      (more_tokens c.in-Ok.element.kind c.loop-at.at (c.loop-at.at + c.in-Ok.element.length) c.loop-at.found.tokens.items c.loop-at.invariant.tokens
      (omega (arith, c.in-Ok.ensures.in_text.0)));
  comments = subst (AreSpansInOrder 0 (c.loop-at.at + c.in-Ok.element.length)) (sym c.in_ok-add.ensures.comments)
      (more_comments c.in-Ok.element.kind c.loop-at.at (c.loop-at.at + c.in-Ok.element.length) c.loop-at.found.comments.items c.loop-at.invariant.comments
      (omega (arith, c.in-Ok.ensures.in_text.0)));
}
