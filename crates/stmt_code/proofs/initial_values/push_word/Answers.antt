use Rattle.std.proofs.Common.{rules}
use Rattle.stmt_code.proofs.ObjectsMade.{one_put}
use Rattle.stmt_code.proofs.initial_values.push_word.Goals as goal

pub returns : goal.returns
returns c = record {
  puts = one_put c.args.fragment.now c.put.new.self c.args.height c.in_ok-top.top _ c.args.word (search rules) c.in_ok-top.ensures.more c.in_ok-put.ensures.made;
}
