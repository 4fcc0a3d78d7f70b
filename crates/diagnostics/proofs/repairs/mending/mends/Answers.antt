use Rattle.std.proofs.Common.{◌++◌, ◌∷◌, ◌∙◌, ap, length, nat_lt, subst}
use Rattle.std.specs.Prelude.{Decides, IfOk}
use Rattle.ada_tree.specs.Language.{Tokens}
use Rattle.diagnostics.specs.continuations.Following.{sample}
use Rattle.diagnostics.specs.repairs.Mending.{Continues}
use Rattle.diagnostics.proofs.repairs.mending.mends.Goals as goal

pub returns : goal.returns
returns c =
    let all = c.deref.ensures.value ∙ c.in_ok-tokens.ensures ∙ ap (λ (ts : Tokens). c.args.front.now ++ (sample c.args.kind ∷ ts)) c.first_tokens.ensures in
    subst (λ (ts : Tokens). IfOk c.goes_on.result (λ does. Decides does (Continues (nat_lt (length c.args.after.now) c.args.far) ts))) all c.goes_on.ensures
