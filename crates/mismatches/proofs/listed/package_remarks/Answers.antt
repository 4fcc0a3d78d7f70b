use Rattle.std.proofs.Common.{◌∙◌, ap}
use Rattle.std.proofs.lemmas.Result.{IfOk-weaker}
use Rattle.ada_tree.specs.ProgramTree.{package_tree}
use Rattle.types.specs.Scopes.{Scope, standard}
use Rattle.declaration_rules.specs.PackageNames.{package_scope}
use Rattle.mismatches.specs.Listed.{listed_remarks}
use Rattle.mismatches.proofs.Listing.{package_listed}
use Rattle.mismatches.proofs.listed.package_remarks.Goals as goal

pub returns : goal.returns
returns c =
    let p = package_tree c.args.package_.now in
    let all = c.deref.ensures.value ∙ c.in_ok-found.ensures.mismatches in
    IfOk-weaker c.listed_remarks.result _ _
    (λ list is. package_listed p list.items (is ∙ ap (λ (s : Scope). listed_remarks s p c.deref.result.now) c.in_ok-found.ensures.scope
    ∙ ap (listed_remarks (package_scope standard p) p) all)) c.listed_remarks.ensures
