-- What is broken nowhere in a legal program, part by part.
use Rattle.std.proofs.Common.{◌≡◌, ◌++◌, List, [], ◌∷◌, not, Some, refl, sym, ap, ◌∙◌}
use Rattle.expr_soundness.specs.base.specs.declared.faults.TheConstants.{NAME_NOT_VISIBLE, UNMATCHED_BODY}
use Rattle.expr_soundness.specs.ada_tree.specs.StatementTree.{SubprogramTree}
use Rattle.expr_soundness.specs.ada_tree.specs.ProgramTree.{BodyItemTree, BodyTree, PackageTree, ProgramTree}
use Rattle.types.specs.Scopes.{Scope, standard}
use Rattle.expr_soundness.specs.expr_rules.specs.Faults.{rule}
use Rattle.expr_soundness.specs.expr_rules.proofs.TypedLaw.{back_empty, front_empty}
use Rattle.expr_soundness.specs.type_rules.specs.ProfileRules.{profile_faults, subprogram_scope}
use Rattle.expr_soundness.specs.type_rules.specs.SubtypeNames.{declared_twice, end_rule}
use Rattle.declaration_rules.specs.BodyNames.{formals_scope}
use Rattle.declaration_rules.specs.ItemRules.{items_faults}
use Rattle.conformance.specs.MatchingRules.{matching_faults, same_name}
use Rattle.unit_rules.specs.BodyRules.{body_faults, body_name_faults, function_body_faults, head_faults, kind_of, own_name_faults, subprogram_body_faults}
use Rattle.unit_rules.specs.MainRules.{main_faults}
use Rattle.declaration_rules.specs.PackageNames.{body_item_scope, body_items_scope, inside_scope, specified_scope, units_scope}
use Rattle.unit_rules.specs.PackageBodyRules.{body_item_faults, body_items_faults}
use Rattle.unit_rules.specs.PackageRules.{behind_faults, bodiless_rule, package_faults, specification_faults}
use Rattle.unit_rules.specs.UnitRules.{clauses_faults}
use Rattle.size_rules.specs.ProgramSizes.{size_faults}
use Rattle.legality.specs.LikeNames.{like_name_faults}
use Rattle.legality.specs.ProgramRules.{IsLegal, package_part_faults}

-- ---- the package

pub record IsLegalPackage (p : PackageTree) : Type 0 where
  pub items : items_faults (inside_scope standard p) p.declaration.items ≡ []
  pub bodies : body_items_faults (specified_scope standard p) p.body.items ≡ []
  pub matching : matching_faults p.declaration.items p.body.items ≡ []
  pub like : like_name_faults p ≡ []

pub legal_package : (t : ProgramTree) (p : PackageTree) → IsLegal t → t.package_ ≡ Some p → IsLegalPackage p
legal_package t p legal is =
    let part = package_part_faults standard t.package_ in
    let main = main_faults t.package_ t.main in
    let whole : package_part_faults standard (Some p) ≡ [] =
    ap (package_part_faults standard) (sym is) ∙ front_empty part main (front_empty (part ++ main) (size_faults t) legal) in
    let specified = specified_scope standard p in
    let both = front_empty (package_faults standard p) (like_name_faults p) whole in
    let specification = front_empty (specification_faults standard p) (behind_faults specified p) both in
    let behind = back_empty (specification_faults standard p) (behind_faults specified p) both in
    let clauses = clauses_faults p.clauses in
    let twice = declared_twice (units_scope standard p) p.declaration.name in
    let items = items_faults (inside_scope standard p) p.declaration.items in
    let four = front_empty (clauses ++ twice ++ items ++ bodiless_rule p) (end_rule p.declaration.name p.declaration.end_name) specification in
    let three = front_empty (clauses ++ twice ++ items) (bodiless_rule p) four in
    let other = rule UNMATCHED_BODY p.body.name.place (not (same_name p.declaration.name p.body.name)) in
    let matching = matching_faults p.declaration.items p.body.items in
    let bodies = body_items_faults specified p.body.items in
    let ended = end_rule p.body.name p.body.end_name in
    let used = rule NAME_NOT_VISIBLE p.with_name.place (not (same_name p.declaration.name p.with_name)) in
    let first = front_empty (other ++ matching ++ bodies) ended (front_empty (other ++ matching ++ bodies ++ ended) used behind) in
    record {
      items = back_empty (clauses ++ twice) items three;
      bodies = back_empty (other ++ matching) bodies first;
      matching = back_empty other matching (front_empty (other ++ matching) bodies first);
      like = back_empty (package_faults standard p) (like_name_faults p) whole;
    }

-- ---- the body of a subprogram

pub record IsLegalBody (s : Scope) (d : SubprogramTree) (b : BodyTree) : Type 0 where
  pub profile : profile_faults s d ≡ []
  pub own : own_name_faults d.name d.formals ≡ []
  pub name : body_name_faults s d.name ≡ []
  pub function : function_body_faults d b ≡ []
  pub inside : body_faults (formals_scope (subprogram_scope s d) d.formals) (kind_of s d.result) b ≡ []

pub legal_body : (s : Scope) (d : SubprogramTree) (b : BodyTree) → subprogram_body_faults s d b ≡ [] → IsLegalBody s d b
legal_body s d b h =
    let inside = body_faults (formals_scope (subprogram_scope s d) d.formals) (kind_of s d.result) b in
    let two = front_empty (head_faults s d b ++ inside) (end_rule d.name b.end_name) h in
    let head = front_empty (head_faults s d b) inside two in
    let profile = profile_faults s d in
    let own = own_name_faults d.name d.formals in
    let name = body_name_faults s d.name in
    let function = function_body_faults d b in
    let three = front_empty (profile ++ own ++ name) function head in
    let one = front_empty (profile ++ own) name three in
    record {
      profile = front_empty profile own one;
      own = back_empty profile own one;
      name = back_empty (profile ++ own) name three;
      function = back_empty (profile ++ own ++ name) function head;
      inside = back_empty (head_faults s d b) inside two;
    }

-- ---- lists of bodies

pub items_behind : (s : Scope) (before : List BodyItemTree) (more : List BodyItemTree) → body_items_faults s (before ++ more) ≡ []
    → body_items_faults (body_items_scope s before) more ≡ []
items_behind s [] more h = h
items_behind s (x ∷ before) more h =
    items_behind (body_item_scope s x) before more (back_empty (body_item_faults s x) (body_items_faults (body_item_scope s x) (before ++ more)) h)

pub scopes_joined : (s : Scope) (before more : List BodyItemTree) → body_items_scope s (before ++ more) ≡ body_items_scope (body_items_scope s before) more
scopes_joined s [] more = refl
scopes_joined s (x ∷ before) more = scopes_joined (body_item_scope s x) before more
