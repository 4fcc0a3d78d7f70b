-- A package as one list of items, and what is known at each item of a legal one.
use Rattle.std.proofs.Common.{◌≡◌, ◌++◌, List, [], ◌∷◌, map, Some, refl, sym, ap, ◌∙◌, subst}
use Rattle.expr_soundness.specs.ada_tree.specs.ProgramTree.{BodyItemTree, OfItem, ItemTree, OfType, OfObject, OfException, OfSubprogram, OfTask, OfProtected, PackageTree, ProgramTree}
use Rattle.types.specs.Entities.{Entity, Exception, Task}
use Rattle.types.specs.Scopes.{Scope, standard, with_name}
use Rattle.expr_soundness.specs.base.specs.declared.limits.TheConstants.{TASK_PRIORITY}
use Rattle.expr_soundness.specs.expr_rules.proofs.TypedLaw.{back_empty, front_empty}
use Rattle.expr_soundness.specs.type_rules.specs.ObjectRules.{package_object_entity}
use Rattle.expr_soundness.specs.type_rules.specs.ProfileRules.{formal_parameters, profile_entity, profile_with}
use Rattle.expr_soundness.specs.type_rules.specs.TypeRules.{definition_entity}
use Rattle.declaration_rules.specs.ItemRules.{item_faults, item_scope, items_faults, items_scope}
use Rattle.declaration_rules.specs.ProtectedRules.{protected_entity}
use Rattle.declaration_rules.specs.TaskRules.{default_priority, priority_of}
use Rattle.unit_rules.specs.MainRules.{item_name}
use Rattle.declaration_rules.specs.PackageNames.{body_item_scope, body_items_scope, inside_scope, optional_scope, program_scope, specified_scope}
use Rattle.unit_rules.specs.PackageBodyRules.{body_item_faults, body_items_faults}
use Rattle.legality.specs.ProgramRules.{IsLegal}
use Rattle.expr_soundness.specs.SoundScopes.{SoundScope}
use Rattle.program_soundness.proofs.Extending.{Extends, body_items_extend}
use Rattle.program_soundness.proofs.Lists.{step_split}
use Rattle.program_soundness.proofs.Parts.{items_behind, legal_package, scopes_joined}
use Rattle.program_soundness.proofs.Walks.{body_items_sound, inside_sound}

-- ---- the items of a package as one list: those of its specification, and those of its body

abbrev pub all_items : PackageTree → List BodyItemTree
all_items p = map OfItem p.declaration.items ++ p.body.items

-- the names in front of the package, and those behind these items of it
abbrev pub front_scope : PackageTree → Scope
front_scope p = inside_scope standard p

abbrev pub scope_of : PackageTree → List BodyItemTree → Scope
scope_of p before = body_items_scope (front_scope p) before

pub specified_is : (s : Scope) (ds : List ItemTree) → body_items_scope s (map OfItem ds) ≡ items_scope s ds
specified_is s [] = refl
specified_is s (d ∷ ds) = specified_is (item_scope s d) ds

specified_faults : (s : Scope) (ds : List ItemTree) → body_items_faults s (map OfItem ds) ≡ items_faults s ds
specified_faults s [] = refl
specified_faults s (d ∷ ds) = ap (λ l. item_faults s d ++ l) (specified_faults (item_scope s d) ds)

faults_joined : (s : Scope) (xs ys : List BodyItemTree) → body_items_faults s xs ≡ [] → body_items_faults (body_items_scope s xs) ys ≡ [] → body_items_faults s (xs ++ ys) ≡ []
faults_joined s [] ys h k = k
faults_joined s (x ∷ xs) ys h k =
    let here = body_item_faults s x in
    let later = body_items_faults (body_item_scope s x) xs in
    λ j. front_empty here later h j ++ faults_joined (body_item_scope s x) xs ys (back_empty here later h) k j

pub body_scope_is : (p : PackageTree) (before : List BodyItemTree) → scope_of p (map OfItem p.declaration.items ++ before) ≡ body_items_scope (specified_scope standard p) before
body_scope_is p before =
    scopes_joined (front_scope p) (map OfItem p.declaration.items) before ∙ ap (λ s. body_items_scope s before) (specified_is (front_scope p) p.declaration.items)

-- ---- one item

abbrev pub declared_item : Scope → ItemTree → Entity
declared_item s (OfType d) = definition_entity s d.definition
declared_item s (OfObject d) = package_object_entity s d
declared_item s (OfException name) = Exception
declared_item s (OfSubprogram d) = profile_entity (profile_with s (formal_parameters s d.formals) d.result)
declared_item s (OfTask d) = Task (priority_of s TASK_PRIORITY default_priority d.aspect)
declared_item s (OfProtected d) = protected_entity s d

pub item_named : (s : Scope) (d : ItemTree) → item_scope s d ≡ with_name s (item_name d).name (declared_item s d)
item_named s (OfType d) = refl
item_named s (OfObject d) = refl
item_named s (OfException name) = refl
item_named s (OfSubprogram d) = refl
item_named s (OfTask d) = refl
item_named s (OfProtected d) = refl

-- ---- in a legal program

module _ (t : ProgramTree) (p : PackageTree) (legal : IsLegal t) (is : t.package_ ≡ Some p) where
  pub all_legal : body_items_faults (front_scope p) (all_items p) ≡ []
  all_legal =
      let x = legal_package t p legal is in
      faults_joined (front_scope p) (map OfItem p.declaration.items) p.body.items (specified_faults (front_scope p) p.declaration.items ∙ x.items)
      (ap (λ s. body_items_faults s p.body.items) (specified_is (front_scope p) p.declaration.items) ∙ x.bodies)

  pub whole_is : program_scope t ≡ scope_of p (all_items p)
  whole_is = ap (optional_scope standard) is ∙ sym (body_scope_is p p.body.items)

  -- an item with what stands in front of it and behind it
  pub record IsAt (before : List BodyItemTree) (i : BodyItemTree) (behind : List BodyItemTree) : Type 0 where
    pub sound : SoundScope (scope_of p before)
    pub unbroken : body_item_faults (scope_of p before) i ≡ []
    pub here : Extends (scope_of p before) (program_scope t)
    pub next : Extends (scope_of p (before ++ i ∷ [])) (program_scope t)

  whole_split : (before rest : List BodyItemTree) → all_items p ≡ before ++ rest → program_scope t ≡ body_items_scope (scope_of p before) rest
  whole_split before rest split = whole_is ∙ ap (scope_of p) split ∙ scopes_joined (front_scope p) before rest

  pub prefix : (before rest : List BodyItemTree) → all_items p ≡ before ++ rest → Extends (scope_of p before) (program_scope t)
  prefix before rest split = subst (Extends (scope_of p before)) (sym (whole_split before rest split)) (body_items_extend (scope_of p before) rest)

  pub at : (before : List BodyItemTree) (i : BodyItemTree) (behind : List BodyItemTree) → all_items p ≡ before ++ i ∷ behind → IsAt before i behind
  at before i behind split =
      let all = sym (ap (body_items_faults (front_scope p)) split) ∙ all_legal in
      let rest = items_behind (front_scope p) before (i ∷ behind) all in
      record {
        sound = body_items_sound (front_scope p) before (i ∷ behind) (inside_sound p) all;
        unbroken = front_empty (body_item_faults (scope_of p before) i) (body_items_faults (body_item_scope (scope_of p before) i) behind) rest;
        here = prefix before (i ∷ behind) split;
        next = prefix (before ++ i ∷ []) behind (split ∙ step_split before i behind);
      }
