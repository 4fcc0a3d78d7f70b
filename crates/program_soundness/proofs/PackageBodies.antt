-- Bodies of the package that break no rule are sound: procedures, tasks, and what main calls.
use Rattle.std.proofs.Common.{◌≡◌, ℕ, suc, List, [], ◌∷◌, ◌++◌, drop, length, map, Bool, true, false, cond, ◌⊎◌, inl, inr, Option, Some, None, refl, sym, ap, ◌∙◌, subst}
use Rattle.std.specs.Prelude.{bytes_eq, is_some, slice_get, ⊤}
use Rattle.expr_soundness.specs.ada_tree.specs.declared.expression.Identifier.{Identifier}
use Rattle.expr_soundness.specs.ada_tree.specs.declared.declaration.Formal.{Formal}
use Rattle.expr_soundness.specs.ada_tree.specs.declared.program.MainStatement.{MainStatement}
use Rattle.expr_soundness.specs.ada_tree.specs.declared.program.MainStatement.TheVariants as main
use Rattle.expr_soundness.specs.ada_tree.specs.StatementTree.{DeclarationTree, SubprogramTree}
use Rattle.expr_soundness.specs.ada_tree.specs.ProgramTree.{BodyTree, BodyItemTree, OfItem, SubprogramBody, TaskBody, ProtectedBody, ItemTree, OfType, OfObject, OfException, OfSubprogram, OfTask, OfProtected, PackageTree}
use Rattle.types.specs.Entities.{Entity, Profile, ProtectedObject, Protected, Doubtful}
use Rattle.types.specs.Scopes.{Scope, is_visible}
use Rattle.types.specs.Places.{Place}
use Rattle.expr_soundness.specs.expr_rules.specs.Faults.{Faults}
use Rattle.expr_soundness.specs.expr_rules.proofs.TypedLaw.{back_empty, front_empty}
use Rattle.expr_soundness.specs.type_rules.specs.SubtypeNames.{end_rule}
use Rattle.expr_soundness.specs.type_rules.specs.ProfileRules.{formal_parameters, formals_faults, profile_entity, profile_faults, profile_with, subprogram_scope}
use Rattle.declaration_rules.specs.BodyNames.{formals_scope}
use Rattle.declaration_rules.specs.LocalRules.{fixed_locals_faults, locals_scope}
use Rattle.declaration_rules.specs.Laws.{NamesAreAdded, StandsFirst}
use Rattle.step_soundness.specs.stmt_rules.specs.declared.around.Around.{Around}
use Rattle.step_soundness.specs.stmt_rules.specs.declared.around.BodyKind.TheVariants as kind
use Rattle.step_soundness.specs.stmt_rules.specs.SimpleRules.{is_function}
use Rattle.step_soundness.specs.stmt_rules.specs.StatementRules.{in_body, sequence_faults}
use Rattle.conformance.specs.MatchingRules.{same_name}
use Rattle.unit_rules.specs.BodyRules.{body_faults, head_faults, kind_of, own_name_faults, task_body_faults, task_rule}
use Rattle.unit_rules.specs.MainRules.{called_rule, declared_meaning, has_no_formals, item_meaning, item_name, main_statement_faults, main_statements_faults, meaning_of, no_package_rule}
use Rattle.declaration_rules.specs.PackageNames.{body_item_scope, body_items_scope}
use Rattle.step_soundness.specs.body_restrictions.specs.BodyRules as profile
use Rattle.expr_soundness.specs.SoundScopes.{SoundScope}
use Rattle.expr_soundness.specs.Laws.{ScopesAreSound}
use Rattle.expr_soundness.proofs.Positions.{item_of_added}
use Rattle.expr_soundness.specs.meaning.specs.Programs.{Duty, OfBody, OfMain, Parameter, Procedure, Program, Task, body_among, items_among, task_with, tasks_among}
use Rattle.expr_soundness.specs.meaning.specs.Works.{Declares, DoesMain, Goes, Item, Sequence, Store}
use Rattle.expr_soundness.specs.meaning.specs.Calls.{procedure_among, procedure_here}
use Rattle.expr_soundness.specs.meaning.specs.Source.{duty_items, items_work, task_items, task_work}
use Rattle.step_soundness.specs.Fitting.{FitsScope, formal_of}
use Rattle.step_soundness.specs.Judged.{Begins, IsMainStatement, IsPlain, IsReady, Judged}
use Rattle.step_soundness.specs.Holding.{IsSoundProcedure, IsSoundTask}
use Rattle.step_soundness.specs.Laws.{Premises}
use Rattle.step_soundness.proofs.Sights.{fits_fewer}
use Rattle.program_soundness.specs.Fronts.{scope_at}
use Rattle.program_soundness.proofs.Listing.{Has, has_either, same_some}
use Rattle.program_soundness.proofs.WiderScopes.{bytes_same, same_bytes, stands, unseen_none}
use Rattle.program_soundness.proofs.BodyProfiles.{profile_formals, profile_none, subtype_kept}
use Rattle.program_soundness.proofs.Walked.{declares, item_new, legal_at, one_of, own_profile, scope_behind, scope_next}
use Rattle.program_soundness.proofs.OneList.{restricted_at}
use Rattle.program_soundness.proofs.Callables.{Bodied, InPackage, at_has, has_at, map_at, procedure_by, subprogram_body}
use Rattle.program_soundness.proofs.Whole.{IsPackage, item_stands, kept, no_doubt, profile_known}
use Rattle.program_soundness.proofs.Called.{body_legal, entity_procedure, head_legal}
use Rattle.program_soundness.proofs.Agreed.{IsSoundMemory, OffersAll, in_package, package_fits, same_twice}
use Rattle.program_soundness.proofs.Beginning.{begins_body, keeps_same, keeps_with, locals_legal}
use Rattle.program_soundness.proofs.FormalTrees.{new_formals, text_formals, unseen_first, unseen_own}
use Rattle.program_soundness.proofs.BodySound.{IsLegalBody, procedure_sound}

-- ---- declarations only add names

item_first : NamesAreAdded → (u : Scope) (i : BodyItemTree) → StandsFirst u (body_item_scope u i)
item_first names u (OfItem d) = names.items u (d ∷ [])
item_first names u (SubprogramBody d b) = names.items u (OfSubprogram d ∷ [])
item_first names u (TaskBody name b) = names.items u []
item_first names u (ProtectedBody name items end_name) = names.items u []

all_first : NamesAreAdded → (u : Scope) (is : List BodyItemTree) → StandsFirst u (body_items_scope u is)
all_first names u [] = names.items u []
all_first names u (i ∷ is) =
    names.together u (body_item_scope u i) (body_items_scope (body_item_scope u i) is) (item_first names u i) (all_first names (body_item_scope u i) is)

-- ---- tasks have bodies

record HasDuty (bodies : List BodyItemTree) (duty : Duty) : Type 0 where
  place : ℕ
  name : Identifier
  body : BodyTree
  at : slice_get bodies place ≡ Some (TaskBody name body)
  is : duty ≡ OfBody body

next_duty : (i : BodyItemTree) (rest : List BodyItemTree) (duty : Duty) → HasDuty rest duty → HasDuty (i ∷ rest) duty
next_duty i rest duty h = record { place = suc h.place; name = h.name; body = h.body; at = h.at; is = h.is }

duty_found : (name : Identifier) (bodies : List BodyItemTree) (duty : Duty) → Has (body_among name bodies) duty → HasDuty bodies duty
duty_found name [] duty h = absurd h
duty_found name (TaskBody own b ∷ rest) duty h = by_test (bytes_eq own.name name.name) h (λ k. duty_found name rest duty k)
  where
    by_test : (c : Bool) → Has (cond c (OfBody b ∷ []) (body_among name rest)) duty → (Has (body_among name rest) duty → HasDuty rest duty)
        → HasDuty (TaskBody own b ∷ rest) duty
    by_test true (inl e) later = record { place = 0; name = own; body = b; at = refl; is = sym e }
    by_test true (inr k) later = absurd k
    by_test false k later = next_duty (TaskBody own b) rest duty (later k)
duty_found name (OfItem d ∷ rest) duty h = next_duty (OfItem d) rest duty (duty_found name rest duty h)
duty_found name (SubprogramBody d b ∷ rest) duty h = next_duty (SubprogramBody d b) rest duty (duty_found name rest duty h)
duty_found name (ProtectedBody own items end_name ∷ rest) duty h = next_duty (ProtectedBody own items end_name) rest duty (duty_found name rest duty h)

task_found : (s : Scope) (bodies : List BodyItemTree) (items : List ItemTree) (t : Task) → Has (tasks_among s bodies items) t → HasDuty bodies t.duty
task_found s bodies [] t h = absurd h
task_found s bodies (OfTask d ∷ rest) t h =
    by_case (has_either (map (task_with s d) (body_among d.name bodies)) (tasks_among s bodies rest) t h) (λ k. task_found s bodies rest t k)
  where
    by_case : Has (map (task_with s d) (body_among d.name bodies)) t ⊎ Has (tasks_among s bodies rest) t
        → (Has (tasks_among s bodies rest) t → HasDuty bodies t.duty) → HasDuty bodies t.duty
    by_case (inl k) later =
        let at = has_at (map (task_with s d) (body_among d.name bodies)) t k in
        let x = map_at (task_with s d) (body_among d.name bodies) at.0 t at.1 in
        let found = duty_found d.name bodies x.0 (at_has (body_among d.name bodies) at.0 x.0 x.1) in
        record { place = found.place; name = found.name; body = found.body; at = found.at; is = sym (ap (λ y. y.duty) x.2) ∙ found.is }
    by_case (inr k) later = later k
task_found s bodies (OfType d ∷ rest) t h = task_found s bodies rest t h
task_found s bodies (OfObject d ∷ rest) t h = task_found s bodies rest t h
task_found s bodies (OfException name ∷ rest) t h = task_found s bodies rest t h
task_found s bodies (OfSubprogram d ∷ rest) t h = task_found s bodies rest t h
task_found s bodies (OfProtected d ∷ rest) t h = task_found s bodies rest t h

-- ---- what main calls is a procedure of the specification without formals

record IsCalledByMain (items : List ItemTree) (second : Identifier) : Type 0 where
  place : ℕ
  subprogram : SubprogramTree
  at : slice_get items place ≡ Some (OfSubprogram subprogram)
  named : subprogram.name.name ≡ second.name
  result : subprogram.result ≡ None
  formals : subprogram.formals ≡ []

called_item : (first second : Identifier) (d : ItemTree) → called_rule first second (item_meaning d) ≡ []
    → (e : SubprogramTree) × (d ≡ OfSubprogram e) × (e.result ≡ None) × (e.formals ≡ [])
called_item first second (OfSubprogram e) h =
    let two = by_profile (is_some e.result) (has_no_formals e.formals) h in (e, refl, none e.result two.0, empty e.formals two.1)
  where
    by_profile : (r f : Bool) → called_rule first second (meaning_of r f) ≡ [] → (r ≡ false) × (f ≡ true)
    by_profile false true k = (refl, refl)
    by_profile false false k = cc
    by_profile true f k = cc

    none : (o : Option Identifier) → is_some o ≡ false → o ≡ None
    none None k = refl
    none (Some x) k = cc

    empty : (fs : List Formal) → has_no_formals fs ≡ true → fs ≡ []
    empty [] k = refl
    empty (f ∷ fs) k = cc
called_item first second (OfType e) h = cc
called_item first second (OfObject e) h = cc
called_item first second (OfException e) h = cc
called_item first second (OfTask e) h = cc
called_item first second (OfProtected e) h = cc

called_there : (first second : Identifier) (items : List ItemTree) → called_rule first second (declared_meaning items second) ≡ [] → IsCalledByMain items second
called_there first second [] h = cc
called_there first second (d ∷ ds) h = by_test (same_name (item_name d) second) refl h (λ k. called_there first second ds k)
  where
    item_is : (e : SubprogramTree) → d ≡ OfSubprogram e → same_name (item_name d) second ≡ true → e.name.name ≡ second.name
    item_is e i k = same_bytes e.name.name second.name (ap (λ x. same_name (item_name x) second) (sym i) ∙ k)

    by_test : (b : Bool) → same_name (item_name d) second ≡ b
        → ◌≡◌ {A = Faults} (called_rule first second (elim b [ true ↦ item_meaning d | false ↦ declared_meaning ds second ])) []
        → (called_rule first second (declared_meaning ds second) ≡ [] → IsCalledByMain ds second) → IsCalledByMain (d ∷ ds) second
    by_test true i k later =
        let e = called_item first second d k in
        record { place = 0; subprogram = e.0; at = ap Some e.1; named = item_is e.0 e.1 i; result = e.2; formals = e.3 }
    by_test false i k later =
        let n = later k in record { place = suc n.place; subprogram = n.subprogram; at = n.at; named = n.named; result = n.result; formals = n.formals }

no_package : (b : Bool) (first : Identifier) → no_package_rule b first ≡ [] → ⊥
no_package true first h = cc
no_package false first h = cc

pub no_formals : (qs : List Parameter) → map formal_of qs ≡ [] → qs ≡ []
no_formals [] h = refl
no_formals (q ∷ qs) h = cc

module _ (program : Program) (s : Scope) (all : List BodyItemTree) (w : IsPackage program s all) (laws : Premises program) (scopes : ScopesAreSound)
    (m : Store) (memory : IsSoundMemory program m)
    (offers : (name : List ℕ) (o : ProtectedObject) → stands program.scope name ≡ Some (Protected o) → OffersAll program o)
    (fronts : (k : ℕ) → SoundScope (scope_at s all k)) where
  pub front_first : (k : ℕ) → StandsFirst (scope_at s all k) program.scope
  front_first k = subst (StandsFirst (scope_at s all k)) (scope_behind s all k ∙ w.scope) (all_first laws.added (scope_at s all k) (drop k all))

  pub front_fits : (k : ℕ) (p : Place) → FitsScope program (scope_at s all k) (in_package program s all w m memory p)
  front_fits k p =
      fits_fewer program laws (scope_at s all k) program.scope (in_package program s all w m memory p) (front_first k) (fronts k)
      (package_fits program s all w m memory p offers)

  -- ---- procedures

  module _ (k : ℕ) (d : SubprogramTree) (b : BodyTree) (at : slice_get all k ≡ Some (SubprogramBody d b)) (none : d.result ≡ None) where
    next_is : scope_at s all (suc k) ≡ subprogram_scope (scope_at s all k) d
    next_is = scope_next s all k (SubprogramBody d b) at

    head : head_faults (scope_at s all k) d b ≡ []
    head = head_legal program s all w k d b at

    formals_legal : formals_faults (scope_at s all k) [] d.formals ≡ []
    formals_legal = front_empty _ _ (front_empty _ _ (front_empty (profile_faults (scope_at s all k) d) _ (front_empty _ _ (front_empty _ _ head))))

    own_legal : own_name_faults d.name d.formals ≡ []
    own_legal = back_empty (profile_faults (scope_at s all k) d) _ (front_empty _ _ (front_empty _ _ head))

    inner_legal : body_faults (formals_scope (subprogram_scope (scope_at s all k) d) d.formals) (kind_of (scope_at s all k) d.result) b ≡ []
    inner_legal = back_empty (head_faults (scope_at s all k) d b) _ (front_empty _ (end_rule d.name b.end_name) (body_legal program s all w k d b at))

    inner_sound : SoundScope (subprogram_scope (scope_at s all k) d)
    inner_sound = subst SoundScope next_is (fronts (suc k))

    doubt : (name : List ℕ) → stands (scope_at s all k) name ≡ Some Doubtful → ⊥
    doubt name h = no_doubt program s all w name (kept program s all w k name Doubtful h)

    legal_body : IsLegalBody program m (subprogram_body None d b)
    legal_body =
        record {
          scope = subprogram_scope (scope_at s all k) d;
          kind = kind_of (scope_at s all k) d.result;
          fits = λ p. subst (λ u. FitsScope program u (in_package program s all w m memory p)) next_is (front_fits (suc k) p);
          sound = inner_sound;
          new =
              new_formals scopes program.scope (scope_at s all k) (subprogram_scope (scope_at s all k) d) inner_sound
              (keeps_with (scope_at s all k) d.name.name _) doubt
              (λ name t h. subtype_kept (scope_at s all k) program.scope (kept program s all w k) name t h) [] d.formals formals_legal
              (unseen_own (scope_at s all k) d.name _ d.formals own_legal (unseen_first (scope_at s all k) [] d.formals formals_legal));
          text =
              text_formals scopes program.scope (scope_at s all k) (subprogram_scope (scope_at s all k) d) inner_sound
              (keeps_with (scope_at s all k) d.name.name _) doubt
              (λ name t h. subtype_kept (scope_at s all k) program.scope (kept program s all w k) name t h) [] d.formals (subprogram_scope (scope_at s all k) d)
              (keeps_same (subprogram_scope (scope_at s all k) d)) formals_legal;
          legal = inner_legal;
          restricted = restricted_at s all w.list k (SubprogramBody d b) at;
          statements = ap (λ r. is_function (kind_of (scope_at s all k) r)) none;
        }

  pub package_procedure : (u : Bodied) (p : InPackage all u) → u.result ≡ None → IsSoundProcedure program m (procedure_by program.scope u)
  package_procedure u p none =
      subst (λ v. IsSoundProcedure program m (procedure_by program.scope v)) (sym p.is)
      (procedure_sound program laws scopes m (subprogram_body None p.subprogram p.body)
      (legal_body p.place p.subprogram p.body p.at (ap (λ v. v.result) (sym p.is) ∙ none)))

  -- ---- tasks

  task_with_items : (u : Scope) → ((p : Place) → FitsScope program u (in_package program s all w m memory p)) → (a : Around) (items : List Item)
      → IsReady program (record { within = None; locals = [] }) u [] a items
      → IsSoundTask program m None (record { work = Goes items; own = record { within = None; locals = [] }; callers = [] })
  task_with_items u fits a items ready =
      record { scope = u; outer = []; around = a; work = ready; own = record { fits = fits; locals = tt }; callers = refl; all = tt; held = tt }

  plain_task : IsPlain (in_body kind.Task)
  plain_task = record { loop = refl; handler = refl; kind = refl }

  task_sound : (k : ℕ) (name : Identifier) (b : BodyTree) → slice_get all k ≡ Some (TaskBody name b)
      → IsSoundTask program m None (record { work = Goes (duty_items (OfBody b)); own = record { within = None; locals = [] }; callers = [] })
  task_sound k name b at =
      task_with_items (scope_at s all k) (front_fits k) (in_body kind.Task) (duty_items (OfBody b)) (ready b.declarations begins)
    where
      legal : task_body_faults (scope_at s all k) name b ≡ []
      legal = legal_at s all k (TaskBody name b) at w.list.legal

      kept_rules : profile.body_faults b ≡ []
      kept_rules = restricted_at s all w.list k (TaskBody name b) at

      three : task_rule (scope_at s all k) name ++ fixed_locals_faults (scope_at s all k) b.declarations
          ++ sequence_faults (locals_scope (scope_at s all k) b.declarations) (in_body kind.Task) b.statements b.handlers ≡ []
      three = front_empty _ (end_rule name b.end_name) legal

      begins : Begins program (scope_at s all k) [] (in_body kind.Task) (map Declares b.declarations ++ Sequence b.statements b.handlers ∷ [])
      begins =
          begins_body program [] (in_body kind.Task) b.statements b.handlers [] (scope_at s all k) b.declarations
          (locals_legal (scope_at s all k) b.declarations
          (back_empty (task_rule (scope_at s all k) name) (fixed_locals_faults (scope_at s all k) b.declarations) (front_empty _ (sequence_faults (locals_scope (scope_at s all k) b.declarations) (in_body kind.Task) b.statements b.handlers) three)))
          (front_empty (profile.locals_faults b.declarations) _ (front_empty _ (profile.handlers_faults b.handlers) kept_rules))
          (back_empty _ (sequence_faults (locals_scope (scope_at s all k) b.declarations) (in_body kind.Task) b.statements b.handlers) three)
          (back_empty (profile.locals_faults b.declarations) (profile.stmts_faults b.statements) (front_empty _ (profile.handlers_faults b.handlers) kept_rules))
          (back_empty _ (profile.handlers_faults b.handlers) kept_rules)
          (λ u keeps. plain_task)

      ready : (ds : List DeclarationTree) → Begins program (scope_at s all k) [] (in_body kind.Task) (map Declares ds ++ Sequence b.statements b.handlers ∷ [])
          → IsReady program (record { within = None; locals = [] }) (scope_at s all k) [] (in_body kind.Task) (map Declares ds ++ Sequence b.statements b.handlers ∷ [])
      ready [] h = h
      ready (x ∷ xs) h = h

  -- ---- main

  abbrev pub AllMain : List MainStatement → Type 0
  AllMain [] = ⊤
  AllMain (x ∷ xs) = IsMainStatement program x × AllMain xs

  main_sound : (xs : List MainStatement) → AllMain xs
      → IsSoundTask program m None (record { work = Goes (duty_items (OfMain xs)); own = record { within = None; locals = [] }; callers = [] })
  main_sound xs h =
      task_with_items program.scope (λ p. package_fits program s all w m memory p offers) (in_body kind.Task) (duty_items (OfMain xs)) (ready xs h)
    where
      all_judged : (ys : List MainStatement) → AllMain ys → Judged program program.scope [] (in_body kind.Task) (map DoesMain ys)
      all_judged [] k = plain_task
      all_judged (y ∷ ys) k = (k.0, all_judged ys k.1)

      ready : (ys : List MainStatement) → AllMain ys
          → IsReady program (record { within = None; locals = [] }) program.scope [] (in_body kind.Task) (map DoesMain ys)
      ready [] k = plain_task
      ready (y ∷ ys) k = (k.0, all_judged ys k.1)

  call_legal : (j : ℕ) (d : SubprogramTree) → slice_get all j ≡ Some (OfItem (OfSubprogram d)) → d.result ≡ None → d.formals ≡ []
      → (q : Procedure) × (procedure_here program None d.name.name ≡ Some q) × (q.parameters ≡ [])
  call_legal j d at none formals =
      let u : Scope = scope_at s all j in
      let e : Entity = profile_entity (own_profile u d) in
      let new = unseen_none u d.name.name (item_new u (OfSubprogram d) (legal_at s all j (OfItem (OfSubprogram d)) at w.list.legal)) in
      let one : one_of (declares u (OfItem (OfSubprogram d))) d.name.name ≡ Some e = ap (λ t. cond t (Some e) None) (bytes_same d.name.name) in
      let there = item_stands program s all w j (OfItem (OfSubprogram d)) d.name.name e at new one in
      let known = profile_known (own_profile u d) (λ i. no_doubt program s all w d.name.name (there ∙ ap Some i)) in
      let p : Profile = known.0 in
      let no_result = profile_none u (formal_parameters u d.formals) p (ap (profile_with u (formal_parameters u d.formals)) (sym none) ∙ known.1) in
      let given = profile_formals u (formal_parameters u d.formals) d.result p known.1 in
      let empty : p.formals ≡ [] = sym (same_some [] p.formals (ap (formal_parameters u) (sym formals) ∙ given)) in
      let found = entity_procedure program s all w d.name.name p (there ∙ ap (λ o. Some (profile_entity o)) known.1) no_result in (
        found.procedure,
        same_twice (procedure_among program.procedures None d.name.name) ∙ found.is,
        no_formals found.procedure.parameters (found.formals ∙ empty),
      )

  module _ (o : Option PackageTree)
      (specified : (p : PackageTree) (k : ℕ) (d : ItemTree) → o ≡ Some p → slice_get p.declaration.items k ≡ Some d → slice_get all k ≡ Some (OfItem d)) where
    statement_legal : (u : Scope) (q : Option PackageTree) → o ≡ q → (x : MainStatement) → main_statement_faults u q x ≡ [] → IsMainStatement program x
    statement_legal u q i (main.Null place) h = tt
    statement_legal u None i (main.Call first second) h = absurd (no_package _ first h)
    statement_legal u (Some p) i (main.Call first second) h = by_test (same_name p.declaration.name first) h
      where
        by_test : (b : Bool)
            → ◌≡◌ {A = Faults} (elim b [ true ↦ called_rule first second (declared_meaning p.declaration.items second) | false ↦ no_package_rule (is_visible u first.name) first ]) []
            → IsMainStatement program (main.Call first second)
        by_test false k = absurd (no_package _ first k)
        by_test true k =
            let x = called_there first second p.declaration.items k in
            let q = call_legal x.place x.subprogram (specified p x.place (OfSubprogram x.subprogram) i x.at) x.result x.formals in
            (q.0, ap (procedure_here program None) (sym x.named) ∙ q.1, q.2)

    pub statements_legal : (u : Scope) (xs : List MainStatement) → main_statements_faults u o xs ≡ [] → AllMain xs
    statements_legal u [] h = tt
    statements_legal u (x ∷ xs) h = (
      statement_legal u o refl x (front_empty (main_statement_faults u o x) (main_statements_faults u o xs) h),
      statements_legal u xs (back_empty (main_statement_faults u o x) (main_statements_faults u o xs) h),
    )

  -- ---- all works

  -- where nothing is to do
  pub none_sound : IsSoundTask program m None (items_work [])
  none_sound = main_sound [] tt

  pub works_sound : (last : Task) (xs : List MainStatement) → program.tasks ≡ tasks_among program.scope all (items_among all) ++ last ∷ []
      → last.duty ≡ OfMain xs → AllMain xs
      → (u : ℕ) → IsSoundTask program m None (task_work program u)
  works_sound last xs are main_is called u = by_task (slice_get program.tasks u) refl
    where
      by_duty : (t : Task)
          → (slice_get (tasks_among program.scope all (items_among all)) u ≡ Some t) ⊎ ((u ≡ length (tasks_among program.scope all (items_among all))) × (last ≡ t))
          → IsSoundTask program m None (items_work (duty_items t.duty))
      by_duty t (inl at) =
          let d = task_found program.scope all (items_among all) t (at_has (tasks_among program.scope all (items_among all)) u t at) in
          subst (λ x. IsSoundTask program m None (items_work (duty_items x))) (sym d.is) (task_sound d.place d.name d.body d.at)
      by_duty t (inr i) = subst (λ x. IsSoundTask program m None (items_work (duty_items x))) (sym main_is ∙ ap (λ y. y.duty) i.1) (main_sound xs called)

      by_task : (o : Option Task) → slice_get program.tasks u ≡ o → IsSoundTask program m None (items_work (task_items o))
      by_task (Some t) i = by_duty t (item_of_added (tasks_among program.scope all (items_among all)) last t u (ap (λ l. slice_get l u) (sym are) ∙ i))
      by_task None i = none_sound
