-- The names of an accepted program are sound, and what methods ask that add the code of a body is so of each of its subprograms and tasks (RM 6.1, 6.3).
use Rattle.std.proofs.Common.{◌≡◌, ℕ, suc, ◌+◌, List, [], ◌∷◌, ◌++◌, length, length-append, map, cond, true, Some, None, refl, sym, ap, ◌∙◌, subst, arith}
use Rattle.std.specs.Prelude.{is_some, slice_get}
use Rattle.std.proofs.lemmas.Bool.{and_parts}
use Rattle.std.proofs.lemmas.List.{length-map}
use Rattle.ada_tree.specs.declared.expression.Identifier.{Identifier}
use Rattle.ada_tree.specs.ExpressionTree.{ExprTree}
use Rattle.ada_tree.specs.StatementTree.{DeclarationTree, MoreStmts, NoStmts, Return, StmtTrees, SubprogramTree}
use Rattle.ada_tree.specs.ProgramTree.{BodyItemTree, BodyTree, ProgramTree, SubprogramBody, TaskBody}
use Rattle.types.specs.declared.entity.Subtype.{Subtype}
use Rattle.types.specs.Scopes.{Named, Scope, with_name}
use Rattle.expr_soundness.specs.expr_rules.specs.declared.own.Wanted.TheVariants.{OfType}
use Rattle.expr_soundness.specs.expr_rules.specs.ExpressionRules.{faults_of}
use Rattle.expr_soundness.specs.expr_rules.proofs.TypedLaw.{back_empty, front_empty, judged, unbroken}
use Rattle.type_rules.specs.ProfileRules.{formals_faults, profile_faults, result_faults}
use Rattle.type_rules.specs.SubtypeNames.{end_rule, subtype_of}
use Rattle.declaration_rules.specs.BodyNames.{formals_scope}
use Rattle.declaration_rules.specs.LocalRules.{fixed_locals_faults, locals_faults, locals_scope}
use Rattle.program_soundness.specs.stmt_rules.specs.declared.around.Around.{Around}
use Rattle.program_soundness.specs.stmt_rules.specs.declared.around.BodyKind.TheVariants as kind
use Rattle.program_soundness.specs.stmt_rules.specs.SimpleRules.{result_wanted}
use Rattle.program_soundness.specs.stmt_rules.specs.StatementRules.{handlers_faults, in_body, sequence_faults, stmts_faults}
use Rattle.unit_rules.specs.BodyRules.{body_faults, function_body_faults, has_no_declarations, head_faults, is_function_body, kind_of, task_body_faults, task_rule, type_number}
use Rattle.program_soundness.specs.legality.specs.ProgramRules.{IsLegal}
use Rattle.ravenscar.specs.ProgramRules.{IsRestricted}
use Rattle.expr_soundness.specs.meaning.specs.Programs.{Parameter, Program, parameter, program_of, returned, subtype_named}
use Rattle.expr_soundness.specs.Laws.{ScopesAreSound}
use Rattle.expr_soundness.specs.SoundScopes.{SoundScope}
use Rattle.expr_soundness.proofs.Positions.{same_some}
use Rattle.program_soundness.specs.Fronts.{declared_in, front, scope_at, start_in}
use Rattle.program_soundness.specs.BodyLaws.{NamesAreKnown, PremisesHold}
use Rattle.program_soundness.proofs.Called.{head_legal}
use Rattle.program_soundness.proofs.OneList.{both_empty}
use Rattle.program_soundness.proofs.WiderScopes.{none_unseen, with_all}
use Rattle.program_soundness.proofs.Formals.{AreNew, all_named, named_formal, new_behind, sound_all}
use Rattle.program_soundness.proofs.Beginning.{locals_legal}
use Rattle.program_soundness.proofs.BodyProfiles.{named_is, subtype_kept}
use Rattle.program_soundness.proofs.Trees.{tree_package}
use Rattle.program_soundness.proofs.Walked.{legal_at, scope_next}
use Rattle.program_soundness.proofs.Whole.{IsPackage, kept, known_subtype}
use Rattle.expr_code.specs.Emitting.{IsFit}
use Rattle.package_code.proofs.NewParameters.{body_unbroken, formals_text, parameters_new}
use Rattle.package_code.specs.Laws.{NamesAreSound}
use Rattle.expr_code.specs.Emitting.{IsFit}
use Rattle.package_code.specs.Bodies.{of_task}

pub names_sound : PremisesHold → NamesAreSound
names_sound premises t legal = (premises t legal).sound

-- ---- each new name is one more

pub all_longer : (s : Scope) (fs : List Parameter) → AreNew s fs → length (with_all s (all_named fs)) ≡ length s + length fs
all_longer s [] new = omega arith
all_longer s (f ∷ fs) new =
    let x : Named = named_formal f in
    let next : Scope = with_name s f.name x.entity in
    let added = length-append s (x ∷ []) in
    let one : length next ≡ suc (length s) = ap (λ b. length (cond b s (s ++ x ∷ []))) (none_unseen s f.name new.0) ∙ (omega (arith, added)) in
    let rest : length (with_all next (all_named fs)) ≡ length next + length fs = all_longer next fs (new_behind s f fs new.1 new.3) in
    omega (arith, one, rest)

-- ---- what a body returns breaks no rule where its statements break none

none_declared : (ds : List DeclarationTree) → has_no_declarations ds ≡ true → ds ≡ []
none_declared [] h = refl
none_declared (d ∷ ds) h = cc

value_unbroken : (s : Scope) (a : Around) (body : StmtTrees) (value : ExprTree) → returned body ≡ Some value → stmts_faults s a body ≡ []
    → faults_of s (result_wanted a.kind) value ≡ []
value_unbroken s a (MoreStmts (Return place (Some e)) NoStmts) value h k =
    subst (λ x. faults_of s (result_wanted a.kind) x ≡ []) (same_some e value h) (back_empty _ (faults_of s (result_wanted a.kind) e) (front_empty _ [] k))
value_unbroken s a (MoreStmts (Return place (Some e)) (MoreStmts y rest)) value h k = cc
value_unbroken s a (MoreStmts (Return place None) NoStmts) value h k = cc
value_unbroken s a (MoreStmts (Return place None) (MoreStmts y rest)) value h k = cc
value_unbroken s a body value h k = cc

-- ---- what its rules say of a body

-- What is known of a body where these names are visible in front of its parameters: these have names of their own, what a function returns fits its result, and
-- a function declares nothing.
pub record IsSoundBody (t : ProgramTree) (s : Scope) (d : SubprogramTree) (b : BodyTree) : Type 0 where
  pub front : SoundScope s
  pub sound : SoundScope (formals_scope s d.formals)
  pub new_names : length (formals_scope s d.formals) ≡ length s + length d.formals
  pub fit : (r : Identifier) (value : ExprTree) → d.result ≡ Some r → returned b.statements ≡ Some value
      → IsFit (formals_scope s d.formals) (subtype_named (program_of t).scope r) value
  pub result : (r : Identifier) → d.result ≡ Some r → is_some (subtype_of (program_of t).scope r) ≡ true
  pub bare : (r : Identifier) → d.result ≡ Some r → b.declarations ≡ []

-- where these names are visible in front of it, and these in front of its parameters
module _ (whole before behind : Scope) (d : SubprogramTree) (b : BodyTree) (head : head_faults before d b ≡ [])
    (unbroken_ : body_faults (formals_scope behind d.formals) (kind_of before d.result) b ≡ [])
    (told : (r : Identifier) → d.result ≡ Some r → (u : Subtype) × (subtype_of before r ≡ Some u) × (subtype_of whole r ≡ Some u)) where
  abbrev inner : Scope
  inner = formals_scope behind d.formals

  abbrev later : Scope
  later = locals_scope inner b.declarations

  abbrev around : Around
  around = in_body (kind_of before d.result)

  statements : stmts_faults later around b.statements ≡ []
  statements =
      front_empty (stmts_faults later around b.statements) (handlers_faults later around b.handlers)
      (back_empty (locals_faults inner b.declarations) _ unbroken_)

  -- ---- nor does the value of a function

  -- the subtype of its result is known
  pub known_result : (r : Identifier) → d.result ≡ Some r → is_some (subtype_of whole r) ≡ true
  known_result r some = ap is_some (told r some).2

  -- its body is one return
  pub declares_nothing : (r : Identifier) → d.result ≡ Some r → b.declarations ≡ []
  declares_nothing r some =
      let single : is_function_body b ≡ true =
      judged (is_some d.result) (is_function_body b) (unbroken _ d.name.place _ (back_empty _ (function_body_faults d b) head)) (ap is_some some) in
      none_declared b.declarations (and_parts (has_no_declarations b.declarations) _ single).0

  module _ (r : Identifier) (value : ExprTree) (some : d.result ≡ Some r) (is : returned b.statements ≡ Some value) where
    abbrev result : Subtype
    result = subtype_named whole r

    no_more : later ≡ inner
    no_more = ap (locals_scope inner) (declares_nothing r some)

    named : result ≡ (told r some).0
    named = named_is whole r (told r some).0 (told r some).2

    wanted : result_wanted (kind_of before d.result) ≡ OfType result.type_number
    wanted =
        ap (λ o. result_wanted (kind_of before o)) some
        ∙ ap (λ o. result_wanted (kind.Function (type_number o))) (told r some).1
        ∙ ap (λ u. OfType u.type_number) (sym named)

    pub result_legal : faults_of inner (OfType result.type_number) value ≡ []
    result_legal =
        subst (λ x. faults_of inner x value ≡ []) wanted
        (subst (λ s. faults_of s (result_wanted (kind_of before d.result)) value ≡ []) no_more
        (value_unbroken later around b.statements value is statements))

    pub fit : IsFit inner result value
    fit = record { wanted = OfType result.type_number; fits = refl; unbroken = result_legal }

-- ---- the body at a place of the package

module _ (scopes : ScopesAreSound) (known : NamesAreKnown) (premises : PremisesHold) (t : ProgramTree) (legal : IsLegal t) (restricted : IsRestricted t)
    (k : ℕ) (d : SubprogramTree) (b : BodyTree) (at : slice_get (declared_in t.package_) k ≡ Some (SubprogramBody d b)) where
  abbrev program : Program
  program = program_of t

  abbrev start : Scope
  start = start_in t.package_

  abbrev all : List BodyItemTree
  all = declared_in t.package_

  abbrev before : Scope
  before = scope_at start all k

  -- behind its name, and behind its parameters
  abbrev behind : Scope
  behind = scope_at start all (suc k)

  abbrev inside : Scope
  inside = formals_scope behind d.formals

  abbrev parameters : List Parameter
  parameters = map (parameter program.scope) d.formals

  w : IsPackage program start all
  w = tree_package t legal restricted (premises t legal).sound

  fronts : (n : ℕ) → SoundScope (scope_at start all n)
  fronts = (known t legal restricted).fronts

  new : AreNew behind parameters
  new = parameters_new scopes program start all w fronts k d b at

  text : inside ≡ with_all behind (all_named parameters)
  text = formals_text scopes program start all w fronts k d b at

  sound_inside : SoundScope inside
  sound_inside = subst SoundScope (sym text) (sound_all scopes behind parameters (fronts (suc k)) new)

  new_names : length inside ≡ length behind + length d.formals
  new_names = ap length text ∙ all_longer behind parameters new ∙ ap (λ n. length behind + n) (length-map d.formals (parameter program.scope))

  -- ---- it breaks no rule

  pub body_legal : body_faults inside (kind_of before d.result) b ≡ []
  body_legal = body_unbroken scopes program start all w fronts k d b at

  head : head_faults before d b ≡ []
  head = head_legal program start all w k d b at

  profile_legal : profile_faults before d ≡ []
  profile_legal = front_empty (profile_faults before d) _ (front_empty _ _ (front_empty _ _ head))

  told : (r : Identifier) → d.result ≡ Some r → (u : Subtype) × (subtype_of before r ≡ Some u) × (subtype_of program.scope r ≡ Some u)
  told r some =
      let known_here =
      known_subtype program start all w k r
      (subst (λ o. result_faults before o ≡ []) some
      (back_empty (formals_faults before [] d.formals) (result_faults before d.result) (front_empty _ _ profile_legal))) in
      (known_here.0, known_here.1, subtype_kept before program.scope (kept program start all w k) r known_here.0 known_here.1)

  pub body_added : IsSoundBody t (front t (suc k)) d b
  body_added = record {
    front = fronts (suc k);
    sound = sound_inside;
    new_names = new_names;
    fit = fit program.scope before behind d b head body_legal told;
    result = known_result program.scope before behind d b head body_legal told;
    bare = declares_nothing program.scope before behind d b head body_legal told;
  }

-- ---- the body of a task, which has no parameters

module _ (scopes : ScopesAreSound) (known : NamesAreKnown) (premises : PremisesHold) (t : ProgramTree) (legal : IsLegal t) (restricted : IsRestricted t)
    (k : ℕ) (name : Identifier) (b : BodyTree) (at : slice_get (declared_in t.package_) k ≡ Some (TaskBody name b)) where
  abbrev before_task : Scope
  before_task = scope_at (start_in t.package_) (declared_in t.package_) k

  same_scope : front t (suc k) ≡ before_task
  same_scope = scope_next (start_in t.package_) (declared_in t.package_) k (TaskBody name b) at

  legal_task : task_body_faults before_task name b ≡ []
  legal_task =
      legal_at (start_in t.package_) (declared_in t.package_) k (TaskBody name b) at (tree_package t legal restricted (premises t legal).sound).list.legal

  abbrev in_task : Around
  in_task = in_body kind.Task

  parts : (locals_faults before_task b.declarations ≡ [])
      × (stmts_faults (locals_scope before_task b.declarations) in_task b.statements ≡ [])
      × (handlers_faults (locals_scope before_task b.declarations) in_task b.handlers ≡ [])
  parts =
      let later = locals_scope before_task b.declarations in
      let three = front_empty _ (end_rule name b.end_name) legal_task in
      let two = front_empty _ (sequence_faults later in_task b.statements b.handlers) three in
      let sequence = back_empty _ (sequence_faults later in_task b.statements b.handlers) three in (
        locals_legal before_task b.declarations (back_empty (task_rule before_task name) (fixed_locals_faults before_task b.declarations) two),
        front_empty (stmts_faults later in_task b.statements) (handlers_faults later in_task b.handlers) sequence,
        back_empty (stmts_faults later in_task b.statements) (handlers_faults later in_task b.handlers) sequence,
      )

  pub task_legal : body_faults (front t (suc k)) kind.Task b ≡ []
  task_legal = subst (λ s. body_faults s kind.Task b ≡ []) (sym same_scope) (both_empty _ _ parts.0 (both_empty _ _ parts.1 parts.2))

  pub task_added : IsSoundBody t (front t (suc k)) (of_task (front t (suc k)) name b).head b
  task_added = record {
    front = (known t legal restricted).fronts (suc k);
    sound = (known t legal restricted).fronts (suc k);
    new_names = omega arith;
    fit = λ r value some is. (let none : None ≡ Some r = some in cc);
    result = λ r some. (let none : None ≡ Some r = some in cc);
    bare = λ r some. (let none : None ≡ Some r = some in cc);
  }
