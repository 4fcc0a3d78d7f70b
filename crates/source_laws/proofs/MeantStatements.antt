-- What stands in a legal body tells all that its meaning takes from it: objects that it declares name subtypes of the package, and each choice of a `case` has
-- one value wherever it is evaluated.
use Rattle.std.proofs.Common.{◌≡◌, ◌++◌, ◌⊎◌, inl, inr, ℕ, List, [], ◌∷◌, Bool, true, false, Option, Some, None, refl, sym, ap, ◌∙◌, subst}
use Rattle.std.specs.Prelude.{cond, not, ◌||◌, ◌&&◌, option_map}
use Rattle.base.specs.declared.faults.TheConstants.{DECLARED_TWICE, NO_MEANING, WRONG_CHOICES}
use Rattle.ada_tree.specs.declared.expression.Identifier.{Identifier}
use Rattle.ada_tree.specs.ExpressionTree.{ExprTree}
use Rattle.ada_tree.specs.StatementTree.{AlternativeTrees, Block, Case, ChoicesTree, DeclarationTree, ElsifTrees, For, Forever, HandlerTrees, If, LocalObject, LocalProtected, LocalTask, Loop, MoreAlternatives, MoreElsifs, MoreHandlers, MoreStmts, NoAlternatives, NoElsifs, NoHandlers, NoStmts, OtherValues, RangeTree, StmtTree, StmtTrees, Values, While}
use Rattle.types.specs.declared.entity.Role.TheVariants as role
use Rattle.types.specs.declared.entity.Subtype.{Subtype}
use Rattle.types.specs.declared.entity.Value.{Value as Scalar}
use Rattle.types.specs.declared.entity.Value.TheVariants as scalar
use Rattle.types.specs.Entities.{Booleans, Doubtful, Entity, Object, TypeForm}
use Rattle.types.specs.Evaluating.{call}
use Rattle.types.specs.Evaluations.{Gives}
use Rattle.types.specs.Scopes.{Scope, form_at, integer_type, is_visible, with_name}
use Rattle.types.specs.Statics.{StaticIsValue, start_of, static_value}
use Rattle.types.specs.Values.{Number, Truth}
use Rattle.expr_soundness.specs.expr_rules.specs.declared.own.Own.{Own}
use Rattle.expr_soundness.specs.expr_rules.specs.declared.own.Own.TheVariants.{Typed, Universal, Unknown}
use Rattle.expr_soundness.specs.expr_rules.specs.declared.own.Wanted.{Wanted}
use Rattle.expr_soundness.specs.expr_rules.specs.declared.own.Wanted.TheVariants.{AnyInteger, Anything, OfType}
use Rattle.expr_soundness.specs.expr_rules.specs.Faults.{rule}
use Rattle.expr_soundness.specs.expr_rules.specs.ExpressionRules.{faults_in, faults_of}
use Rattle.expr_soundness.specs.expr_rules.specs.Laws.{is_value_of}
use Rattle.expr_soundness.specs.expr_rules.specs.NameRules.{mismatch}
use Rattle.expr_soundness.specs.expr_rules.specs.StaticRules.{static_faults}
use Rattle.expr_soundness.specs.expr_rules.specs.Typing.{is_booleans, is_integers, is_known, is_wanted, own_of}
use Rattle.expr_soundness.specs.expr_rules.proofs.TypedLaw.{as_truth, back_empty, front_empty, same_number, unbroken}
use Rattle.expr_soundness.specs.type_rules.specs.ObjectRules.{local_initial_faults, object_entity, role_of}
use Rattle.expr_soundness.specs.type_rules.specs.SubtypeNames.{declared_twice, named_entity, subtype_faults, subtype_in, subtype_of}
use Rattle.program_soundness.specs.declaration_rules.specs.BodyNames.{last_rule, loop_faults, loop_scope, loop_type, parameter_entity, turns_subtype}
use Rattle.program_soundness.specs.declaration_rules.specs.LocalRules.{local_faults, local_scope, locals_faults, locals_scope}
use Rattle.program_soundness.specs.stmt_rules.specs.CaseRules.{choice_faults, choice_value, choices_faults, choices_wanted, chosen_by, chosen_with, discrete_rule, is_chosen, is_discrete, no_more, others_rule, selecting_faults, values_faults}
use Rattle.program_soundness.specs.stmt_rules.specs.HandlerRules.{exception_choices_faults, is_single, named_after}
use Rattle.program_soundness.specs.stmt_rules.specs.HandlerRules as handlers
use Rattle.program_soundness.specs.stmt_rules.specs.SimpleRules.{condition_faults}
use Rattle.program_soundness.specs.stmt_rules.specs.StatementRules.{alternatives_faults, elsifs_faults, in_handler, in_loop, more_handlers_faults, stmt_faults, stmts_faults}
use Rattle.program_soundness.specs.stmt_rules.specs.declared.around.Around as rules
use Rattle.program_soundness.specs.step_soundness.specs.body_restrictions.specs.BodyRules as restrictions
use Rattle.expr_soundness.specs.SoundScopes.{SoundScope}
use Rattle.expr_soundness.proofs.Growing.{sound_with_object}
use Rattle.program_soundness.specs.ScopeLaws.{DeclarationsAreSound}
use Rattle.program_soundness.proofs.Extending.{same_subtypes}
use Rattle.program_soundness.proofs.OneList.{both_empty}
use Rattle.program_soundness.proofs.Statics.{IsStatic, must_be_static, static_number}
use Rattle.program_soundness.proofs.Whole.{legal_subtype}
use Rattle.program_soundness.proofs.WiderScopes.{number_stands}
use Rattle.expr_code.proofs.Widths.{known}
use Rattle.part_code.proofs.Deciding.{fixed_kept}
use Rattle.source_laws.specs.Meant.{AreToldAlternatives, AreToldChoices, AreToldElsifs, AreToldHandlers, AreToldLocals, AreToldValues, IsSubtypeName, IsToldChoice, IsToldStmt, IsToldStmts}
use Rattle.source_laws.proofs.NeedsScopes.{bounds_known, bounds_legal, integral}

-- ---- choices

-- what is wanted of choices: an integer type, or Boolean
pub record IsDiscrete (s : Scope) (w : Wanted) : Type 0 where
  pub number : ℕ
  pub is : w ≡ OfType number
  pub discrete : (is_integers (form_at s number) ≡ true) ⊎ (is_booleans (form_at s number) ≡ true)

no_integers : (o : Option TypeForm) → is_booleans o ≡ true → is_integers o ≡ true → ⊥
no_integers (Some Booleans) h k = cc
no_integers o h k = cc

module _ (statics : StaticIsValue) (s : Scope) (sound : SoundScope s) where
  either_true : (a b : Bool) → (a || b) ≡ true → (a ≡ true) ⊎ (b ≡ true)
  either_true true b h = inl refl
  either_true false b h = inr h

  selecting_discrete : (place : ℕ) (own : Own) → is_known own ≡ true → discrete_rule s own place ≡ [] → IsDiscrete s (choices_wanted s own)
  selecting_discrete place Unknown known h = cc
  selecting_discrete place Universal known h = record { number = integer_type; is = refl; discrete = inl (ap is_integers sound.integer) }
  selecting_discrete place (Typed n) known h =
      let discrete = not_broken (is_discrete s (Typed n)) (unbroken NO_MEANING place (not (is_discrete s (Typed n))) h) in
      record {
        number = n;
        is = ap (λ b. elim b [ true ↦ OfType n | false ↦ Anything ]) discrete;
        discrete = either_true (is_integers (form_at s n)) (is_booleans (form_at s n)) discrete;
      }
    where
      not_broken : (b : Bool) → not b ≡ false → b ≡ true
      not_broken true k = refl
      not_broken false k = cc

  selected : (e : ExprTree) → selecting_faults s e ≡ [] → IsDiscrete s (choices_wanted s (own_of s e))
  selected e h =
      let expected = faults_of s Anything e in
      let inside = front_empty (faults_in s Anything e) (mismatch s Anything (own_of s e) (start_of e))
      (front_empty expected (discrete_rule s (own_of s e) (start_of e)) h) in
      selecting_discrete (start_of e) (own_of s e) (known s sound e Anything inside) (back_empty expected (discrete_rule s (own_of s e) (start_of e)) h)

  -- a Boolean is a truth value
  truth_static : (n : ℕ) (c : ExprTree) → is_booleans (form_at s n) ≡ true → IsStatic s sound (OfType n) None c
      → (b : Bool) × (static_value s c ≡ Gives (Truth b))
  truth_static n c boolean x = by_own (own_of s c) x.known x.fitting x.typed
    where
      by_own : (own : Own) → is_known own ≡ true → is_wanted s (OfType n) own ≡ true → is_value_of s own x.value ≡ true
          → (b : Bool) × (static_value s c ≡ Gives (Truth b))
      by_own Unknown k fits typed = cc
      by_own Universal k fits typed = absurd (no_integers (form_at s n) boolean fits)
      by_own (Typed m) k fits typed =
          let same = subst (λ a. is_booleans (form_at s a) ≡ true) (same_number n m fits) boolean in
          let b = as_truth s (Typed m) x.value same typed in (b.0, x.gives ∙ ap Gives b.1)

  choice_told : (w : Wanted) → IsDiscrete s w → (c : ExprTree) → static_faults s w None c ≡ [] → IsToldChoice s c
  choice_told w d c h = by_form d.discrete
    where
      x : IsStatic s sound (OfType d.number) None c
      x = must_be_static s sound (OfType d.number) None c (subst (λ u. static_faults s u None c ≡ []) d.is h)

      by_form : (is_integers (form_at s d.number) ≡ true) ⊎ (is_booleans (form_at s d.number) ≡ true) → IsToldChoice s c
      by_form (inl integers) =
          let z = static_number s sound (OfType d.number) None c integers x in
          (scalar.Number z.0, λ p agrees. statics s p (call p.frames_left) (fixed_kept s p agrees) c x.static ∙ z.2)
      by_form (inr boolean) =
          let b = truth_static d.number c boolean x in
          (scalar.Truth b.0, λ p agrees. statics s p (call p.frames_left) (fixed_kept s p agrees) c x.static ∙ b.1)

  values_told : (w : Wanted) → IsDiscrete s w → (before : List Scalar) (cs : List ExprTree) → values_faults s w before cs ≡ [] → AreToldValues s cs
  values_told w d before [] h = tt
  values_told w d before (c ∷ cs) h =
      let later = values_faults s w (chosen_with before (choice_value s w c)) cs in (
        choice_told w d c (front_empty (static_faults s w None c) (rule WRONG_CHOICES (start_of c) (is_chosen before (choice_value s w c)))
            (front_empty (choice_faults s w before c) later h)),
        values_told w d (chosen_with before (choice_value s w c)) cs (back_empty (choice_faults s w before c) later h),
      )

  choices_told : (w : Wanted) → IsDiscrete s w → (before : List Scalar) (is_last : Bool) (choices : ChoicesTree)
      → choices_faults s w before is_last choices ≡ [] → AreToldChoices s choices
  choices_told w d before is_last (Values cs) h = values_told w d before cs h
  choices_told w d before is_last (OtherValues place) h = tt

-- ---- what is visible in a body: all names are known, and each subtype that can be named is one of the package

pub record ReadsIn (whole s : Scope) : Type 0 where
  pub sound : SoundScope s
  pub subtypes : (name : Identifier) (u : Subtype) → subtype_of s name ≡ Some u → subtype_of whole name ≡ Some u

module _ (statics : StaticIsValue) (declarations : DeclarationsAreSound) (whole : Scope) where
  no_doubt : (s : Scope) → SoundScope s → (name : Identifier) → named_entity s name ≡ Some Doubtful → ⊥
  no_doubt s sound name h = let x = number_stands s name.name Doubtful h in sound.each x.0 Doubtful x.2

  named_there : (s : Scope) → ReadsIn whole s → (name : Identifier) → subtype_faults s name ≡ [] → IsSubtypeName whole name
  named_there s reads name h =
      let u = legal_subtype name.place (named_entity s name) h (no_doubt s reads.sound name) in (u.0, reads.subtypes name u.0 u.1)

  -- with one more name, which is no subtype's
  read_with : (s : Scope) (name : List ℕ) (e : Entity) → ReadsIn whole s → subtype_in (Some e) ≡ None → SoundScope (with_name s name e)
      → ReadsIn whole (with_name s name e)
  read_with s name e reads none sound = record { sound = sound; subtypes = λ x u h. reads.subtypes x u (sym (same_subtypes s name e none x) ∙ h) }

  object_no_subtype : (r : _) (o : Option Subtype) → subtype_in (Some (object_entity r o)) ≡ None
  object_no_subtype r (Some u) = refl
  object_no_subtype r None = refl

  -- ---- declarations

  local_read : (s : Scope) (d : DeclarationTree) → ReadsIn whole s → local_faults s d ≡ [] → restrictions.local_faults d ≡ [] → ReadsIn whole (local_scope s d)
  local_read s (LocalObject d) reads h r =
      read_with s d.name.name (object_entity (role_of d.constant) (subtype_of s d.subtype)) reads
      (object_no_subtype (role_of d.constant) (subtype_of s d.subtype))
      (declarations.locals s (LocalObject d ∷ []) reads.sound (both_empty (local_faults s (LocalObject d)) [] h refl))
  local_read s (LocalTask d) reads h r = absurd cc
  local_read s (LocalProtected d) reads h r = absurd cc

  pub record LocalsTold (s : Scope) (ds : List DeclarationTree) : Type 0 where
    pub own : AreToldLocals whole ds
    pub behind : ReadsIn whole (locals_scope s ds)

  local_told : (s : Scope) (d : DeclarationTree) (ds : List DeclarationTree) → ReadsIn whole s → local_faults s d ≡ [] → restrictions.local_faults d ≡ []
      → AreToldLocals whole ds → AreToldLocals whole (d ∷ ds)
  local_told s (LocalObject d) ds reads h r more =
      let named = subtype_faults s d.subtype in
      let first = local_initial_faults s d in
      (named_there s reads d.subtype (front_empty named first (front_empty (named ++ first) (declared_twice s d.name) h)), more)
  local_told s (LocalTask d) ds reads h r more = absurd cc
  local_told s (LocalProtected d) ds reads h r more = absurd cc

  pub locals_told : (ds : List DeclarationTree) (s : Scope) → ReadsIn whole s → locals_faults s ds ≡ [] → restrictions.locals_faults ds ≡ [] → LocalsTold s ds
  locals_told [] s reads h r = record { own = tt; behind = reads }
  locals_told (d ∷ ds) s reads h r =
      let here = front_empty (local_faults s d) (locals_faults (local_scope s d) ds) h in
      let kept = front_empty (restrictions.local_faults d) (restrictions.locals_faults ds) r in
      let rest = locals_told ds (local_scope s d) (local_read s d reads here kept) (back_empty (local_faults s d) (locals_faults (local_scope s d) ds) h)
      (back_empty (restrictions.local_faults d) (restrictions.locals_faults ds) r) in
      record { own = local_told s d ds reads here kept rest.own; behind = rest.behind }

  -- ---- loop parameters

  loop_read : (s : Scope) (parameter : Identifier) (range : RangeTree) → ReadsIn whole s → loop_faults s parameter range ≡ []
      → ReadsIn whole (loop_scope s parameter range)
  loop_read s parameter range reads h =
      let first = faults_of s AnyInteger range.first in
      let last = faults_of s AnyInteger range.last in
      let beside = last_rule s (loop_type s range) (own_of s range.last) (start_of range.last) in
      let bounds = bounds_legal s reads.sound parameter range h in
      let found = bounds_known s (own_of s range.first) (own_of s range.last) (integral s reads.sound range.first bounds.first)
      (integral s reads.sound range.last bounds.last) (ap is_integers reads.sound.integer) in
      let hidden = unbroken DECLARED_TWICE parameter.place (is_visible s parameter.name)
      (back_empty (first ++ last ++ beside) (declared_twice s parameter) h) in
      let t = turns_subtype s range found.0 in
      let e : Entity = Object role.LoopParameter t in
      let sound = sound_with_object s parameter.name role.LoopParameter t reads.sound found.2 in
      subst (λ o. ReadsIn whole (with_name s parameter.name (parameter_entity (option_map (turns_subtype s range) o)))) (sym found.1)
      (read_with s parameter.name e reads refl
      (subst (λ b. SoundScope (cond b s (s ++ record { name = parameter.name; entity = e } ∷ []))) (sym hidden) sound))

  -- ---- statements

  mutual
    pub stmt_told : (x : StmtTree) (s : Scope) (a : rules.Around) → ReadsIn whole s → stmt_faults s a x ≡ [] → restrictions.stmt_faults x ≡ []
        → IsToldStmt whole s x
    stmt_told (If place condition body elsifs others) s a reads k r =
        let c = condition_faults s condition in
        let f = stmts_faults s a body in
        let g = elsifs_faults s a elsifs in
        let o = stmts_faults s a others in
        let three = front_empty ((c ++ f) ++ g) o k in
        let two = front_empty (c ++ f) g three in
        let inner = restrictions.stmts_faults body in
        let middle = restrictions.elsifs_faults elsifs in
        let last = restrictions.stmts_faults others in
        let both = front_empty (inner ++ middle) last r in (
          stmts_told body s a reads (back_empty c f two) (front_empty inner middle both),
          elsifs_told elsifs s a reads (back_empty (c ++ f) g three) (back_empty inner middle both),
          stmts_told others s a reads (back_empty ((c ++ f) ++ g) o k) (back_empty (inner ++ middle) last r),
        )
    stmt_told (Case place value all) s a reads k r =
        let c = selecting_faults s value in
        let w = choices_wanted s (own_of s value) in
        let f = alternatives_faults s a w [] all in
        let two = front_empty (c ++ f) (others_rule place all) k in
        alternatives_told all s a reads w (selected statics s reads.sound value (front_empty c f two)) [] (back_empty c f two) r
    stmt_told (Loop place Forever body) s a reads k r = stmts_told body s (in_loop a) reads k r
    stmt_told (Loop place (While condition) body) s a reads k r =
        stmts_told body s (in_loop a) reads (back_empty (condition_faults s condition) (stmts_faults s (in_loop a) body) k) r
    stmt_told (Loop place (For parameter reversed range) body) s a reads k r =
        let c = loop_faults s parameter range in
        let f = stmts_faults (loop_scope s parameter range) (in_loop a) body in
        stmts_told body (loop_scope s parameter range) (in_loop a) (loop_read s parameter range reads (front_empty c f k)) (back_empty c f k) r
    stmt_told (Block place ds body all) s a reads k r =
        let later = locals_scope s ds in
        let c = locals_faults s ds in
        let f = stmts_faults later a body in
        let g = more_handlers_faults later a [] all in
        let two = front_empty (c ++ f) g k in
        let own = restrictions.locals_faults ds in
        let inner = restrictions.stmts_faults body in
        let last = restrictions.handlers_faults all in
        let both = front_empty (own ++ inner) last r in
        let declared = locals_told ds s reads (front_empty c f two) (front_empty own inner both) in (
          declared.own,
          stmts_told body later a declared.behind (back_empty c f two) (back_empty own inner both),
          handlers_told all later a [] declared.behind (back_empty (c ++ f) g k) (back_empty (own ++ inner) last r),
        )
    stmt_told other s a reads k r = tt

    pub stmts_told : (body : StmtTrees) (s : Scope) (a : rules.Around) → ReadsIn whole s → stmts_faults s a body ≡ [] → restrictions.stmts_faults body ≡ []
        → IsToldStmts whole s body
    stmts_told NoStmts s a reads k r = tt
    stmts_told (MoreStmts x rest) s a reads k r =
        let f = stmt_faults s a x in
        let g = stmts_faults s a rest in
        let one = restrictions.stmt_faults x in
        let more = restrictions.stmts_faults rest in
        (stmt_told x s a reads (front_empty f g k) (front_empty one more r), stmts_told rest s a reads (back_empty f g k) (back_empty one more r))

    elsifs_told : (all : ElsifTrees) (s : Scope) (a : rules.Around) → ReadsIn whole s → elsifs_faults s a all ≡ [] → restrictions.elsifs_faults all ≡ []
        → AreToldElsifs whole s all
    elsifs_told NoElsifs s a reads k r = tt
    elsifs_told (MoreElsifs condition body rest) s a reads k r =
        let c = condition_faults s condition in
        let f = stmts_faults s a body in
        let g = elsifs_faults s a rest in
        let two = front_empty (c ++ f) g k in
        let inner = restrictions.stmts_faults body in
        let later = restrictions.elsifs_faults rest in (
          stmts_told body s a reads (back_empty c f two) (front_empty inner later r),
          elsifs_told rest s a reads (back_empty (c ++ f) g k)
              (back_empty inner later r),
        )

    alternatives_told : (all : AlternativeTrees) (s : Scope) (a : rules.Around) → ReadsIn whole s → (w : Wanted) → IsDiscrete s w → (before : List Scalar)
        → alternatives_faults s a w before all ≡ [] → restrictions.alternatives_faults all ≡ [] → AreToldAlternatives whole s all
    alternatives_told NoAlternatives s a reads w d before k r = tt
    alternatives_told (MoreAlternatives place choices body rest) s a reads w d before k r =
        let last = no_more rest in
        let c = choices_faults s w before last choices in
        let f = stmts_faults s a body in
        let g = alternatives_faults s a w (chosen_by s w before choices) rest in
        let two = front_empty (c ++ f) g k in
        let inner = restrictions.stmts_faults body in
        let later = restrictions.alternatives_faults rest in (
          choices_told statics s reads.sound w d before last choices (front_empty c f two),
          stmts_told body s a reads (back_empty c f two) (front_empty inner later r),
          alternatives_told rest s a reads w d (chosen_by s w before choices) (back_empty (c ++ f) g k) (back_empty inner later r),
        )

    pub handlers_told : (all : HandlerTrees) (s : Scope) (a : rules.Around) (before : List (List ℕ)) → ReadsIn whole s
        → more_handlers_faults s a before all ≡ [] → restrictions.handlers_faults all ≡ [] → AreToldHandlers whole s all
    handlers_told NoHandlers s a before reads k r = tt
    handlers_told (MoreHandlers choices body rest) s a before reads k r =
        let single = is_single choices && handlers.no_more rest in
        let c = exception_choices_faults s before single choices in
        let f = stmts_faults s (in_handler a) body in
        let g = more_handlers_faults s a (named_after before choices) rest in
        let two = front_empty (c ++ f) g k in
        let inner = restrictions.stmts_faults body in
        let later = restrictions.handlers_faults rest in (
          stmts_told body s (in_handler a) reads (back_empty c f two) (front_empty inner later r),
          handlers_told rest s a (named_after before choices) reads (back_empty (c ++ f) g k) (back_empty inner later r),
        )
