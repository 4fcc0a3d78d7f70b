-- Nothing that the code of an accepted text needs is unfit: what is visible in front of each body, its formals, and what it declares have few words.
use Rattle.std.proofs.Common.{◌≡◌, ℕ, suc, ◌≤◌, false, ◌||◌, List, [], ◌∷◌, ◌++◌, Option, Some, None, refl, subst, arith}
use Rattle.std.specs.Prelude.{slice_get}
use Rattle.std.proofs.lemmas.Bool.{or_from}
use Rattle.base.specs.declared.limits.TheConstants.{WORDS}
use Rattle.ada_tree.specs.declared.declaration.Formal.{Formal}
use Rattle.ada_tree.specs.declared.declaration.Mode.{Mode}
use Rattle.ada_tree.specs.declared.declaration.Mode.TheVariants as mode
use Rattle.ada_tree.specs.declared.expression.Identifier.{Identifier}
use Rattle.ada_tree.specs.ExpressionTree.{ExprTree}
use Rattle.ada_tree.specs.ProgramTree.{BodyItemTree, BodyTree, OfItem, ProgramTree, ProtectedBody, SubprogramBody, TaskBody}
use Rattle.types.specs.declared.entity.FormalParameter.{FormalParameter}
use Rattle.types.specs.declared.entity.Subtype.{Subtype}
use Rattle.types.specs.Entities.{Object, Subprogram}
use Rattle.types.specs.Laws.{ShapesStay}
use Rattle.types.specs.Layouts.{words_of}
use Rattle.types.specs.Scopes.{Scope}
use Rattle.expr_soundness.specs.expr_rules.proofs.TypedLaw.{back_empty, front_empty}
use Rattle.program_soundness.specs.declaration_rules.specs.BodyNames.{formals_scope}
use Rattle.program_soundness.specs.step_soundness.specs.body_restrictions.specs.BodyRules as restrictions
use Rattle.size_rules.specs.BodySizes.{formals_things, handlers_things, locals_things, stmts_things}
use Rattle.size_rules.specs.Laws.{WordsAddUp}
use Rattle.size_rules.specs.Limits.{Things}
use Rattle.legality.specs.ProgramLayouts.{WordsHaveRoom}
use Rattle.legality.specs.ProgramRules.{IsLegal}
use Rattle.program_soundness.specs.ravenscar.specs.ProgramRules.{IsRestricted}
use Rattle.expr_soundness.specs.meaning.specs.Programs.{program_of, returned}
use Rattle.expr_soundness.specs.SoundScopes.{AreKnown, IsKnown, IsSoundProfile, SoundScope}
use Rattle.expr_soundness.proofs.Goods.{object_known}
use Rattle.program_soundness.specs.Fronts.{declared_in, front}
use Rattle.program_soundness.proofs.WiderScopes.{number_stands}
use Rattle.expr_code.specs.declared.visible.Visible.{Visible}
use Rattle.stmt_code.specs.Refusing.{behind_locals, handlers_needs, in_body, run_needs, sequence_needs, stmts_needs}
use Rattle.part_code.specs.Needs.{formals_frame, locals_needs, out_needs, outs_needs}
use Rattle.stmt_code.specs.WholeRefusals.{formals_placed, formals_visible, procedure_needs}
use Rattle.part_code.specs.declared.formals.PlacedFormal.{PlacedFormal}
use Rattle.package_code.specs.Refusing.{bodies_needs, body_needs, function_if_any, item_needs, items_needs, seen_by}
use Rattle.package_code.specs.Bodies.{Coded, coded_at, of_subprogram, of_task, IsBodyOf}
use Rattle.package_code.proofs.InFront.{LawsOfNames}
use Rattle.source_laws.specs.Visible.{BodiesKeepLimits, FrontsKeepLimits, KeepsLimits, NothingIsUnfit}
use Rattle.source_laws.proofs.CodeCounted.{behind, behind_is}
use Rattle.source_laws.proofs.FitCallees.{AreWithin, CallsFew, body_calls, body_few, front_calls, sound_at}
use Rattle.source_laws.proofs.FitFronts.{body_adds}
use Rattle.source_laws.proofs.FitNeeds.{IsFit, block_inside, both_fit, handlers_fit, locals_fit, seen_fit, stmts_fit}
use Rattle.source_laws.proofs.FitScopes.{AreFew, FewThings, IsInside, Serves, few_back, few_front, formals_inside}
use Rattle.source_laws.proofs.InsideLimits.{words_there}
use Rattle.source_laws.proofs.NeedsScopes.{known_behind}
use Rattle.source_laws.proofs.VisibleWords.{same_words}
use Rattle.source_laws.proofs.WholeBodies.{IsLegalBody, legal_body}

-- ---- bodies

outs_fit : (v : Visible) (xs : List PlacedFormal) → IsFit (outs_needs v xs)
outs_fit v [] = refl
outs_fit v (x ∷ xs) = or_from (out_needs v x).unfit (outs_needs v xs).unfit (by_mode x.mode) (outs_fit v xs)
  where
    by_mode : (m : Mode) → IsFit (out_needs v (record x { mode = m }))
    by_mode mode.In = refl
    by_mode mode.Out = refl
    by_mode mode.InOut = refl

module _ (adding : WordsAddUp) (stay : ShapesStay) (s : Scope) (v : Visible) (fs : List Formal) (inside : IsInside s (formals_scope v.scope fs)) where
  abbrev within : Visible
  within = formals_visible v fs

  run_fit : (taken : ℕ) (b : BodyTree) → restrictions.body_faults b ≡ [] → FewThings (locals_things s b.declarations)
      → FewThings (stmts_things s b.statements) → FewThings (handlers_things s b.handlers)
      → IsFit (run_needs within taken b.declarations b.statements b.handlers)
  run_fit taken b r one two three =
      let outer = restrictions.locals_faults b.declarations in
      let inner = restrictions.stmts_faults b.statements in
      let last = restrictions.handlers_faults b.handlers in
      let first = front_empty (outer ++ inner) last r in
      let declared = front_empty outer inner first in
      let a = in_body within taken in
      let next = behind_locals a b.declarations in
      let next_inside = block_inside adding stay s a b.declarations inside declared one in
      both_fit (locals_needs within taken b.declarations) (sequence_needs next b.statements b.handlers)
      (locals_fit adding stay s within inside taken b.declarations declared one)
      (both_fit (stmts_needs next b.statements) (handlers_needs next b.handlers)
      (stmts_fit adding stay s b.statements next next_inside (back_empty outer inner first) two)
      (handlers_fit adding stay s b.handlers next next_inside (back_empty (outer ++ inner) last r) three))

  procedure_fit : (b : BodyTree) → restrictions.body_faults b ≡ [] → FewThings (locals_things s b.declarations)
      → FewThings (stmts_things s b.statements) → FewThings (handlers_things s b.handlers)
      → IsFit (procedure_needs v fs b)
  procedure_fit b r one two three =
      let run = run_needs within (formals_frame v.scope fs) b.declarations b.statements b.handlers in
      or_from (outs_needs within (formals_placed v.scope fs)).unfit (run.unfit || false) (outs_fit within (formals_placed v.scope fs))
      (or_from run.unfit false (run_fit (formals_frame v.scope fs) b r one two three) refl)

  function_fit : (o : Option ExprTree) → IsFit (function_if_any v fs o)
  function_fit (Some e) = seen_fit within inside.served
  function_fit None = refl

-- ---- what is visible serves

module _ (adding : WordsAddUp) (laws : LawsOfNames) (room : WordsHaveRoom) (t : ProgramTree) (legal : IsLegal t) (restricted : IsRestricted t) where
  abbrev whole : Scope
  whole = (program_of t).scope

  abbrev HasWordsOfWhole : Scope → Type 0
  HasWordsOfWhole s = (u : Subtype) → IsKnown s u → words_of whole u ≡ words_of s u

  abbrev Calls : Scope → Type 0
  Calls s = CallsFew adding laws room t legal restricted s

  few_by : (s : Scope) → HasWordsOfWhole s → (fs : List FormalParameter) → AreKnown s fs → AreWithin adding laws room t legal restricted fs → AreFew s fs
  few_by s same [] known h = tt
  few_by s same (f ∷ fs) known h =
      (record { known = known.0; few = subst (λ n. n ≤ WORDS) (same f.subtype known.0) h.0 }, few_by s same fs known.1 h.1)

  serves_by : (s : Scope) → SoundScope s → KeepsLimits s → HasWordsOfWhole s → Calls s → Serves s
  serves_by s sound limits same calls =
      record {
        full = limits.types;
        named = λ name u h. laws.scopes.subtype s name u sound h;
        objects = λ number r u at. record { known = object_known s r u (sound.each number (Object r u) at); few = limits.objects number r u at };
        called = λ name p h.
            let n = number_stands s name (Subprogram p) h in
            let sound_profile : IsSoundProfile s p = sound.each n.0 (Subprogram p) n.2 in
            few_by s same p.formals sound_profile.known (calls.called name p h);
        behind = λ object operation p h. few_by s same p.formals (known_behind s object operation p sound h) (calls.behind object operation p h);
      }

  -- ---- the code of one body

  module _ (c : Coded) (b : IsBodyOf t c) (outer : KeepsLimits (front t b.place)) (inner : KeepsLimits c.front) where
    abbrev s : Scope
    s = front t b.place

    own : IsLegalBody t c
    own = legal_body laws t legal restricted c b

    inside : IsInside s c.front
    inside =
        let adds = body_adds laws.scopes laws.names laws.premises laws.stay t legal restricted c b in
        record {
          outer =
              serves_by s (sound_at adding laws room t legal restricted b.place) outer
              (λ u known. same_words laws.premises laws.names laws.stay room t legal restricted b.place u known)
              (front_calls adding laws room t legal restricted b.place);
          served =
              serves_by c.front own.added.front inner (words_there laws.scopes laws.names laws.premises laws.stay room t legal restricted c b)
              (body_calls adding laws room t legal restricted c b);
          back = adds.back;
          same = adds.same;
        }

    abbrev one : Things
    one = formals_things s c.head.formals

    abbrev two : Things
    two = locals_things s c.body.declarations

    abbrev three : Things
    three = stmts_things s c.body.statements

    abbrev four : Things
    four = handlers_things s c.body.handlers

    front_three : FewThings (one ++ two ++ three)
    front_three = few_front adding (one ++ two ++ three) four (body_few adding laws room t legal restricted c b)

    front_two : FewThings (one ++ two)
    front_two = few_front adding (one ++ two) three front_three

    behind_formals : IsInside s (formals_scope c.front c.head.formals)
    behind_formals = formals_inside laws.stay s c.front inside c.head.formals (few_front adding one two front_two)

    code_fit : IsFit (body_needs t c)
    code_fit = by_result c.head.result
      where
        by_result : (r : Option Identifier) → IsFit (elim r [
          | None ↦ procedure_needs (seen_by t c) c.head.formals c.body
          | Some x ↦ function_if_any (seen_by t c) c.head.formals (returned c.body.statements)
        ])
        by_result None =
            procedure_fit adding laws.stay s (seen_by t c) c.head.formals behind_formals c.body own.restricted
            (few_back adding one two front_two) (few_back adding (one ++ two) three front_three)
            (few_back adding (one ++ two ++ three) four (body_few adding laws room t legal restricted c b))
        by_result (Some x) =
            function_fit adding laws.stay s (seen_by t c) c.head.formals behind_formals (returned c.body.statements)

-- ---- that of a text

module _ (t : ProgramTree) where
  bodies_fit : (cs : List Coded) → ((k : ℕ) (c : Coded) → slice_get cs k ≡ Some c → IsFit (body_needs t c)) → IsFit (bodies_needs t cs)
  bodies_fit [] each = refl
  bodies_fit (c ∷ cs) each = both_fit (body_needs t c) (bodies_needs t cs) (each 0 c refl) (bodies_fit cs (λ k x at. each (suc k) x at))

  item_fit : (place : ℕ) (x : BodyItemTree) → ((k : ℕ) (c : Coded) → slice_get (coded_at t place x) k ≡ Some c → IsFit (body_needs t c))
      → IsFit (item_needs t place x)
  item_fit place (OfItem d) each = refl
  item_fit place (SubprogramBody d b) each = each 0 (of_subprogram (front t (suc place)) d b) refl
  item_fit place (TaskBody name b) each = each 0 (of_task (front t (suc place)) name b) refl
  item_fit place (ProtectedBody name items end_name) each = bodies_fit (coded_at t place (ProtectedBody name items end_name)) each

  items_fit : (place : ℕ) (xs : List BodyItemTree) → ((k : ℕ) (x : BodyItemTree) → slice_get xs k ≡ Some x → IsFit (item_needs t (behind place k) x))
      → IsFit (items_needs t place xs)
  items_fit place [] each = refl
  items_fit place (x ∷ rest) each =
      both_fit (item_needs t place x) (items_needs t (suc place) rest) (each 0 x refl) (items_fit (suc place) rest (λ k y at. each (suc k) y at))

pub nothing_unfit : WordsAddUp → LawsOfNames → WordsHaveRoom → FrontsKeepLimits → BodiesKeepLimits → NothingIsUnfit
nothing_unfit adding laws room fronts bodies limit t tokens spelled legal restricted =
    items_fit t 0 (declared_in t.package_)
    (λ k x at. subst (λ n. IsFit (item_needs t n x)) (let same = behind_is 0 k in omega (arith, same)) (item_fit t k x (λ n c is. one_fit k x at n c is)))
  where
    one_fit : (k : ℕ) (x : BodyItemTree) → slice_get (declared_in t.package_) k ≡ Some x → (n : ℕ) (c : Coded)
        → slice_get (coded_at t k x) n ≡ Some c
        → IsFit (body_needs t c)
    one_fit k x at n c is =
        let b : IsBodyOf t c = record { place = k; item = x; index = n; at = at; coded = is } in
        code_fit adding laws room t legal restricted c b (fronts limit t tokens spelled legal restricted k) (bodies limit t tokens spelled legal restricted c b)
