-- In front of the parameters of each body of a small text formals of what can be called take few words, those of its body: of a subprogram, or of an operation
-- or entry, by its name in the own object and behind the object elsewhere.
use Rattle.std.proofs.Common.{◌≡◌, ℕ, ◌+◌, ◌≤◌, List, [], ◌∷◌, Some, refl, sym, ap, ◌∙◌, subst, arith}
use Rattle.std.specs.Prelude.{is_some}
use Rattle.ada_tree.specs.declared.declaration.Formal.{Formal}
use Rattle.ada_tree.specs.ProgramTree.{BodyItemTree, ProgramTree}
use Rattle.types.specs.declared.entity.FormalParameter.{FormalParameter}
use Rattle.types.specs.declared.entity.Subtype.{Subtype}
use Rattle.types.specs.Entities.{Profile, Subprogram}
use Rattle.types.specs.Layouts.{words_of}
use Rattle.types.specs.Scopes.{Scope, base_range_of}
use Rattle.expr_soundness.specs.type_rules.specs.ProfileRules.{formal_parameters}
use Rattle.expr_soundness.specs.type_rules.specs.SubtypeNames.{subtype_of}
use Rattle.program_soundness.specs.declaration_rules.specs.BodyNames.{formals_scope}
use Rattle.legality.specs.ProgramLayouts.{WordsHaveRoom}
use Rattle.legality.specs.ProgramRules.{IsLegal}
use Rattle.program_soundness.specs.ravenscar.specs.ProgramRules.{IsRestricted}
use Rattle.expr_soundness.specs.Laws.{ScopesAreSound}
use Rattle.expr_soundness.specs.SoundScopes.{AreKnown, IsKnown, SoundScope}
use Rattle.expr_soundness.specs.meaning.specs.Programs.{program_of}
use Rattle.program_soundness.specs.Fronts.{declared_in, front, start_in}
use Rattle.program_soundness.proofs.BodyProfiles.{first_formal, subtype_kept}
use Rattle.program_soundness.proofs.Listing.{same_some}
use Rattle.program_soundness.proofs.Moved.{KeepsTypes}
use Rattle.program_soundness.proofs.Whole.{IsPackage, kept}
use Rattle.program_soundness.proofs.WiderScopes.{stands, stands_number}
use Rattle.part_code.specs.Bounds.{body_words, formals_words, words_if_any}
use Rattle.package_code.specs.Bodies.{Coded, IsBodyOf}
use Rattle.package_code.proofs.InFront.{LawsOfNames}
use Rattle.package_code.proofs.OperationsAdded as added
use Rattle.stmt_code.specs.Subprograms.{NameSubtypes}
use Rattle.source_laws.specs.Depths.{FewWords, FewWordsBehind, formals_take}
use Rattle.source_laws.specs.Small.{HasSmallBodies, body_loops, small_words}
use Rattle.source_laws.specs.Visible.{BodiesCallFew, BodiesKeepLimits, FrontsAreSmall}
use Rattle.source_laws.proofs.AddedNames.{formals_behind, named_there}
use Rattle.source_laws.proofs.CalledBodies.{HasCode, HaveCode, have_code}
use Rattle.source_laws.proofs.CodeCounted.{few_of}
use Rattle.program_soundness.specs.step_soundness.proofs.Sights.{is_there}
use Rattle.source_laws.proofs.InsideEntities.{fronts_by}
use Rattle.source_laws.proofs.InsideLimits.{words_there}
use Rattle.source_laws.proofs.InsideNames.{subtype_named}
use Rattle.source_laws.proofs.NeedsScopes.{known_behind, words_kept}
use Rattle.source_laws.proofs.WholeBodies.{legal_body}

-- ---- the words of formals are the same in front of their body, in it and in the whole

module _ (scopes : ScopesAreSound) (s whole : Scope) (sound : SoundScope s) (keeps : KeepsTypes s whole)
    (same : (u : Subtype) → IsKnown s u → words_of whole u ≡ words_of s u) where
  formals_same : (all fs : List Formal) (ps : List FormalParameter) → NameSubtypes s fs → formal_parameters whole fs ≡ Some ps
      → formals_take whole ps ≡ formals_words s (formals_scope s all) fs
  formals_same all [] ps named h = ap (formals_take whole) (sym (same_some [] ps h))
  formals_same all (f ∷ fs) ps named h =
      let x = first_formal whole f fs ps h in
      let u = is_there (subtype_of s f.subtype) named.0 in
      let known = scopes.subtype s f.subtype u.0 sound u.1 in
      let typed : x.subtype ≡ u.0 = same_some x.subtype u.0 (sym x.named ∙ keeps f.subtype u.0 u.1) in
      let more = formals_behind s all in
      let inside = formals_scope s all in
      let own : words_of whole x.subtype ≡ words_if_any inside (subtype_of s f.subtype) =
      ap (words_of whole) typed ∙ same u.0 known ∙ sym (words_kept s more.0 u.0 known) ∙ ap (λ v. words_of v u.0) (sym more.1)
      ∙ ap (words_if_any inside) (sym u.1) in
      let rest = formals_same all fs x.rest named.1 x.further in
      let is : formals_take whole ps ≡ words_of whole x.subtype + formals_take whole x.rest = ap (formals_take whole) x.is in
      omega (arith, is, own, rest)

  passed_same : (ps : List FormalParameter) → AreKnown s ps → formals_take whole ps ≡ formals_take s ps
  passed_same [] known = refl
  passed_same (f ∷ fs) known =
      let one = same f.subtype known.0 in
      let rest = passed_same fs known.1 in
      omega (arith, one, rest)

-- ---- what is called has the formals of its body

module _ (laws : LawsOfNames) (room : WordsHaveRoom) (t : ProgramTree) (legal : IsLegal t) (restricted : IsRestricted t) where
  abbrev all : List BodyItemTree
  all = declared_in t.package_

  abbrev start : Scope
  start = start_in t.package_

  abbrev whole : Scope
  whole = (program_of t).scope

  abbrev w : IsPackage (program_of t) start all
  w = added.w laws.scopes laws.names laws.premises t legal restricted

  abbrev HasOwn : Profile → Type 0
  HasOwn p = HasCode laws.scopes laws.names laws.premises t legal restricted p

  -- subtypes in front of a body are those of the package
  types_kept : (c : Coded) → IsBodyOf t c → KeepsTypes c.front whole
  types_kept =
      fronts_by laws.scopes laws.names laws.premises t legal restricted (λ s. KeepsTypes s whole) (λ place. of_front place)
      (λ place k c x name u h. of_front place name u (subtype_named laws.scopes laws.names laws.premises t legal restricted place k c x name u h))
    where
      of_front : (place : ℕ) → KeepsTypes (front t place) whole
      of_front place name u h = subtype_kept (front t place) whole (kept (program_of t) start all w place) name u h

  same_there : (c : Coded) → IsBodyOf t c → (u : Subtype) → IsKnown c.front u → words_of whole u ≡ words_of c.front u
  same_there = words_there laws.scopes laws.names laws.premises laws.stay room t legal restricted

  code_small : HasSmallBodies t → (p : Profile) → HasOwn p → formals_take whole p.formals ≤ small_words
  code_small small p x =
      let c = x.code in
      let b = legal_body laws t legal restricted c x.body in
      let inside = formals_scope c.front c.head.formals in
      let same =
      formals_same laws.scopes c.front whole b.added.front (types_kept c x.body) (same_there c x.body) c.head.formals c.head.formals p.formals b.named
      x.formals in
      under (formals_take whole p.formals) (formals_words c.front inside c.head.formals) (body_words inside c.body) (body_loops c.body) same
      (few_of t small c x.body)
    where
      under : (a b c d : ℕ) → a ≡ b → b + c + d ≤ 64 → a ≤ 64
      under a b c d h i = omega (arith, h, i)

  -- ---- so it takes few words there

  module _ (small : HasSmallBodies t) (c : Coded) (b : IsBodyOf t c) (sound : SoundScope c.front) where
    passed_few : (p : Profile) → AreKnown c.front p.formals → HasOwn p → formals_take c.front p.formals ≤ small_words
    passed_few p known x =
        subst (λ n. n ≤ small_words) (passed_same laws.scopes c.front whole sound (types_kept c b) (same_there c b) p.formals known) (code_small small p x)

    called : HaveCode laws.scopes laws.names laws.premises t legal restricted c.front
    called = have_code laws.scopes laws.names laws.premises t legal restricted c b

    few_words : FewWords c.front
    few_words name p h =
        let n = named_there c.front name p h in
        passed_few p (sound.each n.number (Subprogram p) n.stands).known
        (called.called name p (stands_number c.front name n.number (Subprogram p) n.numbered n.stands))

    few_behind : FewWordsBehind c.front
    few_behind object operation p h = passed_few p (known_behind c.front object operation p sound h) (called.behind object operation p h)

pub fronts_are_small : LawsOfNames → WordsHaveRoom → BodiesCallFew → BodiesKeepLimits → FrontsAreSmall
fronts_are_small laws room callees limits limit t tokens spelled legal restricted small c b =
    let kept_here = limits limit t tokens spelled legal restricted c b in
    let sound = (legal_body laws t legal restricted c b).added.front in
    record {
      sound = sound;
      formals = callees t legal restricted c b;
      words = few_words laws room t legal restricted small c b sound;
      full = λ n form h. kept_here.types (base_range_of n) (ap is_some h);
      objects = kept_here.objects;
      behind = few_behind laws room t legal restricted small c b sound;
    }
