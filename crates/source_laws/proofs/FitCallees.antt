-- What is called in front of each body with code takes formals of few words: those of its own body, which have room in a frame.
use Rattle.std.proofs.Common.{◌≡◌, ℕ, zero, suc, ◌++◌, ◌≤◌, List, [], ◌∷◌, map, Option, Some, None, refl, sym, ◌∙◌, subst, arith}
use Rattle.std.specs.Prelude.{slice_get}
use Rattle.base.specs.declared.limits.TheConstants.{FRAME_WORDS, WORDS}
use Rattle.ada_tree.specs.declared.declaration.Formal.{Formal}
use Rattle.ada_tree.specs.ProgramTree.{BodyItemTree, EntryBody, ItemTree, OfItem, OperationBody, PackageTree, ProgramTree, ProtectedBody, ProtectedItemTree, SubprogramBody, TaskBody}
use Rattle.types.specs.declared.entity.FormalParameter.{FormalParameter}
use Rattle.types.specs.Entities.{Profile, Subprogram}
use Rattle.types.specs.Layouts.{capped, words_of}
use Rattle.types.specs.Scopes.{Scope, standard}
use Rattle.expr_soundness.specs.expr_rules.proofs.TypedLaw.{back_empty, front_empty}
use Rattle.expr_soundness.specs.type_rules.specs.ProfileRules.{formal_parameters}
use Rattle.expr_soundness.specs.type_rules.specs.SubtypeNames.{subtype_of}
use Rattle.program_soundness.specs.declaration_rules.specs.ItemRules.{item_scope, items_scope}
use Rattle.program_soundness.specs.declaration_rules.specs.PackageNames.{body_item_scope, inside_scope}
use Rattle.size_rules.specs.BodySizes.{body_things, formals_things, handlers_things, locals_things, stmts_things}
use Rattle.size_rules.specs.BodySizes as size
use Rattle.size_rules.specs.Laws.{WordsAddUp, counted_words}
use Rattle.size_rules.specs.PackageSizes as frames
use Rattle.size_rules.specs.PackageSizes.{frame_faults, package_inside, package_things}
use Rattle.size_rules.specs.ProgramSizes.{declared_faults, label_faults, optional_size_faults, size_faults}
use Rattle.legality.specs.ProgramLayouts.{WordsHaveRoom}
use Rattle.legality.specs.ProgramRules.{IsLegal}
use Rattle.program_soundness.specs.ravenscar.specs.ProgramRules.{IsRestricted}
use Rattle.expr_soundness.specs.meaning.specs.Programs.{program_of}
use Rattle.expr_soundness.specs.SoundScopes.{SoundScope}
use Rattle.program_soundness.specs.Fronts.{declared_in, front, scope_at, start_in}
use Rattle.program_soundness.proofs.BodyProfiles.{first_formal, subtype_kept}
use Rattle.program_soundness.proofs.Listing.{same_some}
use Rattle.program_soundness.proofs.Whole.{IsPackage, kept}
use Rattle.program_soundness.proofs.WiderScopes.{stands}
use Rattle.expr_code.specs.Seeing.{external_profile}
use Rattle.package_code.specs.Bodies.{Coded, own_body, own_head, IsBodyOf}
use Rattle.package_code.proofs.Coded.{coded_by}
use Rattle.package_code.proofs.InFront.{LawsOfNames}
use Rattle.package_code.proofs.OperationsAdded as added
use Rattle.stmt_code.specs.Subprograms.{NameSubtypes}
use Rattle.source_laws.proofs.CalledBodies.{HaveCode, front_have, have_code}
use Rattle.program_soundness.specs.step_soundness.proofs.Sights.{is_there}
use Rattle.source_laws.proofs.FitFronts.{body_adds}
use Rattle.source_laws.proofs.FitScopes.{FewThings, few_front, first_few, rest_few}
use Rattle.source_laws.proofs.VisibleWords.{same_words}
use Rattle.source_laws.proofs.WholeBodies.{legal_body}

-- ---- frames keep their limit, as legality counts words

frames_joined : (s : Scope) (ds : List ItemTree) (xs : List BodyItemTree)
    → frames.body_items_faults s (map OfItem ds ++ xs) ≡ frames.body_items_faults (items_scope s ds) xs
frames_joined s [] xs = refl
frames_joined s (d ∷ ds) xs = frames_joined (item_scope s d) ds xs

frames_legal : (o : Option PackageTree) → optional_size_faults o ≡ [] → frames.body_items_faults (start_in o) (declared_in o) ≡ []
frames_legal None h = refl
frames_legal (Some p) h =
    frames_joined (inside_scope standard p) p.declaration.items p.body.items
    ∙ front_empty (frame_faults p) (declared_faults (package_things p)) (front_empty _ (label_faults (package_inside p)) h)

frame_at : (s : Scope) (all : List BodyItemTree) (k : ℕ) (x : BodyItemTree) → slice_get all k ≡ Some x → frames.body_items_faults s all ≡ []
    → frames.body_item_faults (scope_at s all k) x ≡ []
frame_at s [] k x at h = cc
frame_at s (y ∷ xs) zero x at h =
    subst (λ z. frames.body_item_faults s z ≡ []) (same_some y x at)
    (front_empty (frames.body_item_faults s y) (frames.body_items_faults (body_item_scope s y) xs) h)
frame_at s (y ∷ xs) (suc k) x at h =
    frame_at (body_item_scope s y) xs k x at (back_empty (frames.body_item_faults s y) (frames.body_items_faults (body_item_scope s y) xs) h)

-- ... that of each operation and entry too
operation_frame : (s : Scope) (items : List ProtectedItemTree) (j : ℕ) (i : ProtectedItemTree) → slice_get items j ≡ Some i
    → frames.operations_faults s items ≡ []
    → size.body_faults s (own_head i).formals (own_body i) ≡ []
operation_frame s [] j i at h = cc
operation_frame s (x ∷ items) zero i at h =
    by_item x (same_some x i at) (front_empty (frames.operation_faults s x) (frames.operations_faults s items) h)
  where
    by_item : (y : ProtectedItemTree) → y ≡ i → frames.operation_faults s y ≡ [] → size.body_faults s (own_head i).formals (own_body i) ≡ []
    by_item (OperationBody d b) is k = subst (λ z. size.body_faults s (own_head z).formals (own_body z) ≡ []) is k
    by_item (EntryBody d barrier b) is k = subst (λ z. size.body_faults s (own_head z).formals (own_body z) ≡ []) is k
operation_frame s (x ∷ items) (suc j) i at h =
    operation_frame s items j i at (back_empty (frames.operation_faults s x) (frames.operations_faults s items) h)

-- ---- accepted texts

module _ (adding : WordsAddUp) (laws : LawsOfNames) (room : WordsHaveRoom) (t : ProgramTree) (legal : IsLegal t) (restricted : IsRestricted t) where
  abbrev all : List BodyItemTree
  all = declared_in t.package_

  abbrev start : Scope
  start = start_in t.package_

  abbrev whole : Scope
  whole = (program_of t).scope

  abbrev w : IsPackage (program_of t) start all
  w = added.w laws.scopes laws.names laws.premises t legal restricted

  pub sound_at : (place : ℕ) → SoundScope (front t place)
  sound_at place = (laws.names t legal restricted).fronts place

  -- the objects of a body have the words of a frame together
  pub body_few : (c : Coded) (b : IsBodyOf t c) → FewThings (body_things (front t b.place) c.head.formals c.body)
  body_few c b =
      coded_by t b.place (λ y n e. slice_get all b.place ≡ Some y → FewThings (body_things here e.head.formals e.body))
      (λ d own at. adding.within FRAME_WORDS (body_things here d.formals own) (sized (SubprogramBody d own) at))
      (λ name own at. adding.within FRAME_WORDS (body_things here [] own) (sized (TaskBody name own) at))
      (λ name items end_name n e is at.
      let y = added.inside_coded laws.scopes laws.names laws.premises t legal restricted b.place name items end_name at n e is in
      subst (λ z. FewThings (body_things here z.head.formals z.body)) (sym y.2)
      (adding.within FRAME_WORDS (body_things here (own_head y.0).formals (own_body y.0))
      (operation_frame here items n y.0 y.1 (sized (ProtectedBody name items end_name) at)))) b.item b.index c b.coded b.at
    where
      here : Scope
      here = front t b.place

      sized : (x : BodyItemTree) → slice_get all b.place ≡ Some x → frames.body_item_faults (front t b.place) x ≡ []
      sized x at = frame_at start all b.place x at (frames_legal t.package_ (back_empty _ (size_faults t) legal))

  -- ---- formals, by the words of the whole

  abbrev pub AreWithin : List FormalParameter → Type 0
  AreWithin [] = Unit {0}
  AreWithin (f ∷ fs) = (words_of whole f.subtype ≤ WORDS) × AreWithin fs

  module _ (c : Coded) (b : IsBodyOf t c) where
    abbrev s : Scope
    s = front t b.place

    formals_from : (fs : List Formal) (ps : List FormalParameter) → NameSubtypes c.front fs → FewThings (formals_things s fs)
        → formal_parameters whole fs ≡ Some ps
        → AreWithin ps
    formals_from [] ps named h is = subst AreWithin (same_some [] ps is) tt
    formals_from (f ∷ fs) ps named h is =
        let x = first_formal whole f fs ps is in
        let one = is_there (subtype_of c.front f.subtype) named.0 in
        let u = one.0 in
        let here = (body_adds laws.scopes laws.names laws.premises laws.stay t legal restricted c b).back f.subtype u one.1 in
        let there = subtype_kept s whole (kept (program_of t) start all w b.place) f.subtype u here in
        let same : u ≡ x.subtype = same_some u x.subtype (sym there ∙ x.named) in
        let few : capped (words_of s u) ≤ FRAME_WORDS =
        subst (λ o. elim o [ Some y ↦ capped (words_of s y) | None ↦ 0 ] ≤ FRAME_WORDS) here
        (first_few (size.words_named s f.subtype) (counted_words (formals_things s fs)) h) in
        let words_same =
        same_words laws.premises laws.names laws.stay room t legal restricted b.place u (laws.scopes.subtype s f.subtype u (sound_at b.place) here) in
        let within : words_of whole u ≤ WORDS = omega (arith, few, words_same) in
        subst AreWithin (sym x.is) (
          subst (λ y. words_of whole y ≤ WORDS) same within,
          formals_from fs x.rest named.1 (rest_few (size.words_named s f.subtype) (counted_words (formals_things s fs)) h) x.further,
        )

    -- those of the body
    formals_within : (ps : List FormalParameter) → formal_parameters whole c.head.formals ≡ Some ps → AreWithin ps
    formals_within ps is =
        let one = formals_things s c.head.formals in
        let two = locals_things s c.body.declarations in
        let three = stmts_things s c.body.statements in
        let four = handlers_things s c.body.handlers in
        formals_from c.head.formals ps (legal_body laws t legal restricted c b).named
        (few_front adding one two (few_front adding (one ++ two) three (few_front adding (one ++ two ++ three) four (body_few c b)))) is

  -- ---- what is called

  pub record CallsFew (s : Scope) : Type 0 where
    pub called : (name : List ℕ) (p : Profile) → stands s name ≡ Some (Subprogram p) → AreWithin p.formals
    pub behind : (object operation : List ℕ) (p : Profile) → external_profile s object operation ≡ Some p → AreWithin p.formals

  -- by the body of what is called
  calls_by : (s : Scope) → HaveCode laws.scopes laws.names laws.premises t legal restricted s → CallsFew s
  calls_by s have =
      record {
        called = λ name p h. let x = have.called name p h in formals_within x.code x.body p.formals x.formals;
        behind = λ object operation p h. let x = have.behind object operation p h in formals_within x.code x.body p.formals x.formals;
      }

  -- in front of a declaration or body of the package
  pub front_calls : (place : ℕ) → CallsFew (front t place)
  front_calls place = calls_by (front t place) (front_have laws.scopes laws.names laws.premises t legal restricted place)

  -- ... of the parameters of each body with code
  pub body_calls : (c : Coded) → IsBodyOf t c → CallsFew c.front
  body_calls c b = calls_by c.front (have_code laws.scopes laws.names laws.premises t legal restricted c b)
