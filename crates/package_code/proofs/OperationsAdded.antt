-- The bodies of the operations of protected objects in an accepted program: where each stands, what methods ask that add its code, and that no two of one object
-- have one name (RM 9.4, 9.5.1).
use Rattle.std.proofs.Common.{◌≡◌, ◌<◌, ℕ, zero, suc, ◌+◌, List, [], ◌∷◌, ◌++◌, ◌⊎◌, inl, inr, length, map, take, false, Option, Some, None, refl, sym, ap, ◌∙◌, subst}
use Rattle.std.specs.Prelude.{is_some, option_map, slice_get}
use Rattle.std.proofs.lemmas.List.{length-map, take-map}
use Rattle.ada_tree.specs.declared.expression.Identifier.{Identifier}
use Rattle.ada_tree.specs.ExpressionTree.{ExprTree}
use Rattle.ada_tree.specs.StatementTree.{EntryTree, SubprogramTree}
use Rattle.ada_tree.specs.ProgramTree.{BodyItemTree, BodyTree, EntryBody, OperationBody, ProgramTree, ProtectedBody, ProtectedItemTree}
use Rattle.types.specs.declared.entity.RecordComponent.{RecordComponent}
use Rattle.types.specs.declared.entity.Subtype.{Subtype}
use Rattle.types.specs.Entities.{Doubtful, Protected, ProtectedObject}
use Rattle.types.specs.Scopes.{Scope, entity_at, number_of, protected_of}
use Rattle.expr_soundness.specs.expr_rules.proofs.TypedLaw.{back_empty, front_empty}
use Rattle.type_rules.specs.ProfileRules.{formals_faults, profile_faults, result_faults, subprogram_scope}
use Rattle.type_rules.specs.SubtypeNames.{end_rule, named_entity, subtype_faults, subtype_of}
use Rattle.declaration_rules.specs.BodyNames.{components_scope, formals_scope}
use Rattle.declaration_rules.specs.PackageNames.{body_items_scope}
use Rattle.unit_rules.specs.BodyRules.{body_faults, head_faults, kind_of, own_name_faults}
use Rattle.unit_rules.specs.ProtectedBodyRules.{components_at, entry_rule, operation_sees, protected_item_scope, protected_items_scope}
use Rattle.program_soundness.specs.unit_rules.specs.MatchingRules as matching
use Rattle.program_soundness.specs.stmt_rules.specs.declared.around.BodyKind.TheVariants as kinds
use Rattle.program_soundness.specs.stmt_rules.specs.SimpleRules.{condition_faults}
use Rattle.program_soundness.specs.legality.specs.ProgramRules.{IsLegal}
use Rattle.ravenscar.specs.ProgramRules.{IsRestricted}
use Rattle.expr_soundness.specs.meaning.specs.Programs.{Parameter, Program, parameter, program_of}
use Rattle.expr_soundness.specs.Laws.{ScopesAreSound}
use Rattle.expr_soundness.specs.SoundScopes.{SoundScope}
use Rattle.program_soundness.specs.Fronts.{declared_in, front, scope_at, start_in}
use Rattle.program_soundness.specs.BodyLaws.{IsKnownObject, NamesAreKnown, PremisesHold}
use Rattle.program_soundness.proofs.Beginning.{keeps_same, keeps_with}
use Rattle.program_soundness.proofs.FormalTrees.{new_formals, text_formals, unseen_first, unseen_own}
use Rattle.program_soundness.proofs.Formals.{AreNew, all_named, sound_all}
use Rattle.program_soundness.proofs.Listing.{none_passes, same_some, taken_at}
use Rattle.program_soundness.proofs.Moved.{as_item, items_scope_is}
use Rattle.program_soundness.proofs.ObjectBodies as bodies
use Rattle.program_soundness.proofs.ObjectItems.{order}
use Rattle.program_soundness.proofs.OneList.{is_object_body}
use Rattle.program_soundness.proofs.Trees.{tree_package}
use Rattle.program_soundness.proofs.Whole.{IsPackage, legal_subtype}
use Rattle.program_soundness.proofs.WiderScopes.{equal_bytes, stands, with_all}
use Rattle.package_code.specs.Bodies.{Coded, coded_at, components_or_none, object_bodies, object_number, of_operation, operations_of, or_zero, own_name}
use Rattle.package_code.proofs.Adding.{IsSoundBody, all_longer, body_added, declares_nothing, fit, known_result, task_added}
use Rattle.package_code.proofs.Coded.{coded_by}

-- ---- where the body of an operation stands

-- the body of this number among those of an object is that of the operation there
pub operation_coded : (o : ℕ) (s : Scope) (components : List RecordComponent) (items : List ProtectedItemTree) (j : ℕ) (c : Coded)
    → slice_get (operations_of o s components items) j ≡ Some c
    → (i : ProtectedItemTree) × (slice_get items j ≡ Some i) × (c ≡ of_operation o (protected_items_scope s (take j items)) components i)
operation_coded o s components [] j c is = cc
operation_coded o s components (i ∷ items) zero c is = (i, refl, sym (same_some (of_operation o s components i) c is))
operation_coded o s components (i ∷ items) (suc j) c is = operation_coded o (protected_item_scope s i) components items j c is

named_own : (o : ℕ) (s : Scope) (components : List RecordComponent) (i : ProtectedItemTree) → (of_operation o s components i).head.name.name ≡ own_name i
named_own o s components (OperationBody d b) = refl
named_own o s components (EntryBody d barrier b) = refl

own_matched : (i : ProtectedItemTree) → own_name i ≡ (matching.operation_name i).name
own_matched (OperationBody d b) = refl
own_matched (EntryBody d barrier b) = refl

one_inside : (o : ℕ) (s : Scope) (components : List RecordComponent) (i : ProtectedItemTree) → (of_operation o s components i).owner ≡ Some o
one_inside o s components (OperationBody d b) = refl
one_inside o s components (EntryBody d barrier b) = refl

-- ---- an accepted program

module _ (scopes : ScopesAreSound) (known : NamesAreKnown) (premises : PremisesHold) (t : ProgramTree) (legal : IsLegal t) (restricted : IsRestricted t) where
  abbrev program : Program
  program = program_of t

  abbrev start : Scope
  start = start_in t.package_

  abbrev all : List BodyItemTree
  all = declared_in t.package_

  abbrev pub w : IsPackage program start all
  w = tree_package t legal restricted (premises t legal).sound

  module _ (k : ℕ) (nm : Identifier) (items : List ProtectedItemTree) (end_name : Identifier) (at : slice_get all k ≡ Some (ProtectedBody nm items end_name)) where
    abbrev pub obj : ProtectedObject
    obj = (bodies.there program start all w k nm items end_name at).object

    -- in front of the first operation
    abbrev pub begun : Scope
    begun = bodies.begun program start all w k nm items end_name at

    abbrev visible : (n : ℕ) × (number_of (scope_at start all k) nm.name ≡ Some n) × (entity_at (scope_at start all k) n ≡ Some (Protected obj))
    visible = bodies.named_n program start all w k nm items end_name at

    pub known_object : IsKnownObject (scope_at start all k) visible.0 obj items
    known_object = (known t legal restricted).objects k nm items end_name visible.0 obj at visible.1 visible.2

    pub same_scope : (j : ℕ) → protected_items_scope begun (take j items) ≡ scope_at begun (map as_item items) j
    same_scope j = items_scope_is begun (take j items) ∙ ap (body_items_scope begun) (sym (take-map as_item j items))

    pub sounds : bodies.SeenSound program start all w k nm items end_name at
    sounds j i h f = subst (λ u. SoundScope (components_scope u f obj.components)) (same_scope j) (known_object.seen j i h f)

    pub inners : bodies.InnerSound program start all w k nm items end_name at
    inners j e b h = subst (λ u. SoundScope (subprogram_scope (components_scope u (is_some e.result) obj.components) e)) (same_scope j) (known_object.own j e b h)

    pub owned : (j : ℕ) (i : ProtectedItemTree) → slice_get items j ≡ Some i → bodies.HasOwn program start all w k nm items end_name at i
    owned j i h =
        bodies.own_of program start all w k nm items end_name at sounds inners (bodies.outer_new program start all w k nm items end_name at) j i h

    pub number_is : object_number program.scope nm ≡ obj.number
    number_is = ap or_zero (bodies.there program start all w k nm items end_name at).numbered

    -- the body of this number of those that the item has
    pub inside_coded : (j : ℕ) (c : Coded) → slice_get (coded_at t k (ProtectedBody nm items end_name)) j ≡ Some c
        → (i : ProtectedItemTree) × (slice_get items j ≡ Some i)
        × (c ≡ of_operation (object_number program.scope nm) (protected_items_scope begun (take j items)) obj.components i)
    inside_coded j c is =
        let o = object_number program.scope nm in
        let here = scope_at start all k in
        let parts : components_or_none (components_at here visible.0) ≡ obj.components =
        ap (λ e. components_or_none (option_map (λ p. p.components) (protected_of e))) visible.2 in
        operation_coded o begun obj.components items j c
        (subst (λ cs. slice_get (operations_of o begun cs items) j ≡ Some c) parts
        (subst (λ n. slice_get (object_bodies o here n items) j ≡ Some c) visible.1 is))

    -- two bodies of the object have two names
    pub two_names : (j n : ℕ) (x y : ProtectedItemTree) → j < n → slice_get items j ≡ Some x → slice_get items n ≡ Some y
        → (matching.operation_name x).name ≡ (matching.operation_name y).name → ⊥
    two_names j n x y less one two same = by_kinds x y one two same (owned j x one).stands_ (owned n y two).stands_
      where
        second : (z : ProtectedItemTree) → slice_get items n ≡ Some z → matching.is_second_operation (take n items) z ≡ false
        second z there = (bodies.item_matched program start all w k nm items end_name at n z there).0

        unlike : (u z : ProtectedItemTree) → slice_get items j ≡ Some u → slice_get items n ≡ Some z
            → matching.is_operation_body (matching.operation_name z) u ≡ false
        unlike u z first last =
            none_passes (matching.is_operation_body (matching.operation_name z)) (take n items) j u (second z last)
            (taken_at items n j u less first)

        by_kinds : (u z : ProtectedItemTree) → slice_get items j ≡ Some u → slice_get items n ≡ Some z
            → (matching.operation_name u).name ≡ (matching.operation_name z).name
            → stands (bodies.ended program start all w k nm items end_name at) (bodies.unit_name u) ≡ Some (bodies.unit_entity u (owned j x one).profile)
            → stands (bodies.ended program start all w k nm items end_name at) (bodies.unit_name z) ≡ Some (bodies.unit_entity z (owned n y two).profile)
            → ⊥
        by_kinds (OperationBody d b) (OperationBody e c) first last alike h g =
            (let none = unlike (OperationBody d b) (OperationBody e c) first last in
            let bad = sym none ∙ equal_bytes e.name.name d.name.name (sym alike) in cc)
        by_kinds (EntryBody d barrier b) (EntryBody e other c) first last alike h g =
            (let none = unlike (EntryBody d barrier b) (EntryBody e other c) first last in
            let bad = sym none ∙ equal_bytes e.name.name d.name.name (sym alike) in cc)
        by_kinds (OperationBody d b) (EntryBody e other c) first last alike h g =
            (let both = sym h ∙ ap (stands (bodies.ended program start all w k nm items end_name at)) alike ∙ g in cc)
        by_kinds (EntryBody d barrier b) (OperationBody e c) first last alike h g =
            (let both = sym h ∙ ap (stands (bodies.ended program start all w k nm items end_name at)) alike ∙ g in cc)

    -- ---- the body of a procedure or a function

    module _ (j : ℕ) (e : SubprogramTree) (b : BodyTree) (h : slice_get items j ≡ Some (OperationBody e b)) where
      abbrev seen : Scope
      seen = components_scope (scope_at begun (map as_item items) j) (is_some e.result) obj.components

      abbrev behind : Scope
      behind = subprogram_scope seen e

      abbrev parameters : List Parameter
      parameters = map (parameter program.scope) e.formals

      item_legal : head_faults seen e b ++ body_faults (formals_scope behind e.formals) (kind_of seen e.result) b ≡ []
      item_legal = front_empty _ (end_rule e.name b.end_name) (bodies.item_legal program start all w k nm items end_name at j (OperationBody e b) h)

      head : head_faults seen e b ≡ []
      head = front_empty (head_faults seen e b) _ item_legal

      pub operation_legal : body_faults (formals_scope behind e.formals) (kind_of seen e.result) b ≡ []
      operation_legal = back_empty (head_faults seen e b) _ item_legal

      profile_legal : profile_faults seen e ≡ []
      profile_legal = front_empty (profile_faults seen e) _ (front_empty _ _ (front_empty _ _ head))

      formals_legal : formals_faults seen [] e.formals ≡ []
      formals_legal = front_empty _ _ (front_empty _ _ profile_legal)

      own_legal : own_name_faults e.name e.formals ≡ []
      own_legal = back_empty (profile_faults seen e) _ (front_empty _ _ (front_empty _ _ head))

      doubt : (name : List ℕ) → stands seen name ≡ Some Doubtful → ⊥
      doubt name = bodies.doubt_seen program start all w k nm items end_name at sounds j (OperationBody e b) h (is_some e.result) name

      new : AreNew behind parameters
      new =
          new_formals scopes program.scope seen behind (inners j e b h) (keeps_with seen e.name.name _) doubt
          (bodies.types_seen program start all w k nm items end_name at j (is_some e.result)) [] e.formals formals_legal
          (unseen_own seen e.name _ e.formals own_legal (unseen_first seen [] e.formals formals_legal))

      text : formals_scope behind e.formals ≡ with_all behind (all_named parameters)
      text =
          text_formals scopes program.scope seen behind (inners j e b h) (keeps_with seen e.name.name _) doubt
          (bodies.types_seen program start all w k nm items end_name at j (is_some e.result)) [] e.formals behind (keeps_same behind) formals_legal

      told : (r : Identifier) → e.result ≡ Some r → (u : Subtype) × (subtype_of seen r ≡ Some u) × (subtype_of program.scope r ≡ Some u)
      told r some =
          let rules_ : subtype_faults seen r ≡ [] =
          subst (λ o. result_faults seen o ≡ []) some (back_empty (formals_faults seen [] e.formals) (result_faults seen e.result) (front_empty _ _ profile_legal)) in
          let u = legal_subtype r.place (named_entity seen r) rules_ (doubt r.name) in
          (u.0, u.1, bodies.types_seen program start all w k nm items end_name at j (is_some e.result) r u.0 u.1)

      added : IsSoundBody t behind e b
      added = record {
        front = inners j e b h;
        sound = subst SoundScope (sym text) (sound_all scopes behind parameters (inners j e b h) new);
        new_names = ap length text ∙ all_longer behind parameters new ∙ ap (λ n. length behind + n) (length-map e.formals (parameter program.scope));
        fit = fit program.scope seen behind e b head operation_legal told;
        result = known_result program.scope seen behind e b head operation_legal told;
        bare = declares_nothing program.scope seen behind e b head operation_legal told;
      }

      pub operation_added : IsSoundBody t (subprogram_scope (operation_sees (protected_items_scope begun (take j items)) obj.components e) e) e b
      operation_added =
          subst (λ u. IsSoundBody t (subprogram_scope (components_scope u (is_some e.result) obj.components) e) e b) (sym (same_scope j)) added

    -- ---- the body of an entry

    module _ (j : ℕ) (e : EntryTree) (barrier : ExprTree) (b : BodyTree) (h : slice_get items j ≡ Some (EntryBody e barrier b)) where
      abbrev within : Scope
      within = components_scope (scope_at begun (map as_item items) j) false obj.components

      abbrev passed : List Parameter
      passed = map (parameter program.scope) e.formals

      sound_within : SoundScope within
      sound_within = sounds j (EntryBody e barrier b) h false

      entry_rules : entry_rule within e.name ++ formals_faults within [] e.formals ++ condition_faults (formals_scope within e.formals) barrier
          ++ body_faults (formals_scope within e.formals) kinds.Entry b ≡ []
      entry_rules = front_empty _ (end_rule e.name b.end_name) (bodies.item_legal program start all w k nm items end_name at j (EntryBody e barrier b) h)

      entry_formals : formals_faults within [] e.formals ≡ []
      entry_formals =
          back_empty (entry_rule within e.name) (formals_faults within [] e.formals)
          (front_empty _ (condition_faults (formals_scope within e.formals) barrier) (front_empty _ _ entry_rules))

      doubt_within : (name : List ℕ) → stands within name ≡ Some Doubtful → ⊥
      doubt_within name = bodies.doubt_seen program start all w k nm items end_name at sounds j (EntryBody e barrier b) h false name

      new_within : AreNew within passed
      new_within =
          new_formals scopes program.scope within within sound_within (keeps_same within) doubt_within
          (bodies.types_seen program start all w k nm items end_name at j false) [] e.formals entry_formals (unseen_first within [] e.formals entry_formals)

      text_within : formals_scope within e.formals ≡ with_all within (all_named passed)
      text_within =
          text_formals scopes program.scope within within sound_within (keeps_same within) doubt_within
          (bodies.types_seen program start all w k nm items end_name at j false) [] e.formals within (keeps_same within) entry_formals

      entry_added : IsSoundBody t within (record { place = e.place; name = e.name; formals = e.formals; result = None }) b
      entry_added = record {
        front = sound_within;
        sound = subst SoundScope (sym text_within) (sound_all scopes within passed sound_within new_within);
        new_names = ap length text_within ∙ all_longer within passed new_within ∙ ap (λ n. length within + n) (length-map e.formals (parameter program.scope));
        fit = λ r value some is. (let none : None ≡ Some r = some in cc);
        result = λ r some. (let none : None ≡ Some r = some in cc);
        bare = λ r some. (let none : None ≡ Some r = some in cc);
      }

      pub entry_body_added : IsSoundBody t (components_scope (protected_items_scope begun (take j items)) false obj.components)
          (record { place = e.place; name = e.name; formals = e.formals; result = None }) b
      entry_body_added =
          subst (λ u. IsSoundBody t (components_scope u false obj.components) (record { place = e.place; name = e.name; formals = e.formals; result = None }) b)
          (sym (same_scope j)) entry_added

    pub inside_added : (j : ℕ) (c : Coded) → slice_get (coded_at t k (ProtectedBody nm items end_name)) j ≡ Some c → IsSoundBody t c.front c.head c.body
    inside_added j c is = let x = inside_coded j c is in by_item x.0 x.1 c x.2
      where
        by_item : (i : ProtectedItemTree) → slice_get items j ≡ Some i → (z : Coded)
            → z ≡ of_operation (object_number program.scope nm) (protected_items_scope begun (take j items)) obj.components i
            → IsSoundBody t z.front z.head z.body
        by_item (OperationBody e b) h z same = subst (λ y. IsSoundBody t y.front y.head y.body) (sym same) (operation_added j e b h)
        by_item (EntryBody e barrier b) h z same = subst (λ y. IsSoundBody t y.front y.head y.body) (sym same) (entry_body_added j e barrier b h)

  -- ---- bodies of one object

  -- the body belongs to a protected object: where its object's body stands, and which of its operations it is
  pub record IsInObject (place k : ℕ) (c : Coded) : Type 0 where
    pub name : Identifier
    pub items : List ProtectedItemTree
    pub end_name : Identifier
    pub at : slice_get all place ≡ Some (ProtectedBody name items end_name)
    pub item : ProtectedItemTree
    pub there : slice_get items k ≡ Some item
    pub is : c
        ≡ of_operation (object_number program.scope name) (protected_items_scope (begun place name items end_name at) (take k items))
        (obj place name items end_name at).components item

  pub in_object : (place : ℕ) (x : BodyItemTree) (k : ℕ) (c : Coded) (o : ℕ) → slice_get (coded_at t place x) k ≡ Some c → slice_get all place ≡ Some x
      → c.owner ≡ Some o → IsInObject place k c
  in_object place x k c o is =
      coded_by t place (λ y n e. slice_get all place ≡ Some y → e.owner ≡ Some o → IsInObject place n e) (λ d b there own. absurd (let bad = own in cc))
      (λ name b there own. absurd (let bad = own in cc))
      (λ name items end_name n e here there own.
      let y = inside_coded place name items end_name there n e here in
      record { name = name; items = items; end_name = end_name; at = there; item = y.0; there = y.1; is = y.2 }) x k c is

  pub owner_is : (place k : ℕ) (c : Coded) (x : IsInObject place k c) → c.owner ≡ Some (object_number program.scope x.name)
  owner_is place k c x =
      ap (λ z. z.owner) x.is
      ∙ one_inside (object_number program.scope x.name) (protected_items_scope (begun place x.name x.items x.end_name x.at) (take k x.items))
      (obj place x.name x.items x.end_name x.at).components x.item

  pub name_is : (place k : ℕ) (c : Coded) (x : IsInObject place k c) → c.head.name.name ≡ (matching.operation_name x.item).name
  name_is place k c x =
      ap (λ z. z.head.name.name) x.is
      ∙ named_own (object_number program.scope x.name) (protected_items_scope (begun place x.name x.items x.end_name x.at) (take k x.items))
      (obj place x.name x.items x.end_name x.at).components x.item
      ∙ own_matched x.item

  -- an object has one body
  object_names : (n k : ℕ) (a b : Identifier) (xs ys : List ProtectedItemTree) (c d : Identifier) → slice_get all n ≡ Some (ProtectedBody a xs c)
      → slice_get all k ≡ Some (ProtectedBody b ys d) → object_number program.scope a ≡ object_number program.scope b → a.name ≡ b.name
  object_names n k a b xs ys c d one two same =
      (bodies.same_tree program start all w a.name b.name (obj n a xs c one) (obj k b ys d two) (bodies.declared_at program start all w n a xs c one)
      (bodies.declared_at program start all w k b ys d two)
      (sym (number_is n a xs c one) ∙ same ∙ number_is k b ys d two)).0

  pub one_object : (n k : ℕ) (a b : Identifier) (xs ys : List ProtectedItemTree) (c d : Identifier) → n < k → slice_get all n ≡ Some (ProtectedBody a xs c)
      → slice_get all k ≡ Some (ProtectedBody b ys d) → object_number program.scope a ≡ object_number program.scope b → ⊥
  one_object n k a b xs ys c d less one two same =
      let none =
      none_passes (is_object_body b) (take k all) n (ProtectedBody a xs c) (bodies.only_body program start all w k b ys d two)
      (taken_at all k n (ProtectedBody a xs c) less one) in
      let never = sym none ∙ equal_bytes b.name a.name (sym (object_names n k a b xs ys c d one two same)) in cc

  -- no two bodies of one object have one name
  pub one_operation : (n i : ℕ) (e : Coded) (k j : ℕ) (c : Coded) → IsInObject n i e → IsInObject k j c → e.owner ≡ c.owner
      → e.head.name.name ≡ c.head.name.name → (n ≡ k) × (i ≡ j)
  one_operation n i e k j c x y owners names = by_places (order n k)
    where
      some_number : Option ℕ → ℕ
      some_number = or_zero

      numbers : object_number program.scope x.name ≡ object_number program.scope y.name
      numbers = ap some_number (sym (owner_is n i e x) ∙ owners ∙ owner_is k j c y)

      alike : (matching.operation_name x.item).name ≡ (matching.operation_name y.item).name
      alike = sym (name_is n i e x) ∙ names ∙ name_is k j c y

      items_of : BodyItemTree → List ProtectedItemTree
      items_of (ProtectedBody name items end_name) = items
      items_of z = []

      by_operations : slice_get y.items i ≡ Some x.item → (i < j) ⊎ ((i ≡ j) ⊎ (j < i)) → i ≡ j
      by_operations first (inl less) = absurd (two_names k y.name y.items y.end_name y.at i j x.item y.item less first y.there alike)
      by_operations first (inr (inl same)) = same
      by_operations first (inr (inr less)) = absurd (two_names k y.name y.items y.end_name y.at j i y.item x.item less y.there first (sym alike))

      by_places : (n < k) ⊎ ((n ≡ k) ⊎ (k < n)) → (n ≡ k) × (i ≡ j)
      by_places (inl less) = absurd (one_object n k x.name y.name x.items y.items x.end_name y.end_name less x.at y.at numbers)
      by_places (inr (inr less)) = absurd (one_object k n y.name x.name y.items x.items y.end_name x.end_name less y.at x.at (sym numbers))
      by_places (inr (inl same)) =
          let items =
          ap items_of
          (same_some (ProtectedBody x.name x.items x.end_name) (ProtectedBody y.name y.items y.end_name) (sym x.at ∙ ap (slice_get all) same ∙ y.at)) in
          (same, by_operations (subst (λ l. slice_get l i ≡ Some x.item) items x.there) (order i j))

pub bodies_sound : ScopesAreSound → NamesAreKnown → PremisesHold → (t : ProgramTree) → IsLegal t → IsRestricted t → (place : ℕ) (item : BodyItemTree) (k : ℕ)
    (c : Coded)
    → slice_get (declared_in t.package_) place ≡ Some item → slice_get (coded_at t place item) k ≡ Some c
    → IsSoundBody t c.front c.head c.body
bodies_sound scopes known premises t legal restricted place x k c at is =
    coded_by t place (λ y n e. slice_get (declared_in t.package_) place ≡ Some y → IsSoundBody t e.front e.head e.body)
    (λ d b there. body_added scopes known premises t legal restricted place d b there)
    (λ name b there. task_added scopes known premises t legal restricted place name b there)
    (λ name items end_name n e here there. inside_added scopes known premises t legal restricted place name items end_name there n e here) x k c is at
