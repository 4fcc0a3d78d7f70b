-- Accepted texts give all that their code needs: their declarations tell first words, and what their bodies name is covered.
use Rattle.std.proofs.Common.{◌≡◌, ℕ, suc, Bool, true, false, List, [], ◌∷◌, ◌++◌, length, Some, None, refl, ap, ◌∙◌, subst}
use Rattle.std.specs.Prelude.{◌||◌, is_some, slice_get}
use Rattle.std.proofs.lemmas.Bool.{and_from}
use Rattle.std.proofs.Math.Seq.{take-length}
use Rattle.lexer.specs.declared.token.Token.{Token}
use Rattle.ada_tree.specs.Language.{Limit}
use Rattle.ada_tree.specs.ProgramGrammar.{program}
use Rattle.ada_tree.specs.StatementTree.{ObjectTree}
use Rattle.ada_tree.specs.ProgramTree.{ItemTree, BodyItemTree, OfException, OfItem, OfObject, OfProtected, OfSubprogram, OfTask, OfType, ProgramTree, ProtectedBody, SubprogramBody, TaskBody}
use Rattle.types.specs.declared.entity.Subtype.{Subtype}
use Rattle.types.specs.Scopes.{Scope}
use Rattle.types.specs.Shapes.{shape_of}
use Rattle.expr_soundness.specs.type_rules.specs.SubtypeNames.{subtype_of}
use Rattle.expr_soundness.specs.meaning.specs.Programs.{items_among, package_items, program_of}
use Rattle.expr_soundness.specs.SoundScopes.{IsKnown}
use Rattle.legality.specs.ProgramRules.{IsLegal}
use Rattle.program_soundness.specs.ravenscar.specs.ProgramRules.{IsRestricted}
use Rattle.program_soundness.specs.declaration_rules.specs.PackageNames.{body_items_scope}
use Rattle.program_soundness.specs.ScopeLaws.{DeclarationsAreSound, ObjectsAreSound}
use Rattle.program_soundness.specs.Fronts.{declared_in, front, start_in}
use Rattle.program_soundness.proofs.Trees.{tree_package}
use Rattle.program_soundness.proofs.Whole.{IsPackage}
use Rattle.program_soundness.specs.declaration_rules.specs.BodyNames.{formals_scope}
use Rattle.program_soundness.specs.declaration_rules.specs.LocalRules.{locals_faults, locals_scope}
use Rattle.program_soundness.specs.stmt_rules.specs.StatementRules.{in_body, more_handlers_faults, stmts_faults}
use Rattle.expr_soundness.specs.expr_rules.proofs.TypedLaw.{back_empty, front_empty}
use Rattle.stmt_code.specs.Emitting.{IsAcceptedRun}
use Rattle.package_code.specs.Bodies.{Coded, IsBodyOf}
use Rattle.package_code.specs.Laws.{TablesAreSmall}
use Rattle.package_code.specs.Providing.{MayBeAdded, item_tells, items_tell, tells_words}
use Rattle.package_code.proofs.Placed.{items_are}
use Rattle.package_code.proofs.InFront.{LawsOfNames}
use Rattle.source_laws.specs.Covered.{DeclarationsTell, NamesAreCovered}
use Rattle.part_code.specs.Providing.{is_full}
use Rattle.source_laws.specs.Visible.{BodiesCallFew, BodiesKeepLimits, FrontsKeepLimits}
use Rattle.source_laws.proofs.CoveredOperations.{covered_body}
use Rattle.source_laws.proofs.CoveredVariables.{components_told, variable_told}
use Rattle.source_laws.proofs.WholeBodies.{IsLegalBody, legal_body}

-- ---- all items of a text

pub record LawsOfValues : Type 0 where
  pub declarations : DeclarationsAreSound
  pub objects : ObjectsAreSound
  pub limits : FrontsKeepLimits

module _ (laws : LawsOfNames) (limit : Limit) (t : ProgramTree) (tokens : List Token) (spelled : program limit t tokens) (legal : IsLegal t)
    (restricted : IsRestricted t) where
  abbrev all : List BodyItemTree
  all = declared_in t.package_

  abbrev start : Scope
  start = start_in t.package_

  abbrev whole : Scope
  whole = (program_of t).scope

  abbrev w : IsPackage (program_of t) start all
  w = tree_package t legal restricted (laws.premises t legal).sound

  -- ---- variables and components

  last_front : front t (length all) ≡ whole
  last_front = ap (body_items_scope start) (take-length all) ∙ w.scope

  module _ (values : LawsOfValues) where
    full_whole : (u : Subtype) → IsKnown whole u → is_full (shape_of whole u) ≡ true
    full_whole u =
        subst (λ s. IsKnown s u → is_full (shape_of s u) ≡ true) last_front ((values.limits limit t tokens spelled legal restricted (length all)).types u)

    object_told : (place : ℕ) (d : ObjectTree) → slice_get all place ≡ Some (OfItem (OfObject d)) → item_tells whole (OfObject d) ≡ true
    object_told place d at = by_constant d.constant refl
      where
        by_constant : (b : Bool) → d.constant ≡ b → (b || tells_words whole (subtype_of whole d.subtype) d.value) ≡ true
        by_constant true is = refl
        by_constant false is =
            variable_told laws.premises laws.names laws.scopes values.declarations values.objects laws.sized t legal restricted full_whole place d at is

    item_told : (place : ℕ) (d : ItemTree) → slice_get all place ≡ Some (OfItem d) → item_tells whole d ≡ true
    item_told place (OfObject d) at = object_told place d at
    item_told place (OfProtected d) at =
        components_told laws.premises laws.names laws.scopes values.declarations values.objects laws.sized t legal restricted full_whole place d at
    item_told place (OfType d) at = refl
    item_told place (OfException name) at = refl
    item_told place (OfSubprogram d) at = refl
    item_told place (OfTask d) at = refl

    items_told : (xs : List BodyItemTree) → ((k : ℕ) (d : ItemTree) → slice_get xs k ≡ Some (OfItem d) → item_tells whole d ≡ true)
        → items_tell whole (items_among xs) ≡ true
    items_told [] each = refl
    items_told (OfItem d ∷ rest) each =
        and_from (item_tells whole d) (items_tell whole (items_among rest)) (each 0 d refl) (items_told rest (λ k e at. each (suc k) e at))
    items_told (SubprogramBody d b ∷ rest) each = items_told rest (λ k e at. each (suc k) e at)
    items_told (TaskBody name b ∷ rest) each = items_told rest (λ k e at. each (suc k) e at)
    items_told (ProtectedBody name items end_name ∷ rest) each = items_told rest (λ k e at. each (suc k) e at)

    pub all_told : items_tell whole (package_items t.package_) ≡ true
    all_told = ap (items_tell whole) (items_are t.package_) ∙ items_told all item_told

  -- ---- bodies

  module _ (c : Coded) (x : IsBodyOf t c) where
    its : IsLegalBody t c
    its = legal_body laws t legal restricted c x

    abbrev inside : Scope
    inside = formals_scope c.front c.head.formals

    abbrev later : Scope
    later = locals_scope inside c.body.declarations

    run_accepted : c.head.result ≡ None → IsAcceptedRun inside c.body.declarations c.body.statements c.body.handlers
    run_accepted none =
        let around = in_body its.kind in
        let own = locals_faults inside c.body.declarations in
        let first = stmts_faults later around c.body.statements in
        let last = more_handlers_faults later around [] c.body.handlers in
        let rest = back_empty own (first ++ last) its.legal in
        record {
          kind = its.kind;
          gives_nothing = its.gives_nothing none;
          declared = front_empty own (first ++ last) its.legal;
          statements = front_empty first last rest;
          handled = back_empty first last rest;
          restricted = its.restricted;
        }

    pub body_may : MayBeAdded t c.front c.head c.body
    body_may =
        record {
          front = its.added.front;
          head = record { named = its.named; new_names = its.added.new_names; sound = its.added.sound };
          legal = run_accepted;
          returns = λ r some. ap is_some (its.returns r some).1;
          fit = its.added.fit;
          result = its.added.result;
          scalar = its.scalar;
        }

pub declarations_tell : LawsOfNames → LawsOfValues → DeclarationsTell
declarations_tell laws values limit t tokens spelled legal restricted = all_told laws limit t tokens spelled legal restricted values

pub names_are_covered : LawsOfNames → BodiesKeepLimits → BodiesCallFew → TablesAreSmall → NamesAreCovered
names_are_covered laws inner few tables limit t tokens spelled legal restricted c x =
    record {
      added = body_may laws limit t tokens spelled legal restricted c x;
      names = covered_body laws tables t legal restricted c x (few t legal restricted c x) (inner limit t tokens spelled legal restricted c x);
    }
