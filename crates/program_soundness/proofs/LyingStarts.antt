-- The start of an accepted program has its values in their subtypes, and so has each world of its runs.
use Rattle.std.proofs.Common.{◌≡◌, ◌++◌, ℕ, List, [], ◌∷◌, map, Bool, true, false, Option, Some, None, refl, subst}
use Rattle.std.specs.Prelude.{◌&&◌, bytes_eq, cond, is_some, ⊤}
use Rattle.expr_soundness.specs.ada_tree.specs.declared.declaration.Formal.{Formal}
use Rattle.expr_soundness.specs.ada_tree.specs.declared.expression.Identifier.{Identifier}
use Rattle.expr_soundness.specs.ada_tree.specs.StatementTree.{SubprogramTree}
use Rattle.expr_soundness.specs.ada_tree.specs.ProgramTree.{BodyItemTree, BodyTree, EntryBody, OfItem, OperationBody, ProtectedBody, ProtectedItemTree, SubprogramBody, TaskBody}
use Rattle.types.specs.Places.{is_of}
use Rattle.types.specs.Scopes.{Scope}
use Rattle.types.specs.Statics.{StaticIsValue}
use Rattle.declaration_rules.specs.PackageNames.{program_scope}
use Rattle.expr_soundness.specs.InitialLaw.{InitialValuesLie}
use Rattle.expr_soundness.specs.Laws.{ScopesAreSound}
use Rattle.expr_soundness.specs.meaning.specs.Programs.{Procedure, object_numbered, operation_procedures, package_bodies, parameter, procedure_of, procedures_among, program_of, subtype_named}
use Rattle.expr_soundness.specs.meaning.specs.Calls.{procedure_among}
use Rattle.step_soundness.specs.Fitting.{entry_of}
use Rattle.step_soundness.specs.InSubtypes.{BeginsIn, ParametersBegin}
use Rattle.step_soundness.specs.Objects.{first_store}
use Rattle.step_soundness.specs.Laws.{Premises}
use Rattle.step_soundness.proofs.Lookups.{same_some}
use Rattle.program_soundness.specs.BodyLaws.{IsSoundMemory, NamesAreKnown, PremisesHold}
use Rattle.program_soundness.specs.LyingWorlds.{ProgramsKeepSubtypes, RunsKeepSubtypes, StartsLie}
use Rattle.program_soundness.specs.ProgramLaws.{StartsAreSound}
use Rattle.program_soundness.specs.ScopeLaws.{ObjectsAreSound}
use Rattle.program_soundness.proofs.BegunScopes.{Fits, named_begins, program_fits}
use Rattle.program_soundness.proofs.Gathered.{results_simple}
use Rattle.program_soundness.proofs.LyingFirsts.{store_lies}

-- ---- parameters: of subtypes that are named

module _ (s : Scope) (named : (name : Identifier) → BeginsIn s (subtype_named s name)) where
  abbrev AllBegun : List Procedure → Type 0
  AllBegun [] = ⊤
  AllBegun (q ∷ qs) = ParametersBegin s q.parameters × AllBegun qs

  both_begun : (qs rs : List Procedure) → AllBegun qs → AllBegun rs → AllBegun (qs ++ rs)
  both_begun [] rs k l = l
  both_begun (q ∷ qs) rs k l = (k.0, both_begun qs rs k.1 l)

  formals_begin : (fs : List Formal) → ParametersBegin s (map (parameter s) fs)
  formals_begin [] = tt
  formals_begin (f ∷ fs) = (named f.subtype, formals_begin fs)

  procedure_begun : (object : Option ℕ) (d : SubprogramTree) (b : BodyTree) → AllBegun (procedure_of s object d b)
  procedure_begun object d b = by_result d.result
    where
      by_result : (o : Option Identifier) → AllBegun (elim o [
        | Some result ↦ []
        | None ↦ (let q : Procedure = record {
          object = object;
          name = d.name.name;
          parameters = map (parameter s) d.formals;
          barrier = None;
          body = b;
        } in q) ∷ []
      ])
      by_result (Some result) = tt
      by_result None = (formals_begin d.formals, tt)

  operations_begun : (object : Option ℕ) (items : List ProtectedItemTree) → AllBegun (operation_procedures s object items)
  operations_begun object [] = tt
  operations_begun object (OperationBody d b ∷ rest) =
      both_begun (procedure_of s object d b) (operation_procedures s object rest) (procedure_begun object d b) (operations_begun object rest)
  operations_begun object (EntryBody d barrier b ∷ rest) = (formals_begin d.formals, operations_begun object rest)

  procedures_begun : (bodies : List BodyItemTree) → AllBegun (procedures_among s bodies)
  procedures_begun [] = tt
  procedures_begun (SubprogramBody d b ∷ rest) =
      both_begun (procedure_of s None d b) (procedures_among s rest) (procedure_begun None d b) (procedures_begun rest)
  procedures_begun (ProtectedBody name items end_name ∷ rest) =
      both_begun (operation_procedures s (object_numbered s name) items) (procedures_among s rest) (operations_begun (object_numbered s name) items)
      (procedures_begun rest)
  procedures_begun (OfItem d ∷ rest) = procedures_begun rest
  procedures_begun (TaskBody name b ∷ rest) = procedures_begun rest

  among_begun : (qs : List Procedure) → AllBegun qs → (owner : Option ℕ) (name : List ℕ) (q : Procedure) → procedure_among qs owner name ≡ Some q
      → ParametersBegin s q.parameters
  among_begun [] all owner name q h = cc
  among_begun (r ∷ qs) all owner name q h = by_test (is_of r.object owner && bytes_eq r.name name) h (λ k. among_begun qs all.1 owner name q k)
    where
      by_test : (b : Bool) → cond b (Some r) (procedure_among qs owner name) ≡ Some q
          → (procedure_among qs owner name ≡ Some q → ParametersBegin s q.parameters)
          → ParametersBegin s q.parameters
      by_test true k later = subst (λ (x : Procedure). ParametersBegin s x.parameters) (same_some r q k) all.0
      by_test false k later = later k

  entry_begun : (qs : List Procedure) → AllBegun qs → (o : ℕ) (q : Procedure) → entry_of qs o ≡ Some q → ParametersBegin s q.parameters
  entry_begun [] all o q h = cc
  entry_begun (r ∷ qs) all o q h = by_test (is_of r.object (Some o) && is_some r.barrier) h (λ k. entry_begun qs all.1 o q k)
    where
      by_test : (b : Bool) → cond b (Some r) (entry_of qs o) ≡ Some q → (entry_of qs o ≡ Some q → ParametersBegin s q.parameters)
          → ParametersBegin s q.parameters
      by_test true k later = subst (λ (x : Procedure). ParametersBegin s x.parameters) (same_some r q k) all.0
      by_test false k later = later k

-- ---- the start

pub starts_lie : StaticIsValue → InitialValuesLie → ScopesAreSound → NamesAreKnown → PremisesHold → ObjectsAreSound → StartsLie
starts_lie law initial scopes known premises objects t legal restricted =
    record {
      begun = record {
        named = named;
        procedures = among_begun (program_scope t) named (program_of t).procedures all;
        entries = entry_begun (program_scope t) named (program_of t).procedures all;
        results = results_simple scopes t (first_store (program_of t)) legal restricted (known t legal restricted) laws memory;
      };
      store = store_lies law initial t legal laws.sound fits;
    }
  where
    laws : Premises (program_of t)
    laws = premises t legal

    fits : Fits (program_scope t)
    fits = program_fits t legal

    named : (name : Identifier) → BeginsIn (program_scope t) (subtype_named (program_scope t) name)
    named = named_begins initial (program_scope t) (premises t legal).sound (program_fits t legal)

    all : AllBegun (program_scope t) (named_begins initial (program_scope t) (premises t legal).sound (program_fits t legal)) (program_of t).procedures
    all = procedures_begun (program_scope t) named (package_bodies t.package_)

    memory : IsSoundMemory (program_of t) (first_store (program_of t))
    memory =
        record {
          variables = objects.variables t legal;
          components = objects.components t legal;
          same = record { variables = λ name. refl; components = λ o name. refl };
        }

pub programs_keep_subtypes : RunsKeepSubtypes → StartsAreSound → StartsLie → ProgramsKeepSubtypes
programs_keep_subtypes runs starts lie t schedule n legal restricted = runs (program_of t) schedule n (starts t legal restricted) (lie t legal restricted)
