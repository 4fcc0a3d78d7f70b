-- What a table of names keeps: its entities lead to one another, and its uses are in the order of the text.
use Rattle.std.specs.Prelude.{◌≡◌, ℕ, ◌≤◌, ◌<◌, Bool, ◌&&◌, List, [], ◌∷◌, find, length, nat_eq, Option, None, Some, option_map, position}
use Rattle.ada2012_lexer.specs.declared.token.Span.{Span}
use Rattle.ada2012_names.specs.declared.entity.EntityId.{EntityId}
use Rattle.ada2012_names.specs.declared.entity.Entity.{Entity}
use Rattle.ada2012_names.specs.declared.entity.Denoted.{Denoted}
use Rattle.ada2012_names.specs.declared.entity.Denoted.TheVariants as denoted
use Rattle.ada2012_names.specs.declared.entity.Use.{Use}
use Rattle.ada2012_names.specs.declared.entity.TypedSpan.{TypedSpan}

-- the lists of a table, and the span of the whole text
pub record Rows : Type 0 where
  pub whole : Span
  pub entities : List Entity
  pub uses : List Use
  pub types : List TypedSpan

-- an entity, if there is one, is among so many
abbrev pub IsKnownEntity : ℕ → Option EntityId → Type 0
IsKnownEntity count None = Unit {0}
IsKnownEntity count (Some id) = id.number < count

-- what each is declared in, and its subtype, are among so many entities
abbrev pub AreLinked : ℕ → List Entity → Type 0
AreLinked count [] = Unit {0}
AreLinked count (entity ∷ entities) = IsKnownEntity count entity.within × IsKnownEntity count entity.subtype × AreLinked count entities

-- what a name denotes is among so many entities
abbrev pub DenotesKnown : ℕ → Denoted → Type 0
DenotesKnown count (denoted.Entity id) = id.number < count
DenotesKnown count (denoted.Ambiguous id) = id.number < count
DenotesKnown count denoted.Unknown = Unit {0}

-- uses lie between two places, one after the other, and denote some of so many entities
abbrev pub AreUses : (count from to : ℕ) → List Use → Type 0
AreUses count from to [] = Unit {0}
AreUses count from to (use' ∷ uses) =
    (from ≤ use'.span.start) × (use'.span.start ≤ use'.span.end_) × (use'.span.end_ ≤ to) × DenotesKnown count use'.denoted
    × AreUses count use'.span.end_ to uses

-- where the last one ends
abbrev pub reached : ℕ → List Use → ℕ
reached from [] = from
reached from (use' ∷ uses) = reached use'.span.end_ uses

-- the types of expressions are among so many entities
abbrev pub HaveKnownTypes : ℕ → List TypedSpan → Type 0
HaveKnownTypes count [] = Unit {0}
HaveKnownTypes count (typed ∷ all) = (typed.subtype.number < count) × HaveKnownTypes count all

-- the fields of a table, and where its last use ends
pub record IsNameTable (whole : Span) (entities : List Entity) (uses : List Use) (last : ℕ) (types : List TypedSpan) : Type 0 where
  pub linked : AreLinked (length entities) entities
  pub ordered : AreUses (length entities) whole.start whole.end_ uses
  pub ends : last ≡ reached whole.start uses
  pub typed : HaveKnownTypes (length entities) types

-- ---- looking up by spans

abbrev pub is_same : Span → Span → Bool
is_same left right = nat_eq left.start right.start && nat_eq left.end_ right.end_

-- what the first use with this span denotes
abbrev pub use_at : Span → List Use → Option Denoted
use_at span uses = option_map (λ u. u.denoted) (find (λ u. is_same u.span span) uses)

-- the type of the first expression with this span
abbrev pub type_at : Span → List TypedSpan → Option EntityId
type_at span types = option_map (λ t. t.subtype) (find (λ t. is_same t.span span) types)

-- the first entity that is declared at this span
abbrev pub declared_at : Span → List Entity → Option EntityId
declared_at span entities = option_map (λ n. record { number = n }) (position (λ e. is_same e.span span) entities)
