-- Tables that get an entity, a use or a type more keep what is so of each.
use Rattle.std.proofs.Common.{arith, ◌≡◌, ℕ, ◌≤◌, ◌<◌, List, [], ◌∷◌, ◌++◌, length, Option, None, Some, refl, subst, sym}
use Rattle.ada2012_lexer.specs.declared.token.Span.{Span}
use Rattle.ada2012_names.specs.declared.entity.EntityId.{EntityId}
use Rattle.ada2012_names.specs.declared.entity.Entity.{Entity}
use Rattle.ada2012_names.specs.declared.entity.Denoted.{Denoted}
use Rattle.ada2012_names.specs.declared.entity.Denoted.TheVariants as denoted
use Rattle.ada2012_names.specs.declared.entity.Use.{Use}
use Rattle.ada2012_names.specs.declared.entity.TypedSpan.{TypedSpan}
use Rattle.ada2012_names.specs.Tables.{AreLinked, AreUses, DenotesKnown, HaveKnownTypes, IsKnownEntity, IsNameTable, reached}

-- ---- among more entities
among_more : (n m : ℕ) (id : Option EntityId) → n ≤ m → IsKnownEntity n id → IsKnownEntity m id
among_more n m None more h = tt
among_more n m (Some id) more h = omega (arith, more, h)

linked_more : (n m : ℕ) (es : List Entity) → n ≤ m → AreLinked n es → AreLinked m es
linked_more n m [] more h = tt
linked_more n m (e ∷ es) more h = (among_more n m e.within more h.0, among_more n m e.subtype more h.1, linked_more n m es more h.2)

denotes_more : (n m : ℕ) (d : Denoted) → n ≤ m → DenotesKnown n d → DenotesKnown m d
denotes_more n m (denoted.Entity id) more h = omega (arith, more, h)
denotes_more n m (denoted.Ambiguous id) more h = omega (arith, more, h)
denotes_more n m denoted.Unknown more h = tt

uses_more : (n m from to : ℕ) (us : List Use) → n ≤ m → AreUses n from to us → AreUses m from to us
uses_more n m from to [] more h = tt
uses_more n m from to (u ∷ us) more h = (h.0, h.1, h.2, denotes_more n m u.denoted more h.3, uses_more n m u.span.end_ to us more h.4)

typed_more : (n m : ℕ) (ts : List TypedSpan) → n ≤ m → HaveKnownTypes n ts → HaveKnownTypes m ts
typed_more n m [] more h = tt
typed_more n m (t ∷ ts) more h = (omega (arith, more, h.0), typed_more n m ts more h.1)

-- ---- one more
linked_end : (n : ℕ) (es : List Entity) (e : Entity) → AreLinked n es → IsKnownEntity n e.within → IsKnownEntity n e.subtype → AreLinked n (es ++ e ∷ [])
linked_end n [] e h w s = (w, s, tt)
linked_end n (x ∷ es) e h w s = (h.0, h.1, linked_end n es e h.2 w s)

length_more : (es : List Entity) (e : Entity) → length es ≤ length (es ++ e ∷ [])
length_more [] e = omega arith
length_more (x ∷ es) e = let rest = length_more es e in omega (arith, rest)

uses_with : (n from to : ℕ) (us : List Use) (u : Use) → AreUses n from to us → reached from us ≤ u.span.start → u.span.start ≤ u.span.end_ → u.span.end_ ≤ to
    → DenotesKnown n u.denoted → AreUses n from to (us ++ u ∷ [])
uses_with n from to [] u h after whole inside d = (after, whole, inside, d, tt)
uses_with n from to (x ∷ us) u h after whole inside d = (h.0, h.1, h.2, h.3, uses_with n x.span.end_ to us u h.4 after whole inside d)

reached_with : (from : ℕ) (us : List Use) (u : Use) → u.span.end_ ≡ reached from (us ++ u ∷ [])
reached_with from [] u = refl
reached_with from (x ∷ us) u = reached_with x.span.end_ us u

typed_with : (n : ℕ) (ts : List TypedSpan) (t : TypedSpan) → HaveKnownTypes n ts → t.subtype.number < n → HaveKnownTypes n (ts ++ t ∷ [])
typed_with n [] t h s = (s, tt)
typed_with n (x ∷ ts) t h s = (h.0, typed_with n ts t h.1 s)

-- ---- the table with one more
pub declares : {whole : Span} {es new : List Entity} {us : List Use} {last : ℕ} {ts : List TypedSpan} (e : Entity) → IsNameTable whole es us last ts
    → IsKnownEntity (length es) e.within → IsKnownEntity (length es) e.subtype → new ≡ es ++ e ∷ [] → IsNameTable whole new us last ts
declares {whole = whole} {es = es} {us = us} {last = last} {ts = ts} e h w s is =
    let n = length es in
    let m = length (es ++ e ∷ []) in
    let more = length_more es e in
    subst (λ all. IsNameTable whole all us last ts) (sym is) (record {
      linked = linked_more n m (es ++ e ∷ []) more (linked_end n es e h.linked w s);
      ordered = uses_more n m whole.start whole.end_ us more h.ordered;
      ends = h.ends;
      typed = typed_more n m ts more h.typed;
    })

pub same_entities : {whole : Span} {es new : List Entity} {us : List Use} {last : ℕ} {ts : List TypedSpan} → IsNameTable whole es us last ts → new ≡ es
    → IsNameTable whole new us last ts
same_entities {whole = whole} {us = us} {last = last} {ts = ts} h is = subst (λ all. IsNameTable whole all us last ts) (sym is) h

pub notes : {whole : Span} {es : List Entity} {us new : List Use} {last : ℕ} {ts : List TypedSpan} (u : Use) → IsNameTable whole es us last ts
    → DenotesKnown (length es) u.denoted → last ≤ u.span.start → u.span.start ≤ u.span.end_ → u.span.end_ ≤ whole.end_ → new ≡ us ++ u ∷ []
    → IsNameTable whole es new u.span.end_ ts
notes {whole = whole} {es = es} {us = us} {last = last} {ts = ts} u h d after long inside is =
    subst (λ all. IsNameTable whole es all u.span.end_ ts) (sym is) (record {
      linked = h.linked;
      ordered = uses_with (length es) whole.start whole.end_ us u h.ordered (subst (λ (at : ℕ). at ≤ u.span.start) h.ends after) long inside d;
      ends = reached_with whole.start us u;
      typed = h.typed;
    })

pub same_uses : {whole : Span} {es : List Entity} {us new : List Use} {last : ℕ} {ts : List TypedSpan} → IsNameTable whole es us last ts → new ≡ us
    → IsNameTable whole es new last ts
same_uses {whole = whole} {es = es} {last = last} {ts = ts} h is = subst (λ all. IsNameTable whole es all last ts) (sym is) h

pub types : {whole : Span} {es : List Entity} {us : List Use} {last : ℕ} {ts new : List TypedSpan} (t : TypedSpan) → IsNameTable whole es us last ts
    → t.subtype.number < length es → new ≡ ts ++ t ∷ [] → IsNameTable whole es us last new
types {whole = whole} {es = es} {us = us} {last = last} {ts = ts} t h among is =
    subst (λ all. IsNameTable whole es us last all) (sym is) (record {
      linked = h.linked;
      ordered = h.ordered;
      ends = h.ends;
      typed = typed_with (length es) ts t h.typed among;
    })

pub same_types : {whole : Span} {es : List Entity} {us : List Use} {last : ℕ} {ts new : List TypedSpan} → IsNameTable whole es us last ts → new ≡ ts
    → IsNameTable whole es us last new
same_types {whole = whole} {es = es} {us = us} {last = last} h is = subst (λ all. IsNameTable whole es us last all) (sym is) h

-- the table before any use was noted, of a text with this span
pub without_uses : {old whole : Span} {es : List Entity} {us : List Use} {last : ℕ} {ts : List TypedSpan} → IsNameTable old es us last ts
    → IsNameTable whole es [] whole.start ts
without_uses h = record { linked = h.linked; ordered = tt; ends = refl; typed = h.typed }
