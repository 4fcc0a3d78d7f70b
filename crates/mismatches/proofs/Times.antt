-- The number of Time is below that of names.
use Rattle.std.proofs.Common.{◌≡◌, ◌<◌, ℕ, length, true, Option, Some, None, refl}
use Rattle.std.specs.Prelude.{slice_get}
use Rattle.std.proofs.lemmas.Option.{slice_get_within}
use Rattle.types.specs.Scopes.{Scope, Named, entity_of, form_of, form_at}
use Rattle.expr_rules.specs.Typing.{is_times}

pub time_within : (s : Scope) (n : ℕ) → is_times (form_at s n) ≡ true → n < length s
time_within s n h = by_entry (slice_get s n) refl h
  where
    by_entry : (o : Option Named) → slice_get s n ≡ o → is_times (form_of (entity_of o)) ≡ true → n < length s
    by_entry (Some x) e t = slice_get_within s n x e
    by_entry None e t = cc
