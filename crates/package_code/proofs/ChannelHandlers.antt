-- The attachments of a program's image are those of its handlers, channel by channel.
use Rattle.std.proofs.Common.{◌≡◌, ◌⊎◌, ◌+◌, ◌<◌, ◌≤◌, ℕ, zero, suc, pos, negsuc, List, [], ◌∷◌, ◌++◌, Bool, true, false, cond, Option, Some, None, inl, inr, refl, sym, ap, ◌∙◌, subst, arith, ⊎_elim}
use Rattle.std.specs.Prelude.{nat_eq, nat_le, ◌&&◌}
use Rattle.std.proofs.lemmas.Bool.{and_parts, eq-eqb, eqb-true, leb-true}
use Rattle.base.specs.declared.limits.TheConstants.{CHANNELS}
use Rattle.ada_tree.specs.StatementTree.{OperationTree}
use Rattle.ada_tree.specs.StatementTree as operation
use Rattle.ada_tree.specs.ProgramTree.{BodyItemTree, ItemTree, OfException, OfItem, OfObject, OfProtected, OfSubprogram, OfTask, OfType, PackageTree, ProgramTree, ProtectedBody, SubprogramBody, TaskBody}
use Rattle.image.specs.Attachments.{attached_to}
use Rattle.image.specs.declared.attachments.Attachment.{Attachment}
use Rattle.types.specs.Places.{or_else}
use Rattle.types.specs.Scopes.{Scope, integer_type}
use Rattle.types.specs.Values.{Array, Number, Record, Truth, Value}
use Rattle.declaration_rules.specs.HandlerChannels.{attached_channel, channel_of}
use Rattle.declaration_rules.specs.TaskRules.{is_attachment}
use Rattle.expr_soundness.specs.expr_rules.specs.StaticRules.{static_scalar}
use Rattle.expr_soundness.specs.expr_rules.specs.declared.own.Wanted.TheVariants as wanted
use Rattle.expr_soundness.specs.meaning.specs.Programs.{Attached, attached_by, attached_operation, attached_operations, handler_at, handlers_among, items_among, object_numbered, package_items, program_of}
use Rattle.program_soundness.proofs.Listing.{same_some}
use Rattle.package_code.specs.Directory.{number_told}
use Rattle.package_code.specs.Handlers.{attachments_from, attachments_of, handler_among, handler_of_bodies, handler_of_items, handler_of_package, handler_told, number_or_none, with_attachment}
use Rattle.package_code.specs.declared.directory.Directory.{Directory}

-- ---- the handler of a channel

handler_both : (channel : ℕ) (xs ys : List Attached) → handler_at channel (xs ++ ys) ≡ or_else (handler_at channel xs) (handler_at channel ys)
handler_both channel [] ys = refl
handler_both channel (x ∷ xs) ys = by_test (nat_eq x.channel channel) (handler_both channel xs ys)
  where
    by_test : (b : Bool) → handler_at channel (xs ++ ys) ≡ or_else (handler_at channel xs) (handler_at channel ys)
        → cond b (Some x) (handler_at channel (xs ++ ys)) ≡ or_else (cond b (Some x) (handler_at channel xs)) (handler_at channel ys)
    by_test true later = refl
    by_test false later = later

among_is : (s : Scope) (object : Option ℕ) (channel : ℕ) (os : List OperationTree)
    → handler_among s object channel os ≡ handler_at channel (attached_operations s object os)
among_is s object channel [] = refl
among_is s object channel (o ∷ os) =
    ap (or_else (handler_at channel (attached_operation s object o))) (among_is s object channel os)
    ∙ sym (handler_both channel (attached_operation s object o) (attached_operations s object os))

handlers_both : (s : Scope) (channel : ℕ) (xs ys : List ItemTree)
    → handler_at channel (handlers_among s (xs ++ ys)) ≡ or_else (handler_of_items s channel xs) (handler_at channel (handlers_among s ys))
handlers_both s channel [] ys = refl
handlers_both s channel (OfProtected d ∷ xs) ys =
    handler_both channel (attached_operations s (object_numbered s d.name) d.operations) (handlers_among s (xs ++ ys))
    ∙ ((λ j. or_else (sym (among_is s (object_numbered s d.name) channel d.operations) j) (handlers_both s channel xs ys j))
    ∙ sym (or_else_twice (handler_among s (object_numbered s d.name) channel d.operations) (handler_of_items s channel xs) (handler_at channel (handlers_among s ys))))
  where
    or_else_twice : (a b c : Option Attached) → or_else (or_else a b) c ≡ or_else a (or_else b c)
    or_else_twice (Some x) b c = refl
    or_else_twice None b c = refl
handlers_both s channel (OfType d ∷ xs) ys = handlers_both s channel xs ys
handlers_both s channel (OfObject d ∷ xs) ys = handlers_both s channel xs ys
handlers_both s channel (OfException name ∷ xs) ys = handlers_both s channel xs ys
handlers_both s channel (OfSubprogram d ∷ xs) ys = handlers_both s channel xs ys
handlers_both s channel (OfTask d ∷ xs) ys = handlers_both s channel xs ys

bodies_are : (s : Scope) (channel : ℕ) (is : List BodyItemTree)
    → handler_of_bodies s channel is ≡ handler_at channel (handlers_among s (items_among is))
bodies_are s channel [] = refl
bodies_are s channel (OfItem (OfProtected d) ∷ is) =
    (λ j. or_else (among_is s (object_numbered s d.name) channel d.operations j) (bodies_are s channel is j))
    ∙ sym (handler_both channel (attached_operations s (object_numbered s d.name) d.operations) (handlers_among s (items_among is)))
bodies_are s channel (OfItem (OfType d) ∷ is) = bodies_are s channel is
bodies_are s channel (OfItem (OfObject d) ∷ is) = bodies_are s channel is
bodies_are s channel (OfItem (OfException name) ∷ is) = bodies_are s channel is
bodies_are s channel (OfItem (OfSubprogram d) ∷ is) = bodies_are s channel is
bodies_are s channel (OfItem (OfTask d) ∷ is) = bodies_are s channel is
bodies_are s channel (SubprogramBody d b ∷ is) = bodies_are s channel is
bodies_are s channel (TaskBody name b ∷ is) = bodies_are s channel is
bodies_are s channel (ProtectedBody name items end_name ∷ is) = bodies_are s channel is

pub package_is : (s : Scope) (channel : ℕ) (p : Option PackageTree) → handler_of_package s channel p ≡ handler_at channel (handlers_among s (package_items p))
package_is s channel None = refl
package_is s channel (Some p) =
    ap (or_else (handler_of_items s channel p.declaration.items)) (bodies_are s channel p.body.items)
    ∙ sym (handlers_both s channel p.declaration.items (items_among p.body.items))

-- ---- channels are in their range

channel_within : (v : Option Value) (c : ℕ) → channel_of v ≡ Some c → (1 ≤ c) × (c ≤ CHANNELS)
channel_within (Some (Number (pos n))) c h = by_test (nat_le 1 n && nat_le n CHANNELS) refl h
  where
    by_test : (b : Bool) → (nat_le 1 n && nat_le n CHANNELS) ≡ b → cond b (Some n) None ≡ Some c → (1 ≤ c) × (c ≤ CHANNELS)
    by_test true e k =
        let two = and_parts (nat_le 1 n) (nat_le n CHANNELS) e in
        subst (λ m. (1 ≤ m) × (m ≤ CHANNELS)) (same_some n c k) (leb-true 1 n two.0, leb-true n CHANNELS two.1)
    by_test false e k = cc
channel_within (Some (Number (negsuc n))) c h = cc
channel_within (Some (Truth b)) c h = cc
channel_within (Some (Array vs)) c h = cc
channel_within (Some (Record fs)) c h = cc
channel_within None c h = cc

abbrev Within : ℕ → Type 0
Within channel = (1 ≤ channel) × (channel ≤ CHANNELS)

-- that holds of the channel of each handler among these
abbrev AllWithin : List Attached → Type 0
AllWithin [] = Unit {0}
AllWithin (a ∷ rest) = Within a.channel × AllWithin rest

all_both : (xs ys : List Attached) → AllWithin xs → AllWithin ys → AllWithin (xs ++ ys)
all_both [] ys h k = k
all_both (x ∷ xs) ys h k = (h.0, all_both xs ys h.1 k)

one_within : (s : Scope) (object : Option ℕ) (o : OperationTree) → AllWithin (attached_operation s object o)
one_within s object (operation.OfEntry d) = tt
one_within s object (operation.OfSubprogram d None) = tt
one_within s object (operation.OfSubprogram d (Some a)) = by_test (is_attachment a)
  where
    by_parts : (p q : Option ℕ) → attached_channel s a ≡ q → AllWithin (attached_by d.name.name p q)
    by_parts (Some n) (Some c) is = (channel_within (static_scalar s (wanted.OfType integer_type) None a.value) c is, tt)
    by_parts (Some n) None is = tt
    by_parts None q is = tt

    by_test : (b : Bool) → AllWithin (cond b (attached_by d.name.name object (attached_channel s a)) [])
    by_test true = by_parts object (attached_channel s a) refl
    by_test false = tt

among_within : (s : Scope) (object : Option ℕ) (os : List OperationTree) → AllWithin (attached_operations s object os)
among_within s object [] = tt
among_within s object (o ∷ os) =
    all_both (attached_operation s object o) (attached_operations s object os) (one_within s object o) (among_within s object os)

handlers_within : (s : Scope) (items : List ItemTree) → AllWithin (handlers_among s items)
handlers_within s [] = tt
handlers_within s (OfProtected d ∷ rest) =
    all_both (attached_operations s (object_numbered s d.name) d.operations) (handlers_among s rest)
    (among_within s (object_numbered s d.name) d.operations) (handlers_within s rest)
handlers_within s (OfType d ∷ rest) = handlers_within s rest
handlers_within s (OfObject d ∷ rest) = handlers_within s rest
handlers_within s (OfException name ∷ rest) = handlers_within s rest
handlers_within s (OfSubprogram d ∷ rest) = handlers_within s rest
handlers_within s (OfTask d ∷ rest) = handlers_within s rest

at_within : (channel : ℕ) (all : List Attached) (a : Attached) → AllWithin all → handler_at channel all ≡ Some a → Within channel
at_within channel [] a h is = cc
at_within channel (x ∷ rest) a h is = by_test (nat_eq x.channel channel) refl is (λ k. at_within channel rest a h.1 k)
  where
    by_test : (b : Bool) → nat_eq x.channel channel ≡ b → cond b (Some x) (handler_at channel rest) ≡ Some a
        → (handler_at channel rest ≡ Some a → Within channel) → Within channel
    by_test true e k later = subst Within (eqb-true x.channel channel e) h.0
    by_test false e k later = later k

pub handler_within : (t : ProgramTree) (channel : ℕ) (a : Attached) → handler_at channel (program_of t).handlers ≡ Some a → (1 ≤ channel) × (channel ≤ CHANNELS)
handler_within t channel a is =
    at_within channel (program_of t).handlers a (handlers_within (program_of t).scope (package_items t.package_)) is

-- ---- what is attached

same_or_other : (a b : ℕ) → (a ≡ b) ⊎ (nat_eq a b ≡ false)
same_or_other a b = by_test (nat_eq a b) refl
  where
    by_test : (c : Bool) → nat_eq a b ≡ c → (a ≡ b) ⊎ (nat_eq a b ≡ false)
    by_test true e = inl (eqb-true a b e)
    by_test false e = inr e

module _ (s : Scope) (d : Directory) (p : Option PackageTree) where
  abbrev told : ℕ → Option ℕ
  told channel = number_or_none (handler_told s d (handler_of_package s channel p))

  -- one that is attached in front of others
  first_attached : (channel from : ℕ) (number : Option ℕ) (rest : List Attachment) → from ≡ channel → attached_to channel rest ≡ None
      → attached_to channel (with_attachment from number rest) ≡ number
  first_attached channel from (Some n) rest same none = ap (λ b. cond b (Some n) (attached_to channel rest)) (eq-eqb from channel same)
  first_attached channel from None rest same none = none

  next_attached : (channel from : ℕ) (number : Option ℕ) (rest : List Attachment) → nat_eq from channel ≡ false
      → attached_to channel (with_attachment from number rest) ≡ attached_to channel rest
  next_attached channel from (Some n) rest other = ap (λ b. cond b (Some n) (attached_to channel rest)) other
  next_attached channel from None rest other = refl

  unlike : (from channel : ℕ) → channel < from → (c : Bool) → nat_eq from channel ≡ c → c ≡ false
  unlike from channel less true e = let same = eqb-true from channel e in absurd (omega (arith, same, less))
  unlike from channel less false e = refl

  in_front : (many from channel : ℕ) → channel < from → attached_to channel (attachments_from s d p from many) ≡ None
  in_front zero from channel less = refl
  in_front (suc many) from channel less =
      next_attached channel from (told from) (attachments_from s d p (suc from) many) (unlike from channel less (nat_eq from channel) refl)
      ∙ in_front many (suc from) channel (omega (arith, less))

  attached_there : (many from channel : ℕ) → from ≤ channel → channel < from + many → attached_to channel (attachments_from s d p from many) ≡ told channel
  attached_there zero from channel low high = absurd (omega (arith, low, high))
  attached_there (suc many) from channel low high =
      ⊎_elim
      (λ same.
      first_attached channel from (told from) (attachments_from s d p (suc from) many) same (in_front many (suc from) channel (omega (arith, same))) ∙ ap told same)
      (λ other.
      next_attached channel from (told from) (attachments_from s d p (suc from) many) other
      ∙ attached_there many (suc from) channel (apart from channel low other) (omega (arith, high)))
      (same_or_other from channel)
    where
      by_order : (m n : ℕ) → m ≤ n → (m ≡ n) ⊎ (suc m ≤ n)
      by_order zero zero le = inl refl
      by_order zero (suc n) le = inr (omega arith)
      by_order (suc m) zero le = absurd (omega (arith, le))
      by_order (suc m) (suc n) le = ⊎_elim (λ e. inl (ap suc e)) (λ less. inr (omega (arith, less))) (by_order m n (omega (arith, le)))

      apart : (from channel : ℕ) → from ≤ channel → nat_eq from channel ≡ false → suc from ≤ channel
      apart from channel low other = ⊎_elim (λ e. absurd (let is = eq-eqb from channel e in cc)) (λ less. less) (by_order from channel low)

  behind : (many from channel : ℕ) → from + many ≤ channel → attached_to channel (attachments_from s d p from many) ≡ None
  behind zero from channel up = refl
  behind (suc many) from channel up =
      next_attached channel from (told from) (attachments_from s d p (suc from) many)
      (unlike_less from channel (omega (arith, up)) (nat_eq from channel) refl)
      ∙ behind many (suc from) channel (omega (arith, up))
    where
      unlike_less : (from channel : ℕ) → from < channel → (c : Bool) → nat_eq from channel ≡ c → c ≡ false
      unlike_less from channel less true e = let same = eqb-true from channel e in absurd (omega (arith, same, less))
      unlike_less from channel less false e = refl

-- the procedure that is attached to a channel is that of the channel's handler
module _ (t : ProgramTree) (d : Directory) where
  -- where there is one
  pub attached_some : (channel : ℕ) (a : Attached) → handler_at channel (program_of t).handlers ≡ Some a
      → attached_to channel (attachments_of t d) ≡ number_told (program_of t).scope d (Some a.object) a.name
  attached_some channel a is =
      let within = handler_within t channel a is in
      attached_there (program_of t).scope d t.package_ CHANNELS 1 channel within.0 (let high = within.1 in omega (arith, high))
      ∙ (ap (λ h. number_or_none (handler_told (program_of t).scope d h)) (package_is (program_of t).scope channel t.package_)
      ∙ ap (λ h. number_or_none (handler_told (program_of t).scope d h)) is)

  by_place : (channel : ℕ) → (channel < 1) ⊎ ((Within channel) ⊎ (1 + CHANNELS ≤ channel))
  by_place zero = inl (omega arith)
  by_place (suc n) = elim (order n CHANNELS) [ inl less ↦ inr (inl (omega arith, omega (arith, less))) | inr up ↦ inr (inr (omega (arith, up))) ]
    where
      order : (m n : ℕ) → (m < n) ⊎ (n ≤ m)
      order zero zero = inr (omega arith)
      order zero (suc n) = inl (omega arith)
      order (suc m) zero = inr (omega arith)
      order (suc m) (suc n) = ⊎_elim (λ less. inl (omega (arith, less))) (λ up. inr (omega (arith, up))) (order m n)

  -- and where there is none
  pub attached_none : (channel : ℕ) → handler_at channel (program_of t).handlers ≡ None → attached_to channel (attachments_of t d) ≡ None
  attached_none channel none =
      elim (by_place channel) [
        | inl less ↦ in_front (program_of t).scope d t.package_ CHANNELS 1 channel less
        | inr (inl within) ↦
            attached_there (program_of t).scope d t.package_ CHANNELS 1 channel within.0 (let high = within.1 in omega (arith, high))
            ∙ (ap (λ h. number_or_none (handler_told (program_of t).scope d h)) (package_is (program_of t).scope channel t.package_)
            ∙ ap (λ h. number_or_none (handler_told (program_of t).scope d h)) none)
        | inr (inr up) ↦ behind (program_of t).scope d t.package_ CHANNELS 1 channel up
      ]
