-- A text that is written part by part.
use Rattle.std.proofs.Common.{◌≡◌, ℕ, List, [], ◌++◌, Option, Result, Ok, Err, OnOk, OnErr, refl, sym, ap, subst, ◌∙◌, append_assoc, append-nil}
use Rattle.std.specs.Io.KnownBytes.{Appends}
use Rattle.machine.specs.Written.{AppendsBeginning}
use Rattle.machine.proofs.Runs.{appends_nothing, appends_two, beginning_after, beginning_of_more}

-- a part of the whole was written, the rest is left, and nothing has failed
pub record Parts (old new : Option (List ℕ)) (before after : ℕ) (whole rest : List ℕ) : Type 0 where
  pub part : List ℕ
  pub whole_is : whole ≡ part ++ rest
  pub appended : Appends old new part
  pub kept : after ≡ before

pub nothing_written : (old : Option (List ℕ)) (before : ℕ) (whole : List ℕ) → Parts old old before before whole whole
nothing_written old before whole = record { part = []; whole_is = refl; appended = appends_nothing old; kept = refl }

module _ (old new : Option (List ℕ)) (before after : ℕ) (whole rest : List ℕ) (w : Parts old new before after whole rest) where
  pub all_written : rest ≡ [] → Appends old new whole
  all_written is = subst (Appends old new) (sym (w.whole_is ∙ ap (λ v. w.part ++ v) is ∙ append-nil w.part)) w.appended

  module _ (piece more : List ℕ) (is : rest ≡ piece ++ more) (later : Option (List ℕ)) where
    split : whole ≡ (w.part ++ piece) ++ more
    split = w.whole_is ∙ ap (λ v. w.part ++ v) is ∙ sym (append_assoc w.part piece more)

    pub one_more : (count : ℕ) → Appends new later piece → count ≡ after → Parts old later before count whole more
    one_more count app same =
        record { part = w.part ++ piece; whole_is = split; appended = appends_two old new later w.part piece w.appended app; kept = same ∙ w.kept }

    pub broken : AppendsBeginning new later piece → AppendsBeginning old later whole
    broken begun =
        subst (AppendsBeginning old later) (sym split) (beginning_of_more old later (w.part ++ piece) more (beginning_after old new later w.part piece w.appended begun))

-- a text of two parts

pub first_begun : (old new : Option (List ℕ)) (whole first last : List ℕ) → whole ≡ first ++ last → AppendsBeginning old new first → AppendsBeginning old new whole
first_begun old new whole first last is p = subst (AppendsBeginning old new) (sym is) (beginning_of_more old new first last p)

module _ (old middle new : Option (List ℕ)) (whole first last : List ℕ) (is : whole ≡ first ++ last) (p : Appends old middle first) where
  pub both : Appends middle new last → Appends old new whole
  both q = subst (Appends old new) (sym is) (appends_two old middle new first last p q)

  pub last_begun : AppendsBeginning middle new last → AppendsBeginning old new whole
  last_begun q = subst (AppendsBeginning old new) (sym is) (beginning_after old middle new first last p q)

-- what holds where a result is a value, or an error

pub on_ok : {A E : Type 0} (r : Result A E) (P Q : Type 0) → (P → Q) → OnOk r P → OnOk r Q
on_ok (Ok a) P Q f p = f p
on_ok (Err e) P Q f p = p

pub on_err : {A E : Type 0} (r : Result A E) (P Q : Type 0) → (P → Q) → OnErr r P → OnErr r Q
on_err (Ok a) P Q f p = p
on_err (Err e) P Q f p = f p

pub also_on_err : {A E : Type 0} (r : Result A E) (Q : Type 0) → Q → OnErr r Q
also_on_err (Ok a) Q q = tt
also_on_err (Err e) Q q = q
