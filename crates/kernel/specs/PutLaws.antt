-- Laws of a function changed at one place, for proofs here and above.
use Rattle.std.proofs.Common.{◌≡◌, ◌≢◌, ◌⊎◌, inl, inr, ℕ, Bool, true, false, cond, eqb, refl, sym, ap, ◌∙◌, subst, ⊎_elim}
use Rattle.std.proofs.lemmas.Bool.Decides.{eqb_tells}
use Rattle.kernel.specs.State.{put}

pub same_or_not : (u t : ℕ) → (u ≡ t) ⊎ (u ≢ t)
same_or_not u t = ⊎_elim (λ h. inl h.1) (λ h. inr h.1) (eqb_tells u t)

pub eqb_same : (u t : ℕ) → u ≡ t → eqb u t ≡ true
eqb_same u t e = ⊎_elim (λ h. h.0) (λ h. absurd (h.1 e)) (eqb_tells u t)

pub eqb_other : (u t : ℕ) → u ≢ t → eqb u t ≡ false
eqb_other u t ne = ⊎_elim (λ h. absurd (ne h.1)) (λ h. h.0) (eqb_tells u t)

pub put_same : {T : Type 0} (t u : ℕ) (x : T) (f : ℕ → T) → u ≡ t → put t x f u ≡ x
put_same t u x f e = ap (λ b. cond b x (f u)) (eqb_same u t e)

pub put_other : {T : Type 0} (t u : ℕ) (x : T) (f : ℕ → T) → u ≢ t → put t x f u ≡ f u
put_other t u x f ne = ap (λ b. cond b x (f u)) (eqb_other u t ne)

twice : {T : Type 0} (b : Bool) (x y z : T) → cond b x (cond b y z) ≡ cond b x z
twice true x y z = refl
twice false x y z = refl

pub put_put : {T : Type 0} (t : ℕ) (x y : T) (f : ℕ → T) (u : ℕ) → put t x (put t y f) u ≡ put t x f u
put_put t x y f u = twice (eqb u t) x y (f u)

pub put_self : {T : Type 0} (t : ℕ) (f : ℕ → T) (u : ℕ) → put t (f t) f u ≡ f u
put_self t f u = ⊎_elim (λ e. put_same t u (f t) f e ∙ ap f (sym e)) (λ ne. put_other t u (f t) f ne) (same_or_not u t)

-- what holds of the new value at t and of the old ones elsewhere holds everywhere
pub by_put : {T : Type 0} (P : T → Type 0) (t u : ℕ) (x : T) (f : ℕ → T) → (u ≡ t → P x) → (u ≢ t → P (f u)) → P (put t x f u)
by_put P t u x f same other =
    ⊎_elim
    (λ e. subst P (sym (put_same t u x f e)) (same e))
    (λ ne. subst P (sym (put_other t u x f ne)) (other ne))
    (same_or_not u t)

-- what follows from a fact about the value at a place, by whether the place is t
pub of_put : {T : Type 0} (P : T → Type 0) (Q : Type 0) (t u : ℕ) (x : T) (f : ℕ → T) → P (put t x f u) → (u ≡ t → P x → Q) → (u ≢ t → P (f u) → Q) → Q
of_put P Q t u x f h same other =
    ⊎_elim
    (λ e. same e (subst P (put_same t u x f e) h))
    (λ ne. other ne (subst P (put_other t u x f ne) h))
    (same_or_not u t)
