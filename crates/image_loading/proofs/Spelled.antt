-- What is read off bytes is what they spell.
use Rattle.std.proofs.Common.{◌≡◌, ℕ, zero, suc, ◌+◌, ◌^◌, ◌<◌, ◌≤◌, List, [], ◌∷◌, ◌++◌, length, take, drop, get_or, Bool, true, false, cond, Option, Some, None, refl, sym, ap, ◌∙◌, subst, arith, inl, inr, append_assoc, length-drop, length-take}
use Rattle.std.specs.Prelude.{nat_lt, flat_map}
use Rattle.std.specs.Int.{cast_signed, from_be_bytes, w16, w64}
use Rattle.std.proofs.lemmas.Bool.{cases_lt, ltb-false}
use Rattle.std.proofs.lemmas.Int.{of_z-to_z}
use Rattle.std.proofs.lemmas.List.{take-append-drop, get_or-drop, get_or-take, get_or_past}
use Rattle.std.proofs.lemmas.List.Concat.{flat_map-cons}
use Rattle.std.proofs.lemmas.Nat.{be_bytes_2, be_bytes_8}
use Rattle.image_format.specs.Bytes.{half, word}
use Rattle.image_loading.specs.Reading.{ByteReading, and_then, byte_at, half_at, made, read_bytes, read_many, word_at}
use Rattle.image.specs.RuleLaws.{drop-next}

abbrev pub IsBytes : List ℕ → Type 0
IsBytes bytes = (i : ℕ) → get_or bytes i 0 < 256

pub bytes_dropped : (n : ℕ) (bytes : List ℕ) → IsBytes bytes → IsBytes (drop n bytes)
bytes_dropped n bytes h i = rw get_or-drop (h (n + i))

pub bytes_taken : (n : ℕ) (bytes : List ℕ) → IsBytes bytes → IsBytes (take n bytes)
bytes_taken n bytes h i =
    elim (cases_lt i n) [
      | inl lt ↦ rw (get_or-take n bytes i 0 lt) (h i)
      | inr le ↦ rw (get_or_past (take n bytes) i 0 (omega (arith, length-take n bytes))) (omega arith)
    ]

-- Numbers at the front

pub half_front : (l : List ℕ) → IsBytes l → 2 ≤ length l → half (from_be_bytes w16 l) ++ drop 2 l ≡ l
unfolding half
half_front [] fits le = absurd (omega arith)
half_front (a ∷ []) fits le = absurd (omega arith)
half_front (a ∷ b ∷ l) fits le = ap (λ t. t ++ l) (be_bytes_2 (a ∷ b ∷ []) (from_be_bytes w16 (a ∷ b ∷ l)) refl (bytes_taken 2 (a ∷ b ∷ l) fits) refl)

pub word_front : (l : List ℕ) → IsBytes l → 8 ≤ length l → word (cast_signed w64 (from_be_bytes w64 l)) ++ drop 8 l ≡ l
unfolding word
word_front [] fits le = absurd (omega arith)
word_front (a ∷ []) fits le = absurd (omega arith)
word_front (a ∷ b ∷ []) fits le = absurd (omega arith)
word_front (a ∷ b ∷ c ∷ []) fits le = absurd (omega arith)
word_front (a ∷ b ∷ c ∷ d ∷ []) fits le = absurd (omega arith)
word_front (a ∷ b ∷ c ∷ d ∷ e ∷ []) fits le = absurd (omega arith)
word_front (a ∷ b ∷ c ∷ d ∷ e ∷ f ∷ []) fits le = absurd (omega arith)
word_front (a ∷ b ∷ c ∷ d ∷ e ∷ f ∷ g ∷ []) fits le = absurd (omega arith)
word_front (a ∷ b ∷ c ∷ d ∷ e ∷ f ∷ g ∷ h ∷ l) fits le =
    let n = from_be_bytes w64 (a ∷ b ∷ c ∷ d ∷ e ∷ f ∷ g ∷ h ∷ l) in
    let small : n < 2 ^ 64 = omega (arith, fits 0, fits 1, fits 2, fits 3, fits 4, fits 5, fits 6, fits 7) in
    ap (λ m. Rattle.byteorder.specs.Endian.big_bytes 8 m ++ l) (of_z-to_z w64 n small)
    ∙ ap (λ t. t ++ l) (be_bytes_8 (a ∷ b ∷ c ∷ d ∷ e ∷ f ∷ g ∷ h ∷ []) n refl (bytes_taken 8 (a ∷ b ∷ c ∷ d ∷ e ∷ f ∷ g ∷ h ∷ l) fits) refl)

drop_none : {X : Type 0} (m : ℕ) → drop {A = X} m [] ≡ []
drop_none zero = refl
drop_none (suc m) = refl

drop_more : {X : Type 0} (m n : ℕ) (l : List X) → drop m (drop n l) ≡ drop (n + m) l
drop_more m zero l = let e : 0 + m ≡ m = omega arith in rw e refl
drop_more m (suc n) [] = drop_none m ∙ sym (drop_none (suc n + m))
drop_more m (suc n) (x ∷ l) = let e : suc n + m ≡ suc (n + m) = omega arith in rw e (drop_more m n l)

-- at a byte of a row
pub half_step : (row : List ℕ) (k m : ℕ) → m ≡ k + 2 → IsBytes row → m ≤ length row → half (half_at row k) ++ drop m row ≡ drop k row
unfolding half_at
half_step row k m is fits le =
    let l = drop k row in
    let same : drop m row ≡ drop 2 l = ap (λ v. drop v row) is ∙ sym (drop_more 2 k row) in
    ap (λ t. half (from_be_bytes w16 l) ++ t) same ∙ half_front l (bytes_dropped k row fits) (omega (arith, length-drop k row))

pub word_step : (row : List ℕ) (k m : ℕ) → m ≡ k + 8 → IsBytes row → m ≤ length row → word (word_at row k) ++ drop m row ≡ drop k row
unfolding word_at
word_step row k m is fits le =
    let l = drop k row in
    let same : drop m row ≡ drop 8 l = ap (λ v. drop v row) is ∙ sym (drop_more 8 k row) in
    ap (λ t. word (cast_signed w64 (from_be_bytes w64 l)) ++ t) same ∙ word_front l (bytes_dropped k row fits) (omega (arith, length-drop k row))

pub byte_step : (row : List ℕ) (k : ℕ) → k < length row → byte_at row k ∷ drop (k + 1) row ≡ drop k row
unfolding byte_at
byte_step row k lt = sym (drop-next row k 0 lt)

pub take_all : {X : Type 0} (xs : List X) → take (length xs) xs ≡ xs
take_all [] = refl
take_all (x ∷ xs) = ap (λ ys. x ∷ ys) (take_all xs)

-- What a reader takes

pub some_pair : {X : Type 0} (a b : X × List ℕ) → Some a ≡ Some b → a ≡ b
some_pair a b e = cc

pub bound : {X Y : Type 0} (r : Option (X × List ℕ)) (f : X → ByteReading Y) (y : Y × List ℕ) → and_then r f ≡ Some y → (x : X × List ℕ) × (r ≡ Some x) × (f x.0 x.1 ≡ Some y)
bound None f y e = absurd cc
bound (Some x) f y e = (x, refl, e)

pub made_of : {X Y : Type 0} (r : Option (X × List ℕ)) (g : X → Y) (y : Y × List ℕ) → made g r ≡ Some y → (x : X × List ℕ) × (r ≡ Some x) × ((g x.0, x.1) ≡ y)
made_of None g y e = absurd cc
made_of (Some x) g y e = (x, refl, some_pair (g x.0, x.1) y e)

-- bytes are a text and what stands behind it
pub record Spells (bytes front behind : List ℕ) : Type 0 where
  pub parts : bytes ≡ front ++ behind
  pub fits : IsBytes behind

pub record Piece (n : ℕ) (bytes row behind : List ℕ) : Type 0 where
  pub spells : Spells bytes row behind
  pub long : length row ≡ n
  pub row_fits : IsBytes row

pub piece_read : (n : ℕ) (bytes : List ℕ) (x : List ℕ × List ℕ) → IsBytes bytes → read_bytes n bytes ≡ Some x → Piece n bytes x.0 x.1
unfolding read_bytes
piece_read n bytes x fits e = pieces (nat_lt (length bytes) n) refl e
  where
    pieces : (b : Bool) → nat_lt (length bytes) n ≡ b → cond b None (Some (take n bytes, drop n bytes)) ≡ Some x → Piece n bytes x.0 x.1
    pieces true is e = absurd cc
    pieces false is e =
        let le : n ≤ length bytes = ltb-false (length bytes) n is in
        subst (λ p. Piece n bytes p.0 p.1) (some_pair (take n bytes, drop n bytes) x e)
        (record { spells = record { parts = sym (take-append-drop n bytes); fits = bytes_dropped n bytes fits }; long = omega (arith, length-take n bytes); row_fits = bytes_taken n bytes fits })

pub spells_then : (a x b y c : List ℕ) → Spells a x b → Spells b y c → Spells a (x ++ y) c
spells_then a x b y c p q = record { parts = p.parts ∙ ap (λ t. x ++ t) q.parts ∙ sym (append_assoc x y c); fits = q.fits }

pub spells_as : (a x y b : List ℕ) → x ≡ y → Spells a x b → Spells a y b
spells_as a x y b e s = subst (λ v. Spells a v b) e s

-- a reader reads what is spelled so
abbrev pub Reads : {X : Type 0} → ByteReading X → (X → List ℕ) → Type 0
Reads {X = X} read spell = (bytes : List ℕ) (x : X × List ℕ) → IsBytes bytes → read bytes ≡ Some x → Spells bytes (spell x.0) x.1

pub many_read : {X : Type 0} (read : ByteReading X) (spell : X → List ℕ) → Reads read spell → (n : ℕ) (bytes : List ℕ) (x : List X × List ℕ) → IsBytes bytes → read_many read n bytes ≡ Some x → Spells bytes (flat_map spell x.0) x.1 × (length x.0 ≡ n)
unfolding read_many
many_read {X = X} read spell reads zero bytes x fits e =
    subst (λ p. Spells bytes (flat_map spell p.0) p.1 × (length p.0 ≡ 0)) (some_pair ([], bytes) x e) (record { parts = refl; fits = fits }, refl)
many_read {X = X} read spell reads (suc n) bytes x fits e =
    let a = bound (read bytes) (λ y left. made (λ ys. y ∷ ys) (read_many read n left)) x e in
    let b = made_of (read_many read n a.0.1) (λ ys. a.0.0 ∷ ys) x a.2 in
    let first = reads bytes a.0 fits a.1 in
    let rest = many_read read spell reads n a.0.1 b.0 first.fits b.1 in
    let and_parts = spells_then bytes (spell a.0.0) a.0.1 (flat_map spell b.0.0) b.0.1 first rest.0 in
    subst (λ p. Spells bytes (flat_map spell p.0) p.1 × (length p.0 ≡ suc n)) b.2 (rw flat_map-cons and_parts, ap suc rest.1)
