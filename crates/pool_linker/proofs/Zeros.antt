-- Bytes without the zeros at their end.
use Rattle.std.proofs.Common.{◌≡◌, ℕ, zero, suc, ◌+◌, ◌-◌, ◌<◌, ◌≤◌, ◌==◌, Bool, true, false, List, [], ◌∷◌, ◌++◌, length, get_or, take, replicate, refl, sym, ap, ◌∙◌, arith}
use Rattle.std.specs.Prelude.{if◌then◌else◌}
use Rattle.std.specs.List.{AllByRecursion}
use Rattle.std.proofs.lemmas.Bool.{eqb-true, ne_eqb}
use Rattle.std.proofs.lemmas.List.{take_more}
use Rattle.image_form.specs.Form.{EndsNonzero}
use Rattle.pool_linker.specs.Linking.{in_front, without_zeros}

-- ---- what is left of a list

front_all : (P : ℕ → Type 0) (byte : ℕ) (bytes : List ℕ) → P byte → AllByRecursion P bytes → AllByRecursion P (in_front byte bytes)
front_all P byte [] h hs = by (byte == 0)
  where
    by : (nothing : Bool) → AllByRecursion P (if nothing then [] else byte ∷ [])
    by true = tt
    by false = (h, tt)
front_all P byte (next ∷ bytes) h hs = (h, hs)

pub cut_all : (P : ℕ → Type 0) (bytes : List ℕ) → AllByRecursion P bytes → AllByRecursion P (without_zeros bytes)
cut_all P [] hs = tt
cut_all P (byte ∷ bytes) hs = front_all P byte (without_zeros bytes) hs.0 (cut_all P bytes hs.1)

front_short : (byte : ℕ) (bytes : List ℕ) → length (in_front byte bytes) ≤ suc (length bytes)
front_short byte [] = by (byte == 0)
  where
    by : (nothing : Bool) → length (if nothing then [] else byte ∷ []) ≤ 1
    by true = omega arith
    by false = omega arith
front_short byte (next ∷ bytes) = omega arith

pub cut_short : (bytes : List ℕ) → length (without_zeros bytes) ≤ length bytes
cut_short [] = omega arith
cut_short (byte ∷ bytes) = omega (arith, front_short byte (without_zeros bytes), cut_short bytes)

front_ends : (byte : ℕ) (bytes : List ℕ) → EndsNonzero bytes → EndsNonzero (in_front byte bytes)
front_ends byte [] ends = by (byte == 0) refl
  where
    by : (nothing : Bool) → (byte == 0) ≡ nothing → EndsNonzero (if nothing then [] else byte ∷ [])
    by true e = tt
    by false e = positive byte e
      where
        positive : (n : ℕ) → (n == 0) ≡ false → 0 < n
        positive zero e = absurd (cc)
        positive (suc n) e = omega arith
front_ends byte (next ∷ bytes) ends = ends

pub cut_ends : (bytes : List ℕ) → EndsNonzero (without_zeros bytes)
cut_ends [] = tt
cut_ends (byte ∷ bytes) = front_ends byte (without_zeros bytes) (cut_ends bytes)

-- ---- zeros that follow

front_filled : (byte m : ℕ) (bytes rest : List ℕ) → length bytes ≤ m → bytes ++ replicate (m - length bytes) 0 ≡ rest → in_front byte bytes ++ replicate (suc m - length (in_front byte bytes)) 0 ≡ byte ∷ rest
front_filled byte m [] rest le e = by (byte == 0) refl
  where
    by : (nothing : Bool) → (byte == 0) ≡ nothing → (if nothing then [] else byte ∷ []) ++ replicate (suc m - length (if nothing then [] else byte ∷ [])) 0 ≡ byte ∷ rest
    by true is =
        let long : suc m - 0 ≡ suc m = omega arith in
        let same : m ≡ m - 0 = omega arith in
        ap (λ n. replicate n 0) long ∙ (λ i. sym (eqb-true byte 0 is) i ∷ (ap (λ n. replicate n 0) same ∙ e) i)
    by false is =
        let long : suc m - 1 ≡ m - 0 = omega arith in
        ap (λ n. byte ∷ replicate n 0) long ∙ ap (λ l. byte ∷ l) e
front_filled byte m (next ∷ bytes) rest le e =
    let long : suc m - length (byte ∷ next ∷ bytes) ≡ m - length (next ∷ bytes) = omega arith in
    ap (λ n. byte ∷ next ∷ bytes ++ replicate n 0) long ∙ ap (λ l. byte ∷ l) e

-- filled up with zeros the bytes are as before
pub cut_filled : (bytes : List ℕ) (n : ℕ) → length bytes ≤ n → without_zeros bytes ++ replicate (n - length (without_zeros bytes)) 0 ≡ bytes ++ replicate (n - length bytes) 0
cut_filled [] n le = refl
cut_filled (byte ∷ bytes) zero le = absurd (omega (arith, le))
cut_filled (byte ∷ bytes) (suc m) le =
    let long : m - length bytes ≡ suc m - length (byte ∷ bytes) = omega arith in
    let rest = cut_filled bytes m (omega (arith, le)) in
    front_filled byte m (without_zeros bytes) (bytes ++ replicate (m - length bytes) 0) (omega (arith, le, cut_short bytes)) rest ∙ ap (λ k. byte ∷ bytes ++ replicate k 0) long

-- ---- from the end

cut_zero : (bytes : List ℕ) → without_zeros (bytes ++ 0 ∷ []) ≡ without_zeros bytes
cut_zero [] = refl
cut_zero (byte ∷ bytes) = ap (in_front byte) (cut_zero bytes)

front_more : (byte last : ℕ) (bytes : List ℕ) → in_front byte (bytes ++ last ∷ []) ≡ byte ∷ (bytes ++ last ∷ [])
front_more byte last [] = refl
front_more byte last (next ∷ bytes) = refl

cut_nothing : (bytes : List ℕ) (last : ℕ) → (last ≡ 0 → ⊥) → without_zeros (bytes ++ last ∷ []) ≡ bytes ++ last ∷ []
cut_nothing [] last more = ap (λ b. if b then [] else last ∷ []) (ne_eqb last 0 more)
cut_nothing (byte ∷ bytes) last more = ap (in_front byte) (cut_nothing bytes last more) ∙ front_more byte last bytes

-- a zero that stands last
pub one_fewer : (bytes : List ℕ) (count byte : ℕ) → 0 < count → count ≤ length bytes → byte ≡ get_or bytes (count - 1) byte → byte ≡ 0 → without_zeros (take count bytes) ≡ without_zeros (take (count - 1) bytes)
one_fewer bytes count byte some within is none =
    let same : count ≡ (count - 1) + 1 = omega (arith, some) in
    ap (λ n. without_zeros (take n bytes)) same
    ∙ ap without_zeros (take_more bytes (count - 1) byte (omega (arith, some, within)))
    ∙ ap (λ last. without_zeros (take (count - 1) bytes ++ last ∷ [])) (sym is ∙ none)
    ∙ cut_zero (take (count - 1) bytes)

-- another byte that stands last
pub no_fewer : (bytes : List ℕ) (count byte : ℕ) → 0 < count → count ≤ length bytes → byte ≡ get_or bytes (count - 1) byte → (byte ≡ 0 → ⊥) → take count bytes ≡ without_zeros (take count bytes)
no_fewer bytes count byte some within is more =
    let same : count ≡ (count - 1) + 1 = omega (arith, some) in
    let front : take count bytes ≡ take (count - 1) bytes ++ byte ∷ [] =
    ap (λ n. take n bytes) same ∙ take_more bytes (count - 1) byte (omega (arith, some, within)) ∙ ap (λ last. take (count - 1) bytes ++ last ∷ []) (sym is) in
    front ∙ sym (cut_nothing (take (count - 1) bytes) byte more) ∙ ap without_zeros (sym front)

pub nothing_left : (bytes : List ℕ) (count : ℕ) → count ≤ 0 → take count bytes ≡ without_zeros (take count bytes)
nothing_left bytes zero none = refl
nothing_left bytes (suc count) none = absurd (omega (arith, none))
