-- Names and the numbers that stand for them.
use Rattle.std.proofs.Common.{◌≡◌, ℕ, suc, ◌≤◌, ◌==◌, Bool, true, false, if◌then◌else◌, List, [], ◌∷◌, Some, refl, sym, ap, ◌∙◌, eq-eqb, ne_eqb, arith}
use Rattle.std.proofs.lemmas.Bool.{true≢false}
use Rattle.std.proofs.lemmas.Slice.Eq.{bytes_eq-Decides}
use Rattle.std.specs.Prelude.{bytes_eq}
use Rattle.c_typed.specs.Typed.{FunctionDef}
use Rattle.tac_build.specs.Code.{function_number}

-- a function's number is not below the first
number_least : (from n : ℕ) (functions : List FunctionDef) (name : List ℕ) → function_number from functions name ≡ Some n → from ≤ n
number_least from n [] name e = absurd (cc)
number_least from n (first ∷ others) name e = by (bytes_eq first.name name) e (number_least (suc from) n others name)
  where
    by : (b : Bool) → (if b then Some from else function_number (suc from) others name) ≡ Some n → (function_number (suc from) others name ≡ Some n → suc from ≤ n) → from ≤ n
    by true e later = let same : from ≡ n = cc in omega (arith, same)
    by false e later = let more = later e in omega (arith, more)

-- functions of one number have one name
pub one_name : (from n : ℕ) (functions : List FunctionDef) (a b : List ℕ) → function_number from functions a ≡ Some n → function_number from functions b ≡ Some n → a ≡ b
one_name from n [] a b e e' = absurd (cc)
one_name from n (first ∷ others) a b e e' = by (bytes_eq first.name a) refl (bytes_eq first.name b) refl e e' (one_name (suc from) n others a b)
  where
    by : (x : Bool) → bytes_eq first.name a ≡ x → (y : Bool) → bytes_eq first.name b ≡ y → (if x then Some from else function_number (suc from) others a) ≡ Some n
        → (if y then Some from else function_number (suc from) others b) ≡ Some n → (function_number (suc from) others a ≡ Some n → function_number (suc from) others b ≡ Some n → a ≡ b) → a ≡ b
    by true x true y e e' later = sym ((bytes_eq-Decides first.name a).0 x) ∙ (bytes_eq-Decides first.name b).0 y
    by true x false y e e' later = let same : from ≡ n = cc in let more = number_least (suc from) n others b e' in absurd (omega (arith, same, more))
    by false x true y e e' later = let same : from ≡ n = cc in let more = number_least (suc from) n others a e in absurd (omega (arith, same, more))
    by false x false y e e' later = later e e'

-- two functions are the same where their numbers are
pub same_numbers : (functions : List FunctionDef) (a b : List ℕ) (m n : ℕ) → function_number 0 functions a ≡ Some m → function_number 0 functions b ≡ Some n → (m == n) ≡ bytes_eq a b
same_numbers functions a b m n e e' = by (bytes_eq a b) refl
  where
    differ : bytes_eq a b ≡ false → (m ≡ n → ⊥)
    differ apart same = true≢false (sym ((bytes_eq-Decides a b).1 (one_name 0 n functions a b (e ∙ ap Some same) e')) ∙ apart)

    by : (x : Bool) → bytes_eq a b ≡ x → (m == n) ≡ x
    by true x =
        let same = (bytes_eq-Decides a b).0 x in
        let numbers : Some m ≡ Some n = sym e ∙ ap (function_number 0 functions) same ∙ e' in
        eq-eqb m n (cc)
    by false x = ne_eqb m n (differ x)
