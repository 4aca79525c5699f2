-- Sums that are cut off at a greatest number, and elements of a row.
use Rattle.std.proofs.Common.{◌≡◌, ℕ, suc, ◌+◌, ◌-◌, ◌*◌, ◌/◌, ◌<◌, ◌≤◌, min, arith, mul-le-mul_right}
use Rattle.std.proofs.Math.Nat.{lt-div-mul-add}
use Rattle.c_typed.specs.Layouts.{aligned}

module _ (greatest : ℕ) where
  pub cut_same : (n : ℕ) → min n greatest < greatest → min n greatest ≡ n
  cut_same n h = omega arith

  -- more than what is below it
  pub cut_above : (front n : ℕ) → front ≤ n → min n greatest < greatest → front ≤ min n greatest
  cut_above front n le h = omega arith

  pub both_same : (n own : ℕ) → min (min n greatest + own) greatest < greatest → min (min n greatest + own) greatest ≡ min n greatest + own
  both_same n own h = omega arith

  pub both_above : (front n own : ℕ) → front ≤ n → min (min n greatest + own) greatest < greatest → front ≤ min (min n greatest + own) greatest
  both_above front n own le h = omega arith

-- an alignment puts nothing lower
pub aligned_above : (alignment n : ℕ) → 1 ≤ alignment → n ≤ aligned alignment n
aligned_above alignment n one =
    let within = lt-div-mul-add {a = n + alignment - 1} {b = alignment} one in
    apart ((n + alignment - 1) / alignment * alignment) within
  where
    apart : (whole : ℕ) → n + alignment - 1 < whole + alignment → n ≤ whole
    apart whole lt = omega arith

-- an element ends within its row
pub element_ends : (size count index end : ℕ) → index < count → end ≤ size → index * size + end ≤ count * size
element_ends size count index end lt le =
    let whole : suc index * size ≤ count * size = mul-le-mul_right size lt in
    omega (arith, whole)

-- and before the next ones
pub element_before : (size first second end : ℕ) → first < second → end ≤ size → (own : ℕ) → first * size + end ≤ second * size + own
element_before size first second end lt le own =
    let whole = element_ends size second first end lt le in
    omega (arith, whole)

-- an element is no greater than its row
pub element_size : (size count index : ℕ) → index < count → size ≤ count * size
element_size size count index lt =
    let whole = element_ends size count index size lt (omega arith) in
    omega (arith, whole)
