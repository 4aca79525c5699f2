-- A word that stands for a value does so modulo 2 ^ 64, as registers hold it: integers, functions and places in objects that are there have
-- words below that; a pointer to an object that isn't there may have any word.
use Rattle.std.proofs.Common.{◌≡◌, ℕ, ◌+◌, ◌%◌, ◌^◌, ◌<◌, ◌≤◌, sym, ap, subst, ◌∙◌, arith}
use Rattle.std.specs.Prelude.{List}
use Rattle.std.proofs.lemmas.Option.{same_Some}
use Rattle.c_num.specs.declared.IntType.TheVariants as I
use Rattle.c_num.proofs.Conversions.{word_below}
use Rattle.c_typed.specs.Layouts.{StructDef}
use Rattle.tac_ir.specs.Values.{Value, Number, NoAddress, Code, Address, Objects}
use Rattle.tac_ir.specs.Objects.{extent_of}
use Rattle.pool_ir.specs.Meaning as M
use Rattle.pool_rewrite.specs.Standing.{MemoryMap, Stands}
use Rattle.pool_simulation.specs.Placed.{KeepsOffsets, addresses_end, Placed, IsInside}

pub narrow : (word : ℕ) → word < 2 ^ 64 → word % 2 ^ 64 ≡ word
narrow word less = omega (arith, less)

place_narrow : (start extent offset : ℕ) → start + extent ≤ addresses_end → offset ≤ extent → start + offset < 2 ^ 64
place_narrow start extent offset end inside = omega (arith, end, inside)

function_narrow : (function : ℕ) → function < 2 ^ 47 → M.function_word function < 2 ^ 64
function_narrow function few = omega (arith, few)

module _ (structs : List StructDef) (objects : Objects) (memory : MemoryMap) (keeps : KeepsOffsets memory) (placed : Placed structs memory objects) where
  pub narrow_stands : (value : Value) (word : ℕ) → Stands objects memory value word → IsInside structs objects value → Stands objects memory value (word % 2 ^ 64)
  narrow_stands (Number z) word stands inside = narrow word (subst (λ (n : ℕ). n < 2 ^ 64) (sym stands) (word_below I.ULong z)) ∙ stands
  narrow_stands NoAddress word stands inside = ap (λ (n : ℕ). n % 2 ^ 64) stands
  narrow_stands (Code function) word stands inside = narrow word (subst (λ (n : ℕ). n < 2 ^ 64) (sym stands) (function_narrow function inside)) ∙ stands
  narrow_stands (Address object offset) word stands inside = λ there.
      let own = stands there in
      let at = placed.there object there in
      let same : own.0 ≡ at.0 = same_Some own.0 at.0 (sym own.1 ∙ at.1) in
      let place : word ≡ own.0 + offset = own.2 ∙ ap (λ (n : ℕ). own.0 + n) (keeps object offset) in
      let less = place_narrow at.0 (extent_of structs (objects object)) offset at.3 (inside there) in
      (own.0, own.1, narrow word (subst (λ (n : ℕ). n < 2 ^ 64) (sym (place ∙ ap (λ (n : ℕ). n + offset) same)) less) ∙ own.2)
