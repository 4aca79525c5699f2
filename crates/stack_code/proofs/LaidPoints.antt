-- The points of a function, laid out one behind another.
use Rattle.std.proofs.Common.{◌≡◌, ℕ, ◌+◌, ◌<◌, ◌≤◌, List, ◌++◌, Some, length, map, take, sym, ap, subst, ◌∙◌, arith, append_assoc, length-append, add-one}
use Rattle.std.specs.Prelude.{slice_get, slice_index, option_map, replicate}
use Rattle.std.proofs.Math.ListN.{get_or}
use Rattle.std.proofs.lemmas.List.{length-map, take_all}
use Rattle.std.proofs.lemmas.Option.{slice_get-map, slice_get-get_or, slice_get_within}
use Rattle.pool_isa.specs.declared.instr.Instr.{Instr}
use Rattle.pool_ir.specs.Code.{Op, Function}
use Rattle.pool_ir.specs.Views.{op_of}
use Rattle.pool_ir.specs.declared.op.Op as memory_op
use Rattle.stack_code.specs.Emitting.{opening, block, blocks, place_of, function_code}
use Rattle.stack_code.specs.Fits.{NamesFit, PointFits, UnitFits, ArePlaces}
use Rattle.stack_code.proofs.PointBlocks.{blocks_more, blocks_alike}
use Rattle.stack_code.proofs.PlaceTables.{nowhere}

pub get_at : {M A : Type 0} (view : M → A) (parts : List M) (i : ℕ) (x d : M) → i < length parts → x ≡ get_or parts i d → slice_get (map view parts) i ≡ Some (view x)
get_at view parts i x d within is = slice_get-map view parts i ∙ ap (option_map view) (slice_get-get_or parts i d within ∙ ap Some (sym is))

module _ (function : Function) (points : List memory_op.Op) (own : function.points ≡ map op_of points) (fits : UnitFits function) (number : ℕ) where
  abbrev ops : List Op
  ops = map op_of points

  pub point_at : (op d : memory_op.Op) → number < length points → op ≡ get_or points number d → PointFits function number (op_of op)
  point_at op d within is = fits.points number (op_of op) (ap (λ list. slice_get list number) own ∙ get_at op_of points number op d within is)

  pub names_at : (op d : memory_op.Op) (count : ℕ) → count ≡ length points → number < length points → op ≡ get_or points number d → NamesFit count number (op_of op)
  names_at op d count as_many within is =
      let all : length function.points ≡ count = ap length own ∙ length-map points op_of ∙ sym as_many in
      subst (λ n. NamesFit n number (op_of op)) all (point_at op d within is).names

  -- one block more
  pub block_further : (place : ℕ → ℕ) (op d : memory_op.Op) (code further front : List Instr) → number < length points → op ≡ get_or points number d → code ≡ front ++ blocks place function 0 (take number ops)
      → further ≡ code ++ block place function number (op_of op) → further ≡ front ++ blocks place function 0 (take (number + 1) ops)
  block_further place op d code further front within is before one =
      one ∙ ap (λ c. c ++ block place function number (op_of op)) before ∙ append_assoc front (blocks place function 0 (take number ops)) (block place function number (op_of op))
      ∙ ap (λ c. front ++ c) (sym (blocks_more place function 0 ops number number (op_of op) (get_at op_of points number op d within is) (omega arith)) ∙ ap (λ n. blocks place function 0 (take n ops)) (sym (add-one number)))

  -- all blocks, at their places
  pub all_blocks : (places : List ℕ) (code : List Instr) → ArePlaces function places → length points ≤ number → code ≡ opening function ++ blocks (slice_index places) function 0 (take number ops)
      → code ≡ function_code function
  all_blocks places code are past before =
      let none : take number ops ≡ function.points = take_all number ops (omega (arith, length-map points op_of)) ∙ sym own in
      before ∙ ap (λ list. opening function ++ blocks (slice_index places) function 0 list) none
      ∙ ap (λ b. opening function ++ b) (blocks_alike (slice_index places) (place_of function) function (length function.points) are.each 0 function.points named)
    where
      named : (k at : ℕ) (op : Op) → slice_get function.points k ≡ Some op → at ≡ 0 + k → (at < length function.points) × NamesFit (length function.points) at op
      named k at op is there =
          let same : k ≡ at = omega arith in
          let found = subst (λ n. slice_get function.points n ≡ Some op) same is in
          (slice_get_within function.points at op found, (fits.points at op found).names)

  -- where the next block begins, when blocks were laid out nowhere
  pub next_place : (count : ℕ) (table : List ℕ) (code : List Instr) → table ≡ replicate count 0 → code ≡ opening function ++ blocks (slice_index table) function 0 (take number ops)
      → length code ≡ place_of function number
  next_place count table code zeros before =
      let same : slice_index table ≡ (λ _. 0) = λ i k. (ap (λ t. slice_index t k) zeros ∙ nowhere count k) i in
      ap length before ∙ ap (λ place. length (opening function ++ blocks place function 0 (take number ops))) same
      ∙ length-append (opening function) (blocks (λ _. 0) function 0 (take number ops))
      ∙ ap (λ list. length (opening function) + length (blocks (λ _. 0) function 0 (take number list))) (sym own)
