-- The blocks of points: those through a point, and those at places that are alike where points are named.
use Rattle.std.proofs.Common.{◌≡◌, ℕ, zero, suc, ◌+◌, ◌<◌, List, [], ◌∷◌, ◌++◌, Some, length, take, refl, sym, ap, ap₂, ◌∙◌, arith, append_assoc}
use Rattle.std.specs.Prelude.{slice_get, if◌then◌else◌, ◌==◌}
use Rattle.std.proofs.lemmas.List.{append-nil}
use Rattle.pool_isa.specs.declared.instr.Instr.{Instr}
use Rattle.pool_isa.specs.declared.instr.Instr.TheVariants as instrs
use Rattle.pool_ir.specs.Code.{Op, Function}
use Rattle.pool_ir.specs.Code as O
use Rattle.stack_code.specs.Emitting.{edge_code, way_at_zero, preparing, finishing, block, blocks}
use Rattle.stack_code.specs.Fits.{NamesFit}

-- the blocks through a point
pub blocks_more : (place : ℕ → ℕ) (function : Function) (number : ℕ) (ops : List Op) (k at : ℕ) (op : Op) → slice_get ops k ≡ Some op → at ≡ number + k
    → blocks place function number (take (suc k) ops) ≡ blocks place function number (take k ops) ++ block place function at op
blocks_more place function number [] k at op is there = absurd (cc)
blocks_more place function number (x ∷ ops) zero at op is there =
    let same : x ≡ op = cc in
    let here : number ≡ at = omega arith in
    append-nil (block place function number x) ∙ ap₂ (λ o n. block place function n o) same here
blocks_more place function number (x ∷ ops) (suc k) at op is there =
    let own = block place function number x in
    ap (λ b. own ++ b) (blocks_more place function (suc number) ops k at op is (omega arith))
    ∙ sym (append_assoc own (blocks place function (suc number) (take k ops)) (block place function at op))

module _ (p q : ℕ → ℕ) (function : Function) (points : ℕ) (alike : (k : ℕ) → k < points → p k ≡ q k) where
  zero_alike : (from to front : ℕ) (actions : List Instr) → p from ≡ q from → p to ≡ q to → way_at_zero p from to front actions ≡ way_at_zero q from to front actions
  zero_alike from to front [] e e' = ap (λ t. instrs.JumpIfZero t ∷ []) e'
  zero_alike from to front (x ∷ actions) e e' =
      ap₂ (λ a t. instrs.JumpIfNotZero (a + (front + (length (x ∷ actions) + 2))) ∷ (x ∷ actions) ++ instrs.Jump t ∷ []) e e'

  finishing_alike : (number : ℕ) (op : Op) → number < points → NamesFit points number op → finishing p function number op ≡ finishing q function number op
  finishing_alike number (O.Jump to) within named = ap (λ t. edge_code function number to ++ instrs.Jump t ∷ []) (alike to named)
  finishing_alike number (O.Branch int_type condition holds fails) within named =
      let front = length (preparing function (O.Branch int_type condition holds fails)) in
      ap₂ (λ (a b : List Instr). a ++ b)
      (zero_alike number fails front (edge_code function number fails) (alike number within) (alike fails named.1))
      (ap (λ t. edge_code function number holds ++ (if holds == suc number then [] else instrs.Jump t ∷ [])) (alike holds named.0))
  finishing_alike number O.Reserved within named = refl
  finishing_alike number (O.Assign to tree) within named = refl
  finishing_alike number (O.Null to) within named = refl
  finishing_alike number (O.FunctionAddress to other) within named = refl
  finishing_alike number (O.Copy to from) within named = refl
  finishing_alike number (O.Test to pointer) within named = refl
  finishing_alike number (O.Move to pointer size is_minus count) within named = refl
  finishing_alike number (O.Difference to size left right) within named = refl
  finishing_alike number (O.ComparePointers to relation left right) within named = refl
  finishing_alike number (O.AddressOf to path) within named = refl
  finishing_alike number (O.Load to slot path) within named = refl
  finishing_alike number (O.Store path slot value) within named = refl
  finishing_alike number (O.Allocate site size pool) within named = refl
  finishing_alike number (O.Free site pointer pool) within named = refl
  finishing_alike number (O.Call site callee arguments pools) within named = refl
  finishing_alike number (O.GetChar site) within named = refl
  finishing_alike number (O.PutChar site value) within named = refl
  finishing_alike number (O.Exit status) within named = refl
  finishing_alike number (O.Return value) within named = refl

  -- blocks at places that are alike where points are named
  pub blocks_alike : (number : ℕ) (ops : List Op) → ((k at : ℕ) (op : Op) → slice_get ops k ≡ Some op → at ≡ number + k → (at < points) × NamesFit points at op)
      → blocks p function number ops ≡ blocks q function number ops
  blocks_alike number [] named = refl
  blocks_alike number (op ∷ ops) named =
      let own = named 0 number op refl (omega arith) in
      ap₂ (λ (a b : List Instr). (preparing function op ++ a) ++ b) (finishing_alike number op own.0 own.1)
      (blocks_alike (suc number) ops (λ k at other is there. named (suc k) at other is (omega arith)))
