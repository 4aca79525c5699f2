-- Where the blocks of points lie in the code of a function.
use Rattle.std.proofs.Common.{◌≡◌, ℕ, zero, suc, ◌+◌, ◌==◌, Bool, true, false, List, [], ◌∷◌, ◌++◌, Some, length, take, refl, sym, ap, ap₂, ◌∙◌, arith, length-append, append_assoc}
use Rattle.std.specs.Prelude.{slice_get, if◌then◌else◌}
use Rattle.pool_isa.specs.declared.instr.Instr.{Instr}
use Rattle.pool_isa.specs.declared.instr.Instr.TheVariants as instrs
use Rattle.pool_ir.specs.Code.{Op, Function}
use Rattle.pool_ir.specs.Code as O
use Rattle.stack_code.specs.Emitting.{edge_code, way, way_or_on, way_at_zero, preparing, finishing, block, blocks, opening, place_of, function_code}
use Rattle.stack_code.proofs.Turns.{StandsIn}

-- ---- lengths don't depend on where blocks lie

module _ (p q : ℕ → ℕ) (function : Function) where
  long_way_or_on : (from to : ℕ) → length (way_or_on p function from to) ≡ length (way_or_on q function from to)
  long_way_or_on from to =
      length-append (edge_code function from to) (if to == suc from then [] else instrs.Jump (p to) ∷ []) ∙ ap (λ n. length (edge_code function from to) + n) (by (to == suc from))
      ∙ sym (length-append (edge_code function from to) (if to == suc from then [] else instrs.Jump (q to) ∷ []))
    where
      by : (behind : Bool) → length (if behind then [] else instrs.Jump (p to) ∷ []) ≡ length (if behind then [] else instrs.Jump (q to) ∷ [])
      by true = refl
      by false = refl

  long_way : (from to : ℕ) → length (way p function from to) ≡ length (way q function from to)
  long_way from to = length-append (edge_code function from to) (instrs.Jump (p to) ∷ []) ∙ sym (length-append (edge_code function from to) (instrs.Jump (q to) ∷ []))

  long_way_at_zero : (from to front : ℕ) (actions : List Instr) → length (way_at_zero p from to front actions) ≡ length (way_at_zero q from to front actions)
  long_way_at_zero from to front [] = refl
  long_way_at_zero from to front (first ∷ others) =
      ap (λ n. suc (suc n)) (length-append others (instrs.Jump (p to) ∷ []) ∙ sym (length-append others (instrs.Jump (q to) ∷ [])))

  long_finishing : (from : ℕ) (op : Op) → length (finishing p function from op) ≡ length (finishing q function from op)
  long_finishing from (O.Jump to) = long_way from to
  long_finishing from (O.Branch int_type condition holds fails) =
      let front = length (preparing function (O.Branch int_type condition holds fails)) in
      let actions = edge_code function from fails in
      length-append (way_at_zero p from fails front actions) (way_or_on p function from holds) ∙ ap₂ ◌+◌ (long_way_at_zero from fails front actions) (long_way_or_on from holds)
      ∙ sym (length-append (way_at_zero q from fails front actions) (way_or_on q function from holds))
  long_finishing from O.Reserved = refl
  long_finishing from (O.Assign to tree) = refl
  long_finishing from (O.Null to) = refl
  long_finishing from (O.FunctionAddress to number) = refl
  long_finishing from (O.Copy to register) = refl
  long_finishing from (O.Test to pointer) = refl
  long_finishing from (O.Move to pointer size is_minus number) = refl
  long_finishing from (O.Difference to size left right) = refl
  long_finishing from (O.ComparePointers to relation left right) = refl
  long_finishing from (O.AddressOf to path) = refl
  long_finishing from (O.Load to slot path) = refl
  long_finishing from (O.Store path slot value) = refl
  long_finishing from (O.Allocate site size pool) = refl
  long_finishing from (O.Free site pointer pool) = refl
  long_finishing from (O.Call site callee arguments pools) = refl
  long_finishing from (O.GetChar site) = refl
  long_finishing from (O.PutChar site value) = refl
  long_finishing from (O.Exit status) = refl
  long_finishing from (O.Return value) = refl

  long_block : (number : ℕ) (op : Op) → length (block p function number op) ≡ length (block q function number op)
  long_block number op =
      length-append (preparing function op) (finishing p function number op) ∙ ap (λ n. length (preparing function op) + n) (long_finishing number op)
      ∙ sym (length-append (preparing function op) (finishing q function number op))

  long_blocks : (number : ℕ) (ops : List Op) → length (blocks p function number ops) ≡ length (blocks q function number ops)
  long_blocks number [] = refl
  long_blocks number (op ∷ ops) =
      length-append (block p function number op) (blocks p function (suc number) ops) ∙ ap₂ ◌+◌ (long_block number op) (long_blocks (suc number) ops)
      ∙ sym (length-append (block q function number op) (blocks q function (suc number) ops))

-- ---- a block stands at its place

get_behind : (front : List Instr) (instr : Instr) (back : List Instr) → slice_get (front ++ instr ∷ back) (length front) ≡ Some instr
get_behind [] instr back = refl
get_behind (x ∷ front) instr back = get_behind front instr back

pub stands_behind : (own front back code : List Instr) (place : ℕ) → code ≡ front ++ (own ++ back) → place ≡ length front → StandsIn code place own
stands_behind [] front back code place e e' = tt
stands_behind (instr ∷ own) front back code place e e' =
    let regrouped : code ≡ (front ++ instr ∷ []) ++ (own ++ back) = e ∙ sym (append_assoc front (instr ∷ []) (own ++ back)) in
    let further : place + 1 ≡ length (front ++ instr ∷ []) = ap (λ n. n + 1) e' ∙ sym (length-append front (instr ∷ [])) in
    (ap (λ c. slice_get c place) e ∙ ap (slice_get (front ++ instr ∷ (own ++ back))) e' ∙ get_behind front instr (own ++ back), stands_behind own (front ++ instr ∷ []) back code (place + 1) regrouped further)

module _ (place : ℕ → ℕ) (function : Function) where
  -- a point's block, behind those of the points before it
  split : (number : ℕ) (ops : List Op) (k : ℕ) (op : Op) (at : ℕ) → slice_get ops k ≡ Some op → at ≡ number + k
      → (rest : List Instr) × (blocks place function number ops ≡ blocks place function number (take k ops) ++ (block place function at op ++ rest))
  split number [] k op at e e' = absurd (cc)
  split number (x ∷ ops) zero op at e e' =
      let same : x ≡ op = cc in
      let here : number ≡ at = omega arith in
      (blocks place function (suc number) ops, ap₂ (λ o n. block place function n o ++ blocks place function (suc number) ops) same here)
  split number (x ∷ ops) (suc k) op at e e' =
      let further = split (suc number) ops k op at e (omega arith) in
      (further.0, ap (λ b. block place function number x ++ b) further.1 ∙ sym (append_assoc (block place function number x) (blocks place function (suc number) (take k ops)) (block place function at op ++ further.0)))

  -- how long the blocks through a point are
  one_more : (number : ℕ) (ops : List Op) (k : ℕ) (op : Op) (at : ℕ) → slice_get ops k ≡ Some op → at ≡ number + k
      → length (blocks place function number (take (suc k) ops)) ≡ length (blocks place function number (take k ops)) + length (block place function at op)
  one_more number [] k op at e e' = absurd (cc)
  one_more number (x ∷ ops) zero op at e e' =
      let same : x ≡ op = cc in
      let here : number ≡ at = omega arith in
      length-append (block place function number x) [] ∙ ap₂ (λ o n. length (block place function n o) + 0) same here ∙ omega arith
  one_more number (x ∷ ops) (suc k) op at e e' =
      let own = block place function number x in
      let rest = one_more (suc number) ops k op at e (omega arith) in
      let one = length-append own (blocks place function (suc number) (take (suc k) ops)) in
      let two = length-append own (blocks place function (suc number) (take k ops)) in
      omega (arith, rest, one, two)

module _ (function : Function) (number : ℕ) (op : Op) (is : slice_get function.points number ≡ Some op) where
  place_is : place_of function number ≡ length (opening function ++ blocks (place_of function) function 0 (take number function.points))
  place_is =
      ap (λ n. length (opening function) + n) (long_blocks (λ _. 0) (place_of function) function 0 (take number function.points))
      ∙ sym (length-append (opening function) (blocks (place_of function) function 0 (take number function.points)))

  pub block_stands : StandsIn (function_code function) (place_of function number) (block (place_of function) function number op)
  block_stands =
      let parts = split (place_of function) function 0 function.points number op number is (omega arith) in
      let front = blocks (place_of function) function 0 (take number function.points) in
      let own = block (place_of function) function number op in
      stands_behind own (opening function ++ front) parts.0 (function_code function) (place_of function number)
      (ap (λ b. opening function ++ b) parts.1 ∙ sym (append_assoc (opening function) front (own ++ parts.0))) place_is

  -- the point behind begins where this one's block ends
  pub place_behind : place_of function (suc number) ≡ place_of function number + length (block (place_of function) function number op)
  place_behind =
      let more = one_more (λ _. 0) function 0 function.points number op number is (omega arith) in
      let own = long_block (λ _. 0) (place_of function) function number op in
      omega (arith, more, own)

-- what is done at entry stands in front
pub opening_stands : (function : Function) → StandsIn (function_code function) 0 (opening function)
opening_stands function = stands_behind (opening function) [] (blocks (place_of function) function 0 function.points) (function_code function) 0 refl refl

pub place_first : (function : Function) → place_of function 0 ≡ length (opening function)
place_first function = omega arith
