-- Accesses of small states, by evaluation.
use Rattle.std.proofs.Common.{◌≡◌, ℕ, zero, suc, ◌+◌, ◌^◌, ◌≤◌, ◌==◌, inl, inr, Bool, true, false, cond, List, [], ◌∷◌, Some, None, length, replicate, slice_get, refl, subst, sym, arith}
use Rattle.c_num.specs.declared.IntType.TheVariants as types
use Rattle.run_theory.specs.declared.ends.TrapKind.TheVariants as traps
use Rattle.slab_space.specs.declared.kind.PoolKind.TheVariants.{Homogeneous}
use Rattle.slab_space.specs.Pool.{Cells}
use Rattle.slab_space.specs.Pools.{Pools, new_pools}
use Rattle.pool_isa.specs.Tally.{new_tally}
use Rattle.pool_isa.specs.declared.instr.Width.TheVariants as widths
use Rattle.pool_isa.specs.declared.instr.Instr.{Instr}
use Rattle.pool_isa.specs.declared.instr.Instr.TheVariants as instrs
use Rattle.pool_isa.specs.Machine.{Activation, Code, State, act, trap, first_history}
use Rattle.pool_isa.specs.Accesses.{Access, Loads, Stores, accesses, Safe}

-- a function of one instruction
code_of : Instr → Code
code_of instr =
    record { functions = record { parameters = 0; extra = 8; height = 3; signature = 0; code = instr ∷ [] } ∷ []; kinds = []; globals = 4; contents = [] }

-- with a frame of 8 bytes, and 4 bytes of globals
frame : List ℕ → Activation
frame operands = record { function = 0; place = 0; operands = operands; start = 2 ^ 40; bytes = replicate 8 0 }

before : Pools → List ℕ → State
before pools operands =
    record {
      activations = frame operands ∷ [];
      heap = record { globals = replicate 4 0; pools = pools; tally = new_tally 2 };
      history = first_history;
      input = [];
      trace = [];
    }

no_pools : Pools
no_pools = new_pools 2 3

-- ---- a load of 8 bytes

load : ℕ → Access
load address = record { direction = Loads; address = address; size = 8 }

one_load : (address : ℕ) → accesses (code_of (instrs.Load types.ULong)) (before no_pools (address ∷ [])) ≡ load address ∷ []
unfolding code_of before frame load
one_load address = refl

in_the_frame : Safe (before no_pools (2 ^ 40 ∷ [])) (load (2 ^ 40))
unfolding before frame load
in_the_frame = inr (inl (record { depth = 0; activation = frame (2 ^ 40 ∷ []); running = refl; within = (omega arith, omega arith) }))

-- one byte over the frame's end

over_the_end : (address : ℕ) → address ≡ 2 ^ 40 + 1 → Safe (before no_pools (address ∷ [])) (load address) → ⊥
unfolding before frame load no_pools
over_the_end address is (inl globals) = absurd (omega (arith, is, globals.1))
over_the_end address is (inr (inl inside)) = by inside.depth inside.activation inside.running inside.within.1
  where
    by : (depth : ℕ) (activation : Activation) → slice_get (frame (address ∷ []) ∷ []) depth ≡ Some activation → address + 8 ≤ activation.start + length activation.bytes → ⊥
    by zero activation running end =
        let same : frame (address ∷ []) ≡ activation = cc in
        let short : address + 8 ≤ 2 ^ 40 + 8 = subst (λ (a : Activation). address + 8 ≤ a.start + length a.bytes) (sym same) end in
        omega (arith, is, short)
    by (suc depth) activation running end = absurd (cc)
over_the_end address is (inr (inr inside)) = by (inside.number == 0) inside.living
  where
    by : (b : Bool) → cond b None None ≡ Some inside.pool → ⊥
    by true e = absurd (cc)
    by false e = absurd (cc)

over_the_end_traps : act (code_of (instrs.Load types.ULong)) (before no_pools ((2 ^ 40 + 1) ∷ [])) ≡ trap traps.BadAccess (before no_pools ((2 ^ 40 + 1) ∷ []))
unfolding code_of before frame no_pools
over_the_end_traps = refl

-- ---- a store of 4 bytes

store : ℕ → Access
store address = record { direction = Stores; address = address; size = 4 }

-- one pool with one live cell, the second one
two_cells : Cells
two_cells = record { size = 12; runs = 1 ∷ []; cells = None ∷ Some (replicate 12 0) ∷ []; freed = 1 ∷ [] }

one_pool : Pools
one_pool = record { index = 3; owners = None ∷ Some 1 ∷ []; pools = Some (record { kind = Homogeneous 12 12 true; classes = two_cells ∷ []; large = []; peak = 2 }) ∷ [] }

one_store : (address word : ℕ) → accesses (code_of (instrs.Store widths.Four)) (before one_pool (word ∷ address ∷ [])) ≡ store address ∷ []
unfolding code_of before frame store
one_store address word = refl

one_link_stored : (address value : ℕ) → accesses (code_of instrs.StoreLink) (before one_pool (1 ∷ value ∷ address ∷ [])) ≡ store address ∷ []
unfolding code_of before frame store
one_link_stored address value = refl

in_the_globals : Safe (before one_pool (7 ∷ 4096 ∷ [])) (store 4096)
unfolding before frame store
in_the_globals = inl (omega arith, omega arith)

-- slab 1 lies at 2 ^ 44 + 4,096; its second cell of 12 bytes ends 24 bytes behind
in_the_cell : Safe (before one_pool (7 ∷ 17592186048528 ∷ [])) (store 17592186048528)
unfolding before frame store one_pool two_cells
in_the_cell =
    inr (inr (record {
      number = 1;
      pool = record { kind = Homogeneous 12 12 true; classes = two_cells ∷ []; large = []; peak = 2 };
      object = record { start = 17592186048524; bytes = replicate 12 0 };
      living = refl;
      live = inl (record { kind = 0; cells = two_cells; before = 1; of_kind = refl; live = refl; start = refl });
      within = (omega arith, omega arith);
    }))

in_the_freed_cell_traps : act (code_of (instrs.Store widths.Four)) (before one_pool (7 ∷ 17592186048512 ∷ [])) ≡ trap traps.BadAccess (before one_pool (7 ∷ 17592186048512 ∷ []))
unfolding code_of before frame one_pool two_cells
in_the_freed_cell_traps = refl

-- ---- without operands

no_access : accesses (code_of instrs.StoreLink) (before no_pools (1 ∷ 2 ∷ [])) ≡ []
unfolding code_of before frame
no_access = refl
