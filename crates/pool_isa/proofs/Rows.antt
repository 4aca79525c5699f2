-- Small functions, run by evaluation.
use Rattle.std.proofs.Common.{◌≡◌, ℕ, ◌+◌, ◌^◌, true, false, List, [], ◌∷◌, refl}
use Rattle.c_num.specs.declared.BinOp.TheVariants as B
use Rattle.run_theory.specs.declared.ends.TrapKind.TheVariants as traps
use Rattle.run_theory.specs.Runs.{Run, Output, Called, Returned, Allocated, Freed, Loaded, Stored, Going, Over, Ended, HeapExhausted, IndexExhausted, Trapped}
use Rattle.c_num.specs.declared.IntType.TheVariants as types
use Rattle.c_num.specs.Conversion.{convert_to, word_of}
use Rattle.c_num.specs.Arith.{wrapped}
use Rattle.run_theory.specs.Words.{zeros}
use Rattle.pool_isa.specs.declared.instr.Width.TheVariants as widths
use Rattle.pool_isa.specs.declared.instr.Instr.{Instr}
use Rattle.pool_isa.specs.declared.instr.Instr.TheVariants as instrs
use Rattle.pool_isa.specs.Machine.{Function, mach}
use Rattle.slab_space.specs.declared.kind.PoolKind.TheVariants.{Homogeneous, Mixed}

-- start, and main with a frame of one word
functions : List Instr → List Function
functions code =
    record { parameters = 0; extra = 0; height = 1; signature = 0; code = instrs.Call 1 ∷ instrs.ReturnValue ∷ [] }
    ∷ record { parameters = 0; extra = 8; height = 4; signature = 0; code = code }
    ∷ []

-- four bytes of globals, kinds of cells of 8 bytes, indexed or not, and a kind for all sizes; two slabs, and three cells
ran : List Instr → List ℕ → Run
ran code input =
    mach (record { functions = functions code; kinds = Homogeneous 12 8 true ∷ Homogeneous 3000 3000 false ∷ Mixed ∷ []; globals = 4; contents = 7 ∷ 1 ∷ [] }) 2 3 input

echo : List Instr
echo =
    instrs.Local 0 ∷ instrs.GetChar ∷ instrs.Store widths.Eight
    ∷ instrs.Local 0 ∷ instrs.Local 0 ∷ instrs.Load types.ULong ∷ instrs.PutChar ∷ instrs.Store widths.Eight
    ∷ instrs.Local 0 ∷ instrs.Load types.ULong ∷ instrs.ReturnValue ∷ []

echoes : ran echo (97 ∷ 98 ∷ []) 13 ≡ Over (Ended 97) (Called 0 ∷ Output 97 ∷ Returned ∷ [])
unfolding ran functions echo word_of convert_to
echoes = refl

goes_on : ran echo (97 ∷ 98 ∷ []) 12 ≡ Going (Called 0 ∷ Output 97 ∷ Returned ∷ [])
unfolding ran functions echo word_of convert_to
goes_on = refl

at_the_end : ran echo [] 13 ≡ Over (Ended 255) (Called 0 ∷ Output 255 ∷ Returned ∷ [])
unfolding ran functions echo word_of convert_to
at_the_end = refl

lacks_an_operand : ran (instrs.Discard ∷ []) [] 2 ≡ Over (Trapped traps.StackEmpty) (Called 0 ∷ [])
unfolding ran functions
lacks_an_operand = refl

past_the_frame : ran (instrs.Local 1 ∷ instrs.Load types.ULong ∷ []) [] 3 ≡ Over (Trapped traps.BadAccess) (Called 0 ∷ [])
unfolding ran functions
past_the_frame = refl

-- globals begin at 4,096; behind their contents they are zero
global_word : ran (instrs.Constant 4096 ∷ instrs.Load types.Int ∷ instrs.Exit ∷ []) [] 4 ≡ Over (Ended 7) (Called 0 ∷ [])
unfolding ran functions word_of convert_to
global_word = refl

past_the_globals : ran (instrs.Constant 4097 ∷ instrs.Load types.Int ∷ []) [] 3 ≡ Over (Trapped traps.BadAccess) (Called 0 ∷ [])
unfolding ran functions
past_the_globals = refl

global_store : ran (instrs.Constant 4099 ∷ instrs.Constant 258 ∷ instrs.Store widths.One ∷ instrs.Constant 4098 ∷ instrs.Load types.UShort ∷ instrs.Constant 256 ∷ instrs.Binary B.Div types.Int ∷ instrs.Exit ∷ []) [] 9 ≡ Over (Ended 2) (Called 0 ∷ [])
unfolding ran functions word_of convert_to wrapped
global_store = refl

-- a pool is made, an object allocated in it, written, read and freed; reading it then is bad
use_after_free : List Instr
use_after_free =
    instrs.PoolInit 2 ∷ instrs.Constant 8 ∷ instrs.PoolAlloc ∷ instrs.Duplicate ∷ instrs.Constant 5 ∷ instrs.Store widths.Four
    ∷ instrs.Duplicate ∷ instrs.Load types.Int ∷ instrs.PutChar ∷ instrs.Discard
    ∷ instrs.Duplicate ∷ instrs.Constant 1 ∷ instrs.Swap ∷ instrs.PoolFree ∷ instrs.Load types.Int ∷ instrs.Exit ∷ []

reads_freed : ran use_after_free [] 16 ≡ Over (Trapped traps.BadAccess) (Called 0 ∷ Allocated 1 8 ∷ Stored 1 ∷ Loaded 1 ∷ Output 5 ∷ Freed 1 ∷ [])
unfolding ran functions use_after_free word_of convert_to zeros
reads_freed = refl

destroyed_twice : ran (instrs.PoolInit 2 ∷ instrs.Duplicate ∷ instrs.PoolDestroy ∷ instrs.PoolDestroy ∷ []) [] 5 ≡ Over (Trapped traps.BadPool) (Called 0 ∷ [])
unfolding ran functions
destroyed_twice = refl

wrong_size : ran (instrs.PoolInit 0 ∷ instrs.Constant 8 ∷ instrs.PoolAlloc ∷ []) [] 4 ≡ Over (Trapped traps.BadSize) (Called 0 ∷ [])
unfolding ran functions
wrong_size = refl

not_its_object : ran (instrs.PoolInit 2 ∷ instrs.Constant 4096 ∷ instrs.PoolFree ∷ []) [] 4 ≡ Over (Trapped traps.BadFree) (Called 0 ∷ [])
unfolding ran functions
not_its_object = refl

-- the fourth cell of an indexed pool of three
fourth_cell : List Instr
fourth_cell = instrs.PoolInit 0 ∷ instrs.Discard ∷ instrs.Constant 1 ∷ instrs.Constant 12 ∷ instrs.PoolAlloc ∷ instrs.Discard ∷ instrs.Jump 2 ∷ []

index_reached : ran fourth_cell [] 30 ≡ Over IndexExhausted (Called 0 ∷ Allocated 1 12 ∷ Allocated 2 12 ∷ Allocated 3 12 ∷ [])
unfolding ran functions fourth_cell
index_reached = refl

-- cells of 3,000 bytes: one in a slab
third_slab : List Instr
third_slab = instrs.PoolInit 1 ∷ instrs.Discard ∷ instrs.Constant 1 ∷ instrs.Constant 3000 ∷ instrs.PoolAlloc ∷ instrs.Discard ∷ instrs.Jump 2 ∷ []

slabs_reached : ran third_slab [] 30 ≡ Over HeapExhausted (Called 0 ∷ Allocated 1 3000 ∷ Allocated 2 3000 ∷ [])
unfolding ran functions third_slab
slabs_reached = refl

-- a cell by its number: the second cell's link is written to the first cell, and read from there
linked : List Instr
linked =
    instrs.PoolInit 0 ∷ instrs.Constant 12 ∷ instrs.PoolAlloc ∷ instrs.Constant 1 ∷ instrs.Constant 12 ∷ instrs.PoolAlloc ∷ instrs.Constant 1 ∷ instrs.StoreLink
    ∷ instrs.Constant 17592186044416 ∷ instrs.Load types.UInt ∷ instrs.PutChar ∷ instrs.Discard
    ∷ instrs.Constant 17592186044416 ∷ instrs.Constant 1 ∷ instrs.LoadLink ∷ instrs.PutChar ∷ instrs.Exit ∷ []

links : ran linked [] 18 ≡ Over (Ended 8) (Called 0 ∷ Allocated 1 12 ∷ Allocated 2 12 ∷ Stored 1 ∷ Loaded 1 ∷ Output 2 ∷ Loaded 1 ∷ Output 8 ∷ [])
unfolding ran functions linked word_of convert_to zeros
links = refl

-- main by its word, with its signature and with another
indirect : ℕ → List Instr
indirect signature = instrs.Constant (2 ^ 48 + 1) ∷ instrs.CallIndirect signature ∷ []

calls_again : ran (indirect 0) [] 4 ≡ Going (Called 0 ∷ Called 0 ∷ [])
unfolding ran functions indirect
calls_again = refl

another_signature : ran (indirect 1) [] 4 ≡ Over (Trapped traps.BadCall) (Called 0 ∷ [])
unfolding ran functions indirect
another_signature = refl
