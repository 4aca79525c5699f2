-- The definitions evaluated at two programs, one on the heap, one with a call, a local in memory and a variable outside functions: as
-- three-address code, and as the code with one pool of it.
use Rattle.std.proofs.Common.{◌≡◌, ℕ, List, [], ◌∷◌, Some, codes, pos, refl}
use Rattle.c_num.specs.declared.IntType.TheVariants as I
use Rattle.c_num.specs.declared.BinOp.TheVariants as B
use Rattle.c_num.specs.Conversion.{convert_to, word_of}
use Rattle.c_num.specs.Arith.{outcome_of, wrapped}
use Rattle.c_typed.specs.Types.{CType, Integer, Pointer, Struct, Function as FunctionType, NoTypes, MoreTypes}
use Rattle.c_typed.specs.Layouts.{StructDef}
use Rattle.run_theory.specs.Words.{zeros}
use Rattle.run_theory.specs.Runs.{Answer, AnswerOf, Going, Over, Ended, HeapExhausted, Called, Returned, Allocated, Freed, Loaded, Stored, Event}
use Rattle.tac_ir.specs.declared.register.Local.TheVariants as L
use Rattle.tac_ir.specs.declared.register.Register.TheVariants as R
use Rattle.tac_ir.specs.Events.{TacEvent, seen}
use Rattle.tac_ir.specs.Calls.{greatest_depth}
use Rattle.tac_ir.specs.First.{tac_run}
use Rattle.tac_ir.specs.Code.{Constant, Held, Arithmetic, AtLocal, AtGlobal, Pointed, Member, Path, IntegerOperand, Known, Function, Tac}
use Rattle.tac_ir.specs.Code as O
use Rattle.pool_ir.specs.States.{PoolEvent, same}
use Rattle.pool_ir.specs.Meaning.{pool_run}
use Rattle.pool_rewrite.specs.Plan.{one_pool}
use Rattle.pool_rewrite.specs.Rewriting.{rewritten}

abbrev int : CType
int = Integer I.Int

-- struct n { int v; struct n *next; };
abbrev n : CType
n = Struct (codes "n")

abbrev structs : List StructDef
structs = record { tag = codes "n"; members = record { name = codes "v"; c_type = Some int } ∷ record { name = codes "next"; c_type = Some (Pointer n) } ∷ [] } ∷ []

abbrev behind : ℕ → Path
behind number = record { base = Pointed (R.Expression 0) n; steps = Member number ∷ [] }

-- int g; int add(int a) { int x; int *p = &x; *p = a; return *p + 1; }
abbrev add : Function
add = record {
  name = codes "add";
  c_type = FunctionType int (MoreTypes int NoTypes);
  parameters = 1;
  counts = record { variables = 2; calls = 0; arguments = 0; expressions = 3; temporaries = 1 };
  objects = record { local = L.Variable 0; c_type = int } ∷ [];
  points = O.AddressOf (R.Expression 0) (record { base = AtLocal (L.Variable 0); steps = [] })
      ∷ O.Store (record { base = Pointed (R.Expression 0) int; steps = [] }) int (IntegerOperand (Held (R.Local (L.Parameter 0))))
      ∷ O.Load (R.Temporary 0) int (record { base = AtLocal (L.Variable 0); steps = [] })
      ∷ O.Return (Some (IntegerOperand (Arithmetic B.Add I.Int (Held (R.Temporary 0)) (Constant (pos 1)))))
      ∷ [];
}

-- int main(void) { struct n *p = malloc(16); p->v = 5; g = p->v; free(p); return g; }
abbrev heap_main : Function
heap_main = record {
  name = codes "main";
  c_type = FunctionType int NoTypes;
  parameters = 0;
  counts = record { variables = 1; calls = 1; arguments = 0; expressions = 1; temporaries = 2 };
  objects = [];
  points = O.Allocate 0 (Constant (pos 16))
      ∷ O.Repoint (R.Expression 0) n (R.Call 0)
      ∷ O.Store (behind 0) int (IntegerOperand (Constant (pos 5)))
      ∷ O.Load (R.Temporary 0) int (behind 0)
      ∷ O.Free 1 (R.Expression 0)
      ∷ O.Return (Some (IntegerOperand (Held (R.Temporary 0))))
      ∷ [];
}

-- int main(void) { g = add(4); return g; }
abbrev call_main : Function
call_main = record {
  name = codes "main";
  c_type = FunctionType int NoTypes;
  parameters = 0;
  counts = record { variables = 0; calls = 1; arguments = 1; expressions = 0; temporaries = 1 };
  objects = [];
  points = O.Assign (R.Argument 0) (Constant (pos 4))
      ∷ O.Call 0 (Known 0) (R.Argument 0 ∷ [])
      ∷ O.Store (record { base = AtGlobal 0; steps = [] }) int (IntegerOperand (Held (R.Call 0)))
      ∷ O.Load (R.Temporary 0) int (record { base = AtGlobal 0; steps = [] })
      ∷ O.Return (Some (IntegerOperand (Held (R.Temporary 0))))
      ∷ [];
}

abbrev start : Function
start = record {
  name = [];
  c_type = FunctionType int NoTypes;
  parameters = 0;
  counts = record { variables = 0; calls = 1; arguments = 0; expressions = 0; temporaries = 0 };
  objects = [];
  points = O.Call 0 (Known 1) [] ∷ O.Exit (Held (R.Call 0)) ∷ [];
}

abbrev program : Function → Tac
program main = record { structs = structs; globals = record { name = codes "g"; c_type = int; first = [] } ∷ []; literals = []; functions = add ∷ main ∷ []; start = start }

abbrev in_one_pool : Function → ℕ → AnswerOf PoolEvent
in_one_pool main slabs = pool_run (rewritten (one_pool (program main)) (program main)) slabs 1 [] 30

-- an answer with the events of the reference
abbrev plain : AnswerOf TacEvent → Answer
plain (Going trace) = Going (seen trace)
plain (Over final trace) = Over final (seen trace)

abbrev pooled : AnswerOf PoolEvent → Answer
pooled (Going trace) = Going (seen (same trace))
pooled (Over final trace) = Over final (seen (same trace))

abbrev heap_events : List Event
heap_events = Called 1 ∷ Allocated 1 16 ∷ Stored 1 ∷ Loaded 1 ∷ Freed 1 ∷ Returned ∷ []

abbrev call_events : List Event
call_events = Called 1 ∷ Called 0 ∷ Returned ∷ Returned ∷ []

heap_in_code : plain (tac_run (program heap_main) [] 30) ≡ Over (Ended 5) heap_events
unfolding convert_to outcome_of greatest_depth
heap_in_code = refl

call_in_code : plain (tac_run (program call_main) [] 30) ≡ Over (Ended 5) call_events
unfolding convert_to outcome_of greatest_depth
call_in_code = refl

heap_in_pools : pooled (in_one_pool heap_main 1) ≡ Over (Ended 5) heap_events
unfolding convert_to outcome_of greatest_depth word_of zeros
heap_in_pools = refl

call_in_pools : pooled (in_one_pool call_main 1) ≡ Over (Ended 5) call_events
unfolding convert_to outcome_of wrapped greatest_depth word_of zeros
call_in_pools = refl

-- without a slab nothing is allocated
without_slabs : pooled (in_one_pool heap_main 0) ≡ Over HeapExhausted (Called 1 ∷ [])
unfolding convert_to outcome_of greatest_depth word_of zeros
without_slabs = refl
