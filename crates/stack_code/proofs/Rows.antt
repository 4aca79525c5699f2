-- The definitions evaluated at two programs: one makes, reads and frees a list in one pool, the other calls through a pointer a function that
-- has a pool of its own, with links, and an object in its frame.
use Rattle.std.proofs.Common.{◌≡◌, ℕ, true, List, [], ◌∷◌, Some, None, pos, refl}
use Rattle.c_num.specs.declared.IntType.TheVariants as I
use Rattle.c_num.specs.declared.BinOp.TheVariants as B
use Rattle.c_num.specs.declared.Relation.TheVariants as relations
use Rattle.c_num.specs.Conversion.{convert_to, word_of}
use Rattle.c_num.specs.Arith.{wrapped}
use Rattle.run_theory.specs.Words.{zeros}
use Rattle.run_theory.specs.Runs.{Answer, AnswerOf, Going, Over, Ended, HeapExhausted, Output, Called, Returned, Allocated, Freed, Loaded, Stored, Event}
use Rattle.slab_space.specs.declared.kind.PoolKind.TheVariants.{Homogeneous, Mixed}
use Rattle.tac_ir.specs.declared.register.Local.TheVariants as L
use Rattle.tac_ir.specs.declared.register.Register.{Register}
use Rattle.tac_ir.specs.declared.register.Register.TheVariants as R
use Rattle.tac_ir.specs.Events.{seen}
use Rattle.tac_ir.specs.Calls.{greatest_depth}
use Rattle.tac_ir.specs.Code.{Tree, Constant, Held, Arithmetic, Compare, IntegerOperand, PointerOperand}
use Rattle.pool_isa.specs.Machine.{mach}
use Rattle.pool_ir.specs.Code.{IntegerSlot, AddressSlot, IndexSlot, AtFrame, Pointed, Member, Path, Known, Through, Make, Destroy, Function, PoolCode}
use Rattle.pool_ir.specs.Code as O
use Rattle.pool_ir.specs.States.{PoolEvent, same}
use Rattle.pool_ir.specs.Meaning.{pool_run}
use Rattle.stack_code.specs.Emitting.{emitted}

-- an answer with the events of the reference
abbrev plain : AnswerOf PoolEvent → Answer
plain (Going trace) = Going (seen (same trace))
plain (Over final trace) = Over final (seen (same trace))

-- ---- a list

abbrev counter : Register
counter = R.Local (L.Variable 0)

abbrev total : Register
total = R.Local (L.Variable 1)

abbrev behind : Register → ℕ → Path
behind pointer offset = record { base = Pointed pointer; steps = Member offset ∷ [] }

abbrev plus : Register → Tree → Tree
plus left right = Arithmetic B.Add I.Int (Held left) right

-- int main(void) { struct n *h = NULL; int i = 0, s; while (i < 3) { p = malloc(16); p->v = i; p->next = h; h = p; i = i + 1; }
-- s = 0; while (h) { s = s + h->v; q = h->next; free(h); h = q; } return s; }
abbrev list_main : Function
list_main = record {
  signature = 0;
  taken = 1;
  frame = record { descriptors = 1; parameters = 0; registers = record { variables = 2; calls = 2; arguments = 0; expressions = 3; temporaries = 1 }; objects = []; size = 72 };
  entering = [];
  edges = [];
  leaving = [];
  points = O.Assign counter (Constant (pos 0))
      ∷ O.Null (R.Expression 0)
      ∷ O.Branch I.Int (Compare relations.Lt I.Int (Held counter) (Constant (pos 3))) 3 10
      ∷ O.Allocate 0 (Constant (pos 16)) 0
      ∷ O.Copy (R.Expression 1) (R.Call 0)
      ∷ O.Store (behind (R.Expression 1) 0) (IntegerSlot I.Int) (IntegerOperand (Held counter))
      ∷ O.Store (behind (R.Expression 1) 8) AddressSlot (PointerOperand (R.Expression 0))
      ∷ O.Copy (R.Expression 0) (R.Expression 1)
      ∷ O.Assign counter (plus counter (Constant (pos 1)))
      ∷ O.Jump 2
      ∷ O.Assign total (Constant (pos 0))
      ∷ O.Test (R.Temporary 0) (R.Expression 0)
      ∷ O.Branch I.Int (Held (R.Temporary 0)) 13 19
      ∷ O.Load (R.Temporary 0) (IntegerSlot I.Int) (behind (R.Expression 0) 0)
      ∷ O.Assign total (plus total (Held (R.Temporary 0)))
      ∷ O.Load (R.Expression 2) AddressSlot (behind (R.Expression 0) 8)
      ∷ O.Free 1 (R.Expression 0) 0
      ∷ O.Copy (R.Expression 0) (R.Expression 2)
      ∷ O.Jump 11
      ∷ O.Return (Some (IntegerOperand (Held total)))
      ∷ [];
}

-- the pool is made by `start`, which calls this function
abbrev starting : ℕ → Function
starting number = record {
  signature = 0;
  taken = 0;
  frame = record { descriptors = 1; parameters = 0; registers = record { variables = 0; calls = 1; arguments = 0; expressions = 0; temporaries = 0 }; objects = []; size = 16 };
  entering = Make 0 0 ∷ [];
  edges = [];
  leaving = [];
  points = O.Call 0 (Known number) [] (0 ∷ []) ∷ O.Exit (Held (R.Call 0)) ∷ [];
}

abbrev list_code : PoolCode
list_code = record { functions = list_main ∷ []; start = starting 0; kinds = Mixed ∷ []; globals = 0; contents = [] }

abbrev list_events : List Event
list_events =
    Called 0 ∷ Allocated 1 16 ∷ Stored 1 ∷ Stored 1 ∷ Allocated 2 16 ∷ Stored 2 ∷ Stored 2 ∷ Allocated 3 16 ∷ Stored 3 ∷ Stored 3 ∷ Loaded 3 ∷ Loaded 3 ∷ Freed 3 ∷ Loaded 2 ∷ Loaded 2 ∷ Freed 2
    ∷ Loaded 1 ∷ Loaded 1 ∷ Freed 1 ∷ Returned ∷ []

list_in_pools : plain (pool_run list_code 1 1 [] 200) ≡ Over (Ended 3) list_events
unfolding convert_to wrapped greatest_depth word_of zeros
list_in_pools = refl

list_on_machine : mach (emitted list_code) 1 1 [] 500 ≡ Over (Ended 3) list_events
unfolding convert_to wrapped greatest_depth word_of zeros
list_on_machine = refl

-- without a slab nothing is allocated
no_slab_in_pools : plain (pool_run list_code 0 1 [] 200) ≡ Over HeapExhausted (Called 0 ∷ [])
unfolding convert_to wrapped greatest_depth word_of zeros
no_slab_in_pools = refl

no_slab_on_machine : mach (emitted list_code) 0 1 [] 500 ≡ Over HeapExhausted (Called 0 ∷ [])
unfolding convert_to wrapped greatest_depth word_of zeros
no_slab_on_machine = refl

-- ---- a function with a pool of its own

-- the parameter goes through an object in the frame; a cell of the pool holds a link to itself
abbrev work : Function
work = record {
  signature = 7;
  taken = 1;
  frame = record {
    descriptors = 2;
    parameters = 1;
    registers = record { variables = 1; calls = 2; arguments = 0; expressions = 1; temporaries = 1 };
    objects = record { local = L.Variable 0; offset = 64; size = 4 } ∷ [];
    size = 68;
  };
  entering = Make 1 1 ∷ [];
  edges = [];
  leaving = Destroy 1 ∷ [];
  points = O.AddressOf (R.Expression 0) (record { base = AtFrame 64; steps = [] })
      ∷ O.Store (record { base = Pointed (R.Expression 0); steps = [] }) (IntegerSlot I.Int) (IntegerOperand (Held (R.Local (L.Parameter 0))))
      ∷ O.Allocate 0 (Constant (pos 8)) 1
      ∷ O.Store (behind (R.Call 0) 4) (IndexSlot 1) (PointerOperand (R.Call 0))
      ∷ O.Load (R.Expression 0) (IndexSlot 1) (behind (R.Call 0) 4)
      ∷ O.Free 1 (R.Expression 0) 1
      ∷ O.Load (R.Temporary 0) (IntegerSlot I.Int) (record { base = AtFrame 64; steps = [] })
      ∷ O.Return (Some (IntegerOperand (plus (R.Temporary 0) (Constant (pos 1)))))
      ∷ [];
}

-- a pool is made and destroyed on an edge
abbrev call_main : Function
call_main = record {
  signature = 0;
  taken = 1;
  frame = record { descriptors = 2; parameters = 0; registers = record { variables = 0; calls = 2; arguments = 1; expressions = 1; temporaries = 0 }; objects = []; size = 48 };
  entering = [];
  edges = record { from = 3; to = 4; actions = Make 1 0 ∷ [] } ∷ record { from = 3; to = 5; actions = Make 1 0 ∷ Destroy 1 ∷ [] } ∷ [];
  leaving = [];
  points = O.FunctionAddress (R.Expression 0) 0
      ∷ O.Assign (R.Argument 0) (Constant (pos 4))
      ∷ O.Call 0 (Through (R.Expression 0) 7) (R.Argument 0 ∷ []) (0 ∷ [])
      ∷ O.Branch I.Int (Held (R.Call 0)) 5 4
      ∷ O.Return None
      ∷ O.PutChar 1 (Held (R.Call 0))
      ∷ O.Return (Some (IntegerOperand (Held (R.Call 0))))
      ∷ [];
}

abbrev call_code : PoolCode
call_code = record { functions = work ∷ call_main ∷ []; start = starting 1; kinds = Mixed ∷ Homogeneous 8 8 true ∷ []; globals = 0; contents = [] }

abbrev call_events : List Event
call_events = Called 1 ∷ Called 0 ∷ Allocated 1 8 ∷ Stored 1 ∷ Loaded 1 ∷ Freed 1 ∷ Returned ∷ Output 5 ∷ Returned ∷ []

call_in_pools : plain (pool_run call_code 1 1 [] 100) ≡ Over (Ended 5) call_events
unfolding convert_to wrapped greatest_depth word_of zeros
call_in_pools = refl

call_on_machine : mach (emitted call_code) 1 1 [] 200 ≡ Over (Ended 5) call_events
unfolding convert_to wrapped greatest_depth word_of zeros
call_on_machine = refl
