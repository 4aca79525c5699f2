-- The conditions evaluated: a list is made by one function and gone through by another. The graphs that the rules give are closed; with an edge,
-- a flag, a type or an image left out they aren't.
use Rattle.std.specs.Prelude.{◌≡◌, ℕ, zero, suc, Bool, true, false, List, [], ◌∷◌, Option, Some, None, pos, refl}
use Rattle.c_num.specs.declared.IntType.TheVariants as I
use Rattle.c_num.specs.declared.Relation.TheVariants as N
use Rattle.c_typed.specs.Types.{CType, Void, Integer, Pointer, Struct, Function, NoTypes, MoreTypes}
use Rattle.c_typed.specs.Layouts.{StructDef}
use Rattle.tac_ir.specs.declared.program.Counts.{Counts}
use Rattle.tac_ir.specs.declared.register.Local.TheVariants as L
use Rattle.tac_ir.specs.declared.register.Register.TheVariants as R
use Rattle.tac_ir.specs.Code as O
use Rattle.tac_ir.specs.Code.{Constant, Held, Pointed, Member, Path, IntegerOperand, PointerOperand, Known, Op, Tac}
use Rattle.tac_ir.specs.States.{InStart, InFunction}
use Rattle.heap_graph.specs.Graphs.{Target, Element, Missing, OfType, Flags, Edge, Node, Name, OfRegister, OfResult}
use Rattle.heap_graph.specs.Closed.{Family, parameters_of, formals_closed, ops_closed, first_closed, node_kept}

-- struct n { int v; struct n *next; };
abbrev n : CType
n = Struct (110 ∷ [])

abbrev structs : List StructDef
structs = record {
  tag = 110 ∷ [];
  members = record { name = 118 ∷ []; c_type = Some (Integer I.Int) } ∷ record { name = 120 ∷ []; c_type = Some (Pointer n) } ∷ [];
} ∷ []

abbrev member : ℕ → ℕ → Path
member expression number = record { base = Pointed (R.Expression expression) n; steps = Member number ∷ [] }

abbrev counts : Counts
counts = record { variables = 0; calls = 0; arguments = 0; expressions = 0; temporaries = 0 }

-- struct n *makelist(int k)
abbrev make_points : List Op
make_points =
    O.Null (R.Expression 0) ∷ O.Null (R.Expression 1) ∷ O.Copy (R.Local (L.Variable 0)) (R.Expression 1)
    ∷ O.Branch I.Int (Held (R.Local (L.Parameter 0))) 4 15
    ∷ O.Allocate 0 (Constant (pos 16)) ∷ O.Repoint (R.Expression 2) n (R.Call 0) ∷ O.Copy (R.Local (L.Variable 1)) (R.Expression 2)
    ∷ O.Copy (R.Expression 3) (R.Local (L.Variable 1)) ∷ O.Store (member 3 0) (Integer I.Int) (IntegerOperand (Held (R.Local (L.Parameter 0))))
    ∷ O.Copy (R.Expression 4) (R.Local (L.Variable 1)) ∷ O.Copy (R.Expression 5) (R.Local (L.Variable 0)) ∷ O.Store (member 4 1) (Pointer n) (PointerOperand (R.Expression 5))
    ∷ O.Copy (R.Expression 6) (R.Local (L.Variable 1)) ∷ O.Copy (R.Local (L.Variable 0)) (R.Expression 6)
    ∷ O.Jump 3 ∷ O.Copy (R.Expression 7) (R.Local (L.Variable 0)) ∷ O.Return (Some (PointerOperand (R.Expression 7))) ∷ []

-- int main(void)
abbrev main_points : List Op
main_points =
    O.Assign (R.Argument 0) (Constant (pos 3)) ∷ O.Call 0 (Known 0) (R.Argument 0 ∷ []) ∷ O.Copy (R.Local (L.Variable 0)) (R.Call 0)
    ∷ O.Copy (R.Expression 0) (R.Local (L.Variable 0)) ∷ O.Null (R.Expression 1) ∷ O.ComparePointers (R.Temporary 0) N.Ne (R.Expression 0) (R.Expression 1)
    ∷ O.Branch I.Int (Held (R.Temporary 0)) 7 13
    ∷ O.Copy (R.Expression 2) (R.Local (L.Variable 0)) ∷ O.Load (R.Temporary 1) (Integer I.Int) (member 2 0) ∷ O.PutChar 1 (Held (R.Temporary 1))
    ∷ O.Copy (R.Expression 3) (R.Local (L.Variable 0)) ∷ O.Load (R.Expression 4) (Pointer n) (member 3 1) ∷ O.Copy (R.Local (L.Variable 0)) (R.Expression 4)
    ∷ O.Return (Some (IntegerOperand (Constant (pos 0)))) ∷ []

abbrev tac : Tac
tac =
    record {
      structs = structs;
      globals = [];
      literals = [];
      functions =
          record { name = 102 ∷ []; c_type = Function (Pointer n) (MoreTypes (Integer I.Int) NoTypes); parameters = 1; counts = counts; objects = []; points = make_points }
          ∷ record { name = 109 ∷ []; c_type = Function (Integer I.Int) NoTypes; parameters = 0; counts = counts; objects = []; points = main_points } ∷ [];
      start = record { name = []; c_type = Void; parameters = 0; counts = counts; objects = []; points = O.Call 0 (Known 1) [] ∷ O.Exit (Held (R.Call 0)) ∷ [] };
    }

-- ---- graphs

abbrev flags : Bool → Bool → Bool → Flags
flags modified read complete = record { heap = true; stack = false; global = false; array = false; modified = modified; read = read; complete = complete; certain = true }

abbrev to_first : Target
to_first = record { node = 0; shift = 0 }

abbrev next_edge : List Edge
next_edge = record { slot = 1; to = to_first } ∷ []

abbrev list_node : Element → Flags → List Edge → Node
list_node element flags edges = record { element = element; flags = flags; edges = edges }

-- all pointers point to the one node, but null ones
abbrev make_targets : Name → Option Target
make_targets (OfRegister owner (R.Expression zero)) = None
make_targets (OfRegister owner (R.Expression (suc zero))) = None
make_targets (OfRegister owner (R.Local (L.Parameter number))) = None
make_targets (OfRegister owner register) = Some to_first
make_targets (OfResult owner) = Some to_first
make_targets name = None

abbrev main_targets : Name → Option Target
main_targets (OfRegister owner (R.Expression (suc zero))) = None
main_targets (OfRegister owner (R.Temporary number)) = None
main_targets (OfRegister owner (R.Argument number)) = None
main_targets (OfRegister owner register) = Some to_first
main_targets name = None

abbrev no_targets : Name → Option Target
no_targets name = None

abbrev family_with : Node → Node → Family
family_with made gone =
    record {
      tac = tac;
      groups = (0 ∷ []) ∷ (1 ∷ []) ∷ [];
      graphs = record {
        graphs = record { nodes = Some made ∷ []; targets = make_targets } ∷ record { nodes = Some gone ∷ []; targets = main_targets } ∷ [];
        start = record { nodes = []; targets = no_targets };
        embedding = λ crossing node. if_first node;
      };
    }
  where
    if_first : ℕ → Option Target
    if_first zero = Some to_first
    if_first number = None

abbrev made : Node
made = list_node (OfType n) (flags true false false) next_edge

abbrev gone : Node
gone = list_node (OfType n) (flags true true true) next_edge

abbrev family : Family
family = family_with made gone

make_formals : formals_closed family (InFunction 0) 0 0 (parameters_of (Function (Pointer n) (MoreTypes (Integer I.Int) NoTypes))) ≡ true
make_formals = refl

make_closed : ops_closed family (InFunction 0) make_points ≡ true
make_closed = refl

main_closed : ops_closed family (InFunction 1) main_points ≡ true
main_closed = refl

start_closed : ops_closed family InStart (O.Call 0 (Known 1) [] ∷ O.Exit (Held (R.Call 0)) ∷ []) ≡ true
start_closed = refl

image_kept : node_kept family (InFunction 1) made gone 0 ≡ true
image_kept = refl

no_first : first_closed family 0 [] ≡ true
no_first = refl

-- ---- what isn't closed

without_edge : ops_closed (family_with (list_node (OfType n) (flags true false false) []) gone) (InFunction 0) make_points ≡ false
without_edge = refl

without_type : ops_closed (family_with (list_node Missing (flags true false false) next_edge) gone) (InFunction 0) make_points ≡ false
without_type = refl

without_written : ops_closed (family_with (list_node (OfType n) (flags false false false) next_edge) gone) (InFunction 0) make_points ≡ false
without_written = refl

without_read : ops_closed (family_with made (list_node (OfType n) (flags true false true) next_edge)) (InFunction 1) main_points ≡ false
without_read = refl

without_kept_flag : node_kept family (InFunction 1) made (list_node (OfType n) (flags false true true) next_edge) 0 ≡ false
without_kept_flag = refl
