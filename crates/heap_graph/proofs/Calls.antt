-- What the points of a function ask is what those ask that are no calls, and what calls ask.
use Rattle.std.proofs.Common.{◌≡◌, Bool, true, false, List, [], ◌∷◌, refl, sym, ◌∙◌}
use Rattle.std.specs.Prelude.{◌&&◌}
use Rattle.std.proofs.lemmas.Bool.{and_parts, and_from}
use Rattle.tac_ir.specs.Code as O
use Rattle.tac_ir.specs.Code.{Op}
use Rattle.tac_ir.specs.States.{Owner}
use Rattle.heap_graph.specs.Points.{point_closed}
use Rattle.heap_graph.specs.Closed.{Family, graph_of, mentions_closed, op_closed, ops_closed}
use Rattle.heap_graph.specs.Calls.{call_point_closed, calls_closed}
use Rattle.heap_graph.specs.Plain.{plain_closed}

and_true : (a : Bool) → a ≡ (a && true)
and_true true = refl
and_true false = refl

-- (a and (b and c)) and the rest, in another order
regroup : (a b c d e : Bool) → (a && ((b && c) && (d && e))) ≡ (((a && b) && d) && (c && e))
regroup false b c d e = refl
regroup true false c d e = refl
regroup true true false false e = refl
regroup true true false true e = refl
regroup true true true d e = refl

module _ (family : Family) (owner : Owner) where
  op_both : (op : Op) → op_closed family owner op ≡ (point_closed family.tac (graph_of family owner) owner op && call_point_closed family owner op)
  op_both O.Reserved = refl
  op_both (O.Jump to) = refl
  op_both (O.Branch int_type condition holds fails) = refl
  op_both (O.Assign to tree) = refl
  op_both (O.Null to) = refl
  op_both (O.FunctionAddress to function) = refl
  op_both (O.Copy to from) = and_true _
  op_both (O.Test to pointer) = refl
  op_both (O.Move to pointer element is_minus number) = and_true _
  op_both (O.Difference to element left right) = refl
  op_both (O.ComparePointers to relation left right) = refl
  op_both (O.Repoint to target from) = and_true _
  op_both (O.AddressOf to path) = and_true _
  op_both (O.Load to scalar path) = and_true _
  op_both (O.Store path scalar value) = and_true _
  op_both (O.Allocate site size) = and_true _
  op_both (O.Free site pointer) = refl
  op_both (O.Call site callee arguments) = refl
  op_both (O.GetChar site) = refl
  op_both (O.PutChar site value) = refl
  op_both (O.Exit status) = refl
  op_both (O.Return value) = and_true _

  pub ops_both : (ops : List Op) → ops_closed family owner ops ≡ (plain_closed family.tac family owner ops && calls_closed family owner ops)
  ops_both [] = refl
  ops_both (op ∷ ops) =
      (λ i. mentions_closed family owner op && (op_both op i && ops_both ops i))
      ∙ regroup (mentions_closed family owner op) (point_closed family.tac (graph_of family owner) owner op) (call_point_closed family owner op) (plain_closed family.tac family owner ops) (calls_closed family owner ops)

  -- where both hold, points are closed
  pub ops_split : (ops : List Op) → plain_closed family.tac family owner ops ≡ true → calls_closed family owner ops ≡ true → ops_closed family owner ops ≡ true
  ops_split ops plain calls = ops_both ops ∙ and_from (plain_closed family.tac family owner ops) (calls_closed family owner ops) plain calls

  -- and where points are closed, both hold
  pub ops_parts : (ops : List Op) → ops_closed family owner ops ≡ true → (plain_closed family.tac family owner ops ≡ true) × (calls_closed family owner ops ≡ true)
  ops_parts ops closed = and_parts (plain_closed family.tac family owner ops) (calls_closed family owner ops) (sym (ops_both ops) ∙ closed)
