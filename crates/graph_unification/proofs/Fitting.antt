-- Where a function's code stands and a graph has its names, each of its points fits the graph.
use Rattle.std.proofs.Common.{◌≡◌, ℕ, ◌<◌, ◌≤◌, true, false, List, [], ◌∷◌, length, get_or, Some, None, sym, ap, subst, ◌∙◌, ◌⊎◌, inl, inr, arith}
use Rattle.std.specs.Prelude.{slice_get}
use Rattle.std.specs.List.{AllByRecursion}
use Rattle.std.proofs.lemmas.Bool.{false≢true}
use Rattle.std.proofs.lemmas.Option.{slice_get_cases}
use Rattle.c_typed.specs.Types.{literal_type}
use Rattle.c_typed.specs.Layouts.{is_complete}
use Rattle.tac_ir.specs.declared.register.Register.{Register}
use Rattle.tac_ir.specs.declared.register.Register.TheVariants as R
use Rattle.tac_ir.specs.Code as O
use Rattle.tac_ir.specs.Code.{Base, AtLocal, AtGlobal, AtLiteral, Pointed, Indexed, Path, IntegerOperand, PointerOperand, Function, Op, Tac}
use Rattle.tac_ir.specs.Objects.{own_type, global_type, literal_object}
use Rattle.tac_ir.specs.States.{Owner, function_of, objects_of}
use Rattle.heap_graph.specs.Graphs.{OfObject, OfGlobal, OfLiteral, Graph}
use Rattle.heap_graph.specs.Parts.{slots_of}
use Rattle.heap_graph.specs.Targets.{has_target, at_target, holds_part, elements_of}
use Rattle.heap_graph.specs.Points.{type_of_inner, base_part}
use Rattle.heap_graph.specs.Closed.{no_graph}
use Rattle.graph_unification.specs.Fits.{is_object, LeadsToPart, has_own, PathFits, SlotsFit, TakesFit, OpFits, AllFit}
use Rattle.graph_unification.proofs.Staying.{base_typed_by_code}
use Rattle.graph_unification.specs.Standing.{IsOwn, BaseStands, PathStands, AccessStands, TakesStand, OpStands, FunctionStands}
use Rattle.graph_unification.specs.Named.{BaseNamed, OpNamed, HasNames}

-- what stands at a number below the length of a list
pub found_below : {X : Type 0} (xs : List X) (number : ℕ) → number < length xs → (x : X) × (slice_get xs number ≡ Some x)
found_below {X} xs number less = by (slice_get_cases xs number).1
  where
    by : ((x : X) × (number < length xs) × (slice_get xs number ≡ Some x) × (get_or xs number x ≡ x)) ⊎ ((length xs ≤ number) × (slice_get xs number ≡ None)) → (x : X) × (slice_get xs number ≡ Some x)
    by (inl is) = (is.0, is.2)
    by (inr past) = absurd (omega (arith, less, past.0))

module _ (tac : Tac) (graph : Graph) (owner : Owner) (function : Function) (at : function_of tac owner ≡ Some function) (names : HasNames tac graph owner function) where
  own_has : (register : Register) → IsOwn tac owner function register → has_own tac graph owner register ≡ true
  own_has register is = names.registers register is

  -- ---- paths

  record BaseFits (base : Base) : Type 0 where
    based : is_object base ≡ true → has_target (base_part tac graph owner base).target ≡ true
    object : is_object base ≡ true → at_target graph (base_part tac graph owner base).target (holds_part tac.structs (elements_of (base_part tac graph owner base).c_type)) ≡ true

  base_fits : (base : Base) → BaseStands tac owner function base → BaseNamed tac graph base → BaseFits base
  base_fits (AtLocal local) stands named =
      let both = names.objects local stands.0 stands.1 in
      let same : type_of_inner (own_type (objects_of (function_of tac owner)) local) ≡ stands.0.c_type =
      ap (λ f. type_of_inner (own_type (objects_of f) local)) at ∙ ap type_of_inner stands.1 in
      record {
        based = λ is. both.0;
        object = λ is. subst (λ t. at_target graph (graph.targets (OfObject owner local)) (holds_part tac.structs (elements_of t)) ≡ true) (sym same) both.1;
      }
  base_fits (AtGlobal number) less named =
      let found = found_below tac.globals number less in
      let same : type_of_inner (global_type (slice_get tac.globals number)) ≡ found.0.c_type = ap (λ o. type_of_inner (global_type o)) found.1 in
      record {
        based = λ is. named.has;
        object = λ is. subst (λ t. at_target graph (graph.targets (OfGlobal number)) (holds_part tac.structs (elements_of t)) ≡ true) (sym same) (named.part found.0 found.1);
      }
  base_fits (AtLiteral number) less named =
      let found = found_below tac.literals number less in
      let same : type_of_inner (literal_object (slice_get tac.literals number)) ≡ literal_type found.0.bytes = ap (λ o. type_of_inner (literal_object o)) found.1 in
      record {
        based = λ is. named.has;
        object = λ is. subst (λ t. at_target graph (graph.targets (OfLiteral number)) (holds_part tac.structs (elements_of t)) ≡ true) (sym same) (named.part found.0 found.1);
      }
  base_fits (Pointed pointer target) stands named = record { based = λ is. absurd (false≢true is); object = λ is. absurd (false≢true is) }
  base_fits (Indexed pointer target number) stands named = record { based = λ is. absurd (false≢true is); object = λ is. absurd (false≢true is) }

  path_fits : (path : Path) → PathStands tac owner function path → BaseNamed tac graph path.base → PathFits tac graph owner path
  path_fits path stands named =
      let its = base_fits path.base stands.base named in
      record {
        based = its.based;
        object = its.object;
        leads = λ is. subst (LeadsToPart tac.structs path.base path.steps) (base_typed_by_code tac no_graph graph owner path.base) (stands.leads is);
      }

  slots_fit : (path : Path) → AccessStands tac owner function path → SlotsFit tac graph owner path
  slots_fit path stands = subst (λ t. is_object path.base ≡ false → is_complete tac.structs t ≡ true → 0 < slots_of tac.structs t) (base_typed_by_code tac no_graph graph owner path.base) stands.slots

  access_fits : (path : Path) → AccessStands tac owner function path → BaseNamed tac graph path.base → PathFits tac graph owner path × SlotsFit tac graph owner path
  access_fits path stands named = (path_fits path stands.stands named, slots_fit path stands)

  -- ---- points

  takes_fit : (to from : Register) → TakesStand tac owner function to from → TakesFit tac graph owner (has_own tac graph owner to) from
  takes_fit to from stands = λ some. let both = stands some in (own_has to both.0, own_has from both.1)

  op_fits : (op : Op) → OpStands tac owner function op → OpNamed tac graph op → OpFits tac graph owner op
  op_fits (O.Copy to from) stands named = takes_fit to from stands
  op_fits (O.Move to from element is_minus number) stands named = takes_fit to from stands
  op_fits (O.Repoint to target from) stands named = (takes_fit to from stands.0, stands.1)
  op_fits (O.AddressOf to path) stands named = (own_has to stands.0, path_fits path stands.1 named)
  op_fits (O.Load to scalar path) stands named = (λ is. own_has to (stands.0 is), access_fits path stands.1 named)
  op_fits (O.Store path scalar (IntegerOperand tree)) stands named = (tt, access_fits path stands.1 named)
  op_fits (O.Store path scalar (PointerOperand register)) stands named = (λ is some. own_has register (stands.0 is some), access_fits path stands.1 named)
  op_fits (O.Allocate site size) stands named = own_has (R.Call site) stands
  op_fits (O.Return None) stands named = tt
  op_fits (O.Return (Some (IntegerOperand tree))) stands named = tt
  op_fits (O.Return (Some (PointerOperand register))) stands named = λ some. (names.result, own_has register (stands some))
  op_fits O.Reserved stands named = tt
  op_fits (O.Jump to) stands named = tt
  op_fits (O.Branch int_type condition holds fails) stands named = tt
  op_fits (O.Assign to tree) stands named = tt
  op_fits (O.Null to) stands named = tt
  op_fits (O.FunctionAddress to callee) stands named = tt
  op_fits (O.Test to pointer) stands named = tt
  op_fits (O.Difference to element left right) stands named = tt
  op_fits (O.ComparePointers to relation left right) stands named = tt
  op_fits (O.Free site pointer) stands named = tt
  op_fits (O.Call site callee arguments) stands named = tt
  op_fits (O.GetChar site) stands named = tt
  op_fits (O.PutChar site value) stands named = tt
  op_fits (O.Exit status) stands named = tt

  all_fit : (ops : List Op) → AllByRecursion (OpStands tac owner function) ops → AllByRecursion (OpNamed tac graph) ops → AllFit tac graph owner ops
  all_fit [] stand named = tt
  all_fit (op ∷ ops) stand named = (op_fits op stand.0 named.0, all_fit ops stand.1 named.1)

-- each point of the function fits
pub code_fits : (tac : Tac) (graph : Graph) (owner : Owner) (function : Function) → FunctionStands tac owner function → function_of tac owner ≡ Some function → HasNames tac graph owner function
    → AllFit tac graph owner function.points
code_fits tac graph owner function stands at names = all_fit tac graph owner function at names function.points stands.points names.outside
