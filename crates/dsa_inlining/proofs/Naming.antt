-- What a call passes and is given has targets where the names of the owner do.
use Rattle.std.proofs.Common.{◌≡◌, ℕ, zero, suc, ◌<◌, List, [], ◌∷◌, length, get_or, option_map, Option, Some, None, ap, subst, ◌∙◌}
use Rattle.std.specs.Prelude.{slice_get}
use Rattle.std.specs.List.{AllByRecursion}
use Rattle.std.proofs.lemmas.Option.{none-some, same_Some, slice_get-map, slice_get-get_or}
use Rattle.tac_ir.specs.declared.register.FunctionId.{FunctionId}
use Rattle.tac_ir.specs.declared.register.Register.{Register}
use Rattle.tac_ir.specs.declared.register.Register.TheVariants as R
use Rattle.tac_ir.specs.Code as O
use Rattle.tac_ir.specs.Code.{Callee, Tac}
use Rattle.tac_ir.specs.declared.program.Function as memory_function
use Rattle.tac_ir.specs.declared.program.Tac as memory_tac
use Rattle.tac_ir.specs.States.{Owner, function_of}
use Rattle.tac_ir.specs.Views.{function_in, tac_of}
use Rattle.graph_unification.specs.Memory.{owner_of}
use Rattle.call_graph.specs.RowLists.{Has}
use Rattle.dsa_inlining.specs.Owners.{function_at}
use Rattle.heap_graph.specs.Structures.{AreMade}
use Rattle.heap_graph.specs.Graphs.{OfRegister, Graph}
use Rattle.heap_graph.specs.Merging.{IsSound}
use Rattle.call_graph.specs.ClassLists.{numbers_of}
use Rattle.graph_unification.proofs.Staying.{has_kept}
use Rattle.graph_unification.specs.Going.{GoesOn}
use Rattle.graph_unification.specs.Standing.{IsOwn, OpStands, CodeStands}
use Rattle.graph_unification.proofs.Kept.{names_kept}
use Rattle.dsa_inlining.specs.Crossed.{CallNamed}
use Rattle.dsa_inlining.specs.CallSteps.{IsPoint, OwnerNamed, CallOut}
use Rattle.dsa_inlining.specs.Before.{GraphsBefore}
use Rattle.dsa_inlining.specs.Crossings.{AreReached}
use Rattle.dsa_inlining.specs.Live.{AreLiveTargets}

at_each : {X : Type 0} (P : X → Type 0) (xs : List X) → AllByRecursion P xs → (at : ℕ) (x : X) → slice_get xs at ≡ Some x → P x
at_each P [] all at x is = absurd (none-some x is)
at_each P (first ∷ others) all zero x is = subst P (same_Some first x is) all.0
at_each P (first ∷ others) all (suc at) x is = at_each P others all.1 at x is

pub point_named : (tac : Tac) (owner : Owner) (site : ℕ) (callee : Callee) (arguments : List Register) → CodeStands tac → IsPoint tac owner (O.Call site callee arguments) → (graph : Graph) → OwnerNamed tac owner graph
    → CallNamed owner site arguments graph
point_named tac owner site callee arguments code own graph named =
    let its = named own.function own.is in
    let standing = at_each (OpStands tac owner own.function) own.function.points (code.functions owner own.function own.is).points own.at (O.Call site callee arguments) own.point in
    record {
      passed = λ number argument at. its.registers argument (at_each (IsOwn tac owner own.function) arguments standing.1 number argument at);
      call = its.registers (R.Call site) standing.0;
    }

module _ (tac : Tac) (made : AreMade tac.structs) (old new : Graph) (sound : IsSound tac.structs old) (goes : GoesOn tac.structs old new) where
  -- they have as the graph goes on
  pub call_named_kept : (owner : Owner) (site : ℕ) (arguments : List Register) → CallNamed owner site arguments old → CallNamed owner site arguments new
  call_named_kept owner site arguments its = record {
    passed = λ number argument at. has_kept tac.structs made old new goes.map sound goes.maps (OfRegister owner argument) (its.passed number argument at);
    call = has_kept tac.structs made old new goes.map sound goes.maps (OfRegister owner (R.Call site)) its.call;
  }

  pub owner_named_kept : (owner : Owner) → OwnerNamed tac owner old → OwnerNamed tac owner new
  owner_named_kept owner named = λ function is. names_kept tac made old new sound goes owner function (named function is)

-- ---- numbers of functions

abbrev pub no_function : FunctionId
no_function = record { 0 = 0 }

pub number_at : (functions : List FunctionId) (i : ℕ) → i < length functions → slice_get (numbers_of functions) i ≡ Some (get_or functions i no_function).0
number_at functions i less = slice_get-map (λ (f : FunctionId). f.0) functions i ∙ ap (option_map (λ (f : FunctionId). f.0)) (slice_get-get_or functions i no_function less)

-- what is in memory of an owner's function
pub function_there : (tac : memory_tac.Tac) (owner : Option FunctionId) (function : memory_function.Function) → function_at tac (owner_of owner) ≡ Some function
    → function_of (tac_of tac) (owner_of owner) ≡ Some (function_in tac.types function)
function_there tac None function is = ap (option_map (function_in tac.types)) is
function_there tac (Some id) function is = slice_get-map (function_in tac.types) tac.functions.items id.0 ∙ ap (option_map (function_in tac.types)) is

-- where a point calls functions outside the group from which something escapes, these are known
pub targets_out : (before : GraphsBefore) (group : Option ℕ) (owner : Owner) (site : ℕ) (callee : Callee) (arguments : List Register) → AreReached before group owner
    → IsPoint (tac_of before.tac) owner (O.Call site callee arguments) → (targets : List ℕ) → AreLiveTargets before callee targets → (called : ℕ) → Has targets called → CallOut before group owner site called
targets_out before group owner site callee arguments reached own targets are called has = λ out.
    let its = (are.each called).0 has in (
      record { function = own.function; is = own.is; at = own.at; callee = callee; arguments = arguments; call = own.point; target = its.0; out = out; live = its.1 },
      reached own.function own.at site callee arguments called own.is own.point its.0 out,
    )
