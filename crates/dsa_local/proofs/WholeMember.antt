-- A function's names, and then those with which its paths begin.
use Rattle.std.proofs.Common.{◌≡◌, ℕ, List, map, option_map, Option, Some, None, refl, sym, ap, subst, ◌∙◌}
use Rattle.std.specs.Prelude.{slice_get, Result, Ok, Err, OnOk}
use Rattle.std.proofs.lemmas.Option.{none-some, same_Some, slice_get-map}
use Rattle.c_typed.specs.Table.{Interned, structs_in, type_in}
use Rattle.tac_ir.specs.declared.program.LocalObject as memory_object
use Rattle.tac_ir.specs.declared.program.Function as memory_function
use Rattle.tac_ir.specs.declared.program.Tac as memory_tac
use Rattle.tac_ir.specs.Code.{LocalObject, Function, Tac}
use Rattle.tac_ir.specs.States.{Owner, InFunction, function_of}
use Rattle.tac_ir.specs.Views.{object_in, function_in, tac_of}
use Rattle.heap_graph.specs.Graphs.{Graph}
use Rattle.graph_unification.specs.GraphNames.First.{first_node, HasSlot, ObjectsHaveSlots, AddsFunction}
use Rattle.graph_unification.proofs.Missing.{some_stay}
use Rattle.dsa_local.specs.Beginning.{Covers, HaveTargets, AddsCovered, CoversOps, OpsHave, AddsOps, CoversFunction, FunctionHas, AddsMember, CoversOwner, OwnerHas, AddsOwner}
use Rattle.dsa_local.proofs.Covered.{some_covered, have_stays, nothing_added, then_added}

function_covered : (old new : Graph) (owner : Owner) (function : Function) → AddsFunction old new owner function
    → AddsCovered (Covers (first_node owner function)) (HaveTargets (first_node owner function)) old new
function_covered old new owner function its = record {
  adds = λ first covers. some_covered (first_node owner function) first old new covers its.adds;
  has = its.has;
  stays = λ name h. some_stay (first_node owner function) old new name its.adds h;
}

pub member_added : (tac : Tac) (owner : Owner) (function : Function) (old middle new : Graph) → AddsFunction old middle owner function → AddsOps tac function.points middle new
    → AddsMember tac owner function old new
member_added tac owner function old middle new first then =
    then_added (CoversFunction tac owner function) (Covers (first_node owner function)) (CoversOps tac function.points) (FunctionHas tac owner function) (HaveTargets (first_node owner function)) (OpsHave tac function.points)
    old middle new (λ by covers. covers.own) (λ by covers. covers.outside)
    (λ stays before after. record { own = have_stays (first_node owner function) middle new stays before; outside = after })
    (function_covered old middle owner function first) then

pub on_ok_member : {E : Type 0} (result : Result (Unit {0}) E) (tac : Tac) (owner : Owner) (function : Function) (old middle new : Graph) → AddsFunction old middle owner function
    → OnOk result (AddsOps tac function.points middle new) → OnOk result (AddsMember tac owner function old new)
on_ok_member (Ok x) tac owner function old middle new first then = member_added tac owner function old middle new first then
on_ok_member (Err e) tac owner function old middle new first then = tt

-- ---- functions that may be there

pub on_ok_owner : {E : Type 0} (result : Result (Unit {0}) E) (tac : Tac) (owner : Owner) (function : Function) (old new : Graph) → function_of tac owner ≡ Some function
    → OnOk result (AddsMember tac owner function old new) → OnOk result (AddsOwner tac owner old new)
on_ok_owner (Ok x) tac owner function old new there its = record {
  adds = λ first covers. its.adds first (covers function there);
  has = λ other is. subst (λ f. FunctionHas tac owner f new) (same_Some function other (sym there ∙ is)) its.has;
  stays = its.stays;
}
on_ok_owner (Err e) tac owner function old new there its = tt

pub no_owner : (tac : Tac) (owner : Owner) (graph : Graph) → function_of tac owner ≡ None → AddsOwner tac owner graph graph
no_owner tac owner graph none = nothing_added (CoversOwner tac owner) (OwnerHas tac owner) graph (λ function is. absurd (none-some function (sym none ∙ is)))

-- ---- functions in memory

pub function_there : (tac : memory_tac.Tac) (number : ℕ) (found : memory_function.Function) → slice_get tac.functions.items number ≡ Some found
    → function_of (tac_of tac) (InFunction number) ≡ Some (function_in tac.types found)
function_there tac number found is = slice_get-map (function_in tac.types) tac.functions.items number ∙ ap (option_map (function_in tac.types)) is

pub no_function : (tac : memory_tac.Tac) (number : ℕ) → slice_get tac.functions.items number ≡ None → function_of (tac_of tac) (InFunction number) ≡ None
no_function tac number none = slice_get-map (function_in tac.types) tac.functions.items number ∙ ap (option_map (function_in tac.types)) none

pub objects_slots : (table : Interned) (objects : List memory_object.LocalObject)
    → ((number : ℕ) (object : LocalObject) → slice_get (map (object_in table) objects) number ≡ Some object → HasSlot (structs_in table) object.c_type)
    → ObjectsHaveSlots (structs_in table) (map (λ (object : memory_object.LocalObject). type_in table object.c_type) objects)
objects_slots table objects have number c_type is = by (slice_get objects number) refl
  where
    by : (o : Option memory_object.LocalObject) → slice_get objects number ≡ o → HasSlot (structs_in table) c_type
    by None e =
        absurd (none-some c_type
        (sym (slice_get-map (λ (object : memory_object.LocalObject). type_in table object.c_type) objects number ∙ ap (option_map (λ (object : memory_object.LocalObject). type_in table object.c_type)) e) ∙ is))
    by (Some object) e =
        subst (HasSlot (structs_in table))
        (same_Some (type_in table object.c_type) c_type
        (sym (slice_get-map (λ (o : memory_object.LocalObject). type_in table o.c_type) objects number ∙ ap (option_map (λ (o : memory_object.LocalObject). type_in table o.c_type)) e) ∙ is))
        (have number (object_in table object) (slice_get-map (object_in table) objects number ∙ ap (option_map (object_in table)) e))
