-- Calls: what is asked of what is called and of the arguments, and their code.
use Rattle.std.proofs.Common.{◌≡◌, ℕ, suc, ◌+◌, Bool, true, if◌then◌else◌, List, Box, Vec, Global, Some, Result, Ok, Err, IfOk, sym, ap, ◌∙◌, subst}
use Rattle.std.proofs.lemmas.Option.{same_Some}
use Rattle.std.specs.declared.alloc.AllocError.{AllocError}
use Rattle.run_theory.specs.declared.place.Pos.{Pos}
use Rattle.c_typed.specs.declared.c_type.CType as number
use Rattle.c_typed.specs.declared.typed.LibraryFunction.{LibraryFunction}
use Rattle.c_typed.specs.declared.typed.Value as memory_value
use Rattle.c_typed.specs.declared.typed.Value.TheVariants as V
use Rattle.c_typed.specs.declared.typed.Designator as memory_designator
use Rattle.c_typed.specs.Types.{CTypes, Void, same_type}
use Rattle.c_typed.specs.Table.{Interned, Stands, type_in}
use Rattle.c_typed.specs.Typed as T
use Rattle.c_typed.specs.Typed.{Value}
use Rattle.c_typed.specs.Views.{value_in, designator_in, values_in}
use Rattle.c_typed.proofs.TypedStays.{ValuesStand-vec, value_in-call, value_in-library_call}
use Rattle.c_typed.specs.TypedNodes.{value_nodes, designator_nodes, values_nodes}
use Rattle.c_typed.specs.Expressions.{given, where_holds, all_scalar, result_of, type_of, types_of, type_of_designator}
use Rattle.c_typed.proofs.Splitting.{two_parts, called_parts}
use Rattle.tac_ir.specs.declared.register.Register.{Register}
use Rattle.tac_ir.specs.Code as C
use Rattle.tac_ir.specs.Views.{callee_in}
use Rattle.tac_build.specs.declared.builder.Builder.{Builder}
use Rattle.tac_build.specs.declared.names.Source.{Source}
use Rattle.tac_build.specs.declared.homes.Home as memory_home
use Rattle.tac_build.specs.declared.lowered.Lowered as memory_lowered
use Rattle.tac_build.specs.declared.lowered.Mode as memory_mode
use Rattle.tac_build.specs.declared.calls.Called.{Called}
use Rattle.tac_build.specs.Homes.{Scope, takes_called, takes_any}
use Rattle.tac_build.specs.Spots.{Mode, with_call}
use Rattle.tac_build.specs.Code.{Emits, call_gives, ValueCode, ArgumentsCode}
use Rattle.tac_build.specs.Building.{lowered_in, mode_of, IsFunctionType, Grows, spot_of, Leads}
use Rattle.tac_build.specs.Lowering.{program_in, types_of_source, scope_of, context_in, ValueTyped, DesignatorTyped, ValuesTyped, LibraryTyped, LieInMemory, ValueLives, LoweredHolds, ValueLowers, DesignatorLowers, ArgumentsLower, LibraryLowers}
use Rattle.tac_build.proofs.Points.{fills_grown, grows_on, grows_equal}
use Rattle.tac_build.proofs.Sources.{lies_left, lies_right}

-- growing: a name is given behind what is called
pub grows_called : (old mid named next new : Builder) → Grows old mid → named.points.items ≡ mid.points.items → Grows named next → Grows next new → Grows old new
grows_called old mid named next new first same second third = grows_on old next new (grows_on old named next (grows_on old mid named first (grows_equal mid named same)) second) third

module _ (source : Source) (scope : List memory_home.Home) where
  abbrev table : Interned
  table = types_of_source source

  abbrev homes : Scope
  homes = scope_of source scope

  -- ---- calls of functions of the program

  module _ (is_used : Bool) (place : Pos) (function : Box memory_designator.Designator Global) (c_type : number.CType) (arguments : Vec memory_value.Value Global) where
    abbrev call : memory_value.Value
    call = V.Call is_used place function c_type arguments

    abbrev tree : Value
    tree = T.Call is_used place (designator_in table function.value) (type_in table c_type) (values_in table arguments.items)

    pub record CallTyped : Type 0 where
      pub called : DesignatorTyped source scope function.value
      pub given_types : ValuesTyped source scope arguments.items
      pub scalars : (c_types : CTypes) → types_of (context_in source scope) (values_in table arguments.items) ≡ Some c_types → all_scalar c_types ≡ true
      pub stands : Stands table c_type
      pub is_function : IsFunctionType (type_in table c_type)

    pub call_tree : (value : memory_value.Value) → value ≡ call → value_in table value ≡ tree
    call_tree value is = ap (value_in table) is ∙ value_in-call table arguments is_used place function c_type

    pub call_nodes : (value : memory_value.Value) → value ≡ call → value_nodes (value_in table value) ≡ suc (designator_nodes (designator_in table function.value) + values_nodes (values_in table arguments.items))
    call_nodes value is = ap value_nodes (call_tree value is)

    pub call_typed : (value : memory_value.Value) → value ≡ call → ValueTyped source scope value → CallTyped
    call_typed value is h =
        let whole = subst (ValueTyped source scope) is h in
        let typed : type_of (context_in source scope) tree ≡ Some whole.c_type = ap (type_of (context_in source scope)) (sym (value_in-call table arguments is_used place function c_type)) ∙ whole.typed in
        let parts = two_parts (type_of_designator (context_in source scope) (designator_in table function.value)) (types_of (context_in source scope) (values_in table arguments.items))
        (λ u types. given (result_of types u) (λ result. where_holds (same_type u (type_in table c_type)) (if is_used then result else Void))) whole.c_type typed in
        let split = called_parts parts.b parts.a (type_in table c_type) is_used whole.c_type parts.gave in
        record {
          called = record { stands = whole.stands.0; c_type = parts.a; typed = parts.left };
          given_types = record { stand = ValuesStand-vec table arguments whole.stands.2; c_types = parts.b; typed = parts.right };
          scalars = λ c_types is. subst (λ u. all_scalar u ≡ true) (sym (same_Some c_types split.parameters (sym is ∙ parts.right ∙ ap Some split.passed))) split.takes_scalars;
          stands = whole.stands.1;
          is_function = subst IsFunctionType (sym split.called) tt;
        }

    pub call_lives : (mode : Mode) (value : memory_value.Value) → value ≡ call → ValueLives homes mode (value_in table value)
        → LieInMemory homes (λ number. takes_called number (designator_in table function.value)) × LieInMemory homes (λ number. takes_any number (values_in table arguments.items))
    call_lives mode value is h =
        let lie = (subst (ValueLives homes mode) (call_tree value is) h).taken in (
          lies_left homes (λ number. takes_called number (designator_in table function.value)) (λ number. takes_any number (values_in table arguments.items)) lie,
          lies_right homes (λ number. takes_called number (designator_in table function.value)) (λ number. takes_any number (values_in table arguments.items)) lie,
        )

    -- What is called comes, the call is named, the arguments come, and it is called.
    pub call_lowers : (mode : memory_mode.Mode) (value : memory_value.Value) (old mid named next new : Builder) (called : Called) (site : ℕ) (registers : List Register) (lowered : memory_lowered.Lowered) → value ≡ call
        → DesignatorLowers source scope function.value old mid called → site ≡ mid.counts.calls → ((any : Interned) → spot_of any named ≡ with_call (spot_of any mid)) → named.points.items ≡ mid.points.items
        → ArgumentsLower source scope arguments.items named next registers → Grows named next
        → Leads (λ any points. Emits points (C.Call site (callee_in any called.callee) registers)) next new → Grows next new
        → lowered_in table lowered ≡ call_gives is_used (type_in table c_type) site → LoweredHolds table lowered → ValueLowers source scope mode value old new lowered
    call_lowers mode value old mid named next new called site registers lowered is function_code at named_spot same arguments_code arguments_grows calls call_grows gives holds = (
      λ points fills.
          let fills_next = fills_grown table next new points call_grows fills in
          let fills_mid = fills_grown table mid next points (grows_on mid named next (grows_equal mid named same) arguments_grows) fills_next in
          let arguments_there = subst (λ spot. ArgumentsCode (program_in source) points homes (values_in table arguments.items) spot (spot_of table next) registers) (named_spot table) (arguments_code points fills_next) in
          let called_there = subst (λ n. Emits points (C.Call n (callee_in table called.callee) registers) (spot_of table next) (spot_of table new)) at (calls table points fills) in
          subst (λ v. ValueCode (program_in source) points homes (mode_of mode) v (spot_of table old) (spot_of table new) (lowered_in table lowered)) (sym (call_tree value is)) (
            spot_of table mid,
            spot_of table next,
            callee_in table called.callee,
            type_in table called.c_type,
            registers,
            function_code.0 points fills_mid,
            arguments_there,
            called_there,
            gives ∙ ap (call_gives is_used (type_in table c_type)) at,
          ),
      holds,
    )

    pub call_done : (mode : memory_mode.Mode) (value : memory_value.Value) (old mid named next new : Builder) (called : Called) (site : ℕ) (registers : List Register) (types : Interned)
        (result : Result memory_lowered.Lowered AllocError) → value ≡ call → types ≡ table
        → DesignatorLowers source scope function.value old mid called → site ≡ mid.counts.calls → ((any : Interned) → spot_of any named ≡ with_call (spot_of any mid)) → named.points.items ≡ mid.points.items
        → ArgumentsLower source scope arguments.items named next registers → Grows named next
        → Leads (λ any points. Emits points (C.Call site (callee_in any called.callee) registers)) next new → Grows next new
        → IfOk result (λ lowered. lowered_in types lowered ≡ call_gives is_used (type_in types c_type) site) → IfOk result (LoweredHolds types) → IfOk result (ValueLowers source scope mode value old new)
    call_done mode value old mid named next new called site registers types (Ok lowered) is at_table function_code at named_spot same arguments_code arguments_grows calls call_grows gives holds =
        call_lowers mode value old mid named next new called site registers lowered is function_code at named_spot same arguments_code arguments_grows calls call_grows
        (subst (λ t. lowered_in t lowered ≡ call_gives is_used (type_in t c_type) site) at_table gives) (subst (λ t. LoweredHolds t lowered) at_table holds)
    call_done mode value old mid named next new called site registers types (Err fault) is at_table function_code at named_spot same arguments_code arguments_grows calls call_grows gives holds = tt

  -- ---- calls of the library

  module _ (function : LibraryFunction) (groups : ℕ) (place : Pos) (arguments : Vec memory_value.Value Global) where
    abbrev library : memory_value.Value
    library = V.LibraryCall function groups place arguments

    pub library_tree : (value : memory_value.Value) → value ≡ library → value_in table value ≡ T.LibraryCall function groups place (values_in table arguments.items)
    library_tree value is = ap (value_in table) is ∙ value_in-library_call table arguments function groups place

    pub library_nodes : (value : memory_value.Value) → value ≡ library → value_nodes (value_in table value) ≡ suc (values_nodes (values_in table arguments.items))
    library_nodes value is = ap value_nodes (library_tree value is)

    pub library_typed : (value : memory_value.Value) → value ≡ library → ValueTyped source scope value → LibraryTyped source scope function arguments.items
    library_typed value is h =
        let whole = subst (ValueTyped source scope) is h in
        record {
          stand = ValuesStand-vec table arguments whole.stands;
          c_type = whole.c_type;
          typed = ap (type_of (context_in source scope)) (sym (value_in-library_call table arguments function groups place)) ∙ whole.typed;
        }

    pub library_lives : (mode : Mode) (value : memory_value.Value) → value ≡ library → ValueLives homes mode (value_in table value) → LieInMemory homes (λ number. takes_any number (values_in table arguments.items))
    library_lives mode value is h = (subst (ValueLives homes mode) (library_tree value is) h).taken

    pub library_lowers : (mode : memory_mode.Mode) (value : memory_value.Value) (old new : Builder) (lowered : memory_lowered.Lowered) → value ≡ library → LibraryLowers source scope function arguments.items old new lowered
        → ValueLowers source scope mode value old new lowered
    library_lowers mode value old new lowered is lowers =
        (λ points fills. subst (λ v. ValueCode (program_in source) points homes (mode_of mode) v (spot_of table old) (spot_of table new) (lowered_in table lowered)) (sym (library_tree value is)) (lowers.0 points fills), lowers.1)
