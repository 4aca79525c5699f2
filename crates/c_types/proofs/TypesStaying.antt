-- What definitions stand for stays where each type stays, whatever becomes of the structures.
use Rattle.std.proofs.Common.{◌≡◌, List, [], ◌∷◌, map, refl}
use Rattle.c_typed.specs.declared.c_type.CType as number
use Rattle.c_typed.specs.declared.definition.GlobalDef as memory_global
use Rattle.c_typed.specs.declared.definition.FunctionDef as memory_function
use Rattle.c_typed.specs.Table.{Interned, type_in}
use Rattle.c_typed.specs.DefinitionViews.{global_in, function_in, all_first, TypesStand, GlobalsStand, FunctionStands, FunctionsStand}
use Rattle.c_typed.proofs.TypedStays.{TypesStay}
use Rattle.c_typed.proofs.StatementsStay.{block_keeps}

module _ (old new : Interned) (keeps : TypesStay old new) where
  types_stay : (ts : List number.CType) → TypesStand old ts → TypesStand new ts × (map (type_in new) ts ≡ map (type_in old) ts)
  types_stay [] h = (tt, refl)
  types_stay (first ∷ others) h =
      let one = keeps first h.0 in
      let rest = types_stay others h.1 in
      ((one.0, rest.0), λ i. one.1 i ∷ rest.1 i)

  -- ---- definitions

  pub globals_stay : (globals : List memory_global.GlobalDef) → GlobalsStand old globals → GlobalsStand new globals × (map (global_in new) globals ≡ map (global_in old) globals)
  globals_stay [] h = (tt, refl)
  globals_stay (first ∷ others) h =
      let one = keeps first.c_type h.0 in
      let rest = globals_stay others h.1 in
      let same : global_in new first ≡ global_in old first = λ i. record { name = first.name; c_type = one.1 i; first = all_first first.first.items } in
      ((one.0, rest.0), λ i. same i ∷ rest.1 i)

  function_stays : (function : memory_function.FunctionDef) → FunctionStands old function → FunctionStands new function × (function_in new function ≡ function_in old function)
  function_stays function h =
      let c_type = keeps function.c_type h.0 in
      let parameters = types_stay function.parameters.items h.1 in
      let result = keeps function.returned h.2 in
      let body = block_keeps old new keeps function.body.items h.3 in
      ((c_type.0, parameters.0, result.0, body.0), λ i. record { name = function.name; c_type = c_type.1 i; parameters = parameters.1 i; result = result.1 i; body = body.1 i })

  pub functions_stay : (functions : List memory_function.FunctionDef) → FunctionsStand old functions → FunctionsStand new functions × (map (function_in new) functions ≡ map (function_in old) functions)
  functions_stay [] h = (tt, refl)
  functions_stay (first ∷ others) h =
      let one = function_stays first h.0 in
      let rest = functions_stay others h.1 in
      ((one.0, rest.0), λ i. one.1 i ∷ rest.1 i)
