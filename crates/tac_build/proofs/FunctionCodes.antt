-- The code of a function: that of its parameters, of its body, and its end.
use Rattle.std.proofs.Common.{◌≡◌, ℕ, zero, suc, ◌≤◌, Bool, true, false, ◌&&◌, ◌||◌, List, [], ◌∷◌, length, map, drop, sym, ap, ◌∙◌, subst, arith}
use Rattle.std.proofs.lemmas.Bool.{and_parts}
use Rattle.std.proofs.lemmas.List.{append-nil, length-map}
use Rattle.c_typed.specs.declared.c_type.CType as number
use Rattle.c_typed.specs.declared.definition.FunctionDef as memory_definition
use Rattle.c_typed.specs.Types.{CType, same_type, is_void}
use Rattle.c_typed.specs.Table.{Interned, type_in}
use Rattle.c_typed.specs.Typed.{FunctionDef}
use Rattle.c_typed.specs.StatementViews.{block_in}
use Rattle.c_typed.specs.DefinitionViews.{TypesStand, function_in}
use Rattle.c_typed.specs.TypedNodes.{block_nodes}
use Rattle.c_typed.specs.Expressions.{is_scalar}
use Rattle.c_typed.specs.Statements.{Within, is_block}
use Rattle.c_typed.specs.Programs.{function_of, are_scalars, with_parameters}
use Rattle.tac_ir.specs.declared.program.Counts.{Counts}
use Rattle.tac_ir.specs.declared.program.Function as memory_function
use Rattle.tac_ir.specs.Views.{op_in, object_in}
use Rattle.tac_build.specs.declared.builder.Builder.{Builder}
use Rattle.tac_build.specs.declared.names.Source.{Source}
use Rattle.tac_build.specs.declared.addressed.Addressed.{Addressed}
use Rattle.tac_build.specs.declared.statements.Ways as memory_ways
use Rattle.tac_build.specs.declared.homes.Home as memory_home
use Rattle.tac_build.specs.Homes.{takes_block}
use Rattle.tac_build.specs.Code.{Emits}
use Rattle.tac_build.specs.StatementCode.{Ways, BlockCode}
use Rattle.tac_build.specs.ProgramCode.{ParametersCode, first_spot, end_of}
use Rattle.tac_build.specs.Taken.{taken_block}
use Rattle.tac_build.specs.Building.{Fills, Grows, points_in, spot_of, names_of, Leads, HasRoom}
use Rattle.tac_build.specs.Lowering.{names_for, program_in, types_of_source, scope_of, context_in, IsScope, LieInMemory}
use Rattle.tac_build.specs.LoweringStatements.{BlockTyped, Foretold, BlockLowers}
use Rattle.tac_build.specs.LoweringDefinitions.{parameter_homes, ParametersLower, FunctionTyped, FunctionLowers}
use Rattle.tac_build.proofs.Points.{fills_same, fills_grown}
use Rattle.tac_build.proofs.Parameters.{parameters_scope, parameters_lie, parameters_types, parameters_long}

-- no registers
abbrev none : Counts
none = record { variables = 0; calls = 0; arguments = 0; expressions = 0; temporaries = 0 }

module _ (source : Source) (definition : memory_definition.FunctionDef) (typed : FunctionTyped source definition) where
  abbrev table : Interned
  table = types_of_source source

  abbrev tree : FunctionDef
  tree = function_in (types_of_source source) definition

  abbrev homes : List memory_home.Home
  homes = parameter_homes (types_of_source source) (block_in (types_of_source source) definition.body.items) 0 definition.parameters.items

  abbrev within : Within
  within = record { result = tree.result; may_break = false; may_continue = false }

  abbrev own : Bool
  own = same_type tree.c_type (function_of tree.result tree.parameters) && (is_scalar tree.result || is_void tree.result)

  parts : ((own && are_scalars tree.parameters) ≡ true) × (is_block (record { program = program_in source; locals = with_parameters tree.parameters [] }) within tree.body ≡ true)
  parts = and_parts (own && are_scalars tree.parameters) (is_block (record { program = program_in source; locals = with_parameters tree.parameters [] }) within tree.body) typed.typed

  pub parameters_stand : TypesStand (types_of_source source) definition.parameters.items
  parameters_stand = typed.stands.1

  pub parameters_scalar : are_scalars (map (type_in (types_of_source source)) definition.parameters.items) ≡ true
  parameters_scalar = (and_parts own (are_scalars tree.parameters) parts.0).1

  module _ (scope : List memory_home.Home) (is_scope : scope ≡ parameter_homes (types_of_source source) (block_in (types_of_source source) definition.body.items) 0 definition.parameters.items) where
    pub body_scope : IsScope source scope
    body_scope = subst (IsScope source) (sym is_scope) (parameters_scope source tree.body definition.parameters.items parameters_stand)

    pub body_typed : (within : Within) × BlockTyped source scope within definition.body.items
    body_typed =
        let around : context_in source scope ≡ record { program = program_in source; locals = with_parameters tree.parameters [] } =
        ap (context_in source) is_scope ∙ (λ i. record { program = program_in source; locals = parameters_types table tree.body definition.parameters.items i }) in
        (within, record { stand = typed.stands.3; typed = ap (λ around. is_block around within tree.body) around ∙ parts.1 })

    pub body_lives : LieInMemory (scope_of source scope) (λ number. takes_block number (block_in (types_of_source source) definition.body.items))
    body_lives = subst (λ scope. LieInMemory (scope_of source scope) (λ number. takes_block number tree.body)) (sym is_scope) (parameters_lie source tree.body definition.parameters.items parameters_stand)

    pub body_foretold : (addressed : Addressed) (from : ℕ) → addressed.variables.items ≡ taken_block (length definition.parameters.items) (block_in (types_of_source source) definition.body.items) → from ≡ 0
        → Foretold addressed from (taken_block (length scope) (block_in (types_of_source source) definition.body.items))
    body_foretold addressed from is start =
        let long : length definition.parameters.items ≡ length scope = sym (ap length is_scope ∙ parameters_long table tree.body 0 definition.parameters.items) in
        ([], ap (λ n. drop n addressed.variables.items) start ∙ is ∙ ap (λ depth. taken_block depth tree.body) long ∙ sym (append-nil (taken_block (length scope) tree.body)))

    -- the counts begin with none, so that all names have room
    pub body_room : (builder : Builder) → builder.counts ≡ record { variables = 0; calls = 0; arguments = 0; expressions = 0; temporaries = 0 } → HasRoom builder (names_for (block_nodes (block_in (types_of_source source) definition.body.items)))
    body_room builder start =
        let few : block_nodes tree.body ≤ 3145731 = typed.nodes in
        let counts : names_of builder.counts ≡ 0 = ap names_of start in
        omega (arith, few, counts)

    pub function_lowers : (start entered last end : Builder) (ways : memory_ways.Ways) (function : memory_function.Function)
        → start.points.items ≡ [] → start.counts ≡ record { variables = 0; calls = 0; arguments = 0; expressions = 0; temporaries = 0 } → start.objects.items ≡ []
        → ParametersLower source (block_in (types_of_source source) definition.body.items) definition.parameters.items scope start entered
        → ways.broken.0 ≡ 0 → ways.continued.0 ≡ 0 → BlockLowers source scope ways definition.body.items entered last → Grows entered last
        → Leads (λ table points. Emits points (end_of definition.name)) last end → Grows last end
        → function.name ≡ definition.name → function.c_type ≡ definition.c_type → function.parameters ≡ length definition.parameters.items
        → function.counts ≡ end.counts → function.objects.items ≡ end.objects.items → function.points.items ≡ end.points.items
        → FunctionLowers source definition function
    function_lowers start entered last end ways function no_points no_counts no_objects parameters broken continued body body_grows ends end_grows name c_type count counts objects points_same =
        let points = map (op_in table) function.points.items in
        let fills_end : Fills (points_in table end) points = subst (λ items. Fills (points_in table end) (map (op_in table) items)) (sym points_same) (fills_same (points_in table end)) in
        let fills_last = fills_grown table last end points end_grows fills_end in
        let fills_entered = fills_grown table entered last points body_grows fills_last in
        let first : spot_of table start ≡ first_spot = (λ i. record { at = length (no_points i); counts = no_counts i; objects = map (object_in table) (no_objects i) }) in
        record {
          name = name;
          c_type = ap (type_in table) c_type;
          parameters = count ∙ sym (length-map definition.parameters.items (type_in table));
          inside = spot_of table entered;
          scope = scope_of source scope;
          last = spot_of table last;
          end = spot_of table end;
          entry = subst (λ from. ParametersCode points tree.body tree.parameters 0 [] from (spot_of table entered) (scope_of source scope)) first (parameters points fills_entered);
          body = subst (λ (ways : Ways (program_in source) points). BlockCode (program_in source) points (scope_of source scope) tree.body (spot_of table entered) (spot_of table last) ways)
              (λ i. record { broken = broken i; continued = continued i }) (body points fills_last);
          ending = ends table points fills_end;
          points = length-map function.points.items (op_in table) ∙ ap length points_same;
          counts = counts;
          objects = ap (map (object_in table)) objects;
        }
