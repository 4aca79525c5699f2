-- What is asked of three-address code in memory for its code with pools to be made: frames end before the greatest size.
use Rattle.std.specs.Prelude.{ℕ, ◌+◌, ◌≤◌, List, ◌∷◌, map, Option, Some, None}
use Rattle.c_typed.specs.declared.c_type.CType as number
use Rattle.c_typed.specs.declared.definition.GlobalDef as memory_global
use Rattle.c_typed.specs.declared.definition.LiteralDef as memory_literal
use Rattle.c_typed.specs.Types.{CType, Void, literal_type}
use Rattle.c_typed.specs.Layouts.{Layout, layout_of, greatest}
use Rattle.c_typed.specs.Table.{Interned, type_in, structs_in}
use Rattle.c_typed.specs.Typed.{GlobalDef, LiteralDef}
use Rattle.c_typed.specs.DefinitionViews.{global_in, literal_of}
use Rattle.tac_ir.specs.declared.program.LocalObject as memory_object
use Rattle.tac_ir.specs.declared.program.Function as memory_function
use Rattle.tac_ir.specs.Views.{object_in, function_in}
use Rattle.pool_rewrite.specs.declared.plan.FunctionPlan as memory_plan
use Rattle.pool_rewrite.specs.Plan.{FunctionPlan}
use Rattle.pool_rewrite.specs.Views.{function_plan_of}
use Rattle.pool_rewrite.specs.Placing.{own_layouts, frame_of}

-- ---- types

abbrev pub known_type : Interned → Option number.CType → CType
known_type table None = Void
known_type table (Some t) = type_in table t

abbrev pub layout_in_table : Interned → number.CType → Layout
layout_in_table table t = layout_of (structs_in table) (type_in table t)

-- ---- static objects

abbrev pub global_layouts : Interned → List memory_global.GlobalDef → List Layout
global_layouts table globals = map (λ (global : GlobalDef). layout_of (structs_in table) global.c_type) (map (global_in table) globals)

abbrev pub literal_layouts : Interned → List memory_literal.LiteralDef → List Layout
literal_layouts table literals = map (λ (literal : LiteralDef). layout_of (structs_in table) (literal_type literal.bytes)) (map literal_of literals)

-- ---- frames

abbrev pub local_layouts : Interned → List memory_object.LocalObject → List Layout
local_layouts table objects = own_layouts (structs_in table) (map (object_in table) objects)

-- the words of a frame
abbrev pub word_count : FunctionPlan → memory_function.Function → ℕ
word_count plan function =
    plan.descriptors + function.parameters + function.counts.variables + function.counts.calls + function.counts.arguments + function.counts.expressions + function.counts.temporaries

abbrev pub FrameFits : Interned → FunctionPlan → memory_function.Function → Type 0
FrameFits table plan function = (frame_of (structs_in table) plan (function_in table function)).size ≤ greatest

abbrev pub FramesFit : Interned → List memory_plan.FunctionPlan → List memory_function.Function → Type 0
FramesFit table (plan ∷ plans) (function ∷ functions) = FrameFits table (function_plan_of plan) function × FramesFit table plans functions
FramesFit table plans functions = Unit {0}
