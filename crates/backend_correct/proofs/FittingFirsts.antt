-- First values in memory fit where those of plain data stand inside their objects.
use Rattle.std.proofs.Common.{ℕ, suc, List, [], ◌∷◌, ◌++◌, map, pos, sym, subst}
use Rattle.c_num.specs.declared.IntType.{IntType}
use Rattle.c_num.specs.Conversion.{convert_to}
use Rattle.c_typed.specs.declared.part.Part.{Part}
use Rattle.c_typed.specs.declared.definition.Scalar as memory_scalar
use Rattle.c_typed.specs.declared.definition.Scalar.TheVariants as S
use Rattle.c_typed.specs.declared.definition.First as memory_first
use Rattle.c_typed.specs.declared.definition.First.TheVariants as V
use Rattle.c_typed.specs.declared.definition.GlobalDef as memory_global
use Rattle.c_typed.specs.Types.{CType}
use Rattle.c_typed.specs.Typed.{Program}
use Rattle.c_typed.specs.Values.{Held, IntegerValue}
use Rattle.c_typed.specs.declared.c_type.CType as number
use Rattle.c_typed.specs.Table.{type_in}
use Rattle.c_typed.specs.DefinitionViews.{scalar_of, held_of, characters_held, first_of, all_first, global_in}
use Rattle.c_typed.specs.Programs.{IsWellTyped}
use Rattle.c_typed.specs.Sizes.{HasStorableTypes}
use Rattle.tac_ir.specs.declared.program.Tac as memory_tac
use Rattle.tac_ir.specs.Code.{Tac}
use Rattle.tac_ir.specs.Views.{tac_of}
use Rattle.tac_build.specs.ProgramCode.{Code}
use Rattle.pool_rewrite.specs.Placing.{statics_size, global_offset}
use Rattle.pool_rewrite.specs.Firsts.{ValueFits, IsLeaf, LeafFits, TextFits, FirstFits, FirstsFit, GlobalsFitFrom, GlobalsFit}
use Rattle.backend_correct.specs.Inside.{ValueInside, HeldInside, AllInside, GlobalsInsideFrom}
use Rattle.backend_correct.proofs.InsideObjects.{globals_inside}

inside_parts : (tac : Tac) (c_type : CType) (start : ℕ) (front back : List Held) → AllInside tac c_type start (front ++ back) → AllInside tac c_type start front × AllInside tac c_type start back
inside_parts tac c_type start [] back all = (tt, all)
inside_parts tac c_type start (one ∷ front) back all = let parts = inside_parts tac c_type start front back all.1 in ((all.0, parts.0), parts.1)

module _ (tac : memory_tac.Tac) where
  value_fits : (value : memory_scalar.Scalar) → ValueInside (tac_of tac) (scalar_of value) → ValueFits tac value
  value_fits (S.Integer z) inside = tt
  value_fits S.Null inside = tt
  value_fits (S.Function name) inside = tt
  value_fits (S.Pointer root parts index) inside = inside

  module _ (t : number.CType) (start : ℕ) where
    abbrev FitAll : List Held → Type 0
    FitAll held = AllInside (tac_of tac) (type_in tac.types t) start held

    leaf_fits : (held : Held) → HeldInside (tac_of tac) (type_in tac.types t) start held
        → LeafFits tac.types (record { c_type = t; start = start }) (statics_size (tac_of tac)) held.leaf.steps held.leaf.index
    leaf_fits held inside =
        record { parts_fit = inside.parts_fit; leaf = subst (IsLeaf tac.types (record { c_type = t; start = start }) (statics_size (tac_of tac))) (sym inside.reached) (inside.scalar, inside.room) }

    text_fits : (parts : List Part) (int_type : IntType) (index : ℕ) (bytes : List ℕ) → FitAll (characters_held parts int_type index bytes)
        → TextFits tac (record { c_type = t; start = start }) (statics_size (tac_of tac)) parts index bytes
    text_fits parts int_type index [] inside = tt
    text_fits parts int_type index (byte ∷ bytes) inside = (
      leaf_fits (record { leaf = record { steps = parts; index = index }; value = IntegerValue (convert_to int_type (pos byte)) }) inside.0,
      text_fits parts int_type (suc index) bytes inside.1,
    )

    first_fits : (first : memory_first.First) → FitAll (first_of first) → FirstFits tac (record { c_type = t; start = start }) (statics_size (tac_of tac)) first
    first_fits (V.Scalar held) inside = record { value = value_fits held.value inside.0.value; leaf = leaf_fits (held_of held) inside.0 }
    first_fits (V.Text parts int_type bytes) inside = text_fits parts.items int_type 0 bytes inside

    firsts_fit : (firsts : List memory_first.First) → FitAll (all_first firsts) → FirstsFit tac (record { c_type = t; start = start }) (statics_size (tac_of tac)) firsts
    firsts_fit [] inside = tt
    firsts_fit (first ∷ others) inside =
        let parts = inside_parts (tac_of tac) (type_in tac.types t) start (first_of first) (all_first others) inside in
        (first_fits first parts.0, firsts_fit others parts.1)

  fit_from : (number : ℕ) (globals : List memory_global.GlobalDef) → GlobalsInsideFrom (tac_of tac) number (map (global_in tac.types) globals) → GlobalsFitFrom tac number globals
  fit_from number [] inside = tt
  fit_from number (global ∷ others) inside = (
    firsts_fit global.c_type (global_offset (tac_of tac) number) global.first.items inside.0,
    fit_from (suc number) others inside.1,
  )

-- The first values of the code of a program fit its variables.
pub globals_fit : (program : Program) (tac : memory_tac.Tac) → Code program (tac_of tac) → IsWellTyped program → HasStorableTypes program → GlobalsFit tac
globals_fit program tac code well storable = fit_from tac 0 tac.globals.items (globals_inside program (tac_of tac) code well storable)
