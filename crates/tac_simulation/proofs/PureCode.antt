-- An integer over constants and locals in registers has no point of its own.
use Rattle.std.proofs.Common.{◌≡◌, Bool, true, false, not, List, Option, Some, None, ◌∙◌}
use Rattle.std.proofs.lemmas.Bool.{false≢true, and_parts}
use Rattle.c_num.specs.declared.IntType.{IntType}
use Rattle.c_typed.specs.Types.{CType, Void, Integer, Pointer, Array, Struct, Function, is_integer}
use Rattle.c_typed.specs.Typed as T
use Rattle.c_typed.specs.Typed.{Program, Value}
use Rattle.tac_ir.specs.declared.register.Local.{Local}
use Rattle.tac_ir.specs.Code.{Tree, Op}
use Rattle.tac_build.specs.Homes.{Home, Scope, register_home, holds_integer, is_pure}
use Rattle.tac_build.specs.Spots.{Spot, Lowered, AsInteger, Mode, Kept, cast_mode}
use Rattle.tac_build.specs.Code.{PartCode, KeepsTree, ReadsLocal, ReadCode, ValueCode, ObjectCode}
use Rattle.tac_build.specs.Forms.{AddsNone}

adds_integer : {from to : Spot} {lowered : Lowered} {own : IntType} {tree : Tree} → to ≡ from → lowered ≡ AsInteger own tree → AddsNone from to lowered
adds_integer {own = own} {tree = tree} at is = record { stays = at; own = own; tree = tree; is = is }

module _ (points : List Op) where
  reads_pure : (local : Local) (is_object : Bool) (own : CType) (from to : Spot) (lowered : Lowered) → is_integer own ≡ true
      → ReadsLocal points (record { local = local; is_object = is_object; c_type = own }) from to lowered → AddsNone from to lowered
  reads_pure local is_object (Integer int_type) from to lowered pure code = adds_integer code.0 code.1
  reads_pure local is_object (Pointer target) from to lowered pure code = absurd (false≢true pure)
  reads_pure local is_object Void from to lowered pure code = absurd code
  reads_pure local is_object (Array element count) from to lowered pure code = absurd code
  reads_pure local is_object (Struct tag) from to lowered pure code = absurd code
  reads_pure local is_object (Function result parameters) from to lowered pure code = absurd code

  read_pure : (home : Option Home) (object : PartCode) (from to : Spot) (lowered : Lowered) → holds_integer home ≡ true → ReadCode points home object from to lowered → AddsNone from to lowered
  read_pure (Some home) object from to lowered pure code = reads_pure home.local home.is_object home.c_type from to lowered pure code
  read_pure None object from to lowered pure code = absurd (false≢true pure)

  -- a tree is kept as it is
  keeps_pure : (pure : Bool) (tree kept : Tree) (from to : Spot) → pure ≡ true → KeepsTree points (not pure) tree from to kept → (to ≡ from) × (kept ≡ tree)
  keeps_pure true tree kept from to is code = code
  keeps_pure false tree kept from to is code = absurd (false≢true is)

module _ (program : Program) (points : List Op) (scope : Scope) where
  pub pure_adds : (v : Value) (mode : Mode) (from to : Spot) (lowered : Lowered) → is_pure scope v ≡ true → ValueCode program points scope mode v from to lowered → AddsNone from to lowered
  pure_adds (T.Constant n z) mode from to lowered pure code = adds_integer code.0 code.1
  pure_adds (T.Grouped inner) mode from to lowered pure code = pure_adds inner mode from to lowered pure code
  pure_adds (T.Read place object) mode from to lowered pure code = read_pure points (register_home scope object) (ObjectCode program points scope false false object) from to lowered pure code
  pure_adds (T.Converted n operand) mode from to lowered pure code = adds_integer (pure_adds operand Kept from to (AsInteger code.0 code.1) pure code.2).stays code.3
  pure_adds (T.Plus operand) mode from to lowered pure code = pure_adds operand Kept from to lowered pure code
  pure_adds (T.Minus place n operand) mode from to lowered pure code = adds_integer (pure_adds operand Kept from to (AsInteger code.0 code.1) pure code.2).stays code.3
  pure_adds (T.Complement n operand) mode from to lowered pure code = adds_integer (pure_adds operand Kept from to (AsInteger code.0 code.1) pure code.2).stays code.3
  pure_adds (T.Not operand) mode from to lowered pure code = adds_integer (pure_adds operand Kept from to (AsInteger code.0 code.1) pure code.2).stays code.3
  pure_adds (T.Arithmetic op place n left right) mode from to lowered pure code =
      let parts = and_parts (is_pure scope left) (is_pure scope right) pure in
      let first = (pure_adds left Kept from code.0 (AsInteger code.5 code.2) parts.0 code.7).stays in
      let held = keeps_pure points (is_pure scope right) code.2 code.3 code.0 code.1 parts.1 code.8 in
      adds_integer ((pure_adds right Kept code.1 to (AsInteger code.6 code.4) parts.1 code.9).stays ∙ held.0 ∙ first) code.10
  pure_adds (T.Compare relation left right) mode from to lowered pure code =
      let parts = and_parts (is_pure scope left) (is_pure scope right) pure in
      let first = (pure_adds left Kept from code.0 (AsInteger code.5 code.2) parts.0 code.7).stays in
      let held = keeps_pure points (is_pure scope right) code.2 code.3 code.0 code.1 parts.1 code.8 in
      adds_integer ((pure_adds right Kept code.1 to (AsInteger code.6 code.4) parts.1 code.9).stays ∙ held.0 ∙ first) code.10
  pure_adds (T.Cast operand) mode from to lowered pure code = pure_adds operand (cast_mode mode) from to lowered pure code
  pure_adds v mode from to lowered pure code = absurd (false≢true pure)
