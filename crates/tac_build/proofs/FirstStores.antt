-- What a local holds at first: a value that is written to its register or stored, or an argument.
use Rattle.std.proofs.Common.{◌≡◌, ℕ, suc, ◌+◌, Bool, true, false, if◌then◌else◌, List, [], ◌∷◌, ◌++◌, Some, None, length, map, refl, sym, ap, ◌∙◌, subst, arith}
use Rattle.std.specs.Prelude.{pos, not, bytes_eq, codes}
use Rattle.std.proofs.lemmas.List.{map_push}
use Rattle.c_typed.specs.Types.{CType}
use Rattle.c_typed.specs.Table.{Interned, type_in}
use Rattle.tac_ir.specs.declared.register.Local.{Local}
use Rattle.tac_ir.specs.declared.register.Local.TheVariants as L
use Rattle.tac_ir.specs.declared.register.Register.TheVariants as R
use Rattle.tac_ir.specs.declared.op.Scalar.{Scalar}
use Rattle.tac_ir.specs.declared.path.Path as memory_path
use Rattle.tac_ir.specs.Code.{Op, Operand, IntegerOperand, PointerOperand, AtLocal}
use Rattle.tac_ir.specs.Code as C
use Rattle.tac_ir.specs.Views.{path_in, scalar_in, object_in}
use Rattle.tac_build.specs.declared.builder.Builder.{Builder}
use Rattle.tac_build.specs.declared.homes.Home as memory_home
use Rattle.tac_build.specs.Homes.{Home}
use Rattle.tac_build.specs.Spots.{Spot, Lowered, AsInteger, AsPointer, AsObject, AsNothing}
use Rattle.tac_build.specs.Code.{Emits, Writes, path_from}
use Rattle.tac_build.specs.StatementCode.{with_home, Begins}
use Rattle.tac_build.specs.ProgramCode.{ParameterCode, stored_argument, end_of}
use Rattle.tac_build.specs.declared.lowered.Lowered as memory_lowered
use Rattle.tac_build.specs.Building.{lowered_in, home_in, spot_of, points_in, Leads, LeadsIn}
use Rattle.tac_build.proofs.Points.{fills_same}

-- ---- objects of the function

pub pushed_spot : (table : Interned) (home : memory_home.Home) (old new : Builder) → home.is_object ≡ true → new.points.items ≡ old.points.items → new.counts ≡ old.counts
    → new.objects.items ≡ old.objects.items ++ record { local = home.local; c_type = home.c_type } ∷ [] → spot_of table new ≡ with_home (home_in table home) (spot_of table old)
pushed_spot table home old new is points counts objects =
    let own = ap (map (object_in table)) objects ∙ map_push (object_in table) old.objects.items (record { local = home.local; c_type = home.c_type }) in
    subst (λ b. spot_of table new ≡ with_home (record { local = home.local; is_object = b; c_type = type_in table home.c_type }) (spot_of table old)) (sym is)
    (λ i. record { at = length (points i); counts = counts i; objects = own i })

pub same_spot : (table : Interned) (home : memory_home.Home) (builder : Builder) → home.is_object ≡ false → spot_of table builder ≡ with_home (home_in table home) (spot_of table builder)
same_spot table home builder is =
    subst (λ b. spot_of table builder ≡ with_home (record { local = home.local; is_object = b; c_type = type_in table home.c_type }) (spot_of table builder)) (sym is) refl

-- ---- first values

pub begins_register : (table : Interned) (home : memory_home.Home) (lowered : memory_lowered.Lowered) (old new : Builder) → home.is_object ≡ false
    → Leads (λ table points. Writes points (R.Local home.local) (lowered_in table lowered)) old new → LeadsIn table (λ points. Begins points (home_in table home) (lowered_in table lowered)) old new
begins_register table home lowered old new is code = λ points fills.
    subst (λ b. Begins points (record { local = home.local; is_object = b; c_type = type_in table home.c_type }) (lowered_in table lowered) (spot_of table old) (spot_of table new)) (sym is) (code table points fills)

-- the operand of a value that is stored
abbrev pub HasOperand : Lowered → Operand → Type 0
HasOperand (AsInteger own tree) operand = operand ≡ IntegerOperand tree
HasOperand (AsPointer register target) operand = operand ≡ PointerOperand register
HasOperand _ operand = ⊥

stored_begins : (points : List Op) (local : Local) (c_type : CType) (given : Lowered) (operand : Operand) (from to : Spot) → HasOperand given operand → Emits points (C.Store (path_from (AtLocal local)) c_type operand) from to
    → Begins points (record { local = local; is_object = true; c_type = c_type }) given from to
stored_begins points local c_type (AsInteger own tree) operand from to is emits = subst (λ operand. Emits points (C.Store (path_from (AtLocal local)) c_type operand) from to) is emits
stored_begins points local c_type (AsPointer register target) operand from to is emits = subst (λ operand. Emits points (C.Store (path_from (AtLocal local)) c_type operand) from to) is emits
stored_begins points local c_type (AsObject path own) operand from to is emits = absurd is
stored_begins points local c_type AsNothing operand from to is emits = absurd is

store_emits : (points : List Op) (path other : C.Path) (c_type own : CType) (operand : Operand) (from to : Spot) → path ≡ other → c_type ≡ own → Emits points (C.Store path c_type operand) from to → Emits points (C.Store other own operand) from to
store_emits points path other c_type own operand from to is_path is_type emits =
    (emits.0 ∙ (λ i. Some (C.Store (is_path i) (is_type i) operand)), emits.1)

pub begins_memory : (table : Interned) (home : memory_home.Home) (lowered : memory_lowered.Lowered) (path : memory_path.Path) (scalar : Scalar) (operand : Operand) (old new : Builder) → home.is_object ≡ true
    → ((table : Interned) → path_in table path ≡ path_from (AtLocal home.local)) → scalar_in table scalar ≡ type_in table home.c_type → HasOperand (lowered_in table lowered) operand
    → Leads (λ table points. Emits points (C.Store (path_in table path) (scalar_in table scalar) operand)) old new → LeadsIn table (λ points. Begins points (home_in table home) (lowered_in table lowered)) old new
begins_memory table home lowered path scalar operand old new is is_path is_scalar is_operand code = λ points fills.
    let c_type = type_in table home.c_type in
    let emits = store_emits points (path_in table path) (path_from (AtLocal home.local)) (scalar_in table scalar) c_type operand (spot_of table old) (spot_of table new) (is_path table) is_scalar (code table points fills) in
    subst (λ b. Begins points (record { local = home.local; is_object = b; c_type = c_type }) (lowered_in table lowered) (spot_of table old) (spot_of table new)) (sym is)
    (stored_begins points home.local c_type (lowered_in table lowered) operand (spot_of table old) (spot_of table new) is_operand emits)

-- ---- arguments

pub parameter_register : (table : Interned) (home : memory_home.Home) (builder : Builder) → home.is_object ≡ false → (number : ℕ) → home.local ≡ L.Parameter number → LeadsIn table (λ points. ParameterCode points (home_in table home) number) builder builder
parameter_register table home builder is number own = λ points fills.
    subst (λ b. ParameterCode points (record { local = home.local; is_object = b; c_type = type_in table home.c_type }) number (spot_of table builder) (spot_of table builder)) (sym is) refl

pub parameter_memory : (table : Interned) (home : memory_home.Home) (path : memory_path.Path) (scalar : Scalar) (operand : Operand) (old mid new : Builder) → home.is_object ≡ true
    → spot_of table mid ≡ with_home (home_in table home) (spot_of table old)
    → ((table : Interned) → path_in table path ≡ path_from (AtLocal home.local)) → scalar_in table scalar ≡ type_in table home.c_type
    → ((number : ℕ) → R.Local home.local ≡ R.Local (L.Parameter number) → operand ≡ stored_argument number (scalar_in table scalar))
    → Leads (λ table points. Emits points (C.Store (path_in table path) (scalar_in table scalar) operand)) mid new
    → (number : ℕ) → home.local ≡ L.Parameter number → LeadsIn table (λ points. ParameterCode points (home_in table home) number) old new
parameter_memory table home path scalar operand old mid new is spot is_path is_scalar is_operand code number own = λ points fills.
    let c_type = type_in table home.c_type in
    let argument : operand ≡ stored_argument number c_type = is_operand number (ap R.Local own) ∙ ap (stored_argument number) is_scalar in
    let emits = store_emits points (path_in table path) (path_from (AtLocal home.local)) (scalar_in table scalar) c_type operand (spot_of table mid) (spot_of table new) (is_path table) is_scalar (code table points fills) in
    let there = subst (λ operand. Emits points (C.Store (path_from (AtLocal home.local)) c_type operand) (spot_of table mid) (spot_of table new)) argument emits in
    let from = subst (λ from. Emits points (C.Store (path_from (AtLocal home.local)) c_type (stored_argument number c_type)) from (spot_of table new)) spot there in
    by home.is_object is points from
  where
    by : (b : Bool) → b ≡ true → (points : List Op) → Emits points (C.Store (path_from (AtLocal home.local)) (type_in table home.c_type) (stored_argument number (type_in table home.c_type))) (with_home (record { local = home.local; is_object = b; c_type = type_in table home.c_type }) (spot_of table old)) (spot_of table new)
        → ParameterCode points (record { local = home.local; is_object = b; c_type = type_in table home.c_type }) number (spot_of table old) (spot_of table new)
    by true e points emits = emits
    by false e points emits = absurd (cc)

-- a point keeps the counts
pub emits_counts : (table : Interned) (op : Interned → Op) (old new : Builder) → Leads (λ table points. Emits points (op table)) old new → new.counts ≡ old.counts
emits_counts table op old new code = ap (λ (spot : Spot). spot.counts) (code table (points_in table new) (fills_same (points_in table new))).1

pub not_true : (b : Bool) → not b ≡ true → b ≡ false
not_true true e = absurd (cc)
not_true false e = refl

pub not_false : (b : Bool) → not b ≡ false → b ≡ true
not_false true e = refl
not_false false e = absurd (cc)

-- ---- ends

pub end_main : (name : List ℕ) → bytes_eq name (codes "main") ≡ true → C.Return (Some (IntegerOperand (C.Constant (pos 0)))) ≡ end_of name
end_main name is = ap (λ b. C.Return (if b then Some (IntegerOperand (C.Constant (pos 0))) else None)) (sym is)

pub end_other : (name : List ℕ) → bytes_eq name (codes "main") ≡ false → C.Return None ≡ end_of name
end_other name is = ap (λ b. C.Return (if b then Some (IntegerOperand (C.Constant (pos 0))) else None)) (sym is)
