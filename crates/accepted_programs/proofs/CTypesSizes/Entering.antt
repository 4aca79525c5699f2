-- The type of a function that has a body, and the names with which its body begins.
use Rattle.std.proofs.Common.{◌≡◌, Bool, true, false, cond, List, [], Some, refl, sym, ap, subst}
use Rattle.std.proofs.lemmas.Bool.{false≢true}
use Rattle.std.proofs.lemmas.Option.{none-some, same_Some}
use Rattle.c_syntax.specs.Trees
use Rattle.c_syntax.specs.Trees.{SimpleTree, ParametersTree, BaseTree}
use Rattle.c_typed.specs.Types.{CType, CTypes, Void, Integer, Pointer, Array, Struct, Function, NoTypes, is_function}
use Rattle.c_typed.specs.Layouts.{StructDef}
use Rattle.c_typed.specs.Programs.{with_parameters}
use Rattle.c_rules.specs.declared.rule.TypeRule.TheVariants as T
use Rattle.c_rules.specs.Names.{Scope, locals_in, in_function, declares_tag}
use Rattle.c_rules.specs.Known.{give, require}
use Rattle.c_rules.specs.Expressions.{is_void_alone, parameter_types, parameter_type, simple_type}
use Rattle.c_rules.specs.Programs.{base_type, enter_parameters, entered_function}
use Rattle.c_rules.specs.Elaborated.{types_in}
use Rattle.c_rules.specs.Proper.{are_proper}
use Rattle.c_rules.specs.Fitting.{LocalsFit}
use Rattle.c_rules.proofs.Around.{SameOutside}
use Rattle.c_rules.proofs.Parameters.{NamesAlike, Takes, entered_same, entered_fits}

-- no words name a function's type
words_never : (scope : Scope) (words : SimpleTree) (c_type : CType) → (simple_type scope words).known ≡ Some c_type → is_function c_type ≡ false
words_never scope Trees.VoidWord c_type e = ap is_function (sym (same_Some Void c_type e))
words_never scope (Trees.IntegerWords int_type) c_type e = ap is_function (sym (same_Some (Integer int_type) c_type e))
words_never scope (Trees.StructTag tag) c_type e = by (declares_tag scope.tags tag) e
  where
    by : (b : Bool) → (require b T.T03 tag.place (give (Struct tag.bytes))).known ≡ Some c_type → is_function c_type ≡ false
    by true h = ap is_function (sym (same_Some (Struct tag.bytes) c_type h))
    by false h = absurd (none-some c_type h)

pub base_never : (scope : Scope) (base : BaseTree) (c_type : CType) → (base_type scope base).type_of.known ≡ Some c_type → is_function c_type ≡ false
base_never scope (Trees.Plain words) c_type e = words_never scope words.words c_type e
base_never scope (Trees.StructBody place name members) c_type e = ap is_function (sym (same_Some (Struct name.bytes) c_type e))

pub function_parts : (c_type : CType) → is_function c_type ≡ true → (result : CType) × (types : CTypes) × (c_type ≡ Function result types)
function_parts Void e = absurd (false≢true e)
function_parts (Integer int_type) e = absurd (false≢true e)
function_parts (Pointer target) e = absurd (false≢true e)
function_parts (Array element n) e = absurd (false≢true e)
function_parts (Struct tag) e = absurd (false≢true e)
function_parts (Function result types) e = (result, types, refl)

-- the parameters are the first locals, and what is outside stays
pub entered_good : (structs : List StructDef) (scope outside : Scope) → NamesAlike scope outside → scope.structs ≡ outside.structs → (parameters : ParametersTree) (types : CTypes) → are_proper types ≡ true → Takes scope parameters types
    → (entered_function outside parameters).found ≡ []
    → LocalsFit structs (locals_in (entered_function outside parameters).scope) (with_parameters (types_in types) []) × SameOutside outside (entered_function outside parameters).scope
entered_good structs scope outside alike same list types proper takes e = by (is_void_alone list) takes.none takes.known e
  where
    inside : Scope
    inside = in_function outside

    by : (b : Bool) → (cond b (give NoTypes) (parameter_types scope [] list)).found ≡ [] → (cond b (give NoTypes) (parameter_types scope [] list)).known ≡ Some types
        → (cond b (record { found = []; scope = inside }) (enter_parameters outside list inside)).found ≡ []
        → LocalsFit structs (locals_in (cond b (record { found = []; scope = inside }) (enter_parameters outside list inside)).scope) (with_parameters (types_in types) [])
        × SameOutside outside (cond b (record { found = []; scope = inside }) (enter_parameters outside list inside)).scope
    by true none known entered =
        (subst (λ (ts : CTypes). LocalsFit structs [] (with_parameters (types_in ts) [])) (same_Some NoTypes types known) tt, record { structs = refl; file = refl; completed = refl; defined = refl })
    by false none known entered =
        let kept = entered_same outside list inside in (
          entered_fits structs scope outside alike (λ here c_type i. parameter_type (record scope { structs = sym same i }) here c_type) [] list types proper none known inside [] entered tt,
          record { structs = kept.structs; file = kept.file; completed = kept.completed; defined = kept.defined },
        )
