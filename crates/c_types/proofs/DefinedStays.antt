-- The variables and functions of a program so far.
use Rattle.std.proofs.Common.{◌≡◌, ℕ, true, false, not, List, [], ◌∷◌, ◌++◌, map, if◌then◌else◌, Option, Some, None, Result, Ok, Err, OnOk, refl, sym, ap, subst, ◌∙◌}
use Rattle.c_syntax.specs.Trees.{NameTree}
use Rattle.c_typed.specs.declared.c_type.CType as number
use Rattle.c_typed.specs.declared.definition.GlobalDef as memory_global
use Rattle.c_typed.specs.declared.definition.FunctionDef as memory_function
use Rattle.c_typed.specs.Types as T
use Rattle.c_typed.specs.Types.{CType}
use Rattle.c_typed.specs.Values.{Held}
use Rattle.c_typed.specs.Typed.{GlobalDef, FunctionDef}
use Rattle.c_typed.specs.Table.{Interned, Grows, Stands, type_in}
use Rattle.c_typed.specs.DefinitionViews.{global_in, function_in, TypesStand, FunctionStands, GlobalsStand, FunctionsStand}
use Rattle.c_typed.proofs.Grown.{stays}
use Rattle.c_typed.proofs.StatementsStay.{block_stays}
use Rattle.c_rules.specs.Elaborated.{is_object_type, global_of, with_global, each_global}
use Rattle.c_types_state.specs.Finding.{each_in}
use Rattle.c_types.specs.declared.defined.Defined.{Defined}
use Rattle.c_types.specs.Outside.{HasDefined}

-- ---- they stay

module _ (old new : Interned) (grows : Grows old new) where
  types_stay : (types : List number.CType) → TypesStand old types → TypesStand new types × (map (type_in new) types ≡ map (type_in old) types)
  types_stay [] h = (tt, refl)
  types_stay (first ∷ others) h =
      let one = stays old new grows first h.0 in
      let rest = types_stay others h.1 in
      ((one.0, rest.0), λ i. one.1 i ∷ rest.1 i)

  function_stays : (f : memory_function.FunctionDef) → FunctionStands old f → FunctionStands new f × (function_in new f ≡ function_in old f)
  function_stays f h =
      let c_type = stays old new grows f.c_type h.0 in
      let parameters = types_stay f.parameters.items h.1 in
      let returned = stays old new grows f.returned h.2 in
      let body = block_stays old new grows f.body.items h.3 in
      ((c_type.0, parameters.0, returned.0, body.0), λ i. record { name = f.name; c_type = c_type.1 i; parameters = parameters.1 i; result = returned.1 i; body = body.1 i })

  functions_stay : (fs : List memory_function.FunctionDef) → FunctionsStand old fs → FunctionsStand new fs × (map (function_in new) fs ≡ map (function_in old) fs)
  functions_stay [] h = (tt, refl)
  functions_stay (first ∷ others) h =
      let one = function_stays first h.0 in
      let rest = functions_stay others h.1 in
      ((one.0, rest.0), λ i. one.1 i ∷ rest.1 i)

  globals_stay : (gs : List memory_global.GlobalDef) → GlobalsStand old gs → GlobalsStand new gs × (map (global_in new) gs ≡ map (global_in old) gs)
  globals_stay [] h = (tt, refl)
  globals_stay (first ∷ others) h =
      let one = stays old new grows first.c_type h.0 in
      let rest = globals_stay others h.1 in
      ((one.0, rest.0), λ i. record (global_in old first) { c_type = one.1 i } ∷ rest.1 i)

  pub defined_stays : (defined : Defined) (variables : List GlobalDef) (bodies : List FunctionDef) → HasDefined old defined variables bodies → HasDefined new defined variables bodies
  defined_stays defined variables bodies h =
      let globals = globals_stay defined.globals h.globals_stand in
      let functions = functions_stay defined.functions.items h.functions_stand in
      record {
        globals_stand = globals.0;
        functions_stand = functions.0;
        globals = globals.1 ∙ h.globals;
        functions = functions.1 ∙ h.functions;
      }

-- ---- more variables

pub each_global-append : (globals xs ys : List GlobalDef) → each_global globals (xs ++ ys) ≡ each_global (each_global globals xs) ys
each_global-append globals [] ys = refl
each_global-append globals (x ∷ xs) ys = each_global-append (with_global x globals) xs ys

-- a part of the text defines these variables, and no functions
abbrev pub Defines : Interned → Defined → Interned → Defined → List GlobalDef → Type 0
Defines table defined table' defined' more = (globals : List GlobalDef) (functions : List FunctionDef) → HasDefined table defined globals functions → HasDefined table' defined' (each_global globals more) functions

object-type : (t : CType) → is_object_type t ≡ not (T.is_function t)
object-type T.Void = refl
object-type (T.Integer int_type) = refl
object-type (T.Pointer target) = refl
object-type (T.Array element n) = refl
object-type (T.Struct tag) = refl
object-type (T.Function result parameters) = refl

module _ (name : NameTree) (first : List Held) where
  abbrev variable : CType → GlobalDef
  variable c_type = record { name = name.bytes; c_type = c_type; first = first }

  global_of-function : (c_type : CType) → T.is_function c_type ≡ true → global_of name (Some c_type) first ≡ []
  global_of-function c_type is = ap (λ b. if b then variable c_type ∷ [] else []) (object-type c_type ∙ ap not is)

  global_of-object : (c_type : CType) → T.is_function c_type ≡ false → global_of name (Some c_type) first ≡ variable c_type ∷ []
  global_of-object c_type is = ap (λ b. if b then variable c_type ∷ [] else []) (object-type c_type ∙ ap not is)

  module _ (table : Interned) (defined : Defined) (t : Option number.CType) where
    -- a name without a type
    pub defines-none : t ≡ None → Defines table defined table defined (global_of name (each_in type_in table t) first)
    defines-none none = subst (λ (t : Option number.CType). Defines table defined table defined (global_of name (each_in type_in table t) first)) (sym none) (λ globals functions h. h)

    module _ (c_type : number.CType) (some : t ≡ Some c_type) where
      -- a function
      pub defines-function : T.is_function (type_in table c_type) ≡ true → Defines table defined table defined (global_of name (each_in type_in table t) first)
      defines-function is =
          subst (λ (more : List GlobalDef). Defines table defined table defined more) (sym (ap (λ (t : Option number.CType). global_of name (each_in type_in table t) first) some ∙ global_of-function (type_in table c_type) is))
          (λ globals functions h. h)

      -- a variable
      pub defines-variable : (bytes : List ℕ) → bytes ≡ name.bytes → (all : List memory_global.GlobalDef) → T.is_function (type_in table c_type) ≡ false
          → ((table : Interned) → map (global_in table) all ≡ with_global (record { name = bytes; c_type = type_in table c_type; first = first }) (map (global_in table) defined.globals))
          → ((table : Interned) → GlobalsStand table defined.globals → Stands table c_type → GlobalsStand table all)
          → Stands table c_type
          → Defines table defined table (record defined { globals = all }) (global_of name (each_in type_in table t) first)
      defines-variable bytes same all is adds stand stands =
          subst (λ (more : List GlobalDef). Defines table defined table (record defined { globals = all }) more) (sym (ap (λ (t : Option number.CType). global_of name (each_in type_in table t) first) some ∙ global_of-object (type_in table c_type) is))
          (λ globals functions h. record {
            globals_stand = stand table h.globals_stand stands;
            functions_stand = h.functions_stand;
            globals = adds table ∙ (λ i. with_global (record { name = same i; c_type = type_in table c_type; first = first }) (h.globals i));
            functions = h.functions;
          })

-- ---- one more function

module _ (table : Interned) (one : memory_function.FunctionDef) where
  more_stand : (fs : List memory_function.FunctionDef) → FunctionsStand table fs → FunctionStands table one → FunctionsStand table (fs ++ one ∷ [])
  more_stand [] h stands = (stands, tt)
  more_stand (first ∷ others) h stands = (h.0, more_stand others h.1 stands)

  more_seen : (fs : List memory_function.FunctionDef) → map (function_in table) (fs ++ one ∷ []) ≡ map (function_in table) fs ++ function_in table one ∷ []
  more_seen [] = refl
  more_seen (first ∷ others) = ap (λ fs. function_in table first ∷ fs) (more_seen others)

pub defined-function : (table : Interned) (defined : Defined) (all : Defined) (one : memory_function.FunctionDef) (told : FunctionDef) → all.globals ≡ defined.globals → all.functions.items ≡ defined.functions.items ++ one ∷ [] → FunctionStands table one → function_in table one ≡ told
    → (globals : List GlobalDef) (functions : List FunctionDef) → HasDefined table defined globals functions → HasDefined table all globals (functions ++ told ∷ [])
defined-function table defined all one told same is stands means globals functions h =
    record {
      globals_stand = subst (GlobalsStand table) (sym same) h.globals_stand;
      functions_stand = subst (FunctionsStand table) (sym is) (more_stand table one defined.functions.items h.functions_stand stands);
      globals = ap (map (global_in table)) same ∙ h.globals;
      functions = ap (map (function_in table)) is ∙ more_seen table one defined.functions.items ∙ (λ i. h.functions i ++ means i ∷ []);
    }

-- ---- two facts of one call

pub on_ok_both : {T E P Q R : Type 0} (r : Result T E) → (P → Q → R) → OnOk r P → OnOk r Q → OnOk r R
on_ok_both (Ok x) f p q = f p q
on_ok_both (Err e) f p q = tt
