-- What is listed as taken is what is taken.
use Rattle.std.proofs.Common.{◌≡◌, ℕ, suc, ◌<◌, ◌==◌, ◌||◌, Bool, true, false, List, [], ◌∷◌, ◌++◌, Vec, map, length, Option, Some, None, bytes_eq, refl, sym, ap, subst, ◌∙◌}
use Rattle.std.specs.List.{list_any}
use Rattle.std.proofs.lemmas.List.{length-map}
use Rattle.indexmap.specs.IndexMap.{IndexMap, get_by}
use Rattle.c_num.specs.declared.IntType.{IntType}
use Rattle.c_typed.specs.declared.definition.Scalar as memory_scalar
use Rattle.c_typed.specs.declared.definition.Scalar.TheVariants as C
use Rattle.c_typed.specs.declared.definition.First as memory_first
use Rattle.c_typed.specs.declared.definition.First.TheVariants as V
use Rattle.c_typed.specs.declared.definition.GlobalDef as memory_global
use Rattle.c_typed.specs.declared.part.Part.{Part}
use Rattle.c_typed.specs.Values.{Held}
use Rattle.c_typed.specs.Table.{Interned}
use Rattle.c_typed.specs.DefinitionViews.{scalar_of, first_of, all_first, characters_held, global_in}
use Rattle.tac_ir.specs.declared.op.Op as memory_op
use Rattle.tac_ir.specs.declared.op.Op.TheVariants as O
use Rattle.tac_ir.specs.declared.program.Function as memory_function
use Rattle.tac_ir.specs.declared.program.Tac as memory_tac
use Rattle.tac_ir.specs.First.{is_at}
use Rattle.tac_ir.specs.Views.{op_in, function_in, tac_of}
use Rattle.call_graph.specs.RowLists.{gathered, is_among}
use Rattle.call_graph.specs.Rows.{AreMarks}
use Rattle.call_graph.proofs.RowLists.{among_append}
use Rattle.tac_ir.specs.Targets.{takes, takes_in, names, names_in, is_taken}
use Rattle.call_graph.specs.TakenLists.{NumbersFunctions, at_point, at_function, option_list, at_value, at_first, at_global, TellsTaken}

or_none : (a : Bool) → (a || false) ≡ a
or_none true = refl
or_none false = refl

or_three : (a b c : Bool) → ((a || b) || c) ≡ (a || (b || c))
or_three true b c = refl
or_three false b c = refl

-- ---- lists

any_gathered : {X Y : Type 0} (f : X → List ℕ) (g : X → Y) (test : Y → Bool) (number : ℕ) → ((x : X) → is_among number (f x) ≡ test (g x)) → (list : List X) → is_among number (gathered f list) ≡ list_any test (map g list)
any_gathered f g test number agree [] = refl
any_gathered f g test number agree (first ∷ list) =
    among_append number (f first) (gathered f list) ∙ (λ i. agree first i || any_gathered f g test number agree list i)

any_append : {X : Type 0} (test : X → Bool) (a b : List X) → list_any test (a ++ b) ≡ (list_any test a || list_any test b)
any_append test [] b = refl
any_append test (first ∷ a) b = ap (λ rest. test first || rest) (any_append test a b) ∙ sym (or_three (test first) (list_any test a) (list_any test b))

-- ---- points

at_point_takes : (table : Interned) (number : ℕ) (op : memory_op.Op) → is_among number (at_point op) ≡ takes number (op_in table op)
at_point_takes table number (O.FunctionAddress to function) = or_none (function.0 == number)
at_point_takes table number O.Reserved = refl
at_point_takes table number (O.Jump to) = refl
at_point_takes table number (O.Branch int_type condition holds fails) = refl
at_point_takes table number (O.Assign to tree) = refl
at_point_takes table number (O.Null to) = refl
at_point_takes table number (O.Copy to from) = refl
at_point_takes table number (O.Test to pointer) = refl
at_point_takes table number (O.Move to pointer element is_minus amount) = refl
at_point_takes table number (O.Difference to element left right) = refl
at_point_takes table number (O.ComparePointers to relation left right) = refl
at_point_takes table number (O.Repoint to target from) = refl
at_point_takes table number (O.Address to path) = refl
at_point_takes table number (O.Load to scalar path) = refl
at_point_takes table number (O.Store path scalar value) = refl
at_point_takes table number (O.Allocate site size) = refl
at_point_takes table number (O.Free site pointer) = refl
at_point_takes table number (O.Call site callee arguments) = refl
at_point_takes table number (O.GetChar site) = refl
at_point_takes table number (O.PutChar site value) = refl
at_point_takes table number (O.Exit status) = refl
at_point_takes table number (O.Return value) = refl

pub not_address : (op : memory_op.Op) → ((to : _) (function : _) → op ≡ O.FunctionAddress to function → ⊥) → at_point op ≡ []
not_address (O.FunctionAddress to function) none = absurd (none to function refl)
not_address O.Reserved none = refl
not_address (O.Jump to) none = refl
not_address (O.Branch int_type condition holds fails) none = refl
not_address (O.Assign to tree) none = refl
not_address (O.Null to) none = refl
not_address (O.Copy to from) none = refl
not_address (O.Test to pointer) none = refl
not_address (O.Move to pointer element is_minus number) none = refl
not_address (O.Difference to element left right) none = refl
not_address (O.ComparePointers to relation left right) none = refl
not_address (O.Repoint to target from) none = refl
not_address (O.Address to path) none = refl
not_address (O.Load to scalar path) none = refl
not_address (O.Store path scalar value) none = refl
not_address (O.Allocate site size) none = refl
not_address (O.Free site pointer) none = refl
not_address (O.Call site callee arguments) none = refl
not_address (O.GetChar site) none = refl
not_address (O.PutChar site value) none = refl
not_address (O.Exit status) none = refl
not_address (O.Return value) none = refl

points_agree : (table : Interned) (number : ℕ) (points : List memory_op.Op) → is_among number (gathered at_point points) ≡ list_any (takes number) (map (op_in table) points)
points_agree table number = any_gathered at_point (op_in table) (takes number) number (at_point_takes table number)

functions_agree : (table : Interned) (number : ℕ) (functions : List memory_function.Function) → is_among number (gathered at_function functions) ≡ list_any (takes_in number) (map (function_in table) functions)
functions_agree table number = any_gathered at_function (function_in table) (takes_in number) number (λ function. points_agree table number function.points.items)

-- ---- first values

among_option : (number : ℕ) (found : Option ℕ) → is_among number (option_list found) ≡ is_at number found
among_option number None = refl
among_option number (Some other) = or_none (other == number)

pub not_scalar : {A S : Type 0} (numbers : IndexMap (Vec ℕ A) ℕ S) (first : memory_first.First) → ((held : _) → first ≡ V.Scalar held → ⊥) → at_first numbers first ≡ []
not_scalar numbers (V.Scalar held) none = absurd (none held refl)
not_scalar numbers (V.Text parts int_type bytes) none = refl

module _ {A S : Type 0} (tac : memory_tac.Tac) (numbers : IndexMap (Vec ℕ A) ℕ S) (numbered : NumbersFunctions numbers 0 tac.functions.items) (number : ℕ) where
  value_agrees : (value : memory_scalar.Scalar) → is_among number (at_value numbers value) ≡ names (tac_of tac) number (scalar_of value)
  value_agrees (C.Integer z) = refl
  value_agrees C.Null = refl
  value_agrees (C.Function name) = among_option number (get_by (λ key. bytes_eq name key.items) numbers) ∙ ap (is_at number) (numbered tac.types name)
  value_agrees (C.Pointer root parts index) = refl

  characters_name : (steps : List Part) (int_type : IntType) (index : ℕ) (bytes : List ℕ) → list_any (λ (held : Held). names (tac_of tac) number held.value) (characters_held steps int_type index bytes) ≡ false
  characters_name steps int_type index [] = refl
  characters_name steps int_type index (byte ∷ bytes) = characters_name steps int_type (suc index) bytes

  first_agrees : (first : memory_first.First) → is_among number (at_first numbers first) ≡ list_any (λ (held : Held). names (tac_of tac) number held.value) (first_of first)
  first_agrees (V.Scalar held) = value_agrees held.value ∙ sym (or_none (names (tac_of tac) number (scalar_of held.value)))
  first_agrees (V.Text parts int_type bytes) = sym (characters_name parts.items int_type 0 bytes)

  firsts_agree : (firsts : List memory_first.First) → is_among number (gathered (at_first numbers) firsts) ≡ list_any (λ (held : Held). names (tac_of tac) number held.value) (all_first firsts)
  firsts_agree [] = refl
  firsts_agree (first ∷ others) =
      among_append number (at_first numbers first) (gathered (at_first numbers) others)
      ∙ ((λ i. first_agrees first i || firsts_agree others i) ∙ sym (any_append (λ (held : Held). names (tac_of tac) number held.value) (first_of first) (all_first others)))

  globals_agree : (globals : List memory_global.GlobalDef) → is_among number (gathered (at_global numbers) globals) ≡ list_any (names_in (tac_of tac) number) (map (global_in tac.types) globals)
  globals_agree = any_gathered (at_global numbers) (global_in tac.types) (names_in (tac_of tac) number) number (λ global. firsts_agree global.first.items)

  all_agree : is_among number (gathered at_function tac.functions.items ++ (gathered at_point tac.start.points.items ++ gathered (at_global numbers) tac.globals.items)) ≡ is_taken (tac_of tac) number
  all_agree =
      among_append number (gathered at_function tac.functions.items) (gathered at_point tac.start.points.items ++ gathered (at_global numbers) tac.globals.items)
      ∙ (λ i. functions_agree tac.types number tac.functions.items i || (among_append number (gathered at_point tac.start.points.items) (gathered (at_global numbers) tac.globals.items)
      ∙ (λ j. points_agree tac.types number tac.start.points.items j || globals_agree tac.globals.items j)) i)

pub tells_taken : {A S : Type 0} (tac : memory_tac.Tac) (numbers : IndexMap (Vec ℕ A) ℕ S) (taken : List ℕ) (marks : List Bool) (count : ℕ) → NumbersFunctions numbers 0 tac.functions.items
    → taken ≡ gathered at_function tac.functions.items ++ (gathered at_point tac.start.points.items ++ gathered (at_global numbers) tac.globals.items) → count ≡ length tac.functions.items → AreMarks count taken marks
    → TellsTaken (tac_of tac) marks
tells_taken tac numbers taken marks count numbered is counts told =
    let long : length (map (function_in tac.types) tac.functions.items) ≡ length tac.functions.items = length-map tac.functions.items (function_in tac.types) in
    record {
      each = told.each ∙ (counts ∙ sym long);
      is = λ number lt.
          told.mark number (subst (λ n. number < n) (long ∙ sym counts) lt) ∙ ap Some (ap (is_among number) is ∙ all_agree tac numbers numbered number);
    }
