-- What is collected of a function's code is so of the function of the program.
use Rattle.std.proofs.Common.{◌≡◌, List, [], ◌∷◌, ◌++◌, take, get_or, ◌+◌, ◌<◌, ℕ, length, option_map, Some, refl, sym, ap, ◌∙◌}
use Rattle.std.specs.Prelude.{slice_get}
use Rattle.std.specs.List.{list_any}
use Rattle.std.proofs.lemmas.List.{map-append}
use Rattle.std.proofs.lemmas.Option.{slice_get-map, slice_get-get_or}
use Rattle.call_graph.proofs.RowLists.{read_take}
use Rattle.tac_ir.specs.declared.program.Tac as memory_tac
use Rattle.tac_ir.specs.declared.program.Function as memory_function
use Rattle.tac_ir.specs.declared.register.FunctionId.{FunctionId}
use Rattle.tac_ir.specs.Objects.{own_type}
use Rattle.tac_ir.specs.States.{Owner, function_of, points_of, objects_of}
use Rattle.tac_ir.specs.Views.{function_in, tac_of}
use Rattle.heap_graph.specs.Points.{makes_null, type_of_inner}
use Rattle.call_graph.specs.ClassLists.{numbers_of}
use Rattle.heap_graph.specs.declared.scope.Scope.{Scope}
use Rattle.heap_graph.specs.Known.{owner_at, Describes}
use Rattle.dsa_local.specs.Local.{IsScope}

pub scope_told : (tac : memory_tac.Tac) (owner : Owner) (function : memory_function.Function) (scope : Scope) → function_of (tac_of tac) owner ≡ Some (function_in tac.types function) → owner_at scope.owner ≡ owner
    → Describes tac.types function scope → IsScope tac scope
scope_told tac owner function scope at same its =
    let found : function_of (tac_of tac) (owner_at scope.owner) ≡ Some (function_in tac.types function) = ap (function_of (tac_of tac)) same ∙ at in
    record {
      nulls = λ register. its.nulls register ∙ sym (ap (λ f. list_any (makes_null register) (points_of f)) found);
      types = λ local. its.types local ∙ sym (ap (λ f. type_of_inner (own_type (objects_of f) local)) found);
    }

abbrev pub none : FunctionId
none = record { 0 = 0 }

-- ---- numbers of functions

pub number_at : (members : List FunctionId) (i : ℕ) → i < length members → slice_get (numbers_of members) i ≡ Some (get_or members i none).0
number_at members i less = slice_get-map (λ (f : FunctionId). f.0) members i ∙ ap (option_map (λ (f : FunctionId). f.0)) (slice_get-get_or members i none less)

pub numbers_more : (members : List FunctionId) (i : ℕ) → i < length members → numbers_of (take (i + 1) members) ≡ numbers_of (take i members) ++ (get_or members i none).0 ∷ []
numbers_more members i less = ap numbers_of (read_take members i (i + 1) (get_or members i none) none refl less refl) ∙ map-append (λ (f : FunctionId). f.0) (take i members) (get_or members i none ∷ [])
