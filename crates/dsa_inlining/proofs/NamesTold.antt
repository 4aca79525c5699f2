-- The names of a group's functions in the graph that is only read.
use Rattle.std.proofs.Common.{◌≡◌, ℕ, suc, Bool, true, false, cond, List, [], ◌∷◌, map, Option, Some, None, refl, sym, ap, subst, ◌∙◌}
use Rattle.std.specs.Prelude.{◌&&◌, ◌||◌, option_map}
use Rattle.std.specs.List.{list_any}
use Rattle.std.proofs.lemmas.Option.{slice_get-map}
use Rattle.c_typed.specs.Table.{Interned}
use Rattle.tac_ir.specs.declared.register.FunctionId.{FunctionId}
use Rattle.tac_ir.specs.declared.register.Local.{Local}
use Rattle.tac_ir.specs.declared.register.Local.TheVariants as L
use Rattle.tac_ir.specs.declared.register.Register.{Register}
use Rattle.tac_ir.specs.declared.register.Register.TheVariants as R
use Rattle.tac_ir.specs.declared.program.LocalObject.{LocalObject}
use Rattle.tac_ir.specs.declared.program.Function.{Function}
use Rattle.tac_ir.specs.declared.program.Tac.{Tac}
use Rattle.tac_ir.specs.Code as O
use Rattle.tac_ir.specs.Values as V
use Rattle.tac_ir.specs.Views.{object_in, function_in, tac_of}
use Rattle.tac_ir.specs.States.{Owner, InStart, InFunction, function_of}
use Rattle.heap_graph.specs.Graphs.{Target, Name, OfRegister, OfResult, OfObject, OfGlobal, OfLiteral, OfCopy, Graph}
use Rattle.heap_graph.specs.Targets.{has_target}
use Rattle.heap_graph.specs.Escaping.{same_owner}
use Rattle.heap_graph.specs.Closed as C
use Rattle.graph_unification.specs.Memory.{owner_of}
use Rattle.graph_unification.specs.Cells.{has_number}
use Rattle.heap_graph.specs.declared.frozen.FunctionNames.{FunctionNames}
use Rattle.heap_graph.specs.declared.frozen.FrozenGraph.{FrozenGraph}
use Rattle.heap_graph.specs.Frozen.{optional_target, static_in, register_target, object_target, named, graph_with}
use Rattle.heap_graph.specs.Restricted.{if_certain}
use Rattle.graph_unification.specs.Freezing as F
use Rattle.graph_unification.specs.Freezing.{certain_name}
use Rattle.heap_graph.proofs.Outside.{same_owners}
use Rattle.dsa_inlining.specs.Owners.{function_at, is_owner, names_in, TellsOwn, TellsEach}
use Rattle.dsa_inlining.specs.Kept.{is_own}

-- ---- the names of an owner

-- the names of an owner are told, and what is no owner has none
abbrev pub AreNames : Graph → Tac → Owner → Bool → Option FunctionNames → Type 0
AreNames graph tac owner true (Some own) = TellsOwn graph tac owner own
AreNames graph tac owner true None = ⊥
AreNames graph tac owner false (Some own) = ⊥
AreNames graph tac owner false None = Unit {0}

pub names_told : (graph : Graph) (tac : Tac) (owners : List (Option FunctionId)) (names : List FunctionNames) → TellsEach graph tac owners names → (owner : Owner)
    → AreNames graph tac owner (is_owner owners owner) (names_in owners names owner)
names_told graph tac [] names tells owner = tt
names_told graph tac (first ∷ owners) [] tells owner = absurd (tells 0)
names_told graph tac (first ∷ owners) (own ∷ names) tells owner = by (same_owner (owner_of first) owner) refl (names_told graph tac owners names (λ place. tells (suc place)) owner)
  where
    by : (same : Bool) → same_owner (owner_of first) owner ≡ same → AreNames graph tac owner (is_owner owners owner) (names_in owners names owner)
        → AreNames graph tac owner (same || is_owner owners owner) (cond same (Some own) (names_in owners names owner))
    by true e later = subst (λ o. TellsOwn graph tac o own) (same_owners (owner_of first) owner e) (tells 0)
    by false e later = later

-- ---- registers and objects of a function

same_registers : (types : Interned) (function : Function) (register : Register) → F.has_register function.parameters function.counts register ≡ C.has_register (function_in types function) register
same_registers types function (R.Local (L.Parameter number)) = refl
same_registers types function (R.Local (L.Variable number)) = refl
same_registers types function (R.Call number) = refl
same_registers types function (R.Argument number) = refl
same_registers types function (R.Expression number) = refl
same_registers types function (R.Temporary number) = refl

same_locals : (a b : Local) → F.same_local a b ≡ V.same_local a b
same_locals (L.Parameter a) (L.Parameter b) = refl
same_locals (L.Parameter a) (L.Variable b) = refl
same_locals (L.Variable a) (L.Parameter b) = refl
same_locals (L.Variable a) (L.Variable b) = refl

same_objects : (types : Interned) (objects : List LocalObject) (local : Local) → F.has_object objects local ≡ list_any (λ (object : O.LocalObject). V.same_local object.local local) (map (object_in types) objects)
same_objects types [] local = refl
same_objects types (object ∷ objects) local =
    ap (λ b. cond b true (F.has_object objects local)) (same_locals object.local local) ∙ by (V.same_local object.local local) (same_objects types objects local)
  where
    by : (b : Bool) → F.has_object objects local ≡ list_any (λ (other : O.LocalObject). V.same_local other.local local) (map (object_in types) objects)
        → cond b true (F.has_object objects local) ≡ (b || list_any (λ (other : O.LocalObject). V.same_local other.local local) (map (object_in types) objects))
    by true e = refl
    by false e = e

pub function_there : (tac : Tac) (owner : Owner) (function : Function) → function_at tac owner ≡ Some function → function_of (tac_of tac) owner ≡ Some (function_in tac.types function)
function_there tac InStart function e = ap (option_map (function_in tac.types)) e
function_there tac (InFunction number) function e = slice_get-map (function_in tac.types) tac.functions.items number ∙ ap (option_map (function_in tac.types)) e

-- ---- targets

module _ (table : Interned) (tac : Tac) (owners : List (Option FunctionId)) (made : Graph) (frozen : FrozenGraph) (names : List FunctionNames) (tells : TellsEach made tac owners names) where
  abbrev shown : Graph
  shown = graph_with table frozen (names_in owners names)

  of_owner : (owner : Owner) (name : Name) (holds : O.Function → Bool) (told : Function → Bool) (target : FunctionNames → Option Target)
      → ((function : Function) → told function ≡ holds (function_in tac.types function))
      → ((function : Function) (own : FunctionNames) → F.TellsNames made owner function own → target own ≡ cond (told function) (certain_name made name) None)
      → named target (names_in owners names owner) ≡ cond (is_owner owners owner && C.of_function (function_of (tac_of tac) owner) holds) (certain_name made name) None
  of_owner owner name holds told target same tells_it = by (is_owner owners owner) (names_in owners names owner) (names_told made tac owners names tells owner)
    where
      by : (b : Bool) (o : Option FunctionNames) → AreNames made tac owner b o
          → named target o ≡ cond (b && C.of_function (function_of (tac_of tac) owner) holds) (certain_name made name) None
      by true (Some own) h =
          tells_it h.function own h.tells ∙ ap (λ b. cond b (certain_name made name) None) (same h.function ∙ ap (λ f. C.of_function f holds) (sym (function_there tac owner h.function h.is)))
      by true None h = absurd h
      by false (Some own) h = absurd h
      by false None h = refl

  of_result : (owner : Owner) → named (λ own. optional_target own.returned) (names_in owners names owner) ≡ cond (is_owner owners owner) (certain_name made (OfResult owner)) None
  of_result owner = by (is_owner owners owner) (names_in owners names owner) (names_told made tac owners names tells owner)
    where
      by : (b : Bool) (o : Option FunctionNames) → AreNames made tac owner b o → named (λ own. optional_target own.returned) o ≡ cond b (certain_name made (OfResult owner)) None
      by true (Some own) h = h.tells.of_result
      by true None h = absurd h
      by false (Some own) h = absurd h
      by false None h = refl

  pub targets_kept : ((number : ℕ) → static_in frozen.globals number ≡ certain_name made (OfGlobal number)) → ((number : ℕ) → static_in frozen.literals number ≡ certain_name made (OfLiteral number))
      → (name : Name) → shown.targets name ≡ cond (is_own (tac_of tac) (is_owner owners) name) (if_certain made (made.targets name)) None
  targets_kept globals literals (OfRegister owner register) =
      of_owner owner (OfRegister owner register) (λ function. C.has_register function register) (λ function. F.has_register function.parameters function.counts register) (λ own. register_target own register)
      (λ function. same_registers tac.types function register) (λ function own h. h.of_registers register)
  targets_kept globals literals (OfResult owner) = of_result owner
  targets_kept globals literals (OfObject owner local) =
      of_owner owner (OfObject owner local) (λ function. C.has_object function local) (λ function. F.has_object function.objects.items local) (λ own. object_target own local)
      (λ function. same_objects tac.types function.objects.items local) (λ function own h. h.of_objects local)
  targets_kept globals literals (OfGlobal number) = globals number
  targets_kept globals literals (OfLiteral number) = literals number
  targets_kept globals literals (OfCopy number) = refl

-- all targets of variables or of literals are told, where the numbers are those that have targets
pub statics_told : (made : Graph) (numbers : List ℕ) (number : ℕ) (name : Name) (target : Option Target) → target ≡ cond (has_number numbers number) (certain_name made name) None
    → has_number numbers number ≡ has_target (made.targets name) → target ≡ certain_name made name
statics_told made numbers number name target told all = told ∙ ap (λ b. cond b (certain_name made name) None) all ∙ by (made.targets name)
  where
    by : (o : Option Target) → cond (has_target o) (if_certain made o) None ≡ if_certain made o
    by None = refl
    by (Some to) = refl
