-- The graph of a group in a family that shows what is kept.
use Rattle.std.proofs.Common.{◌≡◌, ℕ, ◌||◌, Bool, true, false, List, [], ◌∷◌, map, eqb, inl, inr, Option, Some, None, refl, sym, ap, ◌∙◌, arith}
use Rattle.std.specs.Prelude.{slice_get}
use Rattle.std.proofs.lemmas.Bool.{false≢true}
use Rattle.std.proofs.lemmas.Option.{slice_get_cases}
use Rattle.c_typed.specs.Table.{Interned}
use Rattle.tac_ir.specs.declared.register.FunctionId.{FunctionId}
use Rattle.tac_ir.specs.States.{Owner, InStart, InFunction}
use Rattle.heap_graph.specs.Graphs.{Target, Name, OfRegister, OfResult, OfObject, OfGlobal, OfLiteral, OfCopy, Graph}
use Rattle.heap_graph.specs.Closed.{Family, graph_of, is_in, is_start, of_group}
use Rattle.heap_graph.specs.declared.frozen.FunctionNames.{FunctionNames}
use Rattle.heap_graph.specs.declared.frozen.FrozenGraph.{FrozenGraph}
use Rattle.heap_graph.specs.Frozen.{optional_target, register_target, object_target, named, graph_with}
use Rattle.heap_graph.specs.declared.program.FunctionGraph.{FunctionGraph}
use Rattle.heap_graph.specs.Programs.{start_names}
use Rattle.heap_graph.specs.Shows.{HasNoNames, ShowsGroup}
use Rattle.heap_graph.specs.Complete.{numbers}
use Rattle.dsa_inlining.specs.Owners.{is_owner, names_in}

-- the owners are the functions of the group
pub owners_are : (members : List FunctionId) (owner : Owner) → is_owner (map Some members) owner ≡ of_group (numbers members) owner
owners_are [] InStart = refl
owners_are [] (InFunction number) = refl
owners_are (first ∷ members) InStart = owners_are members InStart
owners_are (first ∷ members) (InFunction number) = ap (λ b. (eqb first.0 number) || b) (owners_are members (InFunction number))

pub owners_same : (members : List FunctionId) → is_owner (map Some members) ≡ of_group (numbers members)
owners_same members i owner = owners_are members owner i

-- the owner alone is `start`
pub start_is : (owner : Owner) → is_owner (None ∷ []) owner ≡ is_start owner
start_is InStart = refl
start_is (InFunction number) = refl

pub start_same : is_owner (None ∷ []) ≡ is_start
start_same i owner = start_is owner i

pub start_names_are : (start : FunctionGraph) (owner : Owner) → names_in (None ∷ []) (start.names ∷ []) owner ≡ start_names start owner
start_names_are start InStart = refl
start_names_are start (InFunction number) = refl

module _ (table : Interned) (family : Family) (group : List ℕ) (graph : FrozenGraph) (functions : List FunctionGraph) (shows : ShowsGroup table family group graph functions) (one : ℕ)
    (inside : is_in one group ≡ true) (names_of : Owner → Option FunctionNames)
    (there : (function : ℕ) (own : FunctionGraph) → is_in function group ≡ true → slice_get functions function ≡ Some own → names_of (InFunction function) ≡ Some own.names)
    (others : (owner : Owner) → of_group group owner ≡ false → names_of owner ≡ None) where
  abbrev shown : Graph
  shown = graph_of family (InFunction one)

  own_there : (function : ℕ) → is_in function group ≡ true → (own : FunctionGraph) × (slice_get functions function ≡ Some own)
  own_there function is = elim (slice_get_cases functions function).1 [ inl found ↦ (found.0, found.2) | inr past ↦ absurd (omega (arith, past.0, shows.there function is)) ]

  of_owner : (owner : Owner) (name : Name) (target : FunctionNames → Option Target) → (HasNoNames shown owner → shown.targets name ≡ None)
      → ((function : ℕ) (own : FunctionGraph) → owner ≡ InFunction function → is_in function group ≡ true → slice_get functions function ≡ Some own → shown.targets name ≡ target own.names)
      → shown.targets name ≡ named target (names_of owner)
  of_owner owner name target none told = by owner refl (of_group group owner) refl
    where
      by : (own : Owner) → owner ≡ own → (b : Bool) → of_group group own ≡ b → shown.targets name ≡ named target (names_of owner)
      by own same false e = none (shows.others one owner inside (ap (of_group group) same ∙ e)) ∙ sym (ap (named target) (others owner (ap (of_group group) same ∙ e)))
      by InStart same true e = absurd (false≢true e)
      by (InFunction function) same true e =
          let own = own_there function e in
          told function own.0 same e own.1 ∙ sym (ap (λ o. named target (names_of o)) same ∙ ap (named target) (there function own.0 e own.1))

  targets_shown : (name : Name) → shown.targets name ≡ (graph_with table graph names_of).targets name
  targets_shown (OfRegister owner register) =
      of_owner owner (OfRegister owner register) (λ names. register_target names register) (λ none. none.registers register)
      (λ function own same is stored.
      ap (λ o. shown.targets (OfRegister o register)) same ∙ ap (λ (g : Graph). g.targets (OfRegister (InFunction function) register)) (shows.same one function inside is)
      ∙ (shows.names function own is stored).registers register)
  targets_shown (OfResult owner) =
      of_owner owner (OfResult owner) (λ names. optional_target names.returned) (λ none. none.returned)
      (λ function own same is stored.
      ap (λ o. shown.targets (OfResult o)) same ∙ ap (λ (g : Graph). g.targets (OfResult (InFunction function))) (shows.same one function inside is)
      ∙ (shows.names function own is stored).returned)
  targets_shown (OfObject owner local) =
      of_owner owner (OfObject owner local) (λ names. object_target names local) (λ none. none.objects local)
      (λ function own same is stored.
      ap (λ o. shown.targets (OfObject o local)) same ∙ ap (λ (g : Graph). g.targets (OfObject (InFunction function) local)) (shows.same one function inside is)
      ∙ (shows.names function own is stored).objects local)
  targets_shown (OfGlobal number) = (shows.one one inside).globals number
  targets_shown (OfLiteral number) = (shows.one one inside).literals number
  targets_shown (OfCopy number) = (shows.one one inside).copies number

  -- it is the graph in which the functions have these names
  pub shown_is : graph_of family (InFunction one) ≡ graph_with table graph names_of
  shown_is i = record { nodes = (shows.one one inside).nodes i; targets = λ name. targets_shown name i }
