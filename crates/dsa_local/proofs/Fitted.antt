-- The points of functions fit a graph that has their names.
use Rattle.std.proofs.Common.{◌≡◌, ◌||◌, Bool, true, false, List, [], ◌∷◌, Option, Some, None, refl, sym, ap, ◌∙◌, eq-eqb}
use Rattle.std.specs.List.{AllByRecursion}
use Rattle.c_typed.specs.DefinitionViews.{LiteralsStand}
use Rattle.tac_ir.specs.declared.program.Tac as memory_tac
use Rattle.tac_ir.specs.Code.{Function}
use Rattle.tac_ir.specs.States.{Owner, InStart, InFunction, function_of, points_of}
use Rattle.tac_ir.specs.Views.{tac_of}
use Rattle.heap_graph.specs.Graphs.{Graph}
use Rattle.heap_graph.specs.Escaping.{same_owner}
use Rattle.heap_graph.specs.declared.scope.Scope.{Scope}
use Rattle.heap_graph.specs.Known.{owner_at}
use Rattle.graph_unification.specs.Fits.{AllFit}
use Rattle.graph_unification.specs.Standing.{CodeStands}
use Rattle.graph_unification.proofs.Fitting.{code_fits}
use Rattle.dsa_local.specs.Mentioned.{is_among}
use Rattle.dsa_local.specs.Told.{NamesTold}
use Rattle.dsa_local.specs.Rounds.{owners_of, IsFit, AreFit}
use Rattle.dsa_local.specs.Local.{AreScopes}

same_itself : (owner : Owner) → same_owner owner owner ≡ true
same_itself InStart = refl
same_itself (InFunction number) = eq-eqb number number refl

module _ (tac : memory_tac.Tac) (stands : CodeStands (tac_of tac)) (graph : Graph) where
  -- the points of one function
  points_fit : (owners : List Owner) → NamesTold (tac_of tac) owners graph → (owner : Owner) → is_among owner owners ≡ true → AllFit (tac_of tac) graph owner (points_of (function_of (tac_of tac) owner))
  points_fit owners told owner among = by (function_of (tac_of tac) owner) refl
    where
      by : (found : Option Function) → function_of (tac_of tac) owner ≡ found → AllFit (tac_of tac) graph owner (points_of found)
      by None is = tt
      by (Some function) is = code_fits (tac_of tac) graph owner function (stands.functions owner function is) is (told.functions owner function among is).names

  each_fits : (owners : List Owner) → NamesTold (tac_of tac) owners graph → (scopes : List Scope) → ((owner : Owner) → is_among owner (owners_of scopes) ≡ true → is_among owner owners ≡ true)
      → AreScopes tac scopes → AllByRecursion (IsFit tac graph) scopes
  each_fits owners told [] among are = tt
  each_fits owners told (scope ∷ scopes) among are =
      let owner = owner_at scope.owner in (
        record {
          nulls = are.0.nulls;
          types = are.0.types;
          fit = points_fit owners told owner (among owner (ap (λ b. b || is_among owner (owners_of scopes)) (same_itself owner)));
        },
        each_fits owners told scopes (λ other is. among other (either (same_owner owner other) is)) are.1,
      )
    where
      either : (b : Bool) {c : Bool} → c ≡ true → (b || c) ≡ true
      either true is = refl
      either false is = is

  pub all_fit : (owners : List Owner) → NamesTold (tac_of tac) owners graph → LiteralsStand tac.types tac.literals.items → (scopes : List Scope) → owners_of scopes ≡ owners → AreScopes tac scopes → AreFit tac graph scopes
  all_fit owners told literals scopes same are = record {
    made = stands.made;
    literals = literals;
    each = each_fits owners told scopes (λ owner is. ap (is_among owner) (sym same) ∙ is) are;
  }
