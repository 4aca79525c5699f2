-- What graphs of groups tell of variables and literals is known still where one more group has its graph.
use Rattle.std.proofs.Common.{◌≡◌, ℕ, ◌⊎◌, inl, inr, List, [], ◌∷◌, ◌++◌, length, Some, sym, ap, subst, ◌∙◌, arith}
use Rattle.std.specs.Prelude.{slice_get}
use Rattle.std.proofs.lemmas.Bool.{cases_lt}
use Rattle.std.proofs.lemmas.List.{length-append}
use Rattle.std.proofs.lemmas.Option.{same_Some, slice_get_within}
use Rattle.c_typed.specs.Table.{Interned}
use Rattle.heap_graph.specs.Graphs.{Name, OfGlobal, OfLiteral}
use Rattle.heap_graph.specs.declared.frozen.FrozenGraph.{FrozenGraph}
use Rattle.call_graph.proofs.RowPlaces.{append_before}
use Rattle.graph_unification.proofs.CellLists.{get_kept, get_last}
use Rattle.dsa_inlining.specs.declared.told_statics.GroupStatics.{GroupStatics}
use Rattle.dsa_inlining.specs.GroupStatics.Listed.{Lists}
use Rattle.dsa_inlining.specs.GroupStatics.Groups.{IsOfBase, IsBase, IsTold, HasStatics, HaveStatics}

-- an item of a list with one more is an old one or the last
old_or_last : {X : Type 0} (xs : List X) (last x : X) (number : ℕ) → slice_get (xs ++ last ∷ []) number ≡ Some x → (slice_get xs number ≡ Some x) ⊎ ((number ≡ length xs) × (last ≡ x))
old_or_last xs last x number is = elim (cases_lt number (length xs)) [
  | inl lt ↦ inl (sym (append_before xs (last ∷ []) number lt) ∙ is)
  | inr past ↦
      let less = slice_get_within (xs ++ last ∷ []) number x is in
      let long = length-append xs (last ∷ []) in
      let same : number ≡ length xs = omega (arith, past, less, long) in
      inr (same, same_Some last x (sym (get_last xs last) ∙ (ap (slice_get (xs ++ last ∷ [])) (sym same) ∙ is)))
]

module _ (table : Interned) (graphs : List FrozenGraph) (last : FrozenGraph) where
  abbrev more : List FrozenGraph
  more = graphs ++ last ∷ []

  base_more : (group : FrozenGraph) (base : ℕ) → IsBase table graphs group base → IsBase table more group base
  base_more group base its = record { graph = its.graph; is = get_kept graphs last base its.graph its.is; aligned = its.aligned }

  known_more : (its : GroupStatics) (name : Name) → Lists its.own name ⊎ IsOfBase table graphs its name → Lists its.own name ⊎ IsOfBase table more its name
  known_more its name (inl own) = inl own
  known_more its name (inr of) = inr (record { base = of.base; among = of.among; graph = of.graph; is = get_kept graphs last of.base of.graph of.is; told = of.told })

  told_more : (number : ℕ) (graph : FrozenGraph) (its : GroupStatics) → IsTold table graphs number graph its → IsTold table more number graph its
  told_more number graph its told = record {
    self = told.self;
    below = told.below;
    bases = λ base among. base_more graph base (told.bases base among);
    own = told.own;
    globals = λ place has. known_more its (OfGlobal place) (told.globals place has);
    literals = λ place has. known_more its (OfLiteral place) (told.literals place has);
    represents = told.represents;
  }

  pub statics_added : (all : List GroupStatics) (its : GroupStatics) → length all ≡ length graphs → HaveStatics table graphs all → IsTold table graphs (length graphs) last its → HaveStatics table more (all ++ its ∷ [])
  statics_added all its many have told number graph is = by (old_or_last graphs last graph number is)
    where
      by : (slice_get graphs number ≡ Some graph) ⊎ ((number ≡ length graphs) × (last ≡ graph)) → HasStatics table more (all ++ its ∷ []) number graph
      by (inl was) =
          let old = have number graph was in
          record { its = old.its; is = get_kept all its number old.its old.is; told = told_more number graph old.its old.told }
      by (inr new) = record {
        its = its;
        is = ap (slice_get (all ++ its ∷ [])) (new.0 ∙ sym many) ∙ get_last all its;
        told = told_more number graph its (subst (λ g. IsTold table graphs number g its) new.1 (subst (λ n. IsTold table graphs n last its) (sym new.0) told));
      }
