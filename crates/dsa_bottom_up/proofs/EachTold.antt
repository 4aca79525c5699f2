-- Functions of a group, told one after the other.
use Rattle.std.proofs.Common.{◌≡◌, ◌⊎◌, inl, inr, ℕ, ◌+◌, ◌<◌, List, [], ◌∷◌, ◌++◌, length, map, get_or, Some, refl, sym, ap, subst, ◌∙◌, arith}
use Rattle.std.specs.Prelude.{slice_get}
use Rattle.std.specs.List.{enumerate_from}
use Rattle.std.proofs.lemmas.List.{length-map}
use Rattle.std.proofs.lemmas.List.FromFn.{length-enumerate_from, get_or-enumerate_from}
use Rattle.std.proofs.lemmas.Option.{none-some, same_Some}
use Rattle.c_typed.specs.Table.{Interned}
use Rattle.graph_unification.specs.declared.graph.Graph.{Graph}
use Rattle.graph_unification.specs.Memory.{graph_in, IsGraph}
use Rattle.call_graph.proofs.RowPlaces.{at_more}
use Rattle.heap_graph.specs.declared.frozen.FunctionNames.{FunctionNames}
use Rattle.heap_graph.specs.declared.program.FunctionGraph.{FunctionGraph}
use Rattle.dsa_inlining.specs.declared.before.Crossings.{Crossings}
use Rattle.dsa_inlining.specs.Crossings.{TellsCrossings}
use Rattle.dsa_local.proofs.Collecting.{map_more}
use Rattle.dsa_bottom_up.specs.Assembling.{TellEach}

abbrev names_of : FunctionGraph → FunctionNames
names_of function = function.names

abbrev listed : ℕ × FunctionNames → FunctionNames
listed item = item.1

-- the names that came so far are those of the functions, and of each call of theirs it is told where the copies are
pub record ToldSoFar (graph : Graph) (crossings : List Crossings) (yielded : List (ℕ × FunctionNames)) (functions : List FunctionGraph) : Type 0 where
  pub names' : map names_of functions ≡ map listed yielded
  pub embeddings : (table : Interned) → IsGraph table graph → (place : ℕ) (own : Crossings) (function : FunctionGraph) → slice_get crossings place ≡ Some own → slice_get functions place ≡ Some function
      → TellsCrossings (graph_in table graph) own function.embeddings

pub told_none : (graph : Graph) (crossings : List Crossings) (functions : List FunctionGraph) → functions ≡ [] → ToldSoFar graph crossings [] functions
told_none graph crossings functions none = subst (ToldSoFar graph crossings []) (sym none) (record { names' = refl; embeddings = λ table fine place own function is there. absurd (none-some function there) })

-- the number that comes with names is how many came before
pub number_is : (names : List FunctionNames) (count : ℕ) (item : ℕ × FunctionNames) → count < length (enumerate_from 0 names) → (item.0, item.1) ≡ get_or (enumerate_from 0 names) count (item.0, item.1) → item.0 ≡ count
number_is names count item less is =
    let within : count < length names = subst (λ n. count < n) (length-enumerate_from 0 names) less in
    let same : item.0 ≡ 0 + count = ap (λ (p : ℕ × FunctionNames). p.0) (is ∙ get_or-enumerate_from 0 names count (item.0, item.1) within) in
    omega (arith, same)

pub told_next : (graph : Graph) (crossings : List Crossings) (yielded : List (ℕ × FunctionNames)) (item : ℕ × FunctionNames) (functions new : List FunctionGraph) (function : FunctionGraph) (own : Crossings) → new ≡ functions ++ function ∷ []
    → function.names ≡ item.1 → item.0 ≡ length yielded → slice_get crossings item.0 ≡ Some own → ((table : Interned) → IsGraph table graph → TellsCrossings (graph_in table graph) own function.embeddings)
    → ToldSoFar graph crossings yielded functions → ToldSoFar graph crossings (yielded ++ item ∷ []) new
told_next graph crossings yielded item functions new function own adds names number at tells before = record {
  names' = map_more names_of listed functions new function yielded (yielded ++ item ∷ []) item adds refl before.names' names;
  embeddings = λ table fine place its one is there. by table fine place its one is (at_more functions function place one (ap (λ l. slice_get l place) (sym adds) ∙ there));
}
  where
    long : length functions ≡ length yielded
    long = sym (length-map functions names_of) ∙ (ap length before.names' ∙ length-map yielded listed)

    by : (table : Interned) → IsGraph table graph → (place : ℕ) (its : Crossings) (one : FunctionGraph) → slice_get crossings place ≡ Some its
        → (slice_get functions place ≡ Some one) ⊎ ((place ≡ length functions) × (function ≡ one)) → TellsCrossings (graph_in table graph) its one.embeddings
    by table fine place its one is (inl old) = before.embeddings table fine place its one is old
    by table fine place its one is (inr last) =
        let same : own ≡ its = same_Some own its (sym at ∙ (ap (slice_get crossings) (number ∙ (sym long ∙ sym last.0)) ∙ is)) in
        subst (λ (f : FunctionGraph). TellsCrossings (graph_in table graph) its f.embeddings) last.1 (subst (λ c. TellsCrossings (graph_in table graph) c function.embeddings) same (tells table fine))

numbered_names : (n : ℕ) (names : List FunctionNames) → map listed (enumerate_from n names) ≡ names
numbered_names n [] = refl
numbered_names n (first ∷ names) = ap (λ l. first ∷ l) (numbered_names (n + 1) names)

pub told_all : (graph : Graph) (crossings : List Crossings) (names : List FunctionNames) (yielded : List (ℕ × FunctionNames)) (functions : List FunctionGraph)
    → map (λ (p : ℕ × FunctionNames). (p.0, p.1)) yielded ≡ enumerate_from 0 names → ToldSoFar graph crossings yielded functions → (table : Interned) → IsGraph table graph
    → TellEach (graph_in table graph) names crossings functions
told_all graph crossings names yielded functions all told table fine = record {
  names' = told.names' ∙ (pairs yielded ∙ (ap (map listed) all ∙ numbered_names 0 names));
  embeddings = told.embeddings table fine;
}
  where
    pairs : (items : List (ℕ × FunctionNames)) → map listed items ≡ map listed (map (λ (p : ℕ × FunctionNames). (p.0, p.1)) items)
    pairs [] = refl
    pairs (first ∷ items) = ap (λ l. first.1 ∷ l) (pairs items)
