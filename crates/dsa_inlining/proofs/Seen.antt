-- What was read of a graph and of its copies.
use Rattle.std.proofs.Common.{◌≡◌, ℕ, suc, ◌+◌, ◌<◌, ◌^◌, Bool, true, false, cond, eqb, List, [], ◌∷◌, length, get_or, Option, Some, None, refl, sym, ap, subst, ◌∙◌, arith, eqb-true}
use Rattle.std.proofs.lemmas.Bool.{true≢false, false≢true}
use Rattle.std.proofs.lemmas.Option.{none-some, same_Some}
use Rattle.std.proofs.lemmas.List.{get_or_read}
use Rattle.std.specs.Borrow.{Bor}
use Rattle.std.specs.Map.{keys_of, lookup}
use Rattle.std.specs.Option.{option_copied, is_some}
use Rattle.indexmap.specs.IndexMap.{IndexMap, keys, get_by}
use Rattle.c_typed.specs.Layouts.{StructDef}
use Rattle.c_typed.specs.Table.{Interned}
use Rattle.heap_graph.specs.declared.graph.Element as memory_element
use Rattle.heap_graph.specs.declared.graph.Flags as memory_flags
use Rattle.heap_graph.specs.Graphs.{Target, Element, Flags, Node, Name, Graph, node_at, OfCopy}
use Rattle.heap_graph.specs.Memory.{element_in}
use Rattle.heap_graph.specs.Targets.{is_collapsed, shifted}
use Rattle.heap_graph.proofs.MapsCompose.{shifted_there}
use Rattle.graph_unification.specs.Changes.{TellsNode}
use Rattle.graph_unification.proofs.Bounds.{slot_fits}
use Rattle.graph_unification.specs.Adding.{AddsName}
use Rattle.dsa_inlining.specs.Copied.{named_copy, image}
use Rattle.dsa_inlining.specs.Steps.{LeadsToSlot}

-- ---- values of a map

pub has_value : (o : Option (Bor ℕ)) → is_some o ≡ true → (n : ℕ) × (option_copied o ≡ Some n)
has_value None h = absurd (false≢true h)
has_value (Some value) h = (value.now, refl)

pub has_none : (o : Option (Bor ℕ)) → is_some o ≡ false → option_copied o ≡ None
has_none None h = refl
has_none (Some value) h = absurd (true≢false h)

-- ---- a name that got a node, said in other words

pub adds_same : (old new : Graph) (name : Name) (e f : Element) (x y : Flags) → e ≡ f → x ≡ y → AddsName old new name (record { element = e; flags = x; edges = [] })
    → AddsName old new name (record { element = f; flags = y; edges = [] })
adds_same old new name e f x y elements flags its =
    subst (λ (el : Element). AddsName old new name (record { element = el; flags = y; edges = [] })) elements
    (subst (λ (fl : Flags). AddsName old new name (record { element = e; flags = fl; edges = [] })) flags its)

-- ---- slots of copies

shifted_none : (graph : Graph) (slots : ℕ) (target : Target) → node_at graph target.node ≡ None → shifted graph slots (Some target) ≡ None
shifted_none graph slots target e = rw e refl

module _ (graph : Graph) (copies : ℕ → Option ℕ) (number slot copy : ℕ) (target : Target) (of_node : copies number ≡ Some copy) (at : graph.targets (OfCopy copy) ≡ Some target) (table : Interned) where
  found : image graph copies (record { node = number; shift = slot }) ≡ shifted graph slot (Some target)
  found = ap (shifted graph slot) (ap (named_copy graph) of_node ∙ at)

  pub place_none : TellsNode table (node_at graph target.node) None → image graph copies (record { node = number; shift = slot }) ≡ None
  place_none tells = by (node_at graph target.node) refl tells
    where
      by : (o : Option Node) → node_at graph target.node ≡ o → TellsNode table o None → image graph copies (record { node = number; shift = slot }) ≡ None
      by None e h = found ∙ shifted_none graph slot target e
      by (Some node) e h = absurd h

  pub place_some : (element : memory_element.Element) (flags : memory_flags.Flags) → TellsNode table (node_at graph target.node) (Some (element, flags))
      → image graph copies (record { node = number; shift = slot }) ≡ Some (record { node = target.node; shift = cond (is_collapsed (element_in table element)) 0 (target.shift + slot) })
  place_some element flags tells = by (node_at graph target.node) refl tells
    where
      by : (o : Option Node) → node_at graph target.node ≡ o → TellsNode table o (Some (element, flags))
          → image graph copies (record { node = number; shift = slot }) ≡ Some (record { node = target.node; shift = cond (is_collapsed (element_in table element)) 0 (target.shift + slot) })
      by None e h = absurd h
      by (Some node) e h =
          found ∙ shifted_there graph slot target node e
          ∙ ap (λ e. Some (record { node = target.node; shift = cond (is_collapsed e) 0 (target.shift + slot) })) (sym h.0)

-- its shift is small
pub place_small : (structs : List StructDef) (graph : Graph) (at : Option Target) (node shift : ℕ) → at ≡ Some (record { node = node; shift = shift }) → LeadsToSlot structs graph at → shift < 2 ^ 64
place_small structs graph at node shift is slot =
    subst (λ (t : Target). t.shift < 2 ^ 64) (same_Some slot.place (record { node = node; shift = shift }) (sym slot.is ∙ is)) (slot_fits structs graph slot.place slot.slot)

-- ---- lists and maps

-- an empty map has no values
pub nothing_in : {S : Type 0} (map : IndexMap ℕ ℕ S) → map.entries ≡ [] → (number : ℕ) → get_by (λ key. eqb number key) map ≡ None
nothing_in map empty number = ap (λ entries. lookup (λ key. eqb number key) entries) empty

-- the number at an index is one
pub number_at : (numbers : List ℕ) (index d : ℕ) → index < length numbers → (at other : ℕ) → at ≡ index → get_or numbers at other ≡ other → other ≡ get_or numbers index d
number_at numbers index d less at other same is =
    let here : get_or numbers index other ≡ other = ap (λ i. get_or numbers i other) (sym same) ∙ is in
    get_or_read numbers index other less (sym here) d

-- what holds of each key holds of each number that has a value
pub each_key : {S : Type 0} (map : IndexMap ℕ ℕ S) (holds : ℕ → Type 0) → ((place : ℕ) → place < length (keys map) → holds (get_or (keys map) place 0)) → (number value : ℕ)
    → get_by (λ key. eqb number key) map ≡ Some value → holds number
each_key map holds each number value is = in_entries map.entries (λ place less. each place less) is
  where
    in_entries : (entries : List (ℕ × ℕ)) → ((place : ℕ) → place < length (keys_of entries) → holds (get_or (keys_of entries) place 0)) → lookup (λ key. eqb number key) entries ≡ Some value → holds number
    in_entries [] all e = absurd (none-some value e)
    in_entries (entry ∷ entries) all e = by (eqb number entry.0) refl (in_entries entries (λ place less. all (suc place) (omega (arith, less))))
      where
        by : (b : Bool) → eqb number entry.0 ≡ b → (lookup (λ key. eqb number key) entries ≡ Some value → holds number) → holds number
        by true t others = subst holds (sym (eqb-true number entry.0 t)) (all 0 (omega arith))
        by false t others = others (sym (rest t) ∙ e)
          where
            rest : eqb number entry.0 ≡ false → lookup (λ key. eqb number key) (entry ∷ entries) ≡ lookup (λ key. eqb number key) entries
            rest t = rw t refl
