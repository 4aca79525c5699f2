-- The slots of copies.
use Rattle.std.proofs.Common.{◌≡◌, ℕ, ◌+◌, ◌<◌, true, cond, List, Option, Some, sym, ap, subst, ◌∙◌, arith}
use Rattle.std.proofs.lemmas.Bool.{false≢true}
use Rattle.std.proofs.lemmas.Option.{same_Some}
use Rattle.c_typed.specs.Layouts.{StructDef}
use Rattle.heap_graph.specs.Structures.{AreMade}
use Rattle.heap_graph.specs.Graphs.{Element, Missing, OfType, Collapsed, Flags, Edge, Node, Graph, node_at, OfCopy}
use Rattle.heap_graph.specs.Targets.{is_collapsed, shifted, element_kept}
use Rattle.heap_graph.specs.Merging.{slots, IsSound}
use Rattle.heap_graph.proofs.MapsCompose.{shift_in, shifted_there, at_there}
use Rattle.heap_graph.proofs.PartsNest.{tested, within}
use Rattle.dsa_inlining.specs.Copied.{named_copy, image, NodesCopied}
use Rattle.dsa_inlining.specs.Steps.{LeadsToSlot}

module _ (structs : List StructDef) (made : AreMade structs) where
  -- a slot of a node lies in the node that keeps it
  inside : (old new : Element) (flags : Flags) (edges : List Edge) (shift slot : ℕ) → element_kept structs old (record { element = new; flags = flags; edges = edges }) shift ≡ true → slot < slots structs old
      → shift < slots structs new → cond (is_collapsed new) 0 (shift + slot) < slots structs new
  inside Missing Missing flags edges shift slot kept less own = omega arith
  inside Missing (OfType t) flags edges shift slot kept less own = omega arith
  inside Missing Collapsed flags edges shift slot kept less own = omega arith
  inside (OfType t) Missing flags edges shift slot kept less own = absurd (false≢true kept)
  inside (OfType t) (OfType u) flags edges shift slot kept less own =
      let fits = within structs made u shift t (tested structs made u shift t kept) in
      omega (arith, fits, less)
  inside (OfType t) Collapsed flags edges shift slot kept less own = omega arith
  inside Collapsed Missing flags edges shift slot kept less own = absurd (false≢true kept)
  inside Collapsed (OfType t) flags edges shift slot kept less own = absurd (false≢true kept)
  inside Collapsed Collapsed flags edges shift slot kept less own = omega arith

  -- a slot of a node that is copied is a slot of its copy
  pub place_of : (graph callee : Graph) (copies : ℕ → Option ℕ) → IsSound structs graph → NodesCopied structs graph callee copies → (number copy slot : ℕ) (node : Node) → copies number ≡ Some copy
      → node_at callee number ≡ Some node → slot < slots structs node.element → LeadsToSlot structs graph (image graph copies (record { node = number; shift = slot }))
  place_of graph callee copies sound its number copy slot node of_node is less =
      let fits = its number copy node of_node is in
      let t = fits.target in
      let own = sound.names (OfCopy copy) t fits.is in
      let there = at_there graph t (element_kept structs node.element) fits.element in
      let same : there.node ≡ own.node = same_Some there.node own.node (sym there.is ∙ own.is) in
      let room : t.shift < slots structs there.node.element = subst (λ (n : Node). t.shift < slots structs n.element) (sym same) own.inside in
      record {
        place = record { node = t.node; shift = shift_in there.node (t.shift + slot) };
        is = ap (shifted graph slot) (ap (named_copy graph) of_node ∙ fits.is) ∙ shifted_there graph slot t there.node there.is;
        slot = record {
          node = there.node;
          is = there.is;
          inside = inside node.element there.node.element there.node.flags there.node.edges t.shift slot there.so less room;
        };
      }
