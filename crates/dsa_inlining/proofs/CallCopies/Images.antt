-- A map to another graph, which has a target for each node that is copied, leads on where the nodes were copied.
use Rattle.std.proofs.Common.{◌≡◌, ℕ, ◌<◌, ◌≤◌, List, [], ◌∷◌, Bool, true, false, cond, Option, Some, None, refl, sym, ap, ◌∙◌, ◌⊎◌, inl, inr, arith}
use Rattle.std.specs.Prelude.{nat_lt}
use Rattle.std.proofs.lemmas.Bool.{cases_lt, le-ltb, ltb-false}
use Rattle.std.proofs.lemmas.Option.{none-some}
use Rattle.c_typed.specs.Layouts.{StructDef}
use Rattle.heap_graph.specs.Graphs.{Target, Edge, Name, OfRegister, OfResult, OfObject, OfGlobal, OfLiteral, OfCopy, Graph}
use Rattle.heap_graph.specs.Targets.{shifted, edge_at}
use Rattle.heap_graph.specs.Merging.{GraphMap, mapped, Maps}
use Rattle.dsa_inlining.specs.Copied.{named_copy, copy_at, EdgeCopied, EdgesCopied, AreCopied}
use Rattle.dsa_inlining.specs.Adding.{AreFree, AreNumbered, LeadsCopied}
use Rattle.dsa_inlining.specs.Images.{EdgeImage, EdgeImages, AreImages, with_copies}
use Rattle.dsa_inlining.proofs.Carried.{copy_found}

module _ (callee : Graph) (nodes : List ℕ) (copies : ℕ → Option ℕ) (first next : ℕ) (numbered : AreNumbered callee nodes copies first next) (images : ℕ → Target) where
  -- the target of the node of a copy
  abbrev of_copy : (copy : ℕ) → (copy < first) ⊎ (first ≤ copy) → (copy < next) ⊎ (next ≤ copy) → Option Target
  of_copy copy (inr from) (inl below) = Some (images (numbered.each copy from below).0)
  of_copy copy _ _ = None

  abbrev pub image_of_copy : ℕ → Option Target
  image_of_copy copy = of_copy copy (cases_lt copy first) (cases_lt copy next)

  copy_image : (number copy : ℕ) → copies number ≡ Some copy → image_of_copy copy ≡ Some (images number)
  copy_image number copy is = by (cases_lt copy first) (cases_lt copy next)
    where
      within : (first ≤ copy) × (copy < next)
      within = numbered.within number copy is

      by : (a : (copy < first) ⊎ (first ≤ copy)) (b : (copy < next) ⊎ (next ≤ copy)) → of_copy copy a b ≡ Some (images number)
      by (inl less) b = absurd (omega (arith, less, within.0))
      by (inr from) (inl below) = ap (λ n. Some (images n)) (numbered.apart (numbered.each copy from below).0 number copy (numbered.each copy from below).1 is)
      by (inr from) (inr past) = absurd (omega (arith, past, within.1))

  module _ (structs : List StructDef) (old new other : Graph) (into : GraphMap) (free : AreFree old first) (maps : Maps structs old other into) (there : AreCopied structs new callee copies)
      (keep : AreImages structs other callee copies images) where
    abbrev fuller : Graph
    fuller = with_copies other first image_of_copy

    named : (name : Name) (target : Target) → old.targets name ≡ Some target → fuller.targets name ≡ mapped other into target
    named (OfRegister owner register) target e = maps.names (OfRegister owner register) target e
    named (OfResult owner) target e = maps.names (OfResult owner) target e
    named (OfObject owner local) target e = maps.names (OfObject owner local) target e
    named (OfGlobal number) target e = maps.names (OfGlobal number) target e
    named (OfLiteral number) target e = maps.names (OfLiteral number) target e
    named (OfCopy copy) target e = by (nat_lt copy first) refl
      where
        by : (b : Bool) → nat_lt copy first ≡ b → cond b (other.targets (OfCopy copy)) (image_of_copy copy) ≡ mapped other into target
        by true t = maps.names (OfCopy copy) target e
        by false t = absurd (none-some target (sym (free copy (ltb-false copy first t)) ∙ e))

    fuller_maps : Maps structs old fuller into
    fuller_maps = record { names = named; elements = maps.elements; flags = maps.flags; edges = maps.edges }

    copy_there : (number copy : ℕ) → copies number ≡ Some copy → fuller.targets (OfCopy copy) ≡ Some (images number)
    copy_there number copy is = ap (λ b. cond b (other.targets (OfCopy copy)) (image_of_copy copy)) (le-ltb copy first (numbered.within number copy is).0) ∙ copy_image number copy is

    copy_is : (number copy : ℕ) → copies number ≡ Some copy → copy_at fuller copies number ≡ Some (images number)
    copy_is number copy is = ap (named_copy fuller) is ∙ copy_there number copy is

    edge_there : (number copy : ℕ) (edge : Edge) → copies number ≡ Some copy → EdgeCopied new copies number edge → EdgeImage other images number edge → EdgeCopied fuller copies number edge
    edge_there number copy edge of_node its led =
        let c = copy_found new copies edge.to.node edge.to.shift its.end its.is in
        record {
          end = led.end;
          is = ap (shifted other edge.to.shift) (copy_is edge.to.node c.copy c.of_node) ∙ led.is;
          leads = ap (λ t. edge_at other (shifted other edge.slot t)) (copy_is number copy of_node) ∙ led.leads;
        }

    edges_there : (number copy : ℕ) (edges : List Edge) → copies number ≡ Some copy → EdgesCopied new copies number edges → EdgeImages other images number edges → EdgesCopied fuller copies number edges
    edges_there number copy [] of_node its led = tt
    edges_there number copy (edge ∷ edges) of_node its led = (edge_there number copy edge of_node its.0 led.0, edges_there number copy edges of_node its.1 led.1)

    copied_there : AreCopied structs fuller callee copies
    copied_there = record {
      nodes = λ number copy node of_node is.
          let image = keep.nodes number copy node of_node is in
          record { target = images number; is = copy_there number copy of_node; slot = image.slot; element = image.element; flags = image.flags };
      edges = λ number copy node of_node is. edges_there number copy node.edges of_node (there.edges number copy node of_node is) (keep.edges number copy node of_node is);
    }

    -- the map leads on to the other graph with those targets of copies
    pub images_lead : LeadsCopied structs old new callee copies → (rest : GraphMap) × Maps structs new fuller rest
    images_lead leads = leads fuller into fuller_maps copied_there
