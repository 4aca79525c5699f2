-- The targets that are told of copies in the end are where the copies are, which are certain.
use Rattle.std.proofs.Common.{◌≡◌, ℕ, true, Option, Some, None, refl, ap, subst, ◌∙◌}
use Rattle.std.proofs.lemmas.Bool.{and_parts}
use Rattle.indexmap.specs.IndexMap.{IndexMap, get_by}
use Rattle.heap_graph.specs.declared.graph.Target as memory_target
use Rattle.heap_graph.specs.Graphs.{OfCopy, Graph}
use Rattle.heap_graph.specs.Targets.{marks_kept}
use Rattle.heap_graph.proofs.MapsCompose.{at_there}
use Rattle.heap_graph.specs.Asks.{is_certain}
use Rattle.heap_graph.proofs.Certain.{certain_some, if_yes}
use Rattle.heap_graph.specs.Frozen.{static_in}
use Rattle.heap_graph.specs.declared.program.Crossing.{Crossing}
use Rattle.heap_graph.specs.Programs.{is_crossing, image_in}
use Rattle.dsa_inlining.specs.declared.copies.Copies.{Copies}
use Rattle.dsa_inlining.specs.Copied.{numbers_in, named_copy, copy_at, copied}
use Rattle.dsa_inlining.specs.Copies.{copy_target, TellsCopies}
use Rattle.dsa_inlining.specs.declared.before.Crossings.{Crossings}
use Rattle.dsa_inlining.specs.Before.{GraphsBefore}
use Rattle.dsa_inlining.specs.Crossings.{CopiesStand, copies_at, TellsEntry, TellsCrossings}

module _ (before : GraphsBefore) (called : ℕ) (copies : Copies) (made : Graph) (stand : CopiesStand before called copies made) where
  certain_copy : (node copy : ℕ) → numbers_in copies node ≡ Some copy → is_certain made (made.targets (OfCopy copy)) ≡ true
  certain_copy node copy is =
      let its = stand.numbered.only node copy is in
      let fits = stand.copied.nodes node copy its.1.0 is its.1.1 in
      let there = at_there made fits.target (λ image shift. marks_kept (copied its.1.0).flags image.flags) fits.flags in
      ap (is_certain made) fits.is ∙ certain_some made fits.target there.node there.is ∙ (and_parts _ _ there.so).0

  same_copy : (node : ℕ) (found : Option ℕ) → numbers_in copies node ≡ found → copy_target made found ≡ named_copy made found
  same_copy node None is = refl
  same_copy node (Some copy) is = if_yes made (made.targets (OfCopy copy)) (certain_copy node copy is)

  pub told_images : {S : Type 0} (targets : IndexMap ℕ memory_target.Target S) → TellsCopies made copies.names targets → (node : ℕ) → static_in targets node ≡ copy_at made (numbers_in copies) node
  told_images targets tells node = tells node ∙ same_copy node (numbers_in copies node) refl

-- ---- at each call

module _ {S T : Type 0} (graph : Graph) (own : Crossings) (embeddings : IndexMap Crossing (IndexMap ℕ memory_target.Target S) T) (tells : TellsCrossings graph own embeddings) (site called : ℕ) where
  -- a call that has copies has an embedding, of which their targets are told
  pub embedding_there : (copies : Copies) → copies_at own site called ≡ Some copies
      → (targets : IndexMap ℕ memory_target.Target S) × (get_by (is_crossing site called) embeddings ≡ Some targets) × TellsCopies graph copies.names targets
  embedding_there copies at = by (get_by (is_crossing site called) embeddings) refl (subst (λ o. TellsEntry graph o (get_by (is_crossing site called) embeddings)) at (tells site called))
    where
      by : (found : Option (IndexMap ℕ memory_target.Target S)) → get_by (is_crossing site called) embeddings ≡ found → TellsEntry graph (Some copies) found
          → (targets : IndexMap ℕ memory_target.Target S) × (get_by (is_crossing site called) embeddings ≡ Some targets) × TellsCopies graph copies.names targets
      by None e told = absurd told
      by (Some targets) e told = (targets, e, told)

  -- and no other call has one
  pub embedding_none : copies_at own site called ≡ None → get_by (is_crossing site called) embeddings ≡ None
  embedding_none at = by (get_by (is_crossing site called) embeddings) refl (subst (λ o. TellsEntry graph o (get_by (is_crossing site called) embeddings)) at (tells site called))
    where
      by : (found : Option (IndexMap ℕ memory_target.Target S)) → get_by (is_crossing site called) embeddings ≡ found → TellsEntry graph None found → get_by (is_crossing site called) embeddings ≡ None
      by None e told = e
      by (Some targets) e told = absurd told

  -- it tells where each copy is
  pub call_images : (before : GraphsBefore) (copies : Copies) → copies_at own site called ≡ Some copies → CopiesStand before called copies graph → (node : ℕ)
      → image_in (get_by (is_crossing site called) embeddings) node ≡ copy_at graph (numbers_in copies) node
  call_images before copies at stand node =
      let there = embedding_there copies at in
      ap (λ found. image_in found node) there.1 ∙ told_images before called copies graph stand there.0 there.2 node

  pub call_images_none : copies_at own site called ≡ None → (node : ℕ) → image_in (get_by (is_crossing site called) embeddings) node ≡ None
  call_images_none at node = ap (λ found. image_in found node) (embedding_none at)
