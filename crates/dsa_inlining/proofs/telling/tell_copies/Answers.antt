use Rattle.std.proofs.Common.{ℕ, ◌<◌, List, length, get_or, subst, ◌∙◌, arith, below_more}
use Rattle.c_typed.specs.Table.{structs_in}
use Rattle.graph_unification.specs.Memory.{graph_in}
use Rattle.heap_graph.specs.Frozen.{bare}
use Rattle.dsa_inlining.specs.Copied.{numbers_in}
use Rattle.dsa_inlining.specs.CallCopies.Telling.{CopyTold, AsksCopy}
use Rattle.graph_unification.proofs.Goes.{goes_same, goes_then}
use Rattle.dsa_inlining.proofs.Carried.{copies_kept}
use Rattle.dsa_inlining.proofs.Seen.{each_key}
use Rattle.dsa_inlining.proofs.AskedCopies.{only_same, only_then, only_more, copy_asked}
use Rattle.dsa_inlining.proofs.Told.{nothing_told, arrays_then, copy_told}
use Rattle.dsa_inlining.proofs.telling.tell_copies.Goals as goal

pub loop-number-init : goal.loop-number-init
loop-number-init c =
    let table = c.args.types.now in
    record {
      graph = c.requires.graph;
      goes = goes_same (structs_in table) c.requires.made (graph_in table c.args.graph.now) c.requires.graph.sound;
      arrays = nothing_told (graph_in table c.args.graph.now);
      told = λ place less. absurd (omega (arith, less));
      only = only_same (AsksCopy (graph_in table c.args.graph.now) (bare table c.args.callee.now) (numbers_in c.args.copies.now)) (graph_in table c.args.graph.now);
    }

pub loop-number-preserved : goal.loop-number-preserved
loop-number-preserved c =
    let table = c.args.types.now in
    let callee = bare table c.args.callee.now in
    let copies = numbers_in c.args.copies.now in
    let old = graph_in table c.args.graph.now in
    let middle = graph_in table c.loop-number.graph in
    let new = graph_in table c.tell_copy.new.graph in
    let items = c.as_slice-number-items.result.now in
    record {
      graph = c.tell_copy.ensures.graph;
      goes = goes_then (structs_in table) c.requires.made old middle new c.requires.graph.sound c.loop-number.invariant.goes c.tell_copy.ensures.goes;
      arrays = arrays_then old middle new c.loop-number.invariant.arrays c.tell_copy.ensures.arrays;
      told =
          below_more (λ place. CopyTold new callee copies (get_or items place 0)) c.loop-number.number-index
          (λ place less. copy_told middle new callee copies (get_or items place 0) c.tell_copy.ensures.arrays (c.loop-number.invariant.told place less)) c.tell_copy.ensures.told;
      only = only_then (AsksCopy old callee copies) old middle new c.loop-number.invariant.arrays c.loop-number.invariant.only
          (only_more (AsksCopy middle callee copies) (AsksCopy old callee copies) middle new (copy_asked old middle callee copies c.loop-number.invariant.arrays.names) c.tell_copy.ensures.only);
    }

pub returns-clause-copied : goal.returns-clause-copied
returns-clause-copied c =
    let table = c.args.types.now in
    copies_kept (structs_in table) c.requires.made (graph_in table c.args.graph.now) (graph_in table c.loop-number.graph) (bare table c.args.callee.now) (numbers_in c.args.copies.now) c.requires.graph.sound
    c.loop-number.invariant.goes

pub returns-clause-told : goal.returns-clause-told
returns-clause-told c = λ number copy node of_node.
    let table = c.args.types.now in
    let told = CopyTold (graph_in table c.loop-number.graph) (bare table c.args.callee.now) (numbers_in c.args.copies.now) in
    each_key c.args.copies.now.names told
    (subst (λ (numbers : List ℕ). (place : ℕ) → place < length numbers → told (get_or numbers place 0)) (c.as_slice-number-items.ensures ∙ c.keys.ensures.rest)
    (λ place within. c.loop-number.invariant.told place (omega (arith, within, c.loop-number-test.false)))) number copy of_node copy node of_node
