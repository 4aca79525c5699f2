use Rattle.std.proofs.Common.{◌≡◌, ◌+◌, List, ◌++◌, ◌∷◌, [], length, take, get_or, Option, None, refl, sym, ap, subst, ◌∙◌, arith}
use Rattle.std.proofs.lemmas.List.{length-take-le}
use Rattle.c_typed.specs.declared.c_type.CType.{CType}
use Rattle.call_graph.proofs.RowLists.{read_take, take_all}
use Rattle.call_graph.specs.declared.class_table.Linked.{Linked}
use Rattle.call_graph.specs.ClassLists.{LinksKeys}
use Rattle.call_graph.proofs.LinkSteps.{no_links, link_none, link_next}
use Rattle.call_graph.proofs.class_table.Linked.of_keys.Goals.{in-Some+in_ok-add, in_default}
use Rattle.call_graph.proofs.class_table.Linked.of_keys.Goals as goal

pub loop-number-init : goal.loop-number-init
loop-number-init c = no_links c.new.result c.new-2.result.items c.new.ensures.empty c.new-2.ensures.items

pub loop-number-preserved : goal.loop-number-preserved
loop-number-preserved c =
    let keys = c.args.keys.now in
    let i = c.loop-number.number in
    let key = get_or keys i None in
    let old = c.loop-number.linked in
    let more = read_take keys i (i + 1) key None refl c.loop-number-test.true refl in
    let long : i ≡ length (take i keys) = sym (length-take-le i keys (omega arith)) in
    elim c.match-key.branch [
      | in-Some+in_ok-add w ↦
          subst (λ (linked : Linked). LinksKeys (take (i + 1) keys) linked.firsts linked.links.items) (sym w.linked-is)
          (link_next (take i keys) (take (i + 1) keys) i _ old _ long c.loop-number.invariant w.in_ok-add.ensures (more ∙ ap (λ (k : Option CType). take i keys ++ k ∷ []) w.in-Some.is))
      | in_default w ↦
          subst (λ (linked : Linked). LinksKeys (take (i + 1) keys) linked.firsts linked.links.items) (sym w.linked-is)
          (link_none (take i keys) (take (i + 1) keys) old.firsts old.links.items c.loop-number.invariant (more ∙ ap (λ (k : Option CType). take i keys ++ k ∷ []) w.in_default.is))
    ]

pub returns : goal.returns
returns c =
    subst (λ (l : List (Option CType)). LinksKeys l c.loop-number.linked.firsts c.loop-number.linked.links.items) (take_all c.loop-number.number c.args.keys.now c.loop-number-test.false) c.loop-number.invariant
