use Rattle.std.proofs.Common.{◌≡◌, ℕ, ◌+◌, ◌<◌, ◌==◌, ◌&&◌, ◌||◌, List, ◌++◌, ◌∷◌, nat_cmp, take, drop, get_or, length, refl, sym, ap, ◌∙◌, arith}
use Rattle.std.specs.BTreeSet.{contains}
use Rattle.std.proofs.lemmas.List.{take-append-drop}
use Rattle.call_graph.specs.RowLists.{is_among}
use Rattle.call_graph.proofs.RowLists.{take_all, read_take, read_drop}
use Rattle.call_graph.specs.Orders.{occurrences}
use Rattle.call_graph.proofs.CountingDown.{beyond, none_counted, one_counted, still_some}
use Rattle.call_graph.proofs.order.Ordering.place.Goals as goal

divided : (callers : List ℕ) (i : ℕ) → i < length callers → callers ≡ take i callers ++ get_or callers i 0 ∷ drop (i + 1) callers
divided callers i lt = sym (take-append-drop i callers) ∙ ap (λ l. take i callers ++ l) (read_drop callers i (i + 1) (get_or callers i 0) 0 refl lt refl)

pub loop-caller-init : goal.loop-caller-init
loop-caller-init c = record { counted = none_counted _; placed = refl }

pub loop-caller-preserved : goal.loop-caller-preserved
loop-caller-preserved c =
    let callers = c.args.callers.now in
    let i = c.loop-caller.caller-index in
    let caller = get_or callers i 0 in
    let lt : i < length callers = c.loop-caller-test.true in
    let some = still_some _ c.loop-caller.self callers (take i callers) (drop (i + 1) callers) caller c.requires c.loop-caller.invariant.counted (divided callers i lt) in
    record {
      counted = one_counted _ c.loop-caller.self c.count_down.new.self (take i callers) (take (i + 1) callers) caller c.loop-caller.invariant.counted c.in_ok-count_down.ensures some
          (read_take callers i (i + 1) caller 0 refl lt refl);
      placed = c.in_ok-count_down.ensures.placed ∙ c.loop-caller.invariant.placed;
    }

pub count_down-requires-clause-some : goal.count_down-requires-clause-some
count_down-requires-clause-some c =
    let callers = c.args.callers.now in
    let i = c.loop-caller.caller-index in
    still_some _ c.loop-caller.self callers (take i callers) (drop (i + 1) callers) (get_or callers i 0) c.requires c.loop-caller.invariant.counted (divided callers i c.loop-caller-test.true)

pub count_down-requires-clause-inside : goal.count_down-requires-clause-inside
count_down-requires-clause-inside c = beyond c.loop-caller.self.counts.items (get_or c.args.callers.now c.loop-caller.caller-index 0) (count_down-requires-clause-some c)

pub returns : goal.returns
returns c =
    let callers = c.args.callers.now in
    let known = c.loop-caller.invariant.counted in
    let counts = c.loop-caller.self.counts.items in
    let all = take_all c.loop-caller.caller-index callers (omega arith) in
    record {
      counted = record {
        each = known.each;
        counts = λ node. known.counts node ∙ ap (λ l. get_or counts node 0 + occurrences node l) all;
        ready = λ node. known.ready node ∙ ap (λ l. contains nat_cmp c.args.self.now.ready node || (is_among node l && (get_or counts node 0 == 0))) all;
      };
      placed = c.loop-caller.invariant.placed ∙ c.in_ok-push.ensures.items;
    }
