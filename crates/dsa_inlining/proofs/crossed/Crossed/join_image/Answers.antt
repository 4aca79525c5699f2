use Rattle.std.proofs.Common.{sym, subst, ◌∙◌}
use Rattle.std.proofs.lemmas.Option.{none-some, same_Some}
use Rattle.heap_graph.specs.Memory.{target_of}
use Rattle.heap_graph.specs.Merging.{IsSlot}
use Rattle.graph_unification.specs.Memory.{name_of}
use Rattle.dsa_inlining.specs.Shown.{code_of, shown, callee_of, copies_of}
use Rattle.dsa_inlining.proofs.Joining.{copied_place, joins_image}
use Rattle.dsa_inlining.proofs.crossed.Crossed.join_image.Goals as goal

pub place-requires-clause-slot : goal.place-requires-clause-slot
place-requires-clause-slot c =
    let own = c.args.self in
    copied_place (code_of own).structs c.requires.known.code.made (shown own c.args.graph.now) (callee_of own) (copies_of own) c.requires.graph.sound c.requires.copied.nodes (target_of c.args.target) c.requires.target

pub returns-in_default-clause-joins : goal.returns-in_default-clause-joins
returns-in_default-clause-joins c =
    let own = c.args.self in
    let there =
    copied_place (code_of own).structs c.requires.known.code.made (shown own c.args.graph.now) (callee_of own) (copies_of own) c.requires.graph.sound c.requires.copied.nodes (target_of c.args.target) c.requires.target in
    absurd (none-some there.place (c.in_default.ensures ∙ there.is))

pub make_one-requires-clause-first : goal.make_one-requires-clause-first
make_one-requires-clause-first c = c.requires.graph.sound.names (name_of c.args.name) (target_of c.in-Some-target.own) (sym (c.in-Some-target.ensures c.args.self.tac.now.types c.requires.graph))

pub make_one-requires-clause-second : goal.make_one-requires-clause-second
make_one-requires-clause-second c =
    let own = c.args.self in
    let there =
    copied_place (code_of own).structs c.requires.known.code.made (shown own c.args.graph.now) (callee_of own) (copies_of own) c.requires.graph.sound c.requires.copied.nodes (target_of c.args.target) c.requires.target in
    subst (IsSlot (code_of own).structs (shown own c.args.graph.now)) (same_Some there.place (target_of c.in-Some.place) (sym there.is ∙ sym c.in-Some.ensures)) there.slot

pub returns-clause-joins : goal.returns-clause-joins
returns-clause-joins c =
    let own = c.args.self in
    let its = c.in_ok-make_one.ensures in
    joins_image (code_of own) c.requires.known.code.made (callee_of own) (copies_of own) (shown own c.args.graph.now) (shown own c.make_one.new.graph) c.requires.graph.sound its.names (callee_of own)
    (record { nodes = c.requires.copied.nodes; edges = c.requires.copied.edges }) (name_of c.args.name) (target_of c.args.target) c.requires.target (target_of c.in-Some-target.own) (target_of c.in-Some.place)
    (sym (c.in-Some-target.ensures own.tac.now.types c.requires.graph)) (sym c.in-Some.ensures) its.least
