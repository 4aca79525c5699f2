use Rattle.std.proofs.Common.{◌≡◌, ◌≤◌, ◌^◌, sym, ap, subst, ◌∙◌, arith}
use Rattle.c_typed.specs.Layouts.{layout_of}
use Rattle.c_typed.specs.Table.{type_in, structs_in, AreComplete, completed}
use Rattle.graph_tests.specs.Objects.{Adds}
use Rattle.graph_tests.proofs.Made.{two_members, entries_are, complete_two, adds_pair}
use Rattle.graph_tests.proofs.types.pair.Goals as goal

pub complete-requires-clause-members : goal.complete-requires-clause-members
complete-requires-clause-members c =
    let first = c.in_ok-first.first in
    let second = c.in_ok-second.second in
    subst (AreComplete c.struct_type.new.self) (sym (entries_are c.in_ok-members.members.items first second c.args.a c.args.b c.in_ok-members.ensures.items c.in_ok-first.ensures c.in_ok-second.ensures))
    (complete_two c.args.table.now c.struct_type.new.self c.in_ok-made.ensures.ok.grows c.args.a c.args.b first.name.items second.name.items c.requires.a c.requires.b)

pub returns : goal.returns
returns c =
    let first = c.in_ok-first.first in
    let second = c.in_ok-second.second in
    let middle = c.struct_type.new.self in
    let t = c.in_ok-made.made in
    let id = c.in_ok-id.id in
    let new = completed middle id.0 (two_members c.args.a c.args.b first.name.items second.name.items) in
    let e : c.complete.new.self ≡ new =
    c.in_ok-complete.ensures.ok ∙ ap (completed middle id.0) (entries_are c.in_ok-members.members.items first second c.args.a c.args.b c.in_ok-members.ensures.items c.in_ok-first.ensures c.in_ok-second.ensures) in
    let is = c.slots.ensures in
    let few = c.if-slots-gt-MOST_SLOTS.false in
    subst (λ table. Adds c.args.table.now table t) (sym e)
    (adds_pair c.args.table.now middle t c.args.a c.args.b id _ first.name.items second.name.items c.in_ok-made.ensures.ok c.in_ok-id.ensures.means (sym c.if-is_completed.ensures) c.requires.a c.requires.b
    (subst (λ table. (layout_of (structs_in table) (type_in table t)).slots ≤ 2 ^ 61) e (omega (arith, is, few))))
