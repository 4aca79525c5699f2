use Rattle.std.proofs.Common.{◌++◌, length, map, ap, arith}
use Rattle.c_typed.specs.Types.{is_pointer}
use Rattle.c_typed.specs.Table.{types_in}
use Rattle.c_rules.specs.Elaborated.{types_in as listed}
use Rattle.graph_text.proofs.CalledKnown.{pointers-more, pointers-all}
use Rattle.graph_text.proofs.marks.Marker.pointers.Goals as goal

pub loop-first-init : goal.loop-first-init
loop-first-init c =
    let table = c.args.self.now.pass.checker.table in
    record { stand = c.requires; all = ap (λ items. items ++ map is_pointer (listed (types_in table c.args.parameters))) c.new-pointers.ensures.items }

pub first_parameter-requires : goal.first_parameter-requires
first_parameter-requires c = c.loop-first.invariant.stand

pub is_pointer-requires : goal.is_pointer-requires
is_pointer-requires c = c.in-Some.ensures.1

pub loop-first-smaller : goal.loop-first-smaller
loop-first-smaller c =
    let e = ap (λ types. length (listed types)) c.in-Some.ensures.0 in
    omega arith

pub loop-first-preserved : goal.loop-first-preserved
loop-first-preserved c =
    let table = c.args.self.now.pass.checker.table in
    let split = c.in-Some.ensures in
    record {
      stand = split.2;
      all = pointers-more table c.loop-first.pointers.items c.push.new.self.items _ c.in-Some.first c.is_pointer.result (types_in table c.loop-first.rest) (types_in table c.in-Some.others) c.in_ok-push.ensures.items c.is_pointer.ensures split.0 c.loop-first.invariant.all;
    }

pub returns : goal.returns
returns c =
    let table = c.args.self.now.pass.checker.table in
    pointers-all c.loop-first.pointers.items _ (types_in table c.loop-first.rest) c.in_default.ensures c.loop-first.invariant.all
