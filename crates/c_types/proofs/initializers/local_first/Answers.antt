use Rattle.std.proofs.Common.{refl}
use Rattle.c_types_expressions.proofs.Passing.{with_checker}
use Rattle.c_types.proofs.LocalFirsts.{first-list, first-list-refused}
use Rattle.c_types.proofs.initializers.local_first.Goals as goal

pub returns-in_ok-found_within_all-in-None-List : goal.returns-in_ok-found_within_all-in-None-List
returns-in_ok-found_within_all-in-None-List c =
    first-list c.args.c_type c.args.init.now c.in-None-List.inits c.deref.result.now c.in-None-List.is-1 c.deref.ensures.value c.args.pass.now c.found_within_all.new.pass
    c.in-None-List.is-0 (c.in_ok-found_within_all-in-None-List.ensures {u = tt}).found

pub returns-in_ok-found_within_all-in-Some-List : goal.returns-in_ok-found_within_all-in-Some-List
returns-in_ok-found_within_all-in-Some-List c =
    first-list-refused c.args.c_type c.args.init.now c.in-Some-List.inits c.deref-in-Some-List.result.now c.in-Some-List.is-1 c.deref-in-Some-List.ensures.value c.args.pass.now c.found_within_all-in-Some-List.new.pass
    c.in-Some-List.field-0-0 (with_checker c.args.pass.now c.note.new.self) c.in-Some-List.is-0 c.note.ensures refl (c.in_ok-found_within_all-in-Some-List.ensures {u = tt}).found
