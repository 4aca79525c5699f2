use Rattle.std.proofs.Common.{◌≡◌, length, sym, ◌∙◌, arith}
use Rattle.std.proofs.lemmas.List.{length-map}
use Rattle.c_typed.specs.DefinitionViews.{global_in, literal_of}
use Rattle.graph_checker.specs.Programs.{family_of}
use Rattle.graph_checker.proofs.TargetsAsked.{same_told, outer_fails, outer_judged, within, marks_tell}
use Rattle.graph_checker.proofs.program.Program.is_embedded.Goals as goal

pub returns-then-outer_call : goal.returns-then-outer_call
returns-then-outer_call c = λ owner called member also inside images escaping.
    let tac = c.args.self.tac.now in
    let table = tac.types in
    let family = family_of c.args.self in
    let site = c.args.site in
    let arguments = c.args.arguments.now in
    let own = c.args.own in
    let other = c.args.other in
    let apart = sym (same_told table family called site arguments own other also owner member) ∙ c.requires.apart in
    let globals : length family.tac.globals ≡ c.len-globals.result = let same = length-map tac.globals.items (global_in table) in omega (arith, same, c.len-globals.ensures, c.well_formed) in
    let literals : length family.tac.literals ≡ c.len-literals.result = let same = length-map tac.literals.items literal_of in omega (arith, same, c.len-literals.ensures, c.well_formed) in
    outer_judged table family called site arguments own other also owner apart c.outer_call.result
    (c.outer_call.ensures family owner called member.graph member.names also.graph also.names also.c_type globals literals images) c.if-outer_call.true c.embedding_closed.result
    (c.embedding_closed.ensures family owner site called member.graph also.graph images
    (marks_tell table family called site arguments own other also owner member inside c.args.escaping.now c.as_slice.result.now c.as_slice.ensures escaping)
    (within table family called site arguments own other also owner member inside))

pub returns-else-outer_call : goal.returns-else-outer_call
returns-else-outer_call c = λ owner called member also inside images escaping.
    let tac = c.args.self.tac.now in
    let table = tac.types in
    let family = family_of c.args.self in
    let site = c.args.site in
    let arguments = c.args.arguments.now in
    let own = c.args.own in
    let other = c.args.other in
    let apart = sym (same_told table family called site arguments own other also owner member) ∙ c.requires.apart in
    let globals : length family.tac.globals ≡ c.len-globals.result = let same = length-map tac.globals.items (global_in table) in omega (arith, same, c.len-globals.ensures, c.well_formed) in
    let literals : length family.tac.literals ≡ c.len-literals.result = let same = length-map tac.literals.items literal_of in omega (arith, same, c.len-literals.ensures, c.well_formed) in
    outer_fails table family called site arguments own other also owner apart c.outer_call.result
    (c.outer_call.ensures family owner called member.graph member.names also.graph also.names also.c_type globals literals images) c.if-outer_call.false
