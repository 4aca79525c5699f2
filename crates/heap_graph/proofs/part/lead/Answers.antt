use Rattle.c_typed.specs.Table.{type_in, tag_in}
use Rattle.heap_graph.proofs.PartLeads.{lead_member, lead_no_member, lead_element}
use Rattle.heap_graph.proofs.part.lead.Goals as goal

pub returns-in-Array : goal.returns-in-Array
returns-in-Array c = lead_element c.args.types.now c.requires.made (type_in c.args.types.now c.args.own) c.args.slot c.in-Array.element c.in-Array.length c.in-Array.ensures.means c.in-Array.ensures.parts

pub returns-in-Some : goal.returns-in-Some
returns-in-Some c = lead_member c.args.types.now c.requires.made (type_in c.args.types.now c.args.own) c.args.slot (tag_in c.args.types.now c.in-Struct.id) c.in-Struct.ensures.means c.in-Some.member c.in-Some.front c.in-Some.ensures

pub returns-in-None : goal.returns-in-None
returns-in-None c = lead_no_member c.args.types.now c.requires.made (type_in c.args.types.now c.args.own) c.args.slot (tag_in c.args.types.now c.in-Struct.id) c.in-Struct.ensures.means c.in-None.ensures
