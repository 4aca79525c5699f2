use Rattle.std.proofs.Common.{List, map, sym, ap, subst, ◌∙◌}
use Rattle.c_typed.specs.declared.definition.GlobalDef.{GlobalDef}
use Rattle.c_typed.specs.declared.definition.LiteralDef.{LiteralDef}
use Rattle.c_typed.specs.DefinitionViews.{global_in, literal_of}
use Rattle.c_typed.specs.Table.{structs_in, type_in}
use Rattle.heap_graph.specs.Closed.{globals_closed, literals_closed}
use Rattle.graph_checker.specs.Objects.{ObjectsHaveSlots}
use Rattle.graph_checker.specs.Programs.{family_of}
use Rattle.graph_checker.proofs.Decided.{fails_by, holds_or}
use Rattle.graph_checker.proofs.sound.is_sound.Goals as goal

pub returns-then-not-statics_are_slots : goal.returns-then-not-statics_are_slots
returns-then-not-statics_are_slots c = λ owner shows. fails_by c.statics_are_slots.result (c.statics_are_slots.ensures c.args.program.tac.now.types) (λ sound. sound.slots) c.if-not-statics_are_slots.true

pub returns-then-not-statics_are_own : goal.returns-then-not-statics_are_own
returns-then-not-statics_are_own c = λ owner shows. fails_by c.statics_are_own.result c.statics_are_own.ensures (λ sound. sound.own) c.if-not-statics_are_own.true

pub returns-then-not-edges_are_sound : goal.returns-then-not-edges_are_sound
returns-then-not-edges_are_sound c = λ owner shows. fails_by c.edges_are_sound.result (c.edges_are_sound.ensures c.args.program.tac.now.types) (λ sound. sound.edges) c.if-not-edges_are_sound.true

pub globals_closed-requires-clause-some : goal.globals_closed-requires-clause-some
globals_closed-requires-clause-some c =
    let table = c.args.program.tac.now.types in
    subst (λ (l : List GlobalDef). ObjectsHaveSlots (structs_in table) (map (λ (global : GlobalDef). type_in table global.c_type) l)) (sym c.as_slice.ensures.value) c.requires.program.variables

pub returns-then-not-globals_closed : goal.returns-then-not-globals_closed
returns-then-not-globals_closed c = λ owner shows.
    let table = c.args.program.tac.now.types in
    let family = family_of c.args.program in
    let told = c.globals_closed.ensures family owner shows ∙ ap (λ l. globals_closed family owner 0 (map (global_in table) l)) c.as_slice.ensures.value in
    fails_by c.globals_closed.result (holds_or c.globals_closed.result _ told) (λ sound. sound.globals) c.if-not-globals_closed.true

pub literals_closed-requires-clause-some : goal.literals_closed-requires-clause-some
literals_closed-requires-clause-some c =
    let table = c.args.program.tac.now.types in
    subst (λ (l : List LiteralDef). ObjectsHaveSlots (structs_in table) (map (λ (literal : LiteralDef). type_in table literal.c_type) l)) (sym c.as_slice-2.ensures.value) c.requires.program.literal_types

pub returns : goal.returns
returns c = λ owner shows.
    let table = c.args.program.tac.now.types in
    let family = family_of c.args.program in
    let globals = c.globals_closed.ensures family owner shows ∙ ap (λ l. globals_closed family owner 0 (map (global_in table) l)) c.as_slice.ensures.value in
    let literals = c.literals_closed.ensures family owner shows ∙ ap (λ l. literals_closed family owner 0 (map literal_of l)) c.as_slice-2.ensures.value in (
      (λ t.
          record {
            slots = (c.statics_are_slots.ensures table).0 c.if-not-statics_are_slots.false;
            own = c.statics_are_own.ensures.0 c.if-not-statics_are_own.false;
            edges = (c.edges_are_sound.ensures table).0 c.if-not-edges_are_sound.false;
            globals = sym globals ∙ c.if-not-globals_closed.false;
            literals = sym literals ∙ t;
          }),
      (λ sound. literals ∙ sound.literals),
    )
