use Rattle.std.proofs.Common.{rules, None, sym, subst, ◌∙◌, refl, length}
use Rattle.std.proofs.lemmas.Option.{slice_get_read}
use Rattle.c_typed.specs.Table.{Interned, TagStands}
use Rattle.c_typed.specs.Inside.{StructureIs, IsStructure}
use Rattle.c_typed.proofs.Reading.{structure_is, structure_within, no_structure}
use Rattle.c_typed.proofs.type_table.TypeTable.structure.Goals as goal

pub returns-in_err-index : goal.returns-in_err-index
returns-in_err-index c =
    let had = c.self.inside in
    let lt = subst (λ (t : Interned). TagStands t c.args.id) (sym c.self.view_is) c.requires in
    let kept = c.self.invariant.completed c.args.id.0 (c.in_ok-completed.field-0-0.now, c.in_ok-completed.completed.now) (sym c.in_ok-completed.ensures.entry) in
    let none = no_structure had.entries.entries had.tags.entries had.structures.items c.self.invariant c.args.id lt (sym kept ∙ c.in_err-index.was) in
    subst (StructureIs c.args.self.now c.args.id) (sym c.from_residual-in_err-index.ensures)
    (subst (λ (t : Interned). StructureIs t c.args.id None) c.self.view_is none)

pub index-requires : goal.index-requires
index-requires c =
    let had = c.self.inside in
    let lt = subst (λ (t : Interned). TagStands t c.args.id) (sym c.self.view_is) c.requires in
    let kept = c.self.invariant.completed c.args.id.0 (c.in_ok-completed.field-0-0.now, c.in_ok-completed.completed.now) (sym c.in_ok-completed.ensures.entry) in
    let within = structure_within had.entries.entries had.tags.entries had.structures.items c.self.invariant c.args.id lt c.in_ok-index.index (sym kept ∙ c.in_ok-index.was) in
    search rules

pub returns : goal.returns
returns c =
    let had = c.self.inside in
    let lt = subst (λ (t : Interned). TagStands t c.args.id) (sym c.self.view_is) c.requires in
    let kept = c.self.invariant.completed c.args.id.0 (c.in_ok-completed.field-0-0.now, c.in_ok-completed.completed.now) (sym c.in_ok-completed.ensures.entry) in
    let within = structure_within had.entries.entries had.tags.entries had.structures.items c.self.invariant c.args.id lt c.in_ok-index.index (sym kept ∙ c.in_ok-index.was) in
    subst (λ (t : Interned). IsStructure t c.args.id c.index.result.now) c.self.view_is
    (structure_is had.entries.entries had.tags.entries had.structures.items c.self.invariant c.args.id lt c.in_ok-index.index (sym kept ∙ c.in_ok-index.was)
    c.index.result.now (slice_get_read had.structures.items (length had.structures.items) c.in_ok-index.index c.index.result.now refl within c.index.ensures))
