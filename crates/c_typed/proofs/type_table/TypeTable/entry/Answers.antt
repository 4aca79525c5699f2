use Rattle.std.proofs.Common.{None, Some, sym, subst}
use Rattle.c_typed.specs.Table.{Interned}
use Rattle.c_typed.specs.Inside.{EntryIs}
use Rattle.c_typed.proofs.Reading.{entry_is, no_entry}
use Rattle.c_typed.proofs.type_table.TypeTable.entry.Goals as goal

pub returns-in-Some : goal.returns-in-Some
returns-in-Some c =
    let had = c.self.inside in
    subst (λ (t : Interned). EntryIs t c.args.number (Some c.in-Some.entry.now)) c.self.view_is
    (entry_is had.entries.entries had.tags.entries had.structures.items c.self.invariant c.args.number c.requires (c.in-Some.entry.now, c.in-Some.field-0-1.now) (sym c.in-Some.ensures.entry))

pub returns-in-None : goal.returns-in-None
returns-in-None c =
    let had = c.self.inside in
    subst (λ (t : Interned). EntryIs t c.args.number None) c.self.view_is
    (no_entry had.entries.entries had.tags.entries had.structures.items c.self.invariant c.args.number c.requires (sym c.in-None.ensures.entry))
