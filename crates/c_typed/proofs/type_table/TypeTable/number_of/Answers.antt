use Rattle.std.proofs.Common.{sym, subst, ◌∙◌, arith}
use Rattle.c_typed.specs.Table.{Interned, IsNumberOf, type_in}
use Rattle.c_typed.proofs.Numbered.{base_number_of, entry_number_of, list_number_of, no_number_of, void}
use Rattle.c_typed.proofs.type_table.TypeTable.number_of.Goals as goal

pub returns-then-t-lt-FIRST_ENTRY : goal.returns-then-t-lt-FIRST_ENTRY
returns-then-t-lt-FIRST_ENTRY c =
    let had = c.self.inside in
    subst (λ (t : Interned). IsNumberOf t (type_in t c.args.t) c.args.t) c.self.view_is
    (base_number_of had.entries.entries had.tags.entries had.structures.items c.self.invariant c.args.t c.if-t-lt-FIRST_ENTRY.true)

pub returns-then-is_type : goal.returns-then-is_type
returns-then-is_type c =
    let had = c.self.inside in
    subst (λ (t : Interned). IsNumberOf t (type_in t c.args.t) c.args.t) c.self.view_is
    (entry_number_of had.entries.entries had.tags.entries had.structures.items c.self.invariant c.args.t (omega (arith, c.if-t-lt-FIRST_ENTRY.false))
    (c.in-Some.entry.now, c.in-Some.field-0-1.now) (sym c.in-Some.ensures.entry) (sym c.is_type.ensures ∙ c.if-is_type.true))

pub returns-else-is_type : goal.returns-else-is_type
returns-else-is_type c =
    let had = c.self.inside in
    subst (λ (t : Interned). IsNumberOf t (type_in t c.args.t) void) c.self.view_is
    (list_number_of had.entries.entries had.tags.entries had.structures.items c.self.invariant c.args.t (omega (arith, c.if-t-lt-FIRST_ENTRY.false))
    (c.in-Some.entry.now, c.in-Some.field-0-1.now) (sym c.in-Some.ensures.entry) (sym c.is_type.ensures ∙ c.if-is_type.false))

pub returns-in-None : goal.returns-in-None
returns-in-None c =
    let had = c.self.inside in
    subst (λ (t : Interned). IsNumberOf t (type_in t c.args.t) void) c.self.view_is
    (no_number_of had.entries.entries had.tags.entries had.structures.items c.self.invariant c.args.t (omega (arith, c.if-t-lt-FIRST_ENTRY.false)) (sym c.in-None.ensures.entry))
