use Rattle.std.proofs.Common.{◌≡◌, true, None, sym, subst}
use Rattle.c_typed.specs.Types.{is_array}
use Rattle.c_typed.specs.Extents.{extent_layout}
use Rattle.c_typed.specs.Layouts.{layout_of}
use Rattle.c_typed.specs.Table.{Interned, structs_in, type_in, the_type, meaning_of}
use Rattle.c_typed.specs.Inside.{EntryIs, is_sized}
use Rattle.c_typed.proofs.Reading.{array_number, array_layout, array_sized, no_entry, nothing_stands}
use Rattle.c_typed.proofs.type_table.TypeTable.array_extent.Goals as goal

pub overflow_sub-t : goal.overflow_sub-t
overflow_sub-t c = array_number c.args.self.now c.args.t.0 c.requires.stands c.requires.array

pub returns-in-Some : goal.returns-in-Some
returns-in-Some c =
    let had = c.self.inside in
    let number = array_number c.args.self.now c.args.t.0 c.requires.stands c.requires.array in
    record {
      layout =
          subst (λ (t : Interned). is_array (the_type (meaning_of t c.args.t.0)) ≡ true → extent_layout c.in-Some.extent.now ≡ layout_of (structs_in t) (type_in t c.args.t)) c.self.view_is
          (λ array. array_layout had.entries.entries had.tags.entries had.structures.items c.self.invariant c.args.t.0 number array (c.in-Some.field-0-0.now, c.in-Some.extent.now) (sym c.in-Some.ensures.entry))
          c.requires.array;
      sized =
          subst (λ (t : Interned). is_array (the_type (meaning_of t c.args.t.0)) ≡ true → is_sized (structs_in t) (type_in t c.args.t) ≡ true) c.self.view_is
          (λ array. array_sized had.entries.entries had.tags.entries had.structures.items c.self.invariant c.args.t.0 number array (c.in-Some.field-0-0.now, c.in-Some.extent.now) (sym c.in-Some.ensures.entry))
          c.requires.array;
    }

pub returns-in-None : goal.returns-in-None
returns-in-None c =
    let had = c.self.inside in
    let number = array_number c.args.self.now c.args.t.0 c.requires.stands c.requires.array in
    absurd (nothing_stands (meaning_of c.args.self.now c.args.t.0) c.requires.stands
    (subst (λ (t : Interned). EntryIs t c.args.t.0 None) c.self.view_is
    (no_entry had.entries.entries had.tags.entries had.structures.items c.self.invariant c.args.t.0 number (sym c.in-None.ensures.entry))))
