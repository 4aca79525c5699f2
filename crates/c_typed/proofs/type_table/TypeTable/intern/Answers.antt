use Rattle.std.proofs.Common.{◌+◌, ◌<◌, sym, ap, subst, ◌∙◌, arith, length, map, List, is_some}
use Rattle.indexmap.proofs.CallerLemmas.{insert_entry-new}
use Rattle.c_typed.specs.declared.c_type.Derived.{Derived}
use Rattle.c_typed.specs.declared.extent.Extent.{Extent}
use Rattle.c_typed.specs.Table.{Interned, derived_meaning, meaning_of}
use Rattle.c_typed.specs.Inside.{IsSomething, HasExtent, IsTable, MakesEntry, interned, greatest_count}
use Rattle.c_typed.proofs.Keys.{same_entry, absent_everywhere, found_there}
use Rattle.c_typed.proofs.Lists.{none_from}
use Rattle.c_typed.proofs.Growth.{IsTable-entry, MakesEntry-new, MakesEntry-found}
use Rattle.c_typed.proofs.type_table.TypeTable.intern.Goals as goal

pub returns-in-Some-clause-ok : goal.returns-in-Some-clause-ok
returns-in-Some-clause-ok c =
    let had = c.self.inside in
    subst (λ (t : Interned). MakesEntry t t (c.in-Some.index + 9) c.args.entry) c.self.view_is
    (MakesEntry-found had.entries.entries had.tags.entries had.structures.items c.self.invariant c.args.entry c.args.extent c.in-Some.index
    (found_there (map (λ e. e.0) had.entries.entries) c.args.entry c.in-Some.index (sym c.get_index_of.ensures.index ∙ c.in-Some.is)))

pub invariant_of-self-2 : goal.invariant_of-self-2
invariant_of-self-2 c =
    let had = c.self.inside in
    let entries = had.entries.entries in
    let none = none_from _ (sym c.get_index_of.ensures.found ∙ ap is_some c.in_default.is) in
    let pushed = c.in_ok-insert.ensures.entries ∙ insert_entry-new same_entry had.entries c.args.entry c.args.extent none in
    let few : length entries < greatest_count = omega (arith, c.len-index.ensures.len) in
    subst (λ (es : List (Derived × Extent)). IsTable es had.tags.entries had.structures.items) (sym pushed)
    (IsTable-entry entries had.tags.entries had.structures.items c.self.invariant c.args.entry c.args.extent
    (subst (λ (t : Interned). IsSomething (derived_meaning t.tags (meaning_of t) c.args.entry)) (sym c.self.view_is) c.requires.means)
    (absent_everywhere (map (λ e. e.0) entries) c.args.entry (sym c.get_index_of.ensures.index ∙ c.in_default.is))
    few
    (subst (λ (t : Interned). HasExtent t c.args.entry c.args.extent) (sym c.self.view_is) c.requires.extent))

pub returns-clause-ok : goal.returns-clause-ok
returns-clause-ok c =
    let had = c.self.inside in
    let entries = had.entries.entries in
    let none = none_from _ (sym c.get_index_of.ensures.found ∙ ap is_some c.in_default.is) in
    let pushed = c.in_ok-insert.ensures.entries ∙ insert_entry-new same_entry had.entries c.args.entry c.args.extent none in
    let few : length entries < greatest_count = omega (arith, c.len-index.ensures.len) in
    let made = MakesEntry-new entries had.tags.entries had.structures.items c.self.invariant c.args.entry c.args.extent
    (subst (λ (t : Interned). IsSomething (derived_meaning t.tags (meaning_of t) c.args.entry)) (sym c.self.view_is) c.requires.means)
    (absent_everywhere (map (λ e. e.0) entries) c.args.entry (sym c.get_index_of.ensures.index ∙ c.in_default.is))
    few
    (subst (λ (t : Interned). HasExtent t c.args.entry c.args.extent) (sym c.self.view_is) c.requires.extent) in
    let at_new = subst (λ (es : List (Derived × Extent)). MakesEntry (interned entries had.tags.entries had.structures.items) (interned es had.tags.entries had.structures.items) (length entries + 9) c.args.entry) (sym pushed) made in
    let at_old = subst (λ (t : Interned). MakesEntry t (interned c.insert.new.self.entries had.tags.entries had.structures.items) (length entries + 9) c.args.entry) c.self.view_is at_new in
    subst (λ n. MakesEntry c.args.self.now (interned c.insert.new.self.entries had.tags.entries had.structures.items) (n + 9) c.args.entry) (sym c.len-index.ensures.len) at_old
