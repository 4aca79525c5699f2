use Rattle.std.proofs.Common.{◌≡◌, ◌<◌, length, get_or, take, nat_eq, ap, sym, subst, ◌∙◌}
use Rattle.indexmap.specs.IndexMap.{get}
use Rattle.c_typed.specs.Table.{Interned, type_in}
use Rattle.ref_meaning.specs.declared.value.Name.TheVariants as N
use Rattle.ref_meaning.specs.Fitting.{IsObjectType, ElementsStand}
use Rattle.ref_meaning.specs.Firsts.{AllLead}
use Rattle.ref_meaning.proofs.Fitting.{object_alone, first_stands, whole_fits}
use Rattle.ref_meaning.proofs.Ways.{lead_at}
use Rattle.c_typed.specs.DefinitionViews.{program_of, all_first}
use Rattle.ref_semantics.specs.Values.{Heap, object_place, first_of_row}
use Rattle.ref_semantics.specs.First.{first_held}
use Rattle.ref_meaning.specs.RefStore.Views.{place_in, row_in}
use Rattle.ref_meaning.specs.RefStore.Holding.{HeldIs}
use Rattle.ref_meaning.proofs.FirstValues.{given_step}
use Rattle.ref_meaning.proofs.store.Store.first_elements.Goals as goal

pub loop-first-preserved : goal.loop-first-preserved
loop-first-preserved c =
    let table = c.args.self.now.types.now in
    let program = program_of c.args.program.now in
    let had = c.loop-first.invariant in
    let n = c.loop-first.first-index in
    let first = c.first-item.result in
    let all = c.args.global.now.first.items in
    let items = c.deref-first-items.ensures.value in
    let c_type = type_in table c.args.global.now.c_type in
    let more = c.in_ok-hold_given.ensures in
    let made = c.new-elements.ensures in
    let root : place_in table c.first-root.result ≡ object_place (Heap 0) c_type =
    ap (place_in table) c.first-root.ensures
    ∙ ap (first_of_row (Heap 0)) (ap (row_in table) c.row.ensures ∙ λ i. record { start = 0; c_type = type_in table (made.c_type i); count = made.count i }) in
    let within : n < length all = subst (λ l. n < length l) items c.loop-first-test.true in
    let at : first ≡ get_or all n first = c.first-item.is ∙ ap (λ l. get_or l n first) items in
    record {
      is_static = more.same.is_static ∙ had.is_static;
      c_type = more.same.c_type ∙ had.c_type;
      count = more.same.count ∙ had.count;
      held = λ offset.
          subst (HeldIs table (get nat_eq c.hold_given.new.elements.held offset)) (given_step program c_type all n first offset within at)
          (more.held c_type (first_held program c_type (all_first (take n all))) root had.held offset);
    }

pub hold_given-requires-clause-root : goal.hold_given-requires-clause-root
hold_given-requires-clause-root c =
    let table = c.args.self.now.types.now in
    let made = c.new-elements in
    let is = subst (λ (t : Interned). IsObjectType t c.args.global.now.c_type) (sym c.requires.types) c.requires.fits.0 in
    let stand = subst (ElementsStand table made.result.c_type) (sym made.ensures.count) (subst (λ t. ElementsStand table t 1) (sym made.ensures.c_type) (object_alone table c.args.global.now.c_type is)) in
    first_stands table c.first-root.result (N.Heap 0) (record { start = 0; c_type = made.result.c_type; count = made.result.count })
    (c.first-root.ensures ∙ ap (λ r. record { name = N.Heap 0; row = r; index = 0 }) c.row.ensures) stand.0 (whole_fits table made.result.c_type made.result.count stand)

pub hold_given-requires-clause-leads : goal.hold_given-requires-clause-leads
hold_given-requires-clause-leads c =
    let table = c.args.self.now.types.now in
    let program = program_of c.args.program.now in
    let n = c.loop-first.first-index in
    let first = c.first-item.result in
    let all = c.args.global.now.first.items in
    let items = c.deref-first-items.ensures.value in
    let c_type = type_in table c.args.global.now.c_type in
    let made = c.new-elements.ensures in
    let root : place_in table c.first-root.result ≡ object_place (Heap 0) c_type =
    ap (place_in table) c.first-root.ensures
    ∙ ap (first_of_row (Heap 0)) (ap (row_in table) c.row.ensures ∙ λ i. record { start = 0; c_type = type_in table (made.c_type i); count = made.count i }) in
    let within : n < length all = subst (λ l. n < length l) items c.loop-first-test.true in
    let at : first ≡ get_or all n first = c.first-item.is ∙ ap (λ l. get_or l n first) items in
    (c_type, root, lead_at program c_type all n first within at (subst (λ (t : Interned). AllLead program (type_in t c.args.global.now.c_type) (all_first all)) (sym c.requires.types) c.requires.fits.1))
