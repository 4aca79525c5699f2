use Rattle.std.proofs.Common.{◌≡◌, ◌+◌, get_or, take, nat_eq, pos, to_z, of_z, FitsSigned, to_z-of_z, rules, sym, ap, subst, ◌∙◌}
use Rattle.std.specs.Int.{w128}
use Rattle.indexmap.specs.IndexMap.{get}
use Rattle.c_num.specs.Conversion.{convert_to}
use Rattle.ref_semantics.specs.Values.{IntegerValue, at_index}
use Rattle.ref_meaning.specs.RefStore.Views.{place_in}
use Rattle.ref_meaning.specs.RefStore.Holding.{HeldIs}
use Rattle.ref_meaning.specs.Firsts.{with_first, with_text}
use Rattle.ref_meaning.proofs.FirstValues.{text_step}
use Rattle.ref_meaning.proofs.store.Store.hold_text.Goals as goal

pub loop-byte-preserved : goal.loop-byte-preserved
loop-byte-preserved c =
    let table = c.args.self.now.types.now in
    let had = c.loop-byte.invariant in
    let n = c.loop-byte.byte-index in
    let bytes = c.args.bytes.now in
    let place = place_in table c.args.place in
    let int_type = c.args.int_type in
    let more = c.in_ok-hold_first.ensures in
    record {
      index = ap (λ k. k + 1) had.index;
      same = record { is_static = more.same.is_static ∙ had.same.is_static; c_type = more.same.c_type ∙ had.same.c_type; count = more.same.count ∙ had.same.count };
      held = λ around held structs all. λ offset.
          let before = with_text around place int_type 0 (take n bytes) held in
          let fits_from : FitsSigned w128 c.from.result = search rules in
          let fits_value : FitsSigned w128 c.convert-value.result = search rules in
          let value : to_z w128 (of_z w128 c.convert-value.result) ≡ convert_to int_type (pos (get_or bytes n 0)) =
          to_z-of_z fits_value ∙ (c.convert-value.ensures.value ∙ ap (convert_to int_type) (to_z-of_z fits_from ∙ c.from.ensures)) in
          subst (HeldIs table (get nat_eq c.hold_first.new.elements.held offset))
          ((λ i. with_first around (at_index place (had.index i)) (IntegerValue (value i)) before offset) ∙ sym (text_step around place int_type bytes n held offset c.loop-byte-test.true))
          (more.held around before structs (had.held around held structs all) offset);
    }
