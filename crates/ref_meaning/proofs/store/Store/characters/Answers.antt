use Rattle.std.proofs.Common.{◌≡◌, ◌<◌, ◌≤◌, length, ◌+◌, ◌==◌, if◌then◌else◌, nat_eq, get_or, take, pos, sym, ap, subst, ◌∙◌, take_all, Some, to_z, of_z, FitsSigned, to_z-of_z, rules}
use Rattle.std.specs.Int.{w128}
use Rattle.c_num.specs.declared.IntType.TheVariants as I
use Rattle.c_num.specs.Conversion.{convert_to}
use Rattle.ref_semantics.specs.First.{characters}
use Rattle.ref_semantics.specs.Values as V
use Rattle.indexmap.specs.IndexMap.{get}
use Rattle.ref_meaning.specs.RefStore.Holding.{HeldIs}
use Rattle.ref_meaning.specs.declared.value.Scalar.TheVariants as M
use Rattle.ref_meaning.proofs.FirstValues.{held_put, characters_step}
use Rattle.ref_meaning.proofs.store.Store.characters.Goals as goal

pub loop-byte-preserved : goal.loop-byte-preserved
loop-byte-preserved c =
    let had = c.loop-byte.invariant in
    let n = c.loop-byte.byte-index in
    let bytes = c.args.literal.now.bytes in
    let items = c.as_slice-byte-items.ensures in
    let table = c.args.self.now.types.now in
    let within : n < length bytes = subst (λ l. n < length l) items c.loop-byte-test.true in
    record {
      offset = ap (λ k. k + 1) had.offset;
      is_static = c.in_ok-hold.ensures.same.is_static ∙ had.is_static;
      c_type = c.in_ok-hold.ensures.same.c_type ∙ had.c_type;
      count = c.in_ok-hold.ensures.same.count ∙ had.count;
      held = λ k.
          let byte = get_or bytes n 0 in
          let fits_from : FitsSigned w128 c.from.result = search rules in
          let fits_value : FitsSigned w128 c.convert-value.result = search rules in
          let there : V.IntegerValue (to_z w128 (of_z w128 c.convert-value.result)) ≡ V.IntegerValue (convert_to I.Char (pos byte)) =
          ap V.IntegerValue (to_z-of_z fits_value ∙ (c.convert-value.ensures.value ∙ ap (convert_to I.Char) (to_z-of_z fits_from ∙ (c.from.ensures ∙ ap (λ l. pos (get_or l n 0)) items)))) in
          let old = get nat_eq c.loop-byte.elements.held k in
          subst (HeldIs table (get nat_eq c.hold.new.self.held k))
          ((λ i. if had.offset i == k then Some (there i) else characters (take n bytes) k) ∙ sym (characters_step bytes n k within))
          (held_put table c.loop-byte.offset k (M.Integer (to_z w128 (of_z w128 c.convert-value.result))) old (get nat_eq c.hold.new.self.held k) (characters (take n bytes) k) (c.in_ok-hold.ensures.held k) tt (had.held k));
    }

pub returns : goal.returns
returns c =
    let had = c.loop-byte.invariant in
    let bytes = c.args.literal.now.bytes in
    let all : length bytes ≤ c.loop-byte.byte-index = subst (λ l. length l ≤ c.loop-byte.byte-index) c.as_slice-byte-items.ensures c.loop-byte-test.false in
    record {
      is_static = had.is_static;
      c_type = had.c_type;
      count = had.count;
      held = λ k. subst (λ l. HeldIs c.args.self.now.types.now (get nat_eq c.loop-byte.elements.held k) (characters l k)) (take_all c.loop-byte.byte-index bytes all) (had.held k);
    }
