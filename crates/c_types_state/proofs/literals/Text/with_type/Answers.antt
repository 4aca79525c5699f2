use Rattle.std.proofs.Common.{ℕ, List, suc, ap, length, ◌+◌, add-one, refl, ◌∙◌}
use Rattle.c_num.specs.declared.IntType.TheVariants as I
use Rattle.c_typed.specs.Types.{CType, Array, Integer}
use Rattle.c_typed.specs.Layouts.{is_complete}
use Rattle.c_typed.specs.Table.{structs_in}
use Rattle.c_typed.proofs.Grown.{integer_stands}
use Rattle.c_types_state.proofs.literals.Text.with_type.Goals as goal

pub array_of-requires-clause-stands : goal.array_of-requires-clause-stands
array_of-requires-clause-stands c = (integer_stands c.args.types.now c.integer.result I.Char c.integer.ensures).0

pub array_of-requires-clause-complete : goal.array_of-requires-clause-complete
array_of-requires-clause-complete c =
    ap (is_complete (structs_in c.args.types.now)) (integer_stands c.args.types.now c.integer.result I.Char c.integer.ensures).1

pub returns : goal.returns
returns c =
    let made = c.in_ok-c_type.ensures.ok in
    record {
      is_text = refl;
      stands = (
        made.stands,
        made.means
            ∙ ap (λ (t : CType). Array t (length c.as_slice.result.now + 1)) (integer_stands c.args.types.now c.integer.result I.Char c.integer.ensures).1
            ∙ ap (λ (n : ℕ). Array (Integer I.Char) n) (add-one (length c.as_slice.result.now))
            ∙ ap (λ (bytes : List ℕ). Array (Integer I.Char) (suc (length bytes))) c.as_slice.ensures,
      );
      grows = made.grows;
    }
