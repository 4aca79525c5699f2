use Rattle.std.proofs.Common.{rules, refl, sym, ap, ◌∙◌, length}
use Rattle.std.specs.Prelude.{option_map}
use Rattle.std.proofs.lemmas.Option.{slice_get_read}
use Rattle.c_typed.specs.declared.structure.PlacedMember.{PlacedMember}
use Rattle.c_typed.proofs.Members.{placed_below}
use Rattle.c_typed.proofs.structure.Structure.member.Goals as goal

pub index-requires : goal.index-requires
index-requires c =
    let number = sym (c.requires c.args.name.now) ∙ sym c.in_ok-number.ensures.value in
    let within = placed_below c.args.self.now.members.items c.args.name.now c.in_ok-number.field-0.now number in
    search rules

pub returns : goal.returns
returns c =
    let members = c.args.self.now.members.items in
    let number = sym (c.requires c.args.name.now) ∙ sym c.in_ok-number.ensures.value in
    let within = placed_below members c.args.name.now c.in_ok-number.field-0.now number in (
      number,
      ap (option_map (λ (m : PlacedMember). m.c_type)) (slice_get_read members (length members) c.in_ok-number.field-0.now c.index.result.now refl within c.index.ensures),
    )
