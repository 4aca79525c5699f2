use Rattle.std.proofs.Common.{rules, ◌≡◌, ◌++◌, ◌∷◌, [], Some, None, cond, refl, sym, ap, ◌∙◌, length}
use Rattle.std.specs.Prelude.{bytes_eq}
use Rattle.c_typed.specs.declared.structure.PlacedMember.{PlacedMember}
use Rattle.c_typed.specs.Layouts.{saturated, aligned}
use Rattle.c_typed.specs.Table.{member_number}
use Rattle.c_typed.specs.Inside.{first_of, placed_names}
use Rattle.c_typed.proofs.Members.{placed_number}
use Rattle.c_typed.proofs.structure.Structure.push.Goals as goal

pub returns : goal.returns
returns c =
    let members = c.args.self.now.members.items in
    let placed : PlacedMember = record { name = c.args.member.name; c_type = c.args.member.c_type; slots_before = c.args.self.now.extent.slots; offset = saturated (aligned c.args.extent.alignment c.args.self.now.extent.size) } in
    let items = c.in_ok-push.ensures.items ∙ (λ i. members ++ record placed { offset = c.rounded_up.ensures i } ∷ []) in
    let long : length members ≡ c.len.result = search rules in
    let name : c.deref.result.now ≡ c.args.member.name.items = c.deref.ensures.value in
    record {
      id = refl;
      members = items;
      extent = c.followed_by-self.ensures;
      numbers = λ had other.
          c.in_ok-number_name.ensures other
          ∙ (λ i. first_of (had other i) (cond (bytes_eq other (name i)) (Some ((c.in-Ok.ensures.1 ∙ sym long) i)) None))
          ∙ sym (placed_number members placed other)
          ∙ ap (λ ms. member_number (placed_names ms) other) (sym items);
    }
