use Rattle.std.proofs.Common.{rules, ◌≡◌, [], ◌∷◌, ◌++◌, cond, ◌∙◌, ap, sym, subst, length, Some}
use Rattle.std.specs.Prelude.{bytes_eq}
use Rattle.c_types_state.specs.declared.locals.Local.{Local}
use Rattle.c_types_state.specs.LocalTables.{number_in, IsTable}
use Rattle.c_types_state.proofs.LocalTables.{number_updated, IsTable-declared}
use Rattle.c_types_state.proofs.locals.Locals.declare.Goals as goal

pub invariant_of-self-2 : goal.invariant_of-self-2
invariant_of-self-2 c =
    let old = c.self.inside.numbers in
    let locals = c.self.inside.locals.items in
    let local : Local = record { name = c.in_ok-name.name; c_type = c.args.c_type; hidden = c.in_ok-hidden.hidden } in
    let key : c.in_ok-key.key.items ≡ c.in_ok-name.name.items = c.in_ok-key.ensures.items ∙ sym c.in_ok-name.ensures.items in
    let long : c.len-number.result ≡ length locals = search rules in
    let items : c.push.new.self.items ≡ locals ++ local ∷ [] = search rules in
    subst (λ ls. IsTable c.insert.new.self ls c.self.inside.outer) (sym items)
    (IsTable-declared old c.insert.new.self local locals c.self.inside.outer c.self.invariant
    (c.in_ok-hidden.ensures.old ∙ ap (number_in old) key)
    (λ other. number_updated old c.insert.new.self c.in_ok-key.key.items (Some c.len-number.result) c.in_ok-hidden.ensures.updates other
    ∙ (λ i. cond (bytes_eq (key i) other) (Some (long i)) (number_in old other))))
