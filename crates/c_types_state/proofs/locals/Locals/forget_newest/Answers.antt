use Rattle.std.proofs.Common.{◌<◌, ◌∙◌, ap, sym, subst, length, cond, is_some, None, Some}
use Rattle.std.specs.Prelude.{bytes_eq}
use Rattle.std.specs.Option.{option_copied_mut}
use Rattle.std.proofs.lemmas.Bool.{false≢true}
use Rattle.c_types_state.specs.NameTables.{LocalTable}
use Rattle.c_types_state.specs.LocalTables.{number_in}
use Rattle.c_types_state.proofs.LocalTables.{number_updated, IsTable-forgotten, IsTable-newest}
use Rattle.c_types_state.proofs.locals.Locals.forget_newest.Goals as goal

pub invariant_of-self-in-None : goal.invariant_of-self-in-None
invariant_of-self-in-None c =
    let old = c.self.inside.numbers in
    let name = c.in-Some.local.name.items in
    IsTable-forgotten old c.swap_remove.new.self c.self.inside.locals.items c.pop.new.self.items c.in-Some.local c.self.inside.outer
    c.in-Some.ensures.items c.self.invariant (subst (λ (t : LocalTable). 0 < length t.inner) (sym c.self.view_is) c.requires)
    (λ other. number_updated old c.swap_remove.new.self name None c.swap_remove.ensures.updates other
    ∙ ap (λ h. cond (bytes_eq name other) h (number_in old other)) (sym c.in-None.is))

pub invariant_of-self : goal.invariant_of-self
invariant_of-self c =
    let old = c.self.inside.numbers in
    let new = c.get_mut.follows.lender c.in-Some-hidden.number in
    let name = c.in-Some.local.name.items in
    let some = IsTable-newest old old c.self.inside.locals.items c.pop.new.self.items c.in-Some.local c.self.inside.outer c.in-Some.ensures.items c.self.invariant in
    let write = (c.get_mut.follows.holds c.in-Some-hidden.number).3 some in
    IsTable-forgotten old new c.self.inside.locals.items c.pop.new.self.items c.in-Some.local c.self.inside.outer
    c.in-Some.ensures.items c.self.invariant (subst (λ (t : LocalTable). 0 < length t.inner) (sym c.self.view_is) c.requires)
    (λ other. number_updated old new name (Some c.in-Some-hidden.number) write other
    ∙ ap (λ h. cond (bytes_eq name other) h (number_in old other)) (sym c.in-Some-hidden.is))

pub invariant_of-self-in-Some-hidden : goal.invariant_of-self-in-Some-hidden
invariant_of-self-in-Some-hidden c =
    let old = c.self.inside.numbers in
    let some = IsTable-newest old old c.self.inside.locals.items c.pop.new.self.items c.in-Some.local c.self.inside.outer c.in-Some.ensures.items c.self.invariant in
    absurd (false≢true (ap is_some (sym (ap option_copied_mut c.in_default-get_mut.is) ∙ c.get_mut.ensures.value) ∙ some))
