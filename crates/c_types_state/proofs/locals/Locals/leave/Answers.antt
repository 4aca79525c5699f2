use Rattle.std.proofs.Common.{◌≡◌, ℕ, zero, suc, ◌<◌, true, false, refl, ◌∙◌, ap, arith, length}
use Rattle.std.proofs.lemmas.Bool.{false≢true}
use Rattle.c_types_state.specs.NameTables.{LocalTable}
use Rattle.c_types_state.proofs.LocalTables.{table_of-left}
use Rattle.c_types_state.proofs.locals.Locals.leave.Goals as goal

none_left : (n : ℕ) → (0 < n → false ≡ true) → n ≡ 0
none_left zero some = refl
none_left (suc n) some = absurd (false≢true (some (omega arith)))

pub returns : goal.returns
returns c = λ block around entries count.
    let none : length c.loop-self.self.inner ≡ 0 = none_left (length c.loop-self.self.inner) c.loop-self-test.ensures.1 in
    table_of-left c.self.inside.locals.items c.self.inside.outer c.args.outer block around
    (ap (λ (t : LocalTable). length t.inner) c.self.view_is ∙ none)
    (ap (λ (t : LocalTable). t.outer) c.self.view_is ∙ c.loop-self.invariant ∙ entries) count
