use Rattle.std.proofs.Common.{refl, ap, ◌∙◌, arith}
use Rattle.std.proofs.lemmas.Option.{slice_get_within, get_or_from_slice_get}
use Rattle.c_typed.specs.Table.{type_in}
use Rattle.tac_ir.specs.declared.register.Local.TheVariants as L
use Rattle.tac_build.specs.Homes.{lies_in_memory}
use Rattle.tac_build.proofs.builder.Builder.new_home.Goals as goal

pub index-requires : goal.index-requires
index-requires c =
    let within = slice_get_within c.args.addressed.now.variables.items c.args.self.now.counts.variables c.requires.own.0 c.requires.own.1 in
    omega (arith, within, c.args.addressed.now.variables.ok.0)

pub returns-clause-home : goal.returns-clause-home
returns-clause-home c = λ is_taken at.
    let t = type_in c.args.types.now c.args.local.now.c_type in
    let number = c.args.self.now.counts.variables in
    let found = c.lies_in_memory.ensures ∙ ap (lies_in_memory t) (c.index.ensures ∙ get_or_from_slice_get c.args.addressed.now.variables.items number is_taken c.index.result.now at) in
    ((λ i. record { local = L.Variable number; is_object = found i; c_type = t }), refl)
