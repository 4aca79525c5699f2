use Rattle.std.proofs.Common.{[], refl, sym, subst, ◌∙◌}
use Rattle.std.specs.Prelude.{codes}
use Rattle.std.proofs.lemmas.Map.Text.{hash_map_str_same}
use Rattle.ref_meaning.specs.Numbers.{HasNumbers}
use Rattle.ref_meaning.proofs.Initial.{stands-first}
use Rattle.ref_meaning.proofs.SmallTrees.{program_fits}
use Rattle.ref_meaning.proofs.run.RefRun.new.Goals as goal

pub returns-clause-stands : goal.returns-clause-stands
returns-clause-stands c =
    let numbers = subst (HasNumbers c.in_ok-functions.functions 0) c.as_slice.ensures.value c.in_ok-functions.ensures in
    stands-first _ refl c.new-2.ensures.items c.new-3.ensures.items refl refl (program_fits c.args.program.now c.requires.stand c.requires.well_typed c.requires.storable) c.in_ok-new.ensures.types numbers
    (c.copied-main.ensures ∙ (c.get.ensures.value ∙ ((hash_map_str_same c.as_slice-2.result (codes "main") c.in_ok-functions.functions.entries (sym c.as_slice-2.ensures)).0 ∙ numbers (codes "main"))))
    (c.in_ok-new.ensures.stands [] 0)
