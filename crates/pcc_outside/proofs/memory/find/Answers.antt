use Rattle.std.proofs.Common.{◌∙◌, ap, sym}
use Rattle.pcc_outside.proofs.Finding.{told, told-get, told-found}
use Rattle.pcc_outside.proofs.memory.find.Goals as goal

pub returns : goal.returns
returns c =
    let h = told-found c.get.result _ (told-get c.args.files.now c.args.name.now ∙ sym (ap told c.get.ensures.value)) in
    record { found = h.0; missing = h.1 }
