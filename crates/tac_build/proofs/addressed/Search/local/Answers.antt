use Rattle.std.proofs.Common.{◌≡◌, ◌++◌, ◌∷◌, [], length, ap, ◌∙◌}
use Rattle.std.specs.Vec.{vec_len}
use Rattle.c_typed.specs.StatementViews.{local_in}
use Rattle.tac_build.specs.declared.addressed.Search.{Search}
use Rattle.tac_build.proofs.Opening.{declares}
use Rattle.tac_build.proofs.addressed.Search.local.Goals as goal

pub returns : goal.returns
returns c = λ table.
    let old = c.args.self.now in
    let mid : Search = record { flags = c.push.new.self; scope = c.push-2.new.self } in
    let long : vec_len old.flags ≡ length old.flags.items = old.flags.ok.0 in
    declares old mid c.optional.new.self (local_in table c.args.local.now) (c.in_ok-push.ensures {u = tt}).items
    ((c.in_ok-push-2.ensures {u = tt}).items ∙ ap (λ place. old.scope.items ++ place ∷ []) (c.len-place.ensures ∙ long))
    (c.optional.ensures table)
