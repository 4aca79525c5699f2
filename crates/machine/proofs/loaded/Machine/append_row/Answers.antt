use Rattle.std.proofs.Common.{◌≡◌, ◌≤◌, ◌++◌, length, slice_get, None, sym, ap, ◌∙◌, arith}
use Rattle.std.proofs.lemmas.Bool.Decides.{nat_tests}
use Rattle.std.proofs.lemmas.List.{append-nil}
use Rattle.std.proofs.lemmas.Option.{slice_get_past}
use Rattle.machine.specs.Heaps.{tally_of, row_of}
use Rattle.machine.proofs.loaded.Machine.append_row.Goals as goal

pub returns-in_default : goal.returns-in_default
returns-in_default c =
    let kinds = c.args.self.now.image.now.kinds.items in
    let same : c.deref.result.now ≡ kinds = c.deref.ensures.value in
    let there = ap (λ ks. length ks) same in
    let past : length kinds ≤ c.args.kind = grind (arith, nat_tests) in
    let missing : slice_get kinds c.args.kind ≡ None = slice_get_past kinds c.args.kind past in
    sym (append-nil c.args.rows.now.items) ∙ ap (λ found. c.args.rows.now.items ++ row_of (tally_of c.args.self.now.heap.tally) kinds c.args.site found) (sym missing)
