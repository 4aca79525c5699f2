use Rattle.std.proofs.Common.{◌≡◌, ◌++◌, take, length}
use Rattle.std.specs.List.{flat_map}
use Rattle.pool_isa.specs.Number.{number_bytes}
use Rattle.image_form.specs.Form.{kind_bytes}
use Rattle.image_form.proofs.writing.append_kinds.Given as goal

-- the count and the kinds so far
abbrev pub invariant-loop-kind : goal.invariant-loop-kind
invariant-loop-kind l =
    l.bytes.items ≡ l.fn.bytes.items ++ (number_bytes (length l.kinds) ++ flat_map kind_bytes (take l.kind-index l.kinds))
