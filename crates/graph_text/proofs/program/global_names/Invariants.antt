use Rattle.std.proofs.Common.{◌≡◌, ◌++◌, drop, map}
use Rattle.graph_text.proofs.program.global_names.Given as goal

abbrev pub invariant-loop-global : goal.invariant-loop-global
invariant-loop-global l = map (λ name. name.items) l.names.items ++ map (λ global. global.name) (drop l.global-index l.globals) ≡ map (λ global. global.name) l.globals
