use Rattle.c_types_expressions.proofs.ObjectRules.{pointer-made}
use Rattle.c_types_expressions.proofs.pointers.pointer_at.Goals as goal

pub returns : goal.returns
returns c =
    pointer-made c.args.checker.now c.pointer_to.new.self c.args.target c.args.value c.args.address c.in_ok-c_type.c_type c.of_type.result c.requires.value c.requires.address c.in_ok-c_type.ensures.made c.of_type.ensures
