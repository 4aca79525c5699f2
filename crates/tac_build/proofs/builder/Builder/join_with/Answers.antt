use Rattle.tac_build.proofs.Points.{joins_integer, joins_pointer}
use Rattle.tac_build.proofs.builder.Builder.join_with.Goals as goal

pub returns-in-Integer-clause-code : goal.returns-in-Integer-clause-code
returns-in-Integer-clause-code c = joins_integer c.args.self.now c.write.new.self c.args.joined c.in-Integer.register c.in-Integer.int_type c.args.other c.in-Integer.is c.requires c.write.result c.write.ensures.code

pub returns-in-Pointer-clause-code : goal.returns-in-Pointer-clause-code
returns-in-Pointer-clause-code c = joins_pointer c.args.self.now c.write-in-Pointer.new.self c.args.joined c.in-Pointer.register c.in-Pointer.target c.args.other c.in-Pointer.is c.requires c.write-in-Pointer.result c.write-in-Pointer.ensures.code
