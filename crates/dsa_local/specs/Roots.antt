-- What objects outside functions are to paths.
use Rattle.tac_ir.specs.Code.{Base, AtGlobal, AtLiteral}
use Rattle.dsa_local.specs.declared.roots.Root.{Root}
use Rattle.dsa_local.specs.declared.roots.Root.TheVariants as R

abbrev pub base_at : Root → Base
base_at (R.Global global) = AtGlobal global.0
base_at (R.Literal literal) = AtLiteral literal.0
