-- Call sites: each call has a number in its function, and so has each use of the heap and of the input and output.
use Rattle.std.specs.Prelude.{◌≡◌, ℕ, ◌<◌, slice_get, Option, Some, None}
use Rattle.tac_ir.specs.Code.{Op, Function}
use Rattle.tac_ir.specs.Code as O

abbrev pub site_of : Op → Option ℕ
site_of (O.Allocate site size) = Some site
site_of (O.Free site pointer) = Some site
site_of (O.Call site callee arguments) = Some site
site_of (O.GetChar site) = Some site
site_of (O.PutChar site value) = Some site
site_of op = None

-- no two points of a function have one site
abbrev pub HasSitesOnce : Function → Type 0
HasSitesOnce function =
    (i j : ℕ) (a b : Op) (site : ℕ) → slice_get function.points i ≡ Some a → slice_get function.points j ≡ Some b → site_of a ≡ Some site → site_of b ≡ Some site → i ≡ j

-- sites are those that the function counts
abbrev pub HasSitesBelow : Function → Type 0
HasSitesBelow function = (at : ℕ) (op : Op) (site : ℕ) → slice_get function.points at ≡ Some op → site_of op ≡ Some site → site < function.counts.calls
