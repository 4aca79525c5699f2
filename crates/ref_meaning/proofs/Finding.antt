-- Nodes that stand for one part of the program are found alike.
use Rattle.std.proofs.Common.{◌≡◌, subst}
use Rattle.c_typed.specs.Table.{Interned}
use Rattle.c_typed.specs.Views.{object_in}
use Rattle.c_typed.specs.Typed as T
use Rattle.c_typed.specs.declared.typed.Object as memory_object
use Rattle.c_typed.specs.declared.typed.Object.TheVariants as O
use Rattle.ref_semantics.specs.Parts.{Part, ObjectPart}
use Rattle.ref_meaning.specs.declared.control.Node as memory_node
use Rattle.ref_meaning.specs.declared.control.Node.TheVariants as N
use Rattle.ref_meaning.specs.declared.control.Stage as memory_stage
use Rattle.ref_meaning.specs.declared.control.Stage.TheVariants as S
use Rattle.ref_meaning.specs.Views.{part_in}
use Rattle.ref_meaning.specs.Holding.{IsBehindFirst, IsBehindBoth, FindsAt}
use Rattle.ref_meaning.specs.Doing.{IsOfStatement}

abbrev PartFirst : Part → Type 0
PartFirst (ObjectPart object) = by object
  where
    by : T.Object → Type 0
    by (T.Pointed place pointer) = Unit {0}
    by (T.Element place pointer number) = Unit {0}
    by (T.ElementOf place number pointer) = Unit {0}
    by (T.MemberOf place object number) = Unit {0}
    by (T.PointedMember place pointer number) = Unit {0}
    by _ = ⊥
PartFirst _ = ⊥

abbrev PartBoth : Part → Type 0
PartBoth (ObjectPart object) = by object
  where
    by : T.Object → Type 0
    by (T.Element place pointer number) = Unit {0}
    by (T.ElementOf place number pointer) = Unit {0}
    by _ = ⊥
PartBoth _ = ⊥

to-first : (table : Interned) (node : memory_node.Node) → IsBehindFirst node → PartFirst (part_in table node)
to-first table (N.Object object) is = by object.now is
  where
    by : (o : memory_object.Object) → IsBehindFirst (N.Object (record object { now = o })) → PartFirst (ObjectPart (object_in table o))
    by (O.Pointed' place p pointer) is = tt
    by (O.Element' place p pointer q number) is = tt
    by (O.ElementOf' place p number q pointer) is = tt
    by (O.MemberOf' place p inner number) is = tt
    by (O.PointedMember' place p pointer number) is = tt
    by _ is = absurd is
to-first table _ is = absurd is

from-first : (table : Interned) (node : memory_node.Node) → PartFirst (part_in table node) → IsBehindFirst node
from-first table (N.Object object) is = by object.now is
  where
    by : (o : memory_object.Object) → PartFirst (ObjectPart (object_in table o)) → IsBehindFirst (N.Object (record object { now = o }))
    by (O.Pointed' place p pointer) is = tt
    by (O.Element' place p pointer q number) is = tt
    by (O.ElementOf' place p number q pointer) is = tt
    by (O.MemberOf' place p inner number) is = tt
    by (O.PointedMember' place p pointer number) is = tt
    by (O.Local number) is = absurd is
    by (O.Global name) is = absurd is
    by (O.Literal place bytes c_type) is = absurd is
    by (O.Grouped' place p inner) is = absurd is
from-first table (N.Value v) is = absurd is
from-first table (N.Address object) is = absurd is
from-first table (N.Designator function) is = absurd is
from-first table (N.Stmt s) is = absurd is
from-first table (N.Body function) is = absurd is
from-first table N.Nothing is = absurd is

to-both : (table : Interned) (node : memory_node.Node) → IsBehindBoth node → PartBoth (part_in table node)
to-both table (N.Object object) is = by object.now is
  where
    by : (o : memory_object.Object) → IsBehindBoth (N.Object (record object { now = o })) → PartBoth (ObjectPart (object_in table o))
    by (O.Element' place p pointer q number) is = tt
    by (O.ElementOf' place p number q pointer) is = tt
    by _ is = absurd is
to-both table _ is = absurd is

from-both : (table : Interned) (node : memory_node.Node) → PartBoth (part_in table node) → IsBehindBoth node
from-both table (N.Object object) is = by object.now is
  where
    by : (o : memory_object.Object) → PartBoth (ObjectPart (object_in table o)) → IsBehindBoth (N.Object (record object { now = o }))
    by (O.Element' place p pointer q number) is = tt
    by (O.ElementOf' place p number q pointer) is = tt
    by (O.Pointed' place p pointer) is = absurd is
    by (O.MemberOf' place p inner number) is = absurd is
    by (O.PointedMember' place p pointer number) is = absurd is
    by (O.Local number) is = absurd is
    by (O.Global name) is = absurd is
    by (O.Literal place bytes c_type) is = absurd is
    by (O.Grouped' place p inner) is = absurd is
from-both table (N.Value v) is = absurd is
from-both table (N.Address object) is = absurd is
from-both table (N.Designator function) is = absurd is
from-both table (N.Stmt s) is = absurd is
from-both table (N.Body function) is = absurd is
from-both table N.Nothing is = absurd is

pub same-first : (table : Interned) (a b : memory_node.Node) → part_in table a ≡ part_in table b → IsBehindFirst a → IsBehindFirst b
same-first table a b e is = from-first table b (subst PartFirst e (to-first table a is))

pub same-both : (table : Interned) (a b : memory_node.Node) → part_in table a ≡ part_in table b → IsBehindBoth a → IsBehindBoth b
same-both table a b e is = from-both table b (subst PartBoth e (to-both table a is))

-- nothing is found as an object where a statement waits
pub statement-unfound : (node : memory_node.Node) (stage : memory_stage.Stage) → IsOfStatement stage → FindsAt node stage → ⊥
statement-unfound node S.First is finds = is
statement-unfound node (S.Second a) is finds = is
statement-unfound node _ is finds = finds
