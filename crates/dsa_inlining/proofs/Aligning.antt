-- Variables outside functions and literals that lie in the caller's graph as far apart as in another group's graph: where those that stand for
-- the others come to their copies, all do.
use Rattle.std.proofs.Common.{◌≡◌, ℕ, ◌+◌, Bool, true, false, cond, List, Option, Some, None, refl, sym, ap, subst, ◌∙◌, arith}
use Rattle.std.proofs.lemmas.Bool.{false≢true}
use Rattle.std.proofs.lemmas.Option.{none-some, same_Some}
use Rattle.c_typed.specs.Layouts.{StructDef}
use Rattle.tac_ir.specs.declared.register.Register.{Register}
use Rattle.tac_ir.specs.Code.{Tac}
use Rattle.tac_ir.specs.States.{Owner}
use Rattle.heap_graph.specs.Structures.{AreMade}
use Rattle.heap_graph.specs.Graphs.{Target, Node, Name, OfRegister, OfResult, OfObject, OfGlobal, OfLiteral, OfCopy, Graph, node_at}
use Rattle.heap_graph.specs.Targets.{is_collapsed, shifted, element_kept}
use Rattle.heap_graph.specs.Merging.{IsSound}
use Rattle.heap_graph.specs.Closed.{parameters_of, function_type}
use Rattle.heap_graph.proofs.MapsCompose.{shift_in, shifted_there, at_there, kept_collapsed}
use Rattle.dsa_inlining.specs.declared.told_statics.Statics.{Statics}
use Rattle.dsa_inlining.specs.GroupStatics.Listed.{Lists, IsRepresented, Represents}
use Rattle.dsa_inlining.specs.Aligned.{is_collapsed_at, IsPlaced, AreAligned}
use Rattle.dsa_inlining.specs.Copied.{named_copy, copy_at, image, AreCopied}
use Rattle.dsa_inlining.proofs.Carried.{copy_found}
use Rattle.dsa_inlining.specs.Crossed.{Comes, IsJoined, IsCrossed}
use Rattle.dsa_inlining.specs.OuterCalls.Listed.{ListCome, ToldCome}
use Rattle.dsa_inlining.proofs.Kept.{Keeps, comes_kept, are_passed_kept, given_kept}

-- ---- slots behind a place

-- the node behind whose slot the place lies
record Shifted (graph : Graph) (slots : ℕ) (target place : Target) : Type 0 where
  node : Node
  there : node_at graph target.node ≡ Some node
  is : place ≡ record { node = target.node; shift = shift_in node (target.shift + slots) }

shifted_found : (graph : Graph) (slots : ℕ) (target place : Target) → shifted graph slots (Some target) ≡ Some place → Shifted graph slots target place
shifted_found graph slots target place h = by (node_at graph target.node) refl
  where
    none : node_at graph target.node ≡ None → shifted graph slots (Some target) ≡ None
    none e = rw e refl

    by : (o : Option Node) → node_at graph target.node ≡ o → Shifted graph slots target place
    by None e = absurd (none-some place (sym (none e) ∙ h))
    by (Some node) e = record { node = node; there = e; is = same_Some place _ (sym h ∙ shifted_there graph slots target node e) }

collapsed_there : (graph : Graph) (number : ℕ) (node : Node) → node_at graph number ≡ Some node → is_collapsed_at graph number ≡ is_collapsed node.element
collapsed_there graph number node e = rw e refl

-- slots behind a place, and these behind the copy of its node
shift_through : (its copys : Bool) (copy place slots : ℕ) → (its ≡ true → copys ≡ true) → cond copys 0 (copy + place + slots) ≡ cond copys 0 (copy + cond its 0 (place + slots))
shift_through its true copy place slots keeps = refl
shift_through true false copy place slots keeps = absurd (false≢true (keeps refl))
shift_through false false copy place slots keeps = omega arith

-- where so many slots behind two places are one, so are others
shift_alike : (collapsed : Bool) (m n slots other : ℕ) → cond collapsed 0 (m + slots) ≡ cond collapsed 0 (n + slots) → cond collapsed 0 (m + other) ≡ cond collapsed 0 (n + other)
shift_alike true m n slots other same = refl
shift_alike false m n slots other same = omega (arith, same)

-- where so many slots behind two places are one place, others are
shifted_alike : (graph : Graph) (one two : Target) (slots : ℕ) (place : Target) → shifted graph slots (Some one) ≡ Some place → shifted graph slots (Some two) ≡ Some place
    → (other : ℕ) → shifted graph other (Some one) ≡ shifted graph other (Some two)
shifted_alike graph one two slots place first second other =
    let a = shifted_found graph slots one place first in
    let b = shifted_found graph slots two place second in
    let at : (record { node = one.node; shift = shift_in a.node (one.shift + slots) }) ≡ record { node = two.node; shift = shift_in b.node (two.shift + slots) } = sym a.is ∙ b.is in
    let numbers : one.node ≡ two.node = ap (λ (t : Target). t.node) at in
    let same : a.node ≡ b.node = same_Some a.node b.node (sym a.there ∙ (ap (node_at graph) numbers ∙ b.there)) in
    let shifts : shift_in a.node (one.shift + slots) ≡ shift_in a.node (two.shift + slots) = ap (λ (t : Target). t.shift) at ∙ ap (λ n. shift_in n (two.shift + slots)) (sym same) in
    let alike : shift_in a.node (one.shift + other) ≡ shift_in b.node (two.shift + other)
    = shift_alike (is_collapsed a.node.element) one.shift two.shift slots other shifts ∙ ap (λ n. shift_in n (two.shift + other)) same in
    shifted_there graph other one a.node a.there ∙ ((λ i. Some (record { node = numbers i; shift = alike i })) ∙ sym (shifted_there graph other two b.node b.there))

-- ---- places and copies

-- a place's shift behind the copy of its node
abbrev moved : Target → Target → Target
moved place copy = record { node = copy.node; shift = copy.shift + place.shift }

-- the node of a place of the callee's graph has a copy in the caller's, which is collapsed where it is
record HasCopy (graph callee : Graph) (copies : ℕ → Option ℕ) (place : Target) : Type 0 where
  node : Node
  there : node_at callee place.node ≡ Some node
  at : Target
  is : copy_at graph copies place.node ≡ Some at
  copy : Node
  copy_there : node_at graph at.node ≡ Some copy
  keeps : is_collapsed node.element ≡ true → is_collapsed copy.element ≡ true

module _ (structs : List StructDef) (graph callee : Graph) (copies : ℕ → Option ℕ) where
  -- it has one where a target behind the place comes to the copy
  has_copy : AreCopied structs graph callee copies → (place target end : Target) (slots : ℕ) → shifted callee slots (Some place) ≡ Some target → image graph copies target ≡ Some end → HasCopy graph callee copies place
  has_copy are place target end slots is comes =
      let own = shifted_found callee slots place target is in
      let number : target.node ≡ place.node = ap (λ (t : Target). t.node) own.is in
      let found = copy_found graph copies place.node target.shift end (subst (λ n. shifted graph target.shift (copy_at graph copies n) ≡ Some end) number comes) in
      let fits = are.nodes place.node found.copy own.node found.of_node own.there in
      let there = at_there graph fits.target (element_kept structs own.node.element) fits.element in
      record {
        node = own.node;
        there = own.there;
        at = fits.target;
        is = ap (named_copy graph) found.of_node ∙ fits.is;
        copy = there.node;
        copy_there = there.is;
        keeps = kept_collapsed structs own.node.element there.node fits.target.shift there.so;
      }

  module _ (place : Target) (its : HasCopy graph callee copies place) (target : Target) (slots : ℕ) (is : shifted callee slots (Some place) ≡ Some target) where
    -- what lies behind the place is as far behind the copy
    image_moved : image graph copies target ≡ shifted graph slots (Some (moved place its.at))
    image_moved =
        let own = shifted_found callee slots place target is in
        let nodes : own.node ≡ its.node = same_Some own.node its.node (sym own.there ∙ its.there) in
        let slot : target.shift ≡ shift_in its.node (place.shift + slots) = ap (λ (t : Target). t.shift) own.is ∙ ap (λ n. shift_in n (place.shift + slots)) nodes in
        ap (shifted graph target.shift) (ap (λ (t : Target). copy_at graph copies t.node) own.is ∙ its.is)
        ∙ (shifted_there graph target.shift its.at its.copy its.copy_there
        ∙ (ap (λ s. Some (record { node = its.at.node; shift = s }))
        (ap (λ s. shift_in its.copy (its.at.shift + s)) slot ∙ sym (shift_through (is_collapsed its.node.element) (is_collapsed its.copy.element) its.at.shift place.shift slots its.keeps))
        ∙ sym (shifted_there graph slots (moved place its.at) its.copy its.copy_there)))

    -- where its node is collapsed so is that to which it comes
    collapsed_moved : (end : Target) → image graph copies target ≡ Some end → is_collapsed_at callee target.node ≡ true → is_collapsed_at graph end.node ≡ true
    collapsed_moved end comes collapsed =
        let own = shifted_found callee slots place target is in
        let last = shifted_found graph slots (moved place its.at) end (sym image_moved ∙ comes) in
        let held : is_collapsed its.node.element ≡ true = sym (ap (λ (t : Target). is_collapsed_at callee t.node) own.is ∙ collapsed_there callee place.node its.node its.there) ∙ collapsed in
        ap (λ (t : Target). is_collapsed_at graph t.node) last.is ∙ (collapsed_there graph its.at.node its.copy its.copy_there ∙ its.keeps held)

-- ---- variables and literals of which another group's graph tells

module _ (structs : List StructDef) (told callee bare graph : Graph) (copies : ℕ → Option ℕ) (are : AreCopied structs graph bare copies) where
  -- one comes to its copy where another does that lies behind the same place in the callee's graph, and behind one place with it in the caller's
  placed_comes : (one two : Name) (target other place own : Target) → callee.targets one ≡ bare.targets one → callee.targets two ≡ bare.targets two → IsPlaced told bare one target place
      → IsPlaced told graph one target own → IsPlaced told bare two other place → IsPlaced told graph two other own → Comes callee copies two two graph → Comes callee copies one one graph
  placed_comes one two target other place own same others first here second there comes its is =
      let image_two = comes second.at (others ∙ second.is) in
      let its_copy = has_copy structs graph bare copies are place second.at image_two.at other.shift second.behind image_two.copied in
      let ends : image_two.at ≡ there.at = same_Some image_two.at there.at (sym image_two.is ∙ there.is) in
      let alike = shifted_alike graph (moved place its_copy.at) own other.shift there.at
      (sym (image_moved structs graph bare copies place its_copy second.at other.shift second.behind) ∙ (image_two.copied ∙ ap Some ends)) there.behind target.shift in
      let at : first.at ≡ its = same_Some first.at its (sym first.is ∙ (sym same ∙ is)) in
      record {
        at = here.at;
        is = here.is;
        certain = here.certain;
        copied = ap (image graph copies) (sym at) ∙ (image_moved structs graph bare copies place its_copy first.at target.shift first.behind ∙ (alike ∙ here.behind));
      }

  -- one that comes to its copy lies behind the copy of the place behind which it lies in the callee's graph
  placed_again : (name : Name) (target place : Target) → callee.targets name ≡ bare.targets name → IsPlaced told bare name target place → Comes callee copies name name graph → (copy : Target)
      → ((at : Target) → copy_at graph copies place.node ≡ Some at → copy ≡ at) → IsPlaced told graph name target (moved place copy)
  placed_again name target place same placed comes copy copy_is =
      let its_image = comes placed.at (same ∙ placed.is) in
      let its_copy = has_copy structs graph bare copies are place placed.at its_image.at target.shift placed.behind its_image.copied in
      record {
        at = its_image.at;
        is = its_image.is;
        certain = its_image.certain;
        behind = ap (λ c. shifted graph target.shift (Some (moved place c))) (copy_is its_copy.at its_copy.is) ∙ (sym (image_moved structs graph bare copies place its_copy placed.at target.shift placed.behind) ∙ its_image.copied);
        collapsed = λ collapsed. collapsed_moved structs graph bare copies place its_copy placed.at target.shift placed.behind its_image.at its_image.copied (placed.collapsed collapsed);
      }

-- the place of a copy, or any
abbrev or_any : Option Target → Target
or_any None = record { node = 0; shift = 0 }
or_any (Some target) = target

module _ (told graph : Graph) (aligned : AreAligned told graph) where
  -- where one is that is listed
  listed_placed : (statics : Statics) (name : Name) (target : Target) → Lists statics name → told.targets name ≡ Some target → IsPlaced told graph name target (aligned.places target.node)
  listed_placed statics (OfGlobal number) target listed is = aligned.globals number target is
  listed_placed statics (OfLiteral number) target listed is = aligned.literals number target is
  listed_placed statics (OfRegister owner register) target listed is = absurd listed
  listed_placed statics (OfResult owner) target listed is = absurd listed
  listed_placed statics (OfObject owner local) target listed is = absurd listed
  listed_placed statics (OfCopy number) target listed is = absurd listed

listed_comes : (callee graph : Graph) (copies : ℕ → Option ℕ) (statics : Statics) → ListCome callee copies statics graph → (name : Name) → Lists statics name → Comes callee copies name name graph
listed_comes callee graph copies statics come (OfGlobal number) listed = come.globals number listed
listed_comes callee graph copies statics come (OfLiteral number) listed = come.literals number listed
listed_comes callee graph copies statics come (OfRegister owner register) listed = absurd listed
listed_comes callee graph copies statics come (OfResult owner) listed = absurd listed
listed_comes callee graph copies statics come (OfObject owner local) listed = absurd listed
listed_comes callee graph copies statics come (OfCopy number) listed = absurd listed

listed_same : (callee bare : Graph) → ((number : ℕ) → callee.targets (OfGlobal number) ≡ bare.targets (OfGlobal number)) → ((number : ℕ) → callee.targets (OfLiteral number) ≡ bare.targets (OfLiteral number))
    → (statics : Statics) (name : Name) → Lists statics name → callee.targets name ≡ bare.targets name
listed_same callee bare globals literals statics (OfGlobal number) listed = globals number
listed_same callee bare globals literals statics (OfLiteral number) listed = literals number
listed_same callee bare globals literals statics (OfRegister owner register) listed = absurd listed
listed_same callee bare globals literals statics (OfResult owner) listed = absurd listed
listed_same callee bare globals literals statics (OfObject owner local) listed = absurd listed
listed_same callee bare globals literals statics (OfCopy number) listed = absurd listed

-- where representatives come to their copies, all do of which the graph tells
pub come_through : (structs : List StructDef) (told callee bare graph : Graph) (copies : ℕ → Option ℕ) (representatives : Statics)
    → ((number : ℕ) → callee.targets (OfGlobal number) ≡ bare.targets (OfGlobal number)) → ((number : ℕ) → callee.targets (OfLiteral number) ≡ bare.targets (OfLiteral number))
    → AreCopied structs graph bare copies → IsSound structs bare → AreAligned told bare → AreAligned told graph → Represents representatives told → ListCome callee copies representatives graph
    → ToldCome told callee copies graph
come_through structs told callee bare graph copies representatives globals literals are sound in_callee in_graph represents come = record {
  globals = λ number target is.
      by (OfGlobal number) target (globals number) (in_callee.globals number target is) (in_graph.globals number target is) (represents.globals number target is);
  literals = λ number target is.
      by (OfLiteral number) target (literals number) (in_callee.literals number target is) (in_graph.literals number target is) (represents.literals number target is);
}
  where
    by : (name : Name) (target : Target) → callee.targets name ≡ bare.targets name → IsPlaced told bare name target (in_callee.places target.node) → IsPlaced told graph name target (in_graph.places target.node)
        → IsRepresented representatives told target.node → Comes callee copies name name graph
    by name target same first here its =
        placed_comes structs told callee bare graph copies are name its.name target its.target (in_callee.places target.node) (in_graph.places target.node) same
        (listed_same callee bare globals literals representatives its.name its.listed) first here
        (subst (λ n. IsPlaced told bare its.name its.target (in_callee.places n)) its.node (listed_placed told bare in_callee representatives its.name its.target its.listed its.is))
        (subst (λ n. IsPlaced told graph its.name its.target (in_graph.places n)) its.node (listed_placed told graph in_graph representatives its.name its.target its.listed its.is))
        (listed_comes callee graph copies representatives come its.name its.listed)

-- where all do, they lie there as far apart
pub told_aligned : (structs : List StructDef) (told callee bare graph : Graph) (copies : ℕ → Option ℕ) → ((number : ℕ) → callee.targets (OfGlobal number) ≡ bare.targets (OfGlobal number))
    → ((number : ℕ) → callee.targets (OfLiteral number) ≡ bare.targets (OfLiteral number)) → AreCopied structs graph bare copies → IsSound structs bare → AreAligned told bare → ToldCome told callee copies graph
    → AreAligned told graph
told_aligned structs told callee bare graph copies globals literals are sound aligned come = record {
  places = places;
  globals = λ number target is. by (OfGlobal number) target (globals number) (aligned.globals number target is) (come.globals number target is);
  literals = λ number target is. by (OfLiteral number) target (literals number) (aligned.literals number target is) (come.literals number target is);
}
  where
    places : ℕ → Target
    places number = moved (aligned.places number) (or_any (copy_at graph copies (aligned.places number).node))

    by : (name : Name) (target : Target) → callee.targets name ≡ bare.targets name → IsPlaced told bare name target (aligned.places target.node) → Comes callee copies name name graph
        → IsPlaced told graph name target (places target.node)
    by name target same placed comes =
        placed_again structs told callee bare graph copies are name target (aligned.places target.node) same placed comes (or_any (copy_at graph copies (aligned.places target.node).node)) (λ at is. ap or_any is)

-- ---- a call

module _ (tac : Tac) (owner : Owner) (site : ℕ) (arguments : List Register) (called : ℕ) (callee : Graph) (copies : ℕ → Option ℕ) where
  -- what is passed and given, and all variables and literals of which the callee's graph tells
  pub told_crossed : (graph : Graph) → IsJoined tac owner site arguments called callee copies graph → ToldCome callee callee copies graph → IsCrossed tac owner site arguments called callee copies graph
  told_crossed graph joined come = record {
    passed = joined.passed;
    given = joined.given;
    globals = λ number target is. come.globals number target is target is;
    literals = λ number target is. come.literals number target is target is;
  }

  pub crossed_joins : (other : Graph) → IsCrossed tac owner site arguments called callee copies other → IsJoined tac owner site arguments called callee copies other
  crossed_joins other its = record { passed = its.passed; given = its.given }

  pub crossed_lists : (other : Graph) → IsCrossed tac owner site arguments called callee copies other → (statics : Statics) → ListCome callee copies statics other
  crossed_lists other its statics = record { globals = λ number listed. its.globals number; literals = λ number listed. its.literals number }

-- ---- while a graph goes on

module _ (structs : List StructDef) (made : AreMade structs) (callee : Graph) (copies : ℕ → Option ℕ) where
  pub joined_call_kept : (tac : Tac) (owner : Owner) (site : ℕ) (arguments : List Register) (called : ℕ) → Keeps structs (IsJoined tac owner site arguments called callee copies)
  joined_call_kept tac owner site arguments called old new sound goes its = record {
    passed = are_passed_kept structs made callee copies owner called (parameters_of (function_type tac called)) arguments old new sound goes its.passed;
    given = given_kept structs made callee copies owner site called (function_type tac called) old new sound goes its.given;
  }

  pub list_come_kept : (statics : Statics) → Keeps structs (ListCome callee copies statics)
  list_come_kept statics old new sound goes its = record {
    globals = λ number listed. comes_kept structs made callee copies (OfGlobal number) (OfGlobal number) old new sound goes (its.globals number listed);
    literals = λ number listed. comes_kept structs made callee copies (OfLiteral number) (OfLiteral number) old new sound goes (its.literals number listed);
  }

  pub told_come_kept : (told : Graph) → Keeps structs (ToldCome told callee copies)
  told_come_kept told old new sound goes its = record {
    globals = λ number target is. comes_kept structs made callee copies (OfGlobal number) (OfGlobal number) old new sound goes (its.globals number target is);
    literals = λ number target is. comes_kept structs made callee copies (OfLiteral number) (OfLiteral number) old new sound goes (its.literals number target is);
  }
