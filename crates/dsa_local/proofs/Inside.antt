-- The functions of a group in memory are those of a group of the program.
use Rattle.std.proofs.Common.{◌≡◌, ℕ, ◌<◌, true, List, length, Option, Some, None, refl, sym, ap, ◌∙◌, arith, eqb-true, eq-eqb}
use Rattle.std.specs.Prelude.{slice_get}
use Rattle.std.proofs.lemmas.Bool.{false≢true, and_parts}
use Rattle.std.proofs.lemmas.List.{length-map}
use Rattle.std.proofs.lemmas.Option.{slice_get_within}
use Rattle.c_typed.specs.Types.{CType}
use Rattle.c_typed.proofs.Same.{same_type-true}
use Rattle.tac_ir.specs.declared.register.Register.{Register}
use Rattle.tac_ir.specs.Code.{Through, Function, Tac}
use Rattle.tac_ir.specs.States.{InFunction}
use Rattle.tac_ir.specs.Views.{function_in}
use Rattle.tac_ir.specs.Targets.{is_target, is_taken, has_type}
use Rattle.tac_ir.specs.Groups.{IsIn, Reaches, itself, through, in_class, Makes, AreGroups}
use Rattle.call_graph.proofs.RowLists.{some_at}
use Rattle.call_graph.specs.GroupViews.{groups_of, IsOf}
use Rattle.heap_graph.specs.Closed.{Family, group_from, group_of, same_group, type_of, function_type}
use Rattle.heap_graph.proofs.GroupNumbers.{in_is, is_then_in, stands, own_number, in_own}
use Rattle.dsa_local.specs.declared.members.Group.{Group}
use Rattle.dsa_local.specs.Members.{code_of, is_numbered, is_inside}
use Rattle.dsa_local.specs.Joined.{AreShared}
use Rattle.dsa_local.proofs.CalledSteps.{target_within}

-- ---- functions of one class have one type

pub type_told : (tac : Tac) (pointer : Register) (c_type : CType) (function : ℕ) → is_target tac (Through pointer c_type) function ≡ true → function_type tac function ≡ c_type
type_told tac pointer c_type function is = by (slice_get tac.functions function) (and_parts (is_taken tac function) _ is).1
  where
    by : (found : Option Function) → has_type c_type found ≡ true → type_of found ≡ c_type
    by None has = absurd (false≢true has)
    by (Some own) has = same_type-true own.c_type c_type has

pub one_type : (tac : Tac) (pointer : Register) (c_type : CType) (a b : ℕ) → is_target tac (Through pointer c_type) a ≡ true → is_target tac (Through pointer c_type) b ≡ true → function_type tac a ≡ function_type tac b
one_type tac pointer c_type a b one other = type_told tac pointer c_type a one ∙ sym (type_told tac pointer c_type b other)

-- ---- groups

numbered_is : (number : ℕ) (found : Option ℕ) → is_numbered number found ≡ true → found ≡ Some number
numbered_is number None is = absurd (false≢true is)
numbered_is number (Some other) is = ap Some (eqb-true other number is)

is_told : (number : ℕ) (found : Option ℕ) → found ≡ Some number → is_numbered number found ≡ true
is_told number found same = ap (is_numbered number) same ∙ eq-eqb number number refl

pub inside_at : (group : Group) (function : ℕ) → is_inside group function ≡ true → slice_get group.groups.now.group_of.items function ≡ Some group.number
inside_at group function is = numbered_is group.number (slice_get group.groups.now.group_of.items function) is

module _ (group : Group) (of : IsOf group.tac.now group.groups.now) where
  abbrev pub lists : List (List ℕ)
  lists = groups_of group.groups.now

  -- a function of the group stands in its list
  pub in_list : (function : ℕ) → is_inside group function ≡ true → (list : List ℕ) × (slice_get lists group.number ≡ Some list) × IsIn function list
  in_list function is = of.group function group.number (inside_at group function is)

  pub as_many : length (code_of group).functions ≡ length group.tac.now.functions.items
  as_many = length-map group.tac.now.functions.items (function_in group.tac.now.types)

  -- it is one of the program
  pub inside_within : (function : ℕ) → is_inside group function ≡ true → function < length (code_of group).functions
  inside_within function is =
      let less = slice_get_within group.groups.now.group_of.items function group.number (inside_at group function is) in
      let long = of.each in
      let many = as_many in
      omega (arith, less, long, many)

  module _ (are : AreGroups (code_of group) lists) where
    -- the number of the group of each
    pub group_told : (function : ℕ) → is_inside group function ≡ true → group_from 0 lists function ≡ group.number
    group_told function is =
        let place = in_list function is in
        own_number (code_of group) lists are group.number function place.0 place.1 (is_then_in function place.0 place.2)

    pub one_group : (family : Family) → family.groups ≡ lists → (a b : ℕ) → is_inside group a ≡ true → is_inside group b ≡ true → group_of family a ≡ group_of family b
    one_group family same a b one other = ap (λ gs. group_from 0 gs a) same ∙ (group_told a one ∙ sym (ap (λ gs. group_from 0 gs b) same ∙ group_told b other))

    -- what is in the group's list is inside
    pub listed_inside : (list : List ℕ) (function : ℕ) → slice_get lists group.number ≡ Some list → IsIn function list → function < length group.tac.now.functions.items → is_inside group function ≡ true
    listed_inside list function at is within =
        let long = of.each in
        let found = some_at group.groups.now.group_of.items function (omega (arith, within, long)) in
        let place = of.group function found.0 found.1 in
        let own = own_number (code_of group) lists are group.number function list at (is_then_in function list is) in
        let other = own_number (code_of group) lists are found.0 function place.0 place.1 (is_then_in function place.0 place.2) in
        let same : found.0 ≡ group.number = sym other ∙ own in
        is_told group.number (slice_get group.groups.now.group_of.items function) (found.1 ∙ ap Some same)

    -- where one function of a class is inside, all are
    pub class_inside : (caller : ℕ) (pointer : Register) (c_type : CType) → Makes (code_of group) caller (Through pointer c_type) → (a b : ℕ) → is_target (code_of group) (Through pointer c_type) a ≡ true
        → is_target (code_of group) (Through pointer c_type) b ≡ true → is_inside group a ≡ true → is_inside group b ≡ true
    class_inside caller pointer c_type makes a b one other is =
        let place = in_list a is in
        let at = stands lists group.number place.0 place.1 in
        let to : Reaches (code_of group) a b = through a b b (in_class caller pointer c_type makes one other) (itself b) in
        let from : Reaches (code_of group) b a = through b a a (in_class caller pointer c_type makes other one) (itself a) in
        let less = target_within (code_of group) pointer c_type b other in
        let many = as_many in
        listed_inside place.0 b place.1 (are.together at.before at.after place.0 a b at.is place.2 (to, from)) (omega (arith, less, many))

    -- so one call may come to both, and to none outside
    pub is_shared : (caller : ℕ) (pointer : Register) (c_type : CType) → Makes (code_of group) caller (Through pointer c_type) → (a b : ℕ) → is_target (code_of group) (Through pointer c_type) a ≡ true
        → is_target (code_of group) (Through pointer c_type) b ≡ true → is_inside group a ≡ true → AreShared (code_of group) (is_inside group) a b
    is_shared caller pointer c_type makes a b one other is = record {
      pointer = pointer;
      c_type = c_type;
      called = record { caller = InFunction caller; function = makes.function; is = makes.is; at = makes.at; site = makes.site; arguments = makes.arguments; point = makes.point };
      within = λ function target. class_inside caller pointer c_type makes a function one target is;
      first = one;
      second = other;
    }

    -- a function of the program that has the number of the group is inside
    pub same_inside : (family : Family) → family.groups ≡ lists → (own called : ℕ) → is_inside group own ≡ true → called < length (code_of group).functions → same_group family (InFunction own) called ≡ true
        → is_inside group called ≡ true
    same_inside family same own called is within equal =
        let number : group_from 0 lists called ≡ group.number = sym (ap (λ gs. group_from 0 gs called) same) ∙ (sym (eqb-true (group_of family own) (group_of family called) equal) ∙ (ap (λ gs. group_from 0 gs own) same ∙ group_told own is)) in
        let place = in_own (code_of group) lists are group.number called within number in
        let many = as_many in
        listed_inside place.0 called place.1 (in_is called place.0 place.2) (omega (arith, within, many))
