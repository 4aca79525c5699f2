-- The code of a well typed expression stands.
use Rattle.std.proofs.Common.{◌≡◌, ℕ, zero, suc, ◌+◌, ◌<◌, Bool, true, false, not, ◌&&◌, ◌||◌, ◌==◌, List, [], ◌∷◌, length, Option, Some, None, refl, sym, ap, subst, ◌∙◌, arith}
use Rattle.std.specs.Prelude.{slice_get, if◌then◌else◌, bytes_eq}
use Rattle.std.specs.List.{AllByRecursion}
use Rattle.std.proofs.lemmas.Bool.{true≢false, and_parts}
use Rattle.std.proofs.lemmas.Option.{none-some, same_Some}
use Rattle.run_theory.specs.declared.place.Pos.{Pos}
use Rattle.c_num.specs.declared.IntType.TheVariants as I
use Rattle.c_typed.specs.declared.typed.LibraryFunction.{LibraryFunction}
use Rattle.c_typed.specs.declared.typed.LibraryFunction.TheVariants as L
use Rattle.c_typed.specs.Places.{is_same_place}
use Rattle.c_typed.specs.Types.{CType, CTypes, Void, Integer, Pointer, Array, Struct, Function, literal_type, same_type}
use Rattle.c_typed.specs.Layouts.{is_complete}
use Rattle.c_typed.specs.Typed as T
use Rattle.c_typed.specs.Typed.{Program, GlobalDef, LiteralDef, Value, Values, Object, Designator}
use Rattle.c_typed.proofs.Same.{same_type-true}
use Rattle.c_typed.specs.Expressions.{given, given_two, is_scalar, is_conversion, is_right, pointed_function, element, library_result, type_of, types_of, type_of_object, type_of_designator}
use Rattle.c_typed.specs.Sizes.{makes, all_make, object_makes, designator_makes, is_small, fills, is_storable}
use Rattle.c_typed.proofs.Splitting.{given_parts, unless_parts, two_parts, same_parts, first_parts}
use Rattle.tac_ir.specs.declared.register.Register.{Register}
use Rattle.tac_ir.specs.declared.register.Register.TheVariants as R
use Rattle.tac_ir.specs.Code.{AtLocal, AtGlobal, AtLiteral, Pointed, Member, Path, Callee, Tac}
use Rattle.tac_ir.specs.Code as O
use Rattle.tac_ir.specs.First.{named_global, placed_literal}
use Rattle.tac_ir.specs.Objects.{own_type, whole}
use Rattle.tac_ir.specs.States.{Owner}
use Rattle.tac_build.specs.Homes.{Home, Scope, home_of, in_register, register_home, home_behind, is_pure}
use Rattle.tac_build.specs.Spots.{Spot, behind, with_call, with_argument, argument, Lowered, AsInteger, AsPointer, AsObject, AsNothing, Mode, Kept, Dropped, Behind, Row, is_used, is_followed, is_address, cast_mode, pointed_mode}
use Rattle.tac_build.specs.Code.{PartCode, path_from, then_step, type_of_member, pointed_by, call_gives, compound_tree, gives_old, is_up, OneCode, ValueCode, LibraryCode, ArgumentsCode, DesignatorCode, ObjectCode}
use Rattle.tac_build.specs.Forms.{context_of}
use Rattle.tac_build.proofs.Forms.{object_form}
use Rattle.heap_graph.specs.Parts.{slots_of}
use Rattle.graph_unification.specs.Standing.{IsOwn}
use Rattle.dsa_bottom_up.proofs.Slots.{filling_slots}
use Rattle.dsa_bottom_up.proofs.Paths.{PathFound, IsOf, then_found}
use Rattle.dsa_bottom_up.proofs.LoweredPoints.Leading.{Fits, Spans, Comes, leads_then, then_comes, stays, call_spans, argument_spans, own_call, own_argument, point, emits, gives_integer, gives_pointer, with_integer, with_nothing, with_object, with_found}
use Rattle.dsa_bottom_up.proofs.LoweredPoints.Parts.{Where, Part, Is, HomeOwn, CalleeOwn, keeps_tree, writes, joins, joins_with, decays, takes_address, addresses, moves_pointer, indexes, read, moved_code, assign, compound, pointer, stepping_code, stepped_value, logical}

-- ---- names

pub get_below : {A : Type 0} (xs : List A) (number : ℕ) (x : A) → slice_get xs number ≡ Some x → number < length xs
get_below [] number x there = absurd (none-some x there)
get_below (first ∷ xs) zero x there = omega arith
get_below (first ∷ xs) (suc number) x there = let lt = get_below xs number x there in omega (arith, lt)

-- a variable of this name lies behind as many as its number tells
record IsNumbered {A : Type 0} (from : ℕ) (xs : List A) (number : ℕ) (x : A) : Type 0 where
  place : ℕ
  is : number ≡ from + place
  there : slice_get xs place ≡ Some x

global_there : (from : ℕ) (globals : List GlobalDef) (name : List ℕ) (number : ℕ) (global : GlobalDef) → named_global from globals name ≡ Some (number, global) → IsNumbered from globals number global
global_there from [] name number global is = absurd (none-some (number, global) is)
global_there from (first ∷ others) name number global is = by (bytes_eq first.name name) is (λ e. global_there (suc from) others name number global e)
  where
    by : (b : Bool) → (if b then Some (from, first) else named_global (suc from) others name) ≡ Some (number, global) → (named_global (suc from) others name ≡ Some (number, global) → IsNumbered (suc from) others number global)
        → IsNumbered from (first ∷ others) number global
    by true e rest =
        let same = same_Some (from, first) (number, global) e in
        let at : from ≡ number = ap (λ (p : ℕ × GlobalDef). p.0) same in
        record { place = 0; is = omega (arith, at); there = ap (λ (p : ℕ × GlobalDef). Some p.1) same }
    by false e rest = let later = rest e in let at = later.is in record { place = suc later.place; is = omega (arith, at); there = later.there }

literal_there : (from : ℕ) (literals : List LiteralDef) (place : Pos) (number : ℕ) (literal : LiteralDef) → placed_literal from literals place ≡ Some (number, literal) → IsNumbered from literals number literal
literal_there from [] place number literal is = absurd (none-some (number, literal) is)
literal_there from (first ∷ others) place number literal is = by (is_same_place first.place place) is (λ e. literal_there (suc from) others place number literal e)
  where
    by : (b : Bool) → (if b then Some (from, first) else placed_literal (suc from) others place) ≡ Some (number, literal) → (placed_literal (suc from) others place ≡ Some (number, literal) → IsNumbered (suc from) others number literal)
        → IsNumbered from (first ∷ others) number literal
    by true e rest =
        let same = same_Some (from, first) (number, literal) e in
        let at : from ≡ number = ap (λ (p : ℕ × LiteralDef). p.0) same in
        record { place = 0; is = omega (arith, at); there = ap (λ (p : ℕ × LiteralDef). Some p.1) same }
    by false e rest = let later = rest e in let at = later.is in record { place = suc later.place; is = omega (arith, at); there = later.there }

placed_at : {A : Type 0} (xs : List A) (number : ℕ) (x : A) → IsNumbered 0 xs number x → slice_get xs number ≡ Some x
placed_at xs number x found = let at = found.is in let same : number ≡ found.place = omega (arith, at) in ap (slice_get xs) same ∙ found.there

-- ---- locals in scope

module _ (tac : Tac) (owner : Owner) (function : O.Function) where
  -- a local lives in a register or an object of the function
  abbrev pub HomeStands : Home → Type 0
  HomeStands home = by home.is_object
    where
      by : Bool → Type 0
      by true = own_type function.objects home.local ≡ whole home.c_type
      by false = IsOwn tac owner function (R.Local home.local)

  abbrev pub ScopeStands : Scope → Type 0
  ScopeStands [] = Unit {0}
  ScopeStands (home ∷ scope) = HomeStands home × ScopeStands scope

  home_stands : (scope : Scope) (number : ℕ) (home : Home) → home_of scope number ≡ Some home → ScopeStands scope → HomeStands home
  home_stands [] number home is stands = absurd (none-some home is)
  home_stands (newest ∷ others) number home is stands = by (length others == number) is (λ e. home_stands others number home e stands.1)
    where
      by : (b : Bool) → (if b then Some newest else home_of others number) ≡ Some home → (home_of others number ≡ Some home → HomeStands home) → HomeStands home
      by true e rest = subst HomeStands (same_Some newest home e) stands.0
      by false e rest = rest e

  object_own : (home : Home) → HomeStands home → home.is_object ≡ true → own_type function.objects home.local ≡ whole home.c_type
  object_own home stands is = by home.is_object stands is
    where
      by : (b : Bool) → HomeStands (record home { is_object = b }) → b ≡ true → own_type function.objects home.local ≡ whole home.c_type
      by true stands is = stands
      by false stands is = absurd (true≢false (sym is))

  register_own : (found : Option Home) (home : Home) → ((one : Home) → found ≡ Some one → HomeStands one) → in_register found ≡ Some home → IsOwn tac owner function (R.Local home.local)
  register_own None home stands is = absurd (none-some home is)
  register_own (Some one) home stands is = by one.is_object (stands one refl) is
    where
      by : (b : Bool) → HomeStands (record one { is_object = b }) → (if b then None else Some one) ≡ Some home → IsOwn tac owner function (R.Local home.local)
      by true own e = absurd (none-some home e)
      by false own e = subst (λ (h : Home). IsOwn tac owner function (R.Local h.local)) (same_Some one home e) own

  mutual
    home_own : (scope : Scope) → ScopeStands scope → (object : Object) (home : Home) → register_home scope object ≡ Some home → IsOwn tac owner function (R.Local home.local)
    home_own scope stands (T.Local number) home is = register_own (home_of scope number) home (λ one e. home_stands scope number one e stands) is
    home_own scope stands (T.GroupedObject place inner) home is = home_own scope stands inner home is
    home_own scope stands (T.Pointed place pointer) home is = behind_own scope stands pointer home is
    home_own scope stands (T.Global name) home is = absurd (none-some home is)
    home_own scope stands (T.Literal place bytes) home is = absurd (none-some home is)
    home_own scope stands (T.Element place pointer number) home is = absurd (none-some home is)
    home_own scope stands (T.ElementOf place number pointer) home is = absurd (none-some home is)
    home_own scope stands (T.MemberOf place object number) home is = absurd (none-some home is)
    home_own scope stands (T.PointedMember place pointer number) home is = absurd (none-some home is)

    behind_own : (scope : Scope) → ScopeStands scope → (v : Value) (home : Home) → home_behind scope v ≡ Some home → IsOwn tac owner function (R.Local home.local)
    behind_own scope stands (T.Grouped inner) home is = behind_own scope stands inner home is
    behind_own scope stands (T.AddressOf place object) home is = home_own scope stands object home is
    behind_own scope stands v home is = absurd (none-some home is)

-- ---- expressions

module _ (program : Program) (tac : Tac) (owner : Owner) (function : O.Function) (its : IsOf program tac owner function) (scope : Scope) where
  abbrev About : Type 0
  About = ScopeStands tac owner function scope

  abbrev points : List O.Op
  points = function.points

  abbrev allowed : CType → Bool
  allowed = is_storable program.structs

  abbrev value_code : Mode → Value → PartCode
  value_code mode v = ValueCode program points scope mode v

  abbrev object_code : Bool → Object → PartCode
  object_code followed object = ObjectCode program points scope false followed object

  abbrev Brings : Spot → Spot → Lowered → Type 0
  Brings from to lowered = Comes tac owner function About from to lowered

  abbrev Passes : Spot → Spot → Type 0
  Passes from to = Spans tac owner function About from to

  abbrev Typed : Value → Type 0
  Typed v = (t : CType) × (type_of (context_of program scope) v ≡ Some t)

  abbrev TypedObject : Object → Type 0
  TypedObject o = (t : CType) × (type_of_object (context_of program scope) o ≡ Some t)

  abbrev TypedDesignator : Designator → Type 0
  TypedDesignator f = (t : CType) × (type_of_designator (context_of program scope) f ≡ Some t)

  abbrev TypedValues : Values → Type 0
  TypedValues vs = (ts : CTypes) × (types_of (context_of program scope) vs ≡ Some ts)

  -- ---- code behind code

  on : {from mid to : Spot} → Passes from mid → Passes mid to → Passes from to
  on one other = leads_then tac owner function About one other

  gave : {from mid to : Spot} {lowered : Lowered} → Passes from mid → Brings mid to lowered → Brings from to lowered
  gave one other = then_comes tac owner function About one other

  -- the register of the object, if it is a local that lives there
  home_there : (object : Object) → About → HomeOwn program tac owner function About its (register_home scope object)
  home_there object about = by (register_home scope object) (λ home e. home_own tac owner function scope about object home e)
    where
      by : (found : Option Home) → ((home : Home) → found ≡ Some home → IsOwn tac owner function (R.Local home.local)) → HomeOwn program tac owner function About its found
      by None own = tt
      by (Some home) own = own home refl

  one_code : Part program tac owner function About its (OneCode points)
  one_code from to lowered code = with_integer tac owner function About (stays tac owner function About from to code.0) code.1

  -- what a pointer to an object tells of a path
  behind_pointer : (is_kept : Bool) (found : Lowered) → Is program tac owner function About its found → Is program tac owner function About its (pointed_by is_kept found)
  behind_pointer true (AsPointer register target) is = is
  behind_pointer true (AsInteger own tree) is = is
  behind_pointer true (AsObject path own) is = is
  behind_pointer true AsNothing is = is
  behind_pointer false (AsPointer register target) is = record { base = is; own = target; is = refl; steps = refl }
  behind_pointer false (AsInteger own tree) is = is
  behind_pointer false (AsObject path own) is = is
  behind_pointer false AsNothing is = is

  member_found : (path : Path) (own c_type : CType) (number : ℕ) → PathFound tac owner function path own → type_of_member program.structs own number ≡ Some c_type → PathFound tac owner function (then_step path (Member number)) c_type
  member_found path own c_type number it typed =
      then_found tac owner function path (Member number) own c_type it (c_type, subst (λ structs. type_of_member structs own number ≡ Some c_type) (sym its.structs) typed, refl)

  call_found : (used : Bool) (c_type : CType) (site : ℕ) → IsOwn tac owner function (R.Call site) → Is program tac owner function About its (call_gives used c_type site)
  call_found true (Function (Integer int_type) parameters) site own = tt
  call_found true (Function (Pointer target) parameters) site own = own
  call_found true (Function Void parameters) site own = tt
  call_found true (Function (Array element count) parameters) site own = tt
  call_found true (Function (Struct tag) parameters) site own = tt
  call_found true (Function (Function result others) parameters) site own = tt
  call_found true Void site own = tt
  call_found true (Integer int_type) site own = tt
  call_found true (Pointer target) site own = tt
  call_found true (Array element count) site own = tt
  call_found true (Struct tag) site own = tt
  call_found false c_type site own = tt

  -- what is converted to has a slot, where its size is known
  repointed_slots : (target : CType) → allowed target ≡ true → is_complete tac.structs target ≡ true → 0 < slots_of tac.structs target
  repointed_slots target fill complete =
      filling_slots tac.structs its.filled target (subst (λ structs. fills structs target ≡ true) (sym its.structs) (and_parts (is_small program.structs target) (fills program.structs target) fill).1) complete

  -- an object of a type comes to one of that type
  object_is : (object : Object) (followed : Bool) (t : CType) → type_of_object (context_of program scope) object ≡ Some t → (from to : Spot) (path : Path) (own : CType)
      → object_code followed object from to (AsObject path own) → t ≡ own
  object_is object followed t typed from to path own code = object_form program points scope object false followed t from to (AsObject path own) typed code

  local_found : (number : ℕ) (home : Home) → home_of scope number ≡ Some home → home.is_object ≡ true → About → PathFound tac owner function (path_from (AtLocal home.local)) home.c_type
  local_found number home is object about =
      let own = object_own tac owner function home (home_stands tac owner function scope number home is about) object in
      record { base = (record { offset = 0; c_type = home.c_type }, own); own = home.c_type; is = own; steps = refl }

  pub global_found : (name : List ℕ) (number : ℕ) (global : GlobalDef) → named_global 0 program.globals name ≡ Some (number, global) → PathFound tac owner function (path_from (AtGlobal number)) global.c_type
  global_found name number global is =
      let there = subst (λ globals. slice_get globals number ≡ Some global) (sym its.globals) (placed_at program.globals number global (global_there 0 program.globals name number global is)) in
      record { base = get_below tac.globals number global there; own = global.c_type; is = (global, there, refl); steps = refl }

  pub literal_found : (place : Pos) (bytes : List ℕ) (number : ℕ) (literal : LiteralDef) → placed_literal 0 program.literals place ≡ Some (number, literal)
      → PathFound tac owner function (path_from (AtLiteral number)) (literal_type bytes)
  literal_found place bytes number literal is =
      let there = subst (λ literals. slice_get literals number ≡ Some literal) (sym its.literals) (placed_at program.literals number literal (literal_there 0 program.literals place number literal is)) in
      record { base = get_below tac.literals number literal there; own = literal_type bytes; is = (literal, there, bytes, refl); steps = refl }

  -- ---- what is typed

  split : (a b : Bool) → (a && b) ≡ true → (a ≡ true) × (b ≡ true)
  split a b h = and_parts a b h

  of_two : {A : Type 0} (left right : Value) (rule : CType → CType → Option A) (t : A) → given_two (type_of (context_of program scope) left) (type_of (context_of program scope) right) rule ≡ Some t → Typed left × Typed right
  of_two left right rule t typed =
      let parts = two_parts (type_of (context_of program scope) left) (type_of (context_of program scope) right) rule t typed in
      ((parts.a, parts.left), (parts.b, parts.right))

  of_one : {A : Type 0} (v : Value) (rule : CType → Option A) (t : A) → given (type_of (context_of program scope) v) rule ≡ Some t → Typed v
  of_one v rule t typed = let parts = given_parts (type_of (context_of program scope) v) rule t typed in (parts.0, parts.1)

  of_object : {A : Type 0} (o : Object) (rule : CType → Option A) (t : A) → given (type_of_object (context_of program scope) o) rule ≡ Some t → TypedObject o
  of_object o rule t typed = let parts = given_parts (type_of_object (context_of program scope) o) rule t typed in (parts.0, parts.1)

  of_designator : {A : Type 0} (f : Designator) (rule : CType → Option A) (t : A) → given (type_of_designator (context_of program scope) f) rule ≡ Some t → TypedDesignator f
  of_designator f rule t typed = let parts = given_parts (type_of_designator (context_of program scope) f) rule t typed in (parts.0, parts.1)

  of_both : {A : Type 0} (o : Object) (v : Value) (rule : CType → CType → Option A) (t : A) → given_two (type_of_object (context_of program scope) o) (type_of (context_of program scope) v) rule ≡ Some t → TypedObject o × Typed v
  of_both o v rule t typed =
      let parts = two_parts (type_of_object (context_of program scope) o) (type_of (context_of program scope) v) rule t typed in
      ((parts.a, parts.left), (parts.b, parts.right))

  of_argument : (v : Value) (others : Values) → TypedValues (T.MoreValues v others) → Typed v
  of_argument v others typed = let parts = two_parts (type_of (context_of program scope) v) (types_of (context_of program scope) others) _ typed.0 typed.1 in (parts.a, parts.left)

  mutual
    pub value_comes : (v : Value) (mode : Mode) → Typed v → makes allowed v ≡ true → Part program tac owner function About its (value_code mode v)
    value_comes (T.Constant n z) mode typed make from to lowered code = with_integer tac owner function About (stays tac owner function About from to code.0) code.1
    value_comes T.NullPointer mode typed make from to lowered code = gives_pointer tac owner function About from to lowered O.Null Void code (λ end about own. tt)
    value_comes (T.Grouped inner) mode typed make from to lowered code = value_comes inner mode typed make from to lowered code
    value_comes (T.Read place object) mode typed make from to lowered code =
        read program tac owner function About its (register_home scope object) (object_code false object) (home_there object)
        (object_comes object false false (of_object object _ typed.0 typed.1) make) from to lowered code
    value_comes (T.Decay place object) mode typed make from to lowered code =
        let first = object_comes object false (is_followed mode) (of_object object _ typed.0 typed.1) make from code.0 (AsObject code.1 (Array code.2 code.3)) code.4 in
        gave first.spans (decays program tac owner function About its mode code.1 code.2 code.3 code.0 to lowered code.5 first.found)
    value_comes (T.FunctionValue called) mode typed make from to lowered code =
        let first = designator_comes called (of_designator called _ typed.0 typed.1) make from code.0 code.1 code.2 code.3 in
        gave first.0 (addresses program tac owner function About its code.1 code.2 code.0 to lowered code.4 first.1)
    value_comes (T.Converted n operand) mode typed make from to lowered code =
        with_integer tac owner function About (value_comes operand Kept (of_one operand _ typed.0 typed.1) make from to (AsInteger code.0 code.1) code.2).spans code.3
    value_comes (T.Repointed place target operand) mode typed make from to lowered code =
        let parts = split (allowed target) (makes allowed operand) make in
        let first = value_comes operand Kept (of_one operand _ typed.0 typed.1) parts.1 from code.0 (AsPointer code.1 code.2) code.3 in
        gave first.spans
        (gives_pointer tac owner function About code.0 to lowered (λ register. O.Repoint register target code.1) target code.4
        (λ end about own. ((λ null. (own, first.found end about)), repointed_slots target parts.0)))
    value_comes (T.MadeNull target operand) mode typed make from to lowered code =
        gave (value_comes operand Dropped (of_one operand _ typed.0 typed.1) make from code.0 code.1 code.2).spans
        (gives_pointer tac owner function About code.0 to lowered O.Null target code.3 (λ end about own. tt))
    value_comes (T.Tested place operand) mode typed make from to lowered code =
        gave (value_comes operand Kept (of_one operand _ typed.0 typed.1) make from code.0 (AsPointer code.1 code.2) code.3).spans
        (gives_integer tac owner function About code.0 to lowered (λ register. O.Test register code.1) I.Int code.4 (λ end about. tt))
    value_comes (T.Plus operand) mode typed make from to lowered code = value_comes operand Kept (of_one operand _ typed.0 typed.1) make from to lowered code
    value_comes (T.Minus place n operand) mode typed make from to lowered code =
        with_integer tac owner function About (value_comes operand Kept (of_one operand _ typed.0 typed.1) make from to (AsInteger code.0 code.1) code.2).spans code.3
    value_comes (T.Complement n operand) mode typed make from to lowered code =
        with_integer tac owner function About (value_comes operand Kept (of_one operand _ typed.0 typed.1) make from to (AsInteger code.0 code.1) code.2).spans code.3
    value_comes (T.Not operand) mode typed make from to lowered code =
        with_integer tac owner function About (value_comes operand Kept (of_one operand _ typed.0 typed.1) make from to (AsInteger code.0 code.1) code.2).spans code.3
    value_comes (T.Arithmetic op place n left right) mode typed make from to lowered code =
        let types = of_two left right _ typed.0 typed.1 in
        let made = split (makes allowed left) (makes allowed right) make in
        with_integer tac owner function About
        (on (value_comes left Kept types.0 made.0 from code.0 (AsInteger code.5 code.2) code.7).spans
        (on (keeps_tree program tac owner function About its (not (is_pure scope right)) code.2 code.3 code.0 code.1 code.8)
        (value_comes right Kept types.1 made.1 code.1 to (AsInteger code.6 code.4) code.9).spans)) code.10
    value_comes (T.Compare relation left right) mode typed make from to lowered code =
        let types = of_two left right _ typed.0 typed.1 in
        let made = split (makes allowed left) (makes allowed right) make in
        with_integer tac owner function About
        (on (value_comes left Kept types.0 made.0 from code.0 (AsInteger code.5 code.2) code.7).spans
        (on (keeps_tree program tac owner function About its (not (is_pure scope right)) code.2 code.3 code.0 code.1 code.8)
        (value_comes right Kept types.1 made.1 code.1 to (AsInteger code.6 code.4) code.9).spans)) code.10
    value_comes (T.ComparePointers relation place left right) mode typed make from to lowered code =
        let types = of_two left right _ typed.0 typed.1 in
        let made = split (makes allowed left) (makes allowed right) make in
        gave (on (value_comes left Kept types.0 made.0 from code.0 (AsPointer code.2 code.4) code.6).spans (value_comes right Kept types.1 made.1 code.0 code.1 (AsPointer code.3 code.5) code.7).spans)
        (gives_integer tac owner function About code.1 to lowered (λ register. O.ComparePointers register relation code.2 code.3) I.Int code.8 (λ end about. tt))
    value_comes (T.PointerPlus place base number) mode typed make from to lowered code =
        let types = of_two base number _ typed.0 typed.1 in
        let made = split (makes allowed base) (makes allowed number) make in
        moved_code program tac owner function About its false (value_code Kept base) (value_code Kept number) (value_comes base Kept types.0 made.0) (value_comes number Kept types.1 made.1) from to lowered code
    value_comes (T.NumberPlus place number base) mode typed make from to lowered code =
        let types = of_two base number _ typed.0 typed.1 in
        let made = split (makes allowed number) (makes allowed base) make in
        let last = value_comes base Kept types.0 made.1 code.1 code.2 (AsPointer code.6 code.7) code.10 in
        gave
        (on (value_comes number Kept types.1 made.0 from code.0 (AsInteger code.5 code.3) code.8).spans
        (on (keeps_tree program tac owner function About its true code.3 code.4 code.0 code.1 code.9) last.spans))
        (moves_pointer program tac owner function About its code.6 code.7 false code.4 code.2 to lowered code.11 last.found)
    value_comes (T.PointerMinus place base number) mode typed make from to lowered code =
        let types = of_two base number _ typed.0 typed.1 in
        let made = split (makes allowed base) (makes allowed number) make in
        moved_code program tac owner function About its true (value_code Kept base) (value_code Kept number) (value_comes base Kept types.0 made.0) (value_comes number Kept types.1 made.1) from to lowered code
    value_comes (T.PointerDifference place left right) mode typed make from to lowered code =
        let types = of_two left right _ typed.0 typed.1 in
        let made = split (makes allowed left) (makes allowed right) make in
        gave (on (value_comes left Kept types.0 made.0 from code.0 (AsPointer code.2 code.4) code.6).spans (value_comes right Kept types.1 made.1 code.0 code.1 (AsPointer code.3 code.5) code.7).spans)
        (gives_integer tac owner function About code.1 to lowered (λ register. O.Difference register code.4 code.2 code.3) I.Long code.8 (λ end about. tt))
    value_comes (T.And left right) mode typed make from to lowered code =
        let types = of_two left right _ typed.0 typed.1 in
        let made = split (makes allowed left) (makes allowed right) make in
        logical program tac owner function About its true (value_code Kept left) (value_code Kept right) (value_comes left Kept types.0 made.0) (value_comes right Kept types.1 made.1) from to lowered code
    value_comes (T.Or left right) mode typed make from to lowered code =
        let types = of_two left right _ typed.0 typed.1 in
        let made = split (makes allowed left) (makes allowed right) make in
        logical program tac owner function About its false (value_code Kept left) (value_code Kept right) (value_comes left Kept types.0 made.0) (value_comes right Kept types.1 made.1) from to lowered code
    value_comes (T.Conditional condition taken otherwise) mode typed make from to lowered code =
        let tested = given_parts (type_of (context_of program scope) condition) _ typed.0 typed.1 in
        let types = of_two taken otherwise _ typed.0 tested.2 in
        let front = split (makes allowed condition && makes allowed taken) (makes allowed otherwise) make in
        let made = split (makes allowed condition) (makes allowed taken) front.0 in
        let one = value_comes taken Kept types.0 made.1 (behind code.0) code.1 code.6 code.10 in
        let joined = joins program tac owner function About its code.6 code.1 code.2 lowered code.11 one.found in
        let other = value_comes otherwise Kept types.1 front.1 (behind code.2) code.3 code.7 code.13 in
        let jump = point tac owner function About code.2 (O.Jump to.at) code.12 (λ end about. tt) in
        let last = joins_with program tac owner function About its lowered code.7 code.3 to code.14 (λ end about. joined.found (jump.fits (other.spans.fits end)) about) other.found in
        let back = on jump (on other.spans last) in
        record {
          spans = on (value_comes condition Kept (tested.0, tested.1) made.0 from code.0 (AsInteger code.5 code.4) code.8).spans
              (on (point tac owner function About code.0 (O.Branch code.5 code.4 (suc code.0.at) (suc code.2.at)) code.9 (λ end about. tt)) (on one.spans (on joined.spans back)));
          found = λ end about. joined.found (back.fits end) about;
        }
    value_comes (T.AddressOf place object) mode typed make from to lowered code =
        let first = object_comes object (is_address mode) (is_followed mode) (of_object object _ typed.0 typed.1) make from code.0 code.1 code.2 in
        gave first.spans (takes_address program tac owner function About its mode code.1 code.0 to lowered code.3 first.found)
    value_comes (T.AddressOfFunction called) mode typed make from to lowered code =
        let first = designator_comes called (of_designator called _ typed.0 typed.1) make from code.0 code.1 code.2 code.3 in
        gave first.0 (addresses program tac owner function About its code.1 code.2 code.0 to lowered code.4 first.1)
    value_comes (T.Cast operand) mode typed make from to lowered code = value_comes operand (cast_mode mode) (of_one operand _ typed.0 typed.1) make from to lowered code
    value_comes (T.CastVoid operand) mode typed make from to lowered code =
        with_nothing tac owner function About (value_comes operand Dropped (of_one operand _ typed.0 typed.1) make from to code.0 code.1).spans code.2
    value_comes (T.Assign place object operand) mode typed make from to lowered code =
        let parts = first_parts (type_of_object (context_of program scope) object) (type_of (context_of program scope) operand) (λ a b. is_scalar a && same_type a b) typed.0 typed.1 in
        let made = split (object_makes allowed object) (makes allowed operand) make in
        let follows = not (is_pure scope operand) in
        assign program tac owner function About its (is_used mode) (register_home scope object) (object_code follows object) (value_code Kept operand) (home_there object)
        (λ first last path own found. subst (λ t. is_scalar t ≡ true) (object_is object follows typed.0 parts.left first last path own found) (and_parts (is_scalar typed.0) _ parts.holds).0)
        (object_comes object false follows (typed.0, parts.left) made.0) (value_comes operand Kept (parts.b, parts.right) made.1) from to lowered code
    value_comes (T.AssignArithmetic op place object_type int_type object operand) mode typed make from to lowered code =
        let parts = first_parts (type_of_object (context_of program scope) object) (type_of (context_of program scope) operand) (λ a b. same_type a (Integer object_type) && is_right op (Integer int_type) b) typed.0 typed.1 in
        let made = split (object_makes allowed object) (makes allowed operand) make in
        let follows = not (is_pure scope operand) in
        compound program tac owner function About its (is_used mode) (register_home scope object) (object_code follows object) (value_code Kept operand) object_type (compound_tree op object_type int_type)
        (λ first last path own found.
        sym (object_is object follows typed.0 parts.left first last path own found) ∙ same_type-true typed.0 (Integer object_type) (and_parts (same_type typed.0 (Integer object_type)) _ parts.holds).0)
        (object_comes object false follows (typed.0, parts.left) made.0) (value_comes operand Kept (parts.b, parts.right) made.1) from to lowered code
    value_comes (T.AssignMoved is_minus place object number) mode typed make from to lowered code =
        let types = of_both object number _ typed.0 typed.1 in
        let made = split (object_makes allowed object) (makes allowed number) make in
        let follows = not (is_pure scope number) in
        let steps = pointer program tac owner function About its (register_home scope object) is_minus (object_code follows object) (value_code Kept number) (home_there object)
        (object_comes object false follows types.0 made.0) (value_comes number Kept types.1 made.1) from to code.0 lowered code.1 in
        record { spans = steps.spans; found = steps.now }
    value_comes (T.StepInteger stepping place n object) mode typed make from to lowered code =
        let parts = same_parts (type_of_object (context_of program scope) object) (λ u. same_type u (Integer n)) typed.0 typed.1 in
        stepping_code program tac owner function About its (is_used mode) stepping n (register_home scope object) (object_code false object)
        (λ first last path own found. sym (object_is object false typed.0 parts.0 first last path own found) ∙ same_type-true typed.0 (Integer n) parts.1)
        (object_comes object false false (typed.0, parts.0) make) from to lowered code
    value_comes (T.StepPointer stepping place object) mode typed make from to lowered code =
        let steps = pointer program tac owner function About its (register_home scope object) (not (is_up stepping)) (object_code false object) (OneCode points) (home_there object)
        (object_comes object false false (of_object object _ typed.0 typed.1) make) one_code from to code.0 code.1 code.2 in
        stepped_value program tac owner function About its (gives_old stepping) steps code.3
    value_comes (T.Call used place called c_type arguments) mode typed make from to lowered code =
        let types = two_parts (type_of_designator (context_of program scope) called) (types_of (context_of program scope) arguments) _ typed.0 typed.1 in
        let made = split (designator_makes allowed called) (all_make allowed arguments) make in
        let first = designator_comes called (types.a, types.left) made.0 from code.0 code.2 code.3 code.5 in
        let given = arguments_come arguments (types.b, types.right) made.1 (with_call code.0) code.1 code.4 code.6 in
        let last = emits tac owner function About code.1 to (O.Call code.0.counts.calls code.2 code.4) code.7 (λ end about. (own_call tac owner function About code.0 (given.0.fits end), given.1 end)) in
        with_found tac owner function About (on first.0 (on (call_spans tac owner function About code.0) (on given.0 last))) code.8
        (λ end about. call_found used c_type code.0.counts.calls (own_call tac owner function About code.0 (given.0.fits (last.fits end))))
    value_comes (T.LibraryCall called groups place arguments) mode typed make from to lowered code =
        let parts = given_parts (types_of (context_of program scope) arguments) (library_result called) typed.0 typed.1 in
        library_comes called arguments (parts.0, parts.1) make from to lowered code

    library_comes : (called : LibraryFunction) (arguments : Values) → TypedValues arguments → all_make allowed arguments ≡ true → Part program tac owner function About its (LibraryCode program points scope called arguments)
    library_comes L.Malloc (T.MoreValues size T.NoValues) typed make from to lowered code =
        let given = value_comes size Kept (of_argument size T.NoValues typed) (and_parts (makes allowed size) true make).0 (with_call from) code.0 (AsInteger code.1 code.2) code.3 in
        let last = emits tac owner function About code.0 to (O.Allocate from.counts.calls code.2) code.4 (λ end about. own_call tac owner function About from (given.spans.fits end)) in
        with_found tac owner function About (on (call_spans tac owner function About from) (on given.spans last)) code.5 (λ end about. own_call tac owner function About from (given.spans.fits (last.fits end)))
    library_comes L.Free (T.MoreValues base T.NoValues) typed make from to lowered code =
        let given = value_comes base Kept (of_argument base T.NoValues typed) (and_parts (makes allowed base) true make).0 (with_call from) code.0 (AsPointer code.2 code.1) code.3 in
        with_nothing tac owner function About
        (on (call_spans tac owner function About from) (on given.spans (emits tac owner function About code.0 to (O.Free from.counts.calls code.2) code.4 (λ end about. tt)))) code.5
    library_comes L.GetChar T.NoValues typed make from to lowered code =
        with_integer tac owner function About
        (on (call_spans tac owner function About from) (emits tac owner function About (with_call from) to (O.GetChar from.counts.calls) code.0 (λ end about. tt))) code.1
    library_comes L.PutChar (T.MoreValues v T.NoValues) typed make from to lowered code =
        let given = value_comes v Kept (of_argument v T.NoValues typed) (and_parts (makes allowed v) true make).0 (with_call from) code.0 (AsInteger code.1 code.2) code.3 in
        with_integer tac owner function About
        (on (call_spans tac owner function About from) (on given.spans (emits tac owner function About code.0 to (O.PutChar from.counts.calls code.2) code.4 (λ end about. tt)))) code.5
    library_comes L.Exit (T.MoreValues status T.NoValues) typed make from to lowered code =
        let given = value_comes status Kept (of_argument status T.NoValues typed) (and_parts (makes allowed status) true make).0 (with_call from) code.0 (AsInteger code.1 code.2) code.3 in
        with_nothing tac owner function About
        (on (call_spans tac owner function About from) (on given.spans (emits tac owner function About code.0 to (O.Exit code.2) code.4 (λ end about. tt)))) code.5
    library_comes called arguments typed make from to lowered code = absurd code

    arguments_come : (arguments : Values) → TypedValues arguments → all_make allowed arguments ≡ true → (from to : Spot) (registers : List Register) → ArgumentsCode program points scope arguments from to registers
        → Passes from to × (Fits tac owner function to → AllByRecursion (IsOwn tac owner function) registers)
    arguments_come T.NoValues typed make from to registers code = (stays tac owner function About from to code.0, λ end. subst (AllByRecursion (IsOwn tac owner function)) (sym code.1) tt)
    arguments_come (T.MoreValues first others) typed make from to registers code =
        let parts = two_parts (type_of (context_of program scope) first) (types_of (context_of program scope) others) _ typed.0 typed.1 in
        let made = split (makes allowed first) (all_make allowed others) make in
        let one = value_comes first Kept (parts.a, parts.left) made.0 (with_argument from) code.0 code.2 code.4 in
        let own : Where program tac owner function About its code.0 (IsOwn tac owner function (argument from)) = λ end about. own_argument tac owner function About from (one.spans.fits end) in
        let two = writes program tac owner function About its (argument from) code.2 code.0 code.1 code.5 own one.found in
        let rest = arguments_come others (parts.b, parts.right) made.1 code.1 to code.3 code.6 in (
          on (argument_spans tac owner function About from) (on one.spans (on two rest.0)),
          λ end. subst (AllByRecursion (IsOwn tac owner function)) (sym code.7) (own_argument tac owner function About from (one.spans.fits (two.fits (rest.0.fits end))), rest.1 end),
        )

    designator_comes : (called : Designator) → TypedDesignator called → designator_makes allowed called ≡ true → (from to : Spot) (callee : Callee) (own : CType) → DesignatorCode program points scope called from to callee own
        → Passes from to × Where program tac owner function About its to (CalleeOwn program tac owner function About its callee)
    designator_comes (T.Function name) typed make from to callee own code =
        (stays tac owner function About from to code.2, λ end about. subst (CalleeOwn program tac owner function About its) (sym code.3) tt)
    designator_comes (T.GroupedFunction inner) typed make from to callee own code = designator_comes inner typed make from to callee own code
    designator_comes (T.PointedFunction place base) typed make from to callee own code =
        let one = value_comes base Kept (of_one base _ typed.0 typed.1) make from to (AsPointer code.0 own) code.1 in
        (one.spans, λ end about. subst (CalleeOwn program tac owner function About its) (sym code.2) (one.found end about))
    designator_comes (T.ThroughPointer place base) typed make from to callee own code =
        let plain = unless_parts (is_conversion base) (given (type_of (context_of program scope) base) pointed_function) typed.0 typed.1 in
        let one = value_comes base Kept (of_one base _ typed.0 plain.1) make from to (AsPointer code.0 own) code.1 in
        (one.spans, λ end about. subst (CalleeOwn program tac owner function About its) (sym code.2) (one.found end about))

    pub object_comes : (object : Object) (is_kept followed : Bool) → TypedObject object → object_makes allowed object ≡ true → Part program tac owner function About its (ObjectCode program points scope is_kept followed object)
    object_comes (T.Local number) is_kept followed typed make from to lowered code =
        with_object tac owner function About (path_from (AtLocal code.0.local)) code.0.c_type (stays tac owner function About from to code.3) code.4 (λ end about. local_found number code.0 code.1 code.2 about)
    object_comes (T.Global name) is_kept followed typed make from to lowered code =
        with_object tac owner function About (path_from (AtGlobal code.0)) code.1.c_type (stays tac owner function About from to code.3) code.4 (λ end about. global_found name code.0 code.1 code.2)
    object_comes (T.Literal place bytes) is_kept followed typed make from to lowered code =
        with_object tac owner function About (path_from (AtLiteral code.0)) (literal_type bytes) (stays tac owner function About from to code.3) code.4 (λ end about. literal_found place bytes code.0 code.1 code.2)
    object_comes (T.GroupedObject place inner) is_kept followed typed make from to lowered code = object_comes inner is_kept followed typed make from to lowered code
    object_comes (T.Pointed place base) is_kept followed typed make from to lowered code =
        let one = value_comes base (pointed_mode is_kept followed) (of_one base _ typed.0 typed.1) make from to code.0 code.1 in
        with_found tac owner function About one.spans code.2 (λ end about. behind_pointer is_kept code.0 (one.found end about))
    object_comes (T.Element place base number) is_kept followed typed make from to lowered code =
        let types = of_two base number _ typed.0 typed.1 in
        let made = split (makes allowed base) (makes allowed number) make in
        let one = value_comes base (Row (followed || not (is_pure scope number))) types.0 made.0 from code.0 code.2 code.5 in
        let two = value_comes number Kept types.1 made.1 code.0 code.1 (AsInteger code.3 code.4) code.6 in
        gave (on one.spans two.spans) (indexes program tac owner function About its is_kept followed code.2 code.4 code.1 to lowered code.7 (λ end about. one.found (two.spans.fits end) about))
    object_comes (T.ElementOf place number base) is_kept followed typed make from to lowered code =
        let types = of_two base number _ typed.0 typed.1 in
        let made = split (makes allowed number) (makes allowed base) make in
        let one = value_comes number Kept types.1 made.0 from code.0 (AsInteger code.3 code.4) code.7 in
        let two = keeps_tree program tac owner function About its true code.4 code.5 code.0 code.1 code.8 in
        let three = value_comes base (Row followed) types.0 made.1 code.1 code.2 code.6 code.9 in
        gave (on one.spans (on two three.spans)) (indexes program tac owner function About its is_kept false code.6 code.5 code.2 to lowered code.10 three.found)
    object_comes (T.MemberOf place object number) is_kept followed typed make from to lowered code =
        let one = object_comes object false followed (of_object object _ typed.0 typed.1) make from to (AsObject code.0 code.1) code.3 in
        with_object tac owner function About (then_step code.0 (Member number)) code.2 one.spans code.5 (λ end about. member_found code.0 code.1 code.2 number (one.found end about) code.4)
    object_comes (T.PointedMember place base number) is_kept followed typed make from to lowered code =
        let one = value_comes base (Behind followed) (of_one base _ typed.0 typed.1) make from to code.0 code.4 in
        with_object tac owner function About (then_step code.1 (Member number)) code.3 one.spans code.7
        (λ end about. member_found code.1 code.2 code.3 number (subst (Is program tac owner function About its) code.5 (behind_pointer false code.0 (one.found end about))) code.6)
