-- Constants, operands and derived types.
use Rattle.std.proofs.Common.{◌≡◌, ℕ, ℤ, zero, suc, ◌<◌, ◌≤◌, ◌==◌, Bool, true, false, not, List, [], ◌∷◌, length, drop, get_or, Option, Some, None, Box, Vec, Global, refl, sym, ap, subst, ◌∙◌, arith}
use Rattle.std.proofs.Math.Seq.{drop-cons}
use Rattle.std.proofs.lemmas.Bool.{false≢true, eqb-true, eqb-false}
use Rattle.std.proofs.lemmas.List.{nil_from_length}
use Rattle.run_theory.specs.declared.place.Pos.{Pos}
use Rattle.c_num.specs.declared.IntType.{IntType}
use Rattle.c_num.specs.declared.IntType.TheVariants as I
use Rattle.c_syntax.specs.declared.expr.Parameter.{Parameter, Parameter'}
use Rattle.c_syntax.specs.declared.expr.TypeName as memory_type
use Rattle.c_syntax.specs.declared.expr.Direct.{Direct}
use Rattle.c_syntax.specs.declared.expr.Direct.TheVariants as D
use Rattle.c_syntax.specs.declared.expr.Suffix.TheVariants as S
use Rattle.c_syntax.proofs.SyntaxRows.{direct_tree-nested}
use Rattle.c_syntax.specs.declared.expr.Declarator.{Declarator}
use Rattle.c_syntax.specs.declared.expr.Suffix.{Suffix}
use Rattle.c_syntax.specs.Trees
use Rattle.c_syntax.specs.Trees.{DirectTree, SuffixesTree}
use Rattle.c_syntax.specs.Views.{parameters_of, direct_tree, suffixes_of, declarator_tree}
use Rattle.c_typed.specs.declared.c_type.CType as number
use Rattle.c_typed.specs.declared.c_type.Parameters as numbers
use Rattle.c_typed.specs.declared.part.Part.{Part}
use Rattle.c_typed.specs.declared.typed.Value as memory_value
use Rattle.c_typed.specs.declared.typed.Value.TheVariants as V
use Rattle.c_typed.specs.declared.typed.Object as memory_object
use Rattle.c_typed.specs.declared.typed.Object.TheVariants as O
use Rattle.c_typed.specs.Types.{CType, Void, Integer, Pointer, Array, MoreTypes}
use Rattle.c_typed.specs.Typed as typed
use Rattle.c_typed.specs.Values.{StaticLiteral}
use Rattle.c_typed.specs.Table.{Interned, Stands, type_in, types_in, integer_number}
use Rattle.c_typed.specs.Views.{value_in, object_in, ValueStands, ObjectStands}
use Rattle.c_typed.proofs.Grown.{stays, grows_trans, void_stands, integer_stands}
use Rattle.c_rules.specs.declared.constness.Constness.TheVariants.{NotConstant, Constant}
use Rattle.c_types_state.specs.declared.known.Known as memory_known
use Rattle.c_types_state.specs.declared.known.TypedExpr.TheVariants as E
use Rattle.c_typed.specs.declared.definition.Static.TheVariants as R
use Rattle.c_types_state.specs.declared.known.Address.TheVariants as A
use Rattle.c_rules.specs.Known.{Checked, Known, with_known, unknown, OfValue, OfObject, NullAddress, Element, integer_value, object_at, give}
use Rattle.c_rules.specs.Expressions.{integer_constant, is_void_alone, adds, direct_adds, pointers}
use Rattle.c_types_state.specs.NameTables.{State}
use Rattle.c_types_state.proofs.Findings.{finds-unknown}
use Rattle.c_types_state.specs.Finding.{Finds, IsExpr, IsType, IsTypes, IsOption, ExprStands, expr_in, AllStand, each_in}
use Rattle.c_types_state.specs.declared.operands.Operand as memory_operand
use Rattle.c_types_state.specs.Operands.{IsOperand, OperandStands, operand_in}
use Rattle.c_types_expressions.specs.Forms.{null_known}
use Rattle.c_types_expressions.specs.Passes.{TypesStand, list_in}

-- ---- operands

-- an operand is an expression
pub operand-known : {s t : State} {checked : Checked Known} {r : Option memory_operand.Operand} {r' : Option memory_known.Known} → Finds IsOperand checked s t r → ((table : Interned) → AllStand OperandStands table r → AllStand ExprStands table r') → ((table : Interned) → each_in expr_in table r' ≡ each_in operand_in table r) → Finds IsExpr checked s t r'
operand-known {t = t} {checked = checked} {r = r} {r' = r'} found stand same =
    record { grows = found.grows; scope = found.scope; least = found.least; known = by r r' checked.known found.known (stand t.table) (same t.table) }
  where
    by : (r : Option memory_operand.Operand) (r' : Option memory_known.Known) (k : Option Known) → IsOption (IsOperand t.table) r k → (AllStand OperandStands t.table r → AllStand ExprStands t.table r') → each_in expr_in t.table r' ≡ each_in operand_in t.table r → IsOption (IsExpr t.table) r' k
    by (Some x) (Some y) (Some k) h stand same = let e : operand_in t.table x ≡ k = h.1 in (stand h.0, cc)
    by (Some x) (Some y) None h stand same = absurd h
    by (Some x) None k h stand same = absurd (cc)
    by None (Some y) k h stand same = absurd (cc)
    by None None (Some k) h stand same = absurd h
    by None None None h stand same = tt

-- ---- constants

-- a number
pub constant-known : (table : Interned) {known : Known} (int_type : IntType) {n z : ℤ} {value : memory_value.Value} → known ≡ integer_value (Integer int_type) (Constant z) (value_in table value) → value ≡ V.Constant int_type z → z ≡ n
    → known ≡ integer_constant int_type n
constant-known table int_type {z = z} made is same = made ∙ ap (λ (v : memory_value.Value). integer_value (Integer int_type) (Constant z) (value_in table v)) is ∙ ap (integer_constant int_type) same

-- `NULL`
pub null-known : {s t : State} (void made : number.CType) (value : Box memory_value.Value Global) → value.value ≡ V.NullPointer → void.0 ≡ 0 → Finds IsType (give (Pointer (type_in s.table void))) s t (Some made)
    → Finds IsExpr (give null_known) s t (Some (record { c_type = made; typed = E.Value value; constness = NotConstant; is_null = true; address = A.Null }))
null-known {s = s} {t = t} void made value is e found =
    let its : type_in t.table made ≡ Pointer Void = found.known.1 ∙ ap Pointer (void_stands s.table void e).1 in
    let none = ap (λ (v : memory_value.Value). value_in t.table v) is in
    record {
      grows = found.grows;
      scope = found.scope;
      least = found.least;
      known = ((found.known.0, subst (λ (v : memory_value.Value). ValueStands t.table v) (sym is) tt, tt), λ i. record { c_type = its i; typed = OfValue (none i); constness = NotConstant; is_null = true; address = NullAddress });
    }

-- a literal
pub literal-known : {s t : State} (char made : number.CType) (n count : ℕ) (place : Pos) (bytes copied : List ℕ) (object : Box memory_object.Object Global) (parts : Vec Part Global) → object.value ≡ O.Literal place copied made → char.0 ≡ integer_number I.Char → copied ≡ bytes → parts.items ≡ []
    → n ≡ count → count ≡ suc (length copied) → Finds IsType (give (Array (type_in s.table char) n)) s t (Some made)
    → Finds IsExpr (give (object_at (Array (Integer I.Char) count) (typed.Literal place bytes) (Element (StaticLiteral place) [] (Array (Integer I.Char) count) 1 0))) s t
    (Some (record { c_type = made; typed = E.Object object; constness = NotConstant; is_null = false; address = A.Element (R.Literal place) parts made 1 0 }))
literal-known {s = s} {t = t} char made n count place bytes copied object parts is e same none long all found =
    let its : type_in t.table made ≡ Array (Integer I.Char) count = found.known.1 ∙ (λ i. Array ((integer_stands s.table char I.Char e).1 i) (long i)) in
    let own = ap (λ (o : memory_object.Object). object_in t.table o) is ∙ ap (λ bytes. typed.Literal place bytes) same in
    record {
      grows = found.grows;
      scope = found.scope;
      least = found.least;
      known = (
        (found.known.0, subst (λ (o : memory_object.Object). ObjectStands t.table o) (sym is) (found.known.0, its ∙ ap (Array (Integer I.Char)) all), found.known.0),
        λ i. record { c_type = its i; typed = OfObject (own i); constness = NotConstant; is_null = false; address = Element (StaticLiteral place) (none i) (its i) 1 0 },
      );
    }

-- ---- declarators

-- a list of two parameters or more isn't `(void)`
pub not_void_alone : (parameters : List Parameter) → 2 ≤ length parameters → false ≡ is_void_alone (parameters_of parameters)
not_void_alone [] h = absurd (omega arith)
not_void_alone (only ∷ []) h = absurd (omega arith)
not_void_alone (Parameter' simple memory_type.Parameter-declarator-None' ∷ Parameter' simple' declarator ∷ others) h = refl
not_void_alone (Parameter' simple (memory_type.Parameter-declarator-Some' stars direct shape suffixes) ∷ others) h = refl

-- what a declarator in parentheses adds
pub nested-adds : (direct : Direct) (inner : Box Declarator Global) → direct ≡ D.Nested inner → direct_adds (direct_tree direct) ≡ adds (declarator_tree inner.value)
nested-adds direct inner is = ap (λ tree. direct_adds tree) (ap direct_tree is ∙ direct_tree-nested inner)

pub adds-stars : (stars : ℕ) (direct : DirectTree) (suffixes : SuffixesTree) → 0 < stars → adds (Trees.Declarator stars direct suffixes) ≡ true
adds-stars zero direct rest h = absurd (omega arith)
adds-stars (suc n) direct rest h = refl

pub adds-suffixes : (stars : ℕ) (direct : DirectTree) (suffixes : List Suffix) → 0 < length suffixes → adds (Trees.Declarator stars direct (suffixes_of suffixes)) ≡ true
adds-suffixes stars direct [] h = absurd (omega arith)
adds-suffixes zero direct (S.Array' length ∷ others) h = refl
adds-suffixes zero direct (S.Function' shape parameters ∷ others) h = refl
adds-suffixes (suc n) direct (first ∷ others) h = refl

pub adds-inner : (stars : ℕ) (direct : DirectTree) (suffixes : List Suffix) → stars ≡ 0 → suffixes ≡ [] → adds (Trees.Declarator stars direct (suffixes_of suffixes)) ≡ direct_adds direct
adds-inner stars direct suffixes e f = λ i. adds (Trees.Declarator (e i) direct (suffixes_of (f i)))

-- whether a list is empty, by what was looked at
above_none : (n : ℕ) → (n ≡ 0 → ⊥) → 0 < n
above_none zero h = absurd (h refl)
above_none (suc n) h = omega arith

pub some-there : (n m : ℕ) (value is_empty : Bool) → n ≡ m → value ≡ true → value ≡ not is_empty → is_empty ≡ (n == 0) → 0 < m
some-there n m value true same holds is looked = absurd (false≢true (sym is ∙ holds))
some-there n m value false same holds is looked = above_none m (λ none. eqb-false n 0 (sym looked) (same ∙ none))

pub none-there : {A : Type 0} (xs : List A) (n : ℕ) (value is_empty : Bool) → n ≡ length xs → value ≡ false → value ≡ not is_empty → is_empty ≡ (n == 0) → xs ≡ []
none-there xs n value true same fails is looked = nil_from_length xs (sym same ∙ eqb-true n 0 (sym looked))
none-there xs n value false same fails is looked = absurd (false≢true (sym fails ∙ is))

-- ---- lists of types

-- one more in front
pub list-more : {s t u : State} (types others : List number.CType) (first : number.CType) (list made : numbers.Parameters) → types ≡ first ∷ others → TypesStand s.table types
    → Finds IsTypes (give (list_in s.table others)) s t (Some list) → Finds IsTypes (give (MoreTypes (type_in t.table first) (types_in t.table list))) t u (Some made)
    → Finds IsTypes (give (list_in s.table types)) s u (Some made)
list-more {s = s} {t = t} {u = u} types others first list made is stand before found =
    let all = subst (TypesStand s.table) is stand in
    let kept = stays s.table t.table before.grows first all.0 in
    let means : types_in u.table made ≡ MoreTypes (type_in s.table first) (list_in s.table others) = found.known.1 ∙ (λ i. MoreTypes (kept.1 i) (before.known.1 i)) in
    record {
      grows = grows_trans s.table t.table u.table before.grows found.grows;
      scope = found.scope ∙ before.scope;
      least = found.least ∙ before.least;
      known = (found.known.0, means ∙ ap (list_in s.table) (sym is));
    }

-- each of them stands
pub types_dropped : (table : Interned) (n : ℕ) (types : List number.CType) → TypesStand table types → TypesStand table (drop n types)
types_dropped table zero types h = h
types_dropped table (suc n) [] h = tt
types_dropped table (suc n) (first ∷ others) h = types_dropped table n others h.1

-- one of them
pub type_there : (table : Interned) (types : List number.CType) (n : ℕ) (other : number.CType) → n < length types → TypesStand table types → Stands table (get_or types n other)
type_there table types n other lt h = (subst (TypesStand table) (drop-cons types n other lt) (types_dropped table n types h)).0

-- the next of them in front
pub list-next : {s t u : State} (types : List number.CType) (n m : ℕ) (other : number.CType) (list made : numbers.Parameters) → suc n ≡ m → n < length types → TypesStand s.table types
    → Finds IsTypes (give (list_in s.table (drop m types))) s t (Some list) → Finds IsTypes (give (MoreTypes (type_in t.table (get_or types n other)) (types_in t.table list))) t u (Some made)
    → Finds IsTypes (give (list_in s.table (drop n types))) s u (Some made)
list-next {s = s} types n m other list made next lt h before found =
    list-more (drop n types) (drop m types) (get_or types n other) list made (drop-cons types n other lt ∙ ap (λ k. get_or types n other ∷ drop k types) next) (types_dropped s.table n types h) before found

-- ---- parts that are known

module _ {A B C D : Type 0} (view : Interned → B → A) {Is : Interned → D → C → Type 0} {s t : State} {q : Option D} where
  pub one-there : (rule : A → Checked C) {r : Option B} {x : B} → r ≡ Some x → Finds Is (rule (view s.table x)) s t q → Finds Is (with_known (each_in view s.table r) rule) s t q
  one-there rule is found = subst (λ r. Finds Is (with_known (each_in view s.table r) rule) s t q) (sym is) found

  module _ {A' B' : Type 0} (view' : Interned → B' → A') where
    pub two-there : (rule : A → A' → Checked C) {r : Option B} {x : B} {r' : Option B'} {y : B'} → r ≡ Some x → r' ≡ Some y → Finds Is (rule (view s.table x) (view' s.table y)) s t q → Finds Is (with_known (each_in view s.table r) (λ a. with_known (each_in view' s.table r') (rule a))) s t q
    two-there rule {x = x} {r' = r'} is is' found =
        one-there (λ a. with_known (each_in view' s.table r') (rule a)) is
        (subst (λ (r : Option B'). Finds Is (with_known (each_in view' s.table r) (rule (view s.table x))) s t q) (sym is') found)

-- where one of them isn't known
module _ {A B C D : Type 0} (view : Interned → B → A) {Is : Interned → D → C → Type 0} {s : State} where
  pub one-lacks : (rule : A → Checked C) {r : Option B} → r ≡ None → Finds Is (with_known (each_in view s.table r) rule) s s None
  one-lacks rule is = subst (λ r. Finds Is (with_known (each_in view s.table r) rule) s s None) (sym is) finds-unknown

  module _ {A' B' : Type 0} (view' : Interned → B' → A') where
    pub second-lacks : (rule : A → A' → Checked C) (r : Option B) {r' : Option B'} → r' ≡ None → Finds Is (with_known (each_in view s.table r) (λ a. with_known (each_in view' s.table r') (rule a))) s s None
    second-lacks rule r is' =
        subst (λ (r' : Option B'). Finds Is (with_known (each_in view s.table r) (λ a. with_known (each_in view' s.table r') (rule a))) s s None) (sym is') (by r)
      where
        by : (r : Option B) → Finds Is (with_known (each_in view s.table r) (λ a. unknown)) s s None
        by None = finds-unknown
        by (Some x) = finds-unknown

    module _ {A'' B'' : Type 0} (view'' : Interned → B'' → A'') where
      pub third-lacks : (rule : A → A' → A'' → Checked C) (r : Option B) (r' : Option B') {r'' : Option B''} → r'' ≡ None → Finds Is (with_known (each_in view s.table r) (λ a. with_known (each_in view' s.table r') (λ b. with_known (each_in view'' s.table r'') (rule a b)))) s s None
      third-lacks rule r r' is'' =
          subst (λ (r'' : Option B''). Finds Is (with_known (each_in view s.table r) (λ a. with_known (each_in view' s.table r') (λ b. with_known (each_in view'' s.table r'') (rule a b)))) s s None) (sym is'') (by r r')
        where
          by : (r : Option B) (r' : Option B') → Finds Is (with_known (each_in view s.table r) (λ a. with_known (each_in view' s.table r') (λ b. unknown))) s s None
          by None r' = finds-unknown
          by (Some x) None = finds-unknown
          by (Some x) (Some y) = finds-unknown

-- ---- pointers

-- one more pointer
pub pointer-more : {s t u : State} (n m : ℕ) → m ≡ suc n → (c_type : CType) (pointed made : number.CType) → Finds IsType (give (pointers n c_type)) s t (Some pointed) → Finds IsType (give (Pointer (type_in t.table pointed))) t u (Some made) → Finds IsType (give (pointers m c_type)) s u (Some made)
pointer-more {s = s} {t = t} {u = u} n m next c_type pointed made before found =
    record {
      grows = grows_trans s.table t.table u.table before.grows found.grows;
      scope = found.scope ∙ before.scope;
      least = found.least ∙ before.least;
      known = (found.known.0, found.known.1 ∙ ap Pointer before.known.1 ∙ sym (ap (λ k. pointers k c_type) next));
    }
