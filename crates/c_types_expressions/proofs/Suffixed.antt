-- What follows in a declarator: lengths that stand there, and types that are made of those behind.
use Rattle.std.proofs.Common.{◌≡◌, ℕ, zero, suc, ◌<◌, arith, List, [], ◌∷◌, ◌++◌, length, drop, get_or, Option, Some, None, Box, Vec, Global, ℤ, refl, sym, ap, subst, ◌∙◌}
use Rattle.std.proofs.Common.{append-nil, append_assoc}
use Rattle.std.proofs.Math.Seq.{drop-cons}
use Rattle.run_theory.specs.declared.place.Pos.{Pos}
use Rattle.c_syntax.specs.declared.expr.TypeName as memory_type
use Rattle.c_syntax.specs.declared.expr.TypeName.{out-TypeName, roll-out-TypeName}
use Rattle.c_syntax.specs.declared.expr.Parameter as memory_parameter
use Rattle.c_syntax.specs.declared.expr.Parameter.{out-Parameter, roll-out-Parameter}
use Rattle.c_syntax.specs.declared.expr.Declarator as memory_declarator
use Rattle.c_syntax.specs.declared.expr.Direct as memory_direct
use Rattle.c_syntax.specs.declared.expr.Direct.{roll-Direct, roll-out-Direct}
use Rattle.c_syntax.specs.declared.expr.Direct.TheVariants as D
use Rattle.c_syntax.specs.declared.expr.Suffix as memory_suffix
use Rattle.c_syntax.specs.declared.expr.Suffix.TheVariants as S
use Rattle.c_syntax.specs.declared.expr.Expr as memory_expr
use Rattle.c_syntax.specs.Trees
use Rattle.c_syntax.specs.Trees.{OptionalTree, DirectTree, SuffixesTree, LengthTree, ParametersTree}
use Rattle.c_syntax.specs.Views.{type_tree, words_tree, optional_of, declarator_tree, direct_tree, suffixes_of, length_of, parameters_of, expr_tree}
use Rattle.c_syntax.proofs.SyntaxRows.{type_tree-name, parameters_of-parameter, direct_tree-nested, suffixes_of-function}
use Rattle.c_typed.specs.declared.c_type.CType as number
use Rattle.c_typed.specs.declared.c_type.Parameters as numbers
use Rattle.c_typed.specs.Types.{CType, Array, Function}
use Rattle.c_typed.specs.Layouts.{is_complete}
use Rattle.c_typed.specs.Table.{Interned, Grows, Stands, type_in, ListStands, types_in, KnownStands}
use Rattle.c_typed.specs.Kept.{IsObject}
use Rattle.c_typed.proofs.Grown.{stays}
use Rattle.c_rules.specs.declared.constness.Constness.{Constness}
use Rattle.c_rules.specs.declared.violation.Violation.{Violation}
use Rattle.c_types_state.specs.declared.known.Known as memory_known
use Rattle.c_rules.specs.Names.{Scope}
use Rattle.c_rules.specs.Known.{Checked, Known, known_already, give, also, given, given_two, with_known, value_rule}
use Rattle.c_rules.specs.Operators.{as_integer, integer_rule}
use Rattle.c_rules.specs.Expressions.{LengthRole, Required, Missing, as_constant, constant_value, positive, length_value, optional_type, declared_type, suffixes_type, direct_type, pointed, length_stated, place_of, expr}
use Rattle.c_types_state.specs.NameTables.{State, scope_of}
use Rattle.c_types_state.specs.Finding.{Finds, ExprStands, IsExpr, IsType, IsTypes, IsOption, AllStand, expr_in, each_in}
use Rattle.c_types_state.specs.Staying.{IsSame}
use Rattle.c_types_state.proofs.Findings.{goes-trans, finds-goes, finds-after, finds-give, finds-unknown, plain-some, plain-none, seen-known, finds-known, finds-then_two, stays-type}
use Rattle.c_types_state.specs.declared.operands.Operand as memory_operand
use Rattle.c_types_state.specs.Operands.{IsOperand}
use Rattle.c_types_expressions.specs.declared.pass.Pass.{Pass}
use Rattle.c_types_expressions.specs.declared.role.LengthRole as memory_role
use Rattle.c_types_expressions.specs.declared.role.LengthRole.TheVariants as R
use Rattle.c_types_expressions.specs.Roles.{role_of}
use Rattle.c_rules.specs.Named.{NamedType, named_at, named_in, named_in_optional, named_in_declarator, named_in_direct, named_in_suffixes, named_in_length}
use Rattle.c_types_expressions.specs.Passes.{Passes, Names, parameter_list}
use Rattle.c_types_expressions.specs.Derived.{element_rule, result_rule, IsElement}
use Rattle.c_types_expressions.specs.Suffixes.{SuffixTree, AnArray, AFunction, suffix_of, suffix_type, named_in_suffix, named_in_list_of}
use Rattle.c_types_expressions.proofs.Giving.{finds-then-given, stands-now}
use Rattle.c_types_expressions.proofs.Naming.{names-none, names-grow, names-then, names-two, passes-plain}
use Rattle.c_types_expressions.proofs.Passing.{with_checker}

-- ---- trees

pub type_tree-out : (t : memory_type.TypeName) → type_tree t ≡ Trees.TypeName (words_tree (out-TypeName t).simple) (optional_of (out-TypeName t).declarator)
type_tree-out t = ap type_tree (sym (roll-out-TypeName t)) ∙ type_tree-name (out-TypeName t).simple (out-TypeName t).declarator

pub parameters_of-out : (p : memory_parameter.Parameter) (rest : List memory_parameter.Parameter) → parameters_of (p ∷ rest) ≡ Trees.Parameter (words_tree (out-Parameter p).simple) (optional_of (out-Parameter p).declarator) (parameters_of rest)
parameters_of-out p rest = ap (λ (p : memory_parameter.Parameter). parameters_of (p ∷ rest)) (sym (roll-out-Parameter p)) ∙ parameters_of-parameter (out-Parameter p).simple (out-Parameter p).declarator rest

-- ---- lengths that stand there

module _ (place here : Pos) (part : Checked Known) where
  abbrev constant_of : Known → Checked ℤ
  constant_of value = constant_value place value.constness

  integer_found : {s t u : State} {r : Option memory_known.Known} {o : Option memory_operand.Operand} → Finds IsExpr part s t r → Finds IsOperand (given (with_known (each_in expr_in t.table r) (value_rule place)) (integer_rule place)) t u o → Finds IsOperand (as_integer place part) s u o
  integer_found first second = finds-then-given ExprStands expr_in part (value_rule place) (integer_rule place) first second

  constant_found : {s u w : State} {x : memory_operand.Operand} {n : Option ℤ} → Finds IsOperand (as_integer place part) s u (Some x) → Finds (IsSame {A = ℤ}) (constant_value place x.constness) u w n → Finds (IsSame {A = ℤ}) (as_constant place part) s w n
  constant_found {u = u} {w = w} {n = n} first second =
      plain-some (as_integer place part) constant_of first
      (λ v h. subst (λ (c : Constness). Finds (IsSame {A = ℤ}) (constant_value place c) u w n) (ap (λ (k : Known). k.constness) h.1) second)

  -- no integer
  pub stated-none : {s t u : State} {r : Option memory_known.Known} (o : Option memory_operand.Operand) → o ≡ None → Finds IsExpr part s t r → Finds IsOperand (given (with_known (each_in expr_in t.table r) (value_rule place)) (integer_rule place)) t u o → Finds (IsSame {A = ℕ}) (given (as_constant place part) (positive here)) s u None
  stated-none {s = s} {u = u} o e first second =
      let whole = subst (λ (o : Option memory_operand.Operand). Finds IsOperand (as_integer place part) s u o) e (integer_found first second) in
      let constant : Finds (IsSame {A = ℤ}) (as_constant place part) s u None = plain-none (as_integer place part) constant_of whole in
      plain-none (as_constant place part) (positive here) constant

  -- no constant
  pub stated-unknown : {s t u w : State} {r : Option memory_known.Known} (o : Option memory_operand.Operand) (x : memory_operand.Operand) → o ≡ Some x → Finds IsExpr part s t r → Finds IsOperand (given (with_known (each_in expr_in t.table r) (value_rule place)) (integer_rule place)) t u o → Finds (IsSame {A = ℤ}) (constant_value place x.constness) u w None → Finds (IsSame {A = ℕ}) (given (as_constant place part) (positive here)) s w None
  stated-unknown {s = s} {u = u} o x e first second third =
      let whole = subst (λ (o : Option memory_operand.Operand). Finds IsOperand (as_integer place part) s u o) e (integer_found first second) in
      plain-none (as_constant place part) (positive here) (constant_found whole third)

  -- a constant
  pub stated-some : {s t u w v : State} {r : Option memory_known.Known} (o : Option memory_operand.Operand) (x : memory_operand.Operand) (n : ℤ) {l : Option ℕ} → o ≡ Some x → Finds IsExpr part s t r → Finds IsOperand (given (with_known (each_in expr_in t.table r) (value_rule place)) (integer_rule place)) t u o → Finds (IsSame {A = ℤ}) (constant_value place x.constness) u w (Some n) → Finds (IsSame {A = ℕ}) (positive here n) w v l → Finds (IsSame {A = ℕ}) (given (as_constant place part) (positive here)) s v l
  stated-some {s = s} {u = u} {w = w} {v = v} o x n {l = l} e first second third fourth =
      let whole = subst (λ (o : Option memory_operand.Operand). Finds IsOperand (as_integer place part) s u o) e (integer_found first second) in
      plain-some (as_constant place part) (positive here) (constant_found whole third)
      (λ (z : ℤ) h. subst (λ (z : ℤ). Finds (IsSame {A = ℕ}) (positive here z) w v l) h fourth)

-- ---- the types that words and a declarator name

optional-also : (scope : Scope) (here : Pos) (role : LengthRole) (base : Checked CType) (tree : OptionalTree) → optional_type scope here role base tree ≡ also base.found (optional_type scope here role (known_already base.known) tree)
optional-also scope here role base Trees.NoDeclarator = λ i. record { found = sym (append-nil base.found) i; known = base.known }
optional-also scope here role base (Trees.Declared declarator) = refl

-- behind the words
pub optional_found : {s t u : State} {r r' : Option number.CType} (here : Pos) (role : LengthRole) (base : Checked CType) (tree : OptionalTree) → Finds IsType base s t r → Finds IsType (optional_type (scope_of t) here role (known_already (each_in type_in t.table r)) tree) t u r' → Finds IsType (optional_type (scope_of s) here role base tree) s u r'
optional_found {s = s} {t = t} {u = u} {r = r} {r' = r'} here role base tree first second =
    subst (λ (checked : Checked CType). Finds IsType checked s u r') (sym (optional-also (scope_of s) here role base tree))
    (finds-after (finds-goes first)
    (subst (λ known. Finds IsType (optional_type (scope_of s) here role (known_already known) tree) t u r') (seen-known Stands type_in t.table r base.known first.known)
    (subst (λ scope. Finds IsType (optional_type scope here role (known_already (each_in type_in t.table r)) tree) t u r') first.scope second)))

-- and it is named
pub passes-named : {s p q : Pass} {t : State} {r r' : Option number.CType} (here : Pos) (role : LengthRole) (base : Checked CType) (tree : OptionalTree)
    → Finds IsType base s.checker t r
    → Passes IsType (optional_type (scope_of t) here role (known_already (each_in type_in t.table r)) tree) (named_in_optional (scope_of t) tree) (with_checker s t) p r'
    → q.checker ≡ p.checker → Names (named_at here (each_in type_in p.checker.table r')) p.checker.table p.named.items q.named.items
    → Passes IsType (optional_type (scope_of s.checker) here role base tree) (named_in_optional (scope_of s.checker) tree ++ named_at here (optional_type (scope_of s.checker) here role base tree).known) s q r'
passes-named {s = s} {p = p} {q = q} {t = t} {r = r} {r' = r'} here role base tree first second same last =
    let scope = scope_of s.checker in
    let whole = optional_found here role base tree first second.finds in
    let inner = subst (λ scope. Names (named_in_optional scope tree) p.checker.table s.named.items p.named.items) first.scope second.names in
    let own = subst (λ known. Names (named_at here known) p.checker.table p.named.items q.named.items) (finds-known Stands type_in whole) last in
    let all = names-then p.checker.table inner own in
    record {
      finds = subst (λ (state : State). Finds IsType (optional_type scope here role base tree) s.checker state r') (sym same) whole;
      names = subst (λ (state : State). Names (named_in_optional scope tree ++ named_at here (optional_type scope here role base tree).known) state.table s.named.items q.named.items) (sym same) all;
    }

-- ---- declarators

-- what stands between the words and the rest
pub passes-outer : {s p : Pass} {t : State} {r r' : Option number.CType} (here : Pos) (base : Option CType) (stars : ℕ) (role role' : LengthRole) (suffixes : SuffixesTree) → role ≡ role'
    → Finds IsType (known_already (pointed stars base)) s.checker t r
    → Passes IsType (suffixes_type (scope_of t) here role (each_in type_in t.table r) suffixes) (named_in_suffixes (scope_of t) suffixes) (with_checker s t) p r'
    → Passes IsType (suffixes_type (scope_of s.checker) here role' (pointed stars base) suffixes) (named_in_suffixes (scope_of s.checker) suffixes) s p r'
passes-outer {s = s} {p = p} {t = t} {r = r} {r' = r'} here base stars role role' suffixes same first second =
    let known = seen-known Stands type_in t.table r (pointed stars base) first.known in
    let behind =
    subst (λ role. Finds IsType (suffixes_type (scope_of s.checker) here role (pointed stars base) suffixes) t p.checker r') same
    (subst (λ known. Finds IsType (suffixes_type (scope_of s.checker) here role known suffixes) t p.checker r') known
    (subst (λ scope. Finds IsType (suffixes_type scope here role (each_in type_in t.table r) suffixes) t p.checker r') first.scope second.finds)) in
    record {
      finds = finds-after (finds-goes first) behind;
      names = subst (λ scope. Names (named_in_suffixes scope suffixes) p.checker.table s.named.items p.named.items) first.scope second.names;
    }

-- nothing is nested
pub passes-flat : {s p : Pass} {r : Option number.CType} (here : Pos) (role : LengthRole) (outer : Checked CType) (named : List NamedType) (direct : memory_direct.Direct)
    → ((inner : Box memory_declarator.Declarator Global) → direct ≡ D.Nested inner → ⊥)
    → Passes IsType outer named s p r
    → Passes IsType (direct_type (scope_of s.checker) here role outer (direct_tree direct)) (named ++ named_in_direct (scope_of s.checker) (direct_tree direct)) s p r
passes-flat {s = s} {p = p} {r = r} here role outer named direct is_flat found = by direct is_flat
  where
    flat : Names (named ++ []) p.checker.table s.named.items p.named.items
    flat = subst (λ named. Names named p.checker.table s.named.items p.named.items) (sym (append-nil named)) found.names

    by : (direct : memory_direct.Direct) → ((inner : Box memory_declarator.Declarator Global) → direct ≡ D.Nested inner → ⊥) → Passes IsType (direct_type (scope_of s.checker) here role outer (direct_tree direct)) (named ++ named_in_direct (scope_of s.checker) (direct_tree direct)) s p r
    by (D.Named name) h = record { finds = found.finds; names = flat }
    by D.Nothing h = record { finds = found.finds; names = flat }
    by (D.Nested' q stars direct shape suffixes) h =
        absurd (h _ (sym (roll-out-Direct (D.Nested' q stars direct shape suffixes)) ∙ ap roll-Direct (D.outs-Nested' q stars direct shape suffixes) ∙ D.rolls-Nested _))

-- a declarator is nested
pub passes-nested : {s p q : Pass} {r r' : Option number.CType} (here : Pos) (role : LengthRole) (outer : Checked CType) (named : List NamedType) (direct : memory_direct.Direct) (inner : Box memory_declarator.Declarator Global) → direct ≡ D.Nested inner
    → Passes IsType outer named s p r
    → Passes IsType (declared_type (scope_of p.checker) here role (each_in type_in p.checker.table r) (declarator_tree inner.value)) (named_in_declarator (scope_of p.checker) (declarator_tree inner.value)) p q r'
    → Passes IsType (direct_type (scope_of s.checker) here role outer (direct_tree direct)) (named ++ named_in_direct (scope_of s.checker) (direct_tree direct)) s q r'
passes-nested {s = s} {p = p} {q = q} {r = r} {r' = r'} here role outer named direct inner same first second =
    let scope = scope_of s.checker in
    let tree = declarator_tree inner.value in
    let known = seen-known Stands type_in p.checker.table r outer.known first.finds.known in
    let behind =
    subst (λ known. Finds IsType (declared_type scope here role known tree) p.checker q.checker r') known
    (subst (λ scope. Finds IsType (declared_type scope here role (each_in type_in p.checker.table r) tree) p.checker q.checker r') first.finds.scope second.finds) in
    let whole : Passes IsType (direct_type scope here role outer (Trees.Nested tree)) (named ++ named_in_direct scope (Trees.Nested tree)) s q r' = record {
      finds = finds-after (finds-goes first.finds) behind;
      names = names-two named (λ scope. named_in_declarator scope tree) p.checker.table q.checker.table (scope_of p.checker) scope first.names second.finds.grows first.finds.scope second.names;
    } in
    subst (λ (d : DirectTree). Passes IsType (direct_type scope here role outer d) (named ++ named_in_direct scope d) s q r') (sym (ap direct_tree same ∙ direct_tree-nested inner)) whole

-- ---- what follows, one thing behind the others

-- next to the name alone a length may be left out
abbrev pub role_at : ℕ → LengthRole → LengthRole
role_at zero role = role
role_at (suc n) role = Required

pub role_behind : (n : ℕ) (role : LengthRole) → 0 < n → role_at n role ≡ Required
role_behind zero role h = absurd (omega arith)
role_behind (suc n) role h = refl

given_two-also : {A B C : Type 0} (xs : List Violation) (one : Checked A) (two : Checked B) (rule : A → B → Checked C) → given_two (also xs one) two rule ≡ also xs (given_two one two rule)
given_two-also {C = C} xs one two rule =
    let last : Checked C = with_known one.known (λ a. with_known two.known (rule a)) in
    λ i. record { found = (ap (λ found. found ++ last.found) (append_assoc xs one.found two.found) ∙ append_assoc xs (one.found ++ two.found) last.found) i; known = last.known }

suffix-also : (scope : Scope) (here : Pos) (role : LengthRole) (tree : SuffixTree) (inner : Checked CType) → suffix_type scope here role tree inner ≡ also inner.found (suffix_type scope here role tree (known_already inner.known))
suffix-also scope here role (AnArray length) inner =
    given_two-also inner.found (with_known inner.known (element_rule scope here)) (length_value here role inner.known (length_stated scope length)) (λ c_type n. give (Array c_type n))
suffix-also scope here role (AFunction parameters) inner =
    given_two-also inner.found (with_known inner.known (result_rule here)) (parameter_list scope parameters) (λ c_type types. give (Function c_type types))

suffixes_type-more : (scope : Scope) (here : Pos) (role : LengthRole) (base : Option CType) (suffix : memory_suffix.Suffix) (rest : List memory_suffix.Suffix) → suffixes_type scope here role base (suffixes_of (suffix ∷ rest)) ≡ suffix_type scope here role (suffix_of suffix) (suffixes_type scope here Required base (suffixes_of rest))
suffixes_type-more scope here role base (S.Array' length) rest = refl
suffixes_type-more scope here role base (S.Function' shape parameters) rest = refl

named-more : (scope : Scope) (suffix : memory_suffix.Suffix) (rest : List memory_suffix.Suffix) → named_in_suffixes scope (suffixes_of (suffix ∷ rest)) ≡ named_in_suffixes scope (suffixes_of rest) ++ named_in_suffix scope (suffix_of suffix)
named-more scope (S.Array' length) rest = refl
named-more scope (S.Function' shape parameters) rest = refl

-- what was passed of what follows
abbrev pub Followed : Pass → Pos → LengthRole → Option CType → List memory_suffix.Suffix → Pass → Option number.CType → Type 0
Followed s here role base rest p r = Passes IsType (suffixes_type (scope_of s.checker) here role base (suffixes_of rest)) (named_in_suffixes (scope_of s.checker) (suffixes_of rest)) s p r

pub followed-none : {s : Pass} (here : Pos) (role : LengthRole) (base : Option number.CType) (rest : List memory_suffix.Suffix) → rest ≡ [] → AllStand Stands s.checker.table base → Followed s here role (each_in type_in s.checker.table base) rest s base
followed-none {s = s} here role base rest same h =
    subst (λ (rest : List memory_suffix.Suffix). Followed s here role (each_in type_in s.checker.table base) rest s base) (sym same)
    (record { finds = by base h; names = names-none s.checker.table s.named.items })
  where
    by : (base : Option number.CType) → AllStand Stands s.checker.table base → Finds IsType (known_already (each_in type_in s.checker.table base)) s.checker s.checker base
    by None h = finds-unknown
    by (Some t) h = finds-give (h, refl)

pub followed-more : {s p q : Pass} {r r' : Option number.CType} (here : Pos) (role role' behind : LengthRole) (base : Option CType) (suffix : memory_suffix.Suffix) (rest all : List memory_suffix.Suffix) → behind ≡ Required → role ≡ role' → all ≡ suffix ∷ rest
    → Followed s here behind base rest p r
    → Passes IsType (suffix_type (scope_of p.checker) here role (suffix_of suffix) (known_already (each_in type_in p.checker.table r))) (named_in_suffix (scope_of p.checker) (suffix_of suffix)) p q r'
    → Followed s here role' base all q r'
followed-more {s = s} {p = p} {q = q} {r = r} {r' = r'} here role role' behind base suffix rest all is_required is_own is_all first second =
    let scope = scope_of s.checker in
    let tree = suffix_of suffix in
    let inner = suffixes_type scope here Required base (suffixes_of rest) in
    let first' : Passes IsType inner (named_in_suffixes scope (suffixes_of rest)) s p r = subst (λ role. Followed s here role base rest p r) is_required first in
    let known = seen-known Stands type_in p.checker.table r inner.known first'.finds.known in
    let own =
    subst (λ known. Finds IsType (suffix_type scope here role tree (known_already known)) p.checker q.checker r') known
    (subst (λ scope. Finds IsType (suffix_type scope here role tree (known_already (each_in type_in p.checker.table r))) p.checker q.checker r') first'.finds.scope second.finds) in
    let whole = finds-after (finds-goes first'.finds) own in
    let together : Followed s here role base (suffix ∷ rest) q r' = record {
      finds =
          subst (λ (checked : Checked CType). Finds IsType checked s.checker q.checker r') (sym (suffixes_type-more scope here role base suffix rest ∙ suffix-also scope here role tree inner)) whole;
      names =
          subst (λ named. Names named q.checker.table s.named.items q.named.items) (sym (named-more scope suffix rest))
          (names-two (named_in_suffixes scope (suffixes_of rest)) (λ scope. named_in_suffix scope tree) p.checker.table q.checker.table (scope_of p.checker) scope first'.names second.finds.grows first'.finds.scope second.names);
    } in
    subst (λ (all : List memory_suffix.Suffix). Followed s here role' base all q r') (sym is_all)
    (subst (λ role. Followed s here role base (suffix ∷ rest) q r') is_own together)

-- ---- one thing that follows

element_stays : (old new : Interned) → Grows old new → (t : number.CType) → IsObject old t → IsObject new t
element_stays old new grows t h =
    let kept = stays old new grows t h.stands in
    record { stands = kept.0; complete = (λ i. is_complete (grows.structs i) (kept.1 i)) ∙ h.complete }

pub elements_stay : (old new : Interned) → Grows old new → (r : Option number.CType) → AllStand IsObject old r → AllStand IsObject new r
elements_stay old new grows None h = tt
elements_stay old new grows (Some t) h = element_stays old new grows t h

pub types_stay : (old new : Interned) → Grows old new → (r : Option number.CType) → AllStand Stands old r → AllStand Stands new r
types_stay old new grows None h = tt
types_stay old new grows (Some t) h = (stays old new grows t h).0

elements_seen : (old new : Interned) → Grows old new → (r : Option number.CType) → AllStand IsObject old r → each_in type_in new r ≡ each_in type_in old r
elements_seen old new grows None h = refl
elements_seen old new grows (Some t) h = ap Some (stays old new grows t h.stands).1

same_known : {A : Type 0} (table : Interned) (r k : Option A) → IsOption (IsSame table) r k → r ≡ k
same_known table None None h = refl
same_known table None (Some a) h = absurd h
same_known table (Some b) None h = absurd h
same_known table (Some b) (Some a) h = ap Some h

-- an element and a length
pub array_found : {s t u w : State} {r r' : Option number.CType} {l : Option ℕ} (element : Checked CType) (length : Checked ℕ) → Finds IsElement element s t r → Finds (IsSame {A = ℕ}) length t u l → Finds IsType (with_known (each_in type_in u.table r) (λ c_type. with_known l (λ n. give (Array c_type n)))) u w r' → Finds IsType (given_two element length (λ c_type n. give (Array c_type n))) s w r'
array_found {s = s} {t = t} {u = u} {w = w} {r = r} {r' = r'} {l = l} element length first second third =
    let stand = stands-now IsObject type_in first in
    let known = elements_seen t.table u.table second.grows r stand ∙ seen-known IsObject type_in t.table r element.known first.known in
    finds-after (goes-trans (finds-goes first) (finds-goes second))
    (subst (λ known. Finds IsType (with_known known (λ c_type. with_known length.known (λ n. give (Array c_type n)))) u w r') known
    (subst (λ known. Finds IsType (with_known (each_in type_in u.table r) (λ c_type. with_known known (λ n. give (Array c_type n)))) u w r') (same_known u.table l length.known second.known) third))

pub known_stands : (table : Interned) (r : Option number.CType) → AllStand Stands table r → KnownStands table r
known_stands table None h = tt
known_stands table (Some t) h = h

-- an array, with a length that stands there
pub passes-array : {s p : Pass} {t w : State} {r r' : Option number.CType} {l : Option ℕ} (here : Pos) (role : LengthRole) (length : LengthTree) (known : Option CType)
    → Finds IsElement (with_known known (element_rule (scope_of s.checker) here)) s.checker t r
    → Passes (IsSame {A = ℕ}) (length_value here role known (length_stated (scope_of t) length)) (named_in_length (scope_of t) length) (with_checker s t) p l
    → Finds IsType (with_known (each_in type_in p.checker.table r) (λ c_type. with_known l (λ n. give (Array c_type n)))) p.checker w r'
    → Passes IsType (suffix_type (scope_of s.checker) here role (AnArray length) (known_already known)) (named_in_suffix (scope_of s.checker) (AnArray length)) s (with_checker p w) r'
passes-array {s = s} {p = p} {t = t} {w = w} {r = r} {r' = r'} {l = l} here role length known first second last =
    let scope = scope_of s.checker in
    let second' = subst (λ scope. Passes (IsSame {A = ℕ}) (length_value here role known (length_stated scope length)) (named_in_length scope length) (with_checker s t) p l) first.scope second in
    record {
      finds = array_found (with_known known (element_rule scope here)) (length_value here role known (length_stated scope length)) first second'.finds last;
      names = names-grow p.checker.table w.table last.grows second'.names;
    }

-- a function
pub passes-function : {s p : Pass} {t w : State} {r r' : Option number.CType} {ps : Option numbers.Parameters} (here : Pos) (role : LengthRole) (tree : ParametersTree) (known : Option CType)
    → Finds IsType (with_known known (result_rule here)) s.checker t r
    → Passes IsTypes (parameter_list (scope_of t) tree) (named_in_list_of (scope_of t) tree) (with_checker s t) p ps
    → Finds IsType (with_known (each_in type_in p.checker.table r) (λ c_type. with_known (each_in types_in p.checker.table ps) (λ types. give (Function c_type types)))) p.checker w r'
    → Passes IsType (suffix_type (scope_of s.checker) here role (AFunction tree) (known_already known)) (named_in_suffix (scope_of s.checker) (AFunction tree)) s (with_checker p w) r'
passes-function {s = s} {p = p} {t = t} {w = w} {r = r} {r' = r'} {ps = ps} here role tree known first second last =
    let scope = scope_of s.checker in
    record {
      finds = finds-then_two Stands type_in ListStands types_in (λ _. with_known known (result_rule here)) (λ scope. parameter_list scope tree) (λ _ c_type types. give (Function c_type types)) stays-type first second.finds last;
      names = names-grow p.checker.table w.table last.grows
          (subst (λ scope. Names (named_in_list_of scope tree) p.checker.table s.named.items p.named.items) first.scope second.names);
    }

-- ---- what a suffix in memory is

pub suffix_of-array : (length : Option memory_expr.Expr) → suffix_of (S.Array length) ≡ AnArray (length_of length)
suffix_of-array None = refl
suffix_of-array (Some value) = refl

pub suffix_of-function : (parameters : Vec memory_parameter.Parameter Global) → suffix_of (S.Function parameters) ≡ AFunction (parameters_of parameters.items)
suffix_of-function parameters = ap first (suffixes_of-function parameters [])
  where
    first : SuffixesTree → SuffixTree
    first (Trees.FunctionSuffix tree others) = AFunction tree
    first (Trees.ArraySuffix length others) = AnArray length
    first Trees.NoSuffixes = AnArray Trees.NoLength

-- ---- the length of an array, where it stands there, and where it is left out

pub length-stated : (s : Pass) {q p : Pass} {t : State} {l : Option ℕ} (here : Pos) (role : LengthRole) (known : Option CType) (length : Option memory_expr.Expr) (value : memory_expr.Expr) (k : Option ℕ) → length ≡ Some value → p ≡ q → k ≡ l
    → Passes (IsSame {A = ℕ}) (given (as_constant (place_of (expr_tree value)) (expr (scope_of t) (expr_tree value))) (positive here)) (named_in (scope_of t) (expr_tree value)) (with_checker s t) q l
    → Passes (IsSame {A = ℕ}) (length_value here role known (length_stated (scope_of t) (length_of length))) (named_in_length (scope_of t) (length_of length)) (with_checker s t) p k
length-stated s {q = q} {p = p} {t = t} here role known length value k is_stated is_pass is_length found =
    subst (λ (length : Option memory_expr.Expr). Passes (IsSame {A = ℕ}) (length_value here role known (length_stated (scope_of t) (length_of length))) (named_in_length (scope_of t) (length_of length)) (with_checker s t) p k) (sym is_stated)
    (subst (λ (p : Pass). Passes (IsSame {A = ℕ}) (length_value here role known (length_stated (scope_of t) (length_of (Some value)))) (named_in_length (scope_of t) (length_of (Some value))) (with_checker s t) p k) (sym is_pass)
    (subst (λ (k : Option ℕ). Passes (IsSame {A = ℕ}) (length_value here role known (length_stated (scope_of t) (length_of (Some value)))) (named_in_length (scope_of t) (length_of (Some value))) (with_checker s t) q k) (sym is_length) found))

types_seen : (old new : Interned) → Grows old new → (r : Option number.CType) → AllStand Stands old r → each_in type_in new r ≡ each_in type_in old r
types_seen old new grows None h = refl
types_seen old new grows (Some t) h = ap Some (stays old new grows t h).1

pub length-missing : (s : Pass) {p : Pass} {t u : State} {l : Option ℕ} (here : Pos) (role : LengthRole) (inner : Option number.CType) (length : Option memory_expr.Expr) (k : Option ℕ) → length ≡ None → p ≡ with_checker s u → k ≡ l → Grows s.checker.table t.table → AllStand Stands s.checker.table inner
    → Finds (IsSame {A = ℕ}) (length_value here role (each_in type_in t.table inner) Missing) t u l
    → Passes (IsSame {A = ℕ}) (length_value here role (each_in type_in s.checker.table inner) (length_stated (scope_of t) (length_of length))) (named_in_length (scope_of t) (length_of length)) (with_checker s t) p k
length-missing s {p = p} {t = t} {u = u} {l = l} here role inner length k is_missing is_pass is_length grows stand found =
    let scope = scope_of t in
    let known = each_in type_in s.checker.table inner in
    let found' = subst (λ known. Finds (IsSame {A = ℕ}) (length_value here role known Missing) t u l) (types_seen s.checker.table t.table grows inner stand) found in
    let plain : Passes (IsSame {A = ℕ}) (length_value here role known Missing) [] (with_checker s t) (with_checker s u) l = passes-plain found' refl in
    subst (λ (length : Option memory_expr.Expr). Passes (IsSame {A = ℕ}) (length_value here role known (length_stated scope (length_of length))) (named_in_length scope (length_of length)) (with_checker s t) p k) (sym is_missing)
    (subst (λ (p : Pass). Passes (IsSame {A = ℕ}) (length_value here role known Missing) [] (with_checker s t) p k) (sym is_pass)
    (subst (λ (k : Option ℕ). Passes (IsSame {A = ℕ}) (length_value here role known Missing) [] (with_checker s t) (with_checker s u) k) (sym is_length) plain))

-- ---- the suffixes from one on

pub suffix-next : (suffixes : List memory_suffix.Suffix) (n m : ℕ) (suffix : memory_suffix.Suffix) → suc n ≡ m → n < length suffixes → suffix ≡ get_or suffixes n suffix → drop n suffixes ≡ suffix ∷ drop m suffixes
suffix-next suffixes n m suffix next lt is = drop-cons suffixes n suffix lt ∙ (λ i. sym is i ∷ drop (next i) suffixes)

-- its own role
pub own_role : (n : ℕ) (own role : memory_role.LengthRole) → n ≡ 0 → own ≡ role → role_of own ≡ role_at n (role_of role)
own_role zero own role h same = ap role_of same
own_role (suc n) own role h same = absurd (omega arith)

pub own_required : (n : ℕ) (own : memory_role.LengthRole) (role : LengthRole) → 0 < n → own ≡ R.Required → role_of own ≡ role_at n role
own_required zero own role h same = absurd (omega arith)
own_required (suc n) own role h same = ap role_of same

-- ---- declarators in memory

-- what stands between the words and the rest, where what follows was read as these
pub passes-outer-items : {s p : Pass} {t : State} {r r' : Option number.CType} (here : Pos) (base : Option CType) (stars : ℕ) (role role' : LengthRole) (suffixes items : List memory_suffix.Suffix) → role ≡ role' → suffixes ≡ items
    → Finds IsType (known_already (pointed stars base)) s.checker t r
    → Passes IsType (suffixes_type (scope_of t) here role (each_in type_in t.table r) (suffixes_of suffixes)) (named_in_suffixes (scope_of t) (suffixes_of suffixes)) (with_checker s t) p r'
    → Passes IsType (suffixes_type (scope_of s.checker) here role' (pointed stars base) (suffixes_of items)) (named_in_suffixes (scope_of s.checker) (suffixes_of items)) s p r'
passes-outer-items {s = s} {p = p} {t = t} {r' = r'} here base stars role role' suffixes items same read first second =
    subst (λ (items : List memory_suffix.Suffix). Passes IsType (suffixes_type (scope_of s.checker) here role' (pointed stars base) (suffixes_of items)) (named_in_suffixes (scope_of s.checker) (suffixes_of items)) s p r') read
    (passes-outer {s = s} here base stars role role' (suffixes_of suffixes) same first second)

-- a declarator in parentheses, where it was read as this one
pub passes-nested-read : {s p q : Pass} {r r' : Option number.CType} (here : Pos) (role : LengthRole) (outer : Checked CType) (named : List NamedType) (direct : memory_direct.Direct) (inner : Box memory_declarator.Declarator Global) (read : memory_declarator.Declarator) → direct ≡ D.Nested inner → read ≡ inner.value
    → Passes IsType outer named s p r
    → Passes IsType (declared_type (scope_of p.checker) here role (each_in type_in p.checker.table r) (declarator_tree read)) (named_in_declarator (scope_of p.checker) (declarator_tree read)) p q r'
    → Passes IsType (direct_type (scope_of s.checker) here role outer (direct_tree direct)) (named ++ named_in_direct (scope_of s.checker) (direct_tree direct)) s q r'
passes-nested-read {s = s} {p = p} {q = q} {r = r} {r' = r'} here role outer named direct inner read same is first second =
    passes-nested {s = s} {p = p} here role outer named direct inner same first
    (subst (λ (d : memory_declarator.Declarator). Passes IsType (declared_type (scope_of p.checker) here role (each_in type_in p.checker.table r) (declarator_tree d)) (named_in_declarator (scope_of p.checker) (declarator_tree d)) p q r') is second)
