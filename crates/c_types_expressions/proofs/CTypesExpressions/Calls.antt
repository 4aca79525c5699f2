-- The arguments of a call, one after another, and a library function that is called by its name.
use Rattle.std.proofs.Common.{◌≡◌, ℕ, ◌+◌, add-one, List, [], ◌∷◌, ◌++◌, Option, Some, None, SomeIff, Vec, refl, sym, ap, subst, ◌∙◌}
use Rattle.std.proofs.Common.{append-nil, append_assoc}
use Rattle.run_theory.specs.declared.place.Pos.{Pos}
use Rattle.c_syntax.specs.declared.expr.Expr.{Expr}
use Rattle.c_syntax.specs.Trees
use Rattle.c_syntax.specs.Trees.{ExprTree, ArgumentsTree}
use Rattle.c_syntax.specs.Views.{expr_tree, arguments_of}
use Rattle.c_typed.specs.Table.{Interned, Grows}
use Rattle.c_typed.proofs.Grown.{grows_refl, grows_trans}
use Rattle.c_types_state.specs.declared.known.Known as memory_known
use Rattle.c_rules.specs.Names.{Scope}
use Rattle.c_rules.specs.Known.{Checked, Known, with_known, value_rule, as_value}
use Rattle.c_rules.specs.Operators.{ArgumentValue, call, with_argument}
use Rattle.c_rules.specs.Expressions.{place_of, expr, argument_values, library_called}
use Rattle.c_types_state.specs.NameTables.{State, scope_of}
use Rattle.c_types_state.specs.Finding.{Finds, IsExpr, ExprStands, expr_in, AllStand, each_in, IsOption}
use Rattle.c_types_state.specs.Staying.{IsSeen, Stays}
use Rattle.c_types_state.proofs.Findings.{finds-after, finds-goes, goes-trans, finds-then, seen-known}
use Rattle.c_types_state.specs.declared.operands.Operand as memory_operand
use Rattle.c_types_expressions.specs.declared.calls.Argument as memory_argument
use Rattle.c_types_state.specs.Operands.{IsOperand, OperandStands, operand_in}
use Rattle.c_types_expressions.specs.Arguments.{ArgumentsStand, arguments_in}
use Rattle.c_types_expressions.specs.Calls.{call_rule_on}
use Rattle.c_types_expressions.specs.declared.pass.Pass.{Pass}
use Rattle.c_types_expressions.specs.Forms.{named_in_call, FindsLibrary}
use Rattle.c_rules.specs.Named.{named_in, named_in_arguments}
use Rattle.c_types_expressions.specs.Passes.{Names, Passes, IsArguments, arguments_checked}
use Rattle.c_types_expressions.proofs.Giving.{still-stands}
use Rattle.c_types_expressions.proofs.Naming.{names-none, names-grow, names-two}
use Rattle.c_types_expressions.proofs.Passing.{with_checker}
use Rattle.c_types_expressions.proofs.Standing.{stays-operand}

-- ---- what was seen of a part is what is known of it, later too

pub still-known : {A B : Type 0} (Stand : Interned → B → Type 0) (view : Interned → B → A) → Stays (IsSeen Stand view) → {s t : State} {part : Checked A} {r : Option B} → Finds (IsSeen Stand view) part s t r → (new : Interned) → Grows t.table new → each_in view new r ≡ part.known
still-known {A} {B} Stand view stay {t = t} {part = part} {r = r} first new grows = by r part.known first.known
  where
    by : (r : Option B) (k : Option A) → IsOption (IsSeen Stand view t.table) r k → each_in view new r ≡ k
    by None None h = refl
    by None (Some a) h = absurd h
    by (Some b) None h = absurd h
    by (Some b) (Some a) h = ap Some (stay t.table new grows b a h).1

-- ---- arguments

abbrev pub IsItems : Interned → List memory_argument.Argument → List ArgumentValue → Type 0
IsItems table items arguments = ArgumentsStand table items × (arguments_in table items ≡ arguments)

abbrev pub FindsArguments : List Expr → Pass → Pass → List memory_argument.Argument → Type 0
FindsArguments list s t items = Passes IsItems (arguments_checked (argument_values (scope_of s.checker) (arguments_of list))) (named_in_arguments (scope_of s.checker) (arguments_of list)) s t (Some items)

-- What is found of those that are left, behind these so far, is what is found of all.
abbrev pub Gathers : List Expr → List Expr → Pass → Pass → List memory_argument.Argument → Type 0
Gathers all rest s0 s so_far = (t : Pass) (more : List memory_argument.Argument) → FindsArguments rest s t more → FindsArguments all s0 t (so_far ++ more)

abbrev pub argument_at : Pos → Option memory_operand.Operand → memory_argument.Argument
argument_at place value = record { place = place; value = value }

-- one in front of others
pub passes-more : (value : ExprTree) (others : ArgumentsTree) (p : Pos) {s s1 t : Pass} {t1 : State} {r : Option memory_known.Known} {v : Option memory_operand.Operand} {more : List memory_argument.Argument}
    → Passes IsExpr (expr (scope_of s.checker) value) (named_in (scope_of s.checker) value) s s1 r → Finds IsOperand (with_known (each_in expr_in s1.checker.table r) (value_rule p)) s1.checker t1 v
    → Passes IsItems (arguments_checked (argument_values (scope_of t1) others)) (named_in_arguments (scope_of t1) others) (with_checker s1 t1) t (Some more)
    → Passes IsItems (arguments_checked (with_argument p (as_value p (expr (scope_of s.checker) value)) (argument_values (scope_of s.checker) others))) (named_in (scope_of s.checker) value ++ named_in_arguments (scope_of s.checker) others) s t (Some (argument_at p v ∷ more))
passes-more value others p {s = s} {s1 = s1} {t = t} {t1 = t1} {r = r} {v = v} {more = more} first mid behind =
    let scope = scope_of s.checker in
    let whole = finds-then ExprStands expr_in (λ scope. expr scope value) (λ _. value_rule p) first.finds mid in
    let behind' = subst (λ scope. Finds IsItems (arguments_checked (argument_values scope others)) t1 t.checker (Some more)) whole.scope behind.finds in
    let goes = goes-trans (finds-goes whole) (finds-goes behind') in
    let stand = still-stands OperandStands operand_in stays-operand whole t.checker.table behind'.grows in
    let same = still-known OperandStands operand_in stays-operand whole t.checker.table behind'.grows in
    record {
      finds = record {
        grows = goes.grows;
        scope = goes.scope;
        least = goes.least;
        known = ((stand, behind'.known.0), λ i. record { place = p; value = same i } ∷ behind'.known.1 i);
      };
      names =
          names-two (named_in scope value) (λ scope. named_in_arguments scope others) s1.checker.table t.checker.table (scope_of t1) scope first.names
          (grows_trans s1.checker.table t1.table t.checker.table mid.grows behind'.grows) whole.scope behind.names;
    }

pub gathers-start : (all rest : List Expr) (s : Pass) (so_far : List memory_argument.Argument) → rest ≡ all → so_far ≡ [] → Gathers all rest s s so_far
gathers-start all rest s so_far e e' t more found =
    subst (λ items. FindsArguments all s t (items ++ more)) (sym e') (subst (λ list. FindsArguments list s t more) e found)

pub gathers-more : (all : List Expr) (argument : Expr) (rest rest' : List Expr) (p : Pos) {s0 s s1 : Pass} {t1 : State} {r : Option memory_known.Known} {v : Option memory_operand.Operand} (so_far items : List memory_argument.Argument)
    → p ≡ place_of (expr_tree argument) → rest ≡ argument ∷ rest' → Gathers all rest s0 s so_far
    → Passes IsExpr (expr (scope_of s.checker) (expr_tree argument)) (named_in (scope_of s.checker) (expr_tree argument)) s s1 r → Finds IsOperand (with_known (each_in expr_in s1.checker.table r) (value_rule p)) s1.checker t1 v
    → items ≡ so_far ++ argument_at p v ∷ [] → Gathers all rest' s0 (with_checker s1 t1) items
gathers-more all argument rest rest' p {s0 = s0} {s = s} {s1 = s1} {t1 = t1} {v = v} so_far items here split gathers first mid more_items t more behind =
    let scope = scope_of s.checker in
    let tree = expr_tree argument in
    let others = arguments_of rest' in
    let joined = sym (append_assoc so_far (argument_at p v ∷ []) more) ∙ ap (λ list. list ++ more) (sym more_items) in
    subst (λ list. FindsArguments all s0 t list) joined
    (gathers t (argument_at p v ∷ more)
    (subst (λ list. FindsArguments list s t (argument_at p v ∷ more)) (sym split)
    (subst (λ q. Passes IsItems (arguments_checked (with_argument q (as_value q (expr scope tree)) (argument_values scope others))) (named_in scope tree ++ named_in_arguments scope others) s t (Some (argument_at p v ∷ more))) here
    (passes-more tree others p first mid behind))))

pub gathers-end : {Z : Type 0} (all rest : List Expr) (s0 s : Pass) (values : Vec memory_argument.Argument Z) → rest ≡ [] → Gathers all rest s0 s values.items → Passes IsArguments (arguments_checked (argument_values (scope_of s0.checker) (arguments_of all))) (named_in_arguments (scope_of s0.checker) (arguments_of all)) s0 s (Some values)
gathers-end all rest s0 s values e gathers =
    let none : FindsArguments [] s s [] = record { finds = record { grows = grows_refl s.checker.table; scope = refl; least = refl; known = (tt, refl) }; names = names-none s.checker.table s.named.items } in
    let found = subst (λ items. FindsArguments all s0 s items) (append-nil values.items) (gathers s [] (subst (λ list. FindsArguments list s s []) (sym e) none)) in
    record {
      finds = record { grows = found.finds.grows; scope = found.finds.scope; least = found.finds.least; known = found.finds.known };
      names = found.names;
    }

-- ---- a library function that is called by its name

-- what stands in so many parentheses
pub record Inside (outer inner : ExprTree) (groups : ℕ) : Type 0 where
  pub called : (scope : Scope) (otherwise : Checked Known) → library_called scope 0 outer otherwise ≡ library_called scope groups inner otherwise
  pub named : (scope : Scope) → named_in scope outer ≡ named_in scope inner

pub inside-start : (outer : ExprTree) → Inside outer outer 0
inside-start outer = record { called = λ scope otherwise. refl; named = λ scope. refl }

pub inside-more : (outer inner : ExprTree) (groups : ℕ) (place : Pos) (inner' : ExprTree) → inner ≡ Trees.Parenthesized place inner' → Inside outer inner groups → Inside outer inner' (groups + 1)
inside-more outer inner groups place inner' e inside =
    record {
      called = λ scope otherwise. inside.called scope otherwise ∙ ap (λ tree. library_called scope groups tree otherwise) e ∙ ap (λ n. library_called scope n inner' otherwise) (sym (add-one groups));
      named = λ scope. inside.named scope ∙ ap (named_in scope) e;
    }

-- the same where the count is a sum that was looked at
pub inside-counted : (outer inner : ExprTree) (groups : ℕ) (place : Pos) (inner' : ExprTree) (sum : Option ℕ) (fits : Type 0) (more : ℕ) → SomeIff sum fits (groups + 1) → sum ≡ Some more → inner ≡ Trees.Parenthesized place inner' → Inside outer inner groups → Inside outer inner' more
inside-counted outer inner groups place inner' sum fits more counted is e inside =
    let same = subst (λ (sum : Option ℕ). SomeIff sum fits (groups + 1)) is counted in
    subst (Inside outer inner') (sym same.1) (inside-more outer inner groups place inner' e inside)

-- ---- a call

abbrev at_place : Pos → Option Known → ArgumentValue
at_place place value = record { place = place; value = value }

pub arguments-stay : (old new : Interned) → Grows old new → (list : List memory_argument.Argument) → ArgumentsStand old list → ArgumentsStand new list × (arguments_in new list ≡ arguments_in old list)
arguments-stay old new grows [] h = (tt, refl)
arguments-stay old new grows (a ∷ list) h =
    let first = one a.value h.0 in
    let others = arguments-stay old new grows list h.1 in
    ((first.0, others.0), λ i. at_place a.place (first.1 i) ∷ others.1 i)
  where
    one : (value : Option memory_operand.Operand) → AllStand OperandStands old value → AllStand OperandStands new value × (each_in operand_in new value ≡ each_in operand_in old value)
    one None h = (tt, refl)
    one (Some o) h =
        let kept = stays-operand old new grows o (operand_in old o) (h, refl) in
        (kept.0, ap Some kept.1)

-- the function that is called, where it is a library function that is called by its name
pub passes-library : (function : ExprTree) (s s2 : Pass) (u : State) (field r : Option memory_known.Known) (known : memory_known.Known) → FindsLibrary (scope_of s.checker) function s.checker u field → field ≡ Some known → s2 ≡ with_checker s u → r ≡ Some known
    → Passes IsExpr (library_called (scope_of s.checker) 0 function (expr (scope_of s.checker) function)) (named_in (scope_of s.checker) function) s s2 r
passes-library function s s2 u field r known found is is_pass is_known =
    let scope = scope_of s.checker in
    let checked = library_called scope 0 function (expr scope function) in
    let here = subst (FindsLibrary scope function s.checker u) is found in
    let passes : Passes IsExpr checked (named_in scope function) s (with_checker s u) (Some known) =
    record {
      finds = here.0 (expr scope function);
      names = subst (λ named. Names named u.table s.named.items s.named.items) (sym here.1) (names-none u.table s.named.items);
    } in
    subst (λ (pass : Pass). Passes IsExpr checked (named_in scope function) s pass r) (sym is_pass)
    (subst (λ known. Passes IsExpr checked (named_in scope function) s (with_checker s u) known) (sym is_known) passes)

-- and where it is another expression
pub passes-other : (function : ExprTree) (s s1 s2 : Pass) (u : State) (field r r1 : Option memory_known.Known) → FindsLibrary (scope_of s.checker) function s.checker u field → field ≡ None
    → Passes IsExpr (expr (scope_of u) function) (named_in (scope_of u) function) (with_checker s u) s1 r1 → s2 ≡ s1 → r ≡ r1
    → Passes IsExpr (library_called (scope_of s.checker) 0 function (expr (scope_of s.checker) function)) (named_in (scope_of s.checker) function) s s2 r
passes-other function s s1 s2 u field r r1 found is passes is_pass is_known =
    let scope = scope_of s.checker in
    let checked = library_called scope 0 function (expr scope function) in
    let here = subst (FindsLibrary scope function s.checker u) is found in
    let passes' : Passes IsExpr (expr scope function) (named_in scope function) s s1 r1 =
    subst (λ (state : State). Passes IsExpr (expr (scope_of state) function) (named_in (scope_of state) function) (with_checker s state) s1 r1) here.1 passes in
    subst (λ (pass : Pass). Passes IsExpr checked (named_in scope function) s pass r) (sym is_pass)
    (subst (λ known. Passes IsExpr checked (named_in scope function) s s1 known) (sym is_known)
    (subst (λ checked. Passes IsExpr checked (named_in scope function) s s1 r1) (sym (here.0 (expr scope function))) passes'))

-- the arguments, the function, and the call
pub passes-call : {Z : Type 0} (function : ExprTree) (arguments : ArgumentsTree) (p : Pos) (s0 s1 s2 : Pass) {t : State} (values : Vec memory_argument.Argument Z) (r : Option memory_known.Known) {r' : Option memory_known.Known}
    → Passes IsArguments (arguments_checked (argument_values (scope_of s0.checker) arguments)) (named_in_arguments (scope_of s0.checker) arguments) s0 s1 (Some values)
    → Passes IsExpr (library_called (scope_of s1.checker) 0 function (expr (scope_of s1.checker) function)) (named_in (scope_of s1.checker) function) s1 s2 r
    → Finds IsExpr (with_known (each_in expr_in s2.checker.table r) (call_rule_on p (arguments_in s2.checker.table values.items))) s2.checker t r'
    → Passes IsExpr (call p (library_called (scope_of s0.checker) 0 function (expr (scope_of s0.checker) function)) (argument_values (scope_of s0.checker) arguments)) (named_in_call (scope_of s0.checker) function arguments) s0 (with_checker s2 t) r'
passes-call function arguments p s0 s1 s2 {t = t} values r {r' = r'} first second last =
    let scope = scope_of s0.checker in
    let checked = library_called scope 0 function (expr scope function) in
    let list = (argument_values scope arguments).values in
    let second' = subst (λ scope. Finds IsExpr (library_called scope 0 function (expr scope function)) s1.checker s2.checker r) first.finds.scope second.finds in
    let same = (arguments-stay s1.checker.table s2.checker.table second'.grows values.items first.finds.known.0).1 ∙ first.finds.known.1 in
    let last' = subst (λ list. Finds IsExpr (with_known (each_in expr_in s2.checker.table r) (call_rule_on p list)) s2.checker t r') same last in
    record {
      finds =
          finds-after (finds-goes first.finds)
          (finds-after (finds-goes second')
          (subst (λ known. Finds IsExpr (with_known known (call_rule_on p list)) s2.checker t r') (seen-known ExprStands expr_in s2.checker.table r checked.known second'.known) last'));
      names =
          names-grow s2.checker.table t.table last.grows
          (names-two (named_in_arguments scope arguments) (λ scope. named_in scope function) s1.checker.table s2.checker.table (scope_of s1.checker) scope first.names second.finds.grows first.finds.scope second.names);
    }
