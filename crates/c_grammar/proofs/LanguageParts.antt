-- Behind each part of a row stands what may stand there.
use Rattle.std.proofs.Common.{◌≡◌, ℕ, ◌+◌, ◌<◌, ◌≤◌, ◌⊎◌, inl, inr, Bool, true, false, ◌&&◌, ◌||◌, if◌then◌else◌, List, [], ◌∷◌, ◌++◌, Option, Some, None, is_some, nat_le, sym, refl, ◌∙◌, ap, subst, arith}
use Rattle.std.proofs.lemmas.Bool.{leb-true, le-leb, or_left, or_right}
use Rattle.c_grammar.specs.Table.{Symbol, Terminal, Nonterminal, Tree, Alone, Nothing, Then, Node, leaves, barred, Is, nothing, token, part, IsPart, first, after}
use Rattle.c_grammar.specs.Laws.{Followed}
use Rattle.c_grammar.specs.declared.kind.Kind.{Kind}
use Rattle.c_grammar.specs.declared.kind.Kind.TheVariants.{Name, Else, Literal, OpenBracket, OpenParenthesis, CloseParenthesis, Semicolon, Colon, Question, Dot, Arrow, PlusPlus, MinusMinus}
use Rattle.c_grammar.specs.Kinds.{prefix_level, binary_right, is_assignment, is}
use Rattle.c_grammar.specs.Forms
use Rattle.c_grammar.specs.Chooses.{goes_if, by_binary, by_postfix, postfix_of}
use Rattle.c_grammar.specs.Language.{is_no_else, ends_open, is_open, language}
use Rattle.c_grammar.specs.Follows.{member, follows, after_right, reach_by, reach, Tighter, last_level, last_of, LastTighter, OneOf, EndsExpr, StandsExpr, NotLiteral, NoElseBehind, Ends, Stands}
use Rattle.c_grammar.specs.declared.words.Words.TheVariants.{NoWord}
use Rattle.c_grammar.proofs.LanguageRows.{and_left, and_right, both, is_that_number}
use Rattle.c_grammar.proofs.LanguageTells.{is_same}
use Rattle.c_grammar.proofs.LanguageFollowed.{inside_if, left_expr, subset, larger_set, behind, closers, part_fits, row_fits, first_of_row, one_within}

-- No expression goes on with a token that closes one.
closer_reach : (kind : Kind) → (if member closers kind then reach kind else None) ≡ None
closer_reach Name = refl
closer_reach _ = refl

closer_plain : (kind : Kind) → (if member closers kind then is Literal kind else false) ≡ false
closer_plain Name = refl
closer_plain _ = refl

and_none : (a b : Bool) → a ≡ false → (a && b) ≡ false
and_none a b e = ap (λ x. x && b) e

tighter_none : (level : ℕ) (other : Option ℕ) → other ≡ None → Tighter level other
tighter_none level None e = tt
tighter_none level (Some n) e = absurd (cc e)

not_member : (test : Bool) (kinds : List Kind) (kind : Kind) → is Else kind ≡ test → (if member kinds Else then false else true) ≡ true → member kinds kind ≡ true → is Else kind ≡ false
not_member false kinds kind e h m = e
not_member true kinds kind e h m =
    let there : member kinds Else ≡ true = subst (λ x. member kinds x ≡ true) (sym (is_same Else kind e)) m in
    let clash : false ≡ true = sym (ap (λ (x : Bool). if x then false else true) there) ∙ h in
    absurd (cc clash)

pub and_true : (test : Bool) → (test && true) ≡ false → test ≡ false
and_true true e = e
and_true false e = e

-- how loosely operands bind
abbrev at_most : ℕ → Option ℕ → Bool
at_most most (Some level) = nat_le level most
at_most most None = true

abbrev at_least : ℕ → Option ℕ → Bool
at_least least (Some level) = nat_le least level
at_least least None = true

small_operand : (kind : Kind) → at_most 3 (prefix_level kind) ≡ true
small_operand Name = refl
small_operand _ = refl

large_right : (kind : Kind) → (at_least 3 (binary_right kind) && at_most 12 (binary_right kind)) ≡ true
large_right Name = refl
large_right _ = refl

binary_reach : (kind : Kind) → reach kind ≡ (if is_some (binary_right kind) then after_right (binary_right kind) else reach kind)
binary_reach Name = refl
binary_reach _ = refl

assign_reach : (kind : Kind) → (if is_assignment kind then reach kind else Some 15) ≡ Some 15
assign_reach Name = refl
assign_reach _ = refl

-- no operator is a literal
binary_plain : (kind : Kind) → (is_some (binary_right kind) && is Literal kind) ≡ false
binary_plain Name = refl
binary_plain _ = refl

assign_plain : (kind : Kind) → (is_assignment kind && is Literal kind) ≡ false
assign_plain Name = refl
assign_plain _ = refl

and_second : (a b : Bool) → (a && b) ≡ false → a ≡ true → b ≡ false
and_second true b e h = e
and_second false b e h = absurd (cc h)

-- what a token tells of the expression before it: how loosely that may bind, and at which level it goes on
pub record LeftBy (kind : Kind) (left : ℕ) : Type 0 where
  pub level : ℕ
  pub goes : reach kind ≡ Some level
  pub above : left ≤ level
  pub far : (left ≤ 1) ⊎ ((4 ≤ level) × (left ≤ 13))
  pub word : is Literal kind ≡ false

postfix_by : (kind : Kind) → reach kind ≡ Some 1 → is Literal kind ≡ false → LeftBy kind 1
postfix_by kind e plain = record { level = 1; goes = e; above = omega arith; far = inl (omega arith); word = plain }

binary_by : (kind : Kind) (right : ℕ) → binary_right kind ≡ Some right → LeftBy kind (right + 1)
binary_by kind right e =
    let told : (if is_some (binary_right kind) then after_right (binary_right kind) else reach kind) ≡ Some (right + 1) = ap (λ (x : Option ℕ). if is_some x then after_right x else reach kind) e in
    let bounds : (nat_le 3 right && nat_le right 12) ≡ true = sym (ap (λ (x : Option ℕ). at_least 3 x && at_most 12 x) e) ∙ large_right kind in
    let low : 3 ≤ right = leb-true 3 right (and_left (nat_le 3 right) (nat_le right 12) bounds) in
    let high : right ≤ 12 = leb-true right 12 (and_right (nat_le 3 right) (nat_le right 12) bounds) in
    record { level = right + 1; goes = binary_reach kind ∙ told; above = omega arith; far = inr (omega (arith, low), omega (arith, high)); word = and_second (is_some (binary_right kind)) (is Literal kind) (binary_plain kind) (ap (λ (x : Option ℕ). is_some x) e) }

assign_by : (kind : Kind) → is_assignment kind ≡ true → LeftBy kind 2
assign_by kind e = record { level = 15; goes = sym (ap (λ (x : Bool). if x then reach kind else Some 15) e) ∙ assign_reach kind; above = omega arith; far = inr (omega arith, omega arith); word = and_second (is_assignment kind) (is Literal kind) (assign_plain kind) e }

-- the token that goes on behind a tree
pub record FirstToken (form : Forms.Production) (left : ℕ) : Type 0 where
  pub kind : Kind
  pub others : List (Symbol Kind Forms.Sort)
  pub row : Forms.symbols_of form ≡ Terminal kind ∷ others
  pub by : LeftBy kind left
  pub goes_on : (level own : ℕ) → Forms.level_of_form form ≤ level → own ≤ left → by_postfix level own kind (postfix_of kind) ≡ Some form
  pub tight : left ≤ Forms.level_of_form form

goes_both : (own left least level : ℕ) (form : Forms.Production) (otherwise : Option Forms.Production) → own ≤ left → least ≤ level → goes_if (nat_le own left && nat_le least level) form otherwise ≡ Some form
goes_both own left least level form otherwise le le' = ap (λ x. goes_if x form otherwise) (both (le-leb own left le) (le-leb least level le'))

binary_next : (level own : ℕ) (kind : Kind) → by_postfix level own kind (postfix_of kind) ≡ (if is_some (binary_right kind) then by_binary level own kind (binary_right kind) else by_postfix level own kind (postfix_of kind))
binary_next level own Name = refl
binary_next level own _ = refl

assign_next : (level own : ℕ) (kind : Kind) → by_postfix level own kind (postfix_of kind) ≡ (if is_assignment kind then goes_if (nat_le own 2 && nat_le 15 level) (Forms.Assign kind) None else by_postfix level own kind (postfix_of kind))
assign_next level own Name = refl
assign_next level own _ = refl

binary_goes : (level own : ℕ) (kind : Kind) (right : ℕ) → binary_right kind ≡ Some right → right + 1 ≤ level → own ≤ right + 1 → by_postfix level own kind (postfix_of kind) ≡ Some (Forms.Binary kind right)
binary_goes level own kind right e le le' = binary_next level own kind ∙ ap (λ (x : Option ℕ). if is_some x then by_binary level own kind x else by_postfix level own kind (postfix_of kind)) e ∙ goes_both own (right + 1) (right + 1) level (Forms.Binary kind right) None le' le

assign_goes : (level own : ℕ) (kind : Kind) → is_assignment kind ≡ true → 15 ≤ level → own ≤ 2 → by_postfix level own kind (postfix_of kind) ≡ Some (Forms.Assign kind)
assign_goes level own kind e le le' = assign_next level own kind ∙ ap (λ (x : Bool). if x then goes_if (nat_le own 2 && nat_le 15 level) (Forms.Assign kind) None else by_postfix level own kind (postfix_of kind)) e ∙ goes_both own 2 15 level (Forms.Assign kind) None le' le

left_known : (P : ℕ → Type 0) {left other : ℕ} → P other → Some other ≡ Some left → P left
left_known P {left = left} {other = other} p e =
    let same : other ≡ left = cc e in
    subst P same p

pub first_token : (form : Forms.Production) (left : ℕ) → Forms.is_row form ≡ true → Forms.left_of form ≡ Some left → FirstToken form left
first_token (Forms.Binary kind right) left row e = left_known (FirstToken (Forms.Binary kind right)) (record { kind = kind; others = _; row = refl; by = binary_by kind right (is_that_number (binary_right kind) right row); goes_on = λ level own le le'. binary_goes level own kind right (is_that_number (binary_right kind) right row) le le'; tight = omega arith }) e
first_token (Forms.Assign kind) left row e = left_known (FirstToken (Forms.Assign kind)) (record { kind = kind; others = _; row = refl; by = assign_by kind row; goes_on = λ level own le le'. assign_goes level own kind row le le'; tight = omega arith }) e
first_token Forms.Conditional left row e = left_known (FirstToken Forms.Conditional) (record { kind = Question; others = _; row = refl; by = record { level = 14; goes = refl; above = omega arith; far = inr (omega arith, omega arith); word = refl }; goes_on = λ level own le le'. goes_both own 13 14 level Forms.Conditional None le' le; tight = omega arith }) e
first_token Forms.Index left row e = left_known (FirstToken Forms.Index) (record { kind = OpenBracket; others = _; row = refl; by = postfix_by OpenBracket refl refl; goes_on = λ level own le le'. goes_both own 1 1 level _ None le' le; tight = omega arith }) e
first_token Forms.Call left row e = left_known (FirstToken Forms.Call) (record { kind = OpenParenthesis; others = _; row = refl; by = postfix_by OpenParenthesis refl refl; goes_on = λ level own le le'. goes_both own 1 1 level _ None le' le; tight = omega arith }) e
first_token Forms.Member left row e = left_known (FirstToken Forms.Member) (record { kind = Dot; others = _; row = refl; by = postfix_by Dot refl refl; goes_on = λ level own le le'. goes_both own 1 1 level _ None le' le; tight = omega arith }) e
first_token Forms.PointerMember left row e = left_known (FirstToken Forms.PointerMember) (record { kind = Arrow; others = _; row = refl; by = postfix_by Arrow refl refl; goes_on = λ level own le le'. goes_both own 1 1 level _ None le' le; tight = omega arith }) e
first_token Forms.PostIncrement left row e = left_known (FirstToken Forms.PostIncrement) (record { kind = PlusPlus; others = _; row = refl; by = postfix_by PlusPlus refl refl; goes_on = λ level own le le'. goes_both own 1 1 level _ None le' le; tight = omega arith }) e
first_token Forms.PostDecrement left row e = left_known (FirstToken Forms.PostDecrement) (record { kind = MinusMinus; others = _; row = refl; by = postfix_by MinusMinus refl refl; goes_on = λ level own le le'. goes_both own 1 1 level _ None le' le; tight = omega arith }) e
first_token _ left row e = absurd (cc e)

pub operand_small : (kind : Kind) (operand : ℕ) → Forms.is_this_number (prefix_level kind) operand ≡ true → operand ≤ 3
operand_small kind operand e = leb-true operand 3 (sym (ap (at_most 3) (is_that_number (prefix_level kind) operand e)) ∙ small_operand kind)

far_level : (left level least : ℕ) → (left ≤ 1) ⊎ ((4 ≤ level) × (left ≤ 13)) → 2 ≤ left → least ≤ 3 → least < level
far_level left level least (inl le) two small = absurd (omega (arith, le, two))
far_level left level least (inr far) two small = omega (arith, far.0, small)

far_bound : (left level : ℕ) → (left ≤ 1) ⊎ ((4 ≤ level) × (left ≤ 13)) → left ≤ 13
far_bound left level (inl le) = omega (arith, le)
far_bound left level (inr far) = far.1

-- The last part of an expression that goes on binds tighter than what goes on behind it.
last_tighter : (form : Forms.Production) (left level : ℕ) → Forms.level_of_form form ≤ left → left ≤ level → (left ≤ 1) ⊎ ((4 ≤ level) × (left ≤ 13)) → Forms.is_row form ≡ true → LastTighter (last_level form) (Some level)
last_tighter Forms.Cast left level own above far row = far_level left level 3 far (omega (arith, own)) (omega arith)
last_tighter Forms.SizeofRow left level own above far row = far_level left level 2 far (omega (arith, own)) (omega arith)
last_tighter (Forms.Prefix kind operand) left level own above far row = far_level left level operand far (omega (arith, own)) (operand_small kind operand row)
last_tighter (Forms.Binary kind right) left level own above far row = omega (arith, own, above)
last_tighter (Forms.Assign kind) left level own above far row = absurd (omega (arith, own, far_bound left level far))
last_tighter Forms.Conditional left level own above far row = absurd (omega (arith, own, far_bound left level far))
last_tighter _ left level own above far row = tt

no_three : (right : Option ℕ) → at_least 3 right ≡ true → Tighter 2 (after_right right) → Tighter 3 (after_right right)
no_three None e h = tt
no_three (Some right) e h =
    let low : 3 ≤ right = leb-true 3 right e in
    omega (arith, low)

three_of : (assigns questions : Bool) (right : Option ℕ) → at_least 3 right ≡ true → Tighter 2 (if assigns then Some 15 else if questions then Some 14 else after_right right) → Tighter 3 (if assigns then Some 15 else if questions then Some 14 else after_right right)
three_of true questions right e h = omega arith
three_of false true right e h = omega arith
three_of false false right e h = no_three right e h

three_by : (kind : Kind) (form : Option Forms.Production) → Tighter 2 (reach_by kind form) → Tighter 3 (reach_by kind form)
three_by kind (Some form) h = absurd (omega (arith, h))
three_by kind None h = three_of (is_assignment kind) (is kind Question) (binary_right kind) (and_left (at_least 3 (binary_right kind)) (at_most 12 (binary_right kind)) (large_right kind)) h

looser : (low high : ℕ) (other : Option ℕ) → low ≤ high → Tighter high other → Tighter low other
looser low high None le h = tt
looser low high (Some n) le h = omega (arith, le, h)

-- What stands behind an expression where it ends may stand behind its last part.
pub last_ends : (form : Forms.Production) (level : ℕ) (kind : Kind) → Forms.level_of_form form ≤ level → Forms.is_row form ≡ true → Tighter level (reach kind) → LastTighter (last_level form) (reach kind)
last_ends Forms.Cast level kind own row h = looser 3 level (reach kind) own h
last_ends Forms.SizeofRow level kind own row h = looser 2 level (reach kind) own h
last_ends (Forms.Prefix sign operand) level kind own row h = looser operand 3 (reach kind) (operand_small sign operand row) (three_by kind (postfix_of kind) (looser 2 level (reach kind) own h))
last_ends (Forms.Binary sign right) level kind own row h = looser right level (reach kind) (omega (arith, own)) h
last_ends (Forms.Assign sign) level kind own row h = looser 15 level (reach kind) own h
last_ends Forms.Conditional level kind own row h = looser 14 level (reach kind) own h
last_ends _ level kind own row h = tt

module _ {Leaf : Type 0} (kind_of : Leaf → Kind) (sample : Kind → Leaf) where
  shut_expr : (level : ℕ) (kinds : List Kind) (text : List Leaf) → subset kinds closers ≡ true → OneOf kind_of (Some kinds) text → EndsExpr kind_of level text
  shut_expr level kinds [] e h = h
  shut_expr level kinds (leaf ∷ text) e h =
      let closer : member closers (kind_of leaf) ≡ true = larger_set kinds closers (kind_of leaf) e h in
      (inside_if (member closers (kind_of leaf)) (is Literal (kind_of leaf)) false false (closer_plain (kind_of leaf)) closer, tighter_none level (reach (kind_of leaf)) (inside_if (member closers (kind_of leaf)) (reach (kind_of leaf)) None None (closer_reach (kind_of leaf)) closer))

  no_else : (open_end : Bool) (kinds : List Kind) (text : List Leaf) → (if member kinds Else then false else true) ≡ true → OneOf kind_of (Some kinds) text → NoElseBehind kind_of open_end text
  no_else open_end kinds [] e h = h
  no_else open_end kinds (leaf ∷ text) e h = and_none (is Else (kind_of leaf)) open_end (not_member (is Else (kind_of leaf)) kinds (kind_of leaf) refl e h)

  pub part_ends : (sort : Forms.Sort) (level : ℕ) (tree : Tree Leaf Forms.Production) (text : List Leaf) (others : Option (List Kind)) → part_fits sort others ≡ true → OneOf kind_of others text → Ends kind_of sort level tree text
  part_ends Forms.Expr level tree text None e h = absurd (cc e)
  part_ends Forms.Expr level tree text (Some kinds) e h = shut_expr level kinds text e h
  part_ends Forms.Stmt level tree text None e h = absurd (cc e)
  part_ends Forms.Stmt level tree text (Some kinds) e h = no_else (is_open tree) kinds text e h
  part_ends Forms.ElseOpt level tree text others e h = absurd (cc e)
  part_ends Forms.Literals level tree text others e h = absurd (cc e)
  part_ends Forms.SizeofOperand level tree text others e h = absurd (cc e)
  part_ends sort level tree text others e h = one_within kind_of sample (follows sort) others text e h

  rows : {symbols : List (Symbol Kind Forms.Sort)} {trees : Tree Leaf Forms.Production} → Is (language kind_of sample) symbols trees → (text : List Leaf) (last : Option (List Kind)) → OneOf kind_of last text → row_fits symbols last ≡ true → Followed (language kind_of sample) (Ends kind_of) symbols trees text
  rows nothing text last h e = tt
  rows (token leaf fits others) text last h e = rows others text last h e
  rows (part {sort = sort} {level = level} {symbols = symbols} {tree = tree} {others = others} is is_others free) text last h e =
      (part_ends sort level tree (leaves others ++ text) (behind symbols last) (and_left (part_fits sort (behind symbols last)) (row_fits symbols last) e) (first_of_row kind_of sample is_others text last h), rows is_others text last h (and_right (part_fits sort (behind symbols last)) (row_fits symbols last) e))

  pub stands_one_of : (sort : Forms.Sort) (level : ℕ) (tree : Tree Leaf Forms.Production) (text : List Leaf) → Stands kind_of sort level tree text → OneOf kind_of (follows sort) text
  stands_one_of Forms.Expr level tree text h = tt
  stands_one_of Forms.Stmt level tree text h = tt
  stands_one_of Forms.ElseOpt level tree text h = tt
  stands_one_of Forms.Literals level tree text h = tt
  stands_one_of Forms.SizeofOperand level tree text h = tt
  stands_one_of sort level tree text h = h

  -- the last part of an expression
  last_expr : (form : Forms.Production) (parts : Tree Leaf Forms.Production) (level : ℕ) (text : List Leaf) → last_level form ≡ Some level → StandsExpr kind_of (Node form parts) text → EndsExpr kind_of level text
  last_expr form parts level [] e h = h
  last_expr form parts level (leaf ∷ text) e h = (h.0, subst (λ x. LastTighter x (reach (kind_of leaf))) e h.1)

  no_literal : (tree : Tree Leaf Forms.Production) (text : List Leaf) → StandsExpr kind_of tree text → NotLiteral kind_of text
  no_literal tree [] h = h
  no_literal tree (leaf ∷ text) h = h.0

  at_token : (kind : Kind) (leaf : Leaf) (text : List Leaf) → is kind (kind_of leaf) ≡ true → OneOf kind_of (Some (kind ∷ [])) (leaf ∷ text)
  at_token kind leaf text e = ap (λ x. x || false) e

  -- the statement at the end of a row
  and_or : (test one other : Bool) → (test && (one || other)) ≡ false → (test && other) ≡ false
  and_or false one other e = refl
  and_or true true other e = absurd (cc e)
  and_or true false other e = e

  shut_inside : (form : Forms.Production) (parts : Tree Leaf Forms.Production) (text : List Leaf) → NoElseBehind kind_of (ends_open (Node form parts)) text → NoElseBehind kind_of (ends_open parts) text
  shut_inside form parts [] h = h
  shut_inside form parts (leaf ∷ text) h = and_or (is Else (kind_of leaf)) (is_no_else form) (ends_open parts) h

  last_stmt : {sort : Forms.Sort} {level : ℕ} {tree : Tree Leaf Forms.Production} → IsPart (language kind_of sample) sort level tree → (text : List Leaf) → NoElseBehind kind_of (ends_open tree) text → NoElseBehind kind_of (is_open tree) text
  last_stmt (first {parts = parts} form own_sort own_row own_left own_level is) text h = shut_inside form parts text h
  last_stmt (after {left = left} {parts = parts} form left_level own_sort own_row own_left own_level left_is is) text h = shut_inside form (Then left parts) text h

  -- An `else` part is empty or begins with a token.
  pub data ElsePart : Tree Leaf Forms.Production → Type 0 where
    no_else_part : ElsePart (Node Forms.NoElse Nothing)
    an_else_part : (leaf : Leaf) (trees : Tree Leaf Forms.Production) → ElsePart (Node Forms.ElseRow (Then (Alone leaf) trees))

  else_form : (form : Forms.Production) (parts : Tree Leaf Forms.Production) → Forms.sort_of form ≡ Forms.ElseOpt → Is (language kind_of sample) (Forms.symbols_of form) parts → ElsePart (Node form parts)
  else_form Forms.NoElse parts e nothing = no_else_part
  else_form Forms.ElseRow parts e (token {others = others} leaf fits trees) = an_else_part leaf others
  else_form _ parts e trees = absurd (cc e)

  else_part : {sort : Forms.Sort} {level : ℕ} {tree : Tree Leaf Forms.Production} → IsPart (language kind_of sample) sort level tree → sort ≡ Forms.ElseOpt → ElsePart tree
  else_part (first {parts = parts} form own_sort own_row own_left own_level trees) e = else_form form parts (own_sort ∙ e) trees
  else_part (after form left_level own_sort own_row own_left own_level left_is trees) e =
      let clash : Forms.Expr ≡ Forms.ElseOpt = sym (left_expr form left_level own_left) ∙ own_sort ∙ e in
      absurd (cc clash)

  -- the statement before it
  before_else : (stmt tree : Tree Leaf Forms.Production) (text : List Leaf) → ElsePart tree → barred (language kind_of sample) stmt (leaves tree ++ []) ≡ false → NoElseBehind kind_of (ends_open tree) text → NoElseBehind kind_of (is_open stmt) ((leaves tree ++ []) ++ text)
  before_else stmt tree [] no_else_part free h = h
  before_else stmt tree (leaf ∷ text) no_else_part free h = and_none (is Else (kind_of leaf)) (is_open stmt) (and_true (is Else (kind_of leaf)) h)
  before_else stmt tree text (an_else_part leaf trees) free h = free

  at_semicolon : (leaf : Leaf) (text : List Leaf) → is Semicolon (kind_of leaf) ≡ true → OneOf kind_of (follows Forms.ExprOpt) (leaf ∷ text)
  at_semicolon leaf text e = or_left (is Semicolon (kind_of leaf)) (is CloseParenthesis (kind_of leaf) || false) e

  at_close : (leaf : Leaf) (text : List Leaf) → is CloseParenthesis (kind_of leaf) ≡ true → OneOf kind_of (follows Forms.ExprOpt) (leaf ∷ text)
  at_close leaf text e = or_right (is Semicolon (kind_of leaf)) (is CloseParenthesis (kind_of leaf) || false) (or_left (is CloseParenthesis (kind_of leaf)) false e)

  pub row_follows : (form : Forms.Production) (level : ℕ) (parts : Tree Leaf Forms.Production) (text : List Leaf) → Forms.is_row form ≡ true → Forms.left_of form ≡ None → Is (language kind_of sample) (Forms.symbols_of form) parts → Stands kind_of (Forms.sort_of form) level (Node form parts) text → Followed (language kind_of sample) (Ends kind_of) (Forms.symbols_of form) parts text
  row_follows (Forms.BaseWord own words kind next) level parts text row none (token leaf fits (part {tree = tree} tree_is nothing free)) h = (h, tt)
  row_follows (Forms.BaseStruct true) level parts text row none trees h = rows trees text (follows (Forms.Base true NoWord)) (stands_one_of (Forms.Base true NoWord) level (Node (Forms.BaseStruct true) parts) text h) refl
  row_follows (Forms.BaseStruct false) level parts text row none trees h = rows trees text (follows (Forms.Base false NoWord)) (stands_one_of (Forms.Base false NoWord) level (Node (Forms.BaseStruct false) parts) text h) refl
  row_follows (Forms.OptionalPointer true) level parts text row none trees h = rows trees text (follows (Forms.Optional true)) h refl
  row_follows (Forms.OptionalPointer false) level parts text row none trees h = rows trees text (follows (Forms.Optional false)) h refl
  row_follows (Forms.InnerPointer true) level parts text row none trees h = rows trees text (follows (Forms.Inner true)) h refl
  row_follows (Forms.InnerPointer false) level parts text row none trees h = rows trees text (follows (Forms.Inner false)) h refl
  row_follows (Forms.ParamName true) level parts text row none trees h = rows trees text (follows (Forms.ParamDirect true)) h refl
  row_follows (Forms.ParamName false) level parts text row none trees h = absurd (cc row)
  row_follows Forms.Text level parts text row none (token leaf fits (part {tree = tree} tree_is nothing free)) h = (no_literal (Node Forms.Text (Then (Alone leaf) (Then tree Nothing))) text h, tt)
  row_follows Forms.MoreLiteral level parts text row none (token leaf fits (part {tree = tree} tree_is nothing free)) h = (h, tt)
  row_follows Forms.Cast level parts text row none (token leaf fits (part {tree = type} type_is (token close closes (part {tree = tree} tree_is nothing free)) free')) h =
      (at_token CloseParenthesis close ((leaves tree ++ []) ++ text) closes, (last_expr Forms.Cast (Then (Alone leaf) (Then type (Then (Alone close) (Then tree Nothing)))) 3 text refl h, tt))
  row_follows Forms.SizeofRow level parts text row none (token leaf fits (part {tree = tree} tree_is nothing free)) h = (last_expr Forms.SizeofRow (Then (Alone leaf) (Then tree Nothing)) 2 text refl h, tt)
  row_follows Forms.SizeofExpr level parts text row none (part {tree = tree} tree_is nothing free) h = (h, tt)
  row_follows (Forms.Prefix kind operand) level parts text row none (token leaf fits (part {tree = tree} tree_is nothing free)) h = (last_expr (Forms.Prefix kind operand) (Then (Alone leaf) (Then tree Nothing)) operand text refl h, tt)
  row_follows (Forms.Binary kind right) level parts text row none trees h = absurd (cc none)
  row_follows (Forms.Assign kind) level parts text row none trees h = absurd (cc none)
  row_follows Forms.Conditional level parts text row none trees h = absurd (cc none)
  row_follows Forms.IfRow level parts text row none (token word word_fits (token open_leaf opens (part {tree = test} test_is (token close closes (part {tree = stmt} stmt_is (part {tree = other} other_is nothing free'') free')) free))) h =
      (part_ends Forms.Expr 15 test (close ∷ (leaves stmt ++ leaves other ++ []) ++ text) (Some (CloseParenthesis ∷ [])) refl (at_token CloseParenthesis close ((leaves stmt ++ leaves other ++ []) ++ text) closes), (before_else stmt other text (else_part other_is refl) free' h, (h, tt)))
  row_follows Forms.WhileRow level parts text row none (token word word_fits (token open_leaf opens (part {tree = test} test_is (token close closes (part {tree = stmt} stmt_is nothing free')) free))) h =
      (part_ends Forms.Expr 15 test (close ∷ (leaves stmt ++ []) ++ text) (Some (CloseParenthesis ∷ [])) refl (at_token CloseParenthesis close ((leaves stmt ++ []) ++ text) closes), (last_stmt stmt_is text h, tt))
  row_follows Forms.ForRow level parts text row none (token word word_fits (token open_leaf opens (part {tree = start} start_is (part {tree = test} test_is (token middle stops (part {tree = step} step_is (token close closes (part {tree = stmt} stmt_is nothing free4)) free3)) free2) free1))) h =
      (tt, (at_semicolon middle ((leaves step ++ close ∷ leaves stmt ++ []) ++ text) stops, (at_close close ((leaves stmt ++ []) ++ text) closes, (last_stmt stmt_is text h, tt))))
  row_follows Forms.ElseRow level parts text row none (token word word_fits (part {tree = stmt} stmt_is nothing free)) h = (last_stmt stmt_is text h, tt)
  row_follows form level parts text row none trees h = rows trees text (follows (Forms.sort_of form)) (stands_one_of (Forms.sort_of form) level (Node form parts) text h) refl

  -- what goes on behind a tree
  left_part : {sort : Forms.Sort} {left : ℕ} {tree : Tree Leaf Forms.Production} → IsPart (language kind_of sample) sort left tree → (level : ℕ) → left ≤ level → (left ≤ 1) ⊎ ((4 ≤ level) × (left ≤ 13)) → LastTighter (last_of tree) (Some level)
  left_part {left = left} (first form own_sort own_row own_left own_level trees) level above far = last_tighter form left level own_level above far own_row
  left_part {left = left} (after form left_level own_sort own_row own_left own_level left_is trees) level above far = last_tighter form left level own_level above far own_row

  left_stands : {left : ℕ} {tree parts : Tree Leaf Forms.Production} {kind : Kind} {others : List (Symbol Kind Forms.Sort)} → IsPart (language kind_of sample) Forms.Expr left tree → LeftBy kind left → Is (language kind_of sample) (Terminal kind ∷ others) parts → (text : List Leaf) → StandsExpr kind_of tree (leaves parts ++ text)
  left_stands {left = left} {tree = tree} {kind = kind} left_is by (token leaf fits trees) text =
      let same : kind ≡ kind_of leaf = is_same kind (kind_of leaf) fits in
      let tighter = left_part left_is by.level by.above by.far in
      let level : Some by.level ≡ reach (kind_of leaf) = sym by.goes ∙ ap reach same in
      (sym (ap (is Literal) same) ∙ by.word, subst (λ x. LastTighter (last_of tree) x) level tighter)

  right_follows : (kind : Kind) (level : ℕ) (form : Forms.Production) (left parts : Tree Leaf Forms.Production) (text : List Leaf) → last_level form ≡ Some level → Is (language kind_of sample) (Terminal kind ∷ Nonterminal Forms.Expr level ∷ []) parts → StandsExpr kind_of (Node form (Then left parts)) text → Followed (language kind_of sample) (Ends kind_of) (Terminal kind ∷ Nonterminal Forms.Expr level ∷ []) parts text
  right_follows kind level form left parts text last (token leaf fits (part {tree = tree} tree_is nothing free)) h = (last_expr form (Then left (Then (Alone leaf) (Then tree Nothing))) level text last h, tt)

  pub next_follows : (form : Forms.Production) (left_level : ℕ) (left parts : Tree Leaf Forms.Production) (text : List Leaf) → Forms.left_of form ≡ Some left_level → Is (language kind_of sample) (Forms.symbols_of form) parts → StandsExpr kind_of (Node form (Then left parts)) text → Followed (language kind_of sample) (Ends kind_of) (Forms.symbols_of form) parts text
  next_follows (Forms.Binary kind right) left_level left parts text e trees h = right_follows kind right (Forms.Binary kind right) left parts text refl trees h
  next_follows (Forms.Assign kind) left_level left parts text e trees h = right_follows kind 15 (Forms.Assign kind) left parts text refl trees h
  next_follows Forms.Conditional left_level left parts text e (token leaf fits (part {tree = one} one_is (token middle stops (part {tree = other} other_is nothing free')) free)) h =
      (part_ends Forms.Expr 15 one (middle ∷ (leaves other ++ []) ++ text) (Some (Colon ∷ [])) refl (at_token Colon middle ((leaves other ++ []) ++ text) stops), (last_expr Forms.Conditional (Then left (Then (Alone leaf) (Then one (Then (Alone middle) (Then other Nothing))))) 14 text refl h, tt))
  next_follows Forms.Index left_level left parts text e trees h = rows trees text None tt refl
  next_follows Forms.Call left_level left parts text e trees h = rows trees text None tt refl
  next_follows Forms.Member left_level left parts text e trees h = rows trees text None tt refl
  next_follows Forms.PointerMember left_level left parts text e trees h = rows trees text None tt refl
  next_follows Forms.PostIncrement left_level left parts text e trees h = rows trees text None tt refl
  next_follows Forms.PostDecrement left_level left parts text e trees h = rows trees text None tt refl
  next_follows _ left_level left parts text e trees h = absurd (cc e)

  pub left_follows : (sort : Forms.Sort) (level : ℕ) (form : Forms.Production) (left_level : ℕ) (left parts : Tree Leaf Forms.Production) (text : List Leaf) → Forms.sort_of form ≡ sort → Forms.is_row form ≡ true → Forms.left_of form ≡ Some left_level → IsPart (language kind_of sample) sort left_level left → Is (language kind_of sample) (Forms.symbols_of form) parts → Stands kind_of sort level (Node form (Then left parts)) text → Followed (language kind_of sample) (Ends kind_of) (Forms.symbols_of form) parts text × Stands kind_of sort level left (leaves parts ++ text)
  left_follows sort level form left_level left parts text own_sort own_row own_left left_is trees h =
      let expr : sort ≡ Forms.Expr = sym own_sort ∙ left_expr form left_level own_left in
      let h' = subst (λ s. Stands kind_of s level (Node form (Then left parts)) text) expr h in
      let left_is' = subst (λ s. IsPart (language kind_of sample) s left_level left) expr left_is in
      let first_one = first_token form left_level own_row own_left in
      let trees' = subst (λ s. Is (language kind_of sample) s parts) first_one.row trees in
      (next_follows form left_level left parts text own_left trees h', subst (λ s. Stands kind_of s level left (leaves parts ++ text)) (sym expr) (left_stands left_is' first_one.by trees' text))
