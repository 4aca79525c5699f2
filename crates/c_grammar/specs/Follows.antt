-- What a tree of a sort begins with, and what stands behind it where it ends.
use Rattle.std.specs.Prelude.{◌≡◌, ℕ, ◌+◌, ◌<◌, Bool, true, false, ◌&&◌, ◌||◌, if◌then◌else◌, List, [], ◌∷◌, ◌++◌, Option, Some, None}
use Rattle.c_grammar.specs.Table.{Tree, Alone, Nothing, Then, Node}
use Rattle.c_grammar.specs.declared.kind.Kind.{Kind}
use Rattle.c_grammar.specs.declared.kind.Kind.TheVariants.{Name, Integer, Character, Literal, End, Const, Void, Char, Short, Int, Long, Signed, Unsigned, Struct, Static, Extern, Sizeof, Null, EndOfFile, If, Else, While, Do, For, Switch, Case, Default, Break, Continue, Return, OpenParenthesis, CloseParenthesis, OpenBrace, CloseBrace, OpenBracket, CloseBracket, Semicolon, Comma, Question, PlusPlus, MinusMinus, Star, Plus, Minus, Ampersand, Tilde, Exclamation, Equal}
use Rattle.c_grammar.specs.Kinds.{binary_right, is_assignment, is}
use Rattle.c_grammar.specs.Forms
use Rattle.c_grammar.specs.Chooses.{postfix_of}
use Rattle.c_grammar.specs.Language.{ends_open, is_open}
use Rattle.c_grammar.specs.declared.words.Words.TheVariants.{FullType}
use Rattle.c_grammar.specs.declared.words.Words.{Words}

abbrev pub member : List Kind → Kind → Bool
member [] kind = false
member (one ∷ others) kind = is one kind || member others kind

abbrev pub type_words : List Kind
type_words = Const ∷ Void ∷ Char ∷ Short ∷ Int ∷ Long ∷ Signed ∷ Unsigned ∷ Struct ∷ []

abbrev pub item_words : List Kind
item_words = Static ∷ Extern ∷ type_words

abbrev pub expr_words : List Kind
expr_words = Name ∷ Integer ∷ Character ∷ Literal ∷ Null ∷ EndOfFile ∷ OpenParenthesis ∷ Sizeof ∷ PlusPlus ∷ MinusMinus ∷ Star ∷ Ampersand ∷ Plus ∷ Minus ∷ Tilde ∷ Exclamation ∷ []

abbrev pub stmt_words : List Kind
stmt_words = OpenBrace ∷ Semicolon ∷ If ∷ While ∷ Do ∷ For ∷ Switch ∷ Break ∷ Continue ∷ Return ∷ expr_words

abbrev pub base_words : Words → List Kind
base_words FullType = Const ∷ []
base_words _ = type_words

abbrev pub direct_words : Bool → List Kind
direct_words true = Name ∷ OpenParenthesis ∷ OpenBracket ∷ []
direct_words false = OpenParenthesis ∷ OpenBracket ∷ []

-- the first tokens of the trees of a sort
abbrev pub begins : Forms.Sort → List Kind
begins Forms.Program = End ∷ item_words
begins Forms.Items = item_words
begins Forms.Item = item_words
begins Forms.StructTail = Semicolon ∷ Const ∷ Star ∷ Name ∷ OpenParenthesis ∷ []
begins Forms.Declared = Star ∷ Name ∷ OpenParenthesis ∷ []
begins Forms.AfterDeclarator = OpenBrace ∷ Equal ∷ Comma ∷ Semicolon ∷ []
begins Forms.MembersOpt = OpenBrace ∷ []
begins Forms.MemberSort = type_words
begins Forms.MembersMore = CloseBrace ∷ type_words
begins Forms.MemberMore = Semicolon ∷ Comma ∷ []
begins (Forms.Base own words) = base_words words
begins Forms.FirstValue = Equal ∷ []
begins Forms.DeclaratorsMore = Semicolon ∷ Comma ∷ []
begins Forms.Init = OpenBrace ∷ expr_words
begins Forms.InitMore = CloseBrace ∷ Comma ∷ []
begins Forms.InitNext = CloseBrace ∷ OpenBrace ∷ expr_words
begins Forms.Declarator = Star ∷ Name ∷ OpenParenthesis ∷ []
begins Forms.Stars = Star ∷ []
begins Forms.AfterStar = Star ∷ Const ∷ []
begins Forms.Direct = Name ∷ OpenParenthesis ∷ []
begins Forms.Suffixes = OpenBracket ∷ OpenParenthesis ∷ []
begins Forms.Length = expr_words
begins Forms.Params = type_words
begins Forms.ParamsMore = Comma ∷ []
begins Forms.Param = type_words
begins Forms.Type_name = type_words
begins (Forms.Optional named) = Star ∷ direct_words named
begins (Forms.Inner named) = Star ∷ direct_words named
begins (Forms.DirectOptional named) = direct_words named
begins (Forms.ParamDirect named) = direct_words named
begins Forms.Stmt = stmt_words
begins Forms.Body = OpenBrace ∷ []
begins Forms.BlockItems = CloseBrace ∷ type_words ++ stmt_words
begins Forms.Declaration = type_words
begins Forms.ElseOpt = Else ∷ []
begins Forms.ForFirst = Semicolon ∷ type_words ++ expr_words
begins Forms.ExprOpt = expr_words
begins Forms.SwitchItems = CloseBrace ∷ Case ∷ Default ∷ stmt_words
begins Forms.ReturnValue = Semicolon ∷ expr_words
begins Forms.Expr = expr_words
begins Forms.Literals = Literal ∷ []
begins Forms.Arguments = expr_words
begins Forms.ArgumentsMore = Comma ∷ []
begins Forms.SizeofOperand = expr_words

-- May a tree of the sort have no token?
abbrev pub may_lack : Forms.Sort → Bool
may_lack Forms.Items = true
may_lack Forms.MembersOpt = true
may_lack (Forms.Base own words) = Forms.is_type words
may_lack Forms.FirstValue = true
may_lack Forms.Stars = true
may_lack Forms.AfterStar = true
may_lack Forms.Suffixes = true
may_lack Forms.Length = true
may_lack Forms.Params = true
may_lack Forms.ParamsMore = true
may_lack (Forms.Optional named) = true
may_lack (Forms.DirectOptional named) = true
may_lack Forms.ElseOpt = true
may_lack Forms.ExprOpt = true
may_lack Forms.Literals = true
may_lack Forms.Arguments = true
may_lack Forms.ArgumentsMore = true
may_lack _ = false

-- the tokens that may stand behind a declarator, and behind one that may lack its name
abbrev pub after_declarator : List Kind
after_declarator = OpenBrace ∷ Equal ∷ Comma ∷ Semicolon ∷ CloseParenthesis ∷ []

abbrev pub after_optional : List Kind
after_optional = Comma ∷ CloseParenthesis ∷ []

-- The tokens that may stand behind a tree of a sort; `None` where its own last token tells its end, or where that hangs
-- on the tree.
abbrev pub follows : Forms.Sort → Option (List Kind)
follows Forms.Items = Some (End ∷ [])
follows Forms.MembersOpt = Some (Semicolon ∷ Const ∷ Star ∷ Name ∷ OpenParenthesis ∷ OpenBracket ∷ Comma ∷ CloseParenthesis ∷ [])
follows (Forms.Base own words) = Some (Star ∷ Name ∷ OpenParenthesis ∷ OpenBracket ∷ Comma ∷ CloseParenthesis ∷ [])
follows Forms.FirstValue = Some (Semicolon ∷ Comma ∷ [])
follows Forms.Init = Some (Semicolon ∷ Comma ∷ CloseBrace ∷ [])
follows Forms.Declarator = Some after_declarator
follows Forms.Stars = Some (Name ∷ OpenParenthesis ∷ [])
follows Forms.AfterStar = Some (Name ∷ OpenParenthesis ∷ OpenBracket ∷ Comma ∷ CloseParenthesis ∷ [])
follows Forms.Direct = Some after_declarator
follows Forms.Suffixes = Some after_declarator
follows Forms.Length = Some (CloseBracket ∷ [])
follows Forms.Params = Some (CloseParenthesis ∷ [])
follows Forms.ParamsMore = Some (CloseParenthesis ∷ [])
follows Forms.Param = Some after_optional
follows Forms.Type_name = Some (CloseParenthesis ∷ [])
follows (Forms.Optional named) = Some after_optional
follows (Forms.Inner named) = Some after_optional
follows (Forms.DirectOptional named) = Some after_optional
follows (Forms.ParamDirect named) = Some after_optional
follows Forms.ExprOpt = Some (Semicolon ∷ CloseParenthesis ∷ [])
follows Forms.Arguments = Some (CloseParenthesis ∷ [])
follows Forms.ArgumentsMore = Some (CloseParenthesis ∷ [])
follows _ = None

-- the level of an expression that goes on with a token
abbrev pub after_right : Option ℕ → Option ℕ
after_right (Some right) = Some (right + 1)
after_right None = None

abbrev pub reach_by : Kind → Option Forms.Production → Option ℕ
reach_by kind (Some form) = Some 1
reach_by kind None = if is_assignment kind then Some 15 else if is kind Question then Some 14 else after_right (binary_right kind)

abbrev pub reach : Kind → Option ℕ
reach kind = reach_by kind (postfix_of kind)

-- Is an expression of a level too tight for that?
abbrev pub Tighter : ℕ → Option ℕ → Type 0
Tighter level (Some other) = level < other
Tighter level None = Unit {0}

-- how loosely the last part of an expression may bind
abbrev pub last_level : Forms.Production → Option ℕ
last_level Forms.Cast = Some 3
last_level Forms.SizeofRow = Some 2
last_level (Forms.Prefix kind operand) = Some operand
last_level (Forms.Binary kind right) = Some right
last_level (Forms.Assign kind) = Some 15
last_level Forms.Conditional = Some 14
last_level _ = None

abbrev pub last_of : {Leaf : Type 0} → Tree Leaf Forms.Production → Option ℕ
last_of (Alone leaf) = None
last_of Nothing = None
last_of (Then first others) = None
last_of (Node form parts) = last_level form

abbrev pub LastTighter : Option ℕ → Option ℕ → Type 0
LastTighter (Some level) other = Tighter level other
LastTighter None other = Unit {0}

module _ {Leaf : Type 0} (kind_of : Leaf → Kind) where
  -- One of these stands first.
  abbrev pub OneOf : Option (List Kind) → List Leaf → Type 0
  OneOf None text = Unit {0}
  OneOf (Some kinds) [] = ⊥
  OneOf (Some kinds) (leaf ∷ text) = member kinds (kind_of leaf) ≡ true

  -- behind an expression, where no expression of the level goes on
  abbrev pub EndsExpr : ℕ → List Leaf → Type 0
  EndsExpr level [] = ⊥
  EndsExpr level (leaf ∷ text) = (is Literal (kind_of leaf) ≡ false) × Tighter level (reach (kind_of leaf))

  abbrev pub StandsExpr : Tree Leaf Forms.Production → List Leaf → Type 0
  StandsExpr tree [] = ⊥
  StandsExpr tree (leaf ∷ text) = (is Literal (kind_of leaf) ≡ false) × LastTighter (last_of tree) (reach (kind_of leaf))

  abbrev pub NotLiteral : List Leaf → Type 0
  NotLiteral [] = ⊥
  NotLiteral (leaf ∷ text) = is Literal (kind_of leaf) ≡ false

  -- No `else` stands behind a tree that ends in an `if` without one.
  abbrev pub NoElseBehind : Bool → List Leaf → Type 0
  NoElseBehind open_end [] = ⊥
  NoElseBehind open_end (leaf ∷ text) = (is Else (kind_of leaf) && open_end) ≡ false

  -- what may stand behind a tree where it ends
  abbrev pub Ends : Forms.Sort → ℕ → Tree Leaf Forms.Production → List Leaf → Type 0
  Ends Forms.Expr level tree text = EndsExpr level text
  Ends Forms.SizeofOperand level tree text = EndsExpr 2 text
  Ends Forms.Literals level tree text = NotLiteral text
  Ends Forms.Stmt level tree text = NoElseBehind (is_open tree) text
  Ends Forms.ElseOpt level tree text = NoElseBehind (ends_open tree) text
  Ends sort level tree text = OneOf (follows sort) text

  -- and behind one that may go on
  abbrev pub Stands : Forms.Sort → ℕ → Tree Leaf Forms.Production → List Leaf → Type 0
  Stands Forms.Expr level tree text = StandsExpr tree text
  Stands sort level tree text = Ends sort level tree text
