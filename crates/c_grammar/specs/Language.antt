-- The grammar of the whole language as a table, over any leaves of which the kind is known.
use Rattle.std.specs.Prelude.{ℕ, Bool, true, false, ◌&&◌, ◌||◌, List, [], ◌∷◌}
use Rattle.c_grammar.specs.Table.{Tree, Alone, Nothing, Then, Node, Choice, Never, Table}
use Rattle.c_grammar.specs.declared.kind.Kind.{Kind}
use Rattle.c_grammar.specs.declared.kind.Kind.TheVariants.{Name, Integer, Else, End, Struct, Int, Semicolon, CloseBrace, OpenBrace, OpenBracket, CloseBracket, OpenParenthesis, CloseParenthesis}
use Rattle.c_grammar.specs.Kinds.{is}
use Rattle.c_grammar.specs.Forms
use Rattle.c_grammar.specs.Chooses.{choose_by, goes_on_by}
use Rattle.c_grammar.specs.declared.words.Sign.TheVariants.{NoSign}
use Rattle.c_grammar.specs.declared.words.Size.TheVariants.{NoSize}
use Rattle.c_grammar.specs.declared.words.Words.TheVariants.{NoWord, FullType, Integers}
use Rattle.c_grammar.specs.declared.words.Words.{Words}

-- Do the parts of a tree end in an `if` without `else`? An `else` behind it would belong to that `if` (C17 6.8.4.1
-- paragraph 3).
abbrev pub is_no_else : Forms.Production → Bool
is_no_else Forms.NoElse = true
is_no_else _ = false

abbrev pub ends_open : {Leaf : Type 0} → Tree Leaf Forms.Production → Bool
ends_open (Alone leaf) = false
ends_open Nothing = false
ends_open (Node form parts) = is_no_else form || ends_open parts
ends_open (Then first Nothing) = ends_open first
ends_open (Then first (Alone leaf)) = false
ends_open (Then first (Then next others)) = ends_open (Then next others)
ends_open (Then first (Node form parts)) = is_no_else form || ends_open parts

abbrev pub is_open : {Leaf : Type 0} → Tree Leaf Forms.Production → Bool
is_open (Alone leaf) = false
is_open Nothing = false
is_open (Then first others) = false
is_open (Node form parts) = ends_open parts

module _ {Leaf : Type 0} (kind_of : Leaf → Kind) (sample : Kind → Leaf) where
  abbrev pub choose_at : Forms.Sort → ℕ → List Leaf → Choice Forms.Production
  choose_at sort level [] = Never
  choose_at sort level (leaf ∷ []) = choose_by sort level (kind_of leaf) End
  choose_at sort level (leaf ∷ next ∷ text) = choose_by sort level (kind_of leaf) (kind_of next)

  abbrev pub end_of : Forms.Production → Kind → Tree Leaf Forms.Production
  end_of form kind = Node form (Then (Alone (sample kind)) Nothing)

  abbrev pub empty_of : Forms.Production → Tree Leaf Forms.Production
  empty_of form = Node form Nothing

  abbrev pub least_name : Tree Leaf Forms.Production
  least_name = Node Forms.DeclaratorRow (Then (empty_of Forms.NoStar) (Then (Node Forms.DirectName (Then (Alone (sample Name)) (Then (empty_of Forms.NoSuffix) Nothing))) Nothing))

  abbrev pub least_words : Bool → Words → Tree Leaf Forms.Production
  least_words own NoWord = Node (Forms.BaseWord own NoWord Int (Integers NoSign NoSize true)) (Then (Alone (sample Int)) (Then (empty_of (Forms.BaseEnd own (Integers NoSign NoSize true))) Nothing))
  least_words own FullType = empty_of (Forms.BaseEnd own FullType)
  least_words own (Integers sign size has_int) = empty_of (Forms.BaseEnd own (Integers sign size has_int))

  abbrev pub least_expr : Tree Leaf Forms.Production
  least_expr = end_of (Forms.Single Integer) Integer

  abbrev pub least_direct : Bool → Tree Leaf Forms.Production
  least_direct named = Node (Forms.ParamArray named) (Then (Alone (sample OpenBracket)) (Then (empty_of Forms.NoLength) (Then (Alone (sample CloseBracket)) (Then (empty_of Forms.NoSuffix) Nothing))))

  abbrev pub least_declared : Tree Leaf Forms.Production
  least_declared = Node Forms.DeclaredRow (Then least_name (Then (Node Forms.DeclaredValues (Then (empty_of Forms.NoValue) (Then (end_of Forms.DeclarationEnd Semicolon) Nothing))) Nothing))

  abbrev pub least_member : Tree Leaf Forms.Production
  least_member = Node Forms.MemberRow (Then (least_words false NoWord) (Then least_name (Then (end_of Forms.MemberEnd Semicolon) Nothing)))

  abbrev pub least_type : Tree Leaf Forms.Production
  least_type = Node Forms.TypeRow (Then (least_words false NoWord) (Then (empty_of (Forms.OptionalNone false)) Nothing))

  abbrev pub least_of : Forms.Sort → ℕ → Tree Leaf Forms.Production
  least_of Forms.Program level = Node Forms.WholeProgram (Then (empty_of Forms.NoItem) (Then (Alone (sample End)) Nothing))
  least_of Forms.Items level = empty_of Forms.NoItem
  least_of Forms.Item level = Node Forms.ItemStruct (Then (Alone (sample Struct)) (Then (Alone (sample Name)) (Then (empty_of Forms.NoMembers) (Then (end_of Forms.TailAlone Semicolon) Nothing))))
  least_of Forms.StructTail level = end_of Forms.TailAlone Semicolon
  least_of Forms.Declared level = least_declared
  least_of Forms.AfterDeclarator level = Node Forms.DeclaredValues (Then (empty_of Forms.NoValue) (Then (end_of Forms.DeclarationEnd Semicolon) Nothing))
  least_of Forms.MembersOpt level = empty_of Forms.NoMembers
  least_of Forms.MemberSort level = least_member
  least_of Forms.MembersMore level = end_of Forms.MembersEnd CloseBrace
  least_of Forms.MemberMore level = end_of Forms.MemberEnd Semicolon
  least_of (Forms.Base own words) level = least_words own words
  least_of Forms.FirstValue level = empty_of Forms.NoValue
  least_of Forms.DeclaratorsMore level = end_of Forms.DeclarationEnd Semicolon
  least_of Forms.Init level = Node Forms.InitValue (Then least_expr Nothing)
  least_of Forms.InitMore level = end_of Forms.InitEnd CloseBrace
  least_of Forms.InitNext level = end_of Forms.InitClose CloseBrace
  least_of Forms.Declarator level = least_name
  least_of Forms.Stars level = empty_of Forms.NoStar
  least_of Forms.AfterStar level = empty_of Forms.StarEnd
  least_of Forms.Direct level = Node Forms.DirectName (Then (Alone (sample Name)) (Then (empty_of Forms.NoSuffix) Nothing))
  least_of Forms.Suffixes level = empty_of Forms.NoSuffix
  least_of Forms.Length level = empty_of Forms.NoLength
  least_of Forms.Params level = empty_of Forms.NoParam
  least_of Forms.ParamsMore level = empty_of Forms.ParamsEnd
  least_of Forms.Param level = Node Forms.ParamRow (Then (least_words false NoWord) (Then (empty_of (Forms.OptionalNone true)) Nothing))
  least_of Forms.Type_name level = least_type
  least_of (Forms.Optional named) level = empty_of (Forms.OptionalNone named)
  least_of (Forms.Inner named) level = Node (Forms.InnerDirect named) (Then (least_direct named) Nothing)
  least_of (Forms.DirectOptional named) level = empty_of (Forms.DirectNone named)
  least_of (Forms.ParamDirect named) level = least_direct named
  least_of Forms.Stmt level = end_of Forms.Empty Semicolon
  least_of Forms.Body level = Node Forms.BodyRow (Then (Alone (sample OpenBrace)) (Then (end_of Forms.BlockEnd CloseBrace) Nothing))
  least_of Forms.BlockItems level = end_of Forms.BlockEnd CloseBrace
  least_of Forms.Declaration level = Node Forms.DeclarationRow (Then (least_words false NoWord) (Then least_name (Then (empty_of Forms.NoValue) (Then (end_of Forms.DeclarationEnd Semicolon) Nothing))))
  least_of Forms.ElseOpt level = empty_of Forms.NoElse
  least_of Forms.ForFirst level = end_of Forms.ForEmpty Semicolon
  least_of Forms.ExprOpt level = empty_of Forms.NoExpr
  least_of Forms.SwitchItems level = end_of Forms.SwitchEnd CloseBrace
  least_of Forms.ReturnValue level = end_of Forms.ReturnNothing Semicolon
  least_of Forms.Expr level = least_expr
  least_of Forms.Literals level = empty_of Forms.NoLiteral
  least_of Forms.Arguments level = empty_of Forms.NoArgument
  least_of Forms.ArgumentsMore level = empty_of Forms.ArgumentsEnd
  least_of Forms.SizeofOperand level = Node Forms.SizeofType (Then (Alone (sample OpenParenthesis)) (Then least_type (Then (Alone (sample CloseParenthesis)) Nothing)))

  abbrev pub language : Table Leaf Kind Forms.Sort Forms.Production
  language = record {
    fits = λ kind leaf. is kind (kind_of leaf);
    is_row = Forms.is_row;
    sort = Forms.sort_of;
    level = Forms.level_of_form;
    left = Forms.left_of;
    symbols = Forms.symbols_of;
    weight = Forms.weight_of;
    bars = λ tree leaf. is Else (kind_of leaf) && is_open tree;
    choose = choose_at;
    goes_on = λ sort level own leaf. goes_on_by sort level own (kind_of leaf);
    left_need = Forms.left_need;
    need = λ sort level. Forms.need_of sort;
    least = least_of;
    sample = sample;
    special = λ kind. is kind Else;
  }
