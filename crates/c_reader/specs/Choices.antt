-- The rows that the reader chooses for expressions.
use Rattle.std.specs.Prelude.{ℕ, Bool, List, [], ◌∷◌, Option, Some, None}
use Rattle.c_grammar.specs.Table.{Choice, Never, Take, Stuck}
use Rattle.c_grammar.specs.declared.kind.Kind.{Kind}
use Rattle.c_grammar.specs.Forms
use Rattle.c_grammar.specs.Chooses.{take, goes_on_by}
use Rattle.c_grammar.specs.Leaves.{Leaf, kind_of}
use Rattle.c_reader.specs.declared.choice.First.{First}
use Rattle.c_reader.specs.declared.choice.First.TheVariants as F
use Rattle.c_reader.specs.declared.choice.Wrapping.{Wrapping}
use Rattle.c_reader.specs.declared.choice.Wrapping.TheVariants as W
use Rattle.c_reader.specs.declared.choice.Joining.{Joining}
use Rattle.c_reader.specs.declared.choice.Joining.TheVariants as J
use Rattle.c_reader.specs.declared.choice.Next.{Next}
use Rattle.c_reader.specs.declared.choice.Next.TheVariants as N
use Rattle.c_reader.specs.declared.second.SizeofRow.{SizeofRow}
use Rattle.c_reader.specs.declared.second.SizeofRow.TheVariants as S
use Rattle.c_reader.specs.declared.second.Opened.{Opened}
use Rattle.c_reader.specs.declared.second.Opened.TheVariants as O
use Rattle.c_reader.specs.declared.second.DirectRow.{DirectRow}
use Rattle.c_reader.specs.declared.second.DirectRow.TheVariants as D

-- the row of what stands before an operand
abbrev pub wrapped_form : Wrapping → Forms.Production
wrapped_form W.Parenthesis = Forms.Parenthesized
wrapped_form (W.Prefix kind operand) = Forms.Prefix kind operand

-- the row by which an expression begins with a token of a kind
abbrev pub first_choice : Kind → Option First → Choice Forms.Production
first_choice kind None = Never
first_choice kind (Some F.Single) = take (Forms.Single kind)
first_choice kind (Some F.Text) = take Forms.Text
first_choice kind (Some F.Cast) = take Forms.Cast
first_choice kind (Some F.Sizeof) = take Forms.SizeofRow
first_choice kind (Some (F.Wrapped wrapping)) = take (wrapped_form wrapping)

-- the row by which it goes on, and how loosely that binds
abbrev pub joined_form : Joining → Forms.Production
joined_form J.Index = Forms.Index
joined_form (J.Assign kind) = Forms.Assign kind
joined_form (J.Binary kind right level) = Forms.Binary kind right

abbrev pub form_of : Next → Forms.Production
form_of N.Call = Forms.Call
form_of N.Member = Forms.Member
form_of N.PointerMember = Forms.PointerMember
form_of N.PostIncrement = Forms.PostIncrement
form_of N.PostDecrement = Forms.PostDecrement
form_of N.Conditional = Forms.Conditional
form_of (N.Joined joining) = joined_form joining

abbrev pub level_of_joined : Joining → ℕ
level_of_joined J.Index = 1
level_of_joined (J.Assign kind) = 15
level_of_joined (J.Binary kind right level) = level

abbrev pub level_of_next : Next → ℕ
level_of_next (N.Joined joining) = level_of_joined joining
level_of_next next = Forms.level_of_form (form_of next)

abbrev pub next_form : ℕ → ℕ → List Leaf → Option Forms.Production
next_form level own [] = None
next_form level own (leaf ∷ text) = goes_on_by Forms.Expr level own (kind_of leaf)

-- the row of the operand of `sizeof`
abbrev pub sizeof_form : SizeofRow → Forms.Production
sizeof_form S.Type = Forms.SizeofType
sizeof_form S.Expr = Forms.SizeofExpr

-- the row of a declarator without stars that may lack its name
abbrev pub direct_form : Bool → DirectRow → Forms.Production
direct_form named D.Name = Forms.ParamName named
direct_form named D.Nested = Forms.ParamNested named
direct_form named D.Function = Forms.ParamFunction named
direct_form named D.Array = Forms.ParamArray named

-- the row that stands behind `(` in such a declarator
abbrev pub opened_choice : Bool → Option Opened → Choice Forms.Production
opened_choice named (Some O.Function) = Take (Forms.ParamFunction named) 0 0
opened_choice named (Some O.Nested) = Take (Forms.ParamNested named) 0 1
opened_choice named None = Stuck 0
