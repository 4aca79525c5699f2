-- Marks of the variables outside functions and the literals that are mentioned, and counts that go on with them.
use Rattle.std.specs.Prelude.{◌≡◌, ℕ, ◌+◌, ◌<◌, ◌&&◌, Bool, true, false, if◌then◌else◌, nat_lt, List, length, slice_get, Contains, Option, Some, None}
use Rattle.std.specs.List.{list_any}
use Rattle.indexmap.specs.IndexSet.{IsEmpty}
use Rattle.tac_ir.specs.Code.{Base, Callee, Op, Tac}
use Rattle.tac_ir.specs.States.{Owner, function_of, points_of}
use Rattle.tac_ir.specs.Views.{tac_of}
use Rattle.heap_graph.specs.Graphs.{Name, OfGlobal, OfLiteral}
use Rattle.dsa_local.specs.Mentioned.{is_global, is_literal}
use Rattle.dsa_inlining.specs.declared.before.Before.{Before}
use Rattle.call_graph.specs.GroupViews.{IsOf}
use Rattle.call_graph.specs.Lists.{rows_in}
use Rattle.call_graph.specs.RowLists.{is_among}
use Rattle.dsa_inlining.specs.Before.{IsReached, graphs_before}
use Rattle.dsa_inlining.specs.Live.{AreLive}
use Rattle.dsa_inlining.specs.declared.told_statics.Statics.{Statics}
use Rattle.dsa_inlining.specs.declared.told_statics.GroupStatics.{GroupStatics}
use Rattle.dsa_inlining.specs.GroupStatics.Groups.{HaveStatics}
use Rattle.dsa_inlining.specs.Searched.{AreClosed}
use Rattle.dsa_inlining.specs.declared.mentions.Mentions.{Mentions}
use Rattle.dsa_inlining.specs.declared.tally.Tally.{Tally}
use Rattle.dsa_inlining.specs.Counting.{Outside, any_below, comes_out, mentions}
use Rattle.dsa_inlining.specs.Sums.{outside_of}
use Rattle.dsa_inlining.specs.Marks.{is_marked, AddsMarks, AreUnmarked}

-- these variables outside functions and these literals are marked beside those that were
pub record Adds (mentioned : Name → Bool) (old new : Mentions) : Type 0 where
  pub globals : AddsMarks (λ number. mentioned (OfGlobal number)) old.globals.items new.globals.items
  pub literals : AddsMarks (λ number. mentioned (OfLiteral number)) old.literals.items new.literals.items

pub record AreNone (tac : Tac) (mentions : Mentions) : Type 0 where
  pub globals : AreUnmarked (length tac.globals) mentions.globals.items
  pub literals : AreUnmarked (length tac.literals) mentions.literals.items

-- each of these names that has a mark is marked
pub record AreMarked (names : Name → Bool) (mentions : Mentions) : Type 0 where
  pub globals : (number : ℕ) → number < length mentions.globals.items → names (OfGlobal number) ≡ true → is_marked mentions.globals.items number ≡ true
  pub literals : (number : ℕ) → number < length mentions.literals.items → names (OfLiteral number) ≡ true → is_marked mentions.literals.items number ≡ true

-- ---- names

-- a path begins with the variable outside functions or the literal
abbrev pub begins : Name → Base → Bool
begins (OfGlobal number) = is_global number
begins (OfLiteral number) = is_literal number
begins name = λ base. false

-- one of a list mentions it
abbrev pub any_of : {X : Type 0} → (X → Name → Bool) → List X → Name → Bool
any_of mentions xs name = list_any (λ x. mentions x name) xs

-- it is listed
abbrev pub is_listed : Statics → Name → Bool
is_listed statics (OfGlobal number) = is_among number statics.globals.items
is_listed statics (OfLiteral number) = is_among number statics.literals.items
is_listed statics name = false

abbrev pub listed_in : Option GroupStatics → Name → Bool
listed_in None name = false
listed_in (Some its) name = is_listed its.own name

-- a group lists it as its own
abbrev pub own_names : List GroupStatics → ℕ → Name → Bool
own_names all group name = listed_in (slice_get all group) name

-- ---- counts

-- With each group in `told` its bases are there, and what these groups list as their own is marked: so all is of which their graphs tell.
pub record AreTold (before : Before) (tally : Tally) : Type 0 where
  pub closed : AreClosed before.statics.now tally.told.keys
  pub own : (group : ℕ) → Contains tally.told.keys group → AreMarked (own_names before.statics.now group) tally.mentions

-- So many nodes more are counted; and where the names of the groups in `told` are marked, these names are mentioned, and the names of the groups
-- that are in `told` then are marked.
pub record Counts (before : Before) (more : ℕ) (mentioned : Name → Bool) (old new : Tally) : Type 0 where
  pub count : new.count ≡ old.count + more
  pub names : AreTold before old → Adds mentioned old.mentions new.mentions
  pub told : AreTold before old → AreTold before new

-- so many nodes are counted, nothing is mentioned, and no group is in `told`
pub record IsNew (tac : Tac) (own : ℕ) (tally : Tally) : Type 0 where
  pub count : tally.count ≡ own
  pub names : AreNone tac tally.mentions
  pub told : IsEmpty tally.told

-- ---- groups

-- The functions of groups that have graphs are known, and so are those from which something escapes.
pub record IsKnown (before : Before) : Type 0 where
  pub groups : IsOf before.tac.now before.groups.now
  pub live : AreLive before.tac.now (rows_in before.escaping.now) before.live.now
  pub statics : HaveStatics before.tac.now.types before.graphs.now before.statics.now
  pub reached : (called group : ℕ) → slice_get before.groups.now.group_of.items called ≡ Some group → group < length before.graphs.now → IsReached (graphs_before before) called

abbrev pub code_of : Before → Tac
code_of before = tac_of before.tac.now

-- the functions of all groups but one
abbrev pub beyond : Before → Option ℕ → Outside
beyond before group = outside_of (graphs_before before) group

-- the graph of a function's group tells of it
abbrev pub called_names : Before → ℕ → Name → Bool
called_names before called = (beyond before None).tells called

-- no node escapes a function that doesn't pass a test, and it tells of no name
pub record AreQuiet (outside : Outside) (live : ℕ → Bool) : Type 0 where
  pub escaping : (called : ℕ) → live called ≡ false → outside.escaping called ≡ 0
  pub tells : (called : ℕ) (name : Name) → live called ≡ false → outside.tells called name ≡ false

module _ (tac : Tac) (outside : Outside) where
  -- one of the program's functions, and outside the group
  abbrev pub is_apart : ℕ → Bool
  is_apart called = nat_lt called (length tac.functions) && outside.is_out called

  -- the copies at a call that comes to a function, and what is mentioned by that
  abbrev pub copies_from : ℕ → ℕ
  copies_from called = if is_apart called then outside.escaping called else 0

  abbrev pub told_from : ℕ → Name → Bool
  told_from called name = is_apart called && outside.tells called name

  -- what is mentioned by the functions outside the group to which a call may come
  abbrev pub call_names : Callee → Name → Bool
  call_names callee name = any_below (length tac.functions) (λ number. comes_out tac outside callee number && outside.tells number name)

  -- what a point mentions, and what the points of a function do
  abbrev pub op_mentions : Op → Name → Bool
  op_mentions op name = mentions tac outside (begins name) name op

  abbrev pub owner_mentions : Owner → Name → Bool
  owner_mentions owner name = any_of op_mentions (points_of (function_of tac owner)) name
