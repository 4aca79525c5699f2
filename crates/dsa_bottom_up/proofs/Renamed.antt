-- What is asked of groups of functions doesn't see the name and the type of `start`; nor do counts of nodes.
use Rattle.std.proofs.Common.{◌≡◌, ℕ, ◌+◌, ◌||◌, Bool, true, false, List, [], ◌∷◌, map, length, get_or, Some, refl, ap, ◌∙◌}
use Rattle.std.specs.Prelude.{slice_get}
use Rattle.std.specs.List.{list_any}
use Rattle.std.proofs.lemmas.Bool.{false≢true}
use Rattle.std.proofs.lemmas.Option.{same_Some}
use Rattle.c_typed.specs.Types.{CType}
use Rattle.tac_ir.specs.Code as O
use Rattle.tac_ir.specs.Code.{Base, Callee, Function, Tac}
use Rattle.tac_ir.specs.States.{Owner, InStart, InFunction, function_of, points_of}
use Rattle.heap_graph.specs.Graphs.{Node, Name, OfRegister, OfResult, OfObject, OfGlobal, OfLiteral, OfCopy, Graph, Embedding, ProgramGraphs}
use Rattle.heap_graph.specs.Closed.{Family, graph_of, is_in, of_group, is_name, FunctionClosed, GraphClosed, AreOne, IsKept, IsEmbedding, IsCrossing, IsNeeded, named, embedded}
use Rattle.dsa_local.specs.Joined.{IsCalled}
use Rattle.dsa_bottom_up.specs.Mapping.{GroupMaps, MapsBelow}
use Rattle.dsa_bottom_up.specs.Below.{ClosedBelow}
use Rattle.dsa_bottom_up.specs.Refused.{IsOutsideOf, GroupCounts, StartCounts, AreFew}
use Rattle.dsa_local.specs.Mentioned.{is_global, is_literal}
use Rattle.dsa_inlining.specs.Counting.{total, Outside, mentions, is_mentioned, copies_in, globals_counted, literals_counted, group_count, first_global, first_literal, start_count}
use Rattle.dsa_bottom_up.specs.Same.{renamed}
use Rattle.dsa_bottom_up.proofs.SameTotals.{total_same, any_same, count_same}

module _ (tac : Tac) (own_name : List ℕ) (own_type : CType) (groups : List (List ℕ)) where
  abbrev old : ProgramGraphs → Family
  old graphs = record { tac = tac; groups = groups; graphs = graphs }

  abbrev new : ProgramGraphs → Family
  new graphs = record { tac = renamed own_name own_type tac; groups = groups; graphs = graphs }

  module _ (graphs : ProgramGraphs) where
    one_renamed : (a b : ℕ) → AreOne (old graphs) a b → AreOne (new graphs) a b
    one_renamed a b one = record { group = one.group; formals = one.formals; result = one.result }

    kept_renamed : (owner : Owner) (embedding : Embedding) (number : ℕ) (node : Node) → IsKept (old graphs) owner embedding number node → IsKept (new graphs) owner embedding number node
    kept_renamed owner embedding number node kept = record { at = kept.at; is = kept.is; kept = kept.kept; edges = kept.edges }

    embedding_renamed : (owner : Owner) (site called : ℕ) → IsEmbedding (old graphs) owner site called → IsEmbedding (new graphs) owner site called
    embedding_renamed owner site called is = record {
      escaping = λ number node there escapes. kept_renamed owner (graphs.embedding (record { owner = owner; site = site; called = called })) number node (is.escaping number node there escapes);
      others = is.others;
    }

    function_renamed : (number : ℕ) (function : Function) → FunctionClosed (old graphs) (InFunction number) function → FunctionClosed (new graphs) (InFunction number) function
    function_renamed number function closed = record {
      formals = closed.formals;
      locals = closed.locals;
      points = closed.points;
      embeddings = λ site callee arguments at called is target outer. embedding_renamed (InFunction number) site called (closed.embeddings site callee arguments at called is target outer);
      classes = λ site pointer c_type arguments at a b is first second. one_renamed a b (closed.classes site pointer c_type arguments at a b is first second);
    }

    name_renamed : (group : List ℕ) (name : Name) → is_name tac (of_group group) name ≡ true → is_name (renamed own_name own_type tac) (of_group group) name ≡ true
    name_renamed group (OfRegister InStart register) is = is
    name_renamed group (OfRegister (InFunction number) register) is = is
    name_renamed group (OfResult owner) is = is
    name_renamed group (OfObject InStart local) is = is
    name_renamed group (OfObject (InFunction number) local) is = is
    name_renamed group (OfGlobal number) is = is
    name_renamed group (OfLiteral number) is = is
    name_renamed group (OfCopy number) is = is

    crossing_renamed : (group : List ℕ) (owner : Owner) (site called : ℕ) → of_group group owner ≡ true → IsCrossing (old graphs) (record { owner = owner; site = site; called = called })
        → IsCrossing (new graphs) (record { owner = owner; site = site; called = called })
    crossing_renamed group InStart site called inside is = absurd (false≢true inside)
    crossing_renamed group (InFunction number) site called inside is = record {
      function = is.function;
      is = is.is;
      point = is.point;
      callee = is.callee;
      arguments = is.arguments;
      call = is.call;
      target = is.target;
      outer = is.outer;
    }

    needed_renamed : (group : List ℕ) (graph : Graph) (number : ℕ) → IsNeeded (old graphs) graph (of_group group) number → IsNeeded (new graphs) graph (of_group group) number
    needed_renamed group graph number (named name target is same) = named name target is same
    needed_renamed group graph number (embedded at node target inside is image same) = embedded at node target inside (crossing_renamed group at.owner at.site at.called inside is) image same

    graph_renamed : (group : List ℕ) (one : ℕ) → GraphClosed (old graphs) (graph_of (old graphs) (InFunction one)) (of_group group) (InFunction one)
        → GraphClosed (new graphs) (graph_of (new graphs) (InFunction one)) (of_group group) (InFunction one)
    graph_renamed group one closed = record {
      names = closed.names;
      own = λ name has. name_renamed group name (closed.own name has);
      edges = closed.edges;
      globals = closed.globals;
      literals = closed.literals;
      complete = closed.complete;
      needed = λ number node is. needed_renamed group (graph_of (old graphs) (InFunction one)) number (closed.needed number node is);
    }

    called_renamed : (callee : Callee) → IsCalled (renamed own_name own_type tac) callee → IsCalled tac callee
    called_renamed callee called = by called.caller called.is
      where
        by : (caller : Owner) → function_of (renamed own_name own_type tac) caller ≡ Some called.function → IsCalled tac callee
        by InStart is = record {
          caller = InStart;
          function = tac.start;
          is = refl;
          at = called.at;
          site = called.site;
          arguments = called.arguments;
          point = ap (λ (f : Function). slice_get f.points called.at) (same_Some (renamed own_name own_type tac).start called.function is) ∙ called.point;
        }
        by (InFunction number) is = record { caller = InFunction number; function = called.function; is = is; at = called.at; site = called.site; arguments = called.arguments; point = called.point }

    pub closed_renamed : (number : ℕ) → ClosedBelow (record { tac = tac; groups = groups; graphs = graphs }) number → ClosedBelow (record { tac = renamed own_name own_type tac; groups = groups; graphs = graphs }) number
    closed_renamed number closed = record {
      groups = λ at less.
          let its = closed.groups at less in
          record {
            functions = λ own function is same. function_renamed own function (its.functions own function is same);
            graph = λ one group is inside. graph_renamed group one (its.graph one group is inside);
          };
      classes = λ pointer c_type a b called first second below. one_renamed a b (closed.classes pointer c_type a b (called_renamed (O.Through pointer c_type) called) first second below);
    }

  -- ---- maps

  pub maps_renamed : (graphs others : ProgramGraphs) (number : ℕ) (maps : GroupMaps) → MapsBelow (old graphs) (old others) number maps → MapsBelow (new graphs) (new others) number maps
  maps_renamed graphs others number maps below function less = let its = below function less in record { shape = its.shape; embeddings = its.embeddings }

  -- ---- counts

  module _ (graphs : ProgramGraphs) where
    outside_renamed : (own : ℕ → Bool) (number : ℕ) (outside : Outside) → IsOutsideOf (old graphs) own number outside → IsOutsideOf (new graphs) own number outside
    outside_renamed own number outside told = record {
      is_out = told.is_out;
      escaping = λ called within less. let its = told.escaping called within less in (its.0, record { rises = its.1.rises; exactly = its.1.exactly }, its.2);
      globals = told.globals;
      literals = told.literals;
    }

    -- ---- totals

    module _ (outside : Outside) where
      copies_renamed : (owner : Owner) → copies_in tac outside owner ≡ copies_in (renamed own_name own_type tac) outside owner
      copies_renamed InStart = refl
      copies_renamed (InFunction number) = refl

      points_renamed : (begins : Base → Bool) (name : Name) (owner : Owner) → list_any (mentions tac outside begins name) (points_of (function_of tac owner))
          ≡ list_any (mentions (renamed own_name own_type tac) outside begins name) (points_of (function_of (renamed own_name own_type tac) owner))
      points_renamed begins name InStart = refl
      points_renamed begins name (InFunction number) = refl

      mentioned_renamed : (begins : Base → Bool) (name : Name) (owners : List Owner) → is_mentioned tac outside begins name owners ≡ is_mentioned (renamed own_name own_type tac) outside begins name owners
      mentioned_renamed begins name owners =
          any_same (λ owner. list_any (mentions tac outside begins name) (points_of (function_of tac owner)))
          (λ owner. list_any (mentions (renamed own_name own_type tac) outside begins name) (points_of (function_of (renamed own_name own_type tac) owner))) owners (λ place owner is. points_renamed begins name owner)

      owners_renamed : (owners : List Owner) → total (copies_in tac outside) owners ≡ total (copies_in (renamed own_name own_type tac) outside) owners
      owners_renamed owners = total_same (copies_in tac outside) (copies_in (renamed own_name own_type tac) outside) owners (λ place owner is. copies_renamed owner)

      globals_renamed : (beside : ℕ → Bool) (owners : List Owner) → globals_counted tac outside beside owners ≡ globals_counted (renamed own_name own_type tac) outside beside owners
      globals_renamed beside owners =
          count_same (length tac.globals) (λ number. beside number || is_mentioned tac outside (is_global number) (OfGlobal number) owners)
          (λ number. beside number || is_mentioned (renamed own_name own_type tac) outside (is_global number) (OfGlobal number) owners)
          (λ number. ap (λ b. beside number || b) (mentioned_renamed (is_global number) (OfGlobal number) owners))

      literals_renamed : (beside : ℕ → Bool) (owners : List Owner) → literals_counted tac outside beside owners ≡ literals_counted (renamed own_name own_type tac) outside beside owners
      literals_renamed beside owners =
          count_same (length tac.literals) (λ number. beside number || is_mentioned tac outside (is_literal number) (OfLiteral number) owners)
          (λ number. beside number || is_mentioned (renamed own_name own_type tac) outside (is_literal number) (OfLiteral number) owners)
          (λ number. ap (λ b. beside number || b) (mentioned_renamed (is_literal number) (OfLiteral number) owners))

      group_renamed : (own : ℕ) (owners : List Owner) → group_count tac outside own owners ≡ group_count (renamed own_name own_type tac) outside own owners
      group_renamed own owners = λ i. own + (owners_renamed owners i + (globals_renamed (λ number. false) owners i + literals_renamed (λ number. false) owners i))

      start_renamed : (own : ℕ) → start_count tac outside own ≡ start_count (renamed own_name own_type tac) outside own
      start_renamed own = λ i. own + (owners_renamed (InStart ∷ []) i + (globals_renamed (first_global tac) (InStart ∷ []) i + literals_renamed (first_literal tac) (InStart ∷ []) i))

    pub group_counts_renamed : (counts : List ℕ) (number n : ℕ) → GroupCounts (record { tac = tac; groups = groups; graphs = graphs }) counts number n
        → GroupCounts (record { tac = renamed own_name own_type tac; groups = groups; graphs = graphs }) counts number n
    group_counts_renamed counts number n counted = record { group = counted.group; is = counted.is; outside = counted.outside; told = outside_renamed (λ called. is_in called counted.group) number counted.outside counted.told; so_many = counted.so_many ∙ group_renamed counted.outside (total (λ function. get_or counts function 0) counted.group) (map InFunction counted.group) }

    pub start_counts_renamed : (own n : ℕ) → StartCounts (record { tac = tac; groups = groups; graphs = graphs }) own n → StartCounts (record { tac = renamed own_name own_type tac; groups = groups; graphs = graphs }) own n
    start_counts_renamed own n counted = record { outside = counted.outside; told = outside_renamed (λ called. false) (length groups) counted.outside counted.told; so_many = counted.so_many ∙ start_renamed counted.outside own }

    pub few_renamed : (counts : List ℕ) (number : ℕ) → AreFew (record { tac = tac; groups = groups; graphs = graphs }) counts number → AreFew (record { tac = renamed own_name own_type tac; groups = groups; graphs = graphs }) counts number
    few_renamed counts number few at less = let its = few at less in (its.0, group_counts_renamed counts at its.0 its.1, its.2)
