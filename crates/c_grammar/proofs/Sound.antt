-- What a reader has read is a tree; and before a fault stands what a tree begins with, within the same room.
use Rattle.std.proofs.Common.{◌≡◌, ℕ, ◌<◌, ◌≤◌, inl, false, List, [], ◌∷◌, ◌++◌, Some, sym, refl, ◌∙◌, ap, subst, arith, append_assoc}
use Rattle.std.proofs.lemmas.List.{append-nil}
use Rattle.c_grammar.specs.Table.{Symbol, Terminal, Nonterminal, Tree, Alone, Then, Node, Table, leaves, height, barred, Is, nothing, token, part, IsPart, first, after, need_all, least_parts, Plain, Orderly}
use Rattle.c_grammar.specs.Runs.{Job, Parts, Whole, More, Fault, Bad, Deep, Memory, Done, Failed, level_of, Run, no_memory, at_end, unfit, token_done, token_failed, part_done, part_failed, then_failed, never, stuck, stuck_deep, first_deep, second_deep, row_failed, row_done, no_more, more_deep, more_failed, more_done}
use Rattle.c_grammar.specs.Laws.{lowest, IsDivided, Completes}

-- the claim on what was read
abbrev pub Spells : {Leaf Kind Sort Production : Type 0} → (T : Table Leaf Kind Sort Production) → Job Leaf Kind Sort Production → ℕ → List Leaf → Tree Leaf Production → List Leaf → Type 0
Spells T (Parts symbols) room text tree behind = Is T symbols tree × (text ≡ leaves tree ++ behind) × (height T tree ≤ room)
Spells T (Whole sort level) room text tree behind = IsPart T sort level tree × (text ≡ leaves tree ++ behind) × (height T tree ≤ room)
Spells T (More sort level left) room text tree behind = IsPart T sort level left → height T left ≤ room → IsPart T sort level tree × (leaves left ++ text ≡ leaves tree ++ behind) × (height T tree ≤ room)

-- A tree that begins with what was passed before a fault, behind the leaves of a tree before it.
pub record Completion {Leaf Kind Sort Production : Type 0} (T : Table Leaf Kind Sort Production) (Spelled : Tree Leaf Production → Type 0) (before : List Leaf) (room : ℕ) (text behind : List Leaf) : Type 0 where
  pub front : List Leaf
  pub more : List Leaf
  pub tree : Tree Leaf Production
  pub spelled : Spelled tree
  pub passed : text ≡ front ++ behind
  pub continues : leaves tree ≡ before ++ (front ++ more)
  pub fits : height T tree ≤ room

-- the claim on a fault
abbrev pub CanGoOn : {Leaf Kind Sort Production : Type 0} → (T : Table Leaf Kind Sort Production) → Job Leaf Kind Sort Production → ℕ → List Leaf → List Leaf → Type 0
CanGoOn T (Parts symbols) room text behind = need_all T symbols ≤ room → Orderly T symbols → (c : Completion T (Is T symbols) [] room text behind) × (Plain T symbols → c.front ≡ [] → (tree : _) → barred T tree (leaves c.tree) ≡ false)
CanGoOn T (Whole sort level) room text behind = T.need sort level ≤ room → (c : Completion T (IsPart T sort level) [] room text behind) × (c.front ≡ [] → (tree : _) → barred T tree (leaves c.tree) ≡ false)
CanGoOn T (More sort level left) room text behind = IsPart T sort level left → height T left ≤ room → Completion T (IsPart T sort level) (leaves left) room text behind

abbrev pub IsFault : Fault → Type 0
IsFault Bad = Unit {0}
IsFault Deep = Unit {0}
IsFault Memory = ⊥

regroup : {A : Type 0} (a b c d : List A) → (a ++ b) ++ (c ++ d) ≡ a ++ ((b ++ c) ++ d)
regroup a b c d = simp append_assoc

nothing_before : {A : Type 0} (xs ys : List A) → xs ++ ys ≡ [] → xs ≡ []
nothing_before [] ys e = refl
nothing_before (x ∷ xs) ys e = cc e

nothing_behind : {A : Type 0} (xs ys : List A) → xs ++ ys ≡ [] → ys ≡ []
nothing_behind [] ys e = e
nothing_behind (x ∷ xs) ys e = cc e

module _ {Leaf Kind Sort Production : Type 0} (T : Table Leaf Kind Sort Production) where
  -- Only the first leaf is barred.
  pub barred_front : (tree : Tree Leaf Production) (xs ys : List Leaf) → barred T tree (xs ++ ys) ≡ false → barred T tree xs ≡ false
  barred_front tree [] ys h = refl
  barred_front tree (x ∷ xs) ys h = h

  pub barred_append : (tree : Tree Leaf Production) (xs ys : List Leaf) → barred T tree xs ≡ false → barred T tree ys ≡ false → barred T tree (xs ++ ys) ≡ false
  barred_append tree [] ys h h' = h'
  barred_append tree (x ∷ xs) ys h h' = h

  barred_next : (tree : Tree Leaf Production) (front more behind middle : List Leaf) → middle ≡ front ++ behind → barred T tree middle ≡ false → (front ≡ [] → barred T tree (front ++ more) ≡ false) → barred T tree (front ++ more) ≡ false
  barred_next tree [] more behind middle e h f = f refl
  barred_next tree (x ∷ front) more behind middle e h f = sym (ap (barred T tree) e) ∙ h

  pub barred_by_least : (sort : Sort) (level : ℕ) (xs : List Leaf) → ((leaf : Leaf) → T.bars (T.least sort level) leaf ≡ false) → barred T (T.least sort level) xs ≡ false
  barred_by_least sort level [] h = refl
  barred_by_least sort level (x ∷ xs) h = h x

  -- a tree read at a level stands at the level of its own form
  pub at_level : (sort : Sort) (level own : ℕ) (tree : Tree Leaf Production) → level_of T tree ≤ own → IsPart T sort level tree → IsPart T sort own tree
  at_level sort level own _ le (first form own_sort own_row own_left own_level is) = first form own_sort own_row own_left le is
  at_level sort level own _ le (after form left_level own_sort own_row own_left own_level left is) = after form left_level own_sort own_row own_left le left is

  module _ (laws : Completes T) where
    pub least_is : (symbols : List (Symbol Kind Sort)) → Is T symbols (least_parts T symbols)
    least_is [] = nothing
    least_is (Terminal kind ∷ symbols) = token (T.sample kind) (laws.sample_fits kind) (least_is symbols)
    least_is (Nonterminal sort level ∷ symbols) = part (laws.least_spelled sort level) (least_is symbols) (barred_by_least sort level (leaves (least_parts T symbols)) (laws.least_bars sort level))

    pub least_fits : (symbols : List (Symbol Kind Sort)) → height T (least_parts T symbols) ≤ need_all T symbols
    least_fits [] = omega arith
    least_fits (Terminal kind ∷ symbols) = omega (arith, least_fits symbols)
    least_fits (Nonterminal sort level ∷ symbols) = omega (arith, least_fits symbols, laws.least_height sort level)

    pub least_is_free : (symbols : List (Symbol Kind Sort)) (tree : Tree Leaf Production) → Plain T symbols → barred T tree (leaves (least_parts T symbols)) ≡ false
    least_is_free [] tree plain = refl
    least_is_free (Terminal kind ∷ symbols) tree plain = laws.sample_free kind tree plain.0
    least_is_free (Nonterminal sort level ∷ symbols) tree plain = barred_append tree (leaves (T.least sort level)) (leaves (least_parts T symbols)) (laws.least_free sort level tree) (least_is_free symbols tree plain)

    pub sound : {job : Job Leaf Kind Sort Production} {room : ℕ} {text : List Leaf} {tree : Tree Leaf Production} {behind : List Leaf} → Run T job room text (Done tree behind) → Spells T job room text tree behind
    sound at_end = (nothing, refl, omega arith)
    sound (token_done {leaf = leaf} fits run) =
        let r = sound run in
        (token leaf fits r.0, ap (λ x. leaf ∷ x) r.1, omega (arith, r.2))
    sound (part_done {middle = middle} {behind = behind} {tree = tree} {others = others} run more) =
        let a = sound run in
        let b = sound more in
        let free : barred T tree (leaves others ++ behind) ≡ false = sym (ap (barred T tree) b.1) ∙ laws.closed run in
        (part a.0 b.0 (barred_front tree (leaves others) behind free), a.1 ∙ ap (λ x. leaves tree ++ x) b.1 ∙ sym (append_assoc (leaves tree) (leaves others) behind), omega (arith, a.2, b.2))
    sound (row_done {sort = sort} {level = level} {first = lowest1} {second = second} {form = form} {text = text} {parts = parts} chosen fit fit' down run more) =
        let p = sound run in
        let row = laws.row sort level text form lowest1 second chosen in
        let m = sound more in
        let r = m (first form row.own_sort row.own_row row.own_left row.own_level p.0) (omega (arith, p.2, down)) in
        (r.0, p.1 ∙ r.1, r.2)
    sound (no_more none) = λ is fits. (is, refl, fits)
    sound (more_done {sort = sort} {level = level} {left = left} {form = form} {text = text} {middle = middle} {parts = parts} chosen fit fit' down run more) = λ is fits.
        let p = sound run in
        let next = laws.next sort level left text form chosen in
        let m = sound more in
        let r = m (after form next.left_level next.own_sort next.own_row next.own_left next.own_level (at_level sort level next.left_level left next.binds is) p.0) (omega (arith, p.2, fit', down)) in
        (r.0, ap (λ x. leaves left ++ x) p.1 ∙ sym (append_assoc (leaves left) (leaves parts) middle) ∙ r.1, r.2)

    -- Where nothing was passed, the least tree serves.
    settle : (sort : Sort) (level room : ℕ) (text behind : List Leaf) → T.need sort level ≤ room → Completion T (IsPart T sort level) [] room text behind → (c : Completion T (IsPart T sort level) [] room text behind) × (c.front ≡ [] → (tree : Tree Leaf Production) → barred T tree (leaves c.tree) ≡ false)
    settle sort level room text behind enough c = go c.front c.passed c.continues
      where
        go : (front : List Leaf) → text ≡ front ++ behind → leaves c.tree ≡ front ++ c.more → (c : Completion T (IsPart T sort level) [] room text behind) × (c.front ≡ [] → (tree : Tree Leaf Production) → barred T tree (leaves c.tree) ≡ false)
        go [] passed continues = (record { front = []; more = leaves (T.least sort level); tree = T.least sort level; spelled = laws.least_spelled sort level; passed = passed; continues = refl; fits = omega (arith, enough, laws.least_height sort level) }, λ e tree. laws.least_free sort level tree)
        go (x ∷ front) passed continues = (record { front = x ∷ front; more = c.more; tree = c.tree; spelled = c.spelled; passed = passed; continues = continues; fits = c.fits }, λ e tree. absurd (cc e))

    least_completion : (sort : Sort) (level room : ℕ) (text : List Leaf) → T.need sort level ≤ room → (c : Completion T (IsPart T sort level) [] room text text) × (c.front ≡ [] → (tree : Tree Leaf Production) → barred T tree (leaves c.tree) ≡ false)
    least_completion sort level room text enough = (record { front = []; more = leaves (T.least sort level); tree = T.least sort level; spelled = laws.least_spelled sort level; passed = refl; continues = refl; fits = omega (arith, enough, laws.least_height sort level) }, λ e tree. laws.least_free sort level tree)

    begun_completion : (sort : Sort) (level room lowest1 : ℕ) (leaf : Leaf) (text : List Leaf) → lowest (T.choose sort level (leaf ∷ text)) ≡ Some lowest1 → IsDivided (T.choose sort level (leaf ∷ text)) → lowest1 ≤ room → (c : Completion T (IsPart T sort level) [] room (leaf ∷ text) text) × (c.front ≡ [] → (tree : Tree Leaf Production) → barred T tree (leaves c.tree) ≡ false)
    begun_completion sort level room lowest1 leaf text chosen divided fit =
        let b = laws.begun sort level leaf text lowest1 chosen (inl divided) in
        (record { front = leaf ∷ []; more = b.more; tree = b.tree; spelled = b.spelled; passed = refl; continues = b.continues; fits = omega (arith, b.low divided, fit) }, λ e tree. absurd (cc e))

    pub completes : {job : Job Leaf Kind Sort Production} {room : ℕ} {text : List Leaf} {fault : Fault} {behind : List Leaf} → Run T job room text (Failed fault behind) → IsFault fault → CanGoOn T job room text behind
    completes (no_memory behind) h = absurd h
    completes (unfit {kind = kind} {symbols = symbols} {room = room} {text = text} none) h = λ enough orderly. (
      record {
        front = [];
        more = T.sample kind ∷ leaves (least_parts T symbols);
        tree = Then (Alone (T.sample kind)) (least_parts T symbols);
        spelled = least_is (Terminal kind ∷ symbols);
        passed = refl;
        continues = refl;
        fits = omega (arith, enough, least_fits symbols);
      },
      λ plain e tree. laws.sample_free kind tree plain.0,
    )
    completes (token_failed {kind = kind} {symbols = symbols} {leaf = leaf} fits run) h = λ enough orderly.
        let r = completes run h enough orderly in (
          record {
            front = leaf ∷ r.0.front;
            more = r.0.more;
            tree = Then (Alone leaf) r.0.tree;
            spelled = token leaf fits r.0.spelled;
            passed = ap (λ x. leaf ∷ x) r.0.passed;
            continues = ap (λ x. leaf ∷ x) r.0.continues;
            fits = omega (arith, r.0.fits);
          },
          λ plain e tree. absurd (cc e),
        )
    completes (part_failed {sort = sort} {level = level} {symbols = symbols} {room = room} run) h = λ enough orderly.
        let r = completes run h (omega (arith, enough)) in
        let free = λ (tree : Tree Leaf Production). least_is_free symbols tree orderly.0 in (
          record {
            front = r.0.front;
            more = r.0.more ++ leaves (least_parts T symbols);
            tree = Then r.0.tree (least_parts T symbols);
            spelled = part r.0.spelled (least_is symbols) (free r.0.tree);
            passed = r.0.passed;
            continues = ap (λ x. x ++ leaves (least_parts T symbols)) r.0.continues ∙ append_assoc r.0.front r.0.more (leaves (least_parts T symbols));
            fits = omega (arith, r.0.fits, enough, least_fits symbols);
          },
          λ plain e tree. barred_append tree (leaves r.0.tree) (leaves (least_parts T symbols)) (r.1 e tree) (free tree),
        )
    completes (then_failed {symbols = symbols} {middle = middle} {behind = behind} {tree = tree} run more) h = λ enough orderly.
        let a = sound run in
        let r = completes more h (omega (arith, enough)) orderly.1 in
        let front_free : barred T tree (r.0.front ++ r.0.more) ≡ false = barred_next tree r.0.front r.0.more behind middle r.0.passed (laws.closed run) (λ e. sym (ap (barred T tree) r.0.continues) ∙ r.1 orderly.0 e tree) in (
          record {
            front = leaves tree ++ r.0.front;
            more = r.0.more;
            tree = Then tree r.0.tree;
            spelled = part a.0 r.0.spelled (ap (barred T tree) r.0.continues ∙ front_free);
            passed = a.1 ∙ ap (λ x. leaves tree ++ x) r.0.passed ∙ sym (append_assoc (leaves tree) r.0.front behind);
            continues = ap (λ x. leaves tree ++ x) r.0.continues ∙ sym (append_assoc (leaves tree) r.0.front r.0.more);
            fits = omega (arith, a.2, r.0.fits);
          },
          λ plain e other. ap (λ x. barred T other (x ++ leaves r.0.tree)) (nothing_before (leaves tree) r.0.front e) ∙ r.1 orderly.0 (nothing_behind (leaves tree) r.0.front e) other,
        )
    completes (never {sort = sort} {level = level} {room = room} {text = text} chosen) h = λ enough. least_completion sort level room text enough
    completes (stuck {sort = sort} {level = level} {room = room} {first = lowest1} {leaf = leaf} {text = text} chosen fit) h = λ enough. begun_completion sort level room lowest1 leaf text (ap lowest chosen) (subst IsDivided (sym chosen) tt) fit
    completes (stuck_deep {sort = sort} {level = level} {room = room} {text = text} chosen deep) h = λ enough. least_completion sort level room text enough
    completes (first_deep {sort = sort} {level = level} {room = room} {text = text} chosen deep) h = λ enough. least_completion sort level room text enough
    completes (second_deep {sort = sort} {level = level} {room = room} {first = lowest1} {second = second} {leaf = leaf} {text = text} chosen fit deep) h = λ enough.
        let less : lowest1 < second = omega (arith, fit, deep) in
        begun_completion sort level room lowest1 leaf text (ap lowest chosen) (subst IsDivided (sym chosen) less) fit
    completes (row_failed {sort = sort} {level = level} {room = room} {first = lowest1} {second = second} {form = form} {text = text} {behind = behind} chosen fit fit' down run) h = λ enough.
        let row = laws.row sort level text form lowest1 second chosen in
        let r = completes run h (omega (arith, row.enough, fit', down)) (laws.orderly form) in
        settle sort level room text behind enough (record {
          front = r.0.front;
          more = r.0.more;
          tree = Node form r.0.tree;
          spelled = first form row.own_sort row.own_row row.own_left row.own_level r.0.spelled;
          passed = r.0.passed;
          continues = r.0.continues;
          fits = omega (arith, r.0.fits, down);
        })
    completes (row_done {sort = sort} {level = level} {room = room} {first = lowest1} {second = second} {form = form} {text = text} {middle = middle} {parts = parts} chosen fit fit' down run more) h = λ enough.
        let p = sound run in
        let row = laws.row sort level text form lowest1 second chosen in
        let m = completes more h (first form row.own_sort row.own_row row.own_left row.own_level p.0) (omega (arith, p.2, down)) in
        settle sort level room text _ enough (record {
          front = leaves parts ++ m.front;
          more = m.more;
          tree = m.tree;
          spelled = m.spelled;
          passed = p.1 ∙ ap (λ x. leaves parts ++ x) m.passed ∙ sym (append_assoc (leaves parts) m.front _);
          continues = m.continues ∙ sym (append_assoc (leaves parts) m.front m.more);
          fits = m.fits;
        })
    completes (more_deep {left = left} chosen deep) h = λ is fits. record {
      front = [];
      more = [];
      tree = left;
      spelled = is;
      passed = refl;
      continues = sym (append-nil (leaves left));
      fits = fits;
    }
    completes (more_failed {sort = sort} {level = level} {left = left} {form = form} {text = text} chosen fit fit' down run) h = λ is fits.
        let next = laws.next sort level left text form chosen in
        let r = completes run h (omega (arith, next.enough, fit, down)) (laws.orderly form) in
        record {
          front = r.0.front;
          more = r.0.more;
          tree = Node form (Then left r.0.tree);
          spelled = after form next.left_level next.own_sort next.own_row next.own_left next.own_level (at_level sort level next.left_level left next.binds is) r.0.spelled;
          passed = r.0.passed;
          continues = ap (λ x. leaves left ++ x) r.0.continues;
          fits = omega (arith, r.0.fits, fit', down);
        }
    completes (more_done {sort = sort} {level = level} {left = left} {form = form} {text = text} {middle = middle} {parts = parts} chosen fit fit' down run more) h = λ is fits.
        let p = sound run in
        let next = laws.next sort level left text form chosen in
        let m = completes more h (after form next.left_level next.own_sort next.own_row next.own_left next.own_level (at_level sort level next.left_level left next.binds is) p.0) (omega (arith, p.2, fit', down)) in
        record {
          front = leaves parts ++ m.front;
          more = m.more;
          tree = m.tree;
          spelled = m.spelled;
          passed = p.1 ∙ ap (λ x. leaves parts ++ x) m.passed ∙ sym (append_assoc (leaves parts) m.front _);
          continues = m.continues ∙ regroup (leaves left) (leaves parts) m.front m.more;
          fits = m.fits;
        }
