-- A cell becomes live: the last one freed, or the next one.
use Rattle.std.proofs.Common.{◌≡◌, ℕ, suc, ◌+◌, ◌-◌, ◌*◌, ◌/◌, ◌%◌, ◌≤◌, Bool, true, false, List, [], ◌∷◌, ◌++◌, Option, Some, None, length, replicate, get_or, set, refl, sym, ap, subst, ◌∙◌, arith}
use Rattle.std.specs.Prelude.{if◌then◌else◌, slice_index, slice_index_or}
use Rattle.std.proofs.lemmas.List.{get_or-set_same, get_or-set_other, length-set}
use Rattle.run_theory.specs.Words.{zeros, word_at}
use Rattle.slab_space.specs.Pool.{cells_per_run, with_next, with_freed, live_cells}
use Rattle.slab_space.specs.Pool as seen
use Rattle.pool_runtime.specs.declared.cells.Cells.{Cells}
use Rattle.pool_runtime.specs.Bytes.{range, SameAt}
use Rattle.pool_runtime.specs.Seen.{place, cell_seen, cells_seen, threaded, freed_seen, class_seen}
use Rattle.pool_runtime.specs.Tables.{IsDead, AllDead, IsNotAmong, EachOnce, IsCells}
use Rattle.pool_runtime.proofs.Ranges.{range-same}
use Rattle.pool_runtime.proofs.CellsSeen.{length-cells_seen, get_or-cells_seen, cells_same, cells_set, threaded_same, all_among, both_among, somes, somes_push, somes_more, somes_less, length-live_from}

abbrev cells_of : ℕ → List ℕ → List (Option (List ℕ)) → List ℕ → seen.Cells
cells_of s rs cs fs = record { size = s; runs = rs; cells = cs; freed = fs }

same_class : {s s' : ℕ} {rs rs' : List ℕ} {cs cs' : List (Option (List ℕ))} {fs fs' : List ℕ} → s ≡ s' → rs ≡ rs' → cs ≡ cs' → fs ≡ fs' → cells_of s rs cs fs ≡ cells_of s' rs' cs' fs'
same_class es ers ecs efs = rw (es, ers, ecs, efs) refl

pub zeros_are : (n : ℕ) → replicate n 0 ≡ zeros n
unfolding zeros
zeros_are n = refl

-- how many cells a class has live
pub live_are : (bytes : List ℕ) (c : Cells) → length (live_cells (class_seen bytes c)) ≡ somes (cells_seen bytes c c.made)
live_are bytes c = length-live_from (class_seen bytes c) 1 (cells_seen bytes c c.made)

-- `c'` has the same runs as `c`; the bytes of all cells but one are the same
module _ (bytes bytes' : List ℕ) (c c' : Cells) (number : ℕ) (size : c'.size ≡ c.size) (runs : c'.runs.items ≡ c.runs.items)
    (table : IsCells bytes c) (one : 1 ≤ number) (inside : number ≤ length c.live.items)
    (fit : (n : ℕ) → 1 ≤ n → n ≤ length c.live.items → place c n + c.size ≤ length bytes)
    (long : length bytes' ≡ length bytes)
    (others : (n : ℕ) → 1 ≤ n → n ≤ length c.live.items → ¬ (n ≡ number) → SameAt bytes bytes' (place c n) c.size)
  where
    pub place_same : (n : ℕ) → place c' n ≡ place c n
    place_same n = ap (λ (rs : List ℕ). 4096 * slice_index rs ((n - 1) / cells_per_run c'.size) + c'.size * ((n - 1) % cells_per_run c'.size)) runs
        ∙ ap (λ s. 4096 * slice_index c.runs.items ((n - 1) / cells_per_run s) + s * ((n - 1) % cells_per_run s)) size

    -- a cell's first bytes, when the whole cell is the same
    start_same : (n : ℕ) → SameAt bytes bytes' (place c n) c.size → SameAt bytes bytes' (place c n) 4
    start_same n same at low high = same at low (omega (arith, high, table.least))

    module _ (b : Bool) (live : c'.live.items ≡ set c.live.items (number - 1) b) where
      live_other : (n : ℕ) → 1 ≤ n → ¬ (n ≡ number) → slice_index_or c'.live.items (n - 1) false ≡ slice_index_or c.live.items (n - 1) false
      live_other n some differ = ap (λ (bs : List Bool). get_or bs (n - 1) false) live ∙ get_or-set_other c.live.items (number - 1) (n - 1) b false (λ e. differ (omega (arith, e, some, one)))

      cell_other : (n : ℕ) → 1 ≤ n → n ≤ c.made → ¬ (n ≡ number) → cell_seen bytes' c' n ≡ cell_seen bytes c n
      cell_other n some made differ =
          let L = slice_index_or c.live.items (n - 1) false in
          let in_live : n ≤ length c.live.items = omega (arith, made, table.made) in
          ap (λ (l : Bool). if l then Some (range bytes' (place c' n) c'.size) else None) (live_other n some differ)
          ∙ ap (λ p. if L then Some (range bytes' p c'.size) else None) (place_same n)
          ∙ ap (λ s. if L then Some (range bytes' (place c n) s) else None) size
          ∙ ap (λ (r : List ℕ). if L then Some r else None) (range-same bytes bytes' (place c n) c.size (fit n some in_live) long (others n some in_live differ))

      live_here : slice_index_or c'.live.items (number - 1) false ≡ b
      live_here = ap (λ (bs : List Bool). get_or bs (number - 1) false) live ∙ get_or-set_same c.live.items (number - 1) b false (omega (arith, inside, one))

      -- cells that were freed before stay so
      dead_stays : (n : ℕ) → c.made ≤ c'.made → IsDead c n × ¬ (number ≡ n) → IsDead c' n
      dead_stays n made both = record {
        some = both.0.some;
        made = omega (arith, both.0.made, made);
        dead = live_other n both.0.some (λ e. both.1 (sym e)) ∙ both.0.dead;
      }

      -- and so does their list
      thread_stays : (count head : ℕ) → AllDead c (threaded bytes c count head) → IsNotAmong number (threaded bytes c count head) → threaded bytes' c' count head ≡ threaded bytes c count head
      thread_stays count head dead not =
          threaded_same bytes bytes' c c' count head (all_among (threaded bytes c count head) (λ n both.
          (place_same n, start_same n (others n both.0.some (omega (arith, both.0.made, table.made)) (λ e. both.1 (sym e))))) (both_among (IsDead c) (λ other. ¬ (number ≡ other)) (threaded bytes c count head) dead not))

      table_from : c'.made ≤ length c.live.items → AllDead c' (freed_seen bytes' c') → EachOnce (freed_seen bytes' c') → somes (cells_seen bytes' c' c'.made) + c'.freed ≡ c'.made → IsCells bytes' c'
      table_from made dead once counted = record {
        least = subst (λ s. 4 ≤ s) (sym size) table.least;
        most = subst (λ s. s ≤ 1048576) (sym size) table.most;
        room = ap length live ∙ length-set c.live.items (number - 1) b ∙ table.room ∙ ap (λ (rs : List ℕ). length rs * cells_per_run c.size) (sym runs) ∙ ap (λ s. length c'.runs.items * cells_per_run s) (sym size);
        few = subst (λ (rs : List ℕ). length rs ≤ 1048576) (sym runs) table.few;
        made = let same = ap length live ∙ length-set c.live.items (number - 1) b in omega (arith, made, same);
        dead = dead;
        once = once;
        counted = ap (λ n. n + c'.freed) (live_are bytes' c') ∙ counted;
      }

    -- ---- a cell becomes live

    module _ (live : c'.live.items ≡ set c.live.items (number - 1) true) (blank : range bytes' (place c number) c.size ≡ zeros c.size) where
      blank_here : cell_seen bytes' c' number ≡ Some (zeros c.size)
      blank_here =
          ap (λ (l : Bool). if l then Some (range bytes' (place c' number) c'.size) else None) (live_here true live)
          ∙ ap (λ p. Some (range bytes' p c'.size)) (place_same number) ∙ ap (λ s. Some (range bytes' (place c number) s)) size ∙ ap Some blank

      module _ (none : c.freed ≡ 0) (is : number ≡ c.made + 1) (made : c'.made ≡ c.made + 1) (freed : c'.freed ≡ 0) where
        no_freed : freed_seen bytes c ≡ []
        no_freed = ap (λ k. threaded bytes c k c.last_freed) none

        no_freed' : freed_seen bytes' c' ≡ []
        no_freed' = ap (λ k. threaded bytes' c' k c'.last_freed) freed

        fresh_cells : cells_seen bytes' c' c'.made ≡ cells_seen bytes c c.made ++ Some (zeros c.size) ∷ []
        fresh_cells =
            let next : c'.made ≡ suc c.made = omega (arith, made) in let here : suc c.made ≡ number = omega (arith, is) in
            ap (cells_seen bytes' c') next
            ∙ ap (λ (cs : List (Option (List ℕ))). cs ++ cell_seen bytes' c' (suc c.made) ∷ []) (cells_same bytes bytes' c c' c.made (λ n low high. cell_other true live n low high (λ e. absurd (omega (arith, e, is, high)))))
            ∙ ap (λ (x : Option (List ℕ)). cells_seen bytes c c.made ++ x ∷ []) (ap (cell_seen bytes' c') here ∙ blank_here)

        pub fresh_seen : class_seen bytes' c' ≡ with_next (class_seen bytes c) (freed_seen bytes c)
        fresh_seen = same_class size runs fresh_cells (no_freed' ∙ sym no_freed) ∙ ap (with_next (class_seen bytes c)) (sym no_freed)

        pub fresh_table : IsCells bytes' c'
        fresh_table =
            let count = ap somes fresh_cells ∙ somes_push (cells_seen bytes c c.made) (zeros c.size) in
            table_from true live (omega (arith, made, is, inside)) (subst (AllDead c') (sym no_freed') tt) (subst EachOnce (sym no_freed') tt)
            (omega (arith, count, table.counted, live_are bytes c, none, made, freed))

      module _ (k : ℕ) (some : c.freed ≡ suc k) (is : number ≡ c.last_freed) (made : c'.made ≡ c.made) (freed : c'.freed ≡ k) (last : c'.last_freed ≡ word_at bytes (place c number) 4) where
        rest : List ℕ
        rest = threaded bytes c k (word_at bytes (place c number) 4)

        list : freed_seen bytes c ≡ number ∷ threaded bytes c k (word_at bytes (place c number) 4)
        list = ap (λ f. threaded bytes c f c.last_freed) some ∙ ap (λ n. n ∷ threaded bytes c k (word_at bytes (place c n) 4)) (sym is)

        dead : IsDead c number × AllDead c (threaded bytes c k (word_at bytes (place c number) 4))
        dead = subst (AllDead c) list table.dead

        once : IsNotAmong number (threaded bytes c k (word_at bytes (place c number) 4)) × EachOnce (threaded bytes c k (word_at bytes (place c number) 4))
        once = subst EachOnce list table.once

        list' : freed_seen bytes' c' ≡ threaded bytes c k (word_at bytes (place c number) 4)
        list' = ap (λ f. threaded bytes' c' f c'.last_freed) freed ∙ ap (threaded bytes' c' k) last ∙ thread_stays true live k (word_at bytes (place c number) 4) dead.1 once.0

        reused_cells : cells_seen bytes' c' c'.made ≡ set (cells_seen bytes c c.made) (number - 1) (Some (zeros c.size))
        reused_cells = ap (cells_seen bytes' c') made ∙ cells_set bytes bytes' c c' c.made number (Some (zeros c.size)) one dead.0.made (λ n low high differ. cell_other true live n low high differ) blank_here

        pub reused_seen : class_seen bytes' c' ≡ with_next (class_seen bytes c) (freed_seen bytes c)
        reused_seen = same_class size runs reused_cells list' ∙ ap (with_next (class_seen bytes c)) (sym list)

        none_here : get_or (cells_seen bytes c c.made) (number - 1) None ≡ None
        none_here =
            let there : number - 1 + 1 ≡ number = omega (arith, one) in
            get_or-cells_seen bytes c c.made (number - 1) None (omega (arith, one, dead.0.made)) ∙ ap (cell_seen bytes c) there
            ∙ ap (λ (l : Bool). if l then Some (range bytes (place c number) c.size) else None) dead.0.dead

        pub reused_table : IsCells bytes' c'
        reused_table =
            let cs = cells_seen bytes c c.made in
            let count = ap somes reused_cells ∙ somes_more cs (number - 1) (zeros c.size) (omega (arith, length-cells_seen bytes c c.made, one, dead.0.made)) none_here in
            table_from true live (omega (arith, made, table.made))
            (subst (AllDead c') (sym list') (all_among (threaded bytes c k (word_at bytes (place c number) 4)) (λ n both. dead_stays true live n (omega (arith, made)) both) (both_among (IsDead c) (λ other. ¬ (number ≡ other)) (threaded bytes c k (word_at bytes (place c number) 4)) dead.1 once.0)))
            (subst EachOnce (sym list') once.1)
            (omega (arith, count, table.counted, live_are bytes c, some, made, freed))

    -- ---- a cell is freed

    module _ (live : c'.live.items ≡ set c.live.items (number - 1) false) (was : slice_index_or c.live.items (number - 1) false ≡ true) (was_made : number ≤ c.made)
        (made : c'.made ≡ c.made) (freed : c'.freed ≡ c.freed + 1) (last : c'.last_freed ≡ number) (word : word_at bytes' (place c number) 4 ≡ c.last_freed) where
      none_now : cell_seen bytes' c' number ≡ None
      none_now = ap (λ (l : Bool). if l then Some (range bytes' (place c' number) c'.size) else None) (live_here false live)

      some_before : get_or (cells_seen bytes c c.made) (number - 1) None ≡ Some (range bytes (place c number) c.size)
      some_before =
          let there : number - 1 + 1 ≡ number = omega (arith, one) in
          get_or-cells_seen bytes c c.made (number - 1) None (omega (arith, one, was_made)) ∙ ap (cell_seen bytes c) there
          ∙ ap (λ (l : Bool). if l then Some (range bytes (place c number) c.size) else None) was

      not_freed : (n : ℕ) → IsDead c n → ¬ (number ≡ n)
      not_freed n gone e = let both : true ≡ false = sym was ∙ ap (λ m. slice_index_or c.live.items (m - 1) false) e ∙ gone.dead in cc

      apart : IsNotAmong number (freed_seen bytes c)
      apart = all_among (freed_seen bytes c) not_freed table.dead

      given_list : freed_seen bytes' c' ≡ number ∷ freed_seen bytes c
      given_list =
          let more : c'.freed ≡ suc c.freed = omega (arith, freed) in
          ap (λ f. threaded bytes' c' f c'.last_freed) more ∙ ap (threaded bytes' c' (suc c.freed)) last
          ∙ ap (λ (ns : List ℕ). number ∷ ns) (ap (λ p. threaded bytes' c' c.freed (word_at bytes' p 4)) (place_same number) ∙ ap (threaded bytes' c' c.freed) word ∙ thread_stays false live c.freed c.last_freed table.dead apart)

      given_cells : cells_seen bytes' c' c'.made ≡ set (cells_seen bytes c c.made) (number - 1) None
      given_cells = ap (cells_seen bytes' c') made ∙ cells_set bytes bytes' c c' c.made number None one was_made (λ n low high differ. cell_other false live n low high differ) none_now

      pub given_seen : class_seen bytes' c' ≡ with_freed (class_seen bytes c) number
      given_seen = same_class size runs given_cells given_list

      pub given_table : IsCells bytes' c'
      given_table =
          let cs = cells_seen bytes c c.made in
          let count = somes_less cs (number - 1) (range bytes (place c number) c.size) some_before in
          let is = ap somes given_cells in
          let here : IsDead c' number = record { some = one; made = omega (arith, made, was_made); dead = live_here false live } in
          table_from false live (omega (arith, made, table.made))
          (subst (AllDead c') (sym given_list) (here, all_among (freed_seen bytes c) (λ n both. dead_stays false live n (omega (arith, made)) both) (both_among (IsDead c) (λ other. ¬ (number ≡ other)) (freed_seen bytes c) table.dead apart)))
          (subst EachOnce (sym given_list) (apart, table.once))
          (omega (arith, count, is, table.counted, live_are bytes c, made, freed))
