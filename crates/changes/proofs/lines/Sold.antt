-- A sale in place: the room made in a line and what is put there, the line's new head, and the carnet behind it.
use mathlib.Core.Path.{◌≡◌, refl, sym, ap, ◌∙◌}
use mathlib.Core.List.{append_assoc}
use Prim.Native.Nat.{◌≤◌, ◌<◌}
use native.Mathlib.Omega.{arith}
use lib.ListN.{length-append, length-take, length-drop, length-replicate, take-append-drop}
use lib.Seq.{drop_at, take-take, drop-drop, length-take-le, get_or-take, get_or-drop}
use borrow.Rule.Slice.PartMut.{put_mid}
use Rattle.rules.specs.Lists.{ℕ, zero, suc, ◌+◌, ◌*◌, ◌-◌, min, true, List, [], ◌∷◌, ◌++◌, length, take, drop, get_or, replicate, all_zero}
use Rattle.rules.specs.Hall.{most_held, most_sales}
use Rattle.rules.specs.Records.{words, count, sales, cells, held, filled, made, with_word, record_at, put}
use Rattle.rules.specs.Form.{Form, plain}
use Rattle.rules.specs.Slips.{slip, slip_of, slip_pairs}
use Rattle.tokens.specs.Moved.{moved}
use Rattle.laws.proofs.Blocks.{block_swap, block_back, block_long}
use Rattle.laws.proofs.Made.{filled_long, made_long}
use Rattle.laws.proofs.Parts.{part_block, back_block}
use Rattle.laws.proofs.Zeros.{zeros, zero_zeros, drop_zeros}
use Rattle.changes.specs.Found.{Neat}
use Rattle.changes.specs.Sales.{sold_cells, line_cells, sold, Room}
use Rattle.changes.proofs.Written.{put_there, put_elsewhere, put_over, put_size, changed_twice}
use Rattle.changes.proofs.Kept.{held_size}
use Rattle.changes.proofs.Cells.{first_two, head_long, head_cells, head_with, head_stays, cells_moved}

-- ---- room for n cells before the first m
module _ (m n : ℕ) (cs : List ℕ) (fits : n + m ≤ length cs) where
  room_size : length (moved 0 m n cs) ≡ length cs
  unfolding moved
  room_size = simp (length-append, length-take, length-drop) (omega arith)

  room_behind : drop n (moved 0 m n cs) ≡ take m cs ++ drop (n + m) cs
  unfolding moved
  room_behind = drop_at (take n cs) _ n (length-take-le n cs (omega arith))

room_none : (m : ℕ) (cs : List ℕ) → moved 0 m 0 cs ≡ cs
unfolding moved
room_none m cs = let e : 0 + m ≡ m = omega arith in rw e (take-append-drop m cs)

-- cells that are zero past the first m, with xs before those
cells_filled : (xs cs : List ℕ) (m : ℕ) → length cs ≡ most_held → length xs + m ≤ most_held → all_zero (drop m cs) ≡ true
    → xs ++ (take m cs ++ drop (length xs + m) cs) ≡ (xs ++ take m cs) ++ replicate (most_held - length (xs ++ take m cs)) 0
cells_filled xs cs m long few z =
    let sum : length xs + m ≡ m + length xs = omega arith in
    let rest : length (drop m cs) - length xs ≡ most_held - length (xs ++ take m cs) =
    simp (length-append, length-take, length-drop) (omega arith) in
    let past : drop (length xs + m) cs ≡ zeros (most_held - length (xs ++ take m cs)) =
    ap (λ (i : ℕ). drop i cs) sum ∙ sym (drop-drop (length xs) m cs)
    ∙ ap (drop (length xs)) (zero_zeros (drop m cs) z)
    ∙ drop_zeros (length xs) (length (drop m cs)) ∙ ap zeros rest in
    rw past (sym (append_assoc xs (take m cs) _))

-- ---- a line with room for a sale
module _ (f : Form) (b : List ℕ) (carnet line n : ℕ) (room : Room f b carnet line n) where
  line_long : length (record_at line b) ≡ words
  line_long = block_long words line b room.line_inside

  carnet_long : length (record_at carnet b) ≡ words
  carnet_long = block_long words carnet b (omega (arith, room.line_inside, room.apart))

  line_cells_lem : length (cells (record_at line b)) ≡ most_held
  line_cells_lem = simp length-drop (omega (arith, line_long))

  -- the carnet has the tokens to be sold
  held_long : length (held (record_at carnet b)) ≡ count (record_at carnet b)
  held_long = held_size (record_at carnet b) carnet_long room.carnet_neat

  pub sold_few : n ≤ most_held
  sold_few = omega (arith, room.enough, room.carnet_neat.few)

  -- the sums that the code writes
  pub count_fits : (m : ℕ) → m ≡ get_or (record_at line b) 2 0 → m + n ≤ most_held
  unfolding count
  count_fits m e = omega (arith, e, room.tokens)

  pub sales_fit : (s one : ℕ) → s ≡ get_or (record_at line b) 3 0 → one ≡ min n 1 → s + one ≤ most_sales + 1
  unfolding sales
  sales_fit s one es eo = omega (arith, es, eo, room.sales)

  -- xs, i of them, is what the sale puts before the line's m cells
  module _ (m i : ℕ) (xs : List ℕ) (older : f.cells (record_at line b) ≡ take m (cells (record_at line b)))
      (sale : f.sale (take n (held (record_at carnet b))) ≡ xs) (size : length xs ≡ i) (l : m ≤ most_held) where
    older_size : length (f.cells (record_at line b)) ≡ m
    older_size = ap length older ∙ length-take-le m (cells (record_at line b)) (omega (arith, line_cells_lem))

    sale_fits : i + m ≤ most_held
    unfolding sold_cells
    sale_fits = omega (arith, older_size, ap length sale, simp length-append at room.cells)

    sale_laid : xs ++ drop i (moved 0 m i (cells (record_at line b))) ≡ line_cells f b carnet line n
    unfolding line_cells sold_cells
    sale_laid =
        let cs : List ℕ = cells (record_at line b) in
        let fits : i + m ≤ length cs = omega (arith, line_cells_lem, sale_fits) in
        let z : all_zero (drop m cs) ≡ true = rw older_size at room.line_past in
        ap (λ (x : List ℕ). xs ++ x) (room_behind m i cs fits ∙ ap (λ (j : ℕ). take m cs ++ drop (j + m) cs) (sym size))
        ∙ cells_filled xs cs m line_cells_lem (omega (arith, size, sale_fits)) z
        ∙ rw (sale, older)

    -- the line once the room is made
    roomy_long : length (take 4 (record_at line b) ++ moved 0 m i (cells (record_at line b))) ≡ words
    roomy_long =
        head_long (record_at line b) _ line_long
        (room_size m i (cells (record_at line b)) (omega (arith, line_cells_lem, sale_fits)) ∙ line_cells_lem)

    -- the room is made, and the line with xs in it put over that
    sale_over : (mid : List ℕ) → mid ≡ put line (take 4 (record_at line b) ++ moved 0 m i (cells (record_at line b))) b
        → (record_at line mid ≡ take 4 (record_at line b) ++ moved 0 m i (cells (record_at line b)))
        × (record_at carnet mid ≡ record_at carnet b)
        × (length mid ≡ length b)
        × (put line (take 4 (record_at line b) ++ (xs ++ drop i (moved 0 m i (cells (record_at line b))))) mid
        ≡ put line (take 4 (record_at line b) ++ line_cells f b carnet line n) b)
    sale_over mid e =
        let r : List ℕ = take 4 (record_at line b) ++ moved 0 m i (cells (record_at line b)) in (
          put_there line r b mid e roomy_long room.line_inside,
          put_elsewhere line r b mid e roomy_long room.line_inside carnet (λ q. omega (arith, room.apart)),
          put_size line r b mid e roomy_long room.line_inside,
          put_over line r b mid e roomy_long room.line_inside _
              ∙ ap (λ (x : List ℕ). put line (take 4 (record_at line b) ++ x) b) sale_laid,
        )

-- ---- the tokens themselves
module _ (b : List ℕ) (carnet line n : ℕ) (room : Room plain b carnet line n) where
  older_tokens : (m : ℕ) → m ≡ get_or (record_at line b) 2 0 → held (record_at line b) ≡ take m (cells (record_at line b))
  unfolding held count
  older_tokens m e = ap (λ (i : ℕ). take i (cells (record_at line b))) (sym e)

  sold_tokens : take n (held (record_at carnet b)) ≡ take n (cells (record_at carnet b))
  unfolding held
  sold_tokens = take-take n (count (record_at carnet b)) (cells (record_at carnet b)) room.enough

  pub tokens_put : (m : ℕ) (mid new : List ℕ) → m ≡ get_or (record_at line b) 2 0
      → mid ≡ put line (take 4 (record_at line b) ++ moved 0 m n (cells (record_at line b))) b
      → new ≡ moved (words * carnet + 4) n (words * line + 4) mid
      → new ≡ put line (take 4 (record_at line b) ++ line_cells plain b carnet line n) b
  tokens_put m mid new em emid e =
      let r : List ℕ = record_at line b in
      let few : n ≤ most_held = sold_few plain b carnet line n room in
      let size : length (take n (cells (record_at carnet b))) ≡ n =
      simp (length-take, length-drop) (omega (arith, few, carnet_long plain b carnet line n room)) in
      let over =
      sale_over plain b carnet line n room m n (take n (cells (record_at carnet b))) (older_tokens m em) sold_tokens size
      (omega (arith, count_fits plain b carnet line n room m em)) mid emid in
      e
      ∙ cells_moved carnet mid line n few (omega (arith, over.2, room.line_inside))
      ∙ rw (over.0, over.1, head_stays r (moved 0 m n (cells r)) (line_long plain b carnet line n room), head_cells r (moved 0 m n (cells r)) (line_long plain b carnet line n room))
      over.3

-- ---- their slip
one_pair : (n : ℕ) (xs : List ℕ) → n ≤ length xs → (n ≡ 0 → ⊥) → slip_of (take n xs) ≡ get_or xs 0 0 ∷ n ∷ []
unfolding slip_of
one_pair zero xs l ne = absurd (ne refl)
one_pair (suc n) [] l ne = absurd (omega arith)
one_pair (suc n) (x ∷ xs) l ne = ap (λ (i : ℕ). x ∷ suc i ∷ []) (length-take-le n xs (omega arith))

module _ (b : List ℕ) (carnet line n : ℕ) (room : Room slip b carnet line n) (s : ℕ) (es : s ≡ get_or (record_at line b) 3 0) where
  older_pairs : slip_pairs (record_at line b) ≡ take (2 * s) (cells (record_at line b))
  unfolding slip_pairs sales
  older_pairs = ap (λ (i : ℕ). take (2 * i) (cells (record_at line b))) (sym es)

  pairs_few : 2 * s ≤ most_held
  unfolding sales
  pairs_few = omega (arith, es, room.sales)

  -- nothing sold: the line as it stands
  pub none_put : n ≡ 0 → b ≡ put line (take 4 (record_at line b) ++ line_cells slip b carnet line n) b
  unfolding slip_of
  none_put z =
      let r : List ℕ = record_at line b in
      let none : slip_of (take n (held (record_at carnet b))) ≡ [] = rw z in
      sym (block_back words line b)
      ∙ ap (λ (x : List ℕ). put line x b)
      (sym (take-append-drop 4 r)
      ∙ ap (λ (x : List ℕ). take 4 r ++ x)
      (sym (room_none (2 * s) (cells r)) ∙ sale_laid slip b carnet line n room (2 * s) 0 [] older_pairs none refl pairs_few))

  module _ (first : ℕ) (ef : first ≡ get_or (record_at carnet b) 4 0) (some : n ≡ 0 → ⊥) where
    sold_pair : slip_of (take n (held (record_at carnet b))) ≡ first ∷ n ∷ []
    unfolding held
    sold_pair =
        let c : List ℕ = record_at carnet b in
        let l : 0 < count c = omega (arith, room.enough) in
        one_pair n (held c) (omega (arith, held_long slip b carnet line n room, room.enough)) some
        ∙ ap (λ (x : ℕ). x ∷ n ∷ []) (get_or-take (count c) (cells c) 0 0 l ∙ get_or-drop 4 c 0 0 ∙ sym ef)

    pub pair_fits : 2 + 2 * s ≤ most_held
    pair_fits = sale_fits slip b carnet line n room (2 * s) 2 (first ∷ n ∷ []) older_pairs sold_pair refl pairs_few

    pub pair_put : (mid one new : List ℕ)
        → mid ≡ put line (take 4 (record_at line b) ++ moved 0 (2 * s) 2 (cells (record_at line b))) b
        → one ≡ put line (with_word 4 first (record_at line mid)) mid
        → new ≡ put line (with_word 5 n (record_at line one)) one
        → new ≡ put line (take 4 (record_at line b) ++ line_cells slip b carnet line n) b
    pair_put mid one new emid eone e =
        let r : List ℕ = record_at line b in
        let cs : List ℕ = moved 0 (2 * s) 2 (cells r) in
        let long : length r ≡ words = line_long slip b carnet line n room in
        let size : length cs ≡ most_held =
        room_size (2 * s) 2 (cells r) (omega (arith, line_cells_lem slip b carnet line n room, pair_fits)) ∙ line_cells_lem slip b carnet line n room in
        let over =
        sale_over slip b carnet line n room (2 * s) 2 (first ∷ n ∷ []) older_pairs sold_pair refl pairs_few mid emid in
        changed_twice line 4 first first 5 n _ mid mid one new e eone (omega (arith, over.2, room.line_inside)) refl over.0 refl
        ∙ ap (λ (x : List ℕ). put line x mid)
        (ap (with_word 5 n) (head_with r cs long 0 first)
        ∙ head_with r (with_word 0 first cs) long 1 n
        ∙ ap (λ (x : List ℕ). take 4 r ++ x) (first_two cs first n (omega (arith, size))))
        ∙ over.3

-- ---- the line's head, and then the carnet
module _ (f : Form) (b : List ℕ) (carnet line n : ℕ) (room : Room f b carnet line n) where
  abbrev line_sold : List ℕ
  line_sold = filled 1 0 (count (record_at line b) + n) (sales (record_at line b) + min n 1) (sold_cells f b carnet line n)

  line_sold_long : length line_sold ≡ words
  line_sold_long = filled_long _ _ _ _ (sold_cells f b carnet line n) room.cells

  laid_long : length (take 4 (record_at line b) ++ line_cells f b carnet line n) ≡ words
  unfolding line_cells
  laid_long =
      head_long (record_at line b) _ (line_long f b carnet line n room)
      (simp (length-append, length-replicate) (omega (arith, room.cells)))

  -- the words that the code read, the book with the line's cells laid, and the line with its new head
  module _ (m s one : ℕ) (mid part : List ℕ)
      (em : m ≡ get_or (record_at line b) 2 0) (es : s ≡ get_or (record_at line b) 3 0) (eo : one ≡ min n 1)
      (emid : mid ≡ put line (take 4 (record_at line b) ++ line_cells f b carnet line n) b)
      (e : part ≡ 1 ∷ 0 ∷ (m + n) ∷ (s + one) ∷ drop 4 (take (words * line + words - words * line) (drop (words * line) mid))) where
    abbrev headed : List ℕ
    headed = put_mid (words * line) (words * line + words - words * line) mid part

    line_headed : headed ≡ put line line_sold b
    unfolding filled line_cells count sales
    line_headed =
        let r : List ℕ = record_at line b in
        let laid : List ℕ = line_cells f b carnet line n in
        let stands : drop 4 (take (words * line + words - words * line) (drop (words * line) mid)) ≡ laid =
        ap (drop 4) (part_block words line mid ∙ put_there line (take 4 r ++ laid) b mid emid laid_long room.line_inside)
        ∙ head_cells r laid (line_long f b carnet line n room) in
        back_block words line mid part _ e
        ∙ put_over line (take 4 r ++ laid) b mid emid laid_long room.line_inside _
        ∙ ap (λ (x : List ℕ). put line x b) (rw (stands, em, es, eo))

    carnet_stays : record_at carnet headed ≡ record_at carnet b
    carnet_stays = put_elsewhere line line_sold b headed line_headed line_sold_long room.line_inside carnet (λ q. omega (arith, room.apart))

    -- the carnet still is what it was: all its tokens are within the cells that are dropped or moved
    pub carnet_waits : (c k : ℕ) → c ≡ get_or (record_at carnet b) 2 0 → k ≡ min c (32 - n)
        → Neat (record_at carnet headed) × (count (record_at carnet headed) ≤ n + k) × (n + k ≤ most_held)
    unfolding count
    carnet_waits c k p q =
        let few : n ≤ most_held = sold_few f b carnet line n room in
        (rw carnet_stays room.carnet_neat, rw carnet_stays (omega (arith, p, q, few, room.carnet_neat.few)), omega (arith, q, few))

    pub sale_sold : (new : List ℕ) → new ≡ put carnet (made 0 0 (drop n (held (record_at carnet headed)))) headed → new ≡ sold f b carnet line n
    unfolding sold
    sale_sold new enew =
        let c : List ℕ = record_at carnet b in
        let rest : length (drop n (held c)) ≤ most_held = simp length-drop (omega (arith, held_long f b carnet line n room, room.carnet_neat.few)) in
        enew
        ∙ rw (carnet_stays, line_headed)
        (sym (block_swap words carnet line line_sold (made 0 0 (drop n (held c))) line_sold_long (made_long 0 0 _ rest) b room.apart room.line_inside))
