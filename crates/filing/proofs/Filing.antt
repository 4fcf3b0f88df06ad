-- Words laid as bytes and bytes as words, one more.
use mathlib.Core.Path.{◌≡◌, refl, sym, ap, ◌∙◌}
use mathlib.Core.List.{append_assoc, append-nil}
use Prim.Native.Nat.{◌≤◌, ◌<◌}
use native.Mathlib.Numerals.{add-one}
use native.Mathlib.Omega.{arith}
use lib.ListN.{set, drop_of_length-le}
use lib.Seq.{take-suc, take_all, drop-cons, take_at, drop_at, drop-drop, set_at, length-take-le}
use Rattle.rules.specs.Lists.{ℕ, zero, suc, ◌+◌, ◌*◌, List, [], ◌∷◌, ◌++◌, length, take, drop, get_or}
use Rattle.rules.specs.Bytes.{bytes_of, word_of, to_bytes, to_words}
use Rattle.rules.proofs.Words.{length_to_bytes, length_to_words}

-- ---- bytes of the first i words, and what stood behind them
to_bytes_append : (xs ys : List ℕ) → to_bytes (xs ++ ys) ≡ to_bytes xs ++ to_bytes ys
unfolding to_bytes
to_bytes_append [] ys = refl
to_bytes_append (x ∷ xs) ys = ap (λ (l : List ℕ). bytes_of x ++ l) (to_bytes_append xs ys) ∙ sym (append_assoc (bytes_of x) (to_bytes xs) (to_bytes ys))

bytes_more : (ws : List ℕ) (i : ℕ) → i < length ws → to_bytes (take (i + 1) ws) ≡ to_bytes (take i ws) ++ bytes_of (get_or ws i 0)
unfolding to_bytes
bytes_more ws i l =
    ap (λ (n : ℕ). to_bytes (take n ws)) (add-one i)
    ∙ ap to_bytes (take-suc ws i 0 l)
    ∙ to_bytes_append (take i ws) (get_or ws i 0 ∷ [])
    ∙ ap (λ (x : List ℕ). to_bytes (take i ws) ++ x) (append-nil (bytes_of (get_or ws i 0)))

pub bytes_next : (ws out₀ out new : List ℕ) (i : ℕ) → i < length ws → out ≡ to_bytes (take i ws) ++ drop (4 * i) out₀
    → new ≡ take (4 * i) out ++ (bytes_of (get_or ws i 0) ++ drop (4 * i + 4) out)
    → new ≡ to_bytes (take (i + 1) ws) ++ drop (4 * (i + 1)) out₀
bytes_next ws out₀ out new i l e f =
    let A : List ℕ = to_bytes (take i ws) in
    let D : List ℕ = drop (4 * i) out₀ in
    let size : length (to_bytes (take i ws)) ≡ 4 * i = length_to_bytes (take i ws) ∙ ap (λ (n : ℕ). 4 * n) (length-take-le i ws (omega arith)) in
    let more : 4 * i + 4 ≡ 4 * (i + 1) = omega arith in
    let rest : drop (4 * i + 4) (to_bytes (take i ws) ++ drop (4 * i) out₀) ≡ drop (4 * (i + 1)) out₀ =
    sym (drop-drop 4 (4 * i) (A ++ D)) ∙ ap (drop 4) (drop_at A D (4 * i) size) ∙ drop-drop 4 (4 * i) out₀ ∙ ap (λ (n : ℕ). drop n out₀) more in
    f
    ∙ ap (λ (x : List ℕ). take (4 * i) x ++ (bytes_of (get_or ws i 0) ++ drop (4 * i + 4) x)) e
    ∙ ap (λ (x : List ℕ). x ++ (bytes_of (get_or ws i 0) ++ drop (4 * i + 4) (A ++ D))) (take_at A D (4 * i) size)
    ∙ ap (λ (x : List ℕ). A ++ (bytes_of (get_or ws i 0) ++ x)) rest
    ∙ sym (append_assoc A (bytes_of (get_or ws i 0)) (drop (4 * (i + 1)) out₀))
    ∙ ap (λ (x : List ℕ). x ++ drop (4 * (i + 1)) out₀) (sym (bytes_more ws i l))

-- ---- the first i words of the bytes, and what stood behind them
words_more : (i : ℕ) (bs : List ℕ) → to_words (suc i) bs ≡ to_words i bs ++ (word_of (drop (4 * i) bs) ∷ [])
unfolding to_words
words_more zero bs = refl
words_more (suc i) bs =
    let e : 4 + 4 * i ≡ 4 * suc i = omega arith in
    ap (λ (l : List ℕ). word_of bs ∷ l)
    (words_more i (drop 4 bs) ∙ ap (λ (x : List ℕ). to_words i (drop 4 bs) ++ (word_of x ∷ [])) (drop-drop (4 * i) 4 bs ∙ ap (λ (n : ℕ). drop n bs) e))

pub words_next : (bs out₀ out : List ℕ) (i w : ℕ) → i < length out₀ → out ≡ to_words i bs ++ drop i out₀ → w ≡ word_of (drop (4 * i) bs)
    → set out i w ≡ to_words (i + 1) bs ++ drop (i + 1) out₀
words_next bs out₀ out i w l e f =
    let W : List ℕ = to_words i bs in
    ap (λ (x : List ℕ). set x i w) (e ∙ ap (λ (x : List ℕ). W ++ x) (drop-cons out₀ i 0 l))
    ∙ set_at W (get_or out₀ i 0) (drop (suc i) out₀) w i (length_to_words i bs)
    ∙ sym (append_assoc W (w ∷ []) (drop (suc i) out₀))
    ∙ ap (λ (v : ℕ). (W ++ (v ∷ [])) ++ drop (suc i) out₀) f
    ∙ ap (λ (x : List ℕ). x ++ drop (suc i) out₀) (sym (words_more i bs))
    ∙ ap (λ (n : ℕ). to_words n bs ++ drop n out₀) (sym (add-one i))

-- ---- the loops' invariants: what the first i give, and where all are done
pub record Bytes (ws out₀ out : List ℕ) (i : ℕ) : Type 0 where
  pub within : i ≤ length ws
  pub size : length out ≡ length out₀
  pub done : out ≡ to_bytes (take i ws) ++ drop (4 * i) out₀

pub bytes_none : (ws out : List ℕ) → Bytes ws out out 0
unfolding to_bytes
bytes_none ws out = record { within = omega arith; size = refl; done = refl }

pub bytes_all : (ws out₀ out : List ℕ) (i : ℕ) → Bytes ws out₀ out i → length out₀ ≡ 4 * length ws → length ws ≤ i → out ≡ to_bytes ws
bytes_all ws out₀ out i s long l =
    let past : length out₀ ≤ 4 * i = omega arith in
    s.done
    ∙ ap (λ (x : List ℕ). to_bytes (take i ws) ++ x) (drop_of_length-le out₀ past)
    ∙ append-nil (to_bytes (take i ws))
    ∙ ap to_bytes (take_all i ws l)

pub record Words (bs out₀ out : List ℕ) (i : ℕ) : Type 0 where
  pub within : i ≤ length out₀
  pub size : length out ≡ length out₀
  pub done : out ≡ to_words i bs ++ drop i out₀

pub words_none : (bs out : List ℕ) → Words bs out out 0
unfolding to_words
words_none bs out = record { within = omega arith; size = refl; done = refl }

pub words_all : (bs out₀ out : List ℕ) (i : ℕ) → Words bs out₀ out i → length out₀ ≤ i → out ≡ to_words (length out₀) bs
words_all bs out₀ out i s l =
    let e : i ≡ length out₀ = omega (arith, s.within) in
    s.done
    ∙ ap (λ (x : List ℕ). to_words i bs ++ x) (drop_of_length-le out₀ l)
    ∙ append-nil (to_words i bs)
    ∙ ap (λ (n : ℕ). to_words n bs) e

pub ruleset as_bytes = (bytes_none, bytes_next, bytes_all)

pub ruleset as_words = (words_none, words_all)
