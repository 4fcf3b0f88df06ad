-- Words to bytes to words, and bytes to words to bytes, of numbers and of lists of them.
use mathlib.Core.Path.{◌≡◌, refl, sym, ap, ◌∙◌}
use Prim.Native.Nat.{◌≤◌, ◌<◌}
use native.Mathlib.Omega.{arith}
use lib.ListN.{length-drop}
use lib.Seq.{get_or-drop}
use Rattle.rules.specs.Lists.{ℕ, zero, suc, ◌+◌, ◌*◌, ◌/◌, ◌%◌, List, [], ◌∷◌, ◌++◌, length, drop, get_or}
use Rattle.rules.specs.Bytes.{bytes_of, word_of, to_bytes, to_words}

-- each number of the list is below n
abbrev pub Below : ℕ → List ℕ → Type 0
Below n xs = (i : ℕ) → get_or xs i 0 < n

abbrev pub byte_top : ℕ
byte_top = 256

abbrev pub word_top : ℕ
word_top = 4294967296

pub below_drop : (n k : ℕ) (xs : List ℕ) → Below n xs → Below n (drop k xs)
below_drop n k xs low i = rw get_or-drop (low (k + i))

-- a list of four or more, by its first four
pub four_first : (xs : List ℕ) → 4 ≤ length xs → xs ≡ get_or xs 0 0 ∷ get_or xs 1 0 ∷ get_or xs 2 0 ∷ get_or xs 3 0 ∷ drop 4 xs
four_first [] l = absurd (omega arith)
four_first (a ∷ []) l = absurd (omega arith)
four_first (a ∷ b ∷ []) l = absurd (omega arith)
four_first (a ∷ b ∷ c ∷ []) l = absurd (omega arith)
four_first (a ∷ b ∷ c ∷ d ∷ xs) l = refl

-- ---- a word, and four bytes
pub word_back : (w : ℕ) (bs : List ℕ) → w < word_top → word_of (bytes_of w ++ bs) ≡ w
unfolding word_of bytes_of
word_back w bs l = let top : w / 16777216 % 256 ≡ w / 16777216 = omega arith in omega arith

pub bytes_back_lem : (bs : List ℕ) → Below byte_top bs → bytes_of (word_of bs) ≡ get_or bs 0 0 ∷ get_or bs 1 0 ∷ get_or bs 2 0 ∷ get_or bs 3 0 ∷ []
unfolding word_of bytes_of
bytes_back_lem bs low =
    four (word_of bs) (get_or bs 0 0) (get_or bs 1 0) (get_or bs 2 0) (get_or bs 3 0) refl (low 0) (low 1) (low 2) (low 3)
  where
    four : (w a b c d : ℕ) → w ≡ a + 256 * b + 65536 * c + 16777216 * d → a < byte_top → b < byte_top → c < byte_top → d < byte_top
        → w % 256 ∷ w / 256 % 256 ∷ w / 65536 % 256 ∷ w / 16777216 % 256 ∷ [] ≡ a ∷ b ∷ c ∷ d ∷ []
    four w a b c d e la lb lc ld =
        let p : w % 256 ≡ a = omega arith in
        let q : w / 256 ≡ b + 256 * (c + 256 * d) = omega arith in
        let r : w / 65536 ≡ c + 256 * d = omega arith in
        let s : w / 16777216 ≡ d = omega arith in
        let q' : (b + 256 * (c + 256 * d)) % 256 ≡ b = omega arith in
        let r' : (c + 256 * d) % 256 ≡ c = omega arith in
        let s' : d % 256 ≡ d = omega arith in
        rw (p, q, q', r, r', s, s')

-- ---- lists of them
pub words_back : (ws : List ℕ) → Below word_top ws → to_words (length ws) (to_bytes ws) ≡ ws
unfolding to_words to_bytes bytes_of
words_back [] low = refl
words_back (w ∷ ws) low =
    ap (λ (x : ℕ). x ∷ to_words (length ws) (to_bytes ws)) (word_back w (to_bytes ws) (low 0))
    ∙ ap (λ (xs : List ℕ). w ∷ xs) (words_back ws (λ i. low (suc i)))

pub all_bytes_back : (n : ℕ) (bs : List ℕ) → length bs ≡ 4 * n → Below byte_top bs → to_bytes (to_words n bs) ≡ bs
unfolding to_words to_bytes
all_bytes_back zero [] l low = refl
all_bytes_back zero (x ∷ bs) l low = absurd (omega arith)
all_bytes_back (suc n) bs l low =
    ap (λ (x : List ℕ). x ++ to_bytes (to_words n (drop 4 bs))) (bytes_back_lem bs low)
    ∙ ap (λ (x : List ℕ). get_or bs 0 0 ∷ get_or bs 1 0 ∷ get_or bs 2 0 ∷ get_or bs 3 0 ∷ x)
    (all_bytes_back n (drop 4 bs) (simp length-drop (omega arith)) (below_drop byte_top 4 bs low))
    ∙ sym (four_first bs (omega arith))

pub length_to_bytes : (ws : List ℕ) → length (to_bytes ws) ≡ 4 * length ws
unfolding to_bytes bytes_of
length_to_bytes [] = refl
length_to_bytes (w ∷ ws) = omega (arith, length_to_bytes ws)

pub length_to_words : (n : ℕ) (bs : List ℕ) → length (to_words n bs) ≡ n
unfolding to_words
length_to_words zero bs = refl
length_to_words (suc n) bs = ap suc (length_to_words n (drop 4 bs))
