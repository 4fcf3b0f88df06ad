-- A sound slip book agrees with its opened book, and with no other sound plain book.
use mathlib.Core.Path.{◌≡◌, sym, ap, ◌∙◌}
use mathlib.Core.Logic.{⊎_elim}
use Prim.Native.Nat.{◌≤◌, ◌<◌}
use Rattle.rules.specs.declared.Hall.{Hall}
use Rattle.rules.specs.Lists.{ℕ, true, List}
use Rattle.rules.specs.Hall.{Line, number, records}
use Rattle.rules.specs.Records.{words, in_use, count, sales, held, filled, record_at}
use Rattle.rules.specs.Sound.{sound}
use Rattle.rules.specs.Slips.{open_book}
use Rattle.rules.specs.Agree.{SameLine, Agree}
use Rattle.rules.proofs.Tests.{below}
use Rattle.laws.proofs.Blocks.{block_ext}
use Rattle.laws.proofs.Reflect.{Book, sound_facts}
use Rattle.laws.proofs.Asked.{record_shaped, record_is}
use Rattle.laws.proofs.Books.{long_at, line_at}
use Rattle.laws.proofs.Opened.{open_same}
use Rattle.laws.proofs.ReflectSlips.{SlipSound}
use Rattle.agree.proofs.SameVerdict.{opened_book, word_use, word_count, word_sales, line_tokens}

module _ (h : Hall) (ts s : List ℕ) (ok : SlipSound h ts s) where
  pub agree_opened : Agree h ts (open_book h ts s) s
  agree_opened =
      record {
        others = open_same h ts s ok.long;
        lines = λ k l u.
            record {
              used = word_use h ts s ok k;
              counts = word_count h ts s ok k;
              sold = word_sales h ts s ok k;
              opens = line_tokens h ts s ok k l u;
            };
      }

  -- a sound line is its words and its tokens
  line_is : (b : List ℕ) → Book h ts b → (k : ℕ) → number h (Line 0 0) ≤ k → k < records h
      → record_at k b ≡ filled (in_use (record_at k b)) 0 (count (record_at k b)) (sales (record_at k b)) (held (record_at k b))
  line_is b good k l u =
      record_is (record_at k b) (long_at h ts b good k u) (record_shaped h ts _ k (record_at k b) (good.1.each k u))
      ∙ ap (λ (a : ℕ). filled (in_use (record_at k b)) a (count (record_at k b)) (sales (record_at k b)) (held (record_at k b)))
      (line_at h ts b good k l u).no_amount

  pub agree_is_opened : (p : List ℕ) → sound h ts p ≡ true → Agree h ts p s → p ≡ open_book h ts s
  agree_is_opened p good a =
      let o : List ℕ = open_book h ts s in
      let same : Agree h ts (open_book h ts s) s = agree_opened in
      let bp : Book h ts p = sound_facts h ts p good in
      let bo : Book h ts (open_book h ts s) = opened_book h ts s ok in
      block_ext words (records h) p (open_book h ts s) bp.0 bo.0 (λ k u.
      ⊎_elim
      (λ (l : k < number h (Line 0 0)). a.others k l ∙ sym (same.others k l))
      (λ (l : number h (Line 0 0) ≤ k).
      let x : SameLine ts (record_at k p) (record_at k s) = a.lines k l u in
      let y : SameLine ts (record_at k (open_book h ts s)) (record_at k s) = same.lines k l u in
      line_is p bp k l u
      ∙ rw (x.used ∙ sym y.used, x.counts ∙ sym y.counts, x.sold ∙ sym y.sold, x.opens ∙ sym y.opens)
      (sym (line_is (open_book h ts s) bo k l u)))
      (below k (number h (Line 0 0))))
