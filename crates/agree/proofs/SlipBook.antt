-- The slip book, too, is kept sound; no tenant is touched by another's step or paid for another's sale; a clear follows on both
-- authentications; the yearly balance holds; a sale and a top up of 0 change nothing, a clear of an empty line the handshake alone.
use mathlib.Core.Path.{◌≡◌, refl, sym, ap, ◌∙◌, subst}
use native.Mathlib.Omega.{arith}
use Prim.Native.Nat.{◌<◌}
use Rattle.rules.specs.Lists.{ℕ, ◌*◌, List, take, drop, occ, sum_of}
use Rattle.rules.specs.Hall.{Carnet, View, BenchView, Till, Line, number, records, customer_views}
use Rattle.rules.specs.Records.{words, in_use, amount, sales, cells, held, filled, made, record_at}
use Rattle.rules.specs.Slips.{open_slips, slip_tokens, slip_pairs, slip_of, open_book, slip}
use Rattle.rules.specs.Steps.{dealt}
use Rattle.laws.proofs.Blocks.{block_long}
use Rattle.laws.proofs.Groups.{joined_same}
use Rattle.laws.proofs.Occurrences.{occ_joined}
use Rattle.laws.proofs.Made.{filled_is}
use Rattle.laws.proofs.Reflect.{Book}
use Rattle.laws.proofs.Books.{bare_at, line_at, list_different}
use Rattle.laws.proofs.Places.{inside_below}
use Rattle.laws.proofs.Opened.{open_same}
use Rattle.laws.proofs.ReflectSlips.{SlipSound, slip_sound_facts, SlipLine, slip_line_facts}
use Rattle.keeps.proofs.Keeps.{Kept, kept}
use Rattle.keeps.proofs.Nothing.{Tidies, Still, still, made_as_it_stands}
use Rattle.keeps.proofs.Origin.{Lines}
use Rattle.keeps.proofs.Tenants.{Tenants, tenants}
use Rattle.keeps.proofs.BenchViews.{Blank, Strangers, plain_strangers}
use Rattle.keeps.proofs.Handshake.{Handshakes, handshakes}
use Rattle.keeps.proofs.Credited.{Payables, book_payable}
use Rattle.keeps.proofs.Balance.{Balances, balances}
use Rattle.laws.proofs.SlipLines.{tokens_length}
use Rattle.agree.proofs.SameVerdict.{opened_book, word_use, word_amount, word_count, word_sales, dealt_small, count_small}
use Rattle.agree.proofs.SameStep.{slip_sold, slip_regular}
use Rattle.agree.proofs.SameRun.{slip_keeps, slip_money}
use Rattle.agree.proofs.WholeSlips.{slip_unsold}

pub slip_kept : Kept slip
slip_kept = kept slip slip_keeps

pub slip_lines : Lines slip
unfolding slip_tokens open_slips made filled sales
slip_lines =
    record {
      none = λ ts. (refl, refl);
      sold = λ h ts b e v k. (slip_sold h ts b e v k).opens;
      counted = λ h ts b g m c i.
          let ok : SlipSound h ts b = slip_sound_facts h ts b g in
          let k : ℕ = number h (Line m c) in
          let u : k < records h = inside_below h (Line m c) i in
          tokens_length ts (dealt b) (record_at k b) (dealt_small h ts b ok) (slip_line_facts ts (dealt b) (record_at k b) (ok.lines k (omega arith) u)) (count_small h ts b ok k u);
    }

pub slip_tenants : Tenants slip
slip_tenants = tenants slip slip_regular slip_lines

pub slip_strangers : Strangers slip
slip_strangers h ts b g m i out =
    let ok : SlipSound h ts b = slip_sound_facts h ts b g in
    subst Blank (open_same h ts b ok.long (number h (BenchView m)) (omega arith))
    (plain_strangers h ts (open_book h ts b) ok.opens m i (λ u. out (sym (word_use h ts b ok (number h (Till m))) ∙ u)))

pub slip_handshakes : Handshakes slip
slip_handshakes = handshakes slip slip_regular slip_strangers

slip_payables : Payables slip
slip_payables h ts b g =
    let ok : SlipSound h ts b = slip_sound_facts h ts b g in
    let o : List ℕ = open_book h ts b in
    let in_view : ℕ → List ℕ → ℕ → ℕ = λ t x k. occ t (held (record_at k x)) in
    let same : (t : ℕ) → sum_of (in_view t o) (customer_views h) ≡ sum_of (in_view t b) (customer_views h) =
    λ t.
    sym (occ_joined t (λ k. held (record_at k o)) (customer_views h))
    ∙ ap (occ t) (joined_same _ _ (number h (View 0)) h.customers (λ k l u. ap held (open_same h ts b ok.long k (omega (arith, u)))))
    ∙ occ_joined t (λ k. held (record_at k b)) (customer_views h) in
    record {
      list = list_different h ts o (opened_book h ts b ok);
      listed = λ t. omega (arith, book_payable h ts o (opened_book h ts b ok) t, same t, ap (λ (d : ℕ). occ t (drop d ts)) (word_amount h ts b ok 0));
    }

pub slip_balances : Balances slip
slip_balances = balances slip slip_regular slip_strangers slip_unsold slip_payables slip_money

-- all records but the lines are those of the opened book
slip_tidies : Tidies slip
unfolding slip_of slip_pairs slip_tokens open_slips
slip_tidies h ts b g =
    let ok : SlipSound h ts b = slip_sound_facts h ts b g in
    let o : List ℕ = open_book h ts b in
    let okay : Book h ts (open_book h ts b) = opened_book h ts b ok in
    let same : (k : ℕ) → k < number h (Line 0 0) → record_at k (open_book h ts b) ≡ record_at k b = open_same h ts b ok.long in
    record {
      no_sale = refl;
      made_at = λ k l u.
          subst (λ (r : List ℕ). in_use r ≡ 1 → r ≡ made (amount r) 0 (held r)) (same k (omega (arith, u))) (made_as_it_stands h ts o okay k l u);
      no_amount = λ k l u. sym (ap amount (same k (omega (arith, u)))) ∙ (bare_at h ts o okay k l u).0;
      joined = λ c l.
          sym (ap in_use (same (number h (Carnet c)) (omega (arith, l))))
          ∙ okay.1.parties.customers c l
          ∙ ap in_use (same (number h (View c)) (omega (arith, l)));
      filled_at = λ k l u i.
          let s : SlipLine ts (dealt b) (record_at k b) = slip_line_facts ts (dealt b) (record_at k b) (ok.lines k l u) in
          let a : amount (record_at k b) ≡ 0 = sym (word_amount h ts b ok k) ∙ (line_at h ts o okay k l u).no_amount in
          filled_is (record_at k b) (2 * sales (record_at k b)) (block_long words k b (omega (arith, ok.long, u))) (omega (arith, s.few)) s.past
          ∙ rw (i, a);
      emptied = λ k l u z.
          let n : sales (record_at k b) ≡ 0 =
          omega (arith, (line_at h ts o okay k l u).sold, word_sales h ts b ok k, word_count h ts b ok k) in
          (n, ap (λ (x : ℕ). open_slips ts x (cells (record_at k b))) n, ap (λ (x : ℕ). take (2 * x) (cells (record_at k b))) n);
    }

pub slip_still : Still slip
slip_still = still slip slip_regular slip_tidies
