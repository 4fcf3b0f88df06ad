-- What the program goes by: how far it has come, from an empty book on, and that the book is then known to be sound.
use mathlib.Core.Path.{◌≡◌, refl, sym, ap, ◌∙◌}
use Prim.Native.Nat.{◌≤◌}
use native.Mathlib.Omega.{arith}
use lib.ListN.{length-append}
use Rattle.rules.specs.Lists.{ℕ, ◌+◌, ◌*◌, ◌/◌, ◌%◌, true, List, [], ◌++◌, length, take}
use Rattle.rules.specs.Hall.{main_hall}
use Rattle.std.specs.Prelude.{Result, Ok, Err, OnErr, is_ok}
use Rattle.std.proofs.lemmas.Bool.{false≢true}
use Rattle.rules.specs.declared.refusal.Refusal.{Refusal}
use Rattle.rules.specs.Answers.{first, answer, Gives, verdict_of}
use Rattle.rules.specs.Form.{plain}
use Rattle.rules.specs.Sound.{good_list, fits, empty_book}
use Rattle.rules.specs.Bytes.{make_empty}
use Rattle.rules.specs.Verdicts.{steps}
use Rattle.rules.specs.Tape.{entries}
use Rattle.rules.specs.Walk.{list_of, read_list}
use Rattle.laws.proofs.Empty.{empty_sound}
use Rattle.laws.proofs.Reflect.{sound_facts}
use Rattle.laws.proofs.Runs.{good_list_lem}
use Rattle.rules.proofs.Words.{length_to_words}
use Rattle.keeps.proofs.Keeps.{plain_kept}
use Rattle.desk.specs.Known.{Known}
use Rattle.filing.proofs.Read.{list_good_lem, taken_good, taken_is}
use Rattle.listing.specs.Parts.{part_ran}
use Rattle.listing.proofs.Joined.{book_joined, still_known}
use Rattle.walk.specs.Reached.{Reached, Ended}

granted : (answer : Result (Unit {0}) Refusal) → is_ok answer ≡ true → verdict_of answer ≡ 0
granted (Ok done) e = refl
granted (Err why) e = absurd (false≢true e)

-- n bytes were read, and the list in them was taken
pub list_taken : (bs out : List ℕ) (n : ℕ) (answer : Result (Unit {0}) Refusal) (new : List ℕ) → n ≡ length bs → is_ok answer ≡ true
    → Gives (read_list bs out) (verdict_of answer) new
    → (n / 4 ≤ 4096) × (good_list (take (n / 4) new) ≡ true)
list_taken bs out n answer new size ok read =
    let z : verdict_of answer ≡ 0 = granted answer ok in
    let good : good_list (list_of bs) ≡ true = list_good_lem bs (taken_good bs out _ new read z) in (
      omega (arith, size, (good_list_lem (list_of bs) good).0, length_to_words (length bs / 4) bs),
      ap (λ (k : ℕ). good_list (take (k / 4) new)) size ∙ ap good_list (taken_is bs out _ new read z) ∙ good,
    )

-- a book of the right length was made empty
pub begins : (ts old new : List ℕ) → good_list ts ≡ true → length old ≡ 6372 → new ≡ (make_empty main_hall old).cells → Reached ts new 0
unfolding make_empty answer first fits steps entries
begins ts old new good long is = record { list = good; tape = []; long = refl; book = is ∙ rw long }

module _ (ts b : List ℕ) (bytes : ℕ) (so_far : Reached ts b bytes) where
  pub known : Known plain main_hall ts b
  known =
      still_known plain plain_kept main_hall ts (empty_book main_hall) (entries (length so_far.tape / 8) so_far.tape) b
      (record { customers = omega arith; benches = omega arith; good = empty_sound main_hall ts so_far.list })
      so_far.book

  pub book_long : length b ≡ 6372
  book_long = (sound_facts main_hall ts b known.good).0

  -- another part, behind whole records
  pub goes_on : (part b' : List ℕ) (n : ℕ) → bytes % 8 ≡ 0 → n ≡ length part → b' ≡ (part_ran plain main_hall ts b part).book → Reached ts b' (bytes + n)
  goes_on part b' n whole size is =
      let long : length so_far.tape % 8 ≡ 0 = ap (λ (k : ℕ). k % 8) so_far.long ∙ whole in
      record {
        list = so_far.list;
        tape = so_far.tape ++ part;
        long = simp length-append (omega (arith, so_far.long, size));
        book =
            is
            ∙ ap (λ (x : List ℕ). (part_ran plain main_hall ts x part).book) so_far.book
            ∙ sym (book_joined plain main_hall ts (empty_book main_hall) 0 so_far.tape part long);
      }

-- a part of at most 1,024 records from a place on
pub went : (ts b : List ℕ) (place n : ℕ) (part b' : List ℕ) → Reached ts b (8 * place) → n ≡ length part → n ≤ 8192
    → b' ≡ (part_ran plain main_hall ts b part).book
    → Reached ts b' (8 * place + n) × (n ≤ 8192)
went ts b place n part b' so_far size few is = (goes_on ts b (8 * place) so_far part b' n (omega arith) size is, few)

-- what was walked is the end where nothing comes behind it
pub stopped : {A E : Type 0} (r : Result A E) (ts b : List ℕ) (n : ℕ) → Reached ts b n → OnErr r (Ended ts b)
stopped (Ok x) ts b n at = tt
stopped (Err e) ts b n at = record { bytes = n; reached = at }
