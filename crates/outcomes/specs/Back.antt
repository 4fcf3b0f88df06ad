-- There and back: the answer of a function that writes and then reads, or reads and then writes. In it stands, as what comes
-- back, the very thing that went out.
use Rattle.std.specs.Prelude.{◌≡◌, ◌∷◌, ◌++◌}
use Rattle.rules.specs.Lists.{ℕ, cond, not, eqb, List, [], length, take, drop}
use Rattle.rules.specs.declared.Hall.{Hall}
use Rattle.rules.specs.declared.Entry.{Entry}
use Rattle.rules.specs.Answers.{◌⇐◌, Answer, answer, Gives}
use Rattle.rules.specs.Bytes.{lengths}
use Rattle.rules.specs.Tape.{Reading, read_at, write_entry}

-- a book b, by way of bytes, into a lent book
unfoldable pub book_back : Hall → List ℕ → List ℕ → List ℕ → Answer
book_back h b bytes out = answer (lengths h b bytes ++ lengths h out bytes) b out

-- a book's bytes bs, by way of a lent book, into lent bytes
unfoldable pub bytes_back : Hall → List ℕ → List ℕ → List ℕ → Answer
bytes_back h bs book out = answer (lengths h book bs ++ lengths h book out) bs out

-- a tape record e, by way of lent bytes; where it is refused, what stood there is read
unfoldable pub record_back : Hall → Entry → List ℕ → Reading
record_back h e out =
    cond (eqb (write_entry h e out).number 0) (record { number = 0; entry = e; next = 8 }) (read_at h out 0)

-- the eight bytes at a place of a tape, by way of a record, into lent bytes
unfoldable pub eight_back : Hall → List ℕ → ℕ → List ℕ → Answer
eight_back h tape at out =
    let n = (read_at h tape at).number in
    answer ((n ⇐ not (eqb n 0)) ∷ (16 ⇐ not (eqb (length out) 8)) ∷ []) (take 8 (drop at tape)) out

-- what a promise says: the cells gone by, and what came back
pub record Back (by : List ℕ) (a : Answer) (between : List ℕ) (result : ℕ) (after : List ℕ) : Type 0 where
  pub way : between ≡ by
  pub back : Gives a result after

pub record RecordBack {R : Type 0} (by : List ℕ) (r : R) (between : List ℕ) (result : R) : Type 0 where
  pub way : between ≡ by
  pub back : result ≡ r
