-- The tape: records of 8 bytes, the kinds and what they use, what is refused of a record by itself, reader and writer.
use Rattle.std.specs.Prelude.{◌+◌, ◌&&◌, ◌||◌, ◌∷◌, ◌++◌}
use Rattle.rules.specs.Lists.{ℕ, zero, suc, Bool, false, cond, not, leb, ltb, eqb, List, [], length, drop, get_or, is_in}
use Rattle.rules.specs.Hall.{Hall}
use Rattle.rules.specs.Answers.{Rule, ◌⇐◌, first, Answer, answer}
use Rattle.rules.specs.Bytes.{bytes_of, word_of}
use Rattle.std.specs.Prelude.{◌≡◌, Result, MatchResult}
use Rattle.rules.specs.declared.refusal.Refusal.{Refusal}
use Rattle.rules.specs.declared.refusal.Refusal.TheVariants.{Malformed}
pub use Rattle.rules.specs.declared.Entry.{Entry}
pub use Rattle.rules.specs.declared.kind.Kind.{Kind}
pub use Rattle.rules.specs.declared.kind.Kind.TheVariants.{JoinCustomer, JoinBench, OpenLine, Update, Stock, Sell, BenchAuthenticates, DeskAuthenticates, Clear, TopUp, ClearLiving}

-- ---- a record's five fields in its bytes
unfoldable pub entry_of : List ℕ → Entry
entry_of bs =
    record {
      kind = get_or bs 0 0;
      bench = get_or bs 1 0;
      customer = get_or bs 2 0;
      byte3 = get_or bs 3 0;
      amount = word_of (drop 4 bs);
    }

unfoldable pub eight_bytes : Entry → List ℕ
eight_bytes e = e.kind ∷ e.bench ∷ e.customer ∷ e.byte3 ∷ bytes_of e.amount

-- ---- the kinds
abbrev pub kind_of : Kind → ℕ
kind_of JoinCustomer = 1
kind_of JoinBench = 2
kind_of OpenLine = 3
kind_of Update = 4
kind_of Stock = 5
kind_of Sell = 6
kind_of BenchAuthenticates = 7
kind_of DeskAuthenticates = 8
kind_of Clear = 9
kind_of TopUp = 10
kind_of ClearLiving = 11

-- they are numbered from 1 to this
abbrev pub last_kind : ℕ
last_kind = 11

-- the kind that a number names, or a refusal where it names none
abbrev pub OfNumber : ℕ → Result Kind Refusal → Type 0
OfNumber n r = MatchResult r (λ k. kind_of k ≡ n) (λ why. (why ≡ Malformed) × (leb 1 n && leb n last_kind ≡ false))

abbrev pub is : Entry → Kind → Bool
is e k = eqb e.kind (kind_of k)

-- either clear: of a whole line, and of what lives in it
abbrev pub clears : ℕ → Bool
clears k = eqb k (kind_of Clear) || eqb k (kind_of ClearLiving)

-- the kinds that use a field
abbrev pub uses_bench : ℕ → Bool
uses_bench k = is_in k (2 ∷ 3 ∷ 5 ∷ 6 ∷ 7 ∷ 8 ∷ 9 ∷ 11 ∷ [])

abbrev pub uses_customer : ℕ → Bool
uses_customer k = is_in k (1 ∷ 3 ∷ 4 ∷ 6 ∷ 9 ∷ 10 ∷ 11 ∷ [])

abbrev pub uses_amount : ℕ → Bool
uses_amount k = is_in k (1 ∷ 4 ∷ 5 ∷ 6 ∷ 10 ∷ [])

-- ---- numbers 2 and 3, of a record by itself
-- the kind is one of these; byte 3 is zero, and so is a field that the kind doesn't use
unfoldable pub well_formed : Entry → Bool
well_formed e =
    leb 1 e.kind && leb e.kind last_kind && eqb e.byte3 0
    && (uses_bench e.kind || eqb e.bench 0)
    && (uses_customer e.kind || eqb e.customer 0)
    && (uses_amount e.kind || eqb e.amount 0)

-- a bench and a customer that are used are numbers of the hall
unfoldable pub in_hall : Hall → Entry → Bool
in_hall h e =
    (not (uses_bench e.kind) || ltb e.bench h.benches) && (not (uses_customer e.kind) || ltb e.customer h.customers)

unfoldable pub entry_rules : Hall → Entry → List Rule
entry_rules h e = (2 ⇐ not (well_formed e)) ∷ (3 ⇐ not (in_hall h e)) ∷ []

-- ---- the reader: its answer, the record handed back, and its place afterwards
pub record Reading : Type 0 where
  pub number : ℕ
  pub entry : Entry
  pub next : ℕ

-- a refused record is passed over as a good one is; where no whole record stands, the place is kept and zeros are handed back
unfoldable pub read_at : Hall → List ℕ → ℕ → Reading
read_at h tape at =
    let e = entry_of (drop at tape) in
    cond (leb (at + 8) (length tape))
    (record { number = first (entry_rules h e); entry = e; next = at + 8 })
    (record { number = 16; entry = entry_of []; next = at })

-- the writer refuses what reading would refuse, and a part that isn't 8 bytes
unfoldable pub write_entry : Hall → Entry → List ℕ → Answer
write_entry h e out = answer (entry_rules h e ++ (16 ⇐ not (eqb (length out) 8)) ∷ []) (eight_bytes e) out

-- the first n records of a tape
unfoldable pub entries : ℕ → List ℕ → List Entry
entries zero tape = []
entries (suc n) tape = entry_of tape ∷ entries n (drop 8 tape)
