-- Each promise of this module determines its outcome: what a caller sees of a public function, its result and each lent cell
-- afterwards, is a value of the arguments.
use mathlib.Core.HLevel.{is_prop→PathP}
use Rattle.std.proofs.Common.{◌≡◌, refl, sym, ap, ◌∙◌, ◌*◌, ◌≤◌, None, Some, is_some, Bool, List, ℕ, length, Option, Bor}
use Rattle.std.proofs.Props.{props}
use Rattle.std.specs.Option.{ForSome}
use Rattle.rules.specs.declared.Hall.{Hall}
use Rattle.rules.specs.Hall.{records}
use Rattle.rules.specs.Records.{words}
use Rattle.rules.proofs.Determined.{Determined, determined}
use Rattle.rules.proofs.Tests.{never}
use Rattle.book.specs.declared.halls.HallBook.{HallBook}
use Rattle.book.proofs.halls.HallBook.of.Reads as of_call
use Rattle.book.proofs.halls.HallBook.record.Reads as record_call
use Rattle.book.proofs.halls.HallBook.word.Reads as word_call
use Rattle.book.proofs.halls.HallBook.tokens.Reads as tokens_call
use Rattle.book.proofs.halls.HallBook.carnet.Reads as carnet_call
use Rattle.book.proofs.halls.HallBook.view.Reads as view_call
use Rattle.book.proofs.halls.HallBook.bench_view.Reads as bench_view_call
use Rattle.book.proofs.halls.HallBook.till.Reads as till_call
use Rattle.book.proofs.halls.HallBook.line.Reads as line_call
use Rattle.book.proofs.halls.HallBook.records.Reads as records_call

-- what is told of the hall and the length has one proof at most
same_book : (x y : HallBook) → x.hall ≡ y.hall → x.pages ≡ y.pages → x ≡ y
same_book x y p q =
    λ i.
    record {
      hall = p i;
      pages = q i;
      customers = is_prop→PathP (λ j. (p j).customers ≤ 64) (λ j. hlevel props) x.customers y.customers i;
      benches = is_prop→PathP (λ j. (p j).benches ≤ 64) (λ j. hlevel props) x.benches y.benches i;
      long = is_prop→PathP (λ j. length (q j).now ≡ words * records (p j)) (λ j. hlevel props) x.long y.long i;
    }

same_option : {h : Hall} {p : Bor (List ℕ)} {b : Bool} (x y : Option HallBook)
    → (is_some x ≡ b) × ForSome x (λ z. (z.hall ≡ h) × (z.pages ≡ p))
    → (is_some y ≡ b) × ForSome y (λ z. (z.hall ≡ h) × (z.pages ≡ p)) → x ≡ y
same_option None None p q = refl
same_option None (Some y) p q = never _ (sym q.0) (sym p.0)
same_option (Some x) None p q = never _ (sym p.0) (sym q.0)
same_option (Some x) (Some y) p q =
    let p' = p.1 x refl in
    let q' = q.1 y refl in
    ap Some (same_book x y (p'.0 ∙ sym q'.0) (p'.1 ∙ sym q'.1))

of_determined : (κs : _) (a : _) → Determined (of_call.Learnt κs a) (λ z e. z)
of_determined κs a = λ x y e e' p q. same_option x y p q

record_determined : (κs : _) (a : _) → Determined (record_call.Learnt κs a) (λ z e. z.now)
record_determined κs a = determined _ _ _ (λ z e p. p)

word_determined : (κs : _) (a : _) → Determined (word_call.Learnt κs a) (λ z e. z)
word_determined κs a = determined _ _ _ (λ z e p. p)

tokens_determined : (κs : _) (a : _) → Determined (tokens_call.Learnt κs a) (λ z e. z.now)
tokens_determined κs a = determined _ _ _ (λ z e p. p)

carnet_determined : (κs : _) (a : _) → Determined (carnet_call.Learnt κs a) (λ z e. z)
carnet_determined κs a = determined _ _ _ (λ z e p. p)

view_determined : (κs : _) (a : _) → Determined (view_call.Learnt κs a) (λ z e. z)
view_determined κs a = determined _ _ _ (λ z e p. p)

bench_view_determined : (κs : _) (a : _) → Determined (bench_view_call.Learnt κs a) (λ z e. z)
bench_view_determined κs a = determined _ _ _ (λ z e p. p)

till_determined : (κs : _) (a : _) → Determined (till_call.Learnt κs a) (λ z e. z)
till_determined κs a = determined _ _ _ (λ z e p. p)

line_determined : (κs : _) (a : _) → Determined (line_call.Learnt κs a) (λ z e. z)
line_determined κs a = determined _ _ _ (λ z e p. p)

records_determined : (κs : _) (a : _) → Determined (records_call.Learnt κs a) (λ z e. z)
records_determined κs a = determined _ _ _ (λ z e p. p)
