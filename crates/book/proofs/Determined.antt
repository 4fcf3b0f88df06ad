-- Each promise of this crate determines its outcome: what a caller sees of a public function, its result and each lent cell
-- afterwards, is a value of the arguments.
use Rattle.rules.proofs.Determined.{Determined, determined}
use Rattle.book.proofs.record_at.Reads as record_at_call
use Rattle.book.proofs.in_use.Reads as in_use_call
use Rattle.book.proofs.amount.Reads as amount_call
use Rattle.book.proofs.count.Reads as count_call
use Rattle.book.proofs.sales.Reads as sales_call
use Rattle.book.proofs.handshake.Reads as handshake_call
use Rattle.book.proofs.cells.Reads as cells_call
use Rattle.book.proofs.tokens_of.Reads as tokens_of_call
use Rattle.book.proofs.word_of.Reads as word_of_call
use Rattle.book.proofs.tokens_at.Reads as tokens_at_call
use Rattle.book.proofs.carnet.Reads as carnet_call
use Rattle.book.proofs.view.Reads as view_call
use Rattle.book.proofs.bench_view.Reads as bench_view_call
use Rattle.book.proofs.till.Reads as till_call
use Rattle.book.proofs.line.Reads as line_call
use Rattle.book.proofs.records.Reads as records_call
use Rattle.book.proofs.book_words.Reads as book_words_call

record_at_determined : (κs : _) (a : _) → Determined (record_at_call.Learnt κs a) (λ z e. z.now)
record_at_determined κs a = determined _ _ _ (λ z e p. p)

in_use_determined : (κs : _) (a : _) → Determined (in_use_call.Learnt κs a) (λ z e. z)
in_use_determined κs a = determined _ _ _ (λ z e p. p)

amount_determined : (κs : _) (a : _) → Determined (amount_call.Learnt κs a) (λ z e. z)
amount_determined κs a = determined _ _ _ (λ z e p. p)

count_determined : (κs : _) (a : _) → Determined (count_call.Learnt κs a) (λ z e. z)
count_determined κs a = determined _ _ _ (λ z e p. p)

sales_determined : (κs : _) (a : _) → Determined (sales_call.Learnt κs a) (λ z e. z)
sales_determined κs a = determined _ _ _ (λ z e p. p)

handshake_determined : (κs : _) (a : _) → Determined (handshake_call.Learnt κs a) (λ z e. z)
handshake_determined κs a = determined _ _ _ (λ z e p. p)

cells_determined : (κs : _) (a : _) → Determined (cells_call.Learnt κs a) (λ z e. z.now)
cells_determined κs a = determined _ _ _ (λ z e p. p)

tokens_of_determined : (κs : _) (a : _) → Determined (tokens_of_call.Learnt κs a) (λ z e. z.now)
tokens_of_determined κs a = determined _ _ _ (λ z e p. p)

word_of_determined : (κs : _) (a : _) → Determined (word_of_call.Learnt κs a) (λ z e. z)
word_of_determined κs a = determined _ _ _ (λ z e p. p)

tokens_at_determined : (κs : _) (a : _) → Determined (tokens_at_call.Learnt κs a) (λ z e. z.now)
tokens_at_determined κs a = determined _ _ _ (λ z e p. p)

carnet_determined : (κs : _) (a : _) → Determined (carnet_call.Learnt κs a) (λ z e. z)
carnet_determined κs a = determined _ _ _ (λ z e p. p)

view_determined : (κs : _) (a : _) → Determined (view_call.Learnt κs a) (λ z e. z)
view_determined κs a = determined _ _ _ (λ z e p. p)

bench_view_determined : (κs : _) (a : _) → Determined (bench_view_call.Learnt κs a) (λ z e. z)
bench_view_determined κs a = determined _ _ _ (λ z e p. p)

till_determined : (κs : _) (a : _) → Determined (till_call.Learnt κs a) (λ z e. z)
till_determined κs a = determined _ _ _ (λ z e p. p)

line_determined : (κs : _) (a : _) → Determined (line_call.Learnt κs a) (λ z e. z)
line_determined κs a = determined _ _ _ (λ z e p. p)

records_determined : (κs : _) (a : _) → Determined (records_call.Learnt κs a) (λ z e. z)
records_determined κs a = determined _ _ _ (λ z e p. p)

book_words_determined : (κs : _) (a : _) → Determined (book_words_call.Learnt κs a) (λ z e. z)
book_words_determined κs a = determined _ _ _ (λ z e p. p)
