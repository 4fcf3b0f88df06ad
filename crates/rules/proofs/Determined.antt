-- What it is for a promise to determine its outcome: of two outcomes that it permits for the same arguments, what a caller sees
-- is the same, the result and each lent cell afterwards. One theorem over the shape that the promises have, an equation with a
-- value of the arguments; each crate shows its public functions of that shape (`proofs/Determined` there).
use mathlib.Core.Path.{◌≡◌, refl, sym, ap, ◌∙◌}
use Rattle.std.specs.Prelude.{Result, Ok, Err, IfOk}
use Rattle.rules.specs.Lists.{ℕ, cond, eqb, leb, ◌&&◌, get_or, List, [], ◌∷◌, ◌-◌}
use Rattle.rules.specs.declared.refusal.Refusal.{Refusal}
use Rattle.rules.specs.declared.refusal.Refusal.TheVariants.{Unsound, Malformed, NotInHall, InAlready, NotJoined, NotOpen, AboveBound, OverBudget, ViewFull, ListSpent, CarnetShort, LineFull, NoToken, Unlike, DeadToken, CutShort, NoHandshake}
use Rattle.rules.specs.declared.kind.Kind.{Kind}
use Rattle.rules.specs.declared.kind.Kind.TheVariants.{JoinCustomer, JoinBench, OpenLine, Update, Stock, Sell, BenchAuthenticates, DeskAuthenticates, Clear, TopUp, ClearLiving}
use Rattle.rules.specs.Answers.{number_of, refusal_at, verdict_of}
use Rattle.rules.specs.Tape.{kind_of, last_kind, OfNumber}
use Rattle.rules.specs.Verdicts.{Stepped, Reply, verdict_in, second_in, StepGives}

-- L permits a result z and parameters e at exit; of these a caller sees what `seen` takes from them
abbrev pub Determined : {Z E O : Type 0} → (Z → E → Type 0) → (Z → E → O) → Type 0
Determined {Z} {E} {O} L seen = (z z' : Z) (e e' : E) → L z e → L z' e' → seen z e ≡ seen z' e'

pub determined : {Z E O : Type 0} (L : Z → E → Type 0) (seen : Z → E → O) (value : O) → ((z : Z) (e : E) → L z e → seen z e ≡ value) → Determined L seen
determined L seen value is z z' e e' p q = is z e p ∙ sym (is z' e' q)

pub both : {A B : Type 0} {x x' : A} {y y' : B} → x ≡ x' → y ≡ y' → ◌≡◌ {A = A × B} (x, y) (x', y')
both p q = rw (p, q)

-- ---- a verdict's number is the answer's: no two refusals have the same
-- x where it is granted
abbrev pub answer_at : {A : Type 0} → A → ℕ → Result A Refusal
answer_at x n = cond (eqb n 0) (Ok x) (Err (refusal_at n))

refused_back : {A : Type 0} (x : A) (why : Refusal) → answer_at x (number_of why) ≡ Err why
refused_back x Unsound = refl
refused_back x Malformed = refl
refused_back x NotInHall = refl
refused_back x InAlready = refl
refused_back x NotJoined = refl
refused_back x NotOpen = refl
refused_back x AboveBound = refl
refused_back x OverBudget = refl
refused_back x ViewFull = refl
refused_back x ListSpent = refl
refused_back x CarnetShort = refl
refused_back x LineFull = refl
refused_back x NoToken = refl
refused_back x Unlike = refl
refused_back x DeadToken = refl
refused_back x CutShort = refl
refused_back x NoHandshake = refl

pub answered_with : {A : Type 0} (x : A) {n : ℕ} (r : Result A Refusal) → verdict_of r ≡ n → IfOk r (λ y. y ≡ x) → r ≡ answer_at x n
answered_with x (Ok y) e q = rw (sym e, q)
answered_with x (Err why) e q = sym (refused_back x why) ∙ ap (λ (n : ℕ). answer_at x n) e

-- what a call answers that is granted or refused, and no more
abbrev pub Verdict : Type 0
Verdict = Result (Unit {0}) Refusal

pub answered : {r : Result (Unit {0}) Refusal} {n : ℕ} → verdict_of r ≡ n → r ≡ answer_at tt n
answered {r = Ok done} e = answered_with tt (Ok done) e refl
answered {r = Err why} e = answered_with tt (Err why) e tt

-- ---- and so is a kind's
abbrev kinds : List Kind
kinds =
    JoinCustomer ∷ JoinBench ∷ OpenLine ∷ Update ∷ Stock ∷ Sell ∷ BenchAuthenticates ∷ DeskAuthenticates ∷ Clear ∷ TopUp ∷ ClearLiving ∷ []

abbrev pub kind_at : ℕ → Kind
kind_at n = get_or kinds (n - 1) JoinCustomer

kind_back : (k : Kind) → k ≡ kind_at (kind_of k)
kind_back JoinCustomer = refl
kind_back JoinBench = refl
kind_back OpenLine = refl
kind_back Update = refl
kind_back Stock = refl
kind_back Sell = refl
kind_back BenchAuthenticates = refl
kind_back DeskAuthenticates = refl
kind_back Clear = refl
kind_back TopUp = refl
kind_back ClearLiving = refl

-- the kind of a number, or that it names none
abbrev pub kind_of_number : ℕ → Result Kind Refusal
kind_of_number n = cond (leb 1 n && leb n last_kind) (Ok (kind_at n)) (Err Malformed)

kind_found : (k : Kind) → ◌≡◌ {A = Result Kind Refusal} (Ok k) (kind_of_number (kind_of k))
kind_found JoinCustomer = refl
kind_found JoinBench = refl
kind_found OpenLine = refl
kind_found Update = refl
kind_found Stock = refl
kind_found Sell = refl
kind_found BenchAuthenticates = refl
kind_found DeskAuthenticates = refl
kind_found Clear = refl
kind_found TopUp = refl
kind_found ClearLiving = refl

pub of_number : (n : ℕ) (r : Result Kind Refusal) → OfNumber n r → r ≡ kind_of_number n
of_number n (Ok k) is = kind_found k ∙ ap (λ (n : ℕ). kind_of_number n) is
of_number n (Err why) none = rw (none.0, none.1) refl

pub named : (n : ℕ) (r : Result Kind Refusal) → IfOk r (λ k. kind_of k ≡ n) → IfOk r (λ k. k ≡ kind_at n)
named n (Ok k) q = kind_back k ∙ ap (λ (n : ℕ). kind_at n) q
named n (Err why) q = tt

-- and both numbers of a step's reply are the definition's
abbrev reply_from : Result (Unit {0}) Refusal → ℕ → Reply
reply_from (Ok done) second = Ok second
reply_from (Err why) second = Err (record { why = why; second = second })

abbrev pub reply_at : ℕ → ℕ → Reply
reply_at n second = reply_from (answer_at tt n) second

reply_back : (r : Reply) → reply_at (verdict_in r) (second_in r) ≡ r
reply_back (Ok second) = refl
reply_back (Err refused) = ap (λ (a : Result (Unit {0}) Refusal). reply_from a refused.second) (refused_back tt refused.why)

pub replied : {s : Stepped} {r : Reply} {after : List ℕ} → StepGives s r after → r ≡ reply_at s.number s.second
replied {s} {r} g =
    sym (reply_back r)
    ∙ ap (λ (n : ℕ). reply_at n (second_in r)) g.number
    ∙ ap (λ (n : ℕ). reply_at s.number n) g.second

pub same_reply : {r q : Reply} → verdict_in r ≡ verdict_in q → second_in r ≡ second_in q → r ≡ q
same_reply {r} {q} v x =
    sym (reply_back r)
    ∙ ap (λ (n : ℕ). reply_at n (second_in r)) v
    ∙ ap (λ (n : ℕ). reply_at (verdict_in q) n) x
    ∙ reply_back q
