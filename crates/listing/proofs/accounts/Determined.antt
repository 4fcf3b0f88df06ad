-- Each promise of this module determines its outcome: what a caller sees of a public function, its result and each lent cell
-- afterwards, is a value of the arguments.
use Prim.Native.Nat.{ℕ}
use mathlib.Core.List.{List}
use Rattle.rules.proofs.Determined.{Determined, determined, both}
use Rattle.listing.proofs.accounts.put_accounts.Reads as put_accounts_call

put_accounts_determined : (κs : _) (a : _) → Determined {O = ℕ × List ℕ} (put_accounts_call.Learnt κs a) (λ z e. (z, e.0.now))
put_accounts_determined κs a = determined _ _ _ (λ z e p. both p.0 p.1)
