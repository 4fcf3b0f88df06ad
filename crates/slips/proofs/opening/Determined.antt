-- Each promise of this module determines its outcome: what a caller sees of a public function, its result and each lent cell
-- afterwards, is a value of the arguments.
use Rattle.rules.proofs.Determined.{Determined, determined}
use Rattle.slips.proofs.opening.part_by.Reads as part_by_call
use Rattle.slips.proofs.opening.slip_part.Reads as slip_part_call
use Rattle.slips.proofs.opening.open_slips.Reads as open_slips_call
use Rattle.slips.proofs.opening.open_all.Reads as open_all_call

part_by_determined : (κs : _) (a : _) → Determined (part_by_call.Learnt κs a) (λ z e. z.now)
part_by_determined κs a = determined _ _ _ (λ z e p. p)

slip_part_determined : (κs : _) (a : _) → Determined (slip_part_call.Learnt κs a) (λ z e. z.now)
slip_part_determined κs a = determined _ _ _ (λ z e p. p)

open_slips_determined : (κs : _) (a : _) → Determined (open_slips_call.Learnt κs a) (λ z e. e.1.1.1.0.now)
open_slips_determined κs a = determined _ _ _ (λ z e p. p)

open_all_determined : (κs : _) (a : _) → Determined (open_all_call.Learnt κs a) (λ z e. e.1.1.0.now)
open_all_determined κs a = determined _ _ _ (λ z e p. p)
