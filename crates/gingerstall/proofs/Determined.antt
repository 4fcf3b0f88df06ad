-- Each promise of this crate determines its outcome: what a caller sees of a public function, its result and each lent cell
-- afterwards, is a value of the arguments.
use Prim.Native.Nat.{ℕ}
use mathlib.Core.List.{List}
use Rattle.rules.proofs.Determined.{Determined, determined, both}
use Rattle.gingerstall.proofs.Told.{unpacked}
use Rattle.gingerstall.proofs.gs_empty.Reads as gs_empty_call
use Rattle.gingerstall.proofs.gs_sound.Reads as gs_sound_call
use Rattle.gingerstall.proofs.gs_slip_sound.Reads as gs_slip_sound_call
use Rattle.gingerstall.proofs.gs_step.Reads as gs_step_call
use Rattle.gingerstall.proofs.gs_slip_step.Reads as gs_slip_step_call
use Rattle.gingerstall.proofs.gs_run.Reads as gs_run_call
use Rattle.gingerstall.proofs.gs_slip_run.Reads as gs_slip_run_call
use Rattle.gingerstall.proofs.gs_slip_open.Reads as gs_slip_open_call
use Rattle.gingerstall.proofs.gs_index_build.Reads as gs_index_build_call
use Rattle.gingerstall.proofs.gs_index_check.Reads as gs_index_check_call
use Rattle.gingerstall.proofs.gs_index_places.Reads as gs_index_places_call
use Rattle.gingerstall.proofs.gs_slip_open_indexed.Reads as gs_slip_open_indexed_call
use Rattle.gingerstall.proofs.gs_book_to_bytes.Reads as gs_book_to_bytes_call
use Rattle.gingerstall.proofs.gs_book_from_bytes.Reads as gs_book_from_bytes_call
use Rattle.gingerstall.proofs.gs_read.Reads as gs_read_call
use Rattle.gingerstall.proofs.gs_read_next.Reads as gs_read_next_call
use Rattle.gingerstall.proofs.gs_write.Reads as gs_write_call

gs_empty_determined : (κs : _) (a : _) → Determined {O = ℕ × List ℕ} (gs_empty_call.Learnt κs a) (λ z e. (z, e.0.now))
gs_empty_determined κs a = determined _ _ _ (λ z e p. both p.number p.cells)

gs_sound_determined : (κs : _) (a : _) → Determined (gs_sound_call.Learnt κs a) (λ z e. z)
gs_sound_determined κs a = determined _ _ _ (λ z e p. p)

gs_slip_sound_determined : (κs : _) (a : _) → Determined (gs_slip_sound_call.Learnt κs a) (λ z e. z)
gs_slip_sound_determined κs a = determined _ _ _ (λ z e p. p)

gs_step_determined : (κs : _) (a : _) → Determined {O = ℕ × List ℕ} (gs_step_call.Learnt κs a) (λ z e. (z, e.1.0.now))
gs_step_determined κs a = determined _ _ _ (λ z e p. both (unpacked p) p.cells)

gs_slip_step_determined : (κs : _) (a : _) → Determined {O = ℕ × List ℕ} (gs_slip_step_call.Learnt κs a) (λ z e. (z, e.1.0.now))
gs_slip_step_determined κs a = determined _ _ _ (λ z e p. both (unpacked p) p.cells)

gs_run_determined : (κs : _) (a : _) → Determined {O = ℕ × (List ℕ × (List ℕ × List ℕ))} (gs_run_call.Learnt κs a) (λ z e. (z, (e.1.0.now, (e.1.1.1.0.now, e.1.1.1.1.0.now))))
gs_run_determined κs a = determined _ _ _ (λ z e p. both p.answer (both p.book (both p.verdicts p.seconds)))

gs_slip_run_determined : (κs : _) (a : _) → Determined {O = ℕ × (List ℕ × (List ℕ × List ℕ))} (gs_slip_run_call.Learnt κs a) (λ z e. (z, (e.1.0.now, (e.1.1.1.0.now, e.1.1.1.1.0.now))))
gs_slip_run_determined κs a = determined _ _ _ (λ z e p. both p.answer (both p.book (both p.verdicts p.seconds)))

gs_slip_open_determined : (κs : _) (a : _) → Determined {O = ℕ × List ℕ} (gs_slip_open_call.Learnt κs a) (λ z e. (z, e.1.1.0.now))
gs_slip_open_determined κs a = determined _ _ _ (λ z e p. both p.number p.cells)

gs_index_build_determined : (κs : _) (a : _) → Determined {O = ℕ × List ℕ} (gs_index_build_call.Learnt κs a) (λ z e. (z, e.1.0.now))
gs_index_build_determined κs a = determined _ _ _ (λ z e p. both p.number p.cells)

gs_index_check_determined : (κs : _) (a : _) → Determined (gs_index_check_call.Learnt κs a) (λ z e. z)
gs_index_check_determined κs a = determined _ _ _ (λ z e p. p)

gs_index_places_determined : (κs : _) (a : _) → Determined {O = ℕ × List ℕ} (gs_index_places_call.Learnt κs a) (λ z e. (z, e.1.1.1.0.now))
gs_index_places_determined κs a = determined _ _ _ (λ z e p. both p.number p.cells)

gs_slip_open_indexed_determined : (κs : _) (a : _) → Determined {O = ℕ × List ℕ} (gs_slip_open_indexed_call.Learnt κs a) (λ z e. (z, e.1.1.1.0.now))
gs_slip_open_indexed_determined κs a = determined _ _ _ (λ z e p. both p.number p.cells)

gs_book_to_bytes_determined : (κs : _) (a : _) → Determined {O = ℕ × List ℕ} (gs_book_to_bytes_call.Learnt κs a) (λ z e. (z, e.1.0.now))
gs_book_to_bytes_determined κs a = determined _ _ _ (λ z e p. both p.number p.cells)

gs_book_from_bytes_determined : (κs : _) (a : _) → Determined {O = ℕ × List ℕ} (gs_book_from_bytes_call.Learnt κs a) (λ z e. (z, e.1.0.now))
gs_book_from_bytes_determined κs a = determined _ _ _ (λ z e p. both p.number p.cells)

gs_read_determined : (κs : _) (a : _) → Determined {O = ℕ × List ℕ} (gs_read_call.Learnt κs a) (λ z e. (z, e.1.1.0.now))
gs_read_determined κs a = determined _ _ _ (λ z e p. both p.number p.cells)

gs_read_next_determined : (κs : _) (a : _) → Determined (gs_read_next_call.Learnt κs a) (λ z e. z)
gs_read_next_determined κs a = determined _ _ _ (λ z e p. p)

gs_write_determined : (κs : _) (a : _) → Determined {O = ℕ × List ℕ} (gs_write_call.Learnt κs a) (λ z e. (z, e.1.1.1.1.1.0.now))
gs_write_determined κs a = determined _ _ _ (λ z e p. both p.number p.cells)
