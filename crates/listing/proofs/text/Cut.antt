-- The line that says that the last record was cut.
use mathlib.Core.Path.{◌≡◌, refl}
use native.Mathlib.Omega.{arith}
use borrow.Author.Tests.{eq-eqb, ne_eqb}
use borrow.Rule.Slice.PartMut.{put_mid, Post-is}
use Rattle.rules.specs.Lists.{ℕ, ◌+◌, ◌-◌, ◌%◌, List, [], ◌∷◌}
use Rattle.rules.specs.Listing.{cut_line}
use Rattle.listing.specs.Written.{written}
use Rattle.listing.proofs.text.Writing.{Wrote, nothing}

module _ (at bytes : ℕ) (out : List ℕ) where
  pub wrote_whole : bytes % 8 ≡ 0 → Wrote at (cut_line bytes) out at out
  unfolding cut_line
  wrote_whole z = rw (eq-eqb (bytes % 8) 0 z) (nothing at out)

  pub wrote_cut : (bytes % 8 ≡ 0 → ⊥) → (text : List ℕ) → text ≡ 99 ∷ 117 ∷ 116 ∷ 10 ∷ []
      → Wrote at (cut_line bytes) out (at + 4) (put_mid at (at + 4 - at) out text)
  unfolding cut_line written
  wrote_cut n text is = rw (ne_eqb (bytes % 8) 0 n, Post-is at (at + 4) out (omega arith), is) (refl, refl)
