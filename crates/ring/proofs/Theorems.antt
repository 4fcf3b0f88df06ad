-- What an index is worth.
--     lookups-agree   a look-up in the index of a good list gives the place that the list gives
--     index-lookup    the same of an index that is tested
--     check-exact     the list is good and the index is its own, just where the index passes a check that needs no second one
use mathlib.Core.Path.{◌≡◌, sym, ap, ◌∙◌}
use mathlib.Core.Logic.{◌↔◌}
use borrow.Author.Tests.{le-leb}
use Rattle.rules.specs.Lists.{ℕ, true, List, length, place_of, same_list}
use Rattle.rules.specs.Sound.{good_list}
use Rattle.rules.specs.Index.{entered, is_index}
use Rattle.rules.proofs.Tests.{and_left, and_right, true_and}
use Rattle.laws.proofs.Runs.{same_list_lem, list_same, good_list_lem}
use Rattle.ring.specs.Walk.{lookup}
use Rattle.ring.proofs.Fits.{Fits, fits_entered, fits_different, fits_lookup}
use Rattle.ring.proofs.Built.{entered_fits}

good_fits : (ts : List ℕ) → good_list ts ≡ true → Fits ts (entered ts (length ts))
good_fits ts g = entered_fits ts (good_list_lem ts g).0 (good_list_lem ts g).1

module _ (ts xs : List ℕ) where
  abbrev own : List ℕ
  own = entered ts (length ts)

  pub index_fits : is_index ts xs ≡ true → Fits ts xs
  unfolding is_index
  index_fits e =
      let q : xs ≡ own = same_list_lem xs own (and_right (good_list ts) (same_list xs own) e) in
      rw q (good_fits ts (and_left (good_list ts) (same_list xs own) e))

  pub fits_index : Fits ts xs → is_index ts xs ≡ true
  unfolding is_index good_list
  fits_index f =
      true_and _ _ (true_and _ _ (le-leb (length ts) 4096 f.few) (fits_different ts xs f))
      (ap (same_list xs) (sym (fits_entered ts xs f)) ∙ list_same xs)

  pub index_lookup : is_index ts xs ≡ true → (t : ℕ) → lookup ts xs t ≡ place_of t ts
  index_lookup e = fits_lookup ts xs (index_fits e)

  pub check_exact : (is_index ts xs ≡ true) ↔ Fits ts xs
  check_exact = (index_fits, fits_index)

pub lookups_agree : (ts : List ℕ) → good_list ts ≡ true → (t : ℕ) → lookup ts (entered ts (length ts)) t ≡ place_of t ts
lookups_agree ts g = fits_lookup ts (entered ts (length ts)) (good_fits ts g)
