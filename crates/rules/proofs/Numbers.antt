-- The main hall's numbers, as document 01's table has them.
use mathlib.Core.Path.{◌≡◌, refl}
use Rattle.rules.specs.Lists.{◌*◌}
use Rattle.rules.specs.Hall.{main_hall, Desk, Carnet, View, BenchView, Till, Line, number, records}
use Rattle.rules.specs.Records.{words}

-- of the first and the last record of each group
record Numbers : Type 0 where
  desk : number main_hall Desk ≡ 0
  carnets : (number main_hall (Carnet 0) ≡ 1) × (number main_hall (Carnet 15) ≡ 16)
  views : (number main_hall (View 0) ≡ 17) × (number main_hall (View 15) ≡ 32)
  bench_views : (number main_hall (BenchView 0) ≡ 33) × (number main_hall (BenchView 7) ≡ 40)
  tills : (number main_hall (Till 0) ≡ 41) × (number main_hall (Till 7) ≡ 48)
  lines : (number main_hall (Line 0 0) ≡ 49) × (number main_hall (Line 7 15) ≡ 176)
  in_all : records main_hall ≡ 177
  in_words : words * records main_hall ≡ 6372
  in_bytes : 4 * (words * records main_hall) ≡ 25488

numbers : Numbers
numbers =
    record {
      desk = refl;
      carnets = (refl, refl);
      views = (refl, refl);
      bench_views = (refl, refl);
      tills = (refl, refl);
      lines = (refl, refl);
      in_all = refl;
      in_words = refl;
      in_bytes = refl;
    }
