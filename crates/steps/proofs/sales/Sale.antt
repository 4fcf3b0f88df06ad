-- A sale, by the numbers found: the number given, room for what is sold once it is granted, and the book afterwards.
use mathlib.Core.Path.{◌≡◌, sym, ap, ◌∙◌}
use Prim.Native.Nat.{◌≤◌}
use native.Mathlib.Omega.{arith}
use lib.ListN.{length-append}
use Rattle.rules.specs.declared.Hall.{Hall}
use Rattle.rules.specs.declared.Entry.{Entry}
use Rattle.rules.specs.Lists.{ℕ, ◌-◌, List, ◌++◌, length, replicate}
use Rattle.rules.specs.Hall.{most_held, Carnet, number}
use Rattle.rules.specs.Answers.{Rule, first, answer}
use Rattle.rules.specs.Records.{words, count, sales, filled}
use Rattle.rules.specs.Form.{Form}
use Rattle.rules.specs.Steps.{the_carnet, the_line, sold_line, selling, put_all}
use Rattle.rules.specs.Verdicts.{Stepped, verdict}
use Rattle.rules.proofs.Granted.{sell_enough, sell_room}
use Rattle.rules.proofs.Stepping.{step_verdict}
use Rattle.kinds.specs.Chains.{sale_rules}
use Rattle.changes.specs.Sales.{sold_cells, sold, Room}
use Rattle.kinds.specs.Kinds.{known_line, sell}
use Rattle.kinds.proofs.Table.{step_sell}
use Rattle.steps.specs.declared.sales.Spots.{Spots}
use Rattle.steps.specs.Spots.{spots_of, known_at, sale_at}
use Rattle.steps.proofs.Found.{neat}
use Rattle.steps.proofs.sales.Stood.{Case, inside, ready, all_stand, few_sales}

-- a whole record has no more cells filled than it has
cells_few : (u a n s : ℕ) (cs : List ℕ) → length (filled u a n s cs) ≡ words → length cs ≤ most_held
unfolding filled
cells_few u a n s cs e = omega (arith, e, length-append cs (replicate (most_held - length cs) 0))

-- the chain of a sale, as the rules have it
abbrev pub sale_chain : Hall → List ℕ → Entry → List Rule
sale_chain h b e = known_line h b e ++ sale_rules (count (the_carnet h b e)) (count (the_line h b e)) (sales (the_line h b e)) e.amount

module _ {f : Form} {h : Hall} {ts b : List ℕ} {e : Entry} {at : Spots} (case : Case f h ts b e 6 at) where
  pub sale_number : (r : ℕ) → r ≡ first (sale_at b at e.amount) → r ≡ first (sale_chain h b e)
  unfolding sale_at known_at known_line
  sale_number r n = n ∙ ap (λ (s : Spots). first (sale_at b s e.amount)) case.found

  pub sale_written : (new : List ℕ) → new ≡ sold f b at.carnet at.line e.amount → new ≡ put_all h (selling h b e f) b
  unfolding sold sold_cells put_all selling sold_line
  sale_written new w = w ∙ ap (λ (s : Spots). sold f b s.carnet s.line e.amount) case.found

  module _ (r : ℕ) (n : r ≡ first (sale_at b at e.amount)) (zero : r ≡ 0) where
    granted : verdict f h ts b e ≡ 0
    unfolding sell answer
    granted =
        sym (step_verdict f h ts b e) ∙ ap (λ (s : Stepped). s.number) (step_sell f h ts b e case.passed case.placed.kind) ∙ sym (sale_number r n) ∙ zero

    whole : length (sold_cells f b (spots_of h e).carnet (spots_of h e).line e.amount) ≤ most_held
    unfolding sold_cells sold_line
    whole = cells_few 1 0 _ _ _ (case.works.regular.whole h ts b e granted case.placed.kind)

    pub sale_room : Room f b at.carnet at.line e.amount
    sale_room =
        record {
          line_inside = (all_stand case).line;
          apart = rw case.found (omega (arith, (inside case).1));
          carnet_neat =
              rw case.found
              (neat h b e 6 case.placed (ready case).tidy (number h (Carnet e.customer)) (omega (arith, (inside case).1)));
          enough = rw case.found (sell_enough f h ts b e granted case.placed.kind);
          line_past =
              rw case.found
              (case.works.line_past h ts b case.passed.good e.bench e.customer (inside case));
          cells = rw case.found whole;
          tokens = rw case.found (sell_room f h ts b e granted case.placed.kind);
          sales = few_sales case;
        }
