-- Numbers 2 and 3 where it is given which of the three fields the record's kind uses.
use Rattle.std.specs.Prelude.{◌&&◌, ◌||◌}
use Rattle.rules.specs.Lists.{Bool, not, ltb, eqb}
use Rattle.rules.specs.declared.Entry.{Entry}
use Rattle.rules.specs.declared.Hall.{Hall}

unfoldable pub formed : Entry → Bool → Bool → Bool → Bool
formed e bench customer amount =
    eqb e.byte3 0 && (bench || eqb e.bench 0) && (customer || eqb e.customer 0) && (amount || eqb e.amount 0)

unfoldable pub placed : Hall → Entry → Bool → Bool → Bool
placed h e bench customer = (not bench || ltb e.bench h.benches) && (not customer || ltb e.customer h.customers)
