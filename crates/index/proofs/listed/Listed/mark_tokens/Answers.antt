-- The places of the tokens left, marked on the map as it stands, give what all of them give on the map lent.
use Rattle.std.proofs.Common.{arith, rules}
use Rattle.rules.specs.Lists.{is_in}
use Rattle.laws.proofs.Runs.{stands_at}
use Rattle.laws.proofs.Spots.{place_listed}
use Rattle.laws.proofs.Tokens.{every_in}
use Rattle.tokens.proofs.map.Going.{onward_one, onward_all}
use Rattle.index.proofs.listed.Turns.{places_next, places_end}
use Rattle.index.proofs.listed.Listed.mark_tokens.Goals as goal

-- the token looked up is in the list
pub mark-fresh-requires : goal.mark-fresh-requires
mark-fresh-requires c =
    let listed = every_in (λ t. is_in t c.args.self.list.now) _ c.requires.2 _ (stands_at _ _ c.loop-t-test.true) in
    (search rules, omega (arith, c.place_of.ensures, c.requires.1, place_listed _ c.args.self.list.now listed))

pub loop-t-preserved : goal.loop-t-preserved
loop-t-preserved c =
    onward_one c.loop-t.invariant _ _ (places_next _ _ _ c.loop-t-test.true c.place_of.ensures) c.mark-fresh.ensures.0 c.mark-fresh.ensures.1

pub returns : goal.returns
returns c = onward_all c.loop-t.invariant (places_end _ _ _ c.loop-t-test.false)
