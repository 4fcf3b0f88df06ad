-- By the index, a token that is among the first n has its place there.
use Rattle.index.proofs.listed.Among.{among_first}
use Rattle.index.proofs.listed.Listed.is_among.Goals as goal

pub returns-in-Some : goal.returns-in-Some
returns-in-Some c = among_first _ _ (c.args.self.own _ c.in-Some.is) _ _ c.look.ensures c.min.ensures
