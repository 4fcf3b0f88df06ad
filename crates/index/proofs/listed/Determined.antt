-- Each promise of this module determines its outcome: what a caller sees of a public function, its result and each lent cell
-- afterwards, is a value of the arguments.
use mathlib.Core.HLevel.{is_prop→PathP}
use Rattle.std.proofs.Common.{◌≡◌, refl, sym, ap, ◌∙◌, None, Some, is_some, ℕ, Bool, List, Option, Bor}
use Rattle.std.specs.Option.{ForSome}
use Rattle.std.proofs.Props.{props}
use Rattle.rules.specs.Lists.{true}
use Rattle.rules.specs.Index.{is_index}
use Rattle.rules.proofs.Determined.{Determined, determined, both}
use Rattle.rules.proofs.Tests.{never}
use Rattle.index.specs.declared.listed.Listed.{Listed}
use Rattle.index.proofs.listed.Listed.plain.Reads as plain_call
use Rattle.index.proofs.listed.Listed.with.Reads as with_call
use Rattle.index.proofs.listed.Listed.place_of.Reads as place_of_call
use Rattle.index.proofs.listed.Listed.all_among.Reads as all_among_call
use Rattle.index.proofs.listed.Listed.mark_tokens.Reads as mark_tokens_call

-- what is told of the index has one proof at most
same_listed : (x y : Listed) → x.list ≡ y.list → x.index ≡ y.index → x ≡ y
same_listed x y p q =
    λ i.
    record {
      list = p i;
      index = q i;
      own = is_prop→PathP (λ j. ForSome (q j) (λ k. is_index (p j).now k.now ≡ true)) (λ j. hlevel props) x.own y.own i;
    }

same_option : {l : Bor (List ℕ)} {k : Bor (List ℕ)} {b : Bool} (x y : Option Listed)
    → (is_some x ≡ b) × ForSome x (λ z. (z.list ≡ l) × (z.index ≡ Some k))
    → (is_some y ≡ b) × ForSome y (λ z. (z.list ≡ l) × (z.index ≡ Some k)) → x ≡ y
same_option None None p q = refl
same_option None (Some y) p q = never _ (sym q.0) (sym p.0)
same_option (Some x) None p q = never _ (sym p.0) (sym q.0)
same_option (Some x) (Some y) p q =
    let p' = p.1 x refl in
    let q' = q.1 y refl in
    ap Some (same_listed x y (p'.0 ∙ sym q'.0) (p'.1 ∙ sym q'.1))

plain_determined : (κs : _) (a : _) → Determined (plain_call.Learnt κs a) (λ z e. z)
plain_determined κs a = λ x y e e' p q. same_listed x y (p.0 ∙ sym q.0) (p.1 ∙ sym q.1)

with_determined : (κs : _) (a : _) → Determined (with_call.Learnt κs a) (λ z e. z)
with_determined κs a = λ x y e e' p q. same_option x y p q

place_of_determined : (κs : _) (a : _) → Determined (place_of_call.Learnt κs a) (λ z e. z)
place_of_determined κs a = determined _ _ _ (λ z e p. p)

all_among_determined : (κs : _) (a : _) → Determined (all_among_call.Learnt κs a) (λ z e. z)
all_among_determined κs a = determined _ _ _ (λ z e p. p)

mark_tokens_determined : (κs : _) (a : _) → Determined {O = Bool × List ℕ} (mark_tokens_call.Learnt κs a) (λ z e. (z, e.1.1.0.now))
mark_tokens_determined κs a = determined _ _ _ (λ z e p. both p.new p.bits)
