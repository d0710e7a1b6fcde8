use Rattle.std.proofs.Common.{cond, refl, ap, ◌∙◌, rules}
use Rattle.lists.specs.Words.{member}
use Rattle.sets.specs.Sets.{bases}
use Rattle.sets.specs.Rising.{bases_left}
use Rattle.sets.proofs.Bases.{first_below}
use Rattle.stock.proofs.Bounds.{amounts_in-zeros}
use Rattle.stock.proofs.by_set.read_set.Goals as goal

pub loop-base-init : goal.loop-base-init
loop-base-init g c =
    let all = ap bases_left c.into_iter-base-iterator.ensures.into_iter_gives ∙ c.rising_bases-base-items.ensures in
    (refl, λ x. rw all (ap (λ n. cond (member x (bases c.args.set)) ((g.B.Book.holds c.args.book.now).amounts x) n) (amounts_in-zeros x)))

pub unwrap-requires : goal.unwrap-requires
unwrap-requires g c = let small = first_below c.loop-base.base-iterator.left _ c.in-Some.base c.in-Some.ensures.steps in search rules
